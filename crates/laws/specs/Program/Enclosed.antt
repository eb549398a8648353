-- Enclosed: of an accepted program no exit ends a loop around a root, or around a parallel that it stands in; and a root calls only procedures below
-- it. Assumes nothing.
use Rattle.std.specs.Prelude.{◌≡◌, refl, Bool, true, false, not, ◌||◌, List, [], ◌∷◌, ℕ, zero, suc, ◌+◌, ◌<◌, leb, length, get_or}
use Rattle.std.proofs.Common.{ap₂, add-zero, zero-add, le_of_suc-le-suc, arith, leb-false}
use Rattle.model.specs.declared.Options.{Options}
use Rattle.model.specs.Refusals.{refuse_if, first, Checked, Accepted}
use Rattle.model.specs.Program.{Code, ok, tick, assign, assign_elem, seq, par, ite, while, repeat, loop, exit, call, Program, roots, preorder_e, preorder}
use Rattle.model.specs.ProgramChecks.{searched, loose_in, late_in, in_roots, program_with}
use Rattle.model.specs.Calls.{check_call}
use Rattle.laws.specs.Refusals.Laws.{not-both, not-false, or-false, refuse-unless, all-accept}
use Rattle.laws.specs.Program.Fit.{exits, Inside, Earlier}
use Rattle.laws.specs.Program.Passed.{accepted}

-- what P keeps: no exit leaves a side of a parallel, and none leaves P where no loop is around it
abbrev Keeps : Bool → Code → Type 0
Keeps inside P = Inside P × (inside ≡ false → exits P ≡ false)

two : (a c : Checked) → first (a ∷ c ∷ []) ≡ Accepted → (a ≡ Accepted) × (c ≡ Accepted)
two a c e = (all-accept (a ∷ c ∷ []) e 0, all-accept (a ∷ c ∷ []) e 1)

keeps : (b : Bool) (P : Code) (i : ℕ) → loose_in b P i ≡ Accepted → Keeps b P
unfolding searched exits
keeps b ok i e = (tt, λ f. refl)
keeps b (tick d) i e = (tt, λ f. refl)
keeps b (assign d x g) i e = ((tt, tt, tt), λ f. refl)
keeps b (assign_elem d k j g) i e = ((tt, tt, tt, tt), λ f. refl)
keeps b (seq P Q) i e =
    let t = two (loose_in b P (i + 1)) (loose_in b Q (i + 1 + length (preorder P))) e in
    let p = keeps b P (i + 1) t.0 in
    let q = keeps b Q (i + 1 + length (preorder P)) t.1 in
    ((p.0, q.0), λ f. ap₂ ◌||◌ (p.1 f) (q.1 f))
keeps b (par P Q) i e =
    let t = two (loose_in false P (i + 1)) (loose_in false Q (i + 1 + length (preorder P))) e in
    let p = keeps false P (i + 1) t.0 in
    let q = keeps false Q (i + 1 + length (preorder P)) t.1 in
    ((p.0, q.0, (p.1 refl, q.1 refl)), λ f. ap₂ ◌||◌ (p.1 refl) (q.1 refl))
keeps b (ite d g P Q) i e =
    let j = i + 1 + length (preorder_e g) in
    let t = two (loose_in b P j) (loose_in b Q (j + length (preorder P))) e in
    let p = keeps b P j t.0 in
    let q = keeps b Q (j + length (preorder P)) t.1 in
    ((tt, tt, p.0, q.0), λ f. ap₂ ◌||◌ (p.1 f) (q.1 f))
keeps b (while d g P) i e = let p = keeps b P (i + 1 + length (preorder_e g)) e in ((tt, tt, p.0), p.1)
keeps b (repeat d g P) i e = let p = keeps b P (i + 1 + length (preorder_e g)) e in ((tt, tt, p.0), p.1)
keeps b (loop d P) i e = ((tt, (keeps true P (i + 1) e).0), λ f. refl)
keeps b exit i e = (tt, λ f. not-both (not-false b (refuse-unless (not b) 22 i e)) f)
keeps b (call d p) i e = ((tt, tt), λ f. refl)

-- and nothing else is refused
pub enclosed : (b : Bool) (P : Code) (i : ℕ) → Keeps b P → loose_in b P i ≡ Accepted
unfolding searched exits
enclosed b ok i h = refl
enclosed b (tick d) i h = refl
enclosed b (assign d x g) i h = refl
enclosed b (assign_elem d k j g) i h = refl
enclosed b (seq P Q) i h =
    ap₂ (λ (x y : Checked). first (x ∷ y ∷ [])) (enclosed b P (i + 1) (h.0.0, λ f. (or-false (exits P) (exits Q) (h.1 f)).0))
    (enclosed b Q (i + 1 + length (preorder P)) (h.0.1, λ f. (or-false (exits P) (exits Q) (h.1 f)).1))
enclosed b (par P Q) i h =
    ap₂ (λ (x y : Checked). first (x ∷ y ∷ [])) (enclosed false P (i + 1) (h.0.0, λ f. h.0.2.0))
    (enclosed false Q (i + 1 + length (preorder P)) (h.0.1, λ f. h.0.2.1))
enclosed b (ite d g P Q) i h =
    let j = i + 1 + length (preorder_e g) in
    ap₂ (λ (x y : Checked). first (x ∷ y ∷ [])) (enclosed b P j (h.0.2, λ f. (or-false (exits P) (exits Q) (h.1 f)).0))
    (enclosed b Q (j + length (preorder P)) (h.0.3, λ f. (or-false (exits P) (exits Q) (h.1 f)).1))
enclosed b (while d g P) i h = enclosed b P (i + 1 + length (preorder_e g)) (h.0.2, h.1)
enclosed b (repeat d g P) i h = enclosed b P (i + 1 + length (preorder_e g)) (h.0.2, h.1)
enclosed b (loop d P) i h = enclosed true P (i + 1) (h.0.1, λ f. not-both refl f)
enclosed true exit i h = refl
enclosed false exit i h = not-both refl (h.1 refl)
enclosed b (call d p) i h = refl

-- what it calls is below k
abbrev late : ℕ → Bool → Code → ℕ → Checked
late k b P i = searched (λ inside i. Accepted) (λ p i. refuse_if (leb k p) 24 i) b P i

called-below : (k : ℕ) (P : Code) (b : Bool) (i : ℕ) → late k b P i ≡ Accepted → Earlier k P
unfolding searched
called-below k ok b i e = tt
called-below k (tick d) b i e = tt
called-below k (assign d x g) b i e = (tt, tt, tt)
called-below k (assign_elem d j v g) b i e = (tt, tt, tt, tt)
called-below k (seq P Q) b i e =
    let t = two (late k b P (i + 1)) (late k b Q (i + 1 + length (preorder P))) e in
    (called-below k P b (i + 1) t.0, called-below k Q b (i + 1 + length (preorder P)) t.1)
called-below k (par P Q) b i e =
    let t = two (late k false P (i + 1)) (late k false Q (i + 1 + length (preorder P))) e in
    (called-below k P false (i + 1) t.0, called-below k Q false (i + 1 + length (preorder P)) t.1, tt)
called-below k (ite d g P Q) b i e =
    let j = i + 1 + length (preorder_e g) in
    let t = two (late k b P j) (late k b Q (j + length (preorder P))) e in
    (tt, tt, called-below k P b j t.0, called-below k Q b (j + length (preorder P)) t.1)
called-below k (while d g P) b i e = (tt, tt, called-below k P b (i + 1 + length (preorder_e g)) e)
called-below k (repeat d g P) b i e = (tt, tt, called-below k P b (i + 1 + length (preorder_e g)) e)
called-below k (loop d P) b i e = (tt, called-below k P true (i + 1) e)
called-below k exit b i e = tt
called-below k (call d p) b i e = (tt, omega (arith, leb-false k p (refuse-unless (leb k p) 24 i e)))

-- Roots ----------------------------------------------------------------------------------------------------------------------------------

-- what the test of roots leaves of each
in-roots : (test : ℕ → Code → ℕ → Checked) (R : ℕ → Code → Type 0) → ((r : ℕ) (P : Code) (i : ℕ) → test r P i ≡ Accepted → R r P)
    → (Ps : List Code) (r i : ℕ) → in_roots test r Ps i ≡ Accepted → (j : ℕ) → j < length Ps → R (r + j) (get_or Ps j ok)
unfolding in_roots
in-roots test R h [] r i e j l = absurd (omega arith)
in-roots test R h (P ∷ Ps) r i e zero l =
    rw add-zero (h r P i (two (test r P i) (in_roots test (r + 1) Ps (i + length (preorder P))) e).0)
in-roots test R h (P ∷ Ps) r i e (suc j) l =
    let q : r + 1 + j ≡ r + suc j = omega arith in
    rw q at
    (in-roots test R h Ps (r + 1) (i + length (preorder P)) (two (test r P i) (in_roots test (r + 1) Ps (i + length (preorder P))) e).1 j
    (le_of_suc-le-suc l))

-- root r of an accepted program
abbrev pub root_at : Program → ℕ → Code
root_at S r = get_or (roots S) r ok

module _ (options : Options) (s : List ℕ) (e : check_call options s ≡ Accepted) where
  abbrev S : Program
  S = program_with options s

  pub root-enclosed : (r : ℕ) → r < length (roots S) → Inside (root_at S r) × (exits (root_at S r) ≡ false)
  root-enclosed r l =
      in-roots (λ r P i. loose_in false P i) (λ r P. Inside P × (exits P ≡ false)) (λ r P i a. let h = keeps false P i a in (h.0, h.1 refl)) (roots S) 0 0
      (accepted options s e).enclosed r l

  -- a body calls only bodies before it, and the main program any
  pub root-earlier : (r : ℕ) → r < length (roots S) → Earlier r (root_at S r)
  root-earlier r l =
      rw zero-add at (in-roots late_in Earlier (λ r P i a. called-below r P false i a) (roots S) 0 0 (accepted options s e).earlier r l)
