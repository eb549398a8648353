-- What the marks that a walk leaves tell: each variable's clocks, values and indices, and the delays of each procedure's callers. One induction says
-- all four. Assumes nothing.
use mathlib.Core.Path.{◌≡◌, refl, sym, ◌∙◌, ap, ap₂}
use mathlib.Core.Bool.{Bool, true, false}
use mathlib.Core.List.{List, [], ◌∷◌, ◌++◌, append_assoc, append-nil}
use Prim.Native.Nat.{ℕ, zero, suc, ◌+◌, ◌*◌, ◌≤◌, ◌<◌}
use native.Mathlib.Omega.{arith}
use native.Mathlib.Decide.{ℕ_discrete}
use lib.Dec.{eqb}
use borrow.Author.Tests.{eq-eqb, ne_eqb}
use lib.ListN.{length, get_or, length-append, take, drop}
use Rattle.std.proofs.lemmas.List.{take-append-drop}
use lib.Seq.{sets, sets-eq, get_or-append-add, length-take-le}
use Rattle.model.specs.Word.{pick}
use Rattle.model.specs.Program.{Code, ok, tick, assign, assign_elem, seq, par, ite, while, repeat, loop, exit, call, array_var}
use Rattle.model.specs.Numbering.{expr_count, past_switches, if_delay_count, delay_count, walk_count, Source, clock_sources, call_sources, data_sources, address_sources, wires_of, root_walk, past_root, root_sources, root_walk_sources}
use Rattle.laws.specs.Program.Fit.{Formed, EveryRoot}
use Rattle.compiler.specs.Walk.{marks_of}
use Rattle.compiler.specs.Ors.{sources_from, sources_in}
use Rattle.compiler.specs.Whole.{root_assignments, root_marks}
use Rattle.compiler.proofs.Growth.{marks-length}

-- Marks and trees ----------------------------------------------------------------------------------------------------------------------

-- the wires of a variable in two lists of sources
wires-append : (x : ℕ) (us vs : List Source) → wires_of x (us ++ vs) ≡ wires_of x us ++ wires_of x vs
unfolding wires_of
wires-append x [] vs = refl
wires-append x (u ∷ us) vs = rw (wires-append x us vs) (go (eqb u.0 x))
  where
    go : (b : Bool) → pick b (u.1 ∷ (wires_of x us ++ wires_of x vs)) (wires_of x us ++ wires_of x vs) ≡ pick b (u.1 ∷ wires_of x us) (wires_of x us) ++ wires_of x vs
    go true = refl
    go false = refl

-- the marks xs add to the wires of y, by their mark f, the wires of z in us
abbrev Adds : ℕ → List ℕ → ℕ → ℕ → List Source → Type 0
Adds f xs y z us = (l : List ℕ) → wires_of y (sources_in f (xs ++ l)) ≡ wires_of z us ++ wires_of y (sources_in f l)

adds-both : (f y z : ℕ) (xs ys : List ℕ) (us vs : List Source) → Adds f xs y z us → Adds f ys y z vs → Adds f (xs ++ ys) y z (us ++ vs)
adds-both f y z xs ys us vs h g l =
    rw (append_assoc xs ys l, h (ys ++ l), g l, wires-append z us vs, append_assoc (wires_of z us) (wires_of z vs) (wires_of y (sources_in f l)))

-- the marks xs tell these clocks, calls, values and indices. An array's variable is below 20, and an index is read of arrays alone
record Marking (xs : List ℕ) (clocks calls datas indices : List Source) : Type 0 where
  clock : (y : ℕ) → y < 20 → Adds 1 xs y y clocks
  caller : (p : ℕ) → Adds 1 xs (20 + p) p calls
  value : (y : ℕ) → y < 20 → Adds 2 xs y y datas
  index : (y : ℕ) → y < 20 → 16 ≤ y → Adds 3 xs y y indices

marking-none : Marking [] [] [] [] []
unfolding wires_of
marking-none = record { clock = λ y h l. refl; caller = λ p l. refl; value = λ y h l. refl; index = λ y h g l. refl }

marking-both : {xs ys : List ℕ} {a b c d a' b' c' d' : List Source} → Marking xs a b c d → Marking ys a' b' c' d'
    → Marking (xs ++ ys) (a ++ a') (b ++ b') (c ++ c') (d ++ d')
marking-both {xs} {ys = ys} t u =
    record {
      clock = λ y h. adds-both 1 y y xs ys _ _ (t.clock y h) (u.clock y h);
      caller = λ p. adds-both 1 (20 + p) p xs ys _ _ (t.caller p) (u.caller p);
      value = λ y h. adds-both 2 y y xs ys _ _ (t.value y h) (u.value y h);
      index = λ y h g. adds-both 3 y y xs ys _ _ (t.index y h g) (u.index y h g);
    }

-- a source of another variable, and one of the procedure that is asked for
other : (x y v : ℕ) (ps : List Source) → (x ≡ y → ⊥) → wires_of y ((x, v) ∷ ps) ≡ wires_of y ps
unfolding wires_of
other x y v ps n = rw (ne_eqb x y n)

same-procedure : (p q : ℕ) → eqb (20 + q) (20 + p) ≡ eqb q p
same-procedure p q = go (ℕ_discrete q p)
  where
    go : Dec (q ≡ p) → eqb (20 + q) (20 + p) ≡ eqb q p
    go (yes e) = eq-eqb (20 + q) (20 + p) (omega arith) ∙ sym (eq-eqb q p e)
    go (no n) = ne_eqb (20 + q) (20 + p) (λ e. n (omega arith)) ∙ sym (ne_eqb q p n)

-- the marks of an assignment, and those of a call
assigned : (x d v w : ℕ) (indices : List Source) → x < 20
    → ((y : ℕ) → 16 ≤ y → Adds 3 (x ∷ d ∷ v ∷ w ∷ []) y y indices) → Marking (x ∷ d ∷ v ∷ w ∷ []) ((x, d) ∷ []) [] ((x, v) ∷ []) indices
unfolding sources_in wires_of
assigned x d v w indices low i =
    record {
      clock = λ y h l. wires-append y ((x, d) ∷ []) (sources_in 1 l);
      caller = λ p l. other x (20 + p) d (sources_in 1 l) (λ e. omega arith);
      value = λ y h l. wires-append y ((x, v) ∷ []) (sources_in 2 l);
      index = λ y h g. i y g;
    }

called : (p d : ℕ) → Marking ((20 + p) ∷ d ∷ 0 ∷ 0 ∷ []) [] ((p, d) ∷ []) [] []
unfolding sources_in wires_of
called p d =
    record {
      clock = λ y h l. other (20 + p) y d (sources_in 1 l) (λ e. omega arith);
      caller =
          λ q l.
          wires-append (20 + q) ((20 + p, d) ∷ []) (sources_in 1 l)
          ∙ ap (λ (b : Bool). pick b (d ∷ []) [] ++ wires_of (20 + q) (sources_in 1 l)) (same-procedure q p);
      value = λ y h l. other (20 + p) y 0 (sources_in 2 l) (λ e. omega arith);
      index = λ y h g l. other (20 + p) y 0 (sources_in 3 l) (λ e. omega arith);
    }

marking : (P : Code) → Formed P → (d c : ℕ) → Marking (marks_of P d c) (clock_sources P d) (call_sources P d) (data_sources P c) (address_sources P c)
unfolding marks_of clock_sources call_sources data_sources address_sources sources_in wires_of
marking ok w d c = marking-none
marking (tick δ) w d c = marking-none
marking (assign δ x e) w d c = assigned x d (c + expr_count e) 0 [] (omega (arith, w.1)) (λ y g l. other x y 0 (sources_in 3 l) (λ q. omega (arith, w.1)))
marking (assign_elem δ k i e) w d c =
    let v = c + expr_count i + expr_count e in
    assigned (array_var k) d v (v + 1) ((array_var k, v + 1) ∷ []) (omega (arith, w.1)) (λ y g l. wires-append y ((array_var k, v + 1) ∷ []) (sources_in 3 l))
marking (seq P Q) w d c = marking-both (marking P w.0 d c) (marking Q w.1 (d + delay_count P) (c + walk_count P))
marking (par P Q) w d c = marking-both (marking P w.0 d c) (marking Q w.1 (d + delay_count P) (c + walk_count P))
marking (ite δ e P Q) w d c =
    let d₁ = d + if_delay_count δ in
    let c₁ = past_switches e c in
    marking-both (marking P w.2 d₁ c₁) (marking Q w.3 (d₁ + delay_count P) (c₁ + walk_count P))
marking (while δ e P) w d c = marking P w.2 (d + 1) (past_switches e c)
marking (repeat δ e P) w d c = marking P w.2 (d + 1) (past_switches e c + 1)
marking (loop δ P) w d c = marking P w.1 (d + 1) (c + 1)
marking exit w d c = marking-none
marking (call δ p) w d c = called p d

roots-marking : (cs : List Source) (r : ℕ) (Ps : List Code) (d c : ℕ) → EveryRoot (λ r P. Formed P) r Ps
    → Marking (root_marks cs r Ps d c) (root_sources clock_sources Ps d) (root_sources call_sources Ps d) (root_walk_sources data_sources cs r Ps c)
    (root_walk_sources address_sources cs r Ps c)
unfolding root_marks root_sources root_walk_sources
roots-marking cs r [] d c w = marking-none
roots-marking cs r (P ∷ Ps) d c w =
    marking-both (marking P w.0 d (root_walk cs r c)) (roots-marking cs (r + 1) Ps (d + delay_count P) (past_root cs r P c) w.1)

-- Marks and arrays ---------------------------------------------------------------------------------------------------------------------

first-four : (f x a b w : ℕ) (l : List ℕ) → f ≤ 3 → get_or (x ∷ a ∷ b ∷ w ∷ l) f 0 ≡ get_or (x ∷ a ∷ b ∷ w ∷ []) f 0
first-four zero x a b w l h = refl
first-four (suc zero) x a b w l h = refl
first-four (suc (suc zero)) x a b w l h = refl
first-four (suc (suc (suc zero))) x a b w l h = refl
first-four (suc (suc (suc (suc f)))) x a b w l h = absurd (omega arith)

sources-at : (f : ℕ) → f ≤ 3 → (n : ℕ) (l p q : List ℕ) (k : ℕ) → length l ≡ 4 * n → length p ≡ 4 * k → sources_from f (p ++ (l ++ q)) k n ≡ sources_in f l
unfolding sources_from sources_in
sources-at f h zero [] p q k e g = refl
sources-at f h zero (x ∷ l) p q k e g = absurd (omega arith)
sources-at f h (suc n) [] p q k e g = absurd (omega arith)
sources-at f h (suc n) (x ∷ []) p q k e g = absurd (omega arith)
sources-at f h (suc n) (x ∷ (a ∷ [])) p q k e g = absurd (omega arith)
sources-at f h (suc n) (x ∷ (a ∷ (b ∷ []))) p q k e g = absurd (omega arith)
sources-at f h (suc n) (x ∷ (a ∷ (b ∷ (w ∷ l)))) p q k e g =
    let r = x ∷ a ∷ b ∷ w ∷ (l ++ q) in
    let z : 4 * k ≡ length p + 0 = omega arith in
    let y : 4 * k + f ≡ length p + f = omega arith in
    let here : get_or (p ++ r) (4 * k) 0 ≡ x = rw z (get_or-append-add p r 0 0) in
    let wire : get_or (p ++ r) (4 * k + f) 0 ≡ get_or (x ∷ a ∷ b ∷ w ∷ []) f 0 = rw y (get_or-append-add p r f 0 ∙ first-four f x a b w (l ++ q) h) in
    ap₂ (λ (s : Source) (ss : List Source). s ∷ ss) (ap₂ (λ (u v : ℕ). (u, v)) here wire)
    (ap (λ (m : List ℕ). sources_from f m (k + 1) n) (sym (append_assoc p (x ∷ a ∷ b ∷ w ∷ []) (l ++ q)))
    ∙ sources-at f h n l (p ++ (x ∷ a ∷ b ∷ w ∷ [])) q (k + 1) (omega arith) (simp length-append (omega arith)))

-- the first marks alone
pub sources-taken : (f : ℕ) → f ≤ 3 → (n : ℕ) (ms : List ℕ) → 4 * n ≤ length ms → sources_in f (take (4 * n) ms) ≡ sources_from f ms 0 n
sources-taken f h n ms l =
    sym
    (ap (λ (m : List ℕ). sources_from f m 0 n) (sym (take-append-drop (4 * n) ms))
    ∙ sources-at f h n (take (4 * n) ms) [] (drop (4 * n) ms) 0 (length-take-le (4 * n) ms l) refl)

roots-marks-length : (cs : List Source) (r : ℕ) (Ps : List Code) (d c : ℕ) → length (root_marks cs r Ps d c) ≡ 4 * root_assignments Ps
unfolding root_marks root_assignments
roots-marks-length cs r [] d c = refl
roots-marks-length cs r (P ∷ Ps) d c =
    simp (length-append, marks-length P d (root_walk cs r c), roots-marks-length cs (r + 1) Ps (d + delay_count P) (past_root cs r P c)) (omega arith)

-- what the marks of all roots tell, where they are put into an array that is long enough
module _ (cs : List Source) (Ps : List Code) (d c : ℕ) (w : EveryRoot (λ r P. Formed P) 0 Ps) (ms : List ℕ) (h : 4 * root_assignments Ps ≤ length ms) where
  abbrev Marked : ℕ → List Source
  Marked f = sources_from f (sets ms 0 (root_marks cs 0 Ps d c)) 0 (root_assignments Ps)

  by-marks : (f y z : ℕ) (us : List Source) → f ≤ 3 → Adds f (root_marks cs 0 Ps d c) y z us → wires_of y (Marked f) ≡ wires_of z us
  unfolding sources_in wires_of
  by-marks f y z us l a =
      let xs = root_marks cs 0 Ps d c in
      let n = roots-marks-length cs 0 Ps d c in
      ap (λ (m : List ℕ). wires_of y (sources_from f m 0 (root_assignments Ps))) (sets-eq xs ms 0 (omega (arith, n)))
      ∙ ap (wires_of y) (sources-at f l (root_assignments Ps) xs [] (drop (0 + length xs) ms) 0 n refl ∙ ap (sources_in f) (sym (append-nil xs)))
      ∙ a [] ∙ append-nil (wires_of z us)

  tells : Marking (root_marks cs 0 Ps d c) (root_sources clock_sources Ps d) (root_sources call_sources Ps d) (root_walk_sources data_sources cs 0 Ps c)
      (root_walk_sources address_sources cs 0 Ps c)
  tells = roots-marking cs 0 Ps d c w

  pub clock-marks : (y : ℕ) → y < 20 → wires_of y (Marked 1) ≡ wires_of y (root_sources clock_sources Ps d)
  clock-marks y l = by-marks 1 y y _ (omega arith) (tells.clock y l)

  pub call-marks : (p : ℕ) → wires_of (20 + p) (Marked 1) ≡ wires_of p (root_sources call_sources Ps d)
  call-marks p = by-marks 1 (20 + p) p _ (omega arith) (tells.caller p)

  pub data-marks : (y : ℕ) → y < 20 → wires_of y (Marked 2) ≡ wires_of y (root_walk_sources data_sources cs 0 Ps c)
  data-marks y l = by-marks 2 y y _ (omega arith) (tells.value y l)

  pub index-marks : (y : ℕ) → y < 20 → 16 ≤ y → wires_of y (Marked 3) ≡ wires_of y (root_walk_sources address_sources cs 0 Ps c)
  index-marks y l g = by-marks 3 y y _ (omega arith) (tells.index y l g)
