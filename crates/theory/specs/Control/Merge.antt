-- The merge of pulses of w instants: what it holds and puts out while an input has not come. With w 1 it is the paper's. Assumes nothing.
use Rattle.std.specs.Prelude.{ℕ, zero, suc, ◌+◌, ◌-◌, ◌≤◌, ◌<◌, ◌≡◌, refl, Bool, true, false, not, ◌&&◌, ◌||◌, eqb}
use Rattle.std.proofs.Common.{sym, ◌∙◌, ap, ap₂, subst, arith}
use Rattle.std.proofs.Math.Bool.{or_comm as ||-comm}
use Rattle.model.specs.declared.Merge.{Merge}
use Rattle.model.specs.declared.Merged.{Merged}
use Rattle.model.specs.Circuit.{Sig, short_merge, long_merge, merge_step, merged_before, merged as joined}
use Rattle.laws.specs.Refusals.Laws.{not-both}
use Rattle.theory.specs.Control.Signal.{Quiet}

abbrev pub bits : Bool → Bool → Merge
bits p q = record { a = p; b = q }

abbrev pub after : Bool → Bool → Bool → Merged
after p q o = record { held = bits p q; out = o }

-- what a merge of a and b held, and put out, just before instant t, and what it puts out, with pulses of w
abbrev pub before : ℕ → Sig → Sig → ℕ → Merged
before w a b t = merged_before (merge_step (eqb w 1)) a b t

abbrev pub merged : ℕ → Sig → Sig → Sig
merged w a b = joined (merge_step (eqb w 1)) a b

-- Its inputs swapped -------------------------------------------------------------------------------------------------------------------

swapped : Merged → Merged
swapped s = after s.held.b s.held.a s.out

swap-one : (m : Merge) (x y : Bool) → short_merge (bits m.b m.a) y x ≡ swapped (short_merge m x y)
unfolding short_merge swapped
swap-one m x y = go m.a m.b x y
  where
    go : (p q x y : Bool) → short_merge (bits q p) y x ≡ swapped (short_merge (bits p q) x y)
    go true true true true = refl
    go true true true false = refl
    go true true false true = refl
    go true true false false = refl
    go true false true true = refl
    go true false true false = refl
    go true false false true = refl
    go true false false false = refl
    go false true true true = refl
    go false true true false = refl
    go false true false true = refl
    go false true false false = refl
    go false false true true = refl
    go false false true false = refl
    go false false false true = refl
    go false false false false = refl

swap-wide : (was : Bool) (m : Merge) (x y : Bool) → long_merge was (bits m.b m.a) y x ≡ swapped (long_merge was m x y)
unfolding long_merge swapped
swap-wide was m x y = go (x || m.a) (y || m.b) (||-comm y x)
  where
    held : Bool → Bool → Bool → Merged
    held p q o = after (q && not (was && not o)) (p && not (was && not o)) o

    go : (p q : Bool) → (y || x) ≡ (x || y) → held p q ((q && p) && (y || x)) ≡ held p q ((p && q) && (x || y))
    go true true e = ap (λ (c : Bool). held true true c) e
    go true false e = refl
    go false true e = refl
    go false false e = refl

step-swap : (one was : Bool) (m : Merge) (x y : Bool) → merge_step one was (bits m.b m.a) y x ≡ swapped (merge_step one was m x y)
unfolding merge_step
step-swap true was m x y = swap-one m x y
step-swap false was m x y = swap-wide was m x y

swap : (w : ℕ) (f g : Sig) (t : ℕ) → before w g f t ≡ swapped (before w f g t)
unfolding merged_before swapped
swap w f g zero = refl
swap w f g (suc t) =
    ap (λ (s : Merged). merge_step (eqb w 1) s.out s.held (g t) (f t)) (swap w f g t)
    ∙ step-swap (eqb w 1) (before w f g t).out (before w f g t).held (f t) (g t)

pub merged-swap : (w : ℕ) (f g : Sig) (t : ℕ) → merged w g f t ≡ merged w f g t
unfolding joined swapped
merged-swap w f g t = ap (λ (s : Merged). s.out) (swap w f g (suc t))

-- What it holds ------------------------------------------------------------------------------------------------------------------------

-- just before t it holds p and q; for longer pulses its output was low
abbrev pub Holds : ℕ → Sig → Sig → ℕ → Bool → Bool → Type 0
Holds w f g t p q = ((before w f g t).held ≡ bits p q) × (eqb w 1 ≡ false → (before w f g t).out ≡ false)

-- a merge that holds nothing just before instant t
abbrev pub Empty : ℕ → Sig → Sig → ℕ → Type 0
Empty w f g t = (before w f g t).held ≡ bits false false

pub empty-zero : (w : ℕ) (f g : Sig) → Empty w f g 0
unfolding merged_before
empty-zero w f g = refl

-- with longer pulses a merge that holds nothing has just put out nothing
step-empty : (was : Bool) (m : Merge) (x y : Bool) → (merge_step false was m x y).held ≡ bits false false → (merge_step false was m x y).out ≡ false
unfolding merge_step long_merge
step-empty was m x y e = go was (x || m.a) (y || m.b) (x || y) (ap (λ (m : Merge). m.a) e)
  where
    go : (was p q c : Bool) → (p && not (was && not ((p && q) && c))) ≡ false → ((p && q) && c) ≡ false
    go true true true true e = e
    go false true true true e = e
    go was true true false e = refl
    go was true false c e = refl
    go was false q c e = refl

pub low-n : (w : ℕ) (f g : Sig) (t : ℕ) → eqb w 1 ≡ false → Empty w f g t → (before w f g t).out ≡ false
unfolding merged_before
low-n w f g zero one e = refl
low-n w f g (suc t) one e =
    let q : before w f g (suc t) ≡ merge_step false (before w f g t).out (before w f g t).held (f t) (g t) =
    ap (λ (b : Bool). merge_step b (before w f g t).out (before w f g t).held (f t) (g t)) one in
    ap (λ (s : Merged). s.out) q
    ∙ step-empty (before w f g t).out (before w f g t).held (f t) (g t) (sym (ap (λ (s : Merged). s.held) q) ∙ e)

pub holds-none : (w : ℕ) (f g : Sig) (t : ℕ) → Empty w f g t → Holds w f g t false false
holds-none w f g t e = (e, λ one. low-n w f g t one e)

pub empty-swap : (w : ℕ) (f g : Sig) (t : ℕ) → Empty w f g t → Empty w g f t
unfolding swapped
empty-swap w f g t e = ap (λ (s : Merged). s.held) (swap w f g t) ∙ ap (λ (m : Merge). bits m.b m.a) e

-- the second input has not come
step-first : (one was p x : Bool) → (one ≡ false → was ≡ false) → merge_step one was (bits p false) x false ≡ after (x || p) false false
unfolding merge_step long_merge short_merge
step-first true was true true h = refl
step-first true was true false h = refl
step-first true was false true h = refl
step-first true was false false h = refl
step-first false true p x h = not-both refl (h refl)
step-first false false true true h = refl
step-first false false true false h = refl
step-first false false false true h = refl
step-first false false false false h = refl

pub next-first : (w : ℕ) (f g : Sig) (t : ℕ) (p : Bool) → Holds w f g t p false → g t ≡ false
    → Holds w f g (suc t) (f t || p) false × (merged w f g t ≡ false)
unfolding merged_before joined
next-first w f g t p e y =
    let k : before w f g (suc t) ≡ after (f t || p) false false =
    ap₂ (λ (m : Merge) (y : Bool). merge_step (eqb w 1) (before w f g t).out m (f t) y) e.0 y
    ∙ step-first (eqb w 1) (before w f g t).out p (f t) e.1 in
    ((ap (λ (s : Merged). s.held) k, λ z. ap (λ (s : Merged). s.out) k), ap (λ (s : Merged). s.out) k)

pub holds_at : (w : ℕ) (f g : Sig) (p q : Bool) {t t' : ℕ} → t ≡ t' → Holds w f g t p q → Holds w f g t' p q
holds_at w f g p q e h = subst (λ (k : ℕ). Holds w f g k p q) e h

first-n : (w : ℕ) (f g : Sig) (a n : ℕ) (p : Bool) → Holds w f g a p false → Quiet g a (a + n) → (q : Bool) × Holds w f g (a + n) q false
first-n w f g a zero p e y = (p, holds_at w f g p false (omega arith) e)
first-n w f g a (suc n) p e y =
    let i = first-n w f g a n p e (λ t l h. y t l (omega arith)) in
    (f (a + n) || i.0, holds_at w f g (f (a + n) || i.0) false (omega arith) (next-first w f g (a + n) i.0 i.1 (y (a + n) (omega arith) (omega arith))).0)

-- while the second input has not come nothing comes out
pub merged-right : (w : ℕ) (f g : Sig) (a b : ℕ) → Empty w f g a → Quiet g a b → Quiet (merged w f g) a b
merged-right w f g a b e y t l h =
    let z : a + (t - a) ≡ t = omega arith in
    let i = first-n w f g a (t - a) false (holds-none w f g a e) (λ u l' h'. y u l' (omega arith)) in
    (next-first w f g t i.0 (holds_at w f g i.0 false z i.1) (y t l h)).1

pub merged-left : (w : ℕ) (f g : Sig) (a b : ℕ) → Empty w f g a → Quiet f a b → Quiet (merged w f g) a b
merged-left w f g a b e x t l h = sym (merged-swap w f g t) ∙ merged-right w g f a b (empty-swap w f g a e) x t l h

-- while neither comes it stays empty, and once the first has come it holds it
pub fixed-n : (w : ℕ) (f g : Sig) (a n : ℕ) (p : Bool) → Holds w f g a p false → Quiet g a (a + n) → ((t : ℕ) → a ≤ t → t < a + n → (f t || p) ≡ p)
    → Holds w f g (a + n) p false
fixed-n w f g a zero p e y x = holds_at w f g p false (omega arith) e
fixed-n w f g a (suc n) p e y x =
    let i = fixed-n w f g a n p e (λ t l h. y t l (omega arith)) (λ t l h. x t l (omega arith)) in
    let k = (next-first w f g (a + n) p i (y (a + n) (omega arith) (omega arith))).0 in
    holds_at w f g p false (omega arith) (subst (λ (q : Bool). Holds w f g (suc (a + n)) q false) (x (a + n) (omega arith) (omega arith)) k)

pub stays-empty : (w : ℕ) (f g : Sig) (a b : ℕ) → a ≤ b → Empty w f g a → Quiet f a b → Quiet g a b → Empty w f g b
stays-empty w f g a b o e x y =
    let q : a + (b - a) ≡ b = omega arith in
    (holds_at w f g false false q
    (fixed-n w f g a (b - a) false (holds-none w f g a e) (λ t l h. y t l (omega arith)) (λ t l h. ap (λ (c : Bool). c || false) (x t l (omega arith))))).0
