-- The merge where its inputs meet, and where they do not fall. Assumes nothing.
use Prim.Native.Nat.{ℕ, zero, suc, ◌+◌, ◌-◌, ◌≤◌, ◌<◌}
use Rattle.std.specs.Prelude.{◌≡◌, Bool, ◌&&◌, ◌||◌, eqb}
use Rattle.std.proofs.Math.Path.{refl, ap₂, subst}
use Rattle.std.proofs.Common.{sym, ◌∙◌, ap, eq-eqb, ne_eqb}
use Rattle.std.proofs.Math.Bool.{true, false, or-true}
use native.Mathlib.Omega.{arith}
use Rattle.model.specs.declared.Merge.{Merge}
use Rattle.model.specs.declared.Merged.{Merged}
use Rattle.model.specs.Circuit.{Sig, short_merge, long_merge, merge_step, merged_before, merged as joined}
use Rattle.laws.specs.Refusals.Laws.{by_le, not-both, and-true}
use Rattle.model.specs.Program.{gap}
use Rattle.laws.specs.Program.Widths.{gap-one, gap-wide}
use Rattle.theory.specs.Control.Signal.{Quiet}
use Rattle.theory.specs.Control.Pulses.{Pulse, Firm, at}
use Rattle.theory.specs.Control.Merge.{bits, after, before, merged, merged-swap, Holds, Empty, low-n, holds-none, holds_at, empty-swap, next-first, fixed-n, merged-right, stays-empty}

-- Where the inputs meet ----------------------------------------------------------------------------------------------------------------

pub record Meets (w : ℕ) (f g : Sig) (a c e : ℕ) : Type 0 where
  pub quiet : Quiet (merged w f g) a c
  pub pulse : Pulse w (merged w f g) c e
  pub empty : c + gap w ≤ e → Empty w f g e

-- just before the second pulse
ready : (w : ℕ) (f g : Sig) (a c₁ c : ℕ) → a ≤ c₁ → c₁ ≤ c → Empty w f g a → Quiet f a c₁ → f c₁ ≡ true → Quiet g a c
    → (p : Bool) × ((f c || p) ≡ true) × Holds w f g c p false
ready w f g a c₁ c o₁ o₂ e x₁ x y =
    let i : Holds w f g c₁ false false = holds-none w f g c₁ (stays-empty w f g a c₁ o₁ e x₁ (λ t l h. y t l (omega arith))) in
    by_le c c₁
    (λ k.
    let q : c₁ ≡ c = omega arith in
    (false, ap (λ (z : Bool). z || false) (at f q x), holds_at w f g false false q i))
    (λ k.
    let j : Holds w f g (suc c₁) true false =
    subst (λ (z : Bool). Holds w f g (suc c₁) z false) (ap (λ (z : Bool). z || false) x) (next-first w f g c₁ false i (y c₁ o₁ k)).0 in (
      true,
      or-true (f c),
      holds_at w f g true false (omega arith)
          (fixed-n w f g (suc c₁) (c - suc c₁) true j (λ t l h. y t (omega arith) (omega arith)) (λ t l h. or-true (f t))),
    ))

-- the steps of the pulse, from both bits on
step-meet-one : (was p x : Bool) → (x || p) ≡ true → merge_step true was (bits p false) x true ≡ after false false true
unfolding merge_step short_merge
step-meet-one was p x z = rw z refl

step-meet : (p x : Bool) → (x || p) ≡ true → merge_step false false (bits p false) x true ≡ after true true true
unfolding merge_step long_merge
step-meet p true z = refl
step-meet true false z = refl
step-meet false false z = not-both z refl

step-on : (x : Bool) → merge_step false true (bits true true) x true ≡ after true true true
unfolding merge_step long_merge
step-on true = refl
step-on false = refl

step-off : merge_step false true (bits true true) false false ≡ after false false false
unfolding merge_step long_merge
step-off = refl

module _ (w : ℕ) (f g : Sig) where
  next_of : (t : ℕ) (one was p q x y : Bool) → eqb w 1 ≡ one → (before w f g t).out ≡ was → (before w f g t).held ≡ bits p q → f t ≡ x → g t ≡ y
      → before w f g (suc t) ≡ merge_step one was (bits p q) x y
  unfolding merged_before
  next_of t one was p q x y a b c d e = rw (b, c, d, e, a) refl

  -- pulses of 1
  meets-one : (a c₁ c e : ℕ) → w ≡ 1 → e ≤ c + gap w → c < e → a ≤ c₁ → c₁ ≤ c → Empty w f g a → Quiet f a c₁ → f c₁ ≡ true → Quiet g a c → g c ≡ true
      → Meets w f g a c e
  unfolding joined
  meets-one a c₁ c e one o o' o₁ o₂ em x₁ x y₁ y =
      let r = ready w f g a c₁ c o₁ o₂ em x₁ x y₁ in
      let k : before w f g (suc c) ≡ after false false true =
      next_of c true (before w f g c).out r.0 false (f c) true (eq-eqb w 1 one) refl r.2.0 refl y
      ∙ step-meet-one (before w f g c).out r.0 (f c) r.1 in
      let z = gap-one w one in
      let q : suc c ≡ e = omega (arith, z, o, o') in
      record {
        quiet = merged-right w f g a c em y₁;
        pulse = record {
          high = λ t l h j. subst (λ (t : ℕ). (before w f g (suc t)).out ≡ true) (omega (arith, one)) (ap (λ (s : Merged). s.out) k);
          low = λ t l h. absurd (omega (arith, z, o, one));
        };
        empty = λ j. subst (λ (t : ℕ). Empty w f g t) q (ap (λ (s : Merged). s.held) k);
      }

  module _ (wide : 2 ≤ w) (a c₁ c e : ℕ) (o : e ≤ c + gap w) (o' : c < e) (o₁ : a ≤ c₁) (o₂ : c₁ ≤ c) (em : Empty w f g a)
      (x₁ : Quiet f a c₁) (x : Pulse w f c₁ e) (y₁ : Quiet g a c) (y : Pulse w g c e) where
    one : eqb w 1 ≡ false
    one = ne_eqb w 1 (λ q. omega arith)

    meet : before w f g (suc c) ≡ after true true true
    meet =
        let r = ready w f g a c₁ c o₁ o₂ em x₁ (x.high c₁ (omega arith) (omega arith) (omega arith)) y₁ in
        next_of c false false r.0 false (f c) true one (r.2.1 one) r.2.0 refl (y.high c (omega arith) (omega arith) (omega arith))
        ∙ step-meet r.0 (f c) r.1

    on-n : (n : ℕ) → n < w → c + n < e → before w f g (suc (c + n)) ≡ after true true true
    on-n zero l h = subst (λ (t : ℕ). before w f g (suc t) ≡ after true true true) (omega arith) meet
    on-n (suc n) l h =
        let i : before w f g (suc (c + n)) ≡ after true true true = on-n n (omega arith) (omega arith) in
        let k : before w f g (suc (suc (c + n))) ≡ after true true true =
        next_of (suc (c + n)) false true true true (f (suc (c + n))) true one (ap (λ (s : Merged). s.out) i) (ap (λ (s : Merged). s.held) i) refl
        (y.high (suc (c + n)) (omega arith) (omega arith) (omega arith))
        ∙ step-on (f (suc (c + n))) in
        subst (λ (t : ℕ). before w f g (suc t) ≡ after true true true) (omega arith) k

    off : c + w < e → before w f g (suc (c + w)) ≡ after false false false
    off l =
        let q : suc (c + (w - 1)) ≡ c + w = omega arith in
        let i : before w f g (c + w) ≡ after true true true = subst (λ (t : ℕ). before w f g t ≡ after true true true) q (on-n (w - 1) (omega arith) (omega arith)) in
        next_of (c + w) false true true true false false one (ap (λ (s : Merged). s.out) i) (ap (λ (s : Merged). s.held) i)
        (x.low (c + w) (omega arith) l) (y.low (c + w) (omega arith) l)
        ∙ step-off

    meets-wide : Meets w f g a c e
    unfolding joined
    meets-wide =
        let z = gap-wide w wide in
        record {
          quiet = merged-right w f g a c em y₁;
          pulse = record {
            high = λ t l h j.
                subst (λ (t : ℕ). (before w f g (suc t)).out ≡ true) (omega arith)
                (ap (λ (s : Merged). s.out) (on-n (t - c) (omega arith) (omega arith)));
            low = λ t l h.
                let q : c + w ≡ t = omega (arith, z, o) in
                subst (λ (t : ℕ). (before w f g (suc t)).out ≡ false) q (ap (λ (s : Merged). s.out) (off (omega arith)));
          };
          empty = λ j.
              let q : suc (c + w) ≡ e = omega (arith, z, o) in
              let k = off (omega (arith, z)) in
              subst (λ (t : ℕ). Empty w f g t) q (ap (λ (s : Merged). s.held) k);
        }

  -- f first, or both at once
  pub meets : 1 ≤ w → (a c₁ c e : ℕ) → e ≤ c + gap w → c < e → a ≤ c₁ → c₁ ≤ c → Empty w f g a → Quiet f a c₁ → Pulse w f c₁ e → Quiet g a c → Pulse w g c e
      → Meets w f g a c e
  meets pos a c₁ c e o o' o₁ o₂ em x₁ x y₁ y =
      by_le 2 w (λ k. meets-wide k a c₁ c e o o' o₁ o₂ em x₁ x y₁ y)
      (λ k.
      meets-one a c₁ c e (omega arith) o o' o₁ o₂ em x₁ (x.high c₁ (omega arith) (omega arith) (omega arith)) y₁
      (y.high c (omega arith) (omega arith) (omega arith)))

pub meets-swap : (w : ℕ) (f g : Sig) (a c e : ℕ) → Meets w g f a c e → Meets w f g a c e
meets-swap w f g a c e h =
    record {
      quiet = λ t l k. sym (merged-swap w f g t) ∙ h.quiet t l k;
      pulse = record {
        high = λ t l k j. sym (merged-swap w f g t) ∙ h.pulse.high t l k j;
        low = λ t l k. sym (merged-swap w f g t) ∙ h.pulse.low t l k;
      };
      empty = λ o. empty-swap w g f e (h.empty o);
    }

-- Inputs that do not fall ----------------------------------------------------------------------------------------------------------------

step-firm : (p q x y : Bool) → (p ≡ true → x ≡ true) → (q ≡ true → y ≡ true) → merge_step false (p && q) (bits p q) x y ≡ after x y (x && y)
unfolding merge_step long_merge
step-firm true true true true h k = refl
step-firm true true true false h k = not-both (k refl) refl
step-firm true true false true h k = not-both (h refl) refl
step-firm true true false false h k = not-both (h refl) refl
step-firm true false true true h k = refl
step-firm true false true false h k = refl
step-firm true false false true h k = not-both (h refl) refl
step-firm true false false false h k = not-both (h refl) refl
step-firm false true true true h k = refl
step-firm false true true false h k = not-both (k refl) refl
step-firm false true false true h k = refl
step-firm false true false false h k = not-both (k refl) refl
step-firm false false true true h k = refl
step-firm false false true false h k = refl
step-firm false false false true h k = refl
step-firm false false false false h k = refl

module _ (w : ℕ) (f g : Sig) (wide : 2 ≤ w) (a b : ℕ) (em : Empty w f g a) (x : Firm f a b) (y : Firm g a b) where
  -- what it holds is what its inputs were an instant ago
  firm-n : (n : ℕ) → a + n < b → (p : Bool) × (q : Bool) × (before w f g (a + n) ≡ after p q (p && q)) × (p ≡ true → f (a + n) ≡ true) × (q ≡ true → g (a + n) ≡ true)
  unfolding merged_before
  firm-n zero l =
      let i : before w f g a ≡ after false false false =
      ap₂ (λ (m : Merge) (o : Bool). record { held = m; out = o }) em (low-n w f g a (ne_eqb w 1 (λ q. omega arith)) em) in
      let q : a ≡ a + 0 = omega arith in
      (false, false, subst (λ (t : ℕ). before w f g t ≡ after false false false) q i, λ z. not-both z refl, λ z. not-both z refl)
  firm-n (suc n) l =
      let i = firm-n n (omega arith) in
      let k : before w f g (suc (a + n)) ≡ after (f (a + n)) (g (a + n)) (f (a + n) && g (a + n)) =
      next_of w f g (a + n) false (i.0 && i.1) i.0 i.1 (f (a + n)) (g (a + n)) (ne_eqb w 1 (λ q. omega arith)) (ap (λ (s : Merged). s.out) i.2)
      (ap (λ (s : Merged). s.held) i.2) refl refl
      ∙ step-firm i.0 i.1 (f (a + n)) (g (a + n)) i.3 i.4 in
      let q : suc (a + n) ≡ a + suc n = omega arith in (
        f (a + n),
        g (a + n),
        subst (λ (t : ℕ). before w f g t ≡ after (f (a + n)) (g (a + n)) (f (a + n) && g (a + n))) q k,
        λ z. at f q (x (a + n) (omega arith) (omega arith) z),
        λ z. at g q (y (a + n) (omega arith) (omega arith) z),
      )

  merged-both : (t : ℕ) → a ≤ t → t < b → merged w f g t ≡ (f t && g t)
  unfolding joined
  merged-both t l h =
      let i = firm-n (t - a) (omega arith) in
      let q : a + (t - a) ≡ t = omega arith in
      let k : before w f g (suc (a + (t - a))) ≡ after (f (a + (t - a))) (g (a + (t - a))) (f (a + (t - a)) && g (a + (t - a))) =
      next_of w f g (a + (t - a)) false (i.0 && i.1) i.0 i.1 (f (a + (t - a))) (g (a + (t - a))) (ne_eqb w 1 (λ q. omega arith))
      (ap (λ (s : Merged). s.out) i.2) (ap (λ (s : Merged). s.held) i.2) refl refl
      ∙ step-firm i.0 i.1 (f (a + (t - a))) (g (a + (t - a))) i.3 i.4 in
      subst (λ (t : ℕ). (before w f g (suc t)).out ≡ (f t && g t)) q (ap (λ (s : Merged). s.out) k)

-- on the first w instants from an empty merge, inputs that do not fall give an output that does not
pub merged-firm : (w : ℕ) (f g : Sig) (a b : ℕ) → b ≤ a + w → Empty w f g a → Firm f a b → Firm g a b → Firm (merged w f g) a b
merged-firm w f g a b o em x y t l h z =
    let wide : 2 ≤ w = omega arith in
    let k = and-true (f t) (g t) (sym (merged-both w f g wide a b em x y t l (omega arith)) ∙ z) in
    merged-both w f g wide a b em x y (suc t) (omega arith) h ∙ ap₂ ◌&&◌ (x t l h k.0) (y t l h k.1)
