-- The one-then-two merge of a call, kind 39, with a pulse length, which is the paper's with pulses of one instant: it holds a, puts out 1 when b
-- comes in the same instant or later, and clears; b comes for other callers too, and a lone b is forgotten. Assumes nothing.
use Prim.Native.Nat.{ℕ, zero, suc, ◌+◌, ◌-◌, ◌≤◌, ◌<◌}
use Rattle.std.specs.Prelude.{◌≡◌, Bool, ◌&&◌, ◌||◌, eqb}
use Rattle.std.proofs.Math.Path.{refl, ap, subst}
use Rattle.std.proofs.Common.{sym, ◌∙◌, arith, eq-eqb, ne_eqb}
use Rattle.std.proofs.Math.Bool.{true, false, not, or-true}
use Rattle.model.specs.declared.Merged.{Merged}
use Rattle.model.specs.Circuit.{Sig, short_return, long_return, return_step, merged_before, merged}
use Rattle.laws.specs.Refusals.Laws.{by_le, not-both}
use Rattle.theory.specs.Control.Signal.{Quiet}
use Rattle.model.specs.Program.{gap}
use Rattle.laws.specs.Program.Widths.{gap-one, gap-wide}
use Rattle.theory.specs.Control.Pulses.{Pulse, at}

-- what is held, and the output of the same instant
pub record Call : Type 0 where
  pub held : Bool
  pub out : Bool

abbrev after : Bool → Bool → Call
after p o = record { held = p; out = o }

-- one: the pulse length is 1; was: the output an instant ago. The held b is never set.
unfoldable pub call_step : Bool → Bool → Bool → Bool → Bool → Call
unfolding return_step short_return long_return
call_step one was held a b =
    let r = return_step one was (record { a = held; b = false }) a b in
    record { held = r.held.a; out = r.out }

unfoldable pub call_before : ℕ → Sig → Sig → ℕ → Call
call_before w a b zero = record { held = false; out = false }
call_before w a b (suc t) = call_step (eqb w 1) (call_before w a b t).out (call_before w a b t).held (a t) (b t)

unfoldable pub returned : ℕ → Sig → Sig → Sig
returned w a b t = (call_before w a b (suc t)).out

abbrev Keeps : ℕ → Sig → Sig → ℕ → Bool → Type 0
Keeps w f g t p = ((call_before w f g t).held ≡ p) × (eqb w 1 ≡ false → (call_before w f g t).out ≡ false)

-- nothing held just before instant t
abbrev pub NoCall : ℕ → Sig → Sig → ℕ → Type 0
NoCall w f g t = (call_before w f g t).held ≡ false

pub no-call-zero : (w : ℕ) (f g : Sig) → NoCall w f g 0
unfolding call_before
no-call-zero w f g = refl

module _ (w : ℕ) (f g : Sig) where
  next : (t : ℕ) (one was p x y : Bool) → eqb w 1 ≡ one → (call_before w f g t).out ≡ was → (call_before w f g t).held ≡ p → f t ≡ x → g t ≡ y
      → call_before w f g (suc t) ≡ call_step one was p x y
  unfolding call_before
  next t one was p x y a b c d e = rw (a, b, c, d, e) refl

  -- with longer pulses a merge that holds nothing has just put out nothing
  step-empty : (was p x y : Bool) → (call_step false was p x y).held ≡ false → (call_step false was p x y).out ≡ false
  unfolding call_step
  step-empty was p x y e = go (x || p) y was e
    where
      go : (a b was : Bool) → (a && not (was && not (a && b))) ≡ false → (a && b) ≡ false
      go true true true e = e
      go true true false e = e
      go true false was e = refl
      go false b was e = refl

  low-n : (t : ℕ) → eqb w 1 ≡ false → NoCall w f g t → (call_before w f g t).out ≡ false
  unfolding call_before
  low-n zero one e = refl
  low-n (suc t) one e =
      let q = next t false (call_before w f g t).out (call_before w f g t).held (f t) (g t) one refl refl refl refl in
      ap (λ (c : Call). c.out) q
      ∙ step-empty (call_before w f g t).out (call_before w f g t).held (f t) (g t) (sym (ap (λ (c : Call). c.held) q) ∙ e)

  keeps-at : (p : Bool) {t t' : ℕ} → t ≡ t' → Keeps w f g t p → Keeps w f g t' p
  keeps-at p e h = subst (λ (k : ℕ). Keeps w f g k p) e h

  -- a has not come: a lone b is forgotten
  step-none : (one was y : Bool) → call_step one was false false y ≡ after false false
  unfolding call_step
  step-none true was y = refl
  step-none false was y = refl

  none-n : (a n : ℕ) → NoCall w f g a → Quiet f a (a + n) → Keeps w f g (a + n) false
  none-n a zero e x = keeps-at false (omega arith) (e, λ one. low-n a one e)
  none-n a (suc n) e x =
      let i = none-n a n e (λ t l h. x t l (omega arith)) in
      let k : call_before w f g (suc (a + n)) ≡ after false false =
      next (a + n) (eqb w 1) (call_before w f g (a + n)).out false false (g (a + n)) refl refl i.0 (x (a + n) (omega arith) (omega arith)) refl
      ∙ step-none (eqb w 1) (call_before w f g (a + n)).out (g (a + n)) in
      keeps-at false (omega arith) (ap (λ (c : Call). c.held) k, λ z. ap (λ (c : Call). c.out) k)

  none-to : (a b : ℕ) → a ≤ b → NoCall w f g a → Quiet f a b → Keeps w f g b false
  none-to a b o e x = keeps-at false (omega arith) (none-n a (b - a) e (λ t l h. x t l (omega arith)))

  pub stays-none : (a b : ℕ) → a ≤ b → NoCall w f g a → Quiet f a b → NoCall w f g b
  stays-none a b o e x = (none-to a b o e x).0

  pub none_out : (a b : ℕ) → NoCall w f g a → Quiet f a b → Quiet (returned w f g) a b
  unfolding returned
  none_out a b e x t l h =
      let i = none-to a t l e (λ u l' h'. x u l' (omega arith)) in
      ap (λ (c : Call). c.out)
      (next t (eqb w 1) (call_before w f g t).out false false (g t) refl refl i.0 (x t l h) refl
      ∙ step-none (eqb w 1) (call_before w f g t).out (g t))

  -- whatever is held, nothing comes out without b
  step-alone : (one was p x : Bool) → (call_step one was p x false).out ≡ false
  unfolding call_step
  step-alone true was true true = refl
  step-alone true was true false = refl
  step-alone true was false true = refl
  step-alone true was false false = refl
  step-alone false was true true = refl
  step-alone false was true false = refl
  step-alone false was false true = refl
  step-alone false was false false = refl

  pub unanswered : (t : ℕ) → g t ≡ false → returned w f g t ≡ false
  unfolding returned
  unanswered t y =
      ap (λ (c : Call). c.out) (next t (eqb w 1) (call_before w f g t).out (call_before w f g t).held (f t) false refl refl refl refl y)
      ∙ step-alone (eqb w 1) (call_before w f g t).out (call_before w f g t).held (f t)

  -- a has come, b has not
  step-wait : (one was p x : Bool) → (one ≡ false → was ≡ false) → call_step one was p x false ≡ after (x || p) false
  unfolding call_step
  step-wait true was true true h = refl
  step-wait true was true false h = refl
  step-wait true was false true h = refl
  step-wait true was false false h = refl
  step-wait false true p x h = not-both refl (h refl)
  step-wait false false true true h = refl
  step-wait false false true false h = refl
  step-wait false false false true h = refl
  step-wait false false false false h = refl

  next-wait : (t : ℕ) (p : Bool) → Keeps w f g t p → g t ≡ false → Keeps w f g (suc t) (f t || p) × (returned w f g t ≡ false)
  unfolding returned
  next-wait t p e y =
      let k : call_before w f g (suc t) ≡ after (f t || p) false =
      next t (eqb w 1) (call_before w f g t).out p (f t) false refl refl e.0 refl y
      ∙ step-wait (eqb w 1) (call_before w f g t).out p (f t) e.1 in
      ((ap (λ (c : Call). c.held) k, λ z. ap (λ (c : Call). c.out) k), ap (λ (c : Call). c.out) k)

  wait-n : (a n : ℕ) → Keeps w f g a true → Quiet g a (a + n) → Keeps w f g (a + n) true
  wait-n a zero e y = keeps-at true (omega arith) e
  wait-n a (suc n) e y =
      let i = wait-n a n e (λ t l h. y t l (omega arith)) in
      keeps-at true (omega arith)
      (subst (λ (p : Bool). Keeps w f g (suc (a + n)) p) (or-true (f (a + n)))
      (next-wait (a + n) true i (y (a + n) (omega arith) (omega arith))).0)

  -- from a on, before b, it holds
  pub waiting : (a c₁ c : ℕ) → a ≤ c₁ → c₁ ≤ c → NoCall w f g a → Quiet f a c₁ → f c₁ ≡ true → Quiet g c₁ (suc c) → NoCall w f g (suc c) → ⊥
  waiting a c₁ c o₁ o₂ em x₁ z y₁ n =
      let j : Keeps w f g (suc c₁) true =
      subst (λ (p : Bool). Keeps w f g (suc c₁) p) (ap (λ (b : Bool). b || false) z) (next-wait c₁ false (none-to a c₁ o₁ em x₁) (y₁ c₁ (omega arith) (omega arith))).0 in
      let q : suc c₁ + (c - c₁) ≡ suc c = omega arith in
      not-both (keeps-at true q (wait-n (suc c₁) (c - c₁) j (λ t l h. y₁ t (omega arith) (omega arith)))).0 n

  step-one : (was p x : Bool) → (x || p) ≡ true → call_step true was p x true ≡ after false true
  unfolding call_step
  step-one was p x z = rw z refl

  step-first : (p x : Bool) → (x || p) ≡ true → call_step false false p x true ≡ after true true
  unfolding call_step
  step-first p x z = rw z refl

  step-on : (x : Bool) → call_step false true true x true ≡ after true true
  unfolding call_step
  step-on true = refl
  step-on false = refl

  step-off : call_step false true true false false ≡ after false false
  unfolding call_step
  step-off = refl

  pub record Returns (a c e : ℕ) : Type 0 where
    pub quiet : Quiet (returned w f g) a c
    pub pulse : Pulse w (returned w f g) c e
    pub none : c + gap w ≤ e → NoCall w f g e

  -- a comes at c₁, and then b at c; before c₁ b may have been anything
  module _ (pos : 1 ≤ w) (a c₁ c e : ℕ) (o : e ≤ c + gap w) (o' : c < e) (o₁ : a ≤ c₁) (o₂ : c₁ ≤ c) (em : NoCall w f g a)
      (x₁ : Quiet f a c₁) (x : Pulse w f c₁ e) (y₁ : Quiet g c₁ c) (y : Pulse w g c e) where
    early : Keeps w f g c₁ false
    early = none-to a c₁ o₁ em x₁

    ready : (p : Bool) × ((f c || p) ≡ true) × Keeps w f g c p
    ready =
        let z : f c₁ ≡ true = x.high c₁ (omega arith) (omega arith) (omega arith) in
        by_le c c₁ (λ k. let q : c₁ ≡ c = omega arith in (false, ap (λ (b : Bool). b || false) (at f q z), keeps-at false q early))
        (λ k.
        let j : Keeps w f g (suc c₁) true =
        subst (λ (p : Bool). Keeps w f g (suc c₁) p) (ap (λ (b : Bool). b || false) z) (next-wait c₁ false early (y₁ c₁ (omega arith) k)).0 in
        (true, or-true (f c), keeps-at true (omega arith) (wait-n (suc c₁) (c - suc c₁) j (λ t l h. y₁ t (omega arith) (omega arith)))))

    wait-out : Quiet (returned w f g) c₁ c
    wait-out t l h =
        by_le t c₁ (λ k. let q : c₁ ≡ t = omega arith in at (returned w f g) q (next-wait c₁ false early (y₁ c₁ (omega arith) (omega arith))).1)
        (λ k.
        let z : f c₁ ≡ true = x.high c₁ (omega arith) (omega arith) (omega arith) in
        let j : Keeps w f g (suc c₁) true =
        subst (λ (p : Bool). Keeps w f g (suc c₁) p) (ap (λ (b : Bool). b || false) z) (next-wait c₁ false early (y₁ c₁ (omega arith) (omega arith))).0 in
        let q : suc c₁ + (t - suc c₁) ≡ t = omega arith in
        (next-wait t true (keeps-at true q (wait-n (suc c₁) (t - suc c₁) j (λ u l' h'. y₁ u (omega arith) (omega arith)))) (y₁ t l h)).1)

    so_far : Quiet (returned w f g) a c
    so_far t l h = by_le c₁ t (λ k. wait-out t k h) (λ k. none_out a c₁ em x₁ t l k)

    here : g c ≡ true
    here = y.high c (omega arith) (omega arith) (omega arith)

    returns_one : w ≡ 1 → Returns a c e
    unfolding returned
    returns_one one =
        let r = ready in
        let k : call_before w f g (suc c) ≡ after false true =
        next c true (call_before w f g c).out r.0 (f c) true (eq-eqb w 1 one) refl r.2.0 refl here
        ∙ step-one (call_before w f g c).out r.0 (f c) r.1 in
        let z = gap-one w one in
        let q : suc c ≡ e = omega (arith, z) in
        record {
          quiet = so_far;
          pulse = record {
            high = λ t l h j. subst (λ (t : ℕ). (call_before w f g (suc t)).out ≡ true) (omega (arith, one)) (ap (λ (c : Call). c.out) k);
            low = λ t l h. absurd (omega (arith, z, one));
          };
          none = λ j. subst (λ (t : ℕ). NoCall w f g t) q (ap (λ (c : Call). c.held) k);
        }

    module _ (wide : 2 ≤ w) where
      one : eqb w 1 ≡ false
      one = ne_eqb w 1 (λ q. omega arith)

      on-n : (n : ℕ) → n < w → c + n < e → call_before w f g (suc (c + n)) ≡ after true true
      on-n zero l h =
          let r = ready in
          subst (λ (t : ℕ). call_before w f g (suc t) ≡ after true true) (omega arith)
          (next c false false r.0 (f c) true one (r.2.1 one) r.2.0 refl here ∙ step-first r.0 (f c) r.1)
      on-n (suc n) l h =
          let i : call_before w f g (suc (c + n)) ≡ after true true = on-n n (omega arith) (omega arith) in
          subst (λ (t : ℕ). call_before w f g (suc t) ≡ after true true) (omega arith)
          (next (suc (c + n)) false true true (f (suc (c + n))) true one (ap (λ (c : Call). c.out) i) (ap (λ (c : Call). c.held) i) refl
          (y.high (suc (c + n)) (omega arith) (omega arith) (omega arith))
          ∙ step-on (f (suc (c + n))))

      off : c + w < e → call_before w f g (suc (c + w)) ≡ after false false
      off l =
          let q : suc (c + (w - 1)) ≡ c + w = omega arith in
          let i : call_before w f g (c + w) ≡ after true true = subst (λ (t : ℕ). call_before w f g t ≡ after true true) q (on-n (w - 1) (omega arith) (omega arith)) in
          next (c + w) false true true false false one (ap (λ (c : Call). c.out) i) (ap (λ (c : Call). c.held) i)
          (x.low (c + w) (omega arith) l) (y.low (c + w) (omega arith) l)
          ∙ step-off

      returns-wide : Returns a c e
      unfolding returned
      returns-wide =
          let z = gap-wide w wide in
          record {
            quiet = so_far;
            pulse = record {
              high = λ t l h j.
                  subst (λ (t : ℕ). (call_before w f g (suc t)).out ≡ true) (omega arith)
                  (ap (λ (c : Call). c.out) (on-n (t - c) (omega arith) (omega arith)));
              low = λ t l h.
                  let q : c + w ≡ t = omega (arith, z) in
                  subst (λ (t : ℕ). (call_before w f g (suc t)).out ≡ false) q (ap (λ (c : Call). c.out) (off (omega arith)));
            };
            none = λ j.
                let q : suc (c + w) ≡ e = omega (arith, z) in
                let k = off (omega (arith, z)) in
                subst (λ (t : ℕ). NoCall w f g t) q (ap (λ (c : Call). c.held) k);
          }

    pub returns : Returns a c e
    returns = by_le 2 w (λ k. returns-wide k) (λ k. returns_one (omega arith))

-- In a netlist -----------------------------------------------------------------------------------------------------------------------

-- it is the paper's merge
step_is : (one was held x y : Bool)
    → return_step one was (record { a = held; b = false }) x y
    ≡ record { held = record { a = (call_step one was held x y).held; b = false }; out = (call_step one was held x y).out }
unfolding call_step
step_is true was held x y = refl
step_is false was held x y = refl

pub call-is : (w : ℕ) (f g : Sig) (t : ℕ)
    → merged_before (return_step (eqb w 1)) f g t ≡ record { held = record { a = (call_before w f g t).held; b = false }; out = (call_before w f g t).out }
unfolding merged_before call_before
call-is w f g zero = refl
call-is w f g (suc t) =
    ap (λ (m : Merged). return_step (eqb w 1) m.out m.held (f t) (g t)) (call-is w f g t)
    ∙ step_is (eqb w 1) (call_before w f g t).out (call_before w f g t).held (f t) (g t)

pub returned-is : (w : ℕ) (f g : Sig) (t : ℕ) → returned w f g t ≡ merged (return_step (eqb w 1)) f g t
unfolding merged returned
returned-is w f g t = sym (ap (λ (m : Merged). m.out) (call-is w f g (suc t)))
