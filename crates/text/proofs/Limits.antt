-- A mode that wants a delay comes only after `@` or `tick`, so the number that is read there is a byte. Assumes nothing.
use Rattle.std.proofs.Common.{◌≡◌, ℕ, ◌≤◌, Bool, true, false, ◌&&◌, ◌||◌, eqb, leb, refl, arith, eqb-true}
use Rattle.model.specs.declared.texts.Mode.{Mode}
use Rattle.model.specs.declared.texts.Mode.TheVariants.{Statement, AfterStatement, Operand, AfterOperand, Becomes, Ticks, Delay, Body, Broken}
use Rattle.model.specs.declared.texts.Token.{Token}
use Rattle.model.specs.Word.{pick}
use Rattle.model.specs.Text.{limit_after}
use Rattle.model.specs.Reader.{Reader, pop, top_code, comparison, leaf, opened, opened_node, between, closed, turned, reduced, with_delay, on_statement, on_operand, on_after_operand, on_after_statement, on_delay, on_body, step_of}
use Rattle.laws.specs.Refusals.Laws.{by_bool, and-true}
use Rattle.text.specs.Shown.{limit_of}

most-limit : (p : ℕ) → limit_after p ≤ 65535
unfolding limit_after
most-limit p = by_bool (eqb p 37 || eqb p 17) (λ e. rw e (omega arith)) (λ e. rw e (omega arith))

least-mode : (m : Mode) → 255 ≤ limit_of m
unfolding limit_of
least-mode Statement = omega arith
least-mode AfterStatement = omega arith
least-mode Operand = omega arith
least-mode AfterOperand = omega arith
least-mode Becomes = omega arith
least-mode Ticks = omega arith
least-mode Delay = omega arith
least-mode Body = omega arith
least-mode Broken = omega arith

-- the mode that comes after the token admits every number that may come after it
pub record Admits (t : Token) (r : Reader) : Type 0 where
  pub fits : limit_after t.code ≤ limit_of r.mode

module _ (t : Token) where
  chosen : (b : Bool) {x y : Reader} → (b ≡ true → Admits t x) → Admits t y → Admits t (pick b x y)
  chosen true f q = f refl
  chosen false f q = q

  narrow : (r : Reader) → limit_after t.code ≡ 255 → Admits t r
  narrow r e = record { fits = omega (arith, least-mode r.mode) }

  wide : (r : Reader) → limit_of r.mode ≡ 65535 → Admits t r
  wide r e = record { fits = omega (arith, most-limit t.code) }

  tick : eqb t.code 17 ≡ true → limit_after t.code ≡ 255
  unfolding limit_after
  tick e = rw (eqb-true t.code 17 e) refl

  at : (b : Bool) → (eqb t.code 37 && b) ≡ true → limit_after t.code ≡ 255
  unfolding limit_after
  at b e = rw (eqb-true t.code 37 (and-true (eqb t.code 37) b e).0) refl

  module _ (r : Reader) where
    on-statement : Admits t (on_statement t r)
    unfolding on_statement leaf opened opened_node limit_of
    on-statement =
        let c = t.code in
        chosen (eqb c 16) (λ e. wide _ refl)
        (chosen (eqb c 17) (λ e. narrow _ (tick e))
        (chosen (eqb c 2) (λ e. wide _ refl)
        (chosen (eqb c 21 || eqb c 22) (λ e. wide _ refl)
        (chosen (eqb c 23) (λ e. wide _ refl)
        (chosen (eqb c 40) (λ e. wide _ refl) (wide _ refl))))))

    on-operand : Admits t (on_operand t r)
    unfolding on_operand leaf opened opened_node limit_of
    on-operand =
        let c = t.code in
        chosen (eqb c 1 || eqb c 2) (λ e. wide _ refl) (chosen (eqb c 3) (λ e. wide _ refl) (chosen (eqb c 38) (λ e. wide _ refl) (wide _ refl)))

    on-after-operand : Admits t (on_after_operand t r)
    unfolding on_after_operand between closed limit_of
    on-after-operand =
        let c = t.code in
        let top = top_code (reduced r).frames in
        chosen (leb 4 c && leb c 9)
        (λ e. chosen (comparison c && comparison (top_code (pop 7 r.start r.frames).frames)) (λ f. wide _ refl) (wide _ refl))
        (chosen (eqb c 39 && eqb top 38) (λ e. wide _ refl)
        (chosen (eqb c 37 && ((eqb top 18 || eqb top 21) || (eqb top 22 || eqb top 35)))
        (λ e. narrow _ (at ((eqb top 18 || eqb top 21) || (eqb top 22 || eqb top 35)) e))
        (wide _ refl)))

    on-after-statement : Admits t (on_after_statement t r)
    unfolding on_after_statement between closed turned limit_of
    on-after-statement =
        let c = t.code in
        let top = top_code (reduced r).frames in
        chosen (eqb c 19 || eqb c 20) (λ e. wide _ refl)
        (chosen (eqb c 41 && eqb top 40) (λ e. wide _ refl)
        (chosen (eqb c 33 && eqb top 32) (λ e. wide _ refl)
        (chosen (eqb c 36 && (eqb top 33 || eqb top 34)) (λ e. wide _ refl)
        (chosen (eqb c 35 && eqb top 23) (λ e. wide _ refl) (wide _ refl)))))

    on-delay : Admits t (on_delay t r)
    unfolding on_delay closed with_delay limit_of
    on-delay =
        chosen (eqb t.code 1) (λ e. chosen (eqb (top_code r.frames) 18) (λ f. wide _ refl) (wide _ refl)) (wide _ refl)

    on-body : Admits t (on_body t r)
    unfolding on_body closed turned limit_of
    on-body =
        let c = t.code in
        let top = top_code r.frames in
        chosen (eqb c 32 && eqb top 21) (λ e. wide _ refl)
        (chosen (eqb c 34 && eqb top 22) (λ e. wide _ refl)
        (chosen (eqb c 36 && eqb top 35) (λ e. wide _ refl) (wide _ refl)))

    pub admits-step : (m : Mode) → r.mode ≡ m → Admits t (step_of m t r)
    unfolding step_of with_delay limit_of
    admits-step Statement e = on-statement
    admits-step AfterStatement e = on-after-statement
    admits-step Operand e = on-operand
    admits-step AfterOperand e = on-after-operand
    admits-step Becomes e = chosen (eqb t.code 18) (λ f. wide _ refl) (wide _ refl)
    admits-step Ticks e = chosen (eqb t.code 1) (λ f. wide _ refl) (wide _ refl)
    admits-step Delay e = on-delay
    admits-step Body e = on-body
    admits-step Broken e = wide r (rw e refl)
