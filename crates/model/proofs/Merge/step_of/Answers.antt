-- The step of a merge of either kind is the definition, case by case. Assumes nothing.
use mathlib.Core.Path.{◌≡◌, refl, sym, ◌∙◌, ap}
use Prim.Native.Nat.{ℕ}
use lib.Dec.{eqb}
use borrow.Author.Tests.{eq-eqb, ne_eqb}
use Rattle.model.specs.Circuit.{merge_step, return_step, Step, step_of}
use Rattle.model.proofs.Merge.step_of.Goals as goal

call_step : (w k : ℕ) → k ≡ 39 → step_of w k ≡ return_step (eqb w 1)
unfolding step_of
call_step w k e = rw (eq-eqb _ _ e) refl

other_step : (w k : ℕ) → (k ≡ 39 → ⊥) → step_of w k ≡ merge_step (eqb w 1)
unfolding step_of
other_step w k e = rw (ne_eqb _ _ e) refl

pub returns-then-kind-eq39 : goal.returns-then-kind-eq39
returns-then-kind-eq39 c =
    let args = c.args in
    c.step_call.ensures ∙ sym (ap (λ (f : Step). f args.was args.self args.a args.b) (call_step args.pulse args.kind c.if-kind-eq39.true))

pub returns : goal.returns
returns c =
    let args = c.args in
    c.step.ensures ∙ sym (ap (λ (f : Step). f args.was args.self args.a args.b) (other_step args.pulse args.kind c.if-kind-eq39.false))
