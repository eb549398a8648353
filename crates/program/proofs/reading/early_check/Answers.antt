-- Refusals 1 to 6, in their order.
use mathlib.Core.Path.{◌≡◌, refl, sym, ◌∙◌, ap}
use mathlib.Core.Bool.{Bool, ◌||◌}
use mathlib.Core.List.{List}
use Prim.Native.Nat.{ℕ}
use lib.Dec.{ltb}
use borrow.Author.Tests.{ltb-false}
use Rattle.model.specs.ProgramChecks.{program_length_wrong, too_many_procedures}
use Rattle.laws.specs.Refusals.Laws.{first_one, or-false, handed_on}
use Rattle.laws.specs.Program.Passed.{right-length}
use Rattle.program.proofs.reading.early_check.Goals as goal

-- the test of refusal 1
beside : (k : ℕ) (s : List ℕ) (l b : Bool) → l ≡ program_length_wrong s → (ltb 8 k || l) ≡ b → (too_many_procedures k || program_length_wrong s) ≡ b
unfolding too_many_procedures
beside k s l b e f = ap (λ (l : Bool). ltb 8 k || l) (sym e) ∙ f

pub returns-then-procedures-length_wrong : goal.returns-then-procedures-length_wrong
returns-then-procedures-length_wrong c = λ τ w.
    let args = c.args in
    rw (beside args.procedures _ _ _ c.length_wrong.ensures c.if-procedures-length_wrong.true) c.refuse.ensures

pub first_misread-requires : goal.first_misread-requires
first_misread-requires c =
    let length-wrong = c.length_wrong in
    let if1 = c.if-procedures-length_wrong in
    let args = c.args in
    let b = or-false (ltb 8 args.procedures) _ if1.false in
    (right-length _ (sym length-wrong.ensures ∙ b.1), ltb-false 8 _ b.0)

pub returns-in_err-first_fault : goal.returns-in_err-first_fault
returns-in_err-first_fault c = λ τ w.
    let length-wrong = c.length_wrong in
    let if1 = c.if-procedures-length_wrong in
    rw (beside _ _ _ _ length-wrong.ensures if1.false, ← c.first_fault.ensures, c.in_err-first_fault.was, handed_on _ c.from_residual.ensures.1) refl

pub returns : goal.returns
returns c = λ τ w.
    let length-wrong = c.length_wrong in
    let if1 = c.if-procedures-length_wrong in
    let first-fault = c.first_fault in
    rw (beside _ _ _ _ length-wrong.ensures if1.false, ← first-fault.ensures, c.in_ok-first_fault.was) (c.first_misread.ensures ∙ first_one _)
