-- `compile` meets its contract. Assumes nothing.
use mathlib.Core.Path.{◌∙◌}
use native.Mathlib.Omega.{arith}
use Rattle.laws.specs.Refusals.Laws.{handed_on}
use Rattle.functional.proofs.Call.{scanned-main, compile-refused, compile-short, compile-done}
use Rattle.functional.proofs.compile.Goals as goal

pub returns-in_err-told : goal.returns-in_err-told
returns-in_err-told c =
    let clauses = compile-refused c.args.options _ _ c.in_err-told.ensures in rw (handed_on _ c.from_residual.ensures.1) record { answer = clauses.0; lent = clauses.1 }

pub count_main-n-requires : goal.count_main-n-requires
count_main-n-requires c =
    scanned-main c.args.options _ c.in_ok-told.ensures.0 c.in_ok-told.ensures.1

pub returns-then-file-count : goal.returns-then-file-count
returns-then-file-count c =
    let clauses = compile-short c.args.options _ c.in_ok-told.ensures.0
    c.count_main-n.ensures.cells (omega (arith, c.if-file-count.true)) in record { answer = c.refuse.ensures ∙ clauses.0; lent = clauses.1 }

pub put_file-finish-requires : goal.put_file-finish-requires
put_file-finish-requires c = (
  scanned-main c.args.options _ c.in_ok-told.ensures.0 c.in_ok-told.ensures.1,
  c.count_main-n.ensures.cells,
  omega (arith, c.if-file-count.false),
)

pub returns : goal.returns
returns c =
    let clauses = compile-done c.args.options _ c.in_ok-told.ensures.0
    c.count_main-n.ensures.cells _ (omega (arith, c.if-file-count.false)) c.put_file-finish.ensures.finish c.put_file-finish.ensures.lent in rw c.blocks_for-count.ensures record { answer = clauses.0; lent = clauses.1 }
