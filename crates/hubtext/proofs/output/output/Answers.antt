-- `output::output` meets its contract, by cases on what reading tells. Assumes nothing.
use mathlib.Core.Path.{sym, ◌∙◌}
use native.Mathlib.Omega.{arith}
use lib.ListN.{length-take}
use Rattle.hubtext.proofs.Outputs.{done-put, refused-output, done-fits}
use Rattle.hubtext.proofs.output.output.Goals as goal

pub slice_bounds-program-end : goal.slice_bounds-program-end
slice_bounds-program-end c =
    let told = rw c.defaults.ensures at c.read_text.ensures in
    omega (arith, done-fits c.args.source.now _ _ (sym told.answer ∙ c.in-Ok.is), c.read_text.auto.program)

pub slice_bounds-put_bytes-end-in-Ok : goal.slice_bounds-put_bytes-end-in-Ok
slice_bounds-put_bytes-end-in-Ok c =
    let told = rw c.defaults.ensures at c.read_text.ensures in
    simp length-take (omega (arith, done-fits c.args.source.now _ _ (sym told.answer ∙ c.in-Ok.is), c.read_text.auto.program))

pub put_bytes-requires : goal.put_bytes-requires
put_bytes-requires c =
    let told = rw c.defaults.ensures at c.read_text.ensures in
    simp length-take (omega (arith, done-fits c.args.source.now _ _ (sym told.answer ∙ c.in-Ok.is), c.read_text.auto.program))

pub returns-in-Ok : goal.returns-in-Ok
returns-in-Ok c =
    let told = rw c.defaults.ensures at c.read_text.ensures in
    let clauses = done-put c.args.source.now _ _ (sym told.answer ∙ c.in-Ok.is) c.args.out.now told.lent (omega arith) (c.put_bytes.ensures.next, c.put_bytes.ensures.out) in
    record { length = clauses.0; out = clauses.1 }

pub returns-in-Err : goal.returns-in-Err
returns-in-Err c =
    let told = rw c.defaults.ensures at c.read_text.ensures in
    rw (refused-output c.args.source.now _ (sym told.answer ∙ c.in-Err.is)) (record { length = c.put_refusal.ensures.next; out = c.put_refusal.ensures.out })
