-- `time_at` meets its contract. Assumes nothing.
use mathlib.Core.Path.{sym, ◌∙◌}
use Rattle.slow.proofs.ByKind.{time-read, time-other, time-behind}
use Rattle.slow.proofs.gates.time_at.Goals as goal

pub returns-then-kind-eq44 : goal.returns-then-kind-eq44
returns-then-kind-eq44 c =
    let args = c.args in
    c.entry.ensures ∙ sym (time-read args.times.now args.ors args.k args.kind c.if-k-ors.true c.if-kind-eq44.true)

pub returns-then-k-ors : goal.returns-then-k-ors
returns-then-k-ors c =
    let args = c.args in
    (rw c.from.ensures at c.entry-then-k-ors.ensures) ∙ sym (time-other args.times.now args.ors args.k args.kind c.if-k-ors.true c.if-kind-eq44.false)

pub returns : goal.returns
returns c =
    let args = c.args in
    sym (time-behind args.times.now args.ors args.k args.kind c.if-k-ors.false)
