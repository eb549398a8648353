-- `take_in` meets its contract. Assumes nothing.
use mathlib.Core.Path.{◌∙◌}
use Rattle.state.proofs.Places.{full-in, counter-in}
use Rattle.state.proofs.lines.take_in.Goals as goal

pub returns-in-Full : goal.returns-in-Full
returns-in-Full c =
    let args = c.args in
    let base-call = c.base-at in
    let enum_told = c.in-Full in
    c.shift_line.ensures ∙ full-in args.format args.state.now args.k _ base-call.ensures args.d args.input c.in-Full.is

pub returns-in-Compact : goal.returns-in-Compact
returns-in-Compact c =
    let args = c.args in
    let base-call = c.base-at in
    let enum-told2 = c.in-Compact in
    c.count_down.ensures ∙ counter-in args.format args.state.now args.k _ base-call.ensures args.d args.input c.in-Compact.is
