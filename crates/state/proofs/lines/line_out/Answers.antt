-- `line_out` meets its contract. Assumes nothing.
use mathlib.Core.Path.{◌∙◌}
use Rattle.state.proofs.Places.{full-out, counter-out}
use Rattle.state.proofs.lines.line_out.Goals as goal

pub returns-in-Full : goal.returns-in-Full
returns-in-Full c =
    let args = c.args in
    c.oldest.ensures ∙ full-out args.format args.state.now args.k _ c.base-at.ensures args.d c.in-Full.is

pub returns-in-Compact : goal.returns-in-Compact
returns-in-Compact c =
    let args = c.args in
    let base-call = c.base-at in
    let pre = c.requires in
    c.bit.ensures ∙ counter-out args.format args.state.now args.k _ base-call.ensures args.d c.in-Compact.is pre.1
