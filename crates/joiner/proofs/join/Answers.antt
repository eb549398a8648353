-- `join` meets its contract, outcome by outcome. Assumes nothing.
use mathlib.Core.Path.{sym, ◌∙◌}
use Rattle.model.specs.PartCalls.{parts_in}
use Rattle.laws.specs.Refusals.Laws.{handed_on}
use Rattle.joiner.proofs.Calling.{join-refused, given, pulse-low, room, join-writes}
use Rattle.joiner.proofs.join.Goals as goal

pub returns-in_err-check_parts : goal.returns-in_err-check_parts
returns-in_err-check_parts c =
    let args = c.args in
    let clauses = join-refused args.options (parts_in args.lengths.now args.pulses.now args.parts.now) args.netlist.now
    (sym c.check_parts.ensures ∙ c.in_err-check_parts.was) in
    record { answer = handed_on _ c.from_residual.ensures.1 ∙ clauses.0; lent = clauses.1 }

pub put_netlist-made-requires : goal.put_netlist-made-requires
put_netlist-made-requires c =
    let args = c.args in
    let e = sym c.check_parts.ensures ∙ c.in_ok-check_parts.was in
    record { options = _; pulses = _; given = given args.options args.lengths.now args.pulses.now args.parts.now e }

pub write_file-requires : goal.write_file-requires
write_file-requires c =
    let args = c.args in
    let put-netlist = c.put_netlist-made in
    let lengths = args.lengths.now in
    let pulses = args.pulses.now in
    let parts = args.parts.now in
    let e = sym c.check_parts.ensures ∙ c.in_ok-check_parts.was in
    let made = put-netlist.ensures _ pulses (given args.options lengths pulses parts e) in
    rw c.from.ensures (room args.options lengths pulses parts e made put-netlist.auto.cells, pulse-low args.options lengths pulses parts e (c.from-2.ensures ∙ c.pulse.ensures))

pub returns : goal.returns
returns c =
    let args = c.args in
    let put-netlist = c.put_netlist-made in
    let lengths = args.lengths.now in
    let pulses = args.pulses.now in
    let parts = args.parts.now in
    let e = sym c.check_parts.ensures ∙ c.in_ok-check_parts.was in
    let made = put-netlist.ensures _ pulses (given args.options lengths pulses parts e) in
    rw (join-writes args.options lengths pulses parts e made args.netlist.now (c.from-2.ensures ∙ c.pulse.ensures)) (rw c.from.ensures at c.write_file.ensures)
