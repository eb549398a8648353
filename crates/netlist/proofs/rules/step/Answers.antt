-- `rules::step` meets its contract. Assumes nothing.
use Rattle.std.proofs.Common.{◌<◌, length, sym, ◌∙◌, arith}
use Rattle.model.specs.Word.{bit}
use Rattle.netlist.proofs.CellChecks.{cell-fault, placed-more, scan-more}
use Rattle.netlist.proofs.rules.step.Goals as goal

pub returns : goal.returns
unfolding bit
returns c =
    let args = c.args in
    let pre = c.requires in
    let keeps = c.keeps_rule-keeps.ensures in
    let past = c.past_memories-arrays in
    let placed = c.is_placed.ensures in
    let arrays = c.arrays_placed.ensures in
    λ net f st p.
    let h : args.k < length net = omega (arith, pre.0, p.count) in
    let fault = cell-fault net args.k args.c st.here placed (arrays ∙ placed-more h p args.c past.result past.ensures) (keeps net (sym p.count) st) in
    scan-more h p _ st.here fault c.with_next-kept.ensures past.ensures c.from-memory.ensures c.is_control.ensures
