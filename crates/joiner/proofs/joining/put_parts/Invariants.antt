-- `joining::put_parts` meets its contract. The invariant: what is left of the sequence, whatever pulse lengths are lent, comes out as the whole. Assumes nothing.
use Rattle.std.proofs.Common.{◌≡◌, List, ℕ, length}
use Rattle.model.specs.declared.Options.{Options}
use Rattle.model.specs.PartCalls.{part_at}
use Rattle.joiner.specs.Lent.{parts_with, parts_left}
use Rattle.joiner.specs.Stands.{PartsReady}
use Rattle.joiner.proofs.Chaining.{Going}
use Rattle.joiner.proofs.joining.put_parts.Given as goal

abbrev pub invariant-loop-part : goal.invariant-loop-part
invariant-loop-part l =
    (length l.cells ≡ length l.initial.cells)
    × ((options : Options) (pulses : List ℕ) →
    let ps = parts_with l.fn.parts pulses in
    PartsReady options ps l.memory (length l.initial.cells)
    → Going (part_at ps 0).pulse l.memory ps l.initial.cells l.initial.marks (parts_left l.part-iterator) l.cells l.marks l.at)
