-- The first of the cells that are left, and those behind it. Assumes nothing.
use Rattle.std.proofs.Common.{◌≡◌, ◌∷◌, ◌+◌, ◌-◌, length, refl, ◌∙◌, ap, arith, rules}
use Rattle.netlist.specs.Offsets.{offset}
use Rattle.netlist.specs.Left.{cells_left}
use Rattle.model.specs.NetlistFile.{cells_at}
use Rattle.netlist.proofs.Bytes.{cell-fits, cells-more, cells-none}
use Rattle.netlist.proofs.cells.CellsIterator.next.Goals as goal
use Rattle.netlist.proofs.cells.CellsIterator.next.Goals.{After-cell_at-c}

pub cell_at-c-requires : goal.cell_at-c-requires
cell_at-c-requires c =
    let it = c.args.self.now in
    (omega (arith, it.room.few, c.if-self.false), cell-fits it.room it.next c.if-self.false)

pub returns-then-self-clause-steps : goal.returns-then-self-clause-steps
returns-then-self-clause-steps c =
    let it = c.args.self.now in
    let none = cells-none (offset it.layout) it.bytes.now it.next (it.end - it.next) (omega (arith, c.if-self.true)) in
    (none, none)

first-given : (c : After-cell_at-c) → cells_left c.args.self.now
    ≡ c.cell_at-c.result ∷ cells_at (offset c.args.self.now.layout) c.args.self.now.bytes.now (c.args.self.now.next + 1) (c.args.self.now.end - (c.args.self.now.next + 1))
first-given c =
    let it = c.args.self.now in
    let less : it.end - it.next - 1 ≡ it.end - (it.next + 1) = omega arith in
    cells-more (offset it.layout) it.bytes.now it.next (it.end - it.next) (omega (arith, c.if-self.false)) ∙ rw (c.cell_at-c.ensures, less) refl

pub returns-clause-steps : goal.returns-clause-steps
returns-clause-steps c = first-given (goal.at.returns-clause-steps c).After-cell_at-c

pub returns-clause-goes : goal.returns-clause-goes
returns-clause-goes c =
    let shorter = ap length (first-given (goal.at.returns-clause-goes c).After-cell_at-c) in search rules
