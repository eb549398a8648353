-- `read_cells` meets its contract: the cells below k are in the lists. Assumes nothing.
use Rattle.std.proofs.Common.{◌≡◌, sym, ◌∙◌, ap, ℕ, arith}
use native.Mathlib.Nat.{zero-add}
use Rattle.model.specs.Circuit.{cell_at}
use Rattle.model.specs.NetlistFile.{in_file, cells_at, cell_from}
use Rattle.laws.specs.NetlistFile.CellBytes.{cell-of}
use Rattle.engine_laws.specs.Decoded.{decoded-more}
use Rattle.engine_tables.proofs.cells.read_cells.Goals as goal

pub loop-k-preserved : goal.loop-k-preserved
loop-k-preserved c =
    let args = c.args in
    let loop = c.loop-k in
    let cells = cells_at in_file args.file.now 0 args.n in
    let here : cell_at cells loop.k ≡ cell_from args.file.now (in_file loop.k) =
    cell-of in_file args.file.now 0 args.n loop.k c.loop-k-test.true ∙ ap (λ (j : ℕ). cell_from args.file.now (in_file j)) (zero-add loop.k) in
    decoded-more cells loop.kind loop.delay loop.a loop.b loop.k c.cell_at-c.result (omega arith) (omega arith) (omega arith) (omega arith)
    (c.cell_at-c.ensures ∙ sym here) loop.invariant
