-- `write_netlist` meets its contract. Assumes nothing.
use Rattle.std.proofs.Common.{sym, ◌∙◌, arith}
use Rattle.std.proofs.lemmas.Result.{err_from_is_err_and}
use Rattle.netlist.proofs.Calls.{list-room, pulse-refused, count-refused, cells-refused, write-file}
use Rattle.netlist.proofs.write_netlist.Goals as goal

pub returns-then-pulse_wrong : goal.returns-then-pulse_wrong
returns-then-pulse_wrong c =
    let args = c.args in
    let clauses = pulse-refused args.pulse args.cells.now args.finish args.file.now (rw c.from-length.ensures at (sym c.pulse_wrong.ensures ∙ c.if-pulse_wrong.true)) in record { answer = c.refuse.ensures ∙ clauses.0; lent = clauses.1 }

pub returns-then-cells-count_wrong : goal.returns-then-cells-count_wrong
returns-then-cells-count_wrong c =
    let args = c.args in
    let pulse-right = rw c.from-length.ensures at (sym c.pulse_wrong.ensures ∙ c.if-pulse_wrong.false) in
    let cells = args.cells.now in
    let lent = args.file.now in
    let clauses = count-refused args.pulse cells args.finish lent pulse-right (rw (c.count_wrong.ensures, c.blocks_for.ensures) at c.if-cells-count_wrong.true) in record { answer = c.refuse-then-cells-count_wrong.ensures ∙ clauses.0; lent = clauses.1 }

pub check_cells-requires : goal.check_cells-requires
check_cells-requires c =
    let args = c.args in
    let pulse-right = rw c.from-length.ensures at (sym c.pulse_wrong.ensures ∙ c.if-pulse_wrong.false) in
    let cells = args.cells.now in
    let lent = args.file.now in
    let count-right = rw (c.count_wrong.ensures, c.blocks_for.ensures) at c.if-cells-count_wrong.false in
    list-room args.pulse cells args.finish lent pulse-right count-right

pub returns-in_err-check_cells : goal.returns-in_err-check_cells
returns-in_err-check_cells c =
    let args = c.args in
    let pulse-right = rw c.from-length.ensures at (sym c.pulse_wrong.ensures ∙ c.if-pulse_wrong.false) in
    let cells = args.cells.now in
    let lent = args.file.now in
    let count-right = rw (c.count_wrong.ensures, c.blocks_for.ensures) at c.if-cells-count_wrong.false in
    let p = err_from_is_err_and c.from_residual.result c.from_residual.ensures.1 in
    let clauses = cells-refused args.pulse cells args.finish lent pulse-right count-right (sym c.in_err-check_cells.ensures) in record { answer = rw (p.1, p.2) clauses.0; lent = clauses.1 }

pub write_file-requires : goal.write_file-requires
write_file-requires c =
    let args = c.args in
    let pulse-right = rw c.from-length.ensures at (sym c.pulse_wrong.ensures ∙ c.if-pulse_wrong.false) in
    let cells = args.cells.now in
    let count-right = rw (c.count_wrong.ensures, c.blocks_for.ensures) at c.if-cells-count_wrong.false in
    (list-room args.pulse cells args.finish args.file.now pulse-right count-right, omega (arith, c.from-length.ensures))

pub returns : goal.returns
returns c =
    let args = c.args in
    let pulse-right = rw c.from-length.ensures at (sym c.pulse_wrong.ensures ∙ c.if-pulse_wrong.false) in
    let count-right = rw (c.count_wrong.ensures, c.blocks_for.ensures) at c.if-cells-count_wrong.false in
    let cells_right = sym c.in_ok-check_cells.ensures in
    rw (write-file args.pulse args.cells.now args.finish args.file.now pulse-right count-right cells_right) (rw c.from-length.ensures at c.write_file.ensures)
