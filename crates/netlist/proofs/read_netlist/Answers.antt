-- `read_netlist` meets its contract. Assumes nothing.
use Rattle.std.proofs.Common.{◌+◌, ◌≡◌, sym, ◌∙◌, arith}
use Rattle.std.proofs.lemmas.Result.{err_from_is_err_and}
use Rattle.netlist.specs.declared.cells.Layout.TheVariants.{InFile}
use Rattle.netlist.specs.Offsets.{Room}
use Rattle.netlist.proofs.FileChecks.{accepted-whole, accepted-room}
use Rattle.netlist.proofs.Calls.{read-refused, read_short, read_done}
use Rattle.netlist.proofs.read_netlist.Goals as goal

pub returns-in_err-check_file : goal.returns-in_err-check_file
returns-in_err-check_file c =
    let args = c.args in
    let p = err_from_is_err_and c.from_residual.result c.from_residual.ensures.1 in
    let clauses = read-refused args.file.now args.cells.now (sym c.in_err-check_file.ensures) in record { answer = rw (p.1, p.2) clauses.0; lent = clauses.1 }

pub get16-count-requires : goal.get16-count-requires
get16-count-requires c =
    let args = c.args in
    let accepted = sym c.in_ok-check_file.ensures in
    omega (arith, accepted-whole args.file.now accepted)

pub get16-finish-requires : goal.get16-finish-requires
get16-finish-requires c =
    let args = c.args in
    let accepted = sym c.in_ok-check_file.ensures in
    omega (arith, accepted-whole args.file.now accepted)

pub returns-then-cells-count : goal.returns-then-cells-count
returns-then-cells-count c =
    let args = c.args in
    let accepted = sym c.in_ok-check_file.ensures in
    let clauses = read_short args.file.now args.cells.now accepted c.get16-count.ensures c.if-cells-count.true in record { answer = c.refuse.ensures ∙ clauses.0; lent = clauses.1 }

pub put_cells-requires : goal.put_cells-requires
put_cells-requires c =
    let args = c.args in
    let get16 = c.get16-count in
    let accepted = sym c.in_ok-check_file.ensures in
    let file = args.file.now in
    let z : 0 + get16.result ≡ get16.result = omega arith in
    let room : Room InFile file (0 + get16.result) = rw (z, get16.ensures) (accepted-room file accepted) in
    (room, omega arith)

pub returns : goal.returns
returns c =
    let args = c.args in
    let get16 = c.get16-count in
    let get162 = c.get16-finish in
    let accepted = sym c.in_ok-check_file.ensures in
    let clauses = read_done args.file.now args.cells.now accepted get16.ensures get162.ensures c.if-cells-count.false
    c.put_cells.ensures in record { answer = clauses.0; lent = clauses.1 }
