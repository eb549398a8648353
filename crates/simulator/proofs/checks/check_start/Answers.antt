-- `check_start` meets its contract. Assumes nothing.
use mathlib.Core.Path.{sym}
use native.Mathlib.Omega.{arith}
use Rattle.netlist.proofs.Headers.{header-finish, header-pulse}
use Rattle.state.proofs.Files.{file-sized, file-stands}
use Rattle.simulator.proofs.Refusing.{continue-accepted, start_right}
use Rattle.simulator.proofs.checks.check_start.Goals as goal

pub is_high-high-requires : goal.is_high-high-requires
is_high-high-requires c =
    let args = c.args in
    let runs = (continue-accepted args.format args.file.now 1 args.state.now (sym c.in_ok-check_continue.ensures)).0 in
    file-stands args.format args.file.now args.state.now runs _ (omega (arith, header-finish args.file.now c.header_of-h.ensures, (file-sized args.format args.file.now args.state.now runs).finish))

pub returns : goal.returns
returns c =
    let args = c.args in
    let header = c.header_of-h.ensures in
    start_right args.format args.file.now args.state.now (sym c.in_ok-check_continue.ensures)
    (rw (c.get32.ensures, c.is_high-high.ensures, header-pulse args.file.now header, header-finish args.file.now header) at c.if-get32-long.false)
