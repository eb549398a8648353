-- `check_run` meets its contract. Assumes nothing.
use mathlib.Core.Path.{sym, ◌∙◌}
use native.Mathlib.Omega.{arith}
use lib.ListN.{length}
use Rattle.model.specs.declared.Format.TheVariants.{Full}
use Rattle.netlist.proofs.Headers.{header-count}
use Rattle.state.proofs.Files.{sized}
use Rattle.simulator.proofs.Refusing.{header-room, run-room}
use Rattle.simulator.proofs.checks.check_run.Goals as goal

pub check_room-requires : goal.check_room-requires
check_room-requires c =
    let args = c.args in
    let accepted = sym c.in_ok-check_file.ensures in
    omega (arith, header-count args.file.now c.header_of-h.ensures, (sized args.file.now accepted).few)

pub returns : goal.returns
returns c =
    let args = c.args in
    let accepted = sym c.in_ok-check_file.ensures in
    c.check_room.ensures
    ∙ header-room Full args.file.now _ c.header_of-h.ensures (length args.state.now)
    ∙ run-room args.file.now args.words.now args.budget args.state.now accepted (sym c.in_ok-check_asked.ensures.checks)
