-- `check_begin` meets its contract. Assumes nothing.
use mathlib.Core.Path.{sym, ◌∙◌}
use native.Mathlib.Omega.{arith}
use lib.ListN.{drop}
use Rattle.model.specs.Calls.{begin_checks}
use Rattle.netlist.proofs.Headers.{header-count}
use Rattle.state.proofs.Files.{sized}
use Rattle.simulator.proofs.Refusing.{header-formed, header-lent, accepts}
use Rattle.simulator.proofs.checks.check_begin.Goals as goal

pub check_lent-requires : goal.check_lent-requires
check_lent-requires c =
    let args = c.args in
    let accepted = sym c.in_ok-check_file.ensures in
    omega (arith, header-count args.file.now c.header_of-h.ensures, (sized args.file.now accepted).few)

pub returns : goal.returns
returns c =
    let header_of = c.header_of-h in
    let args = c.args in
    let checks = begin_checks args.format args.file.now args.words.now args.state.now in
    let header = header_of.ensures in
    let formed = sym (header-formed args.format args.file.now _ header) ∙ sym c.in_ok-check_format.ensures in
    accepts (drop 1 checks) (sym c.in_ok-check_file.ensures)
    (accepts (drop 2 checks) formed (c.check_lent.ensures ∙ header-lent args.format args.file.now _ header args.words.now args.state.now))
