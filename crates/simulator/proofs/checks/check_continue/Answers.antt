-- `check_continue` meets its contract. Assumes nothing.
use mathlib.Core.Path.{sym, ◌∙◌}
use native.Mathlib.Omega.{arith}
use lib.ListN.{length}
use Rattle.std.proofs.lemmas.Result.{err_from_is_err_and}
use Rattle.netlist.proofs.Headers.{header-count}
use Rattle.state.proofs.Files.{sized}
use Rattle.simulator.proofs.Refusing.{header-formed, header-room, continue-room, continue-unsound, continue-late, continue-right, long-enough}
use Rattle.simulator.proofs.checks.check_continue.Goals as goal

pub check_room-requires : goal.check_room-requires
check_room-requires c =
    let args = c.args in
    let accepted = sym c.in_ok-check_file.ensures in
    omega (arith, header-count args.file.now c.header_of-h.ensures, (sized args.file.now accepted).few)

pub returns-in_err-check_room : goal.returns-in_err-check_room
returns-in_err-check_room c =
    let header_of = c.header_of-h in
    let args = c.args in
    let accepted = sym c.in_ok-check_file.ensures in
    let header = header_of.ensures in
    let formed = sym (header-formed args.format args.file.now _ header) ∙ sym c.in_ok-check_format.ensures in
    let p = err_from_is_err_and c.from_residual-in_err-check_room.result c.from_residual-in_err-check_room.ensures.1 in
    rw (p.1, p.2) (continue-room args.format args.file.now args.n args.state.now accepted formed _
    (sym (header-room args.format args.file.now _ header (length args.state.now)) ∙ sym c.in_err-check_room.ensures))

pub is_sound-requires : goal.is_sound-requires
is_sound-requires c =
    let header_of = c.header_of-h in
    let args = c.args in
    let accepted = sym c.in_ok-check_file.ensures in
    let header = header_of.ensures in
    let roomy = sym (header-room args.format args.file.now _ header (length args.state.now)) ∙ sym c.in_ok-check_room.ensures in
    (record { accepted = accepted; room = long-enough _ _ roomy }, header)

pub returns-then-not-is_sound : goal.returns-then-not-is_sound
returns-then-not-is_sound c =
    let header_of = c.header_of-h in
    let args = c.args in
    let accepted = sym c.in_ok-check_file.ensures in
    let header = header_of.ensures in
    let formed = sym (header-formed args.format args.file.now _ header) ∙ sym c.in_ok-check_format.ensures in
    let roomy = sym (header-room args.format args.file.now _ header (length args.state.now)) ∙ sym c.in_ok-check_room.ensures in
    c.refuse.ensures ∙ continue-unsound args.format args.file.now args.n args.state.now accepted formed roomy (sym c.is_sound.ensures ∙ c.if-not-is_sound.true)

pub returns-then-t-n : goal.returns-then-t-n
returns-then-t-n c =
    let header_of = c.header_of-h in
    let is-sound = c.is_sound in
    let args = c.args in
    let accepted = sym c.in_ok-check_file.ensures in
    let header = header_of.ensures in
    let formed = sym (header-formed args.format args.file.now _ header) ∙ sym c.in_ok-check_format.ensures in
    let roomy = sym (header-room args.format args.file.now _ header (length args.state.now)) ∙ sym c.in_ok-check_room.ensures in
    let right = sym is-sound.ensures ∙ c.if-not-is_sound.false in
    c.refuse-then-t-n.ensures ∙ continue-late args.format args.file.now args.n args.state.now accepted formed roomy right (omega (arith, c.get32-t.ensures))

pub returns : goal.returns
returns c =
    let header_of = c.header_of-h in
    let args = c.args in
    let accepted = sym c.in_ok-check_file.ensures in
    let header = header_of.ensures in
    let formed = sym (header-formed args.format args.file.now _ header) ∙ sym c.in_ok-check_format.ensures in
    let roomy = sym (header-room args.format args.file.now _ header (length args.state.now)) ∙ sym c.in_ok-check_room.ensures in
    let right = sym c.is_sound.ensures ∙ c.if-not-is_sound.false in
    continue-right args.format args.file.now args.n args.state.now accepted formed roomy right (omega (arith, c.get32-t.ensures))
