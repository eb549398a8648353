-- `checks::is_own` meets its contract. Assumes nothing.
use mathlib.Core.Path.{refl}
use Rattle.compiler.proofs.Call.{list-room}
use Rattle.laws.specs.Program.Passed.{accepted-pulse}
use Rattle.joiner.proofs.Refusing.{some-made, own-file}
use Rattle.joiner.proofs.checks.is_own.Goals as goal

pub list_accepted-made-requires : goal.list_accepted-made-requires
list_accepted-made-requires c =
    let pre = c.requires in
    (pre.0, refl)

pub is_file_of-requires : goal.is_file_of-requires
is_file_of-requires c =
    let list = c.list_accepted-made in
    let options = c.args.options in
    let program = c.args.program.now in
    let accepted = c.requires.0 in
    rw c.from.ensures (c.requires.1, list-room options program list.ensures accepted list.auto.cells, some-made options program list.ensures accepted, (accepted-pulse options program accepted).0)

pub returns : goal.returns
returns c =
    let args = c.args in
    let list-accepted = c.list_accepted-made in
    own-file args.options args.program.now list-accepted.ensures args.file.now (rw c.from.ensures at c.is_file_of.ensures)
