-- `joining::place_part` meets its contract. Assumes nothing.
use mathlib.Core.Path.{refl}
use Rattle.model.specs.Program.{stmt_at}
use Rattle.model.specs.NetlistFile.{pulse_of}
use Rattle.joiner.proofs.Walking.{part-ready, walk-room, walk-onward, marks-room, part-done}
use Rattle.joiner.proofs.joining.place_part.Goals as goal

pub put_part-end-requires : goal.put_part-end-requires
put_part-end-requires c =
    let args = c.args in
    let pre = c.requires in
    part-ready (pre) (c.own_of-own.ensures (pulse_of args.file.now) (stmt_at args.program.now 0) pre.compiled)

pub put_marks-mark-requires : goal.put_marks-mark-requires
put_marks-mark-requires c =
    let args = c.args in
    let own_of = c.own_of-own in
    let pre = c.requires in
    let put-part = c.put_part-end in
    let P = stmt_at args.program.now 0 in
    let own = own_of.ensures (pulse_of args.file.now) P pre.compiled in
    let done = put-part.ensures (pulse_of args.file.now) P own in
    rw (c.from.ensures, c.from-2.ensures) (walk-room (pre) refl done, walk-onward (pre) refl done, marks-room (pre) refl done _ refl c.put_gates.ensures.put)

pub returns : goal.returns
returns c =
    let args = c.args in
    let own_of = c.own_of-own in
    let pre = c.requires in
    let put-part = c.put_part-end in
    let P = stmt_at args.program.now 0 in
    let own = own_of.ensures (pulse_of args.file.now) P pre.compiled in
    let done = put-part.ensures (pulse_of args.file.now) P own in
    let marks = rw (c.from.ensures, c.from-2.ensures) at c.put_marks-mark.ensures in
    part-done (pre) refl done _ refl c.put_gates.ensures.put marks.next marks.put
