-- `walk::put_delays` meets its contract. Assumes nothing.
use mathlib.Core.Path.{refl}
use native.Mathlib.Omega.{arith}
use Rattle.compiler.proofs.Writes.{write_two}
use Rattle.compiler.proofs.Growth.{marks-over}
use Rattle.compiler.proofs.walk.put_delays.Goals as goal

pub returns : goal.returns
returns c =
    record {
      cells = write_two _ _ _ _ c.put.ensures c.put-2.ensures;
      marks = marks-over c.args.marks.now _ _ c.args.at.mark c.copy_from_slice.ensures.after (omega arith) (omega (arith, c.requires.2));
      place = refl;
    }
