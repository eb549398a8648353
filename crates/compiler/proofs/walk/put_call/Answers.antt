-- `walk::put_call` meets its contract. Assumes nothing.
use mathlib.Core.Path.{refl}
use native.Mathlib.Omega.{arith}
use Rattle.compiler.proofs.Growth.{marks-over}
use Rattle.compiler.proofs.walk.put_call.Goals as goal

pub returns : goal.returns
returns c =
    record {
      cells = rw (c.from-p.ensures, c.put.ensures) at c.put-2.ensures;
      marks = marks-over c.args.marks.now _ _ c.args.at.mark c.copy_from_slice.ensures.after (omega arith) (omega (arith, c.requires.3));
      place = refl;
    }
