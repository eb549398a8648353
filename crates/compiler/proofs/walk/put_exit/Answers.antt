-- `walk::put_exit` meets its contract. Assumes nothing.
use mathlib.Core.Path.{refl}
use native.Mathlib.Omega.{arith}
use Rattle.compiler.proofs.Exits.{exit-opened}
use Rattle.compiler.proofs.walk.put_exit.Goals as goal

pub returns : goal.returns
returns c =
    let pre = c.requires in
    record { place = refl; outs = exit-opened (omega (arith, pre.0, pre.1)) }
