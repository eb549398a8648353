-- `put_elements` meets its contract. Assumes nothing.
use native.Mathlib.Omega.{arith}
use Rattle.slow.proofs.Rings.{copied}
use Rattle.slow.proofs.instants.put_elements.Goals as goal

pub returns : goal.returns
returns c =
    let args = c.args in
    λ e l. copied args.work.now args.net.now.words.now _ _ c.slot-at.result (omega (arith, c.slot-at.ensures, c.requires.1)) c.requires.0 c.copy.ensures args.net.now.n e (omega (arith, c.slot-at.ensures)) l
