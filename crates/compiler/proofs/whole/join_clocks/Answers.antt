-- `whole::join_clocks` meets its contract. Assumes nothing.
use native.Mathlib.Omega.{arith}
use Rattle.compiler.proofs.Assembly.{own-marks, clocks-ready, clocked}
use Rattle.compiler.proofs.whole.join_clocks.Goals as goal

pub shared_ref_as_front-put_ors : goal.shared_ref_as_front-put_ors
shared_ref_as_front-put_ors c = omega (arith, own-marks c.requires.put)

pub put_ors-joined-requires : goal.put_ors-joined-requires
put_ors-joined-requires c = clocks-ready c.requires.put

pub returns : goal.returns
returns c = λ S before ms p. clocked p c.put_ors-joined.ensures
