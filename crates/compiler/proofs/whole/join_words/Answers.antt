-- `whole::join_words` meets its contract. Assumes nothing.
use native.Mathlib.Omega.{arith}
use Rattle.compiler.proofs.Assembly.{own-marks, datas-ready, addresses-ready, walked}
use Rattle.compiler.proofs.whole.join_words.Goals as goal

pub shared_ref_as_front-own : goal.shared_ref_as_front-own
shared_ref_as_front-own c = omega (arith, own-marks c.requires.put)

pub put_ors-joined-requires : goal.put_ors-joined-requires
put_ors-joined-requires c = datas-ready c.requires.put

pub put_ors-addressed-requires : goal.put_ors-addressed-requires
put_ors-addressed-requires c =
    let datas = c.put_ors-joined in
    rw datas.auto.cells (addresses-ready c.requires.put datas.ensures)

pub returns : goal.returns
returns c =
    λ S before ms p. walked p c.put_ors-joined.ensures c.put_ors-addressed.ensures
