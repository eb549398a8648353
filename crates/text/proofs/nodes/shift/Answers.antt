-- `nodes::shift` meets its contract. The invariant: what stands from i on has moved. Assumes nothing.
use Rattle.std.proofs.Common.{◌≡◌, sym, arith}
use Rattle.text.proofs.Bytes.{shift_none, shift-more}
use Rattle.text.proofs.nodes.shift.Goals as goal

pub loop-i-init : goal.loop-i-init
loop-i-init c =
    let args = c.args in
    (c.requires.0, sym (shift_none args.nodes.now args.e c.requires.1))

pub loop-i-preserved : goal.loop-i-preserved
loop-i-preserved c =
    let args = c.args in
    let loop = c.loop-i in
    (omega arith, rw loop.invariant.1 (shift-more args.nodes.now args.e c.requires.1 loop.i (omega arith) (omega arith)))

pub returns : goal.returns
returns c =
    let loop = c.loop-i in
    let e : loop.i ≡ c.args.a = omega arith in rw e at loop.invariant.1
