-- `last_words` meets its contract: the words before x are in place. Assumes nothing.
use mathlib.Core.Path.{◌≡◌, ◌∙◌, ap}
use Prim.Native.Nat.{◌-◌, ◌+◌}
use native.Mathlib.Omega.{arith}
use lib.ListN.{length}
use Rattle.model.specs.NetlistFile.{cells_of}
use Rattle.model.specs.State.{now_at}
use Rattle.laws.specs.NetlistFile.Passed.{count-cells}
use Rattle.netlist.proofs.Headers.{header-count}
use Rattle.state.proofs.Files.{file-sized, file-stands}
use Rattle.functional_runs.proofs.Words.{shown-more, shown-all}
use Rattle.functional_runs.proofs.last_words.Goals as goal

pub now_at-requires : goal.now_at-requires
now_at-requires c =
    let args = c.args in
    let z = file-sized args.format args.netlist.now args.state.now c.requires in
    file-stands args.format args.netlist.now args.state.now c.requires _
    (omega (arith, c.first_last-first.ensures, header-count args.netlist.now c.header_of-h.ensures, z.some))

pub loop-x-preserved : goal.loop-x-preserved
loop-x-preserved c =
    let args = c.args in
    let file = args.netlist.now in
    let loop = c.loop-x in
    let at : c.first_last-first.result + loop.x ≡ length (cells_of file) - 16 + loop.x =
    omega (arith, c.first_last-first.ensures, header-count file c.header_of-h.ensures, count-cells file) in
    shown-more (cells_of file) (now_at args.format args.state.now) 16 loop.word-items loop.x _ loop.invariant c.loop-x-test.true
    (c.now_at.ensures ∙ ap (now_at args.format args.state.now) at)

pub returns : goal.returns
returns c =
    let args = c.args in
    let loop = c.loop-x in
    let e : loop.x ≡ 16 = omega (arith, c.loop-x-test.false, loop.invariant.1) in
    shown-all (cells_of args.netlist.now) (now_at args.format args.state.now) 16 loop.word-items (rw e at loop.invariant)
