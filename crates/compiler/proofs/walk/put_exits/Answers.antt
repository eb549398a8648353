-- `walk::put_exits` meets its contract: joining the starts that are left comes out as at the start. Assumes nothing.
use mathlib.Core.Path.{◌≡◌, ◌∙◌}
use Prim.Native.Nat.{◌+◌, ◌-◌}
use native.Mathlib.Omega.{arith}
use lib.ListN.{drop}
use lib.Seq.{get_or-take, get_or-drop}
use Rattle.compiler.proofs.Chains.{chain-start, chain-room, chain-cells, chain-wire, chain-next}
use Rattle.compiler.proofs.Exits.{waiting-more, waiting-none}
use Rattle.compiler.proofs.walk.put_exits.Goals as goal

pub loop-start-init : goal.loop-start-init
loop-start-init c =
    let e : c.args.first + 0 ≡ c.args.first = omega arith in
    rw (c.new-chain.ensures, e) chain-start

pub join-requires : goal.join-requires
join-requires c =
    λ a is.
    let C = rw (waiting-more c.requires (c.args.first + c.loop-start.start-index) (omega arith)) at c.loop-start.invariant in
    let room = chain-room C is in
    (omega (arith, room, c.requires.room, c.requires.small), omega (arith, room, c.requires.room, C.same))

pub loop-start-preserved : goal.loop-start-preserved
loop-start-preserved c =
    let k = c.args.first + c.loop-start.start-index in
    let e : c.args.first + (c.loop-start.start-index + 1) ≡ k + 1 = omega arith in
    let read = get_or-take (c.args.end - c.args.first) (drop c.args.first c.args.outs.now) c.loop-start.start-index 0 (omega arith) ∙ get_or-drop c.args.first c.args.outs.now c.loop-start.start-index 0 in
    rw e (c.join.ensures _ _ _ _ _ _ (rw read (rw (waiting-more c.requires k (omega arith)) at c.loop-start.invariant)))

pub returns : goal.returns
returns c =
    let C = rw (waiting-none c.requires (c.args.first + c.loop-start.start-index) (omega arith)) at c.loop-start.invariant in
    rw c.end.ensures (record { cells = chain-cells _ C; wire = chain-wire _ C; cell = chain-next _ C })
