-- `ors::put_chain` meets its contract: joining the wires that are left comes out as at the start. Assumes nothing.
use mathlib.Core.Path.{refl, ◌∙◌}
use native.Mathlib.Omega.{arith}
use Rattle.std.specs.Slice.Iter.{chunks_exact_rest}
use Rattle.compiler.proofs.Chains.{chain-start, chain-room, chain-cells, chain-wire, chain-next}
use Rattle.compiler.proofs.Joining.{wires-more, wires-same, wires-none}
use Rattle.compiler.proofs.ors.put_chain.Goals as goal

pub loop-own-init : goal.loop-own-init
loop-own-init c =
    let items = c.chunks_exact-own-items.ensures in
    rw (c.into_iter-own-iterator.ensures.into_iter_gives, items.size, items.rest, c.new-chain.ensures) (refl, chain-start)

pub join-requires : goal.join-requires
join-requires c =
    λ a is.
    let known = c.loop-own.invariant in
    let steps = c.in-Some.ensures.steps in
    let C = rw (wires-more c.args.joint.mark c.args.x c.requires.mark c.in-Some.own.now (chunks_exact_rest c.next.new.self) steps.1.0 (steps.1.1 ∙ known.0) c.if-own-x.true) at known.1 in
    let room = chain-room C is in
    (omega (arith, room, c.requires.room, c.requires.small), omega (arith, room, c.requires.room, C.same))

pub loop-own-preserved-then-own-x : goal.loop-own-preserved-then-own-x
loop-own-preserved-then-own-x c =
    let known = c.loop-own.invariant in
    let steps = c.in-Some.ensures.steps in (
      steps.0 ∙ known.0,
      c.join.ensures _ _ _ _ _ _
          (rw (wires-more c.args.joint.mark c.args.x c.requires.mark c.in-Some.own.now (chunks_exact_rest c.next.new.self) steps.1.0 (steps.1.1 ∙ known.0) c.if-own-x.true) at known.1),
    )

pub loop-own-preserved : goal.loop-own-preserved
loop-own-preserved c =
    let known = c.loop-own.invariant in
    let steps = c.in-Some.ensures.steps in (
      steps.0 ∙ known.0,
      rw (wires-same c.args.joint.mark c.args.x c.requires.mark c.in-Some.own.now (chunks_exact_rest c.next.new.self) steps.1.0 (steps.1.1 ∙ known.0) c.if-own-x.false) at known.1,
    )

pub returns : goal.returns
returns c =
    let known = c.loop-own.invariant in
    let steps = c.in-None.ensures.steps in
    let C = rw (wires-none c.args.joint.mark c.args.x (chunks_exact_rest c.loop-own.own-iterator) (omega (arith, steps.1.0, known.0))) at known.1 in
    rw c.end.ensures (record { cells = chain-cells _ C; wire = chain-wire _ C; cell = chain-next _ C })
