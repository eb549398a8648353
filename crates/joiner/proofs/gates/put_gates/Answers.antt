-- `gates::put_gates` meets its contract. The invariant: putting in the gates of the nodes that are left comes out as putting in all. Assumes nothing.
use mathlib.Core.Path.{refl, sym, ap, ◌∙◌}
use Prim.Native.Nat.{◌+◌}
use native.Mathlib.Omega.{arith}
use lib.ListN.{length}
use lib.Seq.{sets}
use Rattle.model.specs.Program.{nodes_at}
use Rattle.joiner.specs.Gates.{gates_in}
use Rattle.word.proofs.Chunks.{cut-first}
use Rattle.program.proofs.Pieces.{node-long, node-here, node-next, nodes-end}
use Rattle.joiner.proofs.Gating.{gates-variable, gates-element, gates-none, element-low, gates-end, put_one, put_two}
use Rattle.joiner.proofs.gates.put_gates.Goals as goal

pub loop-bytes-init : goal.loop-bytes-init
loop-bytes-init c =
    let items = c.chunks_exact-bytes-items.ensures in
    rw c.into_iter-bytes-iterator.ensures.into_iter_gives
    (record { i = 0; cut = cut-first 4 _ items.size items.rest; few = omega arith; all = omega arith; put = refl })

pub read_node-node-requires : goal.read_node-node-requires
read_node-node-requires c = omega (arith, node-long c.loop-bytes.invariant.cut c.next.new.self c.in-Some.bytes c.in-Some.ensures.steps)

pub overflow_add-gates : goal.overflow_add-gates
overflow_add-gates c =
    let known = c.loop-bytes.invariant in
    let it = node-here known.cut c.next.new.self c.in-Some.bytes c.in-Some.ensures.steps in
    omega (arith, element-low c.args.program.now known.i it.1 (c.read_node-node.ensures ∙ it.0) c.requires.1 c.in-24.is)

pub loop-bytes-preserved-in-18 : goal.loop-bytes-preserved-in-18
loop-bytes-preserved-in-18 c =
    let program = c.args.program.now in
    let loop = c.loop-bytes in
    let known = loop.invariant in
    let node = c.read_node-node in
    let steps = c.in-Some.ensures.steps in
    let it = node-here known.cut c.next.new.self c.in-Some.bytes steps in
    let g = gates-variable program known.i it.1 (node.ensures ∙ it.0) c.in-18.is in
    record {
      i = known.i + 1;
      cut = node-next known.cut c.next.new.self c.in-Some.bytes steps;
      few = omega (arith, known.few);
      all = omega (arith, known.all, ap length g);
      put = known.put ∙ ap (sets loop.gates loop.next) g ∙ put_one loop.gates loop.next node.result.n (gates_in (nodes_at program (known.i + 1)));
    }

pub loop-bytes-preserved-in-24 : goal.loop-bytes-preserved-in-24
loop-bytes-preserved-in-24 c =
    let program = c.args.program.now in
    let loop = c.loop-bytes in
    let known = loop.invariant in
    let node = c.read_node-node in
    let steps = c.in-Some.ensures.steps in
    let it = node-here known.cut c.next.new.self c.in-Some.bytes steps in
    let g = gates-element program known.i it.1 (node.ensures ∙ it.0) c.in-24.is in
    record {
      i = known.i + 1;
      cut = node-next known.cut c.next.new.self c.in-Some.bytes steps;
      few = omega (arith, known.few);
      all = omega (arith, known.all, ap length g);
      put = known.put ∙ ap (sets loop.gates loop.next) g ∙ put_two loop.gates loop.next (16 + node.result.n) 20 (gates_in (nodes_at program (known.i + 1)));
    }

pub loop-bytes-preserved : goal.loop-bytes-preserved
loop-bytes-preserved c =
    let program = c.args.program.now in
    let loop = c.loop-bytes in
    let known = loop.invariant in
    let node = c.read_node-node in
    let steps = c.in-Some.ensures.steps in
    let it = node-here known.cut c.next.new.self c.in-Some.bytes steps in
    let g = gates-none program known.i it.1 (node.ensures ∙ it.0) (λ e. omega (arith, e)) (λ e. omega (arith, e)) in
    record {
      i = known.i + 1;
      cut = node-next known.cut c.next.new.self c.in-Some.bytes steps;
      few = omega (arith, known.few);
      all = omega (arith, known.all, ap length g);
      put = known.put ∙ ap (sets loop.gates loop.next) g;
    }

pub returns : goal.returns
returns c =
    let loop = c.loop-bytes in
    let known = loop.invariant in
    let g = gates-end c.args.program.now known.i (nodes-end known.cut c.next.new.self c.in-None.ensures.steps) in
    record { count = omega (arith, known.all, ap length g); put = sym (known.put ∙ ap (sets loop.gates loop.next) g) }
