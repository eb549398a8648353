-- Refusals 5 and 6: the answer from node 0 is the answer from node i, with so many expressions and statements still to be read.
use mathlib.Core.Path.{◌≡◌, sym, ◌∙◌, ap}
use Prim.Native.Nat.{ℕ}
use native.Mathlib.Omega.{arith}
use native.Mathlib.Numerals.{add-one}
use lib.ListN.{replicate}
use Rattle.model.specs.Refusals.{refuse}
use Rattle.model.specs.Program.{node_count, nodes_at}
use Rattle.model.specs.ProgramChecks.{reading}
use Rattle.program.proofs.Misread.{read_left, read_short, read-end, read-no-stmt, read-no-expr, read-stmt, read-expr}
use Rattle.word.proofs.Chunks.{cut-first}
use Rattle.program.proofs.Pieces.{node-long, node-here, node-next, nodes-end}
use Rattle.program.proofs.reading.first_misread.Goals as goal

pub loop-i-init : goal.loop-i-init
loop-i-init c =
    let args = c.args in
    let items = c.enumerate-i-items.ensures in
    rw (c.into_iter-i-iterator.ensures.into_iter_gives, items.count, items.source) (
      omega arith,
      ap (λ (n : ℕ). reading (replicate n 2) 0 (nodes_at args.program.now 0)) (sym (add-one args.procedures)),
      cut-first 4 _ c.chunks_exact.ensures.size c.chunks_exact.ensures.rest,
      omega arith,
    )

pub read_node-requires : goal.read_node-requires
read_node-requires c = omega (arith, node-long c.loop-i.invariant.2 c.next.new.self.iter c.in-Some.node c.in-Some.ensures.steps.0)

pub returns-then-stmts-eq0 : goal.returns-then-stmts-eq0
returns-then-stmts-eq0 c =
    let known = c.loop-i.invariant in
    let steps = c.in-Some.ensures.steps in
    let it = node-here known.2 c.next.new.self.iter c.in-Some.node steps.0 in
    c.refuse.ensures ∙ ap (refuse 6) steps.1 ∙ read_left _ _ _ _ c.if-exprs-eq0.true c.if-stmts-eq0.true it.1 ∙ sym known.1

pub returns-then-row-ne2 : goal.returns-then-row-ne2
returns-then-row-ne2 c =
    let known = c.loop-i.invariant in
    let steps = c.in-Some.ensures.steps in
    let it = node-here known.2 c.next.new.self.iter c.in-Some.node steps.0 in
    c.refuse-then-row-ne2.ensures ∙ ap (refuse 5) steps.1
    ∙ read-no-stmt _ _ _ _ it.1 (c.read_node.ensures ∙ it.0) c.kind_row-row.ensures _ _ c.if-exprs-eq0.true c.if-stmts-eq0.false c.if-row-ne2.true
    ∙ sym known.1

pub returns-then-row-ne1 : goal.returns-then-row-ne1
returns-then-row-ne1 c =
    let known = c.loop-i.invariant in
    let steps = c.in-Some.ensures.steps in
    let it = node-here known.2 c.next.new.self.iter c.in-Some.node steps.0 in
    c.refuse-then-row-ne1.ensures ∙ ap (refuse 5) steps.1
    ∙ read-no-expr _ _ _ _ it.1 (c.read_node.ensures ∙ it.0) c.kind_row-row.ensures c.loop-i.exprs c.loop-i.stmts c.if-exprs-eq0.false c.if-row-ne1.true
    ∙ sym known.1

pub loop-i-preserved-then-exprs-eq0 : goal.loop-i-preserved-then-exprs-eq0
loop-i-preserved-then-exprs-eq0 c =
    let known = c.loop-i.invariant in
    let steps = c.in-Some.ensures.steps in
    let it = node-here known.2 c.next.new.self.iter c.in-Some.node steps.0 in
    rw steps.2 (
      omega (arith, c.kind_row-row.type_inv, known.0),
      known.1
          ∙ read-stmt _ _ _ _ it.1 (c.read_node.ensures ∙ it.0) c.kind_row-row.ensures _ _ c.if-exprs-eq0.true c.if-stmts-eq0.false c.if-row-ne2.false,
      node-next known.2 c.next.new.self.iter c.in-Some.node steps.0,
      omega (arith, it.1),
    )

pub loop-i-preserved : goal.loop-i-preserved
loop-i-preserved c =
    let known = c.loop-i.invariant in
    let steps = c.in-Some.ensures.steps in
    let it = node-here known.2 c.next.new.self.iter c.in-Some.node steps.0 in
    rw steps.2 (
      omega (arith, c.kind_row-row.type_inv, known.0),
      known.1
          ∙ read-expr _ _ _ _ it.1 (c.read_node.ensures ∙ it.0) c.kind_row-row.ensures c.loop-i.exprs c.loop-i.stmts c.if-exprs-eq0.false c.if-row-ne1.false,
      node-next known.2 c.next.new.self.iter c.in-Some.node steps.0,
      omega (arith, it.1),
    )

pub overflow_add-exprs-2 : goal.overflow_add-exprs-2
overflow_add-exprs-2 c =
    let known = c.loop-i.invariant in
    omega (arith, known.0, known.3, c.requires.0)

pub returns-then-exprs-stmts-eq0 : goal.returns-then-exprs-stmts-eq0
returns-then-exprs-stmts-eq0 c =
    let known = c.loop-i.invariant in
    read-end _ _ _ _ c.if-exprs-stmts-eq0.true (nodes-end known.2 c.next.new.self.iter c.in-None.ensures.steps.0) ∙ sym known.1

pub returns : goal.returns
returns c =
    let known = c.loop-i.invariant in
    let past = nodes-end known.2 c.next.new.self.iter c.in-None.ensures.steps.0 in
    let all : node_count c.args.program.now ≡ c.loop-i.i-iterator.count = omega (arith, past, known.3) in
    c.refuse-2.ensures ∙ ap (refuse 6) all ∙ read_short _ _ c.loop-i.exprs c.loop-i.stmts past c.if-exprs-stmts-eq0.false ∙ sym known.1

pub overflow_add-stmts : goal.overflow_add-stmts
overflow_add-stmts c = omega (arith, c.requires.1)
