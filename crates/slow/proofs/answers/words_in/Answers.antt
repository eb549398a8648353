-- `words_in` meets its contract: j words are in place, and those of the memories that are left are to come. Assumes nothing.
use Prim.Native.Nat.{◌-◌, ◌<◌}
use native.Mathlib.Omega.{arith}
use mathlib.Core.Logic.{inl}
use mathlib.Core.Path.{◌≡◌, refl}
use lib.ListN.{length}
use Rattle.model.specs.Circuit.{cell_at}
use Rattle.slow.specs.Ring.{net_of}
use Rattle.netlist.proofs.Bytes.{standing-first, passed, cell-among, standing-next, cell-here}
use Rattle.slow.proofs.Cells.{net-length}
use Rattle.slow.proofs.Collecting.{collects-first, collects-room, collects-memory, collects-other, collects-all}
use Rattle.slow.proofs.answers.words_in.Goals as goal
use Rattle.slow.proofs.answers.words_in.Goals.{In-Some}

pub invariant_of-cells : goal.invariant_of-cells
invariant_of-cells c = record { room = record { few = omega (arith, c.args.net.now.few); fits = c.args.net.now.list } }

pub loop-k-init : goal.loop-k-init
loop-k-init c =
    let items = c.enumerate-k-items.ensures in
    let left : c.args.net.now.n - 0 ≡ c.args.net.now.n = omega arith in
    rw (c.into_iter-k-iterator.ensures.into_iter_gives, items.count, items.source) (standing-first _ (rw left refl), collects-first _ _ _ c.requires.0 refl)

pub loop-k-init-derived : goal.loop-k-init-derived
loop-k-init-derived c =
    let items = c.enumerate-k-items.ensures in
    let net = c.args.net.now in
    rw (c.into_iter-k-iterator.ensures.into_iter_gives, items.count, items.source) ((tt, tt, inl (omega (arith, net-length net.cells.now (net.n - 0), net.few))), tt)

-- the cell that is given is one of the netlist
inside : (c : In-Some) → c.loop-k.k-iterator.count < length (net_of c.args.net.now.cells.now c.args.net.now.n)
inside c = cell-among c.loop-k.invariant.0 c.in-Some.ensures.steps.0

is-given : (c : In-Some) → cell_at (net_of c.args.net.now.cells.now c.args.net.now.n) c.loop-k.k-iterator.count ≡ c.in-Some.c
is-given c = cell-here c.loop-k.invariant.0 c.in-Some.ensures.steps.0

pub word_at-v-requires : goal.word_at-v-requires
word_at-v-requires c =
    let net = c.args.net.now in
    let low : c.in-Some.k < net.n = omega (arith, inside (goal.at.word_at-v-requires c).In-Some, c.in-Some.ensures.steps.1, net-length net.cells.now net.n) in
    (omega (arith, low, net.few), omega (arith, low, c.requires.1))

room : (c : In-Some) → c.in-Some.c.kind ≡ 40 → c.loop-k.j < 16
room c = collects-room _ _ _ _ _ (inside c) _ (is-given c) c.loop-k.invariant.1

pub offset_bounds-words-j : goal.offset_bounds-words-j
offset_bounds-words-j c = omega (arith, room (goal.at.offset_bounds-words-j c).In-Some c.if-c-eq40.true)

pub bounds-words-j : goal.bounds-words-j
bounds-words-j c = omega (arith, room (goal.at.bounds-words-j c).In-Some c.if-c-eq40.true)

pub overflow_add-j : goal.overflow_add-j
overflow_add-j c = omega (arith, room (goal.at.overflow_add-j c).In-Some c.if-c-eq40.true)

pub loop-k-preserved-then-c-eq40 : goal.loop-k-preserved-then-c-eq40
loop-k-preserved-then-c-eq40 c =
    let at = (goal.at.loop-k-preserved-then-c-eq40 c).In-Some in
    let known = c.loop-k.invariant in
    let steps = c.in-Some.ensures.steps in
    let v = rw steps.1 at c.word_at-v.ensures in
    rw (steps.2, v) (standing-next known.0 steps.0, collects-memory _ _ _ _ _ (inside at) _ (is-given at) known.1 c.if-c-eq40.true)

pub loop-k-preserved : goal.loop-k-preserved
loop-k-preserved c =
    let at = (goal.at.loop-k-preserved c).In-Some in
    let known = c.loop-k.invariant in
    let steps = c.in-Some.ensures.steps in
    rw steps.2 (standing-next known.0 steps.0, collects-other _ _ _ _ _ (inside at) _ (is-given at) known.1 c.if-c-eq40.false)

pub returns : goal.returns
returns c = collects-all _ _ _ _ _ (passed c.loop-k.invariant.0 c.in-None.ensures.steps.0.0) c.loop-k.invariant.1
