-- sum16: what is summed and the words that are left make all the words. Assumes nothing.
use Rattle.std.proofs.Common.{◌≡◌, ◌+◌, ◌*◌, ◌-◌, length, take, drop, arith, length-take, length-drop}
use Rattle.std.specs.Slice.Iter.{chunks_exact_rest}
use Rattle.word.proofs.Sums.{first-word, no-word}
use Rattle.word.proofs.sum16.Goals as goal

pub loop-word-init : goal.loop-word-init
loop-word-init c =
    let items = c.chunks_exact-word-items.ensures in
    let whole : c.args.from + 2 * c.args.n - c.args.from ≡ 2 * c.args.n = omega arith in
    let size : length (take (2 * c.args.n) (drop c.args.from c.args.s.now)) ≡ 2 * c.args.n = simp (length-take, length-drop) (omega arith) in
    rw (c.into_iter-word-iterator.ensures.into_iter_gives, items.rest, whole) (items.size, omega (arith, size), omega arith)

pub loop-word-preserved : goal.loop-word-preserved
loop-word-preserved c =
    let known = c.loop-word.invariant in
    let steps = c.in-Some.ensures.steps in
    let size : length c.in-Some.word.now ≡ 2 = omega (arith, steps, known.0) in
    let more = first-word c.in-Some.word.now (chunks_exact_rest c.next.new.self) steps.1.0 size in
    (omega (arith, steps.0, known.0), omega (arith, more.1, known.1), omega (arith, more.0, known.2, c.get16-sum.ensures))

pub returns : goal.returns
returns c =
    let known = c.loop-word.invariant in
    let none = no-word (chunks_exact_rest c.loop-word.word-iterator) (omega (arith, c.in-None.ensures.steps, known.0)) known.1 in
    omega (arith, none, known.2)
