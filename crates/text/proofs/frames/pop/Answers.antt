-- `frames::pop` meets its contract: those on top that hold more tightly are taken off. Assumes nothing.
use Rattle.std.proofs.Common.{◌≡◌, ◌-◌, take, get_or, refl, arith}
use Rattle.std.specs.List.{suffix_len}
use Rattle.text.specs.Shown.{tight, no_frame}
use Rattle.text.proofs.Stack.{popped, pop-tops, tops-within}
use Rattle.text.proofs.frames.pop.Goals as goal

pub overflow_sub-kept : goal.overflow_sub-kept
overflow_sub-kept c =
    let args = c.args in
    omega (arith, c.tighter.ensures, tops-within args.stack.now args.reach args.height c.requires)

pub returns-then-kept-height : goal.returns-then-kept-height
returns-then-kept-height c =
    let args = c.args in
    let stack = args.stack.now in
    let k : c.tighter.result ≡ suffix_len (tight args.reach) (take args.height stack) = c.tighter.ensures in
    let kept = args.height - c.tighter.result in
    popped stack args.reach (get_or stack kept no_frame).start args.start args.height kept (omega arith)
    (rw k (pop-tops stack args.reach args.height args.start _ c.requires (λ l. refl) (λ l. absurd (omega (arith, l, c.if-kept-height.true, k)))))

pub returns-else-kept-height : goal.returns-else-kept-height
returns-else-kept-height c =
    let args = c.args in
    let stack = args.stack.now in
    let k : c.tighter.result ≡ suffix_len (tight args.reach) (take args.height stack) = c.tighter.ensures in
    popped stack args.reach args.start args.start args.height (args.height - c.tighter.result) (omega arith)
    (rw k (pop-tops stack args.reach args.height args.start args.start c.requires (λ l. absurd (omega (arith, l, c.if-kept-height.false, k))) (λ l. refl)))
