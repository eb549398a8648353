-- `parsing::parse` meets its contract. The invariant: with the words that are left the reading goes on as from the first.
-- Assumes nothing.
use Rattle.std.proofs.Common.{sym, refl, ◌∙◌, arith}
use Rattle.text.specs.Parsing.{Parses}
use Rattle.text.proofs.Going.{told-by, ahead, word-limited, going-first, going-breaks, going_next, going-ends, going-open}
use Rattle.text.proofs.parsing.parse.Goals as goal

pub loop-w-init : goal.loop-w-init
loop-w-init c =
    let from = c.of-w-items.ensures.from in
    rw (c.into_iter-w-iterator.ensures.into_iter_gives, from.1, from.2)
    (from.0, going-first c.args.text.now c.at_first-m.ensures.0 (c.at_first-m.ensures.2 _) (refl, c.requires.1))

pub step-m-requires : goal.step-m-requires
step-m-requires c =
    let text = c.args.text.now in
    let g = c.loop-w.invariant.1 in
    let told = told-by text c.loop-w.invariant.0 c.in-Some.ensures.steps in
    let h = (ahead text g told).stands in
    let pre = c.requires in
    (record { stack = g.room.0; nodes = g.room.1; height = omega (arith, g.height.0, h, pre.0); count = omega (arith, g.shows.count, g.within.nodes, h, pre.0) }, word-limited text g told)

pub returns-then-is_broken : goal.returns-then-is_broken
unfolding Parses
returns-then-is_broken c =
    going-breaks c.args.text.now c.loop-w.invariant.1 (told-by c.args.text.now c.loop-w.invariant.0 c.in-Some.ensures.steps) c.requires.0 c.step-m.ensures.follows
    (sym c.is_broken.ensures ∙ c.if-is_broken.true)

pub loop-w-preserved : goal.loop-w-preserved
loop-w-preserved c =
    let i = c.loop-w.invariant in
    let room = i.1.room in
    let kept = c.step-m.auto in
    let s = c.in-Some.ensures.steps in
    rw (s.behind.0, s.behind.1) (
      s.text ∙ i.0,
      going_next c.args.text.now i.1 (told-by c.args.text.now i.0 s) c.requires.0 c.step-m.ensures.follows
          (sym c.is_broken.ensures ∙ c.if-is_broken.false) c.step-m.ensures.grows
          (omega (arith, kept.stack, room.0), omega (arith, kept.nodes, room.1)),
    )

pub returns-then-is_complete : goal.returns-then-is_complete
returns-then-is_complete c =
    let i = c.loop-w.invariant in
    rw c.from.ensures
    (going-ends c.args.text.now i.1 (told-by c.args.text.now i.0 c.in-None.ensures.steps) (sym c.is_complete.ensures ∙ c.if-is_complete.true))

pub returns : goal.returns
returns c =
    let i = c.loop-w.invariant in
    going-open c.args.text.now i.1 (told-by c.args.text.now i.0 c.in-None.ensures.steps) (sym c.is_complete.ensures ∙ c.if-is_complete.false)
