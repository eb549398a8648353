-- `age_all` meets its contract: the state so far is the pass up to cell k. Assumes nothing.
use mathlib.Core.Path.{◌∙◌, ap₂}
use Prim.Native.Nat.{ℕ, ◌+◌}
use Rattle.model.specs.Word.{put16}
use Rattle.model.specs.State.{aged}
use Rattle.simulator.proofs.Passes.{passed_none, passed-more}
use Rattle.simulator.proofs.instant.age_all.Goals as goal

pub loop-k-init : goal.loop-k-init
loop-k-init c = passed_none

pub loop-k-preserved : goal.loop-k-preserved
unfolding aged
loop-k-preserved c =
    let put16-call = c.put16 in
    let base = c.base-at in
    let now-at = c.now_at-v in
    let test = c.loop-k-test in
    let loop = c.loop-k in
    passed-more loop.invariant test.true put16-call.auto.s
    (put16-call.ensures ∙ ap₂ (λ (i v : ℕ). put16 loop.state (i + 2) v) base.ensures now-at.ensures)
