-- `take_values_back` meets its contract: the state so far is the pass up to cell k. Assumes nothing.
use mathlib.Core.Path.{◌≡◌, refl, ◌∙◌}
use mathlib.Core.List.{List}
use Prim.Native.Nat.{ℕ, ◌+◌, ◌*◌}
use Rattle.model.specs.Word.{get16, put16}
use Rattle.model.specs.State.{base, before_at}
use Rattle.model.specs.declared.Format.{Format}
use Rattle.simulator.specs.Keeping.{taken_back}
use Rattle.simulator.proofs.Passes.{passed_none, passed-more}
use Rattle.simulator.proofs.keeping.take_values_back.Goals as goal

pub loop-k-init : goal.loop-k-init
loop-k-init c = passed_none

-- cell k of s, at i, with the values v and w put in
back_by : (F : Format) (kept s t u : List ℕ) (k i v w : ℕ) → i ≡ base F k → v ≡ before_at F s k → w ≡ get16 kept (512 + 2 * k) → t ≡ put16 s i v → u ≡ put16 t (i + 2) w
    → u ≡ taken_back F kept s k
unfolding taken_back
back_by F kept s t u k i v w a b c d e = e ∙ rw (d, a, b, c) refl

pub loop-k-preserved : goal.loop-k-preserved
loop-k-preserved c =
    let args = c.args in
    let loop = c.loop-k in
    let test = c.loop-k-test in
    let before_at = c.before_at-v in
    let base-call = c.base-at in
    let put16-call = c.put16 in
    let get16-call = c.get16-w in
    let put162 = c.put16-in-loop-k in
    passed-more loop.invariant test.true (put162.auto.s ∙ put16-call.auto.s)
    (back_by args.format args.kept.now loop.state _ _ loop.k _ _ _ base-call.ensures before_at.ensures get16-call.ensures put16-call.ensures put162.ensures)
