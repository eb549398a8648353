-- The step of a merge is the definition, by computation.
use Rattle.model.specs.Circuit.{merge_step, short_merge, long_merge}
use mathlib.Core.Path.{refl}
use Rattle.model.proofs.Merge.step.Goals as goal

pub returns-then-one : goal.returns-then-one
unfolding merge_step short_merge long_merge
returns-then-one c = rw c.if-one.true refl

pub returns : goal.returns
unfolding merge_step short_merge long_merge
returns c = rw c.if-one.false refl
