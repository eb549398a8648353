-- The step of a merge is the definition, by computation.
use Rattle.model.specs.Circuit.{return_step, short_return, long_return}
use mathlib.Core.Path.{refl}
use Rattle.model.proofs.Merge.step_call.Goals as goal

pub returns-then-one : goal.returns-then-one
unfolding return_step short_return long_return
returns-then-one c = rw c.if-one.true refl

pub returns : goal.returns
unfolding return_step short_return long_return
returns c = rw c.if-one.false refl
