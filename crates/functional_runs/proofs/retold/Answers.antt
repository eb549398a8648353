-- `retold` meets its contract. Assumes nothing.
use mathlib.Core.Logic.{◌⊎◌, inl, inr}
use mathlib.Core.Path.{◌≡◌, ◌∙◌, ap}
use Rattle.model.specs.declared.Outcome.{Outcome}
use Rattle.model.specs.Refusals.{Accepted}
use Rattle.model.specs.Calls.{verdict}
use Rattle.functional_runs.proofs.Telling.{told-shown, told-refused}
use Rattle.functional_runs.proofs.retold.Goals as goal

accepted : {o : Outcome} → (o ≡ Outcome.Ended) ⊎ (o ≡ Outcome.Open) → verdict o ≡ Accepted
unfolding verdict
accepted (inl e) = ap verdict e
accepted (inr e) = ap verdict e

pub with_last-requires : goal.with_last-requires
with_last-requires c = c.requires (accepted c.in-Ended.is)

pub returns-in-Ended : goal.returns-in-Ended
returns-in-Ended c = c.with_last.ensures ∙ told-shown _ _ _ _ (accepted c.in-Ended.is)

pub returns-in-Refused : goal.returns-in-Refused
returns-in-Refused c = told-refused _ _ _ _ c.in-Refused.is
