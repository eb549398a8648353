-- What left has ended.
use Rattle.std.proofs.Common.{◌≡◌, ℕ, List, refl, arith}
use Rattle.model.specs.Rules.{caught}
use Rattle.rules.specs.declared.ways.Ran.{Ran}
use Rattle.rules.specs.declared.ways.Ran.TheVariants.{Ended, Left, Unfinished}
use Rattle.rules.specs.Ran.{run_of}
use Rattle.rules.proofs.ways.Ran.caught.Goals as goal

-- nothing else changes
stays : (r : Ran) (w : List ℕ) → ((t : ℕ) → r ≡ Left t → ⊥) → run_of r w ≡ caught (run_of r w)
unfolding caught
stays (Ended t) w n = refl
stays (Left t) w n = absurd (n t refl)
stays Unfinished w n = refl

pub returns-in-Left : goal.returns-in-Left
unfolding caught
returns-in-Left c w = rw c.in-Left.is (record { is = refl; within = omega arith })

pub returns-in_default : goal.returns-in_default
returns-in_default c w = record { is = stays _ w c.in_default.not-Left; within = omega arith }
