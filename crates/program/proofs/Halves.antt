-- The two halves of a check: what is refused before the arrays, and what by them. Assumes nothing.
use Rattle.std.specs.Prelude.{MatchResult}
use Rattle.std.proofs.Common.{◌≡◌, sym, ◌∙◌, ℕ, List, take, Ok, Err}
use Rattle.model.specs.declared.Options.{Options}
use Rattle.model.specs.Refusals.{first, Checked, Accepted}
use Rattle.model.specs.Program.{time_in}
use Rattle.model.specs.ProgramChecks.{program_checks}
use Rattle.model.specs.TimeTables.{given_check}
use Rattle.model.specs.Calls.{check_call}
use Rattle.laws.specs.Refusals.Laws.{first-take, first-drop}
use Rattle.laws.specs.Program.Passed.{Readable, readable}
use Rattle.program.specs.Roots.{Rooted}
use Rattle.program.specs.declared.Scanned.{Scanned}
use Rattle.program.specs.Shape.{AllShaped, GoesOn}
use Rattle.program.proofs.TimeTables.{given-accepts}

-- what refusals 1 to 6 tell, where what is given is accepted
pub early-told : (o : Options) (s : List ℕ) → given_check o ≡ Accepted → (r : Checked) → r ≡ first (take 3 (program_checks (time_in o.times) o.pulse o.procedures s))
    → MatchResult r (λ u. GoesOn o s (check_call o s)) (λ e. check_call o s ≡ Err e)
early-told o s g (Ok u) e =
    (readable (time_in o.times) o.pulse _ _ (sym e), given-accepts o s g ∙ first-drop 3 (program_checks (time_in o.times) o.pulse o.procedures s) (sym e))
early-told o s g (Err q) e = given-accepts o s g ∙ first-take 3 (program_checks (time_in o.times) o.pulse o.procedures s) (sym e)

-- what the filled arrays say of a program that is read
pub filled : (τ : ℕ → ℕ) (k : ℕ) (s : List ℕ) (told : Scanned) → Readable k s → AllShaped τ s told → Rooted k s told.ends × AllShaped τ s told
filled τ k s told R S = (record { readable = R; laid = record { short = R.short; each = λ j l. (S j l).end } }, S)
