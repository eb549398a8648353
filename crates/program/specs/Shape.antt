-- What the two arrays of the check hold, and what a scan of a program tells.
-- Assumes nothing: definitions, and the law by which the arrays are filled.
use Rattle.std.specs.Prelude.{◌≡◌, List, ℕ, ◌+◌, ◌≤◌, ◌<◌, length, get_or, set, drop, refl, Result, Ok, Err, IsOk}
use Rattle.std.proofs.Common.{sym, ◌∙◌, arith, get_or-set_same, get_or-set_other}
use Rattle.std.proofs.Math.Decide.{ℕ_discrete}
use Rattle.model.specs.declared.Node.{Node}
use Rattle.model.specs.declared.Options.{Options}
use Rattle.model.specs.declared.Refusal.{Refusal}
use Rattle.model.specs.Refusals.{Checked, Accepted, first}
use Rattle.model.specs.Program.{node_at, node_count, arity, expr_at, time, time_in}
use Rattle.model.specs.ProgramChecks.{program_checks}
use Rattle.model.specs.Calls.{check_call}
use Rattle.program.specs.declared.Scanned.{Scanned}
use Rattle.laws.specs.Refusals.Laws.{not-refused}
use Rattle.laws.specs.Program.Passed.{Readable, accepted}
use Rattle.program.specs.Ends.{EndAt, Laid, skips, end_more}

-- the entries of node j, with operator times τ
pub record Shaped (τ : ℕ → ℕ) (s times ends : List ℕ) (j : ℕ) : Type 0 where
  pub end : EndAt s ends j
  pub timed : get_or times j 0 ≡ time τ (expr_at s j)

-- of all nodes
abbrev pub AllShaped : (ℕ → ℕ) → List ℕ → Scanned → Type 0
AllShaped τ s r = (j : ℕ) → j < node_count s → Shaped τ s r.times r.ends j

-- what a scan tells whose check answers so: its refusal, or the arrays
abbrev pub Tells : (ℕ → ℕ) → List ℕ → Checked → Result Scanned Refusal → Type 0
Tells τ s checked (Ok r) = (checked ≡ Accepted) × AllShaped τ s r
Tells τ s checked (Err q) = checked ≡ Err q

-- the check of a program that is read goes on so, after refusal 6, by these options
abbrev pub GoesOn : Options → List ℕ → Checked → Type 0
GoesOn o s checked = Readable o.procedures s × (checked ≡ first (drop 3 (program_checks (time_in o.times) o.pulse o.procedures s)))

-- the entries of one node more
pub shaped-more : (τ : ℕ → ℕ) (s times ends : List ℕ) (i : ℕ) → ((j : ℕ) → i + 1 ≤ j → j < node_count s → Shaped τ s times ends j)
    → i < node_count s → i < length times → i < length ends → (a : Node) → a ≡ node_at s i
    → (t : ℕ) → t ≡ time τ (expr_at s i) → (e : ℕ) → e ≡ skips ends (node_count s) (arity a.kind) (i + 1)
    → (j : ℕ) → i ≤ j → j < node_count s → Shaped τ s (set times i t) (set ends i e) j
shaped-more τ s times ends i S h lt le a ea t et e ee j l m =
    record { end = end_more s ends i (λ k p q. (S k p q).end) h le a ea e ee j l m; timed = go (ℕ_discrete j i) }
  where
    go : Dec (j ≡ i) → get_or (set times i t) j 0 ≡ time τ (expr_at s j)
    go (yes q) = rw q (get_or-set_same times i t 0 lt ∙ et)
    go (no n) = get_or-set_other times i j t 0 n ∙ (S j (omega arith) m).timed

-- a scan of an accepted program is never refused
pub told-ok : (τ : ℕ → ℕ) (s : List ℕ) (checked : Checked) (r : Result Scanned Refusal) → Tells τ s checked r → checked ≡ Accepted → IsOk r
told-ok τ s c (Ok x) t e = refl
told-ok τ s c (Err q) t e = not-refused (sym t ∙ e)

-- and has its arrays
pub told-shaped : (τ : ℕ → ℕ) (s : List ℕ) (checked : Checked) {x : Scanned} (r : Result Scanned Refusal) → r ≡ Ok x → Tells τ s checked r → AllShaped τ s x
told-shaped τ s c r e t = (rw e at t).1

-- where subtrees end in an accepted program
pub scanned-laid : (options : Options) (s : List ℕ) (r : Scanned) → check_call options s ≡ Accepted → AllShaped (time_in options.times) s r → Laid s r.ends
scanned-laid options s r a S = record { short = (accepted options s a).readable.short; each = λ j l. (S j l).end }
