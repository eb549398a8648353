-- A wait, and then nothing more.
use Rattle.std.proofs.Common.{sym, arith}
use Rattle.laws.specs.Rules.Laws.{wait-short}
use Rattle.rules.proofs.Runs.{stands-still, wait-ends}
use Rattle.rules.proofs.ways.Ran.pause.Goals as goal

pub returns-then-d-budget : goal.returns-then-d-budget
returns-then-d-budget c w = record { is = sym (wait-ends _ _ _ (omega arith)); within = omega arith }

pub returns-else-d-budget : goal.returns-else-d-budget
returns-else-d-budget c w = stands-still (wait-short _ _ _ (omega arith))
