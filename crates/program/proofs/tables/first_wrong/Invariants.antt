-- Refusal 21: the answer from byte 0 is the answer from byte i.
use Rattle.model.specs.TimeTables.{table_fault}
use Rattle.laws.specs.Refusals.Search.{Searched}
use Rattle.program.proofs.tables.first_wrong.Given as goal

abbrev pub invariant-loop-i : goal.invariant-loop-i
invariant-loop-i l = Searched (table_fault l.file) 512 l.i
