-- `printed::answer_text` meets its contract, by cases on the outcome. Assumes nothing.
use Rattle.model.specs.Hubrun.{line, lines_of}
use Rattle.hubrun.proofs.printed.answer_text.Goals as goal

pub returns-in-Ended : goal.returns-in-Ended
unfolding line lines_of
returns-in-Ended c = rw c.in-Ended.is (record { length = c.put_run.ensures.next; out = c.put_run.ensures.out })

pub returns-in-Open : goal.returns-in-Open
unfolding line lines_of
returns-in-Open c = rw c.in-Open.is (record { length = c.put_run-in-Open.ensures.next; out = c.put_run-in-Open.ensures.out })

pub returns-in-Refused : goal.returns-in-Refused
unfolding line lines_of
returns-in-Refused c = rw c.in-Refused.is (record { length = c.put_refusal.ensures.next; out = c.put_refusal.ensures.out })
