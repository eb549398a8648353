-- `run_accepted` meets its contract: what compiling wrote is the file that is run. Assumes nothing.
use Rattle.std.proofs.Common.{◌≡◌, length, take, drop}
use lib.Seq.{take-append_seam}
use Rattle.hub.proofs.full.run_accepted.Goals as goal

pub returns-clause-answer : goal.returns-clause-answer
returns-clause-answer g c =
    let args = c.args in
    let compile = c.compile-length in
    let made = g.C.Circuit.made args.options args.program.now in
    let same : take compile.result compile.new.netlist ≡ made = rw (compile.ensures.length, compile.ensures.lent) (take-append_seam made (drop (length made) args.netlist.now)) in
    let run = rw same at c.full_run-answer.ensures in
    rw (same, run.answer, run.state) at c.tell.ensures
