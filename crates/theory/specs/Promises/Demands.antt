-- The user's three demands, as model/RefusalPromises, CircuitPromises and RunPromises state them.
-- Assumes nothing.
use Rattle.model.specs.Refusals.{Done}
use Rattle.std.specs.Prelude.{◌≡◌, List, ℕ, ◌+◌, ◌*◌, ◌<◌, length, take}
use Rattle.std.proofs.Common.{sym, ◌∙◌, ap, arith}
use Rattle.laws.specs.NetlistFile.Compiled.{compiled-accepted}
use Rattle.model.specs.declared.Options.{Options}
use Rattle.model.specs.Word.{get16, Bytes}
use Rattle.model.specs.Program.{program_of}
use Rattle.model.specs.ProgramChecks.{program_with}
use Rattle.model.specs.Numbering.{netlist, finish}
use Rattle.model.specs.NetlistFile.{net_of, pulse_of, file_check, cells_of, finish_of}
use Rattle.model.specs.Calls.{compile_call, word_at}
use Rattle.model.specs.RefusalPromises.{Demand1}
use Rattle.model.specs.CircuitPromises.{Published, Demand2}
use Rattle.model.specs.RunPromises.{Demand3}
use Rattle.laws.specs.Numbering.Parts.{net-length}
use Rattle.laws.specs.State.Flight.{step-true}
use Rattle.laws.specs.NetlistFile.Passed.{net-ordered, file-passed}
use Rattle.theory.specs.State.OneRun.{one-run}
use Rattle.theory.specs.Circuit.Bounds.{file-bounded}
use Rattle.laws.specs.NetlistFile.Files.{cells-written, pulse-written, finish-written}
use Rattle.laws.specs.Program.Passed.{accepted-pulse}
use Rattle.laws.specs.NetlistFile.ReadWrite.{same-file}
use Rattle.theory.specs.Refusals.Demand.{demand-1}
use Rattle.theory.specs.Promises.Kept.{compiled, program-accepted, file-fits, file-made, begins, keeps}
use Rattle.theory.specs.Promises.Answering.{answers, full-run}
use Rattle.theory.specs.Promises.FullRuns.{full_runs}

pub demand1 : Demand1
demand1 = demand-1

published : (options : Options) (program lent : List ℕ) (n f : ℕ) → Bytes program → (compile_call options program lent).answer ≡ Done n f
    → Published (program_with options program) (take n (compile_call options program lent).lent) f
unfolding program_of
published options program lent n f bytes e =
    let P = program_with options program in
    let file = file-made options program lent n f e in
    let some : 0 < length (netlist P) = omega (arith, net-length P) in
    let g = (compiled options program lent n f e).finish in
    record {
      accepted = ap file_check file ∙ compiled-accepted options program bytes (program-accepted options program lent n f e);
      cells = ap cells_of file ∙ cells-written options.pulse (netlist P) (finish P) some;
      pulse =
          ap (λ (s : List ℕ). pulse_of s) file
          ∙ pulse-written options.pulse (netlist P) (finish P) some (accepted-pulse options program (program-accepted options program lent n f e)).0;
      finishes = (g, ap finish_of file ∙ finish-written options.pulse (netlist P) (finish P) some ∙ sym g);
    }

word_low : (words : List ℕ) → Bytes words → (x : ℕ) → word_at words x < 65536
unfolding get16
word_low words y x = omega (arith, y (2 * x), y (2 * x + 1))

pub demand2 : Demand2
demand2 =
    record {
      compiled = published;
      files = same-file;
      runs = λ file starts words pulse e. one-run (net_of file) (net-ordered (cells_of file) (finish_of file) (file-passed file e).cells) starts words pulse;
      numbers = λ F file lent starts e room.
          step-true F (net_of file) (net-ordered (cells_of file) (finish_of file) (file-passed file e).cells) starts lent (omega arith);
      bounded = λ file words y z e starts. file-bounded file y e starts (word_at words) (word_low words z);
      answers = answers;
      full_runs = full-run;
    }

pub demand3 : Demand3
unfolding program_of
demand3 =
    record {
      lists = λ F options program for_file words for_state calls n f made begun.
          let file = take n (compile_call options program for_file).lent in
          keeps F (program_with options program) file words for_state
          (begins F options program file words for_state (program-accepted options program for_file n f made) (file-made options program for_file n f made) begun) calls;
      full_runs = λ options program for_file words for_state n f made begun.
          full_runs options program (take n (compile_call options program for_file).lent) words for_state (program-accepted options program for_file n f made)
          (file-made options program for_file n f made) begun for_file (file-fits options program for_file n f made);
    }
