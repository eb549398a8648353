-- Compiling and full runs with buffers that have room for every program: only what is wrong with a program or a budget refuses them.
-- Assumes nothing.
use Rattle.std.specs.Prelude.{◌≡◌, List, ℕ, ◌≤◌, length}
use Rattle.std.proofs.Common.{◌∙◌, ap, arith}
use borrow.Author.Tests.{le-ltb}
use Rattle.model.specs.declared.Options.{Options}
use Rattle.model.specs.declared.Outcome.TheVariants.{Ended}
use Rattle.model.specs.Word.{Bytes}
use Rattle.model.specs.Refusals.{first, Accepted, Done}
use Rattle.model.specs.ProgramChecks.{program_with}
use Rattle.model.specs.NetlistFile.{net_of, file_check}
use Rattle.model.specs.Numbering.{netlist, finish}
use Rattle.model.specs.declared.Format.TheVariants.{Full}
use Rattle.model.specs.State.{state_size}
use Rattle.model.specs.Calls.{check_call, writing, compiled_file, compile_checks, compile_call, run_program_call, reference_call, run_program_checks}
use Rattle.model.specs.RunPromises.{Seen}
use Rattle.laws.specs.Refusals.Laws.{first-drop}
use Rattle.laws.specs.NetlistFile.Files.{cells-written, file-length}
use Rattle.laws.specs.Numbering.Count.{fits}
use Rattle.laws.specs.Program.Size.{few-nodes}
use Rattle.laws.specs.NetlistFile.Compiled.{compiled-accepted}
use Rattle.theory.specs.Promises.Reference.{same-answers}

-- Compiling with room ------------------------------------------------------------------------------------------------------------------

module _ (options : Options) (program : List ℕ) (bytes : Bytes program) (accepted : check_call options program ≡ Accepted) where
  file-read : file_check (compiled_file options program) ≡ Accepted
  file-read = compiled-accepted options program bytes accepted

  -- its netlist has at most 627 cells, and so its file at most eight blocks
  net-room : (27 ≤ length (netlist (program_with options program))) × (length (netlist (program_with options program)) ≤ 627)
  net-room = fits (program_with options program) (few-nodes options program accepted)

  file-room : length (compiled_file options program) ≤ 6656
  file-room = rw (file-length options.pulse (netlist (program_with options program)) (finish (program_with options program))) (omega (arith, net-room.1))

  pub compile-is : (lent : List ℕ) → 6656 ≤ length lent
      → (compile_call options program lent).answer ≡ Done (length (compiled_file options program)) (finish (program_with options program))
  unfolding compile_call writing check_call
  compile-is lent room =
      rw (first-drop 2 (compile_checks options program lent) accepted, le-ltb (length lent) (length (compiled_file options program)) (omega (arith, file-room)))

-- A full run with room -----------------------------------------------------------------------------------------------------------------

module _ (options : Options) (program words for_file for_state : List ℕ) (n : ℕ) (bytes : Bytes program) (accepted : check_call options program ≡ Accepted)
    (some : 544 ≤ length words) (f : 6656 ≤ length for_file) (s : 41480 ≤ length for_state) (l : n ≤ 1000000) where
  abbrev file : List ℕ
  file = compiled_file options program

  abbrev read : file_check file ≡ Accepted
  read = file-read options program bytes accepted

  state-room : state_size Full (net_of file) ≤ length for_state
  state-room =
      let S = program_with options program in
      let r = net-room options program bytes accepted in
      rw (cells-written options.pulse (netlist S) (finish S) (omega (arith, r.0))) (omega (arith, r.1))

  pub checks : first (run_program_checks options program words n for_file for_state) ≡ Accepted
  unfolding check_call
  checks =
      rw (
        first-drop 2 (run_program_checks options program words n for_file for_state) accepted,
        le-ltb 1000000 n l,
        le-ltb (length words) 544 some,
        le-ltb (length for_file) (length file) (omega (arith, file-room options program bytes accepted)),
        le-ltb (length for_state) (state_size Full (net_of file)) state-room,
      )

  -- where the reference run says that it ended, the two answer the same
  pub full-run-ended : (reference_call options program words n).outcome ≡ Ended
      → (run_program_call options program words n for_file for_state).answer ≡ reference_call options program words n
  full-run-ended h =
      let a = same-answers options program words n for_file for_state bytes checks in
      a.1 (ap (λ (s : Seen). s.outcome) a.0 ∙ h)
