-- Demand 1: every call gives the first refusal in the published order, and a refusal leaves what was lent as it was; 26 leaves the state of the last
-- good instant.
-- Assumes nothing.
use Rattle.std.specs.Prelude.{◌≡◌, ◌||◌, List, [], ◌∷◌, ℕ, ◌+◌, ◌*◌, ◌%◌, ltb, length, Ok, Err}
use Rattle.std.proofs.Math.Path.{refl}
use Rattle.std.proofs.Common.{sym, arith}
use Rattle.std.proofs.Math.Bool.{true}
use Rattle.model.specs.declared.Options.{Options}
use Rattle.model.specs.declared.Cell.{Cell}
use Rattle.model.specs.declared.Format.{Format}
use Rattle.model.specs.declared.Format.TheVariants.{Full, Compact}
use Rattle.model.specs.Refusals.{refuse_if, first, Checked, Accepted}
use Rattle.model.specs.Program.{time_in}
use Rattle.model.specs.Procedures.{meaning}
use Rattle.model.specs.ProgramChecks.{program_checks, program_with, check_of}
use Rattle.model.specs.Rules.{imperative, run}
use Rattle.model.specs.Circuit.{Values, level}
use Rattle.model.specs.Numbering.{netlist, finish}
use Rattle.model.specs.NetlistFile.{net_of, pulse_wrong, count_wrong, file_checks, file_check, blocks_for, file_of, cell_bytes, cells_of, count_of, finish_of}
use Rattle.model.specs.TimeTables.{given_checks, given_check, table_checks, verdict_of, Given, load}
use Rattle.model.specs.State.{state_size, begin_state, step_state, crowded, crowding}
use Rattle.model.specs.Calls.{verdict, check_call, compiled_file, compile_checks, compile_call, cells_in, write_checks, write_call, read_checks, read_call, word_at, begin_checks, begin_call, continue_call, busy, start_checks, start_call, full_state, full_count, run_netlist_checks, run_netlist_call, run_program_checks, run_program_call, reference_answer, reference_checks, reference_call}
use Rattle.model.specs.Gates.{slowly, end_at, slow_answer, slow_size, with_pulse, slow_program, slow_run_checks, slow_running, slow_run_call}
use Rattle.model.specs.CellSlices.{behind, check_cells_checks, check_cells_call, write_cells_checks, write_cells_call, read_cells_checks, read_cells_call}
use Rattle.model.specs.RefusalPromises.{Refuses, table_numbers, given_numbers, program_numbers, file_numbers, long_numbers, just, Leaves, Demand1}
use Rattle.laws.specs.Refusals.Laws.{first_one, first-behind, first-place}
use Rattle.theory.specs.Refusals.Order.{gives-if, positive, refuses, program-order, check-gives, table-order, table-gives, given-order, given-gives, format-gives, net-gives, miscount-gives, file-order, file-gives, short-gives, budget-gives, placing-verdict, placing-leaves, answering-verdict, run-refuses, write-refuses, reference-runs, compile-order, run-order, going-order, run-both-refuses}
use Rattle.theory.specs.Promises.Replay.{no-refusal}
use Rattle.theory.specs.Refusals.Crowding.{goes, continue-refuses, start-free}

-- no number is 0, with 27 or without
pub positive-with : (F : Format) (nss : List (List ℕ)) → positive nss ≡ true → positive (file_numbers ∷ long_numbers F ∷ nss) ≡ true
positive-with Full nss e = e
positive-with Compact nss e = e

program_runs : (G : Given) (program words : List ℕ) (n : ℕ) (for_file lent : List ℕ) →
    let r = run_program_call (load G) program words n for_file lent in
    let c = verdict r.answer.outcome in
    Refuses (given_numbers ∷ program_numbers ∷ just 13 ∷ just 14 ∷ just 14 ∷ just 14 ∷ []) (run_program_checks (load G) program words n for_file lent) c
    × Leaves c for_file r.netlist × Leaves c lent r.state
unfolding run_program_call
program_runs G program words n for_file lent =
    let file = compiled_file (load G) program in
    run-both-refuses _ (run_program_checks (load G) program words n for_file lent) refl
    (given-gives G, run-order (load G) program words n for_file lent) file (full_state file words n lent)
    (full_count file words n lent) for_file lent

answered : (net : List Cell) (f : ℕ) (W : Values) (t : ℕ) → verdict (slow_answer net f W t).outcome ≡ Accepted
unfolding slow_answer
answered net f W t = no-refusal (level W f t)

pub slow-verdict : (c : Checked) (options : Options) (program words : List ℕ) (n : ℕ) (for_values for_work : List ℕ)
    → verdict (slow_running c options program words n for_values for_work).answer.outcome ≡ c
unfolding slow_running
slow-verdict (Ok _) options program words n for_values for_work =
    let S = slow_program options program in
    let W = slowly (time_in options.times) S (word_at words) in
    answered (netlist S) (finish S) W (end_at (level W (finish S)) 0 n)
slow-verdict (Err r) options program words n for_values for_work = unfold verdict in refl

slow-leaves : (c : Checked) (options : Options) (program words : List ℕ) (n : ℕ) (for_values for_work : List ℕ) →
    let r = slow_running c options program words n for_values for_work in
    Leaves c for_values r.values × Leaves c for_work r.work
unfolding slow_running
slow-leaves (Ok _) options program words n for_values for_work = (λ l. absurd (omega arith), λ l. absurd (omega arith))
slow-leaves (Err r) options program words n for_values for_work = (λ l. refl, λ l. refl)

slow-runs : (G : Given) (program words : List ℕ) (n : ℕ) (for_values for_work : List ℕ) →
    let r = slow_run_call (load G) program words n for_values for_work in
    let c = verdict r.answer.outcome in
    Refuses (table_numbers ∷ program_numbers ∷ just 13 ∷ just 14 ∷ just 14 ∷ just 14 ∷ []) (slow_run_checks (load G) program words n for_values for_work) c
    × Leaves c for_values r.values × Leaves c for_work r.work
unfolding slow_run_call
slow-runs G program words n for_values for_work =
    let checks = slow_run_checks (load G) program words n for_values for_work in
    let cells = length (netlist (slow_program (load G) program)) in
    let leaves = slow-leaves (first checks) (load G) program words n for_values for_work in
    rw (slow-verdict (first checks) (load G) program words n for_values for_work) (
      refuses _ checks refl (
        table-gives G,
        (
          check-gives (with_pulse 1 (load G)) program,
          (
            budget-gives n,
            (short-gives (length words) 544, (short-gives (length for_values) (2 * cells), (short-gives (length for_work) (slow_size cells), tt))),
          ),
        ),
      ),
      leaves.0,
      leaves.1,
    )

pub demand-1 : Demand1
unfolding check_call check_of file_check compile_call write_call read_call begin_call continue_call start_call run_netlist_call reference_call
demand-1 =
    record {
      places = first-place;
      tables = λ file k w. unfold load verdict_of in refuses _ (table_checks file) refl (table-order file);
      givens = λ G. unfold given_check in refuses _ (given_checks (load G)) refl (given-order G);
      programs = λ G program. unfold load in
          let τ = time_in (load G).times in
          let checks = program_checks τ G.pulse G.procedures program in
          rw (first-behind (given_check (load G)) (first checks ∷ []) checks (sym (first_one _)))
          (refuses _ (given_check (load G) ∷ checks) refl (given-gives G, program-order τ G.pulse G.procedures program));
      files = λ file. refuses _ (file_checks file) refl (file-order file);
      compiling = λ G program lent.
          let file = compiled_file (load G) program in
          write-refuses _ (compile_checks (load G) program lent) refl (given-gives G, compile-order (load G) program lent) file (length file)
          (finish (program_with (load G) program)) lent;
      writing = λ w cells f lent.
          let net = cells_in cells in
          write-refuses _ (write_checks w cells f lent) refl (
            gives-if (pulse_wrong w) 27 0,
            (
              gives-if (ltb 0 (length cells % 6) || count_wrong (blocks_for (length net)) (length net) f) 11 0,
              (net-gives net f, (short-gives (length lent) (length (file_of w net f)), tt)),
            ),
          )
          (file_of w net f) (length (file_of w net f)) f lent;
      reading = λ file lent.
          write-refuses _ (read_checks file lent) refl (file-gives file, (short-gives (length lent) (6 * count_of file), tt)) (cell_bytes (cells_of file)) (count_of file)
          (finish_of file) lent;
      beginning = λ F file words lent.
          run-refuses F _ (begin_checks F file words lent) (positive-with F (just 14 ∷ just 14 ∷ []) refl)
          (file-gives file, (format-gives F file, (short-gives (length words) 544, (short-gives (length lent) (state_size F (net_of file)), tt)))) file
          (begin_state F (net_of file) (word_at words) lent) 1 lent;
      continuing = continue-refuses;
      goes = goes;
      lines = λ net s t. unfold crowding in first-place (crowded Compact net s t) (length net.cells);
      starting = λ F file lent.
          run-refuses F _ (start_checks F file lent) (positive-with F (just 14 ∷ just 15 ∷ just 16 ∷ just 23 ∷ []) refl)
          (going-order F file _ lent (just 23 ∷ []) (refuse_if (busy F file lent) 23 0 ∷ []) (gives-if (busy F file lent) 23 0, tt)) file
          (step_state F (net_of file) true lent) 1 lent;
      starts_free = start-free;
      netlist_runs = λ file words n lent.
          run-refuses Full _ (run_netlist_checks file words n lent) refl
          (file-gives file, (budget-gives n, (short-gives (length words) 544, (short-gives (length lent) (state_size Full (net_of file)), tt)))) file
          (full_state file words n lent) (full_count file words n lent) lent;
      program_runs = program_runs;
      slow_runs = slow-runs;
      references = λ G program words n.
          let P = meaning (program_with (load G) program) in
          rw (answering-verdict (first (reference_checks (load G) program words n)) (reference_answer n (run (imperative (load G).pulse) n P (word_at words))) (reference-runs (imperative (load G).pulse) n P words))
          (refuses _ (reference_checks (load G) program words n) refl (given-gives G, (check-gives (load G) program, (budget-gives n, (short-gives (length words) 544, tt)))));
      cells_checked = λ cs f. unfold check_cells_call in refuses _ (check_cells_checks cs f) refl (miscount-gives cs f, (net-gives cs f, tt));
      cells_written = λ w cs f lent. unfold write_cells_call in
          write-refuses _ (write_cells_checks w cs f lent) refl
          (gives-if (pulse_wrong w) 27 0, (miscount-gives cs f, (net-gives cs f, (short-gives (length lent) (length (file_of w cs f)), tt))))
          (file_of w cs f) (length (file_of w cs f)) f lent;
      cells_read = λ file k lent. unfold read_cells_call in
          rw (placing-verdict (first (read_cells_checks file k lent)) k (behind k (cells_of file)) (count_of file) (finish_of file) lent) (
            refuses _ (read_cells_checks file k lent) refl (file-gives file, (short-gives (length lent) (k + count_of file), tt)),
            placing-leaves (first (read_cells_checks file k lent)) k (behind k (cells_of file)) (count_of file) (finish_of file) lent,
          );
      renumbered = λ k i end lent e. rw e;
    }
