-- Demand 1 of the calls of functional circuits: each gives the first refusal in the published order, and a refusal leaves what was lent as it was, but 26.
-- Assumes nothing.
use Rattle.std.specs.Prelude.{◌≡◌, ◌&&◌, not, List, [], ◌∷◌, ◌++◌, ℕ, ◌+◌, leb, length, Ok, Err}
use Rattle.std.proofs.Math.Path.{refl, sym}
use Rattle.std.proofs.Common.{◌∙◌, ap, arith}
use Rattle.std.proofs.Math.Bool.{true}
use Rattle.model.specs.declared.Format.{Format}
use Rattle.model.specs.declared.Format.TheVariants.{Full}
use Rattle.model.specs.declared.Options.{Options}
use Rattle.model.specs.declared.Answer.{Answer}
use Rattle.model.specs.Refusals.{number_of, refuse_if, first, Checked}
use Rattle.model.specs.Program.{node_at, node_count, time_in}
use Rattle.model.specs.ProgramChecks.{added, added_fault, functional_checks, check_functional}
use Rattle.model.specs.Rules.{functional, run}
use Rattle.model.specs.NetlistFile.{cells_of, net_of, finish_of, carries, last_fault, last_check}
use Rattle.model.specs.Circuit.{cell_at}
use Rattle.model.specs.Functional as circuit
use Rattle.model.specs.TimeTables.{Given, load}
use Rattle.model.specs.State.{state_size, begin_state, step_state, continued}
use Rattle.model.specs.Calls.{Returned, verdict, word_at, running, busy, begin_checks, begin_call, continue_checks, continue_call, start_checks, start_call, full_state, full_count, run_netlist_checks, run_netlist_call, reference_answer}
use Rattle.model.specs.RefusalPromises.{Gives, InOrder, Refuses, table_numbers, just, Leaves, LeavesBut, file_numbers, crowd_numbers}
use Rattle.model.specs.FunctionalCalls.{check_functional_call, statement_of, functional_file, compile_functional_checks, compile_functional_call, reference_functional_checks, reference_functional_call, retold, last_checks, in_mode, functionally, run_functional_program_checks, run_functional_program_call}
use Rattle.model.specs.FunctionalPromises.{functional_numbers, FunctionalRefusals}
use Rattle.laws.specs.Refusals.Laws.{first_one, first-behind, first-append, refused-append}
use Rattle.theory.specs.Refusals.Order.{positive, gives-if, gives-fault, faulty-if, gives-first, refuses, program-order, table-gives, file-gives, format-gives, short-gives, budget-gives, running-verdict, answering-verdict, run-refuses, write-refuses, reference-runs, going-order, run-both-refuses}
use Rattle.theory.specs.Refusals.Demand.{positive-with}
use Rattle.theory.specs.Refusals.Crowding.{going-verdict, all-positive, course-gives, continue-refuses}

-- Programs -------------------------------------------------------------------------------------------------------------------------------

abbrev numbers : List (List ℕ)
numbers = just 1 ∷ (2 ∷ 3 ∷ 4 ∷ []) ∷ (5 ∷ 6 ∷ []) ∷ just 28 ∷ just 22 ∷ just 24 ∷ just 7 ∷ just 25 ∷ just 8 ∷ []

functional-order : (τ : ℕ → ℕ) (s : List ℕ) → InOrder numbers (functional_checks τ s)
unfolding added_fault
functional-order τ s =
    let o = program-order τ 1 0 s in
    (o.0, (o.1.0, (o.1.1.0, (gives-fault (just 28) (added_fault s) (node_count s) (λ i. faulty-if (added (node_at s i).kind) 28), o.1.1.1))))

functional-gives : (options : Options) (s : List ℕ) → Gives functional_numbers (check_functional options s)
unfolding check_functional
functional-gives options s =
    gives-first functional_numbers numbers (functional_checks (time_in options.times) s) refl (functional-order (time_in options.times) s)

-- Runs -----------------------------------------------------------------------------------------------------------------------------------

last-gives : (file : List ℕ) → Gives (just 12) (last_check (cells_of file))
unfolding last_check last_fault
last-gives file =
    let net = cells_of file in
    gives-fault (just 12) (last_fault net) (length net) (λ k. faulty-if (leb (length net) (k + 16) && not (carries (cell_at net k))) 12)

retold-verdict : (F : Format) (file : List ℕ) (c : Checked) (r : Returned Answer) → verdict (retold F file c r).answer.outcome ≡ verdict r.answer.outcome
unfolding retold
retold-verdict F file (Ok _) r = refl
retold-verdict F file (Err q) r = refl

retold-lent : (F : Format) (file : List ℕ) (c : Checked) (r : Returned Answer) → (retold F file c r).lent ≡ r.lent
unfolding retold
retold-lent F file (Ok _) r = refl
retold-lent F file (Err q) r = refl

module _ (F : Format) (file lent : List ℕ) (r : Returned Answer) (cs : List Checked) (e : verdict r.answer.outcome ≡ first cs) where
  mode-verdict : verdict (functionally F file lent r).answer.outcome ≡ first (last_checks file ++ cs)
  unfolding in_mode verdict
  mode-verdict = go (first (last_checks file)) refl
    where
      go : (c : Checked) → first (last_checks file) ≡ c → verdict (in_mode F file c lent r).answer.outcome ≡ first (last_checks file ++ cs)
      go (Ok _) p = retold-verdict F file (verdict r.answer.outcome) r ∙ e ∙ sym (first-append (last_checks file) cs p)
      go (Err q) p = sym (refused-append (last_checks file) cs q p)

  module _ (but : ℕ) (leaves : LeavesBut but (first cs) lent r.lent) where
    mode-leaves : LeavesBut but (first (last_checks file ++ cs)) lent (functionally F file lent r).lent
    unfolding in_mode
    mode-leaves = go (first (last_checks file)) refl
      where
        go : (c : Checked) → first (last_checks file) ≡ c → LeavesBut but (first (last_checks file ++ cs)) lent (in_mode F file c lent r).lent
        go (Ok _) p l k =
            let z : first (last_checks file ++ cs) ≡ first cs = first-append (last_checks file) cs p in
            retold-lent F file (verdict r.answer.outcome) r ∙ leaves (rw z at l) (λ x. k (ap number_of z ∙ x))
        go (Err q) p l k = refl

-- a run whose refusals leave what was lent
mode-refuses : (F : Format) (file lent : List ℕ) (r : Returned Answer) (nss : List (List ℕ)) (cs : List Checked) → positive nss ≡ true → InOrder nss cs
    → verdict r.answer.outcome ≡ first cs → Leaves (first cs) lent r.lent →
    let c = verdict (functionally F file lent r).answer.outcome in
    Refuses (file_numbers ∷ just 12 ∷ nss) (last_checks file ++ cs) c × Leaves c lent (functionally F file lent r).lent
mode-refuses F file lent r nss cs w o e leaves =
    rw (mode-verdict F file lent r cs e) (
      refuses (file_numbers ∷ just 12 ∷ nss) (last_checks file ++ cs) w (file-gives file, (last-gives file, o)),
      λ l. mode-leaves F file lent r cs e 0 (λ i k. leaves i) l (λ z. omega (arith, z, l)),
    )

-- and one that shows a state
running-refuses : (F : Format) (nss : List (List ℕ)) (cs : List Checked) → positive nss ≡ true → InOrder nss cs → (file s : List ℕ) (n : ℕ) (lent : List ℕ) →
    let r = functionally F file lent (running F (first cs) file s n lent) in
    let c = verdict r.answer.outcome in
    Refuses (file_numbers ∷ just 12 ∷ nss) (last_checks file ++ cs) c × Leaves c lent r.lent
running-refuses F nss cs w o file s n lent =
    let v = running-verdict F (first cs) file s n lent in
    mode-refuses F file lent (running F (first cs) file s n lent) nss cs w o v (rw v at (run-refuses F nss cs w o file s n lent).1)

program_runs : (G : Given) (program words : List ℕ) (n : ℕ) (for_file lent : List ℕ) →
    let r = run_functional_program_call (load G) program words n for_file lent in
    let c = verdict r.answer.outcome in
    Refuses (table_numbers ∷ functional_numbers ∷ just 13 ∷ just 14 ∷ just 14 ∷ just 14 ∷ []) (run_functional_program_checks (load G) program words n for_file lent) c
    × Leaves c for_file r.netlist × Leaves c lent r.state
unfolding run_functional_program_call
program_runs G program words n for_file lent =
    let file = functional_file program in
    let cs = run_functional_program_checks (load G) program words n for_file lent in
    let s = full_state file words n lent in
    let m = full_count file words n lent in
    let r = running Full (first cs) file s m lent in
    rw (retold-verdict Full file (first cs) r, retold-lent Full file (first cs) r)
    (run-both-refuses _ cs refl (
      table-gives G,
      (
        functional-gives (load G) program,
        (
          budget-gives n,
          (short-gives (length words) 544, (short-gives (length for_file) (length file), (short-gives (length lent) (state_size Full (net_of file)), tt))),
        ),
      ),
    ) file s m for_file lent)

pub functional-refusals : FunctionalRefusals
unfolding compile_functional_call reference_functional_call begin_call start_call run_netlist_call
functional-refusals =
    record {
      programs = λ G program. unfold check_functional_call check_functional in
          rw (first-behind (load G).checked (first (functional_checks (time_in (load G).times) program) ∷ []) (functional_checks (time_in (load G).times) program) (sym (first_one _)))
          (refuses _ ((load G).checked ∷ functional_checks (time_in (load G).times) program) refl (table-gives G, functional-order (time_in (load G).times) program));
      compiling = λ G program lent.
          let file = functional_file program in
          write-refuses _ (compile_functional_checks (load G) program lent) refl
          (table-gives G, (functional-gives (load G) program, (short-gives (length lent) (length file), tt))) file (length file)
          (circuit.finish_of (statement_of program)) lent;
      references = λ G program words n.
          let P = statement_of program in
          rw (answering-verdict (first (reference_functional_checks (load G) program words n)) (reference_answer n (run functional n P (word_at words))) (reference-runs functional n P words))
          (refuses _ (reference_functional_checks (load G) program words n) refl (table-gives G, (functional-gives (load G) program, (budget-gives n, (short-gives (length words) 544, tt)))));
      beginning = λ F file words lent.
          running-refuses F _ (begin_checks F file words lent) (positive-with F (just 14 ∷ just 14 ∷ []) refl)
          (file-gives file, (format-gives F file, (short-gives (length words) 544, (short-gives (length lent) (state_size F (net_of file)), tt)))) file
          (begin_state F (net_of file) (word_at words) lent) 1 lent;
      continuing = λ F file n lent.
          let on = continued F (net_of file) (finish_of file) n lent in
          let cs = continue_checks F file n lent ++ (on.check ∷ []) in
          let v : verdict (continue_call F file n lent).answer.outcome ≡ first cs = unfold continue_call in going-verdict F (continue_checks F file n lent) file on lent in
          rw (mode-verdict F file lent (continue_call F file n lent) cs v) (
            refuses _ (last_checks file ++ cs) (all-positive F) (file-gives file, (last-gives file, going-order F file n lent (crowd_numbers F ∷ []) (on.check ∷ []) (course-gives F (net_of file) (finish_of file) n lent, tt))),
            mode-leaves F file lent (continue_call F file n lent) cs v 26 (rw v at (continue-refuses F file n lent).1),
          );
      starting = λ F file lent.
          running-refuses F _ (start_checks F file lent) (positive-with F (just 14 ∷ just 15 ∷ just 16 ∷ just 23 ∷ []) refl)
          (going-order F file _ lent (just 23 ∷ []) (refuse_if (busy F file lent) 23 0 ∷ []) (gives-if (busy F file lent) 23 0, tt)) file
          (step_state F (net_of file) true lent) 1 lent;
      netlist_runs = λ file words n lent.
          running-refuses Full _ (run_netlist_checks file words n lent) refl
          (file-gives file, (budget-gives n, (short-gives (length words) 544, (short-gives (length lent) (state_size Full (net_of file)), tt)))) file
          (full_state file words n lent) (full_count file words n lent) lent;
      program_runs = program_runs;
    }
