-- What is promised of parts that are joined, as a type: which parts may be, that they then make an accepted program, and that what is written is what
-- compiling it writes, so that the three demands hold of it.
-- The proof is in crate theory, file Promises/Parts: joins.
-- Assumes nothing: definitions.
use Rattle.std.specs.Prelude.{◌≡◌, ◌↔◌, List, [], ◌∷◌, ◌++◌, ℕ, ◌≤◌, length, take}
use Rattle.model.specs.declared.Format.{Format}
use Rattle.model.specs.declared.Format.TheVariants.{Full}
use Rattle.model.specs.declared.Options.{Options}
use Rattle.model.specs.Word.{Bytes}
use Rattle.model.specs.Refusals.{first, Accepted, Done}
use Rattle.model.specs.Program.{Code, ok, seq, Program, node_count, program_of}
use Rattle.model.specs.Procedures.{meaning}
use Rattle.model.specs.TimeTables.{Given, load}
use Rattle.model.specs.Calls.{verdict, written_verdict, check_call, compiled_file, compile_call, word_at, begin_call, run_netlist_call, run_program_call}
use Rattle.model.specs.RefusalPromises.{table_numbers, given_numbers, program_numbers, file_numbers, just, Refuses, Leaves}
use Rattle.model.specs.CircuitPromises.{Published}
use Rattle.model.specs.RunPromises.{Call, Keeps, FullRuns}
use Rattle.model.specs.PartCalls.{Part, part_at, whole_program, beside_part, beside_whole, part_checks, join_checks, join_call}

-- the statement of a part, and of the whole: "grouped to the right"
abbrev pub part_statement : Part → Code
part_statement p = (program_of p.pulse 0 p.program).main

unfoldable pub whole_statement : List Part → Code
whole_statement [] = ok
whole_statement (p ∷ []) = part_statement p
whole_statement (p ∷ (q ∷ ps)) = seq (part_statement p) (whole_statement (q ∷ ps))

-- the program of that statement, with the pulse length that all parts have
abbrev pub joined_program : List Part → Program
joined_program ps = record { bodies = []; main = whole_statement ps; pulse = (part_at ps 0).pulse }

-- R holds of each part
abbrev pub EachPart : (Part → Type 0) → List Part → Type 0
EachPart R [] = Unit {0}
EachPart R (p ∷ ps) = R p × EachPart R ps

-- parts that were "compiled one by one", "two to eight" of them, of one pulse length, and their sequence has at most 200 nodes
pub record Joinable (options : Options) (ps : List Part) : Type 0 where
  pub number : (2 ≤ length ps) × (length ps ≤ 8)
  pub compiled :
      EachPart
      (λ p.
      (check_call (beside_part options p) p.program ≡ Accepted) × (p.file ≡ compiled_file (beside_part options p) p.program))
      ps
  pub pulses : EachPart (λ p. p.pulse ≡ (part_at ps 0).pulse) ps
  pub nodes : node_count (whole_program ps) ≤ 200

-- the numbers of each part's own checks, "program before file", and at the end the table's, for no part
abbrev pub own_numbers : List Part → List (List ℕ)
own_numbers [] = table_numbers ∷ []
own_numbers (p ∷ ps) = given_numbers ∷ program_numbers ∷ file_numbers ∷ own_numbers ps

pub record Joins : Type 0 where
  -- the answer is the result or the first refusal in the published order, and a refusal leaves all lent memory as it was
  pub refuses : (G : Given) (ps : List Part) (lent : List ℕ) →
      let c = written_verdict (join_call (load G) ps lent).answer in
      Refuses (own_numbers ps ++ (just 29 ∷ just 29 ∷ just 30 ∷ just 31 ∷ just 14 ∷ [])) (join_checks (load G) ps lent) c
      × Leaves c lent (join_call (load G) ps lent).lent
  -- parts that may be joined, and no others, are refused by nothing but 14
  pub accepts : (options : Options) (ps : List Part) → EachPart (λ p. Bytes p.program) ps → (first (part_checks options ps) ≡ Accepted) ↔ Joinable options ps
  -- they make a program that is accepted, and it is their sequence
  pub wholes : (options : Options) (ps : List Part) → first (part_checks options ps) ≡ Accepted
      → (check_call (beside_whole options ps) (whole_program ps) ≡ Accepted) × (program_of (part_at ps 0).pulse 0 (whole_program ps) ≡ joined_program ps)
  -- "The file is byte for byte that of the whole sequence": answer and lent bytes are those of compiling it, 14 included
  pub files : (options : Options) (ps : List Part) (lent : List ℕ) → first (part_checks options ps) ≡ Accepted
      → join_call options ps lent ≡ compile_call (beside_whole options ps) (whole_program ps) lent
  -- so demands 2 and 3 hold of what was joined
  pub published : (options : Options) (ps : List Part) (lent : List ℕ) (n f : ℕ) → EachPart (λ p. Bytes p.program) ps
      → (join_call options ps lent).answer ≡ Done n f → Published (joined_program ps) (take n (join_call options ps lent).lent) f
  pub lists : (F : Format) (options : Options) (ps : List Part) (for_file words for_state : List ℕ) (calls : List Call) (n f : ℕ)
      → (join_call options ps for_file).answer ≡ Done n f →
      let file = take n (join_call options ps for_file).lent in
      let begun = begin_call F file words for_state in
      verdict begun.answer.outcome ≡ Accepted → Keeps F (part_at ps 0).pulse (meaning (joined_program ps)) (word_at words) file begun calls
  pub full_runs : (options : Options) (ps : List Part) (for_file words for_state : List ℕ) (n f : ℕ) → (join_call options ps for_file).answer ≡ Done n f →
      let file = take n (join_call options ps for_file).lent in
      let begun = begin_call Full file words for_state in
      verdict begun.answer.outcome ≡ Accepted
      → FullRuns file for_file begun (λ k. run_program_call (beside_whole options ps) (whole_program ps) words k for_file for_state)
      (λ k. run_netlist_call file words k for_state)
