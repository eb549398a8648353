-- The user's first demand as a type, about the functions that the contracts of the calls cite: which refusal is given, and what it leaves.
-- The proof is in crate theory, file Promises/Demands: demand1.
-- Assumes nothing: definitions.
use Rattle.std.specs.Prelude.{◌≡◌, ◌⊎◌, Bool, true, false, ◌||◌, List, [], ◌∷◌, ◌++◌, ℕ, zero, suc, ◌≤◌, ◌<◌, eqb, length, get_or}
use Rattle.model.specs.declared.Cell.{Cell}
use Rattle.model.specs.declared.Format.{Format}
use Rattle.model.specs.declared.Format.TheVariants.{Full, Compact}
use Rattle.model.specs.Refusals.{number_of, place_of, first_fault, Checked, Accepted}
use Rattle.model.specs.Program.{time_in}
use Rattle.model.specs.ProgramChecks.{program_checks}
use Rattle.model.specs.Circuit.{Netlist, high}
use Rattle.model.specs.NetlistFile.{file_checks, file_check, net_of, finish_of}
use Rattle.model.specs.State.{Course, now_at, step_state, crowded, crowding, continued}
use Rattle.model.specs.TimeTables.{table_checks, given, Given, beside, load, given_checks, given_check}
use Rattle.model.specs.Calls.{verdict, written_verdict, check_call, compile_checks, compile_call, write_checks, write_call, read_checks, read_call, begin_checks, begin_call, continue_checks, continue_call, start_checks, start_call, run_netlist_checks, run_netlist_call, run_program_checks, run_program_call, reference_checks, reference_call}
use Rattle.model.specs.Gates.{slow_run_checks, slow_run_call}
use Rattle.model.specs.CellSlices.{has_cells, renumber_call, check_cells_checks, check_cells_call, write_cells_checks, write_cells_call, read_cells_checks, read_cells_call}

-- "the answer is the result or the first refusal in the published order, given only when its condition holds, and a refusal leaves all lent
-- memory as it was"

-- c has no number where no check has one, and else the number and the place of the first that has one
pub record FirstFound (checks : List Checked) (c : Checked) : Type 0 where
  pub accepted : number_of c ≡ 0 → (j : ℕ) → number_of (get_or checks j Accepted) ≡ 0
  pub refused : 1 ≤ number_of c
      → (i : ℕ) × (number_of c ≡ number_of (get_or checks i Accepted)) × (place_of c ≡ place_of (get_or checks i Accepted))
      × ((j : ℕ) → j < i → number_of (get_or checks j Accepted) ≡ 0)

-- whether k is one of these numbers
abbrev pub among : ℕ → List ℕ → Bool
among k [] = false
among k (n ∷ ns) = eqb k n || among k ns

-- a check accepts, or gives one of these numbers
abbrev pub Gives : List ℕ → Checked → Type 0
Gives ns c = (c ≡ Accepted) ⊎ (among (number_of c) ns ≡ true)

-- the checks are as many as the lists of numbers, and each gives no number but those of its own
abbrev pub InOrder : List (List ℕ) → List Checked → Type 0
InOrder [] [] = Unit {0}
InOrder [] (c ∷ cs) = ⊥
InOrder (ns ∷ nss) [] = ⊥
InOrder (ns ∷ nss) (c ∷ cs) = Gives ns c × InOrder nss cs

pub record Refuses (numbers : List (List ℕ)) (checks : List Checked) (c : Checked) : Type 0 where
  pub found : FirstFound checks c
  pub ordered : InOrder numbers checks

-- the numbers of a table's check, of the checks of what is given, of a program's and of a netlist file's, which `tables`, `givens`, `programs` and
-- `files` give one by one
abbrev pub table_numbers : List ℕ
table_numbers = 19 ∷ 20 ∷ 21 ∷ []

abbrev pub given_numbers : List ℕ
given_numbers = 27 ∷ table_numbers

abbrev pub program_numbers : List ℕ
program_numbers = 1 ∷ 2 ∷ 3 ∷ 4 ∷ 5 ∷ 6 ∷ 22 ∷ 24 ∷ 7 ∷ 25 ∷ 8 ∷ []

abbrev pub file_numbers : List ℕ
file_numbers = 9 ∷ 10 ∷ 11 ∷ 12 ∷ []

-- one number alone
abbrev pub just : ℕ → List ℕ
just n = n ∷ []

-- a refusal leaves what was lent, a list of bytes or of cells, as it was
abbrev pub Leaves : {A : Type 0} → Checked → List A → List A → Type 0
Leaves c entry exit = 1 ≤ number_of c → exit ≡ entry

-- the first of n places that has a fault: the condition holds there, and at no place before
pub record FirstPlace (fault : ℕ → ℕ) (n : ℕ) (c : Checked) : Type 0 where
  pub none : number_of c ≡ 0 → (j : ℕ) → j < n → fault j ≡ 0
  pub some : 1 ≤ number_of c → (place_of c < n) × (fault (place_of c) ≡ number_of c) × ((j : ℕ) → j < place_of c → fault j ≡ 0)

-- "any [pulse length] above 1 with a compact state"
abbrev pub long_numbers : Format → List ℕ
long_numbers Full = []
long_numbers Compact = just 27

-- a compact state alone meets 26
abbrev pub crowd_numbers : Format → List ℕ
crowd_numbers Full = []
crowd_numbers Compact = just 26

-- "alone among the refusals ... it changes lent memory"
abbrev pub LeavesBut : ℕ → Checked → List ℕ → List ℕ → Type 0
LeavesBut k c entry exit = 1 ≤ number_of c → (number_of c ≡ k → ⊥) → exit ≡ entry

-- the state n instants later, without a start
unfoldable pub later : Format → Netlist → ℕ → List ℕ → List ℕ
later F net zero s = s
later F net (suc n) s = later F net n (step_state F net false s)

-- how a continuing by n from state s goes, with f the finish: instant by instant, until the finish is high, n are done or 26 is met
pub record Goes (F : Format) (net : Netlist) (f n : ℕ) (s : List ℕ) (c : Course) : Type 0 where
  pub within : c.count ≤ n
  pub low : (m : ℕ) → suc m < c.count → high (now_at F (later F net (suc m) s) f) ≡ false
  pub good : (m : ℕ) → m < c.count → crowding F net (later F net m s) (later F net (suc m) s) ≡ Accepted
  -- "the state is left at the last good instant"
  pub left : c.state ≡ later F net c.count s
  pub done : c.check ≡ Accepted → (c.count ≡ n) ⊎ (high (now_at F c.state f) ≡ true)
  pub crowds : 1 ≤ number_of c.check → (c.count < n) × (crowding F net c.state (step_state F net false c.state) ≡ c.check)

-- of every call: the refusals in the published order, a check of its own for each line, and what a refusal leaves. Where a program is checked
-- it is with what is given beside it, G: 27 comes first, its table's refusals come "before 17, in this order", and a number of procedures above 8 is 1
pub record Demand1 : Type 0 where
  pub places : (fault : ℕ → ℕ) (n : ℕ) → FirstPlace fault n (first_fault fault 0 n)
  pub tables : (file : List ℕ) (k w : ℕ) → Refuses (just 19 ∷ just 20 ∷ just 21 ∷ []) (table_checks file) (load (beside (given file) k w)).checked
  pub givens : (G : Given) → Refuses (just 27 ∷ table_numbers ∷ []) (given_checks (load G)) (given_check (load G))
  pub programs : (G : Given) (program : List ℕ)
      → Refuses (given_numbers ∷ just 1 ∷ (2 ∷ 3 ∷ 4 ∷ []) ∷ (5 ∷ 6 ∷ []) ∷ just 22 ∷ just 24 ∷ just 7 ∷ just 25 ∷ just 8 ∷ [])
      (given_check (load G) ∷ program_checks (time_in (load G).times) G.pulse G.procedures program) (check_call (load G) program)
  pub files : (file : List ℕ) → Refuses (just 9 ∷ just 10 ∷ just 11 ∷ just 11 ∷ just 12 ∷ []) (file_checks file) (file_check file)
  pub compiling : (G : Given) (program lent : List ℕ) →
      let c = written_verdict (compile_call (load G) program lent).answer in
      Refuses (given_numbers ∷ program_numbers ∷ just 14 ∷ []) (compile_checks (load G) program lent) c
      × Leaves c lent (compile_call (load G) program lent).lent
  pub writing : (w : ℕ) (cells : List ℕ) (f : ℕ) (lent : List ℕ) →
      let c = written_verdict (write_call w cells f lent).answer in
      Refuses (just 27 ∷ just 11 ∷ just 12 ∷ just 14 ∷ []) (write_checks w cells f lent) c × Leaves c lent (write_call w cells f lent).lent
  pub reading : (file lent : List ℕ) →
      let c = written_verdict (read_call file lent).answer in
      Refuses (file_numbers ∷ just 14 ∷ []) (read_checks file lent) c × Leaves c lent (read_call file lent).lent
  pub beginning : (F : Format) (file words lent : List ℕ) →
      let c = verdict (begin_call F file words lent).answer.outcome in
      Refuses (file_numbers ∷ long_numbers F ∷ just 14 ∷ just 14 ∷ []) (begin_checks F file words lent) c × Leaves c lent (begin_call F file words lent).lent
  pub continuing : (F : Format) (file : List ℕ) (n : ℕ) (lent : List ℕ) →
      let r = continue_call F file n lent in
      let c = verdict r.answer.outcome in
      let on = continued F (net_of file) (finish_of file) n lent in
      Refuses (file_numbers ∷ long_numbers F ∷ just 14 ∷ just 15 ∷ just 16 ∷ crowd_numbers F ∷ []) (continue_checks F file n lent ++ (on.check ∷ [])) c
      × LeavesBut 26 c lent r.lent × (number_of c ≡ 26 → r.lent ≡ on.state)
  pub goes : (F : Format) (net : Netlist) (f n : ℕ) (s : List ℕ) → Goes F net f n s (continued F net f n s)
  -- "place the lowest such cell", of any netlist
  pub lines : (net : Netlist) (s t : List ℕ) → FirstPlace (crowded Compact net s t) (length net.cells) (crowding Compact net s t)
  pub starting : (F : Format) (file lent : List ℕ) →
      let c = verdict (start_call F file lent).answer.outcome in
      Refuses (file_numbers ∷ long_numbers F ∷ just 14 ∷ just 15 ∷ just 16 ∷ just 23 ∷ []) (start_checks F file lent) c × Leaves c lent (start_call F file lent).lent
  -- a start never meets 26
  pub starts_free : (F : Format) (file lent : List ℕ) → verdict (start_call F file lent).answer.outcome ≡ Accepted
      → crowding F (net_of file) lent (step_state F (net_of file) true lent) ≡ Accepted
  pub netlist_runs : (file words : List ℕ) (n : ℕ) (lent : List ℕ) →
      let c = verdict (run_netlist_call file words n lent).answer.outcome in
      Refuses (file_numbers ∷ just 13 ∷ just 14 ∷ just 14 ∷ []) (run_netlist_checks file words n lent) c
      × Leaves c lent (run_netlist_call file words n lent).lent
  pub program_runs : (G : Given) (program words : List ℕ) (n : ℕ) (for_file lent : List ℕ) →
      let r = run_program_call (load G) program words n for_file lent in
      let c = verdict r.answer.outcome in
      Refuses (given_numbers ∷ program_numbers ∷ just 13 ∷ just 14 ∷ just 14 ∷ just 14 ∷ []) (run_program_checks (load G) program words n for_file lent) c
      × Leaves c for_file r.netlist × Leaves c lent r.state
  -- no pulse length is given there: of G it is not looked at
  pub slow_runs : (G : Given) (program words : List ℕ) (n : ℕ) (for_values for_work : List ℕ) →
      let r = slow_run_call (load G) program words n for_values for_work in
      let c = verdict r.answer.outcome in
      Refuses (table_numbers ∷ program_numbers ∷ just 13 ∷ just 14 ∷ just 14 ∷ just 14 ∷ []) (slow_run_checks (load G) program words n for_values for_work) c
      × Leaves c for_values r.values × Leaves c for_work r.work
  pub references : (G : Given) (program words : List ℕ) (n : ℕ)
      → Refuses (given_numbers ∷ program_numbers ∷ just 13 ∷ just 14 ∷ []) (reference_checks (load G) program words n)
      (verdict (reference_call (load G) program words n).outcome)
  -- the calls on netlists that are held as cells
  pub cells_checked : (cs : List Cell) (f : ℕ) → Refuses (just 11 ∷ just 12 ∷ []) (check_cells_checks cs f) (check_cells_call cs f)
  pub cells_written : (w : ℕ) (cs : List Cell) (f : ℕ) (lent : List ℕ) →
      let c = written_verdict (write_cells_call w cs f lent).answer in
      Refuses (just 27 ∷ just 11 ∷ just 12 ∷ just 14 ∷ []) (write_cells_checks w cs f lent) c × Leaves c lent (write_cells_call w cs f lent).lent
  pub cells_read : (file : List ℕ) (k : ℕ) (lent : List Cell) →
      let c = written_verdict (read_cells_call file k lent).answer in
      Refuses (file_numbers ∷ just 14 ∷ []) (read_cells_checks file k lent) c × Leaves c lent (read_cells_call file k lent).lent
  -- renumbering has no number to give: where the list has no such cells it stays
  pub renumbered : (k i end : ℕ) (lent : List ℕ) → has_cells end lent ≡ false → renumber_call k i end lent ≡ lent
