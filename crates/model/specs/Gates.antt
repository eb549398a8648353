-- Gates that take their time: the equations of a second run of a program's netlist, in which each operator cell shows the result of its inputs as
-- they were its own time earlier; the values that it works out; and the full run by them.
-- Assumes nothing: definitions.
use Rattle.std.specs.Prelude.{◌≡◌, Bool, true, false, List, [], ◌∷◌, ◌++◌, ℕ, zero, suc, ◌+◌, ◌-◌, ◌*◌, ◌<◌, eqb, leb, ltb, length, get_or, replicate, Ok, Err}
use Rattle.model.specs.declared.Options.{Options}
use Rattle.model.specs.declared.Outcome.TheVariants.{Ended, Open}
use Rattle.model.specs.declared.Answer.{Answer}
use Rattle.model.specs.declared.Cell.{Cell}
use Rattle.model.specs.Word.{pick, operate, index, bytes16}
use Rattle.model.specs.Refusals.{first, Checked}
use Rattle.model.specs.Program.{Program, time_in}
use Rattle.model.specs.ProgramChecks.{program_with, check_of}
use Rattle.model.specs.Circuit.{cell_at, Sig, Values, Elements, level, element, memory_words, start_word, Shape, shape, equation, k_constant, k_complement, k_operator, k_start, k_ground, k_delay, k_or, k_when_true, k_when_false, k_merge, k_return, k_memory, k_gated, k_array, k_address, k_read, k_latch, k_unknown}
use Rattle.model.specs.Numbering.{netlist, finish, data_at}
use Rattle.model.specs.Calls.{overwrite, short, refused_answer, over_budget, word_at}

-- The equations ------------------------------------------------------------------------------------------------------------------------

-- "(inputs 0 before instant 0)": the word w as it was d instants before t
unfoldable pub past : ℕ → (ℕ → ℕ) → ℕ → ℕ
past d w t = pick (leb d t) (w (t - d)) 0

-- "each operator cell, kind 44 too (its array's words are inputs), shows the result of its inputs as they were its own time earlier": what cell k,
-- which is c, shows at instant t, with pulses of 1; τ tells the operator time of each kind of node, and a kind 44 is a node of kind 10. The others are as
-- in the ideal circuit, a constant among them, which has no inputs: "Control cells, kind 41 ... stay instant."
unfoldable pub gate : (ℕ → ℕ) → Shape → Sig → ℕ → Elements → Values → ℕ → Cell → ℕ → ℕ
gate τ k_constant starts word₀ E W k c t = equation 1 k_constant starts word₀ E W k c t
gate τ k_complement starts word₀ E W k c t = operate 3 (past (τ 3) (W c.a) t) 0
gate τ k_operator starts word₀ E W k c t = operate c.kind (past (τ c.kind) (W c.a) t) (past (τ c.kind) (W c.b) t)
gate τ k_start starts word₀ E W k c t = equation 1 k_start starts word₀ E W k c t
gate τ k_ground starts word₀ E W k c t = equation 1 k_ground starts word₀ E W k c t
gate τ k_delay starts word₀ E W k c t = equation 1 k_delay starts word₀ E W k c t
gate τ k_or starts word₀ E W k c t = equation 1 k_or starts word₀ E W k c t
gate τ k_when_true starts word₀ E W k c t = equation 1 k_when_true starts word₀ E W k c t
gate τ k_when_false starts word₀ E W k c t = equation 1 k_when_false starts word₀ E W k c t
gate τ k_merge starts word₀ E W k c t = equation 1 k_merge starts word₀ E W k c t
gate τ k_return starts word₀ E W k c t = equation 1 k_return starts word₀ E W k c t
gate τ k_memory starts word₀ E W k c t = equation 1 k_memory starts word₀ E W k c t
gate τ k_gated starts word₀ E W k c t = equation 1 k_gated starts word₀ E W k c t
gate τ k_array starts word₀ E W k c t = equation 1 k_array starts word₀ E W k c t
gate τ k_address starts word₀ E W k c t = equation 1 k_address starts word₀ E W k c t
gate τ k_read starts word₀ E W k c t = past (τ 10) (λ u. E c.a (index (W c.b u)) u) t
gate τ k_latch starts word₀ E W k c t = equation 1 k_latch starts word₀ E W k c t
gate τ k_unknown starts word₀ E W k c t = equation 1 k_unknown starts word₀ E W k c t

-- a full run has one start pulse
abbrev pub first_start : Sig
first_start t = eqb t 0

-- "the data and address ors stay instant": they are the cells from `ors` on
unfoldable pub slow_cell : (ℕ → ℕ) → List Cell → ℕ → (ℕ → ℕ) → Values → ℕ → ℕ → ℕ
slow_cell τ net ors words W k t =
    let c = cell_at net k in
    pick (ltb k ors) (gate τ (shape c.kind) first_start (start_word net words k) (element net words W) W k c t)
    (equation 1 (shape c.kind) first_start (start_word net words k) (element net words W) W k c t)

-- W is what the cells of the program's netlist show when they are run from these start words with operators that take their time
unfoldable pub ObeysSlowly : (ℕ → ℕ) → Program → (ℕ → ℕ) → Values → Type 0
ObeysSlowly τ S words W = (k : ℕ) → k < length (netlist S) → (t : ℕ) → W k t ≡ slow_cell τ (netlist S) (data_at S) words W k t

-- The values that it works out -----------------------------------------------------------------------------------------------------------

-- a history: the values of the cells at each instant so far
abbrev pub values_in : List (List ℕ) → Values
values_in H k t = get_or (get_or H t []) k 0

-- instant by instant, and within an instant cell by cell; F W k t is what cell k shows at instant t by the values W of lower cells and of the past
unfoldable pub row_from : (Values → ℕ → ℕ → ℕ) → List (List ℕ) → List ℕ → ℕ → List ℕ
row_from F H row zero = row
row_from F H row (suc n) = row_from F H (row ++ (F (values_in (H ++ (row ∷ []))) (length row) (length H) ∷ [])) n

-- the first t instants of n cells
unfoldable pub history : (Values → ℕ → ℕ → ℕ) → ℕ → ℕ → List (List ℕ)
unfolding row_from
history F n zero = []
history F n (suc t) =
    let H = history F n t in
    H ++ (row_from F H [] n ∷ [])

unfoldable pub worked : (Values → ℕ → ℕ → ℕ) → ℕ → Values
unfolding history
worked F n k t = values_in (history F n (suc t)) k t

-- of a netlist, and of a program's
unfoldable pub slow_values : (ℕ → ℕ) → List Cell → ℕ → (ℕ → ℕ) → Values
slow_values τ net ors words = worked (slow_cell τ net ors words) (length net)

abbrev pub slowly : (ℕ → ℕ) → Program → (ℕ → ℕ) → Values
slowly τ S words = slow_values τ (netlist S) (data_at S) words

-- The full run ---------------------------------------------------------------------------------------------------------------------------

-- a run of budget n ends at the first instant at which a signal is high, or else at n
unfoldable pub end_at : (ℕ → Bool) → ℕ → ℕ → ℕ
end_at finishes t zero = t
end_at finishes t (suc n) = elim (finishes t) [ true ↦ t | false ↦ end_at finishes (suc t) n ]

-- "It answers as a full run does": of cells with this finish, by their values W at its last instant t
unfoldable pub slow_answer : List Cell → ℕ → Values → ℕ → Answer
slow_answer net f W t =
    record {
      outcome = pick (level W f t) Ended Open;
      instant = t;
      count = t + 1;
      words = memory_words net 0 (λ k. W k t);
    }

-- "writes every cell's value at its last instant, two bytes each in cell order": n cells from k on
unfoldable pub value_bytes : (ℕ → ℕ) → ℕ → ℕ → List ℕ
value_bytes v k zero = []
value_bytes v k (suc n) = bytes16 (v k) ++ value_bytes v (k + 1) n

-- Lent are a list for the values, and one to work in: two bytes for each of the last 256 instants, of each cell's value and of what each cell holds, and
-- for each element.
abbrev pub slow_size : ℕ → ℕ
slow_size n = 512 * (2 * n + 1)

-- "for imperative programs of pulse length 1": of what is given beside a program the table and the number of procedures are looked at, and no pulse length
abbrev pub with_pulse : ℕ → Options → Options
with_pulse w options = record { checked = options.checked; times = options.times; procedures = options.procedures; pulse = w }

abbrev pub slow_program : Options → List ℕ → Program
slow_program options program = program_with (with_pulse 1 options) program

-- a slow run of a program: 19 to 21, 1 to 8, 22, 24 and 25, 13, 14
abbrev pub slow_run_checks : Options → List ℕ → List ℕ → ℕ → List ℕ → List ℕ → List Checked
slow_run_checks options program words n for_values for_work =
    let cells = length (netlist (slow_program options program)) in
    options.checked
    ∷ check_of (with_pulse 1 options) program
    ∷ over_budget n
    ∷ short (length words) 544
    ∷ short (length for_values) (2 * cells)
    ∷ short (length for_work) (slow_size cells)
    ∷ []

-- the answer, and both lists at exit: what was worked in is left 0
pub record ReturnedSlow : Type 0 where
  pub answer : Answer
  pub values : List ℕ
  pub work : List ℕ

unfoldable pub slow_running : Checked → Options → List ℕ → List ℕ → ℕ → List ℕ → List ℕ → ReturnedSlow
slow_running (Ok _) options program words n for_values for_work =
    let S = slow_program options program in
    let cells = length (netlist S) in
    let W = slowly (time_in options.times) S (word_at words) in
    let t = end_at (level W (finish S)) 0 n in
    record {
      answer = slow_answer (netlist S) (finish S) W t;
      values = overwrite (value_bytes (λ k. W k t) 0 cells) for_values;
      work = overwrite (replicate (slow_size cells) 0) for_work;
    }
slow_running (Err r) options program words n for_values for_work = record { answer = refused_answer r; values = for_values; work = for_work }

unfoldable pub slow_run_call : Options → List ℕ → List ℕ → ℕ → List ℕ → List ℕ → ReturnedSlow
slow_run_call options program words n for_values for_work =
    slow_running (first (slow_run_checks options program words n for_values for_work)) options program words n for_values for_work
