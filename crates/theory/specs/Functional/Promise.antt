-- Functional circuits keep their promise: compiling writes a file that is accepted, and a beginning and a whole list of calls on it, in the mode of a functional
-- run and on a state of either format, do what the rules of functional circuits say.
-- Assumes nothing.
use Rattle.std.specs.Prelude.{◌≡◌, ◌↔◌, true, false, ℕ, zero, suc, ◌+◌, ◌-◌, ◌*◌, ◌<◌, ◌≤◌, ltb, length, drop, Result, Ok, Err}
use Rattle.std.proofs.Math.Path.{refl, sym, ap, ap₂}
use Rattle.std.proofs.Common.{◌∙◌, subst, arith, ltb-false}
use mathlib.Core.List.{List, ◌∷◌, ◌++◌, map, append-nil}
use Rattle.std.proofs.Math.ListN.{take}
use Rattle.std.proofs.Math.Seq.{take-append_seam}
use Rattle.model.specs.declared.Refusal.{Refusal}
use Rattle.model.specs.declared.Cell.{Cell}
use Rattle.model.specs.declared.Format.{Format}
use Rattle.model.specs.declared.Format.TheVariants.{Full, Compact}
use Rattle.model.specs.declared.Options.{Options}
use Rattle.model.specs.declared.Written.{Written}
use Rattle.model.specs.declared.Answer.{Answer}
use Rattle.model.specs.Word.{get16, Bytes}
use Rattle.model.specs.Refusals.{first, Checked, Accepted, Done}
use Rattle.model.specs.Program.{Stmt, program_of}
use Rattle.model.specs.ProgramChecks.{check_functional}
use Rattle.model.specs.Rules.{functional, Store, Ends, run, due}
use Rattle.model.specs.Circuit.{Netlist, Sig, Values, level, high, memory_words, Obeys}
use Rattle.model.specs.NetlistFile.{file_check, cells_of, net_of, finish_of, pulse_of, pulse_wrong, last_check, last_words}
use Rattle.model.specs.Functional.{netlist_of, last_at, memory_at, rows, sixteen, idle_arrays}
use Rattle.model.specs.Functional as circuit
use Rattle.model.specs.State.{flight_of, state_size, now_at, begin_state}
use Rattle.model.specs.Calls.{Returned, verdict, word_at, refused_answer, shows, running, is_too_long, begin_checks, begin_call, listed}
use Rattle.model.specs.CircuitPromises.{Apart, Idle, NoStart, ended_if}
use Rattle.model.specs.RunPromises.{Request, continuing, start, Call, respond, Seen, seen, seen_of, Stand, stand, Runs, run_at, due_at, expected, stands, starts_of, Along, Unchanged}
use Rattle.model.specs.FunctionalCalls.{statement_of, functional_file, compile_functional_checks, compile_functional_call, retold, last_checks, in_mode, functionally, begin_functional_call}
use Rattle.model.specs.FunctionalPromises.{respond_functional, replay_functional, LastWords, FunctionalBehaves, FunctionalTells, FunctionalKeeps, FunctionalFile}
use Rattle.laws.specs.Refusals.Laws.{by_bool, not-refused, all-accept, refuse-unless}
use Rattle.laws.specs.Program.Fit.{Formed, Timed, Basic, exits}
use Rattle.laws.specs.Program.Admitted.{program-admitted, meaning-timed, meaning-closed}
use Rattle.laws.specs.Program.Widths.{gap-one}
use Rattle.laws.specs.Rules.Laws.{by_runs}
use Rattle.laws.specs.Rules.Uses.{never-leaves}
use Rattle.laws.specs.NetlistFile.Passed.{net-ordered, file-passed, finish-within}
use Rattle.laws.specs.NetlistFile.Files.{cells-written, pulse-written, finish-written, file-accepted}
use Rattle.laws.specs.NetlistFile.ReadWrite.{Wrote, wrote}
use Rattle.laws.specs.Functional.Count.{net-len, fits}
use Rattle.laws.specs.Functional.Compiled.{memory_cell, last_cell, walk_cells, rest-free, net-accepted, count-right, last-accepted}
use Rattle.laws.specs.Functional.Accepted.{table_alone, also-accepted, main-basic, meaning-basic, meaning-formed, meaning-low}
use Rattle.theory.specs.Rules.Relation.{ends-once}
use Rattle.theory.specs.Circuit.Bounds.{file-bounded}
use Rattle.theory.specs.Circuit.Exists.{solution, solution-obeys}
use Rattle.theory.specs.State.Holding.{Holding}
use Rattle.theory.specs.State.Counters.{apart-either}
use Rattle.theory.specs.State.Sound.{holds}
use Rattle.theory.specs.State.Begin.{begin-holds, begin-length}
use Rattle.theory.specs.Promises.Stands.{Given, given-first, given-alone}
use Rattle.theory.specs.Promises.Answers.{listed_same, words_append, words-none}
use Rattle.theory.specs.Promises.Replay.{at0, OfFile, Serves, Mode, Now, Good, good, answer-seen, due-at, number-ended, number-still}
use Rattle.theory.specs.Promises.Behaves.{open-no-end, refused-no-end, decides, at-end, never-due}
use Rattle.theory.specs.Promises.Kept.{ran}
use Rattle.theory.specs.Functional.Whole as whole

-- Compiling ------------------------------------------------------------------------------------------------------------------------------

module _ (options : Options) (program for_file : List ℕ) (n f : ℕ) (done : (compile_functional_call options program for_file).answer ≡ Done n f) where
  abbrev P : Stmt
  P = statement_of program

  abbrev file : List ℕ
  file = functional_file program

  compiled : Wrote (first (compile_functional_checks options program for_file)) file (length file) (circuit.finish_of P) for_file n f
  unfolding compile_functional_call
  compiled = wrote (first (compile_functional_checks options program for_file)) file (length file) (circuit.finish_of P) for_file n f done

  pub table-accepted : options.checked ≡ Accepted
  table-accepted = all-accept (compile_functional_checks options program for_file) compiled.accepted 0

  pub program-accepted : check_functional options program ≡ Accepted
  program-accepted = all-accept (compile_functional_checks options program for_file) compiled.accepted 1

  pub file-room : ltb (length for_file) (length file) ≡ false
  file-room = refuse-unless _ 14 0 (all-accept (compile_functional_checks options program for_file) compiled.accepted 2)

  pub file-made : take n (compile_functional_call options program for_file).lent ≡ file
  unfolding compile_functional_call
  file-made =
      ap₂ (λ (k : ℕ) (r : Returned (Result Written Refusal)). take k r.lent) compiled.count compiled.told ∙ take-append_seam file (drop (length file) for_file)

  some : 0 < length (netlist_of P)
  some = omega (arith, net-len P)

  pub functional-file : Bytes program → FunctionalFile P (take n (compile_functional_call options program for_file).lent) f
  functional-file bytes =
      let t = table-accepted in
      let e = program-accepted in
      let w = meaning-formed options program t e in
      let z = meaning-low options program t e bytes in
      let b = meaning-basic options program t e in
      let size = fits (table_alone options) program (also-accepted options program t e) (main-basic options program t e) in
      let cells : cells_of (take n (compile_functional_call options program for_file).lent) ≡ netlist_of P =
      ap cells_of file-made ∙ cells-written 1 (netlist_of P) (circuit.finish_of P) some in
      record {
        accepted = ap file_check file-made
            ∙ file-accepted 1 (unfold pulse_wrong in refl) (netlist_of P) (circuit.finish_of P) (count-right P w z b (omega (arith, size.1))) (net-accepted P w z b);
        lasts = ap last_check cells ∙ last-accepted P;
        cells = cells;
        pulse = ap (λ (s : List ℕ). pulse_of s) file-made ∙ pulse-written 1 (netlist_of P) (circuit.finish_of P) some (omega arith);
        finishes = (compiled.finish, ap finish_of file-made ∙ finish-written 1 (netlist_of P) (circuit.finish_of P) some ∙ sym compiled.finish);
        fits = rw cells size.1;
      }

-- The mode -------------------------------------------------------------------------------------------------------------------------------

-- what a state shows in a functional run
abbrev pub shown_as : Format → List ℕ → List ℕ → ℕ → Answer
shown_as F file s n =
    record {
      outcome = (shows F file s n).outcome;
      instant = (shows F file s n).instant;
      count = (shows F file s n).count;
      words = last_words (cells_of file) (now_at F s) 0 16;
    }

module _ (F : Format) (file : List ℕ) (checked : first (last_checks file) ≡ Accepted) where
  in-mode : (lent : List ℕ) (r : Returned Answer) → functionally F file lent r ≡ retold F file (verdict r.answer.outcome) r
  unfolding in_mode
  in-mode lent r = ap (λ (c : Checked). in_mode F file c lent r) checked

  pub answer-in : (lent s : List ℕ) (n : ℕ) (r : Returned Answer) → r ≡ record { answer = shows F file s n; lent = s }
      → functionally F file lent r ≡ record { answer = shown_as F file s n; lent = s }
  unfolding retold shows verdict
  answer-in lent s n r e =
      in-mode lent r ∙ ap (λ (r : Returned Answer). retold F file (verdict r.answer.outcome) r) e
      ∙ by_bool (high (now_at F s (finish_of file))) (λ z. rw z refl) (λ z. rw z refl)

  refused-in : (lent : List ℕ) (k : ℕ) (r : Returned Answer) → r ≡ record { answer = refused_answer (at0 k); lent = lent }
      → functionally F file lent r ≡ record { answer = refused_answer (at0 k); lent = lent }
  unfolding retold verdict
  refused-in lent k r e = in-mode lent r ∙ ap (λ (r : Returned Answer). retold F file (verdict r.answer.outcome) r) e

  refused-by : (q : Request) (s : List ℕ) (k : ℕ) → respond F file q s ≡ record { answer = refused_answer (at0 k); lent = s }
      → respond_functional F file q s ≡ record { answer = refused_answer (at0 k); lent = s }
  unfolding respond respond_functional
  refused-by (continuing n) s k e = refused-in s k _ e
  refused-by start s k e = refused-in s k _ e

  answered-by : (q : Request) (s s' : List ℕ) (n : ℕ) → respond F file q s ≡ record { answer = shows F file s' n; lent = s' }
      → respond_functional F file q s ≡ record { answer = shown_as F file s' n; lent = s' }
  unfolding respond respond_functional
  answered-by (continuing m) s s' n e = answer-in s s' n _ e
  answered-by start s s' n e = answer-in s s' n _ e

  abbrev mode : Mode F file
  mode =
      record {
        reply = respond_functional F file;
        shown = shown_as F file;
        alike = λ s n. refl;
        refused = refused-by;
        answered = answered-by;
      }

-- a beginning that was not refused
began-checks : (F : Format) (file words lent : List ℕ) → verdict (begin_functional_call F file words lent).answer.outcome ≡ Accepted → first (last_checks file) ≡ Accepted
unfolding in_mode verdict
began-checks F file words lent e = go (first (last_checks file)) refl
  where
    go : (c : Checked) → first (last_checks file) ≡ c → c ≡ Accepted
    go (Ok _) p = refl
    go (Err q) p = not-refused (sym (ap (λ (c : Checked). verdict (in_mode F file c lent (begin_call F file words lent)).answer.outcome) p) ∙ e)

mode-accepted : (F : Format) (file : List ℕ) (checked : first (last_checks file) ≡ Accepted) (lent : List ℕ) (r : Returned Answer)
    → verdict (functionally F file lent r).answer.outcome ≡ Accepted → verdict r.answer.outcome ≡ Accepted
unfolding retold
mode-accepted F file checked lent r e = go (verdict r.answer.outcome) refl
  where
    go : (c : Checked) → verdict r.answer.outcome ≡ c → verdict r.answer.outcome ≡ Accepted
    go (Ok _) p = p
    go (Err q) p =
        sym (ap (λ (x : Returned Answer). verdict x.answer.outcome) (in-mode F file checked lent r ∙ ap (λ (c : Checked). retold F file c r) p)) ∙ e

-- The last sixteen cells -------------------------------------------------------------------------------------------------------------------

last-listed : (P : Stmt) (v : ℕ → ℕ) (x n : ℕ) → last_words (netlist_of P) v x n ≡ listed (λ y. v (last_at P + y)) x n
unfolding last_words listed
last-listed P v x zero = refl
last-listed P v x (suc n) =
    let e : length (netlist_of P) - 16 ≡ last_at P = omega (arith, net-len P) in
    ap₂ (λ (w : ℕ) (l : List ℕ). w ∷ l) (ap (λ (k : ℕ). v (k + x)) e) (last-listed P v (x + 1) n)

-- the memories' words
rows_words : (v : ℕ → ℕ) (m x n : ℕ) → memory_words (rows memory_cell x n) (m + x) v ≡ listed (λ y. v (m + y)) x n
unfolding memory_words rows listed
rows_words v m x zero = refl
rows_words v m x (suc n) =
    let e : m + x + 1 ≡ m + (x + 1) = omega arith in
    ap (λ (l : List ℕ). v (m + x) ∷ l) (ap (λ (k : ℕ). memory_words (rows memory_cell (x + 1) n) k v) e ∙ rows_words v m (x + 1) n)

memory-words : (P : Stmt) → Formed P → (v : ℕ → ℕ) → memory_words (netlist_of P) 0 v ≡ listed (λ x. v (memory_at + x)) 0 16
unfolding netlist_of memory_words
memory-words P w v =
    let rest : List Cell = idle_arrays 0 4 ++ (walk_cells P ++ sixteen (last_cell P)) in
    words_append v (sixteen memory_cell) rest 3
    ∙ ap₂ (λ (k l : List ℕ). k ++ l) (rows_words v 3 0 16) (words-none v rest (3 + length (sixteen memory_cell)) (rest-free P w)) ∙ append-nil (listed (λ x. v (memory_at + x)) 0 16)

-- pulses of one instant go with either format
pub one-fits : (F : Format) → is_too_long F 1 ≡ false
unfolding is_too_long
one-fits Full = refl
one-fits Compact = refl

-- A file, and a state that a beginning has written -----------------------------------------------------------------------------------------

module _ (F : Format) (options : Options) (program file words lent : List ℕ) (table : options.checked ≡ Accepted) (e : check_functional options program ≡ Accepted)
    (made : file ≡ functional_file program) (bytes : Bytes file) (word_bytes : Bytes words)
    (begun : verdict (begin_functional_call F file words lent).answer.outcome ≡ Accepted) where
  abbrev Q : Stmt
  Q = statement_of program

  abbrev σ : Store
  σ = word_at words

  abbrev net : Netlist
  net = net_of file

  formed : Formed Q
  formed = meaning-formed options program table e

  basic : Basic Q
  basic = meaning-basic options program table e

  pub timed : Timed Q
  timed = meaning-timed (program_of 1 0 program) (program-admitted (table_alone options) program (also-accepted options program table e))

  pub closed : exits Q ≡ false
  closed = meaning-closed (program_of 1 0 program) (program-admitted (table_alone options) program (also-accepted options program table e))

  pub checks : first (last_checks file) ≡ Accepted
  checks = began-checks F file words lent begun

  read : file_check file ≡ Accepted
  read = all-accept (last_checks file) checks 0

  nonempty : 0 < length (netlist_of Q)
  nonempty = omega (arith, net-len Q)

  cells_are : cells_of file ≡ netlist_of Q
  cells_are = ap cells_of made ∙ cells-written 1 (netlist_of Q) (circuit.finish_of Q) nonempty

  finish-is : finish_of file ≡ circuit.finish_of Q
  finish-is = ap finish_of made ∙ finish-written 1 (netlist_of Q) (circuit.finish_of Q) nonempty

  pulse-is : pulse_of file ≡ 1
  pulse-is = ap (λ (s : List ℕ). pulse_of s) made ∙ pulse-written 1 (netlist_of Q) (circuit.finish_of Q) nonempty (omega arith)

  net-is : net ≡ whole.circuit_of Q
  net-is = ap₂ (λ (cs : List Cell) (w : ℕ). record { cells = cs; pulse = w }) cells_are pulse-is

  pub X : OfFile 1 file
  X =
      record {
        accepted = read;
        ordered = net-ordered (cells_of file) (finish_of file) (file-passed file read).cells;
        pulse-is = pulse-is;
        wire = finish-within file read;
      }

  -- the beginning itself was accepted
  begin-checks : first (begin_checks F file words lent) ≡ Accepted
  unfolding begin_call
  begin-checks =
      ran F (first (begin_checks F file words lent)) file _ 1 lent (mode-accepted F file checks lent (begin_call F file words lent) begun)

  pub words-fit : ltb (length words) 544 ≡ false
  words-fit = refuse-unless _ 14 0 (all-accept (begin_checks F file words lent) begin-checks 2)

  abbrev size : ℕ
  size = state_size F net

  pub room : size ≤ length lent
  room = ltb-false (length lent) size (refuse-unless _ 14 0 (all-accept (begin_checks F file words lent) begin-checks 3))

  abbrev state : List ℕ
  state = begin_state F net σ lent

  pub begin-is : begin_functional_call F file words lent ≡ record { answer = shown_as F file state 1; lent = state }
  begin-is =
      answer-in F file checks lent state 1 _
      (unfold begin_call running in ap (λ (c : Checked). running F c file state 1 lent) begin-checks)

  -- what the rules say, and from which words
  abbrev rules : Runs
  rules = record { within = λ τ k. run functional k Q τ; anew = λ τ. σ }

  abbrev how : Mode F file
  how = mode F file checks

  word_low : (x : ℕ) → word_at words x < 65536
  unfolding get16
  word_low x = omega (arith, word_bytes (2 * x), word_bytes (2 * x + 1))

  module _ (starts : Sig) (W : Values) (o : Obeys net starts σ W) where
    same : Obeys (whole.circuit_of Q) starts σ W
    same = subst (λ (n : Netlist). Obeys n starts σ W) net-is o

    bounded : (k t : ℕ) → k < length (netlist_of Q) → W k t < 65536
    bounded k t l = file-bounded file bytes read starts σ word_low W o k (rw cells_are l) t

    abbrev Run : ℕ → Type 0
    Run a = whole.Began Q formed basic timed starts σ W same bounded a

    abbrev serves : Serves F functional 1 Q (λ τ. σ) net (finish_of file) starts W
    serves =
        record {
          Began = λ τ a. (τ ≡ σ) × Run a;
          positive = omega arith;
          timed = timed;
          closed = closed;
          finish-due = λ τ a t B l none. rw (finish-is, B.0) (whole.finish-due Q formed basic timed starts σ W same bounded a t B.1 l none);
          lines-apart = λ fits τ a t B l none.
              apart-either F net W t
              (subst (λ (n : Netlist). Apart Compact n W t) (sym net-is) (whole.lines-apart Q formed basic timed starts σ W same bounded a t B.1 l none));
          still-busy = λ τ a t B l none p I.
              whole.still-busy Q formed basic timed starts σ W same bounded a t B.1 l none (ap (run functional (t - a) Q) (sym B.0) ∙ p)
              (subst (λ (n : Netlist). Idle n W t) net-is I);
          ended-idle = λ τ a t B l none i τ' p past.
              subst (λ (n : Netlist). Idle n W t) (sym net-is)
              (whole.ended-idle Q formed basic timed starts σ W same bounded a t B.1 l none i τ' (ap (run functional i Q) (sym B.0) ∙ p) (omega (arith, past, gap-one 1 refl)));
          run-again = λ τ a t B l none i τ' p past pulse. (
            refl,
            whole.run-again Q formed basic timed starts σ W same bounded a t B.1 l none i τ' (ap (run functional i Q) (sym B.0) ∙ p) (omega (arith, past, gap-one 1 refl)) pulse,
          );
        }

    abbrev Stood : Stand → List Call → Type 0
    Stood = Now F functional 1 Q (λ τ. σ) file X starts σ W o serves how

    -- where the list stands
    module _ (st : Stand) (cs : List Call) (N : Stood st cs) where
      due-by : (t : ℕ) → st.begun ≤ t → NoStart starts st.begun t → level W (finish_of file) t ≡ due_at 1 rules st t
      due-by = due-at F functional 1 Q (λ τ. σ) file X starts σ W o serves how st cs N

      lasting : (t₀ : ℕ) (σ' : Store) → Ends functional Q σ t₀ σ' → (t : ℕ) → st.begun + t₀ ≤ t → NoStart starts st.begun t
          → LastWords (cells_of file) (λ k. W k t) σ' × LastWords (cells_of file) (λ k. W k (suc t)) σ'
      lasting t₀ σ' E t l none =
          let B = N.began.1 in
          let p = at-end functional Q timed σ t₀ σ' E in (
            ap (λ (n : List Cell). last_words n (λ k. W k t) 0 16) cells_are ∙ last-listed Q (λ k. W k t) 0 16
                ∙ listed_same (λ x. W (last_at Q + x) t) σ' 0 16
                (λ y a b. whole.last-words Q formed basic timed starts σ W same bounded st.begun t B (omega arith) none t₀ σ' p l y (omega arith)),
            ap (λ (n : List Cell). last_words n (λ k. W k (suc t)) 0 16) cells_are ∙ last-listed Q (λ k. W k (suc t)) 0 16
                ∙ listed_same (λ x. W (last_at Q + x) (suc t)) σ' 0 16
                (λ y a b. whole.last-next Q formed basic timed starts σ W same bounded st.begun t B (omega arith) none t₀ σ' p l y (omega arith)),
          )

      never : (t : ℕ) → st.begun ≤ t → ((t₀ : ℕ) (σ' : Store) → Ends functional Q σ t₀ σ' → st.begun + t₀ ≤ t → ⊥) → level W (finish_of file) t ≡ false
      unfolding due_at due
      never t l h =
          due-by t l
          (given-alone 1 rules size starts st cs N.given t
          (λ k u τ g q.
          let d = (decides functional Q timed σ k u τ).0 (ap (run functional k Q) (sym N.began.0) ∙ q) in
          h u τ d.1 (omega (arith, g, d.0))))
          ∙ ap (λ (τ : Store). due functional 1 Q τ (t - st.begun)) N.began.0
          ∙ never-due functional 1 Q timed σ (t - st.begun) (λ t₀ τ E g. h t₀ τ E (omega (arith, l, g)))

      -- a state shows what the circuit has
      shown-at : (t : ℕ) → st.begun ≤ t → NoStart starts st.begun t → (t₀ : ℕ) (σ' : Store) → Ends functional Q σ t₀ σ' → st.begun + t₀ ≤ t
          → (s : List ℕ) → Holding F net σ W t s → LastWords (cells_of file) (now_at F s) σ'
      shown-at t since none t₀ σ' E l s H =
          ap (λ (n : List Cell). last_words n (now_at F s) 0 16) cells_are ∙ last-listed Q (now_at F s) 0 16
          ∙ listed_same (λ x. now_at F s (last_at Q + x)) σ' 0 16
          (λ y a b.
          H.body.present (last_at Q + y) (rw cells_are (omega (arith, net-len Q)))
          ∙ whole.last-words Q formed basic timed starts σ W same bounded st.begun t N.began.1 since none t₀ σ'
          (at-end functional Q timed σ t₀ σ' E) l y (omega arith))

      shown-words : (t₀ : ℕ) (σ' : Store) → Ends functional Q σ t₀ σ' → st.begun + t₀ ≤ st.now → (s : List ℕ) → Holding F net σ W st.now s
          → LastWords (cells_of file) (now_at F s) σ'
      shown-words = shown-at st.now N.given.since N.given.none

      number_is : (s : List ℕ) → Holding F net σ W st.now s
          → (flight_of s ≡ 0) ↔ ((t₀ : ℕ) × (σ' : Store) × Ends functional Q σ t₀ σ' × (st.begun + t₀ ≤ st.now))
      number_is s H = (
        (λ z.
            by_runs (run_at rules st st.now)
            (λ t₀ σ' p.
            let d = (decides functional Q timed st.from (st.now - st.begun) t₀ σ').0 p in
            (t₀, σ', rw N.began.0 at d.1, omega (arith, d.0, N.given.since)))
            (λ t₀ σ' p. never-leaves functional Q closed (st.now - st.begun) t₀ st.from σ' p)
            (λ p. absurd (number-still F functional 1 Q (λ τ. σ) file X starts σ W o serves how st cs N s H p z))),
        (λ h.
            number-ended F functional 1 Q (λ τ. σ) file X starts σ W o serves how st cs N s H h.0 h.1
            (ap (run functional h.0 Q) N.began.0 ∙ at-end functional Q timed σ h.0 h.1 h.2) (omega (arith, h.3, gap-one 1 refl))),
      )

      behaves : (r : Returned Answer) → Holding F net σ W st.now r.lent → FunctionalBehaves F Q σ file rules starts W st r
      behaves r H =
          record {
            finishes = due-by;
            lasts = lasting;
            keeps = λ t.
                ap (λ (n : List Cell). memory_words n 0 (λ k. W k t)) cells_are ∙ memory-words Q formed (λ k. W k t)
                ∙ listed_same (λ x. W (memory_at + x) t) σ 0 16
                (λ y a b. whole.memory-keeps Q formed basic timed starts σ W same bounded t y (omega arith));
            buffer = holds F net X.ordered starts σ W o st.now r.lent H;
          }

      tells-refused : (k : ℕ) (b : List ℕ) → Holding F net σ W st.now b
          → FunctionalTells F Q σ file st (record { answer = refused_answer (at0 k); lent = b })
      unfolding verdict
      tells-refused k b H =
          record {
            from = N.began.0;
            number = number_is b H;
            words = λ t₀ σ' E l. (shown-words t₀ σ' E l b H, λ z. not-refused z);
            endless = λ h. refused-no-end;
          }

      tells-answer : (s b : List ℕ) (n : ℕ) → Holding F net σ W st.now s → Holding F net σ W st.now b
          → FunctionalTells F Q σ file st (record { answer = shown_as F file s n; lent = b })
      unfolding shows
      tells-answer s b n H K =
          record {
            from = N.began.0;
            number = number_is b K;
            words = λ t₀ σ' E l. (shown-words t₀ σ' E l b K, λ z. shown-words t₀ σ' E l s H);
            endless = λ h. rw (H.body.present (finish_of file) X.wire, never st.now N.given.since h) open-no-end;
          }

    -- a whole list
    module _ (calls : List Call) (given : Given 1 rules size starts (stand 0 σ 0) calls) (pulse : starts 0 ≡ true) where
      stood : Stood (stand 0 σ 0) calls
      stood = record { fits = one-fits F; began = (refl, whole.run-first Q formed basic timed starts σ W same bounded pulse); given = given }

      -- before any other start
      pub first-due : (t : ℕ) → NoStart starts 0 t → level W (finish_of file) t ≡ due_at 1 rules (stand 0 σ 0) t
      first-due t none = due-by (stand 0 σ 0) calls stood t (omega arith) none

      pub first-shown : (t : ℕ) → NoStart starts 0 t → (t₀ : ℕ) (σ' : Store) → Ends functional Q σ t₀ σ' → t₀ ≤ t → (s : List ℕ) → Holding F net σ W t s
          → LastWords (cells_of file) (now_at F s) σ'
      first-shown t none t₀ σ' E l = shown-at (stand 0 σ 0) calls stood t (omega arith) none t₀ σ' E (omega arith)

      pub holding : Holding F net σ W 0 state
      holding = begin-holds F net X.ordered starts σ W o pulse lent room

      pub long : size ≤ length state
      long = rw (begin-length F net X.ordered starts σ W o pulse lent room) room

      module _ (R : Stand → Returned Answer → Type 0)
          (refusing : (st : Stand) (cs : List Call) → Stood st cs → (k : ℕ) (b : List ℕ) → st.now ≤ 1000000 → Holding F net σ W st.now b
          → R st (record { answer = refused_answer (at0 k); lent = b }))
          (answering : (st : Stand) (cs : List Call) → Stood st cs → (s b : List ℕ) (n : ℕ) → st.now ≤ 1000000 → Holding F net σ W st.now s
          → Holding F net σ W st.now b → R st (record { answer = shown_as F file s n; lent = b })) where
        goes : Good F functional 1 Q (λ τ. σ) file X starts σ W o serves how R refusing answering (stand 0 σ 0) state calls (replay_functional F file state calls)
        goes = good F functional 1 Q (λ τ. σ) file X starts σ W o serves how R refusing answering calls (stand 0 σ 0) state stood holding long (omega arith)

        along : Along R (stand 0 σ 0 ∷ stands 1 rules size (stand 0 σ 0) calls)
            (begin_functional_call F file words lent ∷ replay_functional F file (begin_functional_call F file words lent).lent calls)
        along = rw begin-is (answering (stand 0 σ 0) calls stood state state 1 (omega arith) holding holding, goes.every)

        outcomes : map seen_of (begin_functional_call F file words lent ∷ replay_functional F file (begin_functional_call F file words lent).lent calls)
            ≡ seen (ended_if (due_at 1 rules (stand 0 σ 0) 0)) 0 1 ∷ expected 1 rules size (stand 0 σ 0) calls
        outcomes =
            rw begin-is
            (ap₂ (λ (x : Seen) (l : List Seen). x ∷ l)
            (answer-seen F functional 1 Q (λ τ. σ) file X starts σ W o serves how R refusing answering (stand 0 σ 0) calls stood state state 1 (omega arith) holding)
            goes.outcomes)

        unchanged : Unchanged (begin_functional_call F file words lent).lent (replay_functional F file (begin_functional_call F file words lent).lent calls)
        unchanged = rw begin-is goes.unchanged

  pub keeps : (calls : List Call) → FunctionalKeeps F Q σ file (begin_functional_call F file words lent) calls
  unfolding starts_of
  keeps calls =
      let sts = stand 0 σ 0 ∷ stands 1 rules size (stand 0 σ 0) calls in
      let starts : Sig = starts_of sts in
      let given : Given 1 rules size starts (stand 0 σ 0) calls = given-first 1 rules size σ calls in
      let W : Values = solution net starts σ in
      let o : Obeys net starts σ W = solution-obeys net starts σ X.ordered in
      record {
        rules = rules;
        decides = decides functional Q timed;
        anew = λ τ. refl;
        once = ends-once functional Q timed σ;
        outcomes = outcomes starts W o calls given refl (λ st r. Unit {0}) (λ st cs N k b l H. tt) (λ st cs N s b n l H K. tt);
        tells =
            along starts W o calls given refl (FunctionalTells F Q σ file) (λ st cs N k b l. tells-refused starts W o st cs N k b)
            (λ st cs N s b n l. tells-answer starts W o st cs N s b n);
        circuit = λ W o.
            along starts W o calls given refl (FunctionalBehaves F Q σ file rules starts W) (λ st cs N k b l H. behaves starts W o st cs N _ H)
            (λ st cs N s b n l H K. behaves starts W o st cs N _ K);
        unchanged = unchanged starts W o calls given refl (λ st r. Unit {0}) (λ st cs N k b l H. tt) (λ st cs N s b n l H K. tt);
      }
