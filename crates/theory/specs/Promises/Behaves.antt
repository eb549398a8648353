-- What circuit, answer and buffer show where a list of calls stands: the promises of a circuit with its start pulses (`Behaves`) and of what a call
-- leaves (`Tells`), from the rules of the program.
-- Assumes nothing.
use Rattle.model.specs.Refusals.{Accepted}
use Rattle.std.specs.Prelude.{◌≡◌, true, false, ◌↔◌, ℕ, suc, ◌+◌, ◌-◌, ◌*◌, ◌/◌, ◌%◌, ◌≤◌, ◌<◌}
use Rattle.std.proofs.Common.{sym, ◌∙◌, ap₂}
use Rattle.std.proofs.Math.Path.{ap}
use mathlib.Core.List.{List}
use native.Mathlib.Omega.{arith}
use Rattle.model.specs.declared.Refusal.{Refusal}
use Rattle.model.specs.declared.Cell.{Cell}
use Rattle.model.specs.declared.Format.{Format}
use Rattle.model.specs.declared.Outcome.{Outcome}
use Rattle.model.specs.declared.Outcome.TheVariants.{Ended, Open}
use Rattle.model.specs.declared.Answer.{Answer}
use Rattle.model.specs.Word.{index, element_word}
use Rattle.model.specs.Program.{Stmt, Program, gap}
use Rattle.model.specs.Procedures.{meaning}
use Rattle.model.specs.Rules.{Costs, imperative, Store, Ends, at_end, ended, run, due}
use Rattle.model.specs.Circuit.{Netlist, Sig, Values, level, element, array_at, Obeys, memory_words}
use Rattle.model.specs.Numbering.{netlist, array_cell, memory_at}
use Rattle.model.specs.NetlistFile.{cells_of, net_of, finish_of}
use Rattle.model.specs.State.{flight_of, state_size, now_at, element_now, words_in}
use Rattle.model.specs.Calls.{Returned, verdict, refused_answer, shows}
use Rattle.model.specs.CircuitPromises.{NoStart}
use Rattle.model.specs.RunPromises.{Call, Stand, Runs, run_at, due_at, ShowsWords, HasWords, Behaves, Tells}
use Rattle.laws.specs.Refusals.Laws.{by_bool, not-refused}
use Rattle.laws.specs.Program.Fit.{Timed}
use Rattle.laws.specs.Program.Widths.{gap-one}
use Rattle.laws.specs.Program.Admitted.{meaning-timed, meaning-closed}
use Rattle.laws.specs.Rules.Laws.{by_runs, steady}
use Rattle.laws.specs.Rules.Uses.{never-leaves}
use Rattle.laws.specs.Numbering.Parts.{net-length}
use Rattle.laws.specs.Numbering.Arrays.{past_is}
use Rattle.theory.specs.Rules.Relation.{run_ends, ends-run, due-ends, ends-due}
use Rattle.theory.specs.Numbering.Whole.{showing}
use Rattle.theory.specs.State.Holding.{Holding}
use Rattle.theory.specs.State.Sound.{holds}
use Rattle.theory.specs.Promises.Answers.{memory-same, memory-words, listed_same, listed-further}
use Rattle.theory.specs.Promises.Due.{shown-word, shown-element, last-words}
use Rattle.theory.specs.Promises.Stands.{given-alone}
use Rattle.theory.specs.Promises.Served.{OfProgram, published, served}
use Rattle.theory.specs.Promises.Replay.{at0, as_called, Now, due-at, number-ended, number-still}

-- open and refused are no end
ended-code : Outcome → ℕ
ended-code Ended = 1
ended-code Open = 0
ended-code (Outcome.Refused r) = 0

pub open-no-end : Open ≡ Ended → ⊥
unfolding ended-code
open-no-end e = omega (arith, ap ended-code e)

pub refused-no-end : {r : Refusal} → Outcome.Refused r ≡ Ended → ⊥
unfolding ended-code
refused-no-end e = omega (arith, ap ended-code e)

-- The rules, within a budget and without ------------------------------------------------------------------------------------------------

module _ (κ : Costs) (P : Stmt) (timed : Timed P) where
  pub decides : (τ : Store) (k t : ℕ) (τ' : Store) → (run κ k P τ ≡ ended t τ') ↔ ((t ≤ k) × Ends κ P τ t τ')
  decides τ k t τ' = ((λ p. ((steady κ P timed τ k at_end t τ' p).0, run_ends κ P k τ t τ' p)), (λ h. ends-run κ P timed τ t τ' h.1 k h.0))

  pub at-end : (τ : Store) (t₀ : ℕ) (τ' : Store) → Ends κ P τ t₀ τ' → run κ t₀ P τ ≡ ended t₀ τ'
  at-end τ t₀ τ' h = (decides τ t₀ t₀ τ').1 (omega arith, h)

pub never-due : (κ : Costs) (w : ℕ) (P : Stmt) → Timed P → (τ : Store) (t : ℕ) → ((t₀ : ℕ) (τ' : Store) → Ends κ P τ t₀ τ' → t₀ ≤ t → ⊥) → due κ w P τ t ≡ false
never-due κ w P timed τ t h = by_bool (due κ w P τ t) (λ e. let g = due-ends κ w P timed τ t e in absurd (h g.0 g.1 g.2 g.3)) (λ e. e)

-- a finish is due in the w instants from the end of a stand's run on, and at no other
pub due-exactly : (w : ℕ) (P : Stmt) → Timed P → (st : Stand) (t : ℕ) → st.begun ≤ t → (due_at w (record { within = λ τ k. run (imperative w) k P τ; anew = λ τ. τ }) st t ≡ true)
    ↔ ((t₀ : ℕ) × (σ' : Store) × Ends (imperative w) P st.from t₀ σ' × (st.begun + t₀ ≤ t) × (t < st.begun + t₀ + w))
unfolding due_at due
due-exactly w P timed st t l = (
  (λ p. let h = due-ends (imperative w) w P timed st.from (t - st.begun) p in (h.0, h.1, h.2, omega (arith, h.3), omega (arith, h.4))),
  (λ h. ends-due (imperative w) w P timed st.from h.0 (t - st.begun) h.1 h.2 (omega (arith, h.3)) (omega (arith, h.3, h.4))),
)

-- The circuit with its start pulses -----------------------------------------------------------------------------------------------------

-- with any values that obey its equations
module _ (F : Format) (S : Program) (file : List ℕ) (X : OfProgram S file) (starts : Sig) (σ : Store) (W : Values) (o : Obeys (net_of file) starts σ W) where
  abbrev P : Stmt
  P = meaning S

  abbrev fin : ℕ
  fin = finish_of file

  abbrev w : ℕ
  w = S.pulse

  abbrev net : Netlist
  net = net_of file

  abbrev rules : Runs
  rules = record { within = λ τ k. run (imperative S.pulse) k P τ; anew = λ τ. τ }

  -- what the circuit has as its words, memories and arrays have, and a state shows
  module _ (t : ℕ) (τ : Store) (word : (x : ℕ) → showing S σ W t x ≡ τ x) where
    has_words : HasWords (cells_of file) σ W t τ
    has_words =
        record {
          memories = ap (λ (net : List Cell). memory_words net 0 (λ k. W k t)) X.cells_are ∙ memory-words S X.sixteen (λ k. W k t)
              ∙ listed_same (λ x. W (memory_at S + x) t) τ 0 16
              (λ y a b. shown-word S X.admitted starts σ W (published S file X starts σ W o) t τ word y (omega arith));
          elements = λ k i a b.
              let r : index i ≡ i = omega arith in
              let m : array_at (cells_of file) k ≡ array_cell (memory_at S) k = ap (λ (net : List Cell). array_at net k) X.cells_are ∙ ap (λ (j : ℕ). j + 2 * k) (past_is S) in
              ap₂ (λ (net : List Cell) (j : ℕ). element net σ W j i t) X.cells_are m
              ∙ ap (λ (w : ℕ). element (netlist S) σ W (array_cell (memory_at S) k) w t) (sym r)
              ∙ shown-element S X.admitted starts σ W (published S file X starts σ W o) t τ word k i a;
        }

    pub shows-words : (s : List ℕ) → Holding F net σ W t s → ShowsWords F file s τ
    unfolding element_word
    shows-words s H = (
      ap (λ (net : List Cell). words_in F net 0 s) X.cells_are ∙ memory-words S X.sixteen (now_at F s)
          ∙ listed_same (λ x. now_at F s (memory_at S + x)) τ 0 16
          (λ y a b.
          H.body.present (memory_at S + y) (rw X.cells_are (omega (arith, net-length S)))
          ∙ shown-word S X.admitted starts σ W (published S file X starts σ W o) t τ word y (omega arith)),
      listed-further (element_now F net s) τ 16 0 256
          (λ y a b.
          let k = y / 64 in
          let i = y % 64 in
          let q : y ≡ 64 * k + i = omega arith in
          ap (element_now F net s) q
          ∙ H.body.elements k i (omega arith) (omega arith)
          ∙ has_words.elements k i (omega arith) (omega arith)
          ∙ ap τ (omega arith)),
    )

  abbrev pub Stood : Stand → List Call → Type 0
  Stood = Now F (imperative S.pulse) S.pulse (meaning S) (λ τ. τ) file X.of_file starts σ W o (served S file X starts σ W o F) (as_called F file)

  -- where the list stands
  module _ (st : Stand) (cs : List Call) (N : Stood st cs) where
    pub due-by : (t : ℕ) → st.begun ≤ t → NoStart starts st.begun t → level W fin t ≡ due_at w rules st t
    due-by = due-at F (imperative S.pulse) S.pulse (meaning S) (λ τ. τ) file X.of_file starts σ W o (served S file X starts σ W o F) (as_called F file) st cs N

    pub lasting : (t₀ : ℕ) (σ' : Store) → Ends (imperative S.pulse) P st.from t₀ σ' → (t : ℕ) → st.begun + t₀ ≤ t → NoStart starts st.begun t
        → (x : ℕ) → showing S σ W t x ≡ σ' x
    lasting t₀ σ' E t l none =
        last-words S X.admitted starts σ W (published S file X starts σ W o) st.from st.begun t N.began (omega arith) none t₀ σ'
        (at-end (imperative S.pulse) P (meaning-timed S X.admitted) st.from t₀ σ' E) l

    never : (t : ℕ) → st.begun ≤ t → ((t₀ : ℕ) (σ' : Store) → Ends (imperative S.pulse) P st.from t₀ σ' → st.begun + t₀ ≤ t → ⊥) → level W fin t ≡ false
    unfolding due_at due
    never t l h =
        let timed = meaning-timed S X.admitted in
        due-by t l
        (given-alone w rules (state_size F net) starts st cs N.given t
        (λ k u τ g e. let d = (decides (imperative S.pulse) P timed st.from k u τ).0 e in h u τ d.1 (omega (arith, g, d.0))))
        ∙ never-due (imperative S.pulse) w P timed st.from (t - st.begun) (λ t₀ τ E g. h t₀ τ E (omega (arith, l, g)))

    -- what an answer made from a state shows
    pub shows-memories : (s : List ℕ) (n : ℕ) → Holding F net σ W st.now s → (shows F file s n).words ≡ memory_words (cells_of file) 0 (λ k. W k st.now)
    unfolding shows
    shows-memories s n H =
        memory-same (cells_of file) 0 (now_at F s) (λ k. W k st.now)
        (λ i h.
        let z : 0 + i ≡ i = omega arith in
        rw z (H.body.present i h))

    pub behaves : (r : Returned Answer) → Holding F net σ W st.now r.lent
        → (verdict r.answer.outcome ≡ Accepted → r.answer.words ≡ memory_words (cells_of file) 0 (λ k. W k st.now)) → Behaves F w P σ file rules starts W st r
    behaves r H shown =
        record {
          begins = has_words st.begun st.from N.began.stands.words;
          finishes = due-by;
          lasts = λ t₀ σ' E t l none. has_words t σ' (lasting t₀ σ' E t l none);
          endless = never;
          buffer = holds F net X.of_file.ordered starts σ W o st.now r.lent H;
          answered = shown;
        }

    number_is : (s : List ℕ) → Holding F net σ W st.now s → flight_of s ≡ 0
        → (t₀ : ℕ) × (σ' : Store) × Ends (imperative S.pulse) P st.from t₀ σ' × (st.begun + t₀ ≤ st.now)
    number_is s H z =
        by_runs (run_at rules st st.now)
        (λ t₀ σ' p.
        let d = (decides (imperative S.pulse) P (meaning-timed S X.admitted) st.from (st.now - st.begun) t₀ σ').0 p in
        (t₀, σ', d.1, omega (arith, d.0, N.given.since)))
        (λ t₀ σ' p. never-leaves (imperative S.pulse) P (meaning-closed S X.admitted) (st.now - st.begun) t₀ st.from σ' p)
        (λ p. absurd (number-still F (imperative S.pulse) S.pulse (meaning S) (λ τ. τ) file X.of_file starts σ W o (served S file X starts σ W o F) (as_called F file) st cs N s H p z))

    idle-is : (s : List ℕ) → Holding F net σ W st.now s → (t₀ : ℕ) (σ' : Store) → Ends (imperative S.pulse) P st.from t₀ σ'
        → st.begun + t₀ + gap w ≤ suc st.now → flight_of s ≡ 0
    idle-is s H t₀ σ' E l =
        number-ended F (imperative S.pulse) S.pulse (meaning S) (λ τ. τ) file X.of_file starts σ W o (served S file X starts σ W o F) (as_called F file) st cs N s H t₀ σ' (at-end (imperative S.pulse) P (meaning-timed S X.admitted) st.from t₀ σ' E) l

    exact-is : (s : List ℕ) → Holding F net σ W st.now s → w ≡ 1
        → (flight_of s ≡ 0) ↔ ((t₀ : ℕ) × (σ' : Store) × Ends (imperative S.pulse) P st.from t₀ σ' × (st.begun + t₀ ≤ st.now))
    exact-is s H one = (number_is s H, λ h. let g = gap-one w one in idle-is s H h.0 h.1 h.2 (omega (arith, g, h.3)))

    words-now : (t₀ : ℕ) (σ' : Store) → Ends (imperative S.pulse) P st.from t₀ σ' → st.begun + t₀ ≤ st.now → (s : List ℕ) → Holding F net σ W st.now s → ShowsWords F file s σ'
    words-now t₀ σ' E l s H = shows-words st.now σ' (lasting t₀ σ' E st.now l N.given.none) s H

    pub tells-refused : (k : ℕ) (b : List ℕ) → Holding F net σ W st.now b → Tells F w P file st (record { answer = refused_answer (at0 k); lent = b })
    unfolding verdict
    tells-refused k b H =
        record {
          number = number_is b H;
          idle = idle-is b H;
          exact = exact-is b H;
          words = λ t₀ σ' E l. (words-now t₀ σ' E l b H, λ z. not-refused z);
          endless = λ h. refused-no-end;
        }

    pub tells-answer : (s b : List ℕ) (n : ℕ) → Holding F net σ W st.now s → Holding F net σ W st.now b
        → Tells F w P file st (record { answer = shows F file s n; lent = b })
    unfolding shows
    tells-answer s b n H K =
        record {
          number = number_is b K;
          idle = idle-is b K;
          exact = exact-is b K;
          words = λ t₀ σ' E l. (words-now t₀ σ' E l b K, λ z. (words-now t₀ σ' E l s H).0);
          endless = λ h. rw (H.body.present fin X.of_file.wire, never st.now N.given.since h) open-no-end;
        }
