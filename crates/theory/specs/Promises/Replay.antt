-- A list of continuings and starts on a file whose circuit serves a program, refused ones among them: what it tells, from the rules of the program
-- alone, and what is true of every state that holds the circuit's values is true along the list.
-- Assumes nothing.
use Rattle.std.specs.Prelude.{◌≡◌, Bool, not, ◌&&◌, take}
use Rattle.std.proofs.Math.Path.{refl, ap, ap₂, subst}
use Rattle.std.proofs.Common.{sym, ◌∙◌, arith, length-append, length-take, take-append-drop, get_or-take}
use Rattle.std.proofs.Math.Bool.{true, false, ◌||◌, or-true}
use mathlib.Core.List.{List, [], ◌∷◌, ◌++◌, map}
use Prim.Native.Nat.{ℕ, zero, suc, ◌+◌, ◌-◌, ◌<◌, ◌≤◌, min}
use Rattle.std.proofs.Math.Dec.{ltb}
use Rattle.std.proofs.Math.ListN.{length, drop, get_or-append}
use borrow.Author.Tests.{lt-ltb, le-ltb, ltb-false}
use Rattle.model.specs.declared.Refusal.{Refusal}
use Rattle.model.specs.declared.Format.{Format}
use Rattle.model.specs.declared.Outcome.TheVariants.{Ended, Open}
use Rattle.model.specs.declared.Answer.{Answer}
use Rattle.model.specs.Word.{pick}
use Rattle.model.specs.Refusals.{refuse, refuse_if, number_of, first, Checked, Accepted}
use Rattle.model.specs.Program.{Stmt, gap}
use Rattle.model.specs.Rules.{Costs, Store, ended, still, run, shows_at, due}
use Rattle.model.specs.Circuit.{Netlist, Sig, Values, high, level, Obeys}
use Rattle.model.specs.NetlistFile.{file_check, cells_of, net_of, finish_of, pulse_of}
use Rattle.model.specs.State.{instant_of, flight_of, Course, state_size, now_at, step_state, continued, sound}
use Rattle.model.specs.Calls.{Returned, verdict, refused_answer, shows, running, continue_checks, going_on, continue_call, is_too_long, busy, start_checks, start_call}
use Rattle.model.specs.CircuitPromises.{Idle, stops_at, NoStart, Apart, ended_if}
use Rattle.model.specs.RunPromises.{Request, continuing, start, Call, respond, replay_by, Seen, seen, seen_in, seen_of, Stand, stand, Runs, run_at, due_at, Next, refuses, pulsed, after_request, next, expected, stands, Along, Unchanged}
use Rattle.laws.specs.Refusals.Laws.{by_bool, by_le}
use Rattle.laws.specs.Program.Widths.{gap-one, gap-wide}
use Rattle.laws.specs.Rules.Laws.{by_runs, steady}
use Rattle.laws.specs.Rules.Uses.{never-leaves}
use Rattle.laws.specs.Program.Fit.{Timed, exits}
use Rattle.laws.specs.Circuit.Ordered.{Ordered}
use Rattle.theory.specs.State.Holding.{Holding}
use Rattle.theory.specs.State.Flight.{same-holds, number-zero}
use Rattle.theory.specs.State.Step.{step-holds, step-length}
use Rattle.theory.specs.State.Sound.{sound-held, holds}
use Rattle.theory.specs.State.Running.{continues, stops-high, stops-low, stops-ge, stops-le}
use Rattle.theory.specs.Promises.Stands.{anew as anew_of, next-short, next-long, stopped, continues-late, continues-now, start-late, start-now, Given, given-on, given-pulse, given-anew}

-- Calls ---------------------------------------------------------------------------------------------------------------------------------

-- ended and open are no refusals
pub no-refusal : (b : Bool) → verdict (pick b Ended Open) ≡ Accepted
unfolding verdict
no-refusal true = refl
no-refusal false = refl

-- a refusal at place 0
abbrev pub at0 : ℕ → Refusal
at0 k = record { number = k; place = 0 }

-- a run that a check refuses, and one that none does
module _ (F : Format) (c : Checked) (file s : List ℕ) (n : ℕ) (lent : List ℕ) where
  refused-run : (k : ℕ) → c ≡ refuse k 0 → running F c file s n lent ≡ record { answer = refused_answer (at0 k); lent = lent }
  unfolding running
  refused-run k e = ap (λ (c : Checked). running F c file s n lent) e

  pub accepted-run : c ≡ Accepted → running F c file s n lent ≡ record { answer = shows F file s n; lent = s }
  unfolding running
  accepted-run e = ap (λ (c : Checked). running F c file s n lent) e

-- a continuing that a check refuses, and one that neither a check nor 26 does
module _ (F : Format) (c : Checked) (file : List ℕ) (o : Course) (lent : List ℕ) where
  refused-going : (k : ℕ) → c ≡ refuse k 0 → going_on F c file o lent ≡ record { answer = refused_answer (at0 k); lent = lent }
  unfolding going_on
  refused-going k e = ap (λ (c : Checked). going_on F c file o lent) e

  pub accepted-going : c ≡ Accepted → o.check ≡ Accepted → going_on F c file o lent ≡ record { answer = shows F file o.state o.count; lent = o.state }
  unfolding going_on
  accepted-going e d = ap (λ (c : Checked). going_on F c file o lent) e ∙ accepted-run F o.check file o.state o.count o.state d

-- the checks of a continuing by n, which are the first of a start
module _ (F : Format) (file : List ℕ) (accepted : file_check file ≡ Accepted) (fits : is_too_long F (pulse_of file) ≡ false) (n : ℕ) (lent : List ℕ) where
  pub checked : (rest : List Checked) (p q r : Bool) → ltb (length lent) (state_size F (net_of file)) ≡ p → sound F (net_of file) lent ≡ q
      → ltb 1000000 (instant_of lent + n) ≡ r
      → first (continue_checks F file n lent ++ rest) ≡ first (refuse_if p 14 0 ∷ refuse_if (not q) 15 0 ∷ refuse_if r 16 0 ∷ rest)
  checked rest p q r e d f i = first (accepted i ∷ refuse_if (fits i) 27 0 ∷ refuse_if (e i) 14 0 ∷ refuse_if (not (d i)) 15 0 ∷ refuse_if (f i) 16 0 ∷ rest)

replay-is : (reply : Request → List ℕ → Returned Answer) (s : List ℕ) (c : Call) (cs : List Call) (r : Returned Answer) → reply c.request (take c.lent s) ≡ r
    → replay_by reply s (c ∷ cs) ≡ record { answer = r.answer; lent = r.lent ++ drop c.lent s } ∷ replay_by reply (r.lent ++ drop c.lent s) cs
unfolding replay_by
replay-is reply s c cs r e =
    ap (λ (r : Returned Answer). record { answer = r.answer; lent = r.lent ++ drop c.lent s } ∷ replay_by reply (r.lent ++ drop c.lent s) cs) e

-- where finishes agree up to where one stops, both stop there
stops_same : (p q : ℕ → Bool) (n t : ℕ) → ((u : ℕ) → t < u → u ≤ stops_at q t n → p u ≡ q u) → stops_at p t n ≡ stops_at q t n
unfolding stops_at
stops_same p q zero t h = refl
stops_same p q (suc n) t h =
    by_bool (q (suc t))
    (λ e. let z = stops-high q t n e in stops-high p t n (h (suc t) (omega arith) (omega (arith, z)) ∙ e) ∙ sym z)
    (λ e.
    let z = stops-low q t n e in
    stops-low p t n (h (suc t) (omega arith) (omega (arith, z, stops-ge q n (suc t))) ∙ e)
    ∙ stops_same p q n (suc t) (λ u l k. h u (omega arith) (omega (arith, z))) ∙ sym z)

-- A list of calls -----------------------------------------------------------------------------------------------------------------------

-- what is known of a file that is accepted, with pulses of w
pub record OfFile (w : ℕ) (file : List ℕ) : Type 0 where
  pub accepted : file_check file ≡ Accepted
  pub ordered : Ordered (cells_of file)
  pub pulse-is : pulse_of file ≡ w
  pub wire : finish_of file < length (cells_of file)

-- what a circuit's values W do, by the rules of P at these costs, from each start pulse that finds nothing in flight: a run from σ begins at a (`Began`).
-- With pulses of w; fin is the finish.
pub record Serves (F : Format) (κ : Costs) (w : ℕ) (P : Stmt) (anew : Store → Store) (net : Netlist) (fin : ℕ) (starts : Sig) (W : Values) : Type 1 where
  pub Began : Store → ℕ → Type 0
  pub positive : 1 ≤ w
  pub timed : Timed P
  pub closed : exits P ≡ false
  -- up to t no other has begun
  pub finish-due : (σ : Store) (a t : ℕ) → Began σ a → a ≤ t → NoStart starts a t → level W fin t ≡ due κ w P σ (t - a)
  pub lines-apart : is_too_long F w ≡ false → (σ : Store) (a t : ℕ) → Began σ a → a ≤ t → NoStart starts a t → Apart F net W t
  pub still-busy : (σ : Store) (a t : ℕ) → Began σ a → a ≤ t → NoStart starts a t → run κ (t - a) P σ ≡ still → Idle net W t → ⊥
  -- from a gap after its end on
  pub ended-idle : (σ : Store) (a t : ℕ) → Began σ a → a ≤ t → NoStart starts a t → (e : ℕ) (σ' : Store) → run κ e P σ ≡ ended e σ' → a + e + gap w ≤ suc t
      → Idle net W t
  pub run-again : (σ : Store) (a t : ℕ) → Began σ a → a ≤ t → NoStart starts a t → (e : ℕ) (σ' : Store) → run κ e P σ ≡ ended e σ' → a + e + gap w ≤ suc t
      → starts (suc t) ≡ true → Began (anew σ') (suc t)

-- How calls are answered: as the calls of model/Calls are, but for what a state is told to show; demand 3 tells the same of both
pub record Mode (F : Format) (file : List ℕ) : Type 0 where
  pub reply : Request → List ℕ → Returned Answer
  pub shown : List ℕ → ℕ → Answer
  pub alike : (s : List ℕ) (n : ℕ) → seen_in (shown s n) ≡ seen_in (shows F file s n)
  pub refused : (q : Request) (s : List ℕ) (k : ℕ) → respond F file q s ≡ record { answer = refused_answer (at0 k); lent = s }
      → reply q s ≡ record { answer = refused_answer (at0 k); lent = s }
  pub answered : (q : Request) (s s' : List ℕ) (n : ℕ) → respond F file q s ≡ record { answer = shows F file s' n; lent = s' }
      → reply q s ≡ record { answer = shown s' n; lent = s' }

-- the calls themselves
abbrev pub as_called : (F : Format) (file : List ℕ) → Mode F file
as_called F file =
    record { reply = respond F file; shown = shows F file; alike = λ s n. refl; refused = λ q s k e. e; answered = λ q s s' n e. e }

-- with start pulses at these instants, from these words
module _ (F : Format) (κ : Costs) (w : ℕ) (P : Stmt) (anew : Store → Store) (file : List ℕ) (X : OfFile w file) (starts : Sig) (σ₀ : Store) (W : Values)
    (obeys : Obeys (net_of file) starts σ₀ W) (Z : Serves F κ w P anew (net_of file) (finish_of file) starts W) (mode : Mode F file) where
  abbrev net : Netlist
  net = net_of file

  abbrev fin : ℕ
  fin = finish_of file

  abbrev size : ℕ
  size = state_size F net

  abbrev rules : Runs
  rules = record { within = λ τ k. run κ k P τ; anew = anew }

  -- the run of the stand has begun, and these calls are to come
  pub record Now (st : Stand) (cs : List Call) : Type 0 where
    pub fits : is_too_long F w ≡ false
    pub began : Z.Began st.from st.begun
    pub given : Given w rules size starts st cs

  fits-file : {st : Stand} {cs : List Call} → Now st cs → is_too_long F (pulse_of file) ≡ false
  fits-file N = ap (is_too_long F) X.pulse-is ∙ N.fits

  -- What the run of a stand does ---------------------------------------------------------------------------------------------------------

  module _ (st : Stand) (cs : List Call) (N : Now st cs) where
    pub due-at : (t : ℕ) → st.begun ≤ t → NoStart starts st.begun t → level W fin t ≡ due_at w rules st t
    unfolding due_at due
    due-at t l none = Z.finish-due st.from st.begun t N.began l none

    apart-at : (t : ℕ) → st.begun ≤ t → NoStart starts st.begun t → Apart F net W t
    apart-at t l none = Z.lines-apart N.fits st.from st.begun t N.began l none

    due-now : level W fin st.now ≡ due_at w rules st st.now
    due-now = due-at st.now N.given.since N.given.none

    -- the number is 0 a gap after its end, and is not before its end
    module _ (s : List ℕ) (H : Holding F net σ₀ W st.now s) where
      idle : (flight_of s ≡ 0 → Idle net W st.now) × (Idle net W st.now → flight_of s ≡ 0)
      idle = number-zero F net σ₀ W st.now s (holds F net X.ordered starts σ₀ W obeys st.now s H)

      pub number-ended : (e : ℕ) (σ : Store) → run κ e P st.from ≡ ended e σ → st.begun + e + gap w ≤ suc st.now → flight_of s ≡ 0
      number-ended e σ p l =
          idle.1 (Z.ended-idle st.from st.begun st.now N.began N.given.since N.given.none e σ p l)

      pub number-still : run_at rules st st.now ≡ still → flight_of s ≡ 0 → ⊥
      number-still p z =
          Z.still-busy st.from st.begun st.now N.began N.given.since N.given.none p (idle.0 z)

  -- an end within so many instants is one after its own
  pub ended-own : (τ : Store) (k e : ℕ) (σ : Store) → run κ k P τ ≡ ended e σ → (e ≤ k) × (run κ e P τ ≡ ended e σ)
  ended-own τ k e σ p = let i = steady κ P Z.timed τ k _ e σ p in (i.0, i.1 e (omega arith))

  -- What is true along the list ----------------------------------------------------------------------------------------------------------

  module _ (Q : Stand → Returned Answer → Type 0)
      (refusing : (st : Stand) (cs : List Call) → Now st cs → (k : ℕ) (b : List ℕ) → st.now ≤ 1000000 → Holding F net σ₀ W st.now b
      → Q st (record { answer = refused_answer (at0 k); lent = b }))
      (answering : (st : Stand) (cs : List Call) → Now st cs → (s b : List ℕ) (n : ℕ) → st.now ≤ 1000000 → Holding F net σ₀ W st.now s
      → Holding F net σ₀ W st.now b → Q st (record { answer = mode.shown s n; lent = b })) where
    -- what is promised of a list of steps
    pub record Good (st : Stand) (s : List ℕ) (calls : List Call) (steps : List (Returned Answer)) : Type 0 where
      pub outcomes : map seen_of steps ≡ expected w rules size st calls
      pub every : Along Q (stands w rules size st calls) steps
      pub unchanged : Unchanged s steps

    -- a state's answer
    pub answer-seen : (st : Stand) (cs : List Call) → Now st cs → (s b : List ℕ) (n : ℕ) → st.now ≤ 1000000 → Holding F net σ₀ W st.now s
        → seen_of (record { answer = mode.shown s n; lent = b }) ≡ seen (ended_if (due_at w rules st st.now)) st.now n
    unfolding shows
    answer-seen st cs N s b n l H = mode.alike s n ∙ rw (H.instant l, H.body.present fin X.wire, due-now st cs N) refl

    -- one step, to where the list stands then
    step : (st : Stand) (s : List ℕ) (c : Call) (cs : List Call) (x : Next) (r : Returned Answer) (rs : List (Returned Answer)) → next w rules size st c ≡ x
        → seen_of r ≡ x.tells → Q x.after r → (1 ≤ number_of (verdict r.answer.outcome) → r.lent ≡ s) → Good x.after r.lent cs rs
        → Good st s (c ∷ cs) (r ∷ rs)
    unfolding expected stands
    step st s c cs x r rs e told q left G =
        record {
          outcomes =
              ap₂ (λ (y : Seen) (l : List Seen). y ∷ l) told G.outcomes
              ∙ ap (λ (x : Next). x.tells ∷ expected w rules size x.after cs) (sym e);
          every = subst (λ (x : Next). Along Q (x.after ∷ stands w rules size x.after cs) (r ∷ rs)) (sym e) (q, G.every);
          unchanged = (left, G.unchanged);
        }

    module _ (st : Stand) (request : Request) (lent : ℕ) (cs : List Call) (N : Now st (record { request = request; lent = lent } ∷ cs)) (s : List ℕ)
        (H : Holding F net σ₀ W st.now s) (room : size ≤ length s) (l : st.now ≤ 1000000)
        (go : (st' : Stand) (b : List ℕ) → Now st' cs → Holding F net σ₀ W st'.now b → size ≤ length b → st'.now ≤ 1000000
        → Good st' b cs (replay_by mode.reply b cs)) where
      abbrev c : Call
      c = record { request = request; lent = lent }

      abbrev L : List ℕ
      L = take lent s

      -- a refused call leaves the list where it stands
      refused : (k : ℕ) → respond F file request L ≡ record { answer = refused_answer (at0 k); lent = L } → next w rules size st c ≡ refuses k st
          → Good st s (c ∷ cs) (replay_by mode.reply s (c ∷ cs))
      refused k e x =
          let M : Now st cs =
          record {
            fits = N.fits;
            began = N.began;
            given = given-on w rules size starts st c cs N.given st (ap (λ (y : Next). y.after) x) (record { begun = refl; from = refl; now = omega arith });
          } in
          let r : replay_by mode.reply s (c ∷ cs) ≡ record { answer = refused_answer (at0 k); lent = s } ∷ replay_by mode.reply s cs =
          replay-is mode.reply s c cs _ (mode.refused request L k e) ∙ ap (λ (b : List ℕ). record { answer = refused_answer (at0 k); lent = b } ∷ replay_by mode.reply b cs) (take-append-drop lent s) in
          rw r (step st s c cs (refuses k st) _ _ x refl (refusing st cs M k s l H) (λ h. refl) (go st s M H room l))

      lent_length : length L ≡ min lent (length s)
      lent_length = length-take lent s

      -- the lent part holds what the buffer holds
      lent-holds : size ≤ lent → Holding F net σ₀ W st.now L
      lent-holds h = same-holds F net X.ordered s L (λ j x. get_or-take lent s j 0 (omega arith)) σ₀ W st.now H

      is-short : lent < size → ltb (length L) size ≡ true
      is-short h = lt-ltb (length L) size (omega (arith, lent_length))

      is-long : size ≤ lent → ltb (length L) size ≡ false
      is-long h = le-ltb (length L) size (omega (arith, lent_length))

      is-sound : size ≤ lent → sound F net L ≡ true
      is-sound h = sound-held F net X.ordered starts σ₀ W obeys st.now L (lent-holds h)

      is-late : (n : ℕ) → size ≤ lent → 1000000 < st.now + n → ltb 1000000 (instant_of L + n) ≡ true
      is-late n h m = lt-ltb 1000000 (instant_of L + n) (omega (arith, (lent-holds h).instant l))

      in-time : (n : ℕ) → size ≤ lent → st.now + n ≤ 1000000 → ltb 1000000 (instant_of L + n) ≡ false
      in-time n h m = le-ltb 1000000 (instant_of L + n) (omega (arith, (lent-holds h).instant l))

      -- a call that runs to the stand st', with the state s' in the lent part
      ran : (st' : Stand) (s' : List ℕ) (n : ℕ) → size ≤ lent → respond F file request L ≡ record { answer = shows F file s' n; lent = s' }
          → next w rules size st c ≡ record { tells = seen (ended_if (due_at w rules st' st'.now)) st'.now n; after = st' }
          → Now st' cs → Holding F net σ₀ W st'.now s' → length s' ≡ length L → st'.now ≤ 1000000 → Good st s (c ∷ cs) (replay_by mode.reply s (c ∷ cs))
      unfolding shows
      ran st' s' n h e x M H' z m =
          let b : List ℕ = s' ++ drop lent s in
          let K : Holding F net σ₀ W st'.now b =
          same-holds F net X.ordered s' b (λ j y. get_or-append s' (drop lent s) 0 j (omega (arith, z, lent_length))) σ₀ W st'.now H' in
          rw (replay-is mode.reply s c cs _ (mode.answered request L s' n e))
          (step st s c cs _ _ _ x (answer-seen st' cs M s' b n m H') (answering st' cs M s' b n m H' K)
          (λ g. absurd (omega (arith, g, ap (λ (x : Seen). number_of (verdict x.outcome)) (mode.alike s' n), ap number_of (no-refusal (high (now_at F s' fin))))))
          (go st' b M K (rw (length-append s' (drop lent s)) (omega (arith, z, lent_length))) m))

    -- a continuing by n
    module _ (n : ℕ) (st : Stand) (lent : ℕ) (cs : List Call) (N : Now st (record { request = continuing n; lent = lent } ∷ cs)) (s : List ℕ)
        (H : Holding F net σ₀ W st.now s) (room : size ≤ length s) (l : st.now ≤ 1000000)
        (go : (st' : Stand) (b : List ℕ) → Now st' cs → Holding F net σ₀ W st'.now b → size ≤ length b → st'.now ≤ 1000000
        → Good st' b cs (replay_by mode.reply b cs)) where
      abbrev by : Call
      by = record { request = continuing n; lent = lent }

      abbrev T : List ℕ
      T = take lent s

      continue-refused : (k : ℕ) → first (continue_checks F file n T) ≡ refuse k 0 → next w rules size st by ≡ refuses k st
          → Good st s (by ∷ cs) (replay_by mode.reply s (by ∷ cs))
      unfolding respond continue_call
      continue-refused k e x = refused st (continuing n) lent cs N s H room l go k (refused-going F (first (continue_checks F file n T)) file _ T k e) x

      continue-short : lent < size → Good st s (by ∷ cs) (replay_by mode.reply s (by ∷ cs))
      continue-short h =
          continue-refused 14
          (checked F file X.accepted (fits-file N) n T [] true (sound F net T) (ltb 1000000 (instant_of T + n)) (is-short st (continuing n) lent cs N s H room l go h) refl refl)
          (next-short w rules size st by h)

      module _ (h : size ≤ lent) where
        checks : (r : Bool) → ltb 1000000 (instant_of T + n) ≡ r → first (continue_checks F file n T) ≡ first (refuse_if r 16 0 ∷ [])
        checks r e =
            checked F file X.accepted (fits-file N) n T [] false true r (is-long st (continuing n) lent cs N s H room l go h) (is-sound st (continuing n) lent cs N s H room l go h) e

        continue-late : 1000000 < st.now + n → Good st s (by ∷ cs) (replay_by mode.reply s (by ∷ cs))
        unfolding after_request
        continue-late m =
            continue-refused 16 (checks true (is-late st (continuing n) lent cs N s H room l go n h m))
            (next-long w rules size st by h ∙ continues-late w rules size st n m)

        module _ (m : st.now + n ≤ 1000000) where
          abbrev t' : ℕ
          t' = stops_at (due_at w rules st) st.now n

          abbrev st' : Stand
          st' = stand st.begun st.from t'

          next-is : next w rules size st by ≡ stopped w rules size st t'
          unfolding after_request
          next-is = next-long w rules size st by h ∙ continues-now w rules size st n m

          M : Now st' cs
          M =
              record {
                fits = N.fits;
                began = N.began;
                given = given-on w rules size starts st by cs N.given st' (ap (λ (y : Next). y.after) next-is)
                    (record { begun = refl; from = refl; now = stops-ge (due_at w rules st) n st.now });
              }

          -- the wire and the rules stop at the same instant
          stops : stops_at (level W fin) st.now n ≡ t'
          stops =
              stops_same (level W fin) (due_at w rules st) n st.now
              (λ u x y. due-at st (by ∷ cs) N u (omega (arith, N.given.since)) (λ v p q. M.given.none v p (omega arith)))

          continue-runs : Good st s (by ∷ cs) (replay_by mode.reply s (by ∷ cs))
          unfolding respond continue_call due_at
          continue-runs =
              let C =
              continues F net X.ordered starts σ₀ W obeys fin X.wire n st.now T (lent-holds st (continuing n) lent cs N s H room l go h)
              (omega (arith, lent_length st (continuing n) lent cs N s H room l go))
              (λ u x y. M.given.none u (omega (arith, N.given.since)) (omega (arith, stops)))
              (rw stops (apart-at st (by ∷ cs) N t' (omega (arith, M.given.since)) M.given.none)) in
              let on : Course = continued F net fin n T in
              let ev : on.count ≡ t' - st.now = rw stops at C.count in
              ran st (continuing n) lent cs N s H room l go st' on.state on.count h
              (accepted-going F (first (continue_checks F file n T)) file on T (checks false (in-time st (continuing n) lent cs N s H room l go n h m)) C.free)
              (next-is ∙ ap (λ (k : ℕ). record { tells = seen (ended_if (due_at w rules st t')) t' k; after = st' }) (sym ev)) M (rw stops at C.holding) C.long
              (omega (arith, stops-le (due_at w rules st) n st.now))

    -- a start
    module _ (st : Stand) (lent : ℕ) (cs : List Call) (N : Now st (record { request = start; lent = lent } ∷ cs)) (s : List ℕ)
        (H : Holding F net σ₀ W st.now s) (room : size ≤ length s) (l : st.now ≤ 1000000)
        (go : (st' : Stand) (b : List ℕ) → Now st' cs → Holding F net σ₀ W st'.now b → size ≤ length b → st'.now ≤ 1000000
        → Good st' b cs (replay_by mode.reply b cs)) where
      abbrev pulse : Call
      pulse = record { request = start; lent = lent }

      abbrev U : List ℕ
      U = take lent s

      -- what is checked after a continuing
      abbrev then : List Checked
      then = refuse_if (busy F file U) 23 0 ∷ []

      start-refused : (k : ℕ) → first (start_checks F file U) ≡ refuse k 0 → next w rules size st pulse ≡ refuses k st
          → Good st s (pulse ∷ cs) (replay_by mode.reply s (pulse ∷ cs))
      unfolding respond start_call
      start-refused k e x = refused st start lent cs N s H room l go k (refused-run F (first (start_checks F file U)) file _ _ U k e) x

      start-short : lent < size → Good st s (pulse ∷ cs) (replay_by mode.reply s (pulse ∷ cs))
      start-short h =
          start-refused 14
          (checked F file X.accepted (fits-file N) _ U then true (sound F net U) _ (is-short st start lent cs N s H room l go h) refl refl)
          (next-short w rules size st pulse h)

      module _ (h : size ≤ lent) where
        K : Holding F net σ₀ W st.now U
        K = lent-holds st start lent cs N s H room l go h

        after-checks : (n : ℕ) (rest : List Checked) (r : Bool) → ltb 1000000 (instant_of U + n) ≡ r
            → first (continue_checks F file n U ++ rest) ≡ first (refuse_if r 16 0 ∷ rest)
        after-checks n rest r e =
            checked F file X.accepted (fits-file N) n U rest false true r (is-long st start lent cs N s H room l go h) (is-sound st start lent cs N s H room l go h) e

        start-over : 1000000 < st.now + 1 → Good st s (pulse ∷ cs) (replay_by mode.reply s (pulse ∷ cs))
        unfolding after_request
        start-over m =
            start-refused 16 (after-checks _ then true (is-late st start lent cs N s H room l go _ h m))
            (next-long w rules size st pulse h ∙ start-late w rules size st m)

        module _ (m : st.now + 1 ≤ 1000000) where
          only-busy : (z : Bool) → busy F file U ≡ z → first (start_checks F file U) ≡ first (refuse_if z 23 0 ∷ [])
          only-busy z e =
              after-checks _ then false (in-time st start lent cs N s H room l go _ h m) ∙ ap (λ (z : Bool). first (refuse_if z 23 0 ∷ [])) e

          is-pulsed : next w rules size st pulse ≡ pulsed w rules st (run_at rules st st.now)
          unfolding after_request
          is-pulsed = next-long w rules size st pulse h ∙ start-now w rules size st m

          -- with longer pulses it waits for a low finish
          abbrev waits : Bool
          waits = ltb 1 (pulse_of file) && high (now_at F U fin)

          waits-is : waits ≡ (ltb 1 w && due_at w rules st st.now)
          waits-is = ap₂ (λ (n v : ℕ). ltb 1 n && high v) X.pulse-is (K.body.present fin X.wire) ∙ ap (λ (b : Bool). ltb 1 w && b) (due-now st (pulse ∷ cs) N)

          start-waits : (e : ℕ) (σ : Store) → run_at rules st st.now ≡ ended e σ → (ltb 1 w && due_at w rules st st.now) ≡ true
              → Good st s (pulse ∷ cs) (replay_by mode.reply s (pulse ∷ cs))
          unfolding pulsed
          start-waits e σ p z =
              start-refused 23 (only-busy true (ap (λ (b : Bool). ltb 0 (flight_of U) || b) (waits-is ∙ z) ∙ or-true (ltb 0 (flight_of U))))
              (is-pulsed ∙ ap (pulsed w rules st) p ∙ ap (λ (b : Bool). elim b as (λ z. Next) [ true ↦ refuses 23 st | false ↦ anew_of w rules st σ ]) z)

          -- while something is in flight
          start-busy : run_at rules st st.now ≡ still → Good st s (pulse ∷ cs) (replay_by mode.reply s (pulse ∷ cs))
          unfolding pulsed
          start-busy p =
              let some : 1 ≤ flight_of U = by_le 1 (flight_of U) (λ g. g) (λ g. absurd (number-still st (pulse ∷ cs) N U K p (omega arith))) in
              start-refused 23 (only-busy true (ap (λ (b : Bool). b || waits) (lt-ltb 0 (flight_of U) some))) (is-pulsed ∙ ap (pulsed w rules st) p)

          -- a new run
          module _ (e : ℕ) (σ : Store) (p : run_at rules st st.now ≡ ended e σ) (z : (ltb 1 w && due_at w rules st st.now) ≡ false) where
            abbrev next-run : Stand
            next-run = (anew_of w rules st σ).after

            own : (e ≤ st.now - st.begun) × (run κ e P st.from ≡ ended e σ)
            own = ended-own st.from (st.now - st.begun) e σ p

            -- the finish is low, or there is no need for it
            past : st.begun + e + gap w ≤ suc st.now
            unfolding due_at shows_at
            past =
                let o = own.0 in
                by_le w 1 (λ l. omega (arith, gap-one w (omega (arith, Z.positive)), N.given.since))
                (λ l.
                let q : ltb (st.now - st.begun) (e + w) ≡ false = rw (lt-ltb 1 w l, p) at z in
                omega (arith, gap-wide w l, ltb-false (st.now - st.begun) (e + w) q, N.given.since))

            next-anew : next w rules size st pulse ≡ anew_of w rules st σ
            unfolding pulsed
            next-anew =
                is-pulsed ∙ ap (pulsed w rules st) p ∙ ap (λ (b : Bool). elim b as (λ z. Next) [ true ↦ refuses 23 st | false ↦ anew_of w rules st σ ]) z

            after-anew : (next w rules size st pulse).after ≡ next-run
            after-anew = ap (λ (y : Next). y.after) next-anew

            comes : starts (suc st.now) ≡ true
            comes = given-pulse w rules size starts st pulse cs N.given next-run after-anew refl refl

            start-runs : Good st s (pulse ∷ cs) (replay_by mode.reply s (pulse ∷ cs))
            unfolding respond start_call
            start-runs =
                let enough : size ≤ length U = omega (arith, lent_length st start lent cs N s H room l go) in
                let none : flight_of U ≡ 0 = number-ended st (pulse ∷ cs) N U K e σ own.1 past in
                let M : Now next-run cs =
                record {
                  fits = N.fits;
                  began = Z.run-again st.from st.begun st.now N.began N.given.since N.given.none e σ
                      own.1 past comes;
                  given = given-anew w rules size starts st pulse cs N.given next-run after-anew refl refl;
                } in
                ran st start lent cs N s H room l go next-run (step_state F net true U) 1 h
                (accepted-run F (first (start_checks F file U)) file _ _ U
                (only-busy false (ap₂ ◌||◌ (le-ltb 0 (flight_of U) (omega (arith, none))) (waits-is ∙ z))))
                next-anew M
                (subst (λ (x : Bool). Holding F net σ₀ W (suc st.now) (step_state F net x U)) comes
                (step-holds F net X.ordered starts σ₀ W obeys st.now U K enough (apart-at next-run cs M (suc st.now) (omega arith) (λ u l k. absurd (omega arith)))))
                (subst (λ (x : Bool). length (step_state F net x U) ≡ length U) comes (step-length F net X.ordered starts σ₀ W obeys st.now U K enough))
                (omega arith)

    pub good : (calls : List Call) (st : Stand) (s : List ℕ) → Now st calls → Holding F net σ₀ W st.now s → size ≤ length s → st.now ≤ 1000000
        → Good st s calls (replay_by mode.reply s calls)
    unfolding replay_by expected stands
    good [] st s N H room l = record { outcomes = refl; every = tt; unchanged = tt }
    good (c ∷ cs) st s N H room l = by-request c.request N (good cs)
      where
        by-request : (q : Request) → Now st (record { request = q; lent = c.lent } ∷ cs)
            → ((st' : Stand) (b : List ℕ) → Now st' cs → Holding F net σ₀ W st'.now b → size ≤ length b → st'.now ≤ 1000000
            → Good st' b cs (replay_by mode.reply b cs))
            → Good st s (record { request = q; lent = c.lent } ∷ cs) (replay_by mode.reply s (record { request = q; lent = c.lent } ∷ cs))
        by-request (continuing n) N go =
            by_le size c.lent
            (λ h.
            by_le (st.now + n) 1000000 (λ m. continue-runs n st c.lent cs N s H room l go h m) (λ m. continue-late n st c.lent cs N s H room l go h m))
            (λ h. continue-short n st c.lent cs N s H room l go h)
        by-request start N go =
            by_le size c.lent
            (λ h.
            by_le (st.now + 1) 1000000
            (λ m.
            by_runs (run_at rules st st.now)
            (λ e σ p.
            by_bool (ltb 1 w && due_at w rules st st.now) (λ z. start-waits st c.lent cs N s H room l go h m e σ p z)
            (λ z. start-runs st c.lent cs N s H room l go h m e σ p z))
            (λ e σ p. never-leaves κ P Z.closed (st.now - st.begun) e st.from σ p) (λ p. start-busy st c.lent cs N s H room l go h m p))
            (λ m. start-over st c.lent cs N s H room l go h m))
            (λ h. start-short st c.lent cs N s H room l go h)
