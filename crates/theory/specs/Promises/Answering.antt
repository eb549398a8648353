-- What calls answer and leave on the states of a run of any accepted netlist, and that a full run is a beginning and a continuing.
-- Assumes nothing.
use Rattle.std.specs.Prelude.{◌≡◌, Bool, ltb, length, Ok, Err}
use Rattle.std.proofs.Math.Path.{refl, ap}
use Rattle.std.proofs.Common.{sym, ◌∙◌}
use Rattle.std.proofs.Math.Bool.{true, false}
use mathlib.Core.List.{List, []}
use Prim.Native.Nat.{ℕ, suc, ◌+◌, ◌-◌, ◌≤◌}
use native.Mathlib.Omega.{arith}
use borrow.Author.Tests.{le-ltb, ltb-false}
use Rattle.model.specs.declared.Answer.{Answer}
use Rattle.model.specs.declared.Format.{Format}
use Rattle.model.specs.declared.Format.TheVariants.{Full, Compact}
use Rattle.model.specs.Refusals.{first, Checked, Accepted}
use Rattle.model.specs.Circuit.{memory_words, Netlist, Sig, Values, high, level, Obeys}
use Rattle.model.specs.NetlistFile.{file_check, cells_of, net_of, finish_of}
use Rattle.model.specs.State.{instant_of, state_size, now_at, Course, begin_state, step_state, continued, words_in}
use Rattle.model.specs.Calls.{verdict, word_at, shows, going_on, is_too_long, begin_checks, begin_call, continue_checks, continue_call, start_checks, start_call, full_state, full_count, run_netlist_checks, run_netlist_call}
use Rattle.model.specs.CircuitPromises.{state_at, stops_at, Apart, Holds, answer_at, Answers, whole_of}
use Rattle.laws.specs.Refusals.Laws.{by_bool, all-accept, accept-take, refuse-unless}
use Rattle.laws.specs.Circuit.Ordered.{Ordered}
use Rattle.laws.specs.State.Continuing.{full-free}
use Rattle.laws.specs.NetlistFile.Passed.{net-ordered, file-passed, finish-within}
use Rattle.theory.specs.Circuit.Exists.{solution, solution-obeys}
use Rattle.theory.specs.State.Begin.{begin-length}
use Rattle.theory.specs.State.Counters.{apart-less}
use Rattle.theory.specs.State.Sound.{states}
use Rattle.theory.specs.State.Running.{stops-within, stops-ge}
use Rattle.theory.specs.State.OneRun.{going}
use Rattle.theory.specs.Promises.Answers.{memory-same}
use Rattle.theory.specs.Promises.Replay.{accepted-run, accepted-going, checked}
use Rattle.theory.specs.Promises.Kept.{ran}

-- a continuing that was not refused was accepted
went : (F : Format) (c : Checked) (file : List ℕ) (o : Course) (lent : List ℕ) → verdict (going_on F c file o lent).answer.outcome ≡ Accepted → c ≡ Accepted
unfolding going_on verdict
went F (Ok _) file o lent e = refl
went F (Err r) file o lent e = e

-- at instant 0 no pulse has come before another
apart-first : (F : Format) (net : Netlist) (W : Values) → Apart F net W 0
apart-first Full net W = tt
apart-first Compact net W = λ k l e v m u g. absurd (omega arith)

-- Calls on the states of a run -----------------------------------------------------------------------------------------------------------

module _ (F : Format) (file words lent : List ℕ) (starts : Sig) (W : Values) (pulse : starts 0 ≡ true) (accepted : file_check file ≡ Accepted)
    (room : state_size F (net_of file) ≤ length lent) (obeys : Obeys (net_of file) starts (word_at words) W) where
  abbrev net : Netlist
  net = net_of file

  ordered : Ordered (cells_of file)
  ordered = net-ordered (cells_of file) (finish_of file) (file-passed file accepted).cells

  abbrev state : ℕ → List ℕ
  state t = state_at F net starts (word_at words) lent t

  holds : (t : ℕ) → Apart F net W t → Holds F net (word_at words) W t (state t)
  holds = states F net ordered starts (word_at words) W obeys pulse lent room

  shown : (t n : ℕ) → t ≤ 1000000 → Apart F net W t → shows F file (state t) n ≡ answer_at file W t n
  unfolding shows
  shown t n l apart =
      let H = holds t apart in
      let words : words_in F (cells_of file) 0 (state t) ≡ memory_words (cells_of file) 0 (λ k. W k t) =
      memory-same (cells_of file) 0 (now_at F (state t)) (λ k. W k t)
      (λ i h.
      let z : 0 + i ≡ i = omega arith in
      rw z (H.present i h)) in
      rw (words, H.instant l, H.present (finish_of file) (finish-within file accepted)) refl

  -- the instants that a continuing by n may come to, where 16 does not refuse it
  in-time : (n t : ℕ) → t ≤ 1000000 → Apart F net W t → first (continue_checks F file n (state t)) ≡ Accepted → t + n ≤ 1000000
  in-time n t l apart e =
      let i = ltb-false 1000000 (instant_of (state t) + n) (refuse-unless _ 16 0 (all-accept (continue_checks F file n (state t)) e 4)) in
      omega (arith, i, (holds t apart).instant l)

  pub answers : Answers F file words lent starts W
  unfolding begin_call continue_call start_call state_at
  answers =
      record {
        begun = λ v.
            accepted-run F _ file (state 0) 1 lent (ran F (first (begin_checks F file words lent)) file (state 0) 1 lent v)
            ∙ ap (λ (a : Answer). record { answer = a; lent = state 0 }) (shown 0 1 (omega arith) (apart-first F net W));
        continued = λ n t l none apart v.
            let t' = stops_at (level W (finish_of file)) t n in
            let on = continued F net (finish_of file) n (state t) in
            let is = going net ordered starts (word_at words) pulse W obeys F lent room (finish_of file) (finish-within file accepted) n t none apart in
            let e = went F (first (continue_checks F file n (state t))) file on (state t) v in
            let until = stops-within (level W (finish_of file)) n t in
            let now = apart-less F net W t t' (stops-ge (level W (finish_of file)) n t) apart in
            let soon : t' ≤ 1000000 = omega (arith, until, in-time n t l now e) in
            accepted-going F _ file on (state t) e (ap (λ (o : Course). o.check) is)
            ∙ ap (λ (o : Course). record { answer = shows F file o.state o.count; lent = o.state }) is
            ∙ ap (λ (a : Answer). record { answer = a; lent = state t' }) (shown t' (t' - t) soon apart);
        started = λ t l high apart v.
            let next : step_state F net true (state t) ≡ state (suc t) = ap (λ (b : Bool). step_state F net b (state t)) (sym high) in
            let e = ran F (first (start_checks F file (state t))) file (step_state F net true (state t)) 1 (state t) v in
            let soon : suc t ≤ 1000000 = omega (arith, in-time 1 t l (apart-less F net W t (suc t) (omega arith) apart) (accept-take 5 (start_checks F file (state t)) e)) in
            accepted-run F _ file (step_state F net true (state t)) 1 (state t) e
            ∙ ap (λ (s : List ℕ). record { answer = shows F file s 1; lent = s }) next
            ∙ ap (λ (a : Answer). record { answer = a; lent = state (suc t) }) (shown (suc t) 1 soon apart);
      }

-- Full runs of a netlist -----------------------------------------------------------------------------------------------------------------

-- with the beginning's start alone
module _ (file words lent : List ℕ) (n : ℕ) (v : verdict (run_netlist_call file words n lent).answer.outcome ≡ Accepted) where
  abbrev fin : ℕ
  fin = finish_of file

  abbrev begun : List ℕ
  begun = begin_state Full (net_of file) (word_at words) lent

  abbrev on : Course
  on = continued Full (net_of file) fin n begun

  checks : first (run_netlist_checks file words n lent) ≡ Accepted
  unfolding run_netlist_call
  checks = ran Full (first (run_netlist_checks file words n lent)) file (full_state file words n lent) (full_count file words n lent) lent v

  passed : file_check file ≡ Accepted
  passed = all-accept (run_netlist_checks file words n lent) checks 0

  enough : ltb (length words) 544 ≡ false
  enough = refuse-unless _ 14 0 (all-accept (run_netlist_checks file words n lent) checks 2)

  fits : ltb (length lent) (state_size Full (net_of file)) ≡ false
  fits = refuse-unless _ 14 0 (all-accept (run_netlist_checks file words n lent) checks 3)

  begin-is : begin_call Full file words lent ≡ record { answer = shows Full file begun 1; lent = begun }
  unfolding begin_call is_too_long
  begin-is =
      accepted-run Full (first (begin_checks Full file words lent)) file begun 1 lent
      (rw (passed, enough, fits) refl)

  continue-is : continue_call Full file n begun ≡ record { answer = shows Full file on.state on.count; lent = on.state }
  unfolding continue_call state_at
  continue-is =
      let net = net_of file in
      let σ = word_at words in
      let starts : Sig = λ t. true in
      let W = solution net starts σ in
      let order = net-ordered (cells_of file) fin (file-passed file passed).cells in
      let obeys = solution-obeys net starts σ order in
      let room = ltb-false (length lent) (state_size Full net) fits in
      let H : Holds Full net σ W 0 begun = holds Full file words lent starts W refl passed room obeys 0 tt in
      let long = begin-length Full net order starts σ W obeys refl lent room in
      let early = ltb-false 1000000 n (refuse-unless _ 13 0 (all-accept (run_netlist_checks file words n lent) checks 1)) in
      accepted-going Full (first (continue_checks Full file n begun)) file on begun
      (checked Full file passed (unfold is_too_long in refl) n begun [] false true false (le-ltb (length begun) (state_size Full net) (omega (arith, room, long))) H.proper
      (le-ltb 1000000 (instant_of begun + n) (omega (arith, early, H.instant (omega arith)))))
      (full-free net fin n begun)

  pub full-run : run_netlist_call file words n lent ≡ whole_of (begin_call Full file words lent).answer.outcome (begin_call Full file words lent) (continue_call Full file n (begin_call Full file words lent).lent)
  unfolding run_netlist_call full_state full_count shows whole_of
  full-run =
      accepted-run Full (first (run_netlist_checks file words n lent)) file (full_state file words n lent) (full_count file words n lent) lent checks
      ∙ rw (begin-is, continue-is) (by_bool (high (now_at Full begun fin)) (λ z. rw (z, z) refl) (λ z. rw z refl))
