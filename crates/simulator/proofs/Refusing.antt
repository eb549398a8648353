-- The checks of the calls: which one is found first, what is known when none is, and what a call then answers. Assumes nothing.
use Rattle.std.specs.Prelude.{Ok, Err}
use mathlib.Core.Bool.{Bool, true, false, not}
use mathlib.Core.List.{List, [], ◌∷◌, ◌++◌}
use mathlib.Core.Path.{◌≡◌, refl, sym, ◌∙◌, ap}
use Prim.Native.Nat.{ℕ, ◌+◌, ◌<◌, ◌≤◌}
use native.Mathlib.Omega.{arith}
use lib.Dec.{ltb}
use lib.ListN.{length}
use borrow.Author.Tests.{lt-ltb, le-ltb, ltb-false}
use Rattle.model.specs.declared.Refusal.{Refusal}
use Rattle.model.specs.declared.Format.{Format}
use Rattle.model.specs.declared.Format.TheVariants.{Full, Compact}
use Rattle.model.specs.declared.Answer.{Answer}
use Rattle.model.specs.Refusals.{refuse, refuse_if, first, Checked, Accepted}
use Rattle.model.specs.NetlistFile.{file_check, net_of}
use Rattle.model.specs.State.{Course, base, state_size, instant_of, flight_of, sound}
use Rattle.model.specs.Calls.{is_too_long, format_check, Returned, short, over_budget, refused_answer, shows, running, going_on, begin_checks, continue_checks, busy, start_checks, run_netlist_checks}
use Rattle.laws.specs.Refusals.Laws.{not-false, or-false, first_one, first-drop, first-append, all-accept, refuse-unless}
use Rattle.laws.specs.NetlistFile.Passed.{count-cells}
use Rattle.netlist.specs.declared.header.Header.{Header}
use Rattle.netlist.specs.Headers.{header_of}
use Rattle.netlist.proofs.Headers.{header-count, header-pulse}
use Rattle.state.specs.Stands.{Runs, Ready}
use Rattle.simulator.specs.Levels.{told}
use Rattle.state.proofs.Soundness.{sound-ready}

-- Which is found first -----------------------------------------------------------------------------------------------------------------

pub is-short : (has needs : ℕ) → has < needs → refuse 14 0 ≡ short has needs
is-short has needs l = rw (lt-ltb has needs l) refl

pub is-long : (has needs : ℕ) → needs ≤ has → Accepted ≡ short has needs
is-long has needs l = rw (le-ltb has needs l) refl

-- 27 of a state in this format
module _ (F : Format) (w : ℕ) where
  pub full-goes : F ≡ Full → Accepted ≡ refuse_if (is_too_long F w) 27 0
  unfolding is_too_long
  full-goes f = rw f refl

  module _ (f : F ≡ Compact) where
    pub compact-stops : 1 < w → refuse 27 0 ≡ refuse_if (is_too_long F w) 27 0
    unfolding is_too_long
    compact-stops h = rw (f, lt-ltb 1 w h) refl

    pub compact-goes : w ≤ 1 → Accepted ≡ refuse_if (is_too_long F w) 27 0
    unfolding is_too_long
    compact-goes h = rw (f, le-ltb 1 w h) refl

-- 27 and 14 of a file's state, from its header
module _ (F : Format) (file : List ℕ) (h : Header) (e : h ≡ header_of file) where
  pub header-formed : refuse_if (is_too_long F h.pulse) 27 0 ≡ format_check F file
  header-formed = ap (λ (w : ℕ). refuse_if (is_too_long F w) 27 0) (header-pulse file e)

  pub header-room : (has : ℕ) → short has (base F h.count + 512) ≡ short has (state_size F (net_of file))
  header-room has = ap (λ (n : ℕ). short has (base F n + 512)) (header-count file e ∙ sym (count-cells file))

  pub header-lent : (words s : List ℕ)
      → first (short (length words) 544 ∷ short (length s) (base F h.count + 512) ∷ []) ≡ first (short (length words) 544 ∷ short (length s) (state_size F (net_of file)) ∷ [])
  header-lent words s = ap (λ (r : Checked). first (short (length words) 544 ∷ r ∷ [])) (header-room (length s))

-- a check that refuses, in front of others, and one that accepts
module _ (rest : List Checked) {c : Checked} where
  pub refuses : {r : Refusal} → c ≡ Err r → Err r ≡ first (c ∷ rest)
  refuses e = rw e refl

  pub accepts : {d : Checked} → c ≡ Accepted → d ≡ first rest → d ≡ first (c ∷ rest)
  accepts e f = rw e f

module _ (F : Format) (file : List ℕ) (n : ℕ) (lent : List ℕ) (e : file_check file ≡ Accepted) (g : format_check F file ≡ Accepted) where
  pub continue-room : (r : Refusal) → short (length lent) (state_size F (net_of file)) ≡ Err r → Err r ≡ first (continue_checks F file n lent)
  continue-room r l = rw (e, g, l) refl

  module _ (l : short (length lent) (state_size F (net_of file)) ≡ Accepted) where
    pub continue-unsound : sound F (net_of file) lent ≡ false → refuse 15 0 ≡ first (continue_checks F file n lent)
    continue-unsound s = rw (e, g, l, s) refl

    pub continue-late : sound F (net_of file) lent ≡ true → 1000000 < instant_of lent + n → refuse 16 0 ≡ first (continue_checks F file n lent)
    continue-late s t = rw (e, g, l, s, lt-ltb 1000000 (instant_of lent + n) t) refl

    pub continue-right : sound F (net_of file) lent ≡ true → instant_of lent + n ≤ 1000000 → Accepted ≡ first (continue_checks F file n lent)
    continue-right s t = rw (e, g, l, s, le-ltb 1000000 (instant_of lent + n) t) refl

-- a start is checked as a continuing by 1, and then for its number in flight
abbrev pub number_check : Format → List ℕ → List ℕ → List Checked
number_check F file lent = refuse_if (busy F file lent) 23 0 ∷ []

module _ (F : Format) (file lent : List ℕ) (e : first (continue_checks F file 1 lent) ≡ Accepted) where
  pub start-busy : busy F file lent ≡ true → refuse 23 0 ≡ first (start_checks F file lent)
  start-busy h = sym (first-append (continue_checks F file 1 lent) (number_check F file lent) e ∙ ap (λ (b : Bool). first (refuse_if b 23 0 ∷ [])) h)

  pub start_right : busy F file lent ≡ false → Accepted ≡ first (start_checks F file lent)
  start_right h = sym (first-append (continue_checks F file 1 lent) (number_check F file lent) e ∙ ap (λ (b : Bool). first (refuse_if b 23 0 ∷ [])) h)

-- of a full run the state's room is looked at last
pub run-room : (file words : List ℕ) (n : ℕ) (lent : List ℕ) → file_check file ≡ Accepted → first (over_budget n ∷ short (length words) 544 ∷ []) ≡ Accepted
    → short (length lent) (state_size Full (net_of file)) ≡ first (run_netlist_checks file words n lent)
run-room file words n lent e a =
    let checks = run_netlist_checks file words n lent in
    first_one (short (length lent) (state_size Full (net_of file))) ∙ sym (first-drop 3 checks (rw e a))

-- What is known when none is -----------------------------------------------------------------------------------------------------------

pub long-enough : (has needs : ℕ) → short has needs ≡ Accepted → needs ≤ has
long-enough has needs e = ltb-false has needs (refuse-unless (ltb has needs) 14 0 e)

-- what accepts as a whole accepts in its first part
accepted-front : (cs ds : List Checked) → first (cs ++ ds) ≡ Accepted → first cs ≡ Accepted
accepted-front [] ds e = refl
accepted-front (Ok _ ∷ cs) ds e = accepted-front cs ds e
accepted-front (Err r ∷ cs) ds e = e

pub begin-accepted : (F : Format) (file words lent : List ℕ) → first (begin_checks F file words lent) ≡ Accepted → Runs F file lent × (544 ≤ length words)
begin-accepted F file words lent e =
    let a = all-accept (begin_checks F file words lent) e in
    (record { accepted = a 0; room = long-enough (length lent) (state_size F (net_of file)) (a 3) }, long-enough (length words) 544 (a 2))

pub continue-accepted : (F : Format) (file : List ℕ) (n : ℕ) (lent : List ℕ) → first (continue_checks F file n lent) ≡ Accepted
    → Runs F file lent × (instant_of lent + n ≤ 1000000) × Ready F (net_of file) lent
continue-accepted F file n lent e =
    let net = net_of file in
    let a = all-accept (continue_checks F file n lent) e in
    let is-sound = not-false (sound F net lent) (refuse-unless (not (sound F net lent)) 15 0 (a 3)) in (
      record { accepted = a 0; room = long-enough (length lent) (state_size F net) (a 2) },
      ltb-false 1000000 (instant_of lent + n) (refuse-unless (ltb 1000000 (instant_of lent + n)) 16 0 (a 4)),
      sound-ready F net lent is-sound,
    )

pub start-accepted : (F : Format) (file lent : List ℕ) → first (start_checks F file lent) ≡ Accepted → Runs F file lent × (instant_of lent + 1 ≤ 1000000) × Ready F (net_of file) lent × (flight_of lent ≡ 0)
start-accepted F file lent e =
    let front = accepted-front (continue_checks F file 1 lent) (number_check F file lent) e in
    let z = continue-accepted F file 1 lent front in
    let last : first (number_check F file lent) ≡ Accepted = sym (first-append (continue_checks F file 1 lent) (number_check F file lent) front) ∙ e in
    let quiet = refuse-unless (busy F file lent) 23 0 (first_one (refuse_if (busy F file lent) 23 0) ∙ last) in
    let none = ltb-false 0 (flight_of lent) (or-false (ltb 0 (flight_of lent)) _ quiet).0 in
    (z.0, z.1, z.2, omega (arith, none))

pub run-accepted : (file words : List ℕ) (n : ℕ) (lent : List ℕ) → first (run_netlist_checks file words n lent) ≡ Accepted
    → Runs Full file lent × (544 ≤ length words) × (n ≤ 1000000)
run-accepted file words n lent e =
    let a = all-accept (run_netlist_checks file words n lent) e in (
      record { accepted = a 0; room = long-enough (length lent) (state_size Full (net_of file)) (a 3) },
      long-enough (length words) 544 (a 2),
      ltb-false 1000000 n (refuse-unless (ltb 1000000 n) 13 0 (a 1)),
    )

-- What a call answers and leaves ------------------------------------------------------------------------------------------------------

-- an answer a and a list t at exit are those of a call
abbrev pub Tells : Returned Answer → Answer → List ℕ → Type 0
Tells told a t = (a ≡ told.answer) × (t ≡ told.lent)

-- of a continuing that goes as c does, behind a check
module _ (F : Format) (check : Checked) (file : List ℕ) (c : Course) (lent : List ℕ) (a : Answer) where
  pub going-refused : (r : Refusal) → check ≡ Err r → a ≡ refused_answer r → Tells (going_on F check file c lent) a lent
  unfolding going_on
  going-refused r e p = rw e (p, refl)

  pub going_done : (t : List ℕ) → check ≡ Accepted → a ≡ told F file c → t ≡ c.state → Tells (going_on F check file c lent) a t
  unfolding going_on
  going_done t e p q = rw e (p, q ∙ sym (left c.check))
    where
      left : (d : Checked) → (running F d file c.state c.count c.state).lent ≡ c.state
      left (Ok _) = unfold running in refl
      left (Err r) = unfold running in refl

-- of a run that leaves s and counts n, behind a check
module _ (F : Format) (c : Checked) (file s : List ℕ) (n : ℕ) (lent : List ℕ) (a : Answer) where
  pub run-refused : (r : Refusal) → c ≡ Err r → a ≡ refused_answer r → Tells (running F c file s n lent) a lent
  unfolding running
  run-refused r e p = rw e (p, refl)

  pub run-done : (t : List ℕ) → c ≡ Accepted → a ≡ shows F file s n → t ≡ s → Tells (running F c file s n lent) a t
  unfolding running
  run-done t e p q = rw e (p, q)
