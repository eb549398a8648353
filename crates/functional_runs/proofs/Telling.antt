-- A call of the simulator as a functional run: what it answers, what it leaves, and that the state of one that was not refused has its size.
-- Assumes nothing.
use Rattle.std.specs.Prelude.{Ok, Err}
use mathlib.Core.List.{List}
use mathlib.Core.Path.{◌≡◌, refl, sym, ◌∙◌, ap}
use Prim.Native.Nat.{ℕ}
use lib.ListN.{length}
use Rattle.model.specs.declared.Answer.{Answer}
use Rattle.model.specs.declared.Format.{Format}
use Rattle.model.specs.declared.Format.TheVariants.{Full}
use Rattle.model.specs.declared.Outcome.{Outcome}
use Rattle.model.specs.declared.Refusal.{Refusal}
use Rattle.model.specs.Refusals.{first, Checked, Accepted}
use Rattle.model.specs.NetlistFile.{file_check}
use Rattle.model.specs.State.{Course}
use Rattle.model.specs.Calls.{Returned, verdict, refused_answer, running, going_on, begin_checks, begin_call, continue_checks, continue_call, start_checks, start_call, run_netlist_checks, run_netlist_call}
use Rattle.model.specs.FunctionalCalls.{retold, in_mode, functionally}
use Rattle.laws.specs.Refusals.Laws.{not-refused}
use Rattle.state.specs.Stands.{Runs}
use Rattle.simulator.proofs.Refusing.{Tells, begin-accepted, continue-accepted, start-accepted, run-accepted}
use Rattle.functional_runs.specs.Modes.{Ahead, Refuses, with_last, retold_as}

-- How an answer is told ----------------------------------------------------------------------------------------------------------------

module _ (F : Format) (file : List ℕ) (a : Answer) (s : List ℕ) where
  pub told-shown : verdict a.outcome ≡ Accepted → with_last F file a s ≡ retold_as F file a s
  unfolding retold
  told-shown v = rw (retold_as, v) refl

  pub told-refused : {r : Refusal} → a.outcome ≡ Outcome.Refused r → a ≡ retold_as F file a s
  unfolding retold verdict
  told-refused e = rw (retold_as, e) refl

module _ (F : Format) (file lent : List ℕ) where
  pub mode-refused : {c : Checked} {r : Refusal} {a : Answer} (t : Returned Answer) → Ahead file c → c ≡ Err r → a ≡ refused_answer r
      → Tells (functionally F file lent t) a lent
  unfolding in_mode
  mode-refused {r = r} t H e p = rw (H.refused r e) (p, refl)

  left_as : (t : Returned Answer) (c : Checked) → (retold F file c t).lent ≡ t.lent
  unfolding retold
  left_as t (Ok _) = refl
  left_as t (Err r) = refl

  in-mode : (t : Returned Answer) → Ahead file Accepted → Refuses file lent t → functionally F file lent t ≡ retold F file (verdict t.answer.outcome) t
  unfolding in_mode retold verdict
  in-mode t H R = ap (λ (c : Checked). in_mode F file c lent t) (H.left refl) ∙ go (file_check file) refl
    where
      go : (c : Checked) → file_check file ≡ c → in_mode F file c lent t ≡ retold F file (verdict t.answer.outcome) t
      go (Ok _) e = refl
      go (Err q) e = rw (R q e) refl

  pub mode-told : (t : Returned Answer) {c : Checked} {a b : Answer} {s : List ℕ} → Ahead file c → c ≡ Accepted → Refuses file lent t → Tells t a s → b ≡ retold_as F file a s
      → Tells (functionally F file lent t) b s
  mode-told t H e R told q =
      rw (in-mode t (rw e at H) R) (q ∙ rw (told.0, told.1) refl, told.1 ∙ sym (left_as t (verdict t.answer.outcome)))

-- The four calls -----------------------------------------------------------------------------------------------------------------------

-- the checks of a call that was not refused accept
run-behind : (F : Format) (c : Checked) (file s : List ℕ) (n : ℕ) (lent : List ℕ) → verdict (running F c file s n lent).answer.outcome ≡ Accepted → c ≡ Accepted
unfolding running verdict
run-behind F (Ok _) file s n lent e = refl
run-behind F (Err r) file s n lent e = not-refused e

going-behind : (F : Format) (c : Checked) (file : List ℕ) (k : Course) (lent : List ℕ) → verdict (going_on F c file k lent).answer.outcome ≡ Accepted → c ≡ Accepted
unfolding going_on verdict
going-behind F (Ok _) file k lent e = refl
going-behind F (Err r) file k lent e = not-refused e

-- a state as long as one that has its size
pub same_size : {F : Format} {file lent s : List ℕ} → length s ≡ length lent → Runs F file lent → Runs F file s
same_size l r = record { accepted = r.accepted; room = rw l r.room }

module _ (F : Format) (file : List ℕ) where
  module _ (words lent : List ℕ) where
    pub begin-refuses : Refuses file lent (begin_call F file words lent)
    unfolding begin_call running
    begin-refuses q e = rw e refl

    pub begin-runs : {a : Answer} {s : List ℕ} → length s ≡ length lent → Tells (begin_call F file words lent) a s → verdict a.outcome ≡ Accepted → Runs F file s
    unfolding begin_call
    begin-runs l t v =
        same_size l (begin-accepted F file words lent (run-behind F (first (begin_checks F file words lent)) file _ 1 lent (rw t.0 at v))).0

  module _ (n : ℕ) (lent : List ℕ) where
    pub continue-refuses : Refuses file lent (continue_call F file n lent)
    unfolding continue_call going_on
    continue-refuses q e = rw e refl

    pub continue-runs : {a : Answer} {s : List ℕ} → length s ≡ length lent → Tells (continue_call F file n lent) a s → verdict a.outcome ≡ Accepted → Runs F file s
    unfolding continue_call
    continue-runs l t v =
        same_size l (continue-accepted F file n lent (going-behind F (first (continue_checks F file n lent)) file _ lent (rw t.0 at v))).0

  module _ (lent : List ℕ) where
    pub start-refuses : Refuses file lent (start_call F file lent)
    unfolding start_call running
    start-refuses q e = rw e refl

    pub start-runs : {a : Answer} {s : List ℕ} → length s ≡ length lent → Tells (start_call F file lent) a s → verdict a.outcome ≡ Accepted → Runs F file s
    unfolding start_call
    start-runs l t v = same_size l (start-accepted F file lent (run-behind F (first (start_checks F file lent)) file _ 1 lent (rw t.0 at v))).0

module _ (file words : List ℕ) (n : ℕ) (lent : List ℕ) where
  pub run-refuses : Refuses file lent (run_netlist_call file words n lent)
  unfolding run_netlist_call running
  run-refuses q e = rw e refl

  pub run-runs : {a : Answer} {s : List ℕ} → length s ≡ length lent → Tells (run_netlist_call file words n lent) a s → verdict a.outcome ≡ Accepted → Runs Full file s
  unfolding run_netlist_call
  run-runs l t v = same_size l (run-accepted file words n lent (run-behind Full (first (run_netlist_checks file words n lent)) file _ _ lent (rw t.0 at v))).0
