-- What writing answers, outcome by outcome, and what it puts in. Assumes nothing.
use Rattle.std.proofs.Common.{◌≡◌, ℕ, ◌*◌, ◌<◌, ◌≤◌, true, false, ltb, List, [], ◌∷◌, length, sym, refl, ap, ◌∙◌, arith, ltb-false, le-ltb, lt-ltb, Result, Ok, Err}
use lib.Seq.{sets}
use Rattle.std.specs.Result.{is_ok}
use Rattle.model.specs.declared.Cell.{Cell}
use Rattle.model.specs.declared.Refusal.{Refusal}
use Rattle.model.specs.declared.Written.{Written}
use Rattle.model.specs.Refusals.{refuse_if, first, Checked, Accepted, Done}
use Rattle.model.specs.NetlistFile.{cell_limit, count_wrong, blocks_for, file_of, first_number, pulse_wrong, net_check}
use Rattle.model.specs.Calls.{Returned, overwrite, short, writing}
use Rattle.model.specs.CellSlices.{miscounted, check_cells_call, write_cells_call}
use Rattle.laws.specs.Refusals.Laws.{by_bool, not-both, not-refused, all-accept, refuse-unless, first-behind, first_two, first_one}
use Rattle.laws.specs.NetlistFile.Passed.{pulse-right}
use Rattle.laws.specs.NetlistFile.Files.{file-length}
use Rattle.word.proofs.Puts.{overwrite-sets}
use Rattle.netlist.proofs.FileChecks.{counted}
use Rattle.netlist.proofs.Calls.{refused}
use Rattle.exports.specs.Writes.{numbered}

-- Answers ------------------------------------------------------------------------------------------------------------------------------

-- what a call that writes leaves in the lent list, by its answer
module _ (file : List ℕ) (n f : ℕ) (lent : List ℕ) where
  leaves : (c : Checked) {r : Refusal} → Err r ≡ (writing c file n f lent).answer → lent ≡ (writing c file n f lent).lent
  unfolding writing
  leaves (Ok _) e = not-both (ap is_ok e) refl
  leaves (Err r) e = refl

  puts : (c : Checked) {m g : ℕ} → Done m g ≡ (writing c file n f lent).answer → (c ≡ Accepted) × (overwrite file lent ≡ (writing c file n f lent).lent)
  unfolding writing
  puts (Ok _) e = (refl, refl)
  puts (Err r) e = not-both refl (ap is_ok e)

both-accept : (c d : Checked) → first (c ∷ d ∷ []) ≡ Accepted → (c ≡ Accepted) × (d ≡ Accepted)
both-accept (Ok _) d e = (refl, first_one d ∙ e)
both-accept (Err r) d e = not-refused e

module _ (v : ℕ) (cs : List Cell) (f : ℕ) (lent : List ℕ) where
  abbrev size : ℕ
  size = 512 * blocks_for (length cs)

  abbrev verdicts : List Checked
  verdicts = refuse_if (pulse_wrong v) 27 0 ∷ check_cells_call cs f ∷ short (length lent) size ∷ []

  write_as : write_cells_call v cs f lent ≡ writing (first verdicts) (file_of v cs f) size f lent
  unfolding write_cells_call check_cells_call
  write_as =
      rw (file-length v cs f)
      (ap (λ (c : Checked). writing c (file_of v cs f) size f lent)
      (first-behind (refuse_if (pulse_wrong v) 27 0) (miscounted cs f ∷ net_check cs f ∷ short (length lent) size ∷ []) (check_cells_call cs f ∷ short (length lent) size ∷ []) (first_two (miscounted cs f) (net_check cs f) (short (length lent) size ∷ []))))

  pub write-long : pulse_wrong v ≡ true → refused 27 ≡ (write_cells_call v cs f lent).answer
  unfolding writing
  write-long e = rw (write_as, e) refl

  pub write-refused : {r : Refusal} → pulse_wrong v ≡ false → check_cells_call cs f ≡ Err r → Err r ≡ (write_cells_call v cs f lent).answer
  unfolding writing
  write-refused p e = rw (write_as, p, e) refl

  module _ (p : pulse_wrong v ≡ false) (e : check_cells_call cs f ≡ Accepted) {n room : ℕ} (count : n ≡ length cs) (l : length lent ≡ room) where
    pub write-short : room < 512 * blocks_for n → refused 14 ≡ (write_cells_call v cs f lent).answer
    unfolding writing
    write-short h = rw (write_as, p, e, l, ← count, lt-ltb _ _ h) refl

    pub write_done : 512 * blocks_for n ≤ room → Done (512 * blocks_for n) f ≡ (write_cells_call v cs f lent).answer
    unfolding writing
    write_done h = rw (write_as, p, e, l, ← count, le-ltb _ _ h) refl

  -- what is left in the lent list, by the answer
  pub left-refused : {r : Refusal} → Err r ≡ (write_cells_call v cs f lent).answer → lent ≡ (write_cells_call v cs f lent).lent
  left-refused e = rw write_as (leaves (file_of v cs f) size f lent _ (rw write_as at e))

  accepted : {n g : ℕ} → Done n g ≡ (write_cells_call v cs f lent).answer → (pulse_wrong v ≡ false) × (check_cells_call cs f ≡ Accepted) × (size ≤ length lent) × (sets lent 0 (file_of v cs f) ≡ (write_cells_call v cs f lent).lent)
  accepted e =
      let (a, p) = puts (file_of v cs f) size f lent (first verdicts) (rw write_as at e) in
      let z = all-accept verdicts a in
      let h : size ≤ length lent = ltb-false (length lent) size (refuse-unless (ltb (length lent) size) 14 0 (z 2)) in
      (refuse-unless (pulse_wrong v) 27 0 (z 0), z 1, h, sym (overwrite-sets (file_of v cs f) lent (omega (arith, h, file-length v cs f))) ∙ p ∙ ap (λ (t : Returned (Result Written Refusal)). t.lent) (sym write_as))

few-cells : (cs : List Cell) (f : ℕ) → check_cells_call cs f ≡ Accepted → length cs ≤ cell_limit
unfolding check_cells_call
few-cells cs f e =
    let a = (both-accept (miscounted cs f) (net_check cs f) e).0 in
    (counted (blocks_for (length cs)) (length cs) f (by_bool (count_wrong (blocks_for (length cs)) (length cs) f) (λ t. not-refused (rw t at a)) (λ t. t))).high

-- an answer that is one, and one that is a refusal
pub is-done : (r : Result Written Refusal) → is_ok r ≡ true → (w : Written) × (r ≡ Ok w)
is-done (Ok w) t = (w, refl)
is-done (Err q) t = not-both t refl

pub is-refused : (r : Result Written Refusal) → is_ok r ≡ false → (q : Refusal) × (r ≡ Err q)
is-refused (Ok w) t = not-both refl t
is-refused (Err q) t = (q, refl)

module _ (v : ℕ) (cs : List Cell) (f : ℕ) (lent : List ℕ) {w : Written} (e : Ok w ≡ (write_cells_call v cs f lent).answer) where
  pub done-fits : {k : ℕ} → k ≡ first_number v → (length cs ≤ cell_limit) × (512 * blocks_for (length cs) ≤ length lent) × (k ≤ 65280)
  done-fits is =
      let (right, a, fits, _) = accepted v cs f lent e in
      (few-cells cs f a, fits, omega (arith, is, (pulse-right v right).1))

  pub done-put : {k : ℕ} {out : List ℕ} → k ≡ first_number v → out ≡ sets lent 0 (numbered k cs f) → out ≡ (write_cells_call v cs f lent).lent
  unfolding file_of
  done-put is q = (rw is at q) ∙ (accepted v cs f lent e).3
