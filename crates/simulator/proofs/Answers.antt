-- Answers of runs: what a state shows, and the results of continuings and full runs. Assumes nothing.
use Rattle.model.specs.Refusals.{Accepted}
use Rattle.std.specs.Prelude.{Err}
use mathlib.Core.Bool.{Bool, true, false}
use mathlib.Core.List.{List}
use mathlib.Core.Path.{◌≡◌, refl, ◌∙◌, ap}
use Prim.Native.Nat.{ℕ, ◌+◌}
use Rattle.model.specs.declared.Format.{Format}
use Rattle.model.specs.declared.Format.TheVariants.{Full}
use Rattle.model.specs.declared.Refusal.{Refusal}
use Rattle.model.specs.declared.Outcome.TheVariants.{Ended, Open}
use Rattle.model.specs.Word.{pick}
use Rattle.model.specs.Circuit.{high}
use Rattle.model.specs.NetlistFile.{cells_of, net_of, finish_of}
use Rattle.model.specs.State.{Course, instant_of, now_at, begin_state, continued, words_in}
use Rattle.model.specs.Calls.{word_at, refused_answer, shows, running, full_state, full_count}
use Rattle.simulator.specs.Levels.{continued_with, told}
use Rattle.simulator.proofs.Continuing.{with_none}

pub answer-shows : (F : Format) (file s : List ℕ) (n : ℕ) (b : Bool) (t : ℕ) (words : List ℕ) → high (now_at F s (finish_of file)) ≡ b → t ≡ instant_of s
    → words ≡ words_in F (cells_of file) 0 s → record { outcome = pick b Ended Open; instant = t; count = n; words = words } ≡ shows F file s n
unfolding shows
answer-shows F file s n b t words h e f = rw (h, e, f) refl

-- what a continuing tells
module _ (F : Format) (file : List ℕ) (c : Course) where
  pub told-refused : (r : Refusal) → c.check ≡ Err r → told F file c ≡ refused_answer r
  unfolding running
  told-refused r e = rw e refl

  pub told-shows : c.check ≡ Accepted → told F file c ≡ shows F file c.state c.count
  unfolding running
  told-shows e = rw e refl

-- b is the state that a beginning on s leaves
module _ (file words : List ℕ) (n : ℕ) (s b : List ℕ) (begun : b ≡ begin_state Full (net_of file) (word_at words) s) where
  wire : (level : Bool) → high (now_at Full b (finish_of file)) ≡ level → high (now_at Full (begin_state Full (net_of file) (word_at words) s) (finish_of file)) ≡ level
  wire level h = rw begun at h

  pub full-ended : high (now_at Full b (finish_of file)) ≡ true → (b ≡ full_state file words n s) × (1 ≡ full_count file words n s)
  unfolding full_state full_count
  full-ended h = (rw (wire true h) begun, rw (wire true h) refl)

  pub full-open : high (now_at Full b (finish_of file)) ≡ false → (t : List ℕ) (k : ℕ) → t ≡ (continued_with Full (net_of file) false (finish_of file) n b).state
      → k ≡ (continued_with Full (net_of file) false (finish_of file) n b).count → (t ≡ full_state file words n s) × (1 + k ≡ full_count file words n s)
  unfolding full_state full_count
  full-open h t k last count =
      let z : continued_with Full (net_of file) false (finish_of file) n b ≡ continued Full (net_of file) (finish_of file) n (begin_state Full (net_of file) (word_at words) s) =
      with_none Full (net_of file) (finish_of file) n b ∙ ap (continued Full (net_of file) (finish_of file) n) begun in (
        rw (wire false h) (last ∙ ap (λ (c : Course). c.state) z),
        rw (wire false h) (ap (λ (m : ℕ). 1 + m) (count ∙ ap (λ (c : Course). c.count) z)),
      )
