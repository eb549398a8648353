-- A condition at the end of a delay: a pulse enters the delay at a and leaves it at a + d, where the condition is read w times. Meanwhile the words
-- stay, since the part clocks nothing before and no clock falls while it is read. Assumes nothing.
use Rattle.std.specs.Prelude.{ℕ, suc, ◌+◌, ◌≤◌, ◌<◌, ◌≡◌, true, false}
use Rattle.std.proofs.Common.{◌∙◌, ap, arith}
use Rattle.model.specs.Word.{is_zero}
use Rattle.model.specs.Program.{Expr, reads}
use Rattle.model.specs.Rules.{Store, owner, eval}
use Rattle.laws.specs.Refusals.Laws.{by_le}
use Rattle.laws.specs.Program.Fit.{FormedExpr}
use Rattle.laws.specs.Rules.Uses.{eval-same}
use Rattle.model.specs.Program.{gap}
use Rattle.theory.specs.Control.Signal.{Quiet}
use Rattle.theory.specs.Control.Pulses.{Firm}
use Rattle.theory.specs.Control.Wiring.{Gives}
use Rattle.theory.specs.Control.World.{World}
use Rattle.theory.specs.Control.Memories.{Same, stays}
use Rattle.theory.specs.Control.Bodies.{Owned, within, alone, Settled, pause, pause-words}
use Rattle.theory.specs.Control.Runs.{Words, Free, free-later}

-- what the part does from a on: up to c its own follows it, and c is not before the delay's end
pub record Waits (W : World) (U : Owned) (g : Gives) (d : ℕ) (σ : Store) (a c j : ℕ) : Type 0 where
  pub room : a + d ≤ c
  pub last : c < j
  pub free : Free W U g σ a c j
  -- it clocks nothing up to there, and calls nothing up to a gap after it
  pub low : (x : ℕ) → Quiet (g.clk x) a (a + d)
  pub uncalled : (q t : ℕ) → a + W.w ≤ t → t < a + d + gap W.w → t < j → g.calls q t ≡ false

-- while the condition is read no clock falls, as long as the words have stayed
abbrev pub Firmed : World → Owned → Gives → ℕ → ℕ → ℕ → Type 0
Firmed W U g d a c = (k : ℕ) → a + d ≤ k → k ≤ c → k ≤ a + d + W.w → Same W U.vars (a + d) k → (x : ℕ) → Firm (g.clk x) (a + d) (suc k)

module _ {W : World} {U : Owned} {g : Gives} {d : ℕ} {σ : Store} {a c j : ℕ} (R : Waits W U g d σ a c j) where
  waited-settled : Settled W U.procs (a + d) j
  waited-settled = pause W U g a (a + d) j (omega arith) R.free.settled (λ t l k k'. R.free.silent t l (omega arith) k') R.uncalled

  waited-words : (v : ℕ) → a ≤ v → v ≤ a + d → Words W U σ v
  waited-words v o o' x i =
      pause-words W U g a v j (omega arith) R.free.settled (λ t l k. R.free.silent t l (omega arith) (omega arith))
      (λ q t l k. R.uncalled q t l (omega arith) (omega arith)) o (within W U g a c a v (omega arith) (omega arith) R.free.follow)
      (λ x t l k. R.low x t l (omega arith)) x i
      ∙ R.free.words x i

  -- what is left to the part there
  pub waited : Free W U g σ (a + d) c j
  waited = free-later (a + d) σ (omega arith) waited-settled (waited-words (a + d) (omega arith) (omega arith)) R.free

  module _ (firm : Firmed W U g d a c) where
    early : (b : ℕ) → a + d ≤ b → b ≤ c → b ≤ a + d + W.w → Same W U.vars (a + d) (suc b)
    early b o o₁ o₂ =
        stays W U.vars g (a + d) b o
        (alone W U g (a + d) b (within W U g (a + d) c (a + d) b (omega arith) o₁ waited.follow)
        (λ q v x t l k. waited.settled.low q v x t l (omega arith) (omega arith)))
        (λ k l l' q x i. firm k l (omega arith) (omega arith) q x)

    held : (x : ℕ) → U.vars (owner x) → (t : ℕ) → a + d ≤ t → t < a + d + W.w → t < j → W.m t x ≡ W.m (a + d) x
    held x i t l k k' =
        by_le t c (λ q. early t l q (omega arith) x i t l (omega arith))
        (λ q. R.free.hold x i t (omega arith) (omega arith) k' ∙ early c (omega arith) (omega arith) (omega arith) x i c (omega arith) (omega arith))

    module _ (e : Expr) (formed : FormedExpr e) (reading : (x : ℕ) → reads e x ≡ true → U.vars x) where
      -- the words that are read, from the pulse's entering on
      pub test_words : (x : ℕ) → reads e (owner x) ≡ true → (v : ℕ) → a ≤ v → v < a + d + W.w → v < j → W.m v x ≡ σ x
      test_words x r v l k k' =
          by_le (a + d) v (λ q. held x (reading (owner x) r) v q k k' ∙ waited.words x (reading (owner x) r))
          (λ q. waited-words v l (omega arith) x (reading (owner x) r))

      pub test-is : (t : ℕ) → a + d ≤ t → t < a + d + W.w → t < j → is_zero (eval e (W.m t)) ≡ is_zero (eval e σ)
      test-is t l k k' = ap is_zero (eval-same e formed (W.m t) σ (λ x r. test_words x r t (omega arith) k k'))
