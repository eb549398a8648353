-- Where the arrays' cells begin, as a scan of the cells from the first one on finds it: behind the sixteenth memory.
-- Assumes nothing.
use Rattle.std.specs.Prelude.{Bool, true, false, List, [], ◌∷◌, ℕ, zero, suc, ◌+◌, ◌<◌, ◌≤◌, eqb, length, take}
use Rattle.std.proofs.Common.{arith}
use Rattle.model.specs.declared.Cell.{Cell}
use Rattle.model.specs.Word.{pick, bit}
use Rattle.model.specs.Circuit.{memories, past_memories}

pub past_end : (net : List Cell) (n : ℕ) → past_memories net n ≤ length net
unfolding past_memories
past_end [] n = omega arith
past_end (c ∷ cs) zero = omega arith
past_end (c ∷ cs) (suc n) = omega (arith, past_end cs (pick (eqb c.kind 40) n (suc n)))

-- cell k stands behind n memories exactly if so many stand below it
pub past-from : (net : List Cell) (n k : ℕ) → k < length net → n ≤ memories (take k net) → past_memories net n ≤ k
unfolding past_memories memories bit
past-from [] n k l h = absurd (omega arith)
past-from (c ∷ cs) zero k l h = omega arith
past-from (c ∷ cs) (suc n) zero l h = absurd (omega arith)
past-from (c ∷ cs) (suc n) (suc k) l h = go (eqb c.kind 40) h (λ m. past-from cs m k (omega arith))
  where
    go : (b : Bool) → suc n ≤ bit b + memories (take k cs) → ((m : ℕ) → m ≤ memories (take k cs) → past_memories cs m ≤ k)
        → suc (past_memories cs (pick b n (suc n))) ≤ suc k
    go true x f = omega (arith, f n (omega arith))
    go false x f = omega (arith, f (suc n) (omega arith))

pub past-until : (net : List Cell) (n k : ℕ) → k < length net → past_memories net n ≤ k → n ≤ memories (take k net)
unfolding past_memories memories bit
past-until [] n k l h = absurd (omega arith)
past-until (c ∷ cs) zero k l h = omega arith
past-until (c ∷ cs) (suc n) zero l h = absurd (omega arith)
past-until (c ∷ cs) (suc n) (suc k) l h = go (eqb c.kind 40) h (λ m. past-until cs m k (omega arith))
  where
    go : (b : Bool) → suc (past_memories cs (pick b n (suc n))) ≤ suc k → ((m : ℕ) → past_memories cs m ≤ k → m ≤ memories (take k cs))
        → suc n ≤ bit b + memories (take k cs)
    go true x f = omega (arith, f n (omega arith))
    go false x f = omega (arith, f (suc n) (omega arith))
