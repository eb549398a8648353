-- A block's running sum: what it is after each cell, and that the check made from it is the one that the whole block's words ask for.
-- Assumes nothing.
use Rattle.std.specs.Prelude.{◌≡◌, refl, List, [], ◌∷◌, ◌++◌, ℕ, zero, suc, ◌+◌, ◌-◌, ◌*◌, ◌%◌, ◌<◌, length, replicate}
use Rattle.std.proofs.Common.{◌∙◌}
use native.Mathlib.Omega.{arith}
use Rattle.model.specs.declared.Cell.{Cell}
use Rattle.model.specs.Word.{get16, bytes16}
use Rattle.model.specs.NetlistFile.{cell_bytes, word_sum, head_bytes, rest_bytes, sum_with, sum_after, running_sum, check_for, block, block_with}
use Rattle.model.specs.FilePromises.{RunningSum}

-- Words of a block ---------------------------------------------------------------------------------------------------------------------

cells-sum : (cs : List Cell) (t : List ℕ) → word_sum (cell_bytes cs ++ t) ≡ word_sum (cell_bytes cs) + word_sum t
unfolding word_sum cell_bytes bytes16
cells-sum [] t = omega arith
cells-sum (c ∷ cs) t = omega (arith, cells-sum cs t)

zeros-sum : (n : ℕ) → word_sum (replicate n 0) ≡ 0
unfolding word_sum
zeros-sum zero = refl
zeros-sum (suc zero) = refl
zeros-sum (suc (suc n)) = omega (arith, zeros-sum n)

head-sum : (b n f : ℕ) (t : List ℕ) → word_sum (head_bytes b n f ++ t) ≡ b + n + f + word_sum t
unfolding word_sum bytes16
head-sum b n f t = omega arith

-- unused bytes add nothing
rest_sum : (cs : List Cell) → word_sum (rest_bytes cs) ≡ word_sum (cell_bytes cs)
rest_sum cs = omega (arith, cells-sum cs (replicate (504 - 6 * length cs) 0), zeros-sum (504 - 6 * length cs))

-- Sums as cells are put in -------------------------------------------------------------------------------------------------------------

sum-after : (sum : ℕ) (cs : List Cell) → sum < 65536 → sum_after sum cs ≡ (sum + word_sum (cell_bytes cs)) % 65536
unfolding sum_after sum_with word_sum cell_bytes bytes16
sum-after sum [] l = omega arith
sum-after sum (c ∷ cs) l = omega (arith, sum-after (sum_with sum c) cs (omega arith))

one_more : (sum : ℕ) (cs : List Cell) (c : Cell) → sum_after sum (cs ++ (c ∷ [])) ≡ sum_with (sum_after sum cs) c
unfolding sum_after
one_more sum [] c = refl
one_more sum (x ∷ cs) c = one_more (sum_with sum x) cs c

module _ (b n f : ℕ) where
  is_sum : (cs : List Cell) → running_sum b n f cs ≡ word_sum (head_bytes b n f ++ cell_bytes cs) % 65536
  unfolding running_sum
  is_sum cs = sum-after _ cs (omega arith) ∙ omega (arith, head-sum b n f (cell_bytes cs))

  of-all-words : (cs : List Cell) → running_sum b n f cs ≡ word_sum (head_bytes b n f ++ rest_bytes cs) % 65536
  of-all-words cs = is_sum cs ∙ omega (arith, head-sum b n f (cell_bytes cs), head-sum b n f (rest_bytes cs), rest_sum cs)

  check-at : (cs : List Cell) → get16 (block b n f cs) 6 ≡ check_for (running_sum b n f cs)
  unfolding block bytes16 get16
  check-at cs = omega arith

  same_bytes : (cs : List Cell) → block b n f cs ≡ block_with b n f (rest_bytes cs)
  unfolding block
  same_bytes cs = let e : check_for (running_sum b n f cs) ≡ check_for (word_sum (head_bytes b n f ++ rest_bytes cs)) = omega (arith, of-all-words cs) in rw e

  pub running-sum : RunningSum b n f
  unfolding running_sum
  running-sum = record { after = one_more _; sum = is_sum; check = check-at; same = same_bytes }
