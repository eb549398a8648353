-- `moving::new_number` meets its contract. Assumes nothing.
use native.Mathlib.Omega.{arith}
use Rattle.joiner.proofs.Lows.{arm_start, arm-fixed, arm-delay, arm-memory, arm_walk}
use Rattle.joiner.proofs.moving.new_number.Goals as goal

pub returns-then-j-gt16384 : goal.returns-then-j-gt16384
returns-then-j-gt16384 c = λ low. absurd (omega arith)

pub returns-then-j-eq0 : goal.returns-then-j-eq0
returns-then-j-eq0 c = λ low. arm_start _ _ _ _ _ _ (omega arith)

pub returns-then-j-lt3 : goal.returns-then-j-lt3
returns-then-j-lt3 c = λ low. arm-fixed _ _ _ _ _ _ (λ e. omega arith) (omega arith)

pub returns-then-j-at : goal.returns-then-j-at
returns-then-j-at c = λ low. arm-delay _ _ _ _ _ _ (omega arith) (omega arith)

pub returns-then-j-at-2 : goal.returns-then-j-at-2
returns-then-j-at-2 c = λ low. arm-memory _ _ _ _ _ _ (omega arith) (omega arith) (omega arith)

pub returns : goal.returns
returns c = λ low. arm_walk _ _ _ _ _ _ (omega arith) (omega arith)
