-- What is known of a statement that is ready to be run.
-- Assumes nothing.
use mathlib.Core.Path.{◌≡◌, subst}
use mathlib.Core.List.{List}
use Prim.Native.Nat.{ℕ, ◌≤◌, ◌<◌}
use Rattle.model.specs.Program.{Expr, Stmt, assign, assign_elem, while, repeat, loop}
use Rattle.rules.specs.Ran.{Statable, Ready}

module _ {s ends : List ℕ} where
  pub assign-low : {d x : ℕ} {e : Expr} → Statable s ends (assign d x e) → x < 16
  assign-low R = R.formed.1

  pub array-low : {d k : ℕ} {i e : Expr} → Statable s ends (assign_elem d k i e) → k < 4
  array-low R = R.formed.1

module _ {s ends : List ℕ} {n : ℕ} where
  -- the same statement by another name
  pub ready-as : {P Q : Stmt} → P ≡ Q → Ready s ends n P → Ready s ends n Q
  ready-as e R = subst (Ready s ends n) e R

  pub while-delay : {d : ℕ} {e : Expr} {P : Stmt} → Ready s ends n (while d e P) → 1 ≤ d
  while-delay R = R.fit.timed.0

  pub repeat-delay : {d : ℕ} {e : Expr} {P : Stmt} → Ready s ends n (repeat d e P) → 1 ≤ d
  repeat-delay R = R.fit.timed.0

  pub loop-delay : {d : ℕ} {P : Stmt} → Ready s ends n (loop d P) → 1 ≤ d
  loop-delay R = R.fit.timed.0
