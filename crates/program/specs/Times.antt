-- The time of an expression and the least delay of a statement, by a node's kind; how long an expression of a program can take.
-- Assumes nothing: laws of model/Program, for any operator times.
use Rattle.std.specs.Prelude.{◌≡◌, refl, Bool, true, false, ◌||◌, get_or, drop, T, ltb, eqb}
use Rattle.std.proofs.Math.Path.{sym, ap, ap₂}
use Rattle.std.proofs.Common.{◌∙◌, get_or-drop}
use mathlib.Core.List.{List, [], ◌∷◌}
use Prim.Native.Nat.{ℕ, zero, suc, ◌+◌, ◌-◌, ◌*◌, ◌≤◌, ◌<◌, max}
use native.Mathlib.Omega.{arith}
use Rattle.std.proofs.Math.Decide.{dec_lt}
use Rattle.std.proofs.Math.ListN.{length}
use borrow.Author.Tests.{lt-ltb, le-ltb, ne_eqb, eqb-true, eqb-false}
use Rattle.model.specs.declared.Node.{Node}
use Rattle.model.specs.Word.{pick}
use Rattle.model.specs.Program.{Expr, while, repeat, Tree, node_at, node_count, nodes_at, none, as_expr, as_stmt, expr_of, stmt_of, tree_of, arity, grow, forest, trees_at, expr_at, stmt_at, time, gap, least, node}
use Rattle.model.specs.ProgramChecks.{delay_fault}
use Rattle.laws.specs.Refusals.Laws.{by_bool, or-false}
use Rattle.laws.specs.Program.Trees.{length-nodes, expr-none, by-pick, other-kind, tree_at, tree_is, tree-of, no-expr, no-stmt, at-const, at-var, at-compl, at-elem, at_op, at_ok, at-assign-elem, at-loop, at_exit, at_call}

-- Times --------------------------------------------------------------------------------------------------------------------------------

-- a constant, of time o, stands for what is no expression
pub time-none : (τ : ℕ → ℕ) (s : List ℕ) (i o : ℕ) → o ≡ τ 1 → node_count s ≤ i → o ≡ time τ (expr_at s i)
unfolding time
time-none τ s i o z h = z ∙ sym (ap (time τ) (expr-none s i h))

-- of node i, which is a, with operator time o
module _ (τ : ℕ → ℕ) (s : List ℕ) (i : ℕ) (h : i < node_count s) (a : Node) (ea : a ≡ node_at s i) where
  pub time-stmt : (o : ℕ) → o ≡ τ 1 → 16 ≤ a.kind → o ≡ time τ (expr_at s i)
  unfolding time
  time-stmt o z l = z ∙ sym (ap (time τ) (no-expr s i h a ea l))

  module _ (o : ℕ) (eo : o ≡ τ a.kind) where
    pub time-const : a.kind ≡ 1 → o ≡ time τ (expr_at s i)
    unfolding time
    time-const e = eo ∙ ap τ e ∙ sym (ap (time τ) (at-const s i h a ea e))

    pub time-var : a.kind ≡ 2 → o ≡ time τ (expr_at s i)
    unfolding time
    time-var e = eo ∙ ap τ e ∙ sym (ap (time τ) (at-var s i h a ea e))

    module _ (t : ℕ) (et : t ≡ time τ (expr_at s (i + 1))) where
      pub time-compl : a.kind ≡ 3 → o + t ≡ time τ (expr_at s i)
      unfolding time
      time-compl e = ap₂ ◌+◌ (eo ∙ ap τ e) et ∙ sym (ap (time τ) (at-compl s i h a ea e))

      pub time-elem : a.kind ≡ 10 → o + t ≡ time τ (expr_at s i)
      unfolding time
      time-elem e = ap₂ ◌+◌ (eo ∙ ap τ e) et ∙ sym (ap (time τ) (at-elem s i h a ea e))

      pub time-op : a.kind < 16 → (a.kind ≡ 1 → ⊥) → (a.kind ≡ 2 → ⊥) → (a.kind ≡ 3 → ⊥) → (a.kind ≡ 10 → ⊥) → (j : ℕ) → trees_at s j ≡ drop 1 (trees_at s (i + 1))
          → (u : ℕ) → u ≡ time τ (expr_at s j) → o + max t u ≡ time τ (expr_at s i)
      unfolding time
      time-op l p q r w j ej u eu = ap₂ ◌+◌ eo (ap₂ max et eu) ∙ sym (ap (time τ) (at_op s i h a ea j ej l p q r w))

-- Least delays -------------------------------------------------------------------------------------------------------------------------

-- while and repeat have the same
turns-least : (τ : ℕ → ℕ) (w : ℕ) (a : Node) (x y z : Tree) → 22 ≤ a.kind → (a.kind ≡ 24 → ⊥) → (a.kind ≡ 25 → ⊥) → (a.kind ≡ 26 → ⊥) → (a.kind ≡ 27 → ⊥) → least τ w (as_stmt (tree_of a x y z)) ≡ max (gap w) (time τ (as_expr x))
unfolding tree_of stmt_of as_stmt least
turns-least τ w a x y z l n p q c = rw (le-ltb _ _ high, no 16 tt, no 17 tt, no 18 tt, no 19 tt, no 20 tt, no 21 tt, ne_eqb _ _ n, ne_eqb _ _ p, ne_eqb _ _ q, ne_eqb _ _ c) (either (eqb a.kind 22))
  where
    high : 16 ≤ a.kind
    high = omega arith

    no : (q : ℕ) → T (ltb q 22) → eqb a.kind q ≡ false
    no q = other-kind a.kind 22 q l

    either : (b : Bool) → least τ w (pick b (while a.delay (as_expr x) (as_stmt y)) (repeat a.delay (as_expr x) (as_stmt y))) ≡ max (gap w) (time τ (as_expr x))
    either true = refl
    either false = refl

turning : {k : ℕ} → 16 < k → (k ≡ 17 → ⊥) → (k ≡ 18 → ⊥) → (k ≡ 19 → ⊥) → (k ≡ 20 → ⊥) → (k ≡ 21 → ⊥) → 22 ≤ k
turning l n o p q r = omega arith

module _ (τ : ℕ → ℕ) (w : ℕ) (s : List ℕ) (i : ℕ) (h : i < node_count s) (a : Node) (ea : a ≡ node_at s i) where
  of-kind : (q : ℕ) → a.kind ≡ q
      → least τ w (stmt_at s i)
      ≡ least τ w (as_stmt (tree_of (node q a.delay a.n) (tree_at s (i + 1)) (get_or (trees_at s (i + 1)) 1 none) (get_or (trees_at s (i + 1)) 2 none)))
  unfolding stmt_at
  of-kind q e = ap (λ (t : Tree). least τ w (as_stmt t)) (tree-of s i h a ea q e)

  pub least-low : a.kind ≤ 16 → 0 ≡ least τ w (stmt_at s i)
  unfolding least
  least-low l = go (dec_lt a.kind 16)
    where
      go : Dec (a.kind < 16) → 0 ≡ least τ w (stmt_at s i)
      go (yes m) = sym (ap (least τ w) (no-stmt s i h a ea m))
      go (no n) = let e : a.kind ≡ 16 = omega arith in sym (ap (least τ w) (at_ok s i h a ea e))

  pub least-tick : a.kind ≡ 17 → 1 ≡ least τ w (stmt_at s i)
  unfolding tree_of stmt_of as_stmt least
  least-tick e = sym (of-kind 17 e)

  pub least-seq : a.kind ≡ 19 → 0 ≡ least τ w (stmt_at s i)
  unfolding tree_of stmt_of as_stmt least
  least-seq e = sym (of-kind 19 e)

  pub least-par : a.kind ≡ 20 → 0 ≡ least τ w (stmt_at s i)
  unfolding tree_of stmt_of as_stmt least
  least-par e = sym (of-kind 20 e)

  pub least-again : (eqb a.kind 25 || eqb a.kind 27) ≡ true → gap w ≡ least τ w (stmt_at s i)
  unfolding least
  least-again t =
      by_bool (eqb a.kind 25) (λ e. sym (ap (least τ w) (at-loop s i h a ea (eqb-true _ _ e))))
      (λ e. sym (ap (least τ w) (at_call s i h a ea (eqb-true _ _ (rw e at t)))))

  pub least-exit : a.kind ≡ 26 → 0 ≡ least τ w (stmt_at s i)
  unfolding least
  least-exit e = sym (ap (least τ w) (at_exit s i h a ea e))

  module _ (t : ℕ) (et : t ≡ time τ (expr_at s (i + 1))) where
    pub least-if : a.kind ≡ 21 → t ≡ least τ w (stmt_at s i)
    unfolding tree_of stmt_of as_stmt least expr_at
    least-if e = et ∙ sym (of-kind 21 e)

    pub least-assign : a.kind ≡ 18 → max 1 t ≡ least τ w (stmt_at s i)
    unfolding tree_of stmt_of as_stmt least expr_at
    least-assign e = ap (max 1) et ∙ sym (of-kind 18 e)

    -- an element assignment's second child is the tree of node j
    pub least-elem : a.kind ≡ 24 → (j : ℕ) → trees_at s j ≡ drop 1 (trees_at s (i + 1)) → (u : ℕ) → u ≡ time τ (expr_at s j)
        → max 1 (max t u) ≡ least τ w (stmt_at s i)
    unfolding least
    least-elem e j ej u eu = ap (max 1) (ap₂ max et eu) ∙ sym (ap (least τ w) (at-assign-elem s i h a ea j ej e))

    -- while and repeat
    pub least_other : 16 < a.kind → (a.kind ≡ 17 → ⊥) → (a.kind ≡ 19 → ⊥) → (a.kind ≡ 20 → ⊥)
        → (eqb a.kind 25 || eqb a.kind 27) ≡ false → (a.kind ≡ 26 → ⊥) → (a.kind ≡ 21 → ⊥) → (a.kind ≡ 24 → ⊥) → (a.kind ≡ 18 → ⊥)
        → max (gap w) t ≡ least τ w (stmt_at s i)
    unfolding stmt_at expr_at
    least_other l n p q u v r m o =
        let k : 22 ≤ a.kind = turning l n o p q r in
        let c = or-false (eqb a.kind 25) (eqb a.kind 27) u in
        ap (max (gap w)) et
        ∙ sym (ap (λ (t : Tree). least τ w (as_stmt t)) (tree_is s i h a ea) ∙ turns-least τ w a _ _ _ k m (eqb-false _ _ c.0) v (eqb-false _ _ c.1))

-- a delay, and the least that it may be
module _ (τ : ℕ → ℕ) (w : ℕ) (s : List ℕ) (i : ℕ) (a : Node) (ea : a ≡ node_at s i) (l : ℕ) (el : l ≡ least τ w (stmt_at s i)) where
  pub slow-at : a.delay < l → delay_fault τ w s i ≡ 7
  unfolding delay_fault
  slow-at m = rw (← ea, ← el, lt-ltb _ _ m)

  pub not-slow-at : l ≤ a.delay → delay_fault τ w s i ≡ 0
  unfolding delay_fault
  not-slow-at m = rw (← ea, ← el, le-ltb _ _ m)

-- Bounds -------------------------------------------------------------------------------------------------------------------------------

-- operator times of at most 255 each
module _ (τ : ℕ → ℕ) (low : (k : ℕ) → τ k ≤ 255) where
  tree-time : (a : Node) (x y z : Tree) (m : ℕ) → time τ (as_expr x) ≤ m → time τ (as_expr y) ≤ m → time τ (as_expr (tree_of a x y z)) ≤ 255 + m
  unfolding tree_of expr_of as_expr time
  tree-time a x y z m p q =
      let l1 = low 1 in
      let l2 = low 2 in
      let l3 = low 3 in
      let l10 = low 10 in
      let lk = low a.kind in
      by-pick (λ (t : Tree). time τ (as_expr t) ≤ 255 + m) (ltb a.kind 16) _ _
      (by-pick (λ (e : Expr). time τ e ≤ 255 + m) (eqb a.kind 1) _ _ (omega arith)
      (by-pick (λ (e : Expr). time τ e ≤ 255 + m) (eqb a.kind 2) _ _ (omega arith)
      (by-pick (λ (e : Expr). time τ e ≤ 255 + m) (eqb a.kind 3) _ _ (omega arith)
      (by-pick (λ (e : Expr). time τ e ≤ 255 + m) (eqb a.kind 10) _ _ (omega arith) (omega arith)))))
      (omega arith)

  forest-time : (ns : List Node) (k : ℕ) → time τ (as_expr (get_or (forest ns) k none)) ≤ 255 * length ns + 255
  unfolding forest grow as_expr time
  forest-time [] zero = omega (arith, low 1)
  forest-time [] (suc k) = omega (arith, low 1)
  forest-time (a ∷ ns) zero =
      let F = forest ns in
      omega (arith, tree-time a (get_or F 0 none) (get_or F 1 none) (get_or F 2 none) (255 * length ns + 255) (forest-time ns 0) (forest-time ns 1))
  forest-time (a ∷ ns) (suc k) =
      rw (get_or-drop (arity a.kind) (forest ns) k none) (omega (arith, forest-time ns (arity a.kind + k)))

  time-low : (s : List ℕ) (i : ℕ) → time τ (expr_at s i) ≤ 255 * (node_count s - i) + 255
  unfolding expr_at trees_at
  time-low s i = omega (arith, forest-time (nodes_at s i) 0, length-nodes s i (node_count s - i))

  -- with an operator's time it fits sixteen bits
  pub time-fits : (s : List ℕ) → length s ≤ 800 → (i : ℕ) → 1 ≤ i → (o t k : ℕ) → o ≡ τ k → t ≡ time τ (expr_at s i) → o + t < 65536
  time-fits s short i l o t k eo et = omega (arith, time-low s i, low k)
