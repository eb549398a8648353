-- The nodes from a node on, and the tree of a node by its kind.
-- Assumes nothing: laws of model/Program, for any bytes.
use Rattle.std.specs.Prelude.{◌≡◌, Bool, true, false, length, T, ltb, eqb}
use Rattle.std.proofs.Math.Path.{refl, ap, subst}
use Rattle.std.proofs.Common.{sym, ◌∙◌, zero-add, add-zero, get_or-drop, ltb→lt}
use mathlib.Core.List.{List, [], ◌∷◌, ◌++◌}
use Prim.Native.Nat.{ℕ, zero, suc, ◌+◌, ◌-◌, ◌≤◌, ◌<◌}
use native.Mathlib.Omega.{arith}
use Rattle.std.proofs.Math.ListN.{get_or, drop}
use borrow.Author.Tests.{lt-ltb, le-ltb, ne_eqb}
use Rattle.model.specs.declared.Node.{Node}
use Rattle.model.specs.Word.{pick}
use Rattle.model.specs.Program.{const, var, compl, op, elem, ok, tick, assign, assign_elem, seq, par, ite, while, repeat, loop, exit, call, Tree, node, node_at, node_count, nodes_from, none, as_expr, as_stmt, expr_of, stmt_of, tree_of, arity, grow, forest, trees_at, expr_at, stmt_at}

-- Nodes --------------------------------------------------------------------------------------------------------------------------------

module _ (s : List ℕ) (i to : ℕ) where
  pub nodes-step : i < to → nodes_from s i (to - i) ≡ node_at s i ∷ nodes_from s (i + 1) (to - (i + 1))
  unfolding nodes_from
  nodes-step h =
      let e : to - i ≡ suc (to - (i + 1)) = omega arith in
      ap (nodes_from s i) e

  pub nodes-none : to ≤ i → nodes_from s i (to - i) ≡ []
  unfolding nodes_from
  nodes-none h =
      let e : to - i ≡ 0 = omega arith in
      ap (nodes_from s i) e

pub length-nodes : (s : List ℕ) (i n : ℕ) → length (nodes_from s i n) ≡ n
unfolding nodes_from
length-nodes s i zero = refl
length-nodes s i (suc n) = ap suc (length-nodes s (i + 1) n)

nodes-append : (s : List ℕ) (m n i : ℕ) → nodes_from s i (m + n) ≡ nodes_from s i m ++ nodes_from s (i + m) n
unfolding nodes_from
nodes-append s zero n i = rw (zero-add, add-zero)
nodes-append s (suc m) n i =
    let e : suc m + n ≡ suc (m + n) = omega arith in
    let f : i + 1 + m ≡ i + suc m = omega arith in
    ap (nodes_from s i) e ∙ ap (λ (l : List Node). node_at s i ∷ l) (nodes-append s m n (i + 1) ∙ ap (λ (j : ℕ). nodes_from s (i + 1) m ++ nodes_from s j n) f)

pub nodes-split : (s : List ℕ) (i j to : ℕ) → i ≤ j → j ≤ to → nodes_from s i (to - i) ≡ nodes_from s i (j - i) ++ nodes_from s j (to - j)
nodes-split s i j to l m =
    let e : to - i ≡ (j - i) + (to - j) = omega arith in
    let f : i + (j - i) ≡ j = omega arith in
    ap (nodes_from s i) e ∙ nodes-append s (j - i) (to - j) i ∙ ap (λ (k : ℕ). nodes_from s i (j - i) ++ nodes_from s k (to - j)) f

-- Trees --------------------------------------------------------------------------------------------------------------------------------

pub trees-none : (s : List ℕ) (i : ℕ) → node_count s ≤ i → trees_at s i ≡ []
unfolding trees_at forest
trees-none s i h = ap forest (nodes-none s i (node_count s) h)

pub expr-none : (s : List ℕ) (i : ℕ) → node_count s ≤ i → expr_at s i ≡ const 0
unfolding expr_at as_expr
expr-none s i h = ap (λ (ts : List Tree). as_expr (get_or ts 0 none)) (trees-none s i h)

pub stmt-none : (s : List ℕ) (i : ℕ) → node_count s ≤ i → stmt_at s i ≡ ok
unfolding stmt_at as_stmt
stmt-none s i h = ap (λ (ts : List Tree). as_stmt (get_or ts 0 none)) (trees-none s i h)

abbrev pub tree_at : List ℕ → ℕ → Tree
tree_at s i = get_or (trees_at s i) 0 none

-- what holds of both sides of a choice holds of the choice
pub by-pick : {A : Type 0} (R : A → Type 0) (b : Bool) (u v : A) → R u → R v → R (pick b u v)
by-pick R true u v p q = p
by-pick R false u v p q = q

-- R holds of each of some trees
abbrev pub Each : (Tree → Type 0) → List Tree → Type 0
Each R [] = Unit {0}
Each R (t ∷ ts) = R t × Each R ts

module _ (R : Tree → Type 0) (missing : R none) where
  pub each_at : (ts : List Tree) (k : ℕ) → Each R ts → R (get_or ts k none)
  each_at [] zero h = missing
  each_at [] (suc k) h = missing
  each_at (t ∷ ts) zero h = h.0
  each_at (t ∷ ts) (suc k) h = each_at ts k h.1

  each-drop : (ts : List Tree) (k : ℕ) → Each R ts → Each R (drop k ts)
  each-drop [] zero h = tt
  each-drop [] (suc k) h = tt
  each-drop (t ∷ ts) zero h = h
  each-drop (t ∷ ts) (suc k) h = each-drop ts k h.1

-- a kind that is at least m is none below m
pub other-kind : (k m q : ℕ) → m ≤ k → T (ltb q m) → eqb k q ≡ false
other-kind k m q l t = ne_eqb k q (λ e. omega (arith, ltb→lt q m t))

-- the tree of node i, which is a
module _ (s : List ℕ) (i : ℕ) (h : i < node_count s) (a : Node) (ea : a ≡ node_at s i) where
  pub trees-step : trees_at s i ≡ grow a (trees_at s (i + 1))
  unfolding trees_at forest
  trees-step = rw (nodes-step s i (node_count s) h, ← ea) refl

  pub trees-cons : trees_at s i ≡ tree_at s i ∷ drop 1 (trees_at s i)
  unfolding grow
  trees-cons = subst (λ (ts : List Tree). ts ≡ get_or ts 0 none ∷ drop 1 ts) (sym trees-step) refl

  pub tree_is : tree_at s i ≡ tree_of a (tree_at s (i + 1)) (get_or (trees_at s (i + 1)) 1 none) (get_or (trees_at s (i + 1)) 2 none)
  unfolding grow
  tree_is = ap (λ (ts : List Tree). get_or ts 0 none) trees-step

  -- of a kind that is known
  pub tree-of : (q : ℕ) → a.kind ≡ q
      → tree_at s i ≡ tree_of (node q a.delay a.n) (tree_at s (i + 1)) (get_or (trees_at s (i + 1)) 1 none) (get_or (trees_at s (i + 1)) 2 none)
  tree-of q e =
      tree_is
      ∙ ap (λ (q : ℕ). tree_of (node q a.delay a.n) (tree_at s (i + 1)) (get_or (trees_at s (i + 1)) 1 none) (get_or (trees_at s (i + 1)) 2 none)) e

  pub at-const : a.kind ≡ 1 → expr_at s i ≡ const a.n
  unfolding expr_at as_expr tree_of expr_of
  at-const e = ap as_expr (tree-of 1 e)

  pub at-var : a.kind ≡ 2 → expr_at s i ≡ var a.n
  unfolding expr_at as_expr tree_of expr_of
  at-var e = ap as_expr (tree-of 2 e)

  pub at-compl : a.kind ≡ 3 → expr_at s i ≡ compl (expr_at s (i + 1))
  unfolding expr_at as_expr tree_of expr_of
  at-compl e = ap as_expr (tree-of 3 e)

  pub at-elem : a.kind ≡ 10 → expr_at s i ≡ elem a.n (expr_at s (i + 1))
  unfolding expr_at as_expr tree_of expr_of
  at-elem e = ap as_expr (tree-of 10 e)

  pub no-expr : 16 ≤ a.kind → expr_at s i ≡ const 0
  unfolding expr_at as_expr tree_of
  no-expr l = ap as_expr tree_is ∙ rw (le-ltb _ _ l) refl

  pub no-stmt : a.kind < 16 → stmt_at s i ≡ ok
  unfolding stmt_at as_stmt tree_of
  no-stmt l = ap as_stmt tree_is ∙ rw (lt-ltb _ _ l) refl

  pub at_ok : a.kind ≡ 16 → stmt_at s i ≡ ok
  unfolding stmt_at as_stmt tree_of stmt_of
  at_ok e = ap as_stmt (tree-of 16 e)

  pub at_tick : a.kind ≡ 17 → stmt_at s i ≡ tick a.delay
  unfolding stmt_at as_stmt tree_of stmt_of
  at_tick e = ap as_stmt (tree-of 17 e)

  pub at-assign : a.kind ≡ 18 → stmt_at s i ≡ assign a.delay a.n (expr_at s (i + 1))
  unfolding stmt_at as_stmt tree_of stmt_of expr_at
  at-assign e = ap as_stmt (tree-of 18 e)

  pub at-loop : a.kind ≡ 25 → stmt_at s i ≡ loop a.delay (stmt_at s (i + 1))
  unfolding stmt_at as_stmt tree_of stmt_of
  at-loop e = ap as_stmt (tree-of 25 e)

  pub at_exit : a.kind ≡ 26 → stmt_at s i ≡ exit
  unfolding stmt_at as_stmt tree_of stmt_of
  at_exit e = ap as_stmt (tree-of 26 e)

  pub at_call : a.kind ≡ 27 → stmt_at s i ≡ call a.delay a.n
  unfolding stmt_at as_stmt tree_of stmt_of
  at_call e = ap as_stmt (tree-of 27 e)

  -- its second child is the tree of node j
  module _ (j : ℕ) (ej : trees_at s j ≡ drop 1 (trees_at s (i + 1))) where
    second_is : tree_at s j ≡ get_or (trees_at s (i + 1)) 1 none
    second_is = ap (λ (ts : List Tree). get_or ts 0 none) ej ∙ get_or-drop 1 (trees_at s (i + 1)) 0 none

    pub at_op : a.kind < 16 → (a.kind ≡ 1 → ⊥) → (a.kind ≡ 2 → ⊥) → (a.kind ≡ 3 → ⊥) → (a.kind ≡ 10 → ⊥) → expr_at s i ≡ op a.kind (expr_at s (i + 1)) (expr_at s j)
    unfolding expr_at as_expr tree_of expr_of
    at_op l p q r w = ap as_expr tree_is ∙ rw (lt-ltb _ _ l, ne_eqb _ _ p, ne_eqb _ _ q, ne_eqb _ _ r, ne_eqb _ _ w, second_is) refl

    pub at-assign-elem : a.kind ≡ 24 → stmt_at s i ≡ assign_elem a.delay a.n (expr_at s (i + 1)) (expr_at s j)
    unfolding stmt_at as_stmt tree_of stmt_of expr_at
    at-assign-elem e = ap as_stmt (tree-of 24 e) ∙ rw second_is refl

    pub at-seq : a.kind ≡ 19 → stmt_at s i ≡ seq (stmt_at s (i + 1)) (stmt_at s j)
    unfolding stmt_at as_stmt tree_of stmt_of
    at-seq e = ap as_stmt (tree-of 19 e) ∙ rw second_is refl

    pub at-par : a.kind ≡ 20 → stmt_at s i ≡ par (stmt_at s (i + 1)) (stmt_at s j)
    unfolding stmt_at as_stmt tree_of stmt_of
    at-par e = ap as_stmt (tree-of 20 e) ∙ rw second_is refl

    pub at-while : a.kind ≡ 22 → stmt_at s i ≡ while a.delay (expr_at s (i + 1)) (stmt_at s j)
    unfolding stmt_at as_stmt tree_of stmt_of expr_at
    at-while e = ap as_stmt (tree-of 22 e) ∙ rw second_is refl

    pub at-repeat : 23 ≤ a.kind → (a.kind ≡ 24 → ⊥) → (a.kind ≡ 25 → ⊥) → (a.kind ≡ 26 → ⊥) → (a.kind ≡ 27 → ⊥)
        → stmt_at s i ≡ repeat a.delay (expr_at s (i + 1)) (stmt_at s j)
    unfolding stmt_at as_stmt tree_of stmt_of expr_at
    at-repeat l p q r u =
        ap as_stmt tree_is
        ∙ rw (
          le-ltb _ _ high,
          no 16 tt,
          no 17 tt,
          no 18 tt,
          no 19 tt,
          no 20 tt,
          no 21 tt,
          no 22 tt,
          ne_eqb _ _ p,
          ne_eqb _ _ q,
          ne_eqb _ _ r,
          ne_eqb _ _ u,
          second_is,
        ) refl
      where
        high : 16 ≤ a.kind
        high = omega arith

        no : (q : ℕ) → T (ltb q 23) → eqb a.kind q ≡ false
        no q = other-kind a.kind 23 q l

    -- its third child is the tree of node k
    module _ (k : ℕ) (ek : trees_at s k ≡ drop 1 (trees_at s j)) where
      third-is : tree_at s k ≡ get_or (trees_at s (i + 1)) 2 none
      third-is =
          ap (λ (ts : List Tree). get_or ts 0 none) ek ∙ get_or-drop 1 (trees_at s j) 0 none
          ∙ ap (λ (ts : List Tree). get_or ts 1 none) ej ∙ get_or-drop 1 (trees_at s (i + 1)) 1 none

      pub at-ite : a.kind ≡ 21 → stmt_at s i ≡ ite a.delay (expr_at s (i + 1)) (stmt_at s j) (stmt_at s k)
      unfolding stmt_at as_stmt tree_of stmt_of expr_at
      at-ite e = ap as_stmt (tree-of 21 e) ∙ rw (second_is, third-is) refl

-- what the tree of each node has, if its children have it, each root has
module _ (R : Tree → Type 0) (missing : R none) (s : List ℕ)
    (step : (i : ℕ) → i < node_count s → (x y z : Tree) → tree_at s i ≡ tree_of (node_at s i) x y z → R x → R y → R z → R (tree_of (node_at s i) x y z)) where
  each_from : (i n : ℕ) → i + n ≡ node_count s → Each R (trees_at s i)
  unfolding grow
  each_from i zero e = subst (Each R) (sym (trees-none s i (omega arith))) tt
  each_from i (suc n) e =
      let ts = trees_at s (i + 1) in
      let h = each_from (i + 1) n (omega arith) in
      let l : i < node_count s = omega arith in
      subst (Each R) (sym (trees-step s i l (node_at s i) refl)) (
        step i l _ _ _ (tree_is s i l (node_at s i) refl) (each_at R missing ts 0 h) (each_at R missing ts 1 h) (each_at R missing ts 2 h),
        each-drop R missing ts (arity (node_at s i).kind) h,
      )

  pub root-has : (r : ℕ) → R (get_or (trees_at s 0) r none)
  root-has r = each_at R missing (trees_at s 0) r (each_from 0 (node_count s) (omega arith))
