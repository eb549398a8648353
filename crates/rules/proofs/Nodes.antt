-- The value of an expression by its node's kind, and a statement that is none. Assumes nothing.
use mathlib.Core.Path.{◌≡◌, sym, ◌∙◌, ap, ap₂}
use mathlib.Core.List.{List}
use Prim.Native.Nat.{ℕ, ◌+◌, ◌≤◌, ◌<◌}
use native.Mathlib.Omega.{arith}
use native.Mathlib.Decide.{dec_lt}
use Rattle.model.specs.declared.Node.{Node}
use Rattle.model.specs.Word.{operate, element_word}
use Rattle.model.specs.Program.{Expr, ok, node_at, node_count, expr_at, stmt_at}
use Rattle.model.specs.Rules.{Store, eval}
use Rattle.laws.specs.Program.Trees.{expr-none, at-const, at-var, at-compl, at-elem, no-expr, no-stmt, at_ok}
use Rattle.program.proofs.Children.{Inner, op-read}

-- Statements ---------------------------------------------------------------------------------------------------------------------------

pub low_ok : (s : List ℕ) (i : ℕ) → i < node_count s → (a : Node) → a ≡ node_at s i → a.kind ≤ 16 → stmt_at s i ≡ ok
low_ok s i h a ea l = go (dec_lt a.kind 16)
  where
    go : Dec (a.kind < 16) → stmt_at s i ≡ ok
    go (yes m) = no-stmt s i h a ea m
    go (no n) = at_ok s i h a ea (omega arith)

-- Expressions --------------------------------------------------------------------------------------------------------------------------

module _ (s : List ℕ) (i : ℕ) (σ : Store) where
  is : {e : Expr} → expr_at s i ≡ e → eval e σ ≡ eval (expr_at s i) σ
  is p = sym (ap (λ (e : Expr). eval e σ) p)

  pub eval-none : node_count s ≤ i → 0 ≡ eval (expr_at s i) σ
  unfolding eval
  eval-none h = is (expr-none s i h)

  module _ (h : i < node_count s) (a : Node) (ea : a ≡ node_at s i) where
    pub eval-stmt : 16 ≤ a.kind → 0 ≡ eval (expr_at s i) σ
    unfolding eval
    eval-stmt l = is (no-expr s i h a ea l)

    pub eval-const : a.kind ≡ 1 → a.n ≡ eval (expr_at s i) σ
    unfolding eval
    eval-const k = is (at-const s i h a ea k)

    pub eval-var : a.kind ≡ 2 → (v : ℕ) → v ≡ σ a.n → v ≡ eval (expr_at s i) σ
    unfolding eval
    eval-var k v e = e ∙ is (at-var s i h a ea k)

    pub eval-compl : a.kind ≡ 3 → (v x : ℕ) → x ≡ eval (expr_at s (i + 1)) σ → v ≡ operate 3 x 0 → v ≡ eval (expr_at s i) σ
    unfolding eval
    eval-compl k v x ex e = e ∙ ap (λ (x : ℕ). operate 3 x 0) ex ∙ is (at-compl s i h a ea k)

    pub eval-elem : a.kind ≡ 10 → (v w x : ℕ) → x ≡ eval (expr_at s (i + 1)) σ → w ≡ element_word a.n x → v ≡ σ w → v ≡ eval (expr_at s i) σ
    unfolding eval
    eval-elem k v w x ex ew e = e ∙ ap σ (ew ∙ ap (element_word a.n) ex) ∙ is (at-elem s i h a ea k)

  pub eval-op : {a : Node} {ends : List ℕ} {j : ℕ} → Inner s ends i a j
      → a.kind < 16 → (a.kind ≡ 1 → ⊥) → (a.kind ≡ 2 → ⊥) → (a.kind ≡ 3 → ⊥) → (a.kind ≡ 10 → ⊥)
      → (v x y : ℕ) → x ≡ eval (expr_at s (i + 1)) σ → y ≡ eval (expr_at s j) σ → v ≡ operate a.kind x y → v ≡ eval (expr_at s i) σ
  unfolding eval
  eval-op {a} n l p q r w v x y ex ey e = e ∙ ap₂ (operate a.kind) ex ey ∙ is (op-read n l p q r w)
