-- What a statement writes, and what its parts are, by its kind. Assumes nothing.
use mathlib.Core.Path.{◌≡◌, refl, ◌∙◌, ap₂}
use mathlib.Core.Bool.{◌||◌}
use mathlib.Core.List.{List}
use Prim.Native.Nat.{ℕ, ◌+◌, ◌≤◌, ◌<◌}
use native.Mathlib.Omega.{arith}
use lib.Dec.{eqb}
use lib.Bits.{bit_or}
use borrow.Author.Tests.{eqb-true, eqb-false}
use Rattle.model.specs.declared.Node.{Node}
use Rattle.model.specs.Program.{Code, while, repeat, expr_at, stmt_at, writes}
use Rattle.model.specs.Procedures.{inline}
use Rattle.model.specs.Functional.{branches, count}
use Rattle.laws.specs.Refusals.Laws.{by_bool}
use Rattle.laws.specs.Program.Fit.{BasicExpr, Basic}
use Rattle.laws.specs.Program.Trees.{at_tick, at-assign, at-loop, at_exit, at_call}
use Rattle.program.proofs.Children.{Inner, assign-elem-read, seq-read, par-read, ite-read, while-read, repeat_read}
use Rattle.program.specs.Ends.{past}
use Rattle.model.specs.Program.{node_count}
use Rattle.compiler.specs.Nodes.{StmtNode}
use Rattle.functional.specs.Sets.{Tells}
use Rattle.functional.specs.Walk.{plainly, plain_at, Writes}
use Rattle.functional.proofs.Bits.{has-none, has-or}

module _ {s : List ℕ} {i : ℕ} {a : Node} (node : StmtNode s i a) where
  pub none_written : a.kind < 18 → Writes s i 0
  unfolding inline writes
  none_written h x l =
      by_bool (eqb a.kind 16)
      (λ e. rw (node.nothing (eqb-true _ _ e)) (has-none x))
      (λ e.
      let here = node.here (eqb-false _ _ e) in
      rw (at_tick s i here.0 a here.2 (omega (arith, here.1, h))) (has-none x))

  pub one_written : (r : ℕ) → a.kind ≡ 18 → Tells r (λ y. eqb y a.n) → Writes s i r
  unfolding inline writes
  one_written r e t x l =
      let here = node.here (λ z. omega (arith, e, z)) in
      rw (at-assign s i here.0 a here.2 e) (t x l)

-- two sets
pub or-written : (s : List ℕ) (i j p q : ℕ) → Writes s i p → Writes s j q → Tells (bit_or p q) (branches (plain_at s i) (plain_at s j))
or-written s i j p q u v x l = has-or p q x ∙ ap₂ ◌||◌ (u x l) (v x l)

module _ {s ends : List ℕ} {i j : ℕ} {a : Node} (n : Inner s ends i a j) (b : Basic (stmt_at s i)) where
  -- refusal 28 leaves none of these kinds
  pub basic-kind : (a.kind ≡ 24 → ⊥) × (a.kind ≡ 25 → ⊥) × (a.kind ≡ 26 → ⊥) × (a.kind ≡ 27 → ⊥)
  basic-kind = (
    λ e. rw (assign-elem-read n e) at b,
    λ e. rw (at-loop s i n.here a n.node e) at b,
    λ e. rw (at_exit s i n.here a n.node e) at b,
    λ e. rw (at_call s i n.here a n.node e) at b,
  )

  -- a while or a repeat: they have the same parts, and take as many cells
  by_loop : (P : Code → Type 0) → P (while a.delay (expr_at s (i + 1)) (stmt_at s j)) → P (repeat a.delay (expr_at s (i + 1)) (stmt_at s j)) → 22 ≤ a.kind → P (stmt_at s i)
  by_loop P u v h =
      by_bool (eqb a.kind 22)
      (λ e. rw (while-read n (eqb-true _ _ e)) u)
      (λ e.
      let k = basic-kind in
      let z = eqb-false a.kind 22 e in
      rw (repeat_read n (omega (arith, h, z)) k.0 k.1 k.2 k.3) v)

  pub loop-basic : 22 ≤ a.kind → BasicExpr (expr_at s (i + 1)) × Basic (stmt_at s j)
  loop-basic h = by_loop (λ P. Basic P → BasicExpr (expr_at s (i + 1)) × Basic (stmt_at s j)) (λ z. z) (λ z. z) h b

  pub loop-count : 22 ≤ a.kind → count (plain_at s i) ≡ count (plainly (while 1 (expr_at s (i + 1)) (stmt_at s j)))
  unfolding inline count
  loop-count h =
      by_loop (λ P. count (plainly P) ≡ count (plainly (while 1 (expr_at s (i + 1)) (stmt_at s j)))) refl (omega arith) h

  pub loop-written : (p : ℕ) → 22 ≤ a.kind → Writes s j p → Writes s i p
  unfolding inline writes
  loop-written p h u = by_loop (λ P. Tells p (writes (plainly P))) u u h

  module _ {k : ℕ} (e : k ≡ past ends (node_count s) j) (is : a.kind ≡ 21) where
    pub if-basic : Basic (stmt_at s j) × Basic (stmt_at s k)
    if-basic = let z = rw (ite-read n k e is) at b in (z.1, z.2)

    pub if-written : (p q : ℕ) → Writes s j p → Writes s k q → Writes s i (bit_or p q)
    unfolding inline writes
    if-written p q u v x l = rw (ite-read n k e is) (or-written s j k p q u v x l)

  -- a sequence or a parallel
  module _ (low : 18 < a.kind) (high : a.kind < 21) where
    pub two-basic : Basic (stmt_at s (i + 1)) × Basic (stmt_at s j)
    two-basic =
        by_bool (eqb a.kind 19)
        (λ e. let z = rw (seq-read n (eqb-true _ _ e)) at b in (z.0, z.1))
        (λ e. let y = eqb-false a.kind 19 e in let z = rw (par-read n (omega (arith, low, high, y))) at b in (z.0, z.1))

    pub two-written : (p q : ℕ) → Writes s (i + 1) p → Writes s j q → Writes s i (bit_or p q)
    unfolding inline writes
    two-written p q u v x l =
        by_bool (eqb a.kind 19)
        (λ e. rw (seq-read n (eqb-true _ _ e)) (or-written s (i + 1) j p q u v x l))
        (λ e. let y = eqb-false a.kind 19 e in rw (par-read n (omega (arith, low, high, y))) (or-written s (i + 1) j p q u v x l))
