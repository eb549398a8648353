-- What the inputs of a cell of a known shape are, by the rules of its fields.
-- Assumes nothing.
use Rattle.std.specs.Prelude.{true, ◌≡◌, ℕ, ◌<◌, ◌≤◌}
use Rattle.std.proofs.Common.{sym, ◌∙◌}
use borrow.Author.Tests.{eqb-true}
use Rattle.model.specs.declared.Cell.{Cell}
use Rattle.model.specs.Circuit.{merges, shape, Shape, cell_table, k_delay, k_memory, k_read, k_latch}
use Rattle.laws.specs.Circuit.Ordered.{Looks}
use Rattle.laws.specs.Circuit.Shapes.{merge-shape, return-shape, by-merge}

looks-as : (K : ℕ → ℕ) (n k : ℕ) (c : Cell) {sh known : Shape} → sh ≡ known → Looks (cell_table sh).row K n k c → Looks (cell_table known).row K n k c
looks-as K n k c e o = rw e at o

module _ (K : ℕ → ℕ) (n k : ℕ) (c : Cell) {sh : Shape} where
  pub merge-looks : merges c.kind ≡ true → shape c.kind ≡ sh → Looks (cell_table sh).row K n k c → (c.a < k) × (c.b < k)
  unfolding cell_table
  merge-looks e z o =
      by-merge c.kind e
      (λ q. let (d, a, b) = looks-as K n k c (sym z ∙ merge-shape c.kind q) o in (a.0, b.0))
      (λ q. let (d, a, b) = looks-as K n k c (sym z ∙ return-shape c.kind q) o in (a.0, b.0))

  pub delay-looks : sh ≡ k_delay → Looks (cell_table sh).row K n k c → (1 ≤ c.delay) × (c.delay ≤ 255) × (c.a < n)
  unfolding cell_table
  delay-looks e o = let (d, a, b) = looks-as K n k c e o in (d.0, d.1, a.0)

  pub mem-looks : sh ≡ k_memory → Looks (cell_table sh).row K n k c → (c.a < k) × (c.b < n)
  unfolding cell_table
  mem-looks e o = let (d, a, b) = looks-as K n k c e o in (a.0, b.0)

  pub latch-looks : sh ≡ k_latch → Looks (cell_table sh).row K n k c → (c.a < n) × (c.b < n)
  unfolding cell_table
  latch-looks e o = let (d, a, b) = looks-as K n k c e o in (a.0, b.0)

  pub read_looks : sh ≡ k_read → Looks (cell_table sh).row K n k c → (c.a < k) × (c.b < k) × (K c.a ≡ 42)
  unfolding cell_table
  read_looks e o = let (d, a, b) = looks-as K n k c e o in (a.0, b.0, eqb-true _ _ a.1)
