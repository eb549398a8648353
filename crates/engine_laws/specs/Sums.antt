-- Data that comes from gates through ors: the or of the words of the gates that are open is what the register's data shows.
-- Assumes nothing.
use Rattle.std.specs.Prelude.{Bool, true, ◌⊎◌, ◌≡◌, ℕ, zero, suc, ◌+◌, ◌^◌, ◌<◌, ◌≤◌, length}
use Rattle.std.proofs.Common.{inl, inr, ◌∙◌, not-suc-le-zero, le_refl, arith}
use Rattle.std.proofs.Math.Path.{refl}
use Rattle.std.specs.Int.Bits.{bit_or}
use Rattle.model.specs.declared.Cell.{Cell}
use Rattle.model.specs.declared.Format.{Format}
use Rattle.model.specs.Word.{operate}
use Rattle.model.specs.Circuit.{Netlist, cell_at, Shape, k_operator, k_gated}
use Rattle.laws.specs.State.Passes.{shape_at}
use Rattle.engine_laws.specs.Sets.{digit, or-digit}
use Rattle.engine_laws.specs.Bytes.{same_digits}
use Rattle.engine_laws.specs.View.{View, shows, Next}

-- the bits of x are bits of y
abbrev pub Within : ℕ → ℕ → Type 0
Within x y = (c : ℕ) → digit x c ≤ digit y c

pub within-trans : (x y z : ℕ) → Within x y → Within y z → Within x z
within-trans x y z p q c = omega (arith, p c, q c)

pub within-or : (x y z : ℕ) → Within x z → Within y z → Within (bit_or x y) z
within-or x y z p q c = rw (or-digit x y c) (omega (arith, p c, q c))

pub or_left : (x y : ℕ) → Within x (bit_or x y)
or_left x y c = rw (or-digit x y c) (omega arith)

pub or_right : (x y : ℕ) → Within y (bit_or x y)
or_right x y c = rw (or-digit x y c) (omega arith)

pub within_both : (k x y : ℕ) → x < 2 ^ k → y < 2 ^ k → Within x y → Within y x → x ≡ y
within_both k x y a b p q = same_digits k x y a b (λ c l. omega (arith, p c, q c))

-- The cells that are summed for one register, up to `root`, its data: gates and ors of two such cells. Each but the root is an input of another.
pub record Summed (net : Netlist) (into : ℕ → Bool) (root : ℕ) : Type 0 where
  pub below : (k : ℕ) → into k ≡ true → k < length net.cells
  pub kind : (k : ℕ) → into k ≡ true
      → (shape_at net k ≡ k_gated)
      ⊎ ((shape_at net k ≡ k_operator) × ((cell_at net.cells k).kind ≡ 7) × ((cell_at net.cells k).a < k) × ((cell_at net.cells k).b < k)
      × (into (cell_at net.cells k).a ≡ true) × (into (cell_at net.cells k).b ≡ true))
  pub parent : (k : ℕ) → into k ≡ true
      → (k ≡ root)
      ⊎ ((p : ℕ) × ((k < p) × (into p ≡ true) × (shape_at net p ≡ k_operator) × ((cell_at net.cells p).kind ≡ 7) × (((cell_at net.cells p).a ≡ k) ⊎ ((cell_at net.cells p).b ≡ k))))

module _ (F : Format) (net : Netlist) (v w : View) (next : Next F net v w) (into : ℕ → Bool) (root : ℕ) (tree : Summed net into root) where
  operator-shows : (sh : Shape) (k : ℕ) (c : Cell) → sh ≡ k_operator → c.kind ≡ 7 → shows sh net v w k c ≡ bit_or (w.now c.a) (w.now c.b)
  unfolding shows operate
  operator-shows sh k c e q = rw (e, q) refl

  or-now : (k : ℕ) → k < length net.cells → shape_at net k ≡ k_operator → (cell_at net.cells k).kind ≡ 7
      → w.now k ≡ bit_or (w.now (cell_at net.cells k).a) (w.now (cell_at net.cells k).b)
  or-now k l e q = next.present k l ∙ operator-shows (shape_at net k) k (cell_at net.cells k) e q

  -- k is an input of the or p
  abbrev Child : ℕ → ℕ → Type 0
  Child k p = (k < p) × (into p ≡ true) × (shape_at net p ≡ k_operator) × ((cell_at net.cells p).kind ≡ 7) × (((cell_at net.cells p).a ≡ k) ⊎ ((cell_at net.cells p).b ≡ k))

  in-parent : (k p : ℕ) → Child k p → Within (w.now k) (w.now p)
  in-parent k p z = rw (or-now p (tree.below p z.1) z.2 z.3) (go z.4)
    where
      go : ((cell_at net.cells p).a ≡ k) ⊎ ((cell_at net.cells p).b ≡ k)
          → Within (w.now k) (bit_or (w.now (cell_at net.cells p).a) (w.now (cell_at net.cells p).b))
      go (inl q) = rw q (or_left (w.now k) (w.now (cell_at net.cells p).b))
      go (inr q) = rw q (or_right (w.now (cell_at net.cells p).a) (w.now k))

  -- what a summed cell shows is in what the root shows
  up : (m k : ℕ) → length net.cells ≤ k + m → into k ≡ true → Within (w.now k) (w.now root)
  up zero k b i = absurd (omega (arith, tree.below k i))
  up (suc m) k b i = go (tree.parent k i) (λ p z. up m p (omega (arith, z.0)) z.1)
    where
      go : (k ≡ root) ⊎ ((p : ℕ) × Child k p) → ((p : ℕ) → Child k p → Within (w.now p) (w.now root)) → Within (w.now k) (w.now root)
      go (inl e) f = rw e (λ c. le_refl (digit (w.now root) c))
      go (inr z) f = within-trans (w.now k) (w.now z.0) (w.now root) (in-parent k z.0 z.1) (f z.0 z.1)

  -- where each gate's word is in s, so is each summed cell's
  down : (s : ℕ) → ((k : ℕ) → into k ≡ true → shape_at net k ≡ k_gated → Within (w.now k) s) → (n k : ℕ) → k < n → into k ≡ true → Within (w.now k) s
  down s gates zero k h i = absurd (not-suc-le-zero h)
  down s gates (suc n) k h i = go (tree.kind k i) (λ j l. down s gates n j l)
    where
      go : (shape_at net k ≡ k_gated)
          ⊎ ((shape_at net k ≡ k_operator) × ((cell_at net.cells k).kind ≡ 7) × ((cell_at net.cells k).a < k) × ((cell_at net.cells k).b < k)
          × (into (cell_at net.cells k).a ≡ true) × (into (cell_at net.cells k).b ≡ true))
          → ((j : ℕ) → j < n → into j ≡ true → Within (w.now j) s) → Within (w.now k) s
      go (inl e) f = gates k i e
      go (inr z) f =
          rw (or-now k (tree.below k i) z.0 z.1)
          (within-or (w.now (cell_at net.cells k).a) (w.now (cell_at net.cells k).b) s (f (cell_at net.cells k).a (omega (arith, z.2)) z.4)
          (f (cell_at net.cells k).b (omega (arith, z.3)) z.5))

  -- A word that has the words of all gates, and no other bits, is what the root shows.
  pub sum_is : (s : ℕ) → into root ≡ true → s < 2 ^ 16 → w.now root < 2 ^ 16
      → ((k : ℕ) → into k ≡ true → shape_at net k ≡ k_gated → Within (w.now k) s)
      → ((t : ℕ) → ((k : ℕ) → into k ≡ true → shape_at net k ≡ k_gated → Within (w.now k) t) → Within s t) → s ≡ w.now root
  sum_is s i a b has only =
      within_both 16 s (w.now root) a b (only (w.now root) (λ k x e. up (length net.cells) k (omega arith) x)) (down s has (length net.cells) root (tree.below root i) i)
