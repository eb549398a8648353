-- The arms of a renumbering, and that the inputs of a checked file's cells are numbers of its cells. Assumes nothing.
use Rattle.model.specs.Refusals.{Accepted}
use mathlib.Core.Path.{◌≡◌, refl, ap, subst, ◌∙◌}
use mathlib.Core.Bool.{true}
use mathlib.Core.List.{List}
use Prim.Native.Nat.{ℕ, ◌+◌, ◌-◌, ◌<◌, ◌≤◌}
use native.Mathlib.Omega.{arith}
use native.Mathlib.Nat.{zero-add}
use lib.ListN.{length}
use borrow.Author.Tests.{eq-eqb, ne_eqb, lt-ltb, le-ltb}
use Rattle.model.specs.declared.kinds.Use.{Use}
use Rattle.model.specs.declared.kinds.Use.TheVariants.{Unknown, Unused, Value, Positive, ControlBelow, ControlAny, WordBelow, WordAny, ArrayBelow}
use Rattle.model.specs.Circuit.{cell_at, cell_row, names}
use Rattle.model.specs.NetlistFile.{cell_from, in_file, file_check, cells_of, count_of, finish_of}
use Rattle.laws.specs.Refusals.Laws.{not-both}
use Rattle.laws.specs.Circuit.Ordered.{Meets, kinds}
use Rattle.laws.specs.NetlistFile.Passed.{net-ordered, file-passed, count-range, count-cells}
use Rattle.laws.specs.NetlistFile.CellBytes.{cell-of}
use Rattle.joiner.specs.Moving.{new_number}
use Rattle.joiner.specs.Stands.{Low, LowCells}

module _ (m M s d c j : ℕ) where
  pub arm_start : j ≡ 0 → s ≡ new_number m M s d c j
  unfolding new_number
  arm_start e = rw (eq-eqb j 0 e)

  pub arm-fixed : (j ≡ 0 → ⊥) → j < 3 → j ≡ new_number m M s d c j
  unfolding new_number
  arm-fixed n l = rw (ne_eqb j 0 n, lt-ltb j 3 l)

  pub arm-delay : 3 ≤ j → j < m → d + (j - 3) ≡ new_number m M s d c j
  unfolding new_number
  arm-delay l h = rw (ne_eqb j 0 (λ e. omega arith), le-ltb j 3 l, lt-ltb j m h)

  pub arm-memory : 3 ≤ j → m ≤ j → j < m + 24 → M + (j - m) ≡ new_number m M s d c j
  unfolding new_number
  arm-memory l h u = rw (ne_eqb j 0 (λ e. omega arith), le-ltb j 3 l, le-ltb j m h, lt-ltb j (m + 24) u)

  pub arm_walk : 3 ≤ j → m + 24 ≤ j → c + (j - (m + 24)) ≡ new_number m M s d c j
  unfolding new_number
  arm_walk l h = rw (ne_eqb j 0 (λ e. omega arith), le-ltb j 3 l, le-ltb j m (omega arith), le-ltb j (m + 24) h)

-- a field that names a cell names one of n
low_of : (u : Use) (K : ℕ → ℕ) (n k v : ℕ) → n ≤ 16384 → k < n → Meets u K n k v → names u ≡ true → v ≤ 16384
unfolding names
low_of Unknown K n k v l h o e = absurd o
low_of Unused K n k v l h o e = not-both e refl
low_of Value K n k v l h o e = not-both e refl
low_of Positive K n k v l h o e = not-both e refl
low_of ControlBelow K n k v l h o e = omega (arith, o.0)
low_of ControlAny K n k v l h o e = omega (arith, o.0)
low_of WordBelow K n k v l h o e = omega (arith, o.0)
low_of WordAny K n k v l h o e = omega (arith, o.0)
low_of ArrayBelow K n k v l h o e = omega (arith, o.0)

pub file-low : (s : List ℕ) → file_check s ≡ Accepted → LowCells s (count_of s)
unfolding cells_of
file-low s e =
    record {
      low = λ k l.
          let p = file-passed s e in
          let r = count-range _ _ _ p.count in
          let n = count-cells s in
          let c = cell_at (cells_of s) k in
          let h : k < length (cells_of s) = omega (arith, n) in
          let o = (net-ordered (cells_of s) (finish_of s) p.cells).looks k h in
          let q : cell_at (cells_of s) k ≡ cell_from s (in_file k) = cell-of in_file s 0 (count_of s) k l ∙ ap (λ (j : ℕ). cell_from s (in_file j)) (zero-add k) in
          let most : length (cells_of s) ≤ 16384 = omega (arith, n, r.1) in
          subst Low q
          (record {
            first = low_of (cell_row c.kind).a (kinds (cells_of s)) (length (cells_of s)) k c.a most h o.1;
            second = low_of (cell_row c.kind).b (kinds (cells_of s)) (length (cells_of s)) k c.b most h o.2;
          });
    }
