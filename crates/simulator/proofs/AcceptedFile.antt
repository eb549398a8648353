-- What a netlist file that is accepted gives the runs: cells that see no further than its state, and sixteen memories.
-- Assumes nothing.
use mathlib.Core.Bool.{Bool, true, false, ◌&&◌, ◌||◌}
use mathlib.Core.List.{List}
use mathlib.Core.Path.{◌≡◌, refl}
use Prim.Native.Nat.{ℕ, ◌+◌, ◌<◌, ◌≤◌}
use native.Mathlib.Omega.{arith}
use lib.Dec.{eqb}
use lib.ListN.{length}
use borrow.Author.Tests.{eqb-true}
use Rattle.model.specs.declared.Cell.{Cell}
use Rattle.model.specs.declared.Format.{Format}
use Rattle.model.specs.declared.kinds.Use.{Use}
use Rattle.model.specs.declared.kinds.Use.TheVariants.{Unknown, Unused, Value, Positive, ControlBelow, ControlAny, WordBelow, WordAny, ArrayBelow}
use Rattle.model.specs.Circuit.{cell_at, memories, cell_table, shape, cell_row}
use Rattle.model.specs.NetlistFile.{cell_limit, count_of, finish_of, cells_of, net_of, keeps}
use Rattle.model.specs.State.{base, instant_of, begin_state}
use Rattle.laws.specs.Refusals.Laws.{by_bool, and-true, not-both}
use Rattle.laws.specs.Circuit.Ordered.{Meets, Looks, kinds}
use Rattle.laws.specs.Circuit.Shapes.{only-kind, all_lines, every-line}
use Rattle.laws.specs.NetlistFile.Uses.{keeps-looks}
use Rattle.laws.specs.NetlistFile.Passed.{net-passed, file-passed, count-cells}
use Rattle.laws.specs.State.Passes.{begin-instant as begun-instant}
use Rattle.state.specs.Stands.{Stands, Sees, Runs}
use Rattle.state.proofs.Standing.{stands-in}
use Rattle.state.proofs.Files.{sized}

-- Cells that keep the rules ------------------------------------------------------------------------------------------------------------

-- whether a field of this use is always below the number of cells
bounded : Use → Bool
bounded Unknown = true
bounded Unused = true
bounded Value = false
bounded Positive = false
bounded ControlBelow = true
bounded ControlAny = true
bounded WordBelow = true
bounded WordAny = true
bounded ArrayBelow = true

-- a constant's a alone is not, and no b
a-bounded : (k : ℕ) → (k ≡ 1 → ⊥) → bounded (cell_row k).a ≡ true
unfolding bounded all_lines cell_table
a-bounded k n =
    by_bool (bounded (cell_row k).a) (λ t. t)
    (λ t.
    let one = rw t at (every-line (λ l. bounded l.row.a || (eqb l.first 1 && eqb l.last 1)) refl k) in
    let ends = and-true (eqb (cell_table (shape k)).first 1) _ one in
    absurd (n (only-kind k 1 (eqb-true _ _ ends.0) (eqb-true _ _ ends.1))))

b-bounded : (k : ℕ) → bounded (cell_row k).b ≡ true
unfolding bounded all_lines cell_table
b-bounded k = every-line (λ l. bounded l.row.b) refl k

module _ (net : List Cell) (k : ℕ) (h : k < length net) (c : Cell) (e : keeps net k c ≡ true) where
  within : (u : Use) (v : ℕ) → bounded u ≡ true → Meets u (kinds net) (length net) k v → v < length net
  unfolding bounded
  within Unknown v b m = absurd m
  within Unused v b m = omega arith
  within Value v b m = not-both b refl
  within Positive v b m = not-both b refl
  within ControlBelow v b m = omega (arith, m.0)
  within ControlAny v b m = m.0
  within WordBelow v b m = omega (arith, m.0)
  within WordAny v b m = m.0
  within ArrayBelow v b m = omega (arith, m.0)

  sees : Looks (cell_row c.kind) (kinds net) (length net) k c
  sees = keeps-looks net k c e

  delay-long : c.kind ≡ 34 → 1 ≤ c.delay
  unfolding shape cell_table
  delay-long z = let m : Meets (cell_row 34).delay (kinds net) (length net) k c.delay = rw z at sees.0 in m.0

  keeps-sees : (F : Format) (s : List ℕ) → length net ≤ cell_limit → base F (length net) + 512 ≤ length s → Sees F s c
  keeps-sees F s few room =
      record {
        a = λ n. stands c.a (within _ _ (a-bounded c.kind n) sees.1);
        b = stands c.b (within _ _ (b-bounded c.kind) sees.2);
        delay = delay-long;
      }
    where
      stands : (j : ℕ) → j < length net → Stands F s j
      stands j l = stands-in F s j (length net) l few (omega arith)

-- Those of a file ----------------------------------------------------------------------------------------------------------------------

module _ (F : Format) (file s : List ℕ) (r : Runs F file s) where
  pub file-sixteen : memories (cells_of file) ≡ 16
  file-sixteen = (net-passed (cells_of file) (finish_of file) (file-passed file r.accepted).cells).sixteen

  pub file-sees : (k : ℕ) → k < count_of file → Sees F s (cell_at (cells_of file) k)
  file-sees k l =
      let net = cells_of file in
      let m : k < length net = rw (count-cells file) l in
      keeps-sees net k m (cell_at net k) ((net-passed net (finish_of file) (file-passed file r.accepted).cells).kept k m)
      F s (rw (count-cells file) (sized file r.accepted).few) r.room

  pub begin-instant : (words : ℕ → ℕ) (b : List ℕ) → b ≡ begin_state F (net_of file) words s → instant_of b ≡ 0
  begin-instant words b h = rw h (begun-instant F (net_of file) words s)

-- a state that is as long can be run as well
pub reruns : {F : Format} {file s t : List ℕ} → Runs F file s → length t ≡ length s → Runs F file t
reruns r e = record { accepted = r.accepted; room = rw e r.room }
