-- A scan of a list of cells: the cells that inputs name, the end of the loop, and what is told of a scan. Assumes nothing.
use Rattle.std.proofs.Common.{◌≡◌, ℕ, ◌<◌, ◌≤◌, Bool, true, false, ltb, leb, List, length, refl, ◌∙◌, lt-ltb, leb-true, arith}
use Rattle.model.specs.declared.Cell.{Cell}
use Rattle.model.specs.Word.{pick}
use Rattle.model.specs.Refusals.{refuse, Checked}
use Rattle.model.specs.NetlistFile.{cell_limit, count_wrong, blocks_for, net_check}
use Rattle.model.specs.CellSlices.{check_cells_call}
use Rattle.model.specs.Circuit.{cell_at}
use Rattle.laws.specs.Refusals.Laws.{by_bool, first_one}
use Rattle.netlist.specs.declared.rules.Scan.{Scan}
use Rattle.netlist.specs.Scans.{Scanned}
use Rattle.netlist.proofs.FileChecks.{counted}
use Rattle.exports.specs.Looks.{Looked}

pub named-there : (xs : List Cell) (k j r : ℕ) → r ≡ pick (ltb j (length xs)) j k → j < length xs → (cell_at xs r).kind ≡ (cell_at xs j).kind
named-there xs k j r e l = rw (e, lt-ltb j (length xs) l) refl

-- Loops --------------------------------------------------------------------------------------------------------------------------------

-- where a cell is looked at, a netlist may have so many
pub few-looked : (n m k : ℕ) → m ≡ pick (leb n cell_limit) n 0 → k < m → n ≤ cell_limit
few-looked n m k e h =
    by_bool (leb n cell_limit) (λ t. leb-true n cell_limit t)
    (λ t. let z : m ≡ 0 = rw t at e in absurd (omega (arith, z, h)))

-- What is told -------------------------------------------------------------------------------------------------------------------------

module _ {cs : List Cell} {finish : ℕ} {s : Scan} {w : Bool} (p : Looked cs finish (length cs) s) (e : w ≡ count_wrong (blocks_for s.n) s.n s.finish) where
  counts : count_wrong (blocks_for (length cs)) (length cs) finish ≡ w
  counts = rw (e, p.count, p.end) refl

  pub count-refused : w ≡ true → refuse 11 0 ≡ check_cells_call cs finish
  unfolding check_cells_call
  count-refused t = rw (counts, t) refl

  pub count-right : {r : Checked} → w ≡ false → (Scanned cs finish (length cs) s → r ≡ net_check cs finish) → r ≡ check_cells_call cs finish
  unfolding check_cells_call
  count-right t g = rw (counts, t) (g (p.found (counted (blocks_for (length cs)) (length cs) finish (counts ∙ t)).high) ∙ first_one (net_check cs finish))
