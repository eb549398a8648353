-- `rules::keeps_rule` meets its contract: the tests of its kind's row, and no delay names a cell. Assumes nothing.
use Rattle.std.proofs.Common.{◌≡◌, ℕ, true, not, refl, ap}
use Rattle.model.specs.declared.kinds.CellRow.{CellRow}
use Rattle.model.specs.Circuit.{cell_table, cell_row, names}
use Rattle.model.specs.NetlistFile.{keeps}
use Rattle.laws.specs.Refusals.Laws.{not-both}
use Rattle.laws.specs.Circuit.Shapes.{all_lines, every-line}
use Rattle.netlist.proofs.rules.keeps_rule.Goals as goal

-- no kind's delay names a cell
plain-delay : (k : ℕ) {r : CellRow} {A : Type 0} → r ≡ cell_row k → names r.delay ≡ true → A
unfolding names all_lines cell_table
plain-delay k e n = not-both (every-line (λ l. not (names l.row.delay)) refl k) (ap not (rw e at n))

pub returns : goal.returns
unfolding keeps
returns c =
    let row = c.cell_row-row.ensures in
    let delay = c.keeps_use-right_delay.ensures in
    let a = c.keeps_use-right_a.ensures in
    let b = c.keeps_use-right_b.ensures in
    λ net n it. rw (
      c.stands.ensures,
      delay net n (plain-delay _ row),
      a net n (λ _ l. it.first (rw n l)),
      b net n (λ _ l. it.second (rw n l)),
      row,
    ) refl
