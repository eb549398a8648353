-- Every netlist whose cells look only at lower cells and at the past has values that obey it: they are worked out instant by instant, and within an
-- instant cell by cell.
use Rattle.std.specs.Prelude.{ℕ, length}
use Rattle.model.specs.Circuit.{Netlist, Sig, Values, Obeys}
use Rattle.model.specs.Gates.{worked}
use Rattle.laws.specs.Circuit.Ordered.{Ordered}
use Rattle.laws.specs.Numbering.Cells.{cell_val}
use Rattle.laws.specs.Circuit.Causal.{worked-solves}
use Rattle.laws.specs.Circuit.Unique.{shows, shows-causal}

unfoldable pub solution : Netlist → Sig → (ℕ → ℕ) → Values
solution net starts words = worked (shows net starts words) (length net.cells)

pub solution-obeys : (net : Netlist) (starts : Sig) (words : ℕ → ℕ) → Ordered net.cells → Obeys net starts words (solution net starts words)
unfolding Obeys cell_val shows solution
solution-obeys net starts words o = worked-solves (shows net starts words) (length net.cells) (shows-causal net o starts words)
