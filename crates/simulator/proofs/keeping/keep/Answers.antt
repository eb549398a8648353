-- `keep` meets its contract. Assumes nothing.
use mathlib.Core.List.{List}
use mathlib.Core.Path.{◌∙◌, ap}
use Prim.Native.Nat.{ℕ}
use native.Mathlib.Omega.{arith}
use lib.ListN.{drop}
use lib.Seq.{paste}
use Rattle.simulator.proofs.TakingBack.{keeps}
use Rattle.simulator.proofs.keeping.keep.Goals as goal

pub returns-then-kept-ge-KEPT : goal.returns-then-kept-ge-KEPT
returns-then-kept-ge-KEPT c =
    let args = c.args in
    let pre = c.requires in
    let values = c.keep_values in
    let base = c.base in
    let had : List ℕ = values.new.kept in
    λ roomy.
    keeps args.format args.n args.state.now had _ (omega (arith, roomy, values.auto.kept)) pre.1 values.ensures
    (c.copy.ensures ∙ ap (λ (i : ℕ). paste had 0 (drop i args.state.now) 512) base.ensures)
