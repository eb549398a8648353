-- `count_down` meets its contract: what is written is one of two. Assumes nothing.
use mathlib.Core.Path.{◌∙◌, ap}
use Prim.Native.Nat.{ℕ}
use lib.ListN.{set}
use Rattle.state.proofs.lines.count_down.Goals as goal
use Rattle.state.proofs.lines.count_down.Goals.{then-input, else-input}

pub returns : goal.returns
returns c =
    let args = c.args in
    ap (λ (v : ℕ). set args.state.now args.i v)
    (elim c.if-input.branch [ then-input w ↦ rw w.if-input.true w.state-is | else-input w ↦ rw w.if-input.false (w.state-is ∙ c.saturating_sub-less.ensures) ])
