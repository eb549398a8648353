-- `take_back` meets its contract. Assumes nothing.
use mathlib.Core.List.{List}
use mathlib.Core.Path.{◌∙◌, ap, ap₂}
use Prim.Native.Nat.{ℕ, ◌-◌}
use lib.Seq.{paste}
use Rattle.model.specs.Word.{put32}
use Rattle.simulator.proofs.keeping.take_back.Goals as goal

pub returns : goal.returns
returns c =
    let kept = c.args.kept.now in
    c.put32.ensures
    ∙ ap₂ (λ (x : List ℕ) (t : ℕ). put32 x 0 t)
    (c.copy.ensures ∙ ap₂ (λ (w : List ℕ) (i : ℕ). paste w i kept 512) c.take_values_back.ensures c.base.ensures)
    (c.saturating_sub.ensures ∙ ap (λ (t : ℕ). t - 1) c.get32-t.ensures)
