-- `line_sound` meets its contract. Assumes nothing.
use mathlib.Core.Path.{◌≡◌, ◌∙◌}
use lib.Dec.{eqb}
use borrow.Author.Tests.{eq-eqb, ne_eqb}
use Rattle.model.specs.Word.{pick}
use Rattle.model.specs.declared.Format.TheVariants.{Compact}
use Rattle.model.specs.State.{most_left}
use Rattle.state.proofs.Places.{left_here}
use Rattle.state.proofs.Soundness.{full-line, compact-line}
use Rattle.state.proofs.sound.line_sound.Goals as goal
use Rattle.state.proofs.sound.line_sound.Goals.{then-kind-eq34, else-kind-eq34}

pub returns-in-Full : goal.returns-in-Full
returns-in-Full c =
    let enum_told = c.in-Full in
    let args = c.args in
    let base-call = c.base-at in
    let most-left = c.most_left-most in
    rw c.in-Full.is (full-line args.pulse args.c args.s.now args.k _ _ _ _ (rw c.in-Full.is at base-call.ensures) most-left.ensures c.all_zero-zeros.ensures c.all_zero-line.ensures)

pub returns-after-kind-eq34 : goal.returns-after-kind-eq34
returns-after-kind-eq34 c =
    let args = c.args in
    let most-left = c.most_left-most in
    let base-call = c.base-at in
    let enum-told2 = c.in-Compact in
    let limit : c.if-kind-eq34.limit ≡ pick (eqb args.c.kind 34) args.c.delay (most_left Compact args.pulse args.c) =
    elim c.if-kind-eq34.branch [
      | then-kind-eq34 w ↦ rw (eq-eqb _ _ w.if-kind-eq34.true) w.limit-is
      | else-kind-eq34 w ↦ rw (ne_eqb _ _ w.if-kind-eq34.false) (w.limit-is ∙ most-left.ensures)
    ] in
    let left = left_here args.format args.s.now args.k _ base-call.ensures c.in-Compact.is in
    rw c.in-Compact.is (compact-line args.pulse args.c args.s.now args.k _ _ _ (rw c.in-Compact.is at base-call.ensures) left limit)
