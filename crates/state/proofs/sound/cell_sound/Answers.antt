-- `cell_sound` meets its contract. Assumes nothing.
use mathlib.Core.Path.{◌∙◌, ap}
use Rattle.model.specs.Word.{bit}
use Rattle.state.proofs.Soundness.{sound-parts}
use Rattle.state.proofs.sound.cell_sound.Goals as goal

pub returns : goal.returns
returns c =
    let base = c.base-at in
    let now-at = c.now_at-now in
    let before_at = c.before_at-ago in
    let bit-call = c.bit-most_a in
    let is-merge = c.is_merge in
    let bit2 = c.bit-most_b in
    let args = c.args in
    rw (c.from.ensures, c.from-2.ensures)
    (sound-parts args.pulse args.c args.s.now args.k args.format _ _ _ _ _ _ _ base.ensures c.is_control.ensures now-at.ensures before_at.ensures
    (bit-call.ensures ∙ ap bit is-merge.ensures) bit2.ensures c.line_sound-line.ensures)
