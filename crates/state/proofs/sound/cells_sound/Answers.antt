-- `cells_sound` meets its contract: the cells that are left are sound if and only if all are. Assumes nothing.
use mathlib.Core.Path.{◌≡◌, refl, sym, ◌∙◌, ap}
use Prim.Native.Nat.{ℕ, ◌-◌}
use native.Mathlib.Omega.{arith}
use Rattle.model.specs.NetlistFile.{count_of, pulse_of, cells_of}
use Rattle.model.specs.State.{cell_sound}
use Rattle.laws.specs.NetlistFile.Passed.{count-cells}
use Rattle.netlist.proofs.Headers.{header-count, header-pulse}
use Rattle.netlist.proofs.FileChecks.{accepted-room}
use Rattle.netlist.proofs.Bytes.{standing-first, passed, cell-among, standing-next, cell-here}
use Rattle.state.proofs.Files.{file-stands}
use Rattle.state.proofs.Soundness.{sound-here, unsound-here, sound_none}
use Rattle.state.proofs.sound.cells_sound.Goals as goal

pub invariant_of-cells : goal.invariant_of-cells
invariant_of-cells c = record { room = rw (header-count c.args.file.now c.requires.1) (accepted-room c.args.file.now c.requires.0.accepted) }

pub loop-k-init : goal.loop-k-init
unfolding cells_of
loop-k-init c =
    let items = c.enumerate-k-items.ensures in
    let left : c.args.h.count - 0 ≡ count_of c.args.file.now = omega (arith, header-count c.args.file.now c.requires.1) in
    rw (c.into_iter-k-iterator.ensures.into_iter_gives, items.count, items.source) (standing-first _ (rw left refl), refl)

pub cell_sound-requires : goal.cell_sound-requires
cell_sound-requires c =
    let file = c.args.file.now in
    let steps = c.in-Some.ensures.steps in
    file-stands c.args.format file c.args.s.now c.requires.0 c.in-Some.k (omega (arith, cell-among c.loop-k.invariant.0 steps.0, steps.1, count-cells file))

pub returns-then-not-cell_sound : goal.returns-then-not-cell_sound
returns-then-not-cell_sound c =
    let F = c.args.format in
    let s = c.args.s.now in
    let file = c.args.file.now in
    let known = c.loop-k.invariant in
    let steps = c.in-Some.ensures.steps in
    let k = c.loop-k.k-iterator.count in
    let tested = rw steps.1 at c.cell_sound.ensures in
    sym
    (unsound-here (pulse_of file) F (cells_of file) s k (cell-among known.0 steps.0) c.in-Some.c (cell-here known.0 steps.0)
    (ap (λ (w : ℕ). cell_sound F w c.in-Some.c s k) (sym (header-pulse file c.requires.1)) ∙ sym tested ∙ c.if-not-cell_sound.true))
    ∙ known.1

pub loop-k-preserved : goal.loop-k-preserved
loop-k-preserved c =
    let F = c.args.format in
    let s = c.args.s.now in
    let file = c.args.file.now in
    let known = c.loop-k.invariant in
    let steps = c.in-Some.ensures.steps in
    let k = c.loop-k.k-iterator.count in
    let tested = rw steps.1 at c.cell_sound.ensures in
    rw steps.2 (
      standing-next known.0 steps.0,
      sym
          (sound-here (pulse_of file) F (cells_of file) s k (cell-among known.0 steps.0) c.in-Some.c (cell-here known.0 steps.0)
          (ap (λ (w : ℕ). cell_sound F w c.in-Some.c s k) (sym (header-pulse file c.requires.1)) ∙ sym tested ∙ c.if-not-cell_sound.false))
          ∙ known.1,
    )

pub returns : goal.returns
returns c =
    let known = c.loop-k.invariant in
    let file = c.args.file.now in
    sym (sound_none (pulse_of file) c.args.format (cells_of file) c.args.s.now c.loop-k.k-iterator.count (passed known.0 c.in-None.ensures.steps.0.0)) ∙ known.1
