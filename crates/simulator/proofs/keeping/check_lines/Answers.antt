-- `check_lines` meets its contract: no line below cell k, which begins at the cursor, is crowded. Assumes nothing.
use Rattle.std.specs.Prelude.{false}
use mathlib.Core.Path.{◌≡◌, refl, sym, ◌∙◌, ap}
use native.Mathlib.Omega.{arith}
use Rattle.model.specs.NetlistFile.{net_of}
use Rattle.laws.specs.Refusals.Search.{fault-here, fault-next, faults-end}
use Rattle.netlist.proofs.Following.{follows}
use Rattle.state.specs.Crowds.{crowds}
use Rattle.simulator.proofs.Cells.{net-length, cursor-there, cursor-low, cursor-cell, holds, holds-cell}
use Rattle.simulator.proofs.Crowding.{crowding-faults, crowded-here, not-crowded-here, crowds-other}
use Rattle.simulator.proofs.keeping.check_lines.Goals as goal
use Rattle.simulator.proofs.keeping.check_lines.Goals.{else-c-eq34-via-then-c-eq34+else-is_crowded, else-c-eq34-via-else-c-eq34}

pub cell_from-c-requires : goal.cell_from-c-requires
cell_from-c-requires c =
    let pre = c.requires in
    let loop = c.loop-k in
    cursor-there pre loop.k c.loop-k-test.true loop.invariant.2

pub is_crowded-requires : goal.is_crowded-requires
is_crowded-requires c =
    let pre = c.requires in
    let args = c.args in
    let loop = c.loop-k in
    let test = c.loop-k-test in
    let cell-from = c.cell_from-c in
    let at = holds pre loop.k test.true args.state.now refl _ (cursor-cell pre loop.k test.true loop.invariant.2 cell-from.ensures) in
    (at.stands, at.sees, c.if-c-eq34.true)

pub returns-then-is_crowded : goal.returns-then-is_crowded
returns-then-is_crowded c =
    let pre = c.requires in
    let args = c.args in
    let loop = c.loop-k in
    let test = c.loop-k-test in
    let cell-from = c.cell_from-c in
    let F = args.source.now.format in
    let net = net_of args.source.now.file.now in
    let s = args.state.now in
    let cell = holds-cell (holds pre loop.k test.true s refl _ (cursor-cell pre loop.k test.true loop.invariant.2 cell-from.ensures)) in
    let full = ap (crowds F s loop.k) cell ∙ sym c.is_crowded.ensures ∙ c.if-is_crowded.true in
    c.refuse.ensures ∙ fault-here loop.invariant.0 26 test.true (omega arith) (crowded-here F net s loop.k full) ∙ sym (crowding-faults F net s args.source.now.h.count (net-length pre))

pub next_offset-at-requires : goal.next_offset-at-requires
next_offset-at-requires c =
    let pre = c.requires in
    let loop = c.loop-k in
    cursor-low pre loop.k c.loop-k-test.true loop.invariant.2

pub loop-k-preserved : goal.loop-k-preserved
loop-k-preserved c =
    let pre = c.requires in
    let args = c.args in
    let loop = c.loop-k in
    let test = c.loop-k-test in
    let cell-from = c.cell_from-c in
    let next-offset = c.next_offset-at in
    let F = args.source.now.format in
    let net = net_of args.source.now.file.now in
    let s = args.state.now in
    let cell = holds-cell (holds pre loop.k test.true s refl _ (cursor-cell pre loop.k test.true loop.invariant.2 cell-from.ensures)) in
    let free : crowds F s loop.k (c.cell_from-c.result) ≡ false =
    elim c.else-c-eq34.branch [ else-c-eq34-via-then-c-eq34+else-is_crowded w ↦ sym w.is_crowded.ensures ∙ w.if-is_crowded.false | else-c-eq34-via-else-c-eq34 w ↦ crowds-other _ _ _ F w.if-c-eq34.false ] in (
      fault-next loop.invariant.0 test.true (not-crowded-here F net s loop.k (ap (crowds F s loop.k) cell ∙ free)),
      omega arith,
      follows loop.k loop.invariant.2 next-offset.ensures,
    )

pub returns : goal.returns
returns c =
    let pre = c.requires in
    let args = c.args in
    let loop = c.loop-k in
    faults-end loop.invariant.0 c.loop-k-test.false ∙ sym (crowding-faults args.source.now.format (net_of args.source.now.file.now) args.state.now args.source.now.h.count (net-length pre))
