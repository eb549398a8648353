-- `settle_all` meets its contract: the state so far is the pass up to cell k, the number is what it has in flight, and no line so far was crowded.
-- Assumes nothing.
use Rattle.state.specs.Crowds.{crowds}
use Rattle.std.specs.Prelude.{false}
use mathlib.Core.Path.{◌≡◌, refl, sym, ◌∙◌, ap}
use mathlib.Core.List.{List}
use Prim.Native.Nat.{ℕ, ◌<◌, ◌≤◌}
use native.Mathlib.Omega.{arith}
use lib.ListN.{length, get_or}
use Rattle.model.specs.declared.Cell.{Cell}
use Rattle.model.specs.Circuit.{shape}
use Rattle.model.specs.State.{base, settle}
use Rattle.model.specs.NetlistFile.{pulse_of}
use Rattle.netlist.proofs.Following.{follows}
use Rattle.simulator.proofs.Cells.{fits-pulse, fits-few, fits-room, fits-ordered, net-length, cursor-there, cursor-low, cursor-cell, holds, holds-cell}
use Rattle.simulator.proofs.Continuing.{accepts-none}
use Rattle.simulator.proofs.Crowding.{crowds-other}
use Rattle.simulator.proofs.InFlight.{settling-none, settling-spares, settling-crowded, settling-asks, settling-more, settling-all, settling-free, told-spares}
use Rattle.simulator.proofs.instant.settle_all.Goals as goal
use Rattle.simulator.proofs.instant.settle_all.Goals.{else-c-eq34-via-then-c-eq34+else-is_crowded, else-c-eq34-via-else-c-eq34}

pub loop-k-init : goal.loop-k-init
loop-k-init c =
    let pre = c.requires in
    (settling-none c.get32-number.ensures pre.1 (λ j. omega (arith, c.slice_known-1.given j)), refl)

pub cell_from-c-requires : goal.cell_from-c-requires
cell_from-c-requires c =
    let pre = c.requires in
    let loop = c.loop-k in
    cursor-there pre.0 loop.k c.loop-k-test.true loop.invariant.1

pub is_crowded-requires : goal.is_crowded-requires
is_crowded-requires c =
    let pre = c.requires in
    let loop = c.loop-k in
    let test = c.loop-k-test in
    let cell-from = c.cell_from-c in
    let here = cursor-cell pre.0 loop.k test.true loop.invariant.1 cell-from.ensures in
    let at = holds pre.0 loop.k test.true loop.state loop.invariant.0.passed.long _ here in
    (at.stands, at.sees, c.if-c-eq34.true)

pub returns-then-is_crowded : goal.returns-then-is_crowded
returns-then-is_crowded c =
    let test = c.loop-k-test in
    let cell-from = c.cell_from-c in
    let pre = c.requires in
    let args = c.args in
    let loop = c.loop-k in
    let taken = test.true in
    let here = cursor-cell pre.0 loop.k taken loop.invariant.1 cell-from.ensures in
    let cell = holds-cell (holds pre.0 loop.k taken args.state.now refl _ here) in
    let long = net-length pre.0 in record { check = c.refuse.ensures ∙ settling-crowded loop.invariant.0 long taken _ cell (sym c.is_crowded.ensures ∙ c.if-is_crowded.true); state = (λ e. accepts-none (sym e ∙ c.refuse.ensures)); spares = settling-spares loop.invariant.0 }

pub settle-number-requires : goal.settle-number-requires
settle-number-requires c =
    let test = c.loop-k-test in
    let cell-from = c.cell_from-c in
    let slice-known = c.slice_known-1 in
    let args = c.args in
    let pre = c.requires in
    let loop = c.loop-k in
    let taken = test.true in
    let here = cursor-cell pre.0 loop.k taken loop.invariant.1 cell-from.ensures in
    let at = holds pre.0 loop.k taken loop.state loop.invariant.0.passed.long _ here in
    let cell = holds-cell at in
    let long = net-length pre.0 in
    let free : crowds args.source.now.format loop.state loop.k (c.cell_from-c.result) ≡ false =
    elim c.else-c-eq34.branch [ else-c-eq34-via-then-c-eq34+else-is_crowded w ↦ sym w.is_crowded.ensures ∙ w.if-is_crowded.false | else-c-eq34-via-else-c-eq34 w ↦ crowds-other _ _ _ args.source.now.format w.if-c-eq34.false ] in
    let room : base args.source.now.format args.source.now.h.count ≤ length args.state.now = omega (arith, fits-room pre.0) in
    let bytes : (j : ℕ) → get_or args.state.now j 0 < 256 = λ j. omega (arith, slice-known.given j) in
    let asks = settling-asks loop.invariant.0 long taken _ cell (fits-ordered pre.0) room pre.1 bytes free (fits-few pre.0) in
    (at.stands, at.sees, asks.0, rw (fits-pulse pre.0) asks.1)

pub loop-k-preserved : goal.loop-k-preserved
loop-k-preserved c =
    let test = c.loop-k-test in
    let cell-from = c.cell_from-c in
    let next-offset = c.next_offset-at in
    let slice-known = c.slice_known-1 in
    let args = c.args in
    let pre = c.requires in
    let loop = c.loop-k in
    let taken = test.true in
    let here = cursor-cell pre.0 loop.k taken loop.invariant.1 cell-from.ensures in
    let cell = holds-cell (holds pre.0 loop.k taken args.state.now refl _ here) in
    let long = net-length pre.0 in
    let free : crowds args.source.now.format loop.state loop.k (c.cell_from-c.result) ≡ false =
    elim c.else-c-eq34.branch [ else-c-eq34-via-then-c-eq34+else-is_crowded w ↦ sym w.is_crowded.ensures ∙ w.if-is_crowded.false | else-c-eq34-via-else-c-eq34 w ↦ crowds-other _ _ _ args.source.now.format w.if-c-eq34.false ] in
    let room : base args.source.now.format args.source.now.h.count ≤ length args.state.now = omega (arith, fits-room pre.0) in
    let bytes : (j : ℕ) → get_or args.state.now j 0 < 256 = λ j. omega (arith, slice-known.given j) in
    let settled = rw (fits-pulse pre.0) at c.settle-number.ensures in (
      settling-more loop.invariant.0 long taken _ cell (fits-ordered pre.0) room pre.1 bytes free _ _ c.settle-number.auto.state
          (settled.state ∙ ap (λ (x : Cell). settle args.source.now.format (pulse_of args.source.now.file.now) (shape x.kind) loop.state loop.k x) (sym cell)) settled.number (λ j. omega (arith, c.slice_known-in-loop-k-1.given j)),
      follows loop.k loop.invariant.1 next-offset.ensures,
    )

pub next_offset-at-requires : goal.next_offset-at-requires
next_offset-at-requires c =
    let pre = c.requires in
    let loop = c.loop-k in
    cursor-low pre.0 loop.k c.loop-k-test.true loop.invariant.1

pub returns : goal.returns
returns c =
    let test = c.loop-k-test in
    let put32 = c.put32 in
    let loop = c.loop-k in
    let pre = c.requires in
    let done = test.false in record { check = settling-free loop.invariant.0 done (net-length pre.0); state = (λ e. put32.ensures ∙ settling-all loop.invariant.0 done); spares = (λ j h. ap (λ (t : List ℕ). get_or t j 0) put32.ensures ∙ told-spares loop.invariant.0 done j h) }
