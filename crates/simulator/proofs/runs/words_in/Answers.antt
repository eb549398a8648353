-- `words_in` meets its contract: j words are in place, and those of the memories from cell k on, which begins at the cursor, are to come. Assumes nothing.
use mathlib.Core.Path.{◌≡◌, refl, sym, ◌∙◌}
use Prim.Native.Nat.{◌<◌}
use native.Mathlib.Omega.{arith}
use lib.ListN.{length}
use Rattle.model.specs.Circuit.{cell_at}
use Rattle.model.specs.NetlistFile.{cells_of}
use Rattle.netlist.proofs.Following.{follows}
use Rattle.state.proofs.Standing.{stands-in}
use Rattle.simulator.proofs.AcceptedFile.{file-sixteen}
use Rattle.simulator.proofs.Cells.{fits-few, fits-room, net-length, net-cell, cursor-there, cursor-low, cursor-cell}
use Rattle.simulator.proofs.Memories.{collects-first, collects-room, collects-memory, collects-other, collects-all}
use Rattle.simulator.proofs.runs.words_in.Goals as goal
use Rattle.simulator.proofs.runs.words_in.Goals.{then-c-eq40, else-c-eq40}

pub loop-k-init : goal.loop-k-init
loop-k-init c =
    let args = c.args in
    let pre = c.requires in
    (omega arith, collects-first _ _ _ _ (file-sixteen args.source.now.format args.source.now.file.now args.state.now pre.runs) refl, refl)

pub cell_from-c-requires : goal.cell_from-c-requires
cell_from-c-requires c =
    let pre = c.requires in
    let loop = c.loop-k in
    cursor-there pre loop.k c.loop-k-test.true loop.invariant.2

pub next_offset-at-requires : goal.next_offset-at-requires
next_offset-at-requires c =
    let pre = c.requires in
    let loop = c.loop-k in
    cursor-low pre loop.k c.loop-k-test.true loop.invariant.2

pub bounds-words-j : goal.bounds-words-j
bounds-words-j c =
    let loop = c.loop-k in
    let args = c.args in
    let pre = c.requires in
    let cell-from = c.cell_from-c in
    let l : loop.k < args.source.now.h.count = c.loop-k-test.true in
    let m : loop.k < length (cells_of args.source.now.file.now) = rw (net-length pre) l in
    let e : cell_at (cells_of args.source.now.file.now) loop.k ≡ cell-from.result = net-cell pre loop.k l ∙ sym (cursor-cell pre loop.k l loop.invariant.2 cell-from.ensures) in
    omega (arith, collects-room args.source.now.format (cells_of args.source.now.file.now) args.state.now loop.words loop.j loop.k m cell-from.result e loop.invariant.1 c.if-c-eq40.true)

pub loop-k-preserved : goal.loop-k-preserved
loop-k-preserved c =
    let loop = c.loop-k in
    let args = c.args in
    let pre = c.requires in
    let cell-from = c.cell_from-c in
    let l : loop.k < args.source.now.h.count = c.loop-k-test.true in
    let m : loop.k < length (cells_of args.source.now.file.now) = rw (net-length pre) l in
    let e : cell_at (cells_of args.source.now.file.now) loop.k ≡ cell-from.result = net-cell pre loop.k l ∙ sym (cursor-cell pre loop.k l loop.invariant.2 cell-from.ensures) in (
      omega arith,
      elim c.if-c-eq40.branch [
        | then-c-eq40 w ↦ rw (w.words-is, w.j-is, c.now_at-v.ensures) (collects-memory args.source.now.format (cells_of args.source.now.file.now) args.state.now loop.words loop.j loop.k m cell-from.result e loop.invariant.1 w.if-c-eq40.true)
        | else-c-eq40 w ↦ rw (w.words-is, w.j-is) (collects-other args.source.now.format (cells_of args.source.now.file.now) args.state.now loop.words loop.j loop.k m cell-from.result e loop.invariant.1 w.if-c-eq40.false)
      ],
      follows loop.k loop.invariant.2 c.next_offset-at.ensures,
    )

pub returns : goal.returns
returns c =
    let pre = c.requires in
    let args = c.args in
    let loop = c.loop-k in
    collects-all args.source.now.format (cells_of args.source.now.file.now) args.state.now loop.words loop.j loop.k (omega (arith, net-length pre)) loop.invariant.1

pub now_at-v-requires : goal.now_at-v-requires
now_at-v-requires c =
    let args = c.args in
    let pre = c.requires in
    stands-in args.source.now.format args.state.now c.loop-k.k args.source.now.h.count c.loop-k-test.true (fits-few pre) (omega (arith, fits-room pre))
