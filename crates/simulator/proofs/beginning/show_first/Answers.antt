-- `show_first` meets its contract: the state so far is the pass up to cell k, which begins at the cursor, and j memories stand below it. Assumes nothing.
use Rattle.state.proofs.Standing.{stands-in}
use mathlib.Core.List.{List}
use mathlib.Core.Path.{◌≡◌, refl, sym, ◌∙◌, ap}
use Prim.Native.Nat.{ℕ, ◌<◌}
use native.Mathlib.Omega.{arith}
use lib.Dec.{eqb}
use lib.ListN.{length}
use Rattle.model.specs.Calls.{word_at}
use Rattle.model.specs.Circuit.{Netlist, cell_at, memories}
use Rattle.model.specs.State.{base, first_value, stored, shown}
use Rattle.model.specs.Word.{bit, put16}
use Rattle.model.specs.declared.Cell.{Cell}
use Rattle.model.specs.declared.Format.{Format}
use Rattle.laws.specs.State.Bytes.{bit-lt}
use Rattle.model.specs.NetlistFile.{cells_of, net_of}
use Rattle.netlist.proofs.Following.{follows}
use Rattle.simulator.proofs.AcceptedFile.{file-sixteen}
use Rattle.simulator.proofs.Cells.{fits-few, fits-room, net-length, cursor-there, cursor-low, cursor-cell, holds, holds-cell}
use Rattle.simulator.proofs.Memories.{below_more, below-lt, below-le}
use Rattle.simulator.proofs.Passes.{passed_none, passed-more}
use Rattle.simulator.proofs.beginning.show_first.Goals as goal

pub loop-k-init : goal.loop-k-init
unfolding memories
loop-k-init c = (passed_none, refl, refl)

pub cell_from-c-requires : goal.cell_from-c-requires
cell_from-c-requires c =
    let pre = c.requires in
    let loop = c.loop-k in
    cursor-there pre.0 loop.k c.loop-k-test.true loop.invariant.2

pub first_value-v-requires : goal.first_value-v-requires
first_value-v-requires c =
    let pre = c.requires in
    let loop = c.loop-k in
    let loop-test = c.loop-k-test in
    let cell-from = c.cell_from-c in
    let args = c.args in
    let here = cursor-cell pre.0 loop.k loop-test.true loop.invariant.2 cell-from.ensures in
    let z = holds pre.0 loop.k loop-test.true loop.state loop.invariant.0.long _ here in
    let net = net_of args.source.now.file.now in
    let e : cell_at net.cells loop.k ≡ cell-from.result = holds-cell z in
    let l : loop.k < length net.cells = rw (net-length pre.0) loop-test.true in
    let sixteen = file-sixteen args.source.now.format args.source.now.file.now args.state.now pre.0.runs in (
      z,
      pre.1,
      λ q. omega (arith, loop.invariant.1, sixteen, below-lt net.cells loop.k l (ap (λ (d : Cell). d.kind) e ∙ q)),
    )

pub store-requires : goal.store-requires
store-requires c =
    let pre = c.requires in
    let test = c.loop-k-test in
    let loop = c.loop-k in
    let cell-from = c.cell_from-c in
    let next-offset = c.next_offset-at in (
      holds pre.0 loop.k test.true loop.state loop.invariant.0.long _ (cursor-cell pre.0 loop.k test.true loop.invariant.2 cell-from.ensures),
      follows loop.k loop.invariant.2 next-offset.ensures,
    )

pub overflow_add-j : goal.overflow_add-j
unfolding bit
overflow_add-j c =
    let loop = c.loop-k in
    let pre = c.requires in
    let args = c.args in
    let cell-from = c.cell_from-c in
    let sixteen = file-sixteen args.source.now.format args.source.now.file.now args.state.now pre.0.runs in
    omega (arith, loop.invariant.1, sixteen, below-le (cells_of args.source.now.file.now) loop.k, c.from-j.ensures, bit-lt (eqb cell-from.result.kind 40))

-- cell k shows v, which is put in at i
shown_by : (F : Format) (net : Netlist) (words s t : List ℕ) (k i v : ℕ) → t ≡ stored F net s k → i ≡ base F k → v ≡ first_value F net (word_at words) s k
    → put16 t i v ≡ shown F net (first_value F net (word_at words)) s k
unfolding shown
shown_by F net words s t k i v a b c = rw (a, b, c) refl

pub loop-k-preserved : goal.loop-k-preserved
unfolding bit
loop-k-preserved c =
    let base-call = c.base-to in
    let args = c.args in
    let loop = c.loop-k in
    let cell-from = c.cell_from-c in
    let loop-test = c.loop-k-test in
    let put16-call = c.put16 in
    let store = c.store in
    let first-value = c.first_value-v in
    let pre = c.requires in
    let next-offset = c.next_offset-at in
    let net = net_of args.source.now.file.now in
    let here = cursor-cell pre.0 loop.k loop-test.true loop.invariant.2 cell-from.ensures in
    let e : cell_at net.cells loop.k ≡ cell-from.result = holds-cell (holds pre.0 loop.k loop-test.true args.state.now refl _ here) in
    let l : loop.k < length net.cells = rw (net-length pre.0) loop-test.true in (
      passed-more loop.invariant.0 loop-test.true (put16-call.auto.s ∙ store.auto.state)
          (put16-call.ensures ∙ shown_by args.source.now.format net args.words.now loop.state _ loop.k _ _ store.ensures base-call.ensures (first-value.ensures (sym loop.invariant.1))),
      omega (arith, loop.invariant.1, below_more net.cells loop.k l, ap (λ (d : Cell). bit (eqb d.kind 40)) e, c.from-j.ensures),
      follows loop.k loop.invariant.2 next-offset.ensures,
    )

pub next_offset-at-requires : goal.next_offset-at-requires
next_offset-at-requires c =
    let pre = c.requires in
    let loop = c.loop-k in
    cursor-low pre.0 loop.k c.loop-k-test.true loop.invariant.2

pub base-to-requires : goal.base-to-requires
base-to-requires c =
    let pre = c.requires in
    let test = c.loop-k-test in
    omega (arith, fits-few pre.0, test.true)

pub put16-requires : goal.put16-requires
put16-requires c =
    let args = c.args in
    let loop = c.loop-k in
    let test = c.loop-k-test in
    let pre = c.requires in
    let store = c.store in
    let st = stands-in args.source.now.format loop.state loop.k args.source.now.h.count test.true (fits-few pre.0) (omega (arith, fits-room pre.0, loop.invariant.0.long)) in
    omega (arith, c.base-to.ensures, st.front, store.auto.state)
