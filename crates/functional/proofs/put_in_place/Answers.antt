-- `put_in_place` meets its contract. The invariant: the first k cells of the list are put in as the file; those that are left stand where they stood.
-- Assumes nothing.
use mathlib.Core.Path.{refl, sym, ◌∙◌}
use native.Mathlib.Omega.{arith}
use lib.ListN.{drop, length-drop}
use Rattle.model.specs.NetlistFile.{cells_at, in_list, file_of}
use Rattle.netlist.proofs.Bytes.{cells-length}
use Rattle.netlist.proofs.Putting.{filled_none}
use Rattle.functional.proofs.InPlace.{rest-whole, next-cell}
use Rattle.functional.proofs.put_in_place.Goals as goal

pub loop-k-init : goal.loop-k-init
loop-k-init c =
    let args = c.args in
    (refl, filled_none 0 (cells_at in_list (drop args.from args.d.now) 0 args.n) args.finish args.d.now 0)

pub cell_at-c-requires : goal.cell_at-c-requires
cell_at-c-requires c = (
  omega (arith, c.requires.0),
  rw (rest-whole c.loop-k.d c.args.from) (omega (arith, c.requires.1, c.requires.2, c.loop-k.invariant.0, length-drop c.args.from c.loop-k.d)),
)

pub loop-k-preserved : goal.loop-k-preserved
loop-k-preserved c =
    let args = c.args in
    let net = cells_at in_list (drop args.from args.d.now) 0 args.n in
    let filled = c.loop-k.invariant.1 in
    let read = rw (rest-whole c.loop-k.d args.from) at c.cell_at-c.ensures in (
      c.put_next-sum.auto.d ∙ c.loop-k.invariant.0,
      c.put_next-sum.ensures net args.d.now (cells-length in_list (drop args.from args.d.now) 0 args.n)
          (next-cell args.d.now args.from args.n args.finish c.requires.1 (omega arith) filled ∙ sym read) filled,
    )

pub shape_of-d : goal.shape_of-d
shape_of-d c = c.loop-k.invariant.0

pub returns : goal.returns
unfolding file_of
returns c =
    let args = c.args in
    c.loop-k.invariant.1.whole (omega (arith, cells-length in_list (drop args.from args.d.now) 0 args.n))
