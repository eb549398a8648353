-- `moves::rewired` meets its contract: each input by itself. Assumes nothing.
use Rattle.std.proofs.Common.{◌≡◌, ℕ, Bool, true, false, refl, ap₂}
use Rattle.model.specs.declared.Cell.{Cell}
use Rattle.model.specs.Word.{pick}
use Rattle.model.specs.Circuit.{cell, cell_row, names}
use Rattle.model.specs.CellSlices.{rewired}
use Rattle.netlist.proofs.moves.rewired.Goals as goal

-- a new number matters only where it is taken
taken : (name : Bool) (x y j : ℕ) → (name ≡ true → x ≡ y) → pick name x j ≡ pick name y j
taken true x y j e = e refl
taken false x y j e = refl

renamed : (c : Cell) (a b : ℕ) (f : ℕ → ℕ) → (names (cell_row c.kind).a ≡ true → a ≡ f c.a) → (names (cell_row c.kind).b ≡ true → b ≡ f c.b)
    → cell c.kind c.delay (pick (names (cell_row c.kind).a) a c.a) (pick (names (cell_row c.kind).b) b c.b) ≡ rewired f c
unfolding rewired
renamed c a b f first second =
    let row = cell_row c.kind in
    ap₂ (cell c.kind c.delay) (taken (names row.a) a (f c.a) c.a first) (taken (names row.b) b (f c.b) c.b second)

pub returns : goal.returns
returns c =
    let args = c.args in
    rw (
      c.input-2.ensures,
      c.names-2.ensures,
      c.input.ensures,
      c.names.ensures,
      c.cell_row-row.ensures,
    )
    (renamed args.c args.a args.b)
