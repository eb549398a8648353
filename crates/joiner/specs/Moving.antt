-- A part's cells as they stand in the whole. Its inputs are renumbered by where in the part's own netlist they point: to its start, its delay cells,
-- its memories and arrays, its walk. One distance for all inputs would not do: a part's regions are torn apart.
-- Assumes nothing: definitions.
use Rattle.std.specs.Prelude.{ℕ, ◌+◌, ◌-◌, eqb, ltb}
use Rattle.model.specs.Word.{pick}

-- the new number of a part's wire j. The part's own first memory is m; in the whole, the first memory is M, and the part has the start s, delay cells
-- from d on and walk cells from c on. No delay cell and no walk cell names a clock or or a data or.
unfoldable pub new_number : ℕ → ℕ → ℕ → ℕ → ℕ → ℕ → ℕ
new_number m M s d c j =
    pick (eqb j 0) s
    (pick (ltb j 3) j
    (pick (ltb j m) (d + (j - 3))
    (pick (ltb j (m + 24)) (M + (j - m))
    (c + (j - (m + 24))))))
