-- The assignments of a part, told from its nodes and its walk cells: the compiler's marks without a walk over the program. Assumes nothing: definitions.
use Rattle.std.specs.Prelude.{List, [], ◌∷◌, ◌++◌, ℕ, ◌+◌, eqb, leb, get_or, drop}
use Rattle.model.specs.declared.Cell.{Cell}
use Rattle.model.specs.declared.Node.{Node}
use Rattle.model.specs.Word.{pick}
use Rattle.model.specs.Program.{array_var}

-- what the cells of kind 41 are for, in their order: the variable of an assignment; of an element assignment the array as a variable, and then 20 for
-- its index
unfoldable pub gates_in : List Node → List ℕ
gates_in [] = []
gates_in (a ∷ ns) =
    pick (eqb a.kind 18) (a.n ∷ gates_in ns) (pick (eqb a.kind 24) (array_var a.n ∷ (20 ∷ gates_in ns)) (gates_in ns))

-- the marks of one: its variable, its first delay cell, its own number, and where it is an element's that of the index, which is next to it
unfoldable pub gate : ℕ → ℕ → ℕ → List ℕ
gate x delay n = pick (eqb x 20) [] (x ∷ delay ∷ n ∷ pick (leb 16 x) (n + 1) 0 ∷ [])

-- of the walk cells from number n on
unfoldable pub gate_marks : ℕ → List Cell → List ℕ → List ℕ
gate_marks n [] xs = []
gate_marks n (c ∷ cs) xs =
    pick (eqb c.kind 41) (gate (get_or xs 0 0) c.a n ++ gate_marks (n + 1) cs (drop 1 xs)) (gate_marks (n + 1) cs xs)
