-- The nodes and the sorts of a list of trees, and that its operators are known ones.
-- Assumes nothing: definitions.
use Rattle.std.specs.Prelude.{List, [], ◌∷◌, ◌++◌, ℕ}
use Rattle.model.specs.declared.Node.{Node}
use Rattle.model.specs.Program.{Tree, expr, stmt, preorder_e, preorder}
use Rattle.laws.specs.Program.Trees.{Each}
use Rattle.laws.specs.Program.Fit.{KnownE, Known}

abbrev pub nodes_of : Tree → List Node
nodes_of (expr e) = preorder_e e
nodes_of (stmt P) = preorder P

abbrev pub all_nodes : List Tree → List Node
all_nodes [] = []
all_nodes (t ∷ ts) = nodes_of t ++ all_nodes ts

-- the sort of a tree, as the table has it
abbrev pub sort_of : Tree → ℕ
sort_of (expr e) = 1
sort_of (stmt P) = 2

abbrev pub sorts_of : List Tree → List ℕ
sorts_of [] = []
sorts_of (t ∷ ts) = sort_of t ∷ sorts_of ts

abbrev pub KnownT : Tree → Type 0
KnownT (expr e) = KnownE e
KnownT (stmt P) = Known P

abbrev pub AllKnown : List Tree → Type 0
AllKnown ts = Each KnownT ts
