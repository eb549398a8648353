-- The nodes of a list of node bytes are those nodes again, and the program that a reading's bytes are is the reading.
-- Assumes nothing.
use Rattle.std.specs.Prelude.{◌≡◌, List, [], ◌∷◌, ℕ, get_or}
use Rattle.std.proofs.Common.{◌∙◌, ap}
use Rattle.laws.specs.Program.NodeBytes.{nodes-back}
use Rattle.model.specs.declared.texts.Token.{Token}
use Rattle.model.specs.Program.{Code, Tree, stmt, node_bytes, preorder, none, as_stmt, forest, trees_at, program_of}
use Rattle.model.specs.Text.{Means}
use Rattle.theory.specs.Text.OneReading.{reading-tree}

-- the program that the bytes of a reading are
pub trees-back : {ts : List Token} {P : Code} → Means ts P → trees_at (node_bytes (preorder P)) 0 ≡ stmt P ∷ []
unfolding trees_at
trees-back {ts} {P} d = ap forest (nodes-back (preorder P)) ∙ reading-tree d

pub program-back : (w : ℕ) {ts : List Token} {P : Code} → Means ts P
    → program_of w 0 (node_bytes (preorder P)) ≡ record { bodies = []; main = P; pulse = w }
unfolding program_of as_stmt
program-back w d = ap (λ (l : List Tree). record { bodies = []; main = as_stmt (get_or l 0 none); pulse = w }) (trees-back d)
