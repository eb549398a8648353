-- What the array of subtree ends says of an accepted program: each subtree is a range of its nodes.
-- Assumes nothing.
use Rattle.std.specs.Prelude.{◌≡◌, ℕ, ◌-◌, ◌<◌, length, take, drop}
use Rattle.std.proofs.Math.Path.{refl, ap}
use Rattle.std.proofs.Common.{sym, ◌∙◌, arith, length-append, take_at}
use mathlib.Core.List.{List, ◌++◌}
use Rattle.std.proofs.Math.ListN.{get_or}
use Rattle.model.specs.declared.Node.{Node}
use Rattle.model.specs.Program.{node_at, node_count, nodes_from, nodes_at, grow, trees_at}
use Rattle.laws.specs.Program.Trees.{nodes-split, tree_at, trees-step}
use Rattle.program.specs.Ends.{EndAt}
use Rattle.laws.specs.Program.Passed.{Readable, nodes-at}
use Rattle.laws.specs.Program.Preorder.{nodes_of, all_nodes}

cancel : (p q r : List Node) → p ++ r ≡ q ++ r → p ≡ q
cancel p q r e =
    let l : length p ≡ length q = omega (arith, simp length-append at (ap length e)) in
    sym (take_at p r (length q) l) ∙ ap (take (length q)) e ∙ take_at q r (length q) refl

module _ (k : ℕ) (s : List ℕ) (R : Readable k s) where
  -- the subtree of node i is the nodes from i up to its end
  pub subtree : (ends : List ℕ) (i : ℕ) → i < node_count s → EndAt s ends i → nodes_of (tree_at s i) ≡ nodes_from s i (get_or ends i 0 - i)
  unfolding grow
  subtree ends i h E =
      let e = get_or ends i 0 in
      let first : nodes_of (tree_at s i) ++ all_nodes (drop 1 (trees_at s i)) ≡ all_nodes (trees_at s i) = rw (trees-step s i h (node_at s i) refl) refl in
      let rest : all_nodes (drop 1 (trees_at s i)) ≡ nodes_at s e = ap all_nodes (sym E.rest) ∙ nodes-at k s R e E.within in
      cancel _ _ (nodes_at s e)
      (ap (λ (l : List Node). nodes_of (tree_at s i) ++ l) (sym rest) ∙ first ∙ nodes-at k s R i (omega arith)
      ∙ nodes-split s i e (node_count s) (omega (arith, E.later)) E.within)
