-- Nodes that are read to the end without a fault make trees of the sorts that were wanted, and these nodes are the trees' nodes.
-- Assumes nothing.
use Rattle.model.specs.Refusals.{Accepted}
use Rattle.std.specs.Prelude.{◌≡◌, refl, List, [], ◌∷◌, ◌++◌, ℕ, zero, suc, ◌+◌, ◌≤◌, ◌<◌, eqb}
use Rattle.std.proofs.Common.{◌∙◌, ap, arith, eqb-true}
use Rattle.model.specs.declared.Node.{Node}
use Rattle.model.specs.Program.{node_at, nodes_from, row_of, forest}
use Rattle.model.specs.ProgramChecks.{node_fault, children, reading}
use Rattle.laws.specs.Refusals.Laws.{not-refused, pick_true}
use Rattle.laws.specs.Program.Preorder.{all_nodes, sorts_of, AllKnown}
use Rattle.laws.specs.Program.Grows.{grows}

pub record Whole (ns : List Node) (ws : List ℕ) : Type 0 where
  pub sorts : sorts_of (forest ns) ≡ ws
  pub nodes : all_nodes (forest ns) ≡ ns
  pub known : AllKnown (forest ns)

pub whole : (s : List ℕ) (n i : ℕ) (ws : List ℕ) → ((j : ℕ) → i ≤ j → j < i + n → node_fault (node_at s j) ≡ 0)
    → reading ws i (nodes_from s i n) ≡ Accepted → Whole (nodes_from s i n) ws
unfolding reading nodes_from forest
whole s zero i [] f r = record { sorts = refl; nodes = refl; known = tt }
whole s zero i (w ∷ ws) f r = not-refused r
whole s (suc n) i [] f r = not-refused r
whole s (suc n) i (w ∷ ws) f r =
    let a = node_at s i in
    let ns = nodes_from s (i + 1) n in
    let p = pick_true (eqb (row_of a.kind).sort w) (reading (children a.kind ++ ws) (i + 1) ns) _ r in
    let v = whole s n (i + 1) (children a.kind ++ ws) (λ j l m. f j (omega arith) (omega arith)) p.1 in
    let g = grows a (forest ns) ws v.sorts (f i (omega arith) (omega arith)) in
    record {
      sorts = g.sorts ∙ ap (λ (x : ℕ). x ∷ ws) (eqb-true _ _ p.0);
      nodes = g.nodes ∙ ap (λ (l : List Node). a ∷ l) v.nodes;
      known = g.known v.known;
    }
