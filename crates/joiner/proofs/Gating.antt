-- The gates of a program, put in node by node. Assumes nothing.
use mathlib.Core.Path.{◌≡◌, refl, sym, ap, ◌∙◌}
use mathlib.Core.List.{List, [], ◌∷◌}
use Prim.Native.Nat.{ℕ, suc, ◌+◌, ◌*◌, ◌<◌, ◌≤◌}
use native.Mathlib.Omega.{arith}
use lib.ListN.{set, length}
use Rattle.std.specs.declared.slice.ChunksExact.{ChunksExact}
use Rattle.word.proofs.Chunks.{Cut}
use lib.Seq.{sets}
use borrow.Author.Tests.{ne_eqb}
use Rattle.model.specs.declared.Node.{Node}
use Rattle.model.specs.Program.{node_at, node_count, nodes_at, row_of}
use Rattle.model.specs.ProgramChecks.{node_fault}
use Rattle.laws.specs.Program.Passed.{Readable}
use Rattle.laws.specs.Program.Grows.{low-array}
use Rattle.laws.specs.Program.Trees.{nodes-step, nodes-none}
use Rattle.joiner.specs.Gates.{gates_in}

module _ (s : List ℕ) (i : ℕ) (l : i < node_count s) {a : Node} (e : a ≡ node_at s i) where
  here : gates_in (nodes_at s i) ≡ gates_in (a ∷ nodes_at s (i + 1))
  here = ap gates_in (nodes-step s i (node_count s) l ∙ ap (λ (b : Node). b ∷ nodes_at s (i + 1)) (sym e))

  pub gates-variable : a.kind ≡ 18 → gates_in (nodes_at s i) ≡ a.n ∷ gates_in (nodes_at s (i + 1))
  unfolding gates_in
  gates-variable k = here ∙ rw k refl

  pub gates-element : a.kind ≡ 24 → gates_in (nodes_at s i) ≡ (16 + a.n) ∷ (20 ∷ gates_in (nodes_at s (i + 1)))
  unfolding gates_in
  gates-element k = here ∙ rw k refl

  pub gates-none : (a.kind ≡ 18 → ⊥) → (a.kind ≡ 24 → ⊥) → gates_in (nodes_at s i) ≡ gates_in (nodes_at s (i + 1))
  unfolding gates_in
  gates-none n m = here ∙ rw (ne_eqb a.kind 18 n, ne_eqb a.kind 24 m) refl

  pub element-low : Readable 0 s → a.kind ≡ 24 → a.n < 4
  unfolding row_of
  element-low R k = low-array a (ap node_fault e ∙ R.faultless i l) (ap (λ (k : ℕ). (row_of k).number) k)

pub gates-end : (s : List ℕ) (i : ℕ) → node_count s ≤ i → gates_in (nodes_at s i) ≡ []
unfolding gates_in
gates-end s i l = ap gates_in (nodes-none s i (node_count s) l)

-- a loop that stands at node i, with the gates put in of those before it
pub record Gated (s start gates : List ℕ) (next : ℕ) (nodes : ChunksExact ℕ) : Type 0 where
  pub i : ℕ
  pub cut : Cut 4 s i nodes
  pub few : next ≤ 2 * i
  pub all : next + length (gates_in (nodes_at s i)) ≡ length (gates_in (nodes_at s 0))
  pub put : sets start 0 (gates_in (nodes_at s 0)) ≡ sets gates next (gates_in (nodes_at s i))

-- one and two put in
pub put_one : (d : List ℕ) (n x : ℕ) (xs : List ℕ) → sets d n (x ∷ xs) ≡ sets (set d n x) (n + 1) xs
put_one d n x xs =
    let e : suc n ≡ n + 1 = omega arith in
    ap (λ (k : ℕ). sets (set d n x) k xs) e

pub put_two : (d : List ℕ) (n x y : ℕ) (xs : List ℕ) → sets d n (x ∷ (y ∷ xs)) ≡ sets (set (set d n x) (n + 1) y) (n + 2) xs
put_two d n x y xs =
    let e : n + 1 + 1 ≡ n + 2 = omega arith in
    put_one d n x (y ∷ xs) ∙ put_one (set d n x) (n + 1) y xs ∙ ap (λ (k : ℕ). sets (set (set d n x) (n + 1) y) k xs) e
