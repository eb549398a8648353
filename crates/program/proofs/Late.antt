-- Refusal 24 in a root: its calls are found in its nodes.
-- Assumes nothing.
use mathlib.Core.Path.{◌≡◌, refl, sym, ◌∙◌, ap, ap₂}
use mathlib.Core.Bool.{Bool, true, false, ◌&&◌}
use mathlib.Core.List.{List, [], ◌∷◌, ◌++◌}
use Prim.Native.Nat.{ℕ, ◌+◌, ◌-◌, ◌≤◌, ◌<◌}
use native.Mathlib.Omega.{arith}
use native.Mathlib.Nat.{add-zero}
use lib.ListN.{length}
use lib.Dec.{eqb, leb}
use borrow.Author.Tests.{ne_eqb}
use Rattle.model.specs.declared.Node.{Node}
use Rattle.model.specs.Word.{pick}
use Rattle.model.specs.Refusals.{refuse, refuse_if, first, Checked, Accepted}
use Rattle.model.specs.Program.{Expr, const, var, compl, op, elem, Code, ok, tick, assign, assign_elem, seq, par, ite, while, repeat, loop, exit, call, node_at, node_count, nodes_from, stmt_at, preorder_e, preorder, node}
use Rattle.model.specs.ProgramChecks.{searched, late_in}
use Rattle.laws.specs.Refusals.Laws.{first_one}
use Rattle.laws.specs.Program.Trees.{nodes-step, nodes-none}
use Rattle.laws.specs.Program.Fit.{KnownE, Known}
use Rattle.program.specs.Ends.{past}
use Rattle.program.specs.Uses.{Side, side-nodes, side-known}

-- a node calls a procedure that is not below r
unfoldable pub calls-late : ℕ → Node → Bool
calls-late r a = eqb a.kind 27 && leb r a.n

-- the first of these nodes that does; they begin at node i
unfoldable pub late_nodes : ℕ → List Node → ℕ → Checked
late_nodes r [] i = Accepted
late_nodes r (a ∷ ns) i = pick (calls-late r a) (refuse 24 i) (late_nodes r ns (i + 1))

-- A search through nodes ---------------------------------------------------------------------------------------------------------------

module _ (r : ℕ) (s : List ℕ) (to i : ℕ) where
  pub late-here : (a : Node) → a ≡ node_at s i → i < to → (eqb a.kind 27 && leb r a.n) ≡ true → refuse 24 i ≡ late_nodes r (nodes_from s i (to - i)) i
  unfolding late_nodes calls-late
  late-here a ea h e = rw (nodes-step s i to h, ← ea, e)

  pub late-next : (a : Node) → a ≡ node_at s i → i < to → (eqb a.kind 27 && leb r a.n) ≡ false
      → late_nodes r (nodes_from s i (to - i)) i ≡ late_nodes r (nodes_from s (i + 1) (to - (i + 1))) (i + 1)
  unfolding late_nodes calls-late
  late-next a ea h e = rw (nodes-step s i to h, ← ea, e)

  pub late-end : to ≤ i → Accepted ≡ late_nodes r (nodes_from s i (to - i)) i
  unfolding late_nodes
  late-end h = rw (nodes-none s i to h)

-- Nodes and statements -----------------------------------------------------------------------------------------------------------------

module _ (r : ℕ) where
  late-append : (l m : List Node) (i : ℕ) → late_nodes r (l ++ m) i ≡ first (late_nodes r l i ∷ late_nodes r m (i + length l) ∷ [])
  unfolding late_nodes
  late-append [] m i = first_one _ ∙ ap (λ (j : ℕ). first (late_nodes r m j ∷ [])) (sym (add-zero i))
  late-append (a ∷ l) m i = go (calls-late r a) (late-append l m (i + 1))
    where
      go : (b : Bool) → late_nodes r (l ++ m) (i + 1) ≡ first (late_nodes r l (i + 1) ∷ late_nodes r m (i + 1 + length l) ∷ [])
          → pick b (refuse 24 i) (late_nodes r (l ++ m) (i + 1))
          ≡ first (pick b (refuse 24 i) (late_nodes r l (i + 1)) ∷ late_nodes r m (i + length (a ∷ l)) ∷ [])
      go true h = refl
      go false h =
          let e : i + 1 + length l ≡ i + length (a ∷ l) = omega arith in
          h ∙ ap (λ (j : ℕ). first (late_nodes r l (i + 1) ∷ late_nodes r m j ∷ [])) e

  -- nodes that are no calls
  late-quiet : (l m : List Node) (i : ℕ) → late_nodes r l i ≡ Accepted → late_nodes r (l ++ m) i ≡ late_nodes r m (i + length l)
  late-quiet l m i e = late-append l m i ∙ ap (λ (c : Checked). first (c ∷ late_nodes r m (i + length l) ∷ [])) e ∙ sym (first_one _)

  late-own : (k d n i : ℕ) (ns : List Node) → eqb k 27 ≡ false → late_nodes r (node k d n ∷ ns) i ≡ late_nodes r ns (i + 1)
  unfolding late_nodes calls-late
  late-own k d n i ns e = rw e refl

  late-expr : (e : Expr) → KnownE e → (i : ℕ) → late_nodes r (preorder_e e) i ≡ Accepted
  unfolding preorder_e late_nodes
  late-expr (const n) g i = late-own 1 0 n i [] refl
  late-expr (var n) g i = late-own 2 0 n i [] refl
  late-expr (compl e) g i = late-own 3 0 0 i (preorder_e e) refl ∙ late-expr e g (i + 1)
  late-expr (op k a b) g i =
      late-own k 0 0 i (preorder_e a ++ preorder_e b) (ne_eqb k 27 (λ e. omega (arith, g.1)))
      ∙ late-quiet (preorder_e a) (preorder_e b) (i + 1) (late-expr a g.2 (i + 1)) ∙ late-expr b g.3 (i + 1 + length (preorder_e a))
  late-expr (elem k e) g i = late-own 10 0 k i (preorder_e e) refl ∙ late-expr e g (i + 1)

  abbrev late : Bool → Code → ℕ → Checked
  late b P i = searched (λ inside i. Accepted) (λ p i. refuse_if (leb r p) 24 i) b P i

  late-two : (b : Bool) (P Q : Code) (i : ℕ) → late b P i ≡ late_nodes r (preorder P) i
      → late b Q (i + length (preorder P)) ≡ late_nodes r (preorder Q) (i + length (preorder P))
      → first (late b P i ∷ late b Q (i + length (preorder P)) ∷ []) ≡ late_nodes r (preorder P ++ preorder Q) i
  late-two b P Q i e f = ap₂ (λ (c d : Checked). first (c ∷ d ∷ [])) e f ∙ sym (late-append (preorder P) (preorder Q) i)

  -- behind a condition
  late-behind : (k d : ℕ) (e : Expr) (ns : List Node) (i : ℕ) → KnownE e → eqb k 27 ≡ false
      → late_nodes r (node k d 0 ∷ (preorder_e e ++ ns)) i ≡ late_nodes r ns (i + 1 + length (preorder_e e))
  late-behind k d e ns i g f = late-own k d 0 i (preorder_e e ++ ns) f ∙ late-quiet (preorder_e e) ns (i + 1) (late-expr e g (i + 1))

  late-nodes : (P : Code) → Known P → (b : Bool) (i : ℕ) → late b P i ≡ late_nodes r (preorder P) i
  unfolding searched preorder late_nodes calls-late
  late-nodes ok g b i = sym (late-own 16 0 0 i [] refl)
  late-nodes (tick d) g b i = sym (late-own 17 d 0 i [] refl)
  late-nodes (assign d x e) g b i = sym (late-own 18 d x i (preorder_e e) refl ∙ late-expr e g.2 (i + 1))
  late-nodes (assign_elem d k j e) g b i =
      sym
      (late-own 24 d k i (preorder_e j ++ preorder_e e) refl ∙ late-quiet (preorder_e j) (preorder_e e) (i + 1) (late-expr j g.2 (i + 1))
      ∙ late-expr e g.3 (i + 1 + length (preorder_e j)))
  late-nodes (seq P Q) g b i =
      late-two b P Q (i + 1) (late-nodes P g.0 b (i + 1)) (late-nodes Q g.1 b (i + 1 + length (preorder P)))
      ∙ sym (late-own 19 0 0 i (preorder P ++ preorder Q) refl)
  late-nodes (par P Q) g b i =
      late-two false P Q (i + 1) (late-nodes P g.0 false (i + 1)) (late-nodes Q g.1 false (i + 1 + length (preorder P)))
      ∙ sym (late-own 20 0 0 i (preorder P ++ preorder Q) refl)
  late-nodes (ite d e P Q) g b i =
      let j = i + 1 + length (preorder_e e) in
      late-two b P Q j (late-nodes P g.2 b j) (late-nodes Q g.3 b (j + length (preorder P)))
      ∙ sym (late-behind 21 d e (preorder P ++ preorder Q) i g.1 refl)
  late-nodes (while d e P) g b i =
      late-nodes P g.2 b (i + 1 + length (preorder_e e)) ∙ sym (late-behind 22 d e (preorder P) i g.1 refl)
  late-nodes (repeat d e P) g b i =
      late-nodes P g.2 b (i + 1 + length (preorder_e e)) ∙ sym (late-behind 23 d e (preorder P) i g.1 refl)
  late-nodes (loop d P) g b i = late-nodes P g.1 true (i + 1) ∙ sym (late-own 25 d 0 i (preorder P) refl)
  late-nodes exit g b i = sym (late-own 26 0 0 i [] refl)
  late-nodes (call d p) g b i = refl

-- a root's nodes, up to its end e
pub late-side : (r : ℕ) (s ends : List ℕ) (i : ℕ) → Side s ends i → (e : ℕ) → e ≡ past ends (node_count s) i
    → late_nodes r (nodes_from s i (e - i)) i ≡ late_in r (stmt_at s i) i
late-side r s ends i S e ee =
    ap (λ (ns : List Node). late_nodes r ns i) (side-nodes s ends i S e ee) ∙ sym (late-nodes r (stmt_at s i) (side-known s ends i S) false i)
