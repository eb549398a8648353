-- The statement at a node with the first so many bodies for its calls, by the node's kind; and what a call of one of them runs.
-- Assumes of an array of subtree ends that it is right, and that the program has that many trees.
use mathlib.Core.Path.{◌≡◌, refl, sym, ◌∙◌, ap, subst}
use mathlib.Core.List.{List, [], ◌∷◌, map}
use Prim.Native.Nat.{ℕ, zero, suc, ◌+◌, ◌≤◌, ◌<◌}
use native.Mathlib.Omega.{arith}
use native.Mathlib.Nat.{add-zero, le_of_suc-le-suc}
use lib.ListN.{length, get_or, take}
use lib.Seq.{get_or-drop}
use Rattle.model.specs.Program.{Code, Stmt, ok, Tree, stmt, none, as_stmt, node_count, trees_at, stmt_at, program_of, roots}
use Rattle.model.specs.Rules.{Costs, Store, run}
use Rattle.model.specs.Procedures.{body_at, table, inline, inlined, meaning}
use Rattle.laws.specs.Program.Inlined.{table-made, table_none, table_same}
use Rattle.laws.specs.Program.Passed.{program-trees}
use Rattle.program.specs.Roots.{Rooted, count-roots}
use Rattle.program.specs.Ends.{Laid, skips, skips-trees}
use Rattle.rules.specs.declared.ways.Ran.{Ran}
use Rattle.rules.specs.Ran.{Stands, called_at, meant_at, Statable, Ready}
use Rattle.rules.proofs.Runs.{stands-as}

-- a node that is P, read with these bodies for its calls: it is run as P is, and ready where P is
module _ (k : ℕ) (s : List ℕ) (i : ℕ) {P : Code} (e : stmt_at s i ≡ P) where
  meant-as : meant_at k s i ≡ inline (inlined (program_of 1 k s).bodies) P
  meant-as = ap (inline (inlined (program_of 1 k s).bodies)) e

  pub node-runs : (κ : Costs) (n : ℕ) (σ : Store) (r : Ran) (w : List ℕ)
      → Stands n (run κ n (inline (inlined (program_of 1 k s).bodies) P) σ) r w → Stands n (run κ n (meant_at k s i) σ) r w
  node-runs κ n σ r w S = stands-as κ n σ r w meant-as S

  pub node-ready : {ends : List ℕ} → Ready s ends k (meant_at k s i) → Ready s ends k (inline (inlined (program_of 1 k s).bodies) P)
  node-ready {ends} R = subst (Ready s ends k) meant-as R

-- bodies of the first so many trees
count-taken : (k : ℕ) (ts : List Tree) → k ≤ length ts → length (map as_stmt (take k ts)) ≡ k
count-taken zero ts l = refl
count-taken (suc k) [] l = absurd (omega arith)
count-taken (suc k) (t ∷ ts) l = ap suc (count-taken k ts (le_of_suc-le-suc l))

taken_at : (k p : ℕ) (ts : List Tree) → p < k → k ≤ length ts → get_or (map as_stmt (take k ts)) p ok ≡ as_stmt (get_or ts p none)
taken_at zero p ts l o = absurd (omega arith)
taken_at (suc k) p [] l o = absurd (omega arith)
taken_at (suc k) zero (t ∷ ts) l o = refl
taken_at (suc k) (suc p) (t ∷ ts) l o = taken_at k p ts (le_of_suc-le-suc l) (le_of_suc-le-suc o)

module _ (s : List ℕ) (k : ℕ) (enough : k ≤ length (trees_at s 0)) where
  count-is : length (program_of 1 k s).bodies ≡ k
  unfolding program_of
  count-is = count-taken k (trees_at s 0) enough

  body_is : (p : ℕ) → p < k → body_at (program_of 1 k s).bodies p ≡ as_stmt (get_or (trees_at s 0) p none)
  unfolding program_of
  body_is p l = taken_at k p (trees_at s 0) l enough

  abbrev flat : ℕ → ℕ → Stmt
  flat n p = table ok (λ I j. inline I (body_at (program_of 1 k s).bodies j)) n p

  called_is : (p : ℕ) → called_at k s p ≡ flat k p
  unfolding inlined
  called_is p = ap (λ (n : ℕ). flat n p) count-is

  -- no more than so many
  pub called-none : (p : ℕ) → k ≤ p → called_at k s p ≡ ok
  called-none p l = called_is p ∙ table_none ok _ k p l

-- tree r begins at node i
tree_is : (s ends : List ℕ) → Laid s ends → (r i : ℕ) → i ≡ skips ends (node_count s) r 0 → stmt_at s i ≡ as_stmt (get_or (trees_at s 0) r none)
unfolding stmt_at
tree_is s ends L r i e =
    ap as_stmt
    (ap (λ (i : ℕ). get_or (trees_at s i) 0 none) e
    ∙ ap (λ (ts : List Tree). get_or ts 0 none) (skips-trees s ends 0 (λ j m n. L.each j n) r 0 (omega arith))
    ∙ get_or-drop r (trees_at s 0) 0 none ∙ ap (λ (n : ℕ). get_or (trees_at s 0) n none) (add-zero r))

-- the main program begins at node i
pub main-is : (s ends : List ℕ) → Laid s ends → (k i : ℕ) → i ≡ skips ends (node_count s) k 0 → meant_at k s i ≡ meaning (program_of 1 k s)
unfolding meaning program_of
main-is s ends L k i e = ap (inline (inlined (program_of 1 k s).bodies)) (tree_is s ends L k i e)

-- body p, which may call those before it, begins at node i
pub called-body : (s ends : List ℕ) → Laid s ends → (k : ℕ) → k ≤ length (trees_at s 0) → (p : ℕ) → p < k → (i : ℕ) → i ≡ skips ends (node_count s) p 0
    → called_at k s p ≡ meant_at p s i
unfolding inlined
called-body s ends L k enough p l i e =
    let below : p ≤ length (trees_at s 0) = omega (arith, enough) in
    let same : flat s k enough p ≡ flat s p below p =
    table_same ok _ _ p (λ I j m. ap (inline I) (body_is s k enough j (omega (arith, l)) ∙ sym (body_is s p below j m))) in
    called_is s k enough p ∙ table-made ok _ k p l
    ∙ ap (λ (I : ℕ → Stmt). inline I (body_at (program_of 1 k s).bodies p)) same
    ∙ ap (inline (flat s p below p)) (body_is s k enough p l ∙ sym (tree_is s ends L p i e))
    ∙ ap (λ (n : ℕ). inline (flat s p below n) (stmt_at s i)) (sym (count-is s p below))

pub body-ready : (s ends : List ℕ) (k p : ℕ) → Ready s ends k (called_at k s p) → p < k → (i : ℕ) → i ≡ skips ends (node_count s) p 0
    → Ready s ends p (meant_at p s i)
body-ready s ends k p R l i e =
    record {
      fit = subst (Statable s ends) (called-body s ends R.fit.laid k R.enough p l i e) R.fit;
      enough = omega (arith, R.enough);
    }

-- a program that is read has a tree more than procedures
count-stmts : (Ps : List Code) → length (map stmt Ps) ≡ length Ps
count-stmts [] = refl
count-stmts (P ∷ Ps) = ap suc (count-stmts Ps)

pub trees-enough : {k : ℕ} {s ends : List ℕ} → Rooted k s ends → k ≤ length (trees_at s 0)
trees-enough {k} {s} {ends} R =
    let e : length (trees_at s 0) ≡ k + 1 =
    ap length (program-trees k s R.readable 1) ∙ count-stmts (roots (program_of 1 k s)) ∙ count-roots R in
    omega (arith, e)
