-- What an accepted program gives: what each refusal leaves, and that its nodes are those of its roots, the bodies and the main program.
-- Assumes nothing.
use Rattle.std.specs.Prelude.{◌≡◌, refl, false, ◌||◌, ℕ, zero, suc, ◌+◌, ◌-◌, ◌*◌, ◌%◌, ◌≤◌, ◌<◌, length, take, drop, eqb}
use Rattle.std.proofs.Common.{sym, ◌∙◌, ap₂, arith, add-one, length-append}
use Rattle.std.proofs.Math.Path.{ap}
use Rattle.std.proofs.Math.Bool.{or-true}
use mathlib.Core.List.{List, [], ◌∷◌, ◌++◌, map}
use Rattle.std.proofs.Math.ListN.{get_or}
use Rattle.std.proofs.Math.Dec.{ltb}
use borrow.Author.Tests.{lt-ltb, ltb-false, eqb-false}
use Rattle.model.specs.declared.Options.{Options}
use Rattle.model.specs.Refusals.{refuse, first, Accepted}
use Rattle.model.specs.Program.{Tree, expr, stmt, Code, node_at, node_count, nodes_at, row_of, none, as_stmt, trees_at, stmt_at, program_of, roots, time_in, least, preorder, preorders}
use Rattle.model.specs.Procedures.{inline, inlined, reached}
use Rattle.model.specs.ProgramChecks.{conflicts, shares, program_length_wrong, too_many_procedures, node_fault, children, reading, root_sorts, loose_exit, late_call, delay_fault, shared_fault, conflict_fault, program_checks, check_of}
use Rattle.model.specs.Calls.{check_call}
use Rattle.model.specs.NetlistFile.{pulse_wrong}
use Rattle.model.specs.TimeTables.{given_checks, given_check}
use Rattle.laws.specs.NetlistFile.Passed.{pulse-right}
use Rattle.laws.specs.Refusals.Laws.{not-refused, pick_true, or-false, all-accept, accept-take, refuse-unless, fault-unless, no-fault}
use Rattle.laws.specs.Program.Trees.{nodes-step, length-nodes, trees-cons, tree_at, each_at}
use Rattle.laws.specs.Program.Preorder.{nodes_of, all_nodes, sort_of, sorts_of, KnownT}
use Rattle.laws.specs.Program.Grows.{sorted}
use Rattle.laws.specs.Program.Whole.{Whole, whole}

-- What each refusal leaves -------------------------------------------------------------------------------------------------------------

-- refusals 1 to 6, with k procedures
pub record Readable (k : ℕ) (s : List ℕ) : Type 0 where
  pub few : k ≤ 8
  pub short : length s ≤ 800
  pub bytes : length s ≡ 4 * node_count s
  pub some : 1 ≤ node_count s
  pub faultless : (j : ℕ) → j < node_count s → node_fault (node_at s j) ≡ 0
  pub read : reading (root_sorts k) 0 (nodes_at s 0) ≡ Accepted

-- refusals 1 to 8, 22, 24 and 25, with operator times τ and pulse length w
pub record Passed (τ : ℕ → ℕ) (w k : ℕ) (s : List ℕ) : Type 0 where
  pub readable : Readable k s
  pub enclosed : loose_exit (roots (program_of w k s)) ≡ Accepted
  pub earlier : late_call (roots (program_of w k s)) ≡ Accepted
  pub slowless : (j : ℕ) → j < node_count s → least τ w (stmt_at s j) ≤ (node_at s j).delay
  pub lone : (j : ℕ) → j < node_count s →
      let bodies = (program_of w k s).bodies in
      shares (reached bodies) (length bodies) (stmt_at s j) ≡ false
  pub clashless : (j : ℕ) → j < node_count s → conflicts (inline (inlined (program_of w k s).bodies) (stmt_at s j)) ≡ false

pub right-length : (s : List ℕ) → program_length_wrong s ≡ false → length s ≤ 800
unfolding program_length_wrong
right-length s h = ltb-false 800 (length s) (or-false (ltb 800 (length s)) _ (or-false (eqb (length s) 0) _ h).1).0

-- a whole number of nodes, and at least one
whole-nodes : (s : List ℕ) → program_length_wrong s ≡ false → (length s ≡ 4 * node_count s) × (1 ≤ node_count s)
unfolding program_length_wrong
whole-nodes s h =
    let a = or-false (eqb (length s) 0) _ h in
    let b = or-false (ltb 800 (length s)) _ a.1 in
    let n = eqb-false (length s) 0 a.0 in
    let m = ltb-false 0 (length s % 4) b.1 in
    (omega arith, omega (arith, n))

-- a program above 800 bytes is refused whatever its nodes are
pub long-refused : (options : Options) (s : List ℕ) → 800 < length s → check_of options s ≡ refuse 1 0
unfolding check_of program_length_wrong
long-refused options s h =
    rw (lt-ltb 800 (length s) h, or-true (eqb (length s) 0), or-true (too_many_procedures options.procedures)) refl

module _ (τ : ℕ → ℕ) (w k : ℕ) (s : List ℕ) where
  pub readable : first (take 3 (program_checks τ w k s)) ≡ Accepted → Readable k s
  unfolding too_many_procedures
  readable e =
      let a = all-accept (take 3 (program_checks τ w k s)) e in
      let f = or-false (too_many_procedures k) (program_length_wrong s) (refuse-unless (too_many_procedures k || program_length_wrong s) 1 0 (a 0)) in
      record {
        few = ltb-false 8 k f.0;
        short = right-length s f.1;
        bytes = (whole-nodes s f.1).0;
        some = (whole-nodes s f.1).1;
        faultless = no-fault (λ i. node_fault (node_at s i)) (node_count s) (a 1);
        read = a 2;
      }

  pub passed : first (program_checks τ w k s) ≡ Accepted → Passed τ w k s
  unfolding delay_fault shared_fault conflict_fault
  passed e =
      let a = all-accept (program_checks τ w k s) e in
      let bodies = (program_of w k s).bodies in
      record {
        readable = readable (accept-take 3 (program_checks τ w k s) e);
        enclosed = a 3;
        earlier = a 4;
        slowless = λ j l.
            let slow = ltb (node_at s j).delay (least τ w (stmt_at s j)) in
            ltb-false _ _ (fault-unless slow 7 (omega arith) (no-fault (delay_fault τ w s) (node_count s) (a 5) j l));
        lone = λ j l.
            fault-unless (shares (reached bodies) (length bodies) (stmt_at s j)) 25 (omega arith) (no-fault (shared_fault bodies s) (node_count s) (a 6) j l);
        clashless = λ j l.
            fault-unless (conflicts (inline (inlined bodies) (stmt_at s j))) 8 (omega arith) (no-fault (conflict_fault bodies s) (node_count s) (a 7) j l);
      }

-- of a program that is accepted with what is given beside it, under its table's times and with so many procedures
pub accepted : (options : Options) (s : List ℕ) → check_call options s ≡ Accepted
    → Passed (time_in options.times) options.pulse options.procedures s
unfolding check_call check_of
accepted options s e =
    passed (time_in options.times) options.pulse options.procedures s (all-accept (given_check options ∷ check_of options s ∷ []) e 1)

-- and 27 leaves a pulse length of 1 to 8
pub accepted-pulse : (options : Options) (s : List ℕ) → check_call options s ≡ Accepted → (1 ≤ options.pulse) × (options.pulse ≤ 8)
unfolding check_call given_check
accepted-pulse options s e =
    pulse-right options.pulse
    (refuse-unless (pulse_wrong options.pulse) 27 0 (all-accept (given_checks options) (all-accept (given_check options ∷ check_of options s ∷ []) e 0) 0))

-- Trees and ranges of nodes ------------------------------------------------------------------------------------------------------------

reading-next : (s : List ℕ) (i : ℕ) (ws : List ℕ) → i < node_count s → reading ws i (nodes_at s i) ≡ Accepted
    → (vs : List ℕ) × (reading (children (node_at s i).kind ++ vs) (i + 1) (nodes_at s (i + 1)) ≡ Accepted)
unfolding reading
reading-next s i [] h r = not-refused (rw (nodes-step s i (node_count s) h) at r)
reading-next s i (w ∷ ws) h r =
    (ws, (pick_true (eqb (row_of (node_at s i).kind).sort w) _ _ (rw (nodes-step s i (node_count s) h) at r)).1)

no-trees : (ts : List Tree) → sorts_of ts ≡ [] → ts ≡ []
no-trees [] h = refl
no-trees (t ∷ ts) h = absurd (omega (arith, ap length h))

one-tree : (t : Tree) → sort_of t ≡ 2 → t ≡ stmt (as_stmt t)
unfolding as_stmt
one-tree (expr e) h = absurd (omega arith)
one-tree (stmt P) h = refl

sort-head : (t : Tree) (ts : List Tree) (w : ℕ) (ws : List ℕ) → sorts_of (t ∷ ts) ≡ w ∷ ws → (sort_of t ≡ w) × (sorts_of ts ≡ ws)
sort-head t ts w ws h = (ap (λ (l : List ℕ). get_or l 0 0) h, ap (drop 1) h)

-- so many statements, and one more, are the roots of a program
all-roots : (k : ℕ) (ts : List Tree) → sorts_of ts ≡ root_sorts k → ts ≡ map stmt (map as_stmt (take k ts) ++ (as_stmt (get_or ts k none) ∷ []))
all-roots k [] h = absurd (omega (arith, ap length h))
all-roots zero (t ∷ ts) h =
    let q = sort-head t ts 2 [] h in
    ap₂ (λ (u : Tree) (us : List Tree). u ∷ us) (one-tree t q.0) (no-trees ts q.1)
all-roots (suc k) (t ∷ ts) h =
    let q = sort-head t ts 2 (root_sorts k) h in
    ap₂ (λ (u : Tree) (us : List Tree). u ∷ us) (one-tree t q.0) (all-roots k ts q.1)

length-bodies : (k : ℕ) (ts : List Tree) → sorts_of ts ≡ root_sorts k → length (map as_stmt (take k ts)) ≡ k
length-bodies k [] h = absurd (omega (arith, ap length h))
length-bodies zero (t ∷ ts) h = refl
length-bodies (suc k) (t ∷ ts) h = ap suc (length-bodies k ts (sort-head t ts 2 (root_sorts k) h).1)

nodes-roots : (Ps : List Code) → all_nodes (map stmt Ps) ≡ preorders Ps
unfolding preorders
nodes-roots [] = refl
nodes-roots (P ∷ Ps) = ap (◌++◌ (preorder P)) (nodes-roots Ps)

module _ (k : ℕ) (s : List ℕ) (R : Readable k s) where
  -- from each node on nodes of some sorts are read
  pub reading-at : (i : ℕ) → i ≤ node_count s → (ws : List ℕ) × (reading ws i (nodes_at s i) ≡ Accepted)
  reading-at zero h = (root_sorts k, R.read)
  reading-at (suc i) h =
      let r = reading-at i (omega arith) in
      let n = reading-next s i r.0 (omega arith) r.1 in
      (children (node_at s i).kind ++ n.0, rw add-one at n.1)

  whole_from : (i : ℕ) (ws : List ℕ) → i ≤ node_count s → reading ws i (nodes_at s i) ≡ Accepted → Whole (nodes_at s i) ws
  whole_from i ws h r = whole s (node_count s - i) i ws (λ j l m. R.faultless j (omega arith)) r

  whole-at : (i : ℕ) → i ≤ node_count s → (ws : List ℕ) × (Whole (nodes_at s i) ws)
  whole-at i h = ((reading-at i h).0, whole_from i (reading-at i h).0 h (reading-at i h).1)

  pub nodes-at : (i : ℕ) → i ≤ node_count s → all_nodes (trees_at s i) ≡ nodes_at s i
  unfolding trees_at
  nodes-at i h = (whole-at i h).1.nodes

  -- its operators are of kinds 4 to 9
  pub known_at : (i : ℕ) → i < node_count s → KnownT (tree_at s i)
  unfolding trees_at
  known_at i h = each_at KnownT tt (trees_at s i) 0 (whole-at i (omega arith)).1.known

  -- the whole program is its roots
  pub program-trees : (w : ℕ) → trees_at s 0 ≡ map stmt (roots (program_of w k s))
  unfolding trees_at program_of
  program-trees w = all-roots k (trees_at s 0) (whole_from 0 (root_sorts k) (omega arith) R.read).sorts

  pub program-nodes : (w : ℕ) → preorders (roots (program_of w k s)) ≡ nodes_at s 0
  program-nodes w = sym (nodes-roots (roots (program_of w k s))) ∙ sym (ap all_nodes (program-trees w)) ∙ nodes-at 0 (omega arith)

  pub count-bodies : (w : ℕ) → length (program_of w k s).bodies ≡ k
  unfolding trees_at program_of
  count-bodies w = length-bodies k (trees_at s 0) (whole_from 0 (root_sorts k) (omega arith) R.read).sorts

  -- behind a node stand its children, of the sorts of its kind
  pub children-at : (i : ℕ) → i < node_count s → (ws : List ℕ) × (sorts_of (trees_at s (i + 1)) ≡ children (node_at s i).kind ++ ws)
  unfolding trees_at
  children-at i h =
      let r = reading-at i (omega arith) in
      let n = reading-next s i r.0 h r.1 in
      (n.0, (whole_from (i + 1) _ (omega arith) n.1).sorts)

  -- node j, behind the tree of node i, is as many nodes on as that tree has
  pub past-tree : (i j : ℕ) → i < node_count s → j ≤ node_count s → trees_at s j ≡ drop 1 (trees_at s i) → j ≡ i + length (nodes_of (tree_at s i))
  past-tree i j h l e =
      let tree = nodes_of (tree_at s i) in
      let from-i : length (tree ++ all_nodes (trees_at s j)) ≡ node_count s - i =
      ap (λ (ts : List Tree). length (tree ++ all_nodes ts)) e ∙ sym (ap (λ (ts : List Tree). length (all_nodes ts)) (trees-cons s i h (node_at s i) refl))
      ∙ ap length (nodes-at i (omega arith)) ∙ length-nodes s i (node_count s - i) in
      let from-j : length (all_nodes (trees_at s j)) ≡ node_count s - j = ap length (nodes-at j l) ∙ length-nodes s j (node_count s - j) in
      omega (arith, length-append tree (all_nodes (trees_at s j)), from-i, from-j)

  -- both sides of a parallel node are statements
  pub par-sides : (i : ℕ) → i < node_count s → (node_at s i).kind ≡ 20 → (j : ℕ) → trees_at s j ≡ drop 1 (trees_at s (i + 1))
      → (tree_at s (i + 1) ≡ stmt (stmt_at s (i + 1))) × (tree_at s j ≡ stmt (stmt_at s j))
  unfolding trees_at stmt_at as_stmt children row_of
  par-sides i h k j ej =
      let c = children-at i h in
      rw (ap (λ (ts : List Tree). get_or ts 0 none) ej)
      (sorted (2 ∷ 2 ∷ [])
      (λ (l : List Tree) (ws : List ℕ). (get_or l 0 none ≡ stmt (as_stmt (get_or l 0 none))) × (get_or (drop 1 l) 0 none ≡ stmt (as_stmt (get_or (drop 1 l) 0 none))))
      (λ P Q us. (refl, refl)) (trees_at s (i + 1)) c.0 (c.1 ∙ ap (λ (k : ℕ). children k ++ c.0) k))
