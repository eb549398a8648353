-- One node more before some trees: its tree has its sort and its nodes, where the trees have the sorts that its kind wants.
-- Assumes that the node is without a fault. One line for each kind, in the order of the table.
use Rattle.std.specs.Prelude.{◌≡◌, refl, Bool, true, false, ◌||◌, List, [], ◌∷◌, ◌++◌, ℕ, zero, suc, ◌≤◌, ◌<◌, length, ltb, eqb}
use Rattle.std.proofs.Common.{sym, ◌∙◌, ap, subst, append_assoc, append-nil, arith, not-suc-le-zero}
use Rattle.std.proofs.Math.Path.{ap₂}
use Rattle.std.proofs.Math.Decide.{dec_lt}
use Rattle.std.proofs.Math.ListN.{get_or-eq_default}
use borrow.Author.Tests.{eq-eqb, ltb-false}
use Rattle.model.specs.declared.Node.{Node}
use Rattle.model.specs.declared.kinds.Row.{Row}
use Rattle.model.specs.Word.{pick}
use Rattle.model.specs.Refusals.{fault_if}
use Rattle.model.specs.Program.{Expr, const, var, compl, op, elem, Code, ok, tick, assign, assign_elem, seq, par, ite, while, repeat, loop, exit, call, Tree, expr, stmt, kind_table, row_of, as_expr, as_stmt, expr_of, stmt_of, tree_of, grow, preorder_e, preorder, node}
use Rattle.model.specs.ProgramChecks.{unused_set, absent, node_fault, children}
use Rattle.laws.specs.Refusals.Laws.{or-false, fault-unless}
use Rattle.laws.specs.Program.Preorder.{nodes_of, all_nodes, sort_of, sorts_of, KnownT, AllKnown}

infixl 20 ◌then◌
-- Trees of wanted sorts ----------------------------------------------------------------------------------------------------------------

head_of : List ℕ → ℕ
head_of [] = 0
head_of (w ∷ ws) = w

tail_of : List ℕ → List ℕ
tail_of [] = []
tail_of (w ∷ ws) = ws

-- R holds of trees that begin with trees of the sorts cs, and of the sorts of those behind them
abbrev pub Given : List ℕ → (List Tree → List ℕ → Type 0) → Type 0
Given [] R = (us : List Tree) → R us (sorts_of us)
Given (w ∷ cs) R =
    elim (eqb w 1) [
      | true ↦ (e : Expr) → Given cs (λ (l : List Tree). R (expr e ∷ l))
      | false ↦ (P : Code) → Given cs (λ (l : List Tree). R (stmt P ∷ l))
    ]

pub sorted : (cs : List ℕ) (R : List Tree → List ℕ → Type 0) → Given cs R → (ts : List Tree) (ws : List ℕ) → sorts_of ts ≡ cs ++ ws → R ts ws
unfolding head_of tail_of
sorted [] R g ts ws h = subst (R ts) h (g ts)
sorted (w ∷ cs) R g [] ws h = absurd (omega (arith, ap length h))
sorted (w ∷ cs) R g (expr e ∷ ts) ws h =
    sorted cs (λ (l : List Tree). R (expr e ∷ l)) (subst (λ (w : ℕ). Given (w ∷ cs) R) (sym (ap head_of h)) g e) ts ws (ap tail_of h)
sorted (w ∷ cs) R g (stmt P ∷ ts) ws h =
    sorted cs (λ (l : List Tree). R (stmt P ∷ l)) (subst (λ (w : ℕ). Given (w ∷ cs) R) (sym (ap head_of h)) g P) ts ws (ap tail_of h)

-- Nodes without a fault ----------------------------------------------------------------------------------------------------------------

pub known-kind : (a : Node) → node_fault a ≡ 0 → (row_of a.kind).sort ≡ 0 → ⊥
unfolding node_fault
known-kind a f z = omega (arith, rw z at f)

fault-tests : (a b c : Bool) → pick a 2 (pick b 3 (fault_if c 4)) ≡ 0 → (b ≡ false) × (c ≡ false)
fault-tests true b c h = absurd (omega arith)
fault-tests false true c h = absurd (omega arith)
fault-tests false false c h = (refl, fault-unless c 4 (omega arith) h)

-- a field as it is in such a node: zero where the kind has no use for it
abbrev used : ℕ → ℕ → ℕ
used u v = pick (eqb u 0) 0 v

unused : (b : Bool) (v : ℕ) → pick b (ltb 0 v) false ≡ false → pick b 0 v ≡ v
unused true v h = omega (arith, ltb-false 0 v h)
unused false v h = refl

module _ (a : Node) (f : node_fault a ≡ 0) where
  row : Row
  row = row_of a.kind

  tests : ((unused_set row.delay a.delay || unused_set row.number a.n) ≡ false) × (absent row.number a.n ≡ false)
  unfolding node_fault row
  tests = fault-tests (eqb row.sort 0) (unused_set row.delay a.delay || unused_set row.number a.n) (absent row.number a.n) f

  -- a variable is below 16, and an array below 4
  pub low-variable : (row_of a.kind).number ≡ 2 → a.n < 16
  unfolding row absent
  low-variable e = omega (arith, ltb-false 15 a.n (or-false (ltb 15 a.n) _ (rw (eq-eqb row.number 2 e) at tests.1)).0)

  pub low-array : (row_of a.kind).number ≡ 3 → a.n < 4
  unfolding row absent
  low-array e = omega (arith, ltb-false 3 a.n (rw e at tests.1))

  cleared : node a.kind (used (row_of a.kind).delay a.delay) (used (row_of a.kind).number a.n) ≡ a
  unfolding row unused_set
  cleared =
      let z = or-false (unused_set row.delay a.delay) (unused_set row.number a.n) tests.0 in
      ap₂ (node a.kind) (unused (eqb row.delay 0) a.delay z.0) (unused (eqb row.number 0) a.n z.1)

-- One node more ------------------------------------------------------------------------------------------------------------------------

pub record Grown (a : Node) (ts : List Tree) (ws : List ℕ) : Type 0 where
  pub sorts : sorts_of (grow a ts) ≡ (row_of a.kind).sort ∷ ws
  pub nodes : all_nodes (grow a ts) ≡ a ∷ all_nodes ts
  pub behind : (vs : List Tree) → grow a (ts ++ vs) ≡ grow a ts ++ vs
  pub known : AllKnown ts → AllKnown (grow a ts)

nodes-append : (ts us : List Tree) → all_nodes (ts ++ us) ≡ all_nodes ts ++ all_nodes us
nodes-append [] us = refl
nodes-append (t ∷ ts) us = ap (◌++◌ (nodes_of t)) (nodes-append ts us) ∙ sym (append_assoc (nodes_of t) (all_nodes ts) (all_nodes us))

known-apart : (ts us : List Tree) → AllKnown (ts ++ us) → AllKnown ts × AllKnown us
known-apart [] us k = (tt, k)
known-apart (t ∷ ts) us k = let q = known-apart ts us k.1 in ((k.0, q.0), q.1)

-- by its tree t, over the children ts, whatever stands behind them
grown : {a : Node} (t : Tree) (ts us : List Tree) → ((vs : List Tree) → grow a (ts ++ vs) ≡ t ∷ vs) → sort_of t ≡ (row_of a.kind).sort
    → nodes_of t ≡ a ∷ all_nodes ts → (AllKnown ts → KnownT t) → Grown a (ts ++ us) (sorts_of us)
grown {a} t ts us made sort nodes known =
    record {
      sorts = ap sorts_of (made us) ∙ ap (λ (k : ℕ). k ∷ sorts_of us) sort;
      nodes = ap all_nodes (made us) ∙ ap (λ (l : List Node). l ++ all_nodes us) nodes ∙ ap (λ (l : List Node). a ∷ l) (sym (nodes-append ts us));
      behind = λ vs. ap (grow a) (append_assoc ts us vs) ∙ made (us ++ vs) ∙ sym (ap (λ (l : List Tree). l ++ vs) (made us));
      known = λ k. let q = known-apart ts us k in subst AllKnown (sym (made us)) (known q.0, q.1);
    }

-- Every kind ---------------------------------------------------------------------------------------------------------------------------

-- the node of a kind that is known, with the fields that it uses
abbrev Grows : ℕ → Type 0
Grows k = ((row_of k).sort ≡ 0 → ⊥) → (d n : ℕ) → Given (children k) (Grown (node k (used (row_of k).delay d) (used (row_of k).number n)))

none : (k : ℕ) → (row_of k).sort ≡ 0 → Grows k
none k z u = absurd (u z)

-- what is shown of the numbers below n, one by one
data Below (R : ℕ → Type 0) : ℕ → Type 0 where
  start : Below R 0
  ◌then◌ : {n : ℕ} → Below R n → R n → Below R (suc n)

below : (R : ℕ → Type 0) (n : ℕ) → Below R n → (k : ℕ) → k < n → R k
below R zero start k h = absurd (not-suc-le-zero h)
below R (suc n) (b then r) k h = go (below R n b k) (dec_lt k n)
  where
    go : (k < n → R k) → Dec (k < n) → R k
    go f (yes l) = f l
    go f (no m) =
        let e : n ≡ k = omega arith in
        subst R e r

kinds-grow : Below Grows 28
unfolding row_of children grow tree_of expr_of stmt_of as_expr as_stmt preorder_e preorder
kinds-grow =
    start then none 0 refl
    then (λ u d n us. grown (expr (const n)) [] us (λ vs. refl) refl refl (λ k. tt))
    then (λ u d n us. grown (expr (var n)) [] us (λ vs. refl) refl refl (λ k. tt))
    then (λ u d n e us. grown (expr (compl e)) (expr e ∷ []) us (λ vs. refl) refl (rw append-nil refl) (λ k. k.0))
    then (λ u d n e f us. grown (expr (op 4 e f)) (expr e ∷ expr f ∷ []) us (λ vs. refl) refl (rw append-nil refl) (λ k. (omega arith, omega arith, k.0, k.1.0)))
    then (λ u d n e f us. grown (expr (op 5 e f)) (expr e ∷ expr f ∷ []) us (λ vs. refl) refl (rw append-nil refl) (λ k. (omega arith, omega arith, k.0, k.1.0)))
    then (λ u d n e f us. grown (expr (op 6 e f)) (expr e ∷ expr f ∷ []) us (λ vs. refl) refl (rw append-nil refl) (λ k. (omega arith, omega arith, k.0, k.1.0)))
    then (λ u d n e f us. grown (expr (op 7 e f)) (expr e ∷ expr f ∷ []) us (λ vs. refl) refl (rw append-nil refl) (λ k. (omega arith, omega arith, k.0, k.1.0)))
    then (λ u d n e f us. grown (expr (op 8 e f)) (expr e ∷ expr f ∷ []) us (λ vs. refl) refl (rw append-nil refl) (λ k. (omega arith, omega arith, k.0, k.1.0)))
    then (λ u d n e f us. grown (expr (op 9 e f)) (expr e ∷ expr f ∷ []) us (λ vs. refl) refl (rw append-nil refl) (λ k. (omega arith, omega arith, k.0, k.1.0)))
    then (λ u d n e us. grown (expr (elem n e)) (expr e ∷ []) us (λ vs. refl) refl (rw append-nil refl) (λ k. k.0))
    then none 11 refl then none 12 refl then none 13 refl then none 14 refl then none 15 refl
    then (λ u d n us. grown (stmt ok) [] us (λ vs. refl) refl refl (λ k. tt))
    then (λ u d n us. grown (stmt (tick d)) [] us (λ vs. refl) refl refl (λ k. tt))
    then (λ u d n e us. grown (stmt (assign d n e)) (expr e ∷ []) us (λ vs. refl) refl (rw append-nil refl) (λ k. (tt, tt, k.0)))
    then (λ u d n P Q us. grown (stmt (seq P Q)) (stmt P ∷ stmt Q ∷ []) us (λ vs. refl) refl (rw append-nil refl) (λ k. (k.0, k.1.0)))
    then (λ u d n P Q us. grown (stmt (par P Q)) (stmt P ∷ stmt Q ∷ []) us (λ vs. refl) refl (rw append-nil refl) (λ k. (k.0, k.1.0, tt)))
    then (λ u d n e P Q us. grown (stmt (ite d e P Q)) (expr e ∷ stmt P ∷ stmt Q ∷ []) us (λ vs. refl) refl (rw append-nil refl) (λ k. (tt, k.0, k.1.0, k.1.1.0)))
    then (λ u d n e P us. grown (stmt (while d e P)) (expr e ∷ stmt P ∷ []) us (λ vs. refl) refl (rw append-nil refl) (λ k. (tt, k.0, k.1.0)))
    then (λ u d n e P us. grown (stmt (repeat d e P)) (expr e ∷ stmt P ∷ []) us (λ vs. refl) refl (rw append-nil refl) (λ k. (tt, k.0, k.1.0)))
    then (λ u d n i e us. grown (stmt (assign_elem d n i e)) (expr i ∷ expr e ∷ []) us (λ vs. refl) refl (rw append-nil refl) (λ k. (tt, tt, k.0, k.1.0)))
    then (λ u d n P us. grown (stmt (loop d P)) (stmt P ∷ []) us (λ vs. refl) refl (rw append-nil refl) (λ k. (tt, k.0)))
    then (λ u d n us. grown (stmt exit) [] us (λ vs. refl) refl refl (λ k. tt))
    then (λ u d n us. grown (stmt (call d n)) [] us (λ vs. refl) refl refl (λ k. (tt, tt)))

past-table : (k : ℕ) → 28 ≤ k → (row_of k).sort ≡ 0
unfolding row_of
past-table k l = ap (λ (r : Row). r.sort) (get_or-eq_default kind_table _ l)

pub grows : (a : Node) (ts : List Tree) (ws : List ℕ) → sorts_of ts ≡ children a.kind ++ ws → node_fault a ≡ 0 → Grown a ts ws
grows a ts ws h f = go (dec_lt a.kind 28)
  where
    go : Dec (a.kind < 28) → Grown a ts ws
    go (yes l) =
        subst (λ (b : Node). Grown b ts ws) (cleared a f)
        (sorted (children a.kind) _ (below Grows 28 kinds-grow a.kind l (known-kind a f) a.delay a.n) ts ws h)
    go (no m) = absurd (known-kind a f (past-table a.kind (omega arith)))
