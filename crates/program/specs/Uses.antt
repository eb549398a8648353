-- What a node or a statement does, itself or through calls, and that a subtree's nodes do what its statement does.
-- Assumes nothing.
use Rattle.std.specs.Prelude.{◌≡◌, Bool, true, ◌&&◌, ℕ, ◌+◌, ◌-◌, ◌≤◌, ◌<◌, eqb}
use Rattle.std.proofs.Math.Path.{refl, sym, ap, ap₂}
use Rattle.std.proofs.Common.{◌∙◌, subst, arith, lt-ltb, ne_eqb}
use Rattle.std.proofs.Math.Bool.{false, ◌||◌}
use mathlib.Core.List.{List, [], ◌∷◌, ◌++◌}
use Rattle.std.proofs.Math.Decide.{dec_lt}
use Rattle.std.proofs.Math.ListN.{get_or}
use Rattle.model.specs.declared.Node.{Node}
use Rattle.model.specs.Program.{Expr, const, var, compl, op, elem, Code, Stmt, ok, tick, assign, assign_elem, seq, par, ite, while, repeat, loop, exit, call, Tree, stmt, node_at, node_count, nodes_from, none, stmt_at, array_var, reads, writes, touches, preorder_e, preorder, node}
use Rattle.model.specs.Procedures.{inline, inlined, reaches, reached}
use Rattle.laws.specs.Program.Trees.{nodes-step, nodes-none, tree_at, trees-none}
use Rattle.program.specs.declared.clashes.Mark.{Mark}
use Rattle.program.specs.declared.clashes.Mark.TheVariants.{Writes, Touches, Calls}
use Rattle.program.specs.Ends.{Laid, past, past-trees, past-within}
use Rattle.laws.specs.Program.Preorder.{nodes_of, KnownT}
use Rattle.laws.specs.Program.Fit.{KnownE, Known}
use Rattle.laws.specs.Program.Passed.{Readable, known_at, par-sides}
use Rattle.program.specs.Ranges.{subtree}

-- Nodes --------------------------------------------------------------------------------------------------------------------------------

-- a node of kind k with number n does it by itself; of kinds 24 and 10 the variable is the array
unfoldable pub names : Mark → ℕ → ℕ → Bool
names (Writes x) k n = (eqb k 18 && eqb x n) || (eqb k 24 && eqb x (array_var n))
names (Touches x) k n = ((eqb k 18 || eqb k 2) && eqb x n) || ((eqb k 24 || eqb k 10) && eqb x (array_var n))
names (Calls q) k n = eqb k 27 && eqb q n

-- or by a body that it calls: T p tells whether body p does it
unfoldable pub marked : Mark → (ℕ → Bool) → Node → Bool
marked m T a = names m a.kind a.n || (eqb a.kind 27 && T a.n)

-- one of these nodes does
unfoldable pub any_marked : Mark → (ℕ → Bool) → List Node → Bool
any_marked m T [] = false
any_marked m T (a ∷ ns) = marked m T a || any_marked m T ns

-- Statements ---------------------------------------------------------------------------------------------------------------------------

-- where I p is body p without calls, and R p tells which procedures are reached from it
unfoldable pub has_by : (ℕ → Stmt) → (ℕ → ℕ → Bool) → Mark → Code → Bool
has_by I R (Writes x) P = writes (inline I P) x
has_by I R (Touches x) P = touches (inline I P) x
has_by I R (Calls q) P = reaches R P q

-- of body p
unfoldable pub carried_by : (ℕ → Stmt) → (ℕ → ℕ → Bool) → Mark → ℕ → Bool
carried_by I R (Writes x) p = writes (I p) x
carried_by I R (Touches x) p = touches (I p) x
carried_by I R (Calls q) p = R p q

abbrev pub has : List Code → Mark → Code → Bool
has bodies m P = has_by (inlined bodies) (reached bodies) m P

abbrev pub carried : List Code → Mark → ℕ → Bool
carried bodies m p = carried_by (inlined bodies) (reached bodies) m p

-- node i is a statement of a program that is read, with its ends
pub record Side (s ends : List ℕ) (i : ℕ) : Type 0 where
  pub procedures : ℕ
  pub readable : Readable procedures s
  pub laid : Laid s ends
  pub statement : tree_at s i ≡ stmt (stmt_at s i)

-- A search through nodes ---------------------------------------------------------------------------------------------------------------

module _ (m : Mark) (T : ℕ → Bool) (s : List ℕ) (to i : ℕ) where
  pub marked-here : (a : Node) → a ≡ node_at s i → i < to → marked m T a ≡ true → true ≡ any_marked m T (nodes_from s i (to - i))
  unfolding any_marked
  marked-here a ea h e = rw (nodes-step s i to h, ← ea, e)

  pub marked_next : (a : Node) → a ≡ node_at s i → i < to → marked m T a ≡ false
      → any_marked m T (nodes_from s i (to - i)) ≡ any_marked m T (nodes_from s (i + 1) (to - (i + 1)))
  unfolding any_marked
  marked_next a ea h e = rw (nodes-step s i to h, ← ea, e)

  pub marked-end : to ≤ i → false ≡ any_marked m T (nodes_from s i (to - i))
  unfolding any_marked
  marked-end h = rw (nodes-none s i to h)

-- Nodes and statements -----------------------------------------------------------------------------------------------------------------

or-false : (a : Bool) → (a || false) ≡ a
or-false true = refl
or-false false = refl

or_assoc : (a b c : Bool) → (a || b || c) ≡ (a || (b || c))
or_assoc true b c = refl
or_assoc false b c = refl

-- what an expression does: it may only read
unfoldable reads_by : Mark → Expr → Bool
reads_by (Writes x) e = false
reads_by (Touches x) e = reads e x
reads_by (Calls q) e = false

module _ (m : Mark) (T : ℕ → Bool) where
  marked_append : (l n : List Node) → any_marked m T (l ++ n) ≡ (any_marked m T l || any_marked m T n)
  unfolding any_marked
  marked_append [] n = refl
  marked_append (a ∷ l) n =
      ap (λ (b : Bool). marked m T a || b) (marked_append l n) ∙ sym (or_assoc (marked m T a) (any_marked m T l) (any_marked m T n))

  marked-two : (l n : List Node) (p q : Bool) → any_marked m T l ≡ p → any_marked m T n ≡ q → any_marked m T (l ++ n) ≡ (p || q)
  marked-two l n p q e f = marked_append l n ∙ ap₂ ◌||◌ e f

-- a node's own, by the kinds of expressions
names-const : (m : Mark) (n : ℕ) → names m 1 n ≡ reads_by m (const n)
unfolding names reads reads_by
names-const (Writes x) n = refl
names-const (Touches x) n = refl
names-const (Calls q) n = refl

names-var : (m : Mark) (n : ℕ) → names m 2 n ≡ reads_by m (var n)
unfolding names reads reads_by
names-var (Writes x) n = refl
names-var (Touches x) n = or-false (eqb x n)
names-var (Calls q) n = refl

names-compl : (m : Mark) → names m 3 0 ≡ false
unfolding names
names-compl (Writes x) = refl
names-compl (Touches x) = refl
names-compl (Calls q) = refl

names-op : (m : Mark) (k : ℕ) → 4 ≤ k → k ≤ 9 → names m k 0 ≡ false
unfolding names
names-op (Writes x) k l h = rw (ne_eqb k 18 (λ e. omega (arith, e)), ne_eqb k 24 (λ e. omega (arith, e)))
names-op (Touches x) k l h =
    rw (ne_eqb k 18 (λ e. omega (arith, e)), ne_eqb k 2 (λ e. omega (arith, e)), ne_eqb k 24 (λ e. omega (arith, e)), ne_eqb k 10 (λ e. omega (arith, e)))
names-op (Calls q) k l h = rw (ne_eqb k 27 (λ e. omega (arith, e)))

reads-op : (m : Mark) (k : ℕ) (a b : Expr) → (reads_by m a || reads_by m b) ≡ reads_by m (op k a b)
unfolding reads reads_by
reads-op (Writes x) k a b = refl
reads-op (Touches x) k a b = refl
reads-op (Calls q) k a b = refl

reads-compl : (m : Mark) (e : Expr) → reads_by m e ≡ reads_by m (compl e)
unfolding reads reads_by
reads-compl (Writes x) e = refl
reads-compl (Touches x) e = refl
reads-compl (Calls q) e = refl

reads-elem : (m : Mark) (k : ℕ) (e : Expr) → (names m 10 k || reads_by m e) ≡ reads_by m (elem k e)
unfolding names reads reads_by
reads-elem (Writes x) k e = refl
reads-elem (Touches x) k e = refl
reads-elem (Calls q) k e = refl

module _ (m : Mark) (T : ℕ → Bool) where
  -- a node of a kind that is no call
  own : (k d n : ℕ) (b : Bool) → eqb k 27 ≡ false → names m k n ≡ b → marked m T (node k d n) ≡ b
  unfolding marked
  own k d n b e f = ap₂ (λ (p q : Bool). p || (q && T n)) f e ∙ or-false b

  silent : (k d n : ℕ) (l : List Node) (b : Bool) → eqb k 27 ≡ false → names m k n ≡ false → any_marked m T l ≡ b → any_marked m T (node k d n ∷ l) ≡ b
  unfolding any_marked
  silent k d n l b e f g = ap₂ ◌||◌ (own k d n false e f) g

  marked-reads : (e : Expr) → KnownE e → any_marked m T (preorder_e e) ≡ reads_by m e
  unfolding preorder_e any_marked
  marked-reads (const n) g = or-false _ ∙ own 1 0 n _ refl (names-const m n)
  marked-reads (var n) g = or-false _ ∙ own 2 0 n (reads_by m (var n)) refl (names-var m n)
  marked-reads (compl e) g = silent 3 0 0 (preorder_e e) _ refl (names-compl m) (marked-reads e g ∙ reads-compl m e)
  marked-reads (op k a b) g =
      silent k 0 0 (preorder_e a ++ preorder_e b) _ (ne_eqb k 27 (λ e. omega (arith, g.1))) (names-op m k g.0 g.1)
      (marked-two m T (preorder_e a) (preorder_e b) _ _ (marked-reads a g.2) (marked-reads b g.3) ∙ reads-op m k a b)
  marked-reads (elem k e) g = ap₂ ◌||◌ (own 10 0 k _ refl refl) (marked-reads e g) ∙ reads-elem m k e

-- what a statement does, by its parts
module _ (I : ℕ → Stmt) (R : ℕ → ℕ → Bool) where
  has-none : (m : Mark) → (false ≡ has_by I R m ok) × ((d : ℕ) → false ≡ has_by I R m (tick d)) × (false ≡ has_by I R m exit)
  unfolding has_by inline writes touches reaches
  has-none (Writes x) = (refl, λ d. refl, refl)
  has-none (Touches x) = (refl, λ d. refl, refl)
  has-none (Calls q) = (refl, λ d. refl, refl)

  has-assign : (m : Mark) (d y : ℕ) (e : Expr) → (names m 18 y || reads_by m e) ≡ has_by I R m (assign d y e)
  unfolding has_by inline writes touches reaches names reads_by
  has-assign (Writes x) d y e = or-false (eqb x y || false) ∙ or-false (eqb x y)
  has-assign (Touches x) d y e = ap (λ (b : Bool). b || reads e x) (or-false (eqb x y))
  has-assign (Calls q) d y e = refl

  has-elem : (m : Mark) (d k : ℕ) (i e : Expr) → (names m 24 k || (reads_by m i || reads_by m e)) ≡ has_by I R m (assign_elem d k i e)
  unfolding has_by inline writes touches reaches names reads_by
  has-elem (Writes x) d k i e = or-false (eqb x (array_var k))
  has-elem (Touches x) d k i e = refl
  has-elem (Calls q) d k i e = refl

  has-two : (m : Mark) (P Q : Code) → ((has_by I R m P || has_by I R m Q) ≡ has_by I R m (seq P Q)) × ((has_by I R m P || has_by I R m Q) ≡ has_by I R m (par P Q))
  unfolding has_by inline writes touches reaches
  has-two (Writes x) P Q = (refl, refl)
  has-two (Touches x) P Q = (refl, refl)
  has-two (Calls q) P Q = (refl, refl)

  has-if : (m : Mark) (d : ℕ) (e : Expr) (P Q : Code) → (reads_by m e || (has_by I R m P || has_by I R m Q)) ≡ has_by I R m (ite d e P Q)
  unfolding has_by inline writes touches reaches reads_by
  has-if (Writes x) d e P Q = refl
  has-if (Touches x) d e P Q = refl
  has-if (Calls q) d e P Q = refl

  has-turns : (m : Mark) (d : ℕ) (e : Expr) (P : Code)
      → ((reads_by m e || has_by I R m P) ≡ has_by I R m (while d e P)) × ((reads_by m e || has_by I R m P) ≡ has_by I R m (repeat d e P))
  unfolding has_by inline writes touches reaches reads_by
  has-turns (Writes x) d e P = (refl, refl)
  has-turns (Touches x) d e P = (refl, refl)
  has-turns (Calls q) d e P = (refl, refl)

  has-loop : (m : Mark) (d : ℕ) (P : Code) → has_by I R m P ≡ has_by I R m (loop d P)
  unfolding has_by inline writes touches reaches
  has-loop (Writes x) d P = refl
  has-loop (Touches x) d P = refl
  has-loop (Calls q) d P = refl

  has-call : (m : Mark) (d p : ℕ) → (names m 27 p || carried_by I R m p) ≡ has_by I R m (call d p)
  unfolding has_by inline writes touches reaches names carried_by
  has-call (Writes x) d p = refl
  has-call (Touches x) d p = refl
  has-call (Calls q) d p = refl

-- the nodes without children and with no use of x
names-other : (m : Mark) → (names m 16 0 ≡ false) × (names m 17 0 ≡ false) × (names m 19 0 ≡ false) × (names m 20 0 ≡ false) × (names m 21 0 ≡ false)
    × (names m 22 0 ≡ false) × (names m 23 0 ≡ false) × (names m 25 0 ≡ false) × (names m 26 0 ≡ false)
unfolding names
names-other (Writes x) = (refl, refl, refl, refl, refl, refl, refl, refl, refl)
names-other (Touches x) = (refl, refl, refl, refl, refl, refl, refl, refl, refl)
names-other (Calls q) = (refl, refl, refl, refl, refl, refl, refl, refl, refl)

module _ (m : Mark) (T : ℕ → Bool) (I : ℕ → Stmt) (R : ℕ → ℕ → Bool) (same : (p : ℕ) → T p ≡ carried_by I R m p) where
  pub marked-has : (P : Code) → Known P → any_marked m T (preorder P) ≡ has_by I R m P
  unfolding preorder any_marked marked
  marked-has ok g = silent m T 16 0 0 [] _ refl (names-other m).0 refl ∙ (has-none I R m).0
  marked-has (tick d) g = silent m T 17 d 0 [] _ refl (names-other m).1 refl ∙ (has-none I R m).1 d
  marked-has (assign d y e) g = ap₂ ◌||◌ (own m T 18 d y _ refl refl) (marked-reads m T e g.2) ∙ has-assign I R m d y e
  marked-has (assign_elem d k i e) g =
      ap₂ ◌||◌ (own m T 24 d k _ refl refl) (marked-two m T (preorder_e i) (preorder_e e) _ _ (marked-reads m T i g.2) (marked-reads m T e g.3))
      ∙ has-elem I R m d k i e
  marked-has (seq P Q) g =
      silent m T 19 0 0 (preorder P ++ preorder Q) _ refl (names-other m).2
      (marked-two m T (preorder P) (preorder Q) _ _ (marked-has P g.0) (marked-has Q g.1) ∙ (has-two I R m P Q).0)
  marked-has (par P Q) g =
      silent m T 20 0 0 (preorder P ++ preorder Q) _ refl (names-other m).3
      (marked-two m T (preorder P) (preorder Q) _ _ (marked-has P g.0) (marked-has Q g.1) ∙ (has-two I R m P Q).1)
  marked-has (ite d e P Q) g =
      silent m T 21 d 0 (preorder_e e ++ (preorder P ++ preorder Q)) _ refl (names-other m).4
      (marked-two m T (preorder_e e) (preorder P ++ preorder Q) _ _ (marked-reads m T e g.1)
      (marked-two m T (preorder P) (preorder Q) _ _ (marked-has P g.2) (marked-has Q g.3))
      ∙ has-if I R m d e P Q)
  marked-has (while d e P) g =
      silent m T 22 d 0 (preorder_e e ++ preorder P) _ refl (names-other m).5
      (marked-two m T (preorder_e e) (preorder P) _ _ (marked-reads m T e g.1) (marked-has P g.2) ∙ (has-turns I R m d e P).0)
  marked-has (repeat d e P) g =
      silent m T 23 d 0 (preorder_e e ++ preorder P) _ refl (names-other m).6
      (marked-two m T (preorder_e e) (preorder P) _ _ (marked-reads m T e g.1) (marked-has P g.2) ∙ (has-turns I R m d e P).1)
  marked-has (loop d P) g = silent m T 25 d 0 (preorder P) _ refl (names-other m).7 (marked-has P g.1 ∙ has-loop I R m d P)
  marked-has exit g = silent m T 26 0 0 [] _ refl (names-other m).8 refl ∙ (has-none I R m).2
  marked-has (call d p) g = or-false _ ∙ ap (λ (b : Bool). names m 27 p || b) (same p) ∙ has-call I R m d p

-- the nodes of a side
module _ (s ends : List ℕ) (i : ℕ) (S : Side s ends i) where
  pub side-below : i < node_count s
  side-below = go (dec_lt i (node_count s))
    where
      go : Dec (i < node_count s) → i < node_count s
      go (yes h) = h
      go (no n) =
          let m : node_count s ≤ i = omega arith in
          let e : none ≡ stmt (stmt_at s i) = sym (ap (λ (ts : List Tree). get_or ts 0 none) (trees-none s i m)) ∙ S.statement in
          absurd (let z : ◌≡◌ {A = ℕ} 0 1 = cc in omega arith)

  -- up to its end e
  module _ (e : ℕ) (ee : e ≡ past ends (node_count s) i) where
    pub side-within : e ≤ node_count s
    side-within =
        let b = side-below in
        past-within s ends i (S.laid.each i) e ee (omega arith)

    pub side-nodes : nodes_from s i (e - i) ≡ preorder (stmt_at s i)
    unfolding past
    side-nodes =
        let l : e ≡ get_or ends i 0 = ee ∙ rw (lt-ltb _ _ side-below) refl in
        ap (λ (e : ℕ). nodes_from s i (e - i)) l
        ∙ sym (subtree S.procedures s S.readable ends i side-below (S.laid.each i side-below))
        ∙ ap nodes_of S.statement

  pub side-known : Known (stmt_at s i)
  side-known = subst KnownT S.statement (known_at S.procedures s S.readable i side-below)

-- the sides of a parallel node i, which is a; j is where the second begins
pub sides : (k : ℕ) (s ends : List ℕ) → Readable k s → Laid s ends → (i : ℕ) → i < node_count s → (a : Node) → a ≡ node_at s i → a.kind ≡ 20
    → (j : ℕ) → j ≡ past ends (node_count s) (i + 1) → Side s ends (i + 1) × Side s ends j
sides k s ends R L i h a ea e j ej =
    let q = par-sides k s R i h (sym (ap (λ (a : Node). a.kind) ea) ∙ e) j (past-trees s ends (i + 1) (L.each (i + 1)) j ej) in
    (record { procedures = k; readable = R; laid = L; statement = q.0 }, record { procedures = k; readable = R; laid = L; statement = q.1 })
