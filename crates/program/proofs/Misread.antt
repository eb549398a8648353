-- Refusals 5 and 6, one node further: what is still to be read is some expressions and then some statements.
-- Assumes nothing.
use mathlib.Core.Path.{◌≡◌, refl, sym, ◌∙◌, ap}
use mathlib.Core.List.{List, [], ◌∷◌, ◌++◌, append_assoc}
use Prim.Native.Nat.{ℕ, zero, suc, ◌+◌, ◌-◌, ◌≤◌, ◌<◌}
use native.Mathlib.Omega.{arith}
use lib.ListN.{replicate, replicate-append-replicate}
use lib.Dec.{eqb}
use borrow.Author.Tests.{eq-eqb, ne_eqb}
use Rattle.model.specs.declared.Node.{Node}
use Rattle.model.specs.declared.kinds.Row.{Row}
use Rattle.model.specs.Word.{pick}
use Rattle.model.specs.Refusals.{refuse, Accepted}
use Rattle.model.specs.Program.{node_at, node_count, nodes_at, row_of}
use Rattle.model.specs.ProgramChecks.{children, reading}
use Rattle.laws.specs.Program.Trees.{nodes-step, nodes-none}
use Rattle.program.specs.Table.{expr-stmts}

abbrev pub wanted : ℕ → ℕ → List ℕ
wanted e m = replicate e 1 ++ replicate m 2

-- so many statements in front of those that are wanted
more-stmts : (x y m : ℕ) → wanted x y ++ replicate m 2 ≡ wanted x (y + m)
more-stmts x y m = append_assoc (replicate x 1) (replicate y 2) (replicate m 2) ∙ ap (◌++◌ (replicate x 1)) (replicate-append-replicate y m 2)

-- so many expressions
more-exprs : (x e m : ℕ) → wanted x 0 ++ wanted e m ≡ wanted (x + e) m
more-exprs x e m =
    append_assoc (replicate x 1) [] (wanted e m)
    ∙ sym (append_assoc (replicate x 1) (replicate e 1) (replicate m 2))
    ∙ ap (λ (l : List ℕ). l ++ replicate m 2) (replicate-append-replicate x e 1)

module _ (s : List ℕ) (i : ℕ) where
  pub read_left : (e m : ℕ) → e ≡ 0 → m ≡ 0 → i < node_count s → refuse 6 i ≡ reading (wanted e m) i (nodes_at s i)
  unfolding reading
  read_left e m ez mz h = rw (nodes-step s i (node_count s) h, ez, mz)

  pub read_short : (e m : ℕ) → node_count s ≤ i → (e + m ≡ 0 → ⊥) → refuse 6 i ≡ reading (wanted e m) i (nodes_at s i)
  unfolding reading
  read_short zero zero h n = absurd (n refl)
  read_short zero (suc m) h n = rw (nodes-none s i (node_count s) h)
  read_short (suc e) m h n = rw (nodes-none s i (node_count s) h)

  pub read-end : (e m : ℕ) → e + m ≡ 0 → node_count s ≤ i → Accepted ≡ reading (wanted e m) i (nodes_at s i)
  unfolding reading
  read-end zero zero z h = rw (nodes-none s i (node_count s) h)
  read-end zero (suc m) z h = absurd (omega arith)
  read-end (suc e) m z h = absurd (omega arith)

  module _ (a : Node) (r : Row) (h : i < node_count s) (ea : a ≡ node_at s i) (er : r ≡ row_of a.kind) where
    -- where a node of sort w is wanted
    read_step : (w : ℕ) (ws : List ℕ)
        → reading (w ∷ ws) i (nodes_at s i) ≡ pick (eqb r.sort w) (reading (wanted r.exprs r.stmts ++ ws) (i + 1) (nodes_at s (i + 1))) (refuse 5 i)
    unfolding reading children
    read_step w ws = rw (nodes-step s i (node_count s) h, ← ea, ← er)

    wrong-sort : (w : ℕ) (ws : List ℕ) → (r.sort ≡ w → ⊥) → refuse 5 i ≡ reading (w ∷ ws) i (nodes_at s i)
    wrong-sort w ws n = sym (rw (read_step w ws, ne_eqb r.sort w n))

    right-sort : (w : ℕ) (ws : List ℕ) → r.sort ≡ w → reading (w ∷ ws) i (nodes_at s i) ≡ reading (wanted r.exprs r.stmts ++ ws) (i + 1) (nodes_at s (i + 1))
    right-sort w ws e = rw (read_step w ws, eq-eqb r.sort w e)

    pub read-no-stmt : (e m : ℕ) → e ≡ 0 → (m ≡ 0 → ⊥) → (r.sort ≡ 2 → ⊥) → refuse 5 i ≡ reading (wanted e m) i (nodes_at s i)
    read-no-stmt e zero ez n w = absurd (n refl)
    read-no-stmt e (suc m) ez n w = rw ez (wrong-sort 2 (replicate m 2) w)

    pub read-no-expr : (e m : ℕ) → (e ≡ 0 → ⊥) → (r.sort ≡ 1 → ⊥) → refuse 5 i ≡ reading (wanted e m) i (nodes_at s i)
    read-no-expr zero m n w = absurd (n refl)
    read-no-expr (suc e) m n w = wrong-sort 1 (wanted e m) w

    pub read-stmt : (e m : ℕ) → e ≡ 0 → (m ≡ 0 → ⊥) → r.sort ≡ 2
        → reading (wanted e m) i (nodes_at s i) ≡ reading (wanted r.exprs (m - 1 + r.stmts)) (i + 1) (nodes_at s (i + 1))
    read-stmt e zero ez n w = absurd (n refl)
    read-stmt e (suc m) ez n w =
        let q : r.stmts + m ≡ suc m - 1 + r.stmts = omega arith in
        rw ez
        (right-sort 2 (replicate m 2) w
        ∙ ap (λ (ws : List ℕ). reading ws (i + 1) (nodes_at s (i + 1))) (more-stmts r.exprs r.stmts m ∙ ap (wanted r.exprs) q))

    pub read-expr : (e m : ℕ) → (e ≡ 0 → ⊥) → r.sort ≡ 1
        → reading (wanted e m) i (nodes_at s i) ≡ reading (wanted (e - 1 + r.exprs) m) (i + 1) (nodes_at s (i + 1))
    read-expr zero m n w = absurd (n refl)
    read-expr (suc e) m n w =
        let q : r.exprs + e ≡ suc e - 1 + r.exprs = omega arith in
        let z : r.stmts ≡ 0 = ap (λ (r : Row). r.stmts) er ∙ expr-stmts a.kind (sym (ap (λ (r : Row). r.sort) er) ∙ w) in
        right-sort 1 (wanted e m) w
        ∙ ap (λ (ws : List ℕ). reading ws (i + 1) (nodes_at s (i + 1)))
        (ap (λ (y : ℕ). wanted r.exprs y ++ wanted e m) z ∙ more-exprs r.exprs e m ∙ ap (λ (x : ℕ). wanted x m) q)
