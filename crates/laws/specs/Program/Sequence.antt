-- A sequence of two accepted programs without procedures is an accepted program, if it is short enough, and its statement is the sequence of theirs.
-- Assumes nothing.
use Rattle.std.specs.Prelude.{◌≡◌, Bool, not, ◌||◌, ℕ, zero, suc, ◌+◌, ◌-◌, ◌*◌, ◌%◌, ◌<◌, ◌≤◌, leb, eqb}
use Rattle.std.proofs.Math.Path.{refl, ap, ap₂}
use Rattle.std.proofs.Common.{sym, subst, ◌∙◌, add-zero, arith, length-append, get_or-append-add, le-ltb, ne_eqb}
use Rattle.std.proofs.Math.Bool.{true, false}
use mathlib.Core.List.{List, [], ◌∷◌, ◌++◌, append_assoc, append-nil}
use Rattle.std.proofs.Math.Decide.{dec_lt}
use Rattle.std.proofs.Math.ListN.{length, get_or, get_or-append}
use Rattle.model.specs.declared.Node.{Node}
use Rattle.model.specs.declared.Options.{Options}
use Rattle.model.specs.Word.{pick, get16}
use Rattle.model.specs.Refusals.{refuse, refuse_if, first, fault_if, Checked, Accepted}
use Rattle.model.specs.Program.{Code, ok, tick, assign, assign_elem, seq, par, ite, while, repeat, loop, exit, call, Tree, node, node_at, node_count, nodes_from, nodes_at, row_of, none, as_expr, as_stmt, stmt_of, tree_of, grow, forest, trees_at, stmt_at, Program, program_of, roots, time_in, least, preorder_e, preorder}
use Rattle.model.specs.Procedures.{inline, inlined, reached}
use Rattle.model.specs.ProgramChecks.{program_length_wrong, too_many_procedures, unused_set, absent, node_fault, children, reading, searched, loose_in, late_in, in_roots, loose_exit, late_call, delay_fault, shared_fault, shared, shares, conflict_fault, conflicts, program_checks, check_of}
use Rattle.laws.specs.Refusals.Laws.{not-refused, pick_true, all-accept, accept-all, faultless}
use Rattle.laws.specs.Program.Trees.{nodes-step, nodes-split, trees-step}
use Rattle.laws.specs.Program.Grows.{grows}
use Rattle.laws.specs.Program.Whole.{whole}
use Rattle.laws.specs.Program.Passed.{Readable, Passed, passed, reading-at, program-trees}

-- Trees of nodes behind which others stand ----------------------------------------------------------------------------------------------

forest-append : (s : List ℕ) (n i : ℕ) (ws : List ℕ) → ((j : ℕ) → i ≤ j → j < i + n → node_fault (node_at s j) ≡ 0)
    → reading ws i (nodes_from s i n) ≡ Accepted → (ms : List Node) → forest (nodes_from s i n ++ ms) ≡ forest (nodes_from s i n) ++ forest ms
unfolding reading nodes_from forest
forest-append s zero i ws f r ms = refl
forest-append s (suc n) i [] f r ms = not-refused r
forest-append s (suc n) i (w ∷ ws) f r ms =
    let a = node_at s i in
    let ns = nodes_from s (i + 1) n in
    let p = pick_true (eqb (row_of a.kind).sort w) (reading (children a.kind ++ ws) (i + 1) ns) _ r in
    let v = whole s n (i + 1) (children a.kind ++ ws) (λ j l m. f j (omega arith) (omega arith)) p.1 in
    ap (grow a) (forest-append s n (i + 1) (children a.kind ++ ws) (λ j l m. f j (omega arith) (omega arith)) p.1 ms)
    ∙ (grows a (forest ns) ws v.sorts (f i (omega arith) (omega arith))).behind (forest ms)

-- Reading nodes behind which others stand -----------------------------------------------------------------------------------------------

reading-append : (ns : List Node) (ws : List ℕ) (i j : ℕ) (vs : List ℕ) (ms : List Node) → reading ws i ns ≡ Accepted
    → reading (ws ++ vs) j (ns ++ ms) ≡ reading vs (j + length ns) ms
unfolding reading
reading-append [] [] i j vs ms r = ap (λ (k : ℕ). reading vs k ms) (sym (add-zero j))
reading-append [] (w ∷ ws) i j vs ms r = not-refused r
reading-append (a ∷ ns) [] i j vs ms r = not-refused r
reading-append (a ∷ ns) (w ∷ ws) i j vs ms r =
    let p = pick_true (eqb (row_of a.kind).sort w) (reading (children a.kind ++ ws) (i + 1) ns) _ r in
    let e : j + 1 + length ns ≡ j + suc (length ns) = omega arith in
    ap (λ (b : Bool). pick b (reading (children a.kind ++ (ws ++ vs)) (j + 1) (ns ++ ms)) (refuse 5 j)) p.0
    ∙ ap (λ (l : List ℕ). reading l (j + 1) (ns ++ ms)) (sym (append_assoc (children a.kind) ws vs))
    ∙ reading-append ns (children a.kind ++ ws) (i + 1) (j + 1) vs ms p.1
    ∙ ap (λ (k : ℕ). reading vs k ms) e

-- Exits and calls at other nodes ----------------------------------------------------------------------------------------------------------

-- where a search finds nothing, it finds nothing in the same statement at another node
module _ (exits : Bool → ℕ → Checked) (calls : ℕ → ℕ → Checked) (an-exit : (b : Bool) (i j : ℕ) → exits b i ≡ Accepted → exits b j ≡ Accepted)
    (a_call : (p i j : ℕ) → calls p i ≡ Accepted → calls p j ≡ Accepted) where
  both : (a b c d : Checked) → (a ≡ Accepted → c ≡ Accepted) → (b ≡ Accepted → d ≡ Accepted) → first (a ∷ b ∷ []) ≡ Accepted → first (c ∷ d ∷ []) ≡ Accepted
  both a b c d f g e = ap₂ (λ (x y : Checked). first (x ∷ y ∷ [])) (f (all-accept (a ∷ b ∷ []) e 0)) (g (all-accept (a ∷ b ∷ []) e 1))

  elsewhere : (b : Bool) (P : Code) (i j : ℕ) → searched exits calls b P i ≡ Accepted → searched exits calls b P j ≡ Accepted
  unfolding searched
  elsewhere b ok i j e = refl
  elsewhere b (tick d) i j e = refl
  elsewhere b (assign d x v) i j e = refl
  elsewhere b (assign_elem d k u v) i j e = refl
  elsewhere b (seq P Q) i j e =
      both _ _ _ _ (elsewhere b P (i + 1) (j + 1)) (elsewhere b Q (i + 1 + length (preorder P)) (j + 1 + length (preorder P))) e
  elsewhere b (par P Q) i j e =
      both _ _ _ _ (elsewhere false P (i + 1) (j + 1)) (elsewhere false Q (i + 1 + length (preorder P)) (j + 1 + length (preorder P))) e
  elsewhere b (ite d v P Q) i j e =
      let i' = i + 1 + length (preorder_e v) in
      let j' = j + 1 + length (preorder_e v) in
      both _ _ _ _ (elsewhere b P i' j') (elsewhere b Q (i' + length (preorder P)) (j' + length (preorder P))) e
  elsewhere b (while d v P) i j e = elsewhere b P (i + 1 + length (preorder_e v)) (j + 1 + length (preorder_e v)) e
  elsewhere b (repeat d v P) i j e = elsewhere b P (i + 1 + length (preorder_e v)) (j + 1 + length (preorder_e v)) e
  elsewhere b (loop d P) i j e = elsewhere true P (i + 1) (j + 1) e
  elsewhere b exit i j e = an-exit b i j e
  elsewhere b (call d p) i j e = a_call p i j e

  -- and so in a sequence
  seq-finds : (P Q : Code) → searched exits calls false P 0 ≡ Accepted → searched exits calls false Q 0 ≡ Accepted
      → searched exits calls false (seq P Q) 0 ≡ Accepted
  unfolding searched
  seq-finds P Q p q =
      ap₂ (λ (x y : Checked). first (x ∷ y ∷ [])) (elsewhere false P 0 (0 + 1) p) (elsewhere false Q 0 (0 + 1 + length (preorder P)) q)

refuse-elsewhere : (b : Bool) (k i j : ℕ) → refuse_if b k i ≡ Accepted → refuse_if b k j ≡ Accepted
refuse-elsewhere true k i j e = not-refused e
refuse-elsewhere false k i j e = refl

-- of a program that is one root
one-root : (test : ℕ → Code → ℕ → Checked) (P : Code) → in_roots test 0 (P ∷ []) 0 ≡ Accepted → test 0 P 0 ≡ Accepted
unfolding in_roots
one-root test P e = all-accept (test 0 P 0 ∷ Accepted ∷ []) e 0

root-one : (test : ℕ → Code → ℕ → Checked) (P : Code) → test 0 P 0 ≡ Accepted → in_roots test 0 (P ∷ []) 0 ≡ Accepted
unfolding in_roots
root-one test P e = ap (λ (c : Checked). first (c ∷ Accepted ∷ [])) e

seq-enclosed : (P Q : Code) → loose_exit (P ∷ []) ≡ Accepted → loose_exit (Q ∷ []) ≡ Accepted → loose_exit (seq P Q ∷ []) ≡ Accepted
seq-enclosed P Q p q =
    root-one (λ r P i. loose_in false P i) (seq P Q)
    (seq-finds (λ inside i. refuse_if (not inside) 22 i) (λ p i. Accepted) (λ b i j. refuse-elsewhere (not b) 22 i j) (λ p i j e. refl) P Q
    (one-root (λ r P i. loose_in false P i) P p) (one-root (λ r P i. loose_in false P i) Q q))

seq-earlier : (P Q : Code) → late_call (P ∷ []) ≡ Accepted → late_call (Q ∷ []) ≡ Accepted → late_call (seq P Q ∷ []) ≡ Accepted
seq-earlier P Q p q =
    root-one late_in (seq P Q)
    (seq-finds (λ inside i. Accepted) (λ p i. refuse_if (leb 0 p) 24 i) (λ b i j e. refl) (λ p i j. refuse-elsewhere (leb 0 p) 24 i j) P Q
    (one-root late_in P p) (one-root late_in Q q))

-- Two programs ---------------------------------------------------------------------------------------------------------------------------

abbrev pub seq_bytes : List ℕ → List ℕ → List ℕ
seq_bytes p q = 19 ∷ 0 ∷ 0 ∷ 0 ∷ (p ++ q)

-- a program without procedures, with pulses of w, is its root
abbrev pub one_root : ℕ → Code → Program
one_root w P = record { bodies = []; main = P; pulse = w }

pub one-statement : (w : ℕ) (s : List ℕ) → program_of w 0 s ≡ one_root w (stmt_at s 0)
unfolding program_of stmt_at
one-statement w s = refl

same-node : (s t : List ℕ) (i j : ℕ) → ((b : ℕ) → b < 4 → get_or s (4 * i + b) 0 ≡ get_or t (4 * j + b) 0) → node_at s i ≡ node_at t j
unfolding node_at get16
same-node s t i j h =
    let k : get_or s (4 * i) 0 ≡ get_or t (4 * j) 0 = simp add-zero at (h 0 (omega arith)) in
    let e : 4 * i + 2 + 1 ≡ 4 * i + 3 = omega arith in
    let g : 4 * j + 2 + 1 ≡ 4 * j + 3 = omega arith in
    rw (e, g, k, h 1 (omega arith), h 2 (omega arith), h 3 (omega arith))

nodes-same : (s t : List ℕ) (k n i : ℕ) → ((j : ℕ) → i ≤ j → j < i + n → node_at s (k + j) ≡ node_at t j) → nodes_from s (k + i) n ≡ nodes_from t i n
unfolding nodes_from
nodes-same s t k zero i h = refl
nodes-same s t k (suc n) i h =
    let e : k + i + 1 ≡ k + (i + 1) = omega arith in
    ap₂ ◌∷◌ (h i (omega arith) (omega arith)) (ap (λ (m : ℕ). nodes_from s m n) e ∙ nodes-same s t k n (i + 1) (λ j l u. h j (omega arith) (omega arith)))

module _ (p q : List ℕ) (lp : length p ≡ 4 * node_count p) (lq : length q ≡ 4 * node_count q) where
  abbrev s : List ℕ
  s = seq_bytes p q

  abbrev np : ℕ
  np = node_count p

  abbrev nq : ℕ
  nq = node_count q

  pub seq-length : length s ≡ 4 * (1 + np + nq)
  seq-length = simp length-append (omega arith)

  pub seq-count : node_count s ≡ 1 + np + nq
  seq-count = omega (arith, seq-length)

  -- which nodes it has
  seq-first : node_at s 0 ≡ node 19 0 0
  unfolding node_at get16
  seq-first = refl

  seq-left : (i : ℕ) → i < np → node_at s (1 + i) ≡ node_at p i
  seq-left i h =
      same-node s p (1 + i) i
      (λ b l.
      let e : 4 * (1 + i) + b ≡ suc (suc (suc (suc (4 * i + b)))) = omega arith in
      ap (λ (k : ℕ). get_or s k 0) e ∙ get_or-append p q 0 (4 * i + b) (omega arith))

  seq-right : (i : ℕ) → node_at s (1 + np + i) ≡ node_at q i
  seq-right i =
      same-node s q (1 + np + i) i
      (λ b l.
      let e : 4 * (1 + np + i) + b ≡ suc (suc (suc (suc (length p + (4 * i + b))))) = omega arith in
      ap (λ (k : ℕ). get_or s k 0) e ∙ get_or-append-add p q (4 * i + b) 0)

  nodes-left : (i : ℕ) → i ≤ np → nodes_at s (1 + i) ≡ nodes_at p i ++ nodes_at q 0
  nodes-left i h =
      let e : (1 + np) - (1 + i) ≡ np - i = omega arith in
      let g : node_count s - (1 + np) ≡ nq - 0 = omega (arith, seq-count) in
      let a : 1 + np ≡ 1 + np + 0 = omega arith in
      nodes-split s (1 + i) (1 + np) (node_count s) (omega arith) (omega (arith, seq-count))
      ∙ ap₂ ◌++◌ (ap (nodes_from s (1 + i)) e ∙ nodes-same s p 1 (np - i) i (λ j l u. seq-left j (omega arith)))
      (ap₂ (nodes_from s) a g ∙ nodes-same s q (1 + np) (nq - 0) 0 (λ j l u. seq-right j))

  nodes-right : (i : ℕ) → nodes_at s (1 + np + i) ≡ nodes_at q i
  nodes-right i =
      let e : node_count s - (1 + np + i) ≡ nq - i = omega (arith, seq-count) in
      ap (nodes_from s (1 + np + i)) e ∙ nodes-same s q (1 + np) (nq - i) i (λ j l u. seq-right j)

  -- and which trees
  trees-right : (i : ℕ) → trees_at s (1 + np + i) ≡ trees_at q i
  unfolding trees_at
  trees-right i = ap forest (nodes-right i)

  stmt-right : (i : ℕ) → stmt_at s (1 + np + i) ≡ stmt_at q i
  unfolding stmt_at
  stmt-right i = ap (λ (ts : List Tree). as_stmt (get_or ts 0 none)) (trees-right i)

  module _ (R : Readable 0 p) where
    trees-left : (i : ℕ) → i ≤ np → trees_at s (1 + i) ≡ trees_at p i ++ trees_at q 0
    unfolding trees_at
    trees-left i h =
        let r = reading-at 0 p R i h in
        ap forest (nodes-left i h)
        ∙ forest-append p (np - i) i r.0 (λ j l u. R.faultless j (omega arith)) r.1 (nodes_at q 0)

    stmt-left : (i : ℕ) → i < np → stmt_at s (1 + i) ≡ stmt_at p i
    unfolding stmt_at grow
    stmt-left i h =
        let one : 0 < length (trees_at p i) = rw (trees-step p i h (node_at p i) refl) (omega arith) in
        ap as_stmt (ap (λ (ts : List Tree). get_or ts 0 none) (trees-left i (omega arith)) ∙ get_or-append (trees_at p i) (trees_at q 0) none 0 one)

    module _ (Q : Readable 0 q) where
      pub seq-statement : stmt_at s 0 ≡ seq (stmt_at p 0) (stmt_at q 0)
      unfolding stmt_at program_of grow tree_of stmt_of as_stmt as_expr
      seq-statement =
          ap (λ (ts : List Tree). as_stmt (get_or ts 0 none))
          (trees-step s 0 (omega (arith, seq-count)) (node 19 0 0) (sym seq-first)
          ∙ ap (grow (node 19 0 0)) (trees-left 0 (omega arith) ∙ ap₂ ◌++◌ (program-trees 0 p R 1) (program-trees 0 q Q 1)))

      seq-read : reading (2 ∷ []) 0 (nodes_at s 0) ≡ Accepted
      unfolding reading row_of children
      seq-read =
          ap (reading (2 ∷ []) 0) (nodes-step s 0 (node_count s) (omega (arith, seq-count)) ∙ ap₂ ◌∷◌ seq-first (nodes-left 0 (omega arith)))
          ∙ reading-append (nodes_at p 0) (2 ∷ []) 0 1 (2 ∷ []) (nodes_at q 0) R.read
          ∙ ap₂ (λ (ws : List ℕ) (ns : List Node). reading ws (1 + length (nodes_at p 0)) ns) (sym (append-nil (2 ∷ []))) (sym (append-nil (nodes_at q 0)))
          ∙ reading-append (nodes_at q 0) (2 ∷ []) 0 (1 + length (nodes_at p 0)) [] [] Q.read

  -- what holds of a node of either program, where it stands there, holds of it here
  by-node : (A : ℕ → Type 0) → A 0 → ((i : ℕ) → i < np → A (1 + i)) → ((i : ℕ) → i < nq → A (1 + np + i)) → (j : ℕ) → j < node_count s → A j
  by-node A z l r zero h = z
  by-node A z l r (suc j) h = go (dec_lt j np)
    where
      go : Dec (j < np) → A (suc j)
      go (yes u) =
          let e : 1 + j ≡ suc j = omega arith in
          subst A e (l j u)
      go (no u) =
          let e : 1 + np + (j - np) ≡ suc j = omega arith in
          subst A e (r (j - np) (omega (arith, seq-count)))

  seq-faultless : Readable 0 p → Readable 0 q → (j : ℕ) → j < node_count s → node_fault (node_at s j) ≡ 0
  seq-faultless R Q =
      by-node (λ (j : ℕ). node_fault (node_at s j) ≡ 0) (ap node_fault seq-first ∙ (unfold node_fault row_of unused_set absent in refl))
      (λ i h. ap node_fault (seq-left i h) ∙ R.faultless i h) (λ i h. ap node_fault (seq-right i) ∙ Q.faultless i h)

  module _ (τ : ℕ → ℕ) (w : ℕ) (P : Passed τ w 0 p) (Q : Passed τ w 0 q) where
    seq-slowless : (j : ℕ) → j < node_count s → least τ w (stmt_at s j) ≤ (node_at s j).delay
    seq-slowless =
        by-node (λ (j : ℕ). least τ w (stmt_at s j) ≤ (node_at s j).delay)
        (rw (seq-statement P.readable Q.readable) (unfold least in omega arith))
        (λ i h. rw (stmt-left P.readable i h, seq-left i h) (P.slowless i h))
        (λ i h. rw (stmt-right i, seq-right i) (Q.slowless i h))

    seq-clashless : (j : ℕ) → j < node_count s → conflicts (inline (inlined []) (stmt_at s j)) ≡ false
    unfolding program_of
    seq-clashless =
        by-node (λ (j : ℕ). conflicts (inline (inlined []) (stmt_at s j)) ≡ false)
        (rw (seq-statement P.readable Q.readable) (unfold inline conflicts in refl))
        (λ i h. rw (stmt-left P.readable i h) (P.clashless i h))
        (λ i h. rw (stmt-right i) (Q.clashless i h))

-- no procedure is shared where there are none
none-shared : (R : ℕ → ℕ → Bool) (P : Code) → shares R 0 P ≡ false
unfolding shares shared
none-shared R ok = refl
none-shared R (tick d) = refl
none-shared R (assign d x e) = refl
none-shared R (assign_elem d k i e) = refl
none-shared R (seq P Q) = refl
none-shared R (par P Q) = refl
none-shared R (ite d e P Q) = refl
none-shared R (while d e P) = refl
none-shared R (repeat d e P) = refl
none-shared R (loop d P) = refl
none-shared R exit = refl
none-shared R (call d p) = refl

-- Nothing refuses it --------------------------------------------------------------------------------------------------------------------

no-fault : (b : Bool) (k : ℕ) → b ≡ false → fault_if b k ≡ 0
no-fault b k e = ap (λ (c : Bool). fault_if c k) e

right-length : (s : List ℕ) (n : ℕ) → length s ≡ 4 * n → 1 ≤ n → n ≤ 200 → (too_many_procedures 0 || program_length_wrong s) ≡ false
unfolding program_length_wrong too_many_procedures
right-length s n l some few =
    let m : length s % 4 ≡ 0 = omega arith in
    rw (ne_eqb (length s) 0 (omega arith), le-ltb 800 (length s) (omega arith), m)

pub seq-passes : (τ : ℕ → ℕ) (w : ℕ) (p q : List ℕ) → Passed τ w 0 p → Passed τ w 0 q → 1 + node_count p + node_count q ≤ 200
    → first (program_checks τ w 0 (seq_bytes p q)) ≡ Accepted
unfolding delay_fault shared_fault conflict_fault program_of
seq-passes τ w p q P Q few =
    let R = P.readable in
    let T = Q.readable in
    let s = seq_bytes p q in
    let l = seq-length p q R.bytes T.bytes in
    let S = seq-statement p q R.bytes T.bytes R T in
    let c1 = right-length s (1 + node_count p + node_count q) l (omega arith) few in
    let c2 = faultless (λ i. node_fault (node_at s i)) 0 (node_count s) (λ j a b. seq-faultless p q R.bytes T.bytes R T j (omega arith)) in
    let c3 = seq-read p q R.bytes T.bytes R T in
    let O = one-statement w s ∙ ap (one_root w) S in
    let c22 : loose_exit (roots (program_of w 0 s)) ≡ Accepted =
    ap (λ (S : Program). loose_exit (roots S)) O
    ∙ seq-enclosed (stmt_at p 0) (stmt_at q 0) (subst (λ (S : Program). loose_exit (roots S) ≡ Accepted) (one-statement w p) P.enclosed) (subst (λ (S : Program). loose_exit (roots S) ≡ Accepted) (one-statement w q) Q.enclosed) in
    let c24 : late_call (roots (program_of w 0 s)) ≡ Accepted =
    ap (λ (S : Program). late_call (roots S)) O
    ∙ seq-earlier (stmt_at p 0) (stmt_at q 0) (subst (λ (S : Program). late_call (roots S) ≡ Accepted) (one-statement w p) P.earlier) (subst (λ (S : Program). late_call (roots S) ≡ Accepted) (one-statement w q) Q.earlier) in
    let c7 = faultless (delay_fault τ w s) 0 (node_count s)
    (λ j a b. no-fault _ 7 (le-ltb _ _ (seq-slowless p q R.bytes T.bytes τ w P Q j (omega arith)))) in
    let c25 = faultless (shared_fault [] s) 0 (node_count s) (λ j a b. no-fault _ 25 (none-shared (reached []) (stmt_at s j))) in
    let c8 = faultless (conflict_fault [] s) 0 (node_count s)
    (λ j a b. no-fault _ 8 (seq-clashless p q R.bytes T.bytes τ w P Q j (omega arith))) in
    accept-all (program_checks τ w 0 s) (ap (λ (b : Bool). refuse_if b 1 0) c1, (c2, (c3, (c22, (c24, (c7, (c25, (c8, tt))))))))

pub seq-accepted : (options : Options) (p q : List ℕ) → options.procedures ≡ 0 → check_of options p ≡ Accepted → check_of options q ≡ Accepted
    → 1 + node_count p + node_count q ≤ 200 → check_of options (seq_bytes p q) ≡ Accepted
unfolding check_of
seq-accepted options p q z ep eq few =
    rw z
    (let τ = time_in options.times in
    let w = options.pulse in
    seq-passes τ w p q (passed τ w 0 p (rw z at ep)) (passed τ w 0 q (rw z at eq)) few)
