-- Refusal 22 of the statement at a node, by the node's kind.
-- Assumes nothing.
use Rattle.std.specs.Prelude.{Err}
use mathlib.Core.Path.{◌≡◌, refl, sym, ◌∙◌, ap}
use mathlib.Core.Bool.{Bool, true, false, ◌&&◌, ◌||◌, not}
use mathlib.Core.List.{List, [], ◌∷◌, ◌++◌}
use Prim.Native.Nat.{ℕ, ◌+◌, ◌≤◌, ◌<◌}
use native.Mathlib.Omega.{arith}
use native.Mathlib.Decide.{dec_lt, ℕ_discrete}
use lib.ListN.{length, get_or, drop, get_or-eq_default}
use lib.Dec.{ltb, eqb}
use borrow.Author.Tests.{ltb-true, ltb-false, eqb-true, eqb-false, eq-eqb, ne_eqb}
use Rattle.model.specs.declared.Node.{Node}
use Rattle.model.specs.declared.kinds.Row.{Row}
use Rattle.model.specs.declared.Refusal.{Refusal}
use Rattle.model.specs.Refusals.{refuse_if, first, Checked, Accepted}
use Rattle.model.specs.Program.{Code, Tree, expr, stmt, none, as_expr, as_stmt, node_at, node_count, kind_table, row_of, trees_at, expr_at, stmt_at, preorder_e, preorder}
use Rattle.model.specs.ProgramChecks.{children, searched, loose_in}
use Rattle.laws.specs.Refusals.Laws.{by_bool, or-false, first_one}
use Rattle.laws.specs.Program.Trees.{tree_at, no-stmt, at_ok, at_tick, at-assign, at-assign-elem, at-loop, at_exit, at_call, at-seq, at-par, at-ite, at-while, at-repeat}
use Rattle.laws.specs.Program.Preorder.{nodes_of, sorts_of}
use Rattle.laws.specs.Program.Grows.{sorted, known-kind}
use Rattle.laws.specs.Program.Passed.{children-at, past-tree}
use Rattle.program.specs.Ends.{past, past-trees, past-later}
use Rattle.program.specs.Uses.{Side, side-below, side-within}

-- a kind that is neither below 19 nor 24 nor 27
pub other-kinds : {k : ℕ} → (ltb k 19 || (eqb k 24 || eqb k 27)) ≡ false → (19 ≤ k) × (k ≡ 24 → ⊥) × (k ≡ 27 → ⊥)
other-kinds {k} e =
    let b = or-false (ltb k 19) (eqb k 24 || eqb k 27) e in
    let c = or-false (eqb k 24) (eqb k 27) b.1 in
    (ltb-false k 19 b.0, eqb-false k 24 c.0, eqb-false k 27 c.1)

pub at_most : {k : ℕ} → k ≤ 21 → (k ≡ 21 → ⊥) → k ≤ 20
at_most l n = omega arith

-- The node behind a child --------------------------------------------------------------------------------------------------------------

module _ {s ends : List ℕ} (p q : ℕ) (e : q ≡ past ends (node_count s) p) where
  pub stmt-place : Side s ends p → q ≡ p + length (preorder (stmt_at s p))
  stmt-place S =
      past-tree S.procedures s S.readable p q (side-below s ends p S) (side-within s ends p S q e) (past-trees s ends p (S.laid.each p) q e)
      ∙ ap (λ (t : Tree). p + length (nodes_of t)) S.statement

  expr-place : tree_at s p ≡ expr (expr_at s p) → Side s ends q → q ≡ p + length (preorder_e (expr_at s p))
  expr-place t S =
      let b = side-below s ends q S in
      let l = past-later s ends p (S.laid.each p) q e in
      past-tree S.procedures s S.readable p q (omega arith) (omega arith) (past-trees s ends p (S.laid.each p) q e) ∙ ap (λ (t : Tree). p + length (nodes_of t)) t

-- The children of node i, which is a ---------------------------------------------------------------------------------------------------

-- two statements: that of node p and, behind it, that of node q; what is refused first in them is refused first in the statement at node i
pub record Two (s ends : List ℕ) (i : ℕ) (inside : Bool) (p : ℕ) (within : Bool) : Type 0 where
  pub after : i < p
  pub one : Side s ends p
  pub other : (q : ℕ) → q ≡ past ends (node_count s) p → Side s ends q
  pub refused : (q : ℕ) → q ≡ past ends (node_count s) p
      → loose_in inside (stmt_at s i) i ≡ first (loose_in within (stmt_at s p) p ∷ loose_in within (stmt_at s q) q ∷ [])

-- so it is the first one's refusal, or else what the second one gives
module _ {s ends : List ℕ} {i : ℕ} {inside : Bool} {p : ℕ} {within : Bool} (T : Two s ends i inside p within) {c : Checked}
    (found : c ≡ loose_in within (stmt_at s p) p) (q : ℕ) (e : q ≡ past ends (node_count s) p) where
  abbrev with_first : Checked → Checked
  with_first c = first (c ∷ loose_in within (stmt_at s q) q ∷ [])

  pub stops : {r : Refusal} → c ≡ Err r → loose_in inside (stmt_at s i) i ≡ Err r
  stops h = T.refused q e ∙ ap with_first (sym found ∙ h)

  pub passes : c ≡ Accepted → loose_in inside (stmt_at s i) i ≡ loose_in within (stmt_at s q) q
  passes h = T.refused q e ∙ ap with_first (sym found ∙ h) ∙ sym (first_one _)

module _ {s ends : List ℕ} {i : ℕ} (S : Side s ends i) {a : Node} (ea : a ≡ node_at s i) where
  here : i < node_count s
  here = side-below s ends i S

  side : (j : ℕ) → tree_at s j ≡ stmt (stmt_at s j) → Side s ends j
  side j e = record { procedures = S.procedures; readable = S.readable; laid = S.laid; statement = e }

  sorts : (k : ℕ) → a.kind ≡ k → (ws : List ℕ) × (sorts_of (trees_at s (i + 1)) ≡ children k ++ ws)
  sorts k e =
      let c = children-at S.procedures s S.readable i here in
      (c.0, c.1 ∙ ap (λ (k : ℕ). children k ++ c.0) (sym (ap (λ (a : Node). a.kind) ea) ∙ e))

  known : a.kind < 28
  unfolding row_of
  known = go (dec_lt a.kind 28)
    where
      go : Dec (a.kind < 28) → a.kind < 28
      go (yes l) = l
      go (no n) =
          let l : 28 ≤ a.kind = omega arith in
          let row = get_or-eq_default kind_table (row_of 0) l in
          absurd (known-kind (node_at s i) (S.readable.faultless i here) (sym (ap (λ (a : Node). (row_of a.kind).sort) ea) ∙ ap (λ (r : Row). r.sort) row))

  -- No statement among them ------------------------------------------------------------------------------------------------------------

  pub loose-exit : a.kind ≡ 26 → (inside b : Bool) → inside ≡ b → refuse_if (not b) 22 i ≡ loose_in inside (stmt_at s i) i
  unfolding searched
  loose-exit e inside b f = sym (ap (λ (P : Code). loose_in inside P i) (at_exit s i here a ea e) ∙ ap (λ (b : Bool). refuse_if (not b) 22 i) f)

  module _ (inside : Bool) where
    none-loose : (P : Code) → loose_in inside P i ≡ Accepted → stmt_at s i ≡ P → Accepted ≡ loose_in inside (stmt_at s i) i
    none-loose P z e = sym (ap (λ (P : Code). loose_in inside P i) e ∙ z)

    loose-low : a.kind < 19 → Accepted ≡ loose_in inside (stmt_at s i) i
    unfolding searched
    loose-low l = go (dec_lt a.kind 16) (ℕ_discrete a.kind 16) (ℕ_discrete a.kind 17)
      where
        go : Dec (a.kind < 16) → Dec (a.kind ≡ 16) → Dec (a.kind ≡ 17) → Accepted ≡ loose_in inside (stmt_at s i) i
        go (yes m) c d = none-loose _ refl (no-stmt s i here a ea m)
        go (no n) (yes e) d = none-loose _ refl (at_ok s i here a ea e)
        go (no n) (no c) (yes e) = none-loose _ refl (at_tick s i here a ea e)
        go (no n) (no c) (no d) = none-loose _ refl (at-assign s i here a ea (omega arith))

    loose-elem : a.kind ≡ 24 → Accepted ≡ loose_in inside (stmt_at s i) i
    unfolding searched
    loose-elem e = none-loose _ refl (at-assign-elem s i here a ea _ (past-trees s ends (i + 1) (S.laid.each (i + 1)) _ refl) e)

    loose-call : a.kind ≡ 27 → Accepted ≡ loose_in inside (stmt_at s i) i
    unfolding searched
    loose-call e = none-loose _ refl (at_call s i here a ea e)

    pub loose_none : (ltb a.kind 19 || (eqb a.kind 24 || eqb a.kind 27)) ≡ true → Accepted ≡ loose_in inside (stmt_at s i) i
    loose_none t =
        by_bool (ltb a.kind 19) (λ l. loose-low (ltb-true _ _ l))
        (λ l. by_bool (eqb a.kind 24) (λ m. loose-elem (eqb-true _ _ m)) (λ m. loose-call (eqb-true _ _ (rw (l, m) at t))))

  -- One --------------------------------------------------------------------------------------------------------------------------------

  pub loop-side : a.kind ≡ 25 → Side s ends (i + 1)
  unfolding stmt_at as_stmt children row_of
  loop-side e =
      let c = sorts 25 e in
      side (i + 1)
      (sorted (2 ∷ []) (λ (l : List Tree) (ws : List ℕ). get_or l 0 none ≡ stmt (as_stmt (get_or l 0 none))) (λ P us. refl) (trees_at s (i + 1)) c.0 c.1)

  pub loose-loop : a.kind ≡ 25 → (inside : Bool) → loose_in inside (stmt_at s i) i ≡ loose_in true (stmt_at s (i + 1)) (i + 1)
  unfolding searched
  loose-loop e inside = ap (λ (P : Code). loose_in inside P i) (at-loop s i here a ea e)

  -- Behind an expression or a statement: node j ----------------------------------------------------------------------------------------

  module _ (j : ℕ) (ej : j ≡ past ends (node_count s) (i + 1)) where
    trees-j : trees_at s j ≡ drop 1 (trees_at s (i + 1))
    trees-j = past-trees s ends (i + 1) (S.laid.each (i + 1)) j ej

    test : (k : ℕ) (cs : List ℕ) → children k ≡ 1 ∷ 2 ∷ cs → a.kind ≡ k → (tree_at s (i + 1) ≡ expr (expr_at s (i + 1))) × (tree_at s j ≡ stmt (stmt_at s j))
    unfolding stmt_at as_stmt expr_at as_expr
    test k cs f e =
        let c = sorts k e in
        rw (ap (λ (ts : List Tree). get_or ts 0 none) trees-j)
        (sorted (1 ∷ 2 ∷ [])
        (λ (l : List Tree) (ws : List ℕ). (get_or l 0 none ≡ expr (as_expr (get_or l 0 none))) × (get_or (drop 1 l) 0 none ≡ stmt (as_stmt (get_or (drop 1 l) 0 none))))
        (λ e P us. (refl, refl)) (trees_at s (i + 1)) (cs ++ c.0) (c.1 ∙ ap (λ (ks : List ℕ). ks ++ c.0) f))

    pair : (k : ℕ) → children k ≡ 2 ∷ 2 ∷ [] → a.kind ≡ k → (tree_at s (i + 1) ≡ stmt (stmt_at s (i + 1))) × (tree_at s j ≡ stmt (stmt_at s j))
    unfolding stmt_at as_stmt
    pair k f e =
        let c = sorts k e in
        rw (ap (λ (ts : List Tree). get_or ts 0 none) trees-j)
        (sorted (2 ∷ 2 ∷ [])
        (λ (l : List Tree) (ws : List ℕ). (get_or l 0 none ≡ stmt (as_stmt (get_or l 0 none))) × (get_or (drop 1 l) 0 none ≡ stmt (as_stmt (get_or (drop 1 l) 0 none))))
        (λ P Q us. (refl, refl)) (trees_at s (i + 1)) c.0 (c.1 ∙ ap (λ (ks : List ℕ). ks ++ c.0) f))

    third : a.kind ≡ 21 → tree_at s (past ends (node_count s) j) ≡ stmt (stmt_at s (past ends (node_count s) j))
    unfolding stmt_at as_stmt children row_of
    third e =
        let c = sorts 21 e in
        rw (ap (λ (ts : List Tree). get_or ts 0 none) (past-trees s ends j (S.laid.each j) _ refl ∙ ap (drop 1) trees-j))
        (sorted (1 ∷ 2 ∷ 2 ∷ [])
        (λ (l : List Tree) (ws : List ℕ). get_or (drop 1 (drop 1 l)) 0 none ≡ stmt (as_stmt (get_or (drop 1 (drop 1 l)) 0 none)))
        (λ e P Q us. refl) (trees_at s (i + 1)) c.0 c.1)

    -- while and repeat
    turns-test : 21 < a.kind → (a.kind ≡ 24 → ⊥) → (a.kind ≡ 25 → ⊥) → (a.kind ≡ 26 → ⊥) → (a.kind ≡ 27 → ⊥)
        → (tree_at s (i + 1) ≡ expr (expr_at s (i + 1))) × (tree_at s j ≡ stmt (stmt_at s j))
    unfolding children row_of
    turns-test l n p q o = go (ℕ_discrete a.kind 22)
      where
        go : Dec (a.kind ≡ 22) → (tree_at s (i + 1) ≡ expr (expr_at s (i + 1))) × (tree_at s j ≡ stmt (stmt_at s j))
        go (yes e) = test 22 [] refl e
        go (no u) = test 23 [] refl (omega (arith, known))

    pub turns-side : 21 < a.kind → (a.kind ≡ 24 → ⊥) → (a.kind ≡ 25 → ⊥) → (a.kind ≡ 26 → ⊥) → (a.kind ≡ 27 → ⊥) → Side s ends j
    turns-side l n p q o = side j (turns-test l n p q o).1

    pub loose-turns : 21 < a.kind → (a.kind ≡ 24 → ⊥) → (a.kind ≡ 25 → ⊥) → (a.kind ≡ 26 → ⊥) → (a.kind ≡ 27 → ⊥)
        → (inside : Bool) → loose_in inside (stmt_at s i) i ≡ loose_in inside (stmt_at s j) j
    unfolding searched
    loose-turns l n p q o inside = go (ℕ_discrete a.kind 22)
      where
        place : j ≡ i + 1 + length (preorder_e (expr_at s (i + 1)))
        place = expr-place (i + 1) j ej (turns-test l n p q o).0 (turns-side l n p q o)

        go : Dec (a.kind ≡ 22) → loose_in inside (stmt_at s i) i ≡ loose_in inside (stmt_at s j) j
        go (yes e) = ap (λ (P : Code). loose_in inside P i) (at-while s i here a ea j trees-j e) ∙ ap (loose_in inside (stmt_at s j)) (sym place)
        go (no u) = ap (λ (P : Code). loose_in inside P i) (at-repeat s i here a ea j trees-j (omega arith) n p q o) ∙ ap (loose_in inside (stmt_at s j)) (sym place)

    module _ (inside within : Bool) (ew : within ≡ (inside && not (eqb a.kind 20))) where
      same : (a.kind ≡ 20 → ⊥) → within ≡ inside
      same n = ew ∙ rw (ne_eqb _ _ n) (and-true inside)
        where
          and-true : (b : Bool) → (b && true) ≡ b
          and-true true = refl
          and-true false = refl

      shut : a.kind ≡ 20 → within ≡ false
      shut e = ew ∙ rw (eq-eqb _ _ e) (and-false inside)
        where
          and-false : (b : Bool) → (b && false) ≡ false
          and-false true = refl
          and-false false = refl

      test-two : a.kind ≡ 21 → Two s ends i inside j within
      unfolding searched children row_of
      test-two e =
          let t = test 21 (2 ∷ []) refl e in
          let one = side j t.1 in
          let w = same (λ f. omega arith) in
          record {
            after = let l = past-later s ends (i + 1) (S.laid.each (i + 1)) j ej in omega arith;
            one = one;
            other = λ q eq. rw eq (side (past ends (node_count s) j) (third e));
            refused = λ q eq.
                ap (λ (P : Code). loose_in inside P i) (at-ite s i here a ea j trees-j q (past-trees s ends j (S.laid.each j) q eq) e)
                ∙ ap (λ (p : ℕ). first (loose_in inside (stmt_at s j) p ∷ loose_in inside (stmt_at s q) (p + length (preorder (stmt_at s j))) ∷ []))
                (sym (expr-place (i + 1) j ej t.0 one))
                ∙ ap (λ (p : ℕ). first (loose_in inside (stmt_at s j) j ∷ loose_in inside (stmt_at s q) p ∷ [])) (sym (stmt-place j q eq one))
                ∙ ap (λ (w : Bool). first (loose_in w (stmt_at s j) j ∷ loose_in w (stmt_at s q) q ∷ [])) (sym w);
          }

      pub if-two : a.kind ≡ 21 → (p : ℕ) → p ≡ j → Two s ends i inside p within
      if-two e p ep = rw ep (test-two e)

      both-two : 19 ≤ a.kind → a.kind ≤ 20 → Two s ends i inside (i + 1) within
      unfolding searched children row_of
      both-two l m = go (ℕ_discrete a.kind 20)
        where
          two : (k : ℕ) → children k ≡ 2 ∷ 2 ∷ [] → a.kind ≡ k
              → (loose_in inside (stmt_at s i) i
              ≡ first (loose_in within (stmt_at s (i + 1)) (i + 1) ∷ loose_in within (stmt_at s j) (i + 1 + length (preorder (stmt_at s (i + 1)))) ∷ []))
              → Two s ends i inside (i + 1) within
          two k f e r =
              let t = pair k f e in
              let one = side (i + 1) t.0 in
              record {
                after = omega arith;
                one = one;
                other = λ q eq. rw (eq ∙ sym ej) (side j t.1);
                refused = λ q eq.
                    rw (eq ∙ sym ej)
                    (r ∙ ap (λ (p : ℕ). first (loose_in within (stmt_at s (i + 1)) (i + 1) ∷ loose_in within (stmt_at s j) p ∷ [])) (sym (stmt-place (i + 1) j ej one)));
              }

          go : Dec (a.kind ≡ 20) → Two s ends i inside (i + 1) within
          go (yes e) = two 20 refl e (ap (λ (P : Code). loose_in inside P i) (at-par s i here a ea j trees-j e) ∙ rw (shut e) refl)
          go (no n) =
              let e : a.kind ≡ 19 = omega arith in
              two 19 refl e (ap (λ (P : Code). loose_in inside P i) (at-seq s i here a ea j trees-j e) ∙ rw (same n) refl)

      pub pair-two : 19 ≤ a.kind → a.kind ≤ 20 → (p : ℕ) → p ≡ i + 1 → Two s ends i inside p within
      pair-two l m p ep = rw ep (both-two l m)
