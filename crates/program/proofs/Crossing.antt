-- Refusals 8 and 25, one x or one node further.
-- Assumes nothing.
use mathlib.Core.Path.{◌≡◌, refl, sym, ◌∙◌, ap, ap₂}
use mathlib.Core.Bool.{Bool, true, false, ◌&&◌, ◌||◌}
use mathlib.Core.List.{List}
use Prim.Native.Nat.{ℕ, zero, suc, ◌+◌, ◌≤◌, ◌<◌}
use native.Mathlib.Omega.{arith}
use native.Mathlib.Decide.{ℕ_discrete}
use native.Mathlib.Numerals.{add-one}
use lib.ListN.{length, drop}
use lib.Dec.{ltb, eqb}
use borrow.Author.Tests.{ne_eqb}
use Rattle.model.specs.declared.Node.{Node}
use Rattle.model.specs.Word.{pick}
use Rattle.model.specs.Refusals.{fault_if}
use Rattle.model.specs.Program.{Code, par, Tree, node_at, node_count, as_stmt, stmt_of, tree_of, trees_at, stmt_at}
use Rattle.model.specs.Procedures.{inline, inlined, reaches, reached}
use Rattle.model.specs.ProgramChecks.{shared, shares, shared_fault, conflict, conflicts, conflict_fault}
use Rattle.laws.specs.Program.Trees.{by-pick, tree_is, at-par}
use Rattle.program.specs.declared.clashes.Mark.{Mark}
use Rattle.program.specs.Uses.{has, has_by}
use Rattle.program.specs.Roots.{mark_of, crossing, crossed, clashes, clash_fault}

-- One x further ------------------------------------------------------------------------------------------------------------------------

-- it holds of a number below n
unfoldable pub any_below : (ℕ → Bool) → ℕ → Bool
any_below f zero = false
any_below f (suc n) = f n || any_below f n

module _ (bodies : List Code) (c : Bool) (P Q : Code) where
  -- what one does with x, the other may not
  abbrev pub cross_on : ℕ → Bool
  cross_on x = crossing bodies c P Q x || crossing bodies c Q P x

  -- of no x below n
  unfoldable pub none_below : ℕ → Type 0
  none_below n = any_below cross_on n ≡ false

  pub none-start : none_below 0
  unfolding none_below any_below
  none-start = refl

  pub none-next : (x : ℕ) → none_below x → cross_on x ≡ false → none_below (x + 1)
  unfolding none_below any_below
  none-next x e f = rw (add-one, f) e

  some_below : (n x : ℕ) → x < n → cross_on x ≡ true → any_below cross_on n ≡ true
  unfolding any_below
  some_below zero x h e = absurd (omega arith)
  some_below (suc n) x h e = go (ℕ_discrete x n) (some_below n x)
    where
      go : Dec (x ≡ n) → (x < n → cross_on x ≡ true → any_below cross_on n ≡ true) → (cross_on n || any_below cross_on n) ≡ true
      go (yes q) r = rw (← q, e)
      go (no q) r = rw (r (omega arith) e) (or-true (cross_on n))
        where
          or-true : (b : Bool) → (b || true) ≡ true
          or-true true = refl
          or-true false = refl

-- P does the one thing with x and Q the other, where these are the tests' answers
module _ (bodies : List Code) (c : Bool) (P Q : Code) (x : ℕ) {one : Mark} {a : Bool} (e : one ≡ mark_of c false x) (u : a ≡ has bodies one P) where
  does-one : a ≡ has bodies (mark_of c false x) P
  does-one = u ∙ ap (λ (m : Mark). has bodies m P) e

  pub crosses_both : {other : Mark} {b : Bool} → other ≡ mark_of c true x → b ≡ has bodies other Q → a ≡ true → b ≡ crossing bodies c P Q x
  crosses_both {b = b} f v t =
      sym (ap (λ (a : Bool). a && b) t) ∙ ap₂ ◌&&◌ does-one (v ∙ ap (λ (m : Mark). has bodies m Q) f)

  pub crosses-not : a ≡ false → a ≡ crossing bodies c P Q x
  crosses-not t = t ∙ ap (λ (a : Bool). a && has bodies (mark_of c true x) Q) (sym t ∙ does-one)

-- at most so many x are looked at
pub few-x : {k n : ℕ} (c : Bool) → k ≤ 8 → n ≡ pick c k 20 → n ≤ 20
few-x true l e = omega (arith, e)
few-x false l e = omega (arith, e)

pub some_number : (c : Bool) → 0 < pick c 25 8
some_number true = omega arith
some_number false = omega arith

both_ways : (a b : Bool) → ((a && b) || (b && a)) ≡ (a && b)
both_ways true true = refl
both_ways true false = refl
both_ways false true = refl
both_ways false false = refl

module _ (bodies : List Code) (P Q : Code) where
  below-shared : (n : ℕ) → any_below (cross_on bodies true P Q) n ≡ shared (reached bodies) n P Q
  unfolding any_below shared mark_of has_by
  below-shared zero = refl
  below-shared (suc n) = ap₂ ◌||◌ (both_ways (reaches (reached bodies) P n) (reaches (reached bodies) Q n)) (below-shared n)

  below-conflict : (n : ℕ) → any_below (cross_on bodies false P Q) n ≡ conflict n (inline (inlined bodies) P) (inline (inlined bodies) Q)
  unfolding any_below conflict mark_of has_by
  below-conflict zero = refl
  below-conflict (suc n) = ap (λ (b : Bool). cross_on bodies false P Q n || b) (below-conflict n)

  -- so many x are looked at
  below_all : (c : Bool) (n : ℕ) → n ≡ pick c (length bodies) 20 → any_below (cross_on bodies c P Q) n ≡ crossed bodies c P Q
  unfolding crossed
  below_all true n e = ap (any_below (cross_on bodies true P Q)) e ∙ below-shared (length bodies)
  below_all false n e = ap (any_below (cross_on bodies false P Q)) e ∙ below-conflict 20

  pub crosses-none : (c : Bool) (n : ℕ) → n ≡ pick c (length bodies) 20 → none_below bodies c P Q n → false ≡ crossed bodies c P Q
  unfolding none_below
  crosses-none c n e h = sym h ∙ below_all c n e

  pub crosses_some : (c : Bool) (n : ℕ) → n ≡ pick c (length bodies) 20 → (x : ℕ) → x < n → cross_on bodies c P Q x ≡ true → true ≡ crossed bodies c P Q
  crosses_some c n e x l h = sym (some_below bodies c P Q n x l h) ∙ below_all c n e

-- Nodes --------------------------------------------------------------------------------------------------------------------------------

fault-is : (bodies : List Code) (c : Bool) (s : List ℕ) (i : ℕ) → clash_fault bodies c s i ≡ fault_if (clashes bodies c (stmt_at s i)) (pick c 25 8)
unfolding clash_fault clashes shared_fault conflict_fault
fault-is bodies true s i = refl
fault-is bodies false s i = refl

module _ (bodies : List Code) where
  -- nothing clashes in P
  unfoldable Free : Code → Type 0
  Free P = (c : Bool) → false ≡ clashes bodies c P

  free : (P : Code) → shares (reached bodies) (length bodies) P ≡ false → conflicts (inline (inlined bodies) P) ≡ false → Free P
  unfolding Free clashes
  free P e f true = sym e
  free P e f false = sym f

  other-clashes : (a : Node) (x y z : Tree) → (a.kind ≡ 20 → ⊥) → Free (as_stmt (tree_of a x y z))
  unfolding tree_of as_stmt stmt_of shares inline conflicts
  other-clashes a x y z n =
      by-pick (λ (t : Tree). Free (as_stmt t)) (ltb k 16) _ _ (free _ refl refl)
      (by-pick Free (eqb k 16) _ _ (free _ refl refl)
      (by-pick Free (eqb k 17) _ _ (free _ refl refl)
      (by-pick Free (eqb k 18) _ _ (free _ refl refl)
      (by-pick Free (eqb k 19) _ _ (free _ refl refl)
      (rw (ne_eqb k 20 n)
      (by-pick Free (eqb k 21) _ _ (free _ refl refl)
      (by-pick Free (eqb k 22) _ _ (free _ refl refl)
      (by-pick Free (eqb k 24) _ _ (free _ refl refl)
      (by-pick Free (eqb k 25) _ _ (free _ refl refl)
      (by-pick Free (eqb k 26) _ _ (free _ refl refl)
      (by-pick Free (eqb k 27) _ _ (free _ refl refl) (free _ refl refl))))))))))))
    where
      k : ℕ
      k = a.kind

  clashes-par : (c : Bool) (P Q : Code) → crossed bodies c P Q ≡ clashes bodies c (par P Q)
  unfolding crossed clashes shares inline conflicts
  clashes-par true P Q = refl
  clashes-par false P Q = refl

  module _ (c : Bool) (s : List ℕ) (i : ℕ) where
    -- of a node, which is a
    module _ (h : i < node_count s) (a : Node) (ea : a ≡ node_at s i) where
      -- a parallel node, whose second side is the tree of node j
      pub clash-par : a.kind ≡ 20 → (j : ℕ) → trees_at s j ≡ drop 1 (trees_at s (i + 1))
          → crossed bodies c (stmt_at s (i + 1)) (stmt_at s j) ≡ clashes bodies c (stmt_at s i)
      clash-par k j ej = clashes-par c _ _ ∙ sym (ap (clashes bodies c) (at-par s i h a ea j ej k))

      -- any other
      pub clash-other : (a.kind ≡ 20 → ⊥) → false ≡ clashes bodies c (stmt_at s i)
      unfolding stmt_at Free
      clash-other n = other-clashes a _ _ _ n c ∙ sym (ap (λ (t : Tree). clashes bodies c (as_stmt t)) (tree_is s i h a ea))

    pub clash-fault : (b : Bool) → b ≡ clashes bodies c (stmt_at s i) → clash_fault bodies c s i ≡ fault_if b (pick c 25 8)
    clash-fault b e = fault-is bodies c s i ∙ ap (λ (b : Bool). fault_if b (pick c 25 8)) (sym e)
