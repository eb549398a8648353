-- The roots of a program that is read: where each begins, what is refused in them, and which of the bodies do what.
-- Assumes nothing.
use Rattle.model.specs.Refusals.{Checked}
use Rattle.std.specs.Prelude.{◌≡◌, refl, Bool, true, false, ◌&&◌, List, [], ◌∷◌, ◌++◌, map, ℕ, zero, suc, ◌+◌, ◌≤◌, ◌<◌, length, get_or}
use Rattle.std.proofs.Common.{sym, ◌∙◌, arith, add-zero, length-append, get_or-drop}
use Rattle.std.proofs.Math.Path.{ap}
use Rattle.model.specs.Program.{Code, ok, Tree, stmt, none, as_stmt, node_count, trees_at, stmt_at, Program, program_of, roots}
use Rattle.model.specs.Procedures.{body_at, inline, inlined, reached}
use Rattle.model.specs.ProgramChecks.{loose_in, late_in, shared, shares, shared_fault, conflict, conflicts, conflict_fault}
use Rattle.laws.specs.Program.Trees.{tree_at}
use Rattle.laws.specs.Program.Passed.{Readable, program-trees, count-bodies}
use Rattle.program.specs.declared.clashes.Mark.{Mark}
use Rattle.program.specs.declared.clashes.Mark.TheVariants.{Writes, Touches, Calls}
use Rattle.program.specs.Ends.{Laid, skips, skips-trees}
use Rattle.program.specs.Uses.{Side, has}

-- a program that is read, with k procedures and its ends
pub record Rooted (k : ℕ) (s ends : List ℕ) : Type 0 where
  pub readable : Readable k s
  pub laid : Laid s ends

-- 24 or 22 in root r
unfoldable pub root_fault : Bool → ℕ → Code → ℕ → Checked
root_fault true r P i = late_in r P i
root_fault false r P i = loose_in false P i

-- what may not stand on both sides of a parallel node: of 25, where the first flag is set, both call procedure x; of 8 one side writes variable x,
-- and the other, told by the second flag, reads or writes it
unfoldable pub mark_of : Bool → Bool → ℕ → Mark
mark_of true touch x = Calls x
mark_of false true x = Touches x
mark_of false false x = Writes x

-- P does the one thing with x, and Q the other; this is told with `has`, the test of the code
abbrev pub crossing : List Code → Bool → Code → Code → ℕ → Bool
crossing bodies c P Q x = has bodies (mark_of c false x) P && has bodies (mark_of c true x) Q

unfoldable pub crossed : List Code → Bool → Code → Code → Bool
crossed bodies true P Q = shared (reached bodies) (length bodies) P Q
crossed bodies false P Q = conflict 20 (inline (inlined bodies) P) (inline (inlined bodies) Q)

unfoldable pub clashes : List Code → Bool → Code → Bool
clashes bodies true P = shares (reached bodies) (length bodies) P
clashes bodies false P = conflicts (inline (inlined bodies) P)

unfoldable pub clash_fault : List Code → Bool → List ℕ → ℕ → ℕ
clash_fault bodies true s i = shared_fault bodies s i
clash_fault bodies false s i = conflict_fault bodies s i

-- Where roots begin --------------------------------------------------------------------------------------------------------------------

get_d-stmts : (Ps : List Code) (r : ℕ) → r < length Ps → get_or (map stmt Ps) r none ≡ stmt (get_or Ps r ok)
get_d-stmts [] r l = absurd (omega arith)
get_d-stmts (P ∷ Ps) zero l = refl
get_d-stmts (P ∷ Ps) (suc r) l = get_d-stmts Ps r (omega arith)

get_d-before : (Qs : List Code) (P : Code) (p : ℕ) → p < length Qs → get_or (Qs ++ (P ∷ [])) p ok ≡ get_or Qs p ok
get_d-before [] P p l = absurd (omega arith)
get_d-before (Q ∷ Qs) P zero l = refl
get_d-before (Q ∷ Qs) P (suc p) l = get_d-before Qs P p (omega arith)

module _ {k : ℕ} {s ends : List ℕ} (R : Rooted k s ends) where
  abbrev S : Program
  S = program_of 1 k s

  pub count-roots : length (roots S) ≡ k + 1
  count-roots = length-append S.bodies (S.main ∷ []) ∙ ap (λ (n : ℕ). n + 1) (count-bodies k s R.readable 1)

  root-tree : (r i : ℕ) → r ≤ k → i ≡ skips ends (node_count s) r 0 → tree_at s i ≡ stmt (get_or (roots S) r ok)
  root-tree r i l e =
      ap (λ (i : ℕ). tree_at s i) e
      ∙ ap (λ (ts : List Tree). get_or ts 0 none) (skips-trees s ends 0 (λ j m n. R.laid.each j n) r 0 (omega arith))
      ∙ get_or-drop r (trees_at s 0) 0 none ∙ ap (λ (n : ℕ). get_or (trees_at s 0) n none) (add-zero r)
      ∙ ap (λ (ts : List Tree). get_or ts r none) (program-trees k s R.readable 1)
      ∙ get_d-stmts (roots S) r (omega (arith, count-roots))

  -- root r
  pub root_is : (r i : ℕ) → r ≤ k → i ≡ skips ends (node_count s) r 0 → stmt_at s i ≡ get_or (roots S) r ok
  unfolding stmt_at as_stmt
  root_is r i l e = ap as_stmt (root-tree r i l e)

  pub root-side : (r i : ℕ) → r ≤ k → i ≡ skips ends (node_count s) r 0 → Side s ends i
  root-side r i l e =
      record { procedures = k; readable = R.readable; laid = R.laid; statement = root-tree r i l e ∙ ap stmt (sym (root_is r i l e)) }

  -- body p
  pub body_is : (p i : ℕ) → p < k → i ≡ skips ends (node_count s) p 0 → stmt_at s i ≡ body_at S.bodies p
  body_is p i l e =
      root_is p i (omega arith) e ∙ get_d-before S.bodies S.main p (omega (arith, count-bodies k s R.readable 1))
