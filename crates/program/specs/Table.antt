-- Rules of the table of kinds: a test of its rows that antt computes, and what follows of every kind.
-- Assumes nothing.
use Rattle.std.specs.Prelude.{◌≡◌, Bool, true, false, ◌&&◌, List, [], ◌∷◌, ℕ, zero, suc, get_or, T, eqb}
use Rattle.std.proofs.Common.{eqb→eq, eq-eqb}
use Rattle.model.specs.declared.kinds.Row.{Row}
use Rattle.model.specs.Word.{pick}
use Rattle.model.specs.Program.{kind_table, row_of}

every : (Row → Bool) → List Row → Bool
every test [] = true
every test (r ∷ rs) = test r && every test rs

both : (a b : Bool) → T (a && b) → T a × T b
both true b t = (tt, t)
both false b t = absurd t

every-at : (test : Row → Bool) (rs : List Row) (d : Row) → T (every test rs) → T (test d) → (k : ℕ) → T (test (get_or rs k d))
unfolding every
every-at test [] d t u zero = u
every-at test [] d t u (suc k) = u
every-at test (r ∷ rs) d t u zero = (both (test r) (every test rs) t).0
every-at test (r ∷ rs) d t u (suc k) = every-at test rs d (both (test r) (every test rs) t).1 u k

-- a test that every row of the table passes; so does the row of an unknown kind, which is its first
table-rule : (test : Row → Bool) → T (every test kind_table) → (k : ℕ) → T (test (row_of k))
unfolding every row_of
table-rule test t k = every-at test kind_table (row_of 0) t (both (test (row_of 0)) _ t).0 k

-- an expression has no statement among its children
no-stmts : Row → Bool
no-stmts r = pick (eqb r.sort 1) (eqb r.stmts 0) true

pub expr-stmts : (k : ℕ) → (row_of k).sort ≡ 1 → (row_of k).stmts ≡ 0
unfolding every no-stmts
expr-stmts k e = eqb→eq (row_of k).stmts 0 (rw (eq-eqb (row_of k).sort 1 e) at (table-rule no-stmts tt k))
