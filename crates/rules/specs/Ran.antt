-- What the words, costs and runs of the code stand for, and what a statement needs to be run by its nodes.
-- Assumes nothing: definitions.
use Rattle.std.specs.Prelude.{◌≡◌, List, [], ◌∷◌, ℕ, ◌≤◌, length, get_or}
use Rattle.model.specs.declared.Answer.{Answer}
use Rattle.model.specs.Refusals.{first}
use Rattle.model.specs.Program.{Expr, Stmt, trees_at, expr_at, stmt_at, program_of}
use Rattle.model.specs.Procedures.{inline, inlined, meaning}
use Rattle.model.specs.Rules as rules
use Rattle.model.specs.Rules.{Store, Run, ended, left, still, run}
use Rattle.model.specs.Calls.{word_at, short, over_budget, reference_answer, answering}
use Rattle.laws.specs.Program.Fit.{Formed, Timed, Separate}
use Rattle.program.specs.Ends.{Laid}
use Rattle.rules.specs.declared.statements.Costs.{Costs}
use Rattle.rules.specs.declared.statements.Interpreter.{Interpreter}
use Rattle.rules.specs.declared.ways.Ran.{Ran}
use Rattle.rules.specs.declared.ways.Ran.TheVariants.{Ended, Left, Unfinished}

-- the costs that costs in code are
abbrev pub costs_of : Costs → rules.Costs
costs_of c = record { write = c.write; latch = c.latch }

-- an array of words as the rules keep them
unfoldable pub store_of : List ℕ → Store
store_of words x = get_or words x 0

-- the run that a run in code is, with the words w that it left
abbrev pub run_of : Ran → List ℕ → Run
run_of (Ended t) w = ended t (store_of w)
run_of (Left t) w = left t (store_of w)
run_of Unfinished w = still

-- how long it took, if it is done
abbrev pub time_of : Ran → ℕ
time_of (Ended t) = t
time_of (Left t) = t
time_of Unfinished = 0

-- it has not ended
abbrev pub Unended : Ran → Type 0
Unended r = (t : ℕ) → r ≡ Ended t → ⊥

-- r, which left w, is the run R, within k instants
pub record Stands (k : ℕ) (R : Run) (r : Ran) (w : List ℕ) : Type 0 where
  pub is : run_of r w ≡ R
  pub within : time_of r ≤ k

-- the first so many bodies without calls, and the statement at node i with these for its calls
abbrev pub called_at : ℕ → List ℕ → ℕ → Stmt
called_at k s p = inlined (program_of 1 k s).bodies p

abbrev pub meant_at : ℕ → List ℕ → ℕ → Stmt
meant_at k s i = inline (inlined (program_of 1 k s).bodies) (stmt_at s i)

-- the answer of a run of the main program, which k procedures stand before, once its check has accepted it: 13, 14
unfoldable pub main_answer : rules.Costs → ℕ → List ℕ → List ℕ → ℕ → Answer
main_answer κ k s words n =
    answering (first (over_budget n ∷ short (length words) 544 ∷ [])) (reference_answer n (run κ n (meaning (program_of 1 k s)) (word_at words)))

-- P is a statement without calls of an accepted program, whose array of subtree ends is right
pub record Statable (s ends : List ℕ) (P : Stmt) : Type 0 where
  pub laid : Laid s ends
  pub formed : Formed P
  pub timed : Timed P
  pub separate : Separate P

-- and the program has that many bodies
pub record Ready (s ends : List ℕ) (k : ℕ) (P : Stmt) : Type 0 where
  pub fit : Statable s ends P
  pub enough : k ≤ length (trees_at s 0)

-- for the interpreter of a program: its expressions, statements and bodies by their nodes; what it can run; and that r is its run of P within k instants
-- from the words w, which left the words w'
abbrev pub expr_of : Interpreter → ℕ → Expr
expr_of I i = expr_at I.tree.program.now i

abbrev pub stmt_of : Interpreter → ℕ → Stmt
stmt_of I i = meant_at I.procedures I.tree.program.now i

abbrev pub body_of : Interpreter → ℕ → Stmt
body_of I p = called_at I.procedures I.tree.program.now p

abbrev pub Sound : Interpreter → Stmt → Type 0
Sound I P = Statable I.tree.program.now I.tree.ends.now P

abbrev pub Runnable : Interpreter → Stmt → Type 0
Runnable I P = Ready I.tree.program.now I.tree.ends.now I.procedures P

abbrev pub Runs : Interpreter → ℕ → Stmt → List ℕ → Ran → List ℕ → Type 0
Runs I k P w r w' = Stands k (run (costs_of I.costs) k P (store_of w)) r w'
