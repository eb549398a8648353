-- Size: an accepted program is one statement with as many nodes as the program has, and its delays are bytes.
-- Assumes nothing.
use Rattle.model.specs.Refusals.{Accepted}
use Rattle.std.specs.Prelude.{◌≡◌, refl, List, [], ◌∷◌, ℕ, suc, ◌+◌, ◌-◌, ◌*◌, ◌≤◌, ◌<◌, ltb, eqb, length, get_or}
use Rattle.std.proofs.Common.{sym, ◌∙◌, ap, ap₂, subst, suc-le-suc, add-zero, zero-add, arith, length-append}
use Rattle.model.specs.declared.Node.{Node}
use Rattle.model.specs.declared.Options.{Options}
use Rattle.model.specs.Program.{Expr, const, var, compl, op, elem, Code, ok, tick, assign, assign_elem, seq, par, ite, while, repeat, loop, exit, call, Tree, as_expr, as_stmt, stmt_of, tree_of, stmt_at, node_count, node_at, roots, time_in, preorder_e, preorder, preorders}
use Rattle.model.specs.ProgramChecks.{program_with}
use Rattle.model.specs.Calls.{check_call}
use Rattle.model.specs.Word.{Bytes}
use Rattle.laws.specs.Program.Fit.{Timed, Short, Low, EveryRoot, Numberable}
use Rattle.laws.specs.Program.Accepted.{at-root, program-fit}
use Rattle.laws.specs.Program.Enclosed.{root_at, root-earlier}
use Rattle.laws.specs.Program.Trees.{length-nodes, by-pick, root-has}
use Rattle.laws.specs.Program.Passed.{accepted, accepted-pulse, program-nodes}
use Rattle.laws.specs.Program.Widths.{enough-timed}
use Rattle.laws.specs.Numbering.Count.{e_nodes, nodes, root_nodes}

-- As many nodes as the program ---------------------------------------------------------------------------------------------------------

expr-nodes : (e : Expr) → length (preorder_e e) ≡ e_nodes e
unfolding preorder_e e_nodes
expr-nodes (const n) = refl
expr-nodes (var n) = refl
expr-nodes (compl e) = omega (arith, expr-nodes e)
expr-nodes (op k a b) = simp length-append (omega (arith, expr-nodes a, expr-nodes b))
expr-nodes (elem k e) = omega (arith, expr-nodes e)

stmt-nodes : (P : Code) → length (preorder P) ≡ nodes P
unfolding preorder nodes
stmt-nodes ok = refl
stmt-nodes (tick d) = refl
stmt-nodes (assign d x e) = omega (arith, expr-nodes e)
stmt-nodes (assign_elem d k i e) = simp length-append (omega (arith, expr-nodes i, expr-nodes e))
stmt-nodes (seq P Q) = simp length-append (omega (arith, stmt-nodes P, stmt-nodes Q))
stmt-nodes (par P Q) = simp length-append (omega (arith, stmt-nodes P, stmt-nodes Q))
stmt-nodes (ite d e P Q) = simp length-append (omega (arith, expr-nodes e, stmt-nodes P, stmt-nodes Q))
stmt-nodes (while d e P) = simp length-append (omega (arith, expr-nodes e, stmt-nodes P))
stmt-nodes (repeat d e P) = simp length-append (omega (arith, expr-nodes e, stmt-nodes P))
stmt-nodes (loop d P) = omega (arith, stmt-nodes P)
stmt-nodes exit = refl
stmt-nodes (call d p) = refl

roots-nodes : (Ps : List Code) → length (preorders Ps) ≡ root_nodes Ps
unfolding preorders root_nodes
roots-nodes [] = refl
roots-nodes (P ∷ Ps) = length-append (preorder P) (preorders Ps) ∙ ap₂ ◌+◌ (stmt-nodes P) (roots-nodes Ps)

pub all-nodes : (options : Options) (s : List ℕ) → check_call options s ≡ Accepted → root_nodes (roots (program_with options s)) ≡ node_count s
all-nodes options s e =
    sym (roots-nodes (roots (program_with options s))) ∙ ap length (program-nodes options.procedures s (accepted options s e).readable options.pulse)
    ∙ length-nodes s 0 (node_count s - 0) ∙ omega arith

pub few-nodes : (options : Options) (s : List ℕ) → check_call options s ≡ Accepted → root_nodes (roots (program_with options s)) ≤ 200
few-nodes options s e = omega (arith, all-nodes options s e, (accepted options s e).readable.short)

-- Delays are bytes --------------------------------------------------------------------------------------------------------------------------------------

short-stmt : (a : Node) (e f : Expr) (O P Q : Code) → a.delay ≤ 255 → Short O → Short P → Short Q → Short (stmt_of a e f O P Q)
unfolding stmt_of
short-stmt a e f O P Q h o p q =
    by-pick (λ (P : Code). Short P) (eqb a.kind 16) _ _ tt
    (by-pick (λ (P : Code). Short P) (eqb a.kind 17) _ _ h
    (by-pick (λ (P : Code). Short P) (eqb a.kind 18) _ _ (h, tt, tt)
    (by-pick (λ (P : Code). Short P) (eqb a.kind 19) _ _ (o, p)
    (by-pick (λ (P : Code). Short P) (eqb a.kind 20) _ _ (o, p, tt)
    (by-pick (λ (P : Code). Short P) (eqb a.kind 21) _ _ (h, tt, p, q)
    (by-pick (λ (P : Code). Short P) (eqb a.kind 22) _ _ (h, tt, p)
    (by-pick (λ (P : Code). Short P) (eqb a.kind 24) _ _ (h, tt, tt, tt)
    (by-pick (λ (P : Code). Short P) (eqb a.kind 25) _ _ (h, o)
    (by-pick (λ (P : Code). Short P) (eqb a.kind 26) _ _ tt
    (by-pick (λ (P : Code). Short P) (eqb a.kind 27) _ _ (h, tt) (h, tt, p)))))))))))

short-tree : (a : Node) (x y z : Tree) → a.delay ≤ 255 → Short (as_stmt x) → Short (as_stmt y) → Short (as_stmt z) → Short (as_stmt (tree_of a x y z))
unfolding tree_of as_stmt
short-tree a x y z h p q r = by-pick (λ (t : Tree). Short (as_stmt t)) (ltb a.kind 16) _ _ tt (short-stmt a (as_expr x) (as_expr y) (as_stmt x) (as_stmt y) (as_stmt z) h p q r)

low_of : (P : Code) → Timed P → Short P → Low P
low_of ok t h = tt
low_of (tick d) t h = (t, h)
low_of (assign d x e) t h = ((t.0, h.0), tt, tt)
low_of (assign_elem d k i e) t h = ((t.0, h.0), tt, tt, tt)
low_of (seq P Q) t h = (low_of P t.0 h.0, low_of Q t.1 h.1)
low_of (par P Q) t h = (low_of P t.0 h.0, low_of Q t.1 h.1, tt)
low_of (ite d e P Q) t h = (h.0, tt, low_of P t.2 h.2, low_of Q t.3 h.3)
low_of (while d e P) t h = ((t.0, h.0), tt, low_of P t.2 h.2)
low_of (repeat d e P) t h = ((t.0, h.0), tt, low_of P t.2 h.2)
low_of (loop d P) t h = ((t.0, h.0), low_of P t.1 h.1)
low_of exit t h = tt
low_of (call d p) t h = ((t.0, h.0), tt)

pub program-low : (options : Options) (s : List ℕ) → Bytes s → check_call options s ≡ Accepted → (r : ℕ) → Low (root_at (program_with options s) r)
unfolding stmt_at as_stmt node_at
program-low options s bytes e r =
    let short = root-has (λ (t : Tree). Short (as_stmt t)) tt s
    (λ i l x y z t. short-tree (node_at s i) x y z (let z = bytes (4 * i + 1) in omega arith)) r in
    let a = accepted options s e in
    low_of (root_at (program_with options s) r) (enough-timed options.pulse (root_at (program_with options s) r) (accepted-pulse options s e).0 (program-fit options s e r).timed)
    (subst (λ (P : Code). Short P) (at-root (time_in options.times) options.pulse options.procedures s a r) short)

-- each root can be numbered
pub every-root : (R : ℕ → Code → Type 0) (r : ℕ) (Ps : List Code) → ((j : ℕ) → j < length Ps → R (r + j) (get_or Ps j ok)) → EveryRoot R r Ps
every-root R r [] h = tt
every-root R r (P ∷ Ps) h = (
  rw add-zero at (h 0 (omega arith)),
  every-root R (r + 1) Ps
      (λ j l.
      let q : r + 1 + j ≡ r + suc j = omega arith in
      rw q (h (suc j) (suc-le-suc l))),
)

pub program-numberable : (options : Options) (s : List ℕ) → Bytes s → check_call options s ≡ Accepted
    → EveryRoot Numberable 0 (roots (program_with options s))
program-numberable options s bytes e =
    every-root Numberable 0 (roots (program_with options s))
    (λ j l. rw zero-add ((program-fit options s e j).formed, program-low options s bytes e j, root-earlier options s e j l))
