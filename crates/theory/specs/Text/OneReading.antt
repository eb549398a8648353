-- A list of tokens has at most one reading: the reader makes the nodes of each, and the trees of these nodes are the reading again.
-- So the grammar of model/Text is unambiguous.
-- Assumes nothing.
use Rattle.std.specs.Prelude.{◌≡◌, refl, List, [], ◌∷◌, ◌++◌, ℕ, get_or}
use Rattle.std.proofs.Common.{sym, ◌∙◌, ap, append_assoc, append-nil}
use Rattle.model.specs.declared.Node.{Node}
use Rattle.model.specs.declared.texts.Token.{Token}
use Rattle.model.specs.Program.{Expr, op, Code, Tree, expr, stmt, none, row_of, as_expr, as_stmt, expr_of, stmt_of, tree_of, node, grow, forest, preorder_e, preorder}
use Rattle.model.specs.Text.{Left, sum, difference, and, or, Comparison, equal, less, IsExpr, number, variable, parens, complement, left, compare, IsStmt, skip, ticks, becomes, ifs, whiles, repeats, braces, sequence, parallel, Means}
use Rattle.theory.specs.Text.Found.{found}

-- The trees of a reading's nodes -------------------------------------------------------------------------------------------------------

-- whatever nodes follow, the nodes ns make these trees
record Makes (ns : List Node) (trees : List Tree) : Type 0 where
  made : (rest : List Node) → forest (ns ++ rest) ≡ trees ++ forest rest

makes_both : {ns ms : List Node} {xs ys : List Tree} → Makes ns xs → Makes ms ys → Makes (ns ++ ms) (xs ++ ys)
makes_both {ns} {ms} {xs} {ys} f g =
    record {
      made = λ rest. ap forest (append_assoc ns ms rest) ∙ f.made (ms ++ rest) ∙ ap (◌++◌ xs) (g.made rest) ∙ sym (append_assoc xs ys (forest rest));
    }

makes-node : {t : Tree} {ns : List Node} {xs : List Tree} (a : Node) → Makes ns xs → ((us : List Tree) → grow a (xs ++ us) ≡ t ∷ us)
    → Makes (a ∷ ns) (t ∷ [])
unfolding forest
makes-node a f h = record { made = λ rest. ap (grow a) (f.made rest) ∙ h (forest rest) }

-- no node makes no tree
makes_none : Makes [] []
makes_none = record { made = λ rest. refl }

left-grows : {l k : ℕ} → Left l k → (e f : Expr) (ts : List Tree) → grow (node k 0 0) (expr e ∷ expr f ∷ ts) ≡ expr (op k e f) ∷ ts
unfolding grow tree_of expr_of as_expr row_of
left-grows sum e f ts = refl
left-grows difference e f ts = refl
left-grows and e f ts = refl
left-grows or e f ts = refl

comparison-grows : {k : ℕ} → Comparison k → (e f : Expr) (ts : List Tree) → grow (node k 0 0) (expr e ∷ expr f ∷ ts) ≡ expr (op k e f) ∷ ts
unfolding grow tree_of expr_of as_expr row_of
comparison-grows equal e f ts = refl
comparison-grows less e f ts = refl

expr-makes : {l : ℕ} {ts : List Token} {e : Expr} → IsExpr l ts e → Makes (preorder_e e) (expr e ∷ [])
unfolding grow tree_of expr_of as_expr row_of preorder_e
expr-makes (number n) = makes-node (node 1 0 n) makes_none (λ us. refl)
expr-makes (variable x) = makes-node (node 2 0 x) makes_none (λ us. refl)
expr-makes (parens d) = expr-makes d
expr-makes (complement d) = makes-node (node 3 0 0) (expr-makes d) (λ us. refl)
expr-makes (left o d f) = makes-node (node _ 0 0) (makes_both (expr-makes d) (expr-makes f)) (left-grows o _ _)
expr-makes (compare o d f) = makes-node (node _ 0 0) (makes_both (expr-makes d) (expr-makes f)) (comparison-grows o _ _)
expr-makes (IsExpr.up d) = expr-makes d

stmt-makes : {l : ℕ} {ts : List Token} {P : Code} → IsStmt l ts P → Makes (preorder P) (stmt P ∷ [])
unfolding grow tree_of stmt_of as_expr as_stmt row_of preorder
stmt-makes skip = makes-node (node 16 0 0) makes_none (λ us. refl)
stmt-makes (ticks d) = makes-node (node 17 d 0) makes_none (λ us. refl)
stmt-makes (becomes d x w) = makes-node (node 18 d x) (expr-makes w) (λ us. refl)
stmt-makes (ifs d w f g) = makes-node (node 21 d 0) (makes_both (expr-makes w) (makes_both (stmt-makes f) (stmt-makes g))) (λ us. refl)
stmt-makes (whiles d w f) = makes-node (node 22 d 0) (makes_both (expr-makes w) (stmt-makes f)) (λ us. refl)
stmt-makes (repeats d f w) = makes-node (node 23 d 0) (makes_both (expr-makes w) (stmt-makes f)) (λ us. refl)
stmt-makes (braces f) = stmt-makes f
stmt-makes (sequence f g) = makes-node (node 19 0 0) (makes_both (stmt-makes f) (stmt-makes g)) (λ us. refl)
stmt-makes (parallel f g) = makes-node (node 20 0 0) (makes_both (stmt-makes f) (stmt-makes g)) (λ us. refl)
stmt-makes (IsStmt.up f) = stmt-makes f

-- One reading --------------------------------------------------------------------------------------------------------------------------

pub reading-tree : {ts : List Token} {P : Code} → Means ts P → forest (preorder P) ≡ stmt P ∷ []
unfolding forest
reading-tree {P} m = ap forest (sym (append-nil (preorder P))) ∙ (stmt-makes m).made []

pub one-reading : {ts : List Token} {P Q : Code} → Means ts P → Means ts Q → P ≡ Q
unfolding as_stmt
one-reading m n =
    ap (λ (trees : List Tree). as_stmt (get_or trees 0 none))
    (sym (reading-tree m) ∙ ap forest (sym (found m).1 ∙ (found n).1) ∙ reading-tree n)
