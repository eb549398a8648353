-- The marks of a statement's assignments, told from its walk cells and its nodes. Assumes nothing.
use mathlib.Core.Path.{◌≡◌, refl, sym, ap, ap₂, ◌∙◌}
use mathlib.Core.Bool.{Bool, true, false}
use mathlib.Core.List.{List, [], ◌∷◌, ◌++◌, append_assoc}
use Prim.Native.Nat.{ℕ, suc, ◌+◌, ◌<◌}
use native.Mathlib.Nat.{add-zero}
use native.Mathlib.Omega.{arith}
use lib.Dec.{eqb}
use lib.ListN.{length}
use borrow.Author.Tests.{ne_eqb, le-leb, lt-leb}
use Rattle.model.specs.declared.Cell.{Cell}
use Rattle.model.specs.declared.Node.{Node}
use Rattle.model.specs.Word.{pick}
use Rattle.model.specs.Program.{Expr, const, var, compl, op, elem, Code, ok, tick, assign, assign_elem, seq, par, ite, while, repeat, loop, exit, call, array_var, preorder_e, preorder}
use Rattle.model.specs.Numbering.{Wires, expr_count, expr_cells, or_chain, ors, or_count, on_true, on_false, past_switches, delay_count, walk_count, then_delays, else_delays, else_cells, exits_at, finish_wire, loop_exits, walk}
use Rattle.laws.specs.Program.Fit.{FormedExpr, Formed, Earlier}
use Rattle.laws.specs.Numbering.Lengths.{exit-ors}
use Rattle.compiler.specs.Walk.{marks_of}
use Rattle.joiner.specs.Gates.{gates_in, gate, gate_marks}

-- What nodes assign -----------------------------------------------------------------------------------------------------------------------

gates-append : (ns ms : List Node) → gates_in (ns ++ ms) ≡ gates_in ns ++ gates_in ms
unfolding gates_in
gates-append [] ms = refl
gates-append (a ∷ ns) ms = go (eqb a.kind 18) (eqb a.kind 24) (gates-append ns ms)
  where
    go : (b d : Bool) → gates_in (ns ++ ms) ≡ gates_in ns ++ gates_in ms
        → pick b (a.n ∷ gates_in (ns ++ ms)) (pick d (array_var a.n ∷ (20 ∷ gates_in (ns ++ ms))) (gates_in (ns ++ ms)))
        ≡ pick b (a.n ∷ gates_in ns) (pick d (array_var a.n ∷ (20 ∷ gates_in ns)) (gates_in ns)) ++ gates_in ms
    go true d h = ap (λ (l : List ℕ). a.n ∷ l) h
    go false true h = ap (λ (l : List ℕ). array_var a.n ∷ (20 ∷ l)) h
    go false false h = h

none-assigned : (E : Expr) → FormedExpr E → gates_in (preorder_e E) ≡ []
unfolding gates_in preorder_e
none-assigned (const n) w = refl
none-assigned (var x) w = refl
none-assigned (compl E) w = none-assigned E w
none-assigned (op k E F) w =
    rw (ne_eqb k 18 (λ e. omega (arith, w.1)), ne_eqb k 24 (λ e. omega (arith, w.1)), gates-append (preorder_e E) (preorder_e F), none-assigned E w.2, none-assigned F w.3)
none-assigned (elem k E) w = none-assigned E w.1

unfoldable pub gates_of : Code → List ℕ
gates_of P = gates_in (preorder P)

module _ (δ : ℕ) (E : Expr) (w : FormedExpr E) where
  gates-assign : (x : ℕ) → gates_of (assign δ x E) ≡ x ∷ []
  unfolding gates_of gates_in preorder
  gates-assign x = ap (λ (l : List ℕ). x ∷ l) (none-assigned E w)

  gates-elem : (k : ℕ) (I : Expr) → FormedExpr I → gates_of (assign_elem δ k I E) ≡ array_var k ∷ (20 ∷ [])
  unfolding gates_of gates_in preorder
  gates-elem k I v =
      ap (λ (l : List ℕ). array_var k ∷ (20 ∷ l)) (gates-append (preorder_e I) (preorder_e E) ∙ ap₂ ◌++◌ (none-assigned I v) (none-assigned E w))

  gates-ite : (P Q : Code) → gates_of (ite δ E P Q) ≡ gates_of P ++ gates_of Q
  unfolding gates_of gates_in preorder
  gates-ite P Q =
      gates-append (preorder_e E) (preorder P ++ preorder Q) ∙ ap₂ ◌++◌ (none-assigned E w) (gates-append (preorder P) (preorder Q))

  gates-while : (P : Code) → gates_of (while δ E P) ≡ gates_of P
  unfolding gates_of gates_in preorder
  gates-while P = gates-append (preorder_e E) (preorder P) ∙ ap (λ (l : List ℕ). l ++ gates_in (preorder P)) (none-assigned E w)

  gates-repeat : (P : Code) → gates_of (repeat δ E P) ≡ gates_of P
  unfolding gates_of gates_in preorder
  gates-repeat P = gates-append (preorder_e E) (preorder P) ∙ ap (λ (l : List ℕ). l ++ gates_in (preorder P)) (none-assigned E w)

pub gates-seq : (P Q : Code) → gates_of (seq P Q) ≡ gates_of P ++ gates_of Q
unfolding gates_of gates_in preorder
gates-seq P Q = gates-append (preorder P) (preorder Q)

gates-loop : (δ : ℕ) (P : Code) → gates_of (loop δ P) ≡ gates_of P
unfolding gates_of gates_in preorder
gates-loop δ P = refl

gates-par : (P Q : Code) → gates_of (par P Q) ≡ gates_of P ++ gates_of Q
unfolding gates_of gates_in preorder
gates-par P Q = gates-append (preorder P) (preorder Q)

-- The gates of a walk -----------------------------------------------------------------------------------------------------------------------

-- an assignment's, and an element assignment's two
gate-variable : (x d n : ℕ) → x < 16 → gate x d n ≡ x ∷ d ∷ n ∷ 0 ∷ []
unfolding gate
gate-variable x d n l = rw (ne_eqb x 20 (λ e. omega arith), lt-leb 16 x l)

gate-array : (k d n : ℕ) → k < 4 → gate (array_var k) d n ≡ array_var k ∷ d ∷ n ∷ (n + 1) ∷ []
unfolding gate
gate-array k d n l = rw (ne_eqb (16 + k) 20 (λ e. omega arith), le-leb 16 (16 + k) (omega arith))

gate-index : (d n : ℕ) → gate 20 d n ≡ []
unfolding gate
gate-index d n = refl

chain-gates : (ws : List ℕ) (acc m n : ℕ) (rest : List Cell) (xs : List ℕ) → gate_marks n (or_chain 35 acc m ws ++ rest) xs ≡ gate_marks (n + length ws) rest xs
unfolding gate_marks or_chain
chain-gates [] acc m n rest xs = ap (λ (k : ℕ). gate_marks k rest xs) (sym (add-zero n))
chain-gates (w ∷ ws) acc m n rest xs =
    let e : n + 1 + length ws ≡ n + suc (length ws) = omega arith in
    chain-gates ws m (m + 1) (n + 1) rest xs ∙ ap (λ (k : ℕ). gate_marks k rest xs) e

ors-gates : (ws : List ℕ) (m n : ℕ) (rest : List Cell) (xs : List ℕ) → gate_marks n (ors 35 m ws ++ rest) xs ≡ gate_marks (n + or_count ws) rest xs
unfolding ors or_count
ors-gates [] m n rest xs = ap (λ (k : ℕ). gate_marks k rest xs) (sym (add-zero n))
ors-gates (w ∷ ws) m n rest xs = chain-gates ws w m n rest xs

module _ (M : Wires) (F : ℕ → ℕ) where
  at-number : {n m : ℕ} (rest : List Cell) (xs : List ℕ) → n ≡ m → gate_marks n rest xs ≡ gate_marks m rest xs
  at-number rest xs e = ap (λ (k : ℕ). gate_marks k rest xs) e

  expr-gates : (E : Expr) → FormedExpr E → (c n : ℕ) (rest : List Cell) (xs : List ℕ)
      → gate_marks n (expr_cells M E c ++ rest) xs ≡ gate_marks (n + expr_count E) rest xs
  unfolding gate_marks expr_cells expr_count
  expr-gates (const v) w c n rest xs = refl
  expr-gates (var x) w c n rest xs = at-number rest xs (sym (add-zero n))
  expr-gates (compl E) w c n rest xs = simp (append_assoc, expr-gates E w c n) (at-number rest xs (omega arith))
  expr-gates (op k E G) w c n rest xs =
      let e : eqb k 41 ≡ false = ne_eqb k 41 (λ e. omega (arith, w.1)) in
      simp (append_assoc, expr-gates E w.2 c n, expr-gates G w.3 (c + expr_count E), e) (at-number rest xs (omega arith))
  expr-gates (elem k E) w c n rest xs = simp (append_assoc, expr-gates E w.1 c n) (at-number rest xs (omega arith))

  pub walk-marks : (P : Code) → Formed P → Earlier 0 P → (s d c n : ℕ) (rest : List Cell) (xs : List ℕ)
      → gate_marks n (walk M F P s d c ++ rest) (gates_of P ++ xs) ≡ marks_of P d n ++ gate_marks (n + walk_count P) rest xs
  unfolding gate_marks walk marks_of walk_count
  walk-marks ok w u s d c n rest xs = unfold gates_of gates_in preorder in at-number rest xs (sym (add-zero n))
  walk-marks (tick δ) w u s d c n rest xs = unfold gates_of gates_in preorder in at-number rest xs (sym (add-zero n))
  walk-marks (assign δ x E) w u s d c n rest xs =
      simp (append_assoc, expr-gates E w.2 c n, gates-assign δ E w.2, gate-variable x d (n + expr_count E) w.1)
      (ap (λ (l : List ℕ). x ∷ d ∷ (n + expr_count E) ∷ 0 ∷ l) (at-number rest xs (omega arith)))
  walk-marks (assign_elem δ k I E) w u s d c n rest xs =
      let m = n + expr_count I + expr_count E in
      simp (
        append_assoc,
        expr-gates I w.2 c n,
        expr-gates E w.3 (c + expr_count I),
        gates-elem δ E w.3 k I w.2,
        gate-array k d (n + expr_count I + expr_count E) w.1,
        gate-index d (n + expr_count I + expr_count E + 1),
      )
      (ap (λ (l : List ℕ). array_var k ∷ d ∷ m ∷ (m + 1) ∷ l) (at-number rest xs (omega arith)))
  walk-marks (seq P Q) w u s d c n rest xs =
      simp (append_assoc, gates-seq, walk-marks P w.0 u.0 s d c n, walk-marks Q w.1 u.1 (finish_wire P s d c) (d + delay_count P) (c + walk_count P))
      (ap (λ (l : List ℕ). marks_of P d n ++ (marks_of Q (d + delay_count P) (n + walk_count P) ++ l)) (at-number rest xs (omega arith)))
  walk-marks (par P Q) w u s d c n rest xs =
      simp (append_assoc, gates-par, walk-marks P w.0 u.0 s d c n, walk-marks Q w.1 u.1 s (d + delay_count P) (c + walk_count P))
      (ap (λ (l : List ℕ). marks_of P d n ++ (marks_of Q (d + delay_count P) (n + walk_count P) ++ l)) (at-number rest xs (omega arith)))
  walk-marks (ite δ E P Q) w u s d c n rest xs =
      simp (
        append_assoc,
        gates-ite δ E w.1 P Q,
        expr-gates E w.1 c n,
        walk-marks P w.2 u.2 (on_true E c) (then_delays δ d) (past_switches E c),
        walk-marks Q w.3 u.3 (on_false E c) (else_delays δ P d) (else_cells E P c),
      )
      (ap (λ (l : List ℕ). marks_of P (then_delays δ d) (past_switches E n) ++ (marks_of Q (else_delays δ P d) (else_cells E P n) ++ l)) (at-number rest xs (omega arith)))
  walk-marks (while δ E P) w u s d c n rest xs =
      simp (append_assoc, gates-while δ E w.1 P, expr-gates E w.1 c n, walk-marks P w.2 u.2 (on_true E c) (d + 1) (past_switches E c))
      (ap (λ (l : List ℕ). marks_of P (d + 1) (past_switches E n) ++ l) (at-number rest xs (omega arith)))
  walk-marks (repeat δ E P) w u s d c n rest xs =
      simp (append_assoc, gates-repeat δ E w.1 P, expr-gates E w.1 c n, walk-marks P w.2 u.2 (past_switches E c) (d + 1) (past_switches E c + 1))
      (ap (λ (l : List ℕ). marks_of P (d + 1) (past_switches E n + 1) ++ l) (at-number rest xs (omega arith)))
  walk-marks (loop δ P) w u s d c n rest xs =
      simp (append_assoc, gates-loop, walk-marks P w.1 u.1 c (d + 1) (c + 1) (n + 1), ors-gates (loop_exits P d c) (exits_at P c))
      (ap (λ (l : List ℕ). marks_of P (d + 1) (n + 1) ++ l) (at-number rest xs (omega (arith, exit-ors P c (d + 1) (c + 1)))))
  walk-marks exit w u s d c n rest xs = unfold gates_of gates_in preorder in at-number rest xs (sym (add-zero n))
  walk-marks (call δ p) w u s d c n rest xs = absurd (omega arith)
