-- What the walk asks, and what it leaves, of an expression and of a statement. Assumes nothing: definitions.
use Rattle.std.specs.Prelude.{◌≡◌, List, [], ◌∷◌, ◌++◌, ℕ, ◌+◌, ◌*◌, ◌≤◌, length, get_or, take, drop}
use Rattle.std.proofs.lemmas.List.Edits.{sets}
use Rattle.model.specs.Program.{Expr, Code, ok, tick, assign, assign_elem, seq, par, ite, while, repeat, loop, exit, call, array_var}
use Rattle.model.specs.Numbering.{Wires, memory_wires, expr_count, expr_wire, expr_cells, on_true, past_switches, switches, if_delay_count, if_delay_cells, if_pulse, delay_count, exit_count, walk_count, finish_wire, exit_wires, ors, ors_out, or_count, delays, walk}
use Rattle.laws.specs.Program.Fit.{FormedExpr, Formed, Earlier}
use Rattle.compiler.specs.declared.walk.Word.{Word}
use Rattle.compiler.specs.declared.walk.Place.{Place}
use Rattle.compiler.specs.Writes.{write, both}

-- Expressions --------------------------------------------------------------------------------------------------------------------------

abbrev pub word : ℕ → ℕ → Word
word w c = record { wire = w; cell = c }

-- e goes to cell c of a list of n bytes
pub record ExprReady (e : Expr) (c n : ℕ) : Type 0 where
  pub formed : FormedExpr e
  pub room : 6 * (c + expr_count e) ≤ n
  pub small : n ≤ 42258

pub record ExprDone (ws : Wires) (e : Expr) (c : ℕ) (before after : List ℕ) (r : Word) : Type 0 where
  pub cells : after ≡ write c (expr_cells ws e c) before
  pub wire : r.wire ≡ expr_wire ws e c
  pub cell : r.cell ≡ c + expr_count e

-- a condition and its switches go there
pub record SwitchReady (e : Expr) (c n : ℕ) : Type 0 where
  pub expr : ExprReady e c n
  pub room : 6 * past_switches e c ≤ n

pub record Switched (ws : Wires) (e : Expr) (c if_pulse : ℕ) (before after : List ℕ) (r : ℕ) : Type 0 where
  pub cells : after ≡ write c (switches ws e if_pulse c []) before
  pub switch : r ≡ on_true e c

-- Statements ---------------------------------------------------------------------------------------------------------------------------

abbrev pub place : ℕ → ℕ → ℕ → ℕ → ℕ → Place
place w d c k o = record { wire = w; delay = d; cell = c; mark = k; out = o }

-- how many assignments and calls a statement has
unfoldable pub assignments : Code → ℕ
assignments ok = 0
assignments (tick δ) = 0
assignments (assign δ x e) = 1
assignments (assign_elem δ k i e) = 1
assignments (seq P Q) = assignments P + assignments Q
assignments (par P Q) = assignments P + assignments Q
assignments (ite δ e P Q) = assignments P + assignments Q
assignments (while δ e P) = assignments P
assignments (repeat δ e P) = assignments P
assignments (loop δ P) = assignments P
assignments exit = 0
assignments (call δ p) = 1

-- how many exits it has, those of its loops too
unfoldable pub all_exits : Code → ℕ
all_exits ok = 0
all_exits (tick δ) = 0
all_exits (assign δ x e) = 0
all_exits (assign_elem δ k i e) = 0
all_exits (seq P Q) = all_exits P + all_exits Q
all_exits (par P Q) = all_exits P + all_exits Q
all_exits (ite δ e P Q) = all_exits P + all_exits Q
all_exits (while δ e P) = all_exits P
all_exits (repeat δ e P) = all_exits P
all_exits (loop δ P) = all_exits P
all_exits exit = 1
all_exits (call δ p) = 0

-- the marks of its assignments and calls, in node order: variable, first delay cell, kind 41 cells of the value and of the index. Of a call the
-- variable is 20 and the procedure, so that the ors of variables pass it by, and the delays of a procedure's callers are joined as a variable's
-- clocks are
unfoldable pub marks_of : Code → ℕ → ℕ → List ℕ
marks_of ok d c = []
marks_of (tick δ) d c = []
marks_of (assign δ x e) d c = x ∷ d ∷ (c + expr_count e) ∷ 0 ∷ []
marks_of (assign_elem δ k i e) d c = array_var k ∷ d ∷ (c + expr_count i + expr_count e) ∷ (c + expr_count i + expr_count e + 1) ∷ []
marks_of (seq P Q) d c = marks_of P d c ++ marks_of Q (d + delay_count P) (c + walk_count P)
marks_of (par P Q) d c = marks_of P d c ++ marks_of Q (d + delay_count P) (c + walk_count P)
marks_of (ite δ e P Q) d c = marks_of P (d + if_delay_count δ) (past_switches e c) ++ marks_of Q (d + if_delay_count δ + delay_count P) (past_switches e c + walk_count P)
marks_of (while δ e P) d c = marks_of P (d + 1) (past_switches e c)
marks_of (repeat δ e P) d c = marks_of P (d + 1) (past_switches e c + 1)
marks_of (loop δ P) d c = marks_of P (d + 1) (c + 1)
marks_of exit d c = []
marks_of (call δ p) d c = (20 + p) ∷ d ∷ 0 ∷ 0 ∷ []

-- an if's own delay cell
pub record Owned (δ start k : ℕ) (before after : List ℕ) (r : Word) : Type 0 where
  pub cells : after ≡ write k (if_delay_cells δ start) before
  pub wire : r.wire ≡ if_pulse δ start k
  pub cell : r.cell ≡ k + if_delay_count δ

-- P goes to place p of a list of n bytes; its delay cells end below its walk cells
pub record Ready (M : ℕ) (P : Code) (p : Place) (n : ℕ) : Type 0 where
  pub formed : Formed P
  pub earlier : Earlier 8 P
  pub memory : M + 24 ≤ 627
  pub apart : p.delay + delay_count P ≤ p.cell
  pub room : 6 * (p.cell + walk_count P) ≤ n
  pub small : n ≤ 3762
  pub marks : p.mark + 4 * assignments P ≤ 800
  pub outs : p.out + all_exits P ≤ 200

-- the finish of body p, by an array of them
abbrev pub finish_in : List ℕ → ℕ → ℕ
finish_in finishes p = get_or finishes p 0

-- F p is the finish of body p
pub record Done (pulse M : ℕ) (F : ℕ → ℕ) (P : Code) (p : Place) (before after : List ℕ) (marked remarked : List ℕ) (r : Place) : Type 0 where
  pub cells :
      after ≡ both p.delay (delays pulse P p.wire p.delay p.cell) p.cell (walk (memory_wires M) F P p.wire p.delay p.cell) before
  pub marks : remarked ≡ sets marked p.mark (marks_of P p.delay p.cell)
  pub wire : r.wire ≡ finish_wire P p.wire p.delay p.cell
  pub delay : r.delay ≡ p.delay + delay_count P
  pub cell : r.cell ≡ p.cell + walk_count P
  pub mark : r.mark ≡ p.mark + 4 * assignments P
  pub out : r.out ≡ p.out + exit_count P

-- Exits --------------------------------------------------------------------------------------------------------------------------------

-- the starts of the exits of P wait behind those that waited before; what lies behind them is not told
pub record Opened (P : Code) (p : Place) (before after : List ℕ) : Type 0 where
  pub same : length after ≡ length before
  pub starts : take (p.out + exit_count P) after ≡ take p.out before ++ exit_wires P p.wire p.delay p.cell

-- those that wait from entry i on and end before entry j
abbrev pub waiting : List ℕ → ℕ → ℕ → List ℕ
waiting os i j = drop i (take j os)

-- their ors go to cell n of a list of so many bytes
pub record ExitsReady (os : List ℕ) (i j n size : ℕ) : Type 0 where
  pub upward : i ≤ j
  pub most : j ≤ 200
  pub long : length os ≡ 200
  pub room : 6 * (n + or_count (waiting os i j)) ≤ size
  pub small : size ≤ 3762

pub record ExitsJoined (n : ℕ) (ws : List ℕ) (before after : List ℕ) (r : Word) : Type 0 where
  pub cells : after ≡ write n (ors 35 n ws) before
  pub wire : r.wire ≡ ors_out 1 n ws
  pub cell : r.cell ≡ n + or_count ws
