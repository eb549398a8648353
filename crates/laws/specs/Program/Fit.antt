-- What acceptance leaves of a tree: variables and operators that exist, delays that are long enough, parallel sides that are apart.
-- Facts about programs alone; the rules and the circuit both rest on them. Assumes nothing: definitions.
use Rattle.std.specs.Prelude.{◌≡◌, Bool, true, false, ◌||◌, List, [], ◌∷◌, ℕ, ◌+◌, ◌<◌, ◌≤◌, length}
use Rattle.model.specs.Program.{Expr, const, var, compl, op, elem, Statement, Code, Stmt, ok, tick, assign, assign_elem, seq, par, ite, while, repeat, loop, exit, call, time, gap, writes, touches}
use Rattle.model.specs.Procedures.{inline, inlined, reaches, reached}

-- what is asked of the delays, variables, arrays, expressions and called procedures in a statement, and of the sides of a parallel; loop_delay is
-- of loops and of calls
pub record Asks (C : Type 0) : Type 1 where
  pub delay : ℕ → Type 0
  pub if_delay : ℕ → Type 0
  pub loop_delay : ℕ → Type 0
  pub variable : ℕ → Type 0
  pub array : ℕ → Type 0
  pub expr : Expr → Type 0
  pub procedure : C → Type 0
  pub sides : Statement C → Statement C → Type 0

-- it holds wherever they stand
abbrev pub Everywhere : {C : Type 0} → Asks C → Statement C → Type 0
Everywhere a ok = Unit {0}
Everywhere a (tick d) = a.delay d
Everywhere a (assign d x e) = a.delay d × a.variable x × a.expr e
Everywhere a (assign_elem d k i e) = a.delay d × a.array k × a.expr i × a.expr e
Everywhere a (seq P Q) = Everywhere a P × Everywhere a Q
Everywhere a (par P Q) = Everywhere a P × Everywhere a Q × a.sides P Q
Everywhere a (ite d e P Q) = a.if_delay d × a.expr e × Everywhere a P × Everywhere a Q
Everywhere a (while d e P) = a.loop_delay d × a.expr e × Everywhere a P
Everywhere a (repeat d e P) = a.loop_delay d × a.expr e × Everywhere a P
Everywhere a (loop d P) = a.loop_delay d × Everywhere a P
Everywhere a exit = Unit {0}
Everywhere a (call d p) = a.loop_delay d × a.procedure p

-- nothing is asked of a piece
abbrev pub free : {A : Type 0} → A → Type 0
free x = Unit {0}

-- operators of kinds 4 to 9
abbrev pub KnownE : Expr → Type 0
KnownE (const n) = Unit {0}
KnownE (var n) = Unit {0}
KnownE (compl e) = KnownE e
KnownE (op k e f) = (4 ≤ k) × (k ≤ 9) × KnownE e × KnownE f
KnownE (elem k e) = KnownE e

-- delays that D asks for, of an if I, of loops and calls L
abbrev pub delaying : {C : Type 0} → (ℕ → Type 0) → (ℕ → Type 0) → (ℕ → Type 0) → Asks C
delaying D I L =
    record {
      delay = D;
      if_delay = I;
      loop_delay = L;
      variable = free;
      array = free;
      expr = free;
      procedure = free;
      sides = λ P Q. Unit {0};
    }

-- sides of a parallel that R asks for
abbrev pub beside : {C : Type 0} → (Statement C → Statement C → Type 0) → Asks C
beside R =
    record {
      delay = free;
      if_delay = free;
      loop_delay = free;
      variable = free;
      array = free;
      expr = free;
      procedure = free;
      sides = R;
    }

abbrev pub Known : {C : Type 0} → Statement C → Type 0
Known P =
    Everywhere
    (record {
      delay = free;
      if_delay = free;
      loop_delay = free;
      variable = free;
      array = free;
      expr = KnownE;
      procedure = free;
      sides = λ P Q. Unit {0};
    })
    P

-- and variables below 16, arrays below 4
abbrev pub FormedExpr : Expr → Type 0
FormedExpr (const n) = Unit {0}
FormedExpr (var x) = x < 16
FormedExpr (compl e) = FormedExpr e
FormedExpr (op k e f) = (4 ≤ k) × (k ≤ 9) × FormedExpr e × FormedExpr f
FormedExpr (elem k e) = (k < 4) × FormedExpr e

abbrev pub Formed : {C : Type 0} → Statement C → Type 0
Formed P =
    Everywhere
    (record {
      delay = free;
      if_delay = free;
      loop_delay = free;
      variable = λ x. x < 16;
      array = λ k. k < 4;
      expr = FormedExpr;
      procedure = free;
      sides = λ P Q. Unit {0};
    })
    P

-- of document 01's kinds: what refusal 28 leaves
abbrev pub BasicExpr : Expr → Type 0
BasicExpr (const n) = Unit {0}
BasicExpr (var x) = Unit {0}
BasicExpr (compl e) = BasicExpr e
BasicExpr (op k e f) = BasicExpr e × BasicExpr f
BasicExpr (elem k e) = ⊥

abbrev pub Basic : {C : Type 0} → Statement C → Type 0
Basic ok = Unit {0}
Basic (tick d) = Unit {0}
Basic (assign d x e) = BasicExpr e
Basic (assign_elem d k i e) = ⊥
Basic (seq P Q) = Basic P × Basic Q
Basic (par P Q) = Basic P × Basic Q
Basic (ite d e P Q) = BasicExpr e × Basic P × Basic Q
Basic (while d e P) = BasicExpr e × Basic P
Basic (repeat d e P) = BasicExpr e × Basic P
Basic (loop d P) = ⊥
Basic exit = ⊥
Basic (call d p) = ⊥

-- delays of at least 1, but for an if's
abbrev pub Timed : {C : Type 0} → Statement C → Type 0
Timed P = Everywhere (delaying (λ d. 1 ≤ d) free (λ d. 1 ≤ d)) P

-- and a loop's and a call's of at least the gap of the pulse length w
abbrev pub Enough : {C : Type 0} → ℕ → Statement C → Type 0
Enough w P = Everywhere (delaying (λ d. 1 ≤ d) free (λ d. gap w ≤ d)) P

-- delays that are bytes
abbrev pub Short : {C : Type 0} → Statement C → Type 0
Short P = Everywhere (delaying (λ d. d ≤ 255) (λ d. d ≤ 255) (λ d. d ≤ 255)) P

-- delays of 1 to 255, or 0 at an if
abbrev pub Low : {C : Type 0} → Statement C → Type 0
Low P = Everywhere (delaying (λ d. (1 ≤ d) × (d ≤ 255)) (λ d. d ≤ 255) (λ d. (1 ≤ d) × (d ≤ 255))) P

-- "A node's delay d is at least its expression's time", "An element's delay covers both children's times": with operator times τ
abbrev pub Covered : (ℕ → ℕ) → Code → Type 0
Covered τ ok = Unit {0}
Covered τ (tick d) = Unit {0}
Covered τ (assign d x e) = time τ e ≤ d
Covered τ (assign_elem d k i e) = (time τ i ≤ d) × (time τ e ≤ d)
Covered τ (seq P Q) = Covered τ P × Covered τ Q
Covered τ (par P Q) = Covered τ P × Covered τ Q
Covered τ (ite d e P Q) = (time τ e ≤ d) × Covered τ P × Covered τ Q
Covered τ (while d e P) = (time τ e ≤ d) × Covered τ P
Covered τ (repeat d e P) = (time τ e ≤ d) × Covered τ P
Covered τ (loop d P) = Covered τ P
Covered τ exit = Unit {0}
Covered τ (call d p) = Unit {0}

-- what P writes, Q does not touch
unfoldable pub Apart : Stmt → Stmt → Type 0
Apart P Q = (x : ℕ) → writes P x ≡ true → touches Q x ≡ false

-- sides of a parallel that are apart, either way
abbrev pub Separate : Stmt → Type 0
Separate P = Everywhere (beside (λ P Q. Apart P Q × Apart Q P)) P

-- an exit of P ends a loop around P; "an exit stays within its body"
unfoldable pub exits : {C : Type 0} → Statement C → Bool
exits ok = false
exits (tick d) = false
exits (assign d x e) = false
exits (assign_elem d k i e) = false
exits (seq P Q) = exits P || exits Q
exits (par P Q) = exits P || exits Q
exits (ite d e P Q) = exits P || exits Q
exits (while d e P) = exits P
exits (repeat d e P) = exits P
exits (loop d P) = false
exits exit = true
exits (call d p) = false

-- sides of a parallel of which no exit ends a loop around it: what refusal 22 leaves, which is a test of a whole program and not of one node,
-- and so stands beside Fit
abbrev pub Inside : {C : Type 0} → Statement C → Type 0
Inside P = Everywhere (beside (λ P Q. (exits P ≡ false) × (exits Q ≡ false))) P

-- Programs with procedures ---------------------------------------------------------------------------------------------------------------

-- refusal 24: calls of procedures below k
abbrev pub Earlier : ℕ → Code → Type 0
Earlier k P =
    Everywhere
    (record {
      delay = free;
      if_delay = free;
      loop_delay = free;
      variable = free;
      array = free;
      expr = free;
      procedure = λ p. p < k;
      sides = λ P Q. Unit {0};
    })
    P

-- refusal 25: no procedure below k is reached from both sides of a parallel
abbrev pub Single : (ℕ → ℕ → Bool) → ℕ → Code → Type 0
Single R k P = Everywhere (beside (λ P Q. (q : ℕ) → q < k → reaches R P q ≡ true → reaches R Q q ≡ false)) P

-- refusal 8, which looks through calls
abbrev pub Distinct : (ℕ → Stmt) → Code → Type 0
Distinct I P = Everywhere (beside (λ P Q. Apart (inline I P) (inline I Q) × Apart (inline I Q) (inline I P))) P

-- what R asks of each of some roots, with its number; the first has number r
abbrev pub EveryRoot : (ℕ → Code → Type 0) → ℕ → List Code → Type 0
EveryRoot R r [] = Unit {0}
EveryRoot R r (P ∷ Ps) = R r P × EveryRoot R (r + 1) Ps

-- what the numbering asks of root r
abbrev pub Numberable : ℕ → Code → Type 0
Numberable r P = Formed P × Low P × Earlier r P

-- what the checks of single nodes leave of a root, or of a part of one, with pulses of w
pub record Fit (w : ℕ) (bodies : List Code) (P : Code) : Type 0 where
  pub formed : Formed P
  pub timed : Enough w P
  pub single : Single (reached bodies) (length bodies) P
  pub distinct : Distinct (inlined bodies) P
