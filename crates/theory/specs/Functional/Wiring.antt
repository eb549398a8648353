-- The functional circuit of a statement, after document 001: a relation between its start, its finish, the words that it gets and the words that it
-- hands on. Assumes nothing: definitions.
use Rattle.std.specs.Prelude.{ℕ, suc, ◌≡◌, Bool, true, false, not, ◌&&◌, ◌||◌}
use Rattle.std.specs.Int.Bits.{bit_or}
use Rattle.model.specs.Word.{pick, is_zero}
use Rattle.model.specs.Program.{Expr, Stmt, ok, tick, assign, assign_elem, seq, par, ite, while, repeat, loop, exit, writes, call}
use Rattle.model.specs.Rules.{Store, owner, eval, put, kept}
use Rattle.model.specs.Circuit.{Sig, delayed}
use Rattle.theory.specs.Control.Wiring.{◌≈◌, either}
use Rattle.theory.specs.Functional.Merges.{merged}

-- Words on wires: instant, variable
abbrev pub Words : Type 0
Words = ℕ → Store

-- "45, a latch ...: if control a was 1 an instant ago it takes word b of that instant, else keeps its own." A loop's latch is loaded by p with the
-- word v and by q with the word w: a is p or q, and b is v gated by p or w gated by q. l is its own word; what it was at first does not matter.
unfoldable pub loaded : Bool → Bool → ℕ → ℕ → ℕ → ℕ
loaded p q v w l = pick (p || q) (bit_or (pick p v 0) (pick q w 0)) l

-- the variables of b have latches, and the words of the others, which the body does not write, go by
pub record Loads (b : ℕ → Bool) (p q : Sig) (v w l : Words) : Type 0 where
  pub latched : (t x : ℕ) → b x ≡ true → l (suc t) x ≡ loaded (p t) (q t) (v t x) (w t x) (l t x)
  pub passed : (t x : ℕ) → b x ≡ false → l t x ≡ v t x

-- The circuit of a statement ---------------------------------------------------------------------------------------------------------------
-- The wiring of each kind is a record over the parts' relations N, with C and H, what more is known of a delay of d and its
-- input, and of a merge's two inputs. Of latches nothing more is ever known.

-- Which delay or merge of a statement: of its own, the first or the second, or one of a part
pub data Place : Type 0 where
  here also : Place
  left right : Place → Place

-- what is known of each delay and of each merge
pub record Tags : Type 1 where
  pub delay : Place → ℕ → Sig → Type 0
  pub merge : Place → Sig → Sig → Type 0

-- those of the two parts; a loop's body is the first
abbrev pub lft : Tags → Tags
lft E = record { delay = λ p. E.delay (left p); merge = λ p. E.merge (left p) }

abbrev pub rgt : Tags → Tags
rgt E = record { delay = λ p. E.delay (right p); merge = λ p. E.merge (right p) }

abbrev pub Part : Type 1
Part = Sig → Sig → Words → Words → Type 0

-- ok, tick: words go by
pub record Plain (g f : Sig) (v w : Words) : Type 0 where
  pub fin : f ≈ g
  pub words : (t x : ℕ) → w t x ≡ v t x

-- the expression's word in place of x's; the others go by
pub record Assigned (d x : ℕ) (e : Expr) (s f : Sig) (v w : Words) : Type 0 where
  pub fin : f ≈ delayed d s
  pub words : (t y : ℕ) → w t y ≡ put (v t) x (eval e (v t)) y

pub record Seq (N₁ N₂ : Part) (s f : Sig) (v w : Words) : Type 0 where
  pub mid : Sig
  pub w₁ : Words
  pub left : N₁ s mid v w₁
  pub right : N₂ mid f w₁ w

-- both sides get the words; of each variable one wire is handed on
pub record Par (P Q : Stmt) (N₁ N₂ : Part) (H : Sig → Sig → Type 0) (s f : Sig) (v w : Words) : Type 0 where
  pub f₁ : Sig
  pub w₁ : Words
  pub f₂ : Sig
  pub w₂ : Words
  pub left : N₁ s f₁ v w₁
  pub right : N₂ s f₂ v w₂
  pub words : (t x : ℕ) → w t x ≡ kept P Q (v t) (w₁ t) (w₂ t) x
  pub fin : f ≈ merged f₁ f₂
  pub merge : H f₁ f₂

-- both branches get the words; the condition's word selects, at every instant
pub record Ite (d : ℕ) (e : Expr) (N₁ N₂ : Part) (C : Sig → Type 0) (s f : Sig) (v w : Words) : Type 0 where
  pub s₁ : Sig
  pub f₁ : Sig
  pub w₁ : Words
  pub s₂ : Sig
  pub f₂ : Sig
  pub w₂ : Words
  pub left : N₁ s₁ f₁ v w₁
  pub right : N₂ s₂ f₂ v w₂
  pub yes₁ : (t : ℕ) → s₁ t ≡ (delayed d s t && not (is_zero (eval e (v t))))
  pub no₂ : (t : ℕ) → s₂ t ≡ (delayed d s t && is_zero (eval e (v t)))
  pub words : (t x : ℕ) → w t x ≡ pick (is_zero (eval e (v t))) (w₂ t x) (w₁ t x)
  pub fin : f ≈ either f₁ f₂
  pub delay : C s

-- the words handed on are the latches', which the start loads, and the body's finish; the test and the body read them. b: what the body writes.
-- The two delays, of 1 and of d, are told as one of d + 1.
pub record While (b : ℕ → Bool) (d : ℕ) (e : Expr) (N : Part) (C : Sig → Type 0) (s f : Sig) (v w : Words) : Type 0 where
  pub s₁ : Sig
  pub f₁ : Sig
  pub w₁ : Words
  pub body : N s₁ f₁ w w₁
  pub latches : Loads b s f₁ v w₁ w
  pub begin : (t : ℕ) → s₁ t ≡ (delayed (suc d) (either s f₁) t && not (is_zero (eval e (w t))))
  pub fin : (t : ℕ) → f t ≡ (delayed (suc d) (either s f₁) t && is_zero (eval e (w t)))
  pub delay : C (either s f₁)

-- the words handed on are the body's, which reads the latches l; the start loads them, and a test that is false
pub record Repeat (b : ℕ → Bool) (d : ℕ) (e : Expr) (N : Part) (C₁ C₂ : Sig → Type 0) (s f : Sig) (v w : Words) : Type 0 where
  pub s₁ : Sig
  pub f₁ : Sig
  pub g : Sig
  pub l : Words
  pub body : N s₁ f₁ l w
  pub latches : Loads b s g v w l
  pub begin : s₁ ≈ delayed 1 (either s g)
  pub more : (t : ℕ) → g t ≡ (delayed d f₁ t && is_zero (eval e (w t)))
  pub fin : (t : ℕ) → f t ≡ (delayed d f₁ t && not (is_zero (eval e (w t))))
  pub load : C₁ (either s g)
  pub delay : C₂ f₁

-- the words that P writes
abbrev pub written : Stmt → ℕ → Bool
written P x = writes P (owner x)

-- statements of other kinds have no functional circuit
unfoldable pub Net : Tags → Stmt → Part
Net E ok s f v w = Plain s f v w
Net E (tick d) s f v w = Plain (delayed d s) f v w × E.delay here d s
Net E (assign d x e) s f v w = Assigned d x e s f v w × E.delay here d s
Net E (assign_elem d k i e) s f v w = ⊥
Net E (seq P Q) s f v w = Seq (Net (lft E) P) (Net (rgt E) Q) s f v w
Net E (par P Q) s f v w = Par P Q (Net (lft E) P) (Net (rgt E) Q) (E.merge here) s f v w
Net E (ite d e P Q) s f v w = Ite d e (Net (lft E) P) (Net (rgt E) Q) (E.delay here d) s f v w
Net E (while d e P) s f v w = While (written P) d e (Net (lft E) P) (E.delay here (suc d)) s f v w
Net E (repeat d e P) s f v w = Repeat (written P) d e (Net (lft E) P) (E.delay also 1) (E.delay here d) s f v w
Net E (loop d P) s f v w = ⊥
Net E exit s f v w = ⊥
Net E (call _ none) s f v w = elim none [ ]
