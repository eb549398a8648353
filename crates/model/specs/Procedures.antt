-- What a program means: the statement without calls that it is, each call being the delay and then the body; and which procedures a statement
-- reaches. Model/Calling has the rules of calls as a reader expects them, and the theory proves that they are those of this statement.
-- Assumes nothing: definitions.
use Rattle.std.specs.Prelude.{Bool, true, false, ◌||◌, List, ℕ, zero, suc, eqb, length, get_or}
use Rattle.model.specs.Program.{Code, Stmt, ok, tick, assign, assign_elem, seq, par, ite, while, repeat, loop, exit, call, Program}

-- body p; where there is none, refusal 24 leaves no call of it
abbrev pub body_at : List Code → ℕ → Code
body_at bodies p = get_or bodies p ok

-- values by number, each made from those below it: of number p, if p is below k, and else z
unfoldable pub table : {A : Type 0} → A → ((ℕ → A) → ℕ → A) → ℕ → ℕ → A
table z step zero p = z
table z step (suc k) p = elim (eqb p k) [ true ↦ step (table z step k) k | false ↦ table z step k p ]

-- "Its rule: the delay, then the body.": P without calls, where I p is body p without calls
unfoldable pub inline : (ℕ → Stmt) → Code → Stmt
inline I ok = ok
inline I (tick d) = tick d
inline I (assign d x e) = assign d x e
inline I (assign_elem d k i e) = assign_elem d k i e
inline I (seq P Q) = seq (inline I P) (inline I Q)
inline I (par P Q) = par (inline I P) (inline I Q)
inline I (ite d e P Q) = ite d e (inline I P) (inline I Q)
inline I (while d e P) = while d e (inline I P)
inline I (repeat d e P) = repeat d e (inline I P)
inline I (loop d P) = loop d (inline I P)
inline I exit = exit
inline I (call d p) = seq (tick d) (I p)

-- body p without calls: a body calls only those below it
unfoldable pub inlined : List Code → ℕ → Stmt
inlined bodies p = table ok (λ I k. inline I (body_at bodies k)) (length bodies) p

-- the statement that a program is
unfoldable pub meaning : Program → Stmt
meaning S = inline (inlined S.bodies) S.main

-- procedure q is called in P, or in a body that is: R p tells which are reached from body p
unfoldable pub reaches : (ℕ → ℕ → Bool) → Code → ℕ → Bool
reaches R ok q = false
reaches R (tick d) q = false
reaches R (assign d x e) q = false
reaches R (assign_elem d k i e) q = false
reaches R (seq P Q) q = reaches R P q || reaches R Q q
reaches R (par P Q) q = reaches R P q || reaches R Q q
reaches R (ite d e P Q) q = reaches R P q || reaches R Q q
reaches R (while d e P) q = reaches R P q
reaches R (repeat d e P) q = reaches R P q
reaches R (loop d P) q = reaches R P q
reaches R exit q = false
reaches R (call d p) q = eqb q p || R p q

-- from body p
unfoldable pub reached : List Code → ℕ → ℕ → Bool
reached bodies p q = table false (λ r k. reaches (λ p q. r p) (body_at bodies k) q) (length bodies) p
