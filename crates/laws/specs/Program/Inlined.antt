-- Tables by number obey their equations; and what holds everywhere in a program's bodies holds everywhere in what they mean without calls.
-- Assumes nothing.
use Prim.Native.Nat.{ℕ, zero, suc, ◌+◌, ◌≤◌, ◌<◌}
use Rattle.std.specs.Prelude.{◌≡◌, Bool, ◌||◌, List, eqb, length}
use Rattle.std.proofs.Math.Path.{refl, ap, fun_ext}
use Rattle.std.proofs.Common.{sym, ◌∙◌, ap₂, subst, arith, add-one, eqb-true, eq-eqb, ne_eqb}
use Rattle.std.proofs.Math.Bool.{true, false}
use Rattle.model.specs.Program.{Code, Stmt, Expr, ok, tick, assign, assign_elem, seq, par, ite, while, repeat, loop, exit, call}
use Rattle.model.specs.Procedures.{body_at, table, inline, inlined, reaches, reached}
use Rattle.laws.specs.Refusals.Laws.{by_bool, by_le, not-both}
use Rattle.laws.specs.Program.Fit.{Asks, Everywhere, Earlier, exits}

-- Tables ---------------------------------------------------------------------------------------------------------------------------------

module _ {A : Type 0} (z : A) (step : (ℕ → A) → ℕ → A) where
  table_here : (k p : ℕ) → eqb p k ≡ true → table z step (suc k) p ≡ step (table z step k) k
  unfolding table
  table_here k p e = ap (λ (b : Bool). elim b as (λ y. A) [ true ↦ step (table z step k) k | false ↦ table z step k p ]) e

  table_below : (k p : ℕ) → eqb p k ≡ false → table z step (suc k) p ≡ table z step k p
  unfolding table
  table_below k p e = ap (λ (b : Bool). elim b as (λ y. A) [ true ↦ step (table z step k) k | false ↦ table z step k p ]) e

  table_at : (k p : ℕ) → p < k → table z step k p ≡ step (table z step p) p
  table_at zero p l = absurd (omega arith)
  table_at (suc k) p l =
      by_bool (eqb p k)
      (λ e. table_here k p e ∙ ap (λ (j : ℕ). step (table z step j) j) (sym (eqb-true p k e)))
      (λ e. table_below k p e ∙ by_le k p (λ o. let y : eqb p k ≡ true = eq-eqb p k (omega arith) in not-both y e) (λ o. table_at k p o))

  table-past : (k p : ℕ) → k ≤ p → table z step k p ≡ z
  unfolding table
  table-past zero p l = refl
  table-past (suc k) p l = table_below k p (ne_eqb p k (λ y. omega arith)) ∙ table-past k p (omega arith)

  -- where a step looks only below
  table_is : (k p : ℕ) → p < k → ((I J : ℕ → A) → ((q : ℕ) → q < p → I q ≡ J q) → step I p ≡ step J p) → table z step k p ≡ step (table z step k) p
  table_is k p l h =
      table_at k p l ∙ h (table z step p) (table z step k) (λ q o. table_at p q o ∙ sym (table_at k q (omega arith)))

  -- what every step keeps, all values have
  table-all : (R : A → Type 0) → R z → (n : ℕ) → ((I : ℕ → A) → ((q : ℕ) → R (I q)) → (k : ℕ) → k < n → R (step I k)) → (k : ℕ) → k ≤ n → (p : ℕ)
      → R (table z step k p)
  table-all R b n h zero o p = subst R (sym (table-past zero p (omega arith))) b
  table-all R b n h (suc k) o p =
      by_bool (eqb p k)
      (λ e. subst R (sym (table_here k p e)) (h (table z step k) (λ q. table-all R b n h k (omega arith) q) k (omega arith)))
      (λ e. subst R (sym (table_below k p e)) (table-all R b n h k (omega arith) p))

-- Inlining ---------------------------------------------------------------------------------------------------------------------------------

inline-same : (I J : ℕ → Stmt) (k : ℕ) → ((q : ℕ) → q < k → I q ≡ J q) → (P : Code) → Earlier k P → inline I P ≡ inline J P
unfolding inline
inline-same I J k h ok g = refl
inline-same I J k h (tick d) g = refl
inline-same I J k h (assign d x e) g = refl
inline-same I J k h (assign_elem d j i e) g = refl
inline-same I J k h (seq P Q) g = ap₂ seq (inline-same I J k h P g.0) (inline-same I J k h Q g.1)
inline-same I J k h (par P Q) g = ap₂ par (inline-same I J k h P g.0) (inline-same I J k h Q g.1)
inline-same I J k h (ite d e P Q) g = ap₂ (ite d e) (inline-same I J k h P g.2) (inline-same I J k h Q g.3)
inline-same I J k h (while d e P) g = ap (while d e) (inline-same I J k h P g.2)
inline-same I J k h (repeat d e P) g = ap (repeat d e) (inline-same I J k h P g.2)
inline-same I J k h (loop d P) g = ap (loop d) (inline-same I J k h P g.1)
inline-same I J k h exit g = refl
inline-same I J k h (call d p) g = ap (seq (tick d)) (h p g.1)

-- a statement's exits are its own
pub exits-inline : (I : ℕ → Stmt) → ((p : ℕ) → exits (I p) ≡ false) → (P : Code) → exits (inline I P) ≡ exits P
unfolding inline exits
exits-inline I h ok = refl
exits-inline I h (tick d) = refl
exits-inline I h (assign d x e) = refl
exits-inline I h (assign_elem d k i e) = refl
exits-inline I h (seq P Q) = ap₂ ◌||◌ (exits-inline I h P) (exits-inline I h Q)
exits-inline I h (par P Q) = ap₂ ◌||◌ (exits-inline I h P) (exits-inline I h Q)
exits-inline I h (ite d e P Q) = ap₂ ◌||◌ (exits-inline I h P) (exits-inline I h Q)
exits-inline I h (while d e P) = exits-inline I h P
exits-inline I h (repeat d e P) = exits-inline I h P
exits-inline I h (loop d P) = refl
exits-inline I h exit = refl
exits-inline I h (call d p) = h p

-- what is asked of a statement with calls gives what is asked of it without
pub record Carries (a : Asks ℕ) (b : Asks ⊥) (I : ℕ → Stmt) : Type 0 where
  pub delays : (d : ℕ) → a.delay d → b.delay d
  pub if_delays : (d : ℕ) → a.if_delay d → b.if_delay d
  pub loop_delays : (d : ℕ) → a.loop_delay d → b.loop_delay d
  pub call_delays : (d : ℕ) → a.loop_delay d → b.delay d
  pub variables : (x : ℕ) → a.variable x → b.variable x
  pub arrays : (k : ℕ) → a.array k → b.array k
  pub exprs : (e : Expr) → a.expr e → b.expr e
  pub sides : (P Q : Code) → a.sides P Q → b.sides (inline I P) (inline I Q)
  pub bodies : (p : ℕ) → a.procedure p → Everywhere b (I p)

pub everywhere-inline : (a : Asks ℕ) (b : Asks ⊥) (I : ℕ → Stmt) → Carries a b I → (P : Code) → Everywhere a P → Everywhere b (inline I P)
unfolding inline
everywhere-inline a b I c ok h = tt
everywhere-inline a b I c (tick d) h = c.delays d h
everywhere-inline a b I c (assign d x e) h = (c.delays d h.0, c.variables x h.1, c.exprs e h.2)
everywhere-inline a b I c (assign_elem d k i e) h = (c.delays d h.0, c.arrays k h.1, c.exprs i h.2, c.exprs e h.3)
everywhere-inline a b I c (seq P Q) h = (everywhere-inline a b I c P h.0, everywhere-inline a b I c Q h.1)
everywhere-inline a b I c (par P Q) h = (everywhere-inline a b I c P h.0, everywhere-inline a b I c Q h.1, c.sides P Q h.2)
everywhere-inline a b I c (ite d e P Q) h =
    (c.if_delays d h.0, c.exprs e h.1, everywhere-inline a b I c P h.2, everywhere-inline a b I c Q h.3)
everywhere-inline a b I c (while d e P) h = (c.loop_delays d h.0, c.exprs e h.1, everywhere-inline a b I c P h.2)
everywhere-inline a b I c (repeat d e P) h = (c.loop_delays d h.0, c.exprs e h.1, everywhere-inline a b I c P h.2)
everywhere-inline a b I c (loop d P) h = (c.loop_delays d h.0, everywhere-inline a b I c P h.1)
everywhere-inline a b I c exit h = tt
everywhere-inline a b I c (call d p) h = (c.call_delays d h.0, c.bodies p h.1)

-- Reached procedures -----------------------------------------------------------------------------------------------------------------------

reaches_same : (I J : ℕ → ℕ → Bool) (k q : ℕ) → ((p : ℕ) → p < k → I p q ≡ J p q) → (P : Code) → Earlier k P → reaches I P q ≡ reaches J P q
unfolding reaches
reaches_same I J k q h ok g = refl
reaches_same I J k q h (tick d) g = refl
reaches_same I J k q h (assign d x e) g = refl
reaches_same I J k q h (assign_elem d j i e) g = refl
reaches_same I J k q h (seq P Q) g = ap₂ ◌||◌ (reaches_same I J k q h P g.0) (reaches_same I J k q h Q g.1)
reaches_same I J k q h (par P Q) g = ap₂ ◌||◌ (reaches_same I J k q h P g.0) (reaches_same I J k q h Q g.1)
reaches_same I J k q h (ite d e P Q) g = ap₂ ◌||◌ (reaches_same I J k q h P g.2) (reaches_same I J k q h Q g.3)
reaches_same I J k q h (while d e P) g = reaches_same I J k q h P g.2
reaches_same I J k q h (repeat d e P) g = reaches_same I J k q h P g.2
reaches_same I J k q h (loop d P) g = reaches_same I J k q h P g.1
reaches_same I J k q h exit g = refl
reaches_same I J k q h (call d p) g = ap (λ (c : Bool). eqb q p || c) (h p g.1)

either_way : {A : Type 0} (a b : Bool) → (a || b) ≡ true → (a ≡ true → A) → (b ≡ true → A) → A
either_way true b e f g = f refl
either_way false b e f g = g e

-- what is reached from a statement that calls only below k
pub reached-below : (R : ℕ → ℕ → Bool) (k q : ℕ) → ((p : ℕ) → p < k → R p q ≡ true → q < p) → (P : Code) → Earlier k P → reaches R P q ≡ true → q < k
unfolding reaches
reached-below R k q h ok g z = not-both z refl
reached-below R k q h (tick d) g z = not-both z refl
reached-below R k q h (assign d x e) g z = not-both z refl
reached-below R k q h (assign_elem d j i e) g z = not-both z refl
reached-below R k q h (seq P Q) g z =
    either_way (reaches R P q) (reaches R Q q) z (reached-below R k q h P g.0) (reached-below R k q h Q g.1)
reached-below R k q h (par P Q) g z =
    either_way (reaches R P q) (reaches R Q q) z (reached-below R k q h P g.0) (reached-below R k q h Q g.1)
reached-below R k q h (ite d e P Q) g z =
    either_way (reaches R P q) (reaches R Q q) z (reached-below R k q h P g.2) (reached-below R k q h Q g.3)
reached-below R k q h (while d e P) g z = reached-below R k q h P g.2 z
reached-below R k q h (repeat d e P) g z = reached-below R k q h P g.2 z
reached-below R k q h (loop d P) g z = reached-below R k q h P g.1 z
reached-below R k q h exit g z = not-both z refl
reached-below R k q h (call d p) g z =
    either_way (eqb q p) (R p q) z (λ y. let e : q ≡ p = eqb-true q p y in omega (arith, g.1))
    (λ y. let o : q < p = h p g.1 y in omega (arith, g.1))

-- Bodies that call only those before them -----------------------------------------------------------------------------------------------

module _ (bodies : List Code) (earlier : (p : ℕ) → p < length bodies → Earlier p (body_at bodies p)) where
  -- what a body means, by what those that it calls mean
  pub inlined-is : (p : ℕ) → p < length bodies → inlined bodies p ≡ inline (inlined bodies) (body_at bodies p)
  unfolding inlined
  inlined-is p l =
      table_is ok (λ I k. inline I (body_at bodies k)) (length bodies) p l (λ I J h. inline-same I J p h (body_at bodies p) (earlier p l))

  pub inlined-past : (p : ℕ) → length bodies ≤ p → inlined bodies p ≡ ok
  unfolding inlined
  inlined-past p l = table-past ok (λ I k. inline I (body_at bodies k)) (length bodies) p l

  pub reached-is : (p : ℕ) → p < length bodies → (q : ℕ) → reached bodies p q ≡ reaches (reached bodies) (body_at bodies p) q
  unfolding reached
  reached-is p l q =
      table_is false (λ r k. reaches (λ p q. r p) (body_at bodies k) q) (length bodies) p l
      (λ I J h. reaches_same (λ p q. I p) (λ p q. J p) p q h (body_at bodies p) (earlier p l))
      ∙ reaches_same (λ p r. reached bodies p q) (reached bodies) p q (λ r o. refl) (body_at bodies p) (earlier p l)

  pub reached-past : (p : ℕ) → length bodies ≤ p → (q : ℕ) → reached bodies p q ≡ false
  unfolding reached
  reached-past p l q = table-past false (λ r k. reaches (λ p q. r p) (body_at bodies k) q) (length bodies) p l

  -- it reaches only those before it
  pub reached-earlier : (n p q : ℕ) → p < n → reached bodies p q ≡ true → q < p
  reached-earlier zero p q o z = absurd (omega arith)
  reached-earlier (suc n) p q o z =
      by_le (length bodies) p (λ l. not-both z (reached-past p l q))
      (λ l.
      reached-below (reached bodies) p q (λ r j. reached-earlier n r q (omega arith)) (body_at bodies p) (earlier p l) (sym (reached-is p l q) ∙ z))

-- what every body that there is keeps, all of them have
pub inlined-all : (bodies : List Code) (R : Stmt → Type 0) → R ok
    → ((I : ℕ → Stmt) → ((q : ℕ) → R (I q)) → (k : ℕ) → k < length bodies → R (inline I (body_at bodies k))) → (p : ℕ) → R (inlined bodies p)
unfolding inlined
inlined-all bodies R b h p = table-all ok (λ I k. inline I (body_at bodies k)) R b (length bodies) h (length bodies) (omega arith) p

-- Tables as code fills and reads them ----------------------------------------------------------------------------------------------------

module _ {A : Type 0} (z : A) (step : (ℕ → A) → ℕ → A) (k : ℕ) where
  pub table-new : table z step (k + 1) k ≡ step (table z step k) k
  table-new = rw add-one (table_here z step k k (eq-eqb k k refl))

  pub table-old : (p : ℕ) → (p ≡ k → ⊥) → table z step (k + 1) p ≡ table z step k p
  table-old p n = rw add-one (table_below z step k p (ne_eqb p k n))

  pub table-made : (p : ℕ) → p < k → table z step k p ≡ step (table z step p) p
  table-made = table_at z step k

  pub table_none : (p : ℕ) → k ≤ p → table z step k p ≡ z
  table_none = table-past z step k

-- of steps that do the same below k
pub table_same : {A : Type 0} (z : A) (f g : (ℕ → A) → ℕ → A) (k : ℕ) → ((I : ℕ → A) (j : ℕ) → j < k → f I j ≡ g I j) → table z f k ≡ table z g k
table_same z f g zero h = fun_ext (λ p. table-past z f 0 p (omega arith) ∙ sym (table-past z g 0 p (omega arith)))
table_same {A} z f g (suc k) h =
    let r : table z f k ≡ table z g k = table_same z f g k (λ I j l. h I j (omega arith)) in
    fun_ext
    (λ p.
    by_bool (eqb p k)
    (λ e. table_here z f k p e ∙ h (table z f k) k (omega arith) ∙ ap (λ (I : ℕ → A). g I k) r ∙ sym (table_here z g k p e))
    (λ e. table_below z f k p e ∙ ap (λ (I : ℕ → A). I p) r ∙ sym (table_below z g k p e)))
