-- What is known of each delay and each merge of a functional circuit is known of its cells: so with nothing in flight they hold nothing. Assumes nothing.
use Rattle.std.specs.Prelude.{◌≡◌, Bool, false, [], ◌∷◌, ◌++◌, eqb}
use Rattle.std.proofs.Math.Path.{refl, fun_ext}
use Rattle.std.proofs.Common.{sym, subst, arith, eq-eqb}
use Prim.Native.Nat.{ℕ, zero, suc, ◌+◌}
use Rattle.model.specs.declared.Cell.{Cell}
use Rattle.model.specs.Program.{Expr, Stmt, ok, tick, assign, assign_elem, seq, par, ite, while, repeat, loop, exit, writes, call}
use Rattle.model.specs.Circuit.{cell, Sig, Values, Elements, level, delayed}
use Rattle.model.specs.Numbering.{Wires, expr_count, expr_wire, expr_cells, if_delay_count, if_delay_cells}
use Rattle.laws.specs.Refusals.Laws.{not-both}
use Rattle.laws.specs.Program.Fit.{FormedExpr, Formed}
use Rattle.laws.specs.Numbering.Cells.{cell_val, Rule, Obeyed, All, split, join}
use Rattle.theory.specs.Numbering.Levels.{level-of}
use Rattle.theory.specs.Numbering.Flying.{exprs}
use Rattle.laws.specs.Numbering.Lengths.{e-len, own-len}
use Rattle.theory.specs.Functional.Wiring.{Words, Net}
use Rattle.theory.specs.Functional.Calm.{both}
use Rattle.model.specs.Functional.{each, rank, many, placed, joins_at, branches, choices, count, finish_wire, outs, walk, if_true, if_then, if_else, if_end, while_true, while_body, while_load, repeat_body, repeat_delay, repeat_true, repeat_load}
use Rattle.laws.specs.Functional.Count.{each-len, w-len}
use Rattle.theory.specs.Functional.Structure.{feeds, joins, wired, Known}
use Rattle.laws.specs.Functional.Rows.{all-each}

module _ (starts : Sig) (first : ℕ → ℕ) (A : Elements) (W : Values) (C : ℕ → Sig → Type 0) (H : Sig → Sig → Type 0)
    (halves : (d : ℕ) (g : Sig) → C (suc d) g → C 1 g × C d (delayed 1 g)) where
  -- a cell that is no delay and no merge
  pub other : (k : ℕ) (c : Cell) → eqb c.kind 34 ≡ false → eqb c.kind 38 ≡ false → eqb c.kind 39 ≡ false → Known C H W k c
  other k c h h' h'' =
      record {
        delay = λ e. not-both (eq-eqb c.kind 34 e) h;
        merge = λ e. not-both (eq-eqb c.kind 38 e) h';
        uncalled = λ e. not-both (eq-eqb c.kind 39 e) h'';
      }

  delay-idle : (k d i : ℕ) → C d (level W i) → Known C H W k (cell 34 d i 0)
  delay-idle k d i h = record { delay = λ e. h; merge = λ e. absurd (omega arith); uncalled = λ e. omega arith }

  merge-idle : (k i j : ℕ) → H (level W i) (level W j) → Known C H W k (cell 38 0 i j)
  merge-idle k i j h = record { delay = λ e. absurd (omega arith); merge = λ e. h; uncalled = λ e. omega arith }

  e-idle : (ws : Wires) (e : Expr) → FormedExpr e → (c : ℕ) → All (Known C H W) c (expr_cells ws e c)
  e-idle ws e w c =
      exprs (Known C H W) (λ k c o. record { delay = λ e. absurd (o.0 e); merge = λ e. absurd (o.1 e); uncalled = λ e. o.2 e }) ws e w c

  own-idle : (δ s d : ℕ) → C δ (level W s) → All (Known C H W) d (if_delay_cells δ s)
  unfolding if_delay_cells
  own-idle zero s d h = tt
  own-idle (suc δ) s d h = (delay-idle d (suc δ) s h, tt)

  choices-idle : (b : ℕ → Bool) (f g : ℕ → Cell) (c : ℕ) → ((x k : ℕ) → Known C H W k (f x)) → ((x k : ℕ) → Known C H W k (g x)) → All (Known C H W) c (choices b f g c)
  unfolding choices
  choices-idle b f g c h h' =
      let o : ℕ → Cell = λ x. cell 7 0 (c + rank b x) (c + many b + rank b x) in
      join (Known C H W) c (many b) (each b f) (each b g ++ each b o) (each-len b f) (all-each (Known C H W) b f c (λ x l e. h x (c + rank b x)))
      (join (Known C H W) (c + many b) (many b) (each b g) (each b o) (each-len b g)
      (all-each (Known C H W) b g (c + many b) (λ x l e. h' x (c + many b + rank b x)))
      (all-each (Known C H W) b o (c + many b + many b) (λ x l e. other (c + many b + many b + rank b x) (o x) refl refl refl)))

  moved : (d : ℕ) (f g : Sig) → f ≡ g → C d f → C d g
  moved d f g e h = subst (C d) e h

  joined : (f f' g g' : Sig) → f ≡ f' → g ≡ g' → H f g → H f' g'
  joined f f' g g' e e' h = subst (λ (s : Sig). H s g') e (subst (λ (s : Sig). H f s) e' h)

  -- the second delay of a while, from what feeds the first
  second : (k m δ : ℕ) → ((t : ℕ) → level W k t ≡ delayed 1 (level W m) t) → C (suc δ) (level W m) → C δ (level W k)
  second k m δ e h = moved δ (delayed 1 (level W m)) (level W k) (fun_ext (λ t. sym (e t))) (halves δ (level W m) h).1

  -- a circuit that is the cells': its own signals do not matter, only that those at its delays and merges are the cells'
  pub known_of : (P : Stmt) → Formed P → (s : ℕ) (ws : Wires) (c : ℕ) → Obeyed 1 starts first A W c (walk P s ws c)
      → (g f : Sig) (v w : Words) → Net (both C H (wired W P s c)) P g f v w → All (Known C H W) c (walk P s ws c)
  unfolding Net walk feeds joins cell_val
  known_of ok z s ws c h g f v w n = tt
  known_of (tick δ) z s ws c h g f v w n = (delay-idle c δ s (moved δ g (level W s) n.1.1 n.1.0), tt)
  known_of (assign δ x e) z s ws c h g f v w n =
      join (Known C H W) c (expr_count e) (expr_cells ws e c) (cell 34 δ s 0 ∷ []) (e-len ws e c) (e-idle ws e z.2 c)
      (delay-idle (c + expr_count e) δ s (moved δ g (level W s) n.1.1 n.1.0), tt)
  known_of (assign_elem δ k i e) z s ws c h g f v w n = absurd n
  known_of (seq P Q) z s ws c h g f v w n =
      let q = finish_wire P s c in
      let us = outs P ws c in
      let cQ = c + count P in
      let r = split (Rule 1 starts first A W) c (count P) (walk P s ws c) (walk Q q us cQ) (w-len P s ws c) h in
      join (Known C H W) c (count P) (walk P s ws c) (walk Q q us cQ) (w-len P s ws c)
      (known_of P z.0 s ws c r.0 g n.mid v n.w₁ n.left) (known_of Q z.1 q us cQ r.1 n.mid f n.w₁ w n.right)
  known_of (par P Q) z s ws c h g f v w n =
      let cQ = c + count P in
      let i = finish_wire P s c in
      let j = finish_wire Q s cQ in
      let o = cell 38 0 i j in
      let r = split (Rule 1 starts first A W) c (count P) (walk P s ws c) (walk Q s ws cQ ++ (o ∷ [])) (w-len P s ws c) h in
      let q = split (Rule 1 starts first A W) cQ (count Q) (walk Q s ws cQ) (o ∷ []) (w-len Q s ws cQ) r.1 in
      join (Known C H W) c (count P) (walk P s ws c) (walk Q s ws cQ ++ (o ∷ [])) (w-len P s ws c)
      (known_of P z.0 s ws c r.0 g n.f₁ v n.w₁ n.left)
      (join (Known C H W) cQ (count Q) (walk Q s ws cQ) (o ∷ []) (w-len Q s ws cQ) (known_of Q z.1 s ws cQ q.0 g n.f₂ v n.w₂ n.right)
      (merge-idle (cQ + count Q) i j (joined n.f₁ (level W i) n.f₂ (level W j) n.merge.1.0 n.merge.1.1 n.merge.0), tt))
  known_of (ite δ e P Q) z s ws c h g f v w n =
      let p = if_true δ e P Q c in
      let cP = if_then δ e P Q c in
      let cQ = if_else δ e P Q c in
      let m = if_end δ e P Q c in
      let y = expr_wire ws e c in
      let us = outs P ws cP in
      let vs = outs Q ws cQ in
      let re = split (Rule 1 starts first A W) c (expr_count e) (expr_cells ws e c) _ (e-len ws e c) h in
      let ro = split (Rule 1 starts first A W) (c + expr_count e) (if_delay_count δ) (if_delay_cells δ s) _ (own-len δ s) re.1 in
      let rP = split (Rule 1 starts first A W) cP (count P) (walk P p ws cP) _ (w-len P p ws cP) ro.1.1.1 in
      let rQ = split (Rule 1 starts first A W) cQ (count Q) (walk Q (p + 1) ws cQ) _ (w-len Q (p + 1) ws cQ) rP.1 in
      join (Known C H W) c (expr_count e) (expr_cells ws e c) _ (e-len ws e c) (e-idle ws e z.1 c)
      (join (Known C H W) (c + expr_count e) (if_delay_count δ) (if_delay_cells δ s) _ (own-len δ s)
      (own-idle δ s (c + expr_count e) (moved δ g (level W s) n.delay.1 n.delay.0)) (
        other p (cell 36 0 _ y) refl refl refl,
        (
          other (p + 1) (cell 37 0 _ y) refl refl refl,
          join (Known C H W) cP (count P) (walk P p ws cP) _ (w-len P p ws cP) (known_of P z.2 p ws cP rP.0 n.s₁ n.f₁ v n.w₁ n.left)
              (join (Known C H W) cQ (count Q) (walk Q (p + 1) ws cQ) _ (w-len Q (p + 1) ws cQ)
              (known_of Q z.3 (p + 1) ws cQ rQ.0 n.s₂ n.f₂ v n.w₂ n.right) (
                other m (cell 35 0 _ _) refl refl refl,
                (
                  other (m + 1) (cell 8 0 y 2) refl refl refl,
                  (
                    other (m + 1 + 1) (cell 5 0 2 (m + 1)) refl refl refl,
                    (
                      other (m + 1 + 1 + 1) (cell 3 0 (m + 1 + 1) 0) refl refl refl,
                      choices-idle (branches P Q) (λ y. cell 6 0 (us y) (m + 1 + 1 + 1)) (λ y. cell 6 0 (vs y) (m + 1 + 1)) (m + 1 + 1 + 1 + 1)
                          (λ x k. other k (cell 6 0 (us x) (m + 1 + 1 + 1)) refl refl refl) (λ x k. other k (cell 6 0 (vs x) (m + 1 + 1)) refl refl refl),
                    ),
                  ),
                ),
              )),
        ),
      ))
  known_of (while δ e P) z s ws c h g f v w n =
      let b = writes P in
      let ls : Wires = placed b c ws in
      let ce = c + many b + 1 + 1 in
      let p = while_true e P c in
      let cP = while_body e P c in
      let m = while_load e P c in
      let us = outs P ls cP in
      let i = finish_wire P p cP in
      let y = expr_wire ls e ce in
      let latches : ℕ → Cell = λ y. cell 45 0 m (joins_at b (m + 1) + rank b y) in
      let rl = split (Rule 1 starts first A W) c (many b) (each b latches) _ (each-len b latches) h in
      let re = split (Rule 1 starts first A W) ce (expr_count e) (expr_cells ls e ce) _ (e-len ls e ce) rl.1.1.1 in
      let rP = split (Rule 1 starts first A W) cP (count P) (walk P p ls cP) _ (w-len P p ls cP) re.1.1.1 in
      let clear : C (suc δ) (level W m) = moved (suc δ) _ (level W m) n.delay.1 n.delay.0 in
      join (Known C H W) c (many b) (each b latches) _ (each-len b latches)
      (all-each (Known C H W) b latches c (λ x l e. other (c + rank b x) (latches x) refl refl refl)) (
        delay-idle (c + many b) 1 m (halves δ (level W m) clear).0,
        (
          delay-idle (c + many b + 1) δ (c + many b)
              (second (c + many b) m δ (λ t. level-of (delayed 1 (level W m) t) (rl.1.0 t)) clear),
          join (Known C H W) ce (expr_count e) (expr_cells ls e ce) _ (e-len ls e ce) (e-idle ls e z.1 ce) (
            other p (cell 36 0 (c + many b + 1) y) refl refl refl,
            (
              other (p + 1) (cell 37 0 (c + many b + 1) y) refl refl refl,
              join (Known C H W) cP (count P) (walk P p ls cP) _ (w-len P p ls cP) (known_of P z.2 p ls cP rP.0 n.s₁ n.f₁ w n.w₁ n.body) (
                other m (cell 35 0 s i) refl refl refl,
                choices-idle b (λ y. cell 41 0 s (ws y)) (λ y. cell 41 0 i (us y)) (m + 1) (λ x k. other k (cell 41 0 s (ws x)) refl refl refl)
                    (λ x k. other k (cell 41 0 i (us x)) refl refl refl),
              ),
            ),
          ),
        ),
      )
  known_of (repeat δ e P) z s ws c h g f v w n =
      let b = writes P in
      let ls : Wires = placed b c ws in
      let cP = repeat_body e P c in
      let q = repeat_delay e P c in
      let p = repeat_true e P c in
      let m = repeat_load e P c in
      let us = outs P ls cP in
      let y = expr_wire us e (q + 1) in
      let i = finish_wire P (c + many b) cP in
      let latches : ℕ → Cell = λ y. cell 45 0 m (joins_at b (m + 1) + rank b y) in
      let rl = split (Rule 1 starts first A W) c (many b) (each b latches) _ (each-len b latches) h in
      let rP = split (Rule 1 starts first A W) cP (count P) (walk P (c + many b) ls cP) _ (w-len P (c + many b) ls cP) rl.1.1 in
      join (Known C H W) c (many b) (each b latches) _ (each-len b latches)
      (all-each (Known C H W) b latches c (λ x l e. other (c + rank b x) (latches x) refl refl refl)) (
        delay-idle (c + many b) 1 m (moved 1 _ (level W m) n.load.1 n.load.0),
        join (Known C H W) cP (count P) (walk P (c + many b) ls cP) _ (w-len P (c + many b) ls cP)
            (known_of P z.2 (c + many b) ls cP rP.0 n.s₁ n.f₁ n.l w n.body) (
              delay-idle q δ i (moved δ n.f₁ (level W i) n.delay.1 n.delay.0),
              join (Known C H W) (q + 1) (expr_count e) (expr_cells us e (q + 1)) _ (e-len us e (q + 1)) (e-idle us e z.1 (q + 1)) (
                other p (cell 36 0 q y) refl refl refl,
                (
                  other (p + 1) (cell 37 0 q y) refl refl refl,
                  (
                    other m (cell 35 0 s (p + 1)) refl refl refl,
                    choices-idle b (λ y. cell 41 0 s (ws y)) (λ y. cell 41 0 (p + 1) (us y)) (m + 1) (λ x k. other k (cell 41 0 s (ws x)) refl refl refl)
                        (λ x k. other k (cell 41 0 (p + 1) (us x)) refl refl refl),
                  ),
                ),
              ),
            ),
      )
  known_of (loop δ P) z s ws c h g f v w n = absurd n
  known_of exit z s ws c h g f v w n = absurd n
  known_of (call _ none) z s ws c h g f v w n = elim none [ ]
