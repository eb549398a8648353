-- The structure theorem of functional netlists: a statement's cells, wherever they stand, are a functional circuit of the statement. Assumes nothing.
use Rattle.std.specs.Prelude.{◌≡◌, Bool, ◌&&◌, ◌||◌, not, List, [], ◌∷◌, ◌++◌, eqb, T}
use Rattle.std.proofs.Math.Path.{refl, sym, ap, ap₂, fun_ext}
use Rattle.std.proofs.Common.{◌∙◌, inl, lt→ltb, ltb→lt, eqb-true}
use Rattle.std.proofs.Math.Bool.{true, false}
use Prim.Native.Nat.{ℕ, zero, suc, ◌+◌, ◌-◌, ◌%◌, ◌<◌, ◌≤◌}
use native.Mathlib.Omega.{arith}
use Rattle.std.proofs.Math.Dec.{ltb}
use Rattle.std.specs.Int.Bits.{bit_and, bit_or, and_zero_r, or_zero_l, or_zero_r, or_self}
use Rattle.std.proofs.lemmas.Nat.{and_mask}
use Rattle.model.specs.declared.Cell.{Cell}
use Rattle.model.specs.Word.{pick, bit, is_zero, operate}
use Rattle.model.specs.Program.{Expr, const, var, compl, op, elem, Stmt, ok, tick, assign, assign_elem, seq, par, ite, while, repeat, loop, exit, writes, call}
use Rattle.model.specs.Rules.{Store, owner, eval, put, over, kept}
use Rattle.model.specs.Circuit.{cell, Sig, Values, Elements, level, latch, delayed}
use Rattle.model.specs.Numbering.{Wires, expr_count, expr_wire, expr_cells, if_delay_count, if_delay_cells, if_pulse}
use Rattle.laws.specs.Refusals.Laws.{or-false}
use Rattle.laws.specs.Program.Fit.{FormedExpr, Formed, BasicExpr, Basic}
use Rattle.laws.specs.Rules.Words.{owner-variable}
use Rattle.theory.specs.Control.Wiring.{◌≈◌, either}
use Rattle.theory.specs.Functional.Merges.{merged, Empty}
use Rattle.laws.specs.Numbering.Cells.{cell_val, Rule, Obeyed, All, split}
use Rattle.laws.specs.Numbering.Lengths.{e-len, own-len}
use Rattle.theory.specs.Numbering.Levels.{level-of, delayed-cong, delayed-zero}
use Rattle.theory.specs.Numbering.Structure.{expr-is}
use Rattle.laws.specs.Refusals.Laws.{is_true}
use Rattle.theory.specs.Control.Signal.{Clear, delayed-at, delayed-off}
use Rattle.laws.specs.Refusals.Laws.{by_le}
use Rattle.theory.specs.Functional.Wiring.{Words, loaded, Loads, Place, here, also, left, right, Tags, Net}
use Rattle.theory.specs.Functional.Calm.{both, Clean, net-map}
use Rattle.model.specs.Functional.{each, rank, many, placed, joins_at, branches, choices, count, finish_wire, outs, walk, if_true, if_then, if_else, if_end, while_true, while_body, while_load, repeat_body, repeat_delay, repeat_true, repeat_load}
use Rattle.laws.specs.Functional.Count.{each-len, w-len}
use Rattle.laws.specs.Functional.Rows.{each_at, rank_below}

-- Small laws -----------------------------------------------------------------------------------------------------------------------------------

-- two delays, one after the other
pub delayed-twice : (d : ℕ) (s : ℕ → Bool) (t : ℕ) → delayed d (delayed 1 s) t ≡ delayed (suc d) s t
delayed-twice d s t =
    by_le (suc d) t
    (λ o.
    delayed-at d (delayed 1 s) (t - d) t (omega arith) ∙ delayed-at 1 s (t - d - 1) (t - d) (omega arith)
    ∙ sym (delayed-at (suc d) s (t - d - 1) t (omega arith)))
    (λ o.
    delayed-off d (delayed 1 s) t (λ u e. delayed-off 1 s u (λ v e'. absurd (omega arith)))
    ∙ sym (delayed-off (suc d) s t (λ u e. absurd (omega arith))))

-- The masks: where a condition is 0, the second word, else the first
pub selects : (e v w : ℕ) → v < 65536 → w < 65536
    → bit_or (bit_and v (65535 - (0 + 65536 - bit (eqb e 0)) % 65536)) (bit_and w ((0 + 65536 - bit (eqb e 0)) % 65536)) ≡ pick (is_zero e) w v
unfolding bit
selects e v w l k = go (eqb e 0)
  where
    all : (x : ℕ) → x < 65536 → bit_and x 65535 ≡ x
    all x h = and_mask x 16 ∙ omega arith

    go : (b : Bool) → bit_or (bit_and v (65535 - (0 + 65536 - bit b) % 65536)) (bit_and w ((0 + 65536 - bit b) % 65536)) ≡ pick b w v
    go true = ap₂ bit_or (and_zero_r v) (all w k) ∙ or_zero_l w
    go false = ap₂ bit_or (all v l) (and_zero_r w) ∙ or_zero_r v

-- The words that wires carry, those of the sixteen variables; the words past 15, τ's, never change
abbrev pub shows : Store → Values → Wires → Words
shows τ W ws t x = pick (ltb x 16) (W (ws x) t) (τ x)

pub shows-at : (τ : Store) (W : Values) (ws : Wires) (t x : ℕ) → x < 16 → shows τ W ws t x ≡ W (ws x) t
shows-at τ W ws t x l = rw (is_true (ltb x 16) (lt→ltb x 16 l))

is_T : (b : Bool) → b ≡ true → T b
is_T b e = rw e tt

pub below-16 : (x : ℕ) → ltb x 16 ≡ true → x < 16
below-16 x e = ltb→lt x 16 (is_T (ltb x 16) e)

-- Expressions ----------------------------------------------------------------------------------------------------------------------------------

module _ (τ : Store) (starts : Sig) (first : ℕ → ℕ) (A : Elements) (W : Values) where
  pub expr : (ws : Wires) (e : Expr) → FormedExpr e → BasicExpr e → (c : ℕ) → Obeyed 1 starts first A W c (expr_cells ws e c) → (t : ℕ)
      → W (expr_wire ws e c) t ≡ eval e (shows τ W ws t)
  expr ws e w b c h t = expr-is 1 starts first A W ws (shows τ W ws) (λ x t l. shows-at τ W ws t x l) e w (inl b) c h t

  pulse-is : (δ s d : ℕ) → Obeyed 1 starts first A W d (if_delay_cells δ s) → (t : ℕ) → level W (if_pulse δ s d) t ≡ delayed δ (level W s) t
  unfolding if_delay_cells if_pulse cell_val
  pulse-is zero s d h t = sym (delayed-zero (level W s) t)
  pulse-is (suc δ) s d h t = level-of (delayed (suc δ) (level W s) t) (h.0 t)

  -- the two switches
  yes-is : (k a b t : ℕ) {v : ℕ} {D : Bool} → W k t ≡ bit (level W a t && not (eqb (W b t) 0)) → level W a t ≡ D → W b t ≡ v → level W k t ≡ D && not (is_zero v)
  yes-is k a b t h p q = level-of (level W a t && not (eqb (W b t) 0)) h ∙ ap₂ (λ (x : Bool) (y : ℕ). x && not (eqb y 0)) p q

  no-is : (k a b t : ℕ) {v : ℕ} {D : Bool} → W k t ≡ bit (level W a t && eqb (W b t) 0) → level W a t ≡ D → W b t ≡ v → level W k t ≡ D && is_zero v
  no-is k a b t h p q = level-of (level W a t && eqb (W b t) 0) h ∙ ap₂ (λ (x : Bool) (y : ℕ). x && eqb y 0) p q

  -- the or of two cells, for each variable
  chosen_is : (b : ℕ → Bool) (f g : ℕ → Cell) (a : ℕ) → Obeyed 1 starts first A W a (choices b f g a) → (x : ℕ) → x < 16 → b x ≡ true → (t : ℕ)
      → W (joins_at b a + rank b x) t
      ≡ bit_or (cell_val 1 starts (first (a + rank b x)) A W (a + rank b x) (f x) t) (cell_val 1 starts (first (a + many b + rank b x)) A W (a + many b + rank b x) (g x) t)
  unfolding choices cell_val operate
  chosen_is b f g a h x l e t =
      let o : ℕ → Cell = λ x. cell 7 0 (a + rank b x) (a + many b + rank b x) in
      let r = split (Rule 1 starts first A W) a (many b) (each b f) (each b g ++ each b o) (each-len b f) h in
      let q = split (Rule 1 starts first A W) (a + many b) (many b) (each b g) (each b o) (each-len b g) r.1 in
      each_at (Rule 1 starts first A W) b o (joins_at b a) q.1 x l e t
      ∙ ap₂ bit_or (each_at (Rule 1 starts first A W) b f a r.0 x l e t) (each_at (Rule 1 starts first A W) b g (a + many b) q.0 x l e t)

  loaded-same : (p q : Bool) (v : ℕ) → v ≡ loaded p q v v v
  unfolding loaded
  loaded-same true true v = sym (or_self v)
  loaded-same true false v = sym (or_zero_r v)
  loaded-same false true v = sym (or_zero_l v)
  loaded-same false false v = refl

  -- a loop's latches, with what may be loaded at m + 1: the words of ws at s, those of us at q
  loads : (b : ℕ → Bool) (ws us : Wires) (s q c m : ℕ) → Obeyed 1 starts first A W c (each b (λ y. cell 45 0 m (joins_at b (m + 1) + rank b y)))
      → Obeyed 1 starts first A W (m + 1) (choices b (λ y. cell 41 0 s (ws y)) (λ y. cell 41 0 q (us y)) (m + 1))
      → ((t : ℕ) → level W m t ≡ (level W s t || level W q t))
      → Loads (λ x. b (owner x)) (level W s) (level W q) (shows τ W ws) (shows τ W us) (shows τ W (placed b c ws))
  unfolding latch cell_val loaded
  loads b ws us s q c m h h' on = record { latched = λ t x e. go t x e (ltb x 16) refl; passed = λ t x e. by t x e (ltb x 16) refl }
    where
      own : (x : ℕ) → ltb x 16 ≡ true → owner x ≡ x
      own x k = owner-variable x (below-16 x k)

      go : (t x : ℕ) → b (owner x) ≡ true → (p : Bool) → ltb x 16 ≡ p
          → shows τ W (placed b c ws) (suc t) x ≡ loaded (level W s t) (level W q t) (shows τ W ws t x) (shows τ W us t x) (shows τ W (placed b c ws) t x)
      go t x e true k =
          let l : x < 16 = below-16 x k in
          let e' : b x ≡ true = ap b (sym (own x k)) ∙ e in
          rw (k, e')
          (each_at (Rule 1 starts first A W) b (λ y. cell 45 0 m (joins_at b (m + 1) + rank b y)) c h x l e' (suc t)
          ∙ ap₂ (λ (p : Bool) (v : ℕ). pick p v (W (c + rank b x) t)) (on t)
          (chosen_is b (λ y. cell 41 0 s (ws y)) (λ y. cell 41 0 q (us y)) (m + 1) h' x l e' t))
      go t x e false k = rw k (loaded-same (level W s t) (level W q t) (τ x))

      by : (t x : ℕ) → b (owner x) ≡ false → (p : Bool) → ltb x 16 ≡ p → shows τ W (placed b c ws) t x ≡ shows τ W ws t x
      by t x e true k = let e' : b x ≡ false = ap b (sym (own x k)) ∙ e in rw e' refl
      by t x e false k = rw k refl

-- The wires that are handed on -------------------------------------------------------------------------------------------------------------------

-- they stand in the netlist
module _ (N : ℕ) where
  unfoldable pub Inside : Wires → Type 0
  Inside ws = (x : ℕ) → x < 16 → ws x < N

  wire-inside : (ws : Wires) → Inside ws → (e : Expr) → FormedExpr e → (c : ℕ) → c + expr_count e + 1 ≤ N → expr_wire ws e c < N
  unfolding expr_wire expr_count Inside
  wire-inside ws h (const n) w c l = omega arith
  wire-inside ws h (var x) w c l = h x w
  wire-inside ws h (compl e) w c l = omega arith
  wire-inside ws h (op k e f) w c l = omega arith
  wire-inside ws h (elem k e) w c l = omega arith

  pick-inside : (b : Bool) (j k : ℕ) → j < N → k < N → pick b j k < N
  pick-inside true j k h g = h
  pick-inside false j k h g = g

  placed-inside : (b : ℕ → Bool) (a : ℕ) (ws : Wires) → a + many b ≤ N → Inside ws → Inside (placed b a ws)
  unfolding Inside
  placed-inside b a ws l h x k = go (b x) refl
    where
      go : (p : Bool) → b x ≡ p → pick (b x) (a + rank b x) (ws x) < N
      go true e = rw e (omega (arith, rank_below b x k e))
      go false e = rw e (h x k)

  outs-inside : (P : Stmt) → Formed P → (ws : Wires) (c : ℕ) → c + count P ≤ N → Inside ws → Inside (outs P ws c)
  unfolding outs count Inside
  outs-inside ok w ws c l h = h
  outs-inside (tick δ) w ws c l h = h
  outs-inside (assign δ x e) w ws c l h = λ y k.
      pick-inside (eqb y x) (expr_wire ws e c) (ws y) (wire-inside ws h e w.2 c (omega arith)) (h y k)
  outs-inside (assign_elem δ k i e) w ws c l h = h
  outs-inside (seq P Q) w ws c l h =
      outs-inside Q w.1 (outs P ws c) (c + count P) (omega arith) (outs-inside P w.0 ws c (omega arith) h)
  outs-inside (par P Q) w ws c l h = λ y k.
      pick-inside (writes P y) (outs P ws c y) (pick (writes Q y) (outs Q ws (c + count P) y) (ws y))
      (outs-inside P w.0 ws c (omega arith) h y k)
      (pick-inside (writes Q y) (outs Q ws (c + count P) y) (ws y) (outs-inside Q w.1 ws (c + count P) (omega arith) h y k) (h y k))
  outs-inside (ite δ e P Q) w ws c l h =
      placed-inside (branches P Q) (joins_at (branches P Q) (if_end δ e P Q c + 1 + 1 + 1 + 1)) ws (omega arith) h
  outs-inside (while δ e P) w ws c l h = placed-inside (writes P) c ws (omega arith) h
  outs-inside (repeat δ e P) w ws c l h =
      outs-inside P w.2 (placed (writes P) c ws) (repeat_body e P c) (omega arith) (placed-inside (writes P) c ws (omega arith) h)
  outs-inside (loop δ P) w ws c l h = h
  outs-inside exit w ws c l h = h
  outs-inside (call _ none) w ws c l h = elim none [ ]

-- a variable that is not written keeps its wire
pub outs-unwritten : (P : Stmt) (x : ℕ) → writes P x ≡ false → (ws : Wires) (c : ℕ) → outs P ws c x ≡ ws x
unfolding outs writes
outs-unwritten ok x e ws c = refl
outs-unwritten (tick δ) x e ws c = refl
outs-unwritten (assign δ y d) x e ws c = rw e refl
outs-unwritten (assign_elem δ k i d) x e ws c = refl
outs-unwritten (seq P Q) x e ws c =
    let k = or-false (writes P x) (writes Q x) e in
    outs-unwritten Q x k.1 (outs P ws c) (c + count P) ∙ outs-unwritten P x k.0 ws c
outs-unwritten (par P Q) x e ws c = let k = or-false (writes P x) (writes Q x) e in rw (k.0, k.1) refl
outs-unwritten (ite δ d P Q) x e ws c = rw e refl
outs-unwritten (while δ d P) x e ws c = rw e refl
outs-unwritten (repeat δ d P) x e ws c =
    outs-unwritten P x e (placed (writes P) c ws) (repeat_body d P c) ∙ ap (λ (p : Bool). pick p (c + rank (writes P) x) (ws x)) e
outs-unwritten (loop δ P) x e ws c = refl
outs-unwritten exit x e ws c = refl
outs-unwritten (call _ none) x e ws c = elim none [ ]

-- The places of a statement's delays and merges ------------------------------------------------------------------------------------------------

-- the wire that feeds the delay at a place; a while's two delays are one, fed by what is loaded
unfoldable pub feeds : Stmt → ℕ → ℕ → Place → ℕ
feeds ok s c p = s
feeds (tick δ) s c p = s
feeds (assign δ x e) s c p = s
feeds (assign_elem δ k i e) s c p = s
feeds (seq P Q) s c (left p) = feeds P s c p
feeds (seq P Q) s c (right p) = feeds Q (finish_wire P s c) (c + count P) p
feeds (seq P Q) s c here = s
feeds (seq P Q) s c also = s
feeds (par P Q) s c (left p) = feeds P s c p
feeds (par P Q) s c (right p) = feeds Q s (c + count P) p
feeds (par P Q) s c here = s
feeds (par P Q) s c also = s
feeds (ite δ e P Q) s c (left p) = feeds P (if_true δ e P Q c) (if_then δ e P Q c) p
feeds (ite δ e P Q) s c (right p) = feeds Q (if_true δ e P Q c + 1) (if_else δ e P Q c) p
feeds (ite δ e P Q) s c here = s
feeds (ite δ e P Q) s c also = s
feeds (while δ e P) s c (left p) = feeds P (while_true e P c) (while_body e P c) p
feeds (while δ e P) s c (right p) = s
feeds (while δ e P) s c here = while_load e P c
feeds (while δ e P) s c also = s
feeds (repeat δ e P) s c (left p) = feeds P (c + many (writes P)) (repeat_body e P c) p
feeds (repeat δ e P) s c (right p) = s
feeds (repeat δ e P) s c here = finish_wire P (c + many (writes P)) (repeat_body e P c)
feeds (repeat δ e P) s c also = repeat_load e P c
feeds (loop δ P) s c p = s
feeds exit s c p = s
feeds (call _ none) s c p = elim none [ ]

-- the two wires that a merge joins
unfoldable pub joins : Stmt → ℕ → ℕ → Place → ℕ × ℕ
joins ok s c p = (s, s)
joins (tick δ) s c p = (s, s)
joins (assign δ x e) s c p = (s, s)
joins (assign_elem δ k i e) s c p = (s, s)
joins (seq P Q) s c (left p) = joins P s c p
joins (seq P Q) s c (right p) = joins Q (finish_wire P s c) (c + count P) p
joins (seq P Q) s c here = (s, s)
joins (seq P Q) s c also = (s, s)
joins (par P Q) s c (left p) = joins P s c p
joins (par P Q) s c (right p) = joins Q s (c + count P) p
joins (par P Q) s c here = (finish_wire P s c, finish_wire Q s (c + count P))
joins (par P Q) s c also = (s, s)
joins (ite δ e P Q) s c (left p) = joins P (if_true δ e P Q c) (if_then δ e P Q c) p
joins (ite δ e P Q) s c (right p) = joins Q (if_true δ e P Q c + 1) (if_else δ e P Q c) p
joins (ite δ e P Q) s c here = (s, s)
joins (ite δ e P Q) s c also = (s, s)
joins (while δ e P) s c (left p) = joins P (while_true e P c) (while_body e P c) p
joins (while δ e P) s c (right p) = (s, s)
joins (while δ e P) s c here = (s, s)
joins (while δ e P) s c also = (s, s)
joins (repeat δ e P) s c (left p) = joins P (c + many (writes P)) (repeat_body e P c) p
joins (repeat δ e P) s c (right p) = (s, s)
joins (repeat δ e P) s c here = (s, s)
joins (repeat δ e P) s c also = (s, s)
joins (loop δ P) s c p = (s, s)
joins exit s c p = (s, s)
joins (call _ none) s c p = elim none [ ]

-- the signals at each place are those of the cells
abbrev pub wired : Values → Stmt → ℕ → ℕ → Tags
wired W P s c =
    record { delay = λ p d g. g ≡ level W (feeds P s c p); merge = λ p f g. (f ≡ level W (joins P s c p).0) × (g ≡ level W (joins P s c p).1) }

-- The theorem -----------------------------------------------------------------------------------------------------------------------------------

assigned : (τ : Store) (W : Values) (ws : Wires) (x i : ℕ) (σ : Store) (v : ℕ) (t y : ℕ) → x < 16 → W i t ≡ v → ((y : ℕ) → shows τ W ws t y ≡ σ y)
    → shows τ W (λ y. pick (eqb y x) i (ws y)) t y ≡ put σ x v y
unfolding put
assigned τ W ws x i σ v t y l e h = go (eqb y x) refl
  where
    go : (b : Bool) → eqb y x ≡ b → shows τ W (λ y. pick (eqb y x) i (ws y)) t y ≡ pick (eqb y x) v (σ y)
    go true q = let z : y ≡ x = eqb-true y x q in rw (q, is_true (ltb y 16) (lt→ltb y 16 (omega arith))) e
    go false q = rw q (h y)

-- of each variable one of three wires
sides : (v : ℕ) (W : Values) (a b c : ℕ) (t : ℕ) (p q r : Bool)
    → pick r (W (pick p a (pick q b c)) t) v ≡ pick p (pick r (W a t) v) (pick q (pick r (W b t) v) (pick r (W c t) v))
sides v W a b c t true q true = refl
sides v W a b c t true q false = refl
sides v W a b c t false true true = refl
sides v W a b c t false true false = refl
sides v W a b c t false false true = refl
sides v W a b c t false false false = refl

-- of each word: those of elements are never written
sides-own : (v : ℕ) (W : Values) (a b c : ℕ) (t y : ℕ) (p q : ℕ → Bool)
    → pick (ltb y 16) (W (pick (p y) a (pick (q y) b c)) t) v
    ≡ pick (p (owner y)) (pick (ltb y 16) (W a t) v) (pick (q (owner y)) (pick (ltb y 16) (W b t) v) (pick (ltb y 16) (W c t) v))
sides-own v W a b c t y p q = go (ltb y 16) refl
  where
    none : (i j : Bool) → v ≡ pick i v (pick j v v)
    none true j = refl
    none false true = refl
    none false false = refl

    go : (r : Bool) → ltb y 16 ≡ r
        → pick (ltb y 16) (W (pick (p y) a (pick (q y) b c)) t) v
        ≡ pick (p (owner y)) (pick (ltb y 16) (W a t) v) (pick (q (owner y)) (pick (ltb y 16) (W b t) v) (pick (ltb y 16) (W c t) v))
    go true k = rw (owner-variable y (below-16 y k)) (sides v W a b c t (p y) (q y) (ltb y 16))
    go false k = rw k (none (p (owner y)) (q (owner y)))

pick_same : (b : Bool) (v : ℕ) → v ≡ pick b v v
pick_same true v = refl
pick_same false v = refl

module _ (τ : Store) (starts : Sig) (first : ℕ → ℕ) (A : Elements) (W : Values) (N : ℕ) (bounded : (k t : ℕ) → k < N → W k t < 65536) (nought : (t : ℕ) → W 2 t ≡ 0) where
  -- an if's words: E is its condition's word, i stands at the masks
  chooses : (b : ℕ → Bool) (vs ws us : Wires) (i w : ℕ) (E : ℕ → ℕ) → Inside N ws → Inside N us
      → ((x : ℕ) → b x ≡ false → ws x ≡ vs x) → ((x : ℕ) → b x ≡ false → us x ≡ vs x) → ((t : ℕ) → W w t ≡ E t)
      → Obeyed 1 starts first A W i
      (cell 8 0 w 2
      ∷ (cell 5 0 2 i
      ∷ (cell 3 0 (i + 1) 0 ∷ choices b (λ y. cell 6 0 (ws y) (i + 1 + 1)) (λ y. cell 6 0 (us y) (i + 1)) (i + 1 + 1 + 1))))
      → (t x : ℕ) → shows τ W (placed b (joins_at b (i + 1 + 1 + 1)) vs) t x ≡ pick (is_zero (E t)) (shows τ W us t x) (shows τ W ws t x)
  unfolding cell_val operate Inside
  chooses b vs ws us i w E inW inU sameW sameU e h t x = go (ltb x 16) refl (b x) refl
    where
      go : (p : Bool) → ltb x 16 ≡ p → (q : Bool) → b x ≡ q
          → shows τ W (placed b (joins_at b (i + 1 + 1 + 1)) vs) t x ≡ pick (is_zero (E t)) (shows τ W us t x) (shows τ W ws t x)
      go true q true k =
          let l : x < 16 = below-16 x q in
          let z : W i t ≡ bit (eqb (E t) 0) = h.0 t ∙ ap₂ (λ (a b : ℕ). bit (eqb a b)) (e t) (nought t) in
          let no : W (i + 1) t ≡ (0 + 65536 - bit (eqb (E t) 0)) % 65536 = h.1.0 t ∙ ap₂ (λ (a b : ℕ). (a + 65536 - b) % 65536) (nought t) z in
          let yes : W (i + 1 + 1) t ≡ 65535 - (0 + 65536 - bit (eqb (E t) 0)) % 65536 = h.1.1.0 t ∙ ap (λ (a : ℕ). 65535 - a) no in
          rw (q, k)
          (chosen_is τ starts first A W b (λ y. cell 6 0 (ws y) (i + 1 + 1)) (λ y. cell 6 0 (us y) (i + 1)) (i + 1 + 1 + 1) h.1.1.1 x l k t
          ∙ ap₂ (λ (a b : ℕ). bit_or (bit_and (W (ws x) t) a) (bit_and (W (us x) t) b)) yes no
          ∙ selects (E t) (W (ws x) t) (W (us x) t) (bounded (ws x) t (inW x l)) (bounded (us x) t (inU x l)))
      go true q false k = rw (q, k, sameW x k, sameU x k) (pick_same (is_zero (E t)) (W (vs x) t))
      go false q r k = rw q (pick_same (is_zero (E t)) (τ x))

  -- The statement's circuit from its start s and the wires ws, if its cells stand at c. X is what more is known of each cell, and C and H what that says
  -- of delays and merges: nothing, or that nothing is in flight.
  module _ (X : ℕ → Cell → Type 0) (C : ℕ → Sig → Type 0) (H : Sig → Sig → Type 0)
      (same : (d : ℕ) (f g : Sig) → f ≈ g → C d f → C d g) (none : (f : Sig) → C 0 f)
      (twice : (d : ℕ) (f : Sig) → C 1 f → C d (delayed 1 f) → C (suc d) f)
      (delay-known : (k d i : ℕ) → X k (cell 34 d i 0) → C d (level W i))
      (merge-known : (k i j : ℕ) → X k (cell 38 0 i j) → H (level W i) (level W j)) where
    abbrev pub Cells : Stmt → ℕ → Wires → ℕ → Type 0
    Cells P s ws c = Net (both C H (wired W P s c)) P (level W s) (level W (finish_wire P s c)) (shows τ W ws) (shows τ W (outs P ws c))

    own-known : (δ s d : ℕ) → All X d (if_delay_cells δ s) → C δ (level W s)
    unfolding if_delay_cells
    own-known zero s d x = none (level W s)
    own-known (suc δ) s d x = delay-known d (suc δ) s x.0

    pub struct : (P : Stmt) → Formed P → Basic P → (s : ℕ) (ws : Wires) (c : ℕ) → Inside N ws → c + count P ≤ N
        → Obeyed 1 starts first A W c (walk P s ws c) → All X c (walk P s ws c) → Cells P s ws c
    unfolding Net walk feeds joins finish_wire outs count cell_val kept over Inside
    struct ok w b s ws c i l h x = record { fin = λ t. refl; words = λ t y. refl }
    struct (tick δ) w b s ws c i l h x =
        (record { fin = λ t. level-of (delayed δ (level W s) t) (h.0 t); words = λ t y. refl }, (delay-known c δ s x.0, refl))
    struct (assign δ y e) w b s ws c i l h x =
        let r = split (Rule 1 starts first A W) c (expr_count e) (expr_cells ws e c) (cell 34 δ s 0 ∷ []) (e-len ws e c) h in
        let r' = split X c (expr_count e) (expr_cells ws e c) (cell 34 δ s 0 ∷ []) (e-len ws e c) x in (
          record {
            fin = λ t. level-of (delayed δ (level W s) t) (r.1.0 t);
            words = λ t z.
                assigned τ W ws y (expr_wire ws e c) (shows τ W ws t) (eval e (shows τ W ws t)) t z w.1 (expr τ starts first A W ws e w.2 b c r.0 t) (λ y. refl);
          },
          (delay-known (c + expr_count e) δ s r'.1.0, refl),
        )
    struct (seq P Q) w b s ws c i l h x =
        let g = finish_wire P s c in
        let us = outs P ws c in
        let cQ = c + count P in
        let r = split (Rule 1 starts first A W) c (count P) (walk P s ws c) (walk Q g us cQ) (w-len P s ws c) h in
        let r' = split X c (count P) (walk P s ws c) (walk Q g us cQ) (w-len P s ws c) x in
        record {
          mid = level W g;
          w₁ = shows τ W us;
          left = struct P w.0 b.0 s ws c i (omega arith) r.0 r'.0;
          right = struct Q w.1 b.1 g us cQ (outs-inside N P w.0 ws c (omega arith) i) (omega arith) r.1 r'.1;
        }
    struct (par P Q) w b s ws c i l h x =
        let cQ = c + count P in
        let f = finish_wire P s c in
        let g = finish_wire Q s cQ in
        let o = cell 38 0 f g in
        let r = split (Rule 1 starts first A W) c (count P) (walk P s ws c) (walk Q s ws cQ ++ (o ∷ [])) (w-len P s ws c) h in
        let q = split (Rule 1 starts first A W) cQ (count Q) (walk Q s ws cQ) (o ∷ []) (w-len Q s ws cQ) r.1 in
        let r' = split X c (count P) (walk P s ws c) (walk Q s ws cQ ++ (o ∷ [])) (w-len P s ws c) x in
        let q' = split X cQ (count Q) (walk Q s ws cQ) (o ∷ []) (w-len Q s ws cQ) r'.1 in
        record {
          f₁ = level W f;
          w₁ = shows τ W (outs P ws c);
          f₂ = level W g;
          w₂ = shows τ W (outs Q ws cQ);
          left = struct P w.0 b.0 s ws c i (omega arith) r.0 r'.0;
          right = struct Q w.1 b.1 s ws cQ i (omega arith) q.0 q'.0;
          words = λ t y. sides-own (τ y) W (outs P ws c y) (outs Q ws cQ y) (ws y) t y (writes P) (writes Q);
          fin = λ t. level-of (merged (level W f) (level W g) t) (q.1.0 t);
          merge = (merge-known (cQ + count Q) f g q'.1.0, (refl, refl));
        }
    struct (ite δ e P Q) w b s ws c i l h x =
        let p = if_true δ e P Q c in
        let cP = if_then δ e P Q c in
        let cQ = if_else δ e P Q c in
        let m = if_end δ e P Q c in
        let f = finish_wire P p cP in
        let g = finish_wire Q (p + 1) cQ in
        let v = expr_wire ws e c in
        let re = split (Rule 1 starts first A W) c (expr_count e) (expr_cells ws e c) _ (e-len ws e c) h in
        let ro = split (Rule 1 starts first A W) (c + expr_count e) (if_delay_count δ) (if_delay_cells δ s) _ (own-len δ s) re.1 in
        let rP = split (Rule 1 starts first A W) cP (count P) (walk P p ws cP) _ (w-len P p ws cP) ro.1.1.1 in
        let rQ = split (Rule 1 starts first A W) cQ (count Q) (walk Q (p + 1) ws cQ) _ (w-len Q (p + 1) ws cQ) rP.1 in
        let xe = split X c (expr_count e) (expr_cells ws e c) _ (e-len ws e c) x in
        let xo = split X (c + expr_count e) (if_delay_count δ) (if_delay_cells δ s) _ (own-len δ s) xe.1 in
        let xP = split X cP (count P) (walk P p ws cP) _ (w-len P p ws cP) xo.1.1.1 in
        let xQ = split X cQ (count Q) (walk Q (p + 1) ws cQ) _ (w-len Q (p + 1) ws cQ) xP.1 in
        let D : (t : ℕ) → level W (if_pulse δ s (c + expr_count e)) t ≡ delayed δ (level W s) t = pulse-is τ starts first A W δ s (c + expr_count e) ro.0 in
        let E : (t : ℕ) → W v t ≡ eval e (shows τ W ws t) = expr τ starts first A W ws e w.1 b.0 c re.0 in
        record {
          s₁ = level W p;
          f₁ = level W f;
          w₁ = shows τ W (outs P ws cP);
          s₂ = level W (p + 1);
          f₂ = level W g;
          w₂ = shows τ W (outs Q ws cQ);
          left = struct P w.2 b.1 p ws cP i (omega arith) rP.0 xP.0;
          right = struct Q w.3 b.2 (p + 1) ws cQ i (omega arith) rQ.0 xQ.0;
          yes₁ = λ t. yes-is τ starts first A W p (if_pulse δ s (c + expr_count e)) v t (ro.1.0 t) (D t) (E t);
          no₂ = λ t. no-is τ starts first A W (p + 1) (if_pulse δ s (c + expr_count e)) v t (ro.1.1.0 t) (D t) (E t);
          words =
              chooses (branches P Q) ws (outs P ws cP) (outs Q ws cQ) (m + 1) v (λ t. eval e (shows τ W ws t))
              (outs-inside N P w.2 ws cP (omega arith) i) (outs-inside N Q w.3 ws cQ (omega arith) i)
              (λ y k. outs-unwritten P y (or-false (writes P y) (writes Q y) k).0 ws cP)
              (λ y k. outs-unwritten Q y (or-false (writes P y) (writes Q y) k).1 ws cQ) E rQ.1.1;
          fin = λ t. level-of (level W f t || level W g t) (rQ.1.0 t);
          delay = (own-known δ s (c + expr_count e) xo.0, refl);
        }
    struct (while δ e P) w b s ws c i l h x =
        let us : Wires = placed (writes P) c ws in
        let ce = c + many (writes P) + 1 + 1 in
        let p = while_true e P c in
        let cP = while_body e P c in
        let m = while_load e P c in
        let f = finish_wire P p cP in
        let v = expr_wire us e ce in
        let rl = split (Rule 1 starts first A W) c (many (writes P)) (each (writes P) (λ y. cell 45 0 m (joins_at (writes P) (m + 1) + rank (writes P) y))) _ (each-len (writes P) _) h in
        let re = split (Rule 1 starts first A W) ce (expr_count e) (expr_cells us e ce) _ (e-len us e ce) rl.1.1.1 in
        let rP = split (Rule 1 starts first A W) cP (count P) (walk P p us cP) _ (w-len P p us cP) re.1.1.1 in
        let xl = split X c (many (writes P)) (each (writes P) (λ y. cell 45 0 m (joins_at (writes P) (m + 1) + rank (writes P) y))) _ (each-len (writes P) _) x in
        let xe = split X ce (expr_count e) (expr_cells us e ce) _ (e-len us e ce) xl.1.1.1 in
        let xP = split X cP (count P) (walk P p us cP) _ (w-len P p us cP) xe.1.1.1 in
        let load : Sig = either (level W s) (level W f) in
        let O : level W m ≈ load = λ t. level-of (level W s t || level W f t) (rP.1.0 t) in
        let D₁ : level W (c + many (writes P)) ≈ delayed 1 load = λ t. level-of (delayed 1 (level W m) t) (rl.1.0 t) ∙ delayed-cong 1 O t in
        let D : level W (c + many (writes P) + 1) ≈ delayed (suc δ) load =
        λ t. level-of (delayed δ (level W (c + many (writes P))) t) (rl.1.1.0 t) ∙ delayed-cong δ D₁ t ∙ delayed-twice δ load t in
        let E : (t : ℕ) → W v t ≡ eval e (shows τ W us t) = expr τ starts first A W us e w.1 b.0 ce re.0 in
        record {
          s₁ = level W p;
          f₁ = level W f;
          w₁ = shows τ W (outs P us cP);
          body = struct P w.2 b.1 p us cP (placed-inside N (writes P) c ws (omega arith) i) (omega arith) rP.0 xP.0;
          latches = loads τ starts first A W (writes P) ws (outs P us cP) s f c m rl.0 rP.1.1 O;
          begin = λ t. yes-is τ starts first A W p (c + many (writes P) + 1) v t (re.1.0 t) (D t) (E t);
          fin = λ t. no-is τ starts first A W (p + 1) (c + many (writes P) + 1) v t (re.1.1.0 t) (D t) (E t);
          delay = (
            twice δ load (same 1 (level W m) load O (delay-known (c + many (writes P)) 1 m xl.1.0))
                (same δ (level W (c + many (writes P))) (delayed 1 load) D₁ (delay-known (c + many (writes P) + 1) δ (c + many (writes P)) xl.1.1.0)),
            fun_ext (λ t. sym (O t)),
          );
        }
    struct (repeat δ e P) w b s ws c i l h x =
        let ls : Wires = placed (writes P) c ws in
        let cP = repeat_body e P c in
        let q = repeat_delay e P c in
        let us : Wires = outs P ls cP in
        let v = expr_wire us e (q + 1) in
        let p = repeat_true e P c in
        let m = repeat_load e P c in
        let f = finish_wire P (c + many (writes P)) cP in
        let rl = split (Rule 1 starts first A W) c (many (writes P)) (each (writes P) (λ y. cell 45 0 m (joins_at (writes P) (m + 1) + rank (writes P) y))) _ (each-len (writes P) _) h in
        let rP = split (Rule 1 starts first A W) cP (count P) (walk P (c + many (writes P)) ls cP) _ (w-len P (c + many (writes P)) ls cP) rl.1.1 in
        let re = split (Rule 1 starts first A W) (q + 1) (expr_count e) (expr_cells us e (q + 1)) _ (e-len us e (q + 1)) rP.1.1 in
        let xl = split X c (many (writes P)) (each (writes P) (λ y. cell 45 0 m (joins_at (writes P) (m + 1) + rank (writes P) y))) _ (each-len (writes P) _) x in
        let xP = split X cP (count P) (walk P (c + many (writes P)) ls cP) _ (w-len P (c + many (writes P)) ls cP) xl.1.1 in
        let load : Sig = either (level W s) (level W (p + 1)) in
        let O : level W m ≈ load = λ t. level-of (level W s t || level W (p + 1) t) (re.1.1.1.0 t) in
        let D : (t : ℕ) → level W q t ≡ delayed δ (level W f) t = λ t. level-of (delayed δ (level W f) t) (rP.1.0 t) in
        let E : (t : ℕ) → W v t ≡ eval e (shows τ W us t) = expr τ starts first A W us e w.1 b.0 (q + 1) re.0 in
        record {
          s₁ = level W (c + many (writes P));
          f₁ = level W f;
          g = level W (p + 1);
          l = shows τ W ls;
          body = struct P w.2 b.1 (c + many (writes P)) ls cP (placed-inside N (writes P) c ws (omega arith) i) (omega arith) rP.0 xP.0;
          latches = loads τ starts first A W (writes P) ws us s (p + 1) c m rl.0 re.1.1.1.1 O;
          begin = λ t. level-of (delayed 1 (level W m) t) (rl.1.0 t) ∙ delayed-cong 1 O t;
          more = λ t. no-is τ starts first A W (p + 1) q v t (re.1.1.0 t) (D t) (E t);
          fin = λ t. yes-is τ starts first A W p q v t (re.1.0 t) (D t) (E t);
          load = (same 1 (level W m) load O (delay-known (c + many (writes P)) 1 m xl.1.0), fun_ext (λ t. sym (O t)));
          delay = (delay-known q δ f xP.1.0, refl);
        }
    struct (assign_elem δ k i e) w b s ws c u l h x = absurd b
    struct (loop δ P) w b s ws c i l h x = absurd b
    struct exit w b s ws c i l h x = absurd b
    struct (call _ none) w b s ws c i l h x = elim none [ ]

-- Nothing in flight, cell by cell -----------------------------------------------------------------------------------------------------------------

-- C of cell c and its input, if it is a delay, and H of its inputs, if it is a merge; it is no call's
pub record Known (C : ℕ → Sig → Type 0) (H : Sig → Sig → Type 0) (W : Values) (k : ℕ) (c : Cell) : Type 0 where
  pub delay : c.kind ≡ 34 → C c.delay (level W c.a)
  pub merge : c.kind ≡ 38 → H (level W c.a) (level W c.b)
  pub uncalled : c.kind ≡ 39 → ⊥

-- cell c holds nothing just before instant a: no pulse, if it is a delay, and no bit, if it is a merge. A latch holds nothing that counts.
abbrev pub Still : Values → ℕ → ℕ → Cell → Type 0
Still W a k c = Known (λ d s. Clear d s a) (λ f g. Empty f g a) W k c

clear-same : (a d : ℕ) (f g : Sig) → f ≈ g → Clear d f a → Clear d g a
clear-same a d f g e h t l k = sym (e t) ∙ h t l k

clear-twice : (a d : ℕ) (f : Sig) → Clear 1 f a → Clear d (delayed 1 f) a → Clear (suc d) f a
clear-twice a d f h h' t l k =
    by_le a (t + 1) (λ o. h t l o) (λ o. sym (delayed-at 1 f t (t + 1) refl) ∙ h' (t + 1) o (omega arith))

module _ (τ : Store) (starts : Sig) (first : ℕ → ℕ) (A : Elements) (W : Values) (N : ℕ) (bounded : (k t : ℕ) → k < N → W k t < 65536) (nought : (t : ℕ) → W 2 t ≡ 0)
    (P : Stmt) (w : Formed P) (basic : Basic P) (s : ℕ) (ws : Wires) (c : ℕ) (i : Inside N ws) (l : c + count P ≤ N) (h : Obeyed 1 starts first A W c (walk P s ws c)) where
  all-unit : (cs : List Cell) (k : ℕ) → All (λ k c. Unit {0}) k cs
  all-unit [] k = tt
  all-unit (c ∷ cs) k = (tt, all-unit cs (k + 1))

  -- the cells are a circuit
  pub circuit-of : Net (wired W P s c) P (level W s) (level W (finish_wire P s c)) (shows τ W ws) (shows τ W (outs P ws c))
  circuit-of =
      let nothing : ℕ → Sig → Type 0 = λ d s. Unit {0} in
      let nothing₂ : Sig → Sig → Type 0 = λ f g. Unit {0} in
      net-map (both nothing nothing₂ (wired W P s c)) (wired W P s c) (λ p d g e. e.1) (λ p f g e. e.1) P (level W s) (level W (finish_wire P s c)) (shows τ W ws)
      (shows τ W (outs P ws c))
      (struct τ starts first A W N bounded nought (λ k c. Unit {0}) nothing nothing₂ (λ d f g e u. tt) (λ f. tt) (λ d f u v. tt)
      (λ k d i u. tt) (λ k i j u. tt) P w basic s ws c i l h (all-unit (walk P s ws c) c))

  -- and, where none holds anything, nothing is in flight
  pub clean_of : (a : ℕ) → All (Still W a) c (walk P s ws c)
      → Clean (wired W P s c) P a (level W s) (level W (finish_wire P s c)) (shows τ W ws) (shows τ W (outs P ws c))
  clean_of a x =
      struct τ starts first A W N bounded nought (Still W a) (λ d s. Clear d s a) (λ f g. Empty f g a) (clear-same a) (λ f t l k. absurd (omega arith)) (clear-twice a)
      (λ k d i u. u.delay refl) (λ k i j u. u.merge refl) P w basic s ws c i l h x
