-- A program's netlist when its operators take their time: the word that each expression's wire shows then; and that every cell that uses a word, a
-- kind 36, 37 or 41, finds the ideal word there whenever its pulse comes.
-- Assumes nothing.
use Rattle.std.specs.Prelude.{◌≡◌, refl, Bool, true, false, ◌||◌, eqb}
use Rattle.std.proofs.Math.Path.{sym, ap}
use Rattle.std.proofs.Common.{◌∙◌, ne_eqb}
use mathlib.Core.List.{List, [], ◌∷◌, ◌++◌}
use Prim.Native.Nat.{ℕ, zero, suc, ◌+◌, ◌<◌, ◌≤◌}
use native.Mathlib.Omega.{arith}
use Rattle.model.specs.declared.Cell.{Cell}
use Rattle.model.specs.Word.{index, element_word, operate}
use Rattle.model.specs.Program.{Expr, const, var, compl, op, elem, time, Code, ok, tick, assign, assign_elem, seq, par, ite, while, repeat, loop, exit, call, array_var}
use Rattle.model.specs.Circuit.{cell, Sig, Values, Elements, Shape, shape, equation, level, delayed}
use Rattle.model.specs.Gates.{past, gate}
use Rattle.model.specs.Numbering.{Wires, expr_count, expr_wire, expr_cells, if_delay_count, if_pulse, if_delay_cells, delay_count, walk_count, exits_at, finish_wire, loop_exits, delays, walk, clock_sources, data_sources, address_sources, call_sources}
use Rattle.model.specs.Numbering.{Source, wires_of, or_chain, ors, or_count, ors_from}
use Rattle.laws.specs.Circuit.Shapes.{operator-shape}
use Rattle.laws.specs.Refusals.Laws.{not-both}
use Rattle.laws.specs.Program.Fit.{FormedExpr, Formed, Earlier, Covered}
use Rattle.laws.specs.Numbering.Cells.{cell_val, All, Rule, Obeyed, split, join}
use Rattle.laws.specs.Numbering.Lengths.{e-len, own-len, d-len, w-len, ors-len}
use Rattle.theory.specs.Control.Wiring.{ideal, Circuit, Each}
use Rattle.theory.specs.Control.History.{Stable}
use Rattle.theory.specs.Control.Calm.{lately}
use Rattle.theory.specs.Control.Gates.{shown, shown-same, used-word}
use Rattle.theory.specs.Numbering.Levels.{level-of, delayed-cong, any_high, all_or, gives_at}
use Rattle.theory.specs.Numbering.Structure.{ShowsElements, expr, pulse-is, struct}

-- what cell k, which is c, shows at instant t
unfoldable pub gate_val : (ℕ → ℕ) → Sig → ℕ → Elements → Values → ℕ → Cell → ℕ → ℕ
unfolding shape gate equation
gate_val τ starts first E U k c t = gate τ (shape c.kind) starts first E U k c t

abbrev pub GateRule : (ℕ → ℕ) → Sig → (ℕ → ℕ) → Elements → Values → ℕ → Cell → Type 0
GateRule τ starts first E U k c = (t : ℕ) → U k t ≡ gate_val τ starts (first k) E U k c t

op-gate : (τ : ℕ → ℕ) (starts : Sig) (first : ℕ) (E : Elements) (U : Values) (p k x y t : ℕ) → 4 ≤ k → k ≤ 9
    → gate_val τ starts first E U p (cell k 0 x y) t ≡ operate k (past (τ k) (U x) t) (past (τ k) (U y) t)
unfolding gate_val
op-gate τ starts first E U p k x y t h h' = ap (λ (sh : Shape). gate τ sh starts first E U p (cell k 0 x y) t) (operator-shape k h h')

-- Expressions -----------------------------------------------------------------------------------------------------------------------------

module _ (τ : ℕ → ℕ) (starts : Sig) (first : ℕ → ℕ) (E : Elements) (U : Values) (M : Wires) (m : ℕ → ℕ → ℕ) (shows : (x t : ℕ) → x < 16 → m t x ≡ U (M x) t)
    (elements : (k w t : ℕ) → k < 4 → m t (element_word k w) ≡ E (M (array_var k)) (index w) t) where
  pub slow-expr : (e : Expr) → FormedExpr e → (c : ℕ) → All (GateRule τ starts first E U) c (expr_cells M e c) → (t : ℕ)
      → U (expr_wire M e c) t ≡ shown τ m e t
  unfolding expr_cells expr_wire expr_count shown gate_val
  slow-expr (const n) w c h t = h.0 t
  slow-expr (var x) w c h t = sym (shows x t w)
  slow-expr (compl e) w c h t =
      let r = split (GateRule τ starts first E U) c (expr_count e) (expr_cells M e c) (cell 3 0 (expr_wire M e c) 0 ∷ []) (e-len M e c) h in
      let p : (u : ℕ) → U (expr_wire M e c) u ≡ shown τ m e u = slow-expr e w c r.0 in
      r.1.0 t ∙ (λ i. operate 3 (past (τ 3) (λ u. p u i) t) 0)
  slow-expr (op k e f) w c h t =
      let cf = c + expr_count e in
      let o = cell k 0 (expr_wire M e c) (expr_wire M f cf) in
      let r = split (GateRule τ starts first E U) c (expr_count e) (expr_cells M e c) (expr_cells M f cf ++ (o ∷ [])) (e-len M e c) h in
      let q = split (GateRule τ starts first E U) cf (expr_count f) (expr_cells M f cf) (o ∷ []) (e-len M f cf) r.1 in
      let p : (u : ℕ) → U (expr_wire M e c) u ≡ shown τ m e u = slow-expr e w.2 c r.0 in
      let p' : (u : ℕ) → U (expr_wire M f cf) u ≡ shown τ m f u = slow-expr f w.3 cf q.0 in
      q.1.0 t
      ∙ op-gate τ starts (first (cf + expr_count f)) E U (cf + expr_count f) k (expr_wire M e c) (expr_wire M f cf) t w.0 w.1
      ∙ (λ i. operate k (past (τ k) (λ u. p u i) t) (past (τ k) (λ u. p' u i) t))
  slow-expr (elem k e) w c h t =
      let r = split (GateRule τ starts first E U) c (expr_count e) (expr_cells M e c) (cell 44 0 (M (array_var k)) (expr_wire M e c) ∷ []) (e-len M e c) h in
      let p : (u : ℕ) → U (expr_wire M e c) u ≡ shown τ m e u = slow-expr e w.1 c r.0 in
      let q : (u : ℕ) → E (M (array_var k)) (index (U (expr_wire M e c) u)) u ≡ m u (element_word k (shown τ m e u)) =
      λ u. ap (λ (x : ℕ). E (M (array_var k)) (index x) u) (p u) ∙ sym (elements k (shown τ m e u) u w.0) in
      r.1.0 t ∙ (λ i. past (τ 10) (λ u. q u i) t)

-- Cells that use a word ---------------------------------------------------------------------------------------------------------------------

-- the kinds that use one
abbrev pub uses : ℕ → Bool
uses k = eqb k 36 || (eqb k 37 || eqb k 41)

-- W are the ideal values and U the slow ones, with the words m and m': where pulse a is high before instant bound, and the words have been the same up to
-- then, wire w shows the same
abbrev pub Trust : Values → Values → (ℕ → ℕ → ℕ) → (ℕ → ℕ → ℕ) → ℕ → ℕ → ℕ → Type 0
Trust W U m m' bound a w =
    (t : ℕ) → t < bound → ((u : ℕ) → u ≤ t → (x : ℕ) → m u x ≡ m' u x) → level W a t ≡ true → U w t ≡ W w t

-- cell k, which is c, uses only words that it may trust, and stands from top on then; Q holds of the wires that a memory and an array take their words and
-- addresses from; and it is no latch
pub record Good (T : ℕ → ℕ → Type 0) (Q : ℕ → Type 0) (top k : ℕ) (c : Cell) : Type 0 where
  pub trust : uses c.kind ≡ true → (top ≤ k) × T c.a c.b
  pub word : c.kind ≡ 40 → Q c.b
  pub array : c.kind ≡ 42 → Q c.b
  pub address : c.kind ≡ 43 → Q c.a
  pub latch : c.kind ≡ 45 → ⊥

-- a kind that is none of these
abbrev pub Other : ℕ → Type 0
Other k = (uses k ≡ false) × (k ≡ 40 → ⊥) × (k ≡ 42 → ⊥) × (k ≡ 43 → ⊥) × (k ≡ 45 → ⊥)

module _ (T : ℕ → ℕ → Type 0) (Q : ℕ → Type 0) (top : ℕ) where
  abbrev R : ℕ → Cell → Type 0
  R = Good T Q top

  pub other : (k : ℕ) (c : Cell) → Other c.kind → R k c
  other k c o =
      record { trust = λ z. not-both z o.0; word = λ z. absurd (o.1 z); array = λ z. absurd (o.2 z); address = λ z. absurd (o.3 z); latch = o.4 }

  user : (kind : ℕ) → (kind ≡ 40 → ⊥) × (kind ≡ 42 → ⊥) × (kind ≡ 43 → ⊥) × (kind ≡ 45 → ⊥) → (k a b : ℕ) → top ≤ k → T a b → R k (cell kind 0 a b)
  user kind o k a b l h =
      record { trust = λ z. (l, h); word = λ z. absurd (o.0 z); array = λ z. absurd (o.1 z); address = λ z. absurd (o.2 z); latch = o.3 }

  use-36 : (k a b : ℕ) → top ≤ k → T a b → R k (cell 36 0 a b)
  use-36 = user 36 (λ e. omega arith, λ e. omega arith, λ e. omega arith, λ e. omega arith)

  use-37 : (k a b : ℕ) → top ≤ k → T a b → R k (cell 37 0 a b)
  use-37 = user 37 (λ e. omega arith, λ e. omega arith, λ e. omega arith, λ e. omega arith)

  use-41 : (k a b : ℕ) → top ≤ k → T a b → R k (cell 41 0 a b)
  use-41 = user 41 (λ e. omega arith, λ e. omega arith, λ e. omega arith, λ e. omega arith)

  pub low-kind : (k : ℕ) → k ≤ 9 → Other k
  low-kind k l = (
    rw (ne_eqb k 36 (λ e. omega arith), ne_eqb k 37 (λ e. omega arith), ne_eqb k 41 (λ e. omega arith)) refl,
    (λ e. omega arith),
    (λ e. omega arith),
    (λ e. omega arith),
    (λ e. omega arith),
  )

  exprs : (M : Wires) (e : Expr) → FormedExpr e → (c : ℕ) → All R c (expr_cells M e c)
  unfolding expr_cells expr_count
  exprs M (const n) w c = (other c (cell 1 0 n 0) (low-kind 1 (omega arith)), tt)
  exprs M (var x) w c = tt
  exprs M (compl e) w c =
      join R c (expr_count e) (expr_cells M e c) (cell 3 0 (expr_wire M e c) 0 ∷ []) (e-len M e c) (exprs M e w c)
      (other _ (cell 3 0 (expr_wire M e c) 0) (low-kind 3 (omega arith)), tt)
  exprs M (op k e f) w c =
      let last = cell k 0 (expr_wire M e c) (expr_wire M f (c + expr_count e)) in
      join R c (expr_count e) (expr_cells M e c) (expr_cells M f (c + expr_count e) ++ (last ∷ [])) (e-len M e c) (exprs M e w.2 c)
      (join R (c + expr_count e) (expr_count f) (expr_cells M f (c + expr_count e)) (last ∷ []) (e-len M f (c + expr_count e)) (exprs M f w.3 (c + expr_count e))
      (other _ last (low-kind k w.1), tt))
  exprs M (elem k e) w c =
      join R c (expr_count e) (expr_cells M e c) (cell 44 0 (M (array_var k)) (expr_wire M e c) ∷ []) (e-len M e c) (exprs M e w.1 c)
      (other _ (cell 44 0 (M (array_var k)) (expr_wire M e c)) (refl, λ e. omega arith, λ e. omega arith, λ e. omega arith, λ e. omega arith), tt)

  module _ (kind : ℕ) (p : Other kind) where
    chain-good : (acc n : ℕ) (ws : List ℕ) → All R n (or_chain kind acc n ws)
    unfolding or_chain
    chain-good acc n [] = tt
    chain-good acc n (w ∷ ws) = (other n (cell kind 0 acc w) p, chain-good n (n + 1) ws)

    pub ors-good : (n : ℕ) (ws : List ℕ) → All R n (ors kind n ws)
    unfolding ors
    ors-good n [] = tt
    ors-good n (w ∷ ws) = chain-good w n ws

    pub ors_from-good : (ws : List Source) (n x j : ℕ) → All R n (ors_from kind ws n x j)
    unfolding ors_from
    ors_from-good ws n x zero = tt
    ors_from-good ws n x (suc j) =
        join R n (or_count (wires_of x ws)) (ors kind n (wires_of x ws)) (ors_from kind ws (n + or_count (wires_of x ws)) (x + 1) j)
        (ors-len kind n (wires_of x ws)) (ors-good n (wires_of x ws)) (ors_from-good ws (n + or_count (wires_of x ws)) (x + 1) j)

  pub or-kind : Other 35
  or-kind = (refl, λ e. omega arith, λ e. omega arith, λ e. omega arith, λ e. omega arith)

  or-good : (k a b : ℕ) → R k (cell 35 0 a b)
  or-good k a b = other k (cell 35 0 a b) or-kind

  delay-good : (k δ a : ℕ) → R k (cell 34 δ a 0)
  delay-good k δ a = other k (cell 34 δ a 0) (refl, λ e. omega arith, λ e. omega arith, λ e. omega arith, λ e. omega arith)

  own-good : (δ s d : ℕ) → All R d (if_delay_cells δ s)
  unfolding if_delay_cells
  own-good zero s d = tt
  own-good (suc δ) s d = (delay-good d (suc δ) s, tt)

-- A statement's cells -----------------------------------------------------------------------------------------------------------------------

module _ (pulse : ℕ) (starts : Sig) (first : ℕ → ℕ) (E : Elements) (W : Values) (M : Wires) (m : ℕ → ℕ → ℕ) (shows : (x t : ℕ) → x < 16 → m t x ≡ W (M x) t)
    (elements : ShowsElements pulse starts first E W M m shows)
    (ground : (t : ℕ) → level W 1 t ≡ false)
    (F : ℕ → ℕ) (ret : ℕ → Sig) (r : ℕ) (fin : (p t : ℕ) → p < r → level W (F p) t ≡ ret p t)
    (τ : ℕ → ℕ) (starts' : Sig) (first' : ℕ → ℕ) (E' : Elements) (U : Values) (m' : ℕ → ℕ → ℕ) (shows' : (x t : ℕ) → x < 16 → m' t x ≡ U (M x) t)
    (elements' : (k w t : ℕ) → k < 4 → m' t (element_word k w) ≡ E' (M (array_var k)) (index w) t)
    (bound : ℕ) (Q : ℕ → Type 0) (top : ℕ) where
  abbrev T : ℕ → ℕ → Type 0
  T = Trust W U m m' bound

  abbrev G : ℕ → Cell → Type 0
  G = Good T Q top

  abbrev S : ℕ → Cell → Type 0
  S = GateRule τ starts' first' E' U

  abbrev O : ℕ → Cell → Type 0
  O = Rule pulse starts first E W

  -- every word that was used had been held
  abbrev pub Used : (P : Code) → Formed P → Earlier r P → (s d c : ℕ) → Obeyed pulse starts first E W d (delays pulse P s d c)
      → Obeyed pulse starts first E W c (walk M F P s d c) → Type 0
  Used P w v s d c hd hw =
      Each (lately pulse m bound) pulse (ideal m) ret P (level W s) (level W (finish_wire P s d c)) (gives_at W P s d c)
      (struct pulse starts first E W M m shows elements ground F ret r fin P w v s d c hd hw)

  -- a word at the end of a delay
  trusted : (δ : ℕ) (e : Expr) (p : Sig) → FormedExpr e → time τ e ≤ δ → Stable m δ e p bound → (a c : ℕ) → ((t : ℕ) → level W a t ≡ delayed δ p t)
      → Obeyed pulse starts first E W c (expr_cells M e c) → All S c (expr_cells M e c) → T a (expr_wire M e c)
  trusted δ e p w long st a c D hw hs t l same y =
      slow-expr τ starts' first' E' U M m' shows' elements' e w c hs t
      ∙ sym (shown-same τ m m' e t same)
      ∙ used-word τ m δ e p bound w long st t l (sym (D t) ∙ y)
      ∙ sym (expr pulse starts first E W M m shows elements ground F ret r fin e w c hw t)

  pub good-cells : (P : Code) (w : Formed P) (v : Earlier r P) → Covered τ P → (s d c : ℕ) → top ≤ c
      → (hd : Obeyed pulse starts first E W d (delays pulse P s d c)) (hw : Obeyed pulse starts first E W c (walk M F P s d c))
      → All S c (walk M F P s d c) → Used P w v s d c hd hw → All G d (delays pulse P s d c) × All G c (walk M F P s d c)
  unfolding Each Circuit struct delays walk finish_wire clock_sources data_sources address_sources call_sources cell_val delay_count walk_count any_high all_or wires_of
  good-cells ok w v z s d c l hd hw hs h = (tt, tt)
  good-cells (tick δ) w v z s d c l hd hw hs h = ((delay-good T Q top d δ s, tt), tt)
  good-cells (assign δ x e) w v z s d c l hd hw hs h =
      let o = cell 41 0 d (expr_wire M e c) in
      let D : (t : ℕ) → level W d t ≡ delayed δ (level W s) t = λ t. level-of (delayed δ (level W s) t) (hd.0 t) in
      let a = split O c (expr_count e) (expr_cells M e c) (o ∷ []) (e-len M e c) hw in
      let b = split S c (expr_count e) (expr_cells M e c) (o ∷ []) (e-len M e c) hs in (
        (delay-good T Q top d δ s, (delay-good T Q top (d + 1) pulse d, tt)),
        join G c (expr_count e) (expr_cells M e c) (o ∷ []) (e-len M e c) (exprs T Q top M e w.2 c)
            (use-41 T Q top (c + expr_count e) d (expr_wire M e c) (omega arith) (trusted δ e (level W s) w.2 z h.0.2 d c D a.0 b.0), tt),
      )
  good-cells (assign_elem δ j i e) w v z s d c l hd hw hs h =
      let ce = c + expr_count i in
      let cg = ce + expr_count e in
      let o = cell 41 0 d (expr_wire M e ce) in
      let o' = cell 41 0 d (expr_wire M i c) in
      let D : (t : ℕ) → level W d t ≡ delayed δ (level W s) t = λ t. level-of (delayed δ (level W s) t) (hd.0 t) in
      let ai = split O c (expr_count i) (expr_cells M i c) (expr_cells M e ce ++ (o ∷ (o' ∷ []))) (e-len M i c) hw in
      let ae = split O ce (expr_count e) (expr_cells M e ce) (o ∷ (o' ∷ [])) (e-len M e ce) ai.1 in
      let bi = split S c (expr_count i) (expr_cells M i c) (expr_cells M e ce ++ (o ∷ (o' ∷ []))) (e-len M i c) hs in
      let be = split S ce (expr_count e) (expr_cells M e ce) (o ∷ (o' ∷ [])) (e-len M e ce) bi.1 in (
        (delay-good T Q top d δ s, (delay-good T Q top (d + 1) pulse d, tt)),
        join G c (expr_count i) (expr_cells M i c) (expr_cells M e ce ++ (o ∷ (o' ∷ []))) (e-len M i c) (exprs T Q top M i w.2 c)
            (join G ce (expr_count e) (expr_cells M e ce) (o ∷ (o' ∷ [])) (e-len M e ce) (exprs T Q top M e w.3 ce) (
              use-41 T Q top cg d (expr_wire M e ce) (omega arith) (trusted δ e (level W s) w.3 z.1 h.0.0.2 d ce D ae.0 be.0),
              (
                use-41 T Q top (cg + 1) d (expr_wire M i c) (omega arith) (trusted δ i (level W s) w.2 z.0 h.1 d c D ai.0 bi.0),
                tt,
              ),
            )),
      )
  good-cells (seq P Q') w v z s d c l hd hw hs h =
      let g = finish_wire P s d c in
      let dQ = delays pulse Q' g (d + delay_count P) (c + walk_count P) in
      let wQ = walk M F Q' g (d + delay_count P) (c + walk_count P) in
      let rd = split O d (delay_count P) (delays pulse P s d c) dQ (d-len pulse P s d c) hd in
      let rc = split O c (walk_count P) (walk M F P s d c) wQ (w-len M F P s d c) hw in
      let rs = split S c (walk_count P) (walk M F P s d c) wQ (w-len M F P s d c) hs in
      let a = good-cells P w.0 v.0 z.0 s d c l rd.0 rc.0 rs.0 h.0 in
      let b = good-cells Q' w.1 v.1 z.1 g (d + delay_count P) (c + walk_count P) (omega arith) rd.1 rc.1 rs.1 h.1 in (
        join G d (delay_count P) (delays pulse P s d c) dQ (d-len pulse P s d c) a.0 b.0,
        join G c (walk_count P) (walk M F P s d c) wQ (w-len M F P s d c) a.1 b.1,
      )
  good-cells (par P Q') w v z s d c l hd hw hs h =
      let f = finish_wire P s d c in
      let g = finish_wire Q' s (d + delay_count P) (c + walk_count P) in
      let dQ = delays pulse Q' s (d + delay_count P) (c + walk_count P) in
      let wQ = walk M F Q' s (d + delay_count P) (c + walk_count P) in
      let o = cell 38 0 f g in
      let lQ = w-len M F Q' s (d + delay_count P) (c + walk_count P) in
      let rd = split O d (delay_count P) (delays pulse P s d c) dQ (d-len pulse P s d c) hd in
      let rc = split O c (walk_count P) (walk M F P s d c) (wQ ++ (o ∷ [])) (w-len M F P s d c) hw in
      let rm = split O (c + walk_count P) (walk_count Q') wQ (o ∷ []) lQ rc.1 in
      let rs = split S c (walk_count P) (walk M F P s d c) (wQ ++ (o ∷ [])) (w-len M F P s d c) hs in
      let rt = split S (c + walk_count P) (walk_count Q') wQ (o ∷ []) lQ rs.1 in
      let a = good-cells P w.0 v.0 z.0 s d c l rd.0 rc.0 rs.0 h.1 in
      let b = good-cells Q' w.1 v.1 z.1 s (d + delay_count P) (c + walk_count P) (omega arith) rd.1 rm.0 rt.0 h.2 in (
        join G d (delay_count P) (delays pulse P s d c) dQ (d-len pulse P s d c) a.0 b.0,
        join G c (walk_count P) (walk M F P s d c) (wQ ++ (o ∷ [])) (w-len M F P s d c) a.1
            (join G (c + walk_count P) (walk_count Q') wQ (o ∷ []) lQ b.1
            (other T Q top _ o (refl, λ e. omega arith, λ e. omega arith, λ e. omega arith, λ e. omega arith), tt)),
      )
  good-cells (ite δ e P Q') w v z s d c l hd hw hs h =
      let p₁ = c + expr_count e in
      let dP = d + if_delay_count δ in
      let cP = p₁ + 1 + 1 in
      let f = finish_wire P p₁ dP cP in
      let g = finish_wire Q' (p₁ + 1) (dP + delay_count P) (cP + walk_count P) in
      let dQ = delays pulse Q' (p₁ + 1) (dP + delay_count P) (cP + walk_count P) in
      let wQ = walk M F Q' (p₁ + 1) (dP + delay_count P) (cP + walk_count P) in
      let lQ = w-len M F Q' (p₁ + 1) (dP + delay_count P) (cP + walk_count P) in
      let o5 = cell 35 0 f g in
      let a1 = if_pulse δ s d in
      let o6 = cell 36 0 a1 (expr_wire M e c) in
      let o7 = cell 37 0 a1 (expr_wire M e c) in
      let tail = wQ ++ (o5 ∷ []) in
      let rest = o6 ∷ (o7 ∷ (walk M F P p₁ dP cP ++ tail)) in
      let ro = split O d (if_delay_count δ) (if_delay_cells δ s) (delays pulse P p₁ dP cP ++ dQ) (own-len δ s) hd in
      let rd = split O dP (delay_count P) (delays pulse P p₁ dP cP) dQ (d-len pulse P p₁ dP cP) ro.1 in
      let re = split O c (expr_count e) (expr_cells M e c) rest (e-len M e c) hw in
      let rP = split O cP (walk_count P) (walk M F P p₁ dP cP) tail (w-len M F P p₁ dP cP) re.1.1.1 in
      let rQ = split O (cP + walk_count P) (walk_count Q') wQ (o5 ∷ []) lQ rP.1 in
      let se = split S c (expr_count e) (expr_cells M e c) rest (e-len M e c) hs in
      let sP = split S cP (walk_count P) (walk M F P p₁ dP cP) tail (w-len M F P p₁ dP cP) se.1.1.1 in
      let sQ = split S (cP + walk_count P) (walk_count Q') wQ (o5 ∷ []) lQ sP.1 in
      let D : (t : ℕ) → level W a1 t ≡ delayed δ (level W s) t = pulse-is pulse starts first E W M m shows elements ground F ret r fin δ s d ro.0 in
      let k : T a1 (expr_wire M e c) = trusted δ e (level W s) w.1 z.0 h.0.2 a1 c D re.0 se.0 in
      let a = good-cells P w.2 v.2 z.1 p₁ dP cP (omega arith) rd.0 rP.0 sP.0 h.1 in
      let b = good-cells Q' w.3 v.3 z.2 (p₁ + 1) (dP + delay_count P) (cP + walk_count P) (omega arith) rd.1 rQ.0 sQ.0 h.2 in (
        join G d (if_delay_count δ) (if_delay_cells δ s) (delays pulse P p₁ dP cP ++ dQ) (own-len δ s) (own-good T Q top δ s d)
            (join G dP (delay_count P) (delays pulse P p₁ dP cP) dQ (d-len pulse P p₁ dP cP) a.0 b.0),
        join G c (expr_count e) (expr_cells M e c) rest (e-len M e c) (exprs T Q top M e w.1 c) (
          use-36 T Q top p₁ a1 (expr_wire M e c) (omega arith) k,
          (
            use-37 T Q top (p₁ + 1) a1 (expr_wire M e c) (omega arith) k,
            join G cP (walk_count P) (walk M F P p₁ dP cP) tail (w-len M F P p₁ dP cP) a.1
                (join G (cP + walk_count P) (walk_count Q') wQ (o5 ∷ []) lQ b.1 (or-good T Q top _ f g, tt)),
          ),
        ),
      )
  good-cells (while δ e P) w v z s d c l hd hw hs h =
      let p₁ = c + expr_count e in
      let cP = p₁ + 1 + 1 in
      let f = finish_wire P p₁ (d + 1) cP in
      let o5 = cell 35 0 s f in
      let o6 = cell 36 0 d (expr_wire M e c) in
      let o7 = cell 37 0 d (expr_wire M e c) in
      let rest = o6 ∷ (o7 ∷ (walk M F P p₁ (d + 1) cP ++ (o5 ∷ []))) in
      let re = split O c (expr_count e) (expr_cells M e c) rest (e-len M e c) hw in
      let rP = split O cP (walk_count P) (walk M F P p₁ (d + 1) cP) (o5 ∷ []) (w-len M F P p₁ (d + 1) cP) re.1.1.1 in
      let se = split S c (expr_count e) (expr_cells M e c) rest (e-len M e c) hs in
      let sP = split S cP (walk_count P) (walk M F P p₁ (d + 1) cP) (o5 ∷ []) (w-len M F P p₁ (d + 1) cP) se.1.1.1 in
      let D : (t : ℕ) → level W d t ≡ delayed δ (λ u. level W s u || level W f u) t =
      λ t. level-of (delayed δ (level W (cP + walk_count P)) t) (hd.0 t) ∙ delayed-cong δ (λ u. level-of (level W s u || level W f u) (rP.1.0 u)) t in
      let k : T d (expr_wire M e c) = trusted δ e (λ u. level W s u || level W f u) w.1 z.0 h.0.2 d c D re.0 se.0 in
      let a = good-cells P w.2 v.2 z.1 p₁ (d + 1) cP (omega arith) hd.1 rP.0 sP.0 h.1 in (
        (delay-good T Q top d δ (cP + walk_count P), a.0),
        join G c (expr_count e) (expr_cells M e c) rest (e-len M e c) (exprs T Q top M e w.1 c) (
          use-36 T Q top p₁ d (expr_wire M e c) (omega arith) k,
          (
            use-37 T Q top (p₁ + 1) d (expr_wire M e c) (omega arith) k,
            join G cP (walk_count P) (walk M F P p₁ (d + 1) cP) (o5 ∷ []) (w-len M F P p₁ (d + 1) cP) a.1 (or-good T Q top _ s f, tt),
          ),
        ),
      )
  good-cells (repeat δ e P) w v z s d c l hd hw hs h =
      let p₁ = c + expr_count e in
      let cP = p₁ + 1 + 1 + 1 in
      let f = finish_wire P (p₁ + 1 + 1) (d + 1) cP in
      let o5 = cell 35 0 s (p₁ + 1) in
      let o6 = cell 36 0 d (expr_wire M e c) in
      let o7 = cell 37 0 d (expr_wire M e c) in
      let rest = o6 ∷ (o7 ∷ (o5 ∷ walk M F P (p₁ + 1 + 1) (d + 1) cP)) in
      let re = split O c (expr_count e) (expr_cells M e c) rest (e-len M e c) hw in
      let se = split S c (expr_count e) (expr_cells M e c) rest (e-len M e c) hs in
      let D : (t : ℕ) → level W d t ≡ delayed δ (level W f) t = λ t. level-of (delayed δ (level W f) t) (hd.0 t) in
      let k : T d (expr_wire M e c) = trusted δ e (level W f) w.1 z.0 h.0.2 d c D re.0 se.0 in
      let a = good-cells P w.2 v.2 z.1 (p₁ + 1 + 1) (d + 1) cP (omega arith) hd.1 re.1.1.1.1 se.1.1.1.1 h.1 in (
        (delay-good T Q top d δ f, a.0),
        join G c (expr_count e) (expr_cells M e c) rest (e-len M e c) (exprs T Q top M e w.1 c) (
          use-36 T Q top p₁ d (expr_wire M e c) (omega arith) k,
          (use-37 T Q top (p₁ + 1) d (expr_wire M e c) (omega arith) k, (or-good T Q top (p₁ + 1 + 1) s (p₁ + 1), a.1)),
        ),
      )
  good-cells (loop δ P) w v z s d c l hd hw hs h =
      let exits = ors 35 (exits_at P c) (loop_exits P d c) in
      let ra = split O (c + 1) (walk_count P) (walk M F P c (d + 1) (c + 1)) exits (w-len M F P c (d + 1) (c + 1)) hw.1 in
      let rs = split S (c + 1) (walk_count P) (walk M F P c (d + 1) (c + 1)) exits (w-len M F P c (d + 1) (c + 1)) hs.1 in
      let a = good-cells P w.1 v.1 z c (d + 1) (c + 1) (omega arith) hd.1 ra.0 rs.0 h.1 in (
        (delay-good T Q top d δ (finish_wire P c (d + 1) (c + 1)), a.0),
        (
          or-good T Q top c s d,
          join G (c + 1) (walk_count P) (walk M F P c (d + 1) (c + 1)) exits (w-len M F P c (d + 1) (c + 1)) a.1
              (ors-good T Q top 35 (or-kind T Q top) (exits_at P c) (loop_exits P d c)),
        ),
      )
  good-cells exit w v z s d c l hd hw hs h = (tt, tt)
  good-cells (call δ p) w v z s d c l hd hw hs h = (
    (delay-good T Q top d δ s, tt),
    (other T Q top c (cell 39 0 d (F p)) (refl, λ e. omega arith, λ e. omega arith, λ e. omega arith, λ e. omega arith), tt),
  )
