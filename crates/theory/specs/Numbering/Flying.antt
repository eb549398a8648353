-- What is known of every delay and every merge of a program's circuit is known of every cell of kind 34, 38 and 39 of its netlist, and the reverse.
-- Assumes nothing.
use Rattle.std.specs.Prelude.{◌≡◌, false, ◌||◌, ◌↔◌}
use Rattle.std.proofs.Math.Path.{refl, subst}
use Rattle.std.proofs.Common.{sym}
use mathlib.Core.List.{List, [], ◌∷◌, ◌++◌}
use Prim.Native.Nat.{ℕ, zero, suc, ◌+◌, ◌<◌}
use native.Mathlib.Omega.{arith}
use Rattle.model.specs.declared.Cell.{Cell}
use Rattle.model.specs.Program.{array_var, Expr, const, var, compl, op, elem, Code, ok, tick, assign, assign_elem, seq, par, ite, while, repeat, loop, exit, call}
use Rattle.model.specs.Circuit.{cell, Sig, Values, Elements, level, delayed}
use Rattle.model.specs.Numbering.{Wires, expr_count, expr_wire, expr_cells, if_delay_count, if_pulse, if_delay_cells, delay_count, walk_count, exits_at, finish_wire, loop_exits, delays, walk, clock_sources, data_sources, address_sources, call_sources}
use Rattle.model.specs.Numbering.{Source, wires_of, or_chain, ors, or_count, ors_from, memories_of, arrays_of}
use Rattle.laws.specs.Program.Fit.{FormedExpr, Formed, Earlier}
use Rattle.laws.specs.Numbering.Cells.{cell_val, All, Rule, Obeyed, split, join}
use Rattle.laws.specs.Numbering.Lengths.{e-len, own-len, d-len, w-len, ors-len}
use Rattle.theory.specs.Control.Wiring.{ideal, Circuit, Known, Each}
use Rattle.theory.specs.Numbering.Levels.{level-of, any_high, all_or, gives_at}
use Rattle.theory.specs.Numbering.Structure.{ShowsElements, struct}

-- C of every delay and its input, H of a parallel's merge and its two inputs, A of a call's
abbrev pub of_cells : (ℕ → Sig → Type 0) → (Sig → Sig → Type 0) → (Sig → Sig → Type 0) → Known
of_cells C H A = record { delay = C; merge = H; answer = A; line = λ d s. Unit {0}; word = λ d e s. Unit {0} }

pub record OfCell (C : ℕ → Sig → Type 0) (H A : Sig → Sig → Type 0) (W : Values) (k : ℕ) (c : Cell) : Type 0 where
  pub delay : c.kind ≡ 34 → C c.delay (level W c.a)
  pub merge : c.kind ≡ 38 → H (level W c.a) (level W c.b)
  pub answer : c.kind ≡ 39 → A (level W c.a) (level W c.b)

-- a kind that is none of them
abbrev pub Other : ℕ → Type 0
Other k = (k ≡ 34 → ⊥) × (k ≡ 38 → ⊥) × (k ≡ 39 → ⊥)

-- what holds of every such cell holds of an expression's
module _ (R : ℕ → Cell → Type 0) (other : (k : ℕ) (c : Cell) → Other c.kind → R k c) where
  pub exprs : (M : Wires) (e : Expr) → FormedExpr e → (c : ℕ) → All R c (expr_cells M e c)
  unfolding expr_cells expr_count
  exprs M (const n) w c = (other c (cell 1 0 n 0) (λ e. omega arith, λ e. omega arith, λ e. omega arith), tt)
  exprs M (var x) w c = tt
  exprs M (compl e) w c =
      join R c (expr_count e) (expr_cells M e c) (cell 3 0 (expr_wire M e c) 0 ∷ []) (e-len M e c) (exprs M e w c)
      (other _ (cell 3 0 (expr_wire M e c) 0) (λ e. omega arith, λ e. omega arith, λ e. omega arith), tt)
  exprs M (op k e f) w c =
      let last = cell k 0 (expr_wire M e c) (expr_wire M f (c + expr_count e)) in
      join R c (expr_count e) (expr_cells M e c) (expr_cells M f (c + expr_count e) ++ (last ∷ [])) (e-len M e c) (exprs M e w.2 c)
      (join R (c + expr_count e) (expr_count f) (expr_cells M f (c + expr_count e)) (last ∷ []) (e-len M f (c + expr_count e)) (exprs M f w.3 (c + expr_count e))
      (other _ last (λ z. omega (arith, w.1), λ z. omega (arith, w.1), λ z. omega (arith, w.1)), tt))
  exprs M (elem k e) w c =
      join R c (expr_count e) (expr_cells M e c) (cell 44 0 (M (array_var k)) (expr_wire M e c) ∷ []) (e-len M e c) (exprs M e w.1 c)
      (other _ (cell 44 0 (M (array_var k)) (expr_wire M e c)) (λ e. omega arith, λ e. omega arith, λ e. omega arith), tt)

module _ (C : ℕ → Sig → Type 0) (H A : Sig → Sig → Type 0) (W : Values) where
  abbrev pub R : ℕ → Cell → Type 0
  R = OfCell C H A W

  pub other : (k : ℕ) (c : Cell) → Other c.kind → R k c
  other k c o = record { delay = λ e. absurd (o.0 e); merge = λ e. absurd (o.1 e); answer = λ e. absurd (o.2 e) }

  delay-cell : (k δ a : ℕ) → C δ (level W a) → R k (cell 34 δ a 0)
  delay-cell k δ a h = record { delay = λ e. h; merge = λ e. absurd (omega arith); answer = λ e. absurd (omega arith) }

  merge-cell : (k a b : ℕ) → H (level W a) (level W b) → R k (cell 38 0 a b)
  merge-cell k a b h = record { delay = λ e. absurd (omega arith); merge = λ e. h; answer = λ e. absurd (omega arith) }

  call-cell : (k a b : ℕ) → A (level W a) (level W b) → R k (cell 39 0 a b)
  call-cell k a b h = record { delay = λ e. absurd (omega arith); merge = λ e. absurd (omega arith); answer = λ e. h }

  -- Cells that are neither ----------------------------------------------------------------------------------------------------------------

  module _ (kind : ℕ) (p : Other kind) where
    chain-cells : (acc n : ℕ) (ws : List ℕ) → All R n (or_chain kind acc n ws)
    unfolding or_chain
    chain-cells acc n [] = tt
    chain-cells acc n (w ∷ ws) = (other n (cell kind 0 acc w) p, chain-cells n (n + 1) ws)

    pub ors-cells : (n : ℕ) (ws : List ℕ) → All R n (ors kind n ws)
    unfolding ors
    ors-cells n [] = tt
    ors-cells n (w ∷ ws) = chain-cells w n ws

    pub ors_from-cells : (ws : List Source) (n x j : ℕ) → All R n (ors_from kind ws n x j)
    unfolding ors_from
    ors_from-cells ws n x zero = tt
    ors_from-cells ws n x (suc j) =
        join R n (or_count (wires_of x ws)) (ors kind n (wires_of x ws)) (ors_from kind ws (n + or_count (wires_of x ws)) (x + 1) j)
        (ors-len kind n (wires_of x ws)) (ors-cells n (wires_of x ws)) (ors_from-cells ws (n + or_count (wires_of x ws)) (x + 1) j)

  pub memory-cells : (k : ℕ) (ks ds : List ℕ) (x n : ℕ) → All R k (memories_of ks ds x n)
  unfolding memories_of
  memory-cells k ks ds x zero = tt
  memory-cells k ks ds x (suc n) = (other k _ (λ e. omega arith, λ e. omega arith, λ e. omega arith), memory-cells (k + 1) ks ds (x + 1) n)

  pub array-cells : (k : ℕ) (ks ds js : List ℕ) (v n : ℕ) → All R k (arrays_of ks ds js v n)
  unfolding arrays_of
  array-cells k ks ds js v zero = tt
  array-cells k ks ds js v (suc n) =
      (other k _ (λ e. omega arith, λ e. omega arith, λ e. omega arith), (other (k + 1) _ (λ e. omega arith, λ e. omega arith, λ e. omega arith), array-cells (k + 1 + 1) ks ds js (v + 1) n))

  -- A statement's cells -------------------------------------------------------------------------------------------------------------------

  module _ (none : (s : Sig) → C 0 s) (pulse : ℕ) (starts : Sig) (first : ℕ → ℕ) (E : Elements) (M : Wires) (m : ℕ → ℕ → ℕ)
      (shows : (x t : ℕ) → x < 16 → m t x ≡ W (M x) t) (elements : ShowsElements pulse starts first E W M m shows)
      (ground : (t : ℕ) → level W 1 t ≡ false) (F : ℕ → ℕ) (ret : ℕ → Sig) (r : ℕ) (fin : (p t : ℕ) → p < r → level W (F p) t ≡ ret p t) where
    abbrev pub Of : (P : Code) → Formed P → Earlier r P → (s d c : ℕ) → Obeyed pulse starts first E W d (delays pulse P s d c)
        → Obeyed pulse starts first E W c (walk M F P s d c) → Type 0
    Of P w v s d c hd hw =
        Each (of_cells C H A) pulse (ideal m) ret P (level W s) (level W (finish_wire P s d c)) (gives_at W P s d c)
        (struct pulse starts first E W M m shows elements ground F ret r fin P w v s d c hd hw)

    own-to : (δ s d : ℕ) → C δ (level W s) → All R d (if_delay_cells δ s)
    unfolding if_delay_cells
    own-to zero s d h = tt
    own-to (suc δ) s d h = (delay-cell d (suc δ) s h, tt)

    own-from : (δ s d : ℕ) → All R d (if_delay_cells δ s) → C δ (level W s)
    unfolding if_delay_cells
    own-from zero s d h = none (level W s)
    own-from (suc δ) s d h = h.0.delay refl

    -- of each delay and merge of a statement, and of each of its cells
    pub of-cells : (P : Code) (w : Formed P) (v : Earlier r P) (s d c : ℕ) (hd : Obeyed pulse starts first E W d (delays pulse P s d c)) (hw : Obeyed pulse starts first E W c (walk M F P s d c))
        → Of P w v s d c hd hw ↔ (All R d (delays pulse P s d c) × All R c (walk M F P s d c))
    unfolding Each Circuit struct delays walk finish_wire clock_sources data_sources address_sources call_sources cell_val delay_count walk_count any_high all_or wires_of
    of-cells ok w v s d c hd hw = (λ h. (tt, tt), λ k. tt)
    of-cells (tick δ) w v s d c hd hw = (λ h. ((delay-cell d δ s h.0, tt), tt), λ k. (k.0.0.delay refl, tt))
    of-cells (assign δ x e) w v s d c hd hw =
        let D : level W d ≡ delayed δ (level W s) = λ i t. level-of (delayed δ (level W s) t) (hd.0 t) i in
        let o = cell 41 0 d (expr_wire M e c) in (
          (λ h. (
            (delay-cell d δ s h.0.0, (delay-cell (d + 1) pulse d (subst (λ (y : Sig). C pulse y) (sym D) h.1.0), tt)),
            join R c (expr_count e) (expr_cells M e c) (o ∷ []) (e-len M e c) (exprs R other M e w.2 c) (other _ o (λ z. omega arith, λ z. omega arith, λ z. omega arith), tt),
          )),
          (λ k. ((k.0.0.delay refl, tt, tt), (subst (λ (y : Sig). C pulse y) D (k.0.1.0.delay refl), tt))),
        )
    of-cells (assign_elem δ j i e) w v s d c hd hw =
        let D : level W d ≡ delayed δ (level W s) = λ y t. level-of (delayed δ (level W s) t) (hd.0 t) y in
        let ce = c + expr_count i in
        let o = cell 41 0 d (expr_wire M e ce) in
        let o' = cell 41 0 d (expr_wire M i c) in (
          (λ h. (
            (delay-cell d δ s h.0.0.0, (delay-cell (d + 1) pulse d (subst (λ (y : Sig). C pulse y) (sym D) h.0.1.0), tt)),
            join R c (expr_count i) (expr_cells M i c) (expr_cells M e ce ++ (o ∷ (o' ∷ []))) (e-len M i c) (exprs R other M i w.2 c)
                (join R ce (expr_count e) (expr_cells M e ce) (o ∷ (o' ∷ [])) (e-len M e ce) (exprs R other M e w.3 ce)
                (other _ o (λ z. omega arith, λ z. omega arith, λ z. omega arith), (other _ o' (λ z. omega arith, λ z. omega arith, λ z. omega arith), tt))),
          )),
          (λ k. (((k.0.0.delay refl, tt, tt), (subst (λ (y : Sig). C pulse y) D (k.0.1.0.delay refl), tt)), tt)),
        )
    of-cells (seq P Q) w v s d c hd hw =
        let g = finish_wire P s d c in
        let dQ = delays pulse Q g (d + delay_count P) (c + walk_count P) in
        let wQ = walk M F Q g (d + delay_count P) (c + walk_count P) in
        let rd = split (Rule pulse starts first E W) d (delay_count P) (delays pulse P s d c) dQ (d-len pulse P s d c) hd in
        let rc = split (Rule pulse starts first E W) c (walk_count P) (walk M F P s d c) wQ (w-len M F P s d c) hw in
        let p = of-cells P w.0 v.0 s d c rd.0 rc.0 in
        let q = of-cells Q w.1 v.1 g (d + delay_count P) (c + walk_count P) rd.1 rc.1 in (
          (λ h.
              let a = p.0 h.0 in
              let b = q.0 h.1 in (
                join R d (delay_count P) (delays pulse P s d c) dQ (d-len pulse P s d c) a.0 b.0,
                join R c (walk_count P) (walk M F P s d c) wQ (w-len M F P s d c) a.1 b.1,
              )),
          (λ k.
              let x = split R d (delay_count P) (delays pulse P s d c) dQ (d-len pulse P s d c) k.0 in
              let y = split R c (walk_count P) (walk M F P s d c) wQ (w-len M F P s d c) k.1 in
              (p.1 (x.0, y.0), q.1 (x.1, y.1))),
        )
    of-cells (par P Q) w v s d c hd hw =
        let f = finish_wire P s d c in
        let g = finish_wire Q s (d + delay_count P) (c + walk_count P) in
        let dQ = delays pulse Q s (d + delay_count P) (c + walk_count P) in
        let wQ = walk M F Q s (d + delay_count P) (c + walk_count P) in
        let o = cell 38 0 f g in
        let lQ = w-len M F Q s (d + delay_count P) (c + walk_count P) in
        let rd = split (Rule pulse starts first E W) d (delay_count P) (delays pulse P s d c) dQ (d-len pulse P s d c) hd in
        let rc = split (Rule pulse starts first E W) c (walk_count P) (walk M F P s d c) (wQ ++ (o ∷ [])) (w-len M F P s d c) hw in
        let rm = split (Rule pulse starts first E W) (c + walk_count P) (walk_count Q) wQ (o ∷ []) lQ rc.1 in
        let p = of-cells P w.0 v.0 s d c rd.0 rc.0 in
        let q = of-cells Q w.1 v.1 s (d + delay_count P) (c + walk_count P) rd.1 rm.0 in (
          (λ h.
              let a = p.0 h.1 in
              let b = q.0 h.2 in (
                join R d (delay_count P) (delays pulse P s d c) dQ (d-len pulse P s d c) a.0 b.0,
                join R c (walk_count P) (walk M F P s d c) (wQ ++ (o ∷ [])) (w-len M F P s d c) a.1
                    (join R (c + walk_count P) (walk_count Q) wQ (o ∷ []) lQ b.1 (merge-cell _ f g h.0, tt)),
              )),
          (λ k.
              let x = split R d (delay_count P) (delays pulse P s d c) dQ (d-len pulse P s d c) k.0 in
              let y = split R c (walk_count P) (walk M F P s d c) (wQ ++ (o ∷ [])) (w-len M F P s d c) k.1 in
              let z = split R (c + walk_count P) (walk_count Q) wQ (o ∷ []) lQ y.1 in
              (z.1.0.merge refl, p.1 (x.0, y.0), q.1 (x.1, z.0))),
        )
    of-cells (ite δ e P Q) w v s d c hd hw =
        let p₁ = c + expr_count e in
        let dP = d + if_delay_count δ in
        let cP = p₁ + 1 + 1 in
        let f = finish_wire P p₁ dP cP in
        let g = finish_wire Q (p₁ + 1) (dP + delay_count P) (cP + walk_count P) in
        let dQ = delays pulse Q (p₁ + 1) (dP + delay_count P) (cP + walk_count P) in
        let wQ = walk M F Q (p₁ + 1) (dP + delay_count P) (cP + walk_count P) in
        let lQ = w-len M F Q (p₁ + 1) (dP + delay_count P) (cP + walk_count P) in
        let o5 = cell 35 0 f g in
        let o6 = cell 36 0 (if_pulse δ s d) (expr_wire M e c) in
        let o7 = cell 37 0 (if_pulse δ s d) (expr_wire M e c) in
        let tail = wQ ++ (o5 ∷ []) in
        let rest = o6 ∷ (o7 ∷ (walk M F P p₁ dP cP ++ tail)) in
        let ro = split (Rule pulse starts first E W) d (if_delay_count δ) (if_delay_cells δ s) (delays pulse P p₁ dP cP ++ dQ) (own-len δ s) hd in
        let rd = split (Rule pulse starts first E W) dP (delay_count P) (delays pulse P p₁ dP cP) dQ (d-len pulse P p₁ dP cP) ro.1 in
        let re = split (Rule pulse starts first E W) c (expr_count e) (expr_cells M e c) rest (e-len M e c) hw in
        let rP = split (Rule pulse starts first E W) cP (walk_count P) (walk M F P p₁ dP cP) tail (w-len M F P p₁ dP cP) re.1.1.1 in
        let rQ = split (Rule pulse starts first E W) (cP + walk_count P) (walk_count Q) wQ (o5 ∷ []) lQ rP.1 in
        let p = of-cells P w.2 v.2 p₁ dP cP rd.0 rP.0 in
        let q = of-cells Q w.3 v.3 (p₁ + 1) (dP + delay_count P) (cP + walk_count P) rd.1 rQ.0 in (
          (λ h.
              let a = p.0 h.1 in
              let b = q.0 h.2 in (
                join R d (if_delay_count δ) (if_delay_cells δ s) (delays pulse P p₁ dP cP ++ dQ) (own-len δ s) (own-to δ s d h.0.0)
                    (join R dP (delay_count P) (delays pulse P p₁ dP cP) dQ (d-len pulse P p₁ dP cP) a.0 b.0),
                join R c (expr_count e) (expr_cells M e c) rest (e-len M e c) (exprs R other M e w.1 c) (
                  other _ o6 (λ z. omega arith, λ z. omega arith, λ z. omega arith),
                  (
                    other _ o7 (λ z. omega arith, λ z. omega arith, λ z. omega arith),
                    join R cP (walk_count P) (walk M F P p₁ dP cP) tail (w-len M F P p₁ dP cP) a.1
                        (join R (cP + walk_count P) (walk_count Q) wQ (o5 ∷ []) lQ b.1 (other _ o5 (λ z. omega arith, λ z. omega arith, λ z. omega arith), tt)),
                  ),
                ),
              )),
          (λ k.
              let xo = split R d (if_delay_count δ) (if_delay_cells δ s) (delays pulse P p₁ dP cP ++ dQ) (own-len δ s) k.0 in
              let xd = split R dP (delay_count P) (delays pulse P p₁ dP cP) dQ (d-len pulse P p₁ dP cP) xo.1 in
              let ye = split R c (expr_count e) (expr_cells M e c) rest (e-len M e c) k.1 in
              let yP = split R cP (walk_count P) (walk M F P p₁ dP cP) tail (w-len M F P p₁ dP cP) ye.1.1.1 in
              let yQ = split R (cP + walk_count P) (walk_count Q) wQ (o5 ∷ []) lQ yP.1 in
              ((own-from δ s d xo.0, tt, tt), p.1 (xd.0, yP.0), q.1 (xd.1, yQ.0))),
        )
    of-cells (while δ e P) w v s d c hd hw =
        let p₁ = c + expr_count e in
        let cP = p₁ + 1 + 1 in
        let f = finish_wire P p₁ (d + 1) cP in
        let o5 = cell 35 0 s f in
        let o6 = cell 36 0 d (expr_wire M e c) in
        let o7 = cell 37 0 d (expr_wire M e c) in
        let rest = o6 ∷ (o7 ∷ (walk M F P p₁ (d + 1) cP ++ (o5 ∷ []))) in
        let re = split (Rule pulse starts first E W) c (expr_count e) (expr_cells M e c) rest (e-len M e c) hw in
        let rP = split (Rule pulse starts first E W) cP (walk_count P) (walk M F P p₁ (d + 1) cP) (o5 ∷ []) (w-len M F P p₁ (d + 1) cP) re.1.1.1 in
        let D : level W (cP + walk_count P) ≡ (λ u. level W s u || level W f u) = λ i u. level-of (level W s u || level W f u) (rP.1.0 u) i in
        let p = of-cells P w.2 v.2 p₁ (d + 1) cP hd.1 rP.0 in (
          (λ h.
              let a = p.0 h.1 in (
                (delay-cell d δ (cP + walk_count P) (subst (λ (y : Sig). C δ y) (sym D) h.0.0), a.0),
                join R c (expr_count e) (expr_cells M e c) rest (e-len M e c) (exprs R other M e w.1 c) (
                  other _ o6 (λ z. omega arith, λ z. omega arith, λ z. omega arith),
                  (
                    other _ o7 (λ z. omega arith, λ z. omega arith, λ z. omega arith),
                    join R cP (walk_count P) (walk M F P p₁ (d + 1) cP) (o5 ∷ []) (w-len M F P p₁ (d + 1) cP) a.1 (other _ o5 (λ z. omega arith, λ z. omega arith, λ z. omega arith), tt),
                  ),
                ),
              )),
          (λ k.
              let ye = split R c (expr_count e) (expr_cells M e c) rest (e-len M e c) k.1 in
              let yP = split R cP (walk_count P) (walk M F P p₁ (d + 1) cP) (o5 ∷ []) (w-len M F P p₁ (d + 1) cP) ye.1.1.1 in
              ((subst (λ (y : Sig). C δ y) D (k.0.0.delay refl), tt, tt), p.1 (k.0.1, yP.0))),
        )
    of-cells (repeat δ e P) w v s d c hd hw =
        let p₁ = c + expr_count e in
        let cP = p₁ + 1 + 1 + 1 in
        let o5 = cell 35 0 s (p₁ + 1) in
        let o6 = cell 36 0 d (expr_wire M e c) in
        let o7 = cell 37 0 d (expr_wire M e c) in
        let rest = o6 ∷ (o7 ∷ (o5 ∷ walk M F P (p₁ + 1 + 1) (d + 1) cP)) in
        let re = split (Rule pulse starts first E W) c (expr_count e) (expr_cells M e c) rest (e-len M e c) hw in
        let p = of-cells P w.2 v.2 (p₁ + 1 + 1) (d + 1) cP hd.1 re.1.1.1.1 in (
          (λ h.
              let a = p.0 h.1 in (
                (delay-cell d δ (finish_wire P (p₁ + 1 + 1) (d + 1) cP) h.0.0, a.0),
                join R c (expr_count e) (expr_cells M e c) rest (e-len M e c) (exprs R other M e w.1 c) (
                  other _ o6 (λ z. omega arith, λ z. omega arith, λ z. omega arith),
                  (other _ o7 (λ z. omega arith, λ z. omega arith, λ z. omega arith), (other _ o5 (λ z. omega arith, λ z. omega arith, λ z. omega arith), a.1)),
                ),
              )),
          (λ k.
              let ye = split R c (expr_count e) (expr_cells M e c) rest (e-len M e c) k.1 in
              ((k.0.0.delay refl, tt, tt), p.1 (k.0.1, ye.1.1.1.1))),
        )
    of-cells (loop δ P) w v s d c hd hw =
        let exits = ors 35 (exits_at P c) (loop_exits P d c) in
        let r = split (Rule pulse starts first E W) (c + 1) (walk_count P) (walk M F P c (d + 1) (c + 1)) exits (w-len M F P c (d + 1) (c + 1)) hw.1 in
        let p = of-cells P w.1 v.1 c (d + 1) (c + 1) hd.1 r.0 in (
          (λ h.
              let a = p.0 h.1 in (
                (delay-cell d δ (finish_wire P c (d + 1) (c + 1)) h.0.0, a.0),
                (
                  other c (cell 35 0 s d) (λ z. omega arith, λ z. omega arith, λ z. omega arith),
                  join R (c + 1) (walk_count P) (walk M F P c (d + 1) (c + 1)) exits (w-len M F P c (d + 1) (c + 1)) a.1
                      (ors-cells 35 (λ z. omega arith, λ z. omega arith, λ z. omega arith) (exits_at P c) (loop_exits P d c)),
                ),
              )),
          (λ k.
              let y = split R (c + 1) (walk_count P) (walk M F P c (d + 1) (c + 1)) exits (w-len M F P c (d + 1) (c + 1)) k.1.1 in
              ((k.0.0.delay refl, tt), p.1 (k.0.1, y.0))),
        )
    of-cells exit w v s d c hd hw = (λ h. (tt, tt), λ k. tt)
    of-cells (call δ p) w v s d c hd hw =
        let D : level W d ≡ delayed δ (level W s) = λ i t. level-of (delayed δ (level W s) t) (hd.0 t) i in
        let B : level W (F p) ≡ ret p = λ i t. fin p t v.1 i in (
          (λ h. (
            (delay-cell d δ s h.0.0, tt),
            (call-cell c d (F p) (subst (λ (y : Sig). A (level W d) y) (sym B) (subst (λ (x : Sig). A x (ret p)) (sym D) h.1)), tt),
          )),
          (λ k. (
            (k.0.0.delay refl, tt),
            subst (λ (x : Sig). A x (ret p)) D (subst (λ (y : Sig). A (level W d) y) B (k.1.0.answer refl)),
          )),
        )
