-- The rules of a cell, sorts of wires included, and that each cell of a compiled netlist keeps them; a statement's finish and the starts of its
-- exits are control wires below its end.
use Rattle.std.specs.Prelude.{◌≡◌, Bool, true, false, ◌⊎◌, length}
use Rattle.std.proofs.Math.Path.{refl}
use Rattle.std.proofs.Common.{ap, ne_eqb, lt-ltb, le-ltb, ⊎_elim}
use Rattle.std.proofs.Math.Logic.{inl, inr}
use mathlib.Core.List.{List, [], ◌∷◌, ◌++◌}
use Prim.Native.Nat.{ℕ, zero, suc, ◌+◌, ◌-◌, ◌<◌, ◌≤◌}
use native.Mathlib.Omega.{arith}
use Rattle.model.specs.Program.{Expr, const, var, compl, op, elem, Code, ok, tick, assign, assign_elem, seq, par, ite, while, repeat, loop, exit, call, array_var}
use Rattle.model.specs.declared.Cell.{Cell}
use Rattle.model.specs.Circuit.{cell}
use Rattle.model.specs.Numbering.{Wires, array_cell, memory_wires, expr_count, expr_wire, expr_cells, if_delay_count, if_pulse, if_delay_cells, or_chain, or_chain_out, ors, ors_out, or_count, delay_count, exit_count, walk_count, exits_at, finish_wire, exit_wires, delays, walk}
use Rattle.model.specs.Circuit.{control, Shape, cell_table, shape, cell_row}
use Rattle.model.specs.NetlistFile.{of_array, stands}
use Rattle.laws.specs.Numbering.Cells.{All, split, join}
use Rattle.laws.specs.Circuit.Ordered.{word, In, Looks}
use Rattle.laws.specs.Circuit.Shapes.{operator-shape}
use Rattle.laws.specs.Numbering.Lengths.{e-len, d-len, w-len, own-len, exit-ors}
use Rattle.laws.specs.Program.Fit.{FormedExpr, Formed, BasicExpr, Low, Earlier}

-- cell k of n, which is c, keeps the rules of its kind
abbrev pub Ok : (ℕ → ℕ) → ℕ → ℕ → Cell → Type 0
Ok K n k c = (stands c.kind k ≡ true) × Looks (cell_row c.kind) K n k c

-- a run of cells has the kinds that K says
abbrev pub HasKind : (ℕ → ℕ) → ℕ → Cell → Type 0
HasKind K k c = K k ≡ c.kind

op-word : (k : ℕ) → 4 ≤ k → k ≤ 9 → word k ≡ true
unfolding word of_array cell_table
op-word k h h' =
    let c : (cell_row k).control ≡ false = ap (λ (sh : Shape). (cell_table sh).row.control) (operator-shape k h h') in
    rw (c, ne_eqb k 42 (λ e. omega arith), ne_eqb k 43 (λ e. omega arith)) refl

op_ok : (K : ℕ → ℕ) (n k i a b : ℕ) → 4 ≤ k → k ≤ 9 → In word K i a → In word K i b → Ok K n i (cell k 0 a b)
unfolding stands cell_table
op_ok K n k i a b h h' p q =
    (rw (ne_eqb k 32 (λ e. omega arith), ne_eqb k 33 (λ e. omega arith)) refl, rw (cell_row, operator-shape k h h') (refl, p, q))

-- Q holds of each wire
abbrev pub Every : (ℕ → Type 0) → List ℕ → Type 0
Every Q [] = Unit {0}
Every Q (w ∷ ws) = Q w × Every Q ws

every_append : (Q : ℕ → Type 0) (us vs : List ℕ) → Every Q us → Every Q vs → Every Q (us ++ vs)
every_append Q [] vs h h' = h'
every_append Q (u ∷ us) vs h h' = (h.0, every_append Q us vs h.1 h')

-- wires below a are below b
widen : (K : ℕ → ℕ) (a b : ℕ) → a ≤ b → (ws : List ℕ) → Every (In control K a) ws → Every (In control K b) ws
widen K a b o [] h = tt
widen K a b o (w ∷ ws) h = ((omega arith, h.0.1), widen K a b o ws h.1)

-- ors of a kind over wires of a sort, all of them below lim
module _ (K : ℕ → ℕ) (n kind : ℕ) (sort : ℕ → Bool) (this : sort kind ≡ true)
    (mk : (k a b : ℕ) → In sort K k a → In sort K k b → Ok K n k (cell kind 0 a b)) (lim : ℕ) where
  chain-ok : (acc c : ℕ) (ws : List ℕ) → lim ≤ c → In sort K c acc → Every (In sort K lim) ws → All (HasKind K) c (or_chain kind acc c ws)
      → All (Ok K n) c (or_chain kind acc c ws) × In sort K (c + length ws) (or_chain_out acc c ws)
  unfolding or_chain or_chain_out
  chain-ok acc c [] l i e h = (tt, (omega arith, i.1))
  chain-ok acc c (w ∷ ws) l i e h =
      let r = chain-ok c (c + 1) ws (omega arith) (omega arith, rw h.0 this) e.1 h.1 in
      ((mk c acc w i (omega arith, e.0.1), r.0), (omega arith, r.1.1))

  pub ors-ok : (zip c : ℕ) (ws : List ℕ) → lim ≤ c → In sort K lim zip → Every (In sort K lim) ws → All (HasKind K) c (ors kind c ws)
      → All (Ok K n) c (ors kind c ws) × In sort K (c + or_count ws) (ors_out zip c ws)
  unfolding ors ors_out or_count
  ors-ok zip c [] l z e h = (tt, (omega arith, z.1))
  ors-ok zip c (w ∷ ws) l z e h = chain-ok w c ws l (omega arith, e.0.1) e.1 h

-- the wires of memories and arrays
pub memory-wire : (M x : ℕ) → x < 16 → memory_wires M x ≡ M + x
unfolding memory_wires
memory-wire M x l = rw (lt-ltb x 16 l)

pub array-wire : (M k : ℕ) → memory_wires M (array_var k) ≡ array_cell M k
unfolding memory_wires
array-wire M k = let e : 16 + k - 16 ≡ k = omega arith in rw (le-ltb (16 + k) 16 (omega arith), e)

-- wires below top that bring the words of the sixteen variables, and the arrays' cells below top
abbrev pub Brings : (ℕ → ℕ) → ℕ → Wires → Type 0
Brings K top ws = (x : ℕ) → x < 16 → In word K top (ws x)

abbrev pub Arrays : (ℕ → ℕ) → ℕ → Wires → Type 0
Arrays K top ws = (k : ℕ) → k < 4 → (ws (array_var k) < top) × (K (ws (array_var k)) ≡ 42)

-- an expression's cells, and its wire; one that reads no array needs none
module _ (K : ℕ → ℕ) (n : ℕ) (M : Wires) (top : ℕ) (words : Brings K top M) where
  pub e-ok : (e : Expr) → FormedExpr e → BasicExpr e ⊎ Arrays K top M → (c : ℕ) → top ≤ c → All (HasKind K) c (expr_cells M e c)
      → All (Ok K n) c (expr_cells M e c) × In word K (c + expr_count e) (expr_wire M e c)
  unfolding expr_cells expr_wire expr_count shape cell_table stands word of_array
  e-ok (const v) w b c l h = (((refl, (refl, tt, refl)), tt), (omega arith, rw h.0))
  e-ok (var x) w b c l h = let i = words x w in (tt, (omega (arith, i.0), i.1))
  e-ok (compl e) w b c l h =
      let r = split (HasKind K) c (expr_count e) (expr_cells M e c) (cell 3 0 (expr_wire M e c) 0 ∷ []) (e-len M e c) h in
      let i = e-ok e w b c l r.0 in (
        join (Ok K n) c (expr_count e) (expr_cells M e c) (cell 3 0 (expr_wire M e c) 0 ∷ []) (e-len M e c) i.0 ((refl, (refl, i.1, refl)), tt),
        (omega arith, rw r.1.0),
      )
  e-ok (op k e f) w b c l h =
      let cf = c + expr_count e in
      let o = cell k 0 (expr_wire M e c) (expr_wire M f cf) in
      let r = split (HasKind K) c (expr_count e) (expr_cells M e c) (expr_cells M f cf ++ (o ∷ [])) (e-len M e c) h in
      let q = split (HasKind K) cf (expr_count f) (expr_cells M f cf) (o ∷ []) (e-len M f cf) r.1 in
      let i = e-ok e w.2 (⊎_elim (λ z. inl z.0) inr b) c l r.0 in
      let j = e-ok f w.3 (⊎_elim (λ z. inl z.1) inr b) cf (omega arith) q.0 in
      let this : Ok K n (cf + expr_count f) o = op_ok K n k (cf + expr_count f) (expr_wire M e c) (expr_wire M f cf) w.0 w.1 (omega arith, i.1.1) j.1 in (
        join (Ok K n) c (expr_count e) (expr_cells M e c) (expr_cells M f cf ++ (o ∷ [])) (e-len M e c) i.0
            (join (Ok K n) cf (expr_count f) (expr_cells M f cf) (o ∷ []) (e-len M f cf) j.0 (this, tt)),
        (omega arith, rw q.1.0 (op-word k w.0 w.1)),
      )
  e-ok (elem k e) w (inl b) c l h = absurd b
  e-ok (elem k e) w (inr b) c l h =
      let o = cell 44 0 (M (array_var k)) (expr_wire M e c) in
      let r = split (HasKind K) c (expr_count e) (expr_cells M e c) (o ∷ []) (e-len M e c) h in
      let i = e-ok e w.1 (inr b) c l r.0 in
      let a = b k w.0 in (
        join (Ok K n) c (expr_count e) (expr_cells M e c) (o ∷ []) (e-len M e c) i.0 ((refl, (refl, (omega (arith, a.0), rw a.1), i.1)), tt),
        (omega arith, rw r.1.0),
      )

module _ (K : ℕ → ℕ) (n : ℕ) where
  pub pulse-ok : (δ s d c : ℕ) → δ ≤ 255 → In control K c s → d + if_delay_count δ ≤ c → c ≤ n → All (HasKind K) d (if_delay_cells δ s)
      → All (Ok K n) d (if_delay_cells δ s) × In control K c (if_pulse δ s d)
  unfolding if_delay_cells if_delay_count if_pulse shape cell_table stands control
  pulse-ok zero s d c z i l l' h = (tt, i)
  pulse-ok (suc δ) s d c z i l l' h = (((refl, ((omega arith, z), (omega arith, i.1), refl)), tt), (omega arith, rw h.0))

  -- a statement's cells, its finish and the starts of its exits, with pulses of w; F p is the finish of body p, and it calls the bodies below r
  module _ (M : Wires) (top : ℕ) (words : Brings K top M) (arrays : Arrays K top M) (ground : K 1 ≡ 33) (two : 2 ≤ top) (w : ℕ) (pos : 1 ≤ w) (low : w ≤ 255) (F : ℕ → ℕ)
      (r : ℕ) (fin : (p : ℕ) → p < r → In control K top (F p)) where
    pub p-ok : (P : Code) → Formed P → Low P → Earlier r P → (s d c : ℕ) → In control K c s → top ≤ c → d + delay_count P ≤ c → c + walk_count P ≤ n
        → All (HasKind K) d (delays w P s d c) → All (HasKind K) c (walk M F P s d c)
        → All (Ok K n) d (delays w P s d c) × All (Ok K n) c (walk M F P s d c) × In control K (c + walk_count P) (finish_wire P s d c)
        × Every (In control K (c + walk_count P)) (exit_wires P s d c)
    unfolding delays walk finish_wire exit_wires delay_count walk_count shape cell_table stands control
    p-ok ok well z v s d c i lM ld lc hd hw = (tt, tt, (omega arith, i.1), tt)
    p-ok (tick δ) well z v s d c i lM ld lc hd hw = (((refl, ((z.0, z.1), (omega arith, i.1), refl)), tt), tt, (omega arith, rw hd.0), tt)
    p-ok (assign δ x e) well z v s d c i lM ld lc hd hw =
        let o = cell 41 0 d (expr_wire M e c) in
        let r = split (HasKind K) c (expr_count e) (expr_cells M e c) (o ∷ []) (e-len M e c) hw in
        let ie = e-ok K n M top words e well.2 (inr arrays) c lM r.0 in (
          ((refl, ((z.0.0, z.0.1), (omega arith, i.1), refl)), ((refl, ((pos, low), (omega arith, rw hd.0), refl)), tt)),
          join (Ok K n) c (expr_count e) (expr_cells M e c) (o ∷ []) (e-len M e c) ie.0 ((refl, (refl, (omega arith, rw hd.0), ie.1)), tt),
          (omega arith, rw hd.1.0),
          tt,
        )
    p-ok (assign_elem δ k u e) well z v s d c i lM ld lc hd hw =
        let ce = c + expr_count u in
        let o = cell 41 0 d (expr_wire M e ce) in
        let o' = cell 41 0 d (expr_wire M u c) in
        let ru = split (HasKind K) c (expr_count u) (expr_cells M u c) (expr_cells M e ce ++ (o ∷ (o' ∷ []))) (e-len M u c) hw in
        let re = split (HasKind K) ce (expr_count e) (expr_cells M e ce) (o ∷ (o' ∷ [])) (e-len M e ce) ru.1 in
        let iu = e-ok K n M top words u well.2 (inr arrays) c lM ru.0 in
        let ie = e-ok K n M top words e well.3 (inr arrays) ce (omega arith) re.0 in (
          ((refl, ((z.0.0, z.0.1), (omega arith, i.1), refl)), ((refl, ((pos, low), (omega arith, rw hd.0), refl)), tt)),
          join (Ok K n) c (expr_count u) (expr_cells M u c) (expr_cells M e ce ++ (o ∷ (o' ∷ []))) (e-len M u c) iu.0
              (join (Ok K n) ce (expr_count e) (expr_cells M e ce) (o ∷ (o' ∷ [])) (e-len M e ce) ie.0 (
                (refl, (refl, (omega arith, rw hd.0), ie.1)),
                ((refl, (refl, (omega arith, rw hd.0), (omega arith, iu.1.1))), tt),
              )),
          (omega arith, rw hd.1.0),
          tt,
        )
    p-ok (seq P Q) well z v s d c i lM ld lc hd hw =
        let g = finish_wire P s d c in
        let dQ = d + delay_count P in
        let cQ = c + walk_count P in
        let rd = split (HasKind K) d (delay_count P) (delays w P s d c) (delays w Q g dQ cQ) (d-len w P s d c) hd in
        let rc = split (HasKind K) c (walk_count P) (walk M F P s d c) (walk M F Q g dQ cQ) (w-len M F P s d c) hw in
        let iP = p-ok P well.0 z.0 v.0 s d c i lM (omega arith) (omega arith) rd.0 rc.0 in
        let iQ = p-ok Q well.1 z.1 v.1 g dQ cQ iP.2 (omega arith) (omega arith) (omega arith) rd.1 rc.1 in (
          join (Ok K n) d (delay_count P) (delays w P s d c) (delays w Q g dQ cQ) (d-len w P s d c) iP.0 iQ.0,
          join (Ok K n) c (walk_count P) (walk M F P s d c) (walk M F Q g dQ cQ) (w-len M F P s d c) iP.1 iQ.1,
          (omega arith, iQ.2.1),
          every_append (In control K (c + (walk_count P + walk_count Q))) (exit_wires P s d c) (exit_wires Q g dQ cQ)
              (widen K (c + walk_count P) (c + (walk_count P + walk_count Q)) (omega arith) (exit_wires P s d c) iP.3)
              (widen K (cQ + walk_count Q) (c + (walk_count P + walk_count Q)) (omega arith) (exit_wires Q g dQ cQ) iQ.3),
        )
    p-ok (par P Q) well z v s d c i lM ld lc hd hw =
        let dQ = d + delay_count P in
        let cQ = c + walk_count P in
        let o = cell 38 0 (finish_wire P s d c) (finish_wire Q s dQ cQ) in
        let rd = split (HasKind K) d (delay_count P) (delays w P s d c) (delays w Q s dQ cQ) (d-len w P s d c) hd in
        let rc = split (HasKind K) c (walk_count P) (walk M F P s d c) (walk M F Q s dQ cQ ++ (o ∷ [])) (w-len M F P s d c) hw in
        let rm = split (HasKind K) cQ (walk_count Q) (walk M F Q s dQ cQ) (o ∷ []) (w-len M F Q s dQ cQ) rc.1 in
        let iP = p-ok P well.0 z.0 v.0 s d c i lM (omega arith) (omega arith) rd.0 rc.0 in
        let iQ = p-ok Q well.1 z.1 v.1 s dQ cQ (omega arith, i.1) (omega arith) (omega arith) (omega arith) rd.1 rm.0 in (
          join (Ok K n) d (delay_count P) (delays w P s d c) (delays w Q s dQ cQ) (d-len w P s d c) iP.0 iQ.0,
          join (Ok K n) c (walk_count P) (walk M F P s d c) (walk M F Q s dQ cQ ++ (o ∷ [])) (w-len M F P s d c) iP.1
              (join (Ok K n) cQ (walk_count Q) (walk M F Q s dQ cQ) (o ∷ []) (w-len M F Q s dQ cQ) iQ.1 ((refl, (refl, (omega arith, iP.2.1), iQ.2)), tt)),
          (omega arith, rw rm.1.0),
          every_append (In control K (c + (walk_count P + (walk_count Q + 1)))) (exit_wires P s d c) (exit_wires Q s dQ cQ)
              (widen K (c + walk_count P) (c + (walk_count P + (walk_count Q + 1))) (omega arith) (exit_wires P s d c) iP.3)
              (widen K (cQ + walk_count Q) (c + (walk_count P + (walk_count Q + 1))) (omega arith) (exit_wires Q s dQ cQ) iQ.3),
        )
    p-ok (ite δ e P Q) well z v s d c i lM ld lc hd hw =
        let p = c + expr_count e in
        let dP = d + if_delay_count δ in
        let cP = p + 1 + 1 in
        let dQ = dP + delay_count P in
        let cQ = cP + walk_count P in
        let o = cell 35 0 (finish_wire P p dP cP) (finish_wire Q (p + 1) dQ cQ) in
        let o6 = cell 36 0 (if_pulse δ s d) (expr_wire M e c) in
        let o7 = cell 37 0 (if_pulse δ s d) (expr_wire M e c) in
        let ro = split (HasKind K) d (if_delay_count δ) (if_delay_cells δ s) (delays w P p dP cP ++ delays w Q (p + 1) dQ cQ) (own-len δ s) hd in
        let rd = split (HasKind K) dP (delay_count P) (delays w P p dP cP) (delays w Q (p + 1) dQ cQ) (d-len w P p dP cP) ro.1 in
        let re = split (HasKind K) c (expr_count e) (expr_cells M e c) (o6 ∷ (o7 ∷ (walk M F P p dP cP ++ (walk M F Q (p + 1) dQ cQ ++ (o ∷ []))))) (e-len M e c) hw in
        let rP = split (HasKind K) cP (walk_count P) (walk M F P p dP cP) (walk M F Q (p + 1) dQ cQ ++ (o ∷ [])) (w-len M F P p dP cP) re.1.1.1 in
        let rQ = split (HasKind K) cQ (walk_count Q) (walk M F Q (p + 1) dQ cQ) (o ∷ []) (w-len M F Q (p + 1) dQ cQ) rP.1 in
        let ip = pulse-ok δ s d c z.0 i (omega arith) (omega arith) ro.0 in
        let ie = e-ok K n M top words e well.1 (inr arrays) c lM re.0 in
        let iP = p-ok P well.2 z.2 v.2 p dP cP (omega arith, rw re.1.0) (omega arith) (omega arith) (omega arith) rd.0 rP.0 in
        let iQ = p-ok Q well.3 z.3 v.3 (p + 1) dQ cQ (omega arith, rw re.1.1.0) (omega arith) (omega arith) (omega arith) rd.1 rQ.0 in (
          join (Ok K n) d (if_delay_count δ) (if_delay_cells δ s) (delays w P p dP cP ++ delays w Q (p + 1) dQ cQ) (own-len δ s) ip.0
              (join (Ok K n) dP (delay_count P) (delays w P p dP cP) (delays w Q (p + 1) dQ cQ) (d-len w P p dP cP) iP.0 iQ.0),
          join (Ok K n) c (expr_count e) (expr_cells M e c) (o6 ∷ (o7 ∷ (walk M F P p dP cP ++ (walk M F Q (p + 1) dQ cQ ++ (o ∷ []))))) (e-len M e c) ie.0 (
            (refl, (refl, (omega arith, ip.1.1), ie.1)),
            (
              (refl, (refl, (omega arith, ip.1.1), (omega arith, ie.1.1))),
              join (Ok K n) cP (walk_count P) (walk M F P p dP cP) (walk M F Q (p + 1) dQ cQ ++ (o ∷ [])) (w-len M F P p dP cP) iP.1
                  (join (Ok K n) cQ (walk_count Q) (walk M F Q (p + 1) dQ cQ) (o ∷ []) (w-len M F Q (p + 1) dQ cQ) iQ.1 ((refl, (refl, (omega arith, iP.2.1), iQ.2)), tt)),
            ),
          ),
          (omega arith, rw rQ.1.0),
          every_append (In control K (c + (expr_count e + (2 + (walk_count P + (walk_count Q + 1)))))) (exit_wires P p dP cP) (exit_wires Q (p + 1) dQ cQ)
              (widen K (cP + walk_count P) (c + (expr_count e + (2 + (walk_count P + (walk_count Q + 1))))) (omega arith) (exit_wires P p dP cP) iP.3)
              (widen K (cQ + walk_count Q) (c + (expr_count e + (2 + (walk_count P + (walk_count Q + 1))))) (omega arith) (exit_wires Q (p + 1) dQ cQ) iQ.3),
        )
    p-ok (while δ e P) well z v s d c i lM ld lc hd hw =
        let p = c + expr_count e in
        let cP = p + 1 + 1 in
        let o = cell 35 0 s (finish_wire P p (d + 1) cP) in
        let o6 = cell 36 0 d (expr_wire M e c) in
        let o7 = cell 37 0 d (expr_wire M e c) in
        let re = split (HasKind K) c (expr_count e) (expr_cells M e c) (o6 ∷ (o7 ∷ (walk M F P p (d + 1) cP ++ (o ∷ [])))) (e-len M e c) hw in
        let rP = split (HasKind K) cP (walk_count P) (walk M F P p (d + 1) cP) (o ∷ []) (w-len M F P p (d + 1) cP) re.1.1.1 in
        let ie = e-ok K n M top words e well.1 (inr arrays) c lM re.0 in
        let iP = p-ok P well.2 z.2 v.2 p (d + 1) cP (omega arith, rw re.1.0) (omega arith) (omega arith) (omega arith) hd.1 rP.0 in (
          ((refl, ((z.0.0, z.0.1), (omega arith, rw rP.1.0), refl)), iP.0),
          join (Ok K n) c (expr_count e) (expr_cells M e c) (o6 ∷ (o7 ∷ (walk M F P p (d + 1) cP ++ (o ∷ [])))) (e-len M e c) ie.0 (
            (refl, (refl, (omega arith, rw hd.0), ie.1)),
            (
              (refl, (refl, (omega arith, rw hd.0), (omega arith, ie.1.1))),
              join (Ok K n) cP (walk_count P) (walk M F P p (d + 1) cP) (o ∷ []) (w-len M F P p (d + 1) cP) iP.1 ((refl, (refl, (omega arith, i.1), iP.2)), tt),
            ),
          ),
          (omega arith, rw re.1.1.0),
          widen K (cP + walk_count P) (c + (expr_count e + (2 + (walk_count P + 1)))) (omega arith) (exit_wires P p (d + 1) cP) iP.3,
        )
    p-ok (repeat δ e P) well z v s d c i lM ld lc hd hw =
        let p = c + expr_count e in
        let cP = p + 1 + 1 + 1 in
        let o6 = cell 36 0 d (expr_wire M e c) in
        let o7 = cell 37 0 d (expr_wire M e c) in
        let o5 = cell 35 0 s (p + 1) in
        let re = split (HasKind K) c (expr_count e) (expr_cells M e c) (o6 ∷ (o7 ∷ (o5 ∷ walk M F P (p + 1 + 1) (d + 1) cP))) (e-len M e c) hw in
        let ie = e-ok K n M top words e well.1 (inr arrays) c lM re.0 in
        let iP = p-ok P well.2 z.2 v.2 (p + 1 + 1) (d + 1) cP (omega arith, rw re.1.1.1.0) (omega arith) (omega arith) (omega arith) hd.1 re.1.1.1.1 in (
          ((refl, ((z.0.0, z.0.1), (omega arith, iP.2.1), refl)), iP.0),
          join (Ok K n) c (expr_count e) (expr_cells M e c) (o6 ∷ (o7 ∷ (o5 ∷ walk M F P (p + 1 + 1) (d + 1) cP))) (e-len M e c) ie.0 (
            (refl, (refl, (omega arith, rw hd.0), ie.1)),
            (
              (refl, (refl, (omega arith, rw hd.0), (omega arith, ie.1.1))),
              ((refl, (refl, (omega arith, i.1), (omega arith, rw re.1.1.0))), iP.1),
            ),
          ),
          (omega arith, rw re.1.0),
          widen K (cP + walk_count P) (c + (expr_count e + (3 + walk_count P))) (omega arith) (exit_wires P (p + 1 + 1) (d + 1) cP) iP.3,
        )
    p-ok (loop δ P) well z v s d c i lM ld lc hd hw =
        let xs = exit_wires P c (d + 1) (c + 1) in
        let k = exits_at P c in
        let count : or_count xs ≡ exit_count P - 1 = exit-ors P c (d + 1) (c + 1) in
        let rP = split (HasKind K) (c + 1) (walk_count P) (walk M F P c (d + 1) (c + 1)) (ors 35 k xs) (w-len M F P c (d + 1) (c + 1)) hw.1 in
        let iP = p-ok P well.1 z.1 v.1 c (d + 1) (c + 1) (omega arith, rw hw.0) (omega arith) (omega arith) (omega arith) hd.1 rP.0 in
        let io = ors-ok K n 35 control refl (λ k a b i j. (refl, (refl, i, j))) k 1 k xs (omega arith) (omega arith, rw ground) iP.3 rP.1 in (
          ((refl, ((z.0.0, z.0.1), (omega arith, iP.2.1), refl)), iP.0),
          (
            (refl, (refl, (omega arith, i.1), (omega arith, rw hd.0))),
            join (Ok K n) (c + 1) (walk_count P) (walk M F P c (d + 1) (c + 1)) (ors 35 k xs) (w-len M F P c (d + 1) (c + 1)) iP.1 io.0,
          ),
          (omega arith, io.1.1),
          tt,
        )
    p-ok exit well z v s d c i lM ld lc hd hw = (tt, tt, (omega arith, rw ground), ((omega arith, i.1), tt))
    p-ok (call δ p) well z v s d c i lM ld lc hd hw =
        let f = fin p v.1 in (
          ((refl, ((z.0.0, z.0.1), (omega arith, i.1), refl)), tt),
          ((refl, (refl, (omega arith, rw hd.0), (omega (arith, f.0), f.1))), tt),
          (omega arith, rw hw.0),
          tt,
        )
