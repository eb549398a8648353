-- The netlist of an accepted program keeps every rule of a netlist: its file is never refused.
use Rattle.model.specs.Refusals.{Accepted}
use Rattle.std.specs.Prelude.{◌≡◌, Bool, false, get_or}
use Rattle.std.proofs.Math.Path.{refl, subst}
use borrow.Author.Tests.{eq-eqb, ne_eqb, eqb-true, le-leb, lt-ltb, le-ltb}
use Rattle.std.proofs.Math.Bool.{true}
use mathlib.Core.List.{List, [], ◌∷◌, ◌++◌}
use Prim.Native.Nat.{ℕ, zero, suc, ◌+◌, ◌<◌, ◌≤◌, suc-le-suc}
use Rattle.std.proofs.Math.Nat.{zero-add, add-zero}
use Rattle.std.proofs.Common.{not-suc-le-zero, le_of_suc-le-suc, length-append}
use native.Mathlib.Omega.{arith}
use Rattle.std.proofs.Math.Dec.{eqb}
use Rattle.std.proofs.Math.ListN.{length}
use Rattle.model.specs.Program.{Code, ok, tick, assign, assign_elem, seq, par, ite, while, repeat, loop, exit, call, array_var, Program, roots}
use Rattle.model.specs.Circuit.{cell}
use Rattle.model.specs.Numbering.{Wires, memory_wires, expr_count, expr_wire, expr_cells, if_delay_count, if_pulse, if_delay_cells, delay_count, walk_count, exits_at, finish_wire, loop_exits, delays, walk, clock_sources, data_sources, address_sources, call_sources, Source, wires_of, idle_start, root_start, root_walk, past_root, root_delay_count, root_walk_count, root_finishes, root_delays, root_walks, root_sources, root_walk_sources, calls_of, clocks_of, data_of, addresses_of, procedures, finish_of_root}
use Rattle.model.specs.Numbering.{ors, or_count, ors_from, outs_from, or_count_from, memories_of, arrays_of, netlist, finish}
use Rattle.model.specs.Numbering.{clock_at, memory_at, arrays_at, walk_place, data_at, address_at, clock_wires, data_wires, address_wires}
use Rattle.model.specs.Circuit.{control, cell_at, memories, cell_table, shape}
use Rattle.laws.specs.Numbering.Cells.{All, all_of, all-at, split, join}
use Rattle.laws.specs.Numbering.Lengths.{e-len, ors-len, d-len, w-len, own-len}
use Rattle.laws.specs.Program.Fit.{EveryRoot, Numberable}
use Rattle.laws.specs.Numbering.Parts.{outs-len, net-length, delay_cells, clock_ors, walk_cells, data_ors, address_ors, Laid, lay, unlay}
use Rattle.laws.specs.Numbering.Arrays.{arrays-at, past_is, sixteen, arrays-stand}
use Rattle.laws.specs.Numbering.Count.{root_nodes, size}
use Rattle.laws.specs.Circuit.Ordered.{word, In, kinds}
use Rattle.laws.specs.NetlistFile.Uses.{looks-keeps}
use Rattle.laws.specs.Numbering.Valid.{Ok, HasKind, Every, ors-ok, p-ok, memory-wire, array-wire, Brings, Arrays}
use Rattle.model.specs.Word.{pick}
use Rattle.model.specs.NetlistFile.{cell_limit, of_array, stands, placed, cell_fault, net_check, count_wrong, blocks_for}
use Rattle.laws.specs.Refusals.Laws.{by_le, faultless}
use Rattle.laws.specs.Program.Trees.{by-pick}

abbrev pub EveryWire : (ℕ → Type 0) → List Source → Type 0
EveryWire Q [] = Unit {0}
EveryWire Q (w ∷ ws) = Q w.1 × EveryWire Q ws

wire-append : (Q : ℕ → Type 0) (us vs : List Source) → EveryWire Q us → EveryWire Q vs → EveryWire Q (us ++ vs)
wire-append Q [] vs h h' = h'
wire-append Q (u ∷ us) vs h h' = (h.0, wire-append Q us vs h.1 h')

pub wires-all : (Q R : ℕ → Type 0) → ((k : ℕ) → Q k → R k) → (ws : List Source) → EveryWire Q ws → EveryWire R ws
wires-all Q R f [] h = tt
wires-all Q R f (w ∷ ws) h = (f w.1 h.0, wires-all Q R f ws h.1)

both-appended : (Q : ℕ → Type 0) (us vs us' vs' : List Source) → EveryWire Q us × EveryWire Q us' → EveryWire Q vs × EveryWire Q vs'
    → EveryWire Q (us ++ vs) × EveryWire Q (us' ++ vs')
both-appended Q us vs us' vs' h h' = (wire-append Q us vs h.0 h'.0, wire-append Q us' vs' h.1 h'.1)

pub every-at : (Q : ℕ → Type 0) (ws : List ℕ) → Every Q ws → (i : ℕ) → i < length ws → Q (get_or ws i 0)
every-at Q [] h i l = absurd (not-suc-le-zero l)
every-at Q (w ∷ ws) h zero l = h.0
every-at Q (w ∷ ws) h (suc i) l = every-at Q ws h.1 i (le_of_suc-le-suc l)

pub wires-every : (Q : ℕ → Type 0) (y : ℕ) (ws : List Source) → EveryWire Q ws → Every Q (wires_of y ws)
unfolding wires_of
wires-every Q y [] h = tt
wires-every Q y (w ∷ ws) h = go (eqb w.0 y) (wires-every Q y ws h.1)
  where
    go : (b : Bool) → Every Q (wires_of y ws) → Every Q (pick b (w.1 ∷ wires_of y ws) (wires_of y ws))
    go true r = (h.0, r)
    go false r = r

module _ (K : ℕ → ℕ) where
  clocks-ok : (w : ℕ) (P : Code) (s d c lim : ℕ) → d + delay_count P ≤ lim → All (HasKind K) d (delays w P s d c)
      → EveryWire (In control K lim) (clock_sources P d) × EveryWire (In control K lim) (call_sources P d)
  unfolding clock_sources call_sources delays delay_count control
  clocks-ok w ok s d c lim l h = (tt, tt)
  clocks-ok w (tick δ) s d c lim l h = (tt, tt)
  clocks-ok w (assign δ x e) s d c lim l h = (((omega arith, rw h.0), tt), tt)
  clocks-ok w (assign_elem δ k i e) s d c lim l h = (((omega arith, rw h.0), tt), tt)
  clocks-ok w (seq P Q) s d c lim l h =
      let r = split (HasKind K) d (delay_count P) (delays w P s d c) (delays w Q (finish_wire P s d c) (d + delay_count P) (c + walk_count P)) (d-len w P s d c) h in
      both-appended (In control K lim) (clock_sources P d) (clock_sources Q (d + delay_count P)) (call_sources P d) (call_sources Q (d + delay_count P))
      (clocks-ok w P s d c lim (omega arith) r.0) (clocks-ok w Q (finish_wire P s d c) (d + delay_count P) (c + walk_count P) lim (omega arith) r.1)
  clocks-ok w (par P Q) s d c lim l h =
      let r = split (HasKind K) d (delay_count P) (delays w P s d c) (delays w Q s (d + delay_count P) (c + walk_count P)) (d-len w P s d c) h in
      both-appended (In control K lim) (clock_sources P d) (clock_sources Q (d + delay_count P)) (call_sources P d) (call_sources Q (d + delay_count P))
      (clocks-ok w P s d c lim (omega arith) r.0) (clocks-ok w Q s (d + delay_count P) (c + walk_count P) lim (omega arith) r.1)
  clocks-ok w (ite δ e P Q) s d c lim l h =
      let p = c + expr_count e in
      let dP = d + if_delay_count δ in
      let cP = p + 1 + 1 in
      let o = split (HasKind K) d (if_delay_count δ) (if_delay_cells δ s) (delays w P p dP cP ++ delays w Q (p + 1) (dP + delay_count P) (cP + walk_count P)) (own-len δ s) h in
      let r = split (HasKind K) dP (delay_count P) (delays w P p dP cP) (delays w Q (p + 1) (dP + delay_count P) (cP + walk_count P)) (d-len w P p dP cP) o.1 in
      both-appended (In control K lim) (clock_sources P dP) (clock_sources Q (dP + delay_count P)) (call_sources P dP) (call_sources Q (dP + delay_count P))
      (clocks-ok w P p dP cP lim (omega arith) r.0) (clocks-ok w Q (p + 1) (dP + delay_count P) (cP + walk_count P) lim (omega arith) r.1)
  clocks-ok w (while δ e P) s d c lim l h = clocks-ok w P (c + expr_count e) (d + 1) (c + expr_count e + 1 + 1) lim (omega arith) h.1
  clocks-ok w (repeat δ e P) s d c lim l h = clocks-ok w P (c + expr_count e + 1 + 1) (d + 1) (c + expr_count e + 1 + 1 + 1) lim (omega arith) h.1
  clocks-ok w (loop δ P) s d c lim l h = clocks-ok w P c (d + 1) (c + 1) lim (omega arith) h.1
  clocks-ok w exit s d c lim l h = (tt, tt)
  clocks-ok w (call δ p) s d c lim l h = (tt, ((omega arith, rw h.0), tt))

  -- the wires of assignments are kinds 41
  module _ (sort : ℕ → Bool) (gated : sort 41 ≡ true) where
    datas-ok : (M : Wires) (F : ℕ → ℕ) (P : Code) (s d c lim : ℕ) → c + walk_count P ≤ lim → All (HasKind K) c (walk M F P s d c)
        → EveryWire (In sort K lim) (data_sources P c) × EveryWire (In sort K lim) (address_sources P c)
    unfolding data_sources address_sources walk walk_count
    datas-ok M F ok s d c lim l h = (tt, tt)
    datas-ok M F (tick δ) s d c lim l h = (tt, tt)
    datas-ok M F (assign δ x e) s d c lim l h =
        let r = split (HasKind K) c (expr_count e) (expr_cells M e c) (cell 41 0 d (expr_wire M e c) ∷ []) (e-len M e c) h in
        (((omega arith, rw r.1.0 gated), tt), tt)
    datas-ok M F (assign_elem δ k i e) s d c lim l h =
        let ce = c + expr_count i in
        let o = cell 41 0 d (expr_wire M e ce) in
        let o' = cell 41 0 d (expr_wire M i c) in
        let ri = split (HasKind K) c (expr_count i) (expr_cells M i c) (expr_cells M e ce ++ (o ∷ (o' ∷ []))) (e-len M i c) h in
        let re = split (HasKind K) ce (expr_count e) (expr_cells M e ce) (o ∷ (o' ∷ [])) (e-len M e ce) ri.1 in
        (((omega arith, rw re.1.0 gated), tt), ((omega arith, rw re.1.1.0 gated), tt))
    datas-ok M F (seq P Q) s d c lim l h =
        let g = finish_wire P s d c in
        let r = split (HasKind K) c (walk_count P) (walk M F P s d c) (walk M F Q g (d + delay_count P) (c + walk_count P)) (w-len M F P s d c) h in
        let iP = datas-ok M F P s d c lim (omega arith) r.0 in
        let iQ = datas-ok M F Q g (d + delay_count P) (c + walk_count P) lim (omega arith) r.1 in
        both-appended (In sort K lim) (data_sources P c) (data_sources Q (c + walk_count P)) (address_sources P c) (address_sources Q (c + walk_count P)) iP iQ
    datas-ok M F (par P Q) s d c lim l h =
        let dQ = d + delay_count P in
        let cQ = c + walk_count P in
        let o = cell 38 0 (finish_wire P s d c) (finish_wire Q s dQ cQ) in
        let r = split (HasKind K) c (walk_count P) (walk M F P s d c) (walk M F Q s dQ cQ ++ (o ∷ [])) (w-len M F P s d c) h in
        let q = split (HasKind K) cQ (walk_count Q) (walk M F Q s dQ cQ) (o ∷ []) (w-len M F Q s dQ cQ) r.1 in
        let iP = datas-ok M F P s d c lim (omega arith) r.0 in
        let iQ = datas-ok M F Q s dQ cQ lim (omega arith) q.0 in
        both-appended (In sort K lim) (data_sources P c) (data_sources Q cQ) (address_sources P c) (address_sources Q cQ) iP iQ
    datas-ok M F (ite δ e P Q) s d c lim l h =
        let p = c + expr_count e in
        let dP = d + if_delay_count δ in
        let cP = p + 1 + 1 in
        let dQ = dP + delay_count P in
        let cQ = cP + walk_count P in
        let o = cell 35 0 (finish_wire P p dP cP) (finish_wire Q (p + 1) dQ cQ) in
        let o6 = cell 36 0 (if_pulse δ s d) (expr_wire M e c) in
        let o7 = cell 37 0 (if_pulse δ s d) (expr_wire M e c) in
        let re = split (HasKind K) c (expr_count e) (expr_cells M e c) (o6 ∷ (o7 ∷ (walk M F P p dP cP ++ (walk M F Q (p + 1) dQ cQ ++ (o ∷ []))))) (e-len M e c) h in
        let rP = split (HasKind K) cP (walk_count P) (walk M F P p dP cP) (walk M F Q (p + 1) dQ cQ ++ (o ∷ [])) (w-len M F P p dP cP) re.1.1.1 in
        let rQ = split (HasKind K) cQ (walk_count Q) (walk M F Q (p + 1) dQ cQ) (o ∷ []) (w-len M F Q (p + 1) dQ cQ) rP.1 in
        let iP = datas-ok M F P p dP cP lim (omega arith) rP.0 in
        let iQ = datas-ok M F Q (p + 1) dQ cQ lim (omega arith) rQ.0 in
        both-appended (In sort K lim) (data_sources P cP) (data_sources Q cQ) (address_sources P cP) (address_sources Q cQ) iP iQ
    datas-ok M F (while δ e P) s d c lim l h =
        let p = c + expr_count e in
        let cP = p + 1 + 1 in
        let o = cell 35 0 s (finish_wire P p (d + 1) cP) in
        let o6 = cell 36 0 d (expr_wire M e c) in
        let o7 = cell 37 0 d (expr_wire M e c) in
        let re = split (HasKind K) c (expr_count e) (expr_cells M e c) (o6 ∷ (o7 ∷ (walk M F P p (d + 1) cP ++ (o ∷ [])))) (e-len M e c) h in
        let rP = split (HasKind K) cP (walk_count P) (walk M F P p (d + 1) cP) (o ∷ []) (w-len M F P p (d + 1) cP) re.1.1.1 in
        datas-ok M F P p (d + 1) cP lim (omega arith) rP.0
    datas-ok M F (repeat δ e P) s d c lim l h =
        let p = c + expr_count e in
        let cP = p + 1 + 1 + 1 in
        let re = split (HasKind K) c (expr_count e) (expr_cells M e c) (cell 36 0 d (expr_wire M e c) ∷ (cell 37 0 d (expr_wire M e c) ∷ (cell 35 0 s (p + 1) ∷ walk M F P (p + 1 + 1) (d + 1) cP))) (e-len M e c) h in
        datas-ok M F P (p + 1 + 1) (d + 1) cP lim (omega arith) re.1.1.1.1
    datas-ok M F (loop δ P) s d c lim l h =
        let r = split (HasKind K) (c + 1) (walk_count P) (walk M F P c (d + 1) (c + 1)) (ors 35 (exits_at P c) (loop_exits P d c)) (w-len M F P c (d + 1) (c + 1)) h.1 in
        datas-ok M F P c (d + 1) (c + 1) lim (omega arith) r.0
    datas-ok M F exit s d c lim l h = (tt, tt)
    datas-ok M F (call δ p) s d c lim l h = (tt, tt)

  -- ors of a kind over wires of a sort, all of them below lim
  module _ (n kind : ℕ) (sort : ℕ → Bool) (this : sort kind ≡ true)
      (mk : (k a b : ℕ) → In sort K k a → In sort K k b → Ok K n k (cell kind 0 a b)) (lim : ℕ) where
    ors_from-ok : (zip : ℕ) (ws : List Source) (c x j top : ℕ) → lim ≤ c → c + or_count_from ws x j ≤ top → In sort K lim zip → EveryWire (In sort K lim) ws
        → All (HasKind K) c (ors_from kind ws c x j)
        → All (Ok K n) c (ors_from kind ws c x j) × Every (In sort K top) (outs_from zip ws c x j)
    unfolding ors_from outs_from or_count_from
    ors_from-ok zip ws c x zero top l lt z e h = (tt, tt)
    ors_from-ok zip ws c x (suc j) top l lt z e h =
        let here = ors kind c (wires_of x ws) in
        let k = or_count (wires_of x ws) in
        let rest = ors_from kind ws (c + k) (x + 1) j in
        let r = split (HasKind K) c k here rest (ors-len kind c (wires_of x ws)) h in
        let i = ors-ok K n kind sort this mk lim zip c (wires_of x ws) l z (wires-every (In sort K lim) x ws e) r.0 in
        let i' = ors_from-ok zip ws (c + k) (x + 1) j top (omega arith) (omega arith) z e r.1 in
        (join (Ok K n) c k here rest (ors-len kind c (wires_of x ws)) i.0 i'.0, ((omega arith, i.1.1), i'.1))

  -- memories and arrays, from wires that are good
  module _ (n lim : ℕ) (ks ds js : List ℕ) (clocks : (x : ℕ) → x < 20 → In control K lim (get_or ks x 0))
      (datas : (x : ℕ) → x < 20 → In word K n (get_or ds x 0)) (addresses : (k : ℕ) → k < 4 → In word K n (get_or js k 0)) where
    mems-ok : (k x j : ℕ) → lim ≤ k → x + j ≤ 16 → All (Ok K n) k (memories_of ks ds x j)
    unfolding memories_of shape cell_table stands
    mems-ok k x zero l h = tt
    mems-ok k x (suc j) l h =
        let c = clocks x (omega arith) in
        ((refl, (refl, (omega arith, c.1), datas x (omega arith))), mems-ok (k + 1) (x + 1) j (omega arith) (omega arith))

    arrays-ok : (k v j : ℕ) → lim ≤ k → v + j ≤ 4 → All (Ok K n) k (arrays_of ks ds js v j)
    unfolding arrays_of shape cell_table stands
    arrays-ok k v zero l h = tt
    arrays-ok k v (suc j) l h =
        let c = clocks (array_var v) (omega arith) in (
          (refl, (tt, (omega arith, c.1), datas (array_var v) (omega arith))),
          ((refl, (refl, addresses v (omega arith), refl)), arrays-ok (k + 1 + 1) (v + 1) j (omega arith) (omega arith)),
        )

  mems-kind : (ks ds : List ℕ) (x n k : ℕ) → All (HasKind K) k (memories_of ks ds x n) → (i : ℕ) → i < n → K (k + i) ≡ 40
  unfolding memories_of
  mems-kind ks ds x zero k h i l = absurd (omega arith)
  mems-kind ks ds x (suc n) k h zero l = rw (add-zero k) h.0
  mems-kind ks ds x (suc n) k h (suc i) l =
      let q : k + 1 + i ≡ k + suc i = omega arith in
      rw q at (mems-kind ks ds (x + 1) n (k + 1) h.1 i (le_of_suc-le-suc l))

  -- roots: the wires that they give, and their cells
  root-clocks-ok : (w z : ℕ) (cs : List Source) (r : ℕ) (Ps : List Code) (d c lim : ℕ) → d + root_delay_count Ps ≤ lim
      → All (HasKind K) d (root_delays w z cs r Ps d c)
      → EveryWire (In control K lim) (root_sources clock_sources Ps d) × EveryWire (In control K lim) (root_sources call_sources Ps d)
  unfolding root_delays root_delay_count root_sources
  root-clocks-ok w z cs r [] d c lim l h = (tt, tt)
  root-clocks-ok w z cs r (P ∷ Ps) d c lim l h =
      let s = root_start z cs r c in
      let c₀ = root_walk cs r c in
      let q =
      split (HasKind K) d (delay_count P) (delays w P s d c₀) (root_delays w z cs (r + 1) Ps (d + delay_count P) (past_root cs r P c)) (d-len w P s d c₀) h in
      both-appended (In control K lim) (clock_sources P d) (root_sources clock_sources Ps (d + delay_count P)) (call_sources P d)
      (root_sources call_sources Ps (d + delay_count P)) (clocks-ok w P s d c₀ lim (omega arith) q.0)
      (root-clocks-ok w z cs (r + 1) Ps (d + delay_count P) (past_root cs r P c) lim (omega arith) q.1)

  root-datas-ok : (sort : ℕ → Bool) → sort 41 ≡ true → (M : Wires) (F : ℕ → ℕ) (z : ℕ) (cs : List Source) (r : ℕ) (Ps : List Code) (d c lim : ℕ)
      → c + root_walk_count cs r Ps ≤ lim → All (HasKind K) c (root_walks M F z cs r Ps d c)
      → EveryWire (In sort K lim) (root_walk_sources data_sources cs r Ps c) × EveryWire (In sort K lim) (root_walk_sources address_sources cs r Ps c)
  unfolding root_walks root_walk_count root_walk_sources
  root-datas-ok sort gated M F z cs r [] d c lim l h = (tt, tt)
  root-datas-ok sort gated M F z cs r (P ∷ Ps) d c lim l h =
      let s = root_start z cs r c in
      let c₀ = root_walk cs r c in
      let d₁ = d + delay_count P in
      let c₁ = past_root cs r P c in
      let rest = root_walks M F z cs (r + 1) Ps d₁ c₁ in
      let o = split (HasKind K) c (or_count (wires_of r cs)) (ors 35 c (wires_of r cs)) (walk M F P s d c₀ ++ rest) (ors-len 35 c (wires_of r cs)) h in
      let q = split (HasKind K) c₀ (walk_count P) (walk M F P s d c₀) rest (w-len M F P s d c₀) o.1 in
      both-appended (In sort K lim) (data_sources P c₀) (root_walk_sources data_sources cs (r + 1) Ps c₁) (address_sources P c₀)
      (root_walk_sources address_sources cs (r + 1) Ps c₁) (datas-ok sort gated M F P s d c₀ lim (omega arith) q.0)
      (root-datas-ok sort gated M F z cs (r + 1) Ps d₁ c₁ lim (omega arith) q.1)

  -- F p is the finish of body p
  module _ (n : ℕ) (M : Wires) (top : ℕ) (words : Brings K top M) (arrays : Arrays K top M) (start : K 0 ≡ 32) (ground : K 1 ≡ 33)
      (w : ℕ) (pos : 1 ≤ w) (low : w ≤ 255) (F : ℕ → ℕ) (z : ℕ) (cs : List Source) (lim : ℕ) (calls : EveryWire (In control K lim) cs) (two : 2 ≤ lim) where
    idle-ok : (r : ℕ) → In control K lim (idle_start z r)
    unfolding control
    idle-ok r = by-pick (In control K lim) (eqb r z) 0 1 (omega arith, rw start) (omega arith, rw ground)

    abbrev After : ℕ → List Code → ℕ → ℕ → Type 0
    After r Ps d c =
        All (Ok K n) d (root_delays w z cs r Ps d c) × All (Ok K n) c (root_walks M F z cs r Ps d c)
        × ((j : ℕ) → j < length Ps → In control K (c + root_walk_count cs r Ps) (F (r + j)))

    roots-ok : (r : ℕ) (Ps : List Code) (d c : ℕ) → EveryRoot Numberable r Ps → lim ≤ c → top ≤ c → d + root_delay_count Ps ≤ c
        → c + root_walk_count cs r Ps ≤ n → ((p : ℕ) → p < r → In control K c (F p))
        → ((j : ℕ) → j < length Ps → F (r + j) ≡ get_or (root_finishes z cs r Ps d c) j 1)
        → All (HasKind K) d (root_delays w z cs r Ps d c) → All (HasKind K) c (root_walks M F z cs r Ps d c) → After r Ps d c
    unfolding root_delays root_walks root_finishes root_delay_count root_walk_count control shape cell_table stands
    roots-ok r [] d c well l lM ld lc fin is hd hw = (tt, tt, λ j o. absurd (omega arith))
    roots-ok r (P ∷ Ps) d c well l lM ld lc fin is hd hw =
        let ws = wires_of r cs in
        let s = root_start z cs r c in
        let c₀ = root_walk cs r c in
        let d₁ = d + delay_count P in
        let c₁ = past_root cs r P c in
        let ds = root_delays w z cs (r + 1) Ps d₁ c₁ in
        let rest = root_walks M F z cs (r + 1) Ps d₁ c₁ in
        let qd = split (HasKind K) d (delay_count P) (delays w P s d c₀) ds (d-len w P s d c₀) hd in
        let qo = split (HasKind K) c (or_count ws) (ors 35 c ws) (walk M F P s d c₀ ++ rest) (ors-len 35 c ws) hw in
        let qw = split (HasKind K) c₀ (walk_count P) (walk M F P s d c₀) rest (w-len M F P s d c₀) qo.1 in
        let io =
        ors-ok K n 35 control refl (λ k a b i j. (refl, (refl, i, j))) lim (idle_start z r) c ws l (idle-ok r) (wires-every (In control K lim) r cs calls)
        qo.0 in
        let iP =
        p-ok K n M c₀ (λ x o. let g = words x o in (omega (arith, g.0), g.1)) (λ k o. let g = arrays k o in (omega (arith, g.0), g.1)) ground (omega arith) w pos low F r (λ p o. let f = fin p o in (omega (arith, f.0), f.1)) P well.0.0 well.0.1 well.0.2 s d c₀ io.1
        (omega arith) (omega arith) (omega arith) qd.0 qw.0 in
        let here : F r ≡ finish_wire P s d c₀ = rw add-zero at (is 0 (omega arith)) in
        let last : In control K c₁ (F r) = rw here iP.2 in
        let next : (j : ℕ) → r + 1 + j ≡ r + suc j = λ j. omega arith in
        let iR =
        roots-ok (r + 1) Ps d₁ c₁ well.1 (omega arith) (omega arith) (omega arith) (omega arith)
        (λ p o.
        by_le r p
        (λ y.
        let e : r ≡ p = omega arith in
        subst (λ (p : ℕ). In control K c₁ (F p)) e last)
        (λ y. let f = fin p y in (omega (arith, f.0), f.1)))
        (λ j o. rw (next j) (is (suc j) (suc-le-suc o))) qd.1 qw.1 in (
          join (Ok K n) d (delay_count P) (delays w P s d c₀) ds (d-len w P s d c₀) iP.0 iR.0,
          join (Ok K n) c (or_count ws) (ors 35 c ws) (walk M F P s d c₀ ++ rest) (ors-len 35 c ws) io.0
              (join (Ok K n) c₀ (walk_count P) (walk M F P s d c₀) rest (w-len M F P s d c₀) iP.1 iR.1),
          ends last.0 last.1 iR.2,
        )
      where
        ends : F r < past_root cs r P c → control (K (F r)) ≡ true
            → ((j : ℕ) → j < length Ps → In control K (past_root cs r P c + root_walk_count cs (r + 1) Ps) (F (r + 1 + j)))
            → (j : ℕ) → j < length (P ∷ Ps)
            → In control K (c + (or_count (wires_of r cs) + walk_count P + root_walk_count cs (r + 1) Ps)) (F (r + j))
        ends x y h zero o = rw add-zero (omega arith, y)
        ends x y h (suc j) o =
            let next : r + 1 + j ≡ r + suc j = omega arith in
            let f = h j (le_of_suc-le-suc o) in
            let g : In control K (c + (or_count (wires_of r cs) + walk_count P + root_walk_count cs (r + 1) Ps)) (F (r + 1 + j)) = (omega (arith, f.0), f.1) in
            rw next at g

-- ---- the rules

module _ (S : Program) (pos : 1 ≤ S.pulse) (low : S.pulse ≤ 255) (w : EveryRoot Numberable 0 (roots S)) where
  K : ℕ → ℕ
  K k = kinds (netlist S) k

  n : ℕ
  n = length (netlist S)

  has : Laid (HasKind K) S
  unfolding K
  has = lay (HasKind K) S (all_of (HasKind K) (netlist S) 0 (λ i l. rw zero-add))

  words : Brings K (walk_place S) (memory_wires (memory_at S))
  unfolding word of_array shape cell_table
  words x l = rw (memory-wire (memory_at S) x l) (omega arith, rw (mems-kind K (clock_wires S) (data_wires S) 0 16 (memory_at S) has.at-mems x l))

  pub memory-kinds : (x : ℕ) → x < 16 → kinds (netlist S) (memory_at S + x) ≡ 40
  unfolding K
  memory-kinds x l = mems-kind K (clock_wires S) (data_wires S) 0 16 (memory_at S) has.at-mems x l

  arrays : Arrays K (walk_place S) (memory_wires (memory_at S))
  arrays k l =
      rw (array-wire (memory_at S) k)
      (omega arith, (arrays-at (HasKind K) (clock_wires S) (data_wires S) (address_wires S) 0 4 (arrays_at S) has.at-arrays k l).0)

  total : n ≡ address_at S + or_count_from (addresses_of S) 16 4
  unfolding n
  total = net-length S

  wires : EveryWire (In control K (clock_at S)) (clocks_of S) × EveryWire (In control K (clock_at S)) (calls_of S)
  wires = root-clocks-ok K S.pulse (procedures S) (calls_of S) 0 (roots S) 3 (walk_place S) (clock_at S) (omega arith) has.at-delays

  body : All (Ok K n) 3 (delay_cells S) × All (Ok K n) (walk_place S) (walk_cells S)
      × ((j : ℕ) → j < length (roots S) → In control K (data_at S) (finish_of_root S j))
  unfolding finish_of_root
  body =
      let r =
      roots-ok K n (memory_wires (memory_at S)) (walk_place S) words arrays has.at-start has.at-ground S.pulse pos low (finish_of_root S) (procedures S) (calls_of S) (clock_at S) wires.1 (omega arith) 0
      (roots S) 3 (walk_place S) w (omega arith) (omega arith) (omega arith) (omega (arith, total)) (λ p o. absurd (omega arith)) (λ j o. rw zero-add) has.at-delays
      has.at-walk in
      (r.0, r.1, λ j o. rw zero-add at (r.2 j o))

  clock_parts : All (Ok K n) (clock_at S) (clock_ors S) × Every (In control K (memory_at S)) (clock_wires S)
  unfolding control shape cell_table stands
  clock_parts =
      ors_from-ok K n 35 control refl (λ k a b i j. (refl, (refl, i, j))) (clock_at S) 1 (clocks_of S) (clock_at S) 0 20 (memory_at S) (omega arith) (omega arith)
      (omega arith, rw has.at-ground) wires.0 has.at-clocks

  sources : (sort : ℕ → Bool) → sort 41 ≡ true → EveryWire (In sort K (data_at S)) (data_of S) × EveryWire (In sort K (data_at S)) (addresses_of S)
  sources sort gated =
      root-datas-ok K sort gated (memory_wires (memory_at S)) (finish_of_root S) (procedures S) (calls_of S) 0 (roots S) 3 (walk_place S) (data_at S) (omega arith)
      has.at-walk

  data_parts : All (Ok K n) (data_at S) (data_ors S) × Every (In word K n) (data_wires S)
  unfolding word of_array shape cell_table stands
  data_parts =
      ors_from-ok K n 7 word refl (λ k a b i j. (refl, (refl, i, j))) (data_at S) 2 (data_of S) (data_at S) 0 20 n (omega arith) (omega (arith, total))
      (omega arith, rw has.at_zero) (sources word refl).0 has.at-datas

  address_parts : All (Ok K n) (address_at S) (address_ors S) × Every (In word K n) (address_wires S)
  unfolding word of_array shape cell_table stands
  address_parts =
      ors_from-ok K n 7 word refl (λ k a b i j. (refl, (refl, i, j))) (data_at S) 2 (addresses_of S) (address_at S) 16 4 n (omega arith) (omega (arith, total))
      (omega arith, rw has.at_zero) (sources word refl).1 has.at-addresses

  clock-in : (x : ℕ) → x < 20 → In control K (memory_at S) (get_or (clock_wires S) x 0)
  clock-in x l =
      every-at (In control K (memory_at S)) (clock_wires S) clock_parts.1 x (rw (outs-len 1 (clocks_of S) (clock_at S) 0 20) l)

  data-in : (x : ℕ) → x < 20 → In word K n (get_or (data_wires S) x 0)
  data-in x l = every-at (In word K n) (data_wires S) data_parts.1 x (rw (outs-len 2 (data_of S) (data_at S) 0 20) l)

  address-in : (k : ℕ) → k < 4 → In word K n (get_or (address_wires S) k 0)
  address-in k l =
      every-at (In word K n) (address_wires S) address_parts.1 k (rw (outs-len 2 (addresses_of S) (address_at S) 16 4) l)

  -- what data and address ors join are kinds 41
  pub gated-sources : EveryWire (λ k. kinds (netlist S) k ≡ 41) (data_of S) × EveryWire (λ k. kinds (netlist S) k ≡ 41) (addresses_of S)
  unfolding K
  gated-sources =
      let r = sources (λ k. eqb k 41) refl in
      let of : (k : ℕ) → In (λ k. eqb k 41) K (data_at S) k → K k ≡ 41 = λ k i. eqb-true (K k) 41 i.1 in
      (wires-all _ _ of (data_of S) r.0, wires-all _ _ of (addresses_of S) r.1)

  laid-ok : Laid (Ok K n) S
  unfolding shape cell_table stands
  laid-ok =
      record {
        at-start = (refl, (refl, refl, refl));
        at-ground = (refl, (refl, refl, refl));
        at_zero = (refl, (refl, tt, refl));
        at-delays = body.0;
        at-clocks = clock_parts.0;
        at-mems = mems-ok K n (memory_at S) (clock_wires S) (data_wires S) (address_wires S) clock-in data-in address-in (memory_at S) 0 16 (omega arith) (omega arith);
        at-arrays = arrays-ok K n (memory_at S) (clock_wires S) (data_wires S) (address_wires S) clock-in data-in address-in (arrays_at S) 0 4 (omega arith) (omega arith);
        at-walk = body.1;
        at-datas = data_parts.0;
        at-addresses = address_parts.0;
      }

  cells-ok : (k : ℕ) → k < length (netlist S) → Ok (kinds (netlist S)) (length (netlist S)) k (cell_at (netlist S) k)
  unfolding K n
  cells-ok k l = rw zero-add at (all-at (Ok K n) (netlist S) 0 (unlay (Ok K n) S laid-ok) k l)

  pub finish-ok : In control (kinds (netlist S)) (length (netlist S)) (finish S)
  unfolding K n finish
  finish-ok = let f = body.2 (procedures S) (rw (length-append S.bodies (S.main ∷ [])) (omega arith)) in (omega (arith, total, f.0), f.1)

-- ---- refusals 11 and 12

module _ (S : Program) (pos : 1 ≤ S.pulse) (low : S.pulse ≤ 255) (w : EveryRoot Numberable 0 (roots S)) where
  placed-ok : (k : ℕ) → placed k (cell_at (netlist S) k) ≡ true
  unfolding placed netlist
  placed-ok zero = refl
  placed-ok (suc zero) = refl
  placed-ok (suc (suc zero)) = refl
  placed-ok (suc (suc (suc k))) =
      rw (ne_eqb (suc (suc (suc k))) 0 (λ e. omega arith), ne_eqb (suc (suc (suc k))) 1 (λ e. omega arith), ne_eqb (suc (suc (suc k))) 2 (λ e. omega arith))

  faultless-at : (k : ℕ) → k < length (netlist S) → cell_fault (netlist S) k ≡ 0
  unfolding cell_fault
  faultless-at k l =
      let r = cells-ok S pos low w k l in
      rw (placed-ok k, past_is S, arrays-stand S w k l, looks-keeps (netlist S) k (cell_at (netlist S) k) r.0 r.1)

  pub net-accepted : net_check (netlist S) (finish S) ≡ Accepted
  unfolding net_check
  net-accepted =
      let c = faultless (cell_fault (netlist S)) 0 (length (netlist S)) (λ j l h. faultless-at j (omega arith)) in
      rw (c, eq-eqb (memories (netlist S)) 16 (sixteen S w), past_is S, le-ltb (length (netlist S)) (arrays_at S + 8) (omega (arith, net-length S)), (finish-ok S pos low w).1)

  pub count-right : root_nodes (roots S) ≤ 200 → count_wrong (blocks_for (length (netlist S))) (length (netlist S)) (finish S) ≡ false
  unfolding count_wrong
  count-right l =
      let n = length (netlist S) in
      rw (le-leb 27 n (omega (arith, net-length S)), le-leb n cell_limit (omega (arith, size S)), eq-eqb (blocks_for n) (blocks_for n) refl, lt-ltb (finish S) n (finish-ok S pos low w).0)
