-- The run of a program's netlist in which operators take their time agrees with the ideal one: on every cell but the operators of the walk, and on every
-- element, at every instant, if each delay is at least its expression's time. By cells: a cell that is no operator looks only at others that are none,
-- and at words that it may trust.
-- Assumes nothing.
use Rattle.std.specs.Prelude.{◌≡◌, Bool, true, not, ◌&&◌, ◌||◌, ltb, get_or}
use Rattle.std.proofs.Math.Path.{refl, sym, ap, ap₂, subst}
use Rattle.std.proofs.Common.{◌∙◌, ⊎_elim, not-suc-le-zero, le_of_suc-le-suc, eq-or-lt_of_le, le_refl, lt-ltb, le-ltb, ne_eqb}
use Rattle.std.proofs.Math.Bool.{false, and-false}
use mathlib.Core.List.{List, [], ◌∷◌}
use Prim.Native.Nat.{ℕ, zero, suc, ◌+◌, ◌-◌, ◌*◌, ◌/◌, ◌%◌, ◌<◌, ◌≤◌}
use Rattle.std.proofs.Math.Nat.{zero-add}
use native.Mathlib.Omega.{arith}
use Rattle.std.proofs.Math.Dec.{eqb}
use Rattle.std.proofs.Math.ListN.{length}
use Rattle.model.specs.declared.Cell.{Cell}
use Rattle.model.specs.Word.{pick, bit, is_zero, operate}
use Rattle.model.specs.Program.{Code, Program, roots, array_var}
use Rattle.model.specs.Procedures.{body_at}
use Rattle.model.specs.Circuit.{cell, cell_at, array_at, Values, Elements, level, element, memory, merge_step, return_step, start_word, Shape, cell_table, shape, control, equation, Obeys}
use Rattle.model.specs.Circuit.{k_constant, k_complement, k_operator, k_start, k_ground, k_delay, k_or, k_when_true, k_when_false, k_merge, k_return, k_memory, k_gated, k_array, k_address, k_read, k_latch, k_unknown}
use Rattle.model.specs.Numbering.{Source, wires_of, memory_wires, circuit_of, array_cell, or_chain, or_chain_out, ors, ors_out, or_count, ors_from, outs_from, past_root, memories_of, arrays_of, calls_of, clocks_of, data_of, addresses_of, procedures, finish_of_root, netlist, clock_at, memory_at, arrays_at, walk_place, data_at, address_at, clock_wires, data_wires, address_wires}
use Rattle.model.specs.CircuitPromises.{NoStart}
use Rattle.model.specs.Gates.{first_start, slow_cell, ObeysSlowly}
use Rattle.laws.specs.Circuit.Ordered.{Looks, kinds, Ordered}
use Rattle.laws.specs.Circuit.Shapes.{only-kind}
use Rattle.laws.specs.Refusals.Laws.{by_le, not-both}
use Rattle.laws.specs.Program.Fit.{Covered, EveryRoot, Numberable}
use Rattle.laws.specs.Program.Enclosed.{root_at}
use Rattle.laws.specs.Program.Admitted.{Admitted, earlier-all, each-root, at_body, at-main, root-count}
use Rattle.laws.specs.Numbering.Cells.{cell_val, All, all_of, all-at, join}
use Rattle.laws.specs.Numbering.Lengths.{ors-len, root-d-len, root-w-len}
use Rattle.laws.specs.Numbering.Parts.{delay_cells, clock_ors, memory_cells, array_cells, walk_cells, data_ors, address_ors, ors_from-len, outs-len, mems-len, arrays-len, Laid, lay, unlay}
use Rattle.laws.specs.Numbering.Arrays.{past_is}
use Rattle.laws.specs.Numbering.Valid.{Every}
use Rattle.laws.specs.Numbering.Compiled.{EveryWire, wires-all, every-at, wires-every, memory-kinds, gated-sources}
use Rattle.laws.specs.Circuit.Unique.{feeds, merged-cong, delayed-here}
use Rattle.laws.specs.Circuit.Gates.{late, instant-gate, control-instant}
use Rattle.theory.specs.Numbering.Roots.{joins_at, roots-apart, roots-together}
use Rattle.theory.specs.Numbering.Whole.{showing, shows, shows-array, shows-wire, shows-array-wire, first, E, ground-is, joins_of, delays_of, walk_of, start_of, Stands, ret, fin-is, body-delays, body-walk, at-main-root, body_is, main-is}
use Rattle.theory.specs.Numbering.Uses.{gate_val, GateRule, uses, Trust, Good, other, ors-good, ors_from-good, or-kind, low-kind, good-cells}
use Rattle.theory.specs.Promises.Due.{Began, run-first, words-held}

-- What a pulse lets through -----------------------------------------------------------------------------------------------------------------

when_true : (p q : Bool) (v w : ℕ) → p ≡ q → (q ≡ true → v ≡ w) → bit (p && not (is_zero v)) ≡ bit (q && not (is_zero w))
when_true p true v w e h = ap₂ (λ (b : Bool) (n : ℕ). bit (b && not (is_zero n))) e (h refl)
when_true p false v w e h = ap (λ (b : Bool). bit (b && not (is_zero v))) e

when_false : (p q : Bool) (v w : ℕ) → p ≡ q → (q ≡ true → v ≡ w) → bit (p && is_zero v) ≡ bit (q && is_zero w)
when_false p true v w e h = ap₂ (λ (b : Bool) (n : ℕ). bit (b && is_zero n)) e (h refl)
when_false p false v w e h = ap (λ (b : Bool). bit (b && is_zero v)) e

gated : (p q : Bool) (v w : ℕ) → p ≡ q → (q ≡ true → v ≡ w) → pick p v 0 ≡ pick q w 0
gated p true v w e h = ap₂ (λ (b : Bool) (n : ℕ). pick b n 0) e (h refl)
gated p false v w e h = ap (λ (b : Bool). pick b v 0) e

-- a root's cells stand behind the beginning
joins-past : (cs : List Source) (r : ℕ) (Ps : List Code) (c j : ℕ) → c ≤ joins_at cs r Ps c j
unfolding joins_at
joins-past cs r [] c j = omega arith
joins-past cs r (P ∷ Ps) c zero = omega arith
joins-past cs r (P ∷ Ps) c (suc j) = omega (arith, joins-past cs (r + 1) Ps (past_root cs r P c) j)

-- Ors behind the walk -----------------------------------------------------------------------------------------------------------------------

-- of a kind 7: Q of its inputs
abbrev Joins : (ℕ → Type 0) → ℕ → Cell → Type 0
Joins Q k c = (c.kind ≡ 7) × Q c.a × Q c.b

module _ (Q : ℕ → Type 0) (from : ℕ) (behind : (k : ℕ) → from ≤ k → Q k) where
  chain-joins : (acc c : ℕ) (ws : List ℕ) → from ≤ c → Q acc → Every Q ws → All (Joins Q) c (or_chain 7 acc c ws) × Q (or_chain_out acc c ws)
  unfolding or_chain or_chain_out
  chain-joins acc c [] l i e = (tt, i)
  chain-joins acc c (w ∷ ws) l i e =
      let r = chain-joins c (c + 1) ws (omega arith) (behind c l) e.1 in
      (((refl, i, e.0), r.0), r.1)

  ors-joins : (none c : ℕ) (ws : List ℕ) → from ≤ c → Q none → Every Q ws → All (Joins Q) c (ors 7 c ws) × Q (ors_out none c ws)
  unfolding ors ors_out
  ors-joins none c [] l z e = (tt, z)
  ors-joins none c (w ∷ ws) l z e = chain-joins w c ws l e.0 e.1

  ors_from-joins : (none : ℕ) (ws : List Source) (c x j : ℕ) → from ≤ c → Q none → EveryWire Q ws
      → All (Joins Q) c (ors_from 7 ws c x j) × Every Q (outs_from none ws c x j)
  unfolding ors_from outs_from
  ors_from-joins none ws c x zero l z e = (tt, tt)
  ors_from-joins none ws c x (suc j) l z e =
      let k = or_count (wires_of x ws) in
      let rest = ors_from 7 ws (c + k) (x + 1) j in
      let i = ors-joins none c (wires_of x ws) l z (wires-every Q x ws e) in
      let i' = ors_from-joins none ws (c + k) (x + 1) j (omega arith) z e in
      (join (Joins Q) c k (ors 7 c (wires_of x ws)) rest (ors-len 7 c (wires_of x ws)) i.0 i'.0, (i.1, i'.1))

-- the words and addresses of memories and arrays
module _ (T : ℕ → ℕ → Type 0) (Q : ℕ → Type 0) (top : ℕ) (ks ds js : List ℕ) (datas : (x : ℕ) → x < 20 → Q (get_or ds x 0))
    (addresses : (k : ℕ) → k < 4 → Q (get_or js k 0)) where
  mems-good : (k x j : ℕ) → x + j ≤ 16 → All (Good T Q top) k (memories_of ks ds x j)
  unfolding memories_of
  mems-good k x zero h = tt
  mems-good k x (suc j) h = (
    record { trust = λ z. not-both z refl; word = λ z. datas x (omega arith); array = λ z. absurd (omega arith); address = λ z. absurd (omega arith); latch = λ z. omega arith },
    mems-good (k + 1) (x + 1) j (omega arith),
  )

  arrays-good : (k v j : ℕ) → v + j ≤ 4 → All (Good T Q top) k (arrays_of ks ds js v j)
  unfolding arrays_of
  arrays-good k v zero h = tt
  arrays-good k v (suc j) h = (
    record {
      trust = λ z. not-both z refl;
      word = λ z. absurd (omega arith);
      array = λ z. datas (array_var v) (omega arith);
      address = λ z. absurd (omega arith);
      latch = λ z. omega arith;
    },
    (
      record { trust = λ z. not-both z refl; word = λ z. absurd (omega arith); array = λ z. absurd (omega arith); address = λ z. addresses v (omega arith); latch = λ z. omega arith },
      arrays-good (k + 1 + 1) (v + 1) j (omega arith),
    ),
  )

-- The two runs -------------------------------------------------------------------------------------------------------------------------------

module _ (S : Program) (A : Admitted S) (low : EveryRoot Numberable 0 (roots S)) (o : Ordered (netlist S)) (τ : ℕ → ℕ)
    (covered : (q : ℕ) → q < procedures S → Covered τ (body_at S.bodies q)) (covered-main : Covered τ S.main) (one : S.pulse ≡ 1) (words : ℕ → ℕ)
    (W U : Values) (h : Obeys (circuit_of S) first_start words W) (h' : ObeysSlowly τ S words U) where
  abbrev net : List Cell
  net = netlist S

  positive : 1 ≤ S.pulse
  positive = omega (arith, one)

  short : S.pulse ≤ 255
  short = omega (arith, one)

  -- an operator of the walk
  pub slow : ℕ → Bool
  slow k = ltb k (data_at S) && late (shape (cell_at net k).kind)

  abbrev Q : ℕ → Type 0
  Q k = slow k ≡ false

  abbrev m : ℕ → ℕ → ℕ
  m = showing S words W

  abbrev m' : ℕ → ℕ → ℕ
  m' = showing S words U

  abbrev E' : Elements
  E' = element net words U

  abbrev first' : ℕ → ℕ
  first' k = start_word net words k

  behind : (k : ℕ) → data_at S ≤ k → Q k
  unfolding slow
  behind k l = rw (le-ltb k (data_at S) l)

  instant : (k : ℕ) → late (shape (cell_at net k).kind) ≡ false → Q k
  unfolding slow
  instant k e = rw e (and-false (ltb k (data_at S)))

  of-kind : (k j : ℕ) → kinds net k ≡ j → late (shape j) ≡ false → Q k
  of-kind k j e z = instant k (ap (λ (i : ℕ). late (shape i)) e ∙ z)

  of-control : (k : ℕ) → control (kinds net k) ≡ true → Q k
  unfolding control
  of-control k e = instant k (control-instant (shape (kinds net k)) e)

  -- The slow cells, where they stand

  abbrev SlowRule : ℕ → Cell → Type 0
  SlowRule k c =
      (t : ℕ) → U k t ≡ pick (ltb k (data_at S)) (gate_val τ first_start (first' k) E' U k c t) (cell_val 1 first_start (first' k) E' U k c t)

  laid-slowly : Laid SlowRule S
  unfolding ObeysSlowly slow_cell gate_val cell_val
  laid-slowly = lay SlowRule S (all_of SlowRule net 0 (λ i l t. rw zero-add (h' i l t)))

  abbrev Gated : ℕ → Cell → Type 0
  Gated = GateRule τ first_start first' E' U

  early : (k : ℕ) (cs : List Cell) → k + length cs ≤ data_at S → All SlowRule k cs → All Gated k cs
  early k cs l a =
      all_of Gated cs k
      (λ i b t.
      all-at SlowRule cs k a i b t
      ∙ ap (λ (z : Bool). pick z (gate_val τ first_start (first' (k + i)) E' U (k + i) (get_or cs i (cell 0 0 0 0)) t)
      (cell_val 1 first_start (first' (k + i)) E' U (k + i) (get_or cs i (cell 0 0 0 0)) t)) (lt-ltb (k + i) (data_at S) (omega arith)))

  abbrev StandsSlow : (ℕ → Cell → Type 0) → ℕ → Code → Type 0
  StandsSlow = Stands S A first_start words W h

  slow-root : (q : ℕ) → q < length (roots S) → StandsSlow Gated q (root_at S q)
  slow-root q l =
      let z : 0 + q ≡ q = omega arith in
      rw z at
      (roots-apart S.pulse Gated (memory_wires (memory_at S)) (finish_of_root S) (procedures S) (calls_of S) 0 (roots S) 3 (walk_place S)
      (early 3 (delay_cells S) (omega (arith, root-d-len S.pulse (procedures S) (calls_of S) 0 (roots S) 3 (walk_place S))) laid-slowly.at-delays)
      (early (walk_place S) (walk_cells S)
      (omega (arith, root-w-len (memory_wires (memory_at S)) (finish_of_root S) (procedures S) (calls_of S) 0 (roots S) 3 (walk_place S))) laid-slowly.at-walk)
      q l)

  -- Words that may be trusted before an instant

  module _ (bound : ℕ) where
    abbrev T : ℕ → ℕ → Type 0
    T = Trust W U m m' (suc bound)

    abbrev Fine : ℕ → Cell → Type 0
    Fine = Good T Q (walk_place S)

    alone : NoStart first_start 0 bound
    alone u l k = ne_eqb u 0 (λ e. omega arith)

    abbrev began : Began S A first_start words W h words 0
    began = run-first S A first_start words W h refl

    behind-top : (q : ℕ) → walk_place S ≤ walk_of S A first_start words W h q
    behind-top q = omega (arith, joins-past (calls_of S) 0 (roots S) (walk_place S) q)

    fine-body : (q : ℕ) → q < procedures S → StandsSlow Fine q (body_at S.bodies q)
    unfolding body_is E ret
    fine-body q l =
        let r =
        good-cells S.pulse first_start (first S A first_start words W h) (E S A first_start words W h) W (memory_wires (memory_at S)) m (shows-wire S words W) (shows-array-wire S words W)
        (ground-is S A first_start words W h) (finish_of_root S) (ret S A first_start words W h) (procedures S) (fin-is S A first_start words W h) τ first_start first'
        E' U m' (shows-wire S words U) (shows-array-wire S words U) (suc bound) Q (walk_place S) (body_at S.bodies q) (A.body q).fit.formed (earlier-all S A q)
        (covered q l) (start_of S A first_start words W h q) (delays_of S A first_start words W h q) (walk_of S A first_start words W h q) (behind-top q)
        (body-delays S A first_start words W h q) (body-walk S A first_start words W h q)
        (at_body S (StandsSlow Gated) q l (slow-root q (omega (arith, root-count S)))).walk ((words-held S A first_start words W h words 0 bound began (omega arith) alone).1 q l) in
        record {
          joins = ors-good T Q (walk_place S) 35 (or-kind T Q (walk_place S)) (joins_of S A first_start words W h q) (wires_of q (calls_of S));
          delays = r.0;
          walk = r.1;
        }

    fine-main : StandsSlow Fine (procedures S) S.main
    unfolding main-is E
    fine-main =
        let q = procedures S in
        let r =
        good-cells S.pulse first_start (first S A first_start words W h) (E S A first_start words W h) W (memory_wires (memory_at S)) m (shows-wire S words W) (shows-array-wire S words W)
        (ground-is S A first_start words W h) (finish_of_root S) (ret S A first_start words W h) (procedures S) (fin-is S A first_start words W h) τ first_start first'
        E' U m' (shows-wire S words U) (shows-array-wire S words U) (suc bound) Q (walk_place S) S.main A.main.fit.formed A.main.earlier covered-main
        (start_of S A first_start words W h q) (delays_of S A first_start words W h q) (walk_of S A first_start words W h q) (behind-top q)
        (at-main-root S A first_start words W h).delays (at-main-root S A first_start words W h).walk
        (at-main S (StandsSlow Gated) (slow-root q (omega (arith, root-count S)))).walk (words-held S A first_start words W h words 0 bound began (omega arith) alone).0 in
        record {
          joins = ors-good T Q (walk_place S) 35 (or-kind T Q (walk_place S)) (joins_of S A first_start words W h q) (wires_of q (calls_of S));
          delays = r.0;
          walk = r.1;
        }

  -- Ors, memories and arrays

  zero-instant : Q 2
  unfolding netlist shape late
  zero-instant = instant 2 refl

  from-41 : (k : ℕ) → kinds net k ≡ 41 → Q k
  unfolding shape late
  from-41 k e = of-kind k 41 e refl

  data-ors : All (Joins Q) (data_at S) (data_ors S) × Every Q (data_wires S)
  data-ors =
      ors_from-joins Q (data_at S) behind 2 (data_of S) (data_at S) 0 20 (omega arith) zero-instant
      (wires-all _ Q from-41 (data_of S) (gated-sources S positive short low).0)

  address-ors : All (Joins Q) (address_at S) (address_ors S) × Every Q (address_wires S)
  address-ors =
      ors_from-joins Q (data_at S) behind 2 (addresses_of S) (address_at S) 16 4 (omega arith) zero-instant
      (wires-all _ Q from-41 (addresses_of S) (gated-sources S positive short low).1)

  data-seen : (x : ℕ) → x < 20 → Q (get_or (data_wires S) x 0)
  data-seen x l = every-at Q (data_wires S) data-ors.1 x (rw (outs-len 2 (data_of S) (data_at S) 0 20) l)

  address_seen : (k : ℕ) → k < 4 → Q (get_or (address_wires S) k 0)
  address_seen k l = every-at Q (address_wires S) address-ors.1 k (rw (outs-len 2 (addresses_of S) (address_at S) 16 4) l)

  fine : (bound k : ℕ) → k < length net → Fine bound k (cell_at net k)
  fine bound k l =
      let T₁ = T bound in
      let top = walk_place S in
      let z : (q : ℕ) → 0 + q ≡ q = λ q. omega arith in
      let c =
      roots-together S.pulse (Fine bound) (memory_wires (memory_at S)) (finish_of_root S) (procedures S) (calls_of S) 0 (roots S) 3 (walk_place S)
      (λ q l. rw (z q) (each-root S (StandsSlow (Fine bound)) (λ q l. fine-body bound q l) (fine-main bound) q l)) in
      rw (z k) at
      (all-at (Fine bound) net 0
      (unlay (Fine bound) S
      (record {
        at-start = other T₁ Q top 0 (cell 32 0 0 0) (refl, λ e. omega arith, λ e. omega arith, λ e. omega arith, λ e. omega arith);
        at-ground = other T₁ Q top 1 (cell 33 0 0 0) (refl, λ e. omega arith, λ e. omega arith, λ e. omega arith, λ e. omega arith);
        at_zero = other T₁ Q top 2 (cell 1 0 0 0) (low-kind T₁ Q top 1 (omega arith));
        at-delays = c.0;
        at-clocks = ors_from-good T₁ Q top 35 (or-kind T₁ Q top) (clocks_of S) (clock_at S) 0 20;
        at-mems = mems-good T₁ Q top (clock_wires S) (data_wires S) (address_wires S) data-seen address_seen (memory_at S) 0 16 (omega arith);
        at-arrays = arrays-good T₁ Q top (clock_wires S) (data_wires S) (address_wires S) data-seen address_seen (arrays_at S) 0 4 (omega arith);
        at-walk = c.1;
        at-datas = ors_from-good T₁ Q top 7 (low-kind T₁ Q top 7 (omega arith)) (data_of S) (data_at S) 0 20;
        at-addresses = ors_from-good T₁ Q top 7 (low-kind T₁ Q top 7 (omega arith)) (addresses_of S) (address_at S) 16 4;
      }))
      k l)

  -- from the first data or on
  abbrev Behind : ℕ → Cell → Type 0
  Behind k c = data_at S ≤ k → Joins Q k c

  before : (k : ℕ) (cs : List Cell) → k + length cs ≤ data_at S → All Behind k cs
  before k cs l = all_of Behind cs k (λ i b d. absurd (omega arith))

  later : (k : ℕ) (cs : List Cell) → All (Joins Q) k cs → All Behind k cs
  later k cs a = all_of Behind cs k (λ i b d. all-at (Joins Q) cs k a i b)

  ors-behind : (k : ℕ) → k < length net → data_at S ≤ k → Joins Q k (cell_at net k)
  ors-behind k l =
      rw zero-add at
      (all-at Behind net 0
      (unlay Behind S
      (record {
        at-start = λ d. absurd (omega arith);
        at-ground = λ d. absurd (omega arith);
        at_zero = λ d. absurd (omega arith);
        at-delays = before 3 (delay_cells S) (omega (arith, root-d-len S.pulse (procedures S) (calls_of S) 0 (roots S) 3 (walk_place S)));
        at-clocks = before (clock_at S) (clock_ors S) (omega (arith, ors_from-len 35 (clocks_of S) (clock_at S) 0 20));
        at-mems = before (memory_at S) (memory_cells S) (omega (arith, mems-len (clock_wires S) (data_wires S) 0 16));
        at-arrays = before (arrays_at S) (array_cells S) (omega (arith, arrays-len (clock_wires S) (data_wires S) (address_wires S) 0 4));
        at-walk = before (walk_place S) (walk_cells S)
            (omega (arith, root-w-len (memory_wires (memory_at S)) (finish_of_root S) (procedures S) (calls_of S) 0 (roots S) 3 (walk_place S)));
        at-datas = later (data_at S) (data_ors S) data-ors.0;
        at-addresses = later (address_at S) (address_ors S) address-ors.0;
      }))
      k l)

  -- Agreement, instant by instant and cell by cell ---------------------------------------------------------------------------------------------

  abbrev Agree : ℕ → ℕ → Type 0
  Agree t k = ((u : ℕ) → u < t → (j : ℕ) → j < length net → Q j → U j u ≡ W j u) × ((j : ℕ) → j < k → Q j → U j t ≡ W j t)

  upto : (t k : ℕ) → k ≤ length net → Agree t k → (j : ℕ) → j < k → Q j → (u : ℕ) → u ≤ t → U j u ≡ W j u
  upto t k l a j lj q u lu =
      ⊎_elim (λ (e : u ≡ t). rw e (a.1 j lj q)) (λ (lt : u < t). a.0 u lt j (omega arith) q) (eq-or-lt_of_le lu)

  clock-control : (j : ℕ) → j < length net → (cell_at net j).kind ≡ 42 → control (kinds net (cell_at net j).a) ≡ true
  unfolding shape cell_table
  clock-control j l q =
      let x : Looks (cell_table (shape 42)).row (kinds net) (length net) j (cell_at net j) =
      subst (λ (k : ℕ). Looks (cell_table (shape k)).row (kinds net) (length net) j (cell_at net j)) q (o.looks j l) in
      x.1.1

  -- the words of arrays, whose kind 42 is cell j
  elements-agree : (t k : ℕ) → k ≤ length net → Agree t k → (j i : ℕ) → j < k → (cell_at net j).kind ≡ 42 → (u : ℕ) → u ≤ t
      → element net words U j i u ≡ element net words W j i u
  unfolding element
  elements-agree t k l a j i lj q zero lu = refl
  elements-agree t k l a j i lj q (suc u) lu =
      let f = feeds net o j (omega arith) q in
      let s = o.stands j (omega arith) q in
      let p = o.arrays (cell_at net j).delay s.0 in
      let e : array_at net (cell_at net j).delay + 1 ≡ j + 1 = ap (λ (v : ℕ). v + 1) (sym s.1) in
      let next : j + 1 < length net = rw e at p.0 in
      let k43 : (cell_at net (j + 1)).kind ≡ 43 = rw e at p.3 in
      let clock : Q (cell_at net j).a = of-control (cell_at net j).a (clock-control j (omega arith) q) in
      cc (
        upto t k l a (cell_at net j).a (omega (arith, f.0)) clock u (omega arith),
        upto t k l a (cell_at net j).a (omega (arith, f.0)) clock (suc u) lu,
        a.0 u (omega arith) (cell_at net j).b f.1 ((fine 0 j (omega arith)).array q),
        a.0 u (omega arith) (cell_at net (j + 1)).a f.2 ((fine 0 (j + 1) next).address k43),
        elements-agree t k l a j i lj q u (omega arith),
      )

  array-at : (v : ℕ) → array_at net v ≡ array_cell (memory_at S) v
  array-at v = ap (λ (k : ℕ). k + 2 * v) (past_is S)

  array-kinds : (v : ℕ) → v < 4 → (cell_at net (array_cell (memory_at S) v)).kind ≡ 42
  array-kinds v l = ap (λ (k : ℕ). (cell_at net k).kind) (sym (array-at v)) ∙ (o.arrays v l).1

  memory-instant : (x : ℕ) → x < 16 → Q (memory_at S + x)
  unfolding shape late
  memory-instant x l = of-kind (memory_at S + x) 40 (memory-kinds S positive short low x l) refl

  words-agree : (t k : ℕ) → walk_place S ≤ k → k ≤ length net → Agree t k → (u : ℕ) → u ≤ t → (x : ℕ) → m u x ≡ m' u x
  words-agree t k top l a u lu x =
      by_le 16 x
      (λ b.
      by_le 272 x (λ b'. rw (le-ltb x 16 b, le-ltb x 272 b') refl)
      (λ b'.
      let v = (x - 16) / 64 in
      let small : v < 4 = omega arith in
      shows-array S words W x u b b'
      ∙ sym (elements-agree t k l a (array_cell (memory_at S) v) ((x - 16) % 64) (omega arith) (array-kinds v small) u lu)
      ∙ sym (shows-array S words U x u b b')))
      (λ b. shows S words W x u b ∙ sym (upto t k l a (memory_at S + x) (omega arith) (memory-instant x b) u lu) ∙ sym (shows S words U x u b))

  memory-agree : (word₀ t k : ℕ) (c : Cell) → k < length net → Q k → c.a < k → Q c.a → c.b < length net → Q c.b → Agree t k
      → memory word₀ U k c t ≡ memory word₀ W k c t
  unfolding memory
  memory-agree word₀ zero k c l q la qa lb qb a = refl
  memory-agree word₀ (suc t) k c l q la qa lb qb a =
      cc (
        a.0 t (le_refl (suc t)) c.a (omega arith) qa,
        a.1 c.a la qa,
        a.0 t (le_refl (suc t)) c.b lb qb,
        a.0 t (le_refl (suc t)) k l q,
      )

  module _ (t k : ℕ) (l : k < length net) (q : Q k) (a : Agree t k) where
    abbrev c : Cell
    c = cell_at net k

    wire : (j : ℕ) → j < k → control (kinds net j) ≡ true → (u : ℕ) → u ≤ t → U j u ≡ W j u
    wire j lj e u lu = upto t k (omega arith) a j lj (of-control j e) u lu

    trusting : uses c.kind ≡ true → level W c.a t ≡ true → U c.b t ≡ W c.b t
    trusting z y =
        let f = (fine t k l).trust z in
        f.1 t (omega arith) (words-agree t k f.0 (omega arith) a) y

    pulse : (j : ℕ) → j < k → control (kinds net j) ≡ true → level U j t ≡ level W j t
    pulse j lj e = ap (λ (x : ℕ). eqb x 1) (wire j lj e t (le_refl t))

    kind-of : (s : Shape) (j : ℕ) → shape c.kind ≡ s → (cell_table s).first ≡ j → (cell_table s).last ≡ j → c.kind ≡ j
    kind-of s j e f f' = only-kind c.kind j (ap (λ (x : Shape). (cell_table x).first) e ∙ f) (ap (λ (x : Shape). (cell_table x).last) e ∙ f')

    -- a cell that is no operator
    cell_agree : (s : Shape) → shape c.kind ≡ s → late s ≡ false → Looks (cell_table s).row (kinds net) (length net) k c
        → equation 1 s first_start (first' k) E' U k c t ≡ equation 1 s first_start (first' k) (element net words W) W k c t
    unfolding equation cell_table late
    cell_agree k_constant e z v = refl
    cell_agree k_complement e z v = not-both refl z
    cell_agree k_operator e z v = not-both refl z
    cell_agree k_start e z v = refl
    cell_agree k_ground e z v = refl
    cell_agree k_delay e z v =
        ap bit (delayed-here net words U W c.delay c.a t v.0.0 (λ u lu. a.0 u lu c.a v.1.0 (of-control c.a v.1.1)))
    cell_agree k_or e z v =
        ap₂ (λ (x y : ℕ). bit (eqb x 1 || eqb y 1)) (wire c.a v.1.0 v.1.1 t (le_refl t)) (wire c.b v.2.0 v.2.1 t (le_refl t))
    cell_agree k_when_true e z v =
        when_true (level U c.a t) (level W c.a t) (U c.b t) (W c.b t) (pulse c.a v.1.0 v.1.1)
        (trusting (ap uses (kind-of k_when_true 36 e refl refl)))
    cell_agree k_when_false e z v =
        when_false (level U c.a t) (level W c.a t) (U c.b t) (W c.b t) (pulse c.a v.1.0 v.1.1)
        (trusting (ap uses (kind-of k_when_false 37 e refl refl)))
    cell_agree k_merge e z v =
        ap bit (merged-cong net words U W (merge_step true) c.a c.b t (wire c.a v.1.0 v.1.1) (wire c.b v.2.0 v.2.1))
    cell_agree k_return e z v =
        ap bit (merged-cong net words U W (return_step true) c.a c.b t (wire c.a v.1.0 v.1.1) (wire c.b v.2.0 v.2.1))
    cell_agree k_memory e z v =
        memory-agree (first' k) t k c l q v.1.0 (of-control c.a v.1.1) v.2.0 ((fine 0 k l).word (kind-of k_memory 40 e refl refl)) a
    cell_agree k_gated e z v =
        gated (level U c.a t) (level W c.a t) (U c.b t) (W c.b t) (pulse c.a v.1.0 v.1.1)
        (trusting (ap uses (kind-of k_gated 41 e refl refl)))
    cell_agree k_array e z v = refl
    cell_agree k_address e z v = refl
    cell_agree k_read e z v = not-both refl z
    cell_agree k_latch e z v = absurd ((fine 0 k l).latch (kind-of k_latch 45 e refl refl))
    cell_agree k_unknown e z v = refl

    -- an or behind the walk
    or-agree : Joins Q k c → Looks (cell_table (shape c.kind)).row (kinds net) (length net) k c
        → equation 1 (shape c.kind) first_start (first' k) E' U k c t
        ≡ equation 1 (shape c.kind) first_start (first' k) (element net words W) W k c t
    unfolding equation cell_table shape
    or-agree j v =
        let v' : Looks (cell_table (shape 7)).row (kinds net) (length net) k c =
        subst (λ (i : ℕ). Looks (cell_table (shape i)).row (kinds net) (length net) k c) j.0 v in
        rw j.0
        (ap₂ (operate c.kind) (upto t k (omega arith) a c.a v'.1.0 j.1 t (le_refl t)) (upto t k (omega arith) a c.b v'.2.0 j.2 t (le_refl t)))

    ideally : W k t ≡ equation 1 (shape c.kind) first_start (first' k) (element net words W) W k c t
    unfolding Obeys
    ideally = subst (λ (w : ℕ). W k t ≡ equation w (shape c.kind) first_start (first' k) (element net words W) W k c t) one (h k l t)

    agrees : U k t ≡ W k t
    unfolding ObeysSlowly slow_cell slow
    agrees =
        by_le (data_at S) k
        (λ d. rw (le-ltb k (data_at S) d) at (h' k l t) ∙ or-agree (ors-behind k l d) (o.looks k l) ∙ sym ideally)
        (λ d.
        let z : late (shape c.kind) ≡ false = rw (lt-ltb k (data_at S) d) at q in
        rw (lt-ltb k (data_at S) d) at (h' k l t)
        ∙ instant-gate (shape c.kind) z τ first_start (first' k) E' U k c t
        ∙ cell_agree (shape c.kind) refl z (o.looks k l)
        ∙ sym ideally)

  row : (t : ℕ) → ((u : ℕ) → u < t → (j : ℕ) → j < length net → Q j → U j u ≡ W j u) → (k : ℕ) → k ≤ length net → (j : ℕ) → j < k → Q j → U j t ≡ W j t
  row t past zero l j lj q = absurd (not-suc-le-zero lj)
  row t past (suc k) l j lj q =
      let ih = row t past k (omega arith) in
      ⊎_elim (λ (e : j ≡ k). let qk : Q k = rw e at q in rw e (agrees t k l qk (past, ih))) (λ (lt : j < k). ih j lt q)
      (eq-or-lt_of_le (le_of_suc-le-suc lj))

  rows : (t : ℕ) (u : ℕ) → u < t → (j : ℕ) → j < length net → Q j → U j u ≡ W j u
  rows zero u l j lj q = absurd (not-suc-le-zero l)
  rows (suc t) u l j lj q =
      ⊎_elim (λ (e : u ≡ t). rw e (row t (rows t) (length net) (le_refl (length net)) j lj q)) (λ (lt : u < t). rows t u lt j lj q)
      (eq-or-lt_of_le (le_of_suc-le-suc l))

  -- every cell but the operators of the walk, and every element
  pub slow-agrees : (k : ℕ) → k < length net → Q k → (t : ℕ) → U k t ≡ W k t
  slow-agrees k l q t = rows (suc t) t (le_refl (suc t)) k l q

  pub control-agrees : (k : ℕ) → k < length net → control (cell_at net k).kind ≡ true → (t : ℕ) → U k t ≡ W k t
  control-agrees k l e t = slow-agrees k l (of-control k e) t

  pub kind-agrees : (k j : ℕ) → k < length net → (cell_at net k).kind ≡ j → late (shape j) ≡ false → (t : ℕ) → U k t ≡ W k t
  kind-agrees k j l e z t = slow-agrees k l (of-kind k j e z) t

  pub slow-elements : (v i t : ℕ) → v < 4 → element net words U (array_at net v) i t ≡ element net words W (array_at net v) i t
  slow-elements v i t l =
      let p = o.arrays v l in
      elements-agree t (length net) (le_refl (length net)) ((λ u lu j lj q. slow-agrees j lj q u), (λ j lj q. slow-agrees j lj q t)) (array_at net v) i
      (omega (arith, p.0)) p.1 t (le_refl t)
