-- The structure theorem: the published netlist of a program is a circuit of the program, with its words and its start pulses.
use Rattle.std.specs.Prelude.{◌≡◌, Bool, true, ◌&&◌, not, List, [], ◌∷◌, ◌++◌, eqb, ltb, length, get_or, take}
use Rattle.std.proofs.Math.Path.{refl, sym, ap, ap₂, subst}
use Rattle.std.proofs.Common.{◌∙◌, not-suc-le-zero, le_of_suc-le-suc, eqb→eq}
use Rattle.std.proofs.Math.Bool.{false}
use Prim.Native.Nat.{ℕ, zero, suc, ◌+◌, ◌-◌, ◌*◌, ◌/◌, ◌%◌, ◌<◌, ◌≤◌}
use Rattle.std.proofs.Math.Nat.{add-zero}
use native.Mathlib.Omega.{arith}
use Rattle.std.proofs.Math.ListN.{get_or-eq_default}
use Rattle.std.proofs.Math.Seq.{take-append-add}
use borrow.Author.Tests.{eq-eqb, ne_eqb, lt-ltb, le-ltb}
use Rattle.model.specs.declared.Cell.{Cell}
use Rattle.model.specs.Word.{pick, bit, index, element_word}
use Rattle.model.specs.Program.{Code, Program, roots, ok, tick, assign, assign_elem, seq, par, ite, while, repeat, loop, exit, call, array_var}
use Rattle.model.specs.Procedures.{body_at}
use Rattle.model.specs.Circuit.{pulses, cell, Sig, Values, Elements, level, memory, element, memories, start_word, Obeys}
use Rattle.model.specs.Numbering.{circuit_of, array_cell, memory_wires, if_delay_count, delay_count, clock_sources, Source, wires_of}
use Rattle.model.specs.Numbering.{finish_wire, delays, walk, ors, ors_out, or_count, ors_from, outs_from, memories_of, root_start, root_walk, root_sources, calls_of, clocks_of, data_of, addresses_of, procedures, finish_of_root, netlist, finish}
use Rattle.model.specs.Numbering.{clock_at, memory_at, walk_place, data_at, address_at, clock_wires, data_wires, address_wires}
use Rattle.laws.specs.Refusals.Laws.{is_false, by_le}
use Rattle.laws.specs.Rules.Words.{owner-variable, owner-later}
use Rattle.laws.specs.Numbering.Cells.{cell_val, Rule, Obeyed, split, obeys-holds}
use Rattle.laws.specs.Numbering.Memories.{memories-append}
use Rattle.laws.specs.Numbering.Valid.{memory-wire, array-wire}
use Rattle.laws.specs.Numbering.Lengths.{ors-len}
use Rattle.laws.specs.Numbering.Parts.{from_arrays, from_memories, Laid, lay}
use Rattle.laws.specs.Numbering.Arrays.{array-cells, below, parts, below-len, below_free}
use Rattle.laws.specs.Program.Fit.{Formed, Earlier, EveryRoot}
use Rattle.laws.specs.Program.Enclosed.{root_at}
use Rattle.laws.specs.Program.Size.{every-root}
use Rattle.laws.specs.Program.Admitted.{Admitted, earlier-all, each-root, at_body, at-main, root-count}
use Rattle.theory.specs.Control.Wiring.{ground, Gives, ideal, hits, latch, Latches, Circuit, Mem}
use Rattle.theory.specs.Control.Standing.{Signals}
use Rattle.theory.specs.Numbering.Levels.{level-of, any_high, clk_of, dat_of, gives_at, wires-append}
use Rattle.theory.specs.Numbering.Roots.{AtRoot, delays_at, joins_at, roots-apart, finish-at, never-called}
use Rattle.theory.specs.Numbering.Ors.{ors-level, ors-word}
use Rattle.theory.specs.Numbering.Structure.{struct}

-- ---- the ors of each variable

module _ (pulse : ℕ) (starts : Sig) (first : ℕ → ℕ) (E : Elements) (W : Values) where
  pub outs-level : ((t : ℕ) → level W 1 t ≡ false) → (ws : List Source) (n x j : ℕ) → Obeyed pulse starts first E W n (ors_from 35 ws n x j)
      → (i : ℕ) → i < j → (t : ℕ) → level W (get_or (outs_from 1 ws n x j) i 0) t ≡ clk_of W ws (x + i) t
  unfolding ors_from outs_from
  outs-level g ws n x zero h i l t = absurd (not-suc-le-zero l)
  outs-level g ws n x (suc j) h zero l t =
      let r = split (Rule pulse starts first E W) n (or_count (wires_of x ws)) (ors 35 n (wires_of x ws)) (ors_from 35 ws (n + or_count (wires_of x ws)) (x + 1) j) (ors-len 35 n (wires_of x ws)) h in
      rw (add-zero x) (ors-level pulse starts first E W g n (wires_of x ws) r.0 t)
  outs-level g ws n x (suc j) h (suc i) l t =
      let r = split (Rule pulse starts first E W) n (or_count (wires_of x ws)) (ors 35 n (wires_of x ws)) (ors_from 35 ws (n + or_count (wires_of x ws)) (x + 1) j) (ors-len 35 n (wires_of x ws)) h in
      let e : x + 1 + i ≡ x + suc i = omega arith in
      outs-level g ws (n + or_count (wires_of x ws)) (x + 1) j r.1 i (le_of_suc-le-suc l) t ∙ ap (λ (y : ℕ). clk_of W ws y t) e

  pub outs-word : ((t : ℕ) → W 2 t ≡ 0) → (ws : List Source) (n x j : ℕ) → Obeyed pulse starts first E W n (ors_from 7 ws n x j)
      → (i : ℕ) → i < j → (t : ℕ) → W (get_or (outs_from 2 ws n x j) i 0) t ≡ dat_of W ws (x + i) t
  unfolding ors_from outs_from
  outs-word g ws n x zero h i l t = absurd (not-suc-le-zero l)
  outs-word g ws n x (suc j) h zero l t =
      let r = split (Rule pulse starts first E W) n (or_count (wires_of x ws)) (ors 7 n (wires_of x ws)) (ors_from 7 ws (n + or_count (wires_of x ws)) (x + 1) j) (ors-len 7 n (wires_of x ws)) h in
      rw (add-zero x) (ors-word pulse starts first E W g n (wires_of x ws) r.0 t)
  outs-word g ws n x (suc j) h (suc i) l t =
      let r = split (Rule pulse starts first E W) n (or_count (wires_of x ws)) (ors 7 n (wires_of x ws)) (ors_from 7 ws (n + or_count (wires_of x ws)) (x + 1) j) (ors-len 7 n (wires_of x ws)) h in
      let e : x + 1 + i ≡ x + suc i = omega arith in
      outs-word g ws (n + or_count (wires_of x ws)) (x + 1) j r.1 i (le_of_suc-le-suc l) t ∙ ap (λ (y : ℕ). dat_of W ws y t) e

  -- the memories
  mem-at : (ks ds : List ℕ) (x n k : ℕ) → Obeyed pulse starts first E W k (memories_of ks ds x n) → (i : ℕ) → i < n → (t : ℕ)
      → W (k + i) t ≡ memory (first (k + i)) W (k + i) (cell 40 0 (get_or ks (x + i) 0) (get_or ds (x + i) 0)) t
  unfolding memories_of cell_val
  mem-at ks ds x zero k h i l t = absurd (omega arith)
  mem-at ks ds x (suc n) k h zero l t = rw (add-zero k, add-zero x) (h.0 t)
  mem-at ks ds x (suc n) k h (suc i) l t =
      let p : k + 1 + i ≡ k + suc i = omega arith in
      let q : x + 1 + i ≡ x + suc i = omega arith in
      rw (p, q) at (mem-at ks ds (x + 1) n (k + 1) h.1 i (le_of_suc-le-suc l) t)

-- ---- the start words: below memory x stand x memories

mems-count : (ks ds : List ℕ) (x n : ℕ) (rest : List Cell) (i : ℕ) → i ≤ n → memories (take i (memories_of ks ds x n ++ rest)) ≡ i
unfolding memories memories_of bit
mems-count ks ds x n rest zero l = refl
mems-count ks ds x zero rest (suc i) l = absurd (omega arith)
mems-count ks ds x (suc n) rest (suc i) l = rw (mems-count ks ds (x + 1) n rest i (le_of_suc-le-suc l)) (omega arith)

pub start-words : (S : Program) (words : ℕ → ℕ) (x : ℕ) → x < 16 → start_word (netlist S) words (memory_at S + x) ≡ words x
start-words S words x l =
    ap words
    (ap (λ (net : List Cell). memories (take (memory_at S + x) net)) (parts S)
    ∙ ap (λ (k : ℕ). memories (take (k + x) (below S ++ from_memories S))) (sym (below-len S))
    ∙ ap memories (take-append-add (below S) (from_memories S) x)
    ∙ memories-append (below S) (take x (from_memories S))
    ∙ ap₂ (λ (a b : ℕ). a + b) (below_free S) (mems-count (clock_wires S) (data_wires S) 0 16 (from_arrays S) x (omega arith))
    ∙ omega arith)

-- ---- from 20 on nothing is assigned

single : (x y g : ℕ) → x < 20 → 20 ≤ y → wires_of y ((x, g) ∷ []) ≡ []
unfolding wires_of
single x y g l h = rw (is_false (eqb x y) (λ z. let e : x ≡ y = eqb→eq x y z in omega arith))

no-clocks : (P : Code) → Formed P → (y d : ℕ) → 20 ≤ y → wires_of y (clock_sources P d) ≡ []
unfolding clock_sources
no-clocks ok w y d h = unfold wires_of in refl
no-clocks (tick δ) w y d h = unfold wires_of in refl
no-clocks (assign δ x e) w y d h = single x y d (omega (arith, w.1)) h
no-clocks (assign_elem δ k i e) w y d h = single (array_var k) y d (omega (arith, w.1)) h
no-clocks (seq P Q) w y d h = simp (wires-append, no-clocks P w.0 y d h, no-clocks Q w.1 y (d + delay_count P) h)
no-clocks (par P Q) w y d h = simp (wires-append, no-clocks P w.0 y d h, no-clocks Q w.1 y (d + delay_count P) h)
no-clocks (ite δ e P Q) w y d h = simp (wires-append, no-clocks P w.2 y (d + if_delay_count δ) h, no-clocks Q w.3 y (d + if_delay_count δ + delay_count P) h)
no-clocks (while δ e P) w y d h = no-clocks P w.2 y (d + 1) h
no-clocks (repeat δ e P) w y d h = no-clocks P w.2 y (d + 1) h
no-clocks (loop δ P) w y d h = no-clocks P w.1 y (d + 1) h
no-clocks exit w y d h = unfold wires_of in refl
no-clocks (call δ p) w y d h = unfold wires_of in refl

no-root-clocks : (r : ℕ) (Ps : List Code) → EveryRoot (λ r P. Formed P) r Ps → (y d : ℕ) → 20 ≤ y → wires_of y (root_sources clock_sources Ps d) ≡ []
unfolding root_sources
no-root-clocks r [] w y d h = unfold wires_of in refl
no-root-clocks r (P ∷ Ps) w y d h = simp (wires-append, no-clocks P w.0 y d h, no-root-clocks (r + 1) Ps w.1 y (d + delay_count P) h)

-- ---- the theorem

-- the words of the variables, which the memories show, and of the arrays; the words past these never change
abbrev pub showing : Program → (ℕ → ℕ) → Values → ℕ → ℕ → ℕ
showing S words W t x =
    pick (ltb x 16) (W (memory_at S + x) t)
    (pick (ltb x 272) (element (netlist S) words W (array_cell (memory_at S) ((x - 16) / 64)) ((x - 16) % 64) t) (words x))

module _ (S : Program) (words : ℕ → ℕ) (W : Values) where
  pub shows : (x t : ℕ) → x < 16 → showing S words W t x ≡ W (memory_at S + x) t
  shows x t l = rw (lt-ltb x 16 l)

  pub shows-array : (x t : ℕ) → 16 ≤ x → x < 272
      → showing S words W t x ≡ element (netlist S) words W (array_cell (memory_at S) ((x - 16) / 64)) ((x - 16) % 64) t
  shows-array x t l h = rw (le-ltb x 16 l, lt-ltb x 272 h)

  pub shows-element : (k w t : ℕ) → k < 4 → showing S words W t (element_word k w) ≡ element (netlist S) words W (array_cell (memory_at S) k) (index w) t
  unfolding element_word
  shows-element k w t l =
      let p : (16 + (64 * k + index w) - 16) / 64 ≡ k = omega arith in
      let q : (16 + (64 * k + index w) - 16) % 64 ≡ index w = omega arith in
      shows-array (16 + (64 * k + index w)) t (omega arith) (omega arith)
      ∙ ap₂ (λ (a b : ℕ). element (netlist S) words W (array_cell (memory_at S) a) b t) p q

  -- by the wires of memories and arrays
  pub shows-wire : (x t : ℕ) → x < 16 → showing S words W t x ≡ W (memory_wires (memory_at S) x) t
  shows-wire x t l = shows x t l ∙ ap (λ (k : ℕ). W k t) (sym (memory-wire (memory_at S) x l))

  pub shows-array-wire : (k w t : ℕ) → k < 4
      → showing S words W t (element_word k w) ≡ element (netlist S) words W (memory_wires (memory_at S) (array_var k)) (index w) t
  shows-array-wire k w t l =
      shows-element k w t l ∙ ap (λ (j : ℕ). element (netlist S) words W j (index w) t) (sym (array-wire (memory_at S) k))

latch-hit : (p q : Bool) (v w : ℕ) → latch p q true v w ≡ pick (p && not q) v w
unfolding latch
latch-hit true true v w = refl
latch-hit true false v w = refl
latch-hit false q v w = refl

module _ (S : Program) (A : Admitted S) (starts : Sig) (words : ℕ → ℕ) (W : Values) (h : Obeys (circuit_of S) starts words W) where
  pub first : ℕ → ℕ
  first k = start_word (netlist S) words k

  unfoldable pub E : Elements
  E = element (netlist S) words W

  pub laid : Laid (Rule S.pulse starts first E W) S
  unfolding first E
  laid = lay (Rule S.pulse starts first E W) S (obeys-holds (circuit_of S) starts words W h)

  pub start_is : (t : ℕ) → level W 0 t ≡ pulses S.pulse starts t
  unfolding cell_val
  start_is t = level-of (pulses S.pulse starts t) (laid.at-start t)

  pub ground-is : (t : ℕ) → level W 1 t ≡ false
  unfolding cell_val bit
  ground-is t = level-of false (laid.at-ground t)

  zero_is : (t : ℕ) → W 2 t ≡ 0
  unfolding cell_val
  zero_is t = laid.at_zero t

  -- the clock wire, data wire and address wire of each variable and array
  pub clock-wire : (x : ℕ) → x < 20 → (t : ℕ) → level W (get_or (clock_wires S) x 0) t ≡ clk_of W (clocks_of S) x t
  clock-wire x l t =
      let z : 0 + x ≡ x = omega arith in
      rw z at (outs-level S.pulse starts first E W ground-is (clocks_of S) (clock_at S) 0 20 laid.at-clocks x l t)

  pub data-wire : (x : ℕ) → x < 20 → (t : ℕ) → W (get_or (data_wires S) x 0) t ≡ dat_of W (data_of S) x t
  data-wire x l t =
      let z : 0 + x ≡ x = omega arith in
      rw z at (outs-word S.pulse starts first E W zero_is (data_of S) (data_at S) 0 20 laid.at-datas x l t)

  pub address-wire : (k : ℕ) → k < 4 → (t : ℕ) → W (get_or (address_wires S) k 0) t ≡ dat_of W (addresses_of S) (array_var k) t
  address-wire k l t = outs-word S.pulse starts first E W zero_is (addresses_of S) (address_at S) 16 4 laid.at-addresses k l t

  mem_is : (x : ℕ) → x < 16 → (t : ℕ)
      → W (memory_at S + x) t ≡ memory (first (memory_at S + x)) W (memory_at S + x) (cell 40 0 (get_or (clock_wires S) x 0) (get_or (data_wires S) x 0)) t
  mem_is x l t =
      let z : 0 + x ≡ x = omega arith in
      rw z at (mem-at S.pulse starts first E W (clock_wires S) (data_wires S) 0 16 (memory_at S) laid.at-mems x l t)

  -- Where each root stands: its callers' 35s, its delays, its walk and its start ----------------------------------------------------------

  abbrev pub n : ℕ
  n = procedures S

  abbrev pub joins_of : ℕ → ℕ
  joins_of q = joins_at (calls_of S) 0 (roots S) (walk_place S) q

  abbrev pub delays_of : ℕ → ℕ
  delays_of q = delays_at (roots S) 3 q

  abbrev pub walk_of : ℕ → ℕ
  walk_of q = root_walk (calls_of S) q (joins_of q)

  abbrev pub start_of : ℕ → ℕ
  start_of q = root_start n (calls_of S) q (joins_of q)

  abbrev pub Stands : (ℕ → Cell → Type 0) → ℕ → Code → Type 0
  Stands R q P = AtRoot S.pulse R (memory_wires (memory_at S)) (finish_of_root S) n (calls_of S) q P (delays_of q) (joins_of q)

  at-root : (q : ℕ) → q < length (roots S) → Stands (Rule S.pulse starts first E W) q (root_at S q)
  at-root q l =
      let z : 0 + q ≡ q = omega arith in
      rw z at
      (roots-apart S.pulse (Rule S.pulse starts first E W) (memory_wires (memory_at S)) (finish_of_root S) n (calls_of S) 0 (roots S) 3 (walk_place S) laid.at-delays laid.at-walk q l)

  pub at-body-root : (q : ℕ) → q < n → Stands (Rule S.pulse starts first E W) q (body_at S.bodies q)
  at-body-root q l = at_body S (Stands (Rule S.pulse starts first E W)) q l (at-root q (omega (arith, root-count S)))

  pub at-main-root : Stands (Rule S.pulse starts first E W) n S.main
  at-main-root = at-main S (Stands (Rule S.pulse starts first E W)) (at-root n (omega (arith, root-count S)))

  -- a body that there is not has no cells
  pub body-delays : (q : ℕ) → Obeyed S.pulse starts first E W (delays_of q) (delays S.pulse (body_at S.bodies q) (start_of q) (delays_of q) (walk_of q))
  unfolding delays
  body-delays q =
      by_le n q
      (λ l.
      subst (λ (P : Code). Obeyed S.pulse starts first E W (delays_of q) (delays S.pulse P (start_of q) (delays_of q) (walk_of q)))
      (sym (get_or-eq_default S.bodies ok l)) tt)
      (λ l. (at-body-root q l).delays)

  pub body-walk : (q : ℕ)
      → Obeyed S.pulse starts first E W (walk_of q) (walk (memory_wires (memory_at S)) (finish_of_root S) (body_at S.bodies q) (start_of q) (delays_of q) (walk_of q))
  unfolding walk
  body-walk q =
      by_le n q
      (λ l.
      subst (λ (P : Code). Obeyed S.pulse starts first E W (walk_of q) (walk (memory_wires (memory_at S)) (finish_of_root S) P (start_of q) (delays_of q) (walk_of q)))
      (sym (get_or-eq_default S.bodies ok l)) tt)
      (λ l. (at-body-root q l).walk)

  -- its finish
  abbrev pub finish_wire_of : Code → ℕ → ℕ
  finish_wire_of P q = finish_wire P (start_of q) (delays_of q) (walk_of q)

  finish-root : (q : ℕ) → q < length (roots S) → finish_of_root S q ≡ finish_wire_of (root_at S q) q
  unfolding finish_of_root
  finish-root q l =
      let z : 0 + q ≡ q = omega arith in
      rw z at (finish-at n (calls_of S) 0 (roots S) 3 (walk_place S) q l)

  unfoldable pub ret : ℕ → Sig
  ret q = level W (finish_wire_of (body_at S.bodies q) q)

  pub fin-is : (p t : ℕ) → p < n → level W (finish_of_root S p) t ≡ ret p t
  unfolding ret
  fin-is p t l =
      ap (λ (k : ℕ). level W k t) (at_body S (λ q P. finish_of_root S q ≡ finish_wire_of P q) p l (finish-root p (omega (arith, root-count S))))

  pub finish-main : finish S ≡ finish_wire_of S.main n
  unfolding finish
  finish-main = at-main S (λ q P. finish_of_root S q ≡ finish_wire_of P q) (finish-root n (omega (arith, root-count S)))

  -- nobody calls the main program
  main-uncalled : wires_of n (calls_of S) ≡ []
  main-uncalled =
      never-called n (roots S) (each-root S (λ q P. Earlier n P) (λ q l. earlier-all S A q) A.main.earlier) 3

  pub start-main : start_of n ≡ 0
  unfolding ors_out
  start-main = rw (main-uncalled, eq-eqb n n refl) refl

  -- the start of a body is all that calls it
  pub start-body : (q : ℕ) → q < n → (t : ℕ) → level W (start_of q) t ≡ clk_of W (calls_of S) q t
  start-body q l t =
      let z : eqb q n ≡ false = ne_eqb q n (λ e. omega arith) in
      rw z (ors-level S.pulse starts first E W ground-is (joins_of q) (wires_of q (calls_of S)) (at-body-root q l).joins t)

  -- The circuit --------------------------------------------------------------------------------------------------------------------------

  -- what a root gives, and all that is given
  abbrev pub given_by : Code → ℕ → Gives
  given_by P q = gives_at W P (start_of q) (delays_of q) (walk_of q)

  abbrev pub given : Gives
  given = record { clk = clk_of W (clocks_of S); dat = dat_of W (data_of S); adr = dat_of W (addresses_of S); calls = λ q. level W (start_of q); out = ground }

  abbrev pub body : ℕ → Code
  body q = body_at S.bodies q

  unfoldable pub body_is : (q : ℕ) → Circuit S.pulse (ideal (showing S words W)) ret (body q) (given.calls q) (ret q) (given_by (body q) q)
  unfolding E ret
  body_is q =
      struct S.pulse starts first E W (memory_wires (memory_at S)) (showing S words W) (shows-wire S words W) (shows-array-wire S words W) ground-is (finish_of_root S) ret n fin-is (body q)
      (A.body q).fit.formed (earlier-all S A q) (start_of q) (delays_of q) (walk_of q) (body-delays q) (body-walk q)

  unfoldable pub main-is : Circuit S.pulse (ideal (showing S words W)) ret S.main (level W (start_of n)) (level W (finish_wire_of S.main n)) (given_by S.main n)
  unfolding E
  main-is =
      struct S.pulse starts first E W (memory_wires (memory_at S)) (showing S words W) (shows-wire S words W) (shows-array-wire S words W) ground-is (finish_of_root S) ret n fin-is S.main
      A.main.fit.formed A.main.earlier (start_of n) (delays_of n) (walk_of n) at-main-root.delays at-main-root.walk

  -- word x after instant t: of a variable, of an element, and of none
  variable-is : (x t : ℕ) → x < 16 → Latches (showing S words W) given x t
  unfolding memory hits
  variable-is x t l =
      let y : x < 20 = omega arith in
      rw (owner-variable x l, lt-ltb x 16 l)
      (rw (clock-wire x y t, clock-wire x y (suc t), data-wire x y t) at (mem_is x l (suc t)) ∙ sym (latch-hit _ _ _ _))

  element-is : (x t : ℕ) → 16 ≤ x → x < 272 → Latches (showing S words W) given x t
  unfolding element hits latch
  element-is x t l b =
      let k = (x - 16) / 64 in
      let low : k < 4 = omega arith in
      let y : array_var k < 20 = omega arith in
      let c = array-cells S k low in
      rw (owner-later x l, le-ltb x 16 l, lt-ltb x 272 b, c.0, c.1, clock-wire (array_var k) y t, clock-wire (array_var k) y (suc t), data-wire (array_var k) y t, address-wire k low t)

  every-formed : EveryRoot (λ r P. Formed P) 0 (roots S)
  every-formed =
      every-root (λ r P. Formed P) 0 (roots S)
      (λ r l. each-root S (λ q P. Formed P) (λ q l. (A.body q).fit.formed) A.main.fit.formed r l)

  other-is : (x t : ℕ) → 272 ≤ x → Latches (showing S words W) given x t
  unfolding latch any_high
  other-is x t l = rw (owner-later x (omega arith), no-root-clocks 0 (roots S) every-formed (array_var ((x - 16) / 64)) 3 (omega arith), le-ltb x 16 (omega arith), le-ltb x 272 l)

  pub memory-is : Mem (showing S words W) given
  unfolding Mem
  memory-is t x = by_le 16 x (λ l. by_le 272 x (other-is x t) (element-is x t l)) (variable-is x t)

  pub begin-is : (x : ℕ) → showing S words W 0 x ≡ words x
  unfolding memory element first element_word
  begin-is x =
      by_le 16 x
      (λ l. by_le 272 x (λ b. rw (le-ltb x 16 l, le-ltb x 272 b))
      (λ b.
      let k = (x - 16) / 64 in
      let low : k < 4 = omega arith in
      let z : 16 + (64 * k + index ((x - 16) % 64)) ≡ x = omega arith in
      shows-array S words W x 0 l b ∙ ap (λ (c : Cell). words (16 + (64 * c.delay + index ((x - 16) % 64)))) (array-cells S k low).0 ∙ ap words z))
      (λ l. rw (lt-ltb x 16 l) (mem_is x l 0 ∙ start-words S words x l))

  abbrev pub signals : Signals S
  signals =
      record {
        m = showing S words W;
        all = given;
        mem = memory-is;
        ret = ret;
        each = λ q. given_by (body q) q;
        built = body_is;
      }
