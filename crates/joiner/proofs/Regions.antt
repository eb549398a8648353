-- The netlist of a program without procedures: where its delay cells and its walk stand, and that these are its statement's; and a file's cells as parts
-- of the list of all of them. Assumes nothing.
use mathlib.Core.Path.{◌≡◌, refl, sym, ap, ap₂, ◌∙◌}
use mathlib.Core.List.{List, [], ◌∷◌, ◌++◌, append-nil}
use Prim.Native.Nat.{ℕ, zero, suc, ◌+◌, ◌≤◌}
use native.Mathlib.Nat.{add-zero, zero-add}
use native.Mathlib.Omega.{arith}
use lib.ListN.{length, get_or, take, drop}
use lib.Seq.{take_at, drop_at, drop-drop}
use Rattle.model.specs.declared.Cell.{Cell}
use Rattle.model.specs.Program.{Code, ok, tick, assign, assign_elem, seq, par, ite, while, repeat, loop, exit, call, Program, roots}
use Rattle.model.specs.Numbering.{Wires, memory_wires, Source, delay_count, walk_count, then_delays, else_delays, finish_wire, delays, walk, call_sources, ors_out, or_count, ors, wires_of, or_count_from, root_delay_count, root_walk_count, root_finishes, root_delays, root_walks, root_sources, calls_of, clocks_of, clock_at, memory_at, walk_place, clock_wires, data_wires, address_wires, finish_of_root, netlist, finish}
use Rattle.model.specs.NetlistFile.{cell_from, cells_at, in_file, cells_of, count_of}
use Rattle.laws.specs.Program.Fit.{Earlier}
use Rattle.laws.specs.Program.Sequence.{one_root}
use Rattle.laws.specs.Numbering.Lengths.{d-len, w-len}
use Rattle.laws.specs.Numbering.Parts.{delay_cells, clock_ors, memory_cells, array_cells, walk_cells, from_datas, from_walk, from_arrays, from_memories, from_clocks, ors_from-len, mems-len, arrays-len}

-- nothing is called
no-calls : (P : Code) → Earlier 0 P → (d : ℕ) → call_sources P d ≡ []
unfolding call_sources
no-calls ok w d = refl
no-calls (tick δ) w d = refl
no-calls (assign δ x e) w d = refl
no-calls (assign_elem δ k i e) w d = refl
no-calls (seq P Q) w d = ap₂ ◌++◌ (no-calls P w.0 d) (no-calls Q w.1 (d + delay_count P))
no-calls (par P Q) w d = ap₂ ◌++◌ (no-calls P w.0 d) (no-calls Q w.1 (d + delay_count P))
no-calls (ite δ e P Q) w d = ap₂ ◌++◌ (no-calls P w.2 (then_delays δ d)) (no-calls Q w.3 (else_delays δ P d))
no-calls (while δ e P) w d = no-calls P w.2 (d + 1)
no-calls (repeat δ e P) w d = no-calls P w.2 (d + 1)
no-calls (loop δ P) w d = no-calls P w.1 (d + 1)
no-calls exit w d = refl
no-calls (call δ p) w d = absurd (omega arith)

module _ (v : ℕ) (P : Code) (n : Earlier 0 P) where
  abbrev S : Program
  S = one_root v P

  pub calls-none : calls_of S ≡ []
  unfolding root_sources
  calls-none = append-nil (call_sources P 3) ∙ no-calls P n 3

  -- one root, which nobody calls
  module _ (c : ℕ) where
    pub one-delays : root_delays v 0 [] 0 (P ∷ []) 3 c ≡ delays v P 0 3 c
    unfolding root_delays ors_out or_count wires_of
    one-delays = append-nil (delays v P 0 3 (c + 0)) ∙ ap (delays v P 0 3) (add-zero c)

    pub one-walk : (M : Wires) (F : ℕ → ℕ) → root_walks M F 0 [] 0 (P ∷ []) 3 c ≡ walk M F P 0 3 c
    unfolding root_walks ors ors_out or_count wires_of
    one-walk M F = append-nil (walk M F P 0 3 (c + 0)) ∙ ap (walk M F P 0 3) (add-zero c)

    pub one-finish : root_finishes 0 [] 0 (P ∷ []) 3 c ≡ finish_wire P 0 3 c ∷ []
    unfolding root_finishes ors_out or_count wires_of
    one-finish = ap (λ (k : ℕ). finish_wire P 0 3 k ∷ []) (add-zero c)

  pub delay-count : root_delay_count (roots S) ≡ delay_count P
  unfolding root_delay_count
  delay-count = add-zero (delay_count P)

  pub walk-count : root_walk_count (calls_of S) 0 (roots S) ≡ walk_count P
  unfolding root_walk_count or_count wires_of
  walk-count = ap (λ (cs : List Source). root_walk_count cs 0 (P ∷ [])) calls-none ∙ omega arith

  pub delays-are : delay_cells S ≡ delays v P 0 3 (walk_place S)
  delays-are = ap (λ (cs : List Source). root_delays v 0 cs 0 (P ∷ []) 3 (walk_place S)) calls-none ∙ one-delays (walk_place S)

  pub walk_is : walk_cells S ≡ walk (memory_wires (memory_at S)) (finish_of_root S) P 0 3 (walk_place S)
  walk_is =
      ap (λ (cs : List Source). root_walks (memory_wires (memory_at S)) (finish_of_root S) 0 cs 0 (P ∷ []) 3 (walk_place S)) calls-none
      ∙ one-walk (walk_place S) (memory_wires (memory_at S)) (finish_of_root S)

  pub finish-is : finish S ≡ finish_wire P 0 3 (walk_place S)
  unfolding finish finish_of_root
  finish-is =
      ap (λ (cs : List Source). get_or (root_finishes 0 cs 0 (P ∷ []) 3 (walk_place S)) 0 1) calls-none ∙ ap (λ (l : List ℕ). get_or l 0 1) (one-finish (walk_place S))

  pub memory-is : memory_at S ≡ 3 + delay_count P + or_count_from (clocks_of S) 0 20
  memory-is = ap (λ (k : ℕ). 3 + k + or_count_from (clocks_of S) 0 20) delay-count

  -- where they stand
  pub past-delays : drop (3 + delay_count P) (netlist S) ≡ from_clocks S
  unfolding netlist
  past-delays =
      sym (drop-drop (delay_count P) 3 (netlist S))
      ∙ drop_at (delay_cells S) (from_clocks S) (delay_count P) (ap length delays-are ∙ d-len v P 0 3 (walk_place S))

  pub delays-stand : take (delay_count P) (drop 3 (netlist S)) ≡ delays v P 0 3 (walk_place S)
  unfolding netlist
  delays-stand = take_at (delay_cells S) (from_clocks S) (delay_count P) (ap length delays-are ∙ d-len v P 0 3 (walk_place S)) ∙ delays-are

  pub past-arrays : drop (memory_at S + 24) (netlist S) ≡ from_walk S
  past-arrays =
      let o = or_count_from (clocks_of S) 0 20 in
      let m = memory-is in
      let e : memory_at S + 24 ≡ (3 + delay_count P + o + 16) + 8 = omega (arith, m) in
      ap (λ (k : ℕ). drop k (netlist S)) e
      ∙ sym (drop-drop 8 (3 + delay_count P + o + 16) (netlist S))
      ∙ ap (drop 8)
      (sym (drop-drop 16 (3 + delay_count P + o) (netlist S))
      ∙ ap (drop 16)
      (sym (drop-drop o (3 + delay_count P) (netlist S)) ∙ ap (drop o) past-delays
      ∙ drop_at (clock_ors S) (from_memories S) o (ors_from-len 35 (clocks_of S) (clock_at S) 0 20))
      ∙ drop_at (memory_cells S) (from_arrays S) 16 (mems-len (clock_wires S) (data_wires S) 0 16))
      ∙ drop_at (array_cells S) (from_walk S) 8 (arrays-len (clock_wires S) (data_wires S) (address_wires S) 0 4)

  pub walk-stands : take (walk_count P) (drop (memory_at S + 24) (netlist S)) ≡ walk (memory_wires (memory_at S)) (finish_of_root S) P 0 3 (walk_place S)
  walk-stands =
      ap (take (walk_count P)) past-arrays
      ∙ take_at (walk_cells S) (from_datas S) (walk_count P) (ap length walk_is ∙ w-len (memory_wires (memory_at S)) (finish_of_root S) P 0 3 (walk_place S)) ∙ walk_is

-- so many cells of a file from cell k on are a part of all its cells
cells-front : (at : ℕ → ℕ) (s : List ℕ) (i n m : ℕ) → n ≤ m → cells_at at s i n ≡ take n (cells_at at s i m)
unfolding cells_at
cells-front at s i zero zero l = refl
cells-front at s i zero (suc m) l = refl
cells-front at s i (suc n) zero l = absurd (omega arith)
cells-front at s i (suc n) (suc m) l = ap (λ (cs : List Cell). cell_from s (at i) ∷ cs) (cells-front at s (i + 1) n m (omega arith))

cells-within : (at : ℕ → ℕ) (s : List ℕ) (k i n m : ℕ) → k + n ≤ m → cells_at at s (i + k) n ≡ take n (drop k (cells_at at s i m))
unfolding cells_at
cells-within at s zero i n zero l = ap (λ (j : ℕ). cells_at at s j n) (add-zero i) ∙ cells-front at s i n zero (omega arith)
cells-within at s zero i n (suc m) l = ap (λ (j : ℕ). cells_at at s j n) (add-zero i) ∙ cells-front at s i n (suc m) (omega arith)
cells-within at s (suc k) i n zero l = absurd (omega arith)
cells-within at s (suc k) i n (suc m) l =
    let e : i + suc k ≡ i + 1 + k = omega arith in
    ap (λ (j : ℕ). cells_at at s j n) e ∙ cells-within at s k (i + 1) n m (omega arith)

pub file-cells : (file : List ℕ) (k n : ℕ) → k + n ≤ count_of file → cells_at in_file file k n ≡ take n (drop k (cells_of file))
unfolding cells_of
file-cells file k n l = ap (λ (j : ℕ). cells_at in_file file j n) (sym (zero-add k)) ∙ cells-within in_file file k 0 n (count_of file) l
