-- The parts of a netlist: what holds of each cell holds of each cell of each part, where it stands; and the reverse.
use Rattle.std.specs.Prelude.{◌≡◌, refl, List, ◌++◌, ℕ, zero, suc, ◌+◌, ◌*◌, length}
use Rattle.std.proofs.Common.{ap, ap₂, ◌∙◌, arith, length-append}
use Rattle.model.specs.Program.{Program, roots}
use Rattle.model.specs.declared.Cell.{Cell}
use Rattle.model.specs.Circuit.{cell}
use Rattle.model.specs.Numbering.{memory_wires, Source, wires_of, root_delay_count, root_walk_count, root_delays, root_walks, calls_of, clocks_of, data_of, addresses_of, procedures, finish_of_root}
use Rattle.model.specs.Numbering.{ors, or_count, ors_from, outs_from, or_count_from, memories_of, arrays_of, netlist}
use Rattle.model.specs.Numbering.{clock_at, memory_at, arrays_at, walk_place, data_at, address_at, clock_wires, data_wires, address_wires}
use Rattle.laws.specs.Numbering.Cells.{All, split, join}
use Rattle.laws.specs.Numbering.Lengths.{ors-len, root-d-len, root-w-len}

-- ---- lengths

pub ors_from-len : (kind : ℕ) (ws : List Source) (n x j : ℕ) → length (ors_from kind ws n x j) ≡ or_count_from ws x j
unfolding ors_from or_count_from
ors_from-len kind ws n x zero = refl
ors_from-len kind ws n x (suc j) =
    length-append (ors kind n (wires_of x ws)) (ors_from kind ws (n + or_count (wires_of x ws)) (x + 1) j)
    ∙ ap₂ (λ (a b : ℕ). a + b) (ors-len kind n (wires_of x ws)) (ors_from-len kind ws (n + or_count (wires_of x ws)) (x + 1) j)

pub outs-len : (no_cell : ℕ) (ws : List Source) (n x j : ℕ) → length (outs_from no_cell ws n x j) ≡ j
unfolding outs_from
outs-len no_cell ws n x zero = refl
outs-len no_cell ws n x (suc j) = ap suc (outs-len no_cell ws (n + or_count (wires_of x ws)) (x + 1) j)

pub mems-len : (ks ds : List ℕ) (x n : ℕ) → length (memories_of ks ds x n) ≡ n
unfolding memories_of
mems-len ks ds x zero = refl
mems-len ks ds x (suc n) = ap suc (mems-len ks ds (x + 1) n)

pub arrays-len : (ks ds js : List ℕ) (k n : ℕ) → length (arrays_of ks ds js k n) ≡ 2 * n
unfolding arrays_of
arrays-len ks ds js k zero = refl
arrays-len ks ds js k (suc n) = omega (arith, arrays-len ks ds js (k + 1) n)

pub net-length : (S : Program) → length (netlist S) ≡ address_at S + or_count_from (addresses_of S) 16 4
unfolding netlist
net-length S = simp (length-append, root-d-len, root-w-len, ors_from-len, mems-len, arrays-len) (omega arith)

-- ---- the parts

module _ (S : Program) where
  abbrev pub delay_cells : List Cell
  delay_cells = root_delays S.pulse (procedures S) (calls_of S) 0 (roots S) 3 (walk_place S)

  abbrev pub clock_ors : List Cell
  clock_ors = ors_from 35 (clocks_of S) (clock_at S) 0 20

  abbrev pub memory_cells : List Cell
  memory_cells = memories_of (clock_wires S) (data_wires S) 0 16

  abbrev pub array_cells : List Cell
  array_cells = arrays_of (clock_wires S) (data_wires S) (address_wires S) 0 4

  abbrev pub walk_cells : List Cell
  walk_cells = root_walks (memory_wires (memory_at S)) (finish_of_root S) (procedures S) (calls_of S) 0 (roots S) 3 (walk_place S)

  abbrev pub data_ors : List Cell
  data_ors = ors_from 7 (data_of S) (data_at S) 0 20

  abbrev pub address_ors : List Cell
  address_ors = ors_from 7 (addresses_of S) (address_at S) 16 4

pub record Laid (R : ℕ → Cell → Type 0) (S : Program) : Type 0 where
  pub at-start : R 0 (cell 32 0 0 0)
  pub at-ground : R 1 (cell 33 0 0 0)
  pub at_zero : R 2 (cell 1 0 0 0)
  pub at-delays : All R 3 (delay_cells S)
  pub at-clocks : All R (clock_at S) (clock_ors S)
  pub at-mems : All R (memory_at S) (memory_cells S)
  pub at-arrays : All R (arrays_at S) (array_cells S)
  pub at-walk : All R (walk_place S) (walk_cells S)
  pub at-datas : All R (data_at S) (data_ors S)
  pub at-addresses : All R (address_at S) (address_ors S)

-- the parts from each on
module _ (S : Program) where
  abbrev pub from_datas : List Cell
  from_datas = data_ors S ++ address_ors S

  abbrev pub from_walk : List Cell
  from_walk = walk_cells S ++ from_datas

  abbrev pub from_arrays : List Cell
  from_arrays = array_cells S ++ from_walk

  abbrev pub from_memories : List Cell
  from_memories = memory_cells S ++ from_arrays

  abbrev pub from_clocks : List Cell
  from_clocks = clock_ors S ++ from_memories

module _ (R : ℕ → Cell → Type 0) (S : Program) where
  pub lay : All R 0 (netlist S) → Laid R S
  unfolding netlist
  lay h =
      let r₁ = split R 3 (root_delay_count (roots S)) (delay_cells S) (from_clocks S) (root-d-len S.pulse (procedures S) (calls_of S) 0 (roots S) 3 (walk_place S)) h.1.1.1 in
      let r₂ = split R (clock_at S) (or_count_from (clocks_of S) 0 20) (clock_ors S) (from_memories S) (ors_from-len 35 (clocks_of S) (clock_at S) 0 20) r₁.1 in
      let r₃ = split R (memory_at S) 16 (memory_cells S) (from_arrays S) (mems-len (clock_wires S) (data_wires S) 0 16) r₂.1 in
      let r₄ = split R (arrays_at S) 8 (array_cells S) (from_walk S) (arrays-len (clock_wires S) (data_wires S) (address_wires S) 0 4) r₃.1 in
      let r₅ = split R (walk_place S) (root_walk_count (calls_of S) 0 (roots S)) (walk_cells S) (from_datas S) (root-w-len (memory_wires (memory_at S)) (finish_of_root S) (procedures S) (calls_of S) 0 (roots S) 3 (walk_place S)) r₄.1 in
      let r₆ = split R (data_at S) (or_count_from (data_of S) 0 20) (data_ors S) (address_ors S) (ors_from-len 7 (data_of S) (data_at S) 0 20) r₅.1 in
      record {
        at-start = h.0;
        at-ground = h.1.0;
        at_zero = h.1.1.0;
        at-delays = r₁.0;
        at-clocks = r₂.0;
        at-mems = r₃.0;
        at-arrays = r₄.0;
        at-walk = r₅.0;
        at-datas = r₆.0;
        at-addresses = r₆.1;
      }

  pub unlay : Laid R S → All R 0 (netlist S)
  unfolding netlist
  unlay r =
      let r₆ = join R (data_at S) (or_count_from (data_of S) 0 20) (data_ors S) (address_ors S) (ors_from-len 7 (data_of S) (data_at S) 0 20) r.at-datas r.at-addresses in
      let r₅ = join R (walk_place S) (root_walk_count (calls_of S) 0 (roots S)) (walk_cells S) (from_datas S) (root-w-len (memory_wires (memory_at S)) (finish_of_root S) (procedures S) (calls_of S) 0 (roots S) 3 (walk_place S)) r.at-walk r₆ in
      let r₄ = join R (arrays_at S) 8 (array_cells S) (from_walk S) (arrays-len (clock_wires S) (data_wires S) (address_wires S) 0 4) r.at-arrays r₅ in
      let r₃ = join R (memory_at S) 16 (memory_cells S) (from_arrays S) (mems-len (clock_wires S) (data_wires S) 0 16) r.at-mems r₄ in
      let r₂ = join R (clock_at S) (or_count_from (clocks_of S) 0 20) (clock_ors S) (from_memories S) (ors_from-len 35 (clocks_of S) (clock_at S) 0 20) r.at-clocks r₃ in
      let r₁ = join R 3 (root_delay_count (roots S)) (delay_cells S) (from_clocks S) (root-d-len S.pulse (procedures S) (calls_of S) 0 (roots S) 3 (walk_place S)) r.at-delays r₂ in
      (r.at-start, (r.at-ground, (r.at_zero, r₁)))
