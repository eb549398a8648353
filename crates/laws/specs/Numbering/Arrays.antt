-- Where the memories and the arrays' cells of a netlist stand: behind the delays and the clock ors, and nowhere else.
-- Assumes nothing.
use Rattle.std.specs.Prelude.{◌≡◌, Bool, true, ◌&&◌, ◌⊎◌, eqb, leb, length, get_or}
use Rattle.std.proofs.Math.Path.{refl}
use Rattle.std.proofs.Common.{ap, ◌∙◌, zero-add, add-zero, le_of_suc-le-suc, arith, length-append}
use Rattle.std.proofs.Math.Bool.{false, and-false}
use mathlib.Core.List.{List, [], ◌∷◌, ◌++◌, append_assoc}
use Rattle.std.proofs.Math.Logic.{inl, inr, ⊎_elim}
use Prim.Native.Nat.{ℕ, zero, suc, ◌+◌, ◌-◌, ◌*◌, ◌/◌, ◌%◌, ◌<◌, ◌≤◌}
use Rattle.std.proofs.Math.Dec.{ltb}
use borrow.Author.Tests.{eq-eqb, ne_eqb, le-leb, lt-leb, lt-ltb, le-ltb}
use Rattle.model.specs.declared.Cell.{Cell}
use Rattle.model.specs.Word.{pick, bit}
use Rattle.model.specs.Program.{Program, roots, array_var}
use Rattle.model.specs.Circuit.{cell, cell_at, memories, past_memories}
use Rattle.model.specs.NetlistFile.{of_array, array_placed}
use Rattle.model.specs.Numbering.{memory_wires, array_cell, memories_of, arrays_of, head_cells, netlist}
use Rattle.model.specs.Numbering.{calls_of, clocks_of, data_of, addresses_of, procedures, finish_of_root, clock_at, memory_at, arrays_at, walk_place, data_at, address_at, clock_wires, data_wires, address_wires}
use Rattle.laws.specs.Refusals.Laws.{and-true}
use Rattle.laws.specs.Program.Fit.{EveryRoot, Numberable}
use Rattle.laws.specs.Numbering.Cells.{All, all_of, all-at}
use Rattle.laws.specs.Numbering.Lengths.{root-d-len}
use Rattle.laws.specs.Numbering.Memories.{plain, plain_kind, plain-kind, plain-append, plain-free, root-delays-plain, ors_from-plain, root-walks-plain, memories-append, mems-all}
use Rattle.laws.specs.Numbering.Parts.{ors_from-len, delay_cells, clock_ors, walk_cells, data_ors, address_ors, from_arrays, from_memories, Laid, lay, unlay}

-- ---- the two cells of an array

pub arrays-at : (R : ℕ → Cell → Type 0) (ks ds js : List ℕ) (v n k : ℕ) → All R k (arrays_of ks ds js v n) → (i : ℕ) → i < n
    → R (k + 2 * i) (cell 42 (v + i) (get_or ks (array_var (v + i)) 0) (get_or ds (array_var (v + i)) 0))
    × R (k + 2 * i + 1) (cell 43 0 (get_or js (v + i) 0) 0)
unfolding arrays_of
arrays-at R ks ds js v zero k h i l = absurd (omega arith)
arrays-at R ks ds js v (suc n) k h zero l =
    let p : k + 2 * 0 ≡ k = omega arith in
    rw (p, add-zero v) (h.0, h.1.0)
arrays-at R ks ds js v (suc n) k h (suc i) l =
    let p : k + 1 + 1 + 2 * i ≡ k + 2 * suc i = omega arith in
    let q : v + 1 + i ≡ v + suc i = omega arith in
    rw (p, q) at (arrays-at R ks ds js (v + 1) n (k + 1 + 1) h.1.1 i (le_of_suc-le-suc l))

pub array-cells : (S : Program) (k : ℕ) → k < 4
    → (cell_at (netlist S) (array_cell (memory_at S) k) ≡ cell 42 k (get_or (clock_wires S) (array_var k) 0) (get_or (data_wires S) (array_var k) 0))
    × (cell_at (netlist S) (array_cell (memory_at S) k + 1) ≡ cell 43 0 (get_or (address_wires S) k 0) 0)
array-cells S k l =
    let R : ℕ → Cell → Type 0 = λ j c. cell_at (netlist S) j ≡ c in
    let z : 0 + k ≡ k = omega arith in
    let cells : Laid R S = lay R S (all_of R (netlist S) 0 (λ i b. rw zero-add)) in
    rw z at (arrays-at R (clock_wires S) (data_wires S) (address_wires S) 0 4 (arrays_at S) cells.at-arrays k l)

-- ---- what stands below the memories

unfoldable pub below : Program → List Cell
below S = head_cells ++ (delay_cells S ++ clock_ors S)

pub parts : (S : Program) → netlist S ≡ below S ++ from_memories S
unfolding netlist below
parts S = simp append_assoc

pub below-len : (S : Program) → length (below S) ≡ memory_at S
unfolding below
below-len S = simp (length-append, root-d-len, ors_from-len) (omega arith)

below_plain : (S : Program) → plain (below S) ≡ true
unfolding below plain plain_kind
below_plain S = simp (plain-append, root-delays-plain, ors_from-plain 35 refl)

pub below_free : (S : Program) → memories (below S) ≡ 0
below_free S = plain-free (below S) (below_plain S)

-- the cells that stand behind the memories
past_skip : (xs ys : List Cell) (n : ℕ) → memories xs ≡ 0 → past_memories (xs ++ ys) (suc n) ≡ length xs + past_memories ys (suc n)
unfolding past_memories memories bit
past_skip [] ys n z = omega arith
past_skip (c ∷ xs) ys n z = go (eqb c.kind 40) z (past_skip xs ys n)
  where
    go : (b : Bool) → bit b + memories xs ≡ 0 → (memories xs ≡ 0 → past_memories (xs ++ ys) (suc n) ≡ length xs + past_memories ys (suc n))
        → suc (past_memories (xs ++ ys) (pick b n (suc n))) ≡ length (c ∷ xs) + past_memories ys (suc n)
    go true z f = absurd (omega arith)
    go false z f = omega (arith, f (omega arith))

pub past-none : (ys : List Cell) → past_memories ys 0 ≡ 0
unfolding past_memories
past-none [] = refl
past-none (c ∷ ys) = refl

past-mems : (ks ds : List ℕ) (x n : ℕ) (ys : List Cell) → past_memories (memories_of ks ds x n ++ ys) n ≡ n
unfolding memories_of past_memories
past-mems ks ds x zero ys = past-none ys
past-mems ks ds x (suc n) ys = ap suc (past-mems ks ds (x + 1) n ys)

pub past_is : (S : Program) → past_memories (netlist S) 16 ≡ arrays_at S
past_is S =
    ap (λ (net : List Cell). past_memories net 16) (parts S)
    ∙ past_skip (below S) (from_memories S) 15 (below_free S)
    ∙ omega (arith, below-len S, past-mems (clock_wires S) (data_wires S) 0 16 (from_arrays S))

-- ---- sixteen memories

arrays-free : (ks ds js : List ℕ) (k n : ℕ) → memories (arrays_of ks ds js k n) ≡ 0
unfolding memories arrays_of bit
arrays-free ks ds js k zero = refl
arrays-free ks ds js k (suc n) = rw (arrays-free ks ds js (k + 1) n)

pub sixteen : (S : Program) → EveryRoot Numberable 0 (roots S) → memories (netlist S) ≡ 16
unfolding plain_kind
sixteen S w =
    rw (parts S)
    (simp (
      memories-append,
      below_free S,
      mems-all (clock_wires S) (data_wires S) 0 16,
      arrays-free (clock_wires S) (data_wires S) (address_wires S) 0 4,
      plain-free (walk_cells S) (root-walks-plain (memory_wires (memory_at S)) (finish_of_root S) (procedures S) (calls_of S) 0 (roots S) w 3 (walk_place S)),
      plain-free (data_ors S) (ors_from-plain 7 refl (data_of S) (data_at S) 0 20),
      plain-free (address_ors S) (ors_from-plain 7 refl (addresses_of S) (address_at S) 16 4),
    ))

-- ---- "Right after the sixteenth memory stand ... and nowhere else": the arrays' cells begin at m

module _ (m : ℕ) where
  abbrev pub Placed : ℕ → Cell → Type 0
  Placed k c = array_placed m k c ≡ true

  abbrev pub Outside : ℕ → Type 0
  Outside k = (k < m) ⊎ (m + 8 ≤ k)

  pub other-placed : (k : ℕ) (c : Cell) → of_array c.kind ≡ false → Outside k → Placed k c
  unfolding array_placed
  other-placed k c e o =
      let out : (leb m k && ltb k (m + 8)) ≡ false = ⊎_elim (λ l. rw (lt-leb m k l) refl) (λ l. rw (le-ltb k (m + 8) l) (and-false (leb m k))) o in
      rw (out, e) refl

  pub plain-placed : (cs : List Cell) (k : ℕ) → plain cs ≡ true → (k + length cs ≤ m) ⊎ (m + 8 ≤ k) → All Placed k cs
  unfolding plain
  plain-placed [] k e o = tt
  plain-placed (c ∷ cs) k e o =
      let p = and-true (plain_kind c.kind) (plain cs) e in (
        other-placed k c (plain-kind c.kind p.0).1 (⊎_elim (λ l. inl (omega arith)) (λ l. inr l) o),
        plain-placed cs (k + 1) p.1 (⊎_elim (λ l. inl (omega arith)) (λ l. inr (omega arith)) o),
      )

  mems-placed : (ks ds : List ℕ) (x n k : ℕ) → k + n ≤ m → All Placed k (memories_of ks ds x n)
  unfolding memories_of of_array
  mems-placed ks ds x zero k l = tt
  mems-placed ks ds x (suc n) k l =
      (other-placed k (cell 40 0 (get_or ks x 0) (get_or ds x 0)) refl (inl (omega arith)), mems-placed ks ds (x + 1) n (k + 1) (omega arith))

  arrays-placed : (ks ds js : List ℕ) (v n k : ℕ) → k ≡ m + 2 * v → v + n ≤ 4 → All Placed k (arrays_of ks ds js v n)
  unfolding arrays_of array_placed
  arrays-placed ks ds js v zero k e l = tt
  arrays-placed ks ds js v (suc n) k e l = (
    rw (le-leb m k (omega arith), lt-ltb k (m + 8) (omega arith), eq-eqb ((k - m) % 2) 0 (omega arith), eq-eqb v ((k - m) / 2) (omega arith)) refl,
    (
      rw (le-leb m (k + 1) (omega arith), lt-ltb (k + 1) (m + 8) (omega arith), ne_eqb ((k + 1 - m) % 2) 0 (λ z. omega arith)) refl,
      arrays-placed ks ds js (v + 1) n (k + 1 + 1) (omega arith) (omega arith),
    ),
  )

pub arrays-stand : (S : Program) → EveryRoot Numberable 0 (roots S) → (k : ℕ) → k < length (netlist S) → array_placed (arrays_at S) k (cell_at (netlist S) k) ≡ true
unfolding plain_kind array_placed of_array
arrays-stand S w k l =
    let m = arrays_at S in
    let laid : Laid (Placed m) S =
    record {
      at-start = other-placed m 0 (cell 32 0 0 0) refl (inl (omega arith));
      at-ground = other-placed m 1 (cell 33 0 0 0) refl (inl (omega arith));
      at_zero = other-placed m 2 (cell 1 0 0 0) refl (inl (omega arith));
      at-delays = plain-placed m (delay_cells S) 3 (root-delays-plain S.pulse (procedures S) (calls_of S) 0 (roots S) 3 (walk_place S)) (inl (omega (arith, root-d-len S.pulse (procedures S) (calls_of S) 0 (roots S) 3 (walk_place S))));
      at-clocks = plain-placed m (clock_ors S) (clock_at S) (ors_from-plain 35 refl (clocks_of S) (clock_at S) 0 20)
          (inl (omega (arith, ors_from-len 35 (clocks_of S) (clock_at S) 0 20)));
      at-mems = mems-placed m (clock_wires S) (data_wires S) 0 16 (memory_at S) (omega arith);
      at-arrays = arrays-placed m (clock_wires S) (data_wires S) (address_wires S) 0 4 m (omega arith) (omega arith);
      at-walk = plain-placed m (walk_cells S) (walk_place S) (root-walks-plain (memory_wires (memory_at S)) (finish_of_root S) (procedures S) (calls_of S) 0 (roots S) w 3 (walk_place S)) (inr (omega arith));
      at-datas = plain-placed m (data_ors S) (data_at S) (ors_from-plain 7 refl (data_of S) (data_at S) 0 20) (inr (omega arith));
      at-addresses = plain-placed m (address_ors S) (address_at S) (ors_from-plain 7 refl (addresses_of S) (address_at S) 16 4) (inr (omega arith));
    } in
    rw zero-add at (all-at (Placed m) (netlist S) 0 (unlay (Placed m) S laid) k l)
