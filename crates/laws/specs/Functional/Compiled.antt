-- The functional netlist of a program keeps every rule of a netlist, also that of its last sixteen cells: its file is never refused.
-- Assumes nothing.
use Rattle.model.specs.Refusals.{Accepted}
use Rattle.std.specs.Prelude.{◌≡◌, Bool, true, false, ◌&&◌, List, ◌∷◌, ◌++◌, leb}
use Rattle.std.proofs.Math.Path.{refl}
use Rattle.std.proofs.Common.{ap, inl, inr, zero-add}
use Prim.Native.Nat.{ℕ, zero, suc, ◌+◌, ◌-◌, ◌<◌, ◌≤◌}
use native.Mathlib.Omega.{arith}
use Rattle.std.proofs.Math.ListN.{length}
use borrow.Author.Tests.{eq-eqb, ne_eqb, le-leb, lt-leb, lt-ltb, le-ltb}
use Rattle.model.specs.declared.Cell.{Cell}
use Rattle.model.specs.Word.{pick, bit}
use Rattle.model.specs.Program.{Stmt, ok, tick, assign, assign_elem, seq, par, ite, while, repeat, loop, exit, writes, call}
use Rattle.model.specs.Circuit.{cell, cell_at, control, cell_table, shape, memories, past_memories}
use Rattle.model.specs.NetlistFile.{cell_limit, of_array, stands, placed, array_placed, cell_fault, net_check, count_wrong, blocks_for, carries, last_fault, last_check}
use Rattle.model.specs.Numbering.{Wires}
use Rattle.model.specs.Functional.{rows, sixteen, rows_of, each, rank, many, placed as moved, joins_at, branches, choices, count, finish_wire, outs, walk, arrays_at, walk_place, last_at, last_wires, start_wires, idle_arrays, netlist_of, finish_of, if_true, if_then, if_else, if_end, while_true, while_body, while_load, repeat_body, repeat_delay, repeat_true, repeat_load}
use Rattle.laws.specs.Refusals.Laws.{by_le, faultless}
use Rattle.laws.specs.Program.Fit.{Formed, Low, Basic}
use Rattle.laws.specs.Circuit.Ordered.{word, In, kinds}
use Rattle.laws.specs.NetlistFile.Uses.{looks-keeps}
use Rattle.laws.specs.Numbering.Cells.{All, all_of, all-at, split, join}
use Rattle.laws.specs.Numbering.Memories.{plain, plain_kind, plain-append, plain-free, own-plain, e-plain, memories-append}
use Rattle.laws.specs.Numbering.Arrays.{Placed, other-placed, plain-placed, past-none}
use Rattle.laws.specs.Numbering.Valid.{Ok, HasKind, Brings}
use Rattle.laws.specs.Functional.Count.{rows-len, arrays-len, w-len, net-len}
use Rattle.laws.specs.Functional.Rows.{sixteen-at, all-sixteen}
use Rattle.laws.specs.Functional.Valid.{p-ok}

-- The parts --------------------------------------------------------------------------------------------------------------------------------

-- "Memories keep the start words"
abbrev pub memory_cell : ℕ → Cell
memory_cell x = cell 40 0 1 2

abbrev pub last_cell : Stmt → ℕ → Cell
last_cell P x = cell 7 0 (last_wires P x) 2

abbrev pub walk_cells : Stmt → List Cell
walk_cells P = walk P 0 start_wires walk_place

pub record Laid (R : ℕ → Cell → Type 0) (P : Stmt) : Type 0 where
  pub at-start : R 0 (cell 32 0 0 0)
  pub at-ground : R 1 (cell 33 0 0 0)
  pub at_zero : R 2 (cell 1 0 0 0)
  pub at-mems : All R 3 (sixteen memory_cell)
  pub at-arrays : All R arrays_at (idle_arrays 0 4)
  pub at-walk : All R walk_place (walk_cells P)
  pub at_last : All R (last_at P) (sixteen (last_cell P))

module _ (R : ℕ → Cell → Type 0) (P : Stmt) where
  abbrev behind : List Cell
  behind = idle_arrays 0 4 ++ (walk_cells P ++ sixteen (last_cell P))

  pub lay : All R 0 (netlist_of P) → Laid R P
  unfolding netlist_of
  lay h =
      let m = split R 3 16 (sixteen memory_cell) behind (rows-len _ 0 16) h.1.1.1 in
      let a = split R arrays_at 8 (idle_arrays 0 4) (walk_cells P ++ sixteen (last_cell P)) (arrays-len 0 4) m.1 in
      let q = split R walk_place (count P) (walk_cells P) (sixteen (last_cell P)) (w-len P 0 start_wires walk_place) a.1 in
      record {
        at-start = h.0;
        at-ground = h.1.0;
        at_zero = h.1.1.0;
        at-mems = m.0;
        at-arrays = a.0;
        at-walk = q.0;
        at_last = q.1;
      }

  pub unlay : Laid R P → All R 0 (netlist_of P)
  unfolding netlist_of
  unlay r =
      let q = join R walk_place (count P) (walk_cells P) (sixteen (last_cell P)) (w-len P 0 start_wires walk_place) r.at-walk r.at_last in
      let a = join R arrays_at 8 (idle_arrays 0 4) (walk_cells P ++ sixteen (last_cell P)) (arrays-len 0 4) r.at-arrays q in
      (r.at-start, (r.at-ground, (r.at_zero, join R 3 16 (sixteen memory_cell) behind (rows-len _ 0 16) r.at-mems a)))

  -- what holds of all parts holds of each cell
  pub laid-at : Laid R P → (k : ℕ) → k < length (netlist_of P) → R k (cell_at (netlist_of P) k)
  laid-at r k l = rw zero-add at (all-at R (netlist_of P) 0 (unlay r) k l)

-- the cells themselves
pub cells-laid : (P : Stmt) → Laid (λ k c. cell_at (netlist_of P) k ≡ c) P
cells-laid P = lay (λ k c. cell_at (netlist_of P) k ≡ c) P (all_of (λ k c. cell_at (netlist_of P) k ≡ c) (netlist_of P) 0 (λ i l. rw zero-add refl))

-- Memories and arrays ------------------------------------------------------------------------------------------------------------------------

rows_of-plain : (b : ℕ → Bool) (f : ℕ → Cell) → ((x : ℕ) → plain_kind (f x).kind ≡ true) → (x n : ℕ) → plain (rows_of b f x n) ≡ true
unfolding plain rows_of
rows_of-plain b f h x zero = refl
rows_of-plain b f h x (suc n) = go (b x) (rows_of-plain b f h (x + 1) n)
  where
    go : (p : Bool) → plain (rows_of b f (x + 1) n) ≡ true → plain (pick p (f x ∷ rows_of b f (x + 1) n) (rows_of b f (x + 1) n)) ≡ true
    go true e = rw (h x, e) refl
    go false e = e

each-plain : (b : ℕ → Bool) (f : ℕ → Cell) → ((x : ℕ) → plain_kind (f x).kind ≡ true) → plain (each b f) ≡ true
each-plain b f h = rows_of-plain b f h 0 16

rows-plain : (f : ℕ → Cell) → ((x : ℕ) → plain_kind (f x).kind ≡ true) → (x n : ℕ) → plain (rows f x n) ≡ true
unfolding plain rows
rows-plain f h x zero = refl
rows-plain f h x (suc n) = rw (h x, rows-plain f h (x + 1) n) refl

choices-plain : (b : ℕ → Bool) (f g : ℕ → Cell) (a : ℕ) → ((x : ℕ) → plain_kind (f x).kind ≡ true) → ((x : ℕ) → plain_kind (g x).kind ≡ true)
    → plain (choices b f g a) ≡ true
unfolding choices plain_kind
choices-plain b f g a h h' = simp (plain-append, each-plain b f h, each-plain b g h', each-plain b (λ x. cell 7 0 (a + rank b x) (a + many b + rank b x)) (λ x. refl))

walk-plain : (P : Stmt) → Formed P → (s : ℕ) (ws : Wires) (c : ℕ) → plain (walk P s ws c) ≡ true
unfolding plain plain_kind walk
walk-plain ok w s ws c = refl
walk-plain (tick δ) w s ws c = refl
walk-plain (assign δ x e) w s ws c = simp (plain-append, e-plain ws e w.2 c)
walk-plain (assign_elem δ k i e) w s ws c = refl
walk-plain (seq P Q) w s ws c = simp (plain-append, walk-plain P w.0 s ws c, walk-plain Q w.1 (finish_wire P s c) (outs P ws c) (c + count P))
walk-plain (par P Q) w s ws c = simp (plain-append, walk-plain P w.0 s ws c, walk-plain Q w.1 s ws (c + count P))
walk-plain (ite δ e P Q) w s ws c =
    simp (
      plain-append,
      e-plain ws e w.1 c,
      own-plain δ s,
      walk-plain P w.2 (if_true δ e P Q c) ws (if_then δ e P Q c),
      walk-plain Q w.3 (if_true δ e P Q c + 1) ws (if_else δ e P Q c),
      choices-plain (branches P Q) (λ y. cell 6 0 (outs P ws (if_then δ e P Q c) y) (if_end δ e P Q c + 1 + 1 + 1))
          (λ y. cell 6 0 (outs Q ws (if_else δ e P Q c) y) (if_end δ e P Q c + 1 + 1)) (if_end δ e P Q c + 1 + 1 + 1 + 1) (λ x. refl) (λ x. refl),
    )
walk-plain (while δ e P) w s ws c =
    let ls : Wires = moved (writes P) c ws in
    let m = while_load e P c in
    let f = finish_wire P (while_true e P c) (while_body e P c) in
    simp (
      plain-append,
      each-plain (writes P) (λ y. cell 45 0 m (joins_at (writes P) (m + 1) + rank (writes P) y)) (λ x. refl),
      e-plain ls e w.1 (c + many (writes P) + 1 + 1),
      walk-plain P w.2 (while_true e P c) ls (while_body e P c),
      choices-plain (writes P) (λ y. cell 41 0 s (ws y)) (λ y. cell 41 0 f (outs P ls (while_body e P c) y)) (m + 1) (λ x. refl) (λ x. refl),
    )
walk-plain (repeat δ e P) w s ws c =
    let ls : Wires = moved (writes P) c ws in
    let us : Wires = outs P ls (repeat_body e P c) in
    let m = repeat_load e P c in
    simp (
      plain-append,
      each-plain (writes P) (λ y. cell 45 0 m (joins_at (writes P) (m + 1) + rank (writes P) y)) (λ x. refl),
      walk-plain P w.2 (c + many (writes P)) ls (repeat_body e P c),
      e-plain us e w.1 (repeat_delay e P c + 1),
      choices-plain (writes P) (λ y. cell 41 0 s (ws y)) (λ y. cell 41 0 (repeat_true e P c + 1) (us y)) (m + 1) (λ x. refl) (λ x. refl),
    )
walk-plain (loop δ P) w s ws c = refl
walk-plain exit w s ws c = refl
walk-plain (call _ none) w s ws c = elim none [ ]

memory-rows : (x n : ℕ) → memories (rows memory_cell x n) ≡ n
unfolding memories rows bit
memory-rows x zero = refl
memory-rows x (suc n) = rw (memory-rows (x + 1) n) (omega arith)

pub sixteen-memories : (P : Stmt) → Formed P → memories (netlist_of P) ≡ 16
unfolding netlist_of memories idle_arrays plain_kind bit
sixteen-memories P w =
    simp (memories-append, memory-rows 0 16, plain-free (walk_cells P) (walk-plain P w 0 start_wires walk_place), plain-free (sixteen (last_cell P)) (rows-plain (last_cell P) (λ x. refl) 0 16))

-- behind the memories stand no others
pub rest-free : (P : Stmt) → Formed P → memories (idle_arrays 0 4 ++ (walk_cells P ++ sixteen (last_cell P))) ≡ 0
unfolding memories idle_arrays plain_kind bit
rest-free P w =
    simp (memories-append, plain-free (walk_cells P) (walk-plain P w 0 start_wires walk_place), plain-free (sixteen (last_cell P)) (rows-plain (last_cell P) (λ x. refl) 0 16))

past-rows : (x n : ℕ) (ys : List Cell) → past_memories (rows memory_cell x n ++ ys) n ≡ n
unfolding rows past_memories
past-rows x zero ys = past-none ys
past-rows x (suc n) ys = ap suc (past-rows (x + 1) n ys)

pub past_is : (P : Stmt) → past_memories (netlist_of P) 16 ≡ arrays_at
unfolding netlist_of past_memories
past_is P = omega (arith, past-rows 0 16 (idle_arrays 0 4 ++ (walk_cells P ++ sixteen (last_cell P))))

arrays-stand : (P : Stmt) → Formed P → (k : ℕ) → k < length (netlist_of P) → array_placed arrays_at k (cell_at (netlist_of P) k) ≡ true
unfolding plain_kind array_placed of_array idle_arrays
arrays-stand P w =
    laid-at (Placed arrays_at) P
    (record {
      at-start = other-placed arrays_at 0 (cell 32 0 0 0) refl (inl (omega arith));
      at-ground = other-placed arrays_at 1 (cell 33 0 0 0) refl (inl (omega arith));
      at_zero = other-placed arrays_at 2 (cell 1 0 0 0) refl (inl (omega arith));
      at-mems = all-sixteen (Placed arrays_at) memory_cell 3 (λ x l. other-placed arrays_at (3 + x) (memory_cell x) refl (inl (omega arith)));
      at-arrays = (refl, (refl, (refl, (refl, (refl, (refl, (refl, (refl, tt))))))));
      at-walk = plain-placed arrays_at (walk_cells P) walk_place (walk-plain P w 0 start_wires walk_place) (inr (omega arith));
      at_last = plain-placed arrays_at (sixteen (last_cell P)) (last_at P) (rows-plain (last_cell P) (λ x. refl) 0 16) (inr (omega arith));
    })

-- The rules of cells -------------------------------------------------------------------------------------------------------------------------

module _ (P : Stmt) (w : Formed P) (z : Low P) (y : Basic P) where
  K : ℕ → ℕ
  K k = kinds (netlist_of P) k

  n : ℕ
  n = length (netlist_of P)

  total : n ≡ 43 + count P
  unfolding n
  total = net-len P

  has : Laid (HasKind K) P
  unfolding K
  has = lay (HasKind K) P (all_of (HasKind K) (netlist_of P) 0 (λ i l. rw zero-add))

  mem-in : Brings K walk_place start_wires
  unfolding word of_array shape cell_table
  mem-in x l = (omega arith, rw (sixteen-at (HasKind K) memory_cell 3 has.at-mems x l))

  nought-in : word (K 2) ≡ true
  unfolding word of_array shape cell_table
  nought-in = rw has.at_zero

  ground-in : control (K 1) ≡ true
  unfolding control shape cell_table
  ground-in = rw has.at-ground

  start-in : control (K 0) ≡ true
  unfolding control shape cell_table
  start-in = rw has.at-start

  body : All (Ok K n) walk_place (walk_cells P) × In control K (last_at P) (finish_wire P 0 walk_place) × Brings K (last_at P) (last_wires P)
  body = p-ok K n nought-in P w z y 0 start_wires walk_place (omega arith) (omega arith, start-in) mem-in (omega (arith, total)) has.at-walk

  array_ok : (v k : ℕ) → 2 ≤ k → Ok K n k (cell 42 v 1 2)
  unfolding shape cell_table stands
  array_ok v k l = (refl, (tt, (omega arith, ground-in), (omega (arith, total), nought-in)))

  address-ok : (k : ℕ) → Ok K n k (cell 43 0 2 0)
  unfolding shape cell_table stands
  address-ok k = (refl, (refl, (omega (arith, total), nought-in), refl))

  arrays-ok : (v m k : ℕ) → 2 ≤ k → All (Ok K n) k (idle_arrays v m)
  unfolding idle_arrays
  arrays-ok v zero k l = tt
  arrays-ok v (suc m) k l = (array_ok v k l, (address-ok (k + 1), arrays-ok (v + 1) m (k + 1 + 1) (omega arith)))

  laid-ok : Laid (Ok K n) P
  unfolding shape cell_table stands
  laid-ok =
      record {
        at-start = (refl, (refl, refl, refl));
        at-ground = (refl, (refl, refl, refl));
        at_zero = (refl, (refl, tt, refl));
        at-mems = all-sixteen (Ok K n) memory_cell 3 (λ x l. (refl, (refl, (omega arith, ground-in), (omega (arith, total), nought-in))));
        at-arrays = arrays-ok 0 4 arrays_at (omega arith);
        at-walk = body.0;
        at_last =
            all-sixteen (Ok K n) (last_cell P) (last_at P)
            (λ x l. (refl, (refl, (omega (arith, (body.2 x l).0), (body.2 x l).1), (omega arith, nought-in))));
      }

  cells-ok : (k : ℕ) → k < length (netlist_of P) → Ok (kinds (netlist_of P)) (length (netlist_of P)) k (cell_at (netlist_of P) k)
  unfolding K n
  cells-ok k l = laid-at (Ok K n) P laid-ok k l

  pub finish-ok : In control (kinds (netlist_of P)) (length (netlist_of P)) (finish_of P)
  unfolding K n finish_of
  finish-ok = (omega (arith, total, body.1.0), body.1.1)

  -- Refusals 11 and 12 ---------------------------------------------------------------------------------------------------------------------

  placed-ok : (k : ℕ) → placed k (cell_at (netlist_of P) k) ≡ true
  unfolding placed netlist_of
  placed-ok zero = refl
  placed-ok (suc zero) = refl
  placed-ok (suc (suc zero)) = refl
  placed-ok (suc (suc (suc k))) =
      rw (ne_eqb (suc (suc (suc k))) 0 (λ e. omega arith), ne_eqb (suc (suc (suc k))) 1 (λ e. omega arith), ne_eqb (suc (suc (suc k))) 2 (λ e. omega arith))

  faultless-at : (k : ℕ) → k < length (netlist_of P) → cell_fault (netlist_of P) k ≡ 0
  unfolding cell_fault
  faultless-at k l =
      let r = cells-ok k l in
      rw (placed-ok k, past_is P, arrays-stand P w k l, looks-keeps (netlist_of P) k (cell_at (netlist_of P) k) r.0 r.1)

  pub net-accepted : net_check (netlist_of P) (finish_of P) ≡ Accepted
  unfolding net_check
  net-accepted =
      let c = faultless (cell_fault (netlist_of P)) 0 (length (netlist_of P)) (λ j l h. faultless-at j (omega arith)) in
      rw (c, eq-eqb (memories (netlist_of P)) 16 (sixteen-memories P w), past_is P, le-ltb (length (netlist_of P)) (arrays_at + 8) (omega (arith, net-len P)), finish-ok.1)

  pub count-right : length (netlist_of P) ≤ cell_limit → count_wrong (blocks_for (length (netlist_of P))) (length (netlist_of P)) (finish_of P) ≡ false
  unfolding count_wrong
  count-right l =
      let n = length (netlist_of P) in
      rw (le-leb 27 n (omega (arith, net-len P)), le-leb n cell_limit l, eq-eqb (blocks_for n) (blocks_for n) refl, lt-ltb (finish_of P) n finish-ok.0)

-- The last sixteen cells ---------------------------------------------------------------------------------------------------------------------

pub last-at : (P : Stmt) (x : ℕ) → x < 16 → cell_at (netlist_of P) (last_at P + x) ≡ last_cell P x
last-at P x l = sixteen-at (λ k c. cell_at (netlist_of P) k ≡ c) (last_cell P) (last_at P) (cells-laid P).at_last x l

pub last-accepted : (P : Stmt) → last_check (netlist_of P) ≡ Accepted
unfolding last_check last_fault carries
last-accepted P =
    faultless (last_fault (netlist_of P)) 0 (length (netlist_of P))
    (λ k l h.
    by_le (last_at P) k
    (λ o.
    let e : last_at P + (k - last_at P) ≡ k = omega arith in
    let c : cell_at (netlist_of P) k ≡ last_cell P (k - last_at P) = rw e at (last-at P (k - last_at P) (omega (arith, net-len P))) in
    rw c (never (leb (length (netlist_of P)) (k + 16))))
    (λ o. rw (lt-leb (length (netlist_of P)) (k + 16) (omega (arith, net-len P))) refl))
  where
    never : (b : Bool) → ◌≡◌ {A = ℕ} (pick (b && false) 12 0) 0
    never true = refl
    never false = refl
