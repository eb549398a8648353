-- The head of a netlist, and the whole netlist. Assumes nothing.
use mathlib.Core.Path.{◌≡◌, refl, ◌∙◌, ap, ap₂}
use mathlib.Core.List.{List, ◌++◌, append_assoc}
use Prim.Native.Nat.{ℕ, ◌+◌, ◌*◌, ◌<◌, ◌≤◌}
use native.Mathlib.Omega.{arith}
use lib.ListN.{length, length-append, drop, replicate}
use Rattle.model.specs.declared.Cell.{Cell}
use Rattle.model.specs.Program.{Stmt}
use Rattle.model.specs.Circuit.{cell}
use Rattle.model.specs.Numbering.{head_cells, memories_of, arrays_of}
use Rattle.model.specs.Functional.{rows, sixteen, rows_of, each, many, idle_arrays, start_wires, last_wires, count, walk, netlist_of, finish_of}
use Rattle.laws.specs.Functional.Count.{many-most, rows-len, arrays-len, w-len}
use Rattle.compiler.specs.Writes.{write}
use Rattle.compiler.proofs.Writes.{write-append}
use Rattle.functional.specs.declared.walk.Place.{Place}
use Rattle.functional.specs.declared.sets.Wires as declared
use Rattle.functional.specs.Sets.{has, wired, Agrees}
use Rattle.functional.specs.Walk.{place, Done}
use Rattle.functional.proofs.Bits.{each_same}

-- All sixteen --------------------------------------------------------------------------------------------------------------------------------

pub row_fits : (set k n : ℕ) → 6 * (k + 16) ≤ n → 6 * (k + many (has set)) ≤ n
row_fits set k n h = omega (arith, h, many-most (has set))

each-full : (f : ℕ → Cell) → each (has 65535) f ≡ sixteen f
unfolding has rows_of rows
each-full f = refl

row-full : (f g : ℕ → Cell) → ((y : ℕ) → y < 16 → f y ≡ g y) → each (has 65535) f ≡ sixteen g
row-full f g h = each_same (has 65535) f g (λ y l q. h y l) ∙ each-full g

-- The head -----------------------------------------------------------------------------------------------------------------------------------

pub head_done : (s : List ℕ) {m₁ m₂ end : List ℕ}
    → m₁ ≡ write 0 head_cells s
    → m₂ ≡ write 3 (memories_of (replicate 20 1) (replicate 20 2) 0 16) m₁
    → end ≡ write 19 (arrays_of (replicate 20 1) (replicate 20 2) (drop 16 (replicate 20 2)) 0 4) m₂
    → end ≡ write 0 (head_cells ++ (sixteen (λ x. cell 40 0 1 2) ++ idle_arrays 0 4)) s
unfolding rows memories_of arrays_of idle_arrays
head_done s w₁ w₂ w₃ =
    let M = sixteen (λ x. cell 40 0 1 2) in
    let A = idle_arrays 0 4 in
    w₃ ∙ ap (write 19 A) (w₂ ∙ ap (write 3 M) w₁) ∙ write-append 3 19 M A (write 0 head_cells s) refl ∙ write-append 0 3 head_cells (M ++ A) s refl

-- The whole netlist ----------------------------------------------------------------------------------------------------------------------------

pub net-done : (P : Stmt) (s : List ℕ) (words zeros : declared.Wires) {m₁ m₂ end : List ℕ} {r : Place}
    → m₁ ≡ write 0 (head_cells ++ (sixteen (λ x. cell 40 0 1 2) ++ idle_arrays 0 4)) s
    → Done P (place 0 27 words) start_wires m₁ m₂ r
    → Agrees zeros.of (λ x. 2)
    → end ≡ write r.cell (each (has 65535) (λ y. cell 7 0 (wired r.words.of y) (wired zeros.of y))) m₂
    → (end ≡ write 0 (netlist_of P) s) × (r.wire ≡ finish_of P)
unfolding netlist_of finish_of
net-done P s words zeros {m₁} {m₂} {end} {r} w₁ u a w₃ =
    let f : ℕ → Cell = λ y. cell 7 0 (wired r.words.of y) (wired zeros.of y) in
    let g : ℕ → Cell = λ y. cell 7 0 (last_wires P y) 2 in
    let e : each (has 65535) f ≡ sixteen g = row-full f g (λ y l. rw (u.words y l, a y l) refl) in
    let S = sixteen (λ x. cell 40 0 1 2) in
    let A = idle_arrays 0 4 in
    let W = walk P 0 start_wires 27 in
    let H = head_cells ++ (S ++ A) in
    let l : length H ≡ 27 = simp (length-append, rows-len, arrays-len) in
    let k : length (H ++ W) ≡ 27 + count P = length-append H W ∙ omega (arith, l, w-len P 0 start_wires 27) in (
      (rw u.cell at w₃
          ∙ ap₂ (λ (x : List Cell) (y : List ℕ). write (27 + count P) x y) e (u.cells ∙ ap (write 27 W) w₁ ∙ write-append 0 27 H W s (omega (arith, l)))
          ∙ write-append 0 (27 + count P) (H ++ W) (sixteen g) s (omega (arith, k))
          ∙ ap (λ (x : List Cell). write 0 x s) (simp append_assoc)),
      u.wire,
    )
