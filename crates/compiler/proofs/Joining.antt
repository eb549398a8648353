-- The loops that join the wires of a variable, or of a procedure's callers, and those of all variables, and that put the memories and the arrays
-- in: what is still to be done comes out as at the start. Assumes nothing.
use mathlib.Core.Path.{◌≡◌, refl, sym, ◌∙◌, ap}
use mathlib.Core.List.{List, [], ◌∷◌, ◌++◌, append-nil}
use Prim.Native.Nat.{ℕ, zero, suc, ◌+◌, ◌-◌, ◌*◌, ◌≤◌, ◌<◌}
use native.Mathlib.Omega.{arith}
use native.Mathlib.Numerals.{add-one}
use borrow.Author.Tests.{eq-eqb, ne_eqb}
use lib.ListN.{length, get_or, set, take, drop, length-set, drop_of_length-le}
use lib.Seq.{sets, sets-eq, drop_at, get_or-drop, length-take-le}
use Rattle.model.specs.declared.Cell.{Cell}
use Rattle.model.specs.Circuit.{cell}
use Rattle.model.specs.Numbering.{Source, wires_of, ors, ors_out, or_count, ors_from, outs_from, or_count_from, memories_of, arrays_of}
use Rattle.model.specs.Program.{array_var}
use Rattle.laws.specs.Numbering.Lengths.{ors-len}
use Rattle.laws.specs.Numbering.Parts.{outs-len}
use Rattle.compiler.specs.declared.walk.Word.{Word}
use Rattle.compiler.specs.declared.ors.Joint.{Joint}
use Rattle.compiler.specs.declared.ors.Ors.{Ors}
use Rattle.compiler.specs.Writes.{write}
use Rattle.compiler.specs.Ors.{sources_in, Joined, Ored}
use Rattle.compiler.proofs.Writes.{behind, write-none, write-append, write-length}

-- The wires of one variable ------------------------------------------------------------------------------------------------------------

-- four marks, and those behind them
sources-step : (f : ℕ) → f ≤ 3 → (m l : List ℕ) → length m ≡ 4 → sources_in f (m ++ l) ≡ (get_or m 0 0, get_or m f 0) ∷ sources_in f l
unfolding sources_in
sources-step f h [] l e = absurd (omega arith)
sources-step f h (x ∷ []) l e = absurd (omega arith)
sources-step f h (x ∷ (a ∷ [])) l e = absurd (omega arith)
sources-step f h (x ∷ (a ∷ (b ∷ []))) l e = absurd (omega arith)
sources-step f h (x ∷ (a ∷ (b ∷ (w ∷ [])))) l e = refl
sources-step f h (x ∷ (a ∷ (b ∷ (w ∷ (v ∷ m))))) l e = absurd (omega arith)

sources-none : (f : ℕ) (l : List ℕ) → length l < 4 → sources_in f l ≡ []
unfolding sources_in
sources-none f [] e = refl
sources-none f (x ∷ []) e = refl
sources-none f (x ∷ (a ∷ [])) e = refl
sources-none f (x ∷ (a ∷ (b ∷ []))) e = refl
sources-none f (x ∷ (a ∷ (b ∷ (w ∷ l)))) e = absurd (omega arith)

-- the wires of x in marks of which four come first
module _ (f x : ℕ) (h : f ≤ 3) (m l : List ℕ) {all : List ℕ} (e : all ≡ m ++ l) (four : length m ≡ 4) where
  pub wires-more : get_or m 0 0 ≡ x → wires_of x (sources_in f all) ≡ get_or m f 0 ∷ wires_of x (sources_in f l)
  unfolding wires_of
  wires-more is = rw (e, sources-step f h m l four, eq-eqb (get_or m 0 0) x is) refl

  pub wires-same : (get_or m 0 0 ≡ x → ⊥) → wires_of x (sources_in f all) ≡ wires_of x (sources_in f l)
  unfolding wires_of
  wires-same is = rw (e, sources-step f h m l four, ne_eqb (get_or m 0 0) x is) refl

pub wires-none : (f x : ℕ) (l : List ℕ) → length l < 4 → wires_of x (sources_in f l) ≡ []
unfolding wires_of
wires-none f x l h = rw (sources-none f l h) refl

-- The wires of all variables -----------------------------------------------------------------------------------------------------------

pub record Joining (j : Joint) (ps : List Source) (n : ℕ) (before cells wires : List ℕ) (next x : ℕ) : Type 0 where
  pub cells_are :
      write next (ors_from j.kind ps next x (20 - x)) cells ≡ write n (ors_from j.kind ps n j.first (20 - j.first)) before
  pub wires-are : drop j.first (sets wires x (outs_from j.none ps next x (20 - x))) ≡ outs_from j.none ps n j.first (20 - j.first)
  pub cell : next + or_count_from ps x (20 - x) ≡ n + or_count_from ps j.first (20 - j.first)
  pub same : length cells ≡ length before
  pub twenty : length wires ≡ 20

-- what is stored up to the end is there
drop-sets : (v d : List ℕ) (i : ℕ) → length d ≡ i + length v → drop i (sets d i v) ≡ v
drop-sets v d i e =
    let h : length d ≤ i + length v = omega arith in
    ap (λ (l : List ℕ). drop i l)
    (sets-eq v d i (omega arith) ∙ ap (λ (r : List ℕ). (take i d ++ v) ++ r) (drop_of_length-le d h) ∙ append-nil (take i d ++ v))
    ∙ drop_at (take i d) v i (length-take-le i d (omega arith))

module _ (j : Joint) (ps : List Source) (n : ℕ) (before : List ℕ) where
  pub joining-start : (wires : List ℕ) → length wires ≡ 20 → j.first ≤ 20 → Joining j ps n before before wires n j.first
  joining-start wires l h =
      let o = outs-len j.none ps n j.first (20 - j.first) in
      record {
        cells_are = refl;
        wires-are = drop-sets (outs_from j.none ps n j.first (20 - j.first)) wires j.first (omega (arith, o));
        cell = refl;
        same = refl;
        twenty = l;
      }

  module _ {cells wires : List ℕ} {next x : ℕ} (C : Joining j ps n before cells wires next x) where
    module _ (h : x < 20) where
      one_less : 20 - x ≡ suc (20 - (x + 1))
      one_less = omega arith

      pub joining-room : next + or_count (wires_of x ps) ≤ n + or_count_from ps j.first (20 - j.first)
      unfolding or_count_from
      joining-room = let q = rw one_less at C.cell in omega (arith, q)

      pub joining-more : {after : List ℕ} {r : Word} → Joined j next (wires_of x ps) cells after r
          → Joining j ps n before after (set wires x r.wire) r.cell (x + 1)
      unfolding ors_from outs_from or_count_from
      joining-more u =
          let W = wires_of x ps in
          let m = next + or_count W in
          let Y = ors_from j.kind ps m (x + 1) (20 - (x + 1)) in
          rw (u.wire, u.cell)
          (record {
            cells_are =
                ap (write m Y) u.cells
                ∙ write-append next m (ors j.kind next W) Y cells (behind next (ors-len j.kind next W))
                ∙ (rw one_less at C.cells_are);
            wires-are =
                ap (λ (k : ℕ). drop j.first (sets (set wires x (ors_out j.none next W)) k (outs_from j.none ps m (x + 1) (20 - (x + 1))))) (add-one x)
                ∙ (rw one_less at C.wires-are);
            cell = let z = rw one_less at C.cell in omega (arith, z);
            same = ap length u.cells ∙ write-length next (ors j.kind next W) cells ∙ C.same;
            twenty = length-set wires x (ors_out j.none next W) ∙ C.twenty;
          })

    pub joining-end : 20 ≤ x → Ored j n ps before cells (record { wires = wires; next = next })
    unfolding ors_from outs_from or_count_from
    joining-end h =
        let e : 20 - x ≡ 0 = omega arith in
        record {
          cells = sym (write-none next cells) ∙ (rw e at C.cells_are);
          wires = rw e at C.wires-are;
          next = omega (arith, rw e at C.cell);
        }

-- ors look at the wires of their variables alone
module _ (ps qs : List Source) where
  abbrev Alike : ℕ → ℕ → Type 0
  Alike x i = (y : ℕ) → x ≤ y → y < x + i → wires_of y ps ≡ wires_of y qs

  later : (x i : ℕ) → Alike x (suc i) → Alike (x + 1) i
  later x i h y l g = h y (omega arith) (omega arith)

  ors-alike : (kind n x i : ℕ) → Alike x i → ors_from kind ps n x i ≡ ors_from kind qs n x i
  unfolding ors_from
  ors-alike kind n x zero h = refl
  ors-alike kind n x (suc i) h = rw (h x (omega arith) (omega arith), ors-alike kind (n + or_count (wires_of x qs)) (x + 1) i (later x i h))

  outs-alike : (none n x i : ℕ) → Alike x i → outs_from none ps n x i ≡ outs_from none qs n x i
  unfolding outs_from
  outs-alike none n x zero h = refl
  outs-alike none n x (suc i) h = rw (h x (omega arith) (omega arith), outs-alike none (n + or_count (wires_of x qs)) (x + 1) i (later x i h))

  pub counts-alike : (x i : ℕ) → Alike x i → or_count_from ps x i ≡ or_count_from qs x i
  unfolding or_count_from
  counts-alike x zero h = refl
  counts-alike x (suc i) h = rw (h x (omega arith) (omega arith), counts-alike (x + 1) i (later x i h))

  pub ored-alike : {j : Joint} {n : ℕ} {before after : List ℕ} {r : Ors} → Alike j.first (20 - j.first) → Ored j n ps before after r → Ored j n qs before after r
  ored-alike {j} {n} {before} h v =
      let x = j.first in
      let i = 20 - j.first in
      record {
        cells = v.cells ∙ ap (λ (cs : List Cell). write n cs before) (ors-alike j.kind n x i h);
        wires = v.wires ∙ outs-alike j.none n x i h;
        next = v.next ∙ ap (λ (m : ℕ). n + m) (counts-alike x i h);
      }

-- The memories and the arrays ----------------------------------------------------------------------------------------------------------

module _ (ks ds : List ℕ) (M x : ℕ) (cells : List ℕ) where
  pub memories-more : {after : List ℕ} → x < 16 → after ≡ write (M + x) (cell 40 0 (get_or ks x 0) (get_or ds x 0) ∷ []) cells
      → write (M + x) (memories_of ks ds x (16 - x)) cells ≡ write (M + (x + 1)) (memories_of ks ds (x + 1) (16 - (x + 1))) after
  unfolding memories_of
  memories-more h w =
      let e : 16 - x ≡ suc (16 - (x + 1)) = omega arith in
      let Y = memories_of ks ds (x + 1) (16 - (x + 1)) in
      rw (e, w) (sym (write-append (M + x) (M + (x + 1)) (cell 40 0 (get_or ks x 0) (get_or ds x 0) ∷ []) Y cells (omega arith)))

  pub memories-end : 16 ≤ x → write (M + x) (memories_of ks ds x (16 - x)) cells ≡ cells
  unfolding memories_of
  memories-end h = let e : 16 - x ≡ 0 = omega arith in rw e (write-none (M + x) cells)

module _ (ks ds js : List ℕ) (N k : ℕ) (cells : List ℕ) where
  pub arrays-more : {mid after : List ℕ} → k < 4
      → mid ≡ write (N + 2 * k) (cell 42 k (get_or ks (array_var k) 0) (get_or ds (array_var k) 0) ∷ []) cells
      → after ≡ write (N + 2 * k + 1) (cell 43 0 (get_or js (array_var k) 0) 0 ∷ []) mid
      → write (N + 2 * k) (arrays_of ks ds (drop 16 js) k (4 - k)) cells ≡ write (N + 2 * (k + 1)) (arrays_of ks ds (drop 16 js) (k + 1) (4 - (k + 1))) after
  unfolding arrays_of
  arrays-more h w v =
      let e : 4 - k ≡ suc (4 - (k + 1)) = omega arith in
      let a = cell 42 k (get_or ks (array_var k) 0) (get_or ds (array_var k) 0) in
      let b = cell 43 0 (get_or js (array_var k) 0) 0 in
      let Y = arrays_of ks ds (drop 16 js) (k + 1) (4 - (k + 1)) in
      rw (e, get_or-drop 16 js k 0, v, w)
      (sym (ap (write (N + 2 * (k + 1)) Y) (write-append (N + 2 * k) (N + 2 * k + 1) (a ∷ []) (b ∷ []) cells refl)
      ∙ write-append (N + 2 * k) (N + 2 * (k + 1)) (a ∷ (b ∷ [])) Y cells (omega arith)))

  pub arrays-end : 4 ≤ k → write (N + 2 * k) (arrays_of ks ds (drop 16 js) k (4 - k)) cells ≡ cells
  unfolding arrays_of
  arrays-end h = let e : 4 - k ≡ 0 = omega arith in rw e (write-none (N + 2 * k) cells)
