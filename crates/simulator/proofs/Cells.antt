-- The cells of a file that is accepted, and the state that they fit. Assumes nothing.
use mathlib.Core.Bool.{Bool}
use mathlib.Core.List.{List}
use mathlib.Core.Path.{◌≡◌, refl, sym, ◌∙◌, ap}
use Prim.Native.Nat.{ℕ, ◌+◌, ◌<◌, ◌≤◌}
use native.Mathlib.Omega.{arith}
use borrow.Author.Tests.{eqb-true}
use lib.ListN.{length}
use Rattle.model.specs.declared.Cell.{Cell}
use Rattle.model.specs.declared.Format.{Format}
use Rattle.model.specs.Circuit.{cell_at, array_at, cell_table, shape, cell_row}
use Rattle.model.specs.NetlistFile.{cell_limit, file_limit, cell_from, in_file, count_of, finish_of, pulse_of, cells_of, net_of}
use Rattle.model.specs.State.{base, next_value, value, stored, shown}
use Rattle.model.specs.Word.{put16}
use Rattle.laws.specs.Circuit.Ordered.{Ordered, In, Looks, array, kinds}
use Rattle.laws.specs.NetlistFile.Passed.{count-cells}
use Rattle.netlist.specs.declared.header.Header.{Header}
use Rattle.netlist.proofs.Headers.{header-count, header-finish, header-pulse}
use Rattle.state.specs.Stands.{Stands}
use Rattle.state.proofs.Standing.{stands-in}
use Rattle.state.proofs.Files.{Sized, sized, file-cell, file-room, file-ordered}
use Rattle.simulator.specs.Fits.{Fits, Holds}
use Rattle.simulator.proofs.AcceptedFile.{file-sees, reruns}

module _ {F : Format} {file : List ℕ} {h : Header} {s : List ℕ} (f : Fits F file h s) where
  fits-sized : Sized file
  fits-sized = sized file f.runs.accepted

  -- by the header
  fits_count : h.count ≡ count_of file
  fits_count = header-count file f.header

  pub fits-pulse : h.pulse ≡ pulse_of file
  fits-pulse = header-pulse file f.header

  pub fits-finish : (h.finish ≡ finish_of file) × (h.finish < h.count)
  fits-finish = let e = header-finish file f.header in (e, omega (arith, e, fits_count, fits-sized.finish))

  pub fits-few : h.count ≤ cell_limit
  fits-few = rw fits_count fits-sized.few

  pub fits-room : base F h.count + 512 ≤ length s
  fits-room = rw fits_count (file-room F file s f.runs)

  pub fits-ordered : Ordered (cells_of file)
  fits-ordered = file-ordered F file s f.runs

  pub net-length : length (cells_of file) ≡ h.count
  net-length = count-cells file ∙ sym fits_count

  -- a state that is as long
  pub refits : {t : List ℕ} → length t ≡ length s → Fits F file h t
  refits e = record { runs = reruns f.runs e; header = f.header }

  -- cell k
  module _ (k : ℕ) (l : k < h.count) where
    below-count : k < count_of file
    below-count = omega (arith, fits_count)

    pub net-cell : cell_at (cells_of file) k ≡ cell_from file (in_file k)
    net-cell = file-cell file k below-count

    -- its bytes are there, and so is a cursor at it
    pub cell-there : in_file k + 6 ≤ length file
    cell-there = omega (arith, below-count, fits-sized.long)

    module _ {i : ℕ} (at : i ≡ in_file k) where
      pub cursor-there : i + 6 ≤ length file
      cursor-there = omega (arith, cell-there)

      pub cursor-low : i ≤ file_limit
      cursor-low = omega (arith, cursor-there, fits-sized.long, fits-sized.few)

      pub cursor-cell : {c : Cell} → c ≡ cell_from file i → c ≡ cell_from file (in_file k)
      cursor-cell e = e ∙ ap (cell_from file) at

    net-value : (starts : Bool) (t : List ℕ)
        → value F (net_of file) starts t k ≡ next_value F (shape (cell_from file (in_file k)).kind) starts (net_of file) t k (cell_from file (in_file k))
    net-value starts t = ap (λ (c : Cell). next_value F (shape c.kind) starts (net_of file) t k c) net-cell

    -- what cell k, which is c, shows is put in, behind what it has stored
    pub shown-value : (starts : Bool) (t u : List ℕ) (at x : ℕ) (c : Cell) → c ≡ cell_from file (in_file k) → u ≡ stored F (net_of file) t k → at ≡ base F k
        → x ≡ next_value F (shape c.kind) starts (net_of file) t k c → put16 u at x ≡ shown F (net_of file) (value F (net_of file) starts) t k
    unfolding shown
    shown-value starts t u at x c z p q r =
        let y : x ≡ value F (net_of file) starts t k = rw z at r ∙ sym (net-value starts t) in
        rw (p, q, y) refl

    -- it and the cells that it looks at stand in a state that is as long
    pub holds : (t : List ℕ) → length t ≡ length s → (c : Cell) → c ≡ cell_from file (in_file k) → Holds F file h t k c
    holds t e c z =
        let g : Fits F file h t = refits e in
        record {
          fits = g;
          below = l;
          here = z;
          stands = stands-in F t k h.count l fits-few (omega (arith, fits-room, e));
          sees = rw (z, ← net-cell) (file-sees F file t g.runs k below-count);
        }

-- what cell k asks
module _ {F : Format} {file : List ℕ} {h : Header} {s : List ℕ} {k : ℕ} {c : Cell} (p : Holds F file h s k c) where
  pub holds-cell : cell_at (cells_of file) k ≡ c
  holds-cell = net-cell p.fits k p.below ∙ sym p.here

  -- a read's a is an array
  pub read-array : c.kind ≡ 44 → (c.a < h.count) × ((cell_at (cells_of file) c.a).delay < 4)
  unfolding shape cell_table
  read-array z =
      let net = cells_of file in
      let o = fits-ordered p.fits in
      let long = net-length p.fits in
      let l : k < length net = omega (arith, long, p.below) in
      let looks : Looks (cell_row c.kind) (kinds net) (length net) k c =
      rw holds-cell at (o.looks k l) in
      let m : In array (kinds net) k c.a = rw z at looks.1 in
      let q : c.a < length net = omega (arith, m.0, l) in
      (omega (arith, q, long), (o.stands c.a q (eqb-true _ _ m.1)).0)

  -- behind an array stands its address, which names a cell of the state
  pub array-address : c.kind ≡ 42 → (c.delay < 4) × (k + 1 < h.count) × Stands F s (cell_from file (in_file (k + 1))).a
  array-address z =
      let net = cells_of file in
      let o = fits-ordered p.fits in
      let long = net-length p.fits in
      let l : k < length net = omega (arith, long, p.below) in
      let st : (c.delay < 4) × (k ≡ array_at net c.delay) = rw holds-cell at (o.stands k l (ap (λ (d : Cell). d.kind) holds-cell ∙ z)) in
      let q = o.arrays c.delay st.0 in
      let r : (k + 1 < length net) × ((cell_at net k).kind ≡ 42) × ((cell_at net k).delay ≡ c.delay) × ((cell_at net (k + 1)).kind ≡ 43) = rw (← st.1) at q in
      let m : k + 1 < h.count = omega (arith, r.0, long) in
      let e : (cell_from file (in_file (k + 1))).kind ≡ 43 = rw (net-cell p.fits (k + 1) m) at r.3 in
      (st.0, m, (holds p.fits (k + 1) m s refl _ refl).sees.a (λ y. omega (arith, e, y)))
