-- Files and lists of cells that are compared: how a comparison goes on, and that an accepted file is that of its cells and no other. Assumes nothing.
use Rattle.model.specs.Refusals.{Accepted}
use Rattle.std.proofs.Common.{◌≡◌, ℕ, ◌+◌, ◌-◌, ◌<◌, ◌≤◌, Bool, true, false, not, ◌&&◌, ◌||◌, eqb, List, [], ◌∷◌, length, sym, refl, ap, ◌∙◌, ap₂, true≢false, arith, eq-eqb, eqb-true}
use Rattle.model.specs.declared.Cell.{Cell}
use Rattle.model.specs.Word.{Bytes}
use Rattle.model.specs.Circuit.{cell}
use Rattle.model.specs.Text.{same}
use Rattle.model.specs.NetlistFile.{cell_from, cells_at, in_list, in_file, file_of, file_check, count_of, finish_of, pulse_of, cells_of}
use Rattle.laws.specs.Refusals.Laws.{by_bool, and-true, and-of, not-false, or-false}
use Rattle.laws.specs.Lists.Same.{same_bytes, bytes_same}
use Rattle.laws.specs.NetlistFile.Files.{count-written, finish-written, pulse-written, cells-written, file-back}
use Rattle.netlist.specs.declared.cells.Layout.TheVariants.{InFile}
use Rattle.netlist.specs.declared.header.Header.{Header}
use Rattle.netlist.specs.Headers.{header_of}
use Rattle.netlist.specs.Offsets.{Room}
use Rattle.netlist.specs.Compared.{same_cell, same_cells}
use Rattle.netlist.proofs.Headers.{header-count, header-finish, header-pulse}
use Rattle.netlist.proofs.FileChecks.{accepted-room}
use Rattle.netlist.proofs.Bytes.{cells-length, cells-more, cells-none}

-- Cells ----------------------------------------------------------------------------------------------------------------------------------

cell-is : (c d : Cell) → same_cell c d ≡ true → c ≡ d
cell-is c d t =
    let p = and-true (eqb c.kind d.kind && eqb c.delay d.delay) _ t in
    let l = and-true (eqb c.kind d.kind) _ p.0 in
    let r = and-true (eqb c.a d.a) _ p.1 in
    let z : cell c.kind c.delay c.a c.b ≡ cell d.kind d.delay d.a d.b =
    rw (eqb-true c.kind d.kind l.0, eqb-true c.delay d.delay l.1, eqb-true c.a d.a r.0, eqb-true c.b d.b r.1) refl in
    z

same-itself : (c : Cell) → same_cell c c ≡ true
same-itself c =
    and-of (and-of (eq-eqb c.kind c.kind refl) (eq-eqb c.delay c.delay refl)) (and-of (eq-eqb c.a c.a refl) (eq-eqb c.b c.b refl))

cells_is : (cs ds : List Cell) → same_cells cs ds ≡ true → cs ≡ ds
unfolding same_cells
cells_is [] [] t = refl
cells_is [] (d ∷ ds) t = absurd (true≢false (sym t))
cells_is (c ∷ cs) [] t = absurd (true≢false (sym t))
cells_is (c ∷ cs) (d ∷ ds) t = let p = and-true (same_cell c d) (same_cells cs ds) t in ap₂ ◌∷◌ (cell-is c d p.0) (cells_is cs ds p.1)

cells-themselves : (cs : List Cell) → same_cells cs cs ≡ true
unfolding same_cells
cells-themselves [] = refl
cells-themselves (c ∷ cs) = and-of (same-itself c) (cells-themselves cs)

-- A comparison that stands at cell k -------------------------------------------------------------------------------------------------------

module _ (file cells : List ℕ) (n k : ℕ) where
  abbrev pub left : Bool
  left = same_cells (cells_at in_file file k (n - k)) (cells_at in_list cells k (n - k))

  more : k < n → left ≡ same_cell (cell_from file (in_file k)) (cell_from cells (in_list k)) && same_cells (cells_at in_file file (k + 1) (n - (k + 1))) (cells_at in_list cells (k + 1) (n - (k + 1)))
  unfolding same_cells
  more l =
      let e : n - k - 1 ≡ n - (k + 1) = omega arith in
      rw (cells-more in_file file k (n - k) (omega arith), cells-more in_list cells k (n - k) (omega arith), e) refl

  module _ {c d : Cell} (l : k < n) (ec : c ≡ cell_from file (in_file k)) (ed : d ≡ cell_from cells (in_list k)) where
    pub differ-here : same_cell c d ≡ false → left ≡ false
    differ-here t = more l ∙ ap (λ (b : Bool). b && same_cells (cells_at in_file file (k + 1) (n - (k + 1))) (cells_at in_list cells (k + 1) (n - (k + 1)))) (rw (ec, ed) at t)

    pub same_here : same_cell c d ≡ true → left ≡ same_cells (cells_at in_file file (k + 1) (n - (k + 1))) (cells_at in_list cells (k + 1) (n - (k + 1)))
    same_here t = more l ∙ ap (λ (b : Bool). b && same_cells (cells_at in_file file (k + 1) (n - (k + 1))) (cells_at in_list cells (k + 1) (n - (k + 1)))) (rw (ec, ed) at t)

  pub same_end : n ≤ k → left ≡ true
  unfolding same_cells
  same_end l = rw (cells-none in_file file k (n - k) (omega arith), cells-none in_list cells k (n - k) (omega arith)) refl

pub same-start : (file cells : List ℕ) (n : ℕ) → same_cells (cells_at in_file file 0 n) (cells_at in_list cells 0 n) ≡ left file cells n 0
same-start file cells n = let e : n - 0 ≡ n = omega arith in rw e refl

-- The file of a list -----------------------------------------------------------------------------------------------------------------------

module _ (file : List ℕ) (y : Bytes file) (e : file_check file ≡ Accepted) (w : ℕ) (net : List Cell) (f : ℕ) (some : 0 < length net) (long : 1 ≤ w) where
  abbrev headed : Bool
  headed = not (eqb (count_of file) (length net)) || (not (eqb (finish_of file) f) || not (eqb (pulse_of file) w))

  record Told : Type 0 where
    count : count_of file ≡ length net
    finish : finish_of file ≡ f
    pulse : pulse_of file ≡ w
    cells : cells_of file ≡ net

  told : same file (file_of w net f) ≡ true → Told
  told t =
      let b = same_bytes file (file_of w net f) t in
      record {
        count = ap count_of b ∙ count-written w net f some;
        finish = ap finish_of b ∙ finish-written w net f some;
        pulse = ap pulse_of b ∙ pulse-written w net f some long;
        cells = ap cells_of b ∙ cells-written w net f some;
      }

  -- another header
  pub headed-otherwise : headed ≡ true → false ≡ same file (file_of w net f)
  headed-otherwise h =
      by_bool (same file (file_of w net f))
      (λ t.
      let T = told t in
      let z : headed ≡ false = rw (eq-eqb (count_of file) (length net) T.count, eq-eqb (finish_of file) f T.finish, eq-eqb (pulse_of file) w T.pulse) refl in
      absurd (true≢false (sym h ∙ z)))
      (λ t. sym t)

  -- the same header: the cells decide
  pub cells-decide : headed ≡ false → same_cells (cells_at in_file file 0 (length net)) net ≡ same file (file_of w net f)
  unfolding cells_of
  cells-decide h =
      let p = or-false (not (eqb (count_of file) (length net))) _ h in
      let q = or-false (not (eqb (finish_of file) f)) _ p.1 in
      let count = eqb-true (count_of file) (length net) (not-false _ p.0) in
      let cs : cells_of file ≡ cells_at in_file file 0 (length net) = ap (λ (n : ℕ). cells_at in_file file 0 n) count in
      by_bool (same_cells (cells_at in_file file 0 (length net)) net)
      (λ t.
      let net-is = cs ∙ cells_is (cells_at in_file file 0 (length net)) net t in
      t
      ∙ sym
      (bytes_same file (file_of w net f)
      (sym (file-back file y e)
      ∙ rw (eqb-true (finish_of file) f (not-false _ q.0), eqb-true (pulse_of file) w (not-false _ q.1), net-is) refl)))
      (λ t.
      by_bool (same file (file_of w net f))
      (λ s.
      let z : same_cells (cells_at in_file file 0 (length net)) net ≡ true =
      rw (sym cs ∙ (told s).cells) (cells-themselves net) in
      z ∙ sym s)
      (λ s. t ∙ sym s))

-- two values that differ, in one of three parts
differ-in : (a b c : Bool) → not (a && (b && c)) ≡ (not a || (not b || not c))
differ-in false b c = refl
differ-in true false c = refl
differ-in true true c = refl

-- as it is tested, of the first n cells of a list
module _ (file : List ℕ) (y : Bytes file) (e : file_check file ≡ Accepted) (w : ℕ) (cells : List ℕ) (n f : ℕ) (some : 0 < n) (long : 1 ≤ w) {h : Header}
    (told : h ≡ header_of file) where
  abbrev net : List Cell
  net = cells_at in_list cells 0 n

  abbrev test : Bool
  test = not (eqb h.count n && (eqb h.finish f && eqb h.pulse w))

  counted : length net ≡ n
  counted = cells-length in_list cells 0 n

  as-told : test ≡ headed file y e w net f (rw counted some) long
  as-told =
      differ-in (eqb h.count n) (eqb h.finish f) (eqb h.pulse w)
      ∙ rw (counted, header-count file told, header-finish file told, header-pulse file told) refl

  pub other-header : test ≡ true → false ≡ same file (file_of w net f)
  other-header t = headed-otherwise file y e w net f (rw counted some) long (sym as-told ∙ t)

  pub same-header : {r : Bool} → test ≡ false → r ≡ same_cells (cells_at in_file file 0 n) net → r ≡ same file (file_of w net f)
  same-header t g = g ∙ rw counted at (cells-decide file y e w net f (rw counted some) long (sym as-told ∙ t))

  pub header-room : test ≡ false → Room InFile file n
  header-room t =
      let c = eqb-true h.count n (and-true (eqb h.count n) _ (not-false _ t)).0 in
      rw (sym (header-count file told) ∙ c) at (accepted-room file e)
