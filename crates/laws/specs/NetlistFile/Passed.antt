-- What refusals 9 to 12 leave: a netlist whose cells keep every rule, and a file whose blocks are right.
-- Cells that keep the rules look only at lower cells and at the past.
-- Assumes nothing.
use Rattle.model.specs.Refusals.{Accepted}
use Rattle.std.specs.Prelude.{◌≡◌, Bool, not, ◌&&◌, List, ℕ, zero, suc, ◌+◌, ◌-◌, ◌*◌, ◌/◌, ◌%◌, ◌<◌, ◌≤◌, leb, length}
use Rattle.std.proofs.Math.Path.{refl}
use Rattle.std.proofs.Common.{ap, arith}
use Rattle.std.proofs.Math.Bool.{true, false}
use Rattle.std.proofs.Math.Dec.{eqb, ltb}
use borrow.Author.Tests.{ltb-true, ltb-false, leb-true, eqb-true, eqb-false, le-leb, lt-ltb, le-ltb, eq-eqb, ne_eqb}
use Rattle.model.specs.declared.Cell.{Cell}
use Rattle.model.specs.Word.{pick}
use Rattle.model.specs.Circuit.{cell_at, control, memories, past_memories, array_at}
use Rattle.model.specs.NetlistFile.{cell_limit, word_sum, block_at, blocks_for, count_of, finish_of, cells_at, in_file, cells_of, file_length_wrong, sum_fault, count_wrong, header_right, pulse_of, pulse_wrong, header_fault, of_array, keeps, placed, array_placed, cell_fault, net_checks, net_check, file_checks, file_check}
use Rattle.laws.specs.Refusals.Laws.{not-both, and-true, or-false, not-false, all-accept, refuse-unless, fault-unless, no-fault}
use Rattle.laws.specs.Circuit.Ordered.{Ordered}
use Rattle.laws.specs.NetlistFile.Uses.{keeps-looks}

-- Netlists -----------------------------------------------------------------------------------------------------------------------------

pub record NetPassed (net : List Cell) (f : ℕ) : Type 0 where
  pub kept : (k : ℕ) → k < length net → keeps net k (cell_at net k) ≡ true
  pub arrayed : (k : ℕ) → k < length net → array_placed (past_memories net 16) k (cell_at net k) ≡ true
  pub sixteen : memories net ≡ 16
  pub whole : past_memories net 16 + 8 ≤ length net
  pub finish : control (cell_at net f).kind ≡ true

pub net-passed : (net : List Cell) (f : ℕ) → net_check net f ≡ Accepted → NetPassed net f
unfolding net_check cell_fault
net-passed net f e =
    let a = all-accept (net_checks net f) e in
    let m = past_memories net 16 in
    let right : (k : ℕ) → k < length net → (array_placed m k (cell_at net k) && keeps net k (cell_at net k)) ≡ true =
    λ k l.
    let c = cell_at net k in
    let all = placed k c && (array_placed m k c && keeps net k c) in
    (and-true (placed k c) _ (not-false all (fault-unless (not all) 12 (omega arith) (no-fault (cell_fault net) (length net) (a 0) k l)))).1 in
    record {
      kept = λ k l. (and-true (array_placed m k (cell_at net k)) _ (right k l)).1;
      arrayed = λ k l. (and-true (array_placed m k (cell_at net k)) _ (right k l)).0;
      sixteen = eqb-true _ _ (not-false (eqb (memories net) 16) (refuse-unless (not (eqb (memories net) 16)) 12 (length net) (a 1)));
      whole = ltb-false (length net) (m + 8) (refuse-unless (ltb (length net) (m + 8)) 12 (length net) (a 2));
      finish = not-false (control (cell_at net f).kind) (refuse-unless (not (control (cell_at net f).kind)) 12 f (a 3));
    }

-- The arrays' cells, which begin at m
module _ (m k : ℕ) (c : Cell) (e : array_placed m k c ≡ true) where
  -- a kind 42 stands among them, in its array's place
  array-stands : c.kind ≡ 42 → (c.delay < 4) × (k ≡ m + 2 * c.delay)
  unfolding array_placed of_array
  array-stands q = go (leb m k && ltb k (m + 8)) (eqb ((k - m) % 2) 0) refl refl (rw q at e)
    where
      go : (b p : Bool) → (leb m k && ltb k (m + 8)) ≡ b → eqb ((k - m) % 2) 0 ≡ p
          → pick (leb m k && ltb k (m + 8)) (pick (eqb ((k - m) % 2) 0) (eqb c.delay ((k - m) / 2)) false) false ≡ true
          → (c.delay < 4) × (k ≡ m + 2 * c.delay)
      go true true x y h =
          let l = and-true (leb m k) (ltb k (m + 8)) x in
          let d : c.delay ≡ (k - m) / 2 = eqb-true _ _ (rw (x, y) at h) in
          omega (arith, leb-true m k l.0, ltb-true k (m + 8) l.1, eqb-true ((k - m) % 2) 0 y, d)
      go true false x y h = not-both (rw (x, y) at h) refl
      go false p x y h = not-both (rw x at h) refl

  -- in an array's place stands its kind 42
  array-here : (v : ℕ) → v < 4 → k ≡ m + 2 * v → (c.kind ≡ 42) × (c.delay ≡ v)
  unfolding array_placed
  array-here v l q =
      let h : (eqb c.kind 42 && eqb c.delay ((k - m) / 2)) ≡ true =
      rw (le-leb m k (omega arith), lt-ltb k (m + 8) (omega arith), eq-eqb ((k - m) % 2) 0 (omega arith)) at e in
      let r = and-true (eqb c.kind 42) _ h in
      (eqb-true _ _ r.0, omega (arith, eqb-true c.delay ((k - m) / 2) r.1))

  -- and next to it a kind 43
  address-here : (v : ℕ) → v < 4 → k ≡ m + 2 * v + 1 → c.kind ≡ 43
  unfolding array_placed
  address-here v l q =
      eqb-true _ _ (rw (le-leb m k (omega arith), lt-ltb k (m + 8) (omega arith), ne_eqb ((k - m) % 2) 0 (λ z. omega arith)) at e)

pub net-ordered : (net : List Cell) (f : ℕ) → net_check net f ≡ Accepted → Ordered net
net-ordered net f e =
    let p = net-passed net f e in
    let m = past_memories net 16 in
    record {
      looks = λ k l. keeps-looks net k (cell_at net k) (p.kept k l);
      arrays = λ v l.
          let j = array_at net v in
          let here : j + 1 < length net = omega (arith, p.whole, l) in
          let s = array-here m j (cell_at net j) (p.arrayed j (omega (arith, here))) v l refl in
          (here, s.0, s.1, address-here m (j + 1) (cell_at net (j + 1)) (p.arrayed (j + 1) here) v l refl);
      stands = λ k l q. array-stands m k (cell_at net k) (p.arrayed k l) q;
    }

-- Files --------------------------------------------------------------------------------------------------------------------------------

pub record FilePassed (s : List ℕ) : Type 0 where
  pub lengths : file_length_wrong s ≡ false
  pub sums : (b : ℕ) → b < length s / 512 → word_sum (block_at s b) % 65536 ≡ 0
  pub count : count_wrong (length s / 512) (count_of s) (finish_of s) ≡ false
  pub pulse : pulse_wrong (pulse_of s) ≡ false
  pub headers : (b : ℕ) → b < length s / 512 → header_right (pulse_of s) (count_of s) (finish_of s) b (block_at s b) ≡ true
  pub cells : net_check (cells_of s) (finish_of s) ≡ Accepted

pub file-passed : (s : List ℕ) → file_check s ≡ Accepted → FilePassed s
unfolding file_check sum_fault header_fault
file-passed s e =
    let a = all-accept (file_checks s) e in
    let m = length s / 512 in
    let told = or-false (count_wrong m (count_of s) (finish_of s)) (pulse_wrong (pulse_of s)) (refuse-unless _ 11 0 (a 2)) in
    record {
      lengths = refuse-unless (file_length_wrong s) 9 0 (a 0);
      sums = λ b l.
          let right = eqb (word_sum (block_at s b) % 65536) 0 in
          eqb-true _ _ (not-false right (fault-unless (not right) 10 (omega arith) (no-fault (sum_fault s) m (a 1) b l)));
      count = told.0;
      pulse = told.1;
      headers = λ b l.
          let right = header_right (pulse_of s) (count_of s) (finish_of s) b (block_at s b) in
          not-false right (fault-unless (not right) 11 (omega arith) (no-fault (header_fault s) m (a 3) b l));
      cells = a 4;
    }

-- a pulse length of 1 to 8
pub pulse-right : (w : ℕ) → pulse_wrong w ≡ false → (1 ≤ w) × (w ≤ 8)
unfolding pulse_wrong
pulse-right w h =
    let p = or-false (eqb w 0) (ltb 8 w) h in
    (omega (arith, eqb-false w 0 p.0), ltb-false 8 w p.1)

pub right-pulse : (w : ℕ) → 1 ≤ w → w ≤ 8 → pulse_wrong w ≡ false
unfolding pulse_wrong
right-pulse w h g = rw (ne_eqb w 0 (λ e. omega arith), le-ltb 8 w g) refl

-- how many cells, in how many blocks, and the finish among them
pub count-range : (m n f : ℕ) → count_wrong m n f ≡ false → (27 ≤ n) × (n ≤ cell_limit) × (m ≡ blocks_for n) × (f < n)
unfolding count_wrong
count-range m n f e =
    let p = and-true (leb 27 n) _ (not-false _ e) in
    let q = and-true (leb n cell_limit) _ p.1 in
    let r = and-true (eqb m (blocks_for n)) _ q.1 in
    (leb-true 27 n p.0, leb-true n cell_limit q.0, eqb-true _ _ r.0, ltb-true f n r.1)

pub length-cells : (at : ℕ → ℕ) (s : List ℕ) (k n : ℕ) → length (cells_at at s k n) ≡ n
unfolding cells_at
length-cells at s k zero = refl
length-cells at s k (suc n) = ap suc (length-cells at s (k + 1) n)

pub count-cells : (s : List ℕ) → length (cells_of s) ≡ count_of s
unfolding cells_of
count-cells s = length-cells in_file s 0 (count_of s)

-- the finish of an accepted file is one of its cells
pub finish-within : (s : List ℕ) → file_check s ≡ Accepted → finish_of s < length (cells_of s)
finish-within s e = rw (count-cells s) (count-range _ _ _ (file-passed s e).count).3
