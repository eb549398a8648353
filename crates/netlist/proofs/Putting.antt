-- Blocks and files put in: a block from its parts and its running sum, and a file cell by cell. Assumes nothing.
use Rattle.std.proofs.Common.{◌≡◌, ℕ, zero, suc, ◌+◌, ◌-◌, ◌*◌, ◌/◌, ◌%◌, ◌<◌, ◌≤◌, true, false, ◌||◌, eqb, List, [], ◌∷◌, ◌++◌, length, take, drop, replicate, sym, refl, ◌∙◌, append_assoc, append-nil, add-one, arith, length-drop, length-take, get_or-drop, take_all, take-suc, drop-drop, ne_eqb, eqb-true}
use native.Mathlib.Numerals.{towards_suc}
use borrow.Author.Tests.{eqb-false}
use lib.Seq.{sets, sets-eq}
use borrow.Rule.Slice.PartMut.{put_mid}
use Rattle.model.specs.declared.Cell.{Cell}
use Rattle.model.specs.Word.{pick, bytes16, put16}
use Rattle.model.specs.Circuit.{cell_at, no_cell}
use Rattle.model.specs.NetlistFile.{cell_bytes, sum_with, running_sum, check_for, block, blocks, blocks_for, rest_bytes}
use Rattle.laws.specs.NetlistFile.CellBytes.{bytes-length, bytes-append}
use Rattle.laws.specs.Refusals.Laws.{by_bool}
use Rattle.laws.specs.NetlistFile.RunningSum.{running-sum}
use Rattle.laws.specs.NetlistFile.Blocks.{blocks-length}
use Rattle.netlist.specs.declared.blocks.BlockHeader.{BlockHeader}
use Rattle.netlist.specs.Blocks.{header_bytes, first_of, filled_to, sum_to, Filled}
use Rattle.laws.specs.Lists.Writes.{sets-append, sets-before}
use Rattle.netlist.proofs.FileChecks.{neither}

-- Zeros --------------------------------------------------------------------------------------------------------------------------------

-- a part of a list that is now s
pub part-sets : (d s : List ℕ) (i n : ℕ) → length s ≡ n → i + n ≤ length d → put_mid i n d s ≡ sets d i s
part-sets d s i n e h = rw (sets-eq s d i (rw e h), e, drop-drop n i d) (sym (append_assoc (take i d) s (drop (i + n) d)))

-- Headers ------------------------------------------------------------------------------------------------------------------------------

module _ (h : BlockHeader) where
  pub head-put : (d : List ℕ) (i w : ℕ) {d₁ d₂ d₃ d₄ : List ℕ} → d₁ ≡ put16 d i h.number → d₂ ≡ put16 d₁ (i + 2) h.count
      → d₃ ≡ put16 d₂ (i + 4) h.finish → d₄ ≡ put16 d₃ (i + 6) w → d₄ ≡ sets d i (header_bytes h ++ bytes16 w)
  unfolding bytes16 put16
  head-put d i w e₁ e₂ e₃ e₄ = rw (e₄, e₃, e₂, e₁) (simp towards_suc)

-- the word that takes a running sum to 0
pub check-word : {sum w : ℕ} → sum < 65536 → w < 65536 → (w + sum) % 65536 ≡ 0 → w ≡ check_for sum
check-word h g e = omega arith

-- Blocks -------------------------------------------------------------------------------------------------------------------------------

-- a block's cells, zeros after them, and before them the header with the check that comes from the running sum
block-put : (d : List ℕ) (i : ℕ) (h : BlockHeader) (cs : List Cell) {n sum : ℕ} {d₁ d₂ : List ℕ} → length cs ≡ n → d₁ ≡ sets d (i + 8) (cell_bytes cs)
    → sum ≡ running_sum h.number h.count h.finish cs
    → d₂ ≡ sets (sets d₁ (i + 8 + 6 * n) (replicate (504 - 6 * n) 0)) i (header_bytes h ++ bytes16 (check_for sum))
    → d₂ ≡ sets d i (block h.number h.count h.finish cs)
unfolding block bytes16
block-put d i h cs {n} l e s f =
    let b : i + 8 + 6 * n ≡ i + 8 + length (cell_bytes cs) = omega (arith, bytes-length cs, l) in
    rw (f, b, ← l, e, ← sets-append d (i + 8) (cell_bytes cs) (replicate (504 - 6 * length cs) 0), s)
    (sets-before d i (header_bytes h ++ bytes16 (check_for (running_sum h.number h.count h.finish cs))) (rest_bytes cs))

-- Files --------------------------------------------------------------------------------------------------------------------------------

blocks_last : (m b n f : ℕ) (cs : List Cell) → blocks (suc m) b n f cs ≡ blocks m b n f cs ++ block (b + m) n f (take 84 (drop (84 * m) cs))
unfolding blocks
blocks_last zero b n f cs = let e : b + 0 ≡ b = omega arith in rw e (append-nil (block b n f (take 84 cs)))
blocks_last (suc m) b n f cs =
    let e : b + suc m ≡ b + 1 + m = omega arith in
    let z : 84 * suc m ≡ 84 + 84 * m = omega arith in
    let B = block (b + 1 + m) n f (take 84 (drop (84 + 84 * m) cs)) in
    let g : blocks (suc m) (b + 1) n f (drop 84 cs) ≡ blocks m (b + 1) n f (drop 84 cs) ++ B =
    rw (drop-drop (84 * m) 84 cs) at (blocks_last m (b + 1) n f (drop 84 cs)) in
    rw (e, z, g) (sym (append_assoc (block b n f (take 84 cs)) (blocks m (b + 1) n f (drop 84 cs)) B))

module _ (first : ℕ) (net : List Cell) (finish : ℕ) (was : List ℕ) where
  pub filled_none : (sum : ℕ) → Filled first net finish was 0 sum was
  unfolding blocks cell_bytes
  filled_none sum = record {
    part = λ _. refl;
    added = λ _ h. absurd (omega (arith, h));
    whole = λ h. let e : blocks_for (length net) ≡ 0 = omega (arith, h) in rw e refl;
  }

  -- the number of the first j cells of a block
  first-length : (b j : ℕ) → 84 * b + j ≤ length net → length (first_of net b j) ≡ j
  first-length b j h = omega (arith, h, length-take j (drop (84 * b) net), length-drop (84 * b) net)

  module _ (b j : ℕ) {c : Cell} (h : 84 * b + j < length net) (e : cell_at net (84 * b + j) ≡ c) where
    first_more : first_of net b (j + 1) ≡ first_of net b j ++ (c ∷ [])
    first_more =
        let l : j < length (drop (84 * b) net) = omega (arith, h, length-drop (84 * b) net) in
        rw (add-one j, take-suc (drop (84 * b) net) j no_cell l, get_or-drop (84 * b) net j no_cell, e) refl

    filled_more : {d d' : List ℕ} → d ≡ filled_to first net finish was b j → d' ≡ sets d (512 * b + 8 + 6 * j) (cell_bytes (c ∷ []))
        → d' ≡ filled_to first net finish was b (j + 1)
    filled_more f g =
        let cs = first_of net b j in
        let l : 512 * b + 8 + 6 * j ≡ 512 * b + 8 + length (cell_bytes cs) =
        omega (arith, bytes-length cs, first-length b j (omega (arith, h))) in
        rw (g, f, first_more, bytes-append cs (c ∷ []), l) (sym (sets-append _ (512 * b + 8) (cell_bytes cs) (cell_bytes (c ∷ []))))

    sum_more : {s s' : ℕ} → s ≡ sum_to first net finish b j → s' ≡ sum_with s c → s' ≡ sum_to first net finish b (j + 1)
    sum_more f g = rw (g, f, first_more) (sym ((running-sum (first + b) (length net) finish).after (first_of net b j) c))

  -- a block that has all its cells, and is closed
  filled-whole : (b j : ℕ) {h : BlockHeader} {sum : ℕ} {d d' : List ℕ} → 84 * b + j ≤ length net → first_of net b j ≡ first_of net b 84
      → h ≡ record { number = first + b; count = length net; finish = finish } → d ≡ filled_to first net finish was b j → sum ≡ sum_to first net finish b j
      → d' ≡ sets (sets d (512 * b + 8 + 6 * j) (replicate (504 - 6 * j) 0)) (512 * b) (header_bytes h ++ bytes16 (check_for sum))
      → d' ≡ sets was 0 (blocks (b + 1) first (length net) finish net)
  filled-whole b j {h} l a e f s g =
      let B = blocks b first (length net) finish net in
      let z : 512 * b ≡ 0 + length B = omega (arith, blocks-length b first (length net) finish net) in
      let cs = first_of net b j in
      let top : BlockHeader = record { number = first + b; count = length net; finish = finish } in
      let w = block-put (sets was 0 B) (512 * b) top cs (first-length b j l) f s (rw e at g) in
      rw (add-one b, blocks_last b first (length net) finish net, ← a, sets-append was 0 B (block (first + b) (length net) finish cs), ← z) w

  -- the running sum before a cell: its block's header has been added
  sum-begun : (b j : ℕ) {h : BlockHeader} {s s' : ℕ} → h ≡ record { number = first + b; count = length net; finish = finish } → (0 < j → s ≡ sum_to first net finish b j)
      → s' ≡ pick (eqb j 0) (running_sum h.number h.count h.finish []) s → s' ≡ sum_to first net finish b j
  sum-begun b zero e f g = rw (g, e) refl
  sum-begun b (suc j) e f g = rw (g, ne_eqb (suc j) 0 (λ z. omega (arith, z))) (f (omega arith))

  module _ (k : ℕ) {c : Cell} {h : BlockHeader} {s s₁ s₂ : ℕ} {d d₁ : List ℕ} (low : k < length net) (here : cell_at net k ≡ c)
      (head : h ≡ record { number = first + k / 84; count = length net; finish = finish }) (p : Filled first net finish was k s d)
      (begun : s₁ ≡ pick (eqb (k % 84) 0) (running_sum h.number h.count h.finish []) s)
      (put : d₁ ≡ sets d (512 * (k / 84) + 8 + 6 * (k % 84)) (cell_bytes (c ∷ [])))
      (added : s₂ ≡ sum_with s₁ c) where
    at-k : 84 * (k / 84) + k % 84 ≡ k
    at-k = omega arith

    inside : 84 * (k / 84) + k % 84 < length net
    inside = rw at-k low

    stands : cell_at net (84 * (k / 84) + k % 84) ≡ c
    stands = rw at-k here

    next : d₁ ≡ filled_to first net finish was (k / 84) (k % 84 + 1)
    next = filled_more (k / 84) (k % 84) inside stands (p.part low) put

    next-sum : s₂ ≡ sum_to first net finish (k / 84) (k % 84 + 1)
    next-sum = sum_more (k / 84) (k % 84) inside stands (sum-begun (k / 84) (k % 84) head (p.added low) begun) added

    pub put-inside : {q : ℕ} → q ≡ length net → (eqb (k % 84) 83 || eqb (k + 1) q) ≡ false → Filled first net finish was (k + 1) s₂ d₁
    put-inside {q} l t =
        let (inner, more) = neither (eqb (k % 84) 83) (eqb (k + 1) q) t in
        let m = eqb-false (k % 84) 83 inner in
        let b : (k + 1) / 84 ≡ k / 84 = omega (arith, m) in
        let j : (k + 1) % 84 ≡ k % 84 + 1 = omega (arith, m) in
        record {
          part = λ _. rw (b, j) next;
          added = λ _ _. rw (b, j) next-sum;
          whole = λ g. absurd (omega (arith, g, low, l, eqb-false (k + 1) q more));
        }

    -- a block is closed when it is full, or when there are no more cells
    last_of : {q : ℕ} → q ≡ length net → (eqb (k % 84) 83 || eqb (k + 1) q) ≡ true → k + 1 < length net → k % 84 ≡ 83
    last_of {q} l t i =
        by_bool (eqb (k % 84) 83) (eqb-true (k % 84) 83) (λ u. absurd (omega (arith, i, l, eqb-true (k + 1) q (rw u at t))))

    all_first : {q : ℕ} → q ≡ length net → (eqb (k % 84) 83 || eqb (k + 1) q) ≡ true
        → first_of net (k / 84) (k % 84 + 1) ≡ first_of net (k / 84) 84
    all_first {q} l t =
        by_bool (eqb (k % 84) 83) (λ u. rw (eqb-true (k % 84) 83 u) refl)
        (λ u. let e = eqb-true (k + 1) q (rw u at t) in
        let cs = drop (84 * (k / 84)) net in
        let n = length-drop (84 * (k / 84)) net in
        take_all (k % 84 + 1) cs (omega (arith, n, e, l)) ∙ sym (take_all 84 cs (omega (arith, n, e, l))))

    pub put_last : {q : ℕ} {d₂ : List ℕ} → q ≡ length net → (eqb (k % 84) 83 || eqb (k + 1) q) ≡ true
        → d₂ ≡ sets (sets d₁ (512 * (k / 84) + 8 + 6 * (k % 84 + 1)) (replicate (504 - 6 * (k % 84 + 1)) 0))
        (512 * (k / 84)) (header_bytes h ++ bytes16 (check_for s₂))
        → Filled first net finish was (k + 1) s₂ d₂
    unfolding cell_bytes
    put_last {q} l t g =
        let closed = filled-whole (k / 84) (k % 84 + 1) (omega (arith, low)) (all_first l t) head next next-sum g in
        record {
          part = λ i. let e = last_of l t i in
              let b : (k + 1) / 84 ≡ k / 84 + 1 = omega (arith, e) in let j : (k + 1) % 84 ≡ 0 = omega (arith, e) in rw (b, j) closed;
          added = λ i o. absurd (omega (arith, o, last_of l t i));
          whole = λ i. let e : blocks_for (length net) ≡ k / 84 + 1 = omega (arith, i, low) in rw e closed;
        }
