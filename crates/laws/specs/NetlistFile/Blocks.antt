-- Blocks: what is written of a block is found there again, and a block whose header, sum, cells and unused bytes are right is the one that
-- is written.
-- Assumes nothing.
use Rattle.std.specs.Prelude.{◌≡◌, refl, true, List, [], ◌∷◌, ◌++◌, eqb, length, get_or, take, drop, replicate}
use Rattle.std.proofs.Common.{sym, ◌∙◌, ap, ap₂, append_assoc, append-nil, add-zero, mul-suc, length-append, length-take, length-drop, take-append-drop, get_or-append-add, get_or-drop, take_all, take_at, drop-drop, ext_get_or, eq-eqb, eqb-true}
use Prim.Native.Nat.{ℕ, zero, suc, ◌+◌, ◌-◌, ◌*◌, ◌%◌, ◌<◌, ◌≤◌}
use native.Mathlib.Omega.{arith}
use Rattle.std.proofs.Math.Decide.{dec_lt}
use Rattle.std.proofs.lemmas.List.{length-replicate, get_or-replicate}
use Rattle.std.proofs.Math.ListN.{get_or-eq_default}
use Rattle.std.proofs.Math.Seq.{drop-append-add}
use Rattle.model.specs.declared.Cell.{Cell}
use Rattle.model.specs.Word.{get16, bytes16, Bytes}
use Rattle.model.specs.Circuit.{cell_at}
use Rattle.model.specs.NetlistFile.{cell_bytes, cell_from, word_sum, check_for, block_with, block, blocks, block_at, all_zero, header_right, count_of, finish_of, head_bytes, rest_bytes, running_sum, first_number, pulse_of}
use Rattle.laws.specs.Refusals.Laws.{and-true, and-of}
use Rattle.laws.specs.NetlistFile.RunningSum.{running-sum}
use Rattle.laws.specs.NetlistFile.CellBytes.{from-shift, from_bytes, bytes-length, two_back, cells-back, zero-run}

-- One block that was written -----------------------------------------------------------------------------------------------------------

-- a block's eight bytes before its cells
pub front_of : ℕ → ℕ → ℕ → List Cell → List ℕ
front_of b n f cs = head_bytes b n f ++ bytes16 (check_for (running_sum b n f cs))

pub block-is : (b n f : ℕ) (cs : List Cell) (q : List ℕ) → block b n f cs ++ q ≡ front_of b n f cs ++ (cell_bytes cs ++ (replicate (504 - 6 * length cs) 0 ++ q))
unfolding block front_of bytes16
block-is b n f cs q = rw (append_assoc (cell_bytes cs) (replicate (504 - 6 * length cs) 0) q)

pub front_length : (b n f : ℕ) (cs : List Cell) → length (front_of b n f cs) ≡ 8
unfolding front_of bytes16
front_length b n f cs = refl

pub block-length : (b n f : ℕ) (cs : List Cell) → length cs ≤ 84 → length (block b n f cs) ≡ 512
unfolding block bytes16
block-length b n f cs l = simp (length-append, bytes-length, length-replicate) (omega arith)

pub take_short : (cs : List Cell) → length (take 84 cs) ≤ 84
take_short cs = rw (length-take 84 cs) (omega arith)

pub block-sum : (b n f : ℕ) (rest : List ℕ) → word_sum (block_with b n f rest) % 65536 ≡ 0
unfolding bytes16 word_sum
block-sum b n f rest = omega arith

pub in_block : (b n f : ℕ) (cs : List Cell) (k : ℕ) → k < length cs → cell_from (block b n f cs) (8 + 6 * k) ≡ cell_at cs k
in_block b n f cs k l =
    let z : List ℕ = replicate (504 - 6 * length cs) 0 ++ [] in
    ap (λ (s : List ℕ). cell_from s (8 + 6 * k)) (sym (append-nil (block b n f cs)) ∙ block-is b n f cs [])
    ∙ from-shift (front_of b n f cs) (cell_bytes cs ++ z) (8 + 6 * k) (6 * k) (omega (arith, front_length b n f cs))
    ∙ from_bytes cs z k l

-- bytes after the last cell are zero
all-zero : (s : List ℕ) → ((i : ℕ) → get_or s i 0 ≡ 0) → all_zero s ≡ true
all-zero s h = ap all_zero (sym (take_all (length s) s (omega arith))) ∙ zero-run (length s) s (λ i l. h i)

pub zero-tail : (m i : ℕ) → get_or {A = ℕ} (replicate m 0) i 0 ≡ 0
zero-tail m i = go (dec_lt i m)
  where
    go : Dec (i < m) → get_or {A = ℕ} (replicate m 0) i 0 ≡ 0
    go (yes l) = get_or-replicate {A = ℕ} m i 0 0 l
    go (no l) = get_or-eq_default (replicate m 0) 0 {n = i} (rw (length-replicate {A = ℕ} m 0) (omega arith))

unused : (b n f : ℕ) (cs : List Cell) (j : ℕ) → 8 + 6 * length cs ≤ j → get_or (block b n f cs) j 0 ≡ 0
unused b n f cs j l =
    let z : List ℕ = replicate (504 - 6 * length cs) 0 in
    let P = front_of b n f cs ++ cell_bytes cs in
    let k = j - (8 + 6 * length cs) in
    let x : length P ≡ 8 + 6 * length cs = length-append (front_of b n f cs) (cell_bytes cs) ∙ omega (arith, front_length b n f cs, bytes-length cs) in
    let y : length P + k ≡ j = omega (arith, x) in
    ap (λ (s : List ℕ). get_or s j 0) (sym (append-nil (block b n f cs)) ∙ block-is b n f cs [] ∙ sym (append_assoc (front_of b n f cs) (cell_bytes cs) (z ++ [])) ∙ ap (λ (s : List ℕ). P ++ s) (append-nil z))
    ∙ ap (λ (i : ℕ). get_or (P ++ z) i 0) (sym y)
    ∙ get_or-append-add P z k 0
    ∙ zero-tail (504 - 6 * length cs) k

head-numbers : (b n f : ℕ) (cs : List Cell) → (get16 (block b n f cs) 0 ≡ b) × (get16 (block b n f cs) 2 ≡ n) × (get16 (block b n f cs) 4 ≡ f)
unfolding block bytes16 get16
head-numbers b n f cs = (omega arith, omega arith, omega arith)

-- a block whose cells are all that are left, or 84, has the right header
pub headed-written : (w b n f : ℕ) (cs : List Cell) → length cs ≡ n - 84 * b
    → header_right w n f b (block (first_number w + b) n f (take 84 cs)) ≡ true
unfolding header_right
headed-written w b n f cs e =
    let B = block (first_number w + b) n f (take 84 cs) in
    let h = head-numbers (first_number w + b) n f (take 84 cs) in
    and-of (eq-eqb _ _ h.0) (and-of (eq-eqb _ _ h.1) (and-of (eq-eqb _ _ h.2)
    (all-zero (drop (8 + 6 * (n - 84 * b)) B)
    (λ i.
    get_or-drop (8 + 6 * (n - 84 * b)) B i 0
    ∙ unused (first_number w + b) n f (take 84 cs) (8 + 6 * (n - 84 * b) + i) (rw (length-take 84 cs) (omega arith))))))

-- Blocks one after another -------------------------------------------------------------------------------------------------------------

-- what is left of a list after one part more
drop_more : {A : Type 0} (n j : ℕ) (s : List A) → drop (n * j) (drop n s) ≡ drop (n * suc j) s
drop_more n j s =
    let e : n + n * j ≡ n * suc j = rw (mul-suc n j) (omega arith) in
    drop-drop (n * j) n s ∙ ap (λ (k : ℕ). drop k s) e

pub block-at : (m b n f : ℕ) (cs : List Cell) (j : ℕ) → j < m → block_at (blocks m b n f cs) j ≡ block (b + j) n f (take 84 (drop (84 * j) cs))
unfolding blocks
block-at zero b n f cs j l = absurd (omega arith)
block-at (suc m) b n f cs zero l =
    take_at (block b n f (take 84 cs)) _ 512 (block-length b n f (take 84 cs) (take_short cs)) ∙ ap (λ (k : ℕ). block k n f (take 84 cs)) (sym (add-zero b))
block-at (suc m) b n f cs (suc j) l =
    let B = block b n f (take 84 cs) in
    let R = blocks m (b + 1) n f (drop 84 cs) in
    let e : 512 * suc j ≡ length B + 512 * j = omega (arith, block-length b n f (take 84 cs) (take_short cs)) in
    let z : b + 1 + j ≡ b + suc j = omega arith in
    ap (λ (s : List ℕ). take 512 s) (ap (λ (k : ℕ). drop k (B ++ R)) e ∙ drop-append-add B R (512 * j))
    ∙ block-at m (b + 1) n f (drop 84 cs) j (omega arith)
    ∙ ap₂ (λ (k : ℕ) (r : List Cell). block k n f (take 84 r)) z (drop_more 84 j cs)

pub blocks-length : (m b n f : ℕ) (cs : List Cell) → length (blocks m b n f cs) ≡ 512 * m
unfolding blocks
blocks-length zero b n f cs = refl
blocks-length (suc m) b n f cs =
    length-append (block b n f (take 84 cs)) (blocks m (b + 1) n f (drop 84 cs))
    ∙ omega (arith, block-length b n f (take 84 cs) (take_short cs), blocks-length m (b + 1) n f (drop 84 cs))

module _ (n f : ℕ) where
  pub count-is : (m b : ℕ) (cs : List Cell) → 0 < m → count_of (blocks m b n f cs) ≡ n
  unfolding blocks block bytes16 get16
  count-is zero b cs h = absurd (omega arith)
  count-is (suc m) b cs h = omega arith

  -- the first block's number has the pulse length in its high byte
  pub pulse-is : (m w : ℕ) (cs : List Cell) → 0 < m → 1 ≤ w → pulse_of (blocks m (first_number w) n f cs) ≡ w
  unfolding blocks block bytes16
  pulse-is zero w cs h pos = absurd (omega arith)
  pulse-is (suc m) w cs h pos = omega arith

  pub finish-is : (m b : ℕ) (cs : List Cell) → 0 < m → finish_of (blocks m b n f cs) ≡ f
  unfolding blocks block bytes16 get16
  finish-is zero b cs h = absurd (omega arith)
  finish-is (suc m) b cs h = omega arith

-- One block that was read --------------------------------------------------------------------------------------------------------------

pub zeros-back : (m : ℕ) (s : List ℕ) → length s ≡ m → ((i : ℕ) → get_or s i 0 ≡ 0) → s ≡ replicate m 0
zeros-back m s e h = ext_get_or 0 s (replicate m 0) (e ∙ sym (length-replicate {A = ℕ} m 0)) (λ i l. h i ∙ sym (zero-tail m i))

-- a block with the right header and sum is the one that is written
pub block_of : (b n f x₀ x₁ x₂ x₃ x₄ x₅ x₆ x₇ : ℕ) (r : List ℕ) → x₀ < 256 → x₂ < 256 → x₄ < 256 → x₆ < 256 → x₇ < 256
    → b ≡ x₀ + 256 * x₁ → n ≡ x₂ + 256 * x₃ → f ≡ x₄ + 256 * x₅ → word_sum (x₀ ∷ x₁ ∷ x₂ ∷ x₃ ∷ x₄ ∷ x₅ ∷ x₆ ∷ x₇ ∷ r) % 65536 ≡ 0
    → block_with b n f r ≡ x₀ ∷ x₁ ∷ x₂ ∷ x₃ ∷ x₄ ∷ x₅ ∷ x₆ ∷ x₇ ∷ r
unfolding word_sum
block_of b n f x₀ x₁ x₂ x₃ x₄ x₅ x₆ x₇ r h₀ h₂ h₄ h₆ h₇ eb en ef s =
    rw (two_back x₀ x₁ b h₀ eb, two_back x₂ x₃ n h₂ en, two_back x₄ x₅ f h₄ ef)
    (ap (λ (l : List ℕ). x₀ ∷ x₁ ∷ x₂ ∷ x₃ ∷ x₄ ∷ x₅ ∷ (l ++ r)) (two_back x₆ x₇ _ h₆ (omega arith)))

pub block_back : (b n f : ℕ) (cs : List Cell) (B : List ℕ) → length B ≡ 512 → Bytes B → get16 B 0 ≡ b → get16 B 2 ≡ n → get16 B 4 ≡ f
    → word_sum B % 65536 ≡ 0 → length cs ≤ 84 → ((i : ℕ) → i < length cs → cell_at cs i ≡ cell_from B (8 + 6 * i))
    → ((j : ℕ) → 8 + 6 * length cs ≤ j → get_or B j 0 ≡ 0) → block b n f cs ≡ B
unfolding get16
block_back b n f cs [] l y eb en ef s k c z = absurd (omega arith)
block_back b n f cs (x₀ ∷ []) l y eb en ef s k c z = absurd (omega arith)
block_back b n f cs (x₀ ∷ x₁ ∷ []) l y eb en ef s k c z = absurd (omega arith)
block_back b n f cs (x₀ ∷ x₁ ∷ x₂ ∷ []) l y eb en ef s k c z = absurd (omega arith)
block_back b n f cs (x₀ ∷ x₁ ∷ x₂ ∷ x₃ ∷ []) l y eb en ef s k c z = absurd (omega arith)
block_back b n f cs (x₀ ∷ x₁ ∷ x₂ ∷ x₃ ∷ x₄ ∷ []) l y eb en ef s k c z = absurd (omega arith)
block_back b n f cs (x₀ ∷ x₁ ∷ x₂ ∷ x₃ ∷ x₄ ∷ x₅ ∷ []) l y eb en ef s k c z = absurd (omega arith)
block_back b n f cs (x₀ ∷ x₁ ∷ x₂ ∷ x₃ ∷ x₄ ∷ x₅ ∷ x₆ ∷ []) l y eb en ef s k c z = absurd (omega arith)
block_back b n f cs (x₀ ∷ x₁ ∷ x₂ ∷ x₃ ∷ x₄ ∷ x₅ ∷ x₆ ∷ x₇ ∷ r) l y eb en ef s k c z =
    let p : List ℕ = x₀ ∷ x₁ ∷ x₂ ∷ x₃ ∷ x₄ ∷ x₅ ∷ x₆ ∷ x₇ ∷ [] in
    let m = 6 * length cs in
    let rest : drop m r ≡ replicate (504 - m) 0 =
    zeros-back (504 - m) (drop m r) (rw (length-drop m r) (omega arith))
    (λ i. get_or-drop m r i 0 ∙ sym (get_or-append-add p r (m + i) 0) ∙ z (8 + (m + i)) (omega arith)) in
    let whole : rest_bytes cs ≡ r =
    ap (λ (q : List ℕ). cell_bytes cs ++ q) (sym rest)
    ∙ cells-back cs r (λ i. rw (get_or-append-add p r i 0) at (y (8 + i))) (λ i g. c i g ∙ from-shift p r (8 + 6 * i) (6 * i) (omega arith)) (omega arith) in
    (running-sum b n f).same cs ∙ ap (block_with b n f) whole ∙ block_of b n f x₀ x₁ x₂ x₃ x₄ x₅ x₆ x₇ r (y 0) (y 2) (y 4) (y 6) (y 7) (sym eb) (sym en) (sym ef) s

zero-all : (s : List ℕ) → all_zero s ≡ true → (i : ℕ) → get_or s i 0 ≡ 0
unfolding all_zero
zero-all [] e i = refl
zero-all (x ∷ s) e zero = eqb-true x 0 (and-true (eqb x 0) (all_zero s) e).0
zero-all (x ∷ s) e (suc i) = zero-all s (and-true (eqb x 0) (all_zero s) e).1 i

-- the header's numbers, and zeros from its last cell on
pub header_of : (w n f b : ℕ) (B : List ℕ) → header_right w n f b B ≡ true
    → (get16 B 0 ≡ first_number w + b) × (get16 B 2 ≡ n) × (get16 B 4 ≡ f) × ((j : ℕ) → 8 + 6 * (n - 84 * b) ≤ j → get_or B j 0 ≡ 0)
unfolding header_right
header_of w n f b B e =
    let p = and-true (eqb (get16 B 0) (first_number w + b)) _ e in
    let q = and-true (eqb (get16 B 2) n) _ p.1 in
    let r = and-true (eqb (get16 B 4) f) _ q.1 in
    let J = 8 + 6 * (n - 84 * b) in (
      eqb-true _ _ p.0,
      eqb-true _ _ q.0,
      eqb-true _ _ r.0,
      λ j l.
          let z : J + (j - J) ≡ j = omega arith in
          ap (λ (i : ℕ). get_or B i 0) (sym z) ∙ sym (get_or-drop J B (j - J) 0) ∙ zero-all (drop J B) r.1 (j - J),
    )

-- a list is what is written of blocks where each of its blocks is
pub blocks-back : (m b n f : ℕ) (cs : List Cell) (s : List ℕ) → length s ≡ 512 * m
    → ((j : ℕ) → j < m → block (b + j) n f (take 84 (drop (84 * j) cs)) ≡ block_at s j) → blocks m b n f cs ≡ s
unfolding blocks
blocks-back zero b n f cs [] l h = refl
blocks-back zero b n f cs (x ∷ s) l h = absurd (omega arith)
blocks-back (suc m) b n f cs s l h =
    let first : block b n f (take 84 cs) ≡ take 512 s = ap (λ (k : ℕ). block k n f (take 84 cs)) (sym (add-zero b)) ∙ h 0 (omega arith) in
    let rest =
    blocks-back m (b + 1) n f (drop 84 cs) (drop 512 s) (rw (length-drop 512 s) (omega arith))
    (λ j k.
    let z : b + 1 + j ≡ b + suc j = omega arith in
    ap₂ (λ (k : ℕ) (r : List Cell). block k n f (take 84 r)) z (drop_more 84 j cs)
    ∙ h (suc j) (omega arith)
    ∙ ap (λ (r : List ℕ). take 512 r) (sym (drop_more 512 j s))) in
    ap₂ (λ (x z : List ℕ). x ++ z) first rest ∙ take-append-drop 512 s
