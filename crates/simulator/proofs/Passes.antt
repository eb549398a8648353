-- Passes over the cells and over the elements' start words: their turns, what they leave, and the passes of an instant together. Assumes nothing.
use mathlib.Core.List.{List, ◌++◌, append_assoc}
use mathlib.Core.Logic.{◌⊎◌, inl, inr}
use mathlib.Core.Path.{◌≡◌, refl, sym, ◌∙◌, ap}
use Prim.Native.Nat.{ℕ, zero, suc, ◌+◌, ◌-◌, ◌*◌, ◌/◌, ◌%◌, ◌<◌, ◌≤◌}
use native.Mathlib.Omega.{arith}
use native.Mathlib.Decide.{dec_lt}
use native.Mathlib.Numerals.{add-one}
use lib.ListN.{length, get_or, take, drop, replicate, length-take}
use Rattle.std.proofs.lemmas.List.{length-replicate}
use lib.Seq.{sets, sets-eq, length-sets, drop_at, drop-cons}
use Rattle.model.specs.Circuit.{Netlist}
use Rattle.model.specs.declared.Format.{Format}
use Rattle.model.specs.Word.{bytes16, get16, Bytes}
use Rattle.model.specs.Calls.{word_at}
use Rattle.model.specs.State.{cell_size, base, now_at, first_value, up_to, shown, settled, counted, word_bytes, blank, evaluate, begin_state}
use Rattle.laws.specs.State.Bytes.{get16-same, up_to-frame}
use Rattle.laws.specs.State.Lines.{below, rising}
use Rattle.laws.specs.State.Passes.{settled-frame}

up_to-more : (f : List ℕ → ℕ → List ℕ) (n : ℕ) (s : List ℕ) → up_to f (n + 1) s ≡ f (up_to f n s) n
unfolding up_to
up_to-more f n s = rw add-one

-- a pass over n cells that has come to cell k, and left t of s
pub record Passed (f : List ℕ → ℕ → List ℕ) (n : ℕ) (s t : List ℕ) (k : ℕ) : Type 0 where
  pub few : k ≤ n
  pub long : length t ≡ length s
  pub state : t ≡ up_to f k s

-- its beginning, its turns and its end
module _ {f : List ℕ → ℕ → List ℕ} {n : ℕ} {s : List ℕ} where
  pub passed_none : Passed f n s s 0
  unfolding up_to
  passed_none = record { few = omega arith; long = refl; state = refl }

  module _ {t : List ℕ} {k : ℕ} (p : Passed f n s t k) where
    pub passed-more : {u : List ℕ} → k < n → length u ≡ length t → u ≡ f t k → Passed f n s u (k + 1)
    passed-more h l e =
        record { few = omega arith; long = l ∙ p.long; state = e ∙ ap (λ (r : List ℕ). f r k) p.state ∙ sym (up_to-more f k s) }

    pub passed-all : n ≤ k → t ≡ up_to f n s
    passed-all h = let e : k ≡ n = omega (arith, h, p.few) in p.state ∙ ap (λ (j : ℕ). up_to f j s) e

-- Elements -----------------------------------------------------------------------------------------------------------------------------

pub length-words : (words : ℕ → ℕ) (x n : ℕ) → length (word_bytes words x n) ≡ 2 * n
unfolding word_bytes bytes16
length-words words x zero = refl
length-words words x (suc n) = omega (arith, length-words words (x + 1) n)

-- the bytes of a list's words are the list's own
pub words-bytes : (s : List ℕ) → Bytes s → (x n : ℕ) → 2 * x + 2 * n ≤ length s → word_bytes (word_at s) x n ≡ take (2 * n) (drop (2 * x) s)
unfolding word_bytes bytes16 get16
words-bytes s b x zero h = refl
words-bytes s b x (suc n) h =
    let low = b (2 * x) in
    let e : 2 * suc n ≡ suc (suc (2 * n)) = omega arith in
    let f : 2 * (x + 1) ≡ suc (suc (2 * x)) = omega arith in
    let g : 2 * x + 1 ≡ suc (2 * x) = omega arith in
    let p : (get_or s (2 * x) 0 + 256 * get_or s (suc (2 * x)) 0) % 256 ≡ get_or s (2 * x) 0 = omega (arith, low) in
    let q : (get_or s (2 * x) 0 + 256 * get_or s (suc (2 * x)) 0) / 256 ≡ get_or s (suc (2 * x)) 0 = omega (arith, low) in
    let rest = rw f at (words-bytes s b (x + 1) n (omega arith)) in
    rw (e, g, p, q, rest, drop-cons s (2 * x) 0 (omega arith), drop-cons s (suc (2 * x)) 0 (omega arith)) refl

-- the passes of instant 0
module _ (F : Format) (net : Netlist) (n : ℕ) (e : length net.cells ≡ n) (s : List ℕ) where
  -- the elements' start words, then zeros before them
  pub blank-is : (words : ℕ → ℕ) (r t : List ℕ) → base F n + 512 ≤ length s → r ≡ sets s (base F n) (word_bytes words 16 256)
      → t ≡ sets r 0 (replicate (base F n - 0) 0) → t ≡ blank F net words s
  blank-is words r t l a b =
      let m = base F n in
      let ws = word_bytes words 16 256 in
      let k : length ws ≡ 512 = length-words words 16 256 in
      let z : r ≡ (take m s ++ ws) ++ drop (m + length ws) s = a ∙ sets-eq ws s m (omega (arith, k)) in
      let y : drop m r ≡ ws ++ drop (m + length ws) s = rw (z, append_assoc (take m s) ws) (drop_at (take m s) _ m (simp length-take (omega arith))) in
      let none : ℕ = 0 in
      let zeros : 0 + length (replicate m none) ≡ m = omega (arith, length-replicate m none) in
      let whole : m - 0 ≡ m = omega arith in
      let long : length r ≡ length s = ap length a ∙ length-sets s m ws in
      let cleared : t ≡ replicate m 0 ++ drop m r =
      b ∙ ap (λ (j : ℕ). sets r 0 (replicate j 0)) whole ∙ sets-eq (replicate m 0) r 0 (omega (arith, zeros, long, l)) ∙ ap (λ (j : ℕ). replicate m 0 ++ drop j r) zeros in
      rw (e, ← k) (cleared ∙ ap (λ (q : List ℕ). replicate m 0 ++ q) y)

  pub begun : (words : ℕ → ℕ) (t u v : List ℕ) → t ≡ blank F net words s → u ≡ up_to (shown F net (first_value F net words)) n t
      → v ≡ counted F net (up_to (settled F net) n u) → v ≡ begin_state F net words s
  unfolding begin_state evaluate
  begun words t u v a b c =
      c ∙ ap (λ (x : List ℕ). counted F net (up_to (settled F net) n x)) (b ∙ ap (up_to (shown F net (first_value F net words)) n) a) ∙ rw e refl

-- What the third pass leaves, where it has come to cell k ------------------------------------------------------------------------------

module _ (F : Format) (net : Netlist) (s : List ℕ) (k : ℕ) where
  -- the values of every cell
  pub settled-values : (a : ℕ) → now_at F (up_to (settled F net) k s) a ≡ now_at F s a
  settled-values a = get16-same s (up_to (settled F net) k s) (base F a) (low (base F a) (omega arith) (omega arith)) (low (base F a + 1) (omega arith) (omega arith))
    where
      low : (j : ℕ) → base F a ≤ j → j < base F a + 4 → get_or (up_to (settled F net) k s) j 0 ≡ get_or s j 0
      low j h g = up_to-frame (settled F net) j k s (λ t m x. settled-frame F net t m j (go m (dec_lt m a)))
        where
          go : (m : ℕ) → Dec (m < a) → (j < base F m + 4) ⊎ (base F m + cell_size F ≤ j)
          go m (yes x) = inr (omega (arith, below F m a x))
          go m (no x) = inl (omega (arith, rising F a m (omega (arith, x))))

  -- and every byte from cell k on
  pub settled-later : (j : ℕ) → base F k ≤ j → get_or (up_to (settled F net) k s) j 0 ≡ get_or s j 0
  settled-later j h = up_to-frame (settled F net) j k s (λ t m x. settled-frame F net t m j (inr (omega (arith, below F m k x))))
