-- Lines of words: the first word of a line and what is still to come, and how long a line is at most. Assumes nothing.
use mathlib.Core.List.{List, [], ◌∷◌, ◌++◌, map}
use mathlib.Core.Path.{◌≡◌, refl}
use Prim.Native.Nat.{ℕ, suc, ◌+◌, ◌*◌, ◌<◌, ◌≤◌}
use native.Mathlib.Omega.{arith}
use native.Mathlib.Numerals.{add-one}
use lib.ListN.{length, get_or, drop, drop_of_length-le, length-append}
use lib.Seq.{sets, drop-cons}
use Rattle.model.specs.Hubrun.{decimal, line}
use Rattle.lines.proofs.Digits.{decimal-length}
use Rattle.lines.proofs.Puts.{put_rest}

-- the line of the words from k on
abbrev pub line_from : List ℕ → ℕ → List ℕ
line_from words k = line (map decimal (drop k words))

line-more : (words : List ℕ) (k : ℕ) → k + 1 < length words
    → line_from words k ≡ decimal (get_or words k 0) ++ (32 ∷ line_from words (k + 1))
unfolding line
line-more words k h = rw (add-one k, drop-cons words k 0 (omega arith), drop-cons words (suc k) 0 (omega arith)) refl

line-last : (words : List ℕ) (k : ℕ) → length words ≡ suc k → line_from words k ≡ decimal (get_or words k 0) ++ (10 ∷ [])
unfolding line
line-last words k e = rw (drop-cons words k 0 (omega arith), drop_of_length-le words {i = suc k} (omega arith)) refl

-- a word w, put in with the byte after it: what is left of the line, and of its length
module _ (words : List ℕ) (k : ℕ) {w : ℕ} (e : w ≡ get_or words k 0) where
  pub more-length : k + 1 < length words → length (line_from words k) ≡ length (decimal w) + 1 + length (line_from words (k + 1))
  more-length h = rw (line-more words k h, e) (simp length-append (omega arith))

  pub last-length : length words ≡ suc k → length (line_from words k) ≡ length (decimal w) + 1
  last-length h = rw (line-last words k h, e) (simp length-append)

  pub put-more-words : k + 1 < length words → (d : List ℕ) (at : ℕ) {d' : List ℕ} {next : ℕ} → next ≡ at + length (decimal w) + 1
      → d' ≡ sets d at (decimal w ++ (32 ∷ [])) → sets d at (line_from words k) ≡ sets d' next (line_from words (k + 1))
  put-more-words h d at l f = rw (line-more words k h, ← e) (put_rest d (decimal w) at 32 (line_from words (k + 1)) l f)

  pub put-last-word : length words ≡ suc k → (d : List ℕ) (at : ℕ) {d' : List ℕ} → d' ≡ sets d at (decimal w ++ (10 ∷ []))
      → sets d at (line_from words k) ≡ d'
  put-last-word h d at f = rw (line-last words k h, ← e, f) refl

-- 20 digits and a byte for each word
pub line-length : (words : List ℕ) → length (line (map decimal words)) ≤ 21 * length words + 1
unfolding line
line-length [] = omega arith
line-length (w ∷ []) = simp length-append (omega (arith, decimal-length w))
line-length (w ∷ (v ∷ ws)) = simp length-append (omega (arith, decimal-length w, line-length (v ∷ ws)))
