-- The next word against the words of a text: `next` says what is known of what was found.
-- Assumes nothing.
use Rattle.std.specs.Prelude.{◌≡◌, Bool, true, false, ◌||◌, ℕ, zero, suc, ◌+◌, ◌-◌, ◌≤◌, ◌<◌, ltb, eqb, get_or}
use Rattle.std.proofs.Math.Path.{refl}
use Rattle.std.proofs.Common.{◌∙◌, ap, add-one, drop_of_length-le, drop-cons, ltb-true, ltb-false, eq-eqb}
use Rattle.std.proofs.Math.Bool.{and-false}
use mathlib.Core.List.{List, [], ◌∷◌}
use native.Mathlib.Omega.{arith}
use Rattle.std.proofs.Math.ListN.{length, drop, length-drop}
use Rattle.std.proofs.Math.Seq.{drop-drop}
use Rattle.std.proofs.lemmas.Bool.{eqb-false}
use Rattle.std.specs.List.{prefix_len}
use Rattle.std.specs.Prelude.{Option, Some, None}
use Rattle.std.proofs.lemmas.List.Sums.{prefix_len-le-length}
use Rattle.model.specs.Text.{blank, letter, digit, run_length, two_code, token_at, size_at, Lexeme, lexeme, words_from}
use Rattle.laws.specs.Refusals.Laws.{by_bool, not-both}
use Rattle.scanner.specs.declared.Scanned.{Scanned}
use Rattle.scanner.specs.declared.Words.{Words}
use Rattle.scanner.specs.Scanning.{after_blanks, word_here, words_ahead, next_word, Steps, Next}

-- What begins a list -------------------------------------------------------------------------------------------------------------------

module _ (test : ℕ → Bool) where
  front-in : (c : ℕ) (s : List ℕ) → test c ≡ true → prefix_len test (c ∷ s) ≡ suc (prefix_len test s)
  front-in c s e = rw e (omega arith)

  front_out : (c : ℕ) (s : List ℕ) → test c ≡ false → prefix_len test (c ∷ s) ≡ 0
  front_out c s e = rw e refl

  pub front_length : (s : List ℕ) → prefix_len test s ≤ length s
  front_length s = prefix_len-le-length test s

  -- what is left passes no more
  pub front-left : (s : List ℕ) → prefix_len test (drop (prefix_len test s) s) ≡ 0
  front-left [] = refl
  front-left (c ∷ s) =
      by_bool (test c)
      (λ z. rw (front-in c s z) (front-left s))
      (λ z. rw (front_out c s z) (front_out c s z))

  -- the three steps of a loop that looks for the end
  module _ (s : List ℕ) {i : ℕ} where
    pub front-more : i < length s → test (get_or s i 0) ≡ true → i + prefix_len test (drop i s) ≡ i + 1 + prefix_len test (drop (i + 1) s)
    front-more h e = rw (add-one i, drop-cons s i 0 h, front-in (get_or s i 0) (drop (suc i) s) e) (omega arith)

    pub front-stop : i < length s → test (get_or s i 0) ≡ false → i + prefix_len test (drop i s) ≡ i
    front-stop h e = rw (drop-cons s i 0 h, front_out (get_or s i 0) (drop (suc i) s) e) (omega arith)

    pub front-end : length s ≤ i → i + prefix_len test (drop i s) ≡ i
    front-end h = rw (drop_of_length-le s h) (omega arith)

abbrev pub in_run : ℕ → Bool
in_run c = letter c || digit c

pub run-front : (s : List ℕ) → run_length s ≡ prefix_len in_run s
unfolding run_length
run-front [] = refl
run-front (c ∷ s) =
    by_bool (in_run c)
    (λ z. rw (run_length, z) (omega (arith, run-front s)))
    (λ z. rw (run_length, z) refl)

-- The size of a word -------------------------------------------------------------------------------------------------------------------

-- a sign of two characters has two
two_bytes : (s : List ℕ) → eqb (two_code (get_or s 0 0) (get_or s 1 0)) 0 ≡ false → 2 ≤ length s
unfolding two_code
two_bytes [] e = not-both refl e
two_bytes (c ∷ []) e =
    let none : two_code c 0 ≡ 0 = simp and-false in
    not-both (eq-eqb (two_code c 0) 0 none) e
two_bytes (c ∷ d ∷ s) e = omega arith

-- the size of a word, by what it is
size-run : (s : List ℕ) → eqb (run_length s) 0 ≡ false → size_at s ≡ run_length s
unfolding size_at
size-run s e = rw e refl

size-two : (s : List ℕ) → eqb (run_length s) 0 ≡ true → eqb (two_code (get_or s 0 0) (get_or s 1 0)) 0 ≡ false → size_at s ≡ 2
unfolding size_at
size-two s e f = rw (e, f) refl

size-one : (s : List ℕ) → eqb (run_length s) 0 ≡ true → eqb (two_code (get_or s 0 0) (get_or s 1 0)) 0 ≡ true → size_at s ≡ 1
unfolding size_at
size-one s e f = rw (e, f) refl

pub size-bounds : (s : List ℕ) → 0 < length s → (1 ≤ size_at s) × (size_at s ≤ length s)
size-bounds s h =
    by_bool (eqb (run_length s) 0)
    (λ z. by_bool (eqb (two_code (get_or s 0 0) (get_or s 1 0)) 0)
    (λ y. rw (size-one s z y) (omega arith, omega arith))
    (λ y. rw (size-two s z y) (omega arith, two_bytes s y)))
    (λ z. rw (size-run s z) (omega (arith, eqb-false (run_length s) 0 z), rw (run-front s) (prefix_len-le-length in_run s)))

-- Words --------------------------------------------------------------------------------------------------------------------------------

module _ (p i c : ℕ) (s : List ℕ) where
  words-blank : blank c ≡ true → words_from 0 p i (c ∷ s) ≡ words_from 0 p (i + 1) s
  unfolding words_from
  words-blank e = rw (e, words_from) refl

  words-word : blank c ≡ false
      → words_from 0 p i (c ∷ s) ≡ lexeme (token_at p (c ∷ s)) i ∷ words_from (size_at (c ∷ s) - 1) (token_at p (c ∷ s)).code (i + 1) s
  unfolding words_from
  words-word e = rw (e, words_from) refl

-- the bytes that belong to the token before
pub words-skip : (k p i : ℕ) (s : List ℕ) → words_from k p i s ≡ words_from 0 p (i + k) (drop k s)
unfolding words_from
words-skip zero p i s = let e : i + 0 ≡ i = omega arith in rw e refl
words-skip (suc k) p i [] = refl
words-skip (suc k) p i (c ∷ s) = let e : i + 1 + k ≡ i + suc k = omega arith in words-skip k p (i + 1) s ∙ rw e refl

pub words-blanks : (p i : ℕ) (s : List ℕ) → words_from 0 p i s ≡ words_from 0 p (i + prefix_len blank s) (drop (prefix_len blank s) s)
unfolding words_from
words-blanks p i [] = refl
words-blanks p i (c ∷ s) =
    by_bool (blank c)
    (λ z. let e : i + (1 + prefix_len blank s) ≡ i + 1 + prefix_len blank s = omega arith in
    let f : 1 + prefix_len blank s ≡ suc (prefix_len blank s) = omega arith in
    rw (words-blank p i c s z, z, e, f) (words-blanks p (i + 1) s))
    (λ z. let e : i + 0 ≡ i = omega arith in rw (z, e) refl)

not-blank : (c : ℕ) (s : List ℕ) → prefix_len blank (c ∷ s) ≡ 0 → blank c ≡ false
not-blank c s e = by_bool (blank c) (λ z. absurd (omega (arith, rw z at e))) (λ z. z)

pub words-first : (p i : ℕ) (s : List ℕ) → 0 < length s → prefix_len blank s ≡ 0
    → words_from 0 p i s ≡ lexeme (token_at p s) i ∷ words_from 0 (token_at p s).code (i + size_at s) (drop (size_at s) s)
words-first p i [] h e = absurd (omega arith)
words-first p i (c ∷ s) h e =
    let t = token_at p (c ∷ s) in
    let n = size_at (c ∷ s) in
    let size : n ≡ suc (n - 1) = omega (arith, (size-bounds (c ∷ s) h).0) in
    let place : i + 1 + (n - 1) ≡ i + n = omega arith in
    let left : drop n (c ∷ s) ≡ drop (n - 1) s = ap (λ (k : ℕ). drop k (c ∷ s)) size in
    let next : words_from (n - 1) t.code (i + 1) s ≡ words_from 0 t.code (i + n) (drop n (c ∷ s)) =
    rw (left, ← place) (words-skip (n - 1) t.code (i + 1) s) in
    words-word p i c s (not-blank c s e) ∙ ap (λ (ws : List Lexeme). lexeme t i ∷ ws) next

-- The next word -------------------------------------------------------------------------------------------------------------------------

module _ (text : List ℕ) (from p : ℕ) where
  -- what is left after the blanks
  words_left : words_from 0 p from (drop from text) ≡ words_from 0 p (after_blanks from text) (drop (after_blanks from text) text)
  words_left = words-blanks p from (drop from text) ∙ rw drop-drop refl

  next-some : after_blanks from text < length text → Next text from p (Some (word_here p (after_blanks from text) text))
  unfolding word_here words_ahead
  next-some h =
      let place = after_blanks from text in
      let s = drop place text in
      let some : 0 < length s = simp length-drop (omega arith) in
      let bare : prefix_len blank s ≡ 0 = rw (← drop-drop (prefix_len blank (drop from text)) from text) (front-left blank (drop from text)) in
      let first : words_from 0 p place s ≡ lexeme (token_at p s) place ∷ words_from 0 (token_at p s).code (place + size_at s) (drop (place + size_at s) text) =
      rw (← drop-drop (size_at s) place text) (words-first p place s some bare) in
      let size = size-bounds s some in
      let long : size_at s ≤ length text - place = rw (length-drop place text) at size.1 in
      record { words = words_left ∙ first; stands = (omega arith, omega (arith, size.0), omega (arith, long)) }

  next-none : length text ≤ after_blanks from text → Next text from p None
  unfolding words_from words_ahead
  next-none h = record { words = words_left ∙ rw (drop_of_length-le text h) refl; stands = tt }

  found-next : Next text from p (next_word p from text)
  unfolding next_word
  found-next =
      by_bool (ltb (after_blanks from text) (length text))
      (λ z. rw z (next-some (ltb-true _ _ z)))
      (λ z. rw z (next-none (ltb-false _ _ z)))

  pub next : {r : Option Scanned} → r ≡ next_word p from text → Next text from p r
  next e = rw e found-next

-- the same of a step through the words of a text
pub steps-next : (text : List ℕ) (ws : Words) {left : Words} {r : Option Scanned} → ws.text.now ≡ text → Steps ws r left → Next text ws.at ws.previous r
steps-next text ws e s = next text ws.at ws.previous (rw e at s.first)
