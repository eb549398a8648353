-- A reply that was put into a buffer is read back as the answer that it was made from; and three of them byte by byte, worked out by hand.
-- Assumes nothing.
use Rattle.model.specs.Refusals.{Checked, Accepted, Done}
use Rattle.std.specs.Prelude.{Result, Ok, Err}
use mathlib.Core.Path.{◌≡◌, refl, sym, ◌∙◌, ap, ap₂}
use mathlib.Core.List.{List, [], ◌∷◌, ◌++◌}
use mathlib.Core.Logic.{inl}
use Prim.Native.Nat.{ℕ, suc, ◌+◌, ◌*◌, ◌/◌, ◌%◌, ◌<◌, ◌≤◌}
use native.Mathlib.Omega.{arith}
use lib.ListN.{length, get_or, set, length-set, replicate}
use lib.Seq.{get_or-set_same, get_or-set_other}
use Rattle.model.specs.declared.Refusal.{Refusal}
use Rattle.model.specs.declared.Written.{Written}
use Rattle.model.specs.declared.Outcome.{Outcome}
use Rattle.model.specs.declared.Outcome.TheVariants.{Ended, Open}
use Rattle.model.specs.Word.{get16, put16, get32, put32}
use Rattle.model.specs.State.{up_to}
use Rattle.model.specs.Calls.{listed, refused_answer}
use Rattle.laws.specs.State.Bytes.{put16-other, length-put16, put16-same, get16-same, put32-other, length-put32, put32-same, get32-same, up_to-frame, up_to-length, up_to-at}
use Rattle.reply.specs.declared.Reply.{Reply}
use Rattle.reply.specs.Replies.{refused_reply, checked_reply, written_reply, outcome_reply, put_word, replied}
use Rattle.reply.specs.Readings.{refusal_in, checked_in, written_in, answer_in, CheckedTold, WrittenTold, AnswerTold, ReadBack}

-- the bytes of a number of two
module _ (s : List ℕ) (i v : ℕ) (room : i + 1 < length s) where
  low_byte : get_or (put16 s i v) i 0 ≡ v % 256
  unfolding put16
  low_byte = get_or-set_other (set s i (v % 256)) (i + 1) i (v / 256) 0 (λ e. omega arith) ∙ get_or-set_same s i (v % 256) 0 (omega arith)

  high_byte : get_or (put16 s i v) (i + 1) 0 ≡ v / 256
  unfolding put16
  high_byte = get_or-set_same (set s i (v % 256)) (i + 1) (v / 256) 0 (simp length-set room)

-- a list, from its elements
listed-all : (ws : List ℕ) (f : ℕ → ℕ) (x : ℕ) → ((k : ℕ) → k < length ws → f (x + k) ≡ get_or ws k 0) → listed f x (length ws) ≡ ws
unfolding listed
listed-all [] f x h = refl
listed-all (w ∷ ws) f x h =
    ap₂ ◌∷◌ (let e : x + 0 ≡ x = omega arith in rw e at (h 0 (omega arith)))
    (listed-all ws f (x + 1)
    (λ k l.
    let e : x + suc k ≡ x + 1 + k = omega arith in
    rw e at (h (suc k) (omega arith))))

-- What a reply's bytes are ---------------------------------------------------------------------------------------------------------------

module _ (r : Reply) (s : List ℕ) (room : 48 ≤ length s) where
  abbrev told : List ℕ
  told = replied r s

  abbrev first : List ℕ
  first = put16 s 0 (r.kind + 256 * r.number)

  abbrev placed : List ℕ
  placed = put32 (put16 first 2 0) 4 r.place

  abbrev second : List ℕ
  second = put32 placed 8 r.first

  abbrev third : List ℕ
  third = put32 second 12 r.second

  placed-length : length placed ≡ length s
  placed-length = length-put32 (put16 first 2 0) 4 r.place ∙ length-put16 first 2 0 ∙ length-put16 s 0 (r.kind + 256 * r.number)

  third-length : length third ≡ length s
  third-length = length-put32 second 12 r.second ∙ length-put32 placed 8 r.first ∙ placed-length

  -- the words leave the first sixteen bytes
  frame : (j : ℕ) → j < 16 → get_or told j 0 ≡ get_or third j 0
  unfolding replied
  frame j l = up_to-frame (put_word r.words) j 16 third (λ t k g. put16-other t (16 + 2 * k) (get_or r.words k 0) j (λ e. omega arith) (λ e. omega arith))

  head : (j : ℕ) → j < 2 → get_or told j 0 ≡ get_or first j 0
  head j l =
      frame j (omega arith)
      ∙ put32-other second 12 r.second j (inl (omega arith))
      ∙ put32-other placed 8 r.first j (inl (omega arith))
      ∙ put32-other (put16 first 2 0) 4 r.place j (inl (omega arith))
      ∙ put16-other first 2 0 j (λ e. omega arith) (λ e. omega arith)

  pub kind-is : r.kind < 256 → get_or told 0 0 ≡ r.kind
  kind-is l = head 0 (omega arith) ∙ low_byte s 0 (r.kind + 256 * r.number) (omega arith) ∙ omega (arith, l)

  pub number_is : r.kind < 256 → get_or told 1 0 ≡ r.number
  number_is l = head 1 (omega arith) ∙ high_byte s 0 (r.kind + 256 * r.number) (omega arith) ∙ omega (arith, l)

  pub place_is : get32 told 4 ≡ r.place
  place_is =
      get32-same placed told 4
      (λ j a b. frame j (omega arith) ∙ put32-other second 12 r.second j (inl (omega arith)) ∙ put32-other placed 8 r.first j (inl (omega arith)))
      ∙ put32-same (put16 first 2 0) 4 r.place
      (rw (length-put16 first 2 0, length-put16 s 0 (r.kind + 256 * r.number)) (omega arith))

  pub first-is : get32 told 8 ≡ r.first
  first-is =
      get32-same second told 8 (λ j a b. frame j (omega arith) ∙ put32-other second 12 r.second j (inl (omega arith)))
      ∙ put32-same placed 8 r.first (rw placed-length (omega arith))

  pub second_is : get32 told 12 ≡ r.second
  second_is =
      get32-same third told 12 (λ j a b. frame j (omega arith))
      ∙ put32-same second 12 r.second (rw (length-put32 placed 8 r.first, placed-length) (omega arith))

  -- word k is there, and no other word is put over it
  word-is : (k : ℕ) → k < 16 → get16 told (16 + 2 * k) ≡ get_or r.words k 0
  unfolding replied
  word-is k l =
      let f = put_word r.words in
      let before = up_to f k third in
      let at : (j : ℕ) → 16 + 2 * k ≤ j → j < 16 + 2 * k + 2 → get_or (up_to f 16 third) j 0 ≡ get_or (f before k) j 0 =
      λ j a b. up_to-at f j k 16 third (λ t m g x. put16-other t (16 + 2 * m) (get_or r.words m 0) j (λ e. omega (arith, x)) (λ e. omega (arith, x))) l in
      get16-same (f before k) (up_to f 16 third) (16 + 2 * k) (at _ (omega arith) (omega arith)) (at _ (omega arith) (omega arith))
      ∙ put16-same before (16 + 2 * k) (get_or r.words k 0)
      (rw (up_to-length f (λ t m. length-put16 t (16 + 2 * m) (get_or r.words m 0)) k third, third-length) (omega arith))

  pub words_are : length r.words ≡ 16 → listed (λ k. get16 told (16 + 2 * k)) 0 16 ≡ r.words
  words_are e =
      ap (listed (λ k. get16 told (16 + 2 * k)) 0) (sym e)
      ∙ listed-all r.words (λ k. get16 told (16 + 2 * k)) 0
      (λ k l.
      let z : 0 + k ≡ k = omega arith in
      rw z (word-is k (omega (arith, e, l))))

-- Answers --------------------------------------------------------------------------------------------------------------------------------

module _ (s : List ℕ) (room : 48 ≤ length s) where
  -- by the kind of a reply
  module _ (r : Reply) (k : ℕ) (e : r.kind ≡ k) (low : k < 256) where
    kind-of : get_or (replied r s) 0 0 ≡ k
    kind-of = kind-is r s room (omega (arith, e, low)) ∙ e

    number_of : get_or (replied r s) 1 0 ≡ r.number
    number_of = number_is r s room (omega (arith, e, low))

  refused-place : (r : Refusal) → r.place < 4294967296 → record { number = r.number; place = r.place % 4294967296 } ≡ r
  refused-place r l =
      let e : r.place % 4294967296 ≡ r.place = omega (arith, l) in
      ap (λ (p : ℕ). record { number = r.number; place = p }) e

  refused-in : (r : Refusal) → r.place < 4294967296 → refusal_in (replied (refused_reply r) s) ≡ r
  refused-in r l =
      ap₂ (λ (n p : ℕ). record { number = n; place = p }) (number_of (refused_reply r) 3 refl (omega arith)) (place_is (refused_reply r) s room) ∙ refused-place r l

  checked-back : (c : Checked) → CheckedTold c → checked_in (replied (checked_reply c) s) ≡ c
  unfolding checked_reply checked_in
  checked-back (Ok _) t = rw (kind-of (checked_reply Accepted) 0 refl (omega arith)) refl
  checked-back (Err r) t = rw (kind-of (refused_reply r) 3 refl (omega arith)) (ap (λ (q : Refusal). Err q) (refused-in r t))

  written_back : (w : Result Written Refusal) → WrittenTold w → written_in (replied (written_reply w) s) ≡ w
  unfolding written_reply written_in
  written_back (Ok w) t =
      rw (kind-of (written_reply (Ok w)) 0 refl (omega arith))
      (ap₂ Done (first-is (written_reply (Ok w)) s room ∙ omega (arith, t)) (second_is (written_reply (Ok w)) s room))
  written_back (Err r) t = rw (kind-of (refused_reply r) 3 refl (omega arith)) (ap (λ (q : Refusal). Err q) (refused-in r t))

  answer_back : (o : Outcome) (t n : ℕ) (ws : List ℕ) → AnswerTold o (record { outcome = o; instant = t; count = n; words = ws })
      → answer_in (replied (outcome_reply o t n ws) s) ≡ record { outcome = o; instant = t; count = n; words = ws }
  unfolding outcome_reply answer_in
  answer_back Ended t n ws e =
      let r = outcome_reply Ended t n ws in
      rw (kind-of r 1 refl (omega arith), first-is r s room, second_is r s room, words_are r s room e) refl
  answer_back Open t n ws e =
      let r = outcome_reply Open t n ws in
      rw (kind-of r 2 refl (omega arith), first-is r s room, second_is r s room, words_are r s room e) refl
  answer_back (Outcome.Refused r) t n ws e =
      rw (kind-of (refused_reply r) 3 refl (omega arith)) (ap (λ (q : Refusal). refused_answer q) (refused-in r e.0) ∙ sym e.1)

  pub read_back : ReadBack s
  read_back = record { checked = checked-back; written = written_back; answer = λ a t. answer_back a.outcome a.instant a.count a.words t }

-- Rows -----------------------------------------------------------------------------------------------------------------------------------

-- a refusal 12 at place 70,000, a file of 1,024 bytes with finish 300, and an end at 1,000,000 with words 1 to 16, byte by byte, in a buffer of one byte more
rows_right :
    (replied (checked_reply (Err (record { number = 12; place = 70000 }))) (replicate 49 7) ≡ 3 ∷ 12 ∷ 0 ∷ 0 ∷ 112 ∷ 17 ∷ 1 ∷ 0 ∷ replicate 40 0 ++ (7 ∷ []))
    × (replied (written_reply (Done 1024 300)) (replicate 49 7) ≡ 0 ∷ 0 ∷ 0 ∷ 0 ∷ 0 ∷ 0 ∷ 0 ∷ 0 ∷ 0 ∷ 4 ∷ 0 ∷ 0 ∷ 44 ∷ 1 ∷ 0 ∷ 0 ∷ replicate 32 0 ++ (7 ∷ []))
    × (replied (outcome_reply Ended 1000000 1000001 (1 ∷ 2 ∷ 3 ∷ 4 ∷ 5 ∷ 6 ∷ 7 ∷ 8 ∷ 9 ∷ 10 ∷ 11 ∷ 12 ∷ 13 ∷ 14 ∷ 15 ∷ 65535 ∷ [])) (replicate 49 7)
    ≡ 1 ∷ 0 ∷ 0 ∷ 0 ∷ 0 ∷ 0 ∷ 0 ∷ 0 ∷ 64 ∷ 66 ∷ 15 ∷ 0 ∷ 65 ∷ 66 ∷ 15 ∷ 0
    ∷ 1 ∷ 0 ∷ 2 ∷ 0 ∷ 3 ∷ 0 ∷ 4 ∷ 0 ∷ 5 ∷ 0 ∷ 6 ∷ 0 ∷ 7 ∷ 0 ∷ 8 ∷ 0 ∷ 9 ∷ 0 ∷ 10 ∷ 0 ∷ 11 ∷ 0 ∷ 12 ∷ 0 ∷ 13 ∷ 0 ∷ 14 ∷ 0 ∷ 15 ∷ 0 ∷ 255 ∷ 255 ∷ 7 ∷ [])
unfolding checked_reply written_reply outcome_reply replied put16 put32 up_to
rows_right = (refl, refl, refl)
