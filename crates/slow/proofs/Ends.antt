-- Where a run ends, and what a list to work in needs. Assumes nothing.
use mathlib.Core.Bool.{Bool, true, false}
use mathlib.Core.List.{List, [], ◌∷◌, ◌++◌}
use mathlib.Core.Path.{◌≡◌, refl, sym, ap, ap₂, ◌∙◌}
use Prim.Native.Nat.{ℕ, zero, suc, ◌+◌, ◌-◌, ◌*◌, ◌<◌, ◌≤◌}
use native.Mathlib.Omega.{arith}
use lib.Dec.{eqb}
use lib.ListN.{length}
use Rattle.model.specs.declared.Cell.{Cell}
use Rattle.model.specs.declared.Outcome.TheVariants.{Ended, Open}
use Rattle.model.specs.Word.{pick, index, element_word, bytes16}
use Rattle.laws.specs.Refusals.Laws.{by_bool}
use Rattle.model.specs.Circuit.{level, Values, element, memory_words}
use Rattle.model.specs.Calls.{word_at}
use Rattle.model.specs.Gates.{end_at, slow_answer, value_bytes}
use Rattle.slow.specs.Ring.{net_of, word_in, values_of, Works, Kept, KeptIn}
use Rattle.slow.proofs.Cells.{net-length}
use Rattle.slow.proofs.Rings.{kept_next, kept-first}

pub end-high : (f : ℕ → Bool) (t n : ℕ) → f t ≡ true → end_at f t n ≡ t
unfolding end_at
end-high f t zero z = refl
end-high f t (suc n) z = rw (end_at, z) refl

pub end-last : (f : ℕ → Bool) (t n : ℕ) → n ≤ t → end_at f t (n - t) ≡ t
unfolding end_at
end-last f t n l = let e : n - t ≡ 0 = omega arith in rw e refl

pub end_low : (f : ℕ → Bool) (t n : ℕ) → t < n → f t ≡ false → end_at f t (n - t) ≡ end_at f (t + 1) (n - (t + 1))
unfolding end_at
end_low f t n l z =
    let e : n - t ≡ suc (n - (t + 1)) = omega arith in
    let e' : t + 1 ≡ suc t = omega arith in
    ap (end_at f t) e ∙ rw (end_at, z) (ap (λ (u : ℕ). end_at f u (n - (t + 1))) (sym e'))

pub works-with : (cells : List ℕ) (n : ℕ) (words s s' : List ℕ) → Works cells n words s → length s' ≡ length s → Works cells n words s'
works-with cells n words s s' w e =
    record {
      few = w.few;
      list = w.list;
      starts = w.starts;
      room = rw e w.room;
      ordered = w.ordered;
      sixteen = w.sixteen;
    }

-- from one instant to the next
pub next-instant : (cells : List ℕ) (n ors : ℕ) (times words s₀ s : List ℕ) (t : ℕ) → Works cells n words s₀ → KeptIn cells n ors times words t n s
    → KeptIn cells n ors times words (t + 1) 0 s
next-instant cells n ors times words s₀ s t w h =
    let e : suc t ≡ t + 1 = omega arith in
    let long = net-length cells n in
    let h' : Kept (net_of cells n) (word_at words) (values_of cells n ors times words) t (length (net_of cells n)) s = rw long h in
    rw e at
    (kept_next (net_of cells n) (word_at words) (values_of cells n ors times words) t s (λ v lv. omega (arith, (w.ordered.arrays v lv).0)) h')

pub first-instant : (cells : List ℕ) (n ors : ℕ) (times words s₀ s : List ℕ) → Works cells n words s₀ → ((e : ℕ) → e < 256 → word_in s n e ≡ word_at words (16 + e))
    → KeptIn cells n ors times words 0 0 s
unfolding element element_word
first-instant cells n ors times words s₀ s w starts =
    let net = net_of cells n in
    let long = net-length cells n in
    kept-first net (word_at words) (values_of cells n ors times words) s
    (λ v i lv li.
    let st = w.ordered.arrays v lv in
    let here : index i ≡ i = omega arith in
    rw (long, st.2, here) (starts (64 * v + i) (omega arith)))

pub end-within : (f : ℕ → Bool) (t n : ℕ) → end_at f t n ≤ t + n
unfolding end_at
end-within f t zero = omega arith
end-within f t (suc n) =
    by_bool (f t) (λ z. let e : end_at f t (suc n) ≡ t = rw (end_at, z) refl in omega (arith, e))
    (λ z.
    let e : end_at f t (suc n) ≡ end_at f (suc t) n = rw (end_at, z) refl in
    omega (arith, e, end-within f (suc t) n))

-- what is written and answered by words that are the values
pub bytes_same : (f g : ℕ → ℕ) (k n : ℕ) → ((j : ℕ) → k ≤ j → j < k + n → f j ≡ g j) → value_bytes f k n ≡ value_bytes g k n
unfolding value_bytes
bytes_same f g k zero h = refl
bytes_same f g k (suc n) h =
    ap₂ (λ (v : ℕ) (l : List ℕ). bytes16 v ++ l) (h k (omega arith) (omega arith)) (bytes_same f g (k + 1) n (λ j a b. h j (omega arith) (omega arith)))

pub words_same : (f g : ℕ → ℕ) (cs : List Cell) (k : ℕ) → ((j : ℕ) → k ≤ j → j < k + length cs → f j ≡ g j) → memory_words cs k f ≡ memory_words cs k g
unfolding memory_words
words_same f g [] k h = refl
words_same f g (c ∷ cs) k h =
    ap₂ (λ (v : ℕ) (l : List ℕ). pick (eqb c.kind 40) (v ∷ l) l) (h k (omega arith) (omega arith))
    (words_same f g cs (k + 1) (λ j a b. h j (omega arith) (omega arith)))

-- the answer, where the finish is high and where it is not
module _ (net : List Cell) (f : ℕ) (W : Values) (t : ℕ) (ws : List ℕ) (e : ws ≡ memory_words net 0 (λ k. W k t)) where
  pub answer-ended : level W f t ≡ true → record { outcome = Ended; instant = t; count = t + 1; words = ws } ≡ slow_answer net f W t
  unfolding slow_answer
  answer-ended z = rw (z, e) refl

  pub answer-open : level W f t ≡ false → record { outcome = Open; instant = t; count = t + 1; words = ws } ≡ slow_answer net f W t
  unfolding slow_answer
  answer-open z = rw (z, e) refl

-- the words and the bytes, by what is kept
module _ (cells : List ℕ) (n ors : ℕ) (times words s : List ℕ) (t : ℕ) (h : KeptIn cells n ors times words t n s) where
  pub kept-words : memory_words (net_of cells n) 0 (λ k. word_in s k t) ≡ memory_words (net_of cells n) 0 (λ k. values_of cells n ors times words k t)
  kept-words = words_same _ _ (net_of cells n) 0 (λ j a b. h.seen.cells-now j (omega (arith, b, net-length cells n)))

  pub kept-bytes : value_bytes (λ k. word_in s k t) 0 n ≡ value_bytes (λ k. values_of cells n ors times words k t) 0 n
  kept-bytes = bytes_same _ _ 0 n (λ j a b. h.seen.cells-now j (omega (arith, b)))

pub bytes-length : (f : ℕ → ℕ) (k n : ℕ) → length (value_bytes f k n) ≡ 2 * n
unfolding value_bytes bytes16
bytes-length f k zero = omega arith
bytes-length f k (suc n) = omega (arith, bytes-length f (k + 1) n)
