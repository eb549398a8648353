-- Words in rings: what a word that is put in leaves of the others; and what the rings keep when a cell more has been evaluated, and at the next instant.
-- Assumes nothing.
use mathlib.Core.Bool.{Bool, true, false}
use mathlib.Core.List.{List, ◌++◌}
use mathlib.Core.Logic.{◌⊎◌, inl, inr, ⊎_elim}
use mathlib.Core.Path.{◌≡◌, refl, sym, ap, ◌∙◌}
use Prim.Native.Nat.{ℕ, suc, ◌+◌, ◌-◌, ◌*◌, ◌%◌, ◌<◌, ◌≤◌}
use native.Mathlib.Nat.{eq-or-lt_of_le, le_of_suc-le-suc}
use native.Mathlib.Omega.{arith}
use lib.ListN.{length, get_or, take, drop}
use Rattle.std.proofs.lemmas.List.{length-take, length-drop, get_or-take, get_or-drop, get_or-append_right, get_or_append_left}
use Rattle.laws.specs.Refusals.Laws.{by_le}
use Rattle.model.specs.declared.Cell.{Cell}
use Rattle.model.specs.declared.Merge.{Merge}
use Rattle.model.specs.Word.{bit, get16, put16}
use Rattle.model.specs.Circuit.{cell_at, array_at, Values, element, merges}
use Rattle.laws.specs.State.Bytes.{put16-other, length-put16, put16-same, get16-same}
use Rattle.slow.specs.Ring.{slot, word_in, held_ring, held_code, held_of, held_word, read_word, Leaves, Seen, Kept}

-- A word that is put in ---------------------------------------------------------------------------------------------------------------------

same-ring : (i j x y : ℕ) → x < 256 → y < 256 → 512 * i + 2 * x ≡ 512 * j + 2 * y → i ≡ j
same-ring i j x y lx ly e = by_le i j (λ l. by_le j i (λ h. omega arith) (λ h. omega arith)) (λ l. omega arith)

put-apart : (s : List ℕ) (j t v i u : ℕ) → ((i ≡ j) → (u % 256 ≡ t % 256) → ⊥) → word_in (put16 s (slot j t) v) i u ≡ word_in s i u
put-apart s j t v i u n =
    get16-same s (put16 s (slot j t) v) (slot i u)
    (put16-other s (slot j t) v (slot i u) (λ e. same e) (λ e. omega arith))
    (put16-other s (slot j t) v (slot i u + 1) (λ e. omega arith) (λ e. same (omega arith)))
  where
    same : slot i u ≡ slot j t → ⊥
    same e =
        let q : i ≡ j = same-ring i j (u % 256) (t % 256) (omega arith) (omega arith) e in
        n q (omega arith)

pub put-leaves : (n : ℕ) (s : List ℕ) (j t v : ℕ) → (j ≡ n → ⊥) → Leaves n t (λ i. i ≡ j) (λ e. ⊥) s (put16 s (slot j t) v)
put-leaves n s j t v z =
    record {
      long = length-put16 s (slot j t) v;
      old = λ i u m l h. put-apart s j t v i u (λ e f. omega arith);
      new = λ i m n. put-apart s j t v i t (λ e f. n e);
      elements = λ e l q. put-apart s j t v n e (λ y f. z (sym y));
    }

pub put-element : (n : ℕ) (s : List ℕ) (e t v : ℕ) → e < 256 → Leaves n t (λ i. ⊥) (λ x. x ≡ e) s (put16 s (slot n e) v)
put-element n s e t v small =
    record {
      long = length-put16 s (slot n e) v;
      old = λ i u m l h. put-apart s n e v i u (λ y f. m y);
      new = λ i m q. put-apart s n e v i t (λ y f. m y);
      elements = λ x l q. put-apart s n e v n x (λ y f. q (omega arith));
    }

pub put_same : (s : List ℕ) (j t v : ℕ) → 512 * j + 512 ≤ length s → word_in (put16 s (slot j t) v) j t ≡ v
put_same s j t v l = put16-same s (slot j t) v (omega arith)

module _ (n t : ℕ) (P Q P' Q' : ℕ → Type 0) (s₀ s₁ s₂ : List ℕ) where
  pub leaves-both : Leaves n t P Q s₀ s₁ → Leaves n t P' Q' s₁ s₂ → Leaves n t (λ j. P j ⊎ P' j) (λ e. Q e ⊎ Q' e) s₀ s₂
  leaves-both a b =
      record {
        long = b.long ∙ a.long;
        old = λ j u m l h. b.old j u m l h ∙ a.old j u m l h;
        new = λ j m n. b.new j m (λ q. n (inr q)) ∙ a.new j m (λ p. n (inl p));
        elements = λ e l n. b.elements e l (λ q. n (inr q)) ∙ a.elements e l (λ p. n (inl p));
      }

pub leaves-more : (n t : ℕ) (P Q P' Q' : ℕ → Type 0) (s s' : List ℕ) → ((j : ℕ) → P j → P' j) → ((e : ℕ) → Q e → Q' e) → Leaves n t P Q s s'
    → Leaves n t P' Q' s s'
leaves-more n t P Q P' Q' s s' f g a =
    record { long = a.long; old = a.old; new = λ j m n. a.new j m (λ p. n (f j p)); elements = λ e l n. a.elements e l (λ q. n (g e q)) }

pub leaves_none : (n t : ℕ) (P Q : ℕ → Type 0) (s : List ℕ) → Leaves n t P Q s s
leaves_none n t P Q s = record { long = refl; old = λ j u m l h. refl; new = λ j m n. refl; elements = λ e l n. refl }

-- the elements, copied from the start words into their ring, which begins at p
module _ (s words part rest : List ℕ) (p : ℕ) (room : p + 512 ≤ length s) (long : 544 ≤ length words) (is : part ≡ take 512 (drop 32 words)) where
  part-byte : (i : ℕ) → i < 512 → get_or (take p s ++ (part ++ rest)) (p + i) 0 ≡ get_or words (32 + i) 0
  part-byte i l =
      let front : length (take p s) ≡ p = omega (arith, length-take p s) in
      let e : p + i - p ≡ i = omega arith in
      let few : i < length part = omega (arith, ap length is, length-take 512 (drop 32 words), length-drop 32 words) in
      let here = rw e at (get_or-append_right (take p s) (part ++ rest) p (p + i) 0 front (omega arith)) in
      here
      ∙ get_or_append_left part rest 0 i few
      ∙ ap (λ (r : List ℕ). get_or r i 0) is
      ∙ get_or-take 512 (drop 32 words) i 0 l
      ∙ get_or-drop 32 words i 0

  pub copied : (n e : ℕ) → p ≡ 512 * n → e < 256 → word_in (take p s ++ (part ++ rest)) n e ≡ get16 words (2 * (16 + e))
  unfolding get16
  copied n e at l =
      let low : 512 * n + 2 * (e % 256) ≡ p + 2 * e = omega arith in
      let high : p + 2 * e + 1 ≡ p + (2 * e + 1) = omega arith in
      let from : 2 * (16 + e) ≡ 32 + 2 * e = omega arith in
      let next : 32 + 2 * e + 1 ≡ 32 + (2 * e + 1) = omega arith in
      rw (low, high, from, next, part-byte (2 * e) (omega arith), part-byte (2 * e + 1) (omega arith)) refl

-- what a cell holds, as a word
pub held-code : (m : Merge) → held_of (held_code m) ≡ m
unfolding held_of held_code bit
held-code m = go m.a m.b
  where
    go : (a b : Bool) → held_of (held_code (record { a = a; b = b })) ≡ record { a = a; b = b }
    go true true = refl
    go true false = refl
    go false true = refl
    go false false = refl

-- What is kept -------------------------------------------------------------------------------------------------------------------------------

module _ (net : List Cell) (words : ℕ → ℕ) (W : Values) where
  abbrev n : ℕ
  n = length net

  -- the rings and the elements that cell k writes
  abbrev pub Touches : ℕ → ℕ → Type 0
  Touches k j = (j ≡ k) ⊎ (j ≡ held_ring n k)

  abbrev pub Changes : ℕ → ℕ → Type 0
  Changes k e = (v : ℕ) × (v < 4) × (array_at net v ≡ k) × (64 * v ≤ e) × (e < 64 * v + 64)

  module _ (t k : ℕ) (s s' : List ℕ) (l : k < n) (a : Leaves n t (Touches k) (Changes k) s s') where
    clear : (j : ℕ) → (j ≡ n → ⊥) → (j ≡ k → ⊥) → (j ≡ held_ring n k → ⊥) → word_in s' j t ≡ word_in s j t
    clear j m x y = a.new j m (λ p. ⊎_elim x y p)

    -- what is seen stays
    pub seen-still : Seen net words W t k s → Seen net words W t k s'
    seen-still h =
        record {
          cells = λ j u lj lu lt. a.old j u (λ e. omega arith) lu lt ∙ h.cells j u lj lu lt;
          cells-now = λ j lj. clear j (λ e. omega arith) (λ e. omega arith) (λ e. omega arith) ∙ h.cells-now j lj;
          held = λ j u lj m e. a.old (held_ring n j) u (λ e. omega arith) (omega arith) (omega arith) ∙ h.held j u lj m e;
          read = λ j u lj q lu lt. a.old (held_ring n j) u (λ e. omega arith) lu lt ∙ h.read j u lj q lu lt;
        }

    module _ (h : Kept net words W t k s) where
      same : (v i : ℕ) → v < 4 → i < 64 → (array_at net v ≡ k → ⊥) → word_in s' n (64 * v + i) ≡ word_in s n (64 * v + i)
      same v i lv li z =
          a.elements (64 * v + i) (omega arith)
          (λ q. z (let e : q.0 ≡ v = omega (arith, q.3, q.4) in omega (arith, e, q.2)))

      -- with its value, its elements and what it holds, one cell more
      pub kept_more : word_in s' k t ≡ W k t
          → ((v i : ℕ) → v < 4 → i < 64 → array_at net v ≡ k → word_in s' n (64 * v + i) ≡ element net words W k i t)
          → (merges (cell_at net k).kind ≡ true → word_in s' (held_ring n k) t ≡ held_word net W k (suc t))
          → ((cell_at net k).kind ≡ 44 → word_in s' (held_ring n k) t ≡ read_word net words W k t)
          → Kept net words W t (k + 1) s'
      kept_more now els hold reads =
          let o = seen-still h.seen in
          record {
            seen = record {
              cells = o.cells;
              cells-now = λ j lj. ⊎_elim (λ (e : j ≡ k). rw e now) (λ (i : j < k). o.cells-now j i) (eq-or-lt_of_le (below j lj));
              held = o.held;
              read = o.read;
            };
            held-now = λ j lj m.
                ⊎_elim (λ (e : j ≡ k). at-k j e m)
                (λ (i : j < k). clear (held_ring n j) (λ e. omega arith) (λ e. omega arith) (λ e. omega arith) ∙ h.held-now j i m)
                (eq-or-lt_of_le (below j lj));
            read-now = λ j lj m.
                ⊎_elim (λ (e : j ≡ k). reads-k j e m)
                (λ (i : j < k). clear (held_ring n j) (λ e. omega arith) (λ e. omega arith) (λ e. omega arith) ∙ h.read-now j i m)
                (eq-or-lt_of_le (below j lj));
            elements-now = λ v i lv li lk.
                ⊎_elim (λ (e : array_at net v ≡ k). els v i lv li e ∙ ap (λ (j : ℕ). element net words W j i t) (sym e))
                (λ (o : array_at net v < k). same v i lv li (λ e. omega arith) ∙ h.elements-now v i lv li o) (eq-or-lt_of_le (below (array_at net v) lk));
            elements = λ v i lv li lk. same v i lv li (λ e. omega arith) ∙ h.elements v i lv li (omega arith);
          }
        where
          below : (j : ℕ) → j < k + 1 → j ≤ k
          below j o = omega arith

          at-k : (j : ℕ) → j ≡ k → merges (cell_at net j).kind ≡ true → word_in s' (held_ring n j) t ≡ held_word net W j (suc t)
          at-k j e m = rw e (hold (rw e at m))

          reads-k : (j : ℕ) → j ≡ k → (cell_at net j).kind ≡ 44 → word_in s' (held_ring n j) t ≡ read_word net words W j t
          reads-k j e m = rw e (reads (rw e at m))

  -- an instant later none has been evaluated
  pub kept_next : (t : ℕ) (s : List ℕ) → ((v : ℕ) → v < 4 → array_at net v < n) → Kept net words W t n s → Kept net words W (suc t) 0 s
  kept_next t s arrays h =
      let o = h.seen in
      record {
        seen = record {
          cells = λ j u lj lu lt.
              ⊎_elim (λ (e : u ≡ t). rw e (o.cells-now j lj)) (λ (i : u < t). o.cells j u lj i (omega arith)) (eq-or-lt_of_le (le_of_suc-le-suc lu));
          cells-now = λ j lj. absurd (omega arith);
          held = λ j u lj m e. let q : u ≡ t = omega arith in rw q (h.held-now j lj m);
          read = λ j u lj m lu lt.
              ⊎_elim (λ (e : u ≡ t). rw e (h.read-now j lj m)) (λ (i : u < t). o.read j u lj m i (omega arith)) (eq-or-lt_of_le (le_of_suc-le-suc lu));
        };
        held-now = λ j lj m. absurd (omega arith);
        read-now = λ j lj m. absurd (omega arith);
        elements-now = λ v i lv li lk. absurd (omega arith);
        elements = λ v i lv li lk. let q : suc t - 1 ≡ t = omega arith in rw q (h.elements-now v i lv li (arrays v lv));
      }

  -- at the beginning the elements have their start words
  pub kept-first : (s : List ℕ) → ((v i : ℕ) → v < 4 → i < 64 → word_in s n (64 * v + i) ≡ element net words W (array_at net v) i 0) → Kept net words W 0 0 s
  kept-first s starts =
      record {
        seen = record {
          cells = λ j u lj lu lt. absurd (omega arith);
          cells-now = λ j lj. absurd (omega arith);
          held = λ j u lj m e. absurd (omega arith);
          read = λ j u lj m lu lt. absurd (omega arith);
        };
        held-now = λ j lj m. absurd (omega arith);
        read-now = λ j lj m. absurd (omega arith);
        elements-now = λ v i lv li lk. absurd (omega arith);
        elements = λ v i lv li lk. starts v i lv li;
      }
