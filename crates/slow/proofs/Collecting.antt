-- The words of memories, collected one after another, and the values of cells, put in one after another. Assumes nothing.
use mathlib.Core.Bool.{Bool, true, false}
use mathlib.Core.List.{List, [], ◌∷◌, ◌++◌, append-nil}
use mathlib.Core.Path.{◌≡◌, refl, sym, ◌∙◌, ap}
use Prim.Native.Nat.{ℕ, suc, ◌+◌, ◌-◌, ◌*◌, ◌<◌, ◌≤◌}
use native.Mathlib.Omega.{arith}
use native.Mathlib.Numerals.{add-one}
use lib.Dec.{eqb}
use lib.ListN.{length, set, length-set, take, drop, take-append-drop, drop_of_length-le}
use lib.Seq.{sets, sets-eq, take-suc, drop-cons}
use borrow.Author.Tests.{eq-eqb, ne_eqb}
use Rattle.model.specs.declared.Cell.{Cell}
use Rattle.model.specs.Word.{pick, bit, put16, bytes16}
use Rattle.model.specs.Circuit.{memory_words, cell_at, no_cell, memories}
use Rattle.model.specs.Gates.{value_bytes}
use Rattle.laws.specs.Numbering.Memories.{memories-append}

cells-from : (net : List Cell) (k : ℕ) → k < length net → drop k net ≡ cell_at net k ∷ drop (k + 1) net
cells-from net k h = rw (add-one k) (drop-cons net k no_cell h)

-- Values put in: those from cell k on are to come
pub value-more : (f : ℕ → ℕ) (d : List ℕ) (n k : ℕ) → k < n
    → sets d (2 * k) (value_bytes f k (n - k)) ≡ sets (put16 d (2 * k) (f k)) (2 * (k + 1)) (value_bytes f (k + 1) (n - (k + 1)))
unfolding value_bytes put16 bytes16
value-more f d n k l =
    let e : n - k ≡ suc (n - (k + 1)) = omega arith in
    let p : 2 * (k + 1) ≡ suc (suc (2 * k)) = omega arith in
    let q : 2 * k + 1 ≡ suc (2 * k) = omega arith in
    rw (e, p, q) refl

pub value-done : (f : ℕ → ℕ) (d : List ℕ) (n k : ℕ) → n ≤ k → sets d (2 * k) (value_bytes f k (n - k)) ≡ d
unfolding value_bytes
value-done f d n k l = let e : n - k ≡ 0 = omega arith in rw e refl

module _ (net : List Cell) (k : ℕ) (h : k < length net) where
  -- below cell k and with it
  pub below_more : memories (take (k + 1) net) ≡ memories (take k net) + bit (eqb (cell_at net k).kind 40)
  unfolding memories
  below_more =
      rw (add-one k, take-suc net k no_cell h, memories-append (take k net) (cell_at net k ∷ [])) (omega arith)

  -- from cell k on
  above-memory : (cell_at net k).kind ≡ 40 → memories (drop k net) ≡ 1 + memories (drop (k + 1) net)
  unfolding memories bit
  above-memory e = ap memories (cells-from net k h) ∙ ap (λ (b : Bool). bit b + memories (drop (k + 1) net)) (eq-eqb _ _ e)

  above_other : ((cell_at net k).kind ≡ 40 → ⊥) → memories (drop k net) ≡ memories (drop (k + 1) net)
  unfolding memories bit
  above_other e = ap memories (cells-from net k h) ∙ ap (λ (b : Bool). bit b + memories (drop (k + 1) net)) (ne_eqb _ _ e) ∙ omega arith

  pub below-lt : (cell_at net k).kind ≡ 40 → memories (take k net) < memories net
  below-lt e =
      omega (arith, ap memories (take-append-drop k net), memories-append (take k net) (drop k net), above-memory e)

  words-memory : (f : ℕ → ℕ) → (cell_at net k).kind ≡ 40 → memory_words (drop k net) k f ≡ f k ∷ memory_words (drop (k + 1) net) (k + 1) f
  unfolding memory_words
  words-memory f e =
      ap (λ (cs : List Cell). memory_words cs k f) (cells-from net k h)
      ∙ ap (λ (b : Bool). pick b (f k ∷ memory_words (drop (k + 1) net) (k + 1) f) (memory_words (drop (k + 1) net) (k + 1) f)) (eq-eqb _ _ e)

  words-other : (f : ℕ → ℕ) → ((cell_at net k).kind ≡ 40 → ⊥) → memory_words (drop k net) k f ≡ memory_words (drop (k + 1) net) (k + 1) f
  unfolding memory_words
  words-other f e =
      ap (λ (cs : List Cell). memory_words cs k f) (cells-from net k h)
      ∙ ap (λ (b : Bool). pick b (f k ∷ memory_words (drop (k + 1) net) (k + 1) f) (memory_words (drop (k + 1) net) (k + 1) f)) (ne_eqb _ _ e)

pub below-le : (net : List Cell) (k : ℕ) → memories (take k net) ≤ memories net
below-le net k = omega (arith, ap memories (take-append-drop k net), memories-append (take k net) (drop k net))

-- Collecting the words: j are in place, those of the memories from cell k on are to come -------------------------------------------------

pub record Collects (net : List Cell) (f : ℕ → ℕ) (words : List ℕ) (j k : ℕ) : Type 0 where
  pub sixteen : length words ≡ 16
  pub room : j + memories (drop k net) ≡ 16
  pub shown : sets words j (memory_words (drop k net) k f) ≡ memory_words net 0 f

length-words : (cs : List Cell) (k : ℕ) (f : ℕ → ℕ) → length (memory_words cs k f) ≡ memories cs
unfolding memory_words memories bit
length-words [] k f = refl
length-words (c ∷ cs) k f = go (eqb c.kind 40) (memory_words cs (k + 1) f) (length-words cs (k + 1) f)
  where
    go : (b : Bool) (ws : List ℕ) → length ws ≡ memories cs → length (pick b (f k ∷ ws) ws) ≡ bit b + memories cs
    go true ws e = omega arith
    go false ws e = omega arith

pub collects-first : (net : List Cell) (f : ℕ → ℕ) (words : List ℕ) → memories net ≡ 16 → length words ≡ 16 → Collects net f words 0 0
collects-first net f words m l =
    record {
      sixteen = l;
      room = omega arith;
      shown =
          sets-eq (memory_words net 0 f) words 0 (omega (arith, length-words net 0 f))
          ∙ ap (λ (r : List ℕ). memory_words net 0 f ++ r) (drop_of_length-le words {i = 0 + length (memory_words net 0 f)} (omega (arith, length-words net 0 f)))
          ∙ append-nil (memory_words net 0 f);
    }

module _ (net : List Cell) (f : ℕ → ℕ) (words : List ℕ) (j k : ℕ) (h : k < length net) (c : Cell) (e : cell_at net k ≡ c) (w : Collects net f words j k) where
  kind-is : c.kind ≡ 40 → (cell_at net k).kind ≡ 40
  kind-is z = ap (λ (x : Cell). x.kind) e ∙ z

  pub collects-room : c.kind ≡ 40 → j < 16
  collects-room z = omega (arith, w.room, above-memory net k h (kind-is z))

  pub collects-memory : c.kind ≡ 40 → Collects net f (set words j (f k)) (j + 1) (k + 1)
  collects-memory z =
      record {
        sixteen = simp length-set w.sixteen;
        room = omega (arith, w.room, above-memory net k h (kind-is z));
        shown = rw (add-one j) (ap (sets words j) (sym (words-memory net k h f (kind-is z))) ∙ w.shown);
      }

  pub collects-other : (c.kind ≡ 40 → ⊥) → Collects net f words j (k + 1)
  collects-other z =
      let y : (cell_at net k).kind ≡ 40 → ⊥ = λ x. z (ap (λ (d : Cell). d.kind) (sym e) ∙ x) in
      record {
        sixteen = w.sixteen;
        room = omega (arith, w.room, above_other net k h y);
        shown = ap (sets words j) (sym (words-other net k h f y)) ∙ w.shown;
      }

pub collects-all : (net : List Cell) (f : ℕ → ℕ) (words : List ℕ) (j k : ℕ) → length net ≤ k → Collects net f words j k → words ≡ memory_words net 0 f
unfolding memory_words
collects-all net f words j k h c =
    sym (ap (λ (cs : List Cell). sets words j (memory_words cs k f)) (drop_of_length-le net {i = k} h)) ∙ c.shown
