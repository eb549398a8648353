-- The memories of a netlist, counted from below and from above, and the words that they show. Assumes nothing.
use mathlib.Core.Bool.{Bool, true, false}
use mathlib.Core.List.{List, [], ◌∷◌, ◌++◌, append-nil}
use mathlib.Core.Path.{◌≡◌, refl, sym, ◌∙◌, ap}
use Prim.Native.Nat.{ℕ, ◌+◌, ◌<◌, ◌≤◌}
use native.Mathlib.Omega.{arith}
use native.Mathlib.Numerals.{add-one}
use lib.Dec.{eqb}
use lib.ListN.{length, set, length-set, take, drop, take-append-drop, drop_of_length-le}
use lib.Seq.{sets, sets-eq, take-suc}
use borrow.Author.Tests.{eq-eqb, ne_eqb}
use Rattle.model.specs.declared.Cell.{Cell}
use Rattle.model.specs.declared.Format.{Format}
use Rattle.model.specs.Word.{pick, bit}
use Rattle.model.specs.Circuit.{Netlist, memory_words, cell_at, no_cell, memories, start_word, shape}
use Rattle.model.specs.State.{now_at, next_value, first_value, words_in}
use Rattle.laws.specs.Numbering.Memories.{memories-append}
use Rattle.state.proofs.Standing.{cells-from}

module _ (net : List Cell) (k : ℕ) (h : k < length net) where
  -- below cell k and with it
  pub below_more : memories (take (k + 1) net) ≡ memories (take k net) + bit (eqb (cell_at net k).kind 40)
  unfolding memories
  below_more =
      rw (add-one k, take-suc net k no_cell h, memories-append (take k net) (cell_at net k ∷ [])) (omega arith)

  -- from cell k on
  above-memory : (cell_at net k).kind ≡ 40 → memories (drop k net) ≡ 1 + memories (drop (k + 1) net)
  unfolding memories bit
  above-memory e = ap memories (cells-from net k h) ∙ ap (λ (b : Bool). bit b + memories (drop (k + 1) net)) (eq-eqb _ _ e)

  above_other : ((cell_at net k).kind ≡ 40 → ⊥) → memories (drop k net) ≡ memories (drop (k + 1) net)
  unfolding memories bit
  above_other e = ap memories (cells-from net k h) ∙ ap (λ (b : Bool). bit b + memories (drop (k + 1) net)) (ne_eqb _ _ e) ∙ omega arith

  pub below-lt : (cell_at net k).kind ≡ 40 → memories (take k net) < memories net
  below-lt e =
      omega (arith, ap memories (take-append-drop k net), memories-append (take k net) (drop k net), above-memory e)

  words-memory : (F : Format) (s : List ℕ) → (cell_at net k).kind ≡ 40 → words_in F (drop k net) k s ≡ now_at F s k ∷ words_in F (drop (k + 1) net) (k + 1) s
  unfolding memory_words
  words-memory F s e =
      ap (λ (cs : List Cell). words_in F cs k s) (cells-from net k h)
      ∙ ap (λ (b : Bool). pick b (now_at F s k ∷ words_in F (drop (k + 1) net) (k + 1) s) (words_in F (drop (k + 1) net) (k + 1) s)) (eq-eqb _ _ e)

  words-other : (F : Format) (s : List ℕ) → ((cell_at net k).kind ≡ 40 → ⊥) → words_in F (drop k net) k s ≡ words_in F (drop (k + 1) net) (k + 1) s
  unfolding memory_words
  words-other F s e =
      ap (λ (cs : List Cell). words_in F cs k s) (cells-from net k h)
      ∙ ap (λ (b : Bool). pick b (now_at F s k ∷ words_in F (drop (k + 1) net) (k + 1) s) (words_in F (drop (k + 1) net) (k + 1) s)) (ne_eqb _ _ e)

pub below-le : (net : List Cell) (k : ℕ) → memories (take k net) ≤ memories net
below-le net k = omega (arith, ap memories (take-append-drop k net), memories-append (take k net) (drop k net))

-- Collecting the words: j are in place, those of the memories from cell k on are to come -------------------------------------------------

pub record Collects (F : Format) (net : List Cell) (s words : List ℕ) (j k : ℕ) : Type 0 where
  pub sixteen : length words ≡ 16
  pub room : j + memories (drop k net) ≡ 16
  pub shown : sets words j (words_in F (drop k net) k s) ≡ words_in F net 0 s

length-words : (F : Format) (cs : List Cell) (k : ℕ) (s : List ℕ) → length (words_in F cs k s) ≡ memories cs
unfolding memory_words memories bit
length-words F [] k s = refl
length-words F (c ∷ cs) k s = go (eqb c.kind 40) (words_in F cs (k + 1) s) (length-words F cs (k + 1) s)
  where
    go : (b : Bool) (ws : List ℕ) → length ws ≡ memories cs → length (pick b (now_at F s k ∷ ws) ws) ≡ bit b + memories cs
    go true ws e = omega arith
    go false ws e = omega arith

pub collects-first : (F : Format) (net : List Cell) (s words : List ℕ) → memories net ≡ 16 → length words ≡ 16 → Collects F net s words 0 0
collects-first F net s words m l =
    record {
      sixteen = l;
      room = omega arith;
      shown =
          sets-eq (words_in F net 0 s) words 0 (omega (arith, length-words F net 0 s))
          ∙ ap (λ (r : List ℕ). words_in F net 0 s ++ r) (drop_of_length-le words {i = 0 + length (words_in F net 0 s)} (omega (arith, length-words F net 0 s)))
          ∙ append-nil (words_in F net 0 s);
    }

module _ (F : Format) (net : List Cell) (s words : List ℕ) (j k : ℕ) (h : k < length net) (c : Cell) (e : cell_at net k ≡ c) (w : Collects F net s words j k) where
  kind-is : c.kind ≡ 40 → (cell_at net k).kind ≡ 40
  kind-is z = ap (λ (x : Cell). x.kind) e ∙ z

  pub collects-room : c.kind ≡ 40 → j < 16
  collects-room z = omega (arith, w.room, above-memory net k h (kind-is z))

  pub collects-memory : c.kind ≡ 40 → Collects F net s (set words j (now_at F s k)) (j + 1) (k + 1)
  collects-memory z =
      record {
        sixteen = simp length-set w.sixteen;
        room = omega (arith, w.room, above-memory net k h (kind-is z));
        shown = rw (add-one j) (ap (sets words j) (sym (words-memory net k h F s (kind-is z))) ∙ w.shown);
      }

  pub collects-other : (c.kind ≡ 40 → ⊥) → Collects F net s words j (k + 1)
  collects-other z =
      let y : (cell_at net k).kind ≡ 40 → ⊥ = λ x. z (ap (λ (d : Cell). d.kind) (sym e) ∙ x) in
      record {
        sixteen = w.sixteen;
        room = omega (arith, w.room, above_other net k h y);
        shown = ap (sets words j) (sym (words-other net k h F s y)) ∙ w.shown;
      }

pub collects-all : (F : Format) (net : List Cell) (s words : List ℕ) (j k : ℕ) → length net ≤ k → Collects F net s words j k → words ≡ words_in F net 0 s
unfolding memory_words
collects-all F net s words j k h c =
    sym (ap (λ (cs : List Cell). sets words j (words_in F cs k s)) (drop_of_length-le net {i = k} h)) ∙ c.shown

-- Values at instant 0 ------------------------------------------------------------------------------------------------------------------

module _ (F : Format) (net : Netlist) (w : ℕ → ℕ) (s : List ℕ) (k : ℕ) (c : Cell) (e : cell_at net.cells k ≡ c) where
  first-is : first_value F net w s k ≡ pick (eqb c.kind 40) (start_word net.cells w k) (next_value F (shape c.kind) true net s k c)
  first-is = ap (λ (x : Cell). pick (eqb x.kind 40) (start_word net.cells w k) (next_value F (shape x.kind) true net s k x)) e

  pub first-memory : c.kind ≡ 40 → first_value F net w s k ≡ w (memories (take k net.cells))
  first-memory h = first-is ∙ rw (eq-eqb _ _ h) refl

  pub first-other : (c.kind ≡ 40 → ⊥) → first_value F net w s k ≡ next_value F (shape c.kind) true net s k c
  first-other h = first-is ∙ rw (ne_eqb _ _ h) refl
