-- The words of an answer: of a compiled netlist they are those of the sixteen memories, in order.
use Rattle.std.specs.Prelude.{◌≡◌, Bool, eqb}
use Rattle.std.proofs.Math.Path.{refl, ap}
use Rattle.std.proofs.Common.{sym, ◌∙◌, ap₂, add-zero}
use Rattle.std.proofs.Math.Bool.{true, false}
use mathlib.Core.List.{List, [], ◌∷◌, ◌++◌, append-nil}
use Prim.Native.Nat.{ℕ, zero, suc, ◌+◌, ◌<◌, ◌≤◌, suc-le-suc}
use native.Mathlib.Omega.{arith}
use Rattle.std.proofs.Math.ListN.{length}
use Rattle.model.specs.declared.Cell.{Cell}
use Rattle.model.specs.Word.{pick, bit}
use Rattle.model.specs.Program.{Program}
use Rattle.model.specs.Rules.{Store}
use Rattle.model.specs.Circuit.{memory_words, memories}
use Rattle.model.specs.Numbering.{netlist, memories_of, memory_at, clock_wires, data_wires}
use Rattle.model.specs.Calls.{listed}
use Rattle.laws.specs.Numbering.Parts.{from_arrays, from_memories, memory_cells}
use Rattle.laws.specs.Numbering.Arrays.{below, parts, below-len, below_free}
use Rattle.laws.specs.Numbering.Memories.{memories-append, mems-all}

-- the words of memories that show the same
pub memory-same : (cs : List Cell) (k : ℕ) (v w : ℕ → ℕ) → ((i : ℕ) → i < length cs → v (k + i) ≡ w (k + i)) → memory_words cs k v ≡ memory_words cs k w
unfolding memory_words
memory-same [] k v w h = refl
memory-same (c ∷ cs) k v w h =
    ap₂ (λ (x : ℕ) (l : List ℕ). pick (eqb c.kind 40) (x ∷ l) l) (rw add-zero at (h 0 (omega arith)))
    (memory-same cs (k + 1) v w
    (λ i l.
    let e : k + 1 + i ≡ k + suc i = omega arith in
    rw e (h (suc i) (suc-le-suc l))))

module _ (v : ℕ → ℕ) where
  pub words_append : (xs ys : List Cell) (k : ℕ) → memory_words (xs ++ ys) k v ≡ memory_words xs k v ++ memory_words ys (k + length xs) v
  unfolding memory_words
  words_append [] ys k = ap (λ (j : ℕ). memory_words ys j v) (sym (add-zero k))
  words_append (c ∷ xs) ys k =
      let e : k + 1 + length xs ≡ k + length (c ∷ xs) = omega arith in
      go (eqb c.kind 40) (memory_words (xs ++ ys) (k + 1) v) (memory_words xs (k + 1) v) (memory_words ys (k + length (c ∷ xs)) v) (words_append xs ys (k + 1) ∙ ap (λ (j : ℕ). memory_words xs (k + 1) v ++ memory_words ys j v) e)
    where
      go : (b : Bool) (l m r : List ℕ) → l ≡ m ++ r → pick b (v k ∷ l) l ≡ pick b (v k ∷ m) m ++ r
      go true l m r h = ap (λ (l : List ℕ). v k ∷ l) h
      go false l m r h = h

  pub words-none : (xs : List Cell) (k : ℕ) → memories xs ≡ 0 → memory_words xs k v ≡ []
  unfolding memory_words memories bit
  words-none [] k e = refl
  words-none (c ∷ xs) k e = go (eqb c.kind 40) e (words-none xs (k + 1))
    where
      go : (b : Bool) → bit b + memories xs ≡ 0 → (memories xs ≡ 0 → memory_words xs (k + 1) v ≡ [])
          → pick b (v k ∷ memory_words xs (k + 1) v) (memory_words xs (k + 1) v) ≡ []
      go true z h = absurd (omega arith)
      go false z h = h (omega arith)

  words-mems : (M : ℕ) (ks ds : List ℕ) (x n : ℕ) → memory_words (memories_of ks ds x n) (M + x) v ≡ listed (λ y. v (M + y)) x n
  unfolding memories_of memory_words listed
  words-mems M ks ds x zero = refl
  words-mems M ks ds x (suc n) =
      let z : M + x + 1 ≡ M + (x + 1) = omega arith in
      ap (λ (l : List ℕ). v (M + x) ∷ l) (ap (λ (j : ℕ). memory_words (memories_of ks ds (x + 1) n) j v) z ∙ words-mems M ks ds (x + 1) n)

pub listed_same : (σ τ : Store) (x n : ℕ) → ((y : ℕ) → x ≤ y → y < x + n → σ y ≡ τ y) → listed σ x n ≡ listed τ x n
unfolding listed
listed_same σ τ x zero h = refl
listed_same σ τ x (suc n) h =
    ap₂ (λ (v : ℕ) (l : List ℕ). v ∷ l) (h x (omega arith) (omega arith)) (listed_same σ τ (x + 1) n (λ y a b. h y (omega arith) (omega arith)))

-- words that stand d places further on
pub listed-further : (σ τ : Store) (d x n : ℕ) → ((y : ℕ) → x ≤ y → y < x + n → σ y ≡ τ (d + y)) → listed σ x n ≡ listed τ (d + x) n
unfolding listed
listed-further σ τ d x zero h = refl
listed-further σ τ d x (suc n) h =
    let z : d + (x + 1) ≡ d + x + 1 = omega arith in
    ap₂ (λ (v : ℕ) (l : List ℕ). v ∷ l) (h x (omega arith) (omega arith))
    (listed-further σ τ d (x + 1) n (λ y a b. h y (omega arith) (omega arith)) ∙ ap (λ (k : ℕ). listed τ k n) z)

-- the sixteen words of a compiled netlist
module _ (S : Program) (sixteen : memories (netlist S) ≡ 16) (v : ℕ → ℕ) where
  rest-free : memories (from_arrays S) ≡ 0
  rest-free =
      omega (
        arith,
        sym sixteen ∙ ap memories (parts S),
        memories-append (below S) (from_memories S),
        below_free S,
        memories-append (memory_cells S) (from_arrays S),
        mems-all (clock_wires S) (data_wires S) 0 16,
      )

  pub memory-words : memory_words (netlist S) 0 v ≡ listed (λ x. v (memory_at S + x)) 0 16
  memory-words =
      let e : 0 + length (below S) ≡ memory_at S + 0 = omega (arith, below-len S) in
      ap (λ (net : List Cell). memory_words net 0 v) (parts S)
      ∙ words_append v (below S) (from_memories S) 0
      ∙ rw (words-none v (below S) 0 (below_free S), e)
      (words_append v (memory_cells S) (from_arrays S) (memory_at S + 0)
      ∙ rw (words-none v (from_arrays S) (memory_at S + 0 + length (memory_cells S)) rest-free, words-mems v (memory_at S) (clock_wires S) (data_wires S) 0 16)
      (append-nil (listed (λ y. v (memory_at S + y)) 0 16)))
