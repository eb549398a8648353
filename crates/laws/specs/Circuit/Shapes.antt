-- Kinds and their shapes, and control wires: a control wire's value is 0 or 1.
use Rattle.std.specs.Prelude.{◌≡◌, refl, Bool, true, false, ◌&&◌, ◌||◌, not, List, [], ◌∷◌, ◌⊎◌, ℕ, ◌<◌, ◌≤◌, eqb, leb, length}
use Rattle.std.proofs.Common.{sym, ap, ◌∙◌, inl, inr, ⊎_elim, arith, eqb-true, leb-true, le-leb}
use Rattle.std.proofs.Math.Bool.{and-false}
use Rattle.std.proofs.lemmas.Bool.{lt-leb}
use Rattle.model.specs.declared.Cell.{Cell}
use Rattle.model.specs.Word.{pick, bit, is_zero}
use Rattle.model.specs.Circuit.{cell_at, Netlist, Sig, pulses, Values, Elements, element, level, delayed, merge_step, return_step, merged, merges, step_of, control, equation, start_word, Obeys, Shape, CellKinds, cell_table, shapes, has_kind, shape_in, shape, k_constant, k_complement, k_operator, k_start, k_ground, k_delay, k_or, k_when_true, k_when_false, k_merge, k_return, k_memory, k_gated, k_array, k_address, k_read, k_latch, k_unknown}
use Rattle.laws.specs.Refusals.Laws.{and-true, by_bool, by_le, not-both}

-- a kind is one of its shape's, but for the shape of no kinds
abbrev Within : ℕ → Shape → Type 0
Within k sh = ((cell_table sh).last < (cell_table sh).first) ⊎ (((cell_table sh).first ≤ k) × (k ≤ (cell_table sh).last))

within : (k : ℕ) (shs : List Shape) → Within k (shape_in shs k)
unfolding shape_in
within k [] = inl (omega arith)
within k (sh ∷ rest) = go (has_kind sh k) refl (within k rest)
  where
    go : (b : Bool) → has_kind sh k ≡ b → Within k (shape_in rest k) → Within k (pick b sh (shape_in rest k))
    go true e r = let p = and-true (leb (cell_table sh).first k) _ e in inr (leb-true _ _ p.0, leb-true _ _ p.1)
    go false e r = r

-- a shape of one kind has that kind
pub only-kind : (k j : ℕ) → (cell_table (shape k)).first ≡ j → (cell_table (shape k)).last ≡ j → k ≡ j
unfolding shape
only-kind k j f l = ⊎_elim (λ p. absurd (omega (arith, p, f, l))) (λ p. omega (arith, p.0, p.1, f, l)) (within k shapes)

kind-of : (k j : ℕ) (sh : Shape) → (cell_table sh).first ≡ j → (cell_table sh).last ≡ j → shape k ≡ sh → k ≡ j
kind-of k j sh f l e = only-kind k j (ap (λ (x : Shape). (cell_table x).first) e ∙ f) (ap (λ (x : Shape). (cell_table x).last) e ∙ l)

pub start-kind : (k : ℕ) → shape k ≡ k_start → k ≡ 32
unfolding cell_table
start-kind k e = kind-of k 32 k_start refl refl e

pub delay-kind : (k : ℕ) → shape k ≡ k_delay → k ≡ 34
unfolding cell_table
delay-kind k e = kind-of k 34 k_delay refl refl e

pub merge-kind : (k : ℕ) → shape k ≡ k_merge → k ≡ 38
unfolding cell_table
merge-kind k e = kind-of k 38 k_merge refl refl e

pub return-kind : (k : ℕ) → shape k ≡ k_return → k ≡ 39
unfolding cell_table
return-kind k e = kind-of k 39 k_return refl refl e

pub memory-kind : (k : ℕ) → shape k ≡ k_memory → k ≡ 40
unfolding cell_table
memory-kind k e = kind-of k 40 k_memory refl refl e

pub array_kind : (k : ℕ) → shape k ≡ k_array → k ≡ 42
unfolding cell_table
array_kind k e = kind-of k 42 k_array refl refl e

pub start-shape : (k : ℕ) → k ≡ 32 → shape k ≡ k_start
unfolding shape
start-shape k e = rw e

pub delay-shape : (k : ℕ) → k ≡ 34 → shape k ≡ k_delay
unfolding shape
delay-shape k e = rw e

pub merge-shape : (k : ℕ) → k ≡ 38 → shape k ≡ k_merge
unfolding shape
merge-shape k e = rw e

pub return-shape : (k : ℕ) → k ≡ 39 → shape k ≡ k_return
unfolding shape
return-shape k e = rw e

-- the two merges, and what they do
pub of-merge : (w k : ℕ) → shape k ≡ k_merge → (merges k ≡ true) × (step_of w k ≡ merge_step (eqb w 1))
unfolding merges step_of
of-merge w k e = rw (merge-kind k e) (refl, refl)

pub of-return : (w k : ℕ) → shape k ≡ k_return → (merges k ≡ true) × (step_of w k ≡ return_step (eqb w 1))
unfolding merges step_of
of-return w k e = rw (return-kind k e) (refl, refl)

-- a merge is of one kind or the other
pub by-merge : {A : Type 0} (k : ℕ) → merges k ≡ true → (k ≡ 38 → A) → (k ≡ 39 → A) → A
unfolding merges
by-merge k e p q = by_bool (eqb k 38) (λ z. p (eqb-true k 38 z)) (λ z. q (eqb-true k 39 (sym (ap (λ (b : Bool). b || eqb k 39) z) ∙ e)))

pub memory-shape : (k : ℕ) → k ≡ 40 → shape k ≡ k_memory
unfolding shape
memory-shape k e = rw e

pub operator-shape : (k : ℕ) → 4 ≤ k → k ≤ 9 → shape k ≡ k_operator
unfolding shape
operator-shape k h g =
    rw (le-leb 1 k (omega arith), lt-leb k 1 (omega arith), le-leb 3 k (omega arith), lt-leb k 3 (omega arith), le-leb 4 k h, le-leb k 9 g) refl

-- a kind is not in a range that ends below it or begins above it, nor in one of another kind alone
pub outside : (k m n : ℕ) → (k < m) ⊎ (n < k) → (leb m k && leb k n) ≡ false
outside k m n h = ⊎_elim (λ l. rw (lt-leb m k l) refl) (λ l. rw (lt-leb k n l) (and-false (leb m k))) h

pub apart : (k j : ℕ) → (k ≡ j → ⊥) → (leb j k && leb k j) ≡ false
apart k j n = by_le j k (λ h. outside k j j (inr (omega (arith, h, n)))) (λ h. outside k j j (inl h))

-- a test that every line of the table passes is passed by every kind's line
unfoldable pub all_lines : (CellKinds → Bool) → List Shape → Bool
all_lines p [] = p (cell_table k_unknown)
all_lines p (sh ∷ rest) = p (cell_table sh) && all_lines p rest

lines-pass : (p : CellKinds → Bool) (k : ℕ) (shs : List Shape) → all_lines p shs ≡ true → p (cell_table (shape_in shs k)) ≡ true
unfolding all_lines shape_in
lines-pass p k [] e = e
lines-pass p k (sh ∷ rest) e =
    let (here, later) = and-true (p (cell_table sh)) (all_lines p rest) e in
    go (has_kind sh k) here (lines-pass p k rest later)
  where
    go : (b : Bool) → p (cell_table sh) ≡ true → p (cell_table (shape_in rest k)) ≡ true → p (cell_table (pick b sh (shape_in rest k))) ≡ true
    go true h r = h
    go false h r = r

pub every-line : (p : CellKinds → Bool) → all_lines p shapes ≡ true → (k : ℕ) → p (cell_table (shape k)) ≡ true
unfolding shape
every-line p e k = lines-pass p k shapes e

-- Control wires --------------------------------------------------------------------------------------------------------------------------------

pub bit_le : (b : Bool) → bit b ≤ 1
unfolding bit
bit_le true = omega arith
bit_le false = omega arith

shape-level : (w : ℕ) (s : Shape) (starts : Sig) (first : ℕ) (E : Elements) (W : Values) (k : ℕ) (c : Cell) (t : ℕ) → (cell_table s).row.control ≡ true
    → equation w s starts first E W k c t ≤ 1
unfolding equation cell_table
shape-level w k_constant starts first E W k c t e = not-both e refl
shape-level w k_complement starts first E W k c t e = not-both e refl
shape-level w k_operator starts first E W k c t e = not-both e refl
shape-level w k_start starts first E W k c t e = bit_le (pulses w starts t)
shape-level w k_ground starts first E W k c t e = omega arith
shape-level w k_delay starts first E W k c t e = bit_le (delayed c.delay (level W c.a) t)
shape-level w k_or starts first E W k c t e = bit_le (level W c.a t || level W c.b t)
shape-level w k_when_true starts first E W k c t e = bit_le (level W c.a t && not (is_zero (W c.b t)))
shape-level w k_when_false starts first E W k c t e = bit_le (level W c.a t && is_zero (W c.b t))
shape-level w k_merge starts first E W k c t e = bit_le (merged (merge_step (eqb w 1)) (level W c.a) (level W c.b) t)
shape-level w k_return starts first E W k c t e = bit_le (merged (return_step (eqb w 1)) (level W c.a) (level W c.b) t)
shape-level w k_memory starts first E W k c t e = not-both e refl
shape-level w k_gated starts first E W k c t e = not-both e refl
shape-level w k_array starts first E W k c t e = not-both e refl
shape-level w k_address starts first E W k c t e = not-both e refl
shape-level w k_read starts first E W k c t e = not-both e refl
shape-level w k_latch starts first E W k c t e = not-both e refl
shape-level w k_unknown starts first E W k c t e = not-both e refl

pub level-bound : (net : Netlist) (starts : Sig) (words : ℕ → ℕ) (W : Values) → Obeys net starts words W
    → (k : ℕ) → k < length net.cells → control (cell_at net.cells k).kind ≡ true → (t : ℕ) → W k t ≤ 1
unfolding Obeys control
level-bound net starts words W h k l e t = rw (h k l t)
    (shape-level net.pulse (shape (cell_at net.cells k).kind) starts (start_word net.cells words k) (element net.cells words W) W k
    (cell_at net.cells k) t e)
