-- What a cell shows by its rings, by the number of its kind; and the parts of it by their tests. Assumes nothing.
use mathlib.Core.Bool.{Bool, true, false, not, ◌&&◌, ◌||◌}
use mathlib.Core.List.{List}
use mathlib.Core.Path.{◌≡◌, refl, sym, ◌∙◌, ap}
use Prim.Native.Nat.{ℕ, ◌+◌, ◌-◌, ◌*◌, ◌<◌, ◌≤◌}
use native.Mathlib.Omega.{arith}
use native.Mathlib.Decide.{ℕ_discrete}
use lib.Dec.{eqb, leb}
use lib.ListN.{length, get_or, get_or-eq_default}
use borrow.Author.Tests.{eqb-true, eqb-false, eq-eqb, ne_eqb, le-leb, lt-leb, lt-ltb, le-ltb}
use Rattle.model.specs.declared.Cell.{Cell}
use Rattle.model.specs.Word.{pick, bit, is_zero, operate, index, put16}
use Rattle.model.specs.Circuit.{high, merges, Shape, cell_table, shape, k_ground, k_array, k_address, k_unknown}
use Rattle.model.specs.Gates.{past}
use Rattle.laws.specs.Refusals.Laws.{by_bool, not-both}
use Rattle.laws.specs.Circuit.Shapes.{operator-shape, apart}
use Rattle.slow.specs.Ring.{slot, word_in, element_in, held_ring, held_of, held_in, merged_in, fallen_in, shown_in, time_at, taken_in, Leaves}
use Rattle.slow.proofs.Rings.{put-element, put_same, leaves-more}

-- Parts, by their tests ------------------------------------------------------------------------------------------------------------------------

pub past-early : (d : ℕ) (w : ℕ → ℕ) (t : ℕ) → t < d → past d w t ≡ 0
unfolding past
past-early d w t l = rw (lt-leb d t l) refl

pub past-late : (d : ℕ) (w : ℕ → ℕ) (t : ℕ) → d ≤ t → past d w t ≡ w (t - d)
unfolding past
past-late d w t l = rw (le-leb d t l) refl

pub held_first : (s : List ℕ) (n k t : ℕ) → t ≡ 0 → held_in s n k t ≡ record { a = false; b = false }
unfolding held_in
held_first s n k t e = rw (eq-eqb t 0 e) refl

pub held-later : (s : List ℕ) (n k t : ℕ) → (t ≡ 0 → ⊥) → held_in s n k t ≡ held_of (word_in s (held_ring n k) (t - 1))
unfolding held_in
held-later s n k t e = rw (ne_eqb t 0 e) refl

-- at instant 0, and later
pub at_first : (t x y : ℕ) → t ≡ 0 → pick (eqb t 0) x y ≡ x
at_first t x y e = rw (eq-eqb t 0 e) refl

pub at-later : (t x y : ℕ) → (t ≡ 0 → ⊥) → pick (eqb t 0) x y ≡ y
at-later t x y e = rw (ne_eqb t 0 e) refl

-- a word that was 1 an instant ago: it has fallen, or it is loaded
pub fell : (f : ℕ → ℕ) (t : ℕ) → eqb (past 1 f t) 1 && not (eqb (f t) 1) ≡ high (f (t - 1)) && not (high (f t))
fell f t = by_bool (eqb t 0)
    (λ z. let e = eqb-true t 0 z in rw (e, past-early 1 f 0 (omega arith)) (by_bool (high (f 0)) (λ q. rw q refl) (λ q. rw q refl)))
    (λ z. rw (past-late 1 f t (omega (arith, eqb-false t 0 z))) refl)

pub loaded : (f : ℕ → ℕ) (t w x y : ℕ) → pick (eqb t 0) w (pick (eqb (past 1 f t) 1) x y) ≡ pick (eqb t 0) w (pick (high (f (t - 1))) x y)
loaded f t w x y = by_bool (eqb t 0) (λ z. rw z refl) (λ z. rw (past-late 1 f t (omega (arith, eqb-false t 0 z))) refl)

pub picked : (b : Bool) (x y : ℕ) → b ≡ true → pick b x y ≡ x
picked b x y e = rw e refl

pub passed : (b : Bool) (x y : ℕ) → b ≡ false → pick b x y ≡ y
passed b x y e = rw e refl

-- an element
module _ (s : List ℕ) (n : ℕ) (c : Cell) (j t : ℕ) where
  abbrev Takes : ℕ → ℕ → Type 0
  Takes i x = taken_in s n c j t i ≡ x

  here : (i : ℕ) → i < 64 → element_in s n c.delay i ≡ word_in s n (64 * c.delay + i)
  here i li = let e : index i ≡ i = omega arith in ap (λ (x : ℕ). word_in s n (64 * c.delay + x)) e

  pub taken-first : t ≡ 0 → (i : ℕ) → i < 64 → Takes i (word_in s n (64 * c.delay + i))
  unfolding taken_in
  taken-first e i li = rw (eq-eqb t 0 e) (here i li)

  pub taken-kept : (t ≡ 0 → ⊥) → fallen_in s c.a t ≡ false → (i : ℕ) → i < 64 → Takes i (word_in s n (64 * c.delay + i))
  unfolding taken_in
  taken-kept e f i li = rw (ne_eqb t 0 e, f) (here i li)

  module _ (e : t ≡ 0 → ⊥) (f : fallen_in s c.a t ≡ true) where
    taken-hit : (i : ℕ) → i ≡ index (word_in s j (t - 1)) → Takes i (word_in s c.b (t - 1))
    unfolding taken_in
    taken-hit i q = rw (ne_eqb t 0 e, f, eq-eqb i (index (word_in s j (t - 1))) q) refl

    taken-miss : (i : ℕ) → i < 64 → (i ≡ index (word_in s j (t - 1)) → ⊥) → Takes i (word_in s n (64 * c.delay + i))
    unfolding taken_in
    taken-miss i li q = rw (ne_eqb t 0 e, f, ne_eqb i (index (word_in s j (t - 1))) q) (here i li)

    -- the element that the address names is put in
    module _ (small : c.delay < 4) (room : 512 * n + 512 ≤ length s) where
      abbrev x : ℕ
      x = 64 * c.delay + index (word_in s j (t - 1))

      abbrev s' : List ℕ
      s' = put16 s (slot n x) (word_in s c.b (t - 1))

      pub taken-put : (i : ℕ) → i < 64 → word_in s' n (64 * c.delay + i) ≡ taken_in s n c j t i
      taken-put i li = go (ℕ_discrete i (index (word_in s j (t - 1))))
        where
          go : Dec (i ≡ index (word_in s j (t - 1))) → word_in s' n (64 * c.delay + i) ≡ taken_in s n c j t i
          go (yes q) =
              ap (λ (y : ℕ). word_in s' n (64 * c.delay + y)) q ∙ put_same s n x (word_in s c.b (t - 1)) room ∙ sym (taken-hit i q)
          go (no q) =
              (put-element n s x t (word_in s c.b (t - 1)) (omega arith)).elements (64 * c.delay + i) (omega arith) (λ y. q (omega arith))
              ∙ sym (taken-miss i li q)

      pub taken-leaves : Leaves n t (λ j. ⊥) (λ e. (64 * c.delay ≤ e) × (e < 64 * c.delay + 64)) s s'
      taken-leaves =
          leaves-more n t (λ i. ⊥) (λ y. y ≡ x) (λ j. ⊥) (λ e. (64 * c.delay ≤ e) × (e < 64 * c.delay + 64)) s s' (λ i z. z)
          (λ y z. (omega arith, omega arith)) (put-element n s x t (word_in s c.b (t - 1)) (omega arith))

module _ (times : List ℕ) (ors k kind : ℕ) where
  pub time-read : k < ors → kind ≡ 44 → time_at times ors k kind ≡ get_or times 10 0
  time-read l e = rw (lt-ltb k ors l, eq-eqb kind 44 e) refl

  pub time-other : k < ors → (kind ≡ 44 → ⊥) → time_at times ors k kind ≡ get_or times kind 0
  time-other l e = rw (lt-ltb k ors l, ne_eqb kind 44 e) refl

  pub time-none : k < ors → (kind ≡ 44 → ⊥) → length times ≡ 11 → 11 ≤ kind → time_at times ors k kind ≡ 0
  time-none l e long h = time-other l e ∙ get_or-eq_default times 0 (omega (arith, long, h))

  pub time-behind : ors ≤ k → time_at times ors k kind ≡ 0
  time-behind l = rw (le-ltb k ors l) refl

-- A number that is no operator's -------------------------------------------------------------------------------------------------------------

pub record NoOperator (kind : ℕ) : Type 0 where
  pub test : (leb 4 kind && leb kind 9) ≡ false
  pub three : kind ≡ 3 → ⊥

pub no-operator-low : (kind : ℕ) → kind < 3 → NoOperator kind
no-operator-low kind h = record { test = ap (λ (b : Bool). b && leb kind 9) (lt-leb 4 kind (omega arith)); three = λ e. omega arith }

pub no-operator-high : (kind : ℕ) → 10 ≤ kind → NoOperator kind
no-operator-high kind h =
    record { test = rw (le-leb 4 kind (omega arith), lt-leb kind 9 (omega arith)) refl; three = λ e. omega arith }

-- nor a merge's
pub no-merge : (kind : ℕ) → merges kind ≡ false → (kind ≡ 38 → ⊥) × (kind ≡ 39 → ⊥)
unfolding merges
no-merge kind m = (λ e. not-both refl (rw e at m), λ e. not-both refl (rw e at m))

-- kinds that show what their inputs have, worked out, are none of these
pub record Still (kind : ℕ) : Type 0 where
  pub operator : NoOperator kind
  pub constant : kind ≡ 1 → ⊥
  pub start : kind ≡ 32 → ⊥
  pub delay : kind ≡ 34 → ⊥
  pub join : kind ≡ 35 → ⊥
  pub when_true : kind ≡ 36 → ⊥
  pub when_false : kind ≡ 37 → ⊥
  pub merge : kind ≡ 38 → ⊥
  pub return : kind ≡ 39 → ⊥
  pub memory : kind ≡ 40 → ⊥
  pub gated : kind ≡ 41 → ⊥
  pub read : kind ≡ 44 → ⊥
  pub latch : kind ≡ 45 → ⊥

-- a ground, a cell of an array, or of no kind
shows-none : Bool → Bool → Bool → Shape
shows-none ground array address = pick ground k_ground (pick array k_array (pick address k_address k_unknown))

shape-still : (kind : ℕ) → Still kind
    → shape kind ≡ shows-none (leb 33 kind && leb kind 33) (leb 42 kind && leb kind 42) (leb 43 kind && leb kind 43)
unfolding shape cell_table shows-none
shape-still kind h =
    rw (
      apart kind 1 h.constant,
      apart kind 3 h.operator.three,
      h.operator.test,
      apart kind 32 h.start,
      apart kind 34 h.delay,
      apart kind 35 h.join,
      apart kind 36 h.when_true,
      apart kind 37 h.when_false,
      apart kind 38 h.merge,
      apart kind 39 h.return,
      apart kind 40 h.memory,
      apart kind 41 h.gated,
      apart kind 44 h.read,
      apart kind 45 h.latch,
    ) refl

module _ (s : List ℕ) (n k : ℕ) (c : Cell) (t d word₀ : ℕ) where
  abbrev Shows : ℕ → Type 0
  Shows x = shown_in (shape c.kind) s n k c t d word₀ ≡ x

  by_kind : (j : ℕ) → c.kind ≡ j → shown_in (shape c.kind) s n k c t d word₀ ≡ shown_in (shape j) s n k c t d word₀
  by_kind j h = ap (λ (i : ℕ). shown_in (shape i) s n k c t d word₀) h

  pub next-constant : c.kind ≡ 1 → Shows c.a
  unfolding shown_in shape
  next-constant h = by_kind 1 h

  pub next_start : c.kind ≡ 32 → Shows (bit (eqb t 0))
  unfolding shown_in shape
  next_start h = by_kind 32 h

  pub next-delay : c.kind ≡ 34 → Shows (bit (high (past c.delay (word_in s c.a) t)))
  unfolding shown_in shape
  next-delay h = by_kind 34 h

  pub next-or : c.kind ≡ 35 → Shows (bit (high (word_in s c.a t) || high (word_in s c.b t)))
  unfolding shown_in shape
  next-or h = by_kind 35 h

  pub next-when-true : c.kind ≡ 36 → Shows (bit (high (word_in s c.a t) && not (is_zero (word_in s c.b t))))
  unfolding shown_in shape
  next-when-true h = by_kind 36 h

  pub next-when-false : c.kind ≡ 37 → Shows (bit (high (word_in s c.a t) && is_zero (word_in s c.b t)))
  unfolding shown_in shape
  next-when-false h = by_kind 37 h

  pub next-merge : c.kind ≡ 38 → Shows (bit (merged_in s n k c t).out)
  unfolding shown_in shape
  next-merge h = by_kind 38 h

  pub next-return : c.kind ≡ 39 → Shows (bit (merged_in s n k c t).out)
  unfolding shown_in shape
  next-return h = by_kind 39 h

  -- a merge of either kind
  pub next-merges : merges c.kind ≡ true → Shows (bit (merged_in s n k c t).out)
  unfolding merges
  next-merges m = by_bool (eqb c.kind 38) (λ e. next-merge (eqb-true c.kind 38 e)) (λ e. next-return (eqb-true c.kind 39 (rw e at m)))

  pub next-memory : c.kind ≡ 40 → Shows (pick (eqb t 0) word₀ (pick (fallen_in s c.a t) (word_in s c.b (t - 1)) (word_in s k (t - 1))))
  unfolding shown_in shape
  next-memory h = by_kind 40 h

  pub next-gate-open : c.kind ≡ 41 → word_in s c.a t ≡ 1 → Shows (word_in s c.b t)
  unfolding shown_in shape
  next-gate-open h e = by_kind 41 h ∙ ap (λ (b : Bool). pick b (word_in s c.b t) 0) (eq-eqb _ _ e)

  pub next-gate-shut : c.kind ≡ 41 → (word_in s c.a t ≡ 1 → ⊥) → Shows 0
  unfolding shown_in shape
  next-gate-shut h e = by_kind 41 h ∙ ap (λ (b : Bool). pick b (word_in s c.b t) 0) (ne_eqb _ _ e)

  pub next-operator : 3 ≤ c.kind → c.kind ≤ 9 → Shows (operate c.kind (past d (word_in s c.a) t) (past d (word_in s c.b) t))
  unfolding shown_in shape operate
  next-operator h g = go (ℕ_discrete c.kind 3)
    where
      go : Dec (c.kind ≡ 3) → Shows (operate c.kind (past d (word_in s c.a) t) (past d (word_in s c.b) t))
      go (yes e) = by_kind 3 e ∙ ap (λ (j : ℕ). operate j (past d (word_in s c.a) t) (past d (word_in s c.b) t)) (sym e)
      go (no e) = ap (λ (sh : Shape). shown_in sh s n k c t d word₀) (operator-shape c.kind (omega (arith, e)) g)

  pub next-read : c.kind ≡ 44 → Shows (past d (word_in s (held_ring n k)) t)
  unfolding shown_in shape
  next-read h = by_kind 44 h

  pub next-latch : c.kind ≡ 45 → Shows (pick (eqb t 0) 0 (pick (high (word_in s c.a (t - 1))) (word_in s c.b (t - 1)) (word_in s k (t - 1))))
  unfolding shown_in shape
  next-latch h = by_kind 45 h

  pub next-still : Still c.kind → Shows 0
  unfolding shown_in shows-none
  next-still h =
      ap (λ (sh : Shape). shown_in sh s n k c t d word₀) (shape-still c.kind h)
      ∙ none (leb 33 c.kind && leb c.kind 33) (leb 42 c.kind && leb c.kind 42) (leb 43 c.kind && leb c.kind 43)
    where
      none : (p q r : Bool) → shown_in (shows-none p q r) s n k c t d word₀ ≡ 0
      none true q r = refl
      none false true r = refl
      none false false true = refl
      none false false false = refl
