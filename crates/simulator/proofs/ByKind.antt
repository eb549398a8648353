-- What a cell shows and how it settles, by the number of its kind. Assumes nothing.
use mathlib.Core.Bool.{Bool, true, false, not, ◌&&◌, ◌||◌}
use mathlib.Core.List.{List}
use mathlib.Core.Path.{◌≡◌, refl, sym, ◌∙◌, ap}
use Prim.Native.Nat.{ℕ, ◌-◌, ◌<◌, ◌≤◌}
use native.Mathlib.Omega.{arith}
use native.Mathlib.Decide.{ℕ_discrete}
use lib.Dec.{leb}
use borrow.Author.Tests.{eq-eqb, ne_eqb, le-leb, lt-leb}
use lib.ListN.{set}
use Rattle.model.specs.declared.Cell.{Cell}
use Rattle.model.specs.declared.Format.{Format}
use Rattle.model.specs.Word.{pick, bit, is_zero, operate, element_of}
use Rattle.model.specs.Circuit.{remaining_step, Netlist, cell_at, high, merges, step_of, Shape, cell_table, shape, k_constant, k_complement, k_operator, k_start, k_ground, k_delay, k_or, k_when_true, k_when_false, k_merge, k_return, k_memory, k_gated, k_array, k_address, k_read, k_latch, k_unknown}
use Rattle.model.specs.State.{remaining_byte, remaining_at, element_now, now_at, before_at, held_at, line_bit, taken_in, next_value, settle}
use Rattle.laws.specs.Circuit.Shapes.{start-kind, delay-kind, merge-kind, return-kind, by-merge, operator-shape, apart}
use Rattle.laws.specs.Refusals.Laws.{not-both}

-- a number that is no operator's
pub record NoOperator (kind : ℕ) : Type 0 where
  pub test : (leb 4 kind && leb kind 9) ≡ false
  pub three : kind ≡ 3 → ⊥

pub no-operator-low : (kind : ℕ) → kind < 3 → NoOperator kind
no-operator-low kind h = record { test = ap (λ (b : Bool). b && leb kind 9) (lt-leb 4 kind (omega arith)); three = λ e. omega arith }

pub no-operator-high : (kind : ℕ) → 10 ≤ kind → NoOperator kind
no-operator-high kind h =
    record { test = rw (le-leb 4 kind (omega arith), lt-leb kind 9 (omega arith)) refl; three = λ e. omega arith }

-- kinds that show what their inputs have, worked out, are none of these
pub record Still (kind : ℕ) : Type 0 where
  pub operator : NoOperator kind
  pub constant : kind ≡ 1 → ⊥
  pub start : kind ≡ 32 → ⊥
  pub delay : kind ≡ 34 → ⊥
  pub join : kind ≡ 35 → ⊥
  pub when_true : kind ≡ 36 → ⊥
  pub when_false : kind ≡ 37 → ⊥
  pub merge : kind ≡ 38 → ⊥
  pub return : kind ≡ 39 → ⊥
  pub memory : kind ≡ 40 → ⊥
  pub gated : kind ≡ 41 → ⊥
  pub read : kind ≡ 44 → ⊥
  pub latch : kind ≡ 45 → ⊥

-- a ground, a cell of an array, or of no kind
shows-none : Bool → Bool → Bool → Shape
shows-none ground array address = pick ground k_ground (pick array k_array (pick address k_address k_unknown))

shape-still : (kind : ℕ) → Still kind
    → shape kind ≡ shows-none (leb 33 kind && leb kind 33) (leb 42 kind && leb kind 42) (leb 43 kind && leb kind 43)
unfolding shape cell_table shows-none
shape-still kind h =
    rw (
      apart kind 1 h.constant,
      apart kind 3 h.operator.three,
      h.operator.test,
      apart kind 32 h.start,
      apart kind 34 h.delay,
      apart kind 35 h.join,
      apart kind 36 h.when_true,
      apart kind 37 h.when_false,
      apart kind 38 h.merge,
      apart kind 39 h.return,
      apart kind 40 h.memory,
      apart kind 41 h.gated,
      apart kind 44 h.read,
      apart kind 45 h.latch,
    ) refl

module _ (F : Format) (starts : Bool) (net : Netlist) (s : List ℕ) (k : ℕ) (c : Cell) where
  -- Values -----------------------------------------------------------------------------------------------------------------------------

  by_kind : (n : ℕ) → c.kind ≡ n → next_value F (shape c.kind) starts net s k c ≡ next_value F (shape n) starts net s k c
  by_kind n h = ap (λ (j : ℕ). next_value F (shape j) starts net s k c) h

  pub next-constant : c.kind ≡ 1 → next_value F (shape c.kind) starts net s k c ≡ c.a
  unfolding next_value shape
  next-constant h = by_kind 1 h

  pub next_start : c.kind ≡ 32 → next_value F (shape c.kind) starts net s k c ≡ bit (starts || not (is_zero (remaining_at F s k)))
  unfolding next_value shape
  next_start h = by_kind 32 h

  pub next-delay : c.kind ≡ 34 → next_value F (shape c.kind) starts net s k c ≡ line_bit F s k c.delay (c.delay - 1)
  unfolding next_value shape
  next-delay h = by_kind 34 h

  pub next-or : c.kind ≡ 35 → next_value F (shape c.kind) starts net s k c ≡ bit (high (now_at F s c.a) || high (now_at F s c.b))
  unfolding next_value shape
  next-or h = by_kind 35 h

  pub next-when-true : c.kind ≡ 36 → next_value F (shape c.kind) starts net s k c ≡ bit (high (now_at F s c.a) && not (is_zero (now_at F s c.b)))
  unfolding next_value shape
  next-when-true h = by_kind 36 h

  pub next-when-false : c.kind ≡ 37 → next_value F (shape c.kind) starts net s k c ≡ bit (high (now_at F s c.a) && is_zero (now_at F s c.b))
  unfolding next_value shape
  next-when-false h = by_kind 37 h

  pub next-merge : merges c.kind ≡ true
      → next_value F (shape c.kind) starts net s k c ≡ bit (step_of net.pulse c.kind (high (before_at F s k)) (held_at F s k) (high (now_at F s c.a)) (high (now_at F s c.b))).out
  unfolding next_value shape step_of
  next-merge h =
      let out : ℕ → ℕ = λ n. bit (step_of net.pulse n (high (before_at F s k)) (held_at F s k) (high (now_at F s c.a)) (high (now_at F s c.b))).out in
      by-merge c.kind h (λ e. by_kind 38 e ∙ sym (ap out e)) (λ e. by_kind 39 e ∙ sym (ap out e))

  -- a memory whose clock has fallen, and one whose clock has not
  pub next-fallen : c.kind ≡ 40 → (high (before_at F s c.a) && not (high (now_at F s c.a))) ≡ true
      → next_value F (shape c.kind) starts net s k c ≡ before_at F s c.b
  unfolding next_value shape
  next-fallen h e = by_kind 40 h ∙ ap (λ (b : Bool). pick b (before_at F s c.b) (before_at F s k)) e

  pub next-kept : c.kind ≡ 40 → (high (before_at F s c.a) && not (high (now_at F s c.a))) ≡ false
      → next_value F (shape c.kind) starts net s k c ≡ before_at F s k
  unfolding next_value shape
  next-kept h e = by_kind 40 h ∙ ap (λ (b : Bool). pick b (before_at F s c.b) (before_at F s k)) e

  pub next-gate-open : c.kind ≡ 41 → now_at F s c.a ≡ 1 → next_value F (shape c.kind) starts net s k c ≡ now_at F s c.b
  unfolding next_value shape
  next-gate-open h e = by_kind 41 h ∙ ap (λ (b : Bool). pick b (now_at F s c.b) 0) (eq-eqb _ _ e)

  pub next-gate-shut : c.kind ≡ 41 → (now_at F s c.a ≡ 1 → ⊥) → next_value F (shape c.kind) starts net s k c ≡ 0
  unfolding next_value shape
  next-gate-shut h e = by_kind 41 h ∙ ap (λ (b : Bool). pick b (now_at F s c.b) 0) (ne_eqb _ _ e)

  pub next-operator : 3 ≤ c.kind → c.kind ≤ 9 → next_value F (shape c.kind) starts net s k c ≡ operate c.kind (now_at F s c.a) (now_at F s c.b)
  unfolding next_value shape operate
  next-operator h g = go (ℕ_discrete c.kind 3)
    where
      go : Dec (c.kind ≡ 3) → next_value F (shape c.kind) starts net s k c ≡ operate c.kind (now_at F s c.a) (now_at F s c.b)
      go (yes e) = by_kind 3 e ∙ ap (λ (n : ℕ). operate n (now_at F s c.a) (now_at F s c.b)) (sym e)
      go (no e) = ap (λ (sh : Shape). next_value F sh starts net s k c) (operator-shape c.kind (omega (arith, e)) g)

  pub next-read : c.kind ≡ 44 → next_value F (shape c.kind) starts net s k c ≡ element_now F net s (element_of (cell_at net.cells c.a).delay (now_at F s c.b))
  unfolding next_value shape
  next-read h = by_kind 44 h

  pub next-latch : c.kind ≡ 45
      → next_value F (shape c.kind) starts net s k c ≡ pick (high (before_at F s c.a)) (before_at F s c.b) (before_at F s k)
  unfolding next_value shape
  next-latch h = by_kind 45 h

  pub next-still : Still c.kind → next_value F (shape c.kind) starts net s k c ≡ 0
  unfolding next_value shows-none
  next-still h =
      ap (λ (sh : Shape). next_value F sh starts net s k c) (shape-still c.kind h)
      ∙ none (leb 33 c.kind && leb c.kind 33) (leb 42 c.kind && leb c.kind 42) (leb 43 c.kind && leb c.kind 43)
    where
      none : (p q r : Bool) → next_value F (shows-none p q r) starts net s k c ≡ 0
      none true q r = refl
      none false true r = refl
      none false false true = refl
      none false false false = refl

-- Settling -----------------------------------------------------------------------------------------------------------------------------

module _ (w : ℕ) (F : Format) (s : List ℕ) (k : ℕ) (c : Cell) where
  pub settle-delay : c.kind ≡ 34 → settle F w (shape c.kind) s k c ≡ taken_in F s k c.delay (high (now_at F s c.a))
  unfolding settle shape
  settle-delay h = ap (λ (j : ℕ). settle F w (shape j) s k c) h

  pub settle-start : c.kind ≡ 32 → settle F w (shape c.kind) s k c ≡ set s (remaining_byte F k) (remaining_step w (remaining_at F s k) (high (now_at F s k)))
  unfolding settle shape
  settle-start h = ap (λ (j : ℕ). settle F w (shape j) s k c) h

  pub settle_other : (c.kind ≡ 34 → ⊥) → merges c.kind ≡ false → (c.kind ≡ 32 → ⊥) → settle F w (shape c.kind) s k c ≡ s
  unfolding settle merges
  settle_other h g z = go (shape c.kind) refl
    where
      go : (sh : Shape) → shape c.kind ≡ sh → settle F w sh s k c ≡ s
      go k_constant e = refl
      go k_complement e = refl
      go k_operator e = refl
      go k_start e = absurd (z (start-kind c.kind e))
      go k_ground e = refl
      go k_delay e = absurd (h (delay-kind c.kind e))
      go k_or e = refl
      go k_when_true e = refl
      go k_when_false e = refl
      go k_merge e = not-both (rw (merge-kind c.kind e) refl) g
      go k_return e = not-both (rw (return-kind c.kind e) refl) g
      go k_memory e = refl
      go k_gated e = refl
      go k_array e = refl
      go k_address e = refl
      go k_read e = refl
      go k_latch e = refl
      go k_unknown e = refl
