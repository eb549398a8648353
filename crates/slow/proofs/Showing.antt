-- What a cell shows by the bytes of its rings is what it is to show, and so are the elements and what a merge holds. Assumes nothing.
use mathlib.Core.Bool.{Bool, true, false, not, ◌&&◌, ◌||◌}
use mathlib.Core.List.{List}
use mathlib.Core.Logic.{⊎_elim}
use mathlib.Core.Path.{◌≡◌, refl, sym, ap, ap₂, ◌∙◌}
use Prim.Native.Nat.{ℕ, zero, suc, ◌+◌, ◌-◌, ◌*◌, ◌<◌, ◌≤◌}
use native.Mathlib.Nat.{eq-or-lt_of_le, sub-zero}
use native.Mathlib.Omega.{arith}
use lib.Dec.{eqb, leb, ltb, leb-zero}
use lib.ListN.{length, get_or}
use borrow.Author.Tests.{leb-true, eqb-true, eq-eqb, ne_eqb}
use Rattle.model.specs.declared.Cell.{Cell}
use Rattle.model.specs.declared.Merge.{Merge}
use Rattle.model.specs.declared.Merged.{Merged}
use Rattle.model.specs.Word.{pick, bit, is_zero, operate, index}
use Rattle.model.specs.Program.{time_in}
use Rattle.model.specs.Circuit.{cell_at, high, level, falls, Values, Elements, pulses, remaining_before, remaining_step, memory, latch, element, delayed, Step, merged, merged_before, merge_step, return_step, held_before, merges, step_of, start_word, Shape, shape, cell_table, equation}
use Rattle.model.specs.Circuit.{k_constant, k_complement, k_operator, k_start, k_ground, k_delay, k_or, k_when_true, k_when_false, k_merge, k_return, k_memory, k_gated, k_array, k_address, k_read, k_latch, k_unknown}
use Rattle.model.specs.Gates.{past, gate, first_start, slow_cell}
use Rattle.laws.specs.Refusals.Laws.{by_bool, not-both}
use Rattle.laws.specs.Circuit.Ordered.{Looks, kinds, Ordered}
use Rattle.laws.specs.Circuit.Shapes.{only-kind, of-merge, of-return}
use Rattle.laws.specs.Circuit.Unique.{feeds}
use Rattle.laws.specs.Circuit.Gates.{late, instant-gate}
use Rattle.slow.specs.Ring.{word_in, element_in, held_ring, held_code, held_of, held_in, held_word, merge_in, merged_in, fallen_in, shown_in, time_at, taken_in, read_in, read_word, Seen, Kept}
use Rattle.slow.proofs.Rings.{held-code}

-- a delay is a word of a while ago
delay-is : (d : ℕ) (w : ℕ → ℕ) (t : ℕ) → high (past d w t) ≡ delayed d (λ u. high (w u)) t
unfolding past delayed
delay-is d w t = by_bool (leb d t) (λ e. rw e refl) (λ e. rw e refl)

past-zero : (w : ℕ → ℕ) (t : ℕ) → past 0 w t ≡ w t
unfolding past
past-zero w t = rw (leb-zero, sub-zero) refl

past-read : (d : ℕ) (v w : ℕ → ℕ) (t : ℕ) → ((u : ℕ) → u + d ≡ t → v u ≡ w u) → past d v t ≡ past d w t
unfolding past
past-read d v w t h = go (leb d t) refl
  where
    go : (b : Bool) → leb d t ≡ b → pick b (v (t - d)) 0 ≡ pick b (w (t - d)) 0
    go true e = h (t - d) (omega (arith, leb-true d t e))
    go false e = refl

-- the start, with pulses of 1
none-remains : (t : ℕ) → remaining_before 1 first_start t ≡ 0
unfolding remaining_before remaining_step
none-remains zero = refl
none-remains (suc t) = rw (none-remains t) (by_bool (eqb t 0) (λ e. rw e refl) (λ e. rw e refl))

start_is : (t : ℕ) → pulses 1 first_start t ≡ eqb t 0
unfolding pulses
start_is t = rw (none-remains t) (by_bool (eqb t 0) (λ e. rw e refl) (λ e. rw e refl))

-- with pulses of 1 a merge looks at no former output
one-step : (kind : ℕ) (was : Bool) (m : Merge) (a b : Bool) → step_of 1 kind was m a b ≡ merge_in kind m a b
unfolding step_of merge_step return_step merge_in
one-step kind was m a b = by_bool (eqb kind 39) (λ e. rw e refl) (λ e. rw e refl)

module _ (net : List Cell) (words : ℕ → ℕ) (W : Values) (k : ℕ) (l : k < length net) (s : List ℕ) where
  abbrev c : Cell
  c = cell_at net k

  abbrev n : ℕ
  n = length net

  -- a clock that falls
  fallen-is : (t : ℕ) → Seen net words W (suc t) k s → (a : ℕ) → a < k → fallen_in s a (suc t) ≡ falls W a t
  fallen-is t h a la =
      let e : suc t - 1 ≡ t = omega arith in
      rw (e, h.cells a t (omega arith) (omega arith) (omega arith), h.cells-now a la) refl

  held-is : (t : ℕ) → Seen net words W t k s → merges c.kind ≡ true
      → held_in s n k t ≡ held_before (step_of 1 c.kind) (level W c.a) (level W c.b) t
  unfolding held_in merged_before
  held-is zero h m = refl
  held-is (suc t) h m =
      let e : suc t - 1 ≡ t = omega arith in
      rw (ne_eqb (suc t) 0 (λ z. omega arith), e) (ap held_of (h.held k t l m refl) ∙ held-code _)

  memory-is : (word₀ t : ℕ) → Seen net words W t k s → c.a < k → c.b < n
      → pick (eqb t 0) word₀ (pick (fallen_in s c.a t) (word_in s c.b (t - 1)) (word_in s k (t - 1))) ≡ memory word₀ W k c t
  unfolding memory
  memory-is word₀ zero h la lb = refl
  memory-is word₀ (suc t) h la lb =
      let e : suc t - 1 ≡ t = omega arith in
      rw (ne_eqb (suc t) 0 (λ z. omega arith), fallen-is t h c.a la, e)
      (ap₂ (λ (x y : ℕ). pick (falls W c.a t) x y) (h.cells c.b t lb (omega arith) (omega arith)) (h.cells k t l (omega arith) (omega arith)))

  latch-is : (t : ℕ) → Seen net words W t k s → c.a < n → c.b < n
      → pick (eqb t 0) 0 (pick (high (word_in s c.a (t - 1))) (word_in s c.b (t - 1)) (word_in s k (t - 1))) ≡ latch W k c t
  unfolding latch
  latch-is zero h la lb = refl
  latch-is (suc t) h la lb =
      let e : suc t - 1 ≡ t = omega arith in
      rw (
        ne_eqb (suc t) 0 (λ z. omega arith),
        e,
        h.cells c.a t la (omega arith) (omega arith),
        h.cells c.b t lb (omega arith) (omega arith),
        h.cells k t l (omega arith) (omega arith),
      ) refl

  -- element i of the array whose kind 42 is this cell
  pub taken_is : Ordered net → (t : ℕ) → Kept net words W t k s → c.kind ≡ 42 → (i : ℕ) → i < 64
      → taken_in s n c (cell_at net (k + 1)).a t i ≡ element net words W k i t
  unfolding taken_in element
  taken_is o t h q i li =
      let st = o.stands k l q in
      let here : index i ≡ i = omega arith in
      let old : element_in s n c.delay i ≡ element net words W k i (t - 1) =
      ap (λ (x : ℕ). word_in s n (64 * c.delay + x)) here
      ∙ h.elements c.delay i st.0 li (omega (arith, st.1))
      ∙ ap (λ (j : ℕ). element net words W j i (t - 1)) (sym st.1) in
      go t h.seen old
    where
      go : (t : ℕ) → Seen net words W t k s → element_in s n c.delay i ≡ element net words W k i (t - 1)
          → taken_in s n c (cell_at net (k + 1)).a t i ≡ element net words W k i t
      go zero g old = old
      go (suc t) g old =
          let f = feeds net o k l q in
          let e : suc t - 1 ≡ t = omega arith in
          let was : element_in s n c.delay i ≡ element net words W k i t = rw e at old in
          rw (ne_eqb (suc t) 0 (λ z. omega arith), fallen-is t g c.a f.0, e, g.cells (cell_at net (k + 1)).a t f.2 (omega arith) (omega arith))
          (ap₂ (λ (x y : ℕ). pick (falls W c.a t && eqb i (index (W (cell_at net (k + 1)).a t))) x y) (g.cells c.b t f.1 (omega arith) (omega arith)) was)

  -- the element that this cell, a read, reads
  pub read_right : Ordered net → (t : ℕ) → Kept net words W t k s → c.a < k → (cell_at net c.a).kind ≡ 42 → c.b < k
      → read_in s n c (cell_at net c.a).delay t ≡ read_word net words W k t
  read_right o t h la q lb =
      let st = o.stands c.a (omega arith) q in
      let v = (cell_at net c.a).delay in
      ap (λ (x : ℕ). word_in s n (64 * v + index x)) (h.seen.cells-now c.b lb)
      ∙ h.elements-now v (index (W c.b t)) st.0 (omega arith) (omega (arith, st.1))
      ∙ ap (λ (j : ℕ). element net words W j (index (W c.b t)) t) (sym st.1)

  module _ (t : ℕ) (h : Seen net words W t k s) where
    pub now-is : (j : ℕ) → j < k → word_in s j t ≡ W j t
    now-is j lj = h.cells-now j lj

    readable : (j : ℕ) → j < k → (u : ℕ) → u ≤ t → t ≤ u + 255 → word_in s j u ≡ W j u
    readable j lj u lu lt = ⊎_elim (λ (e : u ≡ t). rw e (h.cells-now j lj)) (λ (o : u < t). h.cells j u (omega arith) o lt) (eq-or-lt_of_le lu)

    pulse : (j : ℕ) → j < k → high (word_in s j t) ≡ level W j t
    pulse j lj = ap high (now-is j lj)

    -- what a merge makes of its inputs
    pub merge-is : merges c.kind ≡ true → c.a < k → c.b < k
        → merged_in s n k c t ≡ merged_before (step_of 1 c.kind) (level W c.a) (level W c.b) (suc t)
    unfolding merged_before
    merge-is m la lb = rw (held-is t h m, pulse c.a la, pulse c.b lb) (sym (one-step c.kind _ _ _ _))

    -- a cell that is no operator
    shown-instant : (sh : Shape) → shape c.kind ≡ sh → late sh ≡ false → Looks (cell_table sh).row (kinds net) n k c → (d word₀ : ℕ) (E : Elements)
        → shown_in sh s n k c t d word₀ ≡ equation 1 sh first_start word₀ E W k c t
    unfolding shown_in equation cell_table late merged
    shown-instant k_constant q z o d word₀ E = refl
    shown-instant k_complement q z o d word₀ E = not-both refl z
    shown-instant k_operator q z o d word₀ E = not-both refl z
    shown-instant k_start q z o d word₀ E = ap bit (sym (start_is t))
    shown-instant k_ground q z o d word₀ E = refl
    shown-instant k_delay q z o d word₀ E =
        ap (λ (x : ℕ). bit (high x))
        (past-read c.delay (word_in s c.a) (W c.a) t
        (λ u e. let one = o.0.0 in let most = o.0.1 in h.cells c.a u o.1.0 (omega arith) (omega arith)))
        ∙ ap bit (delay-is c.delay (W c.a) t)
    shown-instant k_or q z o d word₀ E = ap₂ (λ (x y : Bool). bit (x || y)) (pulse c.a o.1.0) (pulse c.b o.2.0)
    shown-instant k_when_true q z o d word₀ E =
        ap₂ (λ (x : Bool) (y : ℕ). bit (x && not (is_zero y))) (pulse c.a o.1.0) (now-is c.b o.2.0)
    shown-instant k_when_false q z o d word₀ E =
        ap₂ (λ (x : Bool) (y : ℕ). bit (x && is_zero y)) (pulse c.a o.1.0) (now-is c.b o.2.0)
    shown-instant k_merge q z o d word₀ E =
        let m = of-merge 1 c.kind q in
        ap (λ (r : Merged). bit r.out) (merge-is m.0 o.1.0 o.2.0)
        ∙ ap (λ (step : Step). bit (merged step (level W c.a) (level W c.b) t)) m.1
    shown-instant k_return q z o d word₀ E =
        let m = of-return 1 c.kind q in
        ap (λ (r : Merged). bit r.out) (merge-is m.0 o.1.0 o.2.0)
        ∙ ap (λ (step : Step). bit (merged step (level W c.a) (level W c.b) t)) m.1
    shown-instant k_memory q z o d word₀ E = memory-is word₀ t h o.1.0 o.2.0
    shown-instant k_gated q z o d word₀ E = ap₂ (λ (x : Bool) (y : ℕ). pick x y 0) (pulse c.a o.1.0) (now-is c.b o.2.0)
    shown-instant k_array q z o d word₀ E = refl
    shown-instant k_address q z o d word₀ E = refl
    shown-instant k_read q z o d word₀ E = not-both refl z
    shown-instant k_latch q z o d word₀ E = latch-is t h o.1.0 o.2.0
    shown-instant k_unknown q z o d word₀ E = refl

    -- an operator, with a time that is a byte
    inputs_are : (d a : ℕ) → d ≤ 255 → a < k → past d (word_in s a) t ≡ past d (W a) t
    inputs_are d a ld la = past-read d (word_in s a) (W a) t (λ u e. readable a la u (omega arith) (omega arith))

    -- a read, which has read at this instant too
    read_is : (d : ℕ) → d ≤ 255 → c.kind ≡ 44 → word_in s (held_ring n k) t ≡ read_word net words W k t
        → past d (word_in s (held_ring n k)) t ≡ past d (read_word net words W k) t
    read_is d ld q now =
        past-read d _ _ t
        (λ u e.
        ⊎_elim (λ (z : u ≡ t). rw z now) (λ (z : u < t). h.read k u l q z (omega arith)) (eq-or-lt_of_le (at_most u e)))
      where
        at_most : (u : ℕ) → u + d ≡ t → u ≤ t
        at_most u e = omega arith

-- kind 44 is the read's alone
is_read : Shape → Bool
is_read k_constant = false
is_read k_complement = false
is_read k_operator = false
is_read k_start = false
is_read k_ground = false
is_read k_delay = false
is_read k_or = false
is_read k_when_true = false
is_read k_when_false = false
is_read k_merge = false
is_read k_return = false
is_read k_memory = false
is_read k_gated = false
is_read k_array = false
is_read k_address = false
is_read k_read = true
is_read k_latch = false
is_read k_unknown = false

no_read : (k : ℕ) (sh : Shape) → shape k ≡ sh → is_read sh ≡ false → eqb k 44 ≡ false
unfolding shape is_read
no_read k sh q z =
    by_bool (eqb k 44)
    (λ e. not-both (sym (ap is_read q) ∙ ap (λ (j : ℕ). is_read (shape j)) (eqb-true k 44 e)) z)
    (λ e. e)

module _ (times : List ℕ) (small : (i : ℕ) → get_or times i 0 < 256) (net : List Cell) (ors : ℕ) (words : ℕ → ℕ) (W : Values) (o : Ordered net) (t k : ℕ)
    (l : k < length net) (s : List ℕ) (h : Seen net words W t k s)
    (now : (cell_at net k).kind ≡ 44 → word_in s (held_ring (length net) k) t ≡ read_word net words W k t) where
  abbrev cₖ : Cell
  cₖ = cell_at net k

  abbrev τ : ℕ → ℕ
  τ = time_in times

  abbrev E : Elements
  E = element net words W

  abbrev word₀ : ℕ
  word₀ = start_word net words k

  -- what it is to show
  abbrev Right : Shape → Type 0
  Right sh =
      shown_in sh s (length net) k cₖ t (time_at times ors k cₖ.kind) word₀
      ≡ pick (ltb k ors) (gate τ sh first_start word₀ E W k cₖ t) (equation 1 sh first_start word₀ E W k cₖ t)

  plain : (sh : Shape) → shape cₖ.kind ≡ sh → late sh ≡ false → Looks (cell_table sh).row (kinds net) (length net) k cₖ → Right sh
  plain sh q z y =
      shown-instant net words W k l s t h sh q z y (time_at times ors k cₖ.kind) word₀ E
      ∙ by_bool (ltb k ors) (λ e. rw e (sym (instant-gate sh z τ first_start word₀ E W k cₖ t))) (λ e. rw e refl)

  right : (sh : Shape) → shape cₖ.kind ≡ sh → Looks (cell_table sh).row (kinds net) (length net) k cₖ → Right sh
  unfolding shown_in gate equation cell_table late is_read
  right k_constant q y = plain k_constant q refl y
  right k_complement q y =
      let e3 : cₖ.kind ≡ 3 =
      only-kind cₖ.kind 3 (ap (λ (x : Shape). (cell_table x).first) q) (ap (λ (x : Shape). (cell_table x).last) q) in
      let n44 = no_read cₖ.kind k_complement q refl in
      let i = inputs_are net words W k l s t h in
      by_bool (ltb k ors)
      (λ e. rw (e, n44, e3) (ap (λ (x : ℕ). operate 3 x 0) (i (τ 3) cₖ.a (omega (arith, small 3)) y.1.0)))
      (λ e.
      rw e
      (ap (λ (x : ℕ). operate 3 x 0) (i 0 cₖ.a (omega arith) y.1.0 ∙ past-zero (W cₖ.a) t)))
  right k_operator q y =
      let n44 = no_read cₖ.kind k_operator q refl in
      let i = inputs_are net words W k l s t h in
      by_bool (ltb k ors)
      (λ e.
      rw (e, n44)
      (ap₂ (operate cₖ.kind) (i (τ cₖ.kind) cₖ.a (omega (arith, small cₖ.kind)) y.1.0)
      (i (τ cₖ.kind) cₖ.b (omega (arith, small cₖ.kind)) y.2.0)))
      (λ e.
      rw e
      (ap₂ (operate cₖ.kind) (i 0 cₖ.a (omega arith) y.1.0 ∙ past-zero (W cₖ.a) t)
      (i 0 cₖ.b (omega arith) y.2.0 ∙ past-zero (W cₖ.b) t)))
  right k_start q y = plain k_start q refl y
  right k_ground q y = plain k_ground q refl y
  right k_delay q y = plain k_delay q refl y
  right k_or q y = plain k_or q refl y
  right k_when_true q y = plain k_when_true q refl y
  right k_when_false q y = plain k_when_false q refl y
  right k_merge q y = plain k_merge q refl y
  right k_return q y = plain k_return q refl y
  right k_memory q y = plain k_memory q refl y
  right k_gated q y = plain k_gated q refl y
  right k_array q y = plain k_array q refl y
  right k_address q y = plain k_address q refl y
  right k_read q y =
      let e44 : cₖ.kind ≡ 44 =
      only-kind cₖ.kind 44 (ap (λ (x : Shape). (cell_table x).first) q) (ap (λ (x : Shape). (cell_table x).last) q) in
      let r : (d : ℕ) → d ≤ 255 → past d (word_in s (held_ring (length net) k)) t ≡ past d (read_word net words W k) t =
      λ d ld. read_is net words W k l s t h d ld e44 (now e44) in
      by_bool (ltb k ors)
      (λ e. rw (e, eq-eqb cₖ.kind 44 e44) (r (τ 10) (omega (arith, small 10))))
      (λ e. rw e (r 0 (omega arith) ∙ past-zero _ t))
  right k_latch q y = plain k_latch q refl y
  right k_unknown q y = plain k_unknown q refl y

  pub shown-right : shown_in (shape cₖ.kind) s (length net) k cₖ t (time_at times ors k cₖ.kind) word₀ ≡ slow_cell τ net ors words W k t
  unfolding slow_cell
  shown-right = right (shape cₖ.kind) refl (o.looks k l)

-- What a merge holds after instant t
pub holds-right : (net : List Cell) (words : ℕ → ℕ) (W : Values) (t k : ℕ) (l : k < length net) (s : List ℕ) → Seen net words W t k s
    → merges (cell_at net k).kind ≡ true → (cell_at net k).a < k → (cell_at net k).b < k
    → held_code (merged_in s (length net) k (cell_at net k) t).held ≡ held_word net W k (suc t)
holds-right net words W t k l s h m la lb = ap (λ (r : Merged). held_code r.held) (merge-is net words W k l s t h m la lb)
