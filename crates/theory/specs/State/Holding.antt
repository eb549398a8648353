-- What the bytes of a state hold of the values that obey the equations, and what the passes of one instant make of it: the values in rising order,
-- then held bits, lines, and bytes without a use. Assumes nothing.
use Rattle.laws.specs.Refusals.Laws.{by_bool}
use Rattle.std.specs.Prelude.{Bool, ◌&&◌, ◌||◌, List, ◌≡◌, ℕ, zero, suc, ◌+◌, ◌-◌, ◌*◌, ◌<◌, ◌≤◌, set, length, eqb, leb}
use Rattle.std.proofs.Math.Bool.{false, not, true}
use Rattle.std.proofs.Common.{inl, inr, sym, ◌∙◌, subst}
use Rattle.std.proofs.Math.Path.{refl, ap, ap₂}
use native.Mathlib.Omega.{arith}
use Rattle.std.proofs.Math.Decide.{ℕ_discrete, dec_le}
use Rattle.std.proofs.Math.ListN.{get_or, length-set}
use Rattle.std.proofs.Math.Seq.{get_or-set_same, get_or-set_other}
use borrow.Author.Tests.{le-leb, lt-leb, eqb-true, eq-eqb}
use Rattle.model.specs.declared.Cell.{Cell}
use Rattle.model.specs.declared.Format.{Format}
use Rattle.model.specs.declared.Merge.{Merge}
use Rattle.model.specs.Word.{pick, bit, is_zero, operate, index}
use Rattle.model.specs.Circuit.{Netlist, cell_at, Sig, Values, high, level, delayed, remaining_step, remaining_before, pulses, merge_step, short_return, long_return, return_step, Step, merged_before, held_before, merged, merges, step_of, shape, memory, latch, Elements, element, array_at, equation, Shape, cell_table, k_constant, k_complement, k_operator, k_start, k_ground, k_delay, k_or, k_when_true, k_when_false, k_merge, k_return, k_memory, k_gated, k_array, k_address, k_read, k_latch, k_unknown}
use Rattle.model.specs.State.{instant_of, flight_of, cell_size, base, element_now, now_at, before_at, held_at, line_bit, remaining_byte, remaining_at, next_value, holding, settle, line_at, flight}
use Rattle.model.specs.CircuitPromises.{earlier, kept, held_of, remaining_of}
use Rattle.theory.specs.Numbering.Levels.{delayed-zero}
use Rattle.laws.specs.Circuit.Ordered.{Looks, kinds, Ordered}
use Rattle.laws.specs.Circuit.Shapes.{start-kind, delay-kind, merge-kind, return-kind, merge-shape, return-shape, of-merge, of-return, by-merge, bit_le}
use Rattle.laws.specs.State.Lines.{least, behind, remaining-from, Line, Spare, taken-frame, taken-spare}
use Rattle.laws.specs.State.Passes.{shape_at, holding-frame, two, three, length_three, after, third_at, third-own, now-after, seen-now, held_after, remaining-after, line-new}

-- Delayed signals --------------------------------------------------------------------------------------------------------------------------------

pub delayed-early : (d : ℕ) (x : Sig) (t : ℕ) → t < d → delayed d x t ≡ false
unfolding delayed
delayed-early d x t h = rw (lt-leb d t h)

pub delayed-more : (d : ℕ) (x : Sig) (t : ℕ) → delayed (d + 1) x (suc t) ≡ delayed d x t
unfolding delayed
delayed-more d x t = go (dec_le d t)
  where
    go : Dec (d ≤ t) → pick (leb (d + 1) (suc t)) (x (suc t - (d + 1))) false ≡ pick (leb d t) (x (t - d)) false
    go (yes h) =
        let e : suc t - (d + 1) ≡ t - d = omega arith in
        rw (le-leb d t h, le-leb (d + 1) (suc t) (omega arith), e)
    go (no h) = rw (lt-leb d t (omega arith), lt-leb (d + 1) (suc t) (omega arith))

-- what a cell of a known shape looks at
looks-as : (K : ℕ → ℕ) (n k : ℕ) (c : Cell) {sh known : Shape} → sh ≡ known → Looks (cell_table sh).row K n k c → Looks (cell_table known).row K n k c
looks-as K n k c e o = rw e at o

module _ (K : ℕ → ℕ) (n k : ℕ) (c : Cell) {sh : Shape} where
  merge-looks : merges c.kind ≡ true → shape c.kind ≡ sh → Looks (cell_table sh).row K n k c → (c.a < k) × (c.b < k)
  unfolding cell_table
  merge-looks e z o =
      by-merge c.kind e
      (λ q. let (d, a, b) = looks-as K n k c (sym z ∙ merge-shape c.kind q) o in (a.0, b.0))
      (λ q. let (d, a, b) = looks-as K n k c (sym z ∙ return-shape c.kind q) o in (a.0, b.0))

  pub delay-looks : sh ≡ k_delay → Looks (cell_table sh).row K n k c → (1 ≤ c.delay) × (c.delay ≤ 255) × (c.a < n)
  unfolding cell_table
  delay-looks e o = let (d, a, b) = looks-as K n k c e o in (d.0, d.1, a.0)

  pub mem-looks : sh ≡ k_memory → Looks (cell_table sh).row K n k c → (c.a < k) × (c.b < n)
  unfolding cell_table
  mem-looks e o = let (d, a, b) = looks-as K n k c e o in (a.0, b.0)

  pub latch-looks : sh ≡ k_latch → Looks (cell_table sh).row K n k c → (c.a < n) × (c.b < n)
  unfolding cell_table
  latch-looks e o = let (d, a, b) = looks-as K n k c e o in (a.0, b.0)

  pub read_looks : sh ≡ k_read → Looks (cell_table sh).row K n k c → (c.a < k) × (c.b < k) × (K c.a ≡ 42)
  unfolding cell_table
  read_looks e o = let (d, a, b) = looks-as K n k c e o in (a.0, b.0, eqb-true _ _ a.1)

-- state s holds of merge k, which is c, what it holds just before instant T, and has as its value an instant ago what it has put out
pub record Joins (F : Format) (step : Step) (W : Values) (c : Cell) (s : List ℕ) (k T : ℕ) : Type 0 where
  pub held : held_at F s k ≡ held_before step (level W c.a) (level W c.b) T
  pub was : high (before_at F s k) ≡ (merged_before step (level W c.a) (level W c.b) T).out

module _ (F : Format) where
  -- A cell's value -----------------------------------------------------------------------------------------------------------------------------------

  -- what a cell shows in the second pass is what its equation says at instant T, if lower cells show theirs; s is the state in that pass
  module _ (net : Netlist) (starts : Sig) (E : Elements) (W : Values) (K : ℕ → ℕ) (T first k n : ℕ) (c : Cell) (s : List ℕ)
      (lower : (a : ℕ) → a < k → now_at F s a ≡ W a T) where
    -- what a merge holds and has put out, by its own step
    held_by : (step : Step) → (merges c.kind ≡ true) × (step_of net.pulse c.kind ≡ step)
        → (merges c.kind ≡ true → Joins F (step_of net.pulse c.kind) W c s k T) → Joins F step W c s k T
    held_by step z r = subst (λ (f : Step). Joins F f W c s k T) z.1 (r z.0)

    pub later-is : (sh : Shape) → shape c.kind ≡ sh → Looks (cell_table sh).row K n k c
        → (sh ≡ k_delay → line_bit F s k c.delay (c.delay - 1) ≡ bit (delayed c.delay (level W c.a) T))
        → (merges c.kind ≡ true → Joins F (step_of net.pulse c.kind) W c s k T)
        → (sh ≡ k_start → remaining_at F s k ≡ remaining_before net.pulse starts T)
        → (sh ≡ k_memory → next_value F k_memory (starts T) net s k c ≡ memory first W k c T)
        → (sh ≡ k_latch → next_value F k_latch (starts T) net s k c ≡ latch W k c T)
        → (sh ≡ k_read → next_value F k_read (starts T) net s k c ≡ E c.a (index (W c.b T)) T)
        → next_value F sh (starts T) net s k c ≡ equation net.pulse sh starts first E W k c T
    unfolding next_value equation merged merged_before pulses cell_table
    later-is k_constant z o q r p m g e = refl
    later-is k_complement z o q r p m g e = ap (λ (x : ℕ). operate 3 x 0) (lower c.a o.1.0)
    later-is k_operator z o q r p m g e = ap₂ (λ (x y : ℕ). operate c.kind x y) (lower c.a o.1.0) (lower c.b o.2.0)
    later-is k_start z o q r p m g e = ap (λ (n : ℕ). bit (starts T || not (is_zero n))) (p refl)
    later-is k_ground z o q r p m g e = refl
    later-is k_delay z o q r p m g e = q refl
    later-is k_or z o q r p m g e = ap₂ (λ (x y : ℕ). bit (high x || high y)) (lower c.a o.1.0) (lower c.b o.2.0)
    later-is k_when_true z o q r p m g e = ap₂ (λ (x y : ℕ). bit (high x && not (is_zero y))) (lower c.a o.1.0) (lower c.b o.2.0)
    later-is k_when_false z o q r p m g e = ap₂ (λ (x y : ℕ). bit (high x && is_zero y)) (lower c.a o.1.0) (lower c.b o.2.0)
    later-is k_merge z o q r p m g e =
        let j = held_by (merge_step (eqb net.pulse 1)) (of-merge net.pulse c.kind z) r in
        rw (j.held, j.was, lower c.a o.1.0, lower c.b o.2.0)
    later-is k_return z o q r p m g e =
        let j = held_by (return_step (eqb net.pulse 1)) (of-return net.pulse c.kind z) r in
        rw (j.held, j.was, lower c.a o.1.0, lower c.b o.2.0)
    later-is k_memory z o q r p m g e = m refl
    later-is k_gated z o q r p m g e = ap₂ (λ (x y : ℕ). pick (high x) y 0) (lower c.a o.1.0) (lower c.b o.2.0)
    later-is k_array z o q r p m g e = refl
    later-is k_address z o q r p m g e = refl
    later-is k_read z o q r p m g e = e refl
    later-is k_latch z o q r p m g e = g refl
    later-is k_unknown z o q r p m g e = refl

  -- Bytes without a use ------------------------------------------------------------------------------------------------------------------------------

  -- how large held bit j of a cell of this kind may be: "held b never set" in a 39
  abbrev pub most_held : ℕ → ℕ → ℕ → ℕ
  most_held kind k j = bit (pick (eqb j (base F k + 4)) (merges kind) (eqb kind 38))

  -- from byte 6 of a cell on, only a delay's line is set and the start's remaining instants; held bits are 0 or 1, and 0 where the cell holds none
  pub record Clean (net : Netlist) (s : List ℕ) (k : ℕ) : Type 0 where
    pub rest : (j : ℕ) → base F k + 6 ≤ j → j < base F k + cell_size F → ((cell_at net.cells k).kind ≡ 34 → Spare F k j)
        → ((cell_at net.cells k).kind ≡ 32 → j ≡ remaining_byte F k → ⊥) → get_or s j 0 ≡ 0
    pub bits : (j : ℕ) → base F k + 4 ≤ j → j < base F k + 6 → get_or s j 0 ≤ most_held (cell_at net.cells k).kind k j

  settle-rest : (w : ℕ) (sh : Shape) (t : List ℕ) (k : ℕ) (c : Cell) (j : ℕ) → base F k + 6 ≤ j → (sh ≡ k_delay → Spare F k j)
      → (sh ≡ k_start → j ≡ remaining_byte F k → ⊥) → get_or (settle F w sh t k c) j 0 ≡ get_or t j 0
  unfolding settle
  settle-rest w k_constant t k c j h g f = refl
  settle-rest w k_complement t k c j h g f = refl
  settle-rest w k_operator t k c j h g f = refl
  settle-rest w k_start t k c j h g f = get_or-set_other t (remaining_byte F k) j _ 0 (f refl)
  settle-rest w k_ground t k c j h g f = refl
  settle-rest w k_delay t k c j h g f = taken-spare t k c.delay _ F j (g refl)
  settle-rest w k_or t k c j h g f = refl
  settle-rest w k_when_true t k c j h g f = refl
  settle-rest w k_when_false t k c j h g f = refl
  settle-rest w k_merge t k c j h g f = holding-frame F t k _ j (inr h)
  settle-rest w k_return t k c j h g f = holding-frame F t k _ j (inr h)
  settle-rest w k_memory t k c j h g f = refl
  settle-rest w k_gated t k c j h g f = refl
  settle-rest w k_array t k c j h g f = refl
  settle-rest w k_address t k c j h g f = refl
  settle-rest w k_read t k c j h g f = refl
  settle-rest w k_latch t k c j h g f = refl
  settle-rest w k_unknown t k c j h g f = refl

  held-bits : (t : List ℕ) (k : ℕ) (m : Merge) (j : ℕ) → base F k + 6 ≤ length t → base F k + 4 ≤ j → j < base F k + 6 → get_or (holding F t k m) j 0 ≤ 1
  unfolding holding
  held-bits t k m j r h g = go (ℕ_discrete j (base F k + 5))
    where
      go : Dec (j ≡ base F k + 5) → get_or (set (set t (base F k + 4) (bit m.a)) (base F k + 5) (bit m.b)) j 0 ≤ 1
      go (yes e) =
          rw (e, get_or-set_same (set t (base F k + 4) (bit m.a)) (base F k + 5) (bit m.b) 0 (simp length-set (omega arith))) (bit_le m.b)
      go (no n) =
          let e : j ≡ base F k + 4 = omega arith in
          rw (e, get_or-set_other (set t (base F k + 4) (bit m.a)) (base F k + 5) (base F k + 4) (bit m.b) 0 (λ x. omega arith), get_or-set_same t (base F k + 4) (bit m.a) 0 (omega arith))
          (bit_le m.a)

  -- a 39 holds no b
  no-b : (one was : Bool) (m : Merge) (x y : Bool) → (return_step one was m x y).held.b ≡ false
  unfolding return_step short_return long_return
  no-b true was m x y = refl
  no-b false was m x y = refl

  settle-bits : (w : ℕ) (sh : Shape) (t : List ℕ) (k : ℕ) (c : Cell) (j B : ℕ) → base F k + 6 ≤ length t → base F k + 4 ≤ j → j < base F k + 6 → get_or t j 0 ≤ B
      → (sh ≡ k_merge → B ≡ 1) → (sh ≡ k_return → j ≡ base F k + 4 → B ≡ 1) → get_or (settle F w sh t k c) j 0 ≤ B
  unfolding settle
  settle-bits w k_constant t k c j B r h g l e f = l
  settle-bits w k_complement t k c j B r h g l e f = l
  settle-bits w k_operator t k c j B r h g l e f = l
  settle-bits w k_start t k c j B r h g l e f =
      rw (get_or-set_other t (remaining_byte F k) j (remaining_step w (remaining_at F t k) (high (now_at F t k))) 0 (λ q. omega (arith, remaining-from F k))) l
  settle-bits w k_ground t k c j B r h g l e f = l
  settle-bits w k_delay t k c j B r h g l e f = rw (taken-frame t k c.delay (high (now_at F t c.a)) F j (inl g)) l
  settle-bits w k_or t k c j B r h g l e f = l
  settle-bits w k_when_true t k c j B r h g l e f = l
  settle-bits w k_when_false t k c j B r h g l e f = l
  settle-bits w k_merge t k c j B r h g l e f = rw (e refl) (held-bits t k (merge_step (eqb w 1) (high (before_at F t k)) (held_at F t k) (high (now_at F t c.a)) (high (now_at F t c.b))).held j r h g)
  settle-bits w k_return t k c j B r h g l e f = go (ℕ_discrete j (base F k + 5))
    where
      m : Merge
      m = (return_step (eqb w 1) (high (before_at F t k)) (held_at F t k) (high (now_at F t c.a)) (high (now_at F t c.b))).held

      go : Dec (j ≡ base F k + 5) → get_or (holding F t k m) j 0 ≤ B
      go (yes q) = unfold holding bit in
          rw (q, no-b (eqb w 1) (high (before_at F t k)) (held_at F t k) (high (now_at F t c.a)) (high (now_at F t c.b)), get_or-set_same (set t (base F k + 4) (bit m.a)) (base F k + 5) 0 0 (simp length-set (omega arith)))
          (omega arith)
      go (no n) = rw (f refl (omega arith)) (held-bits t k m j r h g)
  settle-bits w k_memory t k c j B r h g l e f = l
  settle-bits w k_gated t k c j B r h g l e f = l
  settle-bits w k_array t k c j B r h g l e f = l
  settle-bits w k_address t k c j B r h g l e f = l
  settle-bits w k_read t k c j B r h g l e f = l
  settle-bits w k_latch t k c j B r h g l e f = l
  settle-bits w k_unknown t k c j B r h g l e f = l

  one_bit : (kind k j : ℕ) → kind ≡ 38 → most_held kind k j ≡ 1
  unfolding bit merges
  one_bit kind k j e = by_bool (eqb j (base F k + 4)) (λ z. rw (z, e)) (λ z. rw (z, e))

  first_bit : (kind k j : ℕ) → kind ≡ 39 → j ≡ base F k + 4 → most_held kind k j ≡ 1
  unfolding bit merges
  first_bit kind k j e z = rw (e, eq-eqb j (base F k + 4) z)

  -- the passes keep bytes without a use
  module _ (net : Netlist) (v : List ℕ → ℕ → ℕ) (u : List ℕ) (room : base F (length net.cells) ≤ length u) (k : ℕ) (l : k < length net.cells) where
    pub clean_after : Clean net u k → Clean net (after F net v u) k
    clean_after d =
        record {
          rest = λ j x y z q.
              third_at F net v u k j l (omega arith) y
              ∙ settle-rest net.pulse (shape_at net k) (three F net v u k) k (cell_at net.cells k) j x (λ e. z (delay-kind _ e)) (λ e. q (start-kind _ e))
              ∙ third-own F net v u k j l (omega arith) y
              ∙ d.rest j x y z q;
          bits = λ j x y.
              rw (third_at F net v u k j l (omega arith) (omega (arith, least F)))
              (settle-bits net.pulse (shape_at net k) (three F net v u k) k (cell_at net.cells k) j (most_held (cell_at net.cells k).kind k j) (rw (length_three F net v u k) (omega (arith, behind F k (length net.cells) l))) x y
              (rw (third-own F net v u k j l (omega arith) (omega (arith, least F))) (d.bits j x y)) (λ e. one_bit _ k j (merge-kind _ e)) (λ e q. first_bit _ k j (return-kind _ e) q));
        }

  -- What a state holds ---------------------------------------------------------------------------------------------------------------------------------

  -- behind its header
  pub record Body (net : Netlist) (words : ℕ → ℕ) (W : Values) (t : ℕ) (s : List ℕ) : Type 0 where
    pub present : (k : ℕ) → k < length net.cells → now_at F s k ≡ W k t
    pub past : (k : ℕ) → k < length net.cells → before_at F s k ≡ earlier W k t
    pub held : (k : ℕ) → k < length net.cells → merges (cell_at net.cells k).kind ≡ true
        → held_at F s k ≡ held_of net W t k
    pub remaining : (k : ℕ) → k < length net.cells → shape_at net k ≡ k_start → remaining_at F s k ≡ remaining_of net W t k
    pub lines : (k : ℕ) → k < length net.cells → shape_at net k ≡ k_delay
        → (i : ℕ) → i < kept F (cell_at net.cells k).delay → line_at F net s k i ≡ bit (delayed i (level W (cell_at net.cells k).a) t)
    pub elements : (a i : ℕ) → a < 4 → i < 64 → element_now F net s (64 * a + i) ≡ element net.cells words W (array_at net.cells a) i t
    pub bytes : (k : ℕ) → k < length net.cells → shape_at net k ≡ k_delay → Line F s k (cell_at net.cells k).delay
    pub clean : (k : ℕ) → k < length net.cells → Clean net s k

  pub record Holding (net : Netlist) (words : ℕ → ℕ) (W : Values) (t : ℕ) (s : List ℕ) : Type 0 where
    pub instant : t ≤ 1000000 → instant_of s ≡ t
    pub number : flight_of s ≡ flight F net s
    pub body : Body net words W t s

  -- Of the passes from u, which is the state before with the past renewed, at instant T
  module _ (net : Netlist) (ordered : Ordered net.cells) (W : Values) (T : ℕ)
      (v : List ℕ → ℕ → ℕ) (u : List ℕ) (room : base F (length net.cells) ≤ length u)
      (first : (k : ℕ) → k < length net.cells → ((a : ℕ) → a < k → now_at F (two F net v u k) a ≡ W a T) → v (two F net v u k) k ≡ W k T) where
    now-up-to : (n : ℕ) → n ≤ length net.cells → (k : ℕ) → k < n → now_at F (after F net v u) k ≡ W k T
    now-up-to zero g k h = absurd (omega arith)
    now-up-to (suc n) g k h = go (ℕ_discrete k n) (now-up-to n (omega arith))
      where
        go : Dec (k ≡ n) → ((a : ℕ) → a < n → now_at F (after F net v u) a ≡ W a T) → now_at F (after F net v u) k ≡ W k T
        go (yes e) r =
            now-after F net v u room k (omega arith)
            ∙ first k (omega arith) (λ a l. seen-now F net v u room k a (omega arith) l ∙ r a (omega arith))
        go (no x) r = r k (omega arith)

    pub now-is : (k : ℕ) → k < length net.cells → now_at F (after F net v u) k ≡ W k T
    now-is k h = now-up-to (length net.cells) (omega arith) k h

    pub held-is : (k : ℕ) → k < length net.cells → merges (cell_at net.cells k).kind ≡ true
        → Joins F (step_of net.pulse (cell_at net.cells k).kind) W (cell_at net.cells k) u k T → held_at F (after F net v u) k ≡ held_of net W T k
    unfolding merged_before
    held-is k h e r =
        let o = merge-looks (kinds net.cells) (length net.cells) k (cell_at net.cells k) e refl (ordered.looks k h) in
        held_after F net v u room k h e
        ∙ rw (r.held, r.was, now-is (cell_at net.cells k).a (omega arith), now-is (cell_at net.cells k).b (omega arith))

    pub remaining-is : (k : ℕ) → k < length net.cells → shape_at net k ≡ k_start → remaining_at F u k ≡ remaining_before net.pulse (level W k) T
        → remaining_at F (after F net v u) k ≡ remaining_of net W T k
    unfolding remaining_before
    remaining-is k h e r =
        remaining-after F net v u room k h e ∙ ap₂ (λ (n v : ℕ). remaining_step net.pulse n (high v)) r (now-is k h)

    pub newest-is : (k : ℕ) → k < length net.cells → (e : shape_at net k ≡ k_delay) → Line F u k (cell_at net.cells k).delay
        → line_at F net (after F net v u) k 0 ≡ bit (delayed 0 (level W (cell_at net.cells k).a) T)
    newest-is k h e b =
        let o = delay-looks (kinds net.cells) (length net.cells) k (cell_at net.cells k) e (ordered.looks k h) in
        line-new F net v u room k h e b o.0
        ∙ ap (λ (x : ℕ). bit (high x)) (now-is (cell_at net.cells k).a o.2)
        ∙ ap bit (sym (delayed-zero (level W (cell_at net.cells k).a) T))
