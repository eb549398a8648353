-- What a state shows, apart from its bytes, and how one instant without a start pulse moves it: for any state with room, not only for those of a run, in
-- either format and with any pulse length.
-- Assumes nothing.
use Rattle.std.specs.Prelude.{Bool, true, ◌&&◌, ◌||◌, List, ◌≡◌, ℕ, ◌+◌, ◌-◌, ◌*◌, ◌<◌, ◌≤◌, eqb, get_or}
use Rattle.std.proofs.Math.Bool.{false, not}
use Rattle.std.proofs.Common.{inr, ◌∙◌, arith}
use Rattle.std.proofs.Math.Path.{refl, sym, ap, ap₂}
use Rattle.std.proofs.Math.ListN.{length}
use Rattle.model.specs.declared.Cell.{Cell}
use Rattle.model.specs.declared.Merge.{Merge}
use Rattle.model.specs.declared.Format.{Format}
use Rattle.model.specs.Word.{pick, bit, is_zero, operate, index, element_of}
use Rattle.model.specs.Circuit.{Netlist, cell_at, high, remaining_step, merge_step, return_step, merges, step_of, array_at, Shape, cell_table, k_constant, k_complement, k_operator, k_start, k_ground, k_delay, k_or, k_when_true, k_when_false, k_merge, k_return, k_memory, k_gated, k_array, k_address, k_read, k_latch, k_unknown}
use Rattle.model.specs.State.{cell_size, base, state_size, element_now, now_at, before_at, held_at, remaining_byte, remaining_at, line_bit, line_at, next_value, value, counted, step_state}
use Rattle.model.specs.CircuitPromises.{kept}
use Rattle.laws.specs.Circuit.Ordered.{kinds, Looks, Ordered}
use Rattle.laws.specs.State.Bytes.{get16-same}
use Rattle.laws.specs.State.Lines.{least, below, remaining-from, remaining-within, kept-all, Line, Vacant, line_same, kept_same, vacant-same}
use Rattle.laws.specs.State.Passes.{shape_at, one, length-one, one-high, before-one, one-behind, two, two-high, now-two, after, now-after, seen-now, seen-before, seen-held, seen-line, before-after, held_after, remaining-after, line-new, line-old, same-held, now-counted, counted-other, length-counted, length_three, line_kept, step_is}
use Rattle.laws.specs.Circuit.Unique.{feeds}
use Rattle.laws.specs.State.Arrays.{element-late, element-after}
use Rattle.laws.specs.Circuit.Inputs.{delay-looks, mem-looks, latch-looks, read_looks}

-- What is shown ------------------------------------------------------------------------------------------------------------------------

pub record View : Type 0 where
  pub now : ℕ → ℕ
  pub ago : ℕ → ℕ
  pub held : ℕ → Merge
  pub remaining : ℕ → ℕ
  pub line : ℕ → ℕ → ℕ
  pub word : ℕ → ℕ

-- of a state of this netlist
abbrev pub view_of : Format → Netlist → List ℕ → View
view_of F net s = record { now = now_at F s; ago = before_at F s; held = held_at F s; remaining = remaining_at F s; line = line_at F net s; word = element_now F net s }

-- clock a falls from v to w
abbrev pub falls : View → View → ℕ → Bool
falls v w a = high (v.now a) && not (high (w.now a))

-- what cell k, which is c, shows an instant after v, if w has what lower cells show then, and the words of lower arrays
unfoldable pub shows : Shape → Netlist → View → View → ℕ → Cell → ℕ
shows k_constant net v w k c = c.a
shows k_complement net v w k c = operate 3 (w.now c.a) 0
shows k_operator net v w k c = operate c.kind (w.now c.a) (w.now c.b)
shows k_start net v w k c = bit (not (is_zero (v.remaining k)))
shows k_ground net v w k c = 0
shows k_delay net v w k c = v.line k (c.delay - 1)
shows k_or net v w k c = bit (high (w.now c.a) || high (w.now c.b))
shows k_when_true net v w k c = bit (high (w.now c.a) && not (is_zero (w.now c.b)))
shows k_when_false net v w k c = bit (high (w.now c.a) && is_zero (w.now c.b))
shows k_merge net v w k c = bit (merge_step (eqb net.pulse 1) (high (v.now k)) (v.held k) (high (w.now c.a)) (high (w.now c.b))).out
shows k_return net v w k c = bit (return_step (eqb net.pulse 1) (high (v.now k)) (v.held k) (high (w.now c.a)) (high (w.now c.b))).out
shows k_memory net v w k c = pick (falls v w c.a) (v.now c.b) (v.now k)
shows k_gated net v w k c = pick (high (w.now c.a)) (w.now c.b) 0
shows k_array net v w k c = 0
shows k_address net v w k c = 0
shows k_read net v w k c = w.word (element_of (cell_at net.cells c.a).delay (w.now c.b))
shows k_latch net v w k c = pick (high (v.now c.a)) (v.now c.b) (v.now k)
shows k_unknown net v w k c = 0

-- w is v an instant later
pub record Next (F : Format) (net : Netlist) (v w : View) : Type 0 where
  pub present : (k : ℕ) → k < length net.cells → w.now k ≡ shows (shape_at net k) net v w k (cell_at net.cells k)
  pub past : (k : ℕ) → k < length net.cells → w.ago k ≡ v.now k
  pub holds : (k : ℕ) → k < length net.cells → merges (cell_at net.cells k).kind ≡ true
      → w.held k ≡ (step_of net.pulse (cell_at net.cells k).kind (high (v.now k)) (v.held k) (high (w.now (cell_at net.cells k).a)) (high (w.now (cell_at net.cells k).b))).held
  pub remaining : (k : ℕ) → k < length net.cells → shape_at net k ≡ k_start → w.remaining k ≡ remaining_step net.pulse (v.remaining k) (high (w.now k))
  pub newest : (k : ℕ) → k < length net.cells → shape_at net k ≡ k_delay → w.line k 0 ≡ bit (high (w.now (cell_at net.cells k).a))
  pub older : (k : ℕ) → k < length net.cells → shape_at net k ≡ k_delay → (i : ℕ) → i + 1 < kept F (cell_at net.cells k).delay
      → w.line k (i + 1) ≡ v.line k i
  pub words : (a i : ℕ) → a < 4 → i < 64
      → w.word (64 * a + i)
      ≡ pick (falls v w (cell_at net.cells (array_at net.cells a)).a && eqb i (index (v.now (cell_at net.cells (array_at net.cells a + 1)).a)))
      (v.now (cell_at net.cells (array_at net.cells a)).b) (v.word (64 * a + i))

-- The bytes move so --------------------------------------------------------------------------------------------------------------------

module _ (F : Format) where
  -- t is the state in the second pass
  module _ (net : Netlist) (v w : View) (K : ℕ → ℕ) (k n : ℕ) (c : Cell) (t : List ℕ) (lower : (a : ℕ) → a < k → now_at F t a ≡ w.now a) where
    later-shows : (sh : Shape) → Looks (cell_table sh).row K n k c
        → (sh ≡ k_delay → line_bit F t k c.delay (c.delay - 1) ≡ v.line k (c.delay - 1))
        → held_at F t k ≡ v.held k → before_at F t k ≡ v.now k → (sh ≡ k_start → remaining_at F t k ≡ v.remaining k)
        → (sh ≡ k_memory → next_value F k_memory false net t k c ≡ shows k_memory net v w k c)
        → (sh ≡ k_read → next_value F k_read false net t k c ≡ shows k_read net v w k c)
        → (sh ≡ k_latch → next_value F k_latch false net t k c ≡ shows k_latch net v w k c)
        → next_value F sh false net t k c ≡ shows sh net v w k c
    unfolding next_value shows cell_table bit
    later-shows k_constant o q r b p m e l = refl
    later-shows k_complement o q r b p m e l = ap (λ (x : ℕ). operate 3 x 0) (lower c.a o.1.0)
    later-shows k_operator o q r b p m e l = ap₂ (λ (x y : ℕ). operate c.kind x y) (lower c.a o.1.0) (lower c.b o.2.0)
    later-shows k_start o q r b p m e l = ap (λ (n : ℕ). bit (not (is_zero n))) (p refl)
    later-shows k_ground o q r b p m e l = refl
    later-shows k_delay o q r b p m e l = q refl
    later-shows k_or o q r b p m e l = ap₂ (λ (x y : ℕ). bit (high x || high y)) (lower c.a o.1.0) (lower c.b o.2.0)
    later-shows k_when_true o q r b p m e l = ap₂ (λ (x y : ℕ). bit (high x && not (is_zero y))) (lower c.a o.1.0) (lower c.b o.2.0)
    later-shows k_when_false o q r b p m e l = ap₂ (λ (x y : ℕ). bit (high x && is_zero y)) (lower c.a o.1.0) (lower c.b o.2.0)
    later-shows k_merge o q r b p m e l = rw (r, b, lower c.a o.1.0, lower c.b o.2.0)
    later-shows k_return o q r b p m e l = rw (r, b, lower c.a o.1.0, lower c.b o.2.0)
    later-shows k_memory o q r b p m e l = m refl
    later-shows k_gated o q r b p m e l = ap₂ (λ (x y : ℕ). pick (high x) y 0) (lower c.a o.1.0) (lower c.b o.2.0)
    later-shows k_array o q r b p m e l = refl
    later-shows k_address o q r b p m e l = refl
    later-shows k_read o q r b p m e l = e refl
    later-shows k_latch o q r b p m e l = l refl
    later-shows k_unknown o q r b p m e l = refl

  module _ (net : Netlist) (ordered : Ordered net.cells) (s : List ℕ) (room : state_size F net ≤ length s)
      (bytes : (k : ℕ) → k < length net.cells → shape_at net k ≡ k_delay → Line F s k (cell_at net.cells k).delay) where
    U : List ℕ
    U = one F s (length net.cells)

    room-all : state_size F net ≤ length U
    unfolding U
    room-all = rw (length-one F s (length net.cells)) room

    room-U : base F (length net.cells) ≤ length U
    room-U = omega (arith, room-all)

    before-U : (k : ℕ) → k < length net.cells → before_at F U k ≡ now_at F s k
    unfolding U
    before-U k h = before-one F s (length net.cells) k h (omega (arith, below F k (length net.cells) h))

    own : (k j : ℕ) → base F k + 6 ≤ j → j < base F k + cell_size F → get_or U j 0 ≡ get_or s j 0
    unfolding U
    own k j x y = one-high F s (length net.cells) k j (omega arith) y

    held-U : (k : ℕ) → held_at F U k ≡ held_at F s k
    unfolding U
    held-U k =
        same-held F k (one F s (length net.cells)) s (one-high F s (length net.cells) k (base F k + 4) (omega arith) (omega (arith, least F)))
        (one-high F s (length net.cells) k (base F k + 5) (omega arith) (omega (arith, least F)))

    remaining-U : (k : ℕ) → remaining_at F U k ≡ remaining_at F s k
    remaining-U k = own k (remaining_byte F k) (remaining-from F k) (remaining-within F k)

    bytes-U : (k : ℕ) → k < length net.cells → shape_at net k ≡ k_delay → Line F U k (cell_at net.cells k).delay
    bytes-U k h e = kept_same s U k (cell_at net.cells k).delay F (own k) (bytes k h e)

    line-U : (k i : ℕ) → i < kept F (cell_at net.cells k).delay → line_at F net U k i ≡ line_at F net s k i
    line-U k i g = line_same s U k (cell_at net.cells k).delay F (own k) i g

    word-U : (n : ℕ) → element_now F net U n ≡ element_now F net s n
    unfolding U
    word-U n = get16-same s (one F s (length net.cells)) _ (one-behind F s (length net.cells) _ (omega arith)) (one-behind F s (length net.cells) _ (omega arith))

    v : List ℕ → ℕ → ℕ
    v = value F net false

    abbrev S : List ℕ
    S = after F net v U

    step-S : step_state F net false s ≡ counted F net S
    unfolding v U
    step-S = step_is F net false s

    -- with the number in flight put in
    abbrev T : List ℕ
    T = counted F net S

    same-T : (j : ℕ) → 8 ≤ j → get_or T j 0 ≡ get_or S j 0
    same-T j h = counted-other F net S j (inr h)

    now-T : (k : ℕ) → now_at F T k ≡ now_at F S k
    now-T k = now-counted F net S k

    before-T : (k : ℕ) → before_at F T k ≡ before_at F S k
    before-T k = get16-same S T (base F k + 2) (same-T (base F k + 2) (omega arith)) (same-T (base F k + 2 + 1) (omega arith))

    held-T : (k : ℕ) → held_at F T k ≡ held_at F S k
    held-T k = same-held F k T S (same-T (base F k + 4) (omega arith)) (same-T (base F k + 5) (omega arith))

    remaining-T : (k : ℕ) → remaining_at F T k ≡ remaining_at F S k
    remaining-T k = same-T (remaining_byte F k) (omega (arith, remaining-from F k))

    line-T : (k i : ℕ) → i < kept F (cell_at net.cells k).delay → line_at F net T k i ≡ line_at F net S k i
    line-T k i g = line_same S T k (cell_at net.cells k).delay F (λ j x y. same-T j (omega arith)) i g

    word-T : (n : ℕ) → element_now F net T n ≡ element_now F net S n
    word-T n = get16-same S T _ (same-T _ (omega arith)) (same-T _ (omega arith))

    seen-T : (k a : ℕ) → k < length net.cells → a < k → now_at F (two F net v U k) a ≡ now_at F T a
    seen-T k a h l = seen-now F net v U room-U k a h l ∙ sym (now-T a)

    -- words of arrays, once the second pass is past their cell
    word_at : (a i n : ℕ) → a < 4 → i < 64 → array_at net.cells a < n → n ≤ length net.cells
        → now_at F (two F net v U n) (cell_at net.cells (array_at net.cells a)).a ≡ now_at F T (cell_at net.cells (array_at net.cells a)).a
        → element_now F net (two F net v U n) (64 * a + i)
        ≡ pick (falls (view_of F net s) (view_of F net T) (cell_at net.cells (array_at net.cells a)).a && eqb i (index (now_at F s (cell_at net.cells (array_at net.cells a + 1)).a)))
        (now_at F s (cell_at net.cells (array_at net.cells a)).b) (element_now F net s (64 * a + i))
    word_at a i n la li h g now =
        let r = ordered.arrays a la in
        let f = feeds net.cells ordered (array_at net.cells a) (omega (arith, r.0)) r.1 in
        element-late F net ordered a i la li v U room-all n h g
        ∙ rw (
          now,
          before-U (cell_at net.cells (array_at net.cells a)).a (omega (arith, r.0, f.0)),
          before-U (cell_at net.cells (array_at net.cells a)).b f.1,
          before-U (cell_at net.cells (array_at net.cells a + 1)).a f.2,
          word-U (64 * a + i),
        )

    words-S : (a i : ℕ) → a < 4 → i < 64
        → element_now F net T (64 * a + i)
        ≡ pick (falls (view_of F net s) (view_of F net T) (cell_at net.cells (array_at net.cells a)).a && eqb i (index (now_at F s (cell_at net.cells (array_at net.cells a + 1)).a)))
        (now_at F s (cell_at net.cells (array_at net.cells a)).b) (element_now F net s (64 * a + i))
    words-S a i la li =
        let r = ordered.arrays a la in
        let f = feeds net.cells ordered (array_at net.cells a) (omega (arith, r.0)) r.1 in
        let clock = (cell_at net.cells (array_at net.cells a)).a in
        let b : clock < length net.cells = omega (arith, r.0, f.0) in
        word-T (64 * a + i) ∙ element-after F net ordered a i la li v U room-all
        ∙ word_at a i (length net.cells) la li (omega (arith, r.0)) (omega arith)
        (now-two F net v U (length net.cells) clock b b (omega (arith, room-U, below F clock (length net.cells) b)) ∙ sym (now-after F net v U room-U clock b) ∙ sym (now-T clock))

    memory-S : (k : ℕ) → k < length net.cells → shape_at net k ≡ k_memory
        → next_value F k_memory false net (two F net v U k) k (cell_at net.cells k) ≡ shows k_memory net (view_of F net s) (view_of F net T) k (cell_at net.cells k)
    unfolding next_value shows
    memory-S k h e =
        let c = cell_at net.cells k in
        let o = mem-looks (kinds net.cells) (length net.cells) k c e (ordered.looks k h) in
        let A : before_at F (two F net v U k) c.a ≡ now_at F s c.a = seen-before F net v U k c.a (omega (arith, o.0)) ∙ before-U c.a (omega (arith, o.0)) in
        let B : before_at F (two F net v U k) c.b ≡ now_at F s c.b = seen-before F net v U k c.b o.1 ∙ before-U c.b o.1 in
        let K : before_at F (two F net v U k) k ≡ now_at F s k = seen-before F net v U k k h ∙ before-U k h in
        rw (A, B, K, seen-T k c.a h o.0)

    latch-S : (k : ℕ) → k < length net.cells → shape_at net k ≡ k_latch
        → next_value F k_latch false net (two F net v U k) k (cell_at net.cells k) ≡ shows k_latch net (view_of F net s) (view_of F net T) k (cell_at net.cells k)
    unfolding next_value shows
    latch-S k h e =
        let c = cell_at net.cells k in
        let o = latch-looks (kinds net.cells) (length net.cells) k c e (ordered.looks k h) in
        let A : before_at F (two F net v U k) c.a ≡ now_at F s c.a = seen-before F net v U k c.a o.0 ∙ before-U c.a o.0 in
        let B : before_at F (two F net v U k) c.b ≡ now_at F s c.b = seen-before F net v U k c.b o.1 ∙ before-U c.b o.1 in
        let K : before_at F (two F net v U k) k ≡ now_at F s k = seen-before F net v U k k h ∙ before-U k h in
        rw (A, B, K)

    read-S : (k : ℕ) → k < length net.cells → shape_at net k ≡ k_read
        → next_value F k_read false net (two F net v U k) k (cell_at net.cells k) ≡ shows k_read net (view_of F net s) (view_of F net T) k (cell_at net.cells k)
    unfolding next_value shows
    read-S k h e =
        let c = cell_at net.cells k in
        let a = (cell_at net.cells c.a).delay in
        let o = read_looks (kinds net.cells) (length net.cells) k c e (ordered.looks k h) in
        let r = ordered.stands c.a (omega (arith, o.0)) o.2 in
        let f = feeds net.cells ordered c.a (omega (arith, o.0)) o.2 in
        let q : c.a ≡ array_at net.cells a = r.1 in
        let i = index (now_at F T c.b) in
        ap (λ (x : ℕ). element_now F net (two F net v U k) (element_of a x)) (seen-T k c.b h o.1)
        ∙ word_at a i k r.0 (omega arith) (omega (arith, q, o.0)) (omega arith)
        (seen-T k (cell_at net.cells (array_at net.cells a)).a h (omega (arith, q, o.0, ap (λ (m : ℕ). (cell_at net.cells m).a) q, f.0)))
        ∙ sym (words-S a i r.0 (omega arith))

    present-S : (k : ℕ) → k < length net.cells → now_at F T k ≡ shows (shape_at net k) net (view_of F net s) (view_of F net T) k (cell_at net.cells k)
    unfolding v
    present-S k h =
        let c = cell_at net.cells k in
        now-T k ∙ now-after F net v U room-U k h
        ∙ later-shows net (view_of F net s) (view_of F net T) (kinds net.cells) k (length net.cells) c (two F net v U k) (λ a l. seen-T k a h l)
        (shape_at net k) (ordered.looks k h)
        (λ e.
        let o = delay-looks (kinds net.cells) (length net.cells) k c e (ordered.looks k h) in
        let g : c.delay - 1 < kept F c.delay = omega (arith, o.0, kept-all F c.delay o.1) in
        seen-line F net v U k k c.delay (c.delay - 1) h g ∙ line-U k (c.delay - 1) g)
        (seen-held F net v U k k h ∙ held-U k) (seen-before F net v U k k h ∙ before-U k h)
        (λ e. two-high F net v U k k (remaining_byte F k) h (omega (arith, remaining-from F k)) (remaining-within F k) ∙ remaining-U k)
        (memory-S k h) (read-S k h) (latch-S k h)

    -- what cells show, and the words of arrays, whatever enters the lines
    pub step-present : (k : ℕ) → k < length net.cells
        → now_at F (step_state F net false s) k ≡ shows (shape_at net k) net (view_of F net s) (view_of F net (step_state F net false s)) k (cell_at net.cells k)
    step-present k h = rw step-S (present-S k h)

    pub step_words : (a i : ℕ) → a < 4 → i < 64
        → element_now F net (step_state F net false s) (64 * a + i)
        ≡ pick (falls (view_of F net s) (view_of F net (step_state F net false s)) (cell_at net.cells (array_at net.cells a)).a
        && eqb i (index (now_at F s (cell_at net.cells (array_at net.cells a + 1)).a)))
        (now_at F s (cell_at net.cells (array_at net.cells a)).b) (element_now F net s (64 * a + i))
    step_words a i la li = rw step-S (words-S a i la li)

    -- there is room still, and lines have bytes
    pub step-length : length (step_state F net false s) ≡ length s
    unfolding U
    step-length =
        ap length step-S ∙ length-counted F net S ∙ length_three F net v U (length net.cells) ∙ length-one F s (length net.cells)

    pub step-bytes : (k : ℕ) → k < length net.cells → shape_at net k ≡ k_delay → Line F (step_state F net false s) k (cell_at net.cells k).delay
    step-bytes k h e =
        rw step-S (kept_same S T k (cell_at net.cells k).delay F (λ j x y. same-T j (omega arith)) (line_kept F net v U room-U k h e (bytes-U k h e)))

    -- no line is crowded; on a full state none ever is
    module _ (vacant : (k : ℕ) → k < length net.cells → shape_at net k ≡ k_delay → Vacant F s k (high (now_at F T (cell_at net.cells k).a))) where
      next-T : Next F net (view_of F net s) (view_of F net T)
      next-T =
          record {
            present = present-S;
            past = λ k h. before-T k ∙ before-after F net v U k h ∙ before-U k h;
            holds = λ k h e. held-T k ∙ held_after F net v U room-U k h e
                ∙ rw (held-U k, before-U k h, now-T (cell_at net.cells k).a, now-T (cell_at net.cells k).b) refl;
            remaining = λ k h e. remaining-T k ∙ remaining-after F net v U room-U k h e ∙ rw (remaining-U k, now-T k) refl;
            newest = λ k h e. line-T k 0 (some k h e)
                ∙ line-new F net v U room-U k h e (bytes-U k h e) (delay-looks (kinds net.cells) (length net.cells) k (cell_at net.cells k) e (ordered.looks k h)).0
                ∙ ap (λ (x : ℕ). bit (high x)) (sym (now-T (cell_at net.cells k).a));
            older = λ k h e i g. line-T k (i + 1) g
                ∙ line-old F net v U room-U k h e (bytes-U k h e)
                (vacant-same s U k (cell_at net.cells k).delay F (own k) _ (rw (sym (now-T (cell_at net.cells k).a)) (vacant k h e))) i g ∙ line-U k i (omega arith);
            words = words-S;
          }
        where
          some : (k : ℕ) → k < length net.cells → shape_at net k ≡ k_delay → 0 < kept F (cell_at net.cells k).delay
          some k h e =
              let o = delay-looks (kinds net.cells) (length net.cells) k (cell_at net.cells k) e (ordered.looks k h) in
              omega (arith, o.0, kept-all F (cell_at net.cells k).delay o.1)

    -- any state with room and bytes in its lines moves so
    pub step-next : ((k : ℕ) → k < length net.cells → shape_at net k ≡ k_delay → Vacant F s k (high (now_at F (step_state F net false s) (cell_at net.cells k).a)))
        → Next F net (view_of F net s) (view_of F net (step_state F net false s))
    step-next vacant = rw step-S (next-T (λ k h e. rw (sym step-S) (vacant k h e)))
