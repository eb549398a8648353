-- Beginning establishes what a state holds at instant 0. Assumes nothing.
use Rattle.std.specs.Prelude.{Bool, true, false, List, ◌++◌, ◌≡◌, get_or, drop, replicate, eqb}
use Rattle.std.proofs.Math.Path.{refl, sym, ap}
use Rattle.std.proofs.Common.{◌∙◌, length-append, length-drop, get_or-drop, drop_at, eqb-true}
use Prim.Native.Nat.{ℕ, zero, suc, ◌+◌, ◌-◌, ◌*◌, ◌%◌, ◌<◌, ◌≤◌}
use native.Mathlib.Omega.{arith}
use Rattle.std.proofs.Math.ListN.{length, length-replicate}
use Rattle.std.proofs.lemmas.Bool.{eqb-false}
use Rattle.laws.specs.State.Bytes.{cleared-zero}
use Rattle.laws.specs.State.Passes.{length-counted, begin-is, begin-instant}
use Rattle.model.specs.declared.Cell.{Cell}
use Rattle.model.specs.declared.Format.{Format}
use Rattle.model.specs.Word.{pick, bit, index, element_of, element_word, get16, bytes16}
use Rattle.model.specs.Circuit.{Netlist, cell_at, Sig, Values, level, high, delayed, remaining_before, merged_before, step_of, memory, latch, Elements, element, array_at, equation, start_word, Obeys, Shape, k_delay, k_memory, k_latch, k_read}
use Rattle.model.specs.State.{instant_of, word_bytes, cell_size, base, state_size, element_now, now_at, before_at, held_at, remaining_byte, remaining_at, next_value, value, first_value, line_at, counted, begin_state}
use Rattle.model.specs.CircuitPromises.{earlier, kept}
use Rattle.laws.specs.Circuit.Ordered.{kinds, Ordered}
use Rattle.laws.specs.Circuit.Shapes.{memory-kind, memory-shape}
use Rattle.laws.specs.Circuit.Unique.{feeds}
use Rattle.theory.specs.State.Arrays.{element-late, element-after}
use Rattle.laws.specs.State.Lines.{least, below, remaining-from, remaining-within, kept-all, Line, line-empty, kept-empty, vacant-empty}
use Rattle.laws.specs.State.Passes.{shape_at, two, two-high, length_three, after, seen-before, seen-held, seen-line, before-after, line-old, line_kept}
use Rattle.theory.specs.State.Flight.{counted-holds}
use Rattle.theory.specs.State.Holding.{Joins, Clean, Body, Holding, delayed-early, later-is, delay-looks, latch-looks, read_looks, clean_after, now-is, held-is, remaining-is, newest-is}

-- the first m bytes are zero, then others
abbrev cleared : ℕ → List ℕ → List ℕ
cleared m s = replicate m 0 ++ s

module _ (m : ℕ) (s : List ℕ) where
  zero-at : (j : ℕ) → j < m → get_or (cleared m s) j 0 ≡ 0
  zero-at j g = cleared-zero m s j g

  behind-at : (j : ℕ) → get_or (cleared m s) (m + j) 0 ≡ get_or s j 0
  behind-at j =
      sym (get_or-drop m (cleared m s) j 0) ∙ ap (λ (l : List ℕ). get_or l j 0) (drop_at (replicate m 0) s m (length-replicate {A = ℕ} m 0))

-- the words that are written out
pub length-words : (words : ℕ → ℕ) (x n : ℕ) → length (word_bytes words x n) ≡ 2 * n
unfolding word_bytes bytes16
length-words words x zero = refl
length-words words x (suc n) = omega (arith, length-words words (x + 1) n)

word-written : (words : ℕ → ℕ) (x n : ℕ) (rest : List ℕ) (i : ℕ) → i < n → get16 (word_bytes words x n ++ rest) (2 * i) ≡ words (x + i)
unfolding word_bytes bytes16 get16
word-written words x zero rest i l = absurd (omega arith)
word-written words x (suc n) rest zero l =
    let z : x + 0 ≡ x = omega arith in
    rw z (omega arith)
word-written words x (suc n) rest (suc i) l =
    let p : 2 * suc i ≡ suc (suc (2 * i)) = omega arith in
    let q : suc (suc (2 * i)) + 1 ≡ suc (suc (2 * i + 1)) = omega arith in
    let r : x + 1 + i ≡ x + suc i = omega arith in
    rw (p, q) (word-written words (x + 1) n rest i (omega arith) ∙ ap words r)

memory-equation : (w : ℕ) (sh : Shape) (starts : Sig) (first : ℕ) (E : Elements) (W : Values) (k : ℕ) (c : Cell) → sh ≡ k_memory
    → equation w sh starts first E W k c 0 ≡ first
unfolding equation memory
memory-equation w sh starts first E W k c e = rw e

module _ (F : Format) where
  -- a cell among the zeros
  module _ (m : ℕ) (s : List ℕ) (k : ℕ) (g : base F k + cell_size F ≤ m) where
    zeros : (j : ℕ) → base F k ≤ j → j < base F k + cell_size F → get_or (cleared m s) j 0 ≡ 0
    zeros j x y = zero-at m s j (omega arith)

    zero_held : held_at F (cleared m s) k ≡ record { a = false; b = false }
    unfolding held_at
    zero_held = rw (zeros (base F k + 4) (omega arith) (omega (arith, least F)), zeros (base F k + 5) (omega arith) (omega (arith, least F)))

    zero-before : before_at F (cleared m s) k ≡ 0
    unfolding get16
    zero-before =
        omega (arith, zeros (base F k + 2) (omega arith) (omega (arith, least F)), zeros (base F k + 2 + 1) (omega arith) (omega (arith, least F)))

    zero-clean : (net : Netlist) → Clean F net (cleared m s) k
    zero-clean net =
        record {
          rest = λ j x y z q. zeros j (omega arith) y;
          bits = λ j x y. rw (zeros j (omega arith) (omega (arith, least F))) (omega arith);
        }

  module _ (net : Netlist) (ordered : Ordered net.cells) (starts : Sig) (words : ℕ → ℕ) (W : Values) (obeys : Obeys net starts words W) (pulse : starts 0 ≡ true)
      (s : List ℕ) (room : state_size F net ≤ length s) where
    -- the elements' start words and what is lent past the state
    tail : List ℕ
    tail = word_bytes words 16 256 ++ drop (state_size F net) s

    Z : List ℕ
    Z = cleared (base F (length net.cells)) tail

    length-Z : length Z ≡ length s
    unfolding Z tail
    length-Z = simp (length-append, length-replicate, length-drop) (omega (arith, length-words words 16 256))

    room-blank : state_size F net ≤ length Z
    room-blank = omega (arith, length-Z)

    room-Z : base F (length net.cells) ≤ length Z
    room-Z = omega (arith, length-Z)

    element-Z : (n : ℕ) → n < 256 → element_now F net Z n ≡ words (16 + n)
    unfolding Z tail get16
    element-Z n l =
        let z : base F (length net.cells) + 2 * n + 1 ≡ base F (length net.cells) + (2 * n + 1) = omega arith in
        rw (z, behind-at (base F (length net.cells)) tail (2 * n), behind-at (base F (length net.cells)) tail (2 * n + 1))
        (word-written words 16 256 (drop (state_size F net) s) n l)

    w : List ℕ → ℕ → ℕ
    w = first_value F net words

    own : (k : ℕ) → k < length net.cells → (j : ℕ) → base F k + 6 ≤ j → j < base F k + cell_size F → get_or Z j 0 ≡ 0
    unfolding Z
    own k h j x y = zeros (base F (length net.cells)) tail k (below F k (length net.cells) h) j (omega arith) y

    bytes-Z : (k : ℕ) → k < length net.cells → Line F Z k (cell_at net.cells k).delay
    bytes-Z k h = kept-empty Z k (cell_at net.cells k).delay F (own k h)

    line-Z : (k : ℕ) → k < length net.cells → (i : ℕ) → i < kept F (cell_at net.cells k).delay → line_at F net Z k i ≡ 0
    line-Z k h i g = line-empty Z k (cell_at net.cells k).delay F (own k h) i g

    held-Z : (k : ℕ) → k < length net.cells → Joins F (step_of net.pulse (cell_at net.cells k).kind) W (cell_at net.cells k) Z k 0
    unfolding Z merged_before
    held-Z k h =
        record {
          held = zero_held (base F (length net.cells)) tail k (below F k (length net.cells) h);
          was = ap high (zero-before (base F (length net.cells)) tail k (below F k (length net.cells) h));
        }

    remaining-Z : (k : ℕ) → k < length net.cells → remaining_at F Z k ≡ 0
    remaining-Z k h = own k h (remaining_byte F k) (remaining-from F k) (remaining-within F k)

    before-Z : (k : ℕ) → k < length net.cells → before_at F Z k ≡ 0
    unfolding Z
    before-Z k h = zero-before (base F (length net.cells)) tail k (below F k (length net.cells) h)

    early : (d : ℕ) (x : Sig) → 1 ≤ d → 0 ≡ bit (delayed d x 0)
    unfolding bit
    early d x l = ap bit (sym (delayed-early d x 0 (omega arith)))

    begin-delay : (k : ℕ) → k < length net.cells → shape_at net k ≡ k_delay
        → line_at F net (two F net w Z k) k ((cell_at net.cells k).delay - 1) ≡ bit (delayed (cell_at net.cells k).delay (level W (cell_at net.cells k).a) 0)
    begin-delay k h e =
        let c = cell_at net.cells k in
        let o = delay-looks (kinds net.cells) (length net.cells) k c e (ordered.looks k h) in
        let m : c.delay - 1 < kept F c.delay = omega (arith, o.0, kept-all F c.delay o.1) in
        seen-line F net w Z k k c.delay (c.delay - 1) h m
        ∙ line-Z k h (c.delay - 1) m
        ∙ early c.delay (level W c.a) o.0

    -- no clock falls: an array's words are the start words
    begin-element : (a i n : ℕ) → a < 4 → i < 64 → array_at net.cells a < n → n ≤ length net.cells
        → element_now F net (two F net w Z n) (64 * a + i) ≡ element net.cells words W (array_at net.cells a) i 0
    unfolding element element_word
    begin-element a i n la li h g =
        let r = ordered.arrays a la in
        let f = feeds net.cells ordered (array_at net.cells a) (omega (arith, r.0)) r.1 in
        let z : 16 + (64 * a + i) ≡ 16 + (64 * a + i % 64) = omega arith in
        element-late F net ordered a i la li w Z room-blank n h g
        ∙ rw (before-Z (cell_at net.cells (array_at net.cells a)).a (omega (arith, r.0, f.0)), r.2) (element-Z (64 * a + i) (omega arith) ∙ ap words z)

    -- no control was 1: a latch is 0
    begin-latch : (k : ℕ) → k < length net.cells → shape_at net k ≡ k_latch
        → next_value F k_latch (starts 0) net (two F net w Z k) k (cell_at net.cells k) ≡ latch W k (cell_at net.cells k) 0
    unfolding next_value latch
    begin-latch k h e =
        let c = cell_at net.cells k in
        let o = latch-looks (kinds net.cells) (length net.cells) k c e (ordered.looks k h) in
        rw (seen-before F net w Z k c.a o.0 ∙ before-Z c.a o.0, seen-before F net w Z k k h ∙ before-Z k h)

    begin-read : (k : ℕ) → k < length net.cells → ((a : ℕ) → a < k → now_at F (two F net w Z k) a ≡ W a 0) → shape_at net k ≡ k_read
        → next_value F k_read (starts 0) net (two F net w Z k) k (cell_at net.cells k) ≡ element net.cells words W (cell_at net.cells k).a (index (W (cell_at net.cells k).b 0)) 0
    unfolding next_value
    begin-read k h lower e =
        let c = cell_at net.cells k in
        let a = (cell_at net.cells c.a).delay in
        let o = read_looks (kinds net.cells) (length net.cells) k c e (ordered.looks k h) in
        let i = index (W c.b 0) in
        let r = ordered.stands c.a (omega (arith, o.0)) o.2 in
        let q : c.a ≡ array_at net.cells a = r.1 in
        ap (λ (x : ℕ). element_now F net (two F net w Z k) (element_of a x)) (lower c.b o.1)
        ∙ begin-element a i k r.0 (omega arith) (omega (arith, q, o.0)) (omega arith)
        ∙ ap (λ (m : ℕ). element net.cells words W m i 0) (sym q)

    begin-first : (k : ℕ) → k < length net.cells → ((a : ℕ) → a < k → now_at F (two F net w Z k) a ≡ W a 0) → w (two F net w Z k) k ≡ W k 0
    unfolding w Obeys
    begin-first k h lower = go (eqb kind 40) refl ∙ sym (obeys k h 0)
      where
        kind : ℕ
        kind = (cell_at net.cells k).kind

        go : (q : Bool) → eqb kind 40 ≡ q
            → pick q (start_word net.cells words k) (value F net true (two F net w Z k) k)
            ≡ equation net.pulse (shape_at net k) starts (start_word net.cells words k) (element net.cells words W) W k (cell_at net.cells k) 0
        go true f =
            sym (memory-equation net.pulse (shape_at net k) starts (start_word net.cells words k) (element net.cells words W) W k (cell_at net.cells k) (memory-shape kind (eqb-true kind 40 f)))
        go false f =
            ap (λ (x : Bool). value F net x (two F net w Z k) k) (sym pulse)
            ∙ later-is F net starts (element net.cells words W) W (kinds net.cells) 0 (start_word net.cells words k) k (length net.cells) (cell_at net.cells k) (two F net w Z k) lower
            (shape_at net k) refl (ordered.looks k h) (begin-delay k h) (λ z.
            let j = held-Z k h in
            record { held = seen-held F net w Z k k h ∙ j.held; was = ap high (seen-before F net w Z k k h) ∙ j.was })
            (λ z.
            unfold remaining_before in
            two-high F net w Z k k (remaining_byte F k) h (omega (arith, remaining-from F k)) (remaining-within F k) ∙ remaining-Z k h)
            (λ z. absurd (eqb-false kind 40 f (memory-kind kind z))) (begin-latch k h) (begin-read k h lower)

    abbrev B : List ℕ
    B = after F net w Z

    begin-is-B : begin_state F net words s ≡ counted F net B
    unfolding w Z tail
    begin-is-B = begin-is F net words s

    begin-elements : (a i : ℕ) → a < 4 → i < 64 → element_now F net B (64 * a + i) ≡ element net.cells words W (array_at net.cells a) i 0
    begin-elements a i la li =
        element-after F net ordered a i la li w Z room-blank
        ∙ begin-element a i (length net.cells) la li (omega (arith, (ordered.arrays a la).0)) (omega arith)

    begin-lines : (k : ℕ) → k < length net.cells → shape_at net k ≡ k_delay → (i : ℕ) → i < kept F (cell_at net.cells k).delay
        → line_at F net B k i ≡ bit (delayed i (level W (cell_at net.cells k).a) 0)
    begin-lines k h e zero g = newest-is F net ordered W 0 w Z room-Z begin-first k h e (bytes-Z k h)
    begin-lines k h e (suc i) g =
        let z : suc i ≡ i + 1 = omega arith in
        rw z
        (line-old F net w Z room-Z k h e (bytes-Z k h) (vacant-empty Z k (cell_at net.cells k).delay F (own k h) _) i (omega arith) ∙ line-Z k h i (omega arith)
        ∙ early (i + 1) (level W (cell_at net.cells k).a) (omega arith))

    length-B : length B ≡ length s
    length-B = length_three F net w Z (length net.cells) ∙ length-Z

    begin-body : Body F net words W 0 B
    unfolding earlier
    begin-body =
        record {
          present = now-is F net ordered W 0 w Z room-Z begin-first;
          past = λ k h. before-after F net w Z k h ∙ before-Z k h;
          held = λ k h e. held-is F net ordered W 0 w Z room-Z begin-first k h e (held-Z k h);
          remaining = λ k h e. remaining-is F net ordered W 0 w Z room-Z begin-first k h e (unfold remaining_before in remaining-Z k h);
          lines = begin-lines;
          elements = begin-elements;
          bytes = λ k h e. line_kept F net w Z room-Z k h e (bytes-Z k h);
          clean = λ k h. clean_after F net w Z room-Z k h (clean-Z k h);
        }
      where
        clean-Z : (k : ℕ) → k < length net.cells → Clean F net Z k
        clean-Z k h = unfold Z in zero-clean (base F (length net.cells)) tail k (below F k (length net.cells) h) net

    pub begin-holds : Holding F net words W 0 (begin_state F net words s)
    begin-holds =
        rw begin-is-B
        (counted-holds F net ordered words W 0 B (omega (arith, length-B))
        (λ l. ap (λ (z : List ℕ). instant_of z) (sym begin-is-B) ∙ begin-instant F net words s) begin-body)

    pub begin-length : length (begin_state F net words s) ≡ length s
    begin-length = ap length begin-is-B ∙ length-counted F net B ∙ length-B
