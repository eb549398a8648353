-- A further instant keeps what a state holds: its values whatever enters the lines, and the lines where their pulses are apart.
-- Assumes nothing.
use Rattle.std.specs.Prelude.{true, List, ◌≡◌, ℕ, zero, suc, ◌+◌, ◌-◌, ◌*◌, ◌<◌, ◌≤◌, get_or}
use Rattle.std.proofs.Math.Path.{sym, ap, refl}
use Rattle.std.proofs.Common.{◌∙◌, arith}
use Rattle.std.proofs.Math.ListN.{length}
use Rattle.model.specs.declared.Format.{Format}
use Rattle.model.specs.Word.{bit, index, element_of}
use Rattle.model.specs.Circuit.{Netlist, cell_at, Sig, Values, high, level, delayed, remaining_before, merges, step_of, memory, latch, element, array_at, start_word, Obeys, k_start, k_delay, k_memory, k_latch, k_read}
use Rattle.model.specs.State.{instant_of, cell_size, base, state_size, element_now, now_at, before_at, held_at, remaining_byte, remaining_at, next_value, value, line_at, counted, step_state}
use Rattle.model.specs.CircuitPromises.{earlier, kept, Apart}
use Rattle.laws.specs.Circuit.Ordered.{kinds, Ordered}
use Rattle.laws.specs.Circuit.Unique.{feeds}
use Rattle.theory.specs.State.Arrays.{element-late, element-after}
use Rattle.laws.specs.State.Bytes.{get16-same}
use Rattle.laws.specs.State.Lines.{least, below, remaining-from, remaining-within, kept-all, Line, Vacant, line_same, kept_same, vacant-same}
use Rattle.laws.specs.State.Passes.{shape_at, count-now, one, length-one, one-high, before-one, one-behind, two, two-high, now-two, length_three, after, now-after, seen-before, seen-held, seen-line, before-after, line-old, line_kept, now-counted, length-counted, step_is}
use Rattle.theory.specs.State.Flight.{counted-holds}
use Rattle.theory.specs.State.Counters.{vacant-at}
use Rattle.theory.specs.State.Holding.{Joins, Clean, Body, Holding, delayed-more, later-is, delay-looks, mem-looks, latch-looks, read_looks, clean_after, now-is, held-is, remaining-is, newest-is}
use Rattle.theory.specs.State.Wires.{start-remaining, merge-level}

module _ (F : Format) where
  module _ (s : List ℕ) (n k : ℕ) where
    one-held : held_at F (one F s n) k ≡ held_at F s k
    unfolding held_at
    one-held = rw (one-high F s n k (base F k + 4) (omega arith) (omega (arith, least F)), one-high F s n k (base F k + 5) (omega arith) (omega (arith, least F)))

    own : (j : ℕ) → base F k + 6 ≤ j → j < base F k + cell_size F → get_or (one F s n) j 0 ≡ get_or s j 0
    own j x y = one-high F s n k j (omega arith) y

  one-clean : (net : Netlist) (s : List ℕ) (n k : ℕ) → Clean F net s k → Clean F net (one F s n) k
  one-clean net s n k d =
      record {
        rest = λ j x y z q. own s n k j x y ∙ d.rest j x y z q;
        bits = λ j x y. rw (one-high F s n k j (omega arith) (omega (arith, least F))) (d.bits j x y);
      }

  module _ (net : Netlist) (ordered : Ordered net.cells) (starts : Sig) (words : ℕ → ℕ) (W : Values) (obeys : Obeys net starts words W) where
    module _ (t : ℕ) (s : List ℕ) (H : Holding F net words W t s) (room : state_size F net ≤ length s) where
      U : List ℕ
      U = one F s (length net.cells)

      room-all : state_size F net ≤ length U
      unfolding U
      room-all = rw (length-one F s (length net.cells)) room

      room-U : base F (length net.cells) ≤ length U
      room-U = omega (arith, room-all)

      before-U : (j : ℕ) → j < length net.cells → before_at F U j ≡ W j t
      unfolding U
      before-U j h = before-one F s (length net.cells) j h (omega (arith, below F j (length net.cells) h)) ∙ H.body.present j h

      bytes-U : (k : ℕ) → k < length net.cells → shape_at net k ≡ k_delay → Line F U k (cell_at net.cells k).delay
      unfolding U
      bytes-U k h e = kept_same s U k (cell_at net.cells k).delay F (own s (length net.cells) k) (H.body.bytes k h e)

      line-U : (k : ℕ) → k < length net.cells → shape_at net k ≡ k_delay
          → (i : ℕ) → i < kept F (cell_at net.cells k).delay → line_at F net U k i ≡ bit (delayed i (level W (cell_at net.cells k).a) t)
      unfolding U
      line-U k h e i g = line_same s U k (cell_at net.cells k).delay F (own s (length net.cells) k) i g ∙ H.body.lines k h e i g

      held-U : (k : ℕ) → k < length net.cells → merges (cell_at net.cells k).kind ≡ true
          → Joins F (step_of net.pulse (cell_at net.cells k).kind) W (cell_at net.cells k) U k (suc t)
      unfolding U
      held-U k h e =
          record {
            held = one-held s (length net.cells) k ∙ H.body.held k h e;
            was = ap high (before-U k h) ∙ merge-level net starts words W obeys k h e t;
          }

      -- and what remains of the start
      remaining-U : (k : ℕ) → k < length net.cells → shape_at net k ≡ k_start → remaining_at F U k ≡ remaining_before net.pulse (level W k) (suc t)
      unfolding U
      remaining-U k h e = own s (length net.cells) k (remaining_byte F k) (remaining-from F k) (remaining-within F k) ∙ H.body.remaining k h e

      element-U : (n : ℕ) → element_now F net U n ≡ element_now F net s n
      unfolding U
      element-U n = get16-same s (one F s (length net.cells)) _ (one-behind F s (length net.cells) _ (omega arith)) (one-behind F s (length net.cells) _ (omega arith))

      v : List ℕ → ℕ → ℕ
      v = value F net (starts (suc t))

      step-delay : (k : ℕ) → k < length net.cells → shape_at net k ≡ k_delay
          → line_at F net (two F net v U k) k ((cell_at net.cells k).delay - 1) ≡ bit (delayed (cell_at net.cells k).delay (level W (cell_at net.cells k).a) (suc t))
      step-delay k h e =
          let c = cell_at net.cells k in
          let o = delay-looks (kinds net.cells) (length net.cells) k c e (ordered.looks k h) in
          let d : c.delay - 1 + 1 ≡ c.delay = omega (arith, o.0) in
          let m : c.delay - 1 < kept F c.delay = omega (arith, o.0, kept-all F c.delay o.1) in
          seen-line F net v U k k c.delay (c.delay - 1) h m
          ∙ line-U k h e (c.delay - 1) m
          ∙ ap bit (sym (delayed-more (c.delay - 1) (level W c.a) t) ∙ ap (λ (n : ℕ). delayed n (level W c.a) (suc t)) d)

      step-memory : (k : ℕ) → k < length net.cells → ((a : ℕ) → a < k → now_at F (two F net v U k) a ≡ W a (suc t)) → shape_at net k ≡ k_memory
          → next_value F k_memory (starts (suc t)) net (two F net v U k) k (cell_at net.cells k) ≡ memory (start_word net.cells words k) W k (cell_at net.cells k) (suc t)
      unfolding next_value memory
      step-memory k h lower e =
          let c = cell_at net.cells k in
          let o = mem-looks (kinds net.cells) (length net.cells) k c e (ordered.looks k h) in
          let A : before_at F (two F net v U k) c.a ≡ W c.a t = seen-before F net v U k c.a (omega (arith, o.0)) ∙ before-U c.a (omega (arith, o.0)) in
          let B : before_at F (two F net v U k) c.b ≡ W c.b t = seen-before F net v U k c.b o.1 ∙ before-U c.b o.1 in
          let K : before_at F (two F net v U k) k ≡ W k t = seen-before F net v U k k h ∙ before-U k h in
          rw (A, B, K, lower c.a o.0)

      step-latch : (k : ℕ) → k < length net.cells → shape_at net k ≡ k_latch
          → next_value F k_latch (starts (suc t)) net (two F net v U k) k (cell_at net.cells k) ≡ latch W k (cell_at net.cells k) (suc t)
      unfolding next_value latch
      step-latch k h e =
          let c = cell_at net.cells k in
          let o = latch-looks (kinds net.cells) (length net.cells) k c e (ordered.looks k h) in
          let A : before_at F (two F net v U k) c.a ≡ W c.a t = seen-before F net v U k c.a o.0 ∙ before-U c.a o.0 in
          let B : before_at F (two F net v U k) c.b ≡ W c.b t = seen-before F net v U k c.b o.1 ∙ before-U c.b o.1 in
          let K : before_at F (two F net v U k) k ≡ W k t = seen-before F net v U k k h ∙ before-U k h in
          rw (A, B, K)

      -- an array's word is the next one once the pass is past the array's cell
      step-element : (a i n : ℕ) → a < 4 → i < 64 → array_at net.cells a < n → n ≤ length net.cells
          → now_at F (two F net v U n) (cell_at net.cells (array_at net.cells a)).a ≡ W (cell_at net.cells (array_at net.cells a)).a (suc t)
          → element_now F net (two F net v U n) (64 * a + i) ≡ element net.cells words W (array_at net.cells a) i (suc t)
      unfolding element
      step-element a i n la li h g now =
          let r = ordered.arrays a la in
          let f = feeds net.cells ordered (array_at net.cells a) (omega (arith, r.0)) r.1 in
          element-late F net ordered a i la li v U room-all n h g
          ∙ rw (
            now,
            before-U (cell_at net.cells (array_at net.cells a)).a (omega (arith, r.0, f.0)),
            before-U (cell_at net.cells (array_at net.cells a)).b f.1,
            before-U (cell_at net.cells (array_at net.cells a + 1)).a f.2,
            element-U (64 * a + i),
            H.body.elements a i la li,
          )

      step-read : (k : ℕ) → k < length net.cells → ((a : ℕ) → a < k → now_at F (two F net v U k) a ≡ W a (suc t)) → shape_at net k ≡ k_read
          → next_value F k_read (starts (suc t)) net (two F net v U k) k (cell_at net.cells k) ≡ element net.cells words W (cell_at net.cells k).a (index (W (cell_at net.cells k).b (suc t))) (suc t)
      unfolding next_value
      step-read k h lower e =
          let c = cell_at net.cells k in
          let a = (cell_at net.cells c.a).delay in
          let o = read_looks (kinds net.cells) (length net.cells) k c e (ordered.looks k h) in
          let i = index (W c.b (suc t)) in
          let r = ordered.stands c.a (omega (arith, o.0)) o.2 in
          let f = feeds net.cells ordered c.a (omega (arith, o.0)) o.2 in
          let q : c.a ≡ array_at net.cells a = r.1 in
          ap (λ (w : ℕ). element_now F net (two F net v U k) (element_of a w)) (lower c.b o.1)
          ∙ step-element a i k r.0 (omega arith) (omega (arith, q, o.0)) (omega arith)
          (lower (cell_at net.cells (array_at net.cells a)).a (omega (arith, q, o.0, ap (λ (m : ℕ). (cell_at net.cells m).a) q, f.0)))
          ∙ ap (λ (m : ℕ). element net.cells words W m i (suc t)) (sym q)

      step-first : (k : ℕ) → k < length net.cells → ((a : ℕ) → a < k → now_at F (two F net v U k) a ≡ W a (suc t)) → v (two F net v U k) k ≡ W k (suc t)
      unfolding Obeys v
      step-first k h lower =
          later-is F net starts (element net.cells words W) W (kinds net.cells) (suc t) (start_word net.cells words k) k (length net.cells) (cell_at net.cells k) (two F net v U k) lower
          (shape_at net k) refl (ordered.looks k h) (step-delay k h) (λ e.
          let j = held-U k h e in
          record { held = seen-held F net v U k k h ∙ j.held; was = ap high (seen-before F net v U k k h) ∙ j.was })
          (λ e.
          two-high F net v U k k (remaining_byte F k) h (omega (arith, remaining-from F k)) (remaining-within F k) ∙ remaining-U k h e
          ∙ start-remaining net starts words W obeys k h e (suc t))
          (step-memory k h lower) (step-latch k h) (step-read k h lower)
          ∙ sym (obeys k h (suc t))

      abbrev S : List ℕ
      S = after F net v U

      step-elements : (a i : ℕ) → a < 4 → i < 64 → element_now F net S (64 * a + i) ≡ element net.cells words W (array_at net.cells a) i (suc t)
      step-elements a i la li =
          let r = ordered.arrays a la in
          let f = feeds net.cells ordered (array_at net.cells a) (omega (arith, r.0)) r.1 in
          let clock = (cell_at net.cells (array_at net.cells a)).a in
          let b : clock < length net.cells = omega (arith, r.0, f.0) in
          element-after F net ordered a i la li v U room-all
          ∙ step-element a i (length net.cells) la li (omega (arith, r.0)) (omega arith)
          (now-two F net v U (length net.cells) clock b b (omega (arith, room-U, below F clock (length net.cells) b)) ∙ sym (now-after F net v U room-U clock b)
          ∙ now-is F net ordered W (suc t) v U room-U step-first clock b)

      step-is-S : step_state F net (starts (suc t)) s ≡ counted F net S
      unfolding v U
      step-is-S = step_is F net (starts (suc t)) s

      length-S : length S ≡ length s
      unfolding U
      length-S = length_three F net v U (length net.cells) ∙ length-one F s (length net.cells)

      step-instant : suc t ≤ 1000000 → instant_of (counted F net S) ≡ suc t
      step-instant l = ap (λ (z : List ℕ). instant_of z) (sym step-is-S) ∙ count-now F net (starts (suc t)) s (omega arith) ∙ omega (arith, H.instant (omega arith))

      -- the values are the next ones, whatever enters the lines
      pub step-now : (k : ℕ) → k < length net.cells → now_at F (step_state F net (starts (suc t)) s) k ≡ W k (suc t)
      step-now k h =
          rw step-is-S
          (now-counted F net S k
          ∙ now-is F net ordered W (suc t) v U room-U step-first k h)

      pub step-length : length (step_state F net (starts (suc t)) s) ≡ length s
      step-length = ap length step-is-S ∙ length-counted F net S ∙ length-S

      -- and where pulses are apart, so are the lines
      module _ (apart : Apart F net W (suc t)) where
        vacant : (k : ℕ) → k < length net.cells → shape_at net k ≡ k_delay → Vacant F U k (high (now_at F S (cell_at net.cells k).a))
        unfolding U
        vacant k h e =
            let o = delay-looks (kinds net.cells) (length net.cells) k (cell_at net.cells k) e (ordered.looks k h) in
            vacant-same s U k (cell_at net.cells k).delay F (own s (length net.cells) k) _
            (rw (now-is F net ordered W (suc t) v U room-U step-first (cell_at net.cells k).a o.2) (vacant-at net ordered words W t s F H apart k h e))

        step_lines : (k : ℕ) → k < length net.cells → shape_at net k ≡ k_delay
            → (i : ℕ) → i < kept F (cell_at net.cells k).delay → line_at F net S k i ≡ bit (delayed i (level W (cell_at net.cells k).a) (suc t))
        step_lines k h e zero g = newest-is F net ordered W (suc t) v U room-U step-first k h e (bytes-U k h e)
        step_lines k h e (suc i) g =
            let z : suc i ≡ i + 1 = omega arith in
            rw z
            (line-old F net v U room-U k h e (bytes-U k h e) (vacant k h e) i (omega arith) ∙ line-U k h e i (omega arith)
            ∙ ap bit (sym (delayed-more i (level W (cell_at net.cells k).a) t)))

        step-body : Body F net words W (suc t) S
        unfolding earlier
        step-body =
            record {
              present = now-is F net ordered W (suc t) v U room-U step-first;
              past = λ k h. before-after F net v U k h ∙ before-U k h;
              held = λ k h e. held-is F net ordered W (suc t) v U room-U step-first k h e (held-U k h e);
              remaining = λ k h e. remaining-is F net ordered W (suc t) v U room-U step-first k h e (remaining-U k h e);
              lines = step_lines;
              elements = step-elements;
              bytes = λ k h e. line_kept F net v U room-U k h e (bytes-U k h e);
              clean = λ k h. clean_after F net v U room-U k h (clean-U k h);
            }
          where
            clean-U : (k : ℕ) → k < length net.cells → Clean F net U k
            clean-U k h = unfold U in one-clean net s (length net.cells) k (H.body.clean k h)

        pub step-holds : Holding F net words W (suc t) (step_state F net (starts (suc t)) s)
        step-holds = rw step-is-S (counted-holds F net ordered words W (suc t) S (omega (arith, length-S)) step-instant step-body)
