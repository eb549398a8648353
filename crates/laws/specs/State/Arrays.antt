-- What an instant makes of the arrays' words, on the bytes of a state: an array takes a word in where its clock falls, and nothing else changes one.
-- Assumes nothing.
use Rattle.std.specs.Prelude.{◌≡◌, true, false, ◌&&◌, List, eqb, length, get_or}
use Rattle.std.proofs.Math.Path.{refl}
use Rattle.std.proofs.Common.{sym, ◌∙◌, ap, inr, arith, eqb-true}
use Rattle.std.proofs.Math.Bool.{Bool, not}
use Prim.Native.Nat.{ℕ, ◌+◌, ◌*◌, ◌<◌, ◌≤◌}
use Rattle.std.proofs.lemmas.Bool.{eqb-false}
use Rattle.model.specs.declared.Format.{Format}
use Rattle.model.specs.Word.{pick, index, element_of, put16}
use Rattle.model.specs.Circuit.{Netlist, cell_at, high, array_at}
use Rattle.model.specs.State.{cell_size, base, state_size, element_base, element_now, now_at, before_at, stored, shown}
use Rattle.laws.specs.Refusals.Laws.{by_bool, and-true}
use Rattle.laws.specs.Circuit.Ordered.{Ordered}
use Rattle.laws.specs.Circuit.Unique.{feeds}
use Rattle.laws.specs.State.Bytes.{put16-other, put16-same, get16-same, up_to-frame, up_to-at}
use Rattle.laws.specs.State.Lines.{below, behind}
use Rattle.laws.specs.State.Passes.{shown-put, two, length_two, now-two, seen-before, after, after-behind}

module _ (F : Format) where
  -- the array a, whose kind 42 is cell j, and its word i
  module _ (net : Netlist) (ordered : Ordered net.cells) (a i : ℕ) (low : a < 4) (in_array : i < 64) where
    abbrev j : ℕ
    j = array_at net.cells a

    within : j < length net.cells
    within = omega (arith, (ordered.arrays a low).0)

    kind : (cell_at net.cells j).kind ≡ 42
    kind = (ordered.arrays a low).1

    number : (cell_at net.cells j).delay ≡ a
    number = (ordered.arrays a low).2

    -- what a cell does to the word: its own takes one in, and the others leave it
    abbrev takes : List ℕ → ℕ
    takes s =
        pick ((high (before_at F s (cell_at net.cells j).a) && not (high (now_at F s (cell_at net.cells j).a))) && eqb i (index (before_at F s (cell_at net.cells (j + 1)).a)))
        (before_at F s (cell_at net.cells j).b) (element_now F net s (64 * a + i))

    stored-own : (s : List ℕ) → state_size F net ≤ length s → element_now F net (stored F net s j) (64 * a + i) ≡ takes s
    unfolding stored
    stored-own s room = rw (kind, number) (go (high (before_at F s (cell_at net.cells j).a) && not (high (now_at F s (cell_at net.cells j).a))))
      where
        n : ℕ
        n = element_of a (before_at F s (cell_at net.cells (j + 1)).a)

        v : ℕ
        v = before_at F s (cell_at net.cells j).b

        go : (b : Bool) → element_now F net (pick b (put16 s (element_base F net n) v) s) (64 * a + i)
            ≡ pick (b && eqb i (index (before_at F s (cell_at net.cells (j + 1)).a))) v (element_now F net s (64 * a + i))
        go false = refl
        go true =
            by_bool (eqb i (index (before_at F s (cell_at net.cells (j + 1)).a)))
            (λ e.
            let q : 64 * a + i ≡ n = omega (arith, eqb-true i (index (before_at F s (cell_at net.cells (j + 1)).a)) e) in
            rw (e, q) (put16-same s (element_base F net n) v (omega arith)))
            (λ e.
            let q : i ≡ index (before_at F s (cell_at net.cells (j + 1)).a) → ⊥ = eqb-false i (index (before_at F s (cell_at net.cells (j + 1)).a)) e in
            rw e
            (get16-same s (put16 s (element_base F net n) v) (element_base F net (64 * a + i))
            (put16-other s (element_base F net n) v (element_base F net (64 * a + i)) (λ z. q (omega arith)) (λ z. omega arith))
            (put16-other s (element_base F net n) v (element_base F net (64 * a + i) + 1) (λ z. omega arith) (λ z. q (omega arith)))))

    stored_other : (s : List ℕ) (m b : ℕ) → m < length net.cells → (m ≡ j → ⊥) → element_base F net (64 * a + i) ≤ b → b < element_base F net (64 * a + i) + 2
        → get_or (stored F net s m) b 0 ≡ get_or s b 0
    unfolding stored
    stored_other s m b l n x y = go (eqb (cell_at net.cells m).kind 42 && falls) refl
      where
        falls : Bool
        falls = high (before_at F s (cell_at net.cells m).a) && not (high (now_at F s (cell_at net.cells m).a))

        w : ℕ
        w = before_at F s (cell_at net.cells (m + 1)).a

        go : (q : Bool) → (eqb (cell_at net.cells m).kind 42 && falls) ≡ q
            → get_or (pick q (put16 s (element_base F net (element_of (cell_at net.cells m).delay w)) (before_at F s (cell_at net.cells m).b)) s) b 0 ≡ get_or s b 0
        go false e = refl
        go true e =
            let o = ordered.stands m l (eqb-true _ _ (and-true (eqb (cell_at net.cells m).kind 42) falls e).0) in
            let d : (cell_at net.cells m).delay ≡ a → ⊥ = λ q. n (o.1 ∙ ap (array_at net.cells) q) in
            put16-other s _ _ b (λ z. omega (arith, d)) (λ z. omega (arith, d))

    -- In the second pass ---------------------------------------------------------------------------------------------------------------

    module _ (v : List ℕ → ℕ → ℕ) (u : List ℕ) (room : state_size F net ≤ length u) where
      -- before the array's own cell the word is as it was
      early : (n b : ℕ) → n ≤ j → element_base F net (64 * a + i) ≤ b → b < element_base F net (64 * a + i) + 2 → get_or (two F net v u n) b 0 ≡ get_or u b 0
      unfolding two
      early n b h x y =
          up_to-frame (shown F net v) b n u
          (λ t m l. shown-put F net v t m b (inr (omega (arith, behind F m (length net.cells) (omega (arith, within))))) ∙ stored_other t m b (omega (arith, within)) (λ e. omega arith) x y)

      -- from then on it is as that cell left it
      late : (n b : ℕ) → j < n → n ≤ length net.cells → element_base F net (64 * a + i) ≤ b → b < element_base F net (64 * a + i) + 2
          → get_or (two F net v u n) b 0 ≡ get_or (stored F net (two F net v u j) j) b 0
      unfolding two
      late n b h g x y =
          up_to-at (shown F net v) b j n u
          (λ t m l e. shown-put F net v t m b (inr (omega (arith, behind F m (length net.cells) (omega arith)))) ∙ stored_other t m b (omega arith) e x y) h
          ∙ shown-put F net v (two F net v u j) j b (inr (omega (arith, behind F j (length net.cells) within)))

      element-early : (n : ℕ) → n ≤ j → element_now F net (two F net v u n) (64 * a + i) ≡ element_now F net u (64 * a + i)
      element-early n h = get16-same u (two F net v u n) _ (early n _ h (omega arith) (omega arith)) (early n _ h (omega arith) (omega arith))

      -- so what is seen of it from there on is this
      pub element-late : (n : ℕ) → j < n → n ≤ length net.cells
          → element_now F net (two F net v u n) (64 * a + i)
          ≡ pick
          ((high (before_at F u (cell_at net.cells j).a) && not (high (now_at F (two F net v u n) (cell_at net.cells j).a))) && eqb i (index (before_at F u (cell_at net.cells (j + 1)).a)))
          (before_at F u (cell_at net.cells j).b) (element_now F net u (64 * a + i))
      element-late n h g =
          let f = feeds net.cells ordered j within kind in
          let low : (cell_at net.cells j).a < length net.cells = omega (arith, within, f.0) in
          let fits : base F (cell_at net.cells j).a + cell_size F ≤ length u = omega (arith, below F (cell_at net.cells j).a (length net.cells) low) in
          let clock : now_at F (two F net v u j) (cell_at net.cells j).a ≡ now_at F (two F net v u n) (cell_at net.cells j).a =
          now-two F net v u j (cell_at net.cells j).a f.0 low fits ∙ sym (now-two F net v u n (cell_at net.cells j).a (omega (arith, f.0)) low fits) in
          get16-same (stored F net (two F net v u j) j) (two F net v u n) _ (late n _ h g (omega arith) (omega arith)) (late n _ h g (omega arith) (omega arith))
          ∙ stored-own (two F net v u j) (rw (length_two F net v u j) room)
          ∙ rw (
            seen-before F net v u j (cell_at net.cells j).a (omega (arith, within, f.0)),
            seen-before F net v u j (cell_at net.cells (j + 1)).a f.2,
            seen-before F net v u j (cell_at net.cells j).b f.1,
            clock,
            element-early j (omega arith),
          )

      -- and the third pass leaves it
      pub element-after : element_now F net (after F net v u) (64 * a + i) ≡ element_now F net (two F net v u (length net.cells)) (64 * a + i)
      element-after = get16-same (two F net v u (length net.cells)) (after F net v u) _ (after-behind F net v u _ (omega arith)) (after-behind F net v u _ (omega arith))
