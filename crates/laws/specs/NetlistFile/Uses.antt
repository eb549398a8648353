-- The tests of refusal 12, by the uses of a cell's fields: each says what its use asks for. Assumes nothing.
use Rattle.std.specs.Prelude.{true, List, ◌≡◌, ℕ, leb, ltb, length}
use Rattle.std.proofs.Math.Path.{refl}
use borrow.Author.Tests.{eqb-true, leb-true, ltb-true, eq-eqb, le-leb, lt-ltb}
use Rattle.model.specs.declared.Cell.{Cell}
use Rattle.model.specs.declared.kinds.Use.{Use}
use Rattle.model.specs.declared.kinds.Use.TheVariants.{Unknown, Unused, Value, Positive, ControlBelow, ControlAny, WordBelow, WordAny, ArrayBelow}
use Rattle.model.specs.Circuit.{control, cell_row}
use Rattle.model.specs.NetlistFile.{control_in, word_in, array_in, kept, stands, keeps}
use Rattle.laws.specs.Refusals.Laws.{and-true, and-of, not-both}
use Rattle.laws.specs.Circuit.Ordered.{word, array, In, Meets, Looks, kinds}

module _ (net : List Cell) (lim j : ℕ) where
  control-in : control_in net lim j ≡ true → In control (kinds net) lim j
  unfolding control_in
  control-in e = let p = and-true (ltb j lim) _ e in (ltb-true j lim p.0, p.1)

  word-in : word_in net lim j ≡ true → In word (kinds net) lim j
  unfolding word_in word
  word-in e = let p = and-true (ltb j lim) _ e in (ltb-true j lim p.0, p.1)

  array-in : array_in net lim j ≡ true → In array (kinds net) lim j
  unfolding array_in
  array-in e = let p = and-true (ltb j lim) _ e in (ltb-true j lim p.0, p.1)

  in_control : In control (kinds net) lim j → control_in net lim j ≡ true
  unfolding control_in
  in_control h = and-of (lt-ltb j lim h.0) h.1

  in-word : In word (kinds net) lim j → word_in net lim j ≡ true
  unfolding word_in word
  in-word h = and-of (lt-ltb j lim h.0) h.1

  in_array : In array (kinds net) lim j → array_in net lim j ≡ true
  unfolding array_in
  in_array h = and-of (lt-ltb j lim h.0) h.1

module _ (net : List Cell) (k : ℕ) where
  kept-meets : (u : Use) (v : ℕ) → kept u net k v ≡ true → Meets u (kinds net) (length net) k v
  unfolding kept
  kept-meets Unknown v e = not-both e refl
  kept-meets Unused v e = eqb-true v 0 e
  kept-meets Value v e = tt
  kept-meets Positive v e = let p = and-true (leb 1 v) _ e in (leb-true 1 v p.0, leb-true v 255 p.1)
  kept-meets ControlBelow v e = control-in net k v e
  kept-meets ControlAny v e = control-in net (length net) v e
  kept-meets WordBelow v e = word-in net k v e
  kept-meets WordAny v e = word-in net (length net) v e
  kept-meets ArrayBelow v e = array-in net k v e

  meets-kept : (u : Use) (v : ℕ) → Meets u (kinds net) (length net) k v → kept u net k v ≡ true
  unfolding kept
  meets-kept Unknown v h = absurd h
  meets-kept Unused v h = eq-eqb v 0 h
  meets-kept Value v h = refl
  meets-kept Positive v h = and-of (le-leb 1 v h.0) (le-leb v 255 h.1)
  meets-kept ControlBelow v h = in_control net k v h
  meets-kept ControlAny v h = in_control net (length net) v h
  meets-kept WordBelow v h = in-word net k v h
  meets-kept WordAny v h = in-word net (length net) v h
  meets-kept ArrayBelow v h = in_array net k v h

  module _ (c : Cell) where
    pub keeps-looks : keeps net k c ≡ true → Looks (cell_row c.kind) (kinds net) (length net) k c
    unfolding keeps
    keeps-looks e =
        let row = cell_row c.kind in
        let p = and-true (kept row.delay net k c.delay) _ (and-true (stands c.kind k) _ e).1 in
        let q = and-true (kept row.a net k c.a) _ p.1 in
        (kept-meets _ _ p.0, kept-meets _ _ q.0, kept-meets _ _ q.1)

    pub looks-keeps : stands c.kind k ≡ true → Looks (cell_row c.kind) (kinds net) (length net) k c → keeps net k c ≡ true
    unfolding keeps
    looks-keeps s h = and-of s (and-of (meets-kept _ _ h.0) (and-of (meets-kept _ _ h.1) (meets-kept _ _ h.2)))
