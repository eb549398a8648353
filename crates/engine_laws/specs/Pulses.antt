-- How the pulses that come out of delays propagate through ors, tests and merges, cell by cell in rising order.
-- The fanouts are given by relations, the sets by what is in them: `Fed` and `Owned` are what a check of the tables gives, `Passing` is the loop's invariant.
-- Assumes nothing.
use Rattle.std.specs.Prelude.{Bool, true, false, not, ◌&&◌, ◌||◌, ◌⊎◌, ◌≡◌, ℕ, zero, suc, ◌+◌, ◌<◌, ◌≤◌, eqb, length}
use Rattle.std.proofs.Math.Logic.{inl, inr, ⊎_elim}
use Rattle.std.proofs.Math.Path.{refl, ap}
use Rattle.std.proofs.Common.{sym, ◌∙◌, eq-or-lt_of_le, arith}
use Rattle.model.specs.declared.Cell.{Cell}
use Rattle.model.specs.declared.Merge.{Merge}
use Rattle.model.specs.declared.Format.{Format}
use Rattle.model.specs.Word.{bit, is_zero}
use Rattle.model.specs.Circuit.{Netlist, cell_at, high, short_merge, short_return, long_merge, long_return, merge_step, return_step, Shape, cell_table, k_constant, k_complement, k_operator, k_start, k_ground, k_delay, k_or, k_when_true, k_when_false, k_merge, k_return, k_memory, k_gated, k_array, k_address, k_read, k_latch, k_unknown}
use Rattle.laws.specs.Refusals.Laws.{by_bool, not-both, and-true}
use Rattle.laws.specs.Circuit.Ordered.{kinds, Looks, Ordered}
use Rattle.laws.specs.State.Bytes.{high_bit}
use Rattle.laws.specs.State.Passes.{shape_at}
use Rattle.engine_laws.specs.View.{View, shows, Next}

abbrev pub High : View → ℕ → Type 0
High w k = high (w.now k) ≡ true

-- What the tables say ----------------------------------------------------------------------------------------------------------------------

-- the fanout of cell c has delay k; it has cell j, which is to be evaluated, on side s (1 and 2 at a merge, else 0)
pub record Fanouts : Type 1 where
  pub to_delay : ℕ → ℕ → Type 0
  pub to_cell : ℕ → ℕ → ℕ → Type 0

-- the fanout of x has all of c's
abbrev pub Contained : Fanouts → ℕ → ℕ → Type 0
Contained L c x = ((k : ℕ) → L.to_delay c k → L.to_delay x k) × ((j s : ℕ) → L.to_cell c j s → L.to_cell x j s)

-- the second test of a pair: it is evaluated with the first
abbrev pub Second : Netlist → ℕ → Cell → Type 0
Second net k c = (j : ℕ) × (j + 1 ≡ k) × (shape_at net j ≡ k_when_true) × ((cell_at net.cells j).a ≡ c.a) × ((cell_at net.cells j).b ≡ c.b)

-- words have no fanout
abbrev pub Empty : Fanouts → ℕ → Type 0
Empty L c = ((k : ℕ) → L.to_delay c k → ⊥) × ((j s : ℕ) → L.to_cell c j s → ⊥)

-- cell k, which is c, is in the fanout of its inputs; an or may hand its own fanout to its inputs instead
abbrev pub Fed : Shape → Netlist → Fanouts → ℕ → Cell → Type 0
Fed k_constant net L k c = Empty L k
Fed k_complement net L k c = Empty L k
Fed k_operator net L k c = Empty L k
Fed k_start net L k c = Unit {0}
Fed k_ground net L k c = Unit {0}
Fed k_delay net L k c = L.to_delay c.a k
Fed k_or net L k c = (L.to_cell c.a k 0 × L.to_cell c.b k 0) ⊎ (Contained L k c.a × Contained L k c.b)
Fed k_when_true net L k c = L.to_cell c.a k 0
Fed k_when_false net L k c = L.to_cell c.a k 0 ⊎ Second net k c
Fed k_merge net L k c = L.to_cell c.a k 1 × L.to_cell c.b k 2
Fed k_return net L k c = L.to_cell c.a k 1 × L.to_cell c.b k 2
Fed k_memory net L k c = Empty L k
Fed k_gated net L k c = Empty L k
Fed k_array net L k c = Empty L k
Fed k_address net L k c = Empty L k
Fed k_read net L k c = Empty L k
Fed k_latch net L k c = Empty L k
Fed k_unknown net L k c = Empty L k

-- The loop's invariant ---------------------------------------------------------------------------------------------------------------------

-- what has been scheduled so far: delays that a pulse enters, cells that are activated, by their sides, and which of these are still to be evaluated
pub record Activity : Type 0 where
  pub entered : ℕ → Bool
  pub activated : ℕ → ℕ → Bool
  pub pending : ℕ → Bool

-- the whole fanout of c is scheduled
abbrev pub Propagated : Fanouts → Activity → ℕ → Type 0
Propagated L T c = ((k : ℕ) → L.to_delay c k → T.entered k ≡ true) × ((j s : ℕ) → L.to_cell c j s → T.activated j s ≡ true)

contained : (L : Fanouts) (T : Activity) (c x : ℕ) → Contained L c x → Propagated L T x → Propagated L T c
contained L T c x p l = (λ k h. l.0 k (p.0 k h), λ j s h. l.1 j s (p.1 j s h))

empty : (L : Fanouts) (T : Activity) (c : ℕ) → Empty L c → Propagated L T c
empty L T c n = (λ k h. absurd (n.0 k h), λ j s h. absurd (n.1 j s h))

-- high cells below i are propagated; what is activated from i on is pending, or has been propagated already
pub record Passing (net : Netlist) (L : Fanouts) (w : View) (T : Activity) (i : ℕ) : Type 0 where
  pub done : (c : ℕ) → c < i → c < length net.cells → High w c → Propagated L T c
  pub rows : (c : ℕ) → c < length net.cells → shape_at net c ≡ k_delay → High w c → (Propagated L T c) ⊎ (T.activated c 0 ≡ true)
  pub activates : (j s : ℕ) → i ≤ j → j < length net.cells → T.activated j s ≡ true → (T.pending j ≡ true) ⊎ (High w j → Propagated L T j)
  -- the second of a pair is propagated with the first
  pub pair : i < length net.cells → Second net i (cell_at net.cells i) → High w i → Propagated L T i

bit_high : (b : Bool) → high (bit b) ≡ true → b ≡ true
bit_high b e = sym (high_bit b) ∙ e

or-high : (x y : Bool) → (x || y) ≡ true → (x ≡ true) ⊎ (y ≡ true)
or-high true y e = inl refl
or-high false y e = inr e

zero-low : {A : Type 0} → high 0 ≡ true → A
zero-low e = not-both e refl

-- a merge that puts out and does not hold both bits has an input, and one of a call has its second input
merge-fed : (one was : Bool) (m : Merge) (a b : Bool) → m.a && m.b ≡ false → (merge_step one was m a b).out ≡ true → (a ≡ true) ⊎ (b ≡ true)
unfolding merge_step short_merge long_merge
merge-fed true was m a b n e = go a b m.a m.b n e
  where
    go : (a b x y : Bool) → x && y ≡ false → ((a || x) && (b || y)) ≡ true → (a ≡ true) ⊎ (b ≡ true)
    go true b x y n e = inl refl
    go false true x y n e = inr refl
    go false false x y n e = not-both e n
merge-fed false was m a b n e = or-high a b (and-true ((a || m.a) && (b || m.b)) (a || b) e).1

return-fed : (one was : Bool) (m : Merge) (a b : Bool) → (return_step one was m a b).out ≡ true → b ≡ true
unfolding return_step short_return long_return
return-fed true was m a b e = (and-true (a || m.a) b e).1
return-fed false was m a b e = (and-true (a || m.a) b e).1

module _ (F : Format) (net : Netlist) (ordered : Ordered net.cells) (L : Fanouts) (v w : View) (next : Next F net v w)
    (fed : (k : ℕ) → k < length net.cells → Fed (shape_at net k) net L k (cell_at net.cells k))
    (rests : (k : ℕ) → k < length net.cells → shape_at net k ≡ k_start → v.remaining k ≡ 0)
    (apart : (k : ℕ) → k < length net.cells → shape_at net k ≡ k_merge → (v.held k).a && (v.held k).b ≡ false) where
  -- a cell that is high and not pending has been propagated, so that the loop may go on to the next
  module _ (T : Activity) (i : ℕ) (p : Passing net L w T i) (l : i < length net.cells) (idle : T.pending i ≡ false) where
    -- if it is activated, it has been propagated
    activated-done : (s : ℕ) → T.activated i s ≡ true → High w i → Propagated L T i
    activated-done s e h = ⊎_elim (λ (q : T.pending i ≡ true). not-both q idle) (λ (f : High w i → Propagated L T i). f h) (p.activates i s (omega arith) l e)

    skip-cell : (sh : Shape) (c : Cell) → Looks (cell_table sh).row (kinds net.cells) (length net.cells) i c → Fed sh net L i c
        → (sh ≡ k_start → v.remaining i ≡ 0) → (sh ≡ k_merge → (v.held i).a && (v.held i).b ≡ false) → (sh ≡ k_delay → Propagated L T i)
        → (Second net i c → Propagated L T i)
        → High w i → w.now i ≡ shows sh net v w i c → Propagated L T i
    unfolding shows cell_table bit
    skip-cell k_constant c o f r m d g h e = empty L T i f
    skip-cell k_complement c o f r m d g h e = empty L T i f
    skip-cell k_operator c o f r m d g h e = empty L T i f
    skip-cell k_start c o f r m d g h e = let z : w.now i ≡ 0 = e ∙ ap (λ (n : ℕ). bit (not (is_zero n))) (r refl) in zero-low (sym (ap high z) ∙ h)
    skip-cell k_ground c o f r m d g h e = zero-low (sym (ap high e) ∙ h)
    skip-cell k_delay c o f r m d g h e = d refl
    skip-cell k_or c o f r m d g h e =
        let hi = bit_high (high (w.now c.a) || high (w.now c.b)) (sym (ap high e) ∙ h) in
        ⊎_elim
        (λ (x : High w c.a). by-or c.a x o.1.0 (⊎_elim (λ z. inl z.0) (λ z. inr z.0) f))
        (λ (x : High w c.b). by-or c.b x o.2.0 (⊎_elim (λ z. inl z.1) (λ z. inr z.1) f))
        (or-high (high (w.now c.a)) (high (w.now c.b)) hi)
      where
        by-or : (x : ℕ) → High w x → x < i → (L.to_cell x i 0) ⊎ (Contained L i x) → Propagated L T i
        by-or x hx lt (inl q) = activated-done 0 ((p.done x lt (omega arith) hx).1 i 0 q) h
        by-or x hx lt (inr q) = contained L T i x q (p.done x lt (omega arith) hx)
    skip-cell k_when_true c o f r m d g h e =
        let hi = and-true (high (w.now c.a)) (not (is_zero (w.now c.b))) (bit_high _ (sym (ap high e) ∙ h)) in
        activated-done 0 ((p.done c.a o.1.0 (omega (arith, o.1.0)) hi.0).1 i 0 f) h
    skip-cell k_when_false c o (inl f) r m d g h e =
        let hi = and-true (high (w.now c.a)) (is_zero (w.now c.b)) (bit_high _ (sym (ap high e) ∙ h)) in
        activated-done 0 ((p.done c.a o.1.0 (omega (arith, o.1.0)) hi.0).1 i 0 f) h
    skip-cell k_when_false c o (inr f) r m d g h e = g f
    skip-cell k_merge c o f r m d g h e =
        ⊎_elim
        (λ (x : High w c.a). activated-done 1 ((p.done c.a o.1.0 (omega (arith, o.1.0)) x).1 i 1 f.0) h)
        (λ (x : High w c.b). activated-done 2 ((p.done c.b o.2.0 (omega (arith, o.2.0)) x).1 i 2 f.1) h)
        (merge-fed (eqb net.pulse 1) (high (v.now i)) (v.held i) (high (w.now c.a)) (high (w.now c.b)) (m refl) (bit_high _ (sym (ap high e) ∙ h)))
    skip-cell k_return c o f r m d g h e =
        let x = return-fed (eqb net.pulse 1) (high (v.now i)) (v.held i) (high (w.now c.a)) (high (w.now c.b)) (bit_high _ (sym (ap high e) ∙ h)) in
        activated-done 2 ((p.done c.b o.2.0 (omega (arith, o.2.0)) x).1 i 2 f.1) h
    skip-cell k_memory c o f r m d g h e = empty L T i f
    skip-cell k_gated c o f r m d g h e = empty L T i f
    skip-cell k_array c o f r m d g h e = empty L T i f
    skip-cell k_address c o f r m d g h e = empty L T i f
    skip-cell k_read c o f r m d g h e = empty L T i f
    skip-cell k_latch c o f r m d g h e = empty L T i f
    skip-cell k_unknown c o f r m d g h e = empty L T i f

    delay-propagated : shape_at net i ≡ k_delay → High w i → Propagated L T i
    delay-propagated e h = ⊎_elim (λ (x : Propagated L T i). x) (λ (q : T.activated i 0 ≡ true). activated-done 0 q h) (p.rows i l e h)

    -- a cell that is high and not pending has been propagated
    pub skip-propagated : High w i → Propagated L T i
    skip-propagated h =
        skip-cell (shape_at net i) (cell_at net.cells i) (ordered.looks i l) (fed i l) (rests i l) (apart i l) (λ e. delay-propagated e h) (λ z. p.pair l z h) h (next.present i l)

    -- so the loop goes on, if the next cell is no second of a pair, or that one is propagated
    pub skip : (i + 1 < length net.cells → Second net (i + 1) (cell_at net.cells (i + 1)) → High w (i + 1) → Propagated L T (i + 1))
        → Passing net L w T (i + 1)
    skip paired =
        record {
          done = λ c g b h. ⊎_elim (λ (q : c ≡ i). let z : High w i = rw q at h in rw q (skip-propagated z)) (λ (q : c < i). p.done c q b h) (eq-or-lt_of_le (le-of-lt-suc c g));
          rows = p.rows;
          activates = λ j s g. p.activates j s (omega arith);
          pair = paired;
        }
      where
        le-of-lt-suc : (c : ℕ) → c < i + 1 → c ≤ i
        le-of-lt-suc c g = omega arith

-- Evaluating a cell ------------------------------------------------------------------------------------------------------------------------

-- T' has all that T has
pub record More (T T' : Activity) : Type 0 where
  pub entered : (k : ℕ) → T.entered k ≡ true → T'.entered k ≡ true
  pub activated : (j s : ℕ) → T.activated j s ≡ true → T'.activated j s ≡ true

pub propagated-more : (L : Fanouts) (T T' : Activity) (c : ℕ) → More T T' → Propagated L T c → Propagated L T' c
propagated-more L T T' c m l = (λ k h. m.entered k (l.0 k h), λ j s h. m.activated j s (l.1 j s h))

-- cell i was evaluated: if it is high, it is propagated; what was activated now is pending
pub evaluated : (net : Netlist) (L : Fanouts) (w : View) (T T' : Activity) (i : ℕ) → Passing net L w T i → More T T' → (High w i → Propagated L T' i)
    → (i + 1 < length net.cells → Second net (i + 1) (cell_at net.cells (i + 1)) → High w (i + 1) → Propagated L T' (i + 1))
    → ((j s : ℕ) → i + 1 ≤ j → j < length net.cells → T'.activated j s ≡ true → (T'.pending j ≡ true) ⊎ (High w j → Propagated L T' j))
    → Passing net L w T' (i + 1)
evaluated net L w T T' i p m led paired waits =
    record {
      done = λ c g b h. ⊎_elim (λ (q : c ≡ i). let z : High w i = rw q at h in rw q (led z))
          (λ (q : c < i). propagated-more L T T' c m (p.done c q b h)) (eq-or-lt_of_le (le c g));
      rows = λ c b e h. ⊎_elim (λ (x : Propagated L T c). inl (propagated-more L T T' c m x)) (λ (x : T.activated c 0 ≡ true). inr (m.activated c 0 x)) (p.rows c b e h);
      activates = waits;
      pair = paired;
    }
  where
    le : (c : ℕ) → c < i + 1 → c ≤ i
    le c g = omega arith

-- What is scheduled has a cause --------------------------------------------------------------------------------------------------------------------

-- c is an input of the or o
abbrev pub Into : Netlist → ℕ → ℕ → Type 0
Into net c o = (c < o) × (o < length net.cells) × (shape_at net o ≡ k_or) × (((cell_at net.cells o).a ≡ c) ⊎ ((cell_at net.cells o).b ≡ c))

-- c is an input of cell j, which is d, on side s
abbrev pub Direct : Shape → ℕ → Cell → ℕ → Type 0
Direct k_constant c d s = ⊥
Direct k_complement c d s = ⊥
Direct k_operator c d s = ⊥
Direct k_start c d s = ⊥
Direct k_ground c d s = ⊥
Direct k_delay c d s = ⊥
Direct k_or c d s = (d.a ≡ c) ⊎ (d.b ≡ c)
Direct k_when_true c d s = d.a ≡ c
Direct k_when_false c d s = d.a ≡ c
Direct k_merge c d s = ((s ≡ 1) × (d.a ≡ c)) ⊎ ((s ≡ 2) × (d.b ≡ c))
Direct k_return c d s = ((s ≡ 1) × (d.a ≡ c)) ⊎ ((s ≡ 2) × (d.b ≡ c))
Direct k_memory c d s = ⊥
Direct k_gated c d s = ⊥
Direct k_array c d s = ⊥
Direct k_address c d s = ⊥
Direct k_read c d s = ⊥
Direct k_latch c d s = ⊥
Direct k_unknown c d s = ⊥

-- what the fanout of c has looks at c, or is in the fanout of an or of c
pub record Owned (net : Netlist) (L : Fanouts) : Type 0 where
  pub delays : (c k : ℕ) → L.to_delay c k → ((cell_at net.cells k).a ≡ c) ⊎ ((o : ℕ) × Into net c o × L.to_delay o k)
  pub looks : (c j s : ℕ) → L.to_cell c j s
      → (Direct (shape_at net j) c (cell_at net.cells j) s × (j < length net.cells)) ⊎ ((o : ℕ) × Into net c o × L.to_cell o j s)

-- what it means that cell j, which is d, is activated on side s
abbrev pub Activates : Shape → View → ℕ → Cell → ℕ → Type 0
Activates k_constant w j d s = ⊥
Activates k_complement w j d s = ⊥
Activates k_operator w j d s = ⊥
Activates k_start w j d s = ⊥
Activates k_ground w j d s = ⊥
Activates k_delay w j d s = High w j
Activates k_or w j d s = High w j
Activates k_when_true w j d s = High w d.a
Activates k_when_false w j d s = High w d.a
Activates k_merge w j d s = ((s ≡ 1) × High w d.a) ⊎ ((s ≡ 2) × High w d.b)
Activates k_return w j d s = ((s ≡ 1) × High w d.a) ⊎ ((s ≡ 2) × High w d.b)
Activates k_memory w j d s = ⊥
Activates k_gated w j d s = ⊥
Activates k_array w j d s = ⊥
Activates k_address w j d s = ⊥
Activates k_read w j d s = ⊥
Activates k_latch w j d s = ⊥
Activates k_unknown w j d s = ⊥

pub record Right (net : Netlist) (w : View) (T : Activity) : Type 0 where
  pub entered : (k : ℕ) → T.entered k ≡ true → High w (cell_at net.cells k).a
  pub activated : (j s : ℕ) → T.activated j s ≡ true → Activates (shape_at net j) w j (cell_at net.cells j) s

or_left : (x y : Bool) → x ≡ true → (x || y) ≡ true
or_left x y e = rw e refl

or_right : (x y : Bool) → y ≡ true → (x || y) ≡ true
or_right true y e = refl
or_right false y e = e

module _ (F : Format) (net : Netlist) (L : Fanouts) (v w : View) (next : Next F net v w) (owned : Owned net L) where
  or-shows : (sh : Shape) (k : ℕ) (c : Cell) → sh ≡ k_or → shows sh net v w k c ≡ bit (high (w.now c.a) || high (w.now c.b))
  unfolding shows
  or-shows sh k c e = rw e refl

  or-now : (o : ℕ) → o < length net.cells → shape_at net o ≡ k_or
      → w.now o ≡ bit (high (w.now (cell_at net.cells o).a) || high (w.now (cell_at net.cells o).b))
  or-now o l e = next.present o l ∙ or-shows (shape_at net o) o (cell_at net.cells o) e

  or-on : (c o : ℕ) → o < length net.cells → shape_at net o ≡ k_or → ((cell_at net.cells o).a ≡ c) ⊎ ((cell_at net.cells o).b ≡ c) → High w c → High w o
  or-on c o l e (inl q) h =
      let x : High w (cell_at net.cells o).a = rw q h in
      ap high (or-now o l e) ∙ high_bit _ ∙ (or_left (high (w.now (cell_at net.cells o).a)) (high (w.now (cell_at net.cells o).b)) x)
  or-on c o l e (inr q) h =
      let x : High w (cell_at net.cells o).b = rw q h in
      ap high (or-now o l e) ∙ high_bit _ ∙ (or_right (high (w.now (cell_at net.cells o).a)) (high (w.now (cell_at net.cells o).b)) x)

  or_is : (c o : ℕ) → Into net c o → High w c → High w o
  or_is c o z h = or-on c o z.1 z.2 z.3 h

  -- a delay in the fanout of a high cell has a high input; m bounds how many ors are passed
  delay-right : (m c k : ℕ) → length net.cells ≤ c + m → High w c → L.to_delay c k → High w (cell_at net.cells k).a
  delay-right zero c k b h t = ⊎_elim (λ (q : (cell_at net.cells k).a ≡ c). rw q h) (λ z. absurd (omega (arith, z.1.0, z.1.1))) (owned.delays c k t)
  delay-right (suc m) c k b h t =
      ⊎_elim (λ (q : (cell_at net.cells k).a ≡ c). rw q h) (λ z. delay-right m z.0 k (omega (arith, z.1.0)) (or_is c z.0 z.1 h) z.2) (owned.delays c k t)

  direct-right : (sh : Shape) (c j s : ℕ) → shape_at net j ≡ sh → j < length net.cells → High w c → Direct sh c (cell_at net.cells j) s
      → Activates sh w j (cell_at net.cells j) s
  direct-right k_constant c j s y l h d = absurd d
  direct-right k_complement c j s y l h d = absurd d
  direct-right k_operator c j s y l h d = absurd d
  direct-right k_start c j s y l h d = absurd d
  direct-right k_ground c j s y l h d = absurd d
  direct-right k_delay c j s y l h d = absurd d
  direct-right k_or c j s y l h d = or-on c j l y d h
  direct-right k_when_true c j s y l h d = rw d h
  direct-right k_when_false c j s y l h d = rw d h
  direct-right k_merge c j s y l h (inl d) = inl (d.0, rw d.1 h)
  direct-right k_merge c j s y l h (inr d) = inr (d.0, rw d.1 h)
  direct-right k_return c j s y l h (inl d) = inl (d.0, rw d.1 h)
  direct-right k_return c j s y l h (inr d) = inr (d.0, rw d.1 h)
  direct-right k_memory c j s y l h d = absurd d
  direct-right k_gated c j s y l h d = absurd d
  direct-right k_array c j s y l h d = absurd d
  direct-right k_address c j s y l h d = absurd d
  direct-right k_read c j s y l h d = absurd d
  direct-right k_latch c j s y l h d = absurd d
  direct-right k_unknown c j s y l h d = absurd d

  cell-right : (m c j s : ℕ) → length net.cells ≤ c + m → High w c → L.to_cell c j s → Activates (shape_at net j) w j (cell_at net.cells j) s
  cell-right zero c j s b h t =
      ⊎_elim (λ d. direct-right (shape_at net j) c j s refl d.1 h d.0) (λ z. absurd (omega (arith, z.1.0, z.1.1))) (owned.looks c j s t)
  cell-right (suc m) c j s b h t =
      ⊎_elim (λ d. direct-right (shape_at net j) c j s refl d.1 h d.0)
      (λ z. cell-right m z.0 j s (omega (arith, z.1.0)) (or_is c z.0 z.1 h) z.2) (owned.looks c j s t)

  -- A high cell may be propagated: all of its fanout is scheduled rightly.
  pub fanout-right : (c : ℕ) → High w c
      → ((k : ℕ) → L.to_delay c k → High w (cell_at net.cells k).a) × ((j s : ℕ) → L.to_cell c j s → Activates (shape_at net j) w j (cell_at net.cells j) s)
  fanout-right c h = (λ k t. delay-right (length net.cells) c k (omega arith) h t, λ j s t. cell-right (length net.cells) c j s (omega arith) h t)

  -- The end of the pass: the delays that a pulse has entered are those whose input is high.
  pub entered-is : (T : Activity) → Passing net L w T (length net.cells) → Right net w T → (k : ℕ) → (cell_at net.cells k).a < length net.cells
      → L.to_delay (cell_at net.cells k).a k
      → T.entered k ≡ high (w.now (cell_at net.cells k).a)
  entered-is T p r k l t =
      by_bool (high (w.now (cell_at net.cells k).a))
      (λ h. (p.done (cell_at net.cells k).a l l h).0 k t ∙ sym h)
      (λ n. by_bool (T.entered k) (λ q. not-both (r.entered k q) n) (λ q. q ∙ sym n))

  -- Where a merge is evaluated, its sides are activated exactly as its inputs are high.
  merge-side : (sh : Shape) (j : ℕ) (d : Cell) (s : ℕ) → (sh ≡ k_merge) ⊎ (sh ≡ k_return) → Activates sh w j d s
      → ((s ≡ 1) × High w d.a) ⊎ ((s ≡ 2) × High w d.b)
  merge-side sh j d s (inl e) q = let z : Activates k_merge w j d s = rw e at q in z
  merge-side sh j d s (inr e) q = let z : Activates k_return w j d s = rw e at q in z

  module _ (T : Activity) (i : ℕ) (p : Passing net L w T i) (r : Right net w T) (m : (shape_at net i ≡ k_merge) ⊎ (shape_at net i ≡ k_return))
      (l : i < length net.cells) where
    pub side-a : (cell_at net.cells i).a < i → L.to_cell (cell_at net.cells i).a i 1 → T.activated i 1 ≡ high (w.now (cell_at net.cells i).a)
    side-a lt t =
        by_bool (high (w.now (cell_at net.cells i).a))
        (λ h. (p.done (cell_at net.cells i).a lt (omega arith) h).1 i 1 t ∙ sym h)
        (λ n. by_bool (T.activated i 1)
        (λ q. ⊎_elim (λ z. not-both z.1 n) (λ z. absurd (omega (arith, z.0))) (merge-side (shape_at net i) i (cell_at net.cells i) 1 m (r.activated i 1 q)))
        (λ q. q ∙ sym n))

    pub side-b : (cell_at net.cells i).b < i → L.to_cell (cell_at net.cells i).b i 2 → T.activated i 2 ≡ high (w.now (cell_at net.cells i).b)
    side-b lt t =
        by_bool (high (w.now (cell_at net.cells i).b))
        (λ h. (p.done (cell_at net.cells i).b lt (omega arith) h).1 i 2 t ∙ sym h)
        (λ n. by_bool (T.activated i 2)
        (λ q. ⊎_elim (λ z. absurd (omega (arith, z.0))) (λ z. not-both z.1 n) (merge-side (shape_at net i) i (cell_at net.cells i) 2 m (r.activated i 2 q)))
        (λ q. q ∙ sym n))
