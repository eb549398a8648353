-- Taking an instant back: what is kept of a state, the state that the values are taken back on, and that it is the state before the instant.
-- Assumes nothing.
use mathlib.Core.Bool.{Bool}
use mathlib.Core.List.{List, ◌++◌}
use mathlib.Core.Logic.{◌⊎◌, inl, inr, ⊎_elim}
use mathlib.Core.Path.{◌≡◌, sym, ◌∙◌, ap}
use Prim.Native.Nat.{ℕ, ◌+◌, ◌-◌, ◌*◌, ◌/◌, ◌<◌, ◌≤◌}
use native.Mathlib.Omega.{arith}
use native.Mathlib.Decide.{ℕ_discrete}
use lib.ListN.{length, get_or, take, drop, length-take, length-drop, get_or-append}
use lib.Seq.{paste, length-paste, length_paste_head, drop-paste, get_or-take, get_or-drop, get_or-append-add, ext_get_or}
use Rattle.model.specs.declared.Format.{Format}
use Rattle.model.specs.declared.Format.TheVariants.{Full, Compact}
use Rattle.model.specs.Word.{get16, put16, get32, put32}
use Rattle.model.specs.Circuit.{Netlist}
use Rattle.model.specs.State.{instant_of, cell_size, base, now_at, before_at, value, up_to, aged, shown}
use Rattle.laws.specs.Refusals.Laws.{by_le}
use Rattle.laws.specs.Circuit.Ordered.{Ordered}
use Rattle.laws.specs.State.Bytes.{put16-other, put16-same, length-put16, get16-same, put32-other, put32-same, length-put32, get32-same, up_to-frame, up_to-length, up_to-at}
use Rattle.laws.specs.State.Lines.{least, below}
use Rattle.laws.specs.State.Passes.{ticked, one, two, apart, aged-frame, shown-frame, one-high, before-one, length-one, two-high, seen-before, length_two}
use Rattle.simulator.specs.Keeping.{Roomy, Kept, taken_back}
use Rattle.simulator.specs.Levels.{valued}
use Rattle.simulator.proofs.Stepping.{step-spares}

-- a list of bytes
abbrev Bytes : List ℕ → Type 0
Bytes s = (j : ℕ) → get_or s j 0 < 256

-- Bytes and parts --------------------------------------------------------------------------------------------------------------------------

-- where two numbers are the same, their bytes are
module _ (s t : List ℕ) (bs : Bytes s) (bt : Bytes t) where
  two_bytes : (i j : ℕ) → get16 t i ≡ get16 s i → i ≤ j → j < i + 2 → get_or t j 0 ≡ get_or s j 0
  unfolding get16
  two_bytes i j e h g =
      by_le j i
      (λ l. let q : j ≡ i = omega arith in rw q (omega (arith, e, bs i, bs (i + 1), bt i, bt (i + 1))))
      (λ l. let q : j ≡ i + 1 = omega arith in rw q (omega (arith, e, bs i, bs (i + 1), bt i, bt (i + 1))))

  four_bytes : (j : ℕ) → get32 t 0 ≡ get32 s 0 → j < 4 → get_or t j 0 ≡ get_or s j 0
  unfolding get32
  four_bytes j e g =
      let low : get16 t 0 ≡ get16 s 0 = omega (arith, e, under s bs 0, under t bt 0) in
      let high : get16 t 2 ≡ get16 s 2 = omega (arith, e, low) in
      by_le 2 j (λ l. two_bytes 2 j high l (omega arith)) (λ l. two_bytes 0 j low (omega arith) (omega arith))
    where
      under : (u : List ℕ) → Bytes u → (i : ℕ) → get16 u i < 65536
      under u b i = unfold get16 in omega (arith, b i, b (i + 1))

-- a part that is pasted in
module _ (d : List ℕ) (at : ℕ) (p : List ℕ) (n : ℕ) (room : at + n ≤ length d) (long : n ≤ length p) where
  head-long : length (take at d ++ take n p) ≡ at + n
  head-long = length_paste_head d at p n (omega arith) long

  start-long : length (take at d) ≡ at
  start-long = simp length-take (omega arith)

  pub paste-within : (j : ℕ) → j < n → get_or (paste d at p n) (at + j) 0 ≡ get_or p j 0
  paste-within j h =
      get_or-append (take at d ++ take n p) (drop (at + n) d) 0 (at + j) (omega (arith, head-long))
      ∙ ap (λ (i : ℕ). get_or (take at d ++ take n p) (i + j) 0) (sym start-long)
      ∙ get_or-append-add (take at d) (take n p) j 0
      ∙ get_or-take n p j 0 h

  paste-before : (j : ℕ) → j < at → get_or (paste d at p n) j 0 ≡ get_or d j 0
  paste-before j h =
      get_or-append (take at d ++ take n p) (drop (at + n) d) 0 j (omega (arith, head-long))
      ∙ get_or-append (take at d) (take n p) 0 j (omega (arith, start-long))
      ∙ get_or-take at d j 0 h

  pub paste-behind : (j : ℕ) → at + n ≤ j → get_or (paste d at p n) j 0 ≡ get_or d j 0
  paste-behind j h =
      let i : ℕ = j - (at + n) in
      let e : at + n + i ≡ j = omega arith in
      ap (λ (x : ℕ). get_or (paste d at p n) x 0) (sym e)
      ∙ sym (get_or-drop (at + n) (paste d at p n) i 0)
      ∙ ap (λ (l : List ℕ). get_or l i 0) (drop-paste d at p n (omega arith) long)
      ∙ get_or-drop (at + n) d i 0
      ∙ ap (λ (x : ℕ). get_or d x 0) e

-- What is kept -----------------------------------------------------------------------------------------------------------------------------

-- one value more
pub values-more : (F : Format) (s kept more : List ℕ) (k v : ℕ) → 512 + 2 * k + 1 < length kept → more ≡ put16 kept (512 + 2 * k) v → v ≡ before_at F s k
    → ((m : ℕ) → m < k → get16 kept (512 + 2 * m) ≡ before_at F s m) → (m : ℕ) → m < k + 1 → get16 more (512 + 2 * m) ≡ before_at F s m
values-more F s kept more k v room e w had m l = rw e (go (ℕ_discrete m k))
  where
    go : Dec (m ≡ k) → get16 (put16 kept (512 + 2 * k) v) (512 + 2 * m) ≡ before_at F s m
    go (yes q) = rw q (put16-same kept (512 + 2 * k) v room ∙ w)
    go (no q) =
        get16-same kept (put16 kept (512 + 2 * k) v) (512 + 2 * m)
        (put16-other kept (512 + 2 * k) v (512 + 2 * m) (λ z. q (omega arith)) (λ z. omega arith))
        (put16-other kept (512 + 2 * k) v (512 + 2 * m + 1) (λ z. omega arith) (λ z. q (omega arith)))
        ∙ had m (omega (arith, q))

-- the values, and then the elements over what stands before them
pub keeps : (F : Format) (n : ℕ) (s kept all : List ℕ) → Roomy kept → base F n + 512 ≤ length s → ((k : ℕ) → k < n → get16 kept (512 + 2 * k) ≡ before_at F s k)
    → all ≡ paste kept 0 (drop (base F n) s) 512 → Kept F n s all
keeps F n s kept all roomy room had e =
    rw e
    (record {
      elements = λ j h.
          let z : 0 + j ≡ j = omega arith in
          ap (λ (i : ℕ). get_or (paste kept 0 (drop (base F n) s) 512) i 0) (sym z)
          ∙ paste-within kept 0 (drop (base F n) s) 512 (omega arith) long j h
          ∙ get_or-drop (base F n) s j 0;
      values = λ k h.
          get16-same kept (paste kept 0 (drop (base F n) s) 512) (512 + 2 * k)
          (paste-behind kept 0 (drop (base F n) s) 512 (omega arith) long (512 + 2 * k) (omega arith))
          (paste-behind kept 0 (drop (base F n) s) 512 (omega arith) long (512 + 2 * k + 1) (omega arith))
          ∙ had k h;
    })
  where
    long : 512 ≤ length (drop (base F n) s)
    long = simp length-drop (omega arith)

-- The values taken back --------------------------------------------------------------------------------------------------------------------

module _ (F : Format) (kept : List ℕ) where
  back-frame : (t : List ℕ) (k j : ℕ) → (j < base F k) ⊎ (base F k + 4 ≤ j) → get_or (taken_back F kept t k) j 0 ≡ get_or t j 0
  unfolding taken_back
  back-frame t k j h =
      put16-other (put16 t (base F k) (before_at F t k)) (base F k + 2) (get16 kept (512 + 2 * k)) j (λ e. off (omega arith) (omega arith)) (λ e. off (omega arith) (omega arith))
      ∙ put16-other t (base F k) (before_at F t k) j (λ e. off (omega arith) (omega arith)) (λ e. off (omega arith) (omega arith))
    where
      off : base F k ≤ j → j < base F k + 4 → ⊥
      off a b = ⊎_elim (λ z. omega arith) (λ z. omega arith) h

  length_back : (t : List ℕ) (k : ℕ) → length (taken_back F kept t k) ≡ length t
  unfolding taken_back
  length_back t k = length-put16 (put16 t (base F k) (before_at F t k)) _ _ ∙ length-put16 t _ _

  module _ (r : List ℕ) (n : ℕ) where
    abbrev w : ℕ → List ℕ
    w m = up_to (taken_back F kept) m r

    length-w : (m : ℕ) → length (w m) ≡ length r
    length-w m = up_to-length (taken_back F kept) length_back m r

    back-outside : (j : ℕ) → (j < 8) ⊎ (base F n ≤ j) → get_or (w n) j 0 ≡ get_or r j 0
    back-outside j h =
        up_to-frame (taken_back F kept) j n r (λ t m x. back-frame t m j (⊎_elim (λ z. inl (omega arith)) (λ z. inr (omega (arith, below F m n x, least F))) h))

    -- cell k
    module _ (k : ℕ) (l : k < n) (room : base F k + 8 ≤ length r) where
      own : (j : ℕ) → base F k ≤ j → j < base F k + cell_size F → get_or (w n) j 0 ≡ get_or (taken_back F kept (w k) k) j 0
      own j h g =
          up_to-at (taken_back F kept) j k n r (λ t m b e. back-frame t m j (⊎_elim (λ z. inl z) (λ z. inr (omega (arith, least F))) (apart F k m j h g e))) l

      untouched : (j : ℕ) → base F k ≤ j → get_or (w k) j 0 ≡ get_or r j 0
      untouched j h = up_to-frame (taken_back F kept) j k r (λ t m x. back-frame t m j (inr (omega (arith, below F m k x, least F))))

      back-now : now_at F (w n) k ≡ before_at F r k
      unfolding taken_back
      back-now =
          let i = base F k in
          let u = put16 (w k) i (before_at F (w k) k) in
          let v = get16 kept (512 + 2 * k) in
          get16-same (taken_back F kept (w k) k) (w n) i (own i (omega arith) (omega (arith, least F))) (own (i + 1) (omega arith) (omega (arith, least F)))
          ∙ get16-same u (put16 u (i + 2) v) i (put16-other u (i + 2) v i (λ e. omega arith) (λ e. omega arith)) (put16-other u (i + 2) v (i + 1) (λ e. omega arith) (λ e. omega arith))
          ∙ put16-same (w k) i (before_at F (w k) k) (omega (arith, length-w k))
          ∙ get16-same r (w k) (i + 2) (untouched (i + 2) (omega arith)) (untouched (i + 2 + 1) (omega arith))

      back-before : before_at F (w n) k ≡ get16 kept (512 + 2 * k)
      unfolding taken_back
      back-before =
          let i = base F k in
          let u = put16 (w k) i (before_at F (w k) k) in
          get16-same (taken_back F kept (w k) k) (w n) (i + 2) (own (i + 2) (omega arith) (omega (arith, least F))) (own (i + 2 + 1) (omega arith) (omega (arith, least F)))
          ∙ put16-same u (i + 2) (get16 kept (512 + 2 * k)) (omega (arith, length-w k, length-put16 (w k) i (before_at F (w k) k)))

      back-high : (j : ℕ) → base F k + 4 ≤ j → j < base F k + cell_size F → get_or (w n) j 0 ≡ get_or r j 0
      back-high j h g = own j (omega arith) g ∙ back-frame (w k) k j (inr h) ∙ untouched j (omega arith)

-- The state before the instant -------------------------------------------------------------------------------------------------------------

-- byte j lies in cell k of n
record InCell (F : Format) (n j : ℕ) : Type 0 where
  k : ℕ
  few : k < n
  from : base F k ≤ j
  to : j < base F k + cell_size F

in_cell : (F : Format) (n j : ℕ) → 8 ≤ j → j < base F n → InCell F n j
in_cell Full n j a b = record { k = (j - 8) / 40; few = omega arith; from = omega arith; to = omega arith }
in_cell Compact n j a b = record { k = (j - 8) / 8; few = omega arith; from = omega arith; to = omega arith }

module _ (F : Format) (net : Netlist) (ordered : Ordered net.cells) (starts : Bool) (s : List ℕ) (room : base F (length net.cells) + 512 ≤ length s) where
  abbrev n : ℕ
  n = length net.cells

  abbrev r : List ℕ
  r = valued F net starts s

  shown-long : length r ≡ length s
  shown-long = length_two F net (value F net starts) (one F s n) n ∙ length-one F s n

  shown-before : (k : ℕ) → k < n → before_at F r k ≡ now_at F s k
  shown-before k l = seen-before F net (value F net starts) (one F s n) n k l ∙ before-one F s n k l (omega (arith, below F k n l))

  shown-high : (k j : ℕ) → k < n → base F k + 4 ≤ j → j < base F k + cell_size F → get_or r j 0 ≡ get_or s j 0
  shown-high k j l h g = two-high F net (value F net starts) (one F s n) n k j l (omega arith) g ∙ one-high F s n k j h g

  -- the header but for the instant's change
  shown-header : (j : ℕ) → j < 8 → get_or r j 0 ≡ get_or (put32 s 0 (instant_of s + 1)) j 0
  unfolding two one ticked
  shown-header j h =
      up_to-frame (shown F net (value F net starts)) j n (one F s n) (λ t k l. shown-frame F net (value F net starts) t k j (omega arith) (inl (omega arith)))
      ∙ up_to-frame (aged F) j n (ticked s) (λ t k l. aged-frame F t k j (inl (omega arith)))

  shown-instant : instant_of r ≡ instant_of s + 1
  shown-instant = get32-same (put32 s 0 (instant_of s + 1)) r 0 (λ j a b. shown-header j (omega arith)) ∙ put32-same s 0 (instant_of s + 1) (omega arith)

  module _ (kept y : List ℕ) (has : Kept F n s kept) (roomy : Roomy kept) (bs : Bytes s) (by : Bytes y)
      (e : y ≡ put32 (paste (up_to (taken_back F kept) n r) (base F n) kept 512) 0 (instant_of r - 1)) where
    abbrev x : List ℕ
    x = up_to (taken_back F kept) n r

    x-long : length x ≡ length s
    x-long = length-w F kept r n n ∙ shown-long

    pasted-long : length (paste x (base F n) kept 512) ≡ length s
    pasted-long = length-paste x (base F n) kept 512 (omega (arith, x-long)) (omega arith) ∙ x-long

    behind-instant : (j : ℕ) → 4 ≤ j → get_or y j 0 ≡ get_or (paste x (base F n) kept 512) j 0
    behind-instant j h = ap (λ (z : List ℕ). get_or z j 0) e ∙ put32-other (paste x (base F n) kept 512) 0 (instant_of r - 1) j (inr h)

    before-elements : (j : ℕ) → 4 ≤ j → j < base F n → get_or y j 0 ≡ get_or x j 0
    before-elements j h g = behind-instant j h ∙ paste-before x (base F n) kept 512 (omega (arith, x-long)) (omega arith) j g

    instant-back : get32 y 0 ≡ get32 s 0
    instant-back =
        ap (λ (z : List ℕ). get32 z 0) e
        ∙ put32-same (paste x (base F n) kept 512) 0 (instant_of r - 1) (omega (arith, pasted-long))
        ∙ omega (arith, shown-instant)

    cell-back : (j : ℕ) → 4 ≤ j → j < base F n → InCell F n j → get_or y j 0 ≡ get_or s j 0
    cell-back j h g c =
        let k : ℕ = c.k in
        let i : ℕ = base F k in
        let fits : i + 8 ≤ length r = omega (arith, below F k n c.few, least F, shown-long) in
        let same : (m : ℕ) → i ≤ m → m < i + 4 → get_or y m 0 ≡ get_or x m 0 = λ m a b. before-elements m (omega arith) (omega (arith, below F k n c.few, least F)) in
        by_le (i + 4) j
        (λ l. before-elements j h g ∙ back-high F kept r n k c.few fits j l c.to ∙ shown-high k j c.few l c.to)
        (λ l.
        by_le (i + 2) j
        (λ q.
        two_bytes s y bs by (i + 2) j
        (get16-same x y (i + 2) (same (i + 2) (omega arith) (omega arith)) (same (i + 2 + 1) (omega arith) (omega arith)) ∙ back-before F kept r n k c.few fits ∙ has.values k c.few)
        q (omega arith))
        (λ q.
        two_bytes s y bs by i j
        (get16-same x y i (same i (omega arith) (omega arith)) (same (i + 1) (omega arith) (omega arith)) ∙ back-now F kept r n k c.few fits ∙ shown-before k c.few)
        c.from (omega arith)))

    pub taken_back_lem : y ≡ s
    taken_back_lem =
        ext_get_or 0 y s (ap length e ∙ length-put32 (paste x (base F n) kept 512) 0 (instant_of r - 1) ∙ pasted-long)
        (λ j l.
        by_le 8 j
        (λ a.
        by_le (base F n) j
        (λ b.
        by_le (base F n + 512) j
        (λ c.
        behind-instant j (omega arith) ∙ paste-behind x (base F n) kept 512 (omega (arith, x-long)) (omega arith) j c ∙ back-outside F kept r n j (inr b)
        ∙ step-spares F net ordered starts s j c)
        (λ c.
        let i : ℕ = j - base F n in
        let q : base F n + i ≡ j = omega arith in
        behind-instant j (omega arith) ∙ ap (λ (m : ℕ). get_or (paste x (base F n) kept 512) m 0) (sym q)
        ∙ paste-within x (base F n) kept 512 (omega (arith, x-long)) (omega arith) i (omega arith)
        ∙ has.elements i (omega arith)
        ∙ ap (λ (m : ℕ). get_or s m 0) q))
        (λ b. cell-back j (omega arith) b (in_cell F n j a b)))
        (λ a.
        by_le 4 j
        (λ b.
        before-elements j b (omega arith) ∙ back-outside F kept r n j (inl a) ∙ shown-header j a ∙ put32-other s 0 (instant_of s + 1) j (inr b))
        (λ b. four_bytes s y bs by j instant-back b)))

-- as the code has it, by the header's count
pub taken-back-by : (F : Format) (net : Netlist) → Ordered net.cells → (starts : Bool) (s : List ℕ) (n : ℕ) → length net.cells ≡ n → base F n + 512 ≤ length s
    → (r kept y : List ℕ) → r ≡ valued F net starts s → Kept F n s kept → Roomy kept → Bytes s → Bytes y
    → y ≡ put32 (paste (up_to (taken_back F kept) n r) (base F n) kept 512) 0 (instant_of r - 1) → y ≡ s
taken-back-by F net ordered starts s n e room r kept y a has roomy bs by q =
    taken_back_lem F net ordered starts s (rw e room) kept y (rw e has) roomy bs by (rw (a, ← e) at q)
