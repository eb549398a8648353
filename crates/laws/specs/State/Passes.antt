-- The three passes of an instant, on the bytes of a state of either format: what each leaves as it was, and what it makes of each cell.
-- Assumes nothing.
use Rattle.std.specs.Prelude.{Bool, true, ◌&&◌, ◌⊎◌, ◌≡◌, eqb, set}
use mathlib.Core.List.{List}
use Rattle.std.proofs.Math.Logic.{inl, inr, ⊎_elim}
use Rattle.std.proofs.Math.Path.{refl, sym, ap}
use Rattle.std.proofs.Common.{◌∙◌}
use Prim.Native.Nat.{ℕ, ◌+◌, ◌<◌, ◌≤◌}
use native.Mathlib.Omega.{arith}
use Rattle.std.proofs.Math.Decide.{dec_lt}
use Rattle.std.proofs.Math.ListN.{get_or, length, length-set}
use Rattle.std.proofs.Math.Seq.{get_or-set_same, get_or-set_other}
use Rattle.model.specs.declared.Cell.{Cell}
use Rattle.model.specs.declared.Merge.{Merge}
use Rattle.model.specs.declared.Format.{Format}
use Rattle.model.specs.declared.Format.TheVariants.{Full, Compact}
use Rattle.model.specs.Word.{bit, get16, get32, put32}
use Rattle.model.specs.Circuit.{cell_at, Netlist, high, remaining_step, merges, step_of, Shape, shape, k_constant, k_complement, k_operator, k_start, k_ground, k_delay, k_or, k_when_true, k_when_false, k_merge, k_return, k_memory, k_gated, k_array, k_address, k_read, k_latch, k_unknown}
use Rattle.laws.specs.Program.Trees.{by-pick}
use Rattle.laws.specs.Circuit.Shapes.{by-merge}
use Rattle.model.specs.State.{instant_of, up_to, cell_size, base, now_at, before_at, fallen, held_at, line_bit, taken_in, remaining_byte, remaining_at, value, first_value, aged, stored, shown, holding, settle, settled, counted, blank, evaluate, begin_state, step_state}
use Rattle.model.specs.CircuitPromises.{kept}
use Rattle.laws.specs.State.Bytes.{put16-other, length-put16, put16-same, get16-same, put32-other, length-put32, put32-same, get32-same, up_to-frame, up_to-length, up_to-at, cleared-zero, high_bit}
use Rattle.laws.specs.State.Lines.{least, below, remaining-from, remaining-within, rising, Line, Vacant, line_same, kept_same, vacant-same, taken-frame, length_taken, taken-new, taken-old, taken-line}

abbrev pub shape_at : Netlist → ℕ → Shape
shape_at c k = shape (cell_at c.cells k).kind

-- one instant more in the header
unfoldable pub ticked : List ℕ → List ℕ
ticked s = put32 s 0 (get32 s 0 + 1)

module _ (F : Format) where
  -- single cells
  pub aged-frame : (t : List ℕ) (k j : ℕ) → (j < base F k + 2) ⊎ (base F k + 4 ≤ j) → get_or (aged F t k) j 0 ≡ get_or t j 0
  unfolding aged
  aged-frame t k j (inl h) = put16-other t _ _ j (λ e. omega arith) (λ e. omega arith)
  aged-frame t k j (inr h) = put16-other t _ _ j (λ e. omega arith) (λ e. omega arith)

  -- an array's word stands behind all cells
  pub stored-frame : (c : Netlist) (t : List ℕ) (k j : ℕ) → j < base F (length c.cells) → get_or (stored F c t k) j 0 ≡ get_or t j 0
  unfolding stored
  stored-frame c t k j l =
      by-pick (λ (u : List ℕ). get_or u j 0 ≡ get_or t j 0) (eqb (cell_at c.cells k).kind 42 && fallen F t (cell_at c.cells k).a) _ _
      (put16-other t _ _ j (λ e. omega arith) (λ e. omega arith)) refl

  pub length-stored : (c : Netlist) (t : List ℕ) (k : ℕ) → length (stored F c t k) ≡ length t
  unfolding stored
  length-stored c t k =
      by-pick (λ (u : List ℕ). length u ≡ length t) (eqb (cell_at c.cells k).kind 42 && fallen F t (cell_at c.cells k).a) _ _ (length-put16 t _ _) refl

  -- cell k shows its value
  pub shown-put : (c : Netlist) (v : List ℕ → ℕ → ℕ) (t : List ℕ) (k j : ℕ) → (j < base F k) ⊎ (base F k + 2 ≤ j) → get_or (shown F c v t k) j 0 ≡ get_or (stored F c t k) j 0
  unfolding shown
  shown-put c v t k j (inl h) = put16-other (stored F c t k) _ _ j (λ e. omega arith) (λ e. omega arith)
  shown-put c v t k j (inr h) = put16-other (stored F c t k) _ _ j (λ e. omega arith) (λ e. omega arith)

  pub shown-frame : (c : Netlist) (v : List ℕ → ℕ → ℕ) (t : List ℕ) (k j : ℕ) → j < base F (length c.cells) → (j < base F k) ⊎ (base F k + 2 ≤ j)
      → get_or (shown F c v t k) j 0 ≡ get_or t j 0
  shown-frame c v t k j l h = shown-put c v t k j h ∙ stored-frame c t k j l

  pub holding-frame : (t : List ℕ) (k : ℕ) (m : Merge) (j : ℕ) → (j < base F k + 4) ⊎ (base F k + 6 ≤ j) → get_or (holding F t k m) j 0 ≡ get_or t j 0
  unfolding holding
  holding-frame t k m j h =
      get_or-set_other (set t (base F k + 4) (bit m.a)) (base F k + 5) j (bit m.b) 0 (λ e. ⊎_elim (λ x. omega arith) (λ x. omega arith) h)
      ∙ get_or-set_other t (base F k + 4) j (bit m.a) 0 (λ e. ⊎_elim (λ x. omega arith) (λ x. omega arith) h)

  pub settle-frame : (w : ℕ) (sh : Shape) (t : List ℕ) (k : ℕ) (c : Cell) (j : ℕ) → (j < base F k + 4) ⊎ (base F k + cell_size F ≤ j) → get_or (settle F w sh t k c) j 0 ≡ get_or t j 0
  unfolding settle
  settle-frame w k_constant t k c j h = refl
  settle-frame w k_complement t k c j h = refl
  settle-frame w k_operator t k c j h = refl
  settle-frame w k_start t k c j h = get_or-set_other t (remaining_byte F k) j _ 0 (λ e. ⊎_elim (λ x. omega (arith, remaining-from F k)) (λ x. omega (arith, remaining-within F k)) h)
  settle-frame w k_ground t k c j h = refl
  settle-frame w k_delay t k c j h = taken-frame t k c.delay _ F j (⊎_elim (λ x. inl (omega arith)) inr h)
  settle-frame w k_or t k c j h = refl
  settle-frame w k_when_true t k c j h = refl
  settle-frame w k_when_false t k c j h = refl
  settle-frame w k_merge t k c j h = holding-frame t k _ j (⊎_elim (λ x. inl x) (λ x. inr (omega (arith, least F))) h)
  settle-frame w k_return t k c j h = holding-frame t k _ j (⊎_elim (λ x. inl x) (λ x. inr (omega (arith, least F))) h)
  settle-frame w k_memory t k c j h = refl
  settle-frame w k_gated t k c j h = refl
  settle-frame w k_array t k c j h = refl
  settle-frame w k_address t k c j h = refl
  settle-frame w k_read t k c j h = refl
  settle-frame w k_latch t k c j h = refl
  settle-frame w k_unknown t k c j h = refl

  pub settled-frame : (c : Netlist) (t : List ℕ) (k j : ℕ) → (j < base F k + 4) ⊎ (base F k + cell_size F ≤ j) → get_or (settled F c t k) j 0 ≡ get_or t j 0
  settled-frame c t k j h = settle-frame c.pulse (shape_at c k) t k (cell_at c.cells k) j h

  pub length-holding : (t : List ℕ) (k : ℕ) (m : Merge) → length (holding F t k m) ≡ length t
  unfolding holding
  length-holding t k m = simp length-set

  length-settle : (w : ℕ) (sh : Shape) (t : List ℕ) (k : ℕ) (c : Cell) → length (settle F w sh t k c) ≡ length t
  unfolding settle
  length-settle w k_constant t k c = refl
  length-settle w k_complement t k c = refl
  length-settle w k_operator t k c = refl
  length-settle w k_start t k c = length-set t (remaining_byte F k) _
  length-settle w k_ground t k c = refl
  length-settle w k_delay t k c = length_taken t k c.delay _ F
  length-settle w k_or t k c = refl
  length-settle w k_when_true t k c = refl
  length-settle w k_when_false t k c = refl
  length-settle w k_merge t k c = length-holding t k _
  length-settle w k_return t k c = length-holding t k _
  length-settle w k_memory t k c = refl
  length-settle w k_gated t k c = refl
  length-settle w k_array t k c = refl
  length-settle w k_address t k c = refl
  length-settle w k_read t k c = refl
  length-settle w k_latch t k c = refl
  length-settle w k_unknown t k c = refl

  pub length-settled : (c : Netlist) (t : List ℕ) (k : ℕ) → length (settled F c t k) ≡ length t
  length-settled c t k = length-settle c.pulse (shape_at c k) t k (cell_at c.cells k)

  -- the number is put into bytes 4 to 7
  pub counted-other : (c : Netlist) (s : List ℕ) (j : ℕ) → (j < 4) ⊎ (8 ≤ j) → get_or (counted F c s) j 0 ≡ get_or s j 0
  unfolding counted
  counted-other c s j h = put32-other s 4 _ j h

  pub length-counted : (c : Netlist) (s : List ℕ) → length (counted F c s) ≡ length s
  unfolding counted
  length-counted c s = length-put32 s 4 _

  pub now-counted : (c : Netlist) (s : List ℕ) (k : ℕ) → now_at F (counted F c s) k ≡ now_at F s k
  now-counted c s k =
      get16-same s (counted F c s) (base F k) (counted-other c s (base F k) (inr (omega arith))) (counted-other c s (base F k + 1) (inr (omega arith)))

  -- the header: an instant leaves the first four bytes as they are, and a step counts one instant more
  pub header : (c : Netlist) (v : List ℕ → ℕ → ℕ) (u : List ℕ) (i : ℕ) → i < 4 → get_or (evaluate F c v u) i 0 ≡ get_or u i 0
  unfolding evaluate
  header c v u i h =
      counted-other c _ i (inl h)
      ∙ up_to-frame (settled F c) i _ _ (λ t k g. settled-frame c t k i (inl (omega arith)))
      ∙ up_to-frame (shown F c v) i _ _ (λ t k g. shown-frame c v t k i (omega arith) (inl (omega arith)))

  pub count-now : (c : Netlist) (starts : Bool) (s : List ℕ) → 3 < length s → instant_of (step_state F c starts s) ≡ instant_of s + 1
  unfolding step_state
  count-now c starts s l =
      let u = put32 s 0 (instant_of s + 1) in
      get32-same u (step_state F c starts s) 0
      (λ j x y. header c (value F c starts) (up_to (aged F) (length c.cells) u) j y ∙ up_to-frame (aged F) j (length c.cells) u (λ t k g. aged-frame t k j (inl (omega arith))))
      ∙ put32-same s 0 (instant_of s + 1) (omega arith)

  -- the last pass, by shape
  settled-delay : (c : Netlist) (s : List ℕ) (k : ℕ) → shape_at c k ≡ k_delay → settled F c s k ≡ taken_in F s k (cell_at c.cells k).delay (high (now_at F s (cell_at c.cells k).a))
  unfolding settle
  settled-delay c s k e = ap (λ (sh : Shape). settle F c.pulse sh s k (cell_at c.cells k)) e

  settled-start : (c : Netlist) (s : List ℕ) (k : ℕ) → shape_at c k ≡ k_start
      → settled F c s k ≡ set s (remaining_byte F k) (remaining_step c.pulse (remaining_at F s k) (high (now_at F s k)))
  unfolding settle
  settled-start c s k e = ap (λ (sh : Shape). settle F c.pulse sh s k (cell_at c.cells k)) e

  pub settle-merge : (w : ℕ) (s : List ℕ) (k : ℕ) (c : Cell) → merges c.kind ≡ true
      → settle F w (shape c.kind) s k c ≡ holding F s k (step_of w c.kind (high (before_at F s k)) (held_at F s k) (high (now_at F s c.a)) (high (now_at F s c.b))).held
  unfolding settle shape step_of
  settle-merge w s k c e =
      let held : ℕ → List ℕ = λ j. holding F s k (step_of w j (high (before_at F s k)) (held_at F s k) (high (now_at F s c.a)) (high (now_at F s c.b))).held in
      by-merge c.kind e (λ q. ap (λ (j : ℕ). settle F w (shape j) s k c) q ∙ sym (ap held q)) (λ q. ap (λ (j : ℕ). settle F w (shape j) s k c) q ∙ sym (ap held q))

  settled-merge : (c : Netlist) (s : List ℕ) (k : ℕ) → merges (cell_at c.cells k).kind ≡ true
      → settled F c s k ≡ holding F s k (step_of c.pulse (cell_at c.cells k).kind (high (before_at F s k)) (held_at F s k) (high (now_at F s (cell_at c.cells k).a)) (high (now_at F s (cell_at c.cells k).b))).held
  settled-merge c s k e = settle-merge c.pulse s k (cell_at c.cells k) e

  -- byte j lies in cell k, and cell m is another: it lies outside of that
  pub apart : (k m j : ℕ) → base F k ≤ j → j < base F k + cell_size F → (m ≡ k → ⊥) → (j < base F m) ⊎ (base F m + cell_size F ≤ j)
  apart k m j h g n = go (dec_lt m k)
    where
      go : Dec (m < k) → (j < base F m) ⊎ (base F m + cell_size F ≤ j)
      go (yes x) = inr (omega (arith, below F m k x))
      go (no x) = inl (omega (arith, below F k m (omega (arith, x, n))))

  length-aged : (t : List ℕ) (k : ℕ) → length (aged F t k) ≡ length t
  unfolding aged
  length-aged t k = length-put16 t _ _

  length-shown : (c : Netlist) (v : List ℕ → ℕ → ℕ) (t : List ℕ) (k : ℕ) → length (shown F c v t k) ≡ length t
  unfolding shown
  length-shown c v t k = length-put16 (stored F c t k) _ _ ∙ length-stored c t k

  ticked-frame : (s : List ℕ) (j : ℕ) → 4 ≤ j → get_or (ticked s) j 0 ≡ get_or s j 0
  unfolding ticked
  ticked-frame s j h = put32-other s 0 (get32 s 0 + 1) j (inr h)

  length-ticked : (s : List ℕ) → length (ticked s) ≡ length s
  unfolding ticked
  length-ticked s = length-put32 s 0 (get32 s 0 + 1)

  -- ---- the first pass

  unfoldable pub one : List ℕ → ℕ → List ℕ
  one s n = up_to (aged F) n (ticked s)

  module _ (s : List ℕ) where
    pub length-one : (n : ℕ) → length (one s n) ≡ length s
    unfolding one
    length-one n = up_to-length (aged F) length-aged n (ticked s) ∙ length-ticked s

    one-low : (n k j : ℕ) → base F k ≤ j → j < base F k + 2 → get_or (one s n) j 0 ≡ get_or s j 0
    unfolding one
    one-low n k j h g = up_to-frame (aged F) j n (ticked s) (λ t m x. aged-frame t m j (go m (dec_lt m k))) ∙ ticked-frame s j (omega arith)
      where
        go : (m : ℕ) → Dec (m < k) → (j < base F m + 2) ⊎ (base F m + 4 ≤ j)
        go m (yes x) = inr (omega (arith, below F m k x, least F))
        go m (no x) = inl (omega (arith, rising F k m (omega (arith, x))))

    pub one-high : (n k j : ℕ) → base F k + 4 ≤ j → j < base F k + cell_size F → get_or (one s n) j 0 ≡ get_or s j 0
    unfolding one
    one-high n k j h g = up_to-frame (aged F) j n (ticked s) (λ t m x. aged-frame t m j (go m (dec_lt k m))) ∙ ticked-frame s j (omega arith)
      where
        go : (m : ℕ) → Dec (k < m) → (j < base F m + 2) ⊎ (base F m + 4 ≤ j)
        go m (yes x) = inl (omega (arith, below F k m x))
        go m (no x) = inr (omega (arith, rising F m k (omega (arith, x))))

    pub now-one : (n k : ℕ) → now_at F (one s n) k ≡ now_at F s k
    now-one n k = get16-same s (one s n) (base F k) (one-low n k (base F k) (omega arith) (omega arith)) (one-low n k (base F k + 1) (omega arith) (omega arith))

    pub before-one : (n k : ℕ) → k < n → base F k + cell_size F ≤ length s → before_at F (one s n) k ≡ now_at F s k
    unfolding one aged
    before-one n k h r =
        get16-same (aged F (one s k) k) (one s n) (base F k + 2) (at (base F k + 2) (omega arith) (omega arith)) (at (base F k + 2 + 1) (omega arith) (omega arith))
        ∙ put16-same (one s k) (base F k + 2) (now_at F (one s k) k) (rw (length-one k) (omega (arith, least F)))
        ∙ now-one k k
      where
        at : (j : ℕ) → base F k + 2 ≤ j → j < base F k + 4 → get_or (one s n) j 0 ≡ get_or (aged F (one s k) k) j 0
        at j x y = up_to-at (aged F) j k n (ticked s) (λ t m b e. aged-frame t m j (⊎_elim (λ z. inl (omega arith)) (λ z. inr (omega (arith, least F))) (apart k m j (omega arith) (omega (arith, least F)) e))) h

    -- what stands behind the n cells stays
    pub one-behind : (n j : ℕ) → base F n ≤ j → get_or (one s n) j 0 ≡ get_or s j 0
    unfolding one
    one-behind n j h = up_to-frame (aged F) j n (ticked s) (λ t m x. aged-frame t m j (inr (omega (arith, below F m n x, least F)))) ∙ ticked-frame s j (omega arith)

  -- ---- the second pass, from u on, with v for the cells' values

  unfoldable pub two : Netlist → (List ℕ → ℕ → ℕ) → List ℕ → ℕ → List ℕ
  two c v u n = up_to (shown F c v) n u

  module _ (c : Netlist) (v : List ℕ → ℕ → ℕ) (u : List ℕ) where
    pub length_two : (n : ℕ) → length (two c v u n) ≡ length u
    unfolding two
    length_two n = up_to-length (shown F c v) (length-shown c v) n u

    pub two-high : (n k j : ℕ) → k < length c.cells → base F k + 2 ≤ j → j < base F k + cell_size F → get_or (two c v u n) j 0 ≡ get_or u j 0
    unfolding two
    two-high n k j l h g = up_to-frame (shown F c v) j n u (λ t m x. shown-frame c v t m j (omega (arith, below F k (length c.cells) l)) (go m (dec_lt k m)))
      where
        go : (m : ℕ) → Dec (k < m) → (j < base F m) ⊎ (base F m + 2 ≤ j)
        go m (yes x) = inl (omega (arith, below F k m x))
        go m (no x) = inr (omega (arith, rising F m k (omega (arith, x))))

    pub now-two : (n k : ℕ) → k < n → k < length c.cells → base F k + cell_size F ≤ length u → now_at F (two c v u n) k ≡ v (two c v u k) k
    unfolding two shown
    now-two n k h l r =
        get16-same (shown F c v (two c v u k) k) (two c v u n) (base F k) (at (base F k) (omega arith) (omega arith)) (at (base F k + 1) (omega arith) (omega arith))
        ∙ put16-same (stored F c (two c v u k) k) (base F k) (v (two c v u k) k) (rw (length-stored c (two c v u k) k, length_two k) (omega (arith, least F)))
      where
        at : (j : ℕ) → base F k ≤ j → j < base F k + 2 → get_or (two c v u n) j 0 ≡ get_or (shown F c v (two c v u k) k) j 0
        at j x y = up_to-at (shown F c v) j k n u (λ t m b e. shown-frame c v t m j (omega (arith, below F k (length c.cells) l, least F)) (⊎_elim (λ z. inl z) (λ z. inr (omega (arith, least F))) (apart k m j x (omega (arith, least F)) e))) h

    pub seen-before : (n a : ℕ) → a < length c.cells → before_at F (two c v u n) a ≡ before_at F u a
    seen-before n a l = get16-same u (two c v u n) (base F a + 2) (two-high n a (base F a + 2) l (omega (arith, least F)) (omega (arith, least F))) (two-high n a (base F a + 2 + 1) l (omega (arith, least F)) (omega (arith, least F)))

    pub seen-held : (n k : ℕ) → k < length c.cells → held_at F (two c v u n) k ≡ held_at F u k
    unfolding held_at
    seen-held n k l = cc (two-high n k (base F k + 4) l (omega (arith, least F)) (omega (arith, least F)), two-high n k (base F k + 5) l (omega (arith, least F)) (omega (arith, least F)))

    pub seen-line : (n k d i : ℕ) → k < length c.cells → i < kept F d → line_bit F (two c v u n) k d i ≡ line_bit F u k d i
    seen-line n k d i l h = line_same u (two c v u n) k d F (λ j x y. two-high n k j l (omega arith) y) i h

  -- ---- the third pass

  unfoldable pub three : Netlist → (List ℕ → ℕ → ℕ) → List ℕ → ℕ → List ℕ
  three c v u n = up_to (settled F c) n (two c v u (length c.cells))

  pub same-held : (k : ℕ) (t u : List ℕ) → get_or t (base F k + 4) 0 ≡ get_or u (base F k + 4) 0 → get_or t (base F k + 5) 0 ≡ get_or u (base F k + 5) 0 → held_at F t k ≡ held_at F u k
  unfolding held_at
  same-held k t u x y = cc

  pub held-holding : (t : List ℕ) (k : ℕ) (m : Merge) → base F k + cell_size F ≤ length t → held_at F (holding F t k m) k ≡ m
  unfolding held_at holding
  held-holding t k m h =
      let x : get_or (set (set t (base F k + 4) (bit m.a)) (base F k + 5) (bit m.b)) (base F k + 4) 0 ≡ bit m.a =
      get_or-set_other (set t (base F k + 4) (bit m.a)) (base F k + 5) (base F k + 4) (bit m.b) 0 (λ e. omega arith)
      ∙ get_or-set_same t (base F k + 4) (bit m.a) 0 (omega (arith, least F)) in
      let y : get_or (set (set t (base F k + 4) (bit m.a)) (base F k + 5) (bit m.b)) (base F k + 5) 0 ≡ bit m.b =
      get_or-set_same (set t (base F k + 4) (bit m.a)) (base F k + 5) (bit m.b) 0 (simp length-set (omega (arith, least F))) in
      rw (x, y, high_bit m.a, high_bit m.b)

  module _ (c : Netlist) (v : List ℕ → ℕ → ℕ) (u : List ℕ) where
    -- the state after the three passes
    abbrev pub after : List ℕ
    after = three c v u (length c.cells)

    pub length_three : (n : ℕ) → length (three c v u n) ≡ length u
    unfolding three
    length_three n = up_to-length (settled F c) (length-settled c) n (two c v u (length c.cells)) ∙ length_two c v u (length c.cells)

    three-low : (n k j : ℕ) → base F k ≤ j → j < base F k + 4 → get_or (three c v u n) j 0 ≡ get_or (two c v u (length c.cells)) j 0
    unfolding three
    three-low n k j h g = up_to-frame (settled F c) j n (two c v u (length c.cells)) (λ t m x. settled-frame c t m j (go m (dec_lt m k)))
      where
        go : (m : ℕ) → Dec (m < k) → (j < base F m + 4) ⊎ (base F m + cell_size F ≤ j)
        go m (yes x) = inr (omega (arith, below F m k x))
        go m (no x) = inl (omega (arith, rising F k m (omega (arith, x))))

    pub now-three : (n k : ℕ) → now_at F (three c v u n) k ≡ now_at F (two c v u (length c.cells)) k
    now-three n k = get16-same (two c v u (length c.cells)) (three c v u n) (base F k) (three-low n k (base F k) (omega arith) (omega arith)) (three-low n k (base F k + 1) (omega arith) (omega arith))

    pub before-after : (k : ℕ) → k < length c.cells → before_at F after k ≡ before_at F u k
    before-after k l =
        get16-same (two c v u (length c.cells)) after (base F k + 2) (three-low (length c.cells) k (base F k + 2) (omega arith) (omega arith)) (three-low (length c.cells) k (base F k + 2 + 1) (omega arith) (omega arith))
        ∙ seen-before c v u (length c.cells) k l

    -- before cell k, its own bytes are as they were before the second pass; after it they are as it made them
    pub third-own : (k j : ℕ) → k < length c.cells → base F k + 2 ≤ j → j < base F k + cell_size F → get_or (three c v u k) j 0 ≡ get_or u j 0
    unfolding three
    third-own k j l h g =
        up_to-frame (settled F c) j k (two c v u (length c.cells)) (λ t m x. settled-frame c t m j (inr (omega (arith, below F m k x))))
        ∙ two-high c v u (length c.cells) k j l h g

    pub third_at : (k j : ℕ) → k < length c.cells → base F k ≤ j → j < base F k + cell_size F → get_or after j 0 ≡ get_or (settled F c (three c v u k) k) j 0
    unfolding three
    third_at k j g x y = up_to-at (settled F c) j k (length c.cells) (two c v u (length c.cells)) (λ t m b e. settled-frame c t m j (⊎_elim (λ z. inl (omega arith)) inr (apart k m j x y e))) g

    -- what stands behind all cells stays
    pub after-behind : (j : ℕ) → base F (length c.cells) ≤ j → get_or after j 0 ≡ get_or (two c v u (length c.cells)) j 0
    unfolding three
    after-behind j h = up_to-frame (settled F c) j (length c.cells) (two c v u (length c.cells)) (λ t m x. settled-frame c t m j (inr (omega (arith, below F m (length c.cells) x))))

    module _ (room : base F (length c.cells) ≤ length u) where
      pub now-after : (k : ℕ) → k < length c.cells → now_at F after k ≡ v (two c v u k) k
      now-after k h = now-three (length c.cells) k ∙ now-two c v u (length c.cells) k h h (omega (arith, below F k (length c.cells) h))

      -- a lower cell is seen as it is after
      pub seen-now : (k a : ℕ) → k < length c.cells → a < k → now_at F (two c v u k) a ≡ now_at F after a
      seen-now k a g h = now-two c v u k a h (omega arith) (omega (arith, below F a (length c.cells) (omega arith))) ∙ sym (now-after a (omega arith))

      before-own : (k : ℕ) → k < length c.cells → before_at F (three c v u k) k ≡ before_at F u k
      before-own k h =
          get16-same u (three c v u k) (base F k + 2) (third-own k (base F k + 2) h (omega arith) (omega (arith, least F)))
          (third-own k (base F k + 2 + 1) h (omega arith) (omega (arith, least F)))

      -- how many high instants of the start remain
      pub remaining-after : (k : ℕ) → k < length c.cells → shape_at c k ≡ k_start
          → remaining_at F after k ≡ remaining_step c.pulse (remaining_at F u k) (high (now_at F after k))
      remaining-after k h e =
          let from : base F k + 6 ≤ remaining_byte F k = remaining-from F k in
          let within : remaining_byte F k < base F k + cell_size F = remaining-within F k in
          third_at k (remaining_byte F k) h (omega arith) within
          ∙ ap (λ (t : List ℕ). get_or t (remaining_byte F k) 0) (settled-start c (three c v u k) k e)
          ∙ get_or-set_same (three c v u k) (remaining_byte F k) _ 0 (rw (length_three k) (omega (arith, below F k (length c.cells) h)))
          ∙ rw (third-own k (remaining_byte F k) h (omega arith) within, now-three k k, now-three (length c.cells) k)

      -- what a merge holds
      pub held_after : (k : ℕ) → k < length c.cells → merges (cell_at c.cells k).kind ≡ true
          → held_at F after k ≡ (step_of c.pulse (cell_at c.cells k).kind (high (before_at F u k)) (held_at F u k) (high (now_at F after (cell_at c.cells k).a)) (high (now_at F after (cell_at c.cells k).b))).held
      held_after k h e =
          same-held k after (settled F c (three c v u k) k) (third_at k (base F k + 4) h (omega (arith, least F)) (omega (arith, least F))) (third_at k (base F k + 5) h (omega (arith, least F)) (omega (arith, least F)))
          ∙ ap (λ (t : List ℕ). held_at F t k) (settled-merge c (three c v u k) k e)
          ∙ held-holding (three c v u k) k _ (rw (length_three k) (omega (arith, below F k (length c.cells) h)))
          ∙ rw (
            before-own k h,
            same-held k (three c v u k) u (third-own k (base F k + 4) h (omega arith) (omega (arith, least F))) (third-own k (base F k + 5) h (omega arith) (omega (arith, least F))),
            now-three k (cell_at c.cells k).a,
            now-three k (cell_at c.cells k).b,
            now-three (length c.cells) (cell_at c.cells k).a,
            now-three (length c.cells) (cell_at c.cells k).b,
          )

  -- ---- the line of a delay of d in the third pass

  module _ (c : Netlist) (v : List ℕ → ℕ → ℕ) (u : List ℕ) (room : base F (length c.cells) ≤ length u)
      (k : ℕ) (h : k < length c.cells) (e : shape_at c k ≡ k_delay) (kept_in : Line F u k (cell_at c.cells k).delay) where
    abbrev d : ℕ
    d = (cell_at c.cells k).delay

    abbrev input : Bool
    input = high (now_at F (after c v u) (cell_at c.cells k).a)

    -- the line before its cell, and after it
    own : (j : ℕ) → base F k + 6 ≤ j → j < base F k + cell_size F → get_or (three c v u k) j 0 ≡ get_or u j 0
    own j x y = third-own c v u k j h (omega arith) y

    taken : List ℕ
    taken = taken_in F (three c v u k) k d input

    byte-after : (j : ℕ) → base F k + 6 ≤ j → j < base F k + cell_size F → get_or (after c v u) j 0 ≡ get_or taken j 0
    unfolding taken
    byte-after j x y =
        third_at c v u k j h (omega arith) y
        ∙ ap (λ (t : List ℕ). get_or t j 0) (settled-delay c (three c v u k) k e)
        ∙ ap (λ (n : ℕ). get_or (taken_in F (three c v u k) k d (high n)) j 0)
        (now-three c v u k (cell_at c.cells k).a ∙ sym (now-three c v u (length c.cells) (cell_at c.cells k).a))

    kept-own : Line F (three c v u k) k d
    kept-own = kept_same u (three c v u k) k d F own kept_in

    fits-own : base F k + cell_size F ≤ length (three c v u k)
    fits-own = rw (length_three c v u k) (omega (arith, below F k (length c.cells) h))

    -- the newest input is the one now, each other one is an instant older, and the bytes stay in range
    pub line-new : 1 ≤ d → line_bit F (after c v u) k d 0 ≡ bit input
    unfolding taken
    line-new pos = line_same taken (after c v u) k d F byte-after 0 (some F) ∙ taken-new (three c v u k) k d input F pos kept-own fits-own
      where
        some : (F : Format) → 0 < kept F d
        some Full = omega arith
        some Compact = omega arith

    pub line-old : Vacant F u k input → (i : ℕ) → i + 1 < kept F d → line_bit F (after c v u) k d (i + 1) ≡ line_bit F u k d i
    unfolding taken
    line-old vacant i g =
        line_same taken (after c v u) k d F byte-after (i + 1) g
        ∙ taken-old (three c v u k) k d input F kept-own (vacant-same u (three c v u k) k d F own input vacant) fits-own i g
        ∙ line_same u (three c v u k) k d F own i (omega arith)

    pub line_kept : Line F (after c v u) k d
    unfolding taken
    line_kept = kept_same taken (after c v u) k d F byte-after (taken-line (three c v u k) k d input F kept-own fits-own)

  -- ---- an instant is the second and the third pass, then the number; a step comes from the first pass's end

  pub evaluate-is : (c : Netlist) (v : List ℕ → ℕ → ℕ) (u : List ℕ) → evaluate F c v u ≡ counted F c (after c v u)
  unfolding evaluate three two
  evaluate-is c v u = refl

  pub step_is : (c : Netlist) (starts : Bool) (s : List ℕ) → step_state F c starts s ≡ counted F c (after c (value F c starts) (one s (length c.cells)))
  unfolding step_state one ticked
  step_is c starts s = evaluate-is c (value F c starts) (one s (length c.cells))

  -- Beginning ----------------------------------------------------------------------------------------------------------------------------

  module _ (net : Netlist) (words : ℕ → ℕ) (s : List ℕ) where
    pub begin-is : begin_state F net words s ≡ counted F net (after net (first_value F net words) (blank F net words s))
    unfolding begin_state
    begin-is = evaluate-is net (first_value F net words) (blank F net words s)

    pub begin-instant : instant_of (begin_state F net words s) ≡ 0
    unfolding begin_state get32 get16
    begin-instant = omega (arith, at 0 (omega arith), at 1 (omega arith), at 2 (omega arith), at 3 (omega arith))
      where
        at : (j : ℕ) → j < 4 → get_or (evaluate F net (first_value F net words) (blank F net words s)) j 0 ≡ 0
        at j h = header net (first_value F net words) (blank F net words s) j h ∙ cleared-zero (base F (length net.cells)) _ j (omega arith)
