-- The law that lets idle instants be skipped: where nothing is due, every control wire, gate and sum of gates is 0 an instant later, and every
-- other word stays.
-- Assumes nothing.
use Rattle.std.specs.Prelude.{Bool, true, ◌&&◌, ◌⊎◌, ◌≡◌, ℕ, zero, suc, ◌+◌, ◌-◌, ◌*◌, ◌<◌, ◌≤◌, eqb, length}
use Rattle.std.proofs.Math.Bool.{false}
use Rattle.std.proofs.Common.{inl, inr, ⊎_elim, ◌∙◌, not-suc-le-zero, le_of_suc-le-suc, eq-or-lt_of_le, le_refl, arith}
use Rattle.std.proofs.Math.Path.{refl, sym, ap, ap₂}
use Rattle.model.specs.declared.Cell.{Cell}
use Rattle.model.specs.declared.Merge.{Merge}
use Rattle.model.specs.Word.{pick, bit, operate, index, element_of}
use Rattle.model.specs.Circuit.{Netlist, cell_at, high, short_merge, short_return, long_merge, long_return, merge_step, return_step, array_at, Shape, shape, cell_table, k_constant, k_complement, k_operator, k_start, k_ground, k_delay, k_or, k_when_true, k_when_false, k_merge, k_return, k_memory, k_gated, k_array, k_address, k_read, k_latch, k_unknown}
use Rattle.laws.specs.Circuit.Ordered.{kinds, Looks, Ordered}
use Rattle.laws.specs.State.Passes.{shape_at}
use Rattle.laws.specs.Circuit.Inputs.{read_looks}
use Rattle.engine_laws.specs.View.{View, shows, falls}

-- Which cells an idle instant clears: control wires, gates, and ors of cleared words; other words look at no cleared word.
abbrev pub Clears : Shape → (ℕ → Bool) → ℕ → Cell → Type 0
Clears k_constant g k c = g k ≡ false
Clears k_complement g k c = (g k ≡ false) × (g c.a ≡ false)
Clears k_operator g k c = ((g k ≡ true) × (c.kind ≡ 7) × (g c.a ≡ true) × (g c.b ≡ true)) ⊎ ((g k ≡ false) × (g c.a ≡ false) × (g c.b ≡ false))
Clears k_start g k c = g k ≡ true
Clears k_ground g k c = g k ≡ true
Clears k_delay g k c = (g k ≡ true) × (g c.a ≡ true)
Clears k_or g k c = (g k ≡ true) × (g c.a ≡ true) × (g c.b ≡ true)
Clears k_when_true g k c = (g k ≡ true) × (g c.a ≡ true)
Clears k_when_false g k c = (g k ≡ true) × (g c.a ≡ true)
Clears k_merge g k c = (g k ≡ true) × (g c.a ≡ true) × (g c.b ≡ true)
Clears k_return g k c = (g k ≡ true) × (g c.a ≡ true) × (g c.b ≡ true)
Clears k_memory g k c = (g k ≡ false) × (g c.a ≡ true)
Clears k_gated g k c = (g k ≡ true) × (g c.a ≡ true)
Clears k_array g k c = (g k ≡ false) × (g c.a ≡ true)
Clears k_address g k c = g k ≡ false
Clears k_read g k c = (g k ≡ false) × (g c.b ≡ false)
Clears k_latch g k c = (g k ≡ false) × (g c.a ≡ true)
Clears k_unknown g k c = g k ≡ false

-- a delay is cleared, and so is its input
pub delay-clears : (sh : Shape) (g : ℕ → Bool) (k : ℕ) (c : Cell) → sh ≡ k_delay → Clears sh g k c → (g k ≡ true) × (g c.a ≡ true)
delay-clears sh g k c e z = let y : Clears k_delay g k c = rw e at z in y

-- what a cell needs so that nothing of it is due in the next instant; words that stay are as their inputs say
abbrev pub Idle : Shape → Netlist → (ℕ → Bool) → View → ℕ → Cell → Type 0
Idle k_constant net g v k c = v.now k ≡ c.a
Idle k_complement net g v k c = v.now k ≡ operate 3 (v.now c.a) 0
Idle k_operator net g v k c = g k ≡ false → v.now k ≡ operate c.kind (v.now c.a) (v.now c.b)
Idle k_start net g v k c = v.remaining k ≡ 0
Idle k_ground net g v k c = Unit {0}
Idle k_delay net g v k c = v.line k (c.delay - 1) ≡ 0
Idle k_or net g v k c = Unit {0}
Idle k_when_true net g v k c = Unit {0}
Idle k_when_false net g v k c = Unit {0}
Idle k_merge net g v k c = (v.held k).a && (v.held k).b ≡ false
Idle k_return net g v k c = Unit {0}
Idle k_memory net g v k c = high (v.now c.a) ≡ false
Idle k_gated net g v k c = Unit {0}
Idle k_array net g v k c = (high (v.now c.a) ≡ false) × (v.now k ≡ 0)
Idle k_address net g v k c = v.now k ≡ 0
Idle k_read net g v k c = v.now k ≡ v.word (element_of (cell_at net.cells c.a).delay (v.now c.b))
Idle k_latch net g v k c = high (v.now c.a) ≡ false
Idle k_unknown net g v k c = v.now k ≡ 0

-- in an idle instant a cell is cleared or stays
abbrev pub Stays : Bool → View → View → ℕ → Type 0
Stays true v w k = w.now k ≡ 0
Stays false v w k = w.now k ≡ v.now k

stays : (b : Bool) (v w : View) (k : ℕ) → b ≡ false → w.now k ≡ v.now k → Stays b v w k
stays b v w k e h = rw e h

clears : (b : Bool) (v w : View) (k : ℕ) → b ≡ true → w.now k ≡ 0 → Stays b v w k
clears b v w k e h = rw e h

pub low : (b : Bool) (v w : View) (k : ℕ) → b ≡ true → Stays b v w k → w.now k ≡ 0
low b v w k e h = rw e at h

pub same : (b : Bool) (v w : View) (k : ℕ) → b ≡ false → Stays b v w k → w.now k ≡ v.now k
same b v w k e h = rw e at h

merge_low : (one was : Bool) (m : Merge) → m.a && m.b ≡ false → bit (merge_step one was m false false).out ≡ 0
unfolding merge_step short_merge long_merge bit
merge_low true was m e = rw e
merge_low false was m e = rw e

return-low : (one was : Bool) (m : Merge) → bit (return_step one was m false false).out ≡ 0
unfolding return_step short_return long_return bit
return-low true was m = go m.a
  where
    go : (b : Bool) → bit (b && false) ≡ 0
    go true = refl
    go false = refl
return-low false was m = go m.a
  where
    go : (b : Bool) → bit (b && false) ≡ 0
    go true = refl
    go false = refl

or-low : operate 7 0 0 ≡ 0
unfolding operate
or-low = refl

module _ (net : Netlist) (g : ℕ → Bool) (v w : View) (K : ℕ → ℕ) (n k : ℕ) (c : Cell) (lower : (j : ℕ) → j < k → Stays (g j) v w j)
    (words : (a i : ℕ) → a < 4 → i < 64 → w.word (64 * a + i) ≡ v.word (64 * a + i)) where
  gone : (j : ℕ) → j < k → g j ≡ true → w.now j ≡ 0
  gone j l e = low (g j) v w j e (lower j l)

  here : (j : ℕ) → j < k → g j ≡ false → w.now j ≡ v.now j
  here j l e = same (g j) v w j e (lower j l)

  idle-cell : (sh : Shape) → Looks (cell_table sh).row K n k c → Clears sh g k c → (sh ≡ k_read → (cell_at net.cells c.a).delay < 4) → Idle sh net g v k c
      → w.now k ≡ shows sh net v w k c → Stays (g k) v w k
  unfolding shows bit cell_table
  idle-cell k_constant o z r i e = stays (g k) v w k z (e ∙ sym i)
  idle-cell k_complement o z r i e = stays (g k) v w k z.0 (e ∙ ap (λ (x : ℕ). operate 3 x 0) (here c.a o.1.0 z.1) ∙ sym i)
  idle-cell k_operator o (inl z) r i e =
      clears (g k) v w k z.0 (e ∙ rw (z.1, gone c.a o.1.0 z.2, gone c.b o.2.0 z.3) or-low)
  idle-cell k_operator o (inr z) r i e =
      stays (g k) v w k z.0
      (e ∙ ap₂ (λ (x y : ℕ). operate c.kind x y) (here c.a o.1.0 z.1) (here c.b o.2.0 z.2) ∙ sym (i z.0))
  idle-cell k_start o z r i e = clears (g k) v w k z (e ∙ rw i refl)
  idle-cell k_ground o z r i e = clears (g k) v w k z e
  idle-cell k_delay o z r i e = clears (g k) v w k z.0 (e ∙ i)
  idle-cell k_or o z r i e = clears (g k) v w k z.0 (e ∙ rw (gone c.a o.1.0 z.1, gone c.b o.2.0 z.2) refl)
  idle-cell k_when_true o z r i e = clears (g k) v w k z.0 (e ∙ rw (gone c.a o.1.0 z.1) refl)
  idle-cell k_when_false o z r i e = clears (g k) v w k z.0 (e ∙ rw (gone c.a o.1.0 z.1) refl)
  idle-cell k_merge o z r i e = clears (g k) v w k z.0 (e ∙ rw (gone c.a o.1.0 z.1, gone c.b o.2.0 z.2) (merge_low (eqb net.pulse 1) (high (v.now k)) (v.held k) i))
  idle-cell k_return o z r i e = clears (g k) v w k z.0 (e ∙ rw (gone c.a o.1.0 z.1, gone c.b o.2.0 z.2) (return-low (eqb net.pulse 1) (high (v.now k)) (v.held k)))
  idle-cell k_memory o z r i e = stays (g k) v w k z.0 (e ∙ rw i refl)
  idle-cell k_gated o z r i e = clears (g k) v w k z.0 (e ∙ rw (gone c.a o.1.0 z.1) refl)
  idle-cell k_array o z r i e = stays (g k) v w k z.0 (e ∙ sym i.1)
  idle-cell k_address o z r i e = stays (g k) v w k z (e ∙ sym i)
  idle-cell k_read o z r i e =
      stays (g k) v w k z.0
      (e ∙ words (cell_at net.cells c.a).delay (index (w.now c.b)) (r refl) (omega arith)
      ∙ ap (λ (x : ℕ). v.word (element_of (cell_at net.cells c.a).delay x)) (here c.b o.2.0 z.1) ∙ sym i)
  idle-cell k_latch o z r i e = stays (g k) v w k z.0 (e ∙ rw i refl)
  idle-cell k_unknown o z r i e = stays (g k) v w k z (e ∙ sym i)

-- the number of the array that a cell reads
pub read_low : (net : Netlist) → Ordered net.cells → (k : ℕ) → k < length net.cells → shape_at net k ≡ k_read
    → (cell_at net.cells (cell_at net.cells k).a).delay < 4
read_low net ordered k h e =
    let o = read_looks (kinds net.cells) (length net.cells) k (cell_at net.cells k) e (ordered.looks k h) in
    (ordered.stands (cell_at net.cells k).a (omega (arith, o.0)) o.2).0

module _ (net : Netlist) (ordered : Ordered net.cells) (g : ℕ → Bool)
    (cleared : (k : ℕ) → k < length net.cells → Clears (shape_at net k) g k (cell_at net.cells k)) (v w : View)
    (present : (k : ℕ) → k < length net.cells → w.now k ≡ shows (shape_at net k) net v w k (cell_at net.cells k))
    (words : (a i : ℕ) → a < 4 → i < 64
    → w.word (64 * a + i)
    ≡ pick (falls v w (cell_at net.cells (array_at net.cells a)).a && eqb i (index (v.now (cell_at net.cells (array_at net.cells a + 1)).a)))
    (v.now (cell_at net.cells (array_at net.cells a)).b) (v.word (64 * a + i)))
    (idle : (k : ℕ) → k < length net.cells → Idle (shape_at net k) net g v k (cell_at net.cells k)) where
  array-idle : (sh : Shape) (k : ℕ) (c : Cell) → sh ≡ k_array → Idle sh net g v k c → high (v.now c.a) ≡ false
  array-idle sh k c e i = let j : Idle k_array net g v k c = rw e at i in j.0

  -- no array takes a word in
  pub idle-word : (a i : ℕ) → a < 4 → i < 64 → w.word (64 * a + i) ≡ v.word (64 * a + i)
  unfolding shape cell_table
  idle-word a i la li =
      let r = ordered.arrays a la in
      let e : shape_at net (array_at net.cells a) ≡ k_array = ap shape r.1 in
      let low : high (v.now (cell_at net.cells (array_at net.cells a)).a) ≡ false = array-idle (shape_at net (array_at net.cells a)) (array_at net.cells a) (cell_at net.cells (array_at net.cells a)) e (idle (array_at net.cells a) (omega (arith, r.0))) in
      words a i la li ∙ rw low refl

  idle-below : (n : ℕ) → n ≤ length net.cells → (k : ℕ) → k < n → Stays (g k) v w k
  idle-below zero l k h = absurd (not-suc-le-zero h)
  idle-below (suc n) l k h =
      let ih = idle-below n (omega arith) in
      ⊎_elim (λ (e : k ≡ n).
      rw e
      (idle-cell net g v w (kinds net.cells) (length net.cells) n (cell_at net.cells n) ih idle-word (shape_at net n) (ordered.looks n l) (cleared n l) (read_low net ordered n l) (idle n l)
      (present n l)))
      (λ (lt : k < n). ih k lt) (eq-or-lt_of_le (le_of_suc-le-suc h))

  -- in an instant in which nothing is due, every cell is cleared or stays
  pub idle-next : (k : ℕ) → k < length net.cells → Stays (g k) v w k
  idle-next k h = idle-below (length net.cells) (le_refl (length net.cells)) k h
