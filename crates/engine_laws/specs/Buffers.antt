-- The representation relation: what the engine's buffers hold of what a state shows. An idle instant leaves the buffers as they are.
-- Assumes nothing.
use Rattle.std.specs.Prelude.{Bool, true, not, ◌&&◌, ◌||◌, List, ◌≡◌, ℕ, zero, suc, ◌+◌, ◌-◌, ◌*◌, ◌/◌, ◌%◌, ◌^◌, ◌<◌, ◌≤◌, eqb, length, get_or}
use Rattle.std.proofs.Math.Bool.{false}
use Rattle.std.proofs.Math.Path.{refl, sym, ap}
use Rattle.std.proofs.Common.{◌∙◌, arith, eqb-true}
use Rattle.std.proofs.Math.Nat.{zero-div}
use Rattle.model.specs.declared.Cell.{Cell}
use Rattle.model.specs.declared.Merge.{Merge}
use Rattle.model.specs.declared.Format.{Format}
use Rattle.model.specs.Word.{pick, bit, operate, index, element_of}
use Rattle.model.specs.Circuit.{Netlist, cell_at, high, merges, remaining_step, short_merge, short_return, merge_step, return_step, step_of, Shape, shape, cell_table, k_constant, k_complement, k_operator, k_start, k_ground, k_delay, k_or, k_when_true, k_when_false, k_merge, k_return, k_memory, k_gated, k_array, k_address, k_read, k_latch, k_unknown}
use Rattle.model.specs.CircuitPromises.{kept}
use Rattle.laws.specs.Refusals.Laws.{by_bool, not-both}
use Rattle.laws.specs.Circuit.Ordered.{kinds, Ordered}
use Rattle.laws.specs.Circuit.Shapes.{of-merge, of-return, by-merge, array_kind}
use Rattle.laws.specs.State.Lines.{kept-all}
use Rattle.laws.specs.State.Passes.{shape_at}
use Rattle.laws.specs.Circuit.Unique.{feeds}
use Rattle.laws.specs.Circuit.Inputs.{merge-looks, delay-looks, mem-looks, read_looks}
use Rattle.engine_laws.specs.Sets.{member}
use Rattle.engine_laws.specs.Wheel.{puts_in}
use Rattle.engine_laws.specs.View.{View, shows, Next}
use Rattle.engine_laws.specs.Idle.{Clears, delay-clears, Idle, Stays, low, same, idle-word, idle-next}

-- The buffers -----------------------------------------------------------------------------------------------------------------------------

-- wheel: 512 rows of 4 words; tag: the instant that each row is for; occupied: the occupied rows ahead, modulo 256. For each cell its word, its held bits
-- and the instants at which it put out, by parity. For each register (memories 0 to 15, arrays 16 to 19) what it sampled, its word before its last
-- change and that change's instant; an array's sampled address and its changed element stand 4 places further. The words of the arrays.
pub record Buffers : Type 0 where
  pub wheel : List ℕ
  pub tag : List ℕ
  pub occupied : List ℕ
  pub values : List ℕ
  pub held : List ℕ
  pub out : List ℕ
  pub pending : List ℕ
  pub old : List ℕ
  pub changes : List ℕ
  pub elements : List ℕ
  pub sampled : ℕ

-- whether delay r puts out at the buffers' instant w
abbrev pub puts : Buffers → ℕ → ℕ → ℕ
puts A w r = puts_in A.wheel A.tag w r

-- what the netlist's tables say: the number of a delay or a register, and which cells an idle instant clears
pub record Tables (net : Netlist) : Type 0 where
  pub rank : ℕ → ℕ
  pub gone : ℕ → Bool
  pub cleared : (k : ℕ) → k < length net.cells → Clears (shape_at net k) gone k (cell_at net.cells k)

-- word i of array a an instant before t
unfoldable pub word_before : Buffers → ℕ → ℕ → ℕ → ℕ
word_before A t a i =
    pick (eqb (get_or A.changes (16 + a) 0) t && eqb (get_or A.old (20 + a) 0) (64 * a + i)) (get_or A.old (16 + a) 0) (get_or A.elements (64 * a + i) 0)

-- At the buffers' instant t they hold what v shows.
pub record Represents (F : Format) (net : Netlist) (T : Tables net) (v : View) (t : ℕ) (A : Buffers) : Type 0 where
  -- a line's bit of i instants ago is what it puts out at t + d - i: pulses in flight and the published 256 inputs are one thing
  pub lines : (k : ℕ) → k < length net.cells → shape_at net k ≡ k_delay → (i : ℕ) → i < kept F (cell_at net.cells k).delay
      → puts A (t + (cell_at net.cells k).delay - i) (T.rank k) ≡ v.line k i
  pub ahead : (k : ℕ) → k < length net.cells → shape_at net k ≡ k_delay → (w : ℕ) → t + (cell_at net.cells k).delay < w → puts A w (T.rank k) ≡ 0
  pub present : (k : ℕ) → k < length net.cells → shape_at net k ≡ k_delay → puts A t (T.rank k) ≡ v.now k
  pub behind : (k : ℕ) → k < length net.cells → shape_at net k ≡ k_delay → puts A (t - 1) (T.rank k) ≡ v.ago k
  pub due : (k : ℕ) → k < length net.cells → shape_at net k ≡ k_delay → (w : ℕ) → t < w → puts A w (T.rank k) ≡ 1 → member A.occupied (w % 256) ≡ 1
  -- words that are kept
  pub words : (k : ℕ) → k < length net.cells → T.gone k ≡ false → get_or A.values k 0 ≡ v.now k
  pub elements : (a i : ℕ) → a < 4 → i < 64 → get_or A.elements (64 * a + i) 0 ≡ v.word (64 * a + i)
  pub changed : (m : ℕ) → get_or A.changes m 0 ≤ t
  pub memories : (k : ℕ) → k < length net.cells → shape_at net k ≡ k_memory
      → v.ago k ≡ pick (eqb (get_or A.changes (T.rank k) 0) t) (get_or A.old (T.rank k) 0) (get_or A.values k 0)
  pub reads : (k : ℕ) → k < length net.cells → shape_at net k ≡ k_read
      → v.ago k ≡ word_before A t (cell_at net.cells (cell_at net.cells k).a).delay (index (v.ago (cell_at net.cells k).b))
  -- merges
  pub holds : (k : ℕ) → k < length net.cells → merges (cell_at net.cells k).kind ≡ true → get_or A.held k 0 ≡ bit (v.held k).a + 2 * bit (v.held k).b
  pub stamped : (j : ℕ) → get_or A.out j 0 ≤ t
  pub merged : (k : ℕ) → k < length net.cells → merges (cell_at net.cells k).kind ≡ true → v.now k ≡ bit (eqb (get_or A.out (2 * k + t % 2) 0) t)
  pub merged-before : (k : ℕ) → k < length net.cells → merges (cell_at net.cells k).kind ≡ true
      → v.ago k ≡ bit (eqb (get_or A.out (2 * k + (t - 1) % 2) 0) (t - 1))
  -- registers: sampled are those whose clock is high, with their data and address
  pub clocks : (k : ℕ) → k < length net.cells → (shape_at net k ≡ k_memory → A.sampled / 2 ^ T.rank k % 2 ≡ bit (high (v.now (cell_at net.cells k).a)))
      × (shape_at net k ≡ k_array → A.sampled / 2 ^ T.rank k % 2 ≡ bit (high (v.now (cell_at net.cells k).a)))
  pub samples : (k : ℕ) → k < length net.cells → high (v.now (cell_at net.cells k).a) ≡ true
      → (shape_at net k ≡ k_memory → get_or A.pending (T.rank k) 0 ≡ v.now (cell_at net.cells k).b)
      × (shape_at net k ≡ k_array
      → (get_or A.pending (T.rank k) 0 ≡ v.now (cell_at net.cells k).b) × (get_or A.pending (T.rank k + 4) 0 ≡ v.now (cell_at net.cells (k + 1)).a))

-- What a view has that is an instant later than another: words are as their inputs say, no merge holds both bits, and no start is high

abbrev pub Fit : Shape → Netlist → View → ℕ → Cell → Type 0
Fit k_constant net v k c = v.now k ≡ c.a
Fit k_complement net v k c = v.now k ≡ operate 3 (v.now c.a) 0
Fit k_operator net v k c = v.now k ≡ operate c.kind (v.now c.a) (v.now c.b)
Fit k_start net v k c = v.remaining k ≡ 0
Fit k_ground net v k c = Unit {0}
Fit k_delay net v k c = Unit {0}
Fit k_or net v k c = Unit {0}
Fit k_when_true net v k c = Unit {0}
Fit k_when_false net v k c = Unit {0}
Fit k_merge net v k c = (v.held k).a && (v.held k).b ≡ false
Fit k_return net v k c = (v.held k).b ≡ false
Fit k_memory net v k c = Unit {0}
Fit k_gated net v k c = Unit {0}
Fit k_array net v k c = v.now k ≡ 0
Fit k_address net v k c = v.now k ≡ 0
Fit k_read net v k c = v.now k ≡ v.word (element_of (cell_at net.cells c.a).delay (v.now c.b))
Fit k_latch net v k c = ⊥
Fit k_unknown net v k c = v.now k ≡ 0

never_both : (was : Bool) (m : Merge) (a b : Bool) → (merge_step true was m a b).held.a && (merge_step true was m a b).held.b ≡ false
unfolding merge_step short_merge
never_both was m a b = go (a || m.a) (b || m.b)
  where
    go : (x y : Bool) → (x && not (x && y)) && (y && not (x && y)) ≡ false
    go true true = refl
    go true false = refl
    go false y = refl

never-second : (was : Bool) (m : Merge) (a b : Bool) → (return_step true was m a b).held.b ≡ false
unfolding return_step short_return
never-second was m a b = refl

none-remain : (r : ℕ) (starts : Bool) → r ≡ 0 → remaining_step 1 r starts ≡ 0
unfolding remaining_step
none-remain r true e = rw e refl
none-remain r false e = rw e refl

-- which netlists are run so: those with pulses of one instant and without latches
pub record Suits (net : Netlist) : Type 0 where
  pub short : net.pulse ≡ 1
  pub unlatched : (k : ℕ) → k < length net.cells → shape_at net k ≡ k_latch → ⊥

module _ (F : Format) (net : Netlist) (suits : Suits net) (v w : View) (next : Next F net v w)
    (low : (k : ℕ) → k < length net.cells → shape_at net k ≡ k_start → v.remaining k ≡ 0) where
  fit-cell : (sh : Shape) (k : ℕ) (c : Cell) → shape c.kind ≡ sh → w.now k ≡ shows sh net v w k c
      → (merges c.kind ≡ true → w.held k ≡ (step_of net.pulse c.kind (high (v.now k)) (v.held k) (high (w.now c.a)) (high (w.now c.b))).held)
      → (sh ≡ k_start → w.remaining k ≡ 0) → (sh ≡ k_latch → ⊥) → Fit sh net w k c
  unfolding shows
  fit-cell k_constant k c z e m s n = e
  fit-cell k_complement k c z e m s n = e
  fit-cell k_operator k c z e m s n = e
  fit-cell k_start k c z e m s n = s refl
  fit-cell k_ground k c z e m s n = tt
  fit-cell k_delay k c z e m s n = tt
  fit-cell k_or k c z e m s n = tt
  fit-cell k_when_true k c z e m s n = tt
  fit-cell k_when_false k c z e m s n = tt
  fit-cell k_merge k c z e m s n =
      let y = of-merge net.pulse c.kind z in
      rw (m y.0, y.1, suits.short) (never_both (high (v.now k)) (v.held k) (high (w.now c.a)) (high (w.now c.b)))
  fit-cell k_return k c z e m s n =
      let y = of-return net.pulse c.kind z in
      rw (m y.0, y.1, suits.short) (never-second (high (v.now k)) (v.held k) (high (w.now c.a)) (high (w.now c.b)))
  fit-cell k_memory k c z e m s n = tt
  fit-cell k_gated k c z e m s n = tt
  fit-cell k_array k c z e m s n = e
  fit-cell k_address k c z e m s n = e
  fit-cell k_read k c z e m s n = e
  fit-cell k_latch k c z e m s n = n refl
  fit-cell k_unknown k c z e m s n = e

  pub fits : (k : ℕ) → k < length net.cells → Fit (shape_at net k) net w k (cell_at net.cells k)
  fits k h =
      fit-cell (shape_at net k) k (cell_at net.cells k) refl (next.present k h) (next.holds k h)
      (λ e. next.remaining k h e ∙ ap (λ (p : ℕ). remaining_step p (v.remaining k) (high (w.now k))) suits.short ∙ none-remain (v.remaining k) (high (w.now k)) (low k h e))
      (suits.unlatched k h)

-- Idle instants --------------------------------------------------------------------------------------------------------------------------

kept_on : (x : Bool) → (x && true) ≡ x
kept_on true = refl
kept_on false = refl

stay-a : (was : Bool) (m : Merge) → m.a && m.b ≡ false → (merge_step true was m false false).held.a ≡ m.a
unfolding merge_step short_merge
stay-a was m e = rw e (kept_on m.a)

stay-b : (was : Bool) (m : Merge) → m.a && m.b ≡ false → (merge_step true was m false false).held.b ≡ m.b
unfolding merge_step short_merge
stay-b was m e = rw e (kept_on m.b)

wait-a : (was : Bool) (m : Merge) → (return_step true was m false false).held.a ≡ m.a
unfolding return_step short_return
wait-a was m = go m.a
  where
    go : (x : Bool) → (x && not (x && false)) ≡ x
    go true = refl
    go false = refl

bit-zero : bit (high 0) ≡ 0
unfolding bit
bit-zero = refl

not_yet : (x t : ℕ) → x ≤ t → eqb x (t + 1) ≡ false
not_yet x t h = by_bool (eqb x (t + 1)) (λ e. absurd (omega (arith, eqb-true x (t + 1) e))) (λ e. e)

module _ (F : Format) (net : Netlist) (suits : Suits net) (ordered : Ordered net.cells) (T : Tables net) (v : View) (t : ℕ) (A : Buffers)
    (represents : Represents F net T v t A) (late : 1 ≤ t)
    (fit : (k : ℕ) → k < length net.cells → Fit (shape_at net k) net v k (cell_at net.cells k))
    (none : (k : ℕ) → k < length net.cells → shape_at net k ≡ k_delay → puts A (t + 1) (T.rank k) ≡ 0) (quiet : A.sampled ≡ 0) where
  no-bit : (r : ℕ) → A.sampled / 2 ^ r % 2 ≡ 0
  no-bit r = rw quiet (simp zero-div)

  clock-low : (x : ℕ) → A.sampled / 2 ^ T.rank x % 2 ≡ bit (high (v.now (cell_at net.cells x).a)) → high (v.now (cell_at net.cells x).a) ≡ false
  unfolding bit
  clock-low x e = by_bool (high (v.now (cell_at net.cells x).a)) (λ y. absurd (omega (arith, sym (no-bit (T.rank x)) ∙ e ∙ ap bit y))) (λ y. y)

  idle-of : (sh : Shape) (k : ℕ) → k < length net.cells → shape_at net k ≡ sh → Fit sh net v k (cell_at net.cells k)
      → Idle sh net T.gone v k (cell_at net.cells k)
  idle-of k_constant k h e f = f
  idle-of k_complement k h e f = f
  idle-of k_operator k h e f = λ z. f
  idle-of k_start k h e f = f
  idle-of k_ground k h e f = tt
  idle-of k_delay k h e f =
      let d = (cell_at net.cells k).delay in
      let o = delay-looks (kinds net.cells) (length net.cells) k (cell_at net.cells k) e (ordered.looks k h) in
      let q : t + d - (d - 1) ≡ t + 1 = omega (arith, o.0) in
      sym (represents.lines k h e (d - 1) (omega (arith, o.0, kept-all F d o.1))) ∙ ap (λ (w : ℕ). puts A w (T.rank k)) q ∙ none k h e
  idle-of k_or k h e f = tt
  idle-of k_when_true k h e f = tt
  idle-of k_when_false k h e f = tt
  idle-of k_merge k h e f = f
  idle-of k_return k h e f = tt
  idle-of k_memory k h e f = clock-low k ((represents.clocks k h).0 e)
  idle-of k_gated k h e f = tt
  idle-of k_array k h e f = (clock-low k ((represents.clocks k h).1 e), f)
  idle-of k_address k h e f = f
  idle-of k_read k h e f = f
  idle-of k_latch k h e f = absurd f
  idle-of k_unknown k h e f = f

  pub idles : (k : ℕ) → k < length net.cells → Idle (shape_at net k) net T.gone v k (cell_at net.cells k)
  idles k h = idle-of (shape_at net k) k h refl (fit k h)

  -- w is the next view
  module _ (w : View) (next : Next F net v w) where
    stays : (k : ℕ) → k < length net.cells → Stays (T.gone k) v w k
    stays k h = idle-next net ordered T.gone T.cleared v w next.present next.words idles k h

    off : (k : ℕ) → k < length net.cells → T.gone k ≡ true → w.now k ≡ 0
    off k h e = low (T.gone k) v w k e (stays k h)

    merge-gone : (kind k : ℕ) (c : Cell) → merges kind ≡ true → Clears (shape kind) T.gone k c
        → (T.gone k ≡ true) × (T.gone c.a ≡ true) × (T.gone c.b ≡ true)
    unfolding shape cell_table
    merge-gone kind k c m z = by-merge kind m (λ q. rw q at z) (λ q. rw q at z)

    -- a merge without inputs holds what it held
    held_stays : (kind k : ℕ) (c : Cell) → merges kind ≡ true → Fit (shape kind) net v k c
        → ((step_of net.pulse kind (high (v.now k)) (v.held k) false false).held.a ≡ (v.held k).a)
        × ((step_of net.pulse kind (high (v.now k)) (v.held k) false false).held.b ≡ (v.held k).b)
    unfolding shape cell_table step_of
    held_stays kind k c m f =
        let was = high (v.now k) in
        by-merge kind m
        (λ q. let f' : Fit k_merge net v k c = rw q at f in rw (q, suits.short) (stay-a was (v.held k) f', stay-b was (v.held k) f'))
        (λ q. let f' : Fit k_return net v k c = rw q at f in rw (q, suits.short) (wait-a was (v.held k), never-second was (v.held k) false false ∙ sym f'))

    control-in : (k : ℕ) → k < length net.cells → merges (cell_at net.cells k).kind ≡ true
        → ((cell_at net.cells k).a < length net.cells) × ((cell_at net.cells k).b < length net.cells)
    control-in k h m =
        let o = merge-looks (kinds net.cells) (length net.cells) k (cell_at net.cells k) m refl (ordered.looks k h) in
        (omega (arith, o.0), omega (arith, o.1))

    line-next : (k : ℕ) → k < length net.cells → shape_at net k ≡ k_delay → (i : ℕ) → i < kept F (cell_at net.cells k).delay
        → puts A (t + 1 + (cell_at net.cells k).delay - i) (T.rank k) ≡ w.line k i
    line-next k h e zero g =
        let d = (cell_at net.cells k).delay in
        let o = delay-looks (kinds net.cells) (length net.cells) k (cell_at net.cells k) e (ordered.looks k h) in
        let z = delay-clears (shape_at net k) T.gone k (cell_at net.cells k) e (T.cleared k h) in
        represents.ahead k h e (t + 1 + d - 0) (omega arith)
        ∙ sym (next.newest k h e ∙ ap (λ (x : ℕ). bit (high x)) (off (cell_at net.cells k).a o.2 z.1) ∙ bit-zero)
    line-next k h e (suc i) g =
        let d = (cell_at net.cells k).delay in
        let q : t + 1 + d - suc i ≡ t + d - i = omega arith in
        let p : suc i ≡ i + 1 = omega arith in
        ap (λ (x : ℕ). puts A x (T.rank k)) q ∙ represents.lines k h e i (omega arith)
        ∙ sym (ap (λ (x : ℕ). w.line k x) p ∙ next.older k h e i (omega arith))

    memory-gone : (sh : Shape) (k : ℕ) (c : Cell) → sh ≡ k_memory → Clears sh T.gone k c → (T.gone k ≡ false) × (T.gone c.a ≡ true)
    memory-gone sh k c e z = let y : Clears k_memory T.gone k c = rw e at z in y

    array-gone : (sh : Shape) (k : ℕ) (c : Cell) → sh ≡ k_array → Clears sh T.gone k c → (T.gone k ≡ false) × (T.gone c.a ≡ true)
    array-gone sh k c e z = let y : Clears k_array T.gone k c = rw e at z in y

    read-fit : (sh : Shape) (k : ℕ) (c : Cell) → sh ≡ k_read → Fit sh net v k c
        → v.now k ≡ v.word (element_of (cell_at net.cells c.a).delay (v.now c.b))
    read-fit sh k c e z = let y : Fit k_read net v k c = rw e at z in y

    memory-in : (k : ℕ) → k < length net.cells → shape_at net k ≡ k_memory → (cell_at net.cells k).a < length net.cells
    memory-in k h e = let o = mem-looks (kinds net.cells) (length net.cells) k (cell_at net.cells k) e (ordered.looks k h) in omega (arith, o.0)

    array-in : (k : ℕ) → k < length net.cells → shape_at net k ≡ k_array → (cell_at net.cells k).a < length net.cells
    array-in k h e = let f = feeds net.cells ordered k h (array_kind (cell_at net.cells k).kind e) in omega (arith, f.0)

    clock-off : (x r : ℕ) → x < length net.cells → T.gone x ≡ true → A.sampled / 2 ^ r % 2 ≡ bit (high (w.now x))
    clock-off x r h z = no-bit r ∙ sym (ap (λ (y : ℕ). bit (high y)) (off x h z) ∙ bit-zero)

    not-high : {B : Type 0} (x : ℕ) → x < length net.cells → T.gone x ≡ true → high (w.now x) ≡ true → B
    not-high x h z e = not-both e (ap high (off x h z))

    word-old : (a i : ℕ) → word_before A (t + 1) a i ≡ get_or A.elements (64 * a + i) 0
    unfolding word_before
    word-old a i = rw (not_yet (get_or A.changes (16 + a) 0) t (represents.changed (16 + a))) refl

    -- the same buffers hold the next view, one instant later
    pub idle-represents : Represents F net T w (t + 1) A
    idle-represents =
        record {
          lines = line-next;
          ahead = λ k h e x g. represents.ahead k h e x (omega arith);
          present = λ k h e. none k h e ∙ sym (off k h (delay-clears (shape_at net k) T.gone k (cell_at net.cells k) e (T.cleared k h)).0);
          behind = λ k h e. ap (λ (x : ℕ). puts A x (T.rank k)) (back t) ∙ represents.present k h e ∙ sym (next.past k h);
          due = λ k h e x g p. represents.due k h e x (omega arith) p;
          words = λ k h e. represents.words k h e ∙ sym (same (T.gone k) v w k e (stays k h));
          elements = λ a i la li. represents.elements a i la li ∙ sym (idle-word net ordered T.gone T.cleared v w next.present next.words idles a i la li);
          changed = λ m. omega (arith, represents.changed m);
          memories = λ k h e. next.past k h ∙ sym (represents.words k h (memory-gone (shape_at net k) k (cell_at net.cells k) e (T.cleared k h)).0)
              ∙ rw (not_yet (get_or A.changes (T.rank k) 0) t (represents.changed (T.rank k))) refl;
          reads = λ k h e.
              let o = read_looks (kinds net.cells) (length net.cells) k (cell_at net.cells k) e (ordered.looks k h) in
              let a = (cell_at net.cells (cell_at net.cells k).a).delay in
              next.past k h ∙ read-fit (shape_at net k) k (cell_at net.cells k) e (fit k h)
              ∙ sym (represents.elements a (index (v.now (cell_at net.cells k).b)) (ordered.stands (cell_at net.cells k).a (omega (arith, o.0)) o.2).0 (omega arith))
              ∙ sym (word-old a (index (v.now (cell_at net.cells k).b)))
              ∙ ap (λ (x : ℕ). word_before A (t + 1) a (index x)) (sym (next.past (cell_at net.cells k).b (omega (arith, o.1))));
          holds = λ k h e.
              let y = held_stays (cell_at net.cells k).kind k (cell_at net.cells k) e (fit k h) in
              let c = control-in k h e in
              let z = merge-gone (cell_at net.cells k).kind k (cell_at net.cells k) e (T.cleared k h) in
              represents.holds k h e
              ∙ rw (next.holds k h e, off (cell_at net.cells k).a c.0 z.1, off (cell_at net.cells k).b c.1 z.2, y.0, y.1) refl;
          stamped = λ j. omega (arith, represents.stamped j);
          merged = λ k h e. off k h (merge-gone (cell_at net.cells k).kind k (cell_at net.cells k) e (T.cleared k h)).0
              ∙ rw (not_yet (get_or A.out (2 * k + (t + 1) % 2) 0) t (represents.stamped (2 * k + (t + 1) % 2))) (sym bit-zero);
          merged-before = λ k h e. next.past k h ∙ represents.merged k h e ∙ ap (λ (x : ℕ). bit (eqb (get_or A.out (2 * k + x % 2) 0) x)) (sym (back t));
          clocks = λ k h. (
            λ e. clock-off (cell_at net.cells k).a (T.rank k) (memory-in k h e) (memory-gone (shape_at net k) k (cell_at net.cells k) e (T.cleared k h)).1,
            λ e. clock-off (cell_at net.cells k).a (T.rank k) (array-in k h e) (array-gone (shape_at net k) k (cell_at net.cells k) e (T.cleared k h)).1,
          );
          samples = λ k h q. (
            λ e. not-high (cell_at net.cells k).a (memory-in k h e) (memory-gone (shape_at net k) k (cell_at net.cells k) e (T.cleared k h)).1 q,
            λ e. not-high (cell_at net.cells k).a (array-in k h e) (array-gone (shape_at net k) k (cell_at net.cells k) e (T.cleared k h)).1 q,
          );
        }
      where
        back : (x : ℕ) → x + 1 - 1 ≡ x
        back x = omega arith

    pub idle-off : (k : ℕ) → k < length net.cells → T.gone k ≡ true → w.now k ≡ 0
    idle-off = off

pub fit-start : (net : Netlist) (v : View) (sh : Shape) (k : ℕ) (c : Cell) → sh ≡ k_start → Fit sh net v k c → v.remaining k ≡ 0
fit-start net v sh k c e f = let z : Fit k_start net v k c = rw e at f in z
