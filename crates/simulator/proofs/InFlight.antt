-- The number in flight in an instant: what one cell adds and takes off, the state before the third pass, the third pass that keeps the number cell by
-- cell unless 26 ends it, and the state after the instant.
-- Assumes nothing.
use mathlib.Core.Bool.{Bool, true, false}
use mathlib.Core.List.{List}
use mathlib.Core.Logic.{inr}
use mathlib.Core.Path.{◌≡◌, refl, sym, ◌∙◌, ap}
use Prim.Native.Nat.{ℕ, ◌+◌, ◌-◌, ◌<◌, ◌≤◌, ◌*◌}
use native.Mathlib.Omega.{arith}
use lib.ListN.{length, get_or}
use borrow.Author.Tests.{eq-eqb, ne_eqb}
use Rattle.model.specs.declared.Cell.{Cell}
use Rattle.model.specs.declared.Merge.{Merge}
use Rattle.model.specs.declared.Merged.{Merged}
use Rattle.model.specs.declared.Format.{Format}
use Rattle.model.specs.declared.Format.TheVariants.{Full, Compact}
use Rattle.model.specs.Refusals.{refuse, Accepted}
use Rattle.model.specs.Circuit.{remaining_step, Netlist, cell_at, high, shape, merges, step_of}
use Rattle.model.specs.Word.{bit, put32}
use Rattle.model.specs.State.{remaining_at, before_at, instant_of, flight_of, cell_size, base, now_at, held_at, left_at, line_bit, value, first_value, up_to, aged, shown, settled, held_bits, holding, settle, flight, counted, blank, begin_state, step_state, crowding}
use Rattle.model.specs.NetlistFile.{cell_limit}
use Rattle.laws.specs.Refusals.Search.{Searched, searched-none, fault-here, fault-next, faults-end}
use Rattle.laws.specs.Circuit.Shapes.{by-merge, delay-shape}
use Rattle.laws.specs.Circuit.Ordered.{Ordered}
use Rattle.laws.specs.State.Bytes.{bit-lt, cleared-zero, put32-other}
use Rattle.laws.specs.State.Lines.{least, below, rising, Line, kept_same}
use Rattle.laws.specs.State.Passes.{ticked, one, two, after, one-high, two-high, length-one, counted-other, line_kept, settle-merge, step_is}
use Rattle.laws.specs.State.Flight.{comes_in, goes_out, flight-kept, flight-aged, flight-low, flight-settled, flight-blank, step-true, begin-true, told-kept, told-aged, told-blank}
use Rattle.state.specs.Stands.{Lined, Ready}
use Rattle.state.specs.Crowds.{crowds}
use Rattle.simulator.specs.Fits.{Spares}
use Rattle.simulator.specs.Levels.{valued}
use Rattle.simulator.proofs.Crowding.{crowd_fault, crowding-faults, crowded-here, not-crowded-here, crowds-same, vacant-if}
use Rattle.simulator.proofs.Passes.{Passed, passed_none, passed-more, passed-all, settled-values, settled-later}

-- One cell -------------------------------------------------------------------------------------------------------------------------------

module _ (w : ℕ) (F : Format) (s : List ℕ) (k : ℕ) (c : Cell) where
  pub delay-moves : c.kind ≡ 34 → (comes_in F w s k c ≡ bit (high (now_at F s c.a))) × (goes_out F s k c ≡ line_bit F s k c.delay (c.delay - 1))
  unfolding comes_in goes_out
  delay-moves e = rw (eq-eqb _ _ e) (refl, refl)

  pub merge-moves : (c.kind ≡ 34 → ⊥) → merges c.kind ≡ true
      → (comes_in F w s k c ≡ held_bits (step_of w c.kind (high (before_at F s k)) (held_at F s k) (high (now_at F s c.a)) (high (now_at F s c.b))).held) × (goes_out F s k c ≡ held_bits (held_at F s k))
  unfolding comes_in goes_out
  merge-moves e f = rw (ne_eqb _ _ e, f) (refl, refl)

  -- from the parts of a merge's instant
  module _ (e : c.kind ≡ 34 → ⊥) (f : merges c.kind ≡ true) (was x y : Bool) (held : Merge) (m : Merged) (a : x ≡ high (now_at F s c.a)) (b : y ≡ high (now_at F s c.b))
      (g : was ≡ high (before_at F s k)) (h : held ≡ held_at F s k) (z : m ≡ step_of w c.kind was held x y) where
    merged-is : m ≡ step_of w c.kind (high (before_at F s k)) (held_at F s k) (high (now_at F s c.a)) (high (now_at F s c.b))
    merged-is = rw (a, b, g, h) at z

    pub merge-comes : (r : ℕ) → r ≡ held_bits m.held → r ≡ comes_in F w s k c
    merge-comes r q = q ∙ ap (λ (n : Merged). held_bits n.held) merged-is ∙ sym (merge-moves e f).0

    pub merge-goes : (r : ℕ) → r ≡ held_bits held → r ≡ goes_out F s k c
    merge-goes r q = q ∙ ap (λ (n : Merge). held_bits n) h ∙ sym (merge-moves e f).1

    pub merge-settles : (t : List ℕ) → t ≡ holding F s k m.held → t ≡ settle F w (shape c.kind) s k c
    merge-settles t q = q ∙ ap (λ (n : Merged). holding F s k n.held) merged-is ∙ sym (settle-merge F w s k c f)

  pub start-moves : c.kind ≡ 32 → (comes_in F w s k c ≡ remaining_step w (remaining_at F s k) (high (now_at F s k))) × (goes_out F s k c ≡ remaining_at F s k)
  unfolding comes_in goes_out merges
  start-moves e = rw e (refl, refl)

  pub none_moves : (c.kind ≡ 34 → ⊥) → merges c.kind ≡ false → (c.kind ≡ 32 → ⊥) → (comes_in F w s k c ≡ 0) × (goes_out F s k c ≡ 0)
  unfolding comes_in goes_out
  none_moves e f z = rw (ne_eqb _ _ e, f, ne_eqb _ _ z) (refl, refl)

-- a merge looks at two cells
pub no-constant : (k : ℕ) → merges k ≡ true → k ≡ 1 → ⊥
no-constant k e z = by-merge k e (λ q. omega arith) (λ q. omega arith)

-- a merge holds two bits at most
pub held_low : (x : ℕ) (m : Merge) → x ≡ held_bits m → x ≤ 2
held_low x m e = omega (arith, e, bit-lt m.a, bit-lt m.b)

-- Lines ----------------------------------------------------------------------------------------------------------------------------------

-- lines that are as they were are in range still
lined-same : (F : Format) (net : Netlist) (s t : List ℕ) → ((k j : ℕ) → k < length net.cells → base F k + 6 ≤ j → j < base F k + cell_size F → get_or t j 0 ≡ get_or s j 0)
    → Lined F net s → Lined F net t
unfolding Lined
lined-same Full net s t same h = tt
lined-same Compact net s t same h = λ k l q. rw (same k (base Compact k + 6) l (omega arith) (omega arith)) (h k l q)

-- a line of a state of bytes
line_of : (F : Format) (net : Netlist) (s : List ℕ) (k : ℕ) → k < length net.cells → (cell_at net.cells k).kind ≡ 34 → Lined F net s → ((j : ℕ) → get_or s j 0 < 256)
    → Line F s k (cell_at net.cells k).delay
unfolding Lined Line
line_of Full net s k l q h bytes = λ j a b. bytes j
line_of Compact net s k l q h bytes = h k l q

lined-all : (F : Format) (net : Netlist) (s : List ℕ) → ((k : ℕ) → k < length net.cells → (cell_at net.cells k).kind ≡ 34 → Line F s k (cell_at net.cells k).delay) → Lined F net s
unfolding Lined Line
lined-all Full net s h = tt
lined-all Compact net s h = h

-- Before the third pass ------------------------------------------------------------------------------------------------------------------

module _ (F : Format) (net : Netlist) (ordered : Ordered net.cells) (n : ℕ) (e : length net.cells ≡ n) (s : List ℕ) where
  -- the values of the cells don't matter
  shown-ready : (v : List ℕ → ℕ → ℕ) (u : List ℕ) → Ready F net u → Ready F net (up_to (shown F net v) n u)
  unfolding two
  shown-ready v u h =
      rw (← e)
      (record {
        number = told-kept F net v u ∙ h.number ∙ sym (flight-kept F net ordered v u);
        lines = lined-same F net u (two F net v u (length net.cells)) (λ k j l a b. two-high F net v u (length net.cells) k j l (omega arith) b) h.lines;
      })

  aged-ready : Ready F net s → Ready F net (up_to (aged F) n (put32 s 0 (instant_of s + 1)))
  unfolding one ticked
  aged-ready h =
      rw (← e)
      (record {
        number = told-aged F net s ∙ h.number ∙ sym (flight-aged F net ordered s);
        lines = lined-same F net s (one F s (length net.cells)) (λ k j l a b. one-high F s (length net.cells) k j (omega arith) b) h.lines;
      })

  -- with nothing in any line
  blank-empty : (words : ℕ → ℕ) (k : ℕ) → k < length net.cells → left_at F (blank F net words s) k ≡ 0
  blank-empty words k l = cleared-zero (base F (length net.cells)) _ (base F k + 6) (omega (arith, below F k (length net.cells) l, least F))

  blank-lined : (F : Format) (z : List ℕ) → ((k : ℕ) → k < length net.cells → left_at F z k ≡ 0) → Lined F net z
  unfolding Lined
  blank-lined Full z h = tt
  blank-lined Compact z h = λ k l q. omega (arith, h k l)

  pub begin-ready : (words : ℕ → ℕ) (t u : List ℕ) → t ≡ blank F net words s → u ≡ up_to (shown F net (first_value F net words)) n t → Ready F net u
  begin-ready words t u a b =
      rw (b, a)
      (shown-ready (first_value F net words) _
      (record { number = told-blank F net ordered words s ∙ sym (flight-blank F net ordered words s); lines = blank-lined F _ (blank-empty words) }))

  pub begin-empty : (words : ℕ → ℕ) (t u : List ℕ) → t ≡ blank F net words s → u ≡ up_to (shown F net (first_value F net words)) n t
      → (k : ℕ) → k < length net.cells → left_at F u k ≡ 0
  unfolding two
  begin-empty words t u a b k l =
      rw (b, a, ← e)
      (two-high F net (first_value F net words) (blank F net words s) (length net.cells) k (base F k + 6) l (omega arith) (omega (arith, least F)) ∙ blank-empty words k l)

pub step-ready : (F : Format) (net : Netlist) → Ordered net.cells → (starts : Bool) (s : List ℕ) → Ready F net s → Ready F net (valued F net starts s)
unfolding two one ticked
step-ready F net ordered starts s h =
    let n = length net.cells in
    shown-ready F net ordered n refl s (value F net starts) _ (aged-ready F net ordered n refl s h)

-- The third pass -------------------------------------------------------------------------------------------------------------------------

-- it has come to cell k of n, and left t of s, with this number, and no line so far was crowded
pub record Settling (F : Format) (net : Netlist) (n : ℕ) (s t : List ℕ) (k number : ℕ) : Type 0 where
  pub passed : Passed (settled F net) n s t k
  pub counts : number ≡ flight F net t
  pub bytes : (j : ℕ) → get_or t j 0 < 256
  pub free : Searched (crowd_fault F net s) n k

module _ {F : Format} {net : Netlist} {n : ℕ} {s : List ℕ} where
  pub settling-none : {number : ℕ} → number ≡ flight_of s → Ready F net s → ((j : ℕ) → get_or s j 0 < 256) → Settling F net n s s 0 number
  settling-none e h b = record { passed = passed_none; counts = e ∙ h.number; bytes = b; free = searched-none (crowd_fault F net s) n }

  module _ {t : List ℕ} {k number : ℕ} (p : Settling F net n s t k number) where
    later_same : (j : ℕ) → base F k ≤ j → get_or t j 0 ≡ get_or s j 0
    later_same j h = ap (λ (r : List ℕ). get_or r j 0) p.passed.state ∙ settled-later F net s k j h

    value_same : (a : ℕ) → now_at F t a ≡ now_at F s a
    value_same a = ap (λ (r : List ℕ). now_at F r a) p.passed.state ∙ settled-values F net s k a

    -- what stands behind n cells stays
    pub settling-spares : Spares F n s t
    settling-spares j h = later_same j (omega (arith, rising F k n p.passed.few))

    module _ (e : length net.cells ≡ n) (h : k < n) (c : Cell) (z : cell_at net.cells k ≡ c) where
      crowds-is : crowds F t k c ≡ crowds F s k (cell_at net.cells k)
      crowds-is = crowds-same F s t k c (value_same c.a) (later_same (base F k + 6) (omega arith)) ∙ ap (crowds F s k) (sym z)

      pub settling-crowded : crowds F t k c ≡ true → refuse 26 k ≡ crowding F net s s
      settling-crowded q = fault-here p.free 26 h (omega arith) (crowded-here F net s k (sym crowds-is ∙ q)) ∙ sym (crowding-faults F net s n e)

      module _ (ordered : Ordered net.cells) (room : base F n ≤ length s) (ready : Ready F net s) (bytes : (j : ℕ) → get_or s j 0 < 256) (q : crowds F t k c ≡ false) where
        settled-number : flight F net (settled F net t k) + goes_out F t k (cell_at net.cells k) ≡ flight F net t + comes_in F net.pulse t k (cell_at net.cells k)
        settled-number =
            flight-settled F net ordered t (rw (e, p.passed.long) room) k (rw e h)
            (λ d.
            kept_same s t k (cell_at net.cells k).delay F (λ j a b. later_same j (omega arith))
            (line_of F net s k (rw e h) d ready.lines bytes))
            (λ d. vacant-if F t k (cell_at net.cells k) d (ap (crowds F t k) z ∙ q))

        pub settling-asks : n ≤ cell_limit → (number ≤ 255 * cell_limit) × (goes_out F t k c ≤ number + comes_in F net.pulse t k c)
        settling-asks few =
            (omega (arith, p.counts, flight-low F net ordered t p.bytes), omega (arith, p.counts, settled-number, ap (goes_out F t k) z, ap (comes_in F net.pulse t k) z))

        pub settling-more : (u : List ℕ) (m : ℕ) → length u ≡ length t → u ≡ settled F net t k
            → m + goes_out F t k c ≡ number + comes_in F net.pulse t k c → ((j : ℕ) → get_or u j 0 < 256) → Settling F net n s u (k + 1) m
        settling-more u m l a r b =
            let y : m ≡ flight F net (settled F net t k) = omega (arith, p.counts, settled-number, ap (goes_out F t k) z, ap (comes_in F net.pulse t k) z, r) in
            record {
              passed = passed-more p.passed h l a;
              counts = rw a y;
              bytes = b;
              free = fault-next p.free h (not-crowded-here F net s k (sym crowds-is ∙ q));
            }

    module _ (h : n ≤ k) where
      pub settling-all : put32 t 4 number ≡ counted F net (up_to (settled F net) n s)
      unfolding counted
      settling-all = ap (put32 t 4) p.counts ∙ ap (counted F net) (passed-all p.passed h)

      pub settling-free : length net.cells ≡ n → Accepted ≡ crowding F net s s
      settling-free e = faults-end p.free h ∙ sym (crowding-faults F net s n e)

      pub told-spares : Spares F n s (put32 t 4 number)
      told-spares j l = put32-other t 4 number j (inr (omega arith)) ∙ settling-spares j l

-- After the instant ----------------------------------------------------------------------------------------------------------------------

module _ (F : Format) (net : Netlist) (ordered : Ordered net.cells) where
  pub stepped-ready : (starts : Bool) (s t : List ℕ) → base F (length net.cells) ≤ length s → ((j : ℕ) → get_or s j 0 < 256) → Ready F net s → t ≡ step_state F net starts s
      → Ready F net t
  stepped-ready starts s t room bytes h e =
      rw e (record { number = step-true F net ordered starts s (omega arith); lines = lined-all F net (step_state F net starts s) line })
    where
      line : (k : ℕ) → k < length net.cells → (cell_at net.cells k).kind ≡ 34 → Line F (step_state F net starts s) k (cell_at net.cells k).delay
      line k l q =
          let v = value F net starts in
          let u = one F s (length net.cells) in
          let d = (cell_at net.cells k).delay in
          let aged-line : Line F u k d =
          kept_same s u k d F (λ j a b. one-high F s (length net.cells) k j (omega arith) b) (line_of F net s k l q h.lines bytes) in
          rw (step_is F net starts s)
          (kept_same (after F net v u) _ k d F (λ j a b. counted-other F net (after F net v u) j (inr (omega arith)))
          (line_kept F net v u (rw (length-one F s (length net.cells)) room) k l (delay-shape (cell_at net.cells k).kind q) aged-line))

pub begun-ready : (net : Netlist) → Ordered net.cells → (words : ℕ → ℕ) (s t : List ℕ) → t ≡ begin_state Full net words s → Ready Full net t
unfolding Lined
begun-ready net ordered words s t e = record { number = rw e (begin-true Full net ordered words s); lines = tt }
