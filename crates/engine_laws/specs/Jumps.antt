-- The jump on states: while no delay is due and no register has sampled anything, a continuing goes on, and the same buffers represent each state.
-- Assumes nothing.
use Rattle.std.specs.Prelude.{Bool, true, false, ◌&&◌, List, ◌≡◌, refl, eqb, ltb}
use Rattle.std.proofs.Common.{sym, ap, eq-or-lt_of_le, eqb-true}
use Prim.Native.Nat.{ℕ, zero, suc, ◌+◌, ◌<◌, ◌≤◌}
use native.Mathlib.Omega.{arith}
use Rattle.std.proofs.Math.Decide.{ℕ_discrete}
use Rattle.std.proofs.Math.Logic.{⊎_elim}
use Rattle.std.proofs.Math.ListN.{length}
use Rattle.model.specs.declared.Format.{Format}
use Rattle.model.specs.declared.Format.TheVariants.{Full, Compact}
use Rattle.model.specs.Refusals.{fault_if, Accepted}
use Rattle.model.specs.Circuit.{Netlist, cell_at, high, k_delay}
use Rattle.model.specs.State.{course, state_size, now_at, left_at, step_state, crowded, crowding, continued}
use Rattle.laws.specs.Refusals.Laws.{not-both, faultless}
use Rattle.laws.specs.Circuit.Ordered.{kinds, Ordered}
use Rattle.laws.specs.Circuit.Shapes.{delay-shape}
use Rattle.laws.specs.Circuit.Inputs.{delay-looks}
use Rattle.laws.specs.State.Lines.{Line, Vacant}
use Rattle.laws.specs.State.Passes.{shape_at}
use Rattle.engine_laws.specs.Sets.{Free}
use Rattle.engine_laws.specs.Wheel.{puts_low}
use Rattle.engine_laws.specs.View.{View, view_of, Next, step-present, step_words, step-length, step-bytes, step-next}
use Rattle.engine_laws.specs.Chunks.{after, continued-after}
use Rattle.engine_laws.specs.Idle.{delay-clears, low, idle-next}
use Rattle.engine_laws.specs.Buffers.{Buffers, puts, Tables, Represents, Fit, Suits, fits, fit-start, idles, idle-represents}

-- where nothing enters a line, it isn't crowded
vacant-low : (F : Format) (s : List ℕ) (k : ℕ) (x : Bool) → x ≡ false → Vacant F s k x
unfolding Vacant
vacant-low Full s k x e = tt
vacant-low Compact s k x e = λ z. not-both z e

fault-low : (kind : Bool) (x y : Bool) → (kind ≡ true → x ≡ false) → fault_if (kind && (x && y)) 26 ≡ 0
fault-low true x y e = rw (e refl) refl
fault-low false x y e = refl

accepted-low : (F : Format) (net : Netlist) (s t : List ℕ)
    → ((k : ℕ) → k < length net.cells → shape_at net k ≡ k_delay → high (now_at F t (cell_at net.cells k).a) ≡ false) → crowding F net s t ≡ Accepted
unfolding crowding crowded
accepted-low Full net s t e = refl
accepted-low Compact net s t e =
    faultless (crowded Compact net s t) 0 (length net.cells)
    (λ k a b. fault-low (eqb (cell_at net.cells k).kind 34) _ (ltb 1 (left_at Compact s k)) (λ z. e k (omega arith) (delay-shape _ (eqb-true _ _ z))))

-- no delay is due where the set of occupied rows is free
none-due : (F : Format) (net : Netlist) (T : Tables net) (v : View) (t : ℕ) (A : Buffers) → Represents F net T v t A → (r : ℕ) → Free A.occupied t r
    → (k : ℕ) → k < length net.cells → shape_at net k ≡ k_delay → (w : ℕ) → t < w → w < r → puts A w (T.rank k) ≡ 0
unfolding Free
none-due F net T v t A represents r free k h e w a b = go (ℕ_discrete (puts A w (T.rank k)) 1)
  where
    go : Dec (puts A w (T.rank k) ≡ 1) → puts A w (T.rank k) ≡ 0
    go (yes q) = absurd (omega (arith, represents.due k h e w a q, free w a b))
    go (no q) = omega (arith, q, puts_low A.wheel A.tag w (T.rank k))

-- what is so of a state that the buffers represent at instant t
pub record Synchronized (F : Format) (net : Netlist) (T : Tables net) (s : List ℕ) (t : ℕ) (A : Buffers) : Type 0 where
  pub room : state_size F net ≤ length s
  pub bytes : (k : ℕ) → k < length net.cells → shape_at net k ≡ k_delay → Line F s k (cell_at net.cells k).delay
  pub represents : Represents F net T (view_of F net s) t A
  pub fit : (k : ℕ) → k < length net.cells → Fit (shape_at net k) net (view_of F net s) k (cell_at net.cells k)

module _ (F : Format) (net : Netlist) (suits : Suits net) (ordered : Ordered net.cells) (T : Tables net) (A : Buffers) (quiet : A.sampled ≡ 0) where
  -- one idle instant
  module _ (s : List ℕ) (t : ℕ) (late : 1 ≤ t) (H : Synchronized F net T s t A)
      (none : (k : ℕ) → k < length net.cells → shape_at net k ≡ k_delay → puts A (t + 1) (T.rank k) ≡ 0) where
    abbrev v : View
    v = view_of F net s

    abbrev w : View
    w = view_of F net (step_state F net false s)

    off : (k : ℕ) → k < length net.cells → T.gone k ≡ true → now_at F (step_state F net false s) k ≡ 0
    off k h e =
        low (T.gone k) v w k e
        (idle-next net ordered T.gone T.cleared v w (step-present F net ordered s H.room H.bytes) (step_words F net ordered s H.room H.bytes)
        (idles F net suits ordered T v t A H.represents late H.fit none quiet) k h)

    input-low : (k : ℕ) → k < length net.cells → shape_at net k ≡ k_delay → high (now_at F (step_state F net false s) (cell_at net.cells k).a) ≡ false
    input-low k h e =
        let o = delay-looks (kinds net.cells) (length net.cells) k (cell_at net.cells k) e (ordered.looks k h) in
        ap high (off (cell_at net.cells k).a o.2 (delay-clears (shape_at net k) T.gone k (cell_at net.cells k) e (T.cleared k h)).1)

    free : crowding F net s (step_state F net false s) ≡ Accepted
    free = accepted-low F net s (step_state F net false s) input-low

    next : Next F net v w
    next = step-next F net ordered s H.room H.bytes (λ k h e. vacant-low F s k _ (input-low k h e))

    synchronized-next : Synchronized F net T (step_state F net false s) (t + 1) A
    synchronized-next =
        record {
          room = omega (arith, H.room, step-length F net ordered s H.room H.bytes);
          bytes = step-bytes F net ordered s H.room H.bytes;
          represents = idle-represents F net suits ordered T v t A H.represents late H.fit none quiet w next;
          fit = fits F net suits v w next (λ k h e. fit-start net v (shape_at net k) k (cell_at net.cells k) e (H.fit k h));
        }

  -- m idle instants from s
  module _ (s : List ℕ) (t : ℕ) (late : 1 ≤ t) (H : Synchronized F net T s t A) where
    pub record Jumped (m : ℕ) : Type 0 where
      pub synchronized : Synchronized F net T (after F net m s) (t + m) A
      pub accepted : (i : ℕ) → i < m → crowding F net (after F net i s) (after F net (suc i) s) ≡ Accepted
      pub lows : (i : ℕ) → i < m → (k : ℕ) → k < length net.cells → T.gone k ≡ true → now_at F (after F net (suc i) s) k ≡ 0

    pub jumped : (m : ℕ) → ((i : ℕ) → i < m → (k : ℕ) → k < length net.cells → shape_at net k ≡ k_delay → puts A (t + i + 1) (T.rank k) ≡ 0) → Jumped m
    unfolding after
    jumped zero none =
        let e : t ≡ t + 0 = omega arith in
        record { synchronized = rw (sym e) H; accepted = λ i l. absurd (omega arith); lows = λ i l. absurd (omega arith) }
    jumped (suc m) none =
        let J = jumped m (λ i l. none i (omega arith)) in
        let u = after F net m s in
        let due : (k : ℕ) → k < length net.cells → shape_at net k ≡ k_delay → puts A (t + m + 1) (T.rank k) ≡ 0 = none m (omega arith) in
        let e : t + m + 1 ≡ t + suc m = omega arith in
        record {
          synchronized = rw e at (synchronized-next u (t + m) (omega arith) J.synchronized due);
          accepted = λ i l. ⊎_elim (λ (q : i ≡ m). rw q (free u (t + m) (omega arith) J.synchronized due)) (λ (q : i < m). J.accepted i q) (eq-or-lt_of_le (le i l));
          lows = λ i l. ⊎_elim (λ (q : i ≡ m). rw q (off u (t + m) (omega arith) J.synchronized due)) (λ (q : i < m). J.lows i q) (eq-or-lt_of_le (le i l));
        }
      where
        le : (i : ℕ) → i < suc m → i ≤ m
        le i l = omega arith

    -- so a continuing goes all of them, if its finish is a cell that idle instants clear, as control wires are
    pub jump-continued : (f m : ℕ) → f < length net.cells → T.gone f ≡ true → Free A.occupied t (t + m + 1)
        → (continued F net f m s ≡ course Accepted (after F net m s) m) × Synchronized F net T (after F net m s) (t + m) A
    jump-continued f m h g free =
        let J = jumped m (λ i l k b e. none-due F net T (view_of F net s) t A H.represents (t + m + 1) free k b e (t + i + 1) (omega arith) (omega arith)) in
        (continued-after F net f m s J.accepted (λ i l. ap high (J.lows i l f h g)), J.synchronized)
