-- The number in flight: which bytes it comes from, and how it changes cell by cell in the third pass. So code that carries it adds what comes in at
-- each delay and each merge and takes off what goes out, and counts nothing anew.
-- Assumes nothing.
use Rattle.std.specs.Prelude.{Bool, true, ◌≡◌, eqb, get_or}
use mathlib.Core.List.{List, [], ◌∷◌}
use Rattle.std.proofs.Common.{inl, inr, ⊎_elim, sym, ◌∙◌, ap₂, add-zero, length-append}
use Rattle.std.proofs.Math.Path.{refl, ap}
use Prim.Native.Nat.{ℕ, zero, suc, ◌+◌, ◌-◌, ◌*◌, ◌<◌, ◌≤◌, suc-le-suc}
use native.Mathlib.Omega.{arith}
use Rattle.std.proofs.Math.Seq.{get_or-set_same}
use Rattle.std.proofs.Math.ListN.{set, length}
use Rattle.std.proofs.lemmas.List.{length-replicate}
use borrow.Author.Tests.{eqb-true}
use Rattle.model.specs.declared.Cell.{Cell}
use Rattle.model.specs.declared.Merge.{Merge}
use Rattle.model.specs.declared.Format.{Format}
use Rattle.model.specs.Word.{pick, bit, get16, get32}
use Rattle.model.specs.Circuit.{cell_at, no_cell, Netlist, high, remaining_step, shape, cell_table, cell_row, merges, step_of}
use Rattle.model.specs.State.{instant_of, flight_of, ones, held_bits, in_flight, flight_in, cell_size, base, now_at, before_at, held_at, line_bit, taken_in, remaining_byte, remaining_at, value, first_value, aged, shown, holding, settle, settled, line_at, flight, counted, blank, evaluate, begin_state, step_state, cells_sound, sound}
use Rattle.model.specs.CircuitPromises.{kept}
use Rattle.laws.specs.Refusals.Laws.{by_bool, and-true}
use Rattle.laws.specs.Circuit.Ordered.{Looks, kinds, Ordered}
use Rattle.laws.specs.State.Bytes.{put32-other, put32-same, get32-same, up_to-frame, cleared-zero, bit-lt}
use Rattle.laws.specs.State.Lines.{least, below, remaining-from, remaining-within, kept-all, Line, Vacant, line_same, line-empty, line_low, taken-new, taken-old}
use Rattle.laws.specs.State.Passes.{aged-frame, shown-frame, ticked, counted-other, settled-frame, apart, one, one-high, two, two-high, same-held, held-holding, length-one, after, length_three, evaluate-is, settle-merge}

-- A delay's rule, by its kind
pub delay-low : (K : ℕ → ℕ) (n k : ℕ) (c : Cell) (j : ℕ) → j ≡ 34 → Looks (cell_row j) K n k c → (1 ≤ c.delay) × (c.delay ≤ 255)
unfolding shape cell_table
delay-low K n k c j q o =
    let h : Looks (cell_row 34) K n k c = rw q at o in
    h.0

-- Sums -----------------------------------------------------------------------------------------------------------------------------------

pub ones-same : (l m : ℕ → ℕ) (d : ℕ) → ((i : ℕ) → i < d → l i ≡ m i) → ones l d ≡ ones m d
unfolding ones
ones-same l m zero h = refl
ones-same l m (suc d) h = ap₂ (λ (x y : ℕ). x + y) (ones-same l m d (λ i g. h i (omega arith))) (h d (omega arith))

-- a line that is moved by a bit, x coming in
pub ones-next : (l m : ℕ → ℕ) (x : ℕ) → m 0 ≡ x → (d : ℕ) → ((i : ℕ) → i < d → m (suc i) ≡ l i) → ones m (suc d) + l d ≡ ones l (suc d) + x
unfolding ones
ones-next l m x e zero h = omega arith
ones-next l m x e (suc d) h = omega (arith, ones-next l m x e d (λ i g. h i (omega arith)), h d (omega arith))

-- what is in flight at one cell, by its kind
module _ (l m : ℕ → ℕ) (g h : Merge) (x y : ℕ) (c : Cell) where
  pub cell_same : (c.kind ≡ 34 → (i : ℕ) → i < c.delay → l i ≡ m i) → (merges c.kind ≡ true → g ≡ h) → (c.kind ≡ 32 → x ≡ y)
      → in_flight l g x c ≡ in_flight m h y c
  unfolding in_flight
  cell_same p q r =
      by_bool (eqb c.kind 34) (λ e. rw e (ones-same l m _ (λ i b. p (eqb-true _ _ e) i (omega (arith, b)))))
      (λ e. by_bool (merges c.kind) (λ f. rw (e, f) (ap held_bits (q f)))
      (λ f. by_bool (eqb c.kind 32) (λ z. rw (e, f, z) (r (eqb-true _ _ z))) (λ z. rw (e, f, z) refl)))

-- cell i of cs, which stand from k on
abbrev pub cell_flight : (ℕ → ℕ → ℕ) → (ℕ → Merge) → (ℕ → ℕ) → List Cell → ℕ → ℕ → ℕ
cell_flight l g p cs k i = in_flight (l (k + i)) (g (k + i)) (p (k + i)) (get_or cs i no_cell)

pub sum_same : (l m : ℕ → ℕ → ℕ) (g h : ℕ → Merge) (p q : ℕ → ℕ) (cs : List Cell) (k : ℕ)
    → ((i : ℕ) → i < length cs → cell_flight l g p cs k i ≡ cell_flight m h q cs k i) → flight_in l g p cs k ≡ flight_in m h q cs k
unfolding flight_in
sum_same l m g h p q [] k e = refl
sum_same l m g h p q (c ∷ cs) k e =
    ap₂ (λ (x y : ℕ). x + y) (rw add-zero at (e 0 (omega arith)))
    (sum_same l m g h p q cs (k + 1)
    (λ i b.
    let z : k + 1 + i ≡ k + suc i = omega arith in
    rw z (e (suc i) (suc-le-suc b))))

-- where one cell's number changes, from one that lacks x to one that lacks y
sum-changed : (l m : ℕ → ℕ → ℕ) (g h : ℕ → Merge) (p q : ℕ → ℕ) (cs : List Cell) (k j x y : ℕ) → j < length cs
    → ((i : ℕ) → i < length cs → (i ≡ j → ⊥) → cell_flight m h q cs k i ≡ cell_flight l g p cs k i)
    → cell_flight m h q cs k j + y ≡ cell_flight l g p cs k j + x → flight_in m h q cs k + y ≡ flight_in l g p cs k + x
unfolding flight_in
sum-changed l m g h p q [] k j x y b o e = absurd (omega arith)
sum-changed l m g h p q (c ∷ cs) k zero x y b o e =
    let here : in_flight (m k) (h k) (q k) c + y ≡ in_flight (l k) (g k) (p k) c + x = rw add-zero at e in
    let rest : flight_in m h q cs (k + 1) ≡ flight_in l g p cs (k + 1) =
    sum_same m l h g q p cs (k + 1)
    (λ i b.
    let z : k + 1 + i ≡ k + suc i = omega arith in
    rw z (o (suc i) (suc-le-suc b) (λ v. omega arith))) in
    omega arith
sum-changed l m g h p q (c ∷ cs) k (suc j) x y b o e =
    let z : k + 1 + j ≡ k + suc j = omega arith in
    let here : in_flight (m k) (h k) (q k) c ≡ in_flight (l k) (g k) (p k) c = rw add-zero at (o 0 (omega arith) (λ v. omega arith)) in
    let rest : flight_in m h q cs (k + 1) + y ≡ flight_in l g p cs (k + 1) + x =
    sum-changed l m g h p q cs (k + 1) j x y (omega arith)
    (λ i b n.
    let z : k + 1 + i ≡ k + suc i = omega arith in
    rw z (o (suc i) (suc-le-suc b) (λ v. n (omega arith))))
    (rw z e) in
    omega arith

-- of at most 255 for each cell
ones_low : (l : ℕ → ℕ) (d : ℕ) → ((i : ℕ) → l i ≤ 1) → ones l d ≤ d
unfolding ones
ones_low l zero h = omega arith
ones_low l (suc d) h = omega (arith, ones_low l d h, h d)

sum_low : (l : ℕ → ℕ → ℕ) (g : ℕ → Merge) (p : ℕ → ℕ) (cs : List Cell) (k : ℕ) → ((i : ℕ) → i < length cs → cell_flight l g p cs k i ≤ 255)
    → flight_in l g p cs k ≤ 255 * length cs
unfolding flight_in
sum_low l g p [] k h = omega arith
sum_low l g p (c ∷ cs) k h =
    let here : in_flight (l k) (g k) (p k) c ≤ 255 = rw add-zero at (h 0 (omega arith)) in
    let rest : flight_in l g p cs (k + 1) ≤ 255 * length cs =
    sum_low l g p cs (k + 1)
    (λ i b.
    let z : k + 1 + i ≡ k + suc i = omega arith in
    rw z (h (suc i) (suc-le-suc b))) in
    omega arith

ones_none : (l : ℕ → ℕ) (d : ℕ) → ((i : ℕ) → i < d → l i ≡ 0) → ones l d ≡ 0
unfolding ones
ones_none l zero h = refl
ones_none l (suc d) h = omega (arith, ones_none l d (λ i b. h i (omega arith)), h d (omega arith))

sum-none : (l : ℕ → ℕ → ℕ) (g : ℕ → Merge) (p : ℕ → ℕ) (cs : List Cell) (k : ℕ) → ((i : ℕ) → i < length cs → cell_flight l g p cs k i ≡ 0) → flight_in l g p cs k ≡ 0
unfolding flight_in
sum-none l g p [] k h = refl
sum-none l g p (c ∷ cs) k h =
    let here : in_flight (l k) (g k) (p k) c ≡ 0 = rw add-zero at (h 0 (omega arith)) in
    let rest : flight_in l g p cs (k + 1) ≡ 0 =
    sum-none l g p cs (k + 1)
    (λ i b.
    let z : k + 1 + i ≡ k + suc i = omega arith in
    rw z (h (suc i) (suc-le-suc b))) in
    omega arith

module _ (F : Format) where
  -- The bytes that are counted -----------------------------------------------------------------------------------------------------------

  -- two states with the same bytes from 4 on in every cell have the same in flight
  module _ (net : Netlist) (ordered : Ordered net.cells) (s u : List ℕ) where
    at-cell : (k : ℕ) → k < length net.cells → ((j : ℕ) → base F k + 4 ≤ j → j < base F k + cell_size F → get_or u j 0 ≡ get_or s j 0)
        → in_flight (line_at F net u k) (held_at F u k) (remaining_at F u k) (cell_at net.cells k) ≡ in_flight (line_at F net s k) (held_at F s k) (remaining_at F s k) (cell_at net.cells k)
    at-cell k l same =
        cell_same (line_at F net u k) (line_at F net s k) (held_at F u k) (held_at F s k) (remaining_at F u k) (remaining_at F s k) (cell_at net.cells k)
        (λ q i b.
        line_same s u k (cell_at net.cells k).delay F (λ j x y. same j (omega arith) y) i
        (omega (arith, kept-all F (cell_at net.cells k).delay (delay-low (kinds net.cells) (length net.cells) k (cell_at net.cells k) (cell_at net.cells k).kind q (ordered.looks k l)).1)))
        (λ q. same-held F k u s (same (base F k + 4) (omega arith) (omega (arith, least F))) (same (base F k + 5) (omega arith) (omega (arith, least F))))
        (λ q. same (remaining_byte F k) (omega (arith, remaining-from F k)) (remaining-within F k))

    pub flight-same : ((k j : ℕ) → k < length net.cells → base F k + 4 ≤ j → j < base F k + cell_size F → get_or u j 0 ≡ get_or s j 0) → flight F net u ≡ flight F net s
    flight-same same =
        sum_same (line_at F net u) (line_at F net s) (held_at F u) (held_at F s) (remaining_at F u) (remaining_at F s) net.cells 0
        (λ k l.
        let e : 0 + k ≡ k = omega arith in
        rw e (at-cell k l (λ j a b. same k j l a b)))

  module _ (net : Netlist) (ordered : Ordered net.cells) where
    -- the first two passes leave it
    pub flight-kept : (v : List ℕ → ℕ → ℕ) (u : List ℕ) → flight F net (two F net v u (length net.cells)) ≡ flight F net u
    flight-kept v u = flight-same net ordered u (two F net v u (length net.cells)) (λ k j l a b. two-high F net v u (length net.cells) k j l (omega arith) b)

    pub flight-aged : (s : List ℕ) → flight F net (one F s (length net.cells)) ≡ flight F net s
    flight-aged s = flight-same net ordered s (one F s (length net.cells)) (λ k j l a b. one-high F s (length net.cells) k j a b)

    -- and putting it into the header does too, so that it is then what the state tells
    pub counted_same : (s : List ℕ) → flight F net (counted F net s) ≡ flight F net s
    counted_same s = flight-same net ordered s (counted F net s) (λ k j l a b. counted-other F net s j (inr (omega arith)))

    pub counted-tells : (s : List ℕ) → 7 < length s → flight_of (counted F net s) ≡ flight F net s
    unfolding counted
    counted-tells s h = put32-same s 4 (flight F net s) (omega arith)

    -- at most 255 for each cell, so four bytes hold it
    pub flight-low : (s : List ℕ) → ((j : ℕ) → get_or s j 0 < 256) → flight F net s ≤ 255 * length net.cells
    flight-low s bytes =
        sum_low (line_at F net s) (held_at F s) (remaining_at F s) net.cells 0
        (λ k l.
        let e : 0 + k ≡ k = omega arith in
        rw e (cell-low s bytes k (cell_at net.cells k) (λ q. (delay-low (kinds net.cells) (length net.cells) k (cell_at net.cells k) (cell_at net.cells k).kind q (ordered.looks k l)).1)))
      where
        bit-low : (s : List ℕ) (k i : ℕ) → line_at F net s k i ≤ 1
        bit-low s k i = line_low s k (cell_at net.cells k).delay i F

        cell-low : (s : List ℕ) → ((j : ℕ) → get_or s j 0 < 256) → (k : ℕ) (c : Cell) → (c.kind ≡ 34 → c.delay ≤ 255) → in_flight (line_at F net s k) (held_at F s k) (remaining_at F s k) c ≤ 255
        cell-low s bytes k c d = unfold in_flight in
            by_bool (eqb c.kind 34) (λ e. rw e (omega (arith, ones_low (line_at F net s k) c.delay (bit-low s k), d (eqb-true _ _ e))))
            (λ e.
            by_bool (merges c.kind) (λ f. rw (e, f) (omega (arith, bit-lt (held_at F s k).a, bit-lt (held_at F s k).b)))
            (λ f. by_bool (eqb c.kind 32) (λ z. rw (e, f, z) (omega (arith, bytes (remaining_byte F k)))) (λ z. rw (e, f, z) (omega arith))))

    -- so an instant leaves a state that tells it rightly
    evaluate-true : (v : List ℕ → ℕ → ℕ) (u : List ℕ) → 7 < length u → flight_of (evaluate F net v u) ≡ flight F net (evaluate F net v u)
    evaluate-true v u h =
        rw (evaluate-is F net v u) (counted-tells (after F net v u) (rw (length_three F net v u (length net.cells)) h) ∙ sym (counted_same (after F net v u)))

    pub step-true : (starts : Bool) (s : List ℕ) → 7 < length s → flight_of (step_state F net starts s) ≡ flight F net (step_state F net starts s)
    unfolding step_state one ticked
    step-true starts s h = evaluate-true (value F net starts) (one F s (length net.cells)) (rw (length-one F s (length net.cells)) h)

    pub begin-true : (words : ℕ → ℕ) (s : List ℕ) → flight_of (begin_state F net words s) ≡ flight F net (begin_state F net words s)
    unfolding begin_state
    begin-true words s = evaluate-true (first_value F net words) (blank F net words s) (simp (length-append, length-replicate) (omega arith))

  -- and a state that 15 lets pass tells it
  pub sound-true : (net : Netlist) (s : List ℕ) → sound F net s ≡ true → flight_of s ≡ flight F net s
  unfolding sound
  sound-true net s e = eqb-true (flight_of s) (flight F net s) (and-true (eqb (flight_of s) (flight F net s)) (cells_sound F net.pulse net.cells s 0) e).0

  -- The third pass -----------------------------------------------------------------------------------------------------------------------

  -- what comes into flight at cell k, which is c, when it settles, and what goes out
  unfoldable pub comes_in : ℕ → List ℕ → ℕ → Cell → ℕ
  comes_in w s k c =
      pick (eqb c.kind 34) (bit (high (now_at F s c.a)))
      (pick (merges c.kind)
      (held_bits (step_of w c.kind (high (before_at F s k)) (held_at F s k) (high (now_at F s c.a)) (high (now_at F s c.b))).held)
      (pick (eqb c.kind 32) (remaining_step w (remaining_at F s k) (high (now_at F s k))) 0))

  unfoldable pub goes_out : List ℕ → ℕ → Cell → ℕ
  goes_out s k c =
      pick (eqb c.kind 34) (line_bit F s k c.delay (c.delay - 1))
      (pick (merges c.kind) (held_bits (held_at F s k)) (pick (eqb c.kind 32) (remaining_at F s k) 0))

  -- Of cell k of a netlist that keeps the rules, in a state that is long enough and whose lines are in range and have room for what enters
  module _ (net : Netlist) (ordered : Ordered net.cells) (s : List ℕ) (room : base F (length net.cells) ≤ length s) (k : ℕ) (h : k < length net.cells)
      (bytes : (cell_at net.cells k).kind ≡ 34 → Line F s k (cell_at net.cells k).delay)
      (vacant : (cell_at net.cells k).kind ≡ 34 → Vacant F s k (high (now_at F s (cell_at net.cells k).a))) where
    abbrev c : Cell
    c = cell_at net.cells k

    abbrev u : List ℕ
    u = settled F net s k

    others : (i : ℕ) → i < length net.cells → (i ≡ k → ⊥) → in_flight (line_at F net u i) (held_at F u i) (remaining_at F u i) (cell_at net.cells i) ≡ in_flight (line_at F net s i) (held_at F s i) (remaining_at F s i) (cell_at net.cells i)
    others i l n =
        at-cell net ordered s u i l
        (λ j a b. settled-frame F net s k j (⊎_elim (λ z. inl (omega arith)) (λ z. inr z) (apart F i k j (omega arith) b (λ e. n (sym e)))))

    abbrev input : Bool
    input = high (now_at F s c.a)

    delay-moved : c.kind ≡ 34 → ones (line_at F net u k) c.delay + line_at F net s k (c.delay - 1) ≡ ones (line_at F net s k) c.delay + bit input
    unfolding settle shape
    delay-moved q =
        let o = delay-low (kinds net.cells) (length net.cells) k c c.kind q (ordered.looks k h) in
        let v = taken_in F s k c.delay input in
        let r : u ≡ v = ap (λ (j : ℕ). settle F net.pulse (shape j) s k c) q in
        let fits : base F k + cell_size F ≤ length s = omega (arith, below F k (length net.cells) h) in
        let z : suc (c.delay - 1) ≡ c.delay = omega (arith, o.0) in
        rw r
        (rw z at
        (ones-next (line_at F net s k) (line_at F net v k) (bit input) (taken-new s k c.delay input F o.0 (bytes q) fits) (c.delay - 1)
        (λ i l.
        let e : suc i ≡ i + 1 = omega arith in
        rw e (taken-old s k c.delay input F (bytes q) (vacant q) fits i (omega (arith, kept-all F c.delay o.1))))))

    abbrev holds : Merge
    holds = (step_of net.pulse c.kind (high (before_at F s k)) (held_at F s k) (high (now_at F s c.a)) (high (now_at F s c.b))).held

    merge-moved : merges c.kind ≡ true → held_bits (held_at F u k) ≡ held_bits holds
    merge-moved q =
        let r : u ≡ holding F s k holds = settle-merge F net.pulse s k c q in
        ap (λ (t : List ℕ). held_bits (held_at F t k)) r ∙ ap held_bits (held-holding F s k holds (omega (arith, below F k (length net.cells) h)))

    start-moved : c.kind ≡ 32 → remaining_at F u k ≡ remaining_step net.pulse (remaining_at F s k) (high (now_at F s k))
    unfolding settle shape
    start-moved q =
        let within : remaining_byte F k < base F k + cell_size F = remaining-within F k in
        let r : u ≡ set s (remaining_byte F k) (remaining_step net.pulse (remaining_at F s k) (high (now_at F s k))) =
        ap (λ (j : ℕ). settle F net.pulse (shape j) s k c) q in
        ap (λ (t : List ℕ). remaining_at F t k) r ∙ get_or-set_same s (remaining_byte F k) _ 0 (omega (arith, below F k (length net.cells) h))

    own : in_flight (line_at F net u k) (held_at F u k) (remaining_at F u k) c + goes_out s k c
        ≡ in_flight (line_at F net s k) (held_at F s k) (remaining_at F s k) c + comes_in net.pulse s k c
    unfolding in_flight comes_in goes_out
    own =
        by_bool (eqb c.kind 34) (λ e. rw e (delay-moved (eqb-true _ _ e)))
        (λ e.
        by_bool (merges c.kind) (λ f. rw (e, f) (omega (arith, merge-moved f)))
        (λ f. by_bool (eqb c.kind 32) (λ z. rw (e, f, z) (omega (arith, start-moved (eqb-true _ _ z)))) (λ z. rw (e, f, z) refl)))

    -- what settling one cell does to the number of all
    pub flight-settled : flight F net u + goes_out s k c ≡ flight F net s + comes_in net.pulse s k c
    flight-settled =
        sum-changed (line_at F net s) (line_at F net u) (held_at F s) (held_at F u) (remaining_at F s) (remaining_at F u) net.cells 0 k
        (comes_in net.pulse s k c) (goes_out s k c) h
        (λ i l n.
        let e : 0 + i ≡ i = omega arith in
        rw e (others i l n))
        (let e : 0 + k ≡ k = omega arith in
        rw e own)

  -- What the header tells ----------------------------------------------------------------------------------------------------------------

  module _ (net : Netlist) where
    -- the first two passes leave it
    pub told-aged : (s : List ℕ) → flight_of (one F s (length net.cells)) ≡ flight_of s
    unfolding one ticked
    told-aged s =
        get32-same s (one F s (length net.cells)) 4
        (λ j a b. up_to-frame (aged F) j (length net.cells) (ticked s) (λ t k l. aged-frame F t k j (inl (omega arith))) ∙ put32-other s 0 (instant_of s + 1) j (inr (omega arith)))

    pub told-kept : (v : List ℕ → ℕ → ℕ) (u : List ℕ) → flight_of (two F net v u (length net.cells)) ≡ flight_of u
    unfolding two
    told-kept v u =
        get32-same u (two F net v u (length net.cells)) 4
        (λ j a b. up_to-frame (shown F net v) j (length net.cells) u (λ t k l. shown-frame F net v t k j (omega arith) (inl (omega arith))))

  -- Where every byte of the cells is 0, nothing is in flight ------------------------------------------------------------------------------

  module _ (net : Netlist) (ordered : Ordered net.cells) (words : ℕ → ℕ) (s : List ℕ) where
    abbrev empty : List ℕ
    empty = blank F net words s

    zero-at : (j : ℕ) → j < base F (length net.cells) → get_or empty j 0 ≡ 0
    zero-at j h = cleared-zero (base F (length net.cells)) _ j h

    zero-line : (k i : ℕ) → k < length net.cells → i < kept F (cell_at net.cells k).delay → line_at F net empty k i ≡ 0
    zero-line k i l b = line-empty empty k (cell_at net.cells k).delay F (λ j x y. zero-at j (omega (arith, below F k (length net.cells) l))) i b

    zero_held : (k : ℕ) → k < length net.cells → held_bits (held_at F empty k) ≡ 0
    unfolding held_at bit
    zero_held k l =
        rw (zero-at (base F k + 4) (omega (arith, below F k (length net.cells) l, least F)), zero-at (base F k + 5) (omega (arith, below F k (length net.cells) l, least F))) refl

    zero-cell : (k : ℕ) → k < length net.cells → in_flight (line_at F net empty k) (held_at F empty k) (remaining_at F empty k) (cell_at net.cells k) ≡ 0
    unfolding in_flight
    zero-cell k l =
        let c = cell_at net.cells k in
        by_bool (eqb c.kind 34)
        (λ e. rw e
        (ones_none (line_at F net empty k) c.delay (λ i b.
        zero-line k i l (omega (arith, kept-all F c.delay (delay-low (kinds net.cells) (length net.cells) k c c.kind (eqb-true _ _ e) (ordered.looks k l)).1)))))
        (λ e.
        by_bool (merges c.kind) (λ f. rw (e, f) (zero_held k l))
        (λ f.
        by_bool (eqb c.kind 32)
        (λ z. rw (e, f, z) (zero-at (remaining_byte F k) (omega (arith, remaining-within F k, below F k (length net.cells) l)))) (λ z. rw (e, f, z) refl)))

    pub flight-blank : flight F net (blank F net words s) ≡ 0
    flight-blank =
        sum-none (line_at F net empty) (held_at F empty) (remaining_at F empty) net.cells 0
        (λ k l.
        let e : 0 + k ≡ k = omega arith in
        rw e (zero-cell k l))

    pub told-blank : flight_of (blank F net words s) ≡ 0
    unfolding get32 get16
    told-blank = omega (arith, zero-at 4 (omega arith), zero-at 5 (omega arith), zero-at 6 (omega arith), zero-at 7 (omega arith))
