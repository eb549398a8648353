-- The regions of a compiled netlist, told by its kinds: delay cells are a run of 34 from cell 3 on, clock ors a run of 35 behind them, and the walk ends where
-- only cells of kind 7 are left. Assumes nothing.
use mathlib.Core.Path.{◌≡◌, refl, sym, ap, ap₂, subst, ◌∙◌}
use mathlib.Core.Bool.{Bool, true, false, ◌&&◌}
use mathlib.Core.List.{List, [], ◌∷◌, ◌++◌, append_assoc, append-nil}
use Prim.Native.Nat.{ℕ, zero, suc, ◌+◌, ◌≤◌}
use native.Mathlib.Nat.{add-zero}
use native.Mathlib.Omega.{arith}
use lib.Dec.{eqb}
use lib.ListN.{length, drop, length-append}
use borrow.Author.Tests.{eq-eqb, ne_eqb}
use Rattle.model.specs.declared.Cell.{Cell}
use Rattle.model.specs.Word.{pick}
use Rattle.model.specs.Circuit.{cell}
use Rattle.model.specs.Program.{Code, ok, tick, assign, assign_elem, seq, par, ite, while, repeat, loop, exit, call, Program}
use Rattle.model.specs.Numbering.{Wires, memory_wires, Source, expr_cells, expr_wire, expr_count, on_true, on_false, past_switches, if_delay_cells, if_pulse, delay_count, walk_count, then_delays, else_delays, else_cells, exits_at, finish_wire, loop_exits, delays, walk, or_chain, ors, or_count, wires_of, ors_from, or_count_from, memories_of, arrays_of, clocks_of, clock_at, memory_at, walk_place, data_of, data_at, addresses_of, address_at, clock_wires, data_wires, address_wires, finish_of_root, netlist}
use Rattle.laws.specs.Program.Fit.{Earlier}
use Rattle.laws.specs.Program.Sequence.{one_root}
use Rattle.laws.specs.Numbering.Lengths.{d-len, w-len}
use Rattle.laws.specs.Numbering.Parts.{clock_ors, memory_cells, array_cells, walk_cells, data_ors, address_ors, from_datas, from_memories, from_clocks, ors_from-len, mems-len, arrays-len}
use Rattle.laws.specs.Numbering.Arrays.{below, parts, below-len}
use Rattle.joiner.specs.Kinds.{kind_run, trimmed}
use Rattle.joiner.proofs.Regions.{delays-are, walk_is, past-delays}

-- Cells of one kind ---------------------------------------------------------------------------------------------------------------------------

abbrev OfKind : ℕ → List Cell → Type 0
OfKind k [] = Unit {0}
OfKind k (c ∷ cs) = (c.kind ≡ k) × OfKind k cs

kind-append : (k : ℕ) (xs ys : List Cell) → OfKind k xs → OfKind k ys → OfKind k (xs ++ ys)
kind-append k [] ys h g = g
kind-append k (c ∷ xs) ys h g = (h.0, kind-append k xs ys h.1 g)

own-kind : (δ s : ℕ) → OfKind 34 (if_delay_cells δ s)
unfolding if_delay_cells
own-kind zero s = tt
own-kind (suc δ) s = (refl, tt)

delays-kind : (v : ℕ) (P : Code) (s d c : ℕ) → OfKind 34 (delays v P s d c)
unfolding delays
delays-kind v ok s d c = tt
delays-kind v (tick δ) s d c = (refl, tt)
delays-kind v (assign δ x E) s d c = (refl, (refl, tt))
delays-kind v (assign_elem δ k I E) s d c = (refl, (refl, tt))
delays-kind v (seq P Q) s d c = kind-append 34 (delays v P s d c) _ (delays-kind v P s d c) (delays-kind v Q (finish_wire P s d c) (d + delay_count P) (c + walk_count P))
delays-kind v (par P Q) s d c = kind-append 34 (delays v P s d c) _ (delays-kind v P s d c) (delays-kind v Q s (d + delay_count P) (c + walk_count P))
delays-kind v (ite δ E P Q) s d c =
    kind-append 34 (if_delay_cells δ s) _ (own-kind δ s)
    (kind-append 34 (delays v P (on_true E c) (then_delays δ d) (past_switches E c)) _ (delays-kind v P (on_true E c) (then_delays δ d) (past_switches E c))
    (delays-kind v Q (on_false E c) (else_delays δ P d) (else_cells E P c)))
delays-kind v (while δ E P) s d c = (refl, delays-kind v P (on_true E c) (d + 1) (past_switches E c))
delays-kind v (repeat δ E P) s d c = (refl, delays-kind v P (past_switches E c) (d + 1) (past_switches E c + 1))
delays-kind v (loop δ P) s d c = (refl, delays-kind v P c (d + 1) (c + 1))
delays-kind v exit s d c = tt
delays-kind v (call δ p) s d c = (refl, tt)

chain-kind : (k acc n : ℕ) (ws : List ℕ) → OfKind k (or_chain k acc n ws)
unfolding or_chain
chain-kind k acc n [] = tt
chain-kind k acc n (w ∷ ws) = (refl, chain-kind k n (n + 1) ws)

ors-kind : (k n : ℕ) (ws : List ℕ) → OfKind k (ors k n ws)
unfolding ors
ors-kind k n [] = tt
ors-kind k n (w ∷ ws) = chain-kind k w n ws

ors_from-kind : (k : ℕ) (ws : List Source) (n x j : ℕ) → OfKind k (ors_from k ws n x j)
unfolding ors_from
ors_from-kind k ws n x zero = tt
ors_from-kind k ws n x (suc j) =
    kind-append k (ors k n (wires_of x ws)) _ (ors-kind k n (wires_of x ws)) (ors_from-kind k ws (n + or_count (wires_of x ws)) (x + 1) j)

-- Runs ----------------------------------------------------------------------------------------------------------------------------------------

run-through : (k : ℕ) (xs ys : List Cell) → OfKind k xs → kind_run k (xs ++ ys) ≡ length xs + kind_run k ys
unfolding kind_run
run-through k [] ys h = omega arith
run-through k (c ∷ xs) ys h = rw (eq-eqb c.kind k h.0, run-through k xs ys h.1) (omega arith)

-- cells of another kind end a run, and so do memories
run-stops : (k j : ℕ) (xs ys : List Cell) → (j ≡ k → ⊥) → OfKind j xs → kind_run k ys ≡ 0 → kind_run k (xs ++ ys) ≡ 0
unfolding kind_run
run-stops k j [] ys n h g = g
run-stops k j (c ∷ xs) ys n h g = rw (ne_eqb c.kind k (λ e. n (sym h.0 ∙ e)))

memories-stop : (k : ℕ) (S : Program) → (40 ≡ k → ⊥) → kind_run k (from_memories S) ≡ 0
unfolding kind_run memories_of
memories-stop k S n = rw (ne_eqb 40 k n)

module _ (v : ℕ) (P : Code) (n : Earlier 0 P) where
  abbrev S : Program
  S = one_root v P

  pub delays-in : kind_run 34 (drop 3 (netlist S)) ≡ delay_count P
  unfolding netlist
  delays-in =
      ap (λ (l : List Cell). kind_run 34 (l ++ from_clocks S)) (delays-are v P n)
      ∙ run-through 34 (delays v P 0 3 (walk_place S)) (from_clocks S) (delays-kind v P 0 3 (walk_place S))
      ∙ ap₂ ◌+◌ (d-len v P 0 3 (walk_place S))
      (run-stops 34 35 (clock_ors S) (from_memories S) (λ e. omega arith) (ors_from-kind 35 (clocks_of S) (clock_at S) 0 20) (memories-stop 34 S (λ e. omega arith)))
      ∙ add-zero (delay_count P)

  pub ors-in : kind_run 35 (drop (3 + delay_count P) (netlist S)) ≡ or_count_from (clocks_of S) 0 20
  ors-in =
      ap (kind_run 35) (past-delays v P n)
      ∙ run-through 35 (clock_ors S) (from_memories S) (ors_from-kind 35 (clocks_of S) (clock_at S) 0 20)
      ∙ ap₂ ◌+◌ (ors_from-len 35 (clocks_of S) (clock_at S) 0 20) (memories-stop 35 S (λ e. omega arith))
      ∙ add-zero (or_count_from (clocks_of S) 0 20)

-- The end of the walk -------------------------------------------------------------------------------------------------------------------------

-- cells that do not end with a 7, and such cells of which there are some
abbrev Solid : List Cell → Type 0
Solid xs = trimmed xs ≡ length xs

abbrev Firm : List Cell → Type 0
Firm xs = Solid xs × (1 ≤ length xs)

trim-step : (b : Bool) (m : ℕ) → 1 ≤ m → pick (b && eqb m 0) 0 (suc m) ≡ suc m
trim-step true m l = rw (ne_eqb m 0 (λ e. omega arith))
trim-step false m l = refl

-- whatever stands in front of them
behind : (xs ys : List Cell) → Firm ys → Firm (xs ++ ys)
unfolding trimmed
behind [] ys h = h
behind (c ∷ xs) ys h =
    let r = behind xs ys h in (
      ap (λ (m : ℕ). pick (eqb c.kind 7 && eqb m 0) 0 (suc m)) r.0 ∙ trim-step (eqb c.kind 7) (length (xs ++ ys)) r.1,
      omega arith,
    )

-- a cell of another kind, and whatever is solid behind it
firm-cons : (c : Cell) (xs : List Cell) → (c.kind ≡ 7 → ⊥) → Solid xs → Firm (c ∷ xs)
unfolding trimmed
firm-cons c xs n h = (rw (ne_eqb c.kind 7 n, h), omega arith)

solid-none : Solid []
unfolding trimmed
solid-none = refl

solid-append : (xs ys : List Cell) → Solid xs → Solid ys → Solid (xs ++ ys)
solid-append xs [] h g = subst Solid (sym (append-nil xs)) h
solid-append xs (c ∷ ys) h g = (behind xs (c ∷ ys) (g, omega arith)).0

solid-kind : (k : ℕ) (xs : List Cell) → (k ≡ 7 → ⊥) → OfKind k xs → Solid xs
solid-kind k [] n h = solid-none
solid-kind k (c ∷ xs) n h = (firm-cons c xs (λ e. n (sym h.0 ∙ e)) (solid-kind k xs n h.1)).0

-- one cell of another kind at the end
ended : (xs : List Cell) (k d a b : ℕ) → (k ≡ 7 → ⊥) → Firm (xs ++ (cell k d a b ∷ []))
ended xs k d a b n = behind xs (cell k d a b ∷ []) (firm-cons (cell k d a b) [] n solid-none)

module _ (M : Wires) (F : ℕ → ℕ) where
  walk-solid : (P : Code) (s d c : ℕ) → Solid (walk M F P s d c)
  unfolding walk
  walk-solid ok s d c = solid-none
  walk-solid (tick δ) s d c = solid-none
  walk-solid (assign δ x E) s d c = (ended (expr_cells M E c) 41 0 _ _ (λ e. omega arith)).0
  walk-solid (assign_elem δ k I E) s d c =
      (behind (expr_cells M I c) _
      (behind (expr_cells M E (c + expr_count I)) _ (ended (cell 41 0 d (expr_wire M E (c + expr_count I)) ∷ []) 41 0 d (expr_wire M I c) (λ e. omega arith)))).0
  walk-solid (seq P Q) s d c =
      solid-append (walk M F P s d c) _ (walk-solid P s d c) (walk-solid Q (finish_wire P s d c) (d + delay_count P) (c + walk_count P))
  walk-solid (par P Q) s d c = (behind (walk M F P s d c) _ (ended (walk M F Q s (d + delay_count P) (c + walk_count P)) 38 0 _ _ (λ e. omega arith))).0
  walk-solid (ite δ E P Q) s d c =
      (behind (expr_cells M E c) _
      (behind (cell 36 0 (if_pulse δ s d) (expr_wire M E c) ∷ (cell 37 0 (if_pulse δ s d) (expr_wire M E c) ∷ [])) _
      (behind (walk M F P (on_true E c) (then_delays δ d) (past_switches E c)) _
      (ended (walk M F Q (on_false E c) (else_delays δ P d) (else_cells E P c)) 35 0 _ _ (λ e. omega arith))))).0
  walk-solid (while δ E P) s d c =
      (behind (expr_cells M E c) _
      (behind (cell 36 0 d (expr_wire M E c) ∷ (cell 37 0 d (expr_wire M E c) ∷ [])) _
      (ended (walk M F P (on_true E c) (d + 1) (past_switches E c)) 35 0 _ _ (λ e. omega arith)))).0
  walk-solid (repeat δ E P) s d c =
      (behind (expr_cells M E c) _
      (behind (cell 36 0 d (expr_wire M E c) ∷ (cell 37 0 d (expr_wire M E c) ∷ [])) _
      (firm-cons (cell 35 0 s (on_false E c)) _ (λ e. omega arith) (walk-solid P (past_switches E c) (d + 1) (past_switches E c + 1))))).0
  walk-solid (loop δ P) s d c =
      (firm-cons (cell 35 0 s d) _ (λ e. omega arith)
      (solid-append (walk M F P c (d + 1) (c + 1)) _ (walk-solid P c (d + 1) (c + 1))
      (solid-kind 35 (ors 35 (exits_at P c) (loop_exits P d c)) (λ e. omega arith) (ors-kind 35 (exits_at P c) (loop_exits P d c))))).0
  walk-solid exit s d c = solid-none
  walk-solid (call δ p) s d c = (firm-cons (cell 39 0 d (F p)) [] (λ e. omega arith) solid-none).0

-- what is of kind 7 behind them is cut off
sevens-none : (ys : List Cell) → OfKind 7 ys → trimmed ys ≡ 0
unfolding trimmed
sevens-none [] h = refl
sevens-none (c ∷ ys) h = rw (eq-eqb c.kind 7 h.0, sevens-none ys h.1)

cut_off : (xs ys : List Cell) → OfKind 7 ys → trimmed (xs ++ ys) ≡ trimmed xs
unfolding trimmed
cut_off [] ys h = sevens-none ys h
cut_off (c ∷ xs) ys h = rw (cut_off xs ys h)

module _ (v : ℕ) (P : Code) (n : Earlier 0 P) where
  -- the arrays' cells end with a 43
  arrays-firm : (ks ds js : List ℕ) → Firm (arrays_of ks ds js 0 4)
  unfolding arrays_of trimmed
  arrays-firm ks ds js = (refl, omega arith)

  -- the walk ends where only ors of words are left
  pub walk-in : trimmed (netlist (one_root v P)) ≡ walk_place (one_root v P) + walk_count P
  walk-in =
      let S = one_root v P in
      let ks = clock_wires S in
      let ds = data_wires S in
      let js = address_wires S in
      let W = walk_cells S in
      let R = from_datas S in
      let tail = array_cells S ++ W in
      let mid = memory_cells S ++ tail in
      let X = below S ++ mid in
      let whole : netlist S ≡ X ++ R =
      parts S
      ∙ sym (append_assoc (below S) mid R ∙ ap (◌++◌ (below S)) (append_assoc (memory_cells S) tail R ∙ ap (◌++◌ (memory_cells S)) (append_assoc (array_cells S) W R))) in
      let sevens : OfKind 7 R = kind-append 7 (data_ors S) (address_ors S) (ors_from-kind 7 (data_of S) (data_at S) 0 20) (ors_from-kind 7 (addresses_of S) (address_at S) 16 4) in
      let lA = arrays-len ks ds js 0 4 in
      let lW = ap length (walk_is v P n) ∙ w-len (memory_wires (memory_at S)) (finish_of_root S) P 0 3 (walk_place S) in
      let solid : Solid W = subst Solid (sym (walk_is v P n)) (walk-solid (memory_wires (memory_at S)) (finish_of_root S) P 0 3 (walk_place S)) in
      let firm : Firm tail = (solid-append (array_cells S) W (arrays-firm ks ds js).0 solid, omega (arith, length-append (array_cells S) W, lA)) in
      let all = behind (below S) mid (behind (memory_cells S) tail firm) in
      ap trimmed whole ∙ cut_off X R sevens ∙ all.0
      ∙ omega (arith, length-append (below S) mid, length-append (memory_cells S) tail, length-append (array_cells S) W, below-len S, mems-len ks ds 0 16, lA, lW)

-- one cell at the end, of kind 7 or of another
pub cut-last : (xs : List Cell) (c : Cell) → c.kind ≡ 7 → trimmed (xs ++ (c ∷ [])) ≡ trimmed xs
cut-last xs c e = cut_off xs (c ∷ []) (e, tt)

pub keep-last : (xs : List Cell) (c : Cell) → (c.kind ≡ 7 → ⊥) → trimmed (xs ++ (c ∷ [])) ≡ length (xs ++ (c ∷ []))
keep-last xs c n = (behind xs (c ∷ []) (firm-cons c [] n solid-none)).0
