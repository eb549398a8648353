-- What obeys the functional netlist of a program is a functional circuit of it, fed by the start words. So from each start pulse that finds nothing in
-- flight its finish is high exactly when a finish is due by the functional rules, and its last sixteen cells show the last words from then until the
-- instant of the next start; then nothing is in flight, and before it something is.
-- Assumed: the program's trees are those of an accepted one, of document 01's kinds; start words and values are words of two bytes.
use Rattle.std.specs.Prelude.{◌≡◌, Bool, true, ◌&&◌, ◌||◌, List, ◌++◌, ◌↔◌, eqb, ltb, length, take}
use Rattle.std.proofs.Math.Path.{refl, sym, ap}
use Rattle.std.proofs.Common.{◌∙◌, le_of_suc-le-suc, arith}
use Rattle.std.proofs.Math.Bool.{false, not}
use Prim.Native.Nat.{ℕ, zero, suc, ◌+◌, ◌-◌, ◌<◌, ◌≤◌}
use Rattle.std.proofs.Math.Nat.{zero-add}
use Rattle.std.specs.Int.Bits.{or_zero_r}
use Rattle.std.proofs.Math.Seq.{take-append-add}
use Rattle.model.specs.declared.Cell.{Cell}
use Rattle.model.specs.declared.Merge.{Merge}
use Rattle.model.specs.Word.{pick, bit, is_zero, operate}
use Rattle.model.specs.Program.{Stmt}
use Rattle.model.specs.Rules.{functional, Store, ended, still, run, due}
use Rattle.model.specs.Circuit.{cell, cell_at, Sig, Values, level, memory, element, delayed, remaining_before, pulses, held_before, step_of, memories, start_word, Netlist, Obeys}
use Rattle.model.specs.Numbering.{head_cells}
use Rattle.model.specs.declared.Format.TheVariants.{Compact}
use Rattle.model.specs.CircuitPromises.{Apart, Idle, NoStart}
use Rattle.model.specs.Functional.{rows, sixteen, memory_at, arrays_at, walk_place, last_at, last_wires, start_wires, idle_arrays, netlist_of, finish_of}
use Rattle.laws.specs.Refusals.Laws.{by_le, not-both}
use Rattle.laws.specs.Program.Fit.{Formed, Timed, Basic}
use Rattle.laws.specs.Circuit.Shapes.{delay-kind, delay-shape, merge-shape, of-merge, by-merge}
use Rattle.laws.specs.Numbering.Cells.{cell_val, Rule, obeys-holds, All, all_of}
use Rattle.laws.specs.Numbering.Memories.{memories-append}
use Rattle.laws.specs.Functional.Count.{net-len}
use Rattle.laws.specs.Functional.Rows.{sixteen-at, all-sixteen}
use Rattle.laws.specs.Functional.Compiled.{memory_cell, last_cell, walk_cells, Laid, lay, laid-at}
use Rattle.theory.specs.Control.Signal.{Clear, delayed-at, delayed-off}
use Rattle.theory.specs.Numbering.Levels.{level-of, ||-false}
use Rattle.theory.specs.State.Wires.{remaining-low}
use Rattle.theory.specs.Functional.Merges.{Spaced, Empty}
use Rattle.theory.specs.Functional.Wiring.{Words, Tags, Net}
use Rattle.theory.specs.Functional.Calm.{both, Calm, Clean, calm-clean, calm-zero, not_calm}
use Rattle.theory.specs.Functional.Runs.{Begins}
use Rattle.theory.specs.Functional.Timing.{rests-after, alive-at, late-at, finish-at, words-after, words-next}
use Rattle.theory.specs.Functional.Structure.{shows, shows-at, below-16, Inside, wired, Known, Still, circuit-of, clean_of}
use Rattle.theory.specs.Functional.Idle.{other, known_of}

-- below memory x stand x memories
rows-count : (rest : List Cell) (x n i : ℕ) → i ≤ n → memories (take i (rows memory_cell x n ++ rest)) ≡ i
unfolding memories rows bit
rows-count rest x n zero l = refl
rows-count rest x zero (suc i) l = absurd (omega arith)
rows-count rest x (suc n) (suc i) l = rw (rows-count rest (x + 1) n i (le_of_suc-le-suc l)) (omega arith)

start-words : (P : Stmt) (words : Store) (x : ℕ) → x < 16 → start_word (netlist_of P) words (memory_at + x) ≡ words x
unfolding netlist_of memories bit
start-words P words x l =
    let rest : List Cell = idle_arrays 0 4 ++ (walk_cells P ++ sixteen (last_cell P)) in
    ap words
    (ap memories (take-append-add head_cells (sixteen memory_cell ++ rest) x)
    ∙ memories-append head_cells (take x (sixteen memory_cell ++ rest))
    ∙ ap (λ (k : ℕ). memories head_cells + k) (rows-count rest 0 16 x (omega arith))
    ∙ omega arith)

-- a delay that is clear, by its last inputs
clear_of : (d : ℕ) (x : Sig) (t : ℕ) → ((i : ℕ) → i < d → delayed i x t ≡ false) → Clear d x (suc t)
clear_of d x t h v l k = sym (delayed-at (t - v) x v t (omega arith)) ∙ h (t - v) (omega arith)

of-clear : (d : ℕ) (x : Sig) (t : ℕ) → Clear d x (suc t) → (i : ℕ) → i < d → delayed i x t ≡ false
of-clear d x t h i l = delayed-off i x t (λ v e. h v (omega arith) (omega arith))

-- a delay of d + 1 that is told of two
clear_halves : (a d : ℕ) (g : Sig) → Clear (suc d) g a → Clear 1 g a × Clear d (delayed 1 g) a
clear_halves a d g h = (λ t l k. h t l (omega arith), λ t l o. delayed-off 1 g t (λ u q. h u (omega arith) (omega arith)))

spaced-halves : (a d : ℕ) (g : Sig) → Spaced (suc d) g a → Spaced 1 g a × Spaced d (delayed 1 g) a
spaced-halves a d g h = (
  λ u v l k x y. omega arith,
  λ u v l k x y.
      let positive : 1 ≤ u = by_le 1 u (λ o. o) (λ o. not-both x (delayed-off 1 g u (λ t q. absurd (omega arith)))) in
      let i : u - 1 + suc d ≤ v - 1 =
      h (u - 1) (v - 1) (omega arith) (omega arith) (sym (delayed-at 1 g (u - 1) u (omega arith)) ∙ x) (sym (delayed-at 1 g (v - 1) v (omega arith)) ∙ y) in
      omega arith,
)

-- with pulses of one instant the start is high at its pulses alone
none_left : (x : Sig) (t : ℕ) → remaining_before 1 x t ≡ 0
none_left x t = omega (arith, remaining-low 1 x t)

pulses-one : (x : Sig) (t : ℕ) → pulses 1 x t ≡ x t
unfolding pulses
pulses-one x t = ap (λ (n : ℕ). x t || not (is_zero n)) (none_left x t) ∙ ||-false (x t)

-- "Pulse length is 1."
abbrev pub circuit_of : Stmt → Netlist
circuit_of P = record { cells = netlist_of P; pulse = 1 }

module _ (P : Stmt) (w : Formed P) (basic : Basic P) (timed : Timed P) (starts : Sig) (words : Store) (W : Values)
    (obeys : Obeys (circuit_of P) starts words W) (bounded : (k t : ℕ) → k < length (netlist_of P) → W k t < 65536) where
  abbrev net : List Cell
  net = netlist_of P

  abbrev first : ℕ → ℕ
  first k = start_word net words k

  abbrev R : ℕ → Cell → Type 0
  R = Rule 1 starts first (element net words W) W

  laid : Laid R P
  laid = lay R P (obeys-holds (circuit_of P) starts words W obeys)

  ground : (t : ℕ) → level W 1 t ≡ false
  unfolding cell_val bit
  ground t = level-of false (laid.at-ground t)

  nought : (t : ℕ) → W 2 t ≡ 0
  unfolding cell_val
  nought t = laid.at_zero t

  pub start_is : (t : ℕ) → level W 0 t ≡ starts t
  unfolding cell_val
  start_is t = level-of (pulses 1 starts t) (laid.at-start t) ∙ pulses-one starts t

  -- "Memories keep the start words"
  pub memory-keeps : (t x : ℕ) → x < 16 → W (memory_at + x) t ≡ words x
  unfolding cell_val memory
  memory-keeps zero x l = sixteen-at R memory_cell 3 laid.at-mems x l 0 ∙ start-words P words x l
  memory-keeps (suc t) x l =
      sixteen-at R memory_cell 3 laid.at-mems x l (suc t)
      ∙ ap (λ (b : Bool). pick (b && not (level W 1 (suc t))) (W 2 t) (W (memory_at + x) t)) (ground t)
      ∙ memory-keeps t x l

  memories-inside : Inside (length net) start_wires
  unfolding Inside
  memories-inside x l = omega (arith, net-len P)

  -- the words in and out, of the circuit that the cells are
  abbrev v : Words
  v = shows words W start_wires

  abbrev u : Words
  u = shows words W (last_wires P)

  abbrev E : Tags
  E = wired W P 0 walk_place

  abbrev s : Sig
  s = level W 0

  abbrev f : Sig
  f = level W (finish_of P)

  words-in : (t x : ℕ) → v t x ≡ words x
  words-in t x = go (ltb x 16) refl
    where
      go : (b : Bool) → ltb x 16 ≡ b → v t x ≡ words x
      go true e = rw e (memory-keeps t x (below-16 x e))
      go false e = rw e

  circuit : Net E P s f v u
  unfolding finish_of
  circuit =
      circuit-of words starts first (element net words W) W (length net) bounded nought P w basic 0 start_wires walk_place memories-inside
      (omega (arith, net-len P)) laid.at-walk

  last-shows : (t x : ℕ) → x < 16 → W (last_at P + x) t ≡ u t x
  unfolding cell_val operate
  last-shows t x l =
      sixteen-at R (last_cell P) (last_at P) laid.at_last x l t
      ∙ ap (λ (y : ℕ). operate 7 (W (last_wires P x) t) y) (nought t) ∙ or_zero_r (W (last_wires P x) t) ∙ sym (shows-at words W (last_wires P) t x l)

  -- Nothing in flight, in the circuit and in the cells ------------------------------------------------------------------------------------

  clean-still : (a : ℕ) → ((k : ℕ) → k < length net → Still W a k (cell_at net k)) → Clean E P a s f v u
  unfolding finish_of
  clean-still a h =
      clean_of words starts first (element net words W) W (length net) bounded nought P w basic 0 start_wires walk_place memories-inside
      (omega (arith, net-len P)) laid.at-walk a (lay (Still W a) P (all_of (Still W a) net 0 (λ i l. rw zero-add (h i l)))).at-walk

  -- what is known of the circuit's delays and merges, in the cells
  module _ (C : ℕ → Sig → Type 0) (H : Sig → Sig → Type 0) (halves : (d : ℕ) (g : Sig) → C (suc d) g → C 1 g × C d (delayed 1 g)) where
    none : (k : ℕ) (c : Cell) → eqb c.kind 34 ≡ false → eqb c.kind 38 ≡ false → eqb c.kind 39 ≡ false → Known C H W k c
    none k c = other starts first (element net words W) W C H halves k c

    known_at : Net (both C H E) P s f v u → (k : ℕ) → k < length net → Known C H W k (cell_at net k)
    unfolding finish_of idle_arrays
    known_at h =
        laid-at (Known C H W) P
        (record {
          at-start = none 0 (cell 32 0 0 0) refl refl refl;
          at-ground = none 1 (cell 33 0 0 0) refl refl refl;
          at_zero = none 2 (cell 1 0 0 0) refl refl refl;
          at-mems = all-sixteen (Known C H W) memory_cell 3 (λ x l. none (3 + x) (memory_cell x) refl refl refl);
          at-arrays = arrays 0 4 arrays_at;
          at-walk = known_of starts first (element net words W) W C H halves P w 0 start_wires walk_place laid.at-walk s f v u h;
          at_last = all-sixteen (Known C H W) (last_cell P) (last_at P) (λ x l. none (last_at P + x) (last_cell P x) refl refl refl);
        })
      where
        arrays : (y n k : ℕ) → All (Known C H W) k (idle_arrays y n)
        arrays y zero k = tt
        arrays y (suc n) k = (none k (cell 42 y 1 2) refl refl refl, (none (k + 1) (cell 43 0 2 0) refl refl refl, arrays (y + 1) n (k + 1 + 1)))

  still-clean : (a : ℕ) → Clean E P a s f v u → (k : ℕ) → k < length net → Still W a k (cell_at net k)
  still-clean a = known_at (λ d s. Clear d s a) (λ f g. Empty f g a) (λ d g h. clear_halves a d g h)

  -- the promise's `Idle`
  at_rest : (t : ℕ) → Clean E P (suc t) s f v u ↔ Idle (circuit_of P) W t
  unfolding step_of
  at_rest t = (
    (λ h.
        record {
          delays = λ k l q. of-clear _ _ t ((still-clean (suc t) h k l).delay (delay-kind _ q));
          held = λ k l q.
              let c = cell_at net k in
              let held : ℕ → Merge = λ j. held_before (step_of 1 j) (level W c.a) (level W c.b) (suc t) in
              by-merge c.kind q
              (λ e. ap held e ∙ (still-clean (suc t) h k l).merge e)
              (λ e. absurd ((still-clean (suc t) h k l).uncalled e));
          start = λ k l q. none_left (level W k) (suc t);
        }),
    (λ I.
        clean-still (suc t)
        (λ k l.
        let c = cell_at net k in
        let held : ℕ → Merge = λ j. held_before (step_of 1 j) (level W c.a) (level W c.b) (suc t) in
        record {
          delay = λ q. clear_of _ _ t (I.delays k l (delay-shape _ q));
          merge = λ q. sym (ap held q) ∙ I.held k l (of-merge 1 _ (merge-shape _ q)).0;
          uncalled = λ q. (still-clean 0 (calm-clean E P 0 s f v u (calm-zero E P s f v u circuit)) k l).uncalled q;
        })),
  )

  -- Runs ---------------------------------------------------------------------------------------------------------------------------------

  -- a start pulse at a finds nothing in flight
  pub record Began (a : ℕ) : Type 0 where
    pub pulse : starts a ≡ true
    pub calm : Calm E P a s f v u

  pub run-first : starts 0 ≡ true → Began 0
  run-first p = record { pulse = p; calm = calm-zero E P s f v u circuit }

  module _ (a t : ℕ) (B : Began a) (since : a ≤ t) (alone : NoStart starts a t) where
    begins : Begins E P words s f v u a t
    begins =
        record {
          calm = B.calm;
          start = start_is a ∙ B.pulse;
          after = λ i l k. start_is i ∙ alone i (omega arith) (omega arith);
          words = λ i x l k. words-in i x;
        }

    back : a + (t - a) ≡ t
    back = omega arith

    pub finish-due : level W (finish_of P) t ≡ due functional 1 P words (t - a)
    finish-due = ap f (sym back) ∙ finish-at E P timed w words s f v u a t begins (t - a) (omega arith)

    -- no pulse has entered a line whose pulse hadn't come out
    pub lines-apart : Apart Compact (circuit_of P) W t
    lines-apart k l q i m j o x y =
        (known_at (λ d g. Spaced d g (suc t)) (λ f g. Unit {0}) (λ d g h. spaced-halves (suc t) d g h)
        (rw back at (late-at E P timed w words s f v u a t begins (t - a) (omega arith)))
        k l).delay (delay-kind _ q) j i o (omega arith) x y

    -- before its end something is in flight
    pub still-busy : run functional (t - a) P words ≡ still → Idle (circuit_of P) W t → ⊥
    still-busy p I =
        not_calm E (λ i d g h x y. x ∙ sym y) P (suc t) s f v u ((at_rest t).1 I)
        (rw back at (alive-at E P timed w words s f v u a t begins (t - a) (omega arith) p))

    module _ (e : ℕ) (σ' : Store) (p : run functional e P words ≡ ended e σ') (past : a + e ≤ t) where
      -- "right at the finish pulse"
      pub last-words : (x : ℕ) → x < 16 → W (last_at P + x) t ≡ σ' x
      last-words x l = last-shows t x l ∙ ap (λ (i : ℕ). u i x) (sym back) ∙ words-after E P timed w words s f v u a t begins e σ' p (t - a) x (omega arith) (omega arith)

      -- "and held until the next start"
      pub last-next : (x : ℕ) → x < 16 → W (last_at P + x) (suc t) ≡ σ' x
      last-next x l =
          last-shows (suc t) x l ∙ ap (λ (i : ℕ). u (suc i) x) (sym back)
          ∙ words-next E P timed w words s f v u a t begins e σ' p (t - a) x (omega arith) (omega arith)
          (λ y. words-in (suc (a + (t - a))) y ∙ sym (words-in (a + (t - a)) y))

      calm-after : Calm E P (suc t) s f v u
      calm-after = rw back at (rests-after E P timed w words s f v u a t begins e σ' p (t - a) (omega arith) (omega arith)).calm

      pub ended-idle : Idle (circuit_of P) W t
      ended-idle = (at_rest t).0 (calm-clean E P (suc t) s f v u calm-after)

      -- "from which every start runs"
      pub run-again : starts (suc t) ≡ true → Began (suc t)
      run-again q = record { pulse = q; calm = calm-after }
