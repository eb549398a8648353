-- Values that obey a netlist are words, below 65,536, and so are the elements of its arrays: where refusal 12 lets the netlist pass, and its
-- start words and its cells' fields a, the constants among them, are words. Of a file of bytes these fields are. (That a control wire's value
-- is 0 or 1 is Shapes' level-bound.) Assumes nothing.
use Rattle.model.specs.Refusals.{Accepted}
use Rattle.std.specs.Prelude.{◌≡◌, Bool, true, false, ◌&&◌, List, length}
use mathlib.Core.WellFounded.{induction}
use Prim.Native.Nat.{ℕ, zero, suc, ◌+◌, ◌<◌}
use Rattle.std.proofs.Common.{lt-suc_self, eqb-true}
use native.Mathlib.Omega.{arith}
use Rattle.std.proofs.lemmas.Nat.{and_le_l, or_lt}
use Rattle.std.proofs.Math.Dec.{eqb}
use lib.WfN.{lt-wf_rel}
use Rattle.model.specs.declared.Cell.{Cell}
use Rattle.model.specs.Word.{pick, bit, operate, index, get16, Bytes}
use Rattle.model.specs.Circuit.{falls, cell_at, array_at, Sig, Values, level, element, memory, latch, equation, start_word, Obeys, Shape, cell_table, shape, k_constant, k_complement, k_operator, k_start, k_ground, k_delay, k_or, k_when_true, k_when_false, k_merge, k_return, k_memory, k_gated, k_array, k_address, k_read, k_latch, k_unknown}
use Rattle.model.specs.NetlistFile.{cell_from, cells_at, in_file, cells_of, count_of, finish_of, net_check, file_check, net_of, pulse_of}
use Rattle.laws.specs.Circuit.Ordered.{Looks, kinds}
use Rattle.laws.specs.Circuit.Unique.{Feeds, feeds}
use Rattle.laws.specs.NetlistFile.Passed.{net-ordered, file-passed}
use Rattle.laws.specs.Circuit.Shapes.{bit_le}

-- Operators ----------------------------------------------------------------------------------------------------------------------------

bit_word : (b : Bool) → bit b < 65536
bit_word b = omega (arith, bit_le b)

pick_word : (b : Bool) {x y : ℕ} → x < 65536 → y < 65536 → pick b x y < 65536
pick_word true h g = h
pick_word false h g = g

-- an operator's result is a word
pub operate-word : (k x y : ℕ) → x < 65536 → y < 65536 → operate k x y < 65536
unfolding operate
operate-word k x y h g =
    pick_word (eqb k 3) (omega arith)
    (pick_word (eqb k 4) (omega arith)
    (pick_word (eqb k 5) (omega arith)
    (pick_word (eqb k 6) (omega (arith, and_le_l x y))
    (pick_word (eqb k 7) (or_lt 16 x y h g)
    (pick_word (eqb k 8) (bit_word _) (bit_word _))))))

-- Cells --------------------------------------------------------------------------------------------------------------------------------

module _ (net : List Cell) (words : ℕ → ℕ) (w : (x : ℕ) → words x < 65536) (W : Values) where
  -- the words of an array are words if all cells showed words before
  element-word : (j i t : ℕ) → Feeds net j → ((u : ℕ) → u < t → (m : ℕ) → m < length net → W m u < 65536) → element net words W j i t < 65536
  unfolding element
  element-word j i zero f past = w _
  element-word j i (suc t) f past =
      pick_word (falls W (cell_at net j).a t && eqb i (index (W (cell_at net (j + 1)).a t)))
      (past t (lt-suc_self t) (cell_at net j).b f.1) (element-word j i t f (λ u l. past u (omega arith)))

  module _ (fed : (j : ℕ) → j < length net → (cell_at net j).kind ≡ 42 → Feeds net j) (p : ℕ) (starts : Sig) (first k : ℕ) (c : Cell) (a : c.a < 65536)
      (f : first < 65536) (l : k < length net) where
    -- a cell shows a word if all cells did before and the lower ones do
    equation-word : (s : Shape) (t : ℕ) → Looks (cell_table s).row (kinds net) (length net) k c
        → ((u : ℕ) → u < t → (j : ℕ) → j < length net → W j u < 65536)
        → ((j : ℕ) → j < k → W j t < 65536) → equation p s starts first (element net words W) W k c t < 65536
    unfolding equation memory latch cell_table
    equation-word k_constant t o past below = a
    equation-word k_complement t o past below = operate-word 3 _ 0 (below c.a o.1.0) (omega arith)
    equation-word k_operator t o past below = operate-word c.kind _ _ (below c.a o.1.0) (below c.b o.2.0)
    equation-word k_start t o past below = bit_word _
    equation-word k_ground t o past below = omega arith
    equation-word k_delay t o past below = bit_word _
    equation-word k_or t o past below = bit_word _
    equation-word k_when_true t o past below = bit_word _
    equation-word k_when_false t o past below = bit_word _
    equation-word k_merge t o past below = bit_word _
    equation-word k_return t o past below = bit_word _
    equation-word k_memory zero o past below = f
    equation-word k_memory (suc t) o past below =
        pick_word (falls W c.a t) (past t (lt-suc_self t) c.b o.2.0) (past t (lt-suc_self t) k l)
    equation-word k_gated t o past below = pick_word (level W c.a t) (below c.b o.2.0) (omega arith)
    equation-word k_array t o past below = omega arith
    equation-word k_address t o past below = omega arith
    equation-word k_read t o past below =
        element-word c.a (index (W c.b t)) t (fed c.a (omega (arith, o.1.0)) (eqb-true _ _ o.1.1)) past
    equation-word k_latch zero o past below = omega arith
    equation-word k_latch (suc t) o past below =
        pick_word (level W c.a t) (past t (lt-suc_self t) c.b o.2.0) (past t (lt-suc_self t) k l)
    equation-word k_unknown t o past below = omega arith

-- Netlists -----------------------------------------------------------------------------------------------------------------------------

-- every wire's value is a word, in a netlist that refusal 12 lets pass
pub wires-bounded : (p : ℕ) (net : List Cell) (f : ℕ) → net_check net f ≡ Accepted → ((k : ℕ) → k < length net → (cell_at net k).a < 65536)
    → (starts : Sig) (words : ℕ → ℕ) → ((x : ℕ) → words x < 65536)
    → (W : Values) → Obeys (record { cells = net; pulse = p }) starts words W → (k : ℕ) → k < length net → (t : ℕ) → W k t < 65536
unfolding Obeys
wires-bounded p net f e a starts words w W obeys k l t =
    let o = net-ordered net f e in
    induction lt-wf_rel.wf {C = λ u. (j : ℕ) → j < length net → W j u < 65536} t
    (λ u past j. induction lt-wf_rel.wf {C = λ j. j < length net → W j u < 65536} j
    (λ j below lj.
    rw (obeys j lj u)
    (equation-word net words w W (feeds net o) p starts (start_word net words j) j (cell_at net j) (a j lj) (w _) lj (shape (cell_at net j).kind) u
    (o.looks j lj) past (λ i li. below i li (omega arith)))))
    k l

-- Files --------------------------------------------------------------------------------------------------------------------------------

-- a cell's field a, read from bytes, is a word
field-word : (at : ℕ → ℕ) (s : List ℕ) → Bytes s → (k n i : ℕ) → (cell_at (cells_at at s k n) i).a < 65536
unfolding cells_at cell_from get16
field-word at s y k zero i = omega arith
field-word at s y k (suc n) zero = omega (arith, y (at k + 2), y (at k + 2 + 1))
field-word at s y k (suc n) (suc i) = field-word at s y (k + 1) n i

-- every wire's value is a word, in the netlist of an accepted file
pub file-bounded : (file : List ℕ) → Bytes file → file_check file ≡ Accepted → (starts : Sig) (words : ℕ → ℕ) → ((x : ℕ) → words x < 65536)
    → (W : Values) → Obeys (net_of file) starts words W → (k : ℕ) → k < length (cells_of file) → (t : ℕ) → W k t < 65536
file-bounded file y e =
    wires-bounded (pulse_of file) (cells_of file) (finish_of file) (file-passed file e).cells (λ k l. unfold cells_of in field-word in_file file y 0 (count_of file) k)

-- and so is every element
pub elements-bounded : (file : List ℕ) → Bytes file → file_check file ≡ Accepted → (starts : Sig) (words : ℕ → ℕ) → ((x : ℕ) → words x < 65536)
    → (W : Values) → Obeys (net_of file) starts words W → (v : ℕ) → v < 4 → (i t : ℕ) → element (cells_of file) words W (array_at (cells_of file) v) i t < 65536
elements-bounded file y e starts words w W obeys v l i t =
    let net = cells_of file in
    let o = net-ordered net (finish_of file) (file-passed file e).cells in
    let r = o.arrays v l in
    element-word net words w W (array_at net v) i t (feeds net o (array_at net v) (omega (arith, r.0)) r.1)
    (λ u lu m lm. file-bounded file y e starts words w W obeys m lm u)
