-- The list that a slow run works in: rings of 256 words of two bytes, one for each cell's values, one for the 256 elements as they are, and one for what each
-- cell holds: of a merge its held bits, of a read the elements that it has read. What cells show by these bytes; and what the rings hold at instant t, when
-- the cells below k have been evaluated.
-- Assumes nothing: definitions.
use Rattle.std.specs.Prelude.{Bool, true, false, not, ◌&&◌, ◌||◌, List, ◌≡◌, ℕ, suc, ◌+◌, ◌-◌, ◌*◌, ◌/◌, ◌%◌, ◌<◌, ◌≤◌, eqb, ltb, length}
use Rattle.model.specs.declared.Cell.{Cell}
use Rattle.model.specs.declared.Merge.{Merge}
use Rattle.model.specs.declared.Merged.{Merged}
use Rattle.model.specs.Word.{pick, bit, is_zero, operate, index, element_of, get16}
use Rattle.model.specs.Program.{time_in}
use Rattle.model.specs.Circuit.{cell_at, array_at, high, level, Values, element, held_before, merges, step_of, memories, Shape, k_constant, k_complement, k_operator, k_start, k_ground, k_delay, k_or, k_when_true, k_when_false, k_merge, k_return, k_memory, k_gated, k_array, k_address, k_read, k_latch, k_unknown}
use Rattle.model.specs.NetlistFile.{cell_from, cells_at, in_list}
use Rattle.model.specs.Calls.{word_at}
use Rattle.model.specs.Gates.{past, slow_size, slow_values}
use Rattle.laws.specs.Circuit.Ordered.{Ordered}
use Rattle.slow.specs.declared.net.Net.{Net}

-- the netlist of n cells, six bytes each
abbrev pub net_of : List ℕ → ℕ → List Cell
net_of cells n = cells_at in_list cells 0 n

-- where the word of ring j at instant t stands, and the word
abbrev pub slot : ℕ → ℕ → ℕ
slot j t = 512 * j + 2 * (t % 256)

abbrev pub word_in : List ℕ → ℕ → ℕ → ℕ
word_in s j t = get16 s (slot j t)

-- ring n has the elements: that with index w of array v stands where instant `elementOf v w` would
abbrev pub element_in : List ℕ → ℕ → ℕ → ℕ → ℕ
element_in s n v w = word_in s n (element_of v w)

-- the ring of what cell k holds
abbrev pub held_ring : ℕ → ℕ → ℕ
held_ring n k = n + 1 + k

-- held bits as a word
unfoldable pub held_code : Merge → ℕ
held_code m = bit m.a + 2 * bit m.b

unfoldable pub held_of : ℕ → Merge
held_of x = record { a = eqb (x % 2) 1; b = eqb (x / 2) 1 }

-- what cell k of n held before instant t
unfoldable pub held_in : List ℕ → ℕ → ℕ → ℕ → Merge
held_in s n k t = pick (eqb t 0) (record { a = false; b = false }) (held_of (word_in s (held_ring n k) (t - 1)))

-- one instant of a merge of this kind, which with pulses of 1 looks at no former output
unfoldable pub merge_in : ℕ → Merge → Bool → Bool → Merged
merge_in kind m a b = step_of 1 kind false m a b

-- what merge k, which is c, makes of its inputs
abbrev pub merged_in : List ℕ → ℕ → ℕ → Cell → ℕ → Merged
merged_in s n k c t = merge_in c.kind (held_in s n k t) (high (word_in s c.a t)) (high (word_in s c.b t))

-- a clock that has fallen at instant t
abbrev pub fallen_in : List ℕ → ℕ → ℕ → Bool
fallen_in s a t = high (word_in s a (t - 1)) && not (high (word_in s a t))

-- what cell k of n, which is c, shows at instant t; d is its time, word₀ its start word
unfoldable pub shown_in : Shape → List ℕ → ℕ → ℕ → Cell → ℕ → ℕ → ℕ → ℕ
shown_in k_constant s n k c t d word₀ = c.a
shown_in k_complement s n k c t d word₀ = operate 3 (past d (word_in s c.a) t) 0
shown_in k_operator s n k c t d word₀ = operate c.kind (past d (word_in s c.a) t) (past d (word_in s c.b) t)
shown_in k_start s n k c t d word₀ = bit (eqb t 0)
shown_in k_ground s n k c t d word₀ = 0
shown_in k_delay s n k c t d word₀ = bit (high (past c.delay (word_in s c.a) t))
shown_in k_or s n k c t d word₀ = bit (high (word_in s c.a t) || high (word_in s c.b t))
shown_in k_when_true s n k c t d word₀ = bit (high (word_in s c.a t) && not (is_zero (word_in s c.b t)))
shown_in k_when_false s n k c t d word₀ = bit (high (word_in s c.a t) && is_zero (word_in s c.b t))
shown_in k_merge s n k c t d word₀ = bit (merged_in s n k c t).out
shown_in k_return s n k c t d word₀ = bit (merged_in s n k c t).out
shown_in k_memory s n k c t d word₀ = pick (eqb t 0) word₀ (pick (fallen_in s c.a t) (word_in s c.b (t - 1)) (word_in s k (t - 1)))
shown_in k_gated s n k c t d word₀ = pick (high (word_in s c.a t)) (word_in s c.b t) 0
shown_in k_array s n k c t d word₀ = 0
shown_in k_address s n k c t d word₀ = 0
shown_in k_read s n k c t d word₀ = past d (word_in s (held_ring n k)) t
shown_in k_latch s n k c t d word₀ = pick (eqb t 0) 0 (pick (high (word_in s c.a (t - 1))) (word_in s c.b (t - 1)) (word_in s k (t - 1)))
shown_in k_unknown s n k c t d word₀ = 0

-- the time of an operator, and of none behind the walk; that of kind 44 is kind 10's
abbrev pub time_at : List ℕ → ℕ → ℕ → ℕ → ℕ
time_at times ors k kind = pick (ltb k ors) (time_in times (pick (eqb kind 44) 10 kind)) 0

-- what element i of an array, whose kind 42 is c with address wire j, becomes at instant t
unfoldable pub taken_in : List ℕ → ℕ → Cell → ℕ → ℕ → ℕ → ℕ
taken_in s n c j t i =
    pick (eqb t 0) (element_in s n c.delay i)
    (pick (fallen_in s c.a t && eqb i (index (word_in s j (t - 1)))) (word_in s c.b (t - 1)) (element_in s n c.delay i))

-- the element that c, a read of array v, reads
abbrev pub read_in : List ℕ → ℕ → Cell → ℕ → ℕ → ℕ
read_in s n c v t = element_in s n v (word_in s c.b t)

-- the cells that c looks at are among n, and a read's array is one
pub record Sees (cells : List ℕ) (n : ℕ) (c : Cell) : Type 0 where
  pub a : (c.kind ≡ 1 → ⊥) → c.a < n
  pub b : c.b < n
  pub array : c.kind ≡ 44 → (cell_at (net_of cells n) c.a).delay < 4

-- what is left of other words, where those of the rings P at instant t are written, and the elements Q
pub record Leaves (n t : ℕ) (P Q : ℕ → Type 0) (s s' : List ℕ) : Type 0 where
  pub long : length s' ≡ length s
  pub old : (j u : ℕ) → (j ≡ n → ⊥) → u < t → t ≤ u + 255 → word_in s' j u ≡ word_in s j u
  pub new : (j : ℕ) → (j ≡ n → ⊥) → (P j → ⊥) → word_in s' j t ≡ word_in s j t
  pub elements : (e : ℕ) → e < 256 → (Q e → ⊥) → word_in s' n e ≡ word_in s n e

-- what cell k of n, which is c, writes beside its value: what it holds, or the elements of its array
abbrev pub Beside : ℕ → ℕ → ℕ → Type 0
Beside n k j = j ≡ held_ring n k

abbrev pub Owned : Cell → ℕ → Type 0
Owned c e = (c.kind ≡ 42) × (64 * c.delay ≤ e) × (e < 64 * c.delay + 64)

-- what it makes of s there
pub record Prepared (cells : List ℕ) (n k : ℕ) (c : Cell) (t : ℕ) (s s' : List ℕ) : Type 0 where
  pub leaves : Leaves n t (Beside n k) (Owned c) s s'
  pub elements : c.kind ≡ 42 → (i : ℕ) → i < 64 → word_in s' n (64 * c.delay + i) ≡ taken_in s n c (cell_from cells (6 * (k + 1))).a t i
  pub held : merges c.kind ≡ true → word_in s' (held_ring n k) t ≡ held_code (merged_in s n k c t).held
  pub read : c.kind ≡ 44 → word_in s' (held_ring n k) t ≡ read_in s n c (cell_at (net_of cells n) c.a).delay t

-- the values that are worked out
abbrev pub values_of : List ℕ → ℕ → ℕ → List ℕ → List ℕ → Values
values_of cells n ors times words = slow_values (time_in times) (net_of cells n) ors (word_at words)

-- n cells that keep the rules, the start words, and a list to work in
pub record Works (cells : List ℕ) (n : ℕ) (words s : List ℕ) : Type 0 where
  pub few : n ≤ 1024
  pub list : 6 * n ≤ length cells
  pub starts : 544 ≤ length words
  pub room : slow_size n ≤ length s
  pub ordered : Ordered (net_of cells n)
  pub sixteen : memories (net_of cells n) ≡ 16

-- what merge j holds before instant t
abbrev pub held_word : List Cell → Values → ℕ → ℕ → ℕ
held_word net W j t = held_code (held_before (step_of 1 (cell_at net j).kind) (level W (cell_at net j).a) (level W (cell_at net j).b) t)

-- the element that read j reads at instant t
abbrev pub read_word : List Cell → (ℕ → ℕ) → Values → ℕ → ℕ → ℕ
read_word net words W j t = element net words W (cell_at net j).a (index (W (cell_at net j).b t)) t

-- what a cell that is evaluated at instant t may look at, when the cells below k have been: the values W of the last 255 instants, and those of these cells
-- now; and what cells have held
pub record Seen (net : List Cell) (words : ℕ → ℕ) (W : Values) (t k : ℕ) (s : List ℕ) : Type 0 where
  pub cells : (j u : ℕ) → j < length net → u < t → t ≤ u + 255 → word_in s j u ≡ W j u
  pub cells-now : (j : ℕ) → j < k → word_in s j t ≡ W j t
  pub held : (j u : ℕ) → j < length net → merges (cell_at net j).kind ≡ true → suc u ≡ t → word_in s (held_ring (length net) j) u ≡ held_word net W j t
  pub read : (j u : ℕ) → j < length net → (cell_at net j).kind ≡ 44 → u < t → t ≤ u + 255
      → word_in s (held_ring (length net) j) u ≡ read_word net words W j u

-- all that is kept: also what these cells hold now, and the elements, of these cells as they are now and of the others as they were
pub record Kept (net : List Cell) (words : ℕ → ℕ) (W : Values) (t k : ℕ) (s : List ℕ) : Type 0 where
  pub seen : Seen net words W t k s
  pub held-now : (j : ℕ) → j < k → merges (cell_at net j).kind ≡ true → word_in s (held_ring (length net) j) t ≡ held_word net W j (suc t)
  pub read-now : (j : ℕ) → j < k → (cell_at net j).kind ≡ 44 → word_in s (held_ring (length net) j) t ≡ read_word net words W j t
  pub elements-now : (v i : ℕ) → v < 4 → i < 64 → array_at net v < k → word_in s (length net) (64 * v + i) ≡ element net words W (array_at net v) i t
  pub elements : (v i : ℕ) → v < 4 → i < 64 → k ≤ array_at net v → word_in s (length net) (64 * v + i) ≡ element net words W (array_at net v) i (t - 1)

-- this of the values that are worked out
abbrev pub KeptIn : List ℕ → ℕ → ℕ → List ℕ → List ℕ → ℕ → ℕ → List ℕ → Type 0
KeptIn cells n ors times words t k s = Kept (net_of cells n) (word_at words) (values_of cells n ors times words) t k s

-- The same of a net -----------------------------------------------------------------------------------------------------------------------

abbrev pub cells_of : Net → List Cell
cells_of r = net_of r.cells.now r.n

abbrev pub values_by : Net → Values
values_by r = values_of r.cells.now r.n r.ors r.times.now r.words.now

abbrev pub WorksFor : Net → List ℕ → Type 0
WorksFor r s = Works r.cells.now r.n r.words.now s

abbrev pub KeptBy : Net → ℕ → ℕ → List ℕ → Type 0
KeptBy r t k s = KeptIn r.cells.now r.n r.ors r.times.now r.words.now t k s
