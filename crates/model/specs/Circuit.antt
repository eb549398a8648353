-- The circuit: cells, the table of their kinds, and the equations that their values obey. Assumes nothing: definitions.
use Rattle.std.specs.Prelude.{◌≡◌, Bool, true, false, ◌&&◌, ◌||◌, not, List, [], ◌∷◌, ℕ, zero, suc, ◌+◌, ◌-◌, ◌*◌, ◌<◌, eqb, leb, length, get_or, take}
use Rattle.model.specs.declared.Cell.{Cell}
use Rattle.model.specs.declared.kinds.CellRow.{CellRow}
use Rattle.model.specs.declared.kinds.Use.{Use}
use Rattle.model.specs.declared.kinds.Use.TheVariants.{Unknown, Unused, Value, Positive, ControlBelow, ControlAny, WordBelow, WordAny, ArrayBelow}
use Rattle.model.specs.declared.Merge.{Merge}
use Rattle.model.specs.declared.Merged.{Merged}
use Rattle.model.specs.Word.{pick, bit, is_zero, operate, index, element_word}

-- "Cells have 6 bytes: kind, delay, two-byte a, two-byte b"
abbrev pub cell : ℕ → ℕ → ℕ → ℕ → Cell
cell k d a b = record { kind = k; delay = d; a = a; b = b }

-- what stands past the last cell
abbrev pub no_cell : Cell
no_cell = cell 0 0 0 0

abbrev pub cell_at : List Cell → ℕ → Cell
cell_at net k = get_or net k no_cell

-- what runs: cells, and the length of their pulses
pub record Netlist : Type 0 where
  pub cells : List Cell
  pub pulse : ℕ

-- The table ----------------------------------------------------------------------------------------------------------------------------

-- what a kind's number makes a cell do; k_unknown is for the numbers that are no kind
pub data Shape : Type 0 where
  k_constant k_complement k_operator k_start k_ground k_delay k_or k_when_true k_when_false k_merge k_return k_memory k_gated k_array k_address k_read k_latch k_unknown : Shape

-- the kinds of a shape, from the first number to the last, and their row
pub record CellKinds : Type 0 where
  pub first : ℕ
  pub last : ℕ
  pub row : CellRow

abbrev pub row : Bool → Use → Use → Use → CellRow
row control delay a b = record { control = control; delay = delay; a = a; b = b }

abbrev line : ℕ → ℕ → CellRow → CellKinds
line first last r = record { first = first; last = last; row = r }

-- the numbers of the kinds, whether they are control wires, and what delay, a and b are. "Kinds 32 to 38 are control wires (0 or 1), the others
-- word wires", but for "control kind 39". "fields without a use are zero". "34 delay, d from 1 to 255". "All inputs name lower cells, except a
-- delay's a and a memory's b, which may name any cell of the right sort." "b of 42 and a of 43 may name any cell of the right sort". "Every read is
-- a kind 44 (a the 42, b the index)". Which array a 42's delay is goes by its place. "one new cell kind, 45, a latch ... Both inputs may name any cell
-- of the right sort." k_unknown has no numbers.
unfoldable pub cell_table : Shape → CellKinds
cell_table k_constant = line 1 1 (row false Unused Value Unused)
cell_table k_complement = line 3 3 (row false Unused WordBelow Unused)
cell_table k_operator = line 4 9 (row false Unused WordBelow WordBelow)
cell_table k_start = line 32 32 (row true Unused Unused Unused)
cell_table k_ground = line 33 33 (row true Unused Unused Unused)
cell_table k_delay = line 34 34 (row true Positive ControlAny Unused)
cell_table k_or = line 35 35 (row true Unused ControlBelow ControlBelow)
cell_table k_when_true = line 36 36 (row true Unused ControlBelow WordBelow)
cell_table k_when_false = line 37 37 (row true Unused ControlBelow WordBelow)
cell_table k_merge = line 38 38 (row true Unused ControlBelow ControlBelow)
cell_table k_return = line 39 39 (row true Unused ControlBelow ControlBelow)
cell_table k_memory = line 40 40 (row false Unused ControlBelow WordAny)
cell_table k_gated = line 41 41 (row false Unused ControlBelow WordBelow)
cell_table k_array = line 42 42 (row false Value ControlBelow WordAny)
cell_table k_address = line 43 43 (row false Unused WordAny Unused)
cell_table k_read = line 44 44 (row false Unused ArrayBelow WordBelow)
cell_table k_latch = line 45 45 (row false Unused ControlAny WordAny)
cell_table k_unknown = line 1 0 (row false Unknown Unknown Unknown)

abbrev pub shapes : List Shape
shapes =
    k_constant ∷ k_complement ∷ k_operator ∷ k_start ∷ k_ground ∷ k_delay ∷ k_or ∷ k_when_true ∷ k_when_false ∷ k_merge ∷ k_return ∷ k_memory
    ∷ k_gated ∷ k_array ∷ k_address ∷ k_read ∷ k_latch ∷ []

abbrev pub has_kind : Shape → ℕ → Bool
has_kind sh k = leb (cell_table sh).first k && leb k (cell_table sh).last

-- the first of these shapes that has kind k
unfoldable pub shape_in : List Shape → ℕ → Shape
unfolding cell_table
shape_in [] k = k_unknown
shape_in (sh ∷ rest) k = pick (has_kind sh k) sh (shape_in rest k)

unfoldable pub shape : ℕ → Shape
unfolding shape_in
shape k = shape_in shapes k

-- the row of kind k
abbrev pub cell_row : ℕ → CellRow
cell_row k = (cell_table (shape k)).row

-- whether kind k is a control wire
unfoldable pub control : ℕ → Bool
unfolding shape
control k = (cell_row k).control

-- whether such a field is the number of a cell: a constant's a is its value
unfoldable pub names : Use → Bool
names Unknown = false
names Unused = false
names Value = false
names Positive = false
names ControlBelow = true
names ControlAny = true
names WordBelow = true
names WordAny = true
names ArrayBelow = true

-- Signals ----------------------------------------------------------------------------------------------------------------------------

-- the level of a control wire at each instant
abbrev pub Sig : Type 0
Sig = ℕ → Bool

-- "34 delay, d from 1 to 255: control a as it was d instants ago, 0 before that."
unfoldable pub delayed : ℕ → Sig → Sig
delayed d a t = pick (leb d t) (a (t - d)) false

-- "Start is high for w instants", from a start pulse on: how many of them remain after an instant, where r remained before it. starts tells whether it
-- brings a start pulse; while the start is high it brings none (refusal 23), and would change nothing.
unfoldable pub remaining_step : ℕ → ℕ → Bool → ℕ
remaining_step w r starts = pick (is_zero r) (pick starts (w - 1) 0) (r - 1)

-- how many remain before instant t
unfoldable pub remaining_before : ℕ → Sig → ℕ → ℕ
remaining_before w starts zero = 0
remaining_before w starts (suc t) = remaining_step w (remaining_before w starts t) (starts t)

-- the level of the start, with start pulses at these instants
unfoldable pub pulses : ℕ → Sig → Sig
pulses w starts t = starts t || not (is_zero (remaining_before w starts t))

-- "A merge cell holds two bits between instants. ... A is a or held a, B is b or held b; the output is 1 when A and B are; afterwards the
-- held bits are A and B, or both 0 if the output was 1."
unfoldable pub short_merge : Merge → Bool → Bool → Merged
short_merge m a b =
    let A = a || m.a in
    let B = b || m.b in
    let out = A && B in
    record { held = record { a = A && not out; b = B && not out }; out = out }

-- "a one-then-two merge, control kind 39 (a its delay, b the body's finish): it holds a, puts out 1 when b comes in the same instant or later, and
-- clears.": it holds no b
unfoldable pub short_return : Merge → Bool → Bool → Merged
short_return m a b =
    let waits = a || m.a in
    let out = waits && b in
    record { held = record { a = waits && not out; b = false }; out = out }

-- what a merge of either kind does in an instant; was is its output an instant ago
abbrev pub Step : Type 0
Step = Bool → Merge → Bool → Bool → Merged

-- "For w above 1 ... kind 38 also needs a or b to be 1 for its output, and a merge of either kind keeps its held bits until its output falls, when
-- they become 0"
unfoldable pub long_merge : Step
long_merge was m a b =
    let A = a || m.a in
    let B = b || m.b in
    let out = (A && B) && (a || b) in
    let gone = was && not out in
    record { held = record { a = A && not gone; b = B && not gone }; out = out }

unfoldable pub long_return : Step
long_return was m a b =
    let waits = a || m.a in
    let out = waits && b in
    record { held = record { a = waits && not (was && not out); b = false }; out = out }

-- one: the pulse length is 1
unfoldable pub merge_step : Bool → Step
merge_step one was m a b = pick one (short_merge m a b) (long_merge was m a b)

unfoldable pub return_step : Bool → Step
return_step one was m a b = pick one (short_return m a b) (long_return was m a b)

-- "Both are 0 before instant 0.": what a merge of a and b holds just before instant t, and has put out
unfoldable pub merged_before : Step → Sig → Sig → ℕ → Merged
merged_before step a b zero = record { held = record { a = false; b = false }; out = false }
merged_before step a b (suc t) = step (merged_before step a b t).out (merged_before step a b t).held (a t) (b t)

abbrev pub held_before : Step → Sig → Sig → ℕ → Merge
held_before step a b t = (merged_before step a b t).held

unfoldable pub merged : Step → Sig → Sig → Sig
merged step a b t = (merged_before step a b (suc t)).out

-- whether kind k is a merge, and what it does with pulses of w
unfoldable pub merges : ℕ → Bool
merges k = eqb k 38 || eqb k 39

unfoldable pub step_of : ℕ → ℕ → Step
step_of w k = pick (eqb k 39) (return_step (eqb w 1)) (merge_step (eqb w 1))

-- The equations ------------------------------------------------------------------------------------------------------------------------

-- W k t is the value of cell k at instant t
abbrev pub Values : Type 0
Values = ℕ → ℕ → ℕ

-- whether a control wire's value is high
abbrev pub high : ℕ → Bool
high v = eqb v 1

abbrev pub level : Values → ℕ → Sig
level W k t = high (W k t)

-- the falling edge of a clock: it "is 0 and was 1 an instant ago"
abbrev pub falls : Values → ℕ → ℕ → Bool
falls W k t = level W k t && not (level W k (suc t))

-- "40 memory: if clock a (control) is 0 and was 1 an instant ago, the value that word b had an instant ago; else its own former value.
-- At instant 0, the start word."
unfoldable pub memory : ℕ → Values → ℕ → Cell → ℕ → ℕ
memory word₀ W k c zero = word₀
memory word₀ W k c (suc t) = pick (falls W c.a t) (W c.b t) (W k t)

-- "45, a latch, 0 at first: if control a was 1 an instant ago it takes word b of that instant, else keeps its own."
unfoldable pub latch : Values → ℕ → Cell → ℕ → ℕ
latch W k c zero = 0
latch W k c (suc t) = pick (level W c.a t) (W c.b t) (W k t)

-- E j i t is word i, at instant t, of the array whose kind 42 is cell j
abbrev pub Elements : Type 0
Elements = ℕ → ℕ → ℕ → ℕ

-- "A write uses address and data of the instant before the clock falls.": word i of the array whose kind 42 is cell j, with its clock and data,
-- and next to it kind 43 with its address. At instant 0, the start word.
unfoldable pub element : List Cell → (ℕ → ℕ) → Values → Elements
element net words W j i zero = words (element_word (cell_at net j).delay i)
element net words W j i (suc t) =
    let c = cell_at net j in
    let address = (cell_at net (j + 1)).a in
    pick (falls W c.a t && eqb i (index (W address t))) (W c.b t) (element net words W j i t)

-- what cell k, which is c, shows at instant t with pulses of w; starts tells the start instants, word₀ is its start word, if it is a memory, and E tells
-- the words of arrays. "32 start: 1 at instant 0, then 0", but for "a second start pulse", and "high for w instants". "33 ground: 0. 1: constant a." "3 to 9:
-- the operators on words a, and b where there are two." "35: control a or control b." "36: 1 when control a is 1 and word b isn't zero. 37: when
-- a is 1 and b is zero." "41: word b when control a is 1, else 0." 42 and 43: "both kinds show 0". "Every read is a kind 44 (a the 42, b the
-- index)".
unfoldable pub equation : ℕ → Shape → Sig → ℕ → Elements → Values → ℕ → Cell → ℕ → ℕ
equation w k_constant starts word₀ E W k c t = c.a
equation w k_complement starts word₀ E W k c t = operate 3 (W c.a t) 0
equation w k_operator starts word₀ E W k c t = operate c.kind (W c.a t) (W c.b t)
equation w k_start starts word₀ E W k c t = bit (pulses w starts t)
equation w k_ground starts word₀ E W k c t = 0
equation w k_delay starts word₀ E W k c t = bit (delayed c.delay (level W c.a) t)
equation w k_or starts word₀ E W k c t = bit (level W c.a t || level W c.b t)
equation w k_when_true starts word₀ E W k c t = bit (level W c.a t && not (is_zero (W c.b t)))
equation w k_when_false starts word₀ E W k c t = bit (level W c.a t && is_zero (W c.b t))
equation w k_merge starts word₀ E W k c t = bit (merged (merge_step (eqb w 1)) (level W c.a) (level W c.b) t)
equation w k_return starts word₀ E W k c t = bit (merged (return_step (eqb w 1)) (level W c.a) (level W c.b) t)
equation w k_memory starts word₀ E W k c t = memory word₀ W k c t
equation w k_gated starts word₀ E W k c t = pick (level W c.a t) (W c.b t) 0
equation w k_array starts word₀ E W k c t = 0
equation w k_address starts word₀ E W k c t = 0
equation w k_read starts word₀ E W k c t = E c.a (index (W c.b t)) t
equation w k_latch starts word₀ E W k c t = latch W k c t
equation w k_unknown starts word₀ E W k c t = 0

-- "exactly sixteen are memories, in variable order": how many memories a list of cells has
unfoldable pub memories : List Cell → ℕ
memories [] = 0
memories (c ∷ cs) = bit (eqb c.kind 40) + memories cs

-- the words that the memories among cells that stand from k on show, in order, where cell j shows v j
unfoldable pub memory_words : List Cell → ℕ → (ℕ → ℕ) → List ℕ
memory_words [] k v = []
memory_words (c ∷ cs) k v = pick (eqb c.kind 40) (v k ∷ memory_words cs (k + 1) v) (memory_words cs (k + 1) v)

-- "Right after the sixteenth memory": where the cells after n memories begin, which is the end of the list if there are fewer
unfoldable pub past_memories : List Cell → ℕ → ℕ
past_memories [] n = 0
past_memories (c ∷ cs) zero = 0
past_memories (c ∷ cs) (suc n) = suc (past_memories cs (pick (eqb c.kind 40) n (suc n)))

-- the kind 42 of array k, if the netlist keeps the rules
abbrev pub array_at : List Cell → ℕ → ℕ
array_at net k = past_memories net 16 + 2 * k

-- the start word of cell k, if it is a memory: that of the variable whose number is how many memories stand below k
abbrev pub start_word : List Cell → (ℕ → ℕ) → ℕ → ℕ
start_word net words k = words (memories (take k net))

-- W is what the cells of a netlist show when they are run from these start words, with start pulses at these instants: 0, which is beginning's, and those of
-- the starts that are given later
unfoldable pub Obeys : Netlist → Sig → (ℕ → ℕ) → Values → Type 0
Obeys net starts words W =
    let cs = net.cells in
    (k : ℕ) → k < length cs → (t : ℕ)
    → W k t ≡ equation net.pulse (shape (cell_at cs k).kind) starts (start_word cs words k) (element cs words W) W k (cell_at cs k) t
