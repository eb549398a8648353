-- Running: the bytes of a state, full or compact, beginning and continuing. The two formats differ in what a line keeps: `cellSize`, `lineBit`,
-- `takenIn`, `remainingByte`, `crowding` and `lineSound` tell them apart, and nothing else does.
-- Assumes nothing: definitions.
use Rattle.std.specs.Prelude.{Bool, true, false, not, ◌&&◌, ◌||◌, List, [], ◌∷◌, ◌++◌, ℕ, zero, suc, ◌+◌, ◌-◌, ◌*◌, ◌/◌, ◌%◌, ◌^◌, length, get_or, set, take, drop, replicate, eqb, leb, ltb, Ok, Err}
use Rattle.model.specs.declared.Cell.{Cell}
use Rattle.model.specs.declared.Merge.{Merge}
use Rattle.model.specs.declared.Format.{Format}
use Rattle.model.specs.declared.Format.TheVariants.{Full, Compact}
use Rattle.model.specs.Refusals.{first_fault, fault_if, Checked, Accepted}
use Rattle.model.specs.Word.{pick, bit, is_zero, operate, element_of, get16, put16, get32, put32, bytes16}
use Rattle.model.specs.Circuit.{cell_at, Netlist, control, high, remaining_step, merge_step, return_step, merges, memory_words, start_word, Shape, shape, k_constant, k_complement, k_operator, k_start, k_ground, k_delay, k_or, k_when_true, k_when_false, k_merge, k_return, k_memory, k_gated, k_array, k_address, k_read, k_latch, k_unknown}
use Rattle.model.specs.NetlistFile.{all_zero}

-- For either format --------------------------------------------------------------------------------------------------------------------

abbrev pub instant_of : List ℕ → ℕ
instant_of s = get32 s 0

-- the number in flight, as a state tells it
abbrev pub flight_of : List ℕ → ℕ
flight_of s = get32 s 4

-- f at cell 0, then at cell 1, and so on to cell n - 1
unfoldable pub up_to : (List ℕ → ℕ → List ℕ) → ℕ → List ℕ → List ℕ
up_to f zero s = s
up_to f (suc n) s = f (up_to f n s) n

-- m bytes from i on, moved by a bit, x coming in lowest
unfoldable pub shifted_in : ℕ → List ℕ → ℕ → ℕ → List ℕ
shifted_in zero s i x = s
shifted_in (suc m) s i x = shifted_in m (set s i ((2 * get_or s i 0 + x) % 256)) (i + 1) ((2 * get_or s i 0 + x) / 256)

-- how many of the newest d inputs of a line are 1; line i is the input of i instants ago
unfoldable pub ones : (ℕ → ℕ) → ℕ → ℕ
ones line zero = 0
ones line (suc d) = ones line d + line d

abbrev pub held_bits : Merge → ℕ
held_bits m = bit m.a + bit m.b

-- "delay inputs not yet put out and held merge bits", of a cell c with this line and these held bits: what came in d instants ago or earlier has been
-- put out. "The start's remaining high instants ... count as in flight".
unfoldable pub in_flight : (ℕ → ℕ) → Merge → ℕ → Cell → ℕ
in_flight line held remaining c =
    pick (eqb c.kind 34) (ones line c.delay) (pick (merges c.kind) (held_bits held) (pick (eqb c.kind 32) remaining 0))

-- the sum of these, of the cells cs, which stand from k on, where cell k has line k, held k and remaining k
unfoldable pub flight_in : (ℕ → ℕ → ℕ) → (ℕ → Merge) → (ℕ → ℕ) → List Cell → ℕ → ℕ
flight_in line held remaining [] k = 0
flight_in line held remaining (c ∷ cs) k = in_flight (line k) (held k) (remaining k) c + flight_in line held remaining cs (k + 1)

-- the bytes of n words from x on
unfoldable pub word_bytes : (ℕ → ℕ) → ℕ → ℕ → List ℕ
word_bytes words x zero = []
word_bytes words x (suc n) = bytes16 (words x) ++ word_bytes words (x + 1) n

-- how a continuing goes: whether 26 ends it, the state at its last good instant, and how many instants it has evaluated
pub record Course : Type 0 where
  pub check : Checked
  pub state : List ℕ
  pub count : ℕ

abbrev pub course : Checked → List ℕ → ℕ → Course
course c s n = record { check = c; state = s; count = n }

-- with an instant before it
abbrev pub longer : Course → Course
longer c = course c.check c.state (1 + c.count)

-- The bytes ----------------------------------------------------------------------------------------------------------------------------

-- "State is 8 bytes (four-byte instant, four zero) and 40 per cell: value now and value an instant ago (two bytes each, the latter 0 at
-- instant 0), held a, held b (a byte each), two zero bytes, and 32 bytes with the last 256 inputs of a delay, newest in the lowest bit of
-- the first byte." "The 256 words stand after the state's cells." "The four zero bytes of the state now hold" the number in flight.
-- "A compact state holds one number per line: instants until its pulse comes out, 0 for none. A cell then has 8 bytes, the first zero byte holding
-- that number".
abbrev pub cell_size : Format → ℕ
cell_size Full = 40
cell_size Compact = 8

-- of a state in format F
module _ (F : Format) where
  -- where the bytes of cell k begin
  abbrev pub base : ℕ → ℕ
  base k = 8 + cell_size F * k

  abbrev pub state_size : Netlist → ℕ
  state_size net = base (length net.cells) + 512

  -- where the word of element n begins
  abbrev pub element_base : Netlist → ℕ → ℕ
  element_base net n = base (length net.cells) + 2 * n

  abbrev pub element_now : Netlist → List ℕ → ℕ → ℕ
  element_now net s n = get16 s (element_base net n)

  abbrev pub now_at : List ℕ → ℕ → ℕ
  now_at s k = get16 s (base k)

  abbrev pub before_at : List ℕ → ℕ → ℕ
  before_at s k = get16 s (base k + 2)

  -- the falling edge of a clock: it "is 0 and was 1 an instant ago"
  abbrev pub fallen : List ℕ → ℕ → Bool
  fallen s k = high (before_at s k) && not (high (now_at s k))

  unfoldable pub held_at : List ℕ → ℕ → Merge
  held_at s k = record { a = high (get_or s (base k + 4) 0); b = high (get_or s (base k + 5) 0) }

  -- Lines ------------------------------------------------------------------------------------------------------------------------------

  -- the number of a line in a compact state
  abbrev pub left_at : List ℕ → ℕ → ℕ
  left_at s k = get_or s (base k + 6) 0

  -- the input of a delay of d, i instants before that of the state's own instant; where n instants are left until a pulse comes out, it came in d - n
  -- instants ago
  unfoldable pub line_bit : List ℕ → ℕ → ℕ → ℕ → ℕ
  line_bit s k d i = elim F [
    | Full ↦ get_or s (base k + 8 + i / 8) 0 / 2 ^ (i % 8) % 2
    | Compact ↦ bit (eqb (left_at s k + i) d)
  ]

  -- a delay of d takes its input x in; in a compact state a pulse that comes in has d instants left, and one that is on its way an instant less
  unfoldable pub taken_in : List ℕ → ℕ → ℕ → Bool → List ℕ
  taken_in s k d x = elim F [
    | Full ↦ shifted_in 32 s (base k + 8) (bit x)
    | Compact ↦ set s (base k + 6) (pick x d (left_at s k - 1))
  ]

  -- "The start's remaining high instants, below w, stand in the first line byte of its cell". A compact state goes with pulses of one instant (27), and
  -- none remain.
  unfoldable pub remaining_byte : ℕ → ℕ
  remaining_byte k = elim F [ Full ↦ base k + 8 | Compact ↦ base k + 6 ]

  abbrev pub remaining_at : List ℕ → ℕ → ℕ
  remaining_at s k = get_or s (remaining_byte k) 0

  -- One instant ------------------------------------------------------------------------------------------------------------------------

  -- What cell k, which is c, shows after instant 0; starts tells whether a start pulse is given. In s, lower cells have their values now already, and
  -- the arrays of lower cells their words; all cells have their values an instant ago, and held bits and lines are still those of an instant ago.
  unfoldable pub next_value : Shape → Bool → Netlist → List ℕ → ℕ → Cell → ℕ
  next_value k_constant starts net s k c = c.a
  next_value k_complement starts net s k c = operate 3 (now_at s c.a) 0
  next_value k_operator starts net s k c = operate c.kind (now_at s c.a) (now_at s c.b)
  next_value k_start starts net s k c = bit (starts || not (is_zero (remaining_at s k)))
  next_value k_ground starts net s k c = 0
  next_value k_delay starts net s k c = line_bit s k c.delay (c.delay - 1)
  next_value k_or starts net s k c = bit (high (now_at s c.a) || high (now_at s c.b))
  next_value k_when_true starts net s k c = bit (high (now_at s c.a) && not (is_zero (now_at s c.b)))
  next_value k_when_false starts net s k c = bit (high (now_at s c.a) && is_zero (now_at s c.b))
  next_value k_merge starts net s k c = bit (merge_step (eqb net.pulse 1) (high (before_at s k)) (held_at s k) (high (now_at s c.a)) (high (now_at s c.b))).out
  next_value k_return starts net s k c = bit (return_step (eqb net.pulse 1) (high (before_at s k)) (held_at s k) (high (now_at s c.a)) (high (now_at s c.b))).out
  next_value k_memory starts net s k c = pick (fallen s c.a) (before_at s c.b) (before_at s k)
  next_value k_gated starts net s k c = pick (high (now_at s c.a)) (now_at s c.b) 0
  next_value k_array starts net s k c = 0
  next_value k_address starts net s k c = 0
  next_value k_read starts net s k c = element_now net s (element_of (cell_at net.cells c.a).delay (now_at s c.b))
  next_value k_latch starts net s k c = pick (high (before_at s c.a)) (before_at s c.b) (before_at s k)
  next_value k_unknown starts net s k c = 0

  abbrev pub value : Netlist → Bool → List ℕ → ℕ → ℕ
  value net starts s k = next_value (shape (cell_at net.cells k).kind) starts net s k (cell_at net.cells k)

  -- at instant 0 a memory has its start word; the others, all bytes being 0 and start 1, show what they show later
  abbrev pub first_value : Netlist → (ℕ → ℕ) → List ℕ → ℕ → ℕ
  first_value net words s k = pick (eqb (cell_at net.cells k).kind 40) (start_word net.cells words k) (value net true s k)

  -- the value now becomes the value an instant ago
  unfoldable pub aged : List ℕ → ℕ → List ℕ
  aged s k = put16 s (base k + 2) (now_at s k)

  -- "A write uses address and data of the instant before the clock falls.": where cell k is a kind 42 whose clock falls, its array takes a word in
  unfoldable pub stored : Netlist → List ℕ → ℕ → List ℕ
  stored net s k =
      let c = cell_at net.cells k in
      let address = (cell_at net.cells (k + 1)).a in
      pick (eqb c.kind 42 && fallen s c.a)
      (put16 s (element_base net (element_of c.delay (before_at s address))) (before_at s c.b)) s

  -- cell k shows the value that v makes of the state so far
  unfoldable pub shown : Netlist → (List ℕ → ℕ → ℕ) → List ℕ → ℕ → List ℕ
  shown net v s k = put16 (stored net s k) (base k) (v s k)

  unfoldable pub holding : List ℕ → ℕ → Merge → List ℕ
  holding s k m = set (set s (base k + 4) (bit m.a)) (base k + 5) (bit m.b)

  -- a delay takes its input in, a merge holds, the start has an instant less to be high; with pulses of w
  unfoldable pub settle : ℕ → Shape → List ℕ → ℕ → Cell → List ℕ
  settle w k_constant s k c = s
  settle w k_complement s k c = s
  settle w k_operator s k c = s
  settle w k_start s k c = set s (remaining_byte k) (remaining_step w (remaining_at s k) (high (now_at s k)))
  settle w k_ground s k c = s
  settle w k_delay s k c = taken_in s k c.delay (high (now_at s c.a))
  settle w k_or s k c = s
  settle w k_when_true s k c = s
  settle w k_when_false s k c = s
  settle w k_merge s k c = holding s k (merge_step (eqb w 1) (high (before_at s k)) (held_at s k) (high (now_at s c.a)) (high (now_at s c.b))).held
  settle w k_return s k c = holding s k (return_step (eqb w 1) (high (before_at s k)) (held_at s k) (high (now_at s c.a)) (high (now_at s c.b))).held
  settle w k_memory s k c = s
  settle w k_gated s k c = s
  settle w k_array s k c = s
  settle w k_address s k c = s
  settle w k_read s k c = s
  settle w k_latch s k c = s
  settle w k_unknown s k c = s

  abbrev pub settled : Netlist → List ℕ → ℕ → List ℕ
  settled net s k = settle net.pulse (shape (cell_at net.cells k).kind) s k (cell_at net.cells k)

  -- The number in flight ---------------------------------------------------------------------------------------------------------------

  -- the line of cell k
  abbrev pub line_at : Netlist → List ℕ → ℕ → ℕ → ℕ
  line_at net s k = line_bit s k (cell_at net.cells k).delay

  -- what the lines, the held bits and the start of a state sum up to
  abbrev pub flight : Netlist → List ℕ → ℕ
  flight net s = flight_in (line_at net s) (held_at s) (remaining_at s) net.cells 0

  -- "each call keeps it true": the number is put into the header
  unfoldable pub counted : Netlist → List ℕ → List ℕ
  counted net s = put32 s 4 (flight net s)

  -- Beginning and continuing -----------------------------------------------------------------------------------------------------------

  -- what beginning starts from: nothing in any cell, and the elements' start words, which "follow the sixteen"
  abbrev pub blank : Netlist → (ℕ → ℕ) → List ℕ → List ℕ
  blank net words s = replicate (base (length net.cells)) 0 ++ (word_bytes words 16 256 ++ drop (state_size net) s)

  -- an instant from a state whose cells show what they showed before: values by v, then lines and held bits, then their number
  unfoldable pub evaluate : Netlist → (List ℕ → ℕ → ℕ) → List ℕ → List ℕ
  evaluate net v past =
      let valued = up_to (shown net v) (length net.cells) past in
      counted net (up_to (settled net) (length net.cells) valued)

  -- "Beginning evaluates instant 0." "Lent bytes past a result keep their values."
  unfoldable pub begin_state : Netlist → (ℕ → ℕ) → List ℕ → List ℕ
  begin_state net words s = evaluate net (first_value net words) (blank net words s)

  -- one further instant, with a start pulse or without
  unfoldable pub step_state : Netlist → Bool → List ℕ → List ℕ
  step_state net starts s =
      let ticked = put32 s 0 (instant_of s + 1) in
      evaluate net (value net starts) (up_to aged (length net.cells) ticked)

  -- "26: a pulse enters a line whose pulse hasn't come out": at cell k, in the instant that leads from s to t. Where one instant was left, that pulse
  -- comes out in this one.
  unfoldable pub crowded : Netlist → List ℕ → List ℕ → ℕ → ℕ
  crowded net s t k = fault_if (eqb (cell_at net.cells k).kind 34 && (high (now_at t (cell_at net.cells k).a) && ltb 1 (left_at s k))) 26

  -- "place the lowest such cell"; a full state has room for every pulse
  unfoldable pub crowding : Netlist → List ℕ → List ℕ → Checked
  crowding net s t = elim F [ Full ↦ Accepted | Compact ↦ first_fault (crowded net s t) 0 (length net.cells) ]

  -- "Continuing by N evaluates later instants until the finish wire is high or N are done; a state whose finish is already high is continued
  -- like any other." "the state is left at the last good instant".
  unfoldable pub continued : Netlist → ℕ → ℕ → List ℕ → Course
  continued net f zero s = course Accepted s 0
  continued net f (suc n) s =
      let t = step_state net false s in
      elim (crowding net s t) [
        | Ok _ ↦ elim (high (now_at t f)) [ true ↦ course Accepted t 1 | false ↦ longer (continued net f n t) ]
        | Err r ↦ course (Err r) s 0
      ]

  -- "the sixteen words": those that the memories show, of the cells that stand from k on
  abbrev pub words_in : List Cell → ℕ → List ℕ → List ℕ
  words_in cs k s = memory_words cs k (now_at s)

  -- Refusal 15 -------------------------------------------------------------------------------------------------------------------------

  -- how large the number in the first byte of a line may be, where the cell has no delay's line: "remaining high instants, below w"
  abbrev pub most_left : ℕ → Cell → ℕ
  most_left w c = pick (eqb c.kind 32) (w - 1) 0

  -- "with ... lines or zero bytes set where the cell has none"; "(above the delay: refusal 15)"
  unfoldable pub line_sound : ℕ → Cell → List ℕ → ℕ → Bool
  line_sound w c s k = elim F [
    | Full ↦
        all_zero (take 2 (drop (base k + 6) s))
        && (eqb c.kind 34 || (leb (remaining_at s k) (most_left w c) && all_zero (take 31 (drop (base k + 9) s))))
    | Compact ↦ leb (left_at s k) (pick (eqb c.kind 34) c.delay (most_left w c)) && eqb (get_or s (base k + 7) 0) 0
  ]

  -- "15. A state whose control values or held bits exceed 1, or with held bits, lines or zero bytes set where the cell has none.": a 39 "holds a", and
  -- no b
  unfoldable pub cell_sound : ℕ → Cell → List ℕ → ℕ → Bool
  cell_sound w c s k =
      (not (control c.kind) || (leb (now_at s k) 1 && leb (before_at s k) 1))
      && ((leb (get_or s (base k + 4) 0) (bit (merges c.kind)) && leb (get_or s (base k + 5) 0) (bit (eqb c.kind 38)))
      && line_sound w c s k)

  -- of the cells cs, which stand from k on
  unfoldable pub cells_sound : ℕ → List Cell → List ℕ → ℕ → Bool
  cells_sound w [] s k = true
  cells_sound w (c ∷ cs) s k = cell_sound w c s k && cells_sound w cs s (k + 1)

  -- "a state where it is false is refusal 15"
  unfoldable pub sound : Netlist → List ℕ → Bool
  sound net s = eqb (flight_of s) (flight net s) && cells_sound net.pulse net.cells s 0
