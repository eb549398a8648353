-- What the walk asks, and what it leaves, of an expression and of a statement. Assumes nothing: definitions.
-- Refusal 28 leaves no call, so what a call stands for is of no account: here it is ok.
use Rattle.std.specs.Prelude.{◌≡◌, List, [], ◌∷◌, ◌++◌, ℕ, ◌+◌, ◌*◌, ◌≤◌}
use Rattle.model.specs.Program.{Code, Stmt, ok, stmt_at, writes}
use Rattle.model.specs.Procedures.{inline}
use Rattle.model.specs.Numbering.{Wires}
use Rattle.model.specs.Circuit.{cell}
use Rattle.model.specs.Functional.{each, rank, many, placed, joins_at, choices, count, finish_wire, outs, walk, netlist_of, finish_of}
use Rattle.model.specs.NetlistFile.{file_of}
use Rattle.laws.specs.Program.Fit.{Formed, Basic}
use Rattle.program.specs.Ends.{Laid}
use Rattle.compiler.specs.Writes.{write}
use Rattle.functional.specs.declared.walk.Place.{Place}
use Rattle.functional.specs.declared.sets.Wires as declared
use Rattle.functional.specs.Sets.{has, wired, Agrees, Tells}

abbrev pub plainly : Code → Stmt
plainly P = inline (λ p. ok) P

abbrev pub plain_at : List ℕ → ℕ → Stmt
plain_at s i = plainly (stmt_at s i)

-- the netlist file of a program that is a statement alone
abbrev pub plain_file : List ℕ → List ℕ
plain_file s = file_of 1 (netlist_of (plain_at s 0)) (finish_of (plain_at s 0))

-- how many cells its netlist has: beside the statement's own, 27 before it and 16 behind it
abbrev pub plain_count : List ℕ → ℕ
plain_count s = 43 + count (plain_at s 0)

-- such a program, with its ends
pub record Main (s ends : List ℕ) : Type 0 where
  pub laid : Laid s ends
  pub formed : Formed (stmt_at s 0)
  pub basic : Basic (stmt_at s 0)
  pub few : count (plain_at s 0) ≤ 7000

-- the set of the variables that the statement at node i writes
abbrev pub Writes : List ℕ → ℕ → ℕ → Type 0
Writes s i set = Tells set (writes (plain_at s i))

-- Statements ---------------------------------------------------------------------------------------------------------------------------

abbrev pub place : ℕ → ℕ → declared.Wires → Place
place w c ws = record { wire = w; cell = c; words = ws }

-- P goes to cell c of a list of n bytes
pub record Ready (P : Code) (c n : ℕ) : Type 0 where
  pub formed : Formed P
  pub basic : Basic P
  pub room : 6 * (c + count (plainly P)) ≤ n
  pub small : n ≤ 42258

-- where the words come on the wires ws
pub record Done (P : Stmt) (p : Place) (ws : Wires) (before after : List ℕ) (r : Place) : Type 0 where
  pub cells : after ≡ write p.cell (walk P p.wire ws p.cell) before
  pub wire : r.wire ≡ finish_wire P p.wire p.cell
  pub cell : r.cell ≡ p.cell + count P
  pub words : Agrees r.words.of (outs P ws p.cell)

-- an if with the variables of a set, whose 35 is cell m
pub record EndReady (set m size : ℕ) : Type 0 where
  pub room : 6 * (joins_at (has set) (m + 4) + many (has set)) ≤ size
  pub small : size ≤ 42258

-- that 35, of branches that end at p and q, the masks of the condition's word, and the words that are chosen; the others come on the wires ws
pub record End (set word : ℕ) (ws : declared.Wires) (p q : Place) (before after : List ℕ) (r : Place) : Type 0 where
  pub cells :
      after
      ≡ write q.cell
      (cell 35 0 p.wire q.wire
      ∷ cell 8 0 word 2
      ∷ cell 5 0 2 (q.cell + 1)
      ∷ cell 3 0 (q.cell + 1 + 1) 0
      ∷ choices (has set) (λ y. cell 6 0 (wired p.words.of y) (q.cell + 1 + 1 + 1)) (λ y. cell 6 0 (wired q.words.of y) (q.cell + 1 + 1))
      (q.cell + 1 + 1 + 1 + 1))
      before
  pub wire : r.wire ≡ q.cell
  pub cell : r.cell ≡ joins_at (has set) (q.cell + 1 + 1 + 1 + 1) + many (has set)
  pub words : Agrees r.words.of (placed (has set) (joins_at (has set) (q.cell + 1 + 1 + 1 + 1)) (wired ws.of))

-- a loop with the variables of a set: its 35 is cell m, and `again` the wire of another round, which brings the words on the wires us
pub record RoundReady (set : ℕ) (p : Place) (m size : ℕ) : Type 0 where
  pub before : p.cell + many (has set) + 1 ≤ m
  pub room : 6 * (joins_at (has set) (m + 1) + many (has set)) ≤ size
  pub small : size ≤ 42258

-- its latches and the delay of 1, and the 35 and the words to be loaded
pub record Round (set : ℕ) (p : Place) (again : ℕ) (us : declared.Wires) (m : ℕ) (before after : List ℕ) (r : ℕ) : Type 0 where
  pub cells :
      after
      ≡ write m
      (cell 35 0 p.wire again
      ∷ choices (has set) (λ y. cell 41 0 p.wire (wired p.words.of y)) (λ y. cell 41 0 again (wired us.of y)) (m + 1))
      (write p.cell (each (has set) (λ y. cell 45 0 m (joins_at (has set) (m + 1) + rank (has set) y)) ++ (cell 34 1 m 0 ∷ [])) before)
  pub cell : r ≡ joins_at (has set) (m + 1) + many (has set)
