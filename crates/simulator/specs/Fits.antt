-- What running asks of a file, of its header and of a state: that the file is accepted, and that what its cells look at stands in the state.
-- Assumes nothing: definitions.
use Rattle.std.specs.Prelude.{List, ◌≡◌, ℕ, ◌+◌, ◌<◌, ◌≤◌, get_or}
use Rattle.model.specs.declared.Cell.{Cell}
use Rattle.model.specs.declared.Format.{Format}
use Rattle.model.specs.NetlistFile.{cell_from, in_file, net_of}
use Rattle.model.specs.State.{instant_of, base}
use Rattle.netlist.specs.declared.header.Header.{Header}
use Rattle.netlist.specs.Headers.{header_of}
use Rattle.state.specs.Stands.{Stands, Sees, Runs, Ready}

-- a file that is accepted, by its header, and a state of its size
pub record Fits (F : Format) (file : List ℕ) (h : Header) (s : List ℕ) : Type 0 where
  pub runs : Runs F file s
  pub header : h ≡ header_of file

-- c is cell k of a file that fits a state
pub record Holds (F : Format) (file : List ℕ) (h : Header) (s : List ℕ) (k : ℕ) (c : Cell) : Type 0 where
  pub fits : Fits F file h s
  pub below : k < h.count
  pub here : c ≡ cell_from file (in_file k)
  pub stands : Stands F s k
  pub sees : Sees F s c

-- t has the bytes of s behind n cells and the elements
abbrev pub Spares : Format → ℕ → List ℕ → List ℕ → Type 0
Spares F n s t = (j : ℕ) → base F n + 512 ≤ j → get_or t j 0 ≡ get_or s j 0

-- so many further instants may be evaluated, until the finish is high
abbrev pub Continues : Format → List ℕ → Header → ℕ → List ℕ → Type 0
Continues F file h budget s = Fits F file h s × (instant_of s + budget ≤ 1000000) × Ready F (net_of file) s
