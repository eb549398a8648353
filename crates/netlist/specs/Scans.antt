-- What a look at the first cells of a netlist finds. Assumes nothing: definitions.
use Rattle.std.specs.Prelude.{◌≡◌, ℕ, ◌<◌, ◌≤◌, ◌&&◌, List, length, take, nat_le, nat_lt}
use Rattle.model.specs.declared.Cell.{Cell}
use Rattle.model.specs.Circuit.{cell_at, control, memories, past_memories}
use Rattle.model.specs.Word.{pick}
use Rattle.model.specs.Refusals.{refuse, first_fault}
use Rattle.model.specs.NetlistFile.{cell_fault}
use Rattle.laws.specs.Refusals.Search.{Searched}
use Rattle.netlist.specs.declared.rules.Scan.{Scan}

-- cell k of a netlist is c, and its inputs, where they name cells, name cells of kinds a and b
pub record Stands (net : List Cell) (k : ℕ) (c : Cell) (a b : ℕ) : Type 0 where
  pub here : cell_at net k ≡ c
  pub first : c.a < length net → a ≡ (cell_at net c.a).kind
  pub second : c.b < length net → b ≡ (cell_at net c.b).kind

-- of the first k cells the first m keep the rules: all of them, or cell m is the first that breaks one
pub record Kept (net : List Cell) (k m : ℕ) : Type 0 where
  pub low : m ≤ k
  pub right : m ≡ k → Searched (cell_fault net) (length net) k
  pub wrong : m < k → refuse 12 m ≡ first_fault (cell_fault net) 0 (length net)

-- what s says of the first k cells of a netlist and of its finish; the arrays' cells begin at k at the latest, as far as k cells tell
pub record Scanned (net : List Cell) (finish k : ℕ) (s : Scan) : Type 0 where
  pub count : s.n ≡ length net
  pub end : s.finish ≡ finish
  pub rules : Kept net k s.kept
  pub few : s.memories ≤ k
  pub counted : s.memories ≡ memories (take k net)
  pub past : s.arrays ≡ pick (nat_le (past_memories net 16) k) (past_memories net 16) k
  pub sort : s.control ≡ nat_lt finish k && control (cell_at net finish).kind
