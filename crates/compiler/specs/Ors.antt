-- What the ors ask and leave. Assumes nothing: definitions.
use Rattle.std.specs.Prelude.{◌≡◌, List, [], ◌∷◌, ℕ, zero, suc, ◌+◌, ◌-◌, ◌*◌, ◌≤◌, Option, Some, None, length, get_or, drop}
use Rattle.model.specs.declared.Cell.{Cell}
use Rattle.model.specs.Numbering.{Source, or_chain, or_chain_out, ors, ors_out, or_count, ors_from, outs_from, or_count_from}
use Rattle.compiler.specs.declared.walk.Word.{Word}
use Rattle.compiler.specs.declared.chain.Chain.{Chain}
use Rattle.compiler.specs.declared.ors.Joint.{Joint}
use Rattle.compiler.specs.declared.ors.Ors.{Ors}
use Rattle.compiler.specs.Writes.{write}

-- the sources that the marks tell of n assignments and calls, from number k on; the wire of each is its mark f
unfoldable pub sources_from : ℕ → List ℕ → ℕ → ℕ → List Source
sources_from f ms k zero = []
sources_from f ms k (suc n) = (get_or ms (4 * k) 0, get_or ms (4 * k + f) 0) ∷ sources_from f ms (k + 1) n

-- the sources that a list of marks tells, four marks for each
unfoldable pub sources_in : ℕ → List ℕ → List Source
sources_in f [] = []
sources_in f (x ∷ []) = []
sources_in f (x ∷ (a ∷ [])) = []
sources_in f (x ∷ (a ∷ (b ∷ []))) = []
sources_in f (x ∷ (a ∷ (b ∷ (w ∷ l)))) = (x, get_or (x ∷ a ∷ b ∷ w ∷ []) f 0) ∷ sources_in f l

-- what is still to be done with some wires, where others have been joined before them to a wire or not
unfoldable pub rest : ℕ → Option ℕ → ℕ → List ℕ → List Cell
rest kind (Some acc) n ws = or_chain kind acc n ws
rest kind None n ws = ors kind n ws

unfoldable pub rest_out : ℕ → Option ℕ → ℕ → List ℕ → ℕ
rest_out none (Some acc) n ws = or_chain_out acc n ws
rest_out none None n ws = ors_out none n ws

unfoldable pub rest_count : Option ℕ → List ℕ → ℕ
rest_count (Some acc) ws = length ws
rest_count None ws = or_count ws

-- a chain for the wires ws, from cell n on, that has those of `left` still to join: with these it comes out as at the start
pub record Chaining (kind none n : ℕ) (ws left before cells : List ℕ) (c : Chain) : Type 0 where
  pub kind_is : c.kind ≡ kind
  pub cells_are : write c.next (rest kind c.so_far c.next left) cells ≡ write n (ors kind n ws) before
  pub wire : rest_out none c.so_far c.next left ≡ ors_out none n ws
  pub cell : c.next + rest_count c.so_far left ≡ n + or_count ws
  pub same : length cells ≡ length before

-- k ors go to cell n of a list of so many bytes
pub record OrsReady (j : Joint) (n k size : ℕ) : Type 0 where
  pub mark : j.mark ≤ 3
  pub first : j.first ≤ 20
  pub room : 6 * (n + k) ≤ size
  pub small : size ≤ 3762

pub record Joined (j : Joint) (n : ℕ) (ws : List ℕ) (before after : List ℕ) (r : Word) : Type 0 where
  pub cells : after ≡ write n (ors j.kind n ws) before
  pub wire : r.wire ≡ ors_out j.none n ws
  pub cell : r.cell ≡ n + or_count ws

pub record Ored (j : Joint) (n : ℕ) (ps : List Source) (before after : List ℕ) (r : Ors) : Type 0 where
  pub cells : after ≡ write n (ors_from j.kind ps n j.first (20 - j.first)) before
  pub wires : drop j.first r.wires ≡ outs_from j.none ps n j.first (20 - j.first)
  pub next : r.next ≡ n + or_count_from ps j.first (20 - j.first)
