-- Refusal 26 of one cell, as the code asks it: whether the cell's line has room for what comes in.
-- Assumes nothing: definitions.
use Rattle.std.specs.Prelude.{Bool, false, ◌&&◌, List, ℕ, eqb, ltb}
use Rattle.model.specs.declared.Cell.{Cell}
use Rattle.model.specs.declared.Format.{Format}
use Rattle.model.specs.declared.Format.TheVariants.{Full, Compact}
use Rattle.model.specs.Circuit.{high}
use Rattle.model.specs.State.{now_at, left_at}

-- at cell k, which is c, in a state whose values are those of the instant and whose lines are those before it
unfoldable pub crowds : Format → List ℕ → ℕ → Cell → Bool
crowds Full s k c = false
crowds Compact s k c = eqb c.kind 34 && (high (now_at Compact s c.a) && ltb 1 (left_at Compact s k))
