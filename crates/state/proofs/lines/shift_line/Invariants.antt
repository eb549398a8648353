-- `shift_line` meets its contract. What is left of the line, shifted with the carry so far, is the whole line shifted.
-- Assumes nothing.
use Rattle.std.proofs.Common.{◌≡◌, ◌+◌, ◌-◌, ◌<◌}
use borrow.Rule.Slice.PartMut.{put_mid}
use Rattle.model.specs.State.{shifted_in}
use Rattle.model.specs.Word.{bit}
use Rattle.state.proofs.lines.shift_line.Given as goal

abbrev pub invariant-loop-byte : goal.invariant-loop-byte
invariant-loop-byte l =
    (l.carry < 2)
    × (shifted_in (32 - l.byte-index) (put_mid (l.at + 8) (l.at + 8 + 32 - (l.at + 8)) l.fn.state l.byte-items) (l.at + 8 + l.byte-index) l.carry ≡ shifted_in 32 l.fn.state (l.at + 8) (bit l.input))
