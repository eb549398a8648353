-- Parts in the bytes that are lent. Assumes nothing: definitions.
use Rattle.std.specs.Prelude.{List, ℕ}
use Rattle.model.specs.declared.Options.{Options}
use Rattle.model.specs.PartCalls.{Part, parts_in}
use Rattle.joiner.specs.declared.parts.LentPart.{LentPart}
use Rattle.joiner.specs.declared.parts.Parts.{Parts}

-- what is given beside a part with pulses of w
abbrev pub with_pulse : Options → ℕ → Options
with_pulse options w = record { checked = options.checked; times = options.times; procedures = 0; pulse = w }

-- a part by its bytes
abbrev pub part_of : LentPart → Part
part_of p = record { program = p.program.now; file = p.file.now; pulse = p.pulse }

-- the parts of these lengths and bytes that are left, with any pulse lengths
abbrev pub parts_with : Parts → List ℕ → List Part
parts_with ps pulses = parts_in ps.lengths.now pulses ps.bytes.now

-- and with those that are lent
abbrev pub parts_left : Parts → List Part
parts_left ps = parts_with ps ps.pulses.now
