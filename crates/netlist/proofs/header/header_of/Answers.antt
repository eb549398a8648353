-- `header_of` meets its contract. Assumes nothing.
use Rattle.std.proofs.Common.{arith}
use Rattle.netlist.proofs.FileChecks.{accepted-whole, accepted-pulse}
use Rattle.netlist.proofs.header.header_of.Goals as goal

pub get16-count-requires : goal.get16-count-requires
get16-count-requires c = omega (arith, (accepted-whole c.args.file.now c.requires).some)

pub get16-finish-requires : goal.get16-finish-requires
get16-finish-requires c = omega (arith, (accepted-whole c.args.file.now c.requires).some)

pub pulse_of-pulse-requires : goal.pulse_of-pulse-requires
pulse_of-pulse-requires c = omega (arith, (accepted-whole c.args.file.now c.requires).some)

pub overflow_cast-pulse : goal.overflow_cast-pulse
overflow_cast-pulse c = omega (arith, c.pulse_of-pulse.ensures, (accepted-pulse c.args.file.now c.requires).1)
