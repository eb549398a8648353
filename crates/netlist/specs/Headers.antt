-- The header of a netlist file as a struct. Assumes nothing: definitions.
use Rattle.std.specs.Prelude.{ℕ, List}
use Rattle.model.specs.NetlistFile.{count_of, finish_of, pulse_of}
use Rattle.netlist.specs.declared.header.Header.{Header}

abbrev pub header_of : List ℕ → Header
header_of file = record { count = count_of file; finish = finish_of file; pulse = pulse_of file }
