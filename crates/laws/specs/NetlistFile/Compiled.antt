-- The file that compiling an accepted program writes is accepted.
-- Assumes nothing.
use Rattle.model.specs.Refusals.{Accepted}
use Rattle.std.specs.Prelude.{◌≡◌, List, ℕ, ◌≤◌}
use Rattle.std.proofs.Common.{arith}
use Rattle.model.specs.declared.Options.{Options}
use Rattle.model.specs.Program.{program_of}
use Rattle.model.specs.ProgramChecks.{program_with}
use Rattle.model.specs.Numbering.{netlist, finish}
use Rattle.model.specs.NetlistFile.{file_check}
use Rattle.model.specs.Calls.{check_call, compiled_file}
use Rattle.model.specs.Word.{Bytes}
use Rattle.laws.specs.NetlistFile.Passed.{right-pulse}
use Rattle.laws.specs.Program.Passed.{accepted-pulse}
use Rattle.laws.specs.Program.Size.{few-nodes, program-numberable}
use Rattle.laws.specs.Numbering.Compiled.{net-accepted, count-right}
use Rattle.laws.specs.NetlistFile.Files.{file-accepted}

pub compiled-accepted : (options : Options) (program : List ℕ) → Bytes program → check_call options program ≡ Accepted
    → file_check (compiled_file options program) ≡ Accepted
unfolding program_of
compiled-accepted options s bytes e =
    let S = program_with options s in
    let w = program-numberable options s bytes e in
    let p = accepted-pulse options s e in
    let low : options.pulse ≤ 255 = omega (arith, p.1) in
    file-accepted options.pulse (right-pulse options.pulse p.0 p.1) (netlist S) (finish S) (count-right S p.0 low w (few-nodes options s e))
    (net-accepted S p.0 low w)
