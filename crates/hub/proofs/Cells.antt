-- How many cells the file of an accepted program's netlist has, of either kind of circuit. Assumes nothing.
use Rattle.std.proofs.Common.{◌≡◌, sym, ap, List, [], ◌∷◌, ℕ, ◌+◌, ◌<◌, ◌≤◌, length, arith}
use Rattle.model.specs.declared.Options.{Options}
use Rattle.model.specs.declared.Cell.{Cell}
use Rattle.model.specs.declared.Format.TheVariants.{Full}
use Rattle.model.specs.Refusals.{Accepted}
use Rattle.model.specs.NetlistFile.{cell_limit, file_of}
use Rattle.model.specs.State.{base}
use Rattle.laws.specs.NetlistFile.Files.{cells-written, file-length}
use Rattle.model.specs.ProgramChecks.{check_functional, program_with}
use Rattle.model.specs.Numbering.{netlist, finish}
use Rattle.model.specs.Functional.{netlist_of, finish_of}
use Rattle.model.specs.Calls.{check_call, compiled_file}
use Rattle.model.specs.FunctionalCalls.{check_functional_call, statement_of, functional_file}
use Rattle.laws.specs.Refusals.Laws.{all-accept}
use Rattle.laws.specs.Program.Size.{few-nodes}
use Rattle.laws.specs.Numbering.Parts.{net-length}
use Rattle.laws.specs.Numbering.Count as imperative
use Rattle.laws.specs.Functional.Count as functional
use Rattle.laws.specs.Functional.Accepted.{table_alone, also-accepted, main-basic}
use Rattle.hub.specs.Lent.{HasCells}

cells-of : (w : ℕ) (net : List Cell) (f : ℕ) → 0 < length net → {n : ℕ} → n ≡ length net → n ≤ cell_limit → HasCells (file_of w net f) n
cells-of w net f some count few =
    record {
      few = few;
      size = rw count (sym (file-length w net f));
      state = rw count (ap (λ (cs : List Cell). base Full (length cs) + 512) (sym (cells-written w net f some)));
    }

pub cells_imperative : (options : Options) (program : List ℕ) {n : ℕ} → check_call options program ≡ Accepted
    → n ≡ length (netlist (program_with options program)) → HasCells (compiled_file options program) n
cells_imperative options program e count =
    let S = program_with options program in
    let f = imperative.fits S (few-nodes options program e) in
    cells-of options.pulse (netlist S) (finish S) (omega (arith, net-length S)) count (omega (arith, count, f.1))

pub cells_functional : (options : Options) (program : List ℕ) {n : ℕ} → check_functional_call options program ≡ Accepted
    → n ≡ length (netlist_of (statement_of program)) → HasCells (functional_file program) n
unfolding check_functional_call
cells_functional options program e count =
    let a = all-accept (options.checked ∷ check_functional options program ∷ []) e in
    let S = statement_of program in
    let f = functional.fits (table_alone options) program (also-accepted options program (a 0) (a 1)) (main-basic options program (a 0) (a 1)) in
    cells-of 1 (netlist_of S) (finish_of S) (omega (arith, functional.net-len S)) count (omega (arith, count, f.1))
