-- `compile` meets its contract. Assumes nothing.
use native.Mathlib.Omega.{arith}
use Rattle.laws.specs.Refusals.Laws.{handed_on}
use Rattle.laws.specs.Program.Passed.{accepted-pulse}
use Rattle.compiler.proofs.Call.{scanned, list-room, compile-refused, compile-writes}
use Rattle.compiler.proofs.compile.Goals as goal

pub returns-in_err-told : goal.returns-in_err-told
returns-in_err-told c =
    let clauses = compile-refused c.args.options _ _ c.in_err-told.ensures in rw (handed_on _ c.from_residual.ensures.1) record { answer = clauses.0; lent = clauses.1 }

pub put_netlist-made-requires : goal.put_netlist-made-requires
put_netlist-made-requires c = scanned c.args.options c.in_ok-told.ensures.0 c.in_ok-told.ensures.1

pub write_file-requires : goal.write_file-requires
write_file-requires c =
    let options = c.args.options in
    let accepted = c.in_ok-told.ensures.0 in
    let room = list-room options _ c.put_netlist-made.ensures accepted c.put_netlist-made.auto.cells in
    let pulse = (accepted-pulse options _ accepted).1 in
    rw c.from.ensures (room, omega (arith, pulse, c.from-2.ensures))

pub returns : goal.returns
returns c =
    let args = c.args in
    rw (compile-writes args.options args.program.now c.put_netlist-made.ensures c.in_ok-told.ensures.0 args.netlist.now) (rw (c.from.ensures, c.from-2.ensures) at c.write_file.ensures)
