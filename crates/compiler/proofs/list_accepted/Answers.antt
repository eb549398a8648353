-- `list_accepted` meets its contract. Assumes nothing.
use Rattle.program.specs.Shape.{told-ok, told-shaped}
use Rattle.compiler.proofs.Call.{scanned}
use Rattle.compiler.proofs.list_accepted.Goals as goal

pub unwrap-told-requires : goal.unwrap-told-requires
unwrap-told-requires c = told-ok _ _ _ _ c.scan.ensures c.requires.0

pub put_netlist-requires : goal.put_netlist-requires
put_netlist-requires c = rw c.requires.1 (scanned c.args.options c.requires.0 (told-shaped _ _ _ _ c.unwrap-told.ensures c.scan.ensures))

pub returns : goal.returns
returns c = c.put_netlist.ensures
