-- `compile_accepted` meets its contract. Assumes nothing.
use mathlib.Core.Path.{sym, ◌∙◌}
use Rattle.compiler.proofs.Call.{compile-accepted, written-ok, written-count}
use Rattle.compiler.proofs.compile_accepted.Goals as goal

pub unwrap-requires : goal.unwrap-requires
unwrap-requires c =
    let told = compile-accepted c.args.options _ c.args.netlist.now c.requires.0 c.requires.1 in
    written-ok (c.compile.ensures.answer ∙ sym told.0)

pub returns : goal.returns
returns c =
    let told = compile-accepted c.args.options _ c.args.netlist.now c.requires.0 c.requires.1 in
    record { length = written-count (c.compile.ensures.answer ∙ sym told.0) c.unwrap.ensures; lent = c.compile.ensures.lent ∙ sym told.1 }
