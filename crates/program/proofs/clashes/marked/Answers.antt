-- By itself or by a body that it calls.
use Rattle.std.proofs.Common.{◌≡◌, refl, false, get_or, rules}
use Rattle.program.specs.Uses.{marked}
use Rattle.program.proofs.clashes.marked.Goals as goal

pub returns : goal.returns
unfolding marked
returns c =
    let called : c.unwrap_or-called.result ≡ get_or c.args.bodies.now c.args.node.n false = search rules in
    rw (c.names.ensures, called) refl
