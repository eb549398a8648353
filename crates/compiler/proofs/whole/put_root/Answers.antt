-- `whole::put_root` meets its contract. Assumes nothing.
use mathlib.Core.Path.{refl}
use Rattle.compiler.proofs.Roots.{root-walk, root-done}
use Rattle.compiler.proofs.whole.put_root.Goals as goal

pub put_stmt-requires : goal.put_stmt-requires
put_stmt-requires c =
    let pre = c.requires in
    let put-chain = c.put_chain-start in
    (pre.0, rw put-chain.auto.cells (root-walk pre.1 put-chain.ensures), refl)

pub returns : goal.returns
returns c = root-done c.requires.1 refl c.put_chain-start.ensures c.put_stmt.ensures.done
