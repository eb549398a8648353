-- `blocks::zero_from` meets its contract. Assumes nothing.
use Rattle.std.proofs.Common.{eqb, drop, sym, ◌∙◌, rules, tests}
use Rattle.std.proofs.lemmas.Iterator.{YieldsList-from_slice}
use Rattle.std.proofs.lemmas.Iterator.Adapters.{YieldsList-from_skip}
use Rattle.std.proofs.lemmas.Iterator.Search.{all_from_yields_List}
use Rattle.netlist.proofs.BlockChecks.{zeros_all}
use Rattle.netlist.proofs.blocks.zero_from.Goals as goal

pub returns : goal.returns
returns c =
    let block = c.args.block.now in
    all_from_yields_List (λ b. eqb b 0) _ _ _ c.all.ensures.ran (YieldsList-from_skip c.args.j (YieldsList-from_slice block (cc)) c.skip.ensures.count) (λ x b q k. search (rules, tests))
    ∙ sym (zeros_all (drop c.args.j block))
