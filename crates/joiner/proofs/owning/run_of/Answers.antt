-- `owning::run_of` meets its contract. Assumes nothing.
use Rattle.std.proofs.Common.{◌-◌, sym, ap, ◌∙◌, inl, arith, rules, tests}
use Rattle.std.proofs.lemmas.Iterator.Consumers.{count_from_yields_List, YieldsList-from_first}
use Rattle.std.proofs.lemmas.Iterator.Search.{YieldsList-from_take_while}
use Rattle.std.proofs.lemmas.List.Folds.{length-prefix_len}
use Rattle.model.specs.NetlistFile.{cells_at, in_file}
use Rattle.netlist.specs.Left.{cells_left}
use Rattle.netlist.proofs.Bytes.{cells-length}
use Rattle.joiner.proofs.Runs.{of_kind, run-prefix}
use Rattle.joiner.proofs.owning.run_of.Goals as goal

pub returns : goal.returns
returns c =
    let args = c.args in
    let cells = cells_at in_file args.file.now args.from (args.count - args.from) in
    let test = of_kind args.kind in
    count_from_yields_List c.take_while.result _ c.count.ensures.ran
    (YieldsList-from_take_while _ test (YieldsList-from_first (λ x. x) cells_left cells (ap cells_left c.take_while.ensures.source)) c.take_while.ensures.closure c.take_while.ensures.done (λ x b q k. search (rules, tests)))
    ∙ length-prefix_len test cells ∙ sym (run-prefix args.kind cells)

pub count-requires-clause-fits : goal.count-requires-clause-fits
count-requires-clause-fits c =
    let args = c.args in
    rw c.take_while.ensures.source (inl (omega (arith, cells-length in_file args.file.now args.from (args.count - args.from), c.requires.0.few)))
