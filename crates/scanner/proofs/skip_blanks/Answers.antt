-- skip_blanks: as many as there are blanks at the front of the rest. Assumes nothing.
use Rattle.std.proofs.Common.{◌+◌, drop, ap, ◌∙◌, rules, tests}
use Rattle.std.proofs.lemmas.Iterator.{YieldsList-from_slice}
use Rattle.std.proofs.lemmas.Iterator.Consumers.{count_from_yields_List}
use Rattle.std.proofs.lemmas.Iterator.Search.{YieldsList-from_take_while}
use Rattle.std.proofs.lemmas.List.Folds.{length-prefix_len}
use Rattle.model.specs.Text.{blank}
use Rattle.scanner.proofs.skip_blanks.Goals as goal

pub returns : goal.returns
returns c =
    let s = drop c.args.i c.args.text.now in
    ap (λ k. c.args.i + k)
    (count_from_yields_List c.take_while.result _ c.count.ensures.ran
    (YieldsList-from_take_while _ blank (YieldsList-from_slice s cc) c.take_while.ensures.closure c.take_while.ensures.done (λ x b q k. search (rules, tests)))
    ∙ length-prefix_len blank s)
