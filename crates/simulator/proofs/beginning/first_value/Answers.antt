-- `first_value` meets its contract. Assumes nothing.
use mathlib.Core.Path.{sym, ◌∙◌, ap}
use Rattle.model.specs.Calls.{word_at}
use Rattle.model.specs.NetlistFile.{net_of}
use Rattle.simulator.proofs.Cells.{holds-cell}
use Rattle.simulator.proofs.Memories.{first-memory, first-other}
use Rattle.simulator.proofs.beginning.first_value.Goals as goal

pub returns-then-c-eq40 : goal.returns-then-c-eq40
returns-then-c-eq40 c =
    let pre = c.requires in
    let args = c.args in
    let net = net_of args.source.now.file.now in
    λ m.
    c.get16.ensures ∙ ap (word_at args.words.now) (sym m)
    ∙ sym (first-memory args.source.now.format net (word_at args.words.now) args.state.now args.k args.c (holds-cell pre.0) c.if-c-eq40.true)

pub returns-else-c-eq40 : goal.returns-else-c-eq40
returns-else-c-eq40 c =
    let pre = c.requires in
    let args = c.args in
    let net = net_of args.source.now.file.now in
    λ m.
    c.next_value.ensures
    ∙ sym (first-other args.source.now.format net (word_at args.words.now) args.state.now args.k args.c (holds-cell pre.0) c.if-c-eq40.false)
