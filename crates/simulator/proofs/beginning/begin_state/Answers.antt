-- `begin_state` meets its contract. Assumes nothing.
use mathlib.Core.Path.{◌∙◌}
use native.Mathlib.Omega.{arith}
use Rattle.model.specs.Calls.{word_at}
use Rattle.model.specs.NetlistFile.{net_of}
use Rattle.simulator.proofs.Cells.{fits-few, fits-room, fits-ordered, net-length, refits}
use Rattle.simulator.proofs.Passes.{blank-is, begun}
use Rattle.simulator.proofs.InFlight.{begin-ready, begin-empty}
use Rattle.simulator.proofs.Crowding.{roomy}
use Rattle.simulator.proofs.beginning.begin_state.Goals as goal

pub base-end-requires : goal.base-end-requires
base-end-requires c = fits-few c.requires.0

pub put_elements-requires : goal.put_elements-requires
put_elements-requires c =
    let pre = c.requires in
    (omega (arith, fits-room pre.0, c.base-end.ensures), pre.1)

pub clear-requires : goal.clear-requires
clear-requires c =
    let pre = c.requires in
    let base = c.base-end in
    omega (arith, fits-room pre.0, base.ensures, c.put_elements.auto.state)

pub settle_all-requires : goal.settle_all-requires
settle_all-requires c =
    let args = c.args in
    let base = c.base-end in
    let put-elements = c.put_elements in
    let clear = c.clear in
    let show-first = c.show_first in
    let F = args.source.now.format in
    let pre = c.requires in
    let net = net_of args.source.now.file.now in
    let long = net-length pre.0 in
    let words = word_at args.words.now in
    let cleared = blank-is F net _ long _ words _ _ (fits-room pre.0) (rw base.ensures at put-elements.ensures) (rw base.ensures at clear.ensures) in (
      refits pre.0 (show-first.auto.state ∙ clear.auto.d ∙ put-elements.auto.state),
      begin-ready F net (fits-ordered pre.0) _ long _ words _ _ cleared show-first.ensures,
    )

pub returns : goal.returns
returns c =
    let args = c.args in
    let base = c.base-end in
    let put-elements = c.put_elements in
    let clear = c.clear in
    let show-first = c.show_first in
    let F = args.source.now.format in
    let pre = c.requires in
    let net = net_of args.source.now.file.now in
    let long = net-length pre.0 in
    let words = word_at args.words.now in
    let cleared = blank-is F net _ long _ words _ _ (fits-room pre.0) (rw base.ensures at put-elements.ensures) (rw base.ensures at clear.ensures) in
    let free = c.settle_all.ensures.check ∙ roomy F net _ _ (λ k l q. omega (arith, begin-empty F net (fits-ordered pre.0) _ long _ words _ _ cleared show-first.ensures k l)) in
    begun F net _ long _ words _ _ _ cleared show-first.ensures (c.settle_all.ensures.state free)
