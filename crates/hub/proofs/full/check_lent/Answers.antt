-- `check_lent` meets its contract where nothing is too short. Assumes nothing.
use Rattle.std.proofs.Common.{refl, sym, ◌∙◌, ◌+◌, ◌*◌, [], ◌∷◌, length, le-ltb}
use Rattle.model.specs.NetlistFile.{blocks_for}
use Rattle.model.specs.Calls.{over_budget, short}
use Rattle.laws.specs.Refusals.Laws.{first-append}
use Rattle.hub.proofs.full.check_lent.Goals as goal

pub returns : goal.returns
returns c =
    let args = c.args in
    let file = 512 * blocks_for args.n in
    let room = 8 + 40 * args.n + 512 in
    let ahead = over_budget args.budget ∷ short (length args.words.now) 544 ∷ [] in
    rw (le-ltb (length args.netlist.now) file (rw c.blocks_for.ensures at c.if-netlist-blocks_for.false), le-ltb (length args.state.now) room c.if-state-n.false) refl
    ∙ sym (first-append ahead (short (length args.netlist.now) file ∷ short (length args.state.now) room ∷ []) (sym c.in_ok-check_asked.ensures.checks))
