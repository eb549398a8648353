-- `functionally` meets its contract. Assumes nothing.
use Rattle.std.proofs.Common.{refl}
use Rattle.std.specs.Fn.{FnOnceReturnsAtMut}
use Rattle.functional_runs.proofs.Telling.{mode-refused, mode-told}
use Rattle.functional_runs.proofs.functionally.Goals as goal

pub returns-in-Err : goal.returns-in-Err
returns-in-Err g c =
    let args = c.args in
    λ t R T. mode-refused args.format args.netlist.now args.state.now t c.check.ensures c.in-Err.is c.refused.ensures

pub retold-requires : goal.retold-requires
retold-requires g c =
    let called : FnOnceReturnsAtMut g.F.FnOnce c.args.call c.args.state.now c.call-answer.result c.call-answer.new.arg2 =
    record { shown = _; shows = refl; left = _; met = c.call-answer.ensures; leaves = refl } in
    c.requires.sized _ _ called c.call-answer.auto.arg2

pub returns : goal.returns
returns g c =
    let args = c.args in
    let called : FnOnceReturnsAtMut g.F.FnOnce args.call args.state.now c.call-answer.result c.call-answer.new.arg2 =
    record { shown = _; shows = refl; left = _; met = c.call-answer.ensures; leaves = refl } in
    λ t R T. mode-told args.format args.netlist.now args.state.now t c.check.ensures c.in_default.is R (T _ _ called) c.retold.ensures
