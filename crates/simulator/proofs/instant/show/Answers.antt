-- `show` meets its contract. Assumes nothing.
use native.Mathlib.Omega.{arith}
use Rattle.model.specs.NetlistFile.{net_of}
use Rattle.simulator.proofs.Cells.{fits-few, fits-room, net-length}
use Rattle.simulator.proofs.Stepping.{valued-is}
use Rattle.simulator.proofs.instant.show.Goals as goal

pub age_all-requires : goal.age_all-requires
age_all-requires c =
    let pre = c.requires in
    (fits-few pre.0, omega (arith, fits-room pre.0, c.tick.auto.state))

pub returns : goal.returns
returns c =
    let args = c.args in
    let pre = c.requires in
    let tick = c.tick in
    let age-all = c.age_all in
    let show-all = c.show_all in
    valued-is args.source.now.format (net_of args.source.now.file.now) args.starts args.state.now _ (net-length pre.0) _ _ _ tick.ensures age-all.ensures show-all.ensures
