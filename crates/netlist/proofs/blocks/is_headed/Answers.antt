-- `blocks::is_headed` meets its contract. Assumes nothing.
use Rattle.netlist.proofs.BlockChecks.{headed-is}
use Rattle.netlist.proofs.blocks.is_headed.Goals as goal

pub returns : goal.returns
returns c =
    let args = c.args in
    headed-is args.pulse args.count args.finish args.b args.block.now c.first_number-first.ensures c.get16-number.ensures
    c.get16-its_count.ensures c.get16-its_finish.ensures c.zero_from-unused.ensures
