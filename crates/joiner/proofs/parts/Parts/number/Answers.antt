-- `number` meets its contract. Assumes nothing.
use Rattle.std.proofs.Common.{◌≡◌, ◌∙◌, rules}
use Rattle.joiner.proofs.Lent.{part_count, count-is}
use Rattle.joiner.proofs.parts.Parts.number.Goals as goal

pub returns : goal.returns
returns c =
    let ps = c.args.self.now in
    let halved : c.div_ceil.result ≡ part_count ps.lengths.now = search rules in
    halved ∙ count-is ps.lengths.now ps.pulses.now ps.bytes.now
