-- put_bytes: a copy into a part of the list puts the bytes in one after another. Assumes nothing.
use Rattle.word.proofs.Puts.{sets-copied}
use Rattle.word.proofs.put_bytes.Goals as goal

pub returns-clause-out : goal.returns-clause-out
returns-clause-out c = sets-copied c.args.out.now c.args.bytes.now c.args.at c.copy_from_slice.ensures.after c.requires
