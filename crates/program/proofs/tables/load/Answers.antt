-- What a file's check says, and its ten bytes.
use Rattle.model.specs.TimeTables.{verdict_of, times_of, times_in, load}
use Rattle.program.proofs.tables.load.Goals as goal

pub returns : goal.returns
unfolding load verdict_of times_of times_in
returns c =
    let b = c in
    rw (
      ← b.check_table-checked.ensures,
      ← b.byte_at.ensures,
      ← c.byte_at-2.ensures,
      ← c.byte_at-3.ensures,
      ← c.byte_at-4.ensures,
      ← c.byte_at-5.ensures,
      ← c.byte_at-6.ensures,
      ← c.byte_at-7.ensures,
      ← c.byte_at-8.ensures,
      ← c.byte_at-9.ensures,
      ← c.byte_at-10.ensures,
    )
