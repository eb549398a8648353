-- `read_in` meets its contract. Assumes nothing.
use mathlib.Core.Path.{refl, sym, ◌∙◌}
use Rattle.slow.proofs.Cells.{net-cell}
use Rattle.slow.proofs.gates.read_in.Goals as goal

pub returns : goal.returns
returns c =
    let args = c.args in
    let is = c.cell_at-array.ensures ∙ sym (net-cell args.net.now.cells.now args.net.now.n args.c.a c.requires.1) in
    rw (c.put_word.ensures, c.word_at-v.ensures, c.word_at-w.ensures, is) refl
