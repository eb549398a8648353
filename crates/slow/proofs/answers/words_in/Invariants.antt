-- `words_in` meets its contract: j words are in place, and those of the memories that are left are to come. Assumes nothing.
use Rattle.netlist.specs.Left.{cells_left}
use Rattle.netlist.proofs.Bytes.{Standing}
use Rattle.slow.specs.Ring.{net_of, word_in}
use Rattle.slow.proofs.Collecting.{Collects}
use Rattle.slow.proofs.answers.words_in.Given as goal

abbrev pub invariant-loop-k : goal.invariant-loop-k
invariant-loop-k l =
    let net = net_of l.net.cells.now l.net.n in
    let at = l.k-iterator in
    Standing net at.count (cells_left at.iter) × Collects net (λ i. word_in l.work i l.t) l.words l.j at.count
