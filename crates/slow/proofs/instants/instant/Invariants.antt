-- `instant` meets its contract: the cells below k have been evaluated. Assumes nothing.
use mathlib.Core.Path.{◌≡◌}
use lib.ListN.{length, take}
use Rattle.model.specs.Circuit.{memories}
use Rattle.slow.specs.Ring.{net_of, KeptIn}
use Rattle.slow.proofs.instants.instant.Given as goal

abbrev pub invariant-loop-k : goal.invariant-loop-k
invariant-loop-k l =
    (length l.work ≡ length l.initial.work) × (l.memory ≡ memories (take l.k (net_of l.net.cells.now l.net.n))) × KeptIn l.net.cells.now l.net.n l.net.ors l.net.times.now l.net.words.now l.t l.k l.work
