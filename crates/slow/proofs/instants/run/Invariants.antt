-- `run` meets its contract: instant t has been evaluated, and the run has not ended before it. Assumes nothing.
use Prim.Native.Nat.{◌-◌}
use mathlib.Core.Path.{◌≡◌}
use lib.ListN.{length}
use Rattle.model.specs.Circuit.{level}
use Rattle.model.specs.Gates.{end_at}
use Rattle.slow.specs.Ring.{values_of, KeptIn}
use Rattle.slow.proofs.instants.run.Given as goal

abbrev pub invariant-loop-t : goal.invariant-loop-t
invariant-loop-t l =
    (length l.work ≡ length l.initial.work) × KeptIn l.net.cells.now l.net.n l.net.ors l.net.times.now l.net.words.now l.t l.net.n l.work
    × (end_at (level (values_of l.net.cells.now l.net.n l.net.ors l.net.times.now l.net.words.now) l.net.finish) 0 l.budget ≡ end_at (level (values_of l.net.cells.now l.net.n l.net.ors l.net.times.now l.net.words.now) l.net.finish) l.t (l.budget - l.t))
