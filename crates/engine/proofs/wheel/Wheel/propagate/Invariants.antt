-- `propagate` meets its contract: after some entries the lists are as these make them. Assumes nothing.
use Rattle.std.proofs.Common.{◌≡◌}
use Rattle.engine_laws.specs.Fanout.{all_scheduled}
use Rattle.engine.specs.Lent.{SameLists, events_of}
use Rattle.engine.proofs.wheel.Wheel.propagate.Given as goal

abbrev pub invariant-loop-f : goal.invariant-loop-f
invariant-loop-f l =
    let here = l.self in
    let old = l.fn.self in
    (events_of here l.held ≡ all_scheduled l.fanouts.entries.now old.width l.u l.start l.f-index (events_of old l.fn.held))
    × SameLists old here
