-- `propagate` meets its contract: after some entries the lists are as these make them. Assumes nothing.
use Rattle.std.proofs.Common.{◌≡◌, refl, sym, ◌∙◌, ap, List, ℕ, ◌+◌, ◌<◌, length, get_or, take, drop, length-take, arith}
use Rattle.std.proofs.lemmas.List.{get_or-drop, get_or-take}
use Rattle.engine_laws.specs.Fanout.{scheduled, all_scheduled, scheduled-more}
use Rattle.engine.specs.Lent.{events_of}
use Rattle.engine.proofs.wheel.Wheel.propagate.Goals as goal

-- an entry of a part
in_part : (s : List ℕ) (start n k : ℕ) → k < length (take n (drop start s)) → get_or (take n (drop start s)) k 0 ≡ get_or s (start + k) 0
in_part s start n k l = get_or-take n (drop start s) k 0 (omega (arith, length-take n (drop start s))) ∙ get_or-drop start s k 0

pub loop-f-init : goal.loop-f-init
unfolding all_scheduled
loop-f-init c = (refl, (refl, refl, refl, refl, refl, refl, refl))

pub loop-f-preserved : goal.loop-f-preserved
loop-f-preserved c =
    let a = c.args in
    let old = a.self.now in
    let here = c.loop-f.self in
    let entries = a.fanouts.entries.now in
    let start = get_or a.fanouts.from.now a.c 0 in
    let k = c.loop-f.f-index in
    let i = c.loop-f.invariant in
    let f = in_part entries start _ k c.loop-f-test.true in
    let e = c.schedule.ensures in (
      rw i.1.6 at e.events
          ∙ ap (λ (f : ℕ). scheduled old.width a.u f (events_of here c.loop-f.held)) f
          ∙ ap (scheduled old.width a.u (get_or entries (start + k) 0)) i.0
          ∙ sym (scheduled-more entries old.width a.u start k (events_of old a.held.now)),
      (e.lists.0 ∙ i.1.0, e.lists.1 ∙ i.1.1, e.lists.2 ∙ i.1.2, e.lists.3 ∙ i.1.3, e.lists.4 ∙ i.1.4, e.lists.5 ∙ i.1.5, e.lists.6 ∙ i.1.6),
    )
