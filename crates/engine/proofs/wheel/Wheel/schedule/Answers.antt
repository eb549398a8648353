-- `schedule` meets its contract. Assumes nothing.
use Rattle.std.proofs.Common.{sym, ◌∙◌, ap, arith}
use Rattle.engine_laws.specs.Fanout.{Events, events-are, scheduled, scheduled-cell, scheduled-delay}
use Rattle.engine.specs.Lent.{events_of}
use Rattle.engine.proofs.wheel.Wheel.schedule.Goals as goal

pub returns-then-d-eq0-clause-events : goal.returns-then-d-eq0-clause-events
returns-then-d-eq0-clause-events c =
    let a = c.args in
    let width = a.self.now.width in
    let h = events_of a.self.now a.held.now in
    let z = scheduled-cell width a.u a.f h (omega arith) in
    events-are (scheduled width a.u a.f h) _ _ _ _ (c.put.ensures ∙ sym (ap (λ (x : Events). x.wheel) z)) (sym (ap (λ (x : Events). x.tag) z))
    (sym (ap (λ (x : Events). x.occupied) z)) (sym (ap (λ (x : Events). x.held) z))

pub returns-clause-events : goal.returns-clause-events
returns-clause-events c =
    let a = c.args in
    let width = a.self.now.width in
    let h = events_of a.self.now a.held.now in
    let z = scheduled-delay width a.u a.f h (λ e. omega arith) in
    let e = c.enter.ensures in
    events-are (scheduled width a.u a.f h) _ _ _ _ (e.rows ∙ sym (ap (λ (x : Events). x.wheel) z)) (e.tag ∙ sym (ap (λ (x : Events). x.tag) z))
    (e.occupied ∙ sym (ap (λ (x : Events). x.occupied) z)) (sym (ap (λ (x : Events). x.held) z))
