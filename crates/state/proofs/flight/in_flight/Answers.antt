-- `in_flight` meets its contract. Assumes nothing.
use mathlib.Core.Path.{sym, ◌∙◌, ap}
use Rattle.model.specs.State.{held_bits}
use Rattle.state.proofs.Counting.{delay-flight, merge-flight, start-flight, none-flight}
use Rattle.state.proofs.flight.in_flight.Goals as goal

pub returns-then-kind-eq34 : goal.returns-then-kind-eq34
returns-then-kind-eq34 c = c.in_line.ensures ∙ sym (delay-flight _ _ _ _ c.if-kind-eq34.true)

pub returns-then-is_merge : goal.returns-then-is_merge
returns-then-is_merge c =
    let if1 = c.if-kind-eq34 in
    let merge = sym c.is_merge.ensures ∙ c.if-is_merge.true in
    c.held_bits.ensures ∙ ap held_bits c.held_at.ensures ∙ sym (merge-flight _ _ _ _ if1.false merge)

pub returns-then-kind-eq32 : goal.returns-then-kind-eq32
returns-then-kind-eq32 c = c.from.ensures ∙ c.remaining_at.ensures ∙ sym (start-flight _ _ _ _ c.if-kind-eq32.true)

pub returns : goal.returns
returns c = sym (none-flight _ _ _ _ c.if-kind-eq34.false (sym c.is_merge.ensures ∙ c.if-is_merge.false) c.if-kind-eq32.false)
