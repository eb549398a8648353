-- `settle` meets its contract. Assumes nothing.
use mathlib.Core.Path.{sym, ◌∙◌, ap, ap₂}
use Prim.Native.Nat.{ℕ}
use native.Mathlib.Omega.{arith}
use lib.ListN.{get_or, set}
use Rattle.model.specs.Word.{bit}
use Rattle.model.specs.Circuit.{high, remaining_step}
use Rattle.model.specs.State.{taken_in}
use Rattle.simulator.proofs.ByKind.{settle-delay, settle-start, settle_other}
use Rattle.simulator.proofs.InFlight.{delay-moves, merge-comes, merge-goes, merge-settles, start-moves, none_moves, no-constant, held_low}
use Rattle.state.proofs.Remaining.{remaining-inside}
use Rattle.simulator.proofs.instant.settle.Goals as goal

pub overflow_sub-result : goal.overflow_sub-result
unfolding bit
overflow_sub-result c =
    let if1 = c.if-kind-eq34 in
    let pre = c.requires in
    let line-out = c.line_out-out in
    let is-high = c.is_high-x in
    let args = c.args in
    let moves = delay-moves args.pulse args.format args.state.now args.k args.c if1.true in
    omega (arith, pre.3, moves.0, moves.1, line-out.ensures, c.from.ensures, ap bit is-high.ensures)

pub returns-then-kind-eq34 : goal.returns-then-kind-eq34
unfolding bit
returns-then-kind-eq34 c =
    let if1 = c.if-kind-eq34 in
    let is-high = c.is_high-x in
    let pre = c.requires in
    let line-out = c.line_out-out in
    let args = c.args in
    let delay = if1.true in
    let moves = delay-moves args.pulse args.format args.state.now args.k args.c delay in
    record { state = c.take_in.ensures ∙ ap (taken_in args.format args.state.now args.k args.c.delay) is-high.ensures ∙ sym (settle-delay _ _ _ _ _ delay); number = omega (arith, pre.3, moves.0, moves.1, line-out.ensures, c.from.ensures, ap bit is-high.ensures) }

pub is_high-x-requires-then-is_merge : goal.is_high-x-requires-then-is_merge
is_high-x-requires-then-is_merge c =
    let pre = c.requires in
    let merge = sym c.is_merge.ensures ∙ c.if-is_merge.true in
    pre.1.a (λ e. no-constant _ merge e)

pub overflow_add-result-then-is_merge : goal.overflow_add-result-then-is_merge
overflow_add-result-then-is_merge c =
    let pre = c.requires in
    omega (arith, pre.2, c.held_bits.ensures, held_low c.held_bits.result _ c.held_bits.ensures)

pub overflow_sub-result-then-is_merge : goal.overflow_sub-result-then-is_merge
overflow_sub-result-then-is_merge c =
    let is-merge = c.is_merge in
    let if2 = c.if-is_merge in
    let if1 = c.if-kind-eq34 in
    let is-high2 = c.is_high-x-then-is_merge in
    let is-high3 = c.is_high-y in
    let before_at = c.before_at-was in
    let held_at = c.held_at-held in
    let merge_step = c.step_of-m in
    let pre = c.requires in
    let args = c.args in
    let merge = sym is-merge.ensures ∙ if2.true in
    let comes = merge-comes args.pulse args.format args.state.now args.k args.c if1.false merge _ _ _ _ _ is-high2.ensures is-high3.ensures (ap high before_at.ensures) held_at.ensures merge_step.ensures _ c.held_bits.ensures in
    let goes = merge-goes args.pulse args.format args.state.now args.k args.c if1.false merge _ _ _ _ _ is-high2.ensures is-high3.ensures (ap high before_at.ensures) held_at.ensures merge_step.ensures _ c.held_bits-then-is_merge.ensures in
    omega (arith, pre.3, comes, goes)

pub returns-then-is_merge : goal.returns-then-is_merge
returns-then-is_merge c =
    let is-merge = c.is_merge in
    let if2 = c.if-is_merge in
    let if1 = c.if-kind-eq34 in
    let is-high2 = c.is_high-x-then-is_merge in
    let is-high3 = c.is_high-y in
    let before_at = c.before_at-was in
    let held_at = c.held_at-held in
    let merge_step = c.step_of-m in
    let hold = c.hold in
    let pre = c.requires in
    let args = c.args in
    let merge = sym is-merge.ensures ∙ if2.true in
    let comes = merge-comes args.pulse args.format args.state.now args.k args.c if1.false merge _ _ _ _ _ is-high2.ensures is-high3.ensures (ap high before_at.ensures) held_at.ensures merge_step.ensures _ c.held_bits.ensures in
    let goes = merge-goes args.pulse args.format args.state.now args.k args.c if1.false merge _ _ _ _ _ is-high2.ensures is-high3.ensures (ap high before_at.ensures) held_at.ensures merge_step.ensures _ c.held_bits-then-is_merge.ensures in
    let settles = merge-settles args.pulse args.format args.state.now args.k args.c if1.false merge _ _ _ _ _ is-high2.ensures is-high3.ensures (ap high before_at.ensures) held_at.ensures merge_step.ensures _ hold.ensures in
    record { state = settles; number = omega (arith, pre.3, comes, goes) }

pub bounds-state-at : goal.bounds-state-at
bounds-state-at c =
    let args = c.args in
    let pre = c.requires in
    omega (arith, c.remaining_byte-at.ensures, remaining-inside args.format args.state.now args.k pre.0)

pub bounds-state-at-then-kind-eq32 : goal.bounds-state-at-then-kind-eq32
bounds-state-at-then-kind-eq32 c =
    let args = c.args in
    let pre = c.requires in
    omega (arith, c.remaining_byte-at.ensures, remaining-inside args.format args.state.now args.k pre.0)

pub overflow_sub-result-then-kind-eq32 : goal.overflow_sub-result-then-kind-eq32
overflow_sub-result-then-kind-eq32 c =
    let if3 = c.if-kind-eq32 in
    let pre = c.requires in
    let args = c.args in
    let moves = start-moves args.pulse args.format args.state.now args.k args.c if3.true in
    let old = ap (λ (i : ℕ). get_or args.state.now i 0) c.remaining_byte-at.ensures in
    let new = c.remaining_step-new.ensures ∙ ap₂ (remaining_step args.pulse) old c.is_high-high.ensures in
    let comes = new ∙ sym moves.0 in
    let goes = old ∙ sym moves.1 in
    omega (arith, pre.3, comes, goes)

pub returns-then-kind-eq32 : goal.returns-then-kind-eq32
returns-then-kind-eq32 c =
    let if3 = c.if-kind-eq32 in
    let remaining-byte = c.remaining_byte-at in
    let pre = c.requires in
    let args = c.args in
    let start = if3.true in
    let moves = start-moves args.pulse args.format args.state.now args.k args.c start in
    let old = ap (λ (i : ℕ). get_or args.state.now i 0) remaining-byte.ensures in
    let new = c.remaining_step-new.ensures ∙ ap₂ (remaining_step args.pulse) old c.is_high-high.ensures in
    let comes = new ∙ sym moves.0 in
    let goes = old ∙ sym moves.1 in
    record { state = ap₂ (set args.state.now) remaining-byte.ensures new ∙ sym (settle-start _ _ _ _ _ start); number = omega (arith, pre.3, comes, goes) }

pub returns : goal.returns
returns c =
    let if1 = c.if-kind-eq34 in
    let args = c.args in
    let none = sym c.is_merge.ensures ∙ c.if-is_merge.false in
    let moves = none_moves args.pulse args.format args.state.now args.k args.c if1.false none c.if-kind-eq32.false in
    record { state = sym (settle_other _ _ _ _ _ if1.false none c.if-kind-eq32.false); number = omega (arith, moves.0, moves.1) }
