-- `next_value` meets its contract. Assumes nothing.
use mathlib.Core.Bool.{not, ◌&&◌, ◌||◌}
use mathlib.Core.Path.{sym, ◌∙◌, ap, ap₂}
use Prim.Native.Nat.{ℕ}
use native.Mathlib.Omega.{arith}
use Rattle.model.specs.Word.{bit, is_zero, operate, element_of}
use Rattle.model.specs.Circuit.{cell_at, high, merges, step_of}
use Rattle.model.specs.State.{now_at, before_at, held_at, element_now}
use Rattle.model.specs.NetlistFile.{net_of}
use Rattle.simulator.proofs.Cells.{fits-pulse, read-array}
use Rattle.simulator.proofs.ByKind.{no-operator-low, no-operator-high, next-constant, next_start, next-delay, next-or, next-when-true, next-when-false, next-merge, next-fallen, next-kept, next-gate-open, next-gate-shut, next-operator, next-latch, next-read, next-still}
use Rattle.simulator.proofs.instant.next_value.Goals as goal
use Rattle.simulator.proofs.instant.next_value.Goals.{then-has_fallen, else-has_fallen}

pub returns-then-kind-eq1 : goal.returns-then-kind-eq1
returns-then-kind-eq1 c = sym (next-constant _ _ _ _ _ _ c.if-kind-eq1.true)

pub returns-then-kind-eq34 : goal.returns-then-kind-eq34
returns-then-kind-eq34 c = c.line_out.ensures ∙ sym (next-delay _ _ _ _ _ _ c.if-kind-eq34.true)

pub returns-then-kind-eq40 : goal.returns-then-kind-eq40
returns-then-kind-eq40 c =
    let fallen = sym c.has_fallen.ensures in
    elim c.if-has_fallen.branch [
      | then-has_fallen w ↦ rw w.from-is at c.before_at.ensures ∙ sym (next-fallen _ _ _ _ _ _ c.if-kind-eq40.true (fallen ∙ w.if-has_fallen.true))
      | else-has_fallen w ↦ rw w.from-is at c.before_at.ensures ∙ sym (next-kept _ _ _ _ _ _ c.if-kind-eq40.true (fallen ∙ w.if-has_fallen.false))
    ]

pub element_now-requires : goal.element_now-requires
element_now-requires c =
    let pre = c.requires in
    let array = read-array pre c.in-44.is in
    (pre.fits, array.0, array.1)

pub returns-in-32 : goal.returns-in-32
returns-in-32 c =
    let args = c.args in
    c.bit.ensures ∙ ap (λ (m : ℕ). bit (args.starts || not (is_zero m))) c.remaining_at-remaining.ensures ∙ sym (next_start _ _ _ _ _ _ c.in-32.is)

pub returns-in-35 : goal.returns-in-35
returns-in-35 c = c.bit-in-35.ensures ∙ ap₂ (λ (x y : ℕ). bit (high x || high y)) c.now_at-x.ensures c.now_at-y.ensures ∙ sym (next-or _ _ _ _ _ _ c.in-35.is)

pub returns-in-36 : goal.returns-in-36
returns-in-36 c = c.bit-in-36.ensures ∙ ap₂ (λ (x y : ℕ). bit (high x && not (is_zero y))) c.now_at-x.ensures c.now_at-y.ensures ∙ sym (next-when-true _ _ _ _ _ _ c.in-36.is)

pub returns-in-37 : goal.returns-in-37
returns-in-37 c = c.bit-in-37.ensures ∙ ap₂ (λ (x y : ℕ). bit (high x && is_zero y)) c.now_at-x.ensures c.now_at-y.ensures ∙ sym (next-when-false _ _ _ _ _ _ c.in-37.is)

pub returns-in-38 : goal.returns-in-38
unfolding merges
returns-in-38 c =
    let pre = c.requires in
    let args = c.args in
    c.merged.ensures
    ∙ ap₂ (λ (x y : ℕ). bit (step_of args.source.now.h.pulse args.c.kind (high (before_at args.source.now.format args.state.now args.k)) (held_at args.source.now.format args.state.now args.k) (high x) (high y)).out) c.now_at-x.ensures c.now_at-y.ensures
    ∙ ap (λ (w : ℕ). bit (step_of w args.c.kind (high (before_at args.source.now.format args.state.now args.k)) (held_at args.source.now.format args.state.now args.k) (high (now_at args.source.now.format args.state.now args.c.a)) (high (now_at args.source.now.format args.state.now args.c.b))).out) (fits-pulse pre.fits)
    ∙ sym (next-merge _ _ _ _ _ _ (grind arith))

pub returns-then-x-eq1 : goal.returns-then-x-eq1
returns-then-x-eq1 c =
    let now-at = c.now_at-x in
    c.now_at-y.ensures ∙ sym (next-gate-open _ _ _ _ _ _ c.in-41.is (sym now-at.ensures ∙ c.if-x-eq1.true))

pub returns-else-x-eq1 : goal.returns-else-x-eq1
returns-else-x-eq1 c =
    let now-at = c.now_at-x in
    sym (next-gate-shut _ _ _ _ _ _ c.in-41.is (λ e. c.if-x-eq1.false (now-at.ensures ∙ e)))

pub returns-in-44 : goal.returns-in-44
returns-in-44 c =
    let args = c.args in
    let net = net_of args.source.now.file.now in
    c.element_now.ensures ∙ ap (λ (y : ℕ). element_now args.source.now.format net args.state.now (element_of (cell_at net.cells args.c.a).delay y)) c.now_at-y.ensures ∙ sym (next-read _ _ _ _ _ _ c.in-44.is)

pub returns-in-45 : goal.returns-in-45
returns-in-45 c = c.latched.ensures ∙ sym (next-latch _ _ _ _ _ _ c.in-45.is)

pub returns-in-3-to-9 : goal.returns-in-3-to-9
returns-in-3-to-9 c =
    let args = c.args in
    let now-at = c.now_at-x in
    let now-at2 = c.now_at-y in
    c.operate.ensures ∙ ap₂ (operate args.c.kind) now-at.ensures now-at2.ensures ∙ sym (next-operator _ _ _ _ _ _ (omega arith) (omega arith))

pub returns-in_default : goal.returns-in_default
returns-in_default c =
    let if1 = c.if-kind-eq1 in
    let if2 = c.if-kind-eq34 in
    let if3 = c.if-kind-eq40 in
    sym
    (next-still _ _ _ _ _ _
    (record {
      operator = no-operator-low _ (omega arith);
      constant = if1.false;
      delay = if2.false;
      start = omega arith;
      join = omega arith;
      when_true = omega arith;
      when_false = omega arith;
      merge = omega arith;
      return = omega arith;
      memory = if3.false;
      gated = omega arith;
      read = omega arith;
      latch = omega arith;
    }))

pub returns-in_default-2 : goal.returns-in_default-2
returns-in_default-2 c =
    let if1 = c.if-kind-eq1 in
    let if2 = c.if-kind-eq34 in
    let if3 = c.if-kind-eq40 in
    sym
    (next-still _ _ _ _ _ _
    (record {
      operator = no-operator-high _ (omega arith);
      constant = if1.false;
      delay = if2.false;
      start = omega arith;
      join = omega arith;
      when_true = omega arith;
      when_false = omega arith;
      merge = omega arith;
      return = omega arith;
      memory = if3.false;
      gated = omega arith;
      read = omega arith;
      latch = omega arith;
    }))

pub returns-in_default-3 : goal.returns-in_default-3
returns-in_default-3 c =
    let if1 = c.if-kind-eq1 in
    let if2 = c.if-kind-eq34 in
    let if3 = c.if-kind-eq40 in
    sym
    (next-still _ _ _ _ _ _
    (record {
      operator = no-operator-high _ (omega arith);
      constant = if1.false;
      delay = if2.false;
      start = omega arith;
      join = omega arith;
      when_true = omega arith;
      when_false = omega arith;
      merge = omega arith;
      return = omega arith;
      memory = if3.false;
      gated = omega arith;
      read = omega arith;
      latch = omega arith;
    }))
