-- `next_word` meets its contract. Assumes nothing.
use native.Mathlib.Omega.{arith}
use Prim.Native.Nat.{ℕ, ◌-◌}
use lib.Dec.{eqb}
use borrow.Author.Tests.{eq-eqb, ne_eqb}
use mathlib.Core.Path.{◌≡◌, sym, ap, ◌∙◌}
use Rattle.model.specs.Word.{pick}
use Rattle.model.specs.Gates.{past}
use Rattle.slow.specs.Ring.{word_in, time_at}
use Rattle.slow.proofs.ByKind.{picked, passed, loaded, no-operator-low, no-operator-high, next-constant, next_start, next-delay, next-or, next-when-true, next-when-false, next-merge, next-return, next-memory, next-latch, next-gate-open, next-gate-shut, next-operator, next-read, next-still}
use Rattle.slow.proofs.gates.next_word.Goals as goal
use Rattle.slow.proofs.gates.next_word.Goals.{then-past-eq1, else-past-eq1}

pub returns-then-kind-eq1 : goal.returns-then-kind-eq1
returns-then-kind-eq1 c = sym (next-constant _ _ _ _ _ _ _ c.if-kind-eq1.true)

pub past-v-requires : goal.past-v-requires
past-v-requires c =
    let pre = c.requires in
    let la = pre.1 c.if-kind-eq1.false in
    (omega (arith, la, c.args.net.now.few), omega (arith, la, pre.3))

pub returns-then-kind-eq34 : goal.returns-then-kind-eq34
returns-then-kind-eq34 c =
    let args = c.args in
    cc (next-delay args.work.now args.net.now.n args.k args.c args.t (time_at args.net.now.times.now args.net.now.ors args.k args.c.kind) args.first c.if-kind-eq34.true)

pub has_fallen-requires : goal.has_fallen-requires
has_fallen-requires c = let la = c.requires.1 c.if-kind-eq1.false in (omega (arith, la, c.args.net.now.few), omega (arith, la, c.requires.3))

pub kept_word-requires : goal.kept_word-requires
kept_word-requires c = (omega (arith, c.requires.2, c.args.net.now.few), omega (arith, c.requires.2, c.requires.3))

pub returns-then-has_fallen : goal.returns-then-has_fallen
returns-then-has_fallen c =
    let args = c.args in
    c.kept_word.ensures
    ∙ ap (λ (x : ℕ). pick (eqb args.t 0) args.first x) (sym (picked _ _ _ (sym c.has_fallen.ensures ∙ c.if-has_fallen.true)))
    ∙ sym (next-memory _ _ _ _ _ _ _ c.if-kind-eq40.true)

pub returns-then-kind-eq40 : goal.returns-then-kind-eq40
returns-then-kind-eq40 c =
    let args = c.args in
    c.kept_word-then-kind-eq40.ensures
    ∙ ap (λ (x : ℕ). pick (eqb args.t 0) args.first x) (sym (passed _ _ _ (sym c.has_fallen.ensures ∙ c.if-has_fallen.false)))
    ∙ sym (next-memory _ _ _ _ _ _ _ c.if-kind-eq40.true)

pub past-requires : goal.past-requires
past-requires c = let la = c.requires.1 c.if-kind-eq1.false in (omega (arith, la, c.args.net.now.few), omega (arith, la, c.requires.3))

pub kept_word-requires-then-kind-eq45 : goal.kept_word-requires-then-kind-eq45
kept_word-requires-then-kind-eq45 c =
    let pre = c.requires in
    let few = c.args.net.now.few in
    elim c.if-past-eq1.branch [
      | then-past-eq1 w ↦ (omega (arith, w.from-is, pre.2, few), omega (arith, w.from-is, pre.2, pre.3))
      | else-past-eq1 w ↦ (omega (arith, w.from-is, pre.0, few), omega (arith, w.from-is, pre.0, pre.3))
    ]

pub returns-then-kind-eq45 : goal.returns-then-kind-eq45
returns-then-kind-eq45 c =
    let args = c.args in
    let s = args.work.now in
    let word : word_in s c.if-past-eq1.from (args.t - 1) ≡ pick (eqb (past 1 (word_in s args.c.a) args.t) 1) (word_in s args.c.b (args.t - 1)) (word_in s args.k (args.t - 1)) =
    elim c.if-past-eq1.branch [
      | then-past-eq1 w ↦ rw w.from-is (sym (picked _ _ _ (eq-eqb _ _ (sym c.past.ensures ∙ w.if-past-eq1.true))))
      | else-past-eq1 w ↦ rw w.from-is (sym (passed _ _ _ (ne_eqb _ _ (λ e. w.if-past-eq1.false (c.past.ensures ∙ e)))))
    ] in
    c.kept_word-then-kind-eq45.ensures
    ∙ ap (λ (x : ℕ). pick (eqb args.t 0) 0 x) word
    ∙ loaded (word_in s args.c.a) args.t 0 _ _
    ∙ sym (next-latch _ _ _ _ _ _ _ c.if-kind-eq45.true)

pub returns-then-kind-eq44 : goal.returns-then-kind-eq44
returns-then-kind-eq44 c =
    let args = c.args in
    cc (next-read args.work.now args.net.now.n args.k args.c args.t (time_at args.net.now.times.now args.net.now.ors args.k args.c.kind) args.first c.if-kind-eq44.true)

pub word_at-x-requires : goal.word_at-x-requires
word_at-x-requires c =
    let pre = c.requires in
    let la = pre.1 c.if-kind-eq1.false in
    (omega (arith, la, c.args.net.now.few), omega (arith, la, pre.3))

pub past-p-requires : goal.past-p-requires
past-p-requires c =
    let pre = c.requires in
    let la = pre.1 c.if-kind-eq1.false in
    (omega (arith, la, c.args.net.now.few), omega (arith, la, pre.3))

pub returns-in-32 : goal.returns-in-32
returns-in-32 c =
    let args = c.args in
    cc (next_start args.work.now args.net.now.n args.k args.c args.t (time_at args.net.now.times.now args.net.now.ors args.k args.c.kind) args.first c.in-32.is)

pub returns-in-35 : goal.returns-in-35
returns-in-35 c =
    let args = c.args in
    cc (next-or args.work.now args.net.now.n args.k args.c args.t (time_at args.net.now.times.now args.net.now.ors args.k args.c.kind) args.first c.in-35.is)

pub returns-in-36 : goal.returns-in-36
returns-in-36 c =
    let args = c.args in
    cc (next-when-true args.work.now args.net.now.n args.k args.c args.t (time_at args.net.now.times.now args.net.now.ors args.k args.c.kind) args.first c.in-36.is)

pub returns-in-37 : goal.returns-in-37
returns-in-37 c =
    let args = c.args in
    cc (next-when-false args.work.now args.net.now.n args.k args.c args.t (time_at args.net.now.times.now args.net.now.ors args.k args.c.kind) args.first c.in-37.is)

pub returns-in-38 : goal.returns-in-38
returns-in-38 c =
    let args = c.args in
    cc (next-merge args.work.now args.net.now.n args.k args.c args.t (time_at args.net.now.times.now args.net.now.ors args.k args.c.kind) args.first c.in-38.is)

pub returns-in-39 : goal.returns-in-39
returns-in-39 c =
    let args = c.args in
    cc (next-return args.work.now args.net.now.n args.k args.c args.t (time_at args.net.now.times.now args.net.now.ors args.k args.c.kind) args.first c.in-39.is)

pub returns-then-x-eq1 : goal.returns-then-x-eq1
returns-then-x-eq1 c = c.word_at-y.ensures ∙ sym (next-gate-open _ _ _ _ _ _ _ c.in-41.is (sym c.word_at-x.ensures ∙ c.if-x-eq1.true))

pub returns-else-x-eq1 : goal.returns-else-x-eq1
returns-else-x-eq1 c = sym (next-gate-shut _ _ _ _ _ _ _ c.in-41.is (λ e. c.if-x-eq1.false (c.word_at-x.ensures ∙ e)))

pub returns-in-3-to-9 : goal.returns-in-3-to-9
returns-in-3-to-9 c =
    let args = c.args in
    cc (next-operator args.work.now args.net.now.n args.k args.c args.t (time_at args.net.now.times.now args.net.now.ors args.k args.c.kind) args.first (omega arith) (omega arith))

pub returns-in_default : goal.returns-in_default
returns-in_default c =
    let match = c.in_default.in_default-own in
    sym
    (next-still _ _ _ _ _ _ _
    (record {
      operator = no-operator-low _ c.in_default.if-kind-lt3-own.true;
      constant = c.if-kind-eq1.false;
      delay = c.if-kind-eq34.false;
      start = match.rest.0.0.0.0.0.0.1;
      join = match.rest.0.0.0.0.0.1;
      when_true = match.rest.0.0.0.0.1;
      when_false = match.rest.0.0.0.1;
      merge = match.rest.0.0.1;
      return = match.rest.0.1;
      memory = c.if-kind-eq40.false;
      gated = match.rest.1;
      read = c.if-kind-eq44.false;
      latch = c.if-kind-eq45.false;
    }))

pub returns-in_default-2 : goal.returns-in_default-2
returns-in_default-2 c =
    let match = c.in_default.in_default-own in
    sym
    (next-still _ _ _ _ _ _ _
    (record {
      operator = no-operator-high _ c.in_default.if-kind-lt10-own.false;
      constant = c.if-kind-eq1.false;
      delay = c.if-kind-eq34.false;
      start = match.rest.0.0.0.0.0.0.1;
      join = match.rest.0.0.0.0.0.1;
      when_true = match.rest.0.0.0.0.1;
      when_false = match.rest.0.0.0.1;
      merge = match.rest.0.0.1;
      return = match.rest.0.1;
      memory = c.if-kind-eq40.false;
      gated = match.rest.1;
      read = c.if-kind-eq44.false;
      latch = c.if-kind-eq45.false;
    }))
