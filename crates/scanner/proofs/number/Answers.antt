-- `number` meets its contract, test by test. Assumes nothing.
use Rattle.std.proofs.Common.{sym, ◌∙◌, le-leb, arith}
use Rattle.std.proofs.lemmas.Bool.{lt-leb}
use Rattle.scanner.proofs.Numbers.{size-wrong, digits-wrong, first-wrong, size-right, number-value, number-none, number-some}
use Rattle.scanner.proofs.number.Goals as goal

pub returns-then-n : goal.returns-then-n
returns-then-n c =
    let args = c.args in
    number-none args.limit args.w.now (size-wrong args.limit args.w.now c.if-n.true)

pub returns-then-not-all_digits : goal.returns-then-not-all_digits
returns-then-not-all_digits c =
    let args = c.args in
    number-none args.limit args.w.now (digits-wrong args.limit args.w.now (sym c.all_digits.ensures ∙ c.if-not-all_digits.true))

pub bounds-w-0 : goal.bounds-w-0
bounds-w-0 c =
    let args = c.args in
    (size-right args.limit args.w.now c.if-n.false).0

pub returns-then-n-w : goal.returns-then-n-w
returns-then-n-w c =
    let args = c.args in
    number-none args.limit args.w.now (first-wrong args.limit args.w.now c.if-n-w.true)

pub value-v-requires : goal.value-v-requires
value-v-requires c =
    let args = c.args in
    ((size-right args.limit args.w.now c.if-n.false).1, sym c.all_digits.ensures ∙ c.if-not-all_digits.false)

-- whether it is a number, by its value
pub returns-then-v-from : goal.returns-then-v-from
returns-then-v-from c =
    let args = c.args in
    let e = number-value args.limit args.w.now c.if-n.false (sym c.all_digits.ensures ∙ c.if-not-all_digits.false) c.if-n-w.false in
    number-some args.limit args.w.now (sym e ∙ le-leb _ _ (omega (arith, c.value-v.ensures, c.from.ensures))) c.value-v.ensures

pub returns-else-v-from : goal.returns-else-v-from
returns-else-v-from c =
    let args = c.args in
    let e = number-value args.limit args.w.now c.if-n.false (sym c.all_digits.ensures ∙ c.if-not-all_digits.false) c.if-n-w.false in
    number-none args.limit args.w.now (sym e ∙ lt-leb _ _ (omega (arith, c.value-v.ensures, c.from.ensures)))
