-- all_zero: each byte is zero. Assumes nothing.
use Rattle.std.proofs.Common.{◌≡◌, ◌+◌, ◌-◌, eqb, take, drop, sym, ◌∙◌, arith, rules, tests}
use Rattle.std.proofs.lemmas.Iterator.{YieldsList-from_slice}
use Rattle.std.proofs.lemmas.Iterator.Search.{all_from_yields_List}
use Rattle.state.proofs.Soundness.{zeros_all}
use Rattle.state.proofs.sound.all_zero.Goals as goal

pub returns : goal.returns
returns c =
    let part = take c.args.n (drop c.args.i c.args.s.now) in
    let n : c.args.i + c.args.n - c.args.i ≡ c.args.n = omega arith in
    all_from_yields_List (λ b. eqb b 0) _ _ _ c.all.ensures.ran (YieldsList-from_slice part (rw n at c.iter.ensures.rest)) (λ x b q k. search (rules, tests)) ∙ sym (zeros_all part)
