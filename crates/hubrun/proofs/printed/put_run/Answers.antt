-- `printed::put_run` meets its contract: three puts side by side. Assumes nothing.
use mathlib.Core.List.{[], ◌∷◌, ◌++◌, map}
use native.Mathlib.Omega.{arith}
use Rattle.model.specs.Hubrun.{decimal, line}
use Rattle.lines.proofs.Digits.{decimal-length}
use Rattle.hubrun.proofs.Lines.{line-length}
use Rattle.lines.proofs.Puts.{number_put, put_both, put-over}
use Rattle.hubrun.proofs.printed.put_run.Goals as goal

pub put_number-first-requires : goal.put_number-first-requires
put_number-first-requires c = omega (arith, c.requires, decimal-length c.args.instant, c.put_bytes-told.ensures.next)

pub put_words-requires : goal.put_words-requires
put_words-requires c =
    omega (arith, c.requires, decimal-length c.args.instant, line-length c.args.words, c.put_bytes-told.ensures.next, c.put_number-first.ensures.next)

pub returns : goal.returns
returns c =
    let d = c.args.out.now in
    let w = c.args.word.now in
    let n = decimal c.args.instant in
    let l = line (map decimal c.args.words) in
    let told = c.put_bytes-told.ensures in
    let number = c.put_number-first.ensures in
    let words = c.put_words.ensures in
    let first = put_both d 0 w (n ++ (10 ∷ [])) (told.next, told.out) (number_put c.put_bytes-told.new.out c.put_bytes-told.result n 10 (number.next, number.out)) in
    let clauses = put-over d ((w ++ (n ++ (10 ∷ []))) ++ l) (put_both d 0 (w ++ (n ++ (10 ∷ []))) l first (words.next, words.out))
    (omega (arith, c.requires, decimal-length c.args.instant, line-length c.args.words, told.next, number.next, words.next)) in
    record { next = clauses.0; out = clauses.1 }
