-- `put_refusal` meets its contract: three puts side by side. Assumes nothing.
use Rattle.std.proofs.Common.{List, [], ◌∷◌, ◌++◌, append_assoc, ℕ, arith}
use Rattle.model.specs.Hubrun.{decimal, line}
use Rattle.lines.proofs.Digits.{decimal-length}
use Rattle.lines.proofs.Puts.{number_put, put_both, put-over}
use Rattle.lines.proofs.put_refusal.Goals as goal

pub put_number-numbered-requires : goal.put_number-numbered-requires
put_number-numbered-requires c = omega (arith, c.requires, decimal-length c.args.number, c.put_bytes-told.ensures.next)

pub put_number-requires : goal.put_number-requires
put_number-requires c =
    omega (arith, c.requires, decimal-length c.args.number, decimal-length c.args.place, c.put_bytes-told.ensures.next, c.put_number-numbered.ensures.next)

pub returns : goal.returns
unfolding line
returns c =
    let told = c.put_bytes-told in
    let numbered = c.put_number-numbered in
    let d = c.args.out.now in
    let n = decimal c.args.number in
    let p = decimal c.args.place in
    let w : List ℕ = 114 ∷ 101 ∷ 102 ∷ 117 ∷ 115 ∷ 101 ∷ 100 ∷ 32 ∷ [] in
    let rest = n ++ (32 ∷ (p ++ (10 ∷ []))) in
    let both = put_both told.new.out told.result (n ++ (32 ∷ [])) (p ++ (10 ∷ []))
    (number_put told.new.out told.result n 32 (numbered.ensures.next, numbered.ensures.out))
    (number_put numbered.new.out numbered.result p 10 (c.put_number.ensures.next, c.put_number.ensures.out)) in
    let all = put_both d 0 w rest (told.ensures.next, told.ensures.out) (rw append_assoc at both) in
    let clauses = put-over d (w ++ rest) all
    (omega (arith, c.requires, decimal-length c.args.number, decimal-length c.args.place, told.ensures.next, numbered.ensures.next, c.put_number.ensures.next)) in record { next = clauses.0; out = clauses.1 }
