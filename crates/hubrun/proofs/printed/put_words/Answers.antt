-- `printed::put_words` meets its contract: a word more is put in, and then the last. Assumes nothing.
use mathlib.Core.Path.{◌≡◌, sym, ◌∙◌}
use mathlib.Core.List.{List}
use Prim.Native.Nat.{ℕ, ◌+◌, ◌<◌, ◌≤◌}
use native.Mathlib.Omega.{arith}
use lib.ListN.{length, get_or, take, length-take}
use lib.Seq.{get_or-take}
use Rattle.hubrun.proofs.Lines.{line_from, more-length, last-length, put-more-words, put-last-word}
use Rattle.hubrun.proofs.printed.put_words.Goals as goal

-- an item of the first few words
item : (words : List ℕ) (n : ℕ) {k w : ℕ} → w ≡ get_or (take n words) k 0 → k < length (take n words) → w ≡ get_or words k 0
item words n {k} e h = e ∙ get_or-take n words k 0 (omega (arith, simp length-take at h))

pub put_number-requires : goal.put_number-requires
put_number-requires c =
    let loop = c.loop-w in
    let words = c.args.words in
    let e : loop.w-index ≡ 15 = omega (arith, length-take 15 words) in
    let n : loop.next + length (line_from words 15) ≤ length loop.out = rw (← e) (omega (arith, c.requires, loop.invariant.0, loop.auto.out)) in
    omega (arith, n, last-length words 15 c.from-2.ensures (omega arith))

pub put_number-next-requires : goal.put_number-next-requires
put_number-next-requires c =
    let loop = c.loop-w in
    let words = c.args.words in
    let h : loop.w-index + 1 < length words = omega (arith, simp length-take at c.loop-w-test.true) in
    omega (arith, c.requires, loop.invariant.0, loop.auto.out, more-length words loop.w-index (item words 15 c.from.ensures c.loop-w-test.true) h)

pub loop-w-preserved : goal.loop-w-preserved
loop-w-preserved c =
    let loop = c.loop-w in
    let words = c.args.words in
    let put = c.put_number-next.ensures in
    let h : loop.w-index + 1 < length words = omega (arith, simp length-take at c.loop-w-test.true) in
    let is = item words 15 c.from.ensures c.loop-w-test.true in (
      omega (arith, loop.invariant.0, put.next, more-length words loop.w-index is h),
      loop.invariant.1 ∙ put-more-words words loop.w-index is h loop.out loop.next put.next put.out,
    )

pub returns : goal.returns
returns c =
    let loop = c.loop-w in
    let words = c.args.words in
    let l : length words ≡ 16 = omega arith in
    let e : loop.w-index ≡ 15 = omega (arith, l, length-take 15 words) in
    let n : loop.next + length (line_from words 15) ≡ c.put_number.result = omega (arith, last-length words 15 c.from-2.ensures l, c.put_number.ensures.next) in
    record {
      next = sym (loop.invariant.0 ∙ rw e n);
      out = sym (loop.invariant.1 ∙ rw e (put-last-word words 15 c.from-2.ensures l loop.out loop.next c.put_number.ensures.out));
    }
