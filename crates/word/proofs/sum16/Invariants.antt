-- sum16: what is summed and the words that are left make all the words. Assumes nothing.
use Rattle.std.proofs.Common.{◌≡◌, ◌+◌, ◌*◌, ◌%◌, take, drop, length}
use Rattle.std.specs.Slice.Iter.{chunks_exact_size, chunks_exact_rest}
use Rattle.model.specs.NetlistFile.{word_sum}
use Rattle.word.proofs.sum16.Given as goal

abbrev pub invariant-loop-word : goal.invariant-loop-word
invariant-loop-word l =
    (chunks_exact_size l.word-iterator ≡ 2)
    × (length (chunks_exact_rest l.word-iterator) % 2 ≡ 0)
    × ((l.sum + word_sum (chunks_exact_rest l.word-iterator)) % 65536 ≡ word_sum (take (2 * l.n) (drop l.from l.s)) % 65536)
