-- Words into a reply: after k of them it is the first k of sixteen puts. Assumes nothing.
use Rattle.std.proofs.Common.{◌≡◌}
use Rattle.model.specs.State.{up_to}
use Rattle.reply.specs.Replies.{put_word}
use Rattle.reply.proofs.put_words.Given as goal

abbrev pub invariant-loop-k : goal.invariant-loop-k
invariant-loop-k l = l.reply ≡ up_to (put_word l.w-items) l.k l.initial.reply
