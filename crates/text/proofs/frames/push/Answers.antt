-- `frames::push` meets its contract. Assumes nothing.
use Rattle.text.proofs.Stack.{frames-push}
use Rattle.text.proofs.frames.push.Goals as goal

pub returns : goal.returns
returns c = frames-push c.args.stack.now c.args.height c.args.frame c.requires
