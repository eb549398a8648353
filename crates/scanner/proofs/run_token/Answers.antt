-- `run_token` meets its contract: a number, a name, or a word. Assumes nothing.
use Rattle.std.proofs.Common.{◌∙◌, refl}
use Rattle.scanner.proofs.Runs.{sign-told, token-number, token-name, token-word}
use Rattle.scanner.proofs.run_token.Goals as goal

pub returns-in-Some : goal.returns-in-Some
returns-in-Some c = token-number c.args.previous c.args.w.now cc

pub returns-in-Some-name : goal.returns-in-Some-name
returns-in-Some-name c = token-name c.args.previous c.args.w.now (cc) cc

pub returns : goal.returns
returns c = sign-told _ c.sign.ensures c.word_code.ensures ∙ token-word c.args.previous c.args.w.now (cc) (cc) refl
