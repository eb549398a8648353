-- word_code: a word of four or five letters that begins like none of the language. Assumes nothing.
use Rattle.std.proofs.Common.{rules}
use Rattle.scanner.proofs.Codes.{code_of_four, code_of_five}
use Rattle.scanner.proofs.word_code.Goals as goal

pub returns-in_default-17 : goal.returns-in_default-17
returns-in_default-17 c = search (rules, code_of_four)

pub returns-in_default-26 : goal.returns-in_default-26
returns-in_default-26 c = search (rules, code_of_five)
