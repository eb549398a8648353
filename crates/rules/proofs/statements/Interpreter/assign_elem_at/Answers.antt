-- An assignment to an element: index and value, the word put, and its delay with what a write costs.
use Rattle.std.proofs.Common.{◌<◌, length, arith}
use Rattle.rules.proofs.Agree.{element-low}
use Rattle.rules.proofs.Parts.{array-low}
use Rattle.rules.proofs.Runs.{run-assign-elem}
use Rattle.rules.proofs.Stores.{store-set}
use Rattle.rules.proofs.statements.Interpreter.assign_elem_at.Goals as goal

pub offset_bounds-words-element_word : goal.offset_bounds-words-element_word
offset_bounds-words-element_word c = omega (arith, c.element_word.ensures, element-low _ c.eval_at-index.result (array-low c.requires.0))

pub bounds-words-element_word : goal.bounds-words-element_word
bounds-words-element_word c = omega (arith, c.element_word.ensures, element-low _ c.eval_at-index.result (array-low c.requires.0))

pub returns : goal.returns
returns c =
    let words = c.args.words.now in
    let element = c.element_word in
    let index = c.eval_at-index in
    let value = c.eval_at-value in
    let low : element.result < length words = omega (arith, element.ensures, element-low _ index.result (array-low c.requires.0)) in
    run-assign-elem _ _ _ _ _ _ _ _ _ _ _ _ _ index.ensures element.ensures value.ensures (store-set words element.result value.result low) (c.pause.ensures _)
