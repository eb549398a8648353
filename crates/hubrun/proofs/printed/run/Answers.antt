-- `printed::run` meets its contract. Assumes nothing.
use native.Mathlib.Omega.{arith}
use mathlib.Core.Path.{◌≡◌}
use Prim.Native.Nat.{◌-◌}
use lib.ListN.{length, take, drop, replicate, length-take, length-drop}
use lib.Seq.{take_all}
use Rattle.hubrun.proofs.Texts.{run-told}
use Rattle.hubrun.proofs.printed.run.Goals as goal

pub slice_bounds-start_words-end : goal.slice_bounds-start_words-end
slice_bounds-start_words-end c = simp length-take (omega (arith, c.requires))

pub start_words-words-requires : goal.start_words-words-requires
start_words-words-requires c = simp length-take (omega (arith, c.requires))

pub returns : goal.returns
returns c =
    let input = c.args.input.now in
    let e : take (length input - 36) (drop 36 input) ≡ drop 36 input = take_all (length input - 36) (drop 36 input) (simp length-drop (omega arith)) in
    let told = rw c.defaults.ensures at c.run_program.ensures.answer in
    run-told input (replicate 6656 0) (replicate 41480 0) e c.get32-budget.ensures c.start_words-words.ensures told
