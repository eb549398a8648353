-- `put_elements` meets its contract. Assumes nothing.
use mathlib.Core.Path.{◌≡◌}
use Prim.Native.Nat.{◌+◌, ◌-◌}
use native.Mathlib.Omega.{arith}
use Rattle.model.specs.Calls.{word_at}
use Rattle.netlist.proofs.Putting.{part-sets}
use Rattle.simulator.proofs.Passes.{length-words, words-bytes}
use Rattle.simulator.proofs.beginning.put_elements.Goals as goal

pub returns : goal.returns
returns c =
    let args = c.args in
    let n : args.i + 512 - args.i ≡ 512 = omega arith in
    let words = words-bytes args.words.now (λ i. omega (arith, c.type_inv.words i)) 16 256 (omega arith) in
    rw (n, c.copy.ensures, ← words) (part-sets args.state.now _ args.i 512 (length-words (word_at args.words.now) 16 256) (omega arith))
