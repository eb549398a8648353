-- `whole::close` meets its contract. Assumes nothing.
use mathlib.Core.Path.{◌∙◌}
use native.Mathlib.Omega.{arith}
use Rattle.compiler.proofs.Assembly.{walk-low, clock-twenty, data-twenty, address-twenty, made}
use Rattle.compiler.proofs.whole.close.Goals as goal

pub put_memories-requires : goal.put_memories-requires
put_memories-requires c =
    let C = c.requires.closing in
    let low = walk-low C.fitting C.clocks.memory in
    (omega (arith, low), omega (arith, low, C.size), clock-twenty C.clocks, data-twenty C.walk)

pub overflow_add-memory : goal.overflow_add-memory
overflow_add-memory c =
    let C = c.requires.closing in
    omega (arith, walk-low C.fitting C.clocks.memory)

pub put_arrays-requires : goal.put_arrays-requires
put_arrays-requires c =
    let C = c.requires.closing in
    let low = walk-low C.fitting C.clocks.memory in
    let memories = c.put_memories in
    (omega (arith, low), omega (arith, low, C.size, memories.auto.cells), clock-twenty C.clocks, data-twenty C.walk, address-twenty C.walk)

pub put_head-requires : goal.put_head-requires
put_head-requires c = omega (arith, c.requires.closing.size, c.put_arrays.auto.cells, c.put_memories.auto.cells)

pub shape_of-cells : goal.shape_of-cells
shape_of-cells c = c.put_head.auto.cells ∙ c.put_arrays.auto.cells ∙ c.put_memories.auto.cells

pub returns : goal.returns
returns c = λ S C. made C c.put_memories.ensures c.put_arrays.ensures c.put_head.ensures
