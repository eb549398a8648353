-- `owning::own_of` meets its contract. Assumes nothing.
use mathlib.Core.Path.{refl}
use Prim.Native.Nat.{◌+◌}
use native.Mathlib.Omega.{arith}
use Rattle.joiner.proofs.Runs.{own_is, count_low, head-room, file-room, run-low, end_low}
use Rattle.joiner.proofs.owning.own_of.Goals as goal

pub get16-count-requires : goal.get16-count-requires
get16-count-requires c = head-room c.args.file.now c.requires

pub run_of-delays-requires : goal.run_of-delays-requires
run_of-delays-requires c =
    let file = c.args.file.now in
    let count = c.get16-count.ensures in
    (file-room file c.requires count, omega (arith, count, count_low file c.requires))

pub overflow_add-delays : goal.overflow_add-delays
overflow_add-delays c =
    let file = c.args.file.now in
    let count = c.get16-count.ensures in
    omega (arith, count, count_low file c.requires, run-low file c.requires count 34 3 (omega (arith, count, count_low file c.requires)) c.run_of-delays.ensures)

pub run_of-ors-requires : goal.run_of-ors-requires
run_of-ors-requires c =
    let file = c.args.file.now in
    let count = c.get16-count.ensures in
    (file-room file c.requires count, run-low file c.requires count 34 3 (omega (arith, count, count_low file c.requires)) c.run_of-delays.ensures)

pub overflow_add-memory : goal.overflow_add-memory
overflow_add-memory c =
    let file = c.args.file.now in
    let count = c.get16-count.ensures in
    omega (arith, count, count_low file c.requires, run-low file c.requires count 34 3 (omega (arith, count, count_low file c.requires)) c.run_of-delays.ensures)

pub overflow_add-memory-2 : goal.overflow_add-memory-2
overflow_add-memory-2 c =
    let file = c.args.file.now in
    let count = c.get16-count.ensures in
    omega (arith, count, count_low file c.requires, run-low file c.requires count 35 (3 + c.run_of-delays.result) (run-low file c.requires count 34 3 (omega (arith, count, count_low file c.requires)) c.run_of-delays.ensures) c.run_of-ors.ensures)

pub past_walk-end-requires : goal.past_walk-end-requires
past_walk-end-requires c =
    let file = c.args.file.now in
    let count = c.get16-count.ensures in
    file-room file c.requires count

pub overflow_add-memory-3 : goal.overflow_add-memory-3
overflow_add-memory-3 c =
    let get16 = c.get16-count in
    let file = c.args.file.now in
    let count = get16.ensures in
    omega (arith, count, count_low file c.requires, run-low file c.requires count 35 (3 + c.run_of-delays.result) (run-low file c.requires count 34 3 (omega (arith, count, count_low file c.requires)) c.run_of-delays.ensures) c.run_of-ors.ensures)

pub overflow_cast-result : goal.overflow_cast-result
overflow_cast-result c =
    let get16 = c.get16-count in
    let run_of = c.run_of-delays in
    let file = c.args.file.now in
    let count = get16.ensures in
    omega (arith, count, count_low file c.requires, run-low file c.requires count 35 (3 + run_of.result) (run-low file c.requires count 34 3 (omega (arith, count, count_low file c.requires)) run_of.ensures) c.run_of-ors.ensures)

pub overflow_cast-result-2 : goal.overflow_cast-result-2
overflow_cast-result-2 c =
    let get16 = c.get16-count in
    let run_of = c.run_of-delays in
    let file = c.args.file.now in
    let count = get16.ensures in
    omega (arith, count, count_low file c.requires, run-low file c.requires count 34 3 (omega (arith, count, count_low file c.requires)) run_of.ensures)

pub overflow_cast-result-3 : goal.overflow_cast-result-3
overflow_cast-result-3 c =
    let get16 = c.get16-count in
    let file = c.args.file.now in
    let count = get16.ensures in
    omega (arith, count, count_low file c.requires, end_low file c.requires count c.past_walk-end.ensures, c.saturating_sub-walk.ensures)

pub returns : goal.returns
returns c =
    let get16 = c.get16-count in
    let run_of = c.run_of-delays in
    let count = get16.ensures in
    λ v P C. own_is C (rw count at run_of.ensures) (rw count at c.run_of-ors.ensures) (rw count at c.past_walk-end.ensures) refl c.saturating_sub-walk.ensures
