-- `flight` meets its contract: the sum so far and what the cells that are left add make the number. Assumes nothing.
use mathlib.Core.Path.{◌≡◌, refl, sym, ◌∙◌, ap}
use Prim.Native.Nat.{ℕ, ◌+◌, ◌-◌}
use native.Mathlib.Nat.{zero-add}
use native.Mathlib.Omega.{arith}
use Rattle.model.specs.NetlistFile.{count_of, cells_of, net_of}
use Rattle.model.specs.State.{held_at, remaining_at, line_bit, line_at, in_flight, flight_in}
use lib.ListN.{drop}
use Rattle.model.specs.declared.Cell.{Cell}
use Rattle.laws.specs.NetlistFile.Passed.{count-cells}
use Rattle.laws.specs.State.Flight.{flight-low}
use Rattle.netlist.proofs.FileChecks.{accepted-room}
use Rattle.netlist.proofs.Bytes.{standing-first, passed, cell-among, standing-next, cell-here}
use Rattle.state.proofs.Files.{file-sized, file-stands, file-ordered}
use Rattle.state.proofs.Counting.{flight-here, flight-none}
use Rattle.state.proofs.flight.flight.Goals as goal
use Rattle.state.proofs.flight.flight.Goals.{After-in_flight-sum}

pub invariant_of-cells : goal.invariant_of-cells
invariant_of-cells c = record { room = rw c.requires.1 (accepted-room c.args.file.now c.requires.0.accepted) }

pub loop-k-init : goal.loop-k-init
unfolding cells_of
loop-k-init c =
    let items = c.enumerate-k-items.ensures in
    let left : c.args.n - 0 ≡ count_of c.args.file.now = omega (arith, c.requires.1) in
    rw (c.into_iter-k-iterator.ensures.into_iter_gives, items.count, items.source) (standing-first _ (rw left refl), zero-add _)

pub in_flight-sum-requires : goal.in_flight-sum-requires
in_flight-sum-requires c =
    let steps = c.in-Some.ensures.steps in
    let file = c.args.file.now in
    file-stands c.args.format file c.args.s.now c.requires.0 c.in-Some.k (omega (arith, cell-among c.loop-k.invariant.0 steps.0, steps.1, count-cells file))

-- the number so far, with cell k's share of what is left
share : (c : After-in_flight-sum) → flight_in (line_at c.args.format (net_of c.args.file.now) c.args.s.now) (held_at c.args.format c.args.s.now) (remaining_at c.args.format c.args.s.now) (drop c.loop-k.k-iterator.count (cells_of c.args.file.now)) c.loop-k.k-iterator.count
    ≡ c.in_flight-sum.result + flight_in (line_at c.args.format (net_of c.args.file.now) c.args.s.now) (held_at c.args.format c.args.s.now) (remaining_at c.args.format c.args.s.now) (drop (c.loop-k.k-iterator.count + 1) (cells_of c.args.file.now)) (c.loop-k.k-iterator.count + 1)
share c =
    let F = c.args.format in
    let s = c.args.s.now in
    let net = net_of c.args.file.now in
    let k = c.loop-k.k-iterator.count in
    let known = c.loop-k.invariant in
    let steps = c.in-Some.ensures.steps in
    let here = cell-here known.0 steps.0 in
    let inflight = rw steps.1 at c.in_flight-sum.ensures ∙ ap (λ (d : ℕ). in_flight (line_bit F s k d) (held_at F s k) (remaining_at F s k) c.in-Some.c) (ap (λ (x : Cell). x.delay) (sym here)) in
    omega (arith, flight-here (line_at F net s) (held_at F s) (remaining_at F s) net.cells k (cell-among known.0 steps.0) c.in-Some.c here, inflight)

pub overflow_add-sum : goal.overflow_add-sum
overflow_add-sum c =
    let shared-slice-known2 = c.shared_slice_known-2-1 in
    let args = c.args in
    let file = args.file.now in
    let low = flight-low args.format (net_of file) (file-ordered args.format file args.s.now c.requires.0) args.s.now (λ j. omega (arith, shared-slice-known2.given j)) in
    omega (arith, c.loop-k.invariant.1, share (goal.at.overflow_add-sum c).After-in_flight-sum, low, count-cells file, (file-sized args.format file args.s.now c.requires.0).few)

pub loop-k-preserved : goal.loop-k-preserved
loop-k-preserved c =
    let known = c.loop-k.invariant in
    let steps = c.in-Some.ensures.steps in
    let more = share (goal.at.loop-k-preserved c).After-in_flight-sum in
    rw steps.2 (standing-next known.0 steps.0, omega (arith, known.1, more))

pub returns : goal.returns
returns c =
    let args = c.args in
    let net = net_of args.file.now in
    let known = c.loop-k.invariant in
    let end = flight-none (line_at args.format net args.s.now) (held_at args.format args.s.now) (remaining_at args.format args.s.now) net.cells c.loop-k.k-iterator.count (passed known.0 c.in-None.ensures.steps.0.0) in
    omega (arith, known.1, end)
