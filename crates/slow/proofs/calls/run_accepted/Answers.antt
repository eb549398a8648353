-- The run of a program that was not refused: the cells that compiling put in are those that are run. Assumes nothing.
use mathlib.Core.List.{◌++◌}
use mathlib.Core.Path.{◌≡◌, refl, ◌∙◌, ap}
use Prim.Native.Nat.{ℕ, ◌-◌}
use native.Mathlib.Omega.{arith}
use Rattle.std.proofs.Common.{rules}
use lib.ListN.{length, length-append, length-take, length-drop, drop, replicate}
use lib.Seq.{sets}
use Rattle.model.specs.declared.Options.{Options}
use Rattle.model.specs.Word.{Bytes}
use Rattle.model.specs.Calls.{check_call}
use Rattle.model.specs.Gates.{slow_size}
use Rattle.slow.proofs.Calling.{Ready, Listed, ready, listed, few, works, finish-low, fits-values, enough, told-answer, told-values, told-work}
use Rattle.slow.proofs.calls.run_accepted.Goals as goal
use Rattle.slow.proofs.calls.run_accepted.Goals.{After-list_accepted-made}

pub list_accepted-made-requires : goal.list_accepted-made-requires
list_accepted-made-requires c =
    let args = c.args in
    let r = ready args.options args.program.now args.words.now args.budget args.values.now args.work.now c.requires in
    (ap (λ (o : Options). check_call o args.program.now) c.single.ensures ∙ r.accepted, refl)

-- what is told of the cells that compiling has put in
is-ready : (c : After-list_accepted-made) → Ready c.args.options c.args.program.now c.args.words.now c.args.budget c.args.values.now c.args.work.now
is-ready c = ready _ _ _ _ _ _ c.requires

bytes : (c : After-list_accepted-made) → Bytes c.args.program.now
bytes c = let known = c.type_inv.program in λ i. omega (arith, known i)

is-listed : (c : After-list_accepted-made)
    → Listed c.args.options c.args.program.now c.args.words.now c.args.budget c.args.values.now c.args.work.now c.list_accepted-made.new.cells
    c.list_accepted-made.result.count c.list_accepted-made.result.finish c.list_accepted-made.result.ors
is-listed c = let m = c.list_accepted-made in listed _ _ _ _ _ _ c.single.result c.single.ensures m.new.cells m.auto.cells m.result m.ensures

pub size-m-requires : goal.size-m-requires
size-m-requires c =
    let at = (goal.at.size-m-requires c).After-list_accepted-made in
    omega (arith, few _ _ _ _ _ _ (is-ready at) (bytes at) _ _ _ _ (is-listed at))

pub invariant_of-net : goal.invariant_of-net
invariant_of-net c =
    let at = (goal.at.invariant_of-net c).After-list_accepted-made in
    let low = few _ _ _ _ _ _ (is-ready at) (bytes at) _ _ _ _ (is-listed at) in
    record { few = omega (arith, low); list = omega (arith, low, (is-listed at).long); short = λ k. search rules }

pub slice_bounds-run-end : goal.slice_bounds-run-end
slice_bounds-run-end c =
    let at = (goal.at.slice_bounds-run-end c).After-list_accepted-made in
    omega (arith, c.size-m.ensures, enough _ _ _ _ _ _ (is-ready at) (bytes at) _ _ _ _ (is-listed at))

pub slice_bounds-run-end-2 : goal.slice_bounds-run-end-2
slice_bounds-run-end-2 c =
    let args = c.args in
    let at = (goal.at.slice_bounds-run-end-2 c).After-list_accepted-made in
    let room = enough _ _ _ _ _ _ (is-ready at) (bytes at) _ _ _ _ (is-listed at) in
    omega (arith, length-take c.size-m.result args.work.now, c.size-m.ensures, room)

pub run-answer-requires : goal.run-answer-requires
run-answer-requires c =
    let args = c.args in
    let at = (goal.at.run-answer-requires c).After-list_accepted-made in
    let room = enough _ _ _ _ _ _ (is-ready at) (bytes at) _ _ _ _ (is-listed at) in (
      works _ _ _ _ _ _ (is-ready at) (bytes at) _ _ _ _ (is-listed at) _
          (omega (arith, length-take c.size-m.result args.work.now, c.size-m.ensures, room)),
      finish-low _ _ _ _ _ _ (is-ready at) (bytes at) _ _ _ _ (is-listed at),
      (is-ready at).few,
      fits-values _ _ _ _ _ _ (is-ready at) (bytes at) _ _ _ _ (is-listed at),
    )

pub clear-requires : goal.clear-requires
clear-requires c =
    let args = c.args in
    let at = (goal.at.clear-requires c).After-list_accepted-made in
    let room = enough _ _ _ _ _ _ (is-ready at) (bytes at) _ _ _ _ (is-listed at) in
    let part = c.run-answer.new.work in
    let rest = drop c.size-m.result args.work.now in
    omega (arith, length-append part rest, c.run-answer.auto.work, length-take c.size-m.result args.work.now, c.size-m.ensures, room)

pub shape_of-work : goal.shape_of-work
shape_of-work c =
    let args = c.args in
    let at = (goal.at.shape_of-work c).After-list_accepted-made in
    let room = enough _ _ _ _ _ _ (is-ready at) (bytes at) _ _ _ _ (is-listed at) in
    let part = c.run-answer.new.work in
    let rest = drop c.size-m.result args.work.now in
    c.clear.auto.d
    ∙ omega (arith, length-append part rest, length-drop c.size-m.result args.work.now, c.run-answer.auto.work, length-take c.size-m.result args.work.now, c.size-m.ensures, room)

pub returns : goal.returns
returns c =
    let args = c.args in
    let m = c.list_accepted-made in
    let at = (goal.at.returns c).After-list_accepted-made in
    let room = enough _ _ _ _ _ _ (is-ready at) (bytes at) _ _ _ _ (is-listed at) in
    let part = c.run-answer.new.work in
    let long : length part ≡ slow_size m.result.count =
    omega (arith, c.run-answer.auto.work, length-take c.size-m.result args.work.now, c.size-m.ensures, room) in
    let answer = rw c.as_slice-times.ensures at c.run-answer.ensures.answer in
    let values = rw c.as_slice-times.ensures at c.run-answer.ensures.values in record {
      answer = answer ∙ told-answer _ _ _ _ _ _ (is-ready at) (bytes at) _ _ _ _ (is-listed at);
      values = values ∙ told-values _ _ _ _ _ _ (is-ready at) (bytes at) _ _ _ _ (is-listed at);
      work = c.clear.ensures
          ∙ ap (λ (k : ℕ). sets (part ++ drop k args.work.now) 0 (replicate (k - 0) 0)) c.size-m.ensures
          ∙ told-work _ _ _ _ _ _ (is-ready at) (bytes at) _ _ _ _ (is-listed at) part long;
    }
