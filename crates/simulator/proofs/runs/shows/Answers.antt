-- `shows` meets its contract. Assumes nothing.
use mathlib.Core.Bool.{true, false}
use mathlib.Core.Path.{sym, ◌∙◌, ap}
use Prim.Native.Nat.{ℕ}
use native.Mathlib.Omega.{arith}
use Rattle.model.specs.Circuit.{high}
use Rattle.model.specs.State.{now_at}
use Rattle.state.proofs.Standing.{stands-in}
use Rattle.simulator.proofs.Cells.{fits-finish, fits-few, fits-room}
use Rattle.simulator.proofs.Answers.{answer-shows}
use Rattle.simulator.proofs.runs.shows.Goals as goal

pub is_high-requires : goal.is_high-requires
is_high-requires c =
    let args = c.args in
    let pre = c.requires in
    stands-in args.source.now.format args.state.now args.source.now.h.finish args.source.now.h.count (fits-finish pre).1 (fits-few pre) (omega (arith, fits-room pre))

pub returns-then-is_high : goal.returns-then-is_high
returns-then-is_high c =
    let pre = c.requires in
    let args = c.args in
    answer-shows args.source.now.format args.source.now.file.now args.state.now args.count true _ _
    (ap (λ (k : ℕ). high (now_at args.source.now.format args.state.now k)) (sym (fits-finish pre).0) ∙ sym c.is_high.ensures ∙ c.if-is_high.true)
    c.get32-instant.ensures c.words_in-words.ensures

pub returns-else-is_high : goal.returns-else-is_high
returns-else-is_high c =
    let pre = c.requires in
    let args = c.args in
    answer-shows args.source.now.format args.source.now.file.now args.state.now args.count false _ _
    (ap (λ (k : ℕ). high (now_at args.source.now.format args.state.now k)) (sym (fits-finish pre).0) ∙ sym c.is_high.ensures ∙ c.if-is_high.false)
    c.get32-instant.ensures c.words_in-words.ensures
