-- `continue_again` meets its contract. Assumes nothing.
use mathlib.Core.List.{List}
use mathlib.Core.Path.{sym, ◌∙◌, ap}
use Prim.Native.Nat.{ℕ, ◌+◌, ◌≤◌}
use native.Mathlib.Omega.{arith}
use lib.ListN.{length}
use Rattle.model.specs.declared.Format.TheVariants.{Compact}
use Rattle.model.specs.State.{Course}
use Rattle.model.specs.NetlistFile.{net_of, finish_of}
use Rattle.simulator.proofs.Cells.{fits-few, fits-room}
use Rattle.simulator.proofs.Continuing.{count_under, failed}
use Rattle.simulator.proofs.Stepping.{restored, again-asks, redone}
use Rattle.simulator.proofs.runs.continue_again.Goals as goal

pub copy-requires : goal.copy-requires
copy-requires c =
    let base-call = c.base-size in
    let pre = c.requires in
    (omega (arith, base-call.ensures, fits-few pre.0.0), omega (arith, base-call.ensures, fits-room pre.0.0))

pub continue_state-requires : goal.continue_state-requires
continue_state-requires c =
    let base-call = c.base-size in
    let copy = c.copy in
    let args = c.args in
    let pre = c.requires in
    let net = net_of args.file.now in
    let s : List ℕ = args.state.now in
    let size : ℕ = base-call.result + 512 in
    let room : size ≤ length s = omega (arith, base-call.ensures, fits-room pre.0.0) in
    let back = restored s _ _ _ _ size copy.ensures c.copy-then-is_err.ensures room c.continue_state-went.auto.state (λ j h. c.continue_state-went.ensures.spares j (omega (arith, base-call.ensures, h))) in
    again-asks Compact args.file.now args.h args.budget _ s _ back (count_under Compact net args.starts (finish_of args.file.now) args.budget s _ c.continue_state-went.ensures.count) pre.0

pub returns-then-is_err : goal.returns-then-is_err
returns-then-is_err c =
    let base-call = c.base-size in
    let copy = c.copy in
    let copy2 = c.copy-then-is_err in
    let args = c.args in
    let pre = c.requires in
    let net = net_of args.file.now in
    let s : List ℕ = args.state.now in
    let size : ℕ = base-call.result + 512 in
    let room : size ≤ length s = omega (arith, base-call.ensures, fits-room pre.0.0) in
    let back = restored s _ _ _ _ size copy.ensures copy2.ensures room c.continue_state-went.auto.state (λ j h. c.continue_state-went.ensures.spares j (omega (arith, base-call.ensures, h))) in
    let refused = sym c.continue_state-went.ensures.check ∙ (failed _ (sym c.is_err.ensures.value ∙ c.if-is_err.true)).1 in
    let z = redone Compact net args.starts (finish_of args.file.now) args.budget _ s _ _ back c.continue_state-went.ensures.count refused in
    let more = c.continue_state.ensures in
    record { check = c.continue_state-went.ensures.check; count = c.continue_state-went.ensures.count; state = more.state (more.check ∙ ap (λ (x : Course). x.check) z) ∙ ap (λ (x : Course). x.state) z }
