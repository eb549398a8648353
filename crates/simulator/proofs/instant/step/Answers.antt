-- `step` meets its contract. Assumes nothing.
use mathlib.Core.List.{List}
use mathlib.Core.Path.{sym, ◌∙◌, ap}
use Prim.Native.Nat.{ℕ}
use native.Mathlib.Omega.{arith}
use lib.ListN.{get_or}
use Rattle.model.specs.NetlistFile.{net_of}
use Rattle.model.specs.State.{crowding}
use Rattle.simulator.proofs.Cells.{fits-few, fits-room, fits-ordered, net-length, refits}
use Rattle.simulator.proofs.Continuing.{accepts-none}
use Rattle.simulator.proofs.InFlight.{step-ready}
use Rattle.simulator.proofs.Stepping.{stepped, step-crowding, step-spares}
use Rattle.simulator.proofs.TakingBack.{taken-back-by}
use Rattle.simulator.proofs.instant.step.Goals as goal
use Rattle.simulator.proofs.instant.step.Goals.{then-kept-ge-KEPT+in_default, else-kept-ge-KEPT}

pub keep-requires : goal.keep-requires
keep-requires c =
    let pre = c.requires in
    (fits-few pre.0, fits-room pre.0)

pub take_back-requires : goal.take_back-requires
take_back-requires c =
    let pre = c.requires in
    let show = c.show in
    let if1 = c.if-kept-ge-KEPT in
    (fits-few pre.0, omega (arith, if1.true), omega (arith, fits-room pre.0, show.auto.state))

pub returns-in-Err : goal.returns-in-Err
returns-in-Err c =
    let args = c.args in
    let pre = c.requires in
    let keep = c.keep in
    let show = c.show in
    let if1 = c.if-kept-ge-KEPT in
    let check-lines = c.check_lines in
    let take_back = c.take_back in
    let F = args.source.now.format in
    let net = net_of args.source.now.file.now in
    let s = args.state.now in
    let crowded = sym c.in-Err.is ∙ check-lines.ensures ∙ ap (λ (x : List ℕ). crowding F net x x) show.ensures ∙ step-crowding F net args.starts s in
    let has = keep.ensures (omega (arith, if1.true, keep.auto.kept)) in
    let back = taken-back-by F net (fits-ordered pre.0) args.starts s _ (net-length pre.0) (fits-room pre.0) _ _ _ show.ensures has (omega (arith, if1.true))
    (λ j. omega (arith, c.slice_known-1.given j)) (λ j. omega (arith, c.slice_known-in-Err-1.given j)) take_back.ensures in
    record { check = crowded; state = (λ e. accepts-none (sym e)); spares = (λ j h. ap (λ (x : List ℕ). get_or x j 0) back); back = (λ roomy q e. back) }

pub settle_all-requires : goal.settle_all-requires
settle_all-requires c =
    let args = c.args in
    let pre = c.requires in
    let show = c.show in
    (refits pre.0 show.auto.state, rw show.ensures (step-ready args.source.now.format (net_of args.source.now.file.now) (fits-ordered pre.0) args.starts args.state.now pre.2))

pub returns : goal.returns
returns c =
    let args = c.args in
    let pre = c.requires in
    let show = c.show in
    let if1 = c.if-kept-ge-KEPT in
    let settle-all = c.settle_all in
    let F = args.source.now.format in
    let net = net_of args.source.now.file.now in
    let s = args.state.now in
    let long = net-length pre.0 in
    let done = settle-all.ensures in record {
      check = done.check ∙ ap (λ (x : List ℕ). crowding F net x x) show.ensures ∙ step-crowding F net args.starts s;
      state = (λ e. stepped F net args.starts s _ long _ _ show.ensures (done.state e));
      spares = (λ j h. done.spares j h ∙ ap (λ (x : List ℕ). get_or x j 0) show.ensures ∙ step-spares F net (fits-ordered pre.0) args.starts s j (rw long h));
      back = (λ roomy q e. elim if1.branch [
        | then-kept-ge-KEPT+in_default w ↦ accepts-none (sym w.in_default.is ∙ w.check_lines.ensures ∙ sym done.check ∙ e)
        | else-kept-ge-KEPT w ↦ absurd (omega (arith, roomy, w.if-kept-ge-KEPT.false, c.keep.auto.kept))
      ]);
    }
