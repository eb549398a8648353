-- `continue_state` meets its contract: what is left to evaluate from the state so far is what there was to evaluate at first.
-- Assumes nothing.
use mathlib.Core.List.{List}
use mathlib.Core.Path.{◌≡◌, sym, ◌∙◌, ap}
use Prim.Native.Nat.{ℕ, ◌+◌, ◌≤◌}
use native.Mathlib.Omega.{arith}
use Rattle.model.specs.Circuit.{high}
use Rattle.model.specs.State.{Course, base, now_at}
use Rattle.model.specs.NetlistFile.{net_of, finish_of}
use lib.ListN.{length}
use Rattle.state.proofs.Standing.{stands-in}
use Rattle.simulator.proofs.Cells.{fits-finish, fits-few, fits-room, fits-ordered, net-length}
use Rattle.simulator.proofs.Continuing.{accepts-none, going-crowded, going-high, going-all}
use Rattle.simulator.proofs.Stepping.{underway-more}
use Rattle.simulator.proofs.runs.continue_state.Goals as goal

pub returns-in-Err : goal.returns-in-Err
returns-in-Err c =
    let test = c.loop-count-test in
    let args = c.args in
    let loop = c.loop-count in
    let F = args.source.now.format in
    let net = net_of args.source.now.file.now in
    let z = going-crowded F net args.starts (finish_of args.source.now.file.now) loop.invariant.0.going test.true _ (sym c.step.ensures.check ∙ c.in-Err.is) in record { check = sym (ap (λ (x : Course). x.check) z); count = sym (ap (λ (x : Course). x.count) z); state = (λ e. accepts-none (sym e)); spares = (λ j h. c.step.ensures.spares j h ∙ loop.invariant.1 j h); back = (λ roomy. c.step.ensures.back (omega (arith, roomy, loop.invariant.2)) _ c.in-Err.is ∙ sym (ap (λ (x : Course). x.state) z)) }

pub is_high-requires : goal.is_high-requires
is_high-requires c =
    let args = c.args in
    let pre = c.requires in
    let loop = c.loop-count in
    stands-in args.source.now.format _ args.source.now.h.finish args.source.now.h.count (fits-finish pre.0).1 (fits-few pre.0) (omega (arith, fits-room pre.0, c.step.auto.state, loop.invariant.0.long))

pub returns-then-is_high : goal.returns-then-is_high
returns-then-is_high c =
    let pre = c.requires in
    let test = c.loop-count-test in
    let args = c.args in
    let loop = c.loop-count in
    let F = args.source.now.format in
    let net = net_of args.source.now.file.now in
    let accepted = c.in_default.is in
    let free = sym c.step.ensures.check ∙ accepted in
    let is = c.step.ensures.state accepted in
    let up = ap (λ (s : List ℕ). high (now_at F s (finish_of args.source.now.file.now))) (sym is) ∙ ap (λ (f : ℕ). high (now_at F c.step.new.state f)) (sym (fits-finish pre.0).0) ∙ sym c.is_high.ensures ∙ c.if-is_high.true in
    let z = sym (going-high F net args.starts (finish_of args.source.now.file.now) loop.invariant.0.going test.true free up) in
    record { check = ap (λ (x : Course). x.check) z; count = ap (λ (x : Course). x.count) z; state = (λ e. is ∙ ap (λ (x : Course). x.state) z); spares = (λ j h. c.step.ensures.spares j h ∙ loop.invariant.1 j h); back = (λ roomy. is ∙ ap (λ (x : Course). x.state) z) }

pub loop-count-preserved : goal.loop-count-preserved
loop-count-preserved c =
    let test = c.loop-count-test in
    let pre = c.requires in
    let bytes = c.slice_known-in-loop-count-1 in
    let args = c.args in
    let loop = c.loop-count in
    let F = args.source.now.format in
    let net = net_of args.source.now.file.now in
    let accepted = c.in_default.is in
    let free = sym c.step.ensures.check ∙ accepted in
    let is = c.step.ensures.state accepted in
    let room : base F (length net.cells) + 512 ≤ length args.state.now = rw (net-length pre.0) (fits-room pre.0) in
    let low = ap (λ (f : ℕ). high (now_at F c.step.new.state f)) (sym (fits-finish pre.0).0) ∙ sym c.is_high.ensures ∙ c.if-is_high.false in (
      underway-more loop.invariant.0 test.true (fits-ordered pre.0) room _ c.step.auto.state (λ j. omega (arith, bytes.given j)) free is low,
      λ j h. c.step.ensures.spares j h ∙ loop.invariant.1 j h,
      c.step.auto.kept ∙ loop.invariant.2,
    )

pub returns : goal.returns
returns c =
    let args = c.args in
    let loop = c.loop-count in
    let all : loop.count ≡ args.budget = omega (arith, c.loop-count-test.false) in
    let z = sym (going-all args.source.now.format (net_of args.source.now.file.now) args.starts (finish_of args.source.now.file.now) loop.invariant.0.going c.loop-count-test.false) in
    record { check = ap (λ (x : Course). x.check) z; count = sym all ∙ ap (λ (x : Course). x.count) z; state = (λ e. ap (λ (x : Course). x.state) z); spares = loop.invariant.1; back = (λ roomy. ap (λ (x : Course). x.state) z) }
