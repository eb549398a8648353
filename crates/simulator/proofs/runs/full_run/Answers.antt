-- `full_run` meets its contract. Assumes nothing.
use mathlib.Core.Bool.{false}
use mathlib.Core.List.{List}
use mathlib.Core.Path.{sym, ◌∙◌, ap, ap₂}
use Prim.Native.Nat.{ℕ}
use native.Mathlib.Omega.{arith}
use Rattle.model.specs.Calls.{word_at, shows}
use Rattle.model.specs.Circuit.{high}
use Rattle.model.specs.State.{now_at}
use Rattle.model.specs.NetlistFile.{net_of, finish_of}
use Rattle.model.specs.declared.Format.TheVariants.{Full}
use Rattle.netlist.proofs.Headers.{header-finish}
use Rattle.state.proofs.Files.{file-sized, file-stands, file-ordered}
use Rattle.simulator.proofs.AcceptedFile.{begin-instant, reruns}
use Rattle.simulator.proofs.InFlight.{begun-ready}
use Rattle.simulator.proofs.Answers.{full-ended, full-open}
use Rattle.simulator.proofs.Continuing.{count_under, full-accepted}
use Rattle.simulator.proofs.runs.full_run.Goals as goal

pub is_high-requires : goal.is_high-requires
is_high-requires c =
    let header_of = c.header_of in
    let args = c.args in
    let pre = c.requires in
    let z = file-sized Full args.file.now args.state.now pre.0 in
    file-stands Full args.file.now _ (reruns pre.0 c.begin_state.auto.state) _ (omega (arith, header-finish args.file.now header_of.ensures, z.finish))

pub returns-then-is_high : goal.returns-then-is_high
returns-then-is_high c =
    let header_of = c.header_of in
    let begin-state = c.begin_state in
    let is-high = c.is_high in
    let if1 = c.if-is_high in
    let args = c.args in
    let file : List ℕ = args.file.now in
    let up = ap (λ (f : ℕ). high (now_at Full begin-state.new.state f)) (sym (header-finish file header_of.ensures)) ∙ sym is-high.ensures ∙ if1.true in
    let z = full-ended file args.words.now args.budget args.state.now _ begin-state.ensures up in
    record { state = z.0; answer = c.shows.ensures ∙ ap₂ (shows Full file) z.0 z.1 }

pub continue_state-went-requires : goal.continue_state-went-requires
continue_state-went-requires c =
    let header_of = c.header_of in
    let args = c.args in
    let pre = c.requires in
    let begin-state = c.begin_state in
    let file : List ℕ = args.file.now in
    let state : List ℕ = args.state.now in
    let net = net_of file in
    let words = word_at args.words.now in (
      record { runs = reruns pre.0 begin-state.auto.state; header = header_of.ensures },
      omega (arith, begin-instant Full file state pre.0 words _ begin-state.ensures, pre.2),
      begun-ready net (file-ordered Full file state pre.0) words state _ begin-state.ensures,
    )

pub overflow_add-went : goal.overflow_add-went
overflow_add-went c =
    let pre = c.requires in
    let low = count_under Full _ false _ _ _ _ c.continue_state-went.ensures.count in
    omega (arith, low, pre.2)

pub returns : goal.returns
returns c =
    let header_of = c.header_of in
    let went-on = c.continue_state-went in
    let begin-state = c.begin_state in
    let is-high = c.is_high in
    let if1 = c.if-is_high in
    let args = c.args in
    let went = went-on.ensures in
    let accepted = full-accepted (net_of args.file.now) false (finish_of args.file.now) args.budget begin-state.new.state in
    let file : List ℕ = args.file.now in
    let low = ap (λ (f : ℕ). high (now_at Full begin-state.new.state f)) (sym (header-finish file header_of.ensures)) ∙ sym is-high.ensures ∙ if1.false in
    let z = full-open file args.words.now args.budget args.state.now _ begin-state.ensures low _ _ (went.state (went.check ∙ accepted)) went.count in
    record { state = z.0; answer = c.shows-2.ensures ∙ ap₂ (shows Full file) z.0 z.1 }
