-- `word_at` meets its contract: a run, a sign of two characters, or one of one. Assumes nothing.
use mathlib.Core.Path.{◌≡◌, refl}
use native.Mathlib.Omega.{arith}
use Rattle.model.specs.Text.{sign}
use Rattle.scanner.proofs.Runs.{sign-told}
use Rattle.scanner.proofs.WordLaws.{run-within, run-here, two_here, one-here}
use Rattle.scanner.proofs.word_at.Goals as goal
use Rattle.scanner.proofs.word_at.Goals.{in-Some, in-None}

pub slice_bounds-run_token-end : goal.slice_bounds-run_token-end
slice_bounds-run_token-end c =
    let start = c in
    run-within start.args.text.now start.args.place c.run_end-end.ensures (omega (arith, start.requires))

pub returns-then-place-end : goal.returns-then-place-end
returns-then-place-end c =
    let run = c in
    let args = run.args in
    run-here args.text.now args.place run.run_end-end.ensures args.previous run.if-place-end.true c.run_token-token.ensures

pub returns : goal.returns
returns c =
    let args = c.args in
    elim c.match-two_code.branch [
      | in-Some w ↦
          let two = rw c.behind.ensures at w.in-Some.ensures in
          let token : c.sign.result ≡ sign w.in-Some.code = rw w.code-is at c.sign.ensures in
          rw (token, w.code-is) (two_here args.text.now args.place c.run_end-end.ensures args.previous c.if-place-end.false two.0 two.1)
      | in-None w ↦
          let none = rw c.behind.ensures at w.in-None.ensures in
          let token = sign-told w.one_code.result (rw w.code-is at c.sign.ensures) w.one_code.ensures in
          rw (token, w.code-is) (one-here args.text.now args.place c.run_end-end.ensures args.previous c.if-place-end.false none refl)
    ]
