-- `run` meets its contract. Assumes nothing.
use Prim.Native.Nat.{ℕ, ◌+◌}
use native.Mathlib.Omega.{arith}
use mathlib.Core.List.{List}
use mathlib.Core.Path.{◌≡◌, sym, ap, ◌∙◌}
use borrow.Author.Tests.{eq-eqb, ne_eqb}
use Rattle.model.specs.Circuit.{level}
use Rattle.model.specs.Calls.{overwrite}
use Rattle.model.specs.Gates.{end_at, slow_answer, value_bytes}
use Rattle.word.proofs.Puts.{overwrite-sets}
use Rattle.slow.specs.Ring.{net_of, word_in, values_of, KeptIn}
use Rattle.slow.proofs.Ends.{end-within, answer-ended, answer-open, kept-words, kept-bytes, bytes-length}
use Rattle.slow.proofs.run.Goals as goal
use Rattle.slow.proofs.run.Goals.{then-word_at-eq1, else-word_at-eq1}

pub overflow_add-result : goal.overflow_add-result
overflow_add-result c =
    let args = c.args in
    let f = level (values_of args.net.now.cells.now args.net.now.n args.net.now.ors args.net.now.times.now args.net.now.words.now) args.net.now.finish in
    omega (arith, c.run-t.ensures.instant, end-within f 0 args.budget, c.requires.2)

pub returns : goal.returns
returns c =
    let args = c.args in
    let pre = c.requires in
    let r = c.run-t in
    let cells = args.net.now.cells.now in
    let n = args.net.now.n in
    let W = values_of cells n args.net.now.ors args.net.now.times.now args.net.now.words.now in
    let t = r.result in
    let s = r.new.work in
    let T = end_at (level W args.net.now.finish) 0 args.budget in
    let kept : KeptIn cells n args.net.now.ors args.net.now.times.now args.net.now.words.now t n s = c.run-t.ensures.kept in
    let now : word_in s args.net.now.finish t ≡ W args.net.now.finish t = kept.seen.cells-now args.net.now.finish pre.1 in
    let words = c.words_in-last.ensures ∙ kept-words cells n args.net.now.ors args.net.now.times.now args.net.now.words.now s t kept in
    let bytes = kept-bytes cells n args.net.now.ors args.net.now.times.now args.net.now.words.now s t kept in
    let told : record { outcome = c.if-word_at-eq1.outcome; instant = t; count = t + 1; words = c.words_in-last.result } ≡ slow_answer (net_of cells n) args.net.now.finish W t =
    elim c.if-word_at-eq1.branch [
      | then-word_at-eq1 w ↦ rw w.outcome-is (answer-ended (net_of cells n) args.net.now.finish W t _ words (eq-eqb _ 1 (sym now ∙ sym c.word_at.ensures ∙ w.if-word_at-eq1.true)))
      | else-word_at-eq1 w ↦ rw w.outcome-is (answer-open (net_of cells n) args.net.now.finish W t _ words (ne_eqb _ 1 (λ e. w.if-word_at-eq1.false (c.word_at.ensures ∙ now ∙ e))))
    ] in record {
      answer = told ∙ ap (slow_answer (net_of cells n) args.net.now.finish W) c.run-t.ensures.instant;
      values = c.put_values.ensures
          ∙ sym (overwrite-sets (value_bytes (λ k. word_in s k t) 0 n) args.values.now (omega (arith, bytes-length (λ k. word_in s k t) 0 n, pre.3)))
          ∙ ap (λ (b : List ℕ). overwrite b args.values.now) (bytes ∙ ap (λ (u : ℕ). value_bytes (λ k. W k u) 0 n) c.run-t.ensures.instant);
    }
