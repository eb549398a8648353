-- What is promised of programs as text, as model/TextPromises states it.
-- Assumes nothing.
use Rattle.model.specs.Refusals.{Accepted, Done}
use Rattle.std.proofs.Common.{arith, sym, ◌∙◌, subst, ap₂, length-append}
use Rattle.model.specs.declared.texts.Token.{Token}
use Rattle.std.specs.Prelude.{◌≡◌, List, [], ◌∷◌, ℕ, length, take}
use Rattle.std.proofs.Math.Path.{refl, ap}
use Rattle.std.proofs.lemmas.List.{length-map}
use Rattle.model.specs.declared.Options.{Options}
use Rattle.model.specs.declared.Node.{Node}
use Rattle.model.specs.Program.{Code, stmt, roots, time_in, preorder, node_bytes, program_of}
use Rattle.model.specs.ProgramChecks.{check_of}
use Rattle.laws.specs.Program.Passed.{passed, program-trees, count-bodies}
use Rattle.model.specs.Text.{words_of, tokens, Means, BreaksAt}
use Rattle.model.specs.Reader.{Reading, good, bad, reader_at_first}
use Rattle.model.specs.TextCalls.{reading_of, broken_at, bytes_read, text_checks, read_text_call}
use Rattle.model.specs.Word.{Bytes}
use Rattle.model.specs.TextPromises.{place_at, Texts}
use Rattle.laws.specs.Refusals.Laws.{not-refused, all-accept}
use Rattle.laws.specs.Text.Runs.{reads-good}
use Rattle.theory.specs.Text.Found.{reader-finds, broken-place}
use Rattle.theory.specs.Text.OneReading.{one-reading}
use Rattle.theory.specs.Text.Sound.{begins, sound, words-proper, take-proper}
use Rattle.theory.specs.Text.Bytes.{program-back, trees-back}
use Rattle.theory.specs.Text.Limits.{reading-bytes}
use Rattle.theory.specs.Text.Order.{read-text-refuses, compile-text-refuses, run-text-refuses}
use Rattle.laws.specs.Text.AsProgram.{compile-as-program, run-as-program, text-accepted, program-made, program-passes}

module _ (text : List ℕ) where
  found : (P : Code) → Means (tokens (words_of text)) P → reading_of text ≡ good (preorder P)
  unfolding reading_of
  found P d = reader-finds (length text) (words_of text) P d

  read : (ns : List Node) → reading_of text ≡ good ns → (P : Code) × Means (tokens (words_of text)) P × (ns ≡ preorder P)
  unfolding reading_of
  read ns e =
      let g = reads-good (length text) reader_at_first (words_of text) ns e in
      let s = sound (tokens (words_of text)) (words-proper 0 0 0 text) g.0 in
      (s.0, s.1, g.1 ∙ s.2)

  broken : (p : ℕ) → reading_of text ≡ bad p → (i : ℕ) × BreaksAt (tokens (words_of text)) i × (p ≡ place_at (length text) (words_of text) i)
  unfolding reading_of
  broken p e =
      let ts = tokens (words_of text) in
      let b = broken-place (length text) (words_of text) p e in
      let i = b.0 in
      (i, b.3 (begins (take i ts) (take-proper i ts (words-proper 0 0 0 text)) b.2.before), b.1)

  -- a text that passes 18 has a reading, and its bytes are the reading's
  meant : broken_at (reading_of text) ≡ Accepted → (P : Code) × Means (tokens (words_of text)) P × (bytes_read (reading_of text) ≡ node_bytes (preorder P))
  unfolding broken_at bytes_read
  meant = go (reading_of text) refl
    where
      go : (r : Reading) → reading_of text ≡ r → broken_at r ≡ Accepted
          → (P : Code) × Means (tokens (words_of text)) P × (bytes_read r ≡ node_bytes (preorder P))
      go (good ns) e a = let q = read ns e in (q.0, q.1, ap node_bytes q.2)
      go (bad p) e a = not-refused a

-- a reading is one statement, so it is a program without procedures
one-root : (options : Options) {ts : List Token} (P : Code) → Means ts P → check_of options (node_bytes (preorder P)) ≡ Accepted → options.procedures ≡ 0
unfolding check_of
one-root options P d e =
    let k = options.procedures in
    let s = node_bytes (preorder P) in
    let w = options.pulse in
    let R = (passed (time_in options.times) w k s e).readable in
    let S = program_of w k s in
    let l = ap length (sym (trees-back d) ∙ program-trees k s R w) in
    omega (arith, l, length-map (roots S) stmt, length-append S.bodies (S.main ∷ []), count-bodies k s R w)

program : (options : Options) (text lent : List ℕ) (n f : ℕ) → (read_text_call options text lent).answer ≡ Done n f →
    let bytes = take n (read_text_call options text lent).lent in
    (P : Code) × Means (tokens (words_of text)) P × (bytes ≡ node_bytes (preorder P)) × (program_of options.pulse options.procedures bytes ≡ record { bodies = []; main = P; pulse = options.pulse })
program options text lent n f done =
    let q = meant text (all-accept (text_checks text) (text-accepted options text lent n f done) 2) in
    let e = program-made options text lent n f done ∙ q.2 in
    let z = one-root options q.0 q.1 (subst (λ (s : List ℕ). check_of options s ≡ Accepted) q.2 (program-passes options text lent n f done)) in
    (q.0, q.1, e, ap₂ (program_of options.pulse) z e ∙ program-back options.pulse q.1)

pub texts : Texts
texts =
    record {
      one = λ ts P Q d e. one-reading d e;
      found = found;
      read = read;
      broken = broken;
      program = program;
      bytes = λ text e.
          let q = meant text (all-accept (text_checks text) e 2) in
          subst Bytes (sym q.2) (reading-bytes text q.1);
      compiled = compile-as-program;
      run = run-as-program;
      reading = read-text-refuses;
      compiling = compile-text-refuses;
      runs = run-text-refuses;
    }
