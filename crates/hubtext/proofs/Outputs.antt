-- What hubtext writes: the program's bytes, or the line of a refusal. Bytes of a text after 4,097 don't change it, so `main` need not read
-- them.
-- Assumes nothing.
use Rattle.std.specs.Prelude.{Result, Err}
use mathlib.Core.Path.{◌≡◌, refl, sym, ◌∙◌, ap}
use mathlib.Core.List.{List, [], ◌∷◌}
use Prim.Native.Nat.{ℕ, ◌+◌, ◌<◌, ◌≤◌}
use native.Mathlib.Omega.{arith}
use lib.Dec.{ltb}
use lib.ListN.{length, take, replicate, length-take}
use lib.Seq.{sets, take_all}
use borrow.Author.Tests.{lt-ltb, ltb-true, ltb-false}
use Rattle.model.specs.TimeTables.{verdict_of, given_check, load, defaults}
use Rattle.model.specs.NetlistFile.{pulse_wrong}
use Rattle.model.specs.Calls.{overwrite, writing}
use Rattle.model.specs.Hubrun.{decimal, line, refused_word}
use Rattle.model.specs.declared.Refusal.{Refusal}
use Rattle.model.specs.declared.Written.{Written}
use Rattle.model.specs.Refusals.{first, Done}
use Rattle.model.specs.TextCalls.{text_program, read_text_checks, read_text_call}
use Rattle.model.specs.Hubtext.{written, hubtext_output}
use Rattle.laws.specs.Refusals.Laws.{by_bool, refuse-unless, all-accept}
use Rattle.laws.specs.NetlistFile.ReadWrite.{wrote}
use Rattle.word.proofs.Puts.{overwrite-sets}

too_long : (text : List ℕ) → 4096 < length text → hubtext_output text ≡ line (refused_word ∷ decimal 17 ∷ decimal 4096 ∷ [])
unfolding hubtext_output read_text_call writing written load verdict_of given_check pulse_wrong
too_long text h = rw (lt-ltb 4096 (length text) h) refl

pub cut-text : (text : List ℕ) → hubtext_output (take 4097 text) ≡ hubtext_output text
cut-text text =
    by_bool (ltb 4096 (length text))
    (λ z. let h : 4096 < length text = ltb-true 4096 (length text) z in
    too_long (take 4097 text) (simp length-take (omega arith)) ∙ sym (too_long text h))
    (λ z. ap hubtext_output (take_all 4097 text (omega (arith, ltb-false 4096 (length text) z))))

-- its own list, at first
abbrev own : List ℕ
own = replicate 800 0

module _ (text : List ℕ) where
  done-output : (n f : ℕ) → (read_text_call defaults text own).answer ≡ Done n f → hubtext_output text ≡ take n (read_text_call defaults text own).lent
  unfolding hubtext_output written
  done-output n f e = ap (λ (a : Result Written Refusal). written a (read_text_call defaults text own).lent) e

  pub refused-output : (r : Refusal) → (read_text_call defaults text own).answer ≡ Err r
      → hubtext_output text ≡ line (refused_word ∷ decimal r.number ∷ decimal r.place ∷ [])
  unfolding hubtext_output written
  refused-output r e = ap (λ (a : Result Written Refusal). written a (read_text_call defaults text own).lent) e

  -- a program that was written has room in the list
  pub done-fits : (n f : ℕ) → (read_text_call defaults text own).answer ≡ Done n f → n ≤ 800
  unfolding read_text_call
  done-fits n f e =
      let w = wrote (first (read_text_checks defaults text own)) (text_program text) (length (text_program text)) 0 own n f e in
      let l : length own ≡ 800 = refl in
      omega (arith, w.count, l, ltb-false (length own) (length (text_program text)) (refuse-unless _ 14 0 (all-accept (read_text_checks defaults text own) w.accepted 5)))

  -- and what is put out of the list is what hubtext writes
  pub done-put : (n f : ℕ) → (read_text_call defaults text own).answer ≡ Done n f → (out : List ℕ) {p out' : List ℕ} {k : ℕ} → p ≡ (read_text_call defaults text own).lent
      → 800 ≤ length out → (k ≡ 0 + length (take n p)) × (out' ≡ sets out 0 (take n p))
      → (k ≡ length (hubtext_output text)) × (out' ≡ overwrite (hubtext_output text) out)
  done-put n f e out {p} q h put =
      let v : take n p ≡ hubtext_output text = ap (take n) q ∙ sym (done-output n f e) in
      let l : length (take n p) ≤ length out = simp length-take (omega (arith, done-fits n f e)) in
      (omega (arith, put.0, ap length v), put.1 ∙ sym (overwrite-sets (take n p) out l) ∙ ap (λ (w : List ℕ). overwrite w out) v)
