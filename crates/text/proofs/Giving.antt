-- What is told of a text's program, check by check.
-- Assumes nothing.
use Rattle.std.proofs.Common.{◌≡◌, ℕ, ◌*◌, ◌<◌, ◌≤◌, ltb, List, [], ◌∷◌, ◌++◌, length, take, sym, refl, ap, ◌∙◌, arith, ltb-false, ltb-true, le-ltb, lt-ltb, Ok, Err}
use Rattle.model.specs.declared.Node.{Node}
use Rattle.model.specs.declared.Refusal.{Refusal}
use Rattle.model.specs.declared.Options.{Options}
use Rattle.model.specs.Refusals.{refuse, refuse_if, first, Checked, Accepted, Done}
use Rattle.model.specs.Program.{node_bytes}
use Rattle.model.specs.ProgramChecks.{check_of}
use Rattle.model.specs.Text.{words_of, outside}
use Rattle.model.specs.Reader.{good, bad}
use Rattle.model.specs.TimeTables.{given_check}
use Rattle.model.specs.Calls.{written_verdict, short, check_call, writing}
use Rattle.model.specs.TextCalls.{reading_of, broken_at, bytes_read, text_program, text_checks, read_text_checks, read_text_call}
use Rattle.laws.specs.Refusals.Laws.{by_bool, not-refused, refuse-unless, first_one, first-append, refused-append, accept-take, all-accept}
use Rattle.laws.specs.NetlistFile.ReadWrite.{wrote, writing-verdict}
use Rattle.laws.specs.Program.Passed.{long-refused}
use Rattle.laws.specs.Program.NodeBytes.{length-bytes}
use Rattle.text.specs.Shown.{Keeps}
use Rattle.text.specs.Parsing.{parse_checks, program_told, Given, give_checks, give_call}

-- a text that is refused gives no program
module _ (text d : List ℕ) (r : Refusal) (e : first (parse_checks text) ≡ Err r) where
  pub refused-told : program_told text ≡ Err r
  unfolding program_told writing
  refused-told = ap (λ (c : Checked). (writing c [] (length (text_program text)) 0 []).answer) e

  pub refused-given : Given text d
  unfolding Given
  refused-given a = not-refused (sym e ∙ a)

pub too_long : (text : List ℕ) → 4096 < length text → first (parse_checks text) ≡ refuse 17 4096
too_long text h = rw (lt-ltb 4096 (length text) h) refl

module _ (text : List ℕ) (h : length text ≤ 4096) where
  pub word-outside : (r : Refusal) → outside (words_of text) ≡ Err r → first (parse_checks text) ≡ Err r
  word-outside r e = rw (le-ltb 4096 (length text) h, e) refl

  module _ (e : outside (words_of text) ≡ Accepted) where
    pub grammar-broken : (p : ℕ) → reading_of text ≡ bad p → first (parse_checks text) ≡ refuse 18 p
    unfolding broken_at
    grammar-broken p b = rw (le-ltb 4096 (length text) h, e, b) refl

    -- a text with a reading
    module _ (ns : List Node) (g : reading_of text ≡ good ns) (n : ℕ) (l : n ≡ length ns) where
      program-is : text_program text ≡ node_bytes ns
      unfolding bytes_read
      program-is = ap bytes_read g

      length-is : length (text_program text) ≡ 4 * n
      length-is = ap length program-is ∙ length-bytes ns ∙ ap (λ (k : ℕ). 4 * k) (sym l)

      checks-are : first (parse_checks text) ≡ refuse_if (ltb 800 (4 * n)) 1 0
      unfolding broken_at
      checks-are = rw (le-ltb 4096 (length text) h, e, ap broken_at g, length-is) (sym (first_one (refuse_if (ltb 800 (4 * n)) 1 0)))

      pub good-told : program_told text ≡ (writing (refuse_if (ltb 800 (4 * n)) 1 0) [] (4 * n) 0 []).answer
      unfolding program_told
      good-told =
          ap (λ (c : Checked). (writing c [] (length (text_program text)) 0 []).answer) checks-are
          ∙ ap (λ (k : ℕ). (writing (refuse_if (ltb 800 (4 * n)) 1 0) [] k 0 []).answer) length-is

      pub good-given : (d : List ℕ) → Keeps d ns → Given text d
      unfolding Given Keeps
      good-given d k a =
          let few : n ≤ 200 = omega (arith, ltb-false 800 (4 * n) (refuse-unless (ltb 800 (4 * n)) 1 0 (sym checks-are ∙ a))) in
          let m : length (text_program text) ≡ 4 * length ns = length-is ∙ ap (λ (k : ℕ). 4 * k) l in
          rw (m, program-is) (k (omega (arith, l, few)))

-- A program put into a lent list ---------------------------------------------------------------------------------------------------------

module _ (options : Options) (program lent : List ℕ) where
  given_by : {c : Checked} → first (give_checks options program lent) ≡ c → give_call options program lent ≡ writing c program (length program) 0 lent
  unfolding give_call
  given_by e = ap (λ (c : Checked). writing c program (length program) 0 lent) e

  pub give-refused : (r : Refusal) → check_call options program ≡ Err r → give_call options program lent ≡ writing (Err r) program (length program) 0 lent
  give-refused r e = given_by (rw e refl)

  module _ (e : check_call options program ≡ Accepted) where
    pub give-short : length lent < length program → give_call options program lent ≡ writing (refuse 14 0) program (length program) 0 lent
    give-short h = given_by (rw (e, lt-ltb (length lent) (length program) h) refl)

    pub give-done : length program ≤ length lent → give_call options program lent ≡ writing Accepted program (length program) 0 lent
    give-done h = given_by (rw (e, le-ltb (length lent) (length program) h) refl)

-- A text and the checks of its program ---------------------------------------------------------------------------------------------------

-- a program that is too long is refused before anything else
too_many : (options : Options) (program : List ℕ) (r : Refusal) (cs : List Checked) → refuse_if (ltb 800 (length program)) 1 0 ≡ Err r
    → first (check_of options program ∷ cs) ≡ Err r
too_many options program r cs e =
    by_bool (ltb 800 (length program))
    (λ z. rw (long-refused options program (ltb-true 800 (length program) z)) (rw z at e))
    (λ z. not-refused (sym (rw z at e)))

module _ (text : List ℕ) where
  abbrev room : Checked
  room = refuse_if (ltb 800 (length (text_program text))) 1 0

  -- what refuses the program of a text refuses every call on it
  pub parse-refuses : (options : Options) (r : Refusal) (cs : List Checked) → first (parse_checks text) ≡ Err r
      → first (text_checks text ++ (check_of options (text_program text) ∷ cs)) ≡ Err r
  parse-refuses options r cs e = go (first (text_checks text)) refl
    where
      go : (c : Checked) → first (text_checks text) ≡ c → first (text_checks text ++ (check_of options (text_program text) ∷ cs)) ≡ Err r
      go (Err q) z = refused-append (text_checks text) (check_of options (text_program text) ∷ cs) q z ∙ sym (refused-append (text_checks text) (room ∷ []) q z) ∙ e
      go (Ok _) z =
          first-append (text_checks text) (check_of options (text_program text) ∷ cs) z
          ∙ too_many options (text_program text) r cs (first_one room ∙ sym (first-append (text_checks text) (room ∷ []) z) ∙ e)

  -- where nothing does, the checks of the text accept
  pub parse-accepts : first (parse_checks text) ≡ Accepted → first (text_checks text) ≡ Accepted
  parse-accepts e = accept-take 3 (parse_checks text) e

  -- and its program has room
  parse-fits : first (parse_checks text) ≡ Accepted → length (text_program text) ≤ 800
  parse-fits e = ltb-false 800 (length (text_program text)) (refuse-unless _ 1 0 (all-accept (parse_checks text) e 3))

-- what was told of a program says what its checks found
module _ (text : List ℕ) where
  abbrev verdict-is : written_verdict (program_told text) ≡ first (parse_checks text)
  unfolding program_told
  verdict-is = writing-verdict (first (parse_checks text)) [] (length (text_program text)) 0 []

  pub told-refused : (r : Refusal) → program_told text ≡ Err r → first (parse_checks text) ≡ Err r
  unfolding written_verdict
  told-refused r e = sym verdict-is ∙ ap written_verdict e

  pub told-accepted : (n f : ℕ) → program_told text ≡ Done n f → first (parse_checks text) ≡ Accepted
  unfolding written_verdict
  told-accepted n f e = sym verdict-is ∙ ap written_verdict e

  told-length : (n f : ℕ) → program_told text ≡ Done n f → n ≡ length (text_program text)
  unfolding program_told
  told-length n f e = (wrote (first (parse_checks text)) [] (length (text_program text)) 0 [] n f e).count

  -- it is in the list's front
  module _ (n f : ℕ) (e : program_told text ≡ Done n f) where
    pub told-fits : n ≤ 800
    told-fits = omega (arith, told-length n f e, parse-fits text (told-accepted n f e))

    pub told-program : (d : List ℕ) → Given text d → take n d ≡ text_program text
    unfolding Given
    told-program d g = rw (told-length n f e) (g (told-accepted n f e))

-- Text to program --------------------------------------------------------------------------------------------------------------------------

module _ (options : Options) (text lent : List ℕ) where
  read_by : {c : Checked} → first (read_text_checks options text lent) ≡ c
      → read_text_call options text lent ≡ writing c (text_program text) (length (text_program text)) 0 lent
  unfolding read_text_call
  read_by e = ap (λ (c : Checked). writing c (text_program text) (length (text_program text)) 0 lent) e

  -- a table that is refused comes first
  pub read-no-table : (r : Refusal) → given_check options ≡ Err r
      → read_text_call options text lent ≡ writing (Err r) (text_program text) (length (text_program text)) 0 lent
  read-no-table r e = read_by (rw e refl)

  module _ (a : given_check options ≡ Accepted) where
    abbrev after : List Checked
    after = check_of options (text_program text) ∷ short (length lent) (length (text_program text)) ∷ []

    behind-table : first (read_text_checks options text lent) ≡ first (text_checks text ++ after)
    behind-table = ap (λ (c : Checked). first (c ∷ text_checks text ++ after)) a

    pub read-refused : (r : Refusal) → first (parse_checks text) ≡ Err r
        → read_text_call options text lent ≡ writing (Err r) (text_program text) (length (text_program text)) 0 lent
    read-refused r e =
        read_by (behind-table ∙ parse-refuses text options r (short (length lent) (length (text_program text)) ∷ []) e)

    told-by-table : check_of options (text_program text) ≡ check_call options (text_program text)
    unfolding check_call
    told-by-table = first_one _ ∙ sym (ap (λ (c : Checked). first (c ∷ check_of options (text_program text) ∷ [])) a)

    pub read-given : first (parse_checks text) ≡ Accepted → read_text_call options text lent ≡ give_call options (text_program text) lent
    unfolding give_call
    read-given e =
        let room = short (length lent) (length (text_program text)) ∷ [] in
        read_by (behind-table ∙ first-append (text_checks text) after (parse-accepts text e) ∙ ap (λ (c : Checked). first (c ∷ room)) told-by-table)
