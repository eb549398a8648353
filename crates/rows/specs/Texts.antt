-- Texts written by hand, with the statement that each is, or with its refusal: every kind of statement and operator, groupings, limits of
-- numbers, and places. Then what hubrun prints and hubtext writes. Rows of tables, computed; `ascii` turns a quoted text into its bytes.
-- Assumes nothing.
use Rattle.std.specs.Prelude.{◌≡◌, refl, List, [], ◌∷◌, ◌++◌, map, ℕ, replicate, Err, Result}
use Prim.Native.Char.{code}
use Prim.Native.String.{String}
use Rattle.model.specs.declared.Outcome.TheVariants.{Ended, Open}
use Rattle.model.specs.declared.Refusal.{Refusal}
use Rattle.model.specs.declared.Written.{Written}
use Rattle.model.specs.declared.Answer.{Answer}
use Rattle.model.specs.Refusals.{refuse, first, Checked, Accepted, Done}
use Rattle.model.specs.Program.{const, var, compl, op, Code, ok, tick, assign, seq, par, ite, while, repeat, preorder_e, preorder}
use Rattle.model.specs.Ascii.{ascii}
use Rattle.model.specs.Text.{blank, digit, letter, run_length, all_digits, value_from, is_number, is_name, same, word_code, two_code, one_code, limit_after, run_token, token_at, size_at, words_from, outside}
use Rattle.model.specs.Reader.{Reading, good, hold_of, reach_of, pop, top_code, top_start, leaf, opened, opened_node, between, closed, turned, reduced, with_delay, on_statement, on_operand, on_after_operand, on_after_statement, on_delay, on_body, step_of, is_broken, complete, read_from}
use Rattle.model.specs.TimeTables.{defaults}
use Rattle.model.specs.Calls.{writing, refused_answer}
use Rattle.model.specs.Hubrun.{digits, line, lines_of, text_of, hubrun_text}
use Rattle.model.specs.TextCalls.{reading_of, broken_at, bytes_read, text_checks, read_text_call}
use Rattle.model.specs.Hubtext.{written, hubtext_output}
use Rattle.model.specs.Cases.{check_of_program}

-- whoever unfolds this unfolds all that a text is read by
unfoldable reading_of_text : String → Reading
unfolding blank digit letter run_length all_digits value_from is_number is_name same word_code two_code one_code limit_after run_token token_at size_at words_from hold_of reach_of pop top_code top_start leaf opened opened_node between closed turned reduced with_delay on_statement on_operand on_after_operand on_after_statement on_delay on_body step_of is_broken complete read_from reading_of preorder_e preorder
reading_of_text t = reading_of (ascii t)

-- a text, and the statement that it is read as
readings : List (String × Code)
readings =
    ("ok", ok)
    ∷ ("x0 := x0+3 @16; x0:=x0 +4@16", seq (assign 16 0 (op 4 (var 0) (const 3))) (assign 16 0 (op 4 (var 0) (const 4))))
    ∷ ("repeat x0 := x0-1 @17 until x0 = 0 @6 end", repeat 6 (op 8 (var 0) (const 0)) (assign 17 0 (op 5 (var 0) (const 1))))
    ∷ (
      "if x0 @0 then tick 1 else tick 9 end || ok ; {ok || tick 255}; ok",
      par (ite 0 (var 0) (tick 1) (tick 9)) (seq ok (seq (par ok (tick 255)) ok)),
    )
    ∷ (
      "x15 := !x1 - 2 + (3 | 4 & !!5 < 6 + 7) = 8 & 9 | 65535 @200",
      assign 200 15
          (op 7
          (op 6
          (op 8
          (op 4 (op 5 (compl (var 1)) (const 2)) (op 7 (const 3) (op 6 (const 4) (op 9 (compl (compl (const 5))) (op 4 (const 6) (const 7))))))
          (const 8))
          (const 9))
          (const 65535)),
    )
    ∷ (
      "repeat ok; tick 2 until 1 | 2 @1 end; while 1 @1 do repeat ok until 2 + 3 + 4@ 3 end end",
      seq (repeat 1 (op 7 (const 1) (const 2)) (seq ok (tick 2))) (while 1 (const 1) (repeat 3 (op 4 (op 4 (const 2) (const 3)) (const 4)) ok)),
    )
    ∷ ("tick 1; tick 2 || tick 3; tick 4", par (seq (tick 1) (tick 2)) (seq (tick 3) (tick 4)))
    ∷ ("ok || ok || ok", par ok (par ok ok))
    ∷ ("ok; ok; ok", seq ok (seq ok ok))
    ∷ ("ok;\n{ok; ok}; ok", seq ok (seq (seq ok ok) ok))
    ∷ ("x0 := 1 & 2 & 3 @3", assign 3 0 (op 6 (op 6 (const 1) (const 2)) (const 3)))
    ∷ ("x0 := 1 | 2 | 3 @3", assign 3 0 (op 7 (op 7 (const 1) (const 2)) (const 3)))
    ∷ ("x0 := 3 - 2 - 1 @34", assign 34 0 (op 5 (op 5 (const 3) (const 2)) (const 1)))
    ∷ ("x0 := !1 + 2 @17", assign 17 0 (op 4 (compl (const 1)) (const 2)))
    ∷ []

readings-right : map (λ r. reading_of (ascii r.0)) readings ≡ map (λ r. good (preorder r.1)) readings
unfolding readings reading_of_text
readings-right = refl

-- a text, and the first of refusals 17 and 18
refusals : List (String × Checked)
refusals =
    ("tick 255", Accepted)
    ∷ ("tick 256", refuse 17 5)
    ∷ ("tick 01", refuse 17 5)
    ∷ ("x15 := 65535 @255", Accepted)
    ∷ ("x16 := 0 @1", refuse 17 0)
    ∷ ("x01 := 0 @1", refuse 17 0)
    ∷ ("x0 := 65536 @1", refuse 17 6)
    ∷ ("x0 := 256 @1", Accepted)
    ∷ ("x0 := 1 @256", refuse 17 9)
    ∷ ("x0 := 1 @00", refuse 17 9)
    ∷ ("ok # ok", refuse 17 3)
    ∷ ("ok; skip", refuse 17 4)
    ∷ ("tick1", refuse 17 0)
    -- a run is one word, whatever it begins with; capitals are letters, and no words of ours; a tab, an underscore and what isn't ASCII are outside
    ∷ ("tickA 1", refuse 17 0)
    ∷ ("OK", refuse 17 0)
    ∷ ("x0 := 1x @1", refuse 17 6)
    ∷ ("ok_1", refuse 17 2)
    ∷ ("x0 : = 1 @1", refuse 17 3)
    ∷ ("ok end", refuse 18 3)
    ∷ ("end x16", refuse 17 4)
    ∷ ("x0 := 1 = 2 < 3 @1", refuse 18 12)
    ∷ ("x0 := 1 = 2 + 3 = 3 @1", refuse 18 16)
    ∷ ("ok ; ", refuse 18 5)
    ∷ ("", refuse 18 0)
    ∷ ("x0 := (1 @1", refuse 18 9)
    ∷ ("{ok", refuse 18 3)
    ∷ ("repeat ok until 1 @1 do", refuse 18 21)
    ∷ []

refusals-right : map (λ r. first (text_checks (ascii r.0))) refusals ≡ map (λ r. r.1) refusals
unfolding refusals reading_of_text outside broken_at
refusals-right = refl

-- the same of texts by their bytes: a tab, which separates nothing, and a byte above 127
bytes-right : map (λ s. first (text_checks s)) ((ascii "ok;" ++ (9 ∷ ascii "ok")) ∷ (ascii "ok " ++ (195 ∷ 182 ∷ [])) ∷ []) ≡ refuse 17 3 ∷ refuse 17 3 ∷ []
unfolding reading_of_text outside broken_at
bytes-right = refl

-- "17: longer, place 4,096"; as long as it may be, blanks alone are no statement: 18, at the length
long-right : map (λ n. first (text_checks (replicate n (code " ")))) (4096 ∷ 4097 ∷ []) ≡ refuse 18 4096 ∷ refuse 17 4096 ∷ []
unfolding reading_of_text outside broken_at
long-right = refl

-- an answer, and what hubrun prints of it; the paper's own example is a row of Cases
answers : List (Answer × String)
answers =
    (record { outcome = Ended; instant = 0; count = 1; words = replicate 15 0 ++ (65535 ∷ []) }, "end 0\n0 0 0 0 0 0 0 0 0 0 0 0 0 0 0 65535\n")
    ∷ (record { outcome = Open; instant = 1000000; count = 7; words = replicate 16 10 }, "open 1000000\n10 10 10 10 10 10 10 10 10 10 10 10 10 10 10 10\n")
    ∷ (refused_answer (record { number = 12; place = 84 }), "refused 12 84\n")
    ∷ []

answers-right : map (λ r. text_of r.0) answers ≡ map (λ r. ascii r.1) answers
unfolding answers digits line lines_of
answers-right = refl

-- "Input under 36 bytes is refusal 1, place 0."
short-right : hubrun_text (replicate 35 0) ≡ ascii "refused 1 0\n"
unfolding hubrun_text digits line lines_of
short-right = refl

-- a text, and the bytes that hubtext writes for it: the program, or a line
outputs : List (String × List ℕ)
outputs =
    ("ok; tick 3", 19 ∷ 0 ∷ 0 ∷ 0 ∷ 16 ∷ 0 ∷ 0 ∷ 0 ∷ 17 ∷ 3 ∷ 0 ∷ 0 ∷ [])
    ∷ ("x2 := 513 @7", 18 ∷ 7 ∷ 2 ∷ 0 ∷ 1 ∷ 0 ∷ 1 ∷ 2 ∷ [])
    ∷ ("ok; x16 := 0 @1", ascii "refused 17 4\n")
    ∷ ("ok; tick 0", ascii "refused 7 2\n")
    ∷ []

-- reading the first of them: its twelve bytes want twelve
rooms : List (ℕ × Result Written Refusal × List ℕ)
rooms =
    (12, Done 12 0, 19 ∷ 0 ∷ 0 ∷ 0 ∷ 16 ∷ 0 ∷ 0 ∷ 0 ∷ 17 ∷ 3 ∷ 0 ∷ 0 ∷ [])
    ∷ (11, Err (record { number = 14; place = 0 }), replicate 11 7)
    ∷ []

rooms-right : map (λ r. read_text_call defaults (ascii "ok; tick 3") (replicate r.0 7)) rooms ≡ map (λ r. record { answer = r.1; lent = r.2 }) rooms
unfolding rooms reading_of_text outside broken_at check_of_program bytes_read writing read_text_call
rooms-right = refl

outputs-right : map (λ r. hubtext_output (ascii r.0)) outputs ≡ map (λ r. r.1) outputs
unfolding outputs reading_of_text outside broken_at check_of_program bytes_read writing read_text_call written hubtext_output digits line
outputs-right = refl
