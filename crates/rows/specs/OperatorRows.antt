-- Operators, worked out by hand from the papers: what each gives on words at the edges, how long nested ones take, and the least delay of every
-- kind of statement around them; and to which word an index leads, and to which variable a word belongs. Circuit and rules use the same ones, and
-- so leave them free.
-- Assumes nothing.
use Rattle.std.specs.Prelude.{◌≡◌, refl, List, [], ◌∷◌, map, ℕ}
use Rattle.model.specs.Word.{bit, biased, operate, element_word}
use Rattle.model.specs.Program.{Expr, const, var, compl, op, elem, Code, ok, tick, assign, assign_elem, seq, par, ite, while, repeat, loop, exit, time, gap, least, built_in_times, time_in}
use Rattle.model.specs.Rules.{owner}

-- an operator's kind, its two words, and what it gives
results : List (ℕ × ℕ × ℕ × ℕ)
results =
    -- complement of all bits, with no use for a second word
    (3, 0, 0, 65535)
    ∷ (3, 65535, 0, 0)
    ∷ (3, 1, 0, 65534)
    ∷ (3, 32767, 0, 32768)
    ∷ (3, 0x0f0f, 0x1234, 0xf0f0)
    -- sum
    ∷ (4, 0, 0, 0)
    ∷ (4, 255, 1, 256)
    ∷ (4, 32767, 1, 32768)
    ∷ (4, 65534, 1, 65535)
    ∷ (4, 65535, 1, 0)
    ∷ (4, 32768, 32768, 0)
    ∷ (4, 65535, 65535, 65534)
    -- difference
    ∷ (5, 7, 7, 0)
    ∷ (5, 65535, 0, 65535)
    ∷ (5, 256, 1, 255)
    ∷ (5, 32768, 1, 32767)
    ∷ (5, 0, 1, 65535)
    ∷ (5, 0, 65535, 1)
    ∷ (5, 32767, 32768, 65535)
    -- bitwise and
    ∷ (6, 65535, 0, 0)
    ∷ (6, 65535, 65535, 65535)
    ∷ (6, 65535, 32768, 32768)
    ∷ (6, 0xff00, 0x0ff0, 0x0f00)
    ∷ (6, 0x5555, 0xaaaa, 0)
    -- bitwise or
    ∷ (7, 0, 0, 0)
    ∷ (7, 65535, 0, 65535)
    ∷ (7, 32768, 1, 32769)
    ∷ (7, 0xff00, 0x0ff0, 0xfff0)
    ∷ (7, 0x5555, 0xaaaa, 65535)
    -- equal: all sixteen bits count
    ∷ (8, 0, 0, 1)
    ∷ (8, 65535, 65535, 1)
    ∷ (8, 0, 65535, 0)
    ∷ (8, 32767, 32768, 0)
    ∷ (8, 1, 257, 0)
    -- less: 65535 is −1, 32768 is −32768. "−1 < 0 is 1, and 32,767 < −32,768 is 0"
    ∷ (9, 65535, 0, 1)
    ∷ (9, 32767, 32768, 0)
    ∷ (9, 0, 65535, 0)
    ∷ (9, 32768, 32767, 1)
    ∷ (9, 32768, 65535, 1)
    ∷ (9, 65535, 32768, 0)
    ∷ (9, 0, 1, 1)
    ∷ (9, 1, 0, 0)
    ∷ (9, 32766, 32767, 1)
    ∷ (9, 0, 0, 0)
    ∷ (9, 32768, 32768, 0)
    ∷ []

results-right : map (λ r. operate r.0 r.1 r.2) results ≡ map (λ r. r.3) results
unfolding results operate biased bit
results-right = refl

-- an array, an index, and the element's word: 16 + 64 k + the low six bits of the index
element_words : List (ℕ × ℕ × ℕ)
element_words = (0, 0, 16) ∷ (0, 63, 79) ∷ (0, 64, 16) ∷ (1, 67, 83) ∷ (2, 127, 207) ∷ (3, 65535, 271) ∷ []

words_right : map (λ r. element_word r.0 r.1) element_words ≡ map (λ r. r.2) element_words
unfolding element_words element_word
words_right = refl

-- a word, and the variable that it belongs to: arrays are variables 16 to 19
owners : List (ℕ × ℕ)
owners = (0, 0) ∷ (15, 15) ∷ (16, 16) ∷ (79, 16) ∷ (80, 17) ∷ (207, 18) ∷ (208, 19) ∷ (271, 19) ∷ []

owners-right : map (λ r. owner r.0) owners ≡ map (λ r. r.1) owners
unfolding owners owner
owners-right = refl

-- x0 + 1 < !x1: less takes 17 after plus's 16, which is the larger beside complement's 1
abbrev nested : Expr
nested = op 9 (op 4 (var 0) (const 1)) (compl (var 1))

-- an expression, and its time: 0 for a constant and a variable; 1 for !, & and |, 16 for +, 17 for - and <, 6 for =, 4 for an element
expression_times : List (Expr × ℕ)
expression_times =
    (const 7, 0)
    ∷ (var 0, 0)
    ∷ (compl (var 0), 1)
    ∷ (op 4 (var 0) (const 1), 16)
    ∷ (op 5 (var 0) (const 1), 17)
    ∷ (op 6 (var 0) (const 1), 1)
    ∷ (op 7 (var 0) (const 1), 1)
    ∷ (op 8 (var 0) (const 1), 6)
    ∷ (op 9 (var 0) (const 1), 17)
    ∷ (compl (compl (var 0)), 2)
    -- 6 after the larger of 17 and 1
    ∷ (op 8 (op 5 (var 0) (const 1)) (op 6 (var 1) (const 3)), 23)
    ∷ (nested, 33)
    -- the larger child may be the second
    ∷ (op 7 (const 1) nested, 34)
    -- an element is 4 after its index
    ∷ (elem 3 (const 70), 4)
    ∷ (elem 0 (elem 0 (var 0)), 8)
    ∷ (op 5 (elem 1 nested) (const 1), 54)
    ∷ []

times-right : map (λ r. time (time_in built_in_times) r.0) expression_times ≡ map (λ r. r.1) expression_times
unfolding expression_times time built_in_times
times-right = refl

-- a statement, and its least delay: "at least its expression's time, and at least 1 for kinds 17, 18, 22 and 23. If may have 0." "An element's
-- delay covers both children's times and is at least 1." "loop P (kind 25) with a delay of at least 1"
least_delays : List (Code × ℕ)
least_delays =
    (ok, 0)
    ∷ (tick 0, 1)
    ∷ (assign 0 0 (const 7), 1)
    ∷ (assign 0 0 nested, 33)
    ∷ (assign_elem 0 2 (var 0) (const 7), 1)
    ∷ (assign_elem 0 2 nested (const 7), 33)
    ∷ (assign_elem 0 2 (const 7) nested, 33)
    ∷ (assign_elem 0 2 (elem 1 (var 0)) (op 8 (var 0) (const 1)), 6)
    ∷ (seq (tick 3) (tick 4), 0)
    ∷ (par (tick 3) (tick 4), 0)
    ∷ (ite 0 (var 0) ok ok, 0)
    ∷ (ite 0 nested ok ok, 33)
    ∷ (while 0 (var 0) ok, 1)
    ∷ (while 0 nested ok, 33)
    ∷ (repeat 0 (var 0) ok, 1)
    ∷ (repeat 0 nested ok, 33)
    ∷ (loop 0 (tick 3), 1)
    ∷ (exit, 0)
    ∷ []

delays-right : map (λ r. least (time_in built_in_times) 1 r.0) least_delays ≡ map (λ r. r.1) least_delays
unfolding least_delays time gap least built_in_times
delays-right = refl
