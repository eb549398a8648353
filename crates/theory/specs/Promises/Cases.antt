-- Every row of the paper's cases holds, by the rules and on the circuit: a full run and the reference run of an accepted program agree.
-- Assumes nothing.
use Rattle.std.specs.Prelude.{◌≡◌, refl, Bool, true, ◌&&◌, List, [], ◌∷◌, map, ℕ, zero, suc, ◌+◌, ◌*◌, ◌/◌, ◌%◌, ltb, length, replicate}
use Rattle.std.proofs.Common.{◌∙◌, ap, ap₂, arith, ltb-true, le-ltb}
use Rattle.model.specs.declared.Outcome.{Outcome}
use Rattle.model.specs.declared.Outcome.TheVariants.{Open}
use Rattle.model.specs.declared.Answer.{Answer}
use Rattle.model.specs.Word.{get16, get32, Bytes}
use Rattle.model.specs.Refusals.{refuse, Checked, Done}
use Rattle.model.specs.ProgramChecks.{program_with}
use Rattle.model.specs.NetlistFile.{blocks_for}
use Rattle.model.specs.Numbering.{netlist, finish}
use Rattle.model.specs.TimeTables.{load, defaults}
use Rattle.model.specs.Calls.{written_verdict, check_call, writing, compile_checks, compile_call, run_program_call, reference_call}
use Rattle.model.specs.Hubrun.{text_of, hubrun_text}
use Rattle.model.specs.Cases.{repeated, Case, ends, refuses, compiles, prints, passes, cases, start, hubrun_input, end_answer, Result, ran, numbered, printed, checked, computed, wanted, OnCircuit, Hold, cases-by-rules}
use Rattle.laws.specs.Refusals.Laws.{and-true, first-take}
use Rattle.laws.specs.NetlistFile.Files.{file-length}
use Rattle.theory.specs.Promises.Demands.{demand2}
use Rattle.theory.specs.Promises.Rooms.{compile-is, full-run-ended}

-- The rows -----------------------------------------------------------------------------------------------------------------------------

checked-of : Result → Checked
checked-of (ran c a) = c
checked-of (numbered c n f) = c
checked-of (printed c o text) = c
checked-of (checked c) = c

answer-of : Answer → Result → Answer
answer-of d (ran c a) = a
answer-of d (numbered c n f) = d
answer-of d (printed c o text) = d
answer-of d (checked c) = d

-- cells and finish
numbers_of : Result → ℕ × ℕ
numbers_of (ran c a) = (0, 0)
numbers_of (numbered c n f) = (n, f)
numbers_of (printed c o text) = (0, 0)
numbers_of (checked c) = (0, 0)

-- outcome and text
text-of : Result → Outcome × List ℕ
text-of (ran c a) = (Open, [])
text-of (numbered c n f) = (Open, [])
text-of (printed c o text) = (o, text)
text-of (checked c) = (Open, [])

bytes_only : List ℕ → Bool
bytes_only [] = true
bytes_only (x ∷ s) = ltb x 256 && bytes_only s

bytes_of : (s : List ℕ) → bytes_only s ≡ true → Bytes s
unfolding bytes_only
bytes_of [] e i = omega arith
bytes_of (x ∷ s) e zero = ltb-true x 256 (and-true (ltb x 256) (bytes_only s) e).0
bytes_of (x ∷ s) e (suc i) = bytes_of s (and-true (ltb x 256) (bytes_only s) e).1 i

-- a row whose numbers are in reach of the theorem: bytes, and a budget that is not refused
fair : Case → Bool
fair (ends p v n t w) = bytes_only p && ltb n 1000000
fair (refuses p k i) = true
fair (compiles p n f) = bytes_only p
fair (prints p v n text) = bytes_only p && ltb n 65536
fair (passes p) = bytes_only p

every_fair : List Case → Bool
every_fair [] = true
every_fair (c ∷ cs) = fair c && every_fair cs

all_fair : every_fair cases ≡ true
unfolding every_fair fair cases bytes_only repeated
all_fair = refl

-- what hubrun prints of a program's bytes behind 32 of words and a budget
hubrun-is : (p : List ℕ) (v n : ℕ)
    → hubrun_text (hubrun_input p v n) ≡ text_of (run_program_call defaults p (start v) n (replicate 6656 0) (replicate 41480 0)).answer
unfolding hubrun_text get32 get16
hubrun-is p v n =
    let e : n % 256 + 256 * (n / 256) + 65536 * (0 + 256 * 0) ≡ n = omega arith in
    rw (le-ltb (length (hubrun_input p v n)) 36 (omega arith), e)

on-circuit : (c : Case) → computed c ≡ wanted c → fair c ≡ true → OnCircuit c
unfolding computed wanted OnCircuit fair checked-of answer-of numbers_of text-of compile_call writing check_call written_verdict load
on-circuit (ends p v n t w) e g = λ for_file for_state f s.
    let b = and-true (bytes_only p) (ltb n 1000000) g in
    let r : reference_call defaults p (start v) n ≡ end_answer t w = ap (answer-of (end_answer t w)) e in
    full-run-ended defaults p (start v) for_file for_state n (bytes_of p b.0) (ap checked-of e) (omega arith) f s
    (omega (arith, ltb-true n 1000000 b.1)) (ap (λ (a : Answer). a.outcome) r) ∙ r
on-circuit (refuses p k i) e g = λ lent.
    let c : check_call defaults p ≡ refuse k i = ap checked-of e in
    rw (first-take 2 (compile_checks defaults p lent) c)
on-circuit (compiles p n f) e g = λ lent room.
    let y = bytes_of p g in
    let S = program_with defaults p in
    let cells : length (netlist S) ≡ n = ap (λ r. (numbers_of r).0) e in
    let end : finish S ≡ f = ap (λ r. (numbers_of r).1) e in
    let size = file-length 1 (netlist S) (finish S) ∙ ap (λ k. 512 * blocks_for k) cells in
    let told = compile-is defaults p y (ap checked-of e) lent room ∙ ap₂ Done size end in
    (told, ap length (demand2.compiled defaults p lent (512 * blocks_for n) f y told).cells ∙ cells)
on-circuit (prints p v n text) e g =
    let b = and-true (bytes_only p) (ltb n 65536) g in
    hubrun-is p v n
    ∙ ap text_of
    (full-run-ended defaults p (start v) (replicate 6656 0) (replicate 41480 0) n (bytes_of p b.0) (ap checked-of e) (omega arith) (omega arith) (omega arith)
    (omega (arith, ltb-true n 65536 b.1)) (ap (λ r. (text-of r).0) e))
    ∙ ap (λ r. (text-of r).1) e
on-circuit (passes p) e g = λ lent room. ap written_verdict (compile-is defaults p (bytes_of p g) (ap checked-of e) lent room)

-- equal rows of two lists
head-same : {A : Type 0} (x y : A) (xs ys : List A) → ◌≡◌ {A = List A} (x ∷ xs) (y ∷ ys) → x ≡ y
head-same {A} x y xs ys e = ap first_of e
  where
    first_of : List A → A
    first_of [] = x
    first_of (z ∷ zs) = z

tail-same : {A : Type 0} (x y : A) (xs ys : List A) → ◌≡◌ {A = List A} (x ∷ xs) (y ∷ ys) → xs ≡ ys
tail-same {A} x y xs ys e = ap rest_of e
  where
    rest_of : List A → List A
    rest_of [] = []
    rest_of (z ∷ zs) = zs

hold : (cs : List Case) → map computed cs ≡ map wanted cs → every_fair cs ≡ true → Hold cs
unfolding Hold every_fair
hold [] e g = tt
hold (c ∷ cs) e g =
    let b = and-true (fair c) (every_fair cs) g in
    let h = head-same (computed c) (wanted c) (map computed cs) (map wanted cs) e in
    (h, on-circuit c h b.0, hold cs (tail-same (computed c) (wanted c) (map computed cs) (map wanted cs) e) b.1)

pub cases-hold : Hold cases
cases-hold = hold cases cases-by-rules all_fair
