-- Programs as text: the words of a text (refusal 17), and the grammar as derivations of a statement from words (refusal 18).
-- "Spaces and line feeds separate words; letters and digits in a run make one word, and of signs the longest counts." Bytes are written as the
-- characters that they are: `code` of one, `ascii` of a word. Assumes nothing: definitions.
use Rattle.std.specs.Prelude.{Bool, true, false, ◌&&◌, ◌||◌, not, List, [], ◌∷◌, ◌++◌, map, ℕ, zero, suc, ◌+◌, ◌-◌, ◌*◌, ◌<◌, ◌≤◌, eqb, leb, length, get_or, take, drop}
use Prim.Native.Char.{code}
use Rattle.model.specs.declared.texts.Token.{Token}
use Rattle.model.specs.Word.{pick}
use Rattle.model.specs.Ascii.{ascii}
use Rattle.model.specs.Refusals.{refuse, Checked, Accepted}
use Rattle.model.specs.Program.{Expr, const, var, compl, op, Code, ok, tick, assign, seq, par, ite, while, repeat}

-- Tokens -------------------------------------------------------------------------------------------------------------------------------

-- A token's code is the kind of the node that it stands for, where it has one; its value is the number of a numeral or of a name.
abbrev pub token : ℕ → ℕ → Token
token c v = record { code = c; value = v }

abbrev pub numeral : ℕ → Token
numeral n = token 1 n

abbrev pub name : ℕ → Token
name x = token 2 x

-- a token with no value: of the signs ! + - & | = <, which are 3 to 9, of ok 16, tick 17, := 18, ; 19, || 20, if 21, while 22, repeat 23,
-- and of those that have no node of their own
abbrev pub sign : ℕ → Token
sign c = token c 0

abbrev pub c_then : ℕ
c_then = 32

abbrev pub c_else : ℕ
c_else = 33

abbrev pub c_do : ℕ
c_do = 34

abbrev pub c_until : ℕ
c_until = 35

abbrev pub c_end : ℕ
c_end = 36

abbrev pub c_at : ℕ
c_at = 37

-- ( ) { }
abbrev pub c_open : ℕ
c_open = 38

abbrev pub c_close : ℕ
c_close = 39

abbrev pub c_left : ℕ
c_left = 40

abbrev pub c_right : ℕ
c_right = 41

-- Words --------------------------------------------------------------------------------------------------------------------------------

unfoldable pub blank : ℕ → Bool
blank c = eqb c (code " ") || eqb c (code "\n")

unfoldable pub digit : ℕ → Bool
digit c = leb (code "0") c && leb c (code "9")

unfoldable pub letter : ℕ → Bool
letter c = (leb (code "A") c && leb c (code "Z")) || (leb (code "a") c && leb c (code "z"))

-- "letters and digits in a run make one word": how many bytes at the front of s are such
unfoldable pub run_length : List ℕ → ℕ
run_length [] = 0
run_length (c ∷ s) = elim (letter c || digit c) [ true ↦ suc (run_length s) | false ↦ 0 ]

-- "decimal without leading zeros", not above a limit; no limit has more than five digits
unfoldable pub all_digits : List ℕ → Bool
all_digits [] = true
all_digits (c ∷ s) = digit c && all_digits s

unfoldable pub value_from : ℕ → List ℕ → ℕ
value_from v [] = v
value_from v (c ∷ s) = value_from (10 * v + (c - code "0")) s

unfoldable pub is_number : ℕ → List ℕ → Bool
is_number limit w =
    (leb 1 (length w) && leb (length w) 5)
    && (all_digits w && ((eqb (length w) 1 || not (eqb (get_or w 0 0) (code "0"))) && leb (value_from 0 w) limit))

-- "xk", k from 0 to 15
unfoldable pub is_name : List ℕ → Bool
is_name w = eqb (get_or w 0 0) (code "x") && is_number 15 (drop 1 w)

unfoldable pub same : List ℕ → List ℕ → Bool
same [] [] = true
same [] (d ∷ t) = false
same (c ∷ s) [] = false
same (c ∷ s) (d ∷ t) = eqb c d && same s t

-- the code of a word of letters, 0 for one that is "outside these"
unfoldable pub word_code : List ℕ → ℕ
word_code w =
    pick (same w (ascii "ok")) 16
    (pick (same w (ascii "tick")) 17
    (pick (same w (ascii "if")) 21
    (pick (same w (ascii "while")) 22
    (pick (same w (ascii "repeat")) 23
    (pick (same w (ascii "then")) c_then
    (pick (same w (ascii "else")) c_else
    (pick (same w (ascii "do")) c_do
    (pick (same w (ascii "until")) c_until
    (pick (same w (ascii "end")) c_end 0)))))))))

-- "of signs the longest counts": := and || are the signs of two characters
unfoldable pub two_code : ℕ → ℕ → ℕ
two_code c d =
    pick (eqb c (code ":") && eqb d (code "=")) 18
    (pick (eqb c (code "|") && eqb d (code "|")) 20 0)

unfoldable pub one_code : ℕ → ℕ
one_code c =
    pick (eqb c (code "!")) 3
    (pick (eqb c (code "+")) 4
    (pick (eqb c (code "-")) 5
    (pick (eqb c (code "&")) 6
    (pick (eqb c (code "|")) 7
    (pick (eqb c (code "=")) 8
    (pick (eqb c (code "<")) 9
    (pick (eqb c (code ";")) 19
    (pick (eqb c (code "@")) c_at
    (pick (eqb c (code "(")) c_open
    (pick (eqb c (code ")")) c_close
    (pick (eqb c (code "{")) c_left
    (pick (eqb c (code "}")) c_right 0))))))))))))

-- "to 65,535, right after `@` or `tick` to 255": after a token of code p
unfoldable pub limit_after : ℕ → ℕ
limit_after p = pick (eqb p c_at || eqb p 17) 255 65535

-- the token of a run of letters and digits
unfoldable pub run_token : ℕ → List ℕ → Token
run_token p w =
    pick (is_number (limit_after p) w) (numeral (value_from 0 w))
    (pick (is_name w) (name (value_from 0 (drop 1 w)))
    (sign (word_code w)))

-- the token at the front of s, which begins with no blank, and how many bytes it has
unfoldable pub token_at : ℕ → List ℕ → Token
token_at p s =
    pick (eqb (run_length s) 0)
    (pick (eqb (two_code (get_or s 0 0) (get_or s 1 0)) 0)
    (sign (one_code (get_or s 0 0)))
    (sign (two_code (get_or s 0 0) (get_or s 1 0))))
    (run_token p (take (run_length s) s))

unfoldable pub size_at : List ℕ → ℕ
size_at s =
    pick (eqb (run_length s) 0)
    (pick (eqb (two_code (get_or s 0 0) (get_or s 1 0)) 0) 1 2)
    (run_length s)

-- a token, and the place of its first byte
pub record Lexeme : Type 0 where
  pub token : Token
  pub place : ℕ

abbrev pub lexeme : Token → ℕ → Lexeme
lexeme t i = record { token = t; place = i }

-- the words of bytes that begin at place i, after a token of code p; the first `skip` bytes belong to that token
unfoldable pub words_from : ℕ → ℕ → ℕ → List ℕ → List Lexeme
words_from skip p i [] = []
words_from (suc skip) p i (c ∷ s) = words_from skip p (i + 1) s
words_from zero p i (c ∷ s) =
    let t = token_at p (c ∷ s) in
    elim (blank c) [
      | true ↦ words_from 0 p (i + 1) s
      | false ↦ lexeme t i ∷ words_from (size_at (c ∷ s) - 1) t.code (i + 1) s
    ]

abbrev pub words_of : List ℕ → List Lexeme
words_of text = words_from 0 0 0 text

abbrev pub tokens : List Lexeme → List Token
tokens ws = map (λ w. w.token) ws

-- "a word or character outside these, x16 or a number above its limit too, place its first byte"
unfoldable pub outside : List Lexeme → Checked
outside [] = Accepted
outside (w ∷ ws) = pick (eqb w.token.code 0) (refuse 17 w.place) (outside ws)

-- The grammar --------------------------------------------------------------------------------------------------------------------------

-- k is an operator that groups to the left at this level: "+ and - to the left", "then &, then |, both to the left"
pub data Left : ℕ → ℕ → Type 0 where
  sum : Left 3 4
  difference : Left 3 5
  and : Left 1 6
  or : Left 0 7

pub data Comparison : ℕ → Type 0 where
  equal : Comparison 8
  less : Comparison 9

-- The tokens are an expression of a level: 4 has !, a number, a name or parentheses; 3 also + and -; 2 also one = or <; 1 also &; 0 also |.
pub data IsExpr : ℕ → List Token → Expr → Type 0 where
  number : (n : ℕ) → IsExpr 4 (numeral n ∷ []) (const n)
  variable : (x : ℕ) → IsExpr 4 (name x ∷ []) (var x)
  -- "parentheses group"
  parens : {ts : List Token} {e : Expr} → IsExpr 0 ts e → IsExpr 4 (sign c_open ∷ (ts ++ (sign c_close ∷ []))) e
  -- "`!` (complement) binds tightest"
  complement : {ts : List Token} {e : Expr} → IsExpr 4 ts e → IsExpr 4 (sign 3 ∷ ts) (compl e)
  left : {l k : ℕ} {ts us : List Token} {e f : Expr} → Left l k → IsExpr l ts e → IsExpr (suc l) us f
      → IsExpr l (ts ++ (sign k ∷ us)) (op k e f)
  -- "then one = or < that doesn't chain"
  compare : {k : ℕ} {ts us : List Token} {e f : Expr} → Comparison k → IsExpr 3 ts e → IsExpr 3 us f
      → IsExpr 2 (ts ++ (sign k ∷ us)) (op k e f)
  up : {l : ℕ} {ts : List Token} {e : Expr} → IsExpr (suc l) ts e → IsExpr l ts e

-- e @n
abbrev pub timed : List Token → ℕ → List Token → List Token
timed ts d rest = ts ++ (sign c_at ∷ (numeral d ∷ rest))

-- The tokens are a statement of a level: 2 is one statement or braces; 1 also ;; 0 also ||. "Statements are `ok`, `tick n`, `xk := e @n`,
-- `if e @n then S else S end`, `while e @n do S end`, `repeat S until e @n end`".
pub data IsStmt : ℕ → List Token → Code → Type 0 where
  skip : IsStmt 2 (sign 16 ∷ []) ok
  ticks : (d : ℕ) → IsStmt 2 (sign 17 ∷ (numeral d ∷ [])) (tick d)
  becomes : (d x : ℕ) {ts : List Token} {e : Expr} → IsExpr 0 ts e → IsStmt 2 (name x ∷ (sign 18 ∷ timed ts d [])) (assign d x e)
  ifs : (d : ℕ) {ts us vs : List Token} {e : Expr} {P Q : Code} → IsExpr 0 ts e → IsStmt 0 us P → IsStmt 0 vs Q
      → IsStmt 2 (sign 21 ∷ timed ts d (sign c_then ∷ (us ++ (sign c_else ∷ (vs ++ (sign c_end ∷ [])))))) (ite d e P Q)
  whiles : (d : ℕ) {ts us : List Token} {e : Expr} {P : Code} → IsExpr 0 ts e → IsStmt 0 us P
      → IsStmt 2 (sign 22 ∷ timed ts d (sign c_do ∷ (us ++ (sign c_end ∷ [])))) (while d e P)
  repeats : (d : ℕ) {ts us : List Token} {e : Expr} {P : Code} → IsStmt 0 us P → IsExpr 0 ts e
      → IsStmt 2 (sign 23 ∷ (us ++ (sign c_until ∷ timed ts d (sign c_end ∷ [])))) (repeat d e P)
  -- "braces group"
  braces : {ts : List Token} {P : Code} → IsStmt 0 ts P → IsStmt 2 (sign c_left ∷ (ts ++ (sign c_right ∷ []))) P
  -- "`;` binds tighter than `||`, and both group to the right"
  sequence : {ts us : List Token} {P Q : Code} → IsStmt 2 ts P → IsStmt 1 us Q → IsStmt 1 (ts ++ (sign 19 ∷ us)) (seq P Q)
  parallel : {ts us : List Token} {P Q : Code} → IsStmt 1 ts P → IsStmt 0 us Q → IsStmt 0 (ts ++ (sign 20 ∷ us)) (par P Q)
  up : {l : ℕ} {ts : List Token} {P : Code} → IsStmt (suc l) ts P → IsStmt l ts P

-- the tokens are a text of the language, whose program is P
abbrev pub Means : List Token → Code → Type 0
Means ts P = IsStmt 0 ts P

-- Where the grammar is broken ----------------------------------------------------------------------------------------------------------

-- some continuation fits
abbrev pub Begins : List Token → Type 0
Begins ts = (us : List Token) × (P : Code) × Means (ts ++ us) P

-- "the first byte of the word where no continuation fits, or the length", as the number of a word, or how many there are
pub record BreaksAt (ts : List Token) (i : ℕ) : Type 0 where
  pub before : Begins (take i ts)
  pub within : i ≤ length ts
  pub here : i < length ts → Begins (take (suc i) ts) → ⊥
  pub none : (P : Code) → Means ts P → ⊥
