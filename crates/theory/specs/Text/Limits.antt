-- The numbers of a text keep their limits, right after `@` and `tick` 255: so the nodes of its reading fit into bytes.
-- Assumes nothing.
use Rattle.std.specs.Prelude.{◌||◌, List, [], ◌∷◌, ◌++◌, ℕ, zero, suc, ◌+◌, ◌-◌, ◌≤◌, ◌<◌, eqb, get_or, take, drop}
use Rattle.std.proofs.Common.{arith}
use Rattle.model.specs.declared.Node.{Node}
use Rattle.model.specs.declared.texts.Token.{Token}
use Rattle.model.specs.Word.{bytes16, Bytes}
use Rattle.model.specs.Program.{Expr, Code, node, node_bytes, preorder_e, preorder}
use Rattle.model.specs.Text.{c_then, c_else, c_do, c_until, c_at, c_open, c_left, blank, run_length, is_number, is_name, limit_after, two_code, run_token, token_at, size_at, words_from, tokens, timed, Left, sum, difference, and, or, Comparison, equal, less, IsExpr, number, variable, parens, complement, left, compare, IsStmt, ticks, becomes, ifs, whiles, repeats, braces, sequence, parallel, Means, words_of}
use Rattle.laws.specs.Refusals.Laws.{by_bool, and-true}
use Rattle.laws.specs.Program.Trees.{by-pick}
use Rattle.theory.specs.Text.Numerals.{number-known}

-- Tokens -------------------------------------------------------------------------------------------------------------------------------

-- no value is above the limit that the token before it sets; the first stands after a token of code p
abbrev Limited : ℕ → List Token → Type 0
Limited p [] = Unit {0}
Limited p (t ∷ ts) = (t.value ≤ limit_after p) × Limited t.code ts

limited-parts : (p : ℕ) (ts us : List Token) → Limited p (ts ++ us) → Limited p ts × (q : ℕ) × Limited q us
limited-parts p [] us h = (tt, p, h)
limited-parts p (t ∷ ts) us h =
    let f = limited-parts t.code ts us h.1 in
    ((h.0, f.0), f.1, f.2)

limited-timed : (p : ℕ) (ts : List Token) (d : ℕ) (rest : List Token) → Limited p (timed ts d rest) → Limited p ts × (d < 256) × Limited 1 rest
unfolding limit_after
limited-timed p ts d rest h =
    let f = limited-parts p ts _ h in
    (f.0, omega (arith, f.2.1.0), f.2.1.1)

limits : (p : ℕ) → (15 ≤ limit_after p) × (limit_after p ≤ 65535)
unfolding limit_after
limits p = by-pick (λ (n : ℕ). (15 ≤ n) × (n ≤ 65535)) (eqb p c_at || eqb p 17) 255 65535 (omega arith, omega arith) (omega arith, omega arith)

run-limited : (p : ℕ) (w : List ℕ) → (run_token p w).value ≤ limit_after p
unfolding run_token is_name
run-limited p w =
    by_bool (is_number (limit_after p) w) (λ e. rw e (number-known (limit_after p) w e).small)
    (λ e. rw e
    (by_bool (is_name w)
    (λ f. rw f (omega (arith, (number-known _ (drop 1 w) (and-true (eqb (get_or w 0 0) 120) _ f).1).small, limits p)))
    (λ f. rw f (omega arith))))

token-limited : (p : ℕ) (s : List ℕ) → (token_at p s).value ≤ limit_after p
unfolding token_at
token-limited p s =
    let R : Token → Type 0 = λ t. t.value ≤ limit_after p in
    by-pick R (eqb (run_length s) 0) _ _
    (by-pick R (eqb (two_code (get_or s 0 0) (get_or s 1 0)) 0) _ _ (omega arith) (omega arith))
    (run-limited p (take (run_length s) s))

words-limited : (skip p i : ℕ) (s : List ℕ) → Limited p (tokens (words_from skip p i s))
unfolding words_from
words-limited skip p i [] = tt
words-limited (suc skip) p i (c ∷ s) = words-limited skip p (i + 1) s
words-limited zero p i (c ∷ s) =
    let t = token_at p (c ∷ s) in
    let blanks = words-limited 0 p (i + 1) s in
    let others = words-limited (size_at (c ∷ s) - 1) t.code (i + 1) s in
    by_bool (blank c) (λ e. rw (e, words_from) blanks) (λ e. rw (e, words_from) (token-limited p (c ∷ s), others))

-- Nodes --------------------------------------------------------------------------------------------------------------------------------

-- each field has room in the four bytes of its node
data Fit : List Node → Type 0 where
  none : Fit []
  more : (k d n : ℕ) {ns : List Node} → k < 256 → d < 256 → n < 65536 → Fit ns → Fit (node k d n ∷ ns)

fit_append : {ns ms : List Node} → Fit ns → Fit ms → Fit (ns ++ ms)
fit_append none g = g
fit_append (more k d n x y z f) g = more k d n x y z (fit_append f g)

fit-bytes : {ns : List Node} → Fit ns → Bytes (node_bytes ns)
unfolding node_bytes bytes16
fit-bytes none i = omega arith
fit-bytes (more k d n x y z f) zero = x
fit-bytes (more k d n x y z f) (suc zero) = y
fit-bytes (more k d n x y z f) (suc (suc zero)) = omega arith
fit-bytes (more k d n x y z f) (suc (suc (suc zero))) = omega arith
fit-bytes (more k d n x y z f) (suc (suc (suc (suc i)))) = fit-bytes f i

-- The nodes of a reading ---------------------------------------------------------------------------------------------------------------

left-kind : {l k : ℕ} → Left l k → k < 256
left-kind sum = omega arith
left-kind difference = omega arith
left-kind and = omega arith
left-kind or = omega arith

comparison-kind : {k : ℕ} → Comparison k → k < 256
comparison-kind equal = omega arith
comparison-kind less = omega arith

expr-fits : {l : ℕ} {ts : List Token} {e : Expr} → IsExpr l ts e → (p : ℕ) → Limited p ts → Fit (preorder_e e)
unfolding preorder_e
expr-fits (number n) p h = more 1 0 n (omega arith) (omega arith) (omega (arith, h.0, limits p)) none
expr-fits (variable x) p h = more 2 0 x (omega arith) (omega arith) (omega (arith, h.0, limits p)) none
expr-fits (parens {ts = ts} d) p h = expr-fits d c_open (limited-parts c_open ts _ h.1).0
expr-fits (complement d) p h = more 3 0 0 (omega arith) (omega arith) (omega arith) (expr-fits d 3 h.1)
expr-fits (left {k = k} {ts = ts} o d f) p h =
    let q = limited-parts p ts _ h in
    more k 0 0 (left-kind o) (omega arith) (omega arith) (fit_append (expr-fits d p q.0) (expr-fits f k q.2.1))
expr-fits (compare {k = k} {ts = ts} o d f) p h =
    let q = limited-parts p ts _ h in
    more k 0 0 (comparison-kind o) (omega arith) (omega arith) (fit_append (expr-fits d p q.0) (expr-fits f k q.2.1))
expr-fits (IsExpr.up d) p h = expr-fits d p h

stmt-fits : {l : ℕ} {ts : List Token} {P : Code} → IsStmt l ts P → (p : ℕ) → Limited p ts → Fit (preorder P)
unfolding preorder limit_after
stmt-fits IsStmt.skip p h = more 16 0 0 (omega arith) (omega arith) (omega arith) none
stmt-fits (ticks d) p h = more 17 d 0 (omega arith) (omega (arith, h.1.0)) (omega arith) none
stmt-fits (becomes d x {ts = ts} w) p h =
    let q = limited-timed 18 ts d _ h.1.1 in
    more 18 d x (omega arith) q.1 (omega (arith, h.0, limits p)) (expr-fits w 18 q.0)
stmt-fits (ifs d {ts = ts} {us = us} {vs = vs} w f g) p h =
    let q = limited-timed 21 ts d _ h.1 in
    let a = limited-parts c_then us _ q.2.1 in
    let b = limited-parts c_else vs _ a.2.1 in
    more 21 d 0 (omega arith) q.1 (omega arith)
    (fit_append (expr-fits w 21 q.0) (fit_append (stmt-fits f c_then a.0) (stmt-fits g c_else b.0)))
stmt-fits (whiles d {ts = ts} {us = us} w f) p h =
    let q = limited-timed 22 ts d _ h.1 in
    let a = limited-parts c_do us _ q.2.1 in
    more 22 d 0 (omega arith) q.1 (omega arith) (fit_append (expr-fits w 22 q.0) (stmt-fits f c_do a.0))
stmt-fits (repeats d {ts = ts} {us = us} f w) p h =
    let a = limited-parts 23 us _ h.1 in
    let q = limited-timed c_until ts d _ a.2.1 in
    more 23 d 0 (omega arith) q.1 (omega arith) (fit_append (expr-fits w c_until q.0) (stmt-fits f 23 a.0))
stmt-fits (braces {ts = ts} f) p h = stmt-fits f c_left (limited-parts c_left ts _ h.1).0
stmt-fits (sequence {ts = ts} f g) p h =
    let q = limited-parts p ts _ h in
    more 19 0 0 (omega arith) (omega arith) (omega arith) (fit_append (stmt-fits f p q.0) (stmt-fits g 19 q.2.1))
stmt-fits (parallel {ts = ts} f g) p h =
    let q = limited-parts p ts _ h in
    more 20 0 0 (omega arith) (omega arith) (omega arith) (fit_append (stmt-fits f p q.0) (stmt-fits g 20 q.2.1))
stmt-fits (IsStmt.up f) p h = stmt-fits f p h

pub reading-bytes : (text : List ℕ) {P : Code} → Means (tokens (words_of text)) P → Bytes (node_bytes (preorder P))
reading-bytes text d = fit-bytes (stmt-fits d 0 (words-limited 0 0 0 text))
