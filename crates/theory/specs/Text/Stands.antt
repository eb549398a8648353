-- Where the reader stands: by its mode, what is open on its stack, and how the tokens and the nodes that it has are divided over it.
-- Every step of the reader keeps this, so what it has read is always the beginning of a derivation.
-- Assumes of the token of a step that a sign has no value.
use Rattle.std.specs.Prelude.{◌≡◌, refl, true, false, ◌&&◌, ◌||◌, List, [], ◌∷◌, ◌++◌, ℕ, zero, suc, ◌+◌, ◌-◌, ◌*◌, ◌≤◌, ◌<◌, length, drop, T, eqb, ltb, leb}
use Rattle.std.proofs.Common.{sym, ◌∙◌, ap, ap₂, subst, append_assoc, append-nil, arith, length-append, length-set, ltb→lt, eqb-true, leb-true}
use Rattle.std.proofs.Math.Seq.{take-append_seam, drop-append_seam, set-append_seam, get_or-append_seam}
use Rattle.model.specs.declared.Node.{Node}
use Rattle.model.specs.declared.texts.Token.{Token}
use Rattle.model.specs.declared.texts.Mode.{Mode}
use Rattle.model.specs.declared.texts.Mode.TheVariants.{Statement, AfterStatement, Operand, AfterOperand, Becomes, Ticks, Delay, Body, Broken}
use Rattle.model.specs.Program.{node, preorder_e, preorder}
use Rattle.model.specs.Text.{token, numeral, sign, c_then, c_else, c_do, c_until, c_end, c_at, c_open, c_close, c_left, c_right, Left, Comparison, IsExpr, IsStmt}
use Rattle.model.specs.Reader.{Frame, frame, Reader, reader, hold_of, reach_of, pop, top_code, top_start, comparison, insert_at, with_node_delay, leaf, opened, opened_node, between, closed, turned, reduced, with_delay, on_statement, on_operand, on_after_operand, on_after_statement, on_delay, on_body, step_of, step}
use Rattle.laws.specs.Refusals.Laws.{by_bool, not-both, and-true}
use Rattle.theory.specs.Text.Open.{Sort, expression, statement, top, Fits, expr, stmt, lower, Binary, left, compare, sequence, parallel, reaches, Bracket, parens, becomes, ifs, thens, elses, whiles, does, repeats, untils, braces, Open, whole, operator, bracket, low-enough, nothing-behind, bounds, has_room, After, after, pop-after, pop-top}
use Rattle.theory.specs.Text.Open.Piece.{complement, binary}

-- Where the reader stands --------------------------------------------------------------------------------------------------------------

-- the nodes before the cursor and those behind it
pub data At (R : List Node → List Node → Type 0) : ℕ → List Node → Type 0 where
  at : (xs zs : List Node) → R xs zs → At R (length xs) (xs ++ zs)

-- a phrase of a sort is expected
abbrev pub Expects : Sort → List Frame → ℕ → List Node → List Token → Type 0
Expects s fs c ns ts = At (λ xs zs. (w : ℕ) × Open fs s w ts xs zs) c ns

-- the hole of bracket k on top is filled; with no bracket the phrase is all
pub data Filled : ℕ → Sort → Sort → List Frame → List Node → List Node → List Token → Type 0 where
  all : {ts : List Token} {ns : List Node} → Fits statement 0 ts ns → Filled 0 statement statement [] ns [] ts
  inside : {fs : List Frame} {s s' : Sort} {w k : ℕ} {ts us vs : List Token} {xs ns ms zs ys : List Node} → Open fs s w ts xs zs → Bracket k s zs s' us ns ys
      → Fits s' 0 vs ms → Filled k s s' (frame k (length xs) ∷ fs) (xs ++ ns ++ ms) ys (ts ++ us ++ vs)

-- in bracket k on top an expression and its delay were read, and the word that follows is known
pub data Timed : ℕ → List Frame → List Node → List Token → Type 0 where
  of-becomes : {fs : List Frame} {p : ℕ} {xs : List Node} {ts : List Token} → After statement 2 p fs xs [] ts → Timed 18 (frame 18 p ∷ fs) xs ts
  of-ifs : {fs : List Frame} {p : ℕ} {xs : List Node} {ts us : List Token} → Open (frame c_then p ∷ fs) statement 0 us xs [] → us ≡ ts ++ (sign c_then ∷ [])
      → Timed 21 (frame 21 p ∷ fs) xs ts
  of-whiles : {fs : List Frame} {p : ℕ} {xs : List Node} {ts us : List Token} → Open (frame c_do p ∷ fs) statement 0 us xs [] → us ≡ ts ++ (sign c_do ∷ [])
      → Timed 22 (frame 22 p ∷ fs) xs ts
  of-untils : {fs : List Frame} {p : ℕ} {xs : List Node} {ts : List Token} → After statement 2 p fs xs [] (ts ++ (sign c_end ∷ [])) → Timed c_until (frame c_until p ∷ fs) xs ts

-- By mode. Where only one word or a number can follow, it says what stands behind that word, whatever the number; of a broken reader nothing.
abbrev pub Stands : Mode → ℕ → List Frame → ℕ → List Node → List Token → Type 0
Stands Statement p fs c ns ts = Expects statement fs c ns ts
Stands AfterStatement p fs c ns ts = At (λ xs zs. After statement 2 p fs xs zs ts) c ns
Stands Operand p fs c ns ts = Expects expression fs c ns ts
Stands AfterOperand p fs c ns ts = At (λ xs zs. After expression 4 p fs xs zs ts) c ns
Stands Becomes p fs c ns ts = Expects expression fs c ns (ts ++ (sign 18 ∷ []))
Stands Ticks p fs c ns ts = (d : ℕ) → After statement 2 p fs (with_node_delay p d ns) [] (ts ++ (numeral d ∷ []))
Stands Delay p fs c ns ts = (d : ℕ) → Timed (top_code fs) fs (with_node_delay (top_start fs) d ns) (ts ++ (numeral d ∷ []))
Stands Body p fs c ns ts = (c ≡ length ns) × Timed (top_code fs) fs ns ts
Stands Broken p fs c ns ts = Unit {0}

abbrev pub StandsAt : Reader → List Token → Type 0
StandsAt r ts = Stands r.mode r.start r.frames r.cursor r.nodes ts

-- Tokens -------------------------------------------------------------------------------------------------------------------------------

-- only a numeral and a name have a value
abbrev pub Proper : Token → Type 0
Proper t = (t.code ≡ 1 → ⊥) → (t.code ≡ 2 → ⊥) → t.value ≡ 0

-- a token of code k, or another one
by_value : (R : Token → Type 0) (t : Token) (k : ℕ) → ((v : ℕ) → R (token k v)) → (eqb t.code k ≡ false → R t) → R t
by_value R t k f g = by_bool (eqb t.code k) (λ e. subst R (ap (λ (c : ℕ). token c t.value) (sym (eqb-true t.code k e))) (f t.value)) g

-- the same for a code that has no value
sign_of : (t : Token) → Proper t → (k : ℕ) → 2 < k → t.code ≡ k → t ≡ sign k
sign_of t h k l e = ap₂ token e (h (λ z. omega arith) (λ z. omega arith))

by_sign : (R : Token → Type 0) (t : Token) → Proper t → (k : ℕ) → T (ltb 2 k) → R (sign k) → (eqb t.code k ≡ false → R t) → R t
by_sign R t h k l p g =
    by_bool (eqb t.code k) (λ e. subst R (sym (sign_of t h k (ltb→lt 2 k l) (eqb-true t.code k e))) p) g

-- Nodes --------------------------------------------------------------------------------------------------------------------------------

insert-is : (xs : List Node) (n : Node) (ns : List Node) → insert_at (length xs) n (xs ++ ns) ≡ xs ++ (n ∷ ns)
insert-is xs n ns = rw (take-append_seam xs ns, drop-append_seam xs ns)

-- a node goes before what was just read
put-before : {R : List Node → List Node → Type 0} (n : Node) (xs ns zs : List Node) → R (xs ++ (n ∷ ns)) zs
    → At R (length (xs ++ ns) + 1) (insert_at (length xs) n (xs ++ ns ++ zs))
put-before {R} n xs ns zs h =
    let e : length (xs ++ ns) + 1 ≡ length (xs ++ (n ∷ ns)) = rw (length-append xs ns, length-append xs (n ∷ ns)) (omega arith) in
    rw (e, append_assoc xs ns zs, insert-is xs n (ns ++ zs), ← append_assoc xs (n ∷ ns) zs) (at (xs ++ (n ∷ ns)) zs h)

-- a node goes where the cursor is
put : {R : List Node → List Node → Type 0} (n : Node) (xs zs : List Node) → R (xs ++ (n ∷ [])) zs
    → At R (length xs + 1) (insert_at (length xs) n (xs ++ zs))
put {R} n xs zs h = subst (λ (ys : List Node). At R (length ys + 1) (insert_at (length xs) n (ys ++ zs))) (append-nil xs) (put-before n xs [] zs h)

-- a node gets its delay
delayed-is : (xs : List Node) (k x d : ℕ) (ns : List Node) → with_node_delay (length xs) d (xs ++ (node k 0 x ∷ ns)) ≡ xs ++ (node k d x ∷ ns)
delayed-is xs k x d ns = rw (get_or-append_seam xs (node k 0 x) ns (node 0 0 0)) (set-append_seam xs (node k 0 x) ns (node k d x))

-- the same of the node that begins a bracket, with the nodes in its hole and behind it
delay-is : (xs : List Node) (k x d : ℕ) (ns zs : List Node)
    → with_node_delay (length xs) d (xs ++ (node k 0 x ∷ []) ++ ns ++ zs) ≡ xs ++ (node k d x ∷ (ns ++ zs))
delay-is xs k x d ns zs =
    let e : xs ++ (node k 0 x ∷ []) ++ ns ++ zs ≡ xs ++ (node k 0 x ∷ (ns ++ zs)) = simp append_assoc in
    ap (with_node_delay (length xs) d) e ∙ delayed-is xs k x d (ns ++ zs)

-- What is expected is read -------------------------------------------------------------------------------------------------------------

-- a phrase that holds together by itself, in the hole on top
finished : {fs : List Frame} {s : Sort} {w : ℕ} {ts us ts' : List Token} {xs ns xs' zs : List Node} → Open fs s w ts xs zs → Fits s (top s) us ns
    → xs' ≡ xs ++ ns → ts' ≡ ts ++ us → After s (top s) (length xs) fs xs' zs ts'
finished o p e f = rw (e, f) (after o p (low-enough o) (omega arith))

on-operand : (t : Token) → Proper t → (p : ℕ) {fs : List Frame} {c : ℕ} {ns : List Node} {ts : List Token} → Expects expression fs c ns ts
    → StandsAt (on_operand t (reader Operand p fs c ns)) (ts ++ (t ∷ []))
unfolding on_operand leaf opened opened_node preorder_e
on-operand t h p {fs} {ts = ts} (at xs zs (w, o)) =
    by_value R t 1 (λ v. put (node 1 0 v) xs zs (finished o (expr (IsExpr.number v)) refl refl)) λ e₁.
    by_value R t 2 (λ v. put (node 2 0 v) xs zs (finished o (expr (IsExpr.variable v)) refl refl)) λ e₂.
    by_sign R t h 3 tt (put (node 3 0 0) xs zs (4, operator o complement (low-enough o))) λ e₃.
    by_sign R t h c_open tt (at xs zs (0, rw append-nil at (bracket o parens))) λ e₄.
    rw (e₁, e₂, e₃, e₄) tt
  where
    R : Token → Type 0
    R t = StandsAt (on_operand t (reader Operand p fs (length xs) (xs ++ zs))) (ts ++ (t ∷ []))

ticking : {fs : List Frame} {w : ℕ} {ts : List Token} {xs : List Node} → Open fs statement w ts xs []
    → Stands Ticks (length xs) fs (length xs + 1) (insert_at (length xs) (node 17 0 0) (xs ++ [])) (ts ++ (sign 17 ∷ []))
unfolding preorder
ticking {ts = ts} {xs = xs} o d =
    finished o (stmt (IsStmt.ticks d)) (ap (with_node_delay (length xs) d) (insert-is xs (node 17 0 0) []) ∙ delayed-is xs 17 0 d []) (append_assoc ts _ _)

on-statement : (t : Token) → Proper t → (p : ℕ) {fs : List Frame} {w : ℕ} {ts : List Token} {xs : List Node} → Open fs statement w ts xs []
    → StandsAt (on_statement t (reader Statement p fs (length xs) (xs ++ []))) (ts ++ (t ∷ []))
unfolding on_statement leaf opened opened_node preorder
on-statement t h p {fs} {ts = ts} {xs = xs} o =
    by_sign R t h 16 tt (put (node 16 0 0) xs [] (finished o (stmt IsStmt.skip) refl refl)) λ e₁.
    by_sign R t h 17 tt (ticking o) λ e₂.
    by_value R t 2 (λ v. put (node 18 0 v) xs [] (0, rw append_assoc (bracket o (becomes v)))) λ e₃.
    by_sign R t h 21 tt (put (node 21 0 0) xs [] (0, bracket o ifs)) λ e₄.
    by_sign R t h 22 tt (put (node 22 0 0) xs [] (0, bracket o whiles)) λ e₅.
    by_sign R t h 23 tt (put (node 23 0 0) xs [] (0, bracket o repeats)) λ e₆.
    by_sign R t h c_left tt (at xs [] (0, rw append-nil at (bracket o braces))) λ e₇.
    rw (e₁, e₂, e₃, e₄, e₅, e₆, e₇) tt
  where
    R : Token → Type 0
    R t = StandsAt (on_statement t (reader Statement p fs (length xs) (xs ++ []))) (ts ++ (t ∷ []))

-- An operator between two phrases ------------------------------------------------------------------------------------------------------

-- what is complete is taken off, from a phrase that was just read
popped : {s : Sort} {p : ℕ} {fs : List Frame} {xs zs : List Node} {ts : List Token} (reach a : ℕ) → ((g : ℕ) → reach < 2 * g + 3 → a ≤ g) → a ≤ top s
    → After s (top s) p fs xs zs ts → After s a (pop reach p fs).start (pop reach p fs).frames xs zs ts
popped reach a m l (after o q h h') = pop-after reach a m o q h (omega arith)

-- the frame on top has room for what a new operator makes
room : {s : Sort} {k a b g : ℕ} {fs : List Frame} {w : ℕ} {ts : List Token} {xs zs : List Node} → Binary s k a b g → Open fs s w ts xs zs
    → hold_of (top_code fs) ≤ reach_of k → (comparison k && comparison (top_code fs)) ≡ false → w ≤ g
unfolding top_code
room B whole h c = omega arith
room B (operator o q r) h c = has_room B q h c
room B (bracket o b) h c = omega arith

put-operator : {s : Sort} {k a b g p : ℕ} {fs : List Frame} {xs zs : List Node} {ts : List Token} → Binary s k a b g → After s a p fs xs zs ts
    → hold_of (top_code fs) ≤ reach_of k → (comparison k && comparison (top_code fs)) ≡ false
    → Expects s (frame k p ∷ fs) (length xs + 1) (insert_at p (node k 0 0) (xs ++ zs)) (ts ++ (sign k ∷ []))
put-operator {s} {k} {a} {b} B (after {fs = fs} {ts = ts} {us = us} {xs = xs} {ns = ns} {zs = zs} o q h h') l c =
    put-before (node k 0 0) xs ns zs (b, rw append_assoc (operator o (binary B (lower a h' q)) (room B o l c)))

-- only a comparison asks whether another one is open, and it reaches as far as that test looks
unbound : {s : Sort} {k a b g : ℕ} (p : ℕ) (fs : List Frame) → Binary s k a b g → (comparison k && comparison (top_code (pop 7 p fs).frames)) ≡ false
    → (comparison k && comparison (top_code (pop (reach_of k) p fs).frames)) ≡ false
unfolding reach_of
unbound p fs (left Left.sum) e = e
unbound p fs (left Left.difference) e = e
unbound p fs (left Left.and) e = e
unbound p fs (left Left.or) e = e
unbound p fs (compare Comparison.equal) e = e
unbound p fs (compare Comparison.less) e = e
unbound p fs sequence e = e
unbound p fs parallel e = e

-- k is put between
puts : {s : Sort} {k a b g p : ℕ} {fs : List Frame} {c : ℕ} {ns : List Node} {ts : List Token} → Binary s k a b g
    → (comparison k && comparison (top_code (pop 7 p fs).frames)) ≡ false → At (λ xs zs. After s (top s) p fs xs zs ts) c ns
    → Expects s (frame k (pop (reach_of k) p fs).start ∷ (pop (reach_of k) p fs).frames) (c + 1)
    (insert_at (pop (reach_of k) p fs).start (node k 0 0) ns) (ts ++ (sign k ∷ []))
puts {k = k} {a = a} {p = p} {fs = fs} B e (at xs zs q) =
    let r = reaches B in
    put-operator B (popped (reach_of k) a (λ g h. omega (arith, r.far)) r.most q) (pop-top (reach_of k) p fs) (unbound p fs B e)

-- The hole on top is filled ------------------------------------------------------------------------------------------------------------

-- where all operators are taken off, a bracket is on top, or nothing
topmost : {s : Sort} {a p : ℕ} {fs : List Frame} {xs zs : List Node} {ts : List Token} → After s a p fs xs zs ts → hold_of (top_code fs) ≤ 0
    → (s' : Sort) × Filled (top_code fs) s' s fs xs zs ts
unfolding top_code
topmost (after whole p h h') l = (statement, all (lower 0 h p))
topmost (after (operator o q r) p h h') l = absurd (omega (arith, (bounds q).holds))
topmost (after (bracket {s = s} o b) p h h') l = (s, inside o b (lower 0 h p))

pub filled : {s : Sort} {p : ℕ} {fs : List Frame} {xs zs : List Node} {ts : List Token} → After s (top s) p fs xs zs ts
    → (s' : Sort) × Filled (top_code (pop 0 p fs).frames) s' s (pop 0 p fs).frames xs zs ts
filled {p = p} {fs = fs} q = topmost (popped 0 0 (λ g h. omega arith) (omega arith) q) (pop-top 0 p fs)

-- the word that closes a bracket
data Closer : Sort → ℕ → ℕ → Type 0 where
  paren : Closer expression c_open c_close
  end-if : Closer statement c_else c_end
  end-while : Closer statement c_do c_end
  brace : Closer statement c_left c_right

closing : {s s' : Sort} {k c : ℕ} {fs : List Frame} {xs zs : List Node} {ts : List Token} → Closer s k c → Filled k s' s fs xs zs ts
    → After s (top s) (top_start fs) (drop 1 fs) xs zs (ts ++ (sign c ∷ []))
unfolding top_start preorder
closing paren (inside o parens (expr d)) = finished o (expr (IsExpr.parens d)) (simp append-nil) (simp append_assoc)
closing end-if (inside o (elses k e d) (stmt d')) = finished o (stmt (IsStmt.ifs k e d d')) (simp append_assoc) (simp append_assoc)
closing end-while (inside o (does k e) (stmt d)) = finished o (stmt (IsStmt.whiles k e d)) (simp append_assoc) (simp append_assoc)
closing brace (inside o braces (stmt d)) = finished o (stmt (IsStmt.braces d)) (simp append-nil) (simp append_assoc)

-- the words that lead from one bracket to the next
else-next : {s : Sort} {fs : List Frame} {xs zs : List Node} {ts : List Token} → Filled c_then s statement fs xs zs ts
    → (w : ℕ) × Open (frame c_else (top_start fs) ∷ drop 1 fs) statement w (ts ++ (sign c_else ∷ [])) xs zs
unfolding top_start
else-next (inside o (thens k e) (stmt d)) = (0, simp append_assoc (bracket o (elses k e d)))

until-next : {s : Sort} {fs : List Frame} {xs zs : List Node} {ts : List Token} → Filled 23 s statement fs xs zs ts
    → Expects expression (frame c_until (top_start fs) ∷ drop 1 fs) (top_start fs + 1) (xs ++ zs) (ts ++ (sign c_until ∷ []))
unfolding top_start
until-next (inside {xs = xs} {ms = ms} o repeats (stmt {P = P} d)) =
    let e : length xs + 1 ≡ length (xs ++ (node 23 0 0 ∷ [])) = sym (length-append xs (node 23 0 0 ∷ [])) in
    rw (e, append-nil) (at (xs ++ (node 23 0 0 ∷ [])) (preorder P) (0, simp append_assoc (bracket o (untils d))))

-- the delay of an expression in a bracket
delay-next : {k : ℕ} {s : Sort} {fs : List Frame} {xs zs : List Node} {ts : List Token} (d : ℕ) → Filled k s expression fs xs zs ts
    → ((eqb k 18 || eqb k 21) || (eqb k 22 || eqb k c_until)) ≡ true
    → Timed k fs (with_node_delay (top_start fs) d (xs ++ zs)) (ts ++ (sign c_at ∷ []) ++ (numeral d ∷ []))
unfolding top_start preorder
delay-next d (inside o parens e) h = not-both h refl
delay-next d (inside {xs = xs} o (becomes x) (expr {e = e} q)) h =
    rw (delay-is xs 18 x d (preorder_e e) [], append-nil) (simp append_assoc (of-becomes (finished o (stmt (IsStmt.becomes d x q)) refl refl)))
delay-next d (inside {ts = ts} {us = us} {vs = vs} {xs = xs} o ifs (expr {e = e} q)) h =
    rw (delay-is xs 21 0 d (preorder_e e) [], append-nil)
    (of-ifs {ts = ts ++ us ++ vs ++ (sign c_at ∷ []) ++ (numeral d ∷ [])} (bracket o (thens d q)) (simp append_assoc))
delay-next d (inside {ts = ts} {us = us} {vs = vs} {xs = xs} o whiles (expr {e = e} q)) h =
    rw (delay-is xs 22 0 d (preorder_e e) [], append-nil)
    (of-whiles {ts = ts ++ us ++ vs ++ (sign c_at ∷ []) ++ (numeral d ∷ [])} (bracket o (does d q)) (simp append_assoc))
delay-next d (inside {ts = ts} {us = us} {vs = vs} {xs = xs} {ys = ys} o (untils b) (expr {e = e} q)) h =
    of-untils {ts = ts ++ us ++ vs ++ (sign c_at ∷ []) ++ (numeral d ∷ [])} (finished o (stmt (IsStmt.repeats d b q)) (delay-is xs 23 0 d (preorder_e e) ys) (simp append_assoc))

-- After a phrase -----------------------------------------------------------------------------------------------------------------------

-- codes 4 to 9 are the operators of expressions
record Operator (k : ℕ) : Type 0 where
  before : ℕ
  behind : ℕ
  gives : ℕ
  is : Binary expression k before behind gives

operator-of : (i : ℕ) → i ≤ 5 → Operator (4 + i)
operator-of zero h = record { before = 3; behind = 4; gives = 3; is = left Left.sum }
operator-of (suc zero) h = record { before = 3; behind = 4; gives = 3; is = left Left.difference }
operator-of (suc (suc zero)) h = record { before = 1; behind = 2; gives = 1; is = left Left.and }
operator-of (suc (suc (suc zero))) h = record { before = 0; behind = 1; gives = 0; is = left Left.or }
operator-of (suc (suc (suc (suc zero)))) h = record { before = 3; behind = 3; gives = 2; is = compare Comparison.equal }
operator-of (suc (suc (suc (suc (suc zero))))) h = record { before = 3; behind = 3; gives = 2; is = compare Comparison.less }
operator-of (suc (suc (suc (suc (suc (suc i)))))) h = absurd (omega arith)

operator-at : (k : ℕ) → (leb 4 k && leb k 9) ≡ true → (2 < k) × Operator k
operator-at k e =
    let b = and-true (leb 4 k) (leb k 9) e in
    let l = leb-true 4 k b.0 in
    let h = leb-true k 9 b.1 in
    let f : 4 + (k - 4) ≡ k = omega arith in
    (omega arith, subst Operator f (operator-of (k - 4) (omega arith)))

on-after-operand : (t : Token) → Proper t → (p : ℕ) {fs : List Frame} {c : ℕ} {ns : List Node} {ts : List Token} → Stands AfterOperand p fs c ns ts
    → StandsAt (on_after_operand t (reader AfterOperand p fs c ns)) (ts ++ (t ∷ []))
unfolding on_after_operand between closed reduced
on-after-operand t h p {fs} {ts = ts} (at xs zs q) =
    by_bool (leb 4 t.code && leb t.code 9)
    (λ e. rw e (
    by_bool (comparison t.code && comparison (top_code (pop 7 p fs).frames)) (λ e'. rw e' tt) λ e'.
    let (l, o) = operator-at t.code e in
    rw (e', sign_of t h t.code l refl) (puts o.is e' (at xs zs q)))) λ e₁.
    by_sign R t h c_close tt (by_bool (eqb on-top c_open) (λ e. rw e (at xs zs (closing paren (rw (eqb-true on-top c_open e) at hole)))) (λ e. rw e tt)) λ e₂.
    by_sign R t h c_at tt
    (by_bool ((eqb on-top 18 || eqb on-top 21) || (eqb on-top 22 || eqb on-top c_until)) (λ e. rw e (λ d. delay-next d hole e)) (λ e. rw e tt)) λ e₃.
    rw (e₁, e₂, e₃) tt
  where
    R : Token → Type 0
    R t = StandsAt (on_after_operand t (reader AfterOperand p fs (length xs) (xs ++ zs))) (ts ++ (t ∷ []))

    on-top : ℕ
    on-top = top_code (pop 0 p fs).frames

    hole : Filled on-top (filled q).0 expression (pop 0 p fs).frames xs zs ts
    hole = (filled q).1

on-after-statement : (t : Token) → Proper t → (p : ℕ) {fs : List Frame} {c : ℕ} {ns : List Node} {ts : List Token} → Stands AfterStatement p fs c ns ts
    → StandsAt (on_after_statement t (reader AfterStatement p fs c ns)) (ts ++ (t ∷ []))
unfolding on_after_statement between closed turned reduced
on-after-statement t h p {fs} {ts = ts} (at xs zs q) =
    by_sign R t h 19 tt (puts sequence refl (at xs zs q)) λ e₁.
    by_sign R t h 20 tt (puts parallel refl (at xs zs q)) λ e₂.
    by_sign R t h c_right tt (by_bool (eqb on-top c_left) (λ e. rw e (at xs zs (closing brace (known c_left e)))) (λ e. rw e tt)) λ e₃.
    by_sign R t h c_else tt (by_bool (eqb on-top c_then) (λ e. rw e (at xs zs (else-next (known c_then e)))) (λ e. rw e tt)) λ e₄.
    by_sign R t h c_end tt
    (by_bool (eqb on-top c_else) (λ e. rw e (at xs zs (closing end-if (known c_else e)))) λ e.
    by_bool (eqb on-top c_do) (λ e'. rw (e, e') (at xs zs (closing end-while (known c_do e')))) (λ e'. rw (e, e') tt)) λ e₅.
    by_sign R t h c_until tt (by_bool (eqb on-top 23) (λ e. rw e (until-next (known 23 e))) (λ e. rw e tt)) λ e₆.
    rw (e₁, e₂, e₃, e₄, e₅, e₆) tt
  where
    R : Token → Type 0
    R t = StandsAt (on_after_statement t (reader AfterStatement p fs (length xs) (xs ++ zs))) (ts ++ (t ∷ []))

    on-top : ℕ
    on-top = top_code (pop 0 p fs).frames

    known : (k : ℕ) → eqb on-top k ≡ true → Filled k (filled q).0 statement (pop 0 p fs).frames xs zs ts
    known k e = rw (eqb-true on-top k e) at (filled q).1

-- the cursor is behind all nodes
at-end : {R : List Node → List Node → Type 0} {c : ℕ} {ns : List Node} → c ≡ length ns → R ns [] → At R c ns
at-end {R} {ns = ns} e h =
    let a : At R (length ns) (ns ++ []) = at ns [] h in
    rw e (rw append-nil at a)

-- what stands behind the word that is known to follow
assigned : {fs : List Frame} {ns : List Node} {ts : List Token} → Timed 18 fs ns ts → After statement 2 (top_start fs) (drop 1 fs) ns [] ts
unfolding top_start
assigned (of-becomes a) = a

then_next : {fs : List Frame} {ns : List Node} {ts : List Token} → Timed 21 fs ns ts
    → (w : ℕ) × Open (frame c_then (top_start fs) ∷ drop 1 fs) statement w (ts ++ (sign c_then ∷ [])) ns []
unfolding top_start
then_next (of-ifs o e) = (0, rw e at o)

do-next : {fs : List Frame} {ns : List Node} {ts : List Token} → Timed 22 fs ns ts
    → (w : ℕ) × Open (frame c_do (top_start fs) ∷ drop 1 fs) statement w (ts ++ (sign c_do ∷ [])) ns []
unfolding top_start
do-next (of-whiles o e) = (0, rw e at o)

end-next : {fs : List Frame} {ns : List Node} {ts : List Token} → Timed c_until fs ns ts
    → After statement 2 (top_start fs) (drop 1 fs) ns [] (ts ++ (sign c_end ∷ []))
unfolding top_start
end-next (of-untils a) = a

on-delay : (t : Token) (p : ℕ) (fs : List Frame) (c : ℕ) (ns : List Node) (ts : List Token) → Stands Delay p fs c ns ts
    → StandsAt (on_delay t (reader Delay p fs c ns)) (ts ++ (t ∷ []))
unfolding on_delay with_delay closed
on-delay t p fs c ns ts q =
    by_value R t 1 (λ d. by_bool (eqb (top_code fs) 18) (λ e. rw e (at-end (same d) (assigned (rw (eqb-true (top_code fs) 18 e) at (q d))))) (λ e. rw e (same d, q d))) λ e.
    rw e tt
  where
    R : Token → Type 0
    R t = StandsAt (on_delay t (reader Delay p fs c ns)) (ts ++ (t ∷ []))

    same : (d : ℕ) → length ns ≡ length (with_node_delay (top_start fs) d ns)
    same d = sym (length-set ns (top_start fs) _)

on-body : (t : Token) → Proper t → (p : ℕ) {fs : List Frame} {c : ℕ} {ns : List Node} {ts : List Token} → Stands Body p fs c ns ts
    → StandsAt (on_body t (reader Body p fs c ns)) (ts ++ (t ∷ []))
unfolding on_body turned closed
on-body t h p {fs} {c} {ns} {ts} (l, q) =
    by_sign R t h c_then tt (by_bool (eqb (top_code fs) 21) (λ e. rw e (at-end l (then_next (known 21 e)))) (λ e. rw e tt)) λ e₁.
    by_sign R t h c_do tt (by_bool (eqb (top_code fs) 22) (λ e. rw e (at-end l (do-next (known 22 e)))) (λ e. rw e tt)) λ e₂.
    by_sign R t h c_end tt (by_bool (eqb (top_code fs) c_until) (λ e. rw e (at-end l (end-next (known c_until e)))) (λ e. rw e tt)) λ e₃.
    rw (e₁, e₂, e₃) tt
  where
    R : Token → Type 0
    R t = StandsAt (on_body t (reader Body p fs c ns)) (ts ++ (t ∷ []))

    known : (k : ℕ) → eqb (top_code fs) k ≡ true → Timed k fs ns ts
    known k e = rw (eqb-true (top_code fs) k e) at q

-- Every step ---------------------------------------------------------------------------------------------------------------------------

step_from : (t : Token) → Proper t → (m : Mode) (p : ℕ) (fs : List Frame) (c : ℕ) (ns : List Node) (ts : List Token) → Stands m p fs c ns ts
    → StandsAt (step_of m t (reader m p fs c ns)) (ts ++ (t ∷ []))
unfolding step_of with_delay
step_from t h Statement p fs c ns ts (at xs zs (w, o)) =
    subst (λ (ys : List Node). Open fs statement w ts xs ys → StandsAt (on_statement t (reader Statement p fs (length xs) (xs ++ ys))) (ts ++ (t ∷ [])))
    (sym (nothing-behind o)) (λ o'. on-statement t h p o') o
step_from t h AfterStatement p fs c ns ts q = on-after-statement t h p q
step_from t h Operand p fs c ns ts q = on-operand t h p q
step_from t h AfterOperand p fs c ns ts q = on-after-operand t h p q
step_from t h Becomes p fs c ns ts q =
    by_sign (λ t. StandsAt (step_of Becomes t (reader Becomes p fs c ns)) (ts ++ (t ∷ []))) t h 18 tt q (λ e. rw e tt)
step_from t h Ticks p fs c ns ts q =
    by_value (λ t. StandsAt (step_of Ticks t (reader Ticks p fs c ns)) (ts ++ (t ∷ []))) t 1 (λ d. at-end (sym (length-set ns p _)) (q d)) (λ e. rw e tt)
step_from t h Delay p fs c ns ts q = on-delay t p fs c ns ts q
step_from t h Body p fs c ns ts q = on-body t h p q
step_from t h Broken p fs c ns ts q = tt

pub step-stands : (t : Token) → Proper t → (r : Reader) (ts : List Token) → StandsAt r ts → StandsAt (step t r) (ts ++ (t ∷ []))
step-stands t h r ts q = step_from t h r.mode r.start r.frames r.cursor r.nodes ts q
