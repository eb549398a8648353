-- As long as the reader is not broken, some continuation of what it has read fits; where it is complete, the tokens mean a statement whose nodes
-- it has.
-- Assumes of the tokens that a sign has no value, which holds of the words of every text.
use Rattle.std.specs.Prelude.{◌≡◌, refl, true, false, List, [], ◌∷◌, ◌++◌, ℕ, zero, suc, ◌+◌, ◌-◌, length, get_or, take, eqb}
use Rattle.std.proofs.Common.{◌∙◌, ap, subst, append_assoc, append-nil, arith, eqb-true}
use Rattle.model.specs.declared.Node.{Node}
use Rattle.model.specs.declared.texts.Token.{Token}
use Rattle.model.specs.declared.texts.Mode.{Mode}
use Rattle.model.specs.declared.texts.Mode.TheVariants.{Statement, AfterStatement, Operand, AfterOperand, Becomes, Ticks, Delay, Body, Broken}
use Rattle.model.specs.Program.{Code, preorder}
use Rattle.model.specs.Text.{numeral, sign, c_then, c_do, c_end, IsExpr, IsStmt, Means, Begins, blank, run_length, is_number, is_name, limit_after, two_code, run_token, token_at, size_at, words_from, tokens}
use Rattle.model.specs.Reader.{Frame, Reader, reader_at_first, pop, step, is_broken, complete}
use Rattle.laws.specs.Refusals.Laws.{by_bool, not-both}
use Rattle.laws.specs.Program.Trees.{by-pick}
use Rattle.laws.specs.Text.Runs.{pop-frames, steps}
use Rattle.theory.specs.Text.Open.{Sort, expression, statement, expr, stmt, Open, whole, low-enough, After, after, shorter, begins-open}
use Rattle.theory.specs.Text.Stands.{at, Expects, Filled, all, inside, filled, Timed, of-becomes, of-ifs, of-whiles, of-untils, Stands, StandsAt, Proper, step-stands}

-- Steps --------------------------------------------------------------------------------------------------------------------------------

abbrev pub AllProper : List Token → Type 0
AllProper [] = Unit {0}
AllProper (t ∷ ts) = Proper t × AllProper ts

steps-stand : (us : List Token) → AllProper us → (r : Reader) (ts : List Token) → StandsAt r ts → StandsAt (steps us r) (ts ++ us)
unfolding steps
steps-stand [] h r ts q = rw append-nil q
steps-stand (t ∷ us) h r ts q =
    subst (StandsAt (steps us (step t r))) (append_assoc ts (t ∷ []) us) (steps-stand us h.1 (step t r) (ts ++ (t ∷ [])) (step-stands t h.0 r ts q))

pub stands : (ts : List Token) → AllProper ts → StandsAt (steps ts reader_at_first) ts
stands ts h = steps-stand ts h reader_at_first [] (at [] [] (0, whole))

-- Some continuation fits ---------------------------------------------------------------------------------------------------------------

after-begins : {s : Sort} {a p : ℕ} {fs : List Frame} {xs zs : List Node} {ts : List Token} → After s a p fs xs zs ts → Begins ts
after-begins (after o q h h') = begins-open o q h

open-begins : (s : Sort) {fs : List Frame} {w : ℕ} {ts : List Token} {xs zs : List Node} → Open fs s w ts xs zs → Begins ts
open-begins expression {ts = ts} o = shorter ts (numeral 0 ∷ []) (begins-open o (expr (IsExpr.number 0)) (low-enough o))
open-begins statement {ts = ts} o = shorter ts (sign 16 ∷ []) (begins-open o (stmt IsStmt.skip) (low-enough o))

expected-begins : (s : Sort) {fs : List Frame} {c : ℕ} {ns : List Node} {ts : List Token} → Expects s fs c ns ts → Begins ts
expected-begins s (at xs zs (w, o)) = open-begins s o

timed-begins : {k : ℕ} {fs : List Frame} {ns : List Node} {ts : List Token} → Timed k fs ns ts → Begins ts
timed-begins (of-becomes a) = after-begins a
timed-begins (of-ifs {ts = ts} o e) = shorter ts (sign c_then ∷ []) (rw e at (open-begins statement o))
timed-begins (of-whiles {ts = ts} o e) = shorter ts (sign c_do ∷ []) (rw e at (open-begins statement o))
timed-begins (of-untils {ts = ts} a) = shorter ts (sign c_end ∷ []) (after-begins a)

begins-at : (m : Mode) (p : ℕ) (fs : List Frame) (c : ℕ) (ns : List Node) (ts : List Token) → Stands m p fs c ns ts → is_broken m ≡ false → Begins ts
unfolding is_broken
begins-at Statement p fs c ns ts q e = expected-begins statement q
begins-at AfterStatement p fs c ns ts (at xs zs q) e = after-begins q
begins-at Operand p fs c ns ts q e = expected-begins expression q
begins-at AfterOperand p fs c ns ts (at xs zs q) e = after-begins q
begins-at Becomes p fs c ns ts q e = shorter ts (sign 18 ∷ []) (expected-begins expression q)
begins-at Ticks p fs c ns ts q e = shorter ts (numeral 0 ∷ []) (after-begins (q 0))
begins-at Delay p fs c ns ts q e = shorter ts (numeral 0 ∷ []) (timed-begins (q 0))
begins-at Body p fs c ns ts q e = timed-begins q.1
begins-at Broken p fs c ns ts q e = not-both refl e

-- as long as the reader is not broken, some continuation of what it has read fits
pub begins : (ts : List Token) → AllProper ts → is_broken (steps ts reader_at_first).mode ≡ false → Begins ts
begins ts h e =
    let r = steps ts reader_at_first in
    begins-at r.mode r.start r.frames r.cursor r.nodes ts (stands ts h) e

-- A whole statement --------------------------------------------------------------------------------------------------------------------

all_read : {k : ℕ} {s : Sort} {fs : List Frame} {xs zs : List Node} {ts : List Token} → Filled k s statement fs xs zs ts → length fs ≡ 0
    → (P : Code) × Means ts P × (xs ++ zs ≡ preorder P)
all_read (all (stmt {P = P} d)) e = (P, d, append-nil (preorder P))
all_read (inside o b p) e = absurd (omega arith)

sound-at : (m : Mode) (p : ℕ) (fs : List Frame) (c : ℕ) (ns : List Node) (ts : List Token) → Stands m p fs c ns ts → complete m fs ≡ true
    → (P : Code) × Means ts P × (ns ≡ preorder P)
unfolding complete
sound-at Statement p fs c ns ts q e = not-both e refl
sound-at AfterStatement p fs c ns ts (at xs zs q) e =
    all_read (filled q).1 (ap length (pop-frames 0 p 0 fs) ∙ eqb-true (length (pop 0 0 fs).frames) 0 e)
sound-at Operand p fs c ns ts q e = not-both e refl
sound-at AfterOperand p fs c ns ts q e = not-both e refl
sound-at Becomes p fs c ns ts q e = not-both e refl
sound-at Ticks p fs c ns ts q e = not-both e refl
sound-at Delay p fs c ns ts q e = not-both e refl
sound-at Body p fs c ns ts q e = not-both e refl
sound-at Broken p fs c ns ts q e = not-both e refl

-- where the reader is complete, the tokens mean a statement whose nodes it has
pub sound : (ts : List Token) → AllProper ts → complete (steps ts reader_at_first).mode (steps ts reader_at_first).frames ≡ true
    → (P : Code) × Means ts P × ((steps ts reader_at_first).nodes ≡ preorder P)
sound ts h e =
    let r = steps ts reader_at_first in
    sound-at r.mode r.start r.frames r.cursor r.nodes ts (stands ts h) e

-- The words of a text ------------------------------------------------------------------------------------------------------------------

token-proper : (p : ℕ) (s : List ℕ) → Proper (token_at p s)
unfolding token_at run_token
token-proper p s =
    by-pick Proper (eqb (run_length s) 0) _ _
    (by-pick Proper (eqb (two_code (get_or s 0 0) (get_or s 1 0)) 0) _ _ (λ h h'. refl) (λ h h'. refl))
    (by-pick Proper (is_number (limit_after p) (take (run_length s) s)) _ _ (λ h h'. absurd (h refl))
    (by-pick Proper (is_name (take (run_length s) s)) _ _ (λ h h'. absurd (h' refl)) (λ h h'. refl)))

pub words-proper : (skip p i : ℕ) (s : List ℕ) → AllProper (tokens (words_from skip p i s))
unfolding words_from
words-proper skip p i [] = tt
words-proper (suc skip) p i (c ∷ s) = words-proper skip p (i + 1) s
words-proper zero p i (c ∷ s) =
    let t = token_at p (c ∷ s) in
    let blanks = words-proper 0 p (i + 1) s in
    let others = words-proper (size_at (c ∷ s) - 1) t.code (i + 1) s in
    by_bool (blank c) (λ e. rw (e, words_from) blanks) (λ e. rw (e, words_from) (token-proper p (c ∷ s), others))

-- so are the first of them
pub take-proper : (i : ℕ) (ts : List Token) → AllProper ts → AllProper (take i ts)
take-proper zero ts h = tt
take-proper (suc i) [] h = tt
take-proper (suc i) (t ∷ ts) h = (h.0, take-proper i ts h.1)
