-- The reader finds every derivation: over the tokens of one it ends with a whole statement, whose nodes are the tree's in preorder.
-- So at a word that breaks the reader's steps no continuation fits.
-- Assumes nothing.
use Rattle.std.specs.Prelude.{◌≡◌, refl, Bool, true, false, ◌||◌, List, [], ◌∷◌, ◌++◌, ℕ, suc, ◌+◌, ◌*◌, ◌<◌, ◌≤◌, min, eqb, length, take, drop, set}
use Rattle.std.proofs.Common.{sym, ◌∙◌, ap, append_assoc, append-nil, arith, length-append, length-set, eqb-true}
use Rattle.std.proofs.Math.Seq.{append_snoc}
use Rattle.std.proofs.lemmas.List.{get_or_at, set_at}
use Rattle.model.specs.declared.Node.{Node}
use Rattle.model.specs.declared.texts.Token.{Token}
use Rattle.model.specs.declared.texts.Mode.{Mode}
use Rattle.model.specs.declared.texts.Mode.TheVariants.{Statement, AfterStatement, Operand, AfterOperand, Delay, Body}
use Rattle.model.specs.Program.{Expr, Code, node, preorder_e, preorder}
use Rattle.model.specs.Text.{numeral, name, sign, c_then, c_else, c_do, c_until, c_end, c_at, c_open, c_close, c_left, c_right, Lexeme, tokens, Left, sum, difference, and, or, Comparison, equal, less, IsExpr, number, variable, parens, complement, left, compare, timed, IsStmt, skip, ticks, becomes, ifs, whiles, repeats, braces, sequence, parallel, Means, Begins, BreaksAt}
use Rattle.model.specs.Reader.{Frame, frame, Reader, reader, reader_at_first, hold_of, reach_of, Popped, pop, top_code, top_start, insert_at, with_node_delay, leaf, opened_node, between, closed, turned, reduced, with_delay, on_statement, on_operand, comparison, on_after_operand, on_after_statement, on_delay, on_body, step_of, is_broken, complete, good, bad, read_from}
use Rattle.model.specs.TextPromises.{place_at}
use Rattle.laws.specs.Refusals.Laws.{by_bool}
use Rattle.laws.specs.Text.Runs.{pop-frames, steps, steps-append, Complete, Stops, broken-incomplete, reads_whole, reads-bad}
use Rattle.theory.specs.Text.Parts.{Under, Ready, pop-ready, same-reader, inserted, inserted-snoc, Finds, read-bare, read_behind, finds-weaker, finds-leaf, finds-operator, Turns, finds-then, finds-group}

-- Expressions --------------------------------------------------------------------------------------------------------------------------

-- How tightly what stands below an expression of a level may hold, and how far back what follows it may reach; nothing reaches further than 8.
abbrev low : ℕ → ℕ
low l = 2 * l + 2

abbrev far : ℕ → ℕ
far l = min 8 (low l)

-- an operator of kind k makes an expression of level l from one of level m and one of the level above l
abbrev Binds : ℕ → ℕ → ℕ → Type 0
Binds l m k = (reach_of k ≤ far m) × (low l ≤ reach_of k) × (far l < hold_of k) × (hold_of k ≤ low (suc l))

left-binds : {l k : ℕ} → Left l k → Binds l l k
unfolding reach_of hold_of
left-binds sum = omega arith
left-binds difference = omega arith
left-binds and = omega arith
left-binds or = omega arith

comparison-binds : {k : ℕ} → Comparison k → Binds 2 3 k
unfolding reach_of hold_of
comparison-binds equal = omega arith
comparison-binds less = omega arith

left_step : {l k : ℕ} → Left l k → (r : Reader) → on_after_operand (sign k) r ≡ between Operand k r
unfolding on_after_operand
left_step sum r = refl
left_step difference r = refl
left_step and r = refl
left_step or r = refl

-- what holds less tightly than a comparison is none
no-comparison : (c : ℕ) → hold_of c ≤ 6 → comparison c ≡ false
unfolding hold_of
no-comparison c h =
    by_bool (eqb c 8) (λ e. absurd (omega (arith, ap hold_of (eqb-true c 8 e))))
    (λ e. by_bool (eqb c 9) (λ d. absurd (omega (arith, ap hold_of (eqb-true c 9 d)))) (λ d. rw (e, d)))

-- so a comparison behind an expression of level 3 does not chain
no-chain : (p q : ℕ) (F K : List Frame) → Ready 8 p q F → Under 6 K → comparison (top_code (pop 7 q (F ++ K)).frames) ≡ false
no-chain p q F K ready u =
    ap (λ (z : Popped). comparison (top_code z.frames)) (pop-ready 8 7 p q F K ready (omega arith) (omega arith)) ∙ no-comparison (top_code K) u

comparison-step : {k : ℕ} → Comparison k → (r : Reader) → comparison (top_code (pop 7 r.start r.frames).frames) ≡ false
    → on_after_operand (sign k) r ≡ between Operand k r
unfolding on_after_operand
comparison-step equal r e = rw e refl
comparison-step less r e = rw e refl

-- the frame of ! holds what follows it, as an operator's does
complement-found : {ts : List Token} {ms : List Node} {K : List Frame} {ys : List Node}
    → ((p : ℕ) → Finds Operand AfterOperand 8 ts ms (frame 3 p ∷ K) ys) → Finds Operand AfterOperand 8 (sign 3 ∷ ts) (node 3 0 0 ∷ ms) K ys
unfolding steps step_of on_operand opened_node hold_of
complement-found {ys} f =
    record {
      run = λ s c ns xs e d.
          let b = (f c).run s (c + 1) (insert_at c (node 3 0 0) ns) (xs ++ (node 3 0 0 ∷ []))
          (simp length-append (omega arith)) (inserted-snoc (node 3 0 0) c ns xs ys e d) in
          read_behind (omega arith) (omega arith) refl b (omega arith) (simp append_assoc);
    }

parens-turn : Turns AfterOperand (sign c_close) c_open (closed AfterOperand)
unfolding step_of on_after_operand reduced top_code closed top_start
parens-turn p q c i fs K ns e = rw e refl

expr-found : {l : ℕ} {ts : List Token} {e : Expr} → IsExpr l ts e → (K : List Frame) → Under (low l) K → (ys : List Node)
    → Finds Operand AfterOperand (far l) ts (preorder_e e) K ys
unfolding step_of on_operand preorder_e hold_of top_code
expr-found (number n) K u ys = finds-leaf (λ r. refl)
expr-found (variable x) K u ys = finds-leaf (λ r. refl)
expr-found (parens d) K u ys = finds-group (sign c_close) refl (λ r. refl) parens-turn (λ p. expr-found d (frame c_open p ∷ K) (omega arith) ys)
expr-found (complement d) K u ys = complement-found (λ p. expr-found d (frame 3 p ∷ K) (omega arith) ys)
expr-found (left {k = k} o d f) K u ys =
    let b = left-binds o in
    finds-operator b.0 (omega arith) b.2 (omega arith) (λ p q i F ns ready. left_step o _)
    (expr-found d K u ys) (λ p. expr-found f (frame k p ∷ K) b.3 ys)
expr-found (compare {k = k} o d f) K u ys =
    let b = comparison-binds o in
    finds-operator b.0 (omega arith) b.2 (omega arith) (λ p q i F ns ready. comparison-step o _ (no-chain p q F K ready u))
    (expr-found d K (omega arith) ys) (λ p. expr-found f (frame k p ∷ K) b.3 ys)
expr-found (IsExpr.up d) K u ys = finds-weaker (omega arith) (expr-found d K (omega arith) ys)

-- Delays -------------------------------------------------------------------------------------------------------------------------------

-- the node behind ws gets its delay
with-delay : (m : Mode) (p d k v : ℕ) (r : Reader) (ws zs : List Node) → p ≡ length ws → r.nodes ≡ ws ++ (node k 0 v ∷ zs) →
    let ms = ws ++ (node k d v ∷ zs) in
    with_delay m p d r ≡ reader m p r.frames (length ms) ms
unfolding with_delay
with-delay m p d k v r ws zs e f =
    let was = ws ++ (node k 0 v ∷ zs) in
    let now : with_node_delay p d r.nodes ≡ ws ++ (node k d v ∷ zs) =
    ap (with_node_delay p d) f ∙ ap (λ (a : Node). set was p (node a.kind d a.n)) (get_or_at ws (node k 0 v) zs (node 0 0 0) p (sym e))
    ∙ set_at ws (node k 0 v) zs (node k d v) p (sym e) in
    same-reader refl (sym (length-set r.nodes p _) ∙ ap length now) now

-- the codes of the frames whose nodes have a delay
abbrev delays : ℕ → Bool
delays h = (eqb h 18 || eqb h 21) || (eqb h 22 || eqb h c_until)

abbrev awaiting : Reader → Reader
awaiting r = reader Delay r.start r.frames r.cursor r.nodes

at-turns : (h : ℕ) → delays h ≡ true → Turns AfterOperand (sign c_at) h awaiting
unfolding step_of on_after_operand reduced top_code
at-turns h t p q c i fs K ns e = rw e (rw t refl)

-- once the node of the frame on top, of code h, has its delay d, the reader does g
abbrev Completes : ℕ → ℕ → (Reader → Reader) → Type 0
Completes d h g = (p c i : ℕ) (K : List Frame) (ns : List Node) →
    let r = reader Delay c (frame h p ∷ K) i ns in
    on_delay (numeral d) r ≡ g (with_delay Body p d r)

-- an expression, and the delay of the node at p that it belongs to
timed-found : {ts : List Token} {x : Expr} → IsExpr 0 ts x → (d h k v : ℕ) (g : Reader → Reader) → hold_of h ≡ 0 → delays h ≡ true → Completes d h g
    → (K : List Frame) (rest : List Token) (s p : ℕ) (ns ws ys : List Node) → p ≡ length ws → ns ≡ ws ++ (node k 0 v ∷ ys) →
    let ms = ws ++ (node k d v ∷ (preorder_e x ++ ys)) in
    steps (timed ts d rest) (reader Operand s (frame h p ∷ K) (p + 1) ns) ≡ steps rest (g (reader Body p (frame h p ∷ K) (length ms) ms))
unfolding steps step_of top_code
timed-found {x} w d h k v g hold test told K rest s p ns ws ys e f =
    finds-then (sign c_at) awaiting hold (at-turns h test) (expr-found w (frame h p ∷ K) (omega (arith, hold)) ys) (numeral d ∷ rest) s (p + 1) ns
    (ws ++ (node k 0 v ∷ [])) (simp length-append (omega arith)) (f ∙ sym (append_snoc ws (node k 0 v) ys))
    ∙ ap (steps rest)
    (told p (p + 1) _ K _ ∙ ap g (with-delay Body p d k v _ ws (preorder_e x ++ ys) e (append_snoc ws (node k 0 v) (preorder_e x ++ ys))))

-- Statements ---------------------------------------------------------------------------------------------------------------------------

-- as for expressions: how tightly what stands below a statement of a level may hold, and how far back what follows it may reach
abbrev low_s : ℕ → ℕ
low_s l = 2 * l + 3

abbrev far_s : ℕ → ℕ
far_s l = 2 * l + 1

-- a statement's nodes go behind all others
abbrev FindsStmt : ℕ → List Token → List Node → List Frame → Type 0
FindsStmt m ts ms K = Finds Statement AfterStatement m ts ms K []

-- a statement inside of one whose frame has code h
abbrev Inside : ℕ → List Token → List Node → List Frame → Type 0
Inside h ts ms K = (p : ℕ) → FindsStmt (far_s 0) ts ms (frame h p ∷ K)

-- the words behind a statement that is inside of one
braces-turn : Turns AfterStatement (sign c_right) c_left (closed AfterStatement)
unfolding step_of on_after_statement reduced top_code closed top_start
braces-turn p q c i fs K ns e = rw e refl

else-turns : Turns AfterStatement (sign c_else) c_then (turned Statement c_else)
unfolding step_of on_after_statement reduced top_code turned top_start
else-turns p q c i fs K ns e = rw e refl

end-turns : (h : ℕ) → (eqb h c_else || eqb h c_do) ≡ true → Turns AfterStatement (sign c_end) h (closed AfterStatement)
unfolding step_of on_after_statement reduced top_code closed top_start
end-turns h t p q c i fs K ns e = rw e (rw t refl)

abbrev conditioned : Reader → Reader
conditioned r = reader Operand r.start (frame c_until (top_start r.frames) ∷ drop 1 r.frames) (top_start r.frames + 1) r.nodes

until-turns : Turns AfterStatement (sign c_until) 23 conditioned
unfolding step_of on_after_statement reduced top_code top_start
until-turns p q c i fs K ns e = rw e refl

-- the kinds of statement that have a delay
ticks-found : {m : ℕ} {K : List Frame} (d : ℕ) → FindsStmt m (sign 17 ∷ (numeral d ∷ [])) (node 17 d 0 ∷ []) K
unfolding steps step_of on_statement leaf
ticks-found d =
    record {
      run = λ s c ns xs e f.
          read-bare (with-delay AfterStatement c d 17 0 _ xs [] e (inserted (node 17 0 0) c ns xs [] e f))
          (simp length-append (omega arith)) refl;
    }

becomes-found : {m : ℕ} {K : List Frame} {ts : List Token} {x : Expr} (d v : ℕ) → IsExpr 0 ts x
    → FindsStmt m (name v ∷ (sign 18 ∷ timed ts d [])) (node 18 d v ∷ preorder_e x) K
unfolding steps step_of on_statement opened_node on_delay top_code closed top_start hold_of
becomes-found {K} d v w =
    record {
      run = λ s c ns xs e f.
          read-bare
          (timed-found w d 18 18 v (closed AfterStatement) refl refl (λ p c i K ns. refl) K [] s c _ xs [] e (inserted (node 18 0 v) c ns xs [] e f))
          (simp length-append (omega arith)) refl;
    }

ifs-found : {m : ℕ} {K : List Frame} {ts us vs : List Token} {x : Expr} {ms ls : List Node} (d : ℕ)
    → IsExpr 0 ts x → Inside c_then us ms K → Inside c_else vs ls K
    → FindsStmt m (sign 21 ∷ timed ts d (sign c_then ∷ (us ++ (sign c_else ∷ (vs ++ (sign c_end ∷ [])))))) (node 21 d 0 ∷ preorder_e x ++ (ms ++ ls)) K
unfolding steps step_of on_statement opened_node on_delay on_body top_code closed turned top_start hold_of
ifs-found {K} {us} {vs} {x} {ms} d w f g =
    record {
      run = λ s c ns xs e a.
          let rest = vs ++ (sign c_end ∷ []) in
          let xs' = xs ++ (node 21 d 0 ∷ preorder_e x) in
          read-bare
          (timed-found w d 21 21 0 (λ r. r) refl refl (λ p c i K ns. refl) K (sign c_then ∷ (us ++ (sign c_else ∷ rest))) s c _ xs [] e
          (inserted (node 21 0 0) c ns xs [] e a)
          ∙ finds-then (sign c_else) (turned Statement c_else) refl else-turns (f c) rest c _ _ xs'
          (simp length-append (omega arith)) (simp append_assoc)
          ∙ finds-then (sign c_end) (closed AfterStatement) refl (end-turns c_else refl) (g c) [] _ _ _ (xs' ++ ms)
          (simp length-append (omega arith)) (simp append_assoc))
          (simp length-append (omega arith)) (simp append_assoc);
    }

whiles-found : {m : ℕ} {K : List Frame} {ts us : List Token} {x : Expr} {ms : List Node} (d : ℕ) → IsExpr 0 ts x → Inside c_do us ms K
    → FindsStmt m (sign 22 ∷ timed ts d (sign c_do ∷ (us ++ (sign c_end ∷ [])))) (node 22 d 0 ∷ preorder_e x ++ ms) K
unfolding steps step_of on_statement opened_node on_delay on_body top_code closed turned top_start hold_of
whiles-found {K} {us} {x} d w f =
    record {
      run = λ s c ns xs e a.
          read-bare
          (timed-found w d 22 22 0 (λ r. r) refl refl (λ p c i K ns. refl) K (sign c_do ∷ (us ++ (sign c_end ∷ []))) s c _ xs [] e
          (inserted (node 22 0 0) c ns xs [] e a)
          ∙ finds-then (sign c_end) (closed AfterStatement) refl (end-turns c_do refl) (f c) [] c _ _ (xs ++ (node 22 d 0 ∷ preorder_e x))
          (simp length-append (omega arith)) (simp append_assoc))
          (simp length-append (omega arith)) (simp append_assoc);
    }

-- the nodes of the condition go before those of the body, which has been read
repeats-found : {m : ℕ} {K : List Frame} {ts us : List Token} {x : Expr} {ms : List Node} (d : ℕ) → Inside 23 us ms K → IsExpr 0 ts x
    → FindsStmt m (sign 23 ∷ (us ++ (sign c_until ∷ timed ts d (sign c_end ∷ [])))) (node 23 d 0 ∷ preorder_e x ++ ms) K
unfolding steps step_of on_statement opened_node on_delay on_body top_code closed top_start hold_of
repeats-found {K} {ts} {ms} d f w =
    record {
      run = λ s c ns xs e a.
          read-bare
          (finds-then (sign c_until) conditioned refl until-turns (f c) (timed ts d (sign c_end ∷ [])) s (c + 1) _ (xs ++ (node 23 0 0 ∷ []))
          (simp length-append (omega arith)) (inserted-snoc (node 23 0 0) c ns xs [] e a)
          ∙ timed-found w d c_until 23 0 (λ r. r) refl refl (λ p c i K ns. refl) K (sign c_end ∷ []) _ c _ xs (ms ++ []) e
          (append_snoc xs (node 23 0 0) (ms ++ [])))
          (simp length-append (omega arith)) (simp append_assoc);
    }

stmt-found : {l : ℕ} {ts : List Token} {P : Code} → IsStmt l ts P → (K : List Frame) → Under (low_s l) K → FindsStmt (far_s l) ts (preorder P) K
unfolding step_of on_statement on_after_statement preorder hold_of reach_of top_code
stmt-found skip K u = finds-leaf (λ r. refl)
stmt-found (ticks d) K u = ticks-found d
stmt-found (becomes d x w) K u = becomes-found d x w
stmt-found (ifs d w f g) K u =
    ifs-found d w (λ p. stmt-found f (frame c_then p ∷ K) (omega arith)) (λ p. stmt-found g (frame c_else p ∷ K) (omega arith))
stmt-found (whiles d w f) K u = whiles-found d w (λ p. stmt-found f (frame c_do p ∷ K) (omega arith))
stmt-found (repeats d f w) K u = repeats-found d (λ p. stmt-found f (frame 23 p ∷ K) (omega arith)) w
stmt-found (braces f) K u = finds-group (sign c_right) refl (λ r. refl) braces-turn (λ p. stmt-found f (frame c_left p ∷ K) (omega arith))
stmt-found (sequence f g) K u =
    finds-operator (omega arith) u (omega arith) (omega arith) (λ p q c F ns ready. refl) (stmt-found f K (omega arith))
    (λ p. stmt-found g (frame 19 p ∷ K) (omega arith))
stmt-found (parallel f g) K u =
    finds-operator (omega arith) u (omega arith) (omega arith) (λ p q c F ns ready. refl) (stmt-found f K (omega arith))
    (λ p. stmt-found g (frame 20 p ∷ K) (omega arith))
stmt-found (IsStmt.up f) K u = finds-weaker (omega arith) (stmt-found f K (omega arith))

-- Whole texts --------------------------------------------------------------------------------------------------------------------------

complete-ready : (m q : ℕ) (F : List Frame) → Ready m 0 q F → complete AfterStatement (F ++ []) ≡ true
unfolding complete top_code hold_of
complete-ready m q F ready =
    ap (λ (K : List Frame). eqb (length K) 0)
    (pop-frames 0 0 q (F ++ []) ∙ ap (λ (z : Popped). z.frames) (pop-ready m 0 0 q F [] ready (omega arith) (omega arith)))

pub found : {ts : List Token} {P : Code} → Means ts P →
    let r = steps ts reader_at_first in
    Complete r × (r.nodes ≡ preorder P)
unfolding top_code hold_of
found {P} m =
    let a = (stmt-found m [] (omega arith)).run 0 0 [] [] refl refl in (
      ap (λ (r : Reader). complete r.mode r.frames) a.is ∙ complete-ready 1 a.start a.frames a.ready,
      ap (λ (r : Reader). r.nodes) a.is ∙ append-nil (preorder P),
    )

pub reader-finds : (end : ℕ) (ws : List Lexeme) (P : Code) → Means (tokens ws) P → read_from end reader_at_first ws ≡ good (preorder P)
reader-finds end ws P m = reads_whole end reader_at_first ws (found m).0 ∙ ap good (found m).1

-- where the steps stop, no continuation fits
pub breaks-at : (ts : List Token) (i : ℕ) → Stops reader_at_first ts i → Begins (take i ts) → BreaksAt ts i
breaks-at ts i s b =
    record {
      before = b;
      within = s.within;
      here = λ l c.
          let (us, P, m) = c in
          broken-incomplete us (steps (take (suc i) ts) reader_at_first) (s.here l)
          (ap (λ (r : Reader). complete r.mode r.frames) (sym (steps-append (take (suc i) ts) us reader_at_first)) ∙ (found m).0);
      none = λ P m. s.none (found m).0;
    }

pub broken-place : (end : ℕ) (ws : List Lexeme) (p : ℕ) → read_from end reader_at_first ws ≡ bad p →
    let ts = tokens ws in
    (i : ℕ) × (p ≡ place_at end ws i) × Stops reader_at_first ts i × (Begins (take i ts) → BreaksAt ts i)
unfolding is_broken
broken-place end ws p h =
    let (i, e, s) = reads-bad end reader_at_first ws p refl h in
    (i, e, s, breaks-at (tokens ws) i s)
