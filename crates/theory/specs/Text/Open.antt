-- What is open while a text is read, as a stack: each frame is the beginning of a phrase of the grammar, with a hole where the next one goes.
-- A frame knows the tokens and the nodes of its beginning, and the level that the phrase in its hole must have.
-- Assumes nothing: definitions, and laws of model/Text and of the binding in model/Reader.
use Rattle.std.specs.Prelude.{◌≡◌, refl, Bool, true, false, ◌&&◌, List, [], ◌∷◌, ◌++◌, ℕ, zero, suc, ◌+◌, ◌-◌, ◌*◌, ◌≤◌, ◌<◌, length, ltb}
use Rattle.std.proofs.Common.{sym, subst, append_assoc, append-nil, arith, ltb-true, ltb-false}
use Rattle.std.proofs.Math.Dec.{leb-suc-zero}
use Rattle.model.specs.declared.Node.{Node}
use Rattle.model.specs.declared.texts.Token.{Token}
use Rattle.model.specs.Program.{Expr, const, Code, ok, node, preorder_e, preorder}
use Rattle.model.specs.Text.{numeral, name, sign, c_then, c_else, c_do, c_until, c_end, c_at, c_open, c_close, c_left, c_right, Left, Comparison, IsExpr, timed, IsStmt, Begins}
use Rattle.model.specs.Reader.{Frame, frame, hold_of, reach_of, pop, top_code, comparison}
use Rattle.laws.specs.Refusals.Laws.{not-both}

-- Phrases ------------------------------------------------------------------------------------------------------------------------------

pub data Sort : Type 0 where
  expression : Sort
  statement : Sort

-- the level of a phrase that holds together by itself
abbrev pub top : Sort → ℕ
top expression = 4
top statement = 2

-- the tokens are a phrase of a sort and a level, with these nodes
pub data Fits : Sort → ℕ → List Token → List Node → Type 0 where
  expr : {l : ℕ} {ts : List Token} {e : Expr} → IsExpr l ts e → Fits expression l ts (preorder_e e)
  stmt : {l : ℕ} {ts : List Token} {P : Code} → IsStmt l ts P → Fits statement l ts (preorder P)

down : {s : Sort} {l : ℕ} {ts : List Token} {ns : List Node} → Fits s (suc l) ts ns → Fits s l ts ns
down (expr d) = expr (IsExpr.up d)
down (stmt d) = stmt (IsStmt.up d)

down_by : {s : Sort} {ts : List Token} {ns : List Node} (k l : ℕ) → Fits s (k + l) ts ns → Fits s l ts ns
down_by zero l p = let e : zero + l ≡ l = omega arith in rw e at p
down_by (suc k) l p = let e : suc k + l ≡ suc (k + l) = omega arith in down_by k l (down (rw e at p))

-- a phrase of a level is one of each lower level
pub lower : {s : Sort} {ts : List Token} {ns : List Node} (l : ℕ) {m : ℕ} → l ≤ m → Fits s m ts ns → Fits s l ts ns
lower l {m} h p = let e : m ≡ (m - l) + l = omega arith in down_by (m - l) l (rw e at p)

-- Operators ----------------------------------------------------------------------------------------------------------------------------

-- k is an operator of a sort: the levels of its left and its right side, and of the whole
pub data Binary : Sort → ℕ → ℕ → ℕ → ℕ → Type 0 where
  left : {l k : ℕ} → Left l k → Binary expression k l (suc l) l
  compare : {k : ℕ} → Comparison k → Binary expression k 3 3 2
  sequence : Binary statement 19 2 1 1
  parallel : Binary statement 20 1 0 0

join : {s : Sort} {k a b g : ℕ} {us vs : List Token} {ms ns : List Node} → Binary s k a b g → Fits s a us ms → Fits s b vs ns
    → Fits s g (us ++ (sign k ∷ vs)) (node k 0 0 ∷ (ms ++ ns))
unfolding preorder_e preorder
join (left o) (expr d) (expr d') = expr (IsExpr.left o d d')
join (compare o) (expr d) (expr d') = expr (IsExpr.compare o d d')
join sequence (stmt d) (stmt d') = stmt (IsStmt.sequence d d')
join parallel (stmt d) (stmt d') = stmt (IsStmt.parallel d d')

-- an operator with what stands before its right side: its code, the level of that side and of the whole, its tokens and its nodes
pub data Piece : Sort → ℕ → ℕ → ℕ → List Token → List Node → Type 0 where
  complement : Piece expression 3 4 4 (sign 3 ∷ []) (node 3 0 0 ∷ [])
  binary : {s : Sort} {k a b g : ℕ} {us : List Token} {ns : List Node} → Binary s k a b g → Fits s a us ns
      → Piece s k b g (us ++ (sign k ∷ [])) (node k 0 0 ∷ ns)

-- the right side of an operator is read
pub fill : {s : Sort} {k b g : ℕ} {us vs : List Token} {ms ns : List Node} → Piece s k b g us ms → Fits s b vs ns → Fits s g (us ++ vs) (ms ++ ns)
unfolding preorder_e
fill complement (expr d) = expr (IsExpr.complement d)
fill {s} {g = g} {vs = vs} {ns = ns} (binary {k = k} {us = us} {ns = ms} o p) q =
    subst (λ (ts : List Token). Fits s g ts (node k 0 0 ∷ (ms ++ ns))) (sym (append_assoc us (sign k ∷ []) vs)) (join o p q)

-- What an operator holds, and how far it reaches, against the levels of its sides. Expressions group to the left and statements to the right,
-- which the edge of 1 or 2 says.
abbrev pub edge : Sort → ℕ
edge expression = 1
edge statement = 2

pub record Bounds (s : Sort) (k b g : ℕ) : Type 0 where
  pub gives : hold_of k ≤ 2 * g + 3
  pub wants : 2 * b + edge s ≤ hold_of k
  pub holds : 1 ≤ hold_of k
  pub most : b ≤ top s

pub record Reaches (s : Sort) (k a : ℕ) : Type 0 where
  pub far : 2 * a + 1 ≤ reach_of k
  pub most : a ≤ top s

pub reaches : {s : Sort} {k a b g : ℕ} → Binary s k a b g → Reaches s k a
unfolding reach_of
reaches (left Left.sum) = omega arith
reaches (left Left.difference) = omega arith
reaches (left Left.and) = omega arith
reaches (left Left.or) = omega arith
reaches (compare Comparison.equal) = omega arith
reaches (compare Comparison.less) = omega arith
reaches sequence = omega arith
reaches parallel = omega arith

pub bounds : {s : Sort} {k b g : ℕ} {us : List Token} {ns : List Node} → Piece s k b g us ns → Bounds s k b g
unfolding hold_of
bounds complement = omega arith
bounds (binary (left Left.sum) p) = omega arith
bounds (binary (left Left.difference) p) = omega arith
bounds (binary (left Left.and) p) = omega arith
bounds (binary (left Left.or) p) = omega arith
bounds (binary (compare Comparison.equal) p) = omega arith
bounds (binary (compare Comparison.less) p) = omega arith
bounds (binary sequence p) = omega arith
bounds (binary parallel p) = omega arith

-- a comparison holds 7, and no other operator that is not above it wants more than level 2
unchained : {k b g : ℕ} {us : List Token} {ns : List Node} → Piece expression k b g us ns → comparison k ≡ false → hold_of k ≤ 7 → b ≤ 2
unfolding hold_of
unchained complement c h = omega arith
unchained (binary (left Left.sum) p) c h = omega arith
unchained (binary (left Left.difference) p) c h = omega arith
unchained (binary (left Left.and) p) c h = omega arith
unchained (binary (left Left.or) p) c h = omega arith
unchained (binary (compare Comparison.equal) p) c h = not-both refl c
unchained (binary (compare Comparison.less) p) c h = not-both refl c

-- an operator that is not taken off by a new one has room for all of what the new one makes
pub has_room : {s : Sort} {k a b g k' b' g' : ℕ} {us : List Token} {ns : List Node} → Binary s k a b g → Piece s k' b' g' us ns → hold_of k' ≤ reach_of k
    → (comparison k && comparison k') ≡ false → b' ≤ g
unfolding reach_of
has_room (left Left.sum) p h c = omega (arith, (bounds p).wants)
has_room (left Left.difference) p h c = omega (arith, (bounds p).wants)
has_room (left Left.and) p h c = omega (arith, (bounds p).wants)
has_room (left Left.or) p h c = omega (arith, (bounds p).wants)
has_room (compare Comparison.equal) p h c = unchained p c h
has_room (compare Comparison.less) p h c = unchained p c h
has_room sequence p h c = omega (arith, (bounds p).wants)
has_room parallel p h c = omega (arith, (bounds p).wants)

-- Brackets -----------------------------------------------------------------------------------------------------------------------------

-- a phrase that is begun, up to a hole in which any phrase of its sort may stand: its code, its sort, the nodes behind it; the sort of the
-- hole, the tokens and the nodes before the hole, and the nodes behind the hole
pub data Bracket : ℕ → Sort → List Node → Sort → List Token → List Node → List Node → Type 0 where
  parens : {zs : List Node} → Bracket c_open expression zs expression (sign c_open ∷ []) [] zs
  becomes : (x : ℕ) → Bracket 18 statement [] expression (name x ∷ (sign 18 ∷ [])) (node 18 0 x ∷ []) []
  ifs : Bracket 21 statement [] expression (sign 21 ∷ []) (node 21 0 0 ∷ []) []
  thens : (d : ℕ) {ts : List Token} {e : Expr} → IsExpr 0 ts e
      → Bracket c_then statement [] statement (sign 21 ∷ timed ts d (sign c_then ∷ [])) (node 21 d 0 ∷ preorder_e e) []
  elses : (d : ℕ) {ts us : List Token} {e : Expr} {P : Code} → IsExpr 0 ts e → IsStmt 0 us P
      → Bracket c_else statement [] statement (sign 21 ∷ timed ts d (sign c_then ∷ (us ++ (sign c_else ∷ [])))) (node 21 d 0 ∷ (preorder_e e ++ preorder P)) []
  whiles : Bracket 22 statement [] expression (sign 22 ∷ []) (node 22 0 0 ∷ []) []
  does : (d : ℕ) {ts : List Token} {e : Expr} → IsExpr 0 ts e
      → Bracket c_do statement [] statement (sign 22 ∷ timed ts d (sign c_do ∷ [])) (node 22 d 0 ∷ preorder_e e) []
  repeats : Bracket 23 statement [] statement (sign 23 ∷ []) (node 23 0 0 ∷ []) []
  -- the nodes of the condition go before those of the body
  untils : {us : List Token} {P : Code} → IsStmt 0 us P
      → Bracket c_until statement [] expression (sign 23 ∷ (us ++ (sign c_until ∷ []))) (node 23 0 0 ∷ []) (preorder P)
  braces : Bracket c_left statement [] statement (sign c_left ∷ []) [] []

holds-nothing : {k : ℕ} {s s' : Sort} {us : List Token} {zs ns ys : List Node} → Bracket k s zs s' us ns ys → hold_of k ≡ 0
unfolding hold_of
holds-nothing parens = refl
holds-nothing (becomes x) = refl
holds-nothing ifs = refl
holds-nothing (thens d h) = refl
holds-nothing (elses d h h') = refl
holds-nothing whiles = refl
holds-nothing (does d h) = refl
holds-nothing repeats = refl
holds-nothing (untils h) = refl
holds-nothing braces = refl

-- The stack ----------------------------------------------------------------------------------------------------------------------------

-- the frames; the sort and the level of what is expected next, the tokens and the nodes before it, and the nodes behind it
pub data Open : List Frame → Sort → ℕ → List Token → List Node → List Node → Type 0 where
  whole : Open [] statement 0 [] [] []
  operator : {fs : List Frame} {s : Sort} {w k b g : ℕ} {ts us : List Token} {xs ns zs : List Node} → Open fs s w ts xs zs → Piece s k b g us ns → w ≤ g
      → Open (frame k (length xs) ∷ fs) s b (ts ++ us) (xs ++ ns) zs
  bracket : {fs : List Frame} {s s' : Sort} {w k : ℕ} {ts us : List Token} {xs ns zs ys : List Node} → Open fs s w ts xs zs → Bracket k s zs s' us ns ys
      → Open (frame k (length xs) ∷ fs) s' 0 (ts ++ us) (xs ++ ns) ys

-- no hole wants more than a phrase that holds together by itself
pub low-enough : {fs : List Frame} {s : Sort} {w : ℕ} {ts : List Token} {xs zs : List Node} → Open fs s w ts xs zs → w ≤ top s
low-enough whole = omega arith
low-enough (operator o p h) = (bounds p).most
low-enough (bracket o b) = omega arith

-- a statement goes behind all nodes
pub nothing-behind : {fs : List Frame} {w : ℕ} {ts : List Token} {xs zs : List Node} → Open fs statement w ts xs zs → zs ≡ []
nothing-behind whole = refl
nothing-behind (operator o p h) = nothing-behind o
nothing-behind (bracket o (thens d h)) = refl
nothing-behind (bracket o (elses d h h')) = refl
nothing-behind (bracket o (does d h)) = refl
nothing-behind (bracket o repeats) = refl
nothing-behind (bracket o braces) = refl

-- Taking off ---------------------------------------------------------------------------------------------------------------------------

-- a phrase of level a or more was read in the hole: its first node, the frames, the nodes up to its end and behind it, the tokens
pub data After (s : Sort) (a : ℕ) : ℕ → List Frame → List Node → List Node → List Token → Type 0 where
  after : {fs : List Frame} {w l : ℕ} {ts us : List Token} {xs ns zs : List Node} → Open fs s w ts xs zs → Fits s l us ns → w ≤ l → a ≤ l
      → After s a (length xs) fs (xs ++ ns) zs (ts ++ us)

-- The operators on top that are complete are taken off: each makes a phrase of its own level of what was read, and the frame below has room for
-- it. None of those that hold more than the reach makes one below level a.
pub pop-after : {s : Sort} {fs : List Frame} {w l : ℕ} {ts us : List Token} {xs ns zs : List Node} (reach a : ℕ)
    → ((g : ℕ) → reach < 2 * g + 3 → a ≤ g) → Open fs s w ts xs zs → Fits s l us ns → w ≤ l → a ≤ l
    → After s a (pop reach (length xs) fs).start (pop reach (length xs) fs).frames (xs ++ ns) zs (ts ++ us)
unfolding pop
pop-after reach a m whole p h h' = after whole p h h'
pop-after {s} {us = us} {ns = ns} reach a m (operator {fs = fs} {k = k} {b = b} {g = g} {ts = ts} {us = us'} {xs = xs} {ns = ns'} {zs = zs} o q r) p h h' =
    go (λ i. pop-after reach a m o (fill q (lower b h p)) r i) (ltb reach (hold_of k)) refl
  where
    go : (a ≤ g → After s a (pop reach (length xs) fs).start (pop reach (length xs) fs).frames (xs ++ (ns' ++ ns)) zs (ts ++ (us' ++ us)))
        → (t : Bool) → ltb reach (hold_of k) ≡ t
        → After s a (pop reach (length (xs ++ ns')) (frame k (length xs) ∷ fs)).start (pop reach (length (xs ++ ns')) (frame k (length xs) ∷ fs)).frames (xs ++ ns' ++ ns) zs (ts ++ us' ++ us)
    go f true e = rw (e, pop, append_assoc xs ns' ns, append_assoc ts us' us) (f (m g (omega (arith, ltb-true reach (hold_of k) e, (bounds q).gives))))
    go f false e = rw (e, pop) (after (operator o q r) p h h')
pop-after reach a m (bracket {k = k} o b) p h h' =
    let e : ltb reach (hold_of k) ≡ false = rw (holds-nothing b) (leb-suc-zero reach) in
    rw (e, pop) (after (bracket o b) p h h')

-- what is left on top holds no more than the reach
pub pop-top : (reach p : ℕ) (fs : List Frame) → hold_of (top_code (pop reach p fs).frames) ≤ reach
unfolding pop top_code hold_of
pop-top reach p [] = omega arith
pop-top reach p (f ∷ fs) = go (pop-top reach f.start fs) (ltb reach (hold_of f.code)) refl
  where
    go : hold_of (top_code (pop reach f.start fs).frames) ≤ reach → (t : Bool) → ltb reach (hold_of f.code) ≡ t
        → hold_of (top_code (pop reach p (f ∷ fs)).frames) ≤ reach
    go h true e = rw (e, pop) h
    go h false e = rw (e, pop) (ltb-false reach (hold_of f.code) e)

-- Some continuation fits ---------------------------------------------------------------------------------------------------------------

pub shorter : (ts us : List Token) → Begins (ts ++ us) → Begins ts
shorter ts us (vs, P, d) = (us ++ vs, P, rw append_assoc at d)

-- the shortest phrases
simple : IsStmt 0 (sign 16 ∷ []) ok
simple = IsStmt.up (IsStmt.up IsStmt.skip)

nought : IsExpr 0 (numeral 0 ∷ []) (const 0)
nought = IsExpr.up (IsExpr.up (IsExpr.up (IsExpr.up (IsExpr.number 0))))

-- what ends a bracket whose hole is filled, whatever its nodes
record Ends (s : Sort) (ts : List Token) : Type 0 where
  rest : List Token
  nodes : List Node
  phrase : Fits s (top s) (ts ++ rest) nodes

ends : {s : Sort} {ts us : List Token} {ns : List Node} (rest : List Token) → ts ++ rest ≡ us → Fits s (top s) us ns → Ends s ts
ends {s} {ns = ns} rest e p = record { rest = rest; nodes = ns; phrase = subst (λ (us : List Token). Fits s (top s) us ns) (sym e) p }

closes : {k : ℕ} {s s' : Sort} {us vs : List Token} {zs ns ms ys : List Node} → Bracket k s zs s' us ns ys → Fits s' 0 vs ms → Ends s (us ++ vs)
closes parens (expr d) = ends (sign c_close ∷ []) refl (expr (IsExpr.parens d))
closes (becomes x) (expr d) = ends (sign c_at ∷ (numeral 0 ∷ [])) refl (stmt (IsStmt.becomes 0 x d))
closes ifs (expr d) =
    ends (sign c_at ∷ (numeral 0 ∷ (sign c_then ∷ (sign 16 ∷ (sign c_else ∷ (sign 16 ∷ (sign c_end ∷ []))))))) refl (stmt (IsStmt.ifs 0 d simple simple))
closes (thens k e) (stmt d) = ends (sign c_else ∷ (sign 16 ∷ (sign c_end ∷ []))) (simp append_assoc) (stmt (IsStmt.ifs k e d simple))
closes (elses k e d) (stmt d') = ends (sign c_end ∷ []) (simp append_assoc) (stmt (IsStmt.ifs k e d d'))
closes whiles (expr d) =
    ends (sign c_at ∷ (numeral 0 ∷ (sign c_do ∷ (sign 16 ∷ (sign c_end ∷ []))))) refl (stmt (IsStmt.whiles 0 d simple))
closes (does k e) (stmt d) = ends (sign c_end ∷ []) (simp append_assoc) (stmt (IsStmt.whiles k e d))
closes repeats (stmt d) = ends (sign c_until ∷ (numeral 0 ∷ (sign c_at ∷ (numeral 0 ∷ (sign c_end ∷ []))))) refl (stmt (IsStmt.repeats 0 d nought))
closes (untils d) (expr e) = ends (sign c_at ∷ (numeral 0 ∷ (sign c_end ∷ []))) (simp append_assoc) (stmt (IsStmt.repeats 0 d e))
closes braces (stmt d) = ends (sign c_right ∷ []) refl (stmt (IsStmt.braces d))

pub begins-open : {fs : List Frame} {s : Sort} {w l : ℕ} {ts us : List Token} {xs ns zs : List Node} → Open fs s w ts xs zs → Fits s l us ns → w ≤ l
    → Begins (ts ++ us)
begins-open whole p h = from (lower 0 h p)
  where
    from : {us : List Token} {ns : List Node} → Fits statement 0 us ns → Begins us
    from {us} (stmt {P = P} d) = ([], P, rw append-nil d)
begins-open {us = us} (operator {ts = ts} {us = us'} o q r) p h = rw append_assoc (begins-open o (fill q (lower _ h p)) r)
begins-open {us = us} (bracket {ts = ts} {us = us'} o b) p h =
    let c = closes b (lower 0 h p) in
    shorter (ts ++ us' ++ us) c.rest (simp append_assoc (simp append_assoc at (begins-open o c.phrase (low-enough o))))
