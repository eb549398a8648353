-- The parts of a text, as the reader goes over them: an operand or a statement above frames that stay as they are, and before nodes that do.
-- What a part leaves on the frames, operators between two parts, and the words that close or turn the frame below a part.
-- Assumes nothing: laws of model/Reader, for expressions and statements alike.
use Rattle.std.specs.Prelude.{◌≡◌, ℕ, ◌+◌, ◌<◌, ◌≤◌, length}
use Rattle.std.proofs.Math.Path.{refl, ap}
use Rattle.std.proofs.Common.{sym, ◌∙◌, ap₂, arith, length-append, take_at, drop_at, le-ltb, lt-ltb}
use mathlib.Core.List.{List, [], ◌∷◌, ◌++◌, append_assoc}
use Rattle.std.proofs.Math.Seq.{append_snoc}
use Rattle.model.specs.declared.Node.{Node}
use Rattle.model.specs.declared.texts.Token.{Token}
use Rattle.model.specs.declared.texts.Mode.{Mode}
use Rattle.model.specs.Program.{node}
use Rattle.model.specs.Text.{sign}
use Rattle.model.specs.Reader.{Frame, frame, Reader, reader, hold_of, reach_of, Popped, pop, top_code, top_start, insert_at, leaf, opened, between, closed, step_of}
use Rattle.laws.specs.Text.Runs.{steps, steps-append}

-- Frames -------------------------------------------------------------------------------------------------------------------------------

abbrev pub popped : ℕ → List Frame → Popped
popped p K = record { start = p; frames = K }

-- the frame on top holds no more tightly than m
abbrev pub Under : ℕ → List Frame → Type 0
Under m K = hold_of (top_code K) ≤ m

pop-stays : (r p : ℕ) (K : List Frame) → Under r K → pop r p K ≡ popped p K
unfolding pop top_code
pop-stays r p [] h = refl
pop-stays r p (f ∷ K) h = rw (le-ltb r (hold_of f.code) h, pop)

pop-takes : (r p c q : ℕ) (K : List Frame) → r < hold_of c → pop r p (frame c q ∷ K) ≡ pop r q K
unfolding pop
pop-takes r p c q K h = rw (lt-ltb r (hold_of c) h, pop)

-- A part that begins at node p has left the frames F, and a last operand that begins at q: what follows it and reaches back no further
-- than m takes all of F off, and finds what it would find if the part had left nothing.
abbrev pub Ready : ℕ → ℕ → ℕ → List Frame → Type 0
Ready m p q F = (K : List Frame) (r : ℕ) → r ≤ m → pop r q (F ++ K) ≡ pop r p K

pub pop-ready : (m r p q : ℕ) (F K : List Frame) → Ready m p q F → r ≤ m → Under r K → pop r q (F ++ K) ≡ popped p K
pop-ready m r p q F K ready l u = ready K r l ∙ pop-stays r p K u

-- Nodes --------------------------------------------------------------------------------------------------------------------------------

pub same-reader : {m : Mode} {p : ℕ} {fs gs : List Frame} {i j : ℕ} {ns ms : List Node} → fs ≡ gs → i ≡ j → ns ≡ ms
    → reader m p fs i ns ≡ reader m p gs j ms
same-reader {m} {p} x y z = λ i. reader m p (x i) (y i) (z i)

module _ (a : Node) (c : ℕ) (ns xs ys : List Node) (e : c ≡ length xs) (d : ns ≡ xs ++ ys) where
  pub inserted : insert_at c a ns ≡ xs ++ (a ∷ ys)
  inserted = rw d (ap₂ (λ (u v : List Node). u ++ (a ∷ v)) (take_at xs ys c (sym e)) (drop_at xs ys c (sym e)))

  pub inserted-snoc : insert_at c a ns ≡ xs ++ (a ∷ []) ++ ys
  inserted-snoc = inserted ∙ sym (append_snoc xs a ys)

-- Parts --------------------------------------------------------------------------------------------------------------------------------

-- r is a reader behind a part that began at node c, above the frames K
pub record Read (A : Mode) (m : ℕ) (K : List Frame) (c i : ℕ) (ns : List Node) (r : Reader) : Type 0 where
  pub start : ℕ
  pub frames : List Frame
  pub ready : Ready m c start frames
  pub is : r ≡ reader A start (frames ++ K) i ns

-- over the tokens of a part the reader goes from mode O to mode A, and puts the part's nodes ms at the cursor, before the nodes ys
pub record Finds (O A : Mode) (m : ℕ) (ts : List Token) (ms : List Node) (K : List Frame) (ys : List Node) : Type 0 where
  pub run : (s c : ℕ) (ns xs : List Node) → c ≡ length xs → ns ≡ xs ++ ys
      → Read A m K c (c + length ms) (xs ++ (ms ++ ys)) (steps ts (reader O s K c ns))

module _ {A : Mode} {m c i j : ℕ} {K : List Frame} {ns ms : List Node} {r : Reader} where
  -- a part that leaves no frame
  pub read-bare : r ≡ reader A c K i ns → i ≡ j → ns ≡ ms → Read A m K c j ms r
  read-bare e x y = record { start = c; frames = []; ready = λ K r l. refl; is = e ∙ same-reader refl x y }

  -- a part behind an operator k: the operator's frame is the last that is taken off
  pub read_behind : {n k b : ℕ} {q : Reader} → n < hold_of k → n ≤ m → r ≡ q → Read A m (frame k c ∷ K) b i ns q → i ≡ j → ns ≡ ms
      → Read A n K c j ms r
  read_behind {k} {b} hold l e p x y =
      let F = p.frames in
      record {
        start = p.start;
        frames = F ++ (frame k c ∷ []);
        ready = λ K r h. ap (pop r p.start) (append_snoc F (frame k c) K) ∙ p.ready (frame k c ∷ K) r (omega arith) ∙ pop-takes r b k c K (omega arith);
        is = e ∙ p.is ∙ same-reader (sym (append_snoc F (frame k c) K)) x y;
      }

module _ {O A : Mode} {K : List Frame} {ys : List Node} where
  pub finds-weaker : {m n : ℕ} {ts : List Token} {ms : List Node} → n ≤ m → Finds O A m ts ms K ys → Finds O A n ts ms K ys
  finds-weaker l f =
      record {
        run = λ s c ns xs e d.
            let a = f.run s c ns xs e d in
            record { start = a.start; frames = a.frames; ready = λ K r h. a.ready K r (omega arith); is = a.is };
      }

  pub finds-leaf : {m : ℕ} {t : Token} {a : Node} → ((r : Reader) → step_of O t r ≡ leaf A a r) → Finds O A m (t ∷ []) (a ∷ []) K ys
  unfolding steps leaf
  finds-leaf {a} told = record { run = λ s c ns xs e d. read-bare (told (reader O s K c ns)) refl (inserted a c ns xs ys e d) }

-- Operators ----------------------------------------------------------------------------------------------------------------------------

-- above K, behind a part, the operator k is taken for one between two parts
abbrev pub Joins : Mode → Mode → ℕ → ℕ → List Frame → Type 0
Joins O A m k K = (p q i : ℕ) (F : List Frame) (ns : List Node) → Ready m p q F →
    let r = reader A q (F ++ K) i ns in
    step_of A (sign k) r ≡ between O k r

between_is : (O A : Mode) (k m p q i : ℕ) (F K : List Frame) (ns : List Node) → Ready m p q F → reach_of k ≤ m → Under (reach_of k) K
    → between O k (reader A q (F ++ K) i ns) ≡ reader O p (frame k p ∷ K) (i + 1) (insert_at p (node k 0 0) ns)
unfolding between
between_is O A k m p q i F K ns ready reach under =
    ap (λ (z : Popped). reader O z.start (frame k z.start ∷ z.frames) (i + 1) (insert_at z.start (node k 0 0) ns))
    (pop-ready m (reach_of k) p q F K ready reach under)

-- it takes off what the left part has left, and its node goes before the left part's
pub finds-operator : {O A : Mode} {K : List Frame} {ys : List Node} {k m m' n : ℕ} {ts us : List Token} {ms ls : List Node}
    → reach_of k ≤ m → Under (reach_of k) K → n < hold_of k → n ≤ m' → Joins O A m k K
    → Finds O A m ts ms K ys → ((p : ℕ) → Finds O A m' us ls (frame k p ∷ K) ys)
    → Finds O A n (ts ++ (sign k ∷ us)) (node k 0 0 ∷ (ms ++ ls)) K ys
unfolding steps
finds-operator {O} {A} {K} {ys} {k} {m} {ts} {us} {ms} reach under hold l joins f g =
    record {
      run = λ s c ns xs e d.
          let a = f.run s c ns xs e d in
          let b = (g c).run c (c + length ms + 1) (insert_at c (node k 0 0) (xs ++ (ms ++ ys))) (xs ++ (node k 0 0 ∷ ms))
          (simp length-append (omega arith)) (inserted (node k 0 0) c _ xs (ms ++ ys) e refl ∙ simp append_assoc) in
          read_behind hold l
          (steps-append ts (sign k ∷ us) (reader O s K c ns) ∙ ap (steps (sign k ∷ us)) a.is
          ∙ ap (steps us)
          (joins c a.start _ a.frames _ a.ready ∙ between_is O A k m c a.start _ a.frames K _ a.ready reach under))
          b (simp length-append (omega arith)) (simp append_assoc);
    }

-- Words that close or turn the frame below a part --------------------------------------------------------------------------------------

-- in mode A, where a frame of code h is on top once what is complete is taken off, token t does g
abbrev pub Turns : Mode → Token → ℕ → (Reader → Reader) → Type 0
Turns A t h g = (p q c i : ℕ) (fs K : List Frame) (ns : List Node) → pop 0 q fs ≡ popped c (frame h p ∷ K)
    → step_of A t (reader A q fs i ns) ≡ g (reader A c (frame h p ∷ K) i ns)

module _ {O A : Mode} {m h : ℕ} {ts : List Token} {ms : List Node} {K : List Frame} {ys : List Node} (t : Token) where
  pub finds-then : {p : ℕ} (g : Reader → Reader) → hold_of h ≡ 0 → Turns A t h g → Finds O A m ts ms (frame h p ∷ K) ys
      → (rest : List Token) (s c : ℕ) (ns xs : List Node) → c ≡ length xs → ns ≡ xs ++ ys
      → steps (ts ++ (t ∷ rest)) (reader O s (frame h p ∷ K) c ns)
      ≡ steps rest (g (reader A c (frame h p ∷ K) (c + length ms) (xs ++ (ms ++ ys))))
  unfolding steps top_code
  finds-then {p} g hold turns f rest s c ns xs e d =
      let a = f.run s c ns xs e d in
      let K' = frame h p ∷ K in
      steps-append ts (t ∷ rest) (reader O s K' c ns) ∙ ap (steps (t ∷ rest)) a.is
      ∙ ap (steps rest)
      (turns p a.start c _ (a.frames ++ K') K _ (pop-ready m 0 c a.start a.frames K' a.ready (omega arith) (omega arith)))

  -- a part between brackets
  pub finds-group : {n : ℕ} {o : Token} → hold_of h ≡ 0 → ((r : Reader) → step_of O o r ≡ opened O h r) → Turns A t h (closed A)
      → ((p : ℕ) → Finds O A m ts ms (frame h p ∷ K) ys) → Finds O A n (o ∷ (ts ++ (t ∷ []))) ms K ys
  unfolding steps opened closed top_start
  finds-group hold opens closes f =
      record {
        run = λ s c ns xs e d.
            read-bare
            (ap (steps (ts ++ (t ∷ []))) (opens (reader O s K c ns)) ∙ finds-then (closed A) hold closes (f c) [] s c ns xs e d)
            refl refl;
      }
