-- The reader's steps over a list of tokens, and what a reading of words says of them.
-- A reading is good where the steps end with a whole statement; a bad one names the first word at which they break, or the end.
-- Assumes nothing: laws of model/Reader, from any reader.
use Rattle.std.specs.Prelude.{◌≡◌, refl, Bool, true, false, List, [], ◌∷◌, ◌++◌, ℕ, suc, ◌<◌, ◌≤◌, ltb, length, take}
use Rattle.std.proofs.Common.{sym, ◌∙◌, suc-le-suc, arith, not-suc-le-zero, le_of_suc-le-suc}
use Rattle.std.proofs.Math.Path.{ap}
use Rattle.model.specs.declared.Node.{Node}
use Rattle.model.specs.declared.texts.Token.{Token}
use Rattle.model.specs.declared.texts.Mode.{Mode}
use Rattle.model.specs.declared.texts.Mode.TheVariants.{Statement, AfterStatement, Operand, AfterOperand, Becomes, Ticks, Delay, Body, Broken}
use Rattle.model.specs.Text.{Lexeme, tokens}
use Rattle.model.specs.Reader.{Frame, Reader, hold_of, pop, step_of, step, is_broken, complete, Reading, good, bad, read_from}
use Rattle.model.specs.TextPromises.{place_at}
use Rattle.laws.specs.Refusals.Laws.{by_bool, not-both}

-- Steps --------------------------------------------------------------------------------------------------------------------------------

unfoldable pub steps : List Token → Reader → Reader
steps [] r = r
steps (t ∷ ts) r = steps ts (step t r)

pub steps-append : (ts us : List Token) (r : Reader) → steps (ts ++ us) r ≡ steps us (steps ts r)
unfolding steps
steps-append [] us r = refl
steps-append (t ∷ ts) us r = steps-append ts us (step t r)

-- a whole statement was read, and nothing is open
abbrev pub Complete : Reader → Type 0
Complete r = complete r.mode r.frames ≡ true

-- What is broken stays broken ----------------------------------------------------------------------------------------------------------

pub broken-mode : (m : Mode) → is_broken m ≡ true → m ≡ Broken
unfolding is_broken
broken-mode Statement e = not-both e refl
broken-mode AfterStatement e = not-both e refl
broken-mode Operand e = not-both e refl
broken-mode AfterOperand e = not-both e refl
broken-mode Becomes e = not-both e refl
broken-mode Ticks e = not-both e refl
broken-mode Delay e = not-both e refl
broken-mode Body e = not-both e refl
broken-mode Broken e = refl

pub stays-broken : (ts : List Token) (r : Reader) → r.mode ≡ Broken → steps ts r ≡ r
unfolding steps step_of
stays-broken [] r e = refl
stays-broken (t ∷ ts) r e = ap (λ (m : Mode). steps ts (step_of m t r)) e ∙ stays-broken ts r e

pub broken-incomplete : (ts : List Token) (r : Reader) → r.mode ≡ Broken → Complete (steps ts r) → ⊥
unfolding complete
broken-incomplete ts r e c =
    not-both c (ap (λ (r : Reader). complete r.mode r.frames) (stays-broken ts r e) ∙ ap (λ (m : Mode). complete m r.frames) e)

-- Readings -----------------------------------------------------------------------------------------------------------------------------

nodes-of : List Node → Reading → List Node
nodes-of ns (good ms) = ms
nodes-of ns (bad p) = ns

place_of : ℕ → Reading → ℕ
place_of p (good ns) = p
place_of p (bad q) = q

goods : Reading → ℕ
goods (good ns) = 1
goods (bad p) = 0

not_good : {A : Type 0} {p : ℕ} {ns : List Node} → bad p ≡ good ns → A
unfolding goods
not_good e = let z : ◌≡◌ {A = ℕ} 0 1 = ap goods e in absurd (omega arith)

-- the reading of no words, and of one word more, by the test that decides it
module _ (end : ℕ) (r : Reader) where
  pub reads_end : Complete r → read_from end r [] ≡ good r.nodes
  unfolding read_from
  reads_end e = rw (e, read_from)

  pub reads_short : complete r.mode r.frames ≡ false → read_from end r [] ≡ bad end
  unfolding read_from
  reads_short e = rw (e, read_from)

  module _ (w : Lexeme) (ws : List Lexeme) where
    -- where the step breaks, and where it does not
    by-step : Bool → Reading
    by-step b = elim b [ true ↦ bad w.place | false ↦ read_from end (step w.token r) ws ]

    pub reads-broken : is_broken (step w.token r).mode ≡ true → read_from end r (w ∷ ws) ≡ bad w.place
    unfolding read_from by-step
    reads-broken e = ap by-step e

    pub reads_on : is_broken (step w.token r).mode ≡ false → read_from end r (w ∷ ws) ≡ read_from end (step w.token r) ws
    unfolding read_from by-step
    reads_on e = ap by-step e

pub reads_whole : (end : ℕ) (r : Reader) (ws : List Lexeme) → Complete (steps (tokens ws) r)
    → read_from end r ws ≡ good (steps (tokens ws) r).nodes
unfolding steps
reads_whole end r [] c = reads_end end r c
reads_whole end r (w ∷ ws) c =
    let r' = step w.token r in
    by_bool (is_broken r'.mode) (λ e. absurd (broken-incomplete (tokens ws) r' (broken-mode r'.mode e) c))
    (λ e. reads_on end r w ws e ∙ reads_whole end r' ws c)

pub reads-good : (end : ℕ) (r : Reader) (ws : List Lexeme) (ns : List Node) → read_from end r ws ≡ good ns
    → Complete (steps (tokens ws) r) × (ns ≡ (steps (tokens ws) r).nodes)
unfolding steps nodes-of
reads-good end r [] ns h =
    by_bool (complete r.mode r.frames) (λ e. (e, ap (nodes-of ns) (sym h ∙ reads_end end r e)))
    (λ e. not_good (sym (reads_short end r e) ∙ h))
reads-good end r (w ∷ ws) ns h =
    let r' = step w.token r in
    by_bool (is_broken r'.mode) (λ e. not_good (sym (reads-broken end r w ws e) ∙ h))
    (λ e. reads-good end r' ws ns (sym (reads_on end r w ws e) ∙ h))

-- the steps over the words stop at word i: they have not broken before it, and they break there or end short of a statement
pub record Stops (r : Reader) (ts : List Token) (i : ℕ) : Type 0 where
  pub within : i ≤ length ts
  pub before : is_broken (steps (take i ts) r).mode ≡ false
  pub here : i < length ts → (steps (take (suc i) ts) r).mode ≡ Broken
  pub none : Complete (steps ts r) → ⊥

stops_end : (r : Reader) → is_broken r.mode ≡ false → complete r.mode r.frames ≡ false → Stops r [] 0
unfolding steps
stops_end r b e = record { within = omega arith; before = b; here = λ l. absurd (not-suc-le-zero l); none = λ c. not-both c e }

stops-here : (r : Reader) (t : Token) (ts : List Token) → is_broken r.mode ≡ false → is_broken (step t r).mode ≡ true → Stops r (t ∷ ts) 0
unfolding steps
stops-here r t ts b e =
    let m = broken-mode (step t r).mode e in
    record { within = omega arith; before = b; here = λ l. m; none = broken-incomplete ts (step t r) m }

stops-later : (r : Reader) (t : Token) (ts : List Token) (i : ℕ) → Stops (step t r) ts i → Stops r (t ∷ ts) (suc i)
unfolding steps
stops-later r t ts i s =
    record { within = suc-le-suc s.within; before = s.before; here = λ l. s.here (le_of_suc-le-suc l); none = s.none }

pub reads-bad : (end : ℕ) (r : Reader) (ws : List Lexeme) (p : ℕ) → is_broken r.mode ≡ false → read_from end r ws ≡ bad p
    → (i : ℕ) × (p ≡ place_at end ws i) × Stops r (tokens ws) i
unfolding place_at place_of
reads-bad end r [] p b h =
    by_bool (complete r.mode r.frames) (λ e. not_good (sym h ∙ reads_end end r e))
    (λ e. (0, ap (place_of p) (sym h ∙ reads_short end r e), stops_end r b e))
reads-bad end r (w ∷ ws) p b h =
    let t = w.token in
    by_bool (is_broken (step t r).mode)
    (λ e. (0, ap (place_of p) (sym h ∙ reads-broken end r w ws e), stops-here r t (tokens ws) b e))
    (λ e.
    let (i, q, s) = reads-bad end (step t r) ws p e (sym (reads_on end r w ws e) ∙ h) in
    (suc i, q, stops-later r t (tokens ws) i s))

-- Frames -------------------------------------------------------------------------------------------------------------------------------

-- what is taken off does not depend on where the part before began
pub pop-frames : (reach p q : ℕ) (fs : List Frame) → (pop reach p fs).frames ≡ (pop reach q fs).frames
unfolding pop
pop-frames reach p q [] = refl
pop-frames reach p q (f ∷ fs) = by_bool (ltb reach (hold_of f.code)) (λ e. rw (e, pop)) (λ e. rw (e, pop))
