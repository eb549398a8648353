-- Bytes past a state keep their values: beginning and each further instant write below the state's size only.
-- Assumes nothing.
use Rattle.std.specs.Prelude.{◌≡◌, true, false, ◌&&◌, List, ◌++◌, eqb, length, set, drop, replicate}
use Rattle.std.proofs.Math.Path.{refl}
use Rattle.std.proofs.Common.{◌∙◌, append_assoc, arith, length-append, eqb-true, drop_at, drop-set-lt}
use Rattle.std.proofs.Math.Bool.{Bool, not}
use Prim.Native.Nat.{ℕ, zero, suc, ◌+◌, ◌/◌, ◌%◌, ◌<◌, ◌≤◌}
use Rattle.std.proofs.lemmas.List.{length-replicate}
use Rattle.model.specs.declared.Cell.{Cell}
use Rattle.model.specs.declared.Format.{Format}
use Rattle.model.specs.declared.Format.TheVariants.{Full, Compact}
use Rattle.model.specs.declared.Merge.{Merge}
use Rattle.model.specs.Word.{pick, bit, element_of, put16, put32}
use Rattle.model.specs.Circuit.{Netlist, cell_at, Sig, high, Shape, shape, k_constant, k_complement, k_operator, k_start, k_ground, k_delay, k_or, k_when_true, k_when_false, k_merge, k_return, k_memory, k_gated, k_array, k_address, k_read, k_latch, k_unknown}
use Rattle.model.specs.State.{instant_of, up_to, shifted_in, word_bytes, cell_size, base, state_size, element_base, now_at, before_at, taken_in, remaining_byte, value, first_value, aged, stored, shown, holding, settle, settled, counted, blank, evaluate, begin_state, step_state}
use Rattle.model.specs.CircuitPromises.{state_at}
use Rattle.laws.specs.Refusals.Laws.{and-true}
use Rattle.laws.specs.Circuit.Ordered.{Ordered}
use Rattle.laws.specs.State.Lines.{least, below, remaining-within, behind}
use Rattle.theory.specs.State.Begin.{length-words}

-- t has the bytes of s from n on
abbrev Past : ℕ → List ℕ → List ℕ → Type 0
Past n s t = drop n t ≡ drop n s

past-set : (n : ℕ) (s : List ℕ) (i v : ℕ) → i < n → Past n s (set s i v)
past-set n s i v l = drop-set-lt n s i v l

past-put16 : (n : ℕ) (s : List ℕ) (i v : ℕ) → i + 1 < n → Past n s (put16 s i v)
unfolding put16
past-put16 n s i v l = past-set n (set s i (v % 256)) (i + 1) (v / 256) l ∙ past-set n s i (v % 256) (omega arith)

past-put32 : (n : ℕ) (s : List ℕ) (i v : ℕ) → i + 4 ≤ n → Past n s (put32 s i v)
unfolding put32
past-put32 n s i v l = past-put16 n (put16 s i (v % 65536)) (i + 2) (v / 65536) (omega arith) ∙ past-put16 n s i (v % 65536) (omega arith)

past-shifted : (n m : ℕ) (s : List ℕ) (i x : ℕ) → i + m ≤ n → Past n s (shifted_in m s i x)
unfolding shifted_in
past-shifted n zero s i x l = refl
past-shifted n (suc m) s i x l = past-shifted n m (set s i _) (i + 1) _ (omega arith) ∙ past-set n s i _ (omega arith)

past-taken : (F : Format) (n : ℕ) (s : List ℕ) (k d : ℕ) (x : Bool) → base F k + cell_size F ≤ n → Past n s (taken_in F s k d x)
unfolding taken_in
past-taken Full n s k d x l = past-shifted n 32 s (base Full k + 8) _ (omega arith)
past-taken Compact n s k d x l = past-set n s (base Compact k + 6) _ (omega arith)

module _ (F : Format) where
  past-holding : (n : ℕ) (s : List ℕ) (k : ℕ) (m : Merge) → base F k + cell_size F ≤ n → Past n s (holding F s k m)
  unfolding holding
  past-holding n s k m l =
      past-set n (set s (base F k + 4) (bit m.a)) (base F k + 5) (bit m.b) (omega (arith, least F)) ∙ past-set n s (base F k + 4) (bit m.a) (omega (arith, least F))

  past-settle : (w n : ℕ) (sh : Shape) (s : List ℕ) (k : ℕ) (c : Cell) → base F k + cell_size F ≤ n → Past n s (settle F w sh s k c)
  unfolding settle
  past-settle w n k_constant s k c l = refl
  past-settle w n k_complement s k c l = refl
  past-settle w n k_operator s k c l = refl
  past-settle w n k_start s k c l = past-set n s (remaining_byte F k) _ (omega (arith, remaining-within F k))
  past-settle w n k_ground s k c l = refl
  past-settle w n k_delay s k c l = past-taken F n s k c.delay _ l
  past-settle w n k_or s k c l = refl
  past-settle w n k_when_true s k c l = refl
  past-settle w n k_when_false s k c l = refl
  past-settle w n k_merge s k c l = past-holding n s k _ l
  past-settle w n k_return s k c l = past-holding n s k _ l
  past-settle w n k_memory s k c l = refl
  past-settle w n k_gated s k c l = refl
  past-settle w n k_array s k c l = refl
  past-settle w n k_address s k c l = refl
  past-settle w n k_read s k c l = refl
  past-settle w n k_latch s k c l = refl
  past-settle w n k_unknown s k c l = refl

  -- a pass over m cells
  past-pass : (n : ℕ) (f : List ℕ → ℕ → List ℕ) (m : ℕ) → ((s : List ℕ) (k : ℕ) → k < m → Past n s (f s k)) → (s : List ℕ) → Past n s (up_to f m s)
  unfolding up_to
  past-pass n f zero h s = refl
  past-pass n f (suc m) h s = h (up_to f m s) m (omega arith) ∙ past-pass n f m (λ s k l. h s k (omega arith)) s

  module _ (net : Netlist) (ordered : Ordered net.cells) where
    past-settled : (s : List ℕ) (k : ℕ) → k < length net.cells → Past (state_size F net) s (settled F net s k)
    past-settled s k l = past-settle net.pulse (state_size F net) (shape (cell_at net.cells k).kind) s k (cell_at net.cells k) (omega (arith, below F k (length net.cells) l))

    -- an array's word is among the 256
    past-stored : (s : List ℕ) (k : ℕ) → k < length net.cells → Past (state_size F net) s (stored F net s k)
    unfolding stored
    past-stored s k l = go (eqb (cell_at net.cells k).kind 42 && falls) refl
      where
        falls : Bool
        falls = high (before_at F s (cell_at net.cells k).a) && not (high (now_at F s (cell_at net.cells k).a))

        w : ℕ
        w = before_at F s (cell_at net.cells (k + 1)).a

        go : (q : Bool) → (eqb (cell_at net.cells k).kind 42 && falls) ≡ q
            → Past (state_size F net) s (pick q (put16 s (element_base F net (element_of (cell_at net.cells k).delay w)) (before_at F s (cell_at net.cells k).b)) s)
        go false e = refl
        go true e =
            let o = ordered.stands k l (eqb-true _ _ (and-true (eqb (cell_at net.cells k).kind 42) falls e).0) in
            past-put16 (state_size F net) s _ _ (omega (arith, o.0))

    past-shown : (v : List ℕ → ℕ → ℕ) (s : List ℕ) (k : ℕ) → k < length net.cells → Past (state_size F net) s (shown F net v s k)
    unfolding shown
    past-shown v s k l = past-put16 (state_size F net) (stored F net s k) (base F k) (v s k) (omega (arith, behind F k (length net.cells) l)) ∙ past-stored s k l

    past-aged : (s : List ℕ) (k : ℕ) → k < length net.cells → Past (state_size F net) s (aged F s k)
    unfolding aged
    past-aged s k l = past-put16 (state_size F net) s (base F k + 2) _ (omega (arith, behind F k (length net.cells) l))

    past-blank : (words : ℕ → ℕ) (lent : List ℕ) → Past (state_size F net) lent (blank F net words lent)
    past-blank words lent =
        rw (← append_assoc (replicate (base F (length net.cells)) 0) (word_bytes words 16 256) (drop (state_size F net) lent))
        (drop_at (replicate (base F (length net.cells)) 0 ++ word_bytes words 16 256) (drop (state_size F net) lent) (state_size F net)
        (simp (length-append, length-replicate) (omega (arith, length-words words 16 256))))

    past-evaluate : (v : List ℕ → ℕ → ℕ) (u : List ℕ) → Past (state_size F net) u (evaluate F net v u)
    unfolding evaluate counted
    past-evaluate v u =
        past-put32 (state_size F net) _ 4 _ (omega arith)
        ∙ past-pass (state_size F net) (settled F net) (length net.cells) past-settled _
        ∙ past-pass (state_size F net) (shown F net v) (length net.cells) (past-shown v) _

    past-begin : (words : ℕ → ℕ) (lent : List ℕ) → Past (state_size F net) lent (begin_state F net words lent)
    unfolding begin_state
    past-begin words lent = past-evaluate (first_value F net words) (blank F net words lent) ∙ past-blank words lent

    past-step : (starts : Bool) (s : List ℕ) → Past (state_size F net) s (step_state F net starts s)
    unfolding step_state
    past-step starts s =
        past-evaluate (value F net starts) _
        ∙ past-pass (state_size F net) (aged F) (length net.cells) past-aged _
        ∙ past-put32 (state_size F net) s 0 (instant_of s + 1) (omega arith)

    pub past-state : (starts : Sig) (words : ℕ → ℕ) (lent : List ℕ) (t : ℕ)
        → drop (state_size F net) (state_at F net starts words lent t) ≡ drop (state_size F net) lent
    unfolding state_at
    past-state starts words lent zero = past-begin words lent
    past-state starts words lent (suc t) = past-step (starts (suc t)) (state_at F net starts words lent t) ∙ past-state starts words lent t
