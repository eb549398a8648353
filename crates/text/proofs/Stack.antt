-- The frames that a stack has: one more, the one on top, all but that, and what is taken off. Assumes nothing.
use Rattle.std.proofs.Common.{◌≡◌, true, false, ℕ, zero, suc, ◌+◌, ◌-◌, ◌<◌, ◌≤◌, List, ◌∷◌, [], length, get_or, take, drop, set, length-take, ltb-true, ltb-false, sym, refl, ap, add-one, arith, get_or-set_other, get_or-set_same, le-ltb, lt-ltb}
use Rattle.std.proofs.Math.Seq.{take-suc}
use Rattle.std.proofs.lemmas.List.{reverse-append, length-reverse}
use Rattle.std.proofs.lemmas.List.Sums.{prefix_len-le-length}
use Rattle.std.specs.Prelude.{reverse}
use Rattle.std.specs.List.{suffix_len}
use Rattle.laws.specs.Refusals.Laws.{by_bool}
use Rattle.model.specs.Reader.{Popped, hold_of, pop, top_code, top_start}
use Rattle.text.specs.declared.frames.Open.{Open}
use Rattle.text.specs.Shown.{frame_of, no_frame, frames_in, tight, Pops}

module _ (stack : List Open) where
  -- a store at the height of the stack, or above it
  frames-set : (h i : ℕ) (x : Open) → h ≤ i → frames_in (set stack i x) h ≡ frames_in stack h
  unfolding frames_in
  frames-set zero i x le = refl
  frames-set (suc h) i x le = rw (get_or-set_other stack i h x no_frame (λ e. omega arith), frames-set h i x (omega arith)) refl

  pub frames-push : (h : ℕ) (x : Open) → h < length stack → frames_in (set stack h x) (h + 1) ≡ frame_of x ∷ frames_in stack h
  unfolding frames_in
  frames-push h x lt = rw (add-one h, get_or-set_same stack h x no_frame lt, frames-set h h x (omega arith)) refl

  pub frames-length : (h : ℕ) → length (frames_in stack h) ≡ h
  unfolding frames_in
  frames-length zero = refl
  frames-length (suc h) = ap suc (frames-length h)

  pub frames-drop : (h : ℕ) → drop 1 (frames_in stack h) ≡ frames_in stack (h - 1)
  unfolding frames_in
  frames-drop zero = refl
  frames-drop (suc h) = let e : suc h - 1 ≡ h = omega arith in rw e refl

  -- The frame on top ------------------------------------------------------------------------------------------------------------------

  pub code-none : (h : ℕ) → h ≡ 0 → 0 ≡ top_code (frames_in stack h)
  unfolding frames_in top_code
  code-none h e = rw e refl

  pub code-some : (h : ℕ) → (h ≡ 0 → ⊥) → (get_or stack (h - 1) no_frame).code ≡ top_code (frames_in stack h)
  unfolding frames_in top_code
  code-some zero n = absurd (n refl)
  code-some (suc h) n = let e : suc h - 1 ≡ h = omega arith in rw e refl

  pub start_none : (h : ℕ) → h ≡ 0 → 0 ≡ top_start (frames_in stack h)
  unfolding frames_in top_start
  start_none h e = rw e refl

  pub start-some : (h : ℕ) → (h ≡ 0 → ⊥) → (get_or stack (h - 1) no_frame).start ≡ top_start (frames_in stack h)
  unfolding frames_in top_start
  start-some zero n = absurd (n refl)
  start-some (suc h) n = let e : suc h - 1 ≡ h = omega arith in rw e refl

  -- What is taken off -----------------------------------------------------------------------------------------------------------------

  abbrev at : ℕ → ℕ → Popped
  at p h = record { start = p; frames = frames_in stack h }

  module _ (reach p : ℕ) where
    pub pop-more : (h : ℕ) → reach < hold_of (get_or stack h no_frame).code
        → pop reach p (frames_in stack (h + 1)) ≡ pop reach (get_or stack h no_frame).start (frames_in stack h)
    unfolding frames_in pop
    pop-more h t = rw (add-one h, lt-ltb reach (hold_of (get_or stack h no_frame).code) t, pop) refl

    pub pop-stays : (h : ℕ) → hold_of (get_or stack h no_frame).code ≤ reach → pop reach p (frames_in stack (h + 1)) ≡ at p (h + 1)
    unfolding frames_in pop
    pop-stays h t = rw (add-one h, le-ltb reach (hold_of (get_or stack h no_frame).code) t, pop) refl

    pub pop-empty : pop reach p (frames_in stack 0) ≡ at p 0
    unfolding frames_in pop
    pop-empty = refl

    pub popped : (p₀ h₀ h : ℕ) → h ≤ h₀ → pop reach p₀ (frames_in stack h₀) ≡ at p h → Pops stack reach p₀ h₀ (record { start = p; height = h })
    popped p₀ h₀ h le e =
        record {
          start = ap (λ (q : Popped). q.start) (sym e);
          frames = ap (λ (q : Popped). q.frames) (sym e);
          lower = le;
        }

  -- so many frames of a stack that is h high are
  module _ (reach : ℕ) where
    abbrev tops : ℕ → ℕ
    tops h = suffix_len (tight reach) (take h stack)

    pub tops-within : (h : ℕ) → h ≤ length stack → tops h ≤ h
    tops-within h le =
        omega (arith, prefix_len-le-length (tight reach) (reverse (take h stack)), length-reverse (take h stack), length-take h stack)

    onto : (h : ℕ) → h < length stack → reverse (take (suc h) stack) ≡ get_or stack h no_frame ∷ reverse (take h stack)
    onto h lt = rw (take-suc stack h no_frame lt, reverse-append (take h stack) (get_or stack h no_frame ∷ [])) refl

    tops-more : (h : ℕ) → h < length stack → tight reach (get_or stack h no_frame) ≡ true → tops (suc h) ≡ suc (tops h)
    tops-more h lt t = rw (onto h lt, t) (omega arith)

    tops-none : (h : ℕ) → h < length stack → tight reach (get_or stack h no_frame) ≡ false → tops (suc h) ≡ 0
    tops-none h lt t = rw (onto h lt, t) refl

    pub pop-tops : (h p q : ℕ) → h ≤ length stack → (h - tops h < h → q ≡ (get_or stack (h - tops h) no_frame).start) → (h ≤ h - tops h → q ≡ p)
        → pop reach p (frames_in stack h) ≡ at q (h - tops h)
    pop-tops zero p q le some none = let e : q ≡ p = none (omega arith) in rw e (pop-empty reach p)
    pop-tops (suc h) p q le some none =
        by_bool (tight reach (get_or stack h no_frame))
        (λ t. let k : suc h - tops (suc h) ≡ h - tops h = omega (arith, tops-more h le t) in
        let here : h - tops h < suc h → q ≡ (get_or stack (h - tops h) no_frame).start = rw k at some in
        let f : pop reach p (frames_in stack (h + 1)) ≡ pop reach (get_or stack h no_frame).start (frames_in stack h) =
        pop-more reach p h (ltb-true _ _ t) in
        rw (k, ← add-one h, f)
        (pop-tops h (get_or stack h no_frame).start q (omega arith) (λ l. here (omega arith))
        (λ l. let z : h - tops h ≡ h = omega arith in rw z at (here (omega arith)))))
        (λ t. let k : suc h - tops (suc h) ≡ h + 1 = omega (arith, tops-none h le t) in
        let e : q ≡ p = none (omega arith) in
        rw (k, e, ← add-one h) (pop-stays reach p h (ltb-false _ _ t)))
