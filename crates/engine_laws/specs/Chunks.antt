-- A continuing, instant by instant and in chunks: it may be done in chunks, each by any means that gives the course of that chunk.
-- Assumes nothing.
use Rattle.model.specs.Refusals.{Checked, Accepted}
use Rattle.std.specs.Prelude.{true, ◌≡◌, Ok, Err}
use Rattle.std.proofs.Math.Bool.{false}
use mathlib.Core.List.{List}
use Rattle.std.proofs.Math.Path.{refl, ap}
use Rattle.std.proofs.Common.{sym, ◌∙◌, arith}
use Prim.Native.Nat.{ℕ, zero, suc, ◌+◌, ◌<◌}
use Rattle.model.specs.declared.Refusal.{Refusal}
use Rattle.model.specs.declared.Format.{Format}
use Rattle.model.specs.Circuit.{Netlist, high}
use Rattle.model.specs.State.{Course, course, longer, now_at, step_state, crowding, continued}
use Rattle.laws.specs.Refusals.Laws.{by_bool, not-both, not-refused}
use Rattle.laws.specs.State.Continuing.{continued-crowded, continued-high, continued-low}

-- Instant by instant -------------------------------------------------------------------------------------------------------------------

module _ (F : Format) (net : Netlist) where
  -- the state i instants later
  unfoldable pub after : ℕ → List ℕ → List ℕ
  after zero s = s
  after (suc i) s = step_state F net false (after i s)

  after_first : (i : ℕ) (s : List ℕ) → after i (step_state F net false s) ≡ after (suc i) s
  unfolding after
  after_first zero s = refl
  after_first (suc i) s = ap (step_state F net false) (after_first i s)

  -- where no instant is refused and the finish is low at each, a continuing by m comes to the state m instants later
  pub continued-after : (f m : ℕ) (s : List ℕ)
      → ((i : ℕ) → i < m → crowding F net (after i s) (after (suc i) s) ≡ Accepted)
      → ((i : ℕ) → i < m → high (now_at F (after (suc i) s) f) ≡ false)
      → continued F net f m s ≡ course Accepted (after m s) m
  unfolding after continued
  continued-after f zero s free low = refl
  continued-after f (suc m) s free low =
      let t = step_state F net false s in
      continued-low F net f m s (free 0 (omega arith)) (low 0 (omega arith))
      ∙ ap longer
      (continued-after f m t (λ i l. step-free i l) (λ i l. ap (λ (u : List ℕ). high (now_at F u f)) (after_first (suc i) s) ∙ low (suc i) (omega arith)))
      ∙ ap (λ (u : List ℕ). course Accepted u (1 + m)) (after_first m s) ∙ ap (λ (k : ℕ). course Accepted (after (suc m) s) k) (omega arith)
    where
      step-free : (i : ℕ) → i < m → crowding F net (after i (step_state F net false s)) (after (suc i) (step_state F net false s)) ≡ Accepted
      step-free i l =
          ap (λ (u : List ℕ). crowding F net u (after (suc i) (step_state F net false s))) (after_first i s)
          ∙ ap (λ (u : List ℕ). crowding F net (after (suc i) s) u) (after_first (suc i) s) ∙ free (suc i) (omega arith)

-- In chunks ----------------------------------------------------------------------------------------------------------------------------

-- with m instants before it
abbrev pub later_by : ℕ → Course → Course
later_by m c = course c.check c.state (m + c.count)

later-suc : (m : ℕ) (c : Course) → longer (later_by m c) ≡ later_by (1 + m) c
later-suc m c = ap (λ (n : ℕ). course c.check c.state n) (omega arith)

by-checked : {A : Type 0} (c : Checked) → (c ≡ Accepted → A) → ((r : Refusal) → c ≡ Err r → A) → A
by-checked (Ok _) f g = f refl
by-checked (Err r) f g = g r refl

module _ (F : Format) (net : Netlist) (f : ℕ) where
  none : (s : List ℕ) → continued F net f 0 s ≡ course Accepted s 0
  unfolding continued
  none s = refl

  -- m instants without a refusal, after the last of which the finish is low; then n more go on from the state that they leave
  pub chunk : (m n : ℕ) (s : List ℕ) → (continued F net f m s).check ≡ Accepted → high (now_at F (continued F net f m s).state f) ≡ false
      → continued F net f (m + n) s ≡ later_by (continued F net f m s).count (continued F net f n (continued F net f m s).state)
  chunk zero n s ok low =
      let q : 0 + n ≡ n = omega arith in
      ap (λ (k : ℕ). continued F net f k s) q ∙ same (continued F net f n s)
      ∙ ap (λ (c : Course). later_by c.count (continued F net f n c.state)) (sym (none s))
    where
      same : (c : Course) → c ≡ later_by 0 c
      same c = ap (λ (k : ℕ). course c.check c.state k) (omega arith)
  chunk (suc m) n s ok low =
      by-checked (crowding F net s (step_state F net false s))
      (λ a.
      by_bool (high (now_at F (step_state F net false s) f))
      (λ h.
      let z = continued-high F net f m s a h in
      not-both h (sym (ap (λ (c : Course). high (now_at F c.state f)) z) ∙ low))
      (λ l.
      let t = step_state F net false s in
      let z : continued F net f (suc m) s ≡ longer (continued F net f m t) = continued-low F net f m s a l in
      let y : continued F net f (suc (m + n)) s ≡ longer (continued F net f (m + n) t) = continued-low F net f (m + n) s a l in
      let q : suc m + n ≡ suc (m + n) = omega arith in
      ap (λ (k : ℕ). continued F net f k s) q ∙ y
      ∙ ap longer (chunk m n t (sym (ap (λ (c : Course). c.check) z) ∙ ok) (sym (ap (λ (c : Course). high (now_at F c.state f)) z) ∙ low))
      ∙ later-suc (continued F net f m t).count (continued F net f n (continued F net f m t).state)
      ∙ ap (λ (c : Course). later_by c.count (continued F net f n c.state)) (sym z)))
      (λ r e. not-refused (sym (ap (λ (c : Course). c.check) (continued-crowded F net f m s r e)) ∙ ok))

  -- a high finish ends it, whatever is left of the budget
  pub chunk-high : (m n : ℕ) (s : List ℕ) → high (now_at F s f) ≡ false → (continued F net f m s).check ≡ Accepted
      → high (now_at F (continued F net f m s).state f) ≡ true → continued F net f (m + n) s ≡ continued F net f m s
  chunk-high zero n s l ok h = not-both (sym (ap (λ (c : Course). high (now_at F c.state f)) (none s)) ∙ h) l
  chunk-high (suc m) n s l ok h =
      by-checked (crowding F net s (step_state F net false s))
      (λ a.
      let t = step_state F net false s in
      let q : suc m + n ≡ suc (m + n) = omega arith in
      ap (λ (k : ℕ). continued F net f k s) q
      ∙ by_bool (high (now_at F t f)) (λ x. continued-high F net f (m + n) s a x ∙ sym (continued-high F net f m s a x))
      (λ x.
      let z = continued-low F net f m s a x in
      continued-low F net f (m + n) s a x
      ∙ ap longer (chunk-high m n t x (sym (ap (λ (c : Course). c.check) z) ∙ ok) (sym (ap (λ (c : Course). high (now_at F c.state f)) z) ∙ h)) ∙ sym z))
      (λ r e. not-refused (sym (ap (λ (c : Course). c.check) (continued-crowded F net f m s r e)) ∙ ok))
