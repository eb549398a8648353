-- Turns of a continuing: what is left to evaluate, from the state so far; and where 26 ends one, the same again up to its last good instant.
-- Assumes nothing.
use Rattle.model.specs.Refusals.{Checked, Accepted}
use Rattle.std.specs.Prelude.{Ok, Err}
use Rattle.std.specs.Result.{is_err}
use mathlib.Core.Bool.{Bool, true, false}
use mathlib.Core.List.{List}
use mathlib.Core.Path.{◌≡◌, refl, sym, ◌∙◌, ap, ap₂}
use Prim.Native.Nat.{ℕ, zero, suc, ◌+◌, ◌-◌, ◌<◌, ◌≤◌}
use native.Mathlib.Omega.{arith}
use Rattle.model.specs.declared.Format.{Format}
use Rattle.model.specs.declared.Format.TheVariants.{Full}
use Rattle.model.specs.declared.Refusal.{Refusal}
use Rattle.model.specs.Circuit.{Netlist, high}
use Rattle.model.specs.State.{Course, course, longer, now_at, step_state, crowding, continued}
use Rattle.laws.specs.Refusals.Laws.{by_bool, not-both}
use Rattle.simulator.specs.Levels.{continued_with}

-- a check that accepts refuses nothing
pub accepts-none : {A : Type 0} {r : Refusal} → ◌≡◌ {A = Checked} Accepted (Err r) → A
accepts-none {A} {r} e = absurd (zero_one (ap (λ (c : Checked). elim c as (λ z. ℕ) [ Ok _ ↦ 0 | Err q ↦ 1 ]) e))
  where
    zero_one : ◌≡◌ {A = ℕ} 0 1 → ⊥
    zero_one z = omega arith

-- by the test of a check
pub failed : (c : Checked) → is_err c ≡ true → (r : Refusal) × (c ≡ Err r)
failed (Ok _) e = not-both e refl
failed (Err r) e = (r, refl)

pub passed : (c : Checked) → is_err c ≡ false → c ≡ Accepted
passed (Ok _) e = refl
passed (Err r) e = not-both refl e

by-check : {A : Type 0} (c : Checked) → (c ≡ Accepted → A) → ((r : Refusal) → c ≡ Err r → A) → A
by-check (Ok _) p q = p refl
by-check (Err r) p q = q r refl

module _ (F : Format) (net : Netlist) (starts : Bool) (f : ℕ) where
  abbrev C : ℕ → List ℕ → Course
  C n s = continued_with F net starts f n s

  module _ (n : ℕ) (s : List ℕ) where
    abbrev t : List ℕ
    t = step_state F net starts s

    abbrev onward : Checked → Bool → Course
    onward c b =
        elim c as (λ z. Course) [
          | Ok _ ↦ elim b as (λ z. Course) [ true ↦ course Accepted t 1 | false ↦ longer (C n t) ]
          | Err r ↦ course (Err r) s 0
        ]

    crowded-turn : (r : Refusal) → crowding F net s t ≡ Err r → C (suc n) s ≡ course (Err r) s 0
    unfolding continued_with
    crowded-turn r e = ap (λ (c : Checked). onward c (high (now_at F t f))) e

    high-turn : crowding F net s t ≡ Accepted → high (now_at F t f) ≡ true → C (suc n) s ≡ course Accepted t 1
    unfolding continued_with
    high-turn e h = ap₂ onward e h

    low_turn : crowding F net s t ≡ Accepted → high (now_at F t f) ≡ false → C (suc n) s ≡ longer (C n t)
    unfolding continued_with
    low_turn e h = ap₂ onward e h

  -- with m instants before it
  abbrev later : ℕ → Course → Course
  later m c = course c.check c.state (m + c.count)

  -- of n instants from s on, count are done, and t is the state so far
  pub record Going (n : ℕ) (s t : List ℕ) (count : ℕ) : Type 0 where
    pub few : count ≤ n
    pub rest : C n s ≡ later count (C (n - count) t)

  module _ {n : ℕ} {s t : List ℕ} {count : ℕ} (p : Going n s t count) where
    module _ (l : count < n) where
      abbrev u : List ℕ
      u = step_state F net starts t

      left : n - count ≡ suc (n - (count + 1))
      left = omega arith

      turned : C n s ≡ later count (C (suc (n - (count + 1))) t)
      turned = p.rest ∙ ap (λ (m : ℕ). later count (C m t)) left

      pub going-crowded : (r : Refusal) → crowding F net t u ≡ Err r → C n s ≡ course (Err r) t count
      going-crowded r e =
          let z : count + 0 ≡ count = omega arith in
          turned ∙ ap (later count) (crowded-turn (n - (count + 1)) t r e) ∙ ap (course (Err r) t) z

      pub going-high : crowding F net t u ≡ Accepted → high (now_at F u f) ≡ true → C n s ≡ course Accepted u (count + 1)
      going-high e h = turned ∙ ap (later count) (high-turn (n - (count + 1)) t e h)

      pub going-low : crowding F net t u ≡ Accepted → high (now_at F u f) ≡ false → Going n s u (count + 1)
      going-low e h =
          record {
            few = omega arith;
            rest = turned ∙ ap (later count) (low_turn (n - (count + 1)) t e h) ∙ more (C (n - (count + 1)) u);
          }
        where
          more : (c : Course) → later count (longer c) ≡ later (count + 1) c
          more c = let e : count + (1 + c.count) ≡ count + 1 + c.count = omega arith in rw e refl

    pub going-all : n ≤ count → C n s ≡ course Accepted t count
    unfolding continued_with
    going-all l =
        let e : n - count ≡ 0 = omega arith in
        let z : count + 0 ≡ count = omega arith in
        p.rest ∙ ap (λ (m : ℕ). later count (C m t)) e ∙ rw z refl

  count-le : (n : ℕ) (s : List ℕ) → (C n s).count ≤ n
  count-le zero s = unfold continued_with in omega arith
  count-le (suc n) s =
      let t = step_state F net starts s in
      by-check (crowding F net s t)
      (λ e. by_bool (high (now_at F t f)) (λ h. rw (high-turn n s e h) (omega arith)) (λ h. rw (low_turn n s e h) (omega (arith, count-le n t))))
      (λ r e. rw (crowded-turn n s r e) (omega arith))

  pub count_under : (n : ℕ) (s : List ℕ) (k : ℕ) → k ≡ (C n s).count → k ≤ n
  count_under n s k e = omega (arith, e, count-le n s)

  none-check : (s : List ℕ) → (C 0 s).check ≡ Accepted
  unfolding continued_with
  none-check s = refl

  -- the good instants, once more
  pub again : (n : ℕ) (s : List ℕ) (r : Refusal) → (C n s).check ≡ Err r → C (C n s).count s ≡ course Accepted (C n s).state (C n s).count
  again zero s r e = accepts-none (sym (none-check s) ∙ e)
  again (suc n) s r e =
      let t = step_state F net starts s in
      by-check (crowding F net s t)
      (λ a.
      by_bool (high (now_at F t f))
      (λ h. accepts-none (rw (high-turn n s a h) at e))
      (λ h.
      let z = low_turn n s a h in
      let q : (C n t).check ≡ Err r = rw z at e in
      let m : 1 + (C n t).count ≡ suc (C n t).count = omega arith in
      rw (z, m) (low_turn (C n t).count s a h ∙ ap longer (again n t r q) ∙ ap (course Accepted (C n t).state) m)))
      (λ q a. rw (crowded-turn n s q a) (unfold continued_with in refl))

  -- by 1
  pub with-one : (s : List ℕ) → crowding F net s (step_state F net starts s) ≡ Accepted → C 1 s ≡ course Accepted (step_state F net starts s) 1
  with-one s e =
      by_bool (high (now_at F (step_state F net starts s) f)) (λ h. high-turn 0 s e h) (λ h. low_turn 0 s e h ∙ (unfold continued_with in refl))

-- a full state has room for every pulse
pub full-accepted : (net : Netlist) (starts : Bool) (f n : ℕ) (s : List ℕ) → (continued_with Full net starts f n s).check ≡ Accepted
unfolding crowding
full-accepted net starts f zero s = unfold continued_with in refl
full-accepted net starts f (suc n) s =
    let t = step_state Full net starts s in
    by_bool (high (now_at Full t f)) (λ h. rw (high-turn Full net starts f n s refl h) refl)
    (λ h. rw (low_turn Full net starts f n s refl h) (full-accepted net starts f n t))

-- with no start pulse it is a continuing
pub with_none : (F : Format) (net : Netlist) (f n : ℕ) (s : List ℕ) → continued_with F net false f n s ≡ continued F net f n s
unfolding continued_with continued
with_none F net f zero s = refl
with_none F net f (suc n) s =
    let t = step_state F net false s in
    ap (λ (c : Course). elim (crowding F net s t) as (λ z. Course) [
      | Ok _ ↦ elim (high (now_at F t f)) as (λ z. Course) [ true ↦ course Accepted t 1 | false ↦ longer c ]
      | Err r ↦ course (Err r) s 0
    ]) (with_none F net f n t)
