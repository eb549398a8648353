-- The run of a loop, one turn further; and a loop on its way, from the whole budget to what is left of it.
-- Assumes that a loop's delay is at least 1, where it goes round.
use mathlib.Core.Path.{◌≡◌, refl, sym, ◌∙◌, ap}
use mathlib.Core.List.{List}
use Prim.Native.Nat.{ℕ, zero, suc, ◌+◌, ◌-◌, ◌≤◌, ◌<◌}
use native.Mathlib.Omega.{arith}
use native.Mathlib.Nat.{add_assoc, zero-add, not-suc-le-zero}
use native.Mathlib.Decide.{dec_lt}
use borrow.Author.Tests.{eq-eqb, ne_eqb}
use Rattle.model.specs.Word.{is_zero}
use Rattle.model.specs.Program.{Expr, Stmt, while, repeat, loop}
use Rattle.model.specs.Rules.{Costs, postponed, Store, at_end, at_exit, Run, done, ended, still, eval, after, wait, chain, caught, whiles, repeats, loops, run}
use Rattle.laws.specs.Refusals.Laws.{by_bool}
use Rattle.laws.specs.Rules.Laws.{extended-is, Body, wait-is, wait-short, whiles-stop, whiles-more, again, repeats-is, again-more, again-stop, round, loops_is, round_is}
use Rattle.rules.specs.declared.ways.Ran.{Ran}
use Rattle.rules.specs.declared.ways.Ran.TheVariants.{Ended, Left, Unfinished}
use Rattle.rules.specs.Ran.{store_of, run_of, time_of, Unended, Stands}
use Rattle.rules.proofs.Runs.{chain-unended, stands-still}

after-after : (a b : ℕ) (r : Run) → after a (after b r) ≡ after (a + b) r
unfolding after
after-after a b (done w t σ) = ap (λ (t : ℕ). done w t σ) (sym (add_assoc a b t))
after-after a b still = refl

pub after-zero : (r : Run) → after 0 r ≡ r
unfolding after
after-zero (done w t σ) = ap (λ (t : ℕ). done w t σ) (zero-add t)
after-zero still = refl

caught-after : (a : ℕ) (r : Run) → caught (after a r) ≡ after a (caught r)
unfolding after caught
caught-after a (done w t σ) = refl
caught-after a still = refl

-- More turns than instants are enough --------------------------------------------------------------------------------------------------

wait-same : (d k : ℕ) (f g : ℕ → Run) → (d ≤ k → f (k - d) ≡ g (k - d)) → wait d k f ≡ wait d k g
wait-same d k f g h = go (dec_lt k d)
  where
    go : Dec (k < d) → wait d k f ≡ wait d k g
    go (yes l) = wait-short d k f l ∙ sym (wait-short d k g l)
    go (no n) =
        let l : d ≤ k = omega arith in
        wait-is d k f l ∙ ap (after d) (h l) ∙ sym (wait-is d k g l)

chain_same : (r : Run) (f g : ℕ → Store → Run) → ((t : ℕ) (σ : Store) → f t σ ≡ g t σ) → chain r f ≡ chain r g
unfolding chain
chain_same (done at_end t σ) f g h = ap (after t) (h t σ)
chain_same (done at_exit t σ) f g h = refl
chain_same still f g h = refl

module _ (body : Body) (d : ℕ) (e : Expr) (one : 1 ≤ d) where
  whiles-enough : (n m k : ℕ) (σ : Store) → k < n → k < m → whiles body d e n k σ ≡ whiles body d e m k σ
  whiles-enough zero m k σ p q = absurd (not-suc-le-zero p)
  whiles-enough (suc n) zero k σ p q = absurd (not-suc-le-zero q)
  whiles-enough (suc n) (suc m) k σ p q =
      let more : d ≤ k → (t : ℕ) (σ₁ : Store) → whiles body d e n (k - d - t) σ₁ ≡ whiles body d e m (k - d - t) σ₁ =
      λ l t σ₁. whiles-enough n m (k - d - t) σ₁ (omega arith) (omega arith) in
      by_bool (is_zero (eval e σ))
      (λ z. whiles-stop body d e n k σ z ∙ sym (whiles-stop body d e m k σ z))
      (λ z.
      whiles-more body d e n k σ z ∙ wait-same d k _ _ (λ l. chain_same (body (k - d) σ) _ _ (more l))
      ∙ sym (whiles-more body d e m k σ z))

  repeats-enough : (n m k : ℕ) (σ : Store) → k < n → k < m → repeats body d e n k σ ≡ repeats body d e m k σ
  repeats-enough zero m k σ p q = absurd (not-suc-le-zero p)
  repeats-enough (suc n) zero k σ p q = absurd (not-suc-le-zero q)
  repeats-enough (suc n) (suc m) k σ p q =
      let more : (t : ℕ) (σ₁ : Store) → d ≤ k - t → repeats body d e n (k - t - d) σ₁ ≡ repeats body d e m (k - t - d) σ₁ =
      λ t σ₁ l. repeats-enough n m (k - t - d) σ₁ (omega arith) (omega arith) in
      repeats-is body d e n k σ
      ∙ chain_same (body k σ) _ _
      (λ t σ₁.
      by_bool (is_zero (eval e σ₁))
      (λ z. again-more body d e n (k - t) σ₁ z ∙ wait-same d (k - t) _ _ (more t σ₁) ∙ sym (again-more body d e m (k - t) σ₁ z))
      (λ z. again-stop body d e n (k - t) σ₁ z ∙ sym (again-stop body d e m (k - t) σ₁ z)))
      ∙ sym (repeats-is body d e m k σ)

loops-enough : (body : Body) (d : ℕ) → 1 ≤ d → (n m k : ℕ) (σ : Store) → k < n → k < m → loops body d n k σ ≡ loops body d m k σ
loops-enough body d one zero m k σ p q = absurd (not-suc-le-zero p)
loops-enough body d one (suc n) zero k σ p q = absurd (not-suc-le-zero q)
loops-enough body d one (suc n) (suc m) k σ p q =
    let more : (t : ℕ) (σ₁ : Store) → d ≤ k - t → loops body d n (k - t - d) σ₁ ≡ loops body d m (k - t - d) σ₁ =
    λ t σ₁ l. loops-enough body d one n m (k - t - d) σ₁ (omega arith) (omega arith) in
    loops_is body d n k σ
    ∙ chain_same (body k σ) _ _
    (λ t σ₁. round_is body d n (k - t) σ₁ ∙ wait-same d (k - t) _ _ (more t σ₁) ∙ sym (round_is body d m (k - t) σ₁))
    ∙ sym (loops_is body d m k σ)

-- One turn -----------------------------------------------------------------------------------------------------------------------------

-- a body that begins later, and ends
postponed-is : (n : ℕ) (body : Body) (k : ℕ) (σ : Store) → postponed n body k σ ≡ wait n k (λ k₁. body k₁ σ)
postponed-is zero body k σ =
    let z : k - 0 ≡ k = omega arith in
    sym (wait-is 0 k (λ k₁. body k₁ σ) (omega arith) ∙ after-zero (body (k - 0) σ) ∙ ap (λ (m : ℕ). body m σ) z)
postponed-is (suc n) body k σ = refl

chain-later : (l t : ℕ) (w : List ℕ) (c : ℕ → Store → Run) → chain (after l (ended t (store_of w))) c ≡ after (l + t) (c (l + t) (store_of w))
unfolding chain after
chain-later l t w c = refl

-- nothing goes on after one that has not ended
chain-later-unended : (l : ℕ) (r : Ran) (w : List ℕ) → Unended r → (c : ℕ → Store → Run) → chain (after l (run_of r w)) c ≡ after l (run_of r w)
unfolding chain after
chain-later-unended l (Ended t) w n c = absurd (n t refl)
chain-later-unended l (Left t) w n c = refl
chain-later-unended l Unfinished w n c = refl

-- a while's test takes its delay and, before it, what latching does
while-is : (κ : Costs) (d : ℕ) (e : Expr) (P : Stmt) (k : ℕ) (σ : Store)
    → run κ k (while d e P) σ ≡ whiles (λ k₁ σ₁. run κ k₁ P σ₁) (d + κ.latch) e (suc k) k σ
unfolding run
while-is κ d e P k σ = ap (λ (d : ℕ). whiles (λ k₁ σ₁. run κ k₁ P σ₁) d e (suc k) k σ) (extended-is κ.latch d)

module _ (κ : Costs) (d : ℕ) (e : Expr) (P : Stmt) (k : ℕ) (σ : Store) where
  abbrev body : Body
  body k₁ σ₁ = run κ k₁ P σ₁

  abbrev test : ℕ
  test = d + κ.latch

  -- a while after its turn
  abbrev while_rest : ℕ → Store → Run
  while_rest t σ₁ = whiles body test e k (k - test - t) σ₁

  pub while-out : k < d + κ.latch → run κ k (while d e P) σ ≡ still
  unfolding whiles
  while-out l = while-is κ d e P k σ ∙ wait-short test k _ l

  -- the test, whose word is v, and where it is true the turn r
  module _ (l : d + κ.latch ≤ k) (v : ℕ) (ev : v ≡ eval e σ) where
    pub while-end : v ≡ 0 → run κ k (while d e P) σ ≡ after (d + κ.latch) (ended 0 σ)
    while-end z = while-is κ d e P k σ ∙ whiles-stop body test e k k σ (eq-eqb _ 0 (sym ev ∙ z)) ∙ wait-is test k _ l

    module _ (n : v ≡ 0 → ⊥) (w : List ℕ) where
      while-turn : (r : Ran) → Stands (k - (d + κ.latch)) (run κ (k - (d + κ.latch)) P σ) r w → run κ k (while d e P) σ ≡ after test (chain (run_of r w) while_rest)
      while-turn r R =
          while-is κ d e P k σ ∙ whiles-more body test e k k σ (ne_eqb _ 0 (λ z. n (ev ∙ z))) ∙ wait-is test k _ l
          ∙ ap (λ (q : Run). after test (chain q while_rest)) (sym R.is)

      pub while-unended : (r : Ran) → Stands (k - (d + κ.latch)) (run κ (k - (d + κ.latch)) P σ) r w → Unended r
          → run κ k (while d e P) σ ≡ after (d + κ.latch) (run_of r w)
      while-unended r R f = while-turn r R ∙ ap (after test) (chain-unended r w f while_rest)

      pub while-on : (t : ℕ) → Stands (k - (d + κ.latch)) (run κ (k - (d + κ.latch)) P σ) (Ended t) w → 1 ≤ d
          → run κ k (while d e P) σ ≡ after (d + κ.latch + t) (run κ (k - (d + κ.latch) - t) (while d e P) (store_of w))
      unfolding chain
      while-on t R one =
          while-turn (Ended t) R ∙ after-after test t _
          ∙ ap (after (test + t)) (whiles-enough body test e (omega arith) k (suc (k - test - t)) (k - test - t) (store_of w) (omega arith) (omega arith))
          ∙ ap (after (test + t)) (sym (while-is κ d e P (k - test - t) (store_of w)))

module _ (κ : Costs) (d : ℕ) (e : Expr) (P : Stmt) (k : ℕ) (σ : Store) where
  -- a repeat's turn begins when the words are latched
  abbrev turned : Body
  turned = postponed κ.latch (λ k₁ σ₁. run κ k₁ P σ₁)

  -- a repeat after its turn
  abbrev repeat_rest : ℕ → Store → Run
  repeat_rest t σ₁ = again turned d e k (k - t) σ₁

  repeat-is : run κ k (repeat d e P) σ ≡ chain (wait κ.latch k (λ k₁. run κ k₁ P σ)) repeat_rest
  unfolding run
  repeat-is = repeats-is turned d e k k σ ∙ ap (λ (q : Run). chain q repeat_rest) (postponed-is κ.latch (λ k₁ σ₁. run κ k₁ P σ₁) k σ)

  pub repeat-late : k < κ.latch → run κ k (repeat d e P) σ ≡ still
  unfolding chain
  repeat-late l = repeat-is ∙ ap (λ (q : Run). chain q repeat_rest) (wait-short κ.latch k _ l)

  module _ (h : κ.latch ≤ k) (w : List ℕ) where
    repeat-turn : (r : Ran) → Stands (k - κ.latch) (run κ (k - κ.latch) P σ) r w → run κ k (repeat d e P) σ ≡ chain (after κ.latch (run_of r w)) repeat_rest
    repeat-turn r R = repeat-is ∙ ap (λ (q : Run). chain q repeat_rest) (wait-is κ.latch k _ h ∙ ap (after κ.latch) (sym R.is))

    pub repeat-unended : (r : Ran) → Stands (k - κ.latch) (run κ (k - κ.latch) P σ) r w → Unended r → run κ k (repeat d e P) σ ≡ after κ.latch (run_of r w)
    repeat-unended r R f = repeat-turn r R ∙ chain-later-unended κ.latch r w f repeat_rest

    -- the turn ended after t, and then the test, whose word is v
    module _ (t : ℕ) (R : Stands (k - κ.latch) (run κ (k - κ.latch) P σ) (Ended t) w) where
      repeat-turned : run κ k (repeat d e P) σ ≡ after (κ.latch + t) (again turned d e k (k - κ.latch - t) (store_of w))
      repeat-turned =
          let same : k - (κ.latch + t) ≡ k - κ.latch - t = omega arith in
          repeat-turn (Ended t) R ∙ chain-later κ.latch t w repeat_rest
          ∙ ap (λ (m : ℕ). after (κ.latch + t) (again turned d e k m (store_of w))) same

      pub repeat-out : k - κ.latch - t < d → run κ k (repeat d e P) σ ≡ still
      unfolding again after
      repeat-out l = repeat-turned ∙ ap (after (κ.latch + t)) (wait-short d (k - κ.latch - t) _ l)

      module _ (l : d ≤ k - κ.latch - t) (v : ℕ) (ev : v ≡ eval e (store_of w)) where
        pub repeat-end : (v ≡ 0 → ⊥) → run κ k (repeat d e P) σ ≡ after (κ.latch + t + d) (ended 0 (store_of w))
        repeat-end n =
            let u = κ.latch + t in
            let m = k - κ.latch - t in
            repeat-turned ∙ ap (after u) (again-stop turned d e k m _ (ne_eqb _ 0 (λ z. n (ev ∙ z))) ∙ wait-is d m _ l) ∙ after-after u d _

        pub repeat-on : v ≡ 0 → 1 ≤ d
            → run κ k (repeat d e P) σ ≡ after (κ.latch + t + d) (run κ (k - κ.latch - t - d) (repeat d e P) (store_of w))
        unfolding run
        repeat-on z one =
            let u = κ.latch + t in
            let m = k - κ.latch - t in
            repeat-turned ∙ ap (after u) (again-more turned d e k m _ (eq-eqb _ 0 (sym ev ∙ z)) ∙ wait-is d m _ l) ∙ after-after u d _
            ∙ ap (after (u + d)) (repeats-enough turned d e one k (suc (m - d)) (m - d) (store_of w) (omega arith) (omega arith))

-- a loop's turn
module _ (κ : Costs) (d : ℕ) (P : Stmt) (k : ℕ) (σ : Store) (w : List ℕ) where
  abbrev turns : Body
  turns k₁ σ₁ = run κ k₁ P σ₁

  abbrev loop_rest : ℕ → Store → Run
  loop_rest t σ₁ = round turns d k (k - t) σ₁

  loop-turn : (r : Ran) → Stands k (run κ k P σ) r w → run κ k (loop d P) σ ≡ caught (chain (run_of r w) loop_rest)
  unfolding run
  loop-turn r R = ap caught (loops_is turns d k k σ ∙ ap (λ (q : Run). chain q loop_rest) (sym R.is))

  pub loop-unended : (r : Ran) → Stands k (run κ k P σ) r w → Unended r → run κ k (loop d P) σ ≡ caught (run_of r w)
  loop-unended r R f = loop-turn r R ∙ ap caught (chain-unended r w f loop_rest)

  module _ (t : ℕ) (R : Stands k (run κ k P σ) (Ended t) w) where
    loop-turned : run κ k (loop d P) σ ≡ caught (after t (round turns d k (k - t) (store_of w)))
    unfolding chain
    loop-turned = loop-turn (Ended t) R

    pub loop-out : k - t < d → run κ k (loop d P) σ ≡ still
    unfolding after caught
    loop-out l = loop-turned ∙ ap (λ (q : Run). caught (after t q)) (round_is turns d k (k - t) _ ∙ wait-short d (k - t) _ l)

    pub loop-on : d ≤ k - t → 1 ≤ d → run κ k (loop d P) σ ≡ after (t + d) (run κ (k - t - d) (loop d P) (store_of w))
    unfolding run
    loop-on l one =
        loop-turned
        ∙ ap caught (ap (after t) (round_is turns d k (k - t) _ ∙ wait-is d (k - t) _ l) ∙ after-after t d _)
        ∙ caught-after (t + d) _
        ∙ ap (λ (q : Run). after (t + d) (caught q)) (loops-enough turns d one k (suc (k - t - d)) (k - t - d) (store_of w) (omega arith) (omega arith))

-- A loop on its way --------------------------------------------------------------------------------------------------------------------

-- X is the run with the whole budget B, Y the run from here with the l that are left of it
pub record Going (B l : ℕ) (X Y : Run) : Type 0 where
  pub within : l ≤ B
  pub is : X ≡ after (B - l) Y

pub going_start : (B : ℕ) (X : Run) → Going B B X X
going_start B X =
    let e : 0 ≡ B - B = omega arith in
    record { within = omega arith; is = sym (after-zero X) ∙ ap (λ (t : ℕ). after t X) e }

module _ {B l : ℕ} {X Y : Run} (G : Going B l X Y) where
  pub going-still : (w : List ℕ) → Y ≡ still → Stands B X Unfinished w
  unfolding after
  going-still w e = stands-still (G.is ∙ ap (after (B - l)) e)

  -- a turn q that has not ended, u instants from here, is the last
  pub going-unended : (u : ℕ) (q : Ran) (w : List ℕ) → Y ≡ after u (run_of q w) → (t : ℕ) → t + l ≡ B + u → u + time_of q ≤ l → (r : Ran)
      → Stands (t + time_of q) (after t (run_of q w)) r w → Stands B X r w
  going-unended u q w e t h m r S =
      let f : t ≡ B - l + u = omega (arith, G.within) in
      record {
        is = S.is ∙ ap (λ (t : ℕ). after t (run_of q w)) f ∙ sym (G.is ∙ ap (after (B - l)) e ∙ after-after (B - l) u _);
        within = omega (arith, S.within);
      }

  -- an exit in it ends the loop
  pub going-caught : (q : Ran) (w : List ℕ) → Y ≡ caught (run_of q w) → (t : ℕ) → t + l ≡ B → time_of q ≤ l → (p : Ran)
      → Stands (t + time_of q) (after t (run_of q w)) p w → (r : Ran) → Stands (time_of p) (caught (run_of p w)) r w → Stands B X r w
  going-caught q w e t h m p S r C =
      let f : t ≡ B - l = omega (arith, G.within) in
      record {
        is =
            C.is ∙ ap caught (S.is ∙ ap (λ (t : ℕ). after t (run_of q w)) f) ∙ caught-after (B - l) (run_of q w)
            ∙ sym (G.is ∙ ap (after (B - l)) e);
        within = omega (arith, S.within, C.within);
      }

  pub going_end : (u : ℕ) (w : List ℕ) → Y ≡ after u (ended 0 (store_of w)) → (t : ℕ) → t + l ≡ B + u → u ≤ l
      → Stands B X (Ended t) w
  unfolding after
  going_end u w e t h m =
      let f : t ≡ B - l + (u + 0) = omega (arith, G.within) in
      record { is = ap (λ (t : ℕ). ended t (store_of w)) f ∙ sym (G.is ∙ ap (after (B - l)) e); within = omega arith }

  pub going_on : (u : ℕ) (Z : Run) → Y ≡ after u Z → (l' : ℕ) → l' + u ≡ l → Going B l' X Z
  going_on u Z e l' h =
      let f : B - l + u ≡ B - l' = omega (arith, G.within) in
      record { within = omega (arith, G.within); is = G.is ∙ ap (after (B - l)) e ∙ after-after (B - l) u Z ∙ ap (λ (t : ℕ). after t Z) f }
