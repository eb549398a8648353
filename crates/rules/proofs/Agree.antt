-- The rules look at no word but those that a statement touches: from stores that agree on these, its run ends at the same time, with words that agree.
-- U are words, those touched among them; of a formed statement these are among the first 272, so that its answer depends on no other.
-- Assumes that the statement's variables are below 16 and its arrays below 4 (`Formed`).
use mathlib.Core.Path.{◌≡◌, refl, sym, ◌∙◌, ap, ap₂}
use mathlib.Core.Bool.{Bool, true, false, ◌||◌, or-true}
use mathlib.Core.List.{List, ◌∷◌}
use Prim.Native.Nat.{ℕ, zero, suc, ◌+◌, ◌-◌, ◌≤◌, ◌<◌, max}
use native.Mathlib.Omega.{arith}
use lib.Dec.{leb, eqb}
use borrow.Author.Tests.{ne_eqb}
use Rattle.model.specs.declared.Outcome.TheVariants.{Ended}
use Rattle.model.specs.Word.{pick, is_zero, element_word}
use Rattle.model.specs.Program.{Expr, const, var, compl, op, elem, Stmt, ok, tick, assign, assign_elem, seq, par, ite, while, repeat, loop, exit, array_var, reads, writes, touches, call}
use Rattle.model.specs.Rules.{Costs, extended, postponed, Store, at_end, at_exit, Run, done, still, owner, eval, put, over, kept, after, wait, chain, both, caught, whiles, repeats, loops, run}
use Rattle.model.specs.Calls.{listed, reference_answer}
use Rattle.laws.specs.Program.Fit.{FormedExpr, Formed}
use Rattle.laws.specs.Refusals.Laws.{not-both, by_le}
use Rattle.laws.specs.Rules.Words.{owner-later}
use Rattle.laws.specs.Rules.Laws.{Body, not-way}
use Rattle.laws.specs.Rules.Uses.{eval-same}

module _ (U : ℕ → Type 0) where
  abbrev pub Agree : Store → Store → Type 0
  Agree σ τ = (x : ℕ) → U x → σ x ≡ τ x

  abbrev pub Alike : Run → Run → Type 0
  Alike (done w t σ) (done v u τ) = (w ≡ v) × (t ≡ u) × Agree σ τ
  Alike (done w t σ) still = ⊥
  Alike still (done v u τ) = ⊥
  Alike still still = Unit {0}

  -- Words ------------------------------------------------------------------------------------------------------------------------------

  -- the words of the variables that f tells are among U
  abbrev pub Covers : (ℕ → Bool) → Type 0
  Covers f = (x : ℕ) → f (owner x) ≡ true → U x

  covers-first : (f g : ℕ → Bool) → Covers (λ y. f y || g y) → Covers f
  covers-first f g c x r = c x (ap (λ (b : Bool). b || g (owner x)) r)

  covers-second : (f g : ℕ → Bool) → Covers (λ y. f y || g y) → Covers g
  covers-second f g c x r = c x (ap (λ (b : Bool). f (owner x) || b) r ∙ or-true (f (owner x)))

  eval-agree : (e : Expr) → FormedExpr e → Covers (reads e) → (σ τ : Store) → Agree σ τ → eval e σ ≡ eval e τ
  eval-agree e w c σ τ h = eval-same e w σ τ (λ x r. h x (c x r))

  put-agree : (σ τ : Store) (x y v u : ℕ) → Agree σ τ → x ≡ y → v ≡ u → Agree (put σ x v) (put τ y u)
  unfolding put
  put-agree σ τ x y v u h q e z l = ap₂ (pick (eqb z x)) e (h z l) ∙ ap (λ (x : ℕ). pick (eqb z x) u (τ z)) q

  kept-agree : (P Q : Stmt) (σ τ σ₁ τ₁ σ₂ τ₂ : Store) → Agree σ τ → Agree σ₁ τ₁ → Agree σ₂ τ₂
      → Agree (kept P Q σ σ₁ σ₂) (kept P Q τ τ₁ τ₂)
  unfolding kept over
  kept-agree P Q σ τ σ₁ τ₁ σ₂ τ₂ h h₁ h₂ x l =
      ap₂ (pick (writes P (owner x))) (h₁ x l) (ap₂ (pick (writes Q (owner x))) (h₂ x l) (h x l))

  -- Parts of a run ---------------------------------------------------------------------------------------------------------------------

  after-alike : (d : ℕ) (r q : Run) → Alike r q → Alike (after d r) (after d q)
  unfolding after
  after-alike d (done w t σ) (done v u τ) h = (h.0, ap (λ (n : ℕ). d + n) h.1, h.2)
  after-alike d (done w t σ) still h = h
  after-alike d still (done v u τ) h = h
  after-alike d still still h = h

  wait-alike : (d k : ℕ) (f g : ℕ → Run) → ((k₁ : ℕ) → Alike (f k₁) (g k₁)) → Alike (wait d k f) (wait d k g)
  unfolding wait
  wait-alike d k f g h = go (leb d k)
    where
      go : (b : Bool)
          → Alike (elim b as (λ z. Run) [ true ↦ after d (f (k - d)) | false ↦ still ])
          (elim b as (λ z. Run) [ true ↦ after d (g (k - d)) | false ↦ still ])
      go true = after-alike d (f (k - d)) (g (k - d)) (h (k - d))
      go false = tt

  -- what goes on after an end, alike from words that agree
  abbrev AlikeOn : (ℕ → Store → Run) → (ℕ → Store → Run) → Type 0
  AlikeOn f g = (k : ℕ) (σ τ : Store) → Agree σ τ → Alike (f k σ) (g k τ)

  chain-alike : (r q : Run) (f g : ℕ → Store → Run) → Alike r q → AlikeOn f g → Alike (chain r f) (chain q g)
  unfolding chain
  chain-alike (done at_end t σ) (done at_end u τ) f g h c = rw h.1 (after-alike u (f u σ) (g u τ) (c u σ τ h.2))
  chain-alike (done at_end t σ) (done at_exit u τ) f g h c = not-way h.0
  chain-alike (done at_exit t σ) (done at_end u τ) f g h c = not-way (sym h.0)
  chain-alike (done at_exit t σ) (done at_exit u τ) f g h c = h
  chain-alike (done w t σ) still f g h c = absurd h
  chain-alike still (done v u τ) f g h c = absurd h
  chain-alike still still f g h c = h

  both-alike : (i j : Store → Store → Store) (r q r' q' : Run)
      → ((σ τ σ' τ' : Store) → Agree σ τ → Agree σ' τ' → Agree (i σ σ') (j τ τ')) → Alike r q → Alike r' q'
      → Alike (both i r r') (both j q q')
  unfolding both
  both-alike i j (done at_end t σ) (done at_end u τ) (done at_end t' σ') (done at_end u' τ') c h h' = (refl, ap₂ max h.1 h'.1, c σ τ σ' τ' h.2 h'.2)
  both-alike i j (done at_end t σ) (done at_end u τ) (done at_end t' σ') (done at_exit u' τ') c h h' = not-way h'.0
  both-alike i j (done at_end t σ) (done at_end u τ) (done at_exit t' σ') (done at_end u' τ') c h h' = not-way (sym h'.0)
  both-alike i j (done at_end t σ) (done at_end u τ) (done at_exit t' σ') (done at_exit u' τ') c h h' = tt
  both-alike i j (done at_end t σ) (done at_end u τ) (done w' t' σ') still c h h' = absurd h'
  both-alike i j (done at_end t σ) (done at_end u τ) still (done v' u' τ') c h h' = absurd h'
  both-alike i j (done at_end t σ) (done at_end u τ) still still c h h' = tt
  both-alike i j (done at_end t σ) (done at_exit u τ) r' q' c h h' = not-way h.0
  both-alike i j (done at_exit t σ) (done at_end u τ) r' q' c h h' = not-way (sym h.0)
  both-alike i j (done at_exit t σ) (done at_exit u τ) r' q' c h h' = tt
  both-alike i j (done w t σ) still r' q' c h h' = absurd h
  both-alike i j still (done v u τ) r' q' c h h' = absurd h
  both-alike i j still still r' q' c h h' = tt

  caught-alike : (r q : Run) → Alike r q → Alike (caught r) (caught q)
  unfolding caught
  caught-alike (done w t σ) (done v u τ) h = (refl, h.1, h.2)
  caught-alike (done w t σ) still h = h
  caught-alike still (done v u τ) h = h
  caught-alike still still h = h

  -- by a test that both stores answer alike
  test-alike : (a b : Bool) (f g f' g' : Run) → a ≡ b → Alike f f' → Alike g g'
      → Alike (elim a as (λ z. Run) [ true ↦ f | false ↦ g ]) (elim b as (λ z. Run) [ true ↦ f' | false ↦ g' ])
  test-alike true true f g f' g' e p q = p
  test-alike false false f g f' g' e p q = q
  test-alike true false f g f' g' e p q = let z : ◌≡◌ {A = ℕ} 0 1 = cc in absurd (omega arith)
  test-alike false true f g f' g' e p q = let z : ◌≡◌ {A = ℕ} 0 1 = cc in absurd (omega arith)

  -- Loops ------------------------------------------------------------------------------------------------------------------------------

  module _ (body : Body) (d : ℕ) (e : Expr) (w : FormedExpr e) (c : Covers (reads e)) (h : AlikeOn body body) where
    zero-alike : (σ τ : Store) → Agree σ τ → is_zero (eval e σ) ≡ is_zero (eval e τ)
    zero-alike σ τ a = ap is_zero (eval-agree e w c σ τ a)

    whiles-alike : (n : ℕ) → AlikeOn (whiles body d e n) (whiles body d e n)
    unfolding whiles
    whiles-alike zero k σ τ a = tt
    whiles-alike (suc n) k σ τ a =
        let r = whiles-alike n in
        wait-alike d k _ _
        (λ k₁.
        test-alike _ _ _ _ _ _ (zero-alike σ τ a) (refl, refl, a)
        (chain-alike (body k₁ σ) (body k₁ τ) _ _ (h k₁ σ τ a) (λ t σ₁ τ₁ b. r (k₁ - t) σ₁ τ₁ b)))

    repeats-alike : (n : ℕ) → AlikeOn (repeats body d e n) (repeats body d e n)
    unfolding repeats
    repeats-alike zero k σ τ a = tt
    repeats-alike (suc n) k σ τ a =
        let r = repeats-alike n in
        chain-alike (body k σ) (body k τ) _ _ (h k σ τ a)
        (λ t σ₁ τ₁ b. wait-alike d (k - t) _ _ (λ k₁. test-alike _ _ _ _ _ _ (zero-alike σ₁ τ₁ b) (r k₁ σ₁ τ₁ b) (refl, refl, b)))

  postponed-alike : (n : ℕ) (body : Body) → AlikeOn body body → AlikeOn (postponed n body) (postponed n body)
  postponed-alike zero body h k σ τ a = h k σ τ a
  postponed-alike (suc n) body h k σ τ a = wait-alike (suc n) k _ _ (λ k₁. h k₁ σ τ a)

  loops-alike : (body : Body) (d : ℕ) → AlikeOn body body → (n : ℕ) → AlikeOn (loops body d n) (loops body d n)
  unfolding loops
  loops-alike body d h zero k σ τ a = tt
  loops-alike body d h (suc n) k σ τ a =
      let r = loops-alike body d h n in
      chain-alike (body k σ) (body k τ) _ _ (h k σ τ a) (λ t σ₁ τ₁ b. wait-alike d (k - t) _ _ (λ k₁. r k₁ σ₁ τ₁ b))

  -- Statements -------------------------------------------------------------------------------------------------------------------------

  pub run-alike : (κ : Costs) (P : Stmt) → Formed P → Covers (touches P) → AlikeOn (λ k σ. run κ k P σ) (λ k σ. run κ k P σ)
  unfolding run touches
  run-alike κ ok w c = λ k σ τ h. (refl, refl, h)
  run-alike κ (tick d) w c = λ k σ τ h. wait-alike d k _ _ (λ k₁. (refl, refl, h))
  run-alike κ (assign d x e) w c =
      let ce = covers-second (λ y. eqb y x) (reads e) c in
      λ k σ τ h. wait-alike (d + κ.write) k _ _ (λ k₁. (refl, refl, put-agree σ τ x x _ _ h refl (eval-agree e w.2 ce σ τ h)))
  run-alike κ (assign_elem d j i e) w c =
      let both = covers-second (λ y. eqb y (array_var j)) (λ y. reads i y || reads e y) c in
      let ci = covers-first (reads i) (reads e) both in
      let ce = covers-second (reads i) (reads e) both in
      λ k σ τ h.
      wait-alike (d + κ.write) k _ _
      (λ k₁. (refl, refl, put-agree σ τ _ _ _ _ h (ap (element_word j) (eval-agree i w.2 ci σ τ h)) (eval-agree e w.3 ce σ τ h)))
  run-alike κ (seq P Q) w c =
      let p = run-alike κ P w.0 (covers-first (touches P) (touches Q) c) in
      let q = run-alike κ Q w.1 (covers-second (touches P) (touches Q) c) in
      λ k σ τ h. chain-alike (run κ k P σ) (run κ k P τ) _ _ (p k σ τ h) (λ t σ₁ τ₁ b. q (k - t) σ₁ τ₁ b)
  run-alike κ (par P Q) w c =
      let p = run-alike κ P w.0 (covers-first (touches P) (touches Q) c) in
      let q = run-alike κ Q w.1 (covers-second (touches P) (touches Q) c) in
      λ k σ τ h. both-alike (kept P Q σ) (kept P Q τ) _ _ _ _ (λ σ₁ τ₁ σ₂ τ₂. kept-agree P Q σ τ σ₁ τ₁ σ₂ τ₂ h) (p k σ τ h) (q k σ τ h)
  run-alike κ (ite d e P Q) w c =
      let ce = covers-first (reads e) (λ y. touches P y || touches Q y) c in
      let both = covers-second (reads e) (λ y. touches P y || touches Q y) c in
      let p = run-alike κ P w.2 (covers-first (touches P) (touches Q) both) in
      let q = run-alike κ Q w.3 (covers-second (touches P) (touches Q) both) in
      λ k σ τ h. wait-alike d k _ _ (λ k₁. test-alike _ _ _ _ _ _ (ap is_zero (eval-agree e w.1 ce σ τ h)) (q k₁ σ τ h) (p k₁ σ τ h))
  run-alike κ (while d e P) w c =
      let ce = covers-first (reads e) (touches P) c in
      let p = run-alike κ P w.2 (covers-second (reads e) (touches P) c) in
      λ k. whiles-alike (λ k₁ σ. run κ k₁ P σ) (extended κ.latch d) e w.1 ce p (suc k) k
  run-alike κ (repeat d e P) w c =
      let ce = covers-first (reads e) (touches P) c in
      let p = run-alike κ P w.2 (covers-second (reads e) (touches P) c) in
      λ k. repeats-alike (postponed κ.latch (λ k₁ σ. run κ k₁ P σ)) d e w.1 ce (postponed-alike κ.latch (λ k₁ σ. run κ k₁ P σ) p) (suc k) k
  run-alike κ (loop d P) w c =
      let p = run-alike κ P w.1 c in
      λ k σ τ h. caught-alike _ _ (loops-alike (λ k₁ σ. run κ k₁ P σ) d p (suc k) k σ τ h)
  run-alike κ exit w c = λ k σ τ h. (refl, refl, h)
  run-alike κ (call _ none) w c = elim none [ ]

-- The first 272 words ------------------------------------------------------------------------------------------------------------------

pub element-low : (k w : ℕ) → k < 4 → element_word k w < 272
unfolding element_word
element-low k w l = omega arith

no_or : {a b : Bool} → a ≡ false → b ≡ false → (a || b) ≡ false
no_or p q = ap₂ (λ (a b : Bool). a || b) p q

-- of variables and arrays there are twenty
unread : (y : ℕ) → 20 ≤ y → (e : Expr) → FormedExpr e → reads e y ≡ false
unfolding reads
unread y l (const n) w = refl
unread y l (var n) w = ne_eqb y n (λ q. omega arith)
unread y l (compl e) w = unread y l e w
unread y l (op k a b) w = no_or (unread y l a w.2) (unread y l b w.3)
unread y l (elem k e) w = no_or (ne_eqb y (16 + k) (λ q. omega (arith, w.0))) (unread y l e w.1)

untouched : (y : ℕ) → 20 ≤ y → (P : Stmt) → Formed P → touches P y ≡ false
unfolding touches
untouched y l ok w = refl
untouched y l (tick d) w = refl
untouched y l (assign d x e) w = no_or (ne_eqb y x (λ q. omega (arith, w.1))) (unread y l e w.2)
untouched y l (assign_elem d k i e) w = no_or (ne_eqb y (16 + k) (λ q. omega (arith, w.1))) (no_or (unread y l i w.2) (unread y l e w.3))
untouched y l (seq P Q) w = no_or (untouched y l P w.0) (untouched y l Q w.1)
untouched y l (par P Q) w = no_or (untouched y l P w.0) (untouched y l Q w.1)
untouched y l (ite d e P Q) w = no_or (unread y l e w.1) (no_or (untouched y l P w.2) (untouched y l Q w.3))
untouched y l (while d e P) w = no_or (unread y l e w.1) (untouched y l P w.2)
untouched y l (repeat d e P) w = no_or (unread y l e w.1) (untouched y l P w.2)
untouched y l (loop d P) w = untouched y l P w.1
untouched y l exit w = refl
untouched y l (call _ none) w = elim none [ ]

owner-past : (x : ℕ) → 272 ≤ x → 20 ≤ owner x
owner-past x l = omega (arith, owner-later x (omega arith))

abbrev Low : ℕ → Type 0
Low x = x < 272

touched-low : (P : Stmt) → Formed P → Covers Low (touches P)
touched-low P w x r = by_le 272 x (λ l. not-both r (untouched (owner x) (owner-past x l) P w)) (λ l. l)

-- Answers ------------------------------------------------------------------------------------------------------------------------------

listed-agree : (σ τ : Store) (n x : ℕ) → x + n ≤ 272 → Agree Low σ τ → listed σ x n ≡ listed τ x n
unfolding listed
listed-agree σ τ zero x l h = refl
listed-agree σ τ (suc n) x l h = ap₂ ◌∷◌ (h x (omega arith)) (listed-agree σ τ n (x + 1) (omega arith) h)

alike-answer : (n : ℕ) (r q : Run) → Alike Low r q → reference_answer n r ≡ reference_answer n q
unfolding reference_answer
alike-answer n (done at_end t σ) (done at_end u τ) h =
    ap₂ (λ (t : ℕ) (ws : List ℕ). record { outcome = Ended; instant = t; count = t + 1; words = ws }) h.1
    (listed-agree σ τ 16 0 (omega arith) h.2)
alike-answer n (done at_end t σ) (done at_exit u τ) h = not-way h.0
alike-answer n (done at_exit t σ) (done at_end u τ) h = not-way (sym h.0)
alike-answer n (done at_exit t σ) (done at_exit u τ) h = refl
alike-answer n (done w t σ) still h = absurd h
alike-answer n still (done v u τ) h = absurd h
alike-answer n still still h = refl

pub same_answer : (κ : Costs) (P : Stmt) → Formed P → (n : ℕ) (σ τ : Store) → Agree Low σ τ
    → reference_answer n (run κ n P σ) ≡ reference_answer n (run κ n P τ)
same_answer κ P w n σ τ h = alike-answer n (run κ n P σ) (run κ n P τ) (run-alike Low κ P w (touched-low P w) n σ τ h)
