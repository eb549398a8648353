-- The budgeted run computes the rules: a run that ended, or came to an exit, is an end by the relation `Ends`, or a leaving by the relation `Leaves`, and
-- either is what the run gives within any budget of at least its time. So there is at most one of them, and a finish is due in the instants from the end on and at no other
-- instant.
-- From a run to the relations nothing is assumed; back again, that delays are at least 1 where the paper asks it (`Timed`): no loop has more turns than instants.
use Prim.Native.Nat.{ℕ, zero, suc, ◌+◌, ◌-◌, ◌≤◌, ◌<◌, max}
use Rattle.std.specs.Prelude.{◌≡◌, refl, Bool, true, false, ltb}
use Rattle.std.proofs.Common.{sym, ◌∙◌, ap, true≢false, inl, inr, arith, ltb-true, lt-ltb}
use Rattle.model.specs.Word.{is_zero, element_word}
use Rattle.model.specs.Program.{Expr, Stmt, ok, tick, assign, assign_elem, seq, par, ite, while, repeat, loop, exit, call}
use Rattle.model.specs.Rules.{Costs, extended, Postponed, postponed, Store, eval, put, kept, Course, WhileEnds, WhileLeaves, RepeatEnds, RepeatLeaves, LoopEnds, Ends, Leaves, Way, at_end, Run, done, ended, left, wait, chain, whiles, repeats, loops, run, shows_at, due}
use Rattle.laws.specs.Program.Fit.{Timed}
use Rattle.laws.specs.Refusals.Laws.{by_bool}
use Rattle.laws.specs.Rules.Laws.{Body, extended-positive, by_runs, steady, done-way, done-time, done-words, done-still, not-way, wait-done, wait-of, chain-done, chain-ended, chain-of, chain-out, both-done, both_of, caught-done, caught-of, whiles-stop, whiles-more, again, repeats-is, again-more, again-stop, round, loops_is, round_is, ite-then, ite-else}

-- A run that is done is so by the rules -------------------------------------------------------------------------------------------------

-- a wait of d and no more
wait-end : (d k : ℕ) {t : ℕ} {σ σ' : Store} → wait d k (λ k₁. ended 0 σ) ≡ ended t σ' → (t ≡ d) × (σ' ≡ σ)
wait-end d k {σ = σ} p =
    let w = wait-done d k (λ k₁. ended 0 σ) p in
    let z = done-time w.2 in
    (omega (arith, w.3), sym (done-words w.2))

-- which never leaves
wait-not-left : {A : Type 0} (d k : ℕ) (σ : Store) {t : ℕ} {σ' : Store} → wait d k (λ k₁. ended 0 σ) ≡ left t σ' → A
wait-not-left d k σ p = not-way (done-way (wait-done d k (λ k₁. ended 0 σ) p).2)

module _ (body : Body) (R L : Course) (d : ℕ)
    (h : (k : ℕ) (σ : Store) (t : ℕ) (σ' : Store) → (body k σ ≡ ended t σ' → R σ t σ') × (body k σ ≡ left t σ' → L σ t σ')) where
  module _ (e : Expr) where
    whiles-ends : (m k : ℕ) (σ : Store) (t : ℕ) (σ' : Store) → whiles body d e m k σ ≡ ended t σ' → (n : ℕ) × WhileEnds R d e n σ t σ'
    unfolding whiles WhileEnds
    whiles-ends zero k σ t σ' p = done-still (sym p)
    whiles-ends (suc m) k σ t σ' p =
        by_bool (is_zero (eval e σ))
        (λ z. let w = wait-end d k (sym (whiles-stop body d e m k σ z) ∙ p) in (0, (z, w.0, w.1)))
        (λ z.
        let rest : ℕ → ℕ → Store → Run = λ k₁ t σ₁. whiles body d e m (k₁ - t) σ₁ in
        let w = wait-done d k (λ k₁. chain (body k₁ σ) (rest k₁)) (sym (whiles-more body d e m k σ z) ∙ p) in
        let v = chain-ended (body (k - d) σ) (rest (k - d)) w.2 in
        let i = whiles-ends m (k - d - v.0) v.1 v.2 σ' v.4 in
        (suc i.0, (v.0, v.1, v.2, z, (h (k - d) σ v.0 v.1).0 v.3, i.1, omega (arith, w.3, v.5))))

    whiles-leaves : (m k : ℕ) (σ : Store) (t : ℕ) (σ' : Store) → whiles body d e m k σ ≡ left t σ' → (n : ℕ) × WhileLeaves R L d e n σ t σ'
    unfolding whiles WhileLeaves
    whiles-leaves zero k σ t σ' p = done-still (sym p)
    whiles-leaves (suc m) k σ t σ' p =
        by_bool (is_zero (eval e σ))
        (λ z. wait-not-left d k σ (sym (whiles-stop body d e m k σ z) ∙ p))
        (λ z.
        let rest : ℕ → ℕ → Store → Run = λ k₁ t σ₁. whiles body d e m (k₁ - t) σ₁ in
        let w = wait-done d k (λ k₁. chain (body k₁ σ) (rest k₁)) (sym (whiles-more body d e m k σ z) ∙ p) in
        chain-done (body (k - d) σ) (rest (k - d)) w.2
        (λ t₁ σ₁ t₂ q q₁ q₂.
        let i = whiles-leaves m (k - d - t₁) σ₁ t₂ σ' q₁ in
        (suc i.0, (t₁, σ₁, t₂, z, (h (k - d) σ t₁ σ₁).0 q, i.1, omega (arith, w.3))))
        (λ x q. (0, (w.0, z, (h (k - d) σ w.0 σ').1 q, w.3))))

    repeats-ends : (m k : ℕ) (σ : Store) (t : ℕ) (σ' : Store) → repeats body d e m k σ ≡ ended t σ' → (n : ℕ) × RepeatEnds R d e n σ t σ'
    unfolding repeats RepeatEnds
    repeats-ends zero k σ t σ' p = done-still (sym p)
    repeats-ends (suc m) k σ t σ' p =
        let v = chain-ended (body k σ) (λ t σ₁. again body d e m (k - t) σ₁) (sym (repeats-is body d e m k σ) ∙ p) in
        let b = (h k σ v.0 v.1).0 v.3 in
        by_bool (is_zero (eval e v.1))
        (λ z.
        let w = wait-done d (k - v.0) (λ k₁. repeats body d e m k₁ v.1) (sym (again-more body d e m (k - v.0) v.1 z) ∙ v.4) in
        let i = repeats-ends m (k - v.0 - d) v.1 w.0 σ' w.2 in
        (suc i.0, (v.0, v.1, w.0, b, z, i.1, omega (arith, w.3, v.5))))
        (λ z.
        let w = wait-end d (k - v.0) (sym (again-stop body d e m (k - v.0) v.1 z) ∙ v.4) in
        (0, rw w.1 (v.0, b, z, omega (arith, w.0, v.5))))

    repeats-leaves : (m k : ℕ) (σ : Store) (t : ℕ) (σ' : Store) → repeats body d e m k σ ≡ left t σ' → (n : ℕ) × RepeatLeaves R L d e n σ t σ'
    unfolding repeats RepeatLeaves
    repeats-leaves zero k σ t σ' p = done-still (sym p)
    repeats-leaves (suc m) k σ t σ' p =
        chain-done (body k σ) (λ t σ₁. again body d e m (k - t) σ₁) (sym (repeats-is body d e m k σ) ∙ p)
        (λ t₁ σ₁ t₂ q q₁ q₂.
        by_bool (is_zero (eval e σ₁))
        (λ z.
        let w = wait-done d (k - t₁) (λ k₁. repeats body d e m k₁ σ₁) (sym (again-more body d e m (k - t₁) σ₁ z) ∙ q₁) in
        let i = repeats-leaves m (k - t₁ - d) σ₁ w.0 σ' w.2 in
        (suc i.0, (t₁, σ₁, w.0, (h k σ t₁ σ₁).0 q, z, i.1, omega (arith, w.3))))
        (λ z. wait-not-left d (k - t₁) σ₁ (sym (again-stop body d e m (k - t₁) σ₁ z) ∙ q₁)))
        (λ x q. (0, (h k σ t σ').1 q))

  -- the turns of a loop come to nothing but a leaving
  loops-ends : (m k : ℕ) (σ : Store) (w : Way) (t : ℕ) (σ' : Store) → loops body d m k σ ≡ done w t σ' → (n : ℕ) × LoopEnds R L d n σ t σ'
  unfolding loops LoopEnds
  loops-ends zero k σ w t σ' p = done-still (sym p)
  loops-ends (suc m) k σ w t σ' p =
      chain-done (body k σ) (λ t σ₁. round body d m (k - t) σ₁) (sym (loops_is body d m k σ) ∙ p)
      (λ t₁ σ₁ t₂ q q₁ q₂.
      let v = wait-done d (k - t₁) (λ k₁. loops body d m k₁ σ₁) (sym (round_is body d m (k - t₁) σ₁) ∙ q₁) in
      let i = loops-ends m (k - t₁ - d) σ₁ w v.0 σ' v.2 in
      (suc i.0, (t₁, σ₁, v.0, (h k σ t₁ σ₁).0 q, i.1, omega (arith, v.3))))
      (λ x q. (0, (h k σ t σ').1 q))

-- both at once, since a loop's end is its body's leaving
abbrev Computed : Costs → Stmt → Type 0
Computed κ P = (k : ℕ) (σ : Store) (t : ℕ) (σ' : Store) → (run κ k P σ ≡ ended t σ' → Ends κ P σ t σ') × (run κ k P σ ≡ left t σ' → Leaves κ P σ t σ')

run-seq-leaves : (κ : Costs) (P Q : Stmt) → Computed κ P → Computed κ Q → (k : ℕ) (σ : Store) (t : ℕ) (σ' : Store) → run κ k (seq P Q) σ ≡ left t σ' → Leaves κ (seq P Q) σ t σ'
unfolding run Ends
run-seq-leaves κ P Q hP hQ k σ t σ' p =
    chain-done (run κ k P σ) (λ t σ₁. run κ (k - t) Q σ₁) p
    (λ t₁ σ₁ t₂ q q₁ q₂. inr (t₁, σ₁, t₂, (hP k σ t₁ σ₁).0 q, (hQ (k - t₁) σ₁ t₂ σ').1 q₁, q₂))
    (λ x q. inl ((hP k σ t σ').1 q))

-- of a body that begins later
postponed-computed : (κ : Costs) (P : Stmt) → Computed κ P → (k : ℕ) (σ : Store) (t : ℕ) (σ' : Store)
    → (postponed κ.latch (λ k σ. run κ k P σ) k σ ≡ ended t σ' → Postponed κ.latch (Ends κ P) σ t σ')
    × (postponed κ.latch (λ k σ. run κ k P σ) k σ ≡ left t σ' → Postponed κ.latch (Leaves κ P) σ t σ')
postponed-computed κ P h k σ t σ' = go κ.latch
  where
    go : (n : ℕ) → (postponed n (λ k σ. run κ k P σ) k σ ≡ ended t σ' → Postponed n (Ends κ P) σ t σ')
        × (postponed n (λ k σ. run κ k P σ) k σ ≡ left t σ' → Postponed n (Leaves κ P) σ t σ')
    go zero = h k σ t σ'
    go (suc n) = (
      λ p. let v = wait-done (suc n) k (λ k₁. run κ k₁ P σ) p in (v.0, (h (k - suc n) σ v.0 σ').0 v.2, v.3),
      λ p. let v = wait-done (suc n) k (λ k₁. run κ k₁ P σ) p in (v.0, (h (k - suc n) σ v.0 σ').1 v.2, v.3),
    )

run-by-rules : (κ : Costs) (P : Stmt) → Computed κ P
unfolding run Ends
run-by-rules κ ok k σ t σ' = (λ p. (sym (done-time p), sym (done-words p)), λ p. not-way (done-way p))
run-by-rules κ (tick d) k σ t σ' = (λ p. wait-end d k p, λ p. wait-not-left d k σ p)
run-by-rules κ (assign d x e) k σ t σ' = (λ p. wait-end (d + κ.write) k p, λ p. wait-not-left (d + κ.write) k (put σ x (eval e σ)) p)
run-by-rules κ (assign_elem d j i e) k σ t σ' = (
  λ p. wait-end (d + κ.write) k p,
  λ p. wait-not-left (d + κ.write) k (put σ (element_word j (eval i σ)) (eval e σ)) p,
)
run-by-rules κ (seq P Q) k σ t σ' = (
  λ p.
      let v = chain-ended (run κ k P σ) (λ t σ₁. run κ (k - t) Q σ₁) p in
      (v.0, v.1, v.2, (run-by-rules κ P k σ v.0 v.1).0 v.3, (run-by-rules κ Q (k - v.0) v.1 v.2 σ').0 v.4, v.5),
  run-seq-leaves κ P Q (run-by-rules κ P) (run-by-rules κ Q) k σ t σ',
)
run-by-rules κ (par P Q) k σ t σ' = (
  λ p.
      let v = both-done (kept P Q σ) (run κ k P σ) (run κ k Q σ) p in
      (v.0, v.1, v.2, v.3, (run-by-rules κ P k σ v.0 v.1).0 v.4, (run-by-rules κ Q k σ v.2 v.3).0 v.5, v.6, v.7),
  λ p. not-way (sym (both-done (kept P Q σ) (run κ k P σ) (run κ k Q σ) p).8),
)
run-by-rules κ (ite d e P Q) k σ t σ' =
    let branch : Bool → ℕ → Run = λ b k₁. elim b as (λ z. Run) [ true ↦ run κ k₁ Q σ | false ↦ run κ k₁ P σ ] in (
      λ p.
          let w = wait-done d k (branch (is_zero (eval e σ))) p in (
            w.0,
            λ z. (run-by-rules κ P (k - d) σ w.0 σ').0 (ap (λ (b : Bool). branch b (k - d)) (sym z) ∙ w.2),
            λ z. (run-by-rules κ Q (k - d) σ w.0 σ').0 (ap (λ (b : Bool). branch b (k - d)) (sym z) ∙ w.2),
            w.3,
          ),
      λ p.
          let w = wait-done d k (branch (is_zero (eval e σ))) p in (
            w.0,
            λ z. (run-by-rules κ P (k - d) σ w.0 σ').1 (ap (λ (b : Bool). branch b (k - d)) (sym z) ∙ w.2),
            λ z. (run-by-rules κ Q (k - d) σ w.0 σ').1 (ap (λ (b : Bool). branch b (k - d)) (sym z) ∙ w.2),
            w.3,
          ),
    )
run-by-rules κ (while d e P) k σ t σ' = (
  whiles-ends (λ k σ. run κ k P σ) (Ends κ P) (Leaves κ P) (extended κ.latch d) (run-by-rules κ P) e (suc k) k σ t σ',
  whiles-leaves (λ k σ. run κ k P σ) (Ends κ P) (Leaves κ P) (extended κ.latch d) (run-by-rules κ P) e (suc k) k σ t σ',
)
run-by-rules κ (repeat d e P) k σ t σ' = (
  repeats-ends (postponed κ.latch (λ k σ. run κ k P σ)) (Postponed κ.latch (Ends κ P)) (Postponed κ.latch (Leaves κ P)) d
      (postponed-computed κ P (run-by-rules κ P)) e (suc k) k σ t σ',
  repeats-leaves (postponed κ.latch (λ k σ. run κ k P σ)) (Postponed κ.latch (Ends κ P)) (Postponed κ.latch (Leaves κ P)) d
      (postponed-computed κ P (run-by-rules κ P)) e (suc k) k σ t σ',
)
run-by-rules κ (loop d P) k σ t σ' = (
  λ p.
      let v = caught-done (loops (λ k σ. run κ k P σ) d (suc k) k σ) p in
      loops-ends (λ k σ. run κ k P σ) (Ends κ P) (Leaves κ P) d (run-by-rules κ P) (suc k) k σ v.0 t σ' v.1,
  λ p. not-way (sym (caught-done (loops (λ k σ. run κ k P σ) d (suc k) k σ) p).2),
)
run-by-rules κ exit k σ t σ' = (λ p. not-way (sym (done-way p)), λ p. (sym (done-time p), sym (done-words p)))
run-by-rules κ (call _ none) k σ t σ' = elim none [ ]

-- a run that ended within any budget is an end, at the same time and with the same words
pub run_ends : (κ : Costs) (P : Stmt) (k : ℕ) (σ : Store) (t : ℕ) (σ' : Store) → run κ k P σ ≡ ended t σ' → Ends κ P σ t σ'
run_ends κ P k σ t σ' p = (run-by-rules κ P k σ t σ').0 p

-- and one that left is a leaving
pub run-leaves : (κ : Costs) (P : Stmt) (k : ℕ) (σ : Store) (t : ℕ) (σ' : Store) → run κ k P σ ≡ left t σ' → Leaves κ P σ t σ'
run-leaves κ P k σ t σ' p = (run-by-rules κ P k σ t σ').1 p

-- What is so by the rules is found within its time ------------------------------------------------------------------------------------

wait-all : (d k : ℕ) (σ : Store) → d ≤ k → wait d k (λ k₁. ended 0 σ) ≡ ended d σ
wait-all d k σ l = let q : d + 0 ≡ d = omega arith in rw q at (wait-of d k (λ k₁. ended 0 σ) l refl)

module _ (body : Body) (R L : Course) (d : ℕ) (pos : 1 ≤ d)
    (h : (σ : Store) (t : ℕ) (σ' : Store)
    → (R σ t σ' → (k : ℕ) → t ≤ k → body k σ ≡ ended t σ') × (L σ t σ' → (k : ℕ) → t ≤ k → body k σ ≡ left t σ')) where
  module _ (e : Expr) where
    ends-whiles : (n : ℕ) (σ : Store) (t : ℕ) (σ' : Store) → WhileEnds R d e n σ t σ' → (m k : ℕ) → t ≤ k → k ≤ m
        → whiles body d e (suc m) k σ ≡ ended t σ'
    unfolding WhileEnds
    ends-whiles zero σ t σ' E m k l b = rw (E.1, E.2) (whiles-stop body d e m k σ E.0 ∙ wait-all d k σ (omega (arith, E.1)))
    ends-whiles (suc n) σ t σ' E zero k l b = absurd (omega (arith, E.6))
    ends-whiles (suc n) σ t σ' E (suc m) k l b =
        let rest : ℕ → ℕ → Store → Run = λ k₁ t σ₁. whiles body d e (suc m) (k₁ - t) σ₁ in
        rw E.6
        (whiles-more body d e (suc m) k σ E.3
        ∙ wait-of d k (λ k₁. chain (body k₁ σ) (rest k₁)) (omega (arith, E.6))
        (chain-of (body (k - d) σ) (rest (k - d)) ((h σ E.0 E.1).0 E.4 (k - d) (omega (arith, E.6)))
        (ends-whiles n E.1 E.2 σ' E.5 m (k - d - E.0) (omega (arith, E.6)) (omega arith))))

    leaves-whiles : (n : ℕ) (σ : Store) (t : ℕ) (σ' : Store) → WhileLeaves R L d e n σ t σ' → (m k : ℕ) → t ≤ k → k ≤ m
        → whiles body d e (suc m) k σ ≡ left t σ'
    unfolding WhileLeaves
    leaves-whiles zero σ t σ' E m k l b =
        let rest : ℕ → ℕ → Store → Run = λ k₁ t σ₁. whiles body d e m (k₁ - t) σ₁ in
        rw E.3
        (whiles-more body d e m k σ E.1
        ∙ wait-of d k (λ k₁. chain (body k₁ σ) (rest k₁)) (omega (arith, E.3))
        (chain-out (body (k - d) σ) (rest (k - d)) ((h σ E.0 σ').1 E.2 (k - d) (omega (arith, E.3)))))
    leaves-whiles (suc n) σ t σ' E zero k l b = absurd (omega (arith, E.6))
    leaves-whiles (suc n) σ t σ' E (suc m) k l b =
        let rest : ℕ → ℕ → Store → Run = λ k₁ t σ₁. whiles body d e (suc m) (k₁ - t) σ₁ in
        rw E.6
        (whiles-more body d e (suc m) k σ E.3
        ∙ wait-of d k (λ k₁. chain (body k₁ σ) (rest k₁)) (omega (arith, E.6))
        (chain-of (body (k - d) σ) (rest (k - d)) ((h σ E.0 E.1).0 E.4 (k - d) (omega (arith, E.6)))
        (leaves-whiles n E.1 E.2 σ' E.5 m (k - d - E.0) (omega (arith, E.6)) (omega arith))))

    ends-repeats : (n : ℕ) (σ : Store) (t : ℕ) (σ' : Store) → RepeatEnds R d e n σ t σ' → (m k : ℕ) → t ≤ k → k ≤ m
        → repeats body d e (suc m) k σ ≡ ended t σ'
    unfolding RepeatEnds
    ends-repeats zero σ t σ' E m k l b =
        rw E.3
        (repeats-is body d e m k σ
        ∙ chain-of (body k σ) (λ t σ₁. again body d e m (k - t) σ₁) ((h σ E.0 σ').0 E.1 k (omega (arith, E.3)))
        (again-stop body d e m (k - E.0) σ' E.2 ∙ wait-all d (k - E.0) σ' (omega (arith, E.3))))
    ends-repeats (suc n) σ t σ' E zero k l b = absurd (omega (arith, E.6))
    ends-repeats (suc n) σ t σ' E (suc m) k l b =
        rw E.6
        (repeats-is body d e (suc m) k σ
        ∙ chain-of (body k σ) (λ t σ₁. again body d e (suc m) (k - t) σ₁) ((h σ E.0 E.1).0 E.3 k (omega (arith, E.6)))
        (again-more body d e (suc m) (k - E.0) E.1 E.4
        ∙ wait-of d (k - E.0) (λ k₁. repeats body d e (suc m) k₁ E.1) (omega (arith, E.6))
        (ends-repeats n E.1 E.2 σ' E.5 m (k - E.0 - d) (omega (arith, E.6)) (omega arith))))

    leaves-repeats : (n : ℕ) (σ : Store) (t : ℕ) (σ' : Store) → RepeatLeaves R L d e n σ t σ' → (m k : ℕ) → t ≤ k → k ≤ m
        → repeats body d e (suc m) k σ ≡ left t σ'
    unfolding RepeatLeaves
    leaves-repeats zero σ t σ' E m k l b =
        repeats-is body d e m k σ ∙ chain-out (body k σ) (λ t σ₁. again body d e m (k - t) σ₁) ((h σ t σ').1 E k l)
    leaves-repeats (suc n) σ t σ' E zero k l b = absurd (omega (arith, E.6))
    leaves-repeats (suc n) σ t σ' E (suc m) k l b =
        rw E.6
        (repeats-is body d e (suc m) k σ
        ∙ chain-of (body k σ) (λ t σ₁. again body d e (suc m) (k - t) σ₁) ((h σ E.0 E.1).0 E.3 k (omega (arith, E.6)))
        (again-more body d e (suc m) (k - E.0) E.1 E.4
        ∙ wait-of d (k - E.0) (λ k₁. repeats body d e (suc m) k₁ E.1) (omega (arith, E.6))
        (leaves-repeats n E.1 E.2 σ' E.5 m (k - E.0 - d) (omega (arith, E.6)) (omega arith))))

  ends-loops : (n : ℕ) (σ : Store) (t : ℕ) (σ' : Store) → LoopEnds R L d n σ t σ' → (m k : ℕ) → t ≤ k → k ≤ m
      → loops body d (suc m) k σ ≡ left t σ'
  unfolding LoopEnds
  ends-loops zero σ t σ' E m k l b =
      loops_is body d m k σ ∙ chain-out (body k σ) (λ t σ₁. round body d m (k - t) σ₁) ((h σ t σ').1 E k l)
  ends-loops (suc n) σ t σ' E zero k l b = absurd (omega (arith, E.5))
  ends-loops (suc n) σ t σ' E (suc m) k l b =
      rw E.5
      (loops_is body d (suc m) k σ
      ∙ chain-of (body k σ) (λ t σ₁. round body d (suc m) (k - t) σ₁) ((h σ E.0 E.1).0 E.3 k (omega (arith, E.5)))
      (round_is body d (suc m) (k - E.0) E.1
      ∙ wait-of d (k - E.0) (λ k₁. loops body d (suc m) k₁ E.1) (omega (arith, E.5))
      (ends-loops n E.1 E.2 σ' E.4 m (k - E.0 - d) (omega (arith, E.5)) (omega arith))))

abbrev Found : Costs → Stmt → Type 0
Found κ P =
    (σ : Store) (t : ℕ) (σ' : Store)
    → (Ends κ P σ t σ' → (k : ℕ) → t ≤ k → run κ k P σ ≡ ended t σ') × (Leaves κ P σ t σ' → (k : ℕ) → t ≤ k → run κ k P σ ≡ left t σ')

seq-leaves-run : (κ : Costs) (P Q : Stmt) → Found κ P → Found κ Q → (σ : Store) (t : ℕ) (σ' : Store) → Leaves κ (seq P Q) σ t σ'
    → (k : ℕ) → t ≤ k → run κ k (seq P Q) σ ≡ left t σ'
unfolding run Ends
seq-leaves-run κ P Q hP hQ σ t σ' (inl E) k l = chain-out (run κ k P σ) (λ t σ₁. run κ (k - t) Q σ₁) ((hP σ t σ').1 E k l)
seq-leaves-run κ P Q hP hQ σ t σ' (inr E) k l =
    rw E.5
    (chain-of (run κ k P σ) (λ t σ₁. run κ (k - t) Q σ₁) ((hP σ E.0 E.1).0 E.3 k (omega (arith, E.5)))
    ((hQ E.1 E.2 σ').1 E.4 (k - E.0) (omega (arith, E.5))))

postponed-found : (κ : Costs) (P : Stmt) → Found κ P → (σ : Store) (t : ℕ) (σ' : Store)
    → (Postponed κ.latch (Ends κ P) σ t σ' → (k : ℕ) → t ≤ k → postponed κ.latch (λ k σ. run κ k P σ) k σ ≡ ended t σ')
    × (Postponed κ.latch (Leaves κ P) σ t σ' → (k : ℕ) → t ≤ k → postponed κ.latch (λ k σ. run κ k P σ) k σ ≡ left t σ')
postponed-found κ P h σ t σ' = go κ.latch
  where
    go : (n : ℕ) → (Postponed n (Ends κ P) σ t σ' → (k : ℕ) → t ≤ k → postponed n (λ k σ. run κ k P σ) k σ ≡ ended t σ')
        × (Postponed n (Leaves κ P) σ t σ' → (k : ℕ) → t ≤ k → postponed n (λ k σ. run κ k P σ) k σ ≡ left t σ')
    go zero = h σ t σ'
    go (suc n) = (
      λ E k l.
          rw E.2
          (wait-of (suc n) k (λ k₁. run κ k₁ P σ) (omega (arith, E.2)) ((h σ E.0 σ').0 E.1 (k - suc n) (omega (arith, E.2)))),
      λ E k l.
          rw E.2
          (wait-of (suc n) k (λ k₁. run κ k₁ P σ) (omega (arith, E.2)) ((h σ E.0 σ').1 E.1 (k - suc n) (omega (arith, E.2)))),
    )

rules-run : (κ : Costs) (P : Stmt) → Timed P → Found κ P
unfolding run Ends
rules-run κ ok h σ t σ' = (λ E k l. rw (E.0, E.1), λ E k l. absurd E)
rules-run κ (tick d) h σ t σ' = (λ E k l. rw (E.0, E.1) (wait-all d k σ (omega (arith, E.0))), λ E k l. absurd E)
rules-run κ (assign d x e) h σ t σ' = (
  λ E k l.
      rw (E.0, E.1) (wait-all (d + κ.write) k (put σ x (eval e σ)) (omega arith)),
  λ E k l. absurd E,
)
rules-run κ (assign_elem d j i e) h σ t σ' = (
  λ E k l.
      rw (E.0, E.1) (wait-all (d + κ.write) k (put σ (element_word j (eval i σ)) (eval e σ)) (omega arith)),
  λ E k l. absurd E,
)
rules-run κ (seq P Q) h σ t σ' = (
  λ E k l.
      rw E.5
      (chain-of (run κ k P σ) (λ t σ₁. run κ (k - t) Q σ₁) ((rules-run κ P h.0 σ E.0 E.1).0 E.3 k (omega (arith, E.5)))
      ((rules-run κ Q h.1 E.1 E.2 σ').0 E.4 (k - E.0) (omega (arith, E.5)))),
  seq-leaves-run κ P Q (rules-run κ P h.0) (rules-run κ Q h.1) σ t σ',
)
rules-run κ (par P Q) h σ t σ' = (
  λ E k l.
      rw (E.6, E.7)
      (both_of (kept P Q σ) (run κ k P σ) (run κ k Q σ) ((rules-run κ P h.0 σ E.0 E.1).0 E.4 k (omega (arith, E.6)))
      ((rules-run κ Q h.1 σ E.2 E.3).0 E.5 k (omega (arith, E.6)))),
  λ E k l. absurd E,
)
rules-run κ (ite d e P Q) h σ t σ' = (
  λ E k l.
      rw E.3
      (by_bool (is_zero (eval e σ))
      (λ z.
      ite-else κ k d e P Q σ z
      ∙ wait-of d k (λ k₁. run κ k₁ Q σ) (omega (arith, E.3)) ((rules-run κ Q h.3 σ E.0 σ').0 (E.2 z) (k - d) (omega (arith, E.3))))
      (λ z.
      ite-then κ k d e P Q σ z
      ∙ wait-of d k (λ k₁. run κ k₁ P σ) (omega (arith, E.3)) ((rules-run κ P h.2 σ E.0 σ').0 (E.1 z) (k - d) (omega (arith, E.3))))),
  λ E k l.
      rw E.3
      (by_bool (is_zero (eval e σ))
      (λ z.
      ite-else κ k d e P Q σ z
      ∙ wait-of d k (λ k₁. run κ k₁ Q σ) (omega (arith, E.3)) ((rules-run κ Q h.3 σ E.0 σ').1 (E.2 z) (k - d) (omega (arith, E.3))))
      (λ z.
      ite-then κ k d e P Q σ z
      ∙ wait-of d k (λ k₁. run κ k₁ P σ) (omega (arith, E.3)) ((rules-run κ P h.2 σ E.0 σ').1 (E.1 z) (k - d) (omega (arith, E.3))))),
)
rules-run κ (while d e P) h σ t σ' = (
  λ E k l. ends-whiles (λ k σ. run κ k P σ) (Ends κ P) (Leaves κ P) (extended κ.latch d) (extended-positive κ.latch d h.0) (rules-run κ P h.2) e E.0 σ t σ' E.1 k k l (omega arith),
  λ E k l. leaves-whiles (λ k σ. run κ k P σ) (Ends κ P) (Leaves κ P) (extended κ.latch d) (extended-positive κ.latch d h.0) (rules-run κ P h.2) e E.0 σ t σ' E.1 k k l (omega arith),
)
rules-run κ (repeat d e P) h σ t σ' = (
  λ E k l.
      ends-repeats (postponed κ.latch (λ k σ. run κ k P σ)) (Postponed κ.latch (Ends κ P)) (Postponed κ.latch (Leaves κ P)) d h.0
      (postponed-found κ P (rules-run κ P h.2)) e E.0 σ t σ' E.1 k k l (omega arith),
  λ E k l.
      leaves-repeats (postponed κ.latch (λ k σ. run κ k P σ)) (Postponed κ.latch (Ends κ P)) (Postponed κ.latch (Leaves κ P)) d h.0
      (postponed-found κ P (rules-run κ P h.2)) e E.0 σ t σ' E.1 k k l (omega arith),
)
rules-run κ (loop d P) h σ t σ' = (
  λ E k l.
      caught-of (loops (λ k σ. run κ k P σ) d (suc k) k σ)
      (ends-loops (λ k σ. run κ k P σ) (Ends κ P) (Leaves κ P) d h.0 (rules-run κ P h.1) E.0 σ t σ' E.1 k k l (omega arith)),
  λ E k l. absurd E,
)
rules-run κ exit h σ t σ' = (λ E k l. absurd E, λ E k l. rw (E.0, E.1))
rules-run κ (call _ none) h σ t σ' = elim none [ ]

-- and an end is what the run gives within any budget of at least its time
pub ends-run : (κ : Costs) (P : Stmt) → Timed P → (σ : Store) (t : ℕ) (σ' : Store) → Ends κ P σ t σ' → (k : ℕ) → t ≤ k → run κ k P σ ≡ ended t σ'
ends-run κ P h σ t σ' E k l = (rules-run κ P h σ t σ').0 E k l

-- and a leaving too
pub leaves_run : (κ : Costs) (P : Stmt) → Timed P → (σ : Store) (t : ℕ) (σ' : Store) → Leaves κ P σ t σ' → (k : ℕ) → t ≤ k → run κ k P σ ≡ left t σ'
leaves_run κ P h σ t σ' E k l = (rules-run κ P h σ t σ').1 E k l

-- One end or leaving, and a finish due at the end ---------------------------------------------------------------------------------------

-- from the same words a program has at most one end
pub ends-once : (κ : Costs) (P : Stmt) → Timed P → (σ : Store) (t₁ t₂ : ℕ) (σ₁ σ₂ : Store) → Ends κ P σ t₁ σ₁ → Ends κ P σ t₂ σ₂ → (t₁ ≡ t₂) × (σ₁ ≡ σ₂)
ends-once κ P h σ t₁ t₂ σ₁ σ₂ E₁ E₂ =
    let p = sym (ends-run κ P h σ t₁ σ₁ E₁ (max t₁ t₂) (omega arith)) ∙ ends-run κ P h σ t₂ σ₂ E₂ (max t₁ t₂) (omega arith) in
    (done-time p, done-words p)

-- at most one leaving
pub leaves-once : (κ : Costs) (P : Stmt) → Timed P → (σ : Store) (t₁ t₂ : ℕ) (σ₁ σ₂ : Store) → Leaves κ P σ t₁ σ₁ → Leaves κ P σ t₂ σ₂ → (t₁ ≡ t₂) × (σ₁ ≡ σ₂)
leaves-once κ P h σ t₁ t₂ σ₁ σ₂ E₁ E₂ =
    let p = sym (leaves_run κ P h σ t₁ σ₁ E₁ (max t₁ t₂) (omega arith)) ∙ leaves_run κ P h σ t₂ σ₂ E₂ (max t₁ t₂) (omega arith) in
    (done-time p, done-words p)

-- and not both
pub ends-or-leaves : (κ : Costs) (P : Stmt) → Timed P → (σ : Store) (t₁ t₂ : ℕ) (σ₁ σ₂ : Store) → Ends κ P σ t₁ σ₁ → Leaves κ P σ t₂ σ₂ → ⊥
ends-or-leaves κ P h σ t₁ t₂ σ₁ σ₂ E₁ E₂ =
    not-way (done-way (sym (ends-run κ P h σ t₁ σ₁ E₁ (max t₁ t₂) (omega arith)) ∙ leaves_run κ P h σ t₂ σ₂ E₂ (max t₁ t₂) (omega arith)))

-- a finish is due only in the w instants from the end on
pub due-ends : (κ : Costs) (w : ℕ) (P : Stmt) → Timed P → (σ : Store) (t : ℕ) → due κ w P σ t ≡ true
    → (t₀ : ℕ) × (σ' : Store) × Ends κ P σ t₀ σ' × (t₀ ≤ t) × (t < t₀ + w)
unfolding due shows_at
due-ends κ w P h σ t p =
    by_runs (run κ t P σ)
    (λ t₁ σ₁ e.
    let q : ltb t (t₁ + w) ≡ true = rw e at p in
    (t₁, σ₁, run_ends κ P t σ t₁ σ₁ e, (steady κ P h σ t at_end t₁ σ₁ e).0, ltb-true t (t₁ + w) q))
    (λ t₁ σ₁ e. absurd (true≢false (sym (rw e at p))))
    (λ e. absurd (true≢false (sym (rw e at p))))

-- and at each of these it is due
pub ends-due : (κ : Costs) (w : ℕ) (P : Stmt) → Timed P → (σ : Store) (t₀ t : ℕ) (σ' : Store) → Ends κ P σ t₀ σ' → t₀ ≤ t → t < t₀ + w → due κ w P σ t ≡ true
unfolding due shows_at
ends-due κ w P h σ t₀ t σ' E l k = ap (shows_at w t) (ends-run κ P h σ t₀ σ' E t l) ∙ lt-ltb t (t₀ + w) k
