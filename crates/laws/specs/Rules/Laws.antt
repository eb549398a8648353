-- Lemmas on the rules: how a run's parts show in its answer, and that a larger budget changes nothing once a run is done. Assumes nothing.
use Prim.Native.Nat.{ℕ, zero, suc, ◌+◌, ◌-◌, ◌≤◌, ◌<◌, max}
use Rattle.std.specs.Prelude.{◌≡◌, refl, Bool, true, false}
use Rattle.std.proofs.Common.{sym, ◌∙◌, ap, ap₂, subst, arith, le-leb}
use Rattle.std.proofs.lemmas.Bool.{lt-leb}
use Rattle.model.specs.Word.{is_zero, element_word}
use Rattle.model.specs.Program.{Expr, Stmt, ok, tick, assign, assign_elem, seq, par, ite, while, repeat, loop, exit, call}
use Rattle.model.specs.Rules.{Costs, extended, postponed, Store, Way, at_end, at_exit, Run, done, ended, left, still, after, wait, chain, both, caught, kept, whiles, repeats, loops, run, eval, put}
use Rattle.laws.specs.Refusals.Laws.{by_bool, by_le}
use Rattle.laws.specs.Program.Fit.{Timed}

pub done-way : {w w' : Way} {t t' : ℕ} {σ σ' : Store} → done w t σ ≡ done w' t' σ' → w ≡ w'
done-way p = cc

pub done-time : {w w' : Way} {t t' : ℕ} {σ σ' : Store} → done w t σ ≡ done w' t' σ' → t ≡ t'
done-time p = cc

pub done-words : {w w' : Way} {t t' : ℕ} {σ σ' : Store} → done w t σ ≡ done w' t' σ' → σ ≡ σ'
done-words p = cc

pub done-still : {A : Type 0} {w : Way} {t : ℕ} {σ : Store} → done w t σ ≡ still → A
done-still p = let z : ◌≡◌ {A = ℕ} 0 1 = cc in absurd (omega arith)

pub not-way : {A : Type 0} → at_end ≡ at_exit → A
not-way p = let z : ◌≡◌ {A = ℕ} 0 1 = cc in absurd (omega arith)

-- The parts of a run --------------------------------------------------------------------------------------------------------------

pub after-done : (d : ℕ) (r : Run) {w : Way} {t : ℕ} {σ : Store} → after d r ≡ done w t σ → (t₁ : ℕ) × (r ≡ done w t₁ σ) × (t ≡ d + t₁)
unfolding after
after-done d (done w₁ t₁ σ₁) p = (t₁, ap₂ (λ (w : Way) (σ : Store). done w t₁ σ) (done-way p) (done-words p), sym (done-time p))
after-done d still p = done-still (sym p)

pub after-still : (d : ℕ) (r : Run) → after d r ≡ still → r ≡ still
unfolding after
after-still d (done w t σ) p = done-still p
after-still d still p = refl

pub wait-is : (d k : ℕ) (c : ℕ → Run) → d ≤ k → wait d k c ≡ after d (c (k - d))
unfolding wait
wait-is d k c h = ap (λ (b : Bool). elim b as (λ z. Run) [ true ↦ after d (c (k - d)) | false ↦ still ]) (le-leb d k h)

pub wait-short : (d k : ℕ) (c : ℕ → Run) → k < d → wait d k c ≡ still
unfolding wait
wait-short d k c h = ap (λ (b : Bool). elim b as (λ z. Run) [ true ↦ after d (c (k - d)) | false ↦ still ]) (lt-leb d k h)

pub by-run : {A : Type 0} (r : Run) → ((w : Way) (t : ℕ) (σ : Store) → r ≡ done w t σ → A) → (r ≡ still → A) → A
by-run (done w t σ) p q = p w t σ refl
by-run still p q = q refl

-- the three outcomes
pub by_runs : {A : Type 0} (r : Run) → ((t : ℕ) (σ : Store) → r ≡ ended t σ → A) → ((t : ℕ) (σ : Store) → r ≡ left t σ → A) → (r ≡ still → A) → A
by_runs (done at_end t σ) p q s = p t σ refl
by_runs (done at_exit t σ) p q s = q t σ refl
by_runs still p q s = s refl

pub wait-done : (d k : ℕ) (c : ℕ → Run) {w : Way} {t : ℕ} {σ : Store} → wait d k c ≡ done w t σ
    → (t₁ : ℕ) × (d ≤ k) × (c (k - d) ≡ done w t₁ σ) × (t ≡ d + t₁)
wait-done d k c {w} {t} {σ} p =
    by_le d k
    (λ h. let q = after-done d (c (k - d)) (sym (wait-is d k c h) ∙ p) in (q.0, h, q.1, q.2))
    (λ h. done-still (sym p ∙ wait-short d k c h))

pub wait-still : (d k : ℕ) (c : ℕ → Run) → wait d k c ≡ still → d ≤ k → c (k - d) ≡ still
wait-still d k c p h = after-still d (c (k - d)) (sym (wait-is d k c h) ∙ p)

pub wait-of : (d k : ℕ) (c : ℕ → Run) {w : Way} {t : ℕ} {σ : Store} → d ≤ k → c (k - d) ≡ done w t σ → wait d k c ≡ done w (d + t) σ
unfolding after
wait-of d k c h p = wait-is d k c h ∙ ap (after d) p

-- a chain that is done: its first part ended and its second is done, or its first part left
pub chain-done : {A : Type 0} (r : Run) (c : ℕ → Store → Run) {w : Way} {t : ℕ} {σ : Store} → chain r c ≡ done w t σ
    → ((t₁ : ℕ) (σ₁ : Store) (t₂ : ℕ) → r ≡ ended t₁ σ₁ → c t₁ σ₁ ≡ done w t₂ σ → t ≡ t₁ + t₂ → A)
    → (w ≡ at_exit → r ≡ left t σ → A) → A
unfolding chain
chain-done (done at_end t₁ σ₁) c p f g = let q = after-done t₁ (c t₁ σ₁) p in f t₁ σ₁ q.0 refl q.1 q.2
chain-done (done at_exit t₁ σ₁) c p f g = g (sym (done-way p)) (ap₂ (λ (t : ℕ) (σ : Store). left t σ) (done-time p) (done-words p))
chain-done still c p f g = done-still (sym p)

pub chain-ended : (r : Run) (c : ℕ → Store → Run) {t : ℕ} {σ : Store} → chain r c ≡ ended t σ
    → (t₁ : ℕ) × (σ₁ : Store) × (t₂ : ℕ) × (r ≡ ended t₁ σ₁) × (c t₁ σ₁ ≡ ended t₂ σ) × (t ≡ t₁ + t₂)
chain-ended r c p = chain-done r c p (λ t₁ σ₁ t₂ q q₁ q₂. (t₁, σ₁, t₂, q, q₁, q₂)) (λ z q. not-way z)

pub chain-still : (r : Run) (c : ℕ → Store → Run) {t₁ : ℕ} {σ₁ : Store} → r ≡ ended t₁ σ₁ → chain r c ≡ still → c t₁ σ₁ ≡ still
unfolding chain
chain-still r c {t₁} {σ₁} e p = after-still t₁ (c t₁ σ₁) (ap (λ (q : Run). chain q c) (sym e) ∙ p)

pub chain-of : (r : Run) (c : ℕ → Store → Run) {t₁ : ℕ} {σ₁ : Store} {w : Way} {t₂ : ℕ} {σ : Store} → r ≡ ended t₁ σ₁ → c t₁ σ₁ ≡ done w t₂ σ
    → chain r c ≡ done w (t₁ + t₂) σ
unfolding chain after
chain-of r c {t₁} {σ₁} e p = ap (λ (q : Run). chain q c) e ∙ ap (after t₁) p

pub chain-out : (r : Run) (c : ℕ → Store → Run) {t : ℕ} {σ : Store} → r ≡ left t σ → chain r c ≡ left t σ
unfolding chain
chain-out r c e = ap (λ (q : Run). chain q c) e

pub both-done : (j : Store → Store → Store) (r r' : Run) {w : Way} {t : ℕ} {σ : Store} → both j r r' ≡ done w t σ
    → (t₁ : ℕ) × (σ₁ : Store) × (t₂ : ℕ) × (σ₂ : Store) × (r ≡ ended t₁ σ₁) × (r' ≡ ended t₂ σ₂) × (t ≡ max t₁ t₂) × (σ ≡ j σ₁ σ₂) × (w ≡ at_end)
unfolding both
both-done j (done at_end t₁ σ₁) (done at_end t₂ σ₂) p = (t₁, σ₁, t₂, σ₂, refl, refl, sym (done-time p), sym (done-words p), sym (done-way p))
both-done j (done at_end t₁ σ₁) (done at_exit t₂ σ₂) p = done-still (sym p)
both-done j (done at_end t₁ σ₁) still p = done-still (sym p)
both-done j (done at_exit t₁ σ₁) r p = done-still (sym p)
both-done j still r p = done-still (sym p)

pub both_of : (j : Store → Store → Store) (r r' : Run) {t₁ : ℕ} {σ₁ : Store} {t₂ : ℕ} {σ₂ : Store} → r ≡ ended t₁ σ₁ → r' ≡ ended t₂ σ₂
    → both j r r' ≡ ended (max t₁ t₂) (j σ₁ σ₂)
unfolding both
both_of j r r' e e' = ap₂ (both j) e e'

-- of two that do not leave, one is still going
pub both-still : {A : Type 0} (j : Store → Store → Store) (r r' : Run) → both j r r' ≡ still
    → ((t : ℕ) (σ : Store) → r ≡ left t σ → A) → ((t : ℕ) (σ : Store) → r' ≡ left t σ → A) → (r ≡ still → A) → (r' ≡ still → A) → A
unfolding both
both-still j (done at_end t₁ σ₁) (done at_end t₂ σ₂) p l l' x y = done-still p
both-still j (done at_end t₁ σ₁) (done at_exit t₂ σ₂) p l l' x y = l' t₂ σ₂ refl
both-still j (done at_end t₁ σ₁) still p l l' x y = y refl
both-still j (done at_exit t₁ σ₁) r p l l' x y = l t₁ σ₁ refl
both-still j still r p l l' x y = x refl

pub caught-done : (r : Run) {w : Way} {t : ℕ} {σ : Store} → caught r ≡ done w t σ → (w' : Way) × (r ≡ done w' t σ) × (w ≡ at_end)
unfolding caught
caught-done (done w' t₁ σ₁) p = (w', ap₂ (λ (t : ℕ) (σ : Store). done w' t σ) (done-time p) (done-words p), sym (done-way p))
caught-done still p = done-still (sym p)

pub caught-still : (r : Run) → caught r ≡ still → r ≡ still
unfolding caught
caught-still (done w t σ) p = done-still p
caught-still still p = refl

pub caught-of : (r : Run) {w : Way} {t : ℕ} {σ : Store} → r ≡ done w t σ → caught r ≡ ended t σ
unfolding caught
caught-of r p = ap caught p

-- Costs -----------------------------------------------------------------------------------------------------------------------------

pub extended-is : (n d : ℕ) → extended n d ≡ d + n
extended-is zero d = omega arith
extended-is (suc n) d = let i = extended-is n d in omega arith

pub extended-positive : (n d : ℕ) → 1 ≤ d → 1 ≤ extended n d
extended-positive n d h = let i = extended-is n d in omega arith

-- The loops' clauses ----------------------------------------------------------------------------------------------------------------

abbrev pub Body : Type 0
Body = ℕ → Store → Run

pub whiles-stop : (body : Body) (d : ℕ) (e : Expr) (n k : ℕ) (σ : Store) → is_zero (eval e σ) ≡ true
    → whiles body d e (suc n) k σ ≡ wait d k (λ k₁. ended 0 σ)
unfolding whiles
whiles-stop body d e n k σ z = rw z refl

pub whiles-more : (body : Body) (d : ℕ) (e : Expr) (n k : ℕ) (σ : Store) → is_zero (eval e σ) ≡ false
    → whiles body d e (suc n) k σ ≡ wait d k (λ k₁. chain (body k₁ σ) (λ t σ₁. whiles body d e n (k₁ - t) σ₁))
unfolding whiles
whiles-more body d e n k σ z = rw z refl

-- what a repeat does after its body
unfoldable pub again : Body → ℕ → Expr → ℕ → ℕ → Store → Run
again body d e n k σ = wait d k (λ k₁. elim (is_zero (eval e σ)) [ true ↦ repeats body d e n k₁ σ | false ↦ ended 0 σ ])

pub repeats-is : (body : Body) (d : ℕ) (e : Expr) (n k : ℕ) (σ : Store)
    → repeats body d e (suc n) k σ ≡ chain (body k σ) (λ t σ₁. again body d e n (k - t) σ₁)
unfolding repeats again
repeats-is body d e n k σ = refl

pub again-more : (body : Body) (d : ℕ) (e : Expr) (n k : ℕ) (σ : Store) → is_zero (eval e σ) ≡ true
    → again body d e n k σ ≡ wait d k (λ k₁. repeats body d e n k₁ σ)
unfolding again
again-more body d e n k σ z = rw z refl

pub again-stop : (body : Body) (d : ℕ) (e : Expr) (n k : ℕ) (σ : Store) → is_zero (eval e σ) ≡ false
    → again body d e n k σ ≡ wait d k (λ k₁. ended 0 σ)
unfolding again
again-stop body d e n k σ z = rw z refl

-- what a loop does after its body
unfoldable pub round : Body → ℕ → ℕ → ℕ → Store → Run
round body d n k σ = wait d k (λ k₁. loops body d n k₁ σ)

pub loops_is : (body : Body) (d : ℕ) (n k : ℕ) (σ : Store)
    → loops body d (suc n) k σ ≡ chain (body k σ) (λ t σ₁. round body d n (k - t) σ₁)
unfolding loops round
loops_is body d n k σ = refl

pub round_is : (body : Body) (d : ℕ) (n k : ℕ) (σ : Store) → round body d n k σ ≡ wait d k (λ k₁. loops body d n k₁ σ)
unfolding round
round_is body d n k σ = refl

pub ite-else : (κ : Costs) (k d : ℕ) (e : Expr) (P Q : Stmt) (σ : Store) → is_zero (eval e σ) ≡ true
    → run κ k (ite d e P Q) σ ≡ wait d k (λ k₁. run κ k₁ Q σ)
unfolding run
ite-else κ k d e P Q σ z = rw z refl

pub ite-then : (κ : Costs) (k d : ℕ) (e : Expr) (P Q : Stmt) (σ : Store) → is_zero (eval e σ) ≡ false
    → run κ k (ite d e P Q) σ ≡ wait d k (λ k₁. run κ k₁ P σ)
unfolding run
ite-then κ k d e P Q σ z = rw z refl

-- A larger budget changes nothing once a run is done ------------------------------------------------------------------------------

abbrev pub Steady : (ℕ → Run) → Type 0
Steady c = (k : ℕ) (w : Way) (t : ℕ) (σ : Store) → c k ≡ done w t σ → (t ≤ k) × ((k' : ℕ) → t ≤ k' → c k' ≡ done w t σ)

pub still_before : (c : ℕ → Run) → Steady c → (k : ℕ) (w : Way) (t v : ℕ) (σ : Store) → c k ≡ done w t σ → v < t → c v ≡ still
still_before c h k w t v σ p l = go (c v) refl
  where
    go : (r : Run) → c v ≡ r → c v ≡ still
    go (done w' t' σ') q =
        let i = h v w' t' σ' q in
        let j = h k w t σ p in
        let z : t' ≡ t = done-time (sym (i.1 k (omega arith)) ∙ p) in
        absurd (omega arith)
    go still q = q

pub still-below : (c : ℕ → Run) → Steady c → (k v : ℕ) → c k ≡ still → v ≤ k → c v ≡ still
still-below c h k v p l = go (c v) refl
  where
    go : (r : Run) → c v ≡ r → c v ≡ still
    go (done w' t' σ') q =
        let i = h v w' t' σ' q in
        let j : t' ≤ k = omega (arith, i.0) in
        done-still (sym (i.1 k j) ∙ p)
    go still q = q

at-time : {w : Way} {t t' : ℕ} {σ : Store} (r : Run) → r ≡ done w t σ → t' ≡ t → r ≡ done w t' σ
at-time {w} {t} {t'} {σ} r p q = p ∙ ap (λ (n : ℕ). done w n σ) (sym q)

at-way : {w w' : Way} {t : ℕ} {σ : Store} (r : Run) → r ≡ done w t σ → w' ≡ w → r ≡ done w' t σ
at-way {w} {w'} {t} {σ} r p q = p ∙ ap (λ (n : Way). done n t σ) (sym q)

steady-end : (w : Way) (σ : Store) → Steady (λ k. done w 0 σ)
steady-end w σ k w' t σ' p = (let q = done-time p in omega arith, λ k' l. p)

steady-wait : (d : ℕ) (c : ℕ → Run) → Steady c → Steady (λ k. wait d k c)
steady-wait d c h k w t σ p =
    let v = wait-done d k c p in
    let i = h (k - d) w v.0 σ v.2 in
    (omega (arith, v, i.0), λ k' l. at-time _ (wait-of d k' c (omega (arith, v)) (i.1 (k' - d) (omega (arith, v)))) v.3)

steady-chain : (c : ℕ → Run) (c' : ℕ → Store → Run) → Steady c → ((σ : Store) → Steady (λ k. c' k σ))
    → Steady (λ k. chain (c k) (λ t σ₁. c' (k - t) σ₁))
steady-chain c c' h h' k w t σ p =
    chain-done (c k) (λ t σ₁. c' (k - t) σ₁) p
    (λ t₁ σ₁ t₂ q q₁ q₂.
    let i = h k at_end t₁ σ₁ q in
    let i' = h' σ₁ (k - t₁) w t₂ σ q₁ in (
      omega (arith, i.0, i'.0),
      λ k' l.
          at-time _
          (chain-of (c k') (λ t σ₁. c' (k' - t) σ₁) (i.1 k' (omega arith))
          (i'.1 (k' - t₁) (omega arith)))
          q₂,
    ))
    (λ z q.
    let i = h k at_exit t σ q in
    (i.0, λ k' l. at-way _ (chain-out (c k') (λ t σ₁. c' (k' - t) σ₁) (i.1 k' l)) z))

steady-both : (j : Store → Store → Store) (c c' : ℕ → Run) → Steady c → Steady c' → Steady (λ k. both j (c k) (c' k))
steady-both j c c' h h' k w t σ p =
    let v = both-done j (c k) (c' k) p in
    let i = h k at_end v.0 v.1 v.4 in
    let i' = h' k at_end v.2 v.3 v.5 in (
      omega (arith, v.6, i.0, i'.0),
      λ k' l.
          at-way _
          (at-time _ (both_of j (c k') (c' k') (i.1 k' (omega (arith, v.6))) (i'.1 k' (omega (arith, v.6)))) v.6
          ∙ ap (ended t) (sym v.7))
          v.8,
    )

steady-caught : (c : ℕ → Run) → Steady c → Steady (λ k. caught (c k))
steady-caught c h k w t σ p =
    let v = caught-done (c k) p in
    let i = h k v.0 t σ v.1 in
    (i.0, λ k' l. at-way _ (caught-of (c k') (i.1 k' l)) v.2)

-- Of a loop: with any number of turns that its budget cannot use up
abbrev Settles : (ℕ → ℕ → Store → Run) → ℕ → Way → ℕ → Store → Store → Type 0
Settles c k w t σ σ' = (t ≤ k) × ((n' k' : ℕ) → t ≤ k' → k' < n' → c n' k' σ ≡ done w t σ')

abbrev Steadies : (ℕ → ℕ → Store → Run) → ℕ → Type 0
Steadies c n = (k : ℕ) (w : Way) (t : ℕ) (σ σ' : Store) → c n k σ ≡ done w t σ' → Settles c k w t σ σ'

module _ (body : Body) (d : ℕ) (pos : 1 ≤ d) (h : (σ : Store) → Steady (λ k. body k σ)) where
  -- a loop whose turn is the body, and then, where the body ended, c; with what is known of c
  turns-settle : (c cs : ℕ → ℕ → Store → Run)
      → ((n k : ℕ) (σ : Store) → cs (suc n) k σ ≡ chain (body k σ) (λ t σ₁. c n (k - t) σ₁))
      → (n k : ℕ) (w : Way) (t : ℕ) (σ σ' : Store)
      → ((k : ℕ) (w : Way) (t : ℕ) (σ σ' : Store) → c n k σ ≡ done w t σ' → (t ≤ k) × ((n' k' : ℕ) → t ≤ k' → k' ≤ n' → c n' k' σ ≡ done w t σ'))
      → chain (body k σ) (λ t σ₁. c n (k - t) σ₁) ≡ done w t σ' → Settles cs k w t σ σ'
  turns-settle c cs is n k w t σ σ' r p =
      chain-done (body k σ) (λ t σ₁. c n (k - t) σ₁) p
      (λ t₁ σ₁ t₂ q q₁ q₂.
      let i = h σ k at_end t₁ σ₁ q in
      let j = r (k - t₁) w t₂ σ₁ σ' q₁ in (
        omega (arith, i.0, j.0),
        λ n' k' l b.
            let s : suc (n' - 1) ≡ n' = omega arith in
            subst (λ (n : ℕ). cs n k' σ ≡ done w t σ') s
            (is (n' - 1) k' σ
            ∙ at-time _
            (chain-of (body k' σ) (λ t σ₁. c (n' - 1) (k' - t) σ₁) (i.1 k' (omega arith))
            (j.1 (n' - 1) (k' - t₁) (omega arith) (omega arith)))
            q₂),
      ))
      (λ z q.
      let i = h σ k at_exit t σ' q in (
        i.0,
        λ n' k' l b.
            let s : suc (n' - 1) ≡ n' = omega arith in
            subst (λ (n : ℕ). cs n k' σ ≡ done w t σ') s
            (is (n' - 1) k' σ ∙ at-way _ (chain-out (body k' σ) (λ t σ₁. c (n' - 1) (k' - t) σ₁) (i.1 k' l)) z),
      ))

  module _ (e : Expr) where
    whiles-stops : (n k : ℕ) (w : Way) (t : ℕ) (σ σ' : Store) → is_zero (eval e σ) ≡ true → whiles body d e (suc n) k σ ≡ done w t σ'
        → Settles (whiles body d e) k w t σ σ'
    whiles-stops n k w t σ σ' z p =
        let i = steady-wait d (λ k. ended 0 σ) (steady-end at_end σ) k w t σ' (sym (whiles-stop body d e n k σ z) ∙ p) in (
          i.0,
          λ n' k' l b.
              let q : suc (n' - 1) ≡ n' = omega arith in
              subst (λ (n : ℕ). whiles body d e n k' σ ≡ done w t σ') q (whiles-stop body d e (n' - 1) k' σ z ∙ i.1 k' l),
        )

    whiles-goes-on : (n : ℕ) → Steadies (whiles body d e) n → (k : ℕ) (w : Way) (t : ℕ) (σ σ' : Store) → is_zero (eval e σ) ≡ false
        → whiles body d e (suc n) k σ ≡ done w t σ' → Settles (whiles body d e) k w t σ σ'
    whiles-goes-on n ih k w t σ σ' z p =
        let rest : ℕ → ℕ → ℕ → Store → Run = λ n k₁ t σ₁. whiles body d e n (k₁ - t) σ₁ in
        let v = wait-done d k (λ k₁. chain (body k₁ σ) (rest n k₁)) (sym (whiles-more body d e n k σ z) ∙ p) in
        let more : (n' k' t₁ : ℕ) → k' < n' → d ≤ k' → t ≡ d + t₁ → chain (body (k' - d) σ) (rest (n' - 1) (k' - d)) ≡ done w t₁ σ'
        → whiles body d e n' k' σ ≡ done w t σ' =
        λ n' k' t₁ b o y x.
        let q : suc (n' - 1) ≡ n' = omega arith in
        subst (λ (n : ℕ). whiles body d e n k' σ ≡ done w t σ') q
        (whiles-more body d e (n' - 1) k' σ z
        ∙ at-time _ (wait-of d k' (λ k₁. chain (body k₁ σ) (rest (n' - 1) k₁)) o x) y) in
        chain-done (body (k - d) σ) (rest n (k - d)) v.2
        (λ t₁ σ₁ t₂ q q₁ q₂.
        let i = h σ (k - d) at_end t₁ σ₁ q in
        let j = ih (k - d - t₁) w t₂ σ₁ σ' q₁ in (
          omega (arith, v.1, v.3, i.0, j.0),
          λ n' k' l b.
              more n' k' v.0 b (omega (arith, v.3)) v.3
              (at-time _
              (chain-of (body (k' - d) σ) (rest (n' - 1) (k' - d)) (i.1 (k' - d) (omega (arith, v.3)))
              (j.1 (n' - 1) (k' - d - t₁) (omega (arith, v.3)) (omega (arith, v.3))))
              q₂),
        ))
        (λ x q.
        let i = h σ (k - d) at_exit v.0 σ' q in (
          omega (arith, v.1, v.3, i.0),
          λ n' k' l b.
              more n' k' v.0 b (omega (arith, v.3)) v.3
              (at-way _ (chain-out (body (k' - d) σ) (rest (n' - 1) (k' - d)) (i.1 (k' - d) (omega (arith, v.3)))) x),
        ))

    steady-whiles : (n : ℕ) → Steadies (whiles body d e) n
    unfolding whiles
    steady-whiles zero k w t σ σ' p = done-still (sym p)
    steady-whiles (suc n) k w t σ σ' p =
        by_bool (is_zero (eval e σ)) (λ z. whiles-stops n k w t σ σ' z p) (λ z. whiles-goes-on n (steady-whiles n) k w t σ σ' z p)

    again-steady : (n : ℕ) → Steadies (repeats body d e) n → (k : ℕ) (w : Way) (t : ℕ) (σ σ' : Store) → again body d e n k σ ≡ done w t σ'
        → (t ≤ k) × ((n' k' : ℕ) → t ≤ k' → k' ≤ n' → again body d e n' k' σ ≡ done w t σ')
    again-steady n ih k w t σ σ' p =
        by_bool (is_zero (eval e σ))
        (λ z.
        let v = wait-done d k (λ k₁. repeats body d e n k₁ σ) (sym (again-more body d e n k σ z) ∙ p) in
        let j = ih (k - d) w v.0 σ σ' v.2 in (
          omega (arith, v.1, v.3, j.0),
          λ n' k' l b.
              again-more body d e n' k' σ z
              ∙ at-time _
              (wait-of d k' (λ k₁. repeats body d e n' k₁ σ) (omega (arith, v.3))
              (j.1 n' (k' - d) (omega (arith, v.3)) (omega (arith, v.3))))
              v.3,
        ))
        (λ z.
        let i = steady-wait d (λ k. ended 0 σ) (steady-end at_end σ) k w t σ' (sym (again-stop body d e n k σ z) ∙ p) in
        (i.0, λ n' k' l b. again-stop body d e n' k' σ z ∙ i.1 k' l))

    steady-repeats : (n : ℕ) → Steadies (repeats body d e) n
    unfolding repeats
    steady-repeats zero k w t σ σ' p = done-still (sym p)
    steady-repeats (suc n) k w t σ σ' p =
        turns-settle (again body d e) (repeats body d e) (repeats-is body d e) n k w t σ σ' (again-steady n (steady-repeats n))
        (sym (repeats-is body d e n k σ) ∙ p)

  round-steady : (n : ℕ) → Steadies (loops body d) n → (k : ℕ) (w : Way) (t : ℕ) (σ σ' : Store) → round body d n k σ ≡ done w t σ'
      → (t ≤ k) × ((n' k' : ℕ) → t ≤ k' → k' ≤ n' → round body d n' k' σ ≡ done w t σ')
  round-steady n ih k w t σ σ' p =
      let v = wait-done d k (λ k₁. loops body d n k₁ σ) (sym (round_is body d n k σ) ∙ p) in
      let j = ih (k - d) w v.0 σ σ' v.2 in (
        omega (arith, v.1, v.3, j.0),
        λ n' k' l b.
            round_is body d n' k' σ
            ∙ at-time _
            (wait-of d k' (λ k₁. loops body d n' k₁ σ) (omega (arith, v.3))
            (j.1 n' (k' - d) (omega (arith, v.3)) (omega (arith, v.3))))
            v.3,
      )

  steady-loops : (n : ℕ) → Steadies (loops body d) n
  unfolding loops
  steady-loops zero k w t σ σ' p = done-still (sym p)
  steady-loops (suc n) k w t σ σ' p =
      turns-settle (round body d) (loops body d) (loops_is body d) n k w t σ σ' (round-steady n (steady-loops n))
      (sym (loops_is body d n k σ) ∙ p)

steady-ite : (κ : Costs) (d : ℕ) (e : Expr) (P Q : Stmt) (σ : Store) → Steady (λ k. run κ k P σ) → Steady (λ k. run κ k Q σ)
    → Steady (λ k. run κ k (ite d e P Q) σ)
steady-ite κ d e P Q σ p q k w t σ' r =
    by_bool (is_zero (eval e σ))
    (λ z.
    let i = steady-wait d (λ k. run κ k Q σ) q k w t σ' (sym (ite-else κ k d e P Q σ z) ∙ r) in
    (i.0, λ k' l. ite-else κ k' d e P Q σ z ∙ i.1 k' l))
    (λ z.
    let i = steady-wait d (λ k. run κ k P σ) p k w t σ' (sym (ite-then κ k d e P Q σ z) ∙ r) in
    (i.0, λ k' l. ite-then κ k' d e P Q σ z ∙ i.1 k' l))

-- of loops that each budget gives more turns than instants
steady-turns : (c : ℕ → ℕ → Store → Run) → ((n : ℕ) → Steadies c n) → (σ : Store) → Steady (λ k. c (suc k) k σ)
steady-turns c h σ k w t σ' p = let i = h (suc k) k w t σ σ' p in (i.0, λ k' l. i.1 (suc k') k' l (omega arith))

steady-postponed : (n : ℕ) (body : Body) → ((σ : Store) → Steady (λ k. body k σ)) → (σ : Store) → Steady (λ k. postponed n body k σ)
steady-postponed zero body h σ = h σ
steady-postponed (suc n) body h σ = steady-wait (suc n) (λ k. body k σ) (h σ)

-- A larger budget changes nothing once a run is done
pub steady : (κ : Costs) (P : Stmt) → Timed P → (σ : Store) → Steady (λ k. run κ k P σ)
unfolding run
steady κ ok h σ = steady-end at_end σ
steady κ (tick d) h σ = steady-wait d (λ k. ended 0 σ) (steady-end at_end σ)
steady κ (assign d x e) h σ = steady-wait (d + κ.write) (λ k. ended 0 (put σ x (eval e σ))) (steady-end at_end (put σ x (eval e σ)))
steady κ (assign_elem d j i e) h σ =
    let σ' = put σ (element_word j (eval i σ)) (eval e σ) in
    steady-wait (d + κ.write) (λ k. ended 0 σ') (steady-end at_end σ')
steady κ (seq P Q) h σ = steady-chain (λ k. run κ k P σ) (λ k σ. run κ k Q σ) (steady κ P h.0 σ) (steady κ Q h.1)
steady κ (par P Q) h σ = steady-both (kept P Q σ) (λ k. run κ k P σ) (λ k. run κ k Q σ) (steady κ P h.0 σ) (steady κ Q h.1 σ)
steady κ (ite d e P Q) h σ = steady-ite κ d e P Q σ (steady κ P h.2 σ) (steady κ Q h.3 σ)
steady κ (while d e P) h σ =
    let d' = extended κ.latch d in
    steady-turns (whiles (λ k σ. run κ k P σ) d' e)
    (steady-whiles (λ k σ. run κ k P σ) d' (extended-positive κ.latch d h.0) (steady κ P h.2) e) σ
steady κ (repeat d e P) h σ =
    let body = postponed κ.latch (λ k σ. run κ k P σ) in
    steady-turns (repeats body d e) (steady-repeats body d h.0 (steady-postponed κ.latch (λ k σ. run κ k P σ) (steady κ P h.2)) e) σ
steady κ (loop d P) h σ =
    steady-caught (λ k. loops (λ k σ. run κ k P σ) d (suc k) k σ)
    (steady-turns (loops (λ k σ. run κ k P σ) d) (steady-loops (λ k σ. run κ k P σ) d h.0 (steady κ P h.1)) σ)
steady κ exit h σ = steady-end at_exit σ
steady κ (call _ none) h σ = elim none [ ]
