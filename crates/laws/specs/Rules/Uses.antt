-- What a statement reads and leaves alone, by the rules; and that one without exits ends or goes on. Assumes nothing.
use Prim.Native.Nat.{ℕ, zero, suc, ◌+◌, ◌-◌}
use Rattle.std.specs.Prelude.{◌≡◌, Bool, true, false, ◌||◌, eqb}
use Rattle.std.proofs.Math.Path.{refl}
use Rattle.std.proofs.Common.{sym, ◌∙◌, ap, ap₂, ⊎_elim, eq-eqb}
use Rattle.std.proofs.Math.Bool.{or-true}
use Rattle.model.specs.Word.{pick, operate, is_zero, element_word}
use Rattle.model.specs.Program.{Expr, const, var, compl, op, elem, Stmt, ok, tick, assign, assign_elem, seq, par, ite, while, repeat, loop, exit, array_var, reads, writes, touches, call}
use Rattle.model.specs.Rules.{Costs, extended, Postponed, postponed, Store, Course, WhileLeaves, RepeatLeaves, Ends, Leaves, Way, at_end, at_exit, Run, done, ended, left, chain, over, kept, whiles, repeats, loops, run, owner, eval, put}
use Rattle.laws.specs.Program.Fit.{FormedExpr, Formed, Apart, exits}
use Rattle.laws.specs.Refusals.Laws.{by_bool, or-false, not-both}
use Rattle.laws.specs.Rules.Words.{owner-variable, owner-element, other-variable, other-element}
use Rattle.laws.specs.Rules.Laws.{Body, done-way, done-words, done-still, not-way, wait-done, chain-done, both-done, caught-done, whiles-stop, whiles-more, again, repeats-is, again-more, again-stop, round, loops_is, round_is, ite-then, ite-else}

-- An expression's value depends on what it reads
pub eval-same : (e : Expr) → FormedExpr e → (σ τ : Store) → ((x : ℕ) → reads e (owner x) ≡ true → σ x ≡ τ x) → eval e σ ≡ eval e τ
unfolding eval reads
eval-same (const n) w σ τ h = refl
eval-same (var n) w σ τ h = h n (eq-eqb (owner n) n (owner-variable n w))
eval-same (compl e) w σ τ h = ap (λ (v : ℕ). operate 3 v 0) (eval-same e w σ τ h)
eval-same (op k a b) w σ τ h =
    ap₂ (operate k) (eval-same a w.2 σ τ (λ x r. h x (ap (λ (z : Bool). z || reads b (owner x)) r)))
    (eval-same b w.3 σ τ (λ x r. h x (ap (λ (z : Bool). reads a (owner x) || z) r ∙ or-true (reads a (owner x)))))
eval-same (elem k e) w σ τ h =
    let i = eval-same e w.1 σ τ (λ x r. h x (ap (λ (z : Bool). eqb (owner x) (array_var k) || z) r ∙ or-true (eqb (owner x) (array_var k)))) in
    let x = element_word k (eval e σ) in
    h x (ap (λ (z : Bool). z || reads e (owner x)) (eq-eqb (owner x) (array_var k) (owner-element k (eval e σ))))
    ∙ ap (λ (v : ℕ). τ (element_word k v)) i

-- What a run comes to -------------------------------------------------------------------------------------------------------------------

-- G holds of the words and the way in which c is done, from σ
abbrev Comes : (Store → Way → Store → Type 0) → (ℕ → Store → Run) → Type 0
Comes G c = (k : ℕ) (w : Way) (t : ℕ) (σ σ' : Store) → c k σ ≡ done w t σ' → G σ w σ'

postponed-comes : (G : Store → Way → Store → Type 0) (n : ℕ) (body : Body) → Comes G body → Comes G (postponed n body)
postponed-comes G zero body h k w t σ σ' p = h k w t σ σ' p
postponed-comes G (suc n) body h k w t σ σ' p = let v = wait-done (suc n) k (λ k₁. body k₁ σ) p in h (k - suc n) w v.0 σ σ' v.2

-- G is kept by going on where another run ended
module _ (G : Store → Way → Store → Type 0) (join : (σ σ₁ σ₂ : Store) (w : Way) → G σ at_end σ₁ → G σ₁ w σ₂ → G σ w σ₂) (stay : (σ : Store) → G σ at_end σ) where
  stays : (σ : Store) {w : Way} {t t' : ℕ} {σ₁ σ' : Store} → σ₁ ≡ σ → ended t σ₁ ≡ done w t' σ' → G σ w σ'
  stays σ e p = rw (← (done-way p), ← (done-words p), e) (stay σ)

  chain-comes : (r : Run) (c : ℕ → Store → Run) {w : Way} {t : ℕ} (σ : Store) {σ' : Store} → chain r c ≡ done w t σ'
      → ((w : Way) (t : ℕ) (σ₁ : Store) → r ≡ done w t σ₁ → G σ w σ₁)
      → ((t₁ : ℕ) (σ₁ : Store) (t₂ : ℕ) → c t₁ σ₁ ≡ done w t₂ σ' → G σ₁ w σ') → G σ w σ'
  chain-comes r c {w} {t} σ {σ'} p h g =
      chain-done r c p (λ t₁ σ₁ t₂ q q₁ q₂. join σ σ₁ σ' w (h at_end t₁ σ₁ q) (g t₁ σ₁ t₂ q₁)) (λ z q. rw z (h at_exit t σ' q))

  module _ (body : Body) (d : ℕ) (h : Comes G body) where
    whiles-comes : (e : Expr) (n : ℕ) → Comes G (whiles body d e n)
    unfolding whiles
    whiles-comes e zero k w t σ σ' p = done-still (sym p)
    whiles-comes e (suc n) k w t σ σ' p =
        by_bool (is_zero (eval e σ))
        (λ z. stays σ refl (wait-done d k (λ k₁. ended 0 σ) (sym (whiles-stop body d e n k σ z) ∙ p)).2)
        (λ z.
        let c : ℕ → ℕ → Store → Run = λ k₁ t σ₁. whiles body d e n (k₁ - t) σ₁ in
        let v = wait-done d k (λ k₁. chain (body k₁ σ) (c k₁)) (sym (whiles-more body d e n k σ z) ∙ p) in
        chain-comes (body (k - d) σ) (c (k - d)) σ v.2 (λ w t σ₁ q. h (k - d) w t σ σ₁ q)
        (λ t₁ σ₁ t₂ q. whiles-comes e n (k - d - t₁) w t₂ σ₁ σ' q))

    again-comes : (e : Expr) (n : ℕ) → Comes G (repeats body d e n) → Comes G (again body d e n)
    again-comes e n ih k w t σ σ' p =
        by_bool (is_zero (eval e σ))
        (λ z. let v = wait-done d k (λ k₁. repeats body d e n k₁ σ) (sym (again-more body d e n k σ z) ∙ p) in ih (k - d) w v.0 σ σ' v.2)
        (λ z. stays σ refl (wait-done d k (λ k₁. ended 0 σ) (sym (again-stop body d e n k σ z) ∙ p)).2)

    repeats-comes : (e : Expr) (n : ℕ) → Comes G (repeats body d e n)
    unfolding repeats
    repeats-comes e zero k w t σ σ' p = done-still (sym p)
    repeats-comes e (suc n) k w t σ σ' p =
        chain-comes (body k σ) (λ t σ₁. again body d e n (k - t) σ₁) σ (sym (repeats-is body d e n k σ) ∙ p) (λ w t σ₁ q. h k w t σ σ₁ q)
        (λ t₁ σ₁ t₂ q. again-comes e n (repeats-comes e n) (k - t₁) w t₂ σ₁ σ' q)

    loops-comes : (n : ℕ) → Comes G (loops body d n)
    unfolding loops
    loops-comes zero k w t σ σ' p = done-still (sym p)
    loops-comes (suc n) k w t σ σ' p =
        chain-comes (body k σ) (λ t σ₁. round body d n (k - t) σ₁) σ (sym (loops_is body d n k σ) ∙ p) (λ w t σ₁ q. h k w t σ σ₁ q)
        (λ t₁ σ₁ t₂ q.
        let v = wait-done d (k - t₁) (λ k₁. loops body d n k₁ σ₁) (sym (round_is body d n (k - t₁) σ₁) ∙ q) in
        loops-comes n (k - t₁ - d) w v.0 σ₁ σ' v.2)

  ite-comes : (κ : Costs) (d : ℕ) (e : Expr) (P Q : Stmt) → Comes G (λ k σ. run κ k P σ) → Comes G (λ k σ. run κ k Q σ) → Comes G (λ k σ. run κ k (ite d e P Q) σ)
  ite-comes κ d e P Q h g k w t σ σ' p =
      by_bool (is_zero (eval e σ))
      (λ z. let v = wait-done d k (λ k₁. run κ k₁ Q σ) (sym (ite-else κ k d e P Q σ z) ∙ p) in g (k - d) w v.0 σ σ' v.2)
      (λ z. let v = wait-done d k (λ k₁. run κ k₁ P σ) (sym (ite-then κ k d e P Q σ z) ∙ p) in h (k - d) w v.0 σ σ' v.2)

-- A word that is not written stays ------------------------------------------------------------------------------------------------------

abbrev Same : ℕ → Store → Way → Store → Type 0
Same x σ w σ' = σ' x ≡ σ x

kept_same : (P Q : Stmt) (σ σ₁ σ₂ : Store) (x : ℕ) → writes P (owner x) ≡ false → writes Q (owner x) ≡ false → kept P Q σ σ₁ σ₂ x ≡ σ x
unfolding kept over
kept_same P Q σ σ₁ σ₂ x p q = ap₂ (λ (b c : Bool). pick b (σ₁ x) (pick c (σ₂ x) (σ x))) p q

same-join : (x : ℕ) (σ σ₁ σ₂ : Store) (w : Way) → Same x σ at_end σ₁ → Same x σ₁ w σ₂ → Same x σ w σ₂
same-join x σ σ₁ σ₂ w p q = q ∙ p

at-word : {w w' : Way} {t t' : ℕ} {σ σ' : Store} (x : ℕ) → done w t σ ≡ done w' t' σ' → σ' x ≡ σ x
at-word x p = ap (λ (τ : Store). τ x) (sym (done-words p))

pub unwritten : (κ : Costs) (P : Stmt) → Formed P → (x : ℕ) → writes P (owner x) ≡ false → Comes (Same x) (λ k σ. run κ k P σ)
unfolding run writes put
unwritten κ ok f x u = λ k w t σ σ' p. at-word x p
unwritten κ (tick d) f x u = λ k w t σ σ' p. at-word x (wait-done d k (λ k₁. ended 0 σ) p).2
unwritten κ (assign d y e) f x u = λ k w t σ σ' p.
    at-word x (wait-done (d + κ.write) k (λ k₁. ended 0 (put σ y (eval e σ))) p).2
    ∙ ap (λ (b : Bool). pick b (eval e σ) (σ x)) (other-variable x y f.1 u)
unwritten κ (assign_elem d j i e) f x u = λ k w t σ σ' p.
    at-word x (wait-done (d + κ.write) k (λ k₁. ended 0 (put σ (element_word j (eval i σ)) (eval e σ))) p).2
    ∙ ap (λ (b : Bool). pick b (eval e σ) (σ x)) (other-element x j (eval i σ) u)
unwritten κ (seq P Q) f x u = λ k w t σ σ' p.
    let i = or-false (writes P (owner x)) (writes Q (owner x)) u in
    chain-comes (Same x) (same-join x) (λ σ. refl) (run κ k P σ) (λ t σ₁. run κ (k - t) Q σ₁) σ p (λ w t σ₁ q. unwritten κ P f.0 x i.0 k w t σ σ₁ q)
    (λ t₁ σ₁ t₂ q. unwritten κ Q f.1 x i.1 (k - t₁) w t₂ σ₁ σ' q)
unwritten κ (par P Q) f x u = λ k w t σ σ' p.
    let i = or-false (writes P (owner x)) (writes Q (owner x)) u in
    let v = both-done (kept P Q σ) (run κ k P σ) (run κ k Q σ) p in
    ap (λ (τ : Store). τ x) v.7 ∙ kept_same P Q σ v.1 v.3 x i.0 i.1
unwritten κ (ite d e P Q) f x u =
    let i = or-false (writes P (owner x)) (writes Q (owner x)) u in
    ite-comes (Same x) (same-join x) (λ σ. refl) κ d e P Q (unwritten κ P f.2 x i.0) (unwritten κ Q f.3 x i.1)
unwritten κ (while d e P) f x u = λ k. whiles-comes (Same x) (same-join x) (λ σ. refl) (λ k σ. run κ k P σ) (extended κ.latch d) (unwritten κ P f.2 x u) e (suc k) k
unwritten κ (repeat d e P) f x u = λ k.
    repeats-comes (Same x) (same-join x) (λ σ. refl) (postponed κ.latch (λ k σ. run κ k P σ)) d
    (postponed-comes (Same x) κ.latch (λ k σ. run κ k P σ) (unwritten κ P f.2 x u)) e (suc k) k
unwritten κ (loop d P) f x u = λ k w t σ σ' p.
    let v = caught-done (loops (λ k σ. run κ k P σ) d (suc k) k σ) p in
    loops-comes (Same x) (same-join x) (λ σ. refl) (λ k σ. run κ k P σ) d (unwritten κ P f.1 x u) (suc k) k v.0 t σ σ' v.1
unwritten κ exit f x u = λ k w t σ σ' p. at-word x p
unwritten κ (call _ none) f x u = elim none [ ]

-- What has no exit ends or goes on ------------------------------------------------------------------------------------------------------

abbrev Only : Store → Way → Store → Type 0
Only σ w σ' = w ≡ at_end

only-join : (σ σ₁ σ₂ : Store) (w : Way) → Only σ at_end σ₁ → Only σ₁ w σ₂ → Only σ w σ₂
only-join σ σ₁ σ₂ w p q = q

pub only-ends : (κ : Costs) (P : Stmt) → exits P ≡ false → Comes Only (λ k σ. run κ k P σ)
unfolding run exits
only-ends κ ok u = λ k w t σ σ' p. sym (done-way p)
only-ends κ (tick d) u = λ k w t σ σ' p. sym (done-way (wait-done d k (λ k₁. ended 0 σ) p).2)
only-ends κ (assign d y e) u = λ k w t σ σ' p. sym (done-way (wait-done (d + κ.write) k (λ k₁. ended 0 (put σ y (eval e σ))) p).2)
only-ends κ (assign_elem d j i e) u = λ k w t σ σ' p.
    sym (done-way (wait-done (d + κ.write) k (λ k₁. ended 0 (put σ (element_word j (eval i σ)) (eval e σ))) p).2)
only-ends κ (seq P Q) u = λ k w t σ σ' p.
    let i = or-false (exits P) (exits Q) u in
    chain-comes Only only-join (λ σ. refl) (run κ k P σ) (λ t σ₁. run κ (k - t) Q σ₁) σ p (λ w t σ₁ q. only-ends κ P i.0 k w t σ σ₁ q)
    (λ t₁ σ₁ t₂ q. only-ends κ Q i.1 (k - t₁) w t₂ σ₁ σ' q)
only-ends κ (par P Q) u = λ k w t σ σ' p. (both-done (kept P Q σ) (run κ k P σ) (run κ k Q σ) p).8
only-ends κ (ite d e P Q) u =
    let i = or-false (exits P) (exits Q) u in
    ite-comes Only only-join (λ σ. refl) κ d e P Q (only-ends κ P i.0) (only-ends κ Q i.1)
only-ends κ (while d e P) u = λ k. whiles-comes Only only-join (λ σ. refl) (λ k σ. run κ k P σ) (extended κ.latch d) (only-ends κ P u) e (suc k) k
only-ends κ (repeat d e P) u = λ k.
    repeats-comes Only only-join (λ σ. refl) (postponed κ.latch (λ k σ. run κ k P σ)) d
    (postponed-comes Only κ.latch (λ k σ. run κ k P σ) (only-ends κ P u)) e (suc k) k
only-ends κ (loop d P) u = λ k w t σ σ' p. (caught-done (loops (λ k σ. run κ k P σ) d (suc k) k σ) p).2
only-ends κ exit u = not-both refl u
only-ends κ (call _ none) u = elim none [ ]

pub never-leaves : {A : Type 0} (κ : Costs) (P : Stmt) → exits P ≡ false → (k t : ℕ) (σ σ' : Store) → run κ k P σ ≡ left t σ' → A
never-leaves κ P u k t σ σ' p = not-way (sym (only-ends κ P u k at_exit t σ σ' p))

-- the same of the rules as the paper states them: L never holds of a body
module _ (R L : Course) (d : ℕ) (e : Expr) (none : (σ : Store) (t : ℕ) (σ' : Store) → L σ t σ' → ⊥) where
  while-never : (n : ℕ) (σ : Store) (t : ℕ) (σ' : Store) → WhileLeaves R L d e n σ t σ' → ⊥
  unfolding WhileLeaves
  while-never zero σ t σ' l = none σ l.0 σ' l.2
  while-never (suc n) σ t σ' l = while-never n l.1 l.2 σ' l.5

  repeat-never : (n : ℕ) (σ : Store) (t : ℕ) (σ' : Store) → RepeatLeaves R L d e n σ t σ' → ⊥
  unfolding RepeatLeaves
  repeat-never zero σ t σ' l = none σ t σ' l
  repeat-never (suc n) σ t σ' l = repeat-never n l.1 l.2 σ' l.5

postponed-never : (n : ℕ) (L : Course) → ((σ : Store) (t : ℕ) (σ' : Store) → L σ t σ' → ⊥) → (σ : Store) (t : ℕ) (σ' : Store) → Postponed n L σ t σ' → ⊥
postponed-never zero L h σ t σ' l = h σ t σ' l
postponed-never (suc n) L h σ t σ' l = h σ l.0 σ' l.1

pub never-left : (κ : Costs) (P : Stmt) → exits P ≡ false → (σ : Store) (t : ℕ) (σ' : Store) → Leaves κ P σ t σ' → ⊥
unfolding Leaves exits
never-left κ ok u σ t σ' l = l
never-left κ (tick d) u σ t σ' l = l
never-left κ (assign d x e) u σ t σ' l = l
never-left κ (assign_elem d k i e) u σ t σ' l = l
never-left κ (seq P Q) u σ t σ' l =
    let i = or-false (exits P) (exits Q) u in
    ⊎_elim (λ m. never-left κ P i.0 σ t σ' m) (λ m. never-left κ Q i.1 m.1 m.2 σ' m.4) l
never-left κ (par P Q) u σ t σ' l = l
never-left κ (ite d e P Q) u σ t σ' l =
    let i = or-false (exits P) (exits Q) u in
    by_bool (is_zero (eval e σ)) (λ z. never-left κ Q i.1 σ l.0 σ' (l.2 z)) (λ z. never-left κ P i.0 σ l.0 σ' (l.1 z))
never-left κ (while d e P) u σ t σ' l = while-never (Ends κ P) (Leaves κ P) (extended κ.latch d) e (never-left κ P u) l.0 σ t σ' l.1
never-left κ (repeat d e P) u σ t σ' l =
    repeat-never (Postponed κ.latch (Ends κ P)) (Postponed κ.latch (Leaves κ P)) d e (postponed-never κ.latch (Leaves κ P) (never-left κ P u)) l.0 σ t σ' l.1
never-left κ (loop d P) u σ t σ' l = l
never-left κ exit u σ t σ' l = not-both refl u
never-left κ (call _ none) u σ t σ' l = elim none [ ]

-- What is written is touched --------------------------------------------------------------------------------------------------------------

or_map : (a b c d : Bool) → (a ≡ true → c ≡ true) → (b ≡ true → d ≡ true) → (a || b) ≡ true → (c || d) ≡ true
or_map true b c d p q w = ap (λ (z : Bool). z || d) (p refl)
or_map false b c d p q w = ap (λ (z : Bool). c || z) (q w) ∙ or-true c

pub writes-touches : (P : Stmt) (x : ℕ) → writes P x ≡ true → touches P x ≡ true
unfolding writes touches
writes-touches ok x w = w
writes-touches (tick d) x w = w
writes-touches (assign d y e) x w = ap (λ (c : Bool). c || reads e x) w
writes-touches (assign_elem d k i e) x w = ap (λ (c : Bool). c || (reads i x || reads e x)) w
writes-touches (seq P Q) x w = or_map (writes P x) (writes Q x) (touches P x) (touches Q x) (writes-touches P x) (writes-touches Q x) w
writes-touches (par P Q) x w = or_map (writes P x) (writes Q x) (touches P x) (touches Q x) (writes-touches P x) (writes-touches Q x) w
writes-touches (ite d e P Q) x w =
    ap (λ (c : Bool). reads e x || c)
    (or_map (writes P x) (writes Q x) (touches P x) (touches Q x) (writes-touches P x) (writes-touches Q x) w)
    ∙ or-true (reads e x)
writes-touches (while d e P) x w = ap (λ (c : Bool). reads e x || c) (writes-touches P x w) ∙ or-true (reads e x)
writes-touches (repeat d e P) x w = ap (λ (c : Bool). reads e x || c) (writes-touches P x w) ∙ or-true (reads e x)
writes-touches (loop d P) x w = writes-touches P x w
writes-touches exit x w = w
writes-touches (call _ none) x w = elim none [ ]

-- of two statements that are apart, what one touches the other does not write
pub apart-unwritten : (P Q : Stmt) → Apart P Q → (x : ℕ) → touches Q x ≡ true → writes P x ≡ false
unfolding Apart
apart-unwritten P Q h x t =
    by_bool (writes P x) (λ w. let q : touches Q x ≡ false = h x w in cc) (λ w. w)
