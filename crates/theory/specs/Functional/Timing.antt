-- The timing theorem of functional circuits: from a start pulse at any instant at which nothing is in flight, with words that stay, a circuit built by the
-- scheme finishes exactly when the functional rules say, and from then until the next start hands on the last words. Whatever its latches hold at first.
-- Assumes nothing.
use Rattle.std.specs.Prelude.{ℕ, suc, ◌+◌, ◌≤◌, ◌≡◌, refl, Bool, false, eqb}
use Rattle.std.proofs.Math.Path.{sym, fun_ext}
use Rattle.std.proofs.Common.{◌∙◌, ap, ap₂, arith}
use Rattle.std.specs.Int.Bits.{bit_or}
use Rattle.model.specs.Word.{pick}
use borrow.Author.Tests.{lt-ltb, le-ltb}
use Rattle.model.specs.Program.{Stmt, ok, tick, assign, assign_elem, seq, par, ite, while, repeat, loop, exit, call}
use Rattle.model.specs.Circuit.{Sig}
use Rattle.model.specs.Rules.{functional, Store, eval, put, over, kept, at_end, ended, still, shows_at, run, due}
use Rattle.theory.specs.Control.Wiring.{either}
use Rattle.laws.specs.Refusals.Laws.{by_bool, by_le}
use Rattle.laws.specs.Program.Fit.{Timed, Formed}
use Rattle.laws.specs.Rules.Laws.{steady}
use Rattle.theory.specs.Control.Pulses.{at}
use Rattle.theory.specs.Functional.Wiring.{Words, Tags, lft, rgt, loaded, Loads, written, Net}
use Rattle.theory.specs.Functional.Calm.{Calm, Late, calm-closed, Flying, Rests, rest}
use Rattle.theory.specs.Functional.Runs.{Begins, Does, RunOf, by-ended, lately, run_ok, run-tick, run-assign, run-seq}
use Rattle.theory.specs.Functional.Sides.{run-par, run-ite}
use Rattle.theory.specs.Functional.Loops.{run-while, run-repeat}

-- From any start pulse and up to any horizon, the circuit does as the rules say
pub does : (P : Stmt) → Timed P → Formed P → RunOf P
unfolding Calm Net
does ok h w = run_ok
does (tick d) h w = run-tick d
does (assign d x e) h w = run-assign d x e
does (assign_elem d k i e) h w = λ E σ s f v u a b n o B. absurd B.calm
does (seq P Q) h w = run-seq P Q h.0 h.1 (does P h.0 w.0) (does Q h.1 w.1)
does (par P Q) h w = run-par P Q h.0 h.1 (does P h.0 w.0) (does Q h.1 w.1)
does (ite d e P Q) h w = run-ite d e P Q h.2 h.3 (does P h.2 w.2) (does Q h.3 w.3)
does (while d e P) h w = run-while d e P h.0 h.2 w.2 (does P h.2 w.2)
does (repeat d e P) h w = run-repeat d e P h.0 h.2 w.2 (does P h.2 w.2)
does (loop d P) h w = λ E σ s f v u a b n o B. absurd B.calm
does exit h w = λ E σ s f v u a b n o B. absurd B.calm
does (call _ none) h w = elim none [ ]

latches-hold : (c : ℕ → Bool) (p q : Sig) (v w l : Words) (b : ℕ) → Loads c p q v w l → either p q b ≡ false → ((x : ℕ) → v (suc b) x ≡ v b x)
    → (x : ℕ) → l (suc b) x ≡ l b x
unfolding loaded
latches-hold c p q v w l b n e h x =
    by_bool (c x)
    (λ k. n.latched b x k ∙ ap (λ (r : Bool). pick r (bit_or (pick (p b) (v b x) 0) (pick (q b) (w b x) 0)) (l b x)) e)
    (λ k. n.passed (suc b) x k ∙ h x ∙ sym (n.passed b x k))

-- Where nothing is in flight, words that stay for an instant are handed on as they were: so the words are held in the instant of the next start too
pub holds_on : (E : Tags) (P : Stmt) (s f : Sig) (v w : Words) (b : ℕ) → Calm E P (suc b) s f v w → ((x : ℕ) → v (suc b) x ≡ v b x) → (x : ℕ) → w (suc b) x ≡ w b x
unfolding Calm Net put kept over loaded
holds_on E ok s f v w b n h x = n.words (suc b) x ∙ h x ∙ sym (n.words b x)
holds_on E (tick d) s f v w b n h x = n.0.words (suc b) x ∙ h x ∙ sym (n.0.words b x)
holds_on E (assign d y e) s f v w b n h x =
    n.0.words (suc b) x ∙ ap₂ (λ (i j : ℕ). pick (eqb x y) i j) (ap (eval e) (fun_ext h)) (h x) ∙ sym (n.0.words b x)
holds_on E (assign_elem d k i e) s f v w b n h x = absurd n
holds_on E (seq P Q) s f v w b n h x =
    holds_on (rgt E) Q n.mid f n.w₁ w b n.right (holds_on (lft E) P s n.mid v n.w₁ b n.left h) x
holds_on E (par P Q) s f v w b n h x =
    let i : n.w₁ (suc b) x ≡ n.w₁ b x = holds_on (lft E) P s n.f₁ v n.w₁ b n.left h x in
    let j : n.w₂ (suc b) x ≡ n.w₂ b x = holds_on (rgt E) Q s n.f₂ v n.w₂ b n.right h x in
    let k : v (suc b) x ≡ v b x = h x in
    n.words (suc b) x ∙ rw (i, j, k) refl ∙ sym (n.words b x)
holds_on E (ite d e P Q) s f v w b n h x =
    let i : n.w₁ (suc b) x ≡ n.w₁ b x = holds_on (lft E) P n.s₁ n.f₁ v n.w₁ b n.left h x in
    let j : n.w₂ (suc b) x ≡ n.w₂ b x = holds_on (rgt E) Q n.s₂ n.f₂ v n.w₂ b n.right h x in
    let k : eval e (v (suc b)) ≡ eval e (v b) = ap (eval e) (fun_ext h) in
    n.words (suc b) x ∙ rw (i, j, k) refl ∙ sym (n.words b x)
holds_on E (while d e P) s f v w b n h x = latches-hold (written P) s n.f₁ v n.w₁ w b n.latches (n.delay.0 b (omega arith) (omega arith)) h x
holds_on E (repeat d e P) s f v w b n h x =
    holds_on (lft E) P n.s₁ n.f₁ n.l w b n.body
    (latches-hold (written P) s n.g v w n.l b n.latches (n.load.0 b (omega arith) (omega arith)) h) x
holds_on E (loop d P) s f v w b n h x = absurd n
holds_on E exit s f v w b n h x = absurd n
holds_on E (call _ none) s f v w b n h x = elim none [ ]

-- A pulse at a, with nothing in flight, and no other up to b; on [a, b] the words are σ
module _ (E : Tags) (P : Stmt) (timed : Timed P) (formed : Formed P) (σ : Store) (s f : Sig) (v w : Words) (a b : ℕ) (B : Begins E P σ s f v w a b) where
  -- up to each instant a + u
  up_to : (u : ℕ) → a + u ≤ b → Does E P σ s f v w a (a + u) u
  up_to u l =
      does P timed formed E σ s f v w a (a + u) u refl
      (record { calm = B.calm; start = B.start; after = λ t h k. B.after t h (omega arith); words = λ t x h k. B.words t x h (omega arith) })

  -- from the end on nothing happens, and so a new pulse may come
  pub rests-after : (t : ℕ) (σ' : Store) → run functional t P σ ≡ ended t σ' → (u : ℕ) → t ≤ u → a + u ≤ b
      → Rests E P s f v w (suc (a + t)) (suc (a + u))
  rests-after t σ' p u o l =
      rest P timed E s f v w (suc (a + t)) (suc (a + u)) ((up_to t (omega arith)).ends t σ' p).calm (omega arith)
      (λ v h k. B.after v (omega arith) (omega arith))

  -- before the end something is in flight
  pub alive-at : (u : ℕ) → a + u ≤ b → run functional u P σ ≡ still → Flying E P (suc (a + u))
  alive-at u l p = (up_to u l).alive p

  -- no pulse has entered a delay that held one
  pub late-at : (u : ℕ) → a + u ≤ b → Late E P (suc (a + u)) s f v w
  late-at u l =
      lately E P timed σ s f v w a (a + u) u refl (calm-closed E P a s f v w B.calm) (λ t h k. B.after t h (omega arith)) (up_to u l)

  -- the finish is high exactly at the end
  pub finish-at : (u : ℕ) → a + u ≤ b → f (a + u) ≡ due functional 1 P σ u
  unfolding shows_at due
  finish-at u l =
      by-ended P (calm-closed E P a s f v w B.calm) u σ
      (λ t σ' p.
      let i = steady functional P timed σ u at_end t σ' p in
      let e : run functional t P σ ≡ ended t σ' = i.1 t (omega arith) in
      by_le u t
      (λ k.
      let q : t ≡ u = omega (arith, i.0) in
      let q' : a + t ≡ a + u = omega (arith, q) in
      at f q' ((up_to t (omega arith)).ends t σ' e).high ∙ sym (ap (shows_at 1 u) p ∙ lt-ltb u (t + 1) (omega arith)))
      (λ k.
      (rests-after t σ' e u (omega arith) l).fin (a + u) (omega arith) (omega arith)
      ∙ sym (ap (shows_at 1 u) p ∙ le-ltb u (t + 1) (omega arith))))
      (λ p. (up_to u l).goes_on p (a + u) (omega arith) (omega arith) ∙ sym (ap (shows_at 1 u) p))

  -- right at the end, and from then on, the words handed on are the last ones
  pub words-after : (t : ℕ) (σ' : Store) → run functional t P σ ≡ ended t σ' → (u x : ℕ) → t ≤ u → a + u ≤ b → w (a + u) x ≡ σ' x
  words-after t σ' p u x o l =
      let i = steady functional P timed σ t at_end t σ' p in
      ((up_to u l).ends t σ' (i.1 u o)).words (a + u) x (omega arith) (omega arith)

  -- and in the instant after, in which a new start may come, if the words in stay
  pub words-next : (t : ℕ) (σ' : Store) → run functional t P σ ≡ ended t σ' → (u x : ℕ) → t ≤ u → a + u ≤ b
      → ((x : ℕ) → v (suc (a + u)) x ≡ v (a + u) x) → w (suc (a + u)) x ≡ σ' x
  words-next t σ' p u x o l h = holds_on E P s f v w (a + u) (rests-after t σ' p u o l).calm h x ∙ words-after t σ' p u x o l
