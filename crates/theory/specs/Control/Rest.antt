-- A circuit with nothing in flight stays so while its start is quiet, and gives nothing. Assumes nothing.
use Rattle.std.specs.Prelude.{ℕ, suc, ◌+◌, ◌≤◌, ◌<◌, ◌≡◌, Bool, true, false, not, ◌&&◌, ◌||◌, eqb}
use Rattle.std.proofs.Common.{◌∙◌, ap, ap₂, arith}
use Rattle.model.specs.Word.{pick, is_zero}
use Rattle.model.specs.Program.{Expr, Code, ok, tick, assign, assign_elem, seq, par, ite, while, repeat, loop, exit, call, array_var}
use Rattle.model.specs.Circuit.{Sig, delayed}
use Rattle.model.specs.Rules.{eval}
use Rattle.model.specs.Program.{gap}
use Rattle.laws.specs.Program.Widths.{turn-least}
use Rattle.theory.specs.Control.Signal.{Quiet, Clear, creep, delayed-quiet, clear_later}
use Rattle.theory.specs.Control.Merge.{merged-left, stays-empty}
use Rattle.theory.specs.Control.Returns.{stays-none, none_out}
use Rattle.theory.specs.Control.History.{stable-off, spaced-off}
use Rattle.theory.specs.Control.Wiring.{either, ideal, Gives, Assigned, Joined, Circuit, Timer, Test, Delays, Each}
use Rattle.theory.specs.Control.World.{World, Built, Paced}
use Rattle.theory.specs.Control.Calm.{Calm, calmly}

-- nothing comes out on [a, b), and at b nothing is in flight: K
pub record Rests (f : Sig) (g : Gives) (K : ℕ → Type 0) (a b : ℕ) : Type 0 where
  pub calm : K b
  pub fin : Quiet f a b
  pub out : Quiet g.out a b
  pub clocks : (x : ℕ) → Quiet (g.clk x) a (suc b)
  pub called : (q : ℕ) → Quiet (g.calls q) a (suc b)

-- With nothing in flight at a and a start that is quiet on [a, b), nothing is in flight at b, and nothing came out
abbrev pub RestOf : World → Code → Type 0
RestOf W P =
    (s f : Sig) (g : Gives) (n : Built W P s f g) (a b : ℕ) → Calm W P s f g n a → a ≤ b → Quiet s a b → Rests f g (Calm W P s f g n) a b

-- what is known of a delay whose input stays quiet
module _ (W : World) (d : ℕ) (s : Sig) (a b : ℕ) (o : a ≤ b) (q : Quiet s a b) where
  timer-rests : Timer (calmly W.w W.m a) d s → Timer (calmly W.w W.m b) d s
  timer-rests k = (clear_later d s a b o k.0 q, spaced-off W.w d s a b k.1 q)

  test-rests : (e : Expr) → Test (calmly W.w W.m a) d e s → Test (calmly W.w W.m b) d e s
  test-rests e k = (
    clear_later d s a b o k.0 q,
    spaced-off W.w d s a b k.1 q,
    stable-off W.m d e s a b k.2 (λ t l h. delayed-quiet d s a b k.0 q t l (omega arith)),
  )

-- what two parts at rest give
record Joins (g : Gives) (a b : ℕ) : Type 0 where
  out : Quiet g.out a b
  clocks : (x : ℕ) → Quiet (g.clk x) a (suc b)
  called : (q : ℕ) → Quiet (g.calls q) a (suc b)

joins : (f₁ : Sig) (g₁ : Gives) (K₁ : ℕ → Type 0) (f₂ : Sig) (g₂ : Gives) (K₂ : ℕ → Type 0) (g : Gives) (a b : ℕ) → Joined g₁ g₂ g
    → Rests f₁ g₁ K₁ a b → Rests f₂ g₂ K₂ a b → Joins g a b
joins f₁ g₁ K₁ f₂ g₂ K₂ g a b j p q =
    record {
      out = λ t l h. j.out t ∙ ap₂ ◌||◌ (p.out t l h) (q.out t l h);
      clocks = λ x t l h. j.clocks x t ∙ ap₂ ◌||◌ (p.clocks x t l h) (q.clocks x t l h);
      called = λ x t l h. j.called x t ∙ ap₂ ◌||◌ (p.called x t l h) (q.called x t l h);
    }

rest_ok : (W : World) → RestOf W ok
unfolding Circuit Each
rest_ok W s f g n a b k o q =
    record { calm = tt; fin = λ t l h. n.fin t ∙ q t l h; out = λ t l h. n.out t; clocks = λ x t l h. n.clocks x t; called = λ x t l h. n.called x t }

rest-tick : (W : World) (d : ℕ) → RestOf W (tick d)
unfolding Circuit Each
rest-tick W d s f g n a b k o q =
    record {
      calm = timer-rests W d s a b o q k;
      fin = λ t l h. n.fin t ∙ delayed-quiet d s a b k.0 q t l (omega arith);
      out = λ t l h. n.out t;
      clocks = λ x t l h. n.clocks x t;
      called = λ x t l h. n.called x t;
    }

-- a signal that a quiet one is passed on to, or nothing
off : {c : Bool} (p q : Bool) → c ≡ pick p q false → q ≡ false → c ≡ false
off true q k v = k ∙ v
off false q k v = k

-- an assignment of either kind
rest-assigned : (W : World) (d y : ℕ) (r : ℕ → ℕ) (e : Expr) → 1 ≤ d → (s f : Sig) (g : Gives)
    → Assigned W.w (ideal W.m) d y r e s f g → (a b : ℕ) → Delays (calmly W.w W.m a) W.w d e s → a ≤ b → Quiet s a b
    → Rests f g (λ t. Delays (calmly W.w W.m t) W.w d e s) a b
rest-assigned W d y r e pos s f g n a b k o q =
    let z : Quiet (delayed d s) a (b + d) = delayed-quiet d s a b k.0.0 q in
    let z' : Quiet (delayed d s) a b = λ t l h. z t l (omega arith) in
    record {
      calm = (test-rests W d s a b o q e k.0, timer-rests W W.w (delayed d s) a b o z' k.1);
      fin = λ t l h. n.fin t ∙ delayed-quiet W.w (delayed d s) a b k.1.0 z' t l (omega arith);
      out = λ t l h. n.out t;
      clocks = λ x t l h. off (eqb x y) (delayed d s t) (n.clocks x t) (z t l (omega arith));
      called = λ x t l h. n.called x t;
    }

rest-elem : (W : World) (d k : ℕ) (i e : Expr) → 1 ≤ d → RestOf W (assign_elem d k i e)
unfolding Circuit Each
rest-elem W d k i e pos s f g n a b c o q =
    let r = rest-assigned W d (array_var k) (ideal W.m i) e pos s f g n a b c.0 o q in
    let used = stable-off W.m d i s a b c.1 (λ t l h. delayed-quiet d s a b c.0.0.0 q t l (omega arith)) in
    record { calm = (r.calm, used); fin = r.fin; out = r.out; clocks = r.clocks; called = r.called }

rest-seq : (W : World) (P Q : Code) → RestOf W P → RestOf W Q → RestOf W (seq P Q)
unfolding Circuit Each
rest-seq W P Q hP hQ s f g n a b k o q =
    let r = hP s n.mid n.g₁ n.left a b k.0 o q in
    let r' = hQ n.mid f n.g₂ n.right a b k.1 o r.fin in
    let j =
    joins n.mid n.g₁ (Calm W P s n.mid n.g₁ n.left) f n.g₂ (Calm W Q n.mid f n.g₂ n.right) g a b n.joined r r' in
    record { calm = (r.calm, r'.calm); fin = r'.fin; out = j.out; clocks = j.clocks; called = j.called }

rest-par : (W : World) (P Q : Code) → RestOf W P → RestOf W Q → RestOf W (par P Q)
unfolding Circuit Each
rest-par W P Q hP hQ s f g n a b k o q =
    let r = hP s n.f₁ n.g₁ n.left a b k.1 o q in
    let r' = hQ s n.f₂ n.g₂ n.right a b k.2 o q in
    let j =
    joins n.f₁ n.g₁ (Calm W P s n.f₁ n.g₁ n.left) n.f₂ n.g₂ (Calm W Q s n.f₂ n.g₂ n.right) g a b n.joined r r' in
    record {
      calm = (stays-empty W.w n.f₁ n.f₂ a b o k.0 r.fin r'.fin, r.calm, r'.calm);
      fin = λ t l h. n.fin t ∙ merged-left W.w n.f₁ n.f₂ a b k.0 r.fin t l h;
      out = j.out;
      clocks = j.clocks;
      called = j.called;
    }

rest-ite : (W : World) (d : ℕ) (e : Expr) (P Q : Code) → RestOf W P → RestOf W Q → RestOf W (ite d e P Q)
unfolding Circuit Each
rest-ite W d e P Q hP hQ s f g n a b k o q =
    let z : Quiet (delayed d s) a (b + d) = delayed-quiet d s a b k.0.0 q in
    let q₁ : Quiet n.s₁ a b = λ t l h. n.yes₁ t ∙ ap (λ (c : Bool). c && not (is_zero (eval e (W.m t)))) (z t l (omega arith)) in
    let q₂ : Quiet n.s₂ a b = λ t l h. n.no₂ t ∙ ap (λ (c : Bool). c && is_zero (eval e (W.m t))) (z t l (omega arith)) in
    let r = hP n.s₁ n.f₁ n.g₁ n.left a b k.1 o q₁ in
    let r' = hQ n.s₂ n.f₂ n.g₂ n.right a b k.2 o q₂ in
    let j =
    joins n.f₁ n.g₁ (Calm W P n.s₁ n.f₁ n.g₁ n.left) n.f₂ n.g₂ (Calm W Q n.s₂ n.f₂ n.g₂ n.right) g a b n.joined r r' in
    record {
      calm = (test-rests W d s a b o q e k.0, r.calm, r'.calm);
      fin = λ t l h. n.fin t ∙ ap₂ ◌||◌ (r.fin t l h) (r'.fin t l h);
      out = j.out;
      clocks = j.clocks;
      called = j.called;
    }

-- Loops -----------------------------------------------------------------------------------------------------------------------------

-- A body that is started by its loop's start and by what leaves the loop's delay, whose input X is low where the loop's start and the body's finish
-- are: it rests while the loop's start is quiet
module _ (W : World) (P : Code) (hP : RestOf W P) (d : ℕ) (pos : 1 ≤ d) (X s s₁ f₁ : Sig) (g : Gives) (n : Built W P s₁ f₁ g)
    (fed : (t : ℕ) → s t ≡ false → f₁ t ≡ false → X t ≡ false) (off : (t : ℕ) → s t ≡ false → delayed d X t ≡ false → s₁ t ≡ false)
    (a b : ℕ) (k : Calm W P s₁ f₁ g n a) (clear : Clear d X a) (o : a ≤ b) (q : Quiet s a b) where
  feeds : (c : ℕ) → c ≤ b → Quiet f₁ a c → Quiet X a c
  feeds c o₁ x t l h = fed t (q t l (omega arith)) (x t l h)

  starts : (c : ℕ) → c < b → Quiet f₁ a c → Quiet s₁ a (suc c)
  starts c o₁ x t l h = off t (q t l (omega arith)) (delayed-quiet d X a c clear (feeds c (omega arith) x) t l (omega arith))

  body-quiet : Quiet f₁ a b
  body-quiet =
      creep f₁ a b
      (λ v h x. (hP s₁ f₁ g n a (suc (a + v)) k (omega arith) (starts (a + v) h x)).fin (a + v) (omega arith) (omega arith))

  -- nothing enters the delay, and nothing comes out
  loop-rests : Rests f₁ g (Calm W P s₁ f₁ g n) a b × Quiet X a b × Quiet (delayed d X) a b
  loop-rests =
      let i : Quiet X a b = feeds b (omega arith) body-quiet in
      let z : Quiet (delayed d X) a b = λ t l h. delayed-quiet d X a b clear i t l (omega arith) in
      (hP s₁ f₁ g n a b k o (λ t l h. off t (q t l h) (z t l h)), i, z)

rest-while : (W : World) (d : ℕ) (e : Expr) (P : Code) → 1 ≤ d → RestOf W P → RestOf W (while d e P)
unfolding Circuit Each
rest-while W d e P pos hP s f g n a b k o q =
    let X : Sig = either s n.f₁ in
    let v =
    loop-rests W P hP d pos X s n.s₁ n.f₁ g n.body (λ t x y. ap₂ ◌||◌ x y)
    (λ t x y. n.begin t ∙ ap (λ (c : Bool). c && not (is_zero (eval e (W.m t)))) y) a b k.1 k.0.0 o q in
    let r = v.0 in
    record {
      calm = (test-rests W d X a b o v.1 e k.0, r.calm);
      fin = λ t l h. n.fin t ∙ ap (λ (c : Bool). c && is_zero (eval e (W.m t))) (v.2 t l h);
      out = r.out;
      clocks = r.clocks;
      called = r.called;
    }

rest-repeat : (W : World) (d : ℕ) (e : Expr) (P : Code) → 1 ≤ d → RestOf W P → RestOf W (repeat d e P)
unfolding Circuit Each
rest-repeat W d e P pos hP s f g n a b k o q =
    let v =
    loop-rests W P hP d pos n.f₁ s n.s₁ n.f₁ g n.body (λ t x y. y)
    (λ t x y. n.begin t ∙ ap₂ (λ (p c : Bool). p || (c && is_zero (eval e (W.m t)))) x y) a b k.1 k.0.0 o q in
    let r = v.0 in
    record {
      calm = (test-rests W d n.f₁ a b o v.1 e k.0, r.calm);
      fin = λ t l h. n.fin t ∙ ap (λ (c : Bool). c && not (is_zero (eval e (W.m t)))) (v.2 t l h);
      out = r.out;
      clocks = r.clocks;
      called = r.called;
    }

rest-loop : (W : World) (d : ℕ) (P : Code) → 1 ≤ d → RestOf W P → RestOf W (loop d P)
unfolding Circuit Each
rest-loop W d P pos hP s f g n a b k o q =
    let v =
    loop-rests W P hP d pos n.f₁ s n.s₁ n.f₁ n.g₁ n.body (λ t x y. y) (λ t x y. n.begin t ∙ ap₂ ◌||◌ x y) a b k.1 k.0.0 o q in
    let r = v.0 in
    record {
      calm = (timer-rests W d n.f₁ a b o v.1 k.0, r.calm);
      fin = λ t l h. n.fin t ∙ r.out t l h;
      out = λ t l h. n.out t;
      clocks = λ x t l h. n.clocks x t ∙ r.clocks x t l h;
      called = λ x t l h. n.called x t ∙ r.called x t l h;
    }

rest-exit : (W : World) → RestOf W exit
unfolding Circuit Each
rest-exit W s f g n a b k o q =
    record { calm = tt; fin = λ t l h. n.fin t; out = λ t l h. n.out t ∙ q t l h; clocks = λ x t l h. n.clocks x t; called = λ x t l h. n.called x t }

-- a call's merge that holds nothing forgets a lone b, so nothing need be known of the body
rest-call : (W : World) (d p : ℕ) → 1 ≤ d → RestOf W (call d p)
unfolding Circuit Each
rest-call W d p pos s f g n a b k o q =
    let z : Quiet (delayed d s) a (b + d) = delayed-quiet d s a b k.0.0 q in
    let z' : Quiet (delayed d s) a b = λ t l h. z t l (omega arith) in
    record {
      calm = (timer-rests W d s a b o q k.0, stays-none W.w (delayed d s) (W.ret p) a b o k.1 z');
      fin = λ t l h. n.fin t ∙ none_out W.w (delayed d s) (W.ret p) a b k.1 z' t l h;
      out = λ t l h. n.out t;
      clocks = λ x t l h. n.clocks x t;
      called = λ x t l h. off (eqb x p) (delayed d s t) (n.called x t) (z t l (omega arith));
    }

pub rest : (W : World) (P : Code) → Paced W P → RestOf W P
unfolding Circuit Each
rest W ok h = rest_ok W
rest W (tick d) h = rest-tick W d
rest W (assign d x e) h = rest-assigned W d x (λ t. 0) e h.0
rest W (assign_elem d k i e) h = rest-elem W d k i e h.0
rest W (seq P Q) h = rest-seq W P Q (rest W P h.0) (rest W Q h.1)
rest W (par P Q) h = rest-par W P Q (rest W P h.0) (rest W Q h.1)
rest W (ite d e P Q) h = rest-ite W d e P Q (rest W P h.2) (rest W Q h.3)
rest W (while d e P) h = rest-while W d e P (turn-least W.w d W.pos h.0) (rest W P h.2)
rest W (repeat d e P) h = rest-repeat W d e P (turn-least W.w d W.pos h.0) (rest W P h.2)
rest W (loop d P) h = rest-loop W d P (turn-least W.w d W.pos h.0) (rest W P h.1)
rest W exit h = rest-exit W
rest W (call d p) h = rest-call W d p (turn-least W.w d W.pos h.0)

-- Whatever its start does, a calm part calls nothing for a gap --------------------------------------------------------------------------

abbrev HushOf : World → Code → Type 0
HushOf W P =
    (s f : Sig) (g : Gives) (n : Built W P s f g) (a : ℕ) → Calm W P s f g n a → (q : ℕ) → Quiet (g.calls q) a (a + gap W.w)

hush-both : (W : World) (g₁ g₂ g : Gives) (a q : ℕ) → Joined g₁ g₂ g → Quiet (g₁.calls q) a (a + gap W.w) → Quiet (g₂.calls q) a (a + gap W.w)
    → Quiet (g.calls q) a (a + gap W.w)
hush-both W g₁ g₂ g a q j l r t h k = j.called q t ∙ ap₂ ◌||◌ (l t h k) (r t h k)

pub hush : (W : World) (P : Code) → Paced W P → HushOf W P
unfolding Circuit Each
hush W ok h s f g n a k q = λ t l v. n.called q t
hush W (tick d) h s f g n a k q = λ t l v. n.called q t
hush W (assign d x e) h s f g n a k q = λ t l v. n.called q t
hush W (assign_elem d j i e) h s f g n a k q = λ t l v. n.called q t
hush W (seq P Q) h s f g n a k q =
    hush-both W n.g₁ n.g₂ g a q n.joined (hush W P h.0 s n.mid n.g₁ n.left a k.0 q)
    (hush W Q h.1 n.mid f n.g₂ n.right a k.1 q)
hush W (par P Q) h s f g n a k q =
    hush-both W n.g₁ n.g₂ g a q n.joined (hush W P h.0 s n.f₁ n.g₁ n.left a k.1 q)
    (hush W Q h.1 s n.f₂ n.g₂ n.right a k.2 q)
hush W (ite d e P Q) h s f g n a k q =
    hush-both W n.g₁ n.g₂ g a q n.joined (hush W P h.2 n.s₁ n.f₁ n.g₁ n.left a k.1 q)
    (hush W Q h.3 n.s₂ n.f₂ n.g₂ n.right a k.2 q)
hush W (while d e P) h s f g n a k q = hush W P h.2 n.s₁ n.f₁ g n.body a k.1 q
hush W (repeat d e P) h s f g n a k q = hush W P h.2 n.s₁ n.f₁ g n.body a k.1 q
hush W (loop d P) h s f g n a k q = λ t l v. n.called q t ∙ hush W P h.1 n.s₁ n.f₁ n.g₁ n.body a k.1 q t l v
hush W exit h s f g n a k q = λ t l v. n.called q t
hush W (call d p) h s f g n a k q = λ t l v.
    off (eqb q p) (delayed d s t) (n.called q t)
    (delayed-quiet d s a a k.0.0 (λ t l h. absurd (omega arith)) t l (omega (arith, h.0)))
