-- What is known of every cell of a circuit: that nothing is in flight, and that what has been so far is in order; and what holds of a circuit at every
-- instant. Assumes nothing.
use Rattle.std.specs.Prelude.{ℕ, ◌≤◌, ◌≡◌, Bool, true, false, ◌||◌, eqb}
use Rattle.std.proofs.Math.Path.{refl, ap}
use Rattle.std.proofs.Common.{sym, ◌∙◌, ap₂, arith}
use Rattle.std.specs.Int.Bits.{bit_or}
use Rattle.model.specs.Word.{pick}
use Rattle.model.specs.Program.{Expr, Code, Stmt, ok, tick, assign, assign_elem, seq, par, ite, while, repeat, loop, exit, call, array_var, writes}
use Rattle.model.specs.Procedures.{inline, reaches}
use Rattle.model.specs.Circuit.{Sig, delayed}
use Rattle.laws.specs.Refusals.Laws.{or-false, not-both}
use Rattle.laws.specs.Program.Fit.{exits}
use Rattle.theory.specs.Control.Signal.{Clear}
use Rattle.theory.specs.Control.Merge.{Empty, empty-zero}
use Rattle.theory.specs.Control.Returns.{NoCall, no-call-zero}
use Rattle.theory.specs.Control.History.{Stable, Spaced}
use Rattle.theory.specs.Control.Wiring.{Memory, either, Reading, ideal, Gives, Joined, Assigned, Circuit, Known, Timer, Test, Delays, Each}
use Rattle.theory.specs.Control.World.{World, Built, means}
use Rattle.theory.specs.Control.Memories.{Dull}

-- nothing is in flight just before instant a: no delay holds a pulse, and no merge a bit; and so far every word that was used was held, and no line has
-- held two pulses
abbrev pub calmly : ℕ → Memory → ℕ → Known
calmly w m a =
    record {
      delay = λ d s. Clear d s a;
      merge = λ f₁ f₂. Empty w f₁ f₂ a;
      answer = λ f₁ f₂. NoCall w f₁ f₂ a;
      line = λ d s. Spaced w d s a;
      word = λ d e s. Stable m d e s a;
    }

-- the past alone, before instant c
abbrev pub lately : ℕ → Memory → ℕ → Known
lately w m c =
    record {
      delay = λ d s. Unit {0};
      merge = λ f₁ f₂. Unit {0};
      answer = λ f₁ f₂. Unit {0};
      line = λ d s. Spaced w d s c;
      word = λ d e s. Stable m d e s c;
    }

-- what is in flight just before instant a alone
abbrev pub aloft : ℕ → ℕ → Known
aloft w a =
    record {
      delay = λ d s. Clear d s a;
      merge = λ f₁ f₂. Empty w f₁ f₂ a;
      answer = λ f₁ f₂. NoCall w f₁ f₂ a;
      line = λ d s. Unit {0};
      word = λ d e s. Unit {0};
    }

-- what has been in the lines before instant c alone
abbrev pub lined : ℕ → ℕ → Known
lined w c =
    record {
      delay = λ d s. Spaced w d s c;
      merge = λ f₁ f₂. Unit {0};
      answer = λ f₁ f₂. Unit {0};
      line = λ d s. Unit {0};
      word = λ d e s. Unit {0};
    }

abbrev pub Calm : (W : World) (P : Code) (s f : Sig) (g : Gives) → Built W P s f g → ℕ → Type 0
Calm W P s f g n a = Each (calmly W.w W.m a) W.w (ideal W.m) W.ret P s f g n

abbrev pub Sofar : (W : World) (P : Code) (s f : Sig) (g : Gives) → Built W P s f g → ℕ → Type 0
Sofar W P s f g n c = Each (lately W.w W.m c) W.w (ideal W.m) W.ret P s f g n

abbrev pub Resting : (W : World) (P : Code) (s f : Sig) (g : Gives) → Built W P s f g → ℕ → Type 0
Resting W P s f g n a = Each (aloft W.w a) W.w (ideal W.m) W.ret P s f g n

abbrev pub Lined : (W : World) (P : Code) (s f : Sig) (g : Gives) → Built W P s f g → ℕ → Type 0
Lined W P s f g n c = Each (lined W.w c) W.w (ideal W.m) W.ret P s f g n

-- What is known of every cell ---------------------------------------------------------------------------------------------------------

-- K' is known of a cell of which K and J are
record Gains (K J K' : Known) : Type 0 where
  timer : (d : ℕ) (s : Sig) → Timer K d s → Timer J d s → Timer K' d s
  merge : (f₁ f₂ : Sig) → K.merge f₁ f₂ → J.merge f₁ f₂ → K'.merge f₁ f₂
  answer : (f₁ f₂ : Sig) → K.answer f₁ f₂ → J.answer f₁ f₂ → K'.answer f₁ f₂
  word : (d : ℕ) (e : Expr) (s : Sig) → K.word d e s → J.word d e s → K'.word d e s

module _ (K J K' : Known) (h : Gains K J K') (w : ℕ) (R : Reading) (r : ℕ → Sig) where
  test-both : (d : ℕ) (e : Expr) (s : Sig) → Test K d e s → Test J d e s → Test K' d e s
  test-both d e s p q = let t = h.timer d s (p.0, p.1) (q.0, q.1) in (t.0, t.1, h.word d e s p.2 q.2)

  delays-both : (d : ℕ) (e : Expr) (s : Sig) → Delays K w d e s → Delays J w d e s → Delays K' w d e s
  delays-both d e s p q = (test-both d e s p.0 q.0, h.timer w (delayed d s) p.1 q.1)

  each_both : (P : Code) (s f : Sig) (g : Gives) (n : Circuit w R r P s f g) → Each K w R r P s f g n → Each J w R r P s f g n → Each K' w R r P s f g n
  unfolding Circuit Each
  each_both ok s f g n p q = tt
  each_both (tick d) s f g n p q = h.timer d s p q
  each_both (assign d x e) s f g n p q = delays-both d e s p q
  each_both (assign_elem d k i e) s f g n p q = (delays-both d e s p.0 q.0, h.word d i s p.1 q.1)
  each_both (seq P Q) s f g n p q =
      (each_both P s n.mid n.g₁ n.left p.0 q.0, each_both Q n.mid f n.g₂ n.right p.1 q.1)
  each_both (par P Q) s f g n p q = (
    h.merge n.f₁ n.f₂ p.0 q.0,
    each_both P s n.f₁ n.g₁ n.left p.1 q.1,
    each_both Q s n.f₂ n.g₂ n.right p.2 q.2,
  )
  each_both (ite d e P Q) s f g n p q = (
    test-both d e s p.0 q.0,
    each_both P n.s₁ n.f₁ n.g₁ n.left p.1 q.1,
    each_both Q n.s₂ n.f₂ n.g₂ n.right p.2 q.2,
  )
  each_both (while d e P) s f g n p q = (test-both d e (either s n.f₁) p.0 q.0, each_both P n.s₁ n.f₁ g n.body p.1 q.1)
  each_both (repeat d e P) s f g n p q = (test-both d e n.f₁ p.0 q.0, each_both P n.s₁ n.f₁ g n.body p.1 q.1)
  each_both (loop d P) s f g n p q = (h.timer d n.f₁ p.0 q.0, each_both P n.s₁ n.f₁ n.g₁ n.body p.1 q.1)
  each_both exit s f g n p q = tt
  each_both (call d b) s f g n p q = (h.timer d s p.0 q.0, h.answer (delayed d s) (r b) p.1 q.1)

-- of every circuit nothing is known
abbrev nothing : Known
nothing =
    record { delay = λ d s. Unit {0}; merge = λ a b. Unit {0}; answer = λ a b. Unit {0}; line = λ d s. Unit {0}; word = λ d e s. Unit {0} }

each-nothing : (w : ℕ) (R : Reading) (r : ℕ → Sig) (P : Code) (s f : Sig) (g : Gives) (n : Circuit w R r P s f g) → Each nothing w R r P s f g n
unfolding Circuit Each
each-nothing w R r ok s f g n = tt
each-nothing w R r (tick d) s f g n = (tt, tt)
each-nothing w R r (assign d x e) s f g n = ((tt, tt, tt), (tt, tt))
each-nothing w R r (assign_elem d k i e) s f g n = (((tt, tt, tt), (tt, tt)), tt)
each-nothing w R r (seq P Q) s f g n = (each-nothing w R r P s n.mid n.g₁ n.left, each-nothing w R r Q n.mid f n.g₂ n.right)
each-nothing w R r (par P Q) s f g n = (tt, each-nothing w R r P s n.f₁ n.g₁ n.left, each-nothing w R r Q s n.f₂ n.g₂ n.right)
each-nothing w R r (ite d e P Q) s f g n =
    ((tt, tt, tt), each-nothing w R r P n.s₁ n.f₁ n.g₁ n.left, each-nothing w R r Q n.s₂ n.f₂ n.g₂ n.right)
each-nothing w R r (while d e P) s f g n = ((tt, tt, tt), each-nothing w R r P n.s₁ n.f₁ g n.body)
each-nothing w R r (repeat d e P) s f g n = ((tt, tt, tt), each-nothing w R r P n.s₁ n.f₁ g n.body)
each-nothing w R r (loop d P) s f g n = ((tt, tt), each-nothing w R r P n.s₁ n.f₁ n.g₁ n.body)
each-nothing w R r exit s f g n = tt
each-nothing w R r (call d b) s f g n = ((tt, tt), tt)

-- Nothing is in flight before instant 0
pub calm-zero : (W : World) (P : Code) (s f : Sig) (g : Gives) (n : Built W P s f g) → Calm W P s f g n 0
calm-zero W P s f g n =
    let z = each-nothing W.w (ideal W.m) W.ret P s f g n in
    each_both nothing nothing (calmly W.w W.m 0)
    (record {
      timer = λ d s u v. (λ t l k. absurd (omega arith), λ one w t l k. absurd (omega arith));
      merge = λ f₁ f₂ u v. empty-zero W.w f₁ f₂;
      answer = λ f₁ f₂ u v. no-call-zero W.w f₁ f₂;
      word = λ d e s u v w t l k. absurd (omega arith);
    })
    W.w (ideal W.m) W.ret P s f g n z z

module _ (W : World) (P : Code) (s f : Sig) (g : Gives) (n : Built W P s f g) where
  pub calm-sofar : (a : ℕ) → Calm W P s f g n a → Sofar W P s f g n a
  calm-sofar a p =
      each_both (calmly W.w W.m a) (calmly W.w W.m a) (lately W.w W.m a)
      (record { timer = λ d s u v. (tt, u.1); merge = λ f₁ f₂ u v. tt; answer = λ f₁ f₂ u v. tt; word = λ d e s u v. u })
      W.w (ideal W.m) W.ret P s f g n p p

  pub sofar-less : (c c' : ℕ) → c' ≤ c → Sofar W P s f g n c → Sofar W P s f g n c'
  sofar-less c c' o p =
      each_both (lately W.w W.m c) (lately W.w W.m c) (lately W.w W.m c')
      (record {
        timer = λ d s u v. (tt, λ one w t l k. u.1 one w t l (omega arith));
        merge = λ f₁ f₂ u v. u;
        answer = λ f₁ f₂ u v. u;
        word = λ d e s u v w t l k. u w t l (omega arith);
      })
      W.w (ideal W.m) W.ret P s f g n p p

  -- calm is at rest with a past that is in order
  pub calm-rests : (a : ℕ) → Calm W P s f g n a → Resting W P s f g n a
  calm-rests a p =
      each_both (calmly W.w W.m a) (calmly W.w W.m a) (aloft W.w a)
      (record { timer = λ d s u v. (u.0, tt); merge = λ f₁ f₂ u v. u; answer = λ f₁ f₂ u v. u; word = λ d e s u v. tt })
      W.w (ideal W.m) W.ret P s f g n p p

  pub rests-calm : (a : ℕ) → Resting W P s f g n a → Sofar W P s f g n a → Calm W P s f g n a
  rests-calm a p q =
      each_both (aloft W.w a) (lately W.w W.m a) (calmly W.w W.m a)
      (record { timer = λ d s u v. (u.0, v.1); merge = λ f₁ f₂ u v. u; answer = λ f₁ f₂ u v. u; word = λ d e s u v. v })
      W.w (ideal W.m) W.ret P s f g n p q

  -- that no line has held two pulses, alone
  pub sofar-lines : (c : ℕ) → Sofar W P s f g n c → Lined W P s f g n c
  sofar-lines c p =
      each_both (lately W.w W.m c) (lately W.w W.m c) (lined W.w c)
      (record { timer = λ d s u v. (u.1, tt); merge = λ f₁ f₂ u v. tt; answer = λ f₁ f₂ u v. tt; word = λ d e s u v. tt })
      W.w (ideal W.m) W.ret P s f g n p p

-- What holds at every instant ---------------------------------------------------------------------------------------------------------

joined-dull : (g₁ g₂ g : Gives) → Joined g₁ g₂ g → Dull g₁ → Dull g₂ → Dull g
joined-dull g₁ g₂ g j p q x t e =
    let k = or-false (g₁.clk x t) (g₂.clk x t) (sym (j.clocks x t) ∙ e) in
    let a = p x t k.0 in
    let b = q x t k.1 in
    (j.words x t ∙ ap₂ bit_or a.0 b.0, j.addresses x t ∙ ap₂ bit_or a.1 b.1)

assigned-dull : (w : ℕ) (R : Reading) (d y : ℕ) (a : ℕ → ℕ) (e : Expr) (s f : Sig) (g : Gives) → Assigned w R d y a e s f g → Dull g
assigned-dull w R d y a e s f g n x t z = (
  go (g.dat x t) (R e t) (eqb x y) (delayed d s t) (n.clocks x t) (n.words x t),
  go (g.adr x t) (a t) (eqb x y) (delayed d s t) (n.clocks x t) (n.addresses x t),
)
  where
    go : (u v : ℕ) (p q : Bool) → g.clk x t ≡ pick p q false → u ≡ pick p (pick q v 0) 0 → u ≡ 0
    go u v true true k h = cc
    go u v true false k h = h
    go u v false true k h = h
    go u v false false k h = h

-- two signals joined, where the parts' two tests joined are false
both-low : {a b c p q : Bool} → c ≡ (a || b) → (p ≡ false → a ≡ false) → (q ≡ false → b ≡ false) → (p || q) ≡ false → c ≡ false
both-low {p = p} {q = q} e l r z =
    let k = or-false p q z in
    e ∙ ap₂ ◌||◌ (l k.0) (r k.1)

module _ (w : ℕ) (R : Reading) (r : ℕ → Sig) where
  -- data and address are 0 where the clock is low
  dull : (P : Code) (s f : Sig) (g : Gives) → Circuit w R r P s f g → Dull g
  unfolding Circuit
  dull ok s f g n = λ x t e. (n.words x t, n.addresses x t)
  dull (tick d) s f g n = λ x t e. (n.words x t, n.addresses x t)
  dull (assign d y e) s f g n = assigned-dull w R d y (λ t. 0) e s f g n
  dull (assign_elem d k i e) s f g n = assigned-dull w R d (array_var k) (R i) e s f g n
  dull (seq P Q) s f g n = joined-dull n.g₁ n.g₂ g n.joined (dull P s n.mid n.g₁ n.left) (dull Q n.mid f n.g₂ n.right)
  dull (par P Q) s f g n = joined-dull n.g₁ n.g₂ g n.joined (dull P s n.f₁ n.g₁ n.left) (dull Q s n.f₂ n.g₂ n.right)
  dull (ite d e P Q) s f g n =
      joined-dull n.g₁ n.g₂ g n.joined (dull P n.s₁ n.f₁ n.g₁ n.left) (dull Q n.s₂ n.f₂ n.g₂ n.right)
  dull (while d e P) s f g n = dull P n.s₁ n.f₁ g n.body
  dull (repeat d e P) s f g n = dull P n.s₁ n.f₁ g n.body
  dull (loop d P) s f g n = λ x t e.
      let v = dull P n.s₁ n.f₁ n.g₁ n.body x t (sym (n.clocks x t) ∙ e) in
      (n.words x t ∙ v.0, n.addresses x t ∙ v.1)
  dull exit s f g n = λ x t e. (n.words x t, n.addresses x t)
  dull (call d p) s f g n = λ x t e. (n.words x t, n.addresses x t)

  -- a body that a part does not reach is not called by it
  uncalled : (T : ℕ → ℕ → Bool) (P : Code) (s f : Sig) (g : Gives) → Circuit w R r P s f g → (q : ℕ) → reaches T P q ≡ false → (t : ℕ)
      → g.calls q t ≡ false
  unfolding Circuit reaches
  uncalled T ok s f g n q z t = n.called q t
  uncalled T (tick d) s f g n q z t = n.called q t
  uncalled T (assign d y e) s f g n q z t = n.called q t
  uncalled T (assign_elem d k i e) s f g n q z t = n.called q t
  uncalled T (seq P Q) s f g n q z t =
      both-low (n.joined.called q t) (λ p. uncalled T P s n.mid n.g₁ n.left q p t) (λ p. uncalled T Q n.mid f n.g₂ n.right q p t) z
  uncalled T (par P Q) s f g n q z t =
      both-low (n.joined.called q t) (λ p. uncalled T P s n.f₁ n.g₁ n.left q p t) (λ p. uncalled T Q s n.f₂ n.g₂ n.right q p t) z
  uncalled T (ite d e P Q) s f g n q z t =
      both-low (n.joined.called q t) (λ p. uncalled T P n.s₁ n.f₁ n.g₁ n.left q p t)
      (λ p. uncalled T Q n.s₂ n.f₂ n.g₂ n.right q p t) z
  uncalled T (while d e P) s f g n q z t = uncalled T P n.s₁ n.f₁ g n.body q z t
  uncalled T (repeat d e P) s f g n q z t = uncalled T P n.s₁ n.f₁ g n.body q z t
  uncalled T (loop d P) s f g n q z t = n.called q t ∙ uncalled T P n.s₁ n.f₁ n.g₁ n.body q z t
  uncalled T exit s f g n q z t = n.called q t
  uncalled T (call d p) s f g n q z t = rw (or-false (eqb q p) (T p q) z).0 at (n.called q t)

  -- a part no exit of which ends a loop around it has an exit signal that is low throughout
  inside : (I : ℕ → Stmt) (P : Code) (s f : Sig) (g : Gives) → Circuit w R r P s f g → exits (inline I P) ≡ false → (t : ℕ) → g.out t ≡ false
  unfolding Circuit exits inline
  inside I ok s f g n z t = n.out t
  inside I (tick d) s f g n z t = n.out t
  inside I (assign d y e) s f g n z t = n.out t
  inside I (assign_elem d j i e) s f g n z t = n.out t
  inside I (seq P Q) s f g n z t =
      both-low (n.joined.out t) (λ p. inside I P s n.mid n.g₁ n.left p t) (λ q. inside I Q n.mid f n.g₂ n.right q t) z
  inside I (par P Q) s f g n z t =
      both-low (n.joined.out t) (λ p. inside I P s n.f₁ n.g₁ n.left p t) (λ q. inside I Q s n.f₂ n.g₂ n.right q t) z
  inside I (ite d e P Q) s f g n z t =
      both-low (n.joined.out t) (λ p. inside I P n.s₁ n.f₁ n.g₁ n.left p t) (λ q. inside I Q n.s₂ n.f₂ n.g₂ n.right q t) z
  inside I (while d e P) s f g n z t = inside I P n.s₁ n.f₁ g n.body z t
  inside I (repeat d e P) s f g n z t = inside I P n.s₁ n.f₁ g n.body z t
  inside I (loop d P) s f g n z t = n.out t
  inside I exit s f g n z t = not-both refl z
  inside I (call d p) s f g n z t = n.out t

  -- a variable that is not written has a clock that is low throughout
  unwritten : (I : ℕ → Stmt) (P : Code) (s f : Sig) (g : Gives) → Circuit w R r P s f g → (x : ℕ) → writes (inline I P) x ≡ false → (t : ℕ) → g.clk x t ≡ false
  unfolding Circuit writes inline
  unwritten I ok s f g n x z t = n.clocks x t
  unwritten I (tick d) s f g n x z t = n.clocks x t
  unwritten I (assign d y e) s f g n x z t = n.clocks x t ∙ ap (λ (b : Bool). pick b (delayed d s t) false) z
  unwritten I (assign_elem d j i e) s f g n x z t = n.clocks x t ∙ ap (λ (b : Bool). pick b (delayed d s t) false) z
  unwritten I (seq P Q) s f g n x z t =
      both-low (n.joined.clocks x t) (λ p. unwritten I P s n.mid n.g₁ n.left x p t)
      (λ q. unwritten I Q n.mid f n.g₂ n.right x q t) z
  unwritten I (par P Q) s f g n x z t =
      both-low (n.joined.clocks x t) (λ p. unwritten I P s n.f₁ n.g₁ n.left x p t)
      (λ q. unwritten I Q s n.f₂ n.g₂ n.right x q t) z
  unwritten I (ite d e P Q) s f g n x z t =
      both-low (n.joined.clocks x t) (λ p. unwritten I P n.s₁ n.f₁ n.g₁ n.left x p t)
      (λ q. unwritten I Q n.s₂ n.f₂ n.g₂ n.right x q t) z
  unwritten I (while d e P) s f g n x z t = unwritten I P n.s₁ n.f₁ g n.body x z t
  unwritten I (repeat d e P) s f g n x z t = unwritten I P n.s₁ n.f₁ g n.body x z t
  unwritten I (loop d P) s f g n x z t = n.clocks x t ∙ unwritten I P n.s₁ n.f₁ n.g₁ n.body x z t
  unwritten I exit s f g n x z t = n.clocks x t
  unwritten I (call d p) s f g n x z t = n.clocks x t

module _ (W : World) (P : Code) (s f : Sig) (g : Gives) (n : Built W P s f g) where
  pub is-dull : Dull g
  is-dull = dull W.w (ideal W.m) W.ret P s f g n

  pub is-unwritten : (x : ℕ) → writes (means W P) x ≡ false → (t : ℕ) → g.clk x t ≡ false
  is-unwritten = unwritten W.w (ideal W.m) W.ret W.flat P s f g n

  pub is-inside : exits (means W P) ≡ false → (t : ℕ) → g.out t ≡ false
  is-inside = inside W.w (ideal W.m) W.ret W.flat P s f g n

  pub is-uncalled : (q : ℕ) → reaches W.reach P q ≡ false → (t : ℕ) → g.calls q t ≡ false
  is-uncalled = uncalled W.w (ideal W.m) W.ret W.reach P s f g n
