-- A functional circuit with nothing in flight: it stays so while its start is quiet, whatever its words are. Assumes nothing.
use Rattle.std.specs.Prelude.{ℕ, suc, ◌+◌, ◌≤◌, ◌<◌, ◌≡◌, refl, Bool, false, not, ◌&&◌, ◌||◌, ◌⊎◌}
use Rattle.std.proofs.Common.{◌∙◌, ap, ap₂, subst, ⊎_elim, arith}
use Rattle.model.specs.Word.{is_zero}
use Rattle.model.specs.Program.{Expr, Stmt, ok, tick, assign, assign_elem, seq, par, ite, while, repeat, loop, exit, call}
use Rattle.model.specs.Circuit.{Sig, delayed}
use Rattle.model.specs.Rules.{eval}
use Rattle.theory.specs.Control.Wiring.{either, ◌≈◌}
use Rattle.theory.specs.Control.Signal.{Quiet, Clear, creep, delayed-quiet, clear_later}
use Rattle.theory.specs.Functional.Merges.{either-quiet, Spaced, spaced-off, spaced-one, Empty, empty-zero, merged-left, stays-empty}
use Rattle.laws.specs.Program.Fit.{Timed, exits}
use Rattle.theory.specs.Functional.Wiring.{Words, Place, here, also, left, right, Tags, lft, rgt, Part, Net}

-- what C says of each delay, and M of each merge; and what E says
abbrev pub both : (ℕ → Sig → Type 0) → (Sig → Sig → Type 0) → Tags → Tags
both C M E = record { delay = λ p d s. C d s × E.delay p d s; merge = λ p f g. M f g × E.merge p f g }

-- nothing is in flight just before instant a: no delay holds a pulse, and no merge a bit
abbrev pub Clean : Tags → Stmt → ℕ → Part
Clean E P a = Net (both (λ d s. Clear d s a) (λ f g. Empty f g a) E) P

-- up to instant a no pulse has entered a delay that held one
abbrev pub Late : Tags → Stmt → ℕ → Part
Late E P a = Net (both (λ d s. Spaced d s a) (λ f g. Unit {0}) E) P

-- both
abbrev pub still_tags : Tags → ℕ → Tags
still_tags E a = record { delay = λ p d s. Clear d s a × E.delay p d s × Spaced d s a; merge = λ p f g. Empty f g a × E.merge p f g }

unfoldable pub Calm : Tags → Stmt → ℕ → Part
Calm E P a = Net (still_tags E a) P

-- More is known of a circuit than of another ----------------------------------------------------------------------------------------

pub net-map : (E E' : Tags) → ((p : Place) (d : ℕ) (s : Sig) → E.delay p d s → E'.delay p d s)
    → ((p : Place) (f g : Sig) → E.merge p f g → E'.merge p f g)
    → (P : Stmt) (s f : Sig) (v w : Words) → Net E P s f v w → Net E' P s f v w
unfolding Net
net-map E E' c h ok s f v w n = n
net-map E E' c h (tick d) s f v w n = (n.0, c here d s n.1)
net-map E E' c h (assign d x e) s f v w n = (n.0, c here d s n.1)
net-map E E' c h (assign_elem d k i e) s f v w n = n
net-map E E' c h (seq P Q) s f v w n =
    record {
      mid = n.mid;
      w₁ = n.w₁;
      left = net-map (lft E) (lft E') (λ p. c (left p)) (λ p. h (left p)) P s n.mid v n.w₁ n.left;
      right = net-map (rgt E) (rgt E') (λ p. c (right p)) (λ p. h (right p)) Q n.mid f n.w₁ w n.right;
    }
net-map E E' c h (par P Q) s f v w n =
    record {
      f₁ = n.f₁;
      w₁ = n.w₁;
      f₂ = n.f₂;
      w₂ = n.w₂;
      left = net-map (lft E) (lft E') (λ p. c (left p)) (λ p. h (left p)) P s n.f₁ v n.w₁ n.left;
      right = net-map (rgt E) (rgt E') (λ p. c (right p)) (λ p. h (right p)) Q s n.f₂ v n.w₂ n.right;
      words = n.words;
      fin = n.fin;
      merge = h here n.f₁ n.f₂ n.merge;
    }
net-map E E' c h (ite d e P Q) s f v w n =
    record {
      s₁ = n.s₁;
      f₁ = n.f₁;
      w₁ = n.w₁;
      s₂ = n.s₂;
      f₂ = n.f₂;
      w₂ = n.w₂;
      left = net-map (lft E) (lft E') (λ p. c (left p)) (λ p. h (left p)) P n.s₁ n.f₁ v n.w₁ n.left;
      right = net-map (rgt E) (rgt E') (λ p. c (right p)) (λ p. h (right p)) Q n.s₂ n.f₂ v n.w₂ n.right;
      yes₁ = n.yes₁;
      no₂ = n.no₂;
      words = n.words;
      fin = n.fin;
      delay = c here d s n.delay;
    }
net-map E E' c h (while d e P) s f v w n =
    record {
      s₁ = n.s₁;
      f₁ = n.f₁;
      w₁ = n.w₁;
      body = net-map (lft E) (lft E') (λ p. c (left p)) (λ p. h (left p)) P n.s₁ n.f₁ w n.w₁ n.body;
      latches = n.latches;
      begin = n.begin;
      fin = n.fin;
      delay = c here (suc d) (either s n.f₁) n.delay;
    }
net-map E E' c h (repeat d e P) s f v w n =
    record {
      s₁ = n.s₁;
      f₁ = n.f₁;
      g = n.g;
      l = n.l;
      body = net-map (lft E) (lft E') (λ p. c (left p)) (λ p. h (left p)) P n.s₁ n.f₁ n.l w n.body;
      latches = n.latches;
      begin = n.begin;
      more = n.more;
      fin = n.fin;
      load = c also 1 (either s n.g) n.load;
      delay = c here d n.f₁ n.delay;
    }
net-map E E' c h (loop d P) s f v w n = n
net-map E E' c h exit s f v w n = n
net-map E E' c h (call _ none) s f v w n = elim none [ ]

-- A statement that has a functional circuit has no exits
pub net-closed : (E : Tags) (P : Stmt) (s f : Sig) (v w : Words) → Net E P s f v w → exits P ≡ false
unfolding Net exits
net-closed E ok s f v w n = refl
net-closed E (tick d) s f v w n = refl
net-closed E (assign d x e) s f v w n = refl
net-closed E (assign_elem d k i e) s f v w n = absurd n
net-closed E (seq P Q) s f v w n =
    ap₂ ◌||◌ (net-closed (lft E) P s n.mid v n.w₁ n.left) (net-closed (rgt E) Q n.mid f n.w₁ w n.right)
net-closed E (par P Q) s f v w n =
    ap₂ ◌||◌ (net-closed (lft E) P s n.f₁ v n.w₁ n.left) (net-closed (rgt E) Q s n.f₂ v n.w₂ n.right)
net-closed E (ite d e P Q) s f v w n =
    ap₂ ◌||◌ (net-closed (lft E) P n.s₁ n.f₁ v n.w₁ n.left) (net-closed (rgt E) Q n.s₂ n.f₂ v n.w₂ n.right)
net-closed E (while d e P) s f v w n = net-closed (lft E) P n.s₁ n.f₁ w n.w₁ n.body
net-closed E (repeat d e P) s f v w n = net-closed (lft E) P n.s₁ n.f₁ n.l w n.body
net-closed E (loop d P) s f v w n = absurd n
net-closed E exit s f v w n = absurd n
net-closed E (call _ none) s f v w n = elim none [ ]

pub calm-closed : (E : Tags) (P : Stmt) (a : ℕ) (s f : Sig) (v w : Words) → Calm E P a s f v w → exits P ≡ false
unfolding Calm
calm-closed E P a s f v w n = net-closed (still_tags E a) P s f v w n

-- Nothing is in flight before instant 0
pub calm-zero : (E : Tags) (P : Stmt) (s f : Sig) (v w : Words) → Net E P s f v w → Calm E P 0 s f v w
unfolding Calm
calm-zero E P s f v w n =
    net-map E (still_tags E 0) (λ p d s e. (λ t l k. absurd (omega arith), e, λ u v l k x y. absurd (omega arith))) (λ p f g e. (empty-zero f g, e)) P s f v w n

pub calm-clean : (E : Tags) (P : Stmt) (a : ℕ) (s f : Sig) (v w : Words) → Calm E P a s f v w → Clean E P a s f v w
unfolding Calm
calm-clean E P a s f v w n =
    net-map (still_tags E a) (both (λ d s. Clear d s a) (λ f g. Empty f g a) E) (λ p d s e. (e.0, e.1)) (λ p f g e. e) P s f v w n

pub calm-late : (E : Tags) (P : Stmt) (a : ℕ) (s f : Sig) (v w : Words) → Calm E P a s f v w → Late E P a s f v w
unfolding Calm
calm-late E P a s f v w n =
    net-map (still_tags E a) (both (λ d s. Spaced d s a) (λ f g. Unit {0}) E) (λ p d s e. (e.2, e.1)) (λ p f g e. (tt, e.1)) P s f v w n

-- Something in flight ------------------------------------------------------------------------------------------------------------------------

-- the delay of d at a place, by what E tells of it, holds a pulse just before instant a
abbrev pub Held : Tags → Place → ℕ → ℕ → Type 0
Held E p d a = (g : Sig) × E.delay p d g × (Clear d g a → ⊥)

-- and so does some delay of P
abbrev pub Flying : Tags → Stmt → ℕ → Type 0
Flying E ok a = ⊥
Flying E (tick d) a = Held E here d a
Flying E (assign d x e) a = Held E here d a
Flying E (assign_elem d k i e) a = ⊥
Flying E (seq P Q) a = Flying (lft E) P a ⊎ Flying (rgt E) Q a
Flying E (par P Q) a = Flying (lft E) P a ⊎ Flying (rgt E) Q a
Flying E (ite d e P Q) a = Held E here d a ⊎ (Flying (lft E) P a ⊎ Flying (rgt E) Q a)
Flying E (while d e P) a = Held E here (suc d) a ⊎ Flying (lft E) P a
Flying E (repeat d e P) a = Held E also 1 a ⊎ (Held E here d a ⊎ Flying (lft E) P a)
Flying E (loop d P) a = ⊥
Flying E exit a = ⊥
Flying E (call _ none) a = elim none [ ]

-- what E tells of a delay tells its signal
abbrev pub Telling : Tags → Type 0
Telling E = (p : Place) (d : ℕ) (g h : Sig) → E.delay p d g → E.delay p d h → g ≡ h

held-not : (E : Tags) → Telling E → (p : Place) (d a : ℕ) (s : Sig) → Clear d s a → E.delay p d s → Held E p d a → ⊥
held-not E one p d a s c h x = x.2 (subst (λ (g : Sig). Clear d g a) (one p d s x.0 h x.1) c)

pub not_calm : (E : Tags) → Telling E → (P : Stmt) (a : ℕ) (s f : Sig) (v w : Words) → Clean E P a s f v w → Flying E P a → ⊥
unfolding Net
not_calm E one ok a s f v w n x = x
not_calm E one (tick d) a s f v w n x = held-not E one here d a s n.1.0 n.1.1 x
not_calm E one (assign d y e) a s f v w n x = held-not E one here d a s n.1.0 n.1.1 x
not_calm E one (assign_elem d k i e) a s f v w n x = x
not_calm E one (seq P Q) a s f v w n x =
    ⊎_elim (not_calm (lft E) (λ p. one (left p)) P a s n.mid v n.w₁ n.left) (not_calm (rgt E) (λ p. one (right p)) Q a n.mid f n.w₁ w n.right) x
not_calm E one (par P Q) a s f v w n x =
    ⊎_elim (not_calm (lft E) (λ p. one (left p)) P a s n.f₁ v n.w₁ n.left) (not_calm (rgt E) (λ p. one (right p)) Q a s n.f₂ v n.w₂ n.right) x
not_calm E one (ite d e P Q) a s f v w n x =
    ⊎_elim (held-not E one here d a s n.delay.0 n.delay.1)
    (⊎_elim (not_calm (lft E) (λ p. one (left p)) P a n.s₁ n.f₁ v n.w₁ n.left)
    (not_calm (rgt E) (λ p. one (right p)) Q a n.s₂ n.f₂ v n.w₂ n.right)) x
not_calm E one (while d e P) a s f v w n x =
    ⊎_elim (held-not E one here (suc d) a (either s n.f₁) n.delay.0 n.delay.1)
    (not_calm (lft E) (λ p. one (left p)) P a n.s₁ n.f₁ w n.w₁ n.body) x
not_calm E one (repeat d e P) a s f v w n x =
    ⊎_elim (held-not E one also 1 a (either s n.g) n.load.0 n.load.1)
    (⊎_elim (held-not E one here d a n.f₁ n.delay.0 n.delay.1) (not_calm (lft E) (λ p. one (left p)) P a n.s₁ n.f₁ n.l w n.body)) x
not_calm E one (loop d P) a s f v w n x = x
not_calm E one exit a s f v w n x = x
not_calm E one (call _ none) a s f v w n x = elim none [ ]

-- At rest -------------------------------------------------------------------------------------------------------------------------------

pub record Rests (E : Tags) (P : Stmt) (s f : Sig) (v w : Words) (a b : ℕ) : Type 0 where
  pub calm : Calm E P b s f v w
  pub fin : Quiet f a b

-- With nothing in flight at a and a start that is quiet on [a, b), nothing is in flight at b, and nothing came out
abbrev pub RestOf : Stmt → Type 1
RestOf P = (E : Tags) (s f : Sig) (v w : Words) (a b : ℕ) → Calm E P a s f v w → a ≤ b → Quiet s a b → Rests E P s f v w a b

rest_ok : RestOf ok
unfolding Calm Net
rest_ok E s f v w a b n o q = record { calm = n; fin = λ t l h. n.fin t ∙ q t l h }

rest-tick : (d : ℕ) → RestOf (tick d)
unfolding Calm Net
rest-tick d E s f v w a b n o q =
    record { calm = (n.0, (clear_later d s a b o n.1.0 q, n.1.1, spaced-off d s a b n.1.2 q)); fin = λ t l h. n.0.fin t ∙ delayed-quiet d s a b n.1.0 q t l (omega arith) }

rest-assign : (d x : ℕ) (e : Expr) → RestOf (assign d x e)
unfolding Calm Net
rest-assign d x e E s f v w a b n o q =
    record { calm = (n.0, (clear_later d s a b o n.1.0 q, n.1.1, spaced-off d s a b n.1.2 q)); fin = λ t l h. n.0.fin t ∙ delayed-quiet d s a b n.1.0 q t l (omega arith) }

rest-seq : (P Q : Stmt) → RestOf P → RestOf Q → RestOf (seq P Q)
unfolding Calm Net
rest-seq P Q hP hQ E s f v w a b n o q =
    let r = hP (lft E) s n.mid v n.w₁ a b n.left o q in
    let r' = hQ (rgt E) n.mid f n.w₁ w a b n.right o r.fin in
    record { calm = record { mid = n.mid; w₁ = n.w₁; left = r.calm; right = r'.calm }; fin = r'.fin }

rest-par : (P Q : Stmt) → RestOf P → RestOf Q → RestOf (par P Q)
unfolding Calm Net
rest-par P Q hP hQ E s f v w a b n o q =
    let r = hP (lft E) s n.f₁ v n.w₁ a b n.left o q in
    let r' = hQ (rgt E) s n.f₂ v n.w₂ a b n.right o q in
    record {
      calm = record {
        f₁ = n.f₁;
        w₁ = n.w₁;
        f₂ = n.f₂;
        w₂ = n.w₂;
        left = r.calm;
        right = r'.calm;
        words = n.words;
        fin = n.fin;
        merge = (stays-empty n.f₁ n.f₂ a b o n.merge.0 r.fin r'.fin, n.merge.1);
      };
      fin = λ t l h. n.fin t ∙ merged-left n.f₁ n.f₂ a b n.merge.0 r.fin t l h;
    }

rest-ite : (d : ℕ) (e : Expr) (P Q : Stmt) → RestOf P → RestOf Q → RestOf (ite d e P Q)
unfolding Calm Net
rest-ite d e P Q hP hQ E s f v w a b n o q =
    let z : Quiet (delayed d s) a (b + d) = delayed-quiet d s a b n.delay.0 q in
    let q₁ : Quiet n.s₁ a b = λ t l h. n.yes₁ t ∙ ap (λ (c : Bool). c && not (is_zero (eval e (v t)))) (z t l (omega arith)) in
    let q₂ : Quiet n.s₂ a b = λ t l h. n.no₂ t ∙ ap (λ (c : Bool). c && is_zero (eval e (v t))) (z t l (omega arith)) in
    let r = hP (lft E) n.s₁ n.f₁ v n.w₁ a b n.left o q₁ in
    let r' = hQ (rgt E) n.s₂ n.f₂ v n.w₂ a b n.right o q₂ in
    record {
      calm = record {
        s₁ = n.s₁;
        f₁ = n.f₁;
        w₁ = n.w₁;
        s₂ = n.s₂;
        f₂ = n.f₂;
        w₂ = n.w₂;
        left = r.calm;
        right = r'.calm;
        yes₁ = n.yes₁;
        no₂ = n.no₂;
        words = n.words;
        fin = n.fin;
        delay = (clear_later d s a b o n.delay.0 q, n.delay.1, spaced-off d s a b n.delay.2 q);
      };
      fin = λ t l h. n.fin t ∙ ap₂ ◌||◌ (r.fin t l h) (r'.fin t l h);
    }

-- A while at rest, with all that is in it: D is its whole delay
pub record WhileRests (E : Tags) (P : Stmt) (D : ℕ) (s s₁ f₁ : Sig) (w w₁ : Words) (a b : ℕ) : Type 0 where
  pub begun : Quiet (delayed D (either s f₁)) a (b + D)
  pub start : Quiet s₁ a b
  pub fin : Quiet f₁ a b
  pub calm : Calm E P b s₁ f₁ w w₁
  pub clear : Clear D (either s f₁) b

pub while-rests : (E : Tags) (P : Stmt) (D : ℕ) → 1 ≤ D → RestOf P → (s s₁ f₁ : Sig) (w w₁ : Words) (test : Sig)
    → ((t : ℕ) → s₁ t ≡ (delayed D (either s f₁) t && test t))
    → (a b : ℕ) → a ≤ b → Calm E P a s₁ f₁ w w₁ → Clear D (either s f₁) a → Quiet s a b → WhileRests E P D s s₁ f₁ w w₁ a b
while-rests E P D pos hB s s₁ f₁ w w₁ test begin a b o calm clear q =
    let begun : (c : ℕ) → c ≤ b → Quiet f₁ a c → Quiet (delayed D (either s f₁)) a (c + D) =
    λ c o₁ x. delayed-quiet D (either s f₁) a c clear (either-quiet s f₁ a c (λ t l h. q t l (omega arith)) x) in
    let begins : (c : ℕ) → c < b → Quiet f₁ a c → Quiet s₁ a (suc c) =
    λ c o₁ x t l h. begin t ∙ ap (λ (c : Bool). c && test t) (begun c (omega arith) x t l (omega arith)) in
    let x : Quiet f₁ a b =
    creep f₁ a b
    (λ v h x. (hB E s₁ f₁ w w₁ a (suc (a + v)) calm (omega arith) (begins (a + v) h x)).fin (a + v) (omega arith) (omega arith)) in
    let z : Quiet (delayed D (either s f₁)) a (b + D) = begun b (omega arith) x in
    let q₁ : Quiet s₁ a b = λ t l h. begin t ∙ ap (λ (c : Bool). c && test t) (z t l (omega arith)) in
    record {
      begun = z;
      start = q₁;
      fin = x;
      calm = (hB E s₁ f₁ w w₁ a b calm o q₁).calm;
      clear = clear_later D (either s f₁) a b o clear (either-quiet s f₁ a b q x);
    }

rest-while : (d : ℕ) (e : Expr) (P : Stmt) → 1 ≤ d → RestOf P → RestOf (while d e P)
unfolding Calm Net
rest-while d e P pos hP E s f v w a b n o q =
    let r = while-rests (lft E) P (suc d) (omega arith) hP s n.s₁ n.f₁ w n.w₁ (λ t. not (is_zero (eval e (w t)))) n.begin a b o n.body n.delay.0 q in
    record {
      calm = record {
        s₁ = n.s₁;
        f₁ = n.f₁;
        w₁ = n.w₁;
        body = r.calm;
        latches = n.latches;
        begin = n.begin;
        fin = n.fin;
        delay = (r.clear, n.delay.1, spaced-off (suc d) (either s n.f₁) a b n.delay.2 (either-quiet s n.f₁ a b q r.fin));
      };
      fin = λ t l h. n.fin t ∙ ap (λ (c : Bool). c && is_zero (eval e (w t))) (r.begun t l (omega arith));
    }

-- A repeat at rest, with all that is in it
pub record RepeatRests (E : Tags) (P : Stmt) (d : ℕ) (s s₁ f₁ g : Sig) (l w : Words) (a b : ℕ) : Type 0 where
  pub begun : Quiet (delayed d f₁) a (b + d)
  pub load : Quiet (either s g) a b
  pub start : Quiet s₁ a (suc b)
  pub fin : Quiet f₁ a b
  pub calm : Calm E P b s₁ f₁ l w
  pub empty : Clear 1 (either s g) b
  pub clear : Clear d f₁ b

pub repeat-rests : (E : Tags) (P : Stmt) (d : ℕ) → 1 ≤ d → RestOf P → (s s₁ f₁ g : Sig) (l w : Words) (test : Sig)
    → s₁ ≈ delayed 1 (either s g) → ((t : ℕ) → g t ≡ (delayed d f₁ t && test t))
    → (a b : ℕ) → a ≤ b → Calm E P a s₁ f₁ l w → Clear 1 (either s g) a → Clear d f₁ a → Quiet s a b → RepeatRests E P d s s₁ f₁ g l w a b
repeat-rests E P d pos hB s s₁ f₁ g l w test begin more a b o calm empty clear q =
    let begun : (c : ℕ) → Quiet f₁ a c → Quiet (delayed d f₁) a (c + d) = λ c x. delayed-quiet d f₁ a c clear x in
    let loads : (c : ℕ) → c ≤ b → Quiet f₁ a c → Quiet (either s g) a c =
    λ c o₁ x. either-quiet s g a c (λ t l h. q t l (omega arith)) (λ t l h. more t ∙ ap (λ (c : Bool). c && test t) (begun c x t l (omega arith))) in
    let begins : (c : ℕ) → c ≤ b → Quiet f₁ a c → Quiet s₁ a (suc c) =
    λ c o₁ x t l h. begin t ∙ delayed-quiet 1 (either s g) a c empty (loads c o₁ x) t l (omega arith) in
    let x : Quiet f₁ a b =
    creep f₁ a b
    (λ v h x. (hB E s₁ f₁ l w a (suc (a + v)) calm (omega arith) (begins (a + v) (omega arith) x)).fin (a + v) (omega arith) (omega arith)) in
    let q₁ : Quiet s₁ a (suc b) = begins b (omega arith) x in
    record {
      begun = begun b x;
      load = loads b (omega arith) x;
      start = q₁;
      fin = x;
      calm = (hB E s₁ f₁ l w a b calm o (λ t l h. q₁ t l (omega arith))).calm;
      empty = clear_later 1 (either s g) a b o empty (loads b (omega arith) x);
      clear = clear_later d f₁ a b o clear x;
    }

rest-repeat : (d : ℕ) (e : Expr) (P : Stmt) → 1 ≤ d → RestOf P → RestOf (repeat d e P)
unfolding Calm Net
rest-repeat d e P pos hP E s f v w a b n o q =
    let r =
    repeat-rests (lft E) P d pos hP s n.s₁ n.f₁ n.g n.l w (λ t. is_zero (eval e (w t))) n.begin n.more a b o n.body n.load.0 n.delay.0 q in
    record {
      calm = record {
        s₁ = n.s₁;
        f₁ = n.f₁;
        g = n.g;
        l = n.l;
        body = r.calm;
        latches = n.latches;
        begin = n.begin;
        more = n.more;
        fin = n.fin;
        load = (r.empty, n.load.1, spaced-one (either s n.g) b);
        delay = (r.clear, n.delay.1, spaced-off d n.f₁ a b n.delay.2 r.fin);
      };
      fin = λ t l h. n.fin t ∙ ap (λ (c : Bool). c && not (is_zero (eval e (w t)))) (r.begun t l (omega arith));
    }

pub rest : (P : Stmt) → Timed P → RestOf P
unfolding Calm Net
rest ok h = rest_ok
rest (tick d) h = rest-tick d
rest (assign d x e) h = rest-assign d x e
rest (assign_elem d k i e) h = λ E s f v w a b n o q. absurd n
rest (seq P Q) h = rest-seq P Q (rest P h.0) (rest Q h.1)
rest (par P Q) h = rest-par P Q (rest P h.0) (rest Q h.1)
rest (ite d e P Q) h = rest-ite d e P Q (rest P h.2) (rest Q h.3)
rest (while d e P) h = rest-while d e P h.0 (rest P h.2)
rest (repeat d e P) h = rest-repeat d e P h.0 (rest P h.2)
rest (loop d P) h = λ E s f v w a b n o q. absurd n
rest exit h = λ E s f v w a b n o q. absurd n
rest (call _ none) h = elim none [ ]
