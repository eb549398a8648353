-- What a part owns: its variables, arrays among them, and the bodies that it reaches; when these bodies are at rest, and what it is that a part's own
-- follows only what the part and its bodies give. Assumes nothing.
use Rattle.std.specs.Prelude.{ℕ, zero, suc, ◌+◌, ◌-◌, ◌≤◌, ◌<◌, ◌≡◌, Bool, true, false, ◌||◌, eqb}
use Rattle.std.proofs.Common.{sym, ◌∙◌, ap, subst, arith}
use Rattle.std.proofs.Math.Bool.{or-false}
use Rattle.std.specs.Int.Bits.{bit_or, or_zero_r}
use Rattle.laws.specs.Refusals.Laws.{by_bool, by_le}
use Rattle.model.specs.Program.{gap}
use Rattle.theory.specs.Control.Signal.{Quiet}
use Rattle.model.specs.Program.{Code, touches}
use Rattle.model.specs.Procedures.{reaches}
use Rattle.model.specs.Rules.{owner}
use Rattle.theory.specs.Control.Wiring.{Gives, Joined, hits, latch, Latches, Mem}
use Rattle.theory.specs.Control.World.{World, means, each_of}
use Rattle.theory.specs.Control.Memories.{Dull, Follow, keep}
use Rattle.theory.specs.Control.Calm.{Calm, Sofar, calm-sofar, is-uncalled}
use Rattle.theory.specs.Control.Rest.{Rests, rest}

-- What a part may count as its own
pub record Owned : Type 1 where
  pub vars : ℕ → Type 0
  pub procs : ℕ → Type 0

-- all that P uses, itself and through calls, and perhaps more
pub record Owns (W : World) (P : Code) (U : Owned) : Type 0 where
  pub mine : (x : ℕ) → touches (means W P) x ≡ true → U.vars x
  pub reach : (q : ℕ) → reaches W.reach P q ≡ true → U.procs q

-- what two parts use together
pub owns-both : (W : World) (P Q : Code) (U : Owned) → ((x : ℕ) → (touches (means W P) x || touches (means W Q) x) ≡ true → U.vars x)
    → ((q : ℕ) → (reaches W.reach P q || reaches W.reach Q q) ≡ true → U.procs q) → Owns W P U × Owns W Q U
owns-both W P Q U mine reach =
    let v = each_of (touches (means W P)) (touches (means W Q)) mine in
    let r = each_of (reaches W.reach P) (reaches W.reach Q) reach in
    (record { mine = v.0; reach = r.0 }, record { mine = v.1; reach = r.1 })

-- Bodies --------------------------------------------------------------------------------------------------------------------------------

-- nothing is in flight in body q just before instant a
abbrev pub Idle : World → ℕ → ℕ → Type 0
Idle W q a = Calm W (W.bodies q) (W.all.calls q) (W.ret q) (W.each q) (W.built q) a

abbrev pub BodyRests : World → ℕ → ℕ → ℕ → Type 0
BodyRests W q a b = Rests (W.ret q) (W.each q) (Idle W q) a b

abbrev pub BodySofar : World → ℕ → ℕ → Type 0
BodySofar W q c = Sofar W (W.bodies q) (W.all.calls q) (W.ret q) (W.each q) (W.built q) c

body-rest : (W : World) (q a b : ℕ) → Idle W q a → a ≤ b → Quiet (W.all.calls q) a b → BodyRests W q a b
body-rest W q a b = rest W (W.bodies q) (W.timely q) (W.all.calls q) (W.ret q) (W.each q) (W.built q) a b

-- at t, no call by the part (g) or by the bodies of Y: no start of one of these
abbrev pub SilentAt : World → (ℕ → Type 0) → Gives → ℕ → Type 0
SilentAt W Y g t =
    (q : ℕ) → Y q → g.calls q t ≡ false → ((r : ℕ) → Y r → (W.each r).calls q t ≡ false) → W.all.calls q t ≡ false

-- a body calls neither itself nor a later one
pub uncalled : (W : World) (r q : ℕ) → r ≤ q → (t : ℕ) → (W.each r).calls q t ≡ false
uncalled W r q o =
    is-uncalled W (W.bodies r) (W.all.calls r) (W.ret r) (W.each r) (W.built r) q
    (by_bool (reaches W.reach (W.bodies r) q) (λ z. absurd (omega (arith, W.lower r q z))) (λ z. z))

-- The bodies of Y from number k on rest while the part does not call them: those below k do not
module _ (W : World) (Y : ℕ → Type 0) (k : ℕ) (g : Gives) (a b : ℕ) (idle : (q : ℕ) → Y q → k ≤ q → Idle W q a)
    (silent : (t : ℕ) → a ≤ t → t < b → SilentAt W Y g t) (off : (q : ℕ) → Y q → k ≤ q → Quiet (g.calls q) a b) where
  bodies-quiet : (n : ℕ) → a + n ≤ b → (q : ℕ) → Y q → k ≤ q → Quiet (W.all.calls q) a (a + n)
  bodies-quiet zero o q v l t h j = absurd (omega arith)
  bodies-quiet (suc n) o q v l t h j =
      by_le (a + n) t
      (λ z.
      silent t h (omega arith) q v (off q v l t h (omega arith))
      (λ r i.
      by_le k r
      (λ y. (body-rest W r a (a + n) (idle r i y) (omega arith) (bodies-quiet n (omega arith) r i y)).called q t h (omega arith))
      (λ y. uncalled W r q (omega arith) t)))
      (λ z. bodies-quiet n (omega arith) q v l t h z)

  pub bodies-rest : a ≤ b → (q : ℕ) → Y q → k ≤ q → BodyRests W q a b
  bodies-rest o q v l = body-rest W q a b (idle q v l) o (λ t h j. bodies-quiet (b - a) (omega arith) q v l t h (omega arith))

-- What a part's own follows ---------------------------------------------------------------------------------------------------------------

-- On [a, b] the variables of U follow only what the part (g) and U's bodies give
pub record Follows (W : World) (U : Owned) (g : Gives) (a b : ℕ) : Type 0 where
  -- no clock from these: no clock
  pub low : (x : ℕ) → U.vars x → (t : ℕ) → a ≤ t → t ≤ b → g.clk x t ≡ false → ((r : ℕ) → U.procs r → (W.each r).clk x t ≡ false)
      → W.all.clk x t ≡ false
  -- a clock from the part alone, or from one of these bodies, is the clock, and brings its word and address
  pub own : (x : ℕ) → U.vars x → (t : ℕ) → a ≤ t → t ≤ b → g.clk x t ≡ true → ((r : ℕ) → U.procs r → (W.each r).clk x t ≡ false)
      → (W.all.clk x t ≡ true) × (W.all.dat x t ≡ g.dat x t) × (W.all.adr x t ≡ g.adr x t)
  pub body : (x : ℕ) → U.vars x → (t : ℕ) → a ≤ t → t ≤ b → g.clk x t ≡ false → (q : ℕ) → U.procs q → (W.each q).clk x t ≡ true
      → ((r : ℕ) → U.procs r → eqb r q ≡ false → (W.each r).clk x t ≡ false)
      → (W.all.clk x t ≡ true) × (W.all.dat x t ≡ (W.each q).dat x t) × (W.all.adr x t ≡ (W.each q).adr x t)
  -- a call by one of them is a start, at every instant
  pub heard : (q : ℕ) → U.procs q → (t : ℕ) → g.calls q t ≡ true → W.all.calls q t ≡ true
  pub heard-body : (r : ℕ) → U.procs r → (q : ℕ) → U.procs q → (t : ℕ) → (W.each r).calls q t ≡ true → W.all.calls q t ≡ true

-- on a part of the interval
pub within : (W : World) (U : Owned) (g : Gives) (a b a' b' : ℕ) → a ≤ a' → b' ≤ b → Follows W U g a b → Follows W U g a' b'
within W U g a b a' b' o o' F =
    record {
      low = λ x u t l h. F.low x u t (omega arith) (omega arith);
      own = λ x u t l h. F.own x u t (omega arith) (omega arith);
      body = λ x u t l h. F.body x u t (omega arith) (omega arith);
      heard = F.heard;
      heard-body = F.heard-body;
    }

-- where U's bodies clock nothing, the words of its variables follow the part alone
pub alone : (W : World) (U : Owned) (g : Gives) (a b : ℕ) → Follows W U g a b
    → ((q : ℕ) → U.procs q → (x t : ℕ) → a ≤ t → t ≤ b → (W.each q).clk x t ≡ false) → Follow W U.vars g a b
unfolding Mem latch
alone W U g a b F z x i t l h =
    let k : Latches W.m W.all x t = W.mem t x in
    let v = owner x in
    let now : W.all.clk v (suc t) ≡ g.clk v (suc t) =
    by_bool (g.clk v (suc t))
    (λ y. (F.own v i (suc t) (omega arith) (omega arith) y (λ r u. z r u v (suc t) (omega arith) (omega arith))).0 ∙ sym y)
    (λ y. F.low v i (suc t) (omega arith) (omega arith) y (λ r u. z r u v (suc t) (omega arith) (omega arith)) ∙ sym y) in
    by_bool (g.clk v t)
    (λ y.
    let c = F.own v i t l (omega arith) y (λ r u. z r u v t l (omega arith)) in
    let e : W.all.clk v t ≡ g.clk v t = c.0 ∙ sym y in
    let d = c.1 in
    let a = c.2 in
    cc)
    (λ y.
    let e : W.all.clk v t ≡ false = F.low v i t l (omega arith) y (λ r u. z r u v t l (omega arith)) in
    k ∙ ap (λ (p : Bool). latch p (W.all.clk v (suc t)) (hits x (W.all.adr v t)) (W.all.dat v t) (W.m t x)) e
    ∙ sym (ap (λ (p : Bool). latch p (g.clk v (suc t)) (hits x (g.adr v t)) (g.dat v t) (W.m t x)) y))

-- The half of a joined pair whose other half is quiet where it matters; the bodies of U that are not of U' are mute there
module _ (W : World) (U U' : Owned) (g₁ g₂ g : Gives) (j : Joined g₁ g₂ g) (inY : (q : ℕ) → U'.procs q → U.procs q) where
  pub silent-left : (t : ℕ) → ((q : ℕ) → U'.procs q → g₂.calls q t ≡ false)
      → ((q : ℕ) → U'.procs q → (r : ℕ) → U.procs r → (U'.procs r → (W.each r).calls q t ≡ false) → (W.each r).calls q t ≡ false)
      → SilentAt W U.procs g t → SilentAt W U'.procs g₁ t
  silent-left t off mute S q v e z =
      S q (inY q v) (j.called q t ∙ ap (λ (c : Bool). g₁.calls q t || c) (off q v) ∙ or-false _ ∙ e) (λ r i. mute q v r i (λ i'. z r i'))

  module _ (a b : ℕ) (dull : Dull g₂) (inU : (x : ℕ) → U'.vars x → U.vars x) (off : (x : ℕ) → U'.vars x → Quiet (g₂.clk x) a (suc b))
      (mute : (x : ℕ) → U'.vars x → (t r : ℕ) → U.procs r → (U'.procs r → (W.each r).clk x t ≡ false) → (W.each r).clk x t ≡ false)
      (F : Follows W U g a b) where
    half-clk : (x : ℕ) → U'.vars x → (t : ℕ) → a ≤ t → t ≤ b → g.clk x t ≡ g₁.clk x t
    half-clk x u t l h = j.clocks x t ∙ ap (λ (c : Bool). g₁.clk x t || c) (off x u t l (omega arith)) ∙ or-false _

    half-dat : (x : ℕ) → U'.vars x → (t : ℕ) → a ≤ t → t ≤ b → g.dat x t ≡ g₁.dat x t
    half-dat x u t l h = j.words x t ∙ ap (λ (n : ℕ). bit_or (g₁.dat x t) n) (dull x t (off x u t l (omega arith))).0 ∙ or_zero_r _

    half-adr : (x : ℕ) → U'.vars x → (t : ℕ) → a ≤ t → t ≤ b → g.adr x t ≡ g₁.adr x t
    half-adr x u t l h = j.addresses x t ∙ ap (λ (n : ℕ). bit_or (g₁.adr x t) n) (dull x t (off x u t l (omega arith))).1 ∙ or_zero_r _

    pub follows-left : Follows W U' g₁ a b
    follows-left =
        record {
          low = λ x u t l h e z. F.low x (inU x u) t l h (half-clk x u t l h ∙ e) (λ r i. mute x u t r i (λ i'. z r i'));
          own = λ x u t l h e z.
              let k = F.own x (inU x u) t l h (half-clk x u t l h ∙ e) (λ r i. mute x u t r i (λ i'. z r i')) in
              (k.0, k.1 ∙ half-dat x u t l h, k.2 ∙ half-adr x u t l h);
          body = λ x u t l h e q v y z.
              F.body x (inU x u) t l h (half-clk x u t l h ∙ e) q (inY q v) y (λ r i n. mute x u t r i (λ i'. z r i' n));
          heard = λ q v t e. F.heard q (inY q v) t (j.called q t ∙ ap (λ (c : Bool). c || g₂.calls q t) e);
          heard-body = λ r v q i. F.heard-body r (inY r v) q (inY q i);
        }

-- the same, with the same own
pub silent-beside : (W : World) (U : Owned) (g₁ g₂ g : Gives) (t : ℕ) → Joined g₁ g₂ g → ((q : ℕ) → g₂.calls q t ≡ false)
    → SilentAt W U.procs g t → SilentAt W U.procs g₁ t
silent-beside W U g₁ g₂ g t j off = silent-left W U U g₁ g₂ g j (λ q v. v) t (λ q v. off q) (λ q v r i z. z i)

pub follows-beside : (W : World) (U : Owned) (g₁ g₂ g : Gives) (a b : ℕ) → Joined g₁ g₂ g → Dull g₂ → ((x : ℕ) → Quiet (g₂.clk x) a (suc b))
    → Follows W U g a b → Follows W U g₁ a b
follows-beside W U g₁ g₂ g a b j dull off =
    follows-left W U U g₁ g₂ g j (λ q v. v) a b dull (λ x u. u) (λ x u. off x) (λ x u t r i z. z i)

-- what follows a part follows another that gives the same
pub follows_is : (W : World) (U : Owned) (g₁ g : Gives) (a b : ℕ) → ((x t : ℕ) → g.clk x t ≡ g₁.clk x t) → ((x t : ℕ) → g.dat x t ≡ g₁.dat x t)
    → ((x t : ℕ) → g.adr x t ≡ g₁.adr x t) → ((q t : ℕ) → g.calls q t ≡ g₁.calls q t) → Follows W U g a b → Follows W U g₁ a b
follows_is W U g₁ g a b clocks words addresses called F =
    record {
      low = λ x u t l h e z. F.low x u t l h (clocks x t ∙ e) z;
      own = λ x u t l h e z.
          let k = F.own x u t l h (clocks x t ∙ e) z in
          (k.0, k.1 ∙ words x t, k.2 ∙ addresses x t);
      body = λ x u t l h e. F.body x u t l h (clocks x t ∙ e);
      heard = λ q v t e. F.heard q v t (called q t ∙ e);
      heard-body = F.heard-body;
    }

-- After a part ------------------------------------------------------------------------------------------------------------------------------

-- From a on, before e, the bodies of Y clock nothing; a gap after a nothing is in flight in them
pub record Settled (W : World) (Y : ℕ → Type 0) (a e : ℕ) : Type 0 where
  pub idle : (q : ℕ) → Y q → a + gap W.w ≤ e → Idle W q (a + gap W.w)
  pub low : (q : ℕ) → Y q → (x t : ℕ) → a ≤ t → t ≤ a + gap W.w → t ≤ e → (W.each q).clk x t ≡ false
  pub sofar : (q : ℕ) → Y q → (t : ℕ) → t ≤ a + gap W.w → t ≤ e → BodySofar W q t

pub settled-less : (W : World) (Y : ℕ → Type 0) (a e e' : ℕ) → e' ≤ e → Settled W Y a e → Settled W Y a e'
settled-less W Y a e e' o S =
    record {
      idle = λ q v k. S.idle q v (omega arith);
      low = λ q v x t l h k. S.low q v x t l h (omega arith);
      sofar = λ q v t l k. S.sofar q v t l (omega arith);
    }

-- after the gap nothing more is said
pub settled-more : (W : World) (Y : ℕ → Type 0) (a e : ℕ) → Settled W Y a (a + gap W.w) → Settled W Y a e
settled-more W Y a e S =
    record { idle = λ q v k. S.idle q v (omega arith); low = λ q v x t l h k. S.low q v x t l h h; sofar = λ q v t l k. S.sofar q v t l l }

pub settled_at : (W : World) (Y : ℕ → Type 0) (a a' e : ℕ) → a ≡ a' → Settled W Y a e → Settled W Y a' e
settled_at W Y a a' e q S = subst (λ (k : ℕ). Settled W Y k e) q S

-- While a part calls nothing, up to b, its bodies rest
module _ (W : World) (U : Owned) (g : Gives) (a b e : ℕ) (o : b ≤ e) (S : Settled W U.procs a e)
    (silent : (t : ℕ) → a + W.w ≤ t → t < b → SilentAt W U.procs g t)
    (off : (q : ℕ) → Quiet (g.calls q) (a + W.w) b) where
  pub pause-rests : a + gap W.w ≤ b → (q : ℕ) → U.procs q → BodyRests W q (a + gap W.w) b
  pause-rests l q v =
      bodies-rest W U.procs 0 g (a + gap W.w) b (λ q v k. S.idle q v (omega arith)) (λ t k h. silent t (omega arith) h)
      (λ q v k t h j. off q t (omega arith) j) l q v (omega arith)

  pub pause-low : (q : ℕ) → U.procs q → (x t : ℕ) → a ≤ t → t ≤ b → (W.each q).clk x t ≡ false
  pause-low q v x t l h =
      by_le (a + gap W.w) t (λ z. (pause-rests (omega arith) q v).clocks x t z (omega arith)) (λ z. S.low q v x t l (omega arith) (omega arith))

  pub pause-sofar : (q : ℕ) → U.procs q → BodySofar W q b
  pause-sofar q v =
      by_le (a + gap W.w) b
      (λ z. calm-sofar W (W.bodies q) (W.all.calls q) (W.ret q) (W.each q) (W.built q) b (pause-rests z q v).calm)
      (λ z. S.sofar q v b (omega arith) o)

  -- and its variables' words follow the part alone
  pub pause-follow : Follows W U g a b → Follow W U.vars g a b
  pause-follow F = alone W U g a b F (λ q v x t l h. pause-low q v x t l h)

  -- so that its words stay if it clocks nothing either
  pub pause-words : a ≤ b → Follows W U g a b → ((x : ℕ) → Quiet (g.clk x) a b) → (x : ℕ) → U.vars (owner x) → W.m b x ≡ W.m a x
  pause-words l F z x i = keep W U.vars g a b l (pause-follow F) x i (z (owner x))

-- and if it goes on to call nothing until a gap after c, they are settled at c
pub pause : (W : World) (U : Owned) (g : Gives) (a c e : ℕ) → a ≤ c → Settled W U.procs a e
    → ((t : ℕ) → a + W.w ≤ t → t < c + gap W.w → t < e → SilentAt W U.procs g t)
    → ((q t : ℕ) → a + W.w ≤ t → t < c + gap W.w → t < e → g.calls q t ≡ false) → Settled W U.procs c e
pause W U g a c e o S silent off =
    record {
      idle = λ q v k.
          (pause-rests W U g a (c + gap W.w) e k S (λ t l h. silent t l h (omega arith)) (λ q t l h. off q t l h (omega arith))
          (omega arith) q v
          ).calm;
      low = λ q v x b l₀ h₀ k.
          pause-low W U g a b e k S (λ t l h. silent t l (omega arith) (omega arith)) (λ q t l h. off q t l (omega arith) (omega arith))
          q v x b (omega arith) (omega arith);
      sofar = λ q v b l₀ k.
          pause-sofar W U g a b e k S (λ t l h. silent t l (omega arith) (omega arith)) (λ q t l h. off q t l (omega arith) (omega arith)) q v;
    }
