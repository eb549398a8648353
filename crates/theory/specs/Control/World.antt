-- What every part of a circuit can see, and the run of a part in it. Assumes nothing.
use Rattle.std.specs.Prelude.{ℕ, ◌≤◌, ◌<◌, ◌≡◌, Bool, true, false, ◌||◌}
use Rattle.std.proofs.Common.{◌∙◌, ap}
use Rattle.std.proofs.Math.Bool.{or-true}
use Rattle.model.specs.Program.{Code, Stmt}
use Rattle.model.specs.Procedures.{inline, reaches}
use Rattle.model.specs.Rules.{imperative, Store, Run, run}
use Rattle.model.specs.Circuit.{Sig}
use Rattle.laws.specs.Program.Fit.{Separate, Inside, exits}
use Rattle.laws.specs.Program.Admitted.{Lone}
use Rattle.laws.specs.Rules.Laws.{Steady, steady}
use Rattle.model.specs.Program.{gap}
use Rattle.theory.specs.Control.Widths.{Timely, timely-inline, timely-timed}
use Rattle.theory.specs.Control.Wiring.{Memory, ideal, Gives, Circuit, Mem}

pub record World : Type 0 where
  -- the pulse length
  pub w : ℕ
  pub pos : 1 ≤ w
  pub wide : w ≤ gap w
  -- the words, and all that is given, by the program and by the bodies that it calls
  pub m : Memory
  pub all : Gives
  pub mem : Mem m all
  -- the bodies, what each is without calls, and which it reaches; a body calls only those before it
  pub bodies : ℕ → Code
  pub flat : ℕ → Stmt
  pub reach : ℕ → ℕ → Bool
  pub flat-is : (p : ℕ) → flat p ≡ inline flat (bodies p)
  pub reach-is : (p q : ℕ) → reach p q ≡ reaches reach (bodies p) q
  pub lower : (p q : ℕ) → reaches reach (bodies p) q ≡ true → q < p
  -- what acceptance leaves of them
  pub timely : (p : ℕ) → Timely w (bodies p)
  pub flat-timely : (p : ℕ) → Timely w (flat p)
  pub separate : (p : ℕ) → Separate (inline flat (bodies p))
  pub inside : (p : ℕ) → Inside (inline flat (bodies p))
  pub closed : (p : ℕ) → exits (inline flat (bodies p)) ≡ false
  pub lone : (p : ℕ) → Lone reach (bodies p)
  -- each with its finish and what it gives; its start is all that calls it
  pub ret : ℕ → Sig
  pub each : ℕ → Gives
  pub built : (q : ℕ) → Circuit w (ideal m) ret (bodies q) (all.calls q) (ret q) (each q)

-- P has this start and finish, and gives this
abbrev pub Built : World → Code → Sig → Sig → Gives → Type 0
Built W P s f g = Circuit W.w (ideal W.m) W.ret P s f g

-- delays that are long enough, and variables and arrays that exist
abbrev pub Paced : World → Code → Type 0
Paced W P = Timely W.w P

-- the statement whose rules P keeps
abbrev pub means : World → Code → Stmt
means W P = inline W.flat P

-- P from σ within k instants
abbrev pub goes : World → ℕ → Code → Store → Run
goes W k P σ = run (imperative W.w) k (means W P) σ

pub flat-paced : (W : World) (P : Code) → Paced W P → Timely W.w (inline W.flat P)
flat-paced W P timed = timely-inline W.w W.pos W.flat W.flat-timely P timed

pub steadily : (W : World) (P : Code) → Paced W P → (σ : Store) → Steady (λ k. goes W k P σ)
steadily W P timed σ = steady (imperative W.w) (means W P) (timely-timed W.w (inline W.flat P) W.pos (flat-paced W P timed)) σ

-- what is true of all that one of two tests names is true of what each names
pub each_of : {A : ℕ → Type 0} (p q : ℕ → Bool) → ((x : ℕ) → (p x || q x) ≡ true → A x) → ((x : ℕ) → p x ≡ true → A x) × ((x : ℕ) → q x ≡ true → A x)
each_of p q h = (λ x t. h x (ap (λ (c : Bool). c || q x) t), λ x t. h x (ap (λ (c : Bool). p x || c) t ∙ or-true (p x)))
