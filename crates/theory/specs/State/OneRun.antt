-- One run: for any start instants, a netlist that keeps the rules has exactly one set of values that obeys its equations, every state of a run holds it, and
-- continuing goes along the run.
-- Assumes nothing.
use Rattle.model.specs.Refusals.{Accepted}
use Rattle.std.specs.Prelude.{◌≡◌, refl, true, List, ℕ, suc, ◌-◌, ◌<◌, ◌≤◌, length}
use Rattle.std.proofs.Common.{ap, arith}
use Rattle.model.specs.declared.Format.{Format}
use Rattle.model.specs.Circuit.{Netlist, Sig, Values, high, level, Obeys}
use Rattle.model.specs.State.{course, state_size, continued}
use Rattle.model.specs.CircuitPromises.{state_at, stops_at, NoStart, Apart, OneRun}
use Rattle.laws.specs.Circuit.Unique.{unique}
use Rattle.laws.specs.Circuit.Ordered.{Ordered}
use Rattle.theory.specs.Circuit.Exists.{solution, solution-obeys}
use Rattle.laws.specs.Circuit.Shapes.{level-bound}
use Rattle.theory.specs.State.Flight.{number-zero}
use Rattle.theory.specs.State.Counters.{apart-less}
use Rattle.theory.specs.State.Sound.{states, states-next, states-free, states-crowds}
use Rattle.theory.specs.State.Running.{along}
use Rattle.theory.specs.State.Past.{past-state}

module _ (net : Netlist) (o : Ordered net.cells) (starts : Sig) (words : ℕ → ℕ) (pulse : starts 0 ≡ true) where
  -- continuing, by any values that obey the equations
  pub going : (W : Values) → Obeys net starts words W → (F : Format) (lent : List ℕ) → state_size F net ≤ length lent → (f : ℕ) → f < length net.cells → (n t : ℕ) →
      let t' = stops_at (level W f) t n in
      NoStart starts t t' → Apart F net W t'
      → continued F net f n (state_at F net starts words lent t) ≡ course Accepted (state_at F net starts words lent t') (t' - t)
  unfolding state_at
  going W obeyed F lent room f l n t none apart =
      along F net f starts (state_at F net starts words lent) (λ u. refl) (level W f) n t
      (λ u h k.
      let now = apart-less F net W u _ (omega arith) apart in
      let soon = apart-less F net W (suc u) _ (omega arith) apart in
      (ap high (states-next F net o starts words W obeyed pulse lent room u now f l), states-free F net o starts words W obeyed pulse lent room u now soon))
      none

  W : Values
  W = solution net starts words

  obeyed : Obeys net starts words W
  unfolding W
  obeyed = solution-obeys net starts words o

  pub one-run : OneRun net starts words
  one-run =
      record {
        values = W;
        obeys = obeyed;
        only = λ U h. unique net o starts words U W h obeyed;
        states = λ F lent room. states F net o starts words W obeyed pulse lent room;
        idle = λ F. number-zero F net words W;
        past = λ F. past-state F net o starts words;
        continuing = going W obeyed;
        crowds = λ lent room t apart k l e. unfold state_at in states-crowds net o starts words W obeyed pulse lent room t apart k l e;
        controls = level-bound net starts words W obeyed;
      }
