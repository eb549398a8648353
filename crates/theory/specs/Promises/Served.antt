-- The published circuit of an accepted program serves it, by the rules of imperative circuits, from the present words.
-- Assumes nothing.
use Rattle.std.specs.Prelude.{◌≡◌, false, List, ℕ, ◌≤◌}
use Rattle.std.proofs.Common.{sym, ap₂, subst, arith, ltb-false}
use Rattle.model.specs.declared.Cell.{Cell}
use Rattle.model.specs.declared.Format.{Format}
use Rattle.model.specs.declared.Format.TheVariants.{Full, Compact}
use Rattle.model.specs.Program.{Program}
use Rattle.model.specs.Procedures.{meaning}
use Rattle.model.specs.Rules.{imperative, Store}
use Rattle.model.specs.Circuit.{Netlist, Sig, Values, memories, Obeys}
use Rattle.model.specs.Numbering.{netlist, circuit_of, finish}
use Rattle.model.specs.NetlistFile.{cells_of, net_of, finish_of}
use Rattle.model.specs.Calls.{is_too_long}
use Rattle.model.specs.CircuitPromises.{Idle, Apart}
use Rattle.laws.specs.Program.Admitted.{Admitted, meaning-timed, meaning-closed}
use Rattle.theory.specs.Promises.Due.{Began, finish-due, lines-apart, still-busy, ended-idle, run-again}
use Rattle.theory.specs.Promises.Replay.{OfFile, Serves}

-- what is known of the file of an accepted program S
pub record OfProgram (S : Program) (file : List ℕ) : Type 0 where
  pub of_file : OfFile S.pulse file
  pub admitted : Admitted S
  pub cells_are : cells_of file ≡ netlist S
  pub finish-is : finish_of file ≡ finish S
  pub sixteen : memories (netlist S) ≡ 16

pub net-is : (S : Program) (file : List ℕ) → OfProgram S file → net_of file ≡ circuit_of S
net-is S file X = ap₂ (λ (cs : List Cell) (w : ℕ). record { cells = cs; pulse = w }) X.cells_are X.of_file.pulse-is

-- a compact state goes with pulses of one instant
one-pulse : (w : ℕ) → 1 ≤ w → is_too_long Compact w ≡ false → w ≡ 1
unfolding is_too_long
one-pulse w pos e = omega (arith, ltb-false 1 w e)

pub apart_by : (F : Format) (w : ℕ) → 1 ≤ w → is_too_long F w ≡ false → (net : Netlist) (W : Values) (t : ℕ) → (w ≡ 1 → Apart Compact net W t) → Apart F net W t
apart_by Full w pos e net W t h = tt
apart_by Compact w pos e net W t h = h (one-pulse w pos e)

-- with start pulses at these instants, from these words
module _ (S : Program) (file : List ℕ) (X : OfProgram S file) (starts : Sig) (σ₀ : Store) (W : Values) (obeys : Obeys (net_of file) starts σ₀ W) where
  -- the equations of the file are those of the program's netlist
  pub published : Obeys (circuit_of S) starts σ₀ W
  published = subst (λ (n : Netlist). Obeys n starts σ₀ W) (net-is S file X) obeys

  abbrev pub served : (F : Format) → Serves F (imperative S.pulse) S.pulse (meaning S) (λ τ. τ) (net_of file) (finish_of file) starts W
  served F =
      record {
        Began = Began S X.admitted starts σ₀ W published;
        positive = X.admitted.pulse.0;
        timed = meaning-timed S X.admitted;
        closed = meaning-closed S X.admitted;
        finish-due = λ σ a t B l none. rw X.finish-is (finish-due S X.admitted starts σ₀ W published σ a t B l none);
        lines-apart = λ fits σ a t B l none.
            apart_by F S.pulse X.admitted.pulse.0 fits (net_of file) W t
            (λ one.
            subst (λ (n : Netlist). Apart Compact n W t) (sym (net-is S file X))
            (lines-apart S X.admitted starts σ₀ W published σ a t B l none one));
        still-busy = λ σ a t B l none p I.
            still-busy S X.admitted starts σ₀ W published σ a t B l none p (subst (λ (n : Netlist). Idle n W t) (net-is S file X) I);
        ended-idle = λ σ a t B l none e σ' p past.
            subst (λ (n : Netlist). Idle n W t) (sym (net-is S file X)) (ended-idle S X.admitted starts σ₀ W published σ a t B l none e σ' p past);
        run-again = λ σ a t B l none e σ' p past pulse. run-again S X.admitted starts σ₀ W published σ a t B l none e σ' p past pulse;
      }
