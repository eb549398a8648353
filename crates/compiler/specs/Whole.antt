-- What the walk of a root, the walks of all roots and the parts of the whole netlist ask and leave. Assumes nothing: definitions.
use Rattle.model.specs.Refusals.{Accepted}
use Rattle.std.specs.Prelude.{◌≡◌, List, [], ◌∷◌, ◌++◌, ℕ, ◌+◌, ◌*◌, ◌≤◌, length, get_or, drop}
use Rattle.std.proofs.lemmas.List.Edits.{sets}
use Rattle.model.specs.declared.Options.{Options}
use Rattle.model.specs.Program.{Code, Program, program_of, roots}
use Rattle.model.specs.NetlistFile.{cells_at, in_list}
use Rattle.model.specs.Numbering.{memory_wires, ors, ors_out, or_count, delay_count, walk_count, finish_wire, delays, walk, Source, wires_of, root_delay_count, root_walk, past_root, root_walk_count, root_finishes, root_delays, root_walks}
use Rattle.model.specs.Numbering.{calls_of, clock_at, memory_at, data_at, address_at, walk_place, clock_wires, data_wires, address_wires, procedures, netlist, finish}
use Rattle.model.specs.Calls.{check_call}
use Rattle.laws.specs.Numbering.Parts.{delay_cells, clock_ors, walk_cells, data_ors, address_ors}
use Rattle.laws.specs.Numbering.Count.{root_nodes}
use Rattle.laws.specs.Program.Fit.{Formed, EveryRoot}
use Rattle.program.specs.Ends.{Laid}
use Rattle.compiler.specs.declared.walk.Place.{Place}
use Rattle.compiler.specs.declared.whole.Clocks.{Clocks}
use Rattle.compiler.specs.declared.whole.Finished.{Finished}
use Rattle.compiler.specs.declared.whole.Netlist.{Netlist}
use Rattle.compiler.specs.Writes.{write, both}
use Rattle.compiler.specs.Walk.{place, assignments, marks_of, Ready}
use Rattle.compiler.specs.Ors.{sources_from, sources_in}

-- a program that is accepted with a pulse length, k procedures and some table, its array of subtree ends, and a list of 627 cells
pub record Given (w k : ℕ) (s ends : List ℕ) (n : ℕ) : Type 0 where
  pub options : Options
  pub pulse : options.pulse ≡ w
  pub count : options.procedures ≡ k
  pub accepted : check_call options s ≡ Accepted
  pub laid : Laid s ends
  pub size : n ≡ 3762

-- a program whose netlist has room in 627 cells
pub record Fitting (S : Program) : Type 0 where
  pub formed : EveryRoot (λ r P. Formed P) 0 (roots S)
  pub nodes : root_nodes (roots S) ≤ 200

-- Roots --------------------------------------------------------------------------------------------------------------------------------
-- cs are the calls, as in model/Numbering.

-- the delays of the callers of root p, by the marks of n assignments and calls
abbrev pub callers_of : List ℕ → ℕ → ℕ → List ℕ
callers_of ms n p = wires_of (20 + p) (sources_from 1 ms 0 n)

-- the marks tell the calls cs
pub record Told (cs : List Source) (ms : List ℕ) (n : ℕ) : Type 0 where
  pub few : n ≤ 200
  pub calls : (p : ℕ) → callers_of ms n p ≡ wires_of p cs

-- the same where the marks are those of the assignments and calls alone
abbrev pub callers_in : List ℕ → ℕ → List ℕ
callers_in ms p = wires_of (20 + p) (sources_in 1 ms)

abbrev pub Calls : List Source → List ℕ → Type 0
Calls cs ms = (p : ℕ) → callers_in ms p ≡ wires_of p cs

-- the 35s that join the delays ws of a root's callers begin at a place; the last of them is the root's start, and its walk begins past them
abbrev pub start_of : ℕ → List ℕ → Place → ℕ
start_of idle ws p = ors_out idle p.cell ws

abbrev pub past_ors : List ℕ → Place → ℕ
past_ors ws p = p.cell + or_count ws

-- root P goes to place p of a list of n bytes
pub record RootReady (M : ℕ) (ws : List ℕ) (P : Code) (p : Place) (n : ℕ) : Type 0 where
  pub apart : p.delay + delay_count P ≤ p.cell
  pub walk : Ready M P (place 0 p.delay (past_ors ws p) p.mark 0) n

-- its callers' 35s, its delay cells and its walk, and its marks
pub record RootDone (pulse M : ℕ) (F : ℕ → ℕ) (idle : ℕ) (ws : List ℕ) (P : Code) (p : Place) (before after marked remarked : List ℕ) (r : Place) : Type 0 where
  pub cells :
      after
      ≡ both p.delay (delays pulse P (start_of idle ws p) p.delay (past_ors ws p)) p.cell
      (ors 35 p.cell ws ++ walk (memory_wires M) F P (start_of idle ws p) p.delay (past_ors ws p)) before
  pub marks : remarked ≡ sets marked p.mark (marks_of P p.delay (past_ors ws p))
  pub wire : r.wire ≡ finish_wire P (start_of idle ws p) p.delay (past_ors ws p)
  pub delay : r.delay ≡ p.delay + delay_count P
  pub cell : r.cell ≡ past_ors ws p + walk_count P
  pub mark : r.mark ≡ p.mark + 4 * assignments P

-- how many assignments and calls several roots have, and their marks
unfoldable pub root_assignments : List Code → ℕ
root_assignments [] = 0
root_assignments (P ∷ Ps) = assignments P + root_assignments Ps

unfoldable pub root_marks : List Source → ℕ → List Code → ℕ → ℕ → List ℕ
root_marks cs r [] d c = []
root_marks cs r (P ∷ Ps) d c = marks_of P d (root_walk cs r c) ++ root_marks cs (r + 1) Ps (d + delay_count P) (past_root cs r P c)

-- the walk begins behind the sixteen memories and the arrays' eight cells
abbrev pub behind_arrays : ℕ → ℕ
behind_arrays M = M + 16 + 8

-- all roots go to a list of n bytes; the marks tell their callers
pub record RootsReady (w k : ℕ) (s ends ms : List ℕ) (M n : ℕ) : Type 0 where
  pub given : Given w k s ends n
  pub calls : List Source
  pub told : Calls calls ms
  pub apart : 3 + root_delay_count (roots (program_of w k s)) ≤ behind_arrays M
  pub room : behind_arrays M + root_walk_count calls 0 (roots (program_of w k s)) ≤ 627

-- the finish of root r
abbrev pub finish_at : Program → List Source → ℕ → ℕ → ℕ
finish_at S cs M r = get_or (root_finishes (procedures S) cs 0 (roots S) 3 (behind_arrays M)) r 1

-- the delay cells, the walks and the marks of all roots
pub record RootsDone (S : Program) (cs : List Source) (M : ℕ) (before after marked remarked : List ℕ) (r : Place) : Type 0 where
  pub cells :
      after
      ≡ both 3 (root_delays S.pulse (procedures S) cs 0 (roots S) 3 (behind_arrays M)) (behind_arrays M)
      (root_walks (memory_wires M) (finish_at S cs M) (procedures S) cs 0 (roots S) 3 (behind_arrays M)) before
  pub marks : remarked ≡ sets marked 0 (root_marks cs 0 (roots S) 3 (behind_arrays M))
  pub wire : r.wire ≡ finish_at S cs M (procedures S)
  pub delay : r.delay ≡ 3 + root_delay_count (roots S)
  pub cell : r.cell ≡ behind_arrays M + root_walk_count cs 0 (roots S)
  pub mark : r.mark ≡ 4 * root_assignments (roots S)

-- The parts of the netlist ---------------------------------------------------------------------------------------------------------------

-- the walks of the roots of S have been put in, and their marks
pub record Put (S : Program) (cs : List Source) (M : ℕ) (before after ms marked : List ℕ) (e : Place) : Type 0 where
  pub fitting : Fitting S
  pub done : RootsDone S cs M before after ms marked e
  pub long : length ms ≡ 800
  pub size : length after ≡ 3762

-- of some program: the first walk, and the second
pub record FirstPut (after marked : List ℕ) (e : Place) : Type 0 where
  pub program : Program
  pub before : List ℕ
  pub ms : List ℕ
  pub put : Put program [] 179 before after ms marked e

pub record LastPut (after marked : List ℕ) (e : Place) : Type 0 where
  pub program : Program
  pub before : List ℕ
  pub ms : List ℕ
  pub put : Put program (calls_of program) (memory_at program) before after ms marked e

-- the clock ors of S, put in after a first walk, which tells the calls
pub record Clocked (S : Program) (ms after : List ℕ) (r : Clocks) : Type 0 where
  pub first : List ℕ
  pub cells : after ≡ write (clock_at S) (clock_ors S) first
  pub wires : r.wires ≡ clock_wires S
  pub memory : r.memory ≡ memory_at S
  pub told : Told (calls_of S) ms r.count

-- its delay cells, its walk, its data ors and its address ors
pub record Walked (S : Program) (before after : List ℕ) (r : Finished) : Type 0 where
  pub cells :
      after ≡ write (address_at S) (address_ors S) (write (data_at S) (data_ors S) (both 3 (delay_cells S) (walk_place S) (walk_cells S) before))
  pub wires : r.wires ≡ data_wires S
  pub addresses : drop 16 r.addresses ≡ address_wires S
  pub count : r.count ≡ length (netlist S)
  pub finish : r.finish ≡ finish S
  pub ors : r.ors ≡ data_at S

-- its netlist
pub record Made (S : Program) (after : List ℕ) (r : Netlist) : Type 0 where
  pub cells : cells_at in_list after 0 r.count ≡ netlist S
  pub count : r.count ≡ length (netlist S)
  pub finish : r.finish ≡ finish S
  pub ors : r.ors ≡ data_at S

-- the clock ors and the walk of S have been put in
pub record Closing (S : Program) (after : List ℕ) (k : Clocks) (w : Finished) : Type 0 where
  pub fitting : Fitting S
  pub ms : List ℕ
  pub before : List ℕ
  pub clocks : Clocked S ms before k
  pub walk : Walked S before after w
  pub size : length after ≡ 3762

pub record Closable (after : List ℕ) (k : Clocks) (w : Finished) : Type 0 where
  pub program : Program
  pub closing : Closing program after k w
