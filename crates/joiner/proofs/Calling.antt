-- The refusals of parts together, outcome by outcome, and the call that joins. Assumes nothing.
use Rattle.std.specs.Prelude.{Err}
use mathlib.Core.Path.{◌≡◌, refl, sym, ap, ap₂, subst, ◌∙◌}
use mathlib.Core.Bool.{Bool, true, false, not, ◌&&◌, ◌||◌}
use mathlib.Core.List.{List, [], ◌∷◌}
use Prim.Native.Nat.{ℕ, ◌≤◌}
use native.Mathlib.Omega.{arith}
use lib.Dec.{leb, ltb}
use lib.ListN.{length, get_or}
use borrow.Author.Tests.{ltb-true, ltb-false, le-leb, lt-leb}
use Rattle.model.specs.declared.Refusal.{Refusal}
use Rattle.model.specs.declared.Options.{Options}
use Rattle.model.specs.Refusals.{refuse, refuse_if, first, first_fault, Checked, Accepted}
use Rattle.model.specs.Program.{Program}
use Rattle.model.specs.ProgramChecks.{program_with}
use Rattle.model.specs.NetlistFile.{cells_at, in_list}
use Rattle.model.specs.Calls.{short, writing}
use Rattle.model.specs.PartCalls.{Part, parts_in, whole_program, beside_whole, own_checks, nodes_fault, pulse_fault, other_fault, joint_checks, part_checks, whole_file, join_call}
use Rattle.laws.specs.Refusals.Laws.{by_bool, first_one, first-append, refused-append}
use Rattle.model.specs.PartPromises.{joined_program}
use Rattle.laws.specs.Program.Passed.{accepted-pulse}
use Rattle.laws.specs.Program.Joining.{passing, whole-checked, whole_is, join-compiles}
use Rattle.netlist.specs.declared.cells.Layout.TheVariants.{InList}
use Rattle.netlist.specs.Offsets.{Room}
use Rattle.netlist.specs.Blocks.{written_file}
use Rattle.netlist.proofs.Calls.{Tells}
use Rattle.compiler.specs.declared.whole.Netlist.{Netlist}
use Rattle.compiler.specs.Whole.{Made}
use Rattle.compiler.proofs.Call.{list-room, compile-writes}
use Rattle.joiner.specs.Stands.{Given}
use Rattle.joiner.proofs.Lent.{first-pulse}

-- the number of parts, as it is tested
number-test : (n : ℕ) → not (leb 2 n && leb n 8) ≡ (ltb n 2 || ltb 8 n)
number-test n =
    by_bool (ltb n 2) (λ a. rw (a, lt-leb 2 n (ltb-true n 2 a)) refl)
    (λ a.
    by_bool (ltb 8 n) (λ b. rw (a, b, le-leb 2 n (ltb-false n 2 a), lt-leb n 8 (ltb-true 8 n b)) refl)
    (λ b. rw (a, b, le-leb 2 n (ltb-false n 2 a), le-leb n 8 (ltb-false 8 n b)) refl))

module _ (options : Options) (ps : List Part) where
  abbrev all : Checked
  all = first (part_checks options ps)

  pub own-refuses : {q : Refusal} → first (own_checks options ps) ≡ Err q → Err q ≡ all
  own-refuses {q} e = sym (refused-append (own_checks options ps) (joint_checks options ps) q e)

  module _ (own : first (own_checks options ps) ≡ Accepted) where
    abbrev nodes : Checked
    nodes = first_fault (nodes_fault ps) 0 (length ps)

    abbrev differing : Checked
    differing = first_fault (pulse_fault ps) 0 (length ps)

    abbrev others : Checked
    others = first_fault (other_fault options ps) 0 (length ps)

    module _ {n : ℕ} (count : n ≡ length ps) where
      joint : all ≡ first (refuse_if (ltb n 2 || ltb 8 n) 29 0 ∷ nodes ∷ differing ∷ others ∷ [])
      joint =
          first-append (own_checks options ps) (joint_checks options ps) own
          ∙ ap (λ (b : Bool). first (refuse_if b 29 0 ∷ nodes ∷ differing ∷ others ∷ []))
          (ap (λ (n : ℕ). not (leb 2 n && leb n 8)) (sym count) ∙ number-test n)

      pub number-refuses : {r : Checked} → (ltb n 2 || ltb 8 n) ≡ true → r ≡ refuse 29 0 → r ≡ all
      number-refuses t e = e ∙ sym (joint ∙ ap (λ (b : Bool). first (refuse_if b 29 0 ∷ nodes ∷ differing ∷ others ∷ [])) t)

      module _ (t : (ltb n 2 || ltb 8 n) ≡ false) where
        counted : all ≡ first (nodes ∷ differing ∷ others ∷ [])
        counted = joint ∙ ap (λ (b : Bool). first (refuse_if b 29 0 ∷ nodes ∷ differing ∷ others ∷ [])) t

        pub nodes-refuse : {q : Refusal} → nodes ≡ Err q → Err q ≡ all
        nodes-refuse e = sym (counted ∙ ap (λ (c : Checked). first (c ∷ differing ∷ others ∷ [])) e)

        module _ (few : nodes ≡ Accepted) where
          pub pulses-refuse : {q : Refusal} → differing ≡ Err q → Err q ≡ all
          pulses-refuse e = sym (counted ∙ ap₂ (λ (c d : Checked). first (c ∷ d ∷ others ∷ [])) few e)

          pub files-decide : {r : Checked} → differing ≡ Accepted → r ≡ others → r ≡ all
          files-decide e g = g ∙ first_one others ∙ sym (counted ∙ ap₂ (λ (c d : Checked). first (c ∷ d ∷ others ∷ [])) few e)

-- The call -------------------------------------------------------------------------------------------------------------------------------

-- what the checks of parts refuse is refused
pub join-refused : (options : Options) (ps : List Part) (lent : List ℕ) {q : Refusal} → first (part_checks options ps) ≡ Err q
    → Tells (Err q) lent (join_call options ps lent)
unfolding join_call writing
join-refused options ps lent {q} e =
    rw (refused-append (part_checks options ps) (short (length lent) (length (whole_file options ps)) ∷ []) q e) (refl, refl)

module _ (options : Options) (lengths pulses s : List ℕ) (e : first (part_checks options (parts_in lengths pulses s)) ≡ Accepted) where
  abbrev parts : List Part
  parts = parts_in lengths pulses s

  abbrev W : Options
  W = beside_whole options parts

  -- a list of 627 cells
  pub given : Given options parts 3762
  given = record { accepted = e; size = refl }

  pulse-first : {w : ℕ} → w ≡ get_or pulses 0 0 → w ≡ W.pulse
  pulse-first ew = ew ∙ sym (first-pulse lengths pulses s (omega (arith, (passing options parts e).many.0)))

  pub pulse-low : {w : ℕ} → w ≡ get_or pulses 0 0 → w ≤ 256
  pulse-low ew = omega (arith, pulse-first ew, (accepted-pulse W (whole_program parts) (whole-checked options parts e)).1)

  module _ {cells : List ℕ} {made : Netlist} (m₀ : Made (joined_program parts) cells made) where
    m : Made (program_with W (whole_program parts)) cells made
    m = subst (λ (S : Program). Made S cells made) (sym (whole_is options parts e)) m₀

    pub room : length cells ≡ 3762 → Room InList cells made.count
    room l = list-room W (whole_program parts) m (whole-checked options parts e) l

    -- what is accepted is written
    pub join-writes : (lent : List ℕ) {w : ℕ} → w ≡ get_or pulses 0 0
        → join_call options parts lent ≡ written_file w (cells_at in_list cells 0 made.count) made.finish lent
    join-writes lent ew =
        join-compiles options parts e lent
        ∙ compile-writes W (whole_program parts) m (whole-checked options parts e) lent
        ∙ ap (λ (w : ℕ). written_file w (cells_at in_list cells 0 made.count) made.finish lent) (sym (pulse-first ew))
