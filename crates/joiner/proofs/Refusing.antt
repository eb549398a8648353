-- The refusals of parts, part by part: what a loop over them knows at each. Assumes nothing.
use Rattle.std.specs.Prelude.{Err}
use mathlib.Core.Path.{◌≡◌, refl, sym, ap, ap₂, ◌∙◌}
use mathlib.Core.Bool.{Bool, not}
use mathlib.Core.List.{List, [], ◌∷◌, ◌++◌}
use Prim.Native.Nat.{ℕ, suc, ◌+◌, ◌<◌, ◌≤◌}
use native.Mathlib.Omega.{arith}
use native.Mathlib.Nat.{add-zero}
use lib.Dec.{eqb}
use lib.ListN.{length, get_or, drop}
use lib.Seq.{get_or-drop, drop-drop}
use borrow.Author.Tests.{lt-ltb, le-ltb, eq-eqb, ne_eqb}
use Rattle.model.specs.declared.Refusal.{Refusal}
use Rattle.model.specs.declared.Options.{Options}
use Rattle.model.specs.Refusals.{first, fault_if, Checked, Accepted}
use Rattle.model.specs.Program.{node_count}
use Rattle.model.specs.ProgramChecks.{program_with, check_of}
use Rattle.model.specs.NetlistFile.{cells_at, in_list, file_of, file_check}
use Rattle.model.specs.TimeTables.{given_check}
use Rattle.model.specs.Text.{same}
use Rattle.model.specs.Calls.{check_call, compiled_file}
use Rattle.model.specs.PartCalls.{Part, no_part, part_at, parts_in, beside_part, own_checks, nodes_up_to, nodes_fault, pulse_fault, other_fault}
use Rattle.laws.specs.Refusals.Laws.{all-accept, accept-all, first_one, first-append, refused-append}
use Rattle.laws.specs.Program.Joining.{split-accepts}
use Rattle.laws.specs.Program.Size.{few-nodes}
use Rattle.laws.specs.Numbering.Count.{fits}
use Rattle.compiler.specs.declared.whole.Netlist.{Netlist}
use Rattle.compiler.specs.Whole.{Made}
use Rattle.joiner.proofs.Lent.{first-pulse}

-- One part ---------------------------------------------------------------------------------------------------------------------------------

-- what is found first of three, where the first two are found first
module _ (a b c : Checked) where
  pub two-refused : {q : Refusal} → first (a ∷ b ∷ []) ≡ Err q → Err q ≡ first (a ∷ b ∷ c ∷ [])
  two-refused {q} e = sym (refused-append (a ∷ b ∷ []) (c ∷ []) q e)

  pub two-accepted : {r : Checked} → first (a ∷ b ∷ []) ≡ Accepted → r ≡ c → r ≡ first (a ∷ b ∷ c ∷ [])
  two-accepted e g = g ∙ first_one c ∙ sym (first-append (a ∷ b ∷ []) (c ∷ []) e)

-- its file, by the cells that its program has
module _ (options : Options) (s : List ℕ) {cells : List ℕ} {made : Netlist} (m : Made (program_with options s) cells made) where
  pub some-made : check_call options s ≡ Accepted → 0 < made.count
  some-made e = omega (arith, m.count, (fits (program_with options s) (few-nodes options s e)).0)

  pub own-file : (file : List ℕ) {b : Bool} → b ≡ same file (file_of options.pulse (cells_at in_list cells 0 made.count) made.finish)
      → b ≡ same file (compiled_file options s)
  own-file file e = rw (m.cells, m.finish) at e

-- A loop over parts -----------------------------------------------------------------------------------------------------------------------

-- it stands at part i, and these are left
pub record Standing (ps : List Part) (i : ℕ) (left : List Part) : Type 0 where
  pub all : i + length left ≡ length ps
  pub rest : drop i ps ≡ left

pub standing-first : (ps : List Part) → Standing ps 0 ps
standing-first ps = record { all = omega arith; rest = refl }

pub passed : {ps left : List Part} {i : ℕ} → Standing ps i left → left ≡ [] → length ps ≤ i
passed S e = omega (arith, S.all, ap length e)

module _ {ps left rest : List Part} {i : ℕ} {p : Part} (S : Standing ps i left) (e : left ≡ p ∷ rest) where
  pub more : i < length ps
  more = omega (arith, S.all, ap length e)

  pub standing-next : Standing ps (i + 1) rest
  standing-next = record { all = omega (arith, S.all, ap length e); rest = sym (drop-drop 1 i ps) ∙ ap (drop 1) (S.rest ∙ e) }

  pub part-here : part_at ps i ≡ p
  part-here =
      ap (λ (k : ℕ). get_or ps k no_part) (sym (add-zero i)) ∙ sym (get_or-drop i ps 0 no_part)
      ∙ ap (λ (ps : List Part). get_or ps 0 no_part) (S.rest ∙ e)

  -- 31
  pub files-here : (options : Options) {b : Bool} → b ≡ same p.file (compiled_file (beside_part options p) p.program)
      → other_fault options ps i ≡ fault_if (not b) 31
  unfolding other_fault
  files-here options f =
      ap (λ (p : Part). fault_if (not (same p.file (compiled_file (beside_part options p) p.program))) 31) part-here
      ∙ ap (λ (b : Bool). fault_if (not b) 31) (sym f)

-- Own checks -------------------------------------------------------------------------------------------------------------------------------

module _ (options : Options) {left rest : List Part} {p : Part} (e : left ≡ p ∷ rest) where
  abbrev beside : Options
  beside = beside_part options p

  abbrev own : List Checked
  own = given_check beside ∷ check_of beside p.program ∷ file_check p.file ∷ []

  own_split : first (own_checks options left) ≡ first (own ++ own_checks options rest)
  unfolding own_checks
  own_split = ap (λ (ps : List Part). first (own_checks options ps)) e

  pub own-refused : {q : Refusal} → first own ≡ Err q → first (own_checks options left) ≡ Err q
  own-refused {q} h = own_split ∙ refused-append own (own_checks options rest) q h

  pub own-next : first own ≡ Accepted → first (own_checks options left) ≡ first (own_checks options rest)
  own-next h = own_split ∙ first-append own (own_checks options rest) h

  -- where all accept
  module _ (h : first (own_checks options left) ≡ Accepted) where
    pub rest-own : first (own_checks options rest) ≡ Accepted
    rest-own = (split-accepts own (own_checks options rest) (sym own_split ∙ h)).1

    pub here-accepted : (check_call beside p.program ≡ Accepted) × (file_check p.file ≡ Accepted)
    unfolding check_call
    here-accepted =
        let a = all-accept own (split-accepts own (own_checks options rest) (sym own_split ∙ h)).0 in
        (accept-all (given_check beside ∷ check_of beside p.program ∷ []) (a 0, (a 1, tt)), a 2)

pub own-end : (options : Options) {left : List Part} → left ≡ [] → first (own_checks options left) ≡ options.checked
unfolding own_checks
own-end options e = ap (λ (ps : List Part). first (own_checks options ps)) e ∙ sym (first_one options.checked)

-- 30, by the pulse lengths as they are given -----------------------------------------------------------------------------------------------

module _ (lengths pulses s : List ℕ) {left rest : List Part} {i : ℕ} {p : Part} (S : Standing (parts_in lengths pulses s) i left) (e : left ≡ p ∷ rest)
    {w : ℕ} (ew : w ≡ get_or pulses 0 0) where
  pulses-here : pulse_fault (parts_in lengths pulses s) i ≡ fault_if (not (eqb p.pulse w)) 30
  unfolding pulse_fault
  pulses-here =
      ap₂ (λ (v w : ℕ). fault_if (not (eqb v w)) 30) (ap (λ (p : Part). p.pulse) (part-here S e))
      (first-pulse lengths pulses s (omega (arith, more S e)) ∙ sym ew)

  pub pulses-differ : (p.pulse ≡ w → ⊥) → pulse_fault (parts_in lengths pulses s) i ≡ 30
  pulses-differ h = pulses-here ∙ ap (λ (b : Bool). fault_if (not b) 30) (ne_eqb p.pulse w h)

  pub pulses-agree : p.pulse ≡ w → pulse_fault (parts_in lengths pulses s) i ≡ 0
  pulses-agree h = pulses-here ∙ ap (λ (b : Bool). fault_if (not b) 30) (eq-eqb p.pulse w h)

-- Nodes so far -----------------------------------------------------------------------------------------------------------------------------

-- n nodes and sequences are before part i
pub record NodesBefore (ps : List Part) (i : ℕ) (rest : List Part) (n : ℕ) : Type 0 where
  pub all : (j : ℕ) → nodes_up_to ps (i + j) ≡ n + nodes_up_to rest j

pub nodes-first : (ps : List Part) → NodesBefore ps 0 ps 0
nodes-first ps =
    record {
      all = λ j.
          let e : 0 + j ≡ j = omega arith in
          ap (nodes_up_to ps) e ∙ omega arith;
    }

module _ {ps left rest : List Part} {i n : ℕ} {p : Part} (e : left ≡ p ∷ rest) (N : NodesBefore ps i left n) where
  nodes-is : nodes_up_to ps i ≡ n + node_count p.program
  unfolding nodes_up_to
  nodes-is = ap (nodes_up_to ps) (sym (add-zero i)) ∙ N.all 0 ∙ ap (λ (ps : List Part). n + nodes_up_to ps 0) e

  pub too_many : 200 < n + node_count p.program → nodes_fault ps i ≡ 29
  unfolding nodes_fault
  too_many l = ap (λ (b : Bool). fault_if b 29) (lt-ltb 200 (nodes_up_to ps i) (omega (arith, nodes-is)))

  pub not-many : n + node_count p.program ≤ 200 → nodes_fault ps i ≡ 0
  unfolding nodes_fault
  not-many l = ap (λ (b : Bool). fault_if b 29) (le-ltb 200 (nodes_up_to ps i) (omega (arith, nodes-is)))

  pub nodes-next : NodesBefore ps (i + 1) rest (n + node_count p.program + 1)
  unfolding nodes_up_to
  nodes-next =
      record {
        all = λ j.
            let k : i + 1 + j ≡ i + suc j = omega arith in
            ap (nodes_up_to ps) k ∙ N.all (suc j) ∙ ap (λ (ps : List Part). n + nodes_up_to ps (suc j)) e ∙ omega arith;
      }
