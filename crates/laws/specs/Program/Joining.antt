-- Parts that are joined: what their checks leave of them, and that they make an accepted program, which is their sequence.
-- Assumes nothing.
use Rattle.std.specs.Prelude.{◌≡◌, Bool, not, ◌&&◌, length, Ok, Err}
use Rattle.std.proofs.Math.Path.{refl, sym, ap, ap₂}
use Rattle.std.proofs.Common.{subst, ◌∙◌, le_of_suc-le-suc}
use mathlib.Core.List.{List, [], ◌∷◌, ◌++◌}
use Prim.Native.Nat.{ℕ, zero, suc, ◌*◌, ◌<◌, ◌≤◌}
use native.Mathlib.Omega.{arith}
use Rattle.std.proofs.Math.Dec.{leb}
use borrow.Author.Tests.{ltb-false, le-ltb, le-leb, leb-true, eqb-true, eq-eqb}
use Rattle.model.specs.declared.Options.{Options}
use Rattle.model.specs.Refusals.{refuse_if, first, fault_if, Checked, Accepted}
use Rattle.model.specs.Program.{seq, Program, node_count, stmt_at, program_of, time_in}
use Rattle.model.specs.ProgramChecks.{program_with, check_of}
use Rattle.model.specs.NetlistFile.{file_check}
use Rattle.model.specs.Numbering.{finish}
use Rattle.model.specs.Calls.{short, writing, check_call, compiled_file, compile_checks, compile_call}
use Rattle.model.specs.TimeTables.{given_check}
use Rattle.model.specs.PartCalls.{Part, part_at, whole_program, beside_part, beside_whole, own_checks, nodes_up_to, nodes_fault, pulse_fault, other_fault, joint_checks, part_checks, join_checks, join_call}
use Rattle.model.specs.PartPromises.{whole_statement, joined_program, EachPart}
use Rattle.laws.specs.Refusals.Laws.{not-refused, not-false, and-true, and-of, all-accept, accept-all, refuse-unless, fault-unless, first-append, no-fault, faultless}
use Rattle.laws.specs.Lists.Same.{same_bytes, bytes_same}
use Rattle.laws.specs.Program.Passed.{Passed, passed}
use Rattle.laws.specs.Program.Sequence.{one_root, one-statement, seq-length, seq-count, seq-statement, seq-accepted}

-- Lists of checks ------------------------------------------------------------------------------------------------------------------------

pub split-accepts : (cs ds : List Checked) → first (cs ++ ds) ≡ Accepted → (first cs ≡ Accepted) × (first ds ≡ Accepted)
split-accepts [] ds e = (refl, e)
split-accepts (Ok _ ∷ cs) ds e = split-accepts cs ds e
split-accepts (Err r ∷ cs) ds e = not-refused e

-- Each part ------------------------------------------------------------------------------------------------------------------------------

-- what holds of one part, where it implies something else of it
pub each : (R T : Part → Type 0) → ((p : Part) → R p → T p) → (ps : List Part) → EachPart R ps → EachPart T ps
each R T f [] r = tt
each R T f (p ∷ ps) r = (f p r.0, each R T f ps r.1)

-- what two say
pub each_both : (R T : Part → Type 0) (ps : List Part) → EachPart R ps → EachPart T ps → EachPart (λ p. R p × T p) ps
each_both R T [] r t = tt
each_both R T (p ∷ ps) r t = ((r.0, t.0), each_both R T ps r.1 t.1)

-- and what is said of each by its place
pub each_at : (R : Part → Type 0) (ps : List Part) → ((i : ℕ) → i < length ps → R (part_at ps i)) → EachPart R ps
each_at R [] h = tt
each_at R (p ∷ ps) h = (h 0 (omega arith), each_at R ps (λ i l. h (suc i) (omega arith)))

pub at_each : (R : Part → Type 0) (ps : List Part) → EachPart R ps → (i : ℕ) → i < length ps → R (part_at ps i)
at_each R [] r i l = absurd (omega arith)
at_each R (p ∷ ps) r zero l = r.0
at_each R (p ∷ ps) r (suc i) l = at_each R ps r.1 i (le_of_suc-le-suc l)

-- its pulses are of w
abbrev pub Pulsed : ℕ → Part → Type 0
Pulsed w p = p.pulse ≡ w

module _ (options : Options) where
  -- "each part's own checks": what is given beside it, its program, its file
  abbrev pub OwnChecked : Part → Type 0
  OwnChecked p =
      (given_check (beside_part options p) ≡ Accepted) × (check_of (beside_part options p) p.program ≡ Accepted) × (file_check p.file ≡ Accepted)

  -- its program is accepted
  abbrev pub Accepts : Part → Type 0
  Accepts p = check_of (beside_part options p) p.program ≡ Accepted

  abbrev pub own_of : Part → List Checked
  own_of p = given_check (beside_part options p) ∷ check_of (beside_part options p) p.program ∷ file_check p.file ∷ []

  own-passed : (ps : List Part) → first (own_checks options ps) ≡ Accepted → EachPart OwnChecked ps
  unfolding own_checks
  own-passed [] e = tt
  own-passed (p ∷ ps) e =
      let a = split-accepts (own_of p) (own_checks options ps) e in
      let b = all-accept (own_of p) a.0 in
      ((b 0, b 1, b 2), own-passed ps a.1)

  -- and the table's, which each part has
  table-passed : (ps : List Part) → first (own_checks options ps) ≡ Accepted → options.checked ≡ Accepted
  unfolding own_checks
  table-passed [] e = all-accept (options.checked ∷ []) e 0
  table-passed (p ∷ ps) e = table-passed ps (split-accepts (own_of p) (own_checks options ps) e).1

  own-accepts : (ps : List Part) → options.checked ≡ Accepted → EachPart OwnChecked ps → first (own_checks options ps) ≡ Accepted
  unfolding own_checks
  own-accepts [] l o = accept-all (options.checked ∷ []) (l, tt)
  own-accepts (p ∷ ps) l o =
      first-append (own_of p) (own_checks options ps) (accept-all (own_of p) (o.0.0, (o.0.1, (o.0.2, tt))))
      ∙ own-accepts ps l o.1

  -- its netlist is its program's
  abbrev pub Theirs : Part → Type 0
  Theirs p = p.file ≡ compiled_file (beside_part options p) p.program

  theirs : (ps : List Part) (i : ℕ) → other_fault options ps i ≡ 0 → Theirs (part_at ps i)
  unfolding other_fault
  theirs ps i h = same_bytes _ _ (not-false _ (fault-unless _ 31 (omega arith) h))

  not-other : (ps : List Part) (i : ℕ) → Theirs (part_at ps i) → other_fault options ps i ≡ 0
  unfolding other_fault
  not-other ps i h = ap (λ (b : Bool). fault_if (not b) 31) (bytes_same _ _ h)

  same-pulse : (ps : List Part) (i : ℕ) → pulse_fault ps i ≡ 0 → (part_at ps i).pulse ≡ (part_at ps 0).pulse
  unfolding pulse_fault
  same-pulse ps i h = eqb-true _ _ (not-false _ (fault-unless _ 30 (omega arith) h))

  not-differing : (ps : List Part) (i : ℕ) → (part_at ps i).pulse ≡ (part_at ps 0).pulse → pulse_fault ps i ≡ 0
  unfolding pulse_fault
  not-differing ps i h = ap (λ (b : Bool). fault_if (not b) 30) (eq-eqb _ _ h)

  -- The whole ----------------------------------------------------------------------------------------------------------------------------

  -- with pulses of w
  module _ (w : ℕ) where
    abbrev O : Options
    O = record { checked = options.checked; times = options.times; procedures = 0; pulse = w }

    abbrev pub AcceptedWith : Part → Type 0
    AcceptedWith p = check_of O p.program ≡ Accepted

    abbrev pub Programs : List Part → Type 0
    Programs ps = EachPart AcceptedWith ps

    passes : (s : List ℕ) → check_of O s ≡ Accepted → Passed (time_in options.times) w 0 s
    unfolding check_of
    passes s e = passed (time_in options.times) w 0 s e

    record Made (p : Part) (ps : List Part) : Type 0 where
      count : node_count (whole_program (p ∷ ps)) ≡ nodes_up_to (p ∷ ps) (length ps)
      accepted : nodes_up_to (p ∷ ps) (length ps) ≤ 200 → check_of O (whole_program (p ∷ ps)) ≡ Accepted
      bytes : length (whole_program (p ∷ ps)) ≡ 4 * node_count (whole_program (p ∷ ps))
      statement : nodes_up_to (p ∷ ps) (length ps) ≤ 200 → stmt_at (whole_program (p ∷ ps)) 0 ≡ whole_statement (p ∷ ps)

    main-is : (v : ℕ) (s : List ℕ) → (program_of v 0 s).main ≡ stmt_at s 0
    main-is v s = ap (λ (S : Program). S.main) (one-statement v s)

    made : (p : Part) (ps : List Part) → Programs (p ∷ ps) → Made p ps
    unfolding whole_program nodes_up_to whole_statement
    made p [] o =
        record {
          count = refl;
          accepted = λ l. o.0;
          bytes = (passes p.program o.0).readable.bytes;
          statement = λ l. sym (main-is p.pulse p.program);
        }
    made p (q ∷ ps) o =
        let r = made q ps o.1 in
        let P = (passes p.program o.0).readable in
        let W = whole_program (q ∷ ps) in
        let c = seq-count p.program W P.bytes r.bytes in
        let n = r.count in
        record {
          count = c ∙ omega arith;
          accepted = λ l. seq-accepted O p.program W refl o.0 (r.accepted (omega arith)) (omega arith);
          bytes = seq-length p.program W P.bytes r.bytes ∙ ap (λ (n : ℕ). 4 * n) (sym c);
          statement = λ l.
              seq-statement p.program W P.bytes r.bytes P (passes W (r.accepted (omega arith))).readable
              ∙ ap₂ seq (sym (main-is p.pulse p.program)) (r.statement (omega arith));
        }

    -- nodes so far grow
    so_far : (ps : List Part) (i j : ℕ) → i ≤ j → j < length ps → nodes_up_to ps i ≤ nodes_up_to ps j
    unfolding nodes_up_to
    so_far [] i j l h = absurd (omega arith)
    so_far (p ∷ ps) zero zero l h = omega arith
    so_far (p ∷ ps) zero (suc j) l h = omega arith
    so_far (p ∷ ps) (suc i) zero l h = absurd (omega arith)
    so_far (p ∷ ps) (suc i) (suc j) l h = let r = so_far ps i j (omega arith) (omega arith) in omega arith

    -- the nodes of the whole are those of all parts
    pub few-nodes : (ps : List Part) → Programs ps → node_count (whole_program ps) ≤ 200 → (i : ℕ) → i < length ps → nodes_up_to ps i ≤ 200
    few-nodes [] o l i h = absurd (omega arith)
    few-nodes (p ∷ ps) o l i h = omega (arith, (made p ps o).count, so_far (p ∷ ps) i (length ps) (omega arith) (omega arith))

  -- What the checks leave ----------------------------------------------------------------------------------------------------------------

  pub record Passing (ps : List Part) : Type 0 where
    pub loaded : options.checked ≡ Accepted
    pub own : EachPart OwnChecked ps
    pub many : (2 ≤ length ps) × (length ps ≤ 8)
    pub few : (i : ℕ) → i < length ps → nodes_up_to ps i ≤ 200
    pub pulses : EachPart (Pulsed (part_at ps 0).pulse) ps
    pub files : EachPart Theirs ps

  pub passing : (ps : List Part) → first (part_checks options ps) ≡ Accepted → Passing ps
  unfolding nodes_fault
  passing ps e =
      let a = split-accepts (own_checks options ps) (joint_checks options ps) e in
      let c = all-accept (joint_checks options ps) a.1 in
      let n = and-true (leb 2 (length ps)) (leb (length ps) 8) (not-false _ (refuse-unless _ 29 0 (c 0))) in
      record {
        loaded = table-passed ps a.0;
        own = own-passed ps a.0;
        many = (leb-true 2 (length ps) n.0, leb-true (length ps) 8 n.1);
        few = λ i l. ltb-false 200 _ (fault-unless _ 29 (omega arith) (no-fault (nodes_fault ps) (length ps) (c 1) i l));
        pulses = each_at (Pulsed (part_at ps 0).pulse) ps (λ i l. same-pulse ps i (no-fault (pulse_fault ps) (length ps) (c 2) i l));
        files = each_at Theirs ps (λ i l. theirs ps i (no-fault (other_fault options ps) (length ps) (c 3) i l));
      }

  -- and nothing else is refused
  pub passes-all : (ps : List Part) → Passing ps → first (part_checks options ps) ≡ Accepted
  unfolding nodes_fault
  passes-all ps P =
      let n : refuse_if (not (leb 2 (length ps) && leb (length ps) 8)) 29 0 ≡ Accepted =
      ap (λ (b : Bool). refuse_if (not b) 29 0) (and-of (le-leb 2 (length ps) P.many.0) (le-leb (length ps) 8 P.many.1)) in
      first-append (own_checks options ps) (joint_checks options ps) (own-accepts ps P.loaded P.own)
      ∙ accept-all (joint_checks options ps) (
        n,
        (
          faultless (nodes_fault ps) 0 (length ps) (λ i a b. ap (λ (b : Bool). fault_if b 29) (le-ltb 200 (nodes_up_to ps i) (P.few i (omega arith)))),
          (
            faultless (pulse_fault ps) 0 (length ps) (λ i a b. not-differing ps i (at_each (Pulsed (part_at ps 0).pulse) ps P.pulses i (omega arith))),
            (faultless (other_fault options ps) 0 (length ps) (λ i a b. not-other ps i (at_each Theirs ps P.files i (omega arith))), tt),
          ),
        ),
      )

  -- The whole of parts that pass ---------------------------------------------------------------------------------------------------------

  pub programs-of : (w : ℕ) (ps : List Part) → EachPart (Pulsed w) ps → EachPart Accepts ps → Programs w ps
  programs-of w ps v o =
      each (λ p. Pulsed w p × Accepts p) (AcceptedWith w) (λ p r. subst (λ (w : ℕ). AcceptedWith w p) r.0 r.1) ps
      (each_both (Pulsed w) Accepts ps v o)

  pub record Joined (ps : List Part) : Type 0 where
    pub accepted : check_of (beside_whole options ps) (whole_program ps) ≡ Accepted
    pub few : node_count (whole_program ps) ≤ 200
    pub statement : program_of (part_at ps 0).pulse 0 (whole_program ps) ≡ joined_program ps

  joined_of : (p : Part) (ps : List Part) → Programs p.pulse (p ∷ ps) → nodes_up_to (p ∷ ps) (length ps) ≤ 200 → Joined (p ∷ ps)
  joined_of p ps o l =
      let m = made p.pulse p ps o in
      record {
        accepted = m.accepted l;
        few = omega (arith, m.count);
        statement = one-statement p.pulse (whole_program (p ∷ ps)) ∙ ap (one_root p.pulse) (m.statement l);
      }

  pub joined : (ps : List Part) → Passing ps → Joined ps
  joined [] P = absurd (omega (arith, P.many.0))
  joined (p ∷ ps) P =
      joined_of p ps (programs-of p.pulse (p ∷ ps) P.pulses (each OwnChecked Accepts (λ q o. o.1) (p ∷ ps) P.own)) (P.few (length ps) (omega arith))

  -- Compiled --------------------------------------------------------------------------------------------------------------------------

  module _ (ps : List Part) (e : first (part_checks options ps) ≡ Accepted) where
    P : Passing ps
    P = passing ps e

    abbrev W : Options
    W = beside_whole options ps

    whole-given : given_check W ≡ Accepted
    whole-given = (at_each OwnChecked ps P.own 0 (omega (arith, P.many.0))).0

    pub whole-checked : check_call W (whole_program ps) ≡ Accepted
    unfolding check_call
    whole-checked = accept-all (given_check W ∷ check_of W (whole_program ps) ∷ []) (whole-given, ((joined ps P).accepted, tt))

    pub whole_is : program_of (part_at ps 0).pulse 0 (whole_program ps) ≡ joined_program ps
    whole_is = (joined ps P).statement

    pub join-compiles : (lent : List ℕ) → join_call options ps lent ≡ compile_call W (whole_program ps) lent
    unfolding join_call compile_call check_call
    join-compiles lent =
        let file = compiled_file W (whole_program ps) in
        let s = short (length lent) (length file) ∷ [] in
        let c : first (join_checks options ps lent) ≡ first (compile_checks W (whole_program ps) lent) =
        first-append (part_checks options ps) s e
        ∙ sym (first-append (given_check W ∷ check_of W (whole_program ps) ∷ []) s (unfold check_call in whole-checked)) in
        ap (λ (c : Checked). writing c file (length file) (finish (program_with W (whole_program ps))) lent) c
