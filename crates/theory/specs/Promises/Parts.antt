-- Parts that are joined: what model/PartPromises promises of them.
-- Assumes nothing.
use Rattle.std.specs.Prelude.{◌≡◌, refl, true, not, ◌&&◌, List, [], ◌∷◌, ◌++◌, ℕ, zero, suc, eqb, ltb, leb, length, take}
use Rattle.std.proofs.Common.{sym, ap, subst, ◌∙◌, append_assoc, arith}
use Rattle.model.specs.declared.Format.{Format}
use Rattle.model.specs.declared.Format.TheVariants.{Full}
use Rattle.model.specs.declared.Options.{Options}
use Rattle.model.specs.Word.{Bytes}
use Rattle.model.specs.Refusals.{first, Checked, Accepted, Done}
use Rattle.model.specs.Procedures.{meaning}
use Rattle.model.specs.ProgramChecks.{program_with, check_of}
use Rattle.model.specs.Numbering.{finish}
use Rattle.model.specs.NetlistFile.{file_check}
use Rattle.model.specs.Text.{same}
use Rattle.model.specs.TimeTables.{Given, beside, load, given_checks, given_check}
use Rattle.model.specs.Calls.{verdict, short, check_call, compiled_file, compile_call, word_at, begin_call, run_netlist_call, run_program_call, written_verdict}
use Rattle.model.specs.RefusalPromises.{InOrder, just, Refuses, Leaves}
use Rattle.model.specs.CircuitPromises.{Published}
use Rattle.model.specs.RunPromises.{Call, Keeps, FullRuns}
use Rattle.model.specs.PartCalls.{Part, part_at, whole_program, beside_part, beside_whole, own_checks, nodes_up_to, nodes_fault, pulse_fault, other_fault, joint_checks, part_checks, whole_file, join_checks, join_call}
use Rattle.model.specs.PartPromises.{joined_program, EachPart, Joinable, own_numbers, Joins}
use Rattle.laws.specs.Refusals.Laws.{all-accept, accept-all}
use Rattle.laws.specs.Program.Joining.{split-accepts, each, each_both, at_each, OwnChecked, Accepts, Theirs, Passing, passing, passes-all, programs-of, joined, few-nodes, whole_is, whole-checked, join-compiles}
use Rattle.laws.specs.NetlistFile.Compiled.{compiled-accepted}
use Rattle.laws.specs.NetlistFile.ReadWrite.{wrote}
use Rattle.theory.specs.Refusals.Order.{gives-if, gives-fault, faulty-if, check-gives, table-gives, given-gives, file-gives, short-gives, positive, write-refuses}
use Rattle.theory.specs.Promises.Demands.{demand2, demand3}

-- Refusals in order ----------------------------------------------------------------------------------------------------------------------

own-order : (G : Given) (ps : List Part) (nss : List (List ℕ)) (cs : List Checked) → InOrder nss cs
    → InOrder (own_numbers ps ++ nss) (own_checks (load G) ps ++ cs)
unfolding own_checks load
own-order G [] nss cs o = (table-gives G, o)
own-order G (p ∷ ps) nss cs o = (
  given-gives (beside G.table 0 p.pulse),
  (check-gives (beside_part (load G) p) p.program, (file-gives p.file, own-order G ps nss cs o)),
)

own-positive : (ps : List Part) (nss : List (List ℕ)) → positive nss ≡ true → positive (own_numbers ps ++ nss) ≡ true
own-positive [] nss h = h
own-positive (p ∷ ps) nss h = own-positive ps nss h

join-refuses : (G : Given) (ps : List Part) (lent : List ℕ) →
    let c = written_verdict (join_call (load G) ps lent).answer in
    Refuses (own_numbers ps ++ (just 29 ∷ just 29 ∷ just 30 ∷ just 31 ∷ just 14 ∷ [])) (join_checks (load G) ps lent) c
    × Leaves c lent (join_call (load G) ps lent).lent
unfolding join_call nodes_fault pulse_fault other_fault
join-refuses G ps lent =
    let O = load G in
    let file = whole_file O ps in
    let nss = just 29 ∷ just 29 ∷ just 30 ∷ just 31 ∷ just 14 ∷ [] in
    let last = short (length lent) (length file) ∷ [] in
    let joint : InOrder nss (joint_checks O ps ++ last) = (
      gives-if (not (leb 2 (length ps) && leb (length ps) 8)) 29 0,
      (
        gives-fault (just 29) (nodes_fault ps) (length ps) (λ i. faulty-if (ltb 200 (nodes_up_to ps i)) 29),
        (
          gives-fault (just 30) (pulse_fault ps) (length ps) (λ i. faulty-if (not (eqb (part_at ps i).pulse (part_at ps 0).pulse)) 30),
          (
            gives-fault (just 31) (other_fault O ps) (length ps)
                (λ i. let p = part_at ps i in faulty-if (not (same p.file (compiled_file (beside_part O p) p.program))) 31),
            (short-gives (length lent) (length file), tt),
          ),
        ),
      ),
    ) in
    let o : InOrder (own_numbers ps ++ nss) (join_checks O ps lent) =
    subst (InOrder (own_numbers ps ++ nss)) (sym (append_assoc (own_checks O ps) (joint_checks O ps) last)) (own-order G ps nss _ joint) in
    write-refuses (own_numbers ps ++ nss) (join_checks O ps lent) (own-positive ps nss refl) o file (length file)
    (finish (program_with (beside_whole O ps) (whole_program ps))) lent

-- Parts that may be joined -----------------------------------------------------------------------------------------------------------------

-- of parts as they are promised
abbrev Compiled : Options → Part → Type 0
Compiled O p = (check_call (beside_part O p) p.program ≡ Accepted) × (p.file ≡ compiled_file (beside_part O p) p.program)

module _ (O : Options) where
  compiled-part : (p : Part) → OwnChecked O p × Theirs O p → Compiled O p
  unfolding check_call
  compiled-part p r = (accept-all (given_check (beside_part O p) ∷ check_of (beside_part O p) p.program ∷ []) (r.0.0, (r.0.1, tt)), r.1)

  may-join : (ps : List Part) → Passing O ps → Joinable O ps
  may-join ps P =
      record {
        number = P.many;
        compiled = each (λ p. OwnChecked O p × Theirs O p) (Compiled O) compiled-part ps (each_both (OwnChecked O) (Theirs O) ps P.own P.files);
        pulses = P.pulses;
        nodes = (joined O ps P).few;
      }

  part-checks : (p : Part) → check_call (beside_part O p) p.program ≡ Accepted
      → (given_check (beside_part O p) ≡ Accepted) × (check_of (beside_part O p) p.program ≡ Accepted)
  unfolding check_call
  part-checks p e =
      let a = all-accept (given_check (beside_part O p) ∷ check_of (beside_part O p) p.program ∷ []) e in
      (a 0, a 1)

  part-own : (p : Part) → Bytes p.program × Compiled O p → OwnChecked O p
  part-own p r =
      let a = part-checks p r.1.0 in
      (a.0, a.1, ap file_check r.1.1 ∙ compiled-accepted (beside_part O p) p.program r.0 r.1.0)

  joining : (ps : List Part) → EachPart (λ p. Bytes p.program) ps → Joinable O ps → Passing O ps
  joining ps y j =
      let own = each (λ p. Bytes p.program × Compiled O p) (OwnChecked O) part-own ps (each_both (λ p. Bytes p.program) (Compiled O) ps y j.compiled) in
      let w = (part_at ps 0).pulse in
      record {
        loaded = all-accept (given_checks (beside_whole O ps)) (unfold given_check in (at_each (OwnChecked O) ps own 0 (omega (arith, j.number.0))).0) 1;
        own = own;
        many = j.number;
        few = few-nodes O w ps (programs-of O w ps j.pulses (each (OwnChecked O) (Accepts O) (λ p o. o.1) ps own)) j.nodes;
        pulses = j.pulses;
        files = each (Compiled O) (Theirs O) (λ p c. c.1) ps j.compiled;
      }

-- a call that is done was accepted
done-accepted : (options : Options) (ps : List Part) (lent : List ℕ) (n f : ℕ) → (join_call options ps lent).answer ≡ Done n f → first (part_checks options ps) ≡ Accepted
unfolding join_call
done-accepted options ps lent n f e =
    let file = whole_file options ps in
    (split-accepts (part_checks options ps) (short (length lent) (length file) ∷ [])
    (wrote (first (join_checks options ps lent)) file (length file) (finish (program_with (beside_whole options ps) (whole_program ps))) lent n f e).accepted).0

-- Bytes --------------------------------------------------------------------------------------------------------------------------------

low-append : (s t : List ℕ) → Bytes s → Bytes t → Bytes (s ++ t)
low-append [] t h g = g
low-append (x ∷ s) t h g = elim [ zero ↦ h 0 | suc i ↦ low-append s t (λ j. h (suc j)) g i ]

seq-bytes : Bytes (19 ∷ 0 ∷ 0 ∷ 0 ∷ [])
seq-bytes zero = omega arith
seq-bytes (suc zero) = omega arith
seq-bytes (suc (suc zero)) = omega arith
seq-bytes (suc (suc (suc zero))) = omega arith
seq-bytes (suc (suc (suc (suc i)))) = omega arith

whole-bytes : (ps : List Part) → EachPart (λ p. Bytes p.program) ps → Bytes (whole_program ps)
unfolding whole_program
whole-bytes [] y = λ i. omega arith
whole-bytes (p ∷ []) y = y.0
whole-bytes (p ∷ (q ∷ ps)) y =
    low-append (19 ∷ 0 ∷ 0 ∷ 0 ∷ []) (p.program ++ whole_program (q ∷ ps)) seq-bytes
    (low-append p.program (whole_program (q ∷ ps)) y.0 (whole-bytes (q ∷ ps) y.1))

-- What is promised -------------------------------------------------------------------------------------------------------------------------

-- joining is compiling the whole
join-same : (O : Options) (ps : List Part) (lent : List ℕ) → first (part_checks O ps) ≡ Accepted
    → join_call O ps lent ≡ compile_call (beside_whole O ps) (whole_program ps) lent
join-same O ps lent e = join-compiles O ps e lent

join-published : (O : Options) (ps : List Part) (lent : List ℕ) (n f : ℕ) → EachPart (λ p. Bytes p.program) ps
    → (join_call O ps lent).answer ≡ Done n f → Published (joined_program ps) (take n (join_call O ps lent).lent) f
join-published O ps lent n f y made =
    let e = done-accepted O ps lent n f made in
    let same = join-same O ps lent e in
    rw (same, ← whole_is O ps e) (demand2.compiled (beside_whole O ps) (whole_program ps) lent n f (whole-bytes ps y) (rw same at made))

join-keeps : (F : Format) (O : Options) (ps : List Part) (for_file words for_state : List ℕ) (calls : List Call) (n f : ℕ)
    → (join_call O ps for_file).answer ≡ Done n f →
    let file = take n (join_call O ps for_file).lent in
    let begun = begin_call F file words for_state in
    verdict begun.answer.outcome ≡ Accepted → Keeps F (part_at ps 0).pulse (meaning (joined_program ps)) (word_at words) file begun calls
join-keeps F O ps for_file words for_state calls n f made =
    let e = done-accepted O ps for_file n f made in
    let same = join-same O ps for_file e in
    rw (same, ← whole_is O ps e) (λ begun. demand3.lists F (beside_whole O ps) (whole_program ps) for_file words for_state calls n f (rw same at made) begun)

join_runs : (O : Options) (ps : List Part) (for_file words for_state : List ℕ) (n f : ℕ) → (join_call O ps for_file).answer ≡ Done n f →
    let file = take n (join_call O ps for_file).lent in
    let begun = begin_call Full file words for_state in
    verdict begun.answer.outcome ≡ Accepted
    → FullRuns file for_file begun (λ k. run_program_call (beside_whole O ps) (whole_program ps) words k for_file for_state)
    (λ k. run_netlist_call file words k for_state)
join_runs O ps for_file words for_state n f made =
    let e = done-accepted O ps for_file n f made in
    let same = join-same O ps for_file e in
    rw same (λ begun. demand3.full_runs (beside_whole O ps) (whole_program ps) for_file words for_state n f (rw same at made) begun)

pub joins : Joins
joins =
    record {
      refuses = join-refuses;
      accepts = λ O ps y. (λ e. may-join O ps (passing O ps e), λ j. passes-all O ps (joining O ps y j));
      wholes = λ O ps e. (whole-checked O ps e, whole_is O ps e);
      files = join-same;
      published = join-published;
      lists = join-keeps;
      full_runs = join_runs;
    }
