-- Parts put in one after another: what is left of their sequence, part by part, and that it comes out as the compiler's walk of the whole.
-- Assumes nothing.
use mathlib.Core.Path.{◌≡◌, refl, sym, ap, ap₂, subst, ◌∙◌}
use mathlib.Core.Bool.{false}
use mathlib.Core.List.{List, [], ◌∷◌, ◌++◌, append-nil}
use Prim.Native.Nat.{ℕ, ◌+◌, ◌<◌, ◌≤◌}
use native.Mathlib.Omega.{arith}
use native.Mathlib.Nat.{add-zero}
use lib.ListN.{length, get_or, take, drop}
use lib.Seq.{sets}
use Rattle.model.specs.declared.Cell.{Cell}
use Rattle.model.specs.declared.Options.{Options}
use Rattle.model.specs.Refusals.{first, Accepted}
use Rattle.model.specs.Program.{Code, ok, seq, Program, roots, stmt_at, program_of}
use Rattle.model.specs.ProgramChecks.{program_with, check_of}
use Rattle.model.specs.TimeTables.{given_check}
use Rattle.model.specs.Numbering.{Wires, memory_wires, delay_count, exit_count, walk_count, finish_wire, delays, walk, or_count, wires_of, root_delay_count, root_walk_count, netlist, finish}
use Rattle.model.specs.NetlistFile.{file_check, cells_of, finish_of, pulse_of}
use Rattle.model.specs.Calls.{check_call, compiled_file}
use Rattle.model.specs.PartCalls.{Part, part_at, parts_in, whole_program, beside_part, beside_whole, part_checks}
use Rattle.model.specs.PartPromises.{part_statement, whole_statement, joined_program, EachPart}
use Rattle.laws.specs.Refusals.Laws.{accept-all}
use Rattle.laws.specs.Program.Fit.{Formed, Earlier, exits}
use Rattle.laws.specs.Program.Passed.{Readable, accepted, accepted-pulse}
use Rattle.laws.specs.Program.Accepted.{program-fit}
use Rattle.laws.specs.Program.Enclosed.{root_at, root-enclosed, root-earlier}
use Rattle.laws.specs.Program.Size.{few-nodes}
use Rattle.laws.specs.Program.Sequence.{one_root, one-statement}
use Rattle.laws.specs.Program.Joining.{each, each_both, Pulsed, OwnChecked, Theirs, passing, whole-checked, whole_is}
use Rattle.laws.specs.Numbering.Count.{nodes, root_nodes, fits}
use Rattle.laws.specs.NetlistFile.Files.{finish-written, pulse-written, cells-written}
use Rattle.compiler.specs.declared.walk.Place.{Place}
use Rattle.compiler.specs.Walk.{place, assignments, all_exits, marks_of, Ready, Done}
use Rattle.compiler.specs.Writes.{both}
use Rattle.compiler.specs.Whole.{Fitting, root_assignments, root_marks, behind_arrays, finish_at, RootsDone}
use Rattle.compiler.proofs.Roots.{earlier_more}
use Rattle.compiler.proofs.Stmts.{ok-done, seq-done}
use Rattle.compiler.proofs.Parts.{seq-first, seq-second}
use Rattle.joiner.specs.Stands.{Compiled, Placeable, PartsReady}
use Rattle.joiner.proofs.Regions.{one-delays, one-walk, one-finish}
use Rattle.joiner.proofs.Walking.{no-exits}

-- What is known of a part -------------------------------------------------------------------------------------------------------------------

-- its statement; its file is its program's, with pulses of v
pub record Known (v : ℕ) (p : Part) : Type 0 where
  pub readable : Readable 0 p.program
  pub checked : file_check p.file ≡ Accepted
  pub pulse : pulse_of p.file ≡ v
  pub compiled : Compiled v (stmt_at p.program 0) p.file
  pub enclosed : exit_count (stmt_at p.program 0) ≡ 0

-- which is nothing of its pulse length
known_with : {v : ℕ} {program file : List ℕ} {w u : ℕ} → Known v (record { program = program; file = file; pulse = w })
    → Known v (record { program = program; file = file; pulse = u })
known_with h = record { readable = h.readable; checked = h.checked; pulse = h.pulse; compiled = h.compiled; enclosed = h.enclosed }

-- of an accepted program without procedures
module _ (options : Options) (s : List ℕ) (none : options.procedures ≡ 0) (e : check_call options s ≡ Accepted) where
  abbrev P : Code
  P = stmt_at s 0

  alone : program_with options s ≡ one_root options.pulse P
  alone = ap (λ (k : ℕ). program_of options.pulse k s) none ∙ one-statement options.pulse s

  first-root : root_at (program_with options s) 0 ≡ P
  first-root = ap (λ (S : Program). root_at S 0) alone

  some-root : 0 < length (roots (program_with options s))
  some-root = rw alone (omega arith)

  statement-formed : Formed P
  statement-formed = subst (λ (Q : Code). Formed Q) first-root (program-fit options s e 0).formed

  statement-earlier : Earlier 0 P
  statement-earlier = subst (λ (Q : Code). Earlier 0 Q) first-root (root-earlier options s e 0 some-root)

  statement-closed : exit_count P ≡ 0
  statement-closed = no-exits P (subst (λ (Q : Code). exits Q ≡ false) first-root (root-enclosed options s e 0 some-root).1)

  statement-nodes : nodes P ≤ 200
  unfolding root_nodes
  statement-nodes = let h = rw alone at (few-nodes options s e) in omega (arith, h)

  -- and of its file
  file-known : (file : List ℕ) → file ≡ compiled_file options s → file_check file ≡ Accepted → Known options.pulse (record { program = s; file = file; pulse = options.pulse })
  file-known file is good =
      let S = program_with options s in
      let w = options.pulse in
      let some : 0 < length (netlist S) = omega (arith, (fits S (few-nodes options s e)).0) in
      record {
        readable = subst (λ (k : ℕ). Readable k s) none (accepted options s e).readable;
        checked = good;
        pulse = ap pulse_of is ∙ pulse-written w (netlist S) (finish S) some (accepted-pulse options s e).0;
        compiled =
            record {
              formed = statement-formed;
              uncalled = statement-earlier;
              cells = ap cells_of is ∙ cells-written w (netlist S) (finish S) some ∙ ap netlist alone;
              finishes = ap finish_of is ∙ finish-written w (netlist S) (finish S) some ∙ ap finish alone;
            };
        enclosed = statement-closed;
      }

known-part : (options : Options) (v : ℕ) (p : Part) → Pulsed v p × (OwnChecked options p × Theirs options p) → Known v p
unfolding check_call
known-part options v p h =
    subst (λ (v : ℕ). Known v p) h.0
    (let O = beside_part options p in
    file-known O p.program refl (accept-all (given_check O ∷ check_of O p.program ∷ []) (h.1.0.0, (h.1.0.1, tt))) p.file h.1.1 h.1.0.2)

module _ (options : Options) (ps : List Part) (e : first (part_checks options ps) ≡ Accepted) where
  abbrev width : ℕ
  width = (part_at ps 0).pulse

  pub known-parts : EachPart (Known width) ps
  known-parts =
      let P = passing options ps e in
      each (λ p. Pulsed width p × (OwnChecked options p × Theirs options p)) (Known width) (known-part options width) ps
      (each_both (Pulsed width) (λ p. OwnChecked options p × Theirs options p) ps P.pulses (each_both (OwnChecked options) (Theirs options) ps P.own P.files))

  -- the statement of the whole
  abbrev whole : Code
  whole = whole_statement ps

  abbrev O : Options
  O = beside_whole options ps

  root-whole : stmt_at (whole_program ps) 0 ≡ whole
  root-whole = ap (λ (S : Program). S.main) (sym (one-statement width (whole_program ps)) ∙ whole_is options ps e)

  pub whole-formed : Formed whole
  whole-formed = subst (λ (Q : Code). Formed Q) root-whole (statement-formed O (whole_program ps) refl (whole-checked options ps e))

  pub whole-earlier : Earlier 0 whole
  whole-earlier = subst (λ (Q : Code). Earlier 0 Q) root-whole (statement-earlier O (whole_program ps) refl (whole-checked options ps e))

  pub whole-nodes : nodes whole ≤ 200
  whole-nodes = subst (λ (Q : Code). nodes Q ≤ 200) root-whole (statement-nodes O (whole_program ps) refl (whole-checked options ps e))

  pub whole-fitting : Fitting (joined_program ps)
  unfolding root_nodes
  whole-fitting = record { formed = (whole-formed, tt); nodes = omega (arith, whole-nodes) }

-- What is left --------------------------------------------------------------------------------------------------------------------------------

-- the parts' statements in sequence, with nothing behind the last
unfoldable pub chained : List Part → Code
chained [] = ok
chained (p ∷ ps) = seq (stmt_at p.program 0) (chained ps)

-- statements with the same cells and marks
record Alike (P Q : Code) : Type 0 where
  delay-cells : (v s d c : ℕ) → delays v P s d c ≡ delays v Q s d c
  walk-cells : (M : Wires) (F : ℕ → ℕ) (s d c : ℕ) → walk M F P s d c ≡ walk M F Q s d c
  marks : (d c : ℕ) → marks_of P d c ≡ marks_of Q d c
  finish : (s d c : ℕ) → finish_wire P s d c ≡ finish_wire Q s d c
  delay-count : delay_count P ≡ delay_count Q
  walk-count : walk_count P ≡ walk_count Q
  mark-count : assignments P ≡ assignments Q
  exit-count : exit_count P ≡ exit_count Q
  all-exits : all_exits P ≡ all_exits Q

alike-last : (P : Code) → Alike (seq P ok) P
unfolding delays walk marks_of finish_wire delay_count walk_count assignments exit_count all_exits
alike-last P =
    record {
      delay-cells = λ v s d c. append-nil (delays v P s d c);
      walk-cells = λ M F s d c. append-nil (walk M F P s d c);
      marks = λ d c. append-nil (marks_of P d c);
      finish = λ s d c. refl;
      delay-count = omega arith;
      walk-count = omega arith;
      mark-count = omega arith;
      exit-count = omega arith;
      all-exits = omega arith;
    }

alike-more : (P : Code) {Q R : Code} → Alike Q R → Alike (seq P Q) (seq P R)
unfolding delays walk marks_of finish_wire delay_count walk_count assignments exit_count all_exits
alike-more P {Q} {R} h =
    record {
      delay-cells = λ v s d c. ap (λ (l : List Cell). delays v P s d c ++ l) (h.delay-cells v (finish_wire P s d c) (d + delay_count P) (c + walk_count P));
      walk-cells = λ M F s d c. ap (λ (l : List Cell). walk M F P s d c ++ l) (h.walk-cells M F (finish_wire P s d c) (d + delay_count P) (c + walk_count P));
      marks = λ d c. ap (λ (l : List ℕ). marks_of P d c ++ l) (h.marks (d + delay_count P) (c + walk_count P));
      finish = λ s d c. h.finish (finish_wire P s d c) (d + delay_count P) (c + walk_count P);
      delay-count = omega (arith, h.delay-count);
      walk-count = omega (arith, h.walk-count);
      mark-count = omega (arith, h.mark-count);
      exit-count = omega (arith, h.exit-count);
      all-exits = omega (arith, h.all-exits);
    }

statement-is : (p : Part) → stmt_at p.program 0 ≡ part_statement p
statement-is p = sym (ap (λ (S : Program). S.main) (one-statement p.pulse p.program))

alike : (p : Part) (ps : List Part) → Alike (chained (p ∷ ps)) (whole_statement (p ∷ ps))
unfolding chained whole_statement
alike p [] = subst (λ (P : Code). Alike (seq P ok) (part_statement p)) (sym (statement-is p)) (alike-last (part_statement p))
alike p (q ∷ ps) = subst (λ (P : Code). Alike (seq P (chained (q ∷ ps))) (whole_statement (p ∷ (q ∷ ps)))) (sym (statement-is p)) (alike-more (part_statement p) (alike q ps))

formed-chain : (v : ℕ) (ps : List Part) → EachPart (Known v) ps → Formed (chained ps) × Earlier 8 (chained ps)
unfolding chained
formed-chain v [] h = (tt, tt)
formed-chain v (p ∷ ps) h =
    let r = formed-chain v ps h.1 in
    let C = h.0.compiled in
    ((C.formed, r.0), (earlier_more 0 8 (omega arith) (stmt_at p.program 0) C.uncalled, r.1))

ready-alike : {M n : ℕ} {P Q : Code} {p : Place} → Alike P Q → Formed P → Earlier 8 P → Ready M Q p n → Ready M P p n
ready-alike h w u r =
    record {
      formed = w;
      earlier = u;
      memory = r.memory;
      apart = omega (arith, h.delay-count, r.apart);
      room = omega (arith, h.walk-count, r.room);
      small = r.small;
      marks = omega (arith, h.mark-count, r.marks);
      outs = omega (arith, h.all-exits, r.outs);
    }

done-alike : {v M : ℕ} {F : ℕ → ℕ} {P Q : Code} {p r : Place} {b a k l : List ℕ} → Alike P Q → Done v M F P p b a k l r → Done v M F Q p b a k l r
done-alike {v} {M} {F} {p = p} {b = b} {k = k} h u =
    record {
      cells =
          u.cells
          ∙ ap₂ (λ (D W : List Cell). both p.delay D p.cell W b) (h.delay-cells v p.wire p.delay p.cell)
          (h.walk-cells (memory_wires M) F p.wire p.delay p.cell);
      marks = u.marks ∙ ap (sets k p.mark) (h.marks p.delay p.cell);
      wire = u.wire ∙ h.finish p.wire p.delay p.cell;
      delay = omega (arith, u.delay, h.delay-count);
      cell = omega (arith, u.cell, h.walk-count);
      mark = omega (arith, u.mark, h.mark-count);
      out = omega (arith, u.out, h.exit-count);
    }

-- the walk of one statement is that of a program's one root
roots-of : {v M : ℕ} {P : Code} {before after marked remarked : List ℕ} {r : Place} → Earlier 0 P
    → ((F : ℕ → ℕ) → Done v M F P (place 0 3 (behind_arrays M) 0 0) before after marked remarked r) → RootsDone (one_root v P) [] M before after marked remarked r
unfolding root_marks root_assignments root_delay_count root_walk_count or_count wires_of
roots-of {v} {M} {P} {before} {marked = marked} u D =
    let c = behind_arrays M in
    let d = D (finish_at (one_root v P) [] M) in
    record {
      cells = d.cells ∙ sym (ap₂ (λ (D W : List Cell). both 3 D c W before) (one-delays v P u c) (one-walk v P u c (memory_wires M) (finish_at (one_root v P) [] M)));
      marks = d.marks ∙ ap (sets marked 0) (sym (append-nil (marks_of P 3 (c + 0)) ∙ ap (marks_of P 3) (add-zero c)));
      wire = d.wire ∙ sym (ap (λ (l : List ℕ). get_or l 0 1) (one-finish v P u c));
      delay = omega (arith, d.delay);
      cell = omega (arith, d.cell);
      mark = omega (arith, d.mark);
    }

-- the parts `rest` are left, and the walk is at place p of the list of cells
pub record Going (v M : ℕ) (ps : List Part) (before marked : List ℕ) (rest : List Part) (cells marks : List ℕ) (p : Place) : Type 0 where
  pub known : EachPart (Known v) rest
  pub same : length cells ≡ length before
  pub ready : Ready M (chained rest) p (length before)
  pub goes : (F : ℕ → ℕ) (after remarked : List ℕ) (r : Place) → Done v M F (chained rest) p cells after marks remarked r
      → Done v M F (chained ps) (place 0 3 (behind_arrays M) 0 0) before after marked remarked r

alike-whole : (options : Options) (ps : List Part) → first (part_checks options ps) ≡ Accepted → Alike (chained ps) (whole_statement ps)
alike-whole options [] e = absurd (omega (arith, (passing options [] e).many.0))
alike-whole options (p ∷ ps) e = alike p ps

module _ (before : List ℕ) {options : Options} {ps : List Part} {M : ℕ} (R : PartsReady options ps M (length before)) where
  abbrev v : ℕ
  v = (part_at ps 0).pulse

  e : first (part_checks options ps) ≡ Accepted
  e = R.given.accepted

  pub going-first : (marked : List ℕ) → Going v M ps before marked ps before marked (place 0 3 (behind_arrays M) 0 0)
  going-first marked =
      let k = known-parts options ps e in
      let f = formed-chain v ps k in
      record { known = k; same = refl; ready = ready-alike (alike-whole options ps e) f.0 f.1 R.ready; goes = λ F after remarked r D. D }

  module _ {marked cells marks : List ℕ} {p : Place} {left : List Part} (G₀ : Going v M ps before marked left cells marks p) where
    module _ {here : Part} {rest : List Part} (is : left ≡ here ∷ rest) where
      G : Going v M ps before marked (here ∷ rest) cells marks p
      G = subst (λ (l : List Part). Going v M ps before marked l cells marks p) is G₀

      ready-all : Ready M (seq (stmt_at here.program 0) (chained rest)) p (length before)
      unfolding chained
      ready-all = G.ready

      pub part-placeable : Placeable M here.program here.file p (length cells)
      part-placeable =
          let k = G.known.0 in
          record {
            readable = k.readable;
            accepted = k.checked;
            compiled = subst (λ (v : ℕ). Compiled v (stmt_at here.program 0) here.file) (sym k.pulse) k.compiled;
            enclosed = k.enclosed;
            ready = subst (λ (n : ℕ). Ready M (stmt_at here.program 0) p n) (sym G.same) (seq-first ready-all);
          }

      pub going_next : {after remarked : List ℕ} {q : Place} → length after ≡ length cells
          → ((F : ℕ → ℕ) → Done (pulse_of here.file) M F (stmt_at here.program 0) p cells after marks remarked q)
          → Going v M ps before marked rest after remarked q
      unfolding chained
      going_next {after} {remarked} {q} l u₀ =
          let u : (F : ℕ → ℕ) → Done v M F (stmt_at here.program 0) p cells after marks remarked q =
          λ F. subst (λ (v : ℕ). Done v M F (stmt_at here.program 0) p cells after marks remarked q) G.known.0.pulse (u₀ F) in
          record {
            known = G.known.1;
            same = l ∙ G.same;
            ready = seq-second ready-all (u (λ f. 0));
            goes = λ F end marked' r D. G.goes F end marked' r (seq-done ready-all.apart (u F) D);
          }

    -- all parts are put in
    pub going_end : left ≡ [] → RootsDone (joined_program ps) [] M before cells marked marks p
    unfolding chained root_marks root_assignments
    going_end none =
        let G = subst (λ (l : List Part). Going v M ps before marked l cells marks p) none G₀ in
        roots-of (whole-earlier options ps e) (λ F. done-alike (alike-whole options ps e) (G.goes F cells marks p ok-done))

-- Pulse lengths aside -----------------------------------------------------------------------------------------------------------------------------

-- what is known of parts, and their statements, are the same whatever pulse lengths they are lent with
known-any : (v : ℕ) (lengths pulses others s : List ℕ) → EachPart (Known v) (parts_in lengths pulses s) → EachPart (Known v) (parts_in lengths others s)
unfolding parts_in
known-any v [] pulses others s h = h
known-any v (n ∷ []) pulses others s h = (known_with h.0, tt)
known-any v (n ∷ (m ∷ lengths)) pulses others s h = (known_with h.0, known-any v lengths (drop 1 pulses) (drop 1 others) (drop (n + m) s) h.1)

chained-any : (lengths pulses others s : List ℕ) → chained (parts_in lengths pulses s) ≡ chained (parts_in lengths others s)
unfolding parts_in chained
chained-any [] pulses others s = refl
chained-any (n ∷ []) pulses others s = refl
chained-any (n ∷ (m ∷ lengths)) pulses others s =
    ap (seq (stmt_at (take n s) 0)) (chained-any lengths (drop 1 pulses) (drop 1 others) (drop (n + m) s))

-- so that the walk of parts with the first goes along those with the others
module _ (lengths pulses s others before : List ℕ) {options : Options} {M : ℕ} (R : PartsReady options (parts_in lengths pulses s) M (length before)) where
  abbrev ps : List Part
  ps = parts_in lengths pulses s

  pub going-lent : (marked : List ℕ)
      → Going (part_at ps 0).pulse M ps before marked (parts_in lengths others s) before marked (place 0 3 (behind_arrays M) 0 0)
  going-lent marked =
      let G = going-first before R marked in
      let e = chained-any lengths pulses others s in
      let at = place 0 3 (behind_arrays M) 0 0 in
      record {
        known = known-any (part_at ps 0).pulse lengths pulses others s G.known;
        same = G.same;
        ready = subst (λ (P : Code). Ready M P at (length before)) e G.ready;
        goes = λ F after remarked r D.
            G.goes F after remarked r (subst (λ (P : Code). Done (part_at ps 0).pulse M F P at before after marked remarked r) (sym e) D);
      }
