-- Demand 3: a beginning and a whole list of calls on the netlist of an accepted program, with a full or a compact state, do what the program's own
-- rules say.
-- Assumes nothing.
use Rattle.std.specs.Prelude.{◌≡◌, true, false, ℕ, ◌<◌, ◌≤◌, ltb, length, drop, Result, Ok, Err}
use Rattle.std.proofs.Math.Path.{refl, ap, ap₂}
use Rattle.std.proofs.Common.{sym, ◌∙◌, arith, ltb-false}
use mathlib.Core.List.{List, ◌∷◌, map}
use Rattle.std.proofs.Math.ListN.{take}
use Rattle.std.proofs.Math.Seq.{take-append_seam}
use Rattle.model.specs.declared.Refusal.{Refusal}
use Rattle.model.specs.declared.Format.{Format}
use Rattle.model.specs.declared.Options.{Options}
use Rattle.model.specs.declared.Written.{Written}
use Rattle.model.specs.declared.Answer.{Answer}
use Rattle.model.specs.Refusals.{first, Checked, Accepted, Done}
use Rattle.model.specs.Program.{Stmt, Program, program_of}
use Rattle.model.specs.Procedures.{meaning}
use Rattle.model.specs.ProgramChecks.{program_with}
use Rattle.model.specs.Rules.{imperative, Store, run}
use Rattle.model.specs.Circuit.{Netlist, Sig, Values, Obeys, memories}
use Rattle.model.specs.Numbering.{netlist, finish}
use Rattle.model.specs.NetlistFile.{file_check, cells_of, net_of, finish_of, pulse_of}
use Rattle.model.specs.State.{state_size, begin_state}
use Rattle.model.specs.Calls.{Returned, verdict, check_call, compiled_file, compile_checks, compile_call, word_at, refused_answer, shows, running, is_too_long, begin_checks, begin_call}
use Rattle.model.specs.CircuitPromises.{ended_if}
use Rattle.model.specs.RunPromises.{Call, replay, Seen, seen, seen_of, Stand, stand, Runs, due_at, expected, stands, starts_of, Along, Behaves, Tells, Unchanged, Keeps}
use Rattle.laws.specs.Refusals.Laws.{not-refused, all-accept, refuse-unless, accept-take}
use Rattle.laws.specs.Program.Passed.{accepted-pulse}
use Rattle.laws.specs.Program.Admitted.{program-admitted, meaning-timed}
use Rattle.laws.specs.Numbering.Parts.{net-length}
use Rattle.laws.specs.NetlistFile.Passed.{net-ordered, net-passed, file-passed, finish-within}
use Rattle.laws.specs.NetlistFile.Files.{cells-written, pulse-written, finish-written}
use Rattle.laws.specs.NetlistFile.ReadWrite.{Wrote, wrote}
use Rattle.theory.specs.Rules.Relation.{ends-once}
use Rattle.theory.specs.Circuit.Exists.{solution, solution-obeys}
use Rattle.theory.specs.State.Holding.{Holding}
use Rattle.theory.specs.State.Begin.{begin-holds, begin-length}
use Rattle.theory.specs.Promises.Due.{run-first}
use Rattle.theory.specs.Promises.Stands.{Given, given-first}
use Rattle.theory.specs.Promises.Served.{OfProgram, published, served}
use Rattle.theory.specs.Promises.Replay.{at0, as_called, Good, good, answer-seen}
use Rattle.theory.specs.Promises.Behaves.{decides, due-exactly, Stood, shows-memories, behaves, tells-refused, tells-answer}

-- Calls that are not refused -----------------------------------------------------------------------------------------------------------

-- a run that was not refused was accepted
pub ran : (F : Format) (c : Checked) (file s : List ℕ) (n : ℕ) (lent : List ℕ) → verdict (running F c file s n lent).answer.outcome ≡ Accepted → c ≡ Accepted
unfolding running verdict
ran F (Ok _) file s n lent e = refl
ran F (Err r) file s n lent e = e

-- what compiling wrote
module _ (options : Options) (program for_file : List ℕ) (n f : ℕ) (done : (compile_call options program for_file).answer ≡ Done n f) where
  pub compiled : Wrote (first (compile_checks options program for_file)) (compiled_file options program) (length (compiled_file options program)) (finish (program_with options program)) for_file n f
  unfolding compile_call
  compiled =
      wrote (first (compile_checks options program for_file)) (compiled_file options program) (length (compiled_file options program)) (finish (program_with options program)) for_file n f done

  pub program-accepted : check_call options program ≡ Accepted
  unfolding check_call
  program-accepted = accept-take 2 (compile_checks options program for_file) compiled.accepted

  pub file-fits : ltb (length for_file) (length (compiled_file options program)) ≡ false
  file-fits = refuse-unless _ 14 0 (all-accept (compile_checks options program for_file) compiled.accepted 2)

  pub file-made : take n (compile_call options program for_file).lent ≡ compiled_file options program
  unfolding compile_call
  file-made =
      ap₂ (λ (k : ℕ) (r : Returned (Result Written Refusal)). take k r.lent) compiled.count compiled.told
      ∙ take-append_seam (compiled_file options program) (drop (length (compiled_file options program)) for_file)

-- A beginning --------------------------------------------------------------------------------------------------------------------------

-- a beginning that was not refused, with the file of program S
pub record Begun (F : Format) (S : Program) (file words lent : List ℕ) : Type 0 where
  pub of_program : OfProgram S file
  pub fits : is_too_long F S.pulse ≡ false
  pub words-fit : ltb (length words) 544 ≡ false
  pub state-fits : ltb (length lent) (state_size F (net_of file)) ≡ false
  pub is :
      let s = begin_state F (net_of file) (word_at words) lent in
      begin_call F file words lent ≡ record { answer = shows F file s 1; lent = s }

module _ (F : Format) (options : Options) (program file words lent : List ℕ) (accepted : check_call options program ≡ Accepted)
    (e : file ≡ compiled_file options program) (begun : verdict (begin_call F file words lent).answer.outcome ≡ Accepted) where
  abbrev S : Program
  S = program_with options program

  checks : first (begin_checks F file words lent) ≡ Accepted
  unfolding begin_call
  checks = ran F (first (begin_checks F file words lent)) file _ 1 lent begun

  read : file_check file ≡ Accepted
  read = all-accept (begin_checks F file words lent) checks 0

  some : 0 < length (netlist S)
  some = omega (arith, net-length S)

  cells_are : cells_of file ≡ netlist S
  cells_are = ap cells_of e ∙ cells-written options.pulse (netlist S) (finish S) some

  pulse-is : pulse_of file ≡ S.pulse
  unfolding program_of
  pulse-is =
      ap (λ (s : List ℕ). pulse_of s) e ∙ pulse-written options.pulse (netlist S) (finish S) some (accepted-pulse options program accepted).0

  pub begins : Begun F S file words lent
  begins =
      record {
        of_program =
            record {
              admitted = program-admitted options program accepted;
              of_file =
                  record {
                    accepted = read;
                    ordered = net-ordered (cells_of file) (finish_of file) (file-passed file read).cells;
                    pulse-is = pulse-is;
                    wire = finish-within file read;
                  };
              cells_are = cells_are;
              finish-is = ap finish_of e ∙ finish-written options.pulse (netlist S) (finish S) some;
              sixteen = ap memories (sym cells_are) ∙ (net-passed (cells_of file) (finish_of file) (file-passed file read).cells).sixteen;
            };
        fits = sym (ap (is_too_long F) pulse-is) ∙ refuse-unless (is_too_long F (pulse_of file)) 27 0 (all-accept (begin_checks F file words lent) checks 1);
        words-fit = refuse-unless _ 14 0 (all-accept (begin_checks F file words lent) checks 2);
        state-fits = refuse-unless _ 14 0 (all-accept (begin_checks F file words lent) checks 3);
        is = unfold begin_call running in
            ap (λ (c : Checked). running F c file (begin_state F (net_of file) (word_at words) lent) 1 lent) checks;
      }

-- A list of calls ----------------------------------------------------------------------------------------------------------------------

module _ (F : Format) (S : Program) (file words lent : List ℕ) (B : Begun F S file words lent) where
  abbrev X : OfProgram S file
  X = B.of_program

  abbrev P : Stmt
  P = meaning S

  abbrev σ : Store
  σ = word_at words

  abbrev w : ℕ
  w = S.pulse

  abbrev net : Netlist
  net = net_of file

  abbrev rules : Runs
  rules = record { within = λ τ k. run (imperative S.pulse) k P τ; anew = λ τ. τ }

  abbrev size : ℕ
  size = state_size F net

  abbrev state : List ℕ
  state = begin_state F net σ lent

  pub room : size ≤ length lent
  room = ltb-false (length lent) size B.state-fits

  -- with any values that obey the equations
  module _ (starts : Sig) (W : Values) (o : Obeys net starts σ W) where
    module _ (calls : List Call) (given : Given w rules size starts (stand 0 σ 0) calls) (pulse : starts 0 ≡ true) where
      pub stood : Stood F S file X starts σ W o (stand 0 σ 0) calls
      stood = record { fits = B.fits; began = run-first S X.admitted starts σ W (published S file X starts σ W o) pulse; given = given }

      pub holding : Holding F net σ W 0 state
      holding = begin-holds F net X.of_file.ordered starts σ W o pulse lent room

      pub long : state_size F net ≤ length state
      long = rw (begin-length F net X.of_file.ordered starts σ W o pulse lent room) room

      module _ (Q : Stand → Returned Answer → Type 0)
          (refusing : (st : Stand) (cs : List Call) → Stood F S file X starts σ W o st cs → (k : ℕ) (b : List ℕ) → st.now ≤ 1000000 → Holding F net σ W st.now b
          → Q st (record { answer = refused_answer (at0 k); lent = b }))
          (answering : (st : Stand) (cs : List Call) → Stood F S file X starts σ W o st cs → (s b : List ℕ) (n : ℕ) → st.now ≤ 1000000 → Holding F net σ W st.now s
          → Holding F net σ W st.now b → Q st (record { answer = shows F file s n; lent = b })) where
        goes : Good F (imperative S.pulse) S.pulse (meaning S) (λ τ. τ) file X.of_file starts σ W o (served S file X starts σ W o F) (as_called F file) Q refusing answering (stand 0 σ 0) state calls (replay F file state calls)
        goes =
            good F (imperative S.pulse) S.pulse (meaning S) (λ τ. τ) file X.of_file starts σ W o (served S file X starts σ W o F) (as_called F file) Q refusing answering calls (stand 0 σ 0) state stood holding long
            (omega arith)

        pub along : Along Q (stand 0 σ 0 ∷ stands w rules size (stand 0 σ 0) calls)
            (begin_call F file words lent ∷ replay F file (begin_call F file words lent).lent calls)
        along = rw B.is (answering (stand 0 σ 0) calls stood state state 1 (omega arith) holding holding, goes.every)

        outcomes : map seen_of (begin_call F file words lent ∷ replay F file (begin_call F file words lent).lent calls)
            ≡ seen (ended_if (due_at w rules (stand 0 σ 0) 0)) 0 1 ∷ expected w rules size (stand 0 σ 0) calls
        outcomes =
            rw B.is
            (ap₂ (λ (x : Seen) (l : List Seen). x ∷ l)
            (answer-seen F (imperative S.pulse) S.pulse (meaning S) (λ τ. τ) file X.of_file starts σ W o (served S file X starts σ W o F) (as_called F file) Q refusing answering (stand 0 σ 0) calls stood state state 1
            (omega arith) holding)
            goes.outcomes)

        unchanged : Unchanged (begin_call F file words lent).lent (replay F file (begin_call F file words lent).lent calls)
        unchanged = rw B.is goes.unchanged

  -- the start instants of a list, and the values then
  module _ (calls : List Call) where
    abbrev pub starts : Sig
    starts = starts_of (stand 0 σ 0 ∷ stands w rules size (stand 0 σ 0) calls)

    pub pulse : starts 0 ≡ true
    unfolding starts_of
    pulse = refl

    pub given : Given w rules size starts (stand 0 σ 0) calls
    given = given-first w rules size σ calls

    pub W : Values
    W = solution net starts σ

    pub obeys : Obeys net starts σ W
    unfolding W
    obeys = solution-obeys net starts σ X.of_file.ordered

    tells : Along (Tells F w P file) (stand 0 σ 0 ∷ stands w rules size (stand 0 σ 0) calls)
        (begin_call F file words lent ∷ replay F file (begin_call F file words lent).lent calls)
    tells =
        along starts W obeys calls given pulse (Tells F w P file) (λ st cs N k b l. tells-refused F S file X starts σ W obeys st cs N k b)
        (λ st cs N s b n l. tells-answer F S file X starts σ W obeys st cs N s b n)

    circuit : (W : Values) → Obeys net starts σ W
        → Along (Behaves F w P σ file rules starts W) (stand 0 σ 0 ∷ stands w rules size (stand 0 σ 0) calls)
        (begin_call F file words lent ∷ replay F file (begin_call F file words lent).lent calls)
    circuit W o =
        along starts W o calls given pulse (Behaves F w P σ file rules starts W) (λ st cs N k b l H. behaves F S file X starts σ W o st cs N _ H (λ z. unfold verdict in not-refused z))
        (λ st cs N s b n l H K. behaves F S file X starts σ W o st cs N _ K (λ z. shows-memories F S file X starts σ W o st cs N s n H))

    pub told : map seen_of (begin_call F file words lent ∷ replay F file (begin_call F file words lent).lent calls)
        ≡ seen (ended_if (due_at w rules (stand 0 σ 0) 0)) 0 1 ∷ expected w rules size (stand 0 σ 0) calls
    told = outcomes starts W obeys calls given pulse (λ st r. Unit {0}) (λ st cs N k b l H. tt) (λ st cs N s b n l H K. tt)

    left : Unchanged (begin_call F file words lent).lent (replay F file (begin_call F file words lent).lent calls)
    left = unchanged starts W obeys calls given pulse (λ st r. Unit {0}) (λ st cs N k b l H. tt) (λ st cs N s b n l H K. tt)

  -- the whole promise
  pub keeps : (calls : List Call) → Keeps F w P σ file (begin_call F file words lent) calls
  keeps calls =
      record {
        rules = rules;
        decides = decides (imperative S.pulse) P (meaning-timed S X.admitted);
        present = λ τ. refl;
        once = ends-once (imperative S.pulse) P (meaning-timed S X.admitted);
        due = due-exactly w P (meaning-timed S X.admitted);
        outcomes = told calls;
        tells = tells calls;
        circuit = circuit calls;
        unchanged = left calls;
      }
