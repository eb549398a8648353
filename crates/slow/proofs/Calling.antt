-- The call: which refusal comes first, what a run that is not refused has, and what the call tells. Assumes nothing.
use Rattle.std.specs.Prelude.{Err}
use mathlib.Core.List.{List, [], ◌∷◌, ◌++◌}
use mathlib.Core.Path.{◌≡◌, refl, sym, ◌∙◌, ap}
use Prim.Native.Nat.{ℕ, ◌-◌, ◌*◌, ◌<◌, ◌≤◌}
use native.Mathlib.Omega.{arith}
use borrow.Author.Tests.{lt-ltb, le-ltb, ltb-false}
use lib.Dec.{ltb}
use lib.ListN.{length, drop, replicate, length-append, length-replicate, length-drop}
use lib.Seq.{sets, drop-append_seam}
use Rattle.model.specs.declared.Refusal.{Refusal}
use Rattle.model.specs.declared.Options.{Options}
use Rattle.model.specs.Refusals.{refuse, first, Checked, Accepted}
use Rattle.model.specs.Program.{Program, program_of, roots}
use Rattle.model.specs.ProgramChecks.{program_with, check_of}
use Rattle.model.specs.Numbering.{netlist, finish, data_at}
use Rattle.model.specs.Circuit.{memories, level}
use Rattle.model.specs.Word.{Bytes}
use Rattle.model.specs.NetlistFile.{pulse_wrong}
use Rattle.model.specs.TimeTables.{given_check}
use Rattle.model.specs.Calls.{short, over_budget, check_call, refused_answer, overwrite}
use Rattle.model.specs.Gates.{end_at, slow_answer, value_bytes, slow_size, with_pulse, slow_program, slow_run_checks, slow_running, slow_run_call}
use Rattle.laws.specs.Refusals.Laws.{all-accept, refuse-unless, first_one, first-take, first-drop, accept-take}
use Rattle.laws.specs.Program.Fit.{EveryRoot, Numberable}
use Rattle.laws.specs.Program.Size.{few-nodes, program-numberable}
use Rattle.laws.specs.Numbering.Count.{fits}
use Rattle.laws.specs.Numbering.Arrays.{sixteen}
use Rattle.laws.specs.Numbering.Compiled.{net-accepted, finish-ok}
use Rattle.laws.specs.NetlistFile.Passed.{net-ordered}
use Rattle.word.proofs.Puts.{overwrite-sets}
use Rattle.compiler.specs.declared.whole.Netlist.{Netlist}
use Rattle.compiler.specs.Whole.{Made}
use Rattle.slow.specs.Ring.{net_of, values_of, Works}

-- a netlist has few cells
pub few-cells : (options : Options) (program : List ℕ) → check_call options program ≡ Accepted → length (netlist (program_with options program)) ≤ 627
few-cells options program e = (fits (program_with options program) (few-nodes options program e)).1

module _ (options : Options) (program words : List ℕ) (budget : ℕ) (values work : List ℕ) where
  abbrev checks : List Checked
  checks = slow_run_checks options program words budget values work

  abbrev verdict : Checked
  verdict = first checks

  -- with pulses of 1
  abbrev pub one : Options
  one = with_pulse 1 options

  abbrev S : Program
  S = slow_program options program

  first_two : check_call one program ≡ first (options.checked ∷ check_of one program ∷ [])
  unfolding check_call given_check pulse_wrong
  first_two = ap (λ (c : Checked). first (c ∷ check_of one program ∷ [])) (sym (first_one options.checked))

  -- as the check of a program told it, of options that are these
  pub at-program : (o : Options) → o ≡ one → {r : Refusal} → check_call o program ≡ Err r → Err r ≡ verdict
  at-program o q e = sym (first-take 2 checks (sym first_two ∙ ap (λ (x : Options). check_call x program) (sym q) ∙ e))

  pub passed : (o : Options) → o ≡ one → check_call o program ≡ Accepted → check_call one program ≡ Accepted
  passed o q e = ap (λ (x : Options). check_call x program) (sym q) ∙ e

  module _ (e : check_call one program ≡ Accepted) where
    after-program : verdict ≡ first (drop 2 checks)
    after-program = first-drop 2 checks (sym first_two ∙ e)

    -- what is asked of every full run comes next, and then the two buffers
    pub at-asked : {r : Refusal} → first (over_budget budget ∷ short (length words) 544 ∷ []) ≡ Err r → Err r ≡ verdict
    at-asked q = sym (after-program ∙ first-take 2 (drop 2 checks) q)

    module _ (a : first (over_budget budget ∷ short (length words) 544 ∷ []) ≡ Accepted) {n : ℕ} (count : n ≡ length (netlist S)) where
      after-asked : verdict ≡ first (drop 4 checks)
      after-asked = after-program ∙ first-drop 2 (drop 2 checks) a

      pub at-values : length values < 2 * n → refuse 14 0 ≡ verdict
      at-values s = rw (after-asked, ← count, lt-ltb (length values) (2 * n) s) refl

      module _ (s : 2 * n ≤ length values) where
        pub at-work : length work < slow_size n → refuse 14 0 ≡ verdict
        at-work t = rw (after-asked, ← count, le-ltb (length values) (2 * n) s, lt-ltb (length work) (slow_size n) t) refl

        pub at_none : slow_size n ≤ length work → Accepted ≡ verdict
        at_none t = rw (after-asked, ← count, le-ltb (length values) (2 * n) s, le-ltb (length work) (slow_size n) t) refl

  -- A run that is not refused ------------------------------------------------------------------------------------------------------------

  long-enough : (has needs : ℕ) → short has needs ≡ Accepted → needs ≤ has
  long-enough has needs e = ltb-false has needs (refuse-unless (ltb has needs) 14 0 e)

  pub record Ready : Type 0 where
    pub accepted : check_call one program ≡ Accepted
    pub few : budget ≤ 1000000
    pub start : 544 ≤ length words
    pub fits : 2 * length (netlist S) ≤ length values
    pub room : slow_size (length (netlist S)) ≤ length work

  pub ready : verdict ≡ Accepted → Ready
  ready e =
      let a = all-accept checks e in
      record {
        accepted = first_two ∙ accept-take 2 checks e;
        few = ltb-false 1000000 budget (refuse-unless (ltb 1000000 budget) 13 0 (a 2));
        start = long-enough (length words) 544 (a 3);
        fits = long-enough (length values) _ (a 4);
        room = long-enough (length work) _ (a 5);
      }

  -- the cells of its netlist, and what is told of them
  pub record Listed (cells : List ℕ) (n f ors : ℕ) : Type 0 where
    pub long : length cells ≡ 3762
    pub made : net_of cells n ≡ netlist S
    pub count : n ≡ length (netlist S)
    pub fin : f ≡ finish S
    pub at-ors : ors ≡ data_at S

  pub listed : (o : Options) → o ≡ one → (cells : List ℕ) → length cells ≡ 3762 → (m : Netlist) → Made (program_with o program) cells m
      → Listed cells m.count m.finish m.ors
  listed o q cells e m h =
      let is : program_with o program ≡ S = ap (λ (x : Options). program_with x program) q in
      record {
        long = e;
        made = h.cells ∙ ap netlist is;
        count = h.count ∙ ap (λ (P : Program). length (netlist P)) is;
        fin = h.finish ∙ ap finish is;
        at-ors = h.ors ∙ ap (λ (P : Program). data_at P) is;
      }

  module _ (r : Ready) (bytes : Bytes program) (cells : List ℕ) (n f ors : ℕ) (L : Listed cells n f ors) where
    made : net_of cells n ≡ netlist S
    made = L.made

    count : n ≡ length (netlist S)
    count = L.count

    fin : f ≡ finish S
    fin = L.fin

    at-ors : ors ≡ data_at S
    at-ors = L.at-ors

    low : EveryRoot Numberable 0 (roots S)
    low = program-numberable one program bytes r.accepted

    positive : 1 ≤ S.pulse
    unfolding program_of
    positive = omega arith

    small : S.pulse ≤ 255
    unfolding program_of
    small = omega arith

    pub few : n ≤ 627
    few = omega (arith, count, few-cells one program r.accepted)

    pub works : (part : List ℕ) → length part ≡ slow_size n → Works cells n words part
    works part e =
        record {
          few = omega (arith, few);
          list = omega (arith, few, L.long);
          starts = r.start;
          room = omega (arith, e);
          ordered = rw made (net-ordered (netlist S) (finish S) (net-accepted S positive small low));
          sixteen = ap memories made ∙ sixteen S low;
        }

    pub finish-low : f < n
    finish-low = omega (arith, fin, count, (finish-ok S positive small low).0)

    pub fits-values : 2 * n ≤ length values
    fits-values = omega (arith, count, r.fits)

    pub enough : slow_size n ≤ length work
    enough = omega (arith, count, r.room)

    abbrev W : ℕ → ℕ → ℕ
    W = values_of cells n ors options.times words

    pub told-answer : slow_answer (net_of cells n) f W (end_at (level W f) 0 budget) ≡ (slow_running Accepted options program words budget values work).answer
    unfolding slow_running
    told-answer = rw (made, fin, at-ors) refl

    pub told-values : overwrite (value_bytes (λ k. W k (end_at (level W f) 0 budget)) 0 n) values
        ≡ (slow_running Accepted options program words budget values work).values
    unfolding slow_running
    told-values = rw (made, fin, at-ors, count) refl

    -- the part that was worked in, cleared, and the rest
    pub told-work : (part : List ℕ) → length part ≡ slow_size n
        → sets (part ++ drop (slow_size n) work) 0 (replicate (slow_size n - 0) 0) ≡ (slow_running Accepted options program words budget values work).work
    unfolding slow_running
    told-work part e =
        let m = slow_size n in
        let z : m - 0 ≡ m = omega arith in
        let none : ℕ = 0 in
        let zeros : length (replicate m none) ≡ m = length-replicate m none in
        let long : length (part ++ drop m work) ≡ length work = omega (arith, length-append part (drop m work), length-drop m work, e, enough) in
        ap (λ (k : ℕ). sets (part ++ drop m work) 0 (replicate k 0)) z
        ∙ sym (overwrite-sets (replicate m 0) (part ++ drop m work) (omega (arith, zeros, long, enough)))
        ∙ ap (λ (k : ℕ). replicate m 0 ++ drop k (part ++ drop m work)) (zeros ∙ sym e)
        ∙ ap (λ (x : List ℕ). replicate m 0 ++ x) (drop-append_seam part (drop m work))
        ∙ ap (λ (k : ℕ). replicate m 0 ++ drop k work) (sym zeros)
        ∙ ap (λ (k : ℕ). overwrite (replicate (slow_size k) 0) work) count

  -- What the call tells ------------------------------------------------------------------------------------------------------------------

  pub refused-call : {r : Refusal} → verdict ≡ Err r
      → slow_run_call options program words budget values work ≡ record { answer = refused_answer r; values = values; work = work }
  unfolding slow_run_call slow_running
  refused-call e = rw e refl

  pub accepted-call : verdict ≡ Accepted → slow_run_call options program words budget values work ≡ slow_running Accepted options program words budget values work
  unfolding slow_run_call
  accepted-call e = rw e refl
