-- A full and a compact state of one run show the same wires at every instant, and their calls give the same answers: both hold the same values.
-- So no compiled program meets 26.
-- Assumes nothing.
use Rattle.std.specs.Prelude.{◌≡◌, Bool, ◌&&◌, ltb, take, replicate}
use Rattle.std.proofs.Math.Path.{refl, sym, ap, subst}
use Rattle.std.proofs.Common.{◌∙◌}
use Rattle.std.proofs.Math.Bool.{true, false}
use mathlib.Core.List.{List, [], ◌∷◌, map}
use Prim.Native.Nat.{ℕ, suc, ◌+◌, ◌-◌, ◌*◌, ◌/◌, ◌%◌, ◌≤◌}
use native.Mathlib.Omega.{arith}
use Rattle.model.specs.declared.Format.{Format}
use Rattle.model.specs.declared.Format.TheVariants.{Full, Compact}
use Rattle.model.specs.declared.Outcome.{Outcome}
use Rattle.model.specs.declared.Outcome.TheVariants.{Ended, Open}
use Rattle.model.specs.declared.Answer.{Answer}
use Rattle.model.specs.Word.{pick}
use Rattle.model.specs.Refusals.{number_of}
use Rattle.model.specs.Program.{Program}
use Rattle.model.specs.Procedures.{meaning}
use Rattle.model.specs.ProgramChecks.{program_with}
use Rattle.model.specs.Rules.{imperative, Store, Run, done, at_end, at_exit, still, run}
use Rattle.model.specs.Circuit.{Netlist, Sig, Values, high, memory_words, Obeys}
use Rattle.model.specs.NetlistFile.{cells_of, net_of, finish_of}
use Rattle.model.specs.State.{instant_of, state_size, now_at, words_in}
use Rattle.model.specs.Calls.{Returned, verdict, compile_call, word_at, refused_answer, shows, begin_call}
use Rattle.model.specs.CircuitPromises.{stops_at, ended_if}
use Rattle.model.specs.RunPromises.{Request, continuing, start, Call, replay, Seen, seen, seen_of, Stand, stand, Runs, due_at, Next, refuses, pulsed, after_request, next, expected, stands, starts_of, Along}
use Rattle.model.specs.FormatPromises.{Twice, on_full, on_compact, Fair, Alike, AllSame, SameWires}
use Rattle.laws.specs.Refusals.Laws.{by_le}
use Rattle.laws.specs.Circuit.Ordered.{Ordered}
use Rattle.theory.specs.Circuit.Exists.{solution, solution-obeys}
use Rattle.theory.specs.State.Holding.{Holding}
use Rattle.theory.specs.State.Flight.{number_is}
use Rattle.theory.specs.Promises.Answers.{memory-same}
use Rattle.theory.specs.Promises.Stands.{anew, next-short, next-long, continues-late, continues-now, start-late, start-now, Given, given-first}
use Rattle.theory.specs.Promises.Replay.{at0}
use Rattle.theory.specs.Promises.Kept.{program-accepted, file-made, Begun, begins, along, told}

-- Where lists of requests stand ----------------------------------------------------------------------------------------------------------

-- with buffers that are lent whole, the size of a state makes no difference
-- the call on a full state, and that on a compact one
abbrev full_call : Twice → Call
full_call c = record { request = c.request; lent = c.full }

abbrev compact_call : Twice → Call
compact_call c = record { request = c.request; lent = c.compact }

module _ (w : ℕ) (rules : Runs) (full compact : ℕ) where
  next-same : (st : Stand) (c : Twice) → ltb c.full full ≡ ltb c.compact compact → next w rules full st (full_call c) ≡ next w rules compact st (compact_call c)
  unfolding next
  next-same st c e = ap (λ (b : Bool). elim b as (λ z. Next) [ true ↦ refuses 14 st | false ↦ after_request w rules st c.request ]) e

  stands_same : (cs : List Twice) → Fair full compact cs → (st : Stand) → stands w rules full st (on_full cs) ≡ stands w rules compact st (on_compact cs)
  unfolding stands
  stands_same [] fair st = refl
  stands_same (c ∷ cs) fair st =
      ap (λ (x : Next). x.after ∷ stands w rules full x.after (on_full cs)) (next-same st c fair.0)
      ∙ ap (λ (sts : List Stand). (next w rules compact st (compact_call c)).after ∷ sts) (stands_same cs fair.1 _)

  expected-same : (cs : List Twice) → Fair full compact cs → (st : Stand) → expected w rules full st (on_full cs) ≡ expected w rules compact st (on_compact cs)
  unfolding expected
  expected-same [] fair st = refl
  expected-same (c ∷ cs) fair st =
      ap (λ (x : Next). x.tells ∷ expected w rules full x.after (on_full cs)) (next-same st c fair.0)
      ∙ ap (λ (l : List Seen). (next w rules compact st (compact_call c)).tells ∷ l) (expected-same cs fair.1 _)

-- What a list tells is never 26 ----------------------------------------------------------------------------------------------------------

abbrev Unmet : Seen → Type 0
Unmet x = number_of (verdict x.outcome) ≡ 26 → ⊥

unmet-ended : (b : Bool) (t n : ℕ) → Unmet (seen (ended_if b) t n)
unfolding verdict
unmet-ended true t n e = omega arith
unmet-ended false t n e = omega arith

unmet-refused : (k : ℕ) (st : Stand) → (k ≡ 26 → ⊥) → Unmet (refuses k st).tells
unfolding verdict
unmet-refused k st h e = h e

module _ (w : ℕ) (rules : Runs) (size : ℕ) where
  unmet-pulsed : (st : Stand) (r : Run) → Unmet (pulsed w rules st r).tells
  unfolding pulsed
  unmet-pulsed st (done at_end t σ) = go (ltb 1 w && due_at w rules st st.now)
    where
      go : (b : Bool) → Unmet (elim b as (λ z. Next) [ true ↦ refuses 23 st | false ↦ anew w rules st σ ]).tells
      go true = unmet-refused 23 st (λ e. omega arith)
      go false = let s = suc st.now in unmet-ended (due_at w rules (stand s (rules.anew σ) s) s) s 1
  unmet-pulsed st (done at_exit t σ) = unmet-refused 23 st (λ e. omega arith)
  unmet-pulsed st still = unmet-refused 23 st (λ e. omega arith)

  unmet-request : (st : Stand) (q : Request) → Unmet (after_request w rules st q).tells
  unfolding after_request
  unmet-request st (continuing n) =
      let t = stops_at (due_at w rules st) st.now n in
      by_le (st.now + n) 1000000
      (λ h. subst (λ (x : Next). Unmet x.tells) (sym (continues-now w rules size st n h)) (unmet-ended (due_at w rules st t) t (t - st.now)))
      (λ h. subst (λ (x : Next). Unmet x.tells) (sym (continues-late w rules size st n h)) (unmet-refused 16 st (λ e. omega arith)))
  unmet-request st start =
      by_le (st.now + 1) 1000000 (λ h. subst (λ (x : Next). Unmet x.tells) (sym (start-now w rules size st h)) (unmet-pulsed st _))
      (λ h. subst (λ (x : Next). Unmet x.tells) (sym (start-late w rules size st h)) (unmet-refused 16 st (λ e. omega arith)))

  unmet-next : (st : Stand) (c : Call) → Unmet (next w rules size st c).tells
  unmet-next st c =
      by_le size c.lent (λ h. subst (λ (x : Next). Unmet x.tells) (sym (next-long w rules size st c h)) (unmet-request st c.request))
      (λ h. subst (λ (x : Next). Unmet x.tells) (sym (next-short w rules size st c h)) (unmet-refused 14 st (λ e. omega arith)))

abbrev AllUnmet : List Seen → Type 0
AllUnmet [] = Unit {0}
AllUnmet (x ∷ xs) = Unmet x × AllUnmet xs

all-unmet : (w : ℕ) (rules : Runs) (size : ℕ) (cs : List Call) (st : Stand) → AllUnmet (expected w rules size st cs)
unfolding expected
all-unmet w rules size [] st = tt
all-unmet w rules size (c ∷ cs) st = (unmet-next w rules size st c, all-unmet w rules size cs _)

-- What calls show, from the values -------------------------------------------------------------------------------------------------------

-- an answer shows these words, unless it is a refusal
words_shown : Outcome → List ℕ → List ℕ
words_shown Ended words = words
words_shown Open words = words
words_shown (Outcome.Refused r) words = replicate 16 0

abbrev answer_of : Seen → List ℕ → Answer
answer_of x words = record { outcome = x.outcome; instant = x.instant; count = x.count; words = words_shown x.outcome words }

module _ (net : Netlist) (σ : Store) (W : Values) where
  abbrev words_at : ℕ → List ℕ
  words_at t = memory_words net.cells 0 (λ k. W k t)

  -- what a call on a state of this format tells and leaves
  record Shown (F : Format) (st : Stand) (r : Returned Answer) : Type 0 where
    answer : r.answer ≡ answer_of (seen_of r) (words_at st.now)
    holding : Holding F net σ W st.now r.lent
    early : st.now ≤ 1000000

  shown-refused : (F : Format) (st : Stand) (k : ℕ) (b : List ℕ) → st.now ≤ 1000000 → Holding F net σ W st.now b
      → Shown F st (record { answer = refused_answer (at0 k); lent = b })
  unfolding words_shown
  shown-refused F st k b l H = record { answer = refl; holding = H; early = l }

  shown-ended : (b : Bool) (words : List ℕ) → words_shown (pick b Ended Open) words ≡ words
  unfolding words_shown
  shown-ended true words = refl
  shown-ended false words = refl

  shown-answer : (F : Format) (file : List ℕ) → net_of file ≡ net → (st : Stand) (s b : List ℕ) (n : ℕ) → st.now ≤ 1000000 → Holding F net σ W st.now s
      → Holding F net σ W st.now b → Shown F st (record { answer = shows F file s n; lent = b })
  unfolding shows
  shown-answer F file e st s b n l H K =
      let words : words_in F (cells_of file) 0 s ≡ words_at st.now =
      ap (λ (n : Netlist). words_in F n.cells 0 s) e
      ∙ memory-same net.cells 0 (now_at F s) (λ k. W k st.now)
      (λ i h.
      let z : 0 + i ≡ i = omega arith in
      rw z (H.body.present i h)) in
      record {
        answer =
            ap (λ (w : List ℕ). record { outcome = pick (high (now_at F s (finish_of file))) Ended Open; instant = instant_of s; count = n; words = w })
            (words ∙ sym (shown-ended (high (now_at F s (finish_of file))) (words_at st.now)));
        holding = K;
        early = l;
      }

  -- states of both formats that hold the values of one instant
  alike : Ordered net.cells → (t : ℕ) (s c : List ℕ) → t ≤ 1000000 → Holding Full net σ W t s → Holding Compact net σ W t c → Alike net s c
  alike ordered t s c l H K =
      record {
        instant = H.instant l ∙ sym (K.instant l);
        number = number_is Full net ordered σ W t s H ∙ sym (number_is Compact net ordered σ W t c K);
        wires = λ k h. H.body.present k h ∙ sym (K.body.present k h);
        before = λ k h. H.body.past k h ∙ sym (K.body.past k h);
        elements = λ n h.
            let e : n ≡ 64 * (n / 64) + n % 64 = omega arith in
            rw e (H.body.elements (n / 64) (n % 64) (omega arith) (omega arith) ∙ sym (K.body.elements (n / 64) (n % 64) (omega arith) (omega arith)));
      }

  first_seen : List Seen → Seen
  first_seen [] = seen Open 0 0
  first_seen (x ∷ xs) = x

  rest_seen : List Seen → List Seen
  rest_seen [] = []
  rest_seen (x ∷ xs) = xs

  all_same : Ordered net.cells → (sts : List Stand) (rs qs : List (Returned Answer)) → Along (Shown Full) sts rs → Along (Shown Compact) sts qs
      → map seen_of rs ≡ map seen_of qs → AllUnmet (map seen_of qs) → AllSame net rs qs
  unfolding first_seen rest_seen
  all_same ordered [] [] [] A B e u = tt
  all_same ordered [] [] (q ∷ qs) A B e u = absurd B
  all_same ordered [] (r ∷ rs) qs A B e u = absurd A
  all_same ordered (st ∷ sts) [] qs A B e u = absurd A
  all_same ordered (st ∷ sts) (r ∷ rs) [] A B e u = absurd B
  all_same ordered (st ∷ sts) (r ∷ rs) (q ∷ qs) A B e u =
      let x : seen_of r ≡ seen_of q = ap first_seen e in (
        record {
          answer = A.0.answer ∙ ap (λ (y : Seen). answer_of y (words_at st.now)) x ∙ sym B.0.answer;
          left = alike ordered st.now r.lent q.lent A.0.early A.0.holding B.0.holding;
          free = u.0;
        },
        all_same ordered sts rs qs A.1 B.1 (ap rest_seen e) u.1,
      )

-- The promise ----------------------------------------------------------------------------------------------------------------------------

module _ (S : Program) (file words for_full for_compact : List ℕ) (B : Begun Full S file words for_full) (C : Begun Compact S file words for_compact)
    (cs : List Twice) (fair : Fair (state_size Full (net_of file)) (state_size Compact (net_of file)) cs) where
  abbrev w : ℕ
  w = S.pulse

  abbrev net : Netlist
  net = net_of file

  abbrev σ : Store
  σ = word_at words

  abbrev rules : Runs
  rules = record { within = λ τ k. run (imperative S.pulse) k (meaning S) τ; anew = λ τ. τ }

  -- the calls on a buffer in this format
  abbrev calls : Format → List ℕ → List Call → List (Returned Answer)
  calls F lent on = begin_call F file words lent ∷ replay F file (begin_call F file words lent).lent on

  abbrev sts : Format → List Call → List Stand
  sts F on = stand 0 σ 0 ∷ stands w rules (state_size F net) (stand 0 σ 0) on

  same-sts : sts Compact (on_compact cs) ≡ sts Full (on_full cs)
  same-sts = ap (λ (l : List Stand). stand 0 σ 0 ∷ l) (sym (stands_same w rules (state_size Full net) (state_size Compact net) cs fair (stand 0 σ 0)))

  abbrev starts : Sig
  starts = starts_of (sts Full (on_full cs))

  W : Values
  W = solution net starts σ

  obeys : Obeys net starts σ W
  unfolding W
  obeys = solution-obeys net starts σ B.of_program.of_file.ordered

  first-pulse : starts 0 ≡ true
  unfolding starts_of
  first-pulse = refl

  given-compact : Given w rules (state_size Compact net) starts (stand 0 σ 0) (on_compact cs)
  given-compact =
      subst (λ (l : List Stand). Given w rules (state_size Compact net) (starts_of l) (stand 0 σ 0) (on_compact cs)) same-sts
      (given-first w rules (state_size Compact net) σ (on_compact cs))

  shown-full : Along (Shown net σ W Full) (sts Full (on_full cs)) (calls Full for_full (on_full cs))
  shown-full =
      along Full S file words for_full B starts W obeys (on_full cs) (given-first w rules (state_size Full net) σ (on_full cs)) first-pulse
      (Shown net σ W Full) (λ st cs N k b l H. shown-refused net σ W Full st k b l H) (λ st cs N s b n l H K. shown-answer net σ W Full file refl st s b n l H K)

  shown-compact : Along (Shown net σ W Compact) (sts Full (on_full cs)) (calls Compact for_compact (on_compact cs))
  shown-compact =
      subst (λ (l : List Stand). Along (Shown net σ W Compact) l (calls Compact for_compact (on_compact cs))) same-sts
      (along Compact S file words for_compact C starts W obeys (on_compact cs) given-compact first-pulse
      (Shown net σ W Compact) (λ st cs N k b l H. shown-refused net σ W Compact st k b l H) (λ st cs N s b n l H K. shown-answer net σ W Compact file refl st s b n l H K))

  abbrev tells_of : Format → List Call → List Seen
  tells_of F on = seen (ended_if (due_at w rules (stand 0 σ 0) 0)) 0 1 ∷ expected w rules (state_size F net) (stand 0 σ 0) on

  same-tells : tells_of Full (on_full cs) ≡ tells_of Compact (on_compact cs)
  same-tells =
      ap (λ (l : List Seen). seen (ended_if (due_at w rules (stand 0 σ 0) 0)) 0 1 ∷ l)
      (expected-same w rules (state_size Full net) (state_size Compact net) cs fair (stand 0 σ 0))

  unmet : AllUnmet (tells_of Compact (on_compact cs))
  unmet = (unmet-ended (due_at w rules (stand 0 σ 0) 0) 0 1, all-unmet w rules (state_size Compact net) (on_compact cs) (stand 0 σ 0))

  both-same : AllSame net (calls Full for_full (on_full cs)) (calls Compact for_compact (on_compact cs))
  both-same =
      let full = told Full S file words for_full B (on_full cs) in
      let compact = told Compact S file words for_compact C (on_compact cs) in
      all_same net σ W B.of_program.of_file.ordered (sts Full (on_full cs)) (calls Full for_full (on_full cs)) (calls Compact for_compact (on_compact cs)) shown-full shown-compact (full ∙ same-tells ∙ sym compact)
      (subst AllUnmet (sym compact) unmet)

pub same-wires : SameWires
unfolding SameWires
same-wires options program for_file words for_full for_compact calls n f made full compact fair =
    let file = take n (compile_call options program for_file).lent in
    let good = program-accepted options program for_file n f made in
    let written = file-made options program for_file n f made in
    both-same (program_with options program) file words for_full for_compact (begins Full options program file words for_full good written full)
    (begins Compact options program file words for_compact good written compact) calls fair
