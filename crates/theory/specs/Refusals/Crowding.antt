-- Refusal 26: how a continuing goes until it is met, that it alone changes what was lent, and that a start never meets it.
-- Assumes nothing.
use Rattle.std.specs.Prelude.{◌≡◌, Bool, not, ◌&&◌, ◌||◌, List, [], ◌∷◌, ◌++◌, eqb, ltb, leb, length, get_or, Ok, Err}
use Rattle.std.proofs.Math.Path.{refl, sym}
use Rattle.std.proofs.Common.{◌∙◌, ap, subst, true≢false, add-zero}
use Rattle.std.proofs.Math.Bool.{true, false}
use Rattle.std.proofs.Math.Logic.{inl, inr, ⊎_elim}
use Prim.Native.Nat.{ℕ, zero, suc, ◌+◌, ◌-◌, ◌<◌, ◌≤◌}
use native.Mathlib.Omega.{arith}
use borrow.Author.Tests.{eqb-true, eq-eqb, le-ltb, ltb-false, leb-true}
use Rattle.model.specs.declared.Cell.{Cell}
use Rattle.model.specs.declared.Refusal.{Refusal}
use Rattle.model.specs.declared.Format.{Format}
use Rattle.model.specs.declared.Format.TheVariants.{Full, Compact}
use Rattle.model.specs.Word.{pick, bit}
use Rattle.model.specs.Refusals.{number_of, first, Checked, Accepted}
use Rattle.model.specs.Circuit.{Netlist, cell_at, no_cell, high, control, merges}
use Rattle.model.specs.NetlistFile.{net_of, finish_of}
use Rattle.model.specs.State.{remaining_at, most_left, flight_of, Course, course, longer, base, now_at, before_at, held_at, left_at, line_bit, line_at, flight, step_state, crowded, crowding, continued, line_sound, cell_sound, cells_sound, sound}
use Rattle.model.specs.Calls.{verdict, running, continue_checks, going_on, continue_call, busy, start_checks, start_call}
use Rattle.model.specs.RefusalPromises.{long_numbers, among, Gives, Refuses, file_numbers, just, crowd_numbers, LeavesBut, later, Goes}
use Rattle.laws.specs.Refusals.Laws.{or-false, by_bool, by_le, and-true, not-false, not-refused, all-accept, refuse-unless, first_one, first-append, refused-append, faultless}
use Rattle.laws.specs.State.Continuing.{continued-crowded, continued-high, continued-low}
use Rattle.laws.specs.State.Flight.{sound-true}
use Rattle.theory.specs.State.Flight.{none-ones, none-sum, delay-none}
use Rattle.theory.specs.Promises.Kept.{ran}
use Rattle.theory.specs.Refusals.Order.{within, gives-fault, faulty-if, gives-first, refuses, positive, going-order, running-verdict}

-- How a continuing goes ------------------------------------------------------------------------------------------------------------------

-- by what the next instant meets
by-check : {A : Type 0} (c : Checked) → (c ≡ Accepted → A) → ((r : Refusal) → c ≡ Err r → A) → A
by-check (Ok _) f g = f refl
by-check (Err r) f g = g r refl

pub goes : (F : Format) (net : Netlist) (f n : ℕ) (s : List ℕ) → Goes F net f n s (continued F net f n s)
unfolding continued later
goes F net f zero s =
    record {
      within = omega arith;
      low = λ m l. absurd (omega arith);
      good = λ m l. absurd (omega arith);
      left = refl;
      done = λ e. inl refl;
      crowds = λ l. absurd (omega arith);
    }
goes F net f (suc n) s =
    by-check (crowding F net s t)
    (λ free.
    by_bool (high (now_at F t f)) (λ e. subst Gone (sym (continued-high F net f n s free e)) (stops free e))
    (λ e. subst Gone (sym (continued-low F net f n s free e)) (goes_on free e (goes F net f n t))))
    (λ r e. subst Gone (sym (continued-crowded F net f n s r e)) (crowded-at r e))
  where
    t : List ℕ
    t = step_state F net false s

    Gone : Course → Type 0
    Gone c = Goes F net f (suc n) s c

    crowded-at : (r : Refusal) → crowding F net s t ≡ Err r → Goes F net f (suc n) s (course (Err r) s 0)
    crowded-at r e =
        record {
          within = omega arith;
          low = λ m l. absurd (omega arith);
          good = λ m l. absurd (omega arith);
          left = unfold later in refl;
          done = λ z. not-refused z;
          crowds = λ l. (omega arith, e);
        }

    stops : crowding F net s t ≡ Accepted → high (now_at F t f) ≡ true → Goes F net f (suc n) s (course Accepted t 1)
    stops free e =
        record {
          within = omega arith;
          low = λ m l. absurd (omega arith);
          good = λ m l. unfold later in let z : m ≡ 0 = omega arith in rw z free;
          left = unfold later in refl;
          done = λ z. inr e;
          crowds = λ l. absurd (omega arith);
        }

    goes_on : crowding F net s t ≡ Accepted → high (now_at F t f) ≡ false → Goes F net f n t (continued F net f n t)
        → Goes F net f (suc n) s (longer (continued F net f n t))
    goes_on free e G =
        record {
          within = omega (arith, G.within);
          low = low-on;
          good = good-on;
          left = let z : 1 + (continued F net f n t).count ≡ suc (continued F net f n t).count = omega arith in rw z (unfold later in G.left);
          done = λ z. ⊎_elim (λ h. inl (omega arith)) (λ h. inr h) (G.done z);
          crowds = λ l. let c = G.crowds l in (omega (arith, c.0), c.1);
        }
      where
        low-on : (m : ℕ) → suc m < 1 + (continued F net f n t).count → high (now_at F (later F net (suc m) s) f) ≡ false
        low-on zero l = unfold later in e
        low-on (suc m) l = unfold later in G.low m (omega arith)

        good-on : (m : ℕ) → m < 1 + (continued F net f n t).count → crowding F net (later F net m s) (later F net (suc m) s) ≡ Accepted
        good-on zero l = unfold later in free
        good-on (suc m) l = unfold later in G.good m (omega arith)

-- The number -----------------------------------------------------------------------------------------------------------------------------

crowding-gives : (F : Format) (net : Netlist) (s t : List ℕ) → Gives (crowd_numbers F) (crowding F net s t)
unfolding crowding crowded
crowding-gives Full net s t = inl refl
crowding-gives Compact net s t =
    gives-fault (just 26) (crowded Compact net s t) (length net.cells)
    (λ k. faulty-if (eqb (cell_at net.cells k).kind 34 && (high (now_at Compact t (cell_at net.cells k).a) && ltb 1 (left_at Compact s k))) 26)

pub course-gives : (F : Format) (net : Netlist) (f n : ℕ) (s : List ℕ) → Gives (crowd_numbers F) (continued F net f n s).check
unfolding continued
course-gives F net f zero s = inl refl
course-gives F net f (suc n) s =
    let t = step_state F net false s in
    let Given : Course → Type 0 = λ c. Gives (crowd_numbers F) c.check in
    by-check (crowding F net s t)
    (λ free.
    by_bool (high (now_at F t f)) (λ e. subst Given (sym (continued-high F net f n s free e)) (inl refl))
    (λ e. subst Given (sym (continued-low F net f n s free e)) (course-gives F net f n t)))
    (λ r e. subst Given (sym (continued-crowded F net f n s r e)) (subst (Gives (crowd_numbers F)) e (crowding-gives F net s t)))

-- no number but 26
crowd-number : (F : Format) (k : ℕ) → among k (crowd_numbers F) ≡ true → k ≡ 26
crowd-number Full k e = absurd (true≢false (sym e))
crowd-number Compact k e = by_bool (eqb k 26) (λ z. eqb-true k 26 z) (λ z. absurd (true≢false (sym e ∙ ap (λ (b : Bool). b || false) z)))

pub all-positive : (F : Format) → positive (file_numbers ∷ long_numbers F ∷ just 14 ∷ just 15 ∷ just 16 ∷ crowd_numbers F ∷ []) ≡ true
all-positive Full = refl
all-positive Compact = refl

-- A continuing ---------------------------------------------------------------------------------------------------------------------------

module _ (F : Format) (cs : List Checked) (file : List ℕ) (o : Course) (lent : List ℕ) where
  -- what the checks find, and then 26
  pub going-verdict : verdict (going_on F (first cs) file o lent).answer.outcome ≡ first (cs ++ (o.check ∷ []))
  unfolding going_on verdict
  going-verdict = go (first cs) refl
    where
      go : (c : Checked) → first cs ≡ c → verdict (going_on F c file o lent).answer.outcome ≡ first (cs ++ (o.check ∷ []))
      go (Ok _) e =
          running-verdict F o.check file o.state o.count o.state ∙ first_one o.check ∙ sym (first-append cs (o.check ∷ []) e)
      go (Err r) e = sym (refused-append cs (o.check ∷ []) r e)

  running-left : (c : Checked) (s : List ℕ) (n : ℕ) → (running F c file s n s).lent ≡ s
  unfolding running
  running-left (Ok _) s n = refl
  running-left (Err r) s n = refl

  going-left : first cs ≡ Accepted → (going_on F (first cs) file o lent).lent ≡ o.state
  unfolding going_on
  going-left e = rw e (running-left o.check o.state o.count)

  going-kept : (r : Refusal) → first cs ≡ Err r → (going_on F (first cs) file o lent).lent ≡ lent
  unfolding going_on
  going-kept r e = rw e refl

abbrev run_numbers : List ℕ
run_numbers = 9 ∷ 10 ∷ 11 ∷ 12 ∷ 27 ∷ 14 ∷ 15 ∷ 16 ∷ []

all_among : (F : Format) → within run_numbers (file_numbers ∷ long_numbers F ∷ just 14 ∷ just 15 ∷ just 16 ∷ []) ≡ true
all_among Full = refl
all_among Compact = refl

pub continue-refuses : (F : Format) (file : List ℕ) (n : ℕ) (lent : List ℕ) →
    let r = continue_call F file n lent in
    let c = verdict r.answer.outcome in
    let on = continued F (net_of file) (finish_of file) n lent in
    Refuses (file_numbers ∷ long_numbers F ∷ just 14 ∷ just 15 ∷ just 16 ∷ crowd_numbers F ∷ []) (continue_checks F file n lent ++ (on.check ∷ [])) c
    × LeavesBut 26 c lent r.lent × (number_of c ≡ 26 → r.lent ≡ on.state)
unfolding continue_call
continue-refuses F file n lent =
    rw (going-verdict F cs file on lent) (
      refuses _ (cs ++ (on.check ∷ [])) (all-positive F) (going-order F file n lent (crowd_numbers F ∷ []) (on.check ∷ []) (gives, tt)),
      leaves,
      left,
    )
  where
    cs : List Checked
    cs = continue_checks F file n lent

    on : Course
    on = continued F (net_of file) (finish_of file) n lent

    gives : Gives (crowd_numbers F) on.check
    gives = course-gives F (net_of file) (finish_of file) n lent

    last : first cs ≡ Accepted → first (cs ++ (on.check ∷ [])) ≡ on.check
    last e = first-append cs (on.check ∷ []) e ∙ sym (first_one on.check)

    leaves : LeavesBut 26 (first (cs ++ (on.check ∷ []))) lent (going_on F (first cs) file on lent).lent
    leaves l k =
        by-check (first cs)
        (λ e.
        ⊎_elim (λ a. absurd (omega (arith, l, ap number_of (last e ∙ a))))
        (λ g. absurd (k (ap number_of (last e) ∙ crowd-number F (number_of on.check) g))) gives)
        (λ r e. going-kept F cs file on lent r e)

    left : number_of (first (cs ++ (on.check ∷ []))) ≡ 26 → (going_on F (first cs) file on lent).lent ≡ on.state
    left k =
        by-check (first cs) (λ e. going-left F cs file on lent e)
        (λ r e.
        let q : r.number ≡ 26 = ap number_of (sym (refused-append cs (on.check ∷ []) r e)) ∙ k in
        ⊎_elim (λ a. not-refused (sym e ∙ a))
        (λ g. absurd (true≢false (sym g ∙ ap (λ (c : Checked). among (number_of c) run_numbers) e ∙ ap (λ (i : ℕ). among i run_numbers) q)))
        (gives-first run_numbers (file_numbers ∷ long_numbers F ∷ just 14 ∷ just 15 ∷ just 16 ∷ []) (continue_checks F file n lent) (all_among F)
        (going-order F file n lent [] [] tt)))

-- A start --------------------------------------------------------------------------------------------------------------------------------

sound-at : (w : ℕ) (cs : List Cell) (s : List ℕ) (k : ℕ) → cells_sound Compact w cs s k ≡ true → (i : ℕ) → i < length cs → cell_sound Compact w (get_or cs i no_cell) s (k + i) ≡ true
unfolding cells_sound
sound-at w [] s k e i l = absurd (omega arith)
sound-at w (c ∷ cs) s k e zero l = rw add-zero (and-true (cell_sound Compact w c s k) _ e).0
sound-at w (c ∷ cs) s k e (suc i) l =
    let q : k + 1 + i ≡ k + suc i = omega arith in
    rw q at (sound-at w cs s (k + 1) (and-true (cell_sound Compact w c s k) _ e).1 i (omega arith))

-- the number of a line, in a state that 15 lets pass
left-low : (w : ℕ) (c : Cell) (s : List ℕ) (k : ℕ) → c.kind ≡ 34 → cell_sound Compact w c s k ≡ true → left_at Compact s k ≤ c.delay
unfolding cell_sound line_sound
left-low w c s k q e =
    let a = (and-true (not (control c.kind) || (leb (now_at Compact s k) 1 && leb (before_at Compact s k) 1)) _ e).1 in
    let b = (and-true (leb (get_or s (base Compact k + 4) 0) (bit (merges c.kind)) && leb (get_or s (base Compact k + 5) 0) (bit (eqb c.kind 38))) _ a).1 in
    let l = leb-true (left_at Compact s k) (pick (eqb c.kind 34) c.delay (most_left Compact w c)) (and-true (leb (left_at Compact s k) (pick (eqb c.kind 34) c.delay (most_left Compact w c))) _ b).0 in
    rw (eq-eqb c.kind 34 q) at l

-- where none of its last d inputs was 1, it is 0
left-none : (s : List ℕ) (k d : ℕ) → left_at Compact s k ≤ d → ((i : ℕ) → i < d → line_bit Compact s k d i ≡ 0) → left_at Compact s k ≤ 1
unfolding line_bit bit
left-none s k d l h =
    by_le (left_at Compact s k) 1 (λ g. g)
    (λ g.
    let i : ℕ = d - left_at Compact s k in
    absurd (omega (arith, rw (eq-eqb (left_at Compact s k + i) d (omega arith)) at (h i (omega arith)))))

none-crowded : (F : Format) (net : Netlist) (s t : List ℕ) → sound F net s ≡ true → flight_of s ≡ 0 → crowding F net s t ≡ Accepted
unfolding crowding
none-crowded Full net s t e z = refl
none-crowded Compact net s t e z =
    faultless (crowded Compact net s t) 0 (length net.cells)
    (λ k l h. unfold crowded in
    by_bool (eqb (cell_at net.cells k).kind 34)
    (λ q. rw (q, le-ltb 1 (left_at Compact s k) (few k (omega arith) (eqb-true _ _ q))) (by_bool (high (now_at Compact t (cell_at net.cells k).a)) (λ b. rw b refl) (λ b. rw b refl)))
    (λ q. rw q refl))
  where
    cells : cells_sound Compact net.pulse net.cells s 0 ≡ true
    cells = unfold sound in (and-true (eqb (flight_of s) (flight Compact net s)) (cells_sound Compact net.pulse net.cells s 0) e).1

    few : (k : ℕ) → k < length net.cells → (cell_at net.cells k).kind ≡ 34 → left_at Compact s k ≤ 1
    few k l q =
        let o : 0 + k ≡ k = omega arith in
        left-none s k (cell_at net.cells k).delay (left-low net.pulse (cell_at net.cells k) s k q (rw o at (sound-at net.pulse net.cells s 0 cells k l)))
        (none-ones (line_at Compact net s k) (cell_at net.cells k).delay
        (delay-none (line_at Compact net s k) (held_at Compact s k) (remaining_at Compact s k) (cell_at net.cells k) q
        (rw o at (none-sum (line_at Compact net s) (held_at Compact s) (remaining_at Compact s) net.cells 0 (sym (sound-true Compact net s e) ∙ z) k l))))

pub start-free : (F : Format) (file lent : List ℕ) → verdict (start_call F file lent).answer.outcome ≡ Accepted
    → crowding F (net_of file) lent (step_state F (net_of file) true lent) ≡ Accepted
unfolding start_call
start-free F file lent e =
    let checks = ran F (first (start_checks F file lent)) file _ 1 lent e in
    let all = all-accept (start_checks F file lent) checks in
    let idle : flight_of lent ≤ 0 = ltb-false 0 (flight_of lent) (or-false (ltb 0 (flight_of lent)) _ (refuse-unless (busy F file lent) 23 0 (all 5))).0 in
    none-crowded F (net_of file) lent _ (not-false _ (refuse-unless _ 15 0 (all 3))) (omega arith)
