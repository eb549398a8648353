-- Laws of refusals: what an accepted list of checks says of each, and what the first fault is.
-- They are the laws that the checks of programs, files and calls go by.
-- Assumes nothing.
use Rattle.std.specs.Prelude.{◌≡◌, refl, Bool, true, false, not, ◌&&◌, ◌||◌, List, [], ◌∷◌, ◌++◌, ℕ, zero, suc, ◌+◌, ◌≤◌, ◌<◌, eqb, leb, T, get_or, take, drop, Result, Ok, Err}
use Rattle.std.proofs.Common.{sym, ◌∙◌, ap, ap₂, arith, eqb-true, eq-eqb, leb-true, leb-false}
use Rattle.std.specs.Result.{IsErrAnd}
use Rattle.std.proofs.lemmas.Result.{err_from_is_err_and}
use Rattle.std.proofs.Math.Decide.{ℕ_discrete}
use Rattle.model.specs.declared.Refusal.{Refusal}
use Rattle.model.specs.Word.{pick}
use Rattle.model.specs.Refusals.{refuse, refuse_if, number_of, first, first_fault, fault_if, Checked, Accepted}
use Rattle.model.specs.RefusalPromises.{FirstFound, FirstPlace}

-- Tests --------------------------------------------------------------------------------------------------------------------------------

-- case analysis that keeps the equation
pub by_bool : {A : Type 0} (b : Bool) → (b ≡ true → A) → (b ≡ false → A) → A
by_bool true p q = p refl
by_bool false p q = q refl

pub by_le : {A : Type 0} (m n : ℕ) → (m ≤ n → A) → (n < m → A) → A
by_le m n p q = by_bool (leb m n) (λ e. p (leb-true m n e)) (λ e. q (leb-false m n e))

pub not-both : {A : Type 0} {b : Bool} → b ≡ true → b ≡ false → A
not-both p q = let z : ◌≡◌ {A = ℕ} 0 1 = cc in absurd (omega arith)

pub and-true : (a b : Bool) → (a && b) ≡ true → (a ≡ true) × (b ≡ true)
and-true true b e = (refl, e)
and-true false b e = not-both e refl

pub and-of : {a b : Bool} → a ≡ true → b ≡ true → (a && b) ≡ true
and-of p q = ap₂ ◌&&◌ p q

pub or-false : (a b : Bool) → (a || b) ≡ false → (a ≡ false) × (b ≡ false)
or-false true b e = not-both refl e
or-false false b e = (refl, e)

pub not-false : (b : Bool) → not b ≡ false → b ≡ true
not-false true e = refl
not-false false e = not-both refl e

-- a test that holds, and one that does not
pub is_true : (b : Bool) → T b → b ≡ true
is_true true z = refl
is_true false z = absurd z

pub is_false : (b : Bool) → (T b → ⊥) → b ≡ false
is_false true z = absurd (z tt)
is_false false z = refl

-- One check ----------------------------------------------------------------------------------------------------------------------------

refusals : Checked → ℕ
refusals (Ok _) = 0
refusals (Err r) = 1

pub not-refused : {A : Type 0} {r : Refusal} → Err r ≡ Accepted → A
unfolding refusals
not-refused e = let z : ◌≡◌ {A = ℕ} 1 0 = ap refusals e in absurd (omega arith)

refusal-of : Refusal → Checked → Refusal
refusal-of d (Ok _) = d
refusal-of d (Err r) = r

-- what `?` hands on is the refusal that it met
pub handed_on : {T E : Type 0} (r : Result T E) {e : E} → IsErrAnd r (λ d. d ≡ e) → r ≡ Err e
handed_on r h = let p = err_from_is_err_and r h in p.1 ∙ ap Err p.2

pub same-refusal : {r q : Refusal} → ◌≡◌ {A = Checked} (Err r) (Err q) → r ≡ q
unfolding refusal-of
same-refusal {r} e = ap (refusal-of r) e

-- a refusal behind a condition
pub refuse-unless : (b : Bool) (k p : ℕ) → refuse_if b k p ≡ Accepted → b ≡ false
refuse-unless true k p e = not-refused e
refuse-unless false k p e = refl

-- a refusal where a condition fails
pub pick_true : (b : Bool) (c : Checked) (r : Refusal) → pick b c (Err r) ≡ Accepted → (b ≡ true) × (c ≡ Accepted)
pick_true true c r e = (refl, e)
pick_true false c r e = not-refused e

-- A list of checks ---------------------------------------------------------------------------------------------------------------------

pub all-accept : (cs : List Checked) → first cs ≡ Accepted → (j : ℕ) → get_or cs j Accepted ≡ Accepted
all-accept [] e j = refl
all-accept (Ok _ ∷ cs) e zero = refl
all-accept (Ok _ ∷ cs) e (suc j) = all-accept cs e j
all-accept (Err q ∷ cs) e j = not-refused e

-- and the reverse
abbrev pub AllAccept : List Checked → Type 0
AllAccept [] = Unit {0}
AllAccept (c ∷ cs) = (c ≡ Accepted) × AllAccept cs

pub accept-all : (cs : List Checked) → AllAccept cs → first cs ≡ Accepted
accept-all [] h = refl
accept-all (c ∷ cs) h = ap (λ (c : Checked). first (c ∷ cs)) h.0 ∙ accept-all cs h.1

-- what is found first stands in the list, and everything before it accepts, if no refusal there has the number 0
pub first_found : (cs : List Checked) → (number_of (first cs) ≡ 0 → first cs ≡ Accepted) → FirstFound cs (first cs)
first_found [] p = record { accepted = λ e j. refl; refused = λ l. absurd (omega arith) }
first_found (Ok _ ∷ cs) p =
    let f = first_found cs p in
    record {
      accepted = λ e. elim [ zero ↦ refl | suc j ↦ f.accepted e j ];
      refused = λ l.
          let g = f.refused l in
          (suc g.0, g.1, g.2, elim [ zero ↦ λ l. refl | suc j ↦ λ l. g.3 j (omega arith) ]);
    }
first_found (Err q ∷ cs) p =
    record { accepted = λ e j. not-refused (p e); refused = λ l. (0, refl, refl, λ j l. absurd (omega arith)) }

pub first_one : (c : Checked) → c ≡ first (c ∷ [])
first_one (Ok _) = refl
first_one (Err q) = refl

-- what stands behind a check matters by what is found first in it alone
pub first-behind : (c : Checked) (cs ds : List Checked) → first cs ≡ first ds → first (c ∷ cs) ≡ first (c ∷ ds)
first-behind (Ok _) cs ds e = e
first-behind (Err q) cs ds e = refl

-- two checks that are found as one
pub first_two : (a b : Checked) (cs : List Checked) → first (a ∷ b ∷ cs) ≡ first (first (a ∷ b ∷ []) ∷ cs)
first_two (Ok _) (Ok _) cs = refl
first_two (Ok _) (Err q) cs = refl
first_two (Err q) b cs = refl

-- a list of checks in two parts: the first part refuses, or what refuses is in the second
pub first-take : (n : ℕ) (cs : List Checked) {r : Refusal} → first (take n cs) ≡ Err r → first cs ≡ Err r
first-take zero [] e = e
first-take zero (c ∷ cs) e = not-refused (sym e)
first-take (suc n) [] e = e
first-take (suc n) (Ok _ ∷ cs) e = first-take n cs e
first-take (suc n) (Err q ∷ cs) e = e

pub first-drop : (n : ℕ) (cs : List Checked) → first (take n cs) ≡ Accepted → first cs ≡ first (drop n cs)
first-drop zero [] e = refl
first-drop zero (c ∷ cs) e = refl
first-drop (suc n) [] e = refl
first-drop (suc n) (Ok _ ∷ cs) e = first-drop n cs e
first-drop (suc n) (Err q ∷ cs) e = not-refused e

-- checks that accept don't matter to those behind them
pub first-append : (cs ds : List Checked) → first cs ≡ Accepted → first (cs ++ ds) ≡ first ds
first-append [] ds e = refl
first-append (Ok _ ∷ cs) ds e = first-append cs ds e
first-append (Err q ∷ cs) ds e = not-refused e

-- and what is refused first is refused first with more checks behind
pub refused-append : (cs ds : List Checked) (r : Refusal) → first cs ≡ Err r → first (cs ++ ds) ≡ Err r
refused-append [] ds r e = not-refused (sym e)
refused-append (Ok _ ∷ cs) ds r e = refused-append cs ds r e
refused-append (Err q ∷ cs) ds r e = e

pub accept-take : (n : ℕ) (cs : List Checked) → first cs ≡ Accepted → first (take n cs) ≡ Accepted
accept-take zero [] e = refl
accept-take zero (c ∷ cs) e = refl
accept-take (suc n) [] e = refl
accept-take (suc n) (Ok _ ∷ cs) e = accept-take n cs e
accept-take (suc n) (Err q ∷ cs) e = not-refused e

-- The first fault ----------------------------------------------------------------------------------------------------------------------

pub fault-unless : (b : Bool) (k : ℕ) → 1 ≤ k → fault_if b k ≡ 0 → b ≡ false
fault-unless true k l e = absurd (omega arith)
fault-unless false k l e = refl

fault-here : (fault : ℕ → ℕ) (i n : ℕ) → (fault i ≡ 0 → ⊥) → first_fault fault i (suc n) ≡ refuse (fault i) i
unfolding first_fault
fault-here fault i n h =
    by_bool (eqb (fault i) 0) (λ e. absurd (h (eqb-true _ _ e)))
    (λ e. ap (λ (b : Bool). pick b (first_fault fault (i + 1) n) (refuse (fault i) i)) e)

fault-later : (fault : ℕ → ℕ) (i n : ℕ) → fault i ≡ 0 → first_fault fault i (suc n) ≡ first_fault fault (i + 1) n
unfolding first_fault
fault-later fault i n h =
    ap (λ (b : Bool). pick b (first_fault fault (i + 1) n) (refuse (fault i) i)) (eq-eqb (fault i) 0 h)

-- the first fault of n places from i on is at the least of them that has one
record Found (fault : ℕ → ℕ) (i n : ℕ) (c : Checked) : Type 0 where
  none : c ≡ Accepted → (j : ℕ) → i ≤ j → j < i + n → fault j ≡ 0
  some : (r : Refusal) → c ≡ Err r
      → (i ≤ r.place) × (r.place < i + n) × (fault r.place ≡ r.number) × (1 ≤ r.number) × ((j : ℕ) → i ≤ j → j < r.place → fault j ≡ 0)

found : (fault : ℕ → ℕ) (i n : ℕ) → Found fault i n (first_fault fault i n)
unfolding first_fault
found fault i zero = record { none = λ e j l h. absurd (omega arith); some = λ r e. not-refused (sym e) }
found fault i (suc n) = go (ℕ_discrete (fault i) 0) (found fault (i + 1) n)
  where
    at : (j : ℕ) → i ≤ j → (i + 1 ≤ j → fault j ≡ 0) → fault i ≡ 0 → fault j ≡ 0
    at j l h e = elim (ℕ_discrete i j) [ yes p ↦ ap fault (sym p) ∙ e | no p ↦ h (omega arith) ]

    go : Dec (fault i ≡ 0) → Found fault (i + 1) n (first_fault fault (i + 1) n) → Found fault i (suc n) (first_fault fault i (suc n))
    go (yes e) f =
        rw (fault-later fault i n e)
        (record {
          none = λ a j l h. at j l (λ k. f.none a j k (omega arith)) e;
          some = λ r a.
              let g = f.some r a in
              (omega arith, omega arith, g.2, g.3, λ j l h. at j l (λ k. g.4 j k h) e);
        })
    go (no h) f =
        rw (fault-here fault i n h)
        (record {
          none = λ a. not-refused a;
          some = λ r a.
              let q = same-refusal a in
              let x : r.place ≡ i = ap (λ (r : Refusal). r.place) (sym q) in
              let y : fault i ≡ r.number = ap (λ (r : Refusal). r.number) q in
              (omega arith, omega arith, ap fault x ∙ y, omega (arith, h), λ j l k. absurd (omega arith));
        })

pub no-fault : (fault : ℕ → ℕ) (n : ℕ) → first_fault fault 0 n ≡ Accepted → (j : ℕ) → j < n → fault j ≡ 0
no-fault fault n e j l = (found fault 0 n).none e j (omega arith) (omega arith)

pub fault-number : (fault : ℕ → ℕ) (n : ℕ) (r : Refusal) → first_fault fault 0 n ≡ Err r → (fault r.place ≡ r.number) × (1 ≤ r.number)
fault-number fault n r e = let g = (found fault 0 n).some r e in (g.2, g.3)

pub first-place : (fault : ℕ → ℕ) (n : ℕ) → FirstPlace fault n (first_fault fault 0 n)
first-place fault n = go (first_fault fault 0 n) (found fault 0 n)
  where
    go : (c : Checked) → Found fault 0 n c → FirstPlace fault n c
    go (Ok _) f = record { none = λ e j l. f.none refl j (omega arith) (omega arith); some = λ l. absurd (omega arith) }
    go (Err r) f =
        let g = f.some r refl in
        record { none = λ e. absurd (omega (arith, g.3)); some = λ l. (omega arith, g.2, λ j l. g.4 j (omega arith) l) }

-- where no place has a fault, nothing is refused
pub faultless : (fault : ℕ → ℕ) (i n : ℕ) → ((j : ℕ) → i ≤ j → j < i + n → fault j ≡ 0) → first_fault fault i n ≡ Accepted
unfolding first_fault
faultless fault i zero h = refl
faultless fault i (suc n) h =
    fault-later fault i n (h i (omega arith) (omega arith)) ∙ faultless fault (i + 1) n (λ j l k. h j (omega arith) (omega arith))
