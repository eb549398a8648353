-- Where a list of calls stands, by the rules alone: the clauses of `next`, and the instants of the start pulses, none of which lies behind where the list
-- stands but that of the run itself.
-- Assumes nothing.
use Rattle.std.specs.Prelude.{◌≡◌, ◌⊎◌, Bool, ◌&&◌, ◌||◌, ℕ, suc, ◌+◌, ◌-◌, ◌≤◌, ◌<◌, ltb}
use Rattle.std.proofs.Math.Path.{refl, ap}
use Rattle.std.proofs.Common.{sym, ◌∙◌, inl, arith, lt-ltb, le-ltb, eq-eqb, ne_eqb}
use Rattle.std.proofs.Math.Logic.{inr, ⊎_elim}
use Rattle.std.proofs.Math.Bool.{true, false}
use mathlib.Core.List.{List, [], ◌∷◌}
use Rattle.std.proofs.Math.Dec.{eqb}
use Rattle.model.specs.Rules.{Store, Run, at_end, at_exit, done, ended, still}
use Rattle.model.specs.Circuit.{Sig}
use Rattle.model.specs.CircuitPromises.{stops_at, NoStart, ended_if}
use Rattle.model.specs.RunPromises.{Request, continuing, start, Call, seen, Stand, stand, Runs, run_at, due_at, Next, refuses, after_continuing, pulsed, after_start, after_request, next, stands, starts_of}
use Rattle.laws.specs.Refusals.Laws.{by_le}
use Rattle.theory.specs.State.Running.{stops-ge}

-- The clauses ---------------------------------------------------------------------------------------------------------------------------

module _ (w : ℕ) (rules : Runs) (size : ℕ) (st : Stand) where
  pub next-short : (c : Call) → c.lent < size → next w rules size st c ≡ refuses 14 st
  unfolding next
  next-short c h =
      ap (λ (b : Bool). elim b as (λ z. Next) [ true ↦ refuses 14 st | false ↦ after_request w rules st c.request ]) (lt-ltb c.lent size h)

  pub next-long : (c : Call) → size ≤ c.lent → next w rules size st c ≡ after_request w rules st c.request
  unfolding next
  next-long c h =
      ap (λ (b : Bool). elim b as (λ z. Next) [ true ↦ refuses 14 st | false ↦ after_request w rules st c.request ]) (le-ltb c.lent size h)

  -- a continuing stops at t
  abbrev pub stopped : ℕ → Next
  stopped t = record { tells = seen (ended_if (due_at w rules st t)) t (t - st.now); after = stand st.begun st.from t }

  continued : (n : ℕ) (b : Bool) → ltb 1000000 (st.now + n) ≡ b
      → after_continuing w rules st n ≡ elim b as (λ z. Next) [ true ↦ refuses 16 st | false ↦ stopped (stops_at (due_at w rules st) st.now n) ]
  unfolding after_continuing
  continued n b e =
      ap (λ (b : Bool). elim b as (λ z. Next) [ true ↦ refuses 16 st | false ↦ stopped (stops_at (due_at w rules st) st.now n) ]) e

  pub continues-late : (n : ℕ) → 1000000 < st.now + n → after_continuing w rules st n ≡ refuses 16 st
  continues-late n h = continued n true (lt-ltb 1000000 (st.now + n) h)

  pub continues-now : (n : ℕ) → st.now + n ≤ 1000000 → after_continuing w rules st n ≡ stopped (stops_at (due_at w rules st) st.now n)
  continues-now n h = continued n false (le-ltb 1000000 (st.now + n) h)

  started : (b : Bool) → ltb 1000000 (st.now + 1) ≡ b
      → after_start w rules st ≡ elim b as (λ z. Next) [ true ↦ refuses 16 st | false ↦ pulsed w rules st (run_at rules st st.now) ]
  unfolding after_start
  started b e = ap (λ (b : Bool). elim b as (λ z. Next) [ true ↦ refuses 16 st | false ↦ pulsed w rules st (run_at rules st st.now) ]) e

  pub start-late : 1000000 < st.now + 1 → after_start w rules st ≡ refuses 16 st
  start-late h = started true (lt-ltb 1000000 (st.now + 1) h)

  pub start-now : st.now + 1 ≤ 1000000 → after_start w rules st ≡ pulsed w rules st (run_at rules st st.now)
  start-now h = started false (le-ltb 1000000 (st.now + 1) h)

-- a start that is given: a new run begins in the next instant
abbrev pub anew : ℕ → Runs → Stand → Store → Next
anew w rules st σ =
    let s = suc st.now in
    let fresh = stand s (rules.anew σ) s in
    record { tells = seen (ended_if (due_at w rules fresh s)) s 1; after = fresh }

-- Where a call takes the list -----------------------------------------------------------------------------------------------------------

-- the run goes on, or it has ended and a new one begins in the next instant
pub record On (st st' : Stand) : Type 0 where
  pub begun : st'.begun ≡ st.begun
  pub from : st'.from ≡ st.from
  pub now : st.now ≤ st'.now

pub record Anew (rules : Runs) (st st' : Stand) : Type 0 where
  pub time : ℕ
  pub words : Store
  pub ending : run_at rules st st.now ≡ ended time words
  pub begun : st'.begun ≡ suc st.now
  pub now : st'.now ≡ suc st.now

abbrev Moves : Runs → Stand → Stand → Type 0
Moves rules st st' = On st st' ⊎ Anew rules st st'

stays : (rules : Runs) (st : Stand) → Moves rules st st
stays rules st = inl (record { begun = refl; from = refl; now = omega arith })

module _ (w : ℕ) (rules : Runs) (size : ℕ) where
  pulsed-moves : (st : Stand) (r : Run) → run_at rules st st.now ≡ r → Moves rules st (pulsed w rules st r).after
  unfolding pulsed
  pulsed-moves st (done at_end t σ) e = go (ltb 1 w && due_at w rules st st.now)
    where
      go : (b : Bool) → Moves rules st (elim b as (λ z. Next) [ true ↦ refuses 23 st | false ↦ anew w rules st σ ]).after
      go true = stays rules st
      go false = inr (record { time = t; words = σ; ending = e; begun = refl; now = refl })
  pulsed-moves st (done at_exit t σ) e = stays rules st
  pulsed-moves st still e = stays rules st

  request-moves : (st : Stand) (q : Request) → Moves rules st (after_request w rules st q).after
  unfolding after_request
  request-moves st (continuing n) =
      by_le (st.now + n) 1000000
      (λ h. rw (continues-now w rules size st n h) (inl (record { begun = refl; from = refl; now = stops-ge (due_at w rules st) n st.now })))
      (λ h. rw (continues-late w rules size st n h) (stays rules st))
  request-moves st start =
      by_le (st.now + 1) 1000000 (λ h. rw (start-now w rules size st h) (pulsed-moves st (run_at rules st st.now) refl))
      (λ h. rw (start-late w rules size st h) (stays rules st))

  pub moves : (st : Stand) (c : Call) → Moves rules st (next w rules size st c).after
  moves st c =
      by_le size c.lent (λ h. rw (next-long w rules size st c h) (request-moves st c.request))
      (λ h. rw (next-short w rules size st c h) (stays rules st))

  -- no start pulse lies behind where the list stands, but that of the run itself
  pub none-behind : (cs : List Call) (st : Stand) (v : ℕ) → (st.begun ≡ v → ⊥) → v ≤ st.now → starts_of (stands w rules size st cs) v ≡ false
  unfolding stands starts_of
  none-behind [] st v p l = refl
  none-behind (c ∷ cs) st v p l =
      let st' = (next w rules size st c).after in
      let other : (st'.begun ≡ v → ⊥) → v ≤ st'.now → (eqb st'.begun v || starts_of (stands w rules size st' cs) v) ≡ false =
      λ q k. rw (ne_eqb st'.begun v q) (none-behind cs st' v q k) in
      ⊎_elim (λ m. other (λ e. p (sym m.begun ∙ e)) (omega (arith, m.now))) (λ m. other (λ e. omega (arith, m.begun)) (omega (arith, m.now))) (moves st c)

  -- and where the run has no end before an instant, no other begins there
  pub none_ahead : (cs : List Call) (st : Stand) → st.begun ≤ st.now → (v : ℕ)
      → ((k t : ℕ) (σ : Store) → st.begun + k < v → rules.within st.from k ≡ ended t σ → ⊥) → (st.begun ≡ v → ⊥)
      → starts_of (stands w rules size st cs) v ≡ false
  unfolding stands starts_of
  none_ahead [] st l v h p = refl
  none_ahead (c ∷ cs) st l v h p =
      let st' = (next w rules size st c).after in
      ⊎_elim
      (λ m.
      let q : st'.begun ≡ v → ⊥ = λ e. p (sym m.begun ∙ e) in
      let h' : (k t : ℕ) (σ : Store) → st'.begun + k < v → rules.within st'.from k ≡ ended t σ → ⊥ =
      λ k t σ g e. h k t σ (omega (arith, m.begun)) (ap (λ (τ : Store). rules.within τ k) (sym m.from) ∙ e) in
      rw (ne_eqb st'.begun v q) (none_ahead cs st' (omega (arith, m.begun, m.now)) v h' q))
      (λ m. by_le v st.now (none-behind (c ∷ cs) st v p) (λ g. absurd (h (st.now - st.begun) m.time m.words (omega arith) m.ending))) (moves st c)

  -- The start instants as they are, where the list stands at st and these calls are to come ----------------------------------------------

  pub record Given (starts : Sig) (st : Stand) (cs : List Call) : Type 0 where
    pub since : st.begun ≤ st.now
    pub none : NoStart starts st.begun st.now
    pub ahead : (v : ℕ) → st.now < v → starts v ≡ starts_of (stands w rules size st cs) v

  -- those of a whole list
  pub given-first : (σ : Store) (cs : List Call) → Given (starts_of (stand 0 σ 0 ∷ stands w rules size (stand 0 σ 0) cs)) (stand 0 σ 0) cs
  unfolding starts_of
  given-first σ cs =
      record {
        since = omega arith;
        none = λ u l k. absurd (omega arith);
        ahead = λ v l. ap (λ (b : Bool). b || starts_of (stands w rules size (stand 0 σ 0) cs) v) (ne_eqb 0 v (λ e. omega arith));
      }

  module _ (starts : Sig) (st : Stand) (c : Call) (cs : List Call) (G : Given starts st (c ∷ cs)) (st' : Stand) (e : (next w rules size st c).after ≡ st') where
    coming : (v : ℕ) → st.now < v → starts v ≡ (eqb st'.begun v || starts_of (stands w rules size st' cs) v)
    unfolding stands starts_of
    coming v l = G.ahead v l ∙ ap (λ (x : Stand). eqb x.begun v || starts_of (stands w rules size x cs) v) e

    -- after a call that leaves the run: no pulse has come
    pub given-on : On st st' → Given starts st' cs
    given-on m =
        record {
          since = omega (arith, G.since, m.begun, m.now);
          none = λ u l k.
              by_le u st.now (λ h. G.none u (omega (arith, m.begun)) h)
              (λ h.
              let q : st'.begun ≡ u → ⊥ = λ z. omega arith in
              coming u h ∙ rw (ne_eqb st'.begun u q) (none-behind cs st' u q k));
          ahead = λ v l.
              let q : st'.begun ≡ v → ⊥ = λ z. omega (arith, G.since, m.begun, m.now) in
              coming v (omega (arith, m.now)) ∙ rw (ne_eqb st'.begun v q) refl;
        }

    -- after one that begins a new run: its pulse comes in the next instant
    module _ (begun : st'.begun ≡ suc st.now) (now : st'.now ≡ suc st.now) where
      pub given-pulse : starts (suc st.now) ≡ true
      given-pulse = coming (suc st.now) (omega arith) ∙ rw (eq-eqb st'.begun (suc st.now) begun) refl

      pub given-anew : Given starts st' cs
      given-anew =
          record {
            since = omega (arith, begun, now);
            none = λ u l k. absurd (omega (arith, begun, now));
            ahead = λ v l.
                let q : st'.begun ≡ v → ⊥ = λ z. omega (arith, begun, now) in
                coming v (omega (arith, now)) ∙ rw (ne_eqb st'.begun v q) refl;
          }

  -- a run that has no end up to an instant has no other after it by then
  pub given-alone : (starts : Sig) (st : Stand) (cs : List Call) → Given starts st cs → (t : ℕ)
      → ((k u : ℕ) (σ : Store) → st.begun + k ≤ t → rules.within st.from k ≡ ended u σ → ⊥) → NoStart starts st.begun t
  given-alone starts st cs G t h u l k =
      by_le u st.now (λ z. G.none u l z)
      (λ z. G.ahead u z ∙ none_ahead cs st G.since u (λ i v σ g e. h i v σ (omega arith) e) (λ e. omega arith))
