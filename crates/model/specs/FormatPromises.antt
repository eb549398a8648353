-- What is promised of full and compact states of one run, as a type.
-- The proof is in crate theory, file Promises/Formats: same-wires.
-- Assumes nothing: definitions.
use Rattle.std.specs.Prelude.{◌≡◌, List, [], ◌∷◌, map, ℕ, ◌<◌, ltb, length, take}
use Rattle.model.specs.declared.Options.{Options}
use Rattle.model.specs.declared.Format.TheVariants.{Full, Compact}
use Rattle.model.specs.declared.Answer.{Answer}
use Rattle.model.specs.Refusals.{number_of, Accepted, Done}
use Rattle.model.specs.Circuit.{Netlist}
use Rattle.model.specs.NetlistFile.{net_of}
use Rattle.model.specs.State.{instant_of, flight_of, state_size, now_at, before_at, element_now}
use Rattle.model.specs.Calls.{Returned, verdict, compile_call, begin_call}
use Rattle.model.specs.RunPromises.{Request, Call, replay}

-- a full and a compact state show the same instant, the same number in flight, the same wires and the same elements
pub record Alike (net : Netlist) (full compact : List ℕ) : Type 0 where
  pub instant : instant_of full ≡ instant_of compact
  pub number : flight_of full ≡ flight_of compact
  pub wires : (k : ℕ) → k < length net.cells → now_at Full full k ≡ now_at Compact compact k
  pub before : (k : ℕ) → k < length net.cells → before_at Full full k ≡ before_at Compact compact k
  pub elements : (n : ℕ) → n < 256 → element_now Full net full n ≡ element_now Compact net compact n

-- a call on a full state and one on a compact state: what they answer, and what they leave
pub record Same (net : Netlist) (full compact : Returned Answer) : Type 0 where
  pub answer : full.answer ≡ compact.answer
  pub left : Alike net full.lent compact.lent
  pub free : number_of (verdict compact.answer.outcome) ≡ 26 → ⊥

abbrev pub AllSame : Netlist → List (Returned Answer) → List (Returned Answer) → Type 0
AllSame net [] [] = Unit {0}
AllSame net [] (q ∷ qs) = ⊥
AllSame net (r ∷ rs) [] = ⊥
AllSame net (r ∷ rs) (q ∷ qs) = Same net r q × AllSame net rs qs

-- a call in both formats: the same request, with the first bytes of each buffer
pub record Twice : Type 0 where
  pub request : Request
  pub full : ℕ
  pub compact : ℕ

abbrev pub on_full : List Twice → List Call
on_full cs = map (λ c. record { request = c.request; lent = c.full }) cs

abbrev pub on_compact : List Twice → List Call
on_compact cs = map (λ c. record { request = c.request; lent = c.compact }) cs

-- what is lent is too short for both states, so that 14 refuses both calls, or for neither
abbrev pub Fair : ℕ → ℕ → List Twice → Type 0
Fair full compact [] = Unit {0}
Fair full compact (c ∷ cs) = (ltb c.full full ≡ ltb c.compact compact) × Fair full compact cs

-- "For every compiled program, begun alike and given the same calls, both states show the same wires at every instant." Continuings by 1 are among the
-- calls, so this is of every instant. A compact state is begun only with pulses of one instant (27). "Show that no compiled program meets it [26] in a
-- state that only these calls have made from a beginning."
unfoldable pub SameWires : Type 0
SameWires =
    (options : Options) (program for_file words for_full for_compact : List ℕ) (calls : List Twice) (n f : ℕ)
    → (compile_call options program for_file).answer ≡ Done n f →
    let file = take n (compile_call options program for_file).lent in
    let full = begin_call Full file words for_full in
    let compact = begin_call Compact file words for_compact in
    verdict full.answer.outcome ≡ Accepted → verdict compact.answer.outcome ≡ Accepted
    → Fair (state_size Full (net_of file)) (state_size Compact (net_of file)) calls
    → AllSame (net_of file) (full ∷ replay Full file full.lent (on_full calls)) (compact ∷ replay Compact file compact.lent (on_compact calls))
