-- The netlist of parts that are accepted: both walks have room, and what they leave is what the compiler's ors ask for. Assumes nothing.
use mathlib.Core.Path.{◌≡◌, sym, ap, subst, ◌∙◌}
use mathlib.Core.List.{List, []}
use Prim.Native.Nat.{ℕ, ◌+◌, ◌≤◌}
use native.Mathlib.Omega.{arith}
use lib.ListN.{length}
use lib.Seq.{length-sets}
use Rattle.model.specs.declared.Options.{Options}
use Rattle.model.specs.Program.{Code, Program, roots}
use Rattle.model.specs.Numbering.{Source, delay_count, walk_count, calls_of, memory_at}
use Rattle.model.specs.PartCalls.{Part, part_at}
use Rattle.model.specs.PartPromises.{whole_statement, joined_program}
use Rattle.laws.specs.Numbering.Count.{fits}
use Rattle.laws.specs.Numbering.Parts.{net-length}
use Rattle.compiler.specs.declared.walk.Place.{Place}
use Rattle.compiler.specs.declared.whole.Clocks.{Clocks}
use Rattle.compiler.specs.declared.whole.Finished.{Finished}
use Rattle.compiler.specs.Whole.{root_marks, behind_arrays, RootsDone, Put, Clocked, Walked, Closing}
use Rattle.compiler.proofs.Roots.{earlier_more}
use Rattle.compiler.proofs.Sizes.{few}
use Rattle.joiner.specs.Stands.{Given, PartsReady}
use Rattle.joiner.proofs.Regions.{calls-none, walk-count, memory-is}
use Rattle.joiner.proofs.Chaining.{whole-formed, whole-earlier, whole-nodes, whole-fitting}

-- marks are put over marks
pub marks-long : {S : Program} {cs : List Source} {M : ℕ} {before after ms marked : List ℕ} {e : Place} → Put S cs M before after ms marked e → length marked ≡ 800
marks-long {S} {cs} {M} {ms = ms} p = ap length p.done.marks ∙ length-sets ms 0 (root_marks cs 0 (roots S) 3 (behind_arrays M)) ∙ p.long

module _ {options : Options} {ps : List Part} {n : ℕ} (G : Given options ps n) where
  abbrev S : Program
  S = joined_program ps

  abbrev P : Code
  P = whole_statement ps

  abbrev v : ℕ
  v = (part_at ps 0).pulse

  -- nothing is called
  no-calls : calls_of S ≡ []
  no-calls = calls-none v P (whole-earlier options ps G.accepted)

  ready : {M : ℕ} → M + 24 ≤ 627 → 3 + delay_count P ≤ behind_arrays M → behind_arrays M + walk_count P ≤ 627 → PartsReady options ps M n
  ready l a w =
      let k = few P in
      let h = whole-nodes options ps G.accepted in
      record {
        given = G;
        ready =
            record {
              formed = whole-formed options ps G.accepted;
              earlier = earlier_more 0 8 (omega arith) P (whole-earlier options ps G.accepted);
              memory = l;
              apart = a;
              room = omega (arith, w, G.size);
              small = omega (arith, G.size);
              marks = omega (arith, k, h);
              outs = omega (arith, k, h);
            };
      }

  -- the first walk, behind memory 179, and the second
  pub first-ready : PartsReady options ps 179 n
  first-ready =
      let k = few P in
      let h = whole-nodes options ps G.accepted in
      ready (omega arith) (omega (arith, k, h)) (omega (arith, k, h))

  pub last-ready : {M : ℕ} → M ≡ memory_at S → PartsReady options ps M n
  last-ready m =
      let u = whole-earlier options ps G.accepted in
      let most = (fits S (whole-fitting options ps G.accepted).nodes).1 in
      let size = net-length S in
      ready (omega (arith, m, size, most)) (omega (arith, m, memory-is v P u)) (omega (arith, m, size, most, walk-count v P u))

  -- what they leave
  pub first-put : {before after ms marked : List ℕ} {e : Place} → RootsDone S [] 179 before after ms marked e → length ms ≡ 800 → length after ≡ n
      → Put S [] 179 before after ms marked e
  first-put d l k = record { fitting = whole-fitting options ps G.accepted; done = d; long = l; size = k ∙ G.size }

  pub last-put : {M : ℕ} {before after ms marked : List ℕ} {e : Place} → M ≡ memory_at S → RootsDone S [] M before after ms marked e → length ms ≡ 800
      → length after ≡ n → Put S (calls_of S) (memory_at S) before after ms marked e
  last-put {before = before} {after} {ms} {marked} {e} m d l k =
      record {
        fitting = whole-fitting options ps G.accepted;
        done = subst (λ (cs : List Source). RootsDone S cs (memory_at S) before after ms marked e) (sym no-calls) (rw m at d);
        long = l;
        size = k ∙ G.size;
      }

  pub closing : {ms before after : List ℕ} {k : Clocks} {w : Finished} → Clocked S ms before k → Walked S before after w → length after ≡ n → Closing S after k w
  closing c w l = record { fitting = whole-fitting options ps G.accepted; ms = _; before = _; clocks = c; walk = w; size = l ∙ G.size }
