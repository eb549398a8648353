-- A program's netlist from its parts: what is known of an accepted program and its roots, what the two walks and the ors ask and leave, and how
-- the parts make the whole. What the first walk puts in does not matter, but for its marks. Assumes nothing.
use mathlib.Core.Path.{◌≡◌, refl, sym, ◌∙◌, ap, subst}
use mathlib.Core.List.{List, [], ◌++◌, append_assoc}
use Prim.Native.Nat.{ℕ, ◌+◌, ◌-◌, ◌*◌, ◌/◌, ◌≤◌, ◌<◌}
use native.Mathlib.Omega.{arith}
use lib.ListN.{length, set, take, drop, length-append, length-drop}
use lib.Seq.{sets, length-sets}
use Rattle.model.specs.declared.Cell.{Cell}
use Rattle.model.specs.Program.{node_count, stmt_at, Program, program_of, roots}
use Rattle.model.specs.NetlistFile.{cell_bytes, cells_at, in_list}
use Rattle.model.specs.Numbering.{memory_wires, Source, data_sources, address_sources, wires_of, or_count_from, idle_start, root_delay_count, root_walk_count, root_walk_sources, calls_of, clocks_of, data_of, addresses_of}
use Rattle.model.specs.Numbering.{clock_at, memory_at, arrays_at, walk_place, data_at, address_at, clock_wires, data_wires, address_wires, procedures, finish_of_root, head_cells, memories_of, arrays_of, netlist, finish}
use Rattle.laws.specs.Numbering.Lengths.{root-d-len, root-w-len}
use Rattle.laws.specs.Numbering.Parts.{delay_cells, clock_ors, memory_cells, array_cells, walk_cells, data_ors, address_ors, ors_from-len, outs-len, mems-len, arrays-len, net-length}
use Rattle.laws.specs.Numbering.Count.{root_nodes, fits}
use Rattle.laws.specs.Program.Fit.{Formed, Earlier}
use Rattle.laws.specs.Program.Accepted.{program-fit}
use Rattle.laws.specs.Program.Enclosed.{root_at, root-earlier}
use Rattle.laws.specs.Program.Passed.{Readable, accepted, count-bodies}
use Rattle.laws.specs.Program.Size.{few-nodes, every-root}
use Rattle.laws.specs.NetlistFile.CellBytes.{from_bytes, cells_are, bytes-length}
use Rattle.word.proofs.Puts.{overwrite-sets}
use Rattle.program.specs.Ends.{skips}
use Rattle.program.specs.Roots.{Rooted, count-roots, root_is}
use Rattle.compiler.specs.declared.walk.Place.{Place}
use Rattle.compiler.specs.declared.ors.Ors.{Ors}
use Rattle.compiler.specs.declared.ors.Joint.{Joint}
use Rattle.compiler.specs.declared.whole.Clocks.{Clocks}
use Rattle.compiler.specs.declared.whole.Finished.{Finished}
use Rattle.compiler.specs.Writes.{write, both}
use Rattle.compiler.specs.Walk.{finish_in}
use Rattle.compiler.specs.Ors.{sources_from, sources_in, OrsReady, Ored}
use Rattle.compiler.specs.Whole.{Given, Fitting, callers_in, Told, Calls, RootReady, RootDone, root_assignments, root_marks, behind_arrays, RootsReady, RootsDone, Put, Clocked, Walked, Made, Closing}
use Rattle.compiler.proofs.Writes.{write-append, write-before, write-length}
use Rattle.compiler.proofs.Sizes.{few, few-roots, one-root}
use Rattle.compiler.proofs.Marks.{sources-taken, clock-marks, call-marks, data-marks, index-marks}
use Rattle.compiler.proofs.Joining.{counts-alike, ored-alike}
use Rattle.compiler.proofs.Roots.{Rooting, room-delays, room-walk, room-marks, earlier_more, rooting-more, rooting-end}

-- How wires are joined -----------------------------------------------------------------------------------------------------------------

abbrev pub clock_joint : Joint
clock_joint = record { kind = 35; none = 1; mark = 1; first = 0 }

abbrev pub data_joint : Joint
data_joint = record { kind = 7; none = 2; mark = 2; first = 0 }

abbrev pub address_joint : Joint
address_joint = record { kind = 7; none = 2; mark = 3; first = 16 }

-- no marks tell no calls
pub no-callers : Calls [] []
unfolding sources_in wires_of
no-callers p = refl

-- the marks of the calls alone tell them
pub calls-told : {cs : List Source} {ms : List ℕ} {n : ℕ} → Told cs ms n → length ms ≡ 800 → Calls cs (take (4 * n) ms)
calls-told {cs} {ms} {n} T l p =
    let h : 4 * n ≤ length ms = omega (arith, T.few) in
    ap (wires_of (20 + p)) (sources-taken 1 (omega arith) n ms h) ∙ T.calls p

-- An accepted program ------------------------------------------------------------------------------------------------------------------

record Facts (pulse k : ℕ) (s : List ℕ) : Type 0 where
  readable : Readable k s
  formed : (r : ℕ) → Formed (root_at (program_of pulse k s) r)
  earlier : (r : ℕ) → r < length (roots (program_of pulse k s)) → Earlier r (root_at (program_of pulse k s) r)
  nodes : root_nodes (roots (program_of pulse k s)) ≤ 200

module _ {pulse k : ℕ} {s ends : List ℕ} {n : ℕ} (G : Given pulse k s ends n) where
  abbrev S : Program
  S = program_of pulse k s

  facts : Facts pulse k s
  facts =
      subst (λ (k : ℕ). Facts pulse k s) G.count
      (subst (λ (w : ℕ). Facts w G.options.procedures s) G.pulse
      (record {
        readable = (accepted G.options s G.accepted).readable;
        formed = λ r. (program-fit G.options s G.accepted r).formed;
        earlier = root-earlier G.options s G.accepted;
        nodes = few-nodes G.options s G.accepted;
      }))

  pub few-procedures : k ≤ 8
  few-procedures = facts.readable.few

  rooted : Rooted k s ends
  rooted = record { readable = facts.readable; laid = G.laid }

  bodies : procedures S ≡ k
  bodies = count-bodies k s facts.readable pulse

  -- the roots do not depend on the length of a pulse
  counted : length (roots S) ≡ k + 1
  unfolding program_of
  counted = count-roots rooted

  root-here : (r i : ℕ) → r ≤ k → i ≡ skips ends (node_count s) r 0 → stmt_at s i ≡ root_at S r
  unfolding program_of
  root-here r i l e = root_is rooted r i l e

  pub fitting : Fitting S
  fitting = record { formed = every-root (λ r P. Formed P) 0 (roots S) (λ j l. facts.formed j); nodes = facts.nodes }

  -- Roots ------------------------------------------------------------------------------------------------------------------------------

  module _ (ms : List ℕ) {M : ℕ} {cs : List Source} (T : Calls cs ms) (apart : 3 + root_delay_count (roots S) ≤ behind_arrays M)
      {before marked cells marks finishes : List ℕ} {p : Place} {r i : ℕ} (C : Rooting S cs M before marked cells marks finishes p r) (l : r ≤ k)
      (e : i ≡ skips ends (node_count s) r 0) where
    inside : r < length (roots S)
    inside = omega (arith, counted)

    pub root-ready : behind_arrays M + root_walk_count cs 0 (roots S) ≤ 627 → RootReady M (callers_in ms r) (stmt_at s i) p n
    root-ready room =
        rw (T r, root-here r i l e)
        (record {
          apart = omega (arith, room-delays S cs M C inside, C.onward);
          walk =
              record {
                formed = facts.formed r;
                earlier = earlier_more r 8 (omega (arith, few-procedures)) (root_at S r) (facts.earlier r inside);
                memory = omega arith;
                apart = omega (arith, room-delays S cs M C inside, C.onward);
                room = omega (arith, room-walk S cs M C inside, G.size);
                small = omega (arith, G.size);
                marks = omega (arith, room-marks S cs M C inside, few-roots 0 (roots S), facts.nodes);
                outs = omega (arith, few (root_at S r), one-root (roots S) r inside, facts.nodes);
              };
        })

    pub root-further : {after remarked : List ℕ} {q : Place} {idle : ℕ} → idle ≡ idle_start k r → length after ≡ length cells
        → RootDone pulse M (finish_in finishes) idle (callers_in ms r) (stmt_at s i) p cells after marks remarked q
        → Rooting S cs M before marked after remarked (set finishes r q.wire) q (r + 1)
    unfolding program_of
    root-further z same u =
        rooting-more S cs M C inside (omega (arith, few-procedures)) apart (facts.earlier r inside)
        (rw (z ∙ ap (λ (j : ℕ). idle_start j r) (sym bodies), T r, root-here r i l e) at u) same

  pub roots-end : {cs : List Source} {M : ℕ} {before marked cells marks finishes : List ℕ} {p : Place} {r : ℕ}
      → Rooting S cs M before marked cells marks finishes p r → r ≡ k + 1 → RootsDone S cs M before cells marked marks p
  roots-end C e = rooting-end S _ _ C (omega (arith, counted)) (omega (arith, bodies))

  -- Parts ------------------------------------------------------------------------------------------------------------------------------

  -- the first walk
  pub first-ready : RootsReady pulse k s ends [] 179 n
  first-ready =
      record {
        given = G;
        calls = [];
        told = no-callers;
        apart = omega (arith, few-roots 0 (roots S), facts.nodes);
        room = omega (arith, few-roots 0 (roots S), facts.nodes);
      }

  -- the second walk
  pub walk-ready : {M : ℕ} → M ≡ memory_at S → (ms : List ℕ) → Calls (calls_of S) ms → RootsReady pulse k s ends ms M n
  walk-ready m ms T =
      record { given = G; calls = calls_of S; told = T; apart = omega (arith, m); room = omega (arith, m, net-length S, (fits S facts.nodes).1) }

  -- what a walk leaves, and what is there before the memories
  pub all-put : {cs : List Source} {M : ℕ} {before after ms marked : List ℕ} {e : Place} → RootsDone S cs M before after ms marked e → length ms ≡ 800
      → length after ≡ n → Put S cs M before after ms marked e
  all-put done long kept = record { fitting = fitting; done = done; long = long; size = kept ∙ G.size }

  pub all-closing : {ms before after : List ℕ} {c : Clocks} {w : Finished} → Clocked S ms before c → Walked S before after w → length after ≡ n
      → Closing S after c w
  all-closing clocks walk kept = record { fitting = fitting; ms = _; before = _; clocks = clocks; walk = walk; size = kept ∙ G.size }

-- Ors ------------------------------------------------------------------------------------------------------------------------------------

module _ {S : Program} (f : Fitting S) where
  most : length (netlist S) ≤ 627
  most = (fits S f.nodes).1

  assigned : root_assignments (roots S) ≤ 200
  assigned = omega (arith, few-roots 0 (roots S), f.nodes)

  pub walk-low : {M : ℕ} → M ≡ memory_at S → M + 24 ≤ 627
  walk-low m = omega (arith, m, net-length S, most)

-- what the marks of a walk tell
module _ {S : Program} {cs : List Source} {M : ℕ} {before after ms marked : List ℕ} {e : Place} (p : Put S cs M before after ms marked e) where
  u : RootsDone S cs M before after ms marked e
  u = p.done

  marked-count : e.mark / 4 ≡ root_assignments (roots S)
  marked-count = omega (arith, u.mark)

  few-marks : root_assignments (roots S) ≤ 200
  few-marks = assigned p.fitting

  long : 4 * root_assignments (roots S) ≤ length ms
  long = omega (arith, few-marks, p.long)

  marked-calls : Told (calls_of S) marked (e.mark / 4)
  marked-calls =
      record {
        few = omega (arith, marked-count, few-marks);
        calls = λ q. rw (marked-count, u.marks) (call-marks cs (roots S) 3 (behind_arrays M) p.fitting.formed ms long q);
      }

  -- the marks that have been put in, which lie in their array
  pub own-marks : 4 * (e.mark / 4) ≤ length marked
  own-marks = rw u.marks (omega (arith, marked-count, long, length-sets ms 0 (root_marks cs 0 (roots S) 3 (behind_arrays M))))

  abbrev own : List ℕ
  own = take (4 * (e.mark / 4)) marked

  own-told : (f y : ℕ) → f ≤ 3 → wires_of y (sources_in f own) ≡ wires_of y (sources_from f marked 0 (e.mark / 4))
  own-told f y h = ap (wires_of y) (sources-taken f h (e.mark / 4) marked own-marks)

  marked-clocks : (y : ℕ) → 0 ≤ y → y < 0 + 20 → wires_of y (sources_in 1 own) ≡ wires_of y (clocks_of S)
  marked-clocks y g h = own-told 1 y (omega arith) ∙ rw (marked-count, u.marks) (clock-marks cs (roots S) 3 (behind_arrays M) p.fitting.formed ms long y h)

  marked-datas : (y : ℕ) → 0 ≤ y → y < 0 + 20
      → wires_of y (sources_in 2 own) ≡ wires_of y (root_walk_sources data_sources cs 0 (roots S) (behind_arrays M))
  marked-datas y g h = own-told 2 y (omega arith) ∙ rw (marked-count, u.marks) (data-marks cs (roots S) 3 (behind_arrays M) p.fitting.formed ms long y h)

  marked-indices : (y : ℕ) → 16 ≤ y → y < 16 + 4
      → wires_of y (sources_in 3 own) ≡ wires_of y (root_walk_sources address_sources cs 0 (roots S) (behind_arrays M))
  marked-indices y g h = own-told 3 y (omega arith) ∙ rw (marked-count, u.marks) (index-marks cs (roots S) 3 (behind_arrays M) p.fitting.formed ms long y h g)

  -- ors of these
  ready : (j : Joint) (ps : List Source) {c n : ℕ} → n ≡ 3762 → j.mark ≤ 3 → j.first ≤ 20
      → ((y : ℕ) → j.first ≤ y → y < j.first + (20 - j.first) → wires_of y (sources_in j.mark (take (4 * (e.mark / 4)) marked)) ≡ wires_of y ps)
      → c + or_count_from ps j.first (20 - j.first) ≤ 627
      → OrsReady j c (or_count_from (sources_in j.mark (take (4 * (e.mark / 4)) marked)) j.first (20 - j.first)) n
  ready j ps size m f alike room =
      rw (counts-alike (sources_in j.mark (take (4 * (e.mark / 4)) marked)) ps j.first (20 - j.first) alike)
      (record {
        mark = m;
        first = f;
        room = omega (arith, room, size);
        small = omega (arith, size);
      })

-- the clock ors, by the first walk
module _ {S : Program} {before first ms marked : List ℕ} {e : Place} (p : Put S [] 179 before first ms marked e) where
  pub clocks-ready : OrsReady clock_joint e.delay (or_count_from (sources_in 1 (take (4 * (e.mark / 4)) marked)) 0 20) (length first)
  clocks-ready =
      ready p clock_joint (clocks_of S) p.size (omega arith) (omega arith) (marked-clocks p) (omega (arith, p.done.delay, net-length S, most p.fitting))

  pub clocked : {after : List ℕ} {r : Ors} → Ored clock_joint e.delay (sources_in 1 (take (4 * (e.mark / 4)) marked)) first after r
      → Clocked S marked after (record { wires = r.wires; memory = r.next; count = e.mark / 4 })
  clocked v₀ =
      let v = rw p.done.delay at (ored-alike _ _ (marked-clocks p) v₀) in
      record { first = first; cells = v.cells; wires = v.wires; memory = v.next; told = marked-calls p }

-- the ors of words, by the second
module _ {S : Program} {before mid ms marked : List ℕ} {e : Place} (p : Put S (calls_of S) (memory_at S) before mid ms marked e) where
  pub datas-ready : OrsReady data_joint e.cell (or_count_from (sources_in 2 (take (4 * (e.mark / 4)) marked)) 0 20) (length mid)
  datas-ready =
      ready p data_joint (data_of S) p.size (omega arith) (omega arith) (marked-datas p) (omega (arith, p.done.cell, net-length S, most p.fitting))

  module _ {mid₂ : List ℕ} {q : Ors} (v₀ : Ored data_joint e.cell (sources_in 2 (take (4 * (e.mark / 4)) marked)) mid mid₂ q) where
    v : Ored data_joint (data_at S) (data_of S) mid mid₂ q
    v = rw p.done.cell at (ored-alike _ _ (marked-datas p) v₀)

    pub addresses-ready : OrsReady address_joint q.next (or_count_from (sources_in 3 (take (4 * (e.mark / 4)) marked)) 16 4) (length mid)
    addresses-ready =
        ready p address_joint (addresses_of S) p.size (omega arith) (omega arith) (marked-indices p) (omega (arith, v.next, net-length S, most p.fitting))

    pub walked : {after : List ℕ} {r : Ors} → Ored address_joint q.next (sources_in 3 (take (4 * (e.mark / 4)) marked)) mid₂ after r
        → Walked S before after (record { wires = q.wires; addresses = r.wires; count = r.next; finish = e.wire; ors = e.cell })
    unfolding finish finish_of_root
    walked w₀ =
        let w = rw v.next at (ored-alike _ _ (marked-indices p) w₀) in
        record {
          cells = rw (v.cells, p.done.cells) at w.cells;
          wires = v.wires;
          addresses = w.wires;
          count = w.next ∙ sym (net-length S);
          finish = p.done.wire;
          ors = p.done.cell;
        }

pub clock-twenty : {S : Program} {ms b : List ℕ} {r : Clocks} → Clocked S ms b r → length r.wires ≡ 20
clock-twenty {S} K = ap length K.wires ∙ outs-len 1 (clocks_of S) (clock_at S) 0 20

pub data-twenty : {S : Program} {b a : List ℕ} {r : Finished} → Walked S b a r → length r.wires ≡ 20
data-twenty {S} W = ap length W.wires ∙ outs-len 2 (data_of S) (data_at S) 0 20

pub address-twenty : {S : Program} {b a : List ℕ} {r : Finished} → Walked S b a r → length r.addresses ≡ 20
address-twenty {S} {r = r} W =
    let four = sym (length-drop 16 r.addresses) ∙ ap length W.addresses ∙ outs-len 2 (addresses_of S) (address_at S) 16 4 in
    omega (arith, four)

-- The whole ----------------------------------------------------------------------------------------------------------------------------

module _ (S : Program) (first : List ℕ) where
  -- the cells in the order in which they are put in
  abbrev walk_put : List ℕ
  walk_put = both 3 (delay_cells S) (walk_place S) (walk_cells S) (write (clock_at S) (clock_ors S) first)

  abbrev ors_put : List ℕ
  ors_put = write (address_at S) (address_ors S) (write (data_at S) (data_ors S) walk_put)

  assembled : write 0 head_cells (write (arrays_at S) (array_cells S) (write (memory_at S) (memory_cells S) ors_put)) ≡ write 0 (netlist S) first
  unfolding netlist both
  assembled =
      let D = delay_cells S in
      let C = clock_ors S in
      let N = memory_cells S in
      let A = array_cells S in
      let W = walk_cells S in
      let O = data_ors S in
      let B = address_ors S in
      let lD = root-d-len S.pulse (procedures S) (calls_of S) 0 (roots S) 3 (walk_place S) in
      let lC = ors_from-len 35 (clocks_of S) (clock_at S) 0 20 in
      let lN = mems-len (clock_wires S) (data_wires S) 0 16 in
      let lA = arrays-len (clock_wires S) (data_wires S) (address_wires S) 0 4 in
      let lW = root-w-len (memory_wires (memory_at S)) (finish_of_root S) (procedures S) (calls_of S) 0 (roots S) 3 (walk_place S) in
      let lO = ors_from-len 7 (data_of S) (data_at S) 0 20 in
      let low = write 3 (D ++ C) first in
      let X = W ++ (O ++ B) in
      rw (
        write-before 3 (clock_at S) D C first (omega (arith, lD)),
        write-append (data_at S) (address_at S) O B (write (walk_place S) W low) (omega (arith, lO)),
        write-append (walk_place S) (data_at S) W (O ++ B) low (omega (arith, lW)),
        write-append (memory_at S) (arrays_at S) N A (write (walk_place S) X low) (omega (arith, lN)),
        write-before (memory_at S) (walk_place S) (N ++ A) X low (simp length-append (omega (arith, lN, lA))),
        write-append 3 (memory_at S) (D ++ C) ((N ++ A) ++ X) first (simp length-append (omega (arith, lD, lC))),
        write-before 0 3 head_cells ((D ++ C) ++ ((N ++ A) ++ X)) first refl,
        append_assoc D C ((N ++ A) ++ X),
        append_assoc N A X,
      )

-- cells that were put in at the front are there
cells-put : (cs : List Cell) (s : List ℕ) → 6 * length cs ≤ length s → cells_at in_list (write 0 cs s) 0 (length cs) ≡ cs
unfolding write
cells-put cs s h =
    cells_are in_list (sets s 0 (cell_bytes cs)) cs 0 (length cs) refl
    (λ i l.
    let z : 6 * (0 + i) ≡ 6 * i = omega arith in
    rw (z, ← overwrite-sets (cell_bytes cs) s (omega (arith, bytes-length cs))) (from_bytes cs _ i l))

-- what was put in is as long as the list was
walked-length : {S : Program} {b a : List ℕ} {w : Finished} → Walked S b a w → length a ≡ length b
unfolding both
walked-length {S} {b} W =
    ap length W.cells ∙ write-length (address_at S) (address_ors S) _ ∙ write-length (data_at S) (data_ors S) _ ∙ write-length (walk_place S) (walk_cells S) _
    ∙ write-length 3 (delay_cells S) b

pub made : {S : Program} {b₂ b₃ b₄ b₅ : List ℕ} {r : Clocks} {w : Finished} → Closing S b₂ r w
    → b₃ ≡ write r.memory (memories_of r.wires w.wires 0 16) b₂
    → b₄ ≡ write (r.memory + 16) (arrays_of r.wires w.wires (drop 16 w.addresses) 0 4) b₃
    → b₅ ≡ write 0 head_cells b₄
    → Made S b₅ (record { count = w.count; finish = w.finish; ors = w.ors })
made {S} C e₃ e₄ e₅ =
    let K = C.clocks in
    let W = C.walk in
    let all = rw (e₄, e₃, K.memory, K.wires, W.wires, W.addresses, W.cells, K.cells, assembled S K.first) at e₅ in
    let long : length K.first ≡ 3762 =
    sym (write-length (clock_at S) (clock_ors S) K.first) ∙ sym (ap length K.cells) ∙ sym (walked-length W) ∙ C.size in
    record {
      cells = rw (all, W.count) (cells-put (netlist S) K.first (omega (arith, long, most C.fitting)));
      count = W.count;
      finish = W.finish;
      ors = W.ors;
    }
