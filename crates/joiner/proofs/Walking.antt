-- One part put in, its cells and its marks: what its file and its program tell, and that the compiler's walk would leave the same. Assumes nothing.
use mathlib.Core.Path.{◌≡◌, refl, sym, ap, ap₂, ◌∙◌}
use mathlib.Core.Bool.{Bool, true, false}
use mathlib.Core.List.{List, [], ◌∷◌, ◌++◌, append_assoc, append-nil}
use Prim.Native.Nat.{ℕ, suc, ◌+◌, ◌-◌, ◌*◌, ◌≤◌}
use native.Mathlib.Omega.{arith}
use lib.Dec.{eqb}
use lib.ListN.{length, take, drop}
use lib.Seq.{sets, sets-eq, length-take-le}
use Rattle.model.specs.declared.Cell.{Cell}
use Rattle.model.specs.declared.Node.{Node}
use Rattle.model.specs.Word.{pick}
use Rattle.model.specs.Program.{Code, ok, tick, assign, assign_elem, seq, par, ite, while, repeat, loop, exit, call, array_var, Program, node_count, nodes_at, stmt_at, roots, preorder, preorders}
use Rattle.model.specs.Numbering.{memory_wires, exit_count, delays, walk, netlist}
use Rattle.model.specs.NetlistFile.{cell_bytes, cell_from, cells_at, in_list, count_of, pulse_of}
use Rattle.laws.specs.Refusals.Laws.{or-false}
use Rattle.laws.specs.Program.Fit.{exits}
use Rattle.laws.specs.Program.Trees.{length-nodes}
use Rattle.laws.specs.Program.Passed.{Readable, program-nodes}
use Rattle.laws.specs.Program.Sequence.{one_root, one-statement}
use Rattle.laws.specs.Numbering.Lengths.{w-len}
use Rattle.laws.specs.Numbering.Parts.{net-length}
use Rattle.laws.specs.NetlistFile.Passed.{count-cells}
use Rattle.laws.specs.NetlistFile.CellBytes.{from-shift, from_bytes, bytes-length, cells_are}
use Rattle.word.proofs.Puts.{overwrite-sets}
use Rattle.netlist.specs.declared.cells.Layout.TheVariants.{InList}
use Rattle.netlist.specs.Offsets.{Room}
use Rattle.compiler.specs.declared.walk.Place.{Place}
use Rattle.compiler.specs.Writes.{write, both}
use Rattle.compiler.specs.Walk.{marks_of, Done}
use Rattle.compiler.proofs.Growth.{marks-length}
use Rattle.compiler.proofs.Writes.{write-length}
use Rattle.joiner.specs.declared.moving.Own.{Own}
use Rattle.joiner.specs.declared.moving.Spot.{Spot}
use Rattle.joiner.specs.Gates.{gates_in, gate_marks}
use Rattle.joiner.specs.Stands.{PartReady, OwnOf, PartDone, Placeable}
use Rattle.joiner.proofs.Regions.{delay-count, walk-count}
use Rattle.joiner.proofs.GateMarks.{gates_of, walk-marks}

-- where no exit ends a loop around a statement, none waits
pub no-exits : (P : Code) → exits P ≡ false → exit_count P ≡ 0
unfolding exits exit_count
no-exits ok e = refl
no-exits (tick δ) e = refl
no-exits (assign δ x E) e = refl
no-exits (assign_elem δ k I E) e = refl
no-exits (seq P Q) e = let h = or-false (exits P) (exits Q) e in omega (arith, no-exits P h.0, no-exits Q h.1)
no-exits (par P Q) e = let h = or-false (exits P) (exits Q) e in omega (arith, no-exits P h.0, no-exits Q h.1)
no-exits (ite δ E P Q) e = let h = or-false (exits P) (exits Q) e in omega (arith, no-exits P h.0, no-exits Q h.1)
no-exits (while δ E P) e = no-exits P e
no-exits (repeat δ E P) e = no-exits P e
no-exits (loop δ P) e = refl
no-exits exit e = absurd (let z : ◌≡◌ {A = ℕ} 0 1 = cc in omega arith)
no-exits (call δ p) e = refl

-- the gates of a program are those of its statement
gates-are : (s : List ℕ) → Readable 0 s → gates_in (nodes_at s 0) ≡ gates_of (stmt_at s 0)
unfolding gates_of preorders
gates-are s R =
    ap gates_in
    (sym (program-nodes 0 s R 1) ∙ ap (λ (S : Program). preorders (roots S)) (one-statement 1 s) ∙ append-nil (preorder (stmt_at s 0)))

-- at most two for each node
few-gates : (ns : List Node) → length (gates_in ns) ≤ 2 * length ns
unfolding gates_in
few-gates [] = omega arith
few-gates (a ∷ ns) = go (eqb a.kind 18) (eqb a.kind 24) (few-gates ns)
  where
    go : (b d : Bool) → length (gates_in ns) ≤ 2 * length ns
        → length (pick b (a.n ∷ gates_in ns) (pick d (array_var a.n ∷ (20 ∷ gates_in ns)) (gates_in ns))) ≤ 2 * suc (length ns)
    go true d h = omega arith
    go false true h = omega arith
    go false false h = omega arith

-- as they are put in, with what was there behind them
gates-there : (s : List ℕ) → Readable 0 s → (zeros : List ℕ) {gates : List ℕ} → length zeros ≡ 400 → gates ≡ sets zeros 0 (gates_in (nodes_at s 0))
    → (xs : List ℕ) × (gates ≡ gates_of (stmt_at s 0) ++ xs)
gates-there s R zeros l e =
    let G = gates_in (nodes_at s 0) in
    let few : length G ≤ length zeros = omega (arith, few-gates (nodes_at s 0), length-nodes s 0 (node_count s - 0), R.bytes, R.short) in
    (drop (length G) zeros, e ∙ sym (overwrite-sets G zeros few) ∙ ap (λ (g : List ℕ). g ++ drop (length G) zeros) (gates-are s R))

-- cells that were put in from cell k on are there
cells-there : (k : ℕ) (cs : List Cell) (s : List ℕ) → 6 * (k + length cs) ≤ length s → cells_at in_list (write k cs s) k (length cs) ≡ cs
unfolding write
cells-there k cs s h =
    let b = cell_bytes cs in
    let l = bytes-length cs in
    let e = sets-eq b s (6 * k) (omega (arith, l)) ∙ append_assoc (take (6 * k) s) b (drop (6 * k + length b) s) in
    let f = length-take-le (6 * k) s (omega arith) in
    cells_are in_list (sets s (6 * k) b) cs k (length cs) refl
    (λ i h.
    ap (λ (t : List ℕ). cell_from t (6 * (k + i))) e ∙ from-shift (take (6 * k) s) (b ++ drop (6 * k + length b) s) (6 * (k + i)) (6 * i) (omega (arith, f))
    ∙ from_bytes cs (drop (6 * k + length b) s) i h)

module _ {M : ℕ} {program file : List ℕ} {p : Place} {n : ℕ} (R : Placeable M program file p n) where
  abbrev P : Code
  P = stmt_at program 0

  abbrev v : ℕ
  v = pulse_of file

  abbrev spot : Spot
  spot = record { wire = p.wire; delay = p.delay; cell = p.cell }

  counted : count_of file ≡ length (netlist (one_root v P))
  counted = sym (count-cells file) ∙ ap length R.compiled.cells

  pub part-ready : {own : Own} → OwnOf v P file own → PartReady file own M spot n
  part-ready O =
      let u = R.compiled.uncalled in
      let r = R.ready in
      let size = net-length (one_root v P) in
      let d = delay-count v P u in
      let w = walk-count v P u in
      record {
        accepted = R.accepted;
        delays = omega (arith, counted, size, d, O.delays);
        walk = omega (arith, counted, size, w, O.memory, O.walk);
        memory = omega (arith, r.memory);
        delay_room = (omega (arith, O.delays, r.apart, r.room, r.small), omega (arith, O.delays, r.apart, r.room));
        walk_room = (omega (arith, O.walk, r.room, r.small), omega (arith, O.walk, r.room));
      }

  module _ {before after : List ℕ} {e : Spot} (l : length before ≡ n) (D : PartDone v M P spot before after e) where
    walk-there : cells_at in_list after p.cell (e.cell - p.cell) ≡ walk (memory_wires M) (λ q. 0) P p.wire p.delay p.cell
    unfolding both
    walk-there =
        let W = walk (memory_wires M) (λ q. 0) P p.wire p.delay p.cell in
        let low = write p.delay (delays v P p.wire p.delay p.cell) before in
        let lW = w-len (memory_wires M) (λ q. 0) P p.wire p.delay p.cell in
        let m : e.cell - p.cell ≡ length W = omega (arith, D.cell, lW) in
        ap₂ (λ (t : List ℕ) (k : ℕ). cells_at in_list t p.cell k) (D.cells (λ q. 0)) m
        ∙ cells-there p.cell W low (omega (arith, lW, l, R.ready.room, write-length p.delay (delays v P p.wire p.delay p.cell) before))

    after-length : length after ≡ n
    unfolding both
    after-length =
        ap length (D.cells (λ q. 0)) ∙ write-length p.cell _ _ ∙ write-length p.delay (delays v P p.wire p.delay p.cell) before ∙ l

    pub walk-room : Room InList after e.cell
    walk-room = record { few = omega (arith, D.cell, R.ready.room, R.ready.small); fits = omega (arith, D.cell, R.ready.room, after-length) }

    pub walk-onward : p.cell ≤ e.cell
    walk-onward = omega (arith, D.cell)

    module _ (zeros : List ℕ) {gates : List ℕ} (z : length zeros ≡ 400) (g : gates ≡ sets zeros 0 (gates_in (nodes_at program 0))) where
      marks-told : gate_marks p.cell (cells_at in_list after p.cell (e.cell - p.cell)) gates ≡ marks_of P p.delay p.cell
      unfolding gate_marks
      marks-told =
          let xs = gates-there program R.readable zeros z g in
          let W = walk (memory_wires M) (λ q. 0) P p.wire p.delay p.cell in
          ap₂ (λ (cs : List Cell) (xs : List ℕ). gate_marks p.cell cs xs) (walk-there ∙ sym (append-nil W)) xs.1
          ∙ walk-marks (memory_wires M) (λ q. 0) P R.ready.formed R.compiled.uncalled p.wire p.delay p.cell p.cell [] xs.0
          ∙ append-nil (marks_of P p.delay p.cell)

      pub marks-room : p.mark + length (gate_marks p.cell (cells_at in_list after p.cell (e.cell - p.cell)) gates) ≤ 800
      marks-room = omega (arith, ap length marks-told, marks-length P p.delay p.cell, R.ready.marks)

      pub part-done : {marked remarked : List ℕ} {m : ℕ}
          → m ≡ p.mark + length (gate_marks p.cell (cells_at in_list after p.cell (e.cell - p.cell)) gates)
          → remarked ≡ sets marked p.mark (gate_marks p.cell (cells_at in_list after p.cell (e.cell - p.cell)) gates)
          → (F : ℕ → ℕ)
          → Done v M F P p before after marked remarked (record { wire = e.wire; delay = e.delay; cell = e.cell; mark = m; out = p.out })
      part-done {marked} {remarked} {m} em er F =
          record {
            cells = D.cells F;
            marks = er ∙ ap (sets marked p.mark) marks-told;
            wire = D.wire;
            delay = D.delay;
            cell = D.cell;
            mark = omega (arith, em, ap length marks-told, marks-length P p.delay p.cell);
            out = omega (arith, R.enclosed);
          }
