-- What is known of every delay and every merge of a program's circuit, of its main program and its bodies, is known of every cell of its netlist, and
-- the reverse.
-- Assumes nothing.
use Rattle.std.specs.Prelude.{◌≡◌, ◌↔◌, ℕ, ◌+◌, ◌<◌, length}
use native.Mathlib.Omega.{arith}
use Rattle.model.specs.Program.{Code, Program, roots}
use Rattle.model.specs.Circuit.{cell, cell_at, Sig, Values, level, Obeys}
use Rattle.model.specs.Numbering.{memory_wires, circuit_of, wires_of, calls_of, clocks_of, data_of, addresses_of, procedures, finish_of_root, netlist, clock_at, memory_at, arrays_at, walk_place, data_at, address_at, clock_wires, data_wires, address_wires}
use Rattle.laws.specs.Numbering.Cells.{all_of, all-at}
use Rattle.laws.specs.Numbering.Parts.{lay, unlay}
use Rattle.laws.specs.Program.Enclosed.{root_at}
use Rattle.laws.specs.Program.Admitted.{Admitted, earlier-all, each-root, at_body, at-main, root-count}
use Rattle.theory.specs.Control.Wiring.{ideal, Each}
use Rattle.theory.specs.Numbering.Roots.{roots-apart, roots-together}
use Rattle.theory.specs.Numbering.Whole.{first, E, ground-is, showing, shows-wire, shows-array-wire, joins_of, delays_of, walk_of, start_of, finish_wire_of, Stands, ret, fin-is, body-delays, body-walk, at-main-root, body, given, given_by, body_is, main-is}
use Rattle.theory.specs.Numbering.Flying.{of_cells, OfCell, other, ors-cells, ors_from-cells, memory-cells, array-cells, of-cells}

module _ (C : ℕ → Sig → Type 0) (H K : Sig → Sig → Type 0) (W : Values) (none : (s : Sig) → C 0 s) (S : Program) (A : Admitted S) (starts : Sig) (words : ℕ → ℕ)
    (h : Obeys (circuit_of S) starts words W) where
  abbrev OfBody : ℕ → Type 0
  OfBody q =
      Each (of_cells C H K) S.pulse (ideal (showing S words W)) (ret S A starts words W h) (body S A starts words W h q) ((given S A starts words W h).calls q)
      (ret S A starts words W h q) (given_by S A starts words W h (body S A starts words W h q) q) (body_is S A starts words W h q)

  abbrev OfMain : Type 0
  OfMain =
      Each (of_cells C H K) S.pulse (ideal (showing S words W)) (ret S A starts words W h) S.main (level W (start_of S A starts words W h (procedures S)))
      (level W (finish_wire_of S A starts words W h S.main (procedures S))) (given_by S A starts words W h S.main (procedures S))
      (main-is S A starts words W h)

  abbrev Root : ℕ → Code → Type 0
  Root q P = Stands S A starts words W h (OfCell C H K W) q P

  body-cells : (q : ℕ) → q < procedures S → OfBody q ↔ Root q (body S A starts words W h q)
  unfolding body_is E ret
  body-cells q l =
      let r =
      of-cells C H K W none S.pulse starts (first S A starts words W h) (E S A starts words W h) (memory_wires (memory_at S)) (showing S words W) (shows-wire S words W)
      (shows-array-wire S words W) (ground-is S A starts words W h) (finish_of_root S) (ret S A starts words W h) (procedures S) (fin-is S A starts words W h)
      (body S A starts words W h q) (A.body q).fit.formed (earlier-all S A q) (start_of S A starts words W h q) (delays_of S A starts words W h q)
      (walk_of S A starts words W h q) (body-delays S A starts words W h q) (body-walk S A starts words W h q) in (
        (λ e.
            let c = r.0 e in
            record {
              joins = ors-cells C H K W 35 (λ z. omega arith, λ z. omega arith, λ z. omega arith) (joins_of S A starts words W h q) (wires_of q (calls_of S));
              delays = c.0;
              walk = c.1;
            }),
        (λ k. r.1 (k.delays, k.walk)),
      )

  main-cells : OfMain ↔ Root (procedures S) S.main
  unfolding main-is E
  main-cells =
      let q = procedures S in
      let r =
      of-cells C H K W none S.pulse starts (first S A starts words W h) (E S A starts words W h) (memory_wires (memory_at S)) (showing S words W) (shows-wire S words W)
      (shows-array-wire S words W) (ground-is S A starts words W h) (finish_of_root S) (ret S A starts words W h) (procedures S) (fin-is S A starts words W h)
      S.main A.main.fit.formed A.main.earlier (start_of S A starts words W h q) (delays_of S A starts words W h q) (walk_of S A starts words W h q)
      (at-main-root S A starts words W h).delays (at-main-root S A starts words W h).walk in (
        (λ e.
            let c = r.0 e in
            record {
              joins = ors-cells C H K W 35 (λ z. omega arith, λ z. omega arith, λ z. omega arith) (joins_of S A starts words W h q) (wires_of q (calls_of S));
              delays = c.0;
              walk = c.1;
            }),
        (λ k. r.1 (k.delays, k.walk)),
      )

  pub of-netlist : (OfMain × ((q : ℕ) → q < procedures S → OfBody q)) ↔ ((k : ℕ) → k < length (netlist S) → OfCell C H K W k (cell_at (netlist S) k))
  of-netlist = (
    (λ e k b.
        let z : (q : ℕ) → 0 + q ≡ q = λ q. omega arith in
        let c =
        roots-together S.pulse (OfCell C H K W) (memory_wires (memory_at S)) (finish_of_root S) (procedures S) (calls_of S) 0 (roots S) 3 (walk_place S)
        (λ q l. rw (z q) (each-root S Root (λ q l. (body-cells q l).0 (e.1 q l)) (main-cells.0 e.0) q l)) in
        rw (z k) at
        (all-at (OfCell C H K W) (netlist S) 0
        (unlay (OfCell C H K W) S
        (record {
          at-start = other C H K W 0 (cell 32 0 0 0) (λ e. omega arith, λ e. omega arith, λ e. omega arith);
          at-ground = other C H K W 1 (cell 33 0 0 0) (λ e. omega arith, λ e. omega arith, λ e. omega arith);
          at_zero = other C H K W 2 (cell 1 0 0 0) (λ e. omega arith, λ e. omega arith, λ e. omega arith);
          at-delays = c.0;
          at-clocks = ors_from-cells C H K W 35 (λ e. omega arith, λ e. omega arith, λ e. omega arith) (clocks_of S) (clock_at S) 0 20;
          at-mems = memory-cells C H K W (memory_at S) (clock_wires S) (data_wires S) 0 16;
          at-arrays = array-cells C H K W (arrays_at S) (clock_wires S) (data_wires S) (address_wires S) 0 4;
          at-walk = c.1;
          at-datas = ors_from-cells C H K W 7 (λ e. omega arith, λ e. omega arith, λ e. omega arith) (data_of S) (data_at S) 0 20;
          at-addresses = ors_from-cells C H K W 7 (λ e. omega arith, λ e. omega arith, λ e. omega arith) (addresses_of S) (address_at S) 16 4;
        }))
        k b)),
    (λ e.
        let z : (q : ℕ) → 0 + q ≡ q = λ q. omega arith in
        let l =
        lay (OfCell C H K W) S (all_of (OfCell C H K W) (netlist S) 0 (λ i b. rw (z i) (e i b))) in
        let at : (q : ℕ) → q < length (roots S) → Root q (root_at S q) =
        λ q i.
        rw (z q) at
        (roots-apart S.pulse (OfCell C H K W) (memory_wires (memory_at S)) (finish_of_root S) (procedures S) (calls_of S) 0 (roots S) 3 (walk_place S) l.at-delays l.at-walk q i) in (
          main-cells.1 (at-main S Root (at (procedures S) (omega (arith, root-count S)))),
          λ q i. (body-cells q i).1 (at_body S Root q i (at q (omega (arith, root-count S)))),
        )),
  )
