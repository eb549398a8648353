-- The walks of the roots, one after the other: what is still to be put in from root r on comes out as at the start. A root's walk looks at no
-- finishes but those of the roots before it, which are known by then.
-- Assumes nothing.
use mathlib.Core.Path.{◌≡◌, refl, sym, ◌∙◌, ap}
use mathlib.Core.List.{List, [], ◌∷◌, ◌++◌, append_assoc}
use Prim.Native.Nat.{ℕ, ◌+◌, ◌*◌, ◌≤◌, ◌<◌}
use native.Mathlib.Omega.{arith}
use native.Mathlib.Decide.{dec_lt}
use native.Mathlib.Numerals.{add-one}
use lib.ListN.{length, get_or, set, drop, length-append, length-set, drop_of_length-le}
use lib.Seq.{sets, drop-cons, drop-drop, get_or-drop, get_or-set_same, get_or-set_other}
use Rattle.model.specs.declared.Cell.{Cell}
use Rattle.model.specs.Program.{Code, ok, tick, assign, assign_elem, seq, par, ite, while, repeat, loop, exit, call, Program, roots}
use Rattle.model.specs.Numbering.{memory_wires, past_switches, on_true, on_false, then_delays, else_delays, else_cells, ors, delay_count, walk_count, finish_wire, delays, walk, Source, wires_of, idle_start, root_start, root_walk, past_root, root_delay_count, root_walk_count, root_finishes, root_delays, root_walks, procedures}
use Rattle.laws.specs.Program.Fit.{Earlier}
use Rattle.laws.specs.Numbering.Lengths.{d-len, w-len, ors-len, root-d-len}
use Rattle.laws.specs.Lists.Writes.{sets-append}
use Rattle.compiler.specs.declared.walk.Place.{Place}
use Rattle.compiler.specs.declared.walk.Word.{Word}
use Rattle.compiler.specs.declared.ors.Joint.{Joint}
use Rattle.compiler.specs.Writes.{write, both}
use Rattle.compiler.specs.Walk.{place, assignments, marks_of, Ready, finish_in, Done}
use Rattle.compiler.specs.Ors.{Joined}
use Rattle.compiler.specs.Whole.{start_of, past_ors, RootReady, RootDone, root_assignments, root_marks, behind_arrays, finish_at, RootsDone}
use Rattle.compiler.proofs.Writes.{behind, write-none, write-append, write-swap, both-walk, both-delay}
use Rattle.compiler.proofs.Growth.{marks-length}

-- One root -----------------------------------------------------------------------------------------------------------------------------

-- its walk is ready behind its 35s
pub root-walk : {M n : ℕ} {ws before mid : List ℕ} {P : Code} {p : Place} {j : Joint} {w : Word} → RootReady M ws P p n
    → Joined j p.cell ws before mid w → Ready M P (place w.wire p.delay w.cell p.mark 0) n
root-walk r u =
    let v = r.walk in
    rw u.cell
    (record {
      formed = v.formed;
      earlier = v.earlier;
      memory = v.memory;
      apart = v.apart;
      room = v.room;
      small = v.small;
      marks = v.marks;
      outs = v.outs;
    })

-- its 35s, and then its walk
pub root-done : {pulse M : ℕ} {F : ℕ → ℕ} {ws : List ℕ} {n : ℕ} {P : Code} {p r : Place} {j : Joint} {w : Word} {before mid after marked remarked : List ℕ}
    → RootReady M ws P p n → j.kind ≡ 35 → Joined j p.cell ws before mid w
    → Done pulse M F P (place w.wire p.delay w.cell p.mark 0) mid after marked remarked r
    → RootDone pulse M F j.none ws P p before after marked remarked r
unfolding both
root-done {pulse} {M} {F} {ws} {P = P} {p} {j = j} {before = before} ready k u v₀ =
    let v = rw (u.wire, u.cell) at v₀ in
    let s = start_of j.none ws p in
    let c = past_ors ws p in
    let D = delays pulse P s p.delay c in
    let O = ors 35 p.cell ws in
    let W = walk (memory_wires M) F P s p.delay c in
    record {
      cells =
          v.cells
          ∙ ap (λ (l : List ℕ). write c W (write p.delay D l)) (rw k at u.cells)
          ∙ ap (write c W) (write-swap p.delay p.cell D O before (omega (arith, ready.apart, d-len pulse P s p.delay c)))
          ∙ write-append p.cell c O W (write p.delay D before) (behind p.cell (ors-len 35 p.cell ws));
      marks = v.marks;
      wire = v.wire;
      delay = v.delay;
      cell = v.cell;
      mark = v.mark;
    }

-- Finishes ------------------------------------------------------------------------------------------------------------------------------

-- a walk looks at the finishes of the procedures that it calls alone
module _ (M : ℕ) (F G : ℕ → ℕ) (r : ℕ) (same : (p : ℕ) → p < r → F p ≡ G p) where
  pub walk_same : (P : Code) → Earlier r P → (s d c : ℕ) → walk (memory_wires M) F P s d c ≡ walk (memory_wires M) G P s d c
  unfolding walk
  walk_same ok h s d c = refl
  walk_same (tick δ) h s d c = refl
  walk_same (assign δ x e) h s d c = refl
  walk_same (assign_elem δ k i e) h s d c = refl
  walk_same (seq P Q) h s d c = rw (walk_same P h.0 s d c, walk_same Q h.1 (finish_wire P s d c) (d + delay_count P) (c + walk_count P))
  walk_same (par P Q) h s d c = rw (walk_same P h.0 s d c, walk_same Q h.1 s (d + delay_count P) (c + walk_count P))
  walk_same (ite δ e P Q) h s d c =
      rw (
        walk_same P h.2 (on_true e c) (then_delays δ d) (past_switches e c),
        walk_same Q h.3 (on_false e c) (else_delays δ P d) (else_cells e P c),
      )
  walk_same (while δ e P) h s d c = rw (walk_same P h.2 (on_true e c) (d + 1) (past_switches e c))
  walk_same (repeat δ e P) h s d c = rw (walk_same P h.2 (past_switches e c) (d + 1) (past_switches e c + 1))
  walk_same (loop δ P) h s d c = rw (walk_same P h.1 c (d + 1) (c + 1))
  walk_same exit h s d c = refl
  walk_same (call δ p) h s d c = rw (same p h.1)

  root-same : {pulse idle : ℕ} {ws : List ℕ} {P : Code} {p q : Place} {before after marked remarked : List ℕ} → Earlier r P
      → RootDone pulse M F idle ws P p before after marked remarked q → RootDone pulse M G idle ws P p before after marked remarked q
  root-same {pulse} {idle} {ws} {P} {p} {before = before} h u =
      let s = start_of idle ws p in
      let c = past_ors ws p in
      record {
        cells =
            u.cells
            ∙ ap (λ (W : List Cell). both p.delay (delays pulse P s p.delay c) p.cell (ors 35 p.cell ws ++ W) before) (walk_same P h s p.delay c);
        marks = u.marks;
        wire = u.wire;
        delay = u.delay;
        cell = u.cell;
        mark = u.mark;
      }

pub earlier_more : (k m : ℕ) → k ≤ m → (P : Code) → Earlier k P → Earlier m P
earlier_more k m l ok h = tt
earlier_more k m l (tick δ) h = tt
earlier_more k m l (assign δ x e) h = (tt, tt, tt)
earlier_more k m l (assign_elem δ x i e) h = (tt, tt, tt, tt)
earlier_more k m l (seq P Q) h = (earlier_more k m l P h.0, earlier_more k m l Q h.1)
earlier_more k m l (par P Q) h = (earlier_more k m l P h.0, earlier_more k m l Q h.1, tt)
earlier_more k m l (ite δ e P Q) h = (tt, tt, earlier_more k m l P h.2, earlier_more k m l Q h.3)
earlier_more k m l (while δ e P) h = (tt, tt, earlier_more k m l P h.2)
earlier_more k m l (repeat δ e P) h = (tt, tt, earlier_more k m l P h.2)
earlier_more k m l (loop δ P) h = (tt, earlier_more k m l P h.1)
earlier_more k m l exit h = tt
earlier_more k m l (call δ p) h = (tt, omega (arith, h.1))

-- All roots ----------------------------------------------------------------------------------------------------------------------------

module _ (S : Program) (cs : List Source) (M : ℕ) where
  -- the roots from root r on
  abbrev from_root : ℕ → List Code
  from_root r = drop r (roots S)

  -- their cells and their marks, put in from a place on
  abbrev cells_from : ℕ → List Code → Place → List ℕ → List ℕ
  cells_from r Ps p l =
      both p.delay (root_delays S.pulse (procedures S) cs r Ps p.delay p.cell) p.cell
      (root_walks (memory_wires M) (finish_at S cs M) (procedures S) cs r Ps p.delay p.cell) l

  abbrev marks_from : ℕ → List Code → Place → List ℕ → List ℕ
  marks_from r Ps p l = sets l p.mark (root_marks cs r Ps p.delay p.cell)

  abbrev pub first_place : Place
  first_place = place 0 3 (behind_arrays M) 0 0

  pub record Rooting (before marked cells marks finishes : List ℕ) (p : Place) (r : ℕ) : Type 0 where
    pub cells_are : cells_from r (from_root r) p cells ≡ cells_from 0 (roots S) first_place before
    pub marks-are : marks_from r (from_root r) p marks ≡ marks_from 0 (roots S) first_place marked
    pub finishes-are :
        root_finishes (procedures S) cs r (from_root r) p.delay p.cell ≡ drop r (root_finishes (procedures S) cs 0 (roots S) 3 (behind_arrays M))
    pub known : (q : ℕ) → q < r → get_or finishes q 0 ≡ finish_at S cs M q
    pub wire : (q : ℕ) → r ≡ q + 1 → p.wire ≡ finish_at S cs M q
    pub delay : p.delay + root_delay_count (from_root r) ≡ 3 + root_delay_count (roots S)
    pub onward : behind_arrays M ≤ p.cell
    pub cell : p.cell + root_walk_count cs r (from_root r) ≡ behind_arrays M + root_walk_count cs 0 (roots S)
    pub mark : p.mark + 4 * root_assignments (from_root r) ≡ 4 * root_assignments (roots S)
    pub same : length cells ≡ length before
    pub nine : length finishes ≡ 9

  pub rooting-start : (before marked finishes : List ℕ) → length finishes ≡ 9 → Rooting before marked before marked finishes first_place 0
  rooting-start before marked finishes l =
      record {
        cells_are = refl;
        marks-are = refl;
        finishes-are = refl;
        known = λ q h. absurd (omega arith);
        wire = λ q e. absurd (omega arith);
        delay = refl;
        onward = omega arith;
        cell = refl;
        mark = omega arith;
        same = refl;
        nine = l;
      }

  -- one root more
  module _ (r : ℕ) (P : Code) (Ps : List Code) {p q : Place} {before after marked remarked : List ℕ} (h : p.delay + root_delay_count (P ∷ Ps) ≤ p.cell)
      (u : RootDone S.pulse M (finish_at S cs M) (idle_start (procedures S) r) (wires_of r cs) P p before after marked remarked q) where
    abbrev start : ℕ
    start = root_start (procedures S) cs r p.cell

    abbrev D : List Cell
    D = delays S.pulse P start p.delay (root_walk cs r p.cell)

    abbrev O : List Cell
    O = ors 35 p.cell (wires_of r cs)

    abbrev W : List Cell
    W = walk (memory_wires M) (finish_at S cs M) P start p.delay (root_walk cs r p.cell)

    cells-more : cells_from (r + 1) Ps q after ≡ cells_from r (P ∷ Ps) p before
    unfolding both root_delays root_walks root_delay_count
    cells-more =
        let d = p.delay + delay_count P in
        let c = past_root cs r P p.cell in
        let D₂ = root_delays S.pulse (procedures S) cs (r + 1) Ps d c in
        let W₂ = root_walks (memory_wires M) (finish_at S cs M) (procedures S) cs (r + 1) Ps d c in
        let lD = d-len S.pulse P start p.delay (root_walk cs r p.cell) in
        let lO = ors-len 35 p.cell (wires_of r cs) in
        let lW = w-len (memory_wires M) (finish_at S cs M) P start p.delay (root_walk cs r p.cell) in
        let lD₂ = root-d-len S.pulse (procedures S) cs (r + 1) Ps d c in
        rw (u.delay, u.cell)
        (ap (λ (l : List ℕ). write c W₂ (write d D₂ l)) u.cells
        ∙ ap (write c W₂) (both-delay p.delay p.cell D (O ++ W) before D₂ d (omega (arith, lD)) (omega (arith, lD₂, h)))
        ∙ both-walk p.delay p.cell (D ++ D₂) (O ++ W) before W₂ c (simp length-append (omega (arith, lO, lW)))
        ∙ ap (λ (l : List Cell). write p.cell l (write p.delay (D ++ D₂) before)) (append_assoc O W W₂))

    marks-more : marks_from (r + 1) Ps q remarked ≡ marks_from r (P ∷ Ps) p marked
    unfolding root_marks
    marks-more =
        let xs = marks_of P p.delay (root_walk cs r p.cell) in
        let ys = root_marks cs (r + 1) Ps (p.delay + delay_count P) (past_root cs r P p.cell) in
        let n = marks-length P p.delay (root_walk cs r p.cell) in
        let k : q.mark ≡ p.mark + length xs = omega (arith, n, u.mark) in
        rw (u.delay, u.cell, k, u.marks) (sym (sets-append marked p.mark xs ys))

  module _ {before marked cells marks finishes : List ℕ} {p : Place} {r : ℕ} (C : Rooting before marked cells marks finishes p r) where
    module _ (l : r < length (roots S)) where
      from_more : from_root r ≡ get_or (roots S) r ok ∷ from_root (r + 1)
      from_more = rw (add-one r) (drop-cons (roots S) r ok l)

      -- what root r is given: its delay cells and its walk end where those of all roots do
      pub room-delays : p.delay + delay_count (get_or (roots S) r ok) + root_delay_count (from_root (r + 1)) ≡ 3 + root_delay_count (roots S)
      unfolding root_delay_count
      room-delays = let q = rw from_more at C.delay in omega (arith, q)

      pub room-walk : past_root cs r (get_or (roots S) r ok) p.cell ≤ behind_arrays M + root_walk_count cs 0 (roots S)
      unfolding root_walk_count
      room-walk = let q = rw from_more at C.cell in omega (arith, q)

      pub room-marks : p.mark + 4 * assignments (get_or (roots S) r ok) ≤ 4 * root_assignments (roots S)
      unfolding root_assignments
      room-marks = let q = rw from_more at C.mark in omega (arith, q)

      module _ {after remarked : List ℕ} {q : Place} (few : r < 9) (h : 3 + root_delay_count (roots S) ≤ behind_arrays M) (e : Earlier r (get_or (roots S) r ok))
          (u₀ : RootDone S.pulse M (finish_in finishes) (idle_start (procedures S) r) (wires_of r cs) (get_or (roots S) r ok) p cells after marks remarked q) where
        abbrev P : Code
        P = get_or (roots S) r ok

        abbrev FF : List ℕ
        FF = root_finishes (procedures S) cs 0 (roots S) 3 (behind_arrays M)

        u : RootDone S.pulse M (finish_at S cs M) (idle_start (procedures S) r) (wires_of r cs) P p cells after marks remarked q
        u = root-same M (finish_in finishes) (finish_at S cs M) r C.known e u₀

        fits : p.delay + root_delay_count (P ∷ from_root (r + 1)) ≤ p.cell
        unfolding root_delay_count
        fits = omega (arith, room-delays, h, C.onward)

        finishes-more :
            finish_wire P (root_start (procedures S) cs r p.cell) p.delay (root_walk cs r p.cell)
            ∷ root_finishes (procedures S) cs (r + 1) (from_root (r + 1)) (p.delay + delay_count P) (past_root cs r P p.cell)
            ≡ drop r FF
        unfolding root_finishes
        finishes-more = rw from_more at C.finishes-are

        -- its finish
        finish-is : q.wire ≡ finish_at S cs M r
        finish-is =
            let z : r + 0 ≡ r = omega arith in
            u.wire ∙ ap (λ (l : List ℕ). get_or l 0 1) finishes-more ∙ get_or-drop r FF 0 1 ∙ ap (λ (n : ℕ). get_or FF n 1) z

        known_more : (i : ℕ) → i < r + 1 → get_or (set finishes r q.wire) i 0 ≡ finish_at S cs M i
        known_more i g = go (dec_lt i r)
          where
            go : Dec (i < r) → get_or (set finishes r q.wire) i 0 ≡ finish_at S cs M i
            go (yes k) = get_or-set_other finishes r i q.wire 0 (λ z. omega arith) ∙ C.known i k
            go (no n) =
                let z : i ≡ r = omega arith in
                rw z (get_or-set_same finishes r q.wire 0 (omega (arith, C.nine)) ∙ finish-is)

        cell-more : q.cell + root_walk_count cs (r + 1) (from_root (r + 1)) ≡ behind_arrays M + root_walk_count cs 0 (roots S)
        unfolding root_walk_count
        cell-more = let z = rw from_more at C.cell in omega (arith, z, u.cell)

        mark-more : q.mark + 4 * root_assignments (from_root (r + 1)) ≡ 4 * root_assignments (roots S)
        unfolding root_assignments
        mark-more = let z = rw from_more at C.mark in omega (arith, z, u.mark)

        pub rooting-more : length after ≡ length cells → Rooting before marked after remarked (set finishes r q.wire) q (r + 1)
        rooting-more k =
            record {
              cells_are = cells-more r P (from_root (r + 1)) fits u ∙ ap (λ (Ps : List Code). cells_from r Ps p cells) (sym from_more) ∙ C.cells_are;
              marks-are = marks-more r P (from_root (r + 1)) fits u ∙ ap (λ (Ps : List Code). marks_from r Ps p marks) (sym from_more) ∙ C.marks-are;
              finishes-are = rw (u.delay, u.cell) (ap (λ (l : List ℕ). drop 1 l) finishes-more ∙ drop-drop 1 r FF);
              known = known_more;
              wire =
                  λ i z.
                  let y : i ≡ r = omega arith in
                  rw y finish-is;
              delay = omega (arith, u.delay, room-delays);
              onward = omega (arith, u.cell, C.onward);
              cell = cell-more;
              mark = mark-more;
              same = k ∙ C.same;
              nine = length-set finishes r q.wire ∙ C.nine;
            }

    -- all roots
    module _ (l : r ≡ length (roots S)) where
      from-none : from_root r ≡ []
      from-none = drop_of_length-le (roots S) {i = r} (omega arith)

      pub rooting-end : r ≡ procedures S + 1 → RootsDone S cs M before cells marked marks p
      unfolding both root_delays root_walks root_marks root_delay_count root_walk_count root_assignments
      rooting-end e =
          record {
            cells =
                sym (ap (write p.cell []) (write-none p.delay cells) ∙ write-none p.cell cells)
                ∙ (rw from-none at C.cells_are);
            marks = rw from-none at C.marks-are;
            wire = C.wire (procedures S) e;
            delay = omega (arith, rw from-none at C.delay);
            cell = omega (arith, rw from-none at C.cell);
            mark = omega (arith, rw from-none at C.mark);
          }
