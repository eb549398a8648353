-- What the statements without a condition ask of their parts, and what they leave. Assumes nothing.
use mathlib.Core.Path.{◌≡◌, refl, sym, ◌∙◌, ap}
use mathlib.Core.List.{List, [], ◌∷◌, ◌++◌}
use Prim.Native.Nat.{ℕ, ◌+◌, ◌*◌, ◌<◌, ◌≤◌}
use native.Mathlib.Omega.{arith}
use lib.Dec.{eqb}
use lib.ListN.{get_or}
use Rattle.model.specs.Word.{pick}
use Rattle.model.specs.Program.{Expr, Code, ok, tick, assign, seq, par, writes}
use Rattle.model.specs.Procedures.{inline}
use Rattle.model.specs.Circuit.{cell}
use Rattle.model.specs.Numbering.{Wires, expr_count, expr_cells}
use Rattle.model.specs.Functional.{count, finish_wire, outs, walk}
use Rattle.laws.specs.Numbering.Lengths.{e-len}
use Rattle.laws.specs.Functional.Count.{w-len}
use Rattle.compiler.specs.Writes.{write}
use Rattle.compiler.specs.Walk.{ExprReady, ExprDone}
use Rattle.compiler.proofs.Writes.{behind, write-none, write-append}
use Rattle.compiler.specs.declared.walk.Word.{Word}
use Rattle.functional.specs.declared.walk.Place.{Place}
use Rattle.functional.specs.declared.sets.Wires as declared
use Rattle.functional.specs.Sets.{has, wired, Agrees, Tells}
use Rattle.functional.specs.Walk.{plainly, place, Ready, Done}

-- Nothing, and a tick -----------------------------------------------------------------------------------------------------------------------

pub ok-done : {p : Place} {us : Wires} {before : List ℕ} → Agrees p.words.of us → Done (plainly ok) p us before before p
unfolding inline walk finish_wire count outs
ok-done {p} {before = before} same = record { cells = sym (write-none p.cell before); wire = refl; cell = omega arith; words = same }

pub tick-room : {δ c n : ℕ} → Ready (tick δ) c n → (c < 7043) × (6 * c + 6 ≤ n)
unfolding count inline
tick-room r = (omega (arith, r.room, r.small), omega (arith, r.room))

pub tick-done : (δ : ℕ) {p r : Place} {us : Wires} {before end : List ℕ} → Agrees p.words.of us
    → end ≡ write p.cell (cell 34 δ p.wire 0 ∷ []) before
    → r ≡ place p.cell (p.cell + 1) p.words
    → Done (plainly (tick δ)) p us before end r
unfolding inline walk finish_wire count outs
tick-done δ same w e = rw e (record { cells = w; wire = refl; cell = refl; words = same })

-- An assignment ----------------------------------------------------------------------------------------------------------------------------

module _ {δ x c n : ℕ} {E : Expr} (r : Ready (assign δ x E) c n) where
  pub assign-expr : ExprReady E c n
  unfolding count inline
  assign-expr = record { formed = r.formed.2; room = omega (arith, r.room); small = r.small }

  pub assign-room : 6 * (c + expr_count E) + 6 ≤ n
  unfolding count inline
  assign-room = omega (arith, r.room)

pub assign-done : (δ x : ℕ) (E : Expr) (p : Place) (us : Wires) {before m₁ end : List ℕ} {e : Word} (out : declared.Wires) → Agrees p.words.of us
    → ExprDone us E p.cell before m₁ e
    → end ≡ write e.cell (cell 34 δ p.wire 0 ∷ []) m₁
    → Agrees out.of (λ y. pick (eqb y x) e.wire (wired p.words.of y))
    → Done (plainly (assign δ x E)) p us before end (record { wire = e.cell; cell = e.cell + 1; words = out })
unfolding inline walk finish_wire count outs
assign-done δ x E p us {before} out same u a o =
    let c = p.cell in
    record {
      cells = rw (u.cell, u.cells) at a ∙ write-append c _ (expr_cells us E c) _ before (behind c (e-len us E c));
      wire = u.cell;
      cell = omega (arith, u.cell);
      words = λ y l. o y l ∙ rw (u.wire, same y l) refl;
    }

-- A sequence and a parallel --------------------------------------------------------------------------------------------------------------------

module _ {P Q : Code} {c n : ℕ} where
  pub seq-first : Ready (seq P Q) c n → Ready P c n
  unfolding count inline
  seq-first r = record { formed = r.formed.0; basic = r.basic.0; room = omega (arith, r.room); small = r.small }

  pub seq-second : Ready (seq P Q) c n → Ready Q (c + count (plainly P)) n
  unfolding count inline
  seq-second r = record { formed = r.formed.1; basic = r.basic.1; room = omega (arith, r.room); small = r.small }

  pub par-first : Ready (par P Q) c n → Ready P c n
  unfolding count inline
  par-first r = record { formed = r.formed.0; basic = r.basic.0; room = omega (arith, r.room); small = r.small }

  pub par-second : Ready (par P Q) c n → Ready Q (c + count (plainly P)) n
  unfolding count inline
  par-second r = record { formed = r.formed.1; basic = r.basic.1; room = omega (arith, r.room); small = r.small }

  -- its 38 lies within the list
  pub par-room : Ready (par P Q) c n → 6 * (c + count (plainly P) + count (plainly Q)) + 6 ≤ n
  unfolding count inline
  par-room r = omega (arith, r.room)

pub seq-done : (P Q : Code) (p q r : Place) (us : Wires) {before m₁ end : List ℕ} → Done (plainly P) p us before m₁ q
    → Done (plainly Q) q (outs (plainly P) us p.cell) m₁ end r → Done (plainly (seq P Q)) p us before end r
unfolding inline walk finish_wire count outs
seq-done P Q p q r us {before} u v =
    let c = p.cell in
    let P' = plainly P in
    let Q' = plainly Q in
    let w = rw (u.wire, u.cell) at v.cells in
    record {
      cells =
          w
          ∙ ap (write (c + count P') (walk Q' (finish_wire P' p.wire c) (outs P' us c) (c + count P'))) u.cells
          ∙ write-append c (c + count P') (walk P' p.wire us c) _ before (behind c (w-len P' p.wire us c));
      wire = rw (u.wire, u.cell) at v.wire;
      cell = omega (arith, u.cell, v.cell);
      words = rw u.cell at v.words;
    }

pub par-done : (P Q : Code) (p q r : Place) (us : Wires) (out : declared.Wires) (f g : ℕ) {before m₁ m₂ end : List ℕ} → Done (plainly P) p us before m₁ q
    → Done (plainly Q) (place p.wire q.cell p.words) us m₁ m₂ r
    → end ≡ write r.cell (cell 38 0 q.wire r.wire ∷ []) m₂
    → Agrees p.words.of us
    → Tells f (writes (plainly P))
    → Tells g (writes (plainly Q))
    → ((y : ℕ) → y < 16 → get_or out.of y 0 ≡ pick (has f y) (wired q.words.of y) (pick (has g y) (wired r.words.of y) (wired p.words.of y)))
    → Done (plainly (par P Q)) p us before end (place r.cell (r.cell + 1) out)
unfolding inline walk finish_wire count outs
par-done P Q p q r us out f g {before} u v a same tf tg o =
    let c = p.cell in
    let s = p.wire in
    let P' = plainly P in
    let Q' = plainly Q in
    let c₂ = c + count P' in
    let vc = rw u.cell at v.cell in
    let x = cell 38 0 (finish_wire P' s c) (finish_wire Q' s c₂) in
    let e : q.cell ≡ c₂ = u.cell in
    let a' = rw (vc, u.wire, rw u.cell at v.wire) at a in
    record {
      cells =
          a'
          ∙ ap (write (c₂ + count Q') (x ∷ [])) (rw e at v.cells ∙ ap (write c₂ (walk Q' s us c₂)) u.cells)
          ∙ write-append c₂ (c₂ + count Q') (walk Q' s us c₂) (x ∷ []) (write c (walk P' s us c) before) (behind c₂ (w-len Q' s us c₂))
          ∙ write-append c c₂ (walk P' s us c) (walk Q' s us c₂ ++ (x ∷ [])) before (behind c (w-len P' s us c));
      wire = vc;
      cell = omega (arith, vc);
      words = λ y l. o y l ∙ rw (tf y l, tg y l, u.words y l, rw e at (v.words y l), same y l) refl;
    }
