-- What the walk of an expression asks of its parts, and what it leaves, kind by kind; a condition's switches, and an if's own delay. Assumes nothing.
use mathlib.Core.Logic.{◌⊎◌, inl, inr}
use mathlib.Core.Path.{◌≡◌, refl, sym, ◌∙◌, ap}
use mathlib.Core.List.{List, [], ◌∷◌, ◌++◌}
use Prim.Native.Nat.{ℕ, zero, suc, ◌+◌, ◌*◌, ◌<◌, ◌≤◌}
use native.Mathlib.Omega.{arith}
use Rattle.model.specs.declared.Cell.{Cell}
use Rattle.model.specs.Program.{Expr, const, var, compl, op, elem, array_var}
use Rattle.model.specs.Circuit.{cell}
use Rattle.model.specs.Numbering.{Wires, expr_count, expr_wire, expr_cells, if_delay_count, if_delay_cells, if_pulse}
use Rattle.laws.specs.Numbering.Lengths.{e-len}
use Rattle.laws.specs.Program.Fit.{BasicExpr}
use Rattle.compiler.specs.declared.walk.Word.{Word}
use Rattle.compiler.specs.Writes.{write}
use Rattle.compiler.specs.Walk.{word, ExprReady, ExprDone, Switched, Owned}
use Rattle.compiler.proofs.Writes.{behind, write-none, write-append}

module _ {ws : Wires} {c : ℕ} {before : List ℕ} where
  pub const-done : {n : ℕ} {end : List ℕ} → end ≡ write c (cell 1 0 n 0 ∷ []) before → ExprDone ws (const n) c before end (word c (c + 1))
  unfolding expr_cells expr_wire expr_count
  const-done w = record { cells = w; wire = refl; cell = refl }

  pub var-done : {x w : ℕ} → w ≡ ws x → ExprDone ws (var x) c before before (word w c)
  unfolding expr_cells expr_wire expr_count
  var-done e = record { cells = sym (write-none c before); wire = e; cell = omega arith }

  module _ {E : Expr} {mid : List ℕ} {e : Word} (u : ExprDone ws E c before mid e) where
    one_more : (y : Cell) {end : List ℕ} → end ≡ write e.cell (y ∷ []) mid → end ≡ write c (expr_cells ws E c ++ (y ∷ [])) before
    one_more y w = rw (u.cell, u.cells) at w ∙ write-append c _ (expr_cells ws E c) _ before (behind c (e-len ws E c))

    pub compl-done : {end : List ℕ} → end ≡ write e.cell (cell 3 0 e.wire 0 ∷ []) mid
        → ExprDone ws (compl E) c before end (word e.cell (e.cell + 1))
    unfolding expr_cells expr_wire expr_count
    compl-done w = record { cells = rw u.wire at (one_more _ w); wire = u.cell; cell = omega (arith, u.cell) }

    pub elem-done : {k w : ℕ} {end : List ℕ} → w ≡ ws (array_var k) → end ≡ write e.cell (cell 44 0 w e.wire ∷ []) mid
        → ExprDone ws (elem k E) c before end (word e.cell (e.cell + 1))
    unfolding expr_cells expr_wire expr_count
    elem-done a w = record { cells = rw a at (rw u.wire at (one_more _ w)); wire = u.cell; cell = omega (arith, u.cell) }

    pub op-done : {k : ℕ} {F : Expr} {mid₂ end : List ℕ} {f : Word} → ExprDone ws F e.cell mid mid₂ f
        → end ≡ write f.cell (cell k 0 e.wire f.wire ∷ []) mid₂ → ExprDone ws (op k E F) c before end (word f.cell (f.cell + 1))
    unfolding expr_cells expr_wire expr_count
    op-done {k} {F} v₀ w =
        let c₂ = c + expr_count E in
        let v = rw u.cell at v₀ in
        rw v.cell
        (record {
          cells =
              rw (v.cell, v.wire, u.wire, v.cells, u.cells) at w
              ∙ write-append c₂ _ (expr_cells ws F c₂) _ (write c (expr_cells ws E c) before) (behind c₂ (e-len ws F c₂))
              ∙ write-append c c₂ (expr_cells ws E c) _ before (behind c (e-len ws E c));
          wire = refl;
          cell = omega arith;
        })

    -- with its switches
    pub switches-done : {g : ℕ} {m₂ end : List ℕ} → m₂ ≡ write e.cell (cell 36 0 g e.wire ∷ []) mid
        → end ≡ write (e.cell + 1) (cell 37 0 g e.wire ∷ []) m₂ → Switched ws E c g before end e.cell
    switches-done {g} a b =
        let f = c + expr_count E in
        let x = cell 36 0 g (expr_wire ws E c) in
        let y = cell 37 0 g (expr_wire ws E c) in
        record {
          cells =
              rw (u.cell, u.wire) at b
              ∙ ap (write (f + 1) (y ∷ [])) (rw (u.cell, u.wire, u.cells) at a)
              ∙ write-append f (f + 1) (x ∷ []) (y ∷ []) (write c (expr_cells ws E c) before) refl
              ∙ write-append c f (expr_cells ws E c) (x ∷ (y ∷ [])) before (behind c (e-len ws E c));
          switch = u.cell;
        }

-- an if's own delay cell
module _ {s k : ℕ} {before : List ℕ} where
  pub own-none : {δ : ℕ} → δ ≡ 0 → Owned δ s k before before (word s k)
  unfolding if_delay_cells if_pulse if_delay_count
  own-none e = rw e (record { cells = sym (write-none k before); wire = refl; cell = omega arith })

  pub own-some : (δ : ℕ) {end : List ℕ} → (δ ≡ 0 → ⊥) → end ≡ write k (cell 34 δ s 0 ∷ []) before → Owned δ s k before end (word k (k + 1))
  unfolding if_delay_cells if_pulse if_delay_count
  own-some zero n w = absurd (n refl)
  own-some (suc δ) n w = record { cells = w; wire = refl; cell = refl }

module _ {c n : ℕ} where
  -- there is room for an expression's cells, of which k is one
  pub last_fits : {E : Expr} {k : ℕ} → ExprReady E c n → k < c + expr_count E → (k < 65535) × (6 * k + 6 ≤ n)
  last_fits r h = (omega (arith, h, r.room, r.small), omega (arith, h, r.room))

  pub compl-ready : {E : Expr} → ExprReady (compl E) c n → ExprReady E c n
  unfolding expr_count
  compl-ready r = record { formed = r.formed; room = omega (arith, r.room); small = r.small }

  pub elem-ready : {k : ℕ} {E : Expr} → ExprReady (elem k E) c n → ExprReady E c n
  unfolding expr_count
  elem-ready r = record { formed = r.formed.1; room = omega (arith, r.room); small = r.small }

  module _ {k : ℕ} {E F : Expr} (r : ExprReady (op k E F) c n) where
    pub op-first : ExprReady E c n
    unfolding expr_count
    op-first = record { formed = r.formed.2; room = omega (arith, r.room); small = r.small }

    pub op-second : ExprReady F (c + expr_count E) n
    unfolding expr_count
    op-second = record { formed = r.formed.3; room = omega (arith, r.room); small = r.small }

-- the parts of an expression have arrays where it has, or no elements where it has none
module _ {A : Type 0} {X : Expr} (b : A ⊎ BasicExpr X) where
  pub elem-words : {k : ℕ} {E : Expr} → X ≡ elem k E → A
  elem-words e = elim (rw e at b) [ inl a ↦ a | inr z ↦ absurd z ]

  module _ {k : ℕ} {E F : Expr} (e : X ≡ op k E F) where
    pub first-words : A ⊎ BasicExpr E
    first-words = elim (rw e at b) [ inl a ↦ inl a | inr z ↦ inr z.0 ]

    pub second-words : A ⊎ BasicExpr F
    second-words = elim (rw e at b) [ inl a ↦ inl a | inr z ↦ inr z.1 ]
