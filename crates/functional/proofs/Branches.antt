-- What an if asks of its parts, and what it leaves. Assumes nothing.
use mathlib.Core.Path.{◌≡◌, refl, ◌∙◌, ap, ap₂}
use mathlib.Core.Bool.{Bool}
use mathlib.Core.List.{List, [], ◌∷◌, ◌++◌, append_assoc}
use Prim.Native.Nat.{ℕ, zero, suc, ◌+◌, ◌*◌, ◌≤◌}
use native.Mathlib.Omega.{arith}
use lib.ListN.{length, length-append}
use Rattle.model.specs.declared.Cell.{Cell}
use Rattle.model.specs.Program.{Expr, Code, Stmt, ite}
use Rattle.model.specs.Procedures.{inline}
use Rattle.model.specs.Circuit.{cell}
use Rattle.model.specs.Numbering.{Wires, expr_count, expr_wire, expr_cells, if_delay_count, if_delay_cells, if_pulse}
use Rattle.model.specs.Functional.{many, placed, joins_at, choices, count, finish_wire, outs, walk, branches, if_delay, if_true, if_then, if_else, if_end}
use Rattle.laws.specs.Numbering.Lengths.{e-len}
use Rattle.laws.specs.Functional.Count.{w-len}
use Rattle.laws.specs.Numbering.Lengths.{own-len}
use Rattle.compiler.specs.Writes.{write}
use Rattle.compiler.specs.Walk.{ExprReady, ExprDone, Owned}
use Rattle.compiler.proofs.Writes.{write-append, write_two}
use Rattle.compiler.specs.declared.walk.Word.{Word}
use Rattle.functional.specs.declared.walk.Place.{Place}
use Rattle.functional.specs.declared.sets.Wires as declared
use Rattle.functional.specs.Sets.{has, wired, Agrees, Tells}
use Rattle.functional.specs.Walk.{plainly, place, Ready, Done, End}
use Rattle.functional.proofs.Bits.{choices-same, many-set, placed-set, choices-set}

-- Its own delay ----------------------------------------------------------------------------------------------------------------------------------

pub no-delay : {δ k : ℕ} → δ ≡ 0 → k ≡ 0 → k ≡ if_delay_count δ
unfolding if_delay_count
no-delay e h = rw e h

pub own-delay : (δ : ℕ) {k : ℕ} → (δ ≡ 0 → ⊥) → k ≡ 1 → k ≡ if_delay_count δ
unfolding if_delay_count
own-delay zero n h = absurd (n refl)
own-delay (suc δ) n h = h

-- Its cells, from the first to the last --------------------------------------------------------------------------------------------------------------------------------

pub if-cells : (δ : ℕ) (E : Expr) (P Q : Stmt) (s : ℕ) (us : Wires) (c : ℕ) (before : List ℕ) {m₁ m₂ m₃ m₄ m₅ end : List ℕ}
    → let w = expr_wire us E c in
    let g = if_pulse δ s (if_delay δ E P Q c) in
    let t = if_true δ E P Q c in
    let cP = if_then δ E P Q c in
    let cQ = if_else δ E P Q c in
    let m = if_end δ E P Q c in
    m₁ ≡ write c (expr_cells us E c) before
    → m₂ ≡ write (if_delay δ E P Q c) (if_delay_cells δ s) m₁
    → m₃ ≡ write t (cell 36 0 g w ∷ cell 37 0 g w ∷ []) m₂
    → m₄ ≡ write cP (walk P t us cP) m₃
    → m₅ ≡ write cQ (walk Q (t + 1) us cQ) m₄
    → end
    ≡ write m
    (cell 35 0 (finish_wire P t cP) (finish_wire Q (t + 1) cQ)
    ∷ cell 8 0 w 2
    ∷ cell 5 0 2 (m + 1)
    ∷ cell 3 0 (m + 1 + 1) 0
    ∷ choices (branches P Q) (λ y. cell 6 0 (outs P us cP y) (m + 1 + 1 + 1)) (λ y. cell 6 0 (outs Q us cQ y) (m + 1 + 1)) (m + 1 + 1 + 1 + 1)) m₅
    → end ≡ write c (walk (ite δ E P Q) s us c) before
unfolding walk
if-cells δ E P Q s us c before w₁ w₂ w₃ w₄ w₅ w₆ =
    let w = expr_wire us E c in
    let g = if_pulse δ s (if_delay δ E P Q c) in
    let t = if_true δ E P Q c in
    let cP = if_then δ E P Q c in
    let cQ = if_else δ E P Q c in
    let m = if_end δ E P Q c in
    let A = expr_cells us E c in
    let B = if_delay_cells δ s in
    let C = cell 36 0 g w ∷ cell 37 0 g w ∷ [] in
    let D = walk P t us cP in
    let F = walk Q (t + 1) us cQ in
    let G =
    cell 35 0 (finish_wire P t cP) (finish_wire Q (t + 1) cQ)
    ∷ cell 8 0 w 2
    ∷ cell 5 0 2 (m + 1)
    ∷ cell 3 0 (m + 1 + 1) 0
    ∷ choices (branches P Q) (λ y. cell 6 0 (outs P us cP y) (m + 1 + 1 + 1)) (λ y. cell 6 0 (outs Q us cQ y) (m + 1 + 1)) (m + 1 + 1 + 1 + 1) in
    let lA = e-len us E c in
    let lB = own-len δ s in
    let lD = w-len P t us cP in
    let lF = w-len Q (t + 1) us cQ in
    let x₂ = A ++ B in
    let l₂ : length x₂ ≡ expr_count E + if_delay_count δ = length-append A B ∙ omega (arith, lA, lB) in
    let x₃ = x₂ ++ C in
    let l₃ : length x₃ ≡ expr_count E + if_delay_count δ + 2 = length-append x₂ C ∙ omega (arith, l₂) in
    let x₄ = x₃ ++ D in
    let l₄ : length x₄ ≡ expr_count E + if_delay_count δ + 2 + count P = length-append x₃ D ∙ omega (arith, l₃, lD) in
    let x₅ = x₄ ++ F in
    let l₅ : length x₅ ≡ expr_count E + if_delay_count δ + 2 + count P + count Q = length-append x₄ F ∙ omega (arith, l₄, lF) in
    let s₂ = w₂ ∙ ap (write (if_delay δ E P Q c) B) w₁ ∙ write-append c (if_delay δ E P Q c) A B before (omega (arith, lA)) in
    let s₃ = w₃ ∙ ap (write t C) s₂ ∙ write-append c t x₂ C before (omega (arith, l₂)) in
    let s₄ = w₄ ∙ ap (write cP D) s₃ ∙ write-append c cP x₃ D before (omega (arith, l₃)) in
    let s₅ = w₅ ∙ ap (write cQ F) s₄ ∙ write-append c cQ x₄ F before (omega (arith, l₄)) in
    w₆
    ∙ ap (write m G) s₅
    ∙ write-append c m x₅ G before (omega (arith, l₅))
    ∙ ap (λ (x : List Cell). write c x before) (simp append_assoc)

-- What it asks of its parts ----------------------------------------------------------------------------------------------------------------------

module _ {δ c n : ℕ} {E : Expr} {P Q : Code} (r : Ready (ite δ E P Q) c n) where
  pub if-room :
      6 * (c + expr_count E + if_delay_count δ + 2 + count (plainly P) + count (plainly Q) + 4 + 3 * many (branches (plainly P) (plainly Q))) ≤ n
  unfolding count inline
  if-room = omega (arith, r.room)

  pub if-expr : ExprReady E c n
  if-expr = record { formed = r.formed.1; room = omega (arith, if-room); small = r.small }

  module _ {t : ℕ} (e : t ≡ c + expr_count E + if_delay_count δ) where
    pub if-first : Ready P (t + 1 + 1) n
    if-first = record { formed = r.formed.2; basic = r.basic.1; room = omega (arith, if-room, e); small = r.small }

    pub if-second : {k : ℕ} → k ≡ t + 1 + 1 + count (plainly P) → Ready Q k n
    if-second q = record { formed = r.formed.3; basic = r.basic.2; room = omega (arith, if-room, e, q); small = r.small }

-- What it leaves -----------------------------------------------------------------------------------------------------------------------------------

pub end-done : (set n word : ℕ) (ws ones zeros out : declared.Wires) (p q : Place) (before : List ℕ) {m₁ m₂ end : List ℕ} {r : ℕ}
    → n ≡ many (has set)
    → m₁ ≡ write q.cell (cell 35 0 p.wire q.wire ∷ []) before
    → m₂ ≡ write (q.cell + 1) (cell 8 0 word 2 ∷ cell 5 0 2 (q.cell + 1) ∷ cell 3 0 (q.cell + 1 + 1) 0 ∷ []) m₁
    → Agrees ones.of (λ x. q.cell + 3)
    → Agrees zeros.of (λ x. q.cell + 2)
    → end
    ≡ write (q.cell + 4)
    (choices (has set) (λ y. cell 6 0 (wired p.words.of y) (wired ones.of y)) (λ y. cell 6 0 (wired q.words.of y) (wired zeros.of y)) (q.cell + 4)) m₂
    → r ≡ q.cell + 4 + many (has set) + many (has set) + many (has set)
    → Agrees out.of (placed (has set) (q.cell + 4 + n + n) (wired ws.of))
    → End set word ws p q before end (place q.cell r out)
end-done set n word ws ones zeros out p q before {m₁} {m₂} {end} {r} told w₁ w₂ a₁ a₂ w₃ next a₃ =
    let b : ℕ → Bool = has set in
    let m = q.cell in
    let k = m + 1 + 1 + 1 + 1 in
    let f₀ : ℕ → Cell = λ y. cell 6 0 (wired p.words.of y) (wired ones.of y) in
    let f : ℕ → Cell = λ y. cell 6 0 (wired p.words.of y) (m + 1 + 1 + 1) in
    let g₀ : ℕ → Cell = λ y. cell 6 0 (wired q.words.of y) (wired zeros.of y) in
    let g : ℕ → Cell = λ y. cell 6 0 (wired q.words.of y) (m + 1 + 1) in
    let e₂ : m + 2 ≡ m + 1 + 1 = omega arith in
    let e₃ : m + 3 ≡ m + 1 + 1 + 1 = omega arith in
    let e₄ : m + 4 ≡ k = omega arith in
    let e₅ : m + 4 + n + n ≡ joins_at b k = omega (arith, told) in
    let same : choices b f₀ g₀ k ≡ choices b f g k =
    choices-same b f₀ f g₀ g k (λ y l z. rw (a₁ y l, e₃) refl) (λ y l z. rw (a₂ y l, e₂) refl) in
    let x = cell 35 0 p.wire q.wire in
    let masks = cell 8 0 word 2 ∷ cell 5 0 2 (m + 1) ∷ cell 3 0 (m + 1 + 1) 0 ∷ [] in
    record {
      cells =
          rw e₄ at w₃
          ∙ ap₂ (λ (cs : List Cell) (s : List ℕ). write k cs s) same (w₂ ∙ ap (write (m + 1) masks) w₁ ∙ write-append m (m + 1) (x ∷ []) masks before refl)
          ∙ write-append m k (x ∷ masks) (choices b f g k) before (omega arith);
      wire = refl;
      cell = omega (arith, next);
      words = λ y l. a₃ y l ∙ rw e₅ refl;
    }

pub if-done : (δ : ℕ) (E : Expr) (P Q : Code) (at : Place) (us : Wires) (set : ℕ) {before m₁ m₂ m₃ m₄ m₅ m₆ end : List ℕ} {e : Word} {o : Word} {p q r : Place}
    → Agrees at.words.of us
    → ExprDone us E at.cell before m₁ e
    → Owned δ at.wire e.cell m₁ m₂ o
    → m₃ ≡ write o.cell (cell 36 0 o.wire e.wire ∷ []) m₂
    → m₄ ≡ write (o.cell + 1) (cell 37 0 o.wire e.wire ∷ []) m₃
    → Done (plainly P) (place o.cell (o.cell + 1 + 1) at.words) us m₄ m₅ p
    → Done (plainly Q) (place (o.cell + 1) p.cell at.words) us m₅ m₆ q
    → Tells set (branches (plainly P) (plainly Q))
    → End set e.wire at.words p q m₆ end r
    → Done (plainly (ite δ E P Q)) at us before end r
unfolding inline finish_wire count outs
if-done δ E P Q at us set {before} {m₁} {m₂} {m₃} {m₄} {m₅} {m₆} {end} {e} {o} {p} {q} {r} same u owned w₃ w₄ first second t last =
    let c = at.cell in
    let s = at.wire in
    let P' = plainly P in
    let Q' = plainly Q in
    let b : ℕ → Bool = has set in
    let b' : ℕ → Bool = branches P' Q' in
    let k = if_true δ E P' Q' c in
    let cP = if_then δ E P' Q' c in
    let cQ = if_else δ E P' Q' c in
    let m = if_end δ E P' Q' c in
    let ow : Owned δ s (c + expr_count E) m₁ m₂ o = rw u.cell at owned in
    let v : Done P' (place k cP at.words) us m₄ m₅ p = rw ow.cell at first in
    let w : Done Q' (place (k + 1) cQ at.words) us m₅ m₆ q = rw (ow.cell, v.cell) at second in
    let f₀ : ℕ → Cell = λ y. cell 6 0 (wired p.words.of y) (m + 1 + 1 + 1) in
    let f : ℕ → Cell = λ y. cell 6 0 (outs P' us cP y) (m + 1 + 1 + 1) in
    let g₀ : ℕ → Cell = λ y. cell 6 0 (wired q.words.of y) (m + 1 + 1) in
    let g : ℕ → Cell = λ y. cell 6 0 (outs Q' us cQ y) (m + 1 + 1) in
    let j : joins_at b (q.cell + 1 + 1 + 1 + 1) ≡ joins_at b' (m + 1 + 1 + 1 + 1) = omega (arith, w.cell, many-set b b' t) in
    let words : choices b f₀ g₀ (m + 1 + 1 + 1 + 1) ≡ choices b' f g (m + 1 + 1 + 1 + 1) =
    choices-same b f₀ f g₀ g (m + 1 + 1 + 1 + 1) (λ y l z. rw (v.words y l) refl) (λ y l z. rw (w.words y l) refl)
    ∙ choices-set b b' t f g (m + 1 + 1 + 1 + 1) in
    let x = expr_wire us E c in
    record {
      cells =
          if-cells δ E P' Q' s us c before u.cells ow.cells
          (write_two k _ _ m₂ (rw (ow.cell, ow.wire, u.wire) at w₃) (rw (ow.cell, ow.wire, u.wire) at w₄))
          v.cells
          w.cells
          (rw (w.cell, v.wire, w.wire, u.wire) at last.cells
          ∙ ap
          (λ (cs : List Cell).
          write m
          (cell 35 0 (finish_wire P' k cP) (finish_wire Q' (k + 1) cQ) ∷ cell 8 0 x 2 ∷ cell 5 0 2 (m + 1) ∷ cell 3 0 (m + 1 + 1) 0 ∷ cs) m₆) words);
      wire = last.wire ∙ w.cell;
      cell = omega (arith, last.cell, w.cell, many-set b b' t);
      words = λ y l. last.words y l ∙ rw (same y l, j) (placed-set b b' t (joins_at b' (m + 1 + 1 + 1 + 1)) us y l);
    }
