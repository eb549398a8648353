-- The marks of a part, put in gate by gate: what is still to be put in. Assumes nothing.
use mathlib.Core.Path.{◌≡◌, refl, sym, ap₂, ◌∙◌}
use mathlib.Core.List.{List, [], ◌∷◌, ◌++◌}
use Prim.Native.Nat.{ℕ, ◌+◌}
use lib.Dec.{leb}
use lib.ListN.{length, get_or, drop}
use lib.Seq.{sets}
use borrow.Author.Tests.{eq-eqb, ne_eqb}
use Rattle.model.specs.declared.Cell.{Cell}
use Rattle.model.specs.Word.{pick}
use Rattle.laws.specs.Lists.Writes.{sets-append}
use Rattle.joiner.specs.Gates.{gate, gate_marks}

-- One gate ---------------------------------------------------------------------------------------------------------------------------------

pub no-marks : (delay n : ℕ) {x : ℕ} → x ≡ 20 → gate x delay n ≡ []
unfolding gate
no-marks delay n {x} e = rw (eq-eqb x 20 e) refl

pub own-marks : (delay n : ℕ) {x : ℕ} → (x ≡ 20 → ⊥) → gate x delay n ≡ x ∷ delay ∷ n ∷ pick (leb 16 x) (n + 1) 0 ∷ []
unfolding gate
own-marks delay n {x} e = rw (ne_eqb x 20 e) refl

-- A loop stands at cell i, with the gates from g on ------------------------------------------------------------------------------------------

module _ (i : ℕ) (gates : List ℕ) {cs : List Cell} where
  module _ (c : Cell) {rest : List Cell} (e : cs ≡ c ∷ rest) where
    pub no-gate : (c.kind ≡ 41 → ⊥) → gate_marks i cs gates ≡ gate_marks (i + 1) rest gates
    unfolding gate_marks
    no-gate k = rw (e, ne_eqb c.kind 41 k) refl

    pub a-gate : {x : ℕ} {behind : List ℕ} → c.kind ≡ 41 → x ≡ get_or gates 0 0 → behind ≡ drop 1 gates
        → gate_marks i cs gates ≡ gate x c.a i ++ gate_marks (i + 1) rest behind
    unfolding gate_marks
    a-gate k first after = rw (e, eq-eqb c.kind 41 k, first, after) refl

  pub no_cells : cs ≡ [] → gate_marks i cs gates ≡ []
  unfolding gate_marks
  no_cells e = rw e refl

-- marks put in behind others
pub put-behind : (xs ys : List ℕ) (marks : List ℕ) (next : ℕ) {after : List ℕ} {n : ℕ} → after ≡ sets marks next xs → n ≡ next + length xs
    → sets marks next (xs ++ ys) ≡ sets after n ys
put-behind xs ys marks next e f = sets-append marks next xs ys ∙ ap₂ (λ (l : List ℕ) (k : ℕ). sets l k ys) (sym e) (sym f)
