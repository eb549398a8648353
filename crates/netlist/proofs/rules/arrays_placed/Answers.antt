-- `rules::arrays_placed` meets its contract: among the arrays' cells a 42 or a 43, and none elsewhere. Assumes nothing.
use Rattle.std.proofs.Common.{◌≡◌, ℕ, ◌+◌, ◌≤◌, not, refl, arith, le-ltb, lt-ltb, ne_eqb, le-leb}
use borrow.Author.Tests.{lt-leb}
use Rattle.model.specs.declared.Cell.{Cell}
use Rattle.model.specs.NetlistFile.{of_array, array_placed}
use Rattle.laws.specs.Refusals.Laws.{by_le}
use Rattle.netlist.proofs.rules.arrays_placed.Goals as goal
use Rattle.netlist.proofs.rules.arrays_placed.Goals.{in_default-via-in-Some+else-j-lt-ARRAY_CELLS, in_default-via-in_default}

elsewhere : (m k : ℕ) (c : Cell) → (m ≤ k → m + 8 ≤ k) → not (of_array c.kind) ≡ array_placed m k c
unfolding array_placed
elsewhere m k c h =
    by_le m k (λ l. rw (le-leb m k l, le-ltb k (m + 8) (h l)) refl) (λ l. rw (lt-leb m k l) refl)

pub returns-then-j-eq0 : goal.returns-then-j-eq0
unfolding array_placed
returns-then-j-eq0 c =
    let args = c.args in
    let at = c.in-Some.ensures in
    rw (le-leb _ _ at.0, lt-ltb args.k (args.m + 8) (omega (arith, at, c.if-j-lt-ARRAY_CELLS.true)), ← at.1, c.if-j-eq0.true, c.from.ensures) refl

pub returns-else-j-eq0 : goal.returns-else-j-eq0
unfolding array_placed
returns-else-j-eq0 c =
    let args = c.args in
    let at = c.in-Some.ensures in
    rw (le-leb _ _ at.0, lt-ltb args.k (args.m + 8) (omega (arith, at, c.if-j-lt-ARRAY_CELLS.true)), ← at.1, ne_eqb _ _ c.if-j-eq0.false) refl

pub returns-in_default : goal.returns-in_default
unfolding array_placed
returns-in_default c =
    rw c.of_array.ensures
    (elsewhere c.args.m c.args.k c.args.c (elim c.in_default.branch [
      | in_default-via-in-Some+else-j-lt-ARRAY_CELLS w ↦ λ h. omega (arith, w.in-Some.ensures, w.if-j-lt-ARRAY_CELLS.false)
      | in_default-via-in_default w ↦ λ h. absurd (w.in_default.ensures h)
    ]))
