-- A kind's row: each arm is a line of the model's table, and a kind of no arm is unknown. Assumes nothing.
use Rattle.std.proofs.Common.{◌≡◌, ℕ, ◌<◌, ◌⊎◌, refl, inl, inr, arith}
use Rattle.model.specs.Circuit.{k_unknown, cell_table, shape, cell_row}
use Rattle.laws.specs.Circuit.Shapes.{operator-shape, outside, apart}
use Rattle.netlist.proofs.kinds.cell_row.Goals as goal
use Rattle.netlist.proofs.kinds.cell_row.Goals.{in_default-via-then-kind-lt3, in_default-via-else-kind-lt3+else-kind-lt10}

unlisted : (k : ℕ) → (k < 4) ⊎ (9 < k) → (k ≡ 1 → ⊥) → (k ≡ 3 → ⊥) → (k ≡ 32 → ⊥) → (k ≡ 33 → ⊥) → (k ≡ 34 → ⊥) → (k ≡ 35 → ⊥) → (k ≡ 36 → ⊥) → (k ≡ 37 → ⊥) → (k ≡ 38 → ⊥) → (k ≡ 39 → ⊥) → (k ≡ 40 → ⊥) → (k ≡ 41 → ⊥) → (k ≡ 42 → ⊥) → (k ≡ 43 → ⊥) → (k ≡ 44 → ⊥) → (k ≡ 45 → ⊥) → shape k ≡ k_unknown
unfolding shape cell_table
unlisted k o n1 n3 n32 n33 n34 n35 n36 n37 n38 n39 n40 n41 n42 n43 n44 n45 =
    rw (
      apart k 1 n1,
      apart k 3 n3,
      outside k 4 9 o,
      apart k 32 n32,
      apart k 33 n33,
      apart k 34 n34,
      apart k 35 n35,
      apart k 36 n36,
      apart k 37 n37,
      apart k 38 n38,
      apart k 39 n39,
      apart k 40 n40,
      apart k 41 n41,
      apart k 42 n42,
      apart k 43 n43,
      apart k 44 n44,
      apart k 45 n45,
    )
    refl

pub returns-in-1 : goal.returns-in-1
unfolding shape cell_table
returns-in-1 c = rw (c.row.ensures, c.in-1.is) refl

pub returns-in-3 : goal.returns-in-3
unfolding shape cell_table
returns-in-3 c = rw (c.row-in-3.ensures, c.in-3.is) refl

pub returns-in-32 : goal.returns-in-32
unfolding shape cell_table
returns-in-32 c = rw (c.row-in-32.ensures, c.in-32.is) refl

pub returns-in-33 : goal.returns-in-33
unfolding shape cell_table
returns-in-33 c = rw (c.row-in-33.ensures, c.in-33.is) refl

pub returns-in-34 : goal.returns-in-34
unfolding shape cell_table
returns-in-34 c = rw (c.row-in-34.ensures, c.in-34.is) refl

pub returns-in-35 : goal.returns-in-35
unfolding shape cell_table
returns-in-35 c = rw (c.row-in-35.ensures, c.in-35.is) refl

pub returns-in-36 : goal.returns-in-36
unfolding shape cell_table
returns-in-36 c = rw (c.row-in-36.ensures, c.in-36.is) refl

pub returns-in-37 : goal.returns-in-37
unfolding shape cell_table
returns-in-37 c = rw (c.row-in-37.ensures, c.in-37.is) refl

pub returns-in-38 : goal.returns-in-38
unfolding shape cell_table
returns-in-38 c = rw (c.row-in-38.ensures, c.in-38.is) refl

pub returns-in-39 : goal.returns-in-39
unfolding shape cell_table
returns-in-39 c = rw (c.row-in-39.ensures, c.in-39.is) refl

pub returns-in-40 : goal.returns-in-40
unfolding shape cell_table
returns-in-40 c = rw (c.row-in-40.ensures, c.in-40.is) refl

pub returns-in-41 : goal.returns-in-41
unfolding shape cell_table
returns-in-41 c = rw (c.row-in-41.ensures, c.in-41.is) refl

pub returns-in-42 : goal.returns-in-42
unfolding shape cell_table
returns-in-42 c = rw (c.row-in-42.ensures, c.in-42.is) refl

pub returns-in-43 : goal.returns-in-43
unfolding shape cell_table
returns-in-43 c = rw (c.row-in-43.ensures, c.in-43.is) refl

pub returns-in-44 : goal.returns-in-44
unfolding shape cell_table
returns-in-44 c = rw (c.row-in-44.ensures, c.in-44.is) refl

pub returns-in-45 : goal.returns-in-45
unfolding shape cell_table
returns-in-45 c = rw (c.row-in-45.ensures, c.in-45.is) refl

pub returns-in-4-to-9 : goal.returns-in-4-to-9
unfolding cell_table
returns-in-4-to-9 c =
    let kind = c.args.kind in
    rw (c.row-in-4-to-9.ensures, cell_row, operator-shape kind (omega arith) (omega arith)) refl

pub returns-in_default : goal.returns-in_default
unfolding cell_table
returns-in_default c =
    let none : shape c.args.kind ≡ k_unknown = unlisted _
    (elim c.in_default.branch [
      | in_default-via-then-kind-lt3 w ↦ inl (omega arith)
      | in_default-via-else-kind-lt3+else-kind-lt10 w ↦ inr (omega arith)
    ])
    (omega arith) (omega arith) (omega arith) (omega arith) (omega arith) (omega arith) (omega arith) (omega arith) (omega arith) (omega arith) (omega arith) (omega arith) (omega arith) (omega arith) (omega arith) (omega arith) in
    rw (c.row-in_default.ensures, cell_row, none) refl
