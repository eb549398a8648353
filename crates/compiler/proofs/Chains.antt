-- Wires joined one after another: what is still to be done comes out as at the start. Assumes nothing.
use mathlib.Core.Path.{◌≡◌, refl, sym, ◌∙◌, ap}
use mathlib.Core.List.{List, [], ◌∷◌}
use Rattle.std.specs.Prelude.{Option, Some, None, unwrap_or}
use Prim.Native.Nat.{ℕ, ◌+◌, ◌≤◌}
use native.Mathlib.Omega.{arith}
use lib.ListN.{length}
use Rattle.model.specs.Circuit.{cell}
use Rattle.model.specs.Numbering.{or_chain, or_chain_out, ors, ors_out, or_count}
use Rattle.compiler.specs.declared.chain.Chain.{Chain}
use Rattle.compiler.specs.Writes.{write}
use Rattle.compiler.specs.Ors.{rest, rest_out, rest_count, Chaining}
use Rattle.compiler.proofs.Writes.{write-none, write-append, write-length}

abbrev pub chain : ℕ → Option ℕ → ℕ → Chain
chain kind so_far next = record { kind = kind; so_far = so_far; next = next }

module _ {kind none n : ℕ} {ws before : List ℕ} where
  pub chain-start : Chaining kind none n ws ws before before (chain kind None n)
  unfolding rest rest_out rest_count
  chain-start = record { kind_is = refl; cells_are = refl; wire = refl; cell = refl; same = refl }

  module _ {left cells : List ℕ} {w : ℕ} {c : Chain} (C₀ : Chaining kind none n ws (w ∷ left) before cells c) where
    pub chain_first : c.so_far ≡ None → Chaining kind none n ws left before cells (chain c.kind (Some w) c.next)
    unfolding rest rest_out rest_count ors ors_out or_count
    chain_first s =
        record { kind_is = C₀.kind_is; cells_are = rw s at C₀.cells_are; wire = rw s at C₀.wire; cell = rw s at C₀.cell; same = C₀.same }

    module _ {acc : ℕ} (s : c.so_far ≡ Some acc) where
      -- the or lies before the end
      pub chain-room : c.next + 1 ≤ n + or_count ws
      unfolding rest_count
      chain-room = omega (arith, rw s at C₀.cell)

      pub chain_more : {after : List ℕ} → after ≡ write c.next (cell c.kind 0 acc w ∷ []) cells
          → Chaining kind none n ws left before after (chain c.kind (Some c.next) (c.next + 1))
      unfolding rest rest_out rest_count or_chain or_chain_out
      chain_more e =
          let y = cell kind 0 acc w in
          let Y = or_chain kind c.next (c.next + 1) left in
          let put = rw C₀.kind_is at e in
          record {
            kind_is = C₀.kind_is;
            cells_are = ap (write (c.next + 1) Y) put ∙ write-append c.next (c.next + 1) (y ∷ []) Y cells refl ∙ (rw s at C₀.cells_are);
            wire = rw s at C₀.wire;
            cell = let z = rw s at C₀.cell in omega (arith, z);
            same = ap length put ∙ write-length c.next (y ∷ []) cells ∙ C₀.same;
          }

  module _ {cells : List ℕ} {kind₂ next : ℕ} where
    pub chain-cells : (so_far : Option ℕ) → Chaining kind none n ws [] before cells (chain kind₂ so_far next) → cells ≡ write n (ors kind n ws) before
    unfolding rest ors or_chain
    chain-cells (Some acc) C = sym (write-none next cells) ∙ C.cells_are
    chain-cells None C = sym (write-none next cells) ∙ C.cells_are

    pub chain-wire : (so_far : Option ℕ) → Chaining kind none n ws [] before cells (chain kind₂ so_far next) → unwrap_or so_far none ≡ ors_out none n ws
    unfolding rest_out ors_out or_chain_out
    chain-wire (Some acc) C = C.wire
    chain-wire None C = C.wire

    pub chain-next : (so_far : Option ℕ) → Chaining kind none n ws [] before cells (chain kind₂ so_far next) → next ≡ n + or_count ws
    unfolding rest_count or_count
    chain-next (Some acc) C = omega (arith, C.cell)
    chain-next None C = omega (arith, C.cell)
