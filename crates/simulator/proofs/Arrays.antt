-- What a 42 takes in. Assumes nothing.
use mathlib.Core.Bool.{Bool, true, false, not, ◌&&◌}
use mathlib.Core.List.{List}
use mathlib.Core.Path.{◌≡◌, refl}
use Prim.Native.Nat.{ℕ, ◌+◌, ◌*◌}
use lib.Dec.{eqb}
use lib.ListN.{length}
use borrow.Author.Tests.{eq-eqb, ne_eqb}
use Rattle.model.specs.declared.Cell.{Cell}
use Rattle.model.specs.declared.Format.{Format}
use Rattle.model.specs.Word.{pick, element_of, put16}
use Rattle.model.specs.Circuit.{Netlist, cell_at, high}
use Rattle.model.specs.State.{base, element_base, now_at, before_at, stored}

module _ (F : Format) (net : Netlist) (s : List ℕ) (k : ℕ) (c : Cell) (e : cell_at net.cells k ≡ c) where
  abbrev fallen : Bool
  fallen = high (before_at F s c.a) && not (high (now_at F s c.a))

  abbrev taken : List ℕ
  taken = put16 s (element_base F net (element_of c.delay (before_at F s (cell_at net.cells (k + 1)).a))) (before_at F s c.b)

  stored_is : stored F net s k ≡ pick (eqb c.kind 42 && fallen) taken s
  unfolding stored
  stored_is = rw e refl

  pub stored_other : (c.kind ≡ 42 → ⊥) → stored F net s k ≡ s
  stored_other n = rw (stored_is, ne_eqb _ _ n) refl

  module _ (h : c.kind ≡ 42) where
    pub stored-kept : fallen ≡ false → stored F net s k ≡ s
    stored-kept f = rw (stored_is, eq-eqb _ _ h, f) refl

    stored-fallen : fallen ≡ true → stored F net s k ≡ taken
    stored-fallen f = rw (stored_is, eq-eqb _ _ h, f) refl

    -- as the code puts it in, from the cell behind and the values of an instant ago
    pub stored-put : fallen ≡ true → (n at w v : ℕ) (next : Cell) → length net.cells ≡ n → cell_at net.cells (k + 1) ≡ next → at ≡ base F n + 2 * element_of c.delay w
        → w ≡ before_at F s next.a → v ≡ before_at F s c.b → put16 s at v ≡ stored F net s k
    stored-put f n at w v next l z p a b = rw (stored-fallen f, l, z, p, a, b) refl
