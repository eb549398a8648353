-- Cells put in renumbered, one after another: what is still to be put in. Assumes nothing.
use mathlib.Core.Path.{◌≡◌, refl}
use mathlib.Core.List.{List, [], ◌∷◌, map}
use Prim.Native.Nat.{ℕ, ◌+◌}
use lib.Seq.{sets}
use Rattle.model.specs.declared.Cell.{Cell}
use Rattle.model.specs.NetlistFile.{cell_bytes}
use Rattle.netlist.proofs.Bytes.{put-more, put-done}

module _ (f : Cell → Cell) where
  pub moved_more : {c' : Cell} {cs rest : List Cell} (c : Cell) → cs ≡ c ∷ rest → c' ≡ f c → (d : List ℕ) (i : ℕ) {d' : List ℕ} → d' ≡ sets d i (cell_bytes (c' ∷ []))
      → sets d i (cell_bytes (map f cs)) ≡ sets d' (i + 6) (cell_bytes (map f rest))
  moved_more {c'} c e g d i p = rw e (put-more (f c) refl d i (rw g at p))

  pub moved-done : {cs : List Cell} → cs ≡ [] → (d : List ℕ) (i : ℕ) → sets d i (cell_bytes (map f cs)) ≡ d
  moved-done e d i = rw e (put-done refl d i)
