-- The nodes of a list of node bytes are those nodes again.
-- Assumes nothing.
use Rattle.std.specs.Prelude.{◌≡◌, length}
use Rattle.std.proofs.Math.Path.{refl, ap}
use Rattle.std.proofs.Common.{◌∙◌, ap₂}
use mathlib.Core.List.{List, [], ◌∷◌}
use Prim.Native.Nat.{ℕ, zero, suc, ◌+◌, ◌-◌, ◌*◌, ◌/◌, ◌%◌}
use native.Mathlib.Omega.{arith}
use Rattle.std.proofs.Math.ListN.{get_or}
use Rattle.model.specs.declared.Node.{Node}
use Rattle.model.specs.Word.{get16, bytes16}
use Rattle.model.specs.Program.{node, node_at, nodes_from, nodes_at, node_bytes}

pub length-bytes : (ns : List Node) → length (node_bytes ns) ≡ 4 * length ns
unfolding node_bytes bytes16
length-bytes [] = refl
length-bytes (a ∷ ns) = omega (arith, length-bytes ns)

-- nodes that begin behind k others
module _ (s : List ℕ) where
  at_next : (a : Node) (i : ℕ) → node_at (a.kind ∷ a.delay ∷ (a.n % 256) ∷ (a.n / 256) ∷ s) (suc i) ≡ node_at s i
  unfolding node_at get16
  at_next a i =
      let l = a.kind ∷ a.delay ∷ (a.n % 256) ∷ (a.n / 256) ∷ s in
      let byte : (j m : ℕ) → m ≡ suc (suc (suc (suc j))) → get_or l m 0 ≡ get_or s j 0 = λ j m e. ap (λ (x : ℕ). get_or l x 0) e in
      let k = byte (4 * i) (4 * suc i) (omega arith) in
      let d = byte (4 * i + 1) (4 * suc i + 1) (omega arith) in
      let x = byte (4 * i + 2) (4 * suc i + 2) (omega arith) in
      let y = byte (4 * i + 2 + 1) (4 * suc i + 2 + 1) (omega arith) in
      rw (k, d, x, y) refl

  at_first : (a : Node) → node_at (a.kind ∷ a.delay ∷ (a.n % 256) ∷ (a.n / 256) ∷ s) 0 ≡ a
  unfolding node_at get16
  at_first a =
      let e : a.n % 256 + 256 * (a.n / 256) ≡ a.n = omega arith in
      ap (λ (v : ℕ). node a.kind a.delay v) e

  from_next : (a : Node) (k i : ℕ) → nodes_from (a.kind ∷ a.delay ∷ (a.n % 256) ∷ (a.n / 256) ∷ s) (suc i) k ≡ nodes_from s i k
  unfolding nodes_from
  from_next a zero i = refl
  from_next a (suc k) i =
      let e : suc i + 1 ≡ suc (i + 1) = omega arith in
      rw e (ap₂ ◌∷◌ (at_next a i) (from_next a k (i + 1)))

from_bytes : (ns : List Node) → nodes_from (node_bytes ns) 0 (length ns) ≡ ns
unfolding node_bytes bytes16 nodes_from
from_bytes [] = refl
from_bytes (a ∷ ns) = ap₂ ◌∷◌ (at_first (node_bytes ns) a) (from_next (node_bytes ns) a (length ns) 0 ∙ from_bytes ns)

pub nodes-back : (ns : List Node) → nodes_at (node_bytes ns) 0 ≡ ns
nodes-back ns =
    let e : length (node_bytes ns) / 4 - 0 ≡ length ns = omega (arith, length-bytes ns) in
    ap (nodes_from (node_bytes ns) 0) e ∙ from_bytes ns
