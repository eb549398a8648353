-- The array of subtree ends: what an entry says, and where so many subtrees end.
-- Assumes nothing: definitions, and laws of arrays whose entries are right from some node on.
use Rattle.std.specs.Prelude.{◌≡◌, List, length, get_or, set, ltb}
use Rattle.std.proofs.Math.Path.{refl, ap, ap₂, subst⁻¹}
use Rattle.std.proofs.Common.{sym, ◌∙◌, not-suc-le-zero, get_or-set_same, get_or-set_other, lt-ltb, le-ltb}
use Prim.Native.Nat.{ℕ, zero, suc, ◌+◌, ◌-◌, ◌≤◌, ◌<◌}
use native.Mathlib.Omega.{arith}
use Rattle.std.proofs.Math.Decide.{dec_lt, ℕ_discrete}
use Rattle.std.proofs.Math.ListN.{drop}
use Rattle.std.proofs.Math.Seq.{drop-drop}
use Rattle.model.specs.declared.Node.{Node}
use Rattle.model.specs.Word.{pick}
use Rattle.model.specs.Program.{node_at, node_count, arity, grow, trees_at}
use Rattle.laws.specs.Program.Trees.{trees-none, trees-step}

-- entry j is the node after the subtree of node j: the trees from there on are those after the first
pub record EndAt (s ends : List ℕ) (j : ℕ) : Type 0 where
  pub later : j < get_or ends j 0
  pub within : get_or ends j 0 ≤ node_count s
  pub rest : trees_at s (get_or ends j 0) ≡ drop 1 (trees_at s j)

-- a program with its array of subtree ends
pub record Laid (s ends : List ℕ) : Type 0 where
  pub short : length s ≤ 800
  pub each : (j : ℕ) → j < node_count s → EndAt s ends j

-- the node after the subtree of node i; i itself where there is no node i
unfoldable pub past : List ℕ → ℕ → ℕ → ℕ
past ends count i = pick (ltb i count) (get_or ends i 0) i

-- the node after so many subtrees that begin at node i
unfoldable pub skips : List ℕ → ℕ → ℕ → ℕ → ℕ
skips ends count zero i = i
skips ends count (suc k) i = skips ends count k (past ends count i)

-- One subtree --------------------------------------------------------------------------------------------------------------------------

-- that of node j; node k comes after it
module _ (s ends : List ℕ) (j : ℕ) (E : j < node_count s → EndAt s ends j) (k : ℕ) (e : k ≡ past ends (node_count s) j) where
  by_end : (P : ℕ → Type 0) → (j < node_count s → P (get_or ends j 0)) → (node_count s ≤ j → P j) → P k
  unfolding past
  by_end P f g = subst⁻¹ P e (go (dec_lt j (node_count s)))
    where
      go : Dec (j < node_count s) → P (pick (ltb j (node_count s)) (get_or ends j 0) j)
      go (yes h) = rw (lt-ltb _ _ h) (f h)
      go (no n) =
          let m : node_count s ≤ j = omega arith in
          rw (le-ltb _ _ m) (g m)

  pub past-trees : trees_at s k ≡ drop 1 (trees_at s j)
  past-trees = by_end (λ (m : ℕ). trees_at s m ≡ drop 1 (trees_at s j)) (λ h. (E h).rest) (λ m. rw (trees-none s j m) refl)

  pub past-later : j ≤ k
  past-later = by_end (λ (m : ℕ). j ≤ m) (λ h. omega (arith, (E h).later)) (λ m. omega arith)

  pub past-within : j ≤ node_count s → k ≤ node_count s
  past-within l = by_end (λ (m : ℕ). m ≤ node_count s) (λ h. (E h).within) (λ m. l)

-- Several subtrees ---------------------------------------------------------------------------------------------------------------------

module _ (ends : List ℕ) (count : ℕ) where
  pub skip-next : (left i next : ℕ) → 0 < left → next ≡ past ends count i → skips ends count left i ≡ skips ends count (left - 1) next
  unfolding skips
  skip-next zero i next h e = absurd (not-suc-le-zero h)
  skip-next (suc k) i next h e =
      let f : k ≡ suc k - 1 = omega arith in
      ap₂ (skips ends count) f (sym e)

  pub skip-end : (left i : ℕ) → left ≤ 0 → i ≡ skips ends count left i
  unfolding skips
  skip-end zero i h = refl
  skip-end (suc k) i h = absurd (not-suc-le-zero h)

-- entries that are right from node m on
module _ (s ends : List ℕ) (m : ℕ) (E : (j : ℕ) → m ≤ j → j < node_count s → EndAt s ends j) where
  pub skips-later : (k j : ℕ) → m ≤ j → j ≤ skips ends (node_count s) k j
  unfolding skips
  skips-later zero j l = omega arith
  skips-later (suc k) j l =
      let p = past-later s ends j (E j l) _ refl in
      omega (arith, skips-later k (past ends (node_count s) j) (omega arith))

  pub skips-within : (k j : ℕ) → m ≤ j → j ≤ node_count s → skips ends (node_count s) k j ≤ node_count s
  unfolding skips
  skips-within zero j l w = w
  skips-within (suc k) j l w =
      let p = past-later s ends j (E j l) _ refl in
      skips-within k (past ends (node_count s) j) (omega arith) (past-within s ends j (E j l) _ refl w)

  pub skips-trees : (k j : ℕ) → m ≤ j → trees_at s (skips ends (node_count s) k j) ≡ drop k (trees_at s j)
  unfolding skips
  skips-trees zero j l = refl
  skips-trees (suc k) j l =
      let p = past-later s ends j (E j l) _ refl in
      let e : 1 + k ≡ suc k = omega arith in
      skips-trees k (past ends (node_count s) j) (omega arith)
      ∙ ap (drop k) (past-trees s ends j (E j l) _ refl) ∙ drop-drop k 1 (trees_at s j) ∙ ap (λ (n : ℕ). drop n (trees_at s j)) e

-- the entry of one node more: its subtree ends where its children's do
pub end_more : (s ends : List ℕ) (i : ℕ) → ((j : ℕ) → i + 1 ≤ j → j < node_count s → EndAt s ends j) → i < node_count s → i < length ends
    → (a : Node) → a ≡ node_at s i → (e : ℕ) → e ≡ skips ends (node_count s) (arity a.kind) (i + 1)
    → (j : ℕ) → i ≤ j → j < node_count s → EndAt s (set ends i e) j
unfolding grow
end_more s ends i E h le a ea e ee j l m = go (ℕ_discrete j i)
  where
    n : ℕ
    n = arity a.kind

    trees : trees_at s e ≡ drop 1 (trees_at s i)
    trees = ap (trees_at s) ee ∙ skips-trees s ends (i + 1) E n (i + 1) (omega arith) ∙ sym (rw (trees-step s i h a ea) refl)

    go : Dec (j ≡ i) → EndAt s (set ends i e) j
    go (yes q) =
        subst⁻¹ (EndAt s (set ends i e)) q
        (record {
          later = rw (get_or-set_same ends i e 0 le) (omega (arith, ee, skips-later s ends (i + 1) E n (i + 1) (omega arith)));
          within = rw (get_or-set_same ends i e 0 le) (omega (arith, ee, skips-within s ends (i + 1) E n (i + 1) (omega arith) (omega arith)));
          rest = rw (get_or-set_same ends i e 0 le) trees;
        })
    go (no q) =
        let o = E j (omega arith) m in
        record {
          later = rw (get_or-set_other ends i j e 0 q) o.later;
          within = rw (get_or-set_other ends i j e 0 q) o.within;
          rest = rw (get_or-set_other ends i j e 0 q) o.rest;
        }
