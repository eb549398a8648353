-- A program's nodes as pieces of four bytes, in loops that count them. Assumes nothing.
use Rattle.std.proofs.Common.{◌≡◌, ℕ, ◌+◌, ◌-◌, ◌*◌, ◌<◌, ◌≤◌, List, length, get_or, take, drop, refl, ◌∙◌, arith, length-take, length-drop, get_or-take, get_or-drop, Some, None, Bor}
use Rattle.std.specs.declared.slice.ChunksExact.{ChunksExact}
use Rattle.std.specs.Slice.Iter.{chunks_exact_steps}
use Rattle.model.specs.Word.{get16}
use Rattle.model.specs.Program.{node_at, node_count}
use Rattle.program.specs.Parts.{part}
use Rattle.word.proofs.Chunks.{Cut, piece, cut-next, cut-end}

piece-node : (s : List ℕ) (i : ℕ) (x : List ℕ) → x ≡ take 4 (drop (4 * i) s) → node_at x 0 ≡ node_at s i
unfolding node_at get16
piece-node s i x e =
    let at : (j : ℕ) → j < 4 → get_or x j 0 ≡ get_or s (4 * i + j) 0 = λ j h. rw e (get_or-take 4 (drop (4 * i) s) j 0 h ∙ get_or-drop (4 * i) s j 0) in
    let a : 4 * i + 0 ≡ 4 * i = omega arith in
    let b : 4 * i + 2 + 1 ≡ 4 * i + 3 = omega arith in
    rw (at 0 (omega arith), at 1 (omega arith), at 2 (omega arith), at 3 (omega arith), a, b) refl

-- a loop that stands at node i, and the piece that it is given
module _ {s : List ℕ} {i : ℕ} {old : ChunksExact ℕ} (cut : Cut 4 s i old) (new : ChunksExact ℕ) where
  pub node-long : (x : Bor (List ℕ)) → chunks_exact_steps old (Some x) new → length x.now ≡ 4
  node-long x step = (piece cut new x (omega arith) step).long

  pub node-here : (x : Bor (List ℕ)) → chunks_exact_steps old (Some x) new → (node_at x.now 0 ≡ node_at s i) × (i < node_count s)
  node-here x step = let p = piece cut new x (omega arith) step in (piece-node s i x.now p.is, omega (arith, p.within))

  pub node-next : (x : Bor (List ℕ)) → chunks_exact_steps old (Some x) new → Cut 4 s (i + 1) new
  node-next x step = cut-next cut new x (omega arith) step

  pub nodes-end : chunks_exact_steps old None new → node_count s ≤ i
  nodes-end step = omega (arith, cut-end cut new step)

-- The nodes from node i up to node e --------------------------------------------------------------------------------------------------------

module _ (s : List ℕ) (i e : ℕ) (l : i ≤ e) (h : e ≤ node_count s) where
  part-length : length (part s i e) ≡ 4 * e - 4 * i
  part-length = simp (length-take, length-drop) (omega (arith, l, h))

  part-node : (k : ℕ) → i + k < e → node_at (part s i e) k ≡ node_at s (i + k)
  unfolding node_at get16
  part-node k m =
      let at : (j : ℕ) → j < 4 → get_or (part s i e) (4 * k + j) 0 ≡ get_or s (4 * (i + k) + j) 0 =
      λ j b. let z : 4 * i + (4 * k + j) ≡ 4 * (i + k) + j = omega arith in
      get_or-take (4 * e - 4 * i) (drop (4 * i) s) (4 * k + j) 0 (omega (arith, m, b)) ∙ rw z at (get_or-drop (4 * i) s (4 * k + j) 0) in
      let a : 4 * k + 0 ≡ 4 * k = omega arith in
      let b : 4 * (i + k) + 0 ≡ 4 * (i + k) = omega arith in
      let c : 4 * k + 2 + 1 ≡ 4 * k + 3 = omega arith in
      let d : 4 * (i + k) + 2 + 1 ≡ 4 * (i + k) + 3 = omega arith in
      let first : get_or (part s i e) (4 * k) 0 ≡ get_or s (4 * (i + k)) 0 = rw (a, b) at (at 0 (omega arith)) in
      rw (c, d, first, at 1 (omega arith), at 2 (omega arith), at 3 (omega arith)) refl

  module _ {k : ℕ} {old : ChunksExact ℕ} (cut : Cut 4 (part s i e) k old) (new : ChunksExact ℕ) where
    pub part-here : (x : Bor (List ℕ)) → chunks_exact_steps old (Some x) new → (node_at x.now 0 ≡ node_at s (i + k)) × (i + k < e)
    part-here x step =
        let it = node-here cut new x step in
        let m : i + k < e = omega (arith, it.1, part-length) in
        (it.0 ∙ part-node k m, m)

    pub part-end : chunks_exact_steps old None new → e ≤ i + k
    part-end step = omega (arith, nodes-end cut new step, part-length)
