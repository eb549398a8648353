-- Refusals 22 and 24, one root further: the answer from root 0 is the answer from root r.
-- Assumes nothing.
use Rattle.std.specs.Prelude.{Err}
use mathlib.Core.Path.{◌≡◌, refl, sym, ◌∙◌, ap, ap₂}
use mathlib.Core.Bool.{Bool}
use mathlib.Core.List.{List, [], ◌∷◌}
use Prim.Native.Nat.{ℕ, zero, suc, ◌+◌, ◌≤◌, ◌<◌}
use native.Mathlib.Omega.{arith}
use native.Mathlib.Numerals.{add-one}
use lib.ListN.{length, drop, drop_of_length-le}
use lib.Seq.{drop-cons}
use Rattle.model.specs.declared.Refusal.{Refusal}
use Rattle.model.specs.Refusals.{first, Checked, Accepted}
use Rattle.model.specs.Program.{Code, ok, node_count, stmt_at, preorder, Program, program_of, roots}
use Rattle.model.specs.ProgramChecks.{in_roots}
use Rattle.laws.specs.Refusals.Laws.{first_one}
use Rattle.program.specs.Ends.{past, skips}
use Rattle.program.specs.Roots.{Rooted, root_fault, count-roots, root_is, root-side}
use Rattle.program.proofs.Loose.{stmt-place}

skips-last : (ends : List ℕ) (count r i : ℕ) → skips ends count (suc r) i ≡ past ends count (skips ends count r i)
unfolding skips
skips-last ends count zero i = refl
skips-last ends count (suc r) i = skips-last ends count r (past ends count i)

-- the answer from root r on
unfoldable pub from_root : Bool → ℕ → List ℕ → List ℕ → ℕ → Checked
from_root late k s ends r = in_roots (root_fault late) r (drop r (roots (program_of 1 k s))) (skips ends (node_count s) r 0)

pub root-start : (late : Bool) (k : ℕ) (s ends : List ℕ) → in_roots (root_fault late) 0 (roots (program_of 1 k s)) 0 ≡ from_root late k s ends 0
unfolding skips from_root
root-start late k s ends = refl

module _ (late : Bool) {k : ℕ} {s ends : List ℕ} (R : Rooted k s ends) where
  abbrev S : Program
  S = program_of 1 k s

  pub root-end : (r : ℕ) → k < r → Accepted ≡ from_root late k s ends r
  unfolding in_roots from_root
  root-end r l = rw (drop_of_length-le (roots S) {i = r} (omega (arith, count-roots R))) refl

  -- root r begins at node i, and c is refused in it
  module _ (r i : ℕ) (l : r ≤ k) (e : i ≡ skips ends (node_count s) r 0) {c : Checked} (f : c ≡ root_fault late r (stmt_at s i) i) where
    place : i + length (preorder (stmt_at s i)) ≡ skips ends (node_count s) (r + 1) 0
    place =
        sym (stmt-place i _ refl (root-side R r i l e)) ∙ ap (past ends (node_count s)) e ∙ sym (skips-last ends (node_count s) r 0)
        ∙ ap (λ (n : ℕ). skips ends (node_count s) n 0) (sym (add-one r))

    step : from_root late k s ends r ≡ first (c ∷ from_root late k s ends (r + 1) ∷ [])
    unfolding in_roots from_root
    step =
        ap₂ (λ (Ps : List Code) (j : ℕ). in_roots (root_fault late) r Ps j) (drop-cons (roots S) r ok (omega (arith, count-roots R))) (sym e)
        ∙ ap (λ (P : Code). first (root_fault late r P i ∷ in_roots (root_fault late) (r + 1) (drop (suc r) (roots S)) (i + length (preorder P)) ∷ []))
        (sym (root_is R r i l e))
        ∙ ap₂ (λ (c : Checked) (j : ℕ). first (c ∷ in_roots (root_fault late) (r + 1) (drop (suc r) (roots S)) j ∷ [])) (sym f) place
        ∙ ap (λ (n : ℕ). first (c ∷ in_roots (root_fault late) (r + 1) (drop n (roots S)) (skips ends (node_count s) (r + 1) 0) ∷ [])) (sym (add-one r))

    pub root-here : {x : Refusal} → c ≡ Err x → from_root late k s ends r ≡ Err x
    root-here h = step ∙ ap (λ (c : Checked). first (c ∷ from_root late k s ends (r + 1) ∷ [])) h

    pub root-next : c ≡ Accepted → from_root late k s ends r ≡ from_root late k s ends (r + 1)
    root-next h = step ∙ ap (λ (c : Checked). first (c ∷ from_root late k s ends (r + 1) ∷ [])) h ∙ sym (first_one _)
