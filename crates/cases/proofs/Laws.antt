-- Answers as replies, and nodes made of one kind. Assumes nothing.
use mathlib.Core.Path.{◌≡◌, refl, sym, ◌∙◌, ap}
use mathlib.Core.List.{List}
use Prim.Native.Nat.{ℕ, suc, ◌+◌, ◌-◌, ◌*◌, ◌<◌, ◌≤◌}
use native.Mathlib.Omega.{arith}
use lib.ListN.{set, get_or, take}
use Rattle.model.specs.declared.Answer.{Answer}
use Rattle.cases.specs.Rows.{bytes_of, Same, kinds_from}

-- the answers whose bytes are x and y
module _ (a b : Answer) {x y : List ℕ} (e : x ≡ bytes_of a) (f : y ≡ bytes_of b) where
  pub same-all : x ≡ y → Same a b
  same-all g = let h : bytes_of a ≡ bytes_of b = sym e ∙ g ∙ f in record { head = ap (take 16) h; all = λ _. h }

  pub same_head : get_or x 0 0 ≡ 2 → take 16 x ≡ take 16 y → Same a b
  same_head o g = record {
    head = ap (take 16) (sym e) ∙ g ∙ ap (take 16) f;
    all = λ n. absurd (n (ap (λ (l : List ℕ). get_or l 0 0) (sym e) ∙ o));
  }

pub kinds-more : (d : List ℕ) (i to kind : ℕ) → i < to → kinds_from d i (to - i) kind ≡ kinds_from (set d (4 * i) kind) (i + 1) (to - (i + 1)) kind
unfolding kinds_from
kinds-more d i to kind h = let e : to - i ≡ suc (to - (i + 1)) = omega arith in rw e refl

pub kinds-done : (d : List ℕ) (i to kind : ℕ) → to ≤ i → kinds_from d i (to - i) kind ≡ d
unfolding kinds_from
kinds-done d i to kind h = let e : to - i ≡ 0 = omega arith in rw e refl
