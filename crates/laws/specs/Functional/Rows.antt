-- A cell for each variable: what holds of them all holds of each, and the reverse. Assumes nothing.
use Rattle.std.specs.Prelude.{◌≡◌, Bool, ◌∷◌}
use Rattle.std.proofs.Math.Path.{refl}
use Rattle.std.proofs.Math.Bool.{true, false}
use Prim.Native.Nat.{ℕ, zero, suc, ◌+◌, ◌<◌}
use Rattle.std.proofs.Math.Nat.{add-zero}
use Rattle.std.proofs.Common.{not-suc-le-zero, le_of_suc-le-suc}
use native.Mathlib.Omega.{arith}
use Rattle.model.specs.declared.Cell.{Cell}
use Rattle.model.specs.Word.{pick}
use Rattle.model.specs.Circuit.{cell}
use Rattle.model.specs.Functional.{rows, sixteen, rows_of, each, among, rank, many}
use Rattle.laws.specs.Refusals.Laws.{not-both}
use Rattle.laws.specs.Numbering.Cells.{All, all_of}
use Rattle.laws.specs.Functional.Count.{each-len}

pub rows_at : (R : ℕ → Cell → Type 0) (f : ℕ → Cell) (n x k : ℕ) → All R k (rows f x n) → (i : ℕ) → i < n → R (k + i) (f (x + i))
unfolding rows
rows_at R f zero x k h i l = absurd (not-suc-le-zero l)
rows_at R f (suc n) x k h zero l = rw (add-zero k, add-zero x) h.0
rows_at R f (suc n) x k h (suc i) l =
    let e : k + 1 + i ≡ k + suc i = omega arith in
    let e' : x + 1 + i ≡ x + suc i = omega arith in
    rw (e, e') at (rows_at R f n (x + 1) (k + 1) h.1 i (le_of_suc-le-suc l))

pub sixteen-at : (R : ℕ → Cell → Type 0) (f : ℕ → Cell) (k : ℕ) → All R k (sixteen f) → (x : ℕ) → x < 16 → R (k + x) (f x)
sixteen-at R f k h x l = let e : 0 + x ≡ x = omega arith in rw e at (rows_at R f 16 0 k h x l)

module _ (R : ℕ → Cell → Type 0) (b : ℕ → Bool) (f : ℕ → Cell) where
  rows_of-at : (n x k : ℕ) → All R k (rows_of b f x n) → (i : ℕ) → i < n → b (x + i) ≡ true → R (k + among b x i) (f (x + i))
  unfolding rows_of among
  rows_of-at zero x k h i l e = absurd (not-suc-le-zero l)
  rows_of-at (suc n) x k h i l e = go (b x) refl h (rows_of-at n (x + 1)) i l e
    where
      go : (p : Bool) → b x ≡ p → All R k (pick p (f x ∷ rows_of b f (x + 1) n) (rows_of b f (x + 1) n))
          → ((k : ℕ) → All R k (rows_of b f (x + 1) n) → (i : ℕ) → i < n → b (x + 1 + i) ≡ true → R (k + among b (x + 1) i) (f (x + 1 + i)))
          → (i : ℕ) → i < suc n → b (x + i) ≡ true → R (k + among b x i) (f (x + i))
      go true q h rec zero l e = rw (add-zero k, add-zero x) h.0
      go true q h rec (suc i) l e =
          let z : k + 1 + among b (x + 1) i ≡ k + (1 + among b (x + 1) i) = omega arith in
          let z' : x + 1 + i ≡ x + suc i = omega arith in
          rw q (rw (z, z') at (rec (k + 1) h.1 i (le_of_suc-le-suc l) (rw z' e)))
      go false q h rec zero l e = not-both (rw (add-zero x) at e) q
      go false q h rec (suc i) l e =
          let z' : x + 1 + i ≡ x + suc i = omega arith in
          rw q (rw z' at (rec k h i (le_of_suc-le-suc l) (rw z' e)))

  pub each_at : (k : ℕ) → All R k (each b f) → (x : ℕ) → x < 16 → b x ≡ true → R (k + rank b x) (f x)
  each_at k h x l e = let z : 0 + x ≡ x = omega arith in rw z at (rows_of-at 16 0 k h x l (rw z e))

pub rank_below : (b : ℕ → Bool) (x : ℕ) → x < 16 → b x ≡ true → rank b x < many b
rank_below b x l e =
    let f : ℕ → Cell = λ x. cell 0 0 0 0 in
    let h : All (λ k c. k < 0 + many b) 0 (each b f) = all_of (λ k c. k < 0 + many b) (each b f) 0 (λ i o. omega (arith, each-len b f)) in
    omega (arith, each_at (λ k c. k < 0 + many b) b f 0 h x l e)

all-rows : (R : ℕ → Cell → Type 0) (f : ℕ → Cell) (n x k : ℕ) → ((i : ℕ) → i < n → R (k + i) (f (x + i))) → All R k (rows f x n)
unfolding rows
all-rows R f zero x k h = tt
all-rows R f (suc n) x k h = (
  rw (add-zero k, add-zero x) at (h 0 (omega arith)),
  all-rows R f n (x + 1) (k + 1)
      (λ i l.
      let e : k + 1 + i ≡ k + suc i = omega arith in
      let e' : x + 1 + i ≡ x + suc i = omega arith in
      rw (e, e') (h (suc i) (omega arith))),
)

pub all-sixteen : (R : ℕ → Cell → Type 0) (f : ℕ → Cell) (k : ℕ) → ((x : ℕ) → x < 16 → R (k + x) (f x)) → All R k (sixteen f)
all-sixteen R f k h = all-rows R f 16 0 k (λ x l. let e : 0 + x ≡ x = omega arith in rw e (h x l))

module _ (R : ℕ → Cell → Type 0) (b : ℕ → Bool) (f : ℕ → Cell) where
  all-rows_of : (n x k : ℕ) → ((i : ℕ) → i < n → b (x + i) ≡ true → R (k + among b x i) (f (x + i))) → All R k (rows_of b f x n)
  unfolding rows_of among
  all-rows_of zero x k h = tt
  all-rows_of (suc n) x k h = go (b x) refl (all-rows_of n (x + 1))
    where
      go : (p : Bool) → b x ≡ p
          → ((k : ℕ) → ((i : ℕ) → i < n → b (x + 1 + i) ≡ true → R (k + among b (x + 1) i) (f (x + 1 + i))) → All R k (rows_of b f (x + 1) n))
          → All R k (pick p (f x ∷ rows_of b f (x + 1) n) (rows_of b f (x + 1) n))
      go true q rec = (
        rw (add-zero k, add-zero x) at (h 0 (omega arith) (rw (add-zero x) q)),
        rec (k + 1)
            (λ i l e.
            let z : k + 1 + among b (x + 1) i ≡ k + (1 + among b (x + 1) i) = omega arith in
            let z' : x + 1 + i ≡ x + suc i = omega arith in
            rw (z, z') (rw q at (h (suc i) (omega arith) (rw z' at e)))),
      )
      go false q rec =
          rec k
          (λ i l e.
          let z' : x + 1 + i ≡ x + suc i = omega arith in
          rw z' (rw q at (h (suc i) (omega arith) (rw z' at e))))

  pub all-each : (k : ℕ) → ((x : ℕ) → x < 16 → b x ≡ true → R (k + rank b x) (f x)) → All R k (each b f)
  all-each k h = all-rows_of 16 0 k (λ x l e. let z : 0 + x ≡ x = omega arith in rw z (h x l (rw z at e)))
