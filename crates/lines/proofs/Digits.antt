-- The decimal digits of a number: the last one apart from those before it, and how many there are. Assumes nothing.
use mathlib.Core.List.{List, [], ◌∷◌, ◌++◌}
use mathlib.Core.Path.{◌≡◌, refl, sym, ◌∙◌, ap}
use Prim.Native.Nat.{ℕ, zero, suc, ◌+◌, ◌/◌, ◌%◌, ◌^◌, ◌<◌, ◌≤◌}
use native.Mathlib.Omega.{arith}
use native.Mathlib.Nat.{pow-succ'}
use lib.ListN.{length, length-append}
use borrow.Author.Tests.{ltb-true, ltb-false, lt-ltb, le-ltb}
use lib.Dec.{ltb}
use Rattle.std.specs.Fmt as Fmt
use Rattle.std.proofs.lemmas.Fmt.{decimal_by_steps}
use Rattle.model.specs.Hubrun.{digits, decimal}
use Rattle.laws.specs.Refusals.Laws.{by_bool}

one-digit : (m n : ℕ) → n < 10 → digits (suc m) n ≡ (48 + n) ∷ []
unfolding digits
one-digit m n h = rw (digits, lt-ltb n 10 h) refl

last-digit : (m n : ℕ) → 10 ≤ n → digits (suc m) n ≡ digits m (n / 10) ++ ((48 + n % 10) ∷ [])
unfolding digits
last-digit m n h = rw (digits, le-ltb n 10 h) refl

-- room for one digit more changes nothing where there is enough
with-room : (m n : ℕ) → (10 ≤ n → digits m (n / 10) ≡ digits (suc m) (n / 10)) → digits (suc m) n ≡ digits (suc (suc m)) n
with-room m n before =
    by_bool (ltb n 10)
    (λ z. one-digit m n (ltb-true n 10 z) ∙ sym (one-digit (suc m) n (ltb-true n 10 z)))
    (λ z. let l : 10 ≤ n = ltb-false n 10 z in
    last-digit m n l ∙ ap (λ (ds : List ℕ). ds ++ ((48 + n % 10) ∷ [])) (before l) ∙ sym (last-digit (suc m) n l))

enough : (m n : ℕ) → n < 10 ^ suc m → digits (suc m) n ≡ digits (suc (suc m)) n
enough zero n h = with-room zero n (λ l. absurd (omega (arith, pow-succ' 10 0)))
enough (suc m) n h = with-room (suc m) n (λ l. enough m (n / 10) (omega (arith, pow-succ' 10 (suc m))))

pub decimal-one : {n : ℕ} → n < 10 → decimal n ≡ (48 + n) ∷ []
decimal-one {n} h = one-digit 19 n h

pub decimal-more : {n : ℕ} → 10 ≤ n → n < 18446744073709551616 → decimal n ≡ decimal (n / 10) ++ ((48 + n % 10) ∷ [])
decimal-more {n} h f = rw (last-digit 19 n h, enough 18 (n / 10) (omega arith)) refl

digits-length : (m n : ℕ) → length (digits m n) ≤ m
unfolding digits
digits-length zero n = omega arith
digits-length (suc m) n =
    by_bool (ltb n 10)
    (λ z. rw (one-digit m n (ltb-true n 10 z)) (omega arith))
    (λ z. rw (last-digit m n (ltb-false n 10 z)) (simp length-append (omega (arith, digits-length m (n / 10)))))

pub decimal-length : (n : ℕ) → length (decimal n) ≤ 20
decimal-length n = digits-length 20 n

-- the digits that a number is printed with
pub same_decimal : (n : ℕ) → n < 18446744073709551616 → Fmt.decimal n ≡ decimal n
same_decimal n f =
    decimal_by_steps (λ (m : ℕ) (ds : List ℕ). m < 18446744073709551616 → ds ≡ decimal m) (λ m h _. sym (decimal-one h))
    (λ m ds h e g. ap (λ (l : List ℕ). l ++ ((48 + m % 10) ∷ [])) (e (omega arith)) ∙ sym (decimal-more h g))
    n f f
