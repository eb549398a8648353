-- Sets of variables, bit by bit, and arrays that are filled entry by entry. Assumes nothing.
use mathlib.Core.Path.{◌≡◌, refl, sym, ◌∙◌, ap, ap₂}
use mathlib.Core.Bool.{Bool, true, false, ◌||◌}
use mathlib.Core.List.{List, [], ◌∷◌, ◌++◌}
use Prim.Native.Nat.{ℕ, zero, suc, ◌+◌, ◌-◌, ◌*◌, ◌/◌, ◌%◌, ◌<◌, ◌≤◌, ◌^◌, max}
use native.Mathlib.Omega.{arith}
use native.Mathlib.Decide.{ℕ_discrete}
use lib.Dec.{eqb, eqb-zero-suc, eqb-suc-zero, eqb-suc-suc}
use lib.Count.{ones, ones_step}
use lib.Pow.{pow-lt}
use lib.Bits.{bit_or, or_step}
use native.Mathlib.Nat.{div-one, div-div-eq-div-mul, not-suc-le-zero, le_of_suc-le-suc, pow-suc}
use lib.ListN.{length, get_or, set, length-set, replicate}
use lib.Seq.{get_or-set_same, get_or-set_other}
use Rattle.model.specs.declared.Cell.{Cell}
use Rattle.model.specs.Word.{pick}
use Rattle.model.specs.Circuit.{cell}
use Rattle.model.specs.Numbering.{Wires}
use Rattle.model.specs.Functional.{rows_of, each, among, rank, many, placed, choices}
use Rattle.laws.specs.Refusals.Laws.{by_bool}
use Rattle.laws.specs.Functional.Count.{each-len}
use Rattle.compiler.specs.Writes.{write}
use Rattle.compiler.proofs.Writes.{write-none, write-append}
use Rattle.functional.specs.Sets.{has, Agrees}

-- Bits -----------------------------------------------------------------------------------------------------------------------------------

-- a set without its first x variables
unfoldable pub later : ℕ → ℕ → ℕ
later zero n = n
later (suc x) n = later x n / 2

pub later-next : (x n : ℕ) {r : ℕ} → r ≡ later x n → r / 2 ≡ later (x + 1) n
unfolding later
later-next x n e = let z : x + 1 ≡ suc x = omega arith in rw z (rw e refl)

has-shift : (x n y : ℕ) → has (later x n) y ≡ has n (x + y)
unfolding later has
has-shift zero n y = let z : 0 + y ≡ y = omega arith in rw z refl
has-shift (suc x) n y = let z : x + suc y ≡ suc x + y = omega arith in rw z at (has-shift x n (suc y))

pub has-later : (x n : ℕ) {r : ℕ} → r ≡ later x n → has n x ≡ eqb (r % 2) 1
unfolding has
has-later x n e = let z : x + 0 ≡ x = omega arith in rw e (rw z at (sym (has-shift x n 0)))

-- by a power of two
later-power : (x n : ℕ) → later x n ≡ n / 2 ^ x
unfolding later
later-power zero n = sym (div-one n)
later-power (suc x) n = ap (λ (m : ℕ). m / 2) (later-power x n) ∙ div-div-eq-div-mul n (2 ^ x) 2 ∙ ap (λ (p : ℕ). n / p) (sym (pow-suc 2 x))

pub has-power : (n x : ℕ) → has n x ≡ eqb (n / 2 ^ x % 2) 1
has-power n x = has-later x n (sym (later-power x n))

-- a last bit adds itself
digit : (r A : ℕ) → r < 2 → pick (eqb r 1) (1 + A) A ≡ r + A
digit zero A h = omega arith
digit (suc zero) A h = refl
digit (suc (suc r)) A h = absurd (omega arith)

among_next : (b : ℕ → Bool) (x : ℕ) → x < 16
    → among b x (16 - x) ≡ pick (b x) (1 + among b (x + 1) (16 - (x + 1))) (among b (x + 1) (16 - (x + 1)))
unfolding among
among_next b x h = let e : 16 - x ≡ suc (16 - (x + 1)) = omega arith in rw e refl

-- of those from x on, with x and without it
module _ (b : ℕ → Bool) (x : ℕ) (h : x < 16) where
  pub among-in : b x ≡ true → among b x (16 - x) ≡ 1 + among b (x + 1) (16 - (x + 1))
  among-in e = among_next b x h ∙ rw e refl

  pub among-out : b x ≡ false → among b x (16 - x) ≡ among b (x + 1) (16 - (x + 1))
  among-out e = among_next b x h ∙ rw e refl

among-bit : (n x : ℕ) {r : ℕ} → x < 16 → r ≡ later x n → among (has n) x (16 - x) ≡ r % 2 + among (has n) (x + 1) (16 - (x + 1))
among-bit n x {r} h e =
    let A = among (has n) (x + 1) (16 - (x + 1)) in
    among_next (has n) x h ∙ rw (has-later x n e) (digit (r % 2) A (omega arith))

pub among-end : (b : ℕ → Bool) (x : ℕ) → 16 ≤ x → among b x (16 - x) ≡ 0
unfolding among
among-end b x h = let e : 16 - x ≡ 0 = omega arith in rw e refl

-- the bits that are left, counted
ones-left : (n k x : ℕ) → n < 65536 → x + k ≡ 16 → ones (later x n) ≡ among (has n) x (16 - x)
unfolding later ones
ones-left n zero x h e =
    let end : x ≡ 16 = omega arith in
    let none : later 16 n ≡ 0 = omega arith in
    rw end (rw none refl) ∙ sym (among-end (has n) x (omega arith))
ones-left n (suc k) x h e =
    let next = ap ones (later-next x n refl) in
    omega (arith, ones_step (later x n), next, ones-left n k (x + 1) h (omega arith), among-bit n x (omega arith) refl)

pub ones-many : (n : ℕ) → n < 65536 → ones n ≡ many (has n)
unfolding later
ones-many n h = ones-left n 16 0 h refl

swap : (p q : Bool) (A : ℕ) → pick p (1 + pick q (1 + A) A) (pick q (1 + A) A) ≡ pick q (1 + pick p (1 + A) A) (pick p (1 + A) A)
swap true true A = refl
swap true false A = refl
swap false true A = refl
swap false false A = refl

among-last : (b : ℕ → Bool) (y n : ℕ) → among b y (suc n) ≡ pick (b (y + n)) (1 + among b y n) (among b y n)
unfolding among
among-last b y zero = let z : y + 0 ≡ y = omega arith in rw z refl
among-last b y (suc n) =
    let z : y + 1 + n ≡ y + suc n = omega arith in
    rw z at (ap (λ (A : ℕ). pick (b y) (1 + A) A) (among-last b (y + 1) n) ∙ swap (b y) (b (y + 1 + n)) (among b (y + 1) n))

module _ (b : ℕ → Bool) (x : ℕ) where
  rank_next : rank b (x + 1) ≡ pick (b x) (1 + rank b x) (rank b x)
  rank_next = let z : x + 1 ≡ suc x = omega arith in let z' : 0 + x ≡ x = omega arith in rw z (rw z' at (among-last b 0 x))

  pub rank-in : b x ≡ true → rank b (x + 1) ≡ 1 + rank b x
  rank-in e = rank_next ∙ rw e refl

  pub rank-out : b x ≡ false → rank b (x + 1) ≡ rank b x
  rank-out e = rank_next ∙ rw e refl

-- Arrays that are filled -----------------------------------------------------------------------------------------------------------------

-- l has the first x of F, and those of G from there on
pub record Upto (F G : Wires) (l : List ℕ) (x : ℕ) : Type 0 where
  pub long : length l ≡ 16
  pub most : x ≤ 16
  pub filled : (y : ℕ) → y < x → get_or l y 0 ≡ F y
  pub left : (y : ℕ) → x ≤ y → get_or l y 0 ≡ G y

pub upto-none : (F G : Wires) (l : List ℕ) → length l ≡ 16 → ((y : ℕ) → get_or l y 0 ≡ G y) → Upto F G l 0
upto-none F G l e left = record { long = e; most = omega arith; filled = λ y h. absurd (omega arith); left = λ y h. left y }

pub upto_next : (F G : Wires) (l : List ℕ) (x v : ℕ) → x < 16 → v ≡ F x → Upto F G l x → Upto F G (set l x v) (x + 1)
upto_next F G l x v h e u =
    record {
      long = length-set l x v ∙ u.long;
      most = omega arith;
      filled = λ y k. go y k (ℕ_discrete y x);
      left = λ y k. get_or-set_other l x y v 0 (λ q. omega (arith, q)) ∙ u.left y (omega arith);
    }
  where
    go : (y : ℕ) → y < x + 1 → Dec (y ≡ x) → get_or (set l x v) y 0 ≡ F y
    go y k (yes q) = rw q (get_or-set_same l x v 0 (omega (arith, u.long)) ∙ e)
    go y k (no n) = get_or-set_other l x y v 0 n ∙ u.filled y (omega (arith, n))

pub upto-end : (F G : Wires) (l : List ℕ) (x : ℕ) → 16 ≤ x → Upto F G l x → Agrees l F
upto-end F G l x h u y k = u.filled y (omega arith)

-- Cells ----------------------------------------------------------------------------------------------------------------------------------

rows_of-next : (b : ℕ → Bool) (f : ℕ → Cell) (x : ℕ) → x < 16
    → rows_of b f x (16 - x) ≡ pick (b x) (f x ∷ rows_of b f (x + 1) (16 - (x + 1))) (rows_of b f (x + 1) (16 - (x + 1)))
unfolding rows_of
rows_of-next b f x h = let e : 16 - x ≡ suc (16 - (x + 1)) = omega arith in rw e refl

pub rows_of-end : (b : ℕ → Bool) (f : ℕ → Cell) (x k : ℕ) (s : List ℕ) → 16 ≤ x → write k (rows_of b f x (16 - x)) s ≡ s
unfolding rows_of
rows_of-end b f x k s h = let e : 16 - x ≡ 0 = omega arith in rw e (write-none k s)

module _ (b : ℕ → Bool) (f : ℕ → Cell) (x k : ℕ) (s : List ℕ) (h : x < 16) where
  pub rows_in : b x ≡ true → write k (rows_of b f x (16 - x)) s ≡ write (k + 1) (rows_of b f (x + 1) (16 - (x + 1))) (write k (f x ∷ []) s)
  rows_in p = rw (rows_of-next b f x h, p) (sym (write-append k (k + 1) (f x ∷ []) (rows_of b f (x + 1) (16 - (x + 1))) s refl))

  pub rows_out : b x ≡ false → write k (rows_of b f x (16 - x)) s ≡ write k (rows_of b f (x + 1) (16 - (x + 1))) s
  rows_out p = rw (rows_of-next b f x h, p) refl

-- Single sets, and sets of two ------------------------------------------------------------------------------------------------------------

pub has-none : (y : ℕ) → has 0 y ≡ false
unfolding has
has-none zero = refl
has-none (suc y) = has-none y

has_one : (x y : ℕ) → has (2 ^ x) y ≡ eqb y x
unfolding has
has_one zero zero = refl
has_one zero (suc y) = has-none y ∙ sym (eqb-suc-zero y)
has_one (suc x) zero =
    let z : 2 ^ suc x % 2 ≡ 0 = omega (arith, pow-suc 2 x) in
    rw z (sym (eqb-zero-suc x))
has_one (suc x) (suc y) =
    let z : 2 ^ suc x / 2 ≡ 2 ^ x = omega (arith, pow-suc 2 x) in
    rw z (has_one x y ∙ sym (eqb-suc-suc y x))

pub has-single : (x y : ℕ) → x < 16 → has (1 * 2 ^ x % 65536) y ≡ eqb y x
has-single x y h =
    let p : 2 ^ x < 65536 = pow-lt h in
    let z : 1 * 2 ^ x % 65536 ≡ 2 ^ x = omega (arith, p) in
    rw z (has_one x y)

-- the last bits of two numbers
or-bit : (p q : ℕ) → p < 2 → q < 2 → (max p q < 2) × (eqb (max p q) 1 ≡ eqb p 1 || eqb q 1)
or-bit zero zero h k = (omega arith, refl)
or-bit zero (suc zero) h k = (omega arith, refl)
or-bit (suc zero) zero h k = (omega arith, refl)
or-bit (suc zero) (suc zero) h k = (omega arith, refl)
or-bit (suc (suc p)) q h k = absurd (omega arith)
or-bit zero (suc (suc q)) h k = absurd (omega arith)
or-bit (suc zero) (suc (suc q)) h k = absurd (omega arith)

pub has-or : (a b x : ℕ) → has (bit_or a b) x ≡ has a x || has b x
unfolding has
has-or a b zero =
    let m = or-bit (a % 2) (b % 2) (omega arith) (omega arith) in
    let z : bit_or a b % 2 ≡ max (a % 2) (b % 2) = omega (arith, or_step a b, m.0) in
    rw z m.1
has-or a b (suc x) =
    let m = or-bit (a % 2) (b % 2) (omega arith) (omega arith) in
    let z : bit_or a b / 2 ≡ bit_or (a / 2) (b / 2) = omega (arith, or_step a b, m.0) in
    rw z (has-or (a / 2) (b / 2) x)

pub rank-none : (b : ℕ → Bool) (c : ℕ) → c ≡ c + rank b 0
unfolding among
rank-none b c = omega arith

-- Constant arrays -------------------------------------------------------------------------------------------------------------------------

pub same_at : (w n y : ℕ) → y < n → get_or (replicate n w) y 0 ≡ w
same_at w zero y h = absurd (not-suc-le-zero h)
same_at w (suc n) zero h = refl
same_at w (suc n) (suc y) h = same_at w n y (le_of_suc-le-suc h)

-- Three cells ------------------------------------------------------------------------------------------------------------------------------

-- All sixteen ------------------------------------------------------------------------------------------------------------------------------

pub full-placed : (ws : Wires) (x : ℕ) → x < 16 → placed (has 65535) 3 ws x ≡ 3 + x
unfolding has among
full-placed ws zero h = refl
full-placed ws (suc zero) h = refl
full-placed ws (suc (suc zero)) h = refl
full-placed ws (suc (suc (suc zero))) h = refl
full-placed ws (suc (suc (suc (suc zero)))) h = refl
full-placed ws (suc (suc (suc (suc (suc zero))))) h = refl
full-placed ws (suc (suc (suc (suc (suc (suc zero)))))) h = refl
full-placed ws (suc (suc (suc (suc (suc (suc (suc zero))))))) h = refl
full-placed ws (suc (suc (suc (suc (suc (suc (suc (suc zero)))))))) h = refl
full-placed ws (suc (suc (suc (suc (suc (suc (suc (suc (suc zero))))))))) h = refl
full-placed ws (suc (suc (suc (suc (suc (suc (suc (suc (suc (suc zero)))))))))) h = refl
full-placed ws (suc (suc (suc (suc (suc (suc (suc (suc (suc (suc (suc zero))))))))))) h = refl
full-placed ws (suc (suc (suc (suc (suc (suc (suc (suc (suc (suc (suc (suc zero)))))))))))) h = refl
full-placed ws (suc (suc (suc (suc (suc (suc (suc (suc (suc (suc (suc (suc (suc zero))))))))))))) h = refl
full-placed ws (suc (suc (suc (suc (suc (suc (suc (suc (suc (suc (suc (suc (suc (suc zero)))))))))))))) h = refl
full-placed ws (suc (suc (suc (suc (suc (suc (suc (suc (suc (suc (suc (suc (suc (suc (suc zero))))))))))))))) h = refl
full-placed ws (suc (suc (suc (suc (suc (suc (suc (suc (suc (suc (suc (suc (suc (suc (suc (suc x)))))))))))))))) h = absurd (omega arith)

-- Rows that are the same for the variables of a set -----------------------------------------------------------------------------------------

module _ (b : ℕ → Bool) (f g : ℕ → Cell) where
  rows_of-same : (n x : ℕ) → ((y : ℕ) → y < x + n → b y ≡ true → f y ≡ g y) → rows_of b f x n ≡ rows_of b g x n
  unfolding rows_of
  rows_of-same zero x h = refl
  rows_of-same (suc n) x h =
      let r = rows_of-same n (x + 1) (λ y l q. h y (omega (arith, l)) q) in
      by_bool (b x) (λ q. rw q (ap₂ ◌∷◌ (h x (omega arith) q) r)) (λ q. rw q r)

  pub each_same : ((y : ℕ) → y < 16 → b y ≡ true → f y ≡ g y) → each b f ≡ each b g
  each_same h = rows_of-same 16 0 (λ y l q. h y (omega (arith, l)) q)

pub choices-same : (b : ℕ → Bool) (f f' g g' : ℕ → Cell) (a : ℕ) → ((y : ℕ) → y < 16 → b y ≡ true → f y ≡ f' y)
    → ((y : ℕ) → y < 16 → b y ≡ true → g y ≡ g' y) → choices b f g a ≡ choices b f' g' a
unfolding choices
choices-same b f f' g g' a u v =
    let o = each b (λ x. cell 7 0 (a + rank b x) (a + many b + rank b x)) in
    ap₂ (λ (x y : List Cell). x ++ (y ++ o)) (each_same b f f' u) (each_same b g g' v)

-- both rows, and their ors
pub choices-done : (b : ℕ → Bool) (f g : ℕ → Cell) (us vs : List ℕ) (none : Wires) (k k₂ k₃ : ℕ) (s : List ℕ) {m₁ m₂ end : List ℕ}
    → k₂ ≡ k + many b → k₃ ≡ k₂ + many b → Agrees us (placed b k none) → Agrees vs (placed b k₂ none) → m₁ ≡ write k (each b f) s
    → m₂ ≡ write k₂ (each b g) m₁
    → end ≡ write k₃ (each b (λ y. cell 7 0 (get_or us y 0) (get_or vs y 0))) m₂
    → end ≡ write k (choices b f g k) s
unfolding choices
choices-done b f g us vs none k k₂ k₃ s e₂ e₃ a₁ a₂ w₁ w₂ w₃ =
    let o : ℕ → Cell = λ y. cell 7 0 (get_or us y 0) (get_or vs y 0) in
    let o' : ℕ → Cell = λ x. cell 7 0 (k + rank b x) (k + many b + rank b x) in
    let same : each b o ≡ each b o' =
    each_same b o o'
    (λ y l q.
    let p₁ : get_or us y 0 ≡ k + rank b y = rw q at (a₁ y l) in
    let p₂ : get_or vs y 0 ≡ k₂ + rank b y = rw q at (a₂ y l) in
    rw (p₁, p₂, e₂) refl) in
    w₃
    ∙ ap (write k₃ (each b o)) (w₂ ∙ ap (write k₂ (each b g)) w₁)
    ∙ write-append k₂ k₃ (each b g) (each b o) (write k (each b f) s) (omega (arith, e₃, each-len b g))
    ∙ write-append k k₂ (each b f) (each b g ++ each b o) s (omega (arith, e₂, each-len b f))
    ∙ ap (λ (cs : List Cell). write k (each b f ++ (each b g ++ cs)) s) same

-- Sets that are the same ----------------------------------------------------------------------------------------------------------------------

module _ (b b' : ℕ → Bool) where
  among-set : (n x : ℕ) → ((y : ℕ) → y < x + n → b y ≡ b' y) → among b x n ≡ among b' x n
  unfolding among
  among-set zero x h = refl
  among-set (suc n) x h =
      let r = among-set n (x + 1) (λ y l. h y (omega (arith, l))) in
      rw (h x (omega arith), r) refl

  rows_of-set : (f : ℕ → Cell) (n x : ℕ) → ((y : ℕ) → y < x + n → b y ≡ b' y) → rows_of b f x n ≡ rows_of b' f x n
  unfolding rows_of
  rows_of-set f zero x h = refl
  rows_of-set f (suc n) x h =
      let r = rows_of-set f n (x + 1) (λ y l. h y (omega (arith, l))) in
      rw (h x (omega arith), r) refl

  module _ (h : (y : ℕ) → y < 16 → b y ≡ b' y) where
    pub many-set : many b ≡ many b'
    many-set = among-set 16 0 (λ y l. h y (omega (arith, l)))

    pub rank-set : (x : ℕ) → x < 16 → rank b x ≡ rank b' x
    rank-set x k = among-set x 0 (λ y l. h y (omega (arith, l, k)))

    pub each_set : (f : ℕ → Cell) → each b f ≡ each b' f
    each_set f = rows_of-set f 16 0 (λ y l. h y (omega (arith, l)))

    pub placed-set : (a : ℕ) (ws : Wires) (x : ℕ) → x < 16 → placed b a ws x ≡ placed b' a ws x
    placed-set a ws x k = rw (h x k, rank-set x k) refl

    pub choices-set : (f g : ℕ → Cell) (a : ℕ) → choices b f g a ≡ choices b' f g a
    unfolding choices
    choices-set f g a =
        let o : ℕ → Cell = λ x. cell 7 0 (a + rank b x) (a + many b + rank b x) in
        let o' : ℕ → Cell = λ x. cell 7 0 (a + rank b' x) (a + many b' + rank b' x) in
        let e : each b o ≡ each b' o' = each_same b o o' (λ y l q. rw (rank-set y l, many-set) refl) ∙ each_set o' in
        ap₂ (λ (x y : List Cell). x ++ y) (each_set f) (ap₂ (λ (x y : List Cell). x ++ y) (each_set g) e)
