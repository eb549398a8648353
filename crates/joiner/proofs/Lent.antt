-- Parts in the bytes that are lent: the first of them and those behind, how many they are, and their pulse lengths. Assumes nothing.
use mathlib.Core.Path.{◌≡◌, refl, sym, ap}
use mathlib.Core.List.{List, [], ◌∷◌}
use Prim.Native.Nat.{ℕ, ◌+◌, ◌/◌, ◌%◌, ◌^◌, ◌<◌}
use native.Mathlib.Omega.{arith}
use lib.ListN.{length, get_or, take, drop}
use lib.Seq.{drop-drop}
use Rattle.model.specs.PartCalls.{Part, part_at, parts_in}

-- how many parts so many lengths are of
abbrev pub part_count : List ℕ → ℕ
part_count lengths = length lengths / 2 + length lengths % 2

-- the first part of some, and those behind it
abbrev one_part : ℕ → ℕ → List ℕ → List ℕ → Part
one_part n m pulses s = record { program = take n s; file = take m (drop n s); pulse = get_or pulses 0 0 }

pub parts-first : (n : ℕ) (lengths pulses s : List ℕ)
    → parts_in (n ∷ lengths) pulses s ≡ one_part n (get_or lengths 0 0) pulses s ∷ parts_in (drop 1 lengths) (drop 1 pulses) (drop (get_or lengths 0 0) (drop n s))
unfolding parts_in
parts-first n [] pulses s = refl
parts-first n (m ∷ lengths) pulses s =
    ap (λ (t : List ℕ). one_part n m pulses s ∷ parts_in lengths (drop 1 pulses) t) (sym (drop-drop m n s))

pub parts-none : (lengths pulses s : List ℕ) → length lengths ≡ 0 → parts_in lengths pulses s ≡ []
unfolding parts_in
parts-none [] pulses s e = refl
parts-none (n ∷ lengths) pulses s e = absurd (omega arith)

-- how many there are
pub count-is : (lengths pulses s : List ℕ) → part_count lengths ≡ length (parts_in lengths pulses s)
unfolding parts_in
count-is [] pulses s = refl
count-is (n ∷ []) pulses s = refl
count-is (n ∷ (m ∷ lengths)) pulses s = omega (arith, count-is lengths (drop 1 pulses) (drop (n + m) s))

-- so that a loop can count them
pub few-parts : (lengths pulses s : List ℕ) → length lengths < 2 ^ 64 → length (parts_in lengths pulses s) < 2 ^ 64
few-parts lengths pulses s l = omega (arith, count-is lengths pulses s)

-- and the pulse length of the first
pub first-pulse : (lengths pulses s : List ℕ) → 0 < length (parts_in lengths pulses s) → (part_at (parts_in lengths pulses s) 0).pulse ≡ get_or pulses 0 0
unfolding parts_in
first-pulse [] pulses s l = absurd (omega arith)
first-pulse (n ∷ []) pulses s l = refl
first-pulse (n ∷ (m ∷ lengths)) pulses s l = refl
