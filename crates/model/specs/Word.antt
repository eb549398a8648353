-- Words of sixteen bits, their operators, and numbers in bytes.
-- "A word has 16 bits." "Numbers of two or four bytes have the low byte first."
-- Assumes nothing: definitions.
use Rattle.std.specs.Prelude.{Bool, true, false, List, [], ◌∷◌, ℕ, ◌+◌, ◌-◌, ◌*◌, ◌/◌, ◌%◌, ◌<◌, get_or, set, eqb, ltb}
use Rattle.std.specs.Int.Bits.{bit_and, bit_or}

-- Choices ------------------------------------------------------------------------------------------------------------------------------

-- the first of two where a test holds, else the second
abbrev pub pick : {A : Type 0} → Bool → A → A → A
pick true a b = a
pick false a b = b

-- "equal, 1 or 0": a truth as a number
unfoldable pub bit : Bool → ℕ
bit true = 1
bit false = 0

-- Operators ----------------------------------------------------------------------------------------------------------------------------

-- "A condition is true when its word isn't zero."
abbrev pub is_zero : ℕ → Bool
is_zero w = eqb w 0

-- "Less therefore compares words as two's complement, −32,768 to 32,767": the number that a word is, with 32,768 added
unfoldable pub biased : ℕ → ℕ
biased w = (w + 32768) % 65536

-- The operators of kinds 3 to 9: complement of all bits, sum, difference, bitwise and, bitwise or, equal, less.
-- "Adding and subtracting wrap at sixteen bits." The complement has no use for its second word.
unfoldable pub operate : ℕ → ℕ → ℕ → ℕ
operate k x y =
    pick (eqb k 3) (65535 - x)
    (pick (eqb k 4) ((x + y) % 65536)
    (pick (eqb k 5) ((x + 65536 - y) % 65536)
    (pick (eqb k 6) (bit_and x y)
    (pick (eqb k 7) (bit_or x y)
    (pick (eqb k 8) (bit (eqb x y))
    (bit (ltb (biased x) (biased y))))))))

-- "Only the low six bits of an index count."
abbrev pub index : ℕ → ℕ
index w = w % 64

-- the element of array k with index w, the elements being numbered array by array
abbrev pub element_of : ℕ → ℕ → ℕ
element_of k w = 64 * k + index w

-- and its word among all words of a program: "The 256 follow the sixteen"
unfoldable pub element_word : ℕ → ℕ → ℕ
element_word k w = 16 + element_of k w

-- Numbers in bytes ---------------------------------------------------------------------------------------------------------------------

-- the number of two bytes at i, and a number put there
unfoldable pub get16 : List ℕ → ℕ → ℕ
get16 s i = get_or s i 0 + 256 * get_or s (i + 1) 0

unfoldable pub put16 : List ℕ → ℕ → ℕ → List ℕ
put16 s i v = set (set s i (v % 256)) (i + 1) (v / 256)

-- the number of four bytes at i, and a number put there
unfoldable pub get32 : List ℕ → ℕ → ℕ
get32 s i = get16 s i + 65536 * get16 s (i + 2)

unfoldable pub put32 : List ℕ → ℕ → ℕ → List ℕ
put32 s i v = put16 (put16 s i (v % 65536)) (i + 2) (v / 65536)

-- a number's two bytes
unfoldable pub bytes16 : ℕ → List ℕ
bytes16 v = v % 256 ∷ v / 256 ∷ []

-- what lists of bytes are
abbrev pub Bytes : List ℕ → Type 0
Bytes s = (i : ℕ) → get_or s i 0 < 256
