-- Texts in bytes: a quoted text as the list of its characters' numbers, which are its bytes, since only ASCII characters are quoted.
-- `code` is the prover's own number of a character: that of "a" is 97.
-- Assumes nothing: definitions.
use Rattle.std.specs.Prelude.{List, [], ◌∷◌, ℕ}
use Prim.Native.Char.{code}
use Prim.Native.String.{String, [] as none, ◌∷◌ as ◌then◌}

abbrev pub ascii : String → List ℕ
ascii none = []
ascii (c then s) = code c ∷ ascii s
