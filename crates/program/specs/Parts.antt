-- The nodes of a part of a program, in bytes. Assumes nothing: definitions.
use Rattle.std.specs.Prelude.{List, ℕ, ◌-◌, ◌*◌, take, drop}

-- from node i up to node e
abbrev pub part : List ℕ → ℕ → ℕ → List ℕ
part s i e = take (4 * e - 4 * i) (drop (4 * i) s)
