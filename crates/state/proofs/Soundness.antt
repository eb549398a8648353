-- Turns of the loops of refusal 15, and what it gives where it lets a state pass. Assumes nothing.
use mathlib.Core.Bool.{Bool, true, false, not, ◌&&◌, ◌||◌}
use mathlib.Core.List.{List, [], ◌∷◌}
use mathlib.Core.Path.{◌≡◌, refl, ◌∙◌, ap}
use Prim.Native.Nat.{ℕ, zero, suc, ◌+◌, ◌<◌, ◌≤◌}
use native.Mathlib.Omega.{arith}
use native.Mathlib.Nat.{add-zero}
use lib.Dec.{eqb, leb}
use lib.ListN.{length, get_or, take, drop, drop_of_length-le}
use Rattle.std.specs.List.{list_all}
use borrow.Author.Tests.{eq-eqb, eqb-true, leb-true}
use Rattle.model.specs.declared.Cell.{Cell}
use Rattle.model.specs.declared.Format.{Format}
use Rattle.model.specs.declared.Format.TheVariants.{Full, Compact}
use Rattle.model.specs.Word.{pick, bit}
use Rattle.model.specs.Circuit.{Netlist, cell_at, control, merges}
use Rattle.model.specs.NetlistFile.{all_zero}
use Rattle.model.specs.State.{most_left, remaining_byte, base, now_at, before_at, flight_of, flight, left_at, line_sound, cell_sound, cells_sound, sound}
use Rattle.laws.specs.Refusals.Laws.{and-true}
use Rattle.state.specs.Stands.{Lined, Ready}
use Rattle.state.proofs.Standing.{cells-from}

pub zeros_all : (s : List ℕ) → all_zero s ≡ list_all (λ b. eqb b 0) s
unfolding all_zero
zeros_all [] = refl
zeros_all (b ∷ s) = rw (zeros_all s) refl

-- of the cells from k on
module _ (w : ℕ) (F : Format) (net : List Cell) (s : List ℕ) (k : ℕ) (h : k < length net) (c : Cell) (e : cell_at net k ≡ c) where
  sound-at : cells_sound F w (drop k net) s k ≡ cell_sound F w c s k && cells_sound F w (drop (k + 1) net) s (k + 1)
  unfolding cells_sound
  sound-at =
      ap (λ (cs : List Cell). cells_sound F w cs s k) (cells-from net k h)
      ∙ ap (λ (d : Cell). cell_sound F w d s k && cells_sound F w (drop (k + 1) net) s (k + 1)) e

  pub sound-here : cell_sound F w c s k ≡ true → cells_sound F w (drop k net) s k ≡ cells_sound F w (drop (k + 1) net) s (k + 1)
  sound-here z = sound-at ∙ ap (λ (b : Bool). b && cells_sound F w (drop (k + 1) net) s (k + 1)) z

  pub unsound-here : cell_sound F w c s k ≡ false → cells_sound F w (drop k net) s k ≡ false
  unsound-here z = sound-at ∙ ap (λ (b : Bool). b && cells_sound F w (drop (k + 1) net) s (k + 1)) z

pub sound_none : (w : ℕ) (F : Format) (net : List Cell) (s : List ℕ) (k : ℕ) → length net ≤ k → cells_sound F w (drop k net) s k ≡ true
unfolding cells_sound
sound_none w F net s k h = ap (λ (cs : List Cell). cells_sound F w cs s k) (drop_of_length-le net {i = k} h)

-- one cell, from its parts
module _ (w : ℕ) (c : Cell) (s : List ℕ) (k : ℕ) where
  pub full-line : (at most : ℕ) (zeros line : Bool) → at ≡ base Full k → most ≡ most_left Full w c → zeros ≡ all_zero (take 2 (drop (at + 6) s))
      → line ≡ all_zero (take 31 (drop (at + 8 + 1) s)) → (zeros && (eqb c.kind 34 || (leb (get_or s (at + 8) 0) most && line))) ≡ line_sound Full w c s k
  unfolding line_sound remaining_byte
  full-line at most zeros line e m x y = let q : base Full k + 8 + 1 ≡ base Full k + 9 = omega arith in rw (x, y, m, e, q) refl

  pub compact-line : (at left most : ℕ) → at ≡ base Compact k → left ≡ left_at Compact s k → most ≡ pick (eqb c.kind 34) c.delay (most_left Compact w c)
      → (leb left most && eqb (get_or s (at + 7) 0) 0) ≡ line_sound Compact w c s k
  unfolding line_sound
  compact-line at left most e x y = rw (x, y, e) refl

  pub sound-parts : (F : Format) (at now ago a b : ℕ) (wire line : Bool) → at ≡ base F k → wire ≡ control c.kind → now ≡ now_at F s k → ago ≡ before_at F s k
      → a ≡ bit (merges c.kind) → b ≡ bit (eqb c.kind 38) → line ≡ line_sound F w c s k
      → ((not wire || (leb now 1 && leb ago 1)) && ((leb (get_or s (at + 4) 0) a && leb (get_or s (at + 5) 0) b) && line)) ≡ cell_sound F w c s k
  unfolding cell_sound
  sound-parts F at now ago a b wire line e x y z u v q = rw (x, y, z, u, v, q, e) refl

-- What a state that passes is ------------------------------------------------------------------------------------------------------------

cell-sound-at : (w : ℕ) (F : Format) (cs : List Cell) (s : List ℕ) (k i : ℕ) → i < length cs → cells_sound F w cs s k ≡ true → cell_sound F w (cell_at cs i) s (k + i) ≡ true
unfolding cells_sound
cell-sound-at w F [] s k i h e = absurd (omega arith)
cell-sound-at w F (c ∷ cs) s k zero h e = rw add-zero (and-true (cell_sound F w c s k) _ e).0
cell-sound-at w F (c ∷ cs) s k (suc i) h e =
    let q : k + 1 + i ≡ k + suc i = omega arith in
    rw q at (cell-sound-at w F cs s (k + 1) i (omega arith) (and-true (cell_sound F w c s k) _ e).1)

line-sound-at : (w : ℕ) (F : Format) (c : Cell) (s : List ℕ) (k : ℕ) → cell_sound F w c s k ≡ true → line_sound F w c s k ≡ true
unfolding cell_sound
line-sound-at w F c s k e =
    let held = leb (get_or s (base F k + 4) 0) (bit (merges c.kind)) && leb (get_or s (base F k + 5) 0) (bit (eqb c.kind 38)) in
    (and-true held (line_sound F w c s k) (and-true (not (control c.kind) || (leb (now_at F s k) 1 && leb (before_at F s k) 1)) _ e).1).1

left-sound : (w : ℕ) (c : Cell) (s : List ℕ) (k : ℕ) → c.kind ≡ 34 → line_sound Compact w c s k ≡ true → left_at Compact s k ≤ c.delay
unfolding line_sound
left-sound w c s k q e =
    leb-true _ _ (rw (eq-eqb _ _ q) at (and-true (leb (left_at Compact s k) (pick (eqb c.kind 34) c.delay (most_left Compact w c))) (eqb (get_or s (base Compact k + 7) 0) 0) e).0)

lined : (F : Format) (net : Netlist) (s : List ℕ) → cells_sound F net.pulse net.cells s 0 ≡ true → Lined F net s
unfolding Lined
lined Full net s e = tt
lined Compact net s e = λ k l q.
    let z : 0 + k ≡ k = omega arith in
    left-sound net.pulse (cell_at net.cells k) s k q (line-sound-at net.pulse Compact (cell_at net.cells k) s k (rw z at (cell-sound-at net.pulse Compact net.cells s 0 k l e)))

pub sound-ready : (F : Format) (net : Netlist) (s : List ℕ) → sound F net s ≡ true → Ready F net s
unfolding sound
sound-ready F net s e =
    let z = and-true (eqb (flight_of s) (flight F net s)) (cells_sound F net.pulse net.cells s 0) e in
    record { number = eqb-true _ _ z.0; lines = lined F net s z.1 }
