-- What a check of the engine's tables tells of a netlist: tests of single cells, and that where all cells pass, the tables are right.
-- An input is looked up modulo 1,024, which is the input wherever a cell has one.
-- Assumes nothing.
use Rattle.std.specs.Prelude.{Bool, true, false, not, ◌&&◌, ◌||◌, List, ◌≡◌, refl, ℕ, ◌+◌, ◌%◌, ◌^◌, ◌<◌, ◌≤◌, eqb, length, get_or}
use Rattle.std.proofs.Math.Logic.{inl, inr}
use Rattle.std.proofs.Common.{sym, ◌∙◌, arith}
use Rattle.std.proofs.Math.Path.{ap}
use Rattle.std.proofs.Math.Nat.{mod-eq_of_lt}
use Rattle.std.specs.Int.Bits.{bit_or}
use borrow.Author.Tests.{eqb-true, eq-eqb, not-true}
use Rattle.model.specs.declared.Cell.{Cell}
use Rattle.model.specs.Circuit.{Netlist, cell_at, Shape, shape, cell_table, k_constant, k_complement, k_operator, k_start, k_ground, k_delay, k_or, k_when_true, k_when_false, k_merge, k_return, k_memory, k_gated, k_array, k_address, k_read, k_latch, k_unknown}
use Rattle.laws.specs.Refusals.Laws.{by_bool, not-both, and-true, or-false}
use Rattle.laws.specs.Circuit.Ordered.{kinds, Looks, Ordered}
use Rattle.laws.specs.Circuit.Inputs.{read_looks}
use Rattle.laws.specs.Circuit.Shapes.{operator-shape}
use Rattle.laws.specs.State.Passes.{shape_at}
use Rattle.engine_laws.specs.Sets.{digit, or-digit, digit_low, pow-digit}
use Rattle.engine_laws.specs.Decoded.{cell_in, Decoded}
use Rattle.engine_laws.specs.Idle.{Clears, read_low}
use Rattle.engine_laws.specs.Buffers.{Suits}
use Rattle.engine_laws.specs.Words.{Follows}

-- P is true of every netlist that has these cells
abbrev pub Nets : List ℕ → List ℕ → List ℕ → List ℕ → ℕ → (Netlist → Type 0) → Type 0
Nets kinds delays a b n P = (net : Netlist) → Ordered net.cells → length net.cells ≡ n → Decoded net.cells kinds delays a b n → P net

-- cell k passes a test of its shape and of the cell itself
abbrev pub Passes : (Shape → ℕ → Cell → Bool) → List ℕ → List ℕ → List ℕ → List ℕ → ℕ → Type 0
Passes test kinds delays a b k = test (shape (get_or kinds k 0)) k (cell_in kinds delays a b k) ≡ true

-- what is true of every cell that passes is true of every cell of such a netlist, if all pass
pub all_pass : (test : Shape → ℕ → Cell → Bool) (kinds delays a b : List ℕ) (n : ℕ) (P : Netlist → Shape → ℕ → Cell → Type 0) (net : Netlist)
    → Decoded net.cells kinds delays a b n → length net.cells ≡ n → ((k : ℕ) → k < n → Passes test kinds delays a b k)
    → ((k : ℕ) → k < n → test (shape_at net k) k (cell_at net.cells k) ≡ true → P net (shape_at net k) k (cell_at net.cells k))
    → (k : ℕ) → k < length net.cells → P net (shape_at net k) k (cell_at net.cells k)
all_pass test kinds delays a b n P net decoded e all law k l =
    let h : k < n = omega arith in
    law k h (rw (decoded k h) (all k h))

-- an input below 1,024
low : {A : Type 0} (f : ℕ → A) (x : ℕ) → x < 1024 → f (x % 1024) ≡ f x
low f x l = ap f (mod-eq_of_lt l)

-- a kind of the operators' arm, where the arm of kind 3 stands before it
pub operator-arm : (k : ℕ) → 3 ≤ k → (k ≡ 3 → ⊥) → k < 10 → shape k ≡ k_operator
operator-arm k l n h = operator-shape k (omega (arith, n)) (omega arith)

-- Cleared cells --------------------------------------------------------------------------------------------------------------------------

-- a cell of this shape and kind, where `own`, `first` and `second` say whether it and its inputs are cleared
unfoldable pub clears_test : Shape → ℕ → Bool → Bool → Bool → Bool
clears_test k_constant kind own first second = not own
clears_test k_complement kind own first second = not (own || first)
clears_test k_operator kind own first second = (((own && eqb kind 7) && first) && second) || not ((own || first) || second)
clears_test k_start kind own first second = own
clears_test k_ground kind own first second = own
clears_test k_delay kind own first second = own && first
clears_test k_or kind own first second = (own && first) && second
clears_test k_when_true kind own first second = own && first
clears_test k_when_false kind own first second = own && first
clears_test k_merge kind own first second = (own && first) && second
clears_test k_return kind own first second = (own && first) && second
clears_test k_memory kind own first second = not own && first
clears_test k_gated kind own first second = own && first
clears_test k_array kind own first second = not own && first
clears_test k_address kind own first second = not own
clears_test k_read kind own first second = not (own || second)
clears_test k_latch kind own first second = false
clears_test k_unknown kind own first second = false

abbrev pub clears_at : (ℕ → Bool) → Shape → ℕ → Cell → Bool
clears_at g sh k c = clears_test sh c.kind (g k) (g (c.a % 1024)) (g (c.b % 1024))

module _ (g : ℕ → Bool) (K : ℕ → ℕ) (n k : ℕ) (c : Cell) (few : n ≤ 1024) (l : k < n) where
  there : {b : Bool} (x : ℕ) → x < n → g (x % 1024) ≡ b → g x ≡ b
  there x h e = sym (low g x (omega arith)) ∙ e

  one : (x : ℕ) → x < n → (g k && g (x % 1024)) ≡ true → (g k ≡ true) × (g x ≡ true)
  one x h t = let z = and-true (g k) _ t in (z.0, there x h z.1)

  two : (x y : ℕ) → x < n → y < n → ((g k && g (x % 1024)) && g (y % 1024)) ≡ true → (g k ≡ true) × (g x ≡ true) × (g y ≡ true)
  two x y h i t = let z = and-true (g k && g (x % 1024)) _ t in let y' = one x h z.0 in (y'.0, y'.1, there y i z.1)

  clocked : (x : ℕ) → x < n → (not (g k) && g (x % 1024)) ≡ true → (g k ≡ false) × (g x ≡ true)
  clocked x h t = let z = and-true (not (g k)) _ t in (not-true _ z.0, there x h z.1)

  none : (x : ℕ) → x < n → not (g k || g (x % 1024)) ≡ true → (g k ≡ false) × (g x ≡ false)
  none x h t = let z = or-false (g k) _ (not-true _ t) in (z.0, there x h z.1)

  pub clears-passed : (sh : Shape) → Looks (cell_table sh).row K n k c → clears_at g sh k c ≡ true → Clears sh g k c
  unfolding clears_test cell_table
  clears-passed k_constant o t = not-true _ t
  clears-passed k_complement o t = none c.a (omega (arith, o.1.0)) t
  clears-passed k_operator o t = by_bool _ (λ e. inl (summed e)) (λ e. inr (plain (rw e at t)))
    where
      ha : c.a < n
      ha = omega (arith, o.1.0)

      hb : c.b < n
      hb = omega (arith, o.2.0)

      summed : (((g k && eqb c.kind 7) && g (c.a % 1024)) && g (c.b % 1024)) ≡ true → (g k ≡ true) × (c.kind ≡ 7) × (g c.a ≡ true) × (g c.b ≡ true)
      summed e =
          let z = and-true ((g k && eqb c.kind 7) && g (c.a % 1024)) _ e in
          let y = and-true (g k && eqb c.kind 7) _ z.0 in
          let x = and-true (g k) _ y.0 in
          (x.0, eqb-true _ _ x.1, there c.a ha y.1, there c.b hb z.1)

      plain : not ((g k || g (c.a % 1024)) || g (c.b % 1024)) ≡ true → (g k ≡ false) × (g c.a ≡ false) × (g c.b ≡ false)
      plain e =
          let z = or-false (g k || g (c.a % 1024)) _ (not-true _ e) in
          let y = or-false (g k) _ z.0 in
          (y.0, there c.a ha y.1, there c.b hb z.1)
  clears-passed k_start o t = t
  clears-passed k_ground o t = t
  clears-passed k_delay o t = one c.a o.1.0 t
  clears-passed k_or o t = two c.a c.b (omega (arith, o.1.0)) (omega (arith, o.2.0)) t
  clears-passed k_when_true o t = one c.a (omega (arith, o.1.0)) t
  clears-passed k_when_false o t = one c.a (omega (arith, o.1.0)) t
  clears-passed k_merge o t = two c.a c.b (omega (arith, o.1.0)) (omega (arith, o.2.0)) t
  clears-passed k_return o t = two c.a c.b (omega (arith, o.1.0)) (omega (arith, o.2.0)) t
  clears-passed k_memory o t = clocked c.a (omega (arith, o.1.0)) t
  clears-passed k_gated o t = one c.a (omega (arith, o.1.0)) t
  clears-passed k_array o t = clocked c.a (omega (arith, o.1.0)) t
  clears-passed k_address o t = not-true _ t
  clears-passed k_read o t = none c.b (omega (arith, o.2.0)) t
  clears-passed k_latch o t = not-both t refl
  clears-passed k_unknown o t = not-both t refl

-- an idle instant clears the cells g, and there is no latch
pub record Cleared (g : ℕ → Bool) (net : Netlist) : Type 0 where
  pub cleared : (k : ℕ) → k < length net.cells → Clears (shape_at net k) g k (cell_at net.cells k)
  pub suits : net.pulse ≡ 1 → Suits net

no-latch : (g : ℕ → Bool) (sh : Shape) (k : ℕ) (c : Cell) → clears_at g sh k c ≡ true → sh ≡ k_latch → ⊥
unfolding clears_test
no-latch g sh k c t e = not-both (rw e at t) refl

pub all-clear : (g : ℕ → Bool) (kinds' delays a b : List ℕ) (n : ℕ) → n ≤ 1024 → ((k : ℕ) → k < n → Passes (clears_at g) kinds' delays a b k)
    → Nets kinds' delays a b n (Cleared g)
all-clear g kinds' delays a b n few all net ordered e decoded =
    record {
      cleared = all_pass (clears_at g) kinds' delays a b n (λ net sh k c. Clears sh g k c) net decoded e all
          (λ k l t. clears-passed g (kinds net.cells) n k (cell_at net.cells k) few l (shape_at net k) (looks k l) t);
      suits = λ p. record {
        short = p;
        unlatched = all_pass (clears_at g) kinds' delays a b n (λ net sh k c. sh ≡ k_latch → ⊥) net decoded e all
            (λ k l t. no-latch g (shape_at net k) k (cell_at net.cells k) t);
      };
    }
  where
    looks : (k : ℕ) → k < n → Looks (cell_table (shape_at net k)).row (kinds net.cells) n k (cell_at net.cells k)
    looks k l = rw (← e) (ordered.looks k (rw e l))

-- Words that follow registers --------------------------------------------------------------------------------------------------------------

-- `own` is the set of registers that a word follows, `x` and `y` are those of its inputs; `memory` and `array` are sets of one register
unfoldable pub follows_test : Shape → ℕ → ℕ → ℕ → ℕ → ℕ → Bool
follows_test k_constant own x y memory array = eqb own 0
follows_test k_complement own x y memory array = eqb own x
follows_test k_operator own x y memory array = eqb own (bit_or x y)
follows_test k_start own x y memory array = eqb own 0
follows_test k_ground own x y memory array = eqb own 0
follows_test k_delay own x y memory array = eqb own 0
follows_test k_or own x y memory array = eqb own 0
follows_test k_when_true own x y memory array = eqb own 0
follows_test k_when_false own x y memory array = eqb own 0
follows_test k_merge own x y memory array = eqb own 0
follows_test k_return own x y memory array = eqb own 0
follows_test k_memory own x y memory array = eqb own memory
follows_test k_gated own x y memory array = eqb own 0
follows_test k_array own x y memory array = eqb own 0
follows_test k_address own x y memory array = eqb own 0
follows_test k_read own x y memory array = eqb own (bit_or y array)
follows_test k_latch own x y memory array = false
follows_test k_unknown own x y memory array = false

abbrev pub follows_at : (ℕ → ℕ) → (ℕ → ℕ) → (ℕ → ℕ) → Shape → ℕ → Cell → Bool
follows_at sets ranks delays sh k c =
    follows_test sh (sets k) (sets (c.a % 1024)) (sets (c.b % 1024)) (2 ^ (ranks k % 32)) (2 ^ (16 + delays (c.a % 1024) % 4))

-- word k follows register m
abbrev pub follows_in : (ℕ → ℕ) → ℕ → ℕ → Bool
follows_in sets k m = eqb (digit (sets k) m) 1

module _ (sets ranks delays : ℕ → ℕ) (net : Netlist) (K : ℕ → ℕ) (n k : ℕ) (c : Cell) (few : n ≤ 1024) (l : k < n) where
  within : (x m : ℕ) → ((digit x m ≡ 1) → digit (sets k) m ≡ 1) → (y : ℕ) → y ≡ x → eqb (digit y m) 1 ≡ true → follows_in sets k m ≡ true
  within x m f y e h = eq-eqb _ _ (f (ap (λ (z : ℕ). digit z m) (sym e) ∙ eqb-true _ _ h))

  left : (x y m : ℕ) → sets k ≡ bit_or x y → digit x m ≡ 1 → digit (sets k) m ≡ 1
  left x y m e h = rw (e, or-digit x y m) (omega (arith, h, digit_low y m))

  right : (x y m : ℕ) → sets k ≡ bit_or x y → digit y m ≡ 1 → digit (sets k) m ≡ 1
  right x y m e h = rw (e, or-digit x y m) (omega (arith, h, digit_low x m))

  pub follows-passed : (sh : Shape) → Looks (cell_table sh).row K n k c → (sh ≡ k_memory → ranks k < 32)
      → (sh ≡ k_read → (delays c.a ≡ (cell_at net.cells c.a).delay) × ((cell_at net.cells c.a).delay < 4))
      → follows_at sets ranks delays sh k c ≡ true → Follows sh net ranks (follows_in sets) k c
  unfolding follows_test cell_table
  follows-passed k_constant o r d t = tt
  follows-passed k_complement o r d t =
      λ m. within (sets (c.a % 1024)) m (λ h. ap (λ (z : ℕ). digit z m) (eqb-true _ _ t) ∙ h) (sets c.a) (sym (low sets c.a (omega (arith, o.1.0))))
  follows-passed k_operator o r d t =
      λ m. (
        within (sets (c.a % 1024)) m (left (sets (c.a % 1024)) (sets (c.b % 1024)) m (eqb-true _ _ t)) (sets c.a) (sym (low sets c.a (omega (arith, o.1.0)))),
        within (sets (c.b % 1024)) m (right (sets (c.a % 1024)) (sets (c.b % 1024)) m (eqb-true _ _ t)) (sets c.b) (sym (low sets c.b (omega (arith, o.2.0)))),
      )
  follows-passed k_start o r d t = tt
  follows-passed k_ground o r d t = tt
  follows-passed k_delay o r d t = tt
  follows-passed k_or o r d t = tt
  follows-passed k_when_true o r d t = tt
  follows-passed k_when_false o r d t = tt
  follows-passed k_merge o r d t = tt
  follows-passed k_return o r d t = tt
  follows-passed k_memory o r d t =
      let e : sets k ≡ 2 ^ ranks k = eqb-true _ _ t ∙ ap (λ (z : ℕ). 2 ^ z) (mod-eq_of_lt (r refl)) in
      eq-eqb _ _ (ap (λ (z : ℕ). digit z (ranks k)) e ∙ pow-digit (ranks k))
  follows-passed k_gated o r d t = tt
  follows-passed k_array o r d t = tt
  follows-passed k_address o r d t = tt
  follows-passed k_read o r d t =
      let i = (cell_at net.cells c.a).delay in
      let e : delays (c.a % 1024) % 4 ≡ i = ap (λ (z : ℕ). z % 4) (low delays c.a (omega (arith, o.1.0)) ∙ (d refl).0) ∙ mod-eq_of_lt (d refl).1 in
      let h : sets k ≡ bit_or (sets (c.b % 1024)) (2 ^ (16 + i)) = eqb-true _ _ t ∙ ap (λ (z : ℕ). bit_or (sets (c.b % 1024)) (2 ^ (16 + z))) e in (
        eq-eqb _ _ (right (sets (c.b % 1024)) (2 ^ (16 + i)) (16 + i) h (pow-digit (16 + i))),
        λ m. within (sets (c.b % 1024)) m (left (sets (c.b % 1024)) (2 ^ (16 + i)) m h) (sets c.b) (sym (low sets c.b (omega (arith, o.2.0)))),
      )
  follows-passed k_latch o r d t = tt
  follows-passed k_unknown o r d t = tt

-- the sets have for each word the registers that it follows
abbrev pub Followed : (ℕ → ℕ) → (ℕ → ℕ) → Netlist → Type 0
Followed sets ranks net = (k : ℕ) → k < length net.cells → Follows (shape_at net k) net ranks (follows_in sets) k (cell_at net.cells k)

pub all-follow : (sets ranks : ℕ → ℕ) (kinds' delays a b : List ℕ) (n : ℕ) → n ≤ 1024
    → ((k : ℕ) → k < n → Passes (follows_at sets ranks (λ (j : ℕ). get_or delays j 0)) kinds' delays a b k)
    → Nets kinds' delays a b n (λ net. ((k : ℕ) → k < n → shape_at net k ≡ k_memory → ranks k < 32) → Followed sets ranks net)
all-follow sets ranks kinds' delays a b n few all net ordered e decoded small =
    all_pass (follows_at sets ranks D) kinds' delays a b n (λ net sh k c. Follows sh net ranks (follows_in sets) k c) net decoded e all
    (λ k l t. follows-passed sets ranks D net (kinds net.cells) n k (cell_at net.cells k) few l (shape_at net k) (looks k l) (small k l) (array k l) t)
  where
    D : ℕ → ℕ
    D j = get_or delays j 0

    looks : (k : ℕ) → k < n → Looks (cell_table (shape_at net k)).row (kinds net.cells) n k (cell_at net.cells k)
    looks k l = rw (← e) (ordered.looks k (rw e l))

    array : (k : ℕ) → k < n → shape_at net k ≡ k_read
        → (D (cell_at net.cells k).a ≡ (cell_at net.cells (cell_at net.cells k).a).delay) × ((cell_at net.cells (cell_at net.cells k).a).delay < 4)
    array k l q =
        let x = (cell_at net.cells k).a in
        let h = read_looks (kinds net.cells) n k (cell_at net.cells k) q (looks k l) in
        (ap (λ (z : Cell). z.delay) (sym (decoded x (omega (arith, h.0)))), read_low net ordered k (rw e l) q)
