-- All that is given in the netlist of a program is what its roots give: so its variables and its bodies' starts follow the main program and the
-- bodies, and the timing theorem speaks of it.
-- Assumes nothing.
use Rattle.std.specs.Prelude.{◌≡◌, refl, Bool, true, false, List, ℕ, ◌+◌, ◌<◌, eqb, length}
use Rattle.std.proofs.Common.{ap, ◌∙◌, arith, ne_eqb}
use Rattle.model.specs.Program.{Code, Program, roots}
use Rattle.model.specs.Procedures.{body_at}
use Rattle.model.specs.Circuit.{Sig, Values, level, Obeys}
use Rattle.model.specs.Numbering.{circuit_of, Source, clock_sources, data_sources, address_sources, call_sources, calls_of, root_sources, root_walk_sources, walk_place}
use Rattle.laws.specs.Program.Enclosed.{root_at}
use Rattle.laws.specs.Program.Admitted.{Admitted, each-root, root-count, body-at, main-at, body-is-root, main-is-root}
use Rattle.theory.specs.Control.Wiring.{Gives}
use Rattle.theory.specs.Control.World.{World}
use Rattle.theory.specs.Control.Memories.{Dull}
use Rattle.theory.specs.Control.Calm.{is-dull}
use Rattle.theory.specs.Control.Bodies.{SilentAt, Follows}
use Rattle.theory.specs.Control.Standing.{world, everything}
use Rattle.theory.specs.Numbering.Levels.{clk_of, dat_of}
use Rattle.theory.specs.Numbering.Roots.{none-gives, one-gives, one_word}
use Rattle.theory.specs.Numbering.Whole.{delays_of, walk_of, start_of, finish_wire_of, start-body, given_by, body, body_is, main-is, signals, ret}

module _ (S : Program) (A : Admitted S) (starts : Sig) (words : ℕ → ℕ) (W : Values) (h : Obeys (circuit_of S) starts words W) where
  abbrev pub world-of : World
  world-of = world S A (signals S A starts words W h)

  abbrev gives : ℕ → Gives
  gives q = given_by S A starts words W h (body S A starts words W h q) q

  abbrev pub g : Gives
  g = given_by S A starts words W h S.main (length S.bodies)

  count : length (roots S) ≡ length S.bodies + 1
  count = root-count S

  -- where no root gives to y, nothing is given
  module _ (sources : Code → ℕ → List Source) (y t : ℕ) where
    abbrev at : ℕ → Code → Bool
    at q P = clk_of W (sources P (delays_of S A starts words W h q)) y t

    none : ((q : ℕ) → q < length S.bodies → at q (body_at S.bodies q) ≡ false) → at (length S.bodies) S.main ≡ false
        → clk_of W (root_sources sources (roots S) 3) y t ≡ false
    none b m = none-gives W sources y t (roots S) 3 (each-root S (λ q P. at q P ≡ false) b m)

    by-body : (q : ℕ) → q < length S.bodies → at q (body_at S.bodies q) ≡ true → clk_of W (root_sources sources (roots S) 3) y t ≡ true
    by-body q l e = one-gives W sources y t (roots S) 3 q (omega (arith, count)) (body-at S (λ q P. at q P ≡ true) q l e)

    by-main : at (length S.bodies) S.main ≡ true → clk_of W (root_sources sources (roots S) 3) y t ≡ true
    by-main e = one-gives W sources y t (roots S) 3 (length S.bodies) (omega (arith, count)) (main-at S (λ q P. at q P ≡ true) e)

  -- the word of the one that gives one
  module _ (sources : Code → ℕ → List Source) (y t : ℕ) where
    abbrev word : ℕ → Code → ℕ
    word q P = dat_of W (sources P (walk_of S A starts words W h q)) y t

    abbrev all_words : ℕ
    all_words = dat_of W (root_walk_sources sources (calls_of S) 0 (roots S) (walk_place S)) y t

    only : (j : ℕ) → j < length (roots S) → ((q : ℕ) → q < length (roots S) → (q ≡ j → ⊥) → word q (root_at S q) ≡ 0)
        → all_words ≡ word j (root_at S j)
    only j l o =
        let z : (q : ℕ) → 0 + q ≡ q = λ q. omega arith in
        rw (z j) at (one_word W sources y t (calls_of S) 0 (roots S) (walk_place S) j l (λ q i e. rw (z q) (o q i e)))

    by-main-word : ((q : ℕ) → q < length S.bodies → word q (body_at S.bodies q) ≡ 0)
        → all_words ≡ word (length S.bodies) S.main
    by-main-word b =
        only (length S.bodies) (omega (arith, count))
        (each-root S (λ q P. (q ≡ length S.bodies → ⊥) → word q P ≡ 0) (λ q l e. b q l) (λ e. absurd (e refl)))
        ∙ ap (word (length S.bodies)) (main-is-root S)

    by-body-word : (p : ℕ) → p < length S.bodies → ((q : ℕ) → q < length S.bodies → eqb q p ≡ false → word q (body_at S.bodies q) ≡ 0)
        → word (length S.bodies) S.main ≡ 0
        → all_words ≡ word p (body_at S.bodies p)
    by-body-word p l b m =
        only p (omega (arith, count))
        (each-root S (λ q P. (q ≡ p → ⊥) → word q P ≡ 0) (λ q l e. b q l (ne_eqb q p e)) (λ e. m))
        ∙ ap (word p) (body-is-root S p l)

  body-dull : (q : ℕ) → Dull (gives q)
  body-dull q =
      is-dull world-of (body_at S.bodies q) (level W (start_of S A starts words W h q)) (ret S A starts words W h q) (gives q) (body_is S A starts words W h q)

  main-dull : Dull g
  main-dull =
      is-dull world-of S.main (level W (start_of S A starts words W h (length S.bodies)))
      (level W (finish_wire_of S A starts words W h S.main (length S.bodies))) g (main-is S A starts words W h)

  pub silent : (t : ℕ) → SilentAt world-of (everything S).procs g t
  silent t q l m b = start-body S A starts words W h q l t ∙ none call_sources q t b m

  pub follows : (a e : ℕ) → Follows world-of (everything S) g a e
  follows a e =
      record {
        low = λ x i t l k z b. none clock_sources x t b z;
        own = λ x i t l k z b. (
          by-main clock_sources x t z,
          by-main-word data_sources x t (λ q v. (body-dull q x t (b q v)).0),
          by-main-word address_sources x t (λ q v. (body-dull q x t (b q v)).1),
        );
        body = λ x i t l k z q v y b. (
          by-body clock_sources x t q v y,
          by-body-word data_sources x t q v (λ r v' j. (body-dull r x t (b r v' j)).0) (main-dull x t z).0,
          by-body-word address_sources x t q v (λ r v' j. (body-dull r x t (b r v' j)).1) (main-dull x t z).1,
        );
        heard = λ q v t z. start-body S A starts words W h q v t ∙ by-main call_sources q t z;
        heard-body = λ r v q v' t z. start-body S A starts words W h q v' t ∙ by-body call_sources q t r v z;
      }
