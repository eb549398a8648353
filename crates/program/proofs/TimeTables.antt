-- Refusals 19 to 21 of a table: what a byte's test says of its fault, and which refusal comes first. Assumes nothing.
use Rattle.std.specs.Prelude.{Err}
use mathlib.Core.Path.{◌≡◌, refl, sym, ◌∙◌, ap}
use mathlib.Core.Bool.{true, false}
use mathlib.Core.List.{List}
use Prim.Native.Nat.{ℕ, ◌%◌}
use native.Mathlib.Omega.{arith}
use lib.ListN.{length, get_or, take, drop}
use lib.Seq.{take_all}
use borrow.Author.Tests.{eq-eqb, ne_eqb}
use Rattle.model.specs.declared.Refusal.{Refusal}
use Rattle.model.specs.declared.Options.{Options}
use Rattle.model.specs.Refusals.{refuse, first, first_fault, Checked, Accepted}
use Rattle.model.specs.Program.{time_in}
use Rattle.model.specs.ProgramChecks.{program_checks, check_of, functional_checks, check_functional}
use Rattle.model.specs.NetlistFile.{word_sum, pulse_wrong}
use Rattle.model.specs.TimeTables.{byte_wrong, table_fault, table_sum_wrong, table_checks, given_check}
use Rattle.model.specs.Calls.{check_call}
use Rattle.model.specs.FunctionalCalls.{check_functional_call}
use Rattle.laws.specs.Refusals.Laws.{first_one}

module _ (file : List ℕ) (i : ℕ) where
  pub wrong_byte : byte_wrong i (get_or file i 0) ≡ true → table_fault file i ≡ 21
  unfolding table_fault
  wrong_byte e = rw e refl

  pub right-byte : byte_wrong i (get_or file i 0) ≡ false → table_fault file i ≡ 0
  unfolding table_fault
  right-byte e = rw e refl

module _ (file : List ℕ) where
  pub at_length : (length file ≡ 512 → ⊥) → refuse 19 0 ≡ first (table_checks file)
  at_length n = rw (ne_eqb _ _ n) refl

  module _ (l : length file ≡ 512) {sum : ℕ} (e : sum ≡ word_sum (take 512 (drop 0 file)) % 65536) where
    words_are : sum ≡ word_sum file % 65536
    words_are = e ∙ ap (λ (s : List ℕ). word_sum s % 65536) (take_all 512 file (omega (arith, l)))

    pub at_sum : (sum ≡ 0 → ⊥) → refuse 20 0 ≡ first (table_checks file)
    unfolding table_sum_wrong
    at_sum n = rw (eq-eqb _ _ l, ← words_are, ne_eqb _ _ n) refl

    pub at-bytes : sum ≡ 0 → {c : Checked} → c ≡ first_fault (table_fault file) 0 512 → c ≡ first (table_checks file)
    unfolding table_sum_wrong
    at-bytes z q = rw (eq-eqb _ _ l, ← words_are, z) (q ∙ first_one _)

-- The pulse length, and then the table; their refusals come before those of a program.
module _ (options : Options) where
  pub pulse-refuses : pulse_wrong options.pulse ≡ true → refuse 27 0 ≡ given_check options
  unfolding given_check
  pulse-refuses e = rw e refl

  pub pulse-accepts : pulse_wrong options.pulse ≡ false → options.checked ≡ given_check options
  unfolding given_check
  pulse-accepts e = rw e (first_one _)

module _ (options : Options) (s : List ℕ) where
  pub given-refuses : {r : Refusal} → given_check options ≡ Err r → check_call options s ≡ Err r
  unfolding check_call
  given-refuses e = rw e refl

  pub given-accepts : given_check options ≡ Accepted
      → check_call options s ≡ first (program_checks (time_in options.times) options.pulse options.procedures s)
  unfolding check_call check_of
  given-accepts e = rw e (sym (first_one _))

  -- for a functional circuit the table alone
  pub table-refuses : {r : Refusal} → options.checked ≡ Err r → check_functional_call options s ≡ Err r
  unfolding check_functional_call
  table-refuses e = rw e refl

  pub table-accepts : options.checked ≡ Accepted → check_functional_call options s ≡ first (functional_checks (time_in options.times) s)
  unfolding check_functional_call check_functional
  table-accepts e = rw e (sym (first_one _))
