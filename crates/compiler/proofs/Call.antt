-- The call that compiles, outcome by outcome: the answer, and the lent list afterwards. Assumes nothing.
use Rattle.model.specs.Refusals.{Accepted, Done}
use Rattle.std.specs.Prelude.{Result, Ok, Err, IsOk}
use mathlib.Core.List.{List}
use mathlib.Core.Path.{◌≡◌, refl, ap}
use Prim.Native.Nat.{ℕ, ◌≤◌}
use native.Mathlib.Omega.{arith}
use lib.ListN.{length}
use borrow.Author.Tests.{le-ltb}
use Rattle.model.specs.declared.Refusal.{Refusal}
use Rattle.model.specs.declared.Written.{Written}
use Rattle.model.specs.declared.Options.{Options}
use Rattle.model.specs.ProgramChecks.{program_with}
use Rattle.model.specs.Numbering.{finish}
use Rattle.model.specs.NetlistFile.{cells_at, in_list}
use Rattle.model.specs.Calls.{overwrite, short, writing, check_call, compiled_file, compile_checks, compile_call}
use Rattle.laws.specs.Refusals.Laws.{first_one, first-take, first-drop}
use Rattle.laws.specs.Numbering.Count.{fits}
use Rattle.laws.specs.Program.Size.{few-nodes}
use Rattle.netlist.specs.declared.cells.Layout.TheVariants.{InList}
use Rattle.netlist.specs.Offsets.{Room}
use Rattle.netlist.specs.Blocks.{written_file}
use Rattle.netlist.proofs.Calls.{Tells}
use Rattle.program.specs.declared.Scanned.{Scanned}
use Rattle.model.specs.Program.{time_in}
use Rattle.program.specs.Shape.{AllShaped, scanned-laid}
use Rattle.compiler.specs.declared.whole.Netlist.{Netlist}
use Rattle.compiler.specs.Whole.{Given, Made}

pub scanned : (options : Options) {s : List ℕ} {r : Scanned} → check_call options s ≡ Accepted → AllShaped (time_in options.times) s r → Given options.pulse options.procedures s r.ends 3762
scanned options {s} {r} e S = record { options = options; pulse = refl; count = refl; accepted = e; laid = scanned-laid options s r e S; size = refl }

module _ (options : Options) (s : List ℕ) {cells : List ℕ} {made : Netlist} (m : Made (program_with options s) cells made) where
  module _ (e : check_call options s ≡ Accepted) where
    pub list-room : length cells ≡ 3762 → Room InList cells made.count
    list-room l =
        let most = (fits (program_with options s) (few-nodes options s e)).1 in
        record { few = omega (arith, m.count, most); fits = omega (arith, m.count, most, l) }

    -- what is accepted is written
    pub compile-writes : (lent : List ℕ)
        → compile_call options s lent ≡ written_file options.pulse (cells_at in_list cells 0 made.count) made.finish lent
    unfolding compile_call check_call
    compile-writes lent =
        rw (m.cells, m.finish, first-drop 2 (compile_checks options s lent) e, ← first_one (short (length lent) (length (compiled_file options s)))) refl

pub compile-refused : (options : Options) (s lent : List ℕ) {r : Refusal} → check_call options s ≡ Err r
    → Tells (Err r) lent (compile_call options s lent)
unfolding compile_call writing check_call
compile-refused options s lent e = rw (first-take 2 (compile_checks options s lent) e) (refl, refl)

-- the call of an accepted program, with a buffer that is long enough
pub compile-accepted : (options : Options) (s lent : List ℕ) → check_call options s ≡ Accepted → length (compiled_file options s) ≤ length lent
    → Tells (Done (length (compiled_file options s)) (finish (program_with options s))) (overwrite (compiled_file options s) lent) (compile_call options s lent)
unfolding compile_call check_call writing
compile-accepted options s lent e h = rw (first-drop 2 (compile_checks options s lent) e, le-ltb _ _ h) (refl, refl)

-- what is written is told
pub written-ok : {n f : ℕ} {r : Result Written Refusal} → r ≡ Done n f → IsOk r
written-ok e = rw e refl

pub written-count : {n f : ℕ} {x : Written} {r : Result Written Refusal} → r ≡ Done n f → r ≡ Ok x → x.count ≡ n
written-count {n} {f} {x} e o = let q : x ≡ record { count = n; finish = f } = cc in ap (λ (w : Written). w.count) q
