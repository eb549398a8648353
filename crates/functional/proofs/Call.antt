-- The call that compiles: what an accepted program's main statement is, and the call outcome by outcome, its answer and the lent list afterwards.
-- Assumes nothing.
use Rattle.model.specs.Refusals.{Checked, Accepted, Done}
use Rattle.std.specs.Prelude.{Err}
use mathlib.Core.Path.{◌≡◌, refl, sym, ◌∙◌, ap}
use mathlib.Core.List.{List, [], ◌∷◌, ◌++◌, append_assoc}
use Prim.Native.Nat.{ℕ, ◌+◌, ◌-◌, ◌*◌, ◌<◌, ◌≤◌}
use native.Mathlib.Omega.{arith}
use borrow.Author.Tests.{lt-ltb, le-ltb}
use borrow.Rule.Slice.PartMut.{put_mid, mid_len, drop_put, same_len_mid}
use lib.ListN.{length, take, drop}
use lib.Seq.{sets, drop_at, length-take-le}
use Rattle.model.specs.declared.Cell.{Cell}
use Rattle.model.specs.declared.Refusal.{Refusal}
use Rattle.model.specs.declared.Options.{Options}
use Rattle.model.specs.Program.{Code, Stmt, ok, tick, assign, assign_elem, seq, par, ite, while, repeat, loop, exit, call, stmt_at, program_of, time_in}
use Rattle.model.specs.Procedures.{inline, inlined, meaning}
use Rattle.model.specs.ProgramChecks.{check_functional}
use Rattle.model.specs.NetlistFile.{cell_bytes, cells_at, in_list, file_of, blocks_for, file_check}
use Rattle.model.specs.Functional.{count, netlist_of, finish_of}
use Rattle.model.specs.Word.{Bytes}
use Rattle.model.specs.Calls.{overwrite, writing, check_call}
use Rattle.model.specs.FunctionalCalls.{check_functional_call, statement_of, functional_file, compile_functional_checks, compile_functional_call}
use Rattle.laws.specs.Refusals.Laws.{all-accept, first-take, first-drop}
use Rattle.laws.specs.Program.Fit.{Basic}
use Rattle.laws.specs.Program.Passed.{accepted}
use Rattle.laws.specs.Program.Admitted.{program-admitted}
use Rattle.laws.specs.NetlistFile.CellBytes.{bytes-length, from_bytes, cells_are}
use Rattle.laws.specs.NetlistFile.Passed.{right-pulse}
use Rattle.laws.specs.NetlistFile.Files.{file-length, file-accepted}
use Rattle.laws.specs.Functional.Count.{net-len, fits}
use Rattle.laws.specs.Functional.Accepted.{table_alone, also-accepted, main-basic, meaning-basic, meaning-formed, meaning-low}
use Rattle.laws.specs.Functional.Compiled.{net-accepted, count-right}
use Rattle.word.proofs.Puts.{overwrite-sets}
use Rattle.program.specs.declared.Scanned.{Scanned}
use Rattle.program.specs.Shape.{AllShaped}
use Rattle.netlist.proofs.Calls.{Tells, refused}
use Rattle.compiler.specs.Writes.{write}
use Rattle.compiler.proofs.Writes.{write-length}
use Rattle.functional.specs.Walk.{plainly, plain_at, plain_file, plain_count, Main}

-- a statement without calls is the same whatever a call stands for
inline-plain : (I : ℕ → Stmt) (P : Code) → Basic P → inline I P ≡ plainly P
unfolding inline
inline-plain I ok b = refl
inline-plain I (tick d) b = refl
inline-plain I (assign d x e) b = refl
inline-plain I (assign_elem d k i e) b = absurd b
inline-plain I (seq P Q) b = rw (inline-plain I P b.0, inline-plain I Q b.1)
inline-plain I (par P Q) b = rw (inline-plain I P b.0, inline-plain I Q b.1)
inline-plain I (ite d e P Q) b = rw (inline-plain I P b.1, inline-plain I Q b.2)
inline-plain I (while d e P) b = rw (inline-plain I P b.1)
inline-plain I (repeat d e P) b = rw (inline-plain I P b.1)
inline-plain I (loop d P) b = absurd b
inline-plain I exit b = absurd b
inline-plain I (call d p) b = absurd b

-- the bytes of cells, as a list of them
cells-back : (cs : List Cell) (q : List ℕ) → cells_at in_list (cell_bytes cs ++ q) 0 (length cs) ≡ cs
cells-back cs q =
    cells_are in_list (cell_bytes cs ++ q) cs 0 (length cs) refl (λ i l. let z : 6 * (0 + i) ≡ 6 * i = omega arith in rw z (from_bytes cs q i l))

-- where a list of n cells begins in the room of its file, what stands there in a lent list, and the lent list with another part in its place
abbrev pub list_at : ℕ → ℕ
list_at n = 512 * blocks_for n - 6 * n

abbrev pub room : ℕ → List ℕ → List ℕ
room n lent = take (512 * blocks_for n - list_at n) (drop (list_at n) lent)

abbrev pub listed : ℕ → List ℕ → List ℕ → List ℕ
listed n lent part = put_mid (list_at n) (512 * blocks_for n - list_at n) lent part

-- The file -----------------------------------------------------------------------------------------------------------------------------------

module _ (s : List ℕ) {n : ℕ} (q : n ≡ plain_count s) where
  abbrev net : List Cell
  net = netlist_of (plain_at s 0)

  net-size : length net ≡ n
  net-size = net-len (plain_at s 0) ∙ sym q

  pub file-size : length (plain_file s) ≡ 512 * blocks_for n
  file-size = file-length 1 net (finish_of (plain_at s 0)) ∙ rw net-size refl

  -- what is put into the end of the file's room, and the file from it
  module _ (lent : List ℕ) (fit : 512 * blocks_for n ≤ length lent) where
    pub room-size : length (room n lent) ≡ 6 * n
    room-size = mid_len (list_at n) (512 * blocks_for n) lent fit ∙ omega arith

    module _ {part : List ℕ} (put : part ≡ write 0 net (room n lent)) where
      part-size : length part ≡ 512 * blocks_for n - list_at n
      part-size = ap length put ∙ write-length 0 net (room n lent) ∙ mid_len (list_at n) (512 * blocks_for n) lent fit

      pub listed-size : length (listed n lent part) ≡ length lent
      listed-size = same_len_mid (list_at n) (512 * blocks_for n - list_at n) lent part (ap length put ∙ write-length 0 net (room n lent))

      part_bytes : part ≡ cell_bytes net ++ drop (length (cell_bytes net)) (room n lent)
      unfolding write
      part_bytes = put ∙ sym (overwrite-sets (cell_bytes net) (room n lent) (omega (arith, bytes-length net, net-size, room-size)))

      cells-listed : cells_at in_list (drop (list_at n) (listed n lent part)) 0 n ≡ net
      cells-listed =
          rw (drop_at (take (list_at n) lent) _ (list_at n) (length-take-le (list_at n) lent (omega arith)), part_bytes, append_assoc, ← net-size)
          (cells-back net _)

      pub file-put : {f : ℕ} {after : List ℕ} → f ≡ finish_of (plain_at s 0)
          → after ≡ sets (listed n lent part) 0 (file_of 1 (cells_at in_list (drop (list_at n) (listed n lent part)) 0 n) f)
          → after ≡ overwrite (plain_file s) lent
      file-put {f} end w =
          let file = plain_file s in
          let made : file_of 1 (cells_at in_list (drop (list_at n) (listed n lent part)) 0 n) f ≡ file = rw (cells-listed, end) refl in
          let behind : drop (length file) (listed n lent part) ≡ drop (length file) lent =
          rw file-size (drop_put (list_at n) (512 * blocks_for n) lent part (omega arith) fit part-size) in
          rw made at w
          ∙ sym (overwrite-sets file (listed n lent part) (omega (arith, file-size, listed-size)))
          ∙ ap (λ (x : List ℕ). file ++ x) behind

-- An accepted program --------------------------------------------------------------------------------------------------------------------------

main-here : (s : List ℕ) → (program_of 1 0 s).main ≡ stmt_at s 0
unfolding program_of stmt_at
main-here s = refl

module _ (options : Options) (s : List ℕ) (e : check_functional_call options s ≡ Accepted) where
  abbrev checks : List Checked
  checks = options.checked ∷ check_functional options s ∷ []

  table : options.checked ≡ Accepted
  unfolding check_functional_call
  table = all-accept checks e 0

  program : check_functional options s ≡ Accepted
  unfolding check_functional_call
  program = all-accept checks e 1

  whole : check_call (table_alone options) s ≡ Accepted
  whole = also-accepted options s table program

  basic : Basic (program_of 1 0 s).main
  basic = main-basic options s table program

  -- its statement, and its file
  pub same-statement : statement_of s ≡ plain_at s 0
  unfolding meaning
  same-statement = inline-plain (inlined (program_of 1 0 s).bodies) (program_of 1 0 s).main basic ∙ rw (main-here s) refl

  pub same-file : functional_file s ≡ plain_file s
  same-file = rw same-statement refl

  few : count (plain_at s 0) ≤ 7000
  few = omega (arith, rw same-statement at (fits (table_alone options) s whole basic).1, net-len (plain_at s 0))

  pub same_count : length (netlist_of (statement_of s)) ≡ plain_count s
  same_count = rw same-statement (net-len (plain_at s 0))

  -- with its ends
  module _ {r : Scanned} (S : AllShaped (time_in options.times) s r) where
    pub scanned-main : Main s r.ends
    scanned-main = record {
      laid = record { short = (accepted (table_alone options) s whole).readable.short; each = λ j l. (S j l).end };
      formed = rw (← main-here s) (program-admitted (table_alone options) s whole).main.fit.formed;
      basic = rw (← main-here s) basic;
      few = few;
    }

-- its file is never refused
pub functional-accepted : (options : Options) (s : List ℕ) → Bytes s → check_functional_call options s ≡ Accepted → file_check (functional_file s) ≡ Accepted
functional-accepted options s bytes e =
    let P = statement_of s in
    let t = table options s e in
    let p = program options s e in
    let w = meaning-formed options s t p in
    let z = meaning-low options s t p bytes in
    let b = meaning-basic options s t p in
    file-accepted 1 (right-pulse 1 (omega arith) (omega arith)) (netlist_of P) (finish_of P) (count-right P w z b (omega (arith, same_count options s e, few options s e)))
    (net-accepted P w z b)

-- The call -----------------------------------------------------------------------------------------------------------------------------------

pub compile-refused : (options : Options) (s lent : List ℕ) {r : Refusal} → check_functional_call options s ≡ Err r
    → Tells (Err r) lent (compile_functional_call options s lent)
unfolding compile_functional_call check_functional_call writing
compile-refused options s lent e = rw (first-take 2 (compile_functional_checks options s lent) e) (refl, refl)

module _ (options : Options) (s : List ℕ) {n : ℕ} (e : check_functional_call options s ≡ Accepted) (q : n ≡ plain_count s) where
  pub functional-size : length (functional_file s) ≡ 512 * blocks_for n
  functional-size = rw (same-file options s e) (file-size s q)

  pub compile-short : {lent : List ℕ} → length lent < 512 * blocks_for n → Tells (refused 14) lent (compile_functional_call options s lent)
  unfolding compile_functional_call check_functional_call writing
  compile-short {lent} h = rw (first-drop 2 (compile_functional_checks options s lent) e, functional-size, lt-ltb _ _ h) (refl, refl)

  pub compile-done : (lent : List ℕ) {f : ℕ} {after : List ℕ} → 512 * blocks_for n ≤ length lent → f ≡ finish_of (plain_at s 0) → after ≡ overwrite (plain_file s) lent
      → Tells (Done (512 * blocks_for n) f) after (compile_functional_call options s lent)
  unfolding compile_functional_call check_functional_call writing
  compile-done lent h end w =
      rw (first-drop 2 (compile_functional_checks options s lent) e, functional-size, le-ltb _ _ h)
      (rw (end, same-statement options s e) refl, w ∙ ap (λ (file : List ℕ). overwrite file lent) (sym (same-file options s e)))

-- the call of an accepted program, with a buffer that is long enough
pub compile-accepted : (options : Options) (s lent : List ℕ) → check_functional_call options s ≡ Accepted → length (functional_file s) ≤ length lent
    → Tells (Done (length (functional_file s)) (finish_of (statement_of s))) (overwrite (functional_file s) lent) (compile_functional_call options s lent)
unfolding compile_functional_call check_functional_call writing
compile-accepted options s lent e h = rw (first-drop 2 (compile_functional_checks options s lent) e, le-ltb _ _ h) (refl, refl)
