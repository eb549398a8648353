-- `check_last` meets its contract. Assumes nothing.
use Rattle.model.specs.Refusals.{Accepted}
use Rattle.std.proofs.Common.{◌≡◌, ℕ, ◌*◌, true, ◌||◌, ltb, List, length, refl, ap, ◌∙◌, arith, le-ltb}
use Rattle.model.specs.NetlistFile.{cell_limit, blocks_for, count_of, cells_at, in_file, cells_of, file_check, last_check}
use Rattle.laws.specs.Refusals.Laws.{not-both}
use Rattle.netlist.proofs.FileChecks.{accepted-whole, accepted-room}
use Rattle.netlist.proofs.check_last.Goals as goal

-- an accepted file has room for its cells
never-short : {A : Type 0} (s : List ℕ) {n : ℕ} → n ≡ count_of s → (ltb cell_limit n || ltb (length s) (512 * blocks_for n)) ≡ true → file_check s ≡ Accepted → A
never-short s en t e =
    let r = accepted-room s e in
    not-both t (rw (en, le-ltb cell_limit (count_of s) r.few, le-ltb (length s) (512 * blocks_for (count_of s)) r.fits) refl)

pub returns-then-file-lt-BLOCK : goal.returns-then-file-lt-BLOCK
returns-then-file-lt-BLOCK c =
    λ e. absurd (omega (arith, c.if-file-lt-BLOCK.true, accepted-whole c.args.file.now e))

pub returns-then-n-file : goal.returns-then-n-file
returns-then-n-file c =
    λ e. never-short c.args.file.now c.get16-n.ensures (rw c.blocks_for.ensures at c.if-n-file.true) e

pub returns : goal.returns
unfolding cells_of
returns c =
    let file = c.args.file.now in
    λ e. c.check_last.ensures ∙ ap (λ (n : ℕ). last_check (cells_at in_file file 0 n)) c.get16-n.ensures
