-- `check_file` meets its contract. Assumes nothing.
use Rattle.std.proofs.Common.{◌≡◌, Bool, ◌||◌, sym, ◌∙◌, ap₂, arith}
use Rattle.std.proofs.lemmas.Result.{err_from_is_err_and}
use Rattle.laws.specs.NetlistFile.Passed.{pulse-right}
use Rattle.model.specs.NetlistFile.{file_length_wrong}
use Rattle.netlist.proofs.FileChecks.{length-refused, sums-refused, count-refused, headers-refused, cells-decide, neither, whole-file, counted, counted-room}
use Rattle.netlist.proofs.check_file.Goals as goal

-- the two tests of block 0
wrong-is : {x y a b : Bool} → x ≡ a → y ≡ b → (a || b) ≡ (x || y)
wrong-is e d = ap₂ ◌||◌ (sym e) (sym d)

pub returns-then-size : goal.returns-then-size
unfolding file_length_wrong
returns-then-size c = c.refuse.ensures ∙ length-refused c.args.file.now c.if-size.true

pub returns-in_err-check_sums : goal.returns-in_err-check_sums
unfolding file_length_wrong
returns-in_err-check_sums c =
    let p = err_from_is_err_and c.from_residual.result c.from_residual.ensures.1 in
    rw (p.1, p.2) (sums-refused c.args.file.now c.if-size.false (sym c.in_err-check_sums.ensures))

pub returns-then-count_wrong-pulse_wrong : goal.returns-then-count_wrong-pulse_wrong
unfolding file_length_wrong
returns-then-count_wrong-pulse_wrong c =
    let args = c.args in
    let if1 = c.if-size in
    let s = args.file.now in
    let sums-right = sym c.in_ok-check_sums.ensures in
    c.refuse-then-count_wrong-pulse_wrong.ensures ∙ count-refused s if1.false sums-right c.get16-count.ensures c.get16-finish.ensures
    c.pulse_of-pulse.ensures
    (wrong-is c.count_wrong.ensures c.pulse_wrong.ensures ∙ c.if-count_wrong-pulse_wrong.true)

pub check_headers-requires : goal.check_headers-requires
unfolding file_length_wrong
check_headers-requires c =
    let both = neither _ _ (wrong-is c.count_wrong.ensures c.pulse_wrong.ensures ∙ c.if-count_wrong-pulse_wrong.false) in
    let right = counted _ _ _ both.0 in
    let pulse = pulse-right _ both.1 in
    (omega arith, right.high, right.blocks, c.get16-count.ensures, c.get16-finish.ensures, c.pulse_of-pulse.ensures, omega (arith, pulse.1))

pub returns-in_err-check_headers : goal.returns-in_err-check_headers
unfolding file_length_wrong
returns-in_err-check_headers c =
    let p = err_from_is_err_and c.from_residual-in_err-check_headers.result c.from_residual-in_err-check_headers.ensures.1 in
    rw (p.1, p.2)
    (headers-refused c.args.file.now c.if-size.false (sym c.in_ok-check_sums.ensures) c.get16-count.ensures c.get16-finish.ensures c.pulse_of-pulse.ensures
    (wrong-is c.count_wrong.ensures c.pulse_wrong.ensures ∙ c.if-count_wrong-pulse_wrong.false)
    (sym c.in_err-check_headers.ensures))

pub check_cells-requires : goal.check_cells-requires
unfolding file_length_wrong
check_cells-requires c =
    let args = c.args in
    let if1 = c.if-size in
    counted-room (whole-file args.file.now if1.false)
    (counted _ _ _ (neither _ _ (wrong-is c.count_wrong.ensures c.pulse_wrong.ensures ∙ c.if-count_wrong-pulse_wrong.false)).0)

pub returns : goal.returns
unfolding file_length_wrong
returns c =
    let args = c.args in
    let count-wrong = c.count_wrong in
    let if1 = c.if-size in
    let get16 = c.get16-count in
    let get162 = c.get16-finish in
    let s = args.file.now in
    let sums-right = sym c.in_ok-check_sums.ensures in
    let pulse-of = c.pulse_of-pulse in
    let pulse-wrong = c.pulse_wrong in
    let count-right = wrong-is count-wrong.ensures pulse-wrong.ensures ∙ c.if-count_wrong-pulse_wrong.false in
    cells-decide s if1.false sums-right get16.ensures get162.ensures pulse-of.ensures count-right
    (sym c.in_ok-check_headers.ensures) c.check_cells.ensures
