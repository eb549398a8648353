-- `scanned` meets its contract: a cell more is looked at, beside the cells that its inputs name. Assumes nothing.
use Rattle.std.proofs.Common.{◌+◌, ◌<◌, ◌≤◌, length, length-take, get_or-take, sym, rules, arith}
use Rattle.model.specs.Circuit.{no_cell}
use Rattle.model.specs.NetlistFile.{cell_limit}
use Rattle.netlist.specs.Scans.{Scanned}
use Rattle.exports.proofs.Scanning.{named-there, few-looked}
use Rattle.exports.proofs.scanned.Goals as goal

pub loop-k-preserved : goal.loop-k-preserved
loop-k-preserved c =
    let xs = c.args.cells.now in
    let k = c.loop-k.k in
    let before : k < c.looked.result = omega (arith, simp length-take at c.loop-k-test.true) in
    let few : length xs ≤ cell_limit = few-looked (length xs) _ k c.looked.ensures before in
    let first = named-there xs k _ _ c.input-i.ensures in
    let second = named-there xs k _ _ c.input-j.ensures in
    let more : Scanned xs c.args.finish (k + 1) c.step-scan.result = c.step-scan.ensures xs c.args.finish (record { here = sym (get_or-take c.looked.result xs k no_cell before); first = first; second = second }) (c.loop-k.invariant.found few) in
    record { count = more.count; end = more.end; found = λ _. more }

pub returns : goal.returns
returns c = search rules
