-- A kind's row: the lines of the constant are those of the model's table.
use Rattle.std.proofs.Common.{◌≡◌, ◌∙◌, ap, get_or, map, rules}
use lib.ListN.{get_or-map}
use Rattle.model.specs.declared.kinds.Row.{Row}
use Rattle.model.specs.Program.{kind_table, row_of}
use Rattle.program.specs.declared.kinds.Line.{Line}
use Rattle.program.proofs.kinds.kind_row.Goals as goal

abbrev row : Line → Row
row l = record { sort = l.0; delay = l.1; number = l.2; exprs = l.3; stmts = l.4 }

abbrev line : Row → Line
line r = (r.sort, r.delay, r.number, r.exprs, r.stmts)

pub returns : goal.returns
unfolding row_of
returns c =
    let found : c.unwrap_or-sort.result ≡ get_or (map line kind_table) c.args.kind (line (row_of 0)) = search rules in
    ap row (found ∙ get_or-map line kind_table c.args.kind (row_of 0))
