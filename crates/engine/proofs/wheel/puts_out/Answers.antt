-- `puts_out` meets its contract. Assumes nothing.
use Rattle.std.proofs.Common.{sym, ◌∙◌, ap, ℕ, eqb}
use Rattle.engine_laws.specs.Wheel.{puts-there, puts_none}
use Rattle.engine.proofs.wheel.puts_out.Goals as goal

pub returns-then-tag-q : goal.returns-then-tag-q
returns-then-tag-q c =
    let a = c.args in
    sym (ap (λ (x : ℕ). eqb x 1) (puts_none a.wheel.now a.tag.now a.w a.r (λ e. absurd (c.if-tag-q.true e))))

pub returns : goal.returns
returns c =
    let a = c.args in
    c.has.ensures ∙ sym (ap (λ (x : ℕ). eqb x 1) (puts-there a.wheel.now a.tag.now a.w a.r c.if-tag-q.false))
