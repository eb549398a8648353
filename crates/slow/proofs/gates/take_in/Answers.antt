-- `take_in` meets its contract. Assumes nothing.
use mathlib.Core.Path.{sym, ap, ◌∙◌}
use Prim.Native.Nat.{◌+◌, ◌-◌, ◌*◌}
use native.Mathlib.Omega.{arith}
use Rattle.model.specs.declared.Cell.{Cell}
use Rattle.model.specs.NetlistFile.{cell_from}
use Rattle.slow.specs.Ring.{word_in}
use Rattle.slow.proofs.Rings.{leaves_none}
use Rattle.slow.proofs.ByKind.{taken-first, taken-kept, taken-put, taken-leaves}
use Rattle.slow.proofs.gates.take_in.Goals as goal

pub returns-then-t-eq0 : goal.returns-then-t-eq0
returns-then-t-eq0 c =
    let args = c.args in
    let j = (cell_from args.net.now.cells.now (6 * (args.k + 1))).a in
    record { leaves = leaves_none _ _ _ _ _; elements = (λ i li. sym (taken-first args.work.now args.net.now.n args.c j args.t c.if-t-eq0.true i li)) }

pub word_at-w-requires : goal.word_at-w-requires
word_at-w-requires c =
    let pre = c.requires in
    let e = ap (λ (x : Cell). x.a) c.cell_at-next.ensures in
    (omega (arith, e, pre.4, c.args.net.now.few), omega (arith, e, pre.4, pre.5))

pub returns-then-has_fallen : goal.returns-then-has_fallen
returns-then-has_fallen c =
    let args = c.args in
    let pre = c.requires in
    let j = (cell_from args.net.now.cells.now (6 * (args.k + 1))).a in
    let s = args.work.now in
    let w = c.word_at-w.ensures ∙ ap (λ (x : Cell). word_in s x.a (args.t - 1)) c.cell_at-next.ensures in
    let f = sym c.has_fallen.ensures ∙ c.if-has_fallen.true in
    rw (c.put_word.ensures, w, c.word_at-v.ensures) (record {
      leaves = taken-leaves s args.net.now.n args.c j args.t c.if-t-eq0.false f pre.1 (omega (arith, pre.5));
      elements = taken-put s args.net.now.n args.c j args.t c.if-t-eq0.false f pre.1 (omega (arith, pre.5));
    })

pub returns-else-has_fallen : goal.returns-else-has_fallen
returns-else-has_fallen c =
    let args = c.args in
    let j = (cell_from args.net.now.cells.now (6 * (args.k + 1))).a in
    let f = sym c.has_fallen.ensures ∙ c.if-has_fallen.false in
    record { leaves = leaves_none _ _ _ _ _; elements = (λ i li. sym (taken-kept args.work.now args.net.now.n args.c j args.t c.if-t-eq0.false f i li)) }
