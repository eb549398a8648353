-- `checks::check_parts` meets its contract, outcome by outcome. Assumes nothing.
use mathlib.Core.Path.{sym, ◌∙◌}
use Rattle.laws.specs.Refusals.Laws.{handed_on}
use Rattle.joiner.specs.Lent.{parts_left}
use Rattle.joiner.proofs.Calling.{own-refuses, number-refuses, nodes-refuse, pulses-refuse, files-decide}
use Rattle.joiner.proofs.checks.check_parts.Goals as goal

pub returns-in_err-check_own : goal.returns-in_err-check_own
returns-in_err-check_own c =
    let args = c.args in
    handed_on _ c.from_residual.ensures.1
    ∙ own-refuses args.options (parts_left args.parts) (sym c.check_own.ensures ∙ c.in_err-check_own.was)

pub returns-then-n : goal.returns-then-n
returns-then-n c =
    let args = c.args in
    let own = sym c.check_own.ensures ∙ c.in_ok-check_own.was in
    number-refuses args.options (parts_left args.parts) own c.number-n.ensures c.if-n.true c.refuse.ensures

pub returns-in_err-check_nodes : goal.returns-in_err-check_nodes
returns-in_err-check_nodes c =
    let args = c.args in
    let own = sym c.check_own.ensures ∙ c.in_ok-check_own.was in
    handed_on _ c.from_residual-in_err-check_nodes.ensures.1
    ∙ nodes-refuse args.options (parts_left args.parts) own c.number-n.ensures c.if-n.false (sym c.check_nodes.ensures ∙ c.in_err-check_nodes.was)

pub returns-in_err-check_pulses : goal.returns-in_err-check_pulses
returns-in_err-check_pulses c =
    let args = c.args in
    let own = sym c.check_own.ensures ∙ c.in_ok-check_own.was in
    let few = sym c.check_nodes.ensures ∙ c.in_ok-check_nodes.was in
    handed_on _ c.from_residual-in_err-check_pulses.ensures.1
    ∙ pulses-refuse args.options (parts_left args.parts) own c.number-n.ensures c.if-n.false few (sym c.check_pulses.ensures ∙ c.in_err-check_pulses.was)

pub check_files-requires : goal.check_files-requires
check_files-requires c = sym c.check_own.ensures ∙ c.in_ok-check_own.was

pub returns : goal.returns
returns c =
    let args = c.args in
    let own = sym c.check_own.ensures ∙ c.in_ok-check_own.was in
    let few = sym c.check_nodes.ensures ∙ c.in_ok-check_nodes.was in
    let alike = sym c.check_pulses.ensures ∙ c.in_ok-check_pulses.was in
    files-decide args.options (parts_left args.parts) own c.number-n.ensures c.if-n.false few alike c.check_files.ensures
