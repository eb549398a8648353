-- The value of an expression by its node's kind; the nodes after it fall.
use native.Mathlib.Omega.{arith}
use Rattle.program.specs.Ends.{past-later}
use Rattle.rules.proofs.Nodes.{eval-none, eval-stmt, eval-const, eval-var, eval-compl, eval-elem, eval-op}
use Rattle.rules.proofs.statements.Interpreter.+eval_at.Goals as goal

pub returns-then-count-i : goal.returns-then-count-i
returns-then-count-i t c = eval-none _ _ _ c.if-count-i.true

pub returns-then-kind-ge16 : goal.returns-then-kind-ge16
returns-then-kind-ge16 t c =
    let if1 = c.if-count-i in
    eval-stmt _ _ _ if1.false _ c.read_node-node.ensures c.if-kind-ge16.true

pub returns-then-kind-eq1 : goal.returns-then-kind-eq1
returns-then-kind-eq1 t c =
    let if1 = c.if-count-i in
    let read-node = c.read_node-node in
    eval-const _ _ _ if1.false _ read-node.ensures c.if-kind-eq1.true

pub returns-then-kind-eq2 : goal.returns-then-kind-eq2
returns-then-kind-eq2 t c =
    let if1 = c.if-count-i in
    let read-node = c.read_node-node in
    eval-var _ _ _ if1.false _ read-node.ensures c.if-kind-eq2.true _ c.word_of.ensures

pub returns-then-kind-eq3 : goal.returns-then-kind-eq3
returns-then-kind-eq3 t c =
    let if1 = c.if-count-i in
    let read-node = c.read_node-node in
    let eval-at = c.eval_at-first in
    eval-compl _ _ _ if1.false _ read-node.ensures c.if-kind-eq3.true _ _ eval-at.ensures c.operate.ensures

pub returns-then-kind-eq10 : goal.returns-then-kind-eq10
returns-then-kind-eq10 t c =
    let if1 = c.if-count-i in
    let read-node = c.read_node-node in
    let eval-at = c.eval_at-first in
    let if6 = c.if-kind-eq10 in
    eval-elem _ _ _ if1.false _ read-node.ensures if6.true _ _ _ eval-at.ensures c.element_word.ensures c.word_of-then-kind-eq10.ensures

pub eval_at-second-requires : goal.eval_at-second-requires
eval_at-second-requires t c =
    let pre = c.requires in
    (omega (arith, past-later _ _ _ (pre.each _) _ c.next.ensures), pre)

pub returns : goal.returns
returns t c =
    let if1 = c.if-count-i in
    let read-node = c.read_node-node in
    let eval-at = c.eval_at-first in
    let pre = c.requires in
    let if3 = c.if-kind-eq1 in
    let if4 = c.if-kind-eq2 in
    let if5 = c.if-kind-eq3 in
    let if6 = c.if-kind-eq10 in
    let next = c.next in
    eval-op _ _ _ (record { laid = pre; here = if1.false; node = read-node.ensures; next = next.ensures })
    (omega arith) if3.false if4.false if5.false if6.false _ _ _ eval-at.ensures c.eval_at-second.ensures c.operate-2.ensures
