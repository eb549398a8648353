-- The loop's invariant: so many subtrees from the first node end where those that are left do.
use Rattle.std.proofs.Common.{◌≡◌, refl, sym, ◌∙◌, arith, ℕ, ◌-◌, ◌+◌, ap}
use Rattle.model.specs.Program.{node_count}
use Rattle.program.specs.Ends.{skips, skip-next, skip-end}
use Rattle.program.proofs.nodes.Tree.skip.Goals as goal

pub loop-init : goal.loop-init
loop-init c = let e : c.args.trees - 0 ≡ c.args.trees = omega arith in rw e refl

pub loop-preserved : goal.loop-preserved
loop-preserved c =
    let e : c.args.trees - c.loop.counter - 1 ≡ c.args.trees - (c.loop.counter + 1) = omega arith in
    c.loop.invariant ∙ skip-next _ _ _ _ _ (omega (arith, c.loop-test.true)) c.next-at.ensures ∙ ap (λ (n : ℕ). skips c.args.self.now.ends.now (node_count c.args.self.now.program.now) n c.next-at.result) e

pub returns : goal.returns
returns c = skip-end _ _ _ _ (omega (arith, c.loop-test.false)) ∙ sym c.loop.invariant
