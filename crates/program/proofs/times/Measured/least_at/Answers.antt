-- The least delay of a node, by its kind.
use mathlib.Core.Path.{◌∙◌, ap}
use Prim.Native.Nat.{ℕ, max}
use Rattle.model.specs.Program.{time_in}
use Rattle.program.specs.Ends.{past-trees}
use Rattle.program.specs.Times.{least-low, least-tick, least-seq, least-par, least-again, least-exit, least-if, least-assign, least-elem, least_other}
use Rattle.program.proofs.times.Measured.least_at.Goals as goal

pub returns-then-kind-le16 : goal.returns-then-kind-le16
returns-then-kind-le16 c =
    let τ = time_in c.args.self.now.operators.now in
    least-low τ _ _ _ c.requires.0 _ c.read_node-node.ensures c.if-kind-le16.true

pub returns-then-kind-eq17 : goal.returns-then-kind-eq17
returns-then-kind-eq17 c =
    let τ = time_in c.args.self.now.operators.now in
    least-tick τ _ _ _ c.requires.0 _ c.read_node-node.ensures c.if-kind-eq17.true

pub returns-then-kind-eq19 : goal.returns-then-kind-eq19
returns-then-kind-eq19 c =
    let τ = time_in c.args.self.now.operators.now in
    least-seq τ _ _ _ c.requires.0 _ c.read_node-node.ensures c.if-kind-eq19.true

pub returns-then-kind-eq20 : goal.returns-then-kind-eq20
returns-then-kind-eq20 c =
    let τ = time_in c.args.self.now.operators.now in
    least-par τ _ _ _ c.requires.0 _ c.read_node-node.ensures c.if-kind-eq20.true

pub returns-then-kind : goal.returns-then-kind
returns-then-kind c =
    let τ = time_in c.args.self.now.operators.now in
    c.gap.ensures
    ∙ least-again τ _ _ _ c.requires.0 _ c.read_node-node.ensures c.if-kind.true

pub returns-then-kind-eq26 : goal.returns-then-kind-eq26
returns-then-kind-eq26 c =
    let τ = time_in c.args.self.now.operators.now in
    least-exit τ _ _ _ c.requires.0 _ c.read_node-node.ensures c.if-kind-eq26.true

pub known_time-time-requires : goal.known_time-time-requires
known_time-time-requires c =
    let pre = c.requires in
    λ l. (pre.1 _ l).timed

pub returns-then-kind-eq21 : goal.returns-then-kind-eq21
returns-then-kind-eq21 c =
    let τ = time_in c.args.self.now.operators.now in
    least-if τ _ _ _ c.requires.0 _ c.read_node-node.ensures _ c.known_time-time.ensures c.if-kind-eq21.true

pub known_time-second-requires : goal.known_time-second-requires
known_time-second-requires c =
    let pre = c.requires in
    λ l. (pre.1 _ l).timed

pub returns-then-kind-eq24 : goal.returns-then-kind-eq24
returns-then-kind-eq24 c =
    let pre = c.requires in
    let τ = time_in c.args.self.now.operators.now in
    c.max-then-kind-eq24.ensures ∙ ap (max 1) c.max.ensures
    ∙ least-elem τ _ _ _ pre.0 _ c.read_node-node.ensures _ c.known_time-time.ensures c.if-kind-eq24.true _
    (past-trees _ _ _ (λ l. (pre.1 _ l).end) _ c.next.ensures) _ c.known_time-second.ensures

pub returns-then-kind-eq18 : goal.returns-then-kind-eq18
returns-then-kind-eq18 c =
    let start = c in
    let τ = time_in start.args.self.now.operators.now in
    let node = c.read_node-node in
    c.max-then-kind-eq18.ensures ∙ least-assign τ _ _ _ start.requires.0 _ node.ensures _ c.known_time-time.ensures c.if-kind-eq18.true

pub returns : goal.returns
returns c =
    let start = c in
    let τ = time_in start.args.self.now.operators.now in
    let node = c.read_node-node in
    c.max-2.ensures ∙ ap (λ (n : ℕ). max n c.known_time-time.result) c.gap-2.ensures
    ∙ least_other τ _ _ _ start.requires.0 _ node.ensures _ c.known_time-time.ensures
    c.if-kind-le16.false c.if-kind-eq17.false
    c.if-kind-eq19.false c.if-kind-eq20.false
    c.if-kind.false c.if-kind-eq26.false c.if-kind-eq21.false
    c.if-kind-eq24.false c.if-kind-eq18.false
