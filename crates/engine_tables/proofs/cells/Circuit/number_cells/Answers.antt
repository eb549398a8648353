-- `number_cells` meets its contract: the cells below k are numbered. Assumes nothing.
use Rattle.std.proofs.Common.{List, sym, ◌∙◌, ℕ, ◌<◌, length, get_or, arith}
use Rattle.engine_laws.specs.Decoded.{set_below, below_one, below_other, below-first, Rank, ranks-other, delays-none, delays-more, delays-other}
use Rattle.engine_tables.proofs.cells.Circuit.number_cells.Goals as goal
use Rattle.engine_tables.proofs.cells.Circuit.number_cells.Goals.{in-34+else-count-eq-DELAYS, in-40, in-42, in_default}

abbrev at : List ℕ → ℕ → ℕ
at s k = get_or s k 0

pub loop-k-init : goal.loop-k-init
loop-k-init c = (λ k l. absurd (omega arith), delays-none _ _, sym (below-first 40 (at c.args.self.now.kind.now)), omega arith, omega arith)

pub loop-k-preserved : goal.loop-k-preserved
loop-k-preserved c =
    let args = c.args in
    let K = at args.self.now.kind.now in
    let D = at args.self.now.delay.now in
    let loop = c.loop-k in
    let room : loop.k < length loop.rank = omega arith in
    elim c.match-x.branch [
      | in-34+else-count-eq-DELAYS w ↦
          let here = w.in-34.is in
          rw (w.rank-is, w.delays-is, w.count-is, w.memories-is) (
            set_below (Rank K D) loop.rank loop.k loop.count room loop.invariant.0
                (λ e. loop.invariant.1.number, λ e f. absurd (omega (arith, e, here)), λ e f. absurd (omega (arith, e, here))),
            delays-more K loop.k loop.delays loop.count here (omega arith) loop.invariant.1,
            loop.invariant.2 ∙ sym (below_other 40 K loop.k (λ e. omega (arith, e, here))),
            omega arith,
            omega arith,
          )
      | in-40 w ↦
          let here = w.in-40.is in
          rw (w.rank-is, w.delays-is, w.count-is, w.memories-is) (
            set_below (Rank K D) loop.rank loop.k _ room loop.invariant.0
                (λ e. absurd (omega (arith, e, here)), λ e f. omega (arith, f, loop.invariant.2), λ e f. absurd (omega (arith, e, here))),
            delays-other K loop.k loop.delays loop.count (λ e. omega (arith, e, here)) loop.invariant.1,
            omega (arith, loop.invariant.2, below_one 40 K loop.k here),
            omega arith,
            omega arith,
          )
      | in-42 w ↦
          let here = w.in-42.is in
          rw (w.rank-is, w.delays-is, w.count-is, w.memories-is) (
            set_below (Rank K D) loop.rank loop.k _ room loop.invariant.0
                (λ e. absurd (omega (arith, e, here)), λ e f. absurd (omega (arith, e, here)), λ e f. omega (arith, f)),
            delays-other K loop.k loop.delays loop.count (λ e. omega (arith, e, here)) loop.invariant.1,
            loop.invariant.2 ∙ sym (below_other 40 K loop.k (λ e. omega (arith, e, here))),
            omega arith,
            omega arith,
          )
      | in_default w ↦
          rw (w.rank-is, w.delays-is, w.count-is, w.memories-is) (
            ranks-other K D loop.rank loop.k (λ e. omega (arith, e)) (λ e. omega (arith, e)) (λ e. omega (arith, e)) loop.invariant.0,
            delays-other K loop.k loop.delays loop.count (λ e. omega (arith, e)) loop.invariant.1,
            loop.invariant.2 ∙ sym (below_other 40 K loop.k (λ e. omega (arith, e))),
            omega arith,
            omega arith,
          )
    ]
