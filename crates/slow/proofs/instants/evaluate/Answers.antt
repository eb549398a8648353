-- `evaluate` meets its contract. Assumes nothing.
use native.Mathlib.Omega.{arith}
use mathlib.Core.Path.{◌≡◌, ap, ◌∙◌}
use Prim.Native.Nat.{ℕ, ◌<◌}
use lib.Dec.{eqb}
use lib.ListN.{get_or}
use Rattle.model.specs.declared.Cell.{Cell}
use Rattle.model.specs.Word.{bit}
use Rattle.model.specs.Circuit.{cell_at, start_word, shape}
use Rattle.model.specs.Calls.{word_at}
use Rattle.laws.specs.Circuit.Shapes.{bit_le}
use Rattle.slow.specs.Ring.{net_of, shown_in, time_at, values_of, Prepared}
use Rattle.slow.proofs.Cells.{truth, net-length, is-cell, sees-read, next-read, memories-next, memories-few}
use Rattle.slow.proofs.Evaluating.{value-right, evaluated}
use Rattle.slow.proofs.instants.evaluate.Goals as goal

pub prepare-requires : goal.prepare-requires
prepare-requires c =
    let start = c in
    let args = start.args in
    let w = start.requires.0 in
    let l = start.requires.2 in
    let e = c.cell_at-c.ensures in (
      l,
      sees-read args.net.now.cells.now args.net.now.n args.k l w.ordered _ e,
      next-read args.net.now.cells.now args.net.now.n args.k l w.ordered _ e,
      w.room,
    )

pub overflow_mul-memory : goal.overflow_mul-memory
overflow_mul-memory c =
    let start = c in
    omega (arith, start.requires.3, memories-few (net_of start.args.net.now.cells.now start.args.net.now.n) start.args.k, start.requires.0.sixteen)

pub get16-first-requires : goal.get16-first-requires
get16-first-requires c =
    let start = c in
    omega (arith, start.requires.3, memories-few (net_of start.args.net.now.cells.now start.args.net.now.n) start.args.k, start.requires.0.sixteen, start.requires.0.starts)

pub next_word-v-requires : goal.next_word-v-requires
next_word-v-requires c =
    let start = c in
    let args = start.args in
    let w = start.requires.0 in
    let l = start.requires.2 in
    let sees = sees-read args.net.now.cells.now args.net.now.n args.k l w.ordered _ c.cell_at-c.ensures in (
      l,
      sees.a,
      sees.b,
      omega (arith, w.room, c.prepare.ensures.leaves.long),
    )

pub overflow_add-result : goal.overflow_add-result
overflow_add-result c =
    let start = c in
    omega (
      arith,
      start.requires.3,
      memories-few (net_of start.args.net.now.cells.now start.args.net.now.n) start.args.k,
      start.requires.0.sixteen,
      c.from.ensures,
      truth (eqb c.cell_at-c.result.kind 40),
      bit_le (eqb c.cell_at-c.result.kind 40),
    )

pub returns : goal.returns
returns c =
    let start = c in
    let args = start.args in
    let w = start.requires.0 in
    let l = start.requires.2 in
    let net = net_of args.net.now.cells.now args.net.now.n in
    let small : (i : ℕ) → get_or args.net.now.times.now i 0 < 256 = args.net.now.short in
    let is : cell_at net args.k ≡ c.cell_at-c.result = is-cell args.net.now.cells.now args.net.now.n args.k l w.ordered _ c.cell_at-c.ensures in
    let s₁ = c.prepare.new.work in
    let p : Prepared args.net.now.cells.now args.net.now.n args.k (cell_at net args.k) args.t args.work.now s₁ = rw is c.prepare.ensures in
    let m = memories-next net args.k (omega (arith, l, net-length args.net.now.cells.now args.net.now.n)) in
    let k40 = ap (λ (x : Cell). bit (eqb x.kind 40)) is in
    let read = c.cell_at-c.result in
    let first-is : c.get16-first.result ≡ start_word net (word_at args.net.now.words.now) args.k =
    c.get16-first.ensures ∙ ap (λ (x : ℕ). word_at args.net.now.words.now x) start.requires.3 in
    let right = rw is at
    (value-right args.net.now.cells.now args.net.now.n args.net.now.ors args.net.now.times.now args.net.now.words.now small w.ordered args.t args.k l args.work.now s₁ start.requires.1 p
    w.room) in
    let value : c.next_word-v.result ≡ values_of args.net.now.cells.now args.net.now.n args.net.now.ors args.net.now.times.now args.net.now.words.now args.k args.t =
    c.next_word-v.ensures
    ∙ ap (λ (x : ℕ). shown_in (shape read.kind) s₁ args.net.now.n args.k read args.t (time_at args.net.now.times.now args.net.now.ors args.k read.kind) x) first-is
    ∙ right in record {
      memory = omega (arith, m, k40, c.from.ensures, truth (eqb c.cell_at-c.result.kind 40), start.requires.3);
      kept = rw c.put_word.ensures
          (evaluated args.net.now.cells.now args.net.now.n args.net.now.ors args.net.now.times.now args.net.now.words.now small w.ordered args.t args.k l args.work.now s₁ start.requires.1 p
          w.room c.next_word-v.result value);
    }
