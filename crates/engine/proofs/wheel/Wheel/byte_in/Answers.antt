-- `byte_in` meets its contract: the first i inputs of the byte are in the wheel. Assumes nothing.
use Rattle.std.proofs.Common.{◌≡◌, ℕ, ◌+◌, ◌*◌, ◌/◌, ◌%◌, ◌^◌, ◌<◌, ◌∙◌, List, get_or, refl, arith}
use Rattle.engine_laws.specs.Lines.{input_at, lined-zero, lined-one}
use Rattle.engine.proofs.wheel.Wheel.byte_in.Goals as goal
use Rattle.engine.proofs.wheel.Wheel.byte_in.Goals.{then-byte-i-eq1, else-byte-i-eq1}

-- input i of byte k
input_of : (s : List ℕ) (at k i : ℕ) {byte : ℕ} → i < 8 → get_or s (at + k) 0 ≡ byte → input_at s at (8 * k + i) ≡ byte / 2 ^ i % 2
input_of s at k i l e =
    let q : (8 * k + i) / 8 ≡ k = omega arith in
    let m : (8 * k + i) % 8 ≡ i = omega arith in
    rw (q, m, e) refl

pub loop-i-preserved : goal.loop-i-preserved
loop-i-preserved c =
    let a = c.args in
    let wheel = c.loop-i.self in
    let i = c.loop-i.i in
    let known = c.loop-i.invariant in
    let x = 8 * a.k + i in
    let width = a.self.now.width in
    let z : 8 * a.k + (i + 1) ≡ x + 1 = omega arith in
    let l : x < 256 = omega (arith, c.requires.2, c.loop-i-test.true) in
    elim c.if-byte-i-eq1.branch [
      | then-byte-i-eq1 w ↦
          let e = w.enter.ensures in
          let rows = rw known.1.6 at e.rows in
          rw w.self-is (
            λ s at first tag f L.
                let M = known.0 s at first tag f L in
                rw (z, rows, e.tag)
                (lined-one s at a.d width a.r x first tag wheel.rows.now wheel.tag.now M c.requires.5 (omega (arith, known.1.3, c.requires.0.0)) (omega (arith, known.1.4, c.requires.0.2))
                l c.requires.4 (omega arith) c.requires.3 (input_of s at a.k i c.loop-i-test.true f ∙ w.if-byte-i-eq1.true)),
            (e.lists.0 ∙ known.1.0, e.lists.1 ∙ known.1.1, e.lists.2 ∙ known.1.2, e.lists.3 ∙ known.1.3, e.lists.4 ∙ known.1.4, e.lists.5 ∙ known.1.5, e.lists.6 ∙ known.1.6),
          )
      | else-byte-i-eq1 w ↦
          rw w.self-is (
            λ s at first tag f L.
                rw z
                (lined-zero s at a.d width a.r x first tag wheel.rows.now wheel.tag.now (known.0 s at first tag f L)
                (input_of s at a.k i c.loop-i-test.true f ∙ omega (arith, w.if-byte-i-eq1.false)) l),
            known.1,
          )
    ]
