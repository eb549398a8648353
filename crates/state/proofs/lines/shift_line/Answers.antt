-- `shift_line` meets its contract. What is left of the line, shifted with the carry so far, is the whole line shifted.
-- Assumes nothing.
use Rattle.std.proofs.Common.{◌≡◌, ◌+◌, ◌-◌, ◌<◌, ◌≤◌, ℕ, List, ◌++◌, length, get_or, take, drop, set, sym, refl, ap, ◌∙◌, arith}
use Rattle.std.proofs.lemmas.List.{length-take, length-drop, get_or-append_right, get_or_append_left, set-append_left, set-append_right}
use borrow.Rule.Slice.PartMut.{put_mid, put_same}
use Rattle.laws.specs.State.Bytes.{bit-lt}
use Rattle.state.proofs.Places.{shifted_none, shifted-more}
use Rattle.state.proofs.lines.shift_line.Goals as goal

module _ (s part : List ℕ) (p k i : ℕ) (h : p ≤ length s) (l : i < length part) where
  front : length (take p s) ≡ p
  front = omega (arith, length-take p s)

  -- byte i of the part that stands at p
  byte-there : get_or (put_mid p k s part) (p + i) 0 ≡ get_or part i 0
  byte-there =
      let e : p + i - p ≡ i = omega arith in
      get_or-append_right (take p s) (part ++ drop k (drop p s)) p (p + i) 0 front (omega arith) ∙ rw e (get_or_append_left part (drop k (drop p s)) 0 i l)

  set-there : (v : ℕ) → put_mid p k s (set part i v) ≡ set (put_mid p k s part) (p + i) v
  set-there v =
      let e : p + i - p ≡ i = omega arith in
      sym (set-append_right (take p s) (part ++ drop k (drop p s)) p (p + i) v front (omega arith) ∙ rw e (ap (λ (r : List ℕ). take p s ++ r) (set-append_left part (drop k (drop p s)) i v l)))

pub loop-byte-init : goal.loop-byte-init
loop-byte-init c =
    let e : c.args.at + 8 + 0 ≡ c.args.at + 8 = omega arith in
    rw c.bit-carry.ensures (bit-lt c.args.input, rw (e, put_same (c.args.at + 8) (c.args.at + 8 + 32 - (c.args.at + 8)) c.args.state.now) refl)

pub overflow_add-v : goal.overflow_add-v
overflow_add-v c = omega arith

pub loop-byte-preserved : goal.loop-byte-preserved
loop-byte-preserved c =
    let args = c.args in
    let loop = c.loop-byte in
    let p = args.at + 8 in
    let i = loop.byte-index in
    let k = p + 32 - p in
    let s = put_mid p k args.state.now loop.byte-items in
    let front : p ≤ length args.state.now = omega (arith, c.requires) in
    let inside : i < length loop.byte-items = omega (arith, loop.auto.byte-items, c.loop-byte-test.true) in
    let few : i < 32 = omega (arith, length-take k (drop p args.state.now), c.loop-byte-test.true) in
    let m : 32 - (i + 1) ≡ 32 - i - 1 = omega arith in
    let e : p + (i + 1) ≡ p + i + 1 = omega arith in
    let read : get_or loop.byte-items i 0 ≡ get_or s (p + i) 0 = sym (byte-there args.state.now loop.byte-items p k i front inside) in
    (omega arith, rw (set-there args.state.now loop.byte-items p k i front inside _, c.from.ensures, read, m, e) (sym (shifted-more (32 - i) s (p + i) loop.carry (omega arith)) ∙ loop.invariant.1))

pub returns : goal.returns
returns c =
    let args = c.args in
    let loop = c.loop-byte in
    let p = args.at + 8 in
    let end : 32 ≤ loop.byte-index = omega (arith, length-take (p + 32 - p) (drop p args.state.now), length-drop p args.state.now, c.requires, c.loop-byte-test.false) in
    sym (shifted_none (32 - loop.byte-index) (put_mid p (p + 32 - p) args.state.now loop.byte-items) (p + loop.byte-index) loop.carry (omega arith)) ∙ loop.invariant.1
