-- `ones` meets its contract: the sum so far is the ones of whole bytes. Assumes nothing.
use Rattle.std.proofs.Common.{◌≡◌, ℕ, ◌<◌, List, length, get_or, take, drop, ◌+◌, ◌-◌, ◌/◌, refl, arith}
use Rattle.std.proofs.lemmas.List.{length-take, length-drop, get_or-take, get_or-drop}
use Rattle.model.specs.State.{ones}
use Rattle.state.proofs.Counting.{byte-few, byte-more, rest-more}
use Rattle.state.proofs.flight.ones.Goals as goal

-- byte i of the n from place p on
byte-in : (s : List ℕ) (p n i : ℕ) → i < length (take (p + n - p) (drop p s)) → get_or (take (p + n - p) (drop p s)) i 0 ≡ get_or s (p + i) 0
byte-in s p n i h =
    let few : i < p + n - p = omega (arith, length-take (p + n - p) (drop p s)) in
    rw (get_or-take (p + n - p) (drop p s) i 0 few, get_or-drop p s i 0) refl

pub loop-byte-init : goal.loop-byte-init
unfolding ones
loop-byte-init c = (omega arith, refl)

pub loop-byte-preserved : goal.loop-byte-preserved
loop-byte-preserved c =
    let args = c.args in
    let loop = c.loop-byte in
    let i = loop.byte-index in
    let at = c.base-at.result + 8 + i in
    let b = get_or args.s.now at 0 in
    let range : b < 256 = omega (arith, c.type_inv.s at) in
    rw (byte-in args.s.now (c.base-at.result + 8) c.from-whole.result i c.loop-byte-test.true)
    (omega (arith, loop.invariant.0, byte-few b range), rw c.base-at.ensures (byte-more args.s.now args.k args.d i loop.invariant.1 (rw c.base-at.ensures at range)))

pub returns : goal.returns
returns c =
    let args = c.args in
    let loop = c.loop-byte in
    let pre = c.requires in
    let end = length-take (c.base-at.result + 8 + c.from-whole.result - (c.base-at.result + 8)) (drop (c.base-at.result + 8) args.s.now) in
    let e : loop.byte-index ≡ args.d / 8 = omega (arith, c.from-whole.ensures, c.base-at.ensures, end, length-drop (c.base-at.result + 8) args.s.now, pre.room, c.loop-byte-test.false, loop.auto.byte-index-end) in
    rw (c.base-at.ensures, c.from-whole.ensures) (rest-more args.s.now args.k args.d (args.d / 8) (rw e at loop.invariant.1) (omega arith) (omega arith))
