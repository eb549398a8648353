-- `enter` meets its contract: the row that is opened is as long as it was. Assumes nothing.
use Rattle.std.proofs.Common.{◌+◌, ◌*◌, ◌/◌, ◌%◌, ◌<◌, ◌≤◌, length, ap, arith}
use Rattle.engine_laws.specs.Wheel.{length-opened}
use Rattle.engine.proofs.wheel.Wheel.enter.Goals as goal

pub put-requires-2 : goal.put-requires-2
put-requires-2 c =
    let a = c.args in
    let old = a.self.now in
    let long : 2048 ≤ length c.open_row.new.self.rows.now =
    omega (arith, c.requires.0.0, ap length c.open_row.ensures.rows, length-opened old.rows.now old.tag.now old.width a.w) in
    let h : (256 * (a.w % 512) + a.r) / 64 < length c.open_row.new.self.rows.now = omega (arith, long, c.requires.2) in
    h
