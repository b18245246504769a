use Rattle.std.proofs.Common.{◌+◌, drop, refl, arith}
use Rattle.bus_world.proofs.WaysAtWork.{way_begins, way_at, way_more, way_overlong}
use Rattle.bus_world.proofs.world.World.lines.Goals as goal

pub loop-entry-init : goal.loop-entry-init
loop-entry-init c = way_begins c.args.self.now c.args.lines.now c.args.lines.now refl c.requires.room c.requires.fits

pub returns-then-not-line-clause-run : goal.returns-then-not-line-clause-run
returns-then-not-line-clause-run c =
    way_overlong c.args.self.now c.loop-entry.self c.line.new.self c.args.lines.now (drop (c.loop-entry.entry-index + 1) c.args.lines.now) c.entry-item.result
    (way_at c.args.self.now c.loop-entry.self c.args.lines.now c.loop-entry.entry-index c.entry-item.result (omega arith) c.entry-item.is c.loop-entry.invariant)
    c.if-not-line.ensures.overlong

pub loop-entry-preserved : goal.loop-entry-preserved
loop-entry-preserved c =
    way_more c.args.self.now c.loop-entry.self c.line.new.self c.args.lines.now (drop (c.loop-entry.entry-index + 1) c.args.lines.now) c.entry-item.result
    (way_at c.args.self.now c.loop-entry.self c.args.lines.now c.loop-entry.entry-index c.entry-item.result (omega arith) c.entry-item.is c.loop-entry.invariant)
    c.line.ensures.fixed c.if-not-line.ensures.done c.line.ensures.room_left
