use Rattle.std.proofs.Common.{◌∙◌, ◌-◌, ◌+◌, refl, arith}
use Rattle.bus_world.specs.Orders.{Microframes}
use Rattle.bus_world.proofs.TicksAtWork.{gone_begins, microframe_more, microframes_done, microframes_overlong}
use Rattle.bus_world.proofs.world.World.microframes.Goals as goal

pub loop-microframe-init : goal.loop-microframe-init
loop-microframe-init c = record { fixed = refl; room = refl; gone = gone_begins c.args.self.now Microframes c.args.count (c.args.count - 0) (omega arith) }

pub loop-microframe-preserved : goal.loop-microframe-preserved
loop-microframe-preserved c = record {
  fixed = c.microframe.ensures.fixed ∙ c.loop-microframe.invariant.fixed;
  room = c.microframe.ensures.room ∙ c.loop-microframe.invariant.room;
  gone =
      microframe_more c.args.self.now c.loop-microframe.self c.microframe.new.self c.args.count (c.args.count - c.loop-microframe._microframe) (c.args.count - (c.loop-microframe._microframe + 1))
      (omega arith) c.loop-microframe.invariant.fixed c.if-not-microframe.ensures.ended c.loop-microframe.invariant.gone;
}

pub returns-then-not-microframe-clause-overlong : goal.returns-then-not-microframe-clause-overlong
returns-then-not-microframe-clause-overlong c =
    microframes_overlong c.args.self.now c.loop-microframe.self c.microframe.new.self c.args.count (c.args.count - c.loop-microframe._microframe) (c.args.count - (c.loop-microframe._microframe + 1))
    (omega arith) c.loop-microframe.invariant.fixed c.if-not-microframe.ensures.unended c.loop-microframe.invariant.gone

pub returns-clause-done : goal.returns-clause-done
returns-clause-done c = microframes_done c.args.self.now c.loop-microframe.self c.args.count (c.args.count - c.loop-microframe._microframe) (omega arith) c.loop-microframe.invariant.gone
