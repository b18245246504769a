use Rattle.std.proofs.Common.{◌∙◌, ap, refl, arith}
use Rattle.bus_world.specs.AtWork.{StandingAtWork}
use Rattle.bus_world.proofs.TicksAtWork.{still_more, still_begins, microframe_ends, is_unended}
use Rattle.bus_world.proofs.world.World.microframe.Goals as goal

pub loop-turn-init : goal.loop-turn-init
loop-turn-init c = record { fixed = refl; room = refl; still = still_begins c.args.self.now }

pub loop-turn-preserved : goal.loop-turn-preserved
loop-turn-preserved c = record {
  fixed = ap (λ (s : StandingAtWork). s.fixed) c.turn.ensures.work ∙ c.loop-turn.invariant.fixed;
  room = c.turn.ensures.room ∙ c.loop-turn.invariant.room;
  still = still_more c.args.self.now c.loop-turn.self c.turn.new.self c.loop-turn._turn c.turn.result c.turn.ensures.ended c.turn.ensures.work c.loop-turn.invariant.fixed
      c.loop-turn.invariant.still c.if-turn.false;
}

pub returns-then-turn-clause-fixed : goal.returns-then-turn-clause-fixed
returns-then-turn-clause-fixed c = ap (λ (s : StandingAtWork). s.fixed) c.turn.ensures.work ∙ c.loop-turn.invariant.fixed

pub returns-then-turn-clause-ended : goal.returns-then-turn-clause-ended
returns-then-turn-clause-ended c =
    microframe_ends c.args.self.now c.loop-turn.self c.turn.new.self c.loop-turn._turn c.turn.result c.turn.ensures.ended c.turn.ensures.work c.loop-turn.invariant.fixed
    c.loop-turn.invariant.still c.if-turn.true

pub returns-clause-unended : goal.returns-clause-unended
returns-clause-unended c = is_unended c.args.self.now c.loop-turn.self c.loop-turn._turn (omega arith) c.loop-turn.invariant.still
