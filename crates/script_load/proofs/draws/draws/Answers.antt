use Rattle.std.proofs.Common.{refl, arith}
use Rattle.std.proofs.lemmas.Grind.{common_steps}
use Rattle.script_load.proofs.Numbers.{next_drawn, all_drawn}
use Rattle.script_load.proofs.draws.draws.Goals as goal

pub loop-draw-preserved : goal.loop-draw-preserved
loop-draw-preserved c = record {
  room = omega (arith, c.loop-draw.invariant.room, c.push_reserved.ensures.capacity);
  many = grind (arith, common_steps);
  drawn = next_drawn c.args.n c.loop-draw.x c.drawn-x.result c.loop-draw._draw _ c.loop-draw.all.items c.push_reserved.new.self.items (omega arith) c.drawn-x.ensures refl c.push_reserved.ensures.items c.loop-draw.invariant.drawn;
}

pub returns : goal.returns
returns c = all_drawn c.args.n c.loop-draw.x c.loop-draw._draw c.loop-draw.all.items (omega arith) c.loop-draw.invariant.drawn
