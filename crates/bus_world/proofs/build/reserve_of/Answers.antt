use Rattle.std.proofs.Common.{refl}
use Rattle.bus_world.proofs.Rooming.{rooms_begin}
use Rattle.bus_world.proofs.build.reserve_of.Goals as goal

pub loop-entry-init : goal.loop-entry-init
loop-entry-init c = rooms_begin c.args.lines.now c.args.lines.now refl
