use Rattle.bus_world.proofs.OffersAtWork.{accepted_work_sound}
use Rattle.bus_world.proofs.world.World.offer.Goals as goal

pub invariant_of-self-in_default : goal.invariant_of-self-in_default
invariant_of-self-in_default c =
    accepted_work_sound c.self.inside.driver c.self.inside.mem c.self.inside.bus.bus c.args.cmd.now _ _ _ (rw (← c.self.view_is) at c.requires.room)
    c.self.invariant c.in_default.ensures.accepted c.offer.ensures.stands
