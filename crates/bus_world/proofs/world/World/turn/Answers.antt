use Rattle.std.proofs.Common.{◌∙◌}
use Rattle.script_types.specs.declared.scripts.Event.TheVariants as events
use Rattle.bus_world.proofs.WaysAtWork.{event_room}
use Rattle.bus_world.proofs.world.World.turn.Goals as goal

pub returns-clause-room : goal.returns-clause-room
returns-clause-room c =
    event_room c.controller_event.new.self c.driver_event.new.self events.D c.driver_event.ensures
    ∙ event_room c.args.self.now c.controller_event.new.self events.C c.controller_event.ensures.work
