-- Where the walk of a world's ring may stand (EHCI 1.0, 4.6, 4.8 and 4.8.2), along every event of the world and every command.
--     NewWorldWalks                the law: the world of every script begins so
--     ControllerKeepsWalking       the law: each event of the controller of a world with everything in place leaves it so
--     DriverKeepsWalking           the law: so does each event of the driver
--     CommandKeepsWalking          the law: and a command, whether it is accepted or refused
use Rattle.std.specs.Prelude.{ℕ}
use Rattle.usb_base.specs.declared.commands.Cmd.{Cmd}
use Rattle.script_types.specs.declared.scripts.Script.{Script}
use Rattle.bus_wire.specs.Bus.{Fixed}
use Rattle.law_driver_ring.specs.walk_members.Reached.{OpensNumbered}
use Rattle.bus_world.specs.World.{World, driver_next, controller_next, commanded}
use Rattle.bus_world.specs.Opening.{opening_world}
use Rattle.law_world.specs.steps.worlds_in_place.Placed.{IsPlacedWorld}
use Rattle.claims_world.specs.Memory.{IsWalking}

abbrev pub NewWorldWalks : Type 0
NewWorldWalks = (s : Script) → IsWalking (opening_world s)

abbrev pub ControllerKeepsWalking : Type 0
ControllerKeepsWalking = (fixed : Fixed) (w : World) → IsPlacedWorld w → IsWalking w → IsWalking (controller_next fixed w)

abbrev pub DriverKeepsWalking : Type 0
DriverKeepsWalking = (w : World) → IsWalking w → IsWalking (driver_next w)

abbrev pub CommandKeepsWalking : Type 0
CommandKeepsWalking = (w : World) (line : ℕ) (cmd : Cmd) → OpensNumbered cmd → IsWalking w → IsWalking (commanded w line cmd)
