-- What is known of the endpoints that have left stays known, along everything that happens (EHCI 1.0, 4.8.2; USB 2.0, 5.8 and 8.6).
--     NewWorldLeft            none has left a new world
--     OpensNamed cmd          an endpoint that the command opens has a name of its type
--     ControllerKeepsLeft     an event of the controller moves nothing of them
--     CommandKeepsLeft        a command, accepted or refused
--     RowKeepsLeft            each row of the driver but the two by which endpoints leave and are given back
--     ClearKeepsLeft          where Async Advance is cleared, what was moved of the bulk endpoints that have left then begins their packets, or what their devices took
--     ReleaseKeepsLeft        where a bulk endpoint is given back, so does what its lines tell
use Rattle.std.specs.Prelude.{◌≡◌, ◌≢◌, ℕ, Bool}
use Rattle.usb_base.specs.declared.commands.Cmd.{Cmd}
use Rattle.usb_base.specs.declared.commands.Cmd.TheVariants as commands
use Rattle.script_types.specs.declared.scripts.Script.{Script}
use Rattle.script_fits.specs.Fits.{IsFit}
use Rattle.bus_wire.specs.Bus.{Fixed, fixed_of}
use Rattle.drv_table.specs.Offers.{IsOffered}
use Rattle.drv_table.specs.declared.rows.DriverRow.TheVariants as rows
use Rattle.drv_table.specs.Rows.{driver_row}
use Rattle.law_driver.specs.AsynchronousScripts.{OpensAsynchronous}
use Rattle.law_driver_ring.specs.walk_members.Reached.{OpensNumbered}
use Rattle.law_queues.specs.leaving_drivers.Told.{AreNamedOnce}
use Rattle.law_queues.specs.reached_rings.Reaching.{IsReachedIn}
use Rattle.law_queues.specs.open_laws.Opens.{AreNamesApart}
use Rattle.law_queues.specs.harvest_laws.Told.{ToldStands}
use Rattle.bus_world.specs.World.{World, driver_parts, driver_next, controller_next, commanded}
use Rattle.bus_world.specs.Opening.{opening_world}
use Rattle.law_world.specs.steps.Streaming.{Streams, Standing, HearsBytesNow}
use Rattle.law_world.specs.steps.Takers.{takes_of}
use Rattle.law_devices.specs.declared_controls.Names.{IsNameOf}
use Rattle.law_world.specs.streams.shared_worlds.Working.{at_opening}
use Rattle.law_world.specs.streams.Feeding.{streams_of, IsFeeding, GoesOnBeside}
use Rattle.law_world.specs.streams.Taking.{IsTaking}
use Rattle.law_world.specs.streams.Left.{IsLeft, taking_of, after_event}

abbrev pub NewWorldLeft : Type 0
NewWorldLeft = (s : Script) → IsFit s → IsLeft (fixed_of s) (takes_of s) (streams_of s).packets at_opening.acc (opening_world s)

abbrev pub ControllerKeepsLeft : Type 0
ControllerKeepsLeft = (fixed : Fixed) (takes : ℕ → ℕ → Bool) (member : ℕ → Bool) (x : Streams) (s : Standing) (w : World) → HearsBytesNow fixed w → IsFeeding fixed member x s w
    → IsTaking fixed takes member x s w → (g : GoesOnBeside fixed member x s w) → IsLeft fixed takes x.packets s.acc w
    → IsLeft fixed takes x.packets (after_event g).acc (controller_next fixed w)

abbrev pub OpensNamed : Cmd → Type 0
OpensNamed (commands.OpenEp x) = IsNameOf x.kind x.name
OpensNamed _ = Unit {0}

abbrev pub CommandKeepsLeft : Type 0
CommandKeepsLeft = (fixed : Fixed) (takes : ℕ → ℕ → Bool) (member : ℕ → Bool) (x : Streams) (s : Standing) (w : World) (line : ℕ) (cmd : Cmd) → OpensAsynchronous cmd → OpensNumbered cmd
    → OpensNamed cmd → IsOffered w.driver.room cmd → IsFeeding fixed member x s w → IsLeft fixed takes x.packets s.acc w → IsLeft fixed takes x.packets s.acc (commanded w line cmd)

-- no two endpoints have one name: a line of another one of the same name would be told of one that was given back
abbrev pub RowKeepsLeft : Type 0
RowKeepsLeft = (fixed : Fixed) (takes : ℕ → ℕ → Bool) (member : ℕ → Bool) (x : Streams) (s : Standing) (w : World) → driver_row (driver_parts w) ≢ rows.ClearAdvance
    → ((e : ℕ) → driver_row (driver_parts w) ≢ rows.ReleaseEndpoint e) → AreNamedOnce w.driver → IsFeeding fixed member x s w → IsLeft fixed takes x.packets s.acc w
    → IsLeft fixed takes x.packets s.acc (driver_next w)

-- the walk may meet just the queue heads `narrow` then
abbrev pub ClearKeepsLeft : Type 0
ClearKeepsLeft = (fixed : Fixed) (takes : ℕ → ℕ → Bool) (member narrow : ℕ → Bool) (x : Streams) (s : Standing) (w : World) → driver_row (driver_parts w) ≡ rows.ClearAdvance
    → AreNamesApart w.driver → IsReachedIn narrow (driver_next w).driver (driver_next w).registers → IsFeeding fixed member x s w → IsTaking fixed takes member x s w
    → IsLeft fixed takes x.packets s.acc w → IsLeft fixed (taking_of takes (driver_next w).driver) x.packets s.acc (driver_next w)

abbrev pub ReleaseKeepsLeft : Type 0
ReleaseKeepsLeft = (fixed : Fixed) (takes : ℕ → ℕ → Bool) (member : ℕ → Bool) (x : Streams) (s : Standing) (w : World) (e : ℕ) → driver_row (driver_parts w) ≡ rows.ReleaseEndpoint e
    → IsFeeding fixed member x s w → ToldStands w.driver s.hand s.parts s.reported → IsLeft fixed takes x.packets s.acc w → IsLeft fixed takes x.packets s.acc (driver_next w)
