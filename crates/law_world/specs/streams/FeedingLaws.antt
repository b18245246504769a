-- Laws of worlds whose endpoints are bulk and control ones (EHCI 1.0, 3.5, 4.6, 4.8 and 4.10; USB 2.0, 5.5 and 5.8).
--     NewWorldFeeds          the world at the opening
--     ControllerFeeds        an event of the controller leaves its queues fed
--     OpensApart stream w cmd    a control endpoint that the command opens has no stream
--     CommandFeeds           so does a command
--     is_still, StillFeeds   so does a row that stores nothing and reads no token
--     StoreFeeds             so does a store of a word of a transfer's first qTD
use Rattle.std.specs.Prelude.{◌≡◌, ℕ, ◌≤◌, Bool, true, false, List, Some, Ok}
use Rattle.usb_base.specs.declared.commands.Cmd.{Cmd}
use Rattle.usb_base.specs.declared.commands.Cmd.TheVariants as commands
use Rattle.usb_base.specs.declared.packets.Way.TheVariants as ways
use Rattle.script_types.specs.declared.scripts.Script.{Script}
use Rattle.script_fits.specs.Fits.{IsFit}
use Rattle.bus_wire.specs.Bus.{Fixed, fixed_of}
use Rattle.drv_table.specs.Accepting.{Offered}
use Rattle.drv_table.specs.Offers.{offered, IsOffered}
use Rattle.drv_table.specs.declared.content.Command.TheVariants as unfinished
use Rattle.drv_table.specs.declared.rows.DriverRow.{DriverRow}
use Rattle.drv_table.specs.declared.rows.DriverRow.TheVariants as rows
use Rattle.drv_table.specs.Rows.{driver_row}
use Rattle.law_driver_ring.specs.PartOpened.{is_head}
use Rattle.bus_world.specs.World.{World, driver_parts, driver_next, commanded}
use Rattle.bus_world.specs.Opening.{opening_world}
use Rattle.law_world.specs.steps.Streaming.{Streams, Standing, HearsBytesNow}
use Rattle.law_world.specs.streams.shared_worlds.Working.{at_opening}
use Rattle.law_driver.specs.AsynchronousScripts.{OpensAsynchronous}
use Rattle.law_queues.specs.standing_fronts.Tails.{TailsStand}
use Rattle.law_world.specs.streams.Feeding.{streams_of, IsFeeding, GoesOnBeside, GoesOnAs}

abbrev pub NewWorldFeeds : Type 0
NewWorldFeeds = (s : Script) → IsFit s → IsFeeding (fixed_of s) is_head (streams_of s) at_opening (opening_world s)

abbrev pub ControllerFeeds : Type 0
ControllerFeeds = (fixed : Fixed) (member : ℕ → Bool) (x : Streams) (s : Standing) (w : World) → HearsBytesNow fixed w → TailsStand w.driver s.parts s.order s.out → IsFeeding fixed member x s w
    → GoesOnBeside fixed member x s w

abbrev pub OpensNoStream : (ℕ → ℕ → Bool) → Cmd → Type 0
OpensNoStream stream (commands.OpenEp desc) = desc.name.way ≡ ways.Ctl → stream desc.name.addr desc.name.num ≡ false
OpensNoStream stream _ = Unit {0}

abbrev pub OpensApart : (ℕ → ℕ → Bool) → World → Cmd → Type 0
OpensApart stream w cmd = (o : Offered) → offered w.driver w.memory cmd ≡ Ok o → OpensNoStream stream cmd

-- a command is refused, or an endpoint or a transfer more is accepted, of which nothing is lent yet, or an endpoint is to leave the ring
abbrev pub CommandFeeds : Type 0
CommandFeeds = (fixed : Fixed) (member : ℕ → Bool) (x : Streams) (s : Standing) (w : World) (line : ℕ) (cmd : Cmd) → OpensAsynchronous cmd → OpensApart x.stream w cmd → IsOffered w.driver.room cmd
    → IsFeeding fixed member x s w → IsFeeding fixed member x s (commanded w line cmd)

-- the driver has no word to store and no token to read, and doesn't clear Async Advance, by which endpoints leave
abbrev pub is_still : DriverRow → Bool
is_still rows.RingBell = true
is_still (rows.ReadStatus heard) = true
is_still (rows.ReadFrame n) = true
is_still rows.Rest = true
is_still _ = false

abbrev pub StillFeeds : Type 0
StillFeeds = (fixed : Fixed) (member : ℕ → Bool) (x : Streams) (s : Standing) (w : World) → is_still (driver_row (driver_parts w)) ≡ true
    → IsFeeding fixed member x s w → IsFeeding fixed member x s (driver_next w)

-- a word of the first qTD of a transfer is stored
abbrev pub StoreFeeds : Type 0
StoreFeeds = (fixed : Fixed) (member : ℕ → Bool) (x : Streams) (s : Standing) (w : World) (b : ℕ) (words : List ℕ) → w.driver.command ≡ Some (unfinished.Publish b words) → 1 ≤ w.driver.made
    → IsFeeding fixed member x s w → GoesOnAs fixed member x s (driver_next w)
