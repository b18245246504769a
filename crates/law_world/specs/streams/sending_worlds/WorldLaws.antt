-- Laws of worlds whose endpoints are all bulk and control ones, with what their drivers have still to send: each event and each command leaves such a world so.
--     NewWorldSends             the world of a new script
--     ControllerKeepsSending    an event of the controller
--     CommandKeepsSending       a command: one more put, if it is an accepted one
--     StillKeepsSending ..      each row of the driver; at one of them a stalled control endpoint is made a store that it is owed, at one endpoints leave, and at one an endpoint is given back
--     DriverKeepsSending        an event of the driver
use Rattle.std.specs.Prelude.{◌≡◌, ℕ, ◌≤◌, Bool, true, List, Some, Ok}
use Rattle.usb_base.specs.declared.commands.Cmd.{Cmd}
use Rattle.script_types.specs.declared.scripts.Script.{Script}
use Rattle.script_fits.specs.Fits.{IsFit}
use Rattle.law_scripts.specs.byte_answers.Bytes.{IsByteScript, IsByteCommand}
use Rattle.bus_wire.specs.Bus.{Fixed, fixed_of}
use Rattle.drv_table.specs.Accepting.{Offered}
use Rattle.drv_table.specs.Offers.{offered, IsOffered}
use Rattle.drv_table.specs.declared.content.Command.TheVariants as unfinished
use Rattle.drv_table.specs.declared.content.Mend.{Mend}
use Rattle.drv_table.specs.declared.rows.DriverRow.TheVariants as rows
use Rattle.drv_table.specs.declared.rows.Found.{Found}
use Rattle.drv_table.specs.Rows.{driver_row}
use Rattle.bus_world.specs.World.{World, driver_parts, driver_next, controller_next, commanded}
use Rattle.bus_world.specs.Opening.{opening_world}
use Rattle.law_world.specs.steps.Streaming.{Streams, Standing}
use Rattle.law_driver.specs.AsynchronousScripts.{OpensAsynchronous}
use Rattle.law_queues.specs.fed_lends.ToLend.{IsToBeLent}
use Rattle.law_queues.specs.open_laws.Lends.{IsOpenReady}
use Rattle.law_queues.specs.open_laws.Opens.{IsOpenLent}
use Rattle.law_driver_ring.specs.walk_members.Reached.{OpensNumbered}
use Rattle.law_world.specs.steps.Takers.{takes_of}
use Rattle.law_world.specs.streams.put_laws.HeldPuts.{puts_then}
use Rattle.law_world.specs.streams.put_laws.TakenPuts.{no_puts}
use Rattle.law_world.specs.streams.Feeding.{streams_of}
use Rattle.law_world.specs.streams.FeedingLaws.{is_still}
use Rattle.law_world.specs.streams.LeftLaws.{OpensNamed}
use Rattle.law_world.specs.streams.Laws.{OpensTo}
use Rattle.law_world.specs.streams.sending_worlds.Sending.{IsSending, HasSending}

abbrev pub NewWorldSends : Type 0
NewWorldSends = (s : Script) → IsFit s → IsByteScript s → HasSending (fixed_of s) (takes_of s) (streams_of s).stream (streams_of s).packets no_puts (opening_world s)

abbrev pub ControllerKeepsSending : Type 0
ControllerKeepsSending = (fixed : Fixed) (takes : ℕ → ℕ → Bool) (member : ℕ → Bool) (x : Streams) (s : Standing) (puts : ℕ → List ℕ) (w : World)
    → IsSending fixed takes member x s puts w → HasSending fixed takes x.stream x.packets puts (controller_next fixed w)

abbrev pub CommandKeepsSending : Type 0
CommandKeepsSending = (fixed : Fixed) (takes : ℕ → ℕ → Bool) (member : ℕ → Bool) (x : Streams) (s : Standing) (puts : ℕ → List ℕ) (w : World) (line : ℕ) (cmd : Cmd) → OpensAsynchronous cmd
    → ((o : Offered) → offered w.driver w.memory cmd ≡ Ok o → OpensTo x.stream takes cmd) → OpensNumbered cmd → OpensNamed cmd → IsByteCommand cmd → IsOffered w.driver.room cmd → IsSending fixed takes member x s puts w
    → HasSending fixed takes x.stream x.packets (puts_then w.driver cmd puts) (commanded w line cmd)

-- ---- the driver's rows

abbrev pub StillKeepsSending : Type 0
StillKeepsSending = (fixed : Fixed) (takes : ℕ → ℕ → Bool) (member : ℕ → Bool) (x : Streams) (s : Standing) (puts : ℕ → List ℕ) (w : World) → is_still (driver_row (driver_parts w)) ≡ true
    → IsSending fixed takes member x s puts w → HasSending fixed takes x.stream x.packets puts (driver_next w)

abbrev pub LendKeepsSending : Type 0
LendKeepsSending = (fixed : Fixed) (takes : ℕ → ℕ → Bool) (member : ℕ → Bool) (x : Streams) (s : Standing) (puts : ℕ → List ℕ) (w : World) (b : ℕ) (words : List ℕ)
    → IsToBeLent w.driver w.memory b words → IsSending fixed takes member x s puts w → HasSending fixed takes x.stream x.packets puts (driver_next w)

abbrev pub StoreKeepsSending : Type 0
StoreKeepsSending = (fixed : Fixed) (takes : ℕ → ℕ → Bool) (member : ℕ → Bool) (x : Streams) (s : Standing) (puts : ℕ → List ℕ) (w : World) (b : ℕ) (words : List ℕ)
    → w.driver.command ≡ Some (unfinished.Publish b words) → 1 ≤ w.driver.made → IsSending fixed takes member x s puts w
    → HasSending fixed takes x.stream x.packets puts (driver_next w)

abbrev pub OpenLendKeepsSending : Type 0
OpenLendKeepsSending = (fixed : Fixed) (takes : ℕ → ℕ → Bool) (member : ℕ → Bool) (x : Streams) (s : Standing) (puts : ℕ → List ℕ) (w : World) → IsOpenReady w.driver w.memory
    → IsSending fixed takes member x s puts w → HasSending fixed takes x.stream x.packets puts (driver_next w)

abbrev pub OpenLinkKeepsSending : Type 0
OpenLinkKeepsSending = (fixed : Fixed) (takes : ℕ → ℕ → Bool) (member : ℕ → Bool) (x : Streams) (s : Standing) (puts : ℕ → List ℕ) (w : World) → IsOpenLent w.driver member s.parts
    → IsSending fixed takes member x s puts w → HasSending fixed takes x.stream x.packets puts (driver_next w)

abbrev pub HarvestKeepsSending : Type 0
HarvestKeepsSending = (fixed : Fixed) (takes : ℕ → ℕ → Bool) (member : ℕ → Bool) (x : Streams) (s : Standing) (puts : ℕ → List ℕ) (w : World) (e t : ℕ) (found : Found)
    → driver_row (driver_parts w) ≡ rows.Harvest e t found → IsSending fixed takes member x s puts w → HasSending fixed takes x.stream x.packets puts (driver_next w)

abbrev pub ReleaseKeepsSending : Type 0
ReleaseKeepsSending = (fixed : Fixed) (takes : ℕ → ℕ → Bool) (member : ℕ → Bool) (x : Streams) (s : Standing) (puts : ℕ → List ℕ) (w : World) (t : ℕ)
    → driver_row (driver_parts w) ≡ rows.ReleaseTransfer t → IsSending fixed takes member x s puts w → HasSending fixed takes x.stream x.packets puts (driver_next w)

-- the next store that a stalled control endpoint is owed (4.10.3)
abbrev pub MendKeepsSending : Type 0
MendKeepsSending = (fixed : Fixed) (takes : ℕ → ℕ → Bool) (member : ℕ → Bool) (x : Streams) (s : Standing) (puts : ℕ → List ℕ) (w : World) (m : Mend)
    → driver_row (driver_parts w) ≡ rows.Mend m → IsSending fixed takes member x s puts w → HasSending fixed takes x.stream x.packets puts (driver_next w)

-- an endpoint leaves the ring, and is given back (4.8.2)
abbrev pub UnlinkKeepsSending : Type 0
UnlinkKeepsSending = (fixed : Fixed) (takes : ℕ → ℕ → Bool) (member : ℕ → Bool) (x : Streams) (s : Standing) (puts : ℕ → List ℕ) (w : World) (e before link : ℕ)
    → w.driver.command ≡ Some (unfinished.Unlink e before link) → IsSending fixed takes member x s puts w → HasSending fixed takes x.stream x.packets puts (driver_next w)

abbrev pub ClearKeepsSending : Type 0
ClearKeepsSending = (fixed : Fixed) (takes : ℕ → ℕ → Bool) (member : ℕ → Bool) (x : Streams) (s : Standing) (puts : ℕ → List ℕ) (w : World)
    → driver_row (driver_parts w) ≡ rows.ClearAdvance → IsSending fixed takes member x s puts w → HasSending fixed takes x.stream x.packets puts (driver_next w)

abbrev pub EndpointReleaseKeepsSending : Type 0
EndpointReleaseKeepsSending = (fixed : Fixed) (takes : ℕ → ℕ → Bool) (member : ℕ → Bool) (x : Streams) (s : Standing) (puts : ℕ → List ℕ) (w : World) (e : ℕ)
    → driver_row (driver_parts w) ≡ rows.ReleaseEndpoint e → IsSending fixed takes member x s puts w → HasSending fixed takes x.stream x.packets puts (driver_next w)

-- a driver of bulk and control endpoints has no other row
abbrev pub DriverKeepsSending : Type 0
DriverKeepsSending = (fixed : Fixed) (takes : ℕ → ℕ → Bool) (member : ℕ → Bool) (x : Streams) (s : Standing) (puts : ℕ → List ℕ) (w : World)
    → IsSending fixed takes member x s puts w → HasSending fixed takes x.stream x.packets puts (driver_next w)
