-- Laws of worlds whose endpoints are all high-speed bulk and control ones: each event and each command leaves such a world whole.
use Rattle.std.specs.Prelude.{◌≡◌, ℕ, ◌≤◌, Bool, true, false, List, Some, Ok}
use Rattle.usb_base.specs.declared.commands.Cmd.{Cmd}
use Rattle.usb_base.specs.declared.commands.Cmd.TheVariants as commands
use Rattle.usb_base.specs.declared.packets.Way.TheVariants as ways
use Rattle.script_types.specs.declared.scripts.Script.{Script}
use Rattle.script_fits.specs.Fits.{IsFit}
use Rattle.law_scripts.specs.byte_answers.Bytes.{IsByteScript}
use Rattle.bus_wire.specs.Bus.{Fixed, fixed_of}
use Rattle.drv_table.specs.Accepting.{Offered}
use Rattle.drv_table.specs.Offers.{offered, IsOffered}
use Rattle.drv_table.specs.declared.content.Command.TheVariants as unfinished
use Rattle.drv_table.specs.declared.content.Mend.{Mend}
use Rattle.drv_table.specs.declared.rows.DriverRow.TheVariants as rows
use Rattle.drv_table.specs.declared.rows.Found.{Found}
use Rattle.drv_table.specs.Rows.{driver_row}
use Rattle.bus_world.specs.World.{World, driver_parts, driver_next, controller_next, commanded}
use Rattle.bus_world.specs.Opening.{opening_world}
use Rattle.law_world.specs.steps.Streaming.{Streams, Standing}
use Rattle.claims_driver.specs.Scripts.{receives, comes_in}
use Rattle.law_driver.specs.AsynchronousScripts.{OpensAsynchronous}
use Rattle.law_queues.specs.fed_lends.ToLend.{IsToBeLent}
use Rattle.law_queues.specs.open_laws.Lends.{IsOpenReady}
use Rattle.law_queues.specs.open_laws.Opens.{IsOpenLent}
use Rattle.law_driver_ring.specs.walk_members.Reached.{OpensNumbered}
use Rattle.law_world.specs.steps.Takers.{takes_of}
use Rattle.law_world.specs.streams.Feeding.{streams_of}
use Rattle.law_world.specs.streams.FeedingLaws.{is_still}
use Rattle.law_world.specs.streams.LeftLaws.{OpensNamed}
use Rattle.law_world.specs.streams.Whole.{IsWhole, HasWhole}

abbrev pub NewWorldIsWhole : Type 0
NewWorldIsWhole = (s : Script) → IsFit s → IsByteScript s → HasWhole (fixed_of s) (takes_of s) (streams_of s).stream (streams_of s).packets (opening_world s)

abbrev pub ControllerKeepsWhole : Type 0
ControllerKeepsWhole = (fixed : Fixed) (takes : ℕ → ℕ → Bool) (member : ℕ → Bool) (x : Streams) (s : Standing) (w : World) → IsWhole fixed takes member x s w → HasWhole fixed takes x.stream x.packets (controller_next fixed w)

-- ---- commands

-- the endpoint that is opened, if any, has a stream or a taker, and if it is a control endpoint neither
abbrev pub OpensTo : (ℕ → ℕ → Bool) → (ℕ → ℕ → Bool) → Cmd → Type 0
OpensTo stream takes (commands.OpenEp desc) =
    (comes_in desc.name.way ≡ true → stream desc.name.addr desc.name.num ≡ true) × (receives desc.name.way ≡ false → takes desc.name.addr desc.name.num ≡ true)
    × (desc.name.way ≡ ways.Ctl → (stream desc.name.addr desc.name.num ≡ false) × (takes desc.name.addr desc.name.num ≡ false))
OpensTo stream takes _ = Unit {0}

abbrev pub CommandKeepsWhole : Type 0
CommandKeepsWhole = (fixed : Fixed) (takes : ℕ → ℕ → Bool) (member : ℕ → Bool) (x : Streams) (s : Standing) (w : World) (line : ℕ) (cmd : Cmd) → OpensAsynchronous cmd
    → ((o : Offered) → offered w.driver w.memory cmd ≡ Ok o → OpensTo x.stream takes cmd) → OpensNumbered cmd → OpensNamed cmd → IsOffered w.driver.room cmd → IsWhole fixed takes member x s w → HasWhole fixed takes x.stream x.packets (commanded w line cmd)

-- ---- the driver's rows

abbrev pub StillKeepsWhole : Type 0
StillKeepsWhole = (fixed : Fixed) (takes : ℕ → ℕ → Bool) (member : ℕ → Bool) (x : Streams) (s : Standing) (w : World) → is_still (driver_row (driver_parts w)) ≡ true → IsWhole fixed takes member x s w
    → HasWhole fixed takes x.stream x.packets (driver_next w)

-- the first qTD of a transfer is lent, and then stored
abbrev pub LendKeepsWhole : Type 0
LendKeepsWhole = (fixed : Fixed) (takes : ℕ → ℕ → Bool) (member : ℕ → Bool) (x : Streams) (s : Standing) (w : World) (b : ℕ) (words : List ℕ) → IsToBeLent w.driver w.memory b words
    → IsWhole fixed takes member x s w → HasWhole fixed takes x.stream x.packets (driver_next w)

abbrev pub StoreKeepsWhole : Type 0
StoreKeepsWhole = (fixed : Fixed) (takes : ℕ → ℕ → Bool) (member : ℕ → Bool) (x : Streams) (s : Standing) (w : World) (b : ℕ) (words : List ℕ) → w.driver.command ≡ Some (unfinished.Publish b words) → 1 ≤ w.driver.made
    → IsWhole fixed takes member x s w → HasWhole fixed takes x.stream x.packets (driver_next w)

-- an open's structures are lent, and then linked
abbrev pub OpenLendKeepsWhole : Type 0
OpenLendKeepsWhole = (fixed : Fixed) (takes : ℕ → ℕ → Bool) (member : ℕ → Bool) (x : Streams) (s : Standing) (w : World) → IsOpenReady w.driver w.memory
    → IsWhole fixed takes member x s w → HasWhole fixed takes x.stream x.packets (driver_next w)

abbrev pub OpenLinkKeepsWhole : Type 0
OpenLinkKeepsWhole = (fixed : Fixed) (takes : ℕ → ℕ → Bool) (member : ℕ → Bool) (x : Streams) (s : Standing) (w : World) → IsOpenLent w.driver member s.parts
    → IsWhole fixed takes member x s w → HasWhole fixed takes x.stream x.packets (driver_next w)

abbrev pub HarvestKeepsWhole : Type 0
HarvestKeepsWhole = (fixed : Fixed) (takes : ℕ → ℕ → Bool) (member : ℕ → Bool) (x : Streams) (s : Standing) (w : World) (e t : ℕ) (found : Found) → driver_row (driver_parts w) ≡ rows.Harvest e t found
    → IsWhole fixed takes member x s w → HasWhole fixed takes x.stream x.packets (driver_next w)

abbrev pub ReleaseKeepsWhole : Type 0
ReleaseKeepsWhole = (fixed : Fixed) (takes : ℕ → ℕ → Bool) (member : ℕ → Bool) (x : Streams) (s : Standing) (w : World) (t : ℕ) → driver_row (driver_parts w) ≡ rows.ReleaseTransfer t
    → IsWhole fixed takes member x s w → HasWhole fixed takes x.stream x.packets (driver_next w)

-- the next store that a stalled control endpoint is owed (4.10.3)
abbrev pub MendKeepsWhole : Type 0
MendKeepsWhole = (fixed : Fixed) (takes : ℕ → ℕ → Bool) (member : ℕ → Bool) (x : Streams) (s : Standing) (w : World) (m : Mend) → driver_row (driver_parts w) ≡ rows.Mend m
    → IsWhole fixed takes member x s w → HasWhole fixed takes x.stream x.packets (driver_next w)

-- the endpoint of an accepted cancel leaves the ring (4.8.2): one store unlinks it; where the doorbell was answered its stream is closed; and it is given back
abbrev pub UnlinkKeepsWhole : Type 0
UnlinkKeepsWhole = (fixed : Fixed) (takes : ℕ → ℕ → Bool) (member : ℕ → Bool) (x : Streams) (s : Standing) (w : World) (e before link : ℕ)
    → w.driver.command ≡ Some (unfinished.Unlink e before link) → IsWhole fixed takes member x s w → HasWhole fixed takes x.stream x.packets (driver_next w)

abbrev pub ClearKeepsWhole : Type 0
ClearKeepsWhole = (fixed : Fixed) (takes : ℕ → ℕ → Bool) (member : ℕ → Bool) (x : Streams) (s : Standing) (w : World) → driver_row (driver_parts w) ≡ rows.ClearAdvance
    → IsWhole fixed takes member x s w → HasWhole fixed takes x.stream x.packets (driver_next w)

abbrev pub EndpointReleaseKeepsWhole : Type 0
EndpointReleaseKeepsWhole = (fixed : Fixed) (takes : ℕ → ℕ → Bool) (member : ℕ → Bool) (x : Streams) (s : Standing) (w : World) (e : ℕ) → driver_row (driver_parts w) ≡ rows.ReleaseEndpoint e
    → IsWhole fixed takes member x s w → HasWhole fixed takes x.stream x.packets (driver_next w)

-- a driver of such endpoints has no other row
abbrev pub DriverKeepsWhole : Type 0
DriverKeepsWhole = (fixed : Fixed) (takes : ℕ → ℕ → Bool) (member : ℕ → Bool) (x : Streams) (s : Standing) (w : World) → IsWhole fixed takes member x s w → HasWhole fixed takes x.stream x.packets (driver_next w)
