-- A cancel in a world whose endpoints are bulk and control ones (EHCI 1.0, 4.8.2): the endpoint is to leave the ring, and its queue head, its qTDs and what is told of them stand as they are.
--     CancelFeeds            accepted or refused, the cancel leaves queues fed
use Rattle.std.specs.Prelude.{ℕ, Bool}
use Rattle.usb_base.specs.declared.endpoints.EpName.{EpName}
use Rattle.usb_base.specs.declared.commands.Cmd.TheVariants as commands
use Rattle.bus_wire.specs.Bus.{Fixed}
use Rattle.drv_table.specs.Offers.{IsOffered}
use Rattle.bus_world.specs.World.{World, commanded}
use Rattle.law_world.specs.steps.Streaming.{Streams, Standing}
use Rattle.law_world.specs.streams.Feeding.{IsFeeding}

abbrev pub CancelFeeds : Type 0
CancelFeeds = (fixed : Fixed) (member : ℕ → Bool) (x : Streams) (s : Standing) (w : World) (line : ℕ) (name : EpName) → IsOffered w.driver.room (commands.Cancel name)
    → IsFeeding fixed member x s w → IsFeeding fixed member x s (commanded w line (commands.Cancel name))
