-- The driver of a world whose endpoints are bulk and control ones clears Async Advance (EHCI 1.0, 4.8.2): the walk doesn't meet the queue heads any more that had left the ring when the
-- doorbell was rung, and their streams are closed.
--     narrowed_to x d narrow      the streams but those of IN endpoints of d that the walk can't meet any more
--     ClearFeeds                  those that it may meet are fed as before, and the bytes of their qTDs add up
use Rattle.std.specs.Prelude.{◌≡◌, ℕ, Bool, true}
use Rattle.bus_wire.specs.Bus.{Fixed}
use Rattle.drv_table.specs.declared.rows.DriverRow.TheVariants as rows
use Rattle.drv_table.specs.DriverContent.{DriverContent}
use Rattle.drv_table.specs.Rows.{driver_row}
use Rattle.law_queues.specs.open_laws.Opens.{AreNamesApart}
use Rattle.law_queues.specs.reached_rings.Reaching.{IsReachedIn}
use Rattle.law_world.specs.steps.closed_streams.Left.{heads_met, names_kept}
use Rattle.law_world.specs.streams.narrowed_streams.Narrowed.{left_names}
use Rattle.bus_world.specs.World.{World, driver_parts, driver_next}
use Rattle.claims_world.specs.Memory.{IsWalking}
use Rattle.law_world.specs.steps.Streaming.{Streams, Standing}
use Rattle.law_world.specs.streams.Feeding.{IsFeeding}

abbrev pub narrowed_to : Streams → DriverContent → (ℕ → Bool) → Streams
narrowed_to x d narrow = record {
  stream = names_kept x.stream (left_names d true);
  packets = x.packets;
  streams = heads_met x.streams narrow;
  endpoint = x.endpoint;
}

-- the walk is among the queue heads that it may meet, and no two endpoints have one name
abbrev pub ClearFeeds : Type 0
ClearFeeds = (fixed : Fixed) (member narrow : ℕ → Bool) (x : Streams) (s : Standing) (w : World) → driver_row (driver_parts w) ≡ rows.ClearAdvance → IsWalking w → AreNamesApart w.driver
    → IsReachedIn narrow (driver_next w).driver (driver_next w).registers → IsFeeding fixed member x s w
    → IsFeeding fixed narrow (narrowed_to x (driver_next w).driver narrow) s (driver_next w)
