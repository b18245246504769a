-- What stays where an event of an unfinished command is made.
use Rattle.std.proofs.Common.{ℕ, Bool, List}
use Rattle.law_controller.specs.controlled_streams.Control.{IsFrameless, off, empty}
use Rattle.law_ring.specs.Told.{Endpoint as Told}
use Rattle.claims_base.specs.Controller.{opening_base}
use Rattle.bus_world.specs.World.{World, controller_parts, driver_next}
use Rattle.law_world.specs.steps.Streaming.{Streams}

-- the streams of the script, with these queue heads
abbrev pub streams_at : Streams → (ℕ → Bool) → (ℕ → Told) → Streams
streams_at x streams ends = record { stream = x.stream; packets = x.packets; streams = streams; endpoint = ends }

pub still_frameless : (words : List ℕ) (w : World) → IsFrameless opening_base words (controller_parts w) → IsFrameless opening_base words (controller_parts (driver_next w))
still_frameless words w (off is) = off is
still_frameless words w (empty none over) = empty none over
