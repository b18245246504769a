-- For worked rows: a world whose one endpoint, an OUT one with its queue head in block 2, has a put of five bytes in two qTDs, of which the first sent two bytes, and
-- the second two of its three; the first was read.
--     going, cancelled       the endpoint, and the same once it was cancelled
--     five_put               the bytes of its put
--     at_half told           what stands, where these bytes were reported
--     world_of x bytes       the world with this endpoint, whose device took these bytes
use Rattle.std.specs.Prelude.{ℕ, true, List, [], ◌∷◌, ◌++◌, Some}
use Rattle.usb_base.specs.declared.endpoints.EndCause.TheVariants as causes
use Rattle.bus_wire.specs.Bus.{opening_bus}
use Rattle.drv_table.specs.declared.content.Endpoint.{Endpoint}
use Rattle.drv_table.specs.Offers.{new_endpoint}
use Rattle.claims_report.specs.Samples.{bulk, receiver}
use Rattle.law_ring.specs.Hand.{Empty}
use Rattle.law_queues.specs.whole_sends.Samples.{order, ahead, behind, parts}
use Rattle.law_world.specs.streams.put_laws.ByteSamples.{five}
use Rattle.law_world.specs.streams.put_laws.HeldPuts.{with_put}
use Rattle.law_world.specs.streams.put_laws.OwedSamples.{buffers, half_sent, driver_of}
use Rattle.law_world.specs.streams.put_laws.TakenSamples.{two_puts}
use Rattle.bus_world.specs.World.{World}
use Rattle.bus_world.specs.Opening.{opening_world}
use Rattle.law_world.specs.streams.taken_reports.Samples.{took}
use Rattle.law_world.specs.steps.Streaming.{Standing}

abbrev pub going : Endpoint
going = record (new_endpoint (bulk receiver) 2 9) { next = Some 0 }

abbrev pub cancelled : Endpoint
cancelled = record going { ended = Some causes.Cancel; cancelled = true }

abbrev pub five_put : ℕ → List ℕ
five_put = with_put (λ t. []) 0 five

abbrev pub at_half : List ℕ → Standing
at_half told = record {
  parts = parts;
  hand = Empty;
  acc = λ n. [];
  order = λ n. order;
  out = λ n. ahead ++ behind;
  reported = λ n. told;
}

abbrev pub world_of : Endpoint → List ℕ → World
world_of x bytes = record (opening_world two_puts) { driver = driver_of x half_sent; memory = buffers; bus = record (opening_bus two_puts) { devices = took bytes ∷ [] } }
