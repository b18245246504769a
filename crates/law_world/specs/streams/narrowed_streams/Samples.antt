-- A driver for worked rows: an IN endpoint of device 5, an IN endpoint of device 6 that was cancelled and has left the ring, and an OUT endpoint with its address and number.
--     first, second, third     these endpoints
--     before, after        before the doorbell is answered, and then
--     narrow               the queue heads that the walk meets then
--     streams              the queue heads with streams before
--     told x, ends         what a queue head tells of its endpoint x, and of each
use Rattle.std.specs.Prelude.{ℕ, ◌*◌, ◌==◌, ◌||◌, Bool, [], ◌∷◌, if◌then◌else◌}
use Rattle.usb_base.specs.declared.packets.Way.TheVariants as ways
use Rattle.drv_table.specs.declared.content.Endpoint.{Endpoint}
use Rattle.drv_table.specs.DriverContent.{DriverContent}
use Rattle.drv_table.specs.Opening.{opening}
use Rattle.drv_table.specs.Offers.{new_endpoint}
use Rattle.drv_table.specs.Words.{head_block, queue_head}
use Rattle.law_ring.specs.Told.{Endpoint as Told, endpoint_of}
use Rattle.law_driver.specs.endpoint_lives.Samples.{left}
use Rattle.law_driver.specs.run_owners.Worked.{bulk}
use Rattle.usb_base.specs.Rules.{first_rules}

abbrev pub first : Endpoint
first = new_endpoint (record bulk { name = record { addr = 5; num = 1; way = ways.In } }) 130 133

abbrev pub second : Endpoint
second = left (new_endpoint (record bulk { name = record { addr = 6; num = 1; way = ways.In } }) 140 142)

abbrev pub third : Endpoint
third = new_endpoint (record bulk { name = record { addr = 6; num = 1; way = ways.Out } }) 150 152

abbrev pub before : DriverContent
before = record (opening 2048 (record { endpoints = 4; transfers = 8; reports = 8; report_bytes = 4096; rules = first_rules })).driver { endpoints = first ∷ second ∷ third ∷ []; rung = 1 ∷ [] }

abbrev pub after : DriverContent
after = record before { cleared = 1 ∷ []; rung = [] }

abbrev pub narrow : ℕ → Bool
narrow n = n == 32 * head_block || (n == 32 * first.queue || n == 32 * third.queue)

abbrev pub streams : ℕ → Bool
streams n = n == 32 * first.queue || n == 32 * second.queue

abbrev pub told : Endpoint → Told
told x = endpoint_of (queue_head x.desc 0 x.dummy)

abbrev pub ends : ℕ → Told
ends n = if n == 32 * first.queue then told first else (if n == 32 * second.queue then told second else told third)
