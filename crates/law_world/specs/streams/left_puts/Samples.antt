-- For worked rows: a driver of two OUT endpoints. Of the put of five bytes to the first two are reported; the second was cancelled with a put of one byte.
--     cancelled_half      the first one alone, and cancelled
--     leaving_two         the second one has left the ring, and is to be given back
--     two_parts           .. with its memory
--     their_puts          the bytes of both puts
use Rattle.std.specs.Prelude.{ℕ, true, false, List, [], ◌∷◌, Some}
use Rattle.usb_base.specs.declared.endpoints.EndCause.TheVariants as causes
use Rattle.usb_base.specs.declared.packets.Way.TheVariants as ways
use Rattle.op_registers.specs.RegisterFile.{reset_file}
use Rattle.drv_table.specs.declared.content.Endpoint.{Endpoint}
use Rattle.drv_table.specs.declared.content.Transfer.{Transfer}
use Rattle.drv_table.specs.DriverContent.{DriverContent}
use Rattle.drv_table.specs.Offers.{new_endpoint}
use Rattle.drv_table.specs.Parts.{Parts as DriverParts}
use Rattle.law_driver.specs.run_owners.Worked.{bulk}
use Rattle.law_world.specs.streams.put_laws.ByteSamples.{five}
use Rattle.law_world.specs.streams.put_laws.HeldPuts.{with_put}
use Rattle.law_world.specs.streams.put_laws.OwedSamples.{receiver, buffers, half_sent, driver_of}

abbrev pub cancelled_half : DriverContent
cancelled_half = driver_of (record receiver { ended = Some causes.Cancel; cancelled = true }) half_sent

abbrev pub left_one : Endpoint
left_one =
    record (new_endpoint (record bulk { name = record { addr = 2; num = 2; way = ways.Out } }) 140 9) {
      ended = Some causes.Cancel;
      cancelled = true;
      linked = false;
      next = Some 1;
    }

abbrev pub cancelled_put : Transfer
cancelled_put = record half_sent { endpoint = 1; first = 8; qtds = 1; place = 8; left = 1; most = 1 }

abbrev pub leaving_two : DriverContent
leaving_two = record (driver_of receiver half_sent) { endpoints = receiver ∷ left_one ∷ []; transfers = half_sent ∷ cancelled_put ∷ []; cleared = 1 ∷ [] }

abbrev pub two_parts : DriverParts
two_parts = record { driver = leaving_two; registers = reset_file; memory = buffers }

abbrev pub their_puts : ℕ → List ℕ
their_puts = with_put (with_put (λ t. []) 0 five) 1 (8 ∷ [])
