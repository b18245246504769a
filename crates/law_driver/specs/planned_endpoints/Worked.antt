-- Endpoints of worked rows: a bulk one, an isochronous one that was opened, and one that was given back; and queue heads.
use Rattle.std.specs.Prelude.{ℕ, true}
use Rattle.usb_base.specs.declared.packets.EpKind.TheVariants.{Bulk}
use Rattle.bandwidth.specs.declared.placements.Placed.{Placed}
use Rattle.drv_periodic_table.specs.Periodic.{want_of}
use Rattle.law_admission.specs.Worked.{camera, each_microframe}
use Rattle.drv_chains.specs.declared.members.QueueHead.{QueueHead}
use Rattle.drv_table.specs.declared.content.Endpoint.{Endpoint}
use Rattle.drv_table.specs.Offers.{new_endpoint, placed_endpoint}

abbrev pub bulk : Endpoint
bulk = new_endpoint (record (camera 3) { kind = Bulk }) 200 202

abbrev pub opened : ℕ → Endpoint
opened num = placed_endpoint (camera num) each_microframe 0 0

abbrev pub given_back : ℕ → Endpoint
given_back num = record (opened num) { gone = true }

-- what counts of the one with this number
abbrev pub counted : ℕ → Placed
counted num = record { want = want_of num (camera num); placement = each_microframe }

-- a queue head of this period and phase
abbrev pub polled : ℕ → ℕ → ℕ → QueueHead
polled id period phase = record { id = id; period = period; phase = phase }
