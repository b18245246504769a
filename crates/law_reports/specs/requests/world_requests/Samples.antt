-- A driver with requests of a control endpoint, for worked rows: transfer 0 was given back, and its qTDs stood in blocks 132 to 134; transfers 1 and 3
-- have theirs from block 140 and from block 132 on. Transfer 2 are bytes that were asked of another endpoint.
--     queued_at first released   a request of endpoint 0 whose qTDs begin in this block
--     two_requests               a driver whose two transfers are the requests of ring_requests' sample
--     asked setup done           a device of which this was asked, and that is done with it or isn't
--     then_sends t v             the windows after an event that sends the SETUP of transfer t, and in which no device acts
--     then_acts setup v          after one that sends none, and in which the device of endpoint 0 acts on these setup bytes
use Rattle.std.specs.Prelude.{ℕ, ◌==◌, Bool, true, false, List, [], ◌∷◌, Some, None, if◌then◌else◌}
use Rattle.dev_control.specs.Stages.{Stages, opened}
use Rattle.usb_base.specs.declared.packets.EpKind.TheVariants.{Control}
use Rattle.usb_base.specs.declared.packets.Speed.TheVariants.{High}
use Rattle.usb_base.specs.declared.packets.Way.TheVariants as Ways
use Rattle.drv_table.specs.declared.content.Endpoint.{Endpoint}
use Rattle.drv_table.specs.declared.content.Sort.{Sort}
use Rattle.drv_table.specs.declared.content.Sort.TheVariants as sorts
use Rattle.drv_table.specs.declared.content.Transfer.{Transfer}
use Rattle.drv_table.specs.DriverContent.{DriverContent}
use Rattle.drv_table.specs.Opening.{opening}
use Rattle.claims_world.specs.Requests.{Windows, recorded}
use Rattle.usb_base.specs.Rules.{first_rules}
use Rattle.drv_table.specs.declared.content.Part.TheVariants as parts

abbrev pub transfer : ℕ → Sort → ℕ → Bool → Transfer
transfer e sort first released = record { endpoint = e; sort = sort; first = first; qtds = 3; place = first; left = 3; most = 64; reported = released; released = released; part = parts.Own }

abbrev pub driver : DriverContent
driver =
    record (opening 2048 (record { endpoints = 4; transfers = 8; reports = 8; report_bytes = 4096; rules = first_rules })).driver {
      transfers = transfer 0 sorts.Request 132 true ∷ transfer 0 sorts.Request 140 false ∷ transfer 1 sorts.Get 150 false ∷ transfer 0 sorts.Request 132 false ∷ [];
    }

abbrev pub asked : List ℕ → Bool → Stages
asked setup done = record (opened 64 0) { request = Some (record { setup = setup; moved = 0; toggle = true; done = done }) }

abbrev pub then_sends : ℕ → Windows → Windows
then_sends t v = recorded driver (Some t) (λ e. []) v

abbrev pub then_acts : List ℕ → Windows → Windows
then_acts setup v = recorded driver None (λ e. if e == 0 then setup ∷ [] else []) v

-- ---- two requests of the device at address 4, with their qTDs in blocks 2 to 4 and 5 to 7

abbrev pub control_endpoint : Endpoint
control_endpoint = record {
  desc = record { name = record { addr = 4; num = 0; way = Ways.Ctl }; speed = High; kind = Control; max = 64; period = 0; multi = 1; hub = None; port = 0; tt = 0 };
  placement = None;
  queue = 1;
  dummy = 8;
  next = Some 0;
  ended = None;
  cancelled = false;
  linked = true;
  chained = false;
  gone = false;
}

abbrev pub queued_at : ℕ → Bool → Transfer
queued_at first released = transfer 0 sorts.Request first released

abbrev pub two_requests : Bool → DriverContent
two_requests released = record driver { endpoints = control_endpoint ∷ []; transfers = queued_at 2 released ∷ queued_at 5 false ∷ [] }
