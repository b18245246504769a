-- A control endpoint of a high-speed device, with its queue head in block 130, whose request was found stalled: its inactive qTD stands in block 133, and nothing
-- waits behind the request.
--     asking, stall         the driver before that harvest, and what this finds
--     control, endpoint     the endpoint once the stall was harvested
--     waiting               the driver, which owes it three stores
--     first_part            what of its queue memory has: the halted queue head, and the inactive qTD
--     once, twice, thrice   the queue head after the first store, the second and the third
--     halted_copy           a copy of the halted queue head in hand
use Rattle.std.specs.Prelude.{ℕ, true, false, List, [], ◌∷◌, slice_set, Some, None}
use Rattle.usb_base.specs.declared.endpoints.EpDesc.{EpDesc}
use Rattle.usb_base.specs.declared.endpoints.EndCause.TheVariants as causes
use Rattle.usb_base.specs.declared.packets.EpKind.TheVariants as kinds
use Rattle.usb_base.specs.declared.packets.Way.TheVariants as ways
use Rattle.usb_base.specs.declared.reports.What.TheVariants as lines
use Rattle.qh_qtd.specs.Blank.{blank_token}
use Rattle.qh_qtd.specs.declared.queue_head.Qh.{Qh}
use Rattle.mem_runs.specs.declared.slots.Slot.TheVariants.{Lends}
use Rattle.drv_table.specs.declared.content.Endpoint.{Endpoint}
use Rattle.drv_table.specs.declared.content.Transfer.{Transfer}
use Rattle.drv_table.specs.declared.content.Sort.TheVariants as sorts
use Rattle.drv_table.specs.declared.rows.Found.{Found}
use Rattle.drv_table.specs.declared.rows.Found.TheVariants as founds
use Rattle.drv_table.specs.Offers.{new_endpoint}
use Rattle.drv_table.specs.Opening.{opening}
use Rattle.drv_table.specs.Parts.{Parts as DriverParts}
use Rattle.drv_table.specs.Harvesting.{mends_of}
use Rattle.drv_table.specs.Words.{queue_head, dummy_qtd, to_qtd}
use Rattle.law_driver.specs.run_owners.Worked.{bulk}
use Rattle.law_structures.specs.lent_structures.Structures.{QueueHead, Element, Structures, StructureSets, with_structure}
use Rattle.law_ring.specs.Hand.{Copy}
use Rattle.law_queues.specs.mended_heads.Owed.{StalledQueue}
use Rattle.law_queues.specs.mended_heads.Mended.{mended}
use Rattle.usb_base.specs.Rules.{first_rules}
use Rattle.drv_table.specs.declared.content.Part.TheVariants as parts

abbrev pub control : EpDesc
control = record bulk { name = record { addr = 1; num = 0; way = ways.Ctl }; kind = kinds.Control; max = 64 }

abbrev pub endpoint : Endpoint
endpoint = new_endpoint control 130 133

abbrev pub opened : DriverParts
opened = opening 2048 (record { endpoints = 4; transfers = 8; reports = 8; report_bytes = 4096; rules = first_rules })

abbrev pub waiting : DriverParts
waiting = record opened {
  driver = record opened.driver {
    book = record opened.driver.book { slots = slice_set opened.driver.book.slots 130 (Lends (record { first = 130; blocks = 2 })) };
    endpoints = endpoint ∷ [];
    mends = mends_of endpoint;
  };
}

-- ---- before it

abbrev pub request : Transfer
request = record { endpoint = 0; sort = sorts.Request; first = 131; qtds = 2; place = 131; left = 2; most = 0; reported = false; released = false; part = parts.Own }

abbrev pub asking : DriverParts
asking = record opened { driver = record opened.driver { endpoints = record endpoint { next = Some 0 } ∷ []; transfers = request ∷ [] } }

abbrev pub stall : Found
stall = founds.Ended 0 (lines.Halt causes.Stall)

-- ---- the queue that waits

abbrev pub stalled : StalledQueue
stalled = record { queue = 130; onward = 133; made = 0 }

-- its SETUP, in block 131, was answered with STALL, and seven NAKs may be let pass
abbrev pub halted_head : Qh
halted_head = record (queue_head control 128 131) {
  current = 4192;
  next = to_qtd 132;
  nak_cnt = 4;
  token = record blank_token { halted = true; pid = 2; cerr = 3; total = 8; toggle = true };
}

abbrev pub nothing : Structures
nothing a = None

abbrev pub first_part : Structures
first_part = with_structure (with_structure nothing 4160 (QueueHead halted_head)) 4256 (Element dummy_qtd)

abbrev pub first_parts : StructureSets
first_parts n = first_part

abbrev pub none_out : ℕ → List ℕ
none_out n = []

abbrev pub once : Qh
once = mended stalled halted_head

abbrev pub twice : Qh
twice = mended (record stalled { made = 1 }) once

abbrev pub thrice : Qh
thrice = mended (record stalled { made = 2 }) twice

abbrev pub halted_copy : Copy
halted_copy = record { at = 4160; queue = halted_head; link = halted_head.link; naks = 4 }
