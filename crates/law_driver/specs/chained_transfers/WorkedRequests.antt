-- Two requests for worked rows, of a control endpoint with its queue head in block 130. Neither has data. The SETUP of the first stands in block 132, with its
-- eight bytes in block 133, and its status in block 134; those of the second stand in blocks 135, 136 and 137. The end of the queue is block 138. The device
-- has taken the first SETUP, which was read, and answers its status with STALL (USB 2.0, 8.5.3.4).
--     control, stalled_request, waiting_request     the endpoint and its requests
--     request_driver, request_parts                 the driver and what it reads
use Rattle.std.specs.Prelude.{true, false, List, [], ◌∷◌, ◌++◌, replicate, fold, slice_set, Some, None}
use Rattle.usb_base.specs.declared.packets.EpKind.TheVariants as kinds
use Rattle.usb_base.specs.declared.packets.Way.TheVariants as ways
use Rattle.usb_base.specs.declared.endpoints.EpDesc.{EpDesc}
use Rattle.word_mem.specs.Runs.{Run}
use Rattle.mem_runs.specs.declared.slots.Slot.{Slot}
use Rattle.mem_runs.specs.declared.slots.Slot.TheVariants.{Lends}
use Rattle.drv_table.specs.declared.content.Endpoint.{Endpoint}
use Rattle.drv_table.specs.declared.content.Transfer.{Transfer}
use Rattle.drv_table.specs.declared.content.QtdNote.{QtdNote}
use Rattle.drv_table.specs.declared.content.Sort.TheVariants as sorts
use Rattle.drv_table.specs.declared.content.Turn.TheVariants as turns
use Rattle.drv_table.specs.DriverContent.{DriverContent, no_note}
use Rattle.drv_table.specs.Opening.{opening, opening_registers}
use Rattle.drv_table.specs.Parts.{Parts}
use Rattle.law_driver.specs.run_owners.Worked.{bulk}
use Rattle.usb_base.specs.Rules.{first_rules}
use Rattle.drv_table.specs.declared.content.Part.TheVariants as parts

abbrev pub control : EpDesc
control = record bulk { name = record { addr = 1; num = 0; way = ways.Ctl }; kind = kinds.Control; max = 64 }

abbrev pub control_endpoint : Endpoint
control_endpoint = record { desc = control; placement = None; queue = 130; dummy = 138; next = Some 0; ended = None; cancelled = false; linked = true; chained = false; gone = false }

abbrev pub stalled_request : Transfer
stalled_request = record { endpoint = 0; sort = sorts.Request; first = 132; qtds = 2; place = 134; left = 1; most = 0; reported = false; released = false; part = parts.Own }

abbrev pub waiting_request : Transfer
waiting_request = record { endpoint = 0; sort = sorts.Request; first = 135; qtds = 2; place = 135; left = 2; most = 0; reported = false; released = false; part = parts.Own }

abbrev pub request_notes : List QtdNote
request_notes =
    replicate 132 no_note
    ++ (record no_note { next = 134; buffer = 133 ∷ 0 ∷ 0 ∷ 0 ∷ 0 ∷ []; runs = 1 })
    ∷ no_note
    ∷ (record no_note { next = 135 })
    ∷ (record no_note { next = 137; buffer = 136 ∷ 0 ∷ 0 ∷ 0 ∷ 0 ∷ []; runs = 1 })
    ∷ no_note
    ∷ (record no_note { next = 138 })
    ∷ replicate 118 no_note

-- the runs that are lent beside the frame list and the head
abbrev pub request_runs : List Run
request_runs =
    (record { first = 130; blocks = 2 })
    ∷ (record { first = 132; blocks = 1 })
    ∷ (record { first = 133; blocks = 1 })
    ∷ (record { first = 134; blocks = 1 })
    ∷ (record { first = 135; blocks = 1 })
    ∷ (record { first = 136; blocks = 1 })
    ∷ (record { first = 137; blocks = 1 })
    ∷ (record { first = 138; blocks = 1 })
    ∷ []

abbrev pub request_opening : DriverContent
request_opening = (opening 2048 (record { endpoints = 0; transfers = 0; reports = 2; report_bytes = 0; rules = first_rules })).driver

abbrev pub request_slots : List Slot
request_slots = fold (λ slots r. slice_set slots r.first (Lends r)) request_opening.book.slots request_runs

abbrev pub request_driver : DriverContent
request_driver =
    record request_opening {
      book = record { slots = request_slots; taken = [] };
      endpoints = control_endpoint ∷ [];
      transfers = stalled_request ∷ waiting_request ∷ [];
      notes = request_notes;
      turn = turns.Harvest;
    }

-- the token of the first status, word 1,074, is halted, and tells neither an error nor bytes (3.5.3)
abbrev pub request_parts : Parts
request_parts = record { driver = request_driver; registers = opening_registers; memory = record { words = replicate 1074 0 ++ 0xD40 ∷ []; states = []; foreign = 0 } }
