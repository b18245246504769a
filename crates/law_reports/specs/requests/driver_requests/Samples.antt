-- A driver for worked rows: two requests of the device at address 4 are published. The head of the ring stands in block 128, the queue head of the device's
-- control endpoint in block 130, its requests' qTDs in blocks 132 to 137, the inactive qTD behind them in block 138, and the buffers of the SETUPs and of the
-- data in blocks 139 to 142.
--     slots, notes               the runs of the driver, and what it knows of the qTDs
--     driver                     the driver
--     owner b                    whose the run in block b is
--     parts                      its structures in memory
--     is_queue n                 the queue head that has requests
--     requests, begun            its queue, before its first transaction
use Rattle.std.specs.Prelude.{ℕ, ◌==◌, Bool, false, List, [], ◌∷◌, ◌++◌, replicate, get_or, if◌then◌else◌}
use Rattle.qh_qtd.specs.Blank.{blank_head}
use Rattle.qh_qtd.specs.declared.qtd.Qtd.{Qtd}
use Rattle.mem_runs.specs.declared.slots.Slot.{Slot}
use Rattle.mem_runs.specs.declared.slots.Slot.TheVariants.{Empty, Lends}
use Rattle.dev_control.specs.Stages.{opened}
use Rattle.drv_table.specs.declared.content.QtdNote.{QtdNote}
use Rattle.drv_table.specs.declared.content.Endpoint.{Endpoint}
use Rattle.drv_table.specs.declared.content.Transfer.{Transfer}
use Rattle.drv_table.specs.DriverContent.{DriverContent, no_note, new_driver}
use Rattle.drv_table.specs.Words.{dummy_qtd}
use Rattle.drv_table.specs.Opening.{list_run, head_run}
use Rattle.claims_driver.specs.Owners.{Owner, FrameList, Head, QueueHead, Dummy, Element, Buffer}
use Rattle.law_request.specs.Samples.{described, get_device, get_configuration}
use Rattle.law_structures.specs.lent_structures.Structures.{Table, QueueHead as AQueueHead, Element as AnElement, Buffer as ABuffer, StructureSets, put}
use Rattle.law_devices.specs.ring_requests.Laid.{Places}
use Rattle.law_devices.specs.ring_requests.Samples.{leads_to, nothing, queue, setup, read, status, pages_at, asked}
use Rattle.law_devices.specs.ring_requests.Windows.{Queue, Lines, lines_at}
use Rattle.law_reports.specs.requests.request_bytes.Fresh.{request_places}
use Rattle.law_reports.specs.requests.world_requests.Samples.{control_endpoint, queued_at}
use Rattle.usb_base.specs.Rules.{first_rules}

-- ---- the driver

abbrev pub run_at : ℕ → ℕ → Slot
run_at first blocks = Lends (record { first = first; blocks = blocks })

abbrev pub one_at : ℕ → Slot
one_at b = run_at b 1

abbrev pub slots : List Slot
slots =
    (Lends list_run ∷ replicate 127 Empty)
    ++ Lends head_run ∷ Empty ∷ run_at 130 2 ∷ Empty ∷ one_at 132 ∷ one_at 133 ∷ one_at 134 ∷ one_at 135 ∷ one_at 136 ∷ one_at 137 ∷ one_at 138 ∷ one_at 139 ∷ one_at 140 ∷ one_at 141 ∷ one_at 142 ∷ []

abbrev pub noted : ℕ → ℕ → QtdNote
noted next buffer = record no_note { next = next; buffer = buffer ∷ 0 ∷ 0 ∷ 0 ∷ 0 ∷ []; runs = 1 }

abbrev pub empty_to : ℕ → QtdNote
empty_to next = record no_note { next = next }

abbrev pub notes : List QtdNote
notes = replicate 132 no_note ++ noted 133 139 ∷ noted 134 140 ∷ empty_to 135 ∷ noted 136 141 ∷ noted 137 142 ∷ empty_to 138 ∷ no_note ∷ no_note ∷ no_note ∷ no_note ∷ no_note ∷ []

abbrev pub endpoint : Endpoint
endpoint = record control_endpoint { queue = 130; dummy = 138 }

abbrev pub first : Transfer
first = queued_at 132 false

abbrev pub second : Transfer
second = queued_at 135 false

abbrev pub driver : DriverContent
driver =
    record (new_driver (record { slots = slots; taken = [] }) 143 (record { endpoints = 4; transfers = 8; reports = 8; report_bytes = 4096; rules = first_rules })) {
      endpoints = endpoint ∷ [];
      transfers = first ∷ second ∷ [];
      notes = notes;
    }

abbrev pub owners : List Owner
owners =
    replicate 128 FrameList
    ++ Head ∷ Head ∷ QueueHead 0 ∷ QueueHead 0 ∷ Element 0 ∷ Element 0 ∷ Element 0 ∷ Element 1 ∷ Element 1 ∷ Element 1 ∷ Dummy 0 ∷ Buffer 0 ∷ Buffer 0 ∷ Buffer 1 ∷ Buffer 1 ∷ []

abbrev pub owner : ℕ → Owner
owner b = get_or owners b Head

-- ---- its structures

abbrev pub head_parts : StructureSets
head_parts = put (put (put nothing 0 0 (Table [])) 4096 4096 (AQueueHead blank_head)) 4160 4160 (AQueueHead (record queue { next = leads_to 4224 }))

abbrev pub setup_to : ℕ → ℕ → Qtd
setup_to next offset = record setup { next = leads_to next; page0 = 1; offset = offset }

abbrev pub read_to : ℕ → ℕ → Qtd
read_to next offset = record read { next = leads_to next; alternate = leads_to next; page0 = 1; offset = offset }

abbrev pub first_parts : StructureSets
first_parts =
    put (put (put head_parts 4160 4224 (AnElement (setup_to 4256 352))) 4160 4256 (AnElement (read_to 4288 384))) 4160 4288 (AnElement (record status { next = leads_to 4320 }))

abbrev pub second_parts : StructureSets
second_parts =
    put (put (put first_parts 4160 4320 (AnElement (setup_to 4352 416))) 4160 4352 (AnElement (read_to 4384 448))) 4160 4384 (AnElement (record status { next = leads_to 4416 }))

abbrev pub parts : StructureSets
parts =
    put
    (put (put (put (put second_parts 4160 4416 (AnElement dummy_qtd)) 4160 4448 (ABuffer (pages_at 1) 352 get_device.setup)) 4160 4480 (ABuffer (pages_at 1) 384 (replicate 18 0)))
    4160 4512 (ABuffer (pages_at 1) 416 get_configuration.setup))
    4160 4544 (ABuffer (pages_at 1) 448 (replicate 9 0))

-- ---- its requests

abbrev pub is_queue : ℕ → Bool
is_queue n = n == 4160

abbrev pub stand_at : ℕ → Places
stand_at i = if i == 0 then request_places notes 132 get_device else request_places notes 135 get_configuration

abbrev pub requests : Queue
requests = record { endpoint = described; count = 2; requests = asked; places = stand_at }

abbrev pub begun : Lines
begun = lines_at requests false (opened 64 0)
