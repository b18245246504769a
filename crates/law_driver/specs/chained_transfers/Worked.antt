-- Transfers for worked rows. The endpoint has its queue head in block 130; its first transfer has the qTDs in blocks 132 and 140, and a short packet
-- ended it at the first of them; its second one has those in blocks 141 and 142, of which the first was read. The end of the queue is block 143.
-- In one driver the endpoint was cancelled, has left the ring and waits for the doorbell.
use Rattle.std.specs.Prelude.{ℕ, true, false, [], ◌∷◌, Some, None, if◌then◌else◌, ◌==◌}
use Rattle.usb_base.specs.declared.endpoints.EndCause.TheVariants as causes
use Rattle.drv_table.specs.declared.content.Endpoint.{Endpoint}
use Rattle.drv_table.specs.declared.content.Transfer.{Transfer}
use Rattle.drv_table.specs.declared.content.Sort.TheVariants as sorts
use Rattle.drv_table.specs.DriverContent.{DriverContent}
use Rattle.drv_table.specs.Opening.{opening}
use Rattle.claims_driver.specs.Owners.{NoteRuns}
use Rattle.law_driver.specs.run_owners.Worked.{bulk}
use Rattle.usb_base.specs.Rules.{first_rules}
use Rattle.drv_table.specs.declared.content.Part.TheVariants as parts

abbrev pub notes : ℕ → NoteRuns
notes b =
    if b == 132 then record { next = 140; buffer = 150 ∷ [] }
    else if b == 140 then record { next = 141; buffer = 151 ∷ [] }
    else if b == 141 then record { next = 142; buffer = 152 ∷ [] }
    else record { next = 143; buffer = 153 ∷ [] }

abbrev pub ended_early : Transfer
ended_early = record { endpoint = 0; sort = sorts.Get; first = 132; qtds = 2; place = 132; left = 2; most = 64; reported = true; released = false; part = parts.Own }

abbrev pub under_way : Transfer
under_way = record { endpoint = 0; sort = sorts.Get; first = 141; qtds = 2; place = 142; left = 1; most = 64; reported = false; released = false; part = parts.Own }

abbrev pub in_ring : Endpoint
in_ring = record { desc = bulk; placement = None; queue = 130; dummy = 143; next = Some 1; ended = None; cancelled = false; linked = true; chained = false; gone = false }

abbrev pub out_of_ring : Endpoint
out_of_ring = record in_ring { ended = Some causes.Cancel; cancelled = true; linked = false }

abbrev pub ring_driver : DriverContent
ring_driver =
    record (opening 2048 (record { endpoints = 4; transfers = 8; reports = 8; report_bytes = 4096; rules = first_rules })).driver { endpoints = in_ring ∷ []; transfers = ended_early ∷ under_way ∷ []; harvested = 0 ∷ [] }

abbrev pub waiting_driver : DriverContent
waiting_driver = record ring_driver { endpoints = out_of_ring ∷ []; waiting = 0 ∷ [] }
