-- For worked rows: a driver whose one endpoint, an OUT one with its queue head in block 130, has a put of five bytes in two qTDs, in blocks 0 and 1, of which the
-- first sent two bytes and was read; and the same with the second one read, or before the first.
use Rattle.std.specs.Prelude.{ℕ, true, false, List, [], ◌∷◌, Some, None}
use Rattle.usb_base.specs.declared.endpoints.EndCause.TheVariants as causes
use Rattle.usb_base.specs.declared.packets.Way.TheVariants as ways
use Rattle.word_mem.specs.Memory.{Mem}
use Rattle.drv_table.specs.declared.content.Command.TheVariants as unfinished
use Rattle.drv_table.specs.declared.content.Endpoint.{Endpoint}
use Rattle.drv_table.specs.declared.content.QtdNote.{QtdNote}
use Rattle.drv_table.specs.declared.content.Sort.TheVariants as sorts
use Rattle.drv_table.specs.declared.content.Transfer.{Transfer}
use Rattle.drv_table.specs.DriverContent.{DriverContent}
use Rattle.drv_table.specs.Offers.{new_endpoint}
use Rattle.drv_table.specs.Opening.{opening}
use Rattle.law_driver.specs.run_owners.Worked.{bulk}
use Rattle.usb_base.specs.Rules.{first_rules}
use Rattle.drv_table.specs.declared.content.Part.TheVariants as parts

abbrev pub receiver : Endpoint
receiver = record (new_endpoint (record bulk { name = record { addr = 1; num = 2; way = ways.Out } }) 130 7) { next = Some 0 }

-- the bytes 1 and 2 in block 0, and 3 to 5 in block 1
abbrev pub buffers : Mem
buffers = record { words = 513 ∷ 0 ∷ 0 ∷ 0 ∷ 0 ∷ 0 ∷ 0 ∷ 0 ∷ 328707 ∷ []; states = []; foreign = 0 }

abbrev pub pieces : List QtdNote
pieces =
    record { next = 1; buffer = 0 ∷ 0 ∷ 0 ∷ 0 ∷ 0 ∷ []; runs = 1; told = 2; moved = 2 }
    ∷ record { next = 7; buffer = 1 ∷ 0 ∷ 0 ∷ 0 ∷ 0 ∷ []; runs = 1; told = 3; moved = 0 }
    ∷ []

abbrev pub half_sent : Transfer
half_sent = record { endpoint = 0; sort = sorts.Put; first = 0; qtds = 2; place = 1; left = 1; most = 5; reported = false; released = false; part = parts.Own }

abbrev pub driver_of : Endpoint → Transfer → DriverContent
driver_of x y = record (opening 2048 (record { endpoints = 4; transfers = 8; reports = 8; report_bytes = 4096; rules = first_rules })).driver { endpoints = x ∷ []; transfers = y ∷ []; notes = pieces }

abbrev pub at_half : DriverContent
at_half = driver_of receiver half_sent

-- before anything of it was read
abbrev pub at_first : DriverContent
at_first = driver_of receiver (record half_sent { place = 0; left = 2 })

-- all was read
abbrev pub at_end : DriverContent
at_end = driver_of (record receiver { next = None }) (record half_sent { reported = true })

-- the second one halted
abbrev pub halted : DriverContent
halted = driver_of (record receiver { ended = Some causes.Stall }) (record half_sent { reported = true })

-- its first qTD is being published
abbrev pub publishing : DriverContent
publishing = record (driver_of receiver (record half_sent { place = 0; left = 2 })) { command = Some (unfinished.Publish 0 []) }

abbrev pub told_bytes : List ℕ → ℕ → List ℕ
told_bytes bytes n = bytes
