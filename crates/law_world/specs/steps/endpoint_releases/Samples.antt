-- A driver of worked rows: its one endpoint with a queue has left the ring, and is to be given back. The queue head stands in blocks 1 and 2, the inactive
-- qTD in block 3; a transfer that was cancelled has its qTD in block 4 with a buffer in block 5, and one that was given back before had its qTD in block 4.
--     left_driver           the driver
--     left_parts            .. with six blocks, all of them Lent
--     left_structures       what is told of its queue head, and of another one at 192
use Rattle.std.specs.Prelude.{true, false, [], ◌∷◌, replicate, Some, None}
use Rattle.word_mem.specs.declared.blocks.BlockState.TheVariants.{Lent}
use Rattle.usb_base.specs.declared.endpoints.EndCause.TheVariants as causes
use Rattle.op_registers.specs.RegisterFile.{reset_file}
use Rattle.mem_runs.specs.Book.{Book}
use Rattle.mem_runs.specs.declared.slots.Slot.TheVariants.{Empty, Lends}
use Rattle.drv_table.specs.declared.content.Endpoint.{Endpoint}
use Rattle.drv_table.specs.declared.content.Transfer.{Transfer}
use Rattle.drv_table.specs.declared.content.QtdNote.{QtdNote}
use Rattle.drv_table.specs.DriverContent.{DriverContent, no_note, new_driver}
use Rattle.drv_table.specs.Parts.{Parts as DriverParts}
use Rattle.law_driver.specs.run_owners.Worked.{bulk, get_out}
use Rattle.qh_qtd.specs.Blank.{blank_qtd, blank_head}
use Rattle.law_structures.specs.lent_structures.Structures.{QueueHead, Element, StructureSets, put}
use Rattle.usb_base.specs.Rules.{first_rules}

abbrev pub left_endpoint : Endpoint
left_endpoint = record {
  desc = bulk;
  placement = None;
  queue = 1;
  dummy = 3;
  next = Some 1;
  ended = Some causes.Cancel;
  cancelled = true;
  linked = false;
  chained = false;
  gone = false;
}

abbrev pub cancelled_get : Transfer
cancelled_get = record get_out { first = 4; place = 4 }

abbrev pub its_note : QtdNote
its_note = record { next = 3; buffer = 5 ∷ 0 ∷ 0 ∷ 0 ∷ 0 ∷ []; runs = 1; told = 32; moved = 0 }

abbrev pub left_book : Book
left_book = record {
  slots = Empty
      ∷ Lends (record { first = 1; blocks = 2 })
      ∷ Empty
      ∷ Lends (record { first = 3; blocks = 1 })
      ∷ Lends (record { first = 4; blocks = 1 })
      ∷ Lends (record { first = 5; blocks = 1 })
      ∷ [];
  taken = [];
}

abbrev pub left_driver : DriverContent
left_driver = record (new_driver left_book 6 (record { endpoints = 1; transfers = 2; reports = 2; report_bytes = 64; rules = first_rules })) {
  endpoints = left_endpoint ∷ [];
  transfers = record cancelled_get { reported = true; released = true } ∷ cancelled_get ∷ [];
  notes = no_note ∷ no_note ∷ no_note ∷ no_note ∷ its_note ∷ no_note ∷ [];
  cleared = 0 ∷ [];
}

abbrev pub left_parts : DriverParts
left_parts = record {
  driver = left_driver;
  registers = reset_file;
  memory = record { words = replicate 48 7; states = replicate 6 Lent; foreign = 0 };
}

abbrev pub nothing : StructureSets
nothing n a = None

abbrev pub left_structures : StructureSets
left_structures = put (put (put nothing 32 32 (QueueHead blank_head)) 32 96 (Element blank_qtd)) 192 192 (QueueHead blank_head)
