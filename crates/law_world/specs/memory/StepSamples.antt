-- A worked step of a queue: the driver of three endpoints, a bulk, an interrupt and an isochronous one, has a get of eight bytes more, of
-- the interrupt endpoint, in the qTD of block 148 with a buffer in block 149; its token tells that all were moved, and its harvest is next.
--     key_get, key_driver, key_memory     the get, the driver and its memory
--     key_world                           the world
--     key_found                           what is found in the token
--     with_nothing s                      the standing where nothing is out any more of the interrupt endpoint's queue
use Rattle.std.specs.Prelude.{false, [], ◌∷◌, ◌++◌, replicate, slice_set, Some}
use Rattle.usb_base.specs.declared.reports.What.TheVariants as lines
use Rattle.word_mem.specs.Memory.{Mem}
use Rattle.drv_table.specs.declared.content.Part.TheVariants as parts
use Rattle.drv_table.specs.declared.content.QtdNote.{QtdNote}
use Rattle.drv_table.specs.declared.content.Sort.TheVariants as sorts
use Rattle.drv_table.specs.declared.content.Transfer.{Transfer}
use Rattle.drv_table.specs.declared.content.Turn.TheVariants as turns
use Rattle.drv_table.specs.declared.rows.Found.{Found}
use Rattle.drv_table.specs.declared.rows.Found.TheVariants as founds
use Rattle.drv_table.specs.DriverContent.{DriverContent}
use Rattle.law_driver.specs.run_owners.Worked.{busy_endpoints, busy_transfers, busy_notes, busy_driver}
use Rattle.law_driver.specs.queued_drivers.CommandsWorked.{second}
use Rattle.law_queues.specs.fed_harvests.Harvests.{with_out}
use Rattle.bus_world.specs.World.{World}
use Rattle.bus_world.specs.Opening.{opening_world}
use Rattle.law_world.specs.memory.Mixed.{Standing}
use Rattle.law_world.specs.memory.Samples.{keyboard_and_disk}

abbrev pub key_get : Transfer
key_get = record {
  endpoint = 1;
  sort = sorts.Get;
  first = 148;
  qtds = 1;
  place = 148;
  left = 1;
  most = 8;
  reported = false;
  released = false;
  part = parts.Own;
}

abbrev pub key_note : QtdNote
key_note = record { next = 135; buffer = 149 ∷ 0 ∷ 0 ∷ 0 ∷ 0 ∷ []; runs = 1; told = 8; moved = 0 }

-- its turn is next, and the interrupt endpoint's first
abbrev pub key_driver : DriverContent
key_driver = record busy_driver {
  endpoints = slice_set busy_endpoints 1 (record second { next = Some 3 });
  transfers = busy_transfers ++ key_get ∷ [];
  notes = slice_set busy_notes 148 key_note;
  turn = turns.Harvest;
  place = 1;
}

-- the token at 4744: an IN, no byte left, not active; the bytes from 4768 on
abbrev pub key_memory : Mem
key_memory = record { words = replicate 1186 0 ++ 3328 ∷ replicate 5 0 ++ 262144 ∷ 0 ∷ []; states = []; foreign = 0 }

abbrev pub key_world : World
key_world = record (opening_world keyboard_and_disk) { driver = key_driver; memory = key_memory }

abbrev pub key_found : Found
key_found = founds.Ended 8 lines.Done

abbrev pub with_nothing : Standing → Standing
with_nothing s = record s { out = with_out s.out 4352 [] }
