-- A driver of worked rows that gives back an iTD next: it stands in blocks 130 and 131, has no buffer, was unlinked, and its frame has passed. Beside it there
-- are the frame list and the head of the ring, as they were when the driver was built in 2,048 words.
--     desc, endpoint, transfer     an isochronous endpoint in its frames, and its only transfer
--     itd                          its descriptor, of which no microframe is active
--     driver, memory, controller   the driver's content, the words, and the controller's content before its first microframe
--     descs                        what the descriptor has
use Rattle.std.specs.Prelude.{true, false, [], ◌∷◌, slice_set, Some, None}
use Rattle.usb_base.specs.declared.endpoints.EpDesc.{EpDesc}
use Rattle.usb_base.specs.declared.packets.EpKind.TheVariants.{Iso}
use Rattle.usb_base.specs.declared.packets.Speed.TheVariants.{High}
use Rattle.usb_base.specs.declared.packets.Way.TheVariants.{Out}
use Rattle.word_mem.specs.Runs.{Run}
use Rattle.word_mem.specs.Memory.{Mem, with_word, with_states}
use Rattle.word_mem.specs.declared.blocks.BlockState.TheVariants.{Lent}
use Rattle.link_words.specs.Fields.{link_at}
use Rattle.mem_runs.specs.declared.slots.Slot.TheVariants.{Lends}
use Rattle.itd_sitd.specs.declared.itd.Itd.{Itd}
use Rattle.drv_chains.specs.declared.boundary.Boundary.TheVariants.{Seen}
use Rattle.drv_periodic_table.specs.declared.content.Removed.TheVariants as removed
use Rattle.drv_periodic_table.specs.Descriptors.{new_itd}
use Rattle.drv_table.specs.declared.content.Endpoint.{Endpoint}
use Rattle.drv_table.specs.declared.content.Reserve.{Reserve}
use Rattle.drv_table.specs.declared.content.Sort.TheVariants as sorts
use Rattle.drv_table.specs.declared.content.Transfer.{Transfer}
use Rattle.drv_table.specs.DriverContent.{DriverContent}
use Rattle.drv_table.specs.Opening.{opening, opening_memory}
use Rattle.hc_core.specs.Controller.{Content, content, new_control}
use Rattle.law_structures.specs.lent_structures.Structures.{Isochronous, StructureSets, put}
use Rattle.law_driver_ring.specs.PartOpened.{no_parts}
use Rattle.usb_base.specs.Rules.{first_rules}
use Rattle.drv_table.specs.declared.content.Part.TheVariants as parts

abbrev pub room : Reserve
room = record { endpoints = 1; transfers = 1; reports = 1; report_bytes = 0; rules = first_rules }

abbrev pub desc : EpDesc
desc = record { name = record { addr = 0; num = 0; way = Out }; speed = High; kind = Iso; max = 0; period = 8; multi = 1; hub = None; port = 0; tt = 0 }

abbrev pub endpoint : Endpoint
endpoint = record {
  desc = desc;
  placement = Some (record { period = 8; phase = 0; smask = 1; cmask = 0 });
  queue = 0;
  dummy = 0;
  next = None;
  ended = None;
  cancelled = false;
  linked = false;
  chained = true;
  gone = false;
}

abbrev pub transfer : Transfer
transfer = record { endpoint = 0; sort = sorts.Descriptor; first = 130; qtds = 0; place = 0; left = 0; most = 0; reported = true; released = false; part = parts.Own }

abbrev pub run : Run
run = record { first = 130; blocks = 2 }

abbrev pub itd : Itd
itd = record (new_itd desc 0 0 []) { link = link_at 0 }

abbrev pub new : DriverContent
new = (opening 2048 room).driver

abbrev pub driver : DriverContent
driver = record new {
  book = record { slots = slice_set new.book.slots 130 (Lends run); taken = [] };
  endpoints = endpoint ∷ [];
  transfers = transfer ∷ [];
  room = record room { endpoints = 0; transfers = 0 };
  periodic = record new.periodic { removals = record { what = removed.Descriptor 0; boundary = Seen } ∷ [] };
}

-- word 11 of the iTD tells one transaction, and each other word is 0 (3.3.4)
abbrev pub memory : Mem
memory = with_word (with_states (opening_memory 2048) run Lent) 4204 1

abbrev pub before : Content
before = content new_control (opening 2048 room).registers (opening_memory 2048)

abbrev pub controller : Content
controller = record before { memory = memory }

abbrev pub descs : StructureSets
descs = put no_parts 4160 4160 (Isochronous itd)
