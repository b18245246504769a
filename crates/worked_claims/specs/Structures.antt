-- A driver with one endpoint, of which the queue head stands in block 130, and words that tell its ring and its frame list, and words and
-- drivers by which they aren't told (EHCI 1.0, 3.1, 3.6, 4.6 and 4.8).
--     disk                   a bulk endpoint
--     with_one d x           the driver with this endpoint alone, no member of the frame list, and no unfinished command
--     opened d               .. with the disk's, linked in the ring
--     ring_words             the head of the ring, which leads to block 130, and the queue head there
--     told                   a frame list that leads nowhere, and these
--     over m ws              the memory with these words
--     RingIsRead, ListIsRead, WordsAreItsOwn
--                            they tell ring and frame list, and the queue head has the words of its endpoint
--     UnlinkedBreaks         the ring isn't told where its head leads to itself
--     OutBreaks              nor where the endpoint isn't linked, though no one cancelled it
--     StrayBreaks            the frame list isn't told where an element leads to what is no member
--     of_kind kind           the endpoint with another kind
--     OutOfFramesBreaks      nor where an interrupt endpoint isn't in its frames, though no one cancelled it
--     microphone, descriptor_of y, with_descriptor d y
--                            the driver with an isochronous endpoint alone, and a descriptor of its
--     UnlistedBreaks         nor where a descriptor that waits isn't linked
--     OtherDeviceBreaks      words 1 and 2 aren't the endpoint's where they are all 0
--     StrayCursorBreaks      the walk doesn't stand at a queue head of nobody's
--     ErrorBreaks            with Host System Error at 1 nothing is in place
use Rattle.std.specs.Prelude.{ℕ, true, false, List, [], ◌∷◌, ◌++◌, drop, replicate, None}
use Rattle.usb_base.specs.declared.endpoints.EpDesc.{EpDesc}
use Rattle.usb_base.specs.declared.packets.EpKind.{EpKind}
use Rattle.usb_base.specs.declared.packets.EpKind.TheVariants as kinds
use Rattle.usb_base.specs.declared.packets.Speed.TheVariants as speeds
use Rattle.usb_base.specs.declared.packets.Way.TheVariants as ways
use Rattle.word_mem.specs.Memory.{Mem}
use Rattle.link_words.specs.declared.kinds.Link.TheVariants as links
use Rattle.qh_qtd.specs.QueueHead.{qh_words}
use Rattle.drv_periodic.specs.Periodic.{new_list}
use Rattle.drv_table.specs.declared.content.Endpoint.{Endpoint}
use Rattle.drv_table.specs.declared.content.Sort.TheVariants as sorts
use Rattle.drv_table.specs.declared.content.Transfer.{Transfer}
use Rattle.drv_table.specs.DriverContent.{DriverContent}
use Rattle.drv_table.specs.Offers.{new_endpoint}
use Rattle.drv_table.specs.Words.{head_block, opening_head, queue_head, queue_head_link}
use Rattle.async_walk.specs.declared.state.Cursor.TheVariants as cursors
use Rattle.bus_wire.specs.Bus.{Fixed}
use Rattle.bus_world.specs.World.{World}
use Rattle.claims_driver.specs.InPlace.{AreFixed}
use Rattle.claims_world.specs.Memory.{IsWalking, ReadsFrameList, ReadsRing, RunsInPlace}

abbrev pub disk : EpDesc
disk = record {
  name = record { addr = 3; num = 1; way = ways.In };
  speed = speeds.High;
  kind = kinds.Bulk;
  max = 512;
  period = 0;
  multi = 1;
  hub = None;
  port = 0;
  tt = 0;
}

abbrev pub with_one : DriverContent → Endpoint → DriverContent
with_one d x = record d {
  endpoints = x ∷ [];
  transfers = [];
  command = None;
  waiting = [];
  rung = [];
  periodic = record d.periodic { list = new_list 0 0 0 };
}

abbrev pub opened : DriverContent → DriverContent
opened d = with_one d (new_endpoint disk 130 132)

-- from block 128 on; four words are left to the end of a run of two blocks
abbrev pub ring_words : List ℕ
ring_words =
    queue_head_link 130
    ∷ (drop 1 (qh_words opening_head) ++ 0 ∷ 0 ∷ 0 ∷ 0 ∷ (qh_words (queue_head disk head_block 132) ++ 0 ∷ 0 ∷ 0 ∷ 0 ∷ []))

abbrev pub told : List ℕ
told = replicate 1024 1 ++ ring_words

abbrev pub over : Mem → List ℕ → Mem
over m ws = record m { words = ws }

-- ---- they are told

abbrev pub RingIsRead : Type 0
RingIsRead = (m : Mem) (d : DriverContent) → ReadsRing (over m told) (opened d)

abbrev pub ListIsRead : Type 0
ListIsRead = (m : Mem) (d : DriverContent) → ReadsFrameList (over m told) (opened d)

abbrev pub WordsAreItsOwn : Type 0
WordsAreItsOwn = (m : Mem) (d : DriverContent) → AreFixed (over m told) (opened d)

-- ---- the ring isn't

abbrev pub UnlinkedBreaks : Type 0
UnlinkedBreaks = (m : Mem) (d : DriverContent) → ReadsRing (over m (replicate 1024 1 ++ queue_head_link head_block ∷ [])) (opened d) → ⊥

abbrev pub OutBreaks : Type 0
OutBreaks = (m : Mem) (d : DriverContent) → ReadsRing m (with_one d (record (new_endpoint disk 130 132) { linked = false })) → ⊥

-- ---- the frame list isn't

abbrev pub StrayBreaks : Type 0
StrayBreaks = (m : Mem) (d : DriverContent) → ReadsFrameList (over m (4162 ∷ [])) (opened d) → ⊥

-- as it is before its open has placed it
abbrev pub of_kind : EpKind → Endpoint
of_kind kind = new_endpoint (record disk { kind = kind }) 130 132

abbrev pub OutOfFramesBreaks : Type 0
OutOfFramesBreaks = (m : Mem) (d : DriverContent) → ReadsFrameList m (with_one d (of_kind kinds.Interrupt)) → ⊥

abbrev pub microphone : Endpoint
microphone = record (of_kind kinds.Iso) { linked = false; chained = true }

abbrev pub descriptor_of : Transfer → Transfer
descriptor_of y = record y { endpoint = 0; sort = sorts.Descriptor; reported = false }

abbrev pub with_descriptor : DriverContent → Transfer → DriverContent
with_descriptor d y = record (with_one d microphone) { transfers = descriptor_of y ∷ [] }

abbrev pub UnlistedBreaks : Type 0
UnlistedBreaks = (m : Mem) (d : DriverContent) (y : Transfer) → ReadsFrameList m (with_descriptor d y) → ⊥

-- ---- queue heads, the walk and the controller aren't

abbrev pub OtherDeviceBreaks : Type 0
OtherDeviceBreaks = (m : Mem) (d : DriverContent) → AreFixed (over m []) (opened d) → ⊥

abbrev pub strays : World → World
strays w = record w {
  driver = opened w.driver;
  control = record w.control { walk = record w.control.walk { cursor = cursors.At (links.Qh 6400); held = None } };
}

abbrev pub StrayCursorBreaks : Type 0
StrayCursorBreaks = (w : World) → IsWalking (strays w) → ⊥

abbrev pub failed : World → World
failed w = record w { registers = record w.registers { host_system_error = true } }

abbrev pub ErrorBreaks : Type 0
ErrorBreaks = (fixed : Fixed) (w : World) → RunsInPlace fixed (failed w) → ⊥
