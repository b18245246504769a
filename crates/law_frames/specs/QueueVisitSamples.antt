-- A visit of worked rows, over the small memory of lent_structures: its queue head works on a qTD of two bytes, in microframe 0 of each frame, and leads to itself.
--     queue               the queue head
--     memory, parts       the words, and the structures that stand there
--     met                 whom the walk meets
--     copy                the copy in hand
--     heard, settled      two bytes, and what they come to
--     after               the parts after the write-back
--     high                a copy of one of up to two packets of one byte in a microframe
--     heard_one, one      the first of them, and what it comes to
use Rattle.std.specs.Prelude.{ℕ, [], ◌∷◌, ◌==◌, if◌then◌else◌, Option, Some, None}
use Rattle.usb_base.specs.declared.packets.Reply.{Reply}
use Rattle.usb_base.specs.declared.packets.Reply.TheVariants.{Bytes}
use Rattle.usb_base.specs.declared.packets.Pid.TheVariants.{Data0}
use Rattle.word_mem.specs.Memory.{Mem, with_word}
use Rattle.qh_qtd.specs.declared.queue_head.Qh.{Qh}
use Rattle.law_structures.specs.lent_structures.Structures.{QueueHead, StructureSets, put}
use Rattle.law_structures.specs.lent_structures.StructureSamples.{queue as first, element, pages, bytes, memory as small, parts as small_parts}
use Rattle.law_structures.specs.lent_structures.WriteBack.{Into, parts_back}
use Rattle.law_ring.specs.Hand.{Copy}
use Rattle.law_frames.specs.Met.{Kind, AQueue}
use Rattle.law_frames.specs.FrameHand.{QueueSettlement, settled_in, fetched_copy}
use Rattle.law_frames.specs.FrameEffects.{frame_settlement}

abbrev pub queue : Qh
queue = record first { smask = 1 }

abbrev pub memory : Mem
memory = with_word small 8 0x40000001

abbrev pub parts : StructureSets
parts = put small_parts 0 0 (QueueHead queue)

abbrev pub met : ℕ → Option Kind
met a = if a == 0 then Some AQueue else None

abbrev pub copy : Copy
copy = fetched_copy 0 queue

abbrev pub heard : Reply
heard = Bytes Data0 (1 ∷ 2 ∷ [])

abbrev pub settled : QueueSettlement
settled = frame_settlement 0 queue [] heard

abbrev pub after : StructureSets
after = parts_back parts 0 0 queue (settled_in copy settled) 2 settled.got (Into pages 100 bytes 0) element

abbrev pub high : Copy
high = fetched_copy 0 (record queue { max = 1; mult = 2 })

abbrev pub heard_one : Reply
heard_one = Bytes Data0 (1 ∷ [])

abbrev pub one : QueueSettlement
one = frame_settlement 0 high.queue [] heard_one
