-- A queue head of an interrupt endpoint in the frames, for worked rows: that of `law_frames`'s sample, once it was halted at its qTD at 64. Another is published at 128,
-- behind it, and asks for no bytes.
--     halted_queue, halted_element   the queue head and that qTD
--     halted_part, halted_parts      its structures
--     halted_copy                    its copy in hand
--     both_out                       its qTDs that are out
--     lapsed                         the walk in microframe 3 of frame 5
use Rattle.std.specs.Prelude.{ℕ, true, false, List, [], ◌∷◌, None}
use Rattle.qh_qtd.specs.declared.qtd.Qtd.{Qtd}
use Rattle.qh_qtd.specs.declared.queue_head.Qh.{Qh}
use Rattle.periodic_walk.specs.Walk.{Walk, new_walk}
use Rattle.law_structures.specs.lent_structures.Structures.{QueueHead, Element, Buffer, Structures, StructureSets, with_structure}
use Rattle.law_structures.specs.lent_structures.StructureSamples.{element, pages, bytes}
use Rattle.law_ring.specs.Hand.{Copy}
use Rattle.law_ring.specs.HaltSamples.{published_element}
use Rattle.law_frames.specs.FrameHand.{fetched_copy}
use Rattle.law_frames.specs.QueueVisitSamples.{queue}

abbrev pub halted_queue : Qh
halted_queue = record queue { token = record queue.token { active = false; halted = true } }

abbrev pub halted_element : Qtd
halted_element = record element { next = record { t = false; address = 128 }; token = record element.token { active = false; halted = true } }

abbrev pub none : Structures
none a = None

abbrev pub head_part : Structures
head_part = with_structure none 0 (QueueHead halted_queue)

abbrev pub first_part : Structures
first_part = with_structure head_part 64 (Element halted_element)

abbrev pub both_part : Structures
both_part = with_structure first_part 128 (Element published_element)

abbrev pub halted_part : Structures
halted_part = with_structure both_part 100 (Buffer pages 100 bytes)

abbrev pub halted_parts : StructureSets
halted_parts n = halted_part

abbrev pub halted_copy : Copy
halted_copy = fetched_copy 0 halted_queue

abbrev pub both_out : List ℕ
both_out = 64 ∷ 128 ∷ []

abbrev pub lapsed : Walk
lapsed = record new_walk { index = 43 }
