-- A split transaction of worked rows, over the small memory of lent_structures (EHCI 1.0, 4.12.2): the queue head of a full-speed interrupt IN below a hub, with a
-- start-split in microframe 0 and complete-splits in 2, 3 and 4, works on a qTD of two bytes, and ends its chain.
--     split_queue         the queue head; `ended_queue` and `full_queue` are without its masks, and without its speed
--     memory, parts       the words, and the structures that stand there
--     copy, started       its copy, and what the start-split in frame 5 comes to
--     waiting             the copy after its write-back
--     heard, ended        two bytes, and what the complete-split in microframe 2 comes to
--     fetched, begun      the walk in that frame with the copy in hand, and after the start-split
--     completing          the walk in microframe 2 with the copy in hand that waits
--     missed              what it comes to where no complete-split was made in microframe 2
--     is_silent           a wire on which nothing is heard, whose count of transactions steps
--     hears               one on which two bytes are heard
--     first, first_read, first_made, first_written, first_done
--                         the walk of microframe 0: it begins, the queue head is read, has its start-split and is written back, and the chain has ended
--     second, second_read, second_made, second_written, second_done
--                         the walk of microframe 2 after it, with the complete-split
use Rattle.std.specs.Prelude.{◌≡◌, ℕ, ◌+◌, true, List, [], ◌∷◌, Some}
use Rattle.usb_base.specs.declared.packets.Ask.{Ask}
use Rattle.usb_base.specs.declared.packets.Reply.{Reply}
use Rattle.usb_base.specs.declared.packets.Reply.TheVariants.{Bytes, Silent}
use Rattle.usb_base.specs.declared.packets.Pid.TheVariants.{Data0}
use Rattle.word_mem.specs.Memory.{Mem, with_word}
use Rattle.link_words.specs.declared.kinds.Link.TheVariants as links
use Rattle.op_registers.specs.RegisterFile.{reset_file}
use Rattle.qh_qtd.specs.declared.queue_head.Qh.{Qh}
use Rattle.hc_interrupt.specs.Turns.{planned}
use Rattle.periodic_walk.specs.declared.state.Hand.TheVariants as hands
use Rattle.periodic_walk.specs.Walk.{Walk, new_walk, begun as microframe, stopped}
use Rattle.periodic_walk.specs.Place.{FramePlace, place}
use Rattle.periodic_walk.specs.Chain.{fetched_queue}
use Rattle.periodic_walk.specs.Queue.{queue_left_by, wrote}
use Rattle.law_structures.specs.lent_structures.Structures.{QueueHead, StructureSets, put}
use Rattle.law_structures.specs.lent_structures.StructureSamples.{queue as sample, memory as small, parts as small_parts}
use Rattle.law_ring.specs.Hand.{Copy}
use Rattle.law_frames.specs.FrameHand.{QueueSettlement, fetched_copy}
use Rattle.law_frames.specs.FrameEffects.{frame_settlement, queue_written, missed_settlement}
use Rattle.law_frames.specs.QueueVisitLaws.{held_copy, held_settled}

abbrev pub ended_queue : Qh
ended_queue = record sample { link = record { t = true; typ = 1; address = 0 } }

abbrev pub full_queue : Qh
full_queue = record ended_queue { eps = 0; max = 64 }

abbrev pub split_queue : Qh
split_queue = record full_queue { smask = 0x01; cmask = 0x1C; hub = 9; port = 2 }

-- words 0 to 2
abbrev pub memory : Mem
memory = with_word (with_word (with_word small 0 3) 4 0x400105) 8 0x41091C01

abbrev pub parts : StructureSets
parts = put (put (put small_parts 0 0 (QueueHead ended_queue)) 0 0 (QueueHead full_queue)) 0 0 (QueueHead split_queue)

abbrev pub copy : Copy
copy = fetched_copy 0 split_queue

abbrev pub started : QueueSettlement
started = frame_settlement 40 split_queue [] Silent

abbrev pub waiting : Copy
waiting = record copy { queue = queue_written copy started }

abbrev pub heard : Reply
heard = Bytes Data0 (1 ∷ 2 ∷ [])

abbrev pub ended : QueueSettlement
ended = frame_settlement 42 waiting.queue [] heard

abbrev pub fetched : FramePlace
fetched = place (record new_walk { cursor = links.Qh 0; index = 40; hand = Some (hands.Queue (record { copy = held_copy copy; made = 0 })); left = 125000000 }) reset_file memory

abbrev pub begun : FramePlace
begun = queue_left_by (planned split_queue) [] (record { copy = held_copy copy; made = 0 }) fetched Silent

abbrev pub completing : Walk
completing = record new_walk {
  cursor = links.Qh 0;
  index = 42;
  hand = Some
      (hands.Queue (record { copy = held_copy waiting; made = 0 }));
  left = 125000000;
}

abbrev pub missed : QueueSettlement
missed = missed_settlement waiting.queue

abbrev pub is_silent : ℕ → Ask → List ℕ → Reply → ℕ → Type 0
is_silent n ask out reply later = (reply ≡ Silent) × (later ≡ n + 1)

abbrev pub hears : ℕ → Ask → List ℕ → Reply → ℕ → Type 0
hears n ask out reply later = (reply ≡ heard) × (later ≡ n + 1)

-- ---- both microframes

abbrev pub first : FramePlace
first = place (record new_walk { cursor = links.Qh 0; index = 40; left = 125000000 }) (record reset_file { run = true }) memory

abbrev pub first_read : FramePlace
first_read = record first { walk = fetched_queue 0 split_queue first.walk }

abbrev pub first_made : FramePlace
first_made = queue_left_by (planned split_queue) [] (record { copy = held_copy copy; made = 0 }) first_read Silent

abbrev pub first_written : FramePlace
first_written = wrote (record { copy = held_settled copy started; made = 1 }) started.outcome first_made

abbrev pub first_done : FramePlace
first_done = record first_written { walk = stopped first_written.walk }

abbrev pub second : FramePlace
second = record first_done { walk = microframe first_done.walk (links.Qh 0) 42 125000000 }

abbrev pub second_read : FramePlace
second_read = record second { walk = fetched_queue 0 waiting.queue second.walk }

abbrev pub second_made : FramePlace
second_made = queue_left_by (planned waiting.queue) [] (record { copy = held_copy waiting; made = 0 }) second_read heard

abbrev pub second_written : FramePlace
second_written = wrote (record { copy = held_settled waiting ended; made = 1 }) ended.outcome second_made

abbrev pub second_done : FramePlace
second_done = record second_written { walk = stopped second_written.walk }
