-- A keyboard behind a hub at its start-split and at its first complete-split, for worked rows (EHCI 1.0, 4.12.2.4).
--     starting               the world of a keyboard and a disk 25 events and commands after the keyboard was opened, but that FRINDEX
--                            is 1,023: microframe 0 of frame 128 is about to begin, and eight bytes are asked of the keyboard
--     started_in w k         .. and k events of the controller later, from such a world w on
--     made_in w k            the transactions that were written back in the microframe until then
--     its_queue              the byte address of the keyboard's queue head
--     its_head w             the keyboard's queue head in memory
--     pressed_head           it, as microframe 2 begins in which the host hears that a key is down
--     other_toggle q         the queue head q, but that its toggle is the other one
--     eight_bytes            what the keyboard tells
--     too_late               the world in which the keyboard's queue head waits for its complete-splits, but that microframe 3 of frame
--                            128 is about to begin: microframe 2 has had none
use Rattle.std.specs.Prelude.{ℕ, not, List, [], ◌∷◌}
use Rattle.word_mem.specs.Views.{words_at}
use Rattle.qh_qtd.specs.declared.queue_head.Qh.{Qh}
use Rattle.qh_qtd.specs.QueueHead.{qh_at}
use Rattle.bus_wire.specs.Bus.{fixed_of}
use Rattle.bus_world.specs.World.{World}
use Rattle.bus_world.specs.Orders.{ticks}
use Rattle.claims_world.specs.Carried.{carried_from}
use Rattle.claims_world.specs.QueuesMade.{QueueMade, made_next}
use Rattle.law_world.specs.memory.Samples.{keyboard_and_disk, typed_at}
use Rattle.law_microframes.specs.due.repeats.Samples.{waiting, waits_in, pressed}

abbrev pub starting : World
starting = record (typed_at 25) { registers = record (typed_at 25).registers { frame_index = 1023 } }

abbrev pub too_late : World
too_late = record waiting { registers = record waiting.registers { frame_index = 1026 } }

abbrev pub started_in : World → ℕ → World
started_in w k = (ticks (fixed_of keyboard_and_disk) (waits_in w) k).world

abbrev pub made_in : World → ℕ → List QueueMade
made_in w k = carried_from made_next (fixed_of keyboard_and_disk) (waits_in w) [] k

abbrev pub its_queue : ℕ
its_queue = 4160

abbrev pub its_head : World → Qh
its_head w = qh_at (words_at w.memory its_queue 12)

abbrev pub pressed_head : Qh
pressed_head = its_head (started_in pressed 1)

abbrev pub other_toggle : Qh → Qh
other_toggle q = record q { token = record q.token { toggle = not q.token.toggle } }

abbrev pub eight_bytes : List ℕ
eight_bytes = 0 ∷ 0 ∷ 4 ∷ 0 ∷ 0 ∷ 0 ∷ 0 ∷ 0 ∷ []
