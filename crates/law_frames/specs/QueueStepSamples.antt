-- A walk of worked rows, over the small memory of `queue_visit_worked`.
--     fetched, made       its queue head is in hand, and its transaction was made
--     is_heard            a wire on which two bytes are heard, whose count of transactions steps
use Rattle.std.specs.Prelude.{◌≡◌, ℕ, ◌+◌, List, [], Some}
use Rattle.usb_base.specs.declared.packets.Ask.{Ask}
use Rattle.usb_base.specs.declared.packets.Reply.{Reply}
use Rattle.link_words.specs.declared.kinds.Link.TheVariants as links
use Rattle.op_registers.specs.RegisterFile.{reset_file}
use Rattle.hc_interrupt.specs.Turns.{planned}
use Rattle.periodic_walk.specs.declared.state.Hand.TheVariants as hands
use Rattle.periodic_walk.specs.Walk.{new_walk}
use Rattle.periodic_walk.specs.Place.{FramePlace, place}
use Rattle.periodic_walk.specs.Queue.{queue_left_by}
use Rattle.law_frames.specs.QueueVisitLaws.{held_copy}
use Rattle.law_frames.specs.QueueVisitSamples.{queue, memory, copy, heard}

abbrev pub fetched : FramePlace
fetched = place (record new_walk { cursor = links.Qh 0; hand = Some (hands.Queue (record { copy = held_copy copy; made = 0 })); left = 125000000 }) reset_file memory

abbrev pub made : FramePlace
made = queue_left_by (planned queue) [] (record { copy = held_copy copy; made = 0 }) fetched heard

abbrev pub is_heard : ℕ → Ask → List ℕ → Reply → ℕ → Type 0
is_heard n ask out reply later = (reply ≡ heard) × (later ≡ n + 1)
