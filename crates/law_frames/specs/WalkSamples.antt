-- The places of a worked walk, over the frame of an iTD and a queue head of `part_worked`'s rows, while the controller runs.
--     hears                   over this wire two bytes come, whatever is asked; it counts what it was asked
--     first                   the microframe begins, with 125 microseconds left
--     itd_read, itd_moved, itd_written
--                             the iTD was read, had its transaction, and was written back
--     queue_read, queue_passed  the queue head was read, and passed
--     done                    the chain has ended
use Rattle.std.specs.Prelude.{◌≡◌, ℕ, ◌+◌, true, List}
use Rattle.usb_base.specs.declared.packets.Ask.{Ask}
use Rattle.usb_base.specs.declared.packets.Reply.{Reply}
use Rattle.op_registers.specs.RegisterFile.{reset_file}
use Rattle.hc_iso.specs.declared.held.IsoEnd.TheVariants.{Whole}
use Rattle.hc_iso.specs.Itd.{itd_transaction}
use Rattle.periodic_walk.specs.Walk.{stopped}
use Rattle.periodic_walk.specs.Place.{FramePlace, passing}
use Rattle.periodic_walk.specs.Chain.{fetched_queue, fetched_itd_walk}
use Rattle.periodic_walk.specs.Itd.{wrote, itd_left_by}
use Rattle.law_frames.specs.PartSamples.{itd, queue, at, in_hand, heard, moved}

abbrev pub hears : ℕ → Ask → List ℕ → Reply → ℕ → Type 0
hears n ask out reply later = (reply ≡ heard) × (later ≡ n + 1)

abbrev pub first : FramePlace
first = record at { walk = record at.walk { left = 125000000 }; registers = record reset_file { run = true } }

abbrev pub itd_read : FramePlace
itd_read = record first { walk = fetched_itd_walk 64 itd first.walk }

abbrev pub itd_moved : FramePlace
itd_moved = itd_left_by (itd_transaction in_hand.held) in_hand.held itd_read heard

abbrev pub itd_written : FramePlace
itd_written = wrote moved.held Whole itd_moved

abbrev pub queue_read : FramePlace
queue_read = record itd_written { walk = fetched_queue 128 queue itd_written.walk }

abbrev pub queue_passed : FramePlace
queue_passed = passing queue.link queue_read

abbrev pub done : FramePlace
done = record queue_passed { walk = stopped queue_passed.walk }
