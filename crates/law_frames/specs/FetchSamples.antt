-- Walks of worked rows, over the frame of an iTD and a queue head of part_worked.
--     is_asked                  a wire that is asked, whose count of transactions steps
--     behind, queue_read        the cursor is behind the iTD, and the queue head was read
--     last                      the cursor is at the end of the chain
use Rattle.std.specs.Prelude.{◌≡◌, ℕ, ◌+◌, List}
use Rattle.usb_base.specs.declared.packets.Ask.{Ask}
use Rattle.usb_base.specs.declared.packets.Reply.{Reply}
use Rattle.link_words.specs.declared.kinds.Link.TheVariants as links
use Rattle.periodic_walk.specs.Place.{FramePlace}
use Rattle.law_frames.specs.FrameHand.{OfQueue, frame_held, fetched_copy}
use Rattle.law_frames.specs.PartSamples.{queue, at}

abbrev pub is_asked : ℕ → Ask → List ℕ → Reply → ℕ → Type 0
is_asked n ask out reply later = later ≡ n + 1

abbrev pub behind : FramePlace
behind = record at { walk = record at.walk { cursor = links.Qh 128 } }

abbrev pub queue_read : FramePlace
queue_read = record behind { walk = record behind.walk { hand = frame_held (OfQueue (fetched_copy 128 queue) 0) } }

abbrev pub last : FramePlace
last = record at { walk = record at.walk { cursor = links.End } }
