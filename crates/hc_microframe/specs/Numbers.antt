-- The state of a controller in the middle of a microframe, in numbers. A number that names nothing counts as that of nothing.
--     outcome_named n moved      what a transaction of a queue head came to; end_named and split_named of isochronous ones
--     heard_in h                 what was heard
--     queue_in q, itd_in v, sitd_in v, hand_in h      copies in hand
--     ring_in w                  the walk of the ring that has these numbers, if one has; frame_in w of the frame's chain
--     control_of w               the controller that has these numbers, if one has
use Rattle.std.specs.Prelude.{ℕ, ◌==◌, ◌&&◌, nat_le, if◌then◌else◌, take, Option, Some, None}
use Rattle.usb_base.specs.declared.endpoints.EndCause.TheVariants as causes
use Rattle.usb_base.specs.declared.packets.Reply.{Reply}
use Rattle.usb_base.specs.declared.packets.Reply.TheVariants.{Silent}
use Rattle.link_words.specs.Links.{link_read}
use Rattle.toggle_error.specs.declared.host.Outcome.{Outcome}
use Rattle.toggle_error.specs.declared.host.Outcome.TheVariants as outcomes
use Rattle.hc_iso.specs.declared.held.IsoEnd.{IsoEnd}
use Rattle.hc_iso.specs.declared.held.IsoEnd.TheVariants.{Whole, Failed}
use Rattle.hc_iso.specs.declared.held.SplitOutcome.{SplitOutcome}
use Rattle.hc_iso.specs.declared.held.SplitOutcome.TheVariants as splits
use Rattle.async_walk.specs.declared.state.ReloadMode.{ReloadMode}
use Rattle.async_walk.specs.declared.state.ReloadMode.TheVariants.{WaitHead, Reload, WaitStart}
use Rattle.async_walk.specs.declared.state.Cursor.{Cursor}
use Rattle.async_walk.specs.declared.state.Cursor.TheVariants.{Start, At}
use Rattle.async_walk.specs.declared.parts.HeldParts.{HeldParts}
use Rattle.async_walk.specs.declared.parts.RingParts.{RingParts}
use Rattle.async_walk.specs.Walk.{Walk as RingWalk}
use Rattle.async_walk.specs.Parts.{walk_from as ring_from}
use Rattle.periodic_walk.specs.declared.hand_parts.ItdParts.{ItdParts}
use Rattle.periodic_walk.specs.declared.hand_parts.SitdParts.{SitdParts}
use Rattle.periodic_walk.specs.declared.hand_parts.HandParts.{HandParts}
use Rattle.periodic_walk.specs.declared.hand_parts.HandParts.TheVariants.{Queue, Itd, Sitd}
use Rattle.periodic_walk.specs.declared.parts.FrameParts.{FrameParts}
use Rattle.periodic_walk.specs.Walk.{Walk as FrameWalk}
use Rattle.periodic_walk.specs.Parts.{walk_from as frame_from}
use Rattle.hc_core.specs.declared.controller.MicroframePart.{MicroframePart}
use Rattle.hc_core.specs.declared.controller.MicroframePart.TheVariants.{Over, Periodic, Asynchronous}
use Rattle.hc_core.specs.Controller.{Control}
use Rattle.hc_core.specs.Parts.{of_parts}
use Rattle.hc_microframe.specs.declared.numbers.HeardWords.{HeardWords}
use Rattle.hc_microframe.specs.declared.numbers.QueueWords.{QueueWords}
use Rattle.hc_microframe.specs.declared.numbers.ItdWords.{ItdWords}
use Rattle.hc_microframe.specs.declared.numbers.SitdWords.{SitdWords}
use Rattle.hc_microframe.specs.declared.whole.HandWords.{HandWords}
use Rattle.hc_microframe.specs.declared.whole.RingWords.{RingWords}
use Rattle.hc_microframe.specs.declared.whole.FrameWords.{FrameWords}
use Rattle.hc_microframe.specs.declared.whole.Whole.{Whole as WholeState}
use Rattle.hc_microframe.specs.Answers.{pid_named, hand, packet}

-- ---- names

abbrev pub outcome_named : ℕ → ℕ → Option Outcome
outcome_named n moved =
    if n == 1 then Some (outcomes.Moved moved)
    else if n == 2 then Some outcomes.Discarded
    else if n == 3 then Some outcomes.Nak
    else if n == 4 then Some outcomes.Wait
    else if n == 5 then Some outcomes.Error
    else if n == 6 then Some (outcomes.Halt causes.Stall)
    else if n == 7 then Some (outcomes.Halt causes.Error)
    else if n == 8 then Some (outcomes.Halt causes.Babble)
    else if n == 9 then Some (outcomes.Halt causes.Miss)
    else if n == 10 then Some (outcomes.Halt causes.Cancel)
    else None

abbrev pub end_named : ℕ → Option IsoEnd
end_named n = if n == 1 then Some Whole else if n == 2 then Some Failed else None

abbrev pub split_named : ℕ → ℕ → Option SplitOutcome
split_named n moved =
    if n == 1 then Some (splits.Moved moved) else if n == 2 then Some splits.Nothing else if n == 3 then Some splits.Failed else None

abbrev pub mode_named : ℕ → ReloadMode
mode_named n = if n == 1 then Reload else if n == 2 then WaitStart else WaitHead

abbrev pub part_named : ℕ → MicroframePart
part_named n = if n == 1 then Periodic else if n == 2 then Asynchronous else Over

-- ---- what was heard, and copies in hand

abbrev pub heard_in : HeardWords → Reply
heard_in h =
    if h.kind == 1 then hand (pid_named h.pid)
    else if (h.kind == 2) && nat_le h.len 1024 then packet (pid_named h.pid) (take h.len h.bytes)
    else Silent

abbrev pub queue_in : QueueWords → HeldParts
queue_in q = record { at = q.at; words = q.words; settled = outcome_named q.settled q.moved }

abbrev pub itd_in : ItdWords → ItdParts
itd_in v = record {
  at = v.at;
  words = v.words;
  number = v.number;
  slot = v.slot;
  made = v.made;
  rest = v.rest;
  moved = v.moved;
  ended = end_named v.ended;
}

abbrev pub sitd_in : SitdWords → SitdParts
sitd_in v = record { at = v.at; words = v.words; settled = split_named v.settled v.moved }

abbrev pub hand_in : HandWords → Option HandParts
hand_in h =
    if h.kind == 1 then Some (Queue (record { copy = queue_in h.queue; made = h.queue.made }))
    else if h.kind == 2 then Some (Itd (itd_in h.itd))
    else if h.kind == 3 then Some (Sitd (sitd_in h.sitd))
    else None

-- ---- the walks

-- the cursor is at the start of the ring, or at what this link word leads to
abbrev pub cursor_in : ℕ → ℕ → Cursor
cursor_in begun word = if begun == 1 then At (link_read word) else Start

abbrev pub held_in : ℕ → QueueWords → Option HeldParts
held_in holds q = if holds == 1 then Some (queue_in q) else None

abbrev pub ring_parts_in : RingWords → RingParts
ring_parts_in w = record {
  cursor = cursor_in w.begun w.cursor;
  held = held_in w.holds w.queue;
  left = record { 0 = w.left };
  mode = mode_named w.mode;
  first = w.first == 1;
}

abbrev pub ring_in : RingWords → Option RingWalk
ring_in w = ring_from (ring_parts_in w) (heard_in w.heard)

abbrev pub frame_parts_in : FrameWords → FrameParts
frame_parts_in w = record { cursor = link_read w.cursor; index = w.index; hand = hand_in w.hand; left = record { 0 = w.left } }

abbrev pub frame_in : FrameWords → Option FrameWalk
frame_in w = frame_from (frame_parts_in w) (heard_in w.heard) (take w.got_len w.got)

-- ---- the controller

abbrev pub of_walks : MicroframePart → Option FrameWalk → Option RingWalk → Option Control
of_walks part None ring = None
of_walks part (Some frame) None = None
of_walks part (Some frame) (Some ring) = Some (of_parts part frame ring)

abbrev pub control_of : WholeState → Option Control
control_of w = of_walks (part_named w.part) (frame_in w.frame) (ring_in w.ring)
