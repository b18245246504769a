-- How many events one visit of the walk of the ring has (EHCI 1.0, 4.8, 4.10, 4.10.2 and 4.10.3), told by the copy in hand, so that the events of a microframe can be counted along a run.
--     copy_steps, ring_steps o     the most events that come with this copy in hand: a qTD that is taken, a transaction, its write-back; with none in hand no event of a visit
--     RingEventsFall transacts     each event with a copy in hand leaves fewer
--     RingFetchesBegin transacts   a fetch leaves at most three
use Rattle.std.specs.Prelude.{◌≡◌, ℕ, ◌<◌, ◌≤◌, Bool, List, Option, Some, None, if◌then◌else◌}
use Rattle.usb_base.specs.declared.packets.Ask.{Ask}
use Rattle.usb_base.specs.declared.packets.Reply.{Reply}
use Rattle.toggle_error.specs.declared.host.Outcome.{Outcome}
use Rattle.hc_copy.specs.declared.held.Held.{Held}
use Rattle.async_walk.specs.Rows.{WalkPlace, at_event, event_row, Leads}

abbrev pub copy_steps : Bool → Option Outcome → ℕ
copy_steps active (Some outcome) = 1
copy_steps active None = if active then 2 else 3

abbrev pub ring_steps : Option Held → ℕ
ring_steps None = 0
ring_steps (Some h) = copy_steps h.queue_head.token.active h.settled

abbrev pub RingEventsFall : {W : Type 0} → (W → Ask → List ℕ → Reply → W → Type 0) → Type 0
RingEventsFall {W} transacts = (p new : WalkPlace) (before after : W) (h : Held) → p.walk.held ≡ Some h → Leads transacts (event_row p) (at_event p) before new after
    → ring_steps new.walk.held < ring_steps p.walk.held

abbrev pub RingFetchesBegin : {W : Type 0} → (W → Ask → List ℕ → Reply → W → Type 0) → Type 0
RingFetchesBegin {W} transacts = (p new : WalkPlace) (before after : W) → p.walk.held ≡ None → Leads transacts (event_row p) (at_event p) before new after → ring_steps new.walk.held ≤ 3
