-- How many events a visit of the walk of the frames has, told by the copy in hand and the time that is left (EHCI 1.0, 4.6, 4.7.1, 4.10, 4.10.3 and 4.12; USB 2.0, 5.11.3): each
-- transaction takes the least price or more, and between two of them few events come.
--     queue_rest, itd_rest, sitd_rest, hand_rest, visit_rest
--                              the most events of the visit that come before its next transaction, or its end; with none in hand no event of a visit
--     visit_ahead o left       the most events of the visit, with so much time left
--     ChainVisitsFall          each event with a copy in hand leaves fewer, and no more time
--     ChainFetchesBegin        a fetch leaves at most three before the first transaction, and the time as it was
use Rattle.std.specs.Prelude.{◌≡◌, ℕ, ◌+◌, ◌*◌, ◌/◌, ◌<◌, ◌≤◌, Bool, List, Option, Some, None, if◌then◌else◌}
use Rattle.usb_base.specs.declared.packets.Ask.{Ask}
use Rattle.usb_base.specs.declared.packets.Reply.{Reply}
use Rattle.toggle_error.specs.declared.host.Outcome.{Outcome}
use Rattle.hc_iso.specs.declared.held.IsoEnd.{IsoEnd}
use Rattle.hc_iso.specs.declared.held.SplitOutcome.{SplitOutcome}
use Rattle.periodic_walk.specs.declared.state.Hand.{Hand}
use Rattle.periodic_walk.specs.declared.state.Hand.TheVariants as hands
use Rattle.periodic_walk.specs.Place.{FramePlace}
use Rattle.periodic_walk.specs.Rows.{Leads}
use Rattle.claims_world.specs.Microframes.{least_in_frames}

abbrev pub queue_rest : Bool → Option Outcome → ℕ
queue_rest active (Some outcome) = 3
queue_rest active None = if active then 2 else 3

abbrev pub itd_rest : Option IsoEnd → ℕ
itd_rest None = 2
itd_rest (Some ended) = 1

abbrev pub sitd_rest : Option SplitOutcome → ℕ
sitd_rest None = 2
sitd_rest (Some outcome) = 1

abbrev pub hand_rest : Hand → ℕ
hand_rest (hands.Queue h) = queue_rest h.copy.queue_head.token.active h.copy.settled
hand_rest (hands.Itd h) = itd_rest h.ended
hand_rest (hands.Sitd h) = sitd_rest h.settled

abbrev pub visit_rest : Option Hand → ℕ
visit_rest None = 0
visit_rest (Some hand) = hand_rest hand

abbrev pub visit_ahead : Option Hand → ℕ → ℕ
visit_ahead o left = visit_rest o + 2 * (left / least_in_frames)

-- ---- an event, over each wire

pub record LeavesFewer (p new : FramePlace) : Type 0 where
  pub fewer : visit_ahead new.walk.hand new.walk.left < visit_ahead p.walk.hand p.walk.left
  pub time : new.walk.left ≤ p.walk.left

abbrev pub ChainVisitsFall : {W : Type 0} → (W → Ask → List ℕ → Reply → W → Type 0) → Type 0
ChainVisitsFall {W} transacts = (p new : FramePlace) (before after : W) (hand : Hand) → p.walk.hand ≡ Some hand → Leads transacts p before new after → LeavesFewer p new

pub record BeginsVisit (p new : FramePlace) : Type 0 where
  pub few : visit_rest new.walk.hand ≤ 3
  pub time : new.walk.left ≡ p.walk.left

abbrev pub ChainFetchesBegin : {W : Type 0} → (W → Ask → List ℕ → Reply → W → Type 0) → Type 0
ChainFetchesBegin {W} transacts = (p new : FramePlace) (before after : W) → p.walk.hand ≡ None → Leads transacts p before new after → BeginsVisit p new
