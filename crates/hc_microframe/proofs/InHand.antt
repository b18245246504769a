-- What asks has a copy in hand.
use Rattle.std.proofs.Common.{◌≡◌, ℕ, true, Option, None, Some, refl}
use Rattle.std.specs.Prelude.{is_some}
use Rattle.std.proofs.lemmas.Bool.{false≢true}
use Rattle.hc_copy.specs.declared.held.Held.{Held}
use Rattle.hc_copy.specs.declared.held.Transaction.{Transaction}
use Rattle.async_walk.specs.declared.rows.WalkRow.{WalkRow}
use Rattle.async_walk.specs.declared.rows.WalkRow.TheVariants as rows
use Rattle.async_walk.specs.Walk.{held_address}
use Rattle.async_walk.specs.Rows.{WalkPlace, at_event, event_row, Sends, Leads}
use Rattle.periodic_walk.specs.declared.state.Hand.{Hand}
use Rattle.periodic_walk.specs.Walk.{held_address as frame_address}
use Rattle.periodic_walk.specs.Place.{FramePlace, HasEffect}
use Rattle.periodic_walk.specs.Rows.{effect_at}
use Rattle.hc_core.specs.declared.controller.ControllerRow.{ControllerRow}
use Rattle.hc_core.specs.declared.controller.ControllerRow.TheVariants as events
use Rattle.hc_core.specs.Controller.{Content, address_in_hand, either_address, microframe_row, HasRow, entered, walk_place, frame_place}
use Rattle.hc_microframe.specs.Answers.{Told, Begins, Answers}
use Rattle.hc_microframe.specs.Microframe.{IsEvent}
use Rattle.hc_microframe.proofs.HeldUp.{silent}

sends_held : (t : Transaction) (p : WalkPlace) (held : Option Held) (new : WalkPlace) (before after : Told)
    → before.wanted ≡ None → is_some after.wanted ≡ true → Sends Answers t p held before new after → is_some held ≡ true
sends_held t p None new before after none some l = silent _ before after none some l.1
sends_held t p (Some h) new before after none some l = refl

ring_held : (row : WalkRow) (p new : WalkPlace) (before after : Told) → before.wanted ≡ None → is_some after.wanted ≡ true
    → Leads Answers row p before new after → is_some p.walk.held ≡ true
ring_held (rows.Transact t) p new before after none some l = sends_held t p p.walk.held new before after none some l
ring_held rows.Fault p new before after none some l = silent _ before after none some l.1
ring_held rows.HeadEnds p new before after none some l = silent _ before after none some l.1
ring_held (rows.Fetch at q) p new before after none some l = silent _ before after none some l.1
ring_held rows.Skip p new before after none some l = silent _ before after none some l.1
ring_held rows.OutOfTime p new before after none some l = silent _ before after none some l.1
ring_held (rows.Advance at t) p new before after none some l = silent _ before after none some l.1
ring_held rows.WriteBack p new before after none some l = silent _ before after none some l.1

frame_held : (p : FramePlace) (hand : Option Hand) (new : FramePlace) (before after : Told) → before.wanted ≡ None
    → is_some after.wanted ≡ true → HasEffect Answers (effect_at p hand) before new after → is_some hand ≡ true
frame_held p None new before after none some l = silent _ before after none some l.1
frame_held p (Some h) new before after none some l = refl

of_frame : (hand : Option Hand) (other : Option ℕ) → is_some hand ≡ true → is_some (either_address (frame_address hand) other) ≡ true
of_frame None other some = absurd (false≢true some)
of_frame (Some h) other some = refl

of_ring : (first : Option ℕ) (held : Option Held) → is_some held ≡ true → is_some (either_address first (held_address held)) ≡ true
of_ring (Some at) held some = refl
of_ring None None some = absurd (false≢true some)
of_ring None (Some h) some = refl

row_held : (row : ControllerRow) (old new : Content) (before after : Told) → before.wanted ≡ None → is_some after.wanted ≡ true
    → HasRow Begins Answers row old before new after → is_some (address_in_hand old.control) ≡ true
row_held events.Idle old new before after none some l = silent _ before after none some l.1
row_held events.Begin old new before after none some l = silent _ before after none some l.asked.1
row_held events.Frame old new before after none some l =
    of_frame old.control.frame.hand (held_address old.control.walk.held)
    (frame_held (frame_place old) old.control.frame.hand (frame_place new) before after none some l.walked)
row_held events.Enter old new before after none some l =
    absurd (false≢true
    (ring_held (event_row (walk_place (entered old))) (at_event (walk_place (entered old))) (walk_place new) before after none some
    l.walked))
row_held events.Go old new before after none some l =
    of_ring (frame_address old.control.frame.hand) old.control.walk.held
    (ring_held (event_row (walk_place old)) (at_event (walk_place old)) (walk_place new) before after none some l.walked)
row_held events.End old new before after none some l = silent _ before after none some l.1

pub asks_in_hand : (old new : Content) (before after : Told) → before.wanted ≡ None → is_some after.wanted ≡ true
    → IsEvent old before new after → is_some (address_in_hand old.control) ≡ true
asks_in_hand old new before after none some e = row_held (microframe_row old.registers old.control) old new before after none some e
