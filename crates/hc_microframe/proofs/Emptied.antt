-- Where no answer is left none is left after an event.
use Rattle.std.proofs.Common.{◌≡◌, Bool, true, false, List, [], ◌∷◌, Option, None, Some, ap, ◌∙◌}
use Rattle.hc_copy.specs.Buffer.{Reading}
use Rattle.hc_copy.specs.declared.held.Held.{Held}
use Rattle.hc_copy.specs.declared.held.Transaction.{Transaction}
use Rattle.async_walk.specs.declared.rows.WalkRow.{WalkRow}
use Rattle.async_walk.specs.declared.rows.WalkRow.TheVariants as rows
use Rattle.async_walk.specs.Rows.{WalkPlace, at_event, event_row, SentAt, Sends, Leads}
use Rattle.periodic_walk.specs.Place.{FramePlace, Effect, HasEffect}
use Rattle.periodic_walk.specs.Place.Effect.{Leaves, Asks}
use Rattle.periodic_walk.specs.Rows.{effect_of}
use Rattle.hc_core.specs.declared.controller.ControllerRow.{ControllerRow}
use Rattle.hc_core.specs.declared.controller.ControllerRow.TheVariants as events
use Rattle.hc_core.specs.Controller.{Content, microframe_row, HasRow, entered, walk_place, frame_place}
use Rattle.hc_microframe.specs.declared.answers.Answer.{Answer}
use Rattle.hc_microframe.specs.declared.answers.Wanted.{Wanted}
use Rattle.hc_microframe.specs.Answers.{Told, asked_of, Begins, Answers}
use Rattle.hc_microframe.specs.Microframe.{IsEvent}

asked_of_none : (t : Told) (answers : List Answer) (w : Wanted) → t.answers ≡ [] → answers ≡ [] → (asked_of t answers w).answers ≡ []
asked_of_none t [] w gone none = gone
asked_of_none t (a ∷ rest) w gone none = absurd cc

kept : (before after : Told) → before.answers ≡ [] → after ≡ before → after.answers ≡ []
kept before after gone same = ap (λ (t : Told). t.answers) same ∙ gone

asked_kept : (before after : Told) (w : Wanted) → before.answers ≡ [] → after ≡ asked_of before before.answers w → after.answers ≡ []
asked_kept before after w gone is = ap (λ (t : Told). t.answers) is ∙ asked_of_none before before.answers w gone gone

sent_emptied : (b : Bool) (t : Transaction) (h : Held) (read : Reading) (p new : WalkPlace) (before after : Told) → before.answers ≡ []
    → SentAt Answers b t h read p before new after → after.answers ≡ []
sent_emptied true t h read p new before after gone l = asked_kept before after _ gone l.made.1
sent_emptied false t h read p new before after gone l = kept before after gone l.1

sends_emptied : (t : Transaction) (p : WalkPlace) (held : Option Held) (new : WalkPlace) (before after : Told) → before.answers ≡ []
    → Sends Answers t p held before new after → after.answers ≡ []
sends_emptied t p None new before after gone l = kept before after gone l.1
sends_emptied t p (Some h) new before after gone l = sent_emptied _ t h _ p new before after gone l

ring_emptied : (row : WalkRow) (p new : WalkPlace) (before after : Told) → before.answers ≡ [] → Leads Answers row p before new after
    → after.answers ≡ []
ring_emptied (rows.Transact t) p new before after gone l = sends_emptied t p p.walk.held new before after gone l
ring_emptied rows.Fault p new before after gone l = kept before after gone l.1
ring_emptied rows.HeadEnds p new before after gone l = kept before after gone l.1
ring_emptied (rows.Fetch at q) p new before after gone l = kept before after gone l.1
ring_emptied rows.Skip p new before after gone l = kept before after gone l.1
ring_emptied rows.OutOfTime p new before after gone l = kept before after gone l.1
ring_emptied (rows.Advance at t) p new before after gone l = kept before after gone l.1
ring_emptied rows.WriteBack p new before after gone l = kept before after gone l.1

effect_emptied : (effect : Effect) (new : FramePlace) (before after : Told) → before.answers ≡ []
    → HasEffect Answers effect before new after → after.answers ≡ []
effect_emptied (Leaves p) new before after gone l = kept before after gone l.1
effect_emptied (Asks ask out left_by) new before after gone l = asked_kept before after _ gone l.made.1

row_emptied : (row : ControllerRow) (old new : Content) (before after : Told) → before.answers ≡ []
    → HasRow Begins Answers row old before new after → after.answers ≡ []
row_emptied events.Idle old new before after gone l = kept before after gone l.1
row_emptied events.Begin old new before after gone l = kept before after gone l.asked.1
row_emptied events.Frame old new before after gone l =
    effect_emptied (effect_of (frame_place old)) (frame_place new) before after gone l.walked
row_emptied events.Enter old new before after gone l =
    ring_emptied (event_row (walk_place (entered old))) (at_event (walk_place (entered old))) (walk_place new) before after gone l.walked
row_emptied events.Go old new before after gone l =
    ring_emptied (event_row (walk_place old)) (at_event (walk_place old)) (walk_place new) before after gone l.walked
row_emptied events.End old new before after gone l = kept before after gone l.1

pub none_after : (old new : Content) (before after : Told) → before.answers ≡ [] → IsEvent old before new after → after.answers ≡ []
none_after old new before after gone e = row_emptied (microframe_row old.registers old.control) old new before after gone e
