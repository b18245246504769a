-- A row of the controller's table asks at most once.
use Rattle.std.proofs.Common.{◌≡◌, ℕ, Bool, true, false, List, ◌∷◌, Option, None, Some, ap}
use Rattle.hc_copy.specs.Buffer.{Reading}
use Rattle.hc_copy.specs.declared.held.Held.{Held}
use Rattle.hc_copy.specs.declared.held.Transaction.{Transaction}
use Rattle.async_walk.specs.declared.rows.WalkRow.{WalkRow}
use Rattle.async_walk.specs.declared.rows.WalkRow.TheVariants as rows
use Rattle.async_walk.specs.Rows.{WalkPlace, at_event, event_row, SentAt, Sends, Leads}
use Rattle.periodic_walk.specs.Place.{FramePlace, Effect, HasEffect}
use Rattle.periodic_walk.specs.Place.Effect.{Leaves, Asks}
use Rattle.hc_core.specs.declared.controller.ControllerRow.{ControllerRow}
use Rattle.hc_core.specs.declared.controller.ControllerRow.TheVariants as events
use Rattle.hc_core.specs.Controller.{Content, microframe_row, HasRow, entered, walk_place, frame_place}
use Rattle.periodic_walk.specs.Rows.{effect_of}
use Rattle.hc_microframe.specs.declared.answers.Answer.{Answer}
use Rattle.hc_microframe.specs.Answers.{Told, told, Begins, Answers}
use Rattle.hc_microframe.specs.Stepping.{AsksOnce}

sent_once : (a : Answer) (rest : List Answer) (bytes : List ℕ) (b : Bool) (t : Transaction) (h : Held) (read : Reading)
    (p new : WalkPlace) (after : Told) → SentAt Answers b t h read p (told (a ∷ rest) bytes) new after → after.wanted ≡ None
sent_once a rest bytes true t h read p new after l = ap (λ (t : Told). t.wanted) l.made.1
sent_once a rest bytes false t h read p new after l = ap (λ (t : Told). t.wanted) l.1

sends_once : (a : Answer) (rest : List Answer) (bytes : List ℕ) (t : Transaction) (p : WalkPlace) (held : Option Held)
    (new : WalkPlace) (after : Told) → Sends Answers t p held (told (a ∷ rest) bytes) new after → after.wanted ≡ None
sends_once a rest bytes t p None new after l = ap (λ (t : Told). t.wanted) l.1
sends_once a rest bytes t p (Some h) new after l = sent_once a rest bytes _ t h _ p new after l

ring_once : (a : Answer) (rest : List Answer) (bytes : List ℕ) (row : WalkRow) (p new : WalkPlace) (after : Told)
    → Leads Answers row p (told (a ∷ rest) bytes) new after → after.wanted ≡ None
ring_once a rest bytes (rows.Transact t) p new after l = sends_once a rest bytes t p p.walk.held new after l
ring_once a rest bytes rows.Fault p new after l = ap (λ (t : Told). t.wanted) l.1
ring_once a rest bytes rows.HeadEnds p new after l = ap (λ (t : Told). t.wanted) l.1
ring_once a rest bytes (rows.Fetch at q) p new after l = ap (λ (t : Told). t.wanted) l.1
ring_once a rest bytes rows.Skip p new after l = ap (λ (t : Told). t.wanted) l.1
ring_once a rest bytes rows.OutOfTime p new after l = ap (λ (t : Told). t.wanted) l.1
ring_once a rest bytes (rows.Advance at t) p new after l = ap (λ (t : Told). t.wanted) l.1
ring_once a rest bytes rows.WriteBack p new after l = ap (λ (t : Told). t.wanted) l.1

effect_once : (a : Answer) (rest : List Answer) (bytes : List ℕ) (effect : Effect) (new : FramePlace) (after : Told)
    → HasEffect Answers effect (told (a ∷ rest) bytes) new after → after.wanted ≡ None
effect_once a rest bytes (Leaves p) new after l = ap (λ (t : Told). t.wanted) l.1
effect_once a rest bytes (Asks ask out left_by) new after l = ap (λ (t : Told). t.wanted) l.made.1

row_once : (a : Answer) (rest : List Answer) (bytes : List ℕ) (row : ControllerRow) (old new : Content) (after : Told)
    → HasRow Begins Answers row old (told (a ∷ rest) bytes) new after → after.wanted ≡ None
row_once a rest bytes events.Idle old new after l = ap (λ (t : Told). t.wanted) l.1
row_once a rest bytes events.Begin old new after l = ap (λ (t : Told). t.wanted) l.asked.1
row_once a rest bytes events.Frame old new after l = effect_once a rest bytes (effect_of (frame_place old)) (frame_place new) after l.walked
row_once a rest bytes events.Enter old new after l =
    ring_once a rest bytes (event_row (walk_place (entered old))) (at_event (walk_place (entered old))) (walk_place new) after l.walked
row_once a rest bytes events.Go old new after l =
    ring_once a rest bytes (event_row (walk_place old)) (at_event (walk_place old)) (walk_place new) after l.walked
row_once a rest bytes events.End old new after l = ap (λ (t : Told). t.wanted) l.1

pub asks_once : AsksOnce
asks_once old a rest bytes new after e = row_once a rest bytes (microframe_row old.registers old.control) old new after e
