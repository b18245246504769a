-- An event of the controller in a world is one of the controller over the wire of the world.
use Rattle.std.proofs.Common.{◌≡◌, ℕ, ◌<◌, Bool, true, false, Option, Some, None, refl}
use Rattle.hc_copy.specs.declared.held.Held.{Held}
use Rattle.hc_copy.specs.declared.held.Transaction.{Transaction}
use Rattle.hc_copy.specs.Buffer.{Reading, sending}
use Rattle.async_walk.specs.declared.rows.WalkRow.{WalkRow}
use Rattle.async_walk.specs.declared.rows.WalkRow.TheVariants as walks
use Rattle.async_walk.specs.Rows.{WalkPlace, at_event, event_row, Sends, SentAt, Leads as WalkLeads}
use Rattle.periodic_walk.specs.Place.{Effect, HasEffect}
use Rattle.periodic_walk.specs.Place.Effect.{Leaves, Asks}
use Rattle.periodic_walk.specs.Rows.{effect_of}
use Rattle.hc_core.specs.declared.controller.ControllerRow.{ControllerRow}
use Rattle.hc_core.specs.declared.controller.ControllerRow.TheVariants as rows
use Rattle.hc_core.specs.Controller.{Content, microframe_row, HasRow, entered, frame_place, walk_place}
use Rattle.bus_wire.specs.Bus.{Bus, Wired, Fixed}
use Rattle.claims_base.specs.Controller.{Base}
use Rattle.law_devices.specs.control_requests.Events.{ControlWindowsGoOn}
use Rattle.law_devices.proofs.lemmas.control_requests.Keeping.{an_event_keeps_the_windows}
use Rattle.law_devices.specs.Controls.{control_of}
use Rattle.law_devices.specs.scripted_requests.Controls.{transacts_by, begins_by}
use Rattle.law_devices.proofs.lemmas.scripted_requests.Asking.{a_scripted_bus_answers_by_stages}
use Rattle.law_devices.proofs.lemmas.scripted_requests.Beginning.{keeps_devices}
use Rattle.law_structures.specs.lent_structures.Structures.{StructureSets}
use Rattle.law_ring.specs.Hand.{Hand}
use Rattle.law_devices.specs.ring_requests.Windows.{Queue, sent_at, Lines, HasEnded, IsActedOnce, AreHigh}
use Rattle.law_devices.proofs.lemmas.ring_requests.Windows.{window_ended}
use Rattle.bus_world.specs.World.{World, frame_by, sent_by, sends_by, walk_by, turned_by, controller_parts, controller_row, controller_next}
use Rattle.claims_world.specs.Requests.{wired}
use Rattle.law_reports.specs.requests.world_requests.Requesting.{IsRequesting, HearsBytesNow, StaysRequesting}

abbrev at_bus : Fixed → Bus → Wired
at_bus fixed b = record { fixed = fixed; bus = b }

-- ---- an event of a walk

frame_asks : (fixed : Fixed) (e : Effect) (b : Bus) → HasEffect transacts_by e (at_bus fixed b) (frame_by fixed e b).place (at_bus fixed (frame_by fixed e b).bus)
frame_asks fixed (Leaves p) b = (refl, refl)
frame_asks fixed (Asks ask out left_by) b = record { reply = _; made = (refl, refl); place = refl }

sent_asks : (fixed : Fixed) (all : Bool) (t : Transaction) (h : Held) (read : Reading) (p : WalkPlace) (b : Bus)
    → SentAt transacts_by all t h read p (at_bus fixed b) (sent_by fixed all t h read.bytes (record p { memory = read.memory }) b).place (at_bus fixed (sent_by fixed all t h read.bytes (record p { memory = read.memory }) b).bus)
sent_asks fixed true t h read p b = record { reply = _; made = (refl, refl); place = refl }
sent_asks fixed false t h read p b = (refl, refl)

sends_ask : (fixed : Fixed) (t : Transaction) (p : WalkPlace) (o : Option Held) (b : Bus) → Sends transacts_by t p o (at_bus fixed b) (sends_by fixed t p o b).place (at_bus fixed (sends_by fixed t p o b).bus)
sends_ask fixed t p None b = (refl, refl)
sends_ask fixed t p (Some h) b = sent_asks fixed (sending t h.queue_head p.memory).all t h (sending t h.queue_head p.memory) p b

walk_asks : (fixed : Fixed) (row : WalkRow) (p : WalkPlace) (b : Bus) → WalkLeads transacts_by row p (at_bus fixed b) (walk_by fixed row p b).place (at_bus fixed (walk_by fixed row p b).bus)
walk_asks fixed (walks.Transact t) p b = sends_ask fixed t p p.walk.held b
walk_asks fixed _ p b = (refl, refl)

-- ---- an event of the controller

turned_has_row : (fixed : Fixed) (row : ControllerRow) (c : Content) (b : Bus) → HasRow begins_by transacts_by row c (at_bus fixed b) (turned_by fixed row c b).content (at_bus fixed (turned_by fixed row c b).bus)
turned_has_row fixed rows.Begin c b = record { allowed = _; asked = (refl, refl); contents = refl }
turned_has_row fixed rows.Frame c b = record { part = refl; ring = refl; walked = frame_asks fixed (effect_of (frame_place c)) b }
turned_has_row fixed rows.Enter c b = record { part = refl; frame = refl; walked = walk_asks fixed (event_row (walk_place (entered c))) (at_event (walk_place (entered c))) b }
turned_has_row fixed rows.Go c b = record { part = refl; frame = refl; walked = walk_asks fixed (event_row (walk_place c)) (at_event (walk_place c)) b }
turned_has_row fixed _ c b = (refl, refl)

pub world_has_row : (fixed : Fixed) (w : World) → HasRow begins_by transacts_by (microframe_row w.registers w.control) (controller_parts w) (wired fixed w) (controller_parts (controller_next fixed w)) (wired fixed (controller_next fixed w))
world_has_row fixed w = turned_has_row fixed (controller_row w) (controller_parts w) w.bus

-- ---- the windows

pub the_controller_leaves_the_windows : (fixed : Fixed) (base : Base) (member windows : ℕ → Bool) (sent : ℕ → Queue) (parts : StructureSets) (hand : Hand) (lines : ℕ → Lines) (w : World) → HearsBytesNow fixed w → IsRequesting fixed base member windows sent parts hand lines w → AreHigh windows parts → StaysRequesting fixed base member windows sent lines (controller_next fixed w)
the_controller_leaves_the_windows fixed base member windows sent parts hand lines w heard k high =
    let new : World = controller_next fixed w in
    let g : ControlWindowsGoOn begins_by transacts_by control_of base member windows sent lines parts hand (wired fixed w) (wired fixed new) (controller_parts new) =
    an_event_keeps_the_windows begins_by transacts_by control_of base member windows sent lines parts hand (controller_parts w) (wired fixed w) (controller_parts new) (wired fixed new)
    k.are a_scripted_bus_answers_by_stages keeps_devices k.controlled k.on k.all high (heard (wired fixed new)) (world_has_row fixed w) in
    record { parts = g.event.now; hand = g.event.later; step = g.step; requesting = record { on = k.on; are = k.are; controlled = g.event.controlled; all = g.all }; halted = g.halted }

pub world_ended : (fixed : Fixed) (base : Base) (member windows : ℕ → Bool) (sent : ℕ → Queue) (parts : StructureSets) (hand : Hand) (lines : ℕ → Lines) (w : World) (n i : ℕ) → IsRequesting fixed base member windows sent parts hand lines w → windows n ≡ true → i < (sent n).count → HasEnded (sent_at (sent n) i) parts n → IsActedOnce (sent_at (sent n) i) ((lines n).line i) hand parts n
world_ended fixed base member windows sent parts hand lines w n i k on few ended = window_ended control_of base member windows sent lines parts hand (walk_place (controller_parts w)) (wired fixed w) n i k.are k.controlled.ring k.all on few ended
