-- A microframe in which the bus may not be used has no time, from its Begin to the next.
use Rattle.std.proofs.Common.{◌≡◌, ◌≢◌, ℕ, Bool, true, false, not, List, Option, Some, None, ap, sym, ◌∙◌, refl}
use Rattle.usb_base.specs.declared.packets.Ask.{Ask}
use Rattle.word_mem.specs.Memory.{reaches}
use Rattle.op_registers.specs.Events.{after_begin}
use Rattle.hc_copy.specs.declared.held.Held.{Held}
use Rattle.hc_copy.specs.declared.held.Transaction.{Transaction}
use Rattle.hc_copy.specs.Buffer.{sending}
use Rattle.hc_copy.specs.Transacting.{call_in}
use Rattle.async_walk.specs.declared.rows.WalkRow.{WalkRow}
use Rattle.async_walk.specs.declared.rows.WalkRow.TheVariants as ring_rows
use Rattle.async_walk.specs.declared.state.WalkStep.{WalkStep}
use Rattle.async_walk.specs.declared.state.WalkStep.TheVariants as walks
use Rattle.async_walk.specs.Rows.{WalkPlace, at_event, event_row}
use Rattle.periodic_walk.specs.Place.{Effect}
use Rattle.periodic_walk.specs.Place.Effect.{Leaves, Asks}
use Rattle.periodic_walk.specs.Rows.{effect_of}
use Rattle.hc_core.specs.declared.controller.HcStep.TheVariants as steps
use Rattle.hc_core.specs.declared.controller.MicroframePart.{MicroframePart}
use Rattle.hc_core.specs.declared.controller.MicroframePart.TheVariants.{Over, Periodic, Asynchronous}
use Rattle.hc_core.specs.declared.controller.ControllerRow.{ControllerRow}
use Rattle.hc_core.specs.declared.controller.ControllerRow.TheVariants as rows
use Rattle.hc_core.specs.Controller.{Content, element_address, begun_at, left_in, time_left, time_of, entered, hc_step, part_after, frame_place, frame_step, walk_place, walk_step, kind_of}
use Rattle.bus_wire.specs.declared.asked.Answerer.{Answerer}
use Rattle.bus_wire.specs.declared.asked.Answerer.TheVariants as answerers
use Rattle.bus_wire.specs.declared.asked.Asked.{Asked}
use Rattle.bus_wire.specs.declared.who_heard.WhoHeard.{WhoHeard}
use Rattle.bus_wire.specs.Bus.{Bus, Fixed, fixed_of, is_held, is_allowed, bus_row, changed_by, asked_of, after_at, transact_after}
use Rattle.bus_world.specs.World.{World, controller_parts, controller_row, controller_next, commanded, with_turned, turned_by, frame_by, walk_by, sent_by, sends_by}
use Rattle.bus_world.specs.Budgets.{moment}
use Rattle.claims_world.specs.Visits.{is_held_now, TellsMicroframe, HasNoTime}
use Rattle.law_microframes.specs.visits.HeldTime.{TextsKeepHeldTime}
use Rattle.law_microframes.proofs.lemmas.visits.ReasonMoments.{StepsBy, holds_along}
use Rattle.law_microframes.proofs.lemmas.visits.ReasonParts.{InPart, row_in, command_control, command_bus}
use Rattle.law_microframes.proofs.lemmas.visits.ReasonRings.{ring_still}
use Rattle.law_microframes.proofs.lemmas.visits.ReasonFrames.{IsQuiet, frame_still}

-- ---- the number of the microframe

changed_number : (row : WhoHeard) (who : Answerer) (ask : Ask) (out : List ℕ) (b : Bus) → (changed_by row who ask out b).microframe ≡ b.microframe
changed_number row (answerers.Device place) ask out b = refl
changed_number row _ ask out b = refl

after_number : (fixed : Fixed) (b : Bus) (ask : Ask) (out : List ℕ) (o : Option Asked) → (after_at fixed b ask out o).microframe ≡ b.microframe
after_number fixed b ask out None = refl
after_number fixed b ask out (Some e) = changed_number (bus_row fixed b e ask out) e.who ask out b

transacted_number : (fixed : Fixed) (b : Bus) (ask : Ask) (out : List ℕ) → (transact_after fixed b ask out).microframe ≡ b.microframe
transacted_number fixed b ask out = after_number fixed b ask out (asked_of fixed b ask)

framed_number : (fixed : Fixed) (e : Effect) (b : Bus) → (frame_by fixed e b).bus.microframe ≡ b.microframe
framed_number fixed (Leaves p) b = refl
framed_number fixed (Asks ask out by) b = transacted_number fixed b ask out

sent_number : (fixed : Fixed) (all : Bool) (t : Transaction) (h : Held) (bytes : List ℕ) (p : WalkPlace) (b : Bus) → (sent_by fixed all t h bytes p b).bus.microframe ≡ b.microframe
sent_number fixed true t h bytes p b = transacted_number fixed b (call_in t bytes false).ask (call_in t bytes false).out
sent_number fixed false t h bytes p b = refl

sends_number : (fixed : Fixed) (t : Transaction) (p : WalkPlace) (o : Option Held) (b : Bus) → (sends_by fixed t p o b).bus.microframe ≡ b.microframe
sends_number fixed t p None b = refl
sends_number fixed t p (Some h) b =
    sent_number fixed (sending t h.queue_head p.memory).all t h (sending t h.queue_head p.memory).bytes (record p { memory = (sending t h.queue_head p.memory).memory }) b

walked_number : (fixed : Fixed) (row : WalkRow) (p : WalkPlace) (b : Bus) → (walk_by fixed row p b).bus.microframe ≡ b.microframe
walked_number fixed (ring_rows.Transact t) p b = sends_number fixed t p p.walk.held b
walked_number fixed _ p b = refl

turned_number : (fixed : Fixed) (row : ControllerRow) (c : Content) (b : Bus) → row ≢ rows.Begin → (turned_by fixed row c b).bus.microframe ≡ b.microframe
turned_number fixed rows.Begin c b other = absurd (other refl)
turned_number fixed rows.Frame c b other = framed_number fixed (effect_of (frame_place c)) b
turned_number fixed rows.Enter c b other = walked_number fixed (event_row (walk_place (entered c))) (at_event (walk_place (entered c))) b
turned_number fixed rows.Go c b other = walked_number fixed (event_row (walk_place c)) (at_event (walk_place c)) b
turned_number fixed _ c b other = refl

-- ---- an event with no time left

frame_left : (step : WalkStep) (frame ring : ℕ) → frame ≡ 0 → left_in (part_after Periodic step) frame ring ≡ 0
frame_left walks.Ended frame ring none = refl
frame_left walks.Fault frame ring none = refl
frame_left _ frame ring none = none

ring_left : (step : WalkStep) (frame ring : ℕ) → ring ≡ 0 → left_in (part_after Asynchronous step) frame ring ≡ 0
ring_left walks.Ended frame ring none = refl
ring_left walks.Fault frame ring none = refl
ring_left _ frame ring none = none

transaction : (k : WalkStep) → hc_step k ≡ steps.Transact → k ≡ walks.Transact
transaction walks.Transact is = refl
transaction _ is = absurd cc

quiet_bus : (fixed : Fixed) (e : Effect) (b : Bus) → IsQuiet e → (frame_by fixed e b).bus ≡ b
quiet_bus fixed (Leaves p) b quiet = refl
quiet_bus fixed (Asks ask out by) b quiet = absurd quiet

quiet_left : (fixed : Fixed) (e : Effect) (b : Bus) → IsQuiet e → (frame_by fixed e b).place.walk.left ≡ 0
quiet_left fixed (Leaves p) b quiet = quiet
quiet_left fixed (Asks ask out by) b quiet = absurd quiet

record IsTurnStill (fixed : Fixed) (row : ControllerRow) (c : Content) (b : Bus) : Type 0 where
  bus : row ≢ rows.Begin → (turned_by fixed row c b).bus ≡ b
  left : row ≢ rows.Begin → time_left (turned_by fixed row c b).content.control ≡ 0
  kind : kind_of row c ≢ steps.Transact

left_of : (part other : MicroframePart) (frame ring : ℕ) → part ≡ other → left_in part frame ring ≡ 0 → left_in other frame ring ≡ 0
left_of part other frame ring is none = sym (ap (λ (x : MicroframePart). left_in x frame ring) is) ∙ none

turn_still : (fixed : Fixed) (row : ControllerRow) (c : Content) (b : Bus) → InPart row c.control.part → time_left c.control ≡ 0 → IsTurnStill fixed row c b
turn_still fixed rows.Idle c b at none = record { bus = λ other. refl; left = λ other. none; kind = λ same. cc }
turn_still fixed rows.Begin c b at none = record { bus = λ other. absurd (other refl); left = λ other. absurd (other refl); kind = λ same. cc }
turn_still fixed rows.Frame c b at none =
    let still = frame_still (frame_place c) (left_of c.control.part Periodic c.control.frame.left c.control.walk.left at none) in
    record {
      bus = λ other. quiet_bus fixed (effect_of (frame_place c)) b still.effect;
      left = λ other. frame_left (frame_step c) (frame_by fixed (effect_of (frame_place c)) b).place.walk.left c.control.walk.left (quiet_left fixed (effect_of (frame_place c)) b still.effect);
      kind = λ same. still.step (transaction (frame_step c) same);
    }
turn_still fixed rows.Enter c b at none =
    let still = ring_still fixed (walk_place (entered c)) b (left_of c.control.part Periodic c.control.frame.left c.control.walk.left at none) in
    record {
      bus = λ other. still.bus;
      left = λ other. ring_left (walk_step (entered c)) (entered c).control.frame.left _ still.left;
      kind = λ same. still.step (transaction (walk_step (entered c)) same);
    }
turn_still fixed rows.Go c b at none =
    let still = ring_still fixed (walk_place c) b (left_of c.control.part Asynchronous c.control.frame.left c.control.walk.left at none) in
    record {
      bus = λ other. still.bus;
      left = λ other. ring_left (walk_step c) c.control.frame.left _ still.left;
      kind = λ same. still.step (transaction (walk_step c) same);
    }
turn_still fixed rows.End c b at none = record { bus = λ other. refl; left = λ other. refl; kind = λ same. cc }

-- ---- the invariant

abbrev IsTimeless : Fixed → World → Type 0
IsTimeless fixed w = is_held_now fixed w ≡ true → time_left w.control ≡ 0

begun_left : (b allowed : Bool) (c : Content) → c.control.part ≡ Over → allowed ≡ false → time_left (begun_at b allowed c).control ≡ 0
begun_left true allowed c over held = ap time_of held
begun_left false allowed c over held = ap (λ (x : MicroframePart). left_in x c.control.frame.left c.control.walk.left) over

module _ (fixed : Fixed) (w : World) (k : IsTimeless fixed w) where
  abbrev c : Content
  c = controller_parts w

  goes_on : (row : ControllerRow) → InPart row w.control.part → row ≢ rows.Begin → IsTimeless fixed (with_turned w (turned_by fixed row (controller_parts w) w.bus))
  goes_on row at other held =
      (turn_still fixed row (controller_parts w) w.bus at (k (ap (is_held fixed.holds) (sym (turned_number fixed row (controller_parts w) w.bus other)) ∙ held))).left other

  begins : w.control.part ≡ Over → IsTimeless fixed (with_turned w (turned_by fixed rows.Begin (controller_parts w) w.bus))
  begins over held =
      begun_left (reaches w.memory (element_address (after_begin w.registers))) (is_allowed fixed w.bus) (record (controller_parts w) { registers = after_begin w.registers }) over (ap not held)

  by_row : (row : ControllerRow) → InPart row w.control.part → IsTimeless fixed (with_turned w (turned_by fixed row (controller_parts w) w.bus))
  by_row rows.Idle at = goes_on rows.Idle at (λ same. cc)
  by_row rows.Begin at = begins at
  by_row rows.Frame at = goes_on rows.Frame at (λ same. cc)
  by_row rows.Enter at = goes_on rows.Enter at (λ same. cc)
  by_row rows.Go at = goes_on rows.Go at (λ same. cc)
  by_row rows.End at = goes_on rows.End at (λ same. cc)

  controller_keeps : IsTimeless fixed (controller_next fixed w)
  controller_keeps = by_row (controller_row w) (row_in w)

  command_keeps : (v : World) → v.control ≡ w.control → v.bus ≡ w.bus → IsTimeless fixed v
  command_keeps v control bus held = ap time_left control ∙ k (ap (λ (b : Bus). is_held fixed.holds b.microframe) (sym bus) ∙ held)

steps_by : (fixed : Fixed) → StepsBy fixed (λ w v. IsTimeless fixed w → IsTimeless fixed v)
steps_by fixed = record {
  stands = λ w k. k;
  controller = λ w k. controller_keeps fixed w k;
  driver = λ w k. k;
  command = λ w n cmd k. command_keeps fixed w k (commanded w n cmd) (command_control w n cmd) (command_bus w n cmd);
}

-- ---- what that says

tells_microframe : (fixed : Fixed) (w : World) → TellsMicroframe fixed w
tells_microframe fixed w = record {
  begins = λ is. sym (ap (λ (row : ControllerRow). not (is_held fixed.holds (turned_by fixed row (controller_parts w) w.bus).bus.microframe)) is);
  goes_on = λ other. turned_number fixed (controller_row w) (controller_parts w) w.bus other;
  driver = refl;
  command = λ n cmd. command_bus w n cmd;
}

has_no_time : (fixed : Fixed) (w : World) → time_left w.control ≡ 0 → HasNoTime fixed w
has_no_time fixed w none =
    let still = turn_still fixed (controller_row w) (controller_parts w) w.bus (row_in w) none in
    record { none_left = none; no_transaction = still.kind; unasked = still.bus }

pub texts_keep_held_time : TextsKeepHeldTime
texts_keep_held_time text s spelled k =
    record {
      tells = tells_microframe (fixed_of s) (moment s k).world;
      held = λ held.
          has_no_time (fixed_of s) (moment s k).world (holds_along s (λ w. IsTimeless (fixed_of s) w) (λ held. refl) (steps_by (fixed_of s)) k held);
    }
