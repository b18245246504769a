-- Host and hub of each bulk and control endpoint below a hub stand as they must at each moment of each script whose packets on the high-speed bus all
-- get through, and none of whose requests takes a key from a hub.
use Rattle.std.proofs.Common.{ℕ, List, Result, Ok, Err}
use Rattle.std.proofs.Common.{refl, sym, subst}
use Rattle.std.specs.List.{AllByRecursion}
use Rattle.usb_base.specs.declared.commands.Cmd.{Cmd}
use Rattle.usb_base.specs.declared.endpoints.EpName.{EpName}
use Rattle.usb_base.specs.declared.packets.Ask.{Ask}
use Rattle.usb_base.specs.declared.reports.OfferError.{OfferError}
use Rattle.script_types.specs.declared.scripts.Script.{Script}
use Rattle.script_fits.specs.Fits.{IsFit}
use Rattle.script_fits.proofs.Texts.{spelled_fits}
use Rattle.script_text.specs.Faults.{Spells}
use Rattle.transactions.specs.Calls.{Call}
use Rattle.bus_wire.specs.Bus.{Bus, Wired, fixed_of}
use Rattle.bus_wire.specs.Seats.{seats_of}
use Rattle.hc_copy.specs.Planning.{transaction_of}
use Rattle.hc_copy.specs.Transacting.{call_in}
use Rattle.claims_world.specs.Quiet.{GetsThroughAbove}
use Rattle.drv_table.specs.Accepting.{Offered}
use Rattle.drv_table.specs.Offers.{IsOffered, offered}
use Rattle.law_structures.specs.lent_structures.Structures.{StructureSets}
use Rattle.law_ring.specs.Hand.{Hand}
use Rattle.law_ring.specs.Streams.StreamEffect.{same, aside, grows}
use Rattle.law_controller.specs.frame_control.Joined.{BothStreamEffect, begun, moved, joined}
use Rattle.law_descriptors.specs.Both.{parts_now}
use Rattle.law_microframes.specs.due.repeats.Hearing.{HasNumber}
use Rattle.law_microframes.proofs.lemmas.due.lemmas.repeats.Alike.{asks_keep_number}
use Rattle.law_scripts.proofs.lemmas.script_bytes.Texts.{a_text_spells_bytes}
use Rattle.law_scripts.specs.byte_answers.Bytes.{IsByteScript, IsByteCommand}
use Rattle.law_world.specs.steps.Streaming.{begins_by, transacts_by, wired}
use Rattle.law_world.specs.streams.put_laws.HeldPuts.{puts_then}
use Rattle.law_world.specs.streams.put_laws.TakenLaws.{IsKeptWhile}
use Rattle.law_world.specs.streams.put_laws.TakenPuts.{no_puts, puts_at}
use Rattle.law_world.specs.memory.Mixed.{Standing, IsMixedAt}
use Rattle.law_world.specs.memory.Opens.{OpensMixed}
use Rattle.law_world.specs.memory.Steps.{IsMixedNext}
use Rattle.law_world.specs.memory.Steps.{QueueStep, stays, harvests, returns, lends, stores, mends, begins, opens, unlinks, narrows, goes}
use Rattle.law_world.specs.memory.pipe_steps.Laws.{IsNoOpening}
use Rattle.law_world.proofs.Common.{lines_can}
use Rattle.law_world.proofs.lemmas.memory.Driving.{driver_tells_step}
use Rattle.law_world.proofs.lemmas.memory.FittingTexts.{texts_open_fitting}
use Rattle.law_world.proofs.lemmas.memory.Texts.{texts_fit}
use Rattle.law_world.proofs.lemmas.memory.Together.{lines_fit}
use Rattle.law_world.proofs.lemmas.streams.lemmas.put_laws.Along.{holds_while}
use Rattle.bus_world.specs.Budgets.{moment}
use Rattle.bus_world.specs.Opening.{opening_world}
use Rattle.bus_world.specs.World.{World, driver_next, controller_next, name_in, commanded_by, commanded}
use Rattle.law_reports.specs.lines.Lined.{in_hand}
use Rattle.law_reports.specs.lines.TellingLaws.{IsTellingNext}
use Rattle.law_reports.specs.pipes.Declared.{sides_of}
use Rattle.law_reports.specs.pipes.PipedLaws.{OpensDeclared}
use Rattle.law_reports.specs.pipes.below_hubs.BehindLaws.{WorldFindsNoneTold, OpensSpot, OpensUnsent, spots_of}
use Rattle.law_reports.proofs.lemmas.lines.Driven.{driver_keeps_telling}
use Rattle.law_reports.proofs.lemmas.pipes.Moments.{lines_both}
use Rattle.law_reports.proofs.lemmas.pipes.Commanded.{commanded_piped}
use Rattle.law_reports.proofs.lemmas.pipes.Controlled.{c as controlled_event, z as stream_event, controlled}
use Rattle.law_reports.proofs.lemmas.pipes.DeclaredOpens.{texts_declare}
use Rattle.law_reports.proofs.lemmas.pipes.Driven.{heads_left, driven}
use Rattle.law_reports.proofs.lemmas.pipes.Opened.{heads_opened, opened_piped}
use Rattle.law_reports.proofs.lemmas.pipes.Opening.{new_standing, no_lines, no_heads, new_piped}
use Rattle.law_reports.proofs.lemmas.pipes.lemmas.below_hubs.BehindCommanded.{commanded_behind}
use Rattle.law_reports.proofs.lemmas.pipes.lemmas.below_hubs.BehindControlled.{controlled_behind}
use Rattle.law_reports.proofs.lemmas.pipes.lemmas.below_hubs.BehindDriven.{driver_leaves_behind}
use Rattle.law_reports.proofs.lemmas.pipes.lemmas.below_hubs.BehindMoments.{new_behind, CanBeBehind, none_there, kinds_both}
use Rattle.law_reports.proofs.lemmas.pipes.lemmas.below_hubs.BelowTexts.{texts_open_spots}
use Rattle.law_reports.proofs.lemmas.pipes.lemmas.below_hubs.FreshStarts.{texts_find_none_told}
use Rattle.law_reports.proofs.lemmas.pipes.lemmas.puts.Commanded.{commanded_pays}
use Rattle.law_reports.proofs.lemmas.pipes.lemmas.puts.DrivenPays.{driven_pays}
use Rattle.law_reports.proofs.lemmas.pipes.lemmas.puts.Event.{controlled_pays}
use Rattle.law_reports.proofs.lemmas.pipes.lemmas.puts.PaidMoments.{CanBePaid, lines_paid, new_pays}
use Rattle.law_reports.specs.quiet.Awaiting.{is_buffered_asked, AreNumbered, HubsStand, SparesBuffers}
use Rattle.law_reports.specs.quiet.Awaiting.{IsAwaitedWorld}
use Rattle.law_reports.specs.quiet.AwaitingLaws.{OpensAwaited}
use Rattle.law_reports.proofs.lemmas.quiet.AwaitedCommanded.{commanded_awaited}
use Rattle.law_reports.proofs.lemmas.quiet.AwaitedControlled.{hubs_then, controlled_awaited}
use Rattle.law_reports.proofs.lemmas.quiet.AwaitedDriven.{driven_awaited, opened_awaited}
use Rattle.law_reports.proofs.lemmas.quiet.AwaitedErrors.{controlled_left}
use Rattle.law_reports.proofs.lemmas.quiet.BusEvents.{zeros}
use Rattle.law_reports.proofs.lemmas.quiet.Served.{OpensServed, texts_serve}
use Rattle.law_reports.proofs.lemmas.quiet.Steps.{command_publishes}
use Rattle.law_reports.proofs.lemmas.quiet.Worlds.{driver_leaves_errors, head_alone}

-- ---- the numbers of packets

event_keeps_numbers : {Beside : Ask → Type 0} (s : Script) (parts : StructureSets) (hand : Hand) (wire after : Wired) (now : StructureSets)
    (later : Hand) → BothStreamEffect begins_by Beside transacts_by parts hand wire after now later
    → AreNumbered s wire.bus → AreNumbered s after.bus
event_keeps_numbers s parts hand wire after now later (begun index allowed made told) k place seat here =
    subst (λ (v : Wired). HasNumber v.bus place) (sym made.1)
    (let n : HasNumber wire.bus place = k place seat here in record { number = n.number; is = n.is })
event_keeps_numbers s parts hand wire after now later (moved (same told quiet)) k place seat here =
    subst (λ (v : Wired). HasNumber v.bus place) (sym quiet) (k place seat here)
event_keeps_numbers s parts hand wire after now later (moved (aside told ask out reply is made)) k place seat here =
    subst (λ (v : Wired). HasNumber v.bus place) (sym made.1) (asks_keep_number wire.fixed wire.bus ask out place (k place seat here))
event_keeps_numbers s parts hand wire after now later (moved (grows m all g)) k place seat here =
    let call : Call = call_in (transaction_of m.kind m.copy.queue) m.out m.last in
    subst (λ (v : Wired). HasNumber v.bus place) (sym m.made.1)
    (asks_keep_number wire.fixed wire.bus call.ask call.out place (k place seat here))

module _ (text : List ℕ) (s : Script) (spelled : Spells text s) (packets : AllByRecursion GetsThroughAbove s.fates) where
  -- ---- an event of the controller

  controller_awaited : (w : World) (puts : ℕ → List ℕ) → SparesBuffers s w × WorldFindsNoneTold (wired (fixed_of s) w) w
      → IsAwaitedWorld s puts w → IsAwaitedWorld s puts (controller_next (fixed_of s) w)
  controller_awaited w puts ok k =
      let st = k.standing in
      let m = k.lines in
      let h = k.heads in
      let event = controlled_event (fixed_of s) (sides_of s) k.standing k.lines k.heads w k.piped in
      record {
        standing = _;
        lines = _;
        heads = k.heads;
        piped = controlled (fixed_of s) (sides_of s) k.standing k.lines k.heads w k.piped;
        pays = controlled_pays (fixed_of s) (sides_of s) k.standing k.lines k.heads puts w k.piped k.pays;
        behind = controlled_behind (fixed_of s) (sides_of s) (spots_of s) k.standing k.lines k.heads puts w k.piped k.pays k.behind ok.1;
        left = controlled_left text s spelled packets k.standing k.lines k.heads puts w k.piped k.pays k.behind k.awaited k.hubs k.numbers
            ok.0 k.left;
        awaited = controlled_awaited text s spelled packets k.standing k.lines k.heads puts w k.piped k.pays k.behind k.awaited k.hubs
            k.numbers ok.0;
        hubs = hubs_then text s spelled packets k.standing k.lines k.heads puts w k.piped k.pays k.behind k.awaited k.hubs k.numbers ok.0;
        numbers = event_keeps_numbers s st.parts (joined st.hand st.frame) (wired (fixed_of s) w)
            (wired (fixed_of s) (controller_next (fixed_of s) w)) (parts_now st.descs st.parts event.event.now)
            (joined event.event.later event.event.frame_later) (stream_event (fixed_of s) (sides_of s) k.standing k.lines k.heads w k.piped)
            k.numbers;
      }

-- ---- an event of the driver

module _ (s : Script) (w : World) (puts : ℕ → List ℕ) (k : IsAwaitedWorld s puts w) where
  by_other : (t : Standing) (step : QueueStep k.standing w (driver_next w) t) → IsNoOpening step → IsMixedAt t (driver_next w)
      → IsTellingNext k.standing k.lines w (driver_next w) t step → IsAwaitedWorld s puts (driver_next w)
  by_other t step other mixed next = record {
    standing = t;
    lines = next.lines;
    heads = heads_left (fixed_of s) (sides_of s) k.standing k.lines k.heads w k.piped t;
    piped = driven (fixed_of s) (sides_of s) k.standing k.lines k.heads w k.piped t step other mixed next;
    pays = driven_pays (fixed_of s) (sides_of s) k.standing k.lines k.heads puts w k.piped k.pays t step mixed next;
    behind = driver_leaves_behind (fixed_of s) (sides_of s) (spots_of s) k.standing k.lines k.heads puts w k.piped k.pays k.behind t step
        mixed next;
    left = driver_leaves_errors is_buffered_asked k.standing w t k.piped.mixed step k.left;
    awaited = driven_awaited s k.standing k.lines k.heads puts w k.piped k.pays k.behind k.awaited k.hubs t step other mixed;
    hubs = k.hubs;
    numbers = k.numbers;
  }

  by_step : (t : Standing) (step : QueueStep k.standing w (driver_next w) t) → IsMixedAt t (driver_next w)
      → IsTellingNext k.standing k.lines w (driver_next w) t step → IsAwaitedWorld s puts (driver_next w)
  by_step t (opens at _ alike opened) mixed next = record {
    standing = t;
    lines = next.lines;
    heads = heads_opened (fixed_of s) (sides_of s) k.standing k.lines k.heads w k.piped at t alike opened mixed next;
    piped = opened_piped (fixed_of s) (sides_of s) k.standing k.lines k.heads w k.piped at t alike opened mixed next;
    pays = driven_pays (fixed_of s) (sides_of s) k.standing k.lines k.heads puts w k.piped k.pays t (opens at t alike opened) mixed next;
    behind = driver_leaves_behind (fixed_of s) (sides_of s) (spots_of s) k.standing k.lines k.heads puts w k.piped k.pays k.behind t
        (opens at t alike opened) mixed next;
    left = driver_leaves_errors is_buffered_asked k.standing w t k.piped.mixed (opens at t alike opened) k.left;
    awaited = opened_awaited s k.standing k.lines k.heads puts w k.piped k.pays k.behind k.awaited k.hubs at t alike opened mixed next;
    hubs = k.hubs;
    numbers = k.numbers;
  }
  by_step t (stays _ none still) mixed next = by_other t (stays t none still) tt mixed next
  by_step t (harvests e u found due later row out) mixed next = by_other t (harvests e u found due later row out) tt mixed next
  by_step t (returns u y v row r) mixed next = by_other t (returns u y v row r) tt mixed next
  by_step t (lends b words get order out row behind) mixed next = by_other t (lends b words get order out row behind) tt mixed next
  by_step t (stores b words g is) mixed next = by_other t (stores b words g is) tt mixed next
  by_step t (mends at row) mixed next = by_other t (mends at row) tt mixed next
  by_step t (begins at row alike) mixed next = by_other t (begins at row alike) tt mixed next
  by_step t (unlinks at row) mixed next = by_other t (unlinks at row) tt mixed next
  by_step t (narrows member near row are fewer) mixed next = by_other t (narrows member near row are fewer) tt mixed next
  by_step t (goes e y d _ back is) mixed next = by_other t (goes e y d t back is) tt mixed next

  driver_awaited : IsAwaitedWorld s puts (driver_next w)
  driver_awaited =
      let n : IsMixedNext k.standing w (driver_next w) = driver_tells_step k.standing w k.piped.mixed in
      by_step n.standing n.step n.mixed
      (driver_keeps_telling k.standing k.lines w n.standing n.step k.piped.mixed n.mixed k.piped.telling k.piped.going)

  -- ---- a command

  bus_same : (P : Bus → Type 0) (n : ℕ) (name : EpName) (r : Result Offered OfferError) → P w.bus → P (commanded_by w n name r).bus
  bus_same P n name (Ok o) held = held
  bus_same P n name (Err why) held = held

  command_awaited : (line : ℕ) (cmd : Cmd) → OpensMixed cmd → OpensDeclared (sides_of s) cmd → OpensSpot (spots_of s) cmd
      → OpensServed s cmd → IsByteCommand cmd → IsOffered w.driver.room cmd
      → IsAwaitedWorld s (puts_then w.driver cmd puts) (commanded w line cmd)
  command_awaited line cmd fits declares spotted serves bytes room = record {
    standing = k.standing;
    lines = k.lines;
    heads = k.heads;
    piped = commanded_piped (fixed_of s) (sides_of s) k.standing k.lines k.heads w k.piped line cmd fits declares room;
    pays = commanded_pays (fixed_of s) (sides_of s) k.standing k.lines k.heads puts w k.piped k.pays line cmd fits declares bytes room;
    behind = commanded_behind (fixed_of s) (sides_of s) (spots_of s) k.standing k.lines k.heads puts w k.piped k.pays k.behind line cmd fits
        declares spotted room;
    left = record { parts = k.left.parts; in_hand = k.left.in_hand; first = command_publishes w line cmd k.left.first };
    awaited = commanded_awaited s k.standing k.lines k.heads w k.piped k.awaited line cmd fits declares serves room;
    hubs = bus_same (HubsStand s) line (name_in cmd) (offered w.driver w.memory cmd) k.hubs;
    numbers = bus_same (AreNumbered s) line (name_in cmd) (offered w.driver w.memory cmd) k.numbers;
  }

-- ---- before the first line, and at each moment

new_world_awaited : (s : Script) → IsFit s → IsByteScript s → OpensUnsent s → OpensAwaited s → IsAwaitedWorld s no_puts (opening_world s)
new_world_awaited s fit bytes unsent opens_so = record {
  standing = new_standing;
  lines = no_lines;
  heads = no_heads;
  piped = new_piped s fit bytes;
  pays = new_pays s new_standing no_lines;
  behind = new_behind s new_standing no_lines unsent;
  left = record { parts = head_alone is_buffered_asked refl; in_hand = tt; first = tt };
  awaited = record {
    served = λ e y here. absurd (none_there s e y here);
    met = λ e y here is is_met. absurd (none_there s e y here);
    fresh = λ way addr ep on unused x o is same at num. (opens_so x o is).keys;
  };
  hubs = λ x o is. (opens_so x o is).hub;
  numbers = λ place seat here. record { number = 0; is = zeros (seats_of s) place seat here };
}

abbrev CanBe : Script → Cmd → Type 0
CanBe s cmd = CanBeBehind (sides_of s) (spots_of s) cmd × OpensServed s cmd

is_kept : (text : List ℕ) (s : Script) (spelled : Spells text s) (packets : AllByRecursion GetsThroughAbove s.fates)
    → IsKeptWhile (fixed_of s) (CanBe s) (λ w. SparesBuffers s w × WorldFindsNoneTold (wired (fixed_of s) w) w)
    (λ w puts. IsAwaitedWorld s puts w)
is_kept text s spelled packets = record {
  driver = λ w puts k. driver_awaited s w puts k;
  controller = λ w puts ok k. controller_awaited text s spelled packets w puts ok k;
  command = λ w line cmd puts can room k.
      command_awaited s w puts k line cmd can.0.0.0.0 can.0.0.0.1 can.0.1 can.1 can.0.0.1 room;
}

pub texts_are_awaited : (text : List ℕ) (s : Script) → Spells text s → AllByRecursion GetsThroughAbove s.fates → OpensAwaited s
    → ((j : ℕ) → SparesBuffers s (moment s j).world) → (k : ℕ) → IsAwaitedWorld s (puts_at s k) (moment s k).world
texts_are_awaited text s spelled packets opens_so spares k =
    let t = texts_open_spots text s spelled in
    let fits = lines_fit s.lines (texts_fit text s spelled) (texts_open_fitting text s spelled) in
    holds_while (CanBe s) (λ w. SparesBuffers s w × WorldFindsNoneTold (wired (fixed_of s) w) w) (λ w puts. IsAwaitedWorld s puts w) s
    (spelled_fits text s spelled)
    (kinds_both (CanBeBehind (sides_of s) (spots_of s)) (OpensServed s) s.lines
    (kinds_both (CanBePaid (sides_of s)) (OpensSpot (spots_of s)) s.lines
    (lines_paid (sides_of s) s.lines (lines_both (sides_of s) s.lines (lines_can s.lines fits) (texts_declare text s spelled))
    (a_text_spells_bytes text s spelled).lines) t.0) (texts_serve text s spelled))
    (new_world_awaited s (spelled_fits text s spelled) (a_text_spells_bytes text s spelled) t.1 opens_so) (is_kept text s spelled packets) k
    (λ j low. (spares j, texts_find_none_told text s spelled j))
