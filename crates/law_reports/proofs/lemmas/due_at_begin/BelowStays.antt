-- No event but the Begin of a microframe changes a device below a hub, or counts a packet below (USB 2.0, 11.14 and 11.18).
use Rattle.std.proofs.Common.{◌≡◌, ◌≢◌, ℕ, zero, suc, ◌*◌, Bool, true, false, List, slice_get, Option, Some, None, ap, refl, sym, subst}
use Rattle.std.proofs.Common.{◌∙◌}
use Rattle.std.specs.Option.{option_map_or}
use Rattle.usb_base.specs.declared.packets.Ask.{Ask}
use Rattle.usb_base.specs.declared.packets.Split.{Split}
use Rattle.usb_base.specs.declared.packets.Split.TheVariants as splits
use Rattle.script_types.specs.declared.scripts.Script.{Script}
use Rattle.endpoint_script.specs.Device.{Device}
use Rattle.drv_table.specs.declared.content.Endpoint.{Endpoint}
use Rattle.hc_copy.specs.Buffer.{Reading, sending}
use Rattle.hc_copy.specs.Transacting.{call_in}
use Rattle.hc_copy.specs.declared.held.Held.{Held}
use Rattle.hc_copy.specs.declared.held.Transaction.{Transaction}
use Rattle.async_walk.specs.Rows.{WalkPlace, event_row, at_event}
use Rattle.async_walk.specs.declared.rows.WalkRow.{WalkRow}
use Rattle.async_walk.specs.declared.rows.WalkRow.TheVariants as walks
use Rattle.periodic_walk.specs.Place.{Effect}
use Rattle.periodic_walk.specs.Place.Effect.{Leaves, Asks}
use Rattle.periodic_walk.specs.Rows.{effect_of}
use Rattle.hc_core.specs.declared.controller.ControllerRow.{ControllerRow}
use Rattle.hc_core.specs.declared.controller.ControllerRow.TheVariants as rows
use Rattle.hc_core.specs.Controller.{entered, walk_place, frame_place}
use Rattle.bus_wire.specs.declared.asked.Answerer.{Answerer}
use Rattle.bus_wire.specs.declared.asked.Answerer.TheVariants as answerers
use Rattle.bus_wire.specs.declared.asked.Asked.{Asked}
use Rattle.bus_wire.specs.declared.seats.Owner.{Owner}
use Rattle.bus_wire.specs.declared.seats.Owner.TheVariants as owners
use Rattle.bus_wire.specs.declared.who_heard.WhoHeard.{WhoHeard}
use Rattle.bus_wire.specs.Asking.{device_after, put_at}
use Rattle.bus_wire.specs.Bus.{Bus, Fixed, fixed_of, hears, hears_plain, asked_of, bus_row, changed_by, after_at, transact_after, stuff_of}
use Rattle.bus_wire.specs.Seats.{token_kind, place_for}
use Rattle.bus_world.specs.Budgets.{moment}
use Rattle.bus_world.specs.Orders.{ticks}
use Rattle.bus_world.specs.World.{World, controller_parts, controller_row, controller_next, driver_next, commanded, sent_by, sends_by}
use Rattle.bus_world.specs.World.{walk_by, frame_by, turned_by, with_turned}
use Rattle.claims_world.specs.Carried.{carried_from}
use Rattle.claims_world.specs.DueAtBegin.{begun}
use Rattle.law_devices.proofs.Places.{set_beside}
use Rattle.law_microframes.proofs.lemmas.visits.ReasonParts.{command_bus}
use Rattle.law_reports.specs.due_at_begin.BelowStays.{IsNotHigh, StaysBelow, TextsLeaveBelow}
use Rattle.law_reports.proofs.lemmas.due_at_begin.BegunMoments.{GoesNow, begins, by_controller, by_driver, by_command, stays, goes_now}
use Rattle.law_reports.proofs.lemmas.due_at_begin.PipelinesLeft.{IsSeatOf, of_place}

stays_so : (n : ℕ) (b : Bus) → StaysBelow n b b
stays_so n b = record { device = refl; numbers = refl }

stays_on : (n : ℕ) (a b c : Bus) → StaysBelow n a b → StaysBelow n b c → StaysBelow n a c
stays_on n a b c x y = record { device = y.device ∙ x.device; numbers = y.numbers ∙ x.numbers }

-- ---- a transaction of the host

-- a device is asked by a plain ask for an endpoint of it on the high-speed bus
plain_device : (owner : Owner) (m : ℕ) → hears_plain owner ≡ answerers.Device m → owner ≡ owners.High m
plain_device (owners.Hub p) m is = absurd cc
plain_device (owners.High p) m is = let same : p ≡ m = cc in ap owners.High same
plain_device (owners.Below p hub port stuff) m is = absurd cc

no_device : (stuff m : ℕ) (o : Option ℕ) {P : Type 0}
    → option_map_or (λ (place : ℕ). answerers.Translator place stuff) o answerers.Nobody ≡ answerers.Device m → P
no_device stuff m None is = absurd cc
no_device stuff m (Some place) is = absurd cc

its_device : (b : Bus) (split : Split) (owner : Owner) (m : ℕ) → hears b split owner ≡ answerers.Device m → owner ≡ owners.High m
its_device b splits.Plain owner m is = plain_device owner m is
its_device b (splits.Start hub port part) owner m is = no_device (stuff_of owner) m _ is
its_device b (splits.Complete hub port) owner m is = no_device (stuff_of owner) m _ is

module _ (fixed : Fixed) (n : ℕ) (off : IsNotHigh fixed n) where
  module _ (b : Bus) (ask : Ask) (out : List ℕ) where
    put_device : (row : WhoHeard) (m : ℕ) (o : Option Device) → n ≢ m
        → slice_get (put_at o m (device_after row ask out) b.devices) n ≡ slice_get b.devices n
    put_device row m None apart = refl
    put_device row m (Some d) apart = set_beside b.devices m n (device_after row ask out d) apart

    changed_stays : (row : WhoHeard) (who : Answerer) → (who ≡ answerers.Device n → ⊥)
        → StaysBelow n b (changed_by row who ask out b)
    changed_stays row (answerers.Device m) never = record {
      device = put_device row m (slice_get b.devices m) (λ same. never (ap answerers.Device (sym same)));
      numbers = refl;
    }
    changed_stays row (answerers.Hub m) never = record { device = refl; numbers = refl }
    changed_stays row (answerers.Translator m stuff) never = record { device = refl; numbers = refl }
    changed_stays row answerers.Nobody never = record { device = refl; numbers = refl }

    never_asked : (e : Asked) → asked_of fixed b ask ≡ Some e → e.who ≡ answerers.Device n → ⊥
    never_asked e is who =
        let s : IsSeatOf fixed b ask.split e =
        of_place fixed b ask.split (place_for fixed.seats ask.addr ask.ep (token_kind ask.pid)) e is in
        off e.place s.seat s.there (its_device b ask.split s.seat.owner n (sym s.who ∙ who))

    after_stays : (o : Option Asked) → asked_of fixed b ask ≡ o → StaysBelow n b (after_at fixed b ask out o)
    after_stays None is = stays_so n b
    after_stays (Some e) is =
        let x : StaysBelow n b (changed_by (bus_row fixed b e ask out) e.who ask out b) =
        changed_stays (bus_row fixed b e ask out) e.who (never_asked e is) in
        record { device = x.device; numbers = x.numbers }

    asks_stay : StaysBelow n b (transact_after fixed b ask out)
    asks_stay = after_stays (asked_of fixed b ask) refl

  -- ---- the ring

  sent_stays : (sent : Bool) (t : Transaction) (h : Held) (bytes : List ℕ) (p : WalkPlace) (b : Bus)
      → StaysBelow n b (sent_by fixed sent t h bytes p b).bus
  sent_stays true t h bytes p b = asks_stay b (call_in t bytes false).ask (call_in t bytes false).out
  sent_stays false t h bytes p b = stays_so n b

  sends_stays : (t : Transaction) (p : WalkPlace) (o : Option Held) (b : Bus) → StaysBelow n b (sends_by fixed t p o b).bus
  sends_stays t p None b = stays_so n b
  sends_stays t p (Some h) b =
      let read : Reading = sending t h.queue_head p.memory in
      sent_stays read.all t h read.bytes (record p { memory = read.memory }) b

  walk_stays : (row : WalkRow) (p : WalkPlace) (b : Bus) → StaysBelow n b (walk_by fixed row p b).bus
  walk_stays (walks.Transact t) p b = sends_stays t p p.walk.held b
  walk_stays _ p b = stays_so n b

  -- ---- the walk of the frames

  effect_stays : (e : Effect) (b : Bus) → StaysBelow n b (frame_by fixed e b).bus
  effect_stays (Leaves p) b = stays_so n b
  effect_stays (Asks ask out left_by) b = asks_stay b ask out

  -- ---- an event of the controller

  module _ (w : World) where
    of_new : (r : ControllerRow) → controller_row w ≡ r → StaysBelow n w.bus (turned_by fixed r (controller_parts w) w.bus).bus
        → StaysBelow n w.bus (controller_next fixed w).bus
    of_new r row had =
        subst (λ (v : World). StaysBelow n w.bus v.bus)
        (ap (λ (x : ControllerRow). with_turned w (turned_by fixed x (controller_parts w) w.bus)) (sym row)) had

    row_stays : (r : ControllerRow) → controller_row w ≡ r → r ≢ rows.Begin → StaysBelow n w.bus (controller_next fixed w).bus
    row_stays rows.Begin row other = absurd (other refl)
    row_stays rows.Frame row other = of_new rows.Frame row (effect_stays (effect_of (frame_place (controller_parts w))) w.bus)
    row_stays rows.Idle row other = of_new rows.Idle row (stays_so n w.bus)
    row_stays rows.Enter row other =
        let p : WalkPlace = walk_place (entered (controller_parts w)) in
        of_new rows.Enter row (walk_stays (event_row p) (at_event p) w.bus)
    row_stays rows.Go row other =
        let p : WalkPlace = walk_place (controller_parts w) in of_new rows.Go row (walk_stays (event_row p) (at_event p) w.bus)
    row_stays rows.End row other = of_new rows.End row (stays_so n w.bus)

    pub event_stays : controller_row w ≢ rows.Begin → StaysBelow n w.bus (controller_next fixed w).bus
    event_stays other = row_stays (controller_row w) refl other

-- ---- a run

module _ (s : Script) (n : ℕ) (off : IsNotHigh (fixed_of s) n) where
  abbrev At : World → World → Type 0
  At b w = (e : ℕ) (x : Endpoint) → slice_get b.driver.endpoints e ≡ Some x → StaysBelow n b.bus w.bus

  next_at : (k : ℕ) → At (begun s k) (moment s k).world → GoesNow s k → At (begun s (suc k)) (moment s (suc k)).world
  next_at k had (begins g) =
      subst (λ (b : World). At b (moment s (suc k)).world) (sym g.begun)
      (subst (At (controller_next (fixed_of s) (moment s k).world)) (sym g.world) (λ e x here. stays_so n _))
  next_at k had (by_controller other world same) =
      subst (λ (b : World). At b (moment s (suc k)).world) (sym same)
      (subst (At (begun s k)) (sym world) (λ e x here.
      stays_on n (begun s k).bus (moment s k).world.bus _ (had e x here) (event_stays (fixed_of s) n off (moment s k).world other)))
  next_at k had (by_driver world same) =
      subst (λ (b : World). At b (moment s (suc k)).world) (sym same)
      (subst (At (begun s k)) (sym world) (λ e x here. had e x here))
  next_at k had (by_command c cmd world same) =
      subst (λ (b : World). At b (moment s (suc k)).world) (sym same)
      (subst (At (begun s k)) (sym world) (λ e x here.
      subst (StaysBelow n (begun s k).bus) (sym (command_bus (moment s k).world c cmd)) (had e x here)))
  next_at k had (stays world same) =
      subst (λ (b : World). At b (moment s (suc k)).world) (sym same) (subst (At (begun s k)) (sym world) had)

  stays_at : (k : ℕ) → At (begun s k) (moment s k).world
  unfolding ticks carried_from
  stays_at zero = λ e x here. absurd (cc here)
  stays_at (suc k) = next_at k (stays_at k) (goes_now s k)

pub texts_leave_below : TextsLeaveBelow
texts_leave_below text s spelled k e n x here off = stays_at s n off k e x here
