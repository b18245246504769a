-- Number 0 of each device stays that of its control endpoint alone, and nothing is sent or taken there.
use Rattle.std.proofs.Common.{◌≡◌, ℕ, ◌==◌, false, List, [], ◌∷◌, map, slice_get, Option, Some, None, refl, ap, ◌∙◌}
use Rattle.std.specs.List.{AllByRecursion}
use Rattle.std.proofs.lemmas.Bool.{cond_both, cond-true, eq-eqb}
use Rattle.law_devices.proofs.Common2.{named_begun}
use Rattle.law_common.proofs.Lists.{all_map, all_set}
use Rattle.usb_base.specs.declared.packets.Ask.{Ask}
use Rattle.usb_base.specs.declared.packets.Way.TheVariants as way
use Rattle.script_types.specs.declared.devices.DeviceText.{DeviceText}
use Rattle.script_world.specs.Draft.{Draft, Placed, device_text, script_of}
use Rattle.endpoint_script.specs.Device.{Device, is_named, place_named, opened_endpoint, opening, begun, endpoint_at}
use Rattle.hub_class.specs.HubContent.{HubContent}
use Rattle.hub_class.proofs.Microframe.{work_keeps}
use Rattle.bus_wire.specs.declared.asked.Answerer.{Answerer}
use Rattle.bus_wire.specs.declared.asked.Answerer.TheVariants as answerers
use Rattle.bus_wire.specs.declared.asked.Asked.{Asked}
use Rattle.bus_wire.specs.declared.seats.Owner.{Owner}
use Rattle.bus_wire.specs.declared.seats.Owner.TheVariants as owners
use Rattle.bus_wire.specs.declared.seats.Seat.{Seat}
use Rattle.bus_wire.specs.declared.seats.TokenKind.TheVariants.{In, Out}
use Rattle.bus_wire.specs.declared.who_heard.WhoHeard.{WhoHeard}
use Rattle.bus_wire.specs.Asking.{device_after, put_at, changed_at}
use Rattle.bus_wire.specs.Below.{Below, Floor, below_at, asked_below, below_row, devices_after, below_reply, below_after_at, below_after, floor_left, floor_worked}
use Rattle.bus_wire.specs.Bus.{Fixed, Bus, Wired, opening_bus, floor_of, begins_anew, begun_at, asked_of, bus_row, changed_by, after_at}
use Rattle.bus_wire.specs.Seats.{place_for}
use Rattle.claims_report.specs.ControlSides.{Device as Side}
use Rattle.law_devices.specs.Senders.{sender_of_endpoint, sender_of_device, sender_of_owner, sender_of_seat, sender_of_place}
use Rattle.law_devices.proofs.Devices.{device_changes}
use Rattle.law_devices.proofs.Asking.{sender_through}
use Rattle.law_devices.specs.scripted_takers.Takers.{taker_of_endpoint, taker_of_device, taker_of_owner, taker_of_seat, taker_of_place}
use Rattle.law_devices.proofs.lemmas.scripted_takers.Asking.{taker_through}
use Rattle.law_devices.proofs.lemmas.scripted_requests.Finding.{HasControl, control_found}
use Rattle.law_devices.proofs.Lists.{Holds}
use Rattle.law_devices.specs.declared_controls.Zero.{IsZeroAlone, AreZeroesAlone, IsNoStream}
use Rattle.law_devices.specs.declared_controls.Laws.{TransactionLeavesZero, MicroframeLeavesZero, ZeroIsNoStream, ControlIsNoStream}
use Rattle.law_devices.proofs.lemmas.declared_controls.Places.{position_none, all_get}
use Rattle.law_devices.proofs.lemmas.declared_controls.Names.{not_zero}
use Rattle.law_devices.proofs.lemmas.declared_controls.Drafts.{HasName, HasNames, IsToldDraft}

abbrev AreAlone : List Device → Type 0
AreAlone ds = AllByRecursion IsZeroAlone ds

-- ---- at the opening

abbrev pub AreNamed : DeviceText → Type 0
AreNamed d = AllByRecursion HasName d.eps

pub device_alone : (d : DeviceText) → AreNamed d → IsZeroAlone (opening d)
device_alone d h = record {
  no_in = position_none (is_named 0 way.In) (map opened_endpoint d.eps) (all_map HasName (λ e. is_named 0 way.In e ≡ false) opened_endpoint d.eps (λ t k. not_zero t.desc way.In k refl) h);
  no_out = position_none (is_named 0 way.Out) (map opened_endpoint d.eps) (all_map HasName (λ e. is_named 0 way.Out e ≡ false) opened_endpoint d.eps (λ t k. not_zero t.desc way.Out k refl) h);
}

pub texts_named : (ds : List Placed) → AllByRecursion HasNames ds → AllByRecursion AreNamed (map device_text ds)
texts_named ds h = all_map HasNames AreNamed device_text ds (λ d k. k) h

pub opening_alone : (w : Draft) → IsToldDraft w → AreZeroesAlone (opening_bus (script_of w))
opening_alone w h = all_map AreNamed IsZeroAlone opening (map device_text w.devices) device_alone (texts_named w.devices h.devices)

-- ---- a device that was asked, and one that begins anew

asked_alone : (row : WhoHeard) (ask : Ask) (out : List ℕ) (d : Device) → IsZeroAlone d → IsZeroAlone (device_after row ask out d)
asked_alone row ask out d h =
    let k = device_changes row d ask out in
    record { no_in = k.names 0 way.In ∙ h.no_in; no_out = k.names 0 way.Out ∙ h.no_out }

begun_alone : (frindex : ℕ) (d : Device) → IsZeroAlone d → IsZeroAlone (begun_at frindex d)
begun_alone frindex d h =
    cond_both (begins_anew d.speed frindex) (begun d) d IsZeroAlone
    (λ _. record { no_in = named_begun 0 way.In d.endpoints ∙ h.no_in; no_out = named_begun 0 way.Out d.endpoints ∙ h.no_out }) (λ _. h)

put_alone : (o : Option Device) (place : ℕ) (row : WhoHeard) (ask : Ask) (out : List ℕ) (ds : List Device) → Holds IsZeroAlone o → AreAlone ds → AreAlone (put_at o place (device_after row ask out) ds)
put_alone None place row ask out ds k h = h
put_alone (Some d) place row ask out ds k h = all_set IsZeroAlone ds place (device_after row ask out d) h (asked_alone row ask out d k)

changed_alone : (place : ℕ) (row : WhoHeard) (ask : Ask) (out : List ℕ) (ds : List Device) → AreAlone ds → AreAlone (changed_at place (device_after row ask out) ds)
changed_alone place row ask out ds h = put_alone (slice_get ds place) place row ask out ds (all_get IsZeroAlone ds place h) h

-- ---- a transaction

by_alone : (row : WhoHeard) (who : Answerer) (ask : Ask) (out : List ℕ) (b : Bus) → AreZeroesAlone b → AreZeroesAlone (changed_by row who ask out b)
by_alone row (answerers.Device place) ask out b h = changed_alone place row ask out b.devices h
by_alone row _ ask out b h = h

at_alone : (fixed : Fixed) (b : Bus) (ask : Ask) (out : List ℕ) (e : Option Asked) → AreZeroesAlone b → AreZeroesAlone (after_at fixed b ask out e)
at_alone fixed b ask out None h = h
at_alone fixed b ask out (Some e) h = by_alone (bus_row fixed b e ask out) e.who ask out b h

pub transaction_leaves_zero : TransactionLeavesZero
transaction_leaves_zero fixed b ask out h = at_alone fixed b ask out (asked_of fixed b ask) h

-- ---- the beginning of a microframe

below_alone : (row : WhoHeard) (who : Answerer) (ask : Ask) (out : List ℕ) (ds : List Device) → AreAlone ds → AreAlone (devices_after row who ask out ds)
below_alone row (answerers.Device place) ask out ds h = changed_alone place row ask out ds h
below_alone row _ ask out ds h = h

below_at_alone : (w : Below) (ask : Ask) (out : List ℕ) (e : Option Asked) → AreAlone w.floor.devices → AreAlone (below_after_at w ask out e).floor.devices
below_at_alone w ask out None h = h
below_at_alone w ask out (Some e) h = below_alone (below_row w e ask out) e.who ask out w.floor.devices h

left_alone : (fixed : Fixed) (x : HubContent) (floor : Floor) → AreAlone floor.devices → AreAlone (floor_left fixed x floor).devices
left_alone fixed x floor h = work_keeps below_reply below_after (λ (w : Below). AreAlone w.floor.devices) (λ w ask out k. below_at_alone w ask out (asked_below w ask) k) x (below_at fixed x floor) h

worked_alone : (fixed : Fixed) (hubs : List HubContent) (floor : Floor) → AreAlone floor.devices → AreAlone (floor_worked fixed hubs floor).devices
worked_alone fixed [] floor h = h
worked_alone fixed (x ∷ xs) floor h = worked_alone fixed xs (floor_left fixed x floor) (left_alone fixed x floor h)

pub microframe_leaves_zero : MicroframeLeavesZero
microframe_leaves_zero fixed frindex b h =
    all_map IsZeroAlone IsZeroAlone (begun_at frindex) (floor_worked fixed b.hubs (floor_of b)).devices (begun_alone frindex) (worked_alone fixed b.hubs (floor_of b) h)

-- ---- nothing is sent or taken there

device_sends : (addr : ℕ) (o : Option Device) → Holds IsZeroAlone o → sender_of_device addr 0 o ≡ None
device_sends addr None h = refl
device_sends addr (Some d) h =
    cond_both (addr == d.address) (sender_of_endpoint (endpoint_at d.endpoints (place_named d.endpoints 0 way.In))) None (λ o. o ≡ None)
    (λ _. ap (λ (o : Option ℕ). sender_of_endpoint (endpoint_at d.endpoints o)) h.no_in) (λ _. refl)

owner_sends : (b : Bus) (addr : ℕ) (owner : Owner) → AreZeroesAlone b → sender_of_owner b addr 0 owner ≡ None
owner_sends b addr (owners.High place) h = device_sends addr (slice_get b.devices place) (all_get IsZeroAlone b.devices place h)
owner_sends b addr _ h = refl

seat_sends : (b : Bus) (addr : ℕ) (o : Option Seat) → AreZeroesAlone b → sender_of_seat b addr 0 o ≡ None
seat_sends b addr None h = refl
seat_sends b addr (Some seat) h = owner_sends b addr seat.owner h

place_sends : (w : Wired) (addr : ℕ) (o : Option ℕ) → AreZeroesAlone w.bus → sender_of_place w addr 0 o ≡ None
place_sends w addr None h = refl
place_sends w addr (Some place) h = seat_sends w.bus addr (slice_get w.fixed.seats place) h

device_takes : (addr : ℕ) (o : Option Device) → Holds IsZeroAlone o → taker_of_device addr 0 o ≡ None
device_takes addr None h = refl
device_takes addr (Some d) h =
    cond_both (addr == d.address) (taker_of_endpoint (endpoint_at d.endpoints (place_named d.endpoints 0 way.Out))) None (λ o. o ≡ None)
    (λ _. ap (λ (o : Option ℕ). taker_of_endpoint (endpoint_at d.endpoints o)) h.no_out) (λ _. refl)

owner_takes : (b : Bus) (addr : ℕ) (owner : Owner) → AreZeroesAlone b → taker_of_owner b addr 0 owner ≡ None
owner_takes b addr (owners.High place) h = device_takes addr (slice_get b.devices place) (all_get IsZeroAlone b.devices place h)
owner_takes b addr _ h = refl

seat_takes : (b : Bus) (addr : ℕ) (o : Option Seat) → AreZeroesAlone b → taker_of_seat b addr 0 o ≡ None
seat_takes b addr None h = refl
seat_takes b addr (Some seat) h = owner_takes b addr seat.owner h

place_takes : (w : Wired) (addr : ℕ) (o : Option ℕ) → AreZeroesAlone w.bus → taker_of_place w addr 0 o ≡ None
place_takes w addr None h = refl
place_takes w addr (Some place) h = seat_takes w.bus addr (slice_get w.fixed.seats place) h

pub zero_is_no_stream : ZeroIsNoStream
zero_is_no_stream w addr h = record { sends = place_sends w addr (place_for w.fixed.seats addr 0 In) h; takes = place_takes w addr (place_for w.fixed.seats addr 0 Out) h }

-- ---- nor where a control endpoint is

module _ (w : Wired) (addr num : ℕ) (d : Side) (h : HasControl w addr num d) where
  no_sender : sender_of_device addr num (slice_get w.bus.devices h.device_place) ≡ None
  no_sender =
      ap (sender_of_device addr num) h.at.is ∙ cond-true _ _ _ (eq-eqb addr h.at.device.address h.at.address)
      ∙ ap (λ (o : Option ℕ). sender_of_endpoint (endpoint_at h.at.device.endpoints o)) h.at.no_in

  no_taker : taker_of_device addr num (slice_get w.bus.devices h.device_place) ≡ None
  no_taker =
      ap (taker_of_device addr num) h.at.is ∙ cond-true _ _ _ (eq-eqb addr h.at.device.address h.at.address)
      ∙ ap (λ (o : Option ℕ). taker_of_endpoint (endpoint_at h.at.device.endpoints o)) h.at.no_out

  control_alone : IsNoStream w addr num
  control_alone = record {
    sends = sender_through w addr num h.place h.seat h.device_place w.bus h.found_in h.there h.owner ∙ no_sender;
    takes = taker_through w addr num h.place h.seat h.device_place w.bus h.found_out h.there h.owner ∙ no_taker;
  }

pub control_is_no_stream : ControlIsNoStream
control_is_no_stream w addr num d is = control_alone w addr num d (control_found w addr num d is)
