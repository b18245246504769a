-- The bus below a hub and the high-speed bus are buses of the same law for each control endpoint.
use Rattle.std.proofs.Common.{◌≡◌, ℕ, ◌==◌, ◌&&◌, Bool, true, List, slice_get, Option, Some, None, if◌then◌else◌, refl, sym, subst, ap, ◌∙◌, ◌⊎◌, inl, inr}
use Rattle.std.specs.Option.{option_map}
use Rattle.std.proofs.lemmas.Bool.{eq-eqb}
use Rattle.usb_base.specs.declared.packets.Ask.{Ask}
use Rattle.usb_base.specs.declared.packets.Reply.{Reply}
use Rattle.usb_base.specs.declared.packets.Reply.TheVariants.{Silent}
use Rattle.usb_base.specs.declared.packets.Split.{Split}
use Rattle.usb_base.specs.declared.packets.Split.TheVariants.{Plain, Start, Complete}
use Rattle.dev_control.specs.Stages.{Stages}
use Rattle.endpoint_script.specs.Device.{Device}
use Rattle.bus_wire.specs.declared.asked.Answerer.{Answerer}
use Rattle.bus_wire.specs.declared.asked.Answerer.TheVariants as Answerers
use Rattle.bus_wire.specs.declared.seats.Owner.TheVariants as Owners
use Rattle.bus_wire.specs.declared.seats.TokenKind.TheVariants as Tokens
use Rattle.bus_wire.specs.Fixed.{Fixed}
use Rattle.bus_wire.specs.Seats.{token_kind, place_for}
use Rattle.bus_wire.specs.Below.{Below, hears_at}
use Rattle.bus_wire.specs.Bus.{Bus, Wired, hears, hears_plain, transact_after}
use Rattle.claims_report.specs.ControlSides.{Device as Side}
use Rattle.claims_report.specs.Controls.{control_of_device, is_at}
use Rattle.law_devices.specs.Controls.{control_of_owner, control_of_seat, control_of_place, control_of}
use Rattle.law_request.specs.Host.{Endpoint}
use Rattle.law_devices.specs.request_calls.Bus.{device_of, IsAnswered, IsAskFor}
use Rattle.law_devices.specs.scripted_requests.Controls.{transacts_by}
use Rattle.law_devices.proofs.lemmas.scripted_requests.Asking.{place_kind, a_scripted_bus_answers_by_stages}
use Rattle.law_below_hubs.specs.Raised.{raised_to, raised_seat, raised_bus, raised, transacts_below, control_below}
use Rattle.law_below_hubs.specs.SeatedControls.{control_in, control_at, control_on, ControlsOn, ControlsAt}
use Rattle.law_below_hubs.proofs.Raising.{place_same, slice_map, controls_answer_below}
use Rattle.law_below_hubs.proofs.Moves.{DevicesMove, moves_below, IsSameBelow, unheard_below, moves_high, unheard_high}
use Rattle.law_below_hubs.proofs.LowBuses.{asked_or_not, heard_same, same_below}
use Rattle.law_below_hubs.proofs.HighBuses.{high_or_not, split_keeps}
use Rattle.law_below_hubs.proofs.ControlSeats.{IsControlSeated, control_seated, control_seated_through, control_stays}

-- nothing of the ask came to the device
unheard : (e : Endpoint) (ask : Ask) (out : List ℕ) (c : Stages) (o : Option Side) → o ≡ Some (device_of e c)
    → IsAnswered e ask out c Silent o
unheard e ask out c o is = record { losses = record { sent = true; answer = true; acknowledgement = true }; heard = refl; left = is }

-- the seat that it is asked at
place_asked : (w : Wired) (e : Endpoint) (place : ℕ) (ask : Ask) → IsAskFor e.addr e.num ask
    → place_for w.fixed.seats e.addr e.num Tokens.Setup ≡ Some place → place_for w.fixed.seats e.addr e.num Tokens.In ≡ Some place
    → place_for w.fixed.seats e.addr e.num Tokens.Out ≡ Some place
    → place_for w.fixed.seats ask.addr ask.ep (token_kind ask.pid) ≡ Some place
place_asked w e place ask k found found_in found_out =
    ap (λ (a : ℕ). place_for w.fixed.seats a ask.ep (token_kind ask.pid)) (sym k.address)
    ∙ ap (λ (n : ℕ). place_for w.fixed.seats e.addr n (token_kind ask.pid)) (sym k.number)
    ∙ place_kind w e.addr e.num place ask.pid k.token found found_in found_out

-- ---- below a hub

module _ (addr num : ℕ) (s : Side) where
  -- one that is asked is on the bus that this one is told as
  control_raised : (w v : Below) (h : IsControlSeated w.fixed w.floor.devices addr num s) → v.fixed ≡ w.fixed
      → hears_at v h.seat.owner ≡ Answerers.Device h.n
      → control_below v addr num ≡ control_of_device addr num (slice_get v.floor.devices h.n)
  control_raised w v h fixed heard =
      let setup = place_same v addr num Tokens.Setup ∙ ap (λ (f : Fixed). place_for f.seats addr num Tokens.Setup) fixed ∙ h.found in
      let ins = place_same v addr num Tokens.In ∙ ap (λ (f : Fixed). place_for f.seats addr num Tokens.In) fixed ∙ h.found_in in
      let outs = place_same v addr num Tokens.Out ∙ ap (λ (f : Fixed). place_for f.seats addr num Tokens.Out) fixed ∙ h.found_out in
      ap (control_of_place (raised v) addr num) setup
      ∙ ap (λ (o : Option ℕ). if is_at h.place o && is_at h.place (place_for (raised v).fixed.seats addr num Tokens.Out)
      then control_of_seat (raised_bus v) addr num (slice_get (raised v).fixed.seats h.place) else None) ins
      ∙ ap (λ (o : Option ℕ). if h.place == h.place && is_at h.place o
      then control_of_seat (raised_bus v) addr num (slice_get (raised v).fixed.seats h.place) else None) outs
      ∙ ap (λ (x : Bool). if x && x then control_of_seat (raised_bus v) addr num (slice_get (raised v).fixed.seats h.place) else None)
      (eq-eqb h.place h.place refl)
      ∙ ap (control_of_seat (raised_bus v) addr num)
      (slice_map (raised_seat v) v.fixed.seats h.place ∙ ap (λ (f : Fixed). option_map (raised_seat v) (slice_get f.seats h.place)) fixed
      ∙ ap (option_map (raised_seat v)) h.there)
      ∙ ap (λ (who : Answerer). control_of_owner (raised_bus v) addr num (raised_to who)) heard

  control_there : (w v : Below) (h : IsControlSeated w.fixed w.floor.devices addr num s) → v.fixed ≡ w.fixed
      → control_on v addr num ≡ control_of_device addr num (slice_get v.floor.devices h.n)
  control_there w v h fixed =
      ap (λ (f : Fixed). control_in f v.floor.devices addr num) fixed
      ∙ control_seated_through w.fixed w.floor.devices addr num s v.floor.devices h

control_asked : (w : Below) (ask : Ask) (out : List ℕ) (reply : Reply) (v : Below) (e : Endpoint) (c : Stages)
    → transacts_below w ask out reply v → IsAskFor e.addr e.num ask → control_on w e.addr e.num ≡ Some (device_of e c)
    → IsAnswered e ask out c reply (control_on v e.addr e.num)
control_asked w ask out reply v e c made k is = by (asked_or_not w h.seat.owner h.n h.owner)
  where
    h : IsControlSeated w.fixed w.floor.devices e.addr e.num (device_of e c)
    h = control_seated w.fixed w.floor.devices e.addr e.num (device_of e c) is

    stays : IsSameBelow w v
    stays = same_below w v ask out made.after

    by : (hears_at w h.seat.owner ≡ Answerers.Device h.n) ⊎ (hears_at w h.seat.owner ≡ Answerers.Nobody)
        → IsAnswered e ask out c reply (control_on v e.addr e.num)
    by (inl heard) =
        let here : control_below w e.addr e.num ≡ Some (device_of e c) =
        control_raised e.addr e.num (device_of e c) w w h refl heard ∙ h.is in
        let later : control_on v e.addr e.num ≡ control_below v e.addr e.num =
        control_there e.addr e.num (device_of e c) w v h stays.fixed
        ∙ sym (control_raised e.addr e.num (device_of e c) w v h stays.fixed
        (heard_same w v h.seat.owner stays.hub stays.enabled ∙ heard)) in
        subst (IsAnswered e ask out c reply) (sym later) (controls_answer_below.asked w ask out reply v e c made k here)
    by (inr none) =
        let at : Wired = record { fixed = w.fixed; bus = raised_bus w } in
        let u = unheard_below w ask out h.place h.seat (place_asked at e h.place ask k h.found h.found_in h.found_out) h.there none in
        let same : v.floor.devices ≡ w.floor.devices = ap (λ (x : Below). x.floor.devices) made.after ∙ u.devices in
        let later : control_on v e.addr e.num ≡ Some (device_of e c) =
        control_there e.addr e.num (device_of e c) w v h stays.fixed
        ∙ ap (λ (ds : List Device). control_of_device e.addr e.num (slice_get ds h.n)) same ∙ h.is in
        subst (λ (r : Reply). IsAnswered e ask out c r (control_on v e.addr e.num)) (sym (made.heard ∙ u.silent))
        (unheard e ask out c (control_on v e.addr e.num) later)

pub controls_on : ControlsOn
controls_on = record {
  asked = control_asked;
  others = λ w ask out reply v addr num d made is other.
      let stays = same_below w v ask out made.after in
      let moves : DevicesMove ask out w.floor.devices v.floor.devices =
      subst (λ (x : Below). DevicesMove ask out w.floor.devices x.floor.devices) (sym made.after) (moves_below w ask out) in
      ap (λ (f : Fixed). control_in f v.floor.devices addr num) stays.fixed
      ∙ control_stays w.fixed addr num d ask out w.floor.devices v.floor.devices moves made.plain other is;
}

-- ---- on the high-speed bus

-- one that is on this bus is told as law_devices tells it
control_through_bus : (w : Wired) (addr num : ℕ) (s : Side) (h : IsControlSeated w.fixed w.bus.devices addr num s) (b : Bus)
    → h.seat.owner ≡ Owners.High h.n
    → control_of (record w { bus = b }) addr num ≡ control_of_device addr num (slice_get b.devices h.n)
control_through_bus w addr num s h b high =
    ap (control_of_place (record w { bus = b }) addr num) h.found
    ∙ ap (λ (o : Option ℕ). if is_at h.place o && is_at h.place (place_for w.fixed.seats addr num Tokens.Out)
    then control_of_seat b addr num (slice_get w.fixed.seats h.place) else None) h.found_in
    ∙ ap (λ (o : Option ℕ). if h.place == h.place && is_at h.place o
    then control_of_seat b addr num (slice_get w.fixed.seats h.place) else None) h.found_out
    ∙ ap (λ (x : Bool). if x && x then control_of_seat b addr num (slice_get w.fixed.seats h.place) else None) (eq-eqb h.place h.place refl)
    ∙ ap (control_of_seat b addr num) h.there ∙ ap (control_of_owner b addr num) high

control_asked_at : (w : Wired) (ask : Ask) (out : List ℕ) (reply : Reply) (v : Wired) (e : Endpoint) (c : Stages)
    → transacts_by w ask out reply v → IsAskFor e.addr e.num ask → control_at w e.addr e.num ≡ Some (device_of e c)
    → IsAnswered e ask out c reply (control_at v e.addr e.num)
control_asked_at w ask out reply v e c made k is = by (high_or_not h.seat.owner h.n h.owner)
  where
    h : IsControlSeated w.fixed w.bus.devices e.addr e.num (device_of e c)
    h = control_seated w.fixed w.bus.devices e.addr e.num (device_of e c) is

    there : (b : Bus) → control_at (record w { bus = b }) e.addr e.num ≡ control_of_device e.addr e.num (slice_get b.devices h.n)
    there b = control_seated_through w.fixed w.bus.devices e.addr e.num (device_of e c) b.devices h

    by : (h.seat.owner ≡ Owners.High h.n) ⊎ (hears_plain h.seat.owner ≡ Answerers.Nobody)
        → IsAnswered e ask out c reply (control_at v e.addr e.num)
    by (inl high) =
        let same : (b : Bus) → control_at (record w { bus = b }) e.addr e.num ≡ control_of (record w { bus = b }) e.addr e.num =
        λ b. there b ∙ sym (control_through_bus w e.addr e.num (device_of e c) h b high) in
        let answered : IsAnswered e ask out c reply (control_of v e.addr e.num) =
        a_scripted_bus_answers_by_stages.asked w ask out reply v e c made k (sym (same w.bus) ∙ is) in
        let later : control_at v e.addr e.num ≡ control_of v e.addr e.num =
        ap (λ (x : Wired). control_at x e.addr e.num) made.1 ∙ same (transact_after w.fixed w.bus ask out)
        ∙ sym (ap (λ (x : Wired). control_of x e.addr e.num) made.1) in
        subst (IsAnswered e ask out c reply) (sym later) answered
    by (inr none) =
        let u = unheard_high w.fixed w.bus ask out h.place h.seat (place_asked w e h.place ask k h.found h.found_in h.found_out) h.there
        (ap (λ (split : Split). hears w.bus split h.seat.owner) k.plain ∙ none) in
        let later : control_at v e.addr e.num ≡ Some (device_of e c) =
        ap (λ (x : Wired). control_at x e.addr e.num) made.1 ∙ there (transact_after w.fixed w.bus ask out)
        ∙ ap (λ (ds : List Device). control_of_device e.addr e.num (slice_get ds h.n)) u.devices ∙ h.is in
        subst (λ (r : Reply). IsAnswered e ask out c r (control_at v e.addr e.num)) (sym (made.0 ∙ u.silent))
        (unheard e ask out c (control_at v e.addr e.num) later)

-- no split transaction asks a device
control_beside : (w : Wired) (ask : Ask) (out : List ℕ) (addr num : ℕ) (s : Side) (split : Split) → ask.split ≡ split
    → control_at w addr num ≡ Some s → (IsAskFor addr num ask → ⊥)
    → control_at (record w { bus = transact_after w.fixed w.bus ask out }) addr num ≡ Some s
control_beside w ask out addr num s Plain plain is other =
    control_stays w.fixed addr num s ask out w.bus.devices (transact_after w.fixed w.bus ask out).devices (moves_high w.fixed w.bus ask out)
    plain other is
control_beside w ask out addr num s (Start hub port part) split is other =
    ap (λ (ds : List Device). control_in w.fixed ds addr num) (split_keeps w.fixed w.bus ask out (λ plain. let z = sym split ∙ plain in cc))
    ∙ is
control_beside w ask out addr num s (Complete hub port) split is other =
    ap (λ (ds : List Device). control_in w.fixed ds addr num) (split_keeps w.fixed w.bus ask out (λ plain. let z = sym split ∙ plain in cc))
    ∙ is

pub controls_at : ControlsAt
controls_at = record {
  asked = control_asked_at;
  others = λ w ask out reply v addr num d made is other. ap (λ (x : Wired). control_at x addr num) made.1
      ∙ control_beside w ask out addr num d ask.split refl is other;
}
