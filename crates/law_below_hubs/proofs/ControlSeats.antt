-- A control endpoint wherever its seat is: it is of its device, which a transaction for another endpoint leaves.
use Rattle.std.proofs.Common.{◌≡◌, ◌≢◌, ℕ, ◌==◌, ◌&&◌, Bool, true, false, List, slice_get, slice_set, Option, Some, None, if◌then◌else◌, refl, sym, subst, ap, ◌∙◌, ⊎_elim}
use Rattle.std.specs.Option.{option_and_then}
use Rattle.std.proofs.lemmas.Bool.{cases_eq, false≢true, eqb-true, eq-eqb}
use Rattle.std.proofs.lemmas.Option.{same_Some}
use Rattle.law_common.proofs.Booleans.{and_both}
use Rattle.usb_base.specs.declared.packets.Ask.{Ask}
use Rattle.usb_base.specs.declared.packets.Split.TheVariants.{Plain}
use Rattle.usb_base.specs.declared.packets.Way.TheVariants as Ways
use Rattle.endpoint_script.specs.Device.{Device, endpoint_asked}
use Rattle.bus_wire.specs.declared.seats.Seat.{Seat}
use Rattle.bus_wire.specs.declared.seats.TokenKind.TheVariants as Tokens
use Rattle.bus_wire.specs.declared.who_heard.WhoHeard.{WhoHeard}
use Rattle.bus_wire.specs.Fixed.{Fixed}
use Rattle.bus_wire.specs.Seats.{place_for}
use Rattle.bus_wire.specs.Asking.{device_after, put_at, changed_at}
use Rattle.claims_report.specs.ControlSides.{Device as Side}
use Rattle.claims_report.specs.Controls.{control_of_part, control_of_device, is_at}
use Rattle.law_devices.specs.request_calls.Bus.{IsAskFor}
use Rattle.law_devices.proofs.Places.{set_here, set_beside}
use Rattle.law_devices.proofs.Devices.{device_changes, address_after}
use Rattle.law_devices.proofs.lemmas.scripted_requests.Finding.{IsAtDevice, device_found, device_control, of_control}
use Rattle.law_below_hubs.specs.Seated.{device_place, end_seated}
use Rattle.law_below_hubs.specs.SeatedControls.{control_placed, control_in}
use Rattle.law_below_hubs.proofs.Moves.{DevicesMove, same, moved}

at_place : (place : ℕ) (o : Option ℕ) → is_at place o ≡ true → o ≡ Some place
at_place place None e = absurd (false≢true e)
at_place place (Some other) e = ap (λ (n : ℕ). Some n) (sym (eqb-true place other e))

-- ---- where it sits

pub record IsControlSeated (fixed : Fixed) (devices : List Device) (addr num : ℕ) (s : Side) : Type 0 where
  pub place : ℕ
  pub found : place_for fixed.seats addr num Tokens.Setup ≡ Some place
  pub found_in : place_for fixed.seats addr num Tokens.In ≡ Some place
  pub found_out : place_for fixed.seats addr num Tokens.Out ≡ Some place
  pub seat : Seat
  pub there : slice_get fixed.seats place ≡ Some seat
  pub n : ℕ
  pub owner : device_place seat.owner ≡ Some n
  pub is : control_of_device addr num (slice_get devices n) ≡ Some s

module _ (fixed : Fixed) (devices : List Device) (addr num : ℕ) (s : Side) where
  none_some : {P : Type 0} → None ≡ Some s → P
  none_some e = absurd cc

  module _ (place : ℕ) (found : place_for fixed.seats addr num Tokens.Setup ≡ Some place)
      (found_in : place_for fixed.seats addr num Tokens.In ≡ Some place)
      (found_out : place_for fixed.seats addr num Tokens.Out ≡ Some place) where
    device_by : (seat : Seat) (o : Option ℕ) → slice_get fixed.seats place ≡ Some seat → device_place seat.owner ≡ o
        → control_of_device addr num (option_and_then (λ n. slice_get devices n) o) ≡ Some s → IsControlSeated fixed devices addr num s
    device_by seat None there owner is = none_some is
    device_by seat (Some n) there owner is = record {
      place = place;
      found = found;
      found_in = found_in;
      found_out = found_out;
      seat = seat;
      there = there;
      n = n;
      owner = owner;
      is = is;
    }

    seat_by : (o : Option Seat) → slice_get fixed.seats place ≡ o → end_seated control_of_device devices addr num o ≡ Some s
        → IsControlSeated fixed devices addr num s
    seat_by None there is = none_some is
    seat_by (Some seat) there is = device_by seat (device_place seat.owner) there refl is

  places_by : (place : ℕ) (b : Bool) → place_for fixed.seats addr num Tokens.Setup ≡ Some place
      → (is_at place (place_for fixed.seats addr num Tokens.In) && is_at place (place_for fixed.seats addr num Tokens.Out)) ≡ b
      → (if b then end_seated control_of_device devices addr num (slice_get fixed.seats place) else None) ≡ Some s
      → IsControlSeated fixed devices addr num s
  places_by place true found alike is =
      let both = and_both (is_at place (place_for fixed.seats addr num Tokens.In))
      (is_at place (place_for fixed.seats addr num Tokens.Out)) alike in
      seat_by place found (at_place place (place_for fixed.seats addr num Tokens.In) both.0)
      (at_place place (place_for fixed.seats addr num Tokens.Out) both.1) (slice_get fixed.seats place) refl is
  places_by place false found alike is = none_some is

  place_by : (o : Option ℕ) → place_for fixed.seats addr num Tokens.Setup ≡ o → control_placed fixed devices addr num o ≡ Some s
      → IsControlSeated fixed devices addr num s
  place_by None found is = none_some is
  place_by (Some place) found is =
      places_by place (is_at place (place_for fixed.seats addr num Tokens.In) && is_at place (place_for fixed.seats addr num Tokens.Out))
      found refl is

  pub control_seated : control_in fixed devices addr num ≡ Some s → IsControlSeated fixed devices addr num s
  control_seated is = place_by (place_for fixed.seats addr num Tokens.Setup) refl is

  -- with other devices it depends on its own alone
  pub control_seated_through : (new : List Device) (h : IsControlSeated fixed devices addr num s)
      → control_in fixed new addr num ≡ control_of_device addr num (slice_get new h.n)
  control_seated_through new h =
      ap (control_placed fixed new addr num) h.found
      ∙ ap (λ (o : Option ℕ). if is_at h.place o && is_at h.place (place_for fixed.seats addr num Tokens.Out)
      then end_seated control_of_device new addr num (slice_get fixed.seats h.place) else None) h.found_in
      ∙ ap (λ (o : Option ℕ). if h.place == h.place && is_at h.place o
      then end_seated control_of_device new addr num (slice_get fixed.seats h.place) else None) h.found_out
      ∙ ap (λ (x : Bool). if x && x then end_seated control_of_device new addr num (slice_get fixed.seats h.place) else None)
      (eq-eqb h.place h.place refl)
      ∙ ap (end_seated control_of_device new addr num) h.there
      ∙ ap (λ (o : Option ℕ). control_of_device addr num (option_and_then (λ n. slice_get new n) o)) h.owner

-- ---- what a transaction for another endpoint leaves

module _ (addr num : ℕ) (s : Side) (row : WhoHeard) (ask : Ask) (out : List ℕ) (plain : ask.split ≡ Plain)
    (other : IsAskFor addr num ask → ⊥) where
  found_kept : (d : Device) (at : IsAtDevice addr num (Some d) s)
      → control_of_device addr num (Some (device_after row ask out at.device)) ≡ Some s
  found_kept d at =
      let e = at.at in
      let k = device_changes row at.device ask out in
      let not_here : endpoint_asked at.device ask ≡ Some e.place → ⊥ = λ is.
      let i = of_control at.device ask num e.place e.endpoint e.is e.here is in
      other (record { plain = plain; token = i.token; address = at.address ∙ sym i.address; number = i.number }) in
      device_control (device_after row ask out at.device) addr num e.place e.endpoint
      (at.address ∙ sym (address_after row at.device ask out)) (k.names num Ways.In ∙ at.no_in) (k.names num Ways.Out ∙ at.no_out)
      (k.names num Ways.Ctl ∙ e.is) (k.others e.place not_here ∙ e.here)
      ∙ ap control_of_part e.part.is ∙ ap (λ (x : Side). Some x) (sym e.part.side)

  device_kept : (d : Device) → control_of_device addr num (Some d) ≡ Some s
      → control_of_device addr num (Some (device_after row ask out d)) ≡ Some s
  device_kept d is =
      let at : IsAtDevice addr num (Some d) s = device_found addr num (Some d) s is in
      let own : at.device ≡ d = sym (same_Some d at.device at.is) in
      subst (λ (x : Device). control_of_device addr num (Some (device_after row ask out x)) ≡ Some s) own (found_kept d at)

  put_kept : (devices : List Device) (n m : ℕ) (o : Option Device) → slice_get devices m ≡ o
      → control_of_device addr num (slice_get devices n) ≡ Some s
      → control_of_device addr num (slice_get (put_at o m (device_after row ask out) devices) n) ≡ Some s
  put_kept devices n m None there is = is
  put_kept devices n m (Some x) there is =
      ⊎_elim (λ (one : n ≡ m).
      let here : slice_get devices n ≡ Some x = ap (slice_get devices) one ∙ there in
      ap (λ (i : ℕ). control_of_device addr num (slice_get (slice_set devices m (device_after row ask out x)) i)) one
      ∙ ap (control_of_device addr num) (set_here devices m x (device_after row ask out x) there)
      ∙ device_kept x (sym (ap (control_of_device addr num) here) ∙ is))
      (λ (differs : n ≢ m). ap (control_of_device addr num) (set_beside devices m n (device_after row ask out x) differs) ∙ is)
      (cases_eq n m)

pub control_stays : (fixed : Fixed) (addr num : ℕ) (s : Side) (ask : Ask) (out : List ℕ) (old new : List Device)
    → DevicesMove ask out old new → ask.split ≡ Plain → (IsAskFor addr num ask → ⊥) → control_in fixed old addr num ≡ Some s
    → control_in fixed new addr num ≡ Some s
control_stays fixed addr num s ask out old _ same plain other is = is
control_stays fixed addr num s ask out old _ (moved m row) plain other is =
    let h = control_seated fixed old addr num s is in
    control_seated_through fixed old addr num s (changed_at m (device_after row ask out) old) h
    ∙ put_kept addr num s row ask out plain other old h.n m (slice_get old m) refl h.is
