-- Where a control endpoint stands, and which ask is for it.
use Rattle.std.proofs.Common.{◌≡◌, ◌≢◌, ℕ, ◌==◌, ◌&&◌, Bool, true, false, if◌then◌else◌, List, slice_get, Option, Some, None, ap, refl, sym, ◌∙◌, ⊎_elim}
use Rattle.std.proofs.lemmas.Bool.{false≢true, eqb-true, eq-eqb}
use Rattle.std.proofs.lemmas.Option.{same_Some}
use Rattle.law_common.proofs.Booleans.{and_both}
use Rattle.law_devices.proofs.Common.{either_found}
use Rattle.law_common.proofs.Options.{if_found}
use Rattle.usb_base.specs.declared.packets.Ask.{Ask}
use Rattle.usb_base.specs.declared.packets.Way.{Way}
use Rattle.usb_base.specs.declared.packets.Way.TheVariants as Ways
use Rattle.dev_control.specs.declared.rows.StageToken.{StageToken}
use Rattle.dev_control.specs.declared.rows.StageToken.TheVariants as Tokens
use Rattle.dev_control.specs.Stages.{token_of}
use Rattle.endpoint_script.specs.declared.endpoint.Endpoint.{Endpoint}
use Rattle.endpoint_script.specs.declared.endpoint.Role.{Role}
use Rattle.endpoint_script.specs.declared.endpoint.Role.TheVariants.{Controls}
use Rattle.endpoint_script.specs.Controlling.{Controlling}
use Rattle.endpoint_script.specs.Device.{Device, is_way, is_named, place_named, or_else, place_for as place_in_device, endpoint_asked, endpoint_at}
use Rattle.bus_wire.specs.declared.seats.Owner.{Owner}
use Rattle.bus_wire.specs.declared.seats.Owner.TheVariants as Owners
use Rattle.bus_wire.specs.declared.seats.Seat.{Seat}
use Rattle.bus_wire.specs.declared.seats.TokenKind.TheVariants.{In, Out, Setup}
use Rattle.bus_wire.specs.Seats.{place_for}
use Rattle.bus_wire.specs.Bus.{Bus, Wired}
use Rattle.claims_report.specs.ControlSides.{Device as Side}
use Rattle.law_devices.proofs.Places.{position_passes}
use Rattle.claims_report.specs.Controls.{side_in, control_of_part, control_of_endpoint, is_nowhere, is_alone, control_of_device, is_at}
use Rattle.law_devices.specs.Controls.{control_of_owner, control_of_seat, control_of_place, control_of}

-- ---- where it stands

pub record IsPart (p : Role) (s : Side) : Type 0 where
  pub control : Controlling
  pub is : p ≡ Controls control
  pub side : s ≡ side_in control

part_found : (p : Role) (s : Side) → control_of_part p ≡ Some s → IsPart p s
part_found (Controls z) s e = record { control = z; is = refl; side = sym (same_Some (side_in z) s e) }
part_found _ s e = absurd cc

pub record IsAtEndpoint (es : List Endpoint) (o : Option ℕ) (s : Side) : Type 0 where
  pub place : ℕ
  pub is : o ≡ Some place
  pub endpoint : Endpoint
  pub here : slice_get es place ≡ Some endpoint
  pub part : IsPart endpoint.part s

endpoint_found : (es : List Endpoint) (k : ℕ) (o : Option Endpoint) (s : Side) → slice_get es k ≡ o → control_of_endpoint o ≡ Some s → IsAtEndpoint es (Some k) s
endpoint_found es k None s here e = absurd cc
endpoint_found es k (Some x) s here e = record { place = k; is = refl; endpoint = x; here = here; part = part_found x.part s e }

place_found : (es : List Endpoint) (o : Option ℕ) (s : Side) → control_of_endpoint (endpoint_at es o) ≡ Some s → IsAtEndpoint es o s
place_found es None s e = absurd cc
place_found es (Some k) s e = endpoint_found es k (slice_get es k) s refl e

pub record IsAtDevice (addr num : ℕ) (o : Option Device) (s : Side) : Type 0 where
  pub device : Device
  pub is : o ≡ Some device
  pub address : addr ≡ device.address
  pub no_in : place_named device.endpoints num Ways.In ≡ None
  pub no_out : place_named device.endpoints num Ways.Out ≡ None
  pub at : IsAtEndpoint device.endpoints (place_named device.endpoints num Ways.Ctl) s

nowhere : (o : Option ℕ) → is_nowhere o ≡ true → o ≡ None
nowhere None e = refl
nowhere (Some k) e = absurd (false≢true e)

device_by : (addr num : ℕ) (d : Device) (b : Bool) (s : Side) → is_alone addr num d ≡ b → (if b then control_of_endpoint (endpoint_at d.endpoints (place_named d.endpoints num Ways.Ctl)) else None) ≡ Some s → IsAtDevice addr num (Some d) s
device_by addr num d true s is e =
    let one = and_both (addr == d.address) (is_nowhere (place_named d.endpoints num Ways.In) && is_nowhere (place_named d.endpoints num Ways.Out)) is in
    let two = and_both (is_nowhere (place_named d.endpoints num Ways.In)) (is_nowhere (place_named d.endpoints num Ways.Out)) one.1 in
    record {
      device = d;
      is = refl;
      address = eqb-true addr d.address one.0;
      no_in = nowhere (place_named d.endpoints num Ways.In) two.0;
      no_out = nowhere (place_named d.endpoints num Ways.Out) two.1;
      at = place_found d.endpoints (place_named d.endpoints num Ways.Ctl) s e;
    }
device_by addr num d false s is e = absurd cc

pub device_found : (addr num : ℕ) (o : Option Device) (s : Side) → control_of_device addr num o ≡ Some s → IsAtDevice addr num o s
device_found addr num None s e = absurd cc
device_found addr num (Some d) s e = device_by addr num d (is_alone addr num d) s refl e

pub record HasControl (w : Wired) (addr num : ℕ) (s : Side) : Type 0 where
  pub place : ℕ
  pub found : place_for w.fixed.seats addr num Setup ≡ Some place
  pub found_in : place_for w.fixed.seats addr num In ≡ Some place
  pub found_out : place_for w.fixed.seats addr num Out ≡ Some place
  pub seat : Seat
  pub there : slice_get w.fixed.seats place ≡ Some seat
  pub device_place : ℕ
  pub owner : seat.owner ≡ Owners.High device_place
  pub at : IsAtDevice addr num (slice_get w.bus.devices device_place) s

at_place : (place : ℕ) (o : Option ℕ) → is_at place o ≡ true → o ≡ Some place
at_place place None e = absurd (false≢true e)
at_place place (Some other) e = ap Some (sym (eqb-true place other e))

module _ (w : Wired) (addr num place : ℕ) (s : Side) (found : place_for w.fixed.seats addr num Setup ≡ Some place) (found_in : place_for w.fixed.seats addr num In ≡ Some place) (found_out : place_for w.fixed.seats addr num Out ≡ Some place) where
  owner_found : (seat : Seat) (owner : Owner) → slice_get w.fixed.seats place ≡ Some seat → seat.owner ≡ owner → control_of_owner w.bus addr num owner ≡ Some s → HasControl w addr num s
  owner_found seat (Owners.High n) there is e = record {
    place = place;
    found = found;
    found_in = found_in;
    found_out = found_out;
    seat = seat;
    there = there;
    device_place = n;
    owner = is;
    at = device_found addr num (slice_get w.bus.devices n) s e;
  }
  owner_found seat (Owners.Hub n) there is e = absurd cc
  owner_found seat (Owners.Below n hub port stuff) there is e = absurd cc

  seat_found : (o : Option Seat) → slice_get w.fixed.seats place ≡ o → control_of_seat w.bus addr num o ≡ Some s → HasControl w addr num s
  seat_found None there e = absurd cc
  seat_found (Some seat) there e = owner_found seat seat.owner there refl e

places_by : (w : Wired) (addr num place : ℕ) (s : Side) (b : Bool) → place_for w.fixed.seats addr num Setup ≡ Some place → (is_at place (place_for w.fixed.seats addr num In) && is_at place (place_for w.fixed.seats addr num Out)) ≡ b
    → (if b then control_of_seat w.bus addr num (slice_get w.fixed.seats place) else None) ≡ Some s → HasControl w addr num s
places_by w addr num place s true found same e =
    let both = and_both (is_at place (place_for w.fixed.seats addr num In)) (is_at place (place_for w.fixed.seats addr num Out)) same in
    seat_found w addr num place s found (at_place place (place_for w.fixed.seats addr num In) both.0) (at_place place (place_for w.fixed.seats addr num Out) both.1) (slice_get w.fixed.seats place) refl e
places_by w addr num place s false found same e = absurd cc

control_found_at : (w : Wired) (addr num : ℕ) (o : Option ℕ) (s : Side) → place_for w.fixed.seats addr num Setup ≡ o → control_of_place w addr num o ≡ Some s → HasControl w addr num s
control_found_at w addr num None s found e = absurd cc
control_found_at w addr num (Some place) s found e = places_by w addr num place s (is_at place (place_for w.fixed.seats addr num In) && is_at place (place_for w.fixed.seats addr num Out)) found refl e

pub control_found : (w : Wired) (addr num : ℕ) (s : Side) → control_of w addr num ≡ Some s → HasControl w addr num s
control_found w addr num s e = control_found_at w addr num (place_for w.fixed.seats addr num Setup) s refl e

-- with the same endpoints it depends on its device alone
pub control_through : (w : Wired) (addr num : ℕ) (s : Side) (h : HasControl w addr num s) (b : Bus) → control_of (record w { bus = b }) addr num ≡ control_of_device addr num (slice_get b.devices h.device_place)
control_through w addr num s h b =
    ap (control_of_place (record w { bus = b }) addr num) h.found
    ∙ ap (λ (o : Option ℕ). if is_at h.place o && is_at h.place (place_for w.fixed.seats addr num Out) then control_of_seat b addr num (slice_get w.fixed.seats h.place) else None) h.found_in
    ∙ ap (λ (o : Option ℕ). if h.place == h.place && is_at h.place o then control_of_seat b addr num (slice_get w.fixed.seats h.place) else None) h.found_out
    ∙ ap (λ (x : Bool). if x && x then control_of_seat b addr num (slice_get w.fixed.seats h.place) else None) (eq-eqb h.place h.place refl)
    ∙ ap (control_of_seat b addr num) h.there ∙ ap (control_of_owner b addr num) h.owner

pub device_control : (d : Device) (addr num k : ℕ) (e : Endpoint) → addr ≡ d.address → place_named d.endpoints num Ways.In ≡ None → place_named d.endpoints num Ways.Out ≡ None → place_named d.endpoints num Ways.Ctl ≡ Some k → slice_get d.endpoints k ≡ Some e → control_of_device addr num (Some d) ≡ control_of_part e.part
device_control d addr num k e address no_in no_out named here =
    ap (λ (b : Bool). if b && (is_nowhere (place_named d.endpoints num Ways.In) && is_nowhere (place_named d.endpoints num Ways.Out)) then control_of_endpoint (endpoint_at d.endpoints (place_named d.endpoints num Ways.Ctl)) else None) (eq-eqb addr d.address address)
    ∙ ap (λ (o : Option ℕ). if is_nowhere o && is_nowhere (place_named d.endpoints num Ways.Out) then control_of_endpoint (endpoint_at d.endpoints (place_named d.endpoints num Ways.Ctl)) else None) no_in
    ∙ ap (λ (o : Option ℕ). if is_nowhere o then control_of_endpoint (endpoint_at d.endpoints (place_named d.endpoints num Ways.Ctl)) else None) no_out
    ∙ ap (λ (o : Option ℕ). control_of_endpoint (endpoint_at d.endpoints o)) named ∙ ap control_of_endpoint here

-- ---- which ask is for it

record AreOne (e : Endpoint) (num : ℕ) (way : Way) : Type 0 where
  number : e.desc.name.num ≡ num
  way_is : is_way e.desc.name.way way ≡ true

named_is : (es : List Endpoint) (num : ℕ) (way : Way) (k : ℕ) (e : Endpoint) → place_named es num way ≡ Some k → slice_get es k ≡ Some e → AreOne e num way
named_is es num way k e found here =
    let both = and_both (e.desc.name.num == num) (is_way e.desc.name.way way) (position_passes (is_named num way) es k e found here) in
    record { number = eqb-true e.desc.name.num num both.0; way_is = both.1 }

one_way : (own : Way) → is_way own Ways.Ctl ≡ true → (is_way own Ways.In ≡ false) × (is_way own Ways.Out ≡ false)
one_way Ways.Ctl e = (refl, refl)
one_way _ e = absurd (false≢true e)

module _ (es : List Endpoint) (num k : ℕ) (e : Endpoint) (found : place_named es num Ways.Ctl ≡ Some k) (here : slice_get es k ≡ Some e) where
  no_in : (n : ℕ) → place_named es n Ways.In ≡ Some k → ⊥
  no_in n is = false≢true (sym (one_way e.desc.name.way (named_is es num Ways.Ctl k e found here).way_is).0 ∙ (named_is es n Ways.In k e is here).way_is)

  no_out : (n : ℕ) → place_named es n Ways.Out ≡ Some k → ⊥
  no_out n is = false≢true (sym (one_way e.desc.name.way (named_is es num Ways.Ctl k e found here).way_is).1 ∙ (named_is es n Ways.Out k e is here).way_is)

  same_number : (n : ℕ) → place_named es n Ways.Ctl ≡ Some k → num ≡ n
  same_number n is = sym (named_is es num Ways.Ctl k e found here).number ∙ (named_is es n Ways.Ctl k e is here).number

  number_by : (token : StageToken) (n : ℕ) → place_in_device token es n ≡ Some k → (token ≢ Tokens.Other) × (num ≡ n)
  number_by Tokens.Setup n is = (λ e. cc, same_number n is)
  number_by Tokens.In n is = (
    λ e. cc,
    ⊎_elim {C = num ≡ n} (λ (first : place_named es n Ways.In ≡ Some k). absurd (no_in n first)) (λ (second : place_named es n Ways.Ctl ≡ Some k). same_number n second)
        (either_found (place_named es n Ways.In) (place_named es n Ways.Ctl) k is),
  )
  number_by Tokens.Out n is = (
    λ e. cc,
    ⊎_elim {C = num ≡ n} (λ (first : place_named es n Ways.Out ≡ Some k). absurd (no_out n first)) (λ (second : place_named es n Ways.Ctl ≡ Some k). same_number n second)
        (either_found (place_named es n Ways.Out) (place_named es n Ways.Ctl) k is),
  )
  number_by Tokens.Ping n is = (
    λ e. cc,
    ⊎_elim {C = num ≡ n} (λ (first : place_named es n Ways.Out ≡ Some k). absurd (no_out n first)) (λ (second : place_named es n Ways.Ctl ≡ Some k). same_number n second)
        (either_found (place_named es n Ways.Out) (place_named es n Ways.Ctl) k is),
  )
  number_by Tokens.Other n is = absurd cc

pub record IsOfControl (d : Device) (ask : Ask) (num : ℕ) : Type 0 where
  pub token : token_of ask.pid ≢ Tokens.Other
  pub address : ask.addr ≡ d.address
  pub number : num ≡ ask.ep

pub of_control : (d : Device) (ask : Ask) (num : ℕ) (k : ℕ) (e : Endpoint) → place_named d.endpoints num Ways.Ctl ≡ Some k → slice_get d.endpoints k ≡ Some e → endpoint_asked d ask ≡ Some k → IsOfControl d ask num
of_control d ask num k e found here is =
    let f = if_found (ask.addr == d.address) (place_in_device (token_of ask.pid) d.endpoints ask.ep) k is in
    let t = number_by d.endpoints num k e found here (token_of ask.pid) ask.ep f.1 in
    record { token = t.0; address = eqb-true ask.addr d.address f.0; number = t.1 }

-- an ask by a token is for it
control_place : (token : StageToken) (es : List Endpoint) (num k : ℕ) → token ≢ Tokens.Other → place_named es num Ways.In ≡ None → place_named es num Ways.Out ≡ None → place_named es num Ways.Ctl ≡ Some k → place_in_device token es num ≡ Some k
control_place Tokens.Setup es num k known no_in no_out named = named
control_place Tokens.In es num k known no_in no_out named = ap (λ (o : Option ℕ). or_else o (place_named es num Ways.Ctl)) no_in ∙ named
control_place Tokens.Other es num k known no_in no_out named = absurd (known refl)
control_place _ es num k known no_in no_out named = ap (λ (o : Option ℕ). or_else o (place_named es num Ways.Ctl)) no_out ∙ named

pub place_by : (d : Device) (ask : Ask) (k : ℕ) → ask.addr ≡ d.address → token_of ask.pid ≢ Tokens.Other → place_named d.endpoints ask.ep Ways.In ≡ None → place_named d.endpoints ask.ep Ways.Out ≡ None → place_named d.endpoints ask.ep Ways.Ctl ≡ Some k → endpoint_asked d ask ≡ Some k
place_by d ask k address known no_in no_out named =
    ap (λ (b : Bool). if b then place_in_device (token_of ask.pid) d.endpoints ask.ep else None) (eq-eqb ask.addr d.address address) ∙ control_place (token_of ask.pid) d.endpoints ask.ep k known no_in no_out named
