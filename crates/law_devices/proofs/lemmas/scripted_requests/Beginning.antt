-- A microframe begins: the hubs work on the bus below them, and no control endpoint of the high-speed bus goes on.
use Rattle.std.proofs.Common.{◌≡◌, ◌≢◌, ℕ, Bool, true, false, if◌then◌else◌, List, [], ◌∷◌, map, slice_get, slice_set, Option, Some, None, ap, refl, sym, subst, ◌∙◌, ⊎_elim}
use Rattle.std.specs.Option.{option_and_then, option_map}
use Rattle.std.proofs.lemmas.Bool.{cases_eq}
use Rattle.std.proofs.lemmas.Option.{same_Some, slice_get-map}
use Rattle.law_devices.proofs.Common2.{named_begun}
use Rattle.usb_base.specs.declared.packets.Ask.{Ask}
use Rattle.usb_base.specs.declared.packets.Pid.{Pid}
use Rattle.usb_base.specs.declared.packets.Way.TheVariants as Ways
use Rattle.hub_class.specs.HubContent.{HubContent}
use Rattle.hub_class.specs.Microframe.{wire_left}
use Rattle.hub_class.proofs.Microframe.{work_keeps}
use Rattle.endpoint_script.specs.declared.endpoint.Endpoint.{Endpoint}
use Rattle.endpoint_script.specs.declared.endpoint.Role.{Role}
use Rattle.endpoint_script.specs.Device.{Device, place_named, endpoint_asked, part_begun, endpoint_begun, begun}
use Rattle.bus_wire.specs.declared.asked.Answerer.{Answerer}
use Rattle.bus_wire.specs.declared.asked.Answerer.TheVariants as Answerers
use Rattle.bus_wire.specs.declared.asked.Asked.{Asked}
use Rattle.bus_wire.specs.declared.seats.Owner.{Owner}
use Rattle.bus_wire.specs.declared.seats.Owner.TheVariants as Owners
use Rattle.bus_wire.specs.declared.seats.Seat.{Seat}
use Rattle.bus_wire.specs.declared.who_heard.WhoHeard.{WhoHeard}
use Rattle.bus_wire.specs.Seats.{token_kind, place_for}
use Rattle.bus_wire.specs.Asking.{device_after, put_at}
use Rattle.bus_wire.specs.Below.{Floor, Below, below_at, hears_at, asked_below_at, asked_below, devices_after, below_row, below_after_at, below_after, below_reply, floor_left, floor_worked}
use Rattle.bus_wire.specs.Bus.{Wired, Fixed, begins_anew, begun_at, floor_of, begin_after}
use Rattle.dev_control.specs.declared.rows.StageToken.TheVariants as Tokens
use Rattle.dev_control.specs.Stages.{token_of}
use Rattle.claims_report.specs.ControlSides.{Device as Side}
use Rattle.law_devices.specs.request_calls.Bus.{KeepsDevices}
use Rattle.claims_report.specs.Controls.{control_of_part, control_of_device}
use Rattle.law_devices.specs.Controls.{control_of}
use Rattle.law_devices.specs.scripted_requests.Controls.{begins_by}
use Rattle.law_devices.proofs.Places.{set_here, set_beside}
use Rattle.law_devices.proofs.Devices.{device_changes, address_after}
use Rattle.law_devices.proofs.lemmas.scripted_requests.Finding.{IsAtDevice, device_found, HasControl, control_found, control_through, device_control, of_control}
use Rattle.law_devices.proofs.lemmas.scripted_requests.Asking.{place_kind}

-- ---- a list of devices of which one was asked about another endpoint

module _ (devices : List Device) (place : ℕ) (addr ep : ℕ) (s : Side) (at : IsAtDevice addr ep (slice_get devices place) s) where
  was_here : control_of_device addr ep (slice_get devices place) ≡ Some s
  was_here = ap (control_of_device addr ep) at.is ∙ device_control at.device addr ep at.at.place at.at.endpoint at.address at.no_in at.no_out at.at.is at.at.here ∙ ap control_of_part at.at.part.is ∙ ap Some (sym at.at.part.side)

  device_stays : (row : WhoHeard) (ask : Ask) (out : List ℕ) → (endpoint_asked at.device ask ≡ Some at.at.place → ⊥) → control_of_device addr ep (Some (device_after row ask out at.device)) ≡ Some s
  device_stays row ask out not_here =
      let k = device_changes row at.device ask out in
      device_control (device_after row ask out at.device) addr ep at.at.place at.at.endpoint (at.address ∙ sym (address_after row at.device ask out)) (k.names ep Ways.In ∙ at.no_in) (k.names ep Ways.Out ∙ at.no_out) (k.names ep Ways.Ctl ∙ at.at.is) (k.others at.at.place not_here ∙ at.at.here)
      ∙ ap control_of_part at.at.part.is ∙ ap Some (sym at.at.part.side)

  put_stays : (row : WhoHeard) (ask : Ask) (out : List ℕ) (n : ℕ) (o : Option Device) → slice_get devices n ≡ o → (n ≡ place → endpoint_asked at.device ask ≡ Some at.at.place → ⊥) → control_of_device addr ep (slice_get (put_at o n (device_after row ask out) devices) place) ≡ Some s
  put_stays row ask out n None there not_here = was_here
  put_stays row ask out n (Some x) there not_here =
      ⊎_elim (λ (same : place ≡ n).
      let is : x ≡ at.device = same_Some x at.device (sym there ∙ ap (slice_get devices) (sym same) ∙ at.is) in
      ap (λ (i : ℕ). control_of_device addr ep (slice_get (slice_set devices n (device_after row ask out x)) i)) same
      ∙ ap (control_of_device addr ep) (set_here devices n x (device_after row ask out x) there)
      ∙ ap (λ (z : Device). control_of_device addr ep (Some (device_after row ask out z))) is ∙ device_stays row ask out (not_here (sym same)))
      (λ (differs : place ≢ n). ap (control_of_device addr ep) (set_beside devices n place (device_after row ask out x) differs) ∙ was_here) (cases_eq place n)

-- ---- who is asked below a hub

record IsWhoBelow (w : Below) (ask : Ask) (who : Answerer) : Type 0 where
  place : ℕ
  found : place_for w.fixed.seats ask.addr ask.ep (token_kind ask.pid) ≡ Some place
  seat : Seat
  there : slice_get w.fixed.seats place ≡ Some seat
  is : who ≡ hears_at w seat.owner

below_packet : (w : Below) (ask : Ask) (place : ℕ) (seat : Seat) (o : Option ℕ) (e : Asked) → place_for w.fixed.seats ask.addr ask.ep (token_kind ask.pid) ≡ Some place → slice_get w.fixed.seats place ≡ Some seat
    → option_map (λ (packet : ℕ). record { place = place; name = seat.name; packet = packet; who = hears_at w seat.owner }) o ≡ Some e → IsWhoBelow w ask e.who
below_packet w ask place seat None e found there is = absurd cc
below_packet w ask place seat (Some packet) e found there is = record {
  place = place;
  found = found;
  seat = seat;
  there = there;
  is = ap (λ (x : Asked). x.who) (sym (same_Some (record { place = place; name = seat.name; packet = packet; who = hears_at w seat.owner }) e is));
}

below_seat : (w : Below) (ask : Ask) (place : ℕ) (o : Option Seat) (e : Asked) → place_for w.fixed.seats ask.addr ask.ep (token_kind ask.pid) ≡ Some place → slice_get w.fixed.seats place ≡ o
    → option_and_then (λ (seat : Seat). option_map (λ (packet : ℕ). record { place = place; name = seat.name; packet = packet; who = hears_at w seat.owner }) (slice_get w.floor.numbers place)) o ≡ Some e → IsWhoBelow w ask e.who
below_seat w ask place None e found there is = absurd cc
below_seat w ask place (Some seat) e found there is = below_packet w ask place seat (slice_get w.floor.numbers place) e found there is

below_place : (w : Below) (ask : Ask) (o : Option ℕ) (e : Asked) → place_for w.fixed.seats ask.addr ask.ep (token_kind ask.pid) ≡ o → option_and_then (asked_below_at w) o ≡ Some e → IsWhoBelow w ask e.who
below_place w ask None e found is = absurd cc
below_place w ask (Some place) e found is = below_seat w ask place (slice_get w.fixed.seats place) e found refl is

not_high : (w : Below) (owner : Owner) (n m : ℕ) → hears_at w owner ≡ Answerers.Device n → owner ≡ Owners.High m → ⊥
not_high w owner n m hears is = nobody (sym (ap (hears_at w) is) ∙ hears)
  where
    nobody : Answerers.Nobody ≡ Answerers.Device n → ⊥
    nobody e = cc

-- ---- the bus below keeps it

module _ (fixed : Fixed) (addr ep : ℕ) (s : Side) (place : ℕ) (found : (pid : Pid) → token_of pid ≢ Tokens.Other → place_for fixed.seats addr ep (token_kind pid) ≡ Some place) (seat : Seat) (there : slice_get fixed.seats place ≡ Some seat) (n : ℕ) (owner : seat.owner ≡ Owners.High n) where
  record Keeps (w : Below) : Type 0 where
    same : w.fixed ≡ fixed
    side : control_of_device addr ep (slice_get w.floor.devices n) ≡ Some s

  -- a device below a hub isn't asked about an endpoint of the high-speed bus
  not_asked : (w : Below) (ask : Ask) (d : Device) (k : ℕ) (e : Endpoint) (m : ℕ) → w.fixed ≡ fixed → IsWhoBelow w ask (Answerers.Device m) → addr ≡ d.address → place_named d.endpoints ep Ways.Ctl ≡ Some k → slice_get d.endpoints k ≡ Some e → endpoint_asked d ask ≡ Some k → ⊥
  not_asked w ask d k e m same who address named here is =
      let i = of_control d ask ep k e named here is in
      let place_same : who.place ≡ place =
      same_Some who.place place (sym who.found ∙ ap (λ (f : Fixed). place_for f.seats ask.addr ask.ep (token_kind ask.pid)) same
      ∙ ap (λ (a : ℕ). place_for fixed.seats a ask.ep (token_kind ask.pid)) (i.address ∙ sym address) ∙ ap (λ (x : ℕ). place_for fixed.seats addr x (token_kind ask.pid)) (sym i.number) ∙ found ask.pid i.token) in
      let seat_same : who.seat ≡ seat = same_Some who.seat seat (sym who.there ∙ ap (λ (f : Fixed). slice_get f.seats who.place) same ∙ ap (slice_get fixed.seats) place_same ∙ there) in
      not_high w who.seat.owner m n (sym who.is) (ap (λ (x : Seat). x.owner) seat_same ∙ owner)

  who_kept : (w : Below) (ask : Ask) (out : List ℕ) (row : WhoHeard) (who : Answerer) → IsWhoBelow w ask who → Keeps w → control_of_device addr ep (slice_get (devices_after row who ask out w.floor.devices) n) ≡ Some s
  who_kept w ask out row (Answerers.Device m) is k =
      let at : IsAtDevice addr ep (slice_get w.floor.devices n) s = device_found addr ep (slice_get w.floor.devices n) s k.side in
      put_stays w.floor.devices n addr ep s at row ask out m (slice_get w.floor.devices m) refl (λ same. not_asked w ask at.device at.at.place at.at.endpoint m k.same is at.address at.at.is at.at.here)
  who_kept w ask out row _ is k = k.side

  asked_kept : (w : Below) (ask : Ask) (out : List ℕ) (o : Option Asked) → asked_below w ask ≡ o → Keeps w → Keeps (below_after_at w ask out o)
  asked_kept w ask out None is k = k
  asked_kept w ask out (Some e) is k = record {
    same = k.same;
    side = who_kept w ask out (below_row w e ask out) e.who (below_place w ask (place_for w.fixed.seats ask.addr ask.ep (token_kind ask.pid)) e refl is) k;
  }

  below_kept : (w : Below) (ask : Ask) (out : List ℕ) → Keeps w → Keeps (below_after w ask out)
  below_kept w ask out k = asked_kept w ask out (asked_below w ask) refl k

  -- ---- and so does the work of a hub

  hub_kept : (h : HubContent) (w : Below) → Keeps w → Keeps (wire_left below_reply below_after h w)
  hub_kept h w k = work_keeps below_reply below_after Keeps below_kept h w k

  floor_kept : (hubs : List HubContent) (floor : Floor) → control_of_device addr ep (slice_get floor.devices n) ≡ Some s → control_of_device addr ep (slice_get (floor_worked fixed hubs floor).devices n) ≡ Some s
  floor_kept [] floor k = k
  floor_kept (h ∷ hs) floor k = let next = hub_kept h (below_at fixed h floor) (record { same = refl; side = k }) in floor_kept hs (floor_left fixed h floor) next.side

-- ---- devices begin anew

begun_by : (b : Bool) (d : Device) (addr ep : ℕ) (s : Side) → IsAtDevice addr ep (Some d) s → control_of_device addr ep (Some (if b then begun d else d)) ≡ Some s
begun_by true d addr ep s at =
    let same : at.device ≡ d = sym (same_Some d at.device at.is) in
    subst (λ (x : Device). control_of_device addr ep (Some (begun x)) ≡ Some s) same
    (device_control (begun at.device) addr ep at.at.place (endpoint_begun at.at.endpoint) at.address (named_begun ep Ways.In at.device.endpoints ∙ at.no_in) (named_begun ep Ways.Out at.device.endpoints ∙ at.no_out) (named_begun ep Ways.Ctl at.device.endpoints ∙ at.at.is)
    (slice_get-map endpoint_begun at.device.endpoints at.at.place ∙ ap (option_map endpoint_begun) at.at.here)
    ∙ ap (λ (p : Role). control_of_part (part_begun p)) at.at.part.is ∙ ap Some (sym at.at.part.side))
begun_by false d addr ep s at =
    ap (control_of_device addr ep) at.is ∙ device_control at.device addr ep at.at.place at.at.endpoint at.address at.no_in at.no_out at.at.is at.at.here ∙ ap control_of_part at.at.part.is ∙ ap Some (sym at.at.part.side)

begun_from : (frindex : ℕ) (o : Option Device) (addr ep : ℕ) (s : Side) → IsAtDevice addr ep o s → control_of_device addr ep (option_map (begun_at frindex) o) ≡ Some s
begun_from frindex None addr ep s at = absurd (let e = at.is in cc)
begun_from frindex (Some d) addr ep s at = begun_by (begins_anew d.speed frindex) d addr ep s at

begun_side : (frindex : ℕ) (devices : List Device) (n addr ep : ℕ) (s : Side) → control_of_device addr ep (slice_get devices n) ≡ Some s → control_of_device addr ep (slice_get (map (begun_at frindex) devices) n) ≡ Some s
begun_side frindex devices n addr ep s is =
    ap (control_of_device addr ep) (slice_get-map (begun_at frindex) devices n) ∙ begun_from frindex (slice_get devices n) addr ep s (device_found addr ep (slice_get devices n) s is)

-- ---- the law

pub keeps_devices : KeepsDevices begins_by control_of
keeps_devices w frindex allowed v addr ep s made is =
    let h : HasControl w addr ep s = control_found w addr ep s is in
    let sent : control_of_device addr ep (slice_get w.bus.devices h.device_place) ≡ Some s = sym (control_through w addr ep s h w.bus) ∙ is in
    ap (λ (x : Wired). control_of x addr ep) made.1 ∙ control_through w addr ep s h (begin_after w.fixed frindex w.bus)
    ∙ begun_side frindex (floor_worked w.fixed w.bus.hubs (floor_of w.bus)).devices h.device_place addr ep s
    (floor_kept w.fixed addr ep s h.place (λ pid known. place_kind w addr ep h.place pid known h.found h.found_in h.found_out) h.seat h.there h.device_place h.owner w.bus.hubs (floor_of w.bus) sent)
