-- A microframe begins: the hubs work on the bus below them, and no taker of the high-speed bus goes on.
use Rattle.std.proofs.Common.{◌≡◌, ℕ, Bool, true, false, if◌then◌else◌, List, [], ◌∷◌, map, slice_get, Option, Some, None, ap, refl, sym, subst, ◌∙◌}
use Rattle.std.specs.Option.{option_map}
use Rattle.std.proofs.lemmas.Option.{same_Some, slice_get-map}
use Rattle.law_devices.proofs.Common2.{named_begun}
use Rattle.usb_base.specs.declared.packets.Ask.{Ask}
use Rattle.usb_base.specs.declared.packets.Pid.{Pid}
use Rattle.usb_base.specs.declared.packets.Way.TheVariants as Ways
use Rattle.hub_class.specs.HubContent.{HubContent}
use Rattle.hub_class.specs.Microframe.{wire_left}
use Rattle.hub_class.proofs.Microframe.{work_keeps}
use Rattle.endpoint_script.specs.declared.endpoint.Role.{Role}
use Rattle.endpoint_script.specs.Device.{Device, part_begun, endpoint_begun, begun}
use Rattle.bus_wire.specs.declared.asked.Answerer.{Answerer}
use Rattle.bus_wire.specs.declared.asked.Answerer.TheVariants as Answerers
use Rattle.bus_wire.specs.declared.asked.Asked.{Asked}
use Rattle.bus_wire.specs.declared.seats.Owner.TheVariants as Owners
use Rattle.bus_wire.specs.declared.seats.Seat.{Seat}
use Rattle.bus_wire.specs.declared.seats.TokenKind.TheVariants.{Out}
use Rattle.bus_wire.specs.declared.who_heard.WhoHeard.{WhoHeard}
use Rattle.bus_wire.specs.Seats.{token_kind, place_for}
use Rattle.bus_wire.specs.Below.{Floor, Below, below_at, asked_below, devices_after, below_row, below_after_at, below_after, below_reply, floor_left, floor_worked}
use Rattle.bus_wire.specs.Bus.{Wired, Fixed, begins_anew, begun_at, floor_of, begin_after, is_allowed}
use Rattle.usb_base.specs.declared.packets.Pid.TheVariants as Pids
use Rattle.law_devices.proofs.Beginning.{IsWhoBelow, below_place, not_high}
use Rattle.law_ring.specs.OutBus.{Taker, KeepsTakers}
use Rattle.law_devices.specs.scripted_takers.Takers.{taker_of_part, taker_of_device, taker_of}
use Rattle.law_devices.proofs.lemmas.scripted_takers.Outs.{IsOfOut}
use Rattle.law_devices.proofs.lemmas.scripted_takers.Asking.{IsAtDevice, device_found, HasTaker, taker_found, taker_through, device_taker, put_stays}

-- ---- the bus below keeps the taker

module _ (fixed : Fixed) (addr ep : ℕ) (s : Taker) (place : ℕ) (found : place_for fixed.seats addr ep Out ≡ Some place) (seat : Seat) (there : slice_get fixed.seats place ≡ Some seat) (n : ℕ) (owner : seat.owner ≡ Owners.High n) where
  record Keeps (w : Below) : Type 0 where
    same : w.fixed ≡ fixed
    taker : taker_of_device addr ep (slice_get w.floor.devices n) ≡ Some s

  -- a device below a hub isn't asked about an endpoint of the high-speed bus
  not_asked : (w : Below) (ask : Ask) (d : Device) (m : ℕ) → w.fixed ≡ fixed → IsWhoBelow w ask (Answerers.Device m) → addr ≡ d.address → IsOfOut d ask ep → ask.pid ≡ Pids.Out → ⊥
  not_asked w ask d m same who address i token =
      let place_same : who.place ≡ place =
      same_Some who.place place (sym who.found ∙ ap (λ (f : Fixed). place_for f.seats ask.addr ask.ep (token_kind ask.pid)) same
      ∙ ap (λ (pid : Pid). place_for fixed.seats ask.addr ask.ep (token_kind pid)) token
      ∙ ap (λ (a : ℕ). place_for fixed.seats a ask.ep Out) (i.address ∙ sym address) ∙ ap (λ (x : ℕ). place_for fixed.seats addr x Out) (sym i.number) ∙ found) in
      let seat_same : who.seat ≡ seat = same_Some who.seat seat (sym who.there ∙ ap (λ (f : Fixed). slice_get f.seats who.place) same ∙ ap (slice_get fixed.seats) place_same ∙ there) in
      not_high w who.seat.owner m n (sym who.is) (ap (λ (x : Seat). x.owner) seat_same ∙ owner)

  who_kept : (w : Below) (ask : Ask) (out : List ℕ) (row : WhoHeard) (who : Answerer) → IsWhoBelow w ask who → Keeps w → taker_of_device addr ep (slice_get (devices_after row who ask out w.floor.devices) n) ≡ Some s
  who_kept w ask out row (Answerers.Device m) is k =
      let at : IsAtDevice addr ep (slice_get w.floor.devices n) s = device_found addr ep (slice_get w.floor.devices n) s k.taker in
      put_stays w.floor.devices n addr ep s at row ask out m (slice_get w.floor.devices m) refl (λ same. not_asked w ask at.device m k.same is at.address)
  who_kept w ask out row _ is k = k.taker

  asked_kept : (w : Below) (ask : Ask) (out : List ℕ) (o : Option Asked) → asked_below w ask ≡ o → Keeps w → Keeps (below_after_at w ask out o)
  asked_kept w ask out None is k = k
  asked_kept w ask out (Some e) is k = record {
    same = k.same;
    taker = who_kept w ask out (below_row w e ask out) e.who (below_place w ask (place_for w.fixed.seats ask.addr ask.ep (token_kind ask.pid)) e refl is) k;
  }

  below_kept : (w : Below) (ask : Ask) (out : List ℕ) → Keeps w → Keeps (below_after w ask out)
  below_kept w ask out k = asked_kept w ask out (asked_below w ask) refl k

  -- ---- and so does the work of a hub

  hub_kept : (h : HubContent) (w : Below) → Keeps w → Keeps (wire_left below_reply below_after h w)
  hub_kept h w k = work_keeps below_reply below_after Keeps below_kept h w k

  floor_kept : (hubs : List HubContent) (floor : Floor) → taker_of_device addr ep (slice_get floor.devices n) ≡ Some s → taker_of_device addr ep (slice_get (floor_worked fixed hubs floor).devices n) ≡ Some s
  floor_kept [] floor k = k
  floor_kept (h ∷ hs) floor k = let next = hub_kept h (below_at fixed h floor) (record { same = refl; taker = k }) in floor_kept hs (floor_left fixed h floor) next.taker

-- ---- devices begin anew

begun_by : (b : Bool) (d : Device) (addr ep : ℕ) (s : Taker) → IsAtDevice addr ep (Some d) s → taker_of_device addr ep (Some (if b then begun d else d)) ≡ Some s
begun_by true d addr ep s at =
    let same : at.device ≡ d = sym (same_Some d at.device at.is) in
    subst (λ (x : Device). taker_of_device addr ep (Some (begun x)) ≡ Some s) same
    (device_taker (begun at.device) addr ep at.at.place (endpoint_begun at.at.endpoint) at.address (named_begun ep Ways.Out at.device.endpoints ∙ at.at.is)
    (slice_get-map endpoint_begun at.device.endpoints at.at.place ∙ ap (option_map endpoint_begun) at.at.here)
    ∙ ap (λ (p : Role). taker_of_part (part_begun p)) at.at.part.is ∙ ap Some (sym at.at.part.taker))
begun_by false d addr ep s at =
    ap (taker_of_device addr ep) at.is ∙ device_taker at.device addr ep at.at.place at.at.endpoint at.address at.at.is at.at.here ∙ ap taker_of_part at.at.part.is ∙ ap Some (sym at.at.part.taker)

begun_from : (frindex : ℕ) (o : Option Device) (addr ep : ℕ) (s : Taker) → IsAtDevice addr ep o s → taker_of_device addr ep (option_map (begun_at frindex) o) ≡ Some s
begun_from frindex None addr ep s at = absurd (let e = at.is in cc)
begun_from frindex (Some d) addr ep s at = begun_by (begins_anew d.speed frindex) d addr ep s at

begun_taker : (frindex : ℕ) (devices : List Device) (n addr ep : ℕ) (s : Taker) → taker_of_device addr ep (slice_get devices n) ≡ Some s → taker_of_device addr ep (slice_get (map (begun_at frindex) devices) n) ≡ Some s
begun_taker frindex devices n addr ep s is =
    ap (taker_of_device addr ep) (slice_get-map (begun_at frindex) devices n) ∙ begun_from frindex (slice_get devices n) addr ep s (device_found addr ep (slice_get devices n) s is)

-- ---- the law

pub a_microframe_keeps_its_takers : (stream : ℕ → ℕ → Bool) → KeepsTakers (λ (w : Wired) (frindex : ℕ) (allowed : Bool) (v : Wired). (allowed ≡ is_allowed w.fixed w.bus) × (v ≡ record w { bus = begin_after w.fixed frindex w.bus })) stream taker_of
a_microframe_keeps_its_takers stream w frindex allowed v addr ep s made on is =
    let h : HasTaker w addr ep s = taker_found w addr ep s is in
    let sent : taker_of_device addr ep (slice_get w.bus.devices h.device_place) ≡ Some s = sym (taker_through w addr ep h.place h.seat h.device_place w.bus h.found h.there h.owner) ∙ is in
    ap (λ (x : Wired). taker_of x addr ep) made.1
    ∙ taker_through w addr ep h.place h.seat h.device_place (begin_after w.fixed frindex w.bus) h.found h.there h.owner
    ∙ begun_taker frindex (floor_worked w.fixed w.bus.hubs (floor_of w.bus)).devices h.device_place addr ep s
    (floor_kept w.fixed addr ep s h.place h.found h.seat h.there h.device_place h.owner w.bus.hubs (floor_of w.bus) sent)
