-- What an OUT below a hub does to its taker, and what is heard of it.
use Rattle.std.proofs.Common.{◌≡◌, ℕ, Bool, List, slice_get, Option, Some, None, if◌then◌else◌, refl, sym, subst, ap, ◌∙◌, ◌⊎◌, inl, inr}
use Rattle.std.specs.Option.{option_and_then, option_map}
use Rattle.std.proofs.lemmas.Bool.{eq-eqb}
use Rattle.usb_base.specs.declared.packets.Ask.{Ask}
use Rattle.usb_base.specs.declared.packets.Pid.{Pid}
use Rattle.usb_base.specs.declared.packets.Pid.TheVariants as Pids
use Rattle.usb_base.specs.declared.packets.Reply.{Reply}
use Rattle.usb_base.specs.declared.packets.Reply.TheVariants.{Silent}
use Rattle.usb_base.specs.declared.packets.Speed.{Speed}
use Rattle.usb_base.specs.declared.packets.Way.TheVariants as Ways
use Rattle.dev_control.specs.Stages.{token_of}
use Rattle.endpoint_script.specs.declared.endpoint.Endpoint.{Endpoint}
use Rattle.endpoint_script.specs.declared.endpoint.Role.{Role}
use Rattle.endpoint_script.specs.Taking.{Taking, taking_reply}
use Rattle.endpoint_script.specs.Device.{Device, place_named, or_else, place_for as place_in_device, endpoint_asked, endpoint_at, reply_from, part_reply}
use Rattle.bus_wire.specs.declared.asked.Answerer.{Answerer}
use Rattle.bus_wire.specs.declared.asked.Answerer.TheVariants as Answerers
use Rattle.bus_wire.specs.declared.asked.Asked.{Asked}
use Rattle.bus_wire.specs.declared.seats.Seat.{Seat}
use Rattle.bus_wire.specs.declared.seats.TokenKind.TheVariants as Tokens
use Rattle.bus_wire.specs.declared.who_heard.WhoHeard.{WhoHeard}
use Rattle.bus_wire.specs.Seats.{token_kind, place_for}
use Rattle.bus_wire.specs.WhoHeard.{asker_hears}
use Rattle.bus_wire.specs.Asking.{device_after, device_answer, put_at, changed_at}
use Rattle.bus_wire.specs.Below.{Below, hears_at, asked_below_at, asked_below, floor_answer, below_row, devices_after, below_reply_at, below_reply, below_after_at, below_after}
use Rattle.law_ring.specs.OutBus.{Taker}
use Rattle.law_devices.specs.scripted_takers.Takers.{taker_of_device}
use Rattle.law_devices.proofs.Places.{set_here}
use Rattle.law_devices.proofs.lemmas.scripted_takers.Asking as Takers
use Rattle.law_devices.proofs.lemmas.scripted_takers.Taking.{taker_in, taker_by}
use Rattle.law_below_hubs.specs.Raised.{transacts_below}
use Rattle.law_below_hubs.specs.Seated.{end_in, taker_on}
use Rattle.law_below_hubs.proofs.LowBuses.{same_below, asked_or_not}
use Rattle.law_below_hubs.proofs.Moves.{IsSameBelow, unheard_below}
use Rattle.law_below_hubs.proofs.Seating.{IsSeated, seated, seated_through}

-- nothing is heard and nothing taken, or the device takes it as it stands, and who heard what decides
pub data OutHeard (ask : Ask) (out : List ℕ) (s : Taker) : Reply → Option Taker → Type 0 where
  unheard : OutHeard ask out s Silent (Some s)
  heard : (speed : Speed) (t : Taking) (row : WhoHeard) → s ≡ taker_in t
      → OutHeard ask out s (asker_hears row (taking_reply speed t ask out)) (taker_by row ask out t)

module _ (w : Below) (ask : Ask) (out : List ℕ) (s : Taker) (token : ask.pid ≡ Pids.Out)
    (h : IsSeated taker_of_device Tokens.Out w.fixed w.floor.devices ask.addr ask.ep s)
    (asked : hears_at w h.seat.owner ≡ Answerers.Device h.n) where
  at : Takers.IsAtDevice ask.addr ask.ep (slice_get w.floor.devices h.n) s
  at = Takers.device_found ask.addr ask.ep (slice_get w.floor.devices h.n) s h.is

  place_here : endpoint_asked at.device ask ≡ Some at.at.place
  place_here =
      ap (λ (b : Bool). if b then place_in_device (token_of ask.pid) at.device.endpoints ask.ep else None)
      (eq-eqb ask.addr at.device.address at.address)
      ∙ ap (λ (pid : Pid). place_in_device (token_of pid) at.device.endpoints ask.ep) token
      ∙ ap (λ (o : Option ℕ). or_else o (place_named at.device.endpoints ask.ep Ways.Ctl)) at.at.is

  answer_is : device_answer (slice_get w.floor.devices h.n) ask out ≡ taking_reply at.device.speed at.at.part.taking ask out
  answer_is =
      ap (λ (o : Option Device). device_answer o ask out) at.is
      ∙ ap (λ (o : Option ℕ). reply_from at.device.speed (endpoint_at at.device.endpoints o) ask out) place_here
      ∙ ap (λ (o : Option Endpoint). reply_from at.device.speed o ask out) at.at.here
      ∙ ap (λ (p : Role). part_reply at.device.speed p ask out) at.at.part.is

  left_there : (row : WhoHeard)
      → taker_of_device ask.addr ask.ep (slice_get (changed_at h.n (device_after row ask out) w.floor.devices) h.n)
      ≡ taker_by row ask out at.at.part.taking
  left_there row =
      ap (λ (o : Option Device). taker_of_device ask.addr ask.ep
      (slice_get (put_at o h.n (device_after row ask out) w.floor.devices) h.n)) at.is
      ∙ ap (taker_of_device ask.addr ask.ep) (set_here w.floor.devices h.n at.device (device_after row ask out at.device) at.is)
      ∙ Takers.device_left ask out ask.addr ask.ep (slice_get w.floor.devices h.n) s at place_here row

  abbrev Heard : Reply → List Device → Type 0
  Heard r devices = OutHeard ask out s r (taker_of_device ask.addr ask.ep (slice_get devices h.n))

  by_who : (e : Asked) → e.who ≡ Answerers.Device h.n
      → Heard (below_reply_at w ask out (Some e)) (below_after_at w ask out (Some e)).floor.devices
  by_who e who =
      let row : WhoHeard = below_row w e ask out in
      subst (λ (x : Answerer). Heard (asker_hears row (floor_answer w.floor x ask out)) (devices_after row x ask out w.floor.devices))
      (sym who)
      (subst (λ (x : Reply). Heard (asker_hears row x) (changed_at h.n (device_after row ask out) w.floor.devices)) (sym answer_is)
      (subst (λ (x : Option Taker). OutHeard ask out s (asker_hears row (taking_reply at.device.speed at.at.part.taking ask out)) x)
      (sym (left_there row))
      (heard at.device.speed at.at.part.taking row at.at.part.taker)))

  by_packet : (o : Option ℕ) (x : Option Asked)
      → option_map (λ (packet : ℕ). record { place = h.place; name = h.seat.name; packet = packet; who = hears_at w h.seat.owner }) o ≡ x
      → Heard (below_reply_at w ask out x) (below_after_at w ask out x).floor.devices
  by_packet o None is = subst (λ (x : Option Taker). OutHeard ask out s Silent x) (sym h.is) unheard
  by_packet None (Some e) is = absurd cc
  by_packet (Some packet) (Some e) is = by_who e (ap (λ (x : Option Asked). who_of x) (sym is) ∙ asked)
    where
      who_of : Option Asked → Answerer
      who_of None = Answerers.Nobody
      who_of (Some e) = e.who

  pub asked_heard : Heard (below_reply w ask out) (below_after w ask out).floor.devices
  asked_heard =
      by_packet (slice_get w.floor.numbers h.place) (asked_below w ask)
      (sym (ap (λ (pid : Pid). option_and_then (asked_below_at w) (place_for w.fixed.seats ask.addr ask.ep (token_kind pid))) token
      ∙ ap (option_and_then (asked_below_at w)) h.found
      ∙ ap (option_and_then
      (λ (seat : Seat). option_map
      (λ (packet : ℕ). record { place = h.place; name = seat.name; packet = packet; who = hears_at w seat.owner })
      (slice_get w.floor.numbers h.place))) h.there))

pub taker_heard : (w : Below) (ask : Ask) (out : List ℕ) (r : Reply) (v : Below) (s : Taker) → transacts_below w ask out r v
    → ask.pid ≡ Pids.Out
    → taker_on w ask.addr ask.ep ≡ Some s → OutHeard ask out s r (taker_on v ask.addr ask.ep)
taker_heard w ask out r v s made token sent = by (asked_or_not w h.seat.owner h.n h.owner)
  where
    h : IsSeated taker_of_device Tokens.Out w.fixed w.floor.devices ask.addr ask.ep s
    h = seated taker_of_device Tokens.Out (λ addr ep. refl) w.fixed w.floor.devices ask.addr ask.ep s sent

    stays : IsSameBelow w v
    stays = same_below w v ask out made.after

    through : taker_on v ask.addr ask.ep ≡ taker_of_device ask.addr ask.ep (slice_get v.floor.devices h.n)
    through =
        ap (λ f. end_in taker_of_device Tokens.Out f v.floor.devices ask.addr ask.ep) stays.fixed
        ∙ seated_through taker_of_device Tokens.Out (λ addr ep. refl) w.fixed w.floor.devices v.floor.devices ask.addr ask.ep s h

    by : (hears_at w h.seat.owner ≡ Answerers.Device h.n) ⊎ (hears_at w h.seat.owner ≡ Answerers.Nobody)
        → OutHeard ask out s r (taker_on v ask.addr ask.ep)
    by (inl asked) =
        subst (λ (x : Option Taker). OutHeard ask out s r x) (sym through)
        (subst (λ (x : Below). OutHeard ask out s r (taker_of_device ask.addr ask.ep (slice_get x.floor.devices h.n))) (sym made.after)
        (subst (λ (x : Reply). OutHeard ask out s x
        (taker_of_device ask.addr ask.ep (slice_get (below_after w ask out).floor.devices h.n))) (sym made.heard)
        (asked_heard w ask out s token h asked)))
    by (inr none) =
        let found : place_for w.fixed.seats ask.addr ask.ep (token_kind ask.pid) ≡ Some h.place =
        ap (λ (pid : Pid). place_for w.fixed.seats ask.addr ask.ep (token_kind pid)) token ∙ h.found in
        let q = unheard_below w ask out h.place h.seat found h.there none in
        let same : v.floor.devices ≡ w.floor.devices = ap (λ (x : Below). x.floor.devices) made.after ∙ q.devices in
        let later : taker_on v ask.addr ask.ep ≡ Some s = through
        ∙ ap (λ (ds : List Device). taker_of_device ask.addr ask.ep (slice_get ds h.n)) same ∙ h.is in
        subst (λ (x : Option Taker). OutHeard ask out s r x) (sym later)
        (subst (λ (x : Reply). OutHeard ask out s x (Some s)) (sym (made.heard ∙ q.silent)) unheard)
