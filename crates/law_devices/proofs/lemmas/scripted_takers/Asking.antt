-- A transaction of the bus: the taker that is asked takes or refuses, and every other one stays as it is.
use Rattle.std.proofs.Common.{◌≡◌, ◌≢◌, ℕ, ◌==◌, Bool, true, false, if◌then◌else◌, List, slice_get, slice_set, Option, Some, None, ap, refl, sym, subst, ◌∙◌, ⊎_elim, inl, inr}
use Rattle.std.specs.Option.{option_and_then, option_map}
use Rattle.std.proofs.lemmas.Bool.{cases_eq, eqb-true, eq-eqb}
use Rattle.std.proofs.lemmas.Option.{same_Some}
use Rattle.usb_base.specs.declared.packets.Ask.{Ask}
use Rattle.usb_base.specs.declared.packets.Pid.{Pid}
use Rattle.usb_base.specs.declared.packets.Reply.{Reply}
use Rattle.usb_base.specs.declared.packets.Reply.TheVariants.{Silent}
use Rattle.usb_base.specs.declared.packets.Split.{Split}
use Rattle.usb_base.specs.declared.packets.Split.TheVariants.{Plain}
use Rattle.usb_base.specs.declared.packets.Way.TheVariants as Ways
use Rattle.dev_control.specs.Stages.{token_of}
use Rattle.endpoint_script.specs.declared.endpoint.Endpoint.{Endpoint}
use Rattle.endpoint_script.specs.declared.endpoint.Role.{Role}
use Rattle.endpoint_script.specs.Device.{Device, place_named, or_else, place_for as place_in_device, endpoint_asked, endpoint_at, reply_from, part_reply, part_answered, part_acked, endpoint_answered, endpoint_acked, answered_at, answered_in, answered, acked_at, acked_in, acked_by}
use Rattle.bus_wire.specs.declared.asked.Answerer.{Answerer}
use Rattle.bus_wire.specs.declared.asked.Answerer.TheVariants as Answerers
use Rattle.bus_wire.specs.declared.asked.Asked.{Asked}
use Rattle.bus_wire.specs.declared.asked.Losses.{Losses}
use Rattle.bus_wire.specs.declared.seats.Owner.{Owner}
use Rattle.bus_wire.specs.declared.seats.Owner.TheVariants as Owners
use Rattle.bus_wire.specs.declared.seats.Seat.{Seat}
use Rattle.bus_wire.specs.declared.seats.TokenKind.TheVariants.{Out}
use Rattle.bus_wire.specs.declared.who_heard.WhoHeard.{WhoHeard}
use Rattle.bus_wire.specs.declared.who_heard.WhoHeard.TheVariants.{SentUnheard, AckHeard}
use Rattle.bus_wire.specs.WhoHeard.{asker_hears, left_by, packets_before}
use Rattle.bus_wire.specs.Seats.{token_kind, place_for}
use Rattle.bus_wire.specs.Asking.{losses_of, row_for, device_after, device_answer, put_at, changed_at}
use Rattle.bus_wire.specs.Bus.{Bus, Wired, hears, asked_at, asked_of, bus_row, changed_by, reply_at, reply_of, after_at, transact_after}
use Rattle.usb_base.specs.declared.packets.Pid.TheVariants as Pids
use Rattle.endpoint_script.specs.declared.endpoint.Role.TheVariants.{Takes}
use Rattle.endpoint_script.specs.Taking.{Taking, taking_reply}
use Rattle.law_devices.proofs.Places.{set_here, set_beside}
use Rattle.law_devices.proofs.Devices.{device_changes, address_after, place_answered}
use Rattle.law_devices.proofs.Asking.{who_place, plain_only}
use Rattle.law_ring.specs.OutBus.{Taker, IsOutAsk, IsOutBus, HasTaken, nothing_taken}
use Rattle.law_devices.specs.scripted_takers.Takers.{taker_of_part, taker_of_endpoint, taker_of_device, taker_of_owner, taker_of_seat, taker_of_place, taker_of}
use Rattle.law_devices.proofs.lemmas.scripted_takers.Taking.{taker_in, taker_by, taking_heard, pinged_stays}
use Rattle.law_devices.proofs.lemmas.scripted_takers.Outs.{IsOutToken, IsOfOut, of_out}

-- ---- where a taker stands

pub record IsPart (p : Role) (s : Taker) : Type 0 where
  pub taking : Taking
  pub is : p ≡ Takes taking
  pub taker : s ≡ taker_in taking

part_found : (p : Role) (s : Taker) → taker_of_part p ≡ Some s → IsPart p s
part_found (Takes z) s e = record { taking = z; is = refl; taker = sym (same_Some (taker_in z) s e) }
part_found _ s e = absurd cc

pub record IsAtEndpoint (es : List Endpoint) (o : Option ℕ) (s : Taker) : Type 0 where
  pub place : ℕ
  pub is : o ≡ Some place
  pub endpoint : Endpoint
  pub here : slice_get es place ≡ Some endpoint
  pub part : IsPart endpoint.part s

endpoint_found : (es : List Endpoint) (k : ℕ) (o : Option Endpoint) (s : Taker) → slice_get es k ≡ o → taker_of_endpoint o ≡ Some s → IsAtEndpoint es (Some k) s
endpoint_found es k None s here e = absurd cc
endpoint_found es k (Some x) s here e = record { place = k; is = refl; endpoint = x; here = here; part = part_found x.part s e }

place_found : (es : List Endpoint) (o : Option ℕ) (s : Taker) → taker_of_endpoint (endpoint_at es o) ≡ Some s → IsAtEndpoint es o s
place_found es None s e = absurd cc
place_found es (Some k) s e = endpoint_found es k (slice_get es k) s refl e

pub record IsAtDevice (addr ep : ℕ) (o : Option Device) (s : Taker) : Type 0 where
  pub device : Device
  pub is : o ≡ Some device
  pub address : addr ≡ device.address
  pub at : IsAtEndpoint device.endpoints (place_named device.endpoints ep Ways.Out) s

device_by : (addr ep : ℕ) (d : Device) (b : Bool) (s : Taker) → (addr == d.address) ≡ b → (if b then taker_of_endpoint (endpoint_at d.endpoints (place_named d.endpoints ep Ways.Out)) else None) ≡ Some s → IsAtDevice addr ep (Some d) s
device_by addr ep d true s is e = record { device = d; is = refl; address = eqb-true addr d.address is; at = place_found d.endpoints (place_named d.endpoints ep Ways.Out) s e }
device_by addr ep d false s is e = absurd cc

pub device_found : (addr ep : ℕ) (o : Option Device) (s : Taker) → taker_of_device addr ep o ≡ Some s → IsAtDevice addr ep o s
device_found addr ep None s e = absurd cc
device_found addr ep (Some d) s e = device_by addr ep d (addr == d.address) s refl e

pub record HasTaker (w : Wired) (addr ep : ℕ) (s : Taker) : Type 0 where
  pub place : ℕ
  pub found : place_for w.fixed.seats addr ep Out ≡ Some place
  pub seat : Seat
  pub there : slice_get w.fixed.seats place ≡ Some seat
  pub device_place : ℕ
  pub owner : seat.owner ≡ Owners.High device_place
  pub at : IsAtDevice addr ep (slice_get w.bus.devices device_place) s

owner_found : (w : Wired) (addr ep place : ℕ) (seat : Seat) (owner : Owner) (s : Taker) → place_for w.fixed.seats addr ep Out ≡ Some place → slice_get w.fixed.seats place ≡ Some seat → seat.owner ≡ owner → taker_of_owner w.bus addr ep owner ≡ Some s → HasTaker w addr ep s
owner_found w addr ep place seat (Owners.High n) s found there is e = record { place = place; found = found; seat = seat; there = there; device_place = n; owner = is; at = device_found addr ep (slice_get w.bus.devices n) s e }
owner_found w addr ep place seat _ s found there is e = absurd cc

seat_found : (w : Wired) (addr ep place : ℕ) (o : Option Seat) (s : Taker) → place_for w.fixed.seats addr ep Out ≡ Some place → slice_get w.fixed.seats place ≡ o → taker_of_seat w.bus addr ep o ≡ Some s → HasTaker w addr ep s
seat_found w addr ep place None s found there e = absurd cc
seat_found w addr ep place (Some seat) s found there e = owner_found w addr ep place seat seat.owner s found there refl e

taker_found_at : (w : Wired) (addr ep : ℕ) (o : Option ℕ) (s : Taker) → place_for w.fixed.seats addr ep Out ≡ o → taker_of_place w addr ep o ≡ Some s → HasTaker w addr ep s
taker_found_at w addr ep None s found e = absurd cc
taker_found_at w addr ep (Some place) s found e = seat_found w addr ep place (slice_get w.fixed.seats place) s found refl e

pub taker_found : (w : Wired) (addr ep : ℕ) (s : Taker) → taker_of w addr ep ≡ Some s → HasTaker w addr ep s
taker_found w addr ep s e = taker_found_at w addr ep (place_for w.fixed.seats addr ep Out) s refl e

-- with the same endpoints it depends on its device alone
pub taker_through : (w : Wired) (addr ep place : ℕ) (seat : Seat) (n : ℕ) (b : Bus) → place_for w.fixed.seats addr ep Out ≡ Some place → slice_get w.fixed.seats place ≡ Some seat → seat.owner ≡ Owners.High n → taker_of (record w { bus = b }) addr ep ≡ taker_of_device addr ep (slice_get b.devices n)
taker_through w addr ep place seat n b found there owner =
    ap (taker_of_place (record w { bus = b }) addr ep) found ∙ ap (taker_of_seat b addr ep) there ∙ ap (taker_of_owner b addr ep) owner

pub device_taker : (d : Device) (addr ep k : ℕ) (e : Endpoint) → addr ≡ d.address → place_named d.endpoints ep Ways.Out ≡ Some k → slice_get d.endpoints k ≡ Some e → taker_of_device addr ep (Some d) ≡ taker_of_part e.part
device_taker d addr ep k e address named here =
    ap (λ (b : Bool). if b then taker_of_endpoint (endpoint_at d.endpoints (place_named d.endpoints ep Ways.Out)) else None) (eq-eqb addr d.address address)
    ∙ ap (λ (o : Option ℕ). taker_of_endpoint (endpoint_at d.endpoints o)) named ∙ ap taker_of_endpoint here

-- ---- a device that is asked

module _ (ask : Ask) (out : List ℕ) (addr ep : ℕ) (o : Option Device) (s : Taker) (at : IsAtDevice addr ep o s) where
  -- it is where it was
  was_here : taker_of_device addr ep o ≡ Some s
  was_here = ap (taker_of_device addr ep) at.is ∙ device_taker at.device addr ep at.at.place at.at.endpoint at.address at.at.is at.at.here ∙ ap taker_of_part at.at.part.is ∙ ap Some (sym at.at.part.taker)

  -- about this endpoint
  module _ (here : endpoint_asked at.device ask ≡ Some at.at.place) where
    answered_there : slice_get (answered at.device ask out).endpoints at.at.place ≡ Some (endpoint_answered at.at.endpoint ask out)
    answered_there =
        ap (λ (i : Option ℕ). slice_get (answered_in at.device.endpoints i ask out) at.at.place) here
        ∙ ap (λ (e : Option Endpoint). slice_get (answered_at at.device.endpoints at.at.place e ask out) at.at.place) at.at.here
        ∙ set_here at.device.endpoints at.at.place at.at.endpoint (endpoint_answered at.at.endpoint ask out) at.at.here

    acked_there : slice_get (acked_by (answered at.device ask out) ask).endpoints at.at.place ≡ Some (endpoint_acked (endpoint_answered at.at.endpoint ask out))
    acked_there =
        ap (λ (i : Option ℕ). slice_get (acked_in (answered at.device ask out).endpoints i) at.at.place) (place_answered at.device ask out ∙ here)
        ∙ ap (λ (e : Option Endpoint). slice_get (acked_at (answered at.device ask out).endpoints at.at.place e) at.at.place) answered_there
        ∙ set_here (answered at.device ask out).endpoints at.at.place (endpoint_answered at.at.endpoint ask out) (endpoint_acked (endpoint_answered at.at.endpoint ask out)) answered_there

    after_there : (row : WhoHeard) → slice_get (device_after row ask out at.device).endpoints at.at.place ≡ Some (left_by row at.at.endpoint (endpoint_answered at.at.endpoint ask out) (endpoint_acked (endpoint_answered at.at.endpoint ask out)))
    after_there SentUnheard = at.at.here
    after_there AckHeard = acked_there
    after_there _ = answered_there

    part_left : (row : WhoHeard) → taker_of_part (left_by row at.at.endpoint (endpoint_answered at.at.endpoint ask out) (endpoint_acked (endpoint_answered at.at.endpoint ask out))).part ≡ taker_by row ask out at.at.part.taking
    part_left SentUnheard = ap taker_of_part at.at.part.is
    part_left AckHeard = ap (λ (p : Role). taker_of_part (part_acked (part_answered p ask out))) at.at.part.is
    part_left _ = ap (λ (p : Role). taker_of_part (part_answered p ask out)) at.at.part.is

    pub device_left : (row : WhoHeard) → taker_of_device addr ep (Some (device_after row ask out at.device)) ≡ taker_by row ask out at.at.part.taking
    device_left row =
        device_taker (device_after row ask out at.device) addr ep at.at.place (left_by row at.at.endpoint (endpoint_answered at.at.endpoint ask out) (endpoint_acked (endpoint_answered at.at.endpoint ask out)))
        (at.address ∙ sym (address_after row at.device ask out)) ((device_changes row at.device ask out).names ep Ways.Out ∙ at.at.is) (after_there row) ∙ part_left row

  -- about another one
  device_kept : (row : WhoHeard) → (endpoint_asked at.device ask ≡ Some at.at.place → ⊥) → taker_of_device addr ep (Some (device_after row ask out at.device)) ≡ Some s
  device_kept row not_here =
      let k = device_changes row at.device ask out in
      device_taker (device_after row ask out at.device) addr ep at.at.place at.at.endpoint (at.address ∙ sym (address_after row at.device ask out)) (k.names ep Ways.Out ∙ at.at.is) (k.others at.at.place not_here ∙ at.at.here)
      ∙ ap taker_of_part at.at.part.is ∙ ap Some (sym at.at.part.taker)

  -- either, where it isn't an OUT for this endpoint
  device_stays : (row : WhoHeard) → (IsOfOut at.device ask ep → ask.pid ≡ Pids.Out → ⊥) → (i : Option ℕ) → endpoint_asked at.device ask ≡ i → taker_of_device addr ep (Some (device_after row ask out at.device)) ≡ Some s
  device_stays row unasked None is = device_kept row (λ (e : endpoint_asked at.device ask ≡ Some at.at.place). absurd (nowhere (sym is ∙ e)))
    where
      nowhere : None ≡ Some at.at.place → ⊥
      nowhere e = cc
  device_stays row unasked (Some k) is =
      ⊎_elim (λ (same : k ≡ at.at.place). by_token (is ∙ ap Some same) (of_out at.device ask ep at.at.place at.at.endpoint at.at.is at.at.here (is ∙ ap Some same)) (of_out at.device ask ep at.at.place at.at.endpoint at.at.is at.at.here (is ∙ ap Some same)).token)
      (λ (differs : k ≢ at.at.place). device_kept row (λ (e : endpoint_asked at.device ask ≡ Some at.at.place). differs (same_Some k at.at.place (sym is ∙ e)))) (cases_eq k at.at.place)
    where
      by_token : endpoint_asked at.device ask ≡ Some at.at.place → IsOfOut at.device ask ep → IsOutToken ask.pid → taker_of_device addr ep (Some (device_after row ask out at.device)) ≡ Some s
      by_token here for_it (inl e) = absurd (unasked for_it e)
      by_token here for_it (inr e) = device_left here row ∙ pinged_stays ask out at.at.part.taking row e ∙ ap Some (sym at.at.part.taker)

-- among the devices
pub put_stays : (devices : List Device) (place addr ep : ℕ) (s : Taker) (at : IsAtDevice addr ep (slice_get devices place) s) (row : WhoHeard) (ask : Ask) (out : List ℕ) (n : ℕ) (o : Option Device) → slice_get devices n ≡ o → (n ≡ place → IsOfOut at.device ask ep → ask.pid ≡ Pids.Out → ⊥)
    → taker_of_device addr ep (slice_get (put_at o n (device_after row ask out) devices) place) ≡ Some s
put_stays devices place addr ep s at row ask out n None there unasked = was_here ask out addr ep (slice_get devices place) s at
put_stays devices place addr ep s at row ask out n (Some x) there unasked =
    ⊎_elim (λ (same : place ≡ n).
    let is : x ≡ at.device = same_Some x at.device (sym there ∙ ap (slice_get devices) (sym same) ∙ at.is) in
    ap (λ (i : ℕ). taker_of_device addr ep (slice_get (slice_set devices n (device_after row ask out x)) i)) same
    ∙ ap (taker_of_device addr ep) (set_here devices n x (device_after row ask out x) there)
    ∙ ap (λ (z : Device). taker_of_device addr ep (Some (device_after row ask out z))) is ∙ device_stays ask out addr ep (slice_get devices place) s at row (unasked (sym same)) (endpoint_asked at.device ask) refl)
    (λ (differs : place ≢ n). ap (taker_of_device addr ep) (set_beside devices n place (device_after row ask out x) differs) ∙ was_here ask out addr ep (slice_get devices place) s at) (cases_eq place n)

-- ---- another one stays as it is

module _ (stream : ℕ → ℕ → Bool) (w : Wired) (ask : Ask) (out : List ℕ) (addr ep : ℕ) (s : Taker) (h : HasTaker w addr ep s) (on : stream addr ep ≡ true) (other : IsOutAsk stream ask → (addr ≡ ask.addr) × (ep ≡ ask.ep) → ⊥) where
  stays : taker_of_device addr ep (slice_get w.bus.devices h.device_place) ≡ Some s
  stays = was_here ask out addr ep (slice_get w.bus.devices h.device_place) s h.at

  unasked : ask.split ≡ Plain → IsOfOut h.at.device ask ep → ask.pid ≡ Pids.Out → ⊥
  unasked plain i token =
      other (record { plain = plain; token = token; on = ap (λ (n : ℕ). stream n ask.ep) (i.address ∙ sym h.at.address) ∙ ap (stream addr) (sym i.number) ∙ on }) (h.at.address ∙ sym i.address, i.number)

  who_kept : (row : WhoHeard) (who : Answerer) → ((n : ℕ) → who ≡ Answerers.Device n → ask.split ≡ Plain) → taker_of_device addr ep (slice_get (changed_by row who ask out w.bus).devices h.device_place) ≡ Some s
  who_kept row (Answerers.Device n) plain = put_stays w.bus.devices h.device_place addr ep s h.at row ask out n (slice_get w.bus.devices n) refl (λ same. unasked (plain n refl))
  who_kept row _ plain = stays

  asked_kept : (o : Option Asked) → asked_of w.fixed w.bus ask ≡ o → taker_of_device addr ep (slice_get (after_at w.fixed w.bus ask out o).devices h.device_place) ≡ Some s
  asked_kept None is = stays
  asked_kept (Some e) is =
      let k = who_place w.fixed w.bus ask.split (place_for w.fixed.seats ask.addr ask.ep (token_kind ask.pid)) e is in
      who_kept (bus_row w.fixed w.bus e ask out) e.who (λ n device. plain_only w.bus ask.split k.owner n (sym k.is ∙ device))

  other_kept : taker_of (record w { bus = transact_after w.fixed w.bus ask out }) addr ep ≡ Some s
  other_kept =
      taker_through w addr ep h.place h.seat h.device_place (transact_after w.fixed w.bus ask out) h.found h.there h.owner ∙ asked_kept (asked_of w.fixed w.bus ask) refl

-- ---- the one that is asked

module _ (stream : ℕ → ℕ → Bool) (w : Wired) (ask : Ask) (out : List ℕ) (s : Taker) (h : HasTaker w ask.addr ask.ep s) (k : IsOutAsk stream ask) where
  abbrev asked_here : ℕ → Asked
  asked_here packet = record { place = h.place; name = h.seat.name; packet = packet; who = Answerers.Device h.device_place }

  asked_is : asked_of w.fixed w.bus ask ≡ option_map asked_here (slice_get w.bus.high h.place)
  asked_is =
      ap (λ (pid : Pid). option_and_then (asked_at w.fixed w.bus ask.split) (place_for w.fixed.seats ask.addr ask.ep (token_kind pid))) k.token
      ∙ ap (option_and_then (asked_at w.fixed w.bus ask.split)) h.found
      ∙ ap (option_and_then (λ (seat : Seat). option_map (λ (packet : ℕ). record { place = h.place; name = seat.name; packet = packet; who = hears w.bus ask.split seat.owner }) (slice_get w.bus.high h.place))) h.there
      ∙ ap (λ (split : Split). option_map (λ (packet : ℕ). record { place = h.place; name = h.seat.name; packet = packet; who = hears w.bus split h.seat.owner }) (slice_get w.bus.high h.place)) k.plain
      ∙ ap (λ (owner : Owner). option_map (λ (packet : ℕ). record { place = h.place; name = h.seat.name; packet = packet; who = hears w.bus Plain owner }) (slice_get w.bus.high h.place)) h.owner

  place_here : endpoint_asked h.at.device ask ≡ Some h.at.at.place
  place_here =
      ap (λ (b : Bool). if b then place_in_device (token_of ask.pid) h.at.device.endpoints ask.ep else None) (eq-eqb ask.addr h.at.device.address h.at.address)
      ∙ ap (λ (pid : Pid). place_in_device (token_of pid) h.at.device.endpoints ask.ep) k.token
      ∙ ap (λ (o : Option ℕ). or_else o (place_named h.at.device.endpoints ask.ep Ways.Ctl)) h.at.at.is

  answer_is : device_answer (slice_get w.bus.devices h.device_place) ask out ≡ taking_reply h.at.device.speed h.at.at.part.taking ask out
  answer_is =
      ap (λ (o : Option Device). device_answer o ask out) h.at.is
      ∙ ap (λ (o : Option ℕ). reply_from h.at.device.speed (endpoint_at h.at.device.endpoints o) ask out) place_here
      ∙ ap (λ (o : Option Endpoint). reply_from h.at.device.speed o ask out) h.at.at.here
      ∙ ap (λ (p : Role). part_reply h.at.device.speed p ask out) h.at.at.part.is

  left_there : (row : WhoHeard) → taker_of_device ask.addr ask.ep (slice_get (changed_at h.device_place (device_after row ask out) w.bus.devices) h.device_place) ≡ taker_by row ask out h.at.at.part.taking
  left_there row =
      ap (λ (o : Option Device). taker_of_device ask.addr ask.ep (slice_get (put_at o h.device_place (device_after row ask out) w.bus.devices) h.device_place)) h.at.is
      ∙ ap (taker_of_device ask.addr ask.ep) (set_here w.bus.devices h.device_place h.at.device (device_after row ask out h.at.device) h.at.is)
      ∙ device_left ask out ask.addr ask.ep (slice_get w.bus.devices h.device_place) s h.at place_here row

  -- the row by what it answers
  answered_by_row : (row : WhoHeard) (answer : Reply) → answer ≡ taking_reply h.at.device.speed h.at.at.part.taking ask out → HasTaken ask out s (asker_hears row answer) (taker_by row ask out h.at.at.part.taking)
  answered_by_row row answer is =
      subst (λ (r : Reply). HasTaken ask out s (asker_hears row r) (taker_by row ask out h.at.at.part.taking)) (sym is)
      (subst (λ (z : Taker). HasTaken ask out z (asker_hears row (taking_reply h.at.device.speed h.at.at.part.taking ask out)) (taker_by row ask out h.at.at.part.taking)) (sym h.at.at.part.taker)
      (taking_heard h.at.device.speed ask out h.at.at.part.taking row k.token))

  heard_by : (o : Option ℕ) → slice_get w.bus.high h.place ≡ o → HasTaken ask out s (reply_at w.fixed w.bus ask out (option_map asked_here o)) (taker_of_device ask.addr ask.ep (slice_get (after_at w.fixed w.bus ask out (option_map asked_here o)).devices h.device_place))
  heard_by None is = record {
    taker = s;
    is = was_here ask out ask.addr ask.ep (slice_get w.bus.devices h.device_place) s h.at;
    takes = nothing_taken Silent refl;
  }
  heard_by (Some packet) is =
      let losses : Losses = losses_of w.fixed.fates false (asked_here packet) (packets_before ask) in
      let answer : Reply = device_answer (slice_get w.bus.devices h.device_place) ask out in
      subst (HasTaken ask out s (asker_hears (row_for losses ask answer) answer)) (sym (left_there (row_for losses ask answer))) (answered_by_row (row_for losses ask answer) answer answer_is)

  asked_answers : HasTaken ask out s (reply_of w.fixed w.bus ask out) (taker_of (record w { bus = transact_after w.fixed w.bus ask out }) ask.addr ask.ep)
  asked_answers =
      subst (HasTaken ask out s (reply_of w.fixed w.bus ask out)) (sym (taker_through w ask.addr ask.ep h.place h.seat h.device_place (transact_after w.fixed w.bus ask out) h.found h.there h.owner))
      (subst (λ (o : Option Asked). HasTaken ask out s (reply_at w.fixed w.bus ask out o) (taker_of_device ask.addr ask.ep (slice_get (after_at w.fixed w.bus ask out o).devices h.device_place))) (sym asked_is)
      (heard_by (slice_get w.bus.high h.place) refl))

-- ---- the law

pub a_scripted_bus_takes_its_streams : (stream : ℕ → ℕ → Bool) → IsOutBus (λ (w : Wired) (ask : Ask) (out : List ℕ) (reply : Reply) (v : Wired). (reply ≡ reply_of w.fixed w.bus ask out) × (v ≡ record w { bus = transact_after w.fixed w.bus ask out })) stream taker_of
a_scripted_bus_takes_its_streams stream = record {
  asked = λ w ask out reply v s made k sent.
      subst (λ (x : Wired). HasTaken ask out s reply (taker_of x ask.addr ask.ep)) (sym made.1)
      (subst (λ (r : Reply). HasTaken ask out s r (taker_of (record w { bus = transact_after w.fixed w.bus ask out }) ask.addr ask.ep)) (sym made.0) (asked_answers stream w ask out s (taker_found w ask.addr ask.ep s sent) k));
  others = λ w ask out reply v addr ep s made on sent other.
      ap (λ (x : Wired). taker_of x addr ep) made.1 ∙ other_kept stream w ask out addr ep s (taker_found w addr ep s sent) on other;
}
