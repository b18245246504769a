-- A transaction of the bus: the sender that is asked answers, and every other one stays as it is.
use Rattle.std.proofs.Common.{◌≡◌, ◌≢◌, ℕ, ◌==◌, Bool, true, false, if◌then◌else◌, List, slice_get, slice_set, Option, Some, None, ap, refl, sym, subst, ◌∙◌, ⊎_elim, position}
use Rattle.std.specs.Option.{option_and_then, option_map}
use Rattle.std.proofs.lemmas.Bool.{cases_eq, eqb-true, eq-eqb}
use Rattle.std.proofs.lemmas.Option.{same_Some}
use Rattle.law_devices.proofs.Common.{no_translator}
use Rattle.usb_base.specs.declared.packets.Ask.{Ask}
use Rattle.usb_base.specs.declared.packets.Pid.{Pid}
use Rattle.usb_base.specs.declared.packets.Reply.{Reply}
use Rattle.usb_base.specs.declared.packets.Reply.TheVariants.{Silent}
use Rattle.usb_base.specs.declared.packets.Split.{Split}
use Rattle.usb_base.specs.declared.packets.Split.TheVariants.{Plain, Start, Complete}
use Rattle.usb_base.specs.declared.packets.Way.TheVariants as Ways
use Rattle.dev_control.specs.Stages.{token_of}
use Rattle.endpoint_script.specs.declared.endpoint.Endpoint.{Endpoint}
use Rattle.endpoint_script.specs.declared.endpoint.Role.{Role}
use Rattle.endpoint_script.specs.declared.endpoint.Role.TheVariants.{Sends}
use Rattle.endpoint_script.specs.Sending.{Sending, sending_reply}
use Rattle.endpoint_script.specs.Device.{Device, place_named, or_else, place_for as place_in_device, endpoint_asked, endpoint_at, reply_from, part_reply, part_answered, part_acked, endpoint_answered, endpoint_acked, answered_at, answered_in, answered, acked_at, acked_in, acked_by}
use Rattle.bus_wire.specs.declared.asked.Answerer.{Answerer}
use Rattle.bus_wire.specs.declared.asked.Answerer.TheVariants as Answerers
use Rattle.bus_wire.specs.declared.asked.Asked.{Asked}
use Rattle.bus_wire.specs.declared.asked.Losses.{Losses}
use Rattle.bus_wire.specs.declared.seats.Owner.{Owner}
use Rattle.bus_wire.specs.declared.seats.Owner.TheVariants as Owners
use Rattle.bus_wire.specs.declared.seats.Seat.{Seat}
use Rattle.bus_wire.specs.declared.seats.TokenKind.TheVariants.{In}
use Rattle.bus_wire.specs.declared.who_heard.WhoHeard.{WhoHeard}
use Rattle.bus_wire.specs.declared.who_heard.WhoHeard.TheVariants.{SentUnheard, AckHeard}
use Rattle.bus_wire.specs.WhoHeard.{asker_hears, left_by, packets_before}
use Rattle.bus_wire.specs.Seats.{token_kind, place_for}
use Rattle.bus_wire.specs.Asking.{losses_of, row_for, device_after, device_answer, put_at, changed_at}
use Rattle.bus_wire.specs.Bus.{Bus, Wired, Fixed, stuff_of, hears, asked_at, asked_of, bus_row, changed_by, reply_at, reply_of, after_at, transact_after}
use Rattle.law_ring.specs.Bus.{Sender, IsStreamAsk, IsBus, HasAnswered, nothing_heard}
use Rattle.law_devices.specs.Senders.{sender_of_part, sender_of_endpoint, sender_of_device, sender_of_owner, sender_of_seat, sender_of_place, sender_of}
use Rattle.law_devices.proofs.Places.{set_here, set_beside}
use Rattle.law_devices.proofs.Devices.{device_changes, address_after, place_answered, of_in}
use Rattle.law_devices.proofs.Sending.{sender_in, sender_by, sending_heard}

-- ---- where a sender stands

pub record IsPart (p : Role) (s : Sender) : Type 0 where
  pub sending : Sending
  pub is : p ≡ Sends sending
  pub sender : s ≡ sender_in sending

part_found : (p : Role) (s : Sender) → sender_of_part p ≡ Some s → IsPart p s
part_found (Sends z) s e = record { sending = z; is = refl; sender = sym (same_Some (sender_in z) s e) }
part_found _ s e = absurd cc

pub record IsAtEndpoint (es : List Endpoint) (o : Option ℕ) (s : Sender) : Type 0 where
  pub place : ℕ
  pub is : o ≡ Some place
  pub endpoint : Endpoint
  pub here : slice_get es place ≡ Some endpoint
  pub part : IsPart endpoint.part s

endpoint_found : (es : List Endpoint) (k : ℕ) (o : Option Endpoint) (s : Sender) → slice_get es k ≡ o → sender_of_endpoint o ≡ Some s → IsAtEndpoint es (Some k) s
endpoint_found es k None s here e = absurd cc
endpoint_found es k (Some x) s here e = record { place = k; is = refl; endpoint = x; here = here; part = part_found x.part s e }

place_found : (es : List Endpoint) (o : Option ℕ) (s : Sender) → sender_of_endpoint (endpoint_at es o) ≡ Some s → IsAtEndpoint es o s
place_found es None s e = absurd cc
place_found es (Some k) s e = endpoint_found es k (slice_get es k) s refl e

pub record IsAtDevice (addr ep : ℕ) (o : Option Device) (s : Sender) : Type 0 where
  pub device : Device
  pub is : o ≡ Some device
  pub address : addr ≡ device.address
  pub at : IsAtEndpoint device.endpoints (place_named device.endpoints ep Ways.In) s

device_by : (addr ep : ℕ) (d : Device) (b : Bool) (s : Sender) → (addr == d.address) ≡ b → (if b then sender_of_endpoint (endpoint_at d.endpoints (place_named d.endpoints ep Ways.In)) else None) ≡ Some s → IsAtDevice addr ep (Some d) s
device_by addr ep d true s is e = record { device = d; is = refl; address = eqb-true addr d.address is; at = place_found d.endpoints (place_named d.endpoints ep Ways.In) s e }
device_by addr ep d false s is e = absurd cc

pub device_found : (addr ep : ℕ) (o : Option Device) (s : Sender) → sender_of_device addr ep o ≡ Some s → IsAtDevice addr ep o s
device_found addr ep None s e = absurd cc
device_found addr ep (Some d) s e = device_by addr ep d (addr == d.address) s refl e

pub record HasSender (w : Wired) (addr ep : ℕ) (s : Sender) : Type 0 where
  pub place : ℕ
  pub found : place_for w.fixed.seats addr ep In ≡ Some place
  pub seat : Seat
  pub there : slice_get w.fixed.seats place ≡ Some seat
  pub device_place : ℕ
  pub owner : seat.owner ≡ Owners.High device_place
  pub at : IsAtDevice addr ep (slice_get w.bus.devices device_place) s

owner_found : (w : Wired) (addr ep place : ℕ) (seat : Seat) (owner : Owner) (s : Sender) → place_for w.fixed.seats addr ep In ≡ Some place → slice_get w.fixed.seats place ≡ Some seat → seat.owner ≡ owner → sender_of_owner w.bus addr ep owner ≡ Some s → HasSender w addr ep s
owner_found w addr ep place seat (Owners.High n) s found there is e = record { place = place; found = found; seat = seat; there = there; device_place = n; owner = is; at = device_found addr ep (slice_get w.bus.devices n) s e }
owner_found w addr ep place seat _ s found there is e = absurd cc

seat_found : (w : Wired) (addr ep place : ℕ) (o : Option Seat) (s : Sender) → place_for w.fixed.seats addr ep In ≡ Some place → slice_get w.fixed.seats place ≡ o → sender_of_seat w.bus addr ep o ≡ Some s → HasSender w addr ep s
seat_found w addr ep place None s found there e = absurd cc
seat_found w addr ep place (Some seat) s found there e = owner_found w addr ep place seat seat.owner s found there refl e

sender_found_at : (w : Wired) (addr ep : ℕ) (o : Option ℕ) (s : Sender) → place_for w.fixed.seats addr ep In ≡ o → sender_of_place w addr ep o ≡ Some s → HasSender w addr ep s
sender_found_at w addr ep None s found e = absurd cc
sender_found_at w addr ep (Some place) s found e = seat_found w addr ep place (slice_get w.fixed.seats place) s found refl e

pub sender_found : (w : Wired) (addr ep : ℕ) (s : Sender) → sender_of w addr ep ≡ Some s → HasSender w addr ep s
sender_found w addr ep s e = sender_found_at w addr ep (place_for w.fixed.seats addr ep In) s refl e

-- with the same endpoints it depends on its device alone
pub sender_through : (w : Wired) (addr ep place : ℕ) (seat : Seat) (n : ℕ) (b : Bus) → place_for w.fixed.seats addr ep In ≡ Some place → slice_get w.fixed.seats place ≡ Some seat → seat.owner ≡ Owners.High n → sender_of (record w { bus = b }) addr ep ≡ sender_of_device addr ep (slice_get b.devices n)
sender_through w addr ep place seat n b found there owner =
    ap (sender_of_place (record w { bus = b }) addr ep) found ∙ ap (sender_of_seat b addr ep) there ∙ ap (sender_of_owner b addr ep) owner

pub device_sender : (d : Device) (addr ep k : ℕ) (e : Endpoint) → addr ≡ d.address → place_named d.endpoints ep Ways.In ≡ Some k → slice_get d.endpoints k ≡ Some e → sender_of_device addr ep (Some d) ≡ sender_of_part e.part
device_sender d addr ep k e address named here =
    ap (λ (b : Bool). if b then sender_of_endpoint (endpoint_at d.endpoints (place_named d.endpoints ep Ways.In)) else None) (eq-eqb addr d.address address)
    ∙ ap (λ (o : Option ℕ). sender_of_endpoint (endpoint_at d.endpoints o)) named ∙ ap sender_of_endpoint here

-- ---- who is asked

pub record IsWho (b : Bus) (split : Split) (e : Asked) : Type 0 where
  pub owner : Owner
  pub is : e.who ≡ hears b split owner

who_packet : (b : Bus) (split : Split) (place : ℕ) (seat : Seat) (o : Option ℕ) (e : Asked) → option_map (λ (packet : ℕ). record { place = place; name = seat.name; packet = packet; who = hears b split seat.owner }) o ≡ Some e → IsWho b split e
who_packet b split place seat None e is = absurd cc
who_packet b split place seat (Some packet) e is = record { owner = seat.owner; is = ap (λ (x : Asked). x.who) (sym (same_Some (record { place = place; name = seat.name; packet = packet; who = hears b split seat.owner }) e is)) }

who_seat : (b : Bus) (split : Split) (place : ℕ) (o : Option Seat) (e : Asked) → option_and_then (λ (seat : Seat). option_map (λ (packet : ℕ). record { place = place; name = seat.name; packet = packet; who = hears b split seat.owner }) (slice_get b.high place)) o ≡ Some e → IsWho b split e
who_seat b split place None e is = absurd cc
who_seat b split place (Some seat) e is = who_packet b split place seat (slice_get b.high place) e is

pub who_place : (fixed : Fixed) (b : Bus) (split : Split) (o : Option ℕ) (e : Asked) → option_and_then (asked_at fixed b split) o ≡ Some e → IsWho b split e
who_place fixed b split None e is = absurd cc
who_place fixed b split (Some place) e is = who_seat b split place (slice_get fixed.seats place) e is

-- a device is asked by a plain ask alone
pub plain_only : (b : Bus) (split : Split) (owner : Owner) (n : ℕ) → hears b split owner ≡ Answerers.Device n → split ≡ Plain
plain_only b Plain owner n e = refl
plain_only b (Start hub port part) owner n e = absurd (no_translator (position (λ h. h.address == hub) b.hubs) (stuff_of owner) n e)
plain_only b (Complete hub port) owner n e = absurd (no_translator (position (λ h. h.address == hub) b.hubs) (stuff_of owner) n e)

-- ---- another one stays as it is

module _ (stream : ℕ → ℕ → Bool) (w : Wired) (ask : Ask) (out : List ℕ) (addr ep : ℕ) (s : Sender) (h : HasSender w addr ep s) (on : stream addr ep ≡ true) (other : IsStreamAsk stream ask → (addr ≡ ask.addr) × (ep ≡ ask.ep) → ⊥) where
  -- its device was asked about another endpoint
  device_kept : (row : WhoHeard) → ask.split ≡ Plain → sender_of_device addr ep (Some (device_after row ask out h.at.device)) ≡ Some s
  device_kept row plain =
      let e = h.at.at in
      let k = device_changes row h.at.device ask out in
      let not_here : endpoint_asked h.at.device ask ≡ Some e.place → ⊥ = λ is.
      let i = of_in h.at.device ask ep e.place e.endpoint e.is e.here is in
      other (record { plain = plain; token = i.token; on = ap (λ (n : ℕ). stream n ask.ep) (i.address ∙ sym h.at.address) ∙ ap (stream addr) (sym i.number) ∙ on }) (h.at.address ∙ sym i.address, i.number) in
      device_sender (device_after row ask out h.at.device) addr ep e.place e.endpoint (h.at.address ∙ sym (address_after row h.at.device ask out)) (k.names ep Ways.In ∙ e.is) (k.others e.place not_here ∙ e.here)
      ∙ ap sender_of_part e.part.is ∙ ap Some (sym e.part.sender)

  -- it is where it was
  was_here : sender_of_device addr ep (slice_get w.bus.devices h.device_place) ≡ Some s
  was_here = ap (sender_of_device addr ep) h.at.is ∙ device_sender h.at.device addr ep h.at.at.place h.at.at.endpoint h.at.address h.at.at.is h.at.at.here ∙ ap sender_of_part h.at.at.part.is ∙ ap Some (sym h.at.at.part.sender)

  put_kept : (row : WhoHeard) (n : ℕ) (o : Option Device) → slice_get w.bus.devices n ≡ o → ask.split ≡ Plain → sender_of_device addr ep (slice_get (put_at o n (device_after row ask out) w.bus.devices) h.device_place) ≡ Some s
  put_kept row n None there plain = was_here
  put_kept row n (Some x) there plain =
      ⊎_elim (λ (same : h.device_place ≡ n).
      let is : x ≡ h.at.device = same_Some x h.at.device (sym there ∙ ap (slice_get w.bus.devices) (sym same) ∙ h.at.is) in
      ap (λ (i : ℕ). sender_of_device addr ep (slice_get (slice_set w.bus.devices n (device_after row ask out x)) i)) same
      ∙ ap (sender_of_device addr ep) (set_here w.bus.devices n x (device_after row ask out x) there)
      ∙ ap (λ (z : Device). sender_of_device addr ep (Some (device_after row ask out z))) is ∙ device_kept row plain)
      (λ (differs : h.device_place ≢ n). ap (sender_of_device addr ep) (set_beside w.bus.devices n h.device_place (device_after row ask out x) differs) ∙ was_here) (cases_eq h.device_place n)

  who_kept : (row : WhoHeard) (who : Answerer) → ((n : ℕ) → who ≡ Answerers.Device n → ask.split ≡ Plain) → sender_of_device addr ep (slice_get (changed_by row who ask out w.bus).devices h.device_place) ≡ Some s
  who_kept row (Answerers.Device n) plain = put_kept row n (slice_get w.bus.devices n) refl (plain n refl)
  who_kept row _ plain = was_here

  asked_kept : (o : Option Asked) → asked_of w.fixed w.bus ask ≡ o → sender_of_device addr ep (slice_get (after_at w.fixed w.bus ask out o).devices h.device_place) ≡ Some s
  asked_kept None is = was_here
  asked_kept (Some e) is =
      let k = who_place w.fixed w.bus ask.split (place_for w.fixed.seats ask.addr ask.ep (token_kind ask.pid)) e is in
      who_kept (bus_row w.fixed w.bus e ask out) e.who (λ n device. plain_only w.bus ask.split k.owner n (sym k.is ∙ device))

  other_kept : sender_of (record w { bus = transact_after w.fixed w.bus ask out }) addr ep ≡ Some s
  other_kept =
      sender_through w addr ep h.place h.seat h.device_place (transact_after w.fixed w.bus ask out) h.found h.there h.owner ∙ asked_kept (asked_of w.fixed w.bus ask) refl

-- ---- the one that is asked answers

module _ (stream : ℕ → ℕ → Bool) (w : Wired) (ask : Ask) (out : List ℕ) (s : Sender) (h : HasSender w ask.addr ask.ep s) (k : IsStreamAsk stream ask) where
  abbrev asked_here : ℕ → Asked
  asked_here packet = record { place = h.place; name = h.seat.name; packet = packet; who = Answerers.Device h.device_place }

  asked_is : asked_of w.fixed w.bus ask ≡ option_map asked_here (slice_get w.bus.high h.place)
  asked_is =
      ap (λ (pid : Pid). option_and_then (asked_at w.fixed w.bus ask.split) (place_for w.fixed.seats ask.addr ask.ep (token_kind pid))) k.token
      ∙ ap (option_and_then (asked_at w.fixed w.bus ask.split)) h.found
      ∙ ap (option_and_then (λ (seat : Seat). option_map (λ (packet : ℕ). record { place = h.place; name = seat.name; packet = packet; who = hears w.bus ask.split seat.owner }) (slice_get w.bus.high h.place))) h.there
      ∙ ap (λ (split : Split). option_map (λ (packet : ℕ). record { place = h.place; name = h.seat.name; packet = packet; who = hears w.bus split h.seat.owner }) (slice_get w.bus.high h.place)) k.plain
      ∙ ap (λ (owner : Owner). option_map (λ (packet : ℕ). record { place = h.place; name = h.seat.name; packet = packet; who = hears w.bus Plain owner }) (slice_get w.bus.high h.place)) h.owner

  place_here : endpoint_asked h.at.device ask ≡ Some h.at.at.place
  place_here =
      ap (λ (b : Bool). if b then place_in_device (token_of ask.pid) h.at.device.endpoints ask.ep else None) (eq-eqb ask.addr h.at.device.address h.at.address)
      ∙ ap (λ (pid : Pid). place_in_device (token_of pid) h.at.device.endpoints ask.ep) k.token
      ∙ ap (λ (o : Option ℕ). or_else o (place_named h.at.device.endpoints ask.ep Ways.Ctl)) h.at.at.is

  answer_is : device_answer (slice_get w.bus.devices h.device_place) ask out ≡ sending_reply h.at.at.part.sending
  answer_is =
      ap (λ (o : Option Device). device_answer o ask out) h.at.is
      ∙ ap (λ (o : Option ℕ). reply_from h.at.device.speed (endpoint_at h.at.device.endpoints o) ask out) place_here
      ∙ ap (λ (o : Option Endpoint). reply_from h.at.device.speed o ask out) h.at.at.here
      ∙ ap (λ (p : Role). part_reply h.at.device.speed p ask out) h.at.at.part.is

  answered_there : slice_get (answered h.at.device ask out).endpoints h.at.at.place ≡ Some (endpoint_answered h.at.at.endpoint ask out)
  answered_there =
      ap (λ (o : Option ℕ). slice_get (answered_in h.at.device.endpoints o ask out) h.at.at.place) place_here
      ∙ ap (λ (o : Option Endpoint). slice_get (answered_at h.at.device.endpoints h.at.at.place o ask out) h.at.at.place) h.at.at.here
      ∙ set_here h.at.device.endpoints h.at.at.place h.at.at.endpoint (endpoint_answered h.at.at.endpoint ask out) h.at.at.here

  acked_there : slice_get (acked_by (answered h.at.device ask out) ask).endpoints h.at.at.place ≡ Some (endpoint_acked (endpoint_answered h.at.at.endpoint ask out))
  acked_there =
      ap (λ (o : Option ℕ). slice_get (acked_in (answered h.at.device ask out).endpoints o) h.at.at.place) (place_answered h.at.device ask out ∙ place_here)
      ∙ ap (λ (o : Option Endpoint). slice_get (acked_at (answered h.at.device ask out).endpoints h.at.at.place o) h.at.at.place) answered_there
      ∙ set_here (answered h.at.device ask out).endpoints h.at.at.place (endpoint_answered h.at.at.endpoint ask out) (endpoint_acked (endpoint_answered h.at.at.endpoint ask out)) answered_there

  after_there : (row : WhoHeard) → slice_get (device_after row ask out h.at.device).endpoints h.at.at.place ≡ Some (left_by row h.at.at.endpoint (endpoint_answered h.at.at.endpoint ask out) (endpoint_acked (endpoint_answered h.at.at.endpoint ask out)))
  after_there SentUnheard = h.at.at.here
  after_there AckHeard = acked_there
  after_there _ = answered_there

  part_left : (row : WhoHeard) → sender_of_part (left_by row h.at.at.endpoint (endpoint_answered h.at.at.endpoint ask out) (endpoint_acked (endpoint_answered h.at.at.endpoint ask out))).part ≡ sender_by row h.at.at.part.sending
  part_left SentUnheard = ap sender_of_part h.at.at.part.is
  part_left AckHeard = ap (λ (p : Role). sender_of_part (part_acked (part_answered p ask out))) h.at.at.part.is
  part_left _ = ap (λ (p : Role). sender_of_part (part_answered p ask out)) h.at.at.part.is

  device_left : (row : WhoHeard) → sender_of_device ask.addr ask.ep (slice_get (changed_at h.device_place (device_after row ask out) w.bus.devices) h.device_place) ≡ sender_by row h.at.at.part.sending
  device_left row =
      ap (λ (o : Option Device). sender_of_device ask.addr ask.ep (slice_get (put_at o h.device_place (device_after row ask out) w.bus.devices) h.device_place)) h.at.is
      ∙ ap (sender_of_device ask.addr ask.ep) (set_here w.bus.devices h.device_place h.at.device (device_after row ask out h.at.device) h.at.is)
      ∙ device_sender (device_after row ask out h.at.device) ask.addr ask.ep h.at.at.place (left_by row h.at.at.endpoint (endpoint_answered h.at.at.endpoint ask out) (endpoint_acked (endpoint_answered h.at.at.endpoint ask out)))
      (h.at.address ∙ sym (address_after row h.at.device ask out)) ((device_changes row h.at.device ask out).names ask.ep Ways.In ∙ h.at.at.is) (after_there row) ∙ part_left row

  -- the row by what it answers
  answered_by_row : (losses : Losses) (answer : Reply) → answer ≡ sending_reply h.at.at.part.sending → HasAnswered ask s (asker_hears (row_for losses ask answer) answer) (sender_by (row_for losses ask answer) h.at.at.part.sending)
  answered_by_row losses answer is =
      subst (λ (r : Reply). HasAnswered ask s (asker_hears (row_for losses ask r) r) (sender_by (row_for losses ask r) h.at.at.part.sending)) (sym is)
      (subst (λ (z : Sender). HasAnswered ask z (asker_hears (row_for losses ask (sending_reply h.at.at.part.sending)) (sending_reply h.at.at.part.sending)) (sender_by (row_for losses ask (sending_reply h.at.at.part.sending)) h.at.at.part.sending)) (sym h.at.at.part.sender)
      (sending_heard ask h.at.at.part.sending losses.sent losses.answer losses.acknowledgement))

  heard_by : (o : Option ℕ) → slice_get w.bus.high h.place ≡ o → HasAnswered ask s (reply_at w.fixed w.bus ask out (option_map asked_here o)) (sender_of_device ask.addr ask.ep (slice_get (after_at w.fixed w.bus ask out (option_map asked_here o)).devices h.device_place))
  heard_by None is = record {
    sender = s;
    is = ap (sender_of_device ask.addr ask.ep) h.at.is ∙ device_sender h.at.device ask.addr ask.ep h.at.at.place h.at.at.endpoint h.at.address h.at.at.is h.at.at.here ∙ ap sender_of_part h.at.at.part.is ∙ ap Some (sym h.at.at.part.sender);
    answers = nothing_heard Silent refl;
  }
  heard_by (Some packet) is =
      let losses : Losses = losses_of w.fixed.fates false (asked_here packet) (packets_before ask) in
      let answer : Reply = device_answer (slice_get w.bus.devices h.device_place) ask out in
      subst (HasAnswered ask s (asker_hears (row_for losses ask answer) answer)) (sym (device_left (row_for losses ask answer))) (answered_by_row losses answer answer_is)

  asked_answers : HasAnswered ask s (reply_of w.fixed w.bus ask out) (sender_of (record w { bus = transact_after w.fixed w.bus ask out }) ask.addr ask.ep)
  asked_answers =
      subst (HasAnswered ask s (reply_of w.fixed w.bus ask out)) (sym (sender_through w ask.addr ask.ep h.place h.seat h.device_place (transact_after w.fixed w.bus ask out) h.found h.there h.owner))
      (subst (λ (o : Option Asked). HasAnswered ask s (reply_at w.fixed w.bus ask out o) (sender_of_device ask.addr ask.ep (slice_get (after_at w.fixed w.bus ask out o).devices h.device_place))) (sym asked_is)
      (heard_by (slice_get w.bus.high h.place) refl))

-- ---- the law

pub a_scripted_bus_sends_its_streams : (stream : ℕ → ℕ → Bool) → IsBus (λ (w : Wired) (ask : Ask) (out : List ℕ) (reply : Reply) (v : Wired). (reply ≡ reply_of w.fixed w.bus ask out) × (v ≡ record w { bus = transact_after w.fixed w.bus ask out })) stream sender_of
a_scripted_bus_sends_its_streams stream = record {
  asked = λ w ask out reply v s made k sent.
      subst (λ (x : Wired). HasAnswered ask s reply (sender_of x ask.addr ask.ep)) (sym made.1)
      (subst (λ (r : Reply). HasAnswered ask s r (sender_of (record w { bus = transact_after w.fixed w.bus ask out }) ask.addr ask.ep)) (sym made.0) (asked_answers stream w ask out s (sender_found w ask.addr ask.ep s sent) k));
  others = λ w ask out reply v addr ep s made on sent other.
      ap (λ (x : Wired). sender_of x addr ep) made.1 ∙ other_kept stream w ask out addr ep s (sender_found w addr ep s sent) on other;
}
