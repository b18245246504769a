-- A transaction of the bus: the control endpoint that is asked answers by its stage, and every other one stays as it is.
use Rattle.std.proofs.Common.{◌≡◌, ◌≢◌, ℕ, ◌==◌, true, false, List, slice_get, slice_set, Option, Some, None, ap, refl, sym, subst, ◌∙◌, ⊎_elim, position}
use Rattle.std.specs.Option.{option_and_then, option_map}
use Rattle.std.proofs.lemmas.Bool.{cases_eq}
use Rattle.std.proofs.lemmas.Option.{same_Some}
use Rattle.law_devices.proofs.Common.{no_translator}
use Rattle.usb_base.specs.declared.packets.Ask.{Ask}
use Rattle.usb_base.specs.declared.packets.Pid.{Pid}
use Rattle.usb_base.specs.declared.packets.Pid.TheVariants as Pids
use Rattle.usb_base.specs.declared.packets.Reply.{Reply}
use Rattle.usb_base.specs.declared.packets.Split.{Split}
use Rattle.usb_base.specs.declared.packets.Split.TheVariants.{Plain, Start, Complete}
use Rattle.usb_base.specs.declared.packets.Way.TheVariants as Ways
use Rattle.dev_control.specs.declared.rows.StageToken.TheVariants as Tokens
use Rattle.dev_control.specs.Stages.{Stages, token_of}
use Rattle.endpoint_script.specs.declared.endpoint.Endpoint.{Endpoint}
use Rattle.endpoint_script.specs.declared.endpoint.Role.{Role}
use Rattle.endpoint_script.specs.Controlling.{Controlling, controlling_reply, controlling_answered, controlling_acked}
use Rattle.endpoint_script.specs.Device.{Device, place_named, endpoint_asked, endpoint_at, reply_from, part_reply, part_answered, part_acked, endpoint_answered, endpoint_acked, answered_at, answered_in, answered, acked_at, acked_in, acked_by}
use Rattle.bus_wire.specs.declared.asked.Answerer.{Answerer}
use Rattle.bus_wire.specs.declared.asked.Answerer.TheVariants as Answerers
use Rattle.bus_wire.specs.declared.asked.Asked.{Asked}
use Rattle.bus_wire.specs.declared.asked.Losses.{Losses}
use Rattle.bus_wire.specs.declared.seats.Owner.{Owner}
use Rattle.bus_wire.specs.declared.seats.Seat.{Seat}
use Rattle.bus_wire.specs.declared.seats.TokenKind.TheVariants.{In, Out, Setup}
use Rattle.bus_wire.specs.declared.who_heard.WhoHeard.{WhoHeard}
use Rattle.bus_wire.specs.declared.who_heard.WhoHeard.TheVariants.{SentUnheard, AckHeard}
use Rattle.bus_wire.specs.WhoHeard.{asker_hears, left_by, packets_before}
use Rattle.bus_wire.specs.Seats.{token_kind, place_for}
use Rattle.bus_wire.specs.Asking.{losses_of, row_for, device_after, device_answer, put_at, changed_at}
use Rattle.bus_wire.specs.Bus.{Bus, Wired, Fixed, stuff_of, hears, asked_at, asked_of, bus_row, changed_by, reply_at, reply_of, after_at, transact_after}
use Rattle.law_request.specs.Host.{Endpoint as Own}
use Rattle.law_request.specs.Line.{answer_of, answered as own_answered, device_after as own_after}
use Rattle.law_request.proofs.Scripts.{same_answer, same_left, same_acked}
use Rattle.law_request.specs.Scripted.{scripted}
use Rattle.claims_report.specs.ControlSides.{Device as Side}
use Rattle.law_devices.specs.request_calls.Bus.{device_of, IsAnswered, IsAskFor, IsControlBus}
use Rattle.law_devices.proofs.Places.{set_here, set_beside}
use Rattle.law_devices.proofs.Devices.{device_changes, address_after, place_answered}
use Rattle.claims_report.specs.Controls.{side_in, control_of_part, control_of_device}
use Rattle.law_devices.specs.Controls.{control_of}
use Rattle.law_devices.specs.scripted_requests.Controls.{transacts_by}
use Rattle.law_devices.proofs.lemmas.scripted_requests.Finding.{HasControl, control_found, control_through, device_control, of_control, place_by}

-- ---- who is asked

record IsWho (b : Bus) (split : Split) (e : Asked) : Type 0 where
  owner : Owner
  is : e.who ≡ hears b split owner

who_packet : (b : Bus) (split : Split) (place : ℕ) (seat : Seat) (o : Option ℕ) (e : Asked) → option_map (λ (packet : ℕ). record { place = place; name = seat.name; packet = packet; who = hears b split seat.owner }) o ≡ Some e → IsWho b split e
who_packet b split place seat None e is = absurd cc
who_packet b split place seat (Some packet) e is = record { owner = seat.owner; is = ap (λ (x : Asked). x.who) (sym (same_Some (record { place = place; name = seat.name; packet = packet; who = hears b split seat.owner }) e is)) }

who_seat : (b : Bus) (split : Split) (place : ℕ) (o : Option Seat) (e : Asked) → option_and_then (λ (seat : Seat). option_map (λ (packet : ℕ). record { place = place; name = seat.name; packet = packet; who = hears b split seat.owner }) (slice_get b.high place)) o ≡ Some e → IsWho b split e
who_seat b split place None e is = absurd cc
who_seat b split place (Some seat) e is = who_packet b split place seat (slice_get b.high place) e is

who_place : (fixed : Fixed) (b : Bus) (split : Split) (o : Option ℕ) (e : Asked) → option_and_then (asked_at fixed b split) o ≡ Some e → IsWho b split e
who_place fixed b split None e is = absurd cc
who_place fixed b split (Some place) e is = who_seat b split place (slice_get fixed.seats place) e is

-- a device is asked by a plain ask alone
plain_only : (b : Bus) (split : Split) (owner : Owner) (n : ℕ) → hears b split owner ≡ Answerers.Device n → split ≡ Plain
plain_only b Plain owner n e = refl
plain_only b (Start hub port part) owner n e = absurd (no_translator (position (λ h. h.address == hub) b.hubs) (stuff_of owner) n e)
plain_only b (Complete hub port) owner n e = absurd (no_translator (position (λ h. h.address == hub) b.hubs) (stuff_of owner) n e)

-- ---- another one stays as it is

module _ (w : Wired) (ask : Ask) (out : List ℕ) (addr num : ℕ) (s : Side) (h : HasControl w addr num s) (other : IsAskFor addr num ask → ⊥) where
  -- its device was asked about another endpoint
  device_kept : (row : WhoHeard) → ask.split ≡ Plain → control_of_device addr num (Some (device_after row ask out h.at.device)) ≡ Some s
  device_kept row plain =
      let e = h.at.at in
      let k = device_changes row h.at.device ask out in
      let not_here : endpoint_asked h.at.device ask ≡ Some e.place → ⊥ = λ is.
      let i = of_control h.at.device ask num e.place e.endpoint e.is e.here is in
      other (record { plain = plain; token = i.token; address = h.at.address ∙ sym i.address; number = i.number }) in
      device_control (device_after row ask out h.at.device) addr num e.place e.endpoint (h.at.address ∙ sym (address_after row h.at.device ask out)) (k.names num Ways.In ∙ h.at.no_in) (k.names num Ways.Out ∙ h.at.no_out) (k.names num Ways.Ctl ∙ e.is) (k.others e.place not_here ∙ e.here)
      ∙ ap control_of_part e.part.is ∙ ap Some (sym e.part.side)

  -- it is where it was
  was_here : control_of_device addr num (slice_get w.bus.devices h.device_place) ≡ Some s
  was_here = ap (control_of_device addr num) h.at.is ∙ device_control h.at.device addr num h.at.at.place h.at.at.endpoint h.at.address h.at.no_in h.at.no_out h.at.at.is h.at.at.here ∙ ap control_of_part h.at.at.part.is ∙ ap Some (sym h.at.at.part.side)

  put_kept : (row : WhoHeard) (n : ℕ) (o : Option Device) → slice_get w.bus.devices n ≡ o → ask.split ≡ Plain → control_of_device addr num (slice_get (put_at o n (device_after row ask out) w.bus.devices) h.device_place) ≡ Some s
  put_kept row n None there plain = was_here
  put_kept row n (Some x) there plain =
      ⊎_elim (λ (same : h.device_place ≡ n).
      let is : x ≡ h.at.device = same_Some x h.at.device (sym there ∙ ap (slice_get w.bus.devices) (sym same) ∙ h.at.is) in
      ap (λ (i : ℕ). control_of_device addr num (slice_get (slice_set w.bus.devices n (device_after row ask out x)) i)) same
      ∙ ap (control_of_device addr num) (set_here w.bus.devices n x (device_after row ask out x) there)
      ∙ ap (λ (z : Device). control_of_device addr num (Some (device_after row ask out z))) is ∙ device_kept row plain)
      (λ (differs : h.device_place ≢ n). ap (control_of_device addr num) (set_beside w.bus.devices n h.device_place (device_after row ask out x) differs) ∙ was_here) (cases_eq h.device_place n)

  who_kept : (row : WhoHeard) (who : Answerer) → ((n : ℕ) → who ≡ Answerers.Device n → ask.split ≡ Plain) → control_of_device addr num (slice_get (changed_by row who ask out w.bus).devices h.device_place) ≡ Some s
  who_kept row (Answerers.Device n) plain = put_kept row n (slice_get w.bus.devices n) refl (plain n refl)
  who_kept row _ plain = was_here

  asked_kept : (o : Option Asked) → asked_of w.fixed w.bus ask ≡ o → control_of_device addr num (slice_get (after_at w.fixed w.bus ask out o).devices h.device_place) ≡ Some s
  asked_kept None is = was_here
  asked_kept (Some e) is =
      let k = who_place w.fixed w.bus ask.split (place_for w.fixed.seats ask.addr ask.ep (token_kind ask.pid)) e is in
      who_kept (bus_row w.fixed w.bus e ask out) e.who (λ n device. plain_only w.bus ask.split k.owner n (sym k.is ∙ device))

  other_kept : control_of (record w { bus = transact_after w.fixed w.bus ask out }) addr num ≡ Some s
  other_kept = control_through w addr num s h (transact_after w.fixed w.bus ask out) ∙ asked_kept (asked_of w.fixed w.bus ask) refl

-- ---- the one that is asked answers

pub place_kind : (w : Wired) (addr num : ℕ) (place : ℕ) (pid : Pid) → token_of pid ≢ Tokens.Other → place_for w.fixed.seats addr num Setup ≡ Some place → place_for w.fixed.seats addr num In ≡ Some place → place_for w.fixed.seats addr num Out ≡ Some place → place_for w.fixed.seats addr num (token_kind pid) ≡ Some place
place_kind w addr num place Pids.Setup known setup in_place out_place = setup
place_kind w addr num place Pids.In known setup in_place out_place = in_place
place_kind w addr num place Pids.Out known setup in_place out_place = out_place
place_kind w addr num place Pids.Ping known setup in_place out_place = out_place
place_kind w addr num place _ known setup in_place out_place = absurd (known refl)

-- what a transaction leaves of a scripted control endpoint
abbrev control_by : WhoHeard → Controlling → Ask → List ℕ → Controlling
control_by row c ask out = left_by row c (controlling_answered c ask out) (controlling_acked (controlling_answered c ask out))

side_after : (row : WhoHeard) (c : Controlling) (ask : Ask) (out : List ℕ) → side_in (control_by row c ask out) ≡ device_of (scripted 0 0 0 c.requests) (own_after (scripted 0 0 0 c.requests) row ask out c.stages)
side_after SentUnheard c ask out = refl
side_after AckHeard c ask out =
    ap (λ (d : Controlling). side_in (controlling_acked d)) (same_left 0 0 0 c ask out)
    ∙ ap side_in (same_acked 0 0 0 (record c { stages = own_answered (scripted 0 0 0 c.requests) ask out c.stages }))
side_after _ c ask out = ap side_in (same_left 0 0 0 c ask out)

-- answers and stages depend on the replies alone
own_same : (e : Own) (c : Controlling) → device_of e c.stages ≡ side_in c → e.known ≡ (scripted 0 0 0 c.requests).known
own_same e c is = ap (λ (x : Side). x.known) is

module _ (w : Wired) (ask : Ask) (out : List ℕ) (e : Own) (c : Stages) (h : HasControl w e.addr e.num (device_of e c)) (k : IsAskFor e.addr e.num ask) where
  abbrev asked_here : ℕ → Asked
  asked_here packet = record { place = h.place; name = h.seat.name; packet = packet; who = Answerers.Device h.device_place }

  abbrev inside : Controlling
  inside = h.at.at.part.control

  place_is : place_for w.fixed.seats ask.addr ask.ep (token_kind ask.pid) ≡ Some h.place
  place_is =
      ap (λ (a : ℕ). place_for w.fixed.seats a ask.ep (token_kind ask.pid)) (sym k.address) ∙ ap (λ (n : ℕ). place_for w.fixed.seats e.addr n (token_kind ask.pid)) (sym k.number)
      ∙ place_kind w e.addr e.num h.place ask.pid k.token h.found h.found_in h.found_out

  asked_is : asked_of w.fixed w.bus ask ≡ option_map asked_here (slice_get w.bus.high h.place)
  asked_is =
      ap (option_and_then (asked_at w.fixed w.bus ask.split)) place_is
      ∙ ap (option_and_then (λ (seat : Seat). option_map (λ (packet : ℕ). record { place = h.place; name = seat.name; packet = packet; who = hears w.bus ask.split seat.owner }) (slice_get w.bus.high h.place))) h.there
      ∙ ap (λ (split : Split). option_map (λ (packet : ℕ). record { place = h.place; name = h.seat.name; packet = packet; who = hears w.bus split h.seat.owner }) (slice_get w.bus.high h.place)) k.plain
      ∙ ap (λ (owner : Owner). option_map (λ (packet : ℕ). record { place = h.place; name = h.seat.name; packet = packet; who = hears w.bus Plain owner }) (slice_get w.bus.high h.place)) h.owner

  place_here : endpoint_asked h.at.device ask ≡ Some h.at.at.place
  place_here =
      place_by h.at.device ask h.at.at.place (sym k.address ∙ h.at.address) k.token (ap (λ (n : ℕ). place_named h.at.device.endpoints n Ways.In) (sym k.number) ∙ h.at.no_in)
      (ap (λ (n : ℕ). place_named h.at.device.endpoints n Ways.Out) (sym k.number) ∙ h.at.no_out) (ap (λ (n : ℕ). place_named h.at.device.endpoints n Ways.Ctl) (sym k.number) ∙ h.at.at.is)

  answer_is : device_answer (slice_get w.bus.devices h.device_place) ask out ≡ controlling_reply inside ask out
  answer_is =
      ap (λ (o : Option Device). device_answer o ask out) h.at.is
      ∙ ap (λ (o : Option ℕ). reply_from h.at.device.speed (endpoint_at h.at.device.endpoints o) ask out) place_here
      ∙ ap (λ (o : Option Endpoint). reply_from h.at.device.speed o ask out) h.at.at.here
      ∙ ap (λ (p : Role). part_reply h.at.device.speed p ask out) h.at.at.part.is

  answered_there : slice_get (answered h.at.device ask out).endpoints h.at.at.place ≡ Some (endpoint_answered h.at.at.endpoint ask out)
  answered_there =
      ap (λ (o : Option ℕ). slice_get (answered_in h.at.device.endpoints o ask out) h.at.at.place) place_here
      ∙ ap (λ (o : Option Endpoint). slice_get (answered_at h.at.device.endpoints h.at.at.place o ask out) h.at.at.place) h.at.at.here
      ∙ set_here h.at.device.endpoints h.at.at.place h.at.at.endpoint (endpoint_answered h.at.at.endpoint ask out) h.at.at.here

  acked_there : slice_get (acked_by (answered h.at.device ask out) ask).endpoints h.at.at.place ≡ Some (endpoint_acked (endpoint_answered h.at.at.endpoint ask out))
  acked_there =
      ap (λ (o : Option ℕ). slice_get (acked_in (answered h.at.device ask out).endpoints o) h.at.at.place) (place_answered h.at.device ask out ∙ place_here)
      ∙ ap (λ (o : Option Endpoint). slice_get (acked_at (answered h.at.device ask out).endpoints h.at.at.place o) h.at.at.place) answered_there
      ∙ set_here (answered h.at.device ask out).endpoints h.at.at.place (endpoint_answered h.at.at.endpoint ask out) (endpoint_acked (endpoint_answered h.at.at.endpoint ask out)) answered_there

  after_there : (row : WhoHeard) → slice_get (device_after row ask out h.at.device).endpoints h.at.at.place ≡ Some (left_by row h.at.at.endpoint (endpoint_answered h.at.at.endpoint ask out) (endpoint_acked (endpoint_answered h.at.at.endpoint ask out)))
  after_there SentUnheard = h.at.at.here
  after_there AckHeard = acked_there
  after_there _ = answered_there

  part_left : (row : WhoHeard) → control_of_part (left_by row h.at.at.endpoint (endpoint_answered h.at.at.endpoint ask out) (endpoint_acked (endpoint_answered h.at.at.endpoint ask out))).part ≡ Some (side_in (control_by row inside ask out))
  part_left SentUnheard = ap control_of_part h.at.at.part.is
  part_left AckHeard = ap (λ (p : Role). control_of_part (part_acked (part_answered p ask out))) h.at.at.part.is
  part_left _ = ap (λ (p : Role). control_of_part (part_answered p ask out)) h.at.at.part.is

  device_left : (row : WhoHeard) → control_of_device e.addr e.num (slice_get (changed_at h.device_place (device_after row ask out) w.bus.devices) h.device_place) ≡ Some (side_in (control_by row inside ask out))
  device_left row =
      let n = device_changes row h.at.device ask out in
      ap (λ (o : Option Device). control_of_device e.addr e.num (slice_get (put_at o h.device_place (device_after row ask out) w.bus.devices) h.device_place)) h.at.is
      ∙ ap (control_of_device e.addr e.num) (set_here w.bus.devices h.device_place h.at.device (device_after row ask out h.at.device) h.at.is)
      ∙ device_control (device_after row ask out h.at.device) e.addr e.num h.at.at.place (left_by row h.at.at.endpoint (endpoint_answered h.at.at.endpoint ask out) (endpoint_acked (endpoint_answered h.at.at.endpoint ask out)))
      (h.at.address ∙ sym (address_after row h.at.device ask out)) (n.names e.num Ways.In ∙ h.at.no_in) (n.names e.num Ways.Out ∙ h.at.no_out) (n.names e.num Ways.Ctl ∙ h.at.at.is) (after_there row) ∙ part_left row

  known_is : e.known ≡ (scripted 0 0 0 inside.requests).known
  known_is = ap (λ (x : Side). x.known) h.at.at.part.side

  stages_are : c ≡ inside.stages
  stages_are = ap (λ (x : Side). x.stages) h.at.at.part.side

  -- the same with other replies that are equal
  abbrev with_known : (List ℕ → Option (List ℕ)) → Own
  with_known known = record { addr = e.addr; num = e.num; max = e.max; known = known }

  answered_by_row : (losses : Losses) (answer : Reply) → answer ≡ controlling_reply inside ask out → IsAnswered e ask out c (asker_hears (row_for losses ask answer) answer) (Some (side_in (control_by (row_for losses ask answer) inside ask out)))
  answered_by_row losses answer is =
      subst (λ (known : List ℕ → Option (List ℕ)). IsAnswered (with_known known) ask out c (asker_hears (row_for losses ask answer) answer) (Some (side_in (control_by (row_for losses ask answer) inside ask out)))) (sym known_is)
      (subst (λ (z : Stages). IsAnswered (with_known (scripted 0 0 0 inside.requests).known) ask out z (asker_hears (row_for losses ask answer) answer) (Some (side_in (control_by (row_for losses ask answer) inside ask out)))) (sym stages_are)
      (record {
        losses = losses;
        heard = ap (λ (r : Reply). asker_hears (row_for losses ask r) r) (is ∙ same_answer 0 0 0 inside ask out);
        left = ap (λ (r : Reply). Some (side_in (control_by (row_for losses ask r) inside ask out))) (is ∙ same_answer 0 0 0 inside ask out)
            ∙ ap Some (side_after (row_for losses ask (answer_of (scripted 0 0 0 inside.requests) ask out inside.stages)) inside ask out);
      }))

  heard_by : (o : Option ℕ) → slice_get w.bus.high h.place ≡ o → IsAnswered e ask out c (reply_at w.fixed w.bus ask out (option_map asked_here o)) (control_of_device e.addr e.num (slice_get (after_at w.fixed w.bus ask out (option_map asked_here o)).devices h.device_place))
  heard_by None is = record {
    losses = record { sent = true; answer = true; acknowledgement = true };
    heard = refl;
    left = ap (control_of_device e.addr e.num) h.at.is ∙ device_control h.at.device e.addr e.num h.at.at.place h.at.at.endpoint h.at.address h.at.no_in h.at.no_out h.at.at.is h.at.at.here ∙ ap control_of_part h.at.at.part.is ∙ ap Some (sym h.at.at.part.side);
  }
  heard_by (Some packet) is =
      let losses : Losses = losses_of w.fixed.fates false (asked_here packet) (packets_before ask) in
      let answer : Reply = device_answer (slice_get w.bus.devices h.device_place) ask out in
      subst (IsAnswered e ask out c (asker_hears (row_for losses ask answer) answer)) (sym (device_left (row_for losses ask answer))) (answered_by_row losses answer answer_is)

  asked_answers : IsAnswered e ask out c (reply_of w.fixed w.bus ask out) (control_of (record w { bus = transact_after w.fixed w.bus ask out }) e.addr e.num)
  asked_answers =
      subst (IsAnswered e ask out c (reply_of w.fixed w.bus ask out)) (sym (control_through w e.addr e.num (device_of e c) h (transact_after w.fixed w.bus ask out)))
      (subst (λ (o : Option Asked). IsAnswered e ask out c (reply_at w.fixed w.bus ask out o) (control_of_device e.addr e.num (slice_get (after_at w.fixed w.bus ask out o).devices h.device_place))) (sym asked_is)
      (heard_by (slice_get w.bus.high h.place) refl))

-- ---- the law

pub a_scripted_bus_answers_by_stages : IsControlBus transacts_by control_of
a_scripted_bus_answers_by_stages = record {
  asked = λ w ask out reply v e c made k here.
      subst (λ (x : Wired). IsAnswered e ask out c reply (control_of x e.addr e.num)) (sym made.1)
      (subst (λ (r : Reply). IsAnswered e ask out c r (control_of (record w { bus = transact_after w.fixed w.bus ask out }) e.addr e.num)) (sym made.0) (asked_answers w ask out e c (control_found w e.addr e.num (device_of e c) here) k));
  others = λ w ask out reply v addr num d made here other.
      ap (λ (x : Wired). control_of x addr num) made.1 ∙ other_kept w ask out addr num d (control_found w addr num d here) other;
}
