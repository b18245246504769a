-- Where no packet on the high-speed bus is lost, the endpoint that is asked is heard, and answers as its kind may.
use Rattle.std.proofs.Common.{◌≡◌, ℕ, zero, suc, ◌+◌, ◌-◌, ◌==◌, cond, Bool, true, false, not, ◌&&◌, ◌||◌, if◌then◌else◌, List, [], ◌∷◌, map, filter}
use Rattle.std.proofs.Common.{length, slice_get, Option, Some, None, ap, refl, sym, subst, ◌∙◌, arith, inl, inr}
use Rattle.std.specs.Prelude.{is_some}
use Rattle.std.specs.List.{AllByRecursion, list_any}
use Rattle.std.specs.Option.{option_and_then, option_map}
use Rattle.std.proofs.lemmas.Bool.{and_parts, cases_Bool, eqb-true, eq-eqb}
use Rattle.usb_base.specs.Acknowledgement.{acknowledges}
use Rattle.usb_base.specs.declared.endpoints.EpName.{EpName}
use Rattle.usb_base.specs.declared.packets.Ask.{Ask}
use Rattle.usb_base.specs.declared.packets.EpKind.{EpKind}
use Rattle.usb_base.specs.declared.packets.Fate.{Fate}
use Rattle.usb_base.specs.declared.packets.Fate.TheVariants as fates
use Rattle.usb_base.specs.declared.packets.Pid.{Pid}
use Rattle.usb_base.specs.declared.packets.Pid.TheVariants as pids
use Rattle.usb_base.specs.declared.packets.Reply.{Reply}
use Rattle.usb_base.specs.declared.packets.Reply.TheVariants as replies
use Rattle.usb_base.specs.declared.packets.Split.{Split}
use Rattle.usb_base.specs.declared.packets.Split.TheVariants.{Plain}
use Rattle.usb_base.specs.declared.packets.Way.TheVariants as ways
use Rattle.script_types.specs.declared.devices.HubText.{HubText}
use Rattle.script_types.specs.declared.scripts.FateText.{FateText}
use Rattle.script_types.specs.declared.scripts.Script.{Script}
use Rattle.dev_control.specs.declared.rows.StageToken.TheVariants as tokens
use Rattle.dev_control.specs.Stages.{token_of}
use Rattle.endpoint_script.specs.declared.endpoint.Endpoint.{Endpoint}
use Rattle.endpoint_script.specs.declared.endpoint.Role.{Role}
use Rattle.endpoint_script.specs.Controlling.{controlling_reply}
use Rattle.endpoint_script.specs.Device.{Device, place_named, or_else, place_for as place_in_device, endpoint_asked, endpoint_at, reply_from}
use Rattle.endpoint_script.specs.Device.{part_reply}
use Rattle.endpoint_script.specs.Sending.{sending_reply}
use Rattle.endpoint_script.specs.Taking.{taking_reply}
use Rattle.hub_class.specs.HubContent.{HubContent}
use Rattle.hub_class.specs.EndpointZero.{hub_reply}
use Rattle.bus_wire.specs.declared.asked.Asked.{Asked}
use Rattle.bus_wire.specs.declared.seats.Owner.{Owner}
use Rattle.bus_wire.specs.declared.seats.Owner.TheVariants as owners
use Rattle.bus_wire.specs.declared.seats.Seat.{Seat}
use Rattle.bus_wire.specs.declared.seats.TokenKind.TheVariants as kinds
use Rattle.bus_wire.specs.Asking.{device_answer, hub_answer}
use Rattle.bus_wire.specs.Bus.{Bus, Wired, fixed_of, hears, hears_plain, asked_at, asked_of, answer_by, reply_at, reply_of}
use Rattle.bus_wire.specs.Fates.{is_against, is_bad, is_same_name, is_unheard}
use Rattle.bus_wire.specs.Seats.{hub_seat, token_kind, suits, place_for, hub_seats_from, device_seats, seats_of}
use Rattle.bus_wire.specs.WhoHeard.{who_heard, asker_hears, is_answer, later, packets_before}
use Rattle.claims_answers.specs.Hearing.{gets_through}
use Rattle.claims_report.specs.Controls.{is_of_hub}
use Rattle.law_devices.specs.Controls.{control_of}
use Rattle.claims_world.specs.Quiet.{GetsThroughAbove, IsHeardAbove}
use Rattle.law_ring.specs.Bus.{Sender}
use Rattle.law_ring.specs.OutBus.{Taker}
use Rattle.law_devices.specs.Senders.{sender_of}
use Rattle.law_devices.specs.scripted_takers.Takers.{taker_of}
use Rattle.law_devices.proofs.Asking.{HasSender, sender_found}
use Rattle.law_devices.proofs.Lists.{Holds, all_find, any_found, find_append, found_first, found_passes}
use Rattle.law_devices.proofs.lemmas.scripted_requests.Asking.{place_kind}
use Rattle.law_devices.proofs.lemmas.scripted_requests.Finding.{HasControl, control_found, place_by}
use Rattle.law_devices.proofs.lemmas.scripted_takers.Asking.{HasTaker, taker_found}
use Rattle.law_microframes.specs.due.repeats.Hearing.{HasNumber}
use Rattle.law_reports.specs.quiet.Heard.{IsHeardBus}
use Rattle.law_reports.specs.quiet.Replies.{tells}
use Rattle.law_reports.proofs.lemmas.quiet.Answers.{sends_tell, MayWait, IsOutToken, by_out, by_ping, takes_tell, IsToken, of_setup, of_in}
use Rattle.law_reports.proofs.lemmas.quiet.Answers.{of_out, of_ping, controls_tell, hub_tells}
use Rattle.law_reports.proofs.lemmas.quiet.BusEvents.{there_is}

-- ---- no packet is lost

good_passes : (f : Fate) → gets_through f ≡ true → is_bad f ≡ false
good_passes fates.Good is = refl
good_passes fates.Lost is = absurd (cc)
good_passes fates.Damaged is = absurd (cc)

not_against : (name : EpName) (f : FateText) → GetsThroughAbove f → is_against name false f ≡ false
not_against name f through = by f.down refl
  where
    by : (b : Bool) → f.down ≡ b → (not f.down && (is_bad f.fate && is_same_name f.name name)) ≡ false
    by true is = ap (λ (b : Bool). not b && (is_bad f.fate && is_same_name f.name name)) is
    by false is =
        ap (λ (b : Bool). not b && (is_bad f.fate && is_same_name f.name name)) is
        ∙ ap (λ (b : Bool). b && is_same_name f.name name) (good_passes f.fate (through is))

pub none_against : (name : EpName) (k : ℕ) (fs : List FateText) → AllByRecursion GetsThroughAbove fs
    → list_any (λ n. n == k) (map (λ (f : FateText). f.k) (filter (is_against name false) fs)) ≡ false
none_against name k [] all = refl
none_against name k (f ∷ fs) all =
    ap (λ (b : Bool). list_any (λ n. n == k) (map (λ (g : FateText). g.k)
    (cond b (f ∷ filter (is_against name false) fs) (filter (is_against name false) fs)))) (not_against name f all.0)
    ∙ none_against name k fs all.1

-- where nothing is lost the answer is heard, or there is none
pub heard_whole : (answer : Reply) (acked lost : Bool) → asker_hears (who_heard false (is_answer answer) false acked lost) answer ≡ answer
heard_whole replies.Silent acked lost = refl
heard_whole (replies.Bytes pid bytes) false lost = refl
heard_whole (replies.Bytes pid bytes) true true = refl
heard_whole (replies.Bytes pid bytes) true false = refl
heard_whole (replies.Hand pid) false lost = refl
heard_whole (replies.Hand pid) true true = refl
heard_whole (replies.Hand pid) true false = refl

-- ---- the endpoint that is asked

module _ (s : Script) (above : IsHeardAbove s) (b : Bus) (k : IsHeardBus s b) where
  abbrev w : Wired
  w = record { fixed = fixed_of s; bus = b }

  module _ (ask : Ask) (out : List ℕ) (plain : ask.split ≡ Plain) (place : ℕ) (seat : Seat)
      (found : place_for (seats_of s) ask.addr ask.ep (token_kind ask.pid) ≡ Some place) (there : slice_get (seats_of s) place ≡ Some seat)
    where
      number : HasNumber b place
      number = k.numbers place seat there

      its : Asked
      its = record { place = place; name = seat.name; packet = number.number; who = hears_plain seat.owner }

      asked_is : asked_of (fixed_of s) b ask ≡ Some its
      unfolding its
      asked_is =
          ap (option_and_then (asked_at (fixed_of s) b ask.split)) found
          ∙ ap (option_and_then (λ (x : Seat). option_map
          (λ (n : ℕ). record { place = place; name = x.name; packet = n; who = hears b ask.split x.owner }) (slice_get b.high place))) there
          ∙ ap (λ (split : Split). option_map
          (λ (n : ℕ). record { place = place; name = seat.name; packet = n; who = hears b split seat.owner }) (slice_get b.high place))
          plain
          ∙ ap (option_map (λ (n : ℕ). record { place = place; name = seat.name; packet = n; who = hears_plain seat.owner })) number.is

      good : (i : ℕ) → is_unheard s.fates seat.name false (later number.number i) ≡ false
      good i = none_against seat.name (later number.number i) s.fates above.packets

      abbrev answer : Reply
      answer = answer_by b (hears_plain seat.owner) ask out

      abbrev lost : ℕ → Bool
      lost i = is_unheard s.fates seat.name false (later number.number i)

      abbrev heard_with : Bool → Bool → Bool → Reply
      heard_with first second third =
          asker_hears (who_heard (first || second) (is_answer answer) third (acknowledges ask answer) (lost (packets_before ask + 1)))
          answer

      pub reply_is : reply_of (fixed_of s) b ask out ≡ answer
      unfolding its
      reply_is =
          ap (reply_at (fixed_of s) b ask out) asked_is
          ∙ ap (λ (x : Bool). heard_with x (lost (packets_before ask - 1)) (lost (packets_before ask))) (good 0)
          ∙ ap (λ (x : Bool). heard_with false x (lost (packets_before ask))) (good (packets_before ask - 1))
          ∙ ap (heard_with false false) (good (packets_before ask))
          ∙ heard_whole answer (acknowledges ask answer) (lost (packets_before ask + 1))

  -- ---- an IN endpoint

  module _ (kind : EpKind) (ask : Ask) (out : List ℕ) (plain : ask.split ≡ Plain) where
    module _ (token : ask.pid ≡ pids.In) (u : Sender) (h : HasSender w ask.addr ask.ep u) where
      sender_place : endpoint_asked h.at.device ask ≡ Some h.at.at.place
      sender_place =
          ap (λ (c : Bool). if c then place_in_device (token_of ask.pid) h.at.device.endpoints ask.ep else None)
          (eq-eqb ask.addr h.at.device.address h.at.address)
          ∙ ap (λ (pid : Pid). place_in_device (token_of pid) h.at.device.endpoints ask.ep) token
          ∙ ap (λ (o : Option ℕ). or_else o (place_named h.at.device.endpoints ask.ep ways.Ctl)) h.at.at.is

      sender_answers : answer_by b (hears_plain h.seat.owner) ask out ≡ sending_reply h.at.at.part.sending
      sender_answers =
          ap (λ (o : Owner). answer_by b (hears_plain o) ask out) h.owner
          ∙ ap (λ (o : Option Device). device_answer o ask out) h.at.is
          ∙ ap (λ (o : Option ℕ). reply_from h.at.device.speed (endpoint_at h.at.device.endpoints o) ask out) sender_place
          ∙ ap (λ (o : Option Endpoint). reply_from h.at.device.speed o ask out) h.at.at.here
          ∙ ap (λ (p : Role). part_reply h.at.device.speed p ask out) h.at.at.part.is

      sender_told : tells kind ask.pid (reply_of (fixed_of s) b ask out) ≡ true
      sender_told =
          ap (tells kind ask.pid)
          (reply_is ask out plain h.place h.seat
          (ap (λ (pid : Pid). place_for (seats_of s) ask.addr ask.ep (token_kind pid)) token ∙ h.found) h.there
          ∙ sender_answers)
          ∙ ap (λ (pid : Pid). tells kind pid (sending_reply h.at.at.part.sending)) token ∙ sends_tell kind h.at.at.part.sending

    pub in_tells : ask.pid ≡ pids.In → (u : Sender) → sender_of w ask.addr ask.ep ≡ Some u
        → tells kind ask.pid (reply_of (fixed_of s) b ask out) ≡ true
    in_tells token u is = sender_told token u (sender_found w ask.addr ask.ep u is)

    -- ---- an OUT endpoint

    module _ (token : IsOutToken ask.pid) (u : Taker) (h : HasTaker w ask.addr ask.ep u) where
      out_kind : (pid : Pid) → IsOutToken pid → token_kind pid ≡ kinds.Out
      out_kind _ by_out = refl
      out_kind _ by_ping = refl

      out_place : (pid : Pid) → IsOutToken pid → place_in_device (token_of pid) h.at.device.endpoints ask.ep ≡ Some h.at.at.place
      out_place _ by_out = ap (λ (o : Option ℕ). or_else o (place_named h.at.device.endpoints ask.ep ways.Ctl)) h.at.at.is
      out_place _ by_ping = ap (λ (o : Option ℕ). or_else o (place_named h.at.device.endpoints ask.ep ways.Ctl)) h.at.at.is

      taker_place : endpoint_asked h.at.device ask ≡ Some h.at.at.place
      taker_place =
          ap (λ (c : Bool). if c then place_in_device (token_of ask.pid) h.at.device.endpoints ask.ep else None)
          (eq-eqb ask.addr h.at.device.address h.at.address)
          ∙ out_place ask.pid token

      taker_answers : answer_by b (hears_plain h.seat.owner) ask out ≡ taking_reply h.at.device.speed h.at.at.part.taking ask out
      taker_answers =
          ap (λ (o : Owner). answer_by b (hears_plain o) ask out) h.owner
          ∙ ap (λ (o : Option Device). device_answer o ask out) h.at.is
          ∙ ap (λ (o : Option ℕ). reply_from h.at.device.speed (endpoint_at h.at.device.endpoints o) ask out) taker_place
          ∙ ap (λ (o : Option Endpoint). reply_from h.at.device.speed o ask out) h.at.at.here
          ∙ ap (λ (p : Role). part_reply h.at.device.speed p ask out) h.at.at.part.is

      taker_told : MayWait kind h.at.at.part.taking.items → tells kind ask.pid (reply_of (fixed_of s) b ask out) ≡ true
      taker_told may =
          ap (tells kind ask.pid)
          (reply_is ask out plain h.place h.seat (ap (place_for (seats_of s) ask.addr ask.ep) (out_kind ask.pid token) ∙ h.found) h.there
          ∙ taker_answers)
          ∙ takes_tell kind h.at.device.speed h.at.at.part.taking ask out token may

    pub out_tells : IsOutToken ask.pid → (u : Taker) → taker_of w ask.addr ask.ep ≡ Some u
        → ((h : HasTaker w ask.addr ask.ep u) → MayWait kind h.at.at.part.taking.items)
        → tells kind ask.pid (reply_of (fixed_of s) b ask out) ≡ true
    out_tells token u is may =
        let h : HasTaker w ask.addr ask.ep u = taker_found w ask.addr ask.ep u is in taker_told token u h (may h)

    -- ---- a control endpoint of a device

    module _ (token : IsToken ask.pid) (whole : ask.pid ≡ pids.Setup → length out ≡ 8) where
      known : (pid : Pid) → IsToken pid → token_of pid ≡ tokens.Other → ⊥
      known _ of_setup is = cc
      known _ of_in is = cc
      known _ of_out is = cc
      known _ of_ping is = cc

      pub control_tells : is_some (control_of w ask.addr ask.ep) ≡ true → tells kind ask.pid (reply_of (fixed_of s) b ask out) ≡ true
      control_tells some =
          let d = there_is (control_of w ask.addr ask.ep) some in
          let h : HasControl w ask.addr ask.ep d.value = control_found w ask.addr ask.ep d.value d.is in
          let at : endpoint_asked h.at.device ask ≡ Some h.at.at.place =
          place_by h.at.device ask h.at.at.place h.at.address (known ask.pid token) h.at.no_in h.at.no_out h.at.at.is in
          let answers : answer_by b (hears_plain h.seat.owner) ask out ≡ controlling_reply h.at.at.part.control ask out =
          ap (λ (o : Owner). answer_by b (hears_plain o) ask out) h.owner
          ∙ ap (λ (o : Option Device). device_answer o ask out) h.at.is
          ∙ ap (λ (o : Option ℕ). reply_from h.at.device.speed (endpoint_at h.at.device.endpoints o) ask out) at
          ∙ ap (λ (o : Option Endpoint). reply_from h.at.device.speed o ask out) h.at.at.here
          ∙ ap (λ (p : Role). part_reply h.at.device.speed p ask out) h.at.at.part.is in
          ap (tells kind ask.pid)
          (reply_is ask out plain h.place h.seat
          (place_kind w ask.addr ask.ep h.place ask.pid (known ask.pid token) h.found h.found_in h.found_out) h.there
          ∙ answers)
          ∙ controls_tell kind h.at.at.part.control ask out token whole

      -- ---- endpoint 0 of a hub

      abbrev test : Seat → Bool
      test seat = suits seat.name ask.addr ask.ep (token_kind ask.pid)

      record IsHubSeat (seat : Seat) : Type 0 where
        number : ℕ
        hub : HubText
        there : slice_get s.hubs number ≡ Some hub
        owner : seat.owner ≡ owners.Hub number
        named : seat.name.addr ≡ hub.addr

      hub_seats_are : (from : ℕ) (hs : List HubText)
          → ((n : ℕ) (h : HubText) → slice_get hs n ≡ Some h → slice_get s.hubs (from + n) ≡ Some h)
          → AllByRecursion IsHubSeat (hub_seats_from from hs)
      hub_seats_are from [] each = tt
      hub_seats_are from (h ∷ hs) each = (
        record {
          number = from;
          hub = h;
          there = subst (λ (n : ℕ). slice_get s.hubs n ≡ Some h) (omega arith) (each zero h refl);
          owner = refl;
          named = refl;
        },
        hub_seats_are (from + 1) hs
            (λ n x here. subst (λ (i : ℕ). slice_get s.hubs i ≡ Some x) (omega arith) (each (suc n) x here)),
      )

      seat_suits : (pid : Pid) → IsToken pid → (addr num : ℕ) → addr ≡ ask.addr → num ≡ 0
          → suits (record { addr = addr; num = 0; way = ways.Ctl }) ask.addr num (token_kind pid) ≡ true
      seat_suits _ of_setup addr num same zeroth = rw (same, zeroth, eq-eqb ask.addr ask.addr refl) refl
      seat_suits _ of_in addr num same zeroth = rw (same, zeroth, eq-eqb ask.addr ask.addr refl) refl
      seat_suits _ of_out addr num same zeroth = rw (same, zeroth, eq-eqb ask.addr ask.addr refl) refl
      seat_suits _ of_ping addr num same zeroth = rw (same, zeroth, eq-eqb ask.addr ask.addr refl) refl

      some_seat : ask.ep ≡ 0 → (from : ℕ) (hs : List HubText) → list_any (λ (h : HubText). h.addr == ask.addr) hs ≡ true
          → list_any test (hub_seats_from from hs) ≡ true
      some_seat zeroth from [] some = absurd (cc)
      some_seat zeroth from (h ∷ hs) some =
          elim (cases_Bool (h.addr == ask.addr)) [
            | inl on ↦ ap (λ (c : Bool). c || list_any test (hub_seats_from (from + 1) hs))
                (seat_suits ask.pid token h.addr ask.ep (eqb-true h.addr ask.addr on) zeroth)
            | inr off ↦ either (test (hub_seat from h)) _
                (some_seat zeroth (from + 1) hs
                (ap (λ (c : Bool). c || list_any (λ (x : HubText). x.addr == ask.addr) hs) (sym off) ∙ some))
          ]
        where
          either : (x y : Bool) → y ≡ true → (x || y) ≡ true
          either true y is = refl
          either false y is = is

      pub of_hub_tells : is_of_hub s ask.addr ≡ true → ask.ep ≡ 0 → tells kind ask.pid (reply_of (fixed_of s) b ask out) ≡ true
      of_hub_tells of zeroth =
          let own = hub_seats_from 0 s.hubs in
          let f = any_found test own (some_seat zeroth 0 s.hubs of) in
          let z = found_first test (seats_of s) f.first (find_append test own (device_seats s) f.first f.is) in
          let hub : IsHubSeat f.first = subst (Holds IsHubSeat) f.is
          (all_find IsHubSeat test own
          (hub_seats_are 0 s.hubs (λ n h here. subst (λ (i : ℕ). slice_get s.hubs i ≡ Some h) (omega arith) here))) in
          let x = k.hubs hub.number hub.hub hub.there in
          let addr : f.first.name.addr ≡ ask.addr = eqb-true f.first.name.addr ask.addr
          (and_parts (f.first.name.addr == ask.addr) _ (found_passes test own f.first f.is)).0 in
          let answers : answer_by b (hears_plain f.first.owner) ask out ≡ hub_reply ask out x.0 =
          ap (λ (o : Owner). answer_by b (hears_plain o) ask out) hub.owner
          ∙ ap (λ (o : Option HubContent). hub_answer o ask out) x.1 in
          ap (tells kind ask.pid) (reply_is ask out plain z.place f.first z.at z.here ∙ answers)
          ∙ hub_tells kind x.0 ask out token whole (sym addr ∙ hub.named ∙ sym x.2) zeroth
