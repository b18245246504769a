-- What an ask for another endpoint leaves of an endpoint of a device on the high-speed bus (USB 2.0, 8.4.1, 8.5 and 8.6).
use Rattle.std.proofs.Common.{◌≡◌, ◌≢◌, ℕ, List, slice_get, slice_set, Option, Some, None, ap, refl, sym, ◌∙◌, ⊎_elim}
use Rattle.std.specs.Option.{option_and_then, option_map}
use Rattle.std.proofs.lemmas.Bool.{cases_eq}
use Rattle.std.proofs.lemmas.Option.{same_Some}
use Rattle.usb_base.specs.declared.endpoints.EpName.{EpName}
use Rattle.usb_base.specs.declared.packets.Ask.{Ask}
use Rattle.usb_base.specs.declared.packets.Pid.{Pid}
use Rattle.usb_base.specs.declared.packets.Pid.TheVariants as pids
use Rattle.usb_base.specs.declared.packets.Split.{Split}
use Rattle.usb_base.specs.declared.packets.Way.{Way}
use Rattle.usb_base.specs.declared.packets.Way.TheVariants as ways
use Rattle.endpoint_script.specs.declared.endpoint.Endpoint.{Endpoint as DeviceEndpoint}
use Rattle.endpoint_script.specs.declared.endpoint.Role.{Role}
use Rattle.endpoint_script.specs.Device.{Device, place_named, or_else, endpoint_asked, endpoint_at, place_for as place_in_device}
use Rattle.bus_wire.specs.declared.asked.Answerer.{Answerer}
use Rattle.bus_wire.specs.declared.asked.Answerer.TheVariants as answerers
use Rattle.bus_wire.specs.declared.asked.Asked.{Asked}
use Rattle.bus_wire.specs.declared.seats.Seat.{Seat}
use Rattle.bus_wire.specs.declared.seats.TokenKind.TheVariants as tokens
use Rattle.bus_wire.specs.declared.who_heard.WhoHeard.{WhoHeard}
use Rattle.bus_wire.specs.Asking.{device_after, put_at, packet_after}
use Rattle.bus_wire.specs.Bus.{Bus, Fixed, hears, asked_at, asked_of, bus_row, changed_by, after_at, transact_after}
use Rattle.bus_wire.specs.Seats.{token_kind, place_for}
use Rattle.law_devices.proofs.Devices.{ChangesAt, address_after, device_changes, of_in}
use Rattle.law_devices.proofs.Places.{set_here, set_beside}
use Rattle.law_devices.proofs.lemmas.scripted_takers.Outs.{IsOutToken, of_out}
use Rattle.claims_world.specs.Due.{token_by, stage_by, IsHeardBy}

-- ---- whose place it is

asked_packet : (b : Bus) (split : Split) (p : ℕ) (seat : Seat) (o : Option ℕ) (e : Asked)
    → option_map (λ (packet : ℕ). record { place = p; name = seat.name; packet = packet; who = hears b split seat.owner }) o ≡ Some e
    → p ≡ e.place
asked_packet b split p seat None e is = absurd cc
asked_packet b split p seat (Some packet) e is =
    ap (λ (x : Asked). x.place)
    (same_Some (record { place = p; name = seat.name; packet = packet; who = hears b split seat.owner }) e is)

asked_seat : (b : Bus) (split : Split) (p : ℕ) (o : Option Seat) (e : Asked)
    → option_and_then (λ (seat : Seat). option_map
    (λ (packet : ℕ). record { place = p; name = seat.name; packet = packet; who = hears b split seat.owner }) (slice_get b.high p)) o
    ≡ Some e
    → p ≡ e.place
asked_seat b split p None e is = absurd cc
asked_seat b split p (Some seat) e is = asked_packet b split p seat (slice_get b.high p) e is

pub asked_place : (fixed : Fixed) (b : Bus) (split : Split) (o : Option ℕ) (e : Asked) → option_and_then (asked_at fixed b split) o ≡ Some e
    → o ≡ Some e.place
asked_place fixed b split None e is = absurd cc
asked_place fixed b split (Some p) e is = ap Some (asked_seat b split p (slice_get fixed.seats p) e is)

-- ---- an endpoint of a device of which another one was asked

record IsAtPlace (es : List DeviceEndpoint) (o : Option ℕ) (e : DeviceEndpoint) : Type 0 where
  place : ℕ
  is : o ≡ Some place
  here : slice_get es place ≡ Some e

at_place : (es : List DeviceEndpoint) (o : Option ℕ) (e : DeviceEndpoint) → endpoint_at es o ≡ Some e → IsAtPlace es o e
at_place es None e found = absurd cc
at_place es (Some k) e found = record { place = k; is = refl; here = found }

out_kind : (pid : Pid) → IsOutToken pid → token_kind pid ≡ tokens.Out
out_kind pid is =
    ⊎_elim (λ (x : pid ≡ pids.Out). ap token_kind x) (λ (x : pid ≡ pids.Ping). ap token_kind x) is

abbrev pub IsOneWay : Way → Type 0
IsOneWay way = way ≢ ways.Ctl

module _ (fixed : Fixed) (b : Bus) (ask : Ask) (out : List ℕ) (name : EpName) (place : ℕ) (part : Role)
    (r : IsHeardBy fixed b name place part) (one : name.way ≢ ways.Ctl)
    (own : (j : ℕ) × (place_named r.device.endpoints name.num name.way ≡ Some j))
    (other : place_for fixed.seats ask.addr ask.ep (token_kind ask.pid) ≢ Some place) where
  abbrev es : List DeviceEndpoint
  es = r.device.endpoints

  abbrev where_it_is : Way → List DeviceEndpoint → Option ℕ
  where_it_is way xs = place_in_device (stage_by way) xs name.num

  -- it is found by its own way
  by_own : (way : Way) (k : ℕ) → name.way ≡ way
      → or_else (place_named r.device.endpoints name.num way) (place_named r.device.endpoints name.num ways.Ctl) ≡ Some k
      → place_named r.device.endpoints name.num way ≡ Some k
  by_own way k is found =
      let first : place_named r.device.endpoints name.num way ≡ Some own.0 =
      ap (place_named r.device.endpoints name.num) (sym is) ∙ own.1 in
      first ∙ sym (ap (λ (o : Option ℕ). or_else o (place_named r.device.endpoints name.num ways.Ctl)) first) ∙ found

  -- the ask isn't for it
  not_asked : (way : Way) (k : ℕ) → name.way ≡ way → slice_get r.device.endpoints k ≡ Some r.endpoint
      → place_in_device (stage_by way) r.device.endpoints name.num ≡ Some k → endpoint_asked r.device ask ≡ Some k → ⊥
  not_asked ways.In k is here found asked =
      let i = of_in r.device ask name.num k r.endpoint (by_own ways.In k is found) here asked in
      other (ap (λ (pid : Pid). place_for fixed.seats ask.addr ask.ep (token_kind pid)) i.token
      ∙ ap (λ (n : ℕ). place_for fixed.seats ask.addr n tokens.In) (sym i.number)
      ∙ ap (λ (n : ℕ). place_for fixed.seats n name.num tokens.In) (i.address ∙ r.address)
      ∙ ap (λ (w : Way). place_for fixed.seats name.addr name.num (token_by w)) (sym is) ∙ r.asked)
  not_asked ways.Out k is here found asked =
      let i = of_out r.device ask name.num k r.endpoint (by_own ways.Out k is found) here asked in
      other (ap (place_for fixed.seats ask.addr ask.ep) (out_kind ask.pid i.token)
      ∙ ap (λ (n : ℕ). place_for fixed.seats ask.addr n tokens.Out) (sym i.number)
      ∙ ap (λ (n : ℕ). place_for fixed.seats n name.num tokens.Out) (i.address ∙ r.address)
      ∙ ap (λ (w : Way). place_for fixed.seats name.addr name.num (token_by w)) (sym is) ∙ r.asked)
  not_asked ways.Ctl k is here found asked = one is

  same_place : (way : Way) (now : List DeviceEndpoint)
      → ((num : ℕ) (w : Way) → place_named now num w ≡ place_named r.device.endpoints num w)
      → place_in_device (stage_by way) now name.num ≡ place_in_device (stage_by way) r.device.endpoints name.num
  same_place ways.In now same =
      ap (λ (o : Option ℕ). or_else o (place_named now name.num ways.Ctl)) (same name.num ways.In)
      ∙ ap (or_else (place_named r.device.endpoints name.num ways.In)) (same name.num ways.Ctl)
  same_place ways.Out now same =
      ap (λ (o : Option ℕ). or_else o (place_named now name.num ways.Ctl)) (same name.num ways.Out)
      ∙ ap (or_else (place_named r.device.endpoints name.num ways.Out)) (same name.num ways.Ctl)
  same_place ways.Ctl now same = same name.num ways.Ctl

  -- the device, and its endpoint
  record IsLeft (devices : List Device) : Type 0 where
    device : Device
    there : slice_get devices r.at ≡ Some device
    address : device.address ≡ name.addr
    found : endpoint_at device.endpoints (place_in_device (stage_by name.way) device.endpoints name.num) ≡ Some r.endpoint

  was_there : IsLeft b.devices
  was_there = record { device = r.device; there = r.there; address = r.address; found = r.found }

  asked_device : (row : WhoHeard) (devices : List Device) → slice_get devices r.at ≡ Some (device_after row ask out r.device)
      → IsLeft devices
  asked_device row devices there =
      let c : ChangesAt r.device.endpoints (device_after row ask out r.device).endpoints (endpoint_asked r.device ask) =
      device_changes row r.device ask out in
      let p : IsAtPlace r.device.endpoints (place_in_device (stage_by name.way) r.device.endpoints name.num) r.endpoint =
      at_place r.device.endpoints (place_in_device (stage_by name.way) r.device.endpoints name.num) r.endpoint r.found in
      record {
        device = device_after row ask out r.device;
        there = there;
        address = address_after row r.device ask out ∙ r.address;
        found = ap (endpoint_at (device_after row ask out r.device).endpoints)
            (same_place name.way (device_after row ask out r.device).endpoints c.names ∙ p.is)
            ∙ c.others p.place (not_asked name.way p.place refl p.here p.is) ∙ p.here;
      }

  put_left : (row : WhoHeard) (n : ℕ) (o : Option Device) → slice_get b.devices n ≡ o
      → IsLeft (put_at o n (device_after row ask out) b.devices)
  put_left row n None is = was_there
  put_left row n (Some x) is =
      ⊎_elim
      (λ (same : r.at ≡ n).
      let one : x ≡ r.device = same_Some x r.device (sym is ∙ ap (slice_get b.devices) (sym same) ∙ r.there) in
      asked_device row (slice_set b.devices n (device_after row ask out x))
      (ap (slice_get (slice_set b.devices n (device_after row ask out x))) same
      ∙ set_here b.devices n x (device_after row ask out x) is ∙ ap (λ (d : Device). Some (device_after row ask out d)) one))
      (λ (differs : r.at ≢ n).
      record {
        device = r.device;
        there = set_beside b.devices n r.at (device_after row ask out x) differs ∙ r.there;
        address = r.address;
        found = r.found;
      }) (cases_eq r.at n)

  who_left : (row : WhoHeard) (who : Answerer) → IsLeft (changed_by row who ask out b).devices
  who_left row (answerers.Device n) = put_left row n (slice_get b.devices n) refl
  who_left row _ = was_there

  -- what it leaves
  pub record IsLeftBy (c : Bus) : Type 0 where
    pub heard : IsHeardBy fixed c name place part
    pub high : slice_get c.high place ≡ slice_get b.high place

  left_by : (c : Bus) → IsLeft c.devices → slice_get c.high place ≡ slice_get b.high place → IsLeftBy c
  left_by c left high = record {
    heard = record {
      asked = r.asked;
      seat = r.seat;
      seated = r.seated;
      named = r.named;
      at = r.at;
      owner = r.owner;
      device = left.device;
      there = left.there;
      address = left.address;
      endpoint = r.endpoint;
      found = left.found;
      does = r.does;
    };
    high = high;
  }

  after_left : (o : Option Asked) → asked_of fixed b ask ≡ o → IsLeftBy (after_at fixed b ask out o)
  after_left None is = left_by b was_there refl
  after_left (Some e) is =
      let at : place_for fixed.seats ask.addr ask.ep (token_kind ask.pid) ≡ Some e.place =
      asked_place fixed b ask.split (place_for fixed.seats ask.addr ask.ep (token_kind ask.pid)) e is in
      left_by (after_at fixed b ask out (Some e)) (who_left (bus_row fixed b e ask out) e.who)
      (set_beside b.high e.place place (packet_after (bus_row fixed b e ask out) e ask)
      (λ (same : place ≡ e.place). other (at ∙ ap Some (sym same))))

  pub left_beside : IsLeftBy (transact_after fixed b ask out)
  left_beside = after_left (asked_of fixed b ask) refl
