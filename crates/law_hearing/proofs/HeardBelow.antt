-- Each ask below a hub is heard as the lines of the script and the ports of the hub say.
use Rattle.std.proofs.Common.{◌≡◌, ℕ, ◌<◌, ◌≤◌, Bool, true, false, List, Option, Some, None, option_map, refl, ap, sym, subst, ◌∙◌, inl, inr, arith, ⊎_elim}
use Rattle.std.specs.Prelude.{◌==◌, ◌&&◌, length, slice_get, slice_set, unwrap_or, if◌then◌else◌}
use Rattle.std.specs.Option.{option_and_then}
use Rattle.std.proofs.lemmas.Bool.{cases_lt}
use Rattle.std.proofs.lemmas.List.FromFn.{length-map-range_with_len, get_or-map-range_with_len}
use Rattle.std.proofs.lemmas.Option.{slice_get-get_or, slice_get_past}
use Rattle.law_common.proofs.Lists.{there_at}
use Rattle.law_common.proofs.Numbers.{is_less, not_below}
use Rattle.usb_base.specs.declared.packets.Ask.{Ask}
use Rattle.usb_base.specs.declared.packets.Reply.{Reply}
use Rattle.endpoint_script.specs.Device.{Device, answered, acked_by}
use Rattle.hub_ports.specs.Ports.{is_enabled}
use Rattle.hub_class.specs.HubContent.{HubContent}
use Rattle.bus_wire.specs.declared.asked.Answerer.{Answerer}
use Rattle.bus_wire.specs.declared.asked.Answerer.TheVariants as answerers
use Rattle.bus_wire.specs.declared.asked.Asked.{Asked}
use Rattle.bus_wire.specs.declared.seats.Owner.{Owner}
use Rattle.bus_wire.specs.declared.seats.Owner.TheVariants as owners
use Rattle.bus_wire.specs.declared.seats.Seat.{Seat}
use Rattle.bus_wire.specs.declared.who_heard.WhoHeard.{WhoHeard}
use Rattle.bus_wire.specs.Asking.{packet_after, device_after, device_answer, put_at}
use Rattle.bus_wire.specs.Below.{Floor, Below, below_at, hears_at, asked_below_at, asked_below, floor_answer, below_row, devices_after, floor_after, below_reply, below_reply_at, below_after, below_after_at, enabled_ports}
use Rattle.bus_wire.specs.Fixed.{Fixed}
use Rattle.bus_wire.specs.Seats.{token_kind, place_for}
use Rattle.bus_wire.specs.WhoHeard.{asker_hears, left_by, later}
use Rattle.claims_answers.specs.Hearing.{Party, packets, IsExchange, missed, IsAsked, nobody, is_behind, floor_device, floor_party, IsTransactionBelow, IsHeardBelow}
use Rattle.law_hearing.specs.HearingLaws.{AsksAreHeardBelow}
use Rattle.law_hearing.proofs.Asked.{none_asked, first_asked}
use Rattle.law_hearing.proofs.Heard.{left_alone, left_at, exchanges, row_here, row_is, count_is, asked_here}

-- ---- below a hub

-- the ports that are enabled, told by their numbers
port_is : (h : HubContent) (port : ℕ) → unwrap_or (slice_get (enabled_ports h) port) false ≡ is_behind h port
port_is h port =
    ⊎_elim
    (λ (lt : port < 16).
    ap (λ (o : Option Bool). unwrap_or o false)
    (slice_get-get_or (enabled_ports h) port false (omega (arith, length-map-range_with_len (λ (k : ℕ). is_enabled k h.ports) 0 16)))
    ∙ get_or-map-range_with_len (λ (k : ℕ). is_enabled k h.ports) 0 16 port port false lt (omega arith)
    ∙ sym (ap (λ (c : Bool). c && is_enabled port h.ports) (is_less port 16 lt)))
    (λ (ge : 16 ≤ port).
    ap (λ (o : Option Bool). unwrap_or o false)
    (slice_get_past (enabled_ports h) port (omega (arith, length-map-range_with_len (λ (k : ℕ). is_enabled k h.ports) 0 16)))
    ∙ sym (ap (λ (c : Bool). c && is_enabled port h.ports) (not_below port 16 ge)))
    (cases_lt port 16)

module _ (fixed : Fixed) (h : HubContent) (floor : Floor) (ask : Ask) (out : List ℕ) where
  abbrev w : Below
  w = below_at fixed h floor

  -- what an answerer below leaves
  abbrev floor_by : WhoHeard → Answerer → Floor
  floor_by row who = record floor { devices = devices_after row who ask out floor.devices }

  record SameBelow (who : Answerer) (p : Party Floor) : Type 0 where
    answer : floor_answer floor who ask out ≡ p.answer
    left : (row : WhoHeard) → floor_by row who ≡ left_by row p.before p.answered p.acked

  none_below : SameBelow answerers.Nobody (nobody floor)
  none_below = record { answer = refl; left = λ row. left_alone row floor }

  device_below : (place : ℕ) (o : Option Device) → slice_get floor.devices place ≡ o
      → SameBelow (answerers.Device place) (floor_device floor place ask out o)
  device_below place None is = record {
    answer = ap (λ (q : Option Device). device_answer q ask out) is;
    left = λ row. ap (λ (q : Option Device). record floor { devices = put_at q place (device_after row ask out) floor.devices }) is ∙
        left_alone row floor;
  }
  device_below place (Some d) is = record {
    answer = ap (λ (q : Option Device). device_answer q ask out) is;
    left = λ row. ap (λ (q : Option Device). record floor { devices = put_at q place (device_after row ask out) floor.devices }) is
        ∙ left_at (λ (xs : List Device). record floor { devices = xs }) floor.devices place d (answered d ask out)
        (acked_by (answered d ask out) ask) floor refl is row;
  }

  either_below : (device : ℕ) (c : Bool) → SameBelow (if c then answerers.Device device else answerers.Nobody)
      (if c then floor_device floor device ask out (slice_get floor.devices device) else nobody floor)
  either_below device true = device_below device (slice_get floor.devices device) refl
  either_below device false = none_below

  owner_below : (owner : Owner) → SameBelow (hears_at (below_at fixed h floor) owner) (floor_party h floor ask out owner)
  owner_below (owners.Hub place) = none_below
  owner_below (owners.High place) = none_below
  owner_below (owners.Below device hub port stuff) =
      subst (λ (c : Bool). SameBelow (if hub == h.address && c then answerers.Device device else answerers.Nobody)
      (floor_party h floor ask out (owners.Below device hub port stuff))) (sym (port_is h port))
      (either_below device (hub == h.address && is_behind h port))

  module _ (sizes : length floor.numbers ≡ length fixed.seats) where
    module _ (place : ℕ) (seat : Seat) (number : ℕ) (first : IsAsked fixed.seats ask place seat)
        (next : slice_get floor.numbers place ≡ Some number)
        (found : place_for fixed.seats ask.addr ask.ep (token_kind ask.pid) ≡ Some place) where
      abbrev eb : Asked
      eb = record { place = place; name = seat.name; packet = number; who = hears_at (below_at fixed h floor) seat.owner }

      abbrev pb : Party Floor
      pb = floor_party h floor ask out seat.owner

      asked_below_is : asked_below (below_at fixed h floor) ask ≡ Some eb
      asked_below_is =
          ap (option_and_then (asked_below_at (below_at fixed h floor))) found
          ∙ ap (option_and_then (λ (s : Seat).
          option_map (λ (n : ℕ). let a : Asked = record
          { place = place; name = s.name; packet = n; who = hears_at (below_at fixed h floor) s.owner } in a)
          (slice_get floor.numbers place)))
          first.there
          ∙ ap (option_map (λ (n : ℕ). let a : Asked = record
          { place = place; name = seat.name; packet = n; who = hears_at (below_at fixed h floor) seat.owner } in a)) next

      same_here : SameBelow eb.who pb
      same_here = owner_below seat.owner

      row_below : below_row (below_at fixed h floor) eb ask out ≡ row_here fixed true eb ask pb.answer
      row_below = row_is fixed true eb ask (floor_answer floor eb.who ask out) pb.answer same_here.answer

      abbrev left_below : Floor
      left_below = left_by (row_here fixed true eb ask pb.answer) pb.before pb.answered pb.acked

      reply_below : below_reply (below_at fixed h floor) ask out ≡ asker_hears (row_here fixed true eb ask pb.answer) pb.answer
      reply_below =
          ap (below_reply_at (below_at fixed h floor) ask out) asked_below_is
          ∙ ap (λ (row : WhoHeard). asker_hears row (floor_answer floor eb.who ask out)) row_below
          ∙ ap (asker_hears (row_here fixed true eb ask pb.answer)) same_here.answer

      after_below : (below_after (below_at fixed h floor) ask out).floor ≡ record left_below {
        numbers = slice_set floor.numbers place (later number (packets (missed fixed.fates seat.name true number ask) ask pb.answer));
      }
      after_below =
          ap (λ (q : Option Asked). (below_after_at (below_at fixed h floor) ask out q).floor) asked_below_is
          ∙ ap (λ (row : WhoHeard). floor_after row eb ask out floor) row_below
          ∙ ap (λ (v : Floor). record v {
            numbers = slice_set floor.numbers place
                (packet_after (row_here fixed true eb ask pb.answer) eb ask);
          })
          (same_here.left (row_here fixed true eb ask pb.answer))
          ∙ ap (λ (n : ℕ). record left_below { numbers = slice_set floor.numbers place n }) (count_is fixed true eb ask pb.answer)

      transaction_below : IsTransactionBelow fixed h floor ask out (below_reply (below_at fixed h floor) ask out)
          (below_after (below_at fixed h floor) ask out).floor
      transaction_below = record {
        place = place;
        seat = seat;
        number = number;
        left = left_below;
        asked = first;
        next = next;
        exchange = subst (λ (r : Reply). IsExchange (missed fixed.fates seat.name true number ask) ask pb r left_below) (sym reply_below)
            (exchanges ask pb (missed fixed.fates seat.name true number ask));
        counted = after_below;
      }

    below_at_place : (o : Option ℕ) → place_for fixed.seats ask.addr ask.ep (token_kind ask.pid) ≡ o
        → IsHeardBelow fixed h floor ask out (below_reply (below_at fixed h floor) ask out)
        (below_after (below_at fixed h floor) ask out).floor
    below_at_place None is =
        inl (
          none_asked fixed.seats ask is,
          (
            ap (λ (q : Option ℕ). below_reply_at (below_at fixed h floor) ask out
                (option_and_then (asked_below_at (below_at fixed h floor)) q)) is,
            ap (λ (q : Option ℕ). (below_after_at (below_at fixed h floor) ask out
                (option_and_then (asked_below_at (below_at fixed h floor)) q)).floor) is,
          ),
        )
    below_at_place (Some place) is =
        let asked = first_asked fixed.seats ask place is in
        let seat = there_at fixed.seats place asked.within in
        let number = there_at floor.numbers place (subst (λ (n : ℕ). place < n) (sym sizes) asked.within) in
        inr (transaction_below place seat.0 number.0 (asked_here fixed ask place asked seat.0 seat.1) number.1 is)

pub asks_are_heard_below : AsksAreHeardBelow
asks_are_heard_below fixed h floor ask out sizes =
    below_at_place fixed h floor ask out sizes (place_for fixed.seats ask.addr ask.ep (token_kind ask.pid)) refl
