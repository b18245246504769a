-- What a transaction does to the devices of a bus: at most one changes, and where nobody is asked, none.
use Rattle.std.proofs.Common.{◌≡◌, ℕ, List, slice_get, Option, Some, None, refl, sym, ap, ◌∙◌}
use Rattle.std.specs.Option.{option_and_then, option_map}
use Rattle.usb_base.specs.declared.packets.Ask.{Ask}
use Rattle.usb_base.specs.declared.packets.Reply.{Reply}
use Rattle.usb_base.specs.declared.packets.Reply.TheVariants.{Silent}
use Rattle.endpoint_script.specs.Device.{Device}
use Rattle.bus_wire.specs.declared.asked.Answerer.{Answerer}
use Rattle.bus_wire.specs.declared.asked.Answerer.TheVariants as Answerers
use Rattle.bus_wire.specs.declared.asked.Asked.{Asked}
use Rattle.bus_wire.specs.declared.seats.Seat.{Seat}
use Rattle.bus_wire.specs.declared.who_heard.WhoHeard.{WhoHeard}
use Rattle.bus_wire.specs.declared.who_heard.WhoHeard.TheVariants as Rows
use Rattle.bus_wire.specs.Fixed.{Fixed}
use Rattle.bus_wire.specs.Seats.{token_kind, place_for}
use Rattle.bus_wire.specs.WhoHeard.{asker_hears}
use Rattle.bus_wire.specs.Asking.{device_after, changed_at}
use Rattle.bus_wire.specs.Below.{Below, hears_at, asked_below_at, asked_below, floor_answer, below_row, devices_after, below_reply_at, below_reply, below_after_at, below_after}
use Rattle.bus_wire.specs.Bus.{Bus, hears, asked_at, asked_of, answer_by, bus_row, changed_by, reply_at, reply_of, after_at, transact_after}

-- one device was asked, or none
pub data DevicesMove (ask : Ask) (out : List ℕ) (old : List Device) : List Device → Type 0 where
  same : DevicesMove ask out old old
  moved : (place : ℕ) (row : WhoHeard) → DevicesMove ask out old (changed_at place (device_after row ask out) old)

pub silence_heard : (row : WhoHeard) → asker_hears row Silent ≡ Silent
silence_heard Rows.SentUnheard = refl
silence_heard Rows.NoAnswer = refl
silence_heard Rows.AnswerUnheard = refl
silence_heard Rows.AnswerHeard = refl
silence_heard Rows.AckUnheard = refl
silence_heard Rows.AckHeard = refl

-- ---- below a hub

who_moves : (ask : Ask) (out : List ℕ) (row : WhoHeard) (who : Answerer) (devices : List Device)
    → DevicesMove ask out devices (devices_after row who ask out devices)
who_moves ask out row (Answerers.Device place) devices = moved place row
who_moves ask out row (Answerers.Hub place) devices = same
who_moves ask out row (Answerers.Translator place stuff) devices = same
who_moves ask out row Answerers.Nobody devices = same

below_by : (w : Below) (ask : Ask) (out : List ℕ) (o : Option Asked)
    → DevicesMove ask out w.floor.devices (below_after_at w ask out o).floor.devices
below_by w ask out None = same
below_by w ask out (Some e) = who_moves ask out (below_row w e ask out) e.who w.floor.devices

pub moves_below : (w : Below) (ask : Ask) (out : List ℕ) → DevicesMove ask out w.floor.devices (below_after w ask out).floor.devices
moves_below w ask out = below_by w ask out (asked_below w ask)

-- the rest of the bus below stays
pub record IsSameBelow (w v : Below) : Type 0 where
  pub fixed : v.fixed ≡ w.fixed
  pub hub : v.hub ≡ w.hub
  pub enabled : v.enabled ≡ w.enabled

same_by : (w : Below) (ask : Ask) (out : List ℕ) (o : Option Asked) → IsSameBelow w (below_after_at w ask out o)
same_by w ask out None = record { fixed = refl; hub = refl; enabled = refl }
same_by w ask out (Some e) = record { fixed = refl; hub = refl; enabled = refl }

pub stays_below : (w : Below) (ask : Ask) (out : List ℕ) → IsSameBelow w (below_after w ask out)
stays_below w ask out = same_by w ask out (asked_below w ask)

-- nobody is asked, and nothing heard
pub record IsUnheard (ask : Ask) (out : List ℕ) (reply : Reply) (old new : List Device) : Type 0 where
  pub silent : reply ≡ Silent
  pub devices : new ≡ old

asks_nobody : (w : Below) (ask : Ask) (out : List ℕ) (e : Asked) → e.who ≡ Answerers.Nobody
    → IsUnheard ask out (below_reply_at w ask out (Some e)) w.floor.devices (below_after_at w ask out (Some e)).floor.devices
asks_nobody w ask out e is = record {
  silent = ap (λ (who : Answerer). asker_hears (below_row w e ask out) (floor_answer w.floor who ask out)) is
      ∙ silence_heard (below_row w e ask out);
  devices = ap (λ (who : Answerer). devices_after (below_row w e ask out) who ask out w.floor.devices) is;
}

packet_nobody : (w : Below) (ask : Ask) (out : List ℕ) (place : ℕ) (seat : Seat) (o : Option ℕ) → hears_at w seat.owner ≡ Answerers.Nobody
    → (x : Option Asked)
    → option_map (λ (packet : ℕ). record { place = place; name = seat.name; packet = packet; who = hears_at w seat.owner }) o ≡ x
    → IsUnheard ask out (below_reply_at w ask out x) w.floor.devices (below_after_at w ask out x).floor.devices
packet_nobody w ask out place seat o is None at = record { silent = refl; devices = refl }
packet_nobody w ask out place seat None is (Some e) at = absurd cc
packet_nobody w ask out place seat (Some packet) is (Some e) at =
    asks_nobody w ask out e (ap (λ (x : Option Asked). who_of x) (sym at) ∙ is)
  where
    who_of : Option Asked → Answerer
    who_of None = Answerers.Nobody
    who_of (Some e) = e.who

pub unheard_below : (w : Below) (ask : Ask) (out : List ℕ) (place : ℕ) (seat : Seat)
    → place_for w.fixed.seats ask.addr ask.ep (token_kind ask.pid) ≡ Some place
    → slice_get w.fixed.seats place ≡ Some seat → hears_at w seat.owner ≡ Answerers.Nobody
    → IsUnheard ask out (below_reply w ask out) w.floor.devices (below_after w ask out).floor.devices
unheard_below w ask out place seat found there is =
    packet_nobody w ask out place seat (slice_get w.floor.numbers place) is (asked_below w ask)
    (sym (ap (option_and_then (asked_below_at w)) found
    ∙ ap (option_and_then
    (λ (seat : Seat). option_map
    (λ (packet : ℕ). record { place = place; name = seat.name; packet = packet; who = hears_at w seat.owner })
    (slice_get w.floor.numbers place))) there))

-- ---- on the high-speed bus

who_changes : (ask : Ask) (out : List ℕ) (row : WhoHeard) (who : Answerer) (b : Bus)
    → DevicesMove ask out b.devices (changed_by row who ask out b).devices
who_changes ask out row (Answerers.Device place) b = moved place row
who_changes ask out row (Answerers.Hub place) b = same
who_changes ask out row (Answerers.Translator place stuff) b = same
who_changes ask out row Answerers.Nobody b = same

high_by : (fixed : Fixed) (b : Bus) (ask : Ask) (out : List ℕ) (o : Option Asked)
    → DevicesMove ask out b.devices (after_at fixed b ask out o).devices
high_by fixed b ask out None = same
high_by fixed b ask out (Some e) = who_changes ask out (bus_row fixed b e ask out) e.who b

pub moves_high : (fixed : Fixed) (b : Bus) (ask : Ask) (out : List ℕ)
    → DevicesMove ask out b.devices (transact_after fixed b ask out).devices
moves_high fixed b ask out = high_by fixed b ask out (asked_of fixed b ask)

asks_none : (fixed : Fixed) (b : Bus) (ask : Ask) (out : List ℕ) (e : Asked) → e.who ≡ Answerers.Nobody
    → IsUnheard ask out (reply_at fixed b ask out (Some e)) b.devices (after_at fixed b ask out (Some e)).devices
asks_none fixed b ask out e is = record {
  silent = ap (λ (who : Answerer). asker_hears (bus_row fixed b e ask out) (answer_by b who ask out)) is
      ∙ silence_heard (bus_row fixed b e ask out);
  devices = ap (λ (who : Answerer). (changed_by (bus_row fixed b e ask out) who ask out b).devices) is;
}

packet_none : (fixed : Fixed) (b : Bus) (ask : Ask) (out : List ℕ) (place : ℕ) (seat : Seat) (o : Option ℕ)
    → hears b ask.split seat.owner ≡ Answerers.Nobody
    → (x : Option Asked)
    → option_map (λ (packet : ℕ). record { place = place; name = seat.name; packet = packet; who = hears b ask.split seat.owner }) o ≡ x
    → IsUnheard ask out (reply_at fixed b ask out x) b.devices (after_at fixed b ask out x).devices
packet_none fixed b ask out place seat o is None at = record { silent = refl; devices = refl }
packet_none fixed b ask out place seat None is (Some e) at = absurd cc
packet_none fixed b ask out place seat (Some packet) is (Some e) at =
    asks_none fixed b ask out e (ap (λ (x : Option Asked). who_of x) (sym at) ∙ is)
  where
    who_of : Option Asked → Answerer
    who_of None = Answerers.Nobody
    who_of (Some e) = e.who

pub unheard_high : (fixed : Fixed) (b : Bus) (ask : Ask) (out : List ℕ) (place : ℕ) (seat : Seat)
    → place_for fixed.seats ask.addr ask.ep (token_kind ask.pid) ≡ Some place
    → slice_get fixed.seats place ≡ Some seat → hears b ask.split seat.owner ≡ Answerers.Nobody
    → IsUnheard ask out (reply_of fixed b ask out) b.devices (transact_after fixed b ask out).devices
unheard_high fixed b ask out place seat found there is =
    packet_none fixed b ask out place seat (slice_get b.high place) is (asked_of fixed b ask)
    (sym (ap (option_and_then (asked_at fixed b ask.split)) found
    ∙ ap (option_and_then
    (λ (seat : Seat). option_map
    (λ (packet : ℕ). record { place = place; name = seat.name; packet = packet; who = hears b ask.split seat.owner })
    (slice_get b.high place))) there))
