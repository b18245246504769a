-- The work of hubs where a microframe begins, as an OUT endpoint below one of them sees it (USB 2.0, 11.17 and 11.18): a few events of the
-- machine of its pipe.
--     IsPut                   what is asked for the key is a data packet for its endpoint
--     out_asked, out_answer   what is asked and answered, as the pipe says it
--     SameSending l m         the host knows and sends in m what it does in l
--     OutWorkIsEvents         the law
use Rattle.std.specs.Prelude.{◌≡◌, ℕ, Bool, Some}
use Rattle.std.specs.List.{concat}
use Rattle.usb_base.specs.declared.packets.Ask.{Ask}
use Rattle.usb_base.specs.declared.packets.Dir.TheVariants as Directions
use Rattle.usb_base.specs.declared.packets.Pid.TheVariants as Pids
use Rattle.usb_base.specs.declared.packets.Reply.{Reply}
use Rattle.usb_base.specs.declared.packets.Reply.TheVariants.{Silent, Bytes, Hand}
use Rattle.toggle_error.specs.Columns.{expected_pid}
use Rattle.hub_keys.specs.Keys.{direction_of}
use Rattle.hub_keys.specs.declared.key.Key.{Key}
use Rattle.tt_bulk.specs.Contents.{Taken}
use Rattle.bus_wire.specs.Fixed.{Fixed}
use Rattle.bus_wire.specs.Below.{Below}
use Rattle.bus_wire.specs.Bus.{Wired, begin_after}
use Rattle.law_ring.specs.OutBus.{Taker}
use Rattle.law_translated.specs.Lift.{Way, Wait, Slot, Run}
use Rattle.law_translated.specs.OutPipes.{Line, out_halves}
use Rattle.law_translated.specs.OutPipes as Pipe
use Rattle.law_translated.specs.KeySlots.{KeySlot}
use Rattle.law_translated.specs.KeyEvents.{left_wait, with_slot}
use Rattle.law_below_hubs.specs.Seated.{taker_at, taker_on}
use Rattle.law_below_hubs.specs.HubsKeys.{is_second, HubsHave, IsOfKind, AreRightHubs}

-- an OUT, whose data has one of the two toggles
pub record IsPacket (ask : Ask) : Type 0 where
  pub token : ask.pid ≡ Pids.Out
  pub second : Bool
  pub toggle : ask.toggle ≡ expected_pid second

pub record IsPut (k : Key) (ask : Ask) : Type 0 where
  pub kind : IsOfKind k ask
  pub packet : direction_of ask.pid ≡ k.dir → ask.addr ≡ k.addr → ask.ep ≡ k.ep → IsPacket ask

abbrev pub out_asked : Taken → Pipe.Ask
out_asked a = Pipe.Out (is_second a.ask.toggle) a.packet

-- NYET is the ACK of this packet (8.5.1)
abbrev pub out_answer : Reply → Pipe.Reply
out_answer Silent = Pipe.Err
out_answer (Bytes pid bytes) = Pipe.Nak
out_answer (Hand Pids.Ack) = Pipe.Ack
out_answer (Hand Pids.Nyet) = Pipe.Ack
out_answer (Hand Pids.Stall) = Pipe.Stall
out_answer (Hand Pids.Err) = Pipe.Err
out_answer (Hand _) = Pipe.Nak

-- the device's side of the line
abbrev pub taker_of_line : Line → Taker
taker_of_line l = record { taken = concat l.taken; expects = l.expects }

-- the host's side
pub record SameSending (l m : Line) : Type 0 where
  pub known : m.known ≡ l.known
  pub rest : m.rest ≡ l.rest
  pub sends : m.sends ≡ l.sends
  pub going : m.going ≡ l.going

-- a bus below shows the line
pub record ShowsTaker (fixed : Fixed) (k : Key) (w : Below) (l : Line) : Type 0 where
  pub same : w.fixed ≡ fixed
  pub taker : taker_on w k.addr k.ep ≡ Some (taker_of_line l)

-- ---- the law

pub record OutWorkOf (way : Way) (k : Key) (hub place frindex : ℕ) (s : KeySlot) (l : Line) (u : Wait) (aside : Slot Pipe.Ask Pipe.Reply)
    (v : Wired) : Type 0 where
  pub line : Line
  pub slot : KeySlot
  pub host : SameSending l line
  pub taker : taker_at v k.addr k.ep ≡ Some (taker_of_line line)
  pub has : HubsHave way k hub place v.bus.hubs slot
  pub right : AreRightHubs (IsPut k) v.bus.hubs
  pub run : Run out_halves way (with_slot out_halves out_asked out_answer l u s aside)
      (with_slot out_halves out_asked out_answer line (left_wait way frindex u) slot aside)

-- whatever else the hubs do
abbrev pub OutWorkIsEvents : Type 0
OutWorkIsEvents = (way : Way) (k : Key) (hub place frindex : ℕ) (s : KeySlot) (l : Line) (u : Wait) (aside : Slot Pipe.Ask Pipe.Reply)
    (w : Wired) → k.dir ≡ Directions.Out
    → HubsHave way k hub place w.bus.hubs s → AreRightHubs (IsPut k) w.bus.hubs → taker_at w k.addr k.ep ≡ Some (taker_of_line l)
    → OutWorkOf way k hub place frindex s l u aside (record w { bus = begin_after w.fixed frindex w.bus })
