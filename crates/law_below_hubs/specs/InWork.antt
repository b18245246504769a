-- The work of hubs where a microframe begins, as an IN endpoint below one of them sees it (USB 2.0, 11.17 and 11.18): a few events of the
-- machine of its pipe.
--     in_asked, in_answer         what is asked and answered, as the pipe says it
--     SameReceiving l m           the host has in m what it has in l
--     InWorkIsEvents              the law
use Rattle.std.specs.Prelude.{◌≡◌, ℕ, Some}
use Rattle.usb_base.specs.declared.packets.Dir.TheVariants as Directions
use Rattle.usb_base.specs.declared.packets.Pid.TheVariants as Pids
use Rattle.usb_base.specs.declared.packets.Reply.{Reply}
use Rattle.usb_base.specs.declared.packets.Reply.TheVariants.{Silent, Bytes, Hand}
use Rattle.hub_keys.specs.declared.key.Key.{Key}
use Rattle.tt_bulk.specs.Contents.{Taken}
use Rattle.bus_wire.specs.Fixed.{Fixed}
use Rattle.bus_wire.specs.Below.{Below}
use Rattle.bus_wire.specs.Bus.{Wired, begin_after}
use Rattle.law_ring.specs.Bus.{Sender}
use Rattle.law_translated.specs.Lift.{Way, Wait, Slot, Run}
use Rattle.law_translated.specs.InPipes.{Line, in_halves}
use Rattle.law_translated.specs.InPipes as Pipe
use Rattle.law_translated.specs.KeySlots.{KeySlot}
use Rattle.law_translated.specs.KeyEvents.{left_wait, with_slot}
use Rattle.law_below_hubs.specs.Seated.{sender_at, sender_on}
use Rattle.law_below_hubs.specs.HubsKeys.{is_second, HubsHave, IsOfKind, AreRightHubs}

-- ---- the pipe

abbrev pub in_asked : Taken → Pipe.Ask
in_asked a = Pipe.In

-- a handshake that no device gives to an IN brings no data
abbrev pub in_answer : Reply → Pipe.Reply
in_answer Silent = Pipe.Err
in_answer (Bytes pid bytes) = Pipe.Data (is_second pid) bytes
in_answer (Hand Pids.Stall) = Pipe.Stall
in_answer (Hand Pids.Err) = Pipe.Err
in_answer (Hand _) = Pipe.Nak

-- the device's side of the line
abbrev pub sender_of_line : Line → Sender
sender_of_line l = record { left = l.left; sends = l.sends }

-- the host's side
pub record SameReceiving (l m : Line) : Type 0 where
  pub accepted : m.accepted ≡ l.accepted
  pub expects : m.expects ≡ l.expects
  pub going : m.going ≡ l.going

-- a bus below shows the line
pub record ShowsSender (fixed : Fixed) (k : Key) (w : Below) (l : Line) : Type 0 where
  pub same : w.fixed ≡ fixed
  pub sender : sender_on w k.addr k.ep ≡ Some (sender_of_line l)

-- ---- the law

pub record InWorkOf (way : Way) (k : Key) (hub place frindex : ℕ) (s : KeySlot) (l : Line) (u : Wait) (aside : Slot Pipe.Ask Pipe.Reply)
    (v : Wired) : Type 0 where
  pub line : Line
  pub slot : KeySlot
  pub host : SameReceiving l line
  pub sender : sender_at v k.addr k.ep ≡ Some (sender_of_line line)
  pub has : HubsHave way k hub place v.bus.hubs slot
  pub right : AreRightHubs (IsOfKind k) v.bus.hubs
  pub run : Run in_halves way (with_slot in_halves in_asked in_answer l u s aside)
      (with_slot in_halves in_asked in_answer line (left_wait way frindex u) slot aside)

-- whatever else the hubs do
abbrev pub InWorkIsEvents : Type 0
InWorkIsEvents = (way : Way) (k : Key) (hub place frindex : ℕ) (s : KeySlot) (l : Line) (u : Wait) (aside : Slot Pipe.Ask Pipe.Reply)
    (w : Wired) → k.dir ≡ Directions.In
    → HubsHave way k hub place w.bus.hubs s → AreRightHubs (IsOfKind k) w.bus.hubs → sender_at w k.addr k.ep ≡ Some (sender_of_line l)
    → InWorkOf way k hub place frindex s l u aside (record w { bus = begin_after w.fixed frindex w.bus })
