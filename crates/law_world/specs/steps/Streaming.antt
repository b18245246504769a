-- The streams of the IN endpoints of a world (EHCI 1.0, 4.6, 4.8 and 4.10; USB 2.0, 8.6): the controller runs over a ring, the pipes of these endpoints
-- agree with the devices of the bus, and what is reported of each is right.
--     begins_by, transacts_by   the wire of a world
--     wired fixed w             the bus of a world, with what is fixed of it
--     Streams                   what doesn't change: the queue heads with streams, their endpoints and packets
--     Standing                  what does: structures, copy in hand, packets taken, published qTDs and bytes reported
--     IsStreaming ..            the world is so
--     HearsBytesNow fixed w     whatever is asked now, each byte that is heard is below 256
use Rattle.std.specs.Prelude.{◌≡◌, ℕ, Bool, List}
use Rattle.usb_base.specs.declared.packets.Ask.{Ask}
use Rattle.usb_base.specs.declared.packets.Reply.{Reply}
use Rattle.bus_wire.specs.Bus.{Wired, Fixed, begin_after, is_allowed, reply_of, transact_after}
use Rattle.law_structures.specs.lent_structures.Structures.{StructureSets}
use Rattle.law_ring.specs.Hand.{Hand}
use Rattle.claims_base.specs.Controller.{Base}
use Rattle.law_ring.specs.Effects.{AreBytesHeard}
use Rattle.law_ring.specs.Told.{Endpoint}
use Rattle.law_controller.specs.controlled_streams.Control.{IsOn, IsControlled}
use Rattle.law_ring.specs.Pipes.{AreEndpoints, ArePiped}
use Rattle.law_devices.specs.Senders.{sender_of}
use Rattle.law_controller.specs.controlled_streams.Reported.{AreReported}
use Rattle.bus_world.specs.World.{World, controller_parts}

abbrev pub begins_by : Wired → ℕ → Bool → Wired → Type 0
begins_by w frindex allowed v = (allowed ≡ is_allowed w.fixed w.bus) × (v ≡ record w { bus = begin_after w.fixed frindex w.bus })

abbrev pub transacts_by : Wired → Ask → List ℕ → Reply → Wired → Type 0
transacts_by w ask out reply v = (reply ≡ reply_of w.fixed w.bus ask out) × (v ≡ record w { bus = transact_after w.fixed w.bus ask out })

abbrev pub wired : Fixed → World → Wired
wired fixed w = record { fixed = fixed; bus = w.bus }

pub record Streams : Type 0 where
  pub stream : ℕ → ℕ → Bool
  pub packets : ℕ → ℕ → List (List ℕ)
  pub streams : ℕ → Bool
  pub endpoint : ℕ → Endpoint

pub record Standing : Type 0 where
  pub parts : StructureSets
  pub hand : Hand
  pub acc : ℕ → List (List ℕ)
  pub order : ℕ → ℕ → ℕ
  pub out : ℕ → List ℕ
  pub reported : ℕ → List ℕ

pub record IsStreaming (fixed : Fixed) (base : Base) (member : ℕ → Bool) (x : Streams) (s : Standing) (w : World) : Type 0 where
  pub on : IsOn base
  pub ends : AreEndpoints x.stream member x.streams x.endpoint
  pub controlled : IsControlled base member s.parts s.hand (controller_parts w)
  pub piped : ArePiped x.stream x.packets sender_of member x.streams x.endpoint s.acc s.parts s.hand (wired fixed w)
  pub right : AreReported x.streams s.order s.out s.hand s.parts s.acc s.reported

abbrev pub HearsBytesNow : Fixed → World → Type 0
HearsBytesNow fixed w = (after : Wired) → AreBytesHeard transacts_by (wired fixed w) after

-- an event leaves it so, with the same published qTDs and the same report
pub record StaysStreaming (fixed : Fixed) (base : Base) (member : ℕ → Bool) (x : Streams) (s : Standing) (new : World) : Type 0 where
  pub parts : StructureSets
  pub hand : Hand
  pub acc : ℕ → List (List ℕ)
  pub streaming : IsStreaming fixed base member x (record s { parts = parts; hand = hand; acc = acc }) new
