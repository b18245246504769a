-- The control requests of a world (EHCI 1.0, 4.6, 4.8 and 4.10; USB 2.0, 8.5.3): the controller runs over a ring, and the windows of these requests
-- stand as they must to the devices of the bus.
--     IsRequesting ..           the world is so
--     IsWalked ..               the walk of the ring is over a ring, and nothing is in hand between its visits, whatever the frames have
--     RingGoesOn ..             an event that begins a microframe or is one of that walk, with its effect
--     WindowsGoOn ..            .. and the windows after it
--     AreAsked ..               such a walk is under way, and the windows stand as they must
--     HearsBytesNow fixed w     whatever is asked now, each byte that is heard is below 256
--     StaysRequesting ..        an event leaves it so, with at most one transaction of one of the requests, or the advance of one queue head to its next
--                               request, and neither of an endpoint whose request halted
use Rattle.std.specs.Prelude.{◌≡◌, ◌≢◌, ℕ, Bool, List, Option}
use Rattle.usb_base.specs.declared.packets.Ask.{Ask}
use Rattle.usb_base.specs.declared.packets.Reply.{Reply}
use Rattle.hc_core.specs.declared.controller.MicroframePart.TheVariants.{Asynchronous}
use Rattle.hc_core.specs.Controller.{Content, walk_place}
use Rattle.claims_report.specs.ControlSides.{Device}
use Rattle.bus_wire.specs.Bus.{Wired, Fixed}
use Rattle.law_structures.specs.lent_structures.Structures.{StructureSets}
use Rattle.law_ring.specs.Hand.{Hand, Empty}
use Rattle.law_ring.specs.Ring.{IsRing}
use Rattle.claims_base.specs.Controller.{Base}
use Rattle.law_ring.specs.Effects.{AreBytesHeard}
use Rattle.law_controller.specs.controlled_streams.Control.{IsOn, IsControlled, ControlEffect}
use Rattle.law_devices.specs.ring_requests.Windows.{Queue, Lines, AreSent, AreWindows, Step, stepped, HaltedStay}
use Rattle.law_devices.specs.control_requests.Events.{IsControlStepOf}
use Rattle.law_devices.specs.Controls.{control_of}
use Rattle.law_devices.specs.scripted_requests.Controls.{transacts_by}
use Rattle.bus_world.specs.World.{World, controller_parts}
use Rattle.claims_world.specs.Requests.{wired}

pub record IsRequesting (fixed : Fixed) (base : Base) (member windows : ℕ → Bool) (sent : ℕ → Queue) (parts : StructureSets) (hand : Hand) (lines : ℕ → Lines) (w : World) : Type 0 where
  pub on : IsOn base
  pub are : AreSent member windows sent
  pub controlled : IsControlled base member parts hand (controller_parts w)
  pub all : AreWindows control_of member windows sent lines parts hand (wired fixed w)

-- ---- a ring, whatever its frames have

pub record IsWalked (base : Base) (member : ℕ → Bool) (parts : StructureSets) (hand : Hand) (c : Content) : Type 0 where
  pub ring : IsRing base member parts hand (walk_place c)
  pub between : c.control.part ≢ Asynchronous → hand ≡ Empty

pub record RingGoesOn {W : Type 0} (begins : W → ℕ → Bool → W → Type 0) (transacts : W → Ask → List ℕ → Reply → W → Type 0) (base : Base)
    (member : ℕ → Bool) (parts : StructureSets) (hand : Hand) (wire after : W) (new : Content) : Type 0 where
  pub now : StructureSets
  pub later : Hand
  pub ring : IsRing base member now later (walk_place new)
  pub effect : ControlEffect begins transacts parts hand wire after now later

pub record WindowsGoOn {W : Type 0} (begins : W → ℕ → Bool → W → Type 0) (transacts : W → Ask → List ℕ → Reply → W → Type 0)
    (device : W → ℕ → ℕ → Option Device) (base : Base) (member windows : ℕ → Bool) (sent : ℕ → Queue) (lines : ℕ → Lines)
    (parts : StructureSets) (hand : Hand) (wire after : W) (new : Content) : Type 0 where
  pub event : RingGoesOn begins transacts base member parts hand wire after new
  pub step : Option Step
  pub all : AreWindows device member windows sent (stepped sent step lines) event.now event.later after
  pub is : IsControlStepOf windows lines step event.effect
  pub halted : HaltedStay windows lines step

pub record AreAsked (fixed : Fixed) (base : Base) (member windows : ℕ → Bool) (sent : ℕ → Queue) (parts : StructureSets) (hand : Hand)
    (lines : ℕ → Lines) (w : World) : Type 0 where
  pub walked : IsWalked base member parts hand (controller_parts w)
  pub all : AreWindows control_of member windows sent lines parts hand (wired fixed w)

-- ---- an event

abbrev pub HearsBytesNow : Fixed → World → Type 0
HearsBytesNow fixed w = (after : Wired) → AreBytesHeard transacts_by (wired fixed w) after

pub record StaysRequesting (fixed : Fixed) (base : Base) (member windows : ℕ → Bool) (sent : ℕ → Queue) (lines : ℕ → Lines) (new : World) : Type 0 where
  pub parts : StructureSets
  pub hand : Hand
  pub step : Option Step
  pub requesting : IsRequesting fixed base member windows sent parts hand (stepped sent step lines) new
  pub halted : HaltedStay windows lines step
