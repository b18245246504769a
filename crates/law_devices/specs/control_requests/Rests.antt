-- Each event of the controller over a ring, and a queue of which no request is under way (EHCI 1.0, 4.6 and 4.10; USB 2.0, 8.5.3).
--     IsControlBeside n effect   a microframe begins, or the event of the walk asks nothing of the queue head at n
--     ControlRestStays ..        the queue is at rest after an event of the controller as before it, and nothing was asked of it
--     ControlKeepsRest           the law
use Rattle.std.specs.Prelude.{◌≡◌, ℕ, Bool, List, Option}
use Rattle.usb_base.specs.declared.packets.Ask.{Ask}
use Rattle.usb_base.specs.declared.packets.Reply.{Reply}
use Rattle.hc_core.specs.Controller.{Content}
use Rattle.law_structures.specs.lent_structures.Structures.{StructureSets}
use Rattle.dev_control.specs.Stages.{Stages}
use Rattle.law_request.specs.Host.{Endpoint}
use Rattle.claims_report.specs.ControlSides.{Device}
use Rattle.law_devices.specs.request_calls.Bus.{IsControlBus, KeepsDevices}
use Rattle.law_ring.specs.Hand.{Hand}
use Rattle.claims_base.specs.Controller.{Base}
use Rattle.law_controller.specs.controlled_streams.Control.{IsControlled, ControlEffect, a_microframe, a_step}
use Rattle.law_devices.specs.ring_requests.Resting.{IsAtRest, IsAlone, IsBeside}

abbrev pub IsControlBeside : {W : Type 0} {begins : W → ℕ → Bool → W → Type 0} {transacts : W → Ask → List ℕ → Reply → W → Type 0} {parts : StructureSets} {hand : Hand} {wire after : W}
    {now : StructureSets} {later : Hand} → ℕ → ControlEffect begins transacts parts hand wire after now later → Type 0
IsControlBeside n (a_microframe b) = Unit {0}
IsControlBeside n (a_step k) = IsBeside n k.effect

pub record ControlRestStays {W : Type 0} {begins : W → ℕ → Bool → W → Type 0} {transacts : W → Ask → List ℕ → Reply → W → Type 0} {parts : StructureSets} {hand : Hand} {wire after : W}
    {now : StructureSets} {later : Hand} (device : W → ℕ → ℕ → Option Device) (member : ℕ → Bool) (e : Endpoint) (c : Stages) (b n : ℕ)
    (effect : ControlEffect begins transacts parts hand wire after now later) : Type 0 where
  pub rest : IsAtRest e c b later now n (device after e.addr e.num)
  pub alone : IsAlone member e now n
  pub same : now n ≡ parts n
  pub beside : IsControlBeside n effect

abbrev pub ControlKeepsRest : {W : Type 0} → (W → ℕ → Bool → W → Type 0) → (W → Ask → List ℕ → Reply → W → Type 0) → (W → ℕ → ℕ → Option Device) → Type 0
ControlKeepsRest {W} begins transacts device = (base : Base) (member : ℕ → Bool) (e : Endpoint) (c : Stages) (b n : ℕ) (parts : StructureSets) (hand : Hand) (content : Content) (wire after : W)
    (now : StructureSets) (later : Hand) (effect : ControlEffect begins transacts parts hand wire after now later) → IsControlBus transacts device → KeepsDevices begins device
    → IsControlled base member parts hand content → IsAlone member e parts n → IsAtRest e c b hand parts n (device wire e.addr e.num) → ControlRestStays device member e c b n effect
