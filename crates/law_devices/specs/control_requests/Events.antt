-- Each event of the controller over a ring, and the requests of its control endpoints (EHCI 1.0, 4.6 and 4.10; USB 2.0, 8.5.3).
--     IsControlStepOf ..      which transaction of a request, or advance to the next one, it is: none where a microframe began, else as the event of the
--                             walk tells
--     ControlWindowsGoOn ..   an event of the controller: at most one such step, and none of an endpoint whose request halted
use Rattle.std.specs.Prelude.{◌≡◌, ℕ, Bool, List, Option, None}
use Rattle.usb_base.specs.declared.packets.Ask.{Ask}
use Rattle.usb_base.specs.declared.packets.Reply.{Reply}
use Rattle.hc_core.specs.Controller.{Content}
use Rattle.law_structures.specs.lent_structures.Structures.{StructureSets}
use Rattle.claims_report.specs.ControlSides.{Device}
use Rattle.law_ring.specs.Hand.{Hand}
use Rattle.claims_base.specs.Controller.{Base}
use Rattle.law_controller.specs.controlled_streams.Control.{ControlEffect, a_microframe, a_step, Controls}
use Rattle.law_devices.specs.ring_requests.Windows.{Queue, Lines, AreWindows, Step, stepped, IsStepOf, HaltedStay}

abbrev pub IsControlStepOf : {W : Type 0} {begins : W → ℕ → Bool → W → Type 0} {transacts : W → Ask → List ℕ → Reply → W → Type 0} {parts : StructureSets} {hand : Hand} {wire after : W}
    {now : StructureSets} {later : Hand} → (ℕ → Bool) → (ℕ → Lines) → Option Step → ControlEffect begins transacts parts hand wire after now later → Type 0
IsControlStepOf windows lines o (a_microframe b) = o ≡ None
IsControlStepOf windows lines o (a_step k) = IsStepOf windows lines o k.effect

pub record ControlWindowsGoOn {W : Type 0} (begins : W → ℕ → Bool → W → Type 0) (transacts : W → Ask → List ℕ → Reply → W → Type 0) (device : W → ℕ → ℕ → Option Device) (base : Base)
    (member windows : ℕ → Bool) (sent : ℕ → Queue) (lines : ℕ → Lines) (parts : StructureSets) (hand : Hand) (wire after : W) (new : Content) : Type 0 where
  pub event : Controls begins transacts base member parts hand wire after new
  pub step : Option Step
  pub all : AreWindows device member windows sent (stepped sent step lines) event.now event.later after
  pub is : IsControlStepOf windows lines step event.effect
  pub halted : HaltedStay windows lines step
