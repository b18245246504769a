-- Each event of the controller keeps the windows of all requests.
use Rattle.std.proofs.Common.{◌≡◌, ℕ, Bool, List, Option, Some, None, refl, sym, subst, ◌∙◌}
use Rattle.usb_base.specs.declared.packets.Ask.{Ask}
use Rattle.usb_base.specs.declared.packets.Reply.{Reply}
use Rattle.hc_core.specs.Controller.{Content, microframe_row, HasRow, walk_place}
use Rattle.law_structures.specs.lent_structures.Structures.{StructureSets}
use Rattle.claims_report.specs.ControlSides.{Device}
use Rattle.law_devices.specs.request_calls.Bus.{device_of, IsControlBus, KeepsDevices}
use Rattle.law_ring.specs.Hand.{Hand}
use Rattle.claims_base.specs.Controller.{Base}
use Rattle.law_ring.specs.Ring.{IsRing}
use Rattle.law_ring.specs.Effects.{AreBytesHeard}
use Rattle.law_controller.specs.controlled_streams.Control.{IsOn, IsControlled, BeginsMicroframe, ControlEffect, a_microframe, a_step, Controls}
use Rattle.law_controller.proofs.lemmas.controlled_streams.Controlling.{each_event_of_the_controller}
use Rattle.law_devices.specs.ring_requests.Windows.{Queue, Lines, IsQueue, AreSent, AreWindows, AreHigh, Step, stepped, HaltedStay}
use Rattle.law_devices.proofs.lemmas.ring_requests.Windows.{none_stay, rest_by}
use Rattle.law_devices.specs.control_requests.Events.{IsControlStepOf, ControlWindowsGoOn}

module _ {W : Type 0} (begins : W → ℕ → Bool → W → Type 0) (transacts : W → Ask → List ℕ → Reply → W → Type 0) (device : W → ℕ → ℕ → Option Device) (base : Base) (member windows : ℕ → Bool) (sent : ℕ → Queue) (fixed : AreSent member windows sent) (bus : IsControlBus transacts device) (keeps : KeepsDevices begins device) (lines : ℕ → Lines) (parts : StructureSets) (hand : Hand) (c : Content) (wire : W) (controlled : IsControlled base member parts hand c) (all : AreWindows device member windows sent lines parts hand wire) (high : AreHigh windows parts) (after : W) (now : StructureSets) (later : Hand) where
  pub record Rest (z : ControlEffect begins transacts parts hand wire after now later) : Type 0 where
    pub step : Option Step
    pub windows_are : AreWindows device member windows sent (stepped sent step lines) now later after
    pub is : IsControlStepOf windows lines step z
    pub halted : HaltedStay windows lines step

  begun : (b : BeginsMicroframe begins parts hand wire after now later) → AreWindows device member windows sent (stepped sent None lines) parts hand after
  begun b = record {
    each = λ n on.
        let w = all.each n on in
        let device_is : device wire (sent n).endpoint.addr (sent n).endpoint.num ≡ Some (device_of (sent n).endpoint ((lines n).line (lines n).under).device) = w.window.device in
        subst (λ (o : Option Device). IsQueue (sent n) (lines n) hand parts n o)
        (device_is ∙ sym (keeps wire b.index b.allowed after (sent n).endpoint.addr (sent n).endpoint.num (device_of (sent n).endpoint ((lines n).line (lines n).under).device) b.asked device_is)) w;
    others = all.others;
  }

  pub rest_of : (z : ControlEffect begins transacts parts hand wire after now later) → Rest z
  rest_of (a_microframe b) = record {
    step = None;
    windows_are = subst (λ (h : Hand). AreWindows device member windows sent (stepped sent None lines) now h after) (sym b.hand_stays)
        (subst (λ (ps : StructureSets). AreWindows device member windows sent (stepped sent None lines) ps hand after) (sym b.parts_stay) (begun b));
    is = refl;
    halted = none_stay windows lines;
  }
  rest_of (a_step k) =
      let ring : IsRing base member parts hand (walk_place c) = controlled.ring in
      let r = rest_by transacts device bus member windows sent fixed lines parts hand (walk_place c).walk.reply wire ring.members ring.in_hand all high after now later k.kind k.effect in
      record { step = r.step; windows_are = r.windows_are; is = r.is; halted = r.halted }

pub an_event_keeps_the_windows : {W : Type 0} (begins : W → ℕ → Bool → W → Type 0) (transacts : W → Ask → List ℕ → Reply → W → Type 0) (device : W → ℕ → ℕ → Option Device) (base : Base) (member windows : ℕ → Bool) (sent : ℕ → Queue) (lines : ℕ → Lines) (parts : StructureSets) (hand : Hand) (c : Content) (wire : W) (new : Content) (after : W)
    → AreSent member windows sent → IsControlBus transacts device → KeepsDevices begins device → IsControlled base member parts hand c → IsOn base
    → AreWindows device member windows sent lines parts hand wire → AreHigh windows parts → AreBytesHeard transacts wire after → HasRow begins transacts (microframe_row c.registers c.control) c wire new after
    → ControlWindowsGoOn begins transacts device base member windows sent lines parts hand wire after new
an_event_keeps_the_windows begins transacts device base member windows sent lines parts hand c wire new after fixed bus keeps controlled on all high heard row =
    let e : Controls begins transacts base member parts hand wire after new = each_event_of_the_controller begins transacts base member parts hand c wire new after controlled on heard row in
    let r = rest_of begins transacts device base member windows sent fixed bus keeps lines parts hand c wire controlled all high after e.now e.later e.effect in
    record { event = e; step = r.step; all = r.windows_are; is = r.is; halted = r.halted }
