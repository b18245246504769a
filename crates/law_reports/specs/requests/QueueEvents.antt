-- The queues of control endpoints at each event of the controller (EHCI 1.0, 4.6 and 4.10; USB 2.0, 8.5.3).
--     line_after, course_after   the windows and the queue of a queue head after a step
--     CoursesGoOn ..             after the event all queues stand as they must: it is one transaction of the request under way of one of them, or the advance of one
--                                queue head to its next request, or no step of any; it asks nothing of a queue at rest
--     EventKeepsCourses          the law, where those that ask are of high speed
--     EventLeavesDevice          .. and the device of an endpoint that no queue head has stays as it is
use Rattle.std.specs.Prelude.{◌≡◌, ℕ, ◌==◌, Bool, true, List, Option, Some, None, if◌then◌else◌}
use Rattle.usb_base.specs.declared.packets.Ask.{Ask}
use Rattle.usb_base.specs.declared.packets.Reply.{Reply}
use Rattle.hc_core.specs.Controller.{Content}
use Rattle.law_structures.specs.lent_structures.Structures.{StructureSets}
use Rattle.dev_control.specs.Stages.{Stages}
use Rattle.claims_report.specs.ControlSides.{Device}
use Rattle.law_devices.specs.request_calls.Bus.{IsControlBus, KeepsDevices}
use Rattle.law_ring.specs.Hand.{Hand}
use Rattle.claims_base.specs.Controller.{Base}
use Rattle.law_ring.specs.Told.{HasEndpoint, Endpoint as Characteristics}
use Rattle.law_controller.specs.controlled_streams.Control.{IsControlled, ControlEffect}
use Rattle.law_devices.specs.ring_requests.Windows.{Queue, Lines, AreWindows, AreHigh, Step, progressed, stepped, HaltedStay}
use Rattle.law_devices.specs.control_requests.Events.{IsControlStepOf}
use Rattle.law_devices.specs.control_requests.Rests.{IsControlBeside}
use Rattle.law_reports.specs.requests.Courses.{Course, NoQueue, Asks, Rests, queues, are_asking, all_lines, CoursesStand}

abbrev pub line_after : Option Step → ℕ → Queue → Lines → Lines
line_after None n v l = l
line_after (Some s) n v l = if n == s.at then progressed v s.is l else l

abbrev pub course_after : Option Step → ℕ → Course → Course
course_after step n NoQueue = NoQueue
course_after step n (Asks v b l) = Asks v b (line_after step n v l)
course_after step n (Rests v b c) = Rests v b c

abbrev pub courses_after : Option Step → (ℕ → Course) → ℕ → Course
courses_after step courses n = course_after step n (courses n)

pub record CoursesGoOn {W : Type 0} {begins : W → ℕ → Bool → W → Type 0} {transacts : W → Ask → List ℕ → Reply → W → Type 0} {parts : StructureSets} {hand : Hand} {wire after : W}
    {now : StructureSets} {later : Hand} (device : W → ℕ → ℕ → Option Device) (member : ℕ → Bool) (courses : ℕ → Course) (effect : ControlEffect begins transacts parts hand wire after now later) : Type 0 where
  pub step : Option Step
  pub stand : CoursesStand device member (courses_after step courses) now later after
  pub windows : AreWindows device member (are_asking courses) (queues courses) (stepped (queues courses) step (all_lines courses)) now later after
  pub is : IsControlStepOf (are_asking courses) (all_lines courses) step effect
  pub halted : HaltedStay (are_asking courses) (all_lines courses) step
  pub rests : (n b : ℕ) (v : Queue) (c : Stages) → courses n ≡ Rests v b c → IsControlBeside n effect

abbrev pub EventKeepsCourses : {W : Type 0} → (W → ℕ → Bool → W → Type 0) → (W → Ask → List ℕ → Reply → W → Type 0) → (W → ℕ → ℕ → Option Device) → Type 0
EventKeepsCourses {W} begins transacts device = (base : Base) (member : ℕ → Bool) (courses : ℕ → Course) (parts : StructureSets) (hand : Hand) (content : Content) (wire after : W)
    (now : StructureSets) (later : Hand) (effect : ControlEffect begins transacts parts hand wire after now later) → IsControlBus transacts device → KeepsDevices begins device
    → IsControlled base member parts hand content → AreHigh (are_asking courses) parts → CoursesStand device member courses parts hand wire → CoursesGoOn device member courses effect

abbrev pub EventLeavesDevice : {W : Type 0} → (W → ℕ → Bool → W → Type 0) → (W → Ask → List ℕ → Reply → W → Type 0) → (W → ℕ → ℕ → Option Device) → Type 0
EventLeavesDevice {W} begins transacts device = (base : Base) (member : ℕ → Bool) (parts : StructureSets) (hand : Hand) (content : Content) (wire after : W) (now : StructureSets) (later : Hand)
    (effect : ControlEffect begins transacts parts hand wire after now later) (addr num : ℕ) (d : Device) → IsControlBus transacts device → KeepsDevices begins device
    → IsControlled base member parts hand content → ((k : ℕ) (own : Characteristics) → member k ≡ true → HasEndpoint parts k own → addr ≡ own.addr → num ≡ own.ep → ⊥)
    → device wire addr num ≡ Some d → device after addr num ≡ Some d
