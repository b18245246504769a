-- How often the device of a control endpoint acted (USB 2.0, 8.5.3): its control stages count one for each act in the windows of its transfers, up to the last value
-- of 32 bits.
--     counted_all v ts n         the count after the acts that are recorded in the windows of these transfers
--     Counts o k                 the device's count is k
--     EventKeepsCounts           the law: after an event of the controller the count of the device of each queue is that of its transfers' windows
--     CountsAreActs              where each window has at most one act, it is the number of those that have one
use Rattle.std.specs.Prelude.{◌≡◌, ℕ, Bool, true, min, List, [], ◌∷◌, length, map, filter, slice_get, Option, Some}
use Rattle.std.specs.List.{AllByRecursion}
use Rattle.law_device.specs.Acts.{counted}
use Rattle.bus_wire.specs.Bus.{Fixed}
use Rattle.law_structures.specs.lent_structures.Structures.{StructureSets}
use Rattle.drv_table.specs.declared.content.Endpoint.{Endpoint as DriverEndpoint}
use Rattle.claims_report.specs.Requests.{Request, has_acted}
use Rattle.claims_report.specs.ControlSides.{Device}
use Rattle.law_ring.specs.Hand.{Hand}
use Rattle.claims_base.specs.Controller.{Base}
use Rattle.law_devices.specs.Controls.{control_of}
use Rattle.law_devices.specs.scripted_requests.Controls.{transacts_by, begins_by}
use Rattle.bus_world.specs.World.{World, controller_next, controller_parts}
use Rattle.claims_world.specs.Requests.{wired, Windows, after_event, numbers_of, window_at}
use Rattle.law_reports.specs.requests.world_requests.Requesting.{IsWalked, RingGoesOn}
use Rattle.law_reports.specs.requests.Courses.{Course, queue_in, have_queues, CoursesStand}
use Rattle.law_reports.specs.requests.QueueEvents.{CoursesGoOn}
use Rattle.law_reports.specs.requests.Records.{Numbers, IsOnceAt, AreRecords}
use Rattle.law_reports.specs.requests.TransferEvents.{IsLeftAlone, IsOwned}

abbrev pub counted_all : Windows → List ℕ → ℕ → ℕ
counted_all v [] n = n
counted_all v (t ∷ ts) n = counted_all v ts (counted (v.acts t) n)

abbrev pub Counts : Option Device → ℕ → Type 0
Counts o k = (c : Device) → o ≡ Some c → c.stages.acted ≡ k

abbrev pub side_at : Fixed → World → Course → Option Device
side_at fixed w c = control_of (wired fixed w) (queue_in c).endpoint.addr (queue_in c).endpoint.num

abbrev pub EventKeepsCounts : Type 0
EventKeepsCounts = (fixed : Fixed) (base : Base) (member : ℕ → Bool) (courses : ℕ → Course) (numbers : ℕ → Numbers) (gone : ℕ → Bool) (parts : StructureSets) (hand : Hand) (asks : ℕ → Request) (w : World)
    (v : Windows) (event : RingGoesOn begins_by transacts_by base member parts hand (wired fixed w) (wired fixed (controller_next fixed w)) (controller_parts (controller_next fixed w)))
    (g : CoursesGoOn control_of member courses event.effect) → IsWalked base member parts hand (controller_parts w) → CoursesStand control_of member courses parts hand (wired fixed w)
    → IsOwned w.driver parts → ((e : ℕ) (x : DriverEndpoint) → gone e ≡ true → slice_get w.driver.endpoints e ≡ Some x → IsLeftAlone fixed w (controller_next fixed w) x)
    → AreRecords w.driver asks courses numbers gone v → (n : ℕ) → have_queues courses n ≡ true
    → Counts (side_at fixed w (courses n)) (counted_all v (numbers_of w.driver (numbers n).endpoint) 0)
    → Counts (side_at fixed (controller_next fixed w) (courses n)) (counted_all (after_event fixed w v) (numbers_of w.driver (numbers n).endpoint) 0)

abbrev pub CountsAreActs : Type 0
CountsAreActs = (asks : ℕ → Request) (v : Windows) (ts : List ℕ) → AllByRecursion (IsOnceAt asks v) ts → counted_all v ts 0 ≡ min (length (filter has_acted (map (window_at asks v) ts))) 4294967295
