-- What is recorded of the requests of control endpoints at an event of the controller (EHCI 1.0, 4.6 and 4.10; USB 2.0, 8.5.3).
--     IsLeftAlone fixed w new x  there is a device of an endpoint of this name, and it stays as it is
--     IsOwned ..                 what stands in memory is the driver's, and each run of blocks has one owner
--     EventKeepsRecords          the law
--     EventKeepsClosed           .. and the acts of closed windows stay, and where the queue is at rest those of all
use Rattle.std.specs.Prelude.{◌≡◌, ℕ, Bool, true, slice_get, Some}
use Rattle.std.specs.List.{AllByRecursion}
use Rattle.bus_wire.specs.Bus.{Fixed}
use Rattle.law_structures.specs.lent_structures.Structures.{StructureSets}
use Rattle.drv_table.specs.declared.content.Endpoint.{Endpoint as DriverEndpoint}
use Rattle.drv_table.specs.DriverContent.{DriverContent}
use Rattle.claims_driver.specs.Owners.{views_of}
use Rattle.claims_driver.specs.Leaving.{HasOwners}
use Rattle.claims_report.specs.Requests.{Request}
use Rattle.dev_control.specs.Stages.{Stages}
use Rattle.law_ring.specs.Hand.{Hand}
use Rattle.claims_base.specs.Controller.{Base}
use Rattle.law_devices.specs.ring_requests.Windows.{Queue}
use Rattle.claims_report.specs.ControlSides.{Device}
use Rattle.law_devices.specs.Controls.{control_of}
use Rattle.law_devices.specs.scripted_requests.Controls.{transacts_by, begins_by}
use Rattle.law_driver_ring.specs.Inventory.{sorts_of, IsDriven}
use Rattle.bus_world.specs.World.{World, controller_next, controller_parts}
use Rattle.claims_world.specs.Requests.{wired, Windows, after_event, numbers_of}
use Rattle.law_reports.specs.requests.driver_requests.Requests.{HaveQtds}
use Rattle.law_reports.specs.requests.world_requests.Requesting.{IsWalked, RingGoesOn}
use Rattle.law_reports.specs.requests.Courses.{Course, Rests, have_queues, CoursesStand}
use Rattle.law_reports.specs.requests.QueueEvents.{courses_after, CoursesGoOn}
use Rattle.law_reports.specs.requests.Records.{Numbers, AreRecords}

pub record IsLeftAlone (fixed : Fixed) (w new : World) (x : DriverEndpoint) : Type 0 where
  pub device : Device
  pub before : control_of (wired fixed w) x.desc.name.addr x.desc.name.num ≡ Some device
  pub after : control_of (wired fixed new) x.desc.name.addr x.desc.name.num ≡ Some device

pub record IsOwned (d : DriverContent) (parts : StructureSets) : Type 0 where
  pub owners : HasOwners d
  pub qtds : HaveQtds d
  pub driven : IsDriven (views_of d) (sorts_of parts)

abbrev pub EventKeepsRecords : Type 0
EventKeepsRecords = (fixed : Fixed) (base : Base) (member : ℕ → Bool) (courses : ℕ → Course) (numbers : ℕ → Numbers) (gone : ℕ → Bool) (parts : StructureSets) (hand : Hand) (asks : ℕ → Request) (w : World) (v : Windows)
    (event : RingGoesOn begins_by transacts_by base member parts hand (wired fixed w) (wired fixed (controller_next fixed w)) (controller_parts (controller_next fixed w)))
    (g : CoursesGoOn control_of member courses event.effect) → IsWalked base member parts hand (controller_parts w) → CoursesStand control_of member courses parts hand (wired fixed w)
    → IsOwned w.driver parts → ((e : ℕ) (x : DriverEndpoint) → gone e ≡ true → slice_get w.driver.endpoints e ≡ Some x → IsLeftAlone fixed w (controller_next fixed w) x)
    → AreRecords w.driver asks courses numbers gone v → AreRecords w.driver asks (courses_after g.step courses) numbers gone (after_event fixed w v)

pub record ClosedStay (d : DriverContent) (courses : ℕ → Course) (numbers : ℕ → Numbers) (gone : ℕ → Bool) (v now : Windows) : Type 0 where
  pub each : (n : ℕ) → have_queues courses n ≡ true → AllByRecursion (λ t. now.acts t ≡ v.acts t) (numbers n).closed
  pub rests : (n b : ℕ) (q : Queue) (c : Stages) → courses n ≡ Rests q b c → AllByRecursion (λ t. now.acts t ≡ v.acts t) (numbers_of d (numbers n).endpoint)
  pub left : (e : ℕ) → gone e ≡ true → AllByRecursion (λ t. now.acts t ≡ v.acts t) (numbers_of d e)

abbrev pub EventKeepsClosed : Type 0
EventKeepsClosed = (fixed : Fixed) (base : Base) (member : ℕ → Bool) (courses : ℕ → Course) (numbers : ℕ → Numbers) (gone : ℕ → Bool) (parts : StructureSets) (hand : Hand) (asks : ℕ → Request) (w : World) (v : Windows)
    (event : RingGoesOn begins_by transacts_by base member parts hand (wired fixed w) (wired fixed (controller_next fixed w)) (controller_parts (controller_next fixed w)))
    (g : CoursesGoOn control_of member courses event.effect) → IsWalked base member parts hand (controller_parts w) → CoursesStand control_of member courses parts hand (wired fixed w)
    → IsOwned w.driver parts → ((e : ℕ) (x : DriverEndpoint) → gone e ≡ true → slice_get w.driver.endpoints e ≡ Some x → IsLeftAlone fixed w (controller_next fixed w) x)
    → AreRecords w.driver asks courses numbers gone v → ClosedStay w.driver courses numbers gone v (after_event fixed w v)
