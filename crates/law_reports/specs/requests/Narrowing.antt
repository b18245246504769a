-- Control endpoints leave the ring (EHCI 1.0, 4.8.2): of their queues nothing more is told, and each of their windows has at most one act.
--     courses_met narrow courses      the queues of the queue heads that the walk may still meet
--     CoursesAreMet              the law: these stand as they did
--     HaveGone gone courses numbers now
--                                each endpoint that is gone now was so before, or had such a queue
--     RecordsAreMet              the law of what is recorded
use Rattle.std.specs.Prelude.{◌≡◌, ◌⊎◌, ℕ, Bool, true, Option, if◌then◌else◌}
use Rattle.drv_table.specs.DriverContent.{DriverContent}
use Rattle.law_structures.specs.lent_structures.Structures.{StructureSets}
use Rattle.claims_report.specs.Requests.{Request}
use Rattle.claims_report.specs.ControlSides.{Device}
use Rattle.law_ring.specs.Hand.{Hand}
use Rattle.law_ring.specs.Stores.{IsWider}
use Rattle.claims_world.specs.Requests.{Windows}
use Rattle.law_reports.specs.requests.Courses.{Course, NoQueue, have_queues, CoursesStand}
use Rattle.law_reports.specs.requests.Records.{Numbers, AreRecords}

abbrev pub courses_met : (ℕ → Bool) → (ℕ → Course) → ℕ → Course
courses_met narrow courses n = if narrow n then courses n else NoQueue

abbrev pub CoursesAreMet : {W : Type 0} → (W → ℕ → ℕ → Option Device) → Type 0
CoursesAreMet {W} device = (member narrow : ℕ → Bool) (courses : ℕ → Course) (parts : StructureSets) (hand : Hand) (wire : W) → IsWider narrow member
    → CoursesStand device member courses parts hand wire → CoursesStand device narrow (courses_met narrow courses) parts hand wire

pub record HadQueue (courses : ℕ → Course) (numbers : ℕ → Numbers) (e : ℕ) : Type 0 where
  pub queue : ℕ
  pub has : have_queues courses queue ≡ true
  pub is : (numbers queue).endpoint ≡ e

abbrev pub HaveGone : (ℕ → Bool) → (ℕ → Course) → (ℕ → Numbers) → (ℕ → Bool) → Type 0
HaveGone gone courses numbers now = (e : ℕ) → now e ≡ true → (gone e ≡ true) ⊎ HadQueue courses numbers e

abbrev pub RecordsAreMet : {W : Type 0} → (W → ℕ → ℕ → Option Device) → Type 0
RecordsAreMet {W} device = (d : DriverContent) (asks : ℕ → Request) (member narrow : ℕ → Bool) (courses : ℕ → Course) (numbers : ℕ → Numbers) (gone now : ℕ → Bool) (v : Windows)
    (parts : StructureSets) (hand : Hand) (wire : W) → HaveGone gone courses numbers now → CoursesStand device member courses parts hand wire → AreRecords d asks courses numbers gone v
    → AreRecords d asks (courses_met narrow courses) numbers now v
