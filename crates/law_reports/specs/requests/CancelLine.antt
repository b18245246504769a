-- What the line of a cancel tells of a control endpoint at high speed (EHCI 1.0, 4.8.2 and 4.10; USB 2.0, 8.5.3): of each of its requests
-- that isn't reported the bytes that were moved of its data, and of its SETUP and its status none.
--     IsDataTold ..              of the data of a request, whose qTD stands in block b, these bytes were moved; once its status alone is
--                                left, so many are noted
--     IsCounted ..               what is known of a request that waits, of whose data these bytes were moved
--     waiting_from e k ts        the numbers of those of these transfers that wait for endpoint e; the first of them has number k
--     HasBegun ..                a transfer that waits is counted so, and the bytes begin the data of its request
--     HaveBegun ..               so is each of these transfers
--     RequestIsCounted           the law: of a request that waits just these bytes are told
--     CancelIsBegun              .. so the line tells beginnings of the data of all that wait, joined in their order
--     CourseBegins               .. what is told of the data of any request of a queue begins them
--     MetBegins                  .. and so the data that the script has for it, while a walk may meet the endpoint
--     WaitsAreUnreported         where lines tell of requests in their order, those that wait are those that no line tells of
use Rattle.std.specs.Prelude.{◌≡◌, ℕ, suc, ◌<◌, ◌≤◌, ◌*◌, Bool, true, false, List, [], ◌∷◌, length, take, map, Option, if◌then◌else◌}
use Rattle.usb_base.specs.declared.endpoints.EpName.{EpName}
use Rattle.usb_base.specs.declared.reports.What.TheVariants.{Cancel}
use Rattle.word_mem.specs.Memory.{Mem}
use Rattle.bus_wire.specs.Bus.{Wired}
use Rattle.claims_base.specs.Prefix.{IsPrefix}
use Rattle.claims_report.specs.ControlSides.{Device}
use Rattle.claims_report.specs.Requests.{Request, IsTold}
use Rattle.claims_world.specs.Requests.{Windows, window_at}
use Rattle.drv_table.specs.declared.content.Endpoint.{Endpoint}
use Rattle.drv_table.specs.declared.content.QtdNote.{QtdNote}
use Rattle.drv_table.specs.declared.content.Transfer.{Transfer}
use Rattle.drv_table.specs.DriverContent.{DriverContent, waits_for}
use Rattle.drv_table.specs.Harvests.{note_at, bytes_now}
use Rattle.drv_table.specs.Releases.{cancelled_bytes}
use Rattle.drv_table.specs.Words.{request_stages}
use Rattle.law_driver.specs.chained_transfers.Turns.{AreInTurn}
use Rattle.law_driver_ring.specs.told_harvests.Held.{told_of, IsRead}
use Rattle.law_queues.specs.cancelled_bytes.Cancelled.{SettlesElsewhere}
use Rattle.law_request.specs.Host.{has_data}
use Rattle.law_request.specs.Windows.{data_of}
use Rattle.law_ring.specs.Hand.{Hand}
use Rattle.law_ring.specs.Told.{Told}
use Rattle.law_structures.specs.lent_structures.Structures.{StructureSets, Tells}
use Rattle.law_reports.specs.requests.Asking.{Sides, Asking, AsksIn, IsMetControl}
use Rattle.law_reports.specs.requests.Courses.{Course, queue_in, IsCourse}
use Rattle.law_reports.specs.requests.Reading.{IsSilent}
use Rattle.law_reports.specs.requests.Telling.{IsTelling}
use Rattle.law_reports.specs.requests.request_bytes.Fresh.{next_of}

-- ---- one request

pub record IsDataTold (hand : Hand) (parts : StructureSets) (n : ℕ) (notes : List QtdNote) (b left : ℕ) (bytes : List ℕ) : Type 0 where
  pub read : IsRead (parts n) (note_at notes b) b
  pub told : Told hand parts n (32 * b) bytes
  pub done : left ≡ 1 → length bytes ≡ (note_at notes b).moved

pub record IsCounted (hand : Hand) (parts : StructureSets) (n : ℕ) (notes : List QtdNote) (y : Transfer) (r : Request) (bytes : List ℕ)
    : Type 0 where
  pub qtds : y.qtds ≡ length (request_stages r.setup)
  pub silent : IsSilent notes y
  pub left : 1 ≤ y.left
  pub setup : y.left < y.qtds → (note_at notes y.first).moved ≡ 0
  pub within : told_of (note_at notes) y.first y.qtds ≤ y.most
  pub told : has_data r ≡ true → IsDataTold hand parts n notes (next_of notes y.first) y.left bytes
  pub none : has_data r ≡ false → bytes ≡ []

abbrev pub RequestIsCounted : Type 0
RequestIsCounted = (m : Mem) (hand : Hand) (parts : StructureSets) (queue : ℕ) (notes : List QtdNote) (y : Transfer) (r : Request)
    (bytes : List ℕ) → Tells m parts → SettlesElsewhere hand (32 * queue) → IsCounted hand parts (32 * queue) notes y r bytes
    → take y.most (bytes_now notes m queue y.first y.qtds y.left) ≡ bytes

-- ---- all of an endpoint

abbrev pub waiting_from : ℕ → ℕ → List Transfer → List ℕ
waiting_from e k [] = []
waiting_from e k (y ∷ ys) = if waits_for e y then k ∷ waiting_from e (suc k) ys else waiting_from e (suc k) ys

pub record HasBegun (hand : Hand) (parts : StructureSets) (n : ℕ) (notes : List QtdNote) (whole : Request → List ℕ) (y : Transfer)
    (r : Request) : Type 0 where
  pub bytes : List ℕ
  pub counted : IsCounted hand parts n notes y r bytes
  pub begins : IsPrefix bytes (whole r)

abbrev pub HaveBegun : Hand → StructureSets → ℕ → List QtdNote → (Request → List ℕ) → (ℕ → Request) → ℕ → ℕ → List Transfer → Type 0
HaveBegun hand parts n notes whole asks e k [] = Unit {0}
HaveBegun hand parts n notes whole asks e k (y ∷ ys) =
    (waits_for e y ≡ true → HasBegun hand parts n notes whole y (asks k)) × HaveBegun hand parts n notes whole asks e (suc k) ys

abbrev pub CancelIsBegun : Type 0
CancelIsBegun = (m : Mem) (hand : Hand) (parts : StructureSets) (queue : ℕ) (notes : List QtdNote) (whole : Request → List ℕ)
    (asks : ℕ → Request) (v : Windows) (e k : ℕ) (ts : List Transfer) → Tells m parts → SettlesElsewhere hand (32 * queue)
    → HaveBegun hand parts (32 * queue) notes whole asks e k ts
    → IsTold whole Cancel (cancelled_bytes notes m e queue ts) (map (window_at asks v) (waiting_from e k ts))

-- ---- of which requests they are

-- whether it is under way, done or behind those
abbrev pub CourseBegins : {W : Type 0} → (W → ℕ → ℕ → Option Device) → Type 0
CourseBegins {W} device = (c : Course) (hand : Hand) (parts : StructureSets) (wire : W) (n i : ℕ) (bytes : List ℕ)
    → IsCourse device parts hand wire n c → i < (queue_in c).count → has_data ((queue_in c).requests i) ≡ true
    → Told hand parts n ((queue_in c).places i).data_at bytes → IsPrefix bytes (data_of (queue_in c).endpoint ((queue_in c).requests i))

abbrev pub MetBegins : Type 0
MetBegins = (g : Sides) (member : ℕ → Bool) (parts : StructureSets) (hand : Hand) (a : Asking) (v : Windows) (asks : ℕ → Request)
    (d : DriverContent) (m : Mem) (wire : Wired) → AsksIn g member parts hand a v asks d m wire → (e i : ℕ) (x : Endpoint)
    (bytes : List ℕ) → IsMetControl g d e x → i < (queue_in (a.courses (32 * x.queue))).count
    → has_data ((queue_in (a.courses (32 * x.queue))).requests i) ≡ true
    → Told hand parts (32 * x.queue) ((queue_in (a.courses (32 * x.queue))).places i).data_at bytes
    → IsPrefix bytes (g.whole x.desc.name ((queue_in (a.courses (32 * x.queue))).requests i))

abbrev pub WaitsAreUnreported : Type 0
WaitsAreUnreported = (d : DriverContent) (asks : ℕ → Request) (e : ℕ) (name : EpName) (whole : Request → List ℕ) (v : Windows)
    (reported waits : List ℕ) → AreInTurn d → IsTelling d asks e name whole v reported waits → waits ≡ waiting_from e 0 d.transfers
