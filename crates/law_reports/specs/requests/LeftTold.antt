-- What is told of control endpoints that left the ring, up to the line of their cancel, and by that line (EHCI 1.0, 4.8.2 and 4.10; USB
-- 2.0, 8.5.3): of each request that isn't reported the bytes moved of its data begin these.
--     DataHasBegun ..      of a data qTD in block b these bytes were moved, and begin these; once the status alone is left, so many are
--                          noted
--     RequestHasBegun ..   so it is of the data of a request r, which a transfer is; nothing is noted of its SETUP
--     WaitHasBegun ..      so it is of transfer u of endpoint e, which waits
--     RestHasBegun ..      so it is of all of its transfers that wait; lines tell of as many as don't
--     IsLeftToTell ..      no line tells of its cancel; and where one will, so it is
--     AreLeftToTell ..     so it is of each of these control endpoints that left
--     IsCancelTold ..      the last line of an endpoint is that of its cancel, and tells beginnings of the data of those that no line told
--     AreCancelsTold ..    each endpoint that was given back has no such line, or it is so
--     IsToldWhole d asks v whole e x
--                          all lines of endpoint e, which is x, tell of its windows, in their order, with that of its cancel
--     CancelsStand ..      the world stands with what is told of both
--     DriverKeepsCancels, ControllerKeepsCancels, CommandKeepsCancels
--                          each event and each command leaves it so
--     TextsHaveCancels     so it is at each moment of each script that a text spells
--     TextsTellCancels     .. so all lines of each of these control endpoints that was cancelled tell of its requests
use Rattle.std.specs.Prelude.{◌≡◌, ◌≢◌, ◌⊎◌, ℕ, ◌+◌, ◌*◌, ◌≤◌, true, List, ◌∷◌, [], ◌++◌, length, drop, map, slice_get, Some, None, false}
use Rattle.std.specs.List.{AllByRecursion}
use Rattle.usb_base.specs.declared.commands.Cmd.{Cmd}
use Rattle.usb_base.specs.declared.endpoints.EpName.{EpName}
use Rattle.usb_base.specs.declared.reports.Report.{Report}
use Rattle.usb_base.specs.declared.reports.What.TheVariants.{Cancel}
use Rattle.script_types.specs.declared.scripts.Script.{Script}
use Rattle.script_text.specs.Faults.{Spells}
use Rattle.bus_wire.specs.Bus.{Fixed, fixed_of}
use Rattle.bus_world.specs.Budgets.{moment}
use Rattle.report_text.specs.ReportText.{bytes_of}
use Rattle.claims_base.specs.Prefix.{IsPrefix}
use Rattle.claims_report.specs.Requests.{Request, AreBegun, AreTold}
use Rattle.bus_world.specs.World.{World, driver_next, controller_next, commanded}
use Rattle.claims_world.specs.Requests.{Windows, numbers_of, windows_of, asks_then, after_event, windows_at, asks_at}
use Rattle.drv_table.specs.declared.content.Endpoint.{Endpoint}
use Rattle.drv_table.specs.declared.content.Mend.{Mend}
use Rattle.drv_table.specs.declared.content.QtdNote.{QtdNote}
use Rattle.drv_table.specs.declared.content.Sort.TheVariants as sorts
use Rattle.drv_table.specs.declared.content.Transfer.{Transfer}
use Rattle.drv_table.specs.DriverContent.{DriverContent}
use Rattle.drv_table.specs.Harvests.{note_at}
use Rattle.drv_table.specs.Offers.{IsOffered}
use Rattle.drv_table.specs.Words.{is_control, request_stages}
use Rattle.law_driver.specs.endpoint_lives.Lives.{told_end}
use Rattle.law_driver.specs.queued_drivers.Queued.{queued, queued_desc}
use Rattle.law_queues.specs.told_endpoints.Telling.{lines_in}
use Rattle.law_request.specs.Host.{has_data}
use Rattle.law_ring.specs.Hand.{Hand}
use Rattle.law_ring.specs.Told.{Told}
use Rattle.law_scripts.specs.byte_answers.Bytes.{IsByteCommand}
use Rattle.law_structures.specs.lent_structures.Structures.{StructureSets}
use Rattle.law_world.specs.memory.Mixed.{Standing}
use Rattle.law_world.specs.memory.Opens.{OpensMixed}
use Rattle.law_reports.specs.lines.Lined.{in_hand}
use Rattle.law_reports.specs.pipes.Declared.{Sides as Pipes, sides_of}
use Rattle.law_reports.specs.pipes.PipedLaws.{OpensDeclared}
use Rattle.law_reports.specs.requests.Asking.{Sides}
use Rattle.law_reports.specs.requests.HighAsking.{AsksHigh, SuitsCommand, HasHighAsks}
use Rattle.law_reports.specs.requests.HighGiven.{high_sides_of}
use Rattle.law_reports.specs.requests.LeftStays.{HasLeft, IsWaiting}
use Rattle.law_reports.specs.requests.Telling.{IsUncancelled}
use Rattle.law_reports.specs.requests.request_bytes.Fresh.{next_of}
use Rattle.law_reports.specs.requests.told_requests.Told.{has_cancel}
use Rattle.law_reports.specs.requests.told_requests.Waiting.{waiting}

-- ---- a request that waits

pub record DataHasBegun (hand : Hand) (parts : StructureSets) (n b : ℕ) (note : QtdNote) (left : ℕ) (whole : List ℕ) : Type 0 where
  pub bytes : List ℕ
  pub told : Told hand parts n (32 * b) bytes
  pub done : left ≡ 1 → length bytes ≡ note.moved
  pub begins : IsPrefix bytes whole

pub record RequestHasBegun (hand : Hand) (parts : StructureSets) (n : ℕ) (notes : List QtdNote) (whole : Request → List ℕ) (y : Transfer)
    (r : Request) : Type 0 where
  pub sort : y.sort ≡ sorts.Request
  pub qtds : y.qtds ≡ length (request_stages r.setup)
  pub setup : (note_at notes y.first).moved ≡ 0
  pub data_at : has_data r ≡ true
      → DataHasBegun hand parts n (next_of notes y.first) (note_at notes (next_of notes y.first)) y.left (whole r)

pub record WaitHasBegun (d : DriverContent) (hand : Hand) (parts : StructureSets) (n e : ℕ) (whole : Request → List ℕ)
    (asks : ℕ → Request) (u : ℕ) : Type 0 where
  pub own : Transfer
  pub waits : IsWaiting d e u own
  pub begun : RequestHasBegun hand parts n d.notes whole own (asks u)

-- ---- an endpoint that left

pub record RestHasBegun (d : DriverContent) (hand : Hand) (parts : StructureSets) (e : ℕ) (x : Endpoint) (whole : Request → List ℕ)
    (asks : ℕ → Request) : Type 0 where
  pub reported : List ℕ
  pub waits : List ℕ
  pub numbers : numbers_of d e ≡ reported ++ waits
  pub many : length reported ≡ length (lines_in x.desc.name d.reports)
  pub wait : length waits ≡ waiting d e
  pub each : AllByRecursion (WaitHasBegun d hand parts (32 * x.queue) e whole asks) waits

-- one that ended by an error has no line of its cancel
pub record IsLeftToTell (g : Sides) (s : Standing) (asks : ℕ → Request) (d : DriverContent) (e : ℕ) (x : Endpoint) : Type 0 where
  pub uncancelled : IsUncancelled x.desc.name d
  -- no store is owed to its queue head
  pub owed : (j : ℕ) (o : Mend) → slice_get d.mends j ≡ Some o → o.queue ≢ x.queue
  pub rest : told_end x ≡ None → RestHasBegun d (in_hand s) s.parts e x (g.whole x.desc.name) asks

pub record AreLeftToTell (g : Sides) (s : Standing) (asks : ℕ → Request) (w : World) : Type 0 where
  pub each : (e : ℕ) (x : Endpoint) → HasLeft (queued w.driver) e x → g.asks x.desc ≡ true → IsLeftToTell g s asks (queued w.driver) e x

-- ---- .. and one that was given back

pub record IsCancelTold (d : DriverContent) (asks : ℕ → Request) (e : ℕ) (name : EpName) (whole : Request → List ℕ) : Type 0 where
  pub before : List Report
  pub line : Report
  pub lines : lines_in name d.reports ≡ before ++ line ∷ []
  pub none : has_cancel before ≡ false
  pub is : line.what ≡ Cancel
  pub stored : line.from + line.len ≤ length d.store
  pub begun : AreBegun (bytes_of line d.store) (map (λ t. whole (asks t)) (drop (length before) (numbers_of d e)))

pub record AreCancelsTold (g : Sides) (asks : ℕ → Request) (w : World) : Type 0 where
  pub each : (e : ℕ) (z : Endpoint) → slice_get w.driver.endpoints e ≡ Some z → is_control z.desc.kind ≡ true
      → g.asks (queued_desc z.desc) ≡ true → z.gone ≡ true
      → IsUncancelled z.desc.name w.driver ⊎ IsCancelTold w.driver asks e z.desc.name (g.whole z.desc.name)

abbrev pub IsToldWhole : DriverContent → (ℕ → Request) → Windows → (EpName → Request → List ℕ) → ℕ → Endpoint → Type 0
IsToldWhole d asks v whole e x = AreTold (whole x.desc.name) d.store (windows_of d asks v e) (lines_in x.desc.name d.reports)

-- ---- the world

pub record CancelsStand (g : Sides) (fixed : Fixed) (p : Pipes) (v : Windows) (asks : ℕ → Request) (w : World) : Type 0 where
  pub high : HasHighAsks g fixed p v asks w
  pub left : AreLeftToTell g high.standing asks w
  pub told : AreCancelsTold g asks w

abbrev pub DriverKeepsCancels : Type 0
DriverKeepsCancels = (g : Sides) (fixed : Fixed) (p : Pipes) (v : Windows) (asks : ℕ → Request) (w : World)
    → CancelsStand g fixed p v asks w → CancelsStand g fixed p v asks (driver_next w)

abbrev pub ControllerKeepsCancels : Type 0
ControllerKeepsCancels = (g : Sides) (fixed : Fixed) (p : Pipes) (v : Windows) (asks : ℕ → Request) (w : World) → AsksHigh g
    → CancelsStand g fixed p v asks w → CancelsStand g fixed p (after_event fixed w v) asks (controller_next fixed w)

abbrev pub CommandKeepsCancels : Type 0
CommandKeepsCancels = (g : Sides) (fixed : Fixed) (p : Pipes) (v : Windows) (asks : ℕ → Request) (w : World) (line : ℕ) (cmd : Cmd)
    → OpensMixed cmd → OpensDeclared p cmd → SuitsCommand g cmd → IsByteCommand cmd → IsOffered w.driver.room cmd
    → CancelsStand g fixed p v asks w → CancelsStand g fixed p v (asks_then w.driver cmd asks) (commanded w line cmd)

-- ---- each moment of a script

abbrev pub TextsHaveCancels : Type 0
TextsHaveCancels = (text : List ℕ) (s : Script) → Spells text s → (k : ℕ)
    → CancelsStand (high_sides_of s) (fixed_of s) (sides_of s) (windows_at s k) (asks_at s k) (moment s k).world

abbrev pub TextsTellCancels : Type 0
TextsTellCancels = (text : List ℕ) (s : Script) → Spells text s → (k e : ℕ) (x : Endpoint)
    → slice_get (moment s k).world.driver.endpoints e ≡ Some x → is_control x.desc.kind ≡ true
    → (high_sides_of s).asks (queued_desc x.desc) ≡ true → x.cancelled ≡ true
    → IsToldWhole (moment s k).world.driver (asks_at s k) (windows_at s k) (high_sides_of s).whole e x
