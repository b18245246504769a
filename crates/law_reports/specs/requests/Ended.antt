-- The row of a harvest that reads a qTD of a control request, and the one that ends it (EHCI 1.0, 4.10 and 4.15.1; USB 2.0, 8.5.3 and 8.5.3.4).
--     ReadsFirst ..              it reads a qTD of the first request of the queue, which is asked
--     HarvestReadsFirst          the law: so does each that finds its qTD done
--     ended_driver ..            the driver's content after it
--     RequestEnds ..             what it leaves of the endpoint: where its queue stands, what is recorded, and what the lines tell
--     DoneEnds                   the law: the request is found done: the device acted on it exactly once, and the bytes that are told are all its data
--     HaltEnds                   .. or it halted: no request of the queue is asked any more, and the bytes that are told begin its data; at a STALL those behind it end with it
use Rattle.std.specs.Prelude.{◌≡◌, ◌≢◌, ℕ, ◌*◌, ◌<◌, Bool, true, false}
use Rattle.usb_base.specs.declared.endpoints.EndCause.{EndCause}
use Rattle.usb_base.specs.declared.reports.What.TheVariants.{Done, Halt}
use Rattle.bus_wire.specs.Bus.{Fixed}
use Rattle.drv_table.specs.declared.content.Endpoint.{Endpoint}
use Rattle.drv_table.specs.declared.rows.DriverRow.TheVariants as rows
use Rattle.drv_table.specs.declared.rows.Found.{Found}
use Rattle.drv_table.specs.declared.rows.Found.TheVariants as founds
use Rattle.drv_table.specs.DriverContent.{DriverContent}
use Rattle.drv_table.specs.Harvests.{end_of}
use Rattle.drv_table.specs.Rows.{after_driver_row}
use Rattle.law_driver.specs.run_owners.Due.{IsHarvestDue}
use Rattle.claims_report.specs.Requests.{Request}
use Rattle.law_devices.specs.ring_requests.Windows.{Queue, Lines}
use Rattle.law_devices.specs.Controls.{control_of}
use Rattle.bus_world.specs.World.{World, driver_parts}
use Rattle.law_world.specs.steps.Streaming.{Streams, Standing}
use Rattle.claims_world.specs.Requests.{wired, Windows}
use Rattle.law_reports.specs.requests.Courses.{Course, Asks, has_queue, is_asking, queue_in, tail_in, with_course, CoursesStand}
use Rattle.law_reports.specs.requests.Records.{Numbers, AreRecords}
use Rattle.law_reports.specs.requests.TransferChanges.{with_numbers, first_closed, all_closed}
use Rattle.law_reports.specs.requests.Footing.{IsFooting}
use Rattle.law_reports.specs.requests.Asking.{Sides, Asking, has_left, HasTelling, IsAskingWorld}
use Rattle.law_reports.specs.requests.Reading.{AreSilent, IsAtRequest}

pub record ReadsFirst (member : ℕ → Bool) (s : Standing) (a : Asking) (w : World) (e t : ℕ) (found : Found) (due : IsHarvestDue (driver_parts w) e t found) : Type 0 where
  pub queue : Queue
  pub tail : ℕ
  pub lines : Lines
  pub asked : a.courses (32 * due.endpoint.queue) ≡ Asks queue tail lines
  pub some : 0 < queue.count
  pub count : (a.numbers (32 * due.endpoint.queue)).requests.count ≡ queue.count
  pub number : (a.numbers (32 * due.endpoint.queue)).number 0 ≡ t
  pub at : IsAtRequest member (driver_parts w) e t found due s.parts s.hand (queue.requests 0) (queue.places 0)

abbrev pub HarvestReadsFirst : Type 0
HarvestReadsFirst = (g : Sides) (fixed : Fixed) (member : ℕ → Bool) (x : Streams) (s : Standing) (a : Asking) (v : Windows) (asks : ℕ → Request) (w : World) (e t : ℕ) (found : Found)
    → (due : IsHarvestDue (driver_parts w) e t found) → g.asks due.endpoint.desc ≡ true → found ≢ founds.Active → IsFooting member x s w
    → AreSilent w.driver
    → IsAskingWorld g fixed member s a v asks w → ReadsFirst member s a w e t found due

abbrev pub ended_driver : World → ℕ → ℕ → Found → DriverContent
ended_driver w e t found = (after_driver_row (rows.Harvest e t found) (driver_parts w)).driver

-- x is the endpoint e then, and these are its requests
pub record RequestEnds (g : Sides) (fixed : Fixed) (member : ℕ → Bool) (s : Standing) (a : Asking) (v : Windows) (asks : ℕ → Request) (w : World) (new : DriverContent) (e : ℕ) (x : Endpoint) (numbers : Numbers) : Type 0 where
  pub course : Course
  pub queue : has_queue course ≡ true
  pub endpoint : (queue_in course).endpoint ≡ (queue_in (a.courses (32 * x.queue))).endpoint
  pub tail : tail_in course ≡ tail_in (a.courses (32 * x.queue))
  pub count : numbers.requests.count ≡ (queue_in course).count
  pub rests : numbers.requests.count ≡ 0 → is_asking course ≡ false
  pub stand : CoursesStand control_of member (with_course a.courses (32 * x.queue) course) s.parts s.hand (wired fixed w)
  pub records : AreRecords new asks (with_course a.courses (32 * x.queue) course) (with_numbers a.numbers (32 * x.queue) numbers) (has_left g w.driver) v
  pub telling : HasTelling new asks e x g.whole v numbers

abbrev pub DoneEnds : Type 0
DoneEnds = (g : Sides) (fixed : Fixed) (member : ℕ → Bool) (x : Streams) (s : Standing) (a : Asking) (v : Windows) (asks : ℕ → Request) (w : World) (e t n : ℕ)
    → (due : IsHarvestDue (driver_parts w) e t (founds.Ended n Done)) → g.asks due.endpoint.desc ≡ true → IsFooting member x s w
    → AreSilent w.driver
    → IsAskingWorld g fixed member s a v asks w
    → RequestEnds g fixed member s a v asks w (ended_driver w e t (founds.Ended n Done)) e due.endpoint
    (first_closed (a.numbers (32 * due.endpoint.queue)))

-- the endpoint ends, but at a STALL
abbrev pub HaltEnds : Type 0
HaltEnds = (g : Sides) (fixed : Fixed) (member : ℕ → Bool) (x : Streams) (s : Standing) (a : Asking) (v : Windows) (asks : ℕ → Request) (w : World) (e t n : ℕ) (cause : EndCause)
    → (due : IsHarvestDue (driver_parts w) e t (founds.Ended n (Halt cause))) → g.asks due.endpoint.desc ≡ true → IsFooting member x s w
    → AreSilent w.driver
    → IsAskingWorld g fixed member s a v asks w
    → RequestEnds g fixed member s a v asks w (ended_driver w e t (founds.Ended n (Halt cause))) e (record due.endpoint { ended = end_of due.endpoint.desc.kind (Halt cause) })
    (all_closed (a.numbers (32 * due.endpoint.queue)))
