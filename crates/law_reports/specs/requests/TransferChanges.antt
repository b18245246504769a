-- What changes what is recorded of the requests of control endpoints, or leaves it (EHCI 1.0, 4.8 and 4.10; USB 2.0, 8.5.3).
--     with_numbers numbers n a   the same, but for the queue head at n
--     RowKeepsRecords            the law of a row of the driver that gives back no endpoint with such a queue, and no request of it
--     accepted_in a t r x        with one request more, which is transfer t
--     RequestIsAccepted, OtherIsAccepted, AcceptedKeepsRecords
--                                .. of a request that is accepted, of a transfer of another endpoint, and of an endpoint that is opened or cancelled
--     CourseIsRecorded           .. of a queue that changes, where it is recorded as it is then
--     next_request a v           the request that is accepted and isn't published yet
--     BehindIsPublished, FirstIsPublished, HaltedIsPublished
--                                so it is once that is published: behind others, as the first one, or while the queue head is halted
--     MendedIsRecorded           .. once the queue head goes on
--     first_closed a, FirstIsClosed, LastIsClosed
--                                .. once the first request is done: its window is closed
--     all_closed a, AllAreClosed .. once the queue head was halted: all of them are
--     IsNewRecord, NewIsRecorded .. and of an endpoint that is met from now on
--     CourseIsGone               .. and without a queue of which nothing more is told
use Rattle.std.specs.Prelude.{◌≡◌, ◌≢◌, ℕ, suc, ◌<◌, ◌==◌, ◌&&◌, ◌||◌, Bool, true, false, List, [], ◌∷◌, ◌++◌, length, Option, Some, None, if◌then◌else◌}
use Rattle.usb_base.specs.declared.commands.Cmd.{Cmd}
use Rattle.usb_base.specs.declared.commands.Cmd.TheVariants as commands
use Rattle.usb_base.specs.declared.endpoints.EpName.{EpName}
use Rattle.word_mem.specs.Memory.{Mem}
use Rattle.mem_runs.specs.Book.{holding, Stands}
use Rattle.drv_table.specs.declared.content.Sort.TheVariants as sorts
use Rattle.drv_table.specs.declared.rows.DriverRow.{DriverRow}
use Rattle.drv_table.specs.DriverContent.{DriverContent}
use Rattle.drv_table.specs.Accepting.{Offered}
use Rattle.drv_table.specs.Parts.{Parts}
use Rattle.drv_table.specs.Rows.{after_driver_row}
use Rattle.drv_table.specs.Words.{request_stages}
use Rattle.law_driver.specs.run_owners.Accepts.{Transfers}
use Rattle.claims_driver.specs.Leaving.{HasOwners}
use Rattle.law_structures.specs.lent_structures.Structures.{StructureSets}
use Rattle.dev_control.specs.Stages.{Stages}
use Rattle.claims_report.specs.Requests.{Request}
use Rattle.claims_report.specs.ControlSides.{Device}
use Rattle.law_ring.specs.Hand.{Hand}
use Rattle.law_devices.specs.ring_requests.Laid.{Places}
use Rattle.law_devices.specs.ring_requests.Windows.{Queue, Lines, lines_at, IsQueue}
use Rattle.law_devices.specs.ring_requests.Runs.{first_of}
use Rattle.law_devices.specs.request_stores.Published.{with_request, without_first}
use Rattle.law_reports.specs.requests.request_bytes.Fresh.{request_places}
use Rattle.claims_world.specs.Requests.{Windows, asks_then, numbers_of}
use Rattle.law_reports.specs.requests.driver_requests.Requests.{IsOfEndpoint}
use Rattle.law_reports.specs.requests.driver_requests.Rows.{KeepsRequests, number_with, given_by, KeepsEndpoint}
use Rattle.law_reports.specs.requests.Courses.{Course, NoQueue, Asks, Rests, queue_in, have_queues, with_course}
use Rattle.law_reports.specs.requests.QueueChanges.{without_requests, lines_behind, mended_course}
use Rattle.law_reports.specs.requests.Records.{Numbers, IsRecord, AreRecords}

abbrev pub with_numbers : (ℕ → Numbers) → ℕ → Numbers → ℕ → Numbers
with_numbers numbers n a k = if k == n then a else numbers k

-- ---- rows of the driver

-- no request of a queue
abbrev pub GivesNoRequest : DriverRow → (ℕ → Course) → (ℕ → Numbers) → Type 0
GivesNoRequest row courses numbers = (n i : ℕ) → have_queues courses n ≡ true → i < (numbers n).requests.count → given_by row ≢ Some ((numbers n).number i)

abbrev pub RowKeepsRecords : Type 0
RowKeepsRecords = (p : Parts) (row : DriverRow) (asks : ℕ → Request) (courses : ℕ → Course) (numbers : ℕ → Numbers) (gone : ℕ → Bool) (v : Windows)
    → ((n : ℕ) → have_queues courses n ≡ true → KeepsEndpoint row (numbers n).endpoint) → GivesNoRequest row courses numbers → AreRecords p.driver asks courses numbers gone v
    → AreRecords (after_driver_row row p).driver asks courses numbers gone v

-- ---- commands

abbrev pub accepted_in : Numbers → ℕ → Request → Places → Numbers
accepted_in a t r x = record a { requests = with_request a.requests r x; number = number_with a.requests.count a.number t }

-- none is accepted before it that isn't published
pub record IsRequestOf (d : DriverContent) (m : Mem) (o : Offered) (why : Transfers d m o) (setup : List ℕ) (courses : ℕ → Course) (numbers : ℕ → Numbers) (gone : ℕ → Bool) (n : ℕ) : Type 0 where
  pub sort : why.asked.sort ≡ sorts.Request
  pub stages : why.asked.stages ≡ request_stages setup
  pub owners : HasOwners d
  pub book : Stands (holding d.book m)
  pub has : have_queues courses n ≡ true
  pub endpoint : (numbers n).endpoint ≡ why.number
  pub published : (numbers n).requests.count ≡ (queue_in (courses n)).count
  pub here : gone why.number ≡ false
  pub within : (q : Queue) (b : ℕ) (l : Lines) → courses n ≡ Asks q b l → l.under < q.count

abbrev pub RequestIsAccepted : Type 0
RequestIsAccepted = (d : DriverContent) (m : Mem) (o : Offered) (why : Transfers d m o) (name : EpName) (setup bytes : List ℕ) (asks : ℕ → Request) (courses : ℕ → Course) (numbers : ℕ → Numbers)
    (gone : ℕ → Bool) (v : Windows) (n : ℕ) → IsRequestOf d m o why setup courses numbers gone n → AreRecords d asks courses numbers gone v
    → AreRecords o.driver (asks_then d (commands.Control name setup bytes) asks) courses
    (with_numbers numbers n (accepted_in (numbers n) (length d.transfers) (record { setup = setup; bytes = bytes }) (request_places o.driver.notes why.endpoint.dummy (record { setup = setup; bytes = bytes }))))
    gone v

-- of an endpoint that has no such queue, and isn't one that is gone
abbrev pub OtherIsAccepted : Type 0
OtherIsAccepted = (d : DriverContent) (m : Mem) (o : Offered) (why : Transfers d m o) (cmd : Cmd) (asks : ℕ → Request) (courses : ℕ → Course) (numbers : ℕ → Numbers) (gone : ℕ → Bool) (v : Windows)
    → HasOwners d → Stands (holding d.book m) → ((n : ℕ) → have_queues courses n ≡ true → (numbers n).endpoint ≢ why.number) → gone why.number ≡ false → AreRecords d asks courses numbers gone v
    → AreRecords o.driver (asks_then d cmd asks) courses numbers gone v

abbrev pub AcceptedKeepsRecords : Type 0
AcceptedKeepsRecords = (d c : DriverContent) (asks : ℕ → Request) (courses : ℕ → Course) (numbers : ℕ → Numbers) (gone : ℕ → Bool) (v : Windows) → ((i : ℕ) → KeepsRequests None d c i)
    → c.transfers ≡ d.transfers → AreRecords d asks courses numbers gone v → AreRecords c asks courses numbers gone v

-- ---- a queue changes

abbrev pub CourseIsRecorded : Type 0
CourseIsRecorded = (d : DriverContent) (asks : ℕ → Request) (courses : ℕ → Course) (numbers : ℕ → Numbers) (gone : ℕ → Bool) (v : Windows) (n : ℕ) (c : Course) (a : Numbers) → IsRecord d asks n c a v
    → AreRecords d asks courses numbers gone v → AreRecords d asks (with_course courses n c) (with_numbers numbers n a) gone v

-- ---- a request is published

abbrev pub next_request : Numbers → Queue → Queue
next_request a q = with_request q (a.requests.requests q.count) (a.requests.places q.count)

abbrev pub BehindIsPublished : Type 0
BehindIsPublished = (d : DriverContent) (asks : ℕ → Request) (n b e : ℕ) (q : Queue) (l : Lines) (a : Numbers) (v : Windows) → q.count < a.requests.count → IsRecord d asks n (Asks q b l) a v
    → IsRecord d asks n (Asks (next_request a q) e l) a v

abbrev pub FirstIsPublished : Type 0
FirstIsPublished = (d : DriverContent) (asks : ℕ → Request) (n b e : ℕ) (q : Queue) (c : Stages) (ping : Bool) (a : Numbers) (v : Windows) → q.count < a.requests.count → IsRecord d asks n (Rests q b c) a v
    → IsRecord d asks n (Asks (next_request a q) e (lines_at (next_request a q) ping c)) a v

abbrev pub HaltedIsPublished : Type 0
HaltedIsPublished = (d : DriverContent) (asks : ℕ → Request) (n b e : ℕ) (q : Queue) (c : Stages) (a : Numbers) (v : Windows) → q.count < a.requests.count → IsRecord d asks n (Rests q b c) a v
    → IsRecord d asks n (Rests (next_request a q) e c) a v

abbrev pub MendedIsRecorded : Type 0
MendedIsRecorded = (d : DriverContent) (asks : ℕ → Request) (n b : ℕ) (q : Queue) (c : Stages) (ping : Bool) (a : Numbers) (v : Windows) → IsRecord d asks n (Rests q b c) a v
    → IsRecord d asks n (mended_course q b ping c) a v

-- ---- requests are done, or halted

abbrev pub first_closed : Numbers → Numbers
first_closed a = record a { closed = a.closed ++ a.number 0 ∷ []; requests = without_first a.requests; number = λ i. a.number (suc i) }

-- it was acted on exactly once
abbrev pub FirstIsClosed : Type 0
FirstIsClosed = (d : DriverContent) (asks : ℕ → Request) (n b : ℕ) (q : Queue) (l : Lines) (a : Numbers) (v : Windows) → 1 < q.count → (l.line 0).acts ≡ (q.requests 0).setup ∷ []
    → IsRecord d asks n (Asks q b l) a v → IsRecord d asks n (Asks (without_first q) b (lines_behind q l)) (first_closed a) v

abbrev pub LastIsClosed : Type 0
LastIsClosed = (d : DriverContent) (asks : ℕ → Request) (n b : ℕ) (q : Queue) (l : Lines) (c : Stages) (a : Numbers) (v : Windows) → q.count ≡ 1 → l.under < q.count → (l.line 0).acts ≡ (q.requests 0).setup ∷ []
    → IsRecord d asks n (Asks q b l) a v → IsRecord d asks n (Rests (without_first q) b c) (first_closed a) v

abbrev pub all_closed : Numbers → Numbers
all_closed a = record a { closed = a.closed ++ first_of a.number a.requests.count; requests = without_requests a.requests }

abbrev pub AllAreClosed : Type 0
AllAreClosed = (d : DriverContent) (asks : ℕ → Request) (n b : ℕ) (q : Queue) (l : Lines) (c : Stages) (a : Numbers) (v : Windows) (hand : Hand) (parts : StructureSets) (o : Option Device)
    → IsQueue q l hand parts n o → IsRecord d asks n (Asks q b l) a v → IsRecord d asks n (Rests (without_requests q) b c) (all_closed a) v

-- ---- endpoints come and go

pub record IsNewRecord (d : DriverContent) (n e : ℕ) (q : Queue) : Type 0 where
  pub none : q.count ≡ 0
  pub endpoint : IsOfEndpoint d q.endpoint n e
  pub numbers : numbers_of d e ≡ []

abbrev pub NewIsRecorded : Type 0
NewIsRecorded = (d : DriverContent) (asks : ℕ → Request) (n b e : ℕ) (q : Queue) (c : Stages) (v : Windows) → IsNewRecord d n e q
    → IsRecord d asks n (Rests q b c) (record { endpoint = e; closed = []; requests = q; number = λ i. i }) v

abbrev pub CourseIsGone : Type 0
CourseIsGone = (d : DriverContent) (asks : ℕ → Request) (courses : ℕ → Course) (numbers : ℕ → Numbers) (gone : ℕ → Bool) (v : Windows) (n : ℕ) (hand : Hand) (parts : StructureSets)
    → ((q : Queue) (b : ℕ) (l : Lines) → courses n ≡ Asks q b l → (o : Option Device) × IsQueue q l hand parts n o) → AreRecords d asks courses numbers gone v
    → AreRecords d asks (with_course courses n NoQueue) numbers (λ e. (have_queues courses n && e == (numbers n).endpoint) || gone e) v
