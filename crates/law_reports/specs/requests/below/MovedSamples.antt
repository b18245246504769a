-- The first request of a control endpoint below a hub is published, worked (EHCI 1.0, 4.10; USB 2.0, 8.5.3 and 11.17).
--     Before, After     the queue at rest, with a request that is accepted, and once its window is open
--     Moves             it is published so; `MovedSo`: nothing is amiss
--     ActedBreaks       not where the device had acted on it before
use Rattle.std.specs.Prelude.{false, [], ◌∷◌}
use Rattle.claims_world.specs.Requests.{Windows, no_windows}
use Rattle.law_devices.specs.ring_requests.Windows.{Queue, lines_at}
use Rattle.law_devices.specs.request_stores.Published.{with_request}
use Rattle.law_below_hubs.specs.WorkedControl.{own, reading, unset}
use Rattle.law_below_hubs.specs.WorkedRequests.{first}
use Rattle.law_below_hubs.specs.WorkedWindows.{sent}
use Rattle.law_reports.specs.requests.Courses.{Course, Asks, Rests}
use Rattle.law_reports.specs.requests.CourseMoves.{CourseMoves}
use Rattle.law_reports.specs.requests.Records.{Numbers}
use Rattle.law_reports.specs.requests.below.Moved.{IsCourseBelow, IsMovedSo}

abbrev pub empty : Queue
empty = record { endpoint = own; count = 0; requests = λ j. reading; places = λ j. sent.places }

abbrev pub one : Queue
one = with_request empty reading sent.places

abbrev pub resting : Course
resting = Rests empty 64 unset

abbrev pub asking : Course
asking = Asks one 160 (lines_at one false unset)

-- transfer 0 of endpoint 0
abbrev pub numbers : Numbers
numbers = record { endpoint = 0; closed = []; requests = one; number = λ j. j }

abbrev pub acted_windows : Windows
acted_windows = record no_windows { acts = λ t. reading.setup ∷ [] }

abbrev pub Before : Type 0
Before = IsCourseBelow false 0 0 first no_windows resting numbers

abbrev pub Moves : Type 0
Moves = CourseMoves false resting numbers asking numbers

abbrev pub MovedSo : Type 0
MovedSo = IsMovedSo false false 0 0 first no_windows resting numbers asking numbers

abbrev pub After : Type 0
After = IsCourseBelow false 0 0 first no_windows asking numbers

abbrev pub ActedBreaks : Type 0
ActedBreaks = IsCourseBelow false 0 0 first acted_windows resting numbers → ⊥
