-- Records of a driver with one control endpoint, for worked rows: its two requests are those of `driver_requests`' sample, whose queue head stands at 4160 and whose
-- queue ends at 4416.
--     courses q l            the course of that queue head, whose requests q are asked
--     both, one              the numbers while both requests are in the queue, and once the first is closed
--     none_gone              no endpoint is gone
--     first_acted            the windows once the SETUP of the first was sent and the device acted on it
--     first_done, then_next  the windows of the requests' lines then, and once the controller went on to the second
use Rattle.std.specs.Prelude.{ℕ, ◌==◌, Bool, false, List, [], ◌∷◌, Some, None, if◌then◌else◌}
use Rattle.law_request.specs.Samples.{get_device}
use Rattle.law_devices.specs.ring_requests.Samples.{first_done as first_steps}
use Rattle.law_devices.specs.ring_requests.Windows.{Queue, Lines, Progress, Advance, progressed}
use Rattle.claims_world.specs.Requests.{Windows, no_windows, recorded}
use Rattle.law_reports.specs.requests.driver_requests.Samples.{driver, requests, begun}
use Rattle.law_reports.specs.requests.Courses.{Course, NoQueue, Asks, with_course}
use Rattle.law_reports.specs.requests.Records.{Numbers}
use Rattle.law_reports.specs.requests.TransferChanges.{first_closed}

abbrev pub courses : Queue → Lines → ℕ → Course
courses q l = with_course (λ n. NoQueue) 4160 (Asks q 4416 l)

abbrev pub both : Numbers
both = record { endpoint = 0; closed = []; requests = requests; number = λ i. i }

abbrev pub one : Numbers
one = first_closed both

abbrev pub none_gone : ℕ → Bool
none_gone e = false

-- ---- the windows

abbrev pub first_acted : Windows
first_acted = recorded driver None (λ e. if e == 0 then get_device.setup ∷ [] else []) (recorded driver (Some 0) (λ e. []) no_windows)

abbrev pub after_steps : List Progress → Lines → Lines
after_steps [] l = l
after_steps (p ∷ ps) l = after_steps ps (progressed requests p l)

abbrev pub first_done : Lines
first_done = after_steps first_steps begun

abbrev pub then_next : Lines
then_next = progressed requests Advance first_done
