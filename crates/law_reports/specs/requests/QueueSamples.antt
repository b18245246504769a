-- A worked queue: that of the endpoint of `request_stores`' sample, whose queue head stands at 32 and waits at the end of the queue at 64. Then the device
-- descriptor is asked for, and the queue ends at 160.
--     empty          the queue without a request
--     is_one         the one queue head
--     the_device     its device, as it was opened
--     waits, asks    the queue before and after the store
--     one            the queue of the configuration descriptor's request, whose SETUP stands at 160
--     halted_parts, behind_parts, mended_parts
--                    its structures while the queue head is halted at the SETUP of the first request, once the other's SETUP is stored, and once the queue head leads there
--     halted, behind, goes_on
--                    the queue then
--     done_parts     those of both requests, of which the first is done
use Rattle.std.specs.Prelude.{ℕ, ◌==◌, Bool, false, Option}
use Rattle.qh_qtd.specs.Blank.{blank_token}
use Rattle.qh_qtd.specs.declared.queue_head.Qh.{Qh}
use Rattle.law_structures.specs.lent_structures.Structures.{QueueHead, Element, StructureSets, put}
use Rattle.dev_control.specs.Stages.{opened}
use Rattle.law_request.specs.Samples.{get_device, get_configuration}
use Rattle.claims_report.specs.ControlSides.{Device}
use Rattle.law_devices.specs.ring_requests.RestSamples.{setup_stalled, stalled_queue}
use Rattle.law_devices.specs.ring_requests.Samples.{leads_to, second_setup, first_status, done_queue, done_qtd, stand_at}
use Rattle.law_devices.specs.ring_requests.Windows.{Queue, lines_at}
use Rattle.law_devices.specs.request_stores.Published.{with_request}
use Rattle.law_devices.specs.request_stores.Samples.{first_only, lent_parts, both_now, second_places, device_at}
use Rattle.law_reports.specs.requests.Courses.{Course, NoQueue, Asks, Rests, with_course}

abbrev pub empty : Queue
empty = record first_only { count = 0 }

abbrev pub is_one : ℕ → Bool
is_one n = n == 32

abbrev pub the_device : ℕ → ℕ → ℕ → Option Device
the_device wire addr num = device_at (opened 64 0)

abbrev pub waits : ℕ → Course
waits = with_course (λ n. NoQueue) 32 (Rests empty 64 (opened 64 0))

abbrev pub asks : ℕ → Course
asks = with_course waits 32 (Asks (with_request empty get_device (stand_at 0)) 160 (lines_at (with_request empty get_device (stand_at 0)) false (opened 64 0)))

-- ---- it is halted, and a request comes

abbrev pub one : Queue
one = with_request empty get_configuration second_places

abbrev pub halted_parts : StructureSets
halted_parts = put (put lent_parts 32 32 (QueueHead stalled_queue)) 32 64 (Element setup_stalled)

abbrev pub behind_parts : StructureSets
behind_parts = put halted_parts 32 160 (Element second_setup)

abbrev pub mended_queue : Qh
mended_queue = record stalled_queue { next = leads_to 160; token = blank_token }

abbrev pub mended_parts : StructureSets
mended_parts = put behind_parts 32 32 (QueueHead mended_queue)

abbrev pub halted : ℕ → Course
halted = with_course (λ n. NoQueue) 32 (Rests empty 160 (opened 64 0))

abbrev pub behind : ℕ → Course
behind = with_course halted 32 (Rests one 256 (opened 64 0))

abbrev pub goes_on : ℕ → Course
goes_on = with_course behind 32 (Asks one 256 (lines_at one false (opened 64 0)))

-- ---- the first of two is done

abbrev pub done_parts : StructureSets
done_parts = put (put both_now 32 32 (QueueHead done_queue)) 32 128 (Element (done_qtd first_status))
