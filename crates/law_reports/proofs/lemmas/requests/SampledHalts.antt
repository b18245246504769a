-- The worked queue that was halted, with a request behind it.
use Rattle.std.proofs.Common.{◌≡◌, ℕ, ◌==◌, true, false, refl, ap, sym, subst, ◌∙◌, inl, inr, arith}
use Rattle.std.specs.Prelude.{replicate}
use Rattle.std.proofs.lemmas.Bool.{eqb-true, false≢true}
use Rattle.law_common.proofs.Numbers.{other_number}
use Rattle.usb_base.specs.declared.packets.Reply.TheVariants.{Silent}
use Rattle.qh_qtd.specs.Blank.{blank_qtd}
use Rattle.qh_qtd.specs.declared.qtd.Qtd.{Qtd}
use Rattle.law_structures.specs.lent_structures.Sound.{HasBuffer}
use Rattle.law_structures.proofs.lemmas.lent_structures.Altering.{found_element}
use Rattle.dev_control.specs.Stages.{opened}
use Rattle.law_request.specs.Host.{Stage, Setup, Data, Status}
use Rattle.law_request.specs.Samples.{described, get_configuration}
use Rattle.law_ring.specs.Hand.{Empty}
use Rattle.law_ring.specs.Told.{endpoint_of}
use Rattle.law_devices.specs.ring_requests.Laid.{comes, IsFresh}
use Rattle.law_devices.specs.ring_requests.RestSamples.{stalled_queue}
use Rattle.law_devices.specs.ring_requests.Samples.{second_setup, second_read, first_status, done_qtd}
use Rattle.law_devices.specs.ring_requests.Resting.{IsAtRest, IsStopped}
use Rattle.law_devices.specs.ring_requests.Windows.{sent_at, HasEnded, IsElsewhere}
use Rattle.law_devices.specs.request_stores.Samples.{last_status, second_places, both, device_at}
use Rattle.law_devices.proofs.lemmas.request_stores.Asking.{second_next, tail_at}
use Rattle.law_reports.specs.requests.Courses.{Course, NoQueue, have_queues, queues, IsResting, CoursesStand}
use Rattle.law_reports.specs.requests.QueueChanges.{IsPublishedAt}
use Rattle.law_reports.specs.requests.QueueSamples.{empty, is_one, the_device, one, halted_parts, behind_parts, mended_queue, mended_parts, halted, behind, goes_on, done_parts}
use Rattle.law_reports.proofs.lemmas.requests.Beginning.{course_begins}
use Rattle.law_reports.proofs.lemmas.requests.QueueMending.{mend_goes_on}
use Rattle.law_reports.proofs.lemmas.requests.QueuePublishing.{halted_store}

-- ---- it is halted

abbrev none : ℕ → Course
none n = NoQueue

elsewhere : (n : ℕ) → (n == 32) ≡ true → IsElsewhere (have_queues none) (queues none) halted_parts n
elsewhere n on = record {
  own = endpoint_of stalled_queue;
  has = record { queue = stalled_queue; head = ap (λ (i : ℕ). halted_parts i i) (eqb-true n 32 on); is = refl };
  other = λ k on addr num. false≢true on;
}

opening : CoursesStand the_device is_one none halted_parts Empty 0
opening = record { each = λ n. tt; members = λ n on. absurd (false≢true on); apart = λ n k on one addr num. absurd (false≢true on); others = λ n met off. elsewhere n met }

halted_rests : IsAtRest described (opened 64 0) 160 Empty halted_parts 32 (device_at (opened 64 0))
halted_rests = record {
  queue = stalled_queue;
  head = refl;
  control = record { toggles = refl; address = refl; number = refl; packets = refl };
  idle = refl;
  unsettled = refl;
  leads = λ goes_on. absurd (false≢true (sym goes_on));
  tail = record { qtd = blank_qtd; here = refl; idle = refl };
  max = refl;
  device = refl;
}

pub stopped : IsStopped halted_parts 32
stopped = record { queue = stalled_queue; head = refl; halted = refl }

pub halted_stands : CoursesStand the_device is_one halted halted_parts Empty 0
halted_stands =
    course_begins the_device is_one none halted_parts Empty 0 32 160 empty (opened 64 0)
    (record { met = refl; new = refl; none = refl; whole = omega arith; rest = halted_rests; other = λ k own differs met has addr num. false≢true (sym (other_number k 32 differs) ∙ met) }) opening

-- ---- a request is published

fresh : (s : Stage) → comes get_configuration Setup s ≡ true → IsFresh described get_configuration second_places (behind_parts 32) s
fresh Setup on = record { stage = record { qtd = second_setup; here = refl; pid = refl; leads = record { next = refl; alternate = inl refl }; bytes = refl }; begins = λ ping. refl }
fresh Data on = record { stage = record { qtd = second_read; here = refl; pid = refl; leads = record { next = refl; alternate = inr refl }; bytes = λ off. absurd (false≢true (sym off)) }; begins = λ ping. refl }
fresh Status on = record { stage = record { qtd = last_status; here = refl; pid = refl; leads = record { next = refl; alternate = inl refl }; bytes = tt }; begins = λ ping. refl }
fresh _ on = absurd (false≢true on)

read_buffer : HasBuffer (behind_parts 32) second_read second_read.token.total
read_buffer = record { bytes = replicate 9 0; here = refl; size = refl }

published : IsPublishedAt empty get_configuration second_places 160 256 halted_parts 32 second_setup
published = record {
  setup = refl;
  behind = refl;
  next = record {
    request = second_next.request;
    apart = second_next.apart;
    others = λ i few. absurd (omega (arith, few));
    behind = λ i last. absurd (omega (arith, last));
    fresh = fresh;
    buffer = λ some t there. subst (λ (u : Qtd). HasBuffer (behind_parts 32) u u.token.total) (found_element (behind_parts 32 192) second_read t refl there) read_buffer;
    tail = λ a is. tail_at (behind_parts 32) 256 refl a is;
  };
}

pub behind_stands : CoursesStand the_device is_one behind behind_parts Empty 0
behind_stands = halted_store the_device is_one halted halted_parts Empty 0 32 160 256 empty (opened 64 0) get_configuration second_places second_setup refl stopped published halted_stands

pub behind_rests : IsResting one 256 (opened 64 0) Empty behind_parts 32 (device_at (opened 64 0))
behind_rests = behind_stands.each 32

-- ---- it goes on

pub goes_on_stands : CoursesStand the_device is_one goes_on mended_parts Empty 0
goes_on_stands =
    mend_goes_on the_device is_one behind behind_parts Empty Silent 0 32 256 one (opened 64 0) stalled_queue mended_queue refl tt (record { here = refl; endpoint = refl; idle = refl }) refl refl behind_stands

-- ---- a request has ended

pub first_of_both_ended : HasEnded (sent_at both 0) done_parts 32
first_of_both_ended = record { qtd = done_qtd first_status; here = refl; ended = refl; goes_on = inl refl }
