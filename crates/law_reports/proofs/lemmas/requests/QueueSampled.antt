-- The worked queue.
use Rattle.std.proofs.Common.{◌≡◌, ◌≢◌, ℕ, ◌==◌, true, false, refl, ap, sym, ◌∙◌, arith}
use Rattle.std.proofs.lemmas.Bool.{eqb-true, false≢true}
use Rattle.law_common.proofs.Numbers.{other_number}
use Rattle.dev_control.specs.Stages.{opened}
use Rattle.law_request.specs.Samples.{get_device}
use Rattle.law_request.specs.Windows.{IsRequest}
use Rattle.law_ring.specs.Hand.{Empty}
use Rattle.law_ring.specs.Told.{endpoint_of}
use Rattle.law_devices.specs.ring_requests.Laid.{AreApart}
use Rattle.law_devices.specs.ring_requests.Samples.{queue, setup, stand_at}
use Rattle.law_devices.specs.ring_requests.Windows.{IsElsewhere}
use Rattle.law_devices.specs.request_stores.Samples.{waiting_parts, asked_parts}
use Rattle.law_devices.proofs.lemmas.request_stores.Waiting.{waits as waits_there, stored}
use Rattle.law_reports.specs.requests.Courses.{Course, NoQueue, have_queues, queues, CoursesStand}
use Rattle.law_reports.specs.requests.QueueChanges.{IsPublishedAt}
use Rattle.law_reports.specs.requests.QueueSamples.{empty, is_one, the_device, waits, asks}
use Rattle.law_reports.proofs.lemmas.requests.Beginning.{course_begins}
use Rattle.law_reports.proofs.lemmas.requests.QueuePublishing.{rest_store}

abbrev none : ℕ → Course
none n = NoQueue

one_is : (n : ℕ) → (n == 32) ≡ true → n ≢ 32 → ⊥
one_is n on differs = false≢true (sym (other_number n 32 differs) ∙ on)

-- before the endpoint is told of
elsewhere : (n : ℕ) → (n == 32) ≡ true → IsElsewhere (have_queues none) (queues none) waiting_parts n
elsewhere n on = record {
  own = endpoint_of queue;
  has = record { queue = queue; head = ap (λ (i : ℕ). waiting_parts i i) (eqb-true n 32 on); is = refl };
  other = λ k on addr num. false≢true on;
}

opening : CoursesStand the_device is_one none waiting_parts Empty 0
opening = record { each = λ n. tt; members = λ n on. absurd (false≢true on); apart = λ n k on one addr num. absurd (false≢true on); others = λ n met off. elsewhere n met }

pub waiting : CoursesStand the_device is_one waits waiting_parts Empty 0
waiting =
    course_begins the_device is_one none waiting_parts Empty 0 32 64 empty (opened 64 0)
    (record { met = refl; new = refl; none = refl; whole = omega arith; rest = waits_there; other = λ k own differs met has addr num. one_is k met differs }) opening

is_request : IsRequest get_device
is_request = record { setup = refl; bytes = λ off. absurd (false≢true (sym off)) }

are_apart : AreApart (stand_at 0)
are_apart = record { setup_data = λ same. omega (arith, same); setup_status = λ same. omega (arith, same); data_status = λ same. omega (arith, same) }

pub published : IsPublishedAt empty get_device (stand_at 0) 64 160 waiting_parts 32 setup
published = record {
  setup = refl;
  behind = refl;
  next = record {
    request = is_request;
    apart = are_apart;
    others = λ i few. absurd (omega (arith, few));
    behind = λ i last. absurd (omega (arith, last));
    fresh = stored.fresh;
    buffer = stored.buffer;
    tail = stored.tail;
  };
}

pub asking : CoursesStand the_device is_one asks asked_parts Empty 0
asking = rest_store the_device is_one waits waiting_parts Empty 0 32 64 160 empty (opened 64 0) queue get_device (stand_at 0) setup refl refl refl refl published waiting
