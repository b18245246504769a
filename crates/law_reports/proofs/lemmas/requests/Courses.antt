-- The queues of a ring as the laws of requests have them, and back.
use Rattle.std.proofs.Common.{◌≡◌, ◌≢◌, ℕ, Bool, true, false, Option, Some, ap, refl, sym, ◌∙◌, ◌==◌, if◌then◌else◌}
use Rattle.std.proofs.lemmas.Bool.{false≢true, eqb-true}
use Rattle.law_structures.specs.lent_structures.Structures.{StructureSets, QueueHead}
use Rattle.claims_report.specs.ControlSides.{Device}
use Rattle.law_devices.specs.request_calls.Stages.{IsEndpoint}
use Rattle.qh_qtd.specs.declared.queue_head.Qh.{Qh}
use Rattle.law_ring.specs.Hand.{Hand}
use Rattle.law_ring.specs.Told.{endpoint_of}
use Rattle.law_devices.specs.ring_requests.Windows.{Queue, IsQueue, AreSent, IsElsewhere, AreWindows}
use Rattle.law_devices.specs.ring_requests.Resting.{IsOtherEndpoint, IsAlone}
use Rattle.law_reports.specs.requests.Courses.{Course, NoQueue, Asks, Rests, has_queue, is_asking, queue_in, tail_in, lines_in, AreInLine, IsCourse, queues, have_queues, are_asking, all_lines, CoursesStand, with_course}

-- ---- what has a queue

pub record HasHead (parts : StructureSets) (n : ℕ) (v : Queue) : Type 0 where
  pub queue : Qh
  pub head : parts n n ≡ Some (QueueHead queue)
  pub control : IsEndpoint v.endpoint queue

pub asks_has : (c : Course) → is_asking c ≡ true → has_queue c ≡ true
asks_has NoQueue on = absurd (false≢true on)
asks_has _ on = refl

module _ {W : Type 0} (device : W → ℕ → ℕ → Option Device) (parts : StructureSets) (hand : Hand) (wire : W) (n : ℕ) where
  pub head_of : (c : Course) → has_queue c ≡ true → IsCourse device parts hand wire n c → HasHead parts n (queue_in c)
  head_of NoQueue on k = absurd (false≢true on)
  head_of (Asks v b l) on k = record { queue = k.queue.window.queue; head = k.queue.window.head; control = k.queue.window.control }
  head_of (Rests v b c) on k = record { queue = k.rest.queue; head = k.rest.head; control = k.rest.control }

  pub line_of : (c : Course) → has_queue c ≡ true → IsCourse device parts hand wire n c → AreInLine (queue_in c) (tail_in c)
  line_of NoQueue on k = absurd (false≢true on)
  line_of _ on k = k.line

  pub asked_of : (c : Course) → is_asking c ≡ true → IsCourse device parts hand wire n c
      → IsQueue (queue_in c) (lines_in c) hand parts n (device wire (queue_in c).endpoint.addr (queue_in c).endpoint.num)
  asked_of (Asks v b l) on k = k.queue
  asked_of _ on k = absurd (false≢true on)

-- ---- all of them

module _ {W : Type 0} (device : W → ℕ → ℕ → Option Device) (member : ℕ → Bool) (courses : ℕ → Course) (parts : StructureSets) (hand : Hand) (wire : W) (stand : CoursesStand device member courses parts hand wire) where
  pub head_at : (k : ℕ) → have_queues courses k ≡ true → HasHead parts k (queues courses k)
  head_at k on = head_of device parts hand wire k (courses k) on (stand.each k)

  pub line_at : (k : ℕ) → have_queues courses k ≡ true → AreInLine (queues courses k) (tail_in (courses k))
  line_at k on = line_of device parts hand wire k (courses k) on (stand.each k)

  asking_has : (n : ℕ) → are_asking courses n ≡ true → have_queues courses n ≡ true
  asking_has n on = asks_has (courses n) on

  -- no other queue head has its endpoint
  alone_by : (n : ℕ) → have_queues courses n ≡ true → (k : ℕ) → member k ≡ true → k ≢ n → (b : Bool) → have_queues courses k ≡ b
      → IsOtherEndpoint (queues courses n).endpoint parts k
  alone_by n on k met differs true one =
      let h : HasHead parts k (queues courses k) = head_at k one in
      record {
        own = endpoint_of h.queue;
        has = record { queue = h.queue; head = h.head; is = refl };
        other = λ addr num. differs (sym (stand.apart n k on one (addr ∙ h.control.address) (num ∙ h.control.number)));
      }
  alone_by n on k met differs false off = let o : IsElsewhere (have_queues courses) (queues courses) parts k = stand.others k met off in record { own = o.own; has = o.has; other = o.other n on }

  pub queue_alone : (n : ℕ) → have_queues courses n ≡ true → IsAlone member (queues courses n).endpoint parts n
  queue_alone n on k met differs = alone_by n on k met differs (have_queues courses k) refl

  -- ---- those that ask

  pub sent_are : AreSent member (are_asking courses) (queues courses)
  sent_are = record {
    members = λ n on. stand.members n (asking_has n on);
    requests = λ n i on few. (line_at n (asking_has n on)).requests i few;
    whole = λ n on. (line_at n (asking_has n on)).whole;
    places = λ n i on few. (line_at n (asking_has n on)).places i few;
    others = λ n i k on few less differs. (line_at n (asking_has n on)).others i k few less differs;
    chained = λ n on. (line_at n (asking_has n on)).chained;
    apart = λ n k on one. stand.apart n k (asking_has n on) (asking_has k one);
  }

  elsewhere_by : (n : ℕ) → member n ≡ true → are_asking courses n ≡ false → (b : Bool) → have_queues courses n ≡ b
      → IsElsewhere (are_asking courses) (queues courses) parts n
  elsewhere_by n met off true on =
      let h : HasHead parts n (queues courses n) = head_at n on in
      record {
        own = endpoint_of h.queue;
        has = record { queue = h.queue; head = h.head; is = refl };
        other = λ k one addr num.
            let same : k ≡ n = stand.apart k n (asking_has k one) on (addr ∙ h.control.address) (num ∙ h.control.number) in
            false≢true (sym off ∙ ap (are_asking courses) (sym same) ∙ one);
      }
  elsewhere_by n met off false none = let o : IsElsewhere (have_queues courses) (queues courses) parts n = stand.others n met none in record { own = o.own; has = o.has; other = λ k one. o.other k (asking_has k one) }

  pub windows_are : AreWindows device member (are_asking courses) (queues courses) (all_lines courses) parts hand wire
  windows_are = record {
    each = λ n on. asked_of device parts hand wire n (courses n) on (stand.each n);
    others = λ n met off. elsewhere_by n met off (have_queues courses n) refl;
  }

-- ---- other queues

has_at : (courses : ℕ → Course) (n k : ℕ) (c : Course) → have_queues courses n ≡ true → (b : Bool) → k == n ≡ b
    → has_queue (if b then c else courses k) ≡ true → have_queues courses k ≡ true
has_at courses n k c has true at on = ap (have_queues courses) (eqb-true k n at) ∙ has
has_at courses n k c has false at on = on

-- where one of them is another one, the same queue heads have them
pub has_with : (courses : ℕ → Course) (n : ℕ) (c : Course) → have_queues courses n ≡ true → (k : ℕ)
    → have_queues (with_course courses n c) k ≡ true → have_queues courses k ≡ true
has_with courses n c has k on = has_at courses n k c has (k == n) refl on
