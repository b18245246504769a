-- Where the queue of each control endpoint of a ring stands (EHCI 1.0, 4.10 and 4.10.3; USB 2.0, 8.5.3 and 8.5.3.4): some of its requests are asked, one
-- after the other, or none of them is under way.
--     Course                     of the queue head at a place: no such queue; requests that are asked, with the qTD at the end of the queue, and their windows;
--                                or requests of which none is under way, and how the device was left
--     has_queue, is_asking, queue_in, tail_in, lines_in
--                                whether there is one, whether its requests are asked, which they are, where the queue ends, and their windows
--     AreInLine v b              requests of an endpoint, one behind the other; the last one leads to the qTD at b
--     IsAsking ..                one of them is under way, those before it are done, and those behind it are laid out
--     IsResting ..               the queue is at rest; where some wait the queue head is halted, and they are laid out
--     IsCourse ..                the queue stands so
--     CoursesStand ..            all queues of a ring stand so, each of an endpoint of its own
--     with_course courses n c    the same, but for the queue head at n
use Rattle.std.specs.Prelude.{◌≡◌, ◌≢◌, ℕ, suc, ◌<◌, ◌≤◌, ◌==◌, Bool, true, false, [], Option, Some, None, if◌then◌else◌}
use Rattle.law_structures.specs.lent_structures.Structures.{StructureSets}
use Rattle.dev_control.specs.Stages.{Stages, opened}
use Rattle.law_request.specs.Windows.{IsRequest}
use Rattle.claims_report.specs.ControlSides.{Device}
use Rattle.law_ring.specs.Hand.{Hand}
use Rattle.law_devices.specs.ring_requests.Laid.{AreApart, AreOthers}
use Rattle.law_devices.specs.ring_requests.Windows.{Queue, sent_at, Lines, lines_at, IsBehind, IsQueue, AreChained, IsElsewhere}
use Rattle.law_devices.specs.ring_requests.Resting.{IsAtRest}

pub data Course : Type 0 where
  NoQueue : Course
  Asks : Queue → ℕ → Lines → Course  -- the requests, where the queue ends, and their windows
  Rests : Queue → ℕ → Stages → Course  -- .. and how the device was left

abbrev pub has_queue : Course → Bool
has_queue NoQueue = false
has_queue _ = true

abbrev pub is_asking : Course → Bool
is_asking (Asks v b l) = true
is_asking _ = false

-- of an endpoint that isn't there
abbrev pub nobody : Queue
nobody = record {
  endpoint = record { addr = 0; num = 0; max = 0; known = λ setup. None };
  count = 0;
  requests = λ i. record { setup = []; bytes = [] };
  places = λ i. record { setup = 0; data_at = 0; status = 0; behind = None };
}

abbrev pub queue_in : Course → Queue
queue_in NoQueue = nobody
queue_in (Asks v b l) = v
queue_in (Rests v b c) = v

abbrev pub tail_in : Course → ℕ
tail_in NoQueue = 0
tail_in (Asks v b l) = b
tail_in (Rests v b c) = b

abbrev pub lines_in : Course → Lines
lines_in (Asks v b l) = l
lines_in c = lines_at (queue_in c) false (opened 0 0)

-- ---- one queue

pub record AreInLine (v : Queue) (b : ℕ) : Type 0 where
  pub requests : (i : ℕ) → i < v.count → IsRequest (v.requests i)
  pub whole : 8 ≤ v.endpoint.max
  pub places : (i : ℕ) → i < v.count → AreApart (v.places i)
  pub others : (i k : ℕ) → i < v.count → k < v.count → i ≢ k → AreOthers (v.places i) (v.places k)
  pub chained : AreChained v
  pub last : (i : ℕ) → suc i ≡ v.count → (v.places i).behind ≡ Some b

pub record IsAsking (v : Queue) (b : ℕ) (l : Lines) (hand : Hand) (parts : StructureSets) (n : ℕ) (o : Option Device) : Type 0 where
  pub line : AreInLine v b
  pub queue : IsQueue v l hand parts n o

pub record IsResting (v : Queue) (b : ℕ) (c : Stages) (hand : Hand) (parts : StructureSets) (n : ℕ) (o : Option Device) : Type 0 where
  pub line : AreInLine v b
  pub rest : IsAtRest v.endpoint c b hand parts n o
  pub wait : 0 < v.count → rest.queue.token.halted ≡ true
  pub behind : (i : ℕ) → i < v.count → IsBehind (sent_at v i) hand parts n

-- ---- all of them

abbrev pub IsCourse : {W : Type 0} → (W → ℕ → ℕ → Option Device) → StructureSets → Hand → W → ℕ → Course → Type 0
IsCourse device parts hand wire n NoQueue = Unit {0}
IsCourse device parts hand wire n (Asks v b l) = IsAsking v b l hand parts n (device wire v.endpoint.addr v.endpoint.num)
IsCourse device parts hand wire n (Rests v b c) = IsResting v b c hand parts n (device wire v.endpoint.addr v.endpoint.num)

abbrev pub queues : (ℕ → Course) → ℕ → Queue
queues courses n = queue_in (courses n)

abbrev pub have_queues : (ℕ → Course) → ℕ → Bool
have_queues courses n = has_queue (courses n)

abbrev pub are_asking : (ℕ → Course) → ℕ → Bool
are_asking courses n = is_asking (courses n)

abbrev pub all_lines : (ℕ → Course) → ℕ → Lines
all_lines courses n = lines_in (courses n)

pub record CoursesStand {W : Type 0} (device : W → ℕ → ℕ → Option Device) (member : ℕ → Bool) (courses : ℕ → Course) (parts : StructureSets) (hand : Hand) (wire : W) : Type 0 where
  pub each : (n : ℕ) → IsCourse device parts hand wire n (courses n)
  pub members : (n : ℕ) → have_queues courses n ≡ true → member n ≡ true
  pub apart : (n k : ℕ) → have_queues courses n ≡ true → have_queues courses k ≡ true → (queues courses n).endpoint.addr ≡ (queues courses k).endpoint.addr
      → (queues courses n).endpoint.num ≡ (queues courses k).endpoint.num → n ≡ k
  -- the queue heads without one are those of other endpoints
  pub others : (n : ℕ) → member n ≡ true → have_queues courses n ≡ false → IsElsewhere (have_queues courses) (queues courses) parts n

abbrev pub with_course : (ℕ → Course) → ℕ → Course → ℕ → Course
with_course courses n c k = if k == n then c else courses k
