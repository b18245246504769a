-- Where links of queue heads alone are stored, the queues of control endpoints stand as they did.
use Rattle.std.proofs.Common.{ℕ, Bool, Option, refl}
use Rattle.law_world.proofs.Common.{hand_tells}
use Rattle.claims_report.specs.ControlSides.{Device}
use Rattle.law_structures.specs.lent_structures.Structures.{StructureSets}
use Rattle.law_structures.specs.lent_structures.Sound.{buffer_name}
use Rattle.law_ring.specs.Hand.{Hand}
use Rattle.law_ring.specs.Told.{HasEndpoint, Endpoint as Characteristics}
use Rattle.law_devices.specs.ring_requests.Laid.{place_at, IsIdle}
use Rattle.law_devices.specs.ring_requests.Windows.{Queue}
use Rattle.law_devices.specs.ring_requests.Resting.{SameSide}
use Rattle.law_devices.proofs.lemmas.ring_requests.RestingSpared.{linked_side}
use Rattle.law_world.specs.memory.SameQueues.{IsRelinked, IsSameQueue}
use Rattle.law_world.specs.memory.Steps.{HandStays, same_hand as the_same, linked_hand}
use Rattle.law_reports.specs.requests.Courses.{Course, tail_in, queues, CoursesStand}
use Rattle.law_reports.specs.requests.Spared.{KeepsQueue}
use Rattle.law_reports.proofs.lemmas.requests.Courses.{HasHead, head_of}
use Rattle.law_reports.proofs.lemmas.requests.QueueChanging.{all_kept, course_kept}
use Rattle.law_reports.proofs.lemmas.requests.Writing.{same_side, tail_of}

-- ---- what is in hand

pub stays_side : (hand later : Hand) (n : ℕ) → HandStays hand later → SameSide hand later n
stays_side hand _ n the_same = same_side hand n
stays_side hand _ n (linked_hand m l) = linked_side m n l hand

-- ---- the endpoint of a queue head

pub relinked_end : (parts now : StructureSets) (n : ℕ) (own : Characteristics) → IsSameQueue n (parts n) (now n) → HasEndpoint parts n own
    → HasEndpoint now n own
relinked_end parts now n own same has = let h : IsRelinked (now n) n has.queue = same.head has.queue has.head in record { queue = record has.queue { link = h.link }; head = h.here; is = has.is }

pub was_end : (parts now : StructureSets) (n : ℕ) (own : Characteristics) → IsSameQueue n (parts n) (now n) → HasEndpoint now n own
    → HasEndpoint parts n own
was_end parts now n own same has = let h : IsRelinked (parts n) n has.queue = same.head_was has.queue has.head in record { queue = record has.queue { link = h.link }; head = h.here; is = has.is }

-- ---- the queues

module _ (parts now : StructureSets) (hand later : Hand) (stays : HandStays hand later)
    (same : (n : ℕ) → IsSameQueue n (parts n) (now n)) where
  keeps : (n : ℕ) (v : Queue) (b : ℕ) → HasHead parts n v → IsIdle (parts n) b → KeepsQueue v b hand later parts now n
  keeps n v b head tail =
      let s : IsSameQueue n (parts n) (now n) = same n in
      let h : IsRelinked (now n) n head.queue = s.head head.queue head.head in
      record {
        side = stays_side hand later n stays;
        same = hand_tells hand later stays;
        head = record {
          queue = head.queue;
          here = head.head;
          later = record head.queue { link = h.link };
          there = h.here;
          rest = record { token = refl; current = refl; next = refl; alternate = refl };
          own = refl;
        };
        overlay = λ q here.
            let i : IsRelinked (now n) n q = s.head q here in
            record { queue = record q { link = i.link }; here = i.here; overlay = record { token = refl; current = refl; offset = refl; endpoint = refl } };
        qtds = record {
          place = λ i st t few here. s.elements (place_at (v.places i) st) t here;
          before = λ i st t few here. s.elements_were (place_at (v.places i) st) t here;
          buffer = λ i st t few here. record { here = λ pages j bytes there. s.buffers (buffer_name t) pages j bytes there; bytes = s.bytes (buffer_name t) };
        };
        tail = record { qtd = tail.qtd; here = s.elements b tail.qtd tail.here; idle = tail.idle };
      }

  pub relinked_courses : {W : Type 0} (device : W → ℕ → ℕ → Option Device) (member : ℕ → Bool) (courses : ℕ → Course) (wire : W)
      → CoursesStand device member courses parts hand wire → CoursesStand device member courses now later wire
  relinked_courses device member courses wire stand =
      all_kept device member courses parts now hand later wire
      (λ n z.
      course_kept device parts now hand later wire n (courses n)
      (λ on. keeps n (queues courses n) (tail_in (courses n)) (head_of device parts hand wire n (courses n) on z) (tail_of device parts hand wire n (courses n) on z)) z)
      (λ n own met has. relinked_end parts now n own (same n) has) stand
