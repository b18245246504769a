-- An endpoint is met from now on, at rest.
use Rattle.std.proofs.Common.{◌≡◌, ◌≢◌, ℕ, Bool, true, false, Option, ap, refl, sym, ◌∙◌, ⊎_elim, arith}
use Rattle.std.proofs.lemmas.Bool.{cases_eq, false≢true}
use Rattle.law_structures.specs.lent_structures.Structures.{StructureSets}
use Rattle.dev_control.specs.Stages.{Stages}
use Rattle.claims_report.specs.ControlSides.{Device}
use Rattle.law_ring.specs.Hand.{Hand}
use Rattle.law_ring.specs.Told.{endpoint_of}
use Rattle.law_devices.specs.ring_requests.Windows.{Queue, IsElsewhere}
use Rattle.law_reports.specs.requests.Courses.{Course, Rests, has_queue, queue_in, IsResting, IsCourse, queues, have_queues, CoursesStand, with_course}
use Rattle.law_reports.specs.requests.QueueChanges.{IsNewCourse, CourseBegins}
use Rattle.law_reports.proofs.lemmas.requests.Courses.{HasHead, head_at}
use Rattle.law_reports.proofs.lemmas.requests.QueueChanging.{each_with, with_here, with_beside}

module _ {W : Type 0} (device : W → ℕ → ℕ → Option Device) (member : ℕ → Bool) (courses : ℕ → Course) (parts : StructureSets) (hand : Hand) (wire : W) (n b : ℕ) (v : Queue) (c : Stages) (k : IsNewCourse device member courses parts hand wire n b v c) (stand : CoursesStand device member courses parts hand wire) where
  abbrev now : ℕ → Course
  now = with_course courses n (Rests v b c)

  mine : IsResting v b c hand parts n (device wire v.endpoint.addr v.endpoint.num)
  mine =
      let none = k.none in
      record {
        line = record {
          requests = λ i few. absurd (omega (arith, few, none));
          whole = k.whole;
          places = λ i few. absurd (omega (arith, few, none));
          others = λ i j few less differs. absurd (omega (arith, few, none));
          chained = λ i few. absurd (omega (arith, few, none));
          last = λ i last. absurd (omega (arith, last, none));
        };
        rest = k.rest;
        wait = λ some. absurd (omega (arith, some, none));
        behind = λ i few. absurd (omega (arith, few, none));
      }

  -- the endpoints of the others
  not_own : (j : ℕ) → j ≢ n → have_queues courses j ≡ true → v.endpoint.addr ≡ (queues courses j).endpoint.addr → v.endpoint.num ≡ (queues courses j).endpoint.num → ⊥
  not_own j differs on addr num =
      let h : HasHead parts j (queues courses j) = head_at device member courses parts hand wire stand j on in
      k.other j (endpoint_of h.queue) differs (stand.members j on) (record { queue = h.queue; head = h.head; is = refl }) (addr ∙ sym h.control.address) (num ∙ sym h.control.number)

  apart_from : (i : ℕ) → has_queue (with_course courses n (Rests v b c) i) ≡ true → (j : ℕ) → has_queue (with_course courses n (Rests v b c) j) ≡ true
      → (queues (with_course courses n (Rests v b c)) i).endpoint.addr ≡ (queues (with_course courses n (Rests v b c)) j).endpoint.addr
      → (queues (with_course courses n (Rests v b c)) i).endpoint.num ≡ (queues (with_course courses n (Rests v b c)) j).endpoint.num → i ≡ j
  apart_from =
      each_with courses n (Rests v b c)
      (λ (i : ℕ) (x : Course). has_queue x ≡ true → (j : ℕ) → has_queue (now j) ≡ true → (queue_in x).endpoint.addr ≡ (queues now j).endpoint.addr → (queue_in x).endpoint.num ≡ (queues now j).endpoint.num → i ≡ j)
      (λ on.
      each_with courses n (Rests v b c) (λ (j : ℕ) (y : Course). has_queue y ≡ true → v.endpoint.addr ≡ (queue_in y).endpoint.addr → v.endpoint.num ≡ (queue_in y).endpoint.num → n ≡ j) (λ one addr num. refl)
      (λ j differs one addr num. absurd (not_own j differs one addr num)))
      (λ i differs on.
      each_with courses n (Rests v b c)
      (λ (j : ℕ) (y : Course). has_queue y ≡ true → (queues courses i).endpoint.addr ≡ (queue_in y).endpoint.addr → (queues courses i).endpoint.num ≡ (queue_in y).endpoint.num → i ≡ j)
      (λ one addr num. absurd (not_own i differs on (sym addr) (sym num))) (λ j other one addr num. stand.apart i j on one addr num))

  others : (i : ℕ) → member i ≡ true → have_queues (with_course courses n (Rests v b c)) i ≡ false → IsElsewhere (have_queues (with_course courses n (Rests v b c))) (queues (with_course courses n (Rests v b c))) parts i
  others i met off =
      ⊎_elim {C = IsElsewhere (have_queues now) (queues now) parts i} (λ (at : i ≡ n). absurd (false≢true (sym off ∙ ap has_queue (with_here courses n (Rests v b c) i at))))
      (λ (differs : i ≢ n).
      let o : IsElsewhere (have_queues courses) (queues courses) parts i = stand.others i met (sym (ap has_queue (with_beside courses n (Rests v b c) i differs)) ∙ off) in
      record {
        own = o.own;
        has = o.has;
        other = each_with courses n (Rests v b c) (λ (j : ℕ) (y : Course). has_queue y ≡ true → (queue_in y).endpoint.addr ≡ o.own.addr → (queue_in y).endpoint.num ≡ o.own.ep → ⊥) (λ on. k.other i o.own differs met o.has)
            (λ j other. o.other j);
      }) (cases_eq i n)

  begins : CoursesStand device member (with_course courses n (Rests v b c)) parts hand wire
  begins = record {
    each = each_with courses n (Rests v b c) (λ (i : ℕ) (x : Course). IsCourse device parts hand wire i x) mine (λ i differs. stand.each i);
    members = each_with courses n (Rests v b c) (λ (i : ℕ) (x : Course). has_queue x ≡ true → member i ≡ true) (λ on. k.met) (λ i differs. stand.members i);
    apart = λ i j on one. apart_from i on j one;
    others = others;
  }

pub course_begins : {W : Type 0} (device : W → ℕ → ℕ → Option Device) → CourseBegins device
course_begins device member courses parts hand wire n b v c k stand = begins device member courses parts hand wire n b v c k stand
