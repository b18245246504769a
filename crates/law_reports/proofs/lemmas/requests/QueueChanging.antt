-- All queues stand after what is written, where each is kept, or one of them changes.
use Rattle.std.proofs.Common.{◌≡◌, ◌≢◌, ℕ, Bool, true, false, if◌then◌else◌, Option, ap, refl, sym, subst, ◌∙◌, ⊎_elim}
use Rattle.std.specs.Prelude.{◌⊎◌}
use Rattle.std.proofs.lemmas.Bool.{cases_eq, eq-eqb, false≢true}
use Rattle.law_common.proofs.Numbers.{other_number}
use Rattle.law_structures.specs.lent_structures.Structures.{StructureSets}
use Rattle.law_request.specs.Host.{Endpoint}
use Rattle.claims_report.specs.ControlSides.{Device}
use Rattle.law_ring.specs.Hand.{Hand}
use Rattle.law_ring.specs.Told.{HasEndpoint, endpoint_of, Endpoint as Characteristics}
use Rattle.law_devices.specs.ring_requests.Windows.{IsElsewhere}
use Rattle.law_reports.specs.requests.Courses.{Course, NoQueue, Asks, Rests, has_queue, queue_in, tail_in, IsCourse, queues, have_queues, CoursesStand, with_course}
use Rattle.law_reports.specs.requests.Spared.{KeepsQueue, KeepsEndpoints, CoursesAreSpared}
use Rattle.law_reports.specs.requests.QueueChanges.{CourseLeaves, MembersChange}
use Rattle.law_reports.proofs.lemmas.requests.Courses.{HasHead, head_at}
use Rattle.law_reports.proofs.lemmas.requests.Keeping.{asking_kept, resting_kept}

-- ---- each is kept

module _ {W : Type 0} (device : W → ℕ → ℕ → Option Device) (parts now : StructureSets) (hand later : Hand) (wire : W) (n : ℕ) where
  pub course_kept : (c : Course) → (has_queue c ≡ true → KeepsQueue (queue_in c) (tail_in c) hand later parts now n) → IsCourse device parts hand wire n c → IsCourse device now later wire n c
  course_kept NoQueue keeps k = tt
  course_kept (Asks v b l) keeps k = asking_kept v b hand later parts now n k.line (keeps refl) l (device wire v.endpoint.addr v.endpoint.num) k
  course_kept (Rests v b c) keeps k = resting_kept v b hand later parts now n k.line (keeps refl) c (device wire v.endpoint.addr v.endpoint.num) k

pub elsewhere_kept : (courses : ℕ → Course) (parts now : StructureSets) (k : ℕ) → ((own : Characteristics) → HasEndpoint parts k own → HasEndpoint now k own) → IsElsewhere (have_queues courses) (queues courses) parts k
    → IsElsewhere (have_queues courses) (queues courses) now k
elsewhere_kept courses parts now k ends o = record { own = o.own; has = ends o.own o.has; other = o.other }

pub all_kept : {W : Type 0} (device : W → ℕ → ℕ → Option Device) (member : ℕ → Bool) (courses : ℕ → Course) (parts now : StructureSets) (hand later : Hand) (wire : W)
    → ((n : ℕ) → IsCourse device parts hand wire n (courses n) → IsCourse device now later wire n (courses n)) → KeepsEndpoints member parts now
    → CoursesStand device member courses parts hand wire → CoursesStand device member courses now later wire
all_kept device member courses parts now hand later wire keeps ends stand = record {
  each = λ n. keeps n (stand.each n);
  members = stand.members;
  apart = stand.apart;
  others = λ n met off. elsewhere_kept courses parts now n (λ own. ends n own met) (stand.others n met off);
}

pub courses_spared : {W : Type 0} (device : W → ℕ → ℕ → Option Device) → CoursesAreSpared device
courses_spared device member courses parts now hand later wire keeps ends stand =
    all_kept device member courses parts now hand later wire (λ n. course_kept device parts now hand later wire n (courses n) (keeps n)) ends stand

-- ---- one of them changes

module _ (courses : ℕ → Course) (n : ℕ) (c : Course) where
  pub with_here : (k : ℕ) → k ≡ n → with_course courses n c k ≡ c
  with_here k at = ap (λ (b : Bool). if b then c else courses k) (eq-eqb k n at)

  pub with_beside : (k : ℕ) → k ≢ n → with_course courses n c k ≡ courses k
  with_beside k differs = ap (λ (b : Bool). if b then c else courses k) (other_number k n differs)

  pub each_with : (P : ℕ → Course → Type 0) → P n c → ((k : ℕ) → k ≢ n → P k (courses k)) → (k : ℕ) → P k (with_course courses n c k)
  each_with P mine others k =
      ⊎_elim {C = P k (with_course courses n c k)} (λ (at : k ≡ n). subst (P k) (sym (with_here k at)) (subst (λ (j : ℕ). P j c) (sym at) mine))
      (λ (differs : k ≢ n). subst (P k) (sym (with_beside k differs)) (others k differs)) (cases_eq k n)

  module _ {W : Type 0} (device : W → ℕ → ℕ → Option Device) (member : ℕ → Bool) (parts now : StructureSets) (hand later : Hand) (wire : W) (stand : CoursesStand device member courses parts hand wire) (ends : KeepsEndpoints member parts now)
      (others : (k : ℕ) → k ≢ n → IsCourse device parts hand wire k (courses k) → IsCourse device now later wire k (courses k)) where
    -- it is of the same endpoint
    module _ (mine : IsCourse device now later wire n c) (before : have_queues courses n ≡ true) (has : has_queue c ≡ true) (same : (queue_in c).endpoint ≡ (queues courses n).endpoint) where
      has_still : (k : ℕ) → have_queues (with_course courses n c) k ≡ have_queues courses k
      has_still = each_with (λ (k : ℕ) (x : Course). has_queue x ≡ have_queues courses k) (has ∙ sym before) (λ k differs. refl)

      endpoint_still : (k : ℕ) → (queues (with_course courses n c) k).endpoint ≡ (queues courses k).endpoint
      endpoint_still = each_with (λ (k : ℕ) (x : Course). (queue_in x).endpoint ≡ (queues courses k).endpoint) same (λ k differs. refl)

      pub one_changes : CoursesStand device member (with_course courses n c) now later wire
      one_changes = record {
        each = each_with (λ (k : ℕ) (x : Course). IsCourse device now later wire k x) mine (λ k differs. others k differs (stand.each k));
        members = λ k on. stand.members k (sym (has_still k) ∙ on);
        apart = λ k j on one addr num.
            stand.apart k j (sym (has_still k) ∙ on) (sym (has_still j) ∙ one) (ap (λ (e : Endpoint). e.addr) (sym (endpoint_still k)) ∙ addr ∙ ap (λ (e : Endpoint). e.addr) (endpoint_still j))
            (ap (λ (e : Endpoint). e.num) (sym (endpoint_still k)) ∙ num ∙ ap (λ (e : Endpoint). e.num) (endpoint_still j));
        others = λ k met off.
            let o : IsElsewhere (have_queues courses) (queues courses) parts k = stand.others k met (sym (has_still k) ∙ off) in
            record {
              own = o.own;
              has = ends k o.own met o.has;
              other = λ j on addr num. o.other j (sym (has_still j) ∙ on) (ap (λ (e : Endpoint). e.addr) (sym (endpoint_still j)) ∙ addr) (ap (λ (e : Endpoint). e.num) (sym (endpoint_still j)) ∙ num);
            };
      }

-- ---- they come and go

pub members_change : {W : Type 0} (device : W → ℕ → ℕ → Option Device) → MembersChange device
members_change device member met courses parts hand wire still more stand = record {
  each = stand.each;
  members = still;
  apart = stand.apart;
  others = λ k on off.
      ⊎_elim {C = IsElsewhere (have_queues courses) (queues courses) parts k} (λ (before : member k ≡ true). stand.others k before off)
      (λ (o : IsElsewhere (have_queues courses) (queues courses) parts k). o) (more k on);
}

module _ {W : Type 0} (device : W → ℕ → ℕ → Option Device) (member : ℕ → Bool) (courses : ℕ → Course) (parts : StructureSets) (hand : Hand) (wire : W) (n : ℕ) (stand : CoursesStand device member courses parts hand wire) where
  abbrev left : ℕ → Course
  left = with_course courses n NoQueue

  left_was : (k : ℕ) → have_queues (with_course courses n NoQueue) k ≡ true → (k ≢ n) × (have_queues courses k ≡ true) × ((queues (with_course courses n NoQueue) k).endpoint ≡ (queues courses k).endpoint)
  left_was =
      each_with courses n NoQueue (λ (k : ℕ) (x : Course). has_queue x ≡ true → (k ≢ n) × (have_queues courses k ≡ true) × ((queue_in x).endpoint ≡ (queues courses k).endpoint)) (λ on. absurd (false≢true on))
      (λ k differs on. (differs, on, refl))

  own_elsewhere : (b : Bool) → have_queues courses n ≡ b → member n ≡ true → IsElsewhere (have_queues (with_course courses n NoQueue)) (queues (with_course courses n NoQueue)) parts n
  own_elsewhere true on met =
      let h : HasHead parts n (queues courses n) = head_at device member courses parts hand wire stand n on in
      record {
        own = endpoint_of h.queue;
        has = record { queue = h.queue; head = h.head; is = refl };
        other = λ k one addr num.
            let was = left_was k one in
            was.0 (stand.apart k n was.1 on (ap (λ (e : Endpoint). e.addr) (sym was.2) ∙ addr ∙ h.control.address) (ap (λ (e : Endpoint). e.num) (sym was.2) ∙ num ∙ h.control.number));
      }
  own_elsewhere false off met = elsewhere_left n (stand.others n met off)
    where
      elsewhere_left : (k : ℕ) → IsElsewhere (have_queues courses) (queues courses) parts k → IsElsewhere (have_queues (with_course courses n NoQueue)) (queues (with_course courses n NoQueue)) parts k
      elsewhere_left k o = record {
        own = o.own;
        has = o.has;
        other = λ j one addr num. let was = left_was j one in o.other j was.1 (ap (λ (e : Endpoint). e.addr) (sym was.2) ∙ addr) (ap (λ (e : Endpoint). e.num) (sym was.2) ∙ num);
      }

  pub course_left : CoursesStand device member (with_course courses n NoQueue) parts hand wire
  course_left = record {
    each = each_with courses n NoQueue (λ (k : ℕ) (x : Course). IsCourse device parts hand wire k x) tt (λ k differs. stand.each k);
    members = λ k on. stand.members k (left_was k on).1;
    apart = λ k j on one addr num.
        let was = left_was k on in
        let other = left_was j one in
        stand.apart k j was.1 other.1 (ap (λ (e : Endpoint). e.addr) (sym was.2) ∙ addr ∙ ap (λ (e : Endpoint). e.addr) other.2) (ap (λ (e : Endpoint). e.num) (sym was.2) ∙ num ∙ ap (λ (e : Endpoint). e.num) other.2);
    others = λ k met off.
        ⊎_elim {C = IsElsewhere (have_queues left) (queues left) parts k} (λ (at : k ≡ n). subst (IsElsewhere (have_queues left) (queues left) parts) (sym at) (own_elsewhere (have_queues courses n) refl (subst (λ (j : ℕ). member j ≡ true) at met)))
        (λ (differs : k ≢ n).
        let o : IsElsewhere (have_queues courses) (queues courses) parts k = stand.others k met (sym (ap has_queue (with_beside courses n NoQueue k differs)) ∙ off) in
        record {
          own = o.own;
          has = o.has;
          other = λ j one addr num. let was = left_was j one in o.other j was.1 (ap (λ (e : Endpoint). e.addr) (sym was.2) ∙ addr) (ap (λ (e : Endpoint). e.num) (sym was.2) ∙ num);
        }) (cases_eq k n);
  }

pub course_leaves : {W : Type 0} (device : W → ℕ → ℕ → Option Device) → CourseLeaves device
course_leaves device member courses parts hand wire n stand = course_left device member courses parts hand wire n stand
