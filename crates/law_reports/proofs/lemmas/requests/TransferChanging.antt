-- What is recorded of requests where one is published, is done or halts, and where an endpoint comes or goes.
use Rattle.std.proofs.Common.{◌≡◌, ◌≢◌, ℕ, zero, suc, ◌-◌, ◌<◌, ◌≤◌, ◌==◌, ◌||◌, ◌&&◌, Bool, true, false, if◌then◌else◌, List, [], ◌∷◌, ◌++◌, Option, Some, ap, refl, sym, subst, ◌∙◌, ⊎_elim, inl, inr, arith}
use Rattle.std.specs.Prelude.{◌⊎◌}
use Rattle.std.specs.List.{AllByRecursion}
use Rattle.std.proofs.lemmas.Bool.{cases_eq, cases_lt, eq-eqb, false≢true}
use Rattle.law_reports.proofs.Common.{of_transfer}
use Rattle.law_common.proofs.Numbers.{other_number}
use Rattle.law_common.proofs.Lists.{all_joined}
use Rattle.law_structures.specs.lent_structures.Structures.{StructureSets}
use Rattle.claims_report.specs.Acts.{IsOnce}
use Rattle.drv_table.specs.DriverContent.{DriverContent}
use Rattle.law_driver.proofs.lemmas.run_owners.Released.{same_by_test}
use Rattle.dev_control.specs.Stages.{Stages}
use Rattle.claims_report.specs.Requests.{Request}
use Rattle.law_request.specs.Host.{Endpoint, Setup}
use Rattle.law_request.proofs.Steps.{window_is_right}
use Rattle.claims_report.specs.ControlSides.{Device}
use Rattle.law_ring.specs.Hand.{Hand}
use Rattle.law_devices.specs.ring_requests.Windows.{Sent, Queue, sent_at, Lines, lines_at, IsQueue, opened}
use Rattle.law_devices.specs.ring_requests.Runs.{first_of}
use Rattle.law_devices.specs.request_stores.Published.{new_sent, without_first}
use Rattle.law_devices.proofs.lemmas.request_stores.Publishing.{with_old, with_new}
use Rattle.claims_world.specs.Requests.{Windows, numbers_of}
use Rattle.law_reports.specs.requests.world_requests.Recording.{AreRecorded}
use Rattle.law_reports.specs.requests.driver_requests.Requests.{AreOfEndpoint}
use Rattle.law_reports.specs.requests.driver_requests.Behind.{AreBehind}
use Rattle.law_reports.proofs.lemmas.requests.lemmas.driver_requests.Keeping.{request_ends}
use Rattle.law_reports.proofs.lemmas.requests.lemmas.driver_requests.Behind.{first_goes}
use Rattle.law_reports.specs.requests.Courses.{Course, NoQueue, Asks, Rests, has_queue, have_queues, with_course}
use Rattle.law_reports.specs.requests.QueueChanges.{lines_from, lines_behind, mended_from}
use Rattle.law_reports.proofs.lemmas.requests.QueueChanging.{with_here, with_beside}
use Rattle.law_reports.specs.requests.Records.{Numbers, IsAhead, IsNumbered, IsOnceAt, IsClosed, IsRecord, AreRecords}
use Rattle.law_reports.specs.requests.TransferChanges.{with_numbers, CourseIsRecorded, next_request, BehindIsPublished, FirstIsPublished, HaltedIsPublished, MendedIsRecorded, first_closed, FirstIsClosed, LastIsClosed, all_closed, AllAreClosed, NewIsRecorded, CourseIsGone}
use Rattle.law_reports.proofs.lemmas.requests.Lists.{all_map}

pub all_first : (P : ℕ → Type 0) (number : ℕ → ℕ) (count : ℕ) → ((i : ℕ) → i < count → P (number i)) → AllByRecursion P (first_of number count)
all_first P number zero each = tt
all_first P number (suc count) each = all_joined P (first_of number count) (number count ∷ []) (all_first P number count (λ i few. each i (omega (arith, few)))) (each count (omega arith), tt)

-- ---- a queue changes

module _ (courses : ℕ → Course) (numbers : ℕ → Numbers) (n : ℕ) (c : Course) (a : Numbers) where
  pub each_with : (P : ℕ → Course → Numbers → Type 0) → P n c a → ((k : ℕ) → k ≢ n → P k (courses k) (numbers k)) → (k : ℕ) → P k (with_course courses n c k) (with_numbers numbers n a k)
  each_with P mine others k =
      ⊎_elim {C = P k (with_course courses n c k) (with_numbers numbers n a k)}
      (λ (at : k ≡ n).
      subst (λ (x : Course). P k x (with_numbers numbers n a k)) (sym (with_here courses n c k at))
      (subst (P k c) (sym (ap (λ (b : Bool). if b then a else numbers k) (eq-eqb k n at))) (subst (λ (j : ℕ). P j c a) (sym at) mine)))
      (λ (differs : k ≢ n).
      subst (λ (x : Course). P k x (with_numbers numbers n a k)) (sym (with_beside courses n c k differs)) (subst (P k (courses k)) (sym (ap (λ (b : Bool). if b then a else numbers k) (other_number k n differs))) (others k differs)))
      (cases_eq k n)

pub numbers_each : (courses : ℕ → Course) (numbers : ℕ → Numbers) (n : ℕ) (a : Numbers) (P : ℕ → Course → Numbers → Type 0) → P n (courses n) a → ((k : ℕ) → k ≢ n → P k (courses k) (numbers k)) → (k : ℕ) → P k (courses k) (with_numbers numbers n a k)
numbers_each courses numbers n a P mine others k =
    ⊎_elim {C = P k (courses k) (with_numbers numbers n a k)}
    (λ (at : k ≡ n). subst (P k (courses k)) (sym (ap (λ (b : Bool). if b then a else numbers k) (eq-eqb k n at))) (subst (λ (j : ℕ). P j (courses j) a) (sym at) mine))
    (λ (differs : k ≢ n). subst (P k (courses k)) (sym (ap (λ (b : Bool). if b then a else numbers k) (other_number k n differs))) (others k differs)) (cases_eq k n)

pub course_is_recorded : CourseIsRecorded
course_is_recorded d asks courses numbers gone v n c a mine rec = record {
  each = each_with courses numbers n c a (λ (k : ℕ) (x : Course) (y : Numbers). has_queue x ≡ true → IsRecord d asks k x y v) (λ has. mine) (λ k differs has. rec.each k has);
  left = rec.left;
  none = rec.none;
}

-- ---- a request is published

module _ (q : Queue) (a : Numbers) (k : IsAhead q a.requests) (more : q.count < a.requests.count) where
  pub ahead_next : IsAhead (next_request a q) a.requests
  ahead_next =
      let most = k.most in
      record {
        endpoint = k.endpoint;
        few = omega (arith, more);
        most = omega (arith, most);
        same = λ i few.
            ⊎_elim {C = sent_at a.requests i ≡ sent_at (next_request a q) i}
            (λ (at : i ≡ q.count).
            ap (λ (e : Endpoint). record { endpoint = e; request = a.requests.requests i; places = a.requests.places i }) k.endpoint
            ∙ ap (λ (j : ℕ). new_sent q (a.requests.requests j) (a.requests.places j)) at ∙ sym (with_new q (a.requests.requests q.count) (a.requests.places q.count) i at))
            (λ (differs : i ≢ q.count).
            let less : i < q.count = omega (arith, few, differs) in k.same i less ∙ sym (with_old q (a.requests.requests q.count) (a.requests.places q.count) i less)) (cases_eq i q.count);
      }

pub behind_is_published : BehindIsPublished
behind_is_published d asks n b e q l a v more k = record {
  numbered = record { own = k.numbered.own; order = k.numbered.order; ahead = ahead_next q a k.numbered.ahead more };
  acts = k.acts;
  closed = k.closed;
}

pub halted_is_published : HaltedIsPublished
halted_is_published d asks n b e q c a v more k = record {
  numbered = record { own = k.numbered.own; order = k.numbered.order; ahead = ahead_next q a k.numbered.ahead more };
  acts = k.acts;
  closed = k.closed;
}

-- nothing is recorded of them yet
first_acts : (q : Queue) (ping : Bool) (c : Stages) (a : Numbers) (v : Windows) → 0 < a.requests.count → ((i : ℕ) → i < a.requests.count → v.acts (a.number i) ≡ []) → AreRecorded a.requests a.number (v.opened a.endpoint) v.acts (lines_at q ping c)
first_acts q ping c a v some none = record { begun = λ i upto. none i (omega (arith, upto, some)); behind = λ i after few. none i few; is_open = inr refl }

pub first_is_published : FirstIsPublished
first_is_published d asks n b e q c ping a v more k = record {
  numbered = record { own = k.numbered.own; order = k.numbered.order; ahead = ahead_next q a k.numbered.ahead more };
  acts = first_acts (next_request a q) ping c a v (omega (arith, more)) k.acts;
  closed = k.closed;
}

module _ (d : DriverContent) (asks : ℕ → Request) (n b : ℕ) (q : Queue) (c : Stages) (ping : Bool) (a : Numbers) (v : Windows) (k : IsRecord d asks n (Rests q b c) a v) where
  mended_by : (count : ℕ) → q.count ≡ count → IsRecord d asks n (mended_from count q b ping c) a v
  mended_by zero none = k
  mended_by (suc j) some =
      let few = k.numbered.ahead.few in
      record { numbered = record { own = k.numbered.own; order = k.numbered.order; ahead = k.numbered.ahead }; acts = first_acts q ping c a v (omega (arith, some, few)) k.acts; closed = k.closed }

pub mended_is_recorded : MendedIsRecorded
mended_is_recorded d asks n b q c ping a v k = mended_by d asks n b q c ping a v k q.count refl

-- ---- the first is done

laid_next : (d : DriverContent) (w : Queue) (under n e : ℕ) (number : ℕ → ℕ) → AreOfEndpoint d w under n e number → AreOfEndpoint d w (suc under) n e number
laid_next d w under n e number k = record { endpoint = k.endpoint; transfers = k.transfers; rising = k.rising; laid = λ i from few. k.laid i (omega (arith, from)) few }

module _ (d : DriverContent) (asks : ℕ → Request) (n b : ℕ) (q : Queue) (l : Lines) (a : Numbers) (v : Windows) (some : 0 < q.count) (once : (l.line 0).acts ≡ (q.requests 0).setup ∷ []) (k : IsRecord d asks n (Asks q b l) a v) where
  abbrev w : Queue
  w = a.requests

  here : 0 < a.requests.count
  here = let few = k.numbered.ahead.few in omega (arith, some, few)

  first_once : IsOnceAt asks v (a.number 0)
  first_once =
      let request : asks (a.number 0) ≡ q.requests 0 = k.numbered.order.requests 0 here ∙ ap (λ (s : Sent). s.request) (k.numbered.ahead.same 0 some) in
      subst (λ (r : Request). IsOnce r.setup (v.acts (a.number 0))) (sym request) (inr (k.acts.begun 0 (omega arith) ∙ once))

  closed_now : AllByRecursion (IsClosed d asks (first_closed a) v) (a.closed ++ a.number 0 ∷ [])
  closed_now =
      all_joined (IsClosed d asks (first_closed a) v) a.closed (a.number 0 ∷ [])
      (all_map (IsClosed d asks a v) (IsClosed d asks (first_closed a) v) (λ t z. record { of = z.of; beside = λ i few. z.beside (suc i) (omega (arith, few)); once = z.once }) a.closed k.closed) (
        record {
          of = of_transfer d a.endpoint (a.number 0) (k.numbered.own.transfers 0 here);
          beside = λ i few same. let up = k.numbered.own.rising 0 (suc i) (omega arith) (omega (arith, few)) in omega (arith, up, same);
          once = first_once;
        },
        tt,
      )

  order_now : AreBehind d asks a.endpoint (a.closed ++ a.number 0 ∷ []) (without_first a.requests) (λ i. a.number (suc i))
  order_now = first_goes d asks a.endpoint a.closed w a.number here k.numbered.order

  ahead_now : IsAhead (without_first q) (without_first a.requests)
  ahead_now =
      let few = k.numbered.ahead.few in
      let most = k.numbered.ahead.most in
      record { endpoint = k.numbered.ahead.endpoint; few = omega (arith, few); most = omega (arith, most, some); same = λ i less. k.numbered.ahead.same (suc i) (omega (arith, less)) }

  own_now : AreOfEndpoint d (without_first a.requests) 0 n a.endpoint (λ i. a.number (suc i))
  own_now = request_ends d w 0 n a.endpoint a.number (laid_next d w 0 n a.endpoint a.number k.numbered.own)

  acts_by : 1 < q.count → (under : ℕ) → l.under ≡ under → AreRecorded (without_first a.requests) (λ i. a.number (suc i)) (v.opened a.endpoint) v.acts (lines_from q under l.line)
  acts_by more zero is =
      let few = k.numbered.ahead.few in
      record {
        begun = λ i upto. k.acts.behind (suc i) (omega (arith, is)) (omega (arith, upto, more, few));
        behind = λ i after less. k.acts.behind (suc i) (omega (arith, is)) (omega (arith, less));
        is_open = inr refl;
      }
  acts_by more (suc u) is = record {
    begun = λ i upto. k.acts.begun (suc i) (omega (arith, upto, is));
    behind = λ i after less. k.acts.behind (suc i) (omega (arith, after, is)) (omega (arith, less));
    is_open = subst (λ (j : ℕ). (v.opened a.endpoint ≡ Some (a.number j)) ⊎ ((l.line j).host.stage ≡ Setup)) is k.acts.is_open;
  }

  first_done : 1 < q.count → IsRecord d asks n (Asks (without_first q) b (lines_behind q l)) (first_closed a) v
  first_done more = record { numbered = record { own = own_now; order = order_now; ahead = ahead_now }; acts = acts_by more l.under refl; closed = closed_now }

  -- where it is the last one, what is accepted meanwhile isn't begun
  last_done : (c : Stages) → l.under ≡ 0 → IsRecord d asks n (Rests (without_first q) b c) (first_closed a) v
  last_done c under = record {
    numbered = record { own = own_now; order = order_now; ahead = ahead_now };
    acts = λ i few. k.acts.behind (suc i) (omega (arith, under)) (omega (arith, few));
    closed = closed_now;
  }

pub first_is_closed : FirstIsClosed
first_is_closed d asks n b q l a v more once k = first_done d asks n b q l a v (omega (arith, more)) once k more

pub last_is_closed : LastIsClosed
last_is_closed d asks n b q l c a v one under once k =
    last_done d asks n b q l a v (omega (arith, one)) once k c (omega (arith, under, one))

-- ---- all are closed

module _ (d : DriverContent) (asks : ℕ → Request) (n : ℕ) (a : Numbers) (v : Windows) where
  -- of each request that was asked or is to be
  module _ (b : ℕ) (q : Queue) (l : Lines) (hand : Hand) (parts : StructureSets) (o : Option Device) (w : IsQueue q l hand parts n o) (k : IsRecord d asks n (Asks q b l) a v) where
    begun_once : (i : ℕ) → i ≤ l.under → IsOnce (q.requests i).setup (l.line i).acts
    begun_once i upto =
        ⊎_elim {C = IsOnce (q.requests i).setup (l.line i).acts}
        (λ (same : i ≡ l.under).
        subst (λ (j : ℕ). IsOnce (q.requests j).setup (l.line j).acts) (sym same) (window_is_right q.endpoint (q.requests l.under) (l.line l.under) w.window.stands).once)
        (λ (differs : i ≢ l.under). (window_is_right q.endpoint (q.requests i) (l.line i) (w.finished i (omega (arith, upto, differs))).stands).once) (cases_eq i l.under)

    each_once : (i : ℕ) → i < a.requests.count → IsOnceAt asks v (a.number i)
    each_once i few =
        ⊎_elim {C = IsOnceAt asks v (a.number i)}
        (λ (after : l.under < i). inl (k.acts.behind i after few))
        (λ (upto : i ≤ l.under).
        let within = w.within in
        let less : i < q.count = omega (arith, upto, within) in
        let request : asks (a.number i) ≡ q.requests i = k.numbered.order.requests i few ∙ ap (λ (s : Sent). s.request) (k.numbered.ahead.same i less) in
        subst (λ (r : Request). IsOnce r.setup (v.acts (a.number i))) (sym request) (subst (IsOnce (q.requests i).setup) (sym (k.acts.begun i upto)) (begun_once i upto))) (cases_lt l.under i)

  module _ (c : Course) (numbered : IsNumbered d asks n c a) (closed : AllByRecursion (IsClosed d asks a v) a.closed) (once : (i : ℕ) → i < a.requests.count → IsOnceAt asks v (a.number i)) where
    closed_all : AllByRecursion (IsClosed d asks (all_closed a) v) (a.closed ++ first_of a.number a.requests.count)
    closed_all =
        all_joined (IsClosed d asks (all_closed a) v) a.closed (first_of a.number a.requests.count)
        (all_map (IsClosed d asks a v) (IsClosed d asks (all_closed a) v) (λ t z. record { of = z.of; beside = λ i few. absurd (omega (arith, few)); once = z.once }) a.closed closed)
        (all_first (IsClosed d asks (all_closed a) v) a.number a.requests.count
        (λ i few. record { of = of_transfer d a.endpoint (a.number i) (numbered.own.transfers i few); beside = λ j less. absurd (omega (arith, less)); once = once i few }))

    all_once : AllByRecursion (IsOnceAt asks v) (numbers_of d a.endpoint)
    all_once =
        subst (AllByRecursion (IsOnceAt asks v)) (sym numbered.order.numbers)
        (all_map (IsClosed d asks (all_closed a) v) (IsOnceAt asks v) (λ t z. z.once) (a.closed ++ first_of a.number a.requests.count) closed_all)

none_more : (xs : List ℕ) → xs ≡ xs ++ []
none_more [] = refl
none_more (x ∷ xs) = ap (λ (ys : List ℕ). x ∷ ys) (none_more xs)

pub all_are_closed : AllAreClosed
all_are_closed d asks n b q l c a v hand parts o w k = record {
  numbered = record {
    own = record { endpoint = k.numbered.own.endpoint; transfers = λ i few. absurd (omega (arith, few)); rising = λ i j before few. absurd (omega (arith, few)); laid = λ i from few. absurd (omega (arith, few)) };
    order = record { numbers = k.numbered.order.numbers ∙ none_more (a.closed ++ first_of a.number a.requests.count); requests = λ i few. absurd (omega (arith, few)) };
    ahead = record { endpoint = k.numbered.ahead.endpoint; few = omega arith; most = omega arith; same = λ i few. absurd (omega (arith, few)) };
  };
  acts = λ i few. absurd (omega (arith, few));
  closed = closed_all d asks n a v (Asks q b l) k.numbered k.closed (each_once d asks n a v b q l hand parts o w k);
}

-- ---- endpoints come and go

pub new_is_recorded : NewIsRecorded
new_is_recorded d asks n b e q c v new =
    let none = new.none in
    record {
      numbered = record {
        own = record { endpoint = new.endpoint; transfers = λ i few. absurd (omega (arith, few, none)); rising = λ i j before few. absurd (omega (arith, few, none)); laid = λ i from few. absurd (omega (arith, few, none)) };
        order = record { numbers = new.numbers ∙ sym (ap (first_of (λ i. i)) none); requests = λ i few. absurd (omega (arith, few, none)) };
        ahead = record { endpoint = refl; few = omega arith; most = omega arith; same = λ i few. refl };
      };
      acts = λ i few. absurd (omega (arith, few, none));
      closed = tt;
    }

module _ (d : DriverContent) (asks : ℕ → Request) (courses : ℕ → Course) (numbers : ℕ → Numbers) (gone : ℕ → Bool) (v : Windows) (n : ℕ) (hand : Hand) (parts : StructureSets) (asked : (q : Queue) (b : ℕ) (l : Lines) → courses n ≡ Asks q b l → (o : Option Device) × IsQueue q l hand parts n o) (rec : AreRecords d asks courses numbers gone v) where
  pub once_by : (c : Course) → courses n ≡ c → has_queue c ≡ true → IsRecord d asks n c (numbers n) v → AllByRecursion (IsOnceAt asks v) (numbers_of d (numbers n).endpoint)
  once_by NoQueue is has k = absurd (false≢true has)
  once_by (Asks q b l) is has k = let w = asked q b l is in all_once d asks n (numbers n) v (Asks q b l) k.numbered k.closed (each_once d asks n (numbers n) v b q l hand parts w.0 w.1 k)
  once_by (Rests q b c) is has k = all_once d asks n (numbers n) v (Rests q b c) k.numbered k.closed (λ i few. inl (k.acts i few))

  left_by : (e : ℕ) (has at : Bool) → have_queues courses n ≡ has → (e == (numbers n).endpoint) ≡ at → ((has && at) || gone e) ≡ true → AllByRecursion (IsOnceAt asks v) (numbers_of d e)
  left_by e true true has at on = subst (λ (i : ℕ). AllByRecursion (IsOnceAt asks v) (numbers_of d i)) (sym (same_by_test e (numbers n).endpoint at)) (once_by (courses n) refl has (rec.each n has))
  left_by e true false has at on = rec.left e on
  left_by e false true has at on = rec.left e on
  left_by e false false has at on = rec.left e on

  course_has : (k : ℕ) → have_queues (with_course courses n NoQueue) k ≡ true → (with_course courses n NoQueue k ≡ courses k) × (have_queues courses k ≡ true)
  course_has k on =
      ⊎_elim {C = (with_course courses n NoQueue k ≡ courses k) × (have_queues courses k ≡ true)} (λ (at : k ≡ n). absurd (false≢true (sym (ap has_queue (with_here courses n NoQueue k at)) ∙ on)))
      (λ (differs : k ≢ n). (with_beside courses n NoQueue k differs, sym (ap has_queue (with_beside courses n NoQueue k differs)) ∙ on)) (cases_eq k n)

  gone_recorded : AreRecords d asks (with_course courses n NoQueue) numbers (λ e. (have_queues courses n && e == (numbers n).endpoint) || gone e) v
  gone_recorded = record {
    each = λ k on. let same = course_has k on in subst (λ (c : Course). IsRecord d asks k c (numbers k) v) (sym same.0) (rec.each k same.1);
    left = λ e on. left_by e (have_queues courses n) (e == (numbers n).endpoint) refl refl on;
    none = rec.none;
  }

pub course_is_gone : CourseIsGone
course_is_gone d asks courses numbers gone v n hand parts asked rec = gone_recorded d asks courses numbers gone v n hand parts asked rec
