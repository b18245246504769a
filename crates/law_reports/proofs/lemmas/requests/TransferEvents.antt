-- Each event of the controller keeps what is recorded of the requests of control endpoints.
use Rattle.std.proofs.Common.{◌≡◌, ◌≢◌, ℕ, suc, ◌<◌, ◌≤◌, Bool, true, false, List, [], ◌++◌, Option, Some, None, ap, refl, sym, subst, ◌∙◌, ⊎_elim, arith}
use Rattle.std.specs.Prelude.{◌==◌, slice_get, if◌then◌else◌}
use Rattle.std.specs.List.{AllByRecursion}
use Rattle.std.proofs.lemmas.Bool.{cases_eq, cases_lt, eq-eqb, false≢true}
use Rattle.std.proofs.lemmas.Option.{same_Some}
use Rattle.law_reports.proofs.Common.{of_transfer, stepped_is}
use Rattle.law_common.proofs.Numbers.{other_number}
use Rattle.law_common.proofs.Lists.{all_joined}
use Rattle.claims_report.specs.Acts.{IsOnce}
use Rattle.law_device.specs.Acts.{counted}
use Rattle.bus_wire.specs.declared.asked.Losses.{Losses}
use Rattle.drv_table.specs.declared.content.Endpoint.{Endpoint as DriverEndpoint}
use Rattle.drv_table.specs.DriverContent.{DriverContent}
use Rattle.law_structures.specs.lent_structures.Structures.{StructureSets}
use Rattle.bus_wire.specs.Bus.{Fixed}
use Rattle.law_request.specs.Host.{Endpoint}
use Rattle.law_request.specs.Line.{Line, transacted}
use Rattle.law_request.proofs.Counts.{transacted_counts}
use Rattle.claims_report.specs.ControlSides.{Device}
use Rattle.law_devices.specs.request_calls.Bus.{device_of}
use Rattle.dev_control.specs.Stages.{Stages}
use Rattle.claims_report.specs.Requests.{Request}
use Rattle.law_ring.specs.Hand.{Hand}
use Rattle.claims_base.specs.Controller.{Base}
use Rattle.law_devices.specs.ring_requests.Windows.{Sent, Queue, Lines, Progress, Transaction, Advance, opened, progressed, Step}
use Rattle.law_devices.specs.ring_requests.Runs.{first_of}
use Rattle.law_devices.specs.Controls.{control_of}
use Rattle.law_devices.specs.scripted_requests.Controls.{transacts_by, begins_by}
use Rattle.bus_world.specs.World.{World, controller_parts, controller_next}
use Rattle.claims_world.specs.Requests.{wired, endpoint_of, Windows, stages_at, side_of, acted_with, begun_by, acted_by, after_event, numbers_of}
use Rattle.law_reports.specs.requests.world_requests.Requesting.{IsWalked, RingGoesOn, WindowsGoOn, AreAsked}
use Rattle.law_reports.specs.requests.world_requests.Recording.{AreTransfers, IsRecorded, AreRecorded}
use Rattle.law_reports.proofs.lemmas.requests.lemmas.world_requests.Acting.{none_acted}
use Rattle.law_reports.proofs.lemmas.requests.lemmas.world_requests.Following.{event_kept}
use Rattle.law_reports.proofs.lemmas.requests.lemmas.world_requests.Queues.{quiet_acts}
use Rattle.law_reports.specs.requests.driver_requests.Requests.{IsOfEndpoint, IsLaidOut, AreOfEndpoint, AreOfDriver, AreUnderWay}
use Rattle.law_reports.proofs.lemmas.requests.lemmas.driver_requests.Telling.{transfers_are_told}
use Rattle.law_reports.specs.requests.Courses.{Course, NoQueue, Asks, Rests, has_queue, is_asking, queue_in, lines_in, IsCourse, queues, are_asking, all_lines, CoursesStand}
use Rattle.law_reports.specs.requests.QueueEvents.{line_after, course_after, courses_after, CoursesGoOn}
use Rattle.law_reports.proofs.lemmas.requests.Courses.{sent_are, windows_are, asks_has, asked_of}
use Rattle.law_reports.specs.requests.Records.{Numbers, IsNumbered, IsOnceAt, AreActs, IsClosed, IsRecord, AreRecords}
use Rattle.law_reports.specs.requests.TransferEvents.{IsLeftAlone, IsOwned, EventKeepsRecords, ClosedStay, EventKeepsClosed}
use Rattle.law_reports.specs.requests.Counts.{counted_all, Counts, side_at, EventKeepsCounts}
use Rattle.law_reports.proofs.lemmas.requests.Acting.{others_kept}
use Rattle.law_reports.proofs.lemmas.requests.Counts.{counted_more, counted_same, counted_first}
use Rattle.law_reports.proofs.lemmas.requests.TransferChanging.{all_first}
use Rattle.law_reports.proofs.lemmas.requests.Lists.{all_map, all_both, numbers_are}
use Rattle.law_reports.proofs.lemmas.requests.Seats.{stages_as}

-- ---- the requests of the queue are the first of them

module _ (d : DriverContent) (asks : ℕ → Request) (n : ℕ) (a : Numbers) where
  restricted : (c : Course) → is_asking c ≡ true → IsNumbered d asks n c a → AreOfEndpoint d (queue_in c) (lines_in c).under n a.endpoint a.number
  restricted (Asks q b l) on k =
      let few = k.ahead.few in
      record {
        endpoint = subst (λ (x : Endpoint). IsOfEndpoint d x n a.endpoint) k.ahead.endpoint k.own.endpoint;
        transfers = λ i less. k.own.transfers i (omega (arith, less, few));
        rising = λ i j before less. k.own.rising i j before (omega (arith, less, few));
        laid = λ i from less. subst (λ (s : Sent). IsLaidOut d (a.number i) s.request s.places) (k.ahead.same i less) (k.own.laid i (omega arith) (omega (arith, less, few)));
      }
  restricted _ on k = absurd (false≢true on)

  restricted_record : (v : Windows) (c : Course) → is_asking c ≡ true → IsNumbered d asks n c a → AreActs c a v → AreRecorded (queue_in c) a.number (v.opened a.endpoint) v.acts (lines_in c)
  restricted_record v (Asks q b l) on k r = let few = k.ahead.few in record { begun = r.begun; behind = λ i after less. r.behind i after (omega (arith, less, few)); is_open = r.is_open }
  restricted_record v _ on k r = absurd (false≢true on)

pub none_acts : (fixed : Fixed) (w new : World) (x : DriverEndpoint) → IsLeftAlone fixed w new x
    → acted_with (side_of fixed w (Some x)) (side_of fixed new (Some x)) ≡ []
none_acts fixed w new x alone =
    ap (λ (o : Option Stages). acted_with o (side_of fixed new (Some x)))
    (stages_as (wired fixed w) x.desc.name.addr x.desc.name.num alone.device alone.before)
    ∙ ap (acted_with (Some alone.device.stages))
    (stages_as (wired fixed new) x.desc.name.addr x.desc.name.num alone.device alone.after)
    ∙ none_acted alone.device.stages

module _ (fixed : Fixed) (base : Base) (member : ℕ → Bool) (courses : ℕ → Course) (numbers : ℕ → Numbers) (gone : ℕ → Bool) (parts : StructureSets) (hand : Hand) (asks : ℕ → Request) (w : World) (v : Windows) (event : RingGoesOn begins_by transacts_by base member parts hand (wired fixed w) (wired fixed (controller_next fixed w)) (controller_parts (controller_next fixed w))) (g : CoursesGoOn control_of member courses event.effect) (walked : IsWalked base member parts hand (controller_parts w)) (stand : CoursesStand control_of member courses parts hand (wired fixed w)) (owned : IsOwned w.driver parts) (alone : (e : ℕ) (x : DriverEndpoint) → gone e ≡ true → slice_get w.driver.endpoints e ≡ Some x → IsLeftAlone fixed w (controller_next fixed w) x) (rec : AreRecords w.driver asks courses numbers gone v) where
  abbrev d : DriverContent
  d = w.driver

  abbrev new : World
  new = controller_next fixed w

  abbrev later : Windows
  later = after_event fixed w v

  abbrev endpoint : ℕ → ℕ
  endpoint n = (numbers n).endpoint

  abbrev number : ℕ → ℕ → ℕ
  number n = (numbers n).number

  -- ---- as the recorder has them

  of_driver : AreOfDriver w.driver (are_asking courses) (queues courses) (all_lines courses) (λ n. (numbers n).endpoint) (λ n. (numbers n).number)
  of_driver n asking = restricted d asks n (numbers n) (courses n) asking (rec.each n (asks_has (courses n) asking)).numbered

  way : AreUnderWay (are_asking courses) (queues courses) (all_lines courses)
  way n asking = (asked_of control_of parts hand (wired fixed w) n (courses n) asking (stand.each n)).within

  transfers : AreTransfers w.driver (are_asking courses) (queues courses) (all_lines courses) parts (λ n. (numbers n).endpoint) (λ n. (numbers n).number)
  transfers =
      transfers_are_told d member (are_asking courses) (queues courses) (all_lines courses) parts (λ n. (numbers n).endpoint) (λ n. (numbers n).number) owned.owners owned.qtds owned.driven
      (sent_are control_of member courses parts hand (wired fixed w) stand) way of_driver

  recorded : IsRecorded (are_asking courses) (queues courses) (λ n. (numbers n).endpoint) (λ n. (numbers n).number) (all_lines courses) v
  recorded n asking =
      let k : IsRecord w.driver asks n (courses n) (numbers n) v = rec.each n (asks_has (courses n) asking) in
      restricted_record d asks n (numbers n) v (courses n) asking k.numbered k.acts

  requesting : AreAsked fixed base member (are_asking courses) (queues courses) parts hand (all_lines courses) w
  requesting = record {
    walked = walked;
    all = windows_are control_of member courses parts hand (wired fixed w) stand;
  }

  abbrev windows : WindowsGoOn begins_by transacts_by control_of base member (are_asking courses) (queues courses) (all_lines courses) parts hand (wired fixed w) (wired fixed (controller_next fixed w)) (controller_parts (controller_next fixed w))
  windows = record { event = event; step = g.step; all = g.windows; is = g.is; halted = g.halted }

  -- ---- one that asks

  module _ (n b : ℕ) (q : Queue) (l : Lines) (is : courses n ≡ Asks q b l) where
    abbrev a : Numbers
    a = numbers n

    asking : are_asking courses n ≡ true
    asking = ap is_asking is

    before : IsRecord w.driver asks n (Asks q b l) (numbers n) v
    before = subst (λ (c : Course). IsRecord w.driver asks n c (numbers n) v) is (rec.each n (ap has_queue is))

    acts_stay : (t : ℕ) → endpoint_of w.driver t ≡ Some (numbers n).endpoint → ((i : ℕ) → i < q.count → t ≢ (numbers n).number i) → (after_event fixed w v).acts t ≡ v.acts t
    acts_stay t of beside =
        others_kept fixed base member (are_asking courses) (queues courses) parts hand (all_lines courses) endpoint number w v requesting transfers recorded windows n asking t of
        (λ i few. beside i (subst (λ (c : Course). i < (queue_in c).count) is few))

    goes_on : AreRecorded q (numbers n).number ((after_event fixed w v).opened (numbers n).endpoint) (after_event fixed w v).acts (line_after g.step n q l)
    goes_on =
        subst (λ (c : Course). AreRecorded (queue_in c) (numbers n).number (later.opened (numbers n).endpoint) later.acts (line_after g.step n (queue_in c) (lines_in c))) is
        (subst (λ (m : Lines). AreRecorded (queues courses n) (numbers n).number (later.opened (numbers n).endpoint) later.acts m) (stepped_is (queues courses) (all_lines courses) n g.step)
        (event_kept fixed base member (are_asking courses) (queues courses) parts hand (all_lines courses) endpoint number w v requesting transfers recorded windows windows.event.effect windows.is n asking))

    within : l.under < q.count
    within = subst (λ (c : Course). (lines_in c).under < (queue_in c).count) is (way n asking)

    later_behind : (i : ℕ) → (line_after g.step n q l).under < i → i < (numbers n).requests.count → (after_event fixed w v).acts ((numbers n).number i) ≡ []
    later_behind i after few =
        ⊎_elim {C = later.acts ((numbers n).number i) ≡ []} (λ (less : i < q.count). goes_on.behind i after less)
        (λ (held : q.count ≤ i).
        let own = before.numbered.own in
        acts_stay ((numbers n).number i) (of_transfer d (numbers n).endpoint ((numbers n).number i) (own.transfers i few)) (λ j less same. let up = own.rising j i (omega (arith, less, held)) few in omega (arith, up, same))
        ∙ before.acts.behind i (omega (arith, within, held)) few) (cases_lt i q.count)

    asking_after : IsRecord w.driver asks n (Asks q b (line_after g.step n q l)) (numbers n) (after_event fixed w v)
    asking_after = record {
      numbered = record {
        own = before.numbered.own;
        order = before.numbered.order;
        ahead = before.numbered.ahead;
      };
      acts = record { begun = goes_on.begun; behind = later_behind; is_open = goes_on.is_open };
      closed = all_map (IsClosed d asks a v) (IsClosed d asks a later)
          (λ t k.
          let few = before.numbered.ahead.few in
          record { of = k.of; beside = k.beside; once = subst (IsOnce (asks t).setup) (sym (acts_stay t k.of (λ i less. k.beside i (omega (arith, less, few))))) k.once }) a.closed before.closed;
    }

  -- ---- of an endpoint whose device stays as it is

  module _ (e : ℕ) (none : acted_by fixed w (controller_next fixed w) e ≡ []) where
    quiet_at : (t : ℕ) → endpoint_of w.driver t ≡ Some e → (after_event fixed w v).acts t ≡ v.acts t
    quiet_at t of = quiet_acts d (begun_by w) (acted_by fixed w new) v t (λ k is. ap (acted_by fixed w new) (sym (same_Some e k (sym of ∙ is))) ∙ none)

  module _ (n b : ℕ) (q : Queue) (c : Stages) (is : courses n ≡ Rests q b c) where
    rested : IsRecord w.driver asks n (Rests q b c) (numbers n) v
    rested = subst (λ (x : Course). IsRecord w.driver asks n x (numbers n) v) is (rec.each n (ap has_queue is))

    abbrev side : World → Option Device
    side x = control_of (wired fixed x) q.endpoint.addr q.endpoint.num

    side_before : side w ≡ Some (device_of q.endpoint c)
    side_before = (subst (IsCourse control_of parts hand (wired fixed w) n) is (stand.each n)).rest.device

    side_after : side (controller_next fixed w) ≡ Some (device_of q.endpoint c)
    side_after = (subst (λ (x : Course). IsCourse control_of event.now event.later (wired fixed new) n (course_after g.step n x)) is (g.stand.each n)).rest.device

    none_here : acted_by fixed w (controller_next fixed w) (numbers n).endpoint ≡ []
    none_here =
        let x : IsOfEndpoint w.driver q.endpoint n (numbers n).endpoint = subst (λ (y : Endpoint). IsOfEndpoint w.driver y n (numbers n).endpoint) rested.numbered.ahead.endpoint rested.numbered.own.endpoint in
        ap (λ o. acted_with (side_of fixed w o) (side_of fixed new o)) x.here
        ∙ ap (λ (i : ℕ). acted_with (stages_at (wired fixed w) i x.own.desc.name.num) (stages_at (wired fixed new) i x.own.desc.name.num)) x.address
        ∙ ap (λ (m : ℕ). acted_with (stages_at (wired fixed w) q.endpoint.addr m) (stages_at (wired fixed new) q.endpoint.addr m)) x.number
        ∙ ap (λ (o : Option Stages). acted_with o (stages_at (wired fixed new) q.endpoint.addr q.endpoint.num))
        (stages_as (wired fixed w) q.endpoint.addr q.endpoint.num (device_of q.endpoint c) side_before)
        ∙ ap (acted_with (Some c)) (stages_as (wired fixed new) q.endpoint.addr q.endpoint.num (device_of q.endpoint c) side_after)
        ∙ none_acted c

    resting_after : IsRecord w.driver asks n (Rests q b c) (numbers n) (after_event fixed w v)
    resting_after = record {
      numbered = rested.numbered;
      acts = λ i few. quiet_at (numbers n).endpoint none_here ((numbers n).number i) (of_transfer d (numbers n).endpoint ((numbers n).number i) (rested.numbered.own.transfers i few)) ∙ rested.acts i few;
      closed = all_map (IsClosed d asks (numbers n) v) (IsClosed d asks (numbers n) later)
          (λ t k. record { of = k.of; beside = k.beside; once = subst (IsOnce (asks t).setup) (sym (quiet_at (numbers n).endpoint none_here t k.of)) k.once }) (numbers n).closed rested.closed;
    }

  -- ---- all of them

  record_by : (n : ℕ) (c : Course) → courses n ≡ c → has_queue (course_after g.step n c) ≡ true → IsRecord w.driver asks n (course_after g.step n c) (numbers n) (after_event fixed w v)
  record_by n NoQueue is has = absurd (false≢true has)
  record_by n (Asks q b l) is has = asking_after n b q l is
  record_by n (Rests q b c) is has = resting_after n b q c is

  side_by : (e : ℕ) (o : Option DriverEndpoint) → gone e ≡ true → slice_get w.driver.endpoints e ≡ o → acted_with (side_of fixed w o) (side_of fixed (controller_next fixed w) o) ≡ []
  side_by e None out here = refl
  side_by e (Some x) out here =
      none_acts fixed w (controller_next fixed w) x (alone e x out here)

  left_after : (e : ℕ) → gone e ≡ true → AllByRecursion (IsOnceAt asks (after_event fixed w v)) (numbers_of w.driver e)
  left_after e out =
      let none : acted_by fixed w new e ≡ [] = side_by e (slice_get w.driver.endpoints e) out refl in
      all_both (λ t. endpoint_of d t ≡ Some e) (IsOnceAt asks v) (IsOnceAt asks later) (λ t of once. subst (IsOnce (asks t).setup) (sym (quiet_at e none t of)) once) (numbers_of d e) (numbers_are d e) (rec.left e out)

  none_after : (t : ℕ) → endpoint_of w.driver t ≡ None → (after_event fixed w v).acts t ≡ []
  none_after t none = quiet_acts d (begun_by w) (acted_by fixed w new) v t (λ k is. absurd (let both : None ≡ Some k = sym none ∙ is in cc)) ∙ rec.none t none

  records_after : AreRecords w.driver asks (courses_after g.step courses) numbers gone (after_event fixed w v)
  records_after = record { each = λ n has. record_by n (courses n) refl has; left = left_after; none = none_after }

  -- ---- what is closed

  abbrev Stays : ℕ → Type 0
  Stays t = (after_event fixed w v).acts t ≡ v.acts t

  closed_by : (n : ℕ) (c : Course) → courses n ≡ c → has_queue c ≡ true → AllByRecursion (λ t. (after_event fixed w v).acts t ≡ v.acts t) (numbers n).closed
  closed_by n NoQueue is has = absurd (false≢true has)
  closed_by n (Asks q b l) is has =
      let k : IsRecord w.driver asks n (Asks q b l) (numbers n) v = before n b q l is in
      let few = k.numbered.ahead.few in
      all_map (IsClosed d asks (numbers n) v) Stays (λ t z. acts_stay n b q l is t z.of (λ i less. z.beside i (omega (arith, less, few)))) (numbers n).closed k.closed
  closed_by n (Rests q b c) is has =
      all_map (IsClosed d asks (numbers n) v) Stays (λ t z. quiet_at (numbers n).endpoint (none_here n b q c is) t z.of) (numbers n).closed (rested n b q c is).closed

  gone_stay : (e : ℕ) → gone e ≡ true → AllByRecursion (λ t. (after_event fixed w v).acts t ≡ v.acts t) (numbers_of w.driver e)
  gone_stay e out = all_map (λ t. endpoint_of d t ≡ Some e) Stays (quiet_at e (side_by e (slice_get w.driver.endpoints e) out refl)) (numbers_of d e) (numbers_are d e)

  rest_stay : (n b : ℕ) (q : Queue) (c : Stages) → courses n ≡ Rests q b c → AllByRecursion (λ t. (after_event fixed w v).acts t ≡ v.acts t) (numbers_of w.driver (numbers n).endpoint)
  rest_stay n b q c is =
      all_map (λ t. endpoint_of d t ≡ Some (numbers n).endpoint) Stays (quiet_at (numbers n).endpoint (none_here n b q c is)) (numbers_of d (numbers n).endpoint) (numbers_are d (numbers n).endpoint)

  closed_stay : ClosedStay w.driver courses numbers gone v (after_event fixed w v)
  closed_stay = record { each = λ n has. closed_by n (courses n) refl has; rests = rest_stay; left = gone_stay }

  -- ---- what is counted

  module _ (n b : ℕ) (q : Queue) (l : Lines) (is : courses n ≡ Asks q b l) where
    abbrev own_number : ℕ → ℕ
    own_number = (numbers n).number

    few_asked : q.count ≤ (numbers n).requests.count
    few_asked = (before n b q l is).numbered.ahead.few

    under_few : l.under < (numbers n).requests.count
    under_few = let inside = within n b q l is in let few = few_asked in omega (arith, inside, few)

    -- the window under way, and those before it
    abbrev base_count : Windows → ℕ
    base_count u = counted_all u (first_of own_number l.under) (counted_all u (numbers n).closed 0)

    counted_so : (u : Windows) → ((i : ℕ) → l.under < i → i < (numbers n).requests.count → u.acts ((numbers n).number i) ≡ [])
        → counted_all u (numbers_of w.driver (numbers n).endpoint) 0 ≡ counted (u.acts ((numbers n).number l.under)) (base_count u)
    counted_so u none =
        ap (λ (ts : List ℕ). counted_all u ts 0) (before n b q l is).numbered.order.numbers ∙ counted_more u (numbers n).closed (first_of own_number (numbers n).requests.count) 0
        ∙ counted_first u own_number (numbers n).requests.count l.under (counted_all u (numbers n).closed 0) under_few none

    -- where all its acts are the same
    all_counted : ((i : ℕ) → i < (numbers n).requests.count → (after_event fixed w v).acts ((numbers n).number i) ≡ v.acts ((numbers n).number i))
        → counted_all (after_event fixed w v) (numbers_of w.driver (numbers n).endpoint) 0 ≡ counted_all v (numbers_of w.driver (numbers n).endpoint) 0
    all_counted same =
        ap (λ (ts : List ℕ). counted_all later ts 0) (before n b q l is).numbered.order.numbers
        ∙ counted_same v later ((numbers n).closed ++ first_of own_number (numbers n).requests.count) 0
        (all_joined Stays (numbers n).closed (first_of own_number (numbers n).requests.count) (closed_by n (Asks q b l) is refl)
        (all_first Stays own_number (numbers n).requests.count same))
        ∙ sym (ap (λ (ts : List ℕ). counted_all v ts 0) (before n b q l is).numbered.order.numbers)

    -- where one transaction was made
    base_same : (line : ℕ → Line) → ((i : ℕ) → i < l.under → line i ≡ l.line i) → AreRecorded q (numbers n).number ((after_event fixed w v).opened (numbers n).endpoint) (after_event fixed w v).acts (record { under = l.under; line = line })
        → base_count (after_event fixed w v) ≡ base_count v
    base_same line same now =
        ap (counted_all later (first_of own_number l.under)) (counted_same v later (numbers n).closed 0 (closed_by n (Asks q b l) is refl))
        ∙ counted_same v later (first_of own_number l.under) (counted_all v (numbers n).closed 0)
        (all_first Stays own_number l.under
        (λ i less. now.begun i (omega (arith, less)) ∙ ap (λ (x : Line). x.acts) (same i less) ∙ sym ((before n b q l is).acts.begun i (omega (arith, less)))))

    abbrev device_now : Lines → ℕ
    device_now m = (m.line m.under).device.acted

    module _ (m : Lines) (at : line_after g.step n q l ≡ m) (k : (l.line l.under).device.acted ≡ counted_all v (numbers_of w.driver (numbers n).endpoint) 0) where
      record_m : AreRecorded q (numbers n).number ((after_event fixed w v).opened (numbers n).endpoint) (after_event fixed w v).acts m
      record_m = subst (AreRecorded q own_number (later.opened (numbers n).endpoint) later.acts) at (goes_on n b q l is)

      none_m : (i : ℕ) → m.under < i → i < (numbers n).requests.count → (after_event fixed w v).acts ((numbers n).number i) ≡ []
      none_m = subst (λ (x : Lines). (i : ℕ) → x.under < i → i < (numbers n).requests.count → later.acts (own_number i) ≡ []) at (later_behind n b q l is)

      -- nothing was asked of it
      stays_counted : m ≡ l → device_now m ≡ counted_all (after_event fixed w v) (numbers_of w.driver (numbers n).endpoint) 0
      stays_counted same =
          ap device_now same ∙ k
          ∙ sym (all_counted (λ i few.
          ⊎_elim {C = Stays (own_number i)}
          (λ (after : l.under < i). none_m i (let up = ap (λ (x : Lines). x.under) same in omega (arith, after, up)) few ∙ sym ((before n b q l is).acts.behind i after few))
          (λ (upto : i ≤ l.under).
          record_m.begun i (let up = ap (λ (x : Lines). x.under) same in omega (arith, upto, up)) ∙ ap (λ (x : Lines). (x.line i).acts) same ∙ sym ((before n b q l is).acts.begun i upto)) (cases_lt l.under i)))

      -- the next request is begun
      next_counted : m ≡ progressed q Advance l → device_now m ≡ counted_all (after_event fixed w v) (numbers_of w.driver (numbers n).endpoint) 0
      next_counted same =
          let up = ap (λ (x : Lines). x.under) same in
          ap device_now same ∙ ap (λ (z : Bool). (if z then opened q (suc l.under) (l.line l.under) else l.line (suc l.under)).device.acted) (eq-eqb (suc l.under) (suc l.under) refl) ∙ k
          ∙ sym (all_counted (λ i few.
          ⊎_elim {C = Stays (own_number i)}
          (λ (after : suc l.under < i). none_m i (omega (arith, after, up)) few ∙ sym ((before n b q l is).acts.behind i (omega (arith, after)) few))
          (λ (upto : i ≤ suc l.under).
          ⊎_elim {C = Stays (own_number i)}
          (λ (next : i ≡ suc l.under).
          record_m.begun i (omega (arith, upto, up)) ∙ ap (λ (x : Lines). (x.line i).acts) same
          ∙ ap (λ (z : Bool). (if z then opened q i (l.line l.under) else l.line i).acts) (eq-eqb i (suc l.under) next) ∙ sym ((before n b q l is).acts.behind i (omega (arith, next)) few))
          (λ (differs : i ≢ suc l.under).
          record_m.begun i (omega (arith, upto, up)) ∙ ap (λ (x : Lines). (x.line i).acts) same
          ∙ ap (λ (z : Bool). (if z then opened q i (l.line l.under) else l.line i).acts) (other_number i (suc l.under) differs) ∙ sym ((before n b q l is).acts.begun i (omega (arith, upto, differs)))) (cases_eq i (suc l.under)))
          (cases_lt (suc l.under) i)))

      -- one transaction was made
      made_counted : (losses : Losses) → m ≡ progressed q (Transaction losses) l → device_now m ≡ counted_all (after_event fixed w v) (numbers_of w.driver (numbers n).endpoint) 0
      made_counted losses same =
          let u : ℕ = l.under in
          let made : Line = transacted q.endpoint (q.requests u) losses (l.line u) in
          let whole : Lines = progressed q (Transaction losses) l in
          let now : AreRecorded q own_number (later.opened (numbers n).endpoint) later.acts whole = subst (AreRecorded q own_number (later.opened (numbers n).endpoint) later.acts) same record_m in
          let none : (i : ℕ) → u < i → i < (numbers n).requests.count → later.acts (own_number i) ≡ [] = subst (λ (x : Lines). (i : ℕ) → x.under < i → i < (numbers n).requests.count → later.acts (own_number i) ≡ []) same none_m in
          let line_is : whole.line u ≡ made = ap (λ (z : Bool). if z then made else l.line u) (eq-eqb u u refl) in
          let h : (l.line u).device.acted ≡ counted (l.line u).acts (base_count v) =
          k ∙ counted_so v (before n b q l is).acts.behind ∙ ap (λ (xs : List (List ℕ)). counted xs (base_count v)) ((before n b q l is).acts.begun u (omega arith)) in
          ap device_now same ∙ ap (λ (x : Line). x.device.acted) line_is ∙ transacted_counts q.endpoint (q.requests u) losses (l.line u) (base_count v) h
          ∙ sym (counted_so later none
          ∙ ap (λ (xs : List (List ℕ)). counted xs (base_count later)) (now.begun u (omega arith) ∙ ap (λ (x : Line). x.acts) line_is)
          ∙ ap (counted made.acts)
          (base_same whole.line (λ i less. ap (λ (z : Bool). if z then transacted q.endpoint (q.requests i) losses (l.line i) else l.line i) (other_number i u (λ at. omega (arith, at, less)))) now))

    counted_by : (k : (l.line l.under).device.acted ≡ counted_all v (numbers_of w.driver (numbers n).endpoint) 0) (step : Option Step) → g.step ≡ step
        → device_now (line_after g.step n q l) ≡ counted_all (after_event fixed w v) (numbers_of w.driver (numbers n).endpoint) 0
    counted_by k None at = stays_counted (line_after g.step n q l) refl k (ap (λ (o : Option Step). line_after o n q l) at)
    counted_by k (Some s) at = by (n == s.at) s.is (ap (λ (o : Option Step). line_after o n q l) at) refl
      where
        by : (z : Bool) (p : Progress) → line_after g.step n q l ≡ (if n == s.at then progressed q s.is l else l) → (if n == s.at then progressed q s.is l else l) ≡ (if z then progressed q p l else l)
            → device_now (line_after g.step n q l) ≡ counted_all (after_event fixed w v) (numbers_of w.driver (numbers n).endpoint) 0
        by false p one two = stays_counted (line_after g.step n q l) refl k (one ∙ two)
        by true (Transaction losses) one two = made_counted (line_after g.step n q l) refl k losses (one ∙ two)
        by true Advance one two = next_counted (line_after g.step n q l) refl k (one ∙ two)

    asking_counts : Counts (side_at fixed w (Asks q b l)) (counted_all v (numbers_of w.driver (numbers n).endpoint) 0)
        → Counts (side_at fixed (controller_next fixed w) (Asks q b l)) (counted_all (after_event fixed w v) (numbers_of w.driver (numbers n).endpoint) 0)
    asking_counts k c side =
        let old : side_at fixed w (Asks q b l) ≡ Some (device_of q.endpoint (l.line l.under).device) = (subst (IsCourse control_of parts hand (wired fixed w) n) is (stand.each n)).queue.window.device in
        let m : Lines = line_after g.step n q l in
        let now : side_at fixed new (Asks q b l) ≡ Some (device_of q.endpoint (m.line m.under).device) =
        (subst (λ (x : Course). IsCourse control_of event.now event.later (wired fixed new) n (course_after g.step n x)) is (g.stand.each n)).queue.window.device in
        let same : device_of q.endpoint (m.line m.under).device ≡ c = same_Some (device_of q.endpoint (m.line m.under).device) c (sym now ∙ side) in
        ap (λ (x : Device). x.stages.acted) (sym same) ∙ counted_by (k (device_of q.endpoint (l.line l.under).device) old) g.step refl

  resting_counts : (n b : ℕ) (q : Queue) (c : Stages) (is : courses n ≡ Rests q b c) → Counts (side_at fixed w (Rests q b c)) (counted_all v (numbers_of w.driver (numbers n).endpoint) 0)
      → Counts (side_at fixed (controller_next fixed w) (Rests q b c)) (counted_all (after_event fixed w v) (numbers_of w.driver (numbers n).endpoint) 0)
  resting_counts n b q c is k z side =
      let same : device_of q.endpoint c ≡ z = same_Some (device_of q.endpoint c) z (sym (side_after n b q c is) ∙ side) in
      k z (side_before n b q c is ∙ ap (λ (x : Device). Some x) same)
      ∙ sym (counted_same v later (numbers_of d (numbers n).endpoint) 0
      (rest_stay n b q c is))

  counts_by : (n : ℕ) (c : Course) → courses n ≡ c → has_queue c ≡ true → Counts (side_at fixed w c) (counted_all v (numbers_of w.driver (numbers n).endpoint) 0)
      → Counts (side_at fixed (controller_next fixed w) c) (counted_all (after_event fixed w v) (numbers_of w.driver (numbers n).endpoint) 0)
  counts_by n NoQueue is has k = absurd (false≢true has)
  counts_by n (Asks q b l) is has k = asking_counts n b q l is k
  counts_by n (Rests q b c) is has k = resting_counts n b q c is k

pub event_keeps_records : EventKeepsRecords
event_keeps_records fixed base member courses numbers gone parts hand asks w v event g walked stand owned alone rec =
    records_after fixed base member courses numbers gone parts hand asks w v event g walked stand owned alone rec

pub event_keeps_closed : EventKeepsClosed
event_keeps_closed fixed base member courses numbers gone parts hand asks w v event g walked stand owned alone rec =
    closed_stay fixed base member courses numbers gone parts hand asks w v event g walked stand owned alone rec

pub event_keeps_counts : EventKeepsCounts
event_keeps_counts fixed base member courses numbers gone parts hand asks w v event g walked stand owned alone rec n has k =
    counts_by fixed base member courses numbers gone parts hand asks w v event g walked stand owned alone rec n (courses n) refl has k
