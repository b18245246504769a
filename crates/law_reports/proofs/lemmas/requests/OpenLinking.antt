-- The store of the head's link by which an open is finished: the walk may meet the new queue head. Where it is a control endpoint's its queue is at rest, no request
-- of it is recorded, no line tells of it, and its device is as the script has it.
use Rattle.std.proofs.Common.{◌≡◌, ◌≢◌, ◌⊎◌, ℕ, suc, ◌*◌, ◌≤◌, ◌==◌, ◌&&◌, not, Bool, true, false, if◌then◌else◌, List, [], length, slice_get, Option, Some, None, ap, refl, sym, subst, ◌∙◌, ⊎_elim, inl, inr}
use Rattle.std.proofs.lemmas.Bool.{cases_eq, eq-eqb, false≢true}
use Rattle.std.proofs.lemmas.Option.{same_Some}
use Rattle.law_world.proofs.Common.{hand_tells}
use Rattle.law_common.proofs.Booleans.{and_none, refused_by}
use Rattle.law_world.proofs.Common.{control_kind}
use Rattle.law_common.proofs.Numbers.{other_number, same_blocks}
use Rattle.usb_base.specs.declared.endpoints.EpName.{EpName}
use Rattle.usb_base.specs.declared.reports.Report.{Report}
use Rattle.bus_wire.specs.Bus.{Fixed, Wired}
use Rattle.qh_qtd.specs.declared.queue_head.Qh.{Qh}
use Rattle.drv_table.specs.declared.content.Command.{Command}
use Rattle.drv_table.specs.declared.content.Endpoint.{Endpoint}
use Rattle.drv_table.specs.declared.content.Transfer.{Transfer}
use Rattle.drv_table.specs.DriverContent.{DriverContent}
use Rattle.drv_table.specs.Harvests.{note_at}
use Rattle.drv_table.specs.Words.{queue_head, dummy_qtd}
use Rattle.law_driver.specs.endpoint_lives.Lives.{told_end}
use Rattle.law_driver.proofs.lemmas.chained_transfers.Staying.{linked_stands_alive}
use Rattle.law_driver_ring.specs.fed_queues.Places.{IsMet}
use Rattle.law_structures.specs.lent_structures.Structures.{StructureSets}
use Rattle.report_text.specs.ReportText.{AreStored}
use Rattle.law_queues.specs.told_endpoints.Telling.{lines_in}
use Rattle.law_reports.specs.requests.told_requests.Told.{left_after, has_cancel}
use Rattle.law_reports.specs.requests.Telling.{IsTelling}
use Rattle.law_devices.specs.ring_requests.Runs.{first_of}
use Rattle.claims_report.specs.Requests.{Request, AreTold}
use Rattle.law_devices.specs.request_calls.Bus.{device_of}
use Rattle.law_ring.specs.Hand.{Hand}
use Rattle.law_ring.specs.Told.{HasEndpoint, Endpoint as Characteristics}
use Rattle.law_devices.specs.ring_requests.Windows.{Queue, IsElsewhere}
use Rattle.law_devices.specs.ring_requests.Resting.{IsAtRest}
use Rattle.law_devices.specs.Controls.{control_of}
use Rattle.law_driver_ring.proofs.lemmas.told_harvests.Keeping.{spared_is_done}
use Rattle.law_driver_ring.specs.Linked.{with_member}
use Rattle.law_queues.proofs.lemmas.open_laws.Standing.{member_here, member_old}
use Rattle.bus_world.specs.World.{World}
use Rattle.law_world.specs.steps.Streaming.{Streams, Standing}
use Rattle.claims_world.specs.Requests.{wired, Windows, numbers_of, opens, is_opening}
use Rattle.law_reports.specs.requests.Courses.{Course, Rests, has_queue, queue_in, nobody, queues, have_queues, with_course, CoursesStand}
use Rattle.law_reports.specs.requests.QueueChanges.{IsNewCourse}
use Rattle.law_reports.proofs.lemmas.requests.Beginning.{course_begins}
use Rattle.law_reports.proofs.lemmas.requests.QueueChanging.{members_change, with_here as course_here, with_beside as course_beside}
use Rattle.law_reports.specs.requests.Records.{Numbers, IsRecord, AreRecords}
use Rattle.law_reports.specs.requests.TransferChanges.{with_numbers}
use Rattle.law_reports.specs.requests.Counts.{counted_all}
use Rattle.law_reports.proofs.lemmas.requests.TransferChanging.{course_is_recorded, new_is_recorded}
use Rattle.law_reports.proofs.lemmas.requests.Rows.{accepted_keeps_records}
use Rattle.law_reports.specs.requests.Asking.{Sides, IsGiven, Asking, has_left, HasCourse, IsReadTo, HasTelling, IsUnheard, IsControlOf, IsMetControl, IsAskingWorld, HasAsks, IsCountedOn, AsksIn}
use Rattle.law_reports.proofs.lemmas.requests.Inside.{same_requests}
use Rattle.law_reports.proofs.lemmas.requests.Names.{not_met}
use Rattle.law_reports.proofs.lemmas.requests.Beside.{HasOwner, one_queue, owner_of}
use Rattle.law_reports.proofs.lemmas.requests.Leaving.{IsQuiet, open_quiet}
use Rattle.law_reports.proofs.lemmas.requests.Missed.{linked_unmissed}
use Rattle.law_reports.specs.requests.Missed.{NoneMissed, MissesNone}
use Rattle.law_world.specs.memory.Steps.{HandStays, same_hand, linked_hand}
use Rattle.law_reports.proofs.lemmas.lines.Same.{relinked_head, relinked_element}
use Rattle.law_world.specs.memory.SameQueues.{IsRelinked, IsSameQueue}
use Rattle.law_reports.proofs.lemmas.requests.Relinking.{relinked_end, stays_side, relinked_courses, was_end}
use Rattle.law_reports.specs.requests.Footing.{IsFooting}
use Rattle.word_mem.specs.Memory.{Mem}
use Rattle.law_structures.proofs.lemmas.lent_structures.Altering.{found_queue}
use Rattle.law_devices.proofs.lemmas.ring_requests.RestingSpared.{endpoint_same}
use Rattle.qh_qtd.specs.declared.qtd.Qtd.{Qtd}
use Rattle.law_reports.proofs.lemmas.requests.NewHeads.{no_numbers, no_waiting, no_next, no_queue, no_side, begun_misses, not_with, IsHeadOf, IsNewHead, IsNewNow}
use Rattle.drv_table.specs.declared.content.Command.TheVariants as unfinished

module _ (g : Sides) (fixed : Fixed) (member : ℕ → Bool) (x : Streams) (s : Standing) (a : Asking) (v : Windows) (asks : ℕ → Request)
    (w : World) (k : IsFooting member x s w) (z : IsAskingWorld g fixed member s a v asks w)
    (place : ℕ) (e : Endpoint) (here : slice_get w.driver.endpoints place ≡ Some e) (command : w.driver.command ≡ Some (unfinished.Open e.queue)) (fresh : e.linked ≡ true)
    (none : (t : ℕ) (y : Transfer) → slice_get w.driver.transfers t ≡ Some y → y.endpoint ≢ place) (unmet : member (32 * e.queue) ≡ false) (named : IsHeadOf s.parts e) (new_head : g.asks e.desc ≡ true → IsNewHead s.parts e)
    (now : StructureSets) (held : Hand) (same : (j : ℕ) → IsSameQueue j (s.parts j) (now j)) (stays : HandStays s.hand held) (more : Mem) where
  abbrev n : ℕ
  n = 32 * e.queue

  abbrev d : DriverContent
  d = w.driver

  abbrev new : DriverContent
  new = record w.driver { command = None; made = 0 }

  abbrev wire : Wired
  wire = wired fixed w

  abbrev wider : ℕ → Bool
  wider = with_member member (32 * e.queue)

  alive : e.gone ≡ false
  alive = linked_stands_alive e (k.turns.asynchronous.endpoints place e here) fresh

  opening : is_opening w.driver e ≡ true
  opening = ap (λ (c : Option Command). opens c e.queue && not e.gone) command ∙ ap (λ (b : Bool). b && not e.gone) (eq-eqb e.queue e.queue refl) ∙ ap not alive

  quiet : IsQuiet w.driver
  quiet = open_quiet w.driver e.queue command

  -- ---- the other endpoints

  same_one : (i : ℕ) (y : Endpoint) → slice_get w.driver.endpoints i ≡ Some y → i ≡ place → y ≡ e
  same_one i y there same = same_Some y e (sym there ∙ ap (slice_get w.driver.endpoints) same ∙ here)

  met_differs : (i : ℕ) (y : Endpoint) → slice_get w.driver.endpoints i ≡ Some y → IsMet w.driver i y → i ≢ place
  met_differs i y there met same = met.there.linked (command ∙ ap (λ (t : Endpoint). Some (unfinished.Open t.queue)) (sym (same_one i y there same)))

  queue_differs : (i : ℕ) (y : Endpoint) → slice_get w.driver.endpoints i ≡ Some y → y.gone ≡ false → i ≢ place → e.queue ≢ y.queue
  queue_differs i y there kept other same = other (sym (one_queue g fixed member x s a v asks w k z place i e y here there alive kept same))

  met_was : (i : ℕ) (y : Endpoint) → IsMetControl g new i y → i ≢ place → IsMetControl g w.driver i y
  met_was i y m other = record {
    is = record { here = m.is.here; control = m.is.control };
    met = record {
      there = record {
        linked = λ is. queue_differs i y m.is.here m.met.there.kept other (opened_queue e.queue y.queue (sym command ∙ is));
        kept = m.met.there.kept;
      };
      near = m.met.near;
    };
  }
    where
      opened_queue : (b c : ℕ) → ◌≡◌ {A = Option Command} (Some (unfinished.Open b)) (Some (unfinished.Open c)) → b ≡ c
      opened_queue b c is = cc

  not_opening : (i : ℕ) (y : Endpoint) → slice_get w.driver.endpoints i ≡ Some y → i ≢ place → is_opening w.driver y ≡ false
  not_opening i y there other = by y.gone refl
    where
      by : (b : Bool) → y.gone ≡ b → is_opening w.driver y ≡ false
      by true gone = refused_by (opens w.driver.command y.queue) y.gone gone
      by false kept =
          and_none (opens w.driver.command y.queue) (not y.gone) (ap (λ (c : Option Command). opens c y.queue) command ∙ other_number e.queue y.queue (queue_differs i y there kept other))

  -- ---- the queues

  stand_linked : CoursesStand control_of member a.courses now held wire
  stand_linked = relinked_courses s.parts now s.hand held stays same control_of member a.courses wire z.stand

  elsewhere : IsElsewhere (have_queues a.courses) (queues a.courses) now n
  elsewhere = record {
    own = named.own;
    has = relinked_end s.parts now n named.own (same n) named.has;
    other = λ j on address number.
        let o : HasOwner g w a j = owner_of g fixed member x s a v asks w k z j on in
        let given : IsGiven g o.endpoint.desc = z.given o.number o.endpoint o.control.is in
        let alike : (queues a.courses j).endpoint ≡ g.endpoint o.endpoint.desc =
        ap (λ (i : ℕ). (queues a.courses i).endpoint) o.at ∙ (z.each o.number o.endpoint o.control).endpoint in
        met_differs o.number o.endpoint o.control.is.here o.control.met
        (k.apart o.number place o.endpoint e o.control.is.here (g.controls o.endpoint.desc o.control.is.control) here
        (sym named.address ∙ sym address ∙ ap (λ (t : _). t.addr) alike ∙ given.address) (sym named.ep ∙ sym number ∙ ap (λ (t : _). t.num) alike ∙ given.number));
  }

  stand_wider : CoursesStand control_of wider a.courses now held wire
  stand_wider =
      members_change control_of member wider a.courses now held wire (λ i has. member_old member n i (z.stand.members i has))
      (λ i on.
      ⊎_elim {C = (member i ≡ true) ⊎ IsElsewhere (have_queues a.courses) (queues a.courses) now i}
      (λ (same : i ≡ n). inr (subst (IsElsewhere (have_queues a.courses) (queues a.courses) now) (sym same) elsewhere))
      (λ (other : i ≢ n). inl (not_with (i == n) (member i) (other_number i n other) on)) (cases_eq i n)) stand_linked

  recorded : AreRecords new asks a.courses a.numbers (has_left g new) v
  recorded = accepted_keeps_records w.driver new asks a.courses a.numbers (has_left g w.driver) v (same_requests w.driver w.driver.book 0 None) refl z.records

  none_numbered : numbers_of w.driver place ≡ []
  none_numbered = no_numbers place 0 w.driver.transfers none

  -- ---- what it reads

  none_next : told_end e ≡ None → e.next ≡ None
  none_next going = no_next w.driver.transfers place e.next none (k.turns.turns.turns.next place e here going)

  read_still : (y : Endpoint) (u : Transfer) (r : Request) → IsReadTo s.hand s.parts (32 * y.queue) (note_at w.driver.notes) u r
      → IsReadTo held now (32 * y.queue) (note_at w.driver.notes) u r
  read_still y u r b = record {
    setup = b.setup;
    data_at = λ has one.
        let f = b.data_at has one in
        record {
          bytes = f.bytes;
          done = spared_is_done s.hand held s.parts now (32 * y.queue) _ _ f.bytes (hand_tells s.hand held stays) (relinked_head s.parts now (32 * y.queue) (same (32 * y.queue))) (relinked_element s.parts now (32 * y.queue) (same (32 * y.queue)) _) f.done;
        };
    rest = b.rest;
  }

  -- ---- what the lines tell of it, and its device

  unheard : g.asks e.desc ≡ true → IsUnheard w.driver e.desc.name
  unheard on i y there named =
      subst (λ (t : Endpoint). is_opening w.driver t ≡ true)
      (sym (same_one i y there (sym (k.apart place i e y here (g.controls e.desc on) there (ap (λ (t : EpName). t.addr) named) (ap (λ (t : EpName). t.num) named))))) opening

  none_told : g.asks e.desc ≡ true → lines_in e.desc.name w.driver.reports ≡ []
  none_told on = z.untold e.desc.name (unheard on)

  telling_new : g.asks e.desc ≡ true → (h : Numbers) → h.closed ≡ [] → h.requests.count ≡ 0 → HasTelling new asks place e g.whole v h
  telling_new on h closed empty = record {
    reported = [];
    untold = [];
    closed = closed;
    going = λ going. refl;
    uncancelled = ap has_cancel (none_told on);
    telling = subst (λ (c : ℕ). IsTelling new asks place e.desc.name (g.whole e.desc.name) v [] (first_of h.number c)) (sym empty) (record {
      numbers = none_numbered;
      told = record {
        told = subst (λ (ls : List Report). AreTold (g.whole e.desc.name) w.driver.store [] ls) (sym (none_told on)) tt;
        rest = ap (λ (ls : List Report). left_after ls []) (none_told on);
        stored = subst (λ (ls : List Report). AreStored ls (length w.driver.store)) (sym (none_told on)) tt;
      };
      wait = sym (no_waiting place w.driver.transfers none);
    });
  }

  pub given_new : g.asks e.desc ≡ true → IsGiven g e.desc
  given_new on = z.given place e (record { here = here; control = on })

  device_new : (on : g.asks e.desc ≡ true)
      → control_of wire e.desc.name.addr e.desc.name.num ≡ Some (device_of (g.endpoint e.desc) (given_new on).stages)
  device_new on =
      z.unopened e.desc.name.addr e.desc.name.num _ (given_new on).addressed
      (λ i y there address number.
      subst (λ (t : Endpoint). is_opening w.driver t ≡ true) (sym (same_one i y there (sym (k.apart place i e y here (g.controls e.desc on) there address number)))) opening)
      (given_new on).first

  -- ---- the world, of queues among which the new one may be

  own_control : (i : ℕ) (y : Endpoint) → IsControlOf g new i y → i ≡ place → g.asks e.desc ≡ true
  own_control i y m same = ap (λ (t : Endpoint). g.asks t.desc) (sym (same_one i y m.here same)) ∙ m.control

  module _ (asking : Asking) (stand : CoursesStand control_of wider asking.courses now held wire)
      (records : AreRecords new asks asking.courses asking.numbers (has_left g new) v)
      (courses_same : (i : ℕ) → i ≢ n → asking.courses i ≡ a.courses i) (numbers_same : (i : ℕ) → i ≢ n → asking.numbers i ≡ a.numbers i)
      (own : g.asks e.desc ≡ true → HasCourse g new place e (asking.courses n) (asking.numbers n))
      (empty : g.asks e.desc ≡ true → ((asking.numbers n).closed ≡ []) × ((asking.numbers n).requests.count ≡ 0))
      (are_asked : (j : ℕ) (y : Endpoint) → have_queues asking.courses j ≡ true → slice_get w.driver.endpoints (asking.numbers j).endpoint ≡ Some y → g.asks y.desc ≡ true)
      (unmissed : NoneMissed (have_queues asking.courses) now × MissesNone (have_queues asking.courses) held) where
    beside : (i : ℕ) (y : Endpoint) → slice_get w.driver.endpoints i ≡ Some y → y.gone ≡ false → i ≢ place → 32 * y.queue ≢ n
    beside i y there kept other same = queue_differs i y there kept other (sym (same_blocks y.queue e.queue same))

    -- of the new one, and of another one
    by_one : (P : ℕ → Endpoint → Type 0) → (i : ℕ) (y : Endpoint) → slice_get w.driver.endpoints i ≡ Some y → (i ≡ place → P place e)
        → (i ≢ place → P i y) → P i y
    by_one P i y there mine others =
        ⊎_elim {C = P i y} (λ (same : i ≡ place). subst (P i) (sym (same_one i y there same)) (subst (λ (j : ℕ). P j e) (sym same) (mine same))) (λ (other : i ≢ place). others other) (cases_eq i place)

    course_still : (i : ℕ) (y : Endpoint) (c : Course) (h : Numbers) → HasCourse g w.driver i y c h → HasCourse g new i y c h
    course_still i y c h f = record {
      queue = f.queue;
      endpoint = f.endpoint;
      number = f.number;
      tail = f.tail ∙ quiet.tail i y;
      count = f.count ∙ ap (λ (b : Bool). if b then suc (queue_in c).count else (queue_in c).count) (quiet.none i);
      newest = λ next. absurd (false≢true next);
      next = f.next;
      ended = f.ended;
      owed = f.owed;
    }

    each_now : (i : ℕ) (y : Endpoint) → IsMetControl g new i y
        → HasCourse g new i y (asking.courses (32 * y.queue)) (asking.numbers (32 * y.queue))
    each_now i y m =
        by_one (λ (j : ℕ) (t : Endpoint). HasCourse g new j t (asking.courses (32 * t.queue)) (asking.numbers (32 * t.queue))) i y m.is.here (λ same. own (own_control i y m.is same))
        (λ other.
        let b : 32 * y.queue ≢ n = beside i y m.is.here m.met.there.kept other in
        subst (λ (h : Numbers). HasCourse g new i y (asking.courses (32 * y.queue)) h) (sym (numbers_same (32 * y.queue) b))
        (subst (λ (c : Course). HasCourse g new i y c (a.numbers (32 * y.queue))) (sym (courses_same (32 * y.queue) b))
        (course_still i y (a.courses (32 * y.queue)) (a.numbers (32 * y.queue)) (z.each i y (met_was i y m other)))))

    read_now : (i t : ℕ) (y : Endpoint) (u : Transfer) → IsMetControl g new i y → told_end y ≡ None → y.next ≡ Some t
        → slice_get w.driver.transfers t ≡ Some u
        → IsReadTo held now (32 * y.queue) (note_at w.driver.notes) u ((asking.numbers (32 * y.queue)).requests.requests 0)
    read_now i t y u m going next there =
        by_one (λ (j : ℕ) (f : Endpoint). told_end f ≡ None → f.next ≡ Some t → IsReadTo held now (32 * f.queue) (note_at w.driver.notes) u ((asking.numbers (32 * f.queue)).requests.requests 0)) i y m.is.here
        (λ same on is. let never : ◌≡◌ {A = Option ℕ} None (Some t) = sym (none_next on) ∙ is in absurd (cc))
        (λ other on is.
        subst (λ (h : Numbers). IsReadTo held now (32 * y.queue) (note_at w.driver.notes) u (h.requests.requests 0)) (sym (numbers_same (32 * y.queue) (beside i y m.is.here m.met.there.kept other)))
        (read_still y u _ (z.read i t y u (met_was i y m other) on is there))) going next

    telling_now : (i : ℕ) (y : Endpoint) → IsMetControl g new i y
        → HasTelling new asks i y g.whole v (asking.numbers (32 * y.queue))
    telling_now i y m =
        by_one (λ (j : ℕ) (t : Endpoint). HasTelling new asks j t g.whole v (asking.numbers (32 * t.queue))) i y m.is.here
        (λ same. let on = own_control i y m.is same in telling_new on (asking.numbers n) (empty on).0 (empty on).1)
        (λ other.
        let f : HasTelling w.driver asks i y g.whole v (a.numbers (32 * y.queue)) = z.telling i y (met_was i y m other) in
        subst (HasTelling new asks i y g.whole v) (sym (numbers_same (32 * y.queue) (beside i y m.is.here m.met.there.kept other)))
        (record { reported = f.reported; untold = f.untold; closed = f.closed; going = f.going; uncancelled = f.uncancelled; telling = record { numbers = f.telling.numbers; told = f.telling.told; wait = f.telling.wait } }))

    counts_now : (i : ℕ) (y : Endpoint) → IsControlOf g new i y → IsCountedOn wire new v i y
    counts_now i y m =
        by_one (IsCountedOn wire new v) i y m.here
        (λ same.
        let on = own_control i y m same in
        record {
          device = device_of (g.endpoint e.desc) (given_new on).stages;
          is = device_new on;
          acted = (given_new on).none ∙ sym (ap (λ (ts : List ℕ). counted_all v ts 0) none_numbered);
        })
        (λ other.
        let f = z.counts i y (record { here = m.here; control = m.control }) (not_opening i y m.here other) in
        record { device = f.device; is = f.is; acted = f.acted })

    pub more_asks : AsksIn g wider now held asking v asks new more wire
    more_asks = record {
      stand = stand;
      records = records;
      each = each_now;
      asked = are_asked;
      publishing = λ i y m next. absurd (false≢true next);
      read = read_now;
      telling = telling_now;
      given = λ i y m. z.given i y (record { here = m.here; control = m.control });
      counts = λ i y m off. counts_now i y m;
      unopened = λ addr num c least none first. z.unopened addr num c least (λ i y there one two. absurd (false≢true (none i y there one two))) first;
      untold = λ name none. z.untold name (λ i y there same. absurd (false≢true (none i y there same)));
      unmissed = record { structures = unmissed.0; in_hand = unmissed.1; first = tt };
    }

  -- ---- a bulk endpoint

  unmissed_then : NoneMissed (have_queues a.courses) now
  unmissed_then = record {
    heads = λ j h on there. let r : IsRelinked (s.parts j) j h = (same j).head_was h there in z.unmissed.structures.heads j (record h { link = r.link }) on r.here;
    elements = λ j b t on there. z.unmissed.structures.elements j b t on ((same j).elements_were b t there);
  }

  held_unmissed : (later : Hand) → HandStays s.hand later → MissesNone (have_queues a.courses) later
  held_unmissed _ same_hand = z.unmissed.in_hand
  held_unmissed _ (linked_hand j l) = linked_unmissed (have_queues a.courses) j l s.hand z.unmissed.in_hand

  other_asks : g.asks e.desc ≡ false → AsksIn g wider now held a v asks new more wire
  other_asks off =
      more_asks a stand_wider recorded (λ i other. refl) (λ i other. refl) (λ on. absurd (false≢true (sym off ∙ on))) (λ on. absurd (false≢true (sym off ∙ on))) z.asked (unmissed_then, held_unmissed held stays)

  -- ---- a control endpoint

  module _ (on : g.asks e.desc ≡ true) where
    abbrev given : IsGiven g e.desc
    given = given_new on

    abbrev b : ℕ
    b = 32 * e.dummy

    abbrev queue : Queue
    queue = record nobody { endpoint = g.endpoint e.desc }

    abbrev course : Course
    course = Rests queue b given.stages

    abbrev numbering : Numbers
    numbering = record { endpoint = place; closed = []; requests = queue; number = λ i. i }

    abbrev begun : Asking
    begun = record { courses = with_course a.courses n (Rests (record nobody { endpoint = g.endpoint e.desc }) (32 * e.dummy) (given_new on).stages); numbers = with_numbers a.numbers n numbering }

    -- as it stands then
    own_head : IsNewNow now e
    own_head =
        let f : IsNewHead s.parts e = new_head on in
        let c : Qh = queue_head (record e.desc { speed = f.speed }) f.link e.dummy in
        let r : IsRelinked (now n) n c = (same n).head c f.here in
        record { speed = f.speed; queue = record c { link = r.link }; here = r.here; end = refl; idle = refl; unset = refl; leads = refl }

    abbrev q : Qh
    q = queue_head (record e.desc { speed = own_head.speed }) 0 e.dummy

    rest : IsAtRest (g.endpoint e.desc) given.stages b held now n (control_of wire (g.endpoint e.desc).addr (g.endpoint e.desc).num)
    rest = record {
      queue = own_head.queue;
      head = own_head.here;
      control = endpoint_same (g.endpoint e.desc) q own_head.queue own_head.end (record {
        toggles = g.controls e.desc on;
        address = sym given.address;
        number = sym given.number;
        packets = sym given.max;
      });
      idle = own_head.idle;
      unsettled = stays_side s.hand held n stays own_head.queue ∙ no_side member s.parts _ n own_head.queue s.hand unmet k.in_hand;
      leads = λ off. own_head.leads;
      tail = record { qtd = dummy_qtd; here = (same n).elements (32 * e.dummy) dummy_qtd (new_head on).tail; idle = refl };
      max = given.same ∙ sym given.max;
      device = ap (λ (i : ℕ). control_of wire i (g.endpoint e.desc).num) given.address ∙ ap (control_of wire e.desc.name.addr) given.number ∙ device_new on;
    }

    -- no other queue head is one of its endpoint
    other_head : (i : ℕ) (its : Characteristics) → i ≢ n → wider i ≡ true → HasEndpoint now i its → (g.endpoint e.desc).addr ≡ its.addr
        → (g.endpoint e.desc).num ≡ its.ep → ⊥
    other_head i its other met has address num =
        let was : member i ≡ true = not_with (i == n) (member i) (other_number i n other) met in
        not_met member x s w k e.desc.name.addr e.desc.name.num given.addressed
        (λ j y there near one two. met_differs j y there near (sym (k.apart place j e y here (g.controls e.desc on) there one two))) i its was (was_end s.parts now i its (same i) has)
        (sym given.address ∙ address) (sym given.number ∙ num)

    is_new : IsNewCourse control_of wider a.courses now held wire n b queue given.stages
    is_new = record {
      met = member_here member n;
      new = no_queue (a.courses n) (unheld (have_queues a.courses n) refl);
      none = refl;
      whole = subst (λ (i : ℕ). 8 ≤ i) (sym given.max) given.least;
      rest = rest;
      other = other_head;
    }
      where
        unheld : (has : Bool) → have_queues a.courses n ≡ has → has_queue (a.courses n) ≡ false
        unheld false off = off
        unheld true has = absurd (false≢true (sym unmet ∙ z.stand.members n has))

    record_new : IsRecord new asks n course numbering v
    record_new =
        new_is_recorded new asks n b place queue given.stages v (record {
          none = refl;
          endpoint = record {
            own = e;
            here = here;
            control = control_kind e.desc.kind (g.controls e.desc on);
            queue = refl;
            held = alive;
            address = sym given.address;
            number = sym given.number;
          };
          numbers = none_numbered;
        })

    course_is : begun.courses n ≡ course
    course_is = course_here a.courses n course n refl

    number_is : begun.numbers n ≡ numbering
    number_is = ap (λ (t : Bool). if t then numbering else a.numbers n) (eq-eqb n n refl)

    course_new : HasCourse g new place e course numbering
    course_new = record {
      queue = refl;
      endpoint = refl;
      number = refl;
      tail = refl;
      count = refl;
      newest = λ next. absurd (false≢true next);
      next = none_next;
      ended = λ cause is. (refl, refl);
      owed = λ i m there same. refl;
    }

    begun_has : (j : ℕ) → have_queues begun.courses j ≡ true → j ≢ n → have_queues a.courses j ≡ true
    begun_has j has other = ap has_queue (sym (course_beside a.courses n course j other)) ∙ has

    are_asked : (j : ℕ) (y : Endpoint) → have_queues begun.courses j ≡ true
        → slice_get w.driver.endpoints (begun.numbers j).endpoint ≡ Some y → g.asks y.desc ≡ true
    are_asked j y has there =
        ⊎_elim {C = g.asks y.desc ≡ true}
        (λ (at : j ≡ n).
        let its : slice_get w.driver.endpoints place ≡ Some y = ap (λ (h : Numbers). slice_get w.driver.endpoints h.endpoint) (sym (ap begun.numbers at ∙ number_is)) ∙ there in
        ap (λ (t : Endpoint). g.asks t.desc) (same_Some y e (sym its ∙ here)) ∙ on)
        (λ (other : j ≢ n).
        z.asked j y (begun_has j has other) (ap (λ (t : Bool). slice_get w.driver.endpoints (if t then numbering else a.numbers j).endpoint) (sym (other_number j n other)) ∙ there)) (cases_eq j n)

    new_unmissed : NoneMissed (have_queues begun.courses) now
    new_unmissed = record {
      heads = λ j h has there.
          ⊎_elim {C = h.token.missed ≡ false}
          (λ (at : j ≡ n). ap (λ (t : Qh). t.token.missed) (found_queue (now n n) h own_head.queue (ap (λ (t : ℕ). now t t) (sym at) ∙ there) own_head.here) ∙ own_head.unset)
          (λ (other : j ≢ n). unmissed_then.heads j h (begun_has j has other) there) (cases_eq j n);
      elements = λ j b t has there.
          ⊎_elim {C = t.token.missed ≡ false}
          (λ (at : j ≡ n). ap (λ (u : Qtd). u.token.missed) ((new_head on).only b t ((same n).elements_were b t (ap (λ (i : ℕ). now i b) (sym at) ∙ there))))
          (λ (other : j ≢ n). unmissed_then.elements j b t (begun_has j has other) there) (cases_eq j n);
    }

    pub control_asks : AsksIn g wider now held begun v asks new more wire
    control_asks =
        more_asks begun (course_begins control_of wider a.courses now held wire n b queue given.stages is_new stand_wider)
        (course_is_recorded new asks a.courses a.numbers (has_left g new) v n course numbering record_new recorded) (course_beside a.courses n course)
        (λ i other. ap (λ (t : Bool). if t then numbering else a.numbers i) (other_number i n other))
        (λ control. subst (λ (h : Numbers). HasCourse g new place e (begun.courses n) h) (sym number_is) (subst (λ (c : Course). HasCourse g new place e c numbering) (sym course_is) course_new))
        (λ control. (ap (λ (h : Numbers). h.closed) number_is, ap (λ (h : Numbers). h.requests.count) number_is)) are_asked
        (new_unmissed, begun_misses member s.parts _ (have_queues a.courses) (have_queues begun.courses) n unmet begun_has s.hand held stays k.in_hand (held_unmissed held stays))

  -- ---- either

  pub opened_asks : HasAsks g wider now held v asks new more wire
  opened_asks = by (g.asks e.desc) refl
    where
      by : (t : Bool) → g.asks e.desc ≡ t → HasAsks g wider now held v asks new more wire
      by false off = record { asking = a; world = other_asks off }
      by true on = record { asking = begun on; world = control_asks on }
