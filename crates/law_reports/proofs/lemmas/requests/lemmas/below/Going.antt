-- Each event of the controller leaves the queue of a control endpoint below a hub as it must stand, whichever way it stands.
use Rattle.std.proofs.Common.{◌≡◌, ℕ, Bool, true, [], ap, refl, ◌∙◌}
use Rattle.std.proofs.lemmas.Bool.{false≢true}
use Rattle.dev_control.specs.Stages.{Stages}
use Rattle.bus_wire.specs.Bus.{Wired, Fixed}
use Rattle.bus_world.specs.World.{World, controller_next}
use Rattle.qh_qtd.specs.declared.queue_head.Qh.{Qh}
use Rattle.claims_world.specs.Requests.{wired, Windows}
use Rattle.law_structures.specs.lent_structures.Structures.{Structures, StructureSets}
use Rattle.law_structures.proofs.lemmas.lent_structures.Altering.{found_queue}
use Rattle.law_ring.specs.Hand.{Hand}
use Rattle.law_request.specs.Host.{Endpoint}
use Rattle.law_devices.specs.ring_requests.Resting.{IsAtRest}
use Rattle.law_devices.specs.ring_requests.Windows.{Queue, Lines}
use Rattle.law_below_hubs.specs.HostRequests.DeviceWorks.{rests}
use Rattle.law_below_hubs.specs.RequestMoves.{IsIdleHead}
use Rattle.law_below_hubs.specs.RequestQueues.{AreOneByOne}
use Rattle.law_below_hubs.specs.RequestViews.{IsHeadBelow, heard}
use Rattle.law_below_hubs.proofs.RequestViews.{below_is_asked, asked_is_below, at_rest_is_below, at_rest_is_left}
use Rattle.law_world.specs.memory.Mixed.{Standing}
use Rattle.law_world.specs.memory.Steps.{standing_then, IsMixedControlled}
use Rattle.law_reports.specs.lines.Lined.{Lines as Told}
use Rattle.law_reports.specs.pipes.Declared.{Sides}
use Rattle.law_reports.specs.pipes.Piped.{Heads, IsPiped}
use Rattle.law_reports.specs.requests.Courses.{Course, NoQueue, Asks, Rests, has_queue, AreInLine, IsResting}
use Rattle.law_reports.specs.requests.Records.{Numbers}
use Rattle.law_reports.specs.requests.below.Going.{HasCourseBelow, CourseGoesOn, ControllerKeepsCourseBelow}
use Rattle.law_reports.specs.requests.below.Moved.{HubIsLeft}
use Rattle.law_reports.specs.requests.below.Moved.HubIsLeft.{by_none, by_errors}
use Rattle.law_reports.proofs.lemmas.requests.QueueEvents.{behind_still}
use Rattle.law_reports.proofs.lemmas.requests.lemmas.below.Controlled.{controller_keeps_queue_below, controller_keeps_rest_below}
use Rattle.law_reports.proofs.lemmas.requests.lemmas.below.Controlled.{controller_keeps_left_below}
use Rattle.law_reports.proofs.lemmas.requests.lemmas.below.Recorded.{asked_is_recorded_below, rest_is_recorded_below}
use Rattle.law_reports.proofs.lemmas.requests.lemmas.below.Recorded.{left_is_recorded_below}

one_by_one : (q : Queue) (b : ℕ) → AreInLine q b → AreOneByOne q
one_by_one q b k = record { requests = k.requests; whole = k.whole; places = k.places; others = k.others; chained = k.chained }

-- ---- its queue head

module _ (e : Endpoint) (i place b n : ℕ) (wire : Wired) (hand : Hand) (parts : StructureSets)
    (k : IsIdleHead e i place wire b hand parts n) where
  -- its device as the host has heard of it
  as_at_rest : (s : Stages) → s.max ≡ e.max → IsAtRest e s b hand parts n (heard e s)
  as_at_rest s max = record {
    queue = k.queue;
    head = k.head;
    control = record { toggles = k.control.toggles; address = k.control.address; number = k.control.number; packets = k.control.packets };
    idle = k.idle;
    unsettled = k.unsettled;
    leads = k.leads;
    tail = k.tail;
    max = max;
    device = refl;
  }

  head_below : IsHeadBelow i place wire parts n
  head_below = record { queue = k.queue; head = k.head; below = k.control.below; hub = k.hub }

module _ (fixed : Fixed) (x : Sides) (s : Standing) (m : Told) (h : Heads) (w : World) (piped : IsPiped fixed x s m h w)
    (k : IsMixedControlled fixed s w) (ended : Bool) (i place n : ℕ) (v : Windows) (a : Numbers) where
  abbrev wire : Wired
  wire = wired fixed w

  abbrev after : Wired
  after = wired fixed (controller_next fixed w)

  abbrev later : Hand
  later = (standing_then s w k.event).hand

  abbrev now : StructureSets
  now = (standing_then s w k.event).parts

  Goes : Course → Type 0
  Goes c = CourseGoesOn fixed w ended i place n v c a (standing_then s w k.event).hand (standing_then s w k.event).parts

  -- ---- while its requests are asked

  asked_goes : (q : Queue) (b : ℕ) (l : Lines) → HasCourseBelow fixed s w ended i place n v (Asks q b l) a → Goes (Asks q b l)
  unfolding Goes
  asked_goes q b l o =
      let moves = controller_keeps_queue_below fixed x s m h w piped k q i place n l (v.acts (a.number l.under))
      (one_by_one q b o.shown.line) o.room o.alone o.spared
      (asked_is_below q i place n wire l (v.acts (a.number l.under)) s.hand s.parts (heard q.endpoint (l.line l.under).device) o.head
      o.below.request o.shown.queue) in
      let shown = below_is_asked q i place n after moves.lines moves.acts_now later now moves.queue in
      record {
        course = Asks q b moves.lines;
        onward = (moves.lines, refl);
        acted = moves.acted;
        device = moves.device;
        head = shown.1;
        shown = record { line = o.shown.line; queue = shown.0 };
        below = λ at.
            asked_is_recorded_below fixed w i place n v q l a later now o.transfers o.few moves at.0 at.1 o.below;
      }

  -- ---- while none is under way

  module _ (q : Queue) (b : ℕ) (c : Stages) (o : HasCourseBelow fixed s w ended i place n v (Rests q b c) a) where
    rests_as : IsIdleHead q.endpoint i place (wired fixed (controller_next fixed w)) b (standing_then s w k.event).hand
        (standing_then s w k.event).parts n → (standing_then s w k.event).parts n ≡ s.parts n
        → IsResting q b c (standing_then s w k.event).hand (standing_then s w k.event).parts n (heard q.endpoint c)
    unfolding as_at_rest
    rests_as idle same =
        let rest = as_at_rest q.endpoint i place b n after later now idle c o.below.max in
        let queue : idle.queue ≡ o.shown.rest.queue =
        found_queue (now n n) idle.queue o.shown.rest.queue idle.head (ap (λ (part : Structures). part n) same ∙ o.shown.rest.head) in
        record {
          line = o.shown.line;
          rest = rest;
          wait = λ some. ap (λ (y : Qh). y.token.halted) queue ∙ o.shown.wait some;
          behind = λ j less.
              behind_still s.hand later s.parts now n same o.shown.rest.queue o.shown.rest.head o.shown.rest.idle q j
              (o.shown.behind j less);
        }

    by_hub : HubIsLeft ended q.endpoint i place (wired fixed w) v a.endpoint → Goes (Rests q b c)
    unfolding Goes
    by_hub (by_none left quiet) =
        let y = controller_keeps_rest_below fixed x s m h w piped k q.endpoint i place b n left o.alone o.spared
        (at_rest_is_below q.endpoint i place b n wire c left s.hand s.parts (heard q.endpoint c) o.head quiet o.shown.rest) in
        record {
          course = Rests q b c;
          onward = refl;
          acted = [];
          device = record { before = left; leaves = left; was = quiet.device; is = y.0.rests.device; works = rests };
          head = head_below q.endpoint i place b n after later now y.0.head;
          shown = rests_as y.0.head y.1;
          below = λ at. rest_is_recorded_below fixed w ended i place v q c left a o.transfers quiet y.0.rests o.below;
        }
    by_hub (by_errors t r l on request latest broken held) =
        let y = controller_keeps_left_below fixed x s m h w piped k q.endpoint r i place b n l (v.acts t) request o.room o.alone o.spared
        (at_rest_is_left q.endpoint r i place b n wire c l (v.acts t) s.hand s.parts (heard q.endpoint c) o.head broken held
        o.shown.rest) in
        record {
          course = Rests q b c;
          onward = refl;
          acted = y.0.acted;
          device = y.0.device;
          head = head_below q.endpoint i place b n after later now y.0.left.head;
          shown = rests_as y.0.left.head y.1;
          below = λ at.
              left_is_recorded_below fixed w ended i place b n t v q c r l a later now request o.transfers on (o.none on) (o.owned t latest)
              (at ∙ latest) y.0 o.below;
        }

  course_goes : (c : Course) → has_queue c ≡ true → HasCourseBelow fixed s w ended i place n v c a → Goes c
  course_goes NoQueue has o = absurd (false≢true has)
  course_goes (Asks q b l) has o = asked_goes q b l o
  course_goes (Rests q b c) has o = by_hub q b c o o.below.hub

pub controller_keeps_course_below : ControllerKeepsCourseBelow
unfolding Goes
controller_keeps_course_below fixed x s m h w piped k ended i place n v c a has o =
    course_goes fixed x s m h w piped k ended i place n v a c has o
