-- Each event of the controller keeps the queues of control endpoints.
use Rattle.std.proofs.Common.{◌≡◌, ◌≢◌, ℕ, Bool, true, false, List, [], Option, Some, ap, refl, sym, subst, ◌∙◌}
use Rattle.std.proofs.lemmas.Bool.{false≢true}
use Rattle.law_reports.proofs.Common.{queue_still, has_still, stepped_is}
use Rattle.usb_base.specs.declared.packets.Ask.{Ask}
use Rattle.usb_base.specs.declared.packets.Reply.{Reply}
use Rattle.qh_qtd.specs.declared.queue_head.Qh.{Qh}
use Rattle.hc_copy.specs.Transacting.{call_in}
use Rattle.async_walk.specs.declared.state.WalkStep.{WalkStep}
use Rattle.async_walk.specs.Naks.{planned}
use Rattle.hc_core.specs.Controller.{Content, walk_place}
use Rattle.law_structures.specs.lent_structures.Structures.{QueueHead, Structures, StructureSets}
use Rattle.law_structures.proofs.lemmas.lent_structures.Altering.{found_queue}
use Rattle.dev_control.specs.Stages.{Stages}
use Rattle.law_request.specs.Host.{Setup}
use Rattle.claims_report.specs.ControlSides.{Device}
use Rattle.law_devices.specs.request_calls.Bus.{IsControlBus, KeepsDevices}
use Rattle.law_ring.specs.Hand.{Hand}
use Rattle.claims_base.specs.Controller.{Base}
use Rattle.law_ring.specs.Ring.{IsCopied, IsInHand}
use Rattle.law_ring.specs.Effects.{buffer_of, Effect}
use Rattle.law_ring.specs.Effects.Effect.{reads, passes, ends, takes, makes, writes_back}
use Rattle.law_ring.specs.Told.{Told, hand_bytes, HasEndpoint, endpoint_of, Endpoint as Characteristics}
use Rattle.law_ring.proofs.Ordering.{not_worked, works_by}
use Rattle.law_controller.specs.controlled_streams.Control.{IsControlled, ControlEffect, a_microframe, a_step}
use Rattle.law_devices.specs.ring_requests.Shown.{AreFresh}
use Rattle.law_devices.specs.ring_requests.Windows.{Queue, sent_at, Lines, IsQueue, IsBehind, IsElsewhere, AreHigh}
use Rattle.law_devices.specs.ring_requests.Resting.{IsOtherEndpoint, IsAlone}
use Rattle.law_devices.specs.control_requests.Rests.{ControlRestStays}
use Rattle.law_devices.proofs.lemmas.control_requests.Keeping.{Rest, rest_of}
use Rattle.law_devices.proofs.lemmas.control_requests.Resting.{an_event_leaves_a_queue_at_rest}
use Rattle.law_reports.specs.requests.Courses.{Course, NoQueue, Asks, Rests, has_queue, is_asking, queue_in, lines_in, IsAsking, IsResting, IsCourse, queues, have_queues, are_asking, all_lines, CoursesStand}
use Rattle.law_reports.specs.requests.QueueEvents.{line_after, course_after, courses_after, CoursesGoOn, EventKeepsCourses, EventLeavesDevice}
use Rattle.law_reports.proofs.lemmas.requests.Courses.{sent_are, windows_are, queue_alone}

-- ---- a queue head that isn't active, whatever is in hand

module _ (hand later : Hand) (parts now : StructureSets) (n : ℕ) (same : now n ≡ parts n) (q : Qh) (head : parts n n ≡ Some (QueueHead q)) (idle : q.token.active ≡ false) where
  told_still : (e : ℕ) (xs : List ℕ) → Told hand parts n e xs → Told later now n e xs
  told_still e xs t =
      let is : q ≡ t.queue = found_queue (parts n n) q t.queue head t.head in
      let off = works_by t.queue e false (ap (λ (z : Qh). z.token.active) (sym is) ∙ idle) (λ on. absurd (false≢true on)) in
      record {
        queue = t.queue;
        head = ap (λ (part : Structures). part n) same ∙ t.head;
        qtd = t.qtd;
        here = ap (λ (part : Structures). part e) same ∙ t.here;
        are = t.are ∙ not_worked hand n t.queue e t.qtd (buffer_of (parts n) t.qtd) off ∙ sym (not_worked later n t.queue e t.qtd (buffer_of (parts n) t.qtd) off)
            ∙ ap (λ (part : Structures). hand_bytes later n t.queue e t.qtd (buffer_of part t.qtd)) (sym same);
      }

  pub behind_still : (v : Queue) (i : ℕ) → IsBehind (sent_at v i) hand parts n → IsBehind (sent_at v i) later now n
  behind_still v i k = record {
    fresh = subst (λ (part : Structures). AreFresh v.endpoint (v.requests i) (v.places i) part Setup) (sym same) k.fresh;
    none_told = λ some. told_still (v.places i).data_at [] (k.none_told some);
  }

module _ {W : Type 0} (begins : W → ℕ → Bool → W → Type 0) (transacts : W → Ask → List ℕ → Reply → W → Type 0) (device : W → ℕ → ℕ → Option Device) (base : Base) (member : ℕ → Bool) (courses : ℕ → Course) (parts : StructureSets) (hand : Hand) (content : Content) (wire after : W) (now : StructureSets) (later : Hand) (effect : ControlEffect begins transacts parts hand wire after now later) (bus : IsControlBus transacts device) (keeps : KeepsDevices begins device) (controlled : IsControlled base member parts hand content) (high : AreHigh (are_asking courses) parts) (stand : CoursesStand device member courses parts hand wire) where
  abbrev asking : ℕ → Bool
  asking = are_asking courses

  abbrev sent : ℕ → Queue
  sent = queues courses

  abbrev lines : ℕ → Lines
  lines = all_lines courses

  abbrev asked : Rest begins transacts device base member (are_asking courses) (queues courses) (sent_are device member courses parts hand wire stand) bus keeps (all_lines courses) parts hand content wire controlled
      (windows_are device member courses parts hand wire stand) high after now later effect
  asked =
      rest_of begins transacts device base member (are_asking courses) (queues courses) (sent_are device member courses parts hand wire stand) bus keeps (all_lines courses) parts hand content wire controlled
      (windows_are device member courses parts hand wire stand) high after now later effect

  -- ---- one that asks

  abbrev IsAfter : ℕ → Course → Type 0
  IsAfter n c = IsQueue (queue_in c) (line_after asked.step n (queue_in c) (lines_in c)) later now n (device after (queue_in c).endpoint.addr (queue_in c).endpoint.num)

  asked_after : (n : ℕ) (c : Course) → courses n ≡ c → is_asking c ≡ true → IsAfter n c
  asked_after n c is on =
      subst (IsAfter n) is
      (subst (λ (l : Lines). IsQueue (sent n) l later now n (device after (sent n).endpoint.addr (sent n).endpoint.num)) (stepped_is sent lines n asked.step) (asked.windows_are.each n (ap is_asking is ∙ on)))

  -- ---- one at rest

  module _ (n b : ℕ) (v : Queue) (c : Stages) (is : courses n ≡ Rests v b c) where
    here : IsResting v b c hand parts n (device wire v.endpoint.addr v.endpoint.num)
    here = subst (IsCourse device parts hand wire n) is (stand.each n)

    alone_here : IsAlone member v.endpoint parts n
    alone_here = subst (λ (x : Course). IsAlone member (queue_in x).endpoint parts n) is (queue_alone device member courses parts hand wire stand n (ap has_queue is))

    stays : ControlRestStays device member v.endpoint c b n effect
    stays = an_event_leaves_a_queue_at_rest begins transacts device base member v.endpoint c b n parts hand content wire after now later effect bus keeps controlled alone_here here.rest

    rest_after : IsResting v b c later now n (device after v.endpoint.addr v.endpoint.num)
    rest_after =
        let queue : stays.rest.queue ≡ here.rest.queue = found_queue (now n n) stays.rest.queue here.rest.queue stays.rest.head (ap (λ (part : Structures). part n) stays.same ∙ here.rest.head) in
        record {
          line = here.line;
          rest = stays.rest;
          wait = λ some. ap (λ (q : Qh). q.token.halted) queue ∙ here.wait some;
          behind = λ i few. behind_still hand later parts now n stays.same here.rest.queue here.rest.head here.rest.idle v i (here.behind i few);
        }

  -- ---- each

  after_by : (n : ℕ) (c : Course) → courses n ≡ c → IsCourse device now later after n (course_after asked.step n c)
  after_by n NoQueue is = tt
  after_by n (Asks v b l) is =
      let k : IsAsking v b l hand parts n (device wire v.endpoint.addr v.endpoint.num) = subst (IsCourse device parts hand wire n) is (stand.each n) in
      record { line = k.line; queue = asked_after n (Asks v b l) is refl }
  after_by n (Rests v b c) is = rest_after n b v c is

  -- of an endpoint that none of them has
  other_by : (n : ℕ) → member n ≡ true → have_queues courses n ≡ false → (own : Characteristics) (q : Qh) → now n n ≡ Some (QueueHead q) → own ≡ endpoint_of q
      → ((k : ℕ) → are_asking courses k ≡ true → (queues courses k).endpoint.addr ≡ own.addr → (queues courses k).endpoint.num ≡ own.ep → ⊥)
      → (k : ℕ) (c : Course) → courses k ≡ c → has_queue c ≡ true → (queue_in c).endpoint.addr ≡ own.addr → (queue_in c).endpoint.num ≡ own.ep → ⊥
  other_by n met off own q head own_is other k NoQueue is on addr num = false≢true on
  other_by n met off own q head own_is other k (Asks v b l) is on addr num =
      other k (ap is_asking is) (ap (λ (x : Course). (queue_in x).endpoint.addr) is ∙ addr) (ap (λ (x : Course). (queue_in x).endpoint.num) is ∙ num)
  other_by n met off own q head own_is other k (Rests v b c) is on addr num =
      let o : IsOtherEndpoint v.endpoint now n = (stays k b v c is).alone n met (λ same. false≢true (sym off ∙ ap (have_queues courses) same ∙ ap has_queue is)) in
      let same : own ≡ o.own = own_is ∙ ap endpoint_of (found_queue (now n n) q o.has.queue head o.has.head) ∙ sym o.has.is in
      o.other (addr ∙ ap (λ (x : Characteristics). x.addr) same) (num ∙ ap (λ (x : Characteristics). x.ep) same)

  others_after : (n : ℕ) → member n ≡ true → have_queues courses n ≡ false → IsElsewhere (have_queues (courses_after asked.step courses)) (queues (courses_after asked.step courses)) now n
  others_after n met off =
      let w : IsElsewhere (are_asking courses) (queues courses) now n = asked.windows_are.others n met (not_asking (courses n) off) in
      record {
        own = w.own;
        has = w.has;
        other = λ k on addr num.
            other_by n met off w.own w.has.queue w.has.head w.has.is w.other k (courses k) refl (sym (has_still asked.step k (courses k)) ∙ on)
            (ap (λ (x : Queue). x.endpoint.addr) (sym (queue_still asked.step k (courses k))) ∙ addr) (ap (λ (x : Queue). x.endpoint.num) (sym (queue_still asked.step k (courses k))) ∙ num);
      }
    where
      not_asking : (c : Course) → has_queue c ≡ false → is_asking c ≡ false
      not_asking NoQueue off = refl
      not_asking (Asks v b l) off = off
      not_asking (Rests v b c) off = refl

  go_on : CoursesGoOn device member courses effect
  go_on = record {
    step = asked.step;
    stand = record {
      each = λ n. after_by n (courses n) refl;
      members = λ n on. stand.members n (sym (has_still asked.step n (courses n)) ∙ on);
      apart = λ n k on one addr num.
          stand.apart n k (sym (has_still asked.step n (courses n)) ∙ on) (sym (has_still asked.step k (courses k)) ∙ one)
          (ap (λ (x : Queue). x.endpoint.addr) (sym (queue_still asked.step n (courses n))) ∙ addr ∙ ap (λ (x : Queue). x.endpoint.addr) (queue_still asked.step k (courses k)))
          (ap (λ (x : Queue). x.endpoint.num) (sym (queue_still asked.step n (courses n))) ∙ num ∙ ap (λ (x : Queue). x.endpoint.num) (queue_still asked.step k (courses k)));
      others = λ n met off. others_after n met (sym (has_still asked.step n (courses n)) ∙ off);
    };
    windows = asked.windows_are;
    is = asked.is;
    halted = asked.halted;
    rests = λ n b v c is. (stays n b v c is).beside;
  }

pub event_keeps : {W : Type 0} (begins : W → ℕ → Bool → W → Type 0) (transacts : W → Ask → List ℕ → Reply → W → Type 0) (device : W → ℕ → ℕ → Option Device) → EventKeepsCourses begins transacts device
event_keeps begins transacts device base member courses parts hand content wire after now later effect bus keeps controlled high stand =
    go_on begins transacts device base member courses parts hand content wire after now later effect bus keeps controlled high stand

-- ---- a device that isn't asked

module _ {W : Type 0} (begins : W → ℕ → Bool → W → Type 0) (transacts : W → Ask → List ℕ → Reply → W → Type 0) (device : W → ℕ → ℕ → Option Device) (base : Base) (member : ℕ → Bool) (parts : StructureSets) (hand : Hand) (content : Content) (wire after : W) (now : StructureSets) (later : Hand) (addr num : ℕ) (d : Device) (bus : IsControlBus transacts device) (keeps : KeepsDevices begins device) (controlled : IsControlled base member parts hand content) (other : (k : ℕ) (own : Characteristics) → member k ≡ true → HasEndpoint parts k own → addr ≡ own.addr → num ≡ own.ep → ⊥) (is : device wire addr num ≡ Some d) where
  quiet_device : after ≡ wire → device after addr num ≡ Some d
  quiet_device quiet = ap (λ (w : W). device w addr num) quiet ∙ is

  walk_device : (kind : WalkStep) (effect : Effect transacts parts hand wire after now later kind) → device after addr num ≡ Some d
  walk_device kind (reads k same quiet) = quiet_device quiet
  walk_device kind (passes k same quiet) = quiet_device quiet
  walk_device kind (ends k same quiet) = quiet_device quiet
  walk_device kind (takes k quiet) = quiet_device quiet
  walk_device kind (writes_back k quiet) = quiet_device quiet
  walk_device kind (makes m all) =
      let copied : IsCopied member parts m.copy = subst (IsInHand member parts (walk_place content).walk.reply) m.in_hand controlled.ring.in_hand in
      bus.others wire (call_in (planned m.copy.queue) m.out false).ask (call_in (planned m.copy.queue) m.out false).out m.reply after addr num d m.made is
      (λ for. other m.copy.at (endpoint_of m.copy.queue) copied.on (record { queue = m.copy.queue; head = copied.here; is = refl }) for.address for.number)

  left_device : (effect : ControlEffect begins transacts parts hand wire after now later) → device after addr num ≡ Some d
  left_device (a_microframe k) = keeps wire k.index k.allowed after addr num d k.asked is
  left_device (a_step k) = walk_device k.kind k.effect

pub event_leaves : {W : Type 0} (begins : W → ℕ → Bool → W → Type 0) (transacts : W → Ask → List ℕ → Reply → W → Type 0) (device : W → ℕ → ℕ → Option Device) → EventLeavesDevice begins transacts device
event_leaves begins transacts device base member parts hand content wire after now later effect addr num d bus keeps controlled other is =
    left_device begins transacts device base member parts hand content wire after now later addr num d bus keeps controlled other is effect
