-- Each event of the controller leaves a control endpoint below a hub as it must stand: in the window of a request, between two, and after
-- errors.
use Rattle.std.proofs.Common.{◌≡◌, ◌≢◌, ◌≤◌, ◌⊎◌, ℕ, ◌==◌, Bool, true, false, List, [], ◌++◌, Some, ap, refl, sym, subst, ◌∙◌}
use Rattle.std.proofs.Common.{⊎_elim, inl, inr}
use Rattle.std.proofs.lemmas.Bool.{cases_eq, false≢true}
use Rattle.usb_base.specs.declared.packets.Ask.{Ask}
use Rattle.usb_base.specs.declared.packets.Reply.{Reply}
use Rattle.usb_base.specs.declared.packets.Split.TheVariants.{Plain}
use Rattle.link_words.specs.Links.{qtd_link_of}
use Rattle.dev_control.specs.Stages.{Stages}
use Rattle.qh_qtd.specs.declared.qtd.Qtd.{Qtd}
use Rattle.qh_qtd.specs.declared.queue_head.Qh.{Qh}
use Rattle.transactions.specs.declared.pipe.Pipe.{Pipe}
use Rattle.hc_copy.specs.Overlay.{advanced}
use Rattle.hc_copy.specs.Planning.{host_in, split_at}
use Rattle.hc_copy.specs.Transacting.{call_in}
use Rattle.hc_copy.specs.Visits.{next_pointer}
use Rattle.async_walk.specs.declared.state.WalkStep.{WalkStep}
use Rattle.async_walk.specs.Naks.{planned}
use Rattle.bus_wire.specs.Bus.{Wired}
use Rattle.claims_report.specs.ControlSides.{Device}
use Rattle.claims_report.specs.Requests.{Request}
use Rattle.law_structures.specs.lent_structures.Structures.{QueueHead, Structures, StructureSets}
use Rattle.law_structures.proofs.lemmas.lent_structures.Altering.{found_queue, found_element}
use Rattle.law_structures.proofs.lemmas.lent_structures.Found.{back_beside}
use Rattle.law_structures.proofs.lemmas.lent_structures.Names.{put_beside}
use Rattle.law_ring.specs.Hand.{Copy, Hand, settled_queue_of}
use Rattle.law_ring.specs.Ring.{IsCopied, IsSettled, IsInHand}
use Rattle.law_ring.specs.Effects.{buffer_of, received_into, settlement, counted, taken, Takes, Makes, Effect}
use Rattle.law_ring.specs.Effects.Effect.{reads, passes, ends, takes, makes, writes_back}
use Rattle.law_ring.specs.Streams.{AreMembers}
use Rattle.law_ring.specs.Told.{Told, hand_bytes, endpoint_of}
use Rattle.law_ring.proofs.Keeping.{empty_unsettled, copied_unsettled}
use Rattle.law_controller.specs.controlled_streams.Control.{ControlEffect, BeginsMicroframe, a_microframe, a_step}
use Rattle.law_request.specs.Host.{Endpoint, Setup}
use Rattle.law_request.specs.Line.{Line as Window}
use Rattle.law_request.specs.Windows.{IsRequest}
use Rattle.law_devices.specs.request_calls.Bus.{device_of}
use Rattle.law_devices.specs.ring_requests.Laid.{IsIdle}
use Rattle.law_devices.specs.ring_requests.Resting.{IsOtherEndpoint, IsAlone}
use Rattle.law_devices.specs.ring_requests.Shown.{AreFresh, hand_side, Shows}
use Rattle.law_devices.specs.ring_requests.Windows.{Sent, Queue, sent_at, Lines, HasTail}
use Rattle.law_devices.specs.scripted_requests.Controls.{transacts_by, begins_by}
use Rattle.law_devices.proofs.lemmas.ring_requests.Stages.{to_same}
use Rattle.law_devices.proofs.lemmas.ring_requests.Windows.{side_unsettled, side_beside, queue_goes_on}
use Rattle.law_below_hubs.specs.SeatedControls.{control_at}
use Rattle.law_below_hubs.specs.HostRequests.{IsOfOtherEndpoint, RequestBelow, RequestBegins, HubRests}
use Rattle.law_below_hubs.specs.HostRequests.DeviceWorks.{rests as device_rests}
use Rattle.law_below_hubs.specs.RequestEvents.{SparesEndpointNow}
use Rattle.law_below_hubs.specs.RequestMoves.{HubsStay, WindowsMove, QueueMoves, RingKeepsQueue, BesideKeepsQueue, IsIdleHead}
use Rattle.law_below_hubs.specs.RequestMoves.{IsRestBelow, IsLeftBelow, RingKeepsRest, BesideKeepsRest, LeftMoves, RingKeepsLeft}
use Rattle.law_below_hubs.specs.RequestMoves.{BesideKeepsLeft}
use Rattle.law_below_hubs.specs.RequestQueues.{AreOneByOne, IsQueueBelow, QueueGoesOn}
use Rattle.law_below_hubs.specs.RequestWindows.{IsWindowBelow}
use Rattle.law_below_hubs.proofs.ControlBuses.{controls_at}
use Rattle.law_below_hubs.proofs.RequestBeside.{others_leave_request, begin_leaves_request}
use Rattle.law_below_hubs.proofs.RequestRests.{others_leave_rest, begin_leaves_rest}
use Rattle.law_below_hubs.proofs.RequestQueues.{walk_keeps_queue}

-- a queue head below a hub asks by split transactions
not_plain : (high waits : Bool) (pipe : Pipe) → high ≡ false → split_at high waits pipe ≡ Plain → ⊥
not_plain true waits pipe below is = absurd (false≢true (sym below))
not_plain false false pipe below is = cc
not_plain false true pipe below is = cc

copy_other : (member : ℕ → Bool) (e : Endpoint) (n : ℕ) (parts : StructureSets) (c : Copy) → IsAlone member e parts n
    → IsCopied member parts c → c.at ≢ n → c.queue.addr ≡ e.addr → c.queue.ep ≡ e.num → ⊥
copy_other member e n parts c alone copied differs addr num =
    let o : IsOtherEndpoint e parts c.at = alone c.at copied.on differs in
    let is : o.own ≡ endpoint_of c.queue =
    o.has.is ∙ ap endpoint_of (found_queue (parts c.at c.at) o.has.queue c.queue o.has.head copied.here) in
    o.other (sym addr ∙ ap (λ x. x.addr) (sym is)) (sym num ∙ ap (λ x. x.ep) (sym is))

-- ---- a request is under way, and its queue head is left

module _ (v : Queue) (i place n : ℕ) (parts : StructureSets) (hand : Hand) (wire after : Wired) (now : StructureSets) (later : Hand)
    (l : Lines) (acts : List (List ℕ)) (same : now n ≡ parts n) (hands : later ≡ hand) (hubs : HubsStay i place wire after)
    (b : RequestBegins v.endpoint (v.requests l.under) i place wire after (l.line l.under) acts)
    (w : IsQueueBelow v i place wire l acts hand parts n) where
  abbrev Before : Sent → Window → Type 0
  Before s x = IsWindowBelow s i place wire x acts hand parts n

  abbrev After : Sent → Window → Type 0
  After s x = IsWindowBelow s i place after x (b.acted ++ acts) later now n

  told_stays : (a : ℕ) (xs : List ℕ) → Told hand parts n a xs → Told later now n a xs
  told_stays a xs t = record {
    queue = t.queue;
    head = ap (λ (part : Structures). part n) same ∙ t.head;
    qtd = t.qtd;
    here = ap (λ (part : Structures). part a) same ∙ t.here;
    are = t.are ∙ ap (λ (y : Hand). hand_bytes y n t.queue a t.qtd (buffer_of (parts n) t.qtd)) (sym hands)
        ∙ ap (λ (part : Structures). hand_bytes later n t.queue a t.qtd (buffer_of part t.qtd)) (sym same);
  }

  window_stays : IsWindowBelow (sent_at v l.under) i place after (l.line l.under) (b.acted ++ acts) later now n
  window_stays =
      let q : Qh = w.window.queue in
      record {
        queue = q;
        head = ap (λ (part : Structures). part n) same ∙ w.window.head;
        control = w.window.control;
        hub = hubs q.hub q.port w.window.hub;
        shown = subst (λ (part : Structures). Shows v.endpoint (v.requests l.under) (v.places l.under) part (hand_side later n q) q
            (l.line l.under).host) (sym same)
            (subst (λ (y : Hand). Shows v.endpoint (v.requests l.under) (v.places l.under) (parts n) (hand_side y n q) q
            (l.line l.under).host) (sym hands) w.window.shown);
        among = w.window.among;
        moved = λ some. told_stays (v.places l.under).data_at (l.line l.under).host.moved (w.window.moved some);
        request = b.stands;
      }

  queue_stays : IsQueueBelow v i place after l (b.acted ++ acts) later now n
  queue_stays =
      let k = queue_goes_on Before After v l hand later parts now n
      (λ j more few. subst (λ (part : Structures). AreFresh v.endpoint (v.requests j) (v.places j) part Setup) (sym same))
      (subst (HasTail v) (sym same)) l.line (λ j less. refl) window_stays (λ j few differs. told_stays (v.places j).data_at) w in
      record { within = k.within; window = k.window; finished = k.finished; behind = k.behind; tail = k.tail }

  pub queue_left : QueueMoves v i place wire after l acts later now n
  queue_left = record {
    acted = b.acted;
    device = record { before = b.before; leaves = b.after; was = b.was; is = b.is; works = b.works };
    lines = l;
    acts_now = b.acted ++ acts;
    queue = queue_stays;
    under = inl (refl, refl);
    earlier = λ j less. refl;
  }

pub beside_keeps_queue : BesideKeepsQueue
beside_keeps_queue v i place n parts hand wire after now later l acts same hands hubs b w =
    queue_left v i place n parts hand wire after now later l acts same hands hubs b w

-- ---- .. at an event of the ring

module _ (member : ℕ → Bool) (v : Queue) (i place n : ℕ) (parts : StructureSets) (hand : Hand) (reply : Reply) (wire after : Wired)
    (now : StructureSets) (later : Hand) (l : Lines) (acts : List (List ℕ)) (fixed : AreOneByOne v) (room : v.endpoint.max ≤ 1024)
    (members : AreMembers member parts) (in_hand : IsInHand member parts reply hand) (alone : IsAlone member v.endpoint parts n)
    (spares : SparesEndpointNow v.endpoint i place wire after) (hubs : HubsStay i place wire after)
    (w : IsQueueBelow v i place wire l acts hand parts n) where
  abbrev e : Endpoint
  e = v.endpoint

  -- it asks by a split, or another endpoint is asked
  asked_other : (m : Makes transacts_by parts hand wire after later) → (d : Device) → control_at wire e.addr e.num ≡ Some d
      → control_at after e.addr e.num ≡ Some d
  asked_other m d is =
      let copied : IsCopied member parts m.copy = subst (IsInHand member parts reply) m.in_hand in_hand in
      controls_at.others wire (call_in (planned m.copy.queue) m.out false).ask (call_in (planned m.copy.queue) m.out false).out m.reply
      after e.addr e.num d m.made is (λ for.
      ⊎_elim {C = ⊥}
      (λ (at : m.copy.at ≡ n).
      let queue_is : w.window.queue ≡ m.copy.queue =
      found_queue (parts n n) w.window.queue m.copy.queue w.window.head (ap (λ (k : ℕ). parts k k) (sym at) ∙ copied.here) in
      not_plain (m.copy.queue.eps == 2) m.copy.queue.token.split_state _
      (ap (λ (q : Qh). q.eps == 2) (sym queue_is) ∙ w.window.control.below) for.plain)
      (λ (differs : m.copy.at ≢ n).
      copy_other member e n parts m.copy alone copied differs (sym for.address) (sym for.number)) (cases_eq m.copy.at n))

  walk_device : (kind : WalkStep) → Effect transacts_by parts hand wire after now later kind → (d : Device)
      → control_at wire e.addr e.num ≡ Some d
      → control_at after e.addr e.num ≡ Some d
  walk_device kind (reads k same quiet) d is = ap (λ (x : Wired). control_at x e.addr e.num) quiet ∙ is
  walk_device kind (passes k same quiet) d is = ap (λ (x : Wired). control_at x e.addr e.num) quiet ∙ is
  walk_device kind (ends k same quiet) d is = ap (λ (x : Wired). control_at x e.addr e.num) quiet ∙ is
  walk_device kind (takes k quiet) d is = ap (λ (x : Wired). control_at x e.addr e.num) quiet ∙ is
  walk_device kind (makes m all) d is = asked_other m d is
  walk_device kind (writes_back k quiet) d is = ap (λ (x : Wired). control_at x e.addr e.num) quiet ∙ is

  by_walk : (kind : WalkStep) → Effect transacts_by parts hand wire after now later kind
      → QueueMoves v i place wire after l acts later now n
  by_walk kind effect =
      let k : QueueGoesOn v i place after l acts later now n =
      walk_keeps_queue member v i place n parts hand reply wire after now later kind l acts fixed members in_hand alone spares hubs effect w
      in
      let c : Stages = w.window.request.side.line.window.device in
      record {
        acted = [];
        device = record {
          before = c;
          leaves = c;
          was = w.window.request.side.device;
          is = walk_device kind effect (device_of e c) w.window.request.side.device;
          works = device_rests;
        };
        lines = k.lines;
        acts_now = k.acted;
        queue = k.queue;
        under = ⊎_elim {C = WindowsMove l.under acts [] k.lines.under k.acted} (λ z. inl z) (λ z. inr (z.0, (z.1, refl))) k.under;
        earlier = k.earlier;
      }

  begins : (index : ℕ) (allowed : Bool) → begins_by wire index allowed after
      → RequestBegins e (v.requests l.under) i place wire after (l.line l.under) acts
  begins index allowed asked =
      subst (λ (x : Wired). RequestBegins e (v.requests l.under) i place wire x (l.line l.under) acts) (sym asked.1)
      (begin_leaves_request e (v.requests l.under) i place index wire (l.line l.under) acts (fixed.requests l.under w.within) room
      w.window.request)

  pub ring_moves : ControlEffect begins_by transacts_by parts hand wire after now later → QueueMoves v i place wire after l acts later now n
  ring_moves (a_microframe k) =
      queue_left v i place n parts hand wire after now later l acts (ap (λ (ps : StructureSets). ps n) k.parts_stay) k.hand_stays hubs
      (begins k.index k.allowed k.asked) w
  ring_moves (a_step k) = by_walk k.kind k.effect

pub ring_keeps_queue : RingKeepsQueue
ring_keeps_queue member v i place n parts hand reply wire after now later l acts fixed room members in_hand alone spares hubs effect w =
    ring_moves member v i place n parts hand reply wire after now later l acts fixed room members in_hand alone spares hubs w effect

-- ---- none is under way

module _ (e : Endpoint) (i place b n : ℕ) (parts : StructureSets) (hand : Hand) (wire after : Wired) (now : StructureSets) (later : Hand)
    (same : now n ≡ parts n) (hubs : HubsStay i place wire after) (o : IsIdleHead e i place wire b hand parts n) where
  pub head_stays : hand_side later n o.queue ≡ hand_side hand n o.queue → IsIdleHead e i place after b later now n
  head_stays side = record {
    queue = o.queue;
    head = ap (λ (part : Structures). part n) same ∙ o.head;
    control = o.control;
    hub = hubs o.queue.hub o.queue.port o.hub;
    idle = o.idle;
    unsettled = side ∙ o.unsettled;
    leads = o.leads;
    tail = subst (λ (part : Structures). IsIdle part b) (sym same) o.tail;
  }

pub beside_keeps_rest : BesideKeepsRest
beside_keeps_rest e i place b n parts hand wire after now later c same hands hubs rests o = record {
  head = head_stays e i place b n parts hand wire after now later same hubs o.head (ap (λ (y : Hand). hand_side y n o.head.queue) hands);
  rests = rests;
}

left_as : (e : Endpoint) (r : Request) (i place b n : ℕ) (parts : StructureSets) (hand : Hand) (wire after : Wired) (now : StructureSets)
    (later : Hand) (l : Window) (acts : List (List ℕ)) → IsIdleHead e i place after b later now n
    → RequestBegins e r i place wire after l acts → IsLeftBelow e r i place wire l acts b hand parts n
    → LeftMoves e r i place wire after l acts b later now n
left_as e r i place b n parts hand wire after now later l acts head k o = record {
  acted = k.acted;
  device = record { before = k.before; leaves = k.after; was = k.was; is = k.is; works = k.works };
  left = record { head = head; ended = o.ended; request = k.stands };
}

pub beside_keeps_left : BesideKeepsLeft
beside_keeps_left e r i place b n parts hand wire after now later l acts same hands hubs k o =
    left_as e r i place b n parts hand wire after now later l acts
    (head_stays e i place b n parts hand wire after now later same hubs o.head (ap (λ (y : Hand). hand_side y n o.head.queue) hands)) k o

-- ---- .. at an event of the ring

module _ (member : ℕ → Bool) (e : Endpoint) (i place b n : ℕ) (parts : StructureSets) (hand : Hand) (reply : Reply) (wire after : Wired)
    (now : StructureSets) (later : Hand) (members : AreMembers member parts) (in_hand : IsInHand member parts reply hand)
    (alone : IsAlone member e parts n) (spares : SparesEndpointNow e i place wire after) (hubs : HubsStay i place wire after)
    (o : IsIdleHead e i place wire b hand parts n) where
  -- the copy in hand is that of another queue head where it is active
  mine : (d : Copy) → IsCopied member parts d → d.at ≡ n → d.queue ≡ o.queue
  mine d copied at = found_queue (parts n n) d.queue o.queue (ap (λ (k : ℕ). parts k k) (sym at) ∙ copied.here) o.head

  active_beside : (d : Copy) → IsCopied member parts d → d.queue.token.active ≡ true → d.at ≢ n
  active_beside d copied on at = false≢true (sym o.idle ∙ ap (λ (q : Qh). q.token.active) (sym (mine d copied at)) ∙ on)

  -- and where it goes on
  taken_beside : (k : Takes parts hand now later) → IsCopied member parts k.copy → k.copy.at ≢ n
  taken_beside k copied at =
      let same : k.copy.queue ≡ o.queue = mine k.copy copied at in
      let to = o.leads (ap (λ (q : Qh). q.token.halted) (sym same) ∙ k.goes_on) in
      let place_is : k.element ≡ b =
      to_same k.element b (sym k.leads ∙ ap (λ (q : Qh). qtd_link_of (next_pointer q)) same ∙ to) in
      let is : k.qtd ≡ o.tail.qtd =
      found_element (parts n b) k.qtd o.tail.qtd (ap (parts n) (sym place_is) ∙ ap (λ (j : ℕ). parts j k.element) (sym at) ∙ k.here)
      o.tail.here in
      false≢true (sym o.tail.idle ∙ ap (λ (t : Qtd). t.token.active) (sym is) ∙ k.published)

  -- its structures stay, and another endpoint is asked, or none
  record Stays : Type 0 where
    same : now n ≡ parts n
    head : IsIdleHead e i place after b later now n
    wire_is : (after ≡ wire)
        ⊎ ((ask : Ask) × (out : List ℕ) × (heard : Reply) × IsOfOtherEndpoint e ask × transacts_by wire ask out heard after)

  stays_so : now n ≡ parts n → ((q : Qh) → hand_side later n q ≡ host_in q) → after ≡ wire → Stays
  stays_so same sides quiet = record {
    same = same;
    head = head_stays e i place b n parts hand wire after now later same hubs o (sides o.queue ∙ sym o.unsettled);
    wire_is = inl quiet;
  }

  stays : (kind : WalkStep) → Effect transacts_by parts hand wire after now later kind → Stays
  stays kind (reads k same quiet) =
      stays_so (ap (λ (ps : StructureSets). ps n) same) (λ q. side_unsettled later n q (copied_unsettled later k.copy k.in_hand)) quiet
  stays kind (passes k same quiet) =
      stays_so (ap (λ (ps : StructureSets). ps n) same) (λ q. side_unsettled later n q (empty_unsettled later k.nothing)) quiet
  stays kind (ends k same quiet) =
      stays_so (ap (λ (ps : StructureSets). ps n) same) (λ q. side_unsettled later n q (empty_unsettled later k.nothing)) quiet
  stays kind (takes k quiet) =
      let copied : IsCopied member parts k.copy = subst (IsInHand member parts reply) k.in_hand in_hand in
      let differs : k.copy.at ≢ n = taken_beside k copied in
      stays_so
      (ap (λ (ps : StructureSets). ps n) k.now_is
      ∙ put_beside parts k.copy.at k.copy.at (QueueHead (advanced k.copy.queue k.element k.qtd)) n (λ is. differs (sym is)))
      (λ q. side_unsettled later n q (copied_unsettled later (taken k.copy k.element k.qtd) k.later_is)) quiet
  stays kind (makes m all) =
      let copied : IsCopied member parts m.copy = subst (IsInHand member parts reply) m.in_hand in_hand in
      let differs : m.copy.at ≢ n = active_beside m.copy copied m.works in
      let same : now n ≡ parts n = ap (λ (ps : StructureSets). ps n) all in
      record {
        same = same;
        head = head_stays e i place b n parts hand wire after now later same hubs o
            (side_beside later (counted m.copy m.out m.reply) (settlement m.copy.queue m.out m.reply) n o.queue m.later_is differs
            ∙ sym o.unsettled);
        wire_is = inr (
          (call_in (planned m.copy.queue) m.out false).ask,
          (call_in (planned m.copy.queue) m.out false).out,
          m.reply,
          (λ addr num. copy_other member e n parts m.copy alone copied differs addr num),
          m.made,
        );
      }
  stays kind (writes_back k quiet) =
      let both : IsCopied member parts k.copy × IsSettled k.copy.queue reply k.settled =
      subst (IsInHand member parts reply) k.in_hand in_hand in
      let differs : k.copy.at ≢ n = active_beside k.copy both.0 both.1.works in
      stays_so
      (ap (λ (ps : StructureSets). ps n) k.now_is
      ∙ back_beside parts k.copy.at k.copy.at k.copy.queue (settled_queue_of k.copy k.settled) _ k.settled.got
      (received_into (parts k.copy.at) k.copy.queue k.element k.settled.got) k.element n (λ is. differs (sym is)))
      (λ q. side_unsettled later n q (empty_unsettled later k.nothing)) quiet

  begun_head : BeginsMicroframe begins_by parts hand wire after now later → IsIdleHead e i place after b later now n
  begun_head k =
      head_stays e i place b n parts hand wire after now later (ap (λ (ps : StructureSets). ps n) k.parts_stay) hubs o
      (ap (λ (y : Hand). hand_side y n o.queue) k.hand_stays)

  -- ---- between two requests

  module _ (c : Stages) (rests : HubRests e i place wire c) where
    rests_by : (after ≡ wire)
        ⊎ ((ask : Ask) × (out : List ℕ) × (heard : Reply) × IsOfOtherEndpoint e ask × transacts_by wire ask out heard after)
        → HubRests e i place after c
    rests_by (inl quiet) = subst (λ (x : Wired). HubRests e i place x c) (sym quiet) rests
    rests_by (inr asked) =
        others_leave_rest e i place wire asked.0 asked.1 asked.2 after c asked.3 (spares asked.0 asked.1 asked.2 asked.4) asked.4 rests

    pub rest_stays : ControlEffect begins_by transacts_by parts hand wire after now later
        → IsRestBelow e i place after c b later now n × (now n ≡ parts n)
    rest_stays (a_microframe k) = (
      record {
        head = begun_head k;
        rests = subst (λ (x : Wired). HubRests e i place x c) (sym k.asked.1) (begin_leaves_rest e i place k.index wire c rests);
      },
      ap (λ (ps : StructureSets). ps n) k.parts_stay,
    )
    rest_stays (a_step k) =
        let z = stays k.kind k.effect in
        (record { head = z.head; rests = rests_by z.wire_is }, z.same)

  -- ---- after errors

  module _ (r : Request) (l : Window) (acts : List (List ℕ)) (request : IsRequest r) (room : e.max ≤ 1024)
      (left : IsLeftBelow e r i place wire l acts b hand parts n) where
    left_by : (x : Wired) → RequestBelow e r i place x l acts
        → ((d : Device) → control_at wire e.addr e.num ≡ Some d → control_at x e.addr e.num ≡ Some d)
        → RequestBegins e r i place wire x l acts
    left_by x below device =
        let c : Stages = left.request.side.line.window.device in
        record {
          before = c;
          after = c;
          acted = [];
          was = left.request.side.device;
          is = device (device_of e c) left.request.side.device;
          works = device_rests;
          stands = below;
        }

    begins_by_wire : (after ≡ wire)
        ⊎ ((ask : Ask) × (out : List ℕ) × (heard : Reply) × IsOfOtherEndpoint e ask × transacts_by wire ask out heard after)
        → RequestBegins e r i place wire after l acts
    begins_by_wire (inl quiet) =
        subst (λ (x : Wired). RequestBegins e r i place wire x l acts) (sym quiet) (left_by wire left.request (λ d is. is))
    begins_by_wire (inr asked) =
        left_by after
        (others_leave_request e r i place wire asked.0 asked.1 asked.2 after l acts request asked.3
        (spares asked.0 asked.1 asked.2 asked.4) asked.4 left.request)
        (λ d is. controls_at.others wire asked.0 asked.1 asked.2 after e.addr e.num d asked.4 is
        (λ for. asked.3 (sym for.address) (sym for.number)))

    pub left_stays : ControlEffect begins_by transacts_by parts hand wire after now later
        → LeftMoves e r i place wire after l acts b later now n × (now n ≡ parts n)
    left_stays (a_microframe k) = (
      left_as e r i place b n parts hand wire after now later l acts (begun_head k)
          (subst (λ (x : Wired). RequestBegins e r i place wire x l acts) (sym k.asked.1)
          (begin_leaves_request e r i place k.index wire l acts request room left.request)) left,
      ap (λ (ps : StructureSets). ps n) k.parts_stay,
    )
    left_stays (a_step k) =
        let z = stays k.kind k.effect in
        (left_as e r i place b n parts hand wire after now later l acts z.head (begins_by_wire z.wire_is) left, z.same)

pub ring_keeps_rest : RingKeepsRest
ring_keeps_rest member e i place b n parts hand reply wire after now later c members in_hand alone spares hubs effect o =
    rest_stays member e i place b n parts hand reply wire after now later members in_hand alone spares hubs o.head c o.rests effect

pub ring_keeps_left : RingKeepsLeft
ring_keeps_left member e r i place b n parts hand reply wire after now later l acts request room members in_hand alone spares hubs
    effect o =
    left_stays member e i place b n parts hand reply wire after now later members in_hand alone spares hubs o.head r l acts request room o
    effect
