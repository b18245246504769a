-- Each event of the walk keeps the requests of a control endpoint below a hub.
use Rattle.std.proofs.Common.{◌≡◌, ◌≢◌, ◌<◌, ◌≤◌, ℕ, suc, ◌==◌, Bool, true, false, if◌then◌else◌, List, [], Some, ap, refl, sym, subst, ◌∙◌, ⊎_elim, inl, inr, arith}
use Rattle.std.proofs.lemmas.Bool.{cases_eq, cases_lt, eq-eqb}
use Rattle.law_common.proofs.Numbers.{other_number}
use Rattle.usb_base.specs.declared.endpoints.EndCause.TheVariants as Causes
use Rattle.usb_base.specs.declared.packets.Reply.{Reply}
use Rattle.qh_qtd.specs.declared.queue_head.Qh.{Qh}
use Rattle.toggle_error.specs.declared.host.HostSide.{HostSide}
use Rattle.hc_copy.specs.Overlay.{advanced}
use Rattle.hc_copy.specs.Planning.{host_in}
use Rattle.async_walk.specs.declared.state.WalkStep.{WalkStep}
use Rattle.async_walk.specs.declared.state.WalkStep.TheVariants as steps
use Rattle.bus_wire.specs.Bus.{Wired}
use Rattle.law_structures.specs.lent_structures.Structures.{QueueHead, Element, Structures, StructureSets, with_structure}
use Rattle.law_structures.specs.lent_structures.Alters.{Alters}
use Rattle.law_structures.proofs.lemmas.lent_structures.Altering.{found_queue}
use Rattle.law_structures.proofs.lemmas.lent_structures.Found.{back_beside}
use Rattle.law_structures.proofs.lemmas.lent_structures.Names.{put_here, put_beside, with_here}
use Rattle.law_ring.specs.Hand.{Hand, settled_queue_of}
use Rattle.law_ring.specs.Ring.{IsCopied, IsSettled, IsInHand}
use Rattle.law_ring.specs.Effects.{received_into, settlement, taken, Takes, Makes, WritesBack, Effect}
use Rattle.law_ring.specs.Effects.Effect.{reads, passes, ends, takes, makes, writes_back}
use Rattle.law_ring.specs.Streams.{AreMembers, Grows}
use Rattle.law_ring.specs.Told.{Told, SameTold}
use Rattle.law_ring.proofs.Altered.{effect_alters}
use Rattle.law_ring.proofs.Keeping.{IsUnsettled, empty_unsettled, copied_unsettled, same_kept, taking_tells_the_same}
use Rattle.law_ring.proofs.Growing.{transaction_grows}
use Rattle.law_ring.proofs.Written.{writing_tells_the_same}
use Rattle.law_request.specs.Host.{Setup, Data, Halted, Done, is_over, host_at}
use Rattle.law_request.specs.Line.{Line as Window, line_at}
use Rattle.law_devices.specs.ring_requests.Laid.{IsPlace}
use Rattle.law_devices.specs.ring_requests.Resting.{IsAlone}
use Rattle.law_devices.specs.ring_requests.Shown.{AreFresh, Works, Ends, Shows, IsAmong}
use Rattle.law_devices.specs.ring_requests.Shown.Shows.{works}
use Rattle.law_devices.specs.ring_requests.Windows.{Sent, Queue, sent_at, Lines, stage_of, is_done, IsBehind, IsFinished, HasTail}
use Rattle.law_devices.specs.scripted_requests.Controls.{transacts_by}
use Rattle.law_devices.proofs.lemmas.ring_requests.Stages.{idle_still}
use Rattle.law_devices.proofs.lemmas.ring_requests.Taking.{fresh_there as fresh_taken, none_more, done_is, ends_only, next_waits}
use Rattle.law_devices.proofs.lemmas.ring_requests.Windows.{side_unsettled, queue_goes_on, queue_goes_next}
use Rattle.law_devices.proofs.lemmas.ring_requests.Writing.{fresh_there as fresh_back}
use Rattle.law_below_hubs.specs.HostRequests.{RequestBelow, RestsAgain}
use Rattle.law_below_hubs.specs.RequestEvents.{SparesEndpointNow}
use Rattle.law_below_hubs.specs.RequestQueues.{AreOneByOne, IsQueueBelow, QueueGoesOn, WalkKeepsQueue}
use Rattle.law_below_hubs.specs.RequestWindows.{IsControlBelow, IsWindowBelow, NextWindow}
use Rattle.law_below_hubs.specs.Splits.{IsAtHub}
use Rattle.law_below_hubs.proofs.RequestRests.{request_opens, request_rests}
use Rattle.law_below_hubs.proofs.RequestTaken.{control_taken, hub_taken, taken_works}
use Rattle.law_below_hubs.proofs.RequestWindows.{all_same, taken_window, written_window, made_window}

abbrev Fresh : Queue → ℕ → Structures → Type 0
Fresh v j part = AreFresh v.endpoint (v.requests j) (v.places j) part Setup

done_over : (l : Window) → l.host.stage ≡ Done → (l.host.stage ≡ Halted Causes.Error → ⊥)
done_over l done error = let both : Done ≡ Halted Causes.Error = sym done ∙ error in cc

module _ (member : ℕ → Bool) (v : Queue) (i place n : ℕ) (parts : StructureSets) (hand : Hand) (reply : Reply) (wire after : Wired)
    (now : StructureSets) (later : Hand) (l : Lines) (acts : List (List ℕ)) (fixed : AreOneByOne v) (members : AreMembers member parts)
    (in_hand : IsInHand member parts reply hand) (alone : IsAlone member v.endpoint parts n)
    (spares : SparesEndpointNow v.endpoint i place wire after)
    (hubs : (hub port : ℕ) → IsAtHub wire.bus.hubs hub port i place → IsAtHub after.bus.hubs hub port i place)
    (w : IsQueueBelow v i place wire l acts hand parts n) where
  abbrev Next : Type 0
  Next = QueueGoesOn v i place after l acts later now n

  abbrev under : ℕ
  under = l.under

  abbrev Before : Sent → Window → Type 0
  Before s x = IsWindowBelow s i place wire x acts hand parts n

  abbrev After : List (List ℕ) → Sent → Window → Type 0
  After acted s x = IsWindowBelow s i place after x acted later now n

  abbrev TellsOthers : Type 0
  TellsOthers = (j : ℕ) → j < v.count → j ≢ l.under → (xs : List ℕ) → Told hand parts n (v.places j).data_at xs
      → Told later now n (v.places j).data_at xs

  abbrev KeepsFresh : Type 0
  KeepsFresh = (j : ℕ) → l.under < j → j < v.count → Fresh v j (parts n) → Fresh v j (now n)

  tail_still : Alters (parts n) (now n) → HasTail v (parts n) → HasTail v (now n)
  tail_still alters tail j a one is = idle_still (parts n) (now n) a alters (tail j a one is)

  -- the same request goes on
  same_goes : KeepsFresh → TellsOthers → Alters (parts n) (now n) → NextWindow (sent_at v l.under) i place after acts later now n → Next
  same_goes fresh told alters k =
      let lines : ℕ → Window = λ j. if j == under then k.line else l.line j in
      record {
        lines = record { under = under; line = λ j. if j == under then k.line else l.line j };
        acted = acts;
        queue = queue_goes_on Before (After acts) v l hand later parts now n fresh (tail_still alters)
            (λ j. if j == under then k.line else l.line j)
            (λ j less. ap (λ (b : Bool). if b then k.line else l.line j) (other_number j under (λ is. omega (arith, less, is))))
            (subst (λ (b : Bool). IsWindowBelow (sent_at v under) i place after (if b then k.line else l.line under) acts later now n)
            (sym (eq-eqb under under refl)) k.window) told w;
        under = inl (refl, refl);
        earlier = λ j less. ap (λ (b : Bool). if b then k.line else l.line j) (other_number j under (λ is. omega (arith, less, is)));
      }

  fresh_same : now n ≡ parts n → KeepsFresh
  fresh_same same j more few = subst (Fresh v j) (sym same)

  alters : (kind : WalkStep) → Effect transacts_by parts hand wire after now later kind → Alters (parts n) (now n)
  alters kind effect = effect_alters transacts_by member parts hand reply wire after now later kind in_hand effect n

  -- ---- nothing is taken, made or written

  all_stay : (kind : WalkStep) → Effect transacts_by parts hand wire after now later kind → now ≡ parts → IsUnsettled hand
      → IsUnsettled later → after ≡ wire → Next
  all_stay kind effect same before un quiet =
      same_goes (fresh_same (ap (λ (ps : StructureSets). ps n) same))
      (λ j few differs. (same_kept hand later parts now same before un).bytes n (v.places j).data_at) (alters kind effect)
      (all_same member (sent_at v under) i place n parts hand reply wire after now later (l.line under) acts
      (fixed.requests under w.within) fixed.whole (fixed.places under w.within) members in_hand alone spares hubs w.window same before un
      quiet)

  -- ---- a qTD is taken

  module _ (k : Takes parts hand now later) (quiet : after ≡ wire) (copied : IsCopied member parts k.copy) where
    abbrev new_queue : Qh
    new_queue = advanced k.copy.queue k.element k.qtd

    effect : Effect transacts_by parts hand wire after now later steps.Advance
    effect = takes k quiet

    window_goes : (k.copy.at ≡ n → is_done (stage_of l) ≡ false) → NextWindow (sent_at v l.under) i place after acts later now n
    window_goes going =
        taken_window member (sent_at v under) i place n parts hand reply wire after now later (l.line under) acts
        (fixed.requests under w.within) fixed.whole (fixed.places under w.within) members in_hand alone spares hubs w.window k copied quiet
        going

    told : SameTold hand parts later now
    told = taking_tells_the_same parts hand now later k copied.here

    un : IsUnsettled later
    un = copied_unsettled later (taken k.copy k.element k.qtd) k.later_is

    before : IsUnsettled hand
    before = copied_unsettled hand k.copy k.in_hand

    elsewhere : n ≢ k.copy.at → Next
    elsewhere differs =
        same_goes
        (fresh_same (ap (λ (ps : StructureSets). ps n) k.now_is ∙ put_beside parts k.copy.at k.copy.at (QueueHead new_queue) n differs))
        (λ j few other. told.bytes n (v.places j).data_at) (alters steps.Advance effect)
        (window_goes (λ at. absurd (differs (sym at))))

    module _ (at : n ≡ k.copy.at) where
      here : parts n n ≡ Some (QueueHead k.copy.queue)
      here = ap (λ (j : ℕ). parts j j) at ∙ copied.here

      at_is : now n ≡ with_structure (parts n) n (QueueHead (advanced k.copy.queue k.element k.qtd))
      at_is =
          subst (λ (j : ℕ). now j ≡ with_structure (parts j) j (QueueHead new_queue)) (sym at)
          (ap (λ (ps : StructureSets). ps k.copy.at) k.now_is ∙ put_here parts k.copy.at k.copy.at (QueueHead new_queue))

      fresh_now : (j : ℕ) → Fresh v j (parts n) → Fresh v j (now n)
      fresh_now j fresh = subst (Fresh v j) (sym at_is)
          (λ s comes. fresh_taken (parts n) n k.copy.queue new_queue here v.endpoint (v.requests j) (v.places j) s (fresh s comes))

      in_stage : is_done (stage_of l) ≡ false → Next
      in_stage going =
          same_goes (λ j more few. fresh_now j) (λ j few other. told.bytes n (v.places j).data_at) (alters steps.Advance effect)
          (window_goes (λ is. going))

      -- the next request is begun
      module _ (done : is_done (stage_of l) ≡ true) where
        abbrev line_done : Window
        line_done = l.line l.under

        done_so : line_done.host.stage ≡ Done
        done_so = done_is (stage_of l) done

        queue_is : w.window.queue ≡ k.copy.queue
        queue_is = found_queue (parts n n) w.window.queue k.copy.queue w.window.head here

        control : IsControlBelow v.endpoint k.copy.queue
        control = subst (IsControlBelow v.endpoint) queue_is w.window.control

        shown : Shows v.endpoint (v.requests l.under) (v.places l.under) (parts n) (host_in k.copy.queue) k.copy.queue line_done.host
        shown =
            subst (λ (q : Qh). Shows v.endpoint (v.requests under) (v.places under) (parts n) (host_in q) q line_done.host) queue_is
            (subst (λ (s : HostSide). Shows v.endpoint (v.requests under) (v.places under) (parts n) s w.window.queue line_done.host)
            (side_unsettled hand n w.window.queue before) w.window.shown)

        ended : Ends (v.places l.under) (parts n) (host_in k.copy.queue) k.copy.queue line_done.host
        ended = ends_only v.endpoint (v.requests under) (v.places under) (parts n)
            (host_in k.copy.queue) k.copy.queue line_done.host done shown

        there : parts n k.element ≡ Some (Element k.qtd)
        there = ap (λ (j : ℕ). parts j k.element) at ∙ k.here

        more : suc l.under < v.count
        more =
            ⊎_elim {C = suc under < v.count} (λ (some : suc under < v.count). some)
            (λ (none : v.count ≤ suc under).
            let within = w.within in
            absurd (none_more (v.places under) (parts n) k.copy.queue line_done.host k.element k.qtd k.leads there k.published ended
            (λ b is. w.tail under b (omega (arith, none, within)) is))) (cases_lt (suc under) v.count)

        next : IsBehind (sent_at v (suc l.under)) hand parts n
        next = w.behind (suc under) (omega (arith)) more

        below : RequestBelow v.endpoint (v.requests l.under) i place after line_done acts
        below = subst (λ (x : Wired). RequestBelow v.endpoint (v.requests under) i place x line_done acts) (sym quiet) w.window.request

        rested : RestsAgain v.endpoint i place after
        rested =
            request_rests v.endpoint (v.requests under) i place after line_done acts (ap is_over done_so)
            (done_over line_done done_so) below

        abbrev next_line : Window
        next_line = line_at v.endpoint (v.requests (suc l.under)) k.qtd.token.ping rested.stages

        work : Works v.endpoint (v.requests (suc l.under)) (v.places (suc l.under))
            (with_structure (parts n) n (QueueHead (advanced k.copy.queue k.element k.qtd)))
            (host_in (advanced k.copy.queue k.element k.qtd))
            (advanced k.copy.queue k.element k.qtd) (host_at (v.requests (suc l.under)) v.endpoint.max k.qtd.token.ping)
        work =
            taken_works v.endpoint (v.requests (suc under)) (v.places (suc under)) (parts n) n k.copy.queue
            (host_at (v.requests
            (suc under)) v.endpoint.max line_done.host.side.ping) here control k.element k.qtd k.leads there k.published
            (next_waits v.endpoint (v.places under) (parts n) k.copy.queue line_done.host (v.requests (suc under))
            (v.places (suc under)) k.idle
            (fixed.chained under more) ended next.fresh)

        next_window : IsWindowBelow (sent_at v (suc l.under)) i place after next_line [] later now n
        next_window = record {
          queue = new_queue;
          head = ap (λ (part : Structures). part n) at_is ∙ with_here (parts n) n (QueueHead new_queue);
          control = control_taken v.endpoint k.copy.queue k.element k.qtd control;
          hub = hub_taken after i place k.copy.queue k.element k.qtd
              (hubs k.copy.queue.hub k.copy.queue.port
              (subst (λ (q : Qh). IsAtHub wire.bus.hubs q.hub q.port i place) queue_is w.window.hub));
          shown = subst (λ (s : HostSide). Shows v.endpoint (v.requests (suc under)) (v.places (suc under))
              (now n) s new_queue next_line.host)
              (sym (side_unsettled later n new_queue un))
              (subst (λ (part : Structures). Shows v.endpoint (v.requests (suc under)) (v.places (suc under)) part
              (host_in new_queue) new_queue
              next_line.host) (sym at_is) (works work));
          among = λ active. record { stage = Setup; is = work.current };
          moved = λ some. told.bytes n (v.places (suc under)).data_at [] (next.none_told some);
          request = request_opens v.endpoint (v.requests (suc under)) i place after k.qtd.token.ping rested.stages rested.rests;
        }

        finished : IsFinished (sent_at v l.under) (l.line l.under) hand parts n
        finished = record { done = done_so; moved = w.window.moved; stands = w.window.request.stands }

        next_goes : Next
        next_goes = record {
          lines = record { under = suc under; line = λ j. if j == suc under then next_line else l.line j };
          acted = [];
          queue = queue_goes_next Before (After []) v l hand later parts now n (λ j more few. fresh_now j)
              (tail_still (alters steps.Advance effect)) finished
              (λ j. if j == suc under then next_line else l.line j) more
              (λ j less. ap (λ (b : Bool). if b then next_line else l.line j) (other_number j (suc under) (λ is. omega (arith, less, is))))
              (subst (λ (b : Bool). IsWindowBelow (sent_at v (suc under)) i place after (if b then next_line else l.line (suc under))
              [] later now n)
              (sym (eq-eqb (suc under) (suc under) refl)) next_window)
              (λ j. told.bytes n (v.places j).data_at) w;
          under = inr (refl, refl);
          earlier = λ j less. ap (λ (b : Bool). if b then next_line else l.line j) (other_number j (suc under)
              (λ is. omega (arith, less, is)));
        }

      by_stage : (b : Bool) → is_done (stage_of l) ≡ b → Next
      by_stage true done = next_goes done
      by_stage false going = in_stage going

    pub taken_goes : Next
    taken_goes = ⊎_elim {C = Next} (λ (at : n ≡ k.copy.at). by_stage at (is_done (stage_of l)) refl) elsewhere (cases_eq n k.copy.at)

  -- ---- a transaction is written back

  module _ (k : WritesBack parts hand now later) (quiet : after ≡ wire) (copied : IsCopied member parts k.copy)
      (settled : IsSettled k.copy.queue reply k.settled) where
    told_back : SameTold hand parts later now
    told_back = writing_tells_the_same member parts hand now later k reply copied settled (members k.copy.at copied.on).own

    window_back : NextWindow (sent_at v l.under) i place after acts later now n
    window_back =
        written_window member (sent_at v under) i place n parts hand reply wire after now later (l.line under) acts
        (fixed.requests under w.within) fixed.whole
        (fixed.places under w.within) members in_hand alone spares hubs w.window k copied settled
        quiet (λ j. effect_alters transacts_by member parts hand reply wire after now later steps.WriteBack in_hand (writes_back k quiet) j)

    back_elsewhere : k.copy.at ≢ n → Next
    back_elsewhere differs =
        same_goes
        (fresh_same (ap (λ (ps : StructureSets). ps n) k.now_is
        ∙ back_beside parts k.copy.at k.copy.at k.copy.queue (settled_queue_of k.copy k.settled) _ k.settled.got
        (received_into (parts k.copy.at) k.copy.queue k.element k.settled.got) k.element n (λ is. differs (sym is))))
        (λ j few other. told_back.bytes n (v.places j).data_at)
        (effect_alters transacts_by member parts hand reply wire after now later steps.WriteBack in_hand
        (writes_back k quiet) n) window_back

    module _ (at : k.copy.at ≡ n) where
      queue_back : w.window.queue ≡ k.copy.queue
      queue_back = found_queue (parts n n) w.window.queue k.copy.queue w.window.head (ap (λ (j : ℕ). parts j j) (sym at) ∙ copied.here)

      place_back : IsPlace (v.places l.under) k.copy.queue.current
      place_back = subst (IsAmong (v.places under)) queue_back w.window.among settled.works

      fresh_written : KeepsFresh
      fresh_written j more few =
          subst (λ (m : ℕ). Fresh v j (parts m) → Fresh v j (now m)) at
          (λ fresh s comes. fresh_back v.endpoint (v.requests j) (v.places j)
          (fixed.places j few) member parts hand now later k reply copied
          settled (members k.copy.at copied.on).own
          (effect_alters transacts_by member parts hand reply wire after now later steps.WriteBack in_hand (writes_back k quiet) k.copy.at)
          (l.line under).host s
          (λ here. fixed.others j under few w.within (λ is. omega (arith, more, is)) s place_back.stage (here ∙ place_back.is))
          (fresh s comes))

      back_here : Next
      back_here =
          same_goes fresh_written (λ j few other. told_back.bytes n (v.places j).data_at)
          (effect_alters transacts_by member parts hand reply wire after now later steps.WriteBack in_hand
          (writes_back k quiet) n) window_back

    pub written_goes : Next
    written_goes = ⊎_elim {C = Next} back_here back_elsewhere (cases_eq k.copy.at n)

  -- ---- a transaction is made

  module _ (m : Makes transacts_by parts hand wire after later) (same : now ≡ parts) (copied : IsCopied member parts m.copy) where
    grows : Grows hand parts later m.copy (settlement m.copy.queue m.out m.reply) m.sent.element
    grows = transaction_grows transacts_by member parts hand wire after later m (members m.copy.at copied.on) copied.here

    unmade : IsUnsettled hand
    unmade = copied_unsettled hand m.copy m.in_hand

    not_current : (j : ℕ) → j < v.count → j ≢ l.under → n ≡ m.copy.at → (v.places j).data_at ≡ m.copy.queue.current → ⊥
    not_current j few other at same_place =
        let queue_is : w.window.queue ≡ m.copy.queue =
        found_queue (parts n n) w.window.queue m.copy.queue w.window.head (ap (λ (k : ℕ). parts k k) at ∙ copied.here) in
        let place : IsPlace (v.places under) m.copy.queue.current = subst (IsAmong (v.places under)) queue_is w.window.among m.works in
        fixed.others j under few w.within other Data place.stage (same_place ∙ place.is)

    made_goes : Next
    made_goes =
        same_goes (fresh_same (ap (λ (ps : StructureSets). ps n) same))
        (λ j few other xs told. subst (λ (ps : StructureSets). Told later ps n (v.places j).data_at xs) (sym same)
        (grows.other_bytes n (v.places j).data_at xs (λ both. not_current j few other both.0 both.1) told))
        (alters steps.Transact (makes m same))
        (made_window member (sent_at v under) i place n parts hand reply wire after now later (l.line under) acts
        (fixed.requests under w.within) fixed.whole (fixed.places under w.within) members in_hand alone spares hubs w.window m same copied)

  -- ---- each event

  queue_goes : (kind : WalkStep) → Effect transacts_by parts hand wire after now later kind → Next
  queue_goes kind (reads k same quiet) =
      all_stay kind (reads k same quiet) same (empty_unsettled hand k.nothing) (copied_unsettled later k.copy k.in_hand) quiet
  queue_goes kind (passes k same quiet) = all_stay kind (passes k same quiet) same k.unsettled (empty_unsettled later k.nothing) quiet
  queue_goes kind (ends k same quiet) = all_stay kind (ends k same quiet) same k.unsettled (empty_unsettled later k.nothing) quiet
  queue_goes kind (takes k quiet) = taken_goes k quiet (subst (IsInHand member parts reply) k.in_hand in_hand)
  queue_goes kind (makes m same) = made_goes m same (subst (IsInHand member parts reply) m.in_hand in_hand)
  queue_goes kind (writes_back k quiet) =
      let both : IsCopied member parts k.copy × IsSettled k.copy.queue reply k.settled =
      subst (IsInHand member parts reply) k.in_hand in_hand in
      written_goes k quiet both.0 both.1

pub walk_keeps_queue : WalkKeepsQueue
walk_keeps_queue member v i place n parts hand reply wire after now later kind l acts fixed members in_hand alone spares hubs effect w =
    queue_goes member v i place n parts hand reply wire after now later l acts fixed members in_hand alone spares hubs w kind effect
