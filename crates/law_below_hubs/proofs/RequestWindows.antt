-- Each event of the walk keeps the window of a request below a hub.
use Rattle.std.proofs.Common.{◌≡◌, ◌≢◌, ◌≤◌, ℕ, ◌-◌, Bool, false, if◌then◌else◌, List, ◌++◌, drop}
use Rattle.std.proofs.Common.{Some, ap, refl, sym, subst, ◌∙◌, ⊎_elim}
use Rattle.std.proofs.lemmas.Bool.{cases_eq, eq-eqb, false≢true}
use Rattle.usb_base.specs.declared.packets.Reply.{Reply}
use Rattle.qh_qtd.specs.declared.qtd.Qtd.{Qtd}
use Rattle.qh_qtd.specs.declared.queue_head.Qh.{Qh}
use Rattle.toggle_error.specs.declared.host.HostSide.{HostSide}
use Rattle.hc_copy.specs.Overlay.{advanced, buffer_place}
use Rattle.hc_copy.specs.Planning.{pid_at, host_in}
use Rattle.hc_copy.specs.Transacting.{call_in}
use Rattle.async_walk.specs.declared.state.WalkStep.{WalkStep}
use Rattle.async_walk.specs.Naks.{planned, kind_at}
use Rattle.bus_wire.specs.Bus.{Wired}
use Rattle.law_structures.specs.lent_structures.Settles.{Settles}
use Rattle.law_structures.specs.lent_structures.Sound.{IsWorking, IsSoundQueue, IsMember}
use Rattle.law_structures.specs.lent_structures.Structures.{QueueHead, Element, Structures, StructureSets, with_structure}
use Rattle.law_structures.specs.lent_structures.Alters.{Alters}
use Rattle.law_structures.proofs.lemmas.lent_structures.Altering.{found_queue, found_element}
use Rattle.law_structures.proofs.lemmas.lent_structures.Found.{back_beside}
use Rattle.law_structures.proofs.lemmas.lent_structures.Names.{put_here, put_beside, with_here}
use Rattle.law_structures.proofs.lemmas.lent_structures.Settling.{a_transaction_settles}
use Rattle.law_ring.specs.Hand.{Copy, Settlement, settled_queue_of, Hand, Settled}
use Rattle.law_ring.specs.Ring.{IsCopied, IsSettled, IsInHand}
use Rattle.law_ring.specs.Effects.{buffer_of, received_into, settlement, counted, taken, Takes, Makes, WritesBack, Effect}
use Rattle.law_ring.specs.Effects.Effect.{reads, passes, ends, takes, makes, writes_back}
use Rattle.law_ring.specs.Streams.{AreMembers, Grows}
use Rattle.law_ring.specs.Told.{Told, SameTold, endpoint_of}
use Rattle.law_ring.proofs.Altered.{effect_alters}
use Rattle.law_ring.proofs.Keeping.{IsUnsettled, empty_unsettled, copied_unsettled, same_kept, taking_tells_the_same}
use Rattle.law_ring.proofs.Growing.{transaction_grows}
use Rattle.law_ring.proofs.Writing.{queue_written}
use Rattle.law_ring.proofs.Written.{writing_tells_the_same}
use Rattle.law_request.specs.Host.{Host, Stage, Setup, Data, Status, Done, Halted, is_over, side_at, settled_by}
use Rattle.law_request.specs.Line.{Line as Window}
use Rattle.law_request.specs.Standing.{sight_of}
use Rattle.law_request.specs.Windows.{IsRequest}
use Rattle.law_devices.specs.request_calls.Stages.{AreGiven, moved_of}
use Rattle.law_devices.specs.ring_requests.Laid.{place_at, AreApart, HasBytes}
use Rattle.law_devices.specs.ring_requests.Resting.{IsOtherEndpoint, IsAlone}
use Rattle.law_devices.specs.ring_requests.Shown.{hand_side, IsPending, Works, Waits, Shows, IsAmong}
use Rattle.law_devices.specs.ring_requests.Shown.Shows.{works}
use Rattle.law_devices.specs.ring_requests.Windows.{Sent, is_done}
use Rattle.law_devices.specs.scripted_requests.Controls.{transacts_by}
use Rattle.law_devices.proofs.lemmas.ring_requests.Given.{sized, IsSized, stage_given}
use Rattle.law_devices.proofs.lemmas.ring_requests.Moving.{shows_after, moved_in_data, moved_beside}
use Rattle.law_devices.proofs.lemmas.ring_requests.Outcomes.{moved_none}
use Rattle.law_devices.proofs.lemmas.ring_requests.Windows.{side_unsettled, side_beside}
use Rattle.law_devices.proofs.lemmas.ring_requests.Writing.{head_now, host_now, back_shows, among_back}
use Rattle.law_below_hubs.specs.HostRequests.{RequestBelow, IsWorkingBelow}
use Rattle.law_below_hubs.specs.HostRequests.{RequestGoesOnBy}
use Rattle.law_below_hubs.specs.RequestEvents.{SparesEndpointNow}
use Rattle.law_below_hubs.specs.RequestWindows.{IsControlBelow, IsWindowBelow, NextWindow, WalkKeepsWindow}
use Rattle.law_below_hubs.specs.Splits.{IsAtHub}
use Rattle.law_below_hubs.proofs.HostRequests.{own_request_goes_on}
use Rattle.law_below_hubs.proofs.RequestBeside.{others_leave_request}
use Rattle.law_below_hubs.proofs.RequestTaken.{
  call_leaves,
  works_only,
  control_taken,
  hub_taken,
  control_back,
  hub_back,
  begun_same,
  taken_works,
  waits_only,
}

-- the side that a transaction left, which isn't written back
side_here : (hand : Hand) (c : Copy) (z : Settlement) (q : Qh) → hand ≡ Settled c z → hand_side hand c.at q ≡ z.host
side_here hand c z q is =
    ap (λ (h : Hand). hand_side h c.at q) is ∙ ap (λ (b : Bool). if b then z.host else host_in q) (eq-eqb c.at c.at refl)

-- ---- a window

module _ (member : ℕ → Bool) (v : Sent) (i place n : ℕ) (parts : StructureSets) (hand : Hand) (reply : Reply) (wire after : Wired)
    (now : StructureSets) (later : Hand) (l : Window) (acts : List (List ℕ)) (request : IsRequest v.request) (whole : 8 ≤ v.endpoint.max)
    (apart : AreApart v.places) (members : AreMembers member parts) (in_hand : IsInHand member parts reply hand)
    (alone : IsAlone member v.endpoint parts n) (spares : SparesEndpointNow v.endpoint i place wire after)
    (hubs : (hub port : ℕ) → IsAtHub wire.bus.hubs hub port i place → IsAtHub after.bus.hubs hub port i place)
    (o : IsWindowBelow v i place wire l acts hand parts n) where
  abbrev Next : Type 0
  Next = NextWindow v i place after acts later now n

  -- its structures are as they were
  goes : now n ≡ parts n → ((q : Qh) → hand_side later n q ≡ hand_side hand n q)
      → ((xs : List ℕ) → Told hand parts n v.places.data_at xs → Told later now n v.places.data_at xs)
      → RequestBelow v.endpoint v.request i place after l acts → Next
  goes same sides told below = record {
    line = l;
    window = record {
      queue = o.queue;
      head = ap (λ (part : Structures). part n) same ∙ o.head;
      control = o.control;
      hub = hubs o.queue.hub o.queue.port o.hub;
      shown = subst (λ (part : Structures). Shows v.endpoint v.request v.places part (hand_side later n o.queue) o.queue l.host) (sym same)
          (subst (λ (s : HostSide). Shows v.endpoint v.request v.places (parts n) s o.queue l.host) (sym (sides o.queue)) o.shown);
      among = o.among;
      moved = λ some. told l.host.moved (o.moved some);
      request = below;
    };
  }

  quiet_below : after ≡ wire → RequestBelow v.endpoint v.request i place after l acts
  quiet_below quiet = subst (λ (w : Wired). RequestBelow v.endpoint v.request i place w l acts) (sym quiet) o.request

  -- the structures stay, and neither hand has a transaction
  pub all_same : now ≡ parts → IsUnsettled hand → IsUnsettled later → after ≡ wire → Next
  all_same same before un quiet =
      goes (ap (λ (ps : StructureSets). ps n) same) (λ q. side_unsettled later n q un ∙ sym (side_unsettled hand n q before))
      ((same_kept hand later parts now same before un).bytes n v.places.data_at) (quiet_below quiet)

  -- ---- a qTD is taken

  module _ (k : Takes parts hand now later) (copied : IsCopied member parts k.copy) (quiet : after ≡ wire)
      (going : k.copy.at ≡ n → is_done l.host.stage ≡ false) where
    abbrev new_queue : Qh
    new_queue = advanced k.copy.queue k.element k.qtd

    before : IsUnsettled hand
    before = copied_unsettled hand k.copy k.in_hand

    un : IsUnsettled later
    un = copied_unsettled later (taken k.copy k.element k.qtd) k.later_is

    told : SameTold hand parts later now
    told = taking_tells_the_same parts hand now later k copied.here

    taken_elsewhere : n ≢ k.copy.at → Next
    taken_elsewhere differs =
        goes (ap (λ (ps : StructureSets). ps n) k.now_is ∙ put_beside parts k.copy.at k.copy.at (QueueHead new_queue) n differs)
        (λ q. side_unsettled later n q un ∙ sym (side_unsettled hand n q before)) (told.bytes n v.places.data_at) (quiet_below quiet)

    module _ (at : n ≡ k.copy.at) where
      here : parts n n ≡ Some (QueueHead k.copy.queue)
      here = ap (λ (j : ℕ). parts j j) at ∙ copied.here

      queue_is : o.queue ≡ k.copy.queue
      queue_is = found_queue (parts n n) o.queue k.copy.queue o.head here

      control : IsControlBelow v.endpoint k.copy.queue
      control = subst (IsControlBelow v.endpoint) queue_is o.control

      shown : Shows v.endpoint v.request v.places (parts n) (host_in k.copy.queue) k.copy.queue l.host
      shown =
          subst (λ (q : Qh). Shows v.endpoint v.request v.places (parts n) (host_in q) q l.host) queue_is
          (subst (λ (s : HostSide). Shows v.endpoint v.request v.places (parts n) s o.queue l.host) (side_unsettled hand n o.queue before)
          o.shown)

      waiting : Waits v.endpoint v.request v.places (parts n) (host_in k.copy.queue) k.copy.queue l.host
      waiting = waits_only v.endpoint v.request v.places (parts n) k.copy.queue l.host k.idle k.goes_on (going (sym at)) shown

      there : parts n k.element ≡ Some (Element k.qtd)
      there = ap (λ (j : ℕ). parts j k.element) at ∙ k.here

      at_is : now n ≡ with_structure (parts n) n (QueueHead (advanced k.copy.queue k.element k.qtd))
      at_is =
          subst (λ (j : ℕ). now j ≡ with_structure (parts j) j (QueueHead new_queue)) (sym at)
          (ap (λ (ps : StructureSets). ps k.copy.at) k.now_is ∙ put_here parts k.copy.at k.copy.at (QueueHead new_queue))

      work : Works v.endpoint v.request v.places (with_structure (parts n) n (QueueHead (advanced k.copy.queue k.element k.qtd)))
          (host_in (advanced k.copy.queue k.element k.qtd)) (advanced k.copy.queue k.element k.qtd)
          (record l.host { side = side_at v.request v.endpoint.max k.qtd.token.ping l.host.stage })
      work = taken_works v.endpoint v.request v.places
          (parts n) n k.copy.queue l.host here control k.element k.qtd k.leads there k.published
          waiting

      taken_here : Next
      taken_here = record {
        line = record l { host = record l.host { side = side_at v.request v.endpoint.max k.qtd.token.ping l.host.stage } };
        window = record {
          queue = new_queue;
          head = ap (λ (part : Structures). part n) at_is ∙ with_here (parts n) n (QueueHead new_queue);
          control = control_taken v.endpoint k.copy.queue k.element k.qtd control;
          hub = hub_taken after i place k.copy.queue k.element k.qtd
              (hubs k.copy.queue.hub k.copy.queue.port (subst (λ (q : Qh). IsAtHub wire.bus.hubs q.hub q.port i place) queue_is o.hub));
          shown = subst (λ (s : HostSide). Shows v.endpoint v.request v.places (now n) s new_queue
              (record l.host { side = side_at v.request v.endpoint.max k.qtd.token.ping l.host.stage }))
              (sym (side_unsettled later n new_queue un))
              (subst (λ (part : Structures). Shows v.endpoint v.request v.places part (host_in new_queue) new_queue
              (record l.host { side = side_at v.request v.endpoint.max k.qtd.token.ping l.host.stage })) (sym at_is) (works work));
          among = λ active. record { stage = l.host.stage; is = work.current };
          moved = λ some. told.bytes n v.places.data_at l.host.moved (o.moved some);
          request = begun_same v.endpoint v.request i place after l acts k.copy.queue.token.ping k.qtd.token.ping waiting.side_is
              (quiet_below quiet);
        };
      }

    pub taken_window : Next
    taken_window = ⊎_elim {C = Next} taken_here taken_elsewhere (cases_eq n k.copy.at)

  -- ---- a transaction is written back

  module _ (k : WritesBack parts hand now later) (copied : IsCopied member parts k.copy) (settled : IsSettled k.copy.queue reply k.settled)
      (quiet : after ≡ wire) (alters : (j : ℕ) → Alters (parts j) (now j)) where
    abbrev written : Qh
    written = queue_written k.copy k.settled

    no_hand : IsUnsettled later
    no_hand = empty_unsettled later k.nothing

    told_back : SameTold hand parts later now
    told_back = writing_tells_the_same member parts hand now later k reply copied settled (members k.copy.at copied.on).own

    written_elsewhere : n ≢ k.copy.at → Next
    written_elsewhere differs =
        goes (ap (λ (ps : StructureSets). ps n) k.now_is
        ∙ back_beside parts k.copy.at k.copy.at k.copy.queue (settled_queue_of k.copy k.settled) _ k.settled.got
        (received_into (parts k.copy.at) k.copy.queue k.element k.settled.got) k.element n differs)
        (λ q. side_unsettled later n q no_hand ∙ sym (side_beside hand k.copy k.settled n q k.in_hand (λ is. differs (sym is))))
        (told_back.bytes n v.places.data_at) (quiet_below quiet)

    module _ (at : k.copy.at ≡ n) where
      queue_written_is : o.queue ≡ k.copy.queue
      queue_written_is = found_queue (parts n n) o.queue k.copy.queue o.head (ap (λ (j : ℕ). parts j j) (sym at) ∙ copied.here)

      shown_back : Shows v.endpoint v.request v.places (parts k.copy.at) k.settled.host k.copy.queue l.host
      shown_back =
          subst (λ (j : ℕ). Shows v.endpoint v.request v.places (parts j) k.settled.host k.copy.queue l.host) (sym at)
          (subst (λ (q : Qh). Shows v.endpoint v.request v.places (parts n) k.settled.host q l.host) queue_written_is
          (subst (λ (s : HostSide). Shows v.endpoint v.request v.places (parts n) s o.queue l.host)
          (subst (λ (j : ℕ). hand_side hand j o.queue ≡ k.settled.host) at (side_here hand k.copy k.settled o.queue k.in_hand)) o.shown))

      shows_written : Shows v.endpoint v.request v.places (now k.copy.at) k.settled.host (queue_written k.copy k.settled) l.host
      shows_written =
          back_shows v.endpoint v.request v.places apart member parts hand now later k reply copied settled
          (members k.copy.at copied.on).own
          (alters k.copy.at) l.host shown_back

      written_here : Next
      written_here = record {
        line = l;
        window = record {
          queue = written;
          head = subst (λ (j : ℕ). now j j ≡ Some (QueueHead written)) at
              (head_now v.endpoint v.request v.places apart member parts hand now later k reply copied settled
              (members k.copy.at copied.on).own (alters k.copy.at) l.host);
          control = control_back v.endpoint k.copy k.settled (subst (IsControlBelow v.endpoint) queue_written_is o.control);
          hub = hub_back after i place k.copy k.settled
              (hubs k.copy.queue.hub k.copy.queue.port
              (subst (λ (q : Qh). IsAtHub wire.bus.hubs q.hub q.port i place) queue_written_is o.hub));
          shown = subst (λ (s : HostSide). Shows v.endpoint v.request v.places (now n) s written l.host)
              (sym (side_unsettled later n written no_hand
              ∙ host_now v.endpoint v.request v.places apart member parts hand now later k reply copied settled
              (members k.copy.at copied.on).own (alters k.copy.at) l.host))
              (subst (λ (j : ℕ). Shows v.endpoint v.request v.places (now j) k.settled.host written l.host) at shows_written);
          among = among_back v.endpoint v.request v.places apart member parts hand now later k reply copied settled
              (members k.copy.at copied.on).own (alters k.copy.at) l.host (subst (IsAmong v.places) queue_written_is o.among);
          moved = λ some. told_back.bytes n v.places.data_at l.host.moved (o.moved some);
          request = quiet_below quiet;
        };
      }

    pub written_window : Next
    written_window = ⊎_elim {C = Next} written_here (λ (other : k.copy.at ≢ n). written_elsewhere (λ is. other (sym is)))
        (cases_eq k.copy.at n)

  -- ---- a transaction is made

  module _ (m : Makes transacts_by parts hand wire after later) (same : now ≡ parts) (copied : IsCopied member parts m.copy) where
    abbrev made : Settlement
    made = settlement m.copy.queue m.out m.reply

    grows : Grows hand parts later m.copy (settlement m.copy.queue m.out m.reply) m.sent.element
    grows = transaction_grows transacts_by member parts hand wire after later m (members m.copy.at copied.on) copied.here

    unmade : IsUnsettled hand
    unmade = copied_unsettled hand m.copy m.in_hand

    made_elsewhere : m.copy.at ≢ n → Next
    made_elsewhere differs =
        let other : IsOtherEndpoint v.endpoint parts m.copy.at = alone m.copy.at copied.on differs in
        let own_is : other.own ≡ endpoint_of m.copy.queue =
        other.has.is ∙ ap endpoint_of (found_queue (parts m.copy.at m.copy.at) other.has.queue m.copy.queue other.has.head copied.here) in
        goes (ap (λ (ps : StructureSets). ps n) same)
        (λ q. side_beside later (counted m.copy m.out m.reply) made n q m.later_is differs ∙ sym (side_unsettled hand n q unmade))
        (λ xs told. subst (λ (ps : StructureSets). Told later ps n v.places.data_at xs) (sym same)
        (grows.other_bytes n v.places.data_at xs (λ both. differs (sym both.0)) told))
        (others_leave_request v.endpoint v.request i place wire (call_in (planned m.copy.queue) m.out false).ask
        (call_in (planned m.copy.queue) m.out false).out m.reply after l acts request
        (λ addr ep. other.other (sym addr ∙ sym (ap (λ x. x.addr) own_is)) (sym ep ∙ sym (ap (λ x. x.ep) own_is)))
        (spares _ _ m.reply m.made) m.made o.request)

    module _ (at : m.copy.at ≡ n) where
      abbrev q : Qh
      q = m.copy.queue

      abbrev part : Structures
      part = parts m.copy.at

      abbrev source : List ℕ
      source = drop (buffer_place m.copy.queue - m.sent.element.offset) (buffer_of (parts m.copy.at) m.sent.element)

      queue_made : o.queue ≡ m.copy.queue
      queue_made = found_queue (parts n n) o.queue m.copy.queue o.head (ap (λ (j : ℕ). parts j j) (sym at) ∙ copied.here)

      control_made : IsControlBelow v.endpoint m.copy.queue
      control_made = subst (IsControlBelow v.endpoint) queue_made o.control

      shown_made : Shows v.endpoint v.request v.places (parts m.copy.at) (host_in m.copy.queue) m.copy.queue l.host
      shown_made =
          subst (λ (j : ℕ). Shows v.endpoint v.request v.places (parts j) (host_in q) q l.host) (sym at)
          (subst (λ (z : Qh). Shows v.endpoint v.request v.places (parts n) (host_in z) z l.host) queue_made
          (subst (λ (s : HostSide). Shows v.endpoint v.request v.places (parts n) s o.queue l.host) (side_unsettled hand n o.queue unmade)
          o.shown))

      work_made : Works v.endpoint v.request v.places (parts m.copy.at) (host_in m.copy.queue) m.copy.queue l.host
      work_made = works_only v.endpoint v.request v.places part (host_in q) q l.host m.works shown_made

      working : IsWorkingBelow v.endpoint v.request m.copy.queue l.host
      working = record {
        below = control_made.below;
        toggles = control_made.toggles;
        address = control_made.address;
        number = control_made.number;
        goes_on = work_made.goes_on;
        pid = ap pid_at work_made.pid ∙ work_made.stage.pid;
        side = work_made.side_is;
      }

      on_queue : IsMember member m.copy.at (parts m.copy.at)
      on_queue = members m.copy.at copied.on

      sound : IsSoundQueue (parts m.copy.at) m.copy.queue
      sound = subst (IsSoundQueue part) (found_queue (part m.copy.at) on_queue.queue q on_queue.here copied.here) on_queue.sound

      published : IsPending (parts m.copy.at) m.copy.queue.current
      published =
          let w : IsWorking part q = sound.work m.works in
          record { qtd = w.element; here = w.here; published = w.published }

      size : IsSized m.copy.queue m.sent.element (buffer_of (parts m.copy.at) m.sent.element)
      size =
          let w : IsWorking part q = sound.work m.works in
          subst (λ (t : Qtd). IsSized q t (buffer_of part t)) (found_element (part q.current) w.element m.sent.element w.here m.sent.here)
          (sized part q w ((on_queue.elements q.current w.element w.here).work w.published))

      element : m.sent.element ≡ work_made.stage.qtd
      element = found_element (part q.current) m.sent.element work_made.stage.qtd m.sent.here
          (ap part work_made.current ∙ work_made.stage.here)

      given : AreGiven v.request m.copy.queue l.host source m.out
      given = record {
        are = m.sent.are;
        stage = stage_given v.endpoint v.request q part m.sent.element l.host.side l.host.moved (sight_of l) refl refl
            (ap (λ (s : HostSide). s.left) work_made.side_is) request whole o.request.stands.host_max size l.host.stage work_made.goes_on
            working.pid o.request.stands.stage
            (subst (λ (t : Qtd). HasBytes v.request part l.host.stage t) (sym element) work_made.stage.bytes);
      }

      goes_by : RequestGoesOnBy v.endpoint v.request m.copy.queue source m.out m.reply i place after l acts
      goes_by =
          own_request_goes_on v.endpoint v.request q source m.out m.reply i place wire after l acts request whole working given
          (subst (λ (z : Qh). IsAtHub wire.bus.hubs z.hub z.port i place) queue_made o.hub) m.made o.request

      abbrev left_by : Host
      left_by = settled_by v.request made.outcome made.host (moved_of m.copy.queue made.outcome m.reply source) l.host

      shows_made : Shows v.endpoint v.request v.places (parts m.copy.at) made.host m.copy.queue left_by
      shows_made =
          let s : Settles (kind_at q.dtc) q m.out false m.reply = a_transaction_settles (kind_at q.dtc) q m.out false m.reply m.sent.all in
          shows_after v.endpoint v.request v.places apart part q l.host work_made made.host
          (s.host.packets ∙ control_made.packets) published
          made.outcome (moved_of q made.outcome m.reply source) (call_leaves q m.out m.reply)

      told_at : (s : Stage) → l.host.stage ≡ s → Told hand parts m.copy.at v.places.data_at l.host.moved
          → Told later parts m.copy.at v.places.data_at left_by.moved
      told_at Data is told =
          let here : q.current ≡ v.places.data_at = work_made.current ∙ ap (place_at v.places) is in
          subst (λ (xs : List ℕ). Told later parts m.copy.at v.places.data_at xs)
          (sym (moved_in_data v.request made.outcome made.host (moved_of q made.outcome m.reply source) l.host is
          (λ off. moved_none q made.outcome m.reply source off)))
          (subst (λ (a : ℕ). Told later parts m.copy.at a (l.host.moved ++ moved_of q made.outcome m.reply source)) here
          (grows.bytes l.host.moved (subst (λ (a : ℕ). Told hand parts m.copy.at a l.host.moved) (sym here) told)))
      told_at Setup is told =
          subst (λ (xs : List ℕ). Told later parts m.copy.at v.places.data_at xs)
          (sym (moved_beside v.request made.outcome made.host (moved_of q made.outcome m.reply source) l.host (λ e. by (sym is ∙ e))))
          (grows.other_bytes m.copy.at v.places.data_at l.host.moved
          (λ both. apart.setup_data (sym (both.1 ∙ work_made.current ∙ ap (place_at v.places) is))) told)
        where
          by : Setup ≡ Data → ⊥
          by e = cc
      told_at Status is told =
          subst (λ (xs : List ℕ). Told later parts m.copy.at v.places.data_at xs)
          (sym (moved_beside v.request made.outcome made.host (moved_of q made.outcome m.reply source) l.host (λ e. by (sym is ∙ e))))
          (grows.other_bytes m.copy.at v.places.data_at l.host.moved
          (λ both. apart.data_status (both.1 ∙ work_made.current ∙ ap (place_at v.places) is)) told)
        where
          by : Status ≡ Data → ⊥
          by e = cc
      told_at Done is told = absurd (false≢true (sym work_made.goes_on ∙ ap is_over is))
      told_at (Halted cause) is told = absurd (false≢true (sym work_made.goes_on ∙ ap is_over is))

      made_here : Next
      made_here = record {
        line = goes_by.line;
        window = record {
          queue = q;
          head = ap (λ (ps : StructureSets). ps n n) same ∙ ap (λ (j : ℕ). parts j j) (sym at) ∙ copied.here;
          control = control_made;
          hub = hubs q.hub q.port (subst (λ (z : Qh). IsAtHub wire.bus.hubs z.hub z.port i place) queue_made o.hub);
          shown = subst (λ (ps : StructureSets). Shows v.endpoint v.request v.places (ps n) (hand_side later n q) q goes_by.line.host)
              (sym same)
              (subst (λ (j : ℕ). Shows v.endpoint v.request v.places (parts j) (hand_side later j q) q goes_by.line.host) at
              (subst (λ (s : HostSide). Shows v.endpoint v.request v.places part s q goes_by.line.host)
              (sym (side_here later (counted m.copy m.out m.reply) made q m.later_is))
              (subst (λ (h : Host). Shows v.endpoint v.request v.places part made.host q h) (sym goes_by.host) shows_made)));
          among = subst (IsAmong v.places) queue_made o.among;
          moved = λ some.
              subst (λ (ps : StructureSets). Told later ps n v.places.data_at goes_by.line.host.moved) (sym same)
              (subst (λ (j : ℕ). Told later parts j v.places.data_at goes_by.line.host.moved) at
              (subst (λ (h : Host). Told later parts m.copy.at v.places.data_at h.moved) (sym goes_by.host)
              (told_at l.host.stage refl
              (subst (λ (j : ℕ). Told hand parts j v.places.data_at l.host.moved) (sym at) (o.moved some)))));
          request = goes_by.stands;
        };
      }

    pub made_window : Next
    made_window = ⊎_elim {C = Next} made_here made_elsewhere (cases_eq m.copy.at n)

  -- ---- each event

  pub walk_keeps : (kind : WalkStep) → Effect transacts_by parts hand wire after now later kind
      → ((k : Takes parts hand now later) → k.copy.at ≡ n → is_done l.host.stage ≡ false) → Next
  walk_keeps kind (reads k same quiet) going =
      all_same same (empty_unsettled hand k.nothing) (copied_unsettled later k.copy k.in_hand) quiet
  walk_keeps kind (passes k same quiet) going = all_same same k.unsettled (empty_unsettled later k.nothing) quiet
  walk_keeps kind (ends k same quiet) going = all_same same k.unsettled (empty_unsettled later k.nothing) quiet
  walk_keeps kind (takes k quiet) going =
      taken_window k (subst (IsInHand member parts reply) k.in_hand in_hand) quiet (going k)
  walk_keeps kind (makes m same) going = made_window m same (subst (IsInHand member parts reply) m.in_hand in_hand)
  walk_keeps kind (writes_back k quiet) going =
      let both : IsCopied member parts k.copy × IsSettled k.copy.queue reply k.settled = subst
      (IsInHand member parts reply) k.in_hand in_hand in
      written_window k both.0 both.1 quiet
      (λ j. effect_alters transacts_by member parts hand reply wire after now later kind in_hand (writes_back k quiet) j)

pub walk_keeps_window : WalkKeepsWindow
walk_keeps_window member v i place n parts hand reply wire after now later kind l acts request whole apart members in_hand alone spares hubs
    effect going o =
    walk_keeps member v i place n parts hand reply wire after now later l acts request whole apart members in_hand alone spares hubs o kind
    effect going
