-- Each event of the controller leaves the OUT endpoints with a stream below hubs as they must stand, with what was put to them.
use Rattle.std.proofs.Common.{◌≡◌, ℕ, ◌*◌, Bool, true, false, List, [], ◌++◌, slice_get, Option, Some, None, ap, refl, sym, subst, ◌∙◌}
use Rattle.std.proofs.Common.{⊎_elim}
use Rattle.std.specs.Prelude.{◌&&◌, not}
use Rattle.std.specs.List.{concat}
use Rattle.std.proofs.lemmas.Bool.{and_parts, true≢false, false≢true}
use Rattle.std.proofs.lemmas.List.{append-nil}
use Rattle.std.proofs.lemmas.Option.{same_Some}
use Rattle.law_reports.proofs.Common.{no_iso}
use Rattle.usb_base.specs.declared.endpoints.EpDesc.{EpDesc}
use Rattle.usb_base.specs.declared.packets.EpKind.{EpKind}
use Rattle.usb_base.specs.declared.packets.EpKind.TheVariants as kinds
use Rattle.usb_base.specs.declared.packets.Way.{Way}
use Rattle.usb_base.specs.declared.packets.Way.TheVariants as ways
use Rattle.qh_qtd.specs.declared.queue_head.Qh.{Qh}
use Rattle.bus_wire.specs.Bus.{Fixed, Wired}
use Rattle.claims_base.specs.Controller.{opening_base}
use Rattle.claims_base.specs.Prefix.{IsPrefix}
use Rattle.claims_driver.specs.Scripts.{receives}
use Rattle.claims_report.specs.Streams.{told_in, has_stream}
use Rattle.claims_world.specs.BelowStreams.{is_out_below}
use Rattle.drv_table.specs.declared.content.Endpoint.{Endpoint}
use Rattle.drv_table.specs.Kinds.{is_iso}
use Rattle.drv_table.specs.Words.{is_high}
use Rattle.law_driver.specs.queued_drivers.Queued.{queued_endpoint, queued}
use Rattle.law_driver_ring.specs.fed_queues.Places.{IsMet}
use Rattle.law_structures.specs.lent_structures.Structures.{Structures}
use Rattle.law_structures.proofs.lemmas.lent_structures.Altering.{found_queue}
use Rattle.law_ring.specs.OutBus.{Taker}
use Rattle.law_ring.specs.OutPipes.{IsOutPipe}
use Rattle.law_ring.specs.QueueParts.{IsQueuePart}
use Rattle.law_ring.specs.Told.{Endpoint as Told}
use Rattle.law_controller.specs.frame_control.Joined.{joined}
use Rattle.law_descriptors.specs.Both.{parts_now}
use Rattle.law_descriptors.specs.Meeting.{met}
use Rattle.law_descriptors.specs.queue_events.Streams.{bytes_of_both}
use Rattle.law_descriptors.proofs.lemmas.queue_events.Events.{both_keeps_structures}
use Rattle.law_queues.specs.told_endpoints.Telling.{lines_in}
use Rattle.law_queues.specs.whole_sends.Laws.{IsStopped}
use Rattle.law_below_hubs.specs.HostEvents.{hand_host, IsOutBehind, KeepsSent, sends_none, makes_one}
use Rattle.law_below_hubs.specs.HostOuts.{shadow, OutSide}
use Rattle.law_below_hubs.specs.Splits.{IsAtHub}
use Rattle.law_below_hubs.proofs.HostAsks.{host_toggle}
use Rattle.law_below_hubs.proofs.InEvents.{in_still}
use Rattle.law_world.specs.steps.Streaming.{begins_by, transacts_by, wired}
use Rattle.law_world.specs.memory.Mixed.{Standing}
use Rattle.law_world.specs.memory.Steps.{standing_then, IsMixedControlled}
use Rattle.law_world.specs.streams.put_laws.TakenPuts.{puts_of}
use Rattle.bus_world.specs.World.{World, controller_parts, controller_next}
use Rattle.law_reports.specs.lines.Lined.{in_hand, Lines}
use Rattle.law_reports.proofs.lemmas.lines.IsoGoing.{told_apart}
use Rattle.law_microframes.specs.visits.WorldPipes.{EventOf}
use Rattle.law_reports.specs.pipes.Declared.{Sides}
use Rattle.law_reports.specs.pipes.Piped.{Heads, asked_as, AreFresh, AreLeft, IsPiped}
use Rattle.law_reports.specs.pipes.puts.Paid.{Pays}
use Rattle.law_reports.specs.pipes.below_hubs.Behind.{Spots, stream_kind, kind_at, IsSpotBy, IsOutSpot, sent_in, out_at, IsUnsent, Within}
use Rattle.law_reports.specs.pipes.below_hubs.Behind.{HasLeft, IsMetOut, AreInsRight, IsBehind}
use Rattle.law_reports.specs.pipes.below_hubs.BehindLaws.{WorldFindsNoneTold}
use Rattle.law_reports.specs.pipes.below_hubs.Controlled.{AsksItsWay, AskTheirWays, IsWatched, IsUnasked}
use Rattle.law_reports.proofs.lemmas.pipes.Controlled.{c, z, goes, controlled, alone, off, moved_same, unopened_met, unmet_by}
use Rattle.law_reports.proofs.lemmas.pipes.Names.{kept_as, name_is}
use Rattle.law_reports.proofs.lemmas.pipes.lemmas.below_hubs.Controlled.{controller_keeps_out_below, controller_leaves_out}
use Rattle.law_reports.proofs.lemmas.pipes.lemmas.below_hubs.FoundNone.{none_told}
use Rattle.law_reports.proofs.lemmas.pipes.lemmas.below_hubs.Going.{going_begins}
use Rattle.law_reports.proofs.lemmas.pipes.lemmas.below_hubs.HubStays.{event_keeps_hub}
use Rattle.law_reports.proofs.lemmas.pipes.lemmas.puts.Event.{controlled_pays, stopped_or}
use Rattle.law_reports.proofs.lemmas.pipes.lemmas.puts.Steps.{part_at}

-- ---- kinds

pub claimed_stream : (x : EpDesc) → is_out_below x ≡ true → has_stream x.kind ≡ true
claimed_stream x is = (and_parts (has_stream x.kind) (not (is_high x.speed) && not (receives x.name.way)) is).0

pub each_streams : (b : Bool) → has_stream (stream_kind b) ≡ true
each_streams true = refl
each_streams false = refl

-- ---- what was sent

pub shadow_sent : (toggle : Bool) (known : List ℕ) (next : Option (List ℕ)) → (shadow toggle known next).taken ≡ sent_in known next
shadow_sent toggle known None = refl
shadow_sent toggle known (Some x) = refl

-- one that the host told with the queue head
pub shadow_pipe : (kind : EpKind) (wire : Wired) (i place : ℕ) (known : List ℕ) (s : Standing) (n : ℕ) (t : Told)
    → (b : IsOutBehind kind wire i place known s.parts (in_hand s) n t)
    → IsOutPipe (Some (shadow (hand_host (in_hand s) n b.queue).toggle known b.host.next)) known s.parts (in_hand s) n t
shadow_pipe kind wire i place known s n t b = record {
  named = record { queue = b.queue; head = b.head; is = b.is };
  outs = b.outs;
  toggle = (hand_host (in_hand s) n b.queue).toggle;
  expects = record {
    queue = b.queue;
    head = b.head;
    own = ap (λ (e : Told). e.dtc) (sym b.is) ∙ b.own;
    is = host_toggle (in_hand s) n b.queue;
  };
  taker = shadow (hand_host (in_hand s) n b.queue).toggle known b.host.next;
  is = refl;
  agrees = b.host.agrees;
}

module _ (fixed : Fixed) (x : Sides) (o : Spots) (s : Standing) (m : Lines) (h : Heads) (puts : ℕ → List ℕ) (w : World)
    (k : IsPiped fixed x s m h w) (pays : Pays fixed x s m puts w) (b : IsBehind fixed o s m puts w) where
  -- ---- the ways of queue heads

  by_ways : (e : ℕ) (y : Endpoint) → slice_get w.driver.endpoints e ≡ Some y → IsMet (queued w.driver) e (queued_endpoint y) → (way : Way)
      → y.desc.name.way ≡ way → AsksItsWay (s.parts (32 * y.queue)) way
  by_ways e y here is_met ways.In is = b.ins e y here is_met.there is
  by_ways e y here is_met ways.Out is = (pays.outs e y here is_met.there is).outs
  by_ways e y here is_met ways.Ctl is = tt

  pub ask_ways : AskTheirWays s w.driver
  ask_ways e y here is_met = by_ways e y here is_met y.desc.name.way refl

  -- ---- its spot

  module _ (e : ℕ) (y : Endpoint) (here : slice_get w.driver.endpoints e ≡ Some y) (way : y.desc.name.way ≡ ways.Out)
      (on : o.has y.desc.name.addr y.desc.name.num ≡ true) where
    pub spot : IsOutSpot o y.desc
    spot = subst (IsSpotBy o y.desc) way (b.spots e y here)

    pub claimed : is_out_below y.desc ≡ true
    claimed = spot.out on

    abbrev its_kind : EpKind
    its_kind = kind_at o y.desc.name.addr y.desc.name.num

    pub streams : has_stream (kind_at o y.desc.name.addr y.desc.name.num) ≡ true
    streams = each_streams (o.periodic y.desc.name.addr y.desc.name.num)

    -- no control endpoint has its number
    pub none_control : (f : ℕ) (v : Endpoint) → slice_get w.driver.endpoints f ≡ Some v → v.desc.name.way ≡ ways.Ctl
        → v.desc.name.addr ≡ y.desc.name.addr → v.desc.name.num ≡ y.desc.name.num → ⊥
    none_control f v there ctl addr num =
        true≢false (sym on ∙ ap (λ (a : ℕ). o.has a y.desc.name.num) (sym addr) ∙ ap (o.has v.desc.name.addr) (sym num)
        ∙ subst (IsSpotBy o v.desc) ctl (b.spots f v there))

    pub watched : IsMet (queued w.driver) e (queued_endpoint y) → IsWatched w.driver
        (kind_at o y.desc.name.addr y.desc.name.num) ways.Out e y
    watched is_met = record {
      here = here;
      met = is_met;
      kind_is = spot.kind on;
      way_is = way;
      alone = none_control;
    }

    -- no other endpoint has its name
    pub its_name : (f : ℕ) (v : Endpoint) → slice_get w.driver.endpoints f ≡ Some v → v.desc.name.way ≡ ways.Out
        → v.desc.name.addr ≡ y.desc.name.addr → v.desc.name.num ≡ y.desc.name.num → (f ≡ e) × (v ≡ y)
    its_name f v there its addr num =
        let one : f ≡ e = told_apart w.driver (in_hand s) s.parts m.reported k.telling.told f e v y there here
        (name_is v.desc.name y.desc.name addr num (its ∙ sym way)) in
        (one, same_Some v y (sym there ∙ ap (slice_get w.driver.endpoints) one ∙ here))

  -- ---- an event of the controller

  abbrev new : World
  new = controller_next fixed w

  abbrev event : IsMixedControlled fixed s w
  event = c fixed x s m h w k

  abbrev z_now : EventOf fixed s w (c fixed x s m h w k).event
  z_now = z fixed x s m h w k

  abbrev after : Standing
  after = standing_then s w (c fixed x s m h w k).event

  abbrev lines : Lines
  lines = record { acc = (goes fixed x s m h w k).moved; reported = m.reported }

  now : IsPiped fixed x (standing_then s w (c fixed x s m h w k).event) (record
      { acc = (goes fixed x s m h w k).moved; reported = m.reported }) h (controller_next fixed w)
  now = controlled fixed x s m h w k

  pays_now : Pays fixed x (standing_then s w (c fixed x s m h w k).event) (record
      { acc = (goes fixed x s m h w k).moved; reported = m.reported }) puts (controller_next fixed w)
  pays_now = controlled_pays fixed x s m h puts w k pays

  ins_then : AreInsRight (standing_then s w (c fixed x s m h w k).event) w.driver
  ins_then e y here there way =
      in_still (s.parts (32 * y.queue)) (parts_now s.descs s.parts event.event.now (32 * y.queue))
      ((both_keeps_structures begins_by transacts_by opening_base s.member (met w.driver s.recent) s.descs s.parts s.hand s.frame
      (controller_parts w) (wired fixed w) (wired fixed new) event.event.now event.event.later event.event.frame_later
      k.mixed.now.framed.runs event.event.effect (32 * y.queue)).alters) (b.ins e y here there way)

  hubs_then : (hub port i place : ℕ) → IsAtHub o.hubs hub port i place
      → IsAtHub (wired fixed (controller_next fixed w)).bus.hubs hub port i place
  hubs_then hub port i place at =
      event_keeps_hub s.parts (joined s.hand s.frame) (wired fixed w) (wired fixed new) (parts_now s.descs s.parts event.event.now)
      (joined event.event.later event.event.frame_later) hub port i place z_now (b.hubs hub port i place at)

  -- ---- one that is met

  module _ (e : ℕ) (y : Endpoint) (here : slice_get w.driver.endpoints e ≡ Some y) (way : y.desc.name.way ≡ ways.Out)
      (on : o.has y.desc.name.addr y.desc.name.num ≡ true) (is_met : IsMet (queued w.driver) e (queued_endpoint y)) where
    abbrev n : ℕ
    n = 32 * y.queue

    abbrev all : List ℕ
    all = concat (puts_of (queued w.driver) puts e)

    abbrev i : ℕ
    i = o.hub y.desc.name.addr y.desc.name.num

    abbrev place : ℕ
    place = o.place y.desc.name.addr y.desc.name.num

    old : IsMetOut o (wired fixed w) (concat (m.acc (32 * y.queue))) (concat (puts_of (queued w.driver) puts e)) s y
    old = b.met e y here way on is_met

    abbrev Then : List ℕ → List ℕ → Type 0
    Then known bytes = (r : IsOutBehind (kind_at o y.desc.name.addr y.desc.name.num) (wired fixed (controller_next fixed w))
        (o.hub y.desc.name.addr y.desc.name.num)
        (o.place y.desc.name.addr y.desc.name.num) known (standing_then s w (c fixed x s m h w k).event).parts
        (in_hand (standing_then s w (c fixed x s m h w k).event)) (32 * y.queue) (asked_as y.desc))
        × KeepsSent (s.parts (32 * y.queue)) ((standing_then s w (c fixed x s m h w k).event).parts (32 * y.queue))
        old.behind.queue.token.active old.behind.host.next r.host.next bytes

    goes_so : WorldFindsNoneTold (wired fixed w) w → Then (concat ((goes fixed x s m h w k).moved (32 * y.queue))) (bytes_of_both
        (32 * y.queue) (z fixed x s m h w k))
    goes_so finds =
        subst (λ (known : List ℕ). Then known (bytes_of_both n z_now)) (sym ((goes fixed x s m h w k).adds n))
        (controller_keeps_out_below fixed x s m h w k ask_ways event z_now e y (kind_at o y.desc.name.addr y.desc.name.num)
        (streams e y here way on) (watched e y here way on is_met) i place (concat (m.acc n))
        (none_told fixed s w k.mixed event (32 * y.queue) (asked_as y.desc) (kind_at o y.desc.name.addr y.desc.name.num) i place
        old.behind.outs (record { queue = old.behind.queue; head = old.behind.head; is = old.behind.is }) old.behind.below old.behind.hub
        finds)
        old.behind)

    -- it was halted, or is now
    stopped : (next later : Option (List ℕ)) (bytes : List ℕ)
        → IsStopped (standing_then s w (c fixed x s m h w k).event).parts (32 * y.queue)
        → concat ((goes fixed x s m h w k).moved (32 * y.queue)) ≡ concat (m.acc (32 * y.queue)) ++ bytes
        → IsPrefix (sent_in (concat (m.acc (32 * y.queue))) next) (concat (puts_of (queued w.driver) puts e))
        → KeepsSent (s.parts (32 * y.queue)) ((standing_then s w (c fixed x s m h w k).event).parts (32 * y.queue))
        old.behind.queue.token.active next later bytes
        → IsPrefix (sent_in (concat ((goes fixed x s m h w k).moved (32 * y.queue))) later) (concat (puts_of (queued w.driver) puts e))
    stopped next later bytes halted adds was (sends_none same none) =
        let known : concat (lines.acc n) ≡ concat (m.acc n) =
        adds ∙ ap (λ (bs : List ℕ). concat (m.acc n) ++ bs) none ∙ append-nil (concat (m.acc n)) in
        subst (λ (bs : List ℕ). IsPrefix (sent_in bs later) all) (sym known)
        (subst (λ (x : Option (List ℕ)). IsPrefix (sent_in (concat (m.acc n)) x) all) (sym same) was)
    stopped next later bytes halted adds was (makes_one works same) =
        let is : halted.0 ≡ old.behind.queue =
        found_queue (s.parts n n) halted.0 old.behind.queue (ap (λ (part : Structures). part n) (sym same) ∙ halted.1) old.behind.head in
        absurd (true≢false (sym works ∙ ap (λ (q : Qh). q.token.active) (sym is) ∙ halted.2))

    part_then : IsQueuePart (32 * y.queue) ((standing_then s w (c fixed x s m h w k).event).parts (32 * y.queue))
    part_then = part_at after lines new now.mixed now.telling n
        (record { number = e; endpoint = y; here = here; there = is_met.there; way_is = way; at = refl })

    pub met_then : WorldFindsNoneTold (wired fixed w) w → IsMetOut o (wired fixed (controller_next fixed w)) (concat
        ((goes fixed x s m h w k).moved (32 * y.queue)))
        (concat (puts_of (queued w.driver) puts e)) (standing_then s w (c fixed x s m h w k).event) y
    met_then finds = record {
      behind = (goes_so finds).0;
      within = ⊎_elim
          (λ (halted : IsStopped after.parts n).
          stopped old.behind.host.next (goes_so finds).0.host.next (bytes_of_both n z_now) halted
          ((goes fixed x s m h w k).adds n) old.within
          (goes_so finds).1)
          (λ (going : IsStopped after.parts n → ⊥).
          let p : IsOutPipe (Some (shadow (hand_host (in_hand after) n (goes_so finds).0.queue).toggle (concat (lines.acc n))
          (goes_so finds).0.host.next))
          (concat (lines.acc n)) after.parts (in_hand after) n (asked_as y.desc) =
          shadow_pipe (kind_at o y.desc.name.addr y.desc.name.num) (wired fixed new) i place (concat (lines.acc n)) after n
          (asked_as y.desc) (goes_so finds).0 in
          let t : Taker = shadow (hand_host (in_hand after) n (goes_so finds).0.queue).toggle (concat (lines.acc n))
          (goes_so finds).0.host.next in
          subst (λ (bs : List ℕ). IsPrefix bs all)
          (shadow_sent (hand_host (in_hand after) n (goes_so finds).0.queue).toggle (concat (lines.acc n)) (goes_so finds).0.host.next)
          (subst (λ (u : Taker). IsPrefix u.taken all) (same_Some p.taker t (sym p.is))
          (going_begins fixed x after lines h puts new now pays_now e y here is_met way (Some t) (asked_as y.desc) p going)))
          (stopped_or after.parts n part_then);
    }

  -- ---- one that isn't

  abbrev named_as : ℕ → ℕ → Told
  named_as addr ep = record { addr = addr; ep = ep; speed = 0; max = 0; dtc = false; hub = 0; port = 0 }

  module _ (addr ep : ℕ) (u : IsUnasked w.driver ways.Out (named_as addr ep)) where
    pub side_stays : (kind : EpKind) → has_stream kind ≡ true → (i place : ℕ) (toggle waiting : Bool) (known : List ℕ)
        (next : Option (List ℕ)) → OutSide (out_at kind addr ep) i place (wired fixed w) toggle waiting known next
        → OutSide (out_at kind addr ep) i place (wired fixed (controller_next fixed w)) toggle waiting known next
    side_stays = controller_leaves_out fixed x s m h w k ask_ways event z_now (named_as addr ep) u

  unasked_by : (e : ℕ) (y : Endpoint) → slice_get w.driver.endpoints e ≡ Some y → y.desc.name.way ≡ ways.Out
      → o.has y.desc.name.addr y.desc.name.num ≡ true → (IsMet (queued w.driver) e (queued_endpoint y) → ⊥)
      → IsUnasked w.driver ways.Out (named_as y.desc.name.addr y.desc.name.num)
  unasked_by e y here way on unmet = record {
    data_apart = λ f v there is_met its addr num. alone fixed x s m h w k e y here unmet f v there (its ∙ sym way) addr num is_met;
    control_apart = λ f v there is_met its addr num. none_control e y here way on f v there its addr num;
    iso_apart = λ f v there iso its addr num.
        let is : v ≡ y = (its_name e y here way on f v there its addr num).1 in
        true≢false (sym iso ∙ ap (λ (a : Endpoint). is_iso a.desc.kind) is
        ∙ no_iso y.desc.kind (claimed_stream y.desc (claimed e y here way on)));
  }

  left_stays : (e : ℕ) (y : Endpoint) → slice_get w.driver.endpoints e ≡ Some y → y.desc.name.way ≡ ways.Out
      → o.has y.desc.name.addr y.desc.name.num ≡ true → (IsMet (queued w.driver) e (queued_endpoint y) → ⊥) → (bytes : List ℕ)
      → HasLeft o (wired fixed w) (Within puts w.driver) y.desc.name.addr y.desc.name.num bytes
      → HasLeft o (wired fixed (controller_next fixed w)) (Within puts w.driver) y.desc.name.addr y.desc.name.num bytes
  left_stays e y here way on unmet bytes l = record {
    toggle = l.toggle;
    waiting = l.waiting;
    known = l.known;
    next = l.next;
    side = side_stays y.desc.name.addr y.desc.name.num (unasked_by e y here way on unmet) (kind_at o y.desc.name.addr y.desc.name.num)
        (streams e y here way on) (o.hub y.desc.name.addr y.desc.name.num)
        (o.place y.desc.name.addr y.desc.name.num) l.toggle l.waiting l.known l.next l.side;
    begins = l.begins;
    within = l.within;
  }

  left_then : AreLeft w.driver (goes fixed x s m h w k).moved ways.Out o.has
      (HasLeft o (wired fixed (controller_next fixed w)) (Within puts w.driver))
  left_then = record {
    unmet = λ e y here way on there off_now.
        subst (λ (bs : List ℕ). HasLeft o (wired fixed new) (Within puts w.driver) y.desc.name.addr y.desc.name.num bs)
        (sym (moved_same fixed x s m h w k (32 * y.queue)
        (off fixed x s m h w k e y here there.kept (unmet_by fixed x s m h w k e y off_now))))
        (left_stays e y here way on (unmet_by fixed x s m h w k e y off_now) (concat (m.acc (32 * y.queue)))
        (b.left.unmet e y here way on there off_now));
    gone = λ e y here way on gone.
        left_stays e y here way on (λ is_met. true≢false (sym gone ∙ (kept_as y is_met.there.kept).0))
        (told_in w.driver.store (lines_in y.desc.name w.driver.reports)) (b.left.gone e y here way on gone);
  }

  -- before its open none asks it
  fresh_then : ((addr ep : ℕ) → o.has addr ep ≡ true → (f : ℕ) (v : Endpoint) → slice_get w.driver.endpoints f ≡ Some v
      → v.desc.name.way ≡ ways.Ctl → v.desc.name.addr ≡ addr → v.desc.name.num ≡ ep → ⊥)
      → AreFresh w.driver ways.Out o.has (IsUnsent o (wired fixed (controller_next fixed w)))
  fresh_then none_ctl addr ep on unused =
      side_stays addr ep
      (record {
        data_apart = λ f v there is_met its same also. unopened_met fixed x s m h w k f v (unused f v there its same also) is_met;
        control_apart = λ f v there is_met its same also. none_ctl addr ep on f v there its same also;
        iso_apart = λ f v there iso its same also. true≢false (sym iso ∙ (unused f v there its same also).queue);
      })
      (kind_at o addr ep) (each_streams (o.periodic addr ep)) (o.hub addr ep) (o.place addr ep) false false [] None
      (b.fresh addr ep on unused)

  -- ---- the whole

  none_ctl : (addr ep : ℕ) → o.has addr ep ≡ true → (f : ℕ) (v : Endpoint) → slice_get w.driver.endpoints f ≡ Some v
      → v.desc.name.way ≡ ways.Ctl → v.desc.name.addr ≡ addr → v.desc.name.num ≡ ep → ⊥
  none_ctl addr ep on f v there ctl same also =
      true≢false (sym on ∙ ap (λ (a : ℕ). o.has a ep) (sym same) ∙ ap (o.has v.desc.name.addr) (sym also)
      ∙ subst (IsSpotBy o v.desc) ctl (b.spots f v there))

  pub controlled_behind : WorldFindsNoneTold (wired fixed w) w → IsBehind fixed o (standing_then s w (c fixed x s m h w k).event) (record
      { acc = (goes fixed x s m h w k).moved; reported = m.reported }) puts (controller_next fixed w)
  controlled_behind finds = record {
    ins = ins_then;
    first = b.first;
    spots = b.spots;
    hubs = hubs_then;
    met = λ e y here way on is_met. met_then e y here way on is_met finds;
    fresh = fresh_then none_ctl;
    left = left_then;
  }
