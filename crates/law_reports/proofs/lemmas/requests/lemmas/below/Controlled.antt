-- Each event of the controller leaves a control endpoint below a hub as it must stand, in a world with endpoints of every kind.
use Rattle.std.proofs.Common.{◌≡◌, ◌≢◌, ◌≤◌, ℕ, Bool, true, false, List, [], if◌then◌else◌, Option, Some, None, ap, refl, sym, subst}
use Rattle.std.proofs.Common.{◌∙◌}
use Rattle.std.proofs.lemmas.Bool.{true≢false}
use Rattle.std.proofs.lemmas.Option.{same_Some}
use Rattle.usb_base.specs.declared.endpoints.EpDesc.{EpDesc}
use Rattle.usb_base.specs.declared.packets.Ask.{Ask}
use Rattle.usb_base.specs.declared.packets.EpKind.TheVariants as kinds
use Rattle.usb_base.specs.declared.packets.Speed.TheVariants as speeds
use Rattle.usb_base.specs.declared.packets.Way.TheVariants as ways
use Rattle.dev_control.specs.Stages.{Stages}
use Rattle.hc_core.specs.Controller.{walk_place}
use Rattle.bus_wire.specs.Bus.{Wired, Fixed}
use Rattle.bus_world.specs.World.{World, controller_parts, controller_next}
use Rattle.claims_base.specs.Controller.{opening_base}
use Rattle.claims_driver.specs.Owners.{views_of}
use Rattle.claims_report.specs.Requests.{Request}
use Rattle.claims_world.specs.Requests.{wired, acted_between}
use Rattle.law_structures.specs.lent_structures.Structures.{StructureSets}
use Rattle.law_structures.proofs.lemmas.lent_structures.Altering.{found_queue}
use Rattle.law_ring.specs.Hand.{Copy, Hand, Copied}
use Rattle.law_ring.specs.Effects.{Effect}
use Rattle.law_ring.specs.Ring.{IsRing}
use Rattle.law_ring.specs.Told.{endpoint_of}
use Rattle.law_ring.proofs.StreamEvents.{streams_by}
use Rattle.law_frames.specs.Frame.{IsCopiedQueue, IsInFrame}
use Rattle.law_frames.specs.FrameHand.{FrameHand, Nothing, OfQueue, OfSettled, OfItd, OfSitd}
use Rattle.law_frames.specs.FrameStreams.{IsIsoAsk, of_itd, of_sitd}
use Rattle.law_frames.specs.Met.{AQueue}
use Rattle.law_frames.proofs.Leaving.{frame_leaves}
use Rattle.law_controller.specs.controlled_streams.Control.{ControlEffect, a_microframe, a_step}
use Rattle.law_controller.specs.frame_control.Both.{BothEffect, RunsBoth, WalksFrames, of_ring, of_frame}
use Rattle.law_controller.specs.frame_control.Joined.{joined}
use Rattle.law_descriptors.specs.Both.{owns, both, parts_now}
use Rattle.law_descriptors.specs.Meeting.{met}
use Rattle.law_descriptors.specs.PartLaws.{IsDescribing}
use Rattle.law_descriptors.proofs.QueueQueues.{effect_is_of_queues, parts_same}
use Rattle.law_descriptors.proofs.Standing.{both_off}
use Rattle.law_descriptors.proofs.lemmas.queue_events.Streams.{both_streams}
use Rattle.law_request.specs.Host.{Endpoint}
use Rattle.law_request.specs.Line.{Line as Window}
use Rattle.law_request.specs.Windows.{IsRequest}
use Rattle.law_devices.specs.ring_requests.Resting.{IsOtherEndpoint, IsAlone}
use Rattle.law_devices.specs.ring_requests.Windows.{Queue, Lines}
use Rattle.law_devices.specs.scripted_requests.Controls.{transacts_by, begins_by}
use Rattle.law_devices.specs.request_calls.Bus.{device_of}
use Rattle.claims_report.specs.ControlSides.{Device}
use Rattle.law_below_hubs.specs.SeatedControls.{control_at}
use Rattle.law_below_hubs.specs.ControlWork.{control_key}
use Rattle.law_below_hubs.specs.HostRequests.{IsOfOtherEndpoint, DeviceWorks, RequestBelow, RequestBegins, HubRests}
use Rattle.law_below_hubs.specs.HostRequests.DeviceWorks.{rests, makes}
use Rattle.law_below_hubs.specs.RequestEvents.{InHandIsOther, SparesEndpointNow}
use Rattle.law_below_hubs.specs.RequestMoves.{HubsStay, QueueMoves, IsRestBelow, IsLeftBelow, LeftMoves}
use Rattle.law_below_hubs.specs.RequestQueues.{AreOneByOne, IsQueueBelow}
use Rattle.law_below_hubs.proofs.RequestEvents.{event_leaves_request, event_leaves_rest}
use Rattle.law_below_hubs.proofs.RequestMoves.{ring_keeps_queue, beside_keeps_queue, ring_keeps_rest, beside_keeps_rest}
use Rattle.law_below_hubs.proofs.RequestMoves.{ring_keeps_left, beside_keeps_left}
use Rattle.law_world.specs.memory.Mixed.{Standing}
use Rattle.law_world.specs.memory.Steps.{standing_then, IsMixedControlled}
use Rattle.law_microframes.specs.visits.WorldPipes.{EventOf}
use Rattle.law_microframes.proofs.lemmas.visits.AskedHeads.{asked_is_near}
use Rattle.law_reports.specs.lines.Lined.{Lines as Told}
use Rattle.law_reports.specs.pipes.Declared.{Sides}
use Rattle.law_reports.specs.pipes.Piped.{Heads, IsPiped}
use Rattle.law_reports.specs.requests.below.Controlled.{IsAloneIn, IsSparedHub, MovesAreRecorded, ControllerKeepsQueueBelow}
use Rattle.law_reports.specs.requests.below.Controlled.{ControllerKeepsRestBelow, ControllerKeepsLeftBelow, UnsentActsNothing}
use Rattle.law_reports.proofs.lemmas.pipes.IsoBeside.{IsNamedIso, itd_named, sitd_named}
use Rattle.law_reports.proofs.lemmas.pipes.lemmas.below_hubs.HubStays.{event_keeps_hub}
use Rattle.law_reports.proofs.lemmas.pipes.lemmas.below_hubs.SparedHubs.{spared_hubs_keep_keys}
use Rattle.law_reports.proofs.lemmas.requests.HighFooting.{ring_of, wider}
use Rattle.law_reports.proofs.lemmas.requests.lemmas.world_requests.Acting.{none_acted, device_acts}

-- ---- what is recorded

works_recorded : (e : Endpoint) (c z : Stages) (acted : List (List ℕ)) → DeviceWorks e c z acted → acted_between c z ≡ acted
works_recorded e c _ _ rests = none_acted c
works_recorded e c _ _ (makes row ask out) = device_acts e row ask out c

pub moves_are_recorded : MovesAreRecorded
moves_are_recorded e wire after acted k = works_recorded e k.before k.leaves acted k.works

-- ---- an event

same_at : (one other : Copy) → ◌≡◌ {A = Hand} (Copied one) (Copied other) → one.at ≡ other.at
same_at one other same = ap at_of same
  where
    at_of : Hand → ℕ
    at_of (Copied c) = c.at
    at_of _ = 0

-- a hub's keys depend on its place alone
nobody : EpDesc
nobody = record {
  name = record { addr = 0; num = 0; way = ways.Ctl };
  speed = speeds.Full;
  kind = kinds.Control;
  max = 8;
  period = 0;
  multi = 1;
  hub = None;
  port = 0;
  tt = 0;
}

module _ (fixed : Fixed) (x : Sides) (s : Standing) (m : Told) (h : Heads) (w : World) (k : IsPiped fixed x s m h w)
    (c : IsMixedControlled fixed s w) (e : Endpoint) (i place n : ℕ) (alone : IsAloneIn s w.driver e n)
    (spared : IsSparedHub i (wired fixed w)) where
  abbrev new : World
  new = controller_next fixed w

  abbrev wire : Wired
  wire = wired fixed w

  abbrev after : Wired
  after = wired fixed (controller_next fixed w)

  abbrev now : StructureSets
  now = parts_now s.descs s.parts c.event.now

  abbrev later : Hand
  later = c.event.later

  abbrev runs : RunsBoth opening_base s.member (met w.driver s.recent) (both s.descs s.parts) s.hand s.frame (controller_parts w)
  runs = k.mixed.now.framed.runs

  ring : IsRing opening_base s.member s.parts s.hand (walk_place (controller_parts w))
  ring = ring_of s w k.mixed

  z : EventOf fixed s w c.event
  z =
      let f = k.mixed.now.framed in
      let describing : IsDescribing w.driver s.descs s.parts =
      record { owners = f.place.sound.owners; driven = f.driven; described = f.described } in
      both_streams begins_by transacts_by opening_base s.member (met w.driver s.recent) w.driver s.descs s.parts s.hand s.frame
      (controller_parts w) (wired fixed w) (wired fixed (controller_next fixed w)) c.event.now c.event.later c.event.frame_later describing
      f.runs c.event.effect

  spares : SparesEndpointNow e i place (wired fixed w) (wired fixed (controller_next fixed w))
  spares ask out reply made dir =
      spared_hubs_keep_keys (record { desc = nobody; hub = i; place = place; packets = [] }) (control_key e dir) wire after spared ask out
      reply made

  hubs : HubsStay i place (wired fixed w) (wired fixed (controller_next fixed w))
  hubs hub port at =
      event_keeps_hub s.parts (joined s.hand s.frame) wire after now (joined later c.event.frame_later) hub port i place z at

  ring_alone : IsAlone s.member e s.parts n
  ring_alone j on differs = alone.alone j (wider s w k.mixed j on) differs

  -- ---- of the ring

  of_queues : ControlEffect begins_by transacts_by (both s.descs s.parts) s.hand (wired fixed w) (wired fixed (controller_next fixed w))
      c.event.now c.event.later
      → ControlEffect begins_by transacts_by s.parts s.hand (wired fixed w) (wired fixed (controller_next fixed w))
      (parts_now s.descs s.parts c.event.now) c.event.later
  of_queues (a_microframe b) = a_microframe (record {
    index = b.index;
    allowed = b.allowed;
    asked = b.asked;
    parts_stay = parts_same (views_of w.driver) s.descs s.parts k.mixed.now.framed.described _ b.parts_stay;
    hand_stays = b.hand_stays;
  })
  of_queues (a_step r) =
      let walk : Effect transacts_by s.parts s.hand wire after now later r.kind =
      effect_is_of_queues transacts_by (views_of w.driver) s.descs s.parts opening_base s.member s.hand (walk_place (controller_parts w))
      wire after _ later r.kind k.mixed.now.framed.described runs.ring r.effect in
      a_step (record {
        kind = r.kind;
        effect = walk;
        streams = streams_by transacts_by s.member s.parts s.hand (walk_place (controller_parts w)).walk.reply wire after now later r.kind
            ring.members ring.in_hand walk;
      })

  -- ---- of the frames

  iso_other : (ask : Ask) → IsIsoAsk (both s.descs s.parts) ask → IsOfOtherEndpoint e ask
  iso_other ask (of_itd j v here a) addr num =
      let o : IsNamedIso w.driver v.addr v.ep v.dir_in = itd_named x s w k.mixed k.declared k.descriptors j v here in
      alone.no_iso o.number o.endpoint o.here o.iso (sym addr ∙ a.address ∙ o.named.address) (sym num ∙ a.number ∙ o.named.number)
  iso_other ask (of_sitd j v here a) addr num =
      let o : IsNamedIso w.driver v.addr v.ep v.dir_in = sitd_named x s w k.mixed k.declared k.descriptors j v here in
      alone.no_iso o.number o.endpoint o.here o.iso (sym addr ∙ a.address ∙ o.named.address) (sym num ∙ a.number ∙ o.named.number)

  -- while nothing is asked of the hub
  unsent_rests : InHandIsOther e s.parts (joined s.hand s.frame) → (stages : Stages) → HubRests e i place (wired fixed w) stages
      → HubRests e i place (wired fixed (controller_next fixed w)) stages
  unsent_rests other stages rests_so =
      event_leaves_rest e i place s.descs s.parts (joined s.hand s.frame) wire after now (joined later c.event.frame_later) stages other
      iso_other spares z rests_so

  module _ (f : WalksFrames transacts_by (both s.descs s.parts) w.control s.hand s.frame (wired fixed w)
      (wired fixed (controller_next fixed w)) c.event.now c.event.later c.event.frame_later) where
    owned_stays : (b : Bool) → owns s.descs n ≡ b → (if b then s.parts n else c.event.now n) ≡ s.parts n
    owned_stays true is = refl
    owned_stays false is =
        frame_leaves transacts_by (met w.driver s.recent) (both s.descs s.parts) w.control.frame s.frame wire after c.event.now
        c.event.frame_later f.kind n (runs.walk f.part).in_hand f.effect
        (λ j kind is_met same. true≢false (sym alone.member ∙ ap s.member same ∙ runs.apart j kind is_met))
        ∙ both_off s.descs s.parts n is

    part_stays : parts_now s.descs s.parts c.event.now n ≡ s.parts n
    part_stays = owned_stays (owns s.descs n) refl

    in_frames : (frame : FrameHand) → s.frame ≡ frame → (copy : Copy) → joined s.hand frame ≡ Copied copy → s.member copy.at ≡ false
    in_frames Nothing is copy same = absurd (let both_are : _ ≡ _ = sym f.nothing ∙ same in cc)
    in_frames (OfQueue d made) is copy same =
        let there : IsCopiedQueue (met w.driver s.recent) (both s.descs s.parts) d =
        subst (IsInFrame (met w.driver s.recent) (both s.descs s.parts) w.control.frame.got w.control.frame.reply) is
        (runs.walk f.part).in_hand in
        ap s.member (sym (same_at d copy same)) ∙ runs.apart d.at AQueue there.on
    in_frames (OfSettled d y made) is copy same = absurd (cc)
    in_frames (OfItd d) is copy same = absurd (let both_are : _ ≡ _ = sym f.nothing ∙ same in cc)
    in_frames (OfSitd d) is copy same = absurd (let both_are : _ ≡ _ = sym f.nothing ∙ same in cc)

    other_hand : InHandIsOther e s.parts (joined s.hand s.frame)
    other_hand copy in_hand here works addr num =
        let near : s.near copy.at ≡ true = asked_is_near s w k.mixed copy in_hand here works in
        let differs : copy.at ≢ n =
        λ at. true≢false (sym alone.member ∙ ap s.member (sym at) ∙ in_frames s.frame refl copy in_hand) in
        let o : IsOtherEndpoint e s.parts copy.at = alone.alone copy.at near differs in
        let is : o.own ≡ endpoint_of copy.queue =
        o.has.is ∙ ap endpoint_of (found_queue (s.parts copy.at copy.at) o.has.queue copy.queue o.has.head here) in
        o.other (sym addr ∙ ap (λ y. y.addr) (sym is)) (sym num ∙ ap (λ y. y.ep) (sym is))

    frame_begins : (r : Request) (l : Window) (acts : List (List ℕ)) → IsRequest r → e.max ≤ 1024
        → RequestBelow e r i place (wired fixed w) l acts
        → RequestBegins e r i place (wired fixed w) (wired fixed (controller_next fixed w)) l acts
    frame_begins r l acts request room below =
        event_leaves_request e r i place s.descs s.parts (joined s.hand s.frame) wire after now (joined later c.event.frame_later) l acts
        request room other_hand iso_other spares z below

    frame_rests : (stages : Stages) → HubRests e i place (wired fixed w) stages
        → HubRests e i place (wired fixed (controller_next fixed w)) stages
    frame_rests stages rests_so = unsent_rests other_hand stages rests_so

  -- ---- between two requests, and after errors

  rest_by : BothEffect begins_by transacts_by (both s.descs s.parts) w.control s.hand s.frame (wired fixed w)
      (wired fixed (controller_next fixed w)) c.event.now c.event.later c.event.frame_later → (b : ℕ) (stages : Stages)
      → IsRestBelow e i place (wired fixed w) stages b s.hand s.parts n
      → IsRestBelow e i place (wired fixed (controller_next fixed w)) stages b (standing_then s w c.event).hand
      (standing_then s w c.event).parts n × ((standing_then s w c.event).parts n ≡ s.parts n)
  rest_by (of_ring effect nothing) b stages o =
      ring_keeps_rest s.member e i place b n s.parts s.hand (walk_place (controller_parts w)).walk.reply wire after now later stages
      ring.members ring.in_hand ring_alone spares hubs (of_queues effect) o
  rest_by (of_frame f) b stages o = (
    beside_keeps_rest e i place b n s.parts s.hand wire after now later stages (part_stays f) f.hand_stays hubs
        (frame_rests f stages o.rests) o,
    part_stays f,
  )

  left_by : BothEffect begins_by transacts_by (both s.descs s.parts) w.control s.hand s.frame (wired fixed w)
      (wired fixed (controller_next fixed w)) c.event.now c.event.later c.event.frame_later → (r : Request) (b : ℕ) (l : Window)
      (acts : List (List ℕ)) → IsRequest r → e.max ≤ 1024 → IsLeftBelow e r i place (wired fixed w) l acts b s.hand s.parts n
      → LeftMoves e r i place (wired fixed w) (wired fixed (controller_next fixed w)) l acts b (standing_then s w c.event).hand
      (standing_then s w c.event).parts n × ((standing_then s w c.event).parts n ≡ s.parts n)
  left_by (of_ring effect nothing) r b l acts request room o =
      ring_keeps_left s.member e r i place b n s.parts s.hand (walk_place (controller_parts w)).walk.reply wire after now later l acts
      request room ring.members ring.in_hand ring_alone spares hubs (of_queues effect) o
  left_by (of_frame f) r b l acts request room o = (
    beside_keeps_left e r i place b n s.parts s.hand wire after now later l acts (part_stays f) f.hand_stays hubs
        (frame_begins f r l acts request room o.request) o,
    part_stays f,
  )

same_stages : (e : Endpoint) (o : Option Device) (c z : Stages) → o ≡ Some (device_of e c) → o ≡ Some (device_of e z) → c ≡ z
same_stages e o c z one other = ap (λ (d : Device). d.stages) (same_Some (device_of e c) (device_of e z) (sym one ∙ other))

pub unsent_acts_nothing : UnsentActsNothing
unsent_acts_nothing fixed x s m h w k c e i place n stages alone spared other o =
    let rests_then : HubRests e i place (wired fixed (controller_next fixed w)) stages =
    unsent_rests fixed x s m h w k c e i place n alone spared other stages o in (
      rests_then,
      λ acted moves.
          sym (moves_are_recorded e (wired fixed w) (wired fixed (controller_next fixed w)) acted moves)
          ∙ ap (λ (z : Stages). acted_between z moves.leaves)
          (same_stages e (control_at (wired fixed w) e.addr e.num) moves.before stages moves.was o.device)
          ∙ ap (acted_between stages)
          (same_stages e (control_at (wired fixed (controller_next fixed w)) e.addr e.num) moves.leaves stages moves.is rests_then.device)
          ∙ none_acted stages,
    )

-- ---- while its requests are asked

module _ (fixed : Fixed) (x : Sides) (s : Standing) (m : Told) (h : Heads) (w : World) (k : IsPiped fixed x s m h w)
    (c : IsMixedControlled fixed s w) (v : Queue) (i place n : ℕ) (l : Lines) (acts : List (List ℕ)) (ordered : AreOneByOne v)
    (room : v.endpoint.max ≤ 1024) (alone : IsAloneIn s w.driver v.endpoint n) (spared : IsSparedHub i (wired fixed w))
    (o : IsQueueBelow v i place (wired fixed w) l acts s.hand s.parts n) where
  queue_by : BothEffect begins_by transacts_by (both s.descs s.parts) w.control s.hand s.frame (wired fixed w)
      (wired fixed (controller_next fixed w)) c.event.now c.event.later c.event.frame_later
      → QueueMoves v i place (wired fixed w) (wired fixed (controller_next fixed w)) l acts (standing_then s w c.event).hand
      (standing_then s w c.event).parts n
  queue_by (of_ring effect nothing) =
      let y = ring fixed x s m h w k c v.endpoint i place n alone spared in
      ring_keeps_queue s.member v i place n s.parts s.hand (walk_place (controller_parts w)).walk.reply (wired fixed w)
      (wired fixed (controller_next fixed w)) (parts_now s.descs s.parts c.event.now) c.event.later l acts ordered room y.members y.in_hand
      (ring_alone fixed x s m h w k c v.endpoint i place n alone spared) (spares fixed x s m h w k c v.endpoint i place n alone spared)
      (hubs fixed x s m h w k c v.endpoint i place n alone spared)
      (of_queues fixed x s m h w k c v.endpoint i place n alone spared effect) o
  queue_by (of_frame f) =
      beside_keeps_queue v i place n s.parts s.hand (wired fixed w) (wired fixed (controller_next fixed w))
      (parts_now s.descs s.parts c.event.now) c.event.later l acts (part_stays fixed x s m h w k c v.endpoint i place n alone spared f)
      f.hand_stays (hubs fixed x s m h w k c v.endpoint i place n alone spared)
      (frame_begins fixed x s m h w k c v.endpoint i place n alone spared f (v.requests l.under) (l.line l.under) acts
      (ordered.requests l.under o.within) room o.window.request) o

pub controller_keeps_queue_below : ControllerKeepsQueueBelow
controller_keeps_queue_below fixed x s m h w k c v i place n l acts ordered room alone spared o =
    queue_by fixed x s m h w k c v i place n l acts ordered room alone spared o c.event.effect

pub controller_keeps_rest_below : ControllerKeepsRestBelow
controller_keeps_rest_below fixed x s m h w k c e i place b n stages alone spared o =
    rest_by fixed x s m h w k c e i place n alone spared c.event.effect b stages o

pub controller_keeps_left_below : ControllerKeepsLeftBelow
controller_keeps_left_below fixed x s m h w k c e r i place b n l acts request room alone spared o =
    left_by fixed x s m h w k c e i place n alone spared c.event.effect r b l acts request room o
