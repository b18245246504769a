-- Each event of the controller leaves errors to the queue of each bulk and control endpoint below a hub, where its hub is heard and spared.
use Rattle.std.proofs.Common.{◌≡◌, ℕ, ◌*◌, ◌==◌, Bool, true, false, not, ◌&&◌, List, slice_get, Some}
use Rattle.std.proofs.Common.{ap, refl, sym, subst, ◌∙◌, ⊎_elim, ◌≤◌, Option}
use Rattle.std.specs.Prelude.{slice_index}
use Rattle.std.specs.List.{AllByRecursion}
use Rattle.std.proofs.lemmas.Bool.{and_parts, eqb-true, eq-eqb, false≢true, true≢false}
use Rattle.std.proofs.lemmas.Option.{same_Some}
use Rattle.law_common.proofs.Booleans.{not_high}
use Rattle.usb_base.specs.declared.endpoints.EpDesc.{EpDesc}
use Rattle.usb_base.specs.declared.packets.Ask.{Ask}
use Rattle.usb_base.specs.declared.packets.Dir.{Dir}
use Rattle.usb_base.specs.declared.packets.EpKind.{EpKind}
use Rattle.usb_base.specs.declared.packets.EpKind.TheVariants as kinds
use Rattle.usb_base.specs.declared.packets.Pid.{Pid}
use Rattle.usb_base.specs.declared.packets.Pid.TheVariants as pids
use Rattle.usb_base.specs.declared.packets.Speed.{Speed}
use Rattle.usb_base.specs.declared.packets.Speed.TheVariants as speeds
use Rattle.usb_base.specs.declared.packets.Way.{Way}
use Rattle.usb_base.specs.declared.packets.Way.TheVariants as ways
use Rattle.script_types.specs.declared.scripts.Script.{Script}
use Rattle.script_text.specs.Faults.{Spells}
use Rattle.word_mem.specs.Memory.{Mem}
use Rattle.link_words.specs.Layout.{bits}
use Rattle.hub_keys.specs.Keys.{direction_of}
use Rattle.hub_keys.specs.declared.key.Key.{Key as HubKey}
use Rattle.bus_wire.specs.Asking.{translator_answer}
use Rattle.bus_wire.specs.Bus.{Wired, fixed_of}
use Rattle.qh_qtd.specs.declared.queue_head.Qh.{Qh}
use Rattle.qh_qtd.specs.QueueHead.{qh_words}
use Rattle.mem_queues.specs.Structures.{queue_head_at_address}
use Rattle.toggle_error.specs.declared.host.HostSide.{HostSide}
use Rattle.hc_copy.specs.Planning.{pid_at, host_in, transaction_of}
use Rattle.hc_copy.specs.Transacting.{call_in}
use Rattle.hc_interrupt.specs.declared.turns.Turn.TheVariants as queue_turns
use Rattle.hc_interrupt.specs.Turns.{turn_of, is_last_of, planned}
use Rattle.async_walk.specs.Naks.{kind_at, planned as ring_planned}
use Rattle.hc_core.specs.Controller.{walk_place}
use Rattle.claims_driver.specs.Leaving.{HasOwners}
use Rattle.claims_world.specs.Quiet.{GetsThroughAbove}
use Rattle.drv_periodic_table.specs.Periodic.{is_periodic}
use Rattle.drv_table.specs.declared.content.Endpoint.{Endpoint}
use Rattle.drv_table.specs.DriverContent.{DriverContent}
use Rattle.drv_table.specs.Kinds.{is_iso}
use Rattle.drv_table.specs.Words.{is_control, is_high, speed_field, head_block, opening_head}
use Rattle.claims_driver.specs.InPlace.{AreFixed}
use Rattle.law_driver.specs.queued_drivers.Queued.{IsOfWay}
use Rattle.law_driver_ring.specs.fed_queues.Places.{HasHead}
use Rattle.law_structures.specs.lent_structures.Structures.{QueueHead, Structures}
use Rattle.law_structures.specs.lent_structures.Sound.{IsWorking, IsSoundQueue}
use Rattle.law_structures.proofs.lemmas.lent_structures.Altering.{found_queue}
use Rattle.law_structures.proofs.lemmas.lent_structures.Reading.{head_read}
use Rattle.law_ring.specs.Hand.{Hand, Copied}
use Rattle.law_ring.specs.Effects.{settlement, settlement_as, Makes}
use Rattle.law_ring.specs.QueueParts.{IsQueuePart}
use Rattle.law_ring.specs.Ring.{IsCopied, IsInHand}
use Rattle.law_ring.specs.Told.{Endpoint as Told, endpoint_of, HasEndpoint}
use Rattle.law_frames.specs.Frame.{IsCopiedQueue}
use Rattle.law_frames.specs.FrameHand.{FrameHand}
use Rattle.law_frames.specs.FrameHand.FrameHand.{Nothing as NoneHeld}
use Rattle.law_frames.specs.FrameEffects.{frame_settlement, MakesOfQueue}
use Rattle.law_controller.specs.frame_control.Joined.{joined}
use Rattle.law_descriptors.specs.Both.{both}
use Rattle.law_descriptors.specs.Meeting.{met}
use Rattle.law_below_hubs.specs.Awaited.{awaits, awaits_in, KeyStands, Asking, Moves, Controls, its_kind, IsCodeOf, IsSplitTo, own_key, OwnAwaited}
use Rattle.law_below_hubs.specs.HostEvents.{hand_host, told_key}
use Rattle.law_below_hubs.specs.Splits.{IsAtHub}
use Rattle.law_below_hubs.proofs.AwaitedEvents.{own_awaits, faces_own, own_split}
use Rattle.law_below_hubs.proofs.AwaitedKeys.{own_splits_are_awaited}
use Rattle.law_microframes.proofs.lemmas.visits.AskedHeads.{asked_is_near}
use Rattle.law_microframes.proofs.lemmas.visits.BelongReads.{read_fields}
use Rattle.law_world.specs.steps.Streaming.{transacts_by, wired}
use Rattle.law_world.specs.memory.Mixed.{Standing, IsMixedAt}
use Rattle.law_world.specs.memory.Steps.{IsEventOf, standing_then}
use Rattle.law_world.proofs.lemmas.memory.HarvestKept.{tells_of}
use Rattle.bus_world.specs.World.{World, controller_parts, controller_next}
use Rattle.law_reports.specs.lines.Lined.{in_hand, Lines}
use Rattle.law_reports.specs.pipes.Declared.{sides_of}
use Rattle.law_reports.specs.pipes.Piped.{Heads, asked_as, IsPiped}
use Rattle.law_reports.specs.pipes.puts.Paid.{Pays}
use Rattle.law_reports.specs.pipes.below_hubs.Behind.{IsBehind}
use Rattle.law_reports.specs.pipes.below_hubs.BehindLaws.{hub_of, place_of, spots_of}
use Rattle.law_reports.proofs.lemmas.pipes.Controlled.{c as controlled_event}
use Rattle.law_reports.proofs.lemmas.pipes.Names.{IsMetHead, met_head, same_number, kept_as}
use Rattle.law_reports.proofs.lemmas.pipes.lemmas.below_hubs.Asked.{none_ringed}
use Rattle.law_reports.proofs.lemmas.pipes.lemmas.below_hubs.Controlled.{sound_at}
use Rattle.law_reports.specs.quiet.Awaiting.{is_buffered, is_buffered_below, is_buffered_asked, asking_of, IsAwaitingAt, AreNumbered}
use Rattle.law_reports.specs.quiet.Awaiting.{AreAwaited, HubsStand}
use Rattle.law_reports.specs.quiet.Awaiting.{SparesBuffers}
use Rattle.law_reports.specs.quiet.Errors.{key_of, TokenHasLeft, HostHasLeft}
use Rattle.law_reports.specs.quiet.Laws.{HasErrorsLeft}
use Rattle.law_reports.proofs.lemmas.quiet.AwaitedControlled.{moving, hub_heard}
use Rattle.law_reports.proofs.lemmas.quiet.Rows.{missed_stays}
use Rattle.law_reports.proofs.lemmas.quiet.SetupRoom.{fits_whole, control_room}
use Rattle.law_reports.proofs.lemmas.quiet.Unmasked.{works_masked}
use Rattle.law_reports.proofs.lemmas.quiet.Worlds.{off, event_leaves_errors}

-- ---- the queue head of the ring itself is told as one at high speed (3.6.2 and 4.8)

head_speed : bits 13 12 (slice_index (qh_words opening_head) 1) ≡ 2
unfolding qh_words
head_speed = refl

ring_head_fast : (m : Mem) (d : DriverContent) → AreFixed m d → (q : Qh) → queue_head_at_address m (32 * head_block) ≡ Some q
    → (q.eps == 2) ≡ false → ⊥
ring_head_fast m d fixed q there slow =
    let r = read_fields m (32 * head_block) q there in
    true≢false (sym (eq-eqb q.eps 2 (r.eps ∙ ap (bits 13 12) fixed.head.characteristics ∙ head_speed)) ∙ slow)

-- ---- kinds

slow_by : (v : Speed) → (speed_field v == 2) ≡ false → is_high v ≡ false
slow_by speeds.High is = absurd (true≢false is)
slow_by speeds.Full is = refl
slow_by speeds.Low is = refl

buffered_by : (kind : EpKind) → is_iso kind ≡ false → is_periodic kind ≡ false → is_buffered kind ≡ true
buffered_by kinds.Bulk iso ring = refl
buffered_by kinds.Control iso ring = refl
buffered_by kinds.Iso iso ring = absurd (true≢false iso)
buffered_by kinds.Interrupt iso ring = absurd (true≢false ring)

ring_kind : (a : Asking) → kind_at (is_control (its_kind a)) ≡ its_kind a
ring_kind (Moves code) = refl
ring_kind Controls = refl

module _ (text : List ℕ) (s : Script) (spelled : Spells text s) (packets : AllByRecursion GetsThroughAbove s.fates) (st : Standing) (m : Lines)
    (h : Heads) (puts : ℕ → List ℕ) (w : World) (k : IsPiped (fixed_of s) (sides_of s) st m h w)
    (pays : Pays (fixed_of s) (sides_of s) st m puts w) (b : IsBehind (fixed_of s) (spots_of s) st m puts w) (a : AreAwaited s st w)
    (hubs : HubsStand s w.bus) (numbers : AreNumbered s w.bus) (spares : SparesBuffers s w) (left : HasErrorsLeft is_buffered_asked st w) where
  abbrev wire : Wired
  wire = wired (fixed_of s) w

  abbrev after : Wired
  after = wired (fixed_of s) (controller_next (fixed_of s) w)

  mixed : IsMixedAt st w
  mixed = k.mixed

  abbrev event : IsEventOf (fixed_of s) st w
  event = (controlled_event (fixed_of s) (sides_of s) st m h w k).event

  owners : HasOwners w.driver
  owners = k.mixed.now.framed.place.sound.owners

  own_here : (n : ℕ) (q : Qh) → both st.descs st.parts n n ≡ Some (QueueHead q) → st.parts n n ≡ Some (QueueHead q)
  own_here n q here = ap (λ (part : Structures). part n) (sym (off is_buffered_asked (fixed_of s) st w mixed event left n q here)) ∙ here

  token_at : (n : ℕ) (q : Qh) → both st.descs st.parts n n ≡ Some (QueueHead q) → TokenHasLeft is_buffered_asked (key_of q) q.token
  token_at n q here = (left.parts n).head q (own_here n q here)

  -- ---- one that the ring asks is of a bulk or control endpoint

  module _ (n : ℕ) (q : Qh) (slow : (q.eps == 2) ≡ false) (here : st.parts n n ≡ Some (QueueHead q))
      (near : st.near n ≡ true) (member : st.member n ≡ true) where
    read : queue_head_at_address w.memory n ≡ Some q
    read = head_read w.memory st.parts n n q (tells_of st w mixed) here

    not_ring : n ≡ 32 * head_block → ⊥
    not_ring same =
        ring_head_fast w.memory w.driver mixed.now.framed.place.fixed q
        (subst (λ (i : ℕ). queue_head_at_address w.memory i ≡ Some q) same read) slow

    of_endpoint : IsMetHead w.driver n
    of_endpoint =
        ⊎_elim (λ (ring : n ≡ 32 * head_block). absurd (not_ring ring)) (λ (u : IsMetHead w.driver n). u)
        (met_head w.driver st.near mixed.queues.queues.met n near)

    abbrev y : Endpoint
    y = of_endpoint.endpoint

    abbrev x : EpDesc
    x = of_endpoint.endpoint.desc

    has_end : (c : Bool) → h.ins n ≡ c → HasEndpoint st.parts n (h.ends n)
    has_end true is = (k.pipes.in_pipes.pipes n is).named
    has_end false is = (k.pipes.in_pipes.others n near is).0

    asked : endpoint_of q ≡ asked_as of_endpoint.endpoint.desc
    asked =
        let e = has_end (h.ins n) refl in
        ap endpoint_of (found_queue (st.parts n n) q e.queue here e.head) ∙ sym e.is
        ∙ (ap h.ends of_endpoint.at ∙ k.named of_endpoint.number of_endpoint.endpoint of_endpoint.here of_endpoint.met)

    kept : (y.gone ≡ false) × (is_iso x.kind ≡ false)
    kept = kept_as of_endpoint.endpoint of_endpoint.met.there.kept

    ringed : is_periodic of_endpoint.endpoint.desc.kind ≡ false
    ringed =
        ⊎_elim (λ (ring : n ≡ 32 * head_block). absurd (not_ring ring))
        (λ (u : HasHead w.driver n). by u (is_periodic x.kind) refl)
        (mixed.ring.only n member)
      where
        by : HasHead w.driver n → (c : Bool) → is_periodic of_endpoint.endpoint.desc.kind ≡ c → is_periodic of_endpoint.endpoint.desc.kind ≡ false
        by u false off_it = off_it
        by u true on =
            let alive : (u.endpoint.gone ≡ false) × (is_iso u.endpoint.desc.kind ≡ false) = (
              u.met.there.kept,
              iso_off u.endpoint.desc.kind
                  (λ iso. none_iso u iso),
            ) in
            let same : u.number ≡ of_endpoint.number =
            same_number w.driver owners u.number of_endpoint.number u.endpoint y u.here of_endpoint.here alive kept (sym u.at ∙ of_endpoint.at) in
            let one : u.endpoint ≡ y = same_Some u.endpoint y (sym u.here ∙ ap (slice_get w.driver.endpoints) same ∙ of_endpoint.here) in
            absurd (none_ringed w.driver u.number u.endpoint owners u.here (ap (λ (v : Endpoint). is_periodic v.desc.kind) one ∙ on) u.met.near)
          where
            iso_off : (kind : EpKind) → (is_iso kind ≡ true → ⊥) → is_iso kind ≡ false
            iso_off kinds.Iso never = absurd (never refl)
            iso_off kinds.Bulk never = refl
            iso_off kinds.Interrupt never = refl
            iso_off kinds.Control never = refl

            iso_periodic : (kind : EpKind) → is_iso kind ≡ true → is_periodic kind ≡ true
            iso_periodic kinds.Iso iso = refl
            iso_periodic kinds.Bulk iso = absurd (false≢true iso)
            iso_periodic kinds.Interrupt iso = absurd (false≢true iso)
            iso_periodic kinds.Control iso = absurd (false≢true iso)

            none_iso : (u : HasHead w.driver n) → is_iso u.endpoint.desc.kind ≡ true → ⊥
            none_iso u iso = none_ringed w.driver u.number u.endpoint owners u.here (iso_periodic u.endpoint.desc.kind iso) u.met.near

    is_buffered_end : is_buffered_below of_endpoint.endpoint.desc ≡ true
    is_buffered_end =
        ap (λ (c : Bool). c && not (is_high x.speed)) (buffered_by x.kind kept.1 ringed)
        ∙ ap not (slow_by x.speed (ap (λ (e : Told). e.speed == 2) (sym asked) ∙ slow))

    awaiting : IsAwaitingAt s wire st of_endpoint.endpoint
    awaiting = a.met of_endpoint.number of_endpoint.endpoint of_endpoint.here is_buffered_end of_endpoint.met

  -- ---- in the ring

  module _ (empty : st.frame ≡ NoneHeld)
      (v : Makes transacts_by (both st.descs st.parts) st.hand (wired (fixed_of s) w)
      (wired (fixed_of s) (controller_next (fixed_of s) w)) event.later)
      (here : both st.descs st.parts v.copy.at v.copy.at ≡ Some (QueueHead v.copy.queue)) where
    abbrev q : Qh
    q = v.copy.queue

    abbrev n : ℕ
    n = v.copy.at

    own : st.parts n n ≡ Some (QueueHead v.copy.queue)
    own = own_here n q here

    joined_is : joined st.hand st.frame ≡ Copied v.copy
    joined_is = ap (λ (f : FrameHand). joined st.hand f) empty ∙ v.in_hand

    near : st.near v.copy.at ≡ true
    near = asked_is_near st w mixed v.copy joined_is own v.works

    member : st.member v.copy.at ≡ true
    member =
        let c : IsCopied st.member (both st.descs st.parts) v.copy =
        subst (IsInHand st.member (both st.descs st.parts) (walk_place (controller_parts w)).walk.reply) v.in_hand
        mixed.now.framed.runs.ring.in_hand in
        c.on

    module _ (on : is_buffered_asked (key_of v.copy.queue) ≡ true) where
      parts_on : (not (q.eps == 2) ≡ true) × ((q.smask == 0) ≡ true)
      parts_on = and_parts (not (q.eps == 2)) (q.smask == 0) on

      slow : (q.eps == 2) ≡ false
      slow = not_high (q.eps == 2) (sym parts_on.0)

      abbrev its : IsMetHead w.driver v.copy.at
      its = of_endpoint n q slow own near member

      buffered : is_buffered_below its.endpoint.desc ≡ true
      buffered = is_buffered_end n q slow own near member

      abbrev way : Way
      way = its.endpoint.desc.name.way

      abbrev asking : Asking
      asking = asking_of its.endpoint.desc.name.way

      abbrev kind : EpKind
      kind = its_kind (asking_of its.endpoint.desc.name.way)

      stands : IsAwaitingAt s wire st its.endpoint
      stands = awaiting n q slow own near member

      queue_is : stands.queue ≡ v.copy.queue
      queue_is =
          found_queue (st.parts n n) stands.queue q (ap (λ (i : ℕ). st.parts i i) its.at ∙ stands.head) own

      host_is : hand_host (in_hand st) (32 * its.endpoint.queue) stands.queue ≡ host_in v.copy.queue
      host_is = ap (λ (l : Hand). hand_host l (32 * its.endpoint.queue) stands.queue) joined_is ∙ ap host_in queue_is

      asked_is : endpoint_of v.copy.queue ≡ asked_as its.endpoint.desc
      asked_is = ap endpoint_of (sym queue_is) ∙ sym stands.is

      ring_is : kind_at v.copy.queue.dtc ≡ its_kind (asking_of its.endpoint.desc.name.way)
      ring_is = ap kind_at (ap (λ (e : Told). e.dtc) asked_is ∙ stands.own) ∙ ring_kind asking

      abbrev place : ℕ
      place = 32 * its.endpoint.queue

      its_here : st.parts (32 * its.endpoint.queue) (32 * its.endpoint.queue) ≡ Some (QueueHead v.copy.queue)
      its_here = ap (λ (i : ℕ). st.parts i i) (sym its.at) ∙ own

      part : IsQueuePart (32 * its.endpoint.queue) (st.parts (32 * its.endpoint.queue))
      part = sound_at st w mixed its.number its.endpoint its.here its.met

      working : IsWorking (st.parts (32 * its.endpoint.queue)) v.copy.queue
      working =
          (subst (IsSoundQueue (st.parts place)) (found_queue (st.parts place place) part.queue q part.here its_here) part.sound).work v.works

      code_is : IsCodeOf (asking_of its.endpoint.desc.name.way) v.copy.queue.token.pid
      code_is =
          subst (IsCodeOf (asking_of its.endpoint.desc.name.way)) (sym working.pid)
          (stands.ways q.current working.element working.here working.published)

      abbrev own_dir : Dir
      own_dir = direction_of (pid_at v.copy.queue.token.pid)

      key_is : told_key kind own_dir (asked_as its.endpoint.desc) ≡ own_key kind v.copy.queue.token.pid v.copy.queue
      key_is = ap (told_key kind own_dir) (sym asked_is)

      abbrev hub_place : ℕ
      hub_place = hub_of s its.endpoint.desc.hub

      abbrev tt_place : ℕ
      tt_place = place_of s its.endpoint.desc.hub its.endpoint.desc.port

      its_hub : IsAtHub w.bus.hubs v.copy.queue.hub v.copy.queue.port hub_place tt_place
      its_hub = subst (λ (e : Told). IsAtHub w.bus.hubs e.hub e.port hub_place tt_place) (sym asked_is) stands.hub

      abbrev Told_key : Option Pid → Type 0
      Told_key o = KeyStands (told_key kind own_dir (asked_as its.endpoint.desc)) hub_place tt_place wire o

      its_key : KeyStands (own_key kind v.copy.queue.token.pid v.copy.queue) hub_place tt_place wire
          (awaits v.copy.queue.token.split_state (pid_at v.copy.queue.token.pid))
      its_key =
          subst (λ (key : HubKey). KeyStands key hub_place tt_place wire
          (awaits v.copy.queue.token.split_state (pid_at v.copy.queue.token.pid))) key_is
          (subst Told_key (own_awaits v.copy.queue.token.split_state (pid_at v.copy.queue.token.pid))
          (subst (λ (host : HostSide). Told_key (awaits_in own_dir host.waiting (pid_at v.copy.queue.token.pid))) host_is
          (subst (λ (y : Qh). Told_key (awaits_in own_dir (hand_host (in_hand st) (32 * its.endpoint.queue) stands.queue).waiting
          (pid_at y.token.pid))) queue_is
          (stands.keys own_dir (faces_own asking v.copy.queue.token.pid code_is)))))

      abbrev ask : Ask
      ask = (call_in (transaction_of kind v.copy.queue) v.out false).ask

      abbrev goes : List ℕ
      goes = (call_in (transaction_of kind v.copy.queue) v.out false).out

      made : transacts_by wire ask goes v.reply after
      made =
          subst (λ (c : EpKind). transacts_by wire (call_in (transaction_of c v.copy.queue) v.out false).ask
          (call_in (transaction_of c v.copy.queue) v.out false).out v.reply after) ring_is v.made

      says : v.reply ≡ translator_answer (slice_get w.bus.hubs hub_place) ask
      says =
          let o = own_split kind v.copy.queue v.out slow in
          hub_heard text s spelled packets st m h puts w k pays b a hubs numbers spares its.endpoint.desc
          (a.served its.number its.endpoint its.here).opened buffered asking v.copy.queue.token.pid (moving way) code_is
          (own_key kind v.copy.queue.token.pid v.copy.queue)
          its_key.ends ask goes v.reply (subst (λ (e : Told). IsSplitTo e.hub e.port ask.split) asked_is o.0) o.1 o.2 made

      awaited : OwnAwaited kind v.copy.queue v.out v.reply hub_place tt_place after
      awaited =
          own_splits_are_awaited asking v.copy.queue hub_place tt_place wire after v.out v.reply
          (record { below = slow; moving = moving way; code = code_is }) v.works its_hub made says its_key

      errors : (settlement v.copy.queue v.out v.reply).host.cerr ≡ v.copy.queue.token.cerr
      errors =
          ap (λ (c : EpKind). (settlement_as c v.copy.queue v.out false v.reply).host.cerr) ring_is ∙ awaited.errors

      -- a SETUP goes out whole: its packet holds eight bytes at least (USB 2.0, 5.5.3)
      setup_left : pid_at v.copy.queue.token.pid ≡ pids.Setup → v.copy.queue.token.total ≡ 8
          → (settlement v.copy.queue v.out v.reply).host.active ≡ true → (settlement v.copy.queue v.out v.reply).host.left ≡ 8
      setup_left pid whole =
          subst (λ (c : EpKind). (settlement_as c v.copy.queue v.out false v.reply).host.active ≡ true
          → (settlement_as c v.copy.queue v.out false v.reply).host.left ≡ 8) (sym ring_is)
          (λ act. awaited.whole pid (fits_whole v.copy.queue whole room) act ∙ whole)
        where
          control_by : (v : Way) (sort : EpKind) (code : ℕ) → IsOfWay v sort → pid_at code ≡ pids.Setup → IsCodeOf (asking_of v) code
              → sort ≡ kinds.Control
          control_by ways.In sort code of setup one = absurd (let e : pids.In ≡ pids.Setup = ap pid_at (sym one) ∙ setup in cc)
          control_by ways.Out sort code of setup none = absurd (let e : pids.Out ≡ pids.Setup = ap pid_at (sym none) ∙ setup in cc)
          control_by ways.Ctl sort code of setup any = of

          fits : IsOfWay its.endpoint.desc.name.way its.endpoint.desc.kind
          fits = mixed.turns.kinds_fit its.number its.endpoint its.here

          room : 8 ≤ v.copy.queue.max
          room =
              subst (λ (e : Told). 8 ≤ e.max) (sym asked_is)
              (control_room text s spelled its.endpoint.desc (a.served its.number its.endpoint its.here).opened
              (control_by its.endpoint.desc.name.way its.endpoint.desc.kind v.copy.queue.token.pid fits pid code_is))

    pub ring_left : HostHasLeft is_buffered_asked (key_of v.copy.queue) v.copy.queue.token.pid (settlement v.copy.queue v.out v.reply).host
    ring_left =
        let t : TokenHasLeft is_buffered_asked (key_of q) q.token = token_at n q here in
        record {
          met = λ fast.
              missed_stays (call_in (ring_planned q) v.out false).ask (call_in (ring_planned q) v.out false).sent false v.reply (host_in q)
              ∙ t.met fast;
          going = λ on act none. t.going on v.works (sym (errors on) ∙ none);
          stopped = λ on act none. t.going on v.works (sym (errors on) ∙ none);
          setup = λ on pid act. setup_left on pid (t.setup on pid v.works) act;
        }

  -- ---- in the frames none is asked

  frame_left : (v : MakesOfQueue transacts_by (both st.descs st.parts) w.control.frame st.frame (wired (fixed_of s) w) (wired (fixed_of s)
      (controller_next (fixed_of s) w)) event.frame_later) → IsCopiedQueue (met w.driver st.recent) (both st.descs st.parts) v.copy
      → HostHasLeft is_buffered_asked (key_of v.copy.queue) v.copy.queue.token.pid
      (frame_settlement w.control.frame.index v.copy.queue v.out v.reply).host
  frame_left v copied =
      let q = v.copy.queue in
      let t : TokenHasLeft is_buffered_asked (key_of q) q.token = token_at v.copy.at q copied.here in
      record {
        met = λ fast.
            missed_stays (call_in (planned q) v.out (is_last_of w.control.frame.index q)).ask
            (call_in (planned q) v.out (is_last_of w.control.frame.index q)).sent (is_last_of w.control.frame.index q) v.reply (host_in q)
            ∙ t.met fast;
        going = λ on act. absurd (never q v.turn on);
        stopped = λ on act. absurd (never q v.turn on);
        setup = λ on pid act. absurd (never q v.turn on);
      }
    where
      never : (q : Qh) → turn_of w.control.frame.index q ≡ queue_turns.Work → is_buffered_asked (key_of q) ≡ true → ⊥
      never q turn on =
          works_masked w.control.frame.index q (eqb-true q.smask 0 (and_parts (not (q.eps == 2)) (q.smask == 0) on).1) turn

  pub controlled_left : HasErrorsLeft is_buffered_asked (standing_then st w (controlled_event (fixed_of s) (sides_of s) st m h w k).event)
      (controller_next (fixed_of s) w)
  controlled_left = event_leaves_errors is_buffered_asked (fixed_of s) st w mixed event left ring_left (λ empty. frame_left)
