-- Each event of the controller leaves the streams so, where isochronous transactions ask none of them.
use Rattle.std.proofs.Common.{◌≡◌, ℕ, ◌*◌, Bool, true, false, List, ◌++◌, slice_get, Some, ap, refl, sym, subst, ◌∙◌}
use Rattle.std.specs.Prelude.{◌⊎◌}
use Rattle.std.specs.List.{concat}
use Rattle.std.proofs.lemmas.Bool.{true≢false}
use Rattle.std.proofs.lemmas.List.{append-nil}
use Rattle.std.proofs.lemmas.Option.{same_Some}
use Rattle.law_driver.proofs.Common.{of_queue}
use Rattle.usb_base.specs.declared.packets.Way.TheVariants as ways
use Rattle.bus_wire.specs.Bus.{Wired, Fixed}
use Rattle.claims_base.specs.Controller.{opening_base}
use Rattle.claims_base.specs.Prefix.{IsPrefix}
use Rattle.claims_report.specs.Streams.{told_in}
use Rattle.claims_driver.specs.Leaving.{HasOwners}
use Rattle.drv_table.specs.declared.content.Command.TheVariants as unfinished
use Rattle.drv_table.specs.declared.content.Endpoint.{Endpoint}
use Rattle.drv_table.specs.DriverContent.{DriverContent}
use Rattle.law_driver.specs.endpoint_lives.Lives.{may_meet}
use Rattle.law_driver.specs.queued_drivers.Queued.{queued_endpoint, queued}
use Rattle.qh_qtd.specs.declared.queue_head.Qh.{Qh}
use Rattle.law_structures.specs.lent_structures.Structures.{QueueHead, StructureSets}
use Rattle.law_ring.specs.Hand.{Hand}
use Rattle.law_frames.specs.FrameHand.{FrameHand}
use Rattle.op_registers.specs.Events.{next_index}
use Rattle.hc_core.specs.declared.controller.ControllerRow.{ControllerRow}
use Rattle.hc_core.specs.declared.controller.ControllerRow.TheVariants as rows
use Rattle.hc_core.specs.Controller.{HasRow}
use Rattle.law_controller.specs.controlled_streams.Control.{a_microframe, a_step}
use Rattle.law_controller.specs.frame_control.Both.{BothEffect, of_ring, of_frame}
use Rattle.law_ring.specs.Bus.{Sender}
use Rattle.law_ring.specs.OutBus.{Taker}
use Rattle.law_controller.specs.controlled_streams.Unopened.{IsUntouched, IsUnopened}
use Rattle.law_controller.specs.frame_control.Joined.{joined, BothStreamEffect, begun, moved}
use Rattle.law_driver_ring.specs.fed_queues.Places.{IsMet, AreMet}
use Rattle.law_queues.specs.told_endpoints.Telling.{lines_in}
use Rattle.law_devices.specs.Senders.{sender_of}
use Rattle.law_devices.specs.scripted_takers.Takers.{taker_of}
use Rattle.law_devices.proofs.Asking.{a_scripted_bus_sends_its_streams}
use Rattle.law_devices.proofs.Beginning.{a_microframe_keeps_its_senders}
use Rattle.law_devices.proofs.lemmas.scripted_takers.Asking.{a_scripted_bus_takes_its_streams}
use Rattle.law_devices.proofs.lemmas.scripted_takers.Beginning.{a_microframe_keeps_its_takers}
use Rattle.law_descriptors.specs.Both.{both, parts_now}
use Rattle.law_descriptors.specs.Meeting.{met}
use Rattle.law_descriptors.specs.PartLaws.{IsDescribing}
use Rattle.law_descriptors.specs.queue_events.Pipes.{AskedAreNear}
use Rattle.law_descriptors.proofs.lemmas.queue_events.Streams.{both_streams}
use Rattle.law_frames.specs.FrameStreams.{IsIsoAsk}
use Rattle.law_world.specs.steps.Outs.{IsUntaken}
use Rattle.law_world.specs.steps.Streaming.{begins_by, transacts_by, wired}
use Rattle.law_world.specs.memory.Mixed.{Standing}
use Rattle.law_world.specs.memory.framed_memory.Now.{recent_then, FramedNowAfter}
use Rattle.law_world.specs.memory.Steps.{standing_then, IsEventOf, IsMixedControlled}
use Rattle.law_world.specs.memory.pipe_steps.Events.{PipesGoOn}
use Rattle.law_world.proofs.lemmas.memory.Controller.{world_then}
use Rattle.law_world.proofs.lemmas.memory.lemmas.framed_memory.NowControlled.{controller_keeps_now}
use Rattle.law_world.proofs.lemmas.steps.StreamTurning.{world_has_row}
use Rattle.law_world.proofs.lemmas.steps.lemmas.world_bytes.Hearing.{a_bus_of_bytes_is_heard_as_bytes}
use Rattle.law_reports.specs.lines.Lined.{in_hand, Lines}
use Rattle.law_reports.proofs.lemmas.lines.IsoGoing.{told_apart}
use Rattle.law_reports.proofs.lemmas.lines.ToldEvents.{controller_keeps_telling}
use Rattle.law_microframes.specs.visits.WorldPipes.{IsIsoBeside, EventOf}
use Rattle.law_microframes.proofs.lemmas.visits.AskedHeads.{asked_is_near}
use Rattle.law_microframes.proofs.lemmas.visits.WorldPipes.{controller_keeps_pipes}
use Rattle.bus_world.specs.World.{World, controller_parts, controller_row, controller_next}
use Rattle.law_reports.specs.pipes.Begun.{IsOfRow}
use Rattle.law_reports.specs.pipes.Declared.{Sides}
use Rattle.law_reports.specs.pipes.Piped.{Heads, asked_as, IsOpening, AreFresh, IsNewHead, HaveNewHeads, HasTakenAtLeast, HasBegun}
use Rattle.law_reports.specs.pipes.Piped.{AreLeft, IsPiped, IsFollowed}
use Rattle.law_reports.proofs.lemmas.pipes.IsoBeside.{names_keep_beside}
use Rattle.law_reports.proofs.lemmas.pipes.NamesKept.{controller_keeps_names}
use Rattle.law_reports.proofs.lemmas.pipes.Names.{queue_same, kept_as, unasked, unmet_off, name_is}
use Rattle.law_reports.proofs.lemmas.pipes.Waiting.{sender_waits, taker_waits, idle_waits, taker_or_parts}
use Rattle.law_reports.proofs.lemmas.pipes.Waiting.{none_moved, named_still, toggle_still}
use Rattle.law_reports.proofs.lemmas.pipes.StartingHeads.{starts_then, idle_then}

module _ (fixed : Fixed) (x : Sides) (s : Standing) (m : Lines) (h : Heads) (w : World) (k : IsPiped fixed x s m h w) where
  abbrev d : DriverContent
  d = w.driver

  abbrev new : World
  new = controller_next fixed w

  abbrev wire : Wired
  wire = wired fixed w

  abbrev after : Wired
  after = wired fixed (controller_next fixed w)

  iso : IsIsoBeside s x.sends x.takes
  iso = names_keep_beside x s w k.mixed k.declared k.descriptors

  -- ---- the event, with the row by which a microframe begins

  abbrev Begins : Wired → ℕ → Bool → Wired → Type 0
  Begins u index allowed v =
      begins_by u index allowed v × ((index ≡ next_index w.registers.frame_index) × (controller_row w ≡ rows.Begin))

  row_named : (r : ControllerRow) → controller_row w ≡ r
      → HasRow begins_by transacts_by r (controller_parts w) (wired fixed w) (controller_parts (controller_next fixed w))
      (wired fixed (controller_next fixed w))
      → HasRow Begins transacts_by r (controller_parts w) (wired fixed w) (controller_parts (controller_next fixed w))
      (wired fixed (controller_next fixed w))
  row_named rows.Begin is row = record { allowed = row.allowed; asked = (row.asked, (refl, is)); contents = row.contents }
  row_named rows.Idle is row = row
  row_named rows.Frame is row = row
  row_named rows.Enter is row = row
  row_named rows.Go is row = row
  row_named rows.End is row = row

  named : FramedNowAfter Begins transacts_by opening_base s.member (recent_then (controller_row w) s.recent) s.descs s.parts s.hand s.frame
      (controller_parts w) w.driver (wired fixed w) (wired fixed (controller_next fixed w)) (controller_parts (controller_next fixed w))
  named =
      controller_keeps_now Begins transacts_by opening_base s.member s.recent s.descs s.parts s.hand s.frame (controller_parts w) w.driver
      (wired fixed w) (controller_parts (controller_next fixed w)) (wired fixed (controller_next fixed w)) k.mixed.now
      (a_bus_of_bytes_is_heard_as_bytes fixed w k.mixed.bytes (wired fixed (controller_next fixed w)))
      (row_named (controller_row w) refl (world_has_row fixed w))

  effect_of : {now : StructureSets} {later : Hand} {frame_later : FrameHand}
      → BothEffect Begins transacts_by (both s.descs s.parts) w.control s.hand s.frame (wired fixed w) (wired fixed (controller_next fixed w)) now later frame_later
      → BothEffect begins_by transacts_by (both s.descs s.parts) w.control s.hand s.frame (wired fixed w) (wired fixed (controller_next fixed w)) now later frame_later
  effect_of (of_ring (a_microframe b) nothing) =
      of_ring (a_microframe (record {
        index = b.index;
        allowed = b.allowed;
        asked = b.asked.0;
        parts_stay = b.parts_stay;
        hand_stays = b.hand_stays;
      })) nothing
  effect_of (of_ring (a_step r) nothing) = of_ring (a_step r) nothing
  effect_of (of_frame e) = of_frame e

  its_event : IsEventOf fixed s w
  its_event = record {
    now = named.now;
    later = named.later;
    frame_later = named.frame_later;
    effect = effect_of named.effect;
    framed = named.framed;
  }

  pub c : IsMixedControlled fixed s w
  c = record { event = its_event; mixed = world_then fixed s w k.mixed its_event }

  z_named : BothStreamEffect Begins (IsIsoAsk (both s.descs s.parts)) transacts_by s.parts (joined s.hand s.frame) (wired fixed w)
      (wired fixed (controller_next fixed w)) (parts_now s.descs s.parts named.now) (joined named.later named.frame_later)
  z_named =
      let f = k.mixed.now.framed in
      let describing : IsDescribing w.driver s.descs s.parts =
      record { owners = f.place.sound.owners; driven = f.driven; described = f.described } in
      both_streams Begins transacts_by opening_base s.member (met w.driver s.recent) w.driver s.descs s.parts s.hand s.frame
      (controller_parts w) (wired fixed w) (wired fixed (controller_next fixed w)) named.now named.later named.frame_later describing
      f.runs named.effect

  stream_of : {now : StructureSets} {later : Hand}
      → BothStreamEffect Begins (IsIsoAsk (both s.descs s.parts)) transacts_by s.parts (joined s.hand s.frame) (wired fixed w)
      (wired fixed (controller_next fixed w)) now later
      → BothStreamEffect begins_by (IsIsoAsk (both s.descs s.parts)) transacts_by s.parts (joined s.hand s.frame) (wired fixed w)
      (wired fixed (controller_next fixed w)) now later
  stream_of (begun index allowed asked told) = begun index allowed asked.0 told
  stream_of (moved y) = moved y

  pub z : EventOf fixed s w c.event
  unfolding c its_event
  z = stream_of z_named

  row_of_stream : {now : StructureSets} {later : Hand}
      → (y : BothStreamEffect Begins (IsIsoAsk (both s.descs s.parts)) transacts_by s.parts (joined s.hand s.frame) (wired fixed w)
      (wired fixed (controller_next fixed w)) now later) → IsOfRow w (stream_of y)
  unfolding stream_of
  row_of_stream (begun index allowed asked told) = asked.1
  row_of_stream (moved y) = tt

  -- a microframe begins by it in the row of that name alone
  pub z_row : IsOfRow w z
  unfolding c its_event z
  z_row = row_of_stream z_named

  pub goes : PipesGoOn x.sends x.takes x.packets sender_of taker_of s.near h.ins h.outs h.ends m.acc z
  goes = controller_keeps_pipes x.sends x.takes x.packets sender_of taker_of h.ins h.outs h.ends m.acc fixed s w
      (a_scripted_bus_sends_its_streams x.sends)
      (a_microframe_keeps_its_senders x.sends) (a_scripted_bus_takes_its_streams x.takes) (a_microframe_keeps_its_takers x.takes) k.mixed c
      k.by_way iso z k.pipes

  abbrev pub lines_then : Lines
  lines_then = record { acc = goes.moved; reported = m.reported }

  owners : HasOwners w.driver
  owners = k.mixed.now.framed.place.sound.owners

  near_are : AreMet (queued w.driver) s.near
  near_are = k.mixed.queues.queues.met

  asked : AskedAreNear s.near s.parts (joined s.hand s.frame)
  asked = asked_is_near s w k.mixed

  -- ---- names

  ins_unasked : (addr ep : ℕ) → ((e : ℕ) (y : Endpoint) → slice_get w.driver.endpoints e ≡ Some y → y.desc.name.way ≡ ways.In
      → y.desc.name.addr ≡ addr → y.desc.name.num ≡ ep → IsMet (queued w.driver) e (queued_endpoint y) → ⊥)
      → IsUnopened h.ins h.ends addr ep
  ins_unasked addr ep unmet =
      unasked w.driver s.near x.sends x.takes h.ins h.outs h.ends near_are k.by_way k.named ways.In addr ep
      (λ n on. k.pipes.in_ends.members n on) unmet

  pub outs_unasked : (addr ep : ℕ) → ((e : ℕ) (y : Endpoint) → slice_get w.driver.endpoints e ≡ Some y → y.desc.name.way ≡ ways.Out
      → y.desc.name.addr ≡ addr → y.desc.name.num ≡ ep → IsMet (queued w.driver) e (queued_endpoint y) → ⊥)
      → IsUnopened h.outs h.ends addr ep
  outs_unasked addr ep unmet =
      unasked w.driver s.near x.sends x.takes h.ins h.outs h.ends near_are k.by_way k.named ways.Out addr ep
      (λ n on. k.pipes.out_ends.members n on) unmet

  sender_stays : (addr ep : ℕ) → x.sends addr ep ≡ true → IsUnopened h.ins h.ends addr ep → (u : Sender)
      → sender_of (wired fixed w) addr ep ≡ Some u → sender_of (wired fixed (controller_next fixed w)) addr ep ≡ Some u
  sender_stays addr ep on unopened u is =
      sender_waits begins_by (IsIsoAsk (both s.descs s.parts)) transacts_by s.near h.ends s.parts (joined s.hand s.frame) wire after
      (parts_now s.descs s.parts c.event.now) (joined c.event.later c.event.frame_later) asked x.sends x.packets sender_of h.ins m.acc
      (a_scripted_bus_sends_its_streams x.sends) (a_microframe_keeps_its_senders x.sends) k.pipes.in_pipes iso.ins addr ep on unopened u is
      z

  pub taker_stays : (addr ep : ℕ) → x.takes addr ep ≡ true → IsUnopened h.outs h.ends addr ep → (u : Taker)
      → taker_of (wired fixed w) addr ep ≡ Some u → taker_of (wired fixed (controller_next fixed w)) addr ep ≡ Some u
  taker_stays addr ep on unopened u is =
      taker_waits begins_by (IsIsoAsk (both s.descs s.parts)) transacts_by s.near h.ends s.parts (joined s.hand s.frame) wire after
      (parts_now s.descs s.parts c.event.now) (joined c.event.later c.event.frame_later) asked x.takes taker_of h.outs
      (λ n. concat (m.acc n)) (a_scripted_bus_takes_its_streams x.takes) (a_microframe_keeps_its_takers x.takes) k.pipes.out_pipes iso.outs
      addr ep on u is unopened z

  -- .. nor one that is idle
  pub idle_taker_stays : (addr ep : ℕ) → x.takes addr ep ≡ true → (u : Taker) → taker_of (wired fixed w) addr ep ≡ Some u → (n : ℕ) (q : Qh)
      → s.parts n n ≡ Some (QueueHead q) → q.token.active ≡ false
      → ((i : ℕ) → h.outs i ≡ true → (h.ends i).addr ≡ addr → (h.ends i).ep ≡ ep → i ≡ n)
      → taker_of (wired fixed (controller_next fixed w)) addr ep ≡ Some u
  idle_taker_stays addr ep on u is n q head idle alone_at =
      idle_waits begins_by (IsIsoAsk (both s.descs s.parts)) transacts_by s.near h.ends s.parts (joined s.hand s.frame) wire after
      (parts_now s.descs s.parts c.event.now) (joined c.event.later c.event.frame_later) asked x.takes taker_of h.outs
      (λ n. concat (m.acc n)) (a_scripted_bus_takes_its_streams x.takes) (a_microframe_keeps_its_takers x.takes) k.pipes.out_pipes iso.outs
      addr ep on u is n q head
      idle alone_at z

  -- a device changes in an event that leaves memory as it is
  pub taker_or_parts_stay : (addr ep : ℕ) → x.takes addr ep ≡ true → (u : Taker) → taker_of (wired fixed w) addr ep ≡ Some u
      → (taker_of (wired fixed (controller_next fixed w)) addr ep ≡ Some u) ⊎ (parts_now s.descs s.parts c.event.now ≡ s.parts)
  taker_or_parts_stay addr ep on u is =
      taker_or_parts begins_by (IsIsoAsk (both s.descs s.parts)) transacts_by s.near h.ends s.parts (joined s.hand s.frame) wire after
      (parts_now s.descs s.parts c.event.now) (joined c.event.later c.event.frame_later) asked x.takes taker_of h.outs
      (λ n. concat (m.acc n)) (a_scripted_bus_takes_its_streams x.takes) (a_microframe_keeps_its_takers x.takes) k.pipes.out_pipes iso.outs
      addr ep on u is z

  -- ---- endpoints that aren't met

  pub off : (e : ℕ) (y : Endpoint) → slice_get w.driver.endpoints e ≡ Some y → (queued_endpoint y).gone ≡ false
      → (IsMet (queued w.driver) e (queued_endpoint y) → ⊥) → s.near (32 * y.queue) ≡ false
  off e y here kept unmet = unmet_off w.driver s.near owners near_are e y here kept unmet

  pub moved_same : (n : ℕ) → s.near n ≡ false → concat (goes.moved n) ≡ concat (m.acc n)
  moved_same n none =
      goes.adds n ∙ ap (λ (bs : List ℕ). concat (m.acc n) ++ bs)
      (none_moved begins_by (IsIsoAsk (both s.descs s.parts)) transacts_by s.near h.ends s.parts (joined s.hand s.frame) wire after
      (parts_now s.descs s.parts c.event.now) (joined c.event.later c.event.frame_later) asked n none z) ∙ append-nil (concat (m.acc n))

  -- while it is opened
  pub unopened_met : (e : ℕ) (y : Endpoint) → IsOpening w.driver y → IsMet (queued w.driver) e (queued_endpoint y) → ⊥
  unopened_met e y opening met =
      met.there.linked (opening.command ∙ ap (λ (q : ℕ). Some (unfinished.Open q)) (sym (queue_same y)))

  new_heads : HaveNewHeads w.driver (standing_then s w c.event)
  new_heads e y here opening made =
      let q : IsNewHead s (32 * y.queue) (asked_as y.desc) = k.new_heads e y here opening made in
      let none : s.near (32 * y.queue) ≡ false =
      off e y here (ap (λ (v : Endpoint). v.gone) (of_queue y opening.queue) ∙ opening.kept) (unopened_met e y opening) in
      record {
        named = named_still begins_by (IsIsoAsk (both s.descs s.parts)) transacts_by s.near h.ends s.parts (joined s.hand s.frame) wire
            after (parts_now s.descs s.parts c.event.now) (joined c.event.later c.event.frame_later) asked (32 * y.queue) none
            (asked_as y.desc) z q.named;
        first = λ own. toggle_still begins_by (IsIsoAsk (both s.descs s.parts)) transacts_by s.near h.ends s.parts (joined s.hand s.frame)
            wire after (parts_now s.descs s.parts c.event.now) (joined c.event.later c.event.frame_later) asked (32 * y.queue) none false z
            (q.first own);
        starts = starts_then fixed s w k.mixed c (32 * y.queue) none (asked_as y.desc) q;
        idle = idle_then fixed s w k.mixed c (32 * y.queue) none (asked_as y.desc) q;
      }

  -- ---- names that weren't opened yet

  fresh_ins : AreFresh w.driver ways.In x.sends (λ addr ep. IsUntouched (x.packets addr ep) (sender_of (wired fixed new) addr ep))
  fresh_ins addr ep on unused =
      let was : IsUntouched (x.packets addr ep) (sender_of (wired fixed w) addr ep) = k.fresh_ins addr ep on unused in
      record {
        sender = was.sender;
        is = sender_stays addr ep on (ins_unasked addr ep (λ e y here way same also. unopened_met e y (unused e y here way same also)))
            was.sender was.is;
        left = was.left;
        sends = was.sends;
      }

  fresh_outs : AreFresh w.driver ways.Out x.takes (λ addr ep. IsUntaken (taker_of (wired fixed new) addr ep))
  fresh_outs addr ep on unused =
      let was : IsUntaken (taker_of (wired fixed w) addr ep) = k.fresh_outs addr ep on unused in
      record {
        taker = was.taker;
        is = taker_stays addr ep on (outs_unasked addr ep (λ e y here way same also. unopened_met e y (unused e y here way same also)))
            was.taker was.is;
        none = was.none;
        first = was.first;
      }

  -- ---- endpoints that left

  pub unmet_by : (e : ℕ) (y : Endpoint) → may_meet (queued w.driver) e (queued_endpoint y) ≡ false
      → IsMet (queued w.driver) e (queued_endpoint y) → ⊥
  unmet_by e y unmet met = true≢false (sym met.near ∙ unmet)

  -- .. and no other endpoint has its name
  pub alone : (e : ℕ) (y : Endpoint) → slice_get w.driver.endpoints e ≡ Some y → (IsMet (queued w.driver) e (queued_endpoint y) → ⊥)
      → (f : ℕ) (v : Endpoint) → slice_get w.driver.endpoints f ≡ Some v → v.desc.name.way ≡ y.desc.name.way
      → v.desc.name.addr ≡ y.desc.name.addr → v.desc.name.num ≡ y.desc.name.num → IsMet (queued w.driver) f (queued_endpoint v) → ⊥
  alone e y here unmet f v there way same also met =
      let one : f ≡ e = told_apart w.driver (in_hand s) s.parts m.reported k.telling.told f e v y there here
      (name_is v.desc.name y.desc.name same also way) in
      let is : v ≡ y = same_Some v y (sym there ∙ ap (slice_get w.driver.endpoints) one ∙ here) in
      unmet (subst (λ (i : ℕ). IsMet (queued w.driver) i (queued_endpoint y)) one
      (subst (λ (u : Endpoint). IsMet (queued w.driver) f (queued_endpoint u)) is met))

  taken_still : (e : ℕ) (y : Endpoint) → slice_get w.driver.endpoints e ≡ Some y → y.desc.name.way ≡ ways.Out
      → x.takes y.desc.name.addr y.desc.name.num ≡ true → (IsMet (queued w.driver) e (queued_endpoint y) → ⊥) → (bytes : List ℕ)
      → HasTakenAtLeast (taker_of (wired fixed w) y.desc.name.addr y.desc.name.num) bytes
      → HasTakenAtLeast (taker_of (wired fixed new) y.desc.name.addr y.desc.name.num) bytes
  taken_still e y here way on unmet bytes was = record {
    taker = was.taker;
    is = taker_stays y.desc.name.addr y.desc.name.num on
        (outs_unasked y.desc.name.addr y.desc.name.num
        (λ f v there its same also met. alone e y here unmet f v there (its ∙ sym way) same also met)) was.taker was.is;
    begins = was.begins;
  }

  -- ---- the whole

  pub controlled : IsPiped fixed x (standing_then s w c.event) (record { acc = goes.moved; reported = m.reported }) h
      (controller_next fixed w)
  controlled = record {
    mixed = c.mixed;
    telling = controller_keeps_telling fixed s m w k.mixed c z goes.moved goes.adds k.telling;
    going = k.going;
    declared = k.declared;
    descriptors = controller_keeps_names fixed s w k.mixed k.descriptors;
    named = k.named;
    by_way = k.by_way;
    pipes = goes.pipes;
    new_heads = new_heads;
    fresh_ins = fresh_ins;
    fresh_outs = fresh_outs;
  }

  -- ---- with those that left

  module _ (ins : AreLeft w.driver m.acc ways.In x.sends (HasBegun x (wired fixed w) ways.In))
      (outs : AreLeft w.driver m.acc ways.Out x.takes (HasBegun x (wired fixed w) ways.Out)) where
    left_ins : AreLeft w.driver goes.moved ways.In x.sends (HasBegun x (wired fixed new) ways.In)
    left_ins = record {
      unmet = λ e y here way on there unmet.
          subst (λ (bs : List ℕ). IsPrefix bs (concat (x.packets y.desc.name.addr y.desc.name.num)))
          (sym (moved_same (32 * y.queue) (off e y here there.kept (unmet_by e y unmet)))) (ins.unmet e y here way on there unmet);
      gone = ins.gone;
    }

    left_outs : AreLeft w.driver goes.moved ways.Out x.takes (HasBegun x (wired fixed new) ways.Out)
    left_outs = record {
      unmet = λ e y here way on there unmet.
          subst (λ (bs : List ℕ). HasTakenAtLeast (taker_of (wired fixed new) y.desc.name.addr y.desc.name.num) bs)
          (sym (moved_same (32 * y.queue) (off e y here there.kept (unmet_by e y unmet))))
          (taken_still e y here way on (unmet_by e y unmet) (concat (m.acc (32 * y.queue))) (outs.unmet e y here way on there unmet));
      gone = λ e y here way on gone.
          taken_still e y here way on (λ met. true≢false (sym gone ∙ (kept_as y met.there.kept).0))
          (told_in w.driver.store (lines_in y.desc.name w.driver.reports)) (outs.gone e y here way on gone);
    }

    pub controlled_followed : IsFollowed fixed x (standing_then s w c.event) (record { acc = goes.moved; reported = m.reported }) h
        (controller_next fixed w)
    controlled_followed = record { piped = controlled; left_ins = left_ins; left_outs = left_outs }
