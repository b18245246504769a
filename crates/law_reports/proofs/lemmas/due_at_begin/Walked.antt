-- An event of the walk of the frames at another structure leaves a queue head what it goes on to, and its device ready for that (EHCI 1.0,
-- 4.6, 4.10 and 4.10.2; USB 2.0, 8.5 and 8.6).
use Rattle.std.proofs.Common.{◌≡◌, ◌≢◌, ℕ, ◌*◌, Bool, true, false, if◌then◌else◌, slice_get, Option, Some, None, ap, refl, sym, subst}
use Rattle.std.proofs.Common.{◌∙◌, inr}
use Rattle.std.specs.Prelude.{◌&&◌, not}
use Rattle.std.proofs.lemmas.Option.{same_Some}
use Rattle.law_controller.proofs.Common.{ring_off, enter_off}
use Rattle.law_microframes.proofs.Common.{no_queue_end, no_itd_end, no_sitd_end}
use Rattle.usb_base.specs.declared.packets.EpKind.TheVariants as kinds
use Rattle.usb_base.specs.declared.packets.EpKind.TheVariants.{Interrupt}
use Rattle.usb_base.specs.declared.packets.Speed.TheVariants.{High}
use Rattle.usb_base.specs.declared.packets.Way.{Way}
use Rattle.usb_base.specs.declared.packets.Way.TheVariants as ways
use Rattle.word_mem.specs.Memory.{Mem}
use Rattle.link_words.specs.declared.kinds.Link.{Link}
use Rattle.link_words.specs.declared.kinds.Link.TheVariants as links
use Rattle.link_words.specs.declared.kinds.QtdLink.{QtdLink}
use Rattle.link_words.specs.declared.kinds.QtdLink.TheVariants as qtd_links
use Rattle.link_words.specs.Links.{qtd_link_of}
use Rattle.qh_qtd.specs.declared.qtd.Qtd.{Qtd}
use Rattle.qh_qtd.specs.declared.queue_head.Qh.{Qh}
use Rattle.mem_queues.specs.Structures.{qtd_at_address, queue_head_at_address}
use Rattle.mem_descriptors.specs.Descriptors.{itd_at_address, sitd_at_address}
use Rattle.bandwidth.specs.declared.placements.Placement.{Placement}
use Rattle.drv_table.specs.declared.content.Endpoint.{Endpoint}
use Rattle.hc_copy.specs.Visits.{next_pointer}
use Rattle.hc_iso.specs.Itd.{fetched_itd}
use Rattle.async_walk.specs.declared.state.WalkStep.{WalkStep}
use Rattle.async_walk.specs.declared.state.WalkStep.TheVariants as steps
use Rattle.periodic_walk.specs.declared.chain.ChainRow.{ChainRow}
use Rattle.periodic_walk.specs.declared.chain.ChainRow.TheVariants as chains
use Rattle.periodic_walk.specs.declared.state.Hand.{Hand}
use Rattle.periodic_walk.specs.Chain.{chain_row, chain_step, chain_walk}
use Rattle.periodic_walk.specs.Place.{FramePlace, HasEffect}
use Rattle.periodic_walk.specs.Rows.{step_at, step_of, effect_at}
use Rattle.periodic_walk.specs.Walk.{Walk, held_address, is_over, over_at}
use Rattle.hc_core.specs.declared.controller.ControllerRow.TheVariants as rows
use Rattle.hc_core.specs.declared.controller.MicroframePart.{MicroframePart}
use Rattle.hc_core.specs.declared.controller.MicroframePart.TheVariants.{Over, Periodic, Asynchronous}
use Rattle.hc_core.specs.Controller.{enter_row, part_row, part_after, frame_place}
use Rattle.op_registers.specs.RegisterFile.{RegisterFile}
use Rattle.bus_wire.specs.Bus.{Bus, Fixed, transact_after}
use Rattle.claims_base.specs.Controller.{opening_base}
use Rattle.claims_world.specs.Coming.{IsInItsFrames}
use Rattle.claims_world.specs.Due.{IsActiveToken, IsHeardBy}
use Rattle.claims_world.specs.Visits.{fetched_by}
use Rattle.law_driver.specs.queued_drivers.Queued.{IsOfWay}
use Rattle.law_structures.specs.lent_structures.Sound.{LeadsOn, IsElement}
use Rattle.law_structures.specs.lent_structures.Structures.{StructureSets, Structures, Tells}
use Rattle.law_structures.proofs.lemmas.lent_structures.Reading.{head_read, element_read}
use Rattle.law_ring.specs.QueueParts.{IsQueuePart}
use Rattle.law_frames.specs.FrameEffects.{FrameEffect, fetches, passes, ends, takes as takes_one, makes, writes}
use Rattle.law_frames.specs.FrameHand.{frame_held}
use Rattle.law_descriptors.specs.Both.{both}
use Rattle.law_descriptors.specs.Meeting.{met}
use Rattle.bus_world.specs.World.{World, controller_parts, controller_row, controller_next}
use Rattle.law_world.specs.steps.Streaming.{begins_by, transacts_by, wired}
use Rattle.law_world.specs.memory.Mixed.{Standing, IsMixedWorld}
use Rattle.law_world.proofs.lemmas.memory.WaysThere.{queue_told}
use Rattle.law_world.proofs.lemmas.steps.StreamTurning.{world_has_row}
use Rattle.law_microframes.specs.time.DataQueues.{QueuesSendData}
use Rattle.law_microframes.specs.visits.Belonging.{HeadsHaveFields}
use Rattle.law_microframes.proofs.lemmas.visits.BelongQueues.{alive}
use Rattle.law_microframes.proofs.lemmas.visits.NoneLeftWalking.{index_stays}
use Rattle.law_reports.specs.lines.Lined.{Lines}
use Rattle.law_reports.specs.pipes.Declared.{Sides}
use Rattle.law_reports.specs.pipes.Piped.{Heads, IsPiped}
use Rattle.law_reports.proofs.lemmas.due_at_begin.Ahead.{HasYet, HasToken, HasWork, itself_alike, goes_alike, yet_alike, work_alike}
use Rattle.law_reports.proofs.lemmas.due_at_begin.Apart.{effect_leaves, effect_goes}
use Rattle.law_reports.proofs.lemmas.due_at_begin.Asking.{BusGoes, is_quiet, is_asked, happens, walk, walks, bus_goes}
use Rattle.law_reports.proofs.lemmas.due_at_begin.Asking.{not_its_place}
use Rattle.law_reports.proofs.lemmas.due_at_begin.Beside.{left_beside}
use Rattle.law_reports.proofs.lemmas.due_at_begin.Own.{own_place}
use Rattle.law_reports.proofs.lemmas.due_at_begin.Reached.{its_kind}

-- ---- the walk isn't over

goes_by : (on over b : Bool) → (if on && not over then rows.Frame else enter_row b) ≡ rows.Frame → over ≡ false
goes_by true true b is = absurd (enter_off b is)
goes_by true false b is = refl
goes_by false over b is = absurd (enter_off b is)

part_goes : (runs : Bool) (r : RegisterFile) (f : Walk) (part : MicroframePart)
    → (if runs then part_row r f part else rows.Idle) ≡ rows.Frame → is_over f ≡ false
part_goes false r f part is = absurd (cc is)
part_goes true r f Over is = absurd (cc is)
part_goes true r f Periodic is = goes_by r.periodic_enable (is_over f) r.async_enable is
part_goes true r f Asynchronous is = absurd (ring_off r.async_enable is)

pub not_over : (w : World) → controller_row w ≡ rows.Frame → is_over w.control.frame ≡ false
not_over w row = part_goes w.registers.run w.registers w.control.frame w.control.part row

-- ---- the chain ends where its cursor does

ends_over : (m : Mem) (l : Link) → chain_row m l ≡ chains.Ends → over_at None l ≡ true
ends_over m links.End is = refl
ends_over m (links.Itd a) is = absurd (no_itd_end a (itd_at_address m a) is)
ends_over m (links.Qh a) is = absurd (no_queue_end a (queue_head_at_address m a) is)
ends_over m (links.Sitd a) is = absurd (no_sitd_end a (sitd_at_address m a) is)
ends_over m (links.Fstn a) is = absurd (cc is)

ended_row : (r : ChainRow) → chain_step r ≡ steps.Ended → r ≡ chains.Ends
ended_row chains.Fault is = absurd (cc is)
ended_row chains.Ends is = refl
ended_row (chains.Queue a q) is = absurd (cc is)
ended_row (chains.Itd a v) is = absurd (cc is)
ended_row (chains.Sitd a v) is = absurd (cc is)

-- ---- what a fetch leaves in hand

pub fetched_hand : (r : ChainRow) (w : Walk) → held_address (chain_walk r w).hand ≡ fetched_by r
unfolding fetched_itd
fetched_hand chains.Fault w = refl
fetched_hand chains.Ends w = refl
fetched_hand (chains.Queue a q) w = refl
fetched_hand (chains.Itd a v) w = refl
fetched_hand (chains.Sitd a v) w = refl

module _ (fixed : Fixed) (x : Sides) (s : Standing) (m : Lines) (h : Heads) (w : World) (k : IsPiped fixed x s m h w)
    (heads : HeadsHaveFields w.driver w.memory) (sends : QueuesSendData w.driver w.memory) (row : controller_row w ≡ rows.Frame)
    (e q : ℕ) (p : Placement) (i : IsInItsFrames w.driver e q p)
    (apart : (a : ℕ) → held_address w.control.frame.hand ≡ Some a → 32 * q ≢ a) where
  abbrev all : StructureSets
  all = both s.descs s.parts

  abbrev new : World
  new = controller_next fixed w

  abbrev mixed : IsMixedWorld w
  mixed = record { standing = s; mixed = k.mixed }

  abbrev z : Endpoint
  z = i.endpoint

  apart_queue : (a : ℕ) → held_address w.control.frame.hand ≡ Some a → 32 * i.endpoint.queue ≢ a
  apart_queue a is same = apart a is (ap (λ (b : ℕ). 32 * b) (sym i.queue) ∙ same)

  apart_frame : (a : ℕ) → held_address (frame_held s.frame) ≡ Some a → 32 * q ≢ a
  apart_frame a is =
      apart a (ap held_address (walk fixed x s m h w k heads sends row).held ∙ is)

  -- ---- its structures

  part_is : IsQueuePart (32 * q) (both s.descs s.parts (32 * q))
  part_is =
      (queue_told opening_base s.member (met w.driver s.recent) all s.hand s.frame (controller_parts w) k.mixed.now.framed.runs (32 * q)
      (inr (its_kind w mixed e q p i))).part_is

  leaves : (happens fixed x s m h w k heads sends row).now (32 * q) ≡ both s.descs s.parts (32 * q)
  leaves =
      effect_leaves transacts_by all w.control.frame s.frame (wired fixed w) (wired fixed new)
      (happens fixed x s m h w k heads sends row).now
      (happens fixed x s m h w k heads sends row).later (32 * q) apart_frame (step_of (frame_place (controller_parts w)))
      (happens fixed x s m h w k heads sends row).effect

  tells : Tells w.memory (both s.descs s.parts)
  tells = k.mixed.now.framed.runs.ring.tells

  tells_then : Tells (controller_next fixed w).memory (happens fixed x s m h w k heads sends row).now
  tells_then = (happens fixed x s m h w k heads sends row).frame.tells

  read_is : (r : Qh) → queue_head_at_address w.memory (32 * q) ≡ Some r → part_is.queue ≡ r
  read_is r read = same_Some part_is.queue r (sym (head_read w.memory all (32 * q) (32 * q) part_is.queue tells part_is.here) ∙ read)

  pub read_then : (r : Qh) → queue_head_at_address w.memory (32 * q) ≡ Some r
      → queue_head_at_address (controller_next fixed w).memory (32 * q) ≡ Some r
  read_then r read =
      head_read new.memory (happens fixed x s m h w k heads sends row).now (32 * q) (32 * q) part_is.queue tells_then
      (ap (λ (part : Structures). part (32 * q)) leaves ∙ part_is.here) ∙ ap Some (read_is r read)

  led_to : (l : QtdLink) (a : ℕ) → l ≡ qtd_links.To a → LeadsOn (both s.descs s.parts (32 * q)) l
      → IsElement (both s.descs s.parts (32 * q)) a
  led_to l a is on = subst (LeadsOn (both s.descs s.parts (32 * q))) is on

  pub token_then : (r : Qh) → queue_head_at_address w.memory (32 * q) ≡ Some r → (a : ℕ) (t : Qtd) → r.token.active ≡ false
      → r.token.halted ≡ false → qtd_link_of (next_pointer r) ≡ qtd_links.To a → qtd_at_address w.memory a ≡ Some t
      → IsActiveToken t.token → HasToken (controller_next fixed w).memory a t.token
  token_then r read a t idle unhalted leads here work =
      let same : part_is.queue ≡ r = read_is r read in
      let on : IsElement (both s.descs s.parts (32 * q)) a =
      led_to (qtd_link_of (next_pointer part_is.queue)) a (ap (λ (y : Qh). qtd_link_of (next_pointer y)) same ∙ leads)
      (part_is.sound.rest (ap (λ (y : Qh). y.token.halted) same ∙ unhalted) (ap (λ (y : Qh). y.token.active) same ∙ idle)) in
      let one : on.qtd ≡ t = same_Some on.qtd t (sym (element_read w.memory all (32 * q) a on.qtd tells on.here) ∙ here) in
      record {
        qtd = on.qtd;
        here = element_read new.memory (happens fixed x s m h w k heads sends row).now (32 * q) a on.qtd tells_then
            (ap (λ (part : Structures). part a) leaves ∙ on.here);
        token = ap (λ (y : Qtd). y.token) one;
      }

  pub walked_work : (v : Qh) (active : Bool) → HasWork w.memory (32 * q) v active
      → HasWork (controller_next fixed w).memory (32 * q) v active
  walked_work v active y =
      work_alike w.memory new.memory (32 * q) v active y y.queue (read_then y.queue y.read) (itself_alike y.queue y.queue refl)
      (token_then y.queue y.read)

  -- ---- its device

  one_way : i.endpoint.desc.name.way ≢ ways.Ctl
  one_way is =
      control_off (subst (λ (way : Way). IsOfWay way i.endpoint.desc.kind) is (k.mixed.turns.kinds_fit e i.endpoint i.here))
    where
      control_off : i.endpoint.desc.kind ≡ kinds.Control → ⊥
      control_off other = let never : kinds.Interrupt ≡ kinds.Control = sym i.kind ∙ other in cc

  -- what the bus had for it
  quiet_yet : (bytes : ℕ) (y : HasYet fixed w i.endpoint.desc.name (32 * q) bytes) → (controller_next fixed w).bus ≡ w.bus
      → HasYet fixed (controller_next fixed w) i.endpoint.desc.name (32 * q) bytes
  quiet_yet bytes y bus =
      yet_alike fixed w new i.endpoint.desc.name (32 * q) bytes y y.queue (read_then y.queue y.read)
      (goes_alike w.memory new.memory y.queue y.queue y.works (itself_alike y.queue y.queue refl) y.next (token_then y.queue y.read)) bus

  asked_yet : (bytes : ℕ) (y : HasYet fixed w i.endpoint.desc.name (32 * q) bytes) (b : Bus)
      (r : IsHeardBy fixed b i.endpoint.desc.name y.can.ready.place y.can.ready.part)
      → slice_get b.high y.can.ready.place ≡ slice_get w.bus.high y.can.ready.place → (controller_next fixed w).bus ≡ b
      → HasYet fixed (controller_next fixed w) i.endpoint.desc.name (32 * q) bytes
  asked_yet bytes y b r high is =
      let at_b : World = record w { bus = b } in
      let had : HasYet fixed at_b i.endpoint.desc.name (32 * q) bytes = record {
        queue = y.queue;
        read = y.read;
        works = y.works;
        next = y.next;
        can = record {
          ready = record {
            place = y.can.ready.place;
            part = y.can.ready.part;
            heard = r;
            answers = y.can.ready.answers;
            packet = y.can.ready.packet;
            next = high ∙ y.can.ready.next;
            none_lost = y.can.ready.none_lost;
          };
          moves = y.can.moves;
        };
      } in
      yet_alike fixed at_b new i.endpoint.desc.name (32 * q) bytes had y.queue (read_then y.queue y.read)
      (goes_alike w.memory new.memory y.queue y.queue y.works (itself_alike y.queue y.queue refl) y.next (token_then y.queue y.read)) is

  by_bus : i.endpoint.desc.speed ≡ High → (bytes : ℕ) → HasYet fixed w i.endpoint.desc.name (32 * q) bytes
      → BusGoes fixed w e (controller_next fixed w).bus → HasYet fixed (controller_next fixed w) i.endpoint.desc.name (32 * q) bytes
  by_bus high bytes y (is_quiet bus) = quiet_yet bytes y bus
  by_bus high bytes y (is_asked ask out other bus) =
      let r = y.can.ready in
      let own = own_place fixed x s m h w k e z i.here i.kind high
      (alive w.driver k.mixed.now.framed.place.sound.owners e i.endpoint i.here i.chained) r.place r.part r.heard one_way in
      let l = left_beside fixed w.bus ask out i.endpoint.desc.name r.place r.part r.heard one_way own
      (not_its_place fixed x s m h w k heads sends row e z i.here i.kind apart_queue ask other w.bus r.place r.part r.heard one_way) in
      asked_yet bytes y (transact_after fixed w.bus ask out) l.heard l.high bus

  pub walked_yet : i.endpoint.desc.speed ≡ High → (bytes : ℕ) → HasYet fixed w i.endpoint.desc.name (32 * q) bytes
      → HasYet fixed (controller_next fixed w) i.endpoint.desc.name (32 * q) bytes
  walked_yet high bytes y = by_bus high bytes y (bus_goes fixed x s m h w k heads sends row e z i.here i.kind apart_queue)

  -- ---- the walk goes on

  part_by : (step : WalkStep) → step_of (frame_place (controller_parts w)) ≡ step
      → FrameEffect transacts_by (both s.descs s.parts) w.control.frame s.frame (wired fixed w) (wired fixed (controller_next fixed w))
      (happens fixed x s m h w k heads sends row).now (happens fixed x s m h w k heads sends row).later step
      → part_after Periodic step ≡ Periodic
  part_by _ is (fetches none r same quiet) = refl
  part_by _ is (passes r nothing same quiet) = refl
  part_by _ is (takes_one r quiet) = refl
  part_by _ is (makes r same) = refl
  part_by _ is (writes r quiet) = refl
  part_by _ is (ends none nothing same quiet) =
      let held : w.control.frame.hand ≡ None =
      (walk fixed x s m h w k heads sends row).held ∙ ap frame_held none in
      let last : chain_row w.memory w.control.frame.cursor ≡ chains.Ends =
      ended_row (chain_row w.memory w.control.frame.cursor)
      (sym (ap (step_at (frame_place (controller_parts w))) held) ∙ is) in
      let over : is_over w.control.frame ≡ true =
      ap (λ (o : Option Hand). over_at o w.control.frame.cursor) held ∙ ends_over w.memory w.control.frame.cursor last in
      let never : true ≡ false = sym over ∙ not_over w row in cc

  pub part_stays : (controller_next fixed w).control.part ≡ Periodic
  part_stays =
      (walks fixed x s m h w k heads sends row).part
      ∙ part_by (step_of (frame_place (controller_parts w))) refl (happens fixed x s m h w k heads sends row).effect

  pub index_same : (controller_next fixed w).control.frame.index ≡ w.control.frame.index
  index_same =
      index_stays begins_by transacts_by (controller_parts w) (wired fixed w) (controller_parts new) (wired fixed new) (controller_row w)
      (λ is. let never : rows.Frame ≡ rows.Begin = sym row ∙ is in cc) (world_has_row fixed w)

  -- ---- what it leaves in hand

  -- .. with nothing in hand
  hand_is : w.control.frame.hand ≡ None
      → (controller_next fixed w).control.frame.hand ≡ (chain_walk (chain_row w.memory w.control.frame.cursor) w.control.frame).hand
  hand_is none =
      let made : HasEffect transacts_by (effect_at (frame_place (controller_parts w)) None) (wired fixed w)
      (frame_place (controller_parts new)) (wired fixed new) =
      subst (λ (o : Option Hand). HasEffect transacts_by (effect_at (frame_place (controller_parts w)) o) (wired fixed w)
      (frame_place (controller_parts (controller_next fixed w))) (wired fixed (controller_next fixed w))) none
      (walks fixed x s m h w k heads sends row).walked in
      ap (λ (v : FramePlace). v.walk.hand) made.0

  by_chain : w.control.frame.hand ≡ None → (fetched_by (chain_row w.memory w.control.frame.cursor) ≡ Some (32 * q) → ⊥) → (a : ℕ)
      → held_address (controller_next fixed w).control.frame.hand ≡ Some a → 32 * q ≢ a
  by_chain none off a is same =
      off (sym (ap held_address (hand_is none) ∙ fetched_hand (chain_row w.memory w.control.frame.cursor) w.control.frame) ∙ is
      ∙ ap Some (sym same))

  -- .. or at a copy
  by_hand : (step : WalkStep) → step ≢ steps.Fetch
      → FrameEffect transacts_by (both s.descs s.parts) w.control.frame s.frame (wired fixed w) (wired fixed (controller_next fixed w))
      (happens fixed x s m h w k heads sends row).now (happens fixed x s m h w k heads sends row).later step → (a : ℕ)
      → held_address (controller_next fixed w).control.frame.hand ≡ Some a → 32 * q ≢ a
  by_hand step other effect a is =
      effect_goes transacts_by all w.control.frame s.frame (wired fixed w) (wired fixed new) (happens fixed x s m h w k heads sends row).now
      (happens fixed x s m h w k heads sends row).later (32 * q) apart_frame step effect other a
      (sym (ap held_address (happens fixed x s m h w k heads sends row).frame.walk.held) ∙ is)

  goes_apart : (step : WalkStep)
      → FrameEffect transacts_by (both s.descs s.parts) w.control.frame s.frame (wired fixed w) (wired fixed (controller_next fixed w))
      (happens fixed x s m h w k heads sends row).now (happens fixed x s m h w k heads sends row).later step
      → (w.control.frame.hand ≡ None → fetched_by (chain_row w.memory w.control.frame.cursor) ≡ Some (32 * q) → ⊥) → (a : ℕ)
      → held_address (controller_next fixed w).control.frame.hand ≡ Some a → 32 * q ≢ a
  goes_apart _ (fetches none r same quiet) off a is =
      let held : w.control.frame.hand ≡ None = (walk fixed x s m h w k heads sends row).held ∙ ap frame_held none in
      by_chain held (off held) a is
  goes_apart _ (passes r nothing same quiet) off a is = by_hand steps.Skip (λ never. cc never) (passes r nothing same quiet) a is
  goes_apart _ (ends none nothing same quiet) off a is = by_hand steps.Ended (λ never. cc never) (ends none nothing same quiet) a is
  goes_apart _ (takes_one r quiet) off a is = by_hand steps.Advance (λ never. cc never) (takes_one r quiet) a is
  goes_apart _ (makes r same) off a is = by_hand steps.Transact (λ never. cc never) (makes r same) a is
  goes_apart _ (writes r quiet) off a is = by_hand steps.WriteBack (λ never. cc never) (writes r quiet) a is

  pub apart_then : (w.control.frame.hand ≡ None → fetched_by (chain_row w.memory w.control.frame.cursor) ≡ Some (32 * q) → ⊥) → (a : ℕ)
      → held_address (controller_next fixed w).control.frame.hand ≡ Some a → 32 * q ≢ a
  apart_then off a is =
      goes_apart (step_of (frame_place (controller_parts w))) (happens fixed x s m h w k heads sends row).effect off a is
