-- A start-split of an interrupt OUT endpoint below a hub finds nothing there that was told, where none of the frames does.
use Rattle.std.proofs.Common.{◌≡◌, ◌≢◌, ◌⊎◌, inl, ℕ, ◌==◌, Bool, false, Some, None, ap, refl, sym, subst, ◌∙◌}
use Rattle.usb_base.specs.declared.packets.Dir.{Dir}
use Rattle.usb_base.specs.declared.packets.Dir.TheVariants as Directions
use Rattle.usb_base.specs.declared.packets.EpKind.{EpKind}
use Rattle.usb_base.specs.declared.packets.EpKind.TheVariants as kinds
use Rattle.hub_keys.specs.Keys.{direction_of}
use Rattle.qh_qtd.specs.declared.queue_head.Qh.{Qh}
use Rattle.bus_wire.specs.Bus.{Fixed}
use Rattle.claims_base.specs.Controller.{opening_base}
use Rattle.hc_copy.specs.Planning.{pid_at}
use Rattle.hc_core.specs.Controller.{frame_place}
use Rattle.hc_core.specs.declared.controller.MicroframePart.{MicroframePart}
use Rattle.hc_core.specs.declared.controller.MicroframePart.TheVariants.{Periodic, Asynchronous, Over}
use Rattle.law_structures.specs.lent_structures.Sound.{IsWorking, IsSoundQueue}
use Rattle.law_structures.specs.lent_structures.Structures.{QueueHead, Structures, StructureSets}
use Rattle.law_structures.proofs.lemmas.lent_structures.Altering.{found_queue}
use Rattle.law_ring.specs.Hand.{Copy, copied_queue}
use Rattle.law_ring.specs.OutPipes.{IsOut}
use Rattle.law_ring.specs.QueueParts.{IsQueuePart}
use Rattle.law_ring.specs.Told.{Endpoint as Told, endpoint_of, HasEndpoint}
use Rattle.law_frames.specs.Frame.{IsCopiedQueue, IsInFrame, IsFrameWalk}
use Rattle.law_frames.specs.FrameEffects.{MakesOfQueue}
use Rattle.law_frames.specs.FrameHand.{FrameHand, Nothing, OfQueue, frame_held}
use Rattle.law_frames.specs.Met.{AQueue}
use Rattle.law_descriptors.specs.Both.{both}
use Rattle.law_descriptors.specs.Meeting.{met}
use Rattle.law_descriptors.specs.PartLaws.{IsDescribing}
use Rattle.law_descriptors.proofs.Standing.{both_off}
use Rattle.law_descriptors.proofs.Telling.{queue_off}
use Rattle.law_below_hubs.specs.HostEvents.{told_key, StartsFindNoneTold}
use Rattle.law_below_hubs.specs.HostOuts.{queue_key, FindsNoneTold}
use Rattle.law_below_hubs.specs.Splits.{IsAtHub}
use Rattle.law_world.specs.steps.Streaming.{transacts_by, wired}
use Rattle.law_world.specs.memory.Mixed.{Standing, IsMixedAt}
use Rattle.law_world.specs.memory.Steps.{IsMixedControlled}
use Rattle.bus_world.specs.World.{World, controller_parts, controller_next}
use Rattle.law_microframes.specs.translators.Fresh.{IsStarting}
use Rattle.law_reports.specs.pipes.below_hubs.BehindLaws.{WorldFindsNoneTold}

pub periodic_by : (o : MicroframePart) (walks : Bool) (f : FrameHand) (c : Copy) (made : ℕ) → f ≡ OfQueue c made
    → ((o ≢ Periodic) ⊎ (walks ≡ false) → f ≡ Nothing) → o ≡ Periodic
periodic_by Periodic walks f c made is outside = refl
periodic_by Asynchronous walks f c made is outside =
    absurd (let e : OfQueue c made ≡ Nothing = sym is ∙ outside (inl (λ same. cc)) in cc)
periodic_by Over walks f c made is outside =
    absurd (let e : OfQueue c made ≡ Nothing = sym is ∙ outside (inl (λ same. cc)) in cc)

module _ (fixed : Fixed) (s : Standing) (w : World) (mixed : IsMixedAt s w) (c : IsMixedControlled fixed s w) (n : ℕ) (t : Told)
    (kind : EpKind) (i place : ℕ) (outs : IsOut (s.parts n)) (named : HasEndpoint s.parts n t) (below : (t.speed == 2) ≡ false)
    (hub : IsAtHub (wired fixed w).bus.hubs t.hub t.port i place) where
  abbrev all : StructureSets
  all = both s.descs s.parts

  there : both s.descs s.parts n ≡ s.parts n
  there =
      let f = mixed.now.framed in
      let describing : IsDescribing w.driver s.descs s.parts =
      record { owners = f.place.sound.owners; driven = f.driven; described = f.described } in
      both_off s.descs s.parts n (queue_off w.driver s.descs s.parts describing n n (QueueHead named.queue) named.head)

  module _ (r : MakesOfQueue transacts_by (both s.descs s.parts) w.control.frame s.frame (wired fixed w)
      (wired fixed (controller_next fixed w)) c.event.frame_later) (at : r.copy.at ≡ n) where
    abbrev q : Qh
    q = r.copy.queue

    part : w.control.part ≡ Periodic
    part =
        periodic_by w.control.part opening_base.periodic_enable s.frame r.copy r.made r.in_hand mixed.now.framed.runs.outside

    walk : IsFrameWalk (met w.driver s.recent) (both s.descs s.parts) s.frame (frame_place (controller_parts w))
    walk = mixed.now.framed.runs.walk part

    copied : IsCopiedQueue (met w.driver s.recent) (both s.descs s.parts) r.copy
    copied =
        subst (IsInFrame (met w.driver s.recent) (both s.descs s.parts) w.control.frame.got w.control.frame.reply) r.in_hand walk.in_hand

    here : s.parts n n ≡ Some (QueueHead r.copy.queue)
    here = ap (λ (ps : Structures). ps n) (sym there) ∙ ap (λ (j : ℕ). both s.descs s.parts j j) (sym at) ∙ copied.here

    queue_is : named.queue ≡ r.copy.queue
    queue_is = found_queue (s.parts n n) named.queue r.copy.queue named.head here

    told : t ≡ endpoint_of r.copy.queue
    told = named.is ∙ ap endpoint_of queue_is

    -- it works on an OUT
    pid : r.copy.queue.token.pid ≡ 0
    pid =
        let part_is : IsQueuePart r.copy.at (both s.descs s.parts r.copy.at) =
        (mixed.now.framed.runs.members r.copy.at AQueue copied.on).part_is in
        let same : both s.descs s.parts r.copy.at ≡ s.parts n = ap (both s.descs s.parts) at ∙ there in
        let w_is : IsWorking (both s.descs s.parts r.copy.at) r.copy.queue =
        (subst (IsSoundQueue (both s.descs s.parts r.copy.at)) (found_queue (both s.descs s.parts r.copy.at r.copy.at) part_is.queue
        r.copy.queue part_is.here copied.here) part_is.sound).work r.works in
        w_is.pid ∙ outs r.copy.queue.current w_is.element (ap (λ (p : Structures). p r.copy.queue.current) (sym same) ∙ w_is.here)
        w_is.published

    starting : r.copy.queue.token.split_state ≡ false
        → IsStarting w (record { copy = record { at = r.copy.at; queue_head = copied_queue r.copy; settled = None }; made = r.made })
    starting first = record {
      part = part;
      held = walk.held ∙ ap frame_held r.in_hand;
      unsettled = refl;
      turn = r.turn;
      below = ap (λ (e : Told). e.speed == 2) (sym told) ∙ below;
      first = first;
    }

    finds_none : WorldFindsNoneTold (wired fixed w) w → r.copy.queue.token.split_state ≡ false
        → FindsNoneTold (told_key kinds.Interrupt Directions.Out t) i place (wired fixed w)
    finds_none finds first =
        subst (λ (e : Told). FindsNoneTold (told_key kinds.Interrupt Directions.Out e) i place (wired fixed w)) (sym told)
        (subst (λ (d : Dir). FindsNoneTold (queue_key kinds.Interrupt d r.copy.queue) i place (wired fixed w))
        (ap (λ (code : ℕ). direction_of (pid_at code)) pid)
        (finds (record { copy = record { at = r.copy.at; queue_head = copied_queue r.copy; settled = None }; made = r.made })
        (starting first) i place
        (subst (λ (e : Told). IsAtHub (wired fixed w).bus.hubs e.hub e.port i place) told hub)))

  pub none_told : WorldFindsNoneTold (wired fixed w) w
      → StartsFindNoneTold kind t i place n (both s.descs s.parts) w.control.frame s.frame (wired fixed w)
      (wired fixed (controller_next fixed w)) c.event.frame_later
  none_told finds is r at first =
      subst (λ (x : EpKind). FindsNoneTold (told_key x Directions.Out t) i place (wired fixed w)) (sym is) (finds_none r at finds first)
