-- An event of the controller leaves a queue head of the frames that isn't in hand (EHCI 1.0, 4.6, 4.8 and 4.10).
use Rattle.std.proofs.Common.{◌≡◌, ◌≢◌, ℕ, ◌*◌, true, false, Some, ap, refl, sym, ◌∙◌, inl, inr}
use Rattle.std.proofs.lemmas.Bool.{true≢false}
use Rattle.std.proofs.lemmas.Option.{same_Some}
use Rattle.law_common.proofs.Options.{none_some}
use Rattle.law_controller.proofs.Common.{over_not_periodic, asynchronous_not_periodic}
use Rattle.qh_qtd.specs.declared.queue_head.Qh.{Qh}
use Rattle.bandwidth.specs.declared.placements.Placement.{Placement}
use Rattle.mem_queues.specs.Structures.{queue_head_at_address}
use Rattle.periodic_walk.specs.Walk.{held_address}
use Rattle.hc_core.specs.declared.controller.MicroframePart.{MicroframePart}
use Rattle.hc_core.specs.declared.controller.MicroframePart.TheVariants.{Over, Periodic, Asynchronous}
use Rattle.hc_core.specs.Controller.{walk_place}
use Rattle.bus_wire.specs.Bus.{Fixed}
use Rattle.bus_world.specs.World.{World, controller_parts, controller_next}
use Rattle.claims_base.specs.Controller.{opening_base}
use Rattle.claims_world.specs.Coming.{IsInItsFrames}
use Rattle.law_structures.specs.lent_structures.Structures.{StructureSets, Structures}
use Rattle.law_structures.proofs.lemmas.lent_structures.Reading.{head_read}
use Rattle.law_ring.specs.QueueParts.{IsQueuePart}
use Rattle.law_frames.specs.Met.{AQueue}
use Rattle.law_frames.specs.FrameHand.{FrameHand, frame_held}
use Rattle.law_frames.proofs.Walking.{event_happens}
use Rattle.law_controller.specs.controlled_streams.Control.{a_microframe, a_step}
use Rattle.law_controller.specs.frame_control.Both.{RunsBoth, BothEffect, of_ring, of_frame, ControlsBoth}
use Rattle.law_controller.proofs.lemmas.frame_control.Running.{each_event_of_the_controller_over_both}
use Rattle.law_controller.proofs.lemmas.frame_control.Staying.{ring_leaves}
use Rattle.law_descriptors.specs.Both.{both}
use Rattle.law_descriptors.specs.Meeting.{met}
use Rattle.law_world.specs.steps.Streaming.{begins_by, transacts_by, wired}
use Rattle.law_world.specs.memory.Mixed.{Standing, IsMixedWorld}
use Rattle.law_world.proofs.lemmas.memory.WaysThere.{queue_told}
use Rattle.law_world.proofs.lemmas.steps.StreamTurning.{world_has_row}
use Rattle.law_world.proofs.lemmas.steps.lemmas.world_bytes.Hearing.{a_bus_of_bytes_is_heard_as_bytes}
use Rattle.law_reports.proofs.lemmas.due_at_begin.Apart.{effect_leaves}
use Rattle.law_reports.proofs.lemmas.due_at_begin.Reached.{its_kind}

module _ (fixed : Fixed) (w : World) (k : IsMixedWorld w) (e q : ℕ) (p : Placement) (i : IsInItsFrames w.driver e q p)
    (apart : (a : ℕ) → w.control.part ≡ Periodic → held_address w.control.frame.hand ≡ Some a → 32 * q ≢ a) where
  abbrev s : Standing
  s = k.standing

  abbrev all : StructureSets
  all = both k.standing.descs k.standing.parts

  abbrev new : World
  new = controller_next fixed w

  runs : RunsBoth opening_base k.standing.member (met w.driver k.standing.recent) (both k.standing.descs k.standing.parts)
      k.standing.hand k.standing.frame (controller_parts w)
  runs = k.mixed.now.framed.runs

  event : ControlsBoth begins_by transacts_by opening_base k.standing.member (met w.driver k.standing.recent)
      (both k.standing.descs k.standing.parts) k.standing.hand k.standing.frame w.control (wired fixed w)
      (wired fixed (controller_next fixed w)) (controller_parts (controller_next fixed w))
  event =
      each_event_of_the_controller_over_both begins_by transacts_by opening_base s.member (met w.driver s.recent) all s.hand s.frame
      (controller_parts w) (wired fixed w) (controller_parts new) (wired fixed new)
      (event_happens transacts_by (met w.driver s.recent) all s.frame) k.mixed.now.framed.runs
      (record { run = k.mixed.now.framed.operating.run; async_enable = k.mixed.now.framed.operating.async_enable })
      (a_bus_of_bytes_is_heard_as_bytes fixed w k.mixed.bytes (wired fixed new)) (world_has_row fixed w)

  -- ---- it isn't the copy in hand

  outside : w.control.part ≢ Periodic → (a : ℕ) → held_address (frame_held k.standing.frame) ≡ Some a → 32 * q ≢ a
  outside off a is =
      absurd (none_some a (sym (ap (λ (f : FrameHand). held_address (frame_held f)) (runs.outside (inl off))) ∙ is))

  apart_by : (part : MicroframePart) → w.control.part ≡ part → (a : ℕ) → held_address (frame_held k.standing.frame) ≡ Some a → 32 * q ≢ a
  apart_by Periodic on a is = apart a on (ap held_address (runs.walk on).held ∙ is)
  apart_by Over on a is = outside (λ periodic. over_not_periodic (sym on ∙ periodic)) a is
  apart_by Asynchronous on a is = outside (λ periodic. asynchronous_not_periodic (sym on ∙ periodic)) a is

  apart_frame : (a : ℕ) → held_address (frame_held k.standing.frame) ≡ Some a → 32 * q ≢ a
  apart_frame = apart_by w.control.part refl

  -- ---- nor one of the ring

  off_ring : k.standing.member (32 * q) ≡ false
  off_ring = runs.apart (32 * q) AQueue (its_kind w k e q p i)

  leaves_by : BothEffect begins_by transacts_by (both k.standing.descs k.standing.parts) w.control k.standing.hand k.standing.frame
      (wired fixed w) (wired fixed (controller_next fixed w)) event.now event.later event.frame_later
      → event.now (32 * q) ≡ both k.standing.descs k.standing.parts (32 * q)
  leaves_by (of_ring (a_microframe b) nothing) = ap (λ (ps : StructureSets). ps (32 * q)) b.parts_stay
  leaves_by (of_ring (a_step v) nothing) =
      ring_leaves transacts_by opening_base s.member all s.hand (walk_place (controller_parts w)) (wired fixed w) (wired fixed new)
      event.now event.later v.kind (32 * q) runs.ring v.effect
      (λ a on same. true≢false (sym on ∙ ap s.member (sym same) ∙ off_ring))
  leaves_by (of_frame f) =
      effect_leaves transacts_by all w.control.frame s.frame (wired fixed w) (wired fixed new) event.now event.frame_later (32 * q)
      apart_frame f.kind f.effect

  -- ---- it reads as it did

  part_is : IsQueuePart (32 * q) (both k.standing.descs k.standing.parts (32 * q))
  part_is =
      (queue_told opening_base s.member (met w.driver s.recent) all s.hand s.frame (controller_parts w) k.mixed.now.framed.runs (32 * q)
      (inr (its_kind w k e q p i))).part_is

  pub event_reads : (r : Qh) → queue_head_at_address w.memory (32 * q) ≡ Some r
      → queue_head_at_address (controller_next fixed w).memory (32 * q) ≡ Some r
  event_reads r read =
      let same : part_is.queue ≡ r =
      same_Some part_is.queue r (sym (head_read w.memory all (32 * q) (32 * q) part_is.queue runs.ring.tells part_is.here) ∙ read) in
      head_read new.memory event.now (32 * q) (32 * q) part_is.queue event.runs.ring.tells
      (ap (λ (part : Structures). part (32 * q)) (leaves_by event.effect) ∙ part_is.here) ∙ ap Some same
