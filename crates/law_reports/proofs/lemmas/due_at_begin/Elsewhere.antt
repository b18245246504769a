-- An event of the walk of the frames leaves a structure that isn't in hand, and takes it in hand only by a fetch of it (EHCI 1.0, 4.4, 4.6
-- and 4.7.1).
use Rattle.std.proofs.Common.{◌≡◌, ◌≢◌, ℕ, Option, Some, None, ap, sym, subst, ◌∙◌}
use Rattle.async_walk.specs.declared.state.WalkStep.{WalkStep}
use Rattle.async_walk.specs.declared.state.WalkStep.TheVariants as steps
use Rattle.periodic_walk.specs.declared.state.Hand.{Hand}
use Rattle.periodic_walk.specs.Chain.{chain_row, chain_walk}
use Rattle.periodic_walk.specs.Place.{FramePlace, HasEffect}
use Rattle.periodic_walk.specs.Rows.{step_of, effect_at}
use Rattle.periodic_walk.specs.Walk.{held_address}
use Rattle.hc_core.specs.declared.controller.ControllerRow.{ControllerRow}
use Rattle.hc_core.specs.declared.controller.ControllerRow.TheVariants as rows
use Rattle.hc_core.specs.Controller.{frame_place, HasRow, WalksFrame}
use Rattle.bus_wire.specs.Bus.{Fixed}
use Rattle.bus_world.specs.World.{World, controller_parts, controller_row, controller_next}
use Rattle.claims_world.specs.Visits.{fetched_by}
use Rattle.law_structures.specs.lent_structures.Structures.{StructureSets, Structure, Structures, Holds}
use Rattle.law_frames.specs.Frame.{IsFrameWalk, IsFrame}
use Rattle.law_frames.specs.FrameEffects.{FrameHappens, FrameEffect, fetches, passes, ends, takes as takes_one, makes, writes}
use Rattle.law_frames.specs.FrameHand.{frame_held}
use Rattle.law_frames.proofs.Walking.{event_happens}
use Rattle.law_descriptors.specs.Both.{both}
use Rattle.law_descriptors.specs.Meeting.{met}
use Rattle.law_world.specs.steps.Streaming.{begins_by, transacts_by, wired}
use Rattle.law_world.specs.memory.Mixed.{Standing, IsMixedWorld}
use Rattle.law_world.proofs.lemmas.steps.StreamTurning.{world_has_row}
use Rattle.law_world.proofs.lemmas.steps.lemmas.world_bytes.Hearing.{a_bus_of_bytes_is_heard_as_bytes}
use Rattle.law_microframes.proofs.lemmas.due.Turning.{in_periodic}
use Rattle.law_reports.proofs.lemmas.due_at_begin.Apart.{effect_leaves, effect_goes}
use Rattle.law_reports.proofs.lemmas.due_at_begin.Walked.{fetched_hand}

module _ (fixed : Fixed) (w : World) (k : IsMixedWorld w) (row : controller_row w ≡ rows.Frame) (n : ℕ) where
  abbrev s : Standing
  s = k.standing

  abbrev new : World
  new = controller_next fixed w

  abbrev all : StructureSets
  all = both k.standing.descs k.standing.parts

  pub walk : IsFrameWalk (met w.driver k.standing.recent) (both k.standing.descs k.standing.parts) k.standing.frame
      (frame_place (controller_parts w))
  walk = k.mixed.now.framed.runs.walk (in_periodic fixed w row)

  frame : IsFrame (met w.driver k.standing.recent) (both k.standing.descs k.standing.parts) k.standing.frame
      (frame_place (controller_parts w))
  frame = record { tells = k.mixed.now.framed.runs.ring.tells; members = k.mixed.now.framed.runs.members; walk = walk }

  walks : WalksFrame transacts_by (controller_parts w) (wired fixed w) (controller_parts (controller_next fixed w))
      (wired fixed (controller_next fixed w))
  walks =
      subst (λ (r : ControllerRow). HasRow begins_by transacts_by r (controller_parts w) (wired fixed w)
      (controller_parts (controller_next fixed w)) (wired fixed (controller_next fixed w))) row (world_has_row fixed w)

  happens : FrameHappens transacts_by (met w.driver k.standing.recent) (both k.standing.descs k.standing.parts) k.standing.frame
      (wired fixed w) (wired fixed (controller_next fixed w)) (frame_place (controller_parts w))
      (frame_place (controller_parts (controller_next fixed w))) (step_of (frame_place (controller_parts w)))
  happens =
      event_happens transacts_by (met w.driver s.recent) all s.frame (frame_place (controller_parts w)) (wired fixed w)
      (frame_place (controller_parts (controller_next fixed w))) (wired fixed (controller_next fixed w)) frame
      (a_bus_of_bytes_is_heard_as_bytes fixed w k.mixed.bytes (wired fixed (controller_next fixed w))) walks.walked

  module _ (apart : (a : ℕ) → held_address w.control.frame.hand ≡ Some a → n ≢ a) where
    apart_frame : (a : ℕ) → held_address (frame_held k.standing.frame) ≡ Some a → n ≢ a
    apart_frame a is = apart a (ap held_address walk.held ∙ is)

    leaves : happens.now n ≡ both k.standing.descs k.standing.parts n
    leaves =
        effect_leaves transacts_by all w.control.frame s.frame (wired fixed w) (wired fixed new) happens.now happens.later n apart_frame
        (step_of (frame_place (controller_parts w))) happens.effect

    pub holds_then : (x : Structure) → both k.standing.descs k.standing.parts n n ≡ Some x → Holds (controller_next fixed w).memory n x
    holds_then x here = happens.frame.tells.each n n x (ap (λ (part : Structures). part n) leaves ∙ here)

    -- ---- what it leaves in hand

    hand_is : w.control.frame.hand ≡ None
        → (controller_next fixed w).control.frame.hand ≡ (chain_walk (chain_row w.memory w.control.frame.cursor) w.control.frame).hand
    hand_is none =
        let made : HasEffect transacts_by (effect_at (frame_place (controller_parts w)) None) (wired fixed w)
        (frame_place (controller_parts new)) (wired fixed new) =
        subst (λ (o : Option Hand). HasEffect transacts_by (effect_at (frame_place (controller_parts w)) o) (wired fixed w)
        (frame_place (controller_parts (controller_next fixed w))) (wired fixed (controller_next fixed w))) none walks.walked in
        ap (λ (v : FramePlace). v.walk.hand) made.0

    by_chain : w.control.frame.hand ≡ None → (fetched_by (chain_row w.memory w.control.frame.cursor) ≡ Some n → ⊥) → (a : ℕ)
        → held_address (controller_next fixed w).control.frame.hand ≡ Some a → n ≢ a
    by_chain none off a is same =
        off (sym (ap held_address (hand_is none) ∙ fetched_hand (chain_row w.memory w.control.frame.cursor) w.control.frame) ∙ is
        ∙ ap Some (sym same))

    by_hand : (step : WalkStep) → step ≢ steps.Fetch
        → FrameEffect transacts_by (both k.standing.descs k.standing.parts) w.control.frame k.standing.frame (wired fixed w)
        (wired fixed (controller_next fixed w)) happens.now happens.later step → (a : ℕ)
        → held_address (controller_next fixed w).control.frame.hand ≡ Some a → n ≢ a
    by_hand step other effect a is =
        effect_goes transacts_by all w.control.frame s.frame (wired fixed w) (wired fixed new) happens.now happens.later n apart_frame step
        effect other a
        (sym (ap held_address happens.frame.walk.held) ∙ is)

    goes_apart : (step : WalkStep)
        → FrameEffect transacts_by (both k.standing.descs k.standing.parts) w.control.frame k.standing.frame (wired fixed w)
        (wired fixed (controller_next fixed w)) happens.now happens.later step
        → (w.control.frame.hand ≡ None → fetched_by (chain_row w.memory w.control.frame.cursor) ≡ Some n → ⊥) → (a : ℕ)
        → held_address (controller_next fixed w).control.frame.hand ≡ Some a → n ≢ a
    goes_apart _ (fetches none r same quiet) off a is =
        let held : w.control.frame.hand ≡ None = walk.held ∙ ap frame_held none in by_chain held (off held) a is
    goes_apart _ (passes r nothing same quiet) off a is = by_hand steps.Skip (λ never. cc never) (passes r nothing same quiet) a is
    goes_apart _ (ends none nothing same quiet) off a is = by_hand steps.Ended (λ never. cc never) (ends none nothing same quiet) a is
    goes_apart _ (takes_one r quiet) off a is = by_hand steps.Advance (λ never. cc never) (takes_one r quiet) a is
    goes_apart _ (makes r same) off a is = by_hand steps.Transact (λ never. cc never) (makes r same) a is
    goes_apart _ (writes r quiet) off a is = by_hand steps.WriteBack (λ never. cc never) (writes r quiet) a is

    pub apart_then : (w.control.frame.hand ≡ None → fetched_by (chain_row w.memory w.control.frame.cursor) ≡ Some n → ⊥) → (a : ℕ)
        → held_address (controller_next fixed w).control.frame.hand ≡ Some a → n ≢ a
    apart_then off a is = goes_apart (step_of (frame_place (controller_parts w))) happens.effect off a is
