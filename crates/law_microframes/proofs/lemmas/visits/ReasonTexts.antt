-- In a mixed world the walk of the frames meets no fault, and the controller runs on; so the laws hold of each script that a text spells.
use Rattle.std.proofs.Common.{◌≡◌, ◌≢◌, true, ap, subst, ◌∙◌}
use Rattle.async_walk.specs.declared.state.WalkStep.TheVariants as walks
use Rattle.hc_core.specs.declared.controller.ControllerRow.{ControllerRow}
use Rattle.hc_core.specs.declared.controller.ControllerRow.TheVariants as rows
use Rattle.hc_core.specs.Controller.{frame_place, frame_step}
use Rattle.claims_base.specs.Controller.{Base}
use Rattle.law_frames.proofs.Walking.{no_event_is_a_fault}
use Rattle.law_descriptors.specs.Both.{both}
use Rattle.law_descriptors.specs.Meeting.{met}
use Rattle.bus_wire.specs.Bus.{Fixed, fixed_of}
use Rattle.bus_world.specs.World.{World, controller_parts, controller_row, controller_next}
use Rattle.bus_world.specs.Budgets.{moment}
use Rattle.law_world.specs.memory.Mixed.{IsMixedWorld}
use Rattle.law_world.proofs.lemmas.memory.Together.{mixed_is_at_work, texts_stay_mixed}
use Rattle.law_microframes.specs.visits.PlaceOfRing.{TextsKeepPlaceOfRing}
use Rattle.law_microframes.specs.visits.FrameReasons.{MixedVisitsInFrames, TextsKeepFrameReasons}
use Rattle.law_microframes.proofs.lemmas.visits.ReasonParts.{InPart, row_in}
use Rattle.law_microframes.proofs.lemmas.visits.ReasonPlace.{keeps_place}
use Rattle.law_microframes.proofs.lemmas.visits.ReasonPasses.{worlds_pass_in_frames, visits_in_frames}

runs_on : (fixed : Fixed) (w : World) → IsMixedWorld w → (controller_next fixed w).registers.run ≡ true
runs_on fixed w k = let work = mixed_is_at_work fixed w k in work.goes_on.run ∙ ap (λ (b : Base). b.run) work.registers

pub texts_keep_place_of_ring : TextsKeepPlaceOfRing
texts_keep_place_of_ring text s spelled = keeps_place s (λ k. runs_on (fixed_of s) (moment s k).world (texts_stay_mixed text s spelled k))

pub never_faults : (w : World) → IsMixedWorld w → controller_row w ≡ rows.Frame → frame_step (controller_parts w) ≢ walks.Fault
never_faults w k is fault =
    let runs = k.mixed.now.framed.runs in
    no_event_is_a_fault (met w.driver k.standing.recent) (both k.standing.descs k.standing.parts) k.standing.frame (frame_place (controller_parts w))
    (record { tells = runs.ring.tells; members = runs.members; walk = runs.walk (subst (λ (row : ControllerRow). InPart row w.control.part) is (row_in w)) }) fault

pub mixed_visits_in_frames : MixedVisitsInFrames
mixed_visits_in_frames w k = visits_in_frames w (never_faults w k)

pub texts_keep_frame_reasons : TextsKeepFrameReasons
texts_keep_frame_reasons text s spelled k = record {
  passes = worlds_pass_in_frames (moment s k).world;
  visits = mixed_visits_in_frames (moment s k).world (texts_stay_mixed text s spelled k);
}
