-- What an event of the controller leaves of a world where it is one of the walk of the frames.
use Rattle.std.proofs.Common.{◌≡◌, ◌≢◌, ap, subst, ◌∙◌}
use Rattle.async_walk.specs.declared.state.WalkStep.{WalkStep}
use Rattle.async_walk.specs.declared.state.WalkStep.TheVariants as walks
use Rattle.periodic_walk.specs.Rows.{effect_of}
use Rattle.hc_core.specs.declared.controller.ControllerRow.{ControllerRow}
use Rattle.hc_core.specs.declared.controller.ControllerRow.TheVariants as rows
use Rattle.hc_core.specs.declared.controller.MicroframePart.TheVariants.{Periodic}
use Rattle.hc_core.specs.Controller.{hc_step, frame_place, frame_step, kind_of}
use Rattle.bus_wire.specs.Bus.{Fixed}
use Rattle.bus_world.specs.World.{World, FrameWalked, frame_by, framed, controller_parts, with_turned, turned_by, controller_row}
use Rattle.bus_world.specs.World.{controller_next, kind_next}
use Rattle.law_world.specs.memory.Mixed.{IsMixedWorld}
use Rattle.law_microframes.proofs.lemmas.visits.ReasonParts.{InPart, row_in}
use Rattle.law_microframes.proofs.lemmas.visits.ReasonTexts.{never_faults}

module _ (fixed : Fixed) (w : World) (row : controller_row w ≡ rows.Frame) where
  pub in_periodic : w.control.part ≡ Periodic
  in_periodic = subst (λ (r : ControllerRow). InPart r w.control.part) row (row_in w)

  pub no_fault : IsMixedWorld w → frame_step (controller_parts w) ≢ walks.Fault
  no_fault k = never_faults w k row

  pub walked_to : (v : FrameWalked) → frame_by fixed (effect_of (frame_place (controller_parts w))) w.bus ≡ v
      → controller_next fixed w ≡ with_turned w (framed (controller_parts w) v)
  walked_to v is =
      ap (λ (r : ControllerRow). with_turned w (turned_by fixed r (controller_parts w) w.bus)) row
      ∙ ap (λ (x : FrameWalked). with_turned w (framed (controller_parts w) x)) is

  pub kind_is : (k : WalkStep) → frame_step (controller_parts w) ≡ k → kind_next w ≡ hc_step k
  kind_is k is = ap (λ (r : ControllerRow). kind_of r (controller_parts w)) row ∙ ap hc_step is
