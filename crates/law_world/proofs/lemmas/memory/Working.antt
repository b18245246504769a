-- Where the controller runs, its next event isn't Idle.
use Rattle.std.proofs.Common.{◌≡◌, ◌≢◌, Bool, true, false, not, ◌&&◌, if◌then◌else◌, ap, sym, ◌∙◌, refl}
use Rattle.op_registers.specs.RegisterFile.{RegisterFile}
use Rattle.async_walk.specs.declared.state.WalkStep.{WalkStep}
use Rattle.async_walk.specs.declared.state.WalkStep.TheVariants as walks
use Rattle.periodic_walk.specs.Walk.{Walk as FrameWalk, is_over}
use Rattle.hc_core.specs.declared.controller.HcStep.TheVariants as steps
use Rattle.hc_core.specs.declared.controller.MicroframePart.{MicroframePart}
use Rattle.hc_core.specs.declared.controller.MicroframePart.TheVariants.{Over, Periodic, Asynchronous}
use Rattle.hc_core.specs.declared.controller.ControllerRow.{ControllerRow}
use Rattle.hc_core.specs.declared.controller.ControllerRow.TheVariants as rows
use Rattle.hc_core.specs.Controller.{Content, part_row, enter_row, ring_row, hc_step, kind_of, frame_step, walk_step, entered}
use Rattle.bus_world.specs.World.{World, controller_parts, controller_row, kind_next}

step_works : (k : WalkStep) → hc_step k ≢ steps.Idle
step_works walks.Fetch same = cc
step_works _ same = cc

kind_works : (row : ControllerRow) (c : Content) → row ≢ rows.Idle → kind_of row c ≢ steps.Idle
kind_works rows.Idle c busy same = busy refl
kind_works rows.Frame c busy same = step_works (frame_step c) same
kind_works rows.Enter c busy same = step_works (walk_step (entered c)) same
kind_works rows.Go c busy same = step_works (walk_step c) same
kind_works _ c busy same = cc

enters : (b : Bool) → enter_row b ≢ rows.Idle
enters true same = cc
enters false same = cc

frames_or_enters : (a b : Bool) → (if a then rows.Frame else enter_row b) ≢ rows.Idle
frames_or_enters true b same = cc
frames_or_enters false b same = enters b same

goes_or_ends : (b : Bool) → ring_row b ≢ rows.Idle
goes_or_ends true same = cc
goes_or_ends false same = cc

part_works : (r : RegisterFile) (frame : FrameWalk) (part : MicroframePart) → part_row r frame part ≢ rows.Idle
part_works r frame Over same = cc
part_works r frame Periodic same = frames_or_enters (r.periodic_enable && not (is_over frame)) r.async_enable same
part_works r frame Asynchronous same = goes_or_ends r.async_enable same

pub works : (w : World) → w.registers.run ≡ true → kind_next w ≢ steps.Idle
works w run =
    let row : controller_row w ≡ part_row w.registers w.control.frame w.control.part =
    ap (λ (b : Bool). if b then part_row w.registers w.control.frame w.control.part else rows.Idle) run in
    kind_works (controller_row w) (controller_parts w) (λ idle. part_works w.registers w.control.frame w.control.part (sym row ∙ idle))
