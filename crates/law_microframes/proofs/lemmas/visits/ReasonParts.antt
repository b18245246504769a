-- In which part of a microframe each event of the controller is.
use Rattle.std.proofs.Common.{◌≡◌, ℕ, Bool, true, false, not, ◌&&◌, if◌then◌else◌, Result, Ok, Err, refl}
use Rattle.usb_base.specs.declared.commands.Cmd.{Cmd}
use Rattle.usb_base.specs.declared.endpoints.EpName.{EpName}
use Rattle.usb_base.specs.declared.reports.OfferError.{OfferError}
use Rattle.op_registers.specs.RegisterFile.{RegisterFile}
use Rattle.periodic_walk.specs.Walk.{Walk as FrameWalk, is_over}
use Rattle.hc_core.specs.declared.controller.MicroframePart.{MicroframePart}
use Rattle.hc_core.specs.declared.controller.MicroframePart.TheVariants.{Over, Periodic, Asynchronous}
use Rattle.hc_core.specs.declared.controller.ControllerRow.{ControllerRow}
use Rattle.hc_core.specs.declared.controller.ControllerRow.TheVariants as rows
use Rattle.hc_core.specs.Controller.{Content, enter_row, ring_row, part_row, begun_at}
use Rattle.drv_table.specs.Accepting.{Offered}
use Rattle.drv_table.specs.Offers.{offered}
use Rattle.bus_world.specs.World.{World, controller_row, name_in, commanded, commanded_by}

abbrev pub InPart : ControllerRow → MicroframePart → Type 0
InPart rows.Idle part = Unit {0}
InPart rows.Begin part = part ≡ Over
InPart rows.Frame part = part ≡ Periodic
InPart rows.Enter part = part ≡ Periodic
InPart rows.Go part = part ≡ Asynchronous
InPart rows.End part = Unit {0}

entering : (b : Bool) → InPart (enter_row b) Periodic
entering true = refl
entering false = tt

in_periodic : (a b : Bool) → InPart (if a then rows.Frame else enter_row b) Periodic
in_periodic true b = refl
in_periodic false b = entering b

in_ring : (b : Bool) → InPart (ring_row b) Asynchronous
in_ring true = refl
in_ring false = tt

in_part : (r : RegisterFile) (frame : FrameWalk) (part : MicroframePart) → InPart (part_row r frame part) part
in_part r frame Over = refl
in_part r frame Periodic = in_periodic (r.periodic_enable && not (is_over frame)) r.async_enable
in_part r frame Asynchronous = in_ring r.async_enable

where_running : (b : Bool) (r : RegisterFile) (frame : FrameWalk) (part : MicroframePart) → InPart (if b then part_row r frame part else rows.Idle) part
where_running true r frame part = in_part r frame part
where_running false r frame part = tt

pub row_in : (w : World) → InPart (controller_row w) w.control.part
row_in w = where_running w.registers.run w.registers w.control.frame w.control.part

-- ---- a command leaves the controller and the bus

pub answered_control : (w : World) (n : ℕ) (name : EpName) (r : Result Offered OfferError) → (commanded_by w n name r).control ≡ w.control
answered_control w n name (Ok o) = refl
answered_control w n name (Err why) = refl

pub command_control : (w : World) (n : ℕ) (cmd : Cmd) → (commanded w n cmd).control ≡ w.control
command_control w n cmd = answered_control w n (name_in cmd) (offered w.driver w.memory cmd)

answered_bus : (w : World) (n : ℕ) (name : EpName) (r : Result Offered OfferError) → (commanded_by w n name r).bus ≡ w.bus
answered_bus w n name (Ok o) = refl
answered_bus w n name (Err why) = refl

pub command_bus : (w : World) (n : ℕ) (cmd : Cmd) → (commanded w n cmd).bus ≡ w.bus
command_bus w n cmd = answered_bus w n (name_in cmd) (offered w.driver w.memory cmd)

-- ---- a microframe begins, whether the element of the frame list may be read or not

pub begun_walk : (b allowed : Bool) (c : Content) → (begun_at b allowed c).control.walk ≡ c.control.walk
begun_walk true allowed c = refl
begun_walk false allowed c = refl
