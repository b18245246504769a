-- The walk of the frames comes to the queue head of each interrupt endpoint in its frames (EHCI 1.0, 4.4, 4.6 and 4.7; USB 2.0, 5.7.4).
--     IsInItsFrames d e q p   endpoint e of the driver, an interrupt endpoint with its queue head in block q, is in the frame list with the
--                             placement p, and no store is under way that links or unlinks its queue head
--     ComesToEach s           at each moment of the run of a script at which the walk of the frames is over: it came, in some world of
--                             the microframe, to the queue head of each interrupt endpoint that was in the frame list as the microframe
--                             began, is in it now, and has this frame
use Rattle.std.specs.Prelude.{◌≡◌, ◌≢◌, ℕ, ◌*◌, true, slice_get, Some}
use Rattle.usb_base.specs.declared.packets.EpKind.TheVariants.{Interrupt}
use Rattle.script_types.specs.declared.scripts.Script.{Script}
use Rattle.bandwidth.specs.declared.placements.Placement.{Placement}
use Rattle.bandwidth.specs.Sums.{is_active}
use Rattle.drv_periodic.specs.declared.work.Work.{Work}
use Rattle.drv_periodic_table.specs.Periodic.{queue_member}
use Rattle.drv_table.specs.declared.content.Endpoint.{Endpoint}
use Rattle.drv_table.specs.DriverContent.{DriverContent}
use Rattle.bus_world.specs.Budgets.{moment}
use Rattle.bus_world.specs.World.{World}
use Rattle.claims_world.specs.Visits.{IsPastFrames, began, frame_in}
use Rattle.claims_world.specs.SoFar.{so_far, HasFound}

pub record IsInItsFrames (d : DriverContent) (e q : ℕ) (p : Placement) : Type 0 where
  pub endpoint : Endpoint
  pub here : slice_get d.endpoints e ≡ Some endpoint
  pub chained : endpoint.chained ≡ true
  pub kind : endpoint.desc.kind ≡ Interrupt
  pub queue : endpoint.queue ≡ q
  pub placed : endpoint.placement ≡ Some p
  pub idle : (v : Work) → d.periodic.list.work ≡ Some v → v.member ≢ queue_member q p

abbrev pub ComesToEach : Script → Type 0
ComesToEach s = (k e q : ℕ) (p : Placement) → IsPastFrames (moment s k).world → IsInItsFrames (began s k).driver e q p
    → IsInItsFrames (moment s k).world.driver e q p → is_active p (frame_in (moment s k).world.control.frame.index) ≡ true
    → (o : World) × HasFound (32 * q) o (so_far s k).found
