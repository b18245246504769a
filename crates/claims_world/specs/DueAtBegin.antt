-- What is due of a high-speed interrupt endpoint as its microframe begins is done in it (EHCI 1.0, 3.6.2, 4.4, 4.6, 4.7 and 4.10; USB 2.0,
-- 5.7.4 and 8.6): whatever the walk of the frames comes to before, and whatever the driver has on meanwhile.
--     begun s k                  the world as the Begin of the microframe left it; before the first Begin nothing is open
--     IsDueAtBegin fixed b e q   a transaction of the interrupt endpoint e, whose queue head begins in block q, is due in the microframe
--                                that has just begun in the world b: its placement has the frame, its S-mask the microframe, the bus may be
--                                used, and it has a transfer, for which its device is ready; from then on none of the next three packets of
--                                the endpoint is lost
--     IsUncancelled d e          no cancel of endpoint e was accepted
--     DueAtBeginIsDone s         at each moment of the run of a script at which the walk of the frames is over: what was due as the
--                                microframe began moved its packet in it and was written back, unless the endpoint was cancelled since,
--                                where no more than 4 microseconds went for complete-splits that were made again
use Rattle.std.specs.Prelude.{◌≡◌, ℕ, ◌*◌, ◌≤◌, true, false, slice_get, Some}
use Rattle.script_types.specs.declared.scripts.Script.{Script}
use Rattle.bandwidth.specs.Sums.{is_active}
use Rattle.drv_table.specs.declared.content.Endpoint.{Endpoint}
use Rattle.drv_table.specs.DriverContent.{DriverContent}
use Rattle.bus_wire.specs.Bus.{Fixed, fixed_of}
use Rattle.bus_world.specs.Budgets.{moment}
use Rattle.bus_world.specs.World.{World, controller_next}
use Rattle.claims_world.specs.Due.{bytes_moved, IsDueNow}
use Rattle.claims_world.specs.SoFar.{so_far, HasMoved}
use Rattle.claims_world.specs.Visits.{IsPastFrames, began, frame_in}
use Rattle.claims_world.specs.WithinLoad.{repeats}

abbrev pub begun : Script → ℕ → World
begun s k = controller_next (fixed_of s) (began s k)

pub record IsDueAtBegin (fixed : Fixed) (b : World) (e q : ℕ) : Type 0 where
  pub due : IsDueNow fixed b e q
  pub active : is_active due.placement (frame_in b.control.frame.index) ≡ true

abbrev pub IsUncancelled : DriverContent → ℕ → Type 0
IsUncancelled d e = (x : Endpoint) → slice_get d.endpoints e ≡ Some x → x.cancelled ≡ false

abbrev pub DueAtBeginIsDone : Script → Type 0
DueAtBeginIsDone s = (k e q : ℕ) → IsPastFrames (moment s k).world → repeats s k ≤ 4000000 → (d : IsDueAtBegin (fixed_of s) (begun s k) e q)
    → IsUncancelled (moment s k).world.driver e → HasMoved (32 * q) (bytes_moved d.due.transfer.ready.answers) (so_far s k).moved
