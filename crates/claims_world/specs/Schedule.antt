-- At each moment of a script's run each frame of the driver's list has the queue heads of the interrupt endpoints that are due in it and
-- not cancelled, each once, and of each isochronous endpoint at most one descriptor that waits (EHCI 1.0, 4.6 and 4.7; USB 2.0, 5.11.3). A
-- cancelled endpoint stays placed until it is given back, though no frame need have its queue head.
--     IsOnSchedule d f            frame f of the list has queue heads of placed interrupt endpoints that are due in it, none twice, no
--                                 others, and of each that isn't cancelled; each of its descriptors that waits is of an isochronous
--                                 endpoint that is due in it, and no two of one; and all that is placed fits
--     KeepsScheduleThroughout s   so it is for each frame at each moment of the run of a script
use Rattle.std.specs.Prelude.{ℕ}
use Rattle.script_types.specs.declared.scripts.Script.{Script}
use Rattle.bandwidth.specs.Sums.{Fits}
use Rattle.drv_table.specs.DriverContent.{DriverContent}
use Rattle.bus_world.specs.Budgets.{moment}
use Rattle.claims_driver.specs.DueMembers.{AreDue, AreDueDescriptors, HasAllDue, HasOneEach}

pub record IsOnSchedule (d : DriverContent) (f : ℕ) : Type 0 where
  pub queues : AreDue d f
  pub all : HasAllDue d f
  pub descriptors : AreDueDescriptors d f
  pub one : HasOneEach d
  pub fits : Fits d.periodic.plan.placed

abbrev pub KeepsScheduleThroughout : Script → Type 0
KeepsScheduleThroughout s = (k f : ℕ) → IsOnSchedule (moment s k).world.driver f
