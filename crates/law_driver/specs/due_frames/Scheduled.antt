-- The frame list stands for the plan, at each moment of a run of a driver beside a controller (EHCI 1.0, 4.6; USB 2.0, 5.11.3).
--     IsScheduled m d      everything is in place, the list is in order, and the plan is what the endpoints have and keeps its budgets
--     StandsForPlan d f    the chain of frame f has queue heads of placed interrupt endpoints that are due in it, none twice, no others,
--                          and of each that is in its frames, as each is until it is cancelled; and all that is placed fits
--     StaysScheduled p moves f     so it is once these moves were made, if they may be made
use Rattle.std.specs.Prelude.{ℕ, List}
use Rattle.word_mem.specs.Memory.{Mem}
use Rattle.bandwidth.specs.Sums.{Fits}
use Rattle.drv_table.specs.DriverContent.{DriverContent}
use Rattle.drv_table.specs.Parts.{Parts}
use Rattle.law_admission.specs.Budgets.{KeepsBudgets, account_of}
use Rattle.law_driver.specs.planned_endpoints.Planned.{IsPlanned}
use Rattle.claims_driver.specs.DueMembers.{AreDue, HasAllDue}
use Rattle.law_driver.specs.ordered_list.Ordered.{IsOrdered}
use Rattle.law_driver.specs.in_place.InPlace.{IsInPlace}
use Rattle.law_driver.specs.in_place.Run.{Move, run, AreAllowed}

pub record IsScheduled (m : Mem) (d : DriverContent) : Type 0 where
  pub place : IsInPlace m d
  pub ordered : IsOrdered d
  pub planned : IsPlanned d
  pub budgets : KeepsBudgets (account_of d)

pub record StandsForPlan (d : DriverContent) (f : ℕ) : Type 0 where
  pub due : AreDue d f
  pub all : HasAllDue d f
  pub fits : Fits d.periodic.plan.placed

abbrev pub StaysScheduled : Parts → List Move → ℕ → Type 0
StaysScheduled p moves f = AreAllowed p moves → StandsForPlan (run p moves).driver f
