-- What holds of a world at each moment, beside its content's own form: the driver's runs stand in memory, the bytes of each line of the
-- report among those of all lines, no device took more bytes than it has room for, and what is placed keeps its budgets.
use Rattle.std.specs.Prelude.{ℕ, ◌+◌, ◌≤◌, length, Option, Some}
use Rattle.std.specs.List.{AllByRecursion}
use Rattle.report_text.specs.ReportText.{AreStored}
use Rattle.endpoint_script.specs.declared.endpoint.Endpoint.{Endpoint}
use Rattle.endpoint_script.specs.declared.endpoint.Role.{Role}
use Rattle.endpoint_script.specs.declared.endpoint.Role.TheVariants.{Sends, Takes, Controls, Streams, Hears}
use Rattle.endpoint_script.specs.Device.{Device}
use Rattle.word_mem.specs.Memory.{Mem}
use Rattle.mem_runs.specs.Book.{holding, Stands}
use Rattle.drv_table.specs.DriverContent.{DriverContent}
use Rattle.bus_wire.specs.Bus.{Bus}
use Rattle.drv_jobs.specs.declared.jobs.Job.{Job}
use Rattle.drv_jobs.specs.declared.jobs.Job.TheVariants as jobs
use Rattle.drv_jobs.specs.AtWork.{DriverAtWork, owed_lines}
use Rattle.law_admission.specs.Budgets.{account_of, KeepsBudgets}

abbrev pub IsRoomy : Role → Type 0
IsRoomy (Sends s) = Unit {0}
IsRoomy (Takes t) = (length t.taken ≤ t.room) × (t.room ≤ 4294967295)
IsRoomy (Controls c) = Unit {0}
IsRoomy (Streams s) = Unit {0}
IsRoomy Hears = Unit {0}

abbrev pub IsRoomyEndpoint : Endpoint → Type 0
IsRoomyEndpoint e = IsRoomy e.part

pub record IsRoomyDevice (d : Device) : Type 0 where
  pub each : AllByRecursion IsRoomyEndpoint d.endpoints

pub record IsSound (d : DriverContent) (m : Mem) (b : Bus) : Type 0 where
  pub stands : Stands (holding d.book m)
  pub stored : AreStored d.reports (length d.store)
  pub roomy : AllByRecursion IsRoomyDevice b.devices
  pub budgets : KeepsBudgets (account_of d)

-- ---- with a job

-- the job's endpoint was reset, and its line isn't written yet
abbrev pub line_to_come : Option Job → ℕ
line_to_come (Some (jobs.Mends e word)) = 1
line_to_come (Some (jobs.Reopens e)) = 1
line_to_come _ = 0

-- so many resets were marked of so many that have room: each line that may still come may be one of a clear
pub record IsSoundAtWork (w : DriverAtWork) (m : Mem) (b : Bus) (marked capacity : ℕ) : Type 0 where
  pub sound : IsSound w.driver m b
  pub owed : owed_lines w.job ≤ w.driver.room.reports
  pub marks : marked + w.driver.room.reports ≤ capacity + line_to_come w.job
