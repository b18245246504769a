-- A driver with the job that it is at.
--     DriverAtWork       its content and its job
--     PartsAtWork        what an event reads and changes, with the job
--     owed_lines job     how many lines of the report a job is still to write
--     free_room w        what of the reserve isn't used, nor to be used by the job
use Rattle.std.specs.Prelude.{ℕ, ◌-◌, Option, Some, None}
use Rattle.op_registers.specs.RegisterFile.{RegisterFile}
use Rattle.word_mem.specs.Memory.{Mem}
use Rattle.drv_table.specs.DriverContent.{DriverContent}
use Rattle.drv_table.specs.Parts.{Parts}
use Rattle.drv_table.specs.declared.content.Reserve.{Reserve}
use Rattle.drv_jobs.specs.declared.jobs.Job.{Job}

pub record DriverAtWork : Type 0 where
  pub driver : DriverContent
  pub job : Option Job

pub record PartsAtWork : Type 0 where
  pub parts : Parts
  pub job : Option Job

-- a driver, the registers and the words of memory
abbrev pub at_work : DriverAtWork → RegisterFile → Mem → PartsAtWork
at_work w r m = record { parts = record { driver = w.driver; registers = r; memory = m }; job = w.job }

abbrev pub owed_lines : Option Job → ℕ
owed_lines None = 0
owed_lines (Some job) = 1

abbrev pub free_room : DriverAtWork → Reserve
free_room w = record w.driver.room { reports = w.driver.room.reports - owed_lines w.job }
