-- One event of the driver with its job (EHCI 1.0, 4.8 to 4.10; USB 2.0, 9.4.5). Which row an event is, `job_row` tells, and what stands
-- after it, `after_job_row`: with no job these are the driver's own.
--     job_row p                the row: the next event of an unfinished command; else that of the job
--     after_job_row row p      what stands after it
--     step_of_job row          what kind of event it is
use Rattle.std.specs.Prelude.{ℕ, ◌==◌, slice_get, Option, Some, None, if◌then◌else◌}
use Rattle.usb_base.specs.declared.reports.What.{What}
use Rattle.usb_base.specs.declared.reports.What.TheVariants as lines
use Rattle.mem_runs.specs.Book.{store}
use Rattle.drv_chains.specs.declared.boundary.Boundary.{Boundary}
use Rattle.drv_chains.specs.Boundary.{after_reading, is_seen}
use Rattle.drv_periodic_table.specs.Periodic.{read_again}
use Rattle.drv_table.specs.declared.content.Endpoint.{Endpoint}
use Rattle.drv_table.specs.declared.content.Mend.{Mend}
use Rattle.drv_table.specs.declared.content.Transfer.{Transfer}
use Rattle.drv_table.specs.declared.rows.DriverRow.{DriverRow}
use Rattle.drv_table.specs.declared.rows.DriverRow.TheVariants.{Harvest, Rest}
use Rattle.drv_table.specs.declared.rows.Found.TheVariants.{Ended}
use Rattle.drv_table.specs.declared.rows.DriverStep.{DriverStep}
use Rattle.drv_table.specs.declared.rows.DriverStep.TheVariants as steps
use Rattle.drv_table.specs.DriverContent.{busy, waits_for}
use Rattle.drv_table.specs.Parts.{Parts}
use Rattle.drv_table.specs.Rows.{driver_row, after_driver_row, step_of}
use Rattle.drv_jobs.specs.declared.jobs.Job.{Job}
use Rattle.drv_jobs.specs.declared.jobs.Job.TheVariants as jobs
use Rattle.drv_jobs.specs.declared.jobs.JobRow.{JobRow}
use Rattle.drv_jobs.specs.declared.jobs.JobRow.TheVariants as rows
use Rattle.drv_jobs.specs.declared.jobs.OverlayWord.TheVariants as words
use Rattle.drv_jobs.specs.AtWork.{PartsAtWork}
use Rattle.drv_jobs.specs.Clearing.{mend_of, reopened}
use Rattle.drv_jobs.specs.HubRequests.{request_done, request_failed, cause_of}

-- ---- which row it is

-- a row of an endpoint, if there is one
abbrev pub row_of : Option Endpoint → (Endpoint → JobRow) → JobRow
row_of None row = rows.Plain Rest
row_of (Some x) row = row x

-- while the hub's request isn't harvested, the driver's own work goes on; its end is the job's
abbrev pub parted : ℕ → DriverRow → JobRow
parted t (Harvest h u (Ended n what)) = if u == t then rows.EndsRequest h u n what else rows.Plain (Harvest h u (Ended n what))
parted t row = rows.Plain row

abbrev pub stage_row : Parts → Job → JobRow
stage_row p (jobs.Asks e t) = parted t (driver_row p)
stage_row p (jobs.Reads e boundary) = rows.ReadsFrame p.registers.frame_index
stage_row p (jobs.Resets e) = row_of (slice_get p.driver.endpoints e) (λ x. rows.Resets x.desc.name)
stage_row p (jobs.Mends e word) = row_of (slice_get p.driver.endpoints e) (λ x. rows.Mends (mend_of x word))
stage_row p (jobs.Reopens e) = row_of (slice_get p.driver.endpoints e) (λ x. rows.Reopens e)

-- an unfinished command comes before the job
abbrev pub row_for : Parts → Option Job → JobRow
row_for p None = rows.Plain (driver_row p)
row_for p (Some job) = if busy p.driver then rows.Plain (driver_row p) else stage_row p job

abbrev pub job_row : PartsAtWork → JobRow
job_row p = row_for p.parts p.job

-- ---- what stands after it

-- once two frame numbers were seen, the endpoint is reset
abbrev pub read_stage : ℕ → Boundary → Job
read_stage e boundary = if is_seen boundary then jobs.Resets e else jobs.Reads e boundary

-- the stage of a job behind this one, where nothing was read
abbrev pub next_stage : Job → Option Job
next_stage (jobs.Asks e t) = Some (jobs.Resets e)
next_stage (jobs.Reads e boundary) = Some (jobs.Reads e boundary)
next_stage (jobs.Resets e) = Some (jobs.Mends e words.Next)
next_stage (jobs.Mends e words.Next) = Some (jobs.Mends e words.Alternate)
next_stage (jobs.Mends e words.Alternate) = Some (jobs.Mends e words.Token)
next_stage (jobs.Mends e words.Token) = Some (jobs.Reopens e)
next_stage (jobs.Reopens e) = None

abbrev pub stage_after : Option Job → Option Job
stage_after None = None
stage_after (Some job) = next_stage job

-- .. where FRINDEX was read
abbrev pub stage_read : ℕ → Option Job → Option Job
stage_read n (Some (jobs.Reads e boundary)) = Some (read_stage e (after_reading n boundary))
stage_read n job = job

-- FRINDEX was read once more
abbrev pub frame_read : ℕ → Parts → Parts
frame_read n p =
    record p { driver = record p.driver { periodic = record p.driver.periodic { removals = read_again n p.driver.periodic.removals } } }

-- ---- the end of the hub's request

-- the job goes on with the reset, or there is none any more
abbrev pub request_ended : PartsAtWork → ℕ → ℕ → ℕ → ℕ → Endpoint → Transfer → What → PartsAtWork
request_ended p e h t n x y lines.Done =
    record { parts = record p.parts { driver = request_done p.parts.driver h t n x y }; job = Some (jobs.Resets e) }
request_ended p e h t n x y what =
    record { parts = record p.parts { driver = request_failed p.parts.driver e h t n x y (cause_of what) }; job = None }

abbrev pub ended_for : PartsAtWork → Option Job → ℕ → ℕ → ℕ → What → Option Endpoint → Option Transfer → PartsAtWork
ended_for p (Some (jobs.Asks e t)) h u n what (Some x) (Some y) = if waits_for h y then request_ended p e h u n x y what else p
ended_for p job h u n what x y = p

-- a word of a queue head was stored
abbrev pub mended : Parts → Mend → Parts
mended p w = record p { memory = store p.driver.book p.memory w.queue w.at w.value }

abbrev pub after_job_row : JobRow → PartsAtWork → PartsAtWork
after_job_row (rows.Plain row) p = record p { parts = after_driver_row row p.parts }
after_job_row (rows.EndsRequest h t n what) p =
    ended_for p p.job h t n what (slice_get p.parts.driver.endpoints h) (slice_get p.parts.driver.transfers t)
after_job_row (rows.ReadsFrame n) p = record { parts = frame_read n p.parts; job = stage_read n p.job }
after_job_row (rows.Resets name) p = record p { job = stage_after p.job }
after_job_row (rows.Mends w) p = record { parts = mended p.parts w; job = stage_after p.job }
after_job_row (rows.Reopens e) p = record { parts = reopened p.parts e (slice_get p.parts.driver.endpoints e); job = stage_after p.job }

abbrev pub step_of_job : JobRow → DriverStep
step_of_job (rows.Plain row) = step_of row
step_of_job (rows.EndsRequest h t n what) = steps.Harvest
step_of_job (rows.ReadsFrame n) = steps.Register
step_of_job (rows.Resets name) = steps.Reset name
step_of_job (rows.Mends w) = steps.Store
step_of_job (rows.Reopens e) = steps.Release
