-- The driver with its job: what it leaves with memory, parts of its events, and which of them can be made.
--     working w m         the driver with its job, and memory, as an accepted command leaves them
--     clear_answer d m name     the answer to the clear of the endpoint with this name, where no command or job is under way
--     begun_answer d m e x      the same of endpoint x, of number e, which has ended
--     after_work p        what stands after the next event
--     released_held p t x       transfer x, of number t, is given back
--     CanWork w row       the row can be made: an endpoint is opened again where its job is at that
--     IsAsking e job      the job is the clear of endpoint e, and waits for a hub
use Rattle.std.specs.Prelude.{◌≡◌, ℕ, Option, Some, Result, unwrap_or}
use Rattle.usb_base.specs.declared.endpoints.EpName.{EpName}
use Rattle.usb_base.specs.declared.reports.OfferError.{OfferError}
use Rattle.word_mem.specs.Memory.{Mem}
use Rattle.mem_runs.specs.Book.{holding}
use Rattle.drv_table.specs.declared.content.Endpoint.{Endpoint}
use Rattle.drv_table.specs.declared.content.Transfer.{Transfer}
use Rattle.drv_table.specs.DriverContent.{DriverContent, endpoint_of, endpoint_named}
use Rattle.drv_table.specs.Parts.{Parts}
use Rattle.drv_table.specs.Releases.{free_qtds}
use Rattle.drv_table.specs.Words.{is_high}
use Rattle.drv_jobs.specs.declared.jobs.Job.{Job}
use Rattle.drv_jobs.specs.declared.jobs.Job.TheVariants as jobs
use Rattle.drv_jobs.specs.declared.jobs.JobRow.{JobRow}
use Rattle.drv_jobs.specs.declared.jobs.JobRow.TheVariants as works
use Rattle.drv_jobs.specs.AtWork.{DriverAtWork, PartsAtWork}
use Rattle.drv_jobs.specs.Clearing.{released_with}
use Rattle.drv_jobs.specs.JobOffers.{OfferedAny, offered_clear, begun_by}
use Rattle.drv_jobs.specs.Jobs.{job_row, after_job_row}
use Rattle.ehci_driver.specs.Makes.{CanMake}

abbrev pub working : DriverAtWork → Mem → OfferedAny
working w m = record { driver = w; memory = m }

abbrev pub clear_answer : DriverContent → Mem → EpName → Result OfferedAny OfferError
clear_answer d m name = offered_clear d m (unwrap_or (endpoint_of d name) 0) (endpoint_named d name)

abbrev pub begun_answer : DriverContent → Mem → ℕ → Endpoint → Result OfferedAny OfferError
begun_answer d m e x = begun_by d m e x (is_high x.desc.speed) x.desc.kind

abbrev pub after_work : PartsAtWork → PartsAtWork
after_work p = after_job_row (job_row p) p

abbrev pub released_held : Parts → ℕ → Transfer → Parts
released_held p t x = released_with p t x (free_qtds p.driver.notes (holding p.driver.book p.memory) x.first x.qtds)

abbrev pub CanWork : DriverAtWork → JobRow → Type 0
CanWork w (works.Plain row) = CanMake w.driver row
CanWork w (works.Reopens e) = w.job ≡ Some (jobs.Reopens e)
CanWork w row = Unit {0}

abbrev pub IsAsking : ℕ → Option Job → Type 0
IsAsking e (Some (jobs.Asks x t)) = x ≡ e
IsAsking e job = ⊥
