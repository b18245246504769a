use Rattle.std.proofs.Common.{ap, ◌∙◌}
use Rattle.drv_jobs.specs.Jobs.{job_row}
use Rattle.app_trace.specs.Watched.{Watched, work_of}
use Rattle.app_trace.proofs.host.Host.next_row.Goals as goal

pub returns : goal.returns
returns c = c.row.ensures ∙ ap (λ (m : Watched). job_row (work_of m)) c.self.view_is
