use Rattle.law_reports.proofs.lemmas.quiet.SparedSampled.{lines_leave_buffers}
use Rattle.law_reports.proofs.quiet.lines_may_leave_buffers.Goals as goal

pub returns : goal.returns
returns c = lines_leave_buffers
