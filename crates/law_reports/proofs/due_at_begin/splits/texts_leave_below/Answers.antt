use Rattle.law_reports.proofs.lemmas.due_at_begin.BelowStays.{texts_leave_below}
use Rattle.law_reports.proofs.due_at_begin.splits.texts_leave_below.Goals as goal

pub returns : goal.returns
returns c = texts_leave_below
