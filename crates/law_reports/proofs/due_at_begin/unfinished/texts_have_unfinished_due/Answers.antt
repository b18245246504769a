use Rattle.law_reports.proofs.lemmas.due_at_begin.Unfinished.{texts_have_unfinished_due}
use Rattle.law_reports.proofs.due_at_begin.unfinished.texts_have_unfinished_due.Goals as goal

pub returns : goal.returns
returns c = texts_have_unfinished_due
