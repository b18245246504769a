use Rattle.law_reports.proofs.lemmas.due_at_begin.SplitDue.{texts_make_splits}
use Rattle.law_reports.proofs.due_at_begin.splits.texts_make_splits.Goals as goal

pub returns : goal.returns
returns c = texts_make_splits
