use Rattle.law_reports.proofs.lemmas.due_at_begin.ResultDue.{texts_take_results}
use Rattle.law_reports.proofs.due_at_begin.splits.texts_take_results.Goals as goal

pub returns : goal.returns
returns c = texts_take_results
