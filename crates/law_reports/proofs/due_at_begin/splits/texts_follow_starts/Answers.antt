use Rattle.law_reports.proofs.lemmas.due_at_begin.RestingMoments.{texts_follow_starts}
use Rattle.law_reports.proofs.due_at_begin.splits.texts_follow_starts.Goals as goal

pub returns : goal.returns
returns c = texts_follow_starts
