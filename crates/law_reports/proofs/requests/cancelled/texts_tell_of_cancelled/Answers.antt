use Rattle.law_reports.proofs.lemmas.requests.CancelledMoments.{texts_tell_of_cancelled}
use Rattle.law_reports.proofs.requests.cancelled.texts_tell_of_cancelled.Goals as goal

pub returns : goal.returns
returns c = texts_tell_of_cancelled
