use Rattle.law_reports.proofs.lemmas.requests.LeftWhole.{texts_tell_cancels}
use Rattle.law_reports.proofs.requests.cancel_line.texts_tell_cancels.Goals as goal

pub returns : goal.returns
returns c = texts_tell_cancels
