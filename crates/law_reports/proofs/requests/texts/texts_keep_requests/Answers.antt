use Rattle.law_reports.proofs.lemmas.requests.Kept.{texts_keep_requests}
use Rattle.law_reports.proofs.requests.texts.texts_keep_requests.Goals as goal

pub returns : goal.returns
returns c = texts_keep_requests
