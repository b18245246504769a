use Rattle.law_reports.proofs.lemmas.requests.lemmas.told_requests.Closing.{closing_tells_acted}
use Rattle.law_reports.proofs.requests.told_requests.laws.closing_tells_acted.Goals as goal

pub returns : goal.returns
returns c = closing_tells_acted
