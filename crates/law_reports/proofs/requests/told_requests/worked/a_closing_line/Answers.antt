use Rattle.law_reports.proofs.lemmas.requests.lemmas.told_requests.Sampled.{counts, none_acted}
use Rattle.law_reports.proofs.requests.told_requests.worked.a_closing_line.Goals as goal

pub returns-clause-premises : goal.returns-clause-premises
returns-clause-premises c = counts

pub returns-clause-none : goal.returns-clause-none
returns-clause-none c = none_acted
