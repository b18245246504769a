use Rattle.law_reports.proofs.lemmas.requests.lemmas.told_requests.Driver.{behind_are_told, stalled_are_told}
use Rattle.law_reports.proofs.requests.told_requests.laws.requests_behind_a_stalled_one_are_told.Goals as goal

pub returns-clause-some : goal.returns-clause-some
returns-clause-some c = behind_are_told

pub returns-clause-all : goal.returns-clause-all
returns-clause-all c = stalled_are_told
