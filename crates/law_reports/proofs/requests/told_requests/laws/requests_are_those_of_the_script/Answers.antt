use Rattle.law_reports.proofs.lemmas.requests.lemmas.told_requests.Moments.{moments_take_requests, moments_ask}
use Rattle.law_reports.proofs.requests.told_requests.laws.requests_are_those_of_the_script.Goals as goal

pub returns-clause-taken : goal.returns-clause-taken
returns-clause-taken c = moments_take_requests

pub returns-clause-asked : goal.returns-clause-asked
returns-clause-asked c = moments_ask
