use Rattle.law_reports.proofs.lemmas.requests.lemmas.told_requests.Harvests.{harvest_goes_on, harvest_ends, harvest_stalls}
use Rattle.law_reports.proofs.requests.told_requests.laws.a_harvest_tells_of_requests.Goals as goal

pub returns-clause-goes_on : goal.returns-clause-goes_on
returns-clause-goes_on c = harvest_goes_on

pub returns-clause-ends : goal.returns-clause-ends
returns-clause-ends c = harvest_ends

pub returns-clause-stalls : goal.returns-clause-stalls
returns-clause-stalls c = harvest_stalls
