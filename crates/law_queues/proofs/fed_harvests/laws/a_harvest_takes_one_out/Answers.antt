use Rattle.law_queues.proofs.lemmas.fed_harvests.Harvests.{unstalled_stands, harvest_stands, wait_stands}
use Rattle.law_queues.proofs.fed_harvests.laws.a_harvest_takes_one_out.Goals as goal

pub returns-clause-unstalled : goal.returns-clause-unstalled
returns-clause-unstalled c = unstalled_stands

pub returns-clause-done : goal.returns-clause-done
returns-clause-done c = harvest_stands

pub returns-clause-waits : goal.returns-clause-waits
returns-clause-waits c = wait_stands
