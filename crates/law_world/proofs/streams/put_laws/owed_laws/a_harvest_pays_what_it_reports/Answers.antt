use Rattle.law_world.proofs.lemmas.streams.lemmas.put_laws.Reported.{harvest_owes, wait_owes}
use Rattle.law_world.proofs.streams.put_laws.owed_laws.a_harvest_pays_what_it_reports.Goals as goal

pub returns-clause-done : goal.returns-clause-done
returns-clause-done c = harvest_owes

pub returns-clause-active : goal.returns-clause-active
returns-clause-active c = wait_owes
