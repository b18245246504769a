use Rattle.law_reports.proofs.lemmas.quiet.Heards.{controller_heard, driver_heard}
use Rattle.law_reports.proofs.quiet.an_event_stays_heard.Goals as goal

pub returns-clause-controller : goal.returns-clause-controller
returns-clause-controller c = controller_heard

pub returns-clause-driver : goal.returns-clause-driver
returns-clause-driver c = driver_heard
