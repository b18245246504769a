use Rattle.law_reports.proofs.lemmas.pipes.lemmas.below_hubs.BelowSampled.{scanner_unopened, hub_opened}
use Rattle.law_reports.proofs.pipes.below_worked.a_hub_is_unopened.Goals as goal

pub returns-clause-unopened : goal.returns-clause-unopened
returns-clause-unopened c = scanner_unopened

pub returns-clause-opened : goal.returns-clause-opened
returns-clause-opened c = hub_opened
