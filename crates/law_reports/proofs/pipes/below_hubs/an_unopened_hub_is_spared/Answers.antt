use Rattle.law_reports.proofs.lemmas.pipes.lemmas.below_hubs.DeafRuns.{unopened_hubs_are_spared}
use Rattle.law_reports.proofs.pipes.below_hubs.an_unopened_hub_is_spared.Goals as goal

pub returns : goal.returns
returns c = unopened_hubs_are_spared
