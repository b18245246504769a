use Rattle.law_reports.proofs.lemmas.pipes.lemmas.below_hubs.LastResults.{texts_have_results}
use Rattle.law_reports.proofs.pipes.below_hubs.the_last_complete_finds_the_result.Goals as goal

pub returns : goal.returns
returns c = texts_have_results
