use Rattle.law_reports.proofs.lemmas.pipes.lemmas.below_hubs.FreshStarts.{texts_find_none_told}
use Rattle.law_reports.proofs.pipes.below_hubs.no_start_finds_what_was_told.Goals as goal

pub returns : goal.returns
returns c = texts_find_none_told
