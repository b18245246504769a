use Rattle.law_reports.proofs.lemmas.pipes.lemmas.hub_setups.Sampled.{buffer_cleared}
use Rattle.law_reports.proofs.lemmas.requests.lemmas.below.Sampled.{is_behind_its_hub, is_behind_no_other, starts_spared}
use Rattle.law_reports.proofs.requests.below.a_scanner_is_behind_its_hub.Goals as goal

pub returns-clause-its : goal.returns-clause-its
returns-clause-its c = is_behind_its_hub

pub returns-clause-other : goal.returns-clause-other
returns-clause-other c = is_behind_no_other

pub returns-clause-clears : goal.returns-clause-clears
returns-clause-clears c = buffer_cleared

pub returns-clause-starts : goal.returns-clause-starts
returns-clause-starts c = starts_spared
