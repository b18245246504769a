use Rattle.law_reports.proofs.lemmas.requests.lemmas.below.Hubs.{texts_keep_hubs, texts_spare_hubs}
use Rattle.law_reports.proofs.requests.below.its_hub_is_spared.Goals as goal

pub returns : goal.returns
returns c = record { there = texts_keep_hubs; spared = texts_spare_hubs }
