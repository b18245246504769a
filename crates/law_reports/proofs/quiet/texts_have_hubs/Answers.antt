use Rattle.law_reports.proofs.lemmas.quiet.HubsDeclared.{texts_have_hubs}
use Rattle.law_reports.proofs.quiet.texts_have_hubs.Goals as goal

pub returns : goal.returns
returns c = texts_have_hubs
