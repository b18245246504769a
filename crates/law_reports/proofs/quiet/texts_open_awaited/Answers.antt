use Rattle.law_reports.proofs.lemmas.quiet.AwaitedOpens.{texts_open_awaited}
use Rattle.law_reports.proofs.lemmas.quiet.HubsDeclared.{texts_have_hubs}
use Rattle.law_reports.proofs.quiet.texts_open_awaited.Goals as goal

pub returns : goal.returns
returns c text s spelled = texts_open_awaited text s spelled (texts_have_hubs text s spelled)
