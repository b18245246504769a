use Rattle.law_reports.proofs.lemmas.quiet.Heards.{texts_are_heard}
use Rattle.law_reports.proofs.quiet.texts_are_heard.Goals as goal

pub returns : goal.returns
returns c = texts_are_heard
