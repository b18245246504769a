use Rattle.law_reports.proofs.lemmas.quiet.AwaitedLines.{texts_are_awaited}
use Rattle.law_reports.proofs.quiet.texts_are_awaited.Goals as goal

pub returns : goal.returns
returns c = texts_are_awaited
