use Rattle.law_reports.proofs.lemmas.quiet.AwaitedLines.{texts_spare_buffered}
use Rattle.law_reports.proofs.quiet.texts_spare_buffered.Goals as goal

pub returns : goal.returns
returns c = texts_spare_buffered
