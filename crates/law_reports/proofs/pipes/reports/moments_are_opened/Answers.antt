use Rattle.law_reports.proofs.lemmas.pipes.lemmas.high_streams.Opened.{moments_are_opened}
use Rattle.law_reports.proofs.pipes.reports.moments_are_opened.Goals as goal

pub returns : goal.returns
returns c = moments_are_opened
