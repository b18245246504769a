use Rattle.law_reports.proofs.lemmas.pipes.lemmas.high_streams.Names.{texts_have_names}
use Rattle.law_reports.proofs.pipes.reports.texts_have_names.Goals as goal

pub returns : goal.returns
returns c = texts_have_names
