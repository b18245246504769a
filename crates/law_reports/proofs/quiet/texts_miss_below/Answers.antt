use Rattle.law_reports.proofs.lemmas.quiet.Lines.{texts_miss_below}
use Rattle.law_reports.proofs.quiet.texts_miss_below.Goals as goal

pub returns : goal.returns
returns c = texts_miss_below
