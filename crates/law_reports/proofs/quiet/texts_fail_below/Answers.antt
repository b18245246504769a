use Rattle.law_reports.proofs.lemmas.quiet.Lines.{texts_fail_below}
use Rattle.law_reports.proofs.quiet.texts_fail_below.Goals as goal

pub returns : goal.returns
returns c = texts_fail_below
