use Rattle.law_reports.proofs.lemmas.lines.SampleLines.{cancel_ends}
use Rattle.law_reports.proofs.lines.worked.a_cancel_ends_it.Goals as goal

pub returns : goal.returns
returns c = cancel_ends
