use Rattle.law_reports.proofs.lemmas.lines.SampleLines.{served_goes_on}
use Rattle.law_reports.proofs.lines.worked.a_served_descriptor_goes_on.Goals as goal

pub returns : goal.returns
returns c = served_goes_on
