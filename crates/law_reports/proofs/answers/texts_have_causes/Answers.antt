use Rattle.law_reports.proofs.lemmas.answers.Texts.{texts_have_causes}
use Rattle.law_reports.proofs.answers.texts_have_causes.Goals as goal

pub returns : goal.returns
returns c = texts_have_causes
