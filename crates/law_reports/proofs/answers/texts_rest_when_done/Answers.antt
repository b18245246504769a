use Rattle.law_reports.proofs.lemmas.answers.Texts.{texts_rest_when_done}
use Rattle.law_reports.proofs.answers.texts_rest_when_done.Goals as goal

pub returns : goal.returns
returns c = texts_rest_when_done
