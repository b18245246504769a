use Rattle.law_reports.proofs.lemmas.answers.Texts.{texts_are_heard}
use Rattle.law_reports.proofs.answers.texts_are_heard.Goals as goal

pub returns : goal.returns
returns c = texts_are_heard
