use Rattle.law_reports.proofs.lemmas.answers.Texts.{texts_tell_for_reasons}
use Rattle.law_reports.proofs.answers.texts_tell_for_reasons.Goals as goal

pub returns : goal.returns
returns c = texts_tell_for_reasons
