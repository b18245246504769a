use Rattle.law_microframes.proofs.lemmas.translators.LastCompletes.{last_completes_are_late}
use Rattle.law_microframes.proofs.lemmas.translators.ToldByLast.{texts_tell_by_last}
use Rattle.law_microframes.proofs.translators.texts.answers_are_there_for_the_last_complete.Goals as goal

pub returns-clause-late : goal.returns-clause-late
returns-clause-late c = last_completes_are_late

pub returns-clause-told : goal.returns-clause-told
returns-clause-told c = texts_tell_by_last
