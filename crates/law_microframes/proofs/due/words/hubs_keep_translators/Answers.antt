use Rattle.law_microframes.proofs.lemmas.due.lemmas.repeats.Alike.{begins_keep_translators, asks_keep_translators}
use Rattle.law_microframes.proofs.due.words.hubs_keep_translators.Goals as goal

pub returns-clause-begins : goal.returns-clause-begins
returns-clause-begins c = begins_keep_translators

pub returns-clause-asks : goal.returns-clause-asks
returns-clause-asks c = asks_keep_translators
