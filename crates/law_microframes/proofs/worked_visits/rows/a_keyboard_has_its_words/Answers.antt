use Rattle.law_microframes.proofs.lemmas.worked_visits.Sampled.{a_head, another_word}
use Rattle.law_microframes.proofs.worked_visits.rows.a_keyboard_has_its_words.Goals as goal

pub returns-clause-characteristics : goal.returns-clause-characteristics
returns-clause-characteristics c = a_head.0

pub returns-clause-capabilities : goal.returns-clause-capabilities
returns-clause-capabilities c = a_head.1

pub returns-clause-without : goal.returns-clause-without
returns-clause-without c = another_word
