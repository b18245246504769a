use Rattle.law_driver.proofs.lemmas.queue_head_words.Opened.{opening_has_fixed_words}
use Rattle.law_driver.proofs.queue_head_words.opening_has_fixed_words.Goals as goal

pub returns : goal.returns
returns c = opening_has_fixed_words
