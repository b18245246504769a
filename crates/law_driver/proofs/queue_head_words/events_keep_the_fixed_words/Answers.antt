use Rattle.law_driver.proofs.lemmas.queue_head_words.Events.{events_keep_the_fixed_words}
use Rattle.law_driver.proofs.queue_head_words.events_keep_the_fixed_words.Goals as goal

pub returns : goal.returns
returns c = events_keep_the_fixed_words
