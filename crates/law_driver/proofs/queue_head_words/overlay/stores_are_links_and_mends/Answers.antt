use Rattle.law_driver.proofs.lemmas.queue_head_words.Stored.{stores_are_links_and_mends}
use Rattle.law_driver.proofs.queue_head_words.overlay.stores_are_links_and_mends.Goals as goal

pub returns : goal.returns
returns c = stores_are_links_and_mends
