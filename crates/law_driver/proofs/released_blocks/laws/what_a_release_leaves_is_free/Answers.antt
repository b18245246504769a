use Rattle.law_driver.proofs.lemmas.released_blocks.Releasing.{what_a_release_leaves_is_free}
use Rattle.law_driver.proofs.released_blocks.laws.what_a_release_leaves_is_free.Goals as goal

pub returns : goal.returns
returns c = what_a_release_leaves_is_free
