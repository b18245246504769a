use Rattle.drv_search.proofs.SameWords.{found_words}
use Rattle.drv_search.proofs.laws.search_is_the_words.Goals as goal

pub returns : goal.returns
returns c = found_words
