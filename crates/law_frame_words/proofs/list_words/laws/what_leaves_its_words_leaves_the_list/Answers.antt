use Rattle.law_frame_words.proofs.lemmas.list_words.Sparing.{what_leaves_its_words_leaves_the_list}
use Rattle.law_frame_words.proofs.list_words.laws.what_leaves_its_words_leaves_the_list.Goals as goal

pub returns : goal.returns
returns c = what_leaves_its_words_leaves_the_list
