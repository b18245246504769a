use Rattle.law_frame_list.proofs.lemmas.list_stands.Listing.{it_stands_where_its_words_are_left}
use Rattle.law_frame_list.proofs.list_stands.laws.it_stands_where_its_words_are_left.Goals as goal

pub returns : goal.returns
returns c = it_stands_where_its_words_are_left
