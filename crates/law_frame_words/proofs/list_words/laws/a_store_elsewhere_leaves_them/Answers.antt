use Rattle.law_frame_words.proofs.lemmas.list_words.Sparing.{a_store_elsewhere_leaves_them}
use Rattle.law_frame_words.proofs.list_words.laws.a_store_elsewhere_leaves_them.Goals as goal

pub returns : goal.returns
returns c = a_store_elsewhere_leaves_them
