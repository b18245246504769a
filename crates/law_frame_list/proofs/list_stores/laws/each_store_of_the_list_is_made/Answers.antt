use Rattle.law_frame_list.proofs.lemmas.list_stores.Making.{each_store_of_the_list_is_made}
use Rattle.law_frame_list.proofs.list_stores.laws.each_store_of_the_list_is_made.Goals as goal

pub returns : goal.returns
returns c = each_store_of_the_list_is_made
