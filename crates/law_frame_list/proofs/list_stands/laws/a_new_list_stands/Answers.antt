use Rattle.law_frame_list.proofs.lemmas.list_stands.Listing.{a_new_list_stands}
use Rattle.law_frame_list.proofs.list_stands.laws.a_new_list_stands.Goals as goal

pub returns : goal.returns
returns c = a_new_list_stands
