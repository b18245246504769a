use Rattle.law_frame_list.proofs.lemmas.list_closed.Structures.{links_tell_structures}
use Rattle.law_frame_list.proofs.list_closed.laws.links_tell_structures.Goals as goal

pub returns : goal.returns
returns c = links_tell_structures
