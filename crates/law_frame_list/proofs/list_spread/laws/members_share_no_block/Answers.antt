use Rattle.law_frame_list.proofs.lemmas.list_spread.Spreading.{members_share_no_block}
use Rattle.law_frame_list.proofs.list_spread.laws.members_share_no_block.Goals as goal

pub returns : goal.returns
returns c = members_share_no_block
