use Rattle.law_frame_list.proofs.lemmas.list_opens.Commands.{commands_keep_it_standing}
use Rattle.law_frame_list.proofs.list_opens.laws.commands_keep_it_standing.Goals as goal

pub returns : goal.returns
returns c = commands_keep_it_standing
