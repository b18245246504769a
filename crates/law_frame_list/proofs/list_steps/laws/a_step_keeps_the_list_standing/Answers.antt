use Rattle.law_frame_list.proofs.lemmas.list_steps.Stepping.{a_step_keeps_the_list_standing}
use Rattle.law_frame_list.proofs.list_steps.laws.a_step_keeps_the_list_standing.Goals as goal

pub returns : goal.returns
returns c = a_step_keeps_the_list_standing
