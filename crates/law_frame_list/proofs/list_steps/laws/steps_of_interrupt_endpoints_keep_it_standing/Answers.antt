use Rattle.law_frame_list.proofs.lemmas.list_steps.Stepping.{steps_of_interrupt_endpoints_keep_it_standing}
use Rattle.law_frame_list.proofs.list_steps.laws.steps_of_interrupt_endpoints_keep_it_standing.Goals as goal

pub returns : goal.returns
returns c = steps_of_interrupt_endpoints_keep_it_standing
