use Rattle.law_controller.proofs.lemmas.frame_stores.Sampled.{ended_in_hand, ended_before}
use Rattle.law_controller.proofs.frame_stores.worked.a_chain_of_two_is_ended.Goals as goal

pub returns : goal.returns
returns c = record { in_hand = ended_in_hand; before = ended_before }
