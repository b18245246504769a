use Rattle.law_microframes.proofs.lemmas.time.DataControlled.{new_queues_send_data, controller_keeps_data}
use Rattle.law_microframes.proofs.time.data_queues.the_controller_leaves_queues_of_data.Goals as goal

pub returns : goal.returns
returns c = record { new = new_queues_send_data; controller = controller_keeps_data }
