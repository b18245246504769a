use Rattle.law_microframes.proofs.lemmas.time.DataMoments.{scripts_send_data}
use Rattle.law_microframes.proofs.time.data_queues.scripts_send_data.Goals as goal

pub returns : goal.returns
returns c = scripts_send_data
