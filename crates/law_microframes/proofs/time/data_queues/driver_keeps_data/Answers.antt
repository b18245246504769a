use Rattle.law_microframes.proofs.lemmas.time.DataDriven.{driver_keeps_data}
use Rattle.law_microframes.proofs.time.data_queues.driver_keeps_data.Goals as goal

pub returns : goal.returns
returns c = driver_keeps_data
