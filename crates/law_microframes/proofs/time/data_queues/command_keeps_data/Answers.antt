use Rattle.law_microframes.proofs.lemmas.time.DataCommands.{command_keeps_data}
use Rattle.law_microframes.proofs.time.data_queues.command_keeps_data.Goals as goal

pub returns : goal.returns
returns c = command_keeps_data
