use Rattle.law_microframes.proofs.lemmas.time.DataHeads.{mixed_worlds_read_data, scripts_read_data}
use Rattle.law_microframes.proofs.time.data_queues.each_moment_reads_data.Goals as goal

pub returns : goal.returns
returns c = record { mixed = mixed_worlds_read_data; scripts = scripts_read_data }
