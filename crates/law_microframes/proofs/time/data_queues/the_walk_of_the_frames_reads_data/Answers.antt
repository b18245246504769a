use Rattle.law_microframes.proofs.lemmas.time.DataReads.{heads_send_data, copies_send_data, takes_send_data}
use Rattle.law_microframes.proofs.time.data_queues.the_walk_of_the_frames_reads_data.Goals as goal

pub returns : goal.returns
returns c = record { heads = heads_send_data; copies = copies_send_data; takes = takes_send_data }
