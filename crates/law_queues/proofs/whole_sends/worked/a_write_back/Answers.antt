use Rattle.law_queues.proofs.lemmas.whole_sends.Sampled.{is_written_back, second_done, written_whole}
use Rattle.law_queues.proofs.whole_sends.worked.a_write_back.Goals as goal

pub returns : goal.returns
returns g c = record { event = is_written_back g.W.Wire.transacts; done = second_done; whole = written_whole }
