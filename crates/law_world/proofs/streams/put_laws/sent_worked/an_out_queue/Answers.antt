use Rattle.law_world.proofs.lemmas.streams.lemmas.put_laws.SentSampling.{at_work, done_too, halted_too}
use Rattle.law_world.proofs.streams.put_laws.sent_worked.an_out_queue.Goals as goal

pub returns : goal.returns
returns c = record { work = at_work; done = done_too; halted = halted_too }
