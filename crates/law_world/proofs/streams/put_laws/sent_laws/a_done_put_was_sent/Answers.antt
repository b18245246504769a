use Rattle.law_world.proofs.lemmas.streams.lemmas.put_laws.SentReading.{puts_move_all, puts_leave_none, done_is_told, puts_are_told}
use Rattle.law_world.proofs.streams.put_laws.sent_laws.a_done_put_was_sent.Goals as goal

pub returns : goal.returns
returns c = record { read = puts_move_all; none = puts_leave_none; done = done_is_told; told = puts_are_told }
