use Rattle.law_world.proofs.lemmas.streams.lemmas.sending_worlds.LeaveSampled.{going_sent, cancelled_sent, told_otherwise, took_another, took_more}
use Rattle.law_world.proofs.streams.sending_worlds.leave_worked.a_put_of_five_bytes.Goals as goal

pub returns : goal.returns
returns c = record { going = going_sent; cancelled = cancelled_sent; told = told_otherwise; taken = took_another; more = took_more }
